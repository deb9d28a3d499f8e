-- A run of calls of `open`, `read`, `write` and `look` is a run of the definitions.
-- A contract is the whole equation, so a call gives what the definition gives; a run by induction. Assumes nothing.
use Prim.Native.Nat.{ℕ}
use mathlib.Core.List.{List, [], ◌∷◌}
use mathlib.Core.Path.{◌≡◌, refl, sym, ap, ap₂, ◌∙◌, subst}
use Rattle.chip.specs.declared.State.{State}
use Rattle.chip.specs.declared.Access.{Access}
use Rattle.chip.specs.declared.Answer.{Answer}
use Rattle.chip.specs.declared.Opened.{Opened}
use Rattle.chip.specs.declared.Kind.{Kind}
use Rattle.chip.specs.declared.Kind.TheVariants.{Read, Write, Look}
use Rattle.chip.specs.Access.{reads, writes, looks}
use Rattle.chip.specs.Parts as parts
use Rattle.chip.specs.Parts.{state_of, replied, wrote}
use Rattle.chip.specs.Step.{Outcome, Opening, Gives, Opens, open_of}
use Rattle.chip.specs.Trace.{World, opened, step, after, run}
use Rattle.chip.proofs.Operations.{is_no_write, read_writes_not, look_is, look_writes_not}
use Rattle.promises.specs.Looks.{answers_of}
use Rattle.promises.proofs.Promise9Looks.{word_unasked}
use Rattle.calls.specs.Calls.{ReadCalled, WriteCalled, LookCalled, LentReadCalled, LentWriteCalled, LentLookCalled, Called, of_read, of_write, of_look, of_lent_read, of_lent_write, of_lent_look, ValueOpenCalled, LentOpenCalled, OpenCalled, of_open, of_lent_open, Calls, none, more}

world_of : State → List ℕ → List ℕ → World
world_of s m p = record { state = s; memory = m; picture = p }

same_world : (s t : State) (m n p q : List ℕ) → s ≡ t → m ≡ n → p ≡ q → world_of s m p ≡ world_of t n q
same_world s t m n p q e f g = ap₂ (λ (x : State) (y : List ℕ). world_of x y p) e f ∙ ap (world_of t n) g

-- ---- what a call answers and leaves is what the definition gives, operation by operation

record Agrees (x : World) (a : Access) (r : Answer) (y : World) : Type 0 where
  answers : r ≡ (step x a).answer
  leaves : y ≡ after x a

-- the operation that an access of its kind is, with its numbers: a read and a look have no word
pub read_of : (x : World) (a : Access) → a.kind ≡ Read → step x (reads a.target a.offset a.enables) ≡ step x a
read_of x a k = word_unasked x a (reads a.target a.offset a.enables) (is_no_write a (read_writes_not a k)) (sym k) refl refl refl

pub look_of_lem : (x : World) (a : Access) → a.kind ≡ Look → step x (looks a.target a.offset a.enables) ≡ step x a
look_of_lem x a k = word_unasked x a (looks a.target a.offset a.enables) (is_no_write a (look_writes_not a (look_is a k))) (sym k) refl refl refl

pub write_of : (a : Access) → a.kind ≡ Write → writes a.target a.offset a.enables a.word ≡ a
write_of a k = ap (λ (q : Kind). (let b : Access = record { target = a.target; offset = a.offset; kind = q; enables = a.enables; word = a.word } in b)) (sym k)

-- numbers and a world handed in, and what they are equal to
same_three : {A : Type 0} (f : World → ℕ → ℕ → ℕ → A) (x x' : World) (t t' o o' e e' : ℕ) → x ≡ x' → t ≡ t' → o ≡ o' → e ≡ e' → f x t o e ≡ f x' t' o' e'
same_three f x x' t t' o o' e e' p q u v = ap₂ (λ (z : World) (k : ℕ). f z k o e) p q ∙ ap₂ (λ (k i : ℕ). f x' t' k i) u v

module _ (x : World) (a : Access) (r : Answer) (y : World) (c : ReadCalled x a r y) where
  handed_read : World
  handed_read = world_of c.args.0 c.args.1.1.1.1.0.now c.args.1.1.1.1.1.0.now

  read_gives : Gives (step x a) r c.args.1.1.1.1.0.now c.args.1.1.1.1.1.0.now
  unfolding world_of handed_read
  read_gives =
      let w : handed_read ≡ x = same_world _ _ _ _ _ _ c.state c.memory c.picture in
      let o : step handed_read (reads c.args.1.0 c.args.1.1.0 c.args.1.1.1.0) ≡ step x a =
      same_three (λ (z : World) (t o e : ℕ). step z (reads t o e)) _ _ _ _ _ _ _ _ w c.target c.offset c.enables ∙ read_of x a c.kind in
      subst (λ (q : Answer). Gives (step x a) q c.args.1.1.1.1.0.now c.args.1.1.1.1.1.0.now) c.answer
      (subst (λ (q : Outcome). Gives q c.result c.args.1.1.1.1.0.now c.args.1.1.1.1.1.0.now) o c.post)

  read_agrees : Agrees x a r y
  unfolding world_of
  read_agrees =
      record {
        answers = read_gives.answer;
        leaves =
            same_world y.state (step x a).answer.state y.memory (step x a).memory y.picture (step x a).picture
            (c.state_left ∙ ap (λ (q : Answer). q.state) read_gives.answer) (c.memory_left ∙ sym c.memory ∙ read_gives.memory)
            (c.picture_left ∙ sym c.picture ∙ read_gives.picture);
      }

module _ (x : World) (a : Access) (r : Answer) (y : World) (c : WriteCalled x a r y) where
  handed_write : World
  handed_write = world_of c.args.0 c.args.1.1.1.1.1.0.now c.args.1.1.1.1.1.1.0.now

  write_gives : Gives (step x a) r c.exit.1.1.1.1.1.0.now c.exit.1.1.1.1.1.1.0.now
  unfolding world_of handed_write
  write_gives =
      let w : handed_write ≡ x = same_world _ _ _ _ _ _ c.state c.memory c.picture in
      let o : step handed_write (writes c.args.1.0 c.args.1.1.0 c.args.1.1.1.0 c.args.1.1.1.1.0) ≡ step x a =
      same_three (λ (z : World) (t o e : ℕ). step z (writes t o e c.args.1.1.1.1.0)) _ _ _ _ _ _ _ _ w c.target c.offset c.enables
      ∙ ap (λ (v : ℕ). step x (writes a.target a.offset a.enables v)) c.word ∙ ap (step x) (write_of a c.kind) in
      subst (λ (q : Answer). Gives (step x a) q c.exit.1.1.1.1.1.0.now c.exit.1.1.1.1.1.1.0.now) c.answer
      (subst (λ (q : Outcome). Gives q c.result c.exit.1.1.1.1.1.0.now c.exit.1.1.1.1.1.1.0.now) o c.post)

  write_agrees : Agrees x a r y
  unfolding world_of
  write_agrees =
      record {
        answers = write_gives.answer;
        leaves =
            same_world y.state (step x a).answer.state y.memory (step x a).memory y.picture (step x a).picture
            (c.state_left ∙ ap (λ (q : Answer). q.state) write_gives.answer) (c.memory_left ∙ write_gives.memory) (c.picture_left ∙ write_gives.picture);
      }

module _ (x : World) (a : Access) (r : Answer) (y : World) (c : LookCalled x a r y) where
  handed_look : World
  handed_look = world_of c.args.0 c.args.1.1.1.1.0.now c.args.1.1.1.1.1.0.now

  look_gives : Gives (step x a) r x.memory x.picture
  unfolding world_of handed_look
  look_gives =
      let w : handed_look ≡ x = same_world _ _ _ _ _ _ c.state c.memory c.picture in
      let o : step handed_look (looks c.args.1.0 c.args.1.1.0 c.args.1.1.1.0) ≡ step x a =
      same_three (λ (z : World) (t o e : ℕ). step z (looks t o e)) _ _ _ _ _ _ _ _ w c.target c.offset c.enables ∙ look_of_lem x a c.kind in
      let g : Gives (step x a) (replied c.args.0 c.result) c.args.1.1.1.1.0.now c.args.1.1.1.1.1.0.now =
      subst (λ (q : Outcome). Gives q (replied c.args.0 c.result) c.args.1.1.1.1.0.now c.args.1.1.1.1.1.0.now) o c.post in
      record {
        answer = c.answer ∙ ap (λ (s : State). replied s c.result) (sym c.state) ∙ g.answer;
        memory = sym c.memory ∙ g.memory;
        picture = sym c.picture ∙ g.picture;
      }

  look_agrees : Agrees x a r y
  unfolding world_of
  look_agrees =
      record {
        answers = look_gives.answer;
        leaves =
            c.left
            ∙ same_world x.state (step x a).answer.state x.memory (step x a).memory x.picture (step x a).picture
            (sym (ap (λ (q : Answer). q.state) c.answer) ∙ ap (λ (q : Answer). q.state) look_gives.answer) look_gives.memory look_gives.picture;
      }

-- ---- in place: the same, with the state that the parts are put together

module _ (x : World) (a : Access) (r : Answer) (y : World) (c : LentReadCalled x a r y) where
  lent_read : World
  lent_read = world_of (state_of c.args.0 c.args.1.0 c.args.1.1.0 c.args.1.1.1.0 c.args.1.1.1.1.0.now c.args.1.1.1.1.1.0.now c.args.1.1.1.1.1.1.0.now c.args.1.1.1.1.1.1.1.0.now) c.args.1.1.1.1.1.1.1.1.1.1.1.0.now c.args.1.1.1.1.1.1.1.1.1.1.1.1.0.now

  lent_read_gives : Gives (step x a) r x.memory x.picture
  unfolding world_of lent_read
  lent_read_gives =
      let w : lent_read ≡ x = same_world _ _ _ _ _ _ c.state c.memory c.picture in
      let o : step lent_read (reads c.args.1.1.1.1.1.1.1.1.0 c.args.1.1.1.1.1.1.1.1.1.0 c.args.1.1.1.1.1.1.1.1.1.1.0) ≡ step x a =
      same_three (λ (z : World) (t o e : ℕ). step z (reads t o e)) _ _ _ _ _ _ _ _ w c.target c.offset c.enables ∙ read_of x a c.kind in
      let g : Gives (step x a) (replied (state_of c.args.0 c.args.1.0 c.args.1.1.0 c.args.1.1.1.0 c.exit.1.1.1.1.0.now c.args.1.1.1.1.1.0.now c.args.1.1.1.1.1.1.0.now c.exit.1.1.1.1.1.1.1.0.now) c.result) c.args.1.1.1.1.1.1.1.1.1.1.1.0.now c.args.1.1.1.1.1.1.1.1.1.1.1.1.0.now =
      subst (λ (q : Outcome). Gives q (replied (state_of c.args.0 c.args.1.0 c.args.1.1.0 c.args.1.1.1.0 c.exit.1.1.1.1.0.now c.args.1.1.1.1.1.0.now c.args.1.1.1.1.1.1.0.now c.exit.1.1.1.1.1.1.1.0.now) c.result) c.args.1.1.1.1.1.1.1.1.1.1.1.0.now c.args.1.1.1.1.1.1.1.1.1.1.1.1.0.now) o c.post in
      record {
        answer = c.answer ∙ ap (λ (s : State). replied s c.result) c.state_left ∙ g.answer;
        memory = sym c.memory ∙ g.memory;
        picture = sym c.picture ∙ g.picture;
      }

  lent_read_agrees : Agrees x a r y
  unfolding world_of
  lent_read_agrees =
      record {
        answers = lent_read_gives.answer;
        leaves =
            same_world y.state (step x a).answer.state y.memory (step x a).memory y.picture (step x a).picture
            (sym (ap (λ (q : Answer). q.state) c.answer) ∙ ap (λ (q : Answer). q.state) lent_read_gives.answer) (c.memory_left ∙ lent_read_gives.memory)
            (c.picture_left ∙ lent_read_gives.picture);
      }

module _ (x : World) (a : Access) (r : Answer) (y : World) (c : LentWriteCalled x a r y) where
  lent_write : World
  lent_write = world_of (state_of c.args.0 c.args.1.0 c.args.1.1.0 c.args.1.1.1.0.now c.args.1.1.1.1.0.now c.args.1.1.1.1.1.0.now c.args.1.1.1.1.1.1.0.now c.args.1.1.1.1.1.1.1.0.now) c.args.1.1.1.1.1.1.1.1.1.1.1.1.0.now c.args.1.1.1.1.1.1.1.1.1.1.1.1.1.0.now

  lent_write_gives : Gives (step x a) r y.memory y.picture
  unfolding world_of lent_write
  lent_write_gives =
      let w : lent_write ≡ x = same_world _ _ _ _ _ _ c.state c.memory c.picture in
      let o : step lent_write (writes c.args.1.1.1.1.1.1.1.1.0 c.args.1.1.1.1.1.1.1.1.1.0 c.args.1.1.1.1.1.1.1.1.1.1.0 c.args.1.1.1.1.1.1.1.1.1.1.1.0) ≡ step x a =
      same_three (λ (z : World) (t o e : ℕ). step z (writes t o e c.args.1.1.1.1.1.1.1.1.1.1.1.0)) _ _ _ _ _ _ _ _ w c.target c.offset c.enables
      ∙ ap (λ (v : ℕ). step x (writes a.target a.offset a.enables v)) c.word ∙ ap (step x) (write_of a c.kind) in
      let g : Gives (step x a) (wrote (state_of c.args.0 c.args.1.0 c.args.1.1.0 c.exit.1.1.1.0.now c.exit.1.1.1.1.0.now c.exit.1.1.1.1.1.0.now c.exit.1.1.1.1.1.1.0.now c.exit.1.1.1.1.1.1.1.0.now) c.result) c.exit.1.1.1.1.1.1.1.1.1.1.1.1.0.now c.exit.1.1.1.1.1.1.1.1.1.1.1.1.1.0.now =
      subst (λ (q : Outcome). Gives q (wrote (state_of c.args.0 c.args.1.0 c.args.1.1.0 c.exit.1.1.1.0.now c.exit.1.1.1.1.0.now c.exit.1.1.1.1.1.0.now c.exit.1.1.1.1.1.1.0.now c.exit.1.1.1.1.1.1.1.0.now) c.result) c.exit.1.1.1.1.1.1.1.1.1.1.1.1.0.now c.exit.1.1.1.1.1.1.1.1.1.1.1.1.1.0.now) o c.post in
      record {
        answer = c.answer ∙ ap (λ (s : State). wrote s c.result) c.state_left ∙ g.answer;
        memory = c.memory_left ∙ g.memory;
        picture = c.picture_left ∙ g.picture;
      }

  lent_write_agrees : Agrees x a r y
  unfolding world_of
  lent_write_agrees =
      record {
        answers = lent_write_gives.answer;
        leaves =
            same_world y.state (step x a).answer.state y.memory (step x a).memory y.picture (step x a).picture
            (sym (ap (λ (q : Answer). q.state) c.answer) ∙ ap (λ (q : Answer). q.state) lent_write_gives.answer) lent_write_gives.memory lent_write_gives.picture;
      }

module _ (x : World) (a : Access) (r : Answer) (y : World) (c : LentLookCalled x a r y) where
  lent_look : World
  lent_look = world_of (state_of c.args.0 c.args.1.0 c.args.1.1.0 c.args.1.1.1.0 c.args.1.1.1.1.0.now c.args.1.1.1.1.1.0.now c.args.1.1.1.1.1.1.0.now c.args.1.1.1.1.1.1.1.0.now) c.args.1.1.1.1.1.1.1.1.1.1.1.0.now c.args.1.1.1.1.1.1.1.1.1.1.1.1.0.now

  lent_look_gives : Gives (step x a) r x.memory x.picture
  unfolding world_of lent_look
  lent_look_gives =
      let w : lent_look ≡ x = same_world _ _ _ _ _ _ c.state c.memory c.picture in
      let o : step lent_look (looks c.args.1.1.1.1.1.1.1.1.0 c.args.1.1.1.1.1.1.1.1.1.0 c.args.1.1.1.1.1.1.1.1.1.1.0) ≡ step x a =
      same_three (λ (z : World) (t o e : ℕ). step z (looks t o e)) _ _ _ _ _ _ _ _ w c.target c.offset c.enables ∙ look_of_lem x a c.kind in
      let g : Gives (step x a) (replied (state_of c.args.0 c.args.1.0 c.args.1.1.0 c.args.1.1.1.0 c.args.1.1.1.1.0.now c.args.1.1.1.1.1.0.now c.args.1.1.1.1.1.1.0.now c.args.1.1.1.1.1.1.1.0.now) c.result) c.args.1.1.1.1.1.1.1.1.1.1.1.0.now c.args.1.1.1.1.1.1.1.1.1.1.1.1.0.now =
      subst (λ (q : Outcome). Gives q (replied (state_of c.args.0 c.args.1.0 c.args.1.1.0 c.args.1.1.1.0 c.args.1.1.1.1.0.now c.args.1.1.1.1.1.0.now c.args.1.1.1.1.1.1.0.now c.args.1.1.1.1.1.1.1.0.now) c.result) c.args.1.1.1.1.1.1.1.1.1.1.1.0.now c.args.1.1.1.1.1.1.1.1.1.1.1.1.0.now) o c.post in
      record {
        answer = c.answer ∙ ap (λ (s : State). replied s c.result) (sym c.state) ∙ g.answer;
        memory = sym c.memory ∙ g.memory;
        picture = sym c.picture ∙ g.picture;
      }

  lent_look_agrees : Agrees x a r y
  unfolding world_of
  lent_look_agrees =
      record {
        answers = lent_look_gives.answer;
        leaves =
            c.left
            ∙ same_world x.state (step x a).answer.state x.memory (step x a).memory x.picture (step x a).picture
            (sym (ap (λ (q : Answer). q.state) c.answer) ∙ ap (λ (q : Answer). q.state) lent_look_gives.answer) lent_look_gives.memory lent_look_gives.picture;
      }

agrees : (x : World) (a : Access) (r : Answer) (y : World) → Called x a r y → Agrees x a r y
agrees x a r y (of_read c) = read_agrees x a r y c
agrees x a r y (of_write c) = write_agrees x a r y c
agrees x a r y (of_look c) = look_agrees x a r y c
agrees x a r y (of_lent_read c) = lent_read_agrees x a r y c
agrees x a r y (of_lent_write c) = lent_write_agrees x a r y c
agrees x a r y (of_lent_look c) = lent_look_agrees x a r y c

pub call_answers : (x : World) (a : Access) (r : Answer) (y : World) → Called x a r y → r ≡ (step x a).answer
call_answers x a r y c = (agrees x a r y c).answers

pub call_leaves : (x : World) (a : Access) (r : Answer) (y : World) → Called x a r y → y ≡ after x a
call_leaves x a r y c = (agrees x a r y c).leaves

-- ---- an opening, and a run

module _ (w h : ℕ) (m p : List ℕ) (r : Opened) (y : World) (c : ValueOpenCalled w h m p r y) where
  value_opens : Opens (open_of w h m p) r y.memory y.picture
  value_opens =
      let o : open_of c.args.0 c.args.1.0 c.args.1.1.0.now c.args.1.1.1.0.now ≡ open_of w h m p =
      ap₂ (λ (u v : ℕ). open_of u v c.args.1.1.0.now c.args.1.1.1.0.now) c.width c.height
      ∙ ap₂ (λ (u v : List ℕ). open_of w h u v) c.memory c.picture in
      let g : Opens (open_of w h m p) c.result c.exit.1.1.0.now c.exit.1.1.1.0.now =
      subst (λ (q : Opening). Opens q c.result c.exit.1.1.0.now c.exit.1.1.1.0.now) o c.post in
      record { answer = sym c.answer ∙ g.answer; memory = c.memory_left ∙ g.memory; picture = c.picture_left ∙ g.picture }

module _ (w h : ℕ) (m p : List ℕ) (r : Opened) (y : World) (c : LentOpenCalled w h m p r y) where
  lent_opens : Opens (open_of w h m p) r y.memory y.picture
  lent_opens =
      let o : open_of c.args.1.1.1.1.1.1.1.1.0 c.args.1.1.1.1.1.1.1.1.1.0 c.args.1.1.1.1.1.1.1.1.1.1.0.now c.args.1.1.1.1.1.1.1.1.1.1.1.0.now ≡ open_of w h m p =
      ap₂ (λ (u v : ℕ). open_of u v c.args.1.1.1.1.1.1.1.1.1.1.0.now c.args.1.1.1.1.1.1.1.1.1.1.1.0.now) c.width c.height ∙ ap₂ (λ (u v : List ℕ). open_of w h u v) c.memory c.picture in
      let s : State = state_of c.exit.0.now c.exit.1.0.now c.exit.1.1.0.now c.exit.1.1.1.0.now c.exit.1.1.1.1.0.now c.exit.1.1.1.1.1.0.now c.exit.1.1.1.1.1.1.0.now c.exit.1.1.1.1.1.1.1.0.now in
      let g : Opens (open_of w h m p) (parts.opened s c.result) c.exit.1.1.1.1.1.1.1.1.1.1.0.now c.exit.1.1.1.1.1.1.1.1.1.1.1.0.now =
      subst (λ (q : Opening). Opens q (parts.opened s c.result) c.exit.1.1.1.1.1.1.1.1.1.1.0.now c.exit.1.1.1.1.1.1.1.1.1.1.1.0.now) o c.post in
      record { answer = c.answer ∙ ap (λ (z : State). parts.opened z c.result) c.state_left ∙ g.answer; memory = c.memory_left ∙ g.memory; picture = c.picture_left ∙ g.picture }

opens : (w h : ℕ) (m p : List ℕ) (r : Opened) (y : World) → OpenCalled w h m p r y → Opens (open_of w h m p) r y.memory y.picture
opens w h m p r y (of_open c) = value_opens w h m p r y c
opens w h m p r y (of_lent_open c) = lent_opens w h m p r y c

open_state : (w h : ℕ) (m p : List ℕ) (r : Opened) (y : World) → OpenCalled w h m p r y → y.state ≡ r.state
open_state w h m p r y (of_open c) = c.state_left
open_state w h m p r y (of_lent_open c) = sym (ap (λ (q : Opened). q.state) c.answer)

module _ (w h : ℕ) (m p : List ℕ) (r : Opened) (y : World) (c : OpenCalled w h m p r y) where
  pub open_answers : r ≡ (open_of w h m p).answer
  open_answers = (opens w h m p r y c).answer

  pub open_leaves : y ≡ opened w h m p
  unfolding world_of
  open_leaves =
      same_world y.state (open_of w h m p).answer.state y.memory (open_of w h m p).memory y.picture (open_of w h m p).picture
      (open_state w h m p r y c ∙ ap (λ (q : Opened). q.state) open_answers) (opens w h m p r y c).memory (opens w h m p r y c).picture

pub calls_leave : (x : World) (l : List Access) (rs : List Answer) (z : World) → Calls x l rs z → z ≡ run x l
calls_leave x [] [] z (none y) = refl
calls_leave x [] (r ∷ rs) z c = elim c [ ]
calls_leave x (a ∷ l) [] z c = elim c [ ]
calls_leave x (a ∷ l) (r ∷ rs) z (more u b q y k qs v c d) = calls_leave y l rs z d ∙ ap (λ (w : World). run w l) (call_leaves x a r y c)

pub calls_answer : (x : World) (l : List Access) (rs : List Answer) (z : World) → Calls x l rs z → rs ≡ answers_of x l
calls_answer x [] [] z (none y) = refl
calls_answer x [] (r ∷ rs) z c = elim c [ ]
calls_answer x (a ∷ l) [] z c = elim c [ ]
calls_answer x (a ∷ l) (r ∷ rs) z (more u b q y k qs v c d) =
    ap₂ (λ (h : Answer) (t : List Answer). h ∷ t) (call_answers x a r y c)
    (calls_answer y l rs z d ∙ ap (λ (w : World). answers_of w l) (call_leaves x a r y c))
