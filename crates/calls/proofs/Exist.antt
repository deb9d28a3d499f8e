-- There are calls to speak of, by value and in place: one of `read`, `write` or `look` at any world with any access of that kind, one of `open` with anything, and a run of them for any list.
-- Each answers and leaves what the definition gives, which meets the contract; a run by induction. No number is asked to fit. Assumes nothing.
use Prim.Native.Nat.{ℕ}
use mathlib.Core.List.{List, [], ◌∷◌}
use mathlib.Core.Path.{◌≡◌, refl, sym, ap, ap₂, subst, ◌∙◌}
use Rattle.std.proofs.Common.{Bor, MutBor}
use Rattle.bits.proofs.Cases.{by_test}
use Rattle.chip.specs.declared.State.{State}
use Rattle.chip.specs.declared.Access.{Access}
use Rattle.chip.specs.declared.Kind.TheVariants.{Read, Write, Look}
use Rattle.chip.specs.Access.{is_write, is_look}
use Rattle.chip.specs.Parts.{dac_bytes, made, replied, wrote}
use Rattle.chip.specs.Step.{Outcome, answered, Gives, open_of}
use Rattle.chip.proofs.Operations.{is_write_lem, write_is, is_look_lem, neither, read_writes_not}
use Rattle.model.proofs.OneOutcome.{reply_in, wrote_in}
use Rattle.promises.proofs.Promise3Only.{reads_leave, sizes_stay, writes_answer_zero}
use Rattle.promises.proofs.Looks.{unchanged}
use Rattle.promises.proofs.Promise9Looks.{look_alters_nothing}
use Rattle.chip.specs.Trace.{World, opened, step, after}
use Rattle.calls.specs.Calls.{ReadCalled, WriteCalled, LookCalled, LentReadCalled, LentWriteCalled, LentLookCalled, Called, of_read, of_write, of_look, of_lent_read, of_lent_write, of_lent_look, ValueOpenCalled, LentOpenCalled, of_open, of_lent_open, none, more}
use Rattle.calls.specs.Sure.{SureReadCalled, SureWriteCalled}
use Rattle.calls.specs.Exists.{SomeCall, SomeOpening, SomeCalls, SomeUse}
use Rattle.promises.specs.Good.{Good}
use Rattle.calls.proofs.Calls.{read_of, look_of_lem, write_of}
use Rattle.calls.proofs.Promise11Code.{sure_read_call, sure_write_call}

-- a reference to m, at some place; and one to alter it by, under some ghost name
abbrev ref : ℕ → List ℕ → Bor (List ℕ)
ref n m = record { ref_ptr = (n, 0); now = m }

abbrev lent : ℕ → List ℕ → MutBor (List ℕ)
lent n m = record { ref_ptr = (n, 0); ghost_name = n; now = m }

-- what a read, a write and a look give in the words of their contracts
read_called : (x : World) (a : Access) → a.kind ≡ Read → ReadCalled x a (step x a).answer (after x a)
read_called x a k =
    let o = read_of x a k in
    let l = reads_leave x a (read_writes_not a k) in
    record {
      lifetimes = ([], tt);
      args = (x.state, (a.target, (a.offset, (a.enables, (ref 0 x.memory, (ref 1 x.picture, tt))))));
      result = (step x a).answer;
      exit = (x.state, (a.target, (a.offset, (a.enables, (ref 0 x.memory, (ref 1 x.picture, tt))))));
      post = subst (λ (q : Outcome). Gives q (step x a).answer x.memory x.picture) (sym o) (record { answer = refl; memory = sym l.memory; picture = sym l.picture });
      kind = k;
      state = refl;
      target = refl;
      offset = refl;
      enables = refl;
      memory = refl;
      picture = refl;
      answer = refl;
      state_left = refl;
      memory_left = l.memory;
      picture_left = l.picture;
    }

write_called : (x : World) (a : Access) → a.kind ≡ Write → WriteCalled x a (step x a).answer (after x a)
write_called x a k =
    let o = ap (step x) (write_of a k) in
    record {
      lifetimes = ([], ([], tt));
      args = (x.state, (a.target, (a.offset, (a.enables, (a.word, (lent 0 x.memory, (lent 1 x.picture, tt)))))));
      result = (step x a).answer;
      exit = (x.state, (a.target, (a.offset, (a.enables, (a.word, (lent 0 (step x a).memory, (lent 1 (step x a).picture, tt)))))));
      post = subst (λ (q : Outcome). Gives q (step x a).answer (step x a).memory (step x a).picture) (sym o) (record { answer = refl; memory = refl; picture = refl });
      kind = k;
      state = refl;
      target = refl;
      offset = refl;
      enables = refl;
      word = refl;
      memory = refl;
      picture = refl;
      answer = refl;
      state_left = refl;
      memory_left = refl;
      picture_left = refl;
    }

look_called : (x : World) (a : Access) → a.kind ≡ Look → LookCalled x a (step x a).answer (after x a)
look_called x a k =
    let n = (look_alters_nothing x a k).0 in
    let c = (look_alters_nothing x a k).1 in
    let s : replied x.state (reply_in (step x a).answer) ≡ (step x a).answer =
    ap₂ (λ (z : World) (k : ℕ). answered (step x a).answer.status (step x a).answer.word (step x a).answer.known k z.state) (sym n) (sym c) in
    record {
      lifetimes = ([], tt);
      args = (x.state, (a.target, (a.offset, (a.enables, (ref 0 x.memory, (ref 1 x.picture, tt))))));
      result = reply_in (step x a).answer;
      exit = (x.state, (a.target, (a.offset, (a.enables, (ref 0 x.memory, (ref 1 x.picture, tt))))));
      post = subst (λ (q : Outcome). Gives q (replied x.state (reply_in (step x a).answer)) x.memory x.picture) (sym (look_of_lem x a k)) (record { answer = s; memory = sym (ap (λ (z : World). z.memory) n); picture = sym (ap (λ (z : World). z.picture) n) });
      kind = k;
      state = refl;
      target = refl;
      offset = refl;
      enables = refl;
      memory = refl;
      picture = refl;
      answer = sym s;
      left = n;
    }

called : (x : World) (a : Access) → Called x a (step x a).answer (after x a)
called x a =
    by_test (is_write a)
    (λ w. of_write (write_called x a (is_write_lem a w)))
    (λ w. by_test (is_look a) (λ k. of_look (look_called x a (is_look_lem a k))) (λ k. of_read (read_called x a (neither a w k))))

open_called : (w h : ℕ) (m p : List ℕ) → ValueOpenCalled w h m p (open_of w h m p).answer (opened w h m p)
open_called w h m p =
    record {
      lifetimes = ([], ([], tt));
      args = (w, (h, (lent 0 m, (lent 1 p, tt))));
      result = (open_of w h m p).answer;
      exit = (w, (h, (lent 0 (open_of w h m p).memory, (lent 1 (open_of w h m p).picture, tt))));
      post = record { answer = refl; memory = refl; picture = refl };
      width = refl;
      height = refl;
      memory = refl;
      picture = refl;
      answer = refl;
      state_left = refl;
      memory_left = refl;
      picture_left = refl;
    }

-- ---- in place: the parts of a state, each at a place of its own

-- a reference to a number
abbrev num : ℕ → ℕ → MutBor ℕ
num n v = record { ref_ptr = (n, 0); ghost_name = n; now = v }

-- what a read leaves, put together from the parts that it may alter
read_parts : (x : World) (a : Access) → a.kind ≡ Read
    → made x.state.width x.state.height x.state.fitted x.state.once (after x a).state.values x.state.knowns x.state.palette (after x a).state.dac ≡ (after x a).state
read_parts x a k =
    let l = (reads_leave x a (read_writes_not a k)).state in
    ap₂ (λ (w h : ℕ). made w h x.state.fitted x.state.once (after x a).state.values x.state.knowns x.state.palette (after x a).state.dac) (sym l.width) (sym l.height)
    ∙ ap₂ (λ (f o : ℕ). made (after x a).state.width (after x a).state.height f o (after x a).state.values x.state.knowns x.state.palette (after x a).state.dac) (sym l.fitted) (sym l.once)
    ∙ ap₂ (λ (ks p : List ℕ). made (after x a).state.width (after x a).state.height (after x a).state.fitted (after x a).state.once (after x a).state.values ks p (after x a).state.dac) (sym l.knowns) (sym l.palette)

lent_read_called : (x : World) (a : Access) → a.kind ≡ Read → LentReadCalled x a (step x a).answer (after x a)
lent_read_called x a k =
    let l = reads_leave x a (read_writes_not a k) in
    let c = unchanged x a (read_writes_not a k) in
    let s : replied (after x a).state (reply_in (step x a).answer) ≡ (step x a).answer =
    ap (λ (n : ℕ). answered (step x a).answer.status (step x a).answer.word (step x a).answer.known n (after x a).state) (sym c) in
    let e = read_parts x a k in
    let z : replied (made x.state.width x.state.height x.state.fitted x.state.once (after x a).state.values x.state.knowns x.state.palette (after x a).state.dac) (reply_in (step x a).answer) ≡ (step x a).answer =
    ap (λ (n : State). replied n (reply_in (step x a).answer)) e ∙ s in
    record {
      lifetimes = ([], ([], ([], tt)));
      args = (x.state.width, (x.state.height, (x.state.fitted, (x.state.once, (lent 0 x.state.values, (ref 1 x.state.knowns, (ref 2 x.state.palette, (lent 3 (dac_bytes x.state.dac), (a.target, (a.offset, (a.enables, (ref 4 x.memory, (ref 5 x.picture, tt)))))))))))));
      result = reply_in (step x a).answer;
      exit = (x.state.width, (x.state.height, (x.state.fitted, (x.state.once, (lent 0 (after x a).state.values, (ref 1 x.state.knowns, (ref 2 x.state.palette, (lent 3 (dac_bytes (after x a).state.dac), (a.target, (a.offset, (a.enables, (ref 4 x.memory, (ref 5 x.picture, tt)))))))))))));
      post = subst (λ (q : Outcome). Gives q (replied (made x.state.width x.state.height x.state.fitted x.state.once (after x a).state.values x.state.knowns x.state.palette (after x a).state.dac) (reply_in (step x a).answer)) x.memory x.picture) (sym (read_of x a k)) (record { answer = z; memory = sym l.memory; picture = sym l.picture });
      kind = k;
      state = refl;
      target = refl;
      offset = refl;
      enables = refl;
      memory = refl;
      picture = refl;
      answer = sym s;
      state_left = sym e;
      memory_left = l.memory;
      picture_left = l.picture;
    }

-- what a write leaves, with the sizes that it does not alter
write_parts : (x : World) (a : Access)
    → made x.state.width x.state.height x.state.fitted (after x a).state.once (after x a).state.values (after x a).state.knowns (after x a).state.palette (after x a).state.dac ≡ (after x a).state
write_parts x a =
    let z = sizes_stay x a in
    ap₂ (λ (w h : ℕ). made w h x.state.fitted (after x a).state.once (after x a).state.values (after x a).state.knowns (after x a).state.palette (after x a).state.dac) (sym z.width) (sym z.height)
    ∙ ap (λ (f : ℕ). made (after x a).state.width (after x a).state.height f (after x a).state.once (after x a).state.values (after x a).state.knowns (after x a).state.palette (after x a).state.dac) (sym z.fitted)

lent_write_called : (x : World) (a : Access) → a.kind ≡ Write → LentWriteCalled x a (step x a).answer (after x a)
lent_write_called x a k =
    let o = ap (step x) (write_of a k) in
    let w = writes_answer_zero x a (write_is a k) in
    let e = write_parts x a in
    let s : wrote (after x a).state (wrote_in (step x a).answer) ≡ (step x a).answer =
    ap₂ (λ (v u : ℕ). answered (step x a).answer.status v u (step x a).answer.changed (after x a).state) (sym w.0) (sym w.1) in
    let z : wrote (made x.state.width x.state.height x.state.fitted (after x a).state.once (after x a).state.values (after x a).state.knowns (after x a).state.palette (after x a).state.dac) (wrote_in (step x a).answer) ≡ (step x a).answer =
    ap (λ (n : State). wrote n (wrote_in (step x a).answer)) e ∙ s in
    record {
      lifetimes = ([], ([], ([], ([], ([], ([], ([], tt)))))));
      args = (x.state.width, (x.state.height, (x.state.fitted, (num 6 x.state.once, (lent 0 x.state.values, (lent 1 x.state.knowns, (lent 2 x.state.palette, (lent 3 (dac_bytes x.state.dac), (a.target, (a.offset, (a.enables, (a.word, (lent 4 x.memory, (lent 5 x.picture, tt))))))))))))));
      result = wrote_in (step x a).answer;
      exit = (x.state.width, (x.state.height, (x.state.fitted, (num 6 (after x a).state.once, (lent 0 (after x a).state.values, (lent 1 (after x a).state.knowns, (lent 2 (after x a).state.palette, (lent 3 (dac_bytes (after x a).state.dac), (a.target, (a.offset, (a.enables, (a.word, (lent 4 (step x a).memory, (lent 5 (step x a).picture, tt))))))))))))));
      post = subst (λ (q : Outcome). Gives q (wrote (made x.state.width x.state.height x.state.fitted (after x a).state.once (after x a).state.values (after x a).state.knowns (after x a).state.palette (after x a).state.dac) (wrote_in (step x a).answer)) (step x a).memory (step x a).picture) (sym o) (record { answer = z; memory = refl; picture = refl });
      kind = k;
      state = refl;
      target = refl;
      offset = refl;
      enables = refl;
      word = refl;
      memory = refl;
      picture = refl;
      answer = sym s;
      state_left = sym e;
      memory_left = refl;
      picture_left = refl;
    }

lent_look_called : (x : World) (a : Access) → a.kind ≡ Look → LentLookCalled x a (step x a).answer (after x a)
lent_look_called x a k =
    let n = (look_alters_nothing x a k).0 in
    let c = (look_alters_nothing x a k).1 in
    let s : replied x.state (reply_in (step x a).answer) ≡ (step x a).answer =
    ap₂ (λ (z : World) (i : ℕ). answered (step x a).answer.status (step x a).answer.word (step x a).answer.known i z.state) (sym n) (sym c) in
    record {
      lifetimes = ([], tt);
      args = (x.state.width, (x.state.height, (x.state.fitted, (x.state.once, (ref 0 x.state.values, (ref 1 x.state.knowns, (ref 2 x.state.palette, (ref 3 (dac_bytes x.state.dac), (a.target, (a.offset, (a.enables, (ref 4 x.memory, (ref 5 x.picture, tt)))))))))))));
      result = reply_in (step x a).answer;
      exit = (x.state.width, (x.state.height, (x.state.fitted, (x.state.once, (ref 0 x.state.values, (ref 1 x.state.knowns, (ref 2 x.state.palette, (ref 3 (dac_bytes x.state.dac), (a.target, (a.offset, (a.enables, (ref 4 x.memory, (ref 5 x.picture, tt)))))))))))));
      post = subst (λ (q : Outcome). Gives q (replied x.state (reply_in (step x a).answer)) x.memory x.picture) (sym (look_of_lem x a k)) (record { answer = s; memory = sym (ap (λ (z : World). z.memory) n); picture = sym (ap (λ (z : World). z.picture) n) });
      kind = k;
      state = refl;
      target = refl;
      offset = refl;
      enables = refl;
      memory = refl;
      picture = refl;
      answer = sym s;
      left = n;
    }

lent_called : (x : World) (a : Access) → Called x a (step x a).answer (after x a)
lent_called x a =
    by_test (is_write a)
    (λ w. of_lent_write (lent_write_called x a (is_write_lem a w)))
    (λ w. by_test (is_look a) (λ k. of_lent_look (lent_look_called x a (is_look_lem a k))) (λ k. of_lent_read (lent_read_called x a (neither a w k))))

lent_open_called : (w h : ℕ) (m p : List ℕ) → LentOpenCalled w h m p (open_of w h m p).answer (opened w h m p)
lent_open_called w h m p =
    let s = (open_of w h m p).answer.state in
    record {
      lifetimes = ([], ([], ([], ([], ([], ([], ([], ([], ([], ([], tt))))))))));
      args = (num 6 s.width, (num 7 s.height, (num 8 s.fitted, (num 9 s.once, (lent 0 s.values, (lent 1 s.knowns, (lent 2 s.palette, (lent 3 (dac_bytes s.dac), (w, (h, (lent 4 m, (lent 5 p, tt))))))))))));
      result = (open_of w h m p).answer.status;
      exit = (num 6 s.width, (num 7 s.height, (num 8 s.fitted, (num 9 s.once, (lent 0 s.values, (lent 1 s.knowns, (lent 2 s.palette, (lent 3 (dac_bytes s.dac), (w, (h, (lent 4 (open_of w h m p).memory, (lent 5 (open_of w h m p).picture, tt))))))))))));
      post = record { answer = refl; memory = refl; picture = refl };
      width = refl;
      height = refl;
      memory = refl;
      picture = refl;
      answer = refl;
      state_left = refl;
      memory_left = refl;
      picture_left = refl;
    }

pub some_call : (x : World) (a : Access) → SomeCall x a
some_call x a = record { answer = (step x a).answer; left = after x a; call = called x a }

-- the same in place
pub some_lent_call : (x : World) (a : Access) → SomeCall x a
some_lent_call x a = record { answer = (step x a).answer; left = after x a; call = lent_called x a }

-- .. and on a good world without refusal 1's test
pub some_sure_read : (x : World) (a : Access) → Good x → a.kind ≡ Read → SureReadCalled x a (step x a).answer (after x a)
some_sure_read x a g k = (sure_read_call x g a _ _).1 (lent_read_called x a k)

pub some_sure_write : (x : World) (a : Access) → Good x → a.kind ≡ Write → SureWriteCalled x a (step x a).answer (after x a)
some_sure_write x a g k = (sure_write_call x g a _ _).1 (lent_write_called x a k)

pub some_lent_opening : (w h : ℕ) (m p : List ℕ) → SomeOpening w h m p
some_lent_opening w h m p = record { answer = (open_of w h m p).answer; left = opened w h m p; call = of_lent_open (lent_open_called w h m p) }

pub some_opening : (w h : ℕ) (m p : List ℕ) → SomeOpening w h m p
some_opening w h m p = record { answer = (open_of w h m p).answer; left = opened w h m p; call = of_open (open_called w h m p) }

pub some_calls : (x : World) (l : List Access) → SomeCalls x l
some_calls x [] = record { answers = []; left = x; calls = none x }
some_calls x (a ∷ l) =
    let c = some_call x a in
    let d = some_calls c.left l in
    record { answers = c.answer ∷ d.answers; left = d.left; calls = more x a c.answer c.left l d.answers d.left c.call d.calls }

pub some_use : (w h : ℕ) (m p : List ℕ) (l : List Access) → SomeUse w h m p l
some_use w h m p l = record { opening = some_opening w h m p; calls = some_calls (some_opening w h m p).left l }
