-- A run over a list: one access, what the loop keeps, and the whole.
-- The definitions opened; an access is a read or a write by its third word. Assumes nothing.
use Prim.Native.Nat.{ℕ, ◌+◌, ◌*◌, ◌/◌, ◌%◌, ◌≤◌}
use mathlib.Core.Bool.{Bool, true, false}
use mathlib.Core.List.{List}
use mathlib.Core.Path.{◌≡◌, refl, sym, ap, ap₂, ◌∙◌, subst}
use native.Mathlib.Omega.{arith}
use borrow.Author.Tests.{eq-eqb, ne_eqb}
use lib.Dec.{eqb}
use lib.ListN.{get_or, length}
use Rattle.std.proofs.lemmas.Bool.Decides.{nat_tests}
use Rattle.bits.specs.Choose.{pick}
use Rattle.chip.specs.declared.State.{State}
use Rattle.chip.specs.declared.Access.{Access}
use Rattle.chip.specs.declared.Answer.{Answer}
use Rattle.chip.specs.declared.Reply.{Reply}
use Rattle.chip.specs.declared.Wrote.{Wrote}
use Rattle.chip.specs.Access.{reads, writes}
use Rattle.chip.specs.declared.Dac.{Dac}
use Rattle.chip.specs.Parts.{replied, wrote, made, state_of, dac_of}
use Rattle.chip.specs.Sound.{is_state}
use Rattle.chip.specs.Step.{Outcome, Gives, surely_of}
use Rattle.chip.specs.Trace.{World}
use Rattle.bench_list.specs.Run.{access_at, world_of, outcome_at, put_answer, answered, world_to, answers_to, Ones, list_fits, run_status, Runs}

-- ---- one access, from what a read or a write gives

module _ (s : State) (m p l : List ℕ) (n k : ℕ) (o : List ℕ) where
  given : (a : Access) → a ≡ access_at l k → (r : Answer) (m' p' o' : List ℕ) → Gives (surely_of s m p a) r m' p' → o' ≡ answered n k r o
      → Ones s m p l n k o r.state m' p' o'
  given a e r m' p' o' g w =
      let z : surely_of s m p a ≡ outcome_at (world_of s m p) l k = ap (surely_of s m p) e in
      let y = subst (λ (q : Outcome). Gives q r m' p') z g in
      record {
        world = ap₂ (λ (b : Answer) (c : List ℕ). world_of b.state c p') y.answer y.memory ∙ ap (world_of (outcome_at (world_of s m p) l k).answer.state (outcome_at (world_of s m p) l k).memory) y.picture;
        answers = w ∙ ap (λ (b : Answer). answered n k b o) y.answer;
      }

  module _ (t f e x : ℕ) (et : t ≡ get_or l (5 * k) 0) (ef : f ≡ get_or l (5 * k + 1) 0) (ee : e ≡ get_or l (5 * k + 3) 0) (ex : x ≡ get_or l (5 * k + 2) 0) where
    pub one_read : (s' : State) (r : Reply) (o' : List ℕ) → x ≡ 0 → Gives (surely_of s m p (reads t f e)) (replied s' r) m p
        → o' ≡ put_answer n k r.status r.word r.known 0 o → Ones s m p l n k o s' m p o'
    one_read s' r o' z g w =
        given (reads t f e) (ap₂ (λ (i j : ℕ). reads i j e) et ef ∙ ap (reads (get_or l (5 * k) 0) (get_or l (5 * k + 1) 0)) ee ∙ sym (simp (eq-eqb (get_or l (5 * k + 2) 0) 0 (sym ex ∙ z)))) (replied s' r) m p o' g w

    pub one_write : (v : ℕ) (s' : State) (r : Wrote) (m' p' o' : List ℕ) → (x ≡ 0 → ⊥) → v ≡ get_or l (5 * k + 4) 0 → Gives (surely_of s m p (writes t f e v)) (wrote s' r) m' p'
        → o' ≡ put_answer n k r.status 0 0 r.changed o → Ones s m p l n k o s' m' p' o'
    one_write v s' r m' p' o' z ev g w =
        given (writes t f e v)
        (ap₂ (λ (i j : ℕ). writes i j e v) et ef ∙ ap₂ (writes (get_or l (5 * k) 0) (get_or l (5 * k + 1) 0)) ee ev ∙ sym (simp (ne_eqb (get_or l (5 * k + 2) 0) 0 (λ y. z (ex ∙ y))))) (wrote s' r) m' p' o' g w

-- ---- the run: after k accesses

pub record Ran (x : World) (l : List ℕ) (n : ℕ) (o : List ℕ) (k : ℕ) (s : State) (m p a : List ℕ) : Type 0 where
  pub world : world_of s m p ≡ world_to x l k
  pub answers : a ≡ answers_to x l n o k
  pub size : length a ≡ length o
  pub memory : length m ≡ length x.memory
  pub picture : length p ≡ length x.picture
  pub upto : k ≤ n

-- ---- the whole

-- the test of a state, by its parts
pub tested : (t : Bool) (w h f o : ℕ) (vs ks ps ds : List ℕ) (x : Dac) → t ≡ is_state (made w h f o vs ks ps x) → x ≡ dac_of ds → t ≡ is_state (state_of w h f o vs ks ps ds)
tested t w h f o vs ks ps ds x e q = e ∙ ap (λ (y : Dac). is_state (made w h f o vs ks ps y)) q

module _ (s : State) (m p l o : List ℕ) (t : Bool) (et : t ≡ is_state s) where
  pub runs_none : (r : ℕ) → r ≡ 1 → t ≡ false → Runs s m p l o r s m p o
  unfolding run_status
  runs_none r q e = subst (λ (n : ℕ). Runs s m p l o n s m p o) (sym q) (record { status = sym (simp (sym et ∙ e)); world = refl; answers = refl })

  module _ (e : t ≡ true) where
    pub runs_wrong : (r : ℕ) → r ≡ 2 → list_fits (length l) (length o) ≡ false → Runs s m p l o r s m p o
    unfolding run_status
    runs_wrong r q g = subst (λ (n : ℕ). Runs s m p l o n s m p o) (sym q) (record { status = sym (simp (sym et ∙ e, g)); world = refl; answers = refl })

    pub runs_done : (s' : State) (m' p' o' : List ℕ) (k : ℕ) → list_fits (length l) (length o) ≡ true → Ran (world_of s m p) l (length l / 5) o k s' m' p' o' → length l / 5 ≤ k
        → Runs s m p l o 0 s' m' p' o'
    unfolding run_status
    runs_done s' m' p' o' k g r h =
        let z : k ≡ length l / 5 = let u = r.upto in omega arith in
        record {
          status = sym (simp (sym et ∙ e, g));
          world = r.world ∙ ap (world_to (world_of s m p) l) z;
          answers = r.answers ∙ ap (answers_to (world_of s m p) l (length l / 5) o) z;
        }

pub list_wrong : (n o : ℕ) → (n % 5 ≡ 0 → ⊥) → list_fits n o ≡ false
unfolding list_fits
list_wrong n o h = grind (arith, nat_tests)

pub room_wrong : (n o : ℕ) → (o / 4 ≡ n / 5 → ⊥) → list_fits n o ≡ false
unfolding list_fits
room_wrong n o h = grind (arith, nat_tests)

pub room_odd : (n o : ℕ) → (o % 4 ≡ 0 → ⊥) → list_fits n o ≡ false
unfolding list_fits
room_odd n o h = grind (arith, nat_tests)

pub list_right : (n o : ℕ) → n % 5 ≡ 0 → o / 4 ≡ n / 5 → o % 4 ≡ 0 → list_fits n o ≡ true
unfolding list_fits
list_right n o e f h = grind (arith, nat_tests)

-- ---- any two outcomes of one run are equal

module _ (s : State) (m p l o : List ℕ) (r r' : ℕ) (s' s'' : State) (m' p' o' m'' p'' o'' : List ℕ) (a : Runs s m p l o r s' m' p' o') (b : Runs s m p l o r' s'' m'' p'' o'') where
  pub same_status : r ≡ r'
  same_status = a.status ∙ sym b.status

  pub same_world : world_of s' m' p' ≡ world_of s'' m'' p''
  same_world = a.world ∙ ap (λ (n : ℕ). pick (eqb n 0) (world_to (world_of s m p) l (length l / 5)) (world_of s m p)) same_status ∙ sym b.world

  pub same_answers : o' ≡ o''
  same_answers = a.answers ∙ ap (λ (n : ℕ). pick (eqb n 0) (answers_to (world_of s m p) l (length l / 5) o (length l / 5)) o) same_status ∙ sym b.answers
