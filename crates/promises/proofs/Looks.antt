-- Reads and looks that ask for the same are answered alike; a look leaves the world as it was; so a list of accesses leaves, and answers its reads and writes, as without its looks.
-- Tests of a place and what is seen there ask for the offset alone; what stores nothing draws nothing; then by the list. Assumes nothing.
use Prim.Native.Nat.{ℕ}
use mathlib.Core.Bool.{true, false}
use mathlib.Core.List.{List, [], ◌∷◌, ◌++◌}
use mathlib.Core.Path.{◌≡◌, refl, sym, ap, ap₂, ◌∙◌, subst}
use lib.Dec.{eqb}
use Rattle.bits.specs.Choose.{pick, every_in}
use Rattle.std.specs.Cmp.{first_so, second_so}
use Rattle.bits.proofs.Cases.{by_test, pick_same}
use Rattle.chip.specs.declared.State.{State}
use Rattle.chip.specs.declared.Access.{Access}
use Rattle.chip.specs.declared.Answer.{Answer}
use Rattle.chip.specs.declared.Kind.{Kind}
use Rattle.chip.specs.declared.Place.{Place}
use Rattle.chip.specs.declared.Place.TheVariants.{Register, Address, PaletteData, Window, Blank, Nowhere}
use Rattle.chip.specs.declared.Seen.{Seen}
use Rattle.chip.specs.Access.{writing, looking, is_write, is_look}
use Rattle.chip.specs.Patch.{Patch, nothing_stored, applied, memory_with}
use Rattle.chip.specs.Place.{place_of}
use Rattle.chip.specs.Port.{known_in, word_in, fetch_patch, port_at}
use Rattle.chip.specs.Refusal.{port_of, later_lines, access_lines, status_of}
use Rattle.chip.specs.Picture.{diffs}
use Rattle.chip.specs.Step.{Outcome, refused, settled, seen_by, patch_of, state_after, memory_after, done_by, given_by, step_of}
use Rattle.chip.specs.Trace.{World, step, after, run}
use Rattle.chip.proofs.Operations.{look_writes_not}
use Rattle.chip.proofs.Redraw.{diffs_self}
use Rattle.promises.specs.Good.{status_at}
use Rattle.promises.specs.History.{accepted}
use Rattle.promises.specs.Looks.{SameShown, unlooked, answers_of, others_in}
use Rattle.promises.proofs.Patches.{patch_at}
use Rattle.promises.proofs.Worlds.{after_state, after_memory}
use Rattle.promises.proofs.Pictures.{counted}
use Rattle.promises.proofs.Answers.{read_leaves}
use Rattle.promises.proofs.Promise1Refusals.{access_status}

-- ---- what is not written has no word

abbrev asked : ℕ → ℕ → Kind → ℕ → ℕ → Access
asked t o k e w = record { target = t; offset = o; kind = k; enables = e; word = w }

abbrev world : State → List ℕ → List ℕ → World
world s m p = record { state = s; memory = m; picture = p }

-- an access with another's target, offset and enables
asked_as : (a b : Access) → b.target ≡ a.target → b.offset ≡ a.offset → b.enables ≡ a.enables → b ≡ asked a.target a.offset b.kind a.enables b.word
asked_as a b t o e =
    ap₂ (λ (x y : ℕ). asked x y b.kind b.enables b.word) t o ∙ ap (λ (z : ℕ). asked a.target a.offset b.kind z b.word) e

-- what a place is to two accesses that do not write
record Alike (s : State) (a b : Access) (p : Place) : Type 0 where
  present : (port_at s b p).present ≡ (port_at s a p).present
  reads : (port_at s b p).reads ≡ (port_at s a p).reads
  served : (port_at s b p).served ≡ (port_at s a p).served
  seen : (m : List ℕ) → (port_at s b p).seen m ≡ (port_at s a p).seen m
  fetched : (port_at s b p).fetched ≡ (port_at s a p).fetched

module _ (s : State) (t o e : ℕ) (k k' : Kind) (w w' : ℕ) where
  alike : (p : Place) → Alike s (asked t o k e w) (asked t o k' e w') p
  unfolding port_at fetch_patch
  alike (Register i) = record { present = refl; reads = refl; served = refl; seen = λ m. refl; fetched = refl }
  alike Address = record { present = refl; reads = refl; served = refl; seen = λ m. refl; fetched = refl }
  alike PaletteData = record { present = refl; reads = refl; served = refl; seen = λ m. refl; fetched = refl }
  alike (Window i) = record { present = refl; reads = refl; served = refl; seen = λ m. refl; fetched = refl }
  alike Blank = record { present = refl; reads = refl; served = refl; seen = λ m. refl; fetched = refl }
  alike Nowhere = record { present = refl; reads = refl; served = refl; seen = λ m. refl; fetched = refl }

  module _ (h : writing k ≡ false) (h' : writing k' ≡ false) where
    same_status : (ml pl : ℕ) → status_of s ml pl (asked t o k' e w') ≡ status_of s ml pl (asked t o k e w)
    unfolding status_of access_lines later_lines port_of is_write
    same_status ml pl =
        let q = alike (place_of s (asked t o k e w)) in
        simp (h, h', q.present, q.reads, q.served)

    same_seen : (m : List ℕ) → seen_by s m (asked t o k' e w') ≡ seen_by s m (asked t o k e w)
    unfolding seen_by port_of is_write
    same_seen m = simp (h, h') ((alike (place_of s (asked t o k e w))).seen m)

    same_patch : looking k' ≡ looking k → patch_of s (asked t o k' e w') ≡ patch_of s (asked t o k e w)
    unfolding patch_of port_of is_write is_look
    same_patch l = simp (h, h', l, (alike (place_of s (asked t o k e w))).fetched)

-- ---- an access as its status, what it stores and what it sees

abbrev outcome_by : State → List ℕ → List ℕ → ℕ → ℕ → Patch → Seen → Outcome
outcome_by s m p e n q v = pick (eqb n 0) (settled s m p (applied q s) (memory_with q m) (word_in v e) (known_in v e)) (refused n s m p)

step_by : (x : World) (a : Access)
    → step x a ≡ outcome_by x.state x.memory x.picture a.enables (status_at x a) (patch_of x.state a) (seen_by x.state x.memory a)
unfolding step_of given_by done_by state_after memory_after
step_by x a = refl

word_by_lem : (x : World) (a : Access) → (step x a).answer.word ≡ pick (eqb (status_at x a) 0) (word_in (seen_by x.state x.memory a) a.enables) 0
unfolding step_of given_by done_by settled refused
word_by_lem x a = by_test (eqb (status_at x a) 0) (λ z. simp z) (λ z. simp z)

known_by : (x : World) (a : Access) → (step x a).answer.known ≡ pick (eqb (status_at x a) 0) (known_in (seen_by x.state x.memory a) a.enables) 0
unfolding step_of given_by done_by settled refused
known_by x a = by_test (eqb (status_at x a) 0) (λ z. simp z) (λ z. simp z)

-- no dot changes where nothing is written
pub unchanged : (x : World) (a : Access) → is_write a ≡ false → (step x a).answer.changed ≡ 0
unchanged x a h = counted x a ∙ ap (diffs x.picture) (read_leaves x a h).picture ∙ diffs_self x.picture

module _ (x : World) (t o e : ℕ) (k k' : Kind) (w w' : ℕ) (h : writing k ≡ false) (h' : writing k' ≡ false) where
  abbrev a : Access
  a = asked t o k e w

  abbrev b : Access
  b = asked t o k' e w'

  status : status_at x b ≡ status_at x a
  status = same_status x.state t o e k k' w w' h h' _ _

  seen : seen_by x.state x.memory b ≡ seen_by x.state x.memory a
  seen = same_seen x.state t o e k k' w w' h h' x.memory

  answers_alike : SameShown (step x b).answer (step x a).answer
  unfolding is_write
  answers_alike =
      record {
        status = access_status x b ∙ status ∙ sym (access_status x a);
        word = word_by_lem x b ∙ ap₂ (λ (n : ℕ) (v : Seen). pick (eqb n 0) (word_in v e) 0) status seen ∙ sym (word_by_lem x a);
        known = known_by x b ∙ ap₂ (λ (n : ℕ) (v : Seen). pick (eqb n 0) (known_in v e) 0) status seen ∙ sym (known_by x a);
        changed = unchanged x b h' ∙ sym (unchanged x a h);
      }

  steps_alike : looking k' ≡ looking k → step x b ≡ step x a
  steps_alike l =
      step_by x b
      ∙ ap₂ (λ (n : ℕ) (v : Seen). outcome_by x.state x.memory x.picture e n (patch_of x.state b) v) status seen
      ∙ ap (λ (q : Patch). outcome_by x.state x.memory x.picture e (status_at x a) q (seen_by x.state x.memory a)) (same_patch x.state t o e k k' w w' h h' l)
      ∙ sym (step_by x a)

-- of two accesses with the same target, offset and enables that write nothing
module _ (x : World) (a b : Access) (h : is_write a ≡ false) (h' : is_write b ≡ false) (t : b.target ≡ a.target) (o : b.offset ≡ a.offset) (e : b.enables ≡ a.enables) where
  pub shown_alike : SameShown (step x b).answer (step x a).answer
  unfolding is_write
  shown_alike =
      subst (λ (c : Access). SameShown (step x c).answer (step x a).answer) (sym (asked_as a b t o e))
      (answers_alike x a.target a.offset a.enables a.kind b.kind a.word b.word h h')

  -- .. that are both reads, or both looks
  pub done_alike : is_look b ≡ is_look a → step x b ≡ step x a
  unfolding is_write is_look
  done_alike l =
      ap (step x) (asked_as a b t o e)
      ∙ steps_alike x a.target a.offset a.enables a.kind b.kind a.word b.word h h' l

-- ---- a look leaves the world

module _ (x : World) (a : Access) (k : is_look a ≡ true) where
  nothing : patch_at x a ≡ nothing_stored
  unfolding patch_at patch_of
  nothing = simp (look_writes_not a k, k) (pick_same (accepted x a) nothing_stored)

  same_state : (after x a).state ≡ x.state
  unfolding applied
  same_state = after_state x a ∙ ap (λ (q : Patch). applied q x.state) nothing

  same_memory : (after x a).memory ≡ x.memory
  unfolding memory_with
  same_memory = after_memory x a ∙ ap (λ (q : Patch). memory_with q x.memory) nothing

  pub look_leaves : after x a ≡ x
  look_leaves =
      ap₂ (λ (s : State) (m : List ℕ). world s m (after x a).picture) same_state same_memory
      ∙ ap (world x.state x.memory) (read_leaves x a (look_writes_not a k)).picture

-- ---- lists

pub answers_append : (x : World) (k l : List Access) → answers_of x (k ++ l) ≡ answers_of x k ++ answers_of (run x k) l
answers_append x [] l = refl
answers_append x (a ∷ k) l = ap (λ (r : List Answer). (step x a).answer ∷ r) (answers_append (after x a) k l)

-- looks alone leave the world
pub looks_leave : (x : World) (n : List Access) → every_in is_look n ≡ true → run x n ≡ x
looks_leave x [] e = refl
looks_leave x (a ∷ n) e =
    looks_leave (after x a) n (second_so (is_look a) _ e) ∙ look_leaves x a (first_so (is_look a) _ e)

pub runs_alike : (x : World) (l : List Access) → run x l ≡ run x (unlooked l)
runs_alike x [] = refl
runs_alike x (a ∷ l) =
    by_test (is_look a)
    (λ k. simp k (runs_alike (after x a) l ∙ ap (λ (y : World). run y (unlooked l)) (look_leaves x a k)))
    (λ k. simp k (runs_alike (after x a) l))

pub others_alike : (x : World) (l : List Access) → others_in l (answers_of x l) ≡ answers_of x (unlooked l)
others_alike x [] = refl
others_alike x (a ∷ l) =
    by_test (is_look a)
    (λ k. simp k (others_alike (after x a) l ∙ ap (λ (y : World). answers_of y (unlooked l)) (look_leaves x a k)))
    (λ k. simp k (ap (λ (r : List Answer). (step x a).answer ∷ r) (others_alike (after x a) l)))
