-- Answers: zero where unknown, nothing in lanes that are not enabled, 0 and 0 from a write; and a read alters nothing but the palette's pointer.
-- From the definition of the answer, refused or not. Assumes nothing.
use Prim.Native.Nat.{ℕ, ◌/◌, ◌^◌, ◌<◌}
use mathlib.Core.Bool.{Bool, true, false, ◌&&◌, and-false}
use mathlib.Core.List.{List}
use mathlib.Core.Option.{Option, none, get_or}
use mathlib.Core.Path.{◌≡◌, refl, sym, ap, ap₂, ◌∙◌, subst}
use native.Mathlib.Omega.{arith}
use borrow.Author.Tests.{eqb-true}
use lib.Dec.{eqb}
use Rattle.bits.specs.Bit.{bit}
use Rattle.bits.specs.Word.{inside, lanes_of}
use Rattle.bits.proofs.Cases.{pick_when}
use Rattle.bits.proofs.Single.{bit_of_zero}
use Rattle.bits.proofs.Words.{bit_inside, lane_bit, lanes_lt, inside_le, inside_zero}
use Rattle.chip.specs.declared.State.{State}
use Rattle.chip.specs.declared.Access.{Access}
use Rattle.chip.specs.Dac.{Paint}
use Rattle.chip.specs.Aperture.{put_all}
use Rattle.chip.specs.Patch.{Store, Patch, valued, learned, painted, applied, memory_with}
use Rattle.chip.specs.Port.{known_in, word_in}
use Rattle.chip.specs.Access.{is_write}
use Rattle.chip.specs.View.{View, base_of, stride_of, mask_of, not_indexed, unplaced, fixed_of, view_of}
use Rattle.chip.specs.Picture.{view_word, word_of}
use Rattle.chip.specs.Step.{Outcome, refused, settled, seen_by, done_by, given_by, step_of}
use Rattle.chip.specs.Trace.{World, step, after}
use Rattle.chip.proofs.Redraw.{redrawn_alike}
use Rattle.promises.specs.Good.{status_at}
use Rattle.promises.specs.History.{accepted}
use Rattle.promises.specs.View.{StepsOnly, LeavesRest}
use Rattle.promises.proofs.Patches.{patch_at}
use Rattle.promises.proofs.Does.{writes, does}
use Rattle.promises.proofs.Worlds.{after_state, after_memory}
use Rattle.promises.proofs.Shown.{enables_lt}

-- ---- by the two ways that an access can go

by_way : (P : Outcome → Type 0) (x : World) (a : Access)
    → (status_at x a ≡ 0 → P (done_by x.state x.memory x.picture a))
    → P (refused (status_at x a) x.state x.memory x.picture) → P (step x a)
unfolding step_of given_by
by_way P x a d r = pick_when P (eqb (status_at x a) 0) _ _ (λ q. d (eqb-true (status_at x a) 0 q)) (λ q. r)

zero_known : (k v : Bool) → k ≡ false → (v && k) ≡ false
zero_known k v e = ap (λ (t : Bool). v && t) e ∙ and-false v

-- a bit that is not known is zero
pub unknown_zero : (x : World) (a : Access) (b : ℕ) → bit b (step x a).answer.known ≡ false → bit b (step x a).answer.word ≡ false
unfolding done_by settled refused word_in
unknown_zero x a b =
    by_way (λ (o : Outcome). bit b o.answer.known ≡ false → bit b o.answer.word ≡ false) x a
    (λ d e. bit_inside b _ _ ∙ zero_known (bit b (known_in (seen_by x.state x.memory a) a.enables)) (bit b (seen_by x.state x.memory a).value) e)
    (λ e. bit_of_zero b)

-- a lane that is not enabled shows nothing
pub lane_off : (x : World) (a : Access) (b : ℕ) → b < 32 → bit (b / 8) a.enables ≡ false → bit b (step x a).answer.known ≡ false
unfolding done_by settled refused known_in
lane_off x a b hb e =
    by_way (λ (o : Outcome). bit b o.answer.known ≡ false) x a
    (λ d. bit_inside b _ (lanes_of a.enables) ∙ zero_known (bit b (lanes_of a.enables)) (bit b (seen_by x.state x.memory a).known) (lane_bit b a.enables hb (enables_lt x.state _ _ a d) ∙ e))
    (bit_of_zero b)

-- a write answers 0 and 0
pub write_answers : (x : World) (a : Access) → is_write a ≡ true → ((step x a).answer.word ≡ 0) × ((step x a).answer.known ≡ 0)
unfolding done_by settled refused seen_by word_in known_in
write_answers x a w =
    by_way (λ (o : Outcome). (o.answer.word ≡ 0) × (o.answer.known ≡ 0)) x a
    (λ d. (simp (w, inside_zero), simp (w, inside_zero))) (refl, refl)

-- an answer's word and known mask are words
pub answers_fit : (x : World) (a : Access) → ((step x a).answer.word < 2 ^ 32) × ((step x a).answer.known < 2 ^ 32)
unfolding done_by settled refused word_in known_in
answers_fit x a =
    by_way (λ (o : Outcome). (o.answer.word < 2 ^ 32) × (o.answer.known < 2 ^ 32)) x a
    (λ d.
    let s = seen_by x.state x.memory a in
    let l = lanes_lt a.enables in
    let k = inside_le s.known (lanes_of a.enables) in
    let v = inside_le s.value (inside s.known (lanes_of a.enables)) in
    (omega arith, omega arith))
    (omega arith, omega arith)

-- ---- a read

-- a state after nothing but the palette's pointer was stored
stepped_state : (p : Patch) (s : State) → p.store ≡ none → p.once ≡ none → p.paint ≡ none → StepsOnly s (applied p s)
unfolding applied
stepped_state p s e o q =
    record {
      width = refl;
      height = refl;
      fitted = refl;
      once = ap (λ (h : Option ℕ). get_or h s.once) o;
      values = ap (λ (h : Option Store). valued h s.values) e;
      knowns = ap (λ (h : Option Store). learned h s.knowns) e;
      palette = ap (λ (h : Option Paint). painted h s.palette) q;
    }

-- a view does not ask for it
still_view : (s n : State) → StepsOnly s n → view_of s ≡ view_of n
unfolding view_of fixed_of unplaced not_indexed mask_of stride_of base_of
still_view s n e = simp (e.width, e.height, e.values, e.knowns, e.palette)

still_word : (s n : State) (m k : List ℕ) → StepsOnly s n → k ≡ m → (j : ℕ) → word_of s m j ≡ word_of n k j
unfolding word_of
still_word s n m k e f j = ap₂ (λ (v : View) (l : List ℕ). view_word v l j) (still_view s n e) (sym f)

not_written : (x : World) (a : Access) → is_write a ≡ false → writes x a ≡ false
not_written x a w = simp w (and-false (accepted x a))

read_state : (x : World) (a : Access) → is_write a ≡ false → StepsOnly x.state (after x a).state
read_state x a w =
    let d = does x a in
    let n = not_written x a w in
    subst (StepsOnly x.state) (sym (after_state x a))
    (stepped_state (patch_at x a) x.state (simp n at d.store) (simp n at d.once) (simp w at d.paint))

read_memory : (x : World) (a : Access) → is_write a ≡ false → (after x a).memory ≡ x.memory
unfolding memory_with
read_memory x a w = after_memory x a ∙ ap (put_all x.memory) (simp (not_written x a w) at (does x a).puts)

pub still_picture : (x : World) (a : Access) → StepsOnly x.state (after x a).state → (after x a).memory ≡ x.memory → (after x a).picture ≡ x.picture
unfolding done_by settled refused
still_picture x a =
    by_way (λ (o : Outcome). StepsOnly x.state o.answer.state → o.memory ≡ x.memory → o.picture ≡ x.picture) x a
    (λ d e f. redrawn_alike _ _ x.picture (still_word x.state _ x.memory _ e f)) (λ e f. refl)

-- a read or a look, accepted or refused, alters nothing but the palette's address, component and stage
pub read_leaves : (x : World) (a : Access) → is_write a ≡ false → LeavesRest x (after x a)
read_leaves x a w =
    let e = read_state x a w in
    let f = read_memory x a w in
    record { state = e; memory = f; picture = still_picture x a e f }
