-- An access that stores nothing alters nothing: state, memory and picture are as before, and no dot is counted.
-- What is stored is zero bits of a row, and nothing else; then each part of the state is as it was, and the picture is drawn from the same. Assumes nothing.
use Prim.Native.Nat.{ℕ, zero, suc, ◌^◌, ◌<◌}
use mathlib.Core.Bool.{true, false, and-false, or-false}
use mathlib.Core.List.{List, [], ◌∷◌}
use mathlib.Core.Option.{Option, none, some}
use mathlib.Core.Path.{◌≡◌, refl, sym, ap, ◌∙◌, subst}
use native.Mathlib.Omega.{arith}
use lib.Dec.{eqb}
use lib.ListN.{get_or, set}
use Rattle.bits.specs.Bit.{bit}
use Rattle.bits.specs.Word.{joined, merged, lanes_of}
use Rattle.bits.proofs.Cases.{pick_when}
use Rattle.bits.proofs.Single.{bit_of_zero, by_bits, no_bits}
use Rattle.bits.proofs.Words.{bit_inside, bit_joined, bit_merged, inside_lt_left, joined_lt, lanes_lt}
use Rattle.chip.specs.declared.State.{State}
use Rattle.chip.specs.declared.Access.{Access}
use Rattle.chip.specs.declared.Place.{Place}
use Rattle.chip.specs.declared.Place.TheVariants.{Register, Blank}
use Rattle.chip.specs.Bank.{bank_row, subsystem}
use Rattle.chip.specs.Aperture.{Put, put_all}
use Rattle.chip.specs.Register.{moved_bits, brought_word}
use Rattle.chip.specs.Subsystem.{stored_bits, fixed_by}
use Rattle.chip.specs.Patch.{Patch, Store, valued, learned, applied, memory_with}
use Rattle.chip.specs.Place.{place_of}
use Rattle.chip.specs.Port.{row_patch}
use Rattle.chip.specs.Access.{is_write}
use Rattle.chip.specs.Picture.{diffs}
use Rattle.chip.specs.Trace.{World, step, after}
use Rattle.chip.proofs.Redraw.{diffs_self}
use Rattle.promises.specs.Reach.{reach_at}
use Rattle.promises.specs.History.{is_aim, is_data}
use Rattle.promises.specs.Refusals.{Words}
use Rattle.promises.specs.View.{StepsOnly, Idle}
use Rattle.promises.proofs.Options.{some_is, absurd_put}
use Rattle.promises.proofs.Pictures.{counted}
use Rattle.promises.proofs.WordsKept.{merged_lt}
use Rattle.promises.proofs.Patches.{patch_at}
use Rattle.promises.proofs.Does.{store_from, once_from, puts_from, writes, does}
use Rattle.promises.proofs.Worlds.{after_state, after_memory}
use Rattle.promises.proofs.Answers.{write_answers, still_picture}

merged_zero : (v w : ℕ) → v < 2 ^ 32 → merged v w 0 ≡ v
merged_zero v w h = by_bits 32 _ _ (merged_lt v w 0 (omega arith)) h (λ b hb. bit_merged b v w 0 hb (omega arith) ∙ simp (bit_of_zero b))

joined_none : (v : ℕ) → v < 2 ^ 32 → joined v 0 ≡ v
joined_none v h = by_bits 32 _ _ (joined_lt v 0 h (omega arith)) h (λ b hb. bit_joined b v 0 ∙ simp (bit_of_zero b) (or-false (bit b v)))

set_same : (l : List ℕ) (i : ℕ) → set l i (get_or l i 0) ≡ l
set_same [] i = refl
set_same (x ∷ l) zero = refl
set_same (x ∷ l) (suc i) = ap (λ (k : List ℕ). x ∷ k) (set_same l i)

-- a patch that stores nothing of anything leaves a state
quiet : (p : Patch) (s : State) → valued p.store s.values ≡ s.values → learned p.store s.knowns ≡ s.knowns → p.once ≡ none → p.dac ≡ none
    → p.paint ≡ none → applied p s ≡ s
unfolding applied
quiet p s v k o d q = simp (v, k, o, d, q)

-- a register that no write may change, other than the subsystem numbers
vain_stored : (i : ℕ) → eqb i subsystem ≡ false → (bank_row i).writable ≡ 0 → (bank_row i).clears ≡ 0 → (once e w : ℕ) → stored_bits once i e w ≡ 0
unfolding stored_bits moved_bits
vain_stored i s v c once e w =
    simp (s, v, c)
    (no_bits 32 _ (inside_lt_left _ _ (lanes_lt e)) (λ b hb. simp (bit_inside, bit_joined, bit_of_zero b) (and-false (bit b (lanes_of e)))))

vain_fixed : (i : ℕ) → eqb i subsystem ≡ false → (once e : ℕ) → fixed_by once i e ≡ none
unfolding fixed_by
vain_fixed i s once e = simp s

row_names : (p : Place) (i : ℕ) → p ≡ Register i → (reach_at p).row ≡ some i
unfolding reach_at
row_names p i e = ap (λ (q : Place). (reach_at q).row) e

-- no bit of a register and no number's flag, no address, component or entry, no byte
pub record StoresNone (x : World) (a : Access) : Type 0 where
  pub bits : (i : ℕ) → (reach_at (place_of x.state a)).row ≡ some i → writes x a ≡ true → stored_bits x.state.once i a.enables a.word ≡ 0
  pub flags : (i : ℕ) → (reach_at (place_of x.state a)).row ≡ some i → writes x a ≡ true → fixed_by x.state.once i a.enables ≡ none
  pub aim : is_aim x a ≡ false
  pub paint : is_data x a ≡ false
  pub bytes : writes x a ≡ true → (reach_at (place_of x.state a)).window ≡ none

module _ (x : World) (a : Access) (h : Words x.state) (n : StoresNone x a) where
  keeps_values : (o : Option ℕ) → (reach_at (place_of x.state a)).row ≡ o → writes x a ≡ true → valued (store_from x.state a o) x.state.values ≡ x.state.values
  unfolding row_patch
  keeps_values none e w = refl
  keeps_values (some i) e w =
      simp (n.bits i e w, merged_zero (get_or x.state.values i 0) (brought_word (bank_row i) a.word) (h.values i)) (set_same x.state.values i)

  keeps_knowns : (o : Option ℕ) → (reach_at (place_of x.state a)).row ≡ o → writes x a ≡ true → learned (store_from x.state a o) x.state.knowns ≡ x.state.knowns
  unfolding row_patch
  keeps_knowns none e w = refl
  keeps_knowns (some i) e w = simp (n.bits i e w, joined_none (get_or x.state.knowns i 0) (h.knowns i)) (set_same x.state.knowns i)

  fixes_none : (o : Option ℕ) → (reach_at (place_of x.state a)).row ≡ o → writes x a ≡ true → once_from x.state a o ≡ none
  unfolding row_patch
  fixes_none none e w = refl
  fixes_none (some i) e w = n.flags i e w

  same_state : (after x a).state ≡ x.state
  same_state =
      let z = does x a in
      after_state x a
      ∙ quiet (patch_at x a) x.state
      (ap (λ (o : Option Store). valued o x.state.values) z.store
      ∙ pick_when (λ (o : Option Store). valued o x.state.values ≡ x.state.values) (writes x a) _ none (keeps_values _ refl) (λ w. refl))
      (ap (λ (o : Option Store). learned o x.state.knowns) z.store
      ∙ pick_when (λ (o : Option Store). learned o x.state.knowns ≡ x.state.knowns) (writes x a) _ none (keeps_knowns _ refl) (λ w. refl))
      (z.once ∙ pick_when (λ (o : Option ℕ). o ≡ none) (writes x a) _ none (fixes_none _ refl) (λ w. refl))
      (z.dac ∙ simp (n.aim, n.paint))
      (z.paint ∙ simp (n.paint, and-false))

  same_memory : (after x a).memory ≡ x.memory
  unfolding memory_with
  same_memory =
      after_memory x a
      ∙ ap (put_all x.memory)
      ((does x a).puts
      ∙ pick_when (λ (l : List Put). l ≡ []) (writes x a) _ [] (λ w. ap (puts_from x.state a) (n.bytes w)) (λ w. refl))

  same_picture : (after x a).picture ≡ x.picture
  same_picture =
      still_picture x a
      (subst (StepsOnly x.state) (sym same_state)
      (record { width = refl; height = refl; fitted = refl; once = refl; values = refl; knowns = refl; palette = refl })) same_memory

  -- with an answer of 0 and 0 it did nothing and showed nothing
  pub idle_by : (step x a).answer.word ≡ 0 → (step x a).answer.known ≡ 0 → Idle x a
  idle_by v k =
      record {
        state = same_state;
        memory = same_memory;
        picture = same_picture;
        word = v;
        known = k;
        changed = counted x a ∙ ap (diffs x.picture) same_picture ∙ diffs_self x.picture;
      }

-- ---- a write that leads to an offset of the header without a register, or to a register that no write may change

module _ (x : World) (a : Access) (h : Words x.state) (w : is_write a ≡ true) where
  silent_idle : StoresNone x a → Idle x a
  silent_idle n = let z = write_answers x a w in idle_by x a h n z.0 z.1

  pub blank_idle : place_of x.state a ≡ Blank → Idle x a
  unfolding is_aim is_data reach_at
  blank_idle e =
      silent_idle
      (record {
        bits = λ i q w. absurd_put none i refl (sym (ap (λ (p : Place). (reach_at p).row) e) ∙ q);
        flags = λ i q w. absurd_put none i refl (sym (ap (λ (p : Place). (reach_at p).row) e) ∙ q);
        aim = simp (e, and-false);
        paint = simp (e, and-false);
        bytes = λ w. ap (λ (p : Place). (reach_at p).window) e;
      })

  pub vain_idle : (i : ℕ) → place_of x.state a ≡ Register i → eqb i subsystem ≡ false → (bank_row i).writable ≡ 0 → (bank_row i).clears ≡ 0 → Idle x a
  unfolding is_aim is_data reach_at
  vain_idle i e s v c =
      silent_idle
      (record {
        bits = λ j q w. subst (λ (k : ℕ). stored_bits x.state.once k a.enables a.word ≡ 0) (row_is j q) vain_bits;
        flags = λ j q w. subst (λ (k : ℕ). fixed_by x.state.once k a.enables ≡ none) (row_is j q) vain_flags;
        aim = simp (e, and-false);
        paint = simp (e, and-false);
        bytes = λ w. ap (λ (p : Place). (reach_at p).window) e;
      })
    where
      row_is : (j : ℕ) → (reach_at (place_of x.state a)).row ≡ some j → i ≡ j
      row_is j q = some_is {x = i} (sym (row_names (place_of x.state a) i e) ∙ q)

      vain_bits : stored_bits x.state.once i a.enables a.word ≡ 0
      vain_bits = vain_stored i s v c x.state.once a.enables a.word

      vain_flags : fixed_by x.state.once i a.enables ≡ none
      vain_flags = vain_fixed i s x.state.once a.enables
