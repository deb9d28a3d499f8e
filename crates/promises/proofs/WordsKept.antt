-- What the registers hold, what is known of them and of the address, and the palette's entries, are words after every opening, and stay words along any list of accesses.
-- The tables' rows by one computed test; a write stores a word's bits. Assumes nothing.
use Prim.Native.Nat.{ℕ, zero, suc, ◌^◌, ◌<◌}
use mathlib.Core.Bool.{Bool, true, ◌&&◌}
use mathlib.Core.List.{List, [], ◌∷◌}
use mathlib.Core.Option.{Option, none, some}
use mathlib.Core.Path.{◌≡◌, refl, sym, ap, ◌∙◌, subst}
use native.Mathlib.Omega.{arith}
use borrow.Author.Tests.{leb-true}
use lib.Dec.{leb}
use lib.ListN.{get_or}
use Rattle.bits.specs.Choose.{every_in}
use Rattle.bits.specs.Word.{full, merged}
use Rattle.bits.proofs.Cases.{by_test, pick_by}
use Rattle.std.specs.Cmp.{first_so, second_so}
use Rattle.bits.proofs.Lists.{set_lt, zeros_at}
use Rattle.bits.proofs.Words.{inside_le, outside_lt, joined_lt}
use Rattle.chip.specs.declared.State.{State}
use Rattle.chip.specs.declared.Dac.{Dac}
use Rattle.chip.specs.declared.Access.{Access}
use Rattle.chip.specs.Row.{Row, absent}
use Rattle.chip.specs.Bank.{bank_rows, bank_row}
use Rattle.chip.specs.Palette.{entry_count, empty_palette}
use Rattle.chip.specs.Dac.{reset_dac}
use Rattle.chip.specs.Patch.{Store, valued, learned, applied}
use Rattle.chip.specs.Place.{place_of}
use Rattle.chip.specs.Port.{row_patch}
use Rattle.chip.specs.State.{reset_state}
use Rattle.chip.specs.Trace.{World, opened, after, run}
use Rattle.chip.proofs.Computed.{computed}
use Rattle.chip.proofs.Tables.{resets_at, knowns_at}
use Rattle.promises.specs.Good.{Good, Openable}
use Rattle.promises.specs.Reach.{reach_at}
use Rattle.promises.specs.History.{is_aim, is_data}
use Rattle.promises.specs.Loads.{disturbs}
use Rattle.promises.specs.Refusals.{Words}
use Rattle.promises.proofs.Bank.{stored_lt}
use Rattle.promises.proofs.Patches.{patch_at}
use Rattle.promises.proofs.Stages.{paint_shaded, painted_lt}
use Rattle.promises.proofs.Does.{store_from, writes, does}
use Rattle.promises.proofs.Worlds.{after_state, good_kept, opens, opened_good}
use Rattle.promises.proofs.Only.{aim_after, data_after, calm_after}

-- ---- at reset

words_test : Row → Bool
words_test r = leb r.reset full && leb r.known full

words_all : every_in words_test bank_rows ≡ true
unfolding words_test computed
words_all = refl

-- each row passes, and so does what stands past the last
row_passes : (t : Row → Bool) (l : List Row) → every_in t l ≡ true → t absent ≡ true → (i : ℕ) → t (get_or l i absent) ≡ true
row_passes t [] e z zero = z
row_passes t [] e z (suc i) = z
row_passes t (r ∷ l) e z zero = first_so (t r) _ e
row_passes t (r ∷ l) e z (suc i) = row_passes t l (second_so (t r) _ e) z i

row_words : (i : ℕ) → ((bank_row i).reset < 2 ^ 32) × ((bank_row i).known < 2 ^ 32)
unfolding bank_row words_test
row_words i =
    let z = row_passes words_test bank_rows words_all refl i in
    let r = leb-true (get_or bank_rows i absent).reset full (first_so (leb (get_or bank_rows i absent).reset full) (leb (get_or bank_rows i absent).known full) z) in
    let k = leb-true (get_or bank_rows i absent).known full (second_so (leb (get_or bank_rows i absent).reset full) (leb (get_or bank_rows i absent).known full) z) in
    (omega arith, omega arith)

reset_words : (w h f : ℕ) → Words (reset_state w h f)
unfolding reset_state reset_dac empty_palette
reset_words w h f =
    record {
      values = λ i. subst (λ (v : ℕ). v < 2 ^ 32) (sym (resets_at i)) (row_words i).0;
      knowns = λ i. subst (λ (v : ℕ). v < 2 ^ 32) (sym (knowns_at i)) (row_words i).1;
      palette = λ e. omega (arith, zeros_at entry_count e);
      address = omega arith;
    }

-- ---- after an access

pub merged_lt : (v w m : ℕ) → m < 2 ^ 32 → merged v w m < 2 ^ 32
unfolding merged
merged_lt v w m h = joined_lt _ _ (outside_lt v m) (let z = inside_le w m in omega arith)

module _ (s : State) (a : Access) (h : Words s) where
  values_from : (o : Option ℕ) (k : ℕ) → get_or (valued (store_from s a o) s.values) k 0 < 2 ^ 32
  unfolding row_patch
  values_from none k = h.values k
  values_from (some i) k = set_lt s.values i _ (2 ^ 32) h.values (merged_lt _ _ _ (stored_lt s.once i a.enables a.word)) k

  knowns_from : (o : Option ℕ) (k : ℕ) → get_or (learned (store_from s a o) s.knowns) k 0 < 2 ^ 32
  unfolding row_patch
  knowns_from none k = h.knowns k
  knowns_from (some i) k = set_lt s.knowns i _ (2 ^ 32) h.knowns (joined_lt _ _ (h.knowns i) (stored_lt s.once i a.enables a.word)) k

known_after : (x : World) (a : Access) → Good x → Words x.state → (after x a).state.dac.known < 2 ^ 32
unfolding disturbs
known_after x a g h =
    by_test (is_aim x a)
    (λ t. let z = (aim_after x a t).known in omega arith)
    (λ t.
    by_test (is_data x a)
    (λ u. let z = (data_after x a g u).known in omega (arith, h.address))
    (λ u. let z : (after x a).state.dac.known ≡ x.state.dac.known = ap (λ (d : Dac). d.known) (calm_after x a (simp (t, u))) in omega (arith, h.address)))

pub words_kept : (x : World) (a : Access) → Good x → Words x.state → Words (after x a).state
unfolding applied
words_kept x a g h =
    let e = after_state x a in
    let z = does x a in
    record {
      values = λ k.
          subst (λ (l : List ℕ). get_or l k 0 < 2 ^ 32) (sym (ap (λ (s : State). s.values) e ∙ ap (λ (o : Option Store). valued o x.state.values) z.store))
          (pick_by (λ (o : Option Store). get_or (valued o x.state.values) k 0 < 2 ^ 32) (writes x a) _ none (values_from x.state a h (reach_at (place_of x.state a)).row k) (h.values k));
      knowns = λ k.
          subst (λ (l : List ℕ). get_or l k 0 < 2 ^ 32) (sym (ap (λ (s : State). s.knowns) e ∙ ap (λ (o : Option Store). learned o x.state.knowns) z.store))
          (pick_by (λ (o : Option Store). get_or (learned o x.state.knowns) k 0 < 2 ^ 32) (writes x a) _ none (knowns_from x.state a h (reach_at (place_of x.state a)).row k) (h.knowns k));
      palette = λ k. subst (λ (l : List ℕ). get_or l k 0 < 2 ^ 32) (sym (ap (λ (s : State). s.palette) e)) (painted_lt (patch_at x a).paint x.state.palette (paint_shaded x a g.formed.stage) h.palette k);
      address = known_after x a g h;
    }

words_along : (x : World) (l : List Access) → Good x → Words x.state → Words (run x l).state
words_along x [] g h = h
words_along x (a ∷ l) g h = words_along (after x a) l (good_kept x a g) (words_kept x a g h)

pub opened_words : (w h : ℕ) (m p : List ℕ) → Openable w h m p → (l : List Access) → Words (run (opened w h m p) l).state
opened_words w h m p o l =
    words_along (opened w h m p) l (opened_good w h m p o) (subst Words (sym (opens w h m p o.accepted).state) (reset_words w h _))
