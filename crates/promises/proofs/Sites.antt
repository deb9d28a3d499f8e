-- A place by what it reaches, and where it can be found: a row that there is, palette data only where the address is known.
-- By the places, and by the choices of which a place is made. Assumes nothing.
use Prim.Native.Nat.{ℕ, ◌<◌}
use mathlib.Core.Bool.{true}
use mathlib.Core.Option.{Option, none, some}
use mathlib.Core.Path.{◌≡◌, refl, sym, ap, ◌∙◌, subst}
use native.Mathlib.Omega.{arith}
use borrow.Author.Tests.{eqb-true, ltb-true}
use lib.Dec.{eqb, ltb, leb}
use Rattle.bits.proofs.Cases.{by_test, pick_by, pick_when}
use Rattle.chip.specs.declared.State.{State}
use Rattle.chip.specs.declared.Access.{Access}
use Rattle.chip.specs.declared.Dac.{Dac}
use Rattle.chip.specs.declared.Place.{Place}
use Rattle.chip.specs.declared.Place.TheVariants.{Register, Address, PaletteData, Window, Blank, Nowhere}
use Rattle.chip.specs.Bank.{bank_count, region_count, indirect_first, region_at, header_at, indirect_at, indirect_entry, aperture_one, aperture_two}
use Rattle.chip.specs.Dac.{address_known}
use Rattle.chip.specs.Place.{data_place, indexed_place, region_place, header_place, place_at, place_of}
use Rattle.promises.specs.Reach.{reach_at}

-- what a place reaches says which place it is
pub record Names (p : Place) : Type 0 where
  pub row : (i : ℕ) → (reach_at p).row ≡ some i → p ≡ Register i
  pub aims : (reach_at p).aims ≡ true → p ≡ Address
  pub paints : (reach_at p).paints ≡ true → p ≡ PaletteData
  pub window : (i : ℕ) → (reach_at p).window ≡ some i → p ≡ Window i

pub names : (p : Place) → Names p
unfolding reach_at
names (Register i) = record { row = λ j e. cc; aims = λ e. cc; paints = λ e. cc; window = λ j e. cc }
names Address = record { row = λ j e. cc; aims = λ e. cc; paints = λ e. cc; window = λ j e. cc }
names PaletteData = record { row = λ j e. cc; aims = λ e. cc; paints = λ e. cc; window = λ j e. cc }
names (Window i) = record { row = λ j e. cc; aims = λ e. cc; paints = λ e. cc; window = λ j e. cc }
names Blank = record { row = λ j e. cc; aims = λ e. cc; paints = λ e. cc; window = λ j e. cc }
names Nowhere = record { row = λ j e. cc; aims = λ e. cc; paints = λ e. cc; window = λ j e. cc }

-- ---- where a place can be found

unfoldable Sited : Dac → Place → Type 0
Sited d (Register i) = i < bank_count
Sited d Address = Unit {0}
Sited d PaletteData = d.known ≡ 0xFF
Sited d (Window i) = i < bank_count
Sited d Blank = Unit {0}
Sited d Nowhere = Unit {0}

indexed_sited : (d : Dac) → Sited d (indexed_place d)
unfolding indexed_place Sited indirect_entry
indexed_sited d =
    pick_by (Sited d) (address_known d) _ Nowhere
    (pick_when (Sited d) (ltb (indirect_at d.address) bank_count) (Register (indirect_at d.address)) Nowhere (λ q. ltb-true _ bank_count q) (λ q. tt)) tt

data_sited : (d : Dac) → Sited d (data_place d)
unfolding data_place Sited address_known
data_sited d = pick_when (Sited d) (eqb d.known 0xFF) PaletteData Nowhere (λ q. eqb-true d.known 0xFF q) (λ q. tt)

region_sited : (d : Dac) (o : ℕ) → Sited d (region_place d o)
unfolding region_place Sited
region_sited d o =
    pick_by (Sited d) (eqb o 0x4000) Address _ tt
    (pick_by (Sited d) (eqb o 0x4008) (data_place d) _ (data_sited d)
    (pick_by (Sited d) (eqb o 0x4018) Address _ tt
    (pick_by (Sited d) (eqb o 0x4050) (indexed_place d) _ (indexed_sited d)
    (pick_when (Sited d) (ltb (region_at o) region_count) (Register (region_at o)) Nowhere (λ q. omega (arith, ltb-true (region_at o) region_count q)) (λ q. tt)))))

header_sited : (d : Dac) (o : ℕ) → Sited d (header_place o)
unfolding header_place Sited
header_sited d o =
    pick_by (Sited d) (leb o 0xFC) _ Nowhere
    (pick_when (Sited d) (ltb (header_at o) indirect_first) (Register (header_at o)) Blank (λ q. omega (arith, ltb-true (header_at o) indirect_first q)) (λ q. tt)) tt

sited : (d : Dac) (t o : ℕ) → Sited d (place_at d t o)
unfolding place_at Sited
sited d t o =
    pick_by (Sited d) (eqb t 0) _ _ (region_sited d o)
    (pick_by (Sited d) (eqb t 1) (Window aperture_one) _ (omega arith)
    (pick_by (Sited d) (eqb t 2) (Window aperture_two) _ (omega arith)
    (pick_by (Sited d) (eqb t 3) _ Nowhere (header_sited d o) tt)))

module _ (s : State) (a : Access) where
  pub row_there : (i : ℕ) → place_of s a ≡ Register i → i < bank_count
  unfolding Sited
  row_there i e = subst (Sited s.dac) e (sited s.dac a.target a.offset)

  pub address_there : place_of s a ≡ PaletteData → s.dac.known ≡ 0xFF
  unfolding Sited
  address_there e = subst (Sited s.dac) e (sited s.dac a.target a.offset)

-- ---- region 0 has no window, so where an aperture access leads does not depend on the state

pub region_plain : (d : Dac) (o : ℕ) → (reach_at (region_place d o)).window ≡ none
unfolding region_place data_place indexed_place reach_at
region_plain d o =
    pick_by (λ (p : Place). (reach_at p).window ≡ none) (eqb o 0x4000) Address _ refl
    (pick_by (λ (p : Place). (reach_at p).window ≡ none) (eqb o 0x4008) _ _ (pick_by (λ (p : Place). (reach_at p).window ≡ none) (address_known d) PaletteData Nowhere refl refl)
    (pick_by (λ (p : Place). (reach_at p).window ≡ none) (eqb o 0x4018) Address _ refl
    (pick_by (λ (p : Place). (reach_at p).window ≡ none) (eqb o 0x4050) _ _
    (pick_by (λ (p : Place). (reach_at p).window ≡ none) (address_known d) _ Nowhere
    (pick_by (λ (p : Place). (reach_at p).window ≡ none) (indirect_entry d.address).exists (Register (indirect_at d.address)) Nowhere refl refl) refl)
    (pick_by (λ (p : Place). (reach_at p).window ≡ none) (ltb (region_at o) region_count) (Register (region_at o)) Nowhere refl refl))))

pub window_there : (s n : State) (a : Access) (i : ℕ) → place_of s a ≡ Window i → place_of n a ≡ Window i
unfolding place_at reach_at
window_there s n a i e =
    by_test (eqb a.target 0)
    (λ t. never (sym (region_plain s.dac a.offset) ∙ ap (λ (p : Place). (reach_at p).window) (simp t at e)))
    (λ t. simp t (simp t at e))
  where
    never : ◌≡◌ {A = Option ℕ} none (some i) → place_at n.dac a.target a.offset ≡ Window i
    never z = cc
