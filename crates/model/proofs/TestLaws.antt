-- The lines 5 to 7 at places that are always there or never, the status at the place of an access, and refusal 1 as the code groups its tests.
-- Each by cases on the test. Assumes nothing.
use Prim.Native.Nat.{ℕ, ◌*◌}
use mathlib.Core.Bool.{Bool, true, false, ◌&&◌}
use mathlib.Core.Logic.{◌⊎◌, inl, inr}
use mathlib.Core.Path.{◌≡◌, refl, sym, ap, ap₂, ◌∙◌}
use native.Mathlib.Omega.{arith}
use borrow.Author.Tests.{eqb-true}
use lib.Dec.{eqb}
use Rattle.std.specs.Cmp.{second_so}
use Rattle.bits.proofs.Cases.{by_test, pick_same}
use Rattle.chip.specs.declared.Place.{Place}
use Rattle.chip.specs.declared.Place.TheVariants.{Address, PaletteData, Blank, Nowhere}
use Rattle.chip.specs.declared.State.{State}
use Rattle.chip.specs.declared.Access.{Access}
use Rattle.chip.specs.Place.{place_of}
use Rattle.chip.specs.Port.{port_at}
use Rattle.chip.specs.Refusal.{first_of, port_of, later_lines, later_status}
use Rattle.chip.specs.Sound.{panel_ok, memory_ok, component_ok, address_ok, once_ok, bank_sound, is_state}
use Rattle.chip.specs.Palette.{palette_ok}
use Rattle.model.specs.Parts.{sizes_ok}
use Rattle.model.specs.Stages.{place_lines, later_from, later_at}

-- a place that is always there, and the one that never is
pub open_place : (s : State) (a : Access) (p : Place) (w : Bool) → (p ≡ Address) ⊎ ((p ≡ PaletteData) ⊎ (p ≡ Blank)) → first_of (place_lines (port_at s a p) w) ≡ 0
unfolding port_at place_lines
open_place s a p w (inl e) = simp (e, pick_same w true)
open_place s a p w (inr (inl e)) = simp (e, pick_same w true)
open_place s a p w (inr (inr e)) = simp (e, pick_same w true)

pub no_place : (s : State) (a : Access) (p : Place) (w : Bool) → p ≡ Nowhere → first_of (place_lines (port_at s a p) w) ≡ 5
unfolding port_at place_lines
no_place s a p w e = rw e refl

-- at the place of the access they are the definition's
pub later_is : (s : State) (ml pl : ℕ) (a : Access) (p : Place) → p ≡ place_of s a → later_at s ml pl a p ≡ later_status s ml pl a
unfolding later_at later_from place_lines later_status later_lines port_of
later_is s ml pl a p e = ap (λ (x : Place). later_at s ml pl a x) e

-- where none holds, the picture has the panel's size
pub lent_size : (s : State) (ml pl : ℕ) (a : Access) → later_status s ml pl a ≡ 0 → pl ≡ s.width * s.height
unfolding later_status later_lines
lent_size s ml pl a e =
    let t : (eqb ml s.fitted && eqb pl (s.width * s.height)) ≡ true = by_test (eqb ml s.fitted && eqb pl (s.width * s.height)) (λ u. u) (λ u. absurd (let z : 2 ≡ 0 = sym (simp u) ∙ e in omega arith)) in
    eqb-true pl (s.width * s.height) (second_so (eqb ml s.fitted) (eqb pl (s.width * s.height)) t)

-- ---- refusal 1 as the code groups and joins its tests

grouped : (a b c d e f g : Bool) → ((((a && (b && e)) && (c && d)) && f) && g) ≡ (a && (b && (c && (d && (e && (f && (g && true)))))))
grouped false b c d e f g = refl
grouped true false c d e f g = refl
grouped true true false d true f g = refl
grouped true true false d false f g = refl
grouped true true true false true f g = refl
grouped true true true false false f g = refl
grouped true true true true false f g = refl
grouped true true true true true false g = refl
grouped true true true true true true true = refl
grouped true true true true true true false = refl

pub all_tests : (s : State) (a b c d : Bool) → a ≡ sizes_ok s.width s.height s.fitted s.once → b ≡ (component_ok s.dac && address_ok s.dac)
    → c ≡ bank_sound s.once s.values s.knowns → d ≡ palette_ok s.palette → (((a && b) && c) && d) ≡ is_state s
unfolding sizes_ok is_state
all_tests s a b c d p q u v =
    ap₂ ◌&&◌ (ap₂ ◌&&◌ (ap₂ ◌&&◌ p q) u) v
    ∙ grouped (panel_ok s.width s.height) (memory_ok s.fitted) (component_ok s.dac) (address_ok s.dac) (once_ok s.once) _ (palette_ok s.palette)
