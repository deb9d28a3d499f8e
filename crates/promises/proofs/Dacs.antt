-- The address, the component and the stage after each palette access: a component of 0, 1 or 2, and a known byte for an address.
-- By cases on the component; that a known byte is an address by one computed test. Assumes nothing.
use Prim.Native.Nat.{ℕ, ◌+◌, ◌<◌}
use mathlib.Core.Bool.{Bool, true, ◌&&◌}
use mathlib.Core.Path.{◌≡◌, refl, ◌∙◌}
use native.Mathlib.Nat.{mod-lt}
use native.Mathlib.Omega.{arith}
use borrow.Author.Tests.{le-leb, ltb-true}
use lib.Dec.{eqb, ltb}
use Rattle.bits.specs.Choose.{every_to}
use Rattle.bits.specs.Word.{outside, joined, parted, lane_byte}
use Rattle.bits.proofs.Cases.{by_test, pick_by}
use Rattle.bits.proofs.Bools.{every_at}
use Rattle.chip.specs.declared.Dac.{Dac}
use Rattle.chip.specs.Register.{faults}
use Rattle.chip.specs.Dac.{aimed_at, advanced, after_paint}
use Rattle.chip.specs.Sound.{component_ok, address_ok}

-- ---- the address and the component

-- a known byte is an address, by one computed test
byte_address : ℕ → Bool
byte_address v = eqb (faults v 0xFF 0xFF 0 0) 0

bytes_are : every_to byte_address 256 ≡ true
unfolding byte_address faults Rattle.chip.specs.Register.unlike outside joined parted
bytes_are = refl

pub known_address : (d : Dac) → d.known ≡ 0xFF → d.address < 256 → address_ok d ≡ true
unfolding address_ok byte_address
known_address d k h =
    rw k (every_at byte_address 256 d.address bytes_are h)

pub advanced_component : (d : Dac) (n r g : ℕ) → component_ok (advanced d n r g) ≡ true
unfolding component_ok advanced
advanced_component d n r g =
    by_test (ltb d.component 2)
    (λ q. simp q (le-leb (d.component + 1) 2 (omega (arith, ltb-true d.component 2 q))))
    (λ q. simp q)

pub advanced_known : (d : Dac) (n r g : ℕ) → (advanced d n r g).known ≡ d.known
unfolding advanced
advanced_known d n r g = pick_by (λ (x : Dac). x.known ≡ d.known) (ltb d.component 2) _ _ refl refl

pub advanced_address : (d : Dac) (n r g : ℕ) → d.address < 256 → (advanced d n r g).address < 256
unfolding advanced
advanced_address d n r g h = pick_by (λ (x : Dac). x.address < 256) (ltb d.component 2) _ _ h (mod-lt (d.address + 1) (omega arith))

-- a write or a read of palette data advances, whatever it stages
pub paint_advances : (P : Dac → Type 0) (d : Dac) (v : ℕ) → ((n r g : ℕ) → P (advanced d n r g)) → P (after_paint d v)
unfolding after_paint
paint_advances P d v f =
    pick_by P (eqb d.component 0) _ _ (f 1 v 0) (pick_by P (eqb d.component 1 && Rattle.chip.specs.Dac.red_staged d) _ _ (f 2 d.red v) (f 0 0 0))

pub record Settled (d : Dac) : Type 0 where
  pub component : component_ok d ≡ true
  pub address : address_ok d ≡ true
  pub byte : d.address < 256

pub advanced_settled : (d : Dac) (n r g : ℕ) → d.known ≡ 0xFF → d.address < 256 → Settled (advanced d n r g)
advanced_settled d n r g k h =
    record {
      component = advanced_component d n r g;
      address = known_address (advanced d n r g) (advanced_known d n r g ∙ k) (advanced_address d n r g h);
      byte = advanced_address d n r g h;
    }

pub aimed_settled : (v : ℕ) → v < 256 → Settled (aimed_at v)
unfolding aimed_at component_ok
aimed_settled v h = record { component = refl; address = known_address (aimed_at v) refl h; byte = h }

pub lane_byte_lt : (i w : ℕ) → lane_byte i w < 256
unfolding lane_byte
lane_byte_lt i w = mod-lt _ (omega arith)
