-- Something and nothing: what an option that has a value says, and a choice that gives one.
-- By cases. Assumes nothing.
use Prim.Native.Nat.{ℕ}
use mathlib.Core.Bool.{Bool, true, false}
use mathlib.Core.Option.{Option, none, some, get_or}
use mathlib.Core.Path.{◌≡◌, refl, sym, ap, ◌∙◌}
use native.Mathlib.Omega.{arith}
use Rattle.bits.specs.Choose.{pick}

pub some_is : {C : Type 0} {x y : C} → some x ≡ some y → x ≡ y
some_is {C} {x} {y} q = ap (λ (o : Option C). get_or o x) q

-- something is not nothing
pub absurd_put {ℓ} : {P : Type ℓ} {C : Type 0} (o : Option C) (c : C) → o ≡ none → o ≡ some c → P
absurd_put {P} {C} o c n p = absurd (let z : ◌≡◌ {A = ℕ} 0 1 = zero_one (sym n ∙ p) in omega arith)
  where
    zero_one : ◌≡◌ {A = Option C} none (some c) → ◌≡◌ {A = ℕ} 0 1
    zero_one e = cc

-- what a choice with nothing on the other side gives
pub picked : {C : Type 0} (t : Bool) (o : Option C) (v : C) → pick t o none ≡ some v → (t ≡ true) × (o ≡ some v)
picked true o v e = (refl, e)
picked false o v e = absurd_put none v refl e
