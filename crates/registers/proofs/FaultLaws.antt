-- A register's faults, with the bits that a write may change put in place of what they are equal to. Assumes nothing.
use Prim.Native.Nat.{ℕ}
use mathlib.Core.Path.{◌≡◌, ap, ◌∙◌}
use lib.Dec.{eqb}
use Rattle.chip.specs.Register.{faults}

pub faults_by : (v k w w' r t x : ℕ) → x ≡ faults v k w r t → w ≡ w' → eqb x 0 ≡ eqb (faults v k w' r t) 0
faults_by v k w w' r t x e p = ap (λ (y : ℕ). eqb y 0) (e ∙ ap (λ (y : ℕ). faults v k y r t) p)
