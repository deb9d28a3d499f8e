-- Tests as numbers: a test's number is its own or zero.
-- By the cases of the tests. Assumes nothing.
use Prim.Native.Nat.{ℕ, ◌≤◌}
use mathlib.Core.Bool.{Bool, true, false}
use mathlib.Core.Path.{◌≡◌, refl}
use native.Mathlib.Omega.{arith}
use lib.Dec.{eqb}
use Rattle.bits.specs.Choose.{pick}

pub flag_le : (t : Bool) (m : ℕ) → pick t m 0 ≤ m
flag_le true m = omega arith
flag_le false m = omega arith

pub flag_is : (t : Bool) → eqb (pick t 1 0) 1 ≡ t
flag_is true = refl
flag_is false = refl
