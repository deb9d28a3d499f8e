-- Sums of places that do not wrap are the plain sums.
-- A number below the modulus is its own remainder. Assumes nothing.
use Rattle.std.proofs.Common.{◌≡◌, ℕ, ◌+◌, ◌-◌, ◌%◌, ◌<◌, ap, ◌∙◌, arith}
use Rattle.chip.specs.declared.Units.{Units}
use Rattle.chip.specs.declared.Bytes.{Bytes}
use Rattle.chip.specs.Units.{at_byte, bytes_of, bytes_along, bytes_since}

pub along_is : (b : Bytes) (n : ℕ) (r : Bytes) → r ≡ bytes_along b n → b.0 + n < 0x10000000000000000 → r ≡ at_byte (b.0 + n)
along_is b n r e h = e ∙ ap at_byte (let z : (b.0 + n) % 0x10000000000000000 ≡ b.0 + n = omega arith in z)

-- what is inside
pub in_bytes_is : (u : Units) (b : Bytes) → b ≡ bytes_of u → b.0 ≡ (bytes_of u).0
in_bytes_is u b e = ap (λ (x : Bytes). x.0) e

pub since_is : (a b r : Bytes) → r ≡ bytes_since a b → r.0 ≡ a.0 - b.0
since_is a b r e = ap (λ (x : Bytes). x.0) e
