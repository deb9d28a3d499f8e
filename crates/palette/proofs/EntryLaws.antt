-- A palette word with its flag turned over is at most 01000000h exactly where refusal 1 passes it.
-- By the word's top byte. Assumes nothing.
use Prim.Native.Nat.{ℕ, ◌+◌, ◌-◌, ◌*◌, ◌/◌, ◌%◌, ◌^◌}
use mathlib.Core.Path.{◌≡◌, ap, ap₂, ◌∙◌}
use native.Mathlib.Nat.{mod-lt}
use native.Mathlib.Omega.{arith}
use lib.Bits.{bit_xor, xor_shr, xor_zero_r, xor_block}
use lib.Dec.{leb}
use Rattle.std.proofs.lemmas.Bool.Decides.{nat_tests}
use Rattle.std.proofs.lemmas.Nat.Bits.{bit_at_xor}
use Rattle.chip.specs.Palette.{is_stored, word_ok}

-- ---- refusal 1

-- a number with its lowest bit turned over
turned_low : (a : ℕ) → bit_xor a 1 ≡ a / 2 * 2 + (1 - a % 2)
turned_low a =
    let h = xor_shr a 1 1 ∙ xor_zero_r (a / 2) in
    let l = bit_at_xor a 1 0 in
    omega (arith, h, l)

-- a word with bit 24 turned over
turned_flag : (w : ℕ) → bit_xor w 0x01000000 ≡ (w / 0x1000000 / 2 * 2 + (1 - w / 0x1000000 % 2)) * 0x1000000 + w % 0x1000000
turned_flag w =
    ap (λ (v : ℕ). bit_xor v 0x01000000) (let e : w ≡ w / 0x1000000 * 2 ^ 24 + w % 0x1000000 = omega arith in e)
    ∙ xor_block 24 (w / 0x1000000) 1 (w % 0x1000000) 0 (mod-lt w (omega arith)) (omega arith)
    ∙ ap₂ (λ (x y : ℕ). x * 0x1000000 + y) (turned_low (w / 0x1000000)) (xor_zero_r (w % 0x1000000))

pub turned_ok : (w : ℕ) → leb (bit_xor w 0x01000000) 0x01000000 ≡ word_ok w
unfolding word_ok is_stored
turned_ok w = grind (arith, nat_tests, turned_flag w)
