-- The picture's five rules in 01's words: what a dot's word says of the registers, of memory and of the palette (01, The picture; docs/DECISIONS.md, D-12 and D-25).
use Rattle.std.specs.Prelude.{ℕ, zero, suc, ◌+◌, ◌*◌, ◌/◌, ◌%◌, ◌≤◌, ◌<◌, Bool, true, false, not, List, ◌↔◌, ◌≡◌, eqb, get_or, length}
use Rattle.std.proofs.Math.Option.{Option, none, some}
use Rattle.bits.specs.Choose.{pick}
use Rattle.bits.specs.Bit.{bit}
use Rattle.bits.specs.Word.{inside}
use Rattle.chip.specs.declared.State.{State}
use Rattle.chip.specs.declared.Colour.{Colour}
use Rattle.chip.specs.Bank.{bank_row, screen_base, screen_stride, pixel_mask, color_mode}
use Rattle.chip.specs.Palette.{Shades, entry_of}

-- rule 1 does not apply: RDColorMode is pixel format 0 (bits 0 to 3) with the GUI bit (4) set
pub record Indexed (s : State) : Type 0 where
  pub format : (b : ℕ) → b < 4 → bit b (get_or s.values color_mode 0) ≡ false
  pub gui : bit 4 (get_or s.values color_mode 0) ≡ true

-- every writable bit of the register in row i is known
abbrev pub Known : State → ℕ → Type 0
Known s i = (b : ℕ) → b < 32 → bit b (bank_row i).writable ≡ true → bit b (get_or s.knowns i 0) ≡ true

-- rule 2 does not apply: base, stride and pixel mask have no unknown bit among their writable ones
pub record Placed (s : State) : Type 0 where
  pub base : Known s screen_base
  pub stride : Known s screen_stride
  pub mask : Known s pixel_mask

-- the memory byte of dot i, which is (x, y) row after row: 8·base + 8·stride·y + x, base and stride bits 0 to 19 of their registers. The sum never wraps
unfoldable pub dot_at : State → ℕ → ℕ
dot_at s i =
    8 * (get_or s.values screen_base 0 % 0x100000) + 8 * (get_or s.values screen_stride 0 % 0x100000) * (i / s.width) + i % s.width

-- the palette entry at (byte AND pixel mask)
unfoldable pub entry_at : State → List ℕ → ℕ → Option Colour
entry_at s m i = entry_of s.palette (inside (get_or m (dot_at s i) 0) (get_or s.values pixel_mask 0 % 256))

-- what word w of dot i says, each exactly where its rule is the first that applies
pub record Ruled (s : State) (m : List ℕ) (i w : ℕ) : Type 0 where
  pub one : (w ≡ 0x03000000) ↔ (Indexed s → ⊥)
  pub two : (w ≡ 0x05000000) ↔ (Indexed s × (Placed s → ⊥))
  pub three : (w ≡ 0x02000000) ↔ (Indexed s × Placed s × (length m ≤ dot_at s i))
  pub four : (w ≡ 0x04000000) ↔ (Indexed s × Placed s × (dot_at s i < length m) × (entry_at s m i ≡ none))
  pub five : (c : Colour) → Shades c
      → (w ≡ 0x01000000 + c.red * 0x10000 + c.green * 0x100 + c.blue) ↔ (Indexed s × Placed s × (dot_at s i < length m) × (entry_at s m i ≡ some c))

-- how many of the first n numbers pass a test
abbrev pub how_many : (ℕ → Bool) → ℕ → ℕ
how_many t zero = 0
how_many t (suc n) = pick (t 0) 1 0 + how_many (λ i. t (suc i)) n

-- how many dots of a picture differ from another's
unfoldable pub dots_changed : List ℕ → List ℕ → ℕ
dots_changed p q = how_many (λ i. not (eqb (get_or p i 0) (get_or q i 0))) (length p)
