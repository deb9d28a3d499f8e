-- What the picture reads of a state, as one record: nothing else of it alters a dot (01, The picture).
use Rattle.std.specs.Prelude.{◌≡◌, ℕ, ◌%◌, Bool, not, ◌&&◌, List, ◌==◌, slice_index, slice_index_or}
use Rattle.std.proofs.Math.Option.{Option, none, some}
use Rattle.bits.specs.Choose.{pick}
use Rattle.chip.specs.declared.State.{State}
use Rattle.chip.specs.declared.Colour.{Colour}
use Rattle.chip.specs.declared.Units.{Units}
use Rattle.chip.specs.Bank.{screen_base, screen_stride, pixel_mask, color_mode}
use Rattle.chip.specs.Palette.{entry_of}

pub record View : Type 0 where
  -- the word that rule 1 or 2 gives every dot, where one of them applies
  pub fixed : Option ℕ
  pub base : Units
  pub stride : Units
  pub mask : ℕ
  -- the panel in dots
  pub width : ℕ
  pub height : ℕ
  -- what each palette entry is: a colour, or nothing where it was never stored
  pub entry : ℕ → Option Colour

-- ScreenBase and ScreenStride: bits 0 to 19, in units of eight bytes (000, 3.4.1 and 3.4.2)
unfoldable pub base_of : (values : List ℕ) → Units
base_of vs = record { 0 = slice_index vs screen_base % 0x100000 }

unfoldable pub stride_of : (values : List ℕ) → Units
stride_of vs = record { 0 = slice_index vs screen_stride % 0x100000 }

-- RDPixelMask: bits 0 to 7 (000, 3.6.3)
unfoldable pub mask_of : (values : List ℕ) → ℕ
mask_of vs = slice_index vs pixel_mask % 256

-- rule 1: RDColorMode is not pixel format 0 with the GUI bit set, bits 0 to 4 (000, 3.6.14)
unfoldable pub not_indexed : (values : List ℕ) → Bool
not_indexed vs = not (slice_index vs color_mode % 32 == 0x10)

-- rule 2: base, stride or pixel mask has an unknown bit among its writable ones
unfoldable pub unplaced : (knowns : List ℕ) → Bool
unplaced ks =
    not (slice_index ks screen_base % 0x100000 == 0xFFFFF
    && (slice_index ks screen_stride % 0x100000 == 0xFFFFF && slice_index ks pixel_mask % 256 == 0xFF))

unfoldable pub fixed_of : (values knowns : List ℕ) → Option ℕ
fixed_of vs ks = pick (not_indexed vs) (some 0x03000000) (pick (unplaced ks) (some 0x05000000) none)

unfoldable pub view_of : State → View
view_of s =
    record {
      fixed = fixed_of s.values s.knowns;
      base = base_of s.values;
      stride = stride_of s.values;
      mask = mask_of s.values;
      width = s.width;
      height = s.height;
      entry = entry_of s.palette;
    }

-- two states with the same panel, base, stride and pixel mask, known alike, the same bits 0 to 4 of RDColorMode, and the same palette entries
pub record SameView (s n : State) : Type 0 where
  pub width : n.width ≡ s.width
  pub height : n.height ≡ s.height
  pub base : slice_index_or n.values screen_base 0 % 0x100000 ≡ slice_index s.values screen_base % 0x100000
  pub base_known : slice_index_or n.knowns screen_base 0 % 0x100000 ≡ slice_index s.knowns screen_base % 0x100000
  pub stride : slice_index_or n.values screen_stride 0 % 0x100000 ≡ slice_index s.values screen_stride % 0x100000
  pub stride_known : slice_index_or n.knowns screen_stride 0 % 0x100000 ≡ slice_index s.knowns screen_stride % 0x100000
  pub mask : slice_index_or n.values pixel_mask 0 % 256 ≡ slice_index s.values pixel_mask % 256
  pub mask_known : slice_index_or n.knowns pixel_mask 0 % 256 ≡ slice_index s.knowns pixel_mask % 256
  pub mode : slice_index_or n.values color_mode 0 % 32 ≡ slice_index s.values color_mode % 32
  pub palette : (e : ℕ) → entry_of n.palette e ≡ entry_of s.palette e
