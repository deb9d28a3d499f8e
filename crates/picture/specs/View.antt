-- A view by value: what the picture reads of a bank, and with a palette and memory each dot's word. chip's View has the palette inside.
use Rattle.std.specs.Prelude.{ℕ, ◌*◌, ◌%◌, Bool, false, ◌&&◌, List, eqb, get_or, Option, Some, None, unwrap_or}
use Rattle.std.proofs.Math.Option as chip-option
use Rattle.bits.specs.Choose.{pick}
use Rattle.bits.specs.Word.{inside}
use Rattle.chip.specs.declared.Units.{Units}
use Rattle.chip.specs.Bank.{screen_base, screen_stride}
use Rattle.chip.specs.Palette.{entry_of}
use Rattle.chip.specs.Sound.{panel_ok}
use Rattle.chip.specs.View as chip-view
use Rattle.chip.specs.View.{mask_of, not_indexed, unplaced}
use Rattle.chip.specs.Picture.{colour_word, view_word}
use Rattle.picture.specs.declared.view.View.{View}

-- rules 1 and 2: the word of every dot, where one of them applies
unfoldable pub shown_in : (values knowns : List ℕ) → Option ℕ
shown_in vs ks = pick (not_indexed vs) (Some 0x03000000) (pick (unplaced ks) (Some 0x05000000) None)

-- the view of a panel of w by h dots that a bank gives
unfoldable pub view_in : (w h : ℕ) (values knowns : List ℕ) → View
view_in w h vs ks =
    record { shown = shown_in vs ks; base = get_or vs screen_base 0; stride = get_or vs screen_stride 0; mask = mask_of vs; width = w; height = h }

-- the code's Option, as chip's View has it
abbrev pub fixed_in : Option ℕ → chip-option.Option ℕ
fixed_in (Some w) = chip-option.some w
fixed_in None = chip-option.none

-- bits 0 to 19, in units of eight bytes
abbrev pub units_in : ℕ → Units
units_in w = record { 0 = w % 0x100000 }

-- with a palette
unfoldable pub viewed : View → (palette : List ℕ) → chip-view.View
viewed v p =
    record {
      fixed = fixed_in v.shown;
      base = units_in v.base;
      stride = units_in v.stride;
      mask = v.mask;
      width = v.width;
      height = v.height;
      entry = entry_of p;
    }

-- the word of dot i, from a palette and memory
unfoldable pub dot_in : View → (palette memory : List ℕ) → ℕ → ℕ
dot_in v p m i = view_word (viewed v p) m i

-- the word of a dot whose byte is b and lies in memory
unfoldable pub byte_word : View → (palette : List ℕ) → ℕ → ℕ
byte_word v p b = unwrap_or v.shown (colour_word (entry_of p (inside b v.mask)))

-- no dot's word can differ: one word is every dot's in both, or each has its own and lies where it lay
unfoldable pub same_place : View → View → Bool
same_place v n = eqb v.base n.base && (eqb v.stride n.stride && (eqb v.mask n.mask && eqb v.width n.width))

abbrev pub same_shown : Option ℕ → Option ℕ → Bool → Bool
same_shown (Some x) (Some y) t = eqb x y
same_shown (Some x) None t = false
same_shown None (Some y) t = false
same_shown None None t = t

unfoldable pub same_view : View → View → Bool
same_view v n = same_shown v.shown n.shown (same_place v n)

-- two views of one width, a panel within the limits, and a picture of its size: otherwise nothing is drawn
unfoldable pub fits : View → View → ℕ → Bool
fits v n pl = panel_ok v.width v.height && (eqb n.width v.width && eqb pl (v.width * v.height))
