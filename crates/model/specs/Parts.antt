-- The tests of refusal 1 of the sizes, in one group, and which rows and writes the picture may show.
use Rattle.std.specs.Prelude.{ℕ, Bool, true, false, ◌&&◌, List, ◌≡◌, eqb}
use Rattle.bits.specs.Choose.{pick}
use Rattle.chip.specs.declared.State.{State}
use Rattle.chip.specs.declared.Access.{Access}
use Rattle.chip.specs.declared.Dac.{Dac}
use Rattle.chip.specs.declared.Place.{Place}
use Rattle.chip.specs.Bank.{screen_base, screen_stride, pixel_mask, color_mode}
use Rattle.chip.specs.Patch.{applied}
use Rattle.chip.specs.Picture.{word_of}
use Rattle.chip.specs.Port.{port_at}
use Rattle.chip.specs.Sound.{panel_ok, memory_ok, once_ok}

unfoldable pub sizes_ok : (width height fitted once : ℕ) → Bool
sizes_ok width height fitted once = panel_ok width height && (memory_ok fitted && once_ok once)

-- ScreenBase, ScreenStride, RDPixelMask and RDColorMode
unfoldable pub row_shows : ℕ → Bool
row_shows i = pick (eqb i screen_base) true (pick (eqb i screen_stride) true (pick (eqb i pixel_mask) true (eqb i color_mode)))

-- every dot has the same word in both states
abbrev pub Quiet : State → State → Type 0
Quiet s n = (m : List ℕ) (j : ℕ) → word_of s m j ≡ word_of n m j

-- where shown is false, no write at place p, with the RAMDAC at d, changes a dot's word
abbrev pub QuietUnless : Bool → Dac → Place → Type 0
QuietUnless shown d p = shown ≡ false → (s : State) (a : Access) → s.dac ≡ d → Quiet s (applied (port_at s a p).stored s)
