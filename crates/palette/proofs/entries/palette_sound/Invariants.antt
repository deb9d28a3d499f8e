use mathlib.Core.Path.{◌≡◌}
use lib.Dec.{leb}
use Rattle.bits.specs.Choose.{every_to}
use Rattle.chip.specs.Palette.{entry_ok}
use Rattle.palette.proofs.entries.palette_sound.Given as goal

abbrev pub invariant-loop-w : goal.invariant-loop-w
invariant-loop-w l = leb l.most 0x01000000 ≡ every_to (entry_ok l.p) l.w-index
