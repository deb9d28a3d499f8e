-- `palette::entries::palette_sound` is the definition: at the loop's end every entry passed exactly where the largest turned word is at most 01000000h.
-- By the invariant at 256. Assumes nothing.
use mathlib.Core.Path.{◌≡◌, ap, ◌∙◌}
use native.Mathlib.Omega.{arith}
use Rattle.bits.specs.Choose.{every_to}
use Rattle.chip.specs.Palette.{entry_ok, palette_ok}
use Rattle.palette.proofs.entries.palette_sound.Goals as goal

pub returns : goal.returns
unfolding palette_ok
returns c = let e : c.loop-w.w-index ≡ 256 = omega (arith, c.loop-w.auto.w-index-end, c.loop-w-test.false, c.told-p) in c.loop-w.invariant ∙ ap (every_to (entry_ok c.args.p.now)) e
