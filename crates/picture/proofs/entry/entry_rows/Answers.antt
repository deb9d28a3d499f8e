-- `picture::entry::entry_rows` redraws the dots that show one palette entry.
-- The loop keeps the rows passed drawn (RowLaws.Rows) and the next row's place; a turn is one more row. Assumes nothing.
use native.Mathlib.Omega.{arith}
use Prim.Native.Nat.{ℕ}
use mathlib.Core.Path.{ap, ◌∙◌}
use Rattle.chip.specs.Units.{bytes_of}
use Rattle.chip.specs.declared.Units.{Units}
use Rattle.chip.specs.declared.Bytes.{Bytes}
use Rattle.picture.proofs.RowLaws.{rows_start, rows_more}
use Rattle.picture.proofs.RowsLaws.{mark_row, place_next}
use Rattle.picture.proofs.entry.entry_rows.Goals as goal

pub loop-y-init : goal.loop-y-init
loop-y-init c = (rows_start _ _ _ _, omega arith)

pub loop-y-preserved : goal.loop-y-preserved
loop-y-preserved c =
    let i = c.loop-y.invariant in (
      rows_more _ _ _ _ _ _ _ i.0 _ _ (mark_row c.args.l _ _ _ _ _ _ _ _ _ _ (ap (λ (b : Bytes). b.0) c.in_bytes.ensures ∙ ap (λ (k : ℕ). (bytes_of (record { 0 = k })).0) i.1) c.entry_row-n.ensures),
      place_next _ _ _ _ _ c.requires.based c.requires.strode (omega (arith, c.requires.low, c.loop-y-test.true)) i.1 (ap (λ (u : Units). u.0) c.plus-u.ensures),
    )
