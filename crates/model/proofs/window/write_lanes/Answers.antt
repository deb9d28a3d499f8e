-- `model::window::write_lanes` is the write of the four lanes.
-- Lane after lane (WindowLaws.Lanes). Assumes nothing.
use mathlib.Core.Path.{◌≡◌}
use native.Mathlib.Omega.{arith}
use Rattle.model.proofs.WindowLaws.{no_lanes, one_lane, lanes_small, four_lanes}
use Rattle.model.proofs.window.write_lanes.Goals as goal

pub loop-j-init : goal.loop-j-init
loop-j-init c = no_lanes _ _ _ _ _ _

pub overflow_add-changed : goal.overflow_add-changed
overflow_add-changed c = record { fits = let h = lanes_small (one_lane c.loop-j-test.true c.loop-j.invariant c.write_lane-changed.ensures) in omega arith }

pub loop-j-preserved : goal.loop-j-preserved
loop-j-preserved c = one_lane c.loop-j-test.true c.loop-j.invariant c.write_lane-changed.ensures

pub returns : goal.returns
returns c = let e : c.loop-j.j ≡ 4 = omega (arith, c.loop-j.auto.j-end, c.loop-j-test.false) in four_lanes (rw e at c.loop-j.invariant)
