-- Any two outcomes that the contract of an exported function allows are equal: answer, the parts that are lent, memory and picture.
-- The contracts are those of `model::lent`: each part is an equation. Assumes nothing.
use mathlib.Core.List.{[]}
use mathlib.Core.Path.{ap}
use Rattle.chip.specs.declared.Opened.{Opened}
use Rattle.chip.specs.Parts.{state_of}
use Rattle.model.proofs.OneOutcome.{reply_in, wrote_in, parts_in, read_in}
use Rattle.bits.proofs.Cases.{same_value}
use Rattle.bits.proofs.Fixes.{Fixes, FixesLent, FixesBoth, FixesAll}
use Rattle.reefstencil.proofs.pm_abi.Reads as abi
use Rattle.reefstencil.proofs.pm_state_size.Reads as state-size
use Rattle.reefstencil.proofs.pm_open_v2.Reads as opening
use Rattle.reefstencil.proofs.pm_read_v2.Reads as read
use Rattle.reefstencil.proofs.pm_write_v2.Reads as write
use Rattle.reefstencil.proofs.pm_look_v2.Reads as look

pub pm_abi_one : Fixes abi.Post
pm_abi_one κs a r r' x x' p q = same_value p q

pub pm_state_size_one : Fixes state-size.Post
pm_state_size_one κs a r r' x x' p q = same_value p q

pub pm_open_one : FixesAll opening.Post (λ κs x. x.1.1.1.1.1.1.1.1.1.1.0.now) (λ κs x. x.1.1.1.1.1.1.1.1.1.1.1.0.now) × FixesLent opening.Post (λ κs x. state_of x.0.now x.1.0.now x.1.1.0.now x.1.1.1.0.now x.1.1.1.1.0.now x.1.1.1.1.1.0.now x.1.1.1.1.1.1.0.now x.1.1.1.1.1.1.1.0.now)
pm_open_one = (
  λ κs a r r' x x' p q. ((ap (λ (z : Opened). z.status) (same_value p.answer q.answer), same_value p.memory q.memory), same_value p.picture q.picture),
  λ κs a r r' x x' p q. ap (λ (z : Opened). z.state) (same_value p.answer q.answer),
)

pub pm_read_one : FixesBoth read.Post (λ κs x. state_of 0 0 0 0 x.1.1.1.1.0.now [] [] x.1.1.1.1.1.1.1.0.now)
pm_read_one κs a r r' x x' p q = (ap reply_in (same_value p.answer q.answer), ap read_in (same_value p.answer q.answer))

pub pm_write_one : FixesAll write.Post (λ κs x. x.1.1.1.1.1.1.1.1.1.1.1.1.0.now) (λ κs x. x.1.1.1.1.1.1.1.1.1.1.1.1.1.0.now) × FixesLent write.Post (λ κs x. state_of 0 0 0 x.1.1.1.0.now x.1.1.1.1.0.now x.1.1.1.1.1.0.now x.1.1.1.1.1.1.0.now x.1.1.1.1.1.1.1.0.now)
pm_write_one = (
  λ κs a r r' x x' p q. ((ap wrote_in (same_value p.answer q.answer), same_value p.memory q.memory), same_value p.picture q.picture),
  λ κs a r r' x x' p q. ap parts_in (same_value p.answer q.answer),
)

pub pm_look_one : Fixes look.Post
pm_look_one κs a r r' x x' p q = ap reply_in (same_value p.answer q.answer)
