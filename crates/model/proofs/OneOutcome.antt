-- Any two outcomes that the contract of a public function allows are equal: answer, the parts that are lent, memory and picture.
-- A contract says of each what it is (Step.Opens, Step.Gives): each part is an equation. In place the RAMDAC's part is said as its six numbers. Assumes nothing.
use mathlib.Core.List.{[]}
use mathlib.Core.Path.{ap}
use Rattle.chip.specs.declared.Answer.{Answer}
use Rattle.chip.specs.declared.Opened.{Opened}
use Rattle.chip.specs.declared.Reply.{Reply}
use Rattle.chip.specs.declared.State.{State}
use Rattle.chip.specs.declared.Wrote.{Wrote}
use Rattle.chip.specs.Parts.{made, state_of}
use Rattle.bits.proofs.Cases.{same_value}
use Rattle.bits.proofs.Fixes.{Fixes, FixesLent, FixesBoth, FixesAll}
use Rattle.model.proofs.open.open.Reads as opening
use Rattle.model.proofs.read.read.Reads as read
use Rattle.model.proofs.write.write.Reads as write
use Rattle.model.proofs.look.look.Reads as look
use Rattle.model.proofs.lent.open.Reads as lent-open
use Rattle.model.proofs.lent.read.Reads as lent_read
use Rattle.model.proofs.lent.write.Reads as lent_write
use Rattle.model.proofs.lent.look.Reads as lent_look
use Rattle.model.proofs.sound.is_state.Reads as is_state_lem
use Rattle.model.proofs.sure.sure_read.Reads as sure-read
use Rattle.model.proofs.sure.sure_write.Reads as sure-write

-- the test of a state
pub is_state_one : Fixes is_state_lem.Post
is_state_one κs a r r' x x' p q = same_value p q

-- ---- by value

pub open_one : FixesAll opening.Post (λ κs x. x.1.1.0.now) (λ κs x. x.1.1.1.0.now)
open_one κs a r r' x x' p q = ((same_value p.answer q.answer, same_value p.memory q.memory), same_value p.picture q.picture)

pub write_one : FixesAll write.Post (λ κs x. x.1.1.1.1.1.0.now) (λ κs x. x.1.1.1.1.1.1.0.now)
write_one κs a r r' x x' p q = ((same_value p.answer q.answer, same_value p.memory q.memory), same_value p.picture q.picture)

-- a read and a look are lent memory and picture to be read: the result is all there is
pub read_one : Fixes read.Post
read_one κs a r r' x x' p q = same_value p.answer q.answer

-- what a read or a look replies, and what a write does, from the answer with the state
abbrev pub reply_in : Answer → Reply
reply_in r = record { status = r.status; word = r.word; known = r.known }

abbrev pub wrote_in : Answer → Wrote
wrote_in r = record { status = r.status; changed = r.changed }

pub look_one : Fixes look.Post
look_one κs a r r' x x' p q = ap reply_in (same_value p.answer q.answer)

-- ---- in place

-- the parts that a read and a write are lent to be altered, from the answer with the state
abbrev pub read_in : Answer → State
read_in r = made 0 0 0 0 r.state.values [] [] r.state.dac

abbrev pub parts_in : Answer → State
parts_in r = made 0 0 0 r.state.once r.state.values r.state.knowns r.state.palette r.state.dac

pub lent_open_one : FixesAll lent-open.Post (λ κs x. x.1.1.1.1.1.1.1.1.1.1.0.now) (λ κs x. x.1.1.1.1.1.1.1.1.1.1.1.0.now) × FixesLent lent-open.Post (λ κs x. state_of x.0.now x.1.0.now x.1.1.0.now x.1.1.1.0.now x.1.1.1.1.0.now x.1.1.1.1.1.0.now x.1.1.1.1.1.1.0.now x.1.1.1.1.1.1.1.0.now)
lent_open_one = (
  λ κs a r r' x x' p q. ((ap (λ (z : Opened). z.status) (same_value p.answer q.answer), same_value p.memory q.memory), same_value p.picture q.picture),
  λ κs a r r' x x' p q. ap (λ (z : Opened). z.state) (same_value p.answer q.answer),
)

pub lent_read_one : FixesBoth lent_read.Post (λ κs x. state_of 0 0 0 0 x.1.1.1.1.0.now [] [] x.1.1.1.1.1.1.1.0.now)
lent_read_one κs a r r' x x' p q = (ap reply_in (same_value p.answer q.answer), ap read_in (same_value p.answer q.answer))

pub lent_write_one : FixesAll lent_write.Post (λ κs x. x.1.1.1.1.1.1.1.1.1.1.1.1.0.now) (λ κs x. x.1.1.1.1.1.1.1.1.1.1.1.1.1.0.now) × FixesLent lent_write.Post (λ κs x. state_of 0 0 0 x.1.1.1.0.now x.1.1.1.1.0.now x.1.1.1.1.1.0.now x.1.1.1.1.1.1.0.now x.1.1.1.1.1.1.1.0.now)
lent_write_one = (
  λ κs a r r' x x' p q. ((ap wrote_in (same_value p.answer q.answer), same_value p.memory q.memory), same_value p.picture q.picture),
  λ κs a r r' x x' p q. ap parts_in (same_value p.answer q.answer),
)

pub lent_look_one : Fixes lent_look.Post
lent_look_one κs a r r' x x' p q = ap reply_in (same_value p.answer q.answer)

pub sure_read_one : FixesBoth sure-read.Post (λ κs x. state_of 0 0 0 0 x.1.1.1.1.0.now [] [] x.1.1.1.1.1.1.1.0.now)
sure_read_one κs a r r' x x' p q = (ap reply_in (same_value p.answer q.answer), ap read_in (same_value p.answer q.answer))

pub sure_write_one : FixesAll sure-write.Post (λ κs x. x.1.1.1.1.1.1.1.1.1.1.1.1.0.now) (λ κs x. x.1.1.1.1.1.1.1.1.1.1.1.1.1.0.now) × FixesLent sure-write.Post (λ κs x. state_of 0 0 0 x.1.1.1.0.now x.1.1.1.1.0.now x.1.1.1.1.1.0.now x.1.1.1.1.1.1.0.now x.1.1.1.1.1.1.1.0.now)
sure_write_one = (
  λ κs a r r' x x' p q. ((ap wrote_in (same_value p.answer q.answer), same_value p.memory q.memory), same_value p.picture q.picture),
  λ κs a r r' x x' p q. ap parts_in (same_value p.answer q.answer),
)
