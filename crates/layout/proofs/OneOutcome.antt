-- Any two outcomes that the contract of an exported function allows are equal. Each contract is an equation, for the result or for what is lent.
-- Assumes nothing.
use Rattle.bits.proofs.Cases.{same_value}
use Rattle.bits.proofs.Fixes.{Fixes, FixesLent}
use Rattle.layout.proofs.made_reply.Reads as made-reply
use Rattle.layout.proofs.made_wrote.Reads as made-wrote
use Rattle.layout.proofs.made_state.Reads as made-state
use Rattle.layout.proofs.parts_of_reply.Reads as parts-of-reply
use Rattle.layout.proofs.parts_of_wrote.Reads as parts-of-wrote
use Rattle.layout.proofs.sizes_of_state.Reads as sizes-of-state
use Rattle.layout.proofs.values_of_state.Reads as values-of-state
use Rattle.layout.proofs.knowns_of_state.Reads as knowns-of-state
use Rattle.layout.proofs.dac_of_state.Reads as dac-of-state
use Rattle.layout.proofs.palette_of_state.Reads as palette-of-state

-- ---- made

pub made_reply_one : Fixes made-reply.Post
made_reply_one κs a r r' x x' p q = same_value p q

pub made_wrote_one : Fixes made-wrote.Post
made_wrote_one κs a r r' x x' p q = same_value p q

pub made_state_one : Fixes made-state.Post
made_state_one κs a r r' x x' p q = same_value p q

-- ---- taken apart: what is lent at exit

pub parts_of_reply_one : FixesLent parts-of-reply.Post (λ κs x. x.1.0.now)
parts_of_reply_one κs a r r' x x' p q = same_value p q

pub parts_of_wrote_one : FixesLent parts-of-wrote.Post (λ κs x. x.1.0.now)
parts_of_wrote_one κs a r r' x x' p q = same_value p q

pub sizes_of_state_one : FixesLent sizes-of-state.Post (λ κs x. x.1.0.now)
sizes_of_state_one κs a r r' x x' p q = same_value p q

pub values_of_state_one : FixesLent values-of-state.Post (λ κs x. x.1.0.now)
values_of_state_one κs a r r' x x' p q = same_value p q

pub knowns_of_state_one : FixesLent knowns-of-state.Post (λ κs x. x.1.0.now)
knowns_of_state_one κs a r r' x x' p q = same_value p q

pub dac_of_state_one : FixesLent dac-of-state.Post (λ κs x. x.1.0.now)
dac_of_state_one κs a r r' x x' p q = same_value p q

pub palette_of_state_one : FixesLent palette-of-state.Post (λ κs x. x.1.0.now)
palette_of_state_one κs a r r' x x' p q = same_value p q
