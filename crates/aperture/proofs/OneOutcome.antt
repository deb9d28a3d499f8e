-- Any two outcomes that the contract of a public function allows are equal: modes, lanes and words of the apertures.
-- Each contract is an equation for the result, and one law says that two results of one equation are equal. Assumes nothing.
use Rattle.bits.proofs.Cases.{same_value}
use Rattle.bits.proofs.Fixes.{Fixes}
use Rattle.aperture.proofs.mode_served.Reads as mode-served
use Rattle.aperture.proofs.lane_of.Reads as lane_of
use Rattle.aperture.proofs.lane_place.Reads as lane_place
use Rattle.aperture.proofs.reaches_memory.Reads as reaches-memory
use Rattle.aperture.proofs.byte_at.Reads as byte_at
use Rattle.aperture.proofs.word_from.Reads as word-from

pub mode_served_one : Fixes mode-served.Post
mode_served_one κs a r r' x x' p q = same_value p q

pub lane_of_one : Fixes lane_of.Post
lane_of_one κs a r r' x x' p q = same_value p q

pub lane_place_one : Fixes lane_place.Post
lane_place_one κs a r r' x x' p q = same_value p q

pub reaches_memory_one : Fixes reaches-memory.Post
reaches_memory_one κs a r r' x x' p q = same_value p q

pub byte_at_one : Fixes byte_at.Post
byte_at_one κs a r r' x x' p q = same_value p q

pub word_from_one : Fixes word-from.Post
word_from_one κs a r r' x x' p q = same_value p q
