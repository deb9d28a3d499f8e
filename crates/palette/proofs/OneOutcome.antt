-- Any two outcomes that the contract of a public function allows are equal: the RAMDAC and the palette.
-- Each contract is an equation for the result, and one law says that two results of one equation are equal. Assumes nothing.
use Rattle.bits.proofs.Cases.{same_value}
use Rattle.bits.proofs.Fixes.{Fixes, FixesLent}
use Rattle.palette.proofs.dac.aimed_at.Reads as aimed-at
use Rattle.palette.proofs.dac.after_fetch.Reads as after-fetch
use Rattle.palette.proofs.dac.after_paint.Reads as after-paint
use Rattle.palette.proofs.dac.completes.Reads as completes
use Rattle.palette.proofs.dac.dac_sound.Reads as dac-sound
use Rattle.palette.proofs.entries.entry_of.Reads as entry_of
use Rattle.palette.proofs.entries.store_entry.Reads as store_entry
use Rattle.palette.proofs.entries.kept_as.Reads as kept-as
use Rattle.palette.proofs.entries.shown_as.Reads as shown-as
use Rattle.palette.proofs.entries.part_of.Reads as part_of
use Rattle.palette.proofs.entries.palette_sound.Reads as palette-sound
use Rattle.palette.proofs.entries.seen_palette.Reads as seen-palette
use Rattle.palette.proofs.dac.reset_dac.Reads as reset-dac
use Rattle.palette.proofs.dac.dac_of.Reads as dac-of
use Rattle.palette.proofs.dac.dac_bytes.Reads as dac-bytes
use Rattle.palette.proofs.dac.put_dac.Reads as put-dac
use Rattle.palette.proofs.entries.reset_palette.Reads as reset-palette

pub aimed_at_one : Fixes aimed-at.Post
aimed_at_one κs a r r' x x' p q = same_value p q

pub after_fetch_one : Fixes after-fetch.Post
after_fetch_one κs a r r' x x' p q = same_value p q

pub after_paint_one : Fixes after-paint.Post
after_paint_one κs a r r' x x' p q = same_value p q

pub completes_one : Fixes completes.Post
completes_one κs a r r' x x' p q = same_value p q

pub dac_sound_one : Fixes dac-sound.Post
dac_sound_one κs a r r' x x' p q = same_value p q

pub entry_of_one : Fixes entry_of.Post
entry_of_one κs a r r' x x' p q = same_value p q

pub store_entry_one : FixesLent store_entry.Post (λ κs x. x.0.now)
store_entry_one κs a r r' x x' p q = same_value p q

pub kept_as_one : Fixes kept-as.Post
kept_as_one κs a r r' x x' p q = same_value p q

pub shown_as_one : Fixes shown-as.Post
shown_as_one κs a r r' x x' p q = same_value p q

pub part_of_one : Fixes part_of.Post
part_of_one κs a r r' x x' p q = same_value p q

pub palette_sound_one : Fixes palette-sound.Post
palette_sound_one κs a r r' x x' p q = same_value p q

pub seen_palette_one : Fixes seen-palette.Post
seen_palette_one κs a r r' x x' p q = same_value p q

pub reset_dac_one : Fixes reset-dac.Post
reset_dac_one κs a r r' x x' p q = same_value p q

pub dac_of_one : Fixes dac-of.Post
dac_of_one κs a r r' x x' p q = same_value p q

pub dac_bytes_one : Fixes dac-bytes.Post
dac_bytes_one κs a r r' x x' p q = same_value p q

pub put_dac_one : FixesLent put-dac.Post (λ κs x. x.0.now)
put_dac_one κs a r r' x x' p q = same_value p q

pub reset_palette_one : FixesLent reset-palette.Post (λ κs x. x.0.now)
reset_palette_one κs a r r' x x' p q = same_value p q
