-- Any two outcomes that the contract of a public function allows are equal: a line's meaning, an answer's text, a line's part of a chunk, arguments,
-- and what a person is shown.
-- Each contract says what every part of the outcome is. Assumes nothing.
use Prim.Native.Nat.{ℕ}
use Rattle.std.specs.Prelude.{Option}
use mathlib.Core.Path.{◌≡◌, ap₂}
use Rattle.bits.proofs.Cases.{same_value}
use Rattle.bits.proofs.Fixes.{Fixes, FixesBoth}
use Rattle.text.specs.declared.Taken.{Taken}
use Rattle.text.proofs.line.read.Reads as read
use Rattle.text.proofs.answer.write.Reads as write
use Rattle.text.proofs.gather.gather.Reads as gather
use Rattle.text.proofs.find.find.Reads as find
use Rattle.text.proofs.panel.decimal.Reads as decimal
use Rattle.text.proofs.panel.size.Reads as size
use Rattle.text.proofs.shown.word.Reads as word
use Rattle.text.proofs.shown.colour.Reads as colour

-- a record is its fields
taken : (r r' : Taken) → r.held ≡ r'.held → r.next ≡ r'.next → r ≡ r'
taken r r' p q = ap₂ (λ (h : ℕ) (n : Option ℕ). record { held = h; next = n }) p q

pub read_one : Fixes read.Post
read_one κs a r r' x x' p q = same_value p q

pub write_one : FixesBoth write.Post (λ κs x. x.1.1.1.1.0.now)
write_one κs a r r' x x' p q = (same_value p.ends q.ends, same_value p.holds q.holds)

pub gather_one : FixesBoth gather.Post (λ κs x. x.1.1.0.now)
gather_one κs a r r' x x' p q =
    (taken r r' (same_value p.held' q.held') (same_value p.next q.next), same_value p.bytes q.bytes)

pub find_one : Fixes find.Post
find_one κs a r r' x x' p q = same_value p q

pub decimal_one : Fixes decimal.Post
decimal_one κs a r r' x x' p q = same_value p q

pub size_one : Fixes size.Post
size_one κs a r r' x x' p q = same_value p q

pub word_one : Fixes word.Post
word_one κs a r r' x x' p q = same_value p q

pub colour_one : Fixes colour.Post
colour_one κs a r r' x x' p q = same_value p q
