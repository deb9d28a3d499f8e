-- What an access, made at a world, puts where: the words in which a known bit's origin is told.
use Rattle.std.specs.Prelude.{ℕ, ◌+◌, ◌<◌, Bool, false, not, ◌&&◌, List, [], ◌∷◌, ◌≡◌, eqb, get_or}
use Rattle.std.proofs.Math.Option.{Option, none, some}
use Rattle.bits.specs.Choose.{pick}
use Rattle.bits.specs.Bit.{bit}
use Rattle.bits.specs.Word.{lane_byte}
use Rattle.chip.specs.declared.State.{State}
use Rattle.chip.specs.declared.Access.{Access}
use Rattle.chip.specs.declared.Answer.{Answer}
use Rattle.chip.specs.declared.Colour.{Colour}
use Rattle.chip.specs.Bank.{bank_count, bank_row}
use Rattle.chip.specs.Place.{place_of}
use Rattle.chip.specs.Access.{is_write, is_look}
use Rattle.chip.specs.Trace.{World, after}
use Rattle.promises.specs.Good.{status_at}
use Rattle.promises.specs.Reach.{reach_at}
use Rattle.promises.specs.Width.{read_byte, component_of}

-- access a, made at x, is not refused
unfoldable pub accepted : World → Access → Bool
accepted x a = eqb (status_at x a) 0

-- .. and is a read or a look, which see alike
pub record Seeing (x : World) (a : Access) : Type 0 where
  pub read : is_write a ≡ false
  pub done : status_at x a ≡ 0

-- a bit as it is seen: its value where it is known, and nothing where it is not
unfoldable pub seen_bit : Bool → Bool → Option Bool
seen_bit known value = pick known (some value) none

-- what an answer shows at bit b
unfoldable pub shows : Answer → ℕ → Option Bool
shows r b = seen_bit (bit b r.known) (bit b r.word)

-- a bit of component c of a palette entry, as the width shows it: of an entry never stored nothing, and nothing above bit 7
unfoldable pub part_bit : State → ℕ → ℕ → Option Colour → Option Bool
part_bit s c b none = none
part_bit s c b (some x) = seen_bit (bit b 0xFF) (bit b (read_byte s (component_of c x)))

-- ---- bits of registers

-- bit b of the register in a row of the bank
pub record Spot : Type 0 where
  pub row : ℕ
  pub b : ℕ

abbrev pub spot : ℕ → ℕ → Spot
spot r b = record { row = r; b = b }

-- the rows and bits that there are
pub record Real (q : Spot) : Type 0 where
  pub row : q.row < bank_count
  pub bit : q.b < 32

-- what a state holds there
unfoldable pub holds : State → Spot → Option Bool
holds s q = seen_bit (bit q.b (get_or s.knowns q.row 0)) (bit q.b (get_or s.values q.row 0))

-- what the reset tables state
unfoldable pub stated : Spot → Option Bool
stated q = seen_bit (bit q.b (bank_row q.row).known) (bit q.b (bank_row q.row).reset)

-- ---- the palette's address

-- an accepted access to palette data with lane 0, read or written; a look is neither
unfoldable pub is_data : World → Access → Bool
is_data x a = accepted x a && (not (is_look a) && ((reach_at (place_of x.state a)).paints && bit 0 a.enables))

-- an accepted write of the address with lane 0
unfoldable pub is_aim : World → Access → Bool
is_aim x a = accepted x a && (is_write a && ((reach_at (place_of x.state a)).aims && bit 0 a.enables))

-- the address that an access sets
unfoldable pub aim_put : World → Access → Option ℕ
aim_put x a = pick (is_aim x a) (some (lane_byte 0 a.word)) none

-- how many accepted reads and writes of palette data with lane 0 a list has
abbrev pub data_steps : World → List Access → ℕ
data_steps x [] = 0
data_steps x (a ∷ l) = pick (is_data x a) 1 0 + data_steps (after x a) l
