-- What an access alters, in the words of 01: what it makes of a bit, an entry, a byte that it reaches; any other stays.
use Rattle.std.specs.Prelude.{ℕ, ◌+◌, ◌-◌, ◌*◌, ◌/◌, ◌%◌, Bool, true, not, false, ◌&&◌, ◌||◌, List, [], ◌∷◌, ◌≡◌, eqb, leb, ltb, get_or}
use Rattle.std.proofs.Math.Option.{Option, none, some}
use Rattle.bits.specs.Choose.{pick}
use Rattle.bits.specs.Bit.{bit}
use Rattle.bits.specs.Word.{lane_byte}
use Rattle.chip.specs.declared.State.{State}
use Rattle.chip.specs.declared.Access.{Access}
use Rattle.chip.specs.declared.Kind.TheVariants.{Write}
use Rattle.chip.specs.declared.Place.TheVariants.{Register}
use Rattle.chip.specs.declared.Dac.{Dac}
use Rattle.chip.specs.declared.Colour.{Colour}
use Rattle.chip.specs.Bank.{bank_row, subsystem}
use Rattle.chip.specs.Place.{place_of}
use Rattle.chip.specs.Access.{is_write}
use Rattle.chip.specs.Trace.{World, after}
use Rattle.promises.specs.Good.{status_at}
use Rattle.promises.specs.Places.{Leads}
use Rattle.promises.specs.Reach.{reach_at}
use Rattle.promises.specs.Width.{stored_byte}
use Rattle.promises.specs.History.{accepted, is_data, Spot}

-- ---- a register's bit

-- a write to register r moves its bit b: of the subsystem numbers with the half's two lanes, while it is not fixed; of the others with the bit's lane, if the
-- bit is writable, or cleared by one and the word has a one there
unfoldable pub bit_moves : State → Access → ℕ → ℕ → Bool
bit_moves s a r b =
    pick (eqb r subsystem)
    (not (bit (b / 16) s.once) && (bit (2 * (b / 16)) a.enables && bit (2 * (b / 16) + 1) a.enables))
    (bit (b / 8) a.enables && (bit b (bank_row r).writable || (bit b (bank_row r).clears && bit b a.word)))

-- it is row r
abbrev pub is_row : Option ℕ → ℕ → Bool
is_row none r = false
is_row (some i) r = eqb i r

-- an accepted write to the register in row r: region 0's, the header's, or the one that indexed data leads to
unfoldable pub writes_row : World → Access → ℕ → Bool
writes_row x a r = (accepted x a && is_write a) && is_row (reach_at (place_of x.state a)).row r

-- .. that moves the bit
unfoldable pub moves : World → Access → Spot → Bool
moves x a q = writes_row x a q.row && bit_moves x.state a q.row q.b

-- the same, line by line
pub record Moves (x : World) (a : Access) (q : Spot) : Type 0 where
  pub accepted : status_at x a ≡ 0
  pub write : a.kind ≡ Write
  pub place : Leads x.state a (Register q.row)
  pub reached : bit_moves x.state a q.row q.b ≡ true

-- .. and what it makes of it: the word's bit, and zero where a one clears
unfoldable pub brought_bit : Spot → Access → Bool
brought_bit q a = bit q.b a.word && not (bit q.b (bank_row q.row).clears)

-- .. that fixes a subsystem number, 0 the vendor's and 1 the ID's, if it is not fixed yet: with both of its lanes
unfoldable pub fixes : World → Access → ℕ → Bool
fixes x a n = writes_row x a subsystem && (bit (2 * n) a.enables && bit (2 * n + 1) a.enables)

-- some access of a list does
abbrev pub fixed_in : World → List Access → ℕ → Bool
fixed_in x [] n = false
fixed_in x (a ∷ l) n = fixes x a n || fixed_in (after x a) l n

-- the stored bits themselves: the value's, and whether it is known
pub record SameBit (s n : State) (q : Spot) : Type 0 where
  pub value : bit q.b (get_or n.values q.row 0) ≡ bit q.b (get_or s.values q.row 0)
  pub known : bit q.b (get_or n.knowns q.row 0) ≡ bit q.b (get_or s.knowns q.row 0)

-- ---- the palette's address, component and staged bytes

-- nothing is staged: the count is 0, and so are the two bytes
pub record Unstaged (d : Dac) : Type 0 where
  pub count : d.staged ≡ 0
  pub red : d.red ≡ 0
  pub green : d.green ≡ 0

-- after an address was set to v
pub record Aimed (d : Dac) (v : ℕ) : Type 0 where
  pub address : d.address ≡ v
  pub known : d.known ≡ 0xFF
  pub component : d.component ≡ 0
  pub staged : Unstaged d

-- after a read or a write of palette data: the component goes up by one; after 2 it becomes 0 and the address goes up by one, 255 to 0
pub record Advanced (d n : Dac) : Type 0 where
  pub component : n.component ≡ (d.component + 1) % 3
  pub address : n.address ≡ (d.address + (d.component + 1) / 3) % 256
  pub known : n.known ≡ d.known

-- what is staged after a palette data write of a byte that is stored as v: component 0 stages red; 1 adds green where exactly red is staged; nothing is after any other
pub record Stages (d n : Dac) (v : ℕ) : Type 0 where
  pub red : d.component ≡ 0 → (n.staged ≡ 1) × (n.red ≡ v) × (n.green ≡ 0)
  pub green : d.component ≡ 1 → d.staged ≡ 1 → (n.staged ≡ 2) × (n.red ≡ d.red) × (n.green ≡ v)
  pub drops : (d.component ≡ 0 → ⊥) → (d.component ≡ 1 → d.staged ≡ 1 → ⊥) → Unstaged n

-- ---- a palette entry

-- an accepted write of palette data with lane 0, the third of an entry with red and green staged, at the entry's address ..
unfoldable pub completes : World → Access → ℕ → Bool
completes x a e =
    (is_write a && is_data x a) && ((eqb x.state.dac.component 2 && eqb x.state.dac.staged 2) && eqb x.state.dac.address e)

-- .. and the colour that it makes: the staged bytes, and its own as the width of that moment has it
unfoldable pub made_colour : State → Access → Colour
made_colour s a = record { red = s.dac.red; green = s.dac.green; blue = stored_byte s (lane_byte 0 a.word) }

-- ---- a memory byte

-- the lane that memory byte o + i exchanges with, by the swap code in bits 0 and 1 of the aperture's control register: i, 3 − i where it is 1, (i + 2) mod 4 where
-- it is 2, for i from 0 to 3. The rule is its own inverse there: lane j exchanges with byte o + lane_at j
unfoldable pub lane_at : ℕ → ℕ → ℕ
lane_at control i = pick (eqb (control % 4) 1) (3 - i) (pick (eqb (control % 4) 2) ((i + 2) % 4) i)

-- what a write by that rule stores in byte k, if it is one of the four from its offset on: its lane's byte, where that lane is enabled
unfoldable pub lane_put : ℕ → Access → ℕ → Option ℕ
lane_put control a k =
    pick (leb a.offset k && (ltb k (a.offset + 4) && bit (lane_at control (k - a.offset)) a.enables))
    (some (lane_byte (lane_at control (k - a.offset)) a.word)) none

-- .. through the aperture whose control register is in a row, if it is one
unfoldable pub window_put : State → Access → Option ℕ → ℕ → Option ℕ
window_put s a none k = none
window_put s a (some i) k = lane_put (get_or s.values i 0) a k

-- what an access stores in byte k, if it is an accepted write that does
unfoldable pub byte_put : ℕ → World → Access → Option ℕ
byte_put k x a = pick (accepted x a && is_write a) (window_put x.state a (reach_at (place_of x.state a)).window k) none
