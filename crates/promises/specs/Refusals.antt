-- The refusals in 01's words: what each line of its table asks (01, An access and its answer; docs/DECISIONS.md, D-22, D-27, D-42 and D-43).
use Rattle.std.specs.Prelude.{ℕ, ◌+◌, ◌*◌, ◌/◌, ◌%◌, ◌^◌, ◌≤◌, ◌<◌, Bool, true, false, ◌||◌, ◌↔◌, ◌⊎◌, ◌≡◌, eqb, get_or, length}
use Rattle.bits.specs.Choose.{pick}
use Rattle.bits.specs.Bit.{bit}
use Rattle.chip.specs.declared.State.{State}
use Rattle.chip.specs.declared.Access.{Access}
use Rattle.chip.specs.declared.Kind.TheVariants.{Write}
use Rattle.chip.specs.declared.Place.{Place}
use Rattle.chip.specs.declared.Place.TheVariants.{Register, Window}
use Rattle.chip.specs.Bank.{bank_count, bank_row, subsystem}
use Rattle.chip.specs.Palette.{entry_count}
use Rattle.chip.specs.Trace.{World}
use Rattle.promises.specs.Places.{Leads}

-- ---- the limits of an opening, lines 8 and 9

-- width and height from 1 to 1,024
pub record Panel (w h : ℕ) : Type 0 where
  pub wide : (1 ≤ w) × (w ≤ 1024)
  pub high : (1 ≤ h) × (h ≤ 1024)

-- memory a multiple of 8 from 8 to 8,388,608 bytes
pub record Memory (n : ℕ) : Type 0 where
  pub eights : n % 8 ≡ 0
  pub bytes : (8 ≤ n) × (n ≤ 8388608)

-- ---- 1: a state

-- a bit that holds v, known or not as k says; free where a write may change it; its reset is r, stated where t says
pub record SoundBit (v k free r t : Bool) : Type 0 where
  -- a stored bit that no write may change does not differ from its reset, in value or in being known
  pub fixed_value : free ≡ false → v ≡ r
  pub fixed_known : free ≡ false → k ≡ t
  -- a bit known at reset is not held as unknown
  pub stated : t ≡ true → k ≡ true
  -- a bit held as unknown is zero
  pub zero : k ≡ false → v ≡ false

-- what a write may change of the register in row i; of the subsystem numbers those that are fixed are exempt, and the others are compared with their reset
unfoldable pub free_bit : ℕ → ℕ → ℕ → Bool
free_bit once i b = pick (eqb i subsystem) (bit (b / 16) once) (bit b (bank_row i).writable || bit b (bank_row i).clears)

-- 02, C-15: "an entry is zero or has exactly bit 24 of its top byte set"
pub record Flagged (w : ℕ) : Type 0 where
  pub flag : bit 24 w ≡ true
  pub alone : (b : ℕ) → 24 < b → b < 32 → bit b w ≡ false

abbrev pub SoundEntry : ℕ → Type 0
SoundEntry w = (w ≡ 0) ⊎ Flagged w

-- 01's clauses
pub record IsState (s : State) : Type 0 where
  -- the panel and the recorded memory length are inside the limits
  pub panel : Panel s.width s.height
  pub fitted : Memory s.fitted
  -- the palette component is 0, 1 or 2
  pub component : s.dac.component ≤ 2
  -- every bit of a register, and of the address, of which bits 0 to 7 may change and none is stated at reset
  pub registers : (i b : ℕ) → i < bank_count → b < 32
      → SoundBit (bit b (get_or s.values i 0)) (bit b (get_or s.knowns i 0)) (free_bit s.once i b) (bit b (bank_row i).reset) (bit b (bank_row i).known)
  pub address : (b : ℕ) → b < 32 → SoundBit (bit b s.dac.address) (bit b s.dac.known) (bit b 0xFF) false false
  -- of the write-once flags bits 0 and 1 are used
  pub flags : s.once ≤ 3
  pub palette : (e : ℕ) → e < entry_count → SoundEntry (get_or s.palette e 0)

-- what is held and known of each register, the palette's entries, and what is known of the address, are words, as the types have it
pub record Words (s : State) : Type 0 where
  pub values : (i : ℕ) → get_or s.values i 0 < 2 ^ 32
  pub knowns : (i : ℕ) → get_or s.knowns i 0 < 2 ^ 32
  pub palette : (e : ℕ) → get_or s.palette e 0 < 2 ^ 32
  pub address : s.dac.known < 2 ^ 32

-- ---- 2 to 7

-- 2: memory has the length recorded at opening, and the picture width times height words
pub record Lent (x : World) : Type 0 where
  pub memory : length x.memory ≡ x.state.fitted
  pub picture : length x.picture ≡ x.state.width * x.state.height

-- 3: the target is 0 to 3, the enables are 0 to 15
pub record Asked (a : Access) : Type 0 where
  pub target : a.target ≤ 3
  pub enables : a.enables ≤ 15

-- 5: the access leads somewhere, and through an aperture all four bytes from its offset on are fitted
pub record Found (s : State) (a : Access) : Type 0 where
  pub place : Place
  pub leads : Leads s a place
  pub fitted : (i : ℕ) → place ≡ Window i → a.offset + 3 < s.fitted

-- 6: a register is read, or written, as the access asks; a look asks as a read does (02, C-12)
pub record Directed (s : State) (a : Access) : Type 0 where
  pub reads : (i : ℕ) → Leads s a (Register i) → (a.kind ≡ Write → ⊥) → (bank_row i).reads ≡ true
  pub writes : (i : ℕ) → Leads s a (Register i) → a.kind ≡ Write → (bank_row i).writes ≡ true

-- 7: the aperture's control register has no swap code 3 (bits 0 and 1), packed 16-bit mode (3), SVGA access (8) or ROM access (9)
pub record Served (control : ℕ) : Type 0 where
  pub swap : control % 4 ≡ 3 → ⊥
  pub unpacked : bit 3 control ≡ false
  pub no_svga : bit 8 control ≡ false
  pub no_rom : bit 9 control ≡ false

-- an access passes a line of the table
pub data Passes (x : World) (a : Access) : ℕ → Type 0 where
  state : IsState x.state → Passes x a 1
  lent : Lent x → Passes x a 2
  asked : Asked a → Passes x a 3
  aligned : a.offset % 4 ≡ 0 → Passes x a 4
  found : Found x.state a → Passes x a 5
  directed : Directed x.state a → Passes x a 6
  served : ((i : ℕ) → Leads x.state a (Window i) → Served (get_or x.state.values i 0)) → Passes x a 7

-- the first line that it does not pass is line n
pub record Fails (x : World) (a : Access) (n : ℕ) : Type 0 where
  pub fails : Passes x a n → ⊥
  pub before : (k : ℕ) → 1 ≤ k → k < n → Passes x a k

-- ---- an opening, of w by h dots with ml bytes and pl words: which status n it has, in the order 8, 9, 2

pub record OpeningHas (w h ml pl n : ℕ) : Type 0 where
  pub eight : (n ≡ 8) ↔ (Panel w h → ⊥)
  pub nine : (n ≡ 9) ↔ (Panel w h × (Memory ml → ⊥))
  pub two : (n ≡ 2) ↔ (Panel w h × Memory ml × (pl ≡ w * h → ⊥))
  pub done : (n ≡ 0) ↔ (Panel w h × Memory ml × (pl ≡ w * h))
  -- there is no other status
  pub among : ((n ≡ 8) ⊎ (n ≡ 9)) ⊎ ((n ≡ 2) ⊎ (n ≡ 0))
