-- What a read or a look may show as known, and why: the only origins that a known bit has (01, An access and its answer, Region 0, RAMDAC, Configuration header, Apertures).
use Rattle.std.specs.Prelude.{ℕ, ◌+◌, ◌/◌, ◌%◌, ◌<◌, Bool, true, false, List, ◌≡◌, get_or}
use Rattle.bits.specs.Bit.{bit}
use Rattle.chip.specs.declared.Access.{Access}
use Rattle.chip.specs.declared.Colour.{Colour}
use Rattle.chip.specs.declared.Kind.TheVariants.{Write}
use Rattle.chip.specs.declared.Place.TheVariants.{Register, Address, PaletteData, Window, Blank}
use Rattle.chip.specs.Trace.{World, run}
use Rattle.promises.specs.Good.{status_at}
use Rattle.promises.specs.Places.{Leads}
use Rattle.promises.specs.Width.{read_byte, component_of}
use Rattle.promises.specs.History.{spot}
use Rattle.promises.specs.Frame.{lane_at}
use Rattle.promises.specs.Origin.{BitStored, BitStated, ByteStored, ByteLent, AddressSet}
use Rattle.promises.specs.Loads.{Loaded}

-- what tells a read or a look a, made after list l from x, that bit b is v
pub data Told (x : World) (l : List Access) (a : Access) (b : ℕ) (v : Bool) : Type 0 where
  -- a register's bit: an accepted write of the list stored it last, or none did and the reset tables state it
  stored : (r : ℕ) → Leads (run x l).state a (Register r) → BitStored x l (spot r b) v → Told x l a b v
  stated : (r : ℕ) → Leads (run x l).state a (Register r) → BitStated x l (spot r b) v → Told x l a b v
  -- an offset of the header without a register: zero, by PCI
  blank : Leads (run x l).state a Blank → v ≡ false → Told x l a b v
  -- the palette's address: set to u, with n reads and writes of palette data since
  address : Leads (run x l).state a Address → b < 8 → (u n : ℕ) → AddressSet x l u n → v ≡ bit b ((u + n / 3) % 256) → Told x l a b v
  -- palette data: the component that is next, of the entry that the address names, loaded last with colour c, as the width of this moment shows it
  palette : Leads (run x l).state a PaletteData → b < 8 → (u n : ℕ) → AddressSet x l u n → (c : Colour) → Loaded x l ((u + n / 3) % 256) c
      → v ≡ bit b (read_byte (run x l).state (component_of (n % 3) c)) → Told x l a b v
  -- memory: the byte that exchanges with the bit's lane, stored last by an accepted write, or as lent
  poked : (i : ℕ) → Leads (run x l).state a (Window i) → (u : ℕ)
      → ByteStored x l (a.offset + lane_at (get_or (run x l).state.values i 0) (b / 8)) u → v ≡ bit (b % 8) u → Told x l a b v
  lent : (i : ℕ) → Leads (run x l).state a (Window i) → (u : ℕ)
      → ByteLent x l (a.offset + lane_at (get_or (run x l).state.values i 0) (b / 8)) u → v ≡ bit (b % 8) u → Told x l a b v

-- it is an accepted read or look, with the bit's lane, that was told
pub record ShownBy (x : World) (l : List Access) (a : Access) (b : ℕ) (v : Bool) : Type 0 where
  pub accepted : status_at (run x l) a ≡ 0
  pub read : a.kind ≡ Write → ⊥
  pub lane : bit (b / 8) a.enables ≡ true
  pub told : Told x l a b v
