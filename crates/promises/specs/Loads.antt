-- A palette entry's load: its three components written in order, with nothing between them that disturbs it (01, RAMDAC, rulings on addresses).
use Rattle.std.specs.Prelude.{ℕ, Bool, true, not, ◌&&◌, ◌||◌, List, [], ◌∷◌, ◌++◌, ◌⊎◌, ◌≡◌, eqb}
use Rattle.bits.specs.Choose.{pick}
use Rattle.bits.specs.Bit.{bit}
use Rattle.bits.specs.Word.{lane_byte}
use Rattle.chip.specs.declared.State.{State}
use Rattle.chip.specs.declared.Access.{Access}
use Rattle.chip.specs.declared.Colour.{Colour}
use Rattle.chip.specs.declared.Kind.TheVariants.{Write, Look}
use Rattle.chip.specs.declared.Place.TheVariants.{Address, PaletteData}
use Rattle.chip.specs.Place.{place_of}
use Rattle.chip.specs.Access.{is_write}
use Rattle.chip.specs.Trace.{World, after, run}
use Rattle.promises.specs.Good.{status_at}
use Rattle.promises.specs.Places.{Leads}
use Rattle.promises.specs.Width.{stored_byte}
use Rattle.promises.specs.History.{Seeing, is_data, is_aim}

-- an accepted write, with lane 0, of component c of entry e, whose byte is stored as v by the width of that moment
pub record WritesPart (x : World) (a : Access) (e c v : ℕ) : Type 0 where
  pub accepted : status_at x a ≡ 0
  pub write : is_write a ≡ true
  pub place : place_of x.state a ≡ PaletteData
  pub lane : bit 0 a.enables ≡ true
  pub entry : x.state.dac.address ≡ e
  pub component : x.state.dac.component ≡ c
  pub value : v ≡ stored_byte x.state (lane_byte 0 a.word)

-- what disturbs a load between two of its writes: an accepted palette data access with lane 0, read or written, and an accepted setting of an address with lane 0.
-- Refused accesses, looks, reading the address, accesses without lane 0 and other registers do not
unfoldable pub disturbs : World → Access → Bool
disturbs x a = is_data x a || is_aim x a

-- the same, line by line
pub record Disturbs (x : World) (a : Access) : Type 0 where
  pub accepted : status_at x a ≡ 0
  pub lane : bit 0 a.enables ≡ true
  pub by : ((a.kind ≡ Look → ⊥) × Leads x.state a PaletteData) ⊎ ((a.kind ≡ Write) × Leads x.state a Address)

-- no access of a list, made from x, does
abbrev pub calm : World → List Access → Bool
calm x [] = true
calm x (a ∷ l) = not (disturbs x a) && calm (after x a) l

-- access a, made after list l, completes entry e with colour c: the list has the writes of its components 0 and 1, and a is that of component 2
pub record Load (x : World) (l : List Access) (a : Access) (e : ℕ) (c : Colour) : Type 0 where
  pub start : List Access
  pub red : Access
  pub gap : List Access
  pub green : Access
  pub gap' : List Access
  pub split : l ≡ (start ++ red ∷ gap) ++ green ∷ gap'
  pub first : WritesPart (run x start) red e 0 c.red
  pub calm_gap : calm (after (run x start) red) gap ≡ true
  pub second : WritesPart (run x (start ++ red ∷ gap)) green e 1 c.green
  pub calm_gap' : calm (after (run x (start ++ red ∷ gap)) green) gap' ≡ true
  pub third : WritesPart (run x l) a e 2 c.blue

-- no access of a list, made after list l, completes entry e
abbrev pub NoLoad : World → List Access → List Access → ℕ → Type 0
NoLoad x l k e = (before : List Access) (by : Access) (rest : List Access) → k ≡ before ++ by ∷ rest → (c : Colour) → Load x (l ++ before) by e c → ⊥

-- entry e was completed with colour c, and not again after that
pub record Loaded (x : World) (l : List Access) (e : ℕ) (c : Colour) : Type 0 where
  pub before : List Access
  pub by : Access
  pub rest : List Access
  pub split : l ≡ before ++ by ∷ rest
  pub load : Load x before by e c
  pub last : NoLoad x (before ++ by ∷ []) rest e

-- ---- a component that is read back

-- a, made after list l, is an accepted palette data read or look, with lane 0, of an entry that the list loaded
pub record ReadsPart (x : World) (l : List Access) (a : Access) : Type 0 where
  pub read : Seeing (run x l) a
  pub place : Leads (run x l).state a PaletteData
  pub lane : bit 0 a.enables ≡ true
  pub colour : Colour
  pub loaded : Loaded x l (run x l).state.dac.address colour

-- the access of a load that wrote component i, and the world that it was made at
abbrev pub part_by : {x : World} {l : List Access} {a : Access} {e : ℕ} {c : Colour} → Load x l a e c → ℕ → Access
part_by {x} {l} {a} f i = pick (eqb i 0) f.red (pick (eqb i 1) f.green a)

abbrev pub part_at : {x : World} {l : List Access} {a : Access} {e : ℕ} {c : Colour} → Load x l a e c → ℕ → World
part_at {x} {l} f i = pick (eqb i 0) (run x f.start) (pick (eqb i 1) (run x (f.start ++ f.red ∷ f.gap)) (run x l))

-- the byte that was written as the component which is read, and the state of that moment
abbrev pub written : {x : World} {l : List Access} {a : Access} → ReadsPart x l a → ℕ
written {x} {l} f = lane_byte 0 (part_by f.loaded.load (run x l).state.dac.component).word

abbrev pub written_in : {x : World} {l : List Access} {a : Access} → ReadsPart x l a → State
written_in {x} {l} f = (part_at f.loaded.load (run x l).state.dac.component).state
