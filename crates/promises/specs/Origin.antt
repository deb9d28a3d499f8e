-- Where something known comes from: the access of a list that stored it, with nothing after it that stores there, or the opening.
use Rattle.std.specs.Prelude.{ℕ, ◌+◌, ◌/◌, ◌%◌, Bool, true, List, ◌∷◌, ◌++◌, ◌≡◌, get_or}
use Rattle.std.proofs.Math.Option
use Rattle.std.proofs.Math.Option.{Option, none, some}
use Rattle.bits.specs.Choose.{pick}
use Rattle.bits.specs.Bit.{bit}
use Rattle.bits.specs.Word.{lane_byte}
use Rattle.chip.specs.declared.Access.{Access}
use Rattle.chip.specs.declared.Dac.{Dac}
use Rattle.chip.specs.declared.Place.TheVariants.{Address, Window}
use Rattle.chip.specs.Place.{place_of}
use Rattle.chip.specs.Access.{is_write}
use Rattle.chip.specs.Trace.{World, after, run}
use Rattle.promises.specs.Good.{status_at}
use Rattle.promises.specs.Along.{last_put}
use Rattle.promises.specs.History.{Spot, stated, aim_put, data_steps}
use Rattle.promises.specs.Frame.{moves, brought_bit, lane_put, byte_put}

-- what access a, made at x, puts where
abbrev pub bit_put : Spot → World → Access → Option (Option Bool)
bit_put q x a = pick (moves x a q) (some (some (brought_bit q a))) none

-- what a list of accesses, made from x, put into a place last, and d where it put nothing
abbrev pub latest : {C : Type 0} → (World → Access → Option C) → World → List Access → C → C
latest puts x l d = Option.get_or (last_put after puts x l) d

-- ---- a register's bit

-- an accepted write of the list stored v there, and no access after it stores the bit
pub record BitStored (x : World) (l : List Access) (q : Spot) (v : Bool) : Type 0 where
  pub before : List Access
  pub by : Access
  pub rest : List Access
  pub split : l ≡ before ++ by ∷ rest
  pub moved : moves (run x before) by q ≡ true
  pub value : v ≡ brought_bit q by
  pub silent : last_put after (bit_put q) (after (run x before) by) rest ≡ none

-- no access of the list stores the bit, and the reset tables state v
pub record BitStated (x : World) (l : List Access) (q : Spot) (v : Bool) : Type 0 where
  pub silent : last_put after (bit_put q) x l ≡ none
  pub value : stated q ≡ some v

-- ---- a memory byte

-- an accepted write of the list through an aperture stored v in byte k, and no access after it stores the byte
pub record ByteStored (x : World) (l : List Access) (k v : ℕ) : Type 0 where
  pub before : List Access
  pub by : Access
  pub rest : List Access
  pub split : l ≡ before ++ by ∷ rest
  pub accepted : status_at (run x before) by ≡ 0
  pub write : is_write by ≡ true
  pub window : ℕ
  pub through : place_of (run x before).state by ≡ Window window
  pub put : lane_put (get_or (run x before).state.values window 0) by k ≡ some v
  pub silent : last_put after (byte_put k) (after (run x before) by) rest ≡ none

-- no access of the list stores the byte, and it was lent as v
pub record ByteLent (x : World) (l : List Access) (k v : ℕ) : Type 0 where
  pub silent : last_put after (byte_put k) x l ≡ none
  pub value : get_or x.memory k 0 ≡ v

-- ---- the palette's address

-- an accepted write of the address with lane 0
pub record SetsAddress (x : World) (a : Access) (v : ℕ) : Type 0 where
  pub accepted : status_at x a ≡ 0
  pub write : is_write a ≡ true
  pub place : place_of x.state a ≡ Address
  pub lane : bit 0 a.enables ≡ true
  pub value : v ≡ lane_byte 0 a.word

-- address v was set by an access of the list, and none after it set one; n accepted reads and writes of palette data with lane 0 came since
pub record AddressSet (x : World) (l : List Access) (v n : ℕ) : Type 0 where
  pub before : List Access
  pub by : Access
  pub rest : List Access
  pub split : l ≡ before ++ by ∷ rest
  pub sets : SetsAddress (run x before) by v
  pub silent : last_put after aim_put (after (run x before) by) rest ≡ none
  pub count : n ≡ data_steps (after (run x before) by) rest

-- an access of the list set the address
pub record SetBy (x : World) (l : List Access) : Type 0 where
  pub value : ℕ
  pub steps : ℕ
  pub set : AddressSet x l value steps

-- the value set plus one for each completed third component, modulo 256; and the component
pub record AddressAt (d : Dac) (v n : ℕ) : Type 0 where
  pub known : d.known ≡ 0xFF
  pub address : d.address ≡ (v + n / 3) % 256
  pub component : d.component ≡ n % 3
