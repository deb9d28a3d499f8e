-- Promise 4. Where a known bit comes from, after an opening and any list of accesses: the reset tables, PCI's rule for offsets without a register, memory as
-- lent, accepted writes of the list, and the palette address since it was set; nothing else is ever shown as known, and each has the value last stored.
-- From the law of a place along any list (Along), one step at a time (Contents), and what a read shows (Shown). Assumes nothing.
use Prim.Native.Nat.{ℕ, ◌<◌}
use mathlib.Core.Bool.{Bool}
use mathlib.Core.List.{List, []}
use mathlib.Core.Logic.{◌↔◌, ◌⊎◌, inl, inr}
use mathlib.Core.Option
use mathlib.Core.Option.{none, some}
use mathlib.Core.Path.{◌≡◌, sym, ap, ◌∙◌}
use native.Mathlib.Omega.{arith}
use lib.ListN.{get_or, length}
use Rattle.chip.specs.declared.State.{State}
use Rattle.chip.specs.declared.Access.{Access}
use Rattle.chip.specs.declared.Colour.{Colour}
use Rattle.chip.specs.Palette.{entry_count, entry_of}
use Rattle.chip.specs.Dac.{reset_dac}
use Rattle.chip.specs.State.{reset_state}
use Rattle.chip.specs.Trace.{World, opened, after, run}
use Rattle.promises.specs.Good.{Good, Openable}
use Rattle.promises.specs.Along.{runs, last_put, PutLast, PutNever}
use Rattle.promises.specs.History.{Spot, Real, holds, stated, aim_put}
use Rattle.promises.specs.Frame.{byte_put}
use Rattle.promises.specs.Origin.{SetBy, bit_put, latest, BitStored, BitStated, ByteStored, ByteLent, AddressSet, AddressAt}
use Rattle.promises.specs.Loads.{NoLoad, Loaded}
use Rattle.promises.proofs.Along.{read_along, exactly}
use Rattle.promises.proofs.Worlds.{good_kept, good_along, opened_good, opens, memory_length}
use Rattle.promises.proofs.MemoryBytes.{byte_step}
use Rattle.promises.proofs.Moves.{bit_step}
use Rattle.promises.proofs.Address.{run_runs, set_or_not, set_at, never_set}
use Rattle.promises.proofs.Loads.{loaded, of_loaded, never_loaded, of_unloaded}
use Rattle.promises.proofs.Origins.{opened_holds, reset_entry, bit_stored, stored_bit, byte_stored, stored_byte_lem}

module _ (w h : ℕ) (m p : List ℕ) (o : Openable w h m p) (l : List Access) where
  good : Good (run (opened w h m p) l)
  good = good_along (opened w h m p) l (opened_good w h m p o)

  -- what the openings' parts are
  abbrev Long : ℕ → World → Type 0
  Long k x = k < length x.memory

  long_kept : (k : ℕ) (x : World) (a : Access) → Long k x → Long k (after x a)
  long_kept k x a hk = omega (arith, memory_length x a)

  opened_long : (k : ℕ) → k < length m → Long k (opened w h m p)
  opened_long k hk = omega (arith, ap length (opens w h m p o.accepted).memory)

  opened_entry : (e : ℕ) → entry_of (opened w h m p).state.palette e ≡ none
  opened_entry e = ap (λ (s : State). entry_of s.palette e) (opens w h m p o.accepted).state ∙ reset_entry w h (length m) e

  opened_stage : (opened w h m p).state.dac.staged ≡ 0
  unfolding reset_state reset_dac
  opened_stage = ap (λ (s : State). s.dac.staged) (opens w h m p o.accepted).state

  -- ---- registers

  -- a bit holds what the list stored there last, and else what the reset tables state
  pub bit_held : (q : Spot) → Real q → holds (run (opened w h m p) l).state q ≡ latest (bit_put q) (opened w h m p) l (stated q)
  bit_held q r =
      ap (λ (x : World). holds x.state q) (sym (run_runs (opened w h m p) l))
      ∙ read_along after (bit_put q) (λ (x : World). holds x.state q) Good good_kept (bit_step q r) (opened w h m p) l (opened_good w h m p o)
      ∙ ap (Option.get_or (last_put after (bit_put q) (opened w h m p) l)) (opened_holds w h m p o q)

  -- a bit is known as v exactly where an accepted write of the list stored v last, or none stored it and the tables state v
  pub bit_exactly : (q : Spot) → Real q → (v : Bool) → (holds (run (opened w h m p) l).state q ≡ some v) ↔ (BitStored (opened w h m p) l q v ⊎ BitStated (opened w h m p) l q v)
  bit_exactly q r v = ((λ e. go (z.0 (same ∙ e))), (λ f. sym same ∙ z.1 (back f)))
    where
      same : holds (runs after (opened w h m p) l).state q ≡ holds (run (opened w h m p) l).state q
      same = ap (λ (x : World). holds x.state q) (run_runs (opened w h m p) l)

      z : (holds (runs after (opened w h m p) l).state q ≡ some v) ↔ (PutLast after (bit_put q) (opened w h m p) l (some v) ⊎ PutNever after (bit_put q) (opened w h m p) l (holds (opened w h m p).state q) (some v))
      z = exactly after (bit_put q) (λ (x : World). holds x.state q) Good good_kept (bit_step q r) (opened w h m p) l (opened_good w h m p o) (some v)

      go : PutLast after (bit_put q) (opened w h m p) l (some v) ⊎ PutNever after (bit_put q) (opened w h m p) l (holds (opened w h m p).state q) (some v)
          → BitStored (opened w h m p) l q v ⊎ BitStated (opened w h m p) l q v
      go (inl f) = inl (bit_stored (opened w h m p) l q v f)
      go (inr n) = inr (record { silent = n.silent; value = sym (opened_holds w h m p o q) ∙ sym n.same })

      back : BitStored (opened w h m p) l q v ⊎ BitStated (opened w h m p) l q v
          → PutLast after (bit_put q) (opened w h m p) l (some v) ⊎ PutNever after (bit_put q) (opened w h m p) l (holds (opened w h m p).state q) (some v)
      back (inl f) = inl (stored_bit (opened w h m p) l q v f)
      back (inr n) = inr (record { silent = n.silent; same = sym n.value ∙ sym (opened_holds w h m p o q) })

  -- ---- memory

  -- a byte holds what the list stored there last, and else what was lent
  pub byte_held : (k : ℕ) → k < length m → get_or (run (opened w h m p) l).memory k 0 ≡ latest (byte_put k) (opened w h m p) l (get_or m k 0)
  byte_held k hk =
      ap (λ (x : World). get_or x.memory k 0) (sym (run_runs (opened w h m p) l))
      ∙ read_along after (byte_put k) (λ (x : World). get_or x.memory k 0) (Long k) (long_kept k) (byte_step k) (opened w h m p) l (opened_long k hk)
      ∙ ap (Option.get_or (last_put after (byte_put k) (opened w h m p) l)) (ap (λ (n : List ℕ). get_or n k 0) (opens w h m p o.accepted).memory)

  -- it holds v exactly where an accepted write of the list stored v last, or none stored the byte and it was lent as v
  pub byte_exactly : (k : ℕ) → k < length m → (v : ℕ) → (get_or (run (opened w h m p) l).memory k 0 ≡ v) ↔ (ByteStored (opened w h m p) l k v ⊎ ByteLent (opened w h m p) l k v)
  byte_exactly k hk v = ((λ e. go (z.0 (same ∙ e))), (λ f. sym same ∙ z.1 (back f)))
    where
      same : get_or (runs after (opened w h m p) l).memory k 0 ≡ get_or (run (opened w h m p) l).memory k 0
      same = ap (λ (x : World). get_or x.memory k 0) (run_runs (opened w h m p) l)

      z : (get_or (runs after (opened w h m p) l).memory k 0 ≡ v) ↔ (PutLast after (byte_put k) (opened w h m p) l v ⊎ PutNever after (byte_put k) (opened w h m p) l (get_or (opened w h m p).memory k 0) v)
      z = exactly after (byte_put k) (λ (x : World). get_or x.memory k 0) (Long k) (long_kept k) (byte_step k) (opened w h m p) l (opened_long k hk) v

      go : PutLast after (byte_put k) (opened w h m p) l v ⊎ PutNever after (byte_put k) (opened w h m p) l (get_or (opened w h m p).memory k 0) v
          → ByteStored (opened w h m p) l k v ⊎ ByteLent (opened w h m p) l k v
      go (inl f) = inl (byte_stored (opened w h m p) l k v f)
      go (inr n) = inr (record { silent = n.silent; value = sym n.same })

      back : ByteStored (opened w h m p) l k v ⊎ ByteLent (opened w h m p) l k v
          → PutLast after (byte_put k) (opened w h m p) l v ⊎ PutNever after (byte_put k) (opened w h m p) l (get_or (opened w h m p).memory k 0) v
      back (inl f) = inl (stored_byte_lem (opened w h m p) l k v f)
      back (inr n) = inr (record { silent = n.silent; same = sym n.value })

  -- ---- the palette's address

  -- it is unknown, every bit of it, until an access sets it; then every bit is known, and it is the value set plus one for each completed third component,
  -- modulo 256, with the component that is left
  pub address_unset : last_put after aim_put (opened w h m p) l ≡ none → (run (opened w h m p) l).state.dac.known ≡ 0
  address_unset = never_set w h m p o l

  pub address_set : (v n : ℕ) → AddressSet (opened w h m p) l v n → AddressAt (run (opened w h m p) l).state.dac v n
  address_set v n s = set_at (opened w h m p) l (opened_good w h m p o) v n s

  pub address_origin : SetBy (opened w h m p) l ⊎ (last_put after aim_put (opened w h m p) l ≡ none)
  address_origin = set_or_not (opened w h m p) l

  -- ---- palette entries

  -- an entry has a colour exactly where the list loaded it last with that colour ..
  pub entry_exactly : (e : ℕ) → e < entry_count → (c : Colour) → (entry_of (run (opened w h m p) l).state.palette e ≡ some c) ↔ Loaded (opened w h m p) l e c
  entry_exactly e he c = (
    loaded (opened w h m p) e (opened_good w h m p o) opened_stage he (opened_entry e) l c,
    of_loaded (opened w h m p) e (opened_good w h m p o) opened_stage he (opened_entry e) l c,
  )

  -- .. and was never stored exactly where the list has no load of it
  pub entry_never : (e : ℕ) → e < entry_count → (entry_of (run (opened w h m p) l).state.palette e ≡ none) ↔ NoLoad (opened w h m p) [] l e
  entry_never e he = (
    never_loaded (opened w h m p) e (opened_good w h m p o) opened_stage he (opened_entry e) l,
    of_unloaded (opened w h m p) e (opened_good w h m p o) opened_stage he (opened_entry e) l,
  )
