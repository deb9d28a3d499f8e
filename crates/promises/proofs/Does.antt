-- What an access is asked and stores, part by part, from what its place reaches: the one place here that goes through the places for it.
-- By the place that the access leads to; then whether it is accepted, a write, or a look. Assumes nothing.
use Prim.Native.Nat.{ℕ}
use mathlib.Core.Bool.{Bool, true, false, ◌&&◌}
use mathlib.Core.List.{List, []}
use mathlib.Core.Option.{Option, none, some}
use mathlib.Core.Path.{◌≡◌, refl}
use lib.ListN.{get_or}
use Rattle.bits.specs.Choose.{pick}
use Rattle.bits.specs.Bit.{bit}
use Rattle.bits.specs.Word.{lane_byte}
use Rattle.bits.proofs.Cases.{by_test}
use Rattle.chip.specs.declared.State.{State}
use Rattle.chip.specs.declared.Access.{Access}
use Rattle.chip.specs.declared.Dac.{Dac}
use Rattle.chip.specs.declared.Place.{Place}
use Rattle.chip.specs.declared.Place.TheVariants.{Register, Address, PaletteData, Window, Blank, Nowhere}
use Rattle.chip.specs.Dac.{aimed_at, after_fetch, after_paint, completed_by}
use Rattle.chip.specs.Bank.{bank_row}
use Rattle.chip.specs.Units.{at_byte}
use Rattle.chip.specs.Aperture.{served, span, reaches_memory, Put}
use Rattle.chip.specs.Patch.{Store}
use Rattle.chip.specs.Place.{place_of}
use Rattle.chip.specs.Port.{row_patch, aim_patch, fetch_patch, kept_from, paint_patch, poke_patch, port_at}
use Rattle.chip.specs.Access.{is_write, is_look}
use Rattle.chip.specs.Refusal.{port_of}
use Rattle.chip.specs.Step.{patch_of}
use Rattle.chip.specs.Trace.{World}
use Rattle.chip.proofs.Operations.{write_looks_not}
use Rattle.promises.specs.Reach.{reach_at}
use Rattle.promises.specs.History.{accepted, is_data, is_aim}
use Rattle.promises.proofs.Patches.{patch_at}

-- what a write stores of the register in a row, and of memory through a window
abbrev pub store_from : State → Access → Option ℕ → Option Store
store_from s a none = none
store_from s a (some i) = (row_patch s i a).store

abbrev pub once_from : State → Access → Option ℕ → Option ℕ
once_from s a none = none
once_from s a (some i) = (row_patch s i a).once

abbrev pub puts_from : State → Access → Option ℕ → List Put
puts_from s a none = []
puts_from s a (some i) = (poke_patch (get_or s.values i 0) a).puts

-- .. and what a place asks of them for the refusals: memory that is fitted, a register's directions, a mode that is served
abbrev pub fits_from : State → Access → Option ℕ → Bool
fits_from s a none = true
fits_from s a (some i) = reaches_memory s.fitted (span (get_or s.values i 0) (at_byte a.offset))

abbrev pub reads_from : Option ℕ → Bool
reads_from none = true
reads_from (some i) = (bank_row i).reads

abbrev pub writes_from : Option ℕ → Bool
writes_from none = true
writes_from (some i) = (bank_row i).writes

abbrev pub served_from : State → Option ℕ → Bool
served_from s none = true
served_from s (some i) = served (get_or s.values i 0)

-- ---- by the place

pub record Ways (s : State) (a : Access) (p : Place) : Type 0 where
  pub present : (port_at s a p).present ≡ ((reach_at p).here && fits_from s a (reach_at p).window)
  pub reads : (port_at s a p).reads ≡ reads_from (reach_at p).row
  pub writes : (port_at s a p).writes ≡ writes_from (reach_at p).row
  pub served : (port_at s a p).served ≡ served_from s (reach_at p).window

pub ways : (s : State) (a : Access) (p : Place) → Ways s a p
unfolding port_at reach_at
ways s a (Register i) = record { present = refl; reads = refl; writes = refl; served = refl }
ways s a Address = record { present = refl; reads = refl; writes = refl; served = refl }
ways s a PaletteData = record { present = refl; reads = refl; writes = refl; served = refl }
ways s a (Window i) = record { present = refl; reads = refl; writes = refl; served = refl }
ways s a Blank = record { present = refl; reads = refl; writes = refl; served = refl }
ways s a Nowhere = record { present = refl; reads = refl; writes = refl; served = refl }

record Told (s : State) (a : Access) (p : Place) : Type 0 where
  store : (port_at s a p).stored.store ≡ store_from s a (reach_at p).row
  once : (port_at s a p).stored.once ≡ once_from s a (reach_at p).row
  dac :
      (port_at s a p).stored.dac
      ≡ pick ((reach_at p).aims && bit 0 a.enables) (some (aimed_at (lane_byte 0 a.word)))
      (pick ((reach_at p).paints && bit 0 a.enables) (some (after_paint s.dac (kept_from s a))) none)
  paint : (port_at s a p).stored.paint ≡ pick ((reach_at p).paints && bit 0 a.enables) (completed_by s.dac (kept_from s a)) none
  puts : (port_at s a p).stored.puts ≡ puts_from s a (reach_at p).window
  read_store : (port_at s a p).fetched.store ≡ none
  read_once : (port_at s a p).fetched.once ≡ none
  read_dac : (port_at s a p).fetched.dac ≡ pick ((reach_at p).paints && bit 0 a.enables) (some (after_fetch s.dac)) none
  read_paint : (port_at s a p).fetched.paint ≡ none
  read_puts : (port_at s a p).fetched.puts ≡ []

told : (s : State) (a : Access) (p : Place) → Told s a p
unfolding port_at reach_at aim_patch fetch_patch paint_patch poke_patch row_patch
told s a (Register i) = record { store = refl; once = refl; dac = refl; paint = refl; puts = refl; read_store = refl; read_once = refl; read_dac = refl; read_paint = refl; read_puts = refl }
told s a Address = record { store = refl; once = refl; dac = refl; paint = refl; puts = refl; read_store = refl; read_once = refl; read_dac = refl; read_paint = refl; read_puts = refl }
told s a PaletteData = record { store = refl; once = refl; dac = refl; paint = refl; puts = refl; read_store = refl; read_once = refl; read_dac = refl; read_paint = refl; read_puts = refl }
told s a (Window i) = record { store = refl; once = refl; dac = refl; paint = refl; puts = refl; read_store = refl; read_once = refl; read_dac = refl; read_paint = refl; read_puts = refl }
told s a Blank = record { store = refl; once = refl; dac = refl; paint = refl; puts = refl; read_store = refl; read_once = refl; read_dac = refl; read_paint = refl; read_puts = refl }
told s a Nowhere = record { store = refl; once = refl; dac = refl; paint = refl; puts = refl; read_store = refl; read_once = refl; read_dac = refl; read_paint = refl; read_puts = refl }

-- ---- by the access

-- the RAMDAC's pointer after a read or a write of palette data
abbrev pub stepped : State → Access → Dac
stepped s a = pick (is_write a) (after_paint s.dac (kept_from s a)) (after_fetch s.dac)

-- an accepted write
abbrev pub writes : World → Access → Bool
writes x a = accepted x a && is_write a

pub record Does (x : World) (a : Access) : Type 0 where
  pub store : (patch_at x a).store ≡ pick (writes x a) (store_from x.state a (reach_at (place_of x.state a)).row) none
  pub once : (patch_at x a).once ≡ pick (writes x a) (once_from x.state a (reach_at (place_of x.state a)).row) none
  pub dac :
      (patch_at x a).dac
      ≡ pick (is_aim x a) (some (aimed_at (lane_byte 0 a.word))) (pick (is_data x a) (some (stepped x.state a)) none)
  pub paint : (patch_at x a).paint ≡ pick (is_write a && is_data x a) (completed_by x.state.dac (kept_from x.state a)) none
  pub puts : (patch_at x a).puts ≡ pick (writes x a) (puts_from x.state a (reach_at (place_of x.state a)).window) []

pub does : (x : World) (a : Access) → Does x a
unfolding patch_at patch_of port_of is_aim is_data
does x a =
    let z = told x.state a (place_of x.state a) in
    record {
      store = by_way (λ t w k. simp (t, w) z.store) (λ t w k. simp (t, w, k) z.read_store) (λ t w k. simp (t, w, k)) (λ t. simp t);
      once = by_way (λ t w k. simp (t, w) z.once) (λ t w k. simp (t, w, k) z.read_once) (λ t w k. simp (t, w, k)) (λ t. simp t);
      dac = by_way (λ t w k. simp (t, w, k) z.dac) (λ t w k. simp (t, w, k) z.read_dac) (λ t w k. simp (t, w, k)) (λ t. simp t);
      paint =
          by_way (λ t w k. simp (t, w, k) z.paint) (λ t w k. simp (t, w, k) z.read_paint) (λ t w k. simp (t, w, k))
          (λ t. by_test (is_write a) (λ w. simp (t, w)) (λ w. simp (t, w)));
      puts = by_way (λ t w k. simp (t, w) z.puts) (λ t w k. simp (t, w, k) z.read_puts) (λ t w k. simp (t, w, k)) (λ t. simp t);
    }
  where
    -- an accepted write, an accepted read, an accepted look; refused
    by_way : {P : Type 0} → (accepted x a ≡ true → is_write a ≡ true → is_look a ≡ false → P) → (accepted x a ≡ true → is_write a ≡ false → is_look a ≡ false → P)
        → (accepted x a ≡ true → is_write a ≡ false → is_look a ≡ true → P) → (accepted x a ≡ false → P) → P
    by_way f g k h =
        by_test (accepted x a) (λ t. by_test (is_write a) (λ w. f t w (write_looks_not a w)) (λ w. by_test (is_look a) (k t w) (g t w))) h
