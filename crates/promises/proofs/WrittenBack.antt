-- A write through an aperture, and a read there: the read is accepted, goes by the rule that the write went by, and finds each lane's byte as the write left it.
-- No access through an aperture alters the state; the byte of a lane by the rule that is its own inverse. Assumes nothing.
use Prim.Native.Nat.{ℕ, ◌+◌, ◌/◌, ◌%◌, ◌≤◌, ◌<◌}
use mathlib.Core.Bool.{true, false}
use mathlib.Core.Option
use mathlib.Core.Option.{Option, none, some}
use mathlib.Core.Path.{◌≡◌, refl, sym, ap, ap₂, ◌∙◌, subst}
use native.Mathlib.Omega.{arith}
use borrow.Author.Tests.{eq-eqb, le-leb, leb-true}
use lib.ListN.{get_or, length}
use Rattle.bits.specs.Choose.{pick}
use Rattle.bits.specs.Bit.{bit}
use Rattle.bits.specs.Word.{lane_byte}
use Rattle.bits.proofs.Cases.{by_test}
use Rattle.chip.specs.declared.State.{State}
use Rattle.chip.specs.declared.Access.{Access}
use Rattle.chip.specs.declared.Place.{Place}
use Rattle.chip.specs.declared.Place.TheVariants.{Window}
use Rattle.chip.specs.Units.{at_byte}
use Rattle.chip.specs.Aperture.{served, span, reaches_memory}
use Rattle.chip.specs.Patch.{applied}
use Rattle.chip.specs.Place.{place_at, place_of}
use Rattle.chip.specs.Port.{poke_patch, port_at}
use Rattle.chip.specs.Access.{is_write, is_look}
use Rattle.chip.specs.Refusal.{port_of}
use Rattle.chip.specs.Step.{patch_of}
use Rattle.chip.specs.Trace.{World, step, after}
use Rattle.chip.proofs.Refusals.{unrefused}
use Rattle.promises.specs.Good.{Good, status_at}
use Rattle.promises.specs.Reach.{reach_at}
use Rattle.promises.specs.History.{accepted, Seeing, shows}
use Rattle.promises.specs.Frame.{lane_at, lane_put, window_put, byte_put}
use Rattle.promises.specs.Lanes.{WritesWindow, ReadsThere}
use Rattle.promises.proofs.Patches.{patch_at}
use Rattle.promises.proofs.Places.{leads_place}
use Rattle.promises.proofs.Worlds.{after_state}
use Rattle.promises.proofs.Pokes.{at_lt, lane_put_lem}
use Rattle.promises.proofs.MemoryBytes.{byte_step}
use Rattle.promises.proofs.Shown.{shows_memory}
use Rattle.promises.proofs.Depends.{port_status, good_status}

-- no access through an aperture alters the state, be it a read, a write or a look, or refused
pub window_leaves : (x : World) (a : Access) (i : ℕ) → place_of x.state a ≡ Window i → (after x a).state ≡ x.state
unfolding patch_at patch_of port_of port_at poke_patch applied
window_leaves x a i e =
    after_state x a ∙ by_test (accepted x a) (λ t. by_test (is_write a) (λ w. simp (t, w, e)) (λ w. by_test (is_look a) (λ k. simp (t, w, k)) (λ k. simp (t, w, k, e)))) (λ t. simp t)

-- a read or a look through an aperture is accepted where its four bytes are fitted and the mode is served
read_accepted : (x : World) (r : Access) (i : ℕ) → Good x → place_of x.state r ≡ Window i → is_write r ≡ false → r.target ≤ 3 → r.enables ≤ 15 → r.offset % 4 ≡ 0
    → reaches_memory x.state.fitted (span (get_or x.state.values i 0) (at_byte r.offset)) ≡ true → served (get_or x.state.values i 0) ≡ true → status_at x r ≡ 0
unfolding port_status port_at
read_accepted x r i g e w t n o p s = good_status x r (Window i) g e ∙ simp (le-leb r.target 3 t, le-leb r.enables 15 n, o, p, s, w)

-- what an accepted write through an aperture stores in a byte
window_put_lem : (x : World) (a : Access) (i k : ℕ) → WritesWindow x a i → byte_put k x a ≡ lane_put (get_or x.state.values i 0) a k
unfolding byte_put window_put accepted reach_at
window_put_lem x a i k w = simp (eq-eqb _ 0 w.accepted, w.write, leads_place x.state a (Window i) w.through)

module _ (x : World) (a r : Access) (i : ℕ) (g : Good x) (w : WritesWindow x a i) (f : ReadsThere a r) (e : r.enables ≤ 15) where
  abbrev control : ℕ
  control = get_or x.state.values i 0

  there : place_of x.state a ≡ Window i
  there = leads_place x.state a (Window i) w.through

  fitted : reaches_memory x.state.fitted (span control (at_byte a.offset)) ≡ true
  unfolding port_of port_at
  fitted = subst (λ (p : Place). (port_at x.state a p).present ≡ true) there (unrefused x.state _ _ a w.accepted).present

  serves : served control ≡ true
  unfolding port_of port_at
  serves = subst (λ (p : Place). (port_at x.state a p).served ≡ true) there (unrefused x.state _ _ a w.accepted).served

  -- the read is accepted in any good world with that state
  read_place : (s : State) → s ≡ x.state → place_of s r ≡ Window i
  read_place s q = ap₂ (λ (t o : ℕ). place_at s.dac t o) f.target f.offset ∙ ap (λ (n : State). place_of n a) q ∙ there

  pub read_there : (y : World) → Good y → y.state ≡ x.state → Seeing y r
  read_there y h q =
      let u = unrefused x.state _ _ a w.accepted in
      record {
        read = f.read;
        done =
            read_accepted y r i h (read_place y.state q) f.read (subst (λ (n : ℕ). n ≤ 3) (sym f.target) u.target) e
            (ap (λ (n : ℕ). n % 4) f.offset ∙ u.aligned)
            (ap₂ (λ (s : State) (o : ℕ). reaches_memory s.fitted (span (get_or s.values i 0) (at_byte o))) q f.offset ∙ fitted)
            (ap (λ (s : State). served (get_or s.values i 0)) q ∙ serves);
      }

  -- the byte that lane j exchanges with, and what is there after the write
  abbrev byte : ℕ → ℕ
  byte j = a.offset + lane_at control j

  byte_fitted : (j : ℕ) → j < 4 → byte j < length x.memory
  unfolding reaches_memory span
  byte_fitted j h = omega (arith, leb-true (a.offset + 4) x.state.fitted fitted, at_lt control j h, g.memory)

  pub byte_back : (j : ℕ) → j < 4 → get_or (after x a).memory (byte j) 0 ≡ pick (bit j a.enables) (lane_byte j a.word) (get_or x.memory (byte j) 0)
  byte_back j h =
      byte_step (byte j) x a (byte_fitted j h)
      ∙ ap (λ (o : Option ℕ). Option.get_or o (get_or x.memory (byte j) 0)) (window_put_lem x a i (byte j) w ∙ lane_put_lem control control a a.offset j h refl refl)
      ∙ by_test (bit j a.enables) (λ t. simp t) (λ t. simp t)

  -- what the read shows of memory, in any good world with that state
  pub shown_there : (y : World) → Good y → y.state ≡ x.state → (b : ℕ) → b < 32
      → shows (step y r).answer b ≡ pick (bit (b / 8) r.enables) (some (bit (b % 8) (get_or y.memory (byte (b / 8)) 0))) none
  shown_there y h q b hb =
      shows_memory y r b (read_there y h q) hb h i (read_place y.state q)
      ∙ ap₂ (λ (o : ℕ) (s : State). pick (bit (b / 8) r.enables) (some (bit (b % 8) (get_or y.memory (o + lane_at (get_or s.values i 0) (b / 8)) 0))) none) f.offset q
