-- What puts something into a register's bit or a memory byte is an accepted write that reaches it, and what it puts is the write's.
-- An access that does not reach puts nothing; what it puts is read off what it stores. Assumes nothing.
use Prim.Native.Nat.{ℕ}
use mathlib.Core.Bool.{Bool, true, ◌&&◌}
use mathlib.Core.List.{List}
use mathlib.Core.Option.{Option, none, some}
use mathlib.Core.Path.{◌≡◌, refl, sym, ap, ap₂, ◌∙◌, subst}
use borrow.Author.Tests.{eq-eqb}
use lib.ListN.{get_or, length}
use Rattle.bits.specs.Choose.{pick}
use Rattle.bits.specs.Bit.{bit}
use Rattle.bits.proofs.Cases.{by_test}
use Rattle.std.specs.Cmp.{first_so, second_so}
use Rattle.bits.proofs.Lists.{zeros_at}
use Rattle.chip.specs.declared.State.{State}
use Rattle.chip.specs.declared.Access.{Access}
use Rattle.chip.specs.declared.Place.TheVariants.{Window}
use Rattle.chip.specs.Palette.{entry_count, empty_palette, colour_in, is_stored, entry_of}
use Rattle.chip.specs.Place.{place_of}
use Rattle.chip.specs.Access.{is_write}
use Rattle.chip.specs.State.{reset_state}
use Rattle.chip.specs.Trace.{World, opened, after, run}
use Rattle.chip.proofs.Tables.{resets_at, knowns_at}
use Rattle.promises.specs.Good.{status_at, Openable}
use Rattle.promises.specs.Reach.{reach_at}
use Rattle.promises.specs.History.{accepted, seen_bit, Spot, holds, stated}
use Rattle.promises.specs.Frame.{moves, brought_bit, lane_put, window_put, byte_put}
use Rattle.promises.specs.Along.{runs, last_put, PutLast}
use Rattle.promises.specs.Origin.{bit_put, BitStored, ByteStored}
use Rattle.promises.proofs.Options.{absurd_put}
use Rattle.promises.proofs.Sites.{names}
use Rattle.promises.proofs.Moves.{done}
use Rattle.promises.proofs.Worlds.{opens}
use Rattle.promises.proofs.Address.{run_runs}

-- ---- what the reset tables state

pub reset_holds : (w h f : ℕ) (q : Spot) → holds (reset_state w h f) q ≡ stated q
unfolding holds stated reset_state
reset_holds w h f q = ap₂ (λ (k v : ℕ). seen_bit (bit q.b k) (bit q.b v)) (knowns_at q.row) (resets_at q.row)

pub opened_holds : (w h : ℕ) (m p : List ℕ) → Openable w h m p → (q : Spot) → holds (opened w h m p).state q ≡ stated q
opened_holds w h m p o q = ap (λ (s : State). holds s q) (opens w h m p o.accepted).state ∙ reset_holds w h (length m) q

-- an empty palette has no entry
pub reset_entry : (w h f e : ℕ) → entry_of (reset_state w h f).palette e ≡ none
unfolding reset_state empty_palette entry_of is_stored
reset_entry w h f e = ap (λ (v : ℕ). pick (is_stored v) (some (colour_in v)) none) (zeros_at entry_count e)

-- ---- a register's bit

-- what puts v there moves the bit, and brings v
pub record Puts (y : World) (a : Access) (q : Spot) (v : Bool) : Type 0 where
  pub moved : moves y a q ≡ true
  pub value : v ≡ brought_bit q a

pub put_is : (y : World) (a : Access) (q : Spot) (v : Bool) → bit_put q y a ≡ some (some v) → Puts y a q v
put_is y a q v e =
    by_test (moves y a q)
    (λ t. record { moved = t; value = same_bool (simp t at e) })
    (λ t. absurd_put (bit_put q y a) (some v) (simp t) e)
  where
    same_bool : some (some (brought_bit q a)) ≡ some (some v) → v ≡ brought_bit q a
    same_bool e = cc

-- ---- a memory byte

-- an access that stores v in byte k is an accepted write through an aperture, whose lane for it has v
pub record Pokes (y : World) (a : Access) (k v : ℕ) : Type 0 where
  pub accepted : status_at y a ≡ 0
  pub write : is_write a ≡ true
  pub window : ℕ
  pub through : place_of y.state a ≡ Window window
  pub put : lane_put (get_or y.state.values window 0) a k ≡ some v

record WindowPokes (s : State) (a : Access) (o : Option ℕ) (k v : ℕ) : Type 0 where
  window : ℕ
  through : o ≡ some window
  put : lane_put (get_or s.values window 0) a k ≡ some v

window_pokes : (s : State) (a : Access) (o : Option ℕ) (k v : ℕ) → window_put s a o k ≡ some v → WindowPokes s a o k v
unfolding window_put
window_pokes s a none k v q = absurd_put none v refl q
window_pokes s a (some i) k v q = record { window = i; through = refl; put = q }

pub puts_pokes : (y : World) (a : Access) (k v : ℕ) → byte_put k y a ≡ some v → Pokes y a k v
unfolding byte_put
puts_pokes y a k v e =
    by_test (accepted y a && is_write a)
    (λ t.
    let z = window_pokes y.state a (reach_at (place_of y.state a)).window k v (simp t at e) in
    record {
      accepted = done y a (first_so (accepted y a) (is_write a) t);
      write = second_so (accepted y a) (is_write a) t;
      window = z.window;
      through = (names (place_of y.state a)).window z.window z.through;
      put = z.put;
    })
    (λ t. absurd_put none v refl (simp t at e))

-- ---- what was put last, in 01's words, and back

module _ (x : World) (l : List Access) where
  pub bit_stored : (q : Spot) (v : Bool) → PutLast after (bit_put q) x l (some v) → BitStored x l q v
  bit_stored q v f =
      let b : runs after x f.before ≡ run x f.before = run_runs x f.before in
      let z = put_is (run x f.before) f.by q v (subst (λ (y : World). bit_put q y f.by ≡ some (some v)) b f.put) in
      record {
        before = f.before;
        by = f.by;
        rest = f.rest;
        split = f.split;
        moved = z.moved;
        value = z.value;
        silent = subst (λ (y : World). last_put after (bit_put q) (after y f.by) f.rest ≡ none) b f.silent;
      }

  pub stored_bit : (q : Spot) (v : Bool) → BitStored x l q v → PutLast after (bit_put q) x l (some v)
  stored_bit q v f =
      let b : run x f.before ≡ runs after x f.before = sym (run_runs x f.before) in
      record {
        before = f.before;
        by = f.by;
        rest = f.rest;
        split = f.split;
        put = subst (λ (y : World). bit_put q y f.by ≡ some (some v)) b (simp f.moved (ap (λ (u : Bool). some (some u)) (sym f.value)));
        silent = subst (λ (y : World). last_put after (bit_put q) (after y f.by) f.rest ≡ none) b f.silent;
      }

  pub byte_stored : (k v : ℕ) → PutLast after (byte_put k) x l v → ByteStored x l k v
  byte_stored k v f =
      let b : runs after x f.before ≡ run x f.before = run_runs x f.before in
      let z = puts_pokes (run x f.before) f.by k v (subst (λ (y : World). byte_put k y f.by ≡ some v) b f.put) in
      record {
        before = f.before;
        by = f.by;
        rest = f.rest;
        split = f.split;
        accepted = z.accepted;
        write = z.write;
        window = z.window;
        through = z.through;
        put = z.put;
        silent = subst (λ (y : World). last_put after (byte_put k) (after y f.by) f.rest ≡ none) b f.silent;
      }

  pub stored_byte_lem : (k v : ℕ) → ByteStored x l k v → PutLast after (byte_put k) x l v
  unfolding byte_put window_put accepted reach_at
  stored_byte_lem k v f =
      let b : run x f.before ≡ runs after x f.before = sym (run_runs x f.before) in
      record {
        before = f.before;
        by = f.by;
        rest = f.rest;
        split = f.split;
        put = subst (λ (y : World). byte_put k y f.by ≡ some v) b (simp (eq-eqb _ 0 f.accepted, f.write, f.through) f.put);
        silent = subst (λ (y : World). last_put after (byte_put k) (after y f.by) f.rest ≡ none) b f.silent;
      }
