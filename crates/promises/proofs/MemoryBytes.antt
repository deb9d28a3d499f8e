-- What an access makes of a memory byte: an accepted write through an aperture stores its lane's byte there, and any other access leaves it.
-- What it stores is what Frame says, lane by lane (Pokes). Assumes nothing.
use Prim.Native.Nat.{ℕ, ◌<◌}
use mathlib.Core.Option
use mathlib.Core.Option.{Option, none, some}
use mathlib.Core.Path.{◌≡◌, refl, sym, ap, ◌∙◌}
use native.Mathlib.Omega.{arith}
use borrow.Author.Tests.{ltb-true, ltb-false}
use lib.Dec.{ltb}
use lib.ListN.{get_or, length, get_or-eq_default}
use Rattle.bits.proofs.Cases.{by_test}
use Rattle.chip.specs.declared.State.{State}
use Rattle.chip.specs.declared.Access.{Access}
use Rattle.chip.specs.Place.{place_of}
use Rattle.chip.specs.Port.{poke_patch}
use Rattle.chip.specs.Trace.{World, after}
use Rattle.promises.specs.Reach.{reach_at}
use Rattle.promises.specs.Frame.{window_put, byte_put}
use Rattle.promises.proofs.Patches.{patch_at, last_poke}
use Rattle.promises.proofs.Does.{puts_from, writes, does}
use Rattle.promises.proofs.Worlds.{memory_length}
use Rattle.promises.proofs.Contents.{poked_step}
use Rattle.promises.proofs.Pokes.{poke_told}

window_told : (s : State) (a : Access) (i : Option ℕ) (k : ℕ) → last_poke k (puts_from s a i) ≡ window_put s a i k
unfolding window_put poke_patch
window_told s a none k = refl
window_told s a (some i) k = poke_told (get_or s.values i 0) a k

byte_told : (x : World) (a : Access) (k : ℕ) → last_poke k (patch_at x a).puts ≡ byte_put k x a
unfolding byte_put
byte_told x a k =
    ap (last_poke k) (does x a).puts
    ∙ by_test (writes x a) (λ t. simp t (window_told x.state a (reach_at (place_of x.state a)).window k)) (λ t. simp t)

pub byte_step : (k : ℕ) (x : World) (a : Access) → k < length x.memory
    → get_or (after x a).memory k 0 ≡ Option.get_or (byte_put k x a) (get_or x.memory k 0)
byte_step k x a h = poked_step k x a h ∙ ap (λ (o : Option ℕ). Option.get_or o (get_or x.memory k 0)) (byte_told x a k)

-- a byte that an access does not store is as before
pub same_byte : (x : World) (a : Access) (k : ℕ) → byte_put k x a ≡ none → get_or (after x a).memory k 0 ≡ get_or x.memory k 0
same_byte x a k e =
    by_test (ltb k (length x.memory))
    (λ q. byte_step k x a (ltb-true k (length x.memory) q) ∙ ap (λ (o : Option ℕ). Option.get_or o (get_or x.memory k 0)) e)
    (λ q. let h = ltb-false k (length x.memory) q in
    get_or-eq_default (after x a).memory 0 (omega (arith, memory_length x a)) ∙ sym (get_or-eq_default x.memory 0 h))
