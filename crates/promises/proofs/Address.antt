-- The palette's address after an opening and any list of accesses: unknown until it is set, and then the value set plus one for each third component.
-- The address and the component together are a position from 0 to 767, which a read or a write of palette data moves by one. Assumes nothing.
use Prim.Native.Nat.{ℕ, ◌+◌, ◌*◌, ◌%◌, ◌<◌, ◌≤◌}
use mathlib.Core.Bool.{Bool, true, false, and-false}
use mathlib.Core.List.{List, [], ◌∷◌, ◌++◌}
use mathlib.Core.Logic.{◌⊎◌, inl, inr}
use mathlib.Core.Option.{Option, none, some, get_or}
use mathlib.Core.Path.{◌≡◌, refl, sym, ap, ◌∙◌, subst}
use native.Mathlib.Omega.{arith}
use borrow.Author.Tests.{eqb-true, eq-eqb, ltb-true, ltb-false, leb-true}
use lib.Dec.{eqb, ltb}
use Rattle.bits.specs.Choose.{pick}
use Rattle.bits.specs.Bit.{bit}
use Rattle.bits.specs.Word.{lane_byte}
use Rattle.bits.proofs.Cases.{by_test, pick_by}
use Rattle.std.specs.Cmp.{first_so, second_so}
use Rattle.chip.specs.declared.State.{State}
use Rattle.chip.specs.declared.Access.{Access}
use Rattle.chip.specs.declared.Dac.{Dac}
use Rattle.chip.specs.declared.Place.TheVariants.{PaletteData}
use Rattle.chip.specs.Dac.{reset_dac, aimed_at, advanced, after_fetch}
use Rattle.chip.specs.Patch.{applied}
use Rattle.chip.specs.Place.{place_of}
use Rattle.chip.specs.Port.{kept_from}
use Rattle.chip.specs.Access.{is_write}
use Rattle.chip.specs.State.{reset_state}
use Rattle.chip.specs.Sound.{component_ok}
use Rattle.chip.specs.Trace.{World, opened, after, run}
use Rattle.promises.specs.Good.{Good, Openable, status_at}
use Rattle.promises.specs.Along.{runs, last_put}
use Rattle.promises.specs.Reach.{reach_at}
use Rattle.promises.specs.History.{accepted, is_data, is_aim, aim_put, data_steps}
use Rattle.promises.specs.Loads.{WritesPart}
use Rattle.promises.specs.Origin.{SetBy, SetsAddress, AddressSet, AddressAt}
use Rattle.promises.proofs.Widths.{kept_told}
use Rattle.promises.proofs.Patches.{dac_put}
use Rattle.promises.proofs.Sane.{sane}
use Rattle.promises.proofs.Dacs.{paint_advances}
use Rattle.promises.proofs.Does.{stepped, does}
use Rattle.promises.proofs.DataParts.{data_parts}
use Rattle.promises.proofs.Sites.{names}
use Rattle.promises.proofs.Worlds.{after_state, good_kept, good_along, opens, opened_good}
use Rattle.promises.proofs.Along.{Found, find, later_none}

-- ---- what an access leaves of the address, the component and the stage

pub dac_step : (x : World) (a : Access) → (after x a).state.dac ≡ get_or (dac_put x a) x.state.dac
unfolding applied
dac_step x a = ap (λ (s : State). s.dac) (after_state x a)

-- an access that sets the address, and one to palette data, in 01's words
pub sets_address : (x : World) (a : Access) → is_aim x a ≡ true → SetsAddress x a (lane_byte 0 a.word)
unfolding is_aim accepted
sets_address x a e =
    let w = second_so (eqb (status_at x a) 0) _ e in
    let r = second_so (is_write a) _ w in
    record {
      accepted = eqb-true (status_at x a) 0 (first_so (eqb (status_at x a) 0) _ e);
      write = first_so (is_write a) _ w;
      place = (names (place_of x.state a)).aims (first_so (reach_at (place_of x.state a)).aims (bit 0 a.enables) r);
      lane = second_so (reach_at (place_of x.state a)).aims (bit 0 a.enables) r;
      value = refl;
    }

pub writes_part : (x : World) (a : Access) → is_write a ≡ true → is_data x a ≡ true
    → WritesPart x a x.state.dac.address x.state.dac.component (kept_from x.state a)
unfolding accepted
writes_part x a w e =
    let r = data_parts x a e in
    record {
      accepted = eqb-true (status_at x a) 0 r.accepted;
      write = w;
      place = (names (place_of x.state a)).paints r.paints;
      lane = r.lane;
      entry = refl;
      component = refl;
      value = kept_told x.state a;
    }

-- and back
is_aim_lem : (x : World) (a : Access) (v : ℕ) → SetsAddress x a v → is_aim x a ≡ true
unfolding is_aim accepted reach_at
is_aim_lem x a v q = simp (eq-eqb (status_at x a) 0 q.accepted, q.write, q.place, q.lane)

-- an access to palette data sets no address
pub data_not_aim : (x : World) (a : Access) → is_data x a ≡ true → is_aim x a ≡ false
unfolding is_aim reach_at
data_not_aim x a e =
    let p : place_of x.state a ≡ PaletteData = (names (place_of x.state a)).paints (data_parts x a e).paints in
    simp (p, and-false)

-- ---- one access moves the position by one, or not at all

abbrev position : Dac → ℕ
position d = 3 * d.address + d.component

record Moved (d n : Dac) (k : ℕ) : Type 0 where
  place : position n ≡ (position d + k) % 768
  known : n.known ≡ d.known

advanced_moved : (d : Dac) (n r g : ℕ) → d.address < 256 → d.component ≤ 2 → Moved d (advanced d n r g) 1
unfolding advanced
advanced_moved d n r g ha hc =
    by_test (ltb d.component 2)
    (λ q. let h = ltb-true d.component 2 q in simp q (record { place = omega arith; known = refl }))
    (λ q. let h = ltb-false d.component 2 q in simp q (record { place = omega arith; known = refl }))

still_moved : (d : Dac) → d.address < 256 → d.component ≤ 2 → Moved d d 0
still_moved d ha hc = record { place = omega arith; known = refl }

pub component_le : (x : World) → Good x → x.state.dac.component ≤ 2
unfolding component_ok
component_le x g = leb-true x.state.dac.component 2 (sane x.state g.state).component

-- ---- along a list that sets no address

-- an access that sets none
not_aim : (t : Bool) (v : ℕ) → ◌≡◌ {A = Option ℕ} (pick t (some v) none) none → t ≡ false
not_aim true v e = cc
not_aim false v e = refl

moved_by : (x : World) (a : Access) → Good x → aim_put x a ≡ none → Moved x.state.dac (after x a).state.dac (pick (is_data x a) 1 0)
unfolding aim_put after_fetch
moved_by x a g e =
    let ha = g.formed.address in
    let hc = component_le x g in
    let d : (after x a).state.dac ≡ get_or (pick (is_data x a) (some (stepped x.state a)) none) x.state.dac =
    dac_step x a ∙ ap (λ (o : Option Dac). get_or o x.state.dac) (simp (not_aim (is_aim x a) _ e) at (does x a).dac) in
    subst (λ (n : Dac). Moved x.state.dac n (pick (is_data x a) 1 0)) (sym d)
    (by_test (is_data x a)
    (λ q. simp q
    (pick_by (λ (n : Dac). Moved x.state.dac n 1) (is_write a) _ _
    (paint_advances (λ (n : Dac). Moved x.state.dac n 1) x.state.dac _ (λ n r g. advanced_moved x.state.dac n r g ha hc))
    (advanced_moved x.state.dac 0 0 0 ha hc)))
    (λ q. simp q (still_moved x.state.dac ha hc)))

along : (x : World) (l : List Access) → Good x → last_put after aim_put x l ≡ none → Moved x.state.dac (run x l).state.dac (data_steps x l)
along x [] g e = still_moved x.state.dac g.formed.address (component_le x g)
along x (a ∷ l) g e =
    let n = later_none (last_put after aim_put (after x a) l) (aim_put x a) e in
    let u = moved_by x a g n.1 in
    let v = along (after x a) l (good_kept x a g) n.0 in
    record { place = omega (arith, u.place, v.place); known = v.known ∙ u.known }

-- ---- from the access that set it

pub run_runs : (x : World) (l : List Access) → runs after x l ≡ run x l
run_runs x [] = refl
run_runs x (a ∷ l) = run_runs (after x a) l

pub run_append : (x : World) (l k : List Access) → run x (l ++ k) ≡ run (run x l) k
run_append x [] k = refl
run_append x (a ∷ l) k = run_append (after x a) l k

aimed_dac : (y : World) (a : Access) (v : ℕ) → SetsAddress y a v → (after y a).state.dac ≡ aimed_at v
aimed_dac y a v q =
    dac_step y a
    ∙ ap (λ (o : Option Dac). get_or o y.state.dac) (simp (is_aim_lem y a v q) at (does y a).dac)
    ∙ ap aimed_at (sym q.value)

at_set : (d : Dac) (v n : ℕ) → d.component ≤ 2 → Moved (aimed_at v) d n → AddressAt d v n
unfolding aimed_at
at_set d v n hc m =
    record { known = m.known; address = omega (arith, m.place); component = omega (arith, m.place) }

pub set_at : (x : World) (l : List Access) → Good x → (v n : ℕ) → AddressSet x l v n → AddressAt (run x l).state.dac v n
set_at x l g v n s =
    let y = run x s.before in
    let gy : Good (run x s.before) = good_along x s.before g in
    let m = along (after (run x s.before) s.by) s.rest (good_kept (run x s.before) s.by gy) s.silent in
    at_set (run x l).state.dac v n (component_le (run x l) (good_along x l g))
    (subst (λ (d : Dac). Moved (aimed_at v) d n)
    (ap (λ (w : World). w.state.dac) (sym (run_append x s.before (s.by ∷ s.rest))) ∙ ap (λ (k : List Access). (run x k).state.dac) (sym s.split))
    (subst (λ (k : ℕ). Moved (aimed_at v) (run (after y s.by) s.rest).state.dac k) (sym s.count)
    (subst (λ (d : Dac). Moved d (run (after y s.by) s.rest).state.dac (data_steps (after y s.by) s.rest)) (aimed_dac y s.by v s.sets) m)))

-- ---- where it was never set

never_known : (x : World) (l : List Access) → Good x → last_put after aim_put x l ≡ none → (run x l).state.dac.known ≡ x.state.dac.known
never_known x l g e = (along x l g e).known

aims_is : (y : World) (a : Access) (v : ℕ) → aim_put y a ≡ some v → SetsAddress y a v
unfolding aim_put
aims_is y a v e =
    by_test (is_aim y a)
    (λ q. subst (SetsAddress y a) (ap (λ (o : Option ℕ). get_or o (lane_byte 0 a.word)) (simp q at e)) (sets_address y a q))
    (λ q. never (simp q at e))
  where
    never : ◌≡◌ {A = Option ℕ} none (some v) → SetsAddress y a v
    never e = absurd (let z : ◌≡◌ {A = ℕ} 0 1 = cc in omega arith)

-- an access of the list set the address, or none did
pub set_or_not : (x : World) (l : List Access) → SetBy x l ⊎ (last_put after aim_put x l ≡ none)
set_or_not x l = go (find after aim_put x l)
  where
    go : Found after aim_put x l ⊎ (last_put after aim_put x l ≡ none) → SetBy x l ⊎ (last_put after aim_put x l ≡ none)
    go (inl f) =
        inl (record {
          value = f.value;
          steps = data_steps (after (run x f.put.before) f.put.by) f.put.rest;
          set =
              record {
                before = f.put.before;
                by = f.put.by;
                rest = f.put.rest;
                split = f.put.split;
                sets = aims_is (run x f.put.before) f.put.by f.value (subst (λ (y : World). aim_put y f.put.by ≡ some f.value) (run_runs x f.put.before) f.put.put);
                silent = subst (λ (y : World). last_put after aim_put (after y f.put.by) f.put.rest ≡ none) (run_runs x f.put.before) f.put.silent;
                count = refl;
              };
        })
    go (inr n) = inr n

-- after an opening: unknown until it is set
pub never_set : (w h : ℕ) (m p : List ℕ) → Openable w h m p → (l : List Access) → last_put after aim_put (opened w h m p) l ≡ none
    → (run (opened w h m p) l).state.dac.known ≡ 0
unfolding reset_state reset_dac
never_set w h m p o l e =
    never_known (opened w h m p) l (opened_good w h m p o) e ∙ ap (λ (s : State). s.dac.known) (opens w h m p o.accepted).state
