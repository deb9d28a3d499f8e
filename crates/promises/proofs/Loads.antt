-- An entry is stored exactly by a third write for which the list has a load: its components 0, 1 and 2 in that order, with nothing between that disturbs it.
-- Forth: the write that completes it found red and green staged, and what staged them is found by going back along the list, twice. Back: the stage is followed
-- along the load. Assumes nothing.
use Prim.Native.Nat.{ℕ, ◌<◌}
use mathlib.Core.Bool.{true, false, not, ◌&&◌}
use mathlib.Core.List.{List, [], ◌∷◌, ◌++◌}
use mathlib.Core.Logic.{◌⊎◌, inl, inr}
use mathlib.Core.Option.{Option, none, some, get_or}
use mathlib.Core.Path.{◌≡◌, refl, sym, ap, ap₂, ◌∙◌, subst, subst₂}
use native.Mathlib.Omega.{arith}
use borrow.Author.Tests.{not-true, eqb-true, eq-eqb, lt-ltb}
use lib.Dec.{eqb, ltb}
use Rattle.bits.specs.Choose.{pick}
use Rattle.bits.specs.Word.{lane_byte}
use Rattle.bits.proofs.Cases.{by_test}
use Rattle.std.specs.Cmp.{first_so, second_so}
use Rattle.std.proofs.lemmas.Bool.{and_from}
use Rattle.chip.specs.declared.Access.{Access}
use Rattle.chip.specs.declared.Dac.{Dac}
use Rattle.chip.specs.declared.Colour.{Colour}
use Rattle.chip.specs.Palette.{entry_count, entry_of}
use Rattle.chip.specs.Dac.{Paint, aimed_at, advanced, after_fetch, red_staged, both_staged, after_paint, completed_by}
use Rattle.chip.specs.Port.{kept_from}
use Rattle.chip.specs.Access.{is_write}
use Rattle.chip.proofs.Operations.{write_looks_not}
use Rattle.chip.specs.Trace.{World, after, run}
use Rattle.promises.specs.Good.{Good, status_at}
use Rattle.promises.specs.Reach.{reach_at}
use Rattle.promises.specs.Along.{runs, last_put, PutLast, PutNever}
use Rattle.promises.specs.History.{accepted, is_data, is_aim}
use Rattle.promises.specs.Loads.{WritesPart, disturbs, calm, Load, NoLoad, Loaded}
use Rattle.promises.proofs.Options.{some_is, absurd_put}
use Rattle.promises.proofs.Widths.{kept_told}
use Rattle.promises.proofs.Patches.{patch_at, puts_entry, dac_put, entry_put}
use Rattle.promises.proofs.Along.{Found, find, whence, read_along, silent_in, silent_all, later_none}
use Rattle.promises.proofs.Does.{stepped, does}
use Rattle.promises.proofs.Worlds.{good_kept, good_along}
use Rattle.promises.proofs.Contents.{entry_step}
use Rattle.promises.proofs.Only.{calm_after}
use Rattle.promises.proofs.Address.{dac_step, run_runs, run_append, writes_part}

-- ---- one write

-- the write that completes an entry finds red and green staged
record Completes (d : Dac) (v e : ℕ) (c : Colour) : Type 0 where
  entry : d.address ≡ e
  component : d.component ≡ 2
  staged : d.staged ≡ 2
  red : d.red ≡ c.red
  green : d.green ≡ c.green
  blue : v ≡ c.blue

completes : (d : Dac) (v : ℕ) (x : Paint) → completed_by d v ≡ some x → Completes d v x.entry x.colour
unfolding completed_by both_staged
completes d v x q =
    by_test (eqb d.component 2 && eqb d.staged 2)
    (λ t.
    let f : record { entry = d.address; colour = record { red = d.red; green = d.green; blue = v } } ≡ x = some_is (simp t at q) in
    record {
      entry = ap (λ (y : Paint). y.entry) f;
      component = eqb-true d.component 2 (first_so (eqb d.component 2) (eqb d.staged 2) t);
      staged = eqb-true d.staged 2 (second_so (eqb d.component 2) (eqb d.staged 2) t);
      red = ap (λ (y : Paint). y.colour.red) f;
      green = ap (λ (y : Paint). y.colour.green) f;
      blue = ap (λ (y : Paint). y.colour.blue) f;
    })
    (λ t. never (simp t at q))
  where
    never : ◌≡◌ {A = Option Paint} none (some x) → Completes d v x.entry x.colour
    never e = absurd (let z : ◌≡◌ {A = ℕ} 0 1 = cc in omega arith)

-- advancing stages what it is given
advanced_staged : (d : Dac) (n r g : ℕ) → (advanced d n r g).staged ≡ n
unfolding advanced
advanced_staged d n r g = by_test (ltb d.component 2) (λ q. simp q) (λ q. simp q)

advanced_red : (d : Dac) (n r g : ℕ) → (advanced d n r g).red ≡ r
unfolding advanced
advanced_red d n r g = by_test (ltb d.component 2) (λ q. simp q) (λ q. simp q)

advanced_green : (d : Dac) (n r g : ℕ) → (advanced d n r g).green ≡ g
unfolding advanced
advanced_green d n r g = by_test (ltb d.component 2) (λ q. simp q) (λ q. simp q)

advanced_same : (d : Dac) (n r g : ℕ) → d.component < 2 → (advanced d n r g).address ≡ d.address
unfolding advanced
advanced_same d n r g h = simp (lt-ltb d.component 2 h)

-- the write after which red and green are staged found red staged, and brought green
record Greens (d n : Dac) (v : ℕ) : Type 0 where
  component : d.component ≡ 1
  staged : d.staged ≡ 1
  red : n.red ≡ d.red
  green : n.green ≡ v
  address : n.address ≡ d.address

-- the write after which red is staged brought red
record Reds (d n : Dac) (v : ℕ) : Type 0 where
  component : d.component ≡ 0
  red : n.red ≡ v
  address : n.address ≡ d.address

greens : (d : Dac) (v : ℕ) → (after_paint d v).staged ≡ 2 → Greens d (after_paint d v) v
unfolding after_paint red_staged
greens d v q =
    by_test (eqb d.component 0)
    (λ t. let e : (advanced d 1 v 0).staged ≡ 2 = simp t at q in absurd (omega (arith, advanced_staged d 1 v 0)))
    (λ t. by_test (eqb d.component 1 && eqb d.staged 1)
    (λ u.
    let c : d.component ≡ 1 = eqb-true d.component 1 (first_so _ _ u) in
    simp (t, u)
    (record {
      component = c;
      staged = eqb-true d.staged 1 (second_so (eqb d.component 1) (eqb d.staged 1) u);
      red = advanced_red d 2 d.red v;
      green = advanced_green d 2 d.red v;
      address = advanced_same d 2 d.red v (omega arith);
    }))
    (λ u. let e : (advanced d 0 0 0).staged ≡ 2 = simp (t, u) at q in absurd (omega (arith, advanced_staged d 0 0 0))))

reds : (d : Dac) (v : ℕ) → (after_paint d v).staged ≡ 1 → Reds d (after_paint d v) v
unfolding after_paint red_staged
reds d v q =
    by_test (eqb d.component 0)
    (λ t.
    let c : d.component ≡ 0 = eqb-true d.component 0 t in
    simp t (record { component = c; red = advanced_red d 1 v 0; address = advanced_same d 1 v 0 (omega arith) }))
    (λ t. by_test (eqb d.component 1 && eqb d.staged 1)
    (λ u. let e : (advanced d 2 d.red v).staged ≡ 1 = simp (t, u) at q in absurd (omega (arith, advanced_staged d 2 d.red v)))
    (λ u. let e : (advanced d 0 0 0).staged ≡ 1 = simp (t, u) at q in absurd (omega (arith, advanced_staged d 0 0 0))))

-- ---- which access leaves something staged

-- only a write of a component does
record Paints (x : World) (a : Access) (n : Dac) : Type 0 where
  wrote : WritesPart x a x.state.dac.address x.state.dac.component (kept_from x.state a)
  after_it : n ≡ after_paint x.state.dac (kept_from x.state a)

paints : (x : World) (a : Access) (n : Dac) → dac_put x a ≡ some n → (n.staged ≡ 0 → ⊥) → Paints x a n
unfolding aimed_at after_fetch
paints x a n q d =
    let e : pick (is_aim x a) (some (aimed_at (lane_byte 0 a.word))) (pick (is_data x a) (some (stepped x.state a)) none) ≡ some n = sym (does x a).dac ∙ q in
    by_test (is_aim x a)
    (λ t. absurd (d (ap (λ (y : Dac). y.staged) (sym (some_is {x = aimed_at (lane_byte 0 a.word)} (simp t at e))))))
    (λ t. by_test (is_data x a)
    (λ u. by_test (is_write a)
    (λ w. record { wrote = writes_part x a w u; after_it = sym (some_is {x = after_paint x.state.dac (kept_from x.state a)} (simp (t, u, w) at e)) })
    (λ w. absurd (d (ap (λ (y : Dac). y.staged) (sym (some_is {x = advanced x.state.dac 0 0 0} (simp (t, u, w) at e))) ∙ advanced_staged x.state.dac 0 0 0))))
    (λ u. never (simp (t, u) at e)))
  where
    never : ◌≡◌ {A = Option Dac} none (some n) → Paints x a n
    never e = absurd (let z : ◌≡◌ {A = ℕ} 0 1 = cc in omega arith)

-- only a write of a component paints an entry, and it finds red and green staged
record Puts (x : World) (a : Access) (e : ℕ) (c : Colour) : Type 0 where
  wrote : WritesPart x a x.state.dac.address x.state.dac.component (kept_from x.state a)
  completed : Completes x.state.dac (kept_from x.state a) e c

painted_is : (e : ℕ) (o : Option Paint) (c : Colour) → puts_entry e o ≡ some (some c) → o ≡ some (record { entry = e; colour = c })
unfolding puts_entry
painted_is e none c q = cc
painted_is e (some x) c q =
    by_test (eqb x.entry e)
    (λ t. let z : x.colour ≡ c = some_is (some_is {x = some x.colour} (simp t at q)) in
    ap₂ (λ (i : ℕ) (k : Colour). some (record { entry = i; colour = k })) (eqb-true x.entry e t) z)
    (λ t. never (simp t at q))
  where
    never : ◌≡◌ {A = Option (Option Colour)} none (some (some c)) → some x ≡ some (record { entry = e; colour = c })
    never q = cc

puts_is : (x : World) (a : Access) (e : ℕ) (c : Colour) → entry_put e x a ≡ some (some c) → Puts x a e c
puts_is x a e c q =
    let p : pick (is_write a && is_data x a) (completed_by x.state.dac (kept_from x.state a)) none ≡ some (record { entry = e; colour = c }) =
    sym (does x a).paint ∙ painted_is e (patch_at x a).paint c q in
    by_test (is_write a && is_data x a)
    (λ t. record {
      wrote = writes_part x a (first_so (is_write a) (is_data x a) t) (second_so (is_write a) (is_data x a) t);
      completed = completes x.state.dac (kept_from x.state a) (record { entry = e; colour = c }) (simp t at p);
    })
    (λ t. never (simp t at p))
  where
    never : ◌≡◌ {A = Option Paint} none (some (record { entry = e; colour = c })) → Puts x a e c
    never p = absurd (let z : ◌≡◌ {A = ℕ} 0 1 = cc in omega arith)

-- ---- along the list

-- something staged was left by the last access to the palette, a write
record Staged (x : World) (l : List Access) : Type 0 where
  before : List Access
  by : Access
  rest : List Access
  split : l ≡ before ++ by ∷ rest
  wrote : WritesPart (run x before) by (run x before).state.dac.address (run x before).state.dac.component (kept_from (run x before).state by)
  after_it : (run x l).state.dac ≡ after_paint (run x before).state.dac (kept_from (run x before).state by)
  silent : last_put after dac_put (after (run x before) by) rest ≡ none

staged_by : (x : World) (l : List Access) → Good x → x.state.dac.staged ≡ 0 → ((run x l).state.dac.staged ≡ 0 → ⊥) → Staged x l
staged_by x l g z d = go (whence after dac_put (λ (y : World). y.state.dac) Good good_kept (λ y a h. dac_step y a) x l g)
  where
    go : PutLast after dac_put x l (runs after x l).state.dac ⊎ PutNever after dac_put x l x.state.dac (runs after x l).state.dac → Staged x l
    go (inl f) =
        let r : runs after x l ≡ run x l = run_runs x l in
        let b : runs after x f.before ≡ run x f.before = run_runs x f.before in
        let p = paints (run x f.before) f.by (run x l).state.dac
        (subst₂ (λ (y w : World). dac_put y f.by ≡ some w.state.dac) b r f.put) d in
        record {
          before = f.before;
          by = f.by;
          rest = f.rest;
          split = f.split;
          wrote = p.wrote;
          after_it = p.after_it;
          silent = subst (λ (y : World). last_put after dac_put (after y f.by) f.rest ≡ none) b f.silent;
        }
    go (inr n) = absurd (d (ap (λ (w : World). w.state.dac.staged) (sym (run_runs x l)) ∙ ap (λ (y : Dac). y.staged) n.same ∙ z))

-- ---- what is silent is calm

quiet_calm : (x : World) (a : Access) → dac_put x a ≡ none → disturbs x a ≡ false
unfolding disturbs
quiet_calm x a q =
    let e : pick (is_aim x a) (some (aimed_at (lane_byte 0 a.word))) (pick (is_data x a) (some (stepped x.state a)) none) ≡ none = sym (does x a).dac ∙ q in
    by_test (is_aim x a)
    (λ t. never _ (simp t at e))
    (λ t. by_test (is_data x a) (λ u. never _ (simp (t, u) at e)) (λ u. simp (t, u)))
  where
    never : {P : Type 0} (d : Dac) → ◌≡◌ {A = Option Dac} (some d) none → P
    never d e = absurd (let z : ◌≡◌ {A = ℕ} 0 1 = cc in omega arith)

silent_calm : (x : World) (l : List Access) → last_put after dac_put x l ≡ none → calm x l ≡ true
silent_calm x [] e = refl
silent_calm x (a ∷ l) e =
    let n = later_none (last_put after dac_put (after x a) l) (dac_put x a) e in
    and_from (not (disturbs x a)) (calm (after x a) l) (ap not (quiet_calm x a n.1)) (silent_calm (after x a) l n.0)

-- ---- forth: what stores an entry completes a load

pub puts_load : (x : World) (l : List Access) (a : Access) (e : ℕ) (c : Colour) → Good x → x.state.dac.staged ≡ 0 → entry_put e (run x l) a ≡ some (some c) → Load x l a e c
puts_load x l a e c g z q =
    let f = puts_is (run x l) a e c q in
    let k = f.completed in
    let s = staged_by x l g z (λ d. omega (arith, k.staged)) in
    let y = greens (run x s.before).state.dac (kept_from (run x s.before).state s.by) (ap (λ (d : Dac). d.staged) (sym s.after_it) ∙ k.staged) in
    let t = staged_by x s.before g z (λ d. omega (arith, y.staged)) in
    let w = reds (run x t.before).state.dac (kept_from (run x t.before).state t.by) (ap (λ (d : Dac). d.staged) (sym t.after_it) ∙ y.staged) in
    -- the bytes
    let green : kept_from (run x s.before).state s.by ≡ c.green = sym y.green ∙ ap (λ (d : Dac). d.green) (sym s.after_it) ∙ k.green in
    let red : kept_from (run x t.before).state t.by ≡ c.red =
    sym w.red ∙ ap (λ (d : Dac). d.red) (sym t.after_it) ∙ sym y.red ∙ ap (λ (d : Dac). d.red) (sym s.after_it) ∙ k.red in
    -- the address
    let at2 : (run x s.before).state.dac.address ≡ e =
    sym y.address ∙ ap (λ (d : Dac). d.address) (sym s.after_it) ∙ k.entry in
    let at1 : (run x t.before).state.dac.address ≡ e =
    sym w.address ∙ ap (λ (d : Dac). d.address) (sym t.after_it) ∙ at2 in
    let l2 : s.before ≡ t.before ++ t.by ∷ t.rest = t.split in
    record {
      start = t.before;
      red = t.by;
      gap = t.rest;
      green = s.by;
      gap' = s.rest;
      split = s.split ∙ ap (λ (k : List Access). k ++ s.by ∷ s.rest) l2;
      first = part_is t.wrote at1 w.component red;
      calm_gap = silent_calm _ t.rest t.silent;
      second = subst (λ (k : List Access). WritesPart (run x k) s.by e 1 c.green) l2 (part_is s.wrote at2 y.component green);
      calm_gap' = subst (λ (k : List Access). calm (after (run x k) s.by) s.rest ≡ true) l2 (silent_calm _ s.rest s.silent);
      third = part_is f.wrote k.entry k.component k.blue;
    }
  where
    part_is : {y : World} {b : Access} {e c v e' c' v' : ℕ} → WritesPart y b e c v → e ≡ e' → c ≡ c' → v ≡ v' → WritesPart y b e' c' v'
    part_is p i j k =
        record {
          accepted = p.accepted;
          write = p.write;
          place = p.place;
          lane = p.lane;
          entry = p.entry ∙ i;
          component = p.component ∙ j;
          value = sym k ∙ p.value;
        }

-- ---- back: a load stores its entry

-- what its writes stage
abbrev staged : Dac → ℕ → ℕ → ℕ → ℕ → Dac
staged d c n r g = record { address = d.address; known = d.known; component = c; staged = n; red = r; green = g }

paint_red : (d : Dac) (v : ℕ) → d.component ≡ 0 → after_paint d v ≡ staged d 1 1 v 0
unfolding after_paint advanced
paint_red d v h = rw h

paint_green : (d : Dac) (v : ℕ) → d.component ≡ 1 → d.staged ≡ 1 → after_paint d v ≡ staged d 2 2 d.red v
unfolding after_paint advanced red_staged
paint_green d v h k = rw (h, k)

paint_blue : (d : Dac) (v : ℕ) → d.component ≡ 2 → d.staged ≡ 2
    → completed_by d v ≡ some (record { entry = d.address; colour = record { red = d.red; green = d.green; blue = v } })
unfolding completed_by both_staged
paint_blue d v h k = rw (h, k)

-- a write of a component is an access to palette data, and sets no address
record Data (y : World) (b : Access) : Type 0 where
  is_data_lem : is_data y b ≡ true
  aim : is_aim y b ≡ false

part_data : (y : World) (b : Access) (e c v : ℕ) → WritesPart y b e c v → Data y b
unfolding is_data is_aim accepted reach_at
part_data y b e c v p =
    record {
      is_data_lem = simp (eq-eqb (status_at y b) 0 p.accepted, write_looks_not b p.write, p.place, p.lane);
      aim = simp (eq-eqb (status_at y b) 0 p.accepted, p.write, p.place);
    }

part_dac : (y : World) (b : Access) (e c v : ℕ) → WritesPart y b e c v → (after y b).state.dac ≡ after_paint y.state.dac v
part_dac y b e c v p =
    let t = part_data y b e c v p in
    dac_step y b
    ∙ ap (λ (o : Option Dac). get_or o y.state.dac) (simp (t.aim, t.is_data_lem, p.write) at (does y b).dac)
    ∙ ap (after_paint y.state.dac) (kept_told y.state b ∙ sym p.value)

-- what does not disturb a load leaves what is staged
calm_dac : (x : World) (l : List Access) → calm x l ≡ true → (run x l).state.dac ≡ x.state.dac
calm_dac x [] e = refl
calm_dac x (a ∷ l) e =
    calm_dac (after x a) l (second_so (not (disturbs x a)) _ e) ∙ calm_after x a (not-true (disturbs x a) (first_so (not (disturbs x a)) _ e))

pub load_puts : (x : World) (l : List Access) (a : Access) (e : ℕ) (c : Colour) → Load x l a e c → entry_put e (run x l) a ≡ some (some c)
unfolding puts_entry
load_puts x l a e c f =
    let y = run x f.start in
    let d = y.state.dac in
    let green-at : (run x (f.start ++ f.red ∷ f.gap)).state.dac ≡ staged d 1 1 c.red 0 =
    ap (λ (w : World). w.state.dac) (run_append x f.start (f.red ∷ f.gap)) ∙ calm_dac (after y f.red) f.gap f.calm_gap
    ∙ part_dac y f.red e 0 c.red f.first ∙ paint_red d c.red f.first.component in
    let z = run x (f.start ++ f.red ∷ f.gap) in
    let blue-at : (run x l).state.dac ≡ staged d 2 2 c.red c.green =
    ap (λ (k : List Access). (run x k).state.dac) f.split
    ∙ ap (λ (w : World). w.state.dac) (run_append x (f.start ++ f.red ∷ f.gap) (f.green ∷ f.gap'))
    ∙ calm_dac (after z f.green) f.gap' f.calm_gap'
    ∙ part_dac z f.green e 1 c.green f.second
    ∙ ap (λ (n : Dac). after_paint n c.green) green-at
    ∙ paint_green (staged d 1 1 c.red 0) c.green refl refl in
    let t = part_data (run x l) a e 2 c.blue f.third in
    let h : d.address ≡ e = f.first.entry in
    ap (puts_entry e)
    ((simp (f.third.write, t.is_data_lem) at (does (run x l) a).paint)
    ∙ ap₂ completed_by blue-at (kept_told (run x l).state a ∙ sym f.third.value)
    ∙ paint_blue (staged d 2 2 c.red c.green) c.blue refl refl)
    ∙ simp (eq-eqb d.address e h)

-- ---- along the list

-- a write that completes no load stores no entry
no_colour : (e : ℕ) (o : Option Paint) → ((c : Colour) → puts_entry e o ≡ some (some c) → ⊥) → puts_entry e o ≡ none
unfolding puts_entry
no_colour e none f = refl
no_colour e (some x) f = by_test (eqb x.entry e) (λ t. absurd (f x.colour (simp t))) (λ t. simp t)

-- .. and one that stores an entry stores a colour
coloured : (e : ℕ) (o : Option Paint) (v : Option Colour) → puts_entry e o ≡ some v → v ≡ none → ⊥
unfolding puts_entry
coloured e none v q n = absurd_put none v refl q
coloured e (some x) v q n =
    by_test (eqb x.entry e)
    (λ t. absurd_put v x.colour n (sym (some_is {x = some x.colour} (simp t at q))))
    (λ t. absurd_put none v refl (simp t at q))

module _ (x : World) (e : ℕ) (g : Good x) (z : x.state.dac.staged ≡ 0) where
  -- after list l, nothing is stored along a list exactly where it has no load
  unloaded : (l k : List Access) → last_put after (entry_put e) (run x l) k ≡ none → NoLoad x l k e
  unloaded l k n before by rest s c f =
      absurd_put (entry_put e (run x (l ++ before)) by) (some c)
      (subst (λ (y : World). entry_put e y by ≡ none) (run_runs (run x l) before ∙ sym (run_append x l before))
      (silent_in after (entry_put e) (run x l) before by rest (subst (λ (j : List Access). last_put after (entry_put e) (run x l) j ≡ none) s n)))
      (load_puts x (l ++ before) by e c f)

  unload : (l k : List Access) → NoLoad x l k e → last_put after (entry_put e) (run x l) k ≡ none
  unload l k n =
      silent_all after (entry_put e) (run x l) k (λ b a r s.
      subst (λ (y : World). entry_put e y a ≡ none) (run_append x l b ∙ sym (run_runs (run x l) b))
      (no_colour e (patch_at (run x (l ++ b)) a).paint (λ c q. n b a r s c (puts_load x (l ++ b) a e c g z q))))

  module _ (he : e < entry_count) (empty : entry_of x.state.palette e ≡ none) where
    entry_from : (y : World) (k : List Access) → Good y
        → entry_of (run y k).state.palette e ≡ get_or (last_put after (entry_put e) y k) (entry_of y.state.palette e)
    entry_from y k gy =
        ap (λ (w : World). entry_of w.state.palette e) (sym (run_runs y k))
        ∙ read_along after (entry_put e) (λ (w : World). entry_of w.state.palette e) Good good_kept (entry_step e he) y k gy

    -- an entry has a colour exactly where the list loaded it last
    pub loaded : (l : List Access) (c : Colour) → entry_of (run x l).state.palette e ≡ some c → Loaded x l e c
    loaded l c q = go (whence after (entry_put e) (λ (y : World). entry_of y.state.palette e) Good good_kept (entry_step e he) x l g)
      where
        final : entry_of (runs after x l).state.palette e ≡ some c
        final = ap (λ (w : World). entry_of w.state.palette e) (run_runs x l) ∙ q

        one_more : (b : List Access) (a : Access) → run x (b ++ a ∷ []) ≡ after (runs after x b) a
        one_more b a = run_append x b (a ∷ []) ∙ ap (λ (w : World). after w a) (sym (run_runs x b))

        go : PutLast after (entry_put e) x l (entry_of (runs after x l).state.palette e)
            ⊎ PutNever after (entry_put e) x l (entry_of x.state.palette e) (entry_of (runs after x l).state.palette e) → Loaded x l e c
        go (inl f) =
            record {
              before = f.before;
              by = f.by;
              rest = f.rest;
              split = f.split;
              load =
                  puts_load x f.before f.by e c g z
                  (subst (λ (y : World). entry_put e y f.by ≡ some (some c)) (run_runs x f.before) (f.put ∙ ap some final));
              last =
                  unloaded (f.before ++ f.by ∷ []) f.rest
                  (subst (λ (y : World). last_put after (entry_put e) y f.rest ≡ none) (sym (one_more f.before f.by)) f.silent);
            }
        go (inr n) = absurd_put (entry_of x.state.palette e) c empty (sym n.same ∙ final)

    pub of_loaded : (l : List Access) (c : Colour) → Loaded x l e c → entry_of (run x l).state.palette e ≡ some c
    of_loaded l c f =
        let y = run x f.before in
        let gy : Good (run x f.before) = good_along x f.before g in
        let s : run x (f.before ++ f.by ∷ []) ≡ after y f.by = run_append x f.before (f.by ∷ []) in
        ap (λ (k : List Access). entry_of (run x k).state.palette e) f.split
        ∙ ap (λ (w : World). entry_of w.state.palette e) (run_append x f.before (f.by ∷ f.rest))
        ∙ entry_from (after y f.by) f.rest (good_kept y f.by gy)
        ∙ ap (λ (o : Option (Option Colour)). get_or o (entry_of (after y f.by).state.palette e))
        (subst (λ (w : World). last_put after (entry_put e) w f.rest ≡ none) s (unload (f.before ++ f.by ∷ []) f.rest f.last))
        ∙ entry_step e he y f.by gy
        ∙ ap (λ (o : Option (Option Colour)). get_or o (entry_of y.state.palette e)) (load_puts x f.before f.by e c f.load)

    -- .. and was never stored exactly where it has no load
    pub of_unloaded : (l : List Access) → NoLoad x [] l e → entry_of (run x l).state.palette e ≡ none
    of_unloaded l n =
        entry_from x l g ∙ ap (λ (o : Option (Option Colour)). get_or o (entry_of x.state.palette e)) (unload [] l n) ∙ empty

    pub never_loaded : (l : List Access) → entry_of (run x l).state.palette e ≡ none → NoLoad x [] l e
    never_loaded l q = go (find after (entry_put e) x l)
      where
        go : Found after (entry_put e) x l ⊎ (last_put after (entry_put e) x l ≡ none) → NoLoad x [] l e
        go (inl f) =
            absurd (coloured e (patch_at (runs after x f.put.before) f.put.by).paint f.value f.put.put
            (sym (entry_from x l g ∙ ap (λ (o : Option (Option Colour)). get_or o (entry_of x.state.palette e)) f.last) ∙ q))
        go (inr n) = unloaded [] l n
