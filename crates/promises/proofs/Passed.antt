-- The lines of 01's table in its own words: a line's test fails exactly where the access passes the line as 01 has it; and which number the first that holds gives.
-- Line by line, from where an access leads (Places); the number by induction on the lines. Assumes nothing.
use Prim.Native.Nat.{ℕ, zero, suc, ◌+◌, ◌*◌, ◌%◌, ◌≤◌, ◌<◌}
use mathlib.Core.Bool.{Bool, true, false, not, ◌&&◌}
use mathlib.Core.List.{List, [], ◌∷◌}
use mathlib.Core.Logic.{◌↔◌}
use mathlib.Core.Option.{Option, none, some}
use mathlib.Core.Path.{◌≡◌, refl, sym, ap, ap₂, ◌∙◌, subst}
use native.Mathlib.Omega.{arith}
use borrow.Author.Tests.{eqb-true, eq-eqb, ne_eqb, leb-true, le-leb, not-true, not-false}
use lib.Dec.{eqb, leb}
use lib.ListN.{get_or, length}
use Rattle.bits.specs.Choose.{pick}
use Rattle.bits.specs.Bit.{bit}
use Rattle.bits.proofs.Cases.{by_test, pick_same}
use Rattle.std.specs.Cmp.{first_so, second_so}
use Rattle.std.proofs.lemmas.Bool.{and_from}
use Rattle.bits.proofs.Bools.{clash}
use Rattle.chip.specs.declared.State.{State}
use Rattle.chip.specs.declared.Access.{Access}
use Rattle.chip.specs.declared.Place.{Place}
use Rattle.chip.specs.declared.Place.TheVariants.{Register, Window}
use Rattle.chip.specs.Aperture.{swap_of, served, span, reaches_memory}
use Rattle.chip.specs.Place.{place_of}
use Rattle.chip.specs.Port.{port_at}
use Rattle.chip.specs.Access.{is_write}
use Rattle.chip.specs.Refusal.{Line, line, first_of, port_of}
use Rattle.chip.specs.Trace.{World}
use Rattle.chip.proofs.Operations.{is_no_write, is_write_lem, no_write_is, write_is}
use Rattle.promises.specs.Reach.{reach_at}
use Rattle.promises.specs.Places.{Leads, address, palette, indexed, region, one, two, header, blank}
use Rattle.promises.specs.Refusals.{Lent, Asked, Found, Directed, Served}
use Rattle.promises.proofs.Options.{absurd_put}
use Rattle.promises.proofs.Does.{fits_from, reads_from, writes_from, served_from, ways}
use Rattle.promises.proofs.Sites.{names}
use Rattle.promises.proofs.Places.{leads_place, place_leads, leads_register, leads_window}

-- ---- which number is given

abbrev pub lines : ℕ → List Bool → List Line
lines n [] = []
lines n (t ∷ ts) = line n t ∷ lines (suc n) ts

-- a number below the first is not given
below : (n : ℕ) (ts : List Bool) (k : ℕ) → first_of (lines n ts) ≡ suc k → n ≤ suc k
below n [] k e = absurd (let z : 0 ≡ suc k = e in omega arith)
below n (t ∷ ts) k e =
    by_test t (λ q. let z : n ≡ suc k = simp q at e in omega arith) (λ q. let z = below (suc n) ts k (simp q at e) in omega arith)

-- the number of a line is given exactly where it holds and none before it does
pub first_is : (n : ℕ) (ts : List Bool) (k : ℕ) → k < length ts → first_of (lines (suc n) ts) ≡ suc n + k
    → (get_or ts k false ≡ true) × ((j : ℕ) → j < k → get_or ts j false ≡ false)
first_is n [] k h e = absurd (omega arith)
first_is n (t ∷ ts) zero h e =
    by_test t (λ q. (q, λ j z. absurd (omega arith)))
    (λ q. absurd (let z = below (suc (suc n)) ts n (simp q at e ∙ (let y : suc n + 0 ≡ suc n = omega arith in y)) in omega arith))
first_is n (t ∷ ts) (suc k) h e =
    by_test t (λ q. absurd (let z : suc n ≡ suc n + suc k = simp q at e in omega arith))
    (λ q.
    let f = first_is (suc n) ts k (omega arith) (simp q at e ∙ (let y : suc n + suc k ≡ suc (suc n) + k = omega arith in y)) in
    (f.0, earlier q f.1))
  where
    earlier : t ≡ false → ((j : ℕ) → j < k → get_or ts j false ≡ false) → (j : ℕ) → j < suc k → get_or (t ∷ ts) j false ≡ false
    earlier q f zero z = q
    earlier q f (suc j) z = f j (omega arith)

pub is_first : (n : ℕ) (ts : List Bool) (k : ℕ) → get_or ts k false ≡ true → ((j : ℕ) → j < k → get_or ts j false ≡ false)
    → first_of (lines (suc n) ts) ≡ suc n + k
is_first n [] zero h f = clash false h refl
is_first n [] (suc k) h f = clash false h refl
is_first n (t ∷ ts) zero h f = simp h (let y : suc n ≡ suc n + 0 = omega arith in y)
is_first n (t ∷ ts) (suc k) h f =
    simp (f 0 (omega arith)) (is_first (suc n) ts k h (λ j z. f (suc j) (omega arith)) ∙ (let y : suc (suc n) + k ≡ suc n + suc k = omega arith in y))

-- and 0 exactly where none does
pub none_is : (n : ℕ) (ts : List Bool) → first_of (lines (suc n) ts) ≡ 0 → (j : ℕ) → get_or ts j false ≡ false
none_is n [] e zero = refl
none_is n [] e (suc j) = refl
none_is n (t ∷ ts) e zero = by_test t (λ q. absurd (let z : suc n ≡ 0 = simp q at e in omega arith)) (λ q. q)
none_is n (t ∷ ts) e (suc j) =
    by_test t (λ q. absurd (let z : suc n ≡ 0 = simp q at e in omega arith)) (λ q. none_is (suc n) ts (simp q at e) j)

pub is_none : (n : ℕ) (ts : List Bool) → ((j : ℕ) → j < length ts → get_or ts j false ≡ false) → first_of (lines (suc n) ts) ≡ 0
is_none n [] f = refl
is_none n (t ∷ ts) f = simp (f 0 (omega arith)) (is_none (suc n) ts (λ j z. f (suc j) (omega arith)))

-- and no number past the last
pub at_most : (n : ℕ) (ts : List Bool) → first_of (lines (suc n) ts) ≤ n + length ts
at_most n [] = omega arith
at_most n (t ∷ ts) = by_test t (λ q. simp q (omega arith)) (λ q. simp q (let z = at_most (suc n) ts in omega arith))

-- ---- each line

pub lent_test : (x : World) → (not (eqb (length x.memory) x.state.fitted && eqb (length x.picture) (x.state.width * x.state.height)) ≡ false) ↔ Lent x
lent_test x = (
  (λ e.
      let t = not-false (eqb (length x.memory) x.state.fitted && eqb (length x.picture) (x.state.width * x.state.height)) e in
      record {
        memory = eqb-true _ _ (first_so (eqb (length x.memory) x.state.fitted) _ t);
        picture = eqb-true _ _ (second_so (eqb (length x.memory) x.state.fitted) _ t);
      }),
  (λ f. simp (eq-eqb _ _ f.memory, eq-eqb _ _ f.picture)),
)

pub asked_test : (a : Access) → (not (leb a.target 3 && leb a.enables 15) ≡ false) ↔ Asked a
asked_test a = (
  (λ e.
      let t = not-false (leb a.target 3 && leb a.enables 15) e in
      record {
        target = leb-true _ 3 (first_so (leb a.target 3) _ t);
        enables = leb-true _ 15 (second_so (leb a.target 3) _ t);
      }),
  (λ f. simp (le-leb _ 3 f.target, le-leb _ 15 f.enables)),
)

pub aligned_test : (a : Access) → (not (eqb (a.offset % 4) 0) ≡ false) ↔ (a.offset % 4 ≡ 0)
aligned_test a = ((λ e. eqb-true _ 0 (not-false (eqb (a.offset % 4) 0) e)), (λ f. simp f))

-- the modes served
served_of : (c : ℕ) → served c ≡ true → Served c
unfolding served swap_of
served_of c e =
    let p = second_so (not (eqb (c % 4) 3)) _ e in
    let q = second_so (not (bit 3 c)) _ p in
    record {
      swap = λ z. clash _ (first_so (not (eqb (c % 4) 3)) _ e) (ap not (eq-eqb (c % 4) 3 z));
      unpacked = not-true (bit 3 c) (first_so (not (bit 3 c)) _ p);
      no_svga = not-true (bit 8 c) (first_so (not (bit 8 c)) _ q);
      no_rom = not-true (bit 9 c) (second_so (not (bit 8 c)) _ q);
    }

of_served : (c : ℕ) → Served c → served c ≡ true
unfolding served swap_of
of_served c f = simp (ne_eqb (c % 4) 3 f.swap, f.unpacked, f.no_svga, f.no_rom)

-- ---- the place's lines

module _ (s : State) (a : Access) where
  -- what leads somewhere finds something
  somewhere : (p : Place) → Leads s a p → (reach_at p).here ≡ true
  unfolding reach_at
  somewhere p (address t o) = refl
  somewhere p (palette t o k) = refl
  somewhere p (indexed t o k i r) = refl
  somewhere p (region t i r) = refl
  somewhere p (one t) = refl
  somewhere p (two t) = refl
  somewhere p (header t o i r) = refl
  somewhere p (blank t o n) = refl

  -- a register or a window that the access reaches is one that it leads to, and back
  to_row : (i : ℕ) → (reach_at (place_of s a)).row ≡ some i → Leads s a (Register i)
  to_row i e = leads_register s a i ((names (place_of s a)).row i e)

  to_window : (i : ℕ) → (reach_at (place_of s a)).window ≡ some i → Leads s a (Window i)
  to_window i e = leads_window s a i ((names (place_of s a)).window i e)

  row_of : (i : ℕ) → Leads s a (Register i) → (reach_at (place_of s a)).row ≡ some i
  unfolding reach_at
  row_of i d = ap (λ (p : Place). (reach_at p).row) (leads_place s a (Register i) d)

  window_of : (p : Place) (i : ℕ) → p ≡ Window i → (reach_at p).window ≡ some i
  unfolding reach_at
  window_of p i e = ap (λ (q : Place). (reach_at q).window) e

  -- 5
  fits_test : (o : Option ℕ) → (fits_from s a o ≡ true) ↔ ((i : ℕ) → o ≡ some i → a.offset + 3 < s.fitted)
  unfolding reaches_memory span
  fits_test none = ((λ e i q. absurd_put none i refl q), (λ f. refl))
  fits_test (some j) = (
    (λ e i q. let z = leb-true (a.offset + 4) s.fitted e in omega arith),
    (λ f. le-leb (a.offset + 4) s.fitted (let z = f j refl in omega arith)),
  )

  present : (p : Place) → (port_at s a p).present ≡ ((reach_at p).here && fits_from s a (reach_at p).window)
  present p = (ways s a p).present

  found_of_lem : (port_at s a (place_of s a)).present ≡ true → Found s a
  found_of_lem t =
      let u = sym (present (place_of s a)) ∙ t in
      record {
        place = place_of s a;
        leads = place_leads s a (place_of s a) (first_so (reach_at (place_of s a)).here _ u) refl;
        fitted = λ i q. (fits_test (reach_at (place_of s a)).window).0 (second_so (reach_at (place_of s a)).here _ u) i (window_of (place_of s a) i q);
      }

  of_found : Found s a → (port_at s a (place_of s a)).present ≡ true
  of_found f =
      let e = leads_place s a f.place f.leads in
      present (place_of s a)
      ∙ and_from _ _ (ap (λ (p : Place). (reach_at p).here) e ∙ somewhere f.place f.leads)
      ((fits_test (reach_at (place_of s a)).window).1 (λ i q. f.fitted i (sym e ∙ (names (place_of s a)).window i q)))

  pub found_test : (not (port_of s a).present ≡ false) ↔ Found s a
  unfolding port_of
  found_test = ((λ e. found_of_lem (not-false (port_at s a (place_of s a)).present e)), (λ f. ap not (of_found f)))

  -- 6
  abbrev directed : Option ℕ → Bool
  directed o = pick (is_write a) (writes_from o) (reads_from o)

  directs : pick (is_write a) (port_at s a (place_of s a)).writes (port_at s a (place_of s a)).reads ≡ directed (reach_at (place_of s a)).row
  directs = ap₂ (λ (u v : Bool). pick (is_write a) u v) (ways s a (place_of s a)).writes (ways s a (place_of s a)).reads

  directed_of : directed (reach_at (place_of s a)).row ≡ true → Directed s a
  directed_of t =
      record {
        reads = λ i d w. simp (no_write_is a w) at (subst (λ (o : Option ℕ). directed o ≡ true) (row_of i d) t);
        writes = λ i d w. simp (write_is a w) at (subst (λ (o : Option ℕ). directed o ≡ true) (row_of i d) t);
      }

  of_directed : Directed s a → (o : Option ℕ) → (reach_at (place_of s a)).row ≡ o → directed o ≡ true
  of_directed f none e = pick_same (is_write a) true
  of_directed f (some i) e =
      by_test (is_write a) (λ w. simp w (f.writes i (to_row i e) (is_write_lem a w))) (λ w. simp w (f.reads i (to_row i e) (is_no_write a w)))

  pub directed_test : (not (pick (is_write a) (port_of s a).writes (port_of s a).reads) ≡ false) ↔ Directed s a
  unfolding port_of
  directed_test = (
    (λ e. directed_of (sym directs ∙ not-false (pick (is_write a) (port_at s a (place_of s a)).writes (port_at s a (place_of s a)).reads) e)),
    (λ f. ap not (directs ∙ of_directed f (reach_at (place_of s a)).row refl)),
  )

  -- 7
  of_served_at : ((i : ℕ) → Leads s a (Window i) → Served (get_or s.values i 0)) → (o : Option ℕ) → (reach_at (place_of s a)).window ≡ o → served_from s o ≡ true
  of_served_at f none e = refl
  of_served_at f (some i) e = of_served (get_or s.values i 0) (f i (to_window i e))

  pub served_test : (not (port_of s a).served ≡ false) ↔ ((i : ℕ) → Leads s a (Window i) → Served (get_or s.values i 0))
  unfolding port_of
  served_test = (
    (λ e i d.
        served_of (get_or s.values i 0)
        (subst (λ (o : Option ℕ). served_from s o ≡ true) (window_of (place_of s a) i (leads_place s a (Window i) d))
        (sym (ways s a (place_of s a)).served ∙ not-false (port_at s a (place_of s a)).served e))),
    (λ f. ap not ((ways s a (place_of s a)).served ∙ of_served_at f (reach_at (place_of s a)).window refl)),
  )
