-- Promise 1. Which refusal is given is exactly the first line of 01's table that holds; a refusal returns zero data and alters nothing.
-- From the law of the first line that holds, and the definition of a refused access. Assumes nothing.
use Prim.Native.Nat.{ℕ, zero, suc, ◌+◌, ◌-◌, ◌*◌, ◌%◌, ◌≤◌, ◌<◌}
use mathlib.Core.Bool.{Bool, true, false, not, ◌&&◌}
use mathlib.Core.List.{List, [], ◌∷◌}
use mathlib.Core.Logic.{◌↔◌, inl, inr}
use mathlib.Core.Path.{◌≡◌, refl, sym, ap, ◌∙◌, subst}
use native.Mathlib.Omega.{arith}
use borrow.Author.Tests.{eqb-true, eq-eqb, ne_eqb, not-false}
use lib.Dec.{eqb, leb}
use lib.ListN.{get_or, length, replicate}
use Rattle.bits.specs.Choose.{pick}
use Rattle.bits.proofs.Cases.{by_test}
use Rattle.bits.proofs.Bools.{clash}
use Rattle.chip.specs.declared.State.{State}
use Rattle.chip.specs.declared.Access.{Access}
use Rattle.chip.specs.declared.Kind.TheVariants.{Write, Look}
use Rattle.chip.specs.declared.Place.{Place}
use Rattle.chip.specs.Place.{place_of}
use Rattle.chip.specs.State.{reset_state}
use Rattle.chip.specs.Sound.{panel_ok, memory_ok, is_state}
use Rattle.chip.specs.Access.{is_write, is_look}
use Rattle.chip.specs.Refusal.{line, first_of, port_of, later_lines, access_lines, status_of, opening_lines, opening_status}
use Rattle.chip.specs.Step.{Outcome, Opening, refused, settled, done_by, given_by, step_of, blank_word, open_of}
use Rattle.chip.specs.Trace.{World, opened, step}
use Rattle.promises.specs.Good.{status_at}
use Rattle.promises.specs.Reach.{reach_at}
use Rattle.promises.specs.Places.{Leads}
use Rattle.promises.specs.View.{Idle}
use Rattle.promises.specs.Refusals.{IsState, Words, Passes, state, lent, asked, aligned, found, directed, served, Fails, Panel, Memory, OpeningHas}
use Rattle.chip.proofs.Operations.{is_write_lem, write_is, is_look_lem, look_is}
use Rattle.promises.proofs.Passed.{lines, first_is, is_first, none_is, is_none, at_most, lent_test, asked_test, aligned_test, found_test, directed_test, served_test}
use Rattle.promises.proofs.Places.{leads_place, place_leads}
use Rattle.promises.proofs.Clauses.{panel_of, of_panel, memory_of, of_memory, clauses}
use Rattle.promises.proofs.Sane.{sane}

-- ---- an access, with any state, buffers, offset, enables and word (for line 1 in 01's words, of a state whose numbers are words, as the types have it)

-- the status that it answers is the table's
pub access_status : (x : World) (a : Access) → (step x a).answer.status ≡ status_at x a
unfolding step_of given_by done_by settled refused
access_status x a = by_test (eqb (status_at x a) 0) (λ q. simp q (sym (eqb-true (status_at x a) 0 q))) (λ q. simp q)

-- which of the three operations an access is: the tests of the definitions are of its kind alone
pub write_means : (a : Access) → (is_write a ≡ true) ↔ (a.kind ≡ Write)
write_means a = (is_write_lem a, write_is a)

pub look_means : (a : Access) → (is_look a ≡ true) ↔ (a.kind ≡ Look)
look_means a = (is_look_lem a, look_is a)

-- a place of the definitions, other than nowhere, is where 01 says that the access leads
pub place_means : (s : State) (a : Access) (p : Place) → (reach_at p).here ≡ true → (place_of s a ≡ p) ↔ Leads s a p
place_means s a p n = (place_leads s a p n, leads_place s a p)

-- 1: a state is one exactly where each of 01's clauses holds
pub state_means : (s : State) → Words s → (is_state s ≡ true) ↔ IsState s
state_means = clauses

-- the tests of the table's lines
tests : World → Access → List Bool
tests x a =
    not (is_state x.state)
    ∷ not (eqb (length x.memory) x.state.fitted && eqb (length x.picture) (x.state.width * x.state.height))
    ∷ not (leb a.target 3 && leb a.enables 15)
    ∷ not (eqb (a.offset % 4) 0)
    ∷ not (port_of x.state a).present
    ∷ not (pick (is_write a) (port_of x.state a).writes (port_of x.state a).reads)
    ∷ not (port_of x.state a).served
    ∷ []

first_test : (x : World) (a : Access) → (step x a).answer.status ≡ first_of (lines 1 (tests x a))
unfolding status_of access_lines later_lines tests
first_test x a = access_status x a

module _ (x : World) (a : Access) (k : Words x.state) where
  of_test : (n : ℕ) → n < 7 → get_or (tests x a) n false ≡ false → Passes x a (suc n)
  unfolding tests
  of_test zero h e = state ((state_means x.state k).0 (not-false (is_state x.state) e))
  of_test (suc zero) h e = lent ((lent_test x).0 e)
  of_test (suc (suc zero)) h e = asked ((asked_test a).0 e)
  of_test (suc (suc (suc zero))) h e = aligned ((aligned_test a).0 e)
  of_test (suc (suc (suc (suc zero)))) h e = found ((found_test x.state a).0 e)
  of_test (suc (suc (suc (suc (suc zero))))) h e = directed ((directed_test x.state a).0 e)
  of_test (suc (suc (suc (suc (suc (suc zero)))))) h e = served ((served_test x.state a).0 e)
  of_test (suc (suc (suc (suc (suc (suc (suc n))))))) h e = absurd (omega arith)

  to_test : (n : ℕ) → Passes x a n → get_or (tests x a) (n - 1) false ≡ false
  unfolding tests
  to_test n (state f) = ap not ((state_means x.state k).1 f)
  to_test n (lent f) = (lent_test x).1 f
  to_test n (asked f) = (asked_test a).1 f
  to_test n (aligned f) = (aligned_test a).1 f
  to_test n (found f) = (found_test x.state a).1 f
  to_test n (directed f) = (directed_test x.state a).1 f
  to_test n (served f) = (served_test x.state a).1 f

  back_test : (n : ℕ) → Passes x a (suc n) → get_or (tests x a) n false ≡ false
  back_test n f = subst (λ (j : ℕ). get_or (tests x a) j false ≡ false) (let y : suc n - 1 ≡ n = omega arith in y) (to_test (suc n) f)

  tested : (n k : ℕ) → ((j : ℕ) → j < n → get_or (tests x a) j false ≡ false) → n ≤ 7 → 1 ≤ k → k < suc n → Passes x a k
  tested n zero f h u v = absurd (omega arith)
  tested n (suc k) f h u v = of_test k (omega arith) (f k (omega arith))

  -- it is refused as n exactly where it does not pass line n of the table and passes every line before ..
  pub access_refused : (n : ℕ) → 1 ≤ n → n ≤ 7 → ((step x a).answer.status ≡ n) ↔ Fails x a n
  unfolding tests
  access_refused zero h g = absurd (omega arith)
  access_refused (suc n) h g = (
    (λ e.
        let f = first_is 0 (tests x a) n (omega arith) (sym (first_test x a) ∙ e ∙ (let y : suc n ≡ 1 + n = omega arith in y)) in
        record { fails = λ p. clash _ f.0 (back_test n p); before = λ j u v. tested n j f.1 (omega arith) u v }),
    (λ f.
        first_test x a
        ∙ is_first 0 (tests x a) n
        (by_test (get_or (tests x a) n false) (λ q. q) (λ q. absurd (f.fails (of_test n (omega arith) q))))
        (λ j u. back_test j (f.before (suc j) (omega arith) (omega arith)))
        ∙ (let y : 1 + n ≡ suc n = omega arith in y)),
  )

  -- .. and is done exactly where it passes every line
  pub access_done : ((step x a).answer.status ≡ 0) ↔ ((n : ℕ) → 1 ≤ n → n ≤ 7 → Passes x a n)
  unfolding tests
  access_done = (
    (λ e n u v. tested 7 n (λ j w. none_is 0 (tests x a) (sym (first_test x a) ∙ e) j) (omega arith) u (omega arith)),
    (λ f. first_test x a ∙ is_none 0 (tests x a) (λ j u. back_test j (f (suc j) (omega arith) (omega arith)))),
  )

-- there is no other status
pub status_among : (x : World) (a : Access) → (step x a).answer.status ≤ 7
unfolding tests
status_among x a = omega (arith, first_test x a, at_most 0 (tests x a))

refused_is : (x : World) (a : Access) → (status_at x a ≡ 0 → ⊥) → step x a ≡ refused (status_at x a) x.state x.memory x.picture
unfolding step_of given_by
refused_is x a d = simp (ne_eqb (status_at x a) 0 d)

-- then it returns zero data, and state, memory and picture are as they were
pub refused_alters_nothing : (x : World) (a : Access) → ((step x a).answer.status ≡ 0 → ⊥) → Idle x a
unfolding refused
refused_alters_nothing x a d =
    let e = refused_is x a (λ e. d (access_status x a ∙ e)) in
    record {
      state = ap (λ (o : Outcome). o.answer.state) e;
      memory = ap (λ (o : Outcome). o.memory) e;
      picture = ap (λ (o : Outcome). o.picture) e;
      word = ap (λ (o : Outcome). o.answer.word) e;
      known = ap (λ (o : Outcome). o.answer.known) e;
      changed = ap (λ (o : Outcome). o.answer.changed) e;
    }

-- ---- an opening, with any panel, memory and picture

pub opening_status_lem : (w h : ℕ) (m p : List ℕ) → (open_of w h m p).answer.status ≡ opening_status w h (length m) (length p)
unfolding open_of
opening_status_lem w h m p =
    by_test (eqb (opening_status w h (length m) (length p)) 0)
    (λ q. simp q (sym (eqb-true (opening_status w h (length m) (length p)) 0 q))) (λ q. simp q)

sized : Bool → Bool → Bool → ℕ
sized a b c = first_of (line 8 (not a) ∷ line 9 (not b) ∷ line 2 (not c) ∷ [])

-- the first of three tests that fails
three : (w h ml pl : ℕ) (a b c : Bool) → (a ≡ true) ↔ Panel w h → (b ≡ true) ↔ Memory ml → (c ≡ true) ↔ (pl ≡ w * h) → OpeningHas w h ml pl (sized a b c)
unfolding sized
three w h ml pl false b c p q r =
    record {
      eight = ((λ e f. clash false (p.1 f) refl), (λ f. refl));
      nine = ((λ e. absurd (omega (arith, e))), (λ f. clash false (p.1 f.0) refl));
      two = ((λ e. absurd (omega (arith, e))), (λ f. clash false (p.1 f.0) refl));
      done = ((λ e. absurd (omega (arith, e))), (λ f. clash false (p.1 f.0) refl));
      among = inl (inl refl);
    }
three w h ml pl true false c p q r =
    record {
      eight = ((λ e. absurd (omega (arith, e))), (λ f. absurd (f (p.0 refl))));
      nine = ((λ e. (p.0 refl, λ f. clash false (q.1 f) refl)), (λ f. refl));
      two = ((λ e. absurd (omega (arith, e))), (λ f. clash false (q.1 f.1) refl));
      done = ((λ e. absurd (omega (arith, e))), (λ f. clash false (q.1 f.1) refl));
      among = inl (inr refl);
    }
three w h ml pl true true false p q r =
    record {
      eight = ((λ e. absurd (omega (arith, e))), (λ f. absurd (f (p.0 refl))));
      nine = ((λ e. absurd (omega (arith, e))), (λ f. absurd (f.1 (q.0 refl))));
      two = ((λ e. (p.0 refl, q.0 refl, λ f. clash false (r.1 f) refl)), (λ f. refl));
      done = ((λ e. absurd (omega (arith, e))), (λ f. clash false (r.1 f.2) refl));
      among = inr (inl refl);
    }
three w h ml pl true true true p q r =
    record {
      eight = ((λ e. absurd (omega (arith, e))), (λ f. absurd (f (p.0 refl))));
      nine = ((λ e. absurd (omega (arith, e))), (λ f. absurd (f.1 (q.0 refl))));
      two = ((λ e. absurd (omega (arith, e))), (λ f. absurd (f.2 (r.0 refl))));
      done = ((λ e. (p.0 refl, q.0 refl, r.0 refl)), (λ f. refl));
      among = inr (inr refl);
    }

-- which status an opening has, each exactly where 01's line holds and no earlier one does
pub opening_refused : (w h : ℕ) (m p : List ℕ) → OpeningHas w h (length m) (length p) (open_of w h m p).answer.status
unfolding opening_status opening_lines sized
opening_refused w h m p =
    subst (OpeningHas w h (length m) (length p)) (sym (opening_status_lem w h m p))
    (three w h (length m) (length p) (panel_ok w h) (memory_ok (length m)) (eqb (length p) (w * h))
    (panel_of w h, of_panel w h) (memory_of (length m), of_memory (length m)) (eqb-true (length p) (w * h), eq-eqb (length p) (w * h)))

-- then the state is the reset state with width, height and memory length 0, and the buffers are as lent
pub refused_opening : (w h : ℕ) (m p : List ℕ) → ((open_of w h m p).answer.status ≡ 0 → ⊥)
    → ((opened w h m p).state ≡ reset_state 0 0 0) × ((opened w h m p).memory ≡ m) × ((opened w h m p).picture ≡ p)
unfolding open_of
refused_opening w h m p d =
    let q : eqb (opening_status w h (length m) (length p)) 0 ≡ false =
    ne_eqb (opening_status w h (length m) (length p)) 0 (λ e. d (opening_status_lem w h m p ∙ e)) in (
      ap (λ (t : Bool). (pick t (done) (left)).answer.state) q,
      ap (λ (t : Bool). (pick t (done) (left)).memory) q,
      ap (λ (t : Bool). (pick t (done) (left)).picture) q,
    )
  where
    done : Opening
    done =
        record {
          answer = record { status = 0; state = reset_state w h (length m) };
          memory = m;
          picture = replicate (length p) blank_word;
        }

    left : Opening
    left = record { answer = record { status = opening_status w h (length m) (length p); state = reset_state 0 0 0 }; memory = m; picture = p }

unopened : is_state (reset_state 0 0 0) ≡ false
unfolding panel_ok reset_state
unopened =
    by_test (is_state (reset_state 0 0 0)) (λ q. no_panel (sane (reset_state 0 0 0) q).panel) (λ q. q)
  where
    no_panel : panel_ok 0 0 ≡ true → is_state (reset_state 0 0 0) ≡ false
    no_panel e = cc

no_state : (m p : List ℕ) (a : Access) → status_at (record { state = reset_state 0 0 0; memory = m; picture = p }) a ≡ 1
unfolding status_of access_lines
no_state m p a = simp unopened

-- and every access on that state, with any buffers, is refused as 1
pub unopened_refuses : (m p : List ℕ) (a : Access) → (step_of (reset_state 0 0 0) m p a).answer.status ≡ 1
unopened_refuses m p a = access_status (record { state = reset_state 0 0 0; memory = m; picture = p }) a ∙ no_state m p a
