-- Promise 11: without refusal 1's test, as `sure_read` and `sure_write` leave it out, everything is the same from a good world, so also after an opening with status 0; from
-- the state of a refused opening it is not. A good world stays one, and its state passes the test; the last is computed. Assumes nothing.
use Prim.Native.Nat.{ℕ}
use mathlib.Core.List.{List, [], ◌∷◌}
use mathlib.Core.Path.{◌≡◌, refl, ap, ap₂, ◌∙◌}
use Rattle.chip.specs.declared.Access.{Access}
use Rattle.chip.specs.declared.Answer.{Answer}
use Rattle.chip.specs.Access.{reads, writes}
use Rattle.chip.specs.Step.{Outcome}
use Rattle.chip.specs.Trace.{World, opened, step, after, run}
use Rattle.chip.proofs.Computed.{computed}
use Rattle.chip.proofs.Sure.{surely_step_lem}
use Rattle.promises.specs.Good.{Good, Openable}
use Rattle.promises.specs.Looks.{answers_of}
use Rattle.promises.specs.Sure.{surely_step, surely_after, surely_run, surely_answers}
use Rattle.promises.proofs.Worlds.{good_kept, opened_good}

-- one access: answer, state, memory and picture
pub sure_same : (x : World) (a : Access) → Good x → step x a ≡ surely_step x a
sure_same x a g = surely_step_lem x.state x.memory x.picture a g.state

left_same : (x : World) (a : Access) → Good x → after x a ≡ surely_after x a
left_same x a g = ap (λ (o : Outcome). (let w : World = record { state = o.answer.state; memory = o.memory; picture = o.picture } in w)) (sure_same x a g)

-- every list of accesses leaves the same ..
pub sure_along : (x : World) (l : List Access) → Good x → run x l ≡ surely_run x l
sure_along x [] g = refl
sure_along x (a ∷ l) g = sure_along (after x a) l (good_kept x a g) ∙ ap (λ (w : World). surely_run w l) (left_same x a g)

-- .. and answers the same
pub sure_answers : (x : World) (l : List Access) → Good x → answers_of x l ≡ surely_answers x l
sure_answers x [] g = refl
sure_answers x (a ∷ l) g =
    ap₂ (λ (h : Answer) (t : List Answer). h ∷ t) (ap (λ (o : Outcome). o.answer) (sure_same x a g))
    (sure_answers (after x a) l (good_kept x a g) ∙ ap (λ (w : World). surely_answers w l) (left_same x a g))

-- so from an opening that is not refused
pub sure_opened : (w h : ℕ) (m p : List ℕ) (l : List Access) → Openable w h m p
    → (run (opened w h m p) l ≡ surely_run (opened w h m p) l) × (answers_of (opened w h m p) l ≡ surely_answers (opened w h m p) l)
sure_opened w h m p l o = let g = opened_good w h m p o in (sure_along (opened w h m p) l g, sure_answers (opened w h m p) l g)

-- the state of a refused opening: a read of MemControl and a write of it are refused as 1, and done where 1 is not tested
pub sure_differs : ((step (opened 0 0 [] []) (reads 0 0x1040 15)).answer.status ≡ 1) × ((surely_step (opened 0 0 [] []) (reads 0 0x1040 15)).answer.status ≡ 0)
    × ((step (opened 0 0 [] []) (writes 0 0x1040 15 0xFFFFFFFF)).answer.status ≡ 1) × ((surely_step (opened 0 0 [] []) (writes 0 0x1040 15 0xFFFFFFFF)).answer.status ≡ 0)
unfolding computed
sure_differs = (refl, refl, refl, refl)
