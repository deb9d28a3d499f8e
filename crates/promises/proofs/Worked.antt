-- 01's values and the small cases hold of the definitions as they stand, refusal 1 tested at every access.
-- After an opening the scan of refusal 1 passes, so an access is what it is without the scan; the cases without it are computed. Assumes nothing.
use Prim.Native.Nat.{ℕ, ◌*◌}
use mathlib.Core.Bool.{true}
use mathlib.Core.List.{List, [], ◌∷◌}
use mathlib.Core.Path.{◌≡◌, refl, ap, ◌∙◌}
use native.Mathlib.Omega.{arith}
use borrow.Author.Tests.{eqb-true}
use lib.ListN.{replicate, length-replicate}
use Rattle.bits.specs.Choose.{every_in}
use Rattle.std.specs.Cmp.{first_so, second_so}
use Rattle.std.proofs.lemmas.Bool.{and_from}
use Rattle.bits.proofs.Lists.{zeros_at}
use Rattle.chip.specs.declared.Access.{Access}
use Rattle.chip.specs.Refusal.{opening_status}
use Rattle.chip.specs.Sound.{is_state}
use Rattle.chip.specs.Step.{Outcome}
use Rattle.chip.specs.Trace.{World, after, run}
use Rattle.chip.specs.Case.{Case, start, lent_or, meets, agrees, holds, sure_step, sure_run, fits, surely}
use Rattle.chip.specs.Values.{values}
use Rattle.chip.specs.Readings.{misread, palettes, widths, entry_words, glances, refusals, words, lanes, pictures}
use Rattle.chip.proofs.Computed.{computed}
use Rattle.chip.proofs.Sure.{sure_step_lem}
use Rattle.chip.proofs.Values.{values_computed, misread_computed, palettes_computed, widths_computed, entry_words_computed, glances_computed, refusals_computed, words_computed, lanes_computed, pictures_computed}
use Rattle.promises.specs.Good.{Good, Openable}
use Rattle.promises.proofs.Promise1Refusals.{opening_status_lem}
use Rattle.promises.proofs.Worlds.{good_kept, good_along, opened_good}

-- ---- an access on a state that is one

sure_run_lem : (x : World) (l : List Access) → Good x → run x l ≡ sure_run x l
sure_run_lem x [] g = refl
sure_run_lem x (a ∷ l) g =
    sure_run_lem (after x a) l (good_kept x a g)
    ∙ ap (λ (o : Outcome). sure_run (record { state = o.answer.state; memory = o.memory; picture = o.picture }) l)
    (sure_step_lem x.state x.memory x.picture a g.state)

-- ---- a case

case_opens : (c : Case) → fits c ≡ true → Openable c.width c.height (replicate 16 0) (replicate (c.width * c.height) 0)
unfolding fits
case_opens c t =
    record {
      accepted =
          opening_status_lem c.width c.height (replicate 16 0) (replicate (c.width * c.height) 0)
          ∙ ap (opening_status c.width c.height 16) (length-replicate {A = ℕ} (c.width * c.height) 0) ∙ eqb-true _ 0 t;
      bytes = λ k. omega (arith, zeros_at 16 k);
    }

case_holds : (c : Case) → fits c ≡ true → holds c ≡ surely c
unfolding holds surely
case_holds c t =
    let g : Good (start c) = opened_good c.width c.height (replicate 16 0) (replicate (c.width * c.height) 0) (case_opens c t) in
    let r : run (start c) c.first ≡ sure_run (start c) c.first = sure_run_lem (start c) c.first g in
    let k : is_state (run (start c) c.first).state ≡ true = (good_along (start c) c.first g).state in
    ap (agrees c)
    (sure_step_lem (run (start c) c.first).state (run (start c) c.first).memory (lent_or c.lent (run (start c) c.first).picture) c.last k
    ∙ ap (λ (x : World). sure_step (meets c.lent x) c.last) r)

all_hold : (l : List Case) → every_in fits l ≡ true → every_in surely l ≡ true → every_in holds l ≡ true
all_hold [] t e = refl
all_hold (c ∷ l) t e =
    and_from (holds c) (every_in holds l)
    (case_holds c (first_so (fits c) (every_in fits l) t) ∙ first_so (surely c) (every_in surely l) e)
    (all_hold l (second_so (fits c) (every_in fits l) t) (second_so (surely c) (every_in surely l) e))

-- ---- the lists

-- P1 to P9
pub values_hold : every_in holds values ≡ true
unfolding computed values
values_hold = all_hold values refl values_computed

pub misread_hold : every_in holds misread ≡ true
unfolding computed misread
misread_hold = all_hold misread refl misread_computed

pub palettes_hold : every_in holds palettes ≡ true
unfolding computed palettes
palettes_hold = all_hold palettes refl palettes_computed

pub widths_hold : every_in holds widths ≡ true
unfolding computed widths
widths_hold = all_hold widths refl widths_computed

pub entry_words_hold : every_in holds entry_words ≡ true
unfolding computed entry_words
entry_words_hold = all_hold entry_words refl entry_words_computed

pub glances_hold : every_in holds glances ≡ true
unfolding computed glances
glances_hold = all_hold glances refl glances_computed

pub refusals_hold : every_in holds refusals ≡ true
unfolding computed refusals
refusals_hold = all_hold refusals refl refusals_computed

pub words_hold : every_in holds words ≡ true
unfolding computed words
words_hold = all_hold words refl words_computed

pub lanes_hold : every_in holds lanes ≡ true
unfolding computed lanes
lanes_hold = all_hold lanes refl lanes_computed

pub pictures_hold : every_in holds pictures ≡ true
unfolding computed pictures
pictures_hold = all_hold pictures refl pictures_computed
