-- An access on a state that is one is the access without refusal 1's test, with or without the test of the panel.
-- The test passes, and so do the lines after it; a state's panel is within the limits. Assumes nothing.
use Rattle.std.proofs.Common.{◌≡◌, ℕ, true, List, sym, ◌∙◌}
use Rattle.std.specs.Cmp.{first_so}
use Rattle.chip.specs.declared.State.{State}
use Rattle.chip.specs.declared.Access.{Access}
use Rattle.chip.specs.Refusal.{access_lines, later_status, status_of}
use Rattle.chip.specs.Sound.{panel_ok, is_state}
use Rattle.chip.specs.Step.{step_of, sure_of, surely_of}

pub sure_step_lem : (s : State) (m p : List ℕ) (a : Access) → is_state s ≡ true → step_of s m p a ≡ sure_of s m p a
unfolding step_of sure_of status_of later_status access_lines
sure_step_lem s m p a e = simp e

pub panel_of : (s : State) → is_state s ≡ true → panel_ok s.width s.height ≡ true
unfolding is_state
panel_of s e = first_so (panel_ok s.width s.height) _ e

pub surely_step_lem : (s : State) (m p : List ℕ) (a : Access) → is_state s ≡ true → step_of s m p a ≡ surely_of s m p a
unfolding surely_of
surely_step_lem s m p a e = sure_step_lem s m p a e ∙ sym (simp (panel_of s e))
