-- What holds of an access and of an opening that is not refused: each line of 01's table under its name.
-- From Lines.none_holds; no other file of this crate counts the lines. Assumes nothing.
use Rattle.std.proofs.Common.{◌≡◌, ℕ, ◌*◌, ◌%◌, ◌≤◌, true, ◌&&◌, eqb, leb, refl, eqb-true, leb-true}
use borrow.Author.Tests.{not-false}
use Rattle.bits.specs.Choose.{pick}
use Rattle.std.specs.Cmp.{first_so, second_so}
use Rattle.chip.specs.declared.State.{State}
use Rattle.chip.specs.declared.Access.{Access}
use Rattle.chip.specs.Access.{is_write}
use Rattle.chip.specs.Sound.{panel_ok, memory_ok, is_state}
use Rattle.chip.specs.Refusal.{port_of, later_lines, access_lines, status_of, opening_lines, opening_status}
use Rattle.chip.proofs.Lines.{none_holds}

pub record Unrefused (s : State) (ml pl : ℕ) (a : Access) : Type 0 where
  -- 1 and 2
  pub state : is_state s ≡ true
  pub memory : ml ≡ s.fitted
  pub picture : pl ≡ s.width * s.height
  -- 3 and 4
  pub target : a.target ≤ 3
  pub enables : a.enables ≤ 15
  pub aligned : a.offset % 4 ≡ 0
  -- 5, 6 and 7
  pub present : (port_of s a).present ≡ true
  pub direction : pick (is_write a) (port_of s a).writes (port_of s a).reads ≡ true
  pub served : (port_of s a).served ≡ true

pub unrefused : (s : State) (ml pl : ℕ) (a : Access) → status_of s ml pl a ≡ 0 → Unrefused s ml pl a
unfolding status_of access_lines later_lines
unrefused s ml pl a e =
    let none = none_holds (access_lines s ml pl a) refl e in
    let sizes = not-false (eqb ml s.fitted && eqb pl (s.width * s.height)) (none 1) in
    let asked = not-false (leb a.target 3 && leb a.enables 15) (none 2) in
    record {
      state = not-false (is_state s) (none 0);
      memory = eqb-true ml s.fitted (first_so (eqb ml s.fitted) (eqb pl (s.width * s.height)) sizes);
      picture = eqb-true pl (s.width * s.height) (second_so (eqb ml s.fitted) (eqb pl (s.width * s.height)) sizes);
      target = leb-true a.target 3 (first_so (leb a.target 3) (leb a.enables 15) asked);
      enables = leb-true a.enables 15 (second_so (leb a.target 3) (leb a.enables 15) asked);
      aligned = eqb-true (a.offset % 4) 0 (not-false (eqb (a.offset % 4) 0) (none 3));
      present = not-false (port_of s a).present (none 4);
      direction = not-false (pick (is_write a) (port_of s a).writes (port_of s a).reads) (none 5);
      served = not-false (port_of s a).served (none 6);
    }

pub record UnrefusedOpening (w h ml pl : ℕ) : Type 0 where
  -- 8, 9 and 2
  pub panel : panel_ok w h ≡ true
  pub memory : memory_ok ml ≡ true
  pub dots : pl ≡ w * h

pub unrefused_opening : (w h ml pl : ℕ) → opening_status w h ml pl ≡ 0 → UnrefusedOpening w h ml pl
unfolding opening_status opening_lines
unrefused_opening w h ml pl e =
    let none = none_holds (opening_lines w h ml pl) refl e in
    record {
      panel = not-false (panel_ok w h) (none 0);
      memory = not-false (memory_ok ml) (none 1);
      dots = eqb-true pl (w * h) (not-false (eqb pl (w * h)) (none 2));
    }
