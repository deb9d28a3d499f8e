-- What a read or a write of palette data is (`is_data`), part by part.
-- By its definition, a chain of tests. Assumes nothing.
use mathlib.Core.Bool.{true, false, not}
use mathlib.Core.Path.{◌≡◌}
use borrow.Author.Tests.{not-true}
use Rattle.bits.specs.Bit.{bit}
use Rattle.std.specs.Cmp.{first_so, second_so}
use Rattle.chip.specs.declared.Access.{Access}
use Rattle.chip.specs.Access.{is_look}
use Rattle.chip.specs.Place.{place_of}
use Rattle.chip.specs.Trace.{World}
use Rattle.promises.specs.Reach.{reach_at}
use Rattle.promises.specs.History.{accepted, is_data}

pub record DataParts (x : World) (a : Access) : Type 0 where
  pub accepted : accepted x a ≡ true
  -- no look
  pub steps : is_look a ≡ false
  pub paints : (reach_at (place_of x.state a)).paints ≡ true
  pub lane : bit 0 a.enables ≡ true

pub data_parts : (x : World) (a : Access) → is_data x a ≡ true → DataParts x a
unfolding is_data
data_parts x a e =
    let u = second_so (accepted x a) _ e in
    let v = second_so (not (is_look a)) _ u in
    record {
      accepted = first_so (accepted x a) _ e;
      steps = not-true (is_look a) (first_so (not (is_look a)) _ u);
      paints = first_so (reach_at (place_of x.state a)).paints _ v;
      lane = second_so (reach_at (place_of x.state a)).paints _ v;
    }
