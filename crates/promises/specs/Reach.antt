-- What an access may reach, from the place that it leads to: a register, the RAMDAC's address, palette data, memory.
use Rattle.std.specs.Prelude.{ℕ, Bool, true, false}
use Rattle.std.proofs.Math.Option.{Option, none, some}
use Rattle.chip.specs.declared.Place.{Place}
use Rattle.chip.specs.declared.Place.TheVariants.{Register, Address, PaletteData, Window, Blank, Nowhere}

pub record Reach : Type 0 where
  -- there is something
  pub here : Bool
  -- the register's row
  pub row : Option ℕ
  -- the address, and palette data
  pub aims : Bool
  pub paints : Bool
  -- memory, through the aperture whose control register is in this row
  pub window : Option ℕ

abbrev reach : Option ℕ → Bool → Bool → Option ℕ → Reach
reach i a p w = record { here = true; row = i; aims = a; paints = p; window = w }

unfoldable pub reach_at : Place → Reach
reach_at (Register i) = reach (some i) false false none
reach_at Address = reach none true false none
reach_at PaletteData = reach none false true none
reach_at (Window i) = reach none false false (some i)
reach_at Blank = reach none false false none
reach_at Nowhere = record { here = false; row = none; aims = false; paints = false; window = none }
