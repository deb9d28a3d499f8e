-- A row of the panel in two layouts, and its dots by their tables.
use Rattle.std.specs.Prelude.{ℕ, ◌+◌, ◌-◌, ◌<◌, ◌≤◌, List}
use Rattle.chip.specs.Units.{bytes_along}
use Rattle.picture.specs.declared.dot.Row.{Row}
use Rattle.picture.specs.Draw.{row_look}

-- the words of its dots in the old layout, and in the new one
abbrev pub old_dots : Row → List ℕ → List ℕ → ℕ → ℕ
old_dots r t m = row_look r.old.past r.old.at.0 r.first t m

abbrev pub new_dots : Row → List ℕ → List ℕ → ℕ → ℕ
new_dots r t m = row_look r.new.past r.new.at.0 r.first t m

-- a row that starts below far in both layouts, of at most 1,024 dots, in the picture
pub record Reach (far : ℕ) (r : Row) (size : ℕ) : Type 0 where
  pub room : r.first + r.width ≤ size
  pub narrow : r.width ≤ 1024
  pub old : r.old.at.0 < far
  pub new : r.new.at.0 < far

-- one word at every dot
abbrev pub always : ℕ → ℕ → ℕ
always w j = w

-- a row of at most 1,024 dots in the picture
pub record Room (r : Row) (size : ℕ) : Type 0 where
  pub room : r.first + r.width ≤ size
  pub narrow : r.width ≤ 1024

-- the row up to its dot d
abbrev pub cut_to : Row → ℕ → Row
cut_to r d = record { old = r.old; new = r.new; first = r.first; width = d }

-- the row from its dot d on
abbrev pub rest_of : Row → ℕ → Row
rest_of r d =
    record {
      old = record { past = r.old.past; at = bytes_along r.old.at d };
      new = record { past = r.new.past; at = bytes_along r.new.at d };
      first = r.first + d;
      width = r.width - d;
    }

-- where that can be counted
pub record From (r : Row) (d : ℕ) : Type 0 where
  pub within : d ≤ r.width
  pub narrow : r.width ≤ 1024
  pub old : r.old.at.0 < 0x20000000000
  pub new : r.new.at.0 < 0x20000000000
  pub first : r.first + r.width < 0x10000000000000000
