-- A panel's size as an argument: WIDTHxHEIGHT, each one to eight decimal digits (docs/DECISIONS.md, D-37).
use Rattle.std.specs.Prelude.{ℕ, suc, List, ltb, length, drop, Option, Some, None}
use Rattle.bits.specs.Choose.{pick}
use Rattle.text.specs.declared.Size.{Size}
use Rattle.text.specs.Gather.{up_to}
use Rattle.text.specs.Line.{number_of}

abbrev pub size_from : Option ℕ → Option ℕ → Option Size
size_from (Some w) (Some h) = Some (record { width = w; height = h })
size_from (Some w) None = None
size_from None h = None

-- parted by an x (120)
unfoldable pub size_of : List ℕ → Option Size
size_of l =
    pick (ltb (length (up_to 120 l)) (length l)) (size_from (number_of 10 (up_to 120 l)) (number_of 10 (drop (suc (length (up_to 120 l))) l))) None
