-- The numbers of the refusals, as they cross the C boundary, and the status of an outcome (01, An access and its answer).
use Rattle.std.specs.Prelude.{ℕ, ⊤, Result, Ok, Err, ◌==◌}
use Rattle.bits.specs.Choose.{pick}
use Rattle.chip.specs.declared.Refusal.{Refusal}
use Rattle.chip.specs.declared.Refusal.TheVariants.{NotState, Length, Form, Offset, Absent, Direction, Mode, Panel, Memory}
use Rattle.chip.specs.declared.NoRefusal.{NoRefusal}

-- a refusal's number is that of its line of the table
abbrev pub number_of : Refusal → ℕ
number_of NotState = 1
number_of Length = 2
number_of Form = 3
number_of Offset = 4
number_of Absent = 5
number_of Direction = 6
number_of Mode = 7
number_of Panel = 8
number_of Memory = 9

-- the refusal of a number; there is none of 0, and none above 9
unfoldable pub numbered : ℕ → Result Refusal NoRefusal
numbered n =
    pick (n == 1) (Ok NotState)
    (pick (n == 2) (Ok Length)
    (pick (n == 3) (Ok Form)
    (pick (n == 4) (Ok Offset)
    (pick (n == 5) (Ok Absent)
    (pick (n == 6) (Ok Direction)
    (pick (n == 7) (Ok Mode)
    (pick (n == 8) (Ok Panel)
    (pick (n == 9) (Ok Memory)
    (Err record {})))))))))

-- the status of an outcome: 0 where it is done, else the refusal's number
abbrev pub status_given : Result ⊤ Refusal → ℕ
status_given (Ok x) = 0
status_given (Err why) = number_of why
