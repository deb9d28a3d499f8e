-- The machine of `sure_read` and `sure_write`: every access without refusal 1's test, and lists of them.
use Rattle.std.specs.Prelude.{List, [], ◌∷◌}
use Rattle.chip.specs.declared.Access.{Access}
use Rattle.chip.specs.declared.Answer.{Answer}
use Rattle.chip.specs.Step.{Outcome, surely_of}
use Rattle.chip.specs.Trace.{World}

abbrev pub surely_step : World → Access → Outcome
surely_step x a = surely_of x.state x.memory x.picture a

abbrev pub surely_after : World → Access → World
surely_after x a = record { state = (surely_step x a).answer.state; memory = (surely_step x a).memory; picture = (surely_step x a).picture }

-- what a list leaves, and every answer that it gives
abbrev pub surely_run : World → List Access → World
surely_run x [] = x
surely_run x (a ∷ l) = surely_run (surely_after x a) l

abbrev pub surely_answers : World → List Access → List Answer
surely_answers x [] = []
surely_answers x (a ∷ l) = (surely_step x a).answer ∷ surely_answers (surely_after x a) l
