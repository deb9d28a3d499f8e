-- What a definition may have none of, as the code's Option has it.
use Rattle.std.specs.Prelude.{Option, Some, None}
use Rattle.std.proofs.Math.Option as maybe

abbrev pub option_of : {A : Type 0} → maybe.Option A → Option A
option_of maybe.none = None
option_of (maybe.some x) = Some x
