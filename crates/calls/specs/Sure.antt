-- Calls of `sure_read` and `sure_write`, which do not test refusal 1, among calls of the others.
use Rattle.std.specs.Prelude.{List, [], ◌∷◌, ◌≡◌}
use contract.Lifetimes.{Lfts}
use denote.Triple.Clauses.{AtExit}
use borrow.Fn.Kinds as kinds
use borrow.Fn.World.{ArgsD, ResD}
use Rattle.chip.specs.declared.Access.{Access}
use Rattle.chip.specs.declared.Answer.{Answer}
use Rattle.chip.specs.declared.Kind.TheVariants.{Read, Write}
use Rattle.chip.specs.Parts.{state_of, replied, wrote}
use Rattle.chip.specs.Trace.{World}
use Rattle.model.specs.contracts.lent.read as lent-reading
use Rattle.model.proofs.lent.read.Kinds as lent-reading-kinds
use Rattle.model.specs.contracts.lent.write as lent-writing
use Rattle.model.proofs.lent.write.Kinds as lent-writing-kinds
use Rattle.model.proofs.sure.sure_read.Reads as sure-reading-reads
use Rattle.model.proofs.sure.sure_write.Reads as sure-writing-reads
use Rattle.calls.specs.Calls.{Called}

-- `model::sure::sure_read` has the parameters of `model::lent::read`
pub record SureReadCalled (x : World) (a : Access) (r : Answer) (y : World) : Type 1 where
  pub lifetimes : Lfts 3
  pub args : ArgsD lent-reading.signature lifetimes
  pub result : ResD lent-reading.signature lifetimes
  pub exit : AtExit (kinds.ended_of 3 lent-reading-kinds.ps lent-reading-kinds.r) lifetimes
  pub post : sure-reading-reads.Post lifetimes args result exit
  pub kind : a.kind ≡ Read
  pub state : state_of args.0 args.1.0 args.1.1.0 args.1.1.1.0 args.1.1.1.1.0.now args.1.1.1.1.1.0.now args.1.1.1.1.1.1.0.now args.1.1.1.1.1.1.1.0.now ≡ x.state
  pub target : args.1.1.1.1.1.1.1.1.0 ≡ a.target
  pub offset : args.1.1.1.1.1.1.1.1.1.0 ≡ a.offset
  pub enables : args.1.1.1.1.1.1.1.1.1.1.0 ≡ a.enables
  pub memory : args.1.1.1.1.1.1.1.1.1.1.1.0.now ≡ x.memory
  pub picture : args.1.1.1.1.1.1.1.1.1.1.1.1.0.now ≡ x.picture
  pub answer : r ≡ replied y.state result
  pub state_left : y.state ≡ state_of args.0 args.1.0 args.1.1.0 args.1.1.1.0 exit.1.1.1.1.0.now args.1.1.1.1.1.0.now args.1.1.1.1.1.1.0.now exit.1.1.1.1.1.1.1.0.now
  pub memory_left : y.memory ≡ x.memory
  pub picture_left : y.picture ≡ x.picture

-- and `model::sure::sure_write` those of `model::lent::write`
pub record SureWriteCalled (x : World) (a : Access) (r : Answer) (y : World) : Type 1 where
  pub lifetimes : Lfts 7
  pub args : ArgsD lent-writing.signature lifetimes
  pub result : ResD lent-writing.signature lifetimes
  pub exit : AtExit (kinds.ended_of 7 lent-writing-kinds.ps lent-writing-kinds.r) lifetimes
  pub post : sure-writing-reads.Post lifetimes args result exit
  pub kind : a.kind ≡ Write
  pub state : state_of args.0 args.1.0 args.1.1.0 args.1.1.1.0.now args.1.1.1.1.0.now args.1.1.1.1.1.0.now args.1.1.1.1.1.1.0.now args.1.1.1.1.1.1.1.0.now ≡ x.state
  pub target : args.1.1.1.1.1.1.1.1.0 ≡ a.target
  pub offset : args.1.1.1.1.1.1.1.1.1.0 ≡ a.offset
  pub enables : args.1.1.1.1.1.1.1.1.1.1.0 ≡ a.enables
  pub word : args.1.1.1.1.1.1.1.1.1.1.1.0 ≡ a.word
  pub memory : args.1.1.1.1.1.1.1.1.1.1.1.1.0.now ≡ x.memory
  pub picture : args.1.1.1.1.1.1.1.1.1.1.1.1.1.0.now ≡ x.picture
  pub answer : r ≡ wrote y.state result
  pub state_left : y.state ≡ state_of args.0 args.1.0 args.1.1.0 exit.1.1.1.0.now exit.1.1.1.1.0.now exit.1.1.1.1.1.0.now exit.1.1.1.1.1.1.0.now exit.1.1.1.1.1.1.1.0.now
  pub memory_left : y.memory ≡ exit.1.1.1.1.1.1.1.1.1.1.1.1.0.now
  pub picture_left : y.picture ≡ exit.1.1.1.1.1.1.1.1.1.1.1.1.1.0.now

pub data SureCalled (x : World) (a : Access) (r : Answer) (y : World) : Type 1 where
  of_sure_read : SureReadCalled x a r y → SureCalled x a r y
  of_sure_write : SureWriteCalled x a r y → SureCalled x a r y
  of_tested : Called x a r y → SureCalled x a r y

-- one after the other, each handed what the one before left
pub data SureCalls : World → List Access → List Answer → World → Type 1 where
  none : (x : World) → SureCalls x [] [] x
  more : (x : World) (a : Access) (r : Answer) (y : World) (l : List Access) (rs : List Answer) (z : World) → SureCalled x a r y → SureCalls y l rs z → SureCalls x (a ∷ l) (r ∷ rs) z
