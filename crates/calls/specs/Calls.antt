-- Calls of `open`, `read`, `write` and `look`, by value and in place, as the prover reads their contracts: what they are handed, what they answer and what they leave.
use Rattle.std.specs.Prelude.{ℕ, List, [], ◌∷◌, ◌≡◌}
use contract.Lifetimes.{Lfts}
use denote.Triple.Clauses.{AtExit}
use borrow.Fn.Kinds as kinds
use borrow.Fn.World.{ArgsD, ResD}
use Rattle.chip.specs.declared.Access.{Access}
use Rattle.chip.specs.declared.Answer.{Answer}
use Rattle.chip.specs.declared.Opened.{Opened}
use Rattle.chip.specs.declared.Kind.TheVariants.{Read, Write, Look}
use Rattle.chip.specs.Parts.{state_of, replied, wrote, opened}
use Rattle.chip.specs.Trace.{World}
use Rattle.model.specs.contracts.read.read as reading
use Rattle.model.proofs.read.read.Reads as reading-reads
use Rattle.model.proofs.read.read.Kinds as reading-kinds
use Rattle.model.specs.contracts.write.write as writing
use Rattle.model.proofs.write.write.Reads as writing-reads
use Rattle.model.proofs.write.write.Kinds as writing-kinds
use Rattle.model.specs.contracts.look.look as looking
use Rattle.model.proofs.look.look.Reads as looking-reads
use Rattle.model.proofs.look.look.Kinds as looking-kinds
use Rattle.model.specs.contracts.open.open as opening
use Rattle.model.proofs.open.open.Reads as opening-reads
use Rattle.model.proofs.open.open.Kinds as opening-kinds
use Rattle.model.specs.contracts.lent.read as lent-reading
use Rattle.model.proofs.lent.read.Reads as lent-reading-reads
use Rattle.model.proofs.lent.read.Kinds as lent-reading-kinds
use Rattle.model.specs.contracts.lent.write as lent-writing
use Rattle.model.proofs.lent.write.Reads as lent-writing-reads
use Rattle.model.proofs.lent.write.Kinds as lent-writing-kinds
use Rattle.model.specs.contracts.lent.look as lent-looking
use Rattle.model.proofs.lent.look.Reads as lent-looking-reads
use Rattle.model.proofs.lent.look.Kinds as lent-looking-kinds
use Rattle.model.specs.contracts.lent.open as lent-opening
use Rattle.model.proofs.lent.open.Reads as lent-opening-reads
use Rattle.model.proofs.lent.open.Kinds as lent-opening-kinds

-- a call of `read` at world x with access a, which answers r and leaves world y. Memory and picture are lent to be read, so that y has those of x
pub record ReadCalled (x : World) (a : Access) (r : Answer) (y : World) : Type 1 where
  pub lifetimes : Lfts 1
  pub args : ArgsD reading.signature lifetimes
  pub result : ResD reading.signature lifetimes
  pub exit : AtExit (kinds.ended_of 1 reading-kinds.ps reading-kinds.r) lifetimes
  pub post : reading-reads.Post lifetimes args result exit
  pub kind : a.kind ≡ Read
  pub state : args.0 ≡ x.state
  pub target : args.1.0 ≡ a.target
  pub offset : args.1.1.0 ≡ a.offset
  pub enables : args.1.1.1.0 ≡ a.enables
  pub memory : args.1.1.1.1.0.now ≡ x.memory
  pub picture : args.1.1.1.1.1.0.now ≡ x.picture
  pub answer : result ≡ r
  pub state_left : y.state ≡ r.state
  pub memory_left : y.memory ≡ x.memory
  pub picture_left : y.picture ≡ x.picture

-- the same of `write`, which is lent memory and picture to be altered
pub record WriteCalled (x : World) (a : Access) (r : Answer) (y : World) : Type 1 where
  pub lifetimes : Lfts 2
  pub args : ArgsD writing.signature lifetimes
  pub result : ResD writing.signature lifetimes
  pub exit : AtExit (kinds.ended_of 2 writing-kinds.ps writing-kinds.r) lifetimes
  pub post : writing-reads.Post lifetimes args result exit
  pub kind : a.kind ≡ Write
  pub state : args.0 ≡ x.state
  pub target : args.1.0 ≡ a.target
  pub offset : args.1.1.0 ≡ a.offset
  pub enables : args.1.1.1.0 ≡ a.enables
  pub word : args.1.1.1.1.0 ≡ a.word
  pub memory : args.1.1.1.1.1.0.now ≡ x.memory
  pub picture : args.1.1.1.1.1.1.0.now ≡ x.picture
  pub answer : result ≡ r
  pub state_left : y.state ≡ r.state
  pub memory_left : y.memory ≡ exit.1.1.1.1.1.0.now
  pub picture_left : y.picture ≡ exit.1.1.1.1.1.1.0.now

-- and of `look`, which is lent nothing that it could alter and gives back no state: r is what it shows, with the state that it was handed, and what it leaves is x
pub record LookCalled (x : World) (a : Access) (r : Answer) (y : World) : Type 1 where
  pub lifetimes : Lfts 1
  pub args : ArgsD looking.signature lifetimes
  pub result : ResD looking.signature lifetimes
  pub exit : AtExit (kinds.ended_of 1 looking-kinds.ps looking-kinds.r) lifetimes
  pub post : looking-reads.Post lifetimes args result exit
  pub kind : a.kind ≡ Look
  pub state : args.0 ≡ x.state
  pub target : args.1.0 ≡ a.target
  pub offset : args.1.1.0 ≡ a.offset
  pub enables : args.1.1.1.0 ≡ a.enables
  pub memory : args.1.1.1.1.0.now ≡ x.memory
  pub picture : args.1.1.1.1.1.0.now ≡ x.picture
  pub answer : r ≡ replied x.state result
  pub left : y ≡ x

-- ---- in place: the state's parts are lent one by one, and the state is what they are put together

-- `model::lent::read`: lent to be altered are the bank's values and the RAMDAC; what it leaves has those as they are at exit
pub record LentReadCalled (x : World) (a : Access) (r : Answer) (y : World) : Type 1 where
  pub lifetimes : Lfts 3
  pub args : ArgsD lent-reading.signature lifetimes
  pub result : ResD lent-reading.signature lifetimes
  pub exit : AtExit (kinds.ended_of 3 lent-reading-kinds.ps lent-reading-kinds.r) lifetimes
  pub post : lent-reading-reads.Post lifetimes args result exit
  pub kind : a.kind ≡ Read
  pub state : state_of args.0 args.1.0 args.1.1.0 args.1.1.1.0 args.1.1.1.1.0.now args.1.1.1.1.1.0.now args.1.1.1.1.1.1.0.now args.1.1.1.1.1.1.1.0.now ≡ x.state
  pub target : args.1.1.1.1.1.1.1.1.0 ≡ a.target
  pub offset : args.1.1.1.1.1.1.1.1.1.0 ≡ a.offset
  pub enables : args.1.1.1.1.1.1.1.1.1.1.0 ≡ a.enables
  pub memory : args.1.1.1.1.1.1.1.1.1.1.1.0.now ≡ x.memory
  pub picture : args.1.1.1.1.1.1.1.1.1.1.1.1.0.now ≡ x.picture
  pub answer : r ≡ replied y.state result
  pub state_left : y.state ≡ state_of args.0 args.1.0 args.1.1.0 args.1.1.1.0 exit.1.1.1.1.0.now args.1.1.1.1.1.0.now args.1.1.1.1.1.1.0.now exit.1.1.1.1.1.1.1.0.now
  pub memory_left : y.memory ≡ x.memory
  pub picture_left : y.picture ≡ x.picture

-- `model::lent::write`
pub record LentWriteCalled (x : World) (a : Access) (r : Answer) (y : World) : Type 1 where
  pub lifetimes : Lfts 7
  pub args : ArgsD lent-writing.signature lifetimes
  pub result : ResD lent-writing.signature lifetimes
  pub exit : AtExit (kinds.ended_of 7 lent-writing-kinds.ps lent-writing-kinds.r) lifetimes
  pub post : lent-writing-reads.Post lifetimes args result exit
  pub kind : a.kind ≡ Write
  pub state : state_of args.0 args.1.0 args.1.1.0 args.1.1.1.0.now args.1.1.1.1.0.now args.1.1.1.1.1.0.now args.1.1.1.1.1.1.0.now args.1.1.1.1.1.1.1.0.now ≡ x.state
  pub target : args.1.1.1.1.1.1.1.1.0 ≡ a.target
  pub offset : args.1.1.1.1.1.1.1.1.1.0 ≡ a.offset
  pub enables : args.1.1.1.1.1.1.1.1.1.1.0 ≡ a.enables
  pub word : args.1.1.1.1.1.1.1.1.1.1.1.0 ≡ a.word
  pub memory : args.1.1.1.1.1.1.1.1.1.1.1.1.0.now ≡ x.memory
  pub picture : args.1.1.1.1.1.1.1.1.1.1.1.1.1.0.now ≡ x.picture
  pub answer : r ≡ wrote y.state result
  pub state_left : y.state ≡ state_of args.0 args.1.0 args.1.1.0 exit.1.1.1.0.now exit.1.1.1.1.0.now exit.1.1.1.1.1.0.now exit.1.1.1.1.1.1.0.now exit.1.1.1.1.1.1.1.0.now
  pub memory_left : y.memory ≡ exit.1.1.1.1.1.1.1.1.1.1.1.1.0.now
  pub picture_left : y.picture ≡ exit.1.1.1.1.1.1.1.1.1.1.1.1.1.0.now

-- `model::lent::look`, which is lent nothing that it could alter
pub record LentLookCalled (x : World) (a : Access) (r : Answer) (y : World) : Type 1 where
  pub lifetimes : Lfts 1
  pub args : ArgsD lent-looking.signature lifetimes
  pub result : ResD lent-looking.signature lifetimes
  pub exit : AtExit (kinds.ended_of 1 lent-looking-kinds.ps lent-looking-kinds.r) lifetimes
  pub post : lent-looking-reads.Post lifetimes args result exit
  pub kind : a.kind ≡ Look
  pub state : state_of args.0 args.1.0 args.1.1.0 args.1.1.1.0 args.1.1.1.1.0.now args.1.1.1.1.1.0.now args.1.1.1.1.1.1.0.now args.1.1.1.1.1.1.1.0.now ≡ x.state
  pub target : args.1.1.1.1.1.1.1.1.0 ≡ a.target
  pub offset : args.1.1.1.1.1.1.1.1.1.0 ≡ a.offset
  pub enables : args.1.1.1.1.1.1.1.1.1.1.0 ≡ a.enables
  pub memory : args.1.1.1.1.1.1.1.1.1.1.1.0.now ≡ x.memory
  pub picture : args.1.1.1.1.1.1.1.1.1.1.1.1.0.now ≡ x.picture
  pub answer : r ≡ replied x.state result
  pub left : y ≡ x

-- a call with access a: of the function that a asks for, by value or in place
pub data Called (x : World) (a : Access) (r : Answer) (y : World) : Type 1 where
  of_read : ReadCalled x a r y → Called x a r y
  of_write : WriteCalled x a r y → Called x a r y
  of_look : LookCalled x a r y → Called x a r y
  of_lent_read : LentReadCalled x a r y → Called x a r y
  of_lent_write : LentWriteCalled x a r y → Called x a r y
  of_lent_look : LentLookCalled x a r y → Called x a r y

-- a call of `open` with w by h dots, memory m and picture p, which answers r and leaves world y
pub record ValueOpenCalled (w h : ℕ) (m p : List ℕ) (r : Opened) (y : World) : Type 1 where
  pub lifetimes : Lfts 2
  pub args : ArgsD opening.signature lifetimes
  pub result : ResD opening.signature lifetimes
  pub exit : AtExit (kinds.ended_of 2 opening-kinds.ps opening-kinds.r) lifetimes
  pub post : opening-reads.Post lifetimes args result exit
  pub width : args.0 ≡ w
  pub height : args.1.0 ≡ h
  pub memory : args.1.1.0.now ≡ m
  pub picture : args.1.1.1.0.now ≡ p
  pub answer : result ≡ r
  pub state_left : y.state ≡ r.state
  pub memory_left : y.memory ≡ exit.1.1.0.now
  pub picture_left : y.picture ≡ exit.1.1.1.0.now

-- the same of `model::lent::open`: what it leaves are the parts, whatever stood in them
pub record LentOpenCalled (w h : ℕ) (m p : List ℕ) (r : Opened) (y : World) : Type 1 where
  pub lifetimes : Lfts 10
  pub args : ArgsD lent-opening.signature lifetimes
  pub result : ResD lent-opening.signature lifetimes
  pub exit : AtExit (kinds.ended_of 10 lent-opening-kinds.ps lent-opening-kinds.r) lifetimes
  pub post : lent-opening-reads.Post lifetimes args result exit
  pub width : args.1.1.1.1.1.1.1.1.0 ≡ w
  pub height : args.1.1.1.1.1.1.1.1.1.0 ≡ h
  pub memory : args.1.1.1.1.1.1.1.1.1.1.0.now ≡ m
  pub picture : args.1.1.1.1.1.1.1.1.1.1.1.0.now ≡ p
  pub answer : r ≡ opened y.state result
  pub state_left : y.state ≡ state_of exit.0.now exit.1.0.now exit.1.1.0.now exit.1.1.1.0.now exit.1.1.1.1.0.now exit.1.1.1.1.1.0.now exit.1.1.1.1.1.1.0.now exit.1.1.1.1.1.1.1.0.now
  pub memory_left : y.memory ≡ exit.1.1.1.1.1.1.1.1.1.1.0.now
  pub picture_left : y.picture ≡ exit.1.1.1.1.1.1.1.1.1.1.1.0.now

-- an opening, by value or in place
pub data OpenCalled (w h : ℕ) (m p : List ℕ) (r : Opened) (y : World) : Type 1 where
  of_open : ValueOpenCalled w h m p r y → OpenCalled w h m p r y
  of_lent_open : LentOpenCalled w h m p r y → OpenCalled w h m p r y

-- calls one after the other, each handed what the one before left: nobody else alters state, memory or picture
pub data Calls : World → List Access → List Answer → World → Type 1 where
  none : (x : World) → Calls x [] [] x
  more : (x : World) (a : Access) (r : Answer) (y : World) (l : List Access) (rs : List Answer) (z : World) → Called x a r y → Calls y l rs z → Calls x (a ∷ l) (r ∷ rs) z
