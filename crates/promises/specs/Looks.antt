-- The three operations by their numbers; what a look shares with a read, and a list of accesses without its looks (02, C-12).
use Rattle.std.specs.Prelude.{ℕ, List, [], ◌∷◌, ◌≡◌}
use Rattle.bits.specs.Choose.{pick}
use Rattle.chip.specs.declared.Access.{Access}
use Rattle.chip.specs.declared.Answer.{Answer}
use Rattle.chip.specs.declared.Kind.{Kind}
use Rattle.chip.specs.declared.Kind.TheVariants.{Read, Look}
use Rattle.chip.specs.Access.{is_look}
use Rattle.chip.specs.Trace.{World, step, after}

-- an access that is the operation k, with these numbers
pub record Asks (a : Access) (k : Kind) (t o e : ℕ) : Type 0 where
  pub kind : a.kind ≡ k
  pub target : a.target ≡ t
  pub offset : a.offset ≡ o
  pub enables : a.enables ≡ e

-- a look and a read with the same target, offset and enables
pub record SameAsked (l r : Access) : Type 0 where
  pub look : l.kind ≡ Look
  pub read : r.kind ≡ Read
  pub target : r.target ≡ l.target
  pub offset : r.offset ≡ l.offset
  pub enables : r.enables ≡ l.enables

-- two answers alike in all but the state: status, word, known mask and changed count
pub record SameShown (a b : Answer) : Type 0 where
  pub status : a.status ≡ b.status
  pub word : a.word ≡ b.word
  pub known : a.known ≡ b.known
  pub changed : a.changed ≡ b.changed

-- a list with its looks left out
abbrev pub unlooked : List Access → List Access
unlooked [] = []
unlooked (a ∷ l) = pick (is_look a) (unlooked l) (a ∷ unlooked l)

-- every answer that a list gives, in order
abbrev pub answers_of : World → List Access → List Answer
answers_of x [] = []
answers_of x (a ∷ l) = (step x a).answer ∷ answers_of (after x a) l

-- of the answers to a list, those to its reads and writes
abbrev pub others_in : List Access → List Answer → List Answer
others_in [] rs = []
others_in (a ∷ l) [] = []
others_in (a ∷ l) (r ∷ rs) = pick (is_look a) (others_in l rs) (r ∷ others_in l rs)
