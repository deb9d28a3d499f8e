-- A run over a list of accesses after one test of the state: what it leaves, and its answers.
use Rattle.std.specs.Prelude.{ℕ, zero, suc, ◌+◌, ◌*◌, ◌/◌, ◌%◌, Bool, ◌&&◌, List, ◌≡◌, eqb, get_or, set, length}
use Rattle.bits.specs.Choose.{pick}
use Rattle.chip.specs.declared.State.{State}
use Rattle.chip.specs.declared.Access.{Access}
use Rattle.chip.specs.declared.Answer.{Answer}
use Rattle.chip.specs.Access.{reads, writes}
use Rattle.chip.specs.Sound.{is_state}
use Rattle.chip.specs.Step.{Outcome, surely_of}
use Rattle.chip.specs.Trace.{World}

-- access k: target, offset, 0 for a read, enables, word
abbrev pub access_at : List ℕ → ℕ → Access
access_at l k =
    pick (eqb (get_or l (5 * k + 2) 0) 0) (reads (get_or l (5 * k) 0) (get_or l (5 * k + 1) 0) (get_or l (5 * k + 3) 0))
    (writes (get_or l (5 * k) 0) (get_or l (5 * k + 1) 0) (get_or l (5 * k + 3) 0) (get_or l (5 * k + 4) 0))

abbrev pub world_of : State → List ℕ → List ℕ → World
world_of s m p = record { state = s; memory = m; picture = p }

-- its outcome without refusal 1's test, and what it leaves
abbrev pub outcome_at : World → List ℕ → ℕ → Outcome
outcome_at x l k = surely_of x.state x.memory x.picture (access_at l k)

abbrev pub left_by : Outcome → World
left_by o = record { state = o.answer.state; memory = o.memory; picture = o.picture }

-- the answer of access k of n in its four places
abbrev pub put_answer : (n k status word known changed : ℕ) → List ℕ → List ℕ
put_answer n k a b c d l = set (set (set (set l k a) (n + k) b) (2 * n + k) c) (3 * n + k) d

abbrev pub answered : (n k : ℕ) → Answer → List ℕ → List ℕ
answered n k r l = put_answer n k r.status r.word r.known r.changed l

-- after k accesses
abbrev pub world_to : World → List ℕ → ℕ → World
world_to x l zero = x
world_to x l (suc k) = left_by (outcome_at (world_to x l k) l k)

abbrev pub answers_to : World → List ℕ → (n : ℕ) → List ℕ → ℕ → List ℕ
answers_to x l n o zero = o
answers_to x l n o (suc k) = answered n k (outcome_at (world_to x l k) l k).answer (answers_to x l n o k)

-- one access
pub record Ones (s : State) (m p l : List ℕ) (n k : ℕ) (o : List ℕ) (s' : State) (m' p' o' : List ℕ) : Type 0 where
  pub world : world_of s' m' p' ≡ left_by (outcome_at (world_of s m p) l k)
  pub answers : o' ≡ answered n k (outcome_at (world_of s m p) l k).answer o

-- whole accesses, and room for exactly their answers
unfoldable pub list_fits : ℕ → ℕ → Bool
list_fits n o = eqb n (5 * (n / 5)) && (eqb (o / 4) (n / 5) && eqb (o % 4) 0)

unfoldable pub run_status : State → ℕ → ℕ → ℕ
run_status s n o = pick (is_state s) (pick (list_fits n o) 0 2) 1

pub record Runs (s : State) (m p l o : List ℕ) (r : ℕ) (s' : State) (m' p' o' : List ℕ) : Type 0 where
  pub status : r ≡ run_status s (length l) (length o)
  pub world : world_of s' m' p' ≡ pick (eqb r 0) (world_to (world_of s m p) l (length l / 5)) (world_of s m p)
  pub answers : o' ≡ pick (eqb r 0) (answers_to (world_of s m p) l (length l / 5) o (length l / 5)) o
