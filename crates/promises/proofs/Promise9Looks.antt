-- Promise 9 (02, C-12). A look gives a read's answer and alters nothing: the read that follows it answers the same, and a list of reads, writes and looks leaves,
-- and answers its reads and writes, as that list without its looks. On any world. From the laws of Looks. Assumes nothing.
use Prim.Native.Nat.{ℕ}
use mathlib.Core.Bool.{true}
use mathlib.Core.List.{List, [], ◌∷◌, ◌++◌}
use mathlib.Core.Path.{◌≡◌, refl, sym, ap, ◌∙◌, subst}
use Rattle.bits.specs.Choose.{every_in}
use Rattle.bits.proofs.Cases.{by_test}
use Rattle.chip.specs.declared.Access.{Access}
use Rattle.chip.specs.declared.Answer.{Answer}
use Rattle.chip.specs.declared.Reply.{Reply}
use Rattle.chip.specs.declared.Wrote.{Wrote}
use Rattle.chip.specs.declared.State.{State}
use Rattle.chip.specs.declared.Kind.TheVariants.{Read, Write, Look}
use Rattle.chip.specs.Access.{reads, writes, looks, looking, is_look}
use Rattle.chip.specs.Parts.{replied, wrote}
use Rattle.chip.specs.Trace.{World, step, after, run}
use Rattle.chip.proofs.Operations.{look_is, no_look_is, no_write_is, read_writes_not, look_writes_not}
use Rattle.promises.specs.Looks.{Asks, SameAsked, SameShown, unlooked, answers_of, others_in}
use Rattle.promises.proofs.Address.{run_append}
use Rattle.promises.proofs.Looks.{unchanged, shown_alike, done_alike, look_leaves, looks_leave, answers_append, runs_alike, others_alike}

-- the words that the contracts ask with: the numbers handed in, as they are
pub reads_mean : (t o e : ℕ) → Asks (reads t o e) Read t o e
reads_mean t o e = record { kind = refl; target = refl; offset = refl; enables = refl }

pub writes_mean : (t o e w : ℕ) → Asks (writes t o e w) Write t o e × ((writes t o e w).word ≡ w)
writes_mean t o e w = (record { kind = refl; target = refl; offset = refl; enables = refl }, refl)

pub looks_mean : (t o e : ℕ) → Asks (looks t o e) Look t o e
looks_mean t o e = record { kind = refl; target = refl; offset = refl; enables = refl }

-- .. and what the replies mean as answers: a read's or a look's with the state that it leaves and no dot changed, a write's with nothing seen
pub reply_means : (s : State) (r : Reply)
    → ((replied s r).status ≡ r.status) × ((replied s r).word ≡ r.word) × ((replied s r).known ≡ r.known) × ((replied s r).changed ≡ 0) × ((replied s r).state ≡ s)
reply_means s r = (refl, refl, refl, refl, refl)

pub wrote_means : (s : State) (r : Wrote) → ((wrote s r).status ≡ r.status) × ((wrote s r).word ≡ 0) × ((wrote s r).known ≡ 0) × ((wrote s r).changed ≡ r.changed) × ((wrote s r).state ≡ s)
wrote_means s r = (refl, refl, refl, refl, refl)

-- a look, accepted or refused, leaves state, memory and picture as they were, and no dot changes
pub look_alters_nothing : (x : World) (a : Access) → a.kind ≡ Look → (after x a ≡ x) × ((step x a).answer.changed ≡ 0)
look_alters_nothing x a k = (look_leaves x a (look_is a k), unchanged x a (look_writes_not a (look_is a k)))

-- at the same world a look and a read have the same status, word, known mask and changed count: the look has exactly the read's refusals
pub look_as_read : (x : World) (l r : Access) → SameAsked l r → SameShown (step x l).answer (step x r).answer
look_as_read x l r s =
    shown_alike x r l (read_writes_not r s.read) (look_writes_not l (look_is l s.look)) (sym s.target) (sym s.offset) (sym s.enables)

-- a read after a look answers what the look showed
pub read_after_look : (x : World) (l r : Access) → SameAsked l r → SameShown (step x l).answer (step (after x l) r).answer
read_after_look x l r s =
    subst (λ (y : World). SameShown (step x l).answer (step y r).answer) (sym (look_leaves x l (look_is l s.look))) (look_as_read x l r s)

-- looks put anywhere into a list: it leaves what it left, and the accesses before and after them answer as if they were not there
pub looks_inserted : (x : World) (k n l : List Access) → every_in is_look n ≡ true
    → (run x (k ++ (n ++ l)) ≡ run x (k ++ l))
    × (answers_of x (k ++ (n ++ l)) ≡ answers_of x k ++ (answers_of (run x k) n ++ answers_of (run x k) l))
    × (answers_of x (k ++ l) ≡ answers_of x k ++ answers_of (run x k) l)
looks_inserted x k n l e =
    let s = looks_leave (run x k) n e in (
      run_append x k (n ++ l) ∙ run_append (run x k) n l ∙ ap (λ (y : World). run y l) s ∙ sym (run_append x k l),
      answers_append x k (n ++ l)
          ∙ ap (λ (r : List Answer). answers_of x k ++ r) (answers_append (run x k) n l ∙ ap (λ (y : World). answers_of (run x k) n ++ answers_of y l) s),
      answers_append x k l,
    )

-- a list with its looks left out: each look is, and nothing else
pub unlooked_means : (a : Access) → (a.kind ≡ Look → unlooked (a ∷ []) ≡ []) × ((a.kind ≡ Look → ⊥) → unlooked (a ∷ []) ≡ a ∷ [])
unlooked_means a = (λ k. simp (look_is a k), λ k. simp (no_look_is a k))

pub unlooked_parts : (k l : List Access) → unlooked (k ++ l) ≡ unlooked k ++ unlooked l
unlooked_parts [] l = refl
unlooked_parts (a ∷ k) l =
    by_test (is_look a) (λ e. simp e (unlooked_parts k l)) (λ e. simp e (ap (λ (r : List Access). a ∷ r) (unlooked_parts k l)))

-- the whole list leaves what it leaves without them, and of its answers those to reads and writes are the answers that it gives without them
pub looks_change_nothing : (x : World) (l : List Access) → (run x l ≡ run x (unlooked l)) × (others_in l (answers_of x l) ≡ answers_of x (unlooked l))
looks_change_nothing x l = (runs_alike x l, others_alike x l)

-- so two lists with the same reads and writes leave the same, and these answer the same
pub looks_anywhere : (x : World) (l k : List Access) → unlooked l ≡ unlooked k → (run x l ≡ run x k) × (others_in l (answers_of x l) ≡ others_in k (answers_of x k))
looks_anywhere x l k e = (
  runs_alike x l ∙ ap (run x) e ∙ sym (runs_alike x k),
  others_alike x l ∙ ap (answers_of x) e ∙ sym (others_alike x k),
)

-- a read and a look have no word: nothing depends on it
pub word_unasked : (x : World) (a b : Access) → (a.kind ≡ Write → ⊥) → b.kind ≡ a.kind → b.target ≡ a.target → b.offset ≡ a.offset → b.enables ≡ a.enables
    → step x b ≡ step x a
unfolding is_look
word_unasked x a b n k t o e =
    done_alike x a b (no_write_is a n) (no_write_is b (λ w. n (sym k ∙ w))) t o e (ap looking k)
