-- Promise 11 of calls: on a good world a call of `sure_read` or `sure_write` is a call of `read` or `write` in place, and the other way round; so calls of either kind, in any mixture along
-- any list, are calls of which Promise 8 speaks. The contracts differ by refusal 1's test, which a good world's state passes. Assumes nothing.
use Prim.Native.Nat.{ℕ}
use mathlib.Core.List.{List, [], ◌∷◌}
use mathlib.Core.Logic.{◌↔◌}
use mathlib.Core.Path.{◌≡◌, sym, ap, ◌∙◌, subst}
use Rattle.chip.specs.declared.State.{State}
use Rattle.chip.specs.declared.Access.{Access}
use Rattle.chip.specs.declared.Answer.{Answer}
use Rattle.chip.specs.Sound.{is_state}
use Rattle.chip.specs.Step.{Outcome, Gives, step_of, surely_of}
use Rattle.chip.specs.Trace.{World}
use Rattle.chip.proofs.Sure.{surely_step_lem}
use Rattle.promises.specs.Good.{Good}
use Rattle.calls.specs.Calls as tested
use Rattle.model.proofs.lent.read.Reads as lent-reading-reads
use Rattle.model.proofs.lent.write.Reads as lent-writing-reads
use Rattle.model.proofs.sure.sure_read.Reads as sure-reading-reads
use Rattle.model.proofs.sure.sure_write.Reads as sure-writing-reads
use Rattle.calls.specs.Calls.{LentReadCalled, LentWriteCalled, Called, of_lent_read, of_lent_write, Calls}
use Rattle.calls.specs.Sure.{SureReadCalled, SureWriteCalled, SureCalled, of_sure_read, of_sure_write, of_tested, SureCalls, none, more}
use Rattle.calls.proofs.Promise8Code.{call_good}

-- ---- the same call, by another contract

read_tested : (x : World) (a : Access) (r : Answer) (y : World) (c : SureReadCalled x a r y) → lent-reading-reads.Post c.lifetimes c.args c.result c.exit → LentReadCalled x a r y
read_tested x a r y c q =
    record {
      lifetimes = c.lifetimes;
      args = c.args;
      result = c.result;
      exit = c.exit;
      post = q;
      kind = c.kind;
      state = c.state;
      target = c.target;
      offset = c.offset;
      enables = c.enables;
      memory = c.memory;
      picture = c.picture;
      answer = c.answer;
      state_left = c.state_left;
      memory_left = c.memory_left;
      picture_left = c.picture_left;
    }

read_untested : (x : World) (a : Access) (r : Answer) (y : World) (c : LentReadCalled x a r y) → sure-reading-reads.Post c.lifetimes c.args c.result c.exit → SureReadCalled x a r y
read_untested x a r y c q =
    record {
      lifetimes = c.lifetimes;
      args = c.args;
      result = c.result;
      exit = c.exit;
      post = q;
      kind = c.kind;
      state = c.state;
      target = c.target;
      offset = c.offset;
      enables = c.enables;
      memory = c.memory;
      picture = c.picture;
      answer = c.answer;
      state_left = c.state_left;
      memory_left = c.memory_left;
      picture_left = c.picture_left;
    }

write_tested : (x : World) (a : Access) (r : Answer) (y : World) (c : SureWriteCalled x a r y) → lent-writing-reads.Post c.lifetimes c.args c.result c.exit → LentWriteCalled x a r y
write_tested x a r y c q =
    record {
      lifetimes = c.lifetimes;
      args = c.args;
      result = c.result;
      exit = c.exit;
      post = q;
      kind = c.kind;
      state = c.state;
      target = c.target;
      offset = c.offset;
      enables = c.enables;
      word = c.word;
      memory = c.memory;
      picture = c.picture;
      answer = c.answer;
      state_left = c.state_left;
      memory_left = c.memory_left;
      picture_left = c.picture_left;
    }

write_untested : (x : World) (a : Access) (r : Answer) (y : World) (c : LentWriteCalled x a r y) → sure-writing-reads.Post c.lifetimes c.args c.result c.exit → SureWriteCalled x a r y
write_untested x a r y c q =
    record {
      lifetimes = c.lifetimes;
      args = c.args;
      result = c.result;
      exit = c.exit;
      post = q;
      kind = c.kind;
      state = c.state;
      target = c.target;
      offset = c.offset;
      enables = c.enables;
      word = c.word;
      memory = c.memory;
      picture = c.picture;
      answer = c.answer;
      state_left = c.state_left;
      memory_left = c.memory_left;
      picture_left = c.picture_left;
    }

module _ (x : World) (g : Good x) where
  same : (s : State) (m p : List ℕ) (b : Access) → s ≡ x.state → step_of s m p b ≡ surely_of s m p b
  same s m p b e = surely_step_lem s m p b (ap is_state e ∙ g.state)

  with_test : (s : State) (m p : List ℕ) (b : Access) (r : Answer) (m' p' : List ℕ) → s ≡ x.state → Gives (surely_of s m p b) r m' p' → Gives (step_of s m p b) r m' p'
  with_test s m p b r m' p' e = subst (λ (o : Outcome). Gives o r m' p') (sym (same s m p b e))

  without_test : (s : State) (m p : List ℕ) (b : Access) (r : Answer) (m' p' : List ℕ) → s ≡ x.state → Gives (step_of s m p b) r m' p' → Gives (surely_of s m p b) r m' p'
  without_test s m p b r m' p' e = subst (λ (o : Outcome). Gives o r m' p') (same s m p b e)

  -- a call of one is a call of the other
  pub sure_read_call : (a : Access) (r : Answer) (y : World) → SureReadCalled x a r y ↔ LentReadCalled x a r y
  sure_read_call a r y =
      (λ c. read_tested x a r y c (with_test _ _ _ _ _ _ _ c.state c.post), λ c. read_untested x a r y c (without_test _ _ _ _ _ _ _ c.state c.post))

  pub sure_write_call : (a : Access) (r : Answer) (y : World) → SureWriteCalled x a r y ↔ LentWriteCalled x a r y
  sure_write_call a r y =
      (λ c. write_tested x a r y c (with_test _ _ _ _ _ _ _ c.state c.post), λ c. write_untested x a r y c (without_test _ _ _ _ _ _ _ c.state c.post))

  pub sure_call : (a : Access) (r : Answer) (y : World) → SureCalled x a r y → Called x a r y
  sure_call a r y (of_sure_read c) = of_lent_read ((sure_read_call a r y).0 c)
  sure_call a r y (of_sure_write c) = of_lent_write ((sure_write_call a r y).0 c)
  sure_call a r y (of_tested c) = c

-- so along every list, since a good world stays one
pub sure_calls : (x : World) (l : List Access) (rs : List Answer) (z : World) → Good x → SureCalls x l rs z → Calls x l rs z
sure_calls x [] [] z g (none y) = tested.none y
sure_calls x [] (r ∷ rs) z g c = elim c [ ]
sure_calls x (a ∷ l) [] z g c = elim c [ ]
sure_calls x (a ∷ l) (r ∷ rs) z g (more u b q y k qs v c d) =
    let e = sure_call x g a r y c in
    tested.more x a r y l rs z e (sure_calls y l rs z (call_good x a r y e g) d)
