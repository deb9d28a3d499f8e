-- Explain's lines are the trace's and those that begin with l: a line of a trace never asks for a look, and what does not begin with l asks explain for what it asks a trace for.
-- The operation goes from field to field as its letter has it. Assumes nothing.
use Prim.Native.Nat.{ℕ}
use mathlib.Core.Bool.{Bool, true, false}
use mathlib.Core.List.{List, [], ◌∷◌}
use mathlib.Core.Path.{◌≡◌, refl, sym, ap, subst}
use borrow.Author.Tests.{ne_eqb}
use native.Mathlib.Omega.{arith}
use lib.Dec.{eqb, ltb}
use lib.ListN.{length}
use Rattle.bits.specs.Choose.{pick}
use Rattle.bits.proofs.Cases.{by_test}
use Rattle.chip.specs.declared.Access.{Access}
use Rattle.chip.specs.declared.Kind.{Kind}
use Rattle.chip.specs.declared.Kind.TheVariants.{Read, Write, Look}
use Rattle.chip.specs.Access.{writing}
use Rattle.std.specs.Prelude.{Option, Some, None, option_and_then}
use Rattle.text.specs.Line.{is_number, spelled, target_in, fields_of, longer, word_next, enables_next, offset_next, target_next, kind_next, kind_first, line_of}
use Rattle.text.proofs.FieldLaws.{fields_hit, fields_miss}

-- nothing is asked for, or an access whose kind has P
data Kept (P : Kind → Type 0) : Option Access → Type 0 where
  bad : Kept P None
  asks : (a : Access) → P a.kind → Kept P (Some a)

kept_for : (P : Kind → Type 0) (q : Option Access) (a : Access) → Kept P q → q ≡ Some a → P a.kind
kept_for P None a bad e = let z : ◌≡◌ {A = ℕ} 0 1 = cc in absurd (omega arith)
kept_for P (Some b) a (asks d p) e = let s : b ≡ a = cc in subst (λ (c : Access). P c.kind) s p

module _ (P : Kind → Type 0) where
  either : (t : Bool) (p q : Option Access) → Kept P p → Kept P q → Kept P (pick t p q)
  either true p q x y = x
  either false p q x y = y

  module _ (k : Kind) (h : P k) where
    word_kept : (t o e : ℕ) (fs : List (List ℕ)) → Kept P (word_next k t o e fs)
    unfolding word_next
    word_kept t o e [] = either (writing k) _ _ bad (asks (record { target = t; offset = o; kind = k; enables = e; word = 0 }) h)
    word_kept t o e (v ∷ []) =
        either (writing k) _ _ (either (is_number 16 v) _ _ (asks (record { target = t; offset = o; kind = k; enables = e; word = spelled 16 0 v }) h) bad) bad
    word_kept t o e (v ∷ x ∷ fs) = bad

    enables_kept : (t o : ℕ) (fs : List (List ℕ)) → Kept P (enables_next k t o fs)
    unfolding enables_next
    enables_kept t o [] = bad
    enables_kept t o (e ∷ fs) = either (is_number 16 e) _ _ (word_kept t o _ fs) bad

    offset_kept : (t : ℕ) (fs : List (List ℕ)) → Kept P (offset_next k t fs)
    unfolding offset_next
    offset_kept t [] = bad
    offset_kept t (o ∷ fs) = either (is_number 16 o) _ _ (enables_kept t _ fs) bad

    target_kept : (fs : List (List ℕ)) → Kept P (target_next k fs)
    unfolding target_next
    target_kept [] = bad
    target_kept (t ∷ fs) = then_kept (target_in t)
      where
        then_kept : (n : Option ℕ) → Kept P (option_and_then (λ n. offset_next k n fs) n)
        then_kept None = bad
        then_kept (Some n) = offset_kept n fs

  module _ (r : P Read) (w : P Write) where
    kind_kept : (fs : List (List ℕ)) → Kept P (kind_first false fs)
    unfolding kind_first kind_next
    kind_kept [] = bad
    kind_kept ([] ∷ fs) = bad
    kind_kept ((c ∷ []) ∷ fs) = either (eqb c 114) _ _ (target_kept Read r fs) (either (eqb c 119) _ _ (target_kept Write w fs) bad)
    kind_kept ((c ∷ d ∷ f) ∷ fs) = bad

    line_kept : (l : List ℕ) → Kept P (line_of false l)
    unfolding line_of
    line_kept l = either (ltb 64 (length l)) _ _ bad (kind_kept (fields_of l))

-- a line of a trace is no look
pub trace_looks_not : (l : List ℕ) (a : Access) → line_of false l ≡ Some a → a.kind ≡ Look → ⊥
trace_looks_not l a e =
    kept_for (λ k. (k ≡ Look → ⊥)) (line_of false l) a (line_kept (λ k. (k ≡ Look → ⊥)) (λ q. read_not q) (λ q. write_not q) l) e
  where
    read_not : Read ≡ Look → ⊥
    read_not q = let z : ◌≡◌ {A = ℕ} 0 1 = cc in omega arith

    write_not : Write ≡ Look → ⊥
    write_not q = let z : ◌≡◌ {A = ℕ} 0 1 = cc in omega arith

-- ---- the letter

module _ (c : ℕ) (n : c ≡ 108 → ⊥) where
  same_next : (fs : List (List ℕ)) → kind_next true c fs ≡ kind_next false c fs
  unfolding kind_next
  same_next fs = simp (ne_eqb c 108 n)

  same_front : (k : List (List ℕ)) → kind_first true (longer c k) ≡ kind_first false (longer c k)
  unfolding kind_first
  same_front [] = same_next []
  same_front ([] ∷ fs) = same_next fs
  same_front ((d ∷ f) ∷ fs) = refl

  same_empty : (fs : List (List ℕ)) → kind_first true ([] ∷ fs) ≡ kind_first false ([] ∷ fs)
  unfolding kind_first
  same_empty fs = refl

  same_kind : (l : List ℕ) → kind_first true (fields_of (c ∷ l)) ≡ kind_first false (fields_of (c ∷ l))
  same_kind l =
      by_test (eqb c 32)
      (λ t. subst (λ (k : List (List ℕ)). kind_first true k ≡ kind_first false k) (sym (fields_hit c l t)) (same_empty (fields_of l)))
      (λ t. subst (λ (k : List (List ℕ)). kind_first true k ≡ kind_first false k) (sym (fields_miss c l t)) (same_front (fields_of l)))

  -- what does not begin with l asks explain for what it asks a trace for
  pub other_lines_alike : (l : List ℕ) → line_of true (c ∷ l) ≡ line_of false (c ∷ l)
  unfolding line_of
  other_lines_alike l = ap (pick (ltb 64 (length (c ∷ l))) None) (same_kind l)
