-- What a line asks for, field by field: the reader's steps against the definition.
-- By the fields of a line (FieldLaws) and by cases on what each step gave. Assumes nothing.
use Prim.Native.Nat.{ℕ, suc, ◌<◌, ◌≤◌}
use mathlib.Core.Bool.{Bool, true, false, ◌&&◌, and-false}
use mathlib.Core.List.{List, [], ◌∷◌}
use mathlib.Core.Path.{◌≡◌, refl, sym, ap, subst, ◌∙◌}
use native.Mathlib.Omega.{arith}
use borrow.Author.Tests.{lt-ltb, le-ltb, leb-true, leb-false, eqb-true}
use lib.Dec.{eqb, ltb, leb}
use lib.ListN.{length, get_or, drop}
use Rattle.std.specs.Prelude.{Option, Some, None, option_and_then, option_map, SomeIff}
use Rattle.std.specs.Char.{digit_value}
use Rattle.text.proofs.NumberLaws.{digit_is, digit_none}
use Rattle.bits.specs.Choose.{pick, every_in}
use Rattle.bits.proofs.Cases.{by_test, pick_by}
use Rattle.chip.specs.declared.Access.{Access}
use Rattle.chip.specs.declared.Kind.{Kind}
use Rattle.chip.specs.Access.{writing}
use Rattle.text.specs.Gather.{up_to}
use Rattle.text.specs.Line.{digit_of, is_digit, is_number, number_of, target_in, fields_of, longer, word_next, enables_next, offset_next, target_next, kind_next, kind_first, line_of}
use Rattle.text.proofs.FieldLaws.{up_to_le, up_to_miss, fields_none, fields_hit, fields_miss, fields_last, fields_more}

-- ---- the length

pub line_long : (l : List ℕ) (k : Bool) → 64 < length l → None ≡ line_of k l
unfolding line_of
line_long l k h = simp (lt-ltb 64 (length l) h)

pub line_short : (l : List ℕ) (k : Bool) → length l ≤ 64 → line_of k l ≡ kind_first k (fields_of l)
unfolding line_of
line_short l k h = simp (le-ltb 64 (length l) h)

-- ---- a line that ends too early

pub offset_alone : (k : Kind) (t : ℕ) (f : List ℕ) → offset_next k t (f ∷ []) ≡ None
unfolding offset_next enables_next
offset_alone k t f = by_test (is_number 16 f) (λ e. simp e) (λ e. simp e)

pub target_alone : (k : Kind) (f : List ℕ) → target_next k (f ∷ []) ≡ None
unfolding target_next offset_next
target_alone k f = alone (target_in f)
  where
    alone : (n : Option ℕ) → option_and_then (λ n. offset_next k n []) n ≡ None
    alone None = refl
    alone (Some n) = refl

pub kind_alone : (looks : Bool) (f : List ℕ) → kind_first looks (f ∷ []) ≡ None
unfolding kind_first kind_next target_next
kind_alone looks [] = refl
kind_alone looks (c ∷ []) =
    pick_by (λ (r : Option Access). r ≡ None) (eqb c 114) None _ refl
    (pick_by (λ (r : Option Access). r ≡ None) (eqb c 119) None _ refl
    (pick_by (λ (r : Option Access). r ≡ None) (looks && eqb c 108) None None refl refl))
kind_alone looks (c ∷ d ∷ f) = refl

-- ---- a field more

module _ (k : Kind) (f : List ℕ) (fs : List (List ℕ)) where
  pub target_goes : target_next k (f ∷ fs) ≡ option_and_then (λ n. offset_next k n fs) (target_in f)
  unfolding target_next
  target_goes = refl

  module _ (t : ℕ) where
    pub offset_goes : offset_next k t (f ∷ fs) ≡ option_and_then (λ n. enables_next k t n fs) (number_of 16 f)
    unfolding offset_next number_of
    offset_goes = by_test (is_number 16 f) (λ e. simp e) (λ e. simp e)

    module _ (o : ℕ) where
      pub enables_goes : enables_next k t o (f ∷ fs) ≡ option_and_then (λ n. word_next k t o n fs) (number_of 16 f)
      unfolding enables_next number_of
      enables_goes = by_test (is_number 16 f) (λ e. simp e) (λ e. simp e)

-- ---- the word

-- a field with a space in it is no number
spaced : (l : List ℕ) → length (up_to 32 l) < length l → every_in (is_digit 16) l ≡ false
unfolding digit_of
spaced [] h = absurd (omega arith)
spaced (c ∷ l) h =
    by_test (eqb c 32)
    (λ t. let e : c ≡ 32 = eqb-true c 32 t in simp e)
    (λ t. let u = ap length (up_to_miss 32 c l t) in let s = spaced l (omega arith) in simp (s, and-false (ltb (digit_of c) 16)))

spaced_number : (l : List ℕ) → length (up_to 32 l) < length l → is_number 16 l ≡ false
unfolding is_number
spaced_number l h = simp (spaced l h, and-false (leb (length l) 8), and-false (leb 1 (length l)))

fields_some : (l : List ℕ) → (f : List ℕ) × (fs : List (List ℕ)) × (fields_of l ≡ f ∷ fs)
fields_some [] = ([], [], fields_none)
fields_some (c ∷ l) =
    by_test (eqb c 32)
    (λ t. ([], fields_of l, fields_hit c l t))
    (λ t. front (fields_of l) (fields_miss c l t))
  where
    front : (k : List (List ℕ)) → fields_of (c ∷ l) ≡ longer c k → (f : List ℕ) × (fs : List (List ℕ)) × (fields_of (c ∷ l) ≡ f ∷ fs)
    front [] e = (c ∷ [], [], e)
    front (f ∷ fs) e = (c ∷ f, fs, e)

module _ (k : Kind) (t o e : ℕ) where
  write_ends : writing k ≡ true → word_next k t o e [] ≡ None
  unfolding word_next
  write_ends w = simp w

  pub read_ends : writing k ≡ false → word_next k t o e [] ≡ Some (record { target = t; offset = o; kind = k; enables = e; word = 0 })
  unfolding word_next
  read_ends w = simp w

  read_word : (l : List ℕ) → writing k ≡ false → word_next k t o e (fields_of l) ≡ None
  unfolding word_next
  read_word l w =
      let s : (f : List ℕ) × (fs : List (List ℕ)) × (fields_of l ≡ f ∷ fs) = fields_some l in
      subst (λ (fs : List (List ℕ)). word_next k t o e fs ≡ None) (sym s.2) (none s.0 s.1)
    where
      none : (f : List ℕ) (fs : List (List ℕ)) → word_next k t o e (f ∷ fs) ≡ None
      none f [] = simp w
      none f (x ∷ fs) = refl

  module _ (l : List ℕ) (w : writing k ≡ true) where
    abbrev asked : Option ℕ → Option Access
    asked v = option_map (λ n. record { target = t; offset = o; kind = k; enables = e; word = n }) v

    pub word_goes : word_next k t o e (fields_of l) ≡ asked (number_of 16 l)
    unfolding word_next number_of
    word_goes =
        by_test (leb (length l) (length (up_to 32 l)))
        (λ t. last (let g = leb-true (length l) (length (up_to 32 l)) t in let h = up_to_le 32 l in omega arith))
        (λ t. more (leb-false (length l) (length (up_to 32 l)) t))
      where
        last : length (up_to 32 l) ≡ length l → word_next k t o e (fields_of l) ≡ asked (number_of 16 l)
        last h = ap (word_next k t o e) (fields_last l h) ∙ by_test (is_number 16 l) (λ q. simp (w, q)) (λ q. simp (w, q))

        more : length (up_to 32 l) < length l → word_next k t o e (fields_of l) ≡ asked (number_of 16 l)
        more h =
            let s : (f : List ℕ) × (fs : List (List ℕ)) × (fields_of (drop (suc (length (up_to 32 l))) l) ≡ f ∷ fs) = fields_some (drop (suc (length (up_to 32 l))) l) in
            ap (word_next k t o e) (fields_more l h ∙ ap (λ (fs : List (List ℕ)). up_to 32 l ∷ fs) s.2) ∙ simp (spaced_number l h)

-- a read or a look is asked for no word, and a write is asked for one
module _ (k : Kind) (t o : ℕ) (f : List ℕ) where
  never : (fs : List (List ℕ)) → ((n : ℕ) → word_next k t o n fs ≡ None) → enables_next k t o (f ∷ fs) ≡ None
  never fs p = enables_goes k f fs t o ∙ each (number_of 16 f)
    where
      each : (r : Option ℕ) → option_and_then (λ n. word_next k t o n fs) r ≡ None
      each None = refl
      each (Some n) = p n

  pub read_more : (l : List ℕ) → writing k ≡ false → enables_next k t o (f ∷ fields_of l) ≡ None
  read_more l w = never (fields_of l) (λ n. read_word k t o n l w)

  pub write_less : writing k ≡ true → enables_next k t o (f ∷ []) ≡ None
  write_less w = never [] (λ n. write_ends k t o n w)

-- ---- the target

target_digit : (c : ℕ) (r : Option ℕ) → SomeIff r (digit_value c < 10) (digit_value c) → r ≡ pick (ltb (digit_of c) 10) (Some (digit_of c)) None
target_digit c None n = let g = digit_none c 10 (omega arith) (omega arith) in simp (le-ltb (digit_of c) 10 g)
target_digit c (Some x) n =
    let g = digit_is c 10 (omega arith) n.0 in
    let h : digit_of c ≡ x = g ∙ sym n.1 in
    let k : x < 10 = let q = n.0 in omega arith in
    simp (h, lt-ltb x 10 k)

pub target_one : (l : List ℕ) (c : ℕ) (r : Option ℕ) → length l ≡ 1 → c ≡ get_or l 0 0 → SomeIff r (digit_value c < 10) (digit_value c) → r ≡ target_in l
unfolding target_in
target_one [] c r e f n = absurd (omega arith)
target_one (d ∷ []) c r e f n = target_digit d r (subst (λ (k : ℕ). SomeIff r (digit_value k < 10) (digit_value k)) f n)
target_one (d ∷ b ∷ l) c r e f n = absurd (omega arith)

pub target_long : (l : List ℕ) → (length l ≡ 1 → ⊥) → None ≡ target_in l
unfolding target_in
target_long [] n = refl
target_long (d ∷ []) n = absurd (n refl)
target_long (d ∷ b ∷ l) n = refl
