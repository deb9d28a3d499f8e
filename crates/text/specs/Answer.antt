-- The line that an answer is printed as (01, Values to check): status, word, known mask and changed count.
use Rattle.std.specs.Prelude.{ℕ, ◌+◌, List, [], ◌∷◌, ◌++◌, ◌≡◌, length}
use Rattle.std.proofs.lemmas.List.Edits.{sets}
use Rattle.text.specs.Numeral.{decimal_of, word_text}

-- parted by one space (32) and ended by a newline (10)
unfoldable pub answer_text : ℕ → ℕ → ℕ → ℕ → List ℕ
answer_text status word known changed =
    decimal_of status ++ 32 ∷ (word_text word ++ 32 ∷ (word_text known ++ 32 ∷ (decimal_of changed ++ 10 ∷ [])))

-- a text stands in a buffer from a place on, up to `end`; all other bytes are as they were. What would be past the buffer's end is not stored, and an
-- answer's line, of at most 40 bytes, is stored whole (proofs/WroteLaws.antt, answer_short)
pub record Wrote (text : List ℕ) (from : ℕ) (before : List ℕ) (end : ℕ) (after : List ℕ) : Type 0 where
  pub ends : end ≡ from + length text
  pub holds : after ≡ sets before from text
