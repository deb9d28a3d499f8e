-- A line's bytes, gathered from the chunks in which they arrive.
use Rattle.std.specs.Prelude.{ℕ, ◌+◌, ◌-◌, min, List, [], ◌∷◌, ◌≡◌, eqb, ltb, length, take, drop, Some, None}
use Rattle.std.proofs.lemmas.List.Edits.{sets}
use Rattle.bits.specs.Choose.{pick}
use Rattle.text.specs.declared.Taken.{Taken}

-- the bytes before the first b, or all
unfoldable pub up_to : ℕ → List ℕ → List ℕ
up_to b [] = []
up_to b (c ∷ l) = pick (eqb c b) [] (c ∷ up_to b l)

-- what a chunk has of a line from a place on: up to a newline (10) or its own end
abbrev pub part_of : List ℕ → ℕ → List ℕ
part_of chunk from = up_to 10 (drop from chunk)

-- it goes behind the `held` bytes of the line that are there. What the buffer can't hold is left out: one of 65 bytes, one more than a line may have,
-- sees a line that is too long by its length (proofs/Gathered.antt). `next` is where in the chunk to go on behind the newline: None where there is none
-- from `from` on.
pub record Gathers (chunk : List ℕ) (from : ℕ) (buffer : List ℕ) (held : ℕ) (r : Taken) (buffer' : List ℕ) : Type 0 where
  pub bytes : buffer' ≡ sets buffer held (part_of chunk from)
  pub held' : r.held ≡ held + min (length (part_of chunk from)) (length buffer - held)
  pub next : r.next ≡ pick (ltb (from + length (part_of chunk from)) (length chunk)) (Some (from + length (part_of chunk from) + 1)) None

-- what a buffer has of a line: its first bytes, as many as the buffer can hold
pub record Holds (buffer : List ℕ) (held : ℕ) (line : List ℕ) : Type 0 where
  pub count : held ≡ min (length line) (length buffer)
  pub same : take held buffer ≡ take held line
