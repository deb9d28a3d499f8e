-- The two layouts of the palette side by side (02, C-15: "shown equal, through every access and look, to the layout before it"): which states are alike, and what it means that both machines do the same.
use Rattle.std.specs.Prelude.{ℕ, ◌+◌, ◌*◌, ◌/◌, ◌%◌, ◌^◌, ◌<◌, List, map, ◌≡◌, get_or, length}
use Rattle.chip.specs.declared.State.{State}
use Rattle.chip.specs.Palette.{entry_count}
use Rattle.chip.specs.Picture.{drawn_from}
use Rattle.chip.specs.Step.{Outcome, Opening}
use Rattle.chip.specs.Trace.{World}
use Rattle.promises.specs.Good.{Stage}
use Rattle.promises.specs.PaletteColumns.{Columns, ColumnState, rest_of, ColumnOutcome, ColumnOpening, ColumnWorld}

-- ---- palette and stage as their types have them, whether refusal 1 refuses them or not

-- a column: 256 bytes
pub record Column (l : List ℕ) : Type 0 where
  pub length_is : length l ≡ entry_count
  pub bytes : (e : ℕ) → get_or l e 0 < 256

pub record ByteColumns (p : Columns) : Type 0 where
  pub red : Column p.red
  pub green : Column p.green
  pub blue : Column p.blue
  pub stored : Column p.stored

-- 256 words
pub record EntryWords (p : List ℕ) : Type 0 where
  pub length_is : length p ≡ entry_count
  pub words : (e : ℕ) → get_or p e 0 < 2 ^ 32

pub record TypedColumns (b : ColumnState) : Type 0 where
  pub palette : ByteColumns b.palette
  pub stage : Stage b.dac

pub record TypedWords (s : State) : Type 0 where
  pub palette : EntryWords s.palette
  pub stage : Stage s.dac

-- ---- alike

-- flag, red, green and blue as one word: the flag above the picture's colours
abbrev pub packed : (f r g b : ℕ) → ℕ
packed f r g b = f * 0x1000000 + r * 0x10000 + g * 0x100 + b

abbrev pub packed_at : Columns → ℕ → ℕ
packed_at p e = packed (get_or p.stored e 0) (get_or p.red e 0) (get_or p.green e 0) (get_or p.blue e 0)

pub record Alike (b : ColumnState) (s : State) : Type 0 where
  pub width : s.width ≡ b.width
  pub height : s.height ≡ b.height
  pub fitted : s.fitted ≡ b.fitted
  pub once : s.once ≡ b.once
  pub values : s.values ≡ b.values
  pub knowns : s.knowns ≡ b.knowns
  pub dac : s.dac ≡ b.dac
  pub palette : (e : ℕ) → e < entry_count → get_or s.palette e 0 ≡ packed_at b.palette e

-- alike, and both of their types
pub record Paired (b : ColumnState) (s : State) : Type 0 where
  pub columns : TypedColumns b
  pub words : TypedWords s
  pub alike : Alike b s

-- ---- the one state that is alike: each entry packed, and taken apart

-- the state x with another palette, in either layout
abbrev pub filled : State → List ℕ → State
filled x p =
    record {
      width = x.width;
      height = x.height;
      fitted = x.fitted;
      once = x.once;
      values = x.values;
      knowns = x.knowns;
      dac = x.dac;
      palette = p;
    }

abbrev pub columned : State → Columns → ColumnState
columned x p =
    record {
      width = x.width;
      height = x.height;
      fitted = x.fitted;
      once = x.once;
      values = x.values;
      knowns = x.knowns;
      dac = x.dac;
      palette = p;
    }

unfoldable pub words_for : ColumnState → State
words_for b = filled (rest_of b) (drawn_from (packed_at b.palette) 0 entry_count)

unfoldable pub columns_for : State → ColumnState
columns_for s =
    columned s
    (record {
      red = map (λ (w : ℕ). w / 0x10000 % 256) s.palette;
      green = map (λ (w : ℕ). w / 0x100 % 256) s.palette;
      blue = map (λ (w : ℕ). w % 256) s.palette;
      stored = map (λ (w : ℕ). w / 0x1000000) s.palette;
    })

-- ---- the same is done: all that comes back and all that is lent, and states alike again

pub record SameOutcome (o : ColumnOutcome) (n : Outcome) : Type 0 where
  pub status : n.answer.status ≡ o.status
  pub word : n.answer.word ≡ o.word
  pub known : n.answer.known ≡ o.known
  pub changed : n.answer.changed ≡ o.changed
  pub state : Paired o.state n.answer.state
  pub memory : n.memory ≡ o.memory
  pub picture : n.picture ≡ o.picture

pub record SameOpening (o : ColumnOpening) (n : Opening) : Type 0 where
  pub status : n.answer.status ≡ o.status
  pub state : Paired o.state n.answer.state
  pub memory : n.memory ≡ o.memory
  pub picture : n.picture ≡ o.picture

pub record SameWorld (x : ColumnWorld) (y : World) : Type 0 where
  pub state : Paired x.state y.state
  pub memory : y.memory ≡ x.memory
  pub picture : y.picture ≡ x.picture
