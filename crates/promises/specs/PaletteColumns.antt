-- The machine with the palette as it was before 02, C-15: four columns of 256 bytes, red, green, blue, and a flag that is 1 where the entry was stored. It is not defined through the
-- machine of today. What an entry is, how one is stored, refusal 1, what a patch makes of a state, what palette data shows, the view, a step and an opening are its own, as they stood before.
-- Shared is what does not depend on how the palette is kept: places and what any other place shows, the tests of refusal 1 on the other fields, the refusals after it, patches, a dot's word over a view,
-- the redraw. What a later request adds to a state beside the palette, it adds here as well.
use Rattle.std.specs.Prelude.{ℕ, Bool, not, ◌&&◌, List, [], ◌∷◌, eqb, get_or, set, length, replicate}
use Rattle.std.proofs.Math.Option
use Rattle.std.proofs.Math.Option.{Option, none, some}
use Rattle.bits.specs.Choose.{pick, every_to, all}
use Rattle.chip.specs.declared.State.{State}
use Rattle.chip.specs.declared.Access.{Access}
use Rattle.chip.specs.declared.Dac.{Dac}
use Rattle.chip.specs.declared.Colour.{Colour}
use Rattle.chip.specs.declared.Seen.{Seen}
use Rattle.chip.specs.declared.Place.{Place}
use Rattle.chip.specs.declared.Place.TheVariants.{Register, Address, PaletteData, Window, Blank, Nowhere}
use Rattle.chip.specs.Bank.{bank_resets, bank_knowns}
use Rattle.chip.specs.Palette.{entry_count}
use Rattle.chip.specs.Dac.{Paint, reset_dac}
use Rattle.chip.specs.Access.{is_write}
use Rattle.chip.specs.Place.{place_of}
use Rattle.chip.specs.Port.{seen, known_in, word_in, wide, seen_part, port_at}
use Rattle.chip.specs.Patch.{Patch, valued, learned, memory_with}
use Rattle.chip.specs.Sound.{panel_ok, memory_ok, component_ok, address_ok, once_ok, bank_sound}
use Rattle.chip.specs.Refusal.{line, first_of, later_lines, opening_status}
use Rattle.chip.specs.View.{View, base_of, stride_of, mask_of, fixed_of}
use Rattle.chip.specs.Picture.{view_word, redrawn, diffs}
use Rattle.chip.specs.Step.{patch_of, blank_word}

-- ---- the palette

pub record Columns : Type 0 where
  pub red : List ℕ
  pub green : List ℕ
  pub blue : List ℕ
  pub stored : List ℕ

-- nothing stored
unfoldable pub no_columns : Columns
no_columns =
    record { red = replicate entry_count 0; green = replicate entry_count 0; blue = replicate entry_count 0; stored = replicate entry_count 0 }

-- an entry's flag, red, green and blue: the colour that they hold, or nothing for an entry never stored
abbrev pub bytes_entry : (f r g b : ℕ) → Option Colour
bytes_entry f r g b = pick (eqb f 0) none (some (record { red = r; green = g; blue = b }))

unfoldable pub column_entry : Columns → ℕ → Option Colour
column_entry p e = bytes_entry (get_or p.stored e 0) (get_or p.red e 0) (get_or p.green e 0) (get_or p.blue e 0)

unfoldable pub store_columns : Columns → ℕ → Colour → Columns
store_columns p e c =
    record
    { red = set p.red e c.red; green = set p.green e c.green; blue = set p.blue e c.blue; stored = set p.stored e 1 }

-- refusal 1: a flag is 0 or 1, and what was never stored is zero
abbrev pub bytes_ok : (f r g b : ℕ) → Bool
bytes_ok f r g b = pick (eqb f 0) (eqb r 0 && (eqb g 0 && eqb b 0)) (eqb f 1)

unfoldable pub column_ok : Columns → ℕ → Bool
column_ok p e = bytes_ok (get_or p.stored e 0) (get_or p.red e 0) (get_or p.green e 0) (get_or p.blue e 0)

unfoldable pub columns_ok : Columns → Bool
columns_ok p = every_to (column_ok p) entry_count

-- ---- the state

pub record ColumnState : Type 0 where
  pub width : ℕ
  pub height : ℕ
  pub fitted : ℕ
  pub once : ℕ
  pub values : List ℕ
  pub knowns : List ℕ
  pub dac : Dac
  pub palette : Columns

unfoldable pub column_reset : ℕ → ℕ → ℕ → ColumnState
column_reset w h f =
    record { width = w; height = h; fitted = f; once = 0; values = bank_resets; knowns = bank_knowns; dac = reset_dac; palette = no_columns }

-- for what is shared: a state with no palette at all. Nothing that is taken of a shared definition depends on it (proofs/PaletteShared and PaletteStep)
abbrev pub rest_of : ColumnState → State
rest_of b =
    record {
      width = b.width;
      height = b.height;
      fitted = b.fitted;
      once = b.once;
      values = b.values;
      knowns = b.knowns;
      dac = b.dac;
      palette = [];
    }

unfoldable pub is_column_state : ColumnState → Bool
is_column_state b =
    all
    (panel_ok b.width b.height
    ∷ memory_ok b.fitted
    ∷ component_ok b.dac
    ∷ address_ok b.dac
    ∷ once_ok b.once
    ∷ bank_sound b.once b.values b.knowns
    ∷ columns_ok b.palette
    ∷ [])

-- what a patch makes of it
abbrev pub column_painted : Option Paint → Columns → Columns
column_painted none p = p
column_painted (some x) p = store_columns p x.entry x.colour

unfoldable pub column_applied : Patch → ColumnState → ColumnState
column_applied p b =
    record {
      width = b.width;
      height = b.height;
      fitted = b.fitted;
      once = Option.get_or p.once b.once;
      values = valued p.store b.values;
      knowns = learned p.store b.knowns;
      dac = Option.get_or p.dac b.dac;
      palette = column_painted p.paint b.palette;
    }

-- ---- what is seen, and drawn

abbrev pub column_seen : ColumnState → Access → List ℕ → Place → Seen
column_seen b a m PaletteData = seen_part (wide (rest_of b)) b.dac.component (column_entry b.palette b.dac.address)
column_seen b a m (Register i) = (port_at (rest_of b) a (Register i)).seen m
column_seen b a m Address = (port_at (rest_of b) a Address).seen m
column_seen b a m (Window i) = (port_at (rest_of b) a (Window i)).seen m
column_seen b a m Blank = (port_at (rest_of b) a Blank).seen m
column_seen b a m Nowhere = (port_at (rest_of b) a Nowhere).seen m

-- what a read or a look sees; a write sees nothing
unfoldable pub column_seen_by : ColumnState → List ℕ → Access → Seen
column_seen_by b m a = pick (is_write a) (seen 0 0) (column_seen b a m (place_of (rest_of b) a))

unfoldable pub column_view : ColumnState → View
column_view b =
    record {
      fixed = fixed_of b.values b.knowns;
      base = base_of b.values;
      stride = stride_of b.values;
      mask = mask_of b.values;
      width = b.width;
      height = b.height;
      entry = column_entry b.palette;
    }

unfoldable pub column_word : ColumnState → List ℕ → ℕ → ℕ
column_word b m i = view_word (column_view b) m i

-- ---- a step

pub record ColumnOutcome : Type 0 where
  pub status : ℕ
  pub word : ℕ
  pub known : ℕ
  pub changed : ℕ
  pub state : ColumnState
  pub memory : List ℕ
  pub picture : List ℕ

unfoldable pub column_status : ColumnState → ℕ → ℕ → Access → ℕ
column_status b ml pl a = first_of (line 1 (not (is_column_state b)) ∷ later_lines (rest_of b) ml pl a)

unfoldable pub column_refused : ℕ → ColumnState → List ℕ → List ℕ → ColumnOutcome
column_refused n b m p = record { status = n; word = 0; known = 0; changed = 0; state = b; memory = m; picture = p }

unfoldable pub column_settled : ColumnState → List ℕ → List ℕ → ColumnState → List ℕ → Seen → ℕ → ColumnOutcome
column_settled b m p b' m' x e =
    record {
      status = 0;
      word = word_in x e;
      known = known_in x e;
      changed = diffs p (redrawn (column_word b m) (column_word b' m') p);
      state = b';
      memory = m';
      picture = redrawn (column_word b m) (column_word b' m') p;
    }

unfoldable pub column_done : ColumnState → List ℕ → List ℕ → Access → ColumnOutcome
column_done b m p a =
    column_settled b m p (column_applied (patch_of (rest_of b) a) b) (memory_with (patch_of (rest_of b) a) m) (column_seen_by b m a) a.enables

unfoldable pub column_step : ColumnState → List ℕ → List ℕ → Access → ColumnOutcome
column_step b m p a =
    pick (eqb (column_status b (length m) (length p) a) 0) (column_done b m p a) (column_refused (column_status b (length m) (length p) a) b m p)

-- ---- an opening

pub record ColumnOpening : Type 0 where
  pub status : ℕ
  pub state : ColumnState
  pub memory : List ℕ
  pub picture : List ℕ

unfoldable pub column_open : ℕ → ℕ → List ℕ → List ℕ → ColumnOpening
column_open w h m p =
    pick (eqb (opening_status w h (length m) (length p)) 0)
    (record { status = 0; state = column_reset w h (length m); memory = m; picture = replicate (length p) blank_word })
    (record { status = opening_status w h (length m) (length p); state = column_reset 0 0 0; memory = m; picture = p })

-- ---- a list of accesses

pub record ColumnWorld : Type 0 where
  pub state : ColumnState
  pub memory : List ℕ
  pub picture : List ℕ

abbrev pub column_opened : ℕ → ℕ → List ℕ → List ℕ → ColumnWorld
column_opened w h m p =
    record { state = (column_open w h m p).state; memory = (column_open w h m p).memory; picture = (column_open w h m p).picture }

abbrev pub column_took : ColumnWorld → Access → ColumnOutcome
column_took x a = column_step x.state x.memory x.picture a

abbrev pub column_after : ColumnWorld → Access → ColumnWorld
column_after x a = record { state = (column_took x a).state; memory = (column_took x a).memory; picture = (column_took x a).picture }

abbrev pub column_run : ColumnWorld → List Access → ColumnWorld
column_run x [] = x
column_run x (a ∷ l) = column_run (column_after x a) l
