-- Promise 10 (02, C-15). The palette as words is the palette as it was kept before: every state has exactly one that is alike in the other layout, and at every access and opening, refused ones among them, both
-- machines answer the same, leave the same memory and picture, and states that are alike. And an entry's word is 01RRGGBBh exactly where that colour was loaded, 0 where none was, and its dots' word.
-- From the laws of PaletteStep, along lists by induction; what is one to one by the digits of a word. Assumes nothing.
use Prim.Native.Nat.{ℕ, zero, suc, ◌+◌, ◌*◌, ◌/◌, ◌%◌, ◌^◌, ◌<◌}
use mathlib.Core.List.{List, [], ◌∷◌, map}
use mathlib.Core.Logic.{◌↔◌}
use mathlib.Core.Option.{some}
use mathlib.Core.Path.{◌≡◌, refl, sym, ap, ap₂, ◌∙◌, subst}
use native.Mathlib.Omega.{arith}
use lib.ListN.{get_or, length, length-map, get_or-map}
use lib.Seq.{ext_get_or}
use Rattle.bits.specs.Word.{inside}
use Rattle.chip.specs.declared.State.{State}
use Rattle.chip.specs.declared.Access.{Access}
use Rattle.chip.specs.declared.Colour.{Colour}
use Rattle.chip.specs.Bank.{pixel_mask}
use Rattle.chip.specs.Palette.{entry_count, Shades}
use Rattle.chip.specs.Sound.{is_state}
use Rattle.chip.specs.Picture.{drawn_from, word_of}
use Rattle.chip.specs.Step.{open_of, step_of}
use Rattle.chip.specs.Trace.{World, opened, step, after, run}
use Rattle.chip.proofs.Redraw.{drawn_length, drawn_at}
use Rattle.promises.specs.Good.{Openable}
use Rattle.promises.specs.Dots.{Indexed, Placed, dot_at, entry_at}
use Rattle.promises.specs.Loads.{Loaded, NoLoad}
use Rattle.promises.specs.PaletteColumns.{ColumnState, is_column_state, column_step, column_open, ColumnWorld, column_opened, column_took, column_after, column_run}
use Rattle.promises.specs.PaletteAlike.{Column, TypedColumns, TypedWords, packed_at, Paired, filled, columned, words_for, columns_for, SameOutcome, SameOpening, SameWorld}
use Rattle.promises.proofs.Dots.{entry_shades}
use Rattle.promises.proofs.PaletteShared.{rest_bare}
use Rattle.promises.proofs.PaletteStep.{same_state, same_step, same_opening}
use Rattle.promises.proofs.Promise2States.{always_state}
use Rattle.promises.proofs.Promise4Origins.{entry_exactly, entry_never}
use Rattle.promises.proofs.Promise4Reads.{entry_zero, entry_stored}
use Rattle.promises.proofs.Promise5Picture.{word_ruled}

-- ---- one to one, on all that the types can hold

-- every state of columns has a state of words that is alike ..
packed_lt : (b : ColumnState) → TypedColumns b → (e : ℕ) → packed_at b.palette e < 2 ^ 32
packed_lt b t e = let c = t.palette in omega (arith, c.red.bytes e, c.green.bytes e, c.blue.bytes e, c.stored.bytes e)

pub words_exist : (b : ColumnState) → TypedColumns b → Paired b (words_for b)
unfolding words_for
words_exist b t =
    record {
      columns = t;
      words = record { palette = record { length_is = drawn_length (packed_at b.palette) 0 entry_count; words = drawn_lt (packed_at b.palette) 0 entry_count (2 ^ 32) (packed_lt b t) (omega arith) }; stage = t.stage };
      alike =
          record {
            width = refl;
            height = refl;
            fitted = refl;
            once = refl;
            values = refl;
            knowns = refl;
            dac = refl;
            palette = λ e h. drawn_at (packed_at b.palette) 0 entry_count e h ∙ ap (packed_at b.palette) (let z : 0 + e ≡ e = omega arith in z);
          };
    }
  where
    drawn_lt : (f : ℕ → ℕ) (j n k : ℕ) → ((e : ℕ) → f e < k) → 0 < k → (i : ℕ) → get_or (drawn_from f j n) i 0 < k
    drawn_lt f j zero k g h i = h
    drawn_lt f j (suc n) k g h zero = g j
    drawn_lt f j (suc n) k g h (suc i) = drawn_lt f (suc j) n k g h i

-- .. and every state of words one of columns ..
pub columns_exist : (s : State) → TypedWords s → Paired (columns_for s) s
unfolding columns_for
columns_exist s t =
    record {
      columns =
          record {
            palette =
                record {
                  red = record { length_is = length-map s.palette _ ∙ t.palette.length_is; bytes = λ e. omega (arith, red e) };
                  green = record { length_is = length-map s.palette _ ∙ t.palette.length_is; bytes = λ e. omega (arith, green e) };
                  blue = record { length_is = length-map s.palette _ ∙ t.palette.length_is; bytes = λ e. omega (arith, blue e) };
                  stored = record { length_is = length-map s.palette _ ∙ t.palette.length_is; bytes = λ e. omega (arith, flag e, t.palette.words e) };
                };
            stage = t.stage;
          };
      words = t;
      alike =
          record {
            width = refl;
            height = refl;
            fitted = refl;
            once = refl;
            values = refl;
            knowns = refl;
            dac = refl;
            palette = λ e h. omega (arith, red e, green e, blue e, flag e);
          };
    }
  where
    red : (e : ℕ) → get_or (map (λ (w : ℕ). w / 0x10000 % 256) s.palette) e 0 ≡ get_or s.palette e 0 / 0x10000 % 256
    red e = get_or-map (λ (w : ℕ). w / 0x10000 % 256) s.palette e 0

    green : (e : ℕ) → get_or (map (λ (w : ℕ). w / 0x100 % 256) s.palette) e 0 ≡ get_or s.palette e 0 / 0x100 % 256
    green e = get_or-map (λ (w : ℕ). w / 0x100 % 256) s.palette e 0

    blue : (e : ℕ) → get_or (map (λ (w : ℕ). w % 256) s.palette) e 0 ≡ get_or s.palette e 0 % 256
    blue e = get_or-map (λ (w : ℕ). w % 256) s.palette e 0

    flag : (e : ℕ) → get_or (map (λ (w : ℕ). w / 0x1000000) s.palette) e 0 ≡ get_or s.palette e 0 / 0x1000000
    flag e = get_or-map (λ (w : ℕ). w / 0x1000000) s.palette e 0

-- .. and no second: a state is what it is without its palette, and its palette
pub words_one : (b : ColumnState) (s t : State) → Paired b s → Paired b t → s ≡ t
words_one b s t p q =
    ap₂ filled (sym (rest_bare b s p.alike) ∙ rest_bare b t q.alike)
    (ext_get_or 0 s.palette t.palette (p.words.palette.length_is ∙ sym q.words.palette.length_is)
    (λ e h. let i : e < entry_count = omega (arith, h, p.words.palette.length_is) in p.alike.palette e i ∙ sym (q.alike.palette e i)))

module _ (b c : ColumnState) (s : State) (p : Paired b s) (q : Paired c s) where
  -- the four bytes of an entry are those of its word
  record SameBytes (e : ℕ) : Type 0 where
    red : get_or b.palette.red e 0 ≡ get_or c.palette.red e 0
    green : get_or b.palette.green e 0 ≡ get_or c.palette.green e 0
    blue : get_or b.palette.blue e 0 ≡ get_or c.palette.blue e 0
    stored : get_or b.palette.stored e 0 ≡ get_or c.palette.stored e 0

  same_bytes : (e : ℕ) → e < entry_count → SameBytes e
  same_bytes e h =
      let z = p.alike.palette e h in
      let y = q.alike.palette e h in
      let u = p.columns.palette in
      let v = q.columns.palette in
      record {
        red = omega (arith, z, y, u.red.bytes e, u.green.bytes e, u.blue.bytes e, v.red.bytes e, v.green.bytes e, v.blue.bytes e);
        green = omega (arith, z, y, u.red.bytes e, u.green.bytes e, u.blue.bytes e, v.red.bytes e, v.green.bytes e, v.blue.bytes e);
        blue = omega (arith, z, y, u.red.bytes e, u.green.bytes e, u.blue.bytes e, v.red.bytes e, v.green.bytes e, v.blue.bytes e);
        stored = omega (arith, z, y, u.red.bytes e, u.green.bytes e, u.blue.bytes e, v.red.bytes e, v.green.bytes e, v.blue.bytes e);
      }

  one_column : (l k : List ℕ) → Column l → Column k → ((e : ℕ) → e < entry_count → get_or l e 0 ≡ get_or k e 0) → l ≡ k
  one_column l k u v f = ext_get_or 0 l k (u.length_is ∙ sym v.length_is) (λ e h. f e (omega (arith, h, u.length_is)))

  pub columns_one : b ≡ c
  columns_one =
      let u = p.columns.palette in
      let v = q.columns.palette in
      ap₂ columned (rest_bare b s p.alike ∙ sym (rest_bare c s q.alike))
      (ap₂ (λ (r g : List ℕ). record { red = r; green = g; blue = b.palette.blue; stored = b.palette.stored })
      (one_column _ _ u.red v.red (λ e h. (same_bytes e h).red)) (one_column _ _ u.green v.green (λ e h. (same_bytes e h).green))
      ∙ ap₂ (λ (l f : List ℕ). record { red = c.palette.red; green = c.palette.green; blue = l; stored = f })
      (one_column _ _ u.blue v.blue (λ e h. (same_bytes e h).blue)) (one_column _ _ u.stored v.stored (λ e h. (same_bytes e h).stored)))

-- ---- every access, every opening, every list of accesses

-- refusal 1 refuses the same states
pub layouts_states : (b : ColumnState) (s : State) → Paired b s → is_state s ≡ is_column_state b
layouts_states = same_state

pub layouts_access : (b : ColumnState) (s : State) → Paired b s → (m p : List ℕ) (a : Access) → SameOutcome (column_step b m p a) (step_of s m p a)
layouts_access = same_step

pub layouts_opening : (w h : ℕ) (m p : List ℕ) → SameOpening (column_open w h m p) (open_of w h m p)
layouts_opening = same_opening

pub layouts_next : (x : ColumnWorld) (y : World) → SameWorld x y → (a : Access) → SameOutcome (column_took x a) (step y a)
layouts_next x y w a =
    subst (λ (m : List ℕ). SameOutcome (column_step x.state m x.picture a) (step y a)) w.memory
    (subst (λ (p : List ℕ). SameOutcome (column_step x.state y.memory p a) (step y a)) w.picture
    (same_step x.state y.state w.state y.memory y.picture a))

pub layouts_along : (x : ColumnWorld) (y : World) → SameWorld x y → (l : List Access) → SameWorld (column_run x l) (run y l)
layouts_along x y w [] = w
layouts_along x y w (a ∷ l) =
    let o = layouts_next x y w a in
    layouts_along (column_after x a) (after y a) (record { state = o.state; memory = o.memory; picture = o.picture }) l

-- so after any opening, refused or not, and any list, what was done so far and what the next access does is the same
module _ (w h : ℕ) (m p : List ℕ) (l : List Access) where
  pub layouts_world : SameWorld (column_run (column_opened w h m p) l) (run (opened w h m p) l)
  layouts_world =
      let o = same_opening w h m p in
      layouts_along (column_opened w h m p) (opened w h m p) (record { state = o.state; memory = o.memory; picture = o.picture }) l

  pub layouts_answer : (a : Access) → SameOutcome (column_took (column_run (column_opened w h m p) l) a) (step (run (opened w h m p) l) a)
  layouts_answer a = layouts_next _ _ layouts_world a

-- ---- an entry's word

module _ (w h : ℕ) (m p : List ℕ) (o : Openable w h m p) (l : List Access) (e : ℕ) (he : e < entry_count) where
  pub word_exactly : (c : Colour) → Shades c
      → (get_or (run (opened w h m p) l).state.palette e 0 ≡ 0x01000000 + c.red * 0x10000 + c.green * 0x100 + c.blue) ↔ Loaded (opened w h m p) l e c
  word_exactly c k =
      let u = entry_stored (run (opened w h m p) l).state.palette e c k in
      let v = entry_exactly w h m p o l e he c in ((λ z. v.0 (u.1 z)), (λ z. u.0 (v.1 z)))

  pub word_never : (get_or (run (opened w h m p) l).state.palette e 0 ≡ 0) ↔ NoLoad (opened w h m p) [] l e
  word_never =
      let u = entry_zero (run (opened w h m p) l).state e (always_state w h m p o l) he in
      let v = entry_never w h m p o l e he in ((λ z. v.0 (u.1 z)), (λ z. u.0 (v.1 z)))

-- a drawn dot's word is its entry's word
pub word_drawn : (s : State) (m : List ℕ) (i : ℕ) (c : Colour) → Indexed s → Placed s → dot_at s i < length m → entry_at s m i ≡ some c
    → word_of s m i ≡ get_or s.palette (inside (get_or m (dot_at s i) 0) (get_or s.values pixel_mask 0 % 256)) 0
unfolding entry_at
word_drawn s m i c x y h k =
    let z = entry_shades s.palette _ c k in
    ((word_ruled s m i).five c z).1 (x, y, h, k) ∙ sym ((entry_stored s.palette _ c z).0 k)
