-- The two layouts of the palette do the same at every access and at every opening, and leave states that are alike.
-- Of an entry's four bytes and of its word refusal 1 says the same, and where it passes both hold the same colour: so refusals, what is seen and what is drawn are the same; and a stored entry is alike again.
-- Assumes nothing.
use Prim.Native.Nat.{ℕ, ◌/◌, ◌<◌}
use mathlib.Core.Bool.{Bool, true, not, ◌&&◌, or-false}
use mathlib.Core.List.{List, ◌∷◌}
use mathlib.Core.Option
use mathlib.Core.Option.{Option, none, some}
use mathlib.Core.Path.{◌≡◌, refl, sym, ap, ap₂, ◌∙◌, subst, fun_ext}
use native.Mathlib.Omega.{arith}
use borrow.Author.Tests.{eqb-true, eqb-false, eq-eqb, ne_eqb, ltb-true, ltb-false}
use lib.Dec.{eqb, ltb}
use lib.ListN.{get_or, set, length, length-set, replicate, length-replicate, get_or-eq_default}
use Rattle.bits.specs.Choose.{pick}
use Rattle.bits.proofs.Cases.{by_test}
use Rattle.std.specs.Cmp.{first_so, second_so}
use Rattle.std.proofs.lemmas.Bool.{and_from}
use Rattle.bits.proofs.Bools.{every_at}
use Rattle.bits.proofs.Gathers.{every_same}
use Rattle.bits.proofs.Lists.{get_d_set, set_lt, zeros_at}
use Rattle.chip.specs.declared.State.{State}
use Rattle.chip.specs.declared.Access.{Access}
use Rattle.chip.specs.declared.Dac.{Dac}
use Rattle.chip.specs.declared.Colour.{Colour}
use Rattle.chip.specs.declared.Seen.{Seen}
use Rattle.chip.specs.declared.Place.{Place}
use Rattle.chip.specs.declared.Place.TheVariants.{Register, Address, PaletteData, Window, Blank, Nowhere}
use Rattle.chip.specs.Palette.{entry_count, empty_palette, coloured_word, colour_in, is_stored, entry_of, store_entry, word_ok, entry_ok, palette_ok}
use Rattle.chip.specs.Dac.{Paint, reset_dac}
use Rattle.chip.specs.Access.{is_write}
use Rattle.chip.specs.Place.{place_at, place_of}
use Rattle.chip.specs.Port.{seen, known_in, word_in, wide, port_at}
use Rattle.chip.specs.Patch.{Patch, valued, learned, painted, applied, memory_with}
use Rattle.chip.specs.Sound.{is_state}
use Rattle.chip.specs.Refusal.{Line, line, first_of, port_of, access_lines, status_of, opening_status}
use Rattle.chip.specs.View.{View, base_of, stride_of, mask_of, not_indexed, unplaced, fixed_of, view_of}
use Rattle.chip.specs.Picture.{view_word, word_of, redrawn, diffs}
use Rattle.chip.specs.State.{reset_state}
use Rattle.chip.specs.Step.{refused, settled, seen_by, patch_of, state_after, memory_after, done_by, given_by, step_of, open_of}
use Rattle.chip.specs.Trace.{World}
use Rattle.chip.proofs.Refusals.{unrefused}
use Rattle.chip.proofs.Entries.{coloured_back}
use Rattle.promises.specs.Good.{Stage, status_at}
use Rattle.promises.specs.History.{accepted}
use Rattle.promises.specs.PaletteColumns.{no_columns, bytes_entry, column_entry, store_columns, bytes_ok, column_ok, columns_ok, ColumnState, column_reset, is_column_state, column_painted, column_applied, column_seen, column_seen_by, column_view, column_word, column_status, column_refused, column_settled, column_done, column_step, column_open}
use Rattle.promises.specs.PaletteAlike.{Column, ByteColumns, packed, packed_at, Alike, Paired, SameOutcome, SameOpening}
use Rattle.promises.proofs.Patches.{patch_at}
use Rattle.promises.proofs.Stages.{Shaded, stage_after, paint_shaded, painted_length, painted_ok, painted_lt}
use Rattle.promises.proofs.Sane.{sane}
use Rattle.promises.proofs.PaletteShared.{rest_bare, same_patch, same_lines}

-- ---- one entry, over plain values: flag, red, green, blue, and its word

record Entry (f r g b w : ℕ) : Type 0 where
  red : r < 256
  green : g < 256
  blue : b < 256
  word : w ≡ packed f r g b

module _ (f r g b w : ℕ) (h : Entry f r g b w) where
  top : w / 0x1000000 ≡ f
  top = omega (arith, h.red, h.green, h.blue, h.word)

  -- a word of zero has four parts of zero
  zero_parts : w ≡ 0 → (f ≡ 0) × (r ≡ 0) × (g ≡ 0) × (b ≡ 0)
  zero_parts z = (omega (arith, z, h.word), omega (arith, z, h.word), omega (arith, z, h.word), omega (arith, z, h.word))

  unflagged : f ≡ 0 → eqb w 0 ≡ (eqb r 0 && (eqb g 0 && eqb b 0))
  unflagged z =
      by_test (eqb w 0)
      (λ t. let y = zero_parts (eqb-true w 0 t) in t ∙ sym (and_from (eqb r 0) _ (eq-eqb r 0 y.1) (and_from (eqb g 0) (eqb b 0) (eq-eqb g 0 y.2) (eq-eqb b 0 y.3))))
      (λ t. by_test (eqb r 0 && (eqb g 0 && eqb b 0))
      (λ u.
      let v = second_so (eqb r 0) _ u in
      let er = eqb-true r 0 (first_so (eqb r 0) _ u) in
      let eg = eqb-true g 0 (first_so (eqb g 0) (eqb b 0) v) in
      let eb = eqb-true b 0 (second_so (eqb g 0) (eqb b 0) v) in
      absurd (eqb-false w 0 t (omega (arith, z, er, eg, eb, h.word))))
      (λ u. t ∙ sym u))

  -- refusal 1
  same_ok : word_ok w ≡ bytes_ok f r g b
  unfolding word_ok is_stored
  same_ok =
      by_test (eqb f 0)
      (λ t. let z = eqb-true f 0 t in let y : w / 0x1000000 ≡ 0 = top ∙ z in simp (t, y) (unflagged z))
      (λ t. let n : w ≡ 0 → ⊥ = λ z. eqb-false f 0 t (zero_parts z).0 in simp (t, top, ne_eqb w 0 n) (or-false (eqb f 1)))

  -- where it passes, the same colour or none
  same_entry : word_ok w ≡ true → pick (is_stored w) (some (colour_in w)) none ≡ bytes_entry f r g b
  unfolding is_stored
  same_entry k =
      by_test (eqb f 0)
      (λ t. let y : w / 0x1000000 ≡ 0 = top ∙ eqb-true f 0 t in simp (t, y))
      (λ t.
      let u : eqb f 1 ≡ true = simp t at (sym same_ok ∙ k) in
      let y : f ≡ 1 = eqb-true f 1 u in
      let v : w / 0x1000000 ≡ 1 = top ∙ y in
      let c : Colour = record { red = r; green = g; blue = b } in
      let x : w ≡ coloured_word c = omega (arith, h.word, y) in
      simp (t, v) (ap some (ap colour_in x ∙ coloured_back c (record { red = h.red; green = h.green; blue = h.blue }))))

-- ---- two states that are alike

module _ (b : ColumnState) (s : State) (q : Paired b s) where
  abbrev z : Alike b s
  z = q.alike

  entry_at : (e : ℕ) → e < entry_count → Entry (get_or b.palette.stored e 0) (get_or b.palette.red e 0) (get_or b.palette.green e 0) (get_or b.palette.blue e 0) (get_or s.palette e 0)
  entry_at e h = record { red = q.columns.palette.red.bytes e; green = q.columns.palette.green.bytes e; blue = q.columns.palette.blue.bytes e; word = z.palette e h }

  same_palettes : palette_ok s.palette ≡ columns_ok b.palette
  unfolding palette_ok columns_ok entry_ok column_ok
  same_palettes = every_same _ _ entry_count (λ e h. same_ok _ _ _ _ _ (entry_at e h))

  pub same_state : is_state s ≡ is_column_state b
  unfolding is_state is_column_state
  same_state = simp (z.width, z.height, z.fitted, z.once, z.values, z.knowns, z.dac, same_palettes)

  pub same_status : (ml pl : ℕ) (a : Access) → status_of s ml pl a ≡ column_status b ml pl a
  unfolding status_of access_lines column_status
  same_status ml pl a = ap₂ (λ (t : Bool) (l : List Line). first_of (line 1 (not t) ∷ l)) same_state (sym (same_lines b s ml pl a z))

  -- of a palette that refusal 1 passes
  module _ (k : palette_ok s.palette ≡ true) where
    same_colours : (e : ℕ) → entry_of s.palette e ≡ column_entry b.palette e
    unfolding entry_of column_entry palette_ok entry_ok is_stored
    same_colours e =
        by_test (ltb e entry_count)
        (λ t. let h = ltb-true e entry_count t in same_entry _ _ _ _ _ (entry_at e h) (every_at (entry_ok s.palette) entry_count e k h))
        (λ t.
        let h = ltb-false e entry_count t in
        simp (get_or-eq_default s.palette 0 {n = e} (omega (arith, h, q.words.palette.length_is)), get_or-eq_default b.palette.stored 0 {n = e} (omega (arith, h, q.columns.palette.stored.length_is))))

    same_view_lem : view_of s ≡ column_view b
    unfolding view_of column_view fixed_of unplaced not_indexed mask_of stride_of base_of
    same_view_lem =
        let p : entry_of s.palette ≡ column_entry b.palette = fun_ext same_colours in
        simp (z.width, z.height, z.values, z.knowns, p)

    same_words : (m : List ℕ) → word_of s m ≡ column_word b m
    unfolding word_of column_word
    same_words m = fun_ext (λ i. ap (λ (v : View). view_word v m i) same_view_lem)

    seen_at : (a : Access) (m : List ℕ) (p : Place) → (port_at s a p).seen m ≡ column_seen b a m p
    unfolding port_at wide
    seen_at a m PaletteData = simp (z.values, z.dac, same_colours b.dac.address)
    seen_at a m (Register i) = sym (ap (λ (t : State). (port_at t a (Register i)).seen m) (rest_bare b s z))
    seen_at a m Address = sym (ap (λ (t : State). (port_at t a Address).seen m) (rest_bare b s z))
    seen_at a m (Window i) = sym (ap (λ (t : State). (port_at t a (Window i)).seen m) (rest_bare b s z))
    seen_at a m Blank = refl
    seen_at a m Nowhere = refl

    same_seen : (m : List ℕ) (a : Access) → seen_by s m a ≡ column_seen_by b m a
    unfolding seen_by column_seen_by port_of
    same_seen m a =
        ap (λ (x : Seen). pick (is_write a) (seen 0 0) x)
        (seen_at a m (place_of s a) ∙ ap (λ (d : Dac). column_seen b a m (place_at d a.target a.offset)) z.dac)

-- ---- after a store

set_column : (l : List ℕ) (e v : ℕ) → Column l → v < 256 → Column (set l e v)
set_column l e v c h = record { length_is = length-set l e v ∙ c.length_is; bytes = set_lt l e v 256 c.bytes h }

module _ (b : ColumnState) (s : State) (q : Paired b s) where
  -- the stored entry's word is its four bytes, and another entry stays
  stored_alike : (i e : ℕ) (c : Colour) → e < entry_count → get_or (store_entry s.palette i c) e 0 ≡ packed_at (store_columns b.palette i c) e
  unfolding store_entry store_columns
  stored_alike i e c h =
      let w = get_d_set s.palette i e (coloured_word c) 0 (omega (arith, h, q.words.palette.length_is)) in
      let r = get_d_set b.palette.red i e c.red 0 (omega (arith, h, q.columns.palette.red.length_is)) in
      let g = get_d_set b.palette.green i e c.green 0 (omega (arith, h, q.columns.palette.green.length_is)) in
      let l = get_d_set b.palette.blue i e c.blue 0 (omega (arith, h, q.columns.palette.blue.length_is)) in
      let f = get_d_set b.palette.stored i e 1 0 (omega (arith, h, q.columns.palette.stored.length_is)) in
      by_test (eqb i e) (λ t. simp (w, r, g, l, f, t)) (λ t. simp (w, r, g, l, f, t) (q.alike.palette e h))

  painted_alike : (o : Option Paint) (e : ℕ) → e < entry_count → get_or (painted o s.palette) e 0 ≡ packed_at (column_painted o b.palette) e
  painted_alike none e h = q.alike.palette e h
  painted_alike (some x) e h = stored_alike x.entry e x.colour h

  columns_kept : (o : Option Paint) → Shaded o → ByteColumns (column_painted o b.palette)
  unfolding store_columns
  columns_kept none h = q.columns.palette
  columns_kept (some x) h =
      let c = q.columns.palette in
      record {
        red = set_column _ x.entry _ c.red h.red;
        green = set_column _ x.entry _ c.green h.green;
        blue = set_column _ x.entry _ c.blue h.blue;
        stored = set_column _ x.entry 1 c.stored (omega arith);
      }

  -- whatever is stored of the other parts
  paired_after : (p : Patch) → Shaded p.paint → Stage (Option.get_or p.dac s.dac) → Paired (column_applied p b) (applied p s)
  unfolding applied column_applied
  paired_after p h g =
      let z = q.alike in
      let w = q.words.palette in
      let d : Option.get_or p.dac s.dac ≡ Option.get_or p.dac b.dac = ap (Option.get_or p.dac) z.dac in
      record {
        columns = record { palette = columns_kept p.paint h; stage = subst Stage d g };
        words =
            record {
              palette = record { length_is = painted_length p.paint s.palette w.length_is; words = painted_lt p.paint s.palette h w.words };
              stage = g;
            };
        alike =
            record {
              width = z.width;
              height = z.height;
              fitted = z.fitted;
              once = ap (Option.get_or p.once) z.once;
              values = ap (valued p.store) z.values;
              knowns = ap (learned p.store) z.knowns;
              dac = d;
              palette = painted_alike p.paint;
            };
      }

  -- ---- an access

  module _ (m p : List ℕ) (a : Access) where
    abbrev x : World
    x = record { state = s; memory = m; picture = p }

    same_refused : (n : ℕ) → SameOutcome (column_refused n b m p) (refused n s m p)
    unfolding column_refused refused
    same_refused n = record { status = refl; word = refl; known = refl; changed = refl; state = q; memory = refl; picture = refl }

    settled_same : (c : ColumnState) (n : State) (v u : Seen) → palette_ok s.palette ≡ true → Paired c n → palette_ok n.palette ≡ true → v ≡ u
        → (k : List ℕ) → SameOutcome (column_settled b m p c k u a.enables) (settled s m p n k (word_in v a.enables) (known_in v a.enables))
    unfolding column_settled settled
    settled_same c n v u ok r ok' e k =
        let f = same_words b s q ok m in
        let g = same_words c n r ok' k in
        record {
          status = refl;
          word = ap (λ (y : Seen). word_in y a.enables) e;
          known = ap (λ (y : Seen). known_in y a.enables) e;
          changed = ap₂ (λ (y w : ℕ → ℕ). diffs p (redrawn y w p)) f g;
          state = r;
          memory = refl;
          picture = ap₂ (λ (y w : ℕ → ℕ). redrawn y w p) f g;
        }

    accepted_patch : status_at x a ≡ 0 → patch_at x a ≡ patch_of s a
    unfolding patch_at accepted
    accepted_patch e = simp (eq-eqb (status_at x a) 0 e)

    same_done : status_at x a ≡ 0 → SameOutcome (column_done b m p a) (done_by s m p a)
    unfolding column_done done_by state_after memory_after applied
    same_done e =
        let ok = (sane s (unrefused s (length m) (length p) a e).state).palette in
        let h = subst (λ (y : Patch). Shaded y.paint) (accepted_patch e) (paint_shaded x a q.words.stage) in
        let g = subst (λ (y : Patch). Stage (Option.get_or y.dac s.dac)) (accepted_patch e) (stage_after x a q.words.stage) in
        subst (λ (y : Patch). SameOutcome (column_settled b m p (column_applied y b) (memory_with y m) (column_seen_by b m a) a.enables) (done_by s m p a))
        (sym (same_patch b s a q.alike))
        (settled_same (column_applied (patch_of s a) b) (applied (patch_of s a) s) _ _ ok (paired_after (patch_of s a) h g) (painted_ok (patch_of s a).paint s.palette h q.words.palette.length_is ok)
        (same_seen b s q ok m a) (memory_with (patch_of s a) m))

    pub same_step : SameOutcome (column_step b m p a) (step_of s m p a)
    unfolding column_step step_of given_by
    same_step =
        subst (λ (n : ℕ). SameOutcome (pick (eqb n 0) (column_done b m p a) (column_refused n b m p)) (step_of s m p a))
        (same_status b s q (length m) (length p) a)
        (by_test (eqb (status_at x a) 0) (λ t. simp t (same_done (eqb-true (status_at x a) 0 t))) (λ t. simp t (same_refused (status_at x a))))

-- ---- an opening

zeros_column : Column (replicate entry_count 0)
zeros_column = record { length_is = length-replicate {A = ℕ} entry_count 0; bytes = λ e. omega (arith, zeros_at entry_count e) }

reset_paired : (w h f : ℕ) → Paired (column_reset w h f) (reset_state w h f)
unfolding column_reset reset_state no_columns empty_palette reset_dac
reset_paired w h f =
    record {
      columns =
          record {
            palette = record { red = zeros_column; green = zeros_column; blue = zeros_column; stored = zeros_column };
            stage = record { red = omega arith; green = omega arith };
          };
      words =
          record {
            palette = record { length_is = length-replicate {A = ℕ} entry_count 0; words = λ e. omega (arith, zeros_at entry_count e) };
            stage = record { red = omega arith; green = omega arith };
          };
      alike =
          record
          { width = refl; height = refl; fitted = refl; once = refl; values = refl; knowns = refl; dac = refl; palette = λ e l. omega (arith, zeros_at entry_count e) };
    }

pub same_opening : (w h : ℕ) (m p : List ℕ) → SameOpening (column_open w h m p) (open_of w h m p)
unfolding column_open open_of
same_opening w h m p =
    by_test (eqb (opening_status w h (length m) (length p)) 0)
    (λ t. simp t (record { status = refl; state = reset_paired w h (length m); memory = refl; picture = refl }))
    (λ t. simp t (record { status = refl; state = reset_paired 0 0 0; memory = refl; picture = refl }))
