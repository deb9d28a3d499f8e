-- The picture after a write, from the parts that the write alters: equations that the check cites at each place. And the state after a read.
-- By the view that a state gives: what it does not read shows nothing. Assumes nothing.
use Prim.Native.Nat.{ℕ, ◌*◌}
use mathlib.Core.Bool.{true, false, ◌&&◌}
use mathlib.Core.List.{List}
use mathlib.Core.Option
use mathlib.Core.Option.{Option}
use mathlib.Core.Path.{◌≡◌, refl, sym, ap, ◌∙◌}
use lib.Dec.{eqb}
use Rattle.chip.specs.declared.State.{State}
use Rattle.chip.specs.declared.Access.{Access}
use Rattle.chip.specs.declared.Colour.{Colour}
use Rattle.chip.specs.declared.Dac.{Dac}
use Rattle.chip.specs.declared.Place.{Place}
use Rattle.chip.specs.Palette.{entry_of, store_entry}
use Rattle.chip.specs.Parts.{made}
use Rattle.chip.specs.Sound.{panel_ok}
use Rattle.chip.specs.Subsystem.{fixed_by}
use Rattle.chip.specs.Patch.{Patch, valued, learned, applied}
use Rattle.chip.specs.Picture.{colour_word, word_of, redrawn, diffs}
use Rattle.chip.specs.Port.{row_patch, port_at}
use Rattle.chip.proofs.Entries.{entry_other}
use Rattle.chip.proofs.Ports.{read_steps}
use Rattle.picture.specs.declared.view.View.{View}
use Rattle.picture.specs.View.{view_in, dot_in, fits}
use Rattle.picture.specs.Entry.{entry_marks}
use Rattle.picture.proofs.Parts.{still_redraws}
use Rattle.picture.proofs.MarkLaws.{marks_ruled, redraws_as}
use Rattle.picture.proofs.ViewLaws.{state_word}
use Rattle.registers.specs.Written.{store_at}
use Rattle.model.specs.Parts.{row_shows}
use Rattle.model.proofs.QuietLaws.{quiet_register}

-- the state after a read, by the RAMDAC that it leaves
pub read_left : (w h f o : ℕ) (vs ks pal : List ℕ) (d : Dac) (a : Access) (p : Place)
    → made w h f o vs ks pal (Option.get_or (port_at (made w h f o vs ks pal d) a p).fetched.dac d) ≡ applied (port_at (made w h f o vs ks pal d) a p).fetched (made w h f o vs ks pal d)
unfolding applied
read_left w h f o vs ks pal d a p = ap (λ (q : Patch). applied q (made w h f o vs ks pal d)) (sym (read_steps (made w h f o vs ks pal d) a p))

-- ---- the picture after a write, as equations

still_drawn : (f g : ℕ → ℕ) (l : List ℕ) → ((j : ℕ) → f j ≡ g j) → redrawn f g l ≡ l
still_drawn f g l h = sym (still_redraws true f g l h).picture

pub none_changed : (l : List ℕ) → diffs l l ≡ 0
none_changed l = ap (diffs l) (sym (still_drawn (λ j. 0) (λ j. 0) l (λ j. refl))) ∙ sym (still_redraws true (λ j. 0) (λ j. 0) l (λ j. refl)).count

pub same_drawn : (f : ℕ → ℕ) (l : List ℕ) → redrawn f f l ≡ l
same_drawn f l = still_drawn f f l (λ j. refl)

-- by the view and the palette of each state
pub state_drawn : (s n : State) (m m' l : List ℕ) → redrawn (word_of s m) (word_of n m') l
    ≡ redrawn (dot_in (view_in s.width s.height s.values s.knowns) s.palette m) (dot_in (view_in n.width n.height n.values n.knowns) n.palette m') l
state_drawn s n m m' l =
    sym (redraws_as true _ _ _ _ l (diffs l (redrawn (dot_in (view_in s.width s.height s.values s.knowns) s.palette m) (dot_in (view_in n.width n.height n.values n.knowns) n.palette m') l)) _ (state_word s m) (state_word n m') (record { picture = refl; count = refl })).picture

pub panel_fit : (w h : ℕ) (vs ks vs' ks' : List ℕ) (n : ℕ) → fits (view_in w h vs ks) (view_in w h vs' ks') n ≡ (panel_ok w h && (eqb w w && eqb n (w * h)))
unfolding fits view_in
panel_fit w h vs ks vs' ks' n = refl

module _ (w h f o o' : ℕ) (vs ks pal : List ℕ) (d d' : Dac) (m l : List ℕ) where
  -- no dot shows the RAMDAC's pointer
  pub dac_drawn : redrawn (word_of (made w h f o vs ks pal d) m) (word_of (made w h f o' vs ks pal d') m) l ≡ l
  dac_drawn = still_drawn _ _ l (λ j. sym (state_word (made w h f o vs ks pal d) m j) ∙ state_word (made w h f o' vs ks pal d') m j)

  -- nor a row that no view reads
  pub row_drawn : (i : ℕ) (a : Access) → row_shows i ≡ false
      → redrawn (word_of (made w h f o vs ks pal d) m) (word_of (made w h f o' (valued (Option.some (store_at o i a)) vs) (learned (Option.some (store_at o i a)) ks) pal d) m) l ≡ l
  unfolding applied port_at row_patch
  row_drawn i a g =
      still_drawn _ _ l (λ j. quiet_register d i _ refl g (made w h f o vs ks pal d) a refl m j
      ∙ sym (state_word (made w h f (Option.get_or (fixed_by o i a.enables) o) (valued (Option.some (store_at o i a)) vs) (learned (Option.some (store_at o i a)) ks) pal d) m j)
      ∙ state_word (made w h f o' (valued (Option.some (store_at o i a)) vs) (learned (Option.some (store_at o i a)) ks) pal d) m j)

-- the entry stored
pub entry_drawn : (v : View) (e : ℕ) (c : Colour) (m p l : List ℕ) → redrawn (dot_in v p m) (dot_in v (store_entry p e c) m) l
    ≡ redrawn (entry_marks v e m (colour_word (entry_of p e))) (entry_marks v e m (colour_word (entry_of (store_entry p e c) e))) l
entry_drawn v e c m p l =
    sym (marks_ruled v p (store_entry p e c) m e _ _ refl refl (λ k n. sym (entry_other p e k c n)) true l (diffs l (redrawn (entry_marks v e m (colour_word (entry_of p e))) (entry_marks v e m (colour_word (entry_of (store_entry p e c) e))) l)) _ (record { picture = refl; count = refl })).picture
