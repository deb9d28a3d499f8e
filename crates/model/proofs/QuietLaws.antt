-- Writes of registers that the picture does not show, and reads: every dot keeps its word.
-- A view reads four rows of the bank and the palette, and these writes leave them. Assumes nothing.
use Prim.Native.Nat.{ℕ, ◌%◌}
use mathlib.Core.Bool.{Bool, true, false}
use mathlib.Core.List.{List}
use mathlib.Core.Option.{Option, none, some}
use mathlib.Core.Path.{◌≡◌, refl, sym, ap, ◌∙◌}
use lib.ListN.{get_or}
use lib.Seq.{get_or-set_other}
use Rattle.bits.proofs.Bools.{clash}
use Rattle.chip.specs.declared.State.{State}
use Rattle.chip.specs.declared.Access.{Access}
use Rattle.chip.specs.declared.Dac.{Dac}
use Rattle.chip.specs.declared.Place.{Place}
use Rattle.chip.specs.declared.Place.TheVariants.{Register}
use Rattle.chip.specs.Bank.{screen_base, screen_stride, pixel_mask, color_mode}
use Rattle.chip.specs.Patch.{Store, Patch, valued, learned, painted, applied}
use Rattle.chip.specs.Port.{row_patch, port_at}
use Rattle.chip.specs.Palette.{entry_of}
use Rattle.chip.specs.View.{View, SameView}
use Rattle.chip.specs.Picture.{view_word, word_of}
use Rattle.chip.proofs.Views.{same_view_lem}
use Rattle.chip.proofs.Ports.{step_only, read_steps}
use Rattle.model.specs.Parts.{row_shows, Quiet, QuietUnless}

-- ---- a patch that leaves the four rows and the palette

-- a store to another row, or none
unfoldable Aside : Option Store → Type 0
Aside none = Unit {0}
Aside (some x) = row_shows x.row ≡ false

-- such a store leaves what the rows hold
valued_aside : (o : Option Store) (l : List ℕ) (k : ℕ) → Aside o → row_shows k ≡ true → get_or (valued o l) k 0 ≡ get_or l k 0
unfolding Aside
valued_aside none l k a t = refl
valued_aside (some x) l k a t = get_or-set_other l x.row k _ 0 (λ z. clash (row_shows k) t (ap row_shows z ∙ a))

learned_aside : (o : Option Store) (l : List ℕ) (k : ℕ) → Aside o → row_shows k ≡ true → get_or (learned o l) k 0 ≡ get_or l k 0
unfolding Aside
learned_aside none l k a t = refl
learned_aside (some x) l k a t = get_or-set_other l x.row k _ 0 (λ z. clash (row_shows k) t (ap row_shows z ∙ a))

patch_view : (p : Patch) (s : State) → Aside p.store → painted p.paint s.palette ≡ s.palette → SameView s (applied p s)
unfolding applied row_shows
patch_view p s a e =
    record {
      width = refl;
      height = refl;
      base = ap (λ (k : ℕ). k % 0x100000) (valued_aside p.store s.values screen_base a refl);
      base_known = ap (λ (k : ℕ). k % 0x100000) (learned_aside p.store s.knowns screen_base a refl);
      stride = ap (λ (k : ℕ). k % 0x100000) (valued_aside p.store s.values screen_stride a refl);
      stride_known = ap (λ (k : ℕ). k % 0x100000) (learned_aside p.store s.knowns screen_stride a refl);
      mask = ap (λ (k : ℕ). k % 256) (valued_aside p.store s.values pixel_mask a refl);
      mask_known = ap (λ (k : ℕ). k % 256) (learned_aside p.store s.knowns pixel_mask a refl);
      mode = ap (λ (k : ℕ). k % 32) (valued_aside p.store s.values color_mode a refl);
      palette = λ k. ap (λ (q : List ℕ). entry_of q k) e;
    }

quiet_patch : (p : Patch) (s : State) → Aside p.store → painted p.paint s.palette ≡ s.palette → Quiet s (applied p s)
unfolding word_of
quiet_patch p s a e m j = ap (λ (v : View). view_word v m j) (sym (same_view_lem s (applied p s) (patch_view p s a e)))

-- ---- the places

pub quiet_register : (d : Dac) (i : ℕ) (t : Bool) → t ≡ row_shows i → QuietUnless t d (Register i)
unfolding port_at row_patch Aside
quiet_register d i t r e s a q = quiet_patch (row_patch s i a) s (sym r ∙ e) refl

-- a read
pub quiet_read : (s : State) (a : Access) (p : Place) → Quiet s (applied (port_at s a p).fetched s)
unfolding Aside
quiet_read s a p m j =
    quiet_patch (step_only (port_at s a p).fetched.dac) s tt refl m j ∙ ap (λ (q : Patch). word_of (applied q s) m j) (sym (read_steps s a p))
