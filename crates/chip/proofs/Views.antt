-- What a view depends on: four rows of the bank, the panel, and what each palette entry is.
-- Field by field. Assumes nothing.
use Rattle.std.proofs.Common.{◌≡◌}
use mathlib.Core.Path.{fun_ext}
use Rattle.chip.specs.declared.State.{State}
use Rattle.chip.specs.Palette.{entry_of}
use Rattle.chip.specs.View.{SameView, base_of, stride_of, mask_of, not_indexed, unplaced, fixed_of, view_of}

pub same_view_lem : (s n : State) → SameView s n → view_of n ≡ view_of s
unfolding view_of fixed_of unplaced not_indexed mask_of stride_of base_of
same_view_lem s n v =
    let p : entry_of n.palette ≡ entry_of s.palette = fun_ext v.palette in
    simp (v.width, v.height, v.base, v.base_known, v.stride, v.stride_known, v.mask, v.mask_known, v.mode, p)
