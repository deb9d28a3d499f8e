-- What the two layouts of the palette share does not depend on it: whatever a state's palette is, the refusals after the first, and what an access stores, are the same. (What is seen beside palette data, and the view, are in PaletteStep.)
-- Place by place, each by computing; then states that are alike share it, since without their palettes they are one. Assumes nothing.
use Prim.Native.Nat.{ℕ}
use mathlib.Core.List.{[]}
use mathlib.Core.Path.{◌≡◌, refl, ap, ◌∙◌}
use Rattle.chip.specs.declared.State.{State}
use Rattle.chip.specs.declared.Access.{Access}
use Rattle.chip.specs.declared.Place.{Place}
use Rattle.chip.specs.declared.Place.TheVariants.{Register, Address, PaletteData, Window, Blank, Nowhere}
use Rattle.chip.specs.Place.{place_of}
use Rattle.chip.specs.Port.{wide, row_patch, fetch_patch, kept_from, paint_patch, port_at}
use Rattle.chip.specs.Refusal.{port_of, later_lines}
use Rattle.chip.specs.Step.{patch_of}
use Rattle.promises.specs.PaletteColumns.{ColumnState, rest_of}
use Rattle.promises.specs.PaletteAlike.{Alike, filled}

-- a state without its palette
abbrev pub bare : State → State
bare s = filled s []

record Unread (s : State) (a : Access) (p : Place) : Type 0 where
  present : (port_at (bare s) a p).present ≡ (port_at s a p).present
  reads : (port_at (bare s) a p).reads ≡ (port_at s a p).reads
  writes : (port_at (bare s) a p).writes ≡ (port_at s a p).writes
  served : (port_at (bare s) a p).served ≡ (port_at s a p).served
  fetched : (port_at (bare s) a p).fetched ≡ (port_at s a p).fetched
  stored : (port_at (bare s) a p).stored ≡ (port_at s a p).stored

unread : (s : State) (a : Access) (p : Place) → Unread s a p
unfolding port_at row_patch fetch_patch paint_patch kept_from wide
unread s a (Register i) = record { present = refl; reads = refl; writes = refl; served = refl; fetched = refl; stored = refl }
unread s a Address = record { present = refl; reads = refl; writes = refl; served = refl; fetched = refl; stored = refl }
unread s a PaletteData = record { present = refl; reads = refl; writes = refl; served = refl; fetched = refl; stored = refl }
unread s a (Window i) = record { present = refl; reads = refl; writes = refl; served = refl; fetched = refl; stored = refl }
unread s a Blank = record { present = refl; reads = refl; writes = refl; served = refl; fetched = refl; stored = refl }
unread s a Nowhere = record { present = refl; reads = refl; writes = refl; served = refl; fetched = refl; stored = refl }

patch_unread : (s : State) (a : Access) → patch_of (bare s) a ≡ patch_of s a
unfolding patch_of port_of
patch_unread s a = let z = unread s a (place_of s a) in simp (z.stored, z.fetched)

lines_unread : (s : State) (ml pl : ℕ) (a : Access) → later_lines (bare s) ml pl a ≡ later_lines s ml pl a
unfolding later_lines port_of
lines_unread s ml pl a = let z = unread s a (place_of s a) in simp (z.present, z.reads, z.writes, z.served)

-- ---- states that are alike

pub rest_bare : (b : ColumnState) (s : State) → Alike b s → rest_of b ≡ bare s
rest_bare b s z = simp (z.width, z.height, z.fitted, z.once, z.values, z.knowns, z.dac)

pub same_patch : (b : ColumnState) (s : State) (a : Access) → Alike b s → patch_of (rest_of b) a ≡ patch_of s a
same_patch b s a z = ap (λ (t : State). patch_of t a) (rest_bare b s z) ∙ patch_unread s a

pub same_lines : (b : ColumnState) (s : State) (ml pl : ℕ) (a : Access) → Alike b s → later_lines (rest_of b) ml pl a ≡ later_lines s ml pl a
same_lines b s ml pl a z = ap (λ (t : State). later_lines t ml pl a) (rest_bare b s z) ∙ lines_unread s ml pl a
