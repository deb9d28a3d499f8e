-- What of a view the redraws read beside its table: one record, and the panel's dots by it.
use Rattle.std.specs.Prelude.{ℕ, List, unwrap_or}
use Rattle.picture.specs.declared.view.Layout.{Layout}
use Rattle.picture.specs.declared.view.View.{View}
use Rattle.picture.specs.View.{units_in}
use Rattle.picture.specs.Draw.{look_at, Panel}

unfoldable pub layout_of : View → Layout
layout_of v =
    record { past = unwrap_or v.shown 0x02000000; base = units_in v.base; stride = units_in v.stride; width = v.width; height = v.height }

-- the words of the dots of a panel of some width
abbrev pub laid_dots : Layout → ℕ → List ℕ → List ℕ → ℕ → ℕ
laid_dots l w t m = look_at l.past l.base l.stride w t m

-- the layout fits its panel, and the picture is of the panel's size
abbrev pub Laid : Layout → ℕ → Type 0
Laid l size = Panel l.base.0 l.stride.0 l.width l.height size

-- the panel of the first, with base and stride of the second
abbrev pub LaidIn : Layout → Layout → ℕ → Type 0
LaidIn l k size = Panel k.base.0 k.stride.0 l.width l.height size
