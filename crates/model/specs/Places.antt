-- What is done at a place: what a read or a look replies, and what a write leaves of state, memory and picture.
use Rattle.std.specs.Prelude.{ℕ, ◌*◌, Bool, ◌&&◌, List, ◌≡◌, eqb, length}
use Rattle.chip.specs.declared.State.{State}
use Rattle.chip.specs.declared.Access.{Access}
use Rattle.chip.specs.declared.Colour.{Colour}
use Rattle.chip.specs.declared.Place.{Place}
use Rattle.chip.specs.declared.Reply.{Reply}
use Rattle.chip.specs.declared.Seen.{Seen}
use Rattle.chip.specs.Palette.{store_entry}
use Rattle.chip.specs.Patch.{applied, memory_with}
use Rattle.chip.specs.Picture.{word_of}
use Rattle.chip.specs.Port.{known_in, word_in, port_at}
use Rattle.chip.specs.Sound.{panel_ok}
use Rattle.picture.specs.declared.view.View.{View}
use Rattle.picture.specs.View.{dot_in, fits}
use Rattle.picture.specs.Draw.{Redraws}

-- in the enabled lanes
abbrev pub reply_of : Seen → ℕ → Reply
reply_of x e = record { status = 0; word = word_in x e; known = known_in x e }

-- the panel is within the limits, and the picture has its size (picture's fits, of a view and itself)
abbrev pub panel_fits : State → ℕ → Bool
panel_fits s pl = panel_ok s.width s.height && (eqb s.width s.width && eqb pl (s.width * s.height))

-- a write at place p: what it stores, and the dots that this changes, r of them
pub record Puts (s : State) (a : Access) (p : Place) (m l : List ℕ) (r : ℕ) (s' : State) (m' l' : List ℕ) : Type 0 where
  pub state : s' ≡ applied (port_at s a p).stored s
  pub memory : m' ≡ memory_with (port_at s a p).stored m
  pub drawn : Redraws (panel_fits s (length l)) (word_of s m) (word_of s' m') l r l'

-- a palette entry takes a colour, and the dots that this changes
pub record Paints (v : View) (e : ℕ) (c : Colour) (m p l : List ℕ) (r : ℕ) (p' l' : List ℕ) : Type 0 where
  pub palette : p' ≡ store_entry p e c
  pub drawn : Redraws (fits v v (length l)) (dot_in v p m) (dot_in v p' m) l r l'
