-- A state whose parts are lent one by one, and an answer from a reply and the parts as they are left.
use Rattle.std.specs.Prelude.{ℕ, List, [], ◌∷◌, slice_index}
use Rattle.chip.specs.declared.State.{State}
use Rattle.chip.specs.declared.Dac.{Dac}
use Rattle.chip.specs.declared.Answer.{Answer}
use Rattle.chip.specs.declared.Opened.{Opened}
use Rattle.chip.specs.declared.Reply.{Reply}
use Rattle.chip.specs.declared.Wrote.{Wrote}

-- the RAMDAC of six bytes, and its six bytes
abbrev pub dac_of : List ℕ → Dac
dac_of l =
    record
    { address = slice_index l 0; known = slice_index l 1; component = slice_index l 2; staged = slice_index l 3; red = slice_index l 4; green = slice_index l 5 }

abbrev pub dac_bytes : Dac → List ℕ
dac_bytes d = d.address ∷ d.known ∷ d.component ∷ d.staged ∷ d.red ∷ d.green ∷ []

-- the state of these parts ..
abbrev pub made : (w h f o : ℕ) (values knowns palette : List ℕ) → Dac → State
made w h f o values knowns palette d =
    record { width = w; height = h; fitted = f; once = o; values = values; knowns = knowns; palette = palette; dac = d }

-- .. and with the RAMDAC's part as it is lent
abbrev pub state_of : (w h f o : ℕ) (values knowns palette dac : List ℕ) → State
state_of w h f o values knowns palette dac = made w h f o values knowns palette (dac_of dac)

-- what a read or a look, a write and an opening answer, with the state that they leave. A read and a look change no word of the picture, and a write sees nothing
abbrev pub replied : State → Reply → Answer
replied s r = record { status = r.status; word = r.word; known = r.known; changed = 0; state = s }

abbrev pub wrote : State → Wrote → Answer
wrote s r = record { status = r.status; word = 0; known = 0; changed = r.changed; state = s }

abbrev pub opened : State → ℕ → Opened
opened s n = record { status = n; state = s }
