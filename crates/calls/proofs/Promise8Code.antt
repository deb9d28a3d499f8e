-- The three demands on the code: what follows from the contracts of `open`, `read`, `write` and `look`, and from what is lent to be read only staying as it is (Calls), for any call and
-- for any sequence of calls in which nobody else alters state, memory or picture. A run of calls is a run of the definitions (Calls), of which the other promises speak. Assumes nothing.
use Prim.Native.Nat.{ℕ, ◌+◌, ◌*◌, ◌%◌, ◌≤◌, ◌<◌}
use mathlib.Core.Bool.{Bool, true, false}
use mathlib.Core.List.{List, []}
use mathlib.Core.Logic.{◌↔◌, ◌⊎◌}
use mathlib.Core.Option.{some}
use mathlib.Core.Path.{◌≡◌, sym, ap, ◌∙◌, subst}
use lib.ListN.{get_or, length, replicate}
use Rattle.bits.specs.Bit.{bit}
use Rattle.bits.specs.Word.{inside, lanes_of}
use Rattle.chip.specs.declared.Access.{Access}
use Rattle.chip.specs.declared.Answer.{Answer}
use Rattle.chip.specs.declared.Opened.{Opened}
use Rattle.chip.specs.declared.Colour.{Colour}
use Rattle.chip.specs.declared.Kind.TheVariants.{Look}
use Rattle.chip.specs.declared.Place.TheVariants.{Register, Window}
use Rattle.chip.specs.Palette.{entry_count, Shades, entry_of}
use Rattle.chip.specs.State.{reset_state}
use Rattle.chip.specs.Sound.{is_state}
use Rattle.chip.specs.Place.{place_of}
use Rattle.chip.specs.Picture.{drawn, word_of}
use Rattle.chip.specs.Step.{Outcome, open_of}
use Rattle.chip.specs.Trace.{World, opened, step, after, run}
use Rattle.promises.specs.Good.{AreBytes, Good, Openable}
use Rattle.promises.specs.Places.{Leads}
use Rattle.promises.specs.History.{shows, Spot, Real, holds}
use Rattle.promises.specs.Frame.{moves, brought_bit, SameBit}
use Rattle.promises.specs.Refusals.{Words, Passes, Fails, OpeningHas}
use Rattle.promises.specs.Origin.{BitStored, BitStated, ByteStored, ByteLent}
use Rattle.promises.specs.Loads.{Loaded, NoLoad, ReadsPart, written, written_in}
use Rattle.promises.specs.Width.{eight_bits}
use Rattle.promises.specs.Told.{Told, ShownBy}
use Rattle.promises.specs.Lanes.{WritesWindow, ReadsThere}
use Rattle.promises.specs.Dots.{Ruled, dots_changed}
use Rattle.promises.specs.View.{SameWindow, command, ButRow}
use Rattle.promises.proofs.Promise1Refusals.{access_status, access_refused, access_done, status_among, refused_alters_nothing, opening_refused, refused_opening}
use Rattle.promises.proofs.Promise2States.{opening_gives, access_good, access_words, always_good, always_words, always_state}
use Rattle.promises.proofs.Promise3Only.{bits_move, bits_stay, without_lane_0, zero_where_unknown}
use Rattle.promises.proofs.Promise4Origins.{bit_exactly, byte_exactly, entry_exactly}
use Rattle.promises.proofs.Promise4Known.{known_exactly}
use Rattle.promises.proofs.Promise4Widths.{six_bits_back}
use Rattle.promises.proofs.Promise4Lanes.{written_back}
use Rattle.promises.proofs.Promise5Picture.{picture_right, count_right, lengths_stay, dot_ruled}
use Rattle.promises.proofs.Promise6Altered.{other_dots_stay, differing_dots_change}
use Rattle.promises.proofs.Promise7Depends.{aperture_depends, command_gates_nothing, command_alters_nothing}
use Rattle.promises.specs.PaletteColumns.{ColumnState, column_step, column_open, column_opened, column_took, column_run}
use Rattle.promises.specs.PaletteAlike.{Paired, SameOutcome, SameWorld}
use Rattle.promises.specs.Looks.{SameAsked, unlooked, answers_of, others_in}
use Rattle.promises.proofs.Promise9Looks.{look_alters_nothing, read_after_look, looks_change_nothing}
use Rattle.promises.proofs.Promise10Palette.{layouts_access, layouts_opening, layouts_world, layouts_answer, word_exactly, word_never}
use Rattle.calls.specs.Calls.{Called, OpenCalled, Calls}
use Rattle.calls.proofs.Calls.{call_answers, call_leaves, open_answers, open_leaves, calls_leave, calls_answer}

-- ---- any call at all, on any world

module _ (x : World) (a : Access) (r : Answer) (y : World) (c : Called x a r y) where
  -- what holds of the definition's answer and of what it leaves, holds of the call
  pub of_call : (P : Answer → World → Type 0) → P (step x a).answer (after x a) → P r y
  of_call P q = subst (λ (z : World). P r z) (sym (call_leaves x a r y c)) (subst (λ (z : Answer). P z (after x a)) (sym (call_answers x a r y c)) q)

  -- demand 1: it is refused as n exactly where it does not pass line n of 01's table and passes every line before ..
  pub call_refused : Words x.state → (n : ℕ) → 1 ≤ n → n ≤ 7 → (r.status ≡ n) ↔ Fails x a n
  call_refused k n u v = of_call (λ (q : Answer) (z : World). (q.status ≡ n) ↔ Fails x a n) (access_refused x a k n u v)

  -- .. and done exactly where it passes every line; there is no other status
  pub call_done : Words x.state → (r.status ≡ 0) ↔ ((n : ℕ) → 1 ≤ n → n ≤ 7 → Passes x a n)
  call_done k = of_call (λ (q : Answer) (z : World). (q.status ≡ 0) ↔ ((n : ℕ) → 1 ≤ n → n ≤ 7 → Passes x a n)) (access_done x a k)

  pub call_status_among : r.status ≤ 7
  call_status_among = of_call (λ (q : Answer) (z : World). q.status ≤ 7) (status_among x a)

  -- a refused one returns zero data, and state, memory and picture are as they were
  pub call_refused_alters_nothing : (r.status ≡ 0 → ⊥)
      → (y.state ≡ x.state) × (y.memory ≡ x.memory) × (y.picture ≡ x.picture) × (r.word ≡ 0) × (r.known ≡ 0) × (r.changed ≡ 0) × (r.state ≡ x.state)
  call_refused_alters_nothing =
      of_call
      (λ (q : Answer) (z : World).
      (q.status ≡ 0 → ⊥)
      → (z.state ≡ x.state) × (z.memory ≡ x.memory) × (z.picture ≡ x.picture) × (q.word ≡ 0) × (q.known ≡ 0) × (q.changed ≡ 0) × (q.state ≡ x.state))
      (λ d. let z = refused_alters_nothing x a d in (z.state, z.memory, z.picture, z.word, z.known, z.changed, z.state))

  -- demand 2: a state stays one, with buffers of its sizes and numbers that are words ..
  pub call_good : Good x → Good y
  call_good g = of_call (λ (q : Answer) (z : World). Good z) (access_good x a g)

  pub call_words : Good x → Words x.state → Words y.state
  call_words g k = of_call (λ (q : Answer) (z : World). Words z.state) (access_words x a g k)

  -- .. what it moves takes the word's bit, and every other stays ..
  pub call_bits_move : Good x → (q : Spot) → Real q → moves x a q ≡ true → holds y.state q ≡ some (brought_bit q a)
  call_bits_move g q k e = of_call (λ (t : Answer) (z : World). holds z.state q ≡ some (brought_bit q a)) (bits_move x a g q k e)

  pub call_bits_stay : Good x → (q : Spot) → Real q → moves x a q ≡ false → SameBit x.state y.state q
  call_bits_stay g q k e = of_call (λ (t : Answer) (z : World). SameBit x.state z.state q) (bits_stay x a g q k e)

  -- .. without lane 0 an accepted RAMDAC access does nothing and shows nothing ..
  pub call_without_lane_0 : Good x → Words x.state → a.target ≡ 0 → 0x4000 ≤ a.offset → r.status ≡ 0 → bit 0 a.enables ≡ false
      → (y.state ≡ x.state) × (y.memory ≡ x.memory) × (y.picture ≡ x.picture) × (r.word ≡ 0) × (r.known ≡ 0)
  call_without_lane_0 g k t f d l =
      let z = without_lane_0 x a g k t f (sym (access_status x a) ∙ ap (λ (q : Answer). q.status) (sym (call_answers x a r y c)) ∙ d) l in
      of_call
      (λ (q : Answer) (w : World). (w.state ≡ x.state) × (w.memory ≡ x.memory) × (w.picture ≡ x.picture) × (q.word ≡ 0) × (q.known ≡ 0))
      (z.state, z.memory, z.picture, z.word, z.known)

  -- .. and a bit is zero wherever it is not known
  pub call_zero_where_unknown : (b : ℕ) → bit b r.known ≡ false → bit b r.word ≡ false
  call_zero_where_unknown b = of_call (λ (q : Answer) (z : World). bit b q.known ≡ false → bit b q.word ≡ false) (zero_where_unknown x a b)

  -- demand 3: the changed count is the number of dots that differ from before; the buffers keep their lengths
  pub call_counts : r.changed ≡ dots_changed x.picture y.picture
  call_counts = of_call (λ (q : Answer) (z : World). q.changed ≡ dots_changed x.picture z.picture) (count_right x a)

  pub call_lengths : (length y.memory ≡ length x.memory) × (length y.picture ≡ length x.picture)
  call_lengths = of_call (λ (q : Answer) (z : World). (length z.memory ≡ length x.memory) × (length z.picture ≡ length x.picture)) (lengths_stay x a)

  -- a picture that somebody else altered: a dot whose word by the rules is the same before and after stays as lent, one whose word differs takes the new word
  pub call_dots_stay : (i : ℕ) → i < length x.picture → word_of x.state x.memory i ≡ word_of y.state y.memory i → get_or y.picture i 0 ≡ get_or x.picture i 0
  call_dots_stay i h =
      of_call (λ (q : Answer) (z : World). word_of x.state x.memory i ≡ word_of z.state z.memory i → get_or z.picture i 0 ≡ get_or x.picture i 0) (other_dots_stay x a i h)

  pub call_dots_change : (i : ℕ) → i < length x.picture → (word_of x.state x.memory i ≡ word_of y.state y.memory i → ⊥)
      → get_or y.picture i 0 ≡ word_of y.state y.memory i
  call_dots_change i h =
      of_call (λ (q : Answer) (z : World). (word_of x.state x.memory i ≡ word_of z.state z.memory i → ⊥) → get_or z.picture i 0 ≡ word_of z.state z.memory i)
      (differing_dots_change x a i h)

-- which outcome it is, is fixed: two calls of the same give the same
pub call_fixed : (x : World) (a : Access) (r r' : Answer) (y y' : World) → Called x a r y → Called x a r' y' → (r ≡ r') × (y ≡ y')
call_fixed x a r r' y y' c d =
    (call_answers x a r y c ∙ sym (call_answers x a r' y' d), call_leaves x a r y c ∙ sym (call_leaves x a r' y' d))

-- two calls through an aperture on worlds that share memory and its control register answer alike and leave the same memory
pub call_aperture : (x x' : World) (a : Access) (r r' : Answer) (y y' : World) → Called x a r y → Called x' a r' y' → (i : ℕ) → Good x → Good x'
    → place_of x.state a ≡ Window i → SameWindow x x' i → (r'.status ≡ r.status) × (r'.word ≡ r.word) × (r'.known ≡ r.known) × (y'.memory ≡ y.memory)
call_aperture x x' a r r' y y' c d i g h e v =
    let z = aperture_depends x x' a i g h e v in
    of_call x a r y c (λ (q : Answer) (w : World). (r'.status ≡ q.status) × (r'.word ≡ q.word) × (r'.known ≡ q.known) × (y'.memory ≡ w.memory))
    (of_call x' a r' y' d
    (λ (q : Answer) (w : World). (q.status ≡ (step x a).answer.status) × (q.word ≡ (step x a).answer.word) × (q.known ≡ (step x a).answer.known) × (w.memory ≡ (after x a).memory))
    (z.status, z.word, z.known, z.memory))

-- 02, C-17: the word that a call writes through an aperture, the next call, if it reads there with the same enables, gives back
pub call_written_back : (x : World) (a b : Access) (r s : Answer) (y z : World) → Called x a r y → Called y b s z → (i : ℕ) → Good x → WritesWindow x a i → ReadsThere a b
    → b.enables ≡ a.enables → (s.status ≡ 0) × (s.word ≡ inside a.word (lanes_of a.enables)) × (s.known ≡ lanes_of a.enables)
call_written_back x a b r s y z c d i g w f e =
    of_call y b s z d (λ (q : Answer) (v : World). (q.status ≡ 0) × (q.word ≡ inside a.word (lanes_of a.enables)) × (q.known ≡ lanes_of a.enables))
    (of_call x a r y c
    (λ (q : Answer) (v : World).
    ((step v b).answer.status ≡ 0) × ((step v b).answer.word ≡ inside a.word (lanes_of a.enables)) × ((step v b).answer.known ≡ lanes_of a.enables))
    (written_back x a b i g w f e))

-- 02, C-12: a look leaves the world as it was; a read after it, with the same target, offset and enables, answers what it showed ..
pub call_look : (x : World) (a : Access) (r : Answer) (y : World) → Called x a r y → a.kind ≡ Look → (y ≡ x) × (r.changed ≡ 0)
call_look x a r y c k = of_call x a r y c (λ (q : Answer) (z : World). (z ≡ x) × (q.changed ≡ 0)) (look_alters_nothing x a k)

pub call_read_after_look : (x : World) (a b : Access) (r s : Answer) (y z : World) → Called x a r y → Called y b s z → SameAsked a b
    → (s.status ≡ r.status) × (s.word ≡ r.word) × (s.known ≡ r.known)
call_read_after_look x a b r s y z c d f =
    of_call y b s z d (λ (q : Answer) (v : World). (q.status ≡ r.status) × (q.word ≡ r.word) × (q.known ≡ r.known))
    (of_call x a r y c
    (λ (q : Answer) (v : World). ((step v b).answer.status ≡ q.status) × ((step v b).answer.word ≡ q.word) × ((step v b).answer.known ≡ q.known))
    (let e = read_after_look x a b f in (sym e.status, sym e.word, sym e.known)))

-- .. and calls with looks among them leave what the calls without them leave, and answer reads and writes as these do
pub calls_without_looks : (x : World) (l : List Access) (rs qs : List Answer) (z v : World) → Calls x l rs z → Calls x (unlooked l) qs v
    → (z ≡ v) × (others_in l rs ≡ qs)
calls_without_looks x l rs qs z v c d = (
  calls_leave x l rs z c ∙ (looks_change_nothing x l).0 ∙ sym (calls_leave x (unlooked l) qs v d),
  ap (others_in l) (calls_answer x l rs z c) ∙ (looks_change_nothing x l).1 ∙ sym (calls_answer x (unlooked l) qs v d),
)

-- 02, C-15: a call does what the machine with the palette in four columns does, on a state that is alike: status, word, mask, count, memory and picture are the same, and the states are alike again ..
abbrev outcome : Answer → World → Outcome
outcome r y = record { answer = record { status = r.status; word = r.word; known = r.known; changed = r.changed; state = y.state }; memory = y.memory; picture = y.picture }

pub call_columns : (x : World) (a : Access) (r : Answer) (y : World) → Called x a r y → (b : ColumnState) → Paired b x.state
    → SameOutcome (column_step b x.memory x.picture a) (outcome r y)
call_columns x a r y c b q =
    of_call x a r y c (λ (t : Answer) (z : World). SameOutcome (column_step b x.memory x.picture a) (outcome t z))
    (layouts_access b x.state q x.memory x.picture a)

-- the command register gates no call, and one that does not lead to it answers alike and leaves the same memory
pub call_command : (x x' : World) (a : Access) (r r' : Answer) (y y' : World) → Called x a r y → Called x' a r' y' → Good x → Good x' → ButRow x x' command
    → (r'.status ≡ r.status) × ((Leads x.state a (Register command) → ⊥) → (r'.word ≡ r.word) × (r'.known ≡ r.known) × (y'.memory ≡ y.memory))
call_command x x' a r r' y y' c d g h b =
    of_call x a r y c
    (λ (q : Answer) (w : World).
    (r'.status ≡ q.status) × ((Leads x.state a (Register command) → ⊥) → (r'.word ≡ q.word) × (r'.known ≡ q.known) × (y'.memory ≡ w.memory)))
    (of_call x' a r' y' d
    (λ (q : Answer) (w : World).
    (q.status ≡ (step x a).answer.status)
    × ((Leads x.state a (Register command) → ⊥) → (q.word ≡ (step x a).answer.word) × (q.known ≡ (step x a).answer.known) × (w.memory ≡ (after x a).memory))) (
      command_gates_nothing x x' a g h b,
      λ n. let z = command_alters_nothing x x' a g h b n in (z.word, z.known, z.memory),
    ))

-- ---- an opening

module _ (w h : ℕ) (m p : List ℕ) (r : Opened) (x : World) (c : OpenCalled w h m p r x) where
  -- which status it has, each exactly where 01's line holds and no earlier one does
  pub open_refused : OpeningHas w h (length m) (length p) r.status
  open_refused = subst (λ (q : Opened). OpeningHas w h (length m) (length p) q.status) (sym (open_answers w h m p r x c)) (opening_refused w h m p)

  told : {n : ℕ} → r.status ≡ n → (open_of w h m p).answer.status ≡ n
  told e = ap (λ (q : Opened). q.status) (sym (open_answers w h m p r x c)) ∙ e

  -- one that is refused leaves a 0 by 0 state, and the buffers as lent ..
  pub open_refused_leaves : (r.status ≡ 0 → ⊥) → (x.state ≡ reset_state 0 0 0) × (x.memory ≡ m) × (x.picture ≡ p)
  open_refused_leaves d =
      subst (λ (z : World). (z.state ≡ reset_state 0 0 0) × (z.memory ≡ m) × (z.picture ≡ p)) (sym (open_leaves w h m p r x c))
      (refused_opening w h m p (λ e. d (ap (λ (q : Opened). q.status) (open_answers w h m p r x c) ∙ e)))

  -- .. and one that is not, the reset state, the picture all 03000000h, and memory as lent
  pub open_leaves_fresh : r.status ≡ 0 → (x.state ≡ reset_state w h (length m)) × (x.memory ≡ m) × (x.picture ≡ replicate (w * h) 0x03000000)
  open_leaves_fresh e =
      let f = opening_gives w h m p (told e) in
      subst (λ (z : World). (z.state ≡ reset_state w h (length m)) × (z.memory ≡ m) × (z.picture ≡ replicate (w * h) 0x03000000)) (sym (open_leaves w h m p r x c))
      (f.state, f.memory, f.picture)

  -- 02, C-15: and its status, state, memory and picture are those of the machine with the palette in four columns
  pub open_columns : (r.status ≡ (column_open w h m p).status) × SameWorld (column_opened w h m p) x
  open_columns =
      let o = layouts_opening w h m p in (
        ap (λ (q : Opened). q.status) (open_answers w h m p r x c) ∙ o.status,
        subst (SameWorld (column_opened w h m p)) (sym (open_leaves w h m p r x c)) (record { state = o.state; memory = o.memory; picture = o.picture }),
      )

-- ---- any sequence of calls after an opening

module _ (w h : ℕ) (m p : List ℕ) (r : Opened) (x : World) (c : OpenCalled w h m p r x) (l : List Access) (rs : List Answer) (z : World) (d : Calls x l rs z) where
  -- what the calls leave, and what each answers, is what the definitions give for the same list
  pub calls_agree : (z ≡ run (opened w h m p) l) × (rs ≡ answers_of (opened w h m p) l)
  calls_agree =
      let e = open_leaves w h m p r x c in (
        calls_leave x l rs z d ∙ ap (λ (u : World). run u l) e,
        calls_answer x l rs z d ∙ ap (λ (u : World). answers_of u l) e,
      )

  -- so every promise of the definitions holds of the code
  pub promised : (P : World → Type 0) → P (run (opened w h m p) l) → P z
  promised P q = subst P (sym calls_agree.0) q

  -- 02, C-15: .. and so along the calls after any opening, refused or not, with the answer of each
  pub calls_columns : SameWorld (column_run (column_opened w h m p) l) z
  calls_columns = promised (SameWorld (column_run (column_opened w h m p) l)) (layouts_world w h m p l)

  pub calls_columns_next : (a : Access) (s : Answer) (y : World) → Called z a s y → SameOutcome (column_took (column_run (column_opened w h m p) l) a) (outcome s y)
  calls_columns_next a s y e =
      of_call z a s y e (λ (t : Answer) (u : World). SameOutcome (column_took (column_run (column_opened w h m p) l) a) (outcome t u))
      (promised (λ (u : World). SameOutcome (column_took (column_run (column_opened w h m p) l) a) (step u a)) (layouts_answer w h m p l a))

  module _ (o : r.status ≡ 0) where
    -- demand 3: the picture is the one drawn afresh
    pub calls_picture : z.picture ≡ drawn z.state z.memory
    calls_picture = promised (λ (u : World). u.picture ≡ drawn u.state u.memory) (picture_right w h m p (told w h m p r x c o) l)

    -- for the rest memory is lent as bytes, as its type has it
    module _ (k : AreBytes m) where
      openable : Openable w h m p
      openable = record { accepted = told w h m p r x c o; bytes = k }

      -- a state is never lost
      pub calls_good : Good z × Words z.state
      calls_good = promised (λ (u : World). Good u × Words u.state) (always_good w h m p openable l, always_words w h m p openable l)

      pub calls_state : is_state z.state ≡ true
      calls_state = promised (λ (u : World). is_state u.state ≡ true) (always_state w h m p openable l)

      -- the word of each dot is the one of 01's rules
      pub calls_dots : (i : ℕ) → i < length z.picture → Ruled z.state z.memory i (get_or z.picture i 0)
      calls_dots = promised (λ (u : World). (i : ℕ) → i < length u.picture → Ruled u.state u.memory i (get_or u.picture i 0)) (dot_ruled w h m p openable l)

      -- demand 2: what is held after the calls, and from where ..
      pub calls_bits : (q : Spot) → Real q → (v : Bool) → (holds z.state q ≡ some v) ↔ (BitStored (opened w h m p) l q v ⊎ BitStated (opened w h m p) l q v)
      calls_bits q f v =
          promised (λ (u : World). (holds u.state q ≡ some v) ↔ (BitStored (opened w h m p) l q v ⊎ BitStated (opened w h m p) l q v)) (bit_exactly w h m p openable l q f v)

      pub calls_bytes : (i : ℕ) → i < length m → (v : ℕ) → (get_or z.memory i 0 ≡ v) ↔ (ByteStored (opened w h m p) l i v ⊎ ByteLent (opened w h m p) l i v)
      calls_bytes i f v =
          promised (λ (u : World). (get_or u.memory i 0 ≡ v) ↔ (ByteStored (opened w h m p) l i v ⊎ ByteLent (opened w h m p) l i v)) (byte_exactly w h m p openable l i f v)

      pub calls_entries : (e : ℕ) → e < entry_count → (f : Colour) → (entry_of z.state.palette e ≡ some f) ↔ Loaded (opened w h m p) l e f
      calls_entries e g f =
          promised (λ (u : World). (entry_of u.state.palette e ≡ some f) ↔ Loaded (opened w h m p) l e f) (entry_exactly w h m p openable l e g f)

      -- 02, C-15: an entry's word is 01RRGGBBh exactly where that colour was loaded last, and 0 exactly where none was
      pub calls_words : (e : ℕ) → e < entry_count
          → ((f : Colour) → Shades f → (get_or z.state.palette e 0 ≡ 0x01000000 + f.red * 0x10000 + f.green * 0x100 + f.blue) ↔ Loaded (opened w h m p) l e f)
          × ((get_or z.state.palette e 0 ≡ 0) ↔ NoLoad (opened w h m p) [] l e)
      calls_words e g =
          promised
          (λ (u : World).
          ((f : Colour) → Shades f → (get_or u.state.palette e 0 ≡ 0x01000000 + f.red * 0x10000 + f.green * 0x100 + f.blue) ↔ Loaded (opened w h m p) l e f)
          × ((get_or u.state.palette e 0 ≡ 0) ↔ NoLoad (opened w h m p) [] l e))
          (word_exactly w h m p openable l e g, word_never w h m p openable l e g)

      -- .. and what the next call shows as known, at every place, and from where
      pub calls_known : (a : Access) (s : Answer) (y : World) → Called z a s y → (b : ℕ) → b < 32 → (v : Bool) → (shows s b ≡ some v) ↔ ShownBy (opened w h m p) l a b v
      calls_known a s y e b hb v =
          of_call z a s y e (λ (q : Answer) (u : World). (shows q b ≡ some v) ↔ ShownBy (opened w h m p) l a b v)
          (promised (λ (u : World). (shows (step u a).answer b ≡ some v) ↔ ShownBy (opened w h m p) l a b v) (known_exactly w h m p openable l a b hb v))

      -- so a zero that nobody stated or stored is never shown as known
      pub calls_no_untold_zero : (a : Access) (s : Answer) (y : World) → Called z a s y → (b : ℕ) → b < 32
          → (Told (opened w h m p) l a b false → ⊥) → shows s b ≡ some false → ⊥
      calls_no_untold_zero a s y e b hb n f = n ((calls_known a s y e b hb false).0 f).told

      -- 02, C-13: what is written with six bits, and read with six, is read back modulo 64
      pub calls_six_bits : (a : Access) (s : Answer) (y : World) → Called z a s y → (f : ReadsPart (opened w h m p) l a) → eight_bits (written_in f) ≡ false → eight_bits z.state ≡ false
          → (s.word ≡ written f % 64) × (s.known ≡ 0xFF)
      calls_six_bits a s y e f g =
          of_call z a s y e (λ (q : Answer) (u : World). eight_bits z.state ≡ false → (q.word ≡ written f % 64) × (q.known ≡ 0xFF))
          (promised (λ (u : World). eight_bits u.state ≡ false → ((step u a).answer.word ≡ written f % 64) × ((step u a).answer.known ≡ 0xFF)) (six_bits_back w h m p openable l a f g))
