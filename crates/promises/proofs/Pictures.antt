-- The picture by the rules stays the picture by the rules, and each changed count is the number of dots that differ.
-- The redraw makes of the dots' words before an access those after it. Assumes nothing.
use Prim.Native.Nat.{ℕ, ◌*◌, ◌<◌}
use mathlib.Core.List.{List, [], ◌∷◌}
use mathlib.Core.Path.{◌≡◌, refl, sym, ap, ap₂, ◌∙◌}
use lib.Dec.{eqb}
use borrow.Author.Tests.{eq-eqb}
use lib.ListN.{get_or, length}
use Rattle.bits.proofs.Cases.{by_test}
use Rattle.chip.specs.declared.State.{State}
use Rattle.chip.specs.declared.Access.{Access}
use Rattle.chip.specs.State.{reset_state}
use Rattle.chip.specs.Picture.{word_of, chosen, redrawn, diffs, drawn}
use Rattle.chip.specs.Step.{Outcome, refused, settled, done_by, given_by, step_of, blank_word, open_of}
use Rattle.chip.specs.Trace.{World, opened, step, after, run}
use Rattle.chip.proofs.Computed.{computed}
use Rattle.chip.proofs.Redraw.{redrawn_at, redraws, drawn_one, diffs_self}
use Rattle.promises.specs.Good.{status_at}
use Rattle.promises.proofs.Worlds.{sizes_kept, opens}

-- the picture is the one that the rules draw
abbrev pub Right : World → Type 0
Right x = x.picture ≡ drawn x.state x.memory

-- ---- one access

redraws_right : (s n : State) (m k p : List ℕ) → p ≡ drawn s m → n.width * n.height ≡ s.width * s.height
    → redrawn (word_of s m) (word_of n k) p ≡ drawn n k
unfolding drawn
redraws_right s n m k p e d =
    ap (redrawn (word_of s m) (word_of n k)) e ∙ redraws (word_of s m) (word_of n k) (s.width * s.height)
    ∙ ap (Rattle.chip.specs.Picture.drawn_from (word_of n k) 0) (sym d)

abbrev RightBy : Outcome → Type 0
RightBy o = o.picture ≡ drawn o.answer.state o.memory

given_right : (n : ℕ) (s : State) (m p : List ℕ) (a : Access) → p ≡ drawn s m
    → (given_by n s m p a).answer.state.width * (given_by n s m p a).answer.state.height ≡ s.width * s.height → RightBy (given_by n s m p a)
unfolding given_by done_by settled refused
given_right n s m p a e d =
    by_test (eqb n 0)
    (λ q. simp q (redraws_right s _ m _ p e (simp q at d)))
    (λ q. simp q e)

pub right_kept : (x : World) (a : Access) → Right x → Right (after x a)
unfolding step_of
right_kept x a e =
    let z = sizes_kept x a in
    given_right (status_at x a) x.state x.memory x.picture a e (ap₂ (λ (w h : ℕ). w * h) z.width z.height)

pub right_along : (x : World) (l : List Access) → Right x → Right (run x l)
right_along x [] e = e
right_along x (a ∷ l) e = right_along (after x a) l (right_kept x a e)

-- ---- an opening

reset_word : (w h f : ℕ) (m : List ℕ) (i : ℕ) → word_of (reset_state w h f) m i ≡ blank_word
unfolding computed
reset_word w h f m i = refl

pub opened_right : (w h : ℕ) (m p : List ℕ) → (open_of w h m p).answer.status ≡ 0 → Right (opened w h m p)
unfolding drawn reset_state
opened_right w h m p o =
    let f = opens w h m p o in
    f.picture
    ∙ drawn_one (word_of (reset_state w h (length m)) m) blank_word 0 (w * h) (reset_word w h (length m) m)
    ∙ ap₂ (λ (s : State) (k : List ℕ). drawn s k) (sym f.state) (sym f.memory)

-- ---- the count, and an altered picture

given_count : (n : ℕ) (s : State) (m p : List ℕ) (a : Access) → (given_by n s m p a).answer.changed ≡ diffs p (given_by n s m p a).picture
unfolding given_by done_by settled refused
given_count n s m p a = by_test (eqb n 0) (λ q. simp q) (λ q. simp q (sym (diffs_self p)))

pub counted : (x : World) (a : Access) → (step x a).answer.changed ≡ diffs x.picture (after x a).picture
unfolding step_of
counted x a = given_count (status_at x a) x.state x.memory x.picture a

still : (a p : ℕ) → p ≡ chosen a a p
still a p = simp (eq-eqb a a refl)

given_dots : (n : ℕ) (s : State) (m p : List ℕ) (a : Access) (i : ℕ) → i < length p
    → get_or (given_by n s m p a).picture i 0
    ≡ chosen (word_of s m i) (word_of (given_by n s m p a).answer.state (given_by n s m p a).memory i) (get_or p i 0)
unfolding given_by done_by settled refused
given_dots n s m p a i h =
    by_test (eqb n 0)
    (λ q. simp q (redrawn_at _ _ p i h))
    (λ q. simp q (still (word_of s m i) (get_or p i 0)))

pub dots : (x : World) (a : Access) (i : ℕ) → i < length x.picture
    → get_or (after x a).picture i 0
    ≡ chosen (word_of x.state x.memory i) (word_of (after x a).state (after x a).memory i) (get_or x.picture i 0)
unfolding step_of
dots x a i h = given_dots (status_at x a) x.state x.memory x.picture a i h
