-- Promise 5, demand 3 on the definitions. After an opening and any list of reads, writes and looks, refused ones among them, the picture equals the picture drawn afresh, each
-- dot's word is the one of 01's rules, and each changed count is the number of dots that differ. From the laws of Pictures and Dots.
-- Assumes nothing.
use Prim.Native.Nat.{ℕ, suc, ◌+◌, ◌*◌, ◌<◌}
use mathlib.Core.List.{List, [], ◌∷◌}
use mathlib.Core.Option.{some}
use mathlib.Core.Path.{◌≡◌, refl, sym, ap, ap₂, ◌∙◌, subst}
use native.Mathlib.Omega.{arith}
use lib.Dec.{eqb}
use lib.ListN.{get_or, length}
use Rattle.bits.proofs.Cases.{by_test}
use Rattle.chip.specs.declared.State.{State}
use Rattle.chip.specs.declared.Access.{Access}
use Rattle.chip.specs.declared.Colour.{Colour}
use Rattle.chip.specs.Palette.{Shades, entry_of}
use Rattle.chip.specs.Step.{open_of}
use Rattle.chip.specs.Picture.{diffs, drawn, word_of}
use Rattle.chip.specs.Trace.{World, opened, step, after, run}
use Rattle.chip.proofs.Redraw.{drawn_length, drawn_at}
use Rattle.promises.specs.Good.{Openable}
use Rattle.promises.specs.Dots.{Ruled, dots_changed}
use Rattle.promises.proofs.Worlds.{memory_length, picture_length}
use Rattle.promises.proofs.Pictures.{right_along, opened_right, counted}
use Rattle.promises.proofs.Dots.{entry_shades, rules}

pub picture_right : (w h : ℕ) (m p : List ℕ) → (open_of w h m p).answer.status ≡ 0 → (l : List Access)
    → (run (opened w h m p) l).picture ≡ drawn (run (opened w h m p) l).state (run (opened w h m p) l).memory
picture_right w h m p o l = right_along (opened w h m p) l (opened_right w h m p o)

-- the count, of any access at all, on any world
changed_is : (p q : List ℕ) → length q ≡ length p → diffs p q ≡ dots_changed p q
unfolding dots_changed
changed_is [] q e = refl
changed_is (a ∷ p) [] e = absurd (let z : ◌≡◌ {A = ℕ} 0 (suc (length p)) = e in omega arith)
changed_is (a ∷ p) (b ∷ q) e =
    ap₂ (λ (m n : ℕ). m + n) (by_test (eqb a b) (λ t. simp t) (λ t. simp t)) (changed_is p q (let z : suc (length q) ≡ suc (length p) = e in omega arith))

pub count_right : (x : World) (a : Access) → (step x a).answer.changed ≡ dots_changed x.picture (after x a).picture
count_right x a = counted x a ∙ changed_is x.picture (after x a).picture (picture_length x a)

-- memory and picture keep their lengths
pub lengths_stay : (x : World) (a : Access) → (length (after x a).memory ≡ length x.memory) × (length (after x a).picture ≡ length x.picture)
lengths_stay x a = (memory_length x a, picture_length x a)

-- ---- each dot, by the rules

dot_of : (s : State) (m : List ℕ) (i : ℕ) → i < length (drawn s m) → get_or (drawn s m) i 0 ≡ word_of s m i
unfolding drawn
dot_of s m i h = drawn_at (word_of s m) 0 (s.width * s.height) i (omega (arith, h, drawn_length (word_of s m) 0 (s.width * s.height))) ∙ ap (word_of s m) (let e : 0 + i ≡ i = omega arith in e)

-- what an entry holds are bytes, whatever word it is (02, C-15)
pub byte_colours : (p : List ℕ) (e : ℕ) (c : Colour) → entry_of p e ≡ some c → Shades c
byte_colours = entry_shades

-- the word of a dot, of any state, is the one of 01's rules
pub word_ruled : (s : State) (m : List ℕ) (i : ℕ) → Ruled s m i (word_of s m i)
word_ruled = rules

module _ (w h : ℕ) (m p : List ℕ) (o : Openable w h m p) (l : List Access) where
  abbrev x : World
  x = run (opened w h m p) l

  -- so after an opening and any list of accesses the word of each dot is
  pub dot_ruled : (i : ℕ) → i < length x.picture → Ruled x.state x.memory i (get_or x.picture i 0)
  dot_ruled i hi =
      let e = picture_right w h m p o.accepted l in
      subst (Ruled x.state x.memory i)
      (sym (ap (λ (k : List ℕ). get_or k i 0) e ∙ dot_of x.state x.memory i (omega (arith, ap length e))))
      (rules x.state x.memory i)
