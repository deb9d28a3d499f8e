-- Bytes copied behind those that are held as far as the buffer goes, and what a caller's loop needs of a chunk's part.
-- Stores past a list's end do nothing, so that a copy cut short at the end is the whole one. Assumes nothing.
use Prim.Native.Nat.{ℕ, suc, ◌+◌, ◌-◌, ◌<◌, ◌≤◌, min}
use mathlib.Core.Bool.{Bool, true, false}
use mathlib.Core.List.{List, [], ◌∷◌, ◌++◌, append_assoc}
use mathlib.Core.Path.{◌≡◌, refl, sym, ap, ◌∙◌}
use native.Mathlib.Nat.{min-le_left, min-le_right, min-eq_left, min-eq_right}
use native.Mathlib.Omega.{arith}
use borrow.Author.Tests.{leb-true, leb-false, ltb-true}
use lib.Dec.{leb, ltb}
use lib.ListN.{length, take, drop, take-append-drop}
use lib.Seq.{drop-drop, sets-eq, sets, length-sets, set_out, length-take-le, take_all}
use Rattle.std.specs.Prelude.{Some, None}
use Rattle.std.proofs.lemmas.Option.{none-some}
use Rattle.bits.specs.Choose.{pick}
use Rattle.bits.proofs.Cases.{by_test}
use Rattle.text.specs.declared.Taken.{Taken}
use Rattle.text.specs.Gather.{part_of, Gathers}
use Rattle.text.proofs.WroteLaws.{sets_append}

-- ---- a copy as far as the buffer goes

pub sets_past : (vs l : List ℕ) (i : ℕ) → length l ≤ i → sets l i vs ≡ l
sets_past [] l i h = refl
sets_past (v ∷ vs) l i h =
    ap (λ (k : List ℕ). sets k (suc i) vs) (set_out l i v h) ∙ sets_past vs l (suc i) (omega arith)

module _ (s l : List ℕ) (held : ℕ) where
  -- what is left out is past the buffer's end
  pub copy_all : sets l held (take (min (length s) (length l - held)) s) ≡ sets l held s
  copy_all =
      by_test (leb (length s) (length l - held))
      (λ t.
      let q : min (length s) (length l - held) ≡ length s = min-eq_left (leb-true (length s) (length l - held) t) in
      ap (sets l held) (take_all (min (length s) (length l - held)) s (omega arith)))
      (λ t.
      let n = min (length s) (length l - held) in
      let h = leb-false (length s) (length l - held) t in
      let q : n ≡ length l - held = min-eq_right (omega arith) in
      let k : length (take n s) ≡ n = length-take-le n s (min-le_left (length s) (length l - held)) in
      let m = length-sets l held (take n s) in
      sym (ap (sets l held) (sym (take-append-drop n s)) ∙ sym (sets_append (take n s) (drop n s) l held _ refl) ∙ sets_past (drop n s) (sets l held (take n s)) (held + length (take n s)) (omega arith)))

-- the part of the buffer that is copied over, between what stands before and behind it
pub copy_over : (s l : List ℕ) (held f n : ℕ) (xs : List ℕ) → f ≡ min held (length l) → n ≡ min (length s) (length l - f) → xs ≡ take n s
    → take f l ++ (xs ++ drop n (drop f l)) ≡ sets l held s
copy_over s l held f n xs p q v =
    by_test (leb held (length l))
    (λ t.
    let h = leb-true held (length l) t in
    let e : f ≡ held = p ∙ min-eq_left h in
    let g : n ≡ min (length s) (length l - held) = q ∙ ap (λ (k : ℕ). min (length s) (length l - k)) e in
    let m = min-le_left (length s) (length l - held) in
    let o = min-le_right (length s) (length l - held) in
    let k : length xs ≡ n = ap length v ∙ length-take-le n s (omega arith) in
    ap (λ (i : ℕ). take i l ++ (xs ++ drop n (drop i l))) e
    ∙ ap (λ (r : List ℕ). take held l ++ (xs ++ r)) (drop-drop n held l ∙ ap (λ (i : ℕ). drop (held + i) l) (sym k))
    ∙ sym (append_assoc (take held l) xs (drop (held + length xs) l))
    ∙ sym (sets-eq xs l held (omega arith))
    ∙ ap (sets l held) (v ∙ ap (λ (i : ℕ). take i s) g)
    ∙ copy_all s l held)
    (λ t.
    let h = leb-false held (length l) t in
    let e : f ≡ length l = p ∙ min-eq_right (omega arith) in
    let z = min-le_right (length s) (length l - f) in
    let w : xs ≡ [] = v ∙ ap (λ (i : ℕ). take i s) (let y : n ≡ 0 = omega arith in y) in
    ap (λ (r : List ℕ). take f l ++ (r ++ drop n (drop f l))) w
    ∙ ap (λ (i : ℕ). take f l ++ drop i (drop f l)) (let y : n ≡ 0 = omega arith in y)
    ∙ take-append-drop f l
    ∙ sym (sets_past s l held (omega arith)))

-- ---- what a caller's loop needs: the buffer holds what is held, and every turn goes on

pick_some : (b : Bool) (x n : ℕ) → pick b (Some x) None ≡ Some n → (b ≡ true) × (x ≡ n)
pick_some true x n e = (refl, cc)
pick_some false x n e = absurd (none-some n e)

module _ {chunk : List ℕ} {from : ℕ} {l : List ℕ} {held : ℕ} {r : Taken} {l' : List ℕ} (g : Gathers chunk from l held r l') where
  pub gathers_held : held ≤ length l → r.held ≤ length l
  gathers_held h =
      let a = g.held' in
      let b = min-le_right (length (part_of chunk from)) (length l - held) in
      omega arith

  pub gathers_length : length l' ≡ length l
  gathers_length = ap length g.bytes ∙ length-sets l held (part_of chunk from)

  pub gathers_next : (n : ℕ) → r.next ≡ Some n → (from < n) × (n ≤ length chunk)
  gathers_next n e =
      let x = from + length (part_of chunk from) in
      let s = pick_some (ltb x (length chunk)) (x + 1) n (sym g.next ∙ e) in
      let h = ltb-true x (length chunk) s.0 in
      let q = s.1 in
      (omega arith, omega arith)
