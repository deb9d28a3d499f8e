-- A line gathered chunk by chunk is the line, wherever the chunks part it: after each chunk the buffer holds the line's first bytes.
-- And a buffer of 65 bytes is enough: what it holds of a line asks for what the line asks for. By the copy's laws. Assumes nothing.
use Prim.Native.Nat.{ℕ, ◌+◌, ◌-◌, ◌<◌, ◌≤◌, min}
use mathlib.Core.Bool.{Bool}
use mathlib.Core.List.{List, [], ◌++◌}
use mathlib.Core.Path.{◌≡◌, refl, sym, ap, ◌∙◌}
use native.Mathlib.Nat.{min-eq_left, min-eq_right, min-le_left, min-le_right}
use native.Mathlib.Omega.{arith}
use borrow.Author.Tests.{leb-true, leb-false}
use lib.Dec.{leb}
use lib.ListN.{length, take, drop, length-append}
use lib.Seq.{sets-eq, take_all, take_at, length-take-le, take-append-le, take-append-add}
use Rattle.bits.proofs.Cases.{by_test}
use Rattle.text.specs.declared.Taken.{Taken}
use Rattle.text.specs.Gather.{part_of, Gathers, Holds}
use Rattle.text.specs.Line.{line_of}
use Rattle.text.proofs.GatherLaws.{sets_past, copy_all, gathers_length}
use Rattle.text.proofs.LineLaws.{line_long}

-- nothing of a line is held at its start
pub starts : (buffer : List ℕ) → Holds buffer 0 []
starts buffer = record { count = sym (min-eq_left (omega arith)); same = refl }

counted : (a b c held r c' ab : ℕ) → held ≡ a → a ≤ c → r ≡ held + min b (c - held) → c' ≡ c → ab ≡ a + b → r ≡ min ab c'
counted a b c held r c' ab k s q e u =
    by_test (leb b (c - held))
    (λ t.
    let v = leb-true b (c - held) t in
    let w : min b (c - held) ≡ b = min-eq_left v in
    let x : r ≡ ab = omega arith in
    x ∙ sym (min-eq_left (omega arith)))
    (λ t.
    let v = leb-false b (c - held) t in
    let w : min b (c - held) ≡ c - held = min-eq_right (omega arith) in
    let x : r ≡ c' = omega arith in
    x ∙ sym (min-eq_right (omega arith)))

module _ {chunk : List ℕ} {from : ℕ} {l : List ℕ} {held : ℕ} {r : Taken} {l' : List ℕ} (line : List ℕ)
    (h : Holds l held line) (g : Gathers chunk from l held r l') where
  -- the buffer has room behind the line
  room : length line ≤ length l → Holds l' r.held (line ++ part_of chunk from)
  room s =
      let p = part_of chunk from in
      let m = min (length p) (length l - held) in
      let k : held ≡ length line = h.count ∙ min-eq_left s in
      let few : m ≤ length l - held = min-le_right (length p) (length l - held) in
      let less : m ≤ length p = min-le_left (length p) (length l - held) in
      let q = g.held' in
      let cut : length (take m p) ≡ m = length-take-le m p less in
      let front : length (take held l) ≡ held = length-take-le held l (omega arith) in
      let start : take held l ≡ line = h.same ∙ take_all held line (omega arith) in
      let whole : take held l ++ take m p ≡ line ++ take m p = ap (λ (f : List ℕ). f ++ take m p) start in
      let size : length (take held l ++ take m p) ≡ r.held = length-append (take held l) (take m p) ∙ (omega arith) in
      let reach : length line + m ≡ r.held = omega arith in
      record {
        count = counted (length line) (length p) (length l) held r.held (length l') (length (line ++ p)) k s q (gathers_length g) (length-append line p);
        same =
            ap (take r.held) (g.bytes ∙ sym (copy_all p l held) ∙ sets-eq (take m p) l held (omega arith)) ∙ take_at (take held l ++ take m p) (drop (held + length (take m p)) l) r.held size ∙ whole ∙ sym (take-append-add line p m) ∙ ap (λ (n : ℕ). take n (line ++ p)) reach;
      }

  -- the line has filled the buffer already
  full : length l < length line → Holds l' r.held (line ++ part_of chunk from)
  full s =
      let p = part_of chunk from in
      let k : held ≡ length l = h.count ∙ min-eq_right (omega arith) in
      let few = min-le_right (length p) (length l - held) in
      let q = g.held' in
      let z : r.held ≡ held = omega arith in
      let a = length-append line p in
      record {
        count = z ∙ k ∙ sym (gathers_length g) ∙ sym (min-eq_right (let e = gathers_length g in omega arith));
        same =
            ap (take r.held) (g.bytes ∙ sets_past p l held (omega arith)) ∙ ap (λ (n : ℕ). take n l) z ∙ h.same ∙ sym (take-append-le held line p (omega arith)) ∙ ap (λ (n : ℕ). take n (line ++ p)) (sym z);
      }

  pub goes_on : Holds l' r.held (line ++ part_of chunk from)
  goes_on =
      by_test (leb (length line) (length l))
      (λ t. room (leb-true (length line) (length l) t))
      (λ t. full (leb-false (length line) (length l) t))

pub asks_the_same : (buffer : List ℕ) (held : ℕ) (line : List ℕ) (looks : Bool) → length buffer ≡ 65 → Holds buffer held line
    → line_of looks (take held buffer) ≡ line_of looks line
asks_the_same buffer held line looks e h =
    by_test (leb (length line) 64)
    (λ t.
    let s = leb-true (length line) 64 t in
    let k : held ≡ length line = h.count ∙ min-eq_left (omega arith) in
    ap (line_of looks) (h.same ∙ take_all held line (omega arith)))
    (λ t.
    let s = leb-false (length line) 64 t in
    let k : held ≡ 65 = h.count ∙ min-eq_right (omega arith) ∙ e in
    let n : length (take held buffer) ≡ held = length-take-le held buffer (omega arith) in
    sym (line_long (take held buffer) looks (omega arith)) ∙ line_long line looks (omega arith))
