-- An answer's word and known mask, from what it shows bit by bit.
-- A word is zero where it is not known, and two words with the same bits are equal. Assumes nothing.
use Prim.Native.Nat.{ℕ, ◌^◌, ◌<◌}
use mathlib.Core.Bool.{true, false}
use mathlib.Core.Option.{none, some}
use mathlib.Core.Path.{◌≡◌, sym, ◌∙◌}
use Rattle.bits.specs.Choose.{pick}
use Rattle.bits.specs.Bit.{bit}
use Rattle.bits.proofs.Cases.{by_test}
use Rattle.bits.proofs.Single.{by_bits}
use Rattle.chip.specs.declared.Access.{Access}
use Rattle.chip.specs.declared.Answer.{Answer}
use Rattle.chip.specs.Trace.{World, step}
use Rattle.promises.specs.History.{shows}
use Rattle.promises.proofs.Known.{seen_some, seen_none}
use Rattle.promises.proofs.Promise3Only.{zero_where_unknown, answers_are_words}

-- an answer that shows the bits of v in mask k, outside which v has none, and no others, is v, known in k
module _ (x : World) (a : Access) (v k : ℕ) (hv : v < 2 ^ 32) (hk : k < 2 ^ 32) (o : (b : ℕ) → b < 32 → bit b k ≡ false → bit b v ≡ false)
    (f : (b : ℕ) → b < 32 → shows (step x a).answer b ≡ pick (bit b k) (some (bit b v)) none) where
  abbrev r : Answer
  r = (step x a).answer

  in_mask : (b : ℕ) → b < 32 → bit b k ≡ true → (bit b r.known ≡ true) × (bit b v ≡ bit b r.word)
  unfolding shows
  in_mask b hb t = seen_some (bit b r.known) (bit b r.word) (bit b v) (f b hb ∙ simp t)

  outside_mask : (b : ℕ) → b < 32 → bit b k ≡ false → bit b r.known ≡ false
  unfolding shows
  outside_mask b hb t = seen_none (bit b r.known) (bit b r.word) (f b hb ∙ simp t)

  word_bit : (b : ℕ) → b < 32 → bit b r.word ≡ bit b v
  word_bit b hb =
      by_test (bit b k) (λ t. sym (in_mask b hb t).1) (λ t. zero_where_unknown x a b (outside_mask b hb t) ∙ sym (o b hb t))

  known_bit : (b : ℕ) → b < 32 → bit b r.known ≡ bit b k
  known_bit b hb = by_test (bit b k) (λ t. (in_mask b hb t).0 ∙ sym t) (λ t. outside_mask b hb t ∙ sym t)

  pub shown_word_lem : (r.word ≡ v) × (r.known ≡ k)
  shown_word_lem = (by_bits 32 r.word v (answers_are_words x a).0 hv word_bit, by_bits 32 r.known k (answers_are_words x a).1 hk known_bit)
