-- What an access makes of a register's bit, of a memory byte and of a palette entry: what it puts there, and else what was there.
-- Each from one part of what it stores, by the laws of set, of a merged word, of stores and of entries. Assumes nothing.
use Prim.Native.Nat.{ℕ, ◌^◌, ◌<◌}
use mathlib.Core.Bool.{Bool, true, false, ◌&&◌}
use mathlib.Core.List.{List, [], ◌∷◌}
use mathlib.Core.Option
use mathlib.Core.Option.{Option, none, some}
use mathlib.Core.Path.{◌≡◌, refl, sym, ap, ap₂, ◌∙◌, subst}
use native.Mathlib.Omega.{arith}
use borrow.Author.Tests.{eqb-true, eqb-false, eq-eqb}
use lib.Dec.{eqb}
use lib.ListN.{get_or, set, length, length-set}
use lib.Seq.{get_or-set_same, get_or-set_other}
use Rattle.bits.specs.Choose.{pick}
use Rattle.bits.specs.Bit.{bit}
use Rattle.bits.specs.Word.{joined, merged}
use Rattle.bits.proofs.Cases.{by_test, pick_by}
use Rattle.bits.proofs.Words.{bit_merged, bit_learned}
use Rattle.bits.proofs.Lists.{get_d_set}
use Rattle.chip.specs.declared.State.{State}
use Rattle.chip.specs.declared.Access.{Access}
use Rattle.chip.specs.declared.Colour.{Colour}
use Rattle.chip.specs.Palette.{entry_count, entry_of}
use Rattle.chip.specs.Dac.{Paint}
use Rattle.chip.specs.Aperture.{Put, put_all}
use Rattle.chip.specs.Patch.{Store, valued, learned, painted, applied, memory_with}
use Rattle.chip.specs.Place.{place_of}
use Rattle.chip.specs.Port.{row_patch}
use Rattle.chip.specs.Trace.{World, after}
use Rattle.chip.proofs.Entries.{entry_stored}
use Rattle.promises.specs.Good.{Formed, Good}
use Rattle.promises.specs.Along.{later_of}
use Rattle.promises.specs.Reach.{reach_at}
use Rattle.promises.specs.History.{seen_bit, Spot, Real, holds}
use Rattle.promises.specs.Frame.{SameBit}
use Rattle.promises.proofs.Stages.{Shaded, paint_shaded}
use Rattle.promises.proofs.Patches.{patch_at, puts_bit, last_poke, puts_entry}
use Rattle.promises.proofs.Bank.{stored_lt}
use Rattle.promises.proofs.Does.{store_from, writes, does}
use Rattle.promises.proofs.Worlds.{after_state, after_memory}

-- ---- a register's bit, over plain values

module _ (l : List ℕ) (i r b bits word : ℕ) (hr : r < length l) (hb : b < 32) (hm : bits < 2 ^ 32) where
  value_set : bit b (get_or (set l i (merged (get_or l i 0) word bits)) r 0) ≡ pick (eqb i r && bit b bits) (bit b word) (bit b (get_or l r 0))
  value_set =
      by_test (eqb i r)
      (λ q. let d : i ≡ r = eqb-true i r q in
      rw (d, eq-eqb r r refl, get_or-set_same l r _ 0 hr, bit_merged b (get_or l r 0) word bits hb hm))
      (λ q. let d : r ≡ i → ⊥ = λ z. eqb-false i r q (sym z) in rw (q, get_or-set_other l i r _ 0 d))

  known_set : bit b (get_or (set l i (joined (get_or l i 0) bits)) r 0) ≡ pick (eqb i r && bit b bits) true (bit b (get_or l r 0))
  known_set =
      by_test (eqb i r)
      (λ q. let d : i ≡ r = eqb-true i r q in
      rw (d, eq-eqb r r refl, get_or-set_same l r _ 0 hr, bit_learned b (get_or l r 0) bits))
      (λ q. let d : r ≡ i → ⊥ = λ z. eqb-false i r q (sym z) in rw (q, get_or-set_other l i r _ 0 d))

-- a stored bit is known and has its value; another is as it was
seen_stored : (t k v y : Bool) → seen_bit (pick t true k) (pick t y v) ≡ Option.get_or (pick t (some (some y)) none) (seen_bit k v)
unfolding seen_bit
seen_stored true k v y = refl
seen_stored false k v y = refl

-- ---- a register's bit after a store

-- the bits of a store are bits of a word
Narrow : Option Store → Type 0
Narrow none = Unit {0}
Narrow (some x) = x.bits < 2 ^ 32

narrow : (x : World) (a : Access) → Narrow (patch_at x a).store
unfolding Narrow row_patch
narrow x a =
    subst Narrow (sym (does x a).store)
    (pick_by Narrow (writes x a) _ none (from (reach_at (place_of x.state a)).row) tt)
  where
    from : (i : Option ℕ) → Narrow (store_from x.state a i)
    from none = tt
    from (some i) = stored_lt x.state.once i a.enables a.word

module _ (s : State) (f : Formed s) (q : Spot) (h : Real q) where
  spot_with : (o : Option Store) → Narrow o
      → seen_bit (bit q.b (get_or (learned o s.knowns) q.row 0)) (bit q.b (get_or (valued o s.values) q.row 0))
      ≡ Option.get_or (puts_bit q o) (holds s q)
  unfolding holds puts_bit Narrow
  spot_with none n = refl
  spot_with (some x) n =
      ap₂ seen_bit
      (known_set s.knowns x.row q.row q.b x.bits x.word (omega (arith, f.knowns, h.row)) h.bit n)
      (value_set s.values x.row q.row q.b x.bits x.word (omega (arith, f.values, h.row)) h.bit n)
      ∙ seen_stored (eqb x.row q.row && bit q.b x.bits) _ _ (bit q.b x.word)

  -- a bit into which nothing is put
  record Same (o : Option Store) : Type 0 where
    value : bit q.b (get_or (valued o s.values) q.row 0) ≡ bit q.b (get_or s.values q.row 0)
    known : bit q.b (get_or (learned o s.knowns) q.row 0) ≡ bit q.b (get_or s.knowns q.row 0)

  same_with : (o : Option Store) → Narrow o → puts_bit q o ≡ none → Same o
  unfolding puts_bit Narrow
  same_with none n e = record { value = refl; known = refl }
  same_with (some x) n e =
      let t : (eqb x.row q.row && bit q.b x.bits) ≡ false = not_put (eqb x.row q.row && bit q.b x.bits) (bit q.b x.word) e in
      record {
        value =
            value_set s.values x.row q.row q.b x.bits x.word (omega (arith, f.values, h.row)) h.bit n
            ∙ ap (λ (u : Bool). pick u (bit q.b x.word) (bit q.b (get_or s.values q.row 0))) t;
        known =
            known_set s.knowns x.row q.row q.b x.bits x.word (omega (arith, f.knowns, h.row)) h.bit n
            ∙ ap (λ (u : Bool). pick u true (bit q.b (get_or s.knowns q.row 0))) t;
      }
    where
      not_put : (t y : Bool) → ◌≡◌ {A = Option (Option Bool)} (pick t (some (some y)) none) none → t ≡ false
      not_put true y e = cc
      not_put false y e = refl

pub spot_step : (q : Spot) → Real q → (x : World) (a : Access) → Good x
    → holds (after x a).state q ≡ Option.get_or (puts_bit q (patch_at x a).store) (holds x.state q)
unfolding applied holds
spot_step q h x a g = ap (λ (s : State). holds s q) (after_state x a) ∙ spot_with x.state g.formed q h (patch_at x a).store (narrow x a)

pub same_step : (q : Spot) → Real q → (x : World) (a : Access) → Good x → puts_bit q (patch_at x a).store ≡ none → SameBit x.state (after x a).state q
unfolding applied
same_step q h x a g e =
    let z = same_with x.state g.formed q h (patch_at x a).store (narrow x a) e in
    subst (λ (n : State). SameBit x.state n q) (sym (after_state x a)) (record { value = z.value; known = z.known })

-- ---- a memory byte after stores

later_byte : (p q : Option ℕ) (d : ℕ) → Option.get_or p (Option.get_or q d) ≡ Option.get_or (later_of p q) d
later_byte none q d = refl
later_byte (some v) q d = refl

one_byte : (t : Bool) (y d : ℕ) → pick t y d ≡ Option.get_or (pick t (some y) none) d
one_byte true y d = refl
one_byte false y d = refl

poked_at : (k : ℕ) (m : List ℕ) (l : List Put) → k < length m → get_or (put_all m l) k 0 ≡ Option.get_or (last_poke k l) (get_or m k 0)
poked_at k m [] h = refl
poked_at k m (x ∷ l) h =
    poked_at k (set m x.at.0 x.byte) l (omega (arith, length-set m x.at.0 x.byte))
    ∙ ap (Option.get_or (last_poke k l)) (get_d_set m x.at.0 k x.byte 0 h ∙ one_byte (eqb x.at.0 k) x.byte (get_or m k 0))
    ∙ later_byte (last_poke k l) (pick (eqb x.at.0 k) (some x.byte) none) (get_or m k 0)

pub poked_step : (k : ℕ) (x : World) (a : Access) → k < length x.memory
    → get_or (after x a).memory k 0 ≡ Option.get_or (last_poke k (patch_at x a).puts) (get_or x.memory k 0)
unfolding memory_with
poked_step k x a h = ap (λ (m : List ℕ). get_or m k 0) (after_memory x a) ∙ poked_at k x.memory (patch_at x a).puts h

-- ---- a palette entry after it was painted

entry_over : (t : Bool) (c : Colour) (d : Option Colour) → pick t (some c) d ≡ Option.get_or (pick t (some (some c)) none) d
entry_over true c d = refl
entry_over false c d = refl

painted_entry : (o : Option Paint) (p : List ℕ) (e : ℕ) → Shaded o → length p ≡ entry_count → e < entry_count
    → entry_of (painted o p) e ≡ Option.get_or (puts_entry e o) (entry_of p e)
unfolding puts_entry
painted_entry none p e s l h = refl
painted_entry (some x) p e s l h = entry_stored p x.entry e x.colour s l h ∙ entry_over (eqb x.entry e) x.colour (entry_of p e)

pub entry_step : (e : ℕ) → e < entry_count → (x : World) (a : Access) → Good x
    → entry_of (after x a).state.palette e ≡ Option.get_or (puts_entry e (patch_at x a).paint) (entry_of x.state.palette e)
unfolding applied
entry_step e h x a g =
    let f = g.formed in
    ap (λ (s : State). entry_of s.palette e) (after_state x a)
    ∙ painted_entry (patch_at x a).paint x.state.palette e (paint_shaded x a f.stage) f.palette h
