-- What a read or a look shows as known after an opening and any list of accesses is exactly what it was told.
-- Place by place, from what is shown there (Shown) and what is held there (Promise4Origins). Assumes nothing.
use Prim.Native.Nat.{ℕ, ◌+◌, ◌/◌, ◌%◌, ◌<◌}
use mathlib.Core.Bool.{Bool, true, false, not, beq}
use mathlib.Core.List.{List}
use mathlib.Core.Logic.{◌↔◌, ◌⊎◌, inl, inr}
use mathlib.Core.Option.{Option, none, some}
use mathlib.Core.Path.{◌≡◌, refl, sym, ap, ap₂, ◌∙◌, subst}
use native.Mathlib.Omega.{arith}
use borrow.Author.Tests.{eqb-true, ltb-true, lt-ltb}
use lib.Dec.{eqb, ltb}
use lib.ListN.{get_or, length}
use Rattle.bits.specs.Choose.{pick, every_to}
use Rattle.bits.specs.Bit.{bit}
use Rattle.bits.proofs.Cases.{by_test}
use Rattle.bits.proofs.Bools.{clash, every_at}
use Rattle.bits.proofs.Words.{beq_true}
use Rattle.bits.proofs.Single.{bit_of_zero}
use Rattle.chip.specs.declared.Access.{Access}
use Rattle.chip.specs.declared.Answer.{Answer}
use Rattle.chip.specs.declared.Colour.{Colour}
use Rattle.chip.specs.declared.Place.{Place}
use Rattle.chip.specs.declared.Place.TheVariants.{Register, Address, PaletteData, Window, Blank, Nowhere}
use Rattle.chip.specs.Palette.{entry_of}
use Rattle.chip.specs.Place.{place_of}
use Rattle.chip.specs.Port.{port_at}
use Rattle.chip.specs.Access.{is_write}
use Rattle.chip.specs.Refusal.{port_of}
use Rattle.chip.specs.Trace.{World, opened, step, after, run}
use Rattle.promises.specs.Along.{last_put}
use Rattle.promises.specs.Good.{Good, Openable, status_at}
use Rattle.promises.specs.Width.{read_byte, component_of}
use Rattle.promises.specs.History.{Seeing, seen_bit, shows, part_bit, spot, holds, aim_put}
use Rattle.promises.specs.Frame.{lane_at}
use Rattle.promises.specs.Origin.{SetBy, ByteStored, ByteLent, BitStored, BitStated, AddressSet, AddressAt}
use Rattle.promises.specs.Told.{Told, stored, stated, blank, address, palette, poked, lent, ShownBy}
use Rattle.promises.proofs.Options.{absurd_put, some_is, picked}
use Rattle.promises.proofs.Sites.{row_there, address_there}
use Rattle.promises.proofs.Places.{leads_place, leads_register, leads_address, leads_palette, leads_window, leads_blank}
use Rattle.chip.proofs.Operations.{is_no_write, no_write_is}
use Rattle.promises.proofs.Passed.{found_test}
use Rattle.promises.proofs.Worlds.{good_along, opened_good, opens, memory_along}
use Rattle.promises.proofs.Shown.{found, shows_register, shows_blank, shows_address, shows_palette, shows_memory}
use Rattle.promises.proofs.Pokes.{at_lt}
use Rattle.promises.proofs.Address.{set_or_not, never_set, set_at}
use Rattle.promises.proofs.Promise1Refusals.{access_status, refused_alters_nothing}
use Rattle.promises.proofs.Promise3Only.{writes_answer_zero}
use Rattle.promises.proofs.Promise4Origins.{bit_exactly, byte_exactly, entry_exactly}

-- ---- bits as they are seen

pub seen_some : (k u v : Bool) → seen_bit k u ≡ some v → (k ≡ true) × (v ≡ u)
unfolding seen_bit
seen_some k u v e = let z = picked k (some u) v e in (z.0, sym (some_is {x = u} z.1))

pub seen_none : (k u : Bool) → seen_bit k u ≡ none → k ≡ false
unfolding seen_bit
seen_none true u e = absurd_put (some u) u e refl
seen_none false u e = refl

seen_is : (k u v : Bool) → k ≡ true → v ≡ u → seen_bit k u ≡ some v
unfolding seen_bit
seen_is k u v e f = simp (e, f)

-- the bits of a byte
byte_bits : ℕ → Bool
byte_bits b = beq (bit b 0xFF) (ltb b 8)

byte_bits_all : every_to byte_bits 32 ≡ true
unfolding byte_bits bit
byte_bits_all = refl

pub in_byte : (b : ℕ) → b < 32 → bit b 0xFF ≡ ltb b 8
unfolding byte_bits
in_byte b h = beq_true _ _ (every_at byte_bits 32 b byte_bits_all h)

-- what answers 0 and 0 shows nothing
shows_nothing : (r : Answer) (b : ℕ) → r.known ≡ 0 → shows r b ≡ none
unfolding shows seen_bit
shows_nothing r b e = simp (e, bit_of_zero b)

module _ (w h : ℕ) (m p : List ℕ) (o : Openable w h m p) (l : List Access) (a : Access) (b : ℕ) (hb : b < 32) (v : Bool) where
  abbrev x : World
  x = run (opened w h m p) l

  good : Good x
  good = good_along (opened w h m p) l (opened_good w h m p o)

  -- only a read or a look that is accepted shows anything
  accepted_seeing : shows (step x a).answer b ≡ some v → Seeing x a
  accepted_seeing e =
      by_test (is_write a)
      (λ t. absurd_put _ v (shows_nothing (step x a).answer b (writes_answer_zero x a t).1) e)
      (λ t.
      by_test (eqb (status_at x a) 0)
      (λ q. record { read = t; done = eqb-true _ 0 q })
      (λ q. absurd_put _ v
      (shows_nothing (step x a).answer b
      (refused_alters_nothing x a (λ z. clash _ (ap (λ (k : ℕ). eqb k 0) (sym (access_status x a) ∙ z)) q)).known) e))

  module _ (q : Seeing x a) where
    abbrev lane : Bool
    lane = bit (b / 8) a.enables

    -- what is seen in an enabled lane, by what is told of it
    abbrev Tells : Option Bool → Type 0
    Tells s = (s ≡ some v) ↔ Told (opened w h m p) l a b v

    -- the address, set or not
    set_there : x.state.dac.known ≡ 0xFF → SetBy (opened w h m p) l
    set_there e = go (set_or_not (opened w h m p) l)
      where
        go : SetBy (opened w h m p) l ⊎ (last_put after aim_put (opened w h m p) l ≡ none) → SetBy (opened w h m p) l
        go (inl f) = f
        go (inr n) = absurd (let z : ◌≡◌ {A = ℕ} 0 0xFF = sym (never_set w h m p o l n) ∙ e in omega arith)

    address_at : (u n : ℕ) → AddressSet (opened w h m p) l u n → AddressAt x.state.dac u n
    address_at u n f = set_at (opened w h m p) l (opened_good w h m p o) u n f

    register_told : (r : ℕ) → place_of x.state a ≡ Register r → holds x.state (spot r b) ≡ some v → Told (opened w h m p) l a b v
    register_told r e f = go ((bit_exactly w h m p o l (spot r b) (record { row = row_there x.state a r e; bit = hb }) v).0 f)
      where
        go : BitStored (opened w h m p) l (spot r b) v ⊎ BitStated (opened w h m p) l (spot r b) v → Told (opened w h m p) l a b v
        go (inl f) = stored r (leads_register x.state a r e) f
        go (inr f) = stated r (leads_register x.state a r e) f

    address_told : place_of x.state a ≡ Address → seen_bit (bit b x.state.dac.known) (bit b x.state.dac.address) ≡ some v → Told (opened w h m p) l a b v
    address_told e f = go (set_or_not (opened w h m p) l)
      where
        z : (bit b x.state.dac.known ≡ true) × (v ≡ bit b x.state.dac.address)
        z = seen_some (bit b x.state.dac.known) (bit b x.state.dac.address) v f

        go : SetBy (opened w h m p) l ⊎ (last_put after aim_put (opened w h m p) l ≡ none) → Told (opened w h m p) l a b v
        go (inl s) =
            let t = address_at s.value s.steps s.set in
            address (leads_address x.state a e)
            (ltb-true b 8 (sym (in_byte b hb) ∙ ap (bit b) (sym t.known) ∙ z.0)) s.value s.steps s.set (z.1 ∙ ap (bit b) t.address)
        go (inr n) = clash false (sym (bit_of_zero b) ∙ ap (bit b) (sym (never_set w h m p o l n)) ∙ z.0) refl

    palette_told : place_of x.state a ≡ PaletteData
        → part_bit x.state x.state.dac.component b (entry_of x.state.palette x.state.dac.address) ≡ some v → Told (opened w h m p) l a b v
    unfolding part_bit
    palette_told e f = go (entry_of x.state.palette x.state.dac.address) refl f
      where
        s : SetBy (opened w h m p) l
        s = set_there (address_there x.state a e)

        t : AddressAt x.state.dac s.value s.steps
        t = address_at s.value s.steps s.set

        told : (c : Colour) → entry_of x.state.palette x.state.dac.address ≡ some c
            → (bit b 0xFF ≡ true) × (v ≡ bit b (read_byte x.state (component_of x.state.dac.component c))) → Told (opened w h m p) l a b v
        told c k z =
            palette (leads_palette x.state a e) (ltb-true b 8 (sym (in_byte b hb) ∙ z.0)) s.value s.steps s.set c
            ((entry_exactly w h m p o l ((s.value + s.steps / 3) % 256) (omega arith) c).0
            (ap (entry_of x.state.palette) (sym t.address) ∙ k))
            (z.1 ∙ ap (λ (n : ℕ). bit b (read_byte x.state (component_of n c))) t.component)

        go : (y : Option Colour) → entry_of x.state.palette x.state.dac.address ≡ y → part_bit x.state x.state.dac.component b y ≡ some v → Told (opened w h m p) l a b v
        go none k f = absurd_put none v refl f
        go (some c) k f = told c k (seen_some (bit b 0xFF) (bit b (read_byte x.state (component_of x.state.dac.component c))) v f)

    -- the byte of memory that a lane of the access exchanges with is fitted
    abbrev byte : ℕ → ℕ
    byte i = a.offset + lane_at (get_or x.state.values i 0) (b / 8)

    fitted : (i : ℕ) → place_of x.state a ≡ Window i → byte i < length m
    fitted i e =
        let f = (found_test x.state a).0 (ap not (found x.state _ _ a q.done)) in
        let z = f.fitted i (sym (leads_place x.state a f.place f.leads) ∙ e) in
        let n : length x.memory ≡ length m = memory_along (opened w h m p) l ∙ ap length (opens w h m p o.accepted).memory in
        let k = at_lt (get_or x.state.values i 0) (b / 8) (omega arith) in
        omega (arith, good.memory)

    memory_told : (i : ℕ) → place_of x.state a ≡ Window i → some (bit (b % 8) (get_or x.memory (byte i) 0)) ≡ some v → Told (opened w h m p) l a b v
    memory_told i e f = go ((byte_exactly w h m p o l (byte i) (fitted i e) (get_or x.memory (byte i) 0)).0 refl)
      where
        z : v ≡ bit (b % 8) (get_or x.memory (byte i) 0)
        z = sym (some_is {x = bit (b % 8) (get_or x.memory (byte i) 0)} f)

        go : ByteStored (opened w h m p) l (byte i) (get_or x.memory (byte i) 0) ⊎ ByteLent (opened w h m p) l (byte i) (get_or x.memory (byte i) 0) → Told (opened w h m p) l a b v
        go (inl f) = poked i (leads_window x.state a i e) (get_or x.memory (byte i) 0) f z
        go (inr f) = lent i (leads_window x.state a i e) (get_or x.memory (byte i) 0) f z

  -- ---- both ways

  -- an accepted access leads somewhere
  leads_on : Seeing x a → place_of x.state a ≡ Nowhere → ⊥
  unfolding port_of port_at
  leads_on q e = clash false (subst (λ (s : Place). (port_at x.state a s).present ≡ true) e (found x.state _ _ a q.done)) refl

  told_at : (q : Seeing x a) (s : Place) → place_of x.state a ≡ s → shows (step x a).answer b ≡ some v → (bit (b / 8) a.enables ≡ true) × Told (opened w h m p) l a b v
  told_at q (Register r) e f =
      let z = picked (bit (b / 8) a.enables) (holds x.state (spot r b)) v (sym (shows_register x a b q hb r e) ∙ f) in
      (z.0, register_told q r e z.1)
  told_at q Address e f =
      let z = picked (bit (b / 8) a.enables) (seen_bit (bit b x.state.dac.known) (bit b x.state.dac.address)) v (sym (shows_address x a b q hb e) ∙ f) in
      (z.0, address_told q e z.1)
  told_at q PaletteData e f =
      let z = picked (bit (b / 8) a.enables) _ v (sym (shows_palette x a b q hb e) ∙ f) in
      (z.0, palette_told q e z.1)
  told_at q (Window i) e f =
      let z = picked (bit (b / 8) a.enables) _ v (sym (shows_memory x a b q hb good i e) ∙ f) in
      (z.0, memory_told q i e z.1)
  told_at q Blank e f =
      let z = picked (bit (b / 8) a.enables) (some false) v (sym (shows_blank x a b q hb e) ∙ f) in
      (z.0, blank (leads_blank x.state a e) (sym (some_is {x = false} z.1)))
  told_at q Nowhere e f = absurd (leads_on q e)

  -- and back
  part_is : (c : Colour) → bit b 0xFF ≡ true → v ≡ bit b (read_byte x.state (component_of x.state.dac.component c))
      → part_bit x.state x.state.dac.component b (some c) ≡ some v
  unfolding part_bit
  part_is c e f = seen_is (bit b 0xFF) (bit b (read_byte x.state (component_of x.state.dac.component c))) v e f

  memory_shown : (q : Seeing x a) → bit (b / 8) a.enables ≡ true → (i : ℕ) → place_of x.state a ≡ Window i → (u : ℕ)
      → ByteStored (opened w h m p) l (a.offset + lane_at (get_or x.state.values i 0) (b / 8)) u ⊎ ByteLent (opened w h m p) l (a.offset + lane_at (get_or x.state.values i 0) (b / 8)) u
      → v ≡ bit (b % 8) u → shows (step x a).answer b ≡ some v
  memory_shown q t i e u f g =
      let y = (byte_exactly w h m p o l (a.offset + lane_at (get_or x.state.values i 0) (b / 8)) (fitted q i e) u).1 f in
      shows_memory x a b q hb good i e ∙ simp (t, y) (ap some (sym g))

  shown : (q : Seeing x a) → bit (b / 8) a.enables ≡ true → Told (opened w h m p) l a b v → shows (step x a).answer b ≡ some v
  shown q t (stored r d f) =
      let e = leads_place x.state a (Register r) d in
      shows_register x a b q hb r e ∙ simp t ((bit_exactly w h m p o l (spot r b) (record { row = row_there x.state a r e; bit = hb }) v).1 (inl f))
  shown q t (stated r d f) =
      let e = leads_place x.state a (Register r) d in
      shows_register x a b q hb r e ∙ simp t ((bit_exactly w h m p o l (spot r b) (record { row = row_there x.state a r e; bit = hb }) v).1 (inr f))
  shown q t (blank d f) = shows_blank x a b q hb (leads_place x.state a Blank d) ∙ simp (t, f)
  shown q t (address d k u n f g) =
      let z = address_at q u n f in
      shows_address x a b q hb (leads_place x.state a Address d)
      ∙ ap₂ (λ (s : Bool) (r : Option Bool). pick s r none) t (seen_is (bit b x.state.dac.known) (bit b x.state.dac.address) v (ap (bit b) z.known ∙ in_byte b hb ∙ lt-ltb b 8 k) (g ∙ ap (bit b) (sym z.address)))
  shown q t (palette d k u n f c r g) =
      let z = address_at q u n f in
      let e = leads_place x.state a PaletteData d in
      let y : entry_of x.state.palette x.state.dac.address ≡ some c =
      ap (entry_of x.state.palette) z.address ∙ (entry_exactly w h m p o l ((u + n / 3) % 256) (omega arith) c).1 r in
      shows_palette x a b q hb e
      ∙ ap₂ (λ (s : Bool) (r : Option Bool). pick s r none) t
      (ap (part_bit x.state x.state.dac.component b) y
      ∙ part_is c (in_byte b hb ∙ lt-ltb b 8 k) (g ∙ ap (λ (i : ℕ). bit b (read_byte x.state (component_of i c))) (sym z.component)))
  shown q t (poked i d u f g) = memory_shown q t i (leads_place x.state a (Window i) d) u (inl f) g
  shown q t (lent i d u f g) = memory_shown q t i (leads_place x.state a (Window i) d) u (inr f) g

  pub known_exact : (shows (step x a).answer b ≡ some v) ↔ ShownBy (opened w h m p) l a b v
  known_exact = (
    (λ f.
        let q = accepted_seeing f in
        let z = told_at q (place_of x.state a) refl f in
        record { accepted = q.done; read = is_no_write a q.read; lane = z.0; told = z.1 }),
    (λ f. shown (record { read = no_write_is a f.read; done = f.accepted }) f.lane f.told),
  )
