-- A place is where 01 says that an access leads, both ways.
-- A row is found by its offset: the first at it is the only one, by one computed test for each part of the bank; then by the choices of a place. Assumes nothing.
use Prim.Native.Nat.{ℕ, ◌+◌, ◌-◌, ◌<◌}
use mathlib.Core.Bool.{Bool, true, false, not, ◌&&◌}
use mathlib.Core.List.{List, [], ◌∷◌}
use mathlib.Core.Logic.{inl, inr}
use mathlib.Core.Path.{◌≡◌, refl, sym, ap, ◌∙◌, subst}
use native.Mathlib.Omega.{arith}
use borrow.Author.Tests.{eqb-true, not-true, ltb-true, lt-ltb, leb-true, le-leb}
use lib.Dec.{eqb, leb, ltb}
use lib.ListN.{get_or, length}
use Rattle.bits.specs.Choose.{every_to, all}
use Rattle.bits.proofs.Cases.{by_test, pick_when}
use Rattle.std.specs.Cmp.{first_so, second_so}
use Rattle.bits.proofs.Bools.{every_at, pass, clash}
use Rattle.chip.specs.declared.State.{State}
use Rattle.chip.specs.declared.Access.{Access}
use Rattle.chip.specs.declared.Place.{Place}
use Rattle.chip.specs.declared.Place.TheVariants.{Register, Address, PaletteData, Window, Blank, Nowhere}
use Rattle.chip.specs.Row.{Row, absent, row_of}
use Rattle.chip.specs.Region.{region_rows}
use Rattle.chip.specs.Header.{header_rows}
use Rattle.chip.specs.Indirect.{indirect_rows}
use Rattle.chip.specs.Bank.{bank_count, region_count, header_count, header_first, indirect_first, bank_row, region_at, header_at, indirect_at, indirect_entry}
use Rattle.chip.specs.Dac.{address_known}
use Rattle.chip.specs.Place.{data_place, indexed_place, region_place, header_place, place_at, place_of}
use Rattle.chip.proofs.Computed.{computed}
use Rattle.promises.specs.Reach.{reach_at}
use Rattle.promises.specs.Places.{RowAt, Leads, address, palette, indexed, region, one, two, header, blank}

-- ---- a part of the bank: rows, the first one's number, and how many

-- the row found at an offset is at it
row_of_offset : (l : List Row) (o : ℕ) → row_of l o < length l → (get_or l (row_of l o) absent).offset ≡ o
row_of_offset [] o h = absurd (omega arith)
row_of_offset (r ∷ l) o h =
    by_test (eqb r.offset o)
    (λ t. simp t (eqb-true r.offset o t))
    (λ t. simp t (row_of_offset l o (let k = simp t at h in omega arith)))

-- row k of the part is the bank's, and the one found at its offset
part_test : List Row → ℕ → ℕ → Bool
part_test rows first k =
    eqb (bank_row (first + k)).offset (get_or rows k absent).offset && eqb (row_of rows (bank_row (first + k)).offset) k

-- so many rows, and each passes
part_passes : List Row → ℕ → ℕ → Bool
part_passes rows first n = eqb (length rows) n && every_to (part_test rows first) n

module _ (rows : List Row) (first n : ℕ) (passed : part_passes rows first n ≡ true) where
  at : (k : ℕ) → k < n → part_test rows first k ≡ true
  unfolding part_passes
  at k h = every_at (part_test rows first) n k (second_so (eqb (length rows) n) _ passed) h

  there : (o : ℕ) → row_of rows o < n → RowAt first (first + n) (first + row_of rows o) o
  unfolding part_test part_passes
  there o h =
      let q = first_so (eqb (bank_row (first + row_of rows o)).offset (get_or rows (row_of rows o) absent).offset) _ (at (row_of rows o) h) in
      let long : length rows ≡ n = eqb-true _ _ (first_so (eqb (length rows) n) _ passed) in
      record { least = omega arith; below = omega arith; offset = eqb-true _ _ q ∙ row_of_offset rows o (omega (arith, long)) }

  found : (i o : ℕ) → RowAt first (first + n) i o → first + row_of rows o ≡ i
  unfolding part_test
  found i o r =
      let k : i ≡ first + (i - first) = omega (arith, r.least) in
      let e = subst (λ (j : ℕ). (bank_row j).offset ≡ o) k r.offset in
      let t = at (i - first) (omega (arith, r.least, r.below)) in
      let q = eqb-true _ _ (second_so (eqb (bank_row (first + (i - first))).offset (get_or rows (i - first) absent).offset) _ t) in
      let z : row_of rows o ≡ i - first = ap (row_of rows) (sym e) ∙ q in
      omega (arith, z, r.least)

region_part : part_passes region_rows 0 region_count ≡ true
unfolding part_passes part_test computed
region_part = refl

header_part : part_passes header_rows header_first header_count ≡ true
unfolding part_passes part_test computed
header_part = refl

indirect_part : part_passes indirect_rows indirect_first 24 ≡ true
unfolding part_passes part_test computed
indirect_part = refl

region_there : (o : ℕ) → region_at o < region_count → RowAt 0 region_count (region_at o) o
unfolding region_at
region_there o h =
    subst (λ (i : ℕ). RowAt 0 region_count i o) (let e : 0 + row_of region_rows o ≡ row_of region_rows o = omega arith in e)
    (there region_rows 0 region_count region_part o h)

region_found : (i o : ℕ) → RowAt 0 region_count i o → region_at o ≡ i
unfolding region_at
region_found i o r = omega (arith, found region_rows 0 region_count region_part i o r)

header_there : (o : ℕ) → header_at o < indirect_first → RowAt header_first indirect_first (header_at o) o
unfolding header_at
header_there o h = there header_rows header_first header_count header_part o (omega arith)

header_found : (i o : ℕ) → RowAt header_first indirect_first i o → header_at o ≡ i
unfolding header_at
header_found i o r = found header_rows header_first header_count header_part i o r

pub indirect_there : (o : ℕ) → indirect_at o < bank_count → RowAt indirect_first bank_count (indirect_at o) o
unfolding indirect_at
indirect_there o h = there indirect_rows indirect_first 24 indirect_part o (omega arith)

pub indirect_found : (i o : ℕ) → RowAt indirect_first bank_count i o → indirect_at o ≡ i
unfolding indirect_at
indirect_found i o r = found indirect_rows indirect_first 24 indirect_part i o r

-- no register of region 0 stands at a port of the RAMDAC
off_ports : ℕ → List Bool
off_ports o = not (eqb o 0x4000) ∷ not (eqb o 0x4008) ∷ not (eqb o 0x4018) ∷ not (eqb o 0x4050) ∷ []

row_off_ports : ℕ → Bool
row_off_ports i = all (off_ports (bank_row i).offset)

all_off_ports : every_to row_off_ports region_count ≡ true
unfolding row_off_ports off_ports computed
all_off_ports = refl

region_off_ports : (i o : ℕ) → RowAt 0 region_count i o → all (off_ports o) ≡ true
unfolding row_off_ports
region_off_ports i o r = subst (λ (k : ℕ). all (off_ports k) ≡ true) r.offset (every_at row_off_ports region_count i all_off_ports r.below)

-- ---- from where it leads to the place

module _ (s : State) (a : Access) where
  pub leads_place : (p : Place) → Leads s a p → place_of s a ≡ p
  unfolding place_at region_place data_place indexed_place header_place address_known indirect_entry off_ports
  leads_place p (address t (inl o)) = simp (t, o)
  leads_place p (address t (inr o)) = simp (t, o)
  leads_place p (palette t o k) = simp (t, o, k)
  leads_place p (indexed t o k i r) =
      let f = indirect_found i s.dac.address r in
      simp (t, o, k, f, lt-ltb i bank_count r.below)
  leads_place p (region t i r) =
      let f = region_found i a.offset r in
      let z = region_off_ports i a.offset r in
      simp (
        t,
        not-true (eqb a.offset 0x4000) (pass (off_ports a.offset) z 0),
        not-true (eqb a.offset 0x4008) (pass (off_ports a.offset) z 1),
        not-true (eqb a.offset 0x4018) (pass (off_ports a.offset) z 2),
        not-true (eqb a.offset 0x4050) (pass (off_ports a.offset) z 3),
        f,
        lt-ltb i region_count r.below,
      )
  leads_place p (one t) = simp t
  leads_place p (two t) = simp t
  leads_place p (header t o i r) =
      let f = header_found i a.offset r in
      simp (t, le-leb a.offset 0xFC o, f, lt-ltb i indirect_first r.below)
  leads_place p (blank t o n) =
      by_test (ltb (header_at a.offset) indirect_first)
      (λ q. absurd (n (header_at a.offset) (header_there a.offset (ltb-true _ indirect_first q))))
      (λ q. simp (t, le-leb a.offset 0xFC o, q))

  -- ---- and back: a place that there is

  abbrev Led : Place → Type 0
  Led p = (reach_at p).here ≡ true → Leads s a p

  -- what stands nowhere needs no word
  nowhere : Led Nowhere
  unfolding reach_at
  nowhere n = clash false n refl

  data_led : a.target ≡ 0 → a.offset ≡ 0x4008 → Led (data_place s.dac)
  unfolding data_place address_known
  data_led t o = pick_when Led (eqb s.dac.known 0xFF) PaletteData Nowhere (λ k n. palette t o (eqb-true _ 0xFF k)) (λ k. nowhere)

  indexed_led : a.target ≡ 0 → a.offset ≡ 0x4050 → Led (indexed_place s.dac)
  unfolding indexed_place address_known indirect_entry
  indexed_led t o =
      pick_when Led (eqb s.dac.known 0xFF) _ Nowhere
      (λ k.
      pick_when Led (ltb (indirect_at s.dac.address) bank_count) (Register (indirect_at s.dac.address)) Nowhere
      (λ h n. indexed t o (eqb-true _ 0xFF k) (indirect_at s.dac.address) (indirect_there s.dac.address (ltb-true _ bank_count h))) (λ h. nowhere))
      (λ k. nowhere)

  region_led : a.target ≡ 0 → Led (region_place s.dac a.offset)
  unfolding region_place
  region_led t =
      pick_when Led (eqb a.offset 0x4000) Address _ (λ o n. address t (inl (eqb-true _ 0x4000 o))) (λ o.
      pick_when Led (eqb a.offset 0x4008) (data_place s.dac) _ (λ o. data_led t (eqb-true _ 0x4008 o)) (λ o.
      pick_when Led (eqb a.offset 0x4018) Address _ (λ o n. address t (inr (eqb-true _ 0x4018 o))) (λ o.
      pick_when Led (eqb a.offset 0x4050) (indexed_place s.dac) _ (λ o. indexed_led t (eqb-true _ 0x4050 o)) (λ o.
      pick_when Led (ltb (region_at a.offset) region_count) (Register (region_at a.offset)) Nowhere
      (λ h n. region t (region_at a.offset) (region_there a.offset (ltb-true _ region_count h))) (λ h. nowhere)))))

  header_led : a.target ≡ 3 → Led (header_place a.offset)
  unfolding header_place
  header_led t =
      pick_when Led (leb a.offset 0xFC) _ Nowhere
      (λ o.
      pick_when Led (ltb (header_at a.offset) indirect_first) (Register (header_at a.offset)) Blank
      (λ h n. header t (leb-true _ 0xFC o) (header_at a.offset) (header_there a.offset (ltb-true _ indirect_first h)))
      (λ h n. blank t (leb-true _ 0xFC o) (λ i r. clash _ (lt-ltb i indirect_first r.below) (ap (λ (k : ℕ). ltb k indirect_first) (sym (header_found i a.offset r)) ∙ h))))
      (λ o. nowhere)

  led : Led (place_of s a)
  unfolding place_at
  led =
      pick_when Led (eqb a.target 0) _ _ (λ t. region_led (eqb-true _ 0 t)) (λ t.
      pick_when Led (eqb a.target 1) _ _ (λ t n. one (eqb-true _ 1 t)) (λ t.
      pick_when Led (eqb a.target 2) _ _ (λ t n. two (eqb-true _ 2 t)) (λ t.
      pick_when Led (eqb a.target 3) _ Nowhere (λ t. header_led (eqb-true _ 3 t)) (λ t. nowhere))))

  pub place_leads : (p : Place) → (reach_at p).here ≡ true → place_of s a ≡ p → Leads s a p
  place_leads p n e = subst Led e led n

  -- each place that there is
  pub leads_register : (i : ℕ) → place_of s a ≡ Register i → Leads s a (Register i)
  unfolding reach_at
  leads_register i = place_leads (Register i) refl

  pub leads_address : place_of s a ≡ Address → Leads s a Address
  unfolding reach_at
  leads_address = place_leads Address refl

  pub leads_palette : place_of s a ≡ PaletteData → Leads s a PaletteData
  unfolding reach_at
  leads_palette = place_leads PaletteData refl

  pub leads_window : (i : ℕ) → place_of s a ≡ Window i → Leads s a (Window i)
  unfolding reach_at
  leads_window i = place_leads (Window i) refl

  pub leads_blank : place_of s a ≡ Blank → Leads s a Blank
  unfolding reach_at
  leads_blank = place_leads Blank refl
