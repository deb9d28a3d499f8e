-- What moves a bit, and what disturbs a load, line by line: an accepted access that leads there.
-- By taking the tests apart and putting them together. Assumes nothing.
use Prim.Native.Nat.{ℕ}
use mathlib.Core.Bool.{true, false, ◌&&◌, and-false}
use mathlib.Core.Logic.{◌↔◌, ◌⊎◌, inl, inr}
use mathlib.Core.Option.{Option, none, some}
use mathlib.Core.Path.{◌≡◌, refl, ap}
use borrow.Author.Tests.{eqb-true, eq-eqb}
use Rattle.bits.proofs.Cases.{by_test}
use Rattle.std.specs.Cmp.{first_so, second_so}
use Rattle.bits.proofs.Bools.{clash}
use Rattle.chip.specs.declared.Access.{Access}
use Rattle.chip.specs.declared.Kind.TheVariants.{Write, Look}
use Rattle.chip.specs.declared.Place.TheVariants.{Register, Address, PaletteData}
use Rattle.chip.specs.Place.{place_of}
use Rattle.chip.specs.Access.{is_write}
use Rattle.chip.specs.Trace.{World}
use Rattle.chip.proofs.Operations.{is_write_lem, write_is, is_no_look, no_look_is}
use Rattle.promises.specs.Good.{status_at}
use Rattle.promises.specs.Reach.{reach_at}
use Rattle.promises.specs.Places.{Leads}
use Rattle.promises.specs.History.{accepted, Spot, is_data, is_aim}
use Rattle.promises.specs.Frame.{is_row, writes_row, moves, Moves}
use Rattle.promises.specs.Loads.{disturbs, Disturbs}
use Rattle.promises.proofs.DataParts.{data_parts}
use Rattle.promises.proofs.Sites.{names}
use Rattle.promises.proofs.Places.{leads_place, leads_register, leads_address, leads_palette}

module _ (x : World) (a : Access) where
  done : accepted x a ≡ true → status_at x a ≡ 0
  unfolding accepted
  done e = eqb-true (status_at x a) 0 e

  is_done : status_at x a ≡ 0 → accepted x a ≡ true
  unfolding accepted
  is_done e = eq-eqb (status_at x a) 0 e

  -- ---- a bit

  row_is : (o : Option ℕ) (r : ℕ) → is_row o r ≡ true → o ≡ some r
  row_is none r e = clash false e refl
  row_is (some i) r e = ap some (eqb-true i r e)

  moved : (q : Spot) → moves x a q ≡ true → Moves x a q
  unfolding moves writes_row
  moved q e =
      let w = first_so ((accepted x a && is_write a) && is_row (reach_at (place_of x.state a)).row q.row) _ e in
      let u = first_so (accepted x a && is_write a) _ w in
      record {
        accepted = done (first_so (accepted x a) _ u);
        write = is_write_lem a (second_so (accepted x a) _ u);
        place =
            leads_register x.state a q.row
            ((names (place_of x.state a)).row q.row (row_is (reach_at (place_of x.state a)).row q.row (second_so (accepted x a && is_write a) _ w)));
        reached = second_so ((accepted x a && is_write a) && is_row (reach_at (place_of x.state a)).row q.row) _ e;
      }

  moves_by : (q : Spot) → Moves x a q → moves x a q ≡ true
  unfolding moves writes_row reach_at
  moves_by q f = simp (is_done f.accepted, write_is a f.write, leads_place x.state a (Register q.row) f.place, eq-eqb q.row q.row refl, f.reached)

  pub moves_meant : (q : Spot) → (moves x a q ≡ true) ↔ Moves x a q
  moves_meant q = (moved q, moves_by q)

  -- ---- a load

  by_data : is_data x a ≡ true → Disturbs x a
  by_data e =
      let u = data_parts x a e in
      record {
        accepted = done u.accepted;
        lane = u.lane;
        by = inl (is_no_look a u.steps, leads_palette x.state a ((names (place_of x.state a)).paints u.paints));
      }

  by_aim : is_aim x a ≡ true → Disturbs x a
  unfolding is_aim
  by_aim e =
      let u = second_so (accepted x a) _ e in
      let v = second_so (is_write a) _ u in
      record {
        accepted = done (first_so (accepted x a) _ e);
        lane = second_so (reach_at (place_of x.state a)).aims _ v;
        by = inr (
          is_write_lem a (first_so (is_write a) _ u),
          leads_address x.state a ((names (place_of x.state a)).aims (first_so (reach_at (place_of x.state a)).aims _ v)),
        );
      }

  disturbed : disturbs x a ≡ true → Disturbs x a
  unfolding disturbs
  disturbed e = by_test (is_data x a) by_data (λ t. by_aim (simp t at e))

  disturbs_by : Disturbs x a → disturbs x a ≡ true
  unfolding disturbs is_data is_aim reach_at
  disturbs_by f = go f.by
    where
      go : ((a.kind ≡ Look → ⊥) × Leads x.state a PaletteData) ⊎ ((a.kind ≡ Write) × Leads x.state a Address) → disturbs x a ≡ true
      go (inl d) = simp (is_done f.accepted, no_look_is a d.0, leads_place x.state a PaletteData d.1, f.lane)
      go (inr d) = simp (is_done f.accepted, write_is a d.0, and-false, leads_place x.state a Address d.1, f.lane)

  pub disturbs_meant : (disturbs x a ≡ true) ↔ Disturbs x a
  disturbs_meant = (disturbed, disturbs_by)
