-- What an access makes of a palette entry, and of the palette's address, component and staged bytes.
-- From what it stores, by the place that it leads to (Does). Assumes nothing.
use Prim.Native.Nat.{ℕ, ◌<◌, ◌≤◌}
use mathlib.Core.Bool.{Bool, true, false, ◌&&◌, ◌||◌}
use mathlib.Core.Option.{Option, none, some, get_or}
use mathlib.Core.Path.{◌≡◌, refl, sym, ap, ◌∙◌, subst}
use native.Mathlib.Omega.{arith}
use borrow.Author.Tests.{eqb-true, eq-eqb, ne_eqb, ltb-true, ltb-false}
use lib.Dec.{eqb, ltb}
use Rattle.bits.specs.Choose.{pick}
use Rattle.bits.specs.Word.{lane_byte}
use Rattle.std.specs.Cmp.{first_so, second_so}
use Rattle.bits.proofs.Cases.{by_test, pick_by}
use Rattle.chip.specs.declared.Access.{Access}
use Rattle.chip.specs.declared.Colour.{Colour}
use Rattle.chip.specs.declared.Dac.{Dac}
use Rattle.chip.specs.Palette.{entry_count, entry_of}
use Rattle.chip.specs.Dac.{aimed_at, advanced, after_fetch, red_staged, both_staged, after_paint, completed_by}
use Rattle.chip.specs.Port.{kept_from}
use Rattle.chip.specs.Access.{is_write}
use Rattle.chip.specs.Trace.{World, after}
use Rattle.promises.specs.Good.{Good}
use Rattle.promises.specs.Width.{stored_byte}
use Rattle.promises.specs.History.{is_data, is_aim}
use Rattle.promises.specs.Frame.{Unstaged, Aimed, Advanced, Stages, completes, made_colour}
use Rattle.promises.specs.Loads.{disturbs}
use Rattle.promises.proofs.Widths.{kept_told}
use Rattle.promises.proofs.Patches.{puts_entry, entry_put}
use Rattle.promises.proofs.Dacs.{paint_advances}
use Rattle.promises.proofs.Does.{stepped, does}
use Rattle.promises.proofs.Contents.{entry_step}
use Rattle.promises.proofs.Address.{dac_step, component_le, data_not_aim}

-- ---- palette entries

entry_told : (x : World) (a : Access) (e : ℕ) → entry_put e x a ≡ pick (completes x a e) (some (some (made_colour x.state a))) none
unfolding completes made_colour completed_by both_staged puts_entry
entry_told x a e =
    ap (puts_entry e) (does x a).paint
    ∙ by_test (is_write a && is_data x a)
    (λ t. by_test (eqb x.state.dac.component 2 && eqb x.state.dac.staged 2) (λ u. simp (t, u, kept_told x.state a)) (λ u. simp (t, u)))
    (λ t. simp t)

pub entry_after : (x : World) (a : Access) (e : ℕ) → Good x → e < entry_count
    → entry_of (after x a).state.palette e ≡ pick (completes x a e) (some (made_colour x.state a)) (entry_of x.state.palette e)
entry_after x a e g h =
    entry_step e h x a g
    ∙ ap (λ (o : Option (Option Colour)). get_or o (entry_of x.state.palette e)) (entry_told x a e)
    ∙ by_test (completes x a e) (λ t. simp t) (λ t. simp t)

-- ---- the address, the component and the stage

-- setting the address
pub aim_after : (x : World) (a : Access) → is_aim x a ≡ true → Aimed (after x a).state.dac (lane_byte 0 a.word)
unfolding aimed_at
aim_after x a t =
    subst (λ (d : Dac). Aimed d (lane_byte 0 a.word))
    (sym (dac_step x a ∙ ap (λ (o : Option Dac). get_or o x.state.dac) (simp t at (does x a).dac)))
    (record { address = refl; known = refl; component = refl; staged = record { count = refl; red = refl; green = refl } })

-- a read or a write of palette data
advanced_is : (d : Dac) (n r g : ℕ) → d.component ≤ 2 → d.address < 256 → Advanced d (advanced d n r g)
unfolding advanced
advanced_is d n r g hc ha =
    by_test (ltb d.component 2)
    (λ q. let h = ltb-true d.component 2 q in simp q (record { component = omega arith; address = omega arith; known = refl }))
    (λ q. let h = ltb-false d.component 2 q in simp q (record { component = omega arith; address = omega arith; known = refl }))

pub data_after : (x : World) (a : Access) → Good x → is_data x a ≡ true → Advanced x.state.dac (after x a).state.dac
unfolding after_fetch
data_after x a g t =
    let hc = component_le x g in
    let ha = g.formed.address in
    subst (Advanced x.state.dac)
    (sym (dac_step x a ∙ ap (λ (o : Option Dac). get_or o x.state.dac) (simp (t, data_not_aim x a t) at (does x a).dac)))
    (pick_by (Advanced x.state.dac) (is_write a) _ _
    (paint_advances (Advanced x.state.dac) x.state.dac _ (λ n r g. advanced_is x.state.dac n r g hc ha))
    (advanced_is x.state.dac 0 0 0 hc ha))

-- what is staged after it
dac_after : (x : World) (a : Access) → is_data x a ≡ true → (after x a).state.dac ≡ stepped x.state a
dac_after x a t = dac_step x a ∙ ap (λ (o : Option Dac). get_or o x.state.dac) (simp (t, data_not_aim x a t) at (does x a).dac)

advanced_stage : (d : Dac) (n r g : ℕ) → ((advanced d n r g).staged ≡ n) × ((advanced d n r g).red ≡ r) × ((advanced d n r g).green ≡ g)
unfolding advanced
advanced_stage d n r g = by_test (ltb d.component 2) (λ q. simp q (refl, refl, refl)) (λ q. simp q (refl, refl, refl))

dropped : (d : Dac) → Unstaged (advanced d 0 0 0)
dropped d = let z = advanced_stage d 0 0 0 in record { count = z.0; red = z.1; green = z.2 }

painted_stages : (d : Dac) (v : ℕ) → Stages d (after_paint d v) v
unfolding after_paint red_staged
painted_stages d v =
    record {
      red = λ e. simp (eq-eqb d.component 0 e) (advanced_stage d 1 v 0);
      green = λ e s. simp (e, s) (advanced_stage d 2 d.red v);
      drops = λ n m. drop n (by_test (eqb d.component 1 && eqb d.staged 1) (λ q. absurd (m (eqb-true _ 1 (first_so (eqb d.component 1) _ q)) (eqb-true _ 1 (second_so (eqb d.component 1) _ q)))) (λ q. q));
    }
  where
    drop : (d.component ≡ 0 → ⊥) → (eqb d.component 1 && eqb d.staged 1) ≡ false → Unstaged (after_paint d v)
    drop n q = simp (ne_eqb d.component 0 n, q) (dropped d)

pub stages_after : (x : World) (a : Access) → is_data x a ≡ true → is_write a ≡ true → Stages x.state.dac (after x a).state.dac (stored_byte x.state (lane_byte 0 a.word))
stages_after x a t w =
    subst (λ (n : Dac). Stages x.state.dac n (stored_byte x.state (lane_byte 0 a.word))) (sym (dac_after x a t ∙ simp w))
    (subst (λ (v : ℕ). Stages x.state.dac (after_paint x.state.dac (kept_from x.state a)) v) (kept_told x.state a) (painted_stages x.state.dac (kept_from x.state a)))

pub drops_after : (x : World) (a : Access) → is_data x a ≡ true → is_write a ≡ false → Unstaged (after x a).state.dac
unfolding after_fetch
drops_after x a t w = subst Unstaged (sym (dac_after x a t ∙ simp w)) (dropped x.state.dac)

-- anything else
pub calm_after : (x : World) (a : Access) → disturbs x a ≡ false → (after x a).state.dac ≡ x.state.dac
unfolding disturbs
calm_after x a e =
    let t = neither (is_data x a) (is_aim x a) e in
    dac_step x a ∙ ap (λ (o : Option Dac). get_or o x.state.dac) (simp (t.1, t.0) at (does x a).dac)
  where
    neither : (u v : Bool) → (u || v) ≡ false → (u ≡ false) × (v ≡ false)
    neither true v e = (e, cc)
    neither false v e = (refl, e)
