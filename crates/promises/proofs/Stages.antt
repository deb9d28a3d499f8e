-- What an access stages, and the colour of an entry that it stores, are bytes, where what was staged before is; so the palette after it is one of words that refusal 1 passes.
-- From what an access stores, part by part (Does); a written byte is one by its lane and width. Assumes nothing.
use Prim.Native.Nat.{ℕ, ◌^◌, ◌<◌}
use mathlib.Core.Bool.{true, ◌&&◌}
use mathlib.Core.List.{List}
use mathlib.Core.Option
use mathlib.Core.Option.{Option, none, some}
use mathlib.Core.Path.{◌≡◌, sym, ◌∙◌, subst}
use native.Mathlib.Omega.{arith}
use lib.Dec.{eqb, ltb}
use lib.ListN.{get_or, length, length-set}
use Rattle.bits.specs.Word.{lane_byte}
use Rattle.bits.proofs.Cases.{pick_by}
use Rattle.bits.proofs.Lists.{set_lt}
use Rattle.chip.specs.declared.State.{State}
use Rattle.chip.specs.declared.Access.{Access}
use Rattle.chip.specs.declared.Dac.{Dac}
use Rattle.chip.specs.Palette.{entry_count, Shades, store_entry, palette_ok}
use Rattle.chip.specs.Dac.{Paint, aimed_at, advanced, red_staged, both_staged, after_fetch, after_paint, completed_by}
use Rattle.chip.specs.Patch.{painted}
use Rattle.chip.specs.Port.{kept_from}
use Rattle.chip.specs.Access.{is_write}
use Rattle.chip.specs.Trace.{World}
use Rattle.chip.proofs.Entries.{palette_kept}
use Rattle.promises.specs.Good.{Stage}
use Rattle.promises.specs.History.{is_aim, is_data}
use Rattle.promises.proofs.Patches.{patch_at}
use Rattle.promises.proofs.Widths.{kept_told, stored_lt}
use Rattle.promises.proofs.Does.{stepped, does}

kept_lt : (s : State) (a : Access) → kept_from s a < 256
kept_lt s a = subst (λ (v : ℕ). v < 256) (sym (kept_told s a)) (stored_lt s a.word)

-- ---- what is staged

advanced_stage : (d : Dac) (n r g : ℕ) → r < 256 → g < 256 → Stage (advanced d n r g)
unfolding advanced
advanced_stage d n r g hr hg = pick_by Stage (ltb d.component 2) _ _ (record { red = hr; green = hg }) (record { red = hr; green = hg })

aimed_stage : (v : ℕ) → Stage (aimed_at v)
unfolding aimed_at
aimed_stage v = record { red = omega arith; green = omega arith }

stepped_stage : (s : State) (a : Access) → Stage s.dac → Stage (stepped s a)
unfolding after_paint after_fetch
stepped_stage s a h =
    let z = kept_lt s a in
    pick_by Stage (is_write a) _ _
    (pick_by Stage (eqb s.dac.component 0) _ _ (advanced_stage s.dac 1 (kept_from s a) 0 z (omega arith))
    (pick_by Stage (eqb s.dac.component 1 && red_staged s.dac) _ _ (advanced_stage s.dac 2 s.dac.red (kept_from s a) h.red z)
    (advanced_stage s.dac 0 0 0 (omega arith) (omega arith))))
    (advanced_stage s.dac 0 0 0 (omega arith) (omega arith))

pub stage_after : (x : World) (a : Access) → Stage x.state.dac → Stage (Option.get_or (patch_at x a).dac x.state.dac)
stage_after x a h =
    subst (λ (o : Option Dac). Stage (Option.get_or o x.state.dac)) (sym (does x a).dac)
    (pick_by (λ (o : Option Dac). Stage (Option.get_or o x.state.dac)) (is_aim x a) _ _ (aimed_stage (lane_byte 0 a.word))
    (pick_by (λ (o : Option Dac). Stage (Option.get_or o x.state.dac)) (is_data x a) _ none (stepped_stage x.state a h) h))

-- ---- what is stored

-- an entry takes a colour of bytes, if it takes one
abbrev pub Shaded : Option Paint → Type 0
Shaded none = Unit {0}
Shaded (some x) = Shades x.colour

pub paint_shaded : (x : World) (a : Access) → Stage x.state.dac → Shaded (patch_at x a).paint
unfolding completed_by
paint_shaded x a h =
    subst Shaded (sym (does x a).paint)
    (pick_by Shaded (is_write a && is_data x a) _ none
    (pick_by Shaded (eqb x.state.dac.component 2 && both_staged x.state.dac) _ none
    (record { red = h.red; green = h.green; blue = kept_lt x.state a }) tt)
    tt)

-- ---- the palette after it

pub painted_length : (o : Option Paint) (p : List ℕ) → length p ≡ entry_count → length (painted o p) ≡ entry_count
unfolding store_entry
painted_length none p l = l
painted_length (some x) p l = length-set p x.entry _ ∙ l

pub painted_ok : (o : Option Paint) (p : List ℕ) → Shaded o → length p ≡ entry_count → palette_ok p ≡ true → palette_ok (painted o p) ≡ true
painted_ok none p h l k = k
painted_ok (some x) p h l k = palette_kept p x.entry x.colour h l k

pub painted_lt : (o : Option Paint) (p : List ℕ) → Shaded o → ((e : ℕ) → get_or p e 0 < 2 ^ 32) → (e : ℕ) → get_or (painted o p) e 0 < 2 ^ 32
unfolding store_entry
painted_lt none p h f = f
painted_lt (some x) p h f = set_lt p x.entry _ (2 ^ 32) f (omega (arith, h.red, h.green, h.blue))
