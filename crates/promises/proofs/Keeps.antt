-- What an accepted access stores keeps a state a state.
-- The tests of refusal 1 one by one, each by the part of the patch that it asks for. Assumes nothing.
use Prim.Native.Nat.{ℕ, ◌<◌}
use mathlib.Core.Bool.{Bool, true, false}
use mathlib.Core.Option.{Option, none, some, get_or}
use mathlib.Core.Path.{◌≡◌, sym, ◌∙◌, subst}
use native.Mathlib.Omega.{arith}
use borrow.Author.Tests.{leb-true}
use lib.ListN.{length, length-set}
use Rattle.bits.specs.Choose.{pick}
use Rattle.bits.proofs.Cases.{pick_by, pick_when}
use Rattle.chip.specs.declared.State.{State}
use Rattle.chip.specs.declared.Access.{Access}
use Rattle.chip.specs.declared.Dac.{Dac}
use Rattle.chip.specs.Bank.{bank_count}
use Rattle.chip.specs.Dac.{after_fetch}
use Rattle.chip.specs.Patch.{Store, Patch, valued, learned, applied}
use Rattle.chip.specs.Place.{place_of}
use Rattle.chip.specs.Port.{row_patch, kept_from}
use Rattle.chip.specs.Access.{is_write}
use Rattle.chip.specs.Sound.{once_ok, bank_sound}
use Rattle.chip.specs.Trace.{World}
use Rattle.promises.specs.Good.{Stage, Formed, Good}
use Rattle.promises.specs.Reach.{reach_at}
use Rattle.promises.specs.History.{is_aim, is_data}
use Rattle.promises.proofs.Patches.{patch_at}
use Rattle.promises.proofs.Sane.{Sane, sane}
use Rattle.promises.proofs.Bank.{bank_kept, once_kept}
use Rattle.promises.proofs.Dacs.{Settled, paint_advances, advanced_settled, aimed_settled, lane_byte_lt}
use Rattle.promises.proofs.Does.{store_from, once_from, stepped, writes, does}
use Rattle.promises.proofs.Stages.{Shaded, stage_after, paint_shaded, painted_length, painted_ok}
use Rattle.promises.proofs.DataParts.{data_parts}
use Rattle.promises.proofs.Sites.{names, address_there}

pub record Kept (s : State) : Type 0 where
  pub sane : Sane s
  pub formed : Formed s

pub once_lt_four : (s : State) → Sane s → s.once < 4
unfolding once_ok
once_lt_four s z = omega (arith, leb-true s.once 3 z.once)

module _ (s : State) (z : Sane s) (f : Formed s) where
  -- ---- each part

  record Banked (o : Option Store) (h : Option ℕ) : Type 0 where
    once : once_ok (get_or h s.once) ≡ true
    bank : bank_sound (get_or h s.once) (valued o s.values) (learned o s.knowns) ≡ true

  -- a write of the register in a row, if it is one
  row_banked : (a : Access) (i : Option ℕ) → Banked (store_from s a i) (once_from s a i)
  unfolding row_patch
  row_banked a none = record { once = z.once; bank = z.bank }
  row_banked a (some i) =
      record {
        once = once_kept s.once i a.enables z.once;
        bank = bank_kept s.values s.knowns s.once i a.enables a.word _ (once_lt_four s z) f.values f.knowns z.bank;
      }

  valued_length : (o : Option Store) → length (valued o s.values) ≡ bank_count
  valued_length none = f.values
  valued_length (some x) = length-set s.values x.row _ ∙ f.values

  learned_length : (o : Option Store) → length (learned o s.knowns) ≡ bank_count
  learned_length none = f.knowns
  learned_length (some x) = length-set s.knowns x.row _ ∙ f.knowns

  still_settled : Settled s.dac
  still_settled = record { component = z.component; address = z.address; byte = f.address }

  -- ---- the whole

  applied_kept : (p : Patch) → Banked p.store p.once → Settled (get_or p.dac s.dac) → Stage (get_or p.dac s.dac) → Shaded p.paint
      → Kept (applied p s)
  unfolding applied
  applied_kept p b d g h =
      record {
        sane =
            record {
              panel = z.panel;
              memory = z.memory;
              component = d.component;
              address = d.address;
              once = b.once;
              bank = b.bank;
              palette = painted_ok p.paint s.palette h f.palette z.palette;
            };
        formed =
            record {
              values = valued_length p.store;
              knowns = learned_length p.store;
              palette = painted_length p.paint s.palette f.palette;
              address = d.byte;
              stage = g;
            };
      }

  -- a read or a write of palette data, where the address is known
  stepped_settled : (a : Access) → s.dac.known ≡ 0xFF → Settled (stepped s a)
  unfolding after_fetch
  stepped_settled a k =
      pick_by Settled (is_write a) _ _
      (paint_advances Settled s.dac (kept_from s a) (λ n r g. advanced_settled s.dac n r g k f.address))
      (advanced_settled s.dac 0 0 0 k f.address)

module _ (x : World) (a : Access) (g : Good x) where
  data_known : is_data x a ≡ true → x.state.dac.known ≡ 0xFF
  data_known e = address_there x.state a ((names (place_of x.state a)).paints (data_parts x a e).paints)

  abbrev Bank : Option Store → Option ℕ → Type 0
  Bank o h = Banked x.state (sane x.state g.state) g.formed o h

  bank_as : (o o' : Option Store) (h h' : Option ℕ) → o' ≡ o → h' ≡ h → Bank o h → Bank o' h'
  bank_as o o' h h' p q b = subst (λ (i : Option ℕ). Bank o' i) (sym q) (subst (λ (i : Option Store). Bank i h) (sym p) b)

  bank_when : (t : Bool) (o : Option Store) (h : Option ℕ) → Bank o h → Bank none none → Bank (pick t o none) (pick t h none)
  bank_when true o h b c = b
  bank_when false o h b c = c

  -- what an access stores, accepted or refused, leaves a state
  pub patch_kept : Kept (applied (patch_at x a) x.state)
  patch_kept =
      let z = sane x.state g.state in
      let f = g.formed in
      let d = does x a in
      applied_kept x.state z f (patch_at x a)
      (bank_as _ _ _ _ d.store d.once
      (bank_when (writes x a) _ _ (row_banked x.state z f a (reach_at (place_of x.state a)).row) (row_banked x.state z f a none)))
      (subst (λ (o : Option Dac). Settled (get_or o x.state.dac)) (sym d.dac)
      (pick_by (λ (o : Option Dac). Settled (get_or o x.state.dac)) (is_aim x a) _ _
      (aimed_settled _ (lane_byte_lt 0 a.word))
      (pick_when (λ (o : Option Dac). Settled (get_or o x.state.dac)) (is_data x a) _ none
      (λ q. stepped_settled x.state z f a (data_known q)) (λ q. still_settled x.state z f))))
      (stage_after x a f.stage) (paint_shaded x a f.stage)
