-- A world is good after every opening that is not refused, and stays good along any list of accesses.
-- What an access leaves is what its patch makes, refused or not; that a state stays one is in Keeps. Assumes nothing.
use Prim.Native.Nat.{ℕ, ◌*◌}
use mathlib.Core.Bool.{Bool, true}
use mathlib.Core.List.{List, [], ◌∷◌}
use mathlib.Core.Option.{Option, none, some}
use mathlib.Core.Path.{◌≡◌, refl, sym, ap, ap₂, ◌∙◌, subst}
use native.Mathlib.Omega.{arith}
use borrow.Author.Tests.{eq-eqb}
use lib.Dec.{eqb}
use lib.ListN.{get_or, length, length-map, replicate, length-replicate}
use Rattle.bits.specs.Choose.{pick, every_in}
use Rattle.bits.proofs.Cases.{by_test, pick_by}
use Rattle.chip.specs.declared.State.{State}
use Rattle.chip.specs.declared.Access.{Access}
use Rattle.chip.specs.Row.{Row}
use Rattle.chip.specs.Bank.{bank_rows, bank_resets, bank_knowns}
use Rattle.chip.specs.Palette.{entry_count, empty_palette}
use Rattle.chip.specs.Dac.{reset_dac}
use Rattle.chip.specs.Units.{at_byte}
use Rattle.chip.specs.Aperture.{Put}
use Rattle.chip.specs.Patch.{Patch, nothing_stored, applied, memory_with}
use Rattle.chip.specs.State.{reset_state}
use Rattle.chip.specs.Place.{place_of}
use Rattle.chip.specs.Port.{poke_patch}
use Rattle.chip.specs.Sound.{panel_ok, memory_ok, is_state}
use Rattle.chip.specs.Refusal.{opening_status}
use Rattle.chip.specs.Step.{Outcome, Opening, refused, settled, patch_of, state_after, memory_after, done_by, given_by, step_of, blank_word, open_of}
use Rattle.chip.specs.Trace.{World, opened, after, run}
use Rattle.chip.proofs.Computed.{computed}
use Rattle.chip.proofs.Refusals.{UnrefusedOpening, unrefused_opening}
use Rattle.chip.proofs.Tables.{bank_length}
use Rattle.chip.proofs.Poked.{put_all_length}
use Rattle.chip.proofs.Lent.{small, puts_small, stores_small}
use Rattle.chip.proofs.Redraw.{redrawn_length}
use Rattle.promises.specs.Good.{Sizes, Fresh, Formed, Good, AreBytes, status_at, Openable}
use Rattle.promises.specs.Reach.{reach_at}
use Rattle.promises.specs.History.{accepted}
use Rattle.promises.proofs.Patches.{patch_at}
use Rattle.promises.proofs.Sane.{Sane, is_state_lem}
use Rattle.promises.proofs.Does.{puts_from, writes, does}
use Rattle.promises.proofs.Promise1Refusals.{opening_status_lem}
use Rattle.promises.proofs.Keeps.{Kept, patch_kept}

-- ---- what an access leaves

given_state : (n : ℕ) (s : State) (m p : List ℕ) (a : Access)
    → (given_by n s m p a).answer.state ≡ applied (pick (eqb n 0) (patch_of s a) nothing_stored) s
unfolding given_by done_by settled refused state_after applied
given_state n s m p a = by_test (eqb n 0) (λ q. simp q) (λ q. simp q)

given_memory : (n : ℕ) (s : State) (m p : List ℕ) (a : Access)
    → (given_by n s m p a).memory ≡ memory_with (pick (eqb n 0) (patch_of s a) nothing_stored) m
unfolding given_by done_by settled refused memory_after memory_with
given_memory n s m p a = by_test (eqb n 0) (λ q. simp q) (λ q. simp q)

pub after_state : (x : World) (a : Access) → (after x a).state ≡ applied (patch_at x a) x.state
unfolding step_of patch_at accepted
after_state x a = given_state (status_at x a) x.state x.memory x.picture a

pub after_memory : (x : World) (a : Access) → (after x a).memory ≡ memory_with (patch_at x a) x.memory
unfolding step_of patch_at accepted
after_memory x a = given_memory (status_at x a) x.state x.memory x.picture a

-- ---- it is good

sizes_with : (p : Patch) (s : State) → Sizes s (applied p s)
unfolding applied
sizes_with p s = record { width = refl; height = refl; fitted = refl }

pub sizes_kept : (x : World) (a : Access) → Sizes x.state (after x a).state
sizes_kept x a = subst (Sizes x.state) (sym (after_state x a)) (sizes_with (patch_at x a) x.state)

pub memory_length : (x : World) (a : Access) → length (after x a).memory ≡ length x.memory
unfolding memory_with
memory_length x a = ap length (after_memory x a) ∙ put_all_length x.memory (patch_at x a).puts

pub picture_length : (x : World) (a : Access) → length (after x a).picture ≡ length x.picture
unfolding step_of given_by done_by settled refused
picture_length x a =
    pick_by (λ (o : Outcome). length o.picture ≡ length x.picture) (eqb (status_at x a) 0) _ _
    (redrawn_length _ _ x.picture) refl

-- along any list
pub memory_along : (x : World) (l : List Access) → length (run x l).memory ≡ length x.memory
memory_along x [] = refl
memory_along x (a ∷ l) = memory_along (after x a) l ∙ memory_length x a

-- what is stored in memory are bytes
puts_bytes : (x : World) (a : Access) → every_in small (patch_at x a).puts ≡ true
unfolding poke_patch
puts_bytes x a =
    ap (every_in small) (does x a).puts ∙ pick_by (λ (l : List Put). every_in small l ≡ true) (writes x a) _ [] (from (reach_at (place_of x.state a)).window) refl
  where
    from : (i : Option ℕ) → every_in small (puts_from x.state a i) ≡ true
    from none = refl
    from (some i) = puts_small (get_or x.state.values i 0) (at_byte a.offset) a.enables a.word

bytes_kept : (x : World) (a : Access) → AreBytes x.memory → AreBytes (after x a).memory
unfolding memory_with
bytes_kept x a h = subst AreBytes (sym (after_memory x a)) (stores_small x.memory (patch_at x a).puts (puts_bytes x a) h)

-- every access keeps a good world good
pub good_kept : (x : World) (a : Access) → Good x → Good (after x a)
good_kept x a g =
    let k : Kept (after x a).state = subst Kept (sym (after_state x a)) (patch_kept x a g) in
    let z = sizes_kept x a in
    record {
      state = is_state_lem (after x a).state k.sane;
      formed = k.formed;
      memory = memory_length x a ∙ g.memory ∙ sym z.fitted;
      picture = picture_length x a ∙ g.picture ∙ sym (ap₂ (λ (w h : ℕ). w * h) z.width z.height);
      bytes = bytes_kept x a g.bytes;
    }

pub good_along : (x : World) (l : List Access) → Good x → Good (run x l)
good_along x [] g = g
good_along x (a ∷ l) g = good_along (after x a) l (good_kept x a g)

-- ---- an opening

pub reset_formed : (w h f : ℕ) → Formed (reset_state w h f)
unfolding reset_state bank_resets bank_knowns empty_palette reset_dac
reset_formed w h f =
    record {
      values = length-map bank_rows (λ (r : Row). r.reset) ∙ bank_length;
      knowns = length-map bank_rows (λ (r : Row). r.known) ∙ bank_length;
      palette = length-replicate {A = ℕ} entry_count 0;
      address = omega arith;
      stage = record { red = omega arith; green = omega arith };
    }

-- the tables at reset pass every test that does not ask for the panel or for memory
reset_sane : (w h f : ℕ) → panel_ok w h ≡ true → memory_ok f ≡ true → Sane (reset_state w h f)
unfolding computed
reset_sane w h f p q =
    record
    { panel = p; memory = q; component = refl; address = refl; once = refl; bank = refl; palette = refl }

opening_parts : (w h : ℕ) (m p : List ℕ) → (open_of w h m p).answer.status ≡ 0 → UnrefusedOpening w h (length m) (length p)
opening_parts w h m p e = unrefused_opening w h (length m) (length p) (sym (opening_status_lem w h m p) ∙ e)

pub opens : (w h : ℕ) (m p : List ℕ) → (open_of w h m p).answer.status ≡ 0 → Fresh w h m p
unfolding open_of
opens w h m p e =
    let q : eqb (opening_status w h (length m) (length p)) 0 ≡ true = eq-eqb _ 0 (sym (opening_status_lem w h m p) ∙ e) in
    record {
      status = ap (λ (t : Bool). (pick t (done) (left)).answer.status) q;
      state = ap (λ (t : Bool). (pick t (done) (left)).answer.state) q;
      memory = ap (λ (t : Bool). (pick t (done) (left)).memory) q;
      picture = ap (λ (t : Bool). (pick t (done) (left)).picture) q ∙ ap (λ (n : ℕ). replicate n blank_word) (opening_parts w h m p e).dots;
    }
  where
    done : Opening
    done = record { answer = record { status = 0; state = reset_state w h (length m) }; memory = m; picture = replicate (length p) blank_word }

    left : Opening
    left = record { answer = record { status = opening_status w h (length m) (length p); state = reset_state 0 0 0 }; memory = m; picture = p }

pub opened_good : (w h : ℕ) (m p : List ℕ) → Openable w h m p → Good (opened w h m p)
unfolding reset_state
opened_good w h m p o =
    let f = opens w h m p o.accepted in
    let q = opening_parts w h m p o.accepted in
    record {
      state = ap is_state f.state ∙ is_state_lem _ (reset_sane w h (length m) q.panel q.memory);
      formed = subst Formed (sym f.state) (reset_formed w h (length m));
      memory = ap length f.memory ∙ sym (ap (λ (s : State). s.fitted) f.state);
      picture =
          ap length f.picture ∙ length-replicate (w * h) blank_word ∙ sym (ap (λ (s : State). s.width * s.height) f.state);
      bytes = subst AreBytes (sym f.memory) o.bytes;
    }
