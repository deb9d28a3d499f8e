-- Promise 2. An opening that is not refused gives a state, the picture all 03000000h and memory as lent; every access keeps a state a state.
-- From the laws of a good world. Assumes nothing.
use Prim.Native.Nat.{ℕ, ◌<◌}
use mathlib.Core.Bool.{Bool, true, false, not, ◌&&◌, and-true}
use mathlib.Core.List.{List}
use mathlib.Core.Path.{◌≡◌, refl, sym, ap, ◌∙◌}
use Rattle.bits.specs.Bit.{bit}
use Rattle.bits.proofs.Single.{bit_of_zero}
use Rattle.bits.proofs.Words.{clear, bit_outside, clear_not}
use Rattle.bits.proofs.Lists.{zeros_at}
use Rattle.chip.specs.declared.Access.{Access}
use Rattle.chip.specs.State.{reset_state}
use Rattle.chip.specs.Bank.{bank_count, bank_row}
use Rattle.chip.specs.Palette.{entry_count, empty_palette}
use Rattle.chip.specs.Dac.{reset_dac}
use Rattle.chip.specs.Sound.{is_state}
use Rattle.chip.specs.Step.{open_of, step_of}
use Rattle.chip.specs.Trace.{World, opened, after, run}
use Rattle.chip.proofs.Tables.{bank_rule, resets_at, knowns_at}
use Rattle.promises.specs.Good.{Fresh, Good, Openable}
use Rattle.promises.specs.Refusals.{Words}
use Rattle.promises.specs.Reset.{IsReset}
use Rattle.promises.proofs.Origins.{reset_holds, reset_entry}
use Rattle.promises.proofs.WordsKept.{words_kept, opened_words}
use Rattle.promises.proofs.Worlds.{reset_formed, opens, good_kept, good_along, opened_good}

-- what an opening leaves: status 0, the reset state, memory as lent, 03000000h at every dot
pub opening_gives : (w h : ℕ) (m p : List ℕ) → (open_of w h m p).answer.status ≡ 0 → Fresh w h m p
opening_gives = opens

-- it is a state, with memory and picture of its sizes
pub opening_good : (w h : ℕ) (m p : List ℕ) → Openable w h m p → Good (opened w h m p)
opening_good = opened_good

-- every access, accepted or refused, leaves it so
pub access_good : (x : World) (a : Access) → Good x → Good (after x a)
access_good = good_kept

-- so there is one after an opening and any list of accesses, with memory and picture of its sizes and numbers that are words
pub always_good : (w h : ℕ) (m p : List ℕ) → Openable w h m p → (l : List Access) → Good (run (opened w h m p) l)
always_good w h m p o l = good_along (opened w h m p) l (opened_good w h m p o)

pub always_words : (w h : ℕ) (m p : List ℕ) → Openable w h m p → (l : List Access) → Words (run (opened w h m p) l).state
always_words = opened_words

pub access_words : (x : World) (a : Access) → Good x → Words x.state → Words (after x a).state
access_words = words_kept

-- and refusal 1 is never met
pub always_state : (w h : ℕ) (m p : List ℕ) → Openable w h m p → (l : List Access) → is_state (run (opened w h m p) l).state ≡ true
always_state w h m p o l = (always_good w h m p o l).state

-- the reset state is 01's: a bit that the tables do not state is zero ..
unstated : (i b : ℕ) → i < bank_count → b < 32 → bit b (bank_row i).known ≡ false → bit b (bank_row i).reset ≡ false
unstated i b hi hb e =
    let r = bank_rule i hi in
    let z : (bit b (bank_row i).reset && clear b (bank_row i).known) ≡ false = sym (bit_outside b (bank_row i).reset (bank_row i).known) ∙ ap (bit b) r.zero ∙ bit_of_zero b in
    sym (and-true (bit b (bank_row i).reset)) ∙ ap (λ (t : Bool). bit b (bank_row i).reset && t) (sym (clear_not b (bank_row i).known hb r.word ∙ ap not e)) ∙ z

-- .. and so is the rest
pub reset_means : (w h f : ℕ) → IsReset (reset_state w h f) w h f
unfolding reset_state reset_dac empty_palette
reset_means w h f =
    record {
      width = refl;
      height = refl;
      fitted = refl;
      registers = λ q r. reset_holds w h f q;
      zero = λ q r e. ap (bit q.b) (resets_at q.row) ∙ unstated q.row q.b r.row r.bit (sym (ap (bit q.b) (knowns_at q.row)) ∙ e);
      once = refl;
      address = (refl, refl);
      component = refl;
      staged = record { count = refl; red = refl; green = refl };
      palette = reset_entry w h f;
      words = zeros_at entry_count;
      formed = reset_formed w h f;
    }

-- ---- a world after an opening and after an access is made of what they give, so what is said of such worlds is said of `open_of` and `step_of`

pub opened_means : (w h : ℕ) (m p : List ℕ)
    → opened w h m p ≡ record { state = (open_of w h m p).answer.state; memory = (open_of w h m p).memory; picture = (open_of w h m p).picture }
opened_means w h m p = refl

pub after_means : (x : World) (a : Access)
    → after x a
    ≡ record {
      state = (step_of x.state x.memory x.picture a).answer.state;
      memory = (step_of x.state x.memory x.picture a).memory;
      picture = (step_of x.state x.memory x.picture a).picture;
    }
after_means x a = refl
