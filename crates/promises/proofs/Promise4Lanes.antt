-- Promise 4, the lanes of an aperture (01, Apertures, with 02, C-17): the rule is its own inverse, a read or a look shows each byte in its lane, and gives back what a write by the same rule stored.
-- From the laws of the lanes (Pokes), what is told of a byte (Known) and WrittenBack. Assumes nothing.
use Prim.Native.Nat.{ℕ, ◌+◌, ◌*◌, ◌/◌, ◌%◌, ◌≤◌, ◌<◌}
use mathlib.Core.Bool.{Bool, true, false, ◌&&◌, and-false, and-true}
use mathlib.Core.List.{List}
use mathlib.Core.Option.{none, some}
use mathlib.Core.Path.{◌≡◌, refl, sym, ap, ◌∙◌}
use native.Mathlib.Omega.{arith}
use lib.ListN.{get_or}
use Rattle.bits.specs.Choose.{pick}
use Rattle.bits.specs.Bit.{bit}
use Rattle.bits.specs.Word.{lane_byte, inside, lanes_of}
use Rattle.bits.proofs.Cases.{by_test}
use Rattle.bits.proofs.Words.{bit_inside, lane_bit, lanes_lt, inside_le}
use Rattle.bits.proofs.Lanes.{bit_lane}
use Rattle.chip.specs.declared.Access.{Access}
use Rattle.chip.specs.declared.Bytes.{Bytes}
use Rattle.chip.specs.declared.Place.TheVariants.{Window}
use Rattle.chip.specs.Aperture.{swap_of, lane_of, reach}
use Rattle.chip.specs.Trace.{World, opened, step, after, run}
use Rattle.chip.proofs.Refusals.{unrefused}
use Rattle.chip.proofs.Operations.{is_no_write}
use Rattle.promises.specs.Good.{Good, Openable}
use Rattle.promises.specs.Places.{Leads}
use Rattle.promises.specs.History.{Seeing, shows}
use Rattle.promises.specs.Frame.{lane_at}
use Rattle.promises.specs.Origin.{ByteStored}
use Rattle.promises.specs.Told.{poked}
use Rattle.promises.specs.Lanes.{WritesWindow, ReadsThere, LaneWritten}
use Rattle.promises.proofs.Places.{leads_place}
use Rattle.promises.proofs.Worlds.{good_kept}
use Rattle.promises.proofs.Pokes.{at_lt, at_back, lane_put_lem}
use Rattle.promises.proofs.ShownWord.{shown_word_lem}
use Rattle.promises.proofs.Promise1Refusals.{access_status}
use Rattle.promises.proofs.Promise4Reads.{memory_read}
use Rattle.promises.proofs.Promise4Known.{known_exactly}
use Rattle.promises.proofs.WrittenBack.{window_leaves, read_there, byte_back, shown_there}

-- ---- the rule, of any control word

-- the rule that the definitions go by is the one in 01's words
pub lanes_mean : (c i : ℕ) → lane_of (swap_of c) i ≡ lane_at c i
unfolding lane_of swap_of lane_at
lanes_mean c i = refl

-- .. for a read as for a write, whatever memory holds
pub one_rule : (c : ℕ) (t u : Bool) (m n : List ℕ) (o : Bytes) (j : ℕ) → reach c t m o j ≡ reach c u n o j
unfolding reach
one_rule c t u m n o j = refl

-- a byte's lane is one of the four, and the byte of a lane is found by the same rule
pub lane_below : (c i : ℕ) → i < 4 → lane_at c i < 4
lane_below = at_lt

pub lane_inverse : (c i : ℕ) → i < 4 → lane_at c (lane_at c i) ≡ i
lane_inverse = at_back

-- ---- accesses

-- no access through an aperture alters the state, on any world, be it a read, a write or a look, or refused
pub windows_leave : (x : World) (a : Access) (i : ℕ) → Leads x.state a (Window i) → (after x a).state ≡ x.state
windows_leave x a i d = window_leaves x a i (leads_place x.state a (Window i) d)

-- on any good world a read or a look shows byte o + n in its lane, where that is enabled
pub byte_in_lane : (x : World) (a : Access) → Seeing x a → Good x → (i : ℕ) → Leads x.state a (Window i) → (n b : ℕ) → n < 4 → b < 8
    → shows (step x a).answer (8 * lane_at (get_or x.state.values i 0) n + b)
    ≡ pick (bit (lane_at (get_or x.state.values i 0) n) a.enables) (some (bit b (get_or x.memory (a.offset + n) 0))) none
byte_in_lane x a q g i d n b hn hb =
    memory_read x a (8 * lane_at c n + b) q (omega (arith, at_lt c n hn)) g i d ∙ simp (lane, place, at_back c n hn)
  where
    c : ℕ
    c = get_or x.state.values i 0

    lane : (8 * lane_at c n + b) / 8 ≡ lane_at c n
    lane = omega arith

    place : (8 * lane_at c n + b) % 8 ≡ b
    place = omega arith

-- .. and right after an accepted write, which is a, a read or a look r with its target and offset, and with any enables from 0 to 15
module _ (x : World) (a r : Access) (i : ℕ) (g : Good x) (w : WritesWindow x a i) (f : ReadsThere a r) (e : r.enables ≤ 15) where
  pub written_accepted : (step (after x a) r).answer.status ≡ 0
  written_accepted = access_status (after x a) r ∙ (read_there x a r i g w f e (after x a) (good_kept x a g) (windows_leave x a i w.through)).done

  -- each lane of both is shown as written, every other as the read would have shown it without the write
  pub written_shown : (b : ℕ) → b < 32
      → shows (step (after x a) r).answer b ≡ pick (bit (b / 8) a.enables && bit (b / 8) r.enables) (some (bit b a.word)) (shows (step x r).answer b)
  written_shown b hb =
      shown_there x a r i g w f e (after x a) (good_kept x a g) (windows_leave x a i w.through) b hb
      ∙ ap (λ (v : ℕ). pick (bit (b / 8) r.enables) (some (bit (b % 8) v)) none) (byte_back x a r i g w f e (b / 8) (omega arith))
      ∙ by_test (bit (b / 8) r.enables)
      (λ u. by_test (bit (b / 8) a.enables) (λ t. simp (t, u) (ap some (sym (bit_lane b a.word)))) (λ t. simp (t, u) (sym (without ∙ simp u))))
      (λ u. simp (u, and-false) (sym (without ∙ simp u)))
    where
      without : shows (step x r).answer b ≡ pick (bit (b / 8) r.enables) (some (bit (b % 8) (get_or x.memory (a.offset + lane_at (get_or x.state.values i 0) (b / 8)) 0))) none
      without = shown_there x a r i g w f e x g refl b hb

-- so with the enables of the write, whatever they are, it is accepted and answers the word written, in the enabled lanes and known there
pub written_back : (x : World) (a r : Access) (i : ℕ) → Good x → WritesWindow x a i → ReadsThere a r → r.enables ≡ a.enables
    → ((step (after x a) r).answer.status ≡ 0) × ((step (after x a) r).answer.word ≡ inside a.word (lanes_of a.enables)) × ((step (after x a) r).answer.known ≡ lanes_of a.enables)
written_back x a r i g w f q = (written_accepted x a r i g w f e, answer.0, answer.1)
  where
    k : ℕ
    k = lanes_of a.enables

    e : r.enables ≤ 15
    e = omega (arith, q, (unrefused x.state _ _ a w.accepted).enables)

    lane : (b : ℕ) → b < 32 → bit b k ≡ bit (b / 8) a.enables
    lane b hb = lane_bit b a.enables hb (omega (arith, q, e))

    above : (b : ℕ) → b < 32 → bit b k ≡ false → bit b (inside a.word k) ≡ false
    above b hb t = bit_inside b a.word k ∙ simp (t, and-false)

    bits : (b : ℕ) → b < 32 → shows (step (after x a) r).answer b ≡ pick (bit b k) (some (bit b (inside a.word k))) none
    bits b hb =
        written_shown x a r i g w f e b hb
        ∙ by_test (bit (b / 8) a.enables)
        (λ t. simp (q, t, lane b hb, bit_inside b a.word k, and-true))
        (λ t. simp (q, t, lane b hb) (shown_there x a r i g w f e x g refl b hb ∙ simp (q, t)))

    answer : ((step (after x a) r).answer.word ≡ inside a.word k) × ((step (after x a) r).answer.known ≡ k)
    answer = shown_word_lem (after x a) r (inside a.word k) k (omega (arith, inside_le a.word k, lanes_lt a.enables)) (lanes_lt a.enables) above bits

-- ---- after an opening and any list of accesses

-- an accepted read or look shows each of its lanes whose byte was last stored at its offset by its swap code as that write had the lane, through either aperture
pub last_write_shown : (w h : ℕ) (m p : List ℕ) → Openable w h m p → (l : List Access) (a : Access) → Seeing (run (opened w h m p) l) a
    → (i : ℕ) → Leads (run (opened w h m p) l).state a (Window i) → (b : ℕ) → b < 32 → bit (b / 8) a.enables ≡ true
    → (f : LaneWritten (opened w h m p) l a i (b / 8)) → shows (step (run (opened w h m p) l) a).answer b ≡ some (bit b f.by.word)
last_write_shown w h m p o l a q i d b hb t f =
    (known_exactly w h m p o l a b hb (bit b f.by.word)).1
    (record { accepted = q.done; read = is_no_write a q.read; lane = t; told = poked i d (lane_byte (b / 8) f.by.word) stored (bit_lane b f.by.word) })
  where
    x : World
    x = run (opened w h m p) f.before

    stored : ByteStored (opened w h m p) l (a.offset + lane_at (get_or (run (opened w h m p) l).state.values i 0) (b / 8)) (lane_byte (b / 8) f.by.word)
    stored =
        record {
          before = f.before;
          by = f.by;
          rest = f.rest;
          split = f.split;
          accepted = f.writes.accepted;
          write = f.writes.write;
          window = f.window;
          through = leads_place x.state f.by (Window f.window) f.writes.through;
          put =
              lane_put_lem (get_or x.state.values f.window 0) (get_or (run (opened w h m p) l).state.values i 0) f.by a.offset (b / 8) (omega arith) f.offset f.swap
              ∙ simp f.lane;
          silent = f.silent;
        }
