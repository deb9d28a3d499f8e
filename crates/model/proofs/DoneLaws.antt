-- From what is done at a place to what the definition of an access gives: reads, writes, looks, refusals, without refusal 1 and with it.
-- The definitions opened one after the other; reads and looks draw nothing (QuietLaws). Assumes nothing.
use Prim.Native.Nat.{ℕ, ◌*◌}
use mathlib.Core.Bool.{Bool, true, false, and-true}
use mathlib.Core.List.{List}
use mathlib.Core.Option
use mathlib.Core.Path.{◌≡◌, refl, sym, ap, ap₂, ◌∙◌, subst}
use native.Mathlib.Omega.{arith}
use borrow.Author.Tests.{eq-eqb, ne_eqb}
use lib.Dec.{eqb}
use lib.ListN.{length}
use Rattle.bits.specs.Choose.{pick}
use Rattle.bits.specs.Word.{lanes_of}
use Rattle.bits.proofs.Cases.{by_test}
use Rattle.bits.proofs.Words.{inside_zero}
use Rattle.chip.specs.declared.State.{State}
use Rattle.chip.specs.declared.Access.{Access}
use Rattle.chip.specs.declared.Answer.{Answer}
use Rattle.chip.specs.declared.Kind.TheVariants.{Read, Write, Look}
use Rattle.chip.specs.declared.Place.{Place}
use Rattle.chip.specs.Aperture.{put_all}
use Rattle.chip.specs.declared.Refusal.{Refusal}
use Rattle.chip.specs.declared.Refusal.TheVariants.{NotState, Length, Form, Offset, Absent, Direction, Mode, Panel, Memory}
use Rattle.chip.specs.Status.{number_of}
use Rattle.chip.specs.Parts.{made, replied}
use Rattle.chip.specs.Sound.{panel_ok, is_state}
use Rattle.chip.specs.Patch.{Patch, applied, memory_with}
use Rattle.chip.specs.Place.{place_of}
use Rattle.chip.specs.Port.{Port, seen, known_in, word_in, port_at}
use Rattle.chip.specs.Refusal.{port_of, later_status, access_lines, status_of}
use Rattle.chip.specs.Picture.{word_of, redrawn, diffs}
use Rattle.chip.specs.Step.{Outcome, Gives, answered, refused, settled, seen_by, patch_of, state_after, memory_after, done_by, given_by, step_of, sure_of, undrawn, surely_of}
use Rattle.chip.proofs.Operations.{write_is, look_is, read_writes_not, read_looks_not, look_writes_not}
use Rattle.chip.proofs.Ports.{read_steps}
use Rattle.picture.specs.Draw.{Redraws}
use Rattle.picture.proofs.Parts.{still_redraws}
use Rattle.model.specs.Places.{reply_of, panel_fits}
use Rattle.model.specs.Stages.{later_at}
use Rattle.model.proofs.TestLaws.{later_is, lent_size}
use Rattle.model.proofs.PlaceLaws.{read_left}
use Rattle.model.proofs.QuietLaws.{quiet_read}

-- no refusal has the number of what is done
pub refusal_counts : (why : Refusal) → number_of why ≡ 0 → ⊥
refusal_counts NotState h = absurd (omega arith)
refusal_counts Length h = absurd (omega arith)
refusal_counts Form h = absurd (omega arith)
refusal_counts Offset h = absurd (omega arith)
refusal_counts Absent h = absurd (omega arith)
refusal_counts Direction h = absurd (omega arith)
refusal_counts Mode h = absurd (omega arith)
refusal_counts Panel h = absurd (omega arith)
refusal_counts Memory h = absurd (omega arith)

-- ---- a new state settled

pub settles : (s : State) (m p : List ℕ) (n : State) (m' : List ℕ) (w k c : ℕ) (q : List ℕ) → Redraws true (word_of s m) (word_of n m') p c q
    → Gives (settled s m p n m' w k) (answered 0 w k c n) m' q
unfolding settled
settles s m p n m' w k c q d = record { answer = ap (λ (x : ℕ). answered 0 w k x n) d.count; memory = refl; picture = d.picture }

-- ---- the parts of what is done

settled_as : (s : State) (m p : List ℕ) (n n' : State) (q q' : List ℕ) (w w' k k' : ℕ) → n ≡ n' → q ≡ q' → w ≡ w' → k ≡ k'
    → settled s m p n q w k ≡ settled s m p n' q' w' k'
settled_as s m p n n' q q' w w' k k' en eq ew ek =
    ap₂ (λ (x : State) (y : List ℕ). settled s m p x y w k) en eq ∙ ap₂ (λ (x y : ℕ). settled s m p n' q' x y) ew ek

nothing_known : (e : ℕ) → known_in (seen 0 0) e ≡ 0
unfolding known_in
nothing_known e = inside_zero (lanes_of e)

nothing_seen : (e : ℕ) → word_in (seen 0 0) e ≡ 0
unfolding word_in
nothing_seen e = inside_zero (known_in (seen 0 0) e)

module _ (s : State) (m l : List ℕ) (a : Access) (p : Place) (ep : p ≡ place_of s a) where
  port : port_of s a ≡ port_at s a p
  unfolding port_of
  port = ap (port_at s a) (sym ep)

  read_memory : memory_with (port_at s a p).fetched m ≡ m
  unfolding memory_with
  read_memory = ap (λ (q : Patch). put_all m q.puts) (read_steps s a p)

  done_read : a.kind ≡ Read
      → done_by s m l a ≡ settled s m l (applied (port_at s a p).fetched s) m (word_in ((port_at s a p).seen m) a.enables) (known_in ((port_at s a p).seen m) a.enables)
  unfolding done_by state_after memory_after patch_of seen_by
  done_read e =
      let w = read_writes_not a e in
      let k = read_looks_not a e in
      settled_as s m l _ _ _ _ _ _ _ _ (simp (w, k, port)) (simp (w, k, port) read_memory) (simp (w, port)) (simp (w, port))

  done_look : a.kind ≡ Look
      → done_by s m l a ≡ settled s m l s m (word_in ((port_at s a p).seen m) a.enables) (known_in ((port_at s a p).seen m) a.enables)
  unfolding done_by state_after memory_after patch_of seen_by applied memory_with
  done_look e =
      let k = look_is a e in
      let w = look_writes_not a k in
      settled_as s m l _ _ _ _ _ _ _ _ (simp (w, k)) (simp (w, k)) (simp (w, port)) (simp (w, port))

  done_write : (q : List ℕ) → a.kind ≡ Write → memory_with (port_at s a p).stored m ≡ q
      → done_by s m l a ≡ settled s m l (applied (port_at s a p).stored s) q 0 0
  unfolding done_by state_after memory_after patch_of seen_by
  done_write q e h =
      let w = write_is a e in
      settled_as s m l _ _ _ _ _ _ _ _ (simp (w, port)) (simp (w, port) h)
      (simp w (nothing_seen a.enables)) (simp w (nothing_known a.enables))

-- ---- one access without refusal 1, by the status that its lines have at its place

abbrev given : Answer → List ℕ → List ℕ → Outcome
given r m l = record { answer = r; memory = m; picture = l }

gives_is : (o : Outcome) (r : Answer) (m l : List ℕ) → Gives o r m l → o ≡ given r m l
gives_is o r m l g = rw (g.answer, g.memory, g.picture) refl

module _ (s : State) (m l : List ℕ) (a : Access) where
  abbrev status : ℕ
  status = later_at s (length m) (length l) a (place_of s a)

  abbrev here : Port
  here = port_at s a (place_of s a)

  by_lines : status ≡ later_status s (length m) (length l) a
  by_lines = later_is s (length m) (length l) a (place_of s a) refl

  pub surely_refused : (status ≡ 0 → ⊥) → surely_of s m l a ≡ given (answered status 0 0 0 s) m l
  unfolding surely_of sure_of given_by refused undrawn
  surely_refused h =
      let z : sure_of s m l a ≡ refused status s m l =
      ap (λ (k : ℕ). pick (eqb k 0) (done_by s m l a) (refused k s m l)) (sym by_lines) ∙ ap (λ (t : Bool). pick t (done_by s m l a) (refused status s m l)) (ne_eqb status 0 h) in
      by_test (panel_ok s.width s.height) (λ t. simp t z) (λ t. simp t (ap (λ (o : Outcome). undrawn o l) z))

  surely_done : (s' : State) (m' : List ℕ) (w k c : ℕ) (l' : List ℕ) → status ≡ 0 → done_by s m l a ≡ settled s m l s' m' w k
      → Redraws (panel_ok s.width s.height) (word_of s m) (word_of s' m') l c l' → surely_of s m l a ≡ given (answered 0 w k c s') m' l'
  unfolding surely_of sure_of given_by undrawn settled
  surely_done s' m' w k c l' h e d =
      let z : sure_of s m l a ≡ settled s m l s' m' w k =
      ap (λ (i : ℕ). pick (eqb i 0) (done_by s m l a) (refused i s m l)) (sym by_lines ∙ h) ∙ e in
      by_test (panel_ok s.width s.height)
      (λ t. simp t z ∙ gives_is _ _ m' l' (settles s m l s' m' w k c l' (subst (λ (b : Bool). Redraws b (word_of s m) (word_of s' m') l c l') t d)))
      (λ t.
      let g = subst (λ (b : Bool). Redraws b (word_of s m) (word_of s' m') l c l') t d in
      simp t (ap (λ (o : Outcome). undrawn o l) z) ∙ gives_is _ _ m' l' (record { answer = ap (λ (x : ℕ). answered 0 w k x s') g.count; memory = refl; picture = g.picture }))

  pub surely_read : status ≡ 0 → a.kind ≡ Read → surely_of s m l a
      ≡ given (replied (made s.width s.height s.fitted s.once s.values s.knowns s.palette (Option.get_or here.fetched.dac s.dac)) (reply_of (here.seen m) a.enables)) m l
  surely_read h e =
      surely_done _ m _ _ 0 l h (done_read s m l a (place_of s a) refl e) (still_redraws _ _ _ l (quiet_read s a (place_of s a) m))
      ∙ ap (λ (y : State). given (replied y (reply_of (here.seen m) a.enables)) m l) (sym (read_left s.width s.height s.fitted s.once s.values s.knowns s.palette s.dac a (place_of s a)))

  pub surely_look : status ≡ 0 → a.kind ≡ Look → surely_of s m l a ≡ given (replied s (reply_of (here.seen m) a.enables)) m l
  surely_look h e = surely_done s m _ _ 0 l h (done_look s m l a (place_of s a) refl e) (still_redraws _ _ _ l (λ j. refl))

  abbrev after : State
  after = applied here.stored s

  abbrev left : List ℕ
  left = memory_with here.stored m

  pub surely_write : status ≡ 0 → a.kind ≡ Write → surely_of s m l a
      ≡ given (answered 0 0 0 (pick (panel_fits s (length l)) (diffs l (redrawn (word_of s m) (word_of after left) l)) 0) after) left (pick (panel_fits s (length l)) (redrawn (word_of s m) (word_of after left) l) l)
  surely_write h e =
      let z : length l ≡ s.width * s.height = lent_size s (length m) (length l) a (sym by_lines ∙ h) in
      let t : panel_fits s (length l) ≡ panel_ok s.width s.height = simp (eq-eqb (length l) (s.width * s.height) z, eq-eqb s.width s.width refl) (and-true (panel_ok s.width s.height)) in
      let d : Redraws (panel_fits s (length l)) (word_of s m) (word_of after left) l (pick (panel_fits s (length l)) (diffs l (redrawn (word_of s m) (word_of after left) l)) 0) (pick (panel_fits s (length l)) (redrawn (word_of s m) (word_of after left) l) l) = record { picture = refl; count = refl } in
      surely_done after left 0 0 _ _ h (done_write s m l a (place_of s a) refl left e refl)
      (subst (λ (b : Bool). Redraws b (word_of s m) (word_of after left) l (pick (panel_fits s (length l)) (diffs l (redrawn (word_of s m) (word_of after left) l)) 0) (pick (panel_fits s (length l)) (redrawn (word_of s m) (word_of after left) l) l)) t d)

-- ---- with the test of the state

module _ (s : State) (m l : List ℕ) (a : Access) (t : Bool) (et : t ≡ is_state s) where
  pub step_none : t ≡ false → Gives (step_of s m l a) (answered 1 0 0 0 s) m l
  unfolding step_of status_of access_lines given_by refused
  step_none e =
      let q : status_of s (length m) (length l) a ≡ 1 = simp (sym et ∙ e) in
      let z : step_of s m l a ≡ refused 1 s m l = ap (λ (k : ℕ). pick (eqb k 0) (done_by s m l a) (refused k s m l)) q in
      subst (λ (o : Outcome). Gives o (answered 1 0 0 0 s) m l) (sym z) (record { answer = refl; memory = refl; picture = refl })
