-- What depends on what: a dot's word on the view and memory; an aperture access on its own control register; no access on the command register.
-- A place is the same to an access in two worlds that share what it asks for, and then so is the answer. Assumes nothing.
use Prim.Native.Nat.{ℕ, ◌%◌}
use mathlib.Core.Bool.{Bool, true, not, ◌&&◌}
use mathlib.Core.List.{List, [], ◌∷◌}
use mathlib.Core.Option.{Option, none, some}
use mathlib.Core.Path.{◌≡◌, refl, sym, ap, ap₂, ◌∙◌}
use native.Mathlib.Omega.{arith}
use borrow.Author.Tests.{eqb-true, eqb-false, eq-eqb}
use lib.Dec.{eqb, leb}
use lib.ListN.{get_or, length}
use Rattle.bits.specs.Choose.{pick}
use Rattle.bits.specs.Bit.{bit}
use Rattle.bits.proofs.Cases.{by_test}
use Rattle.chip.specs.declared.State.{State}
use Rattle.chip.specs.declared.Access.{Access}
use Rattle.chip.specs.declared.Dac.{Dac}
use Rattle.chip.specs.declared.Seen.{Seen}
use Rattle.chip.specs.declared.Place.{Place}
use Rattle.chip.specs.declared.Place.TheVariants.{Register, Address, PaletteData, Window, Blank, Nowhere}
use Rattle.chip.specs.Bank.{misc_control}
use Rattle.chip.specs.Aperture.{served, Put, put_all}
use Rattle.chip.specs.View.{View, view_of}
use Rattle.chip.specs.Picture.{view_word, word_of}
use Rattle.chip.specs.Place.{place_at, place_of}
use Rattle.chip.specs.Patch.{memory_with}
use Rattle.chip.specs.Port.{known_in, word_in, wide, poke_patch, port_at}
use Rattle.chip.specs.Access.{is_write}
use Rattle.chip.specs.Refusal.{line, first_of, port_of, later_lines, access_lines, status_of}
use Rattle.chip.specs.Trace.{World, step, after}
use Rattle.promises.specs.Good.{Good, status_at}
use Rattle.promises.specs.Reach.{reach_at}
use Rattle.promises.specs.Places.{Leads, one, two}
use Rattle.promises.specs.History.{accepted, Seeing}
use Rattle.promises.specs.View.{SameAnswer, SameWindow, command, ButRow}
use Rattle.promises.proofs.Does.{puts_from, fits_from, served_from, ways, does}
use Rattle.promises.proofs.Sites.{names, window_there}
use Rattle.promises.proofs.Places.{leads_window}
use Rattle.promises.proofs.Worlds.{after_memory}
use Rattle.promises.proofs.Shown.{sees, answer_word, answer_known}
use Rattle.promises.proofs.Answers.{write_answers}
use Rattle.promises.proofs.Promise1Refusals.{access_status, refused_alters_nothing}

-- ---- a dot's word

pub same_word : (s n : State) (m : List ℕ) (i : ℕ) → view_of n ≡ view_of s → word_of n m i ≡ word_of s m i
unfolding word_of
same_word s n m i e = ap (λ (v : View). view_word v m i) e

-- ---- two worlds in which a place is the same to an access

-- it is there, has the directions and is served alike ..
record SameWays (x y : World) (a : Access) (p : Place) : Type 0 where
  present : (port_at y.state a p).present ≡ (port_at x.state a p).present
  reads : (port_at y.state a p).reads ≡ (port_at x.state a p).reads
  writes : (port_at y.state a p).writes ≡ (port_at x.state a p).writes
  served : (port_at y.state a p).served ≡ (port_at x.state a p).served

-- .. and shows and stores alike
record SamePort (x y : World) (a : Access) (p : Place) : Type 0 where
  ways : SameWays x y a p
  seen : (port_at y.state a p).seen y.memory ≡ (port_at x.state a p).seen x.memory
  puts : puts_from y.state a (reach_at p).window ≡ puts_from x.state a (reach_at p).window

-- a good world's status, from the access and what its place is to it
unfoldable pub port_status : Access → Bool → Bool → Bool → Bool → ℕ
port_status a here r w t =
    first_of
    (line 3 (not (leb a.target 3 && leb a.enables 15)) ∷ line 4 (not (eqb (a.offset % 4) 0)) ∷ line 5 (not here) ∷ line 6 (not (pick (is_write a) w r))
    ∷ line 7 (not t) ∷ [])

abbrev pub status_by : State → Access → Place → ℕ
status_by s a p = port_status a (port_at s a p).present (port_at s a p).reads (port_at s a p).writes (port_at s a p).served

pub good_status : (x : World) (a : Access) (p : Place) → Good x → place_of x.state a ≡ p → status_at x a ≡ status_by x.state a p
unfolding status_of access_lines later_lines port_of port_status
good_status x a p g e = simp (g.state, eq-eqb _ _ g.memory, eq-eqb _ _ g.picture, e)

-- an answer of 0 and 0: a write's, or a refusal
record Silent (x : World) (a : Access) : Type 0 where
  word : (step x a).answer.word ≡ 0
  known : (step x a).answer.known ≡ 0

silent_write : (x : World) (a : Access) → is_write a ≡ true → Silent x a
silent_write x a w = let z = write_answers x a w in record { word = z.0; known = z.1 }

silent_refused : (x : World) (a : Access) → (status_at x a ≡ 0 → ⊥) → Silent x a
silent_refused x a n =
    let z = refused_alters_nothing x a (λ e. n (sym (access_status x a) ∙ e)) in
    record { word = z.word; known = z.known }

module _ (x y : World) (a : Access) (p : Place) (g : Good x) (h : Good y) (e : place_of x.state a ≡ p) (f : place_of y.state a ≡ p) where
  same_status : SameWays x y a p → status_at y a ≡ status_at x a
  same_status q = good_status y a p h f ∙ simp (q.present, q.reads, q.writes, q.served) (sym (good_status x a p g e))

  -- what an accepted read sees, and what an accepted write puts into memory
  sees_at : (z : World) → place_of z.state a ≡ p → sees z a ≡ (port_at z.state a p).seen z.memory
  unfolding port_of
  sees_at z k = ap (λ (r : Place). (port_at z.state a r).seen z.memory) k

  puts_at : (z : World) → place_of z.state a ≡ p → (after z a).memory ≡ put_all z.memory (pick (accepted z a && is_write a) (puts_from z.state a (reach_at p).window) [])
  unfolding memory_with
  puts_at z k =
      after_memory z a
      ∙ ap (put_all z.memory) ((does z a).puts ∙ ap (λ (r : Place). pick (accepted z a && is_write a) (puts_from z.state a (reach_at r).window) []) k)

  -- a read of both, or neither an answer
  by_way : (P : Type 0) → status_at y a ≡ status_at x a → (Seeing x a → Seeing y a → P) → (Silent x a → Silent y a → P) → P
  by_way P n r s =
      by_test (is_write a)
      (λ w. s (silent_write x a w) (silent_write y a w))
      (λ w.
      by_test (eqb (status_at x a) 0)
      (λ q. r (record { read = w; done = eqb-true _ 0 q }) (record { read = w; done = n ∙ eqb-true _ 0 q }))
      (λ q. s (silent_refused x a (eqb-false _ 0 q)) (silent_refused y a (λ z. eqb-false _ 0 q (sym n ∙ z)))))

  same_port : SamePort x y a p → y.memory ≡ x.memory → SameAnswer x y a
  unfolding accepted
  same_port q m =
      let n = same_status q.ways in
      let v : sees y a ≡ sees x a = sees_at y f ∙ q.seen ∙ sym (sees_at x e) in
      record {
        status = access_status y a ∙ n ∙ sym (access_status x a);
        word =
            by_way _ n (λ r s. answer_word y a s ∙ ap (λ (z : Seen). word_in z a.enables) v ∙ sym (answer_word x a r))
            (λ r s. s.word ∙ sym r.word);
        known =
            by_way _ n (λ r s. answer_known y a s ∙ ap (λ (z : Seen). known_in z a.enables) v ∙ sym (answer_known x a r))
            (λ r s. s.known ∙ sym r.known);
        memory = puts_at y f ∙ ap₂ put_all m (ap₂ (λ (k : ℕ) (u : List Put). pick (eqb k 0 && is_write a) u []) n q.puts) ∙ sym (puts_at x e);
      }

-- ---- an aperture access

pub same_window : (x y : World) (a : Access) (i : ℕ) → Good x → Good y → place_of x.state a ≡ Window i → SameWindow x y i → SameAnswer x y a
unfolding port_at reach_at
same_window x y a i g h e v =
    let f : y.state.fitted ≡ x.state.fitted = sym h.memory ∙ ap length v.memory ∙ g.memory in
    same_port x y a (Window i) g h e (window_there x.state y.state a i e)
    (record {
      ways = record { present = simp (f, v.control); reads = refl; writes = refl; served = simp v.control };
      seen = simp (v.control, v.memory);
      puts = ap (λ (c : ℕ). (poke_patch c a).puts) v.control;
    })
    v.memory

-- ---- the command register

module _ (x y : World) (a : Access) (b : ButRow x y command) where
  aperture : (i : ℕ) → Leads x.state a (Window i) → i ≡ command → ⊥
  aperture i (one t) e = omega (arith, e)
  aperture i (two t) e = omega (arith, e)

  control : (i : ℕ) → (reach_at (place_of x.state a)).window ≡ some i → get_or y.state.values i 0 ≡ get_or x.state.values i 0
  control i e = b.values i (aperture i (leads_window x.state a i ((names (place_of x.state a)).window i e)))

  wide_same : wide y.state ≡ wide x.state
  unfolding wide
  wide_same = ap (bit 1) (b.values misc_control (λ e. omega (arith, e)))

  -- a window is no other row's
  fits_alike : (o : Option ℕ) → (reach_at (place_of x.state a)).window ≡ o → fits_from y.state a o ≡ fits_from x.state a o
  fits_alike none e = refl
  fits_alike (some i) e = simp (b.fitted, control i e)

  serves_alike : (o : Option ℕ) → (reach_at (place_of x.state a)).window ≡ o → served_from y.state o ≡ served_from x.state o
  serves_alike none e = refl
  serves_alike (some i) e = ap served (control i e)

  puts_alike : (o : Option ℕ) → (reach_at (place_of x.state a)).window ≡ o → puts_from y.state a o ≡ puts_from x.state a o
  puts_alike none e = refl
  puts_alike (some i) e = ap (λ (c : ℕ). (poke_patch c a).puts) (control i e)

  ways_alike : SameWays x y a (place_of x.state a)
  ways_alike =
      let u = ways x.state a (place_of x.state a) in
      let v = ways y.state a (place_of x.state a) in
      record {
        present = v.present ∙ ap (λ (t : Bool). (reach_at (place_of x.state a)).here && t) (fits_alike (reach_at (place_of x.state a)).window refl) ∙ sym u.present;
        reads = v.reads ∙ sym u.reads;
        writes = v.writes ∙ sym u.writes;
        served = v.served ∙ serves_alike (reach_at (place_of x.state a)).window refl ∙ sym u.served;
      }

  seen_at : (p : Place) → place_of x.state a ≡ p → (p ≡ Register command → ⊥) → (port_at y.state a p).seen y.memory ≡ (port_at x.state a p).seen x.memory
  unfolding port_at
  seen_at (Register i) e n = simp (b.values i (λ q. n (ap Register q)), b.knowns)
  seen_at Address e n = simp b.dac
  seen_at PaletteData e n = simp (wide_same, b.dac, b.palette)
  seen_at (Window i) e n = simp (b.values i (aperture i (leads_window x.state a i e)), b.memory)
  seen_at Blank e n = refl
  seen_at Nowhere e n = refl

  there : place_of y.state a ≡ place_of x.state a
  there = ap (λ (d : Dac). place_at d a.target a.offset) b.dac

  pub gates_none : Good x → Good y → status_at y a ≡ status_at x a
  gates_none g h = same_status x y a (place_of x.state a) g h refl there ways_alike

  pub same_elsewhere : Good x → Good y → (place_of x.state a ≡ Register command → ⊥) → SameAnswer x y a
  same_elsewhere g h n =
      same_port x y a (place_of x.state a) g h refl there
      (record {
        ways = ways_alike;
        seen = seen_at (place_of x.state a) refl n;
        puts = puts_alike (reach_at (place_of x.state a)).window refl;
      })
      b.memory
