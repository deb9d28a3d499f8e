-- What a place holds after a list of steps, for any machine: what a step put there last, and else what it held.
-- By induction on the list, from the law of one step. Assumes nothing.
use mathlib.Core.List.{List, [], ◌∷◌, ◌++◌}
use mathlib.Core.Logic.{◌↔◌, ◌⊎◌, inl, inr}
use mathlib.Core.Option.{Option, none, some, get_or}
use mathlib.Core.Path.{◌≡◌, refl, sym, ap, ap₂, ◌∙◌, subst}
use Rattle.promises.specs.Along.{runs, later_of, last_put, PutLast, PutNever}

-- nothing was put last where nothing was put
pub later_none : {C : Type 0} (p q : Option C) → later_of p q ≡ none → (p ≡ none) × (q ≡ none)
later_none none q e = (refl, e)
later_none (some v) q e = (cc, cc)

module _ {W A C : Type 0} (step : W → A → W) (puts : W → A → Option C) where
  pub record Found (x : W) (l : List A) : Type 0 where
    pub value : C
    pub last : last_put step puts x l ≡ some value
    pub put : PutLast step puts x l value

  none_before : (x : W) (a : A) (l : List A) → last_put step puts (step x a) l ≡ none → (p : Option C) → puts x a ≡ p
      → Found x (a ∷ l) ⊎ (last_put step puts x (a ∷ l) ≡ none)
  none_before x a l n none e = inr (ap (λ (q : Option C). later_of q (puts x a)) n ∙ e)
  none_before x a l n (some v) e =
      inl (record {
        value = v;
        last = ap (λ (q : Option C). later_of q (puts x a)) n ∙ e;
        put = record { before = []; by = a; rest = l; split = refl; put = e; silent = n };
      })

  -- a step of the list put something there last, or none put anything
  pub find : (x : W) (l : List A) → Found x l ⊎ (last_put step puts x l ≡ none)
  find x [] = inr refl
  find x (a ∷ l) = go (find (step x a) l)
    where
      go : Found (step x a) l ⊎ (last_put step puts (step x a) l ≡ none) → Found x (a ∷ l) ⊎ (last_put step puts x (a ∷ l) ≡ none)
      go (inl f) =
          inl (record {
            value = f.value;
            last = ap (λ (q : Option C). later_of q (puts x a)) f.last;
            put =
                record {
                  before = a ∷ f.put.before;
                  by = f.put.by;
                  rest = f.put.rest;
                  split = ap (λ (k : List A). a ∷ k) f.put.split;
                  put = f.put.put;
                  silent = f.put.silent;
                };
          })
      go (inr n) = none_before x a l n (puts x a) refl

  -- what a step put, and none after it, was put last
  pub last_of : (x : W) (b : List A) (a : A) (r : List A) (v : C) → puts (runs step x b) a ≡ some v → last_put step puts (step (runs step x b) a) r ≡ none
      → last_put step puts x (b ++ a ∷ r) ≡ some v
  last_of x [] a r v e s = ap (λ (q : Option C). later_of q (puts x a)) s ∙ e
  last_of x (c ∷ b) a r v e s = ap (λ (q : Option C). later_of q (puts x c)) (last_of (step x c) b a r v e s)

  -- nothing is put exactly where no step of the list puts anything
  pub silent_in : (x : W) (b : List A) (a : A) (r : List A) → last_put step puts x (b ++ a ∷ r) ≡ none → puts (runs step x b) a ≡ none
  silent_in x [] a r e = (later_none (last_put step puts (step x a) r) (puts x a) e).1
  silent_in x (c ∷ b) a r e = silent_in (step x c) b a r (later_none (last_put step puts (step x c) (b ++ a ∷ r)) (puts x c) e).0

  pub silent_all : (x : W) (l : List A) → ((b : List A) (a : A) (r : List A) → l ≡ b ++ a ∷ r → puts (runs step x b) a ≡ none) → last_put step puts x l ≡ none
  silent_all x [] f = refl
  silent_all x (c ∷ l) f =
      ap₂ later_of (silent_all (step x c) l (λ b a r e. f (c ∷ b) a r (ap (λ (k : List A). c ∷ k) e))) (f [] c l refl)

module _ {W A C : Type 0} (step : W → A → W) (puts : W → A → Option C) (read : W → C) (Good : W → Type 0)
    (keeps : (x : W) (a : A) → Good x → Good (step x a))
    (law : (x : W) (a : A) → Good x → read (step x a) ≡ get_or (puts x a) (read x)) where
  later_else : (p q : Option C) (d : C) → get_or (later_of p q) d ≡ get_or p (get_or q d)
  later_else none q d = refl
  later_else (some v) q d = refl

  -- what a place holds after a list of steps, in one equation
  pub read_along : (x : W) (l : List A) → Good x → read (runs step x l) ≡ get_or (last_put step puts x l) (read x)
  read_along x [] g = refl
  read_along x (a ∷ l) g =
      read_along (step x a) l (keeps x a g) ∙ ap (get_or (last_put step puts (step x a) l)) (law x a g)
      ∙ sym (later_else (last_put step puts (step x a) l) (puts x a) (read x))

  -- the same with the step shown: it was put there last by one of them, or was there before and none put anything
  pub whence : (x : W) (l : List A) → Good x
      → PutLast step puts x l (read (runs step x l)) ⊎ PutNever step puts x l (read x) (read (runs step x l))
  whence x l g = go (find step puts x l)
    where
      go : Found step puts x l ⊎ (last_put step puts x l ≡ none)
          → PutLast step puts x l (read (runs step x l)) ⊎ PutNever step puts x l (read x) (read (runs step x l))
      go (inl f) =
          inl (subst (PutLast step puts x l) (sym (read_along x l g ∙ ap (λ (q : Option C). get_or q (read x)) f.last)) f.put)
      go (inr n) = inr (record { silent = n; same = read_along x l g ∙ ap (λ (q : Option C). get_or q (read x)) n })

  -- .. and back: so it holds v exactly where v was put last, or nothing was and it held v
  pub exactly : (x : W) (l : List A) → Good x → (v : C) → (read (runs step x l) ≡ v) ↔ (PutLast step puts x l v ⊎ PutNever step puts x l (read x) v)
  exactly x l g v = (
    (λ e. subst (λ (u : C). PutLast step puts x l u ⊎ PutNever step puts x l (read x) u) e (whence x l g)),
    back,
  )
    where
      back : PutLast step puts x l v ⊎ PutNever step puts x l (read x) v → read (runs step x l) ≡ v
      back (inl f) =
          read_along x l g
          ∙ ap (λ (q : Option C). get_or q (read x))
          (ap (last_put step puts x) f.split ∙ last_of step puts x f.before f.by f.rest v f.put f.silent)
      back (inr n) = read_along x l g ∙ ap (λ (q : Option C). get_or q (read x)) n.silent ∙ sym n.same
