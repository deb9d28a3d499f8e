-- What a contract fixes of a call's outcome: whatever two outcomes it allows for one call are equal there.
-- `post` is what it allows of the result r and the parameters at exit x, at lifetimes κs and arguments a. Assumes nothing.
use mathlib.Core.Path.{◌≡◌}

module _ {K : Type 0} {A R X : K → Type 0} (post : (κs : K) → A κs → R κs → X κs → Type 0) where
  -- the result
  abbrev pub Fixes : Type 0
  Fixes = (κs : K) (a : A κs) (r r' : R κs) (x x' : X κs) → post κs a r x → post κs a r' x' → r ≡ r'

  -- what is lent, of a function that returns nothing
  abbrev pub FixesLent : {L : K → Type 0} → ((κs : K) → X κs → L κs) → Type 0
  FixesLent l = (κs : K) (a : A κs) (r r' : R κs) (x x' : X κs) → post κs a r x → post κs a r' x' → l κs x ≡ l κs x'

  -- the result, and what is lent
  abbrev pub FixesBoth : {L : K → Type 0} → ((κs : K) → X κs → L κs) → Type 0
  FixesBoth l = (κs : K) (a : A κs) (r r' : R κs) (x x' : X κs) → post κs a r x → post κs a r' x' → (r ≡ r') × (l κs x ≡ l κs x')

  -- the result, and the two that are lent
  abbrev pub FixesAll : {L M : K → Type 0} → ((κs : K) → X κs → L κs) → ((κs : K) → X κs → M κs) → Type 0
  FixesAll l m = (κs : K) (a : A κs) (r r' : R κs) (x x' : X κs) → post κs a r x → post κs a r' x' → ((r ≡ r') × (l κs x ≡ l κs x')) × (m κs x ≡ m κs x')
