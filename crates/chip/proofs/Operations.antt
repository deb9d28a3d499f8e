-- What the tests of the three operations say.
-- By the kind. Assumes nothing.
use Rattle.std.proofs.Common.{◌≡◌, true, false, refl, ap}
use Rattle.bits.proofs.Cases.{by_test}
use Rattle.bits.proofs.Bools.{clash}
use Rattle.chip.specs.declared.Access.{Access}
use Rattle.chip.specs.declared.Kind.{Kind}
use Rattle.chip.specs.declared.Kind.TheVariants.{Read, Write, Look}
use Rattle.chip.specs.Access.{writing, looking, is_write, is_look}

writing_is : (k : Kind) → writing k ≡ true → k ≡ Write
writing_is Read e = clash false e refl
writing_is Write e = refl
writing_is Look e = clash false e refl

looking_is : (k : Kind) → looking k ≡ true → k ≡ Look
looking_is Read e = clash false e refl
looking_is Write e = clash false e refl
looking_is Look e = refl

pub is_write_lem : (a : Access) → is_write a ≡ true → a.kind ≡ Write
unfolding is_write
is_write_lem a e = writing_is a.kind e

pub write_is : (a : Access) → a.kind ≡ Write → is_write a ≡ true
unfolding is_write
write_is a e = ap writing e

pub is_look_lem : (a : Access) → is_look a ≡ true → a.kind ≡ Look
unfolding is_look
is_look_lem a e = looking_is a.kind e

pub look_is : (a : Access) → a.kind ≡ Look → is_look a ≡ true
unfolding is_look
look_is a e = ap looking e

-- a read is neither, and what is neither is a read
pub read_writes_not : (a : Access) → a.kind ≡ Read → is_write a ≡ false
unfolding is_write
read_writes_not a e = ap writing e

pub read_looks_not : (a : Access) → a.kind ≡ Read → is_look a ≡ false
unfolding is_look
read_looks_not a e = ap looking e

pub neither : (a : Access) → is_write a ≡ false → is_look a ≡ false → a.kind ≡ Read
unfolding is_write is_look
neither a w l = reading a.kind w l
  where
    reading : (k : Kind) → writing k ≡ false → looking k ≡ false → k ≡ Read
    reading Read w l = refl
    reading Write w l = clash true refl w
    reading Look w l = clash true refl l

-- a look is no write, and a write no look
pub look_writes_not : (a : Access) → is_look a ≡ true → is_write a ≡ false
unfolding is_write
look_writes_not a e = ap writing (is_look_lem a e)

pub write_looks_not : (a : Access) → is_write a ≡ true → is_look a ≡ false
unfolding is_look
write_looks_not a e = ap looking (is_write_lem a e)

-- no write, and no look: the two ways of saying it
pub is_no_write : (a : Access) → is_write a ≡ false → a.kind ≡ Write → ⊥
is_no_write a e w = clash (is_write a) (write_is a w) e

pub no_write_is : (a : Access) → (a.kind ≡ Write → ⊥) → is_write a ≡ false
no_write_is a f = by_test (is_write a) (λ e. absurd (f (is_write_lem a e))) (λ e. e)

pub is_no_look : (a : Access) → is_look a ≡ false → a.kind ≡ Look → ⊥
is_no_look a e k = clash (is_look a) (look_is a k) e

pub no_look_is : (a : Access) → (a.kind ≡ Look → ⊥) → is_look a ≡ false
no_look_is a f = by_test (is_look a) (λ e. absurd (f (is_look_lem a e))) (λ e. e)
