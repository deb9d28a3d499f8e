-- The three operations: a read, a write, and a look, which gives a read's answer and alters nothing. They are the steps of every list. (02, C-12, which amends 01's "An access names a target .., a
-- byte offset, read or write, four byte enables .., and a 32-bit word"; docs/DECISIONS.md, D-42.)
use Rattle.std.specs.Prelude.{ℕ, Bool, true, false}
use Rattle.chip.specs.declared.Access.{Access}
use Rattle.chip.specs.declared.Kind.{Kind}
use Rattle.chip.specs.declared.Kind.TheVariants.{Read, Write, Look}

-- target, offset, enables; for a write a word
abbrev pub reads : ℕ → ℕ → ℕ → Access
reads t o e = record { target = t; offset = o; kind = Read; enables = e; word = 0 }

abbrev pub writes : ℕ → ℕ → ℕ → ℕ → Access
writes t o e w = record { target = t; offset = o; kind = Write; enables = e; word = w }

abbrev pub looks : ℕ → ℕ → ℕ → Access
looks t o e = record { target = t; offset = o; kind = Look; enables = e; word = 0 }

-- whether it is a write: reads and looks are refused alike, and see alike
abbrev pub writing : Kind → Bool
writing Read = false
writing Write = true
writing Look = false

unfoldable pub is_write : Access → Bool
is_write a = writing a.kind

-- whether it is a look: reads and writes are what may alter something
abbrev pub looking : Kind → Bool
looking Read = false
looking Write = false
looking Look = true

unfoldable pub is_look : Access → Bool
is_look a = looking a.kind
