-- Promise 7. What depends on what: a dot's word on the panel, base, stride, pixel mask, bits 0 to 4 of RDColorMode, palette and memory, and on nothing else; of the
-- registers an aperture access on its own control register alone, and no access on the command register. From the laws of Depends. Assumes nothing.
use Prim.Native.Nat.{ℕ}
use mathlib.Core.List.{List}
use mathlib.Core.Path.{◌≡◌, sym, ◌∙◌}
use Rattle.chip.specs.declared.State.{State}
use Rattle.chip.specs.declared.Access.{Access}
use Rattle.chip.specs.declared.Place.TheVariants.{Register, Window}
use Rattle.chip.specs.Place.{place_of}
use Rattle.chip.specs.Picture.{word_of}
use Rattle.chip.specs.Trace.{World, step}
use Rattle.chip.proofs.Views.{same_view_lem}
use Rattle.promises.specs.Good.{Good}
use Rattle.promises.specs.Places.{Leads}
use Rattle.promises.specs.View.{SameFields, SameAnswer, SameWindow, command, ButRow}
use Rattle.promises.proofs.Places.{leads_register}
use Rattle.promises.proofs.Depends.{same_word, same_window, gates_none, same_elsewhere}
use Rattle.promises.proofs.Promise1Refusals.{access_status}

-- a dot's word is made of those fields and of memory
pub word_depends : (s n : State) (m : List ℕ) (i : ℕ) → SameFields s n → word_of n m i ≡ word_of s m i
word_depends s n m i f =
    same_word s n m i
    (same_view_lem s n (record {
      width = f.width;
      height = f.height;
      base = f.base;
      base_known = f.base_known;
      stride = f.stride;
      stride_known = f.stride_known;
      mask = f.mask;
      mask_known = f.mask_known;
      mode = f.mode;
      palette = f.palette;
    }))

-- two worlds that share memory and the aperture's control register give an access through it the same status, word and known mask, and leave the same memory
pub aperture_depends : (x y : World) (a : Access) (i : ℕ) → Good x → Good y → place_of x.state a ≡ Window i → SameWindow x y i → SameAnswer x y a
aperture_depends = same_window

-- the command register's enable bits gate no access, at any target: with any other word in it every access has the same status ..
pub command_gates_nothing : (x y : World) (a : Access) → Good x → Good y → ButRow x y command → (step y a).answer.status ≡ (step x a).answer.status
command_gates_nothing x y a g h b = access_status y a ∙ gates_none x y a b g h ∙ sym (access_status x a)

-- .. and one that does not lead to it the same word and known mask, and it leaves the same memory
pub command_alters_nothing : (x y : World) (a : Access) → Good x → Good y → ButRow x y command → (Leads x.state a (Register command) → ⊥) → SameAnswer x y a
command_alters_nothing x y a g h b n = same_elsewhere x y a b g h (λ e. n (leads_register x.state a command e))
