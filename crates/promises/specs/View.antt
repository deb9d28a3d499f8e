-- What a picture and an access depend on, what a read or a look leaves, and an access that does nothing.
use Rattle.std.specs.Prelude.{ℕ, ◌%◌, ◌≡◌, get_or}
use Rattle.chip.specs.declared.State.{State}
use Rattle.chip.specs.declared.Access.{Access}
use Rattle.chip.specs.Bank.{screen_base, screen_stride, pixel_mask, color_mode}
use Rattle.chip.specs.Palette.{entry_of}
use Rattle.chip.specs.Trace.{World, step, after}

-- two states with the same panel, base, stride and pixel mask, known alike, bits 0 to 4 of RDColorMode, and palette entries: all that a picture is made of, but for memory
pub record SameFields (s n : State) : Type 0 where
  pub width : n.width ≡ s.width
  pub height : n.height ≡ s.height
  pub base : get_or n.values screen_base 0 % 0x100000 ≡ get_or s.values screen_base 0 % 0x100000
  pub base_known : get_or n.knowns screen_base 0 % 0x100000 ≡ get_or s.knowns screen_base 0 % 0x100000
  pub stride : get_or n.values screen_stride 0 % 0x100000 ≡ get_or s.values screen_stride 0 % 0x100000
  pub stride_known : get_or n.knowns screen_stride 0 % 0x100000 ≡ get_or s.knowns screen_stride 0 % 0x100000
  pub mask : get_or n.values pixel_mask 0 % 256 ≡ get_or s.values pixel_mask 0 % 256
  pub mask_known : get_or n.knowns pixel_mask 0 % 256 ≡ get_or s.knowns pixel_mask 0 % 256
  pub mode : get_or n.values color_mode 0 % 32 ≡ get_or s.values color_mode 0 % 32
  pub palette : (e : ℕ) → entry_of n.palette e ≡ entry_of s.palette e

-- two worlds with the same memory and the same word in the register of row i
pub record SameWindow (x y : World) (i : ℕ) : Type 0 where
  pub memory : y.memory ≡ x.memory
  pub control : get_or y.state.values i 0 ≡ get_or x.state.values i 0

-- all but the palette's address, component and stage is the same
pub record StepsOnly (s n : State) : Type 0 where
  pub width : n.width ≡ s.width
  pub height : n.height ≡ s.height
  pub fitted : n.fitted ≡ s.fitted
  pub once : n.once ≡ s.once
  pub values : n.values ≡ s.values
  pub knowns : n.knowns ≡ s.knowns
  pub palette : n.palette ≡ s.palette

-- a read leaves all but the palette's address, component and stage; a look leaves those too (Promise9Looks)
pub record LeavesRest (x y : World) : Type 0 where
  pub state : StepsOnly x.state y.state
  pub memory : y.memory ≡ x.memory
  pub picture : y.picture ≡ x.picture

-- an access at either gives the same status, word and known mask, and leaves the same memory
pub record SameAnswer (x y : World) (a : Access) : Type 0 where
  pub status : (step y a).answer.status ≡ (step x a).answer.status
  pub word : (step y a).answer.word ≡ (step x a).answer.word
  pub known : (step y a).answer.known ≡ (step x a).answer.known
  pub memory : (after y a).memory ≡ (after x a).memory

-- an access alters nothing, and shows nothing
pub record Idle (x : World) (a : Access) : Type 0 where
  pub state : (after x a).state ≡ x.state
  pub memory : (after x a).memory ≡ x.memory
  pub picture : (after x a).picture ≡ x.picture
  pub word : (step x a).answer.word ≡ 0
  pub known : (step x a).answer.known ≡ 0
  pub changed : (step x a).answer.changed ≡ 0

-- the row of CFGCommand and CFGStatus, 04h of the header (Promise2Tables has the fact that it is)
abbrev pub command : ℕ
command = 39

-- two worlds that differ in the word of the register in row i alone
pub record ButRow (x y : World) (i : ℕ) : Type 0 where
  pub width : y.state.width ≡ x.state.width
  pub height : y.state.height ≡ x.state.height
  pub fitted : y.state.fitted ≡ x.state.fitted
  pub once : y.state.once ≡ x.state.once
  pub values : (j : ℕ) → (j ≡ i → ⊥) → get_or y.state.values j 0 ≡ get_or x.state.values j 0
  pub knowns : y.state.knowns ≡ x.state.knowns
  pub dac : y.state.dac ≡ x.state.dac
  pub palette : y.state.palette ≡ x.state.palette
  pub memory : y.memory ≡ x.memory
  pub picture : y.picture ≡ x.picture
