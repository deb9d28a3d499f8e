-- Refusal 1 as a record: a state is one exactly where each test passes.
-- By taking the list of tests apart and putting it together. Assumes nothing.
use mathlib.Core.Bool.{Bool, true}
use mathlib.Core.List.{List, [], ◌∷◌}
use mathlib.Core.Path.{◌≡◌}
use Rattle.bits.proofs.Bools.{pass}
use Rattle.chip.specs.declared.State.{State}
use Rattle.chip.specs.Palette.{palette_ok}
use Rattle.chip.specs.Sound.{panel_ok, memory_ok, component_ok, address_ok, once_ok, bank_sound, is_state}

-- ---- refusal 1, test by test

pub record Sane (s : State) : Type 0 where
  pub panel : panel_ok s.width s.height ≡ true
  pub memory : memory_ok s.fitted ≡ true
  pub component : component_ok s.dac ≡ true
  pub address : address_ok s.dac ≡ true
  pub once : once_ok s.once ≡ true
  pub bank : bank_sound s.once s.values s.knowns ≡ true
  pub palette : palette_ok s.palette ≡ true

tests : State → List Bool
tests s =
    panel_ok s.width s.height ∷ memory_ok s.fitted ∷ component_ok s.dac ∷ address_ok s.dac ∷ once_ok s.once
    ∷ bank_sound s.once s.values s.knowns ∷ palette_ok s.palette ∷ []

pub sane : (s : State) → is_state s ≡ true → Sane s
unfolding is_state tests
sane s e =
    record {
      panel = pass (tests s) e 0;
      memory = pass (tests s) e 1;
      component = pass (tests s) e 2;
      address = pass (tests s) e 3;
      once = pass (tests s) e 4;
      bank = pass (tests s) e 5;
      palette = pass (tests s) e 6;
    }

pub is_state_lem : (s : State) → Sane s → is_state s ≡ true
unfolding is_state
is_state_lem s f =
    simp (f.panel, f.memory, f.component, f.address, f.once, f.bank, f.palette)
