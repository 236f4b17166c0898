-- What a run reads and writes, before it and after.
use Rattle.std.specs.Prelude.{◌≡◌, ℕ, List, Option, Some, None, ◌^◌, if◌then◌else◌, nat_le, length, option_and_then, ⊤}
use Rattle.std.specs.Io.KnownBytes.{Keeps}
use Rattle.edge_traits.specs.Causes.{Rose}
use Rattle.edge_traits.specs.declared.sink.Sink.{Ghosts as Sinks}
use Rattle.edge_traits.specs.declared.source.Source.{Ghosts as Sources}
use Rattle.configuration.specs.declared.config.Config.{Config}
use Rattle.configuration.specs.Configured.{config_of, document_in}

-- the configuration that a text of at most 2^20 bytes spells
abbrev pub configured : List ℕ → Option Config
configured text = if nat_le (length text) (2 ^ 20) then option_and_then config_of (document_in text) else None

-- a text that is told spells the configuration
abbrev pub Spells : Option (List ℕ) → Config → Type 0
Spells None config = ⊤
Spells (Some text) config = configured text ≡ Some config

-- a text that is told spells none
abbrev pub SpellsNone : Option (List ℕ) → Type 0
SpellsNone None = ⊤
SpellsNone (Some text) = configured text ≡ None

-- what the ends of a run tell, before it and after
pub record Sides : Type 0 where
  pub text : Option (List ℕ)
  pub left_before : Option (List ℕ)
  pub left_after : Option (List ℕ)
  pub held_before : Option (List ℕ)
  pub held_after : Option (List ℕ)
  pub config_before : ℕ
  pub config_after : ℕ
  pub input_before : ℕ
  pub input_after : ℕ
  pub out_before : ℕ
  pub out_after : ℕ

-- of a source of the configuration, one of the input, and an output, each before and after
abbrev pub sides_of : {C S K : Type 0} → Sources C → Sources S → Sinks K → C → C → S → S → K → K → Sides
sides_of configs inputs outs config_old config_new input_old input_new out_old out_new = record {
  text = configs.left config_old;
  left_before = inputs.left input_old;
  left_after = inputs.left input_new;
  held_before = outs.held out_old;
  held_after = outs.held out_new;
  config_before = configs.faults config_old;
  config_after = configs.faults config_new;
  input_before = inputs.faults input_old;
  input_after = inputs.faults input_new;
  out_before = outs.faults out_old;
  out_after = outs.faults out_new;
}

-- nothing was taken from the input, and nothing written to the output
pub record IsUntouched (sides : Sides) : Type 0 where
  pub left : Keeps sides.left_before sides.left_after
  pub held : Keeps sides.held_before sides.held_after

-- the configuration, the input or the output had a fault
abbrev pub ConfigFailed : Sides → Type 0
ConfigFailed sides = Rose sides.config_before sides.config_after

abbrev pub InputFailed : Sides → Type 0
InputFailed sides = Rose sides.input_before sides.input_after

abbrev pub OutFailed : Sides → Type 0
OutFailed sides = Rose sides.out_before sides.out_after
