-- The configuration that a source spells.
use Rattle.std.proofs.Common.{◌≡◌, ◌≤◌, ◌^◌, ℕ, List, ◌++◌, Some, None, ap, ◌∙◌, append-nil, length, cond}
use Rattle.std.specs.Prelude.{option_and_then}
use Rattle.std.specs.declared.option.Option.{Option}
use Rattle.std.proofs.lemmas.Bool.{le-leb}
use Rattle.configuration.specs.declared.config.Config.{Config}
use Rattle.configuration.specs.Configured.{config_of, document_in}
use Rattle.edge_traits.specs.SourceTexts.Texts.{IsWholeText}
use Rattle.hsds_cli.specs.Sides.{Spells, configured}

within_limit : (text : List ℕ) (config : Config) → length text ≤ 2 ^ 20 → option_and_then config_of (document_in text) ≡ Some config → configured text ≡ Some config
within_limit text config short spelled = ap (λ b. cond b (option_and_then config_of (document_in text)) None) (le-leb (length text) (2 ^ 20) short) ∙ spelled

-- a text that was read whole is the one that is told
pub spells : (old new : Option (List ℕ)) (text : List ℕ) (config : Config) → IsWholeText (2 ^ 20) old new text
    → option_and_then config_of (document_in text) ≡ Some config → Spells old config
spells None new text config whole spelled = tt
spells (Some x) None text config whole spelled = absurd whole.taken
spells (Some x) (Some y) text config whole spelled =
    let same : x ≡ text = whole.taken ∙ ap (λ l. text ++ l) whole.end ∙ append-nil text in
    ap configured same ∙ within_limit text config whole.within spelled
