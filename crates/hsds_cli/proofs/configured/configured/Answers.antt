use Rattle.std.proofs.Common.{ap, sym, ◌∙◌}
use Rattle.std.specs.Prelude.{option_and_then}
use Rattle.configuration.specs.Configured.{config_of, document_in}
use Rattle.hsds_cli.proofs.Configurations.{spells}
use Rattle.hsds_cli.proofs.configured.configured.Goals as goal

pub returns-clause-ok : goal.returns-clause-ok
returns-clause-ok g c =
    spells _ _ _ _ c.in_ok-text.ensures.ok
    (ap (λ text. option_and_then config_of (document_in text)) (sym c.as_slice.ensures.value) ∙ c.in_ok-read_config.ensures.ok)
