use Rattle.std.proofs.Common.{◌∙◌, ap, false, Option}
use Rattle.std.specs.Prelude.{None, Some, Bool}
use Rattle.std.specs.Option.{option_and_then, unwrap_or}
use Rattle.toml.specs.Data.{Data, as_bool}
use Rattle.toml.proofs.Views.{table_get}
use Rattle.configuration.proofs.rights.flag_at.Goals as goal

pub returns-in-Some : goal.returns-in-Some
returns-in-Some c =
    c.unwrap_or.ensures ∙ ap (λ (o : Option Bool). unwrap_or o false) c.as_bool.ensures
    ∙ ap (λ (o : Option Data). unwrap_or (option_and_then as_bool o) false) (table_get (Some c.in-Some.value) c.args.key.now c.args.table.now.entries c.in-Some.ensures.value)

pub returns-in-None : goal.returns-in-None
returns-in-None c =
    ap (λ (o : Option Data). unwrap_or (option_and_then as_bool o) false) (table_get None c.args.key.now c.args.table.now.entries c.in-None.ensures.value)
