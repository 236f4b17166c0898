use Rattle.std.proofs.Common.{◌∙◌, ap, List}
use Rattle.std.specs.Prelude.{None, Some}
use Rattle.toml.specs.View.{members_view}
use Rattle.toml.proofs.Views.{table_get}
use Rattle.configuration.specs.Tables.{optional_table}
use Rattle.configuration.proofs.TableLemmas.{Entry}
use Rattle.configuration.proofs.tables.table_at.Goals as goal

pub returns-in-Some : goal.returns-in-Some
returns-in-Some c =
    c.as_table.ensures ∙ ap optional_table (table_get (Some c.in-Some.value) c.args.key.now c.args.table.now.entries c.in-Some.ensures.value)

pub returns-in-None : goal.returns-in-None
returns-in-None c =
    ap (λ (es : List Entry). Some (members_view es)) c.requires ∙ ap optional_table (table_get None c.args.key.now c.args.table.now.entries c.in-None.ensures.value)
