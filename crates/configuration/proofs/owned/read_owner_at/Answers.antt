use Rattle.std.proofs.Common.{◌∙◌, sym, ap}
use Rattle.std.specs.Prelude.{None, Some, codes}
use Rattle.std.specs.Option.{option_and_then}
use Rattle.std.proofs.lemmas.Result.{IfOk-weaker}
use Rattle.toml.proofs.Views.{table_get}
use Rattle.configuration.specs.Settings.{owner_of}
use Rattle.configuration.proofs.owned.read_owner_at.Goals as goal

pub returns-in-Some-clause-ok : goal.returns-in-Some-clause-ok
returns-in-Some-clause-ok c =
    let found = table_get (Some c.in-Some.value) (codes "owner") c.args.table.now.entries c.in-Some.ensures.value in
    IfOk-weaker c.read_owner.result _ _ (λ owner h. ap (option_and_then owner_of) (sym found) ∙ h) c.read_owner.ensures.ok

pub returns-in-Some-clause-bad : goal.returns-in-Some-clause-bad
returns-in-Some-clause-bad c =
    let found = table_get (Some c.in-Some.value) (codes "owner") c.args.table.now.entries c.in-Some.ensures.value in
    λ err. ap (option_and_then owner_of) (sym found) ∙ c.read_owner.ensures.bad err

pub returns-in-None-clause-bad : goal.returns-in-None-clause-bad
returns-in-None-clause-bad c =
    let found = table_get None (codes "owner") c.args.table.now.entries c.in-None.ensures.value in
    λ err. ap (option_and_then owner_of) (sym found)
