use Rattle.std.proofs.Common.{ap, sym, subst, ◌∙◌}
use Rattle.std.specs.FinMap as map
use Rattle.std.proofs.lemmas.Result.{on_err_weaker, on_ok_weaker}
use Rattle.domains.specs.Changes.{Blames, entry_put, node_fault}
use Rattle.domains.proofs.Removals.{insert_same}
use Rattle.domains.proofs.catalogue.put_entry_at.Goals as goal

pub returns-in-Some-clause-ok : goal.returns-in-Some-clause-ok
returns-in-Some-clause-ok c = on_ok_weaker c.put_entry.result
    (λ same. ap (map.insert c.args.nodes.now c.args.path.now) same ∙ ap (λ o. entry_put c.args.nodes.now c.args.path.now o c.args.name.now c.args.rights) c.in-Some.ensures.value)
    c.put_entry.ensures.ok

pub returns-in-Some-clause-err : goal.returns-in-Some-clause-err
returns-in-Some-clause-err c = on_err_weaker c.put_entry.result
    (λ same. ap (map.insert c.args.nodes.now c.args.path.now) same ∙ insert_same c.args.nodes.now c.args.path.now c.in-Some.node.now (sym c.in-Some.ensures.value))
    c.put_entry.ensures.err

pub returns-in-Some-clause-why : goal.returns-in-Some-clause-why
returns-in-Some-clause-why c = subst (λ o. Blames c.put_entry.result (node_fault o c.args.name.now)) c.in-Some.ensures.value c.put_entry.ensures.why
