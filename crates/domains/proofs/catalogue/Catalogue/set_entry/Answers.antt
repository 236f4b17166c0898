use Rattle.std.proofs.Common.{ap, ◌∙◌}
use Rattle.std.specs.FinMap.{FinMap}
use Rattle.std.proofs.lemmas.Result.{on_err_weaker, on_ok_weaker}
use Rattle.containers.specs.TextMaps.Keyed.{text_order}
use Rattle.domains.specs.declared.classes.Node.{Node}
use Rattle.domains.specs.Contents.{Contents}
use Rattle.domains.specs.Changes.{with_entry}
use Rattle.domains.proofs.Removals.{entry_kept}
use Rattle.domains.proofs.catalogue.Catalogue.set_entry.Goals as goal

pub invariant_of-self : goal.invariant_of-self
invariant_of-self c = entry_kept c.put_entry_at.result (record { nodes = c.self.inside.nodes; next = c.self.inside.next }) c.text.result.now c.args.name.now c.args.rights
    c.put_entry_at.new.nodes c.self.invariant c.put_entry_at.ensures.ok c.put_entry_at.ensures.err

pub returns-clause-ok : goal.returns-clause-ok
returns-clause-ok c =
    let make : FinMap text_order Node → Contents = λ nodes. record { nodes = nodes; next = c.self.inside.next } in
    on_ok_weaker c.put_entry_at.result
    (λ done. ap make done ∙ ap (λ k. with_entry k c.text.result.now c.args.name.now c.args.rights) c.self.view_is
    ∙ ap (λ path. with_entry c.args.self.now path c.args.name.now c.args.rights) c.text.ensures.value)
    c.put_entry_at.ensures.ok

pub returns-clause-err : goal.returns-clause-err
returns-clause-err c =
    let make : FinMap text_order Node → Contents = λ nodes. record { nodes = nodes; next = c.self.inside.next } in
    on_err_weaker c.put_entry_at.result (λ same. ap make same ∙ c.self.view_is) c.put_entry_at.ensures.err
