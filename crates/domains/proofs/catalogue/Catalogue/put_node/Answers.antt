use Rattle.std.proofs.Common.{ℕ, ap, ap₂, sym, subst, ◌∙◌}
use Rattle.std.specs.FinMap.{FinMap, insert}
use Rattle.containers.specs.TextMaps.Keyed.{text_order}
use Rattle.domains.specs.declared.classes.Node.{Node}
use Rattle.domains.specs.Contents.{Contents, IsCatalogue, raised}
use Rattle.domains.proofs.Puts.{with_node-valid}
use Rattle.domains.proofs.catalogue.Catalogue.put_node.Goals as goal

pub returns-clause-ok : goal.returns-clause-ok
returns-clause-ok c =
    let make : FinMap text_order Node → ℕ → Contents = λ nodes next. record { nodes = nodes; next = next } in
    let nodes =
    c.in_ok-put_copy.ensures.ok
    ∙ ap (λ m. insert m c.text.result.now c.args.node) (ap (λ (k : Contents). k.nodes) c.self.view_is)
    ∙ ap (λ text. insert c.args.self.now.nodes text c.args.node) c.text.ensures.value in
    let next = c.raised-next.ensures ∙ ap (λ (k : Contents). raised k.next c.args.node.class) c.self.view_is in
    ap₂ make nodes next

pub invariant_of-self-2 : goal.invariant_of-self-2
invariant_of-self-2 c =
    subst IsCatalogue (sym (returns-clause-ok c))
    (with_node-valid c.args.self.now c.args.path.now c.args.node (subst IsCatalogue c.self.view_is c.self.invariant) c.text.ensures.canonical
    c.requires.place c.requires.room c.requires.children c.requires.fits c.requires.free c.requires.root)
