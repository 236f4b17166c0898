use Rattle.std.proofs.Common.{◌≡◌, ◌≢◌, ◌∙◌, sym, subst}
use Rattle.std.specs.FinMap.{FinMap}
use Rattle.std.proofs.lemmas.Bool.{false≢true}
use Rattle.std.proofs.lemmas.Slice.Eq.{bytes_eq-Decides}
use Rattle.containers.specs.TextMaps.Keyed.{text_order}
use Rattle.object_ids.specs.Paths.{root_path}
use Rattle.domains.specs.declared.classes.Node.{Node}
use Rattle.domains.specs.Children.{has_children}
use Rattle.domains.specs.Contents.{Contents, HasChildren, IsCatalogue}
use Rattle.domains.proofs.ChildWalks.{is_has_children}
use Rattle.domains.proofs.Removals.{without_node-valid}
use Rattle.domains.proofs.catalogue.Catalogue.remove.Goals as goal

pub invariant_of-self : goal.invariant_of-self
invariant_of-self c =
    let Valid : FinMap text_order Node → Type 0 = λ m. IsCatalogue (record { nodes = m; next = c.self.inside.next }) in
    let k : Contents = record { nodes = c.self.inside.nodes; next = c.self.inside.next } in
    let path = c.text-4.result.now in
    let same : c.text-2.result.now ≡ path = c.text-2.ensures.value ∙ sym c.text-4.ensures.value in
    let childless : HasChildren k path → ⊥ = λ h. false≢true
    (sym c.if-has_children.false ∙ c.has_children.ensures ∙ (λ i. has_children (sym c.self.view_is i) (same i)) ∙ is_has_children k path h) in
    let below : path ≢ root_path = λ e. false≢true
    (sym c.if-eq.false ∙ c.eq.ensures ∙ (bytes_eq-Decides c.text-3.result.now root_path).1 (c.text-3.ensures.value ∙ sym c.text-4.ensures.value ∙ e)) in
    subst Valid (sym c.remove.ensures.rest) (without_node-valid k path c.self.invariant below childless)
