use Rattle.std.proofs.Common.{refl, ap, sym, subst, ◌∙◌}
use Rattle.std.specs.FinMap.{FinMap, insert}
use Rattle.containers.specs.TextMaps.Keyed.{text_order}
use Rattle.object_ids.specs.Paths.{root_path}
use Rattle.domains.specs.declared.classes.Node.{Node}
use Rattle.domains.specs.declared.classes.NodeClass.TheVariants.{Folder}
use Rattle.domains.specs.Contents.{IsCatalogue}
use Rattle.domains.proofs.Puts.{only_root-valid}
use Rattle.domains.proofs.catalogue.Catalogue.new.Goals as goal

pub invariant_of-result : goal.invariant_of-result
invariant_of-result c =
    let root : Node = record { class = Folder; owner = c.args.owner; list = c.new.result } in
    let Valid : FinMap text_order Node → Type 0 = λ m. IsCatalogue (record { nodes = m; next = 1 }) in
    subst Valid (sym (c.in_ok-put_copy.ensures.ok ∙ ap (λ m. insert m root_path root) c.new-nodes.ensures)) (only_root-valid root refl)
