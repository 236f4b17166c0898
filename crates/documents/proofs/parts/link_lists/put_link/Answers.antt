use Rattle.std.proofs.Common.{◌+◌, ◌≤◌, sym, subst, arith}
use Rattle.std.specs.FinMap.{len}
use Rattle.object_ids.proofs.PutLemmas.{insert_most}
use Rattle.documents.specs.Parts.TitleMaps.{TargetMap}
use Rattle.documents.proofs.parts.link_lists.put_link.Goals as goal

pub returns-in-Ok-clause-many : goal.returns-in-Ok-clause-many
returns-in-Ok-clause-many c =
    let old = c.args.links.now in
    subst (λ (m : TargetMap). len m ≤ len old + 1) (sym c.in-Ok.ensures.ok) (insert_most (len old + 1) old c.in_ok-title.title c.in_ok-target.target (omega arith))
