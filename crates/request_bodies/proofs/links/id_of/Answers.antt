use Rattle.std.proofs.Common.{rules}
use Rattle.std.specs.Prelude.{IfSome}
use Rattle.object_ids.specs.Ids.{InRange}
use Rattle.request_bodies.proofs.links.id_of.Goals as goal
use Rattle.groups_links.proofs.IdLemmas.{id_found}

pub returns : goal.returns
returns c =
    let range : IfSome c.read_id.result InRange = search rules in
    id_found c.args.text.now c.read_id.result range c.read_id.ensures.some c.read_id.ensures.none
