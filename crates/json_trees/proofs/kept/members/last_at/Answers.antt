-- Member by member.
use Rattle.std.proofs.Common.{◌≡◌, None, Some, arith}
use Rattle.json.specs.Json.{read_key}
use Rattle.json_trees.proofs.OfKept.KeyLemmas.{sought_more, sought_over}
use Rattle.json_trees.proofs.kept.members.last_at.Goals as goal

pub members-preserved : goal.members-preserved
members-preserved c all rest h =
    let l = c.members in
    let named : read_key l.reader ≡ Some (Some c.in-Ok-Some.name.now, c.next_key.new.self) = grind arith in
    sought_more c.args.key.now c.in-Ok-Some.name.now c.is_same.result all rest l.reader c.next_key.new.self c.after.new.reader l.found _ (l.invariant all rest h) named c.is_same.ensures.same c.is_same.ensures.other c.in_ok-found-in-Ok-Some.ensures.told

pub returns-in-Ok-None : goal.returns-in-Ok-None
returns-in-Ok-None c all rest h =
    let l = c.members in
    let closed : read_key l.reader ≡ Some (None, c.next_key.new.self) = grind arith in
    sought_over c.args.key.now all rest l.reader c.next_key.new.self l.found (l.invariant all rest h) closed
