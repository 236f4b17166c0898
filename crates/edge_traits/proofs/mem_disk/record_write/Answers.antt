use Rattle.std.proofs.Common.{◌≡◌, rules}
use Rattle.edge_traits.proofs.mem_disk.record_write.Goals as goal

pub returns-clause-calls : goal.returns-clause-calls
returns-clause-calls c =
    let same : c.in_ok-copy.copy.items ≡ c.args.bytes.now = search rules in
    let kept = c.reserve.ensures.items in
    let push = c.push_reserved.ensures.items in
    (c.in_ok-copy.copy, same, cc)
