use Rattle.std.proofs.Common.{refl, ap, length, length-append, length-drop, drop, ◌++◌, arith}
use Rattle.http_wire.specs.Taken.{head_bytes}
use Rattle.http_wire.proofs.MessageLemmas.{skipped_behind, short_behind, stops_behind, leaves_nothing}
use Rattle.http_wire.proofs.inbox.Inbox.skip_message.Goals as goal

pub returns-in-Full-clause-taken : goal.returns-in-Full-clause-taken
returns-in-Full-clause-taken g c = λ h at small sized.
    let passes = c.in-Full.ensures.dropped in
    let same = ap length c.unused-count.ensures.value in
    let whole = skipped_behind _ _ _ _ _ h c.args.spans.len c.args.size c.in-Full.ensures.none passes.1
    (let p = passes.2 in omega (arith, p, same)) c.requires.behind at.reads.0 small sized at.reads.1 in
    (_, whole.0, whole.1, c.closes-close.ensures h at)

pub returns-in-Cut-clause-taken : goal.returns-in-Cut-clause-taken
returns-in-Cut-clause-taken g c = λ h at small sized.
    let dropped = c.in-Cut.ensures.dropped in
    let passes = dropped.0 in
    let same = ap length c.unused-count.ensures.value in
    let short = short_behind _ _ _ _ h c.args.spans.len c.args.size passes.1
    (let p = passes.2 in let l = dropped.1 in omega (arith, p, l, same)) at.reads.0 small sized at.reads.1 in
    (_, short.0, (let p = passes.2 in let l = short.3 in omega (arith, p, l, same)), (let s = short.4 in omega (arith, s, same)), dropped.2, short.1, short.2, short.5)

pub returns-in-Fault-clause-taken : goal.returns-in-Fault-clause-taken
returns-in-Fault-clause-taken g c = λ h at small sized.
    let dropped = c.in-Fault.ensures.dropped in
    let passes = dropped.1 in
    let same = ap length c.unused-count.ensures.value in
    let short = short_behind _ _ _ _ h c.args.spans.len c.args.size passes.1
    (let p = passes.2 in let l = dropped.2 in omega (arith, p, l, same)) at.reads.0 small sized at.reads.1 in
    (_, short.0, short.1, short.2)

pub returns-in-Cut-clause-held : goal.returns-in-Cut-clause-held
returns-in-Cut-clause-held g c = λ h at small sized.
    let dropped = c.in-Cut.ensures.dropped in
    let passes = dropped.0 in
    let same = ap length c.unused-count.ensures.value in
    let size_is = passes.2 in
    let few = dropped.1 in
    let stops = stops_behind _ passes.0 h c.args.spans.len c.args.size at.reads.0 small sized at.reads.1
    (omega (arith, length-append (drop c.args.spans.len (head_bytes c.args.self.now)) passes.0, length-drop c.args.spans.len (head_bytes c.args.self.now), size_is, few, same)) in
    let none = c.in-Cut.ensures.none in
    let waits = ap (λ l. length (l ++ (head_bytes c.args.self.now ++ passes.0))) none in
    (_, leaves_nothing _ _ _ _ passes.0 none refl passes.1 stops, omega (arith, waits, length-append (head_bytes c.args.self.now) passes.0, size_is, same))

pub returns-in-Fault-clause-held : goal.returns-in-Fault-clause-held
returns-in-Fault-clause-held g c = λ h at small sized.
    let dropped = c.in-Fault.ensures.dropped in
    let passes = dropped.1 in
    let same = ap length c.unused-count.ensures.value in
    let size_is = passes.2 in
    let few = dropped.2 in
    let stops = stops_behind _ passes.0 h c.args.spans.len c.args.size at.reads.0 small sized at.reads.1
    (omega (arith, length-append (drop c.args.spans.len (head_bytes c.args.self.now)) passes.0, length-drop c.args.spans.len (head_bytes c.args.self.now), size_is, few, same)) in
    (_, leaves_nothing _ _ _ _ passes.0 c.in-Fault.ensures.none refl passes.1 stops)
