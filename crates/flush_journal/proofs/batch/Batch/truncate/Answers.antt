use Rattle.std.proofs.Common.{◌∙◌, ap, sym, length, arith}
use Rattle.flush_journal.specs.Frames.{frame_size}
use Rattle.flush_journal.proofs.BatchFronts.{cut_front, nothing_kept, no_front, front_inside}
use Rattle.flush_journal.proofs.batch.Batch.truncate.Goals as goal

pub invariant_of-self : goal.invariant_of-self
invariant_of-self c = let kept = nothing_kept _ c.clear.ensures.items in record { whole = kept.whole; sound = kept.sound }

pub cut_frame-requires-clause-inside : goal.cut_frame-requires-clause-inside
cut_frame-requires-clause-inside c = let r = c.requires in omega (arith, front_inside r.0 r.1, ap frame_size r.2, ap length c.args.self.now.whole, r.3)

pub invariant_of-self-else-size-lt-BESIDE : goal.invariant_of-self-else-size-lt-BESIDE
invariant_of-self-else-size-lt-BESIDE c =
    let r = c.requires in
    let kept = cut_front c.args.self.now.frame.items _ c.args.size r.0 r.1 c.args.self.now.whole c.args.self.now.sound r.2 r.3 c.if-size-lt-BESIDE.false c.cut_frame.ensures.items in
    record { whole = kept.whole; sound = kept.sound }

pub returns-then-size-lt-BESIDE-clause-front : goal.returns-then-size-lt-BESIDE-clause-front
returns-then-size-lt-BESIDE-clause-front c = λ front back is long. (nothing_kept _ c.clear.ensures.items).records ∙ sym (no_front front (omega (arith, long, c.if-size-lt-BESIDE.true)))

pub returns-else-size-lt-BESIDE-clause-front : goal.returns-else-size-lt-BESIDE-clause-front
returns-else-size-lt-BESIDE-clause-front c = λ front back is long.
    (cut_front c.args.self.now.frame.items _ c.args.size front back c.args.self.now.whole c.args.self.now.sound is long c.if-size-lt-BESIDE.false c.cut_frame.ensures.items).records

pub returns-else-size-lt-BESIDE-clause-keeps : goal.returns-else-size-lt-BESIDE-clause-keeps
returns-else-size-lt-BESIDE-clause-keeps c =
    let r = c.requires in
    omega (arith, front_inside r.0 r.1, ap frame_size r.2, ap length c.args.self.now.whole, r.3, c.cut_frame.ensures.len, c.cut_frame.ensures.capacity)
