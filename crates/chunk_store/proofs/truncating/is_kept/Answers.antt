use Rattle.std.proofs.Common.{◌≤◌, min, length, sym, ◌∙◌, arith}
use Rattle.chunk_store.proofs.MarkLemmas.{keeps_end, least_past}
use Rattle.chunk_store.proofs.truncating.is_kept.Goals as goal

pub returns : goal.returns
returns c =
    let is = c.args.index.now in
    let ns = c.args.chunk.now in
    let olds = c.args.old.now in
    let news = c.args.new.now in
    let k = c.loop-axis.axis in
    let past : min (min (min (length c.args.index.now) (length c.args.chunk.now)) (length c.args.old.now)) (length c.args.new.now) ≤ c.loop-axis.axis =
    omega (arith, c.loop-axis-test.false, c.min-axes.ensures, c.min-2.ensures, c.min.ensures, c.len.ensures.count, c.len-2.ensures.count, c.len-3.ensures.count, c.len-4.ensures.count) in
    sym (keeps_end k is ns olds news (least_past (length is) (length ns) (length olds) (length news) k past)) ∙ c.loop-axis.invariant
