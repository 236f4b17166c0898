use Rattle.std.proofs.Common.{drop, length, ap, arith}
use Rattle.std.proofs.lemmas.List.{length-append, length-drop}
use Rattle.hdf_values.proofs.kept.packed.longer.Goals as goal

pub push-requires : goal.push-requires
push-requires c =
    let l = c.loop-n in
    let items = c.as_slice-n-items.result.now in
    let all = ap length c.loop-n.invariant.all in
    let left = length-drop l.n-index items in
    (omega arith, omega (arith, all, left, length-append l.more (drop c.loop-n.n-index items), ap length c.as_slice-n-items.ensures))
