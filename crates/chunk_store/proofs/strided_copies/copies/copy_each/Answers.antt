use Rattle.std.proofs.Common.{◌≡◌, ◌≤◌, ◌+◌, ◌*◌, length, ap, sym, ◌∙◌, subst, arith}
use Rattle.chunk_store.specs.StridedCopies.Strides.{nth, AreCopied, AreOthersKept}
use Rattle.chunk_store.proofs.StridedCopies.StrideLemmas.{length-subslice, number_small, put_copied, put_kept}
use Rattle.chunk_store.proofs.strided_copies.copies.copy_each.Goals as goal

pub overflow_add-to : goal.overflow_add-to
overflow_add-to c =
    let i = c.loop-i.i in
    omega (arith, number_small (nth c.args.to i) c.args.size (length c.args.out.now) c.requires.size (c.requires.out i c.loop-i-test.true))

pub loop-i-preserved : goal.loop-i-preserved
loop-i-preserved c =
    let to = c.args.to in
    let at = c.args.at in
    let i = c.loop-i.i in
    let size = c.args.size in
    let inside = c.requires.from i c.loop-i-test.true in
    let room : (nth c.args.to c.loop-i.i + 1) * c.args.size ≤ length c.loop-i.out = omega (arith, c.requires.out i c.loop-i-test.true, c.loop-i.invariant.len) in
    let xs = c.subslice-element.result.now in
    let len : length c.subslice-element.result.now ≡ 1 * c.args.size = ap length c.subslice-element.ensures ∙ length-subslice size (nth at i) 1 c.args.from.now inside in
    record {
      copied = subst (AreCopied to at (i + 1) size c.args.from.now) (sym c.put.ensures)
          (put_copied to at i size c.args.from.now c.loop-i.out xs c.requires.apart c.loop-i.invariant.copied c.subslice-element.ensures inside room);
      kept = subst (AreOthersKept to (i + 1) size c.args.out.now) (sym c.put.ensures) (put_kept to i size c.args.out.now c.loop-i.out xs c.loop-i.invariant.kept len room);
      len = omega (arith, c.put.auto.bytes, c.loop-i.invariant.len);
    }
