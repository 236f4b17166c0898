use Rattle.std.proofs.Common.{◌≡◌, ◌≤◌, ◌+◌, ◌*◌, length, ap, sym, ◌∙◌, subst, arith}
use Rattle.hdf_values.specs.Nested.{with_pieces}
use Rattle.chunk_store.specs.StridedCopies.Strides.{AreCopied, AreOthersKept}
use Rattle.chunk_store.proofs.StridedCopies.StrideLemmas.{length-subslice, fit_together, together_copied, together_kept}
use Rattle.chunk_store.proofs.strided_copies.copies.copy_strided.Goals.{After-subslice}
use Rattle.chunk_store.proofs.strided_copies.copies.copy_strided.Goals as goal

inside : (c : After-subslice) → (c.args.at.first + c.args.many) * c.args.size ≤ length c.args.from.now
inside c = fit_together c.args.at c.args.many c.args.size (length c.args.from.now) (omega arith) (omega arith) c.requires.from

room : (c : After-subslice) → (c.args.to.first + c.args.many) * c.args.size ≤ length c.args.out.now
room c = fit_together c.args.to c.args.many c.args.size (length c.args.out.now) (omega arith) (omega arith) c.requires.out

long : (c : After-subslice) → length c.subslice.result.now ≡ c.args.many * c.args.size
long c = ap length c.subslice.ensures ∙ length-subslice c.args.size c.args.at.first c.args.many c.args.from.now (inside c)

pub put-requires : goal.put-requires
put-requires c =
    let at = (goal.at.put-requires c).After-subslice in
    omega (arith, room at, long at)

pub returns-then-at-eq1-clause-copied : goal.returns-then-at-eq1-clause-copied
returns-then-at-eq1-clause-copied c =
    let a = c.args in
    let at = (goal.at.returns-then-at-eq1-clause-copied c).After-subslice in
    let put = c.put.ensures ∙ ap (λ xs. with_pieces a.size a.to.first xs a.out.now) c.subslice.ensures in
    subst (AreCopied a.to a.at a.many a.size a.from.now) (sym put) (together_copied a.to a.at a.many a.size a.from.now a.out.now (omega arith) (omega arith) (inside at) (room at))

pub returns-then-at-eq1-clause-kept : goal.returns-then-at-eq1-clause-kept
returns-then-at-eq1-clause-kept c =
    let a = c.args in
    let at = (goal.at.returns-then-at-eq1-clause-kept c).After-subslice in
    subst (AreOthersKept a.to a.many a.size a.out.now) (sym c.put.ensures) (together_kept a.to a.many a.size c.subslice.result.now a.out.now (omega arith) (long at) (room at))
