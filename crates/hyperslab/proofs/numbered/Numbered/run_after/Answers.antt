use Rattle.std.proofs.Common.{◌<◌, refl, sym, arith}
use Rattle.hyperslab.proofs.RowLemmas.{is_moved, last_first, last_inside}
use Rattle.hyperslab.proofs.numbered.Numbered.run_after.Goals as goal

pub returns-then-last-eq0-clause-last : goal.returns-then-last-eq0-clause-last
returns-then-last-eq0-clause-last c = last_first _ _ _ c.args.last.now _ c.requires.row c.requires.last c.if-last-eq0.true refl c.run.ensures

pub overflow_add-run : goal.overflow_add-run
overflow_add-run c =
    let some : 0 < c.args.last.now.left = omega (arith, c.if-last-eq0.false) in
    omega (arith, (is_moved c.args.self.now c.args.row.now c.args.number c.args.last.now c.requires.runs c.requires.row c.requires.below c.requires.last some).index_fits)

pub overflow_add-run-2 : goal.overflow_add-run-2
overflow_add-run-2 c =
    let some : 0 < c.args.last.now.left = omega (arith, c.if-last-eq0.false) in
    omega (arith, (is_moved c.args.self.now c.args.row.now c.args.number c.args.last.now c.requires.runs c.requires.row c.requires.below c.requires.last some).offset_fits)

pub returns-clause-run : goal.returns-clause-run
returns-clause-run c =
    let some : 0 < c.args.last.now.left = omega (arith, c.if-last-eq0.false) in
    sym (is_moved c.args.self.now c.args.row.now c.args.number c.args.last.now c.requires.runs c.requires.row c.requires.below c.requires.last some).run

pub returns-clause-last : goal.returns-clause-last
returns-clause-last c =
    let some : 0 < c.args.last.now.left = omega (arith, c.if-last-eq0.false) in
    last_inside _ _ _ c.args.last.now _ c.requires.last some refl (returns-clause-run c)
