use Rattle.std.proofs.Common.{◌≡◌, ◌<◌, ◌+◌, ◌∷◌, ap, sym, ◌∙◌, length, arith}
use Rattle.hyperslab.specs.Numbered.{runs_from}
use Rattle.hyperslab.proofs.BoxRunLemmas.{runs_more}
use Rattle.hyperslab.proofs.runs.RunsIterator.next.Goals.{After-run_after-last}
use Rattle.hyperslab.proofs.runs.RunsIterator.next.Goals as goal

more : (c : After-run_after-last) → c.args.self.now ≡ c.run_after-last.result.run ∷ runs_from c.self.inside.runs (c.self.inside.next + 1)
more c =
    let few : c.self.inside.next < c.self.inside.runs.many = omega (arith, c.if-number-many.false, c.many.ensures, c.self.invariant.next) in
    sym c.self.view_is ∙ runs_more c.self.inside.runs c.self.inside.next few ∙ ap (λ x. x ∷ runs_from c.self.inside.runs (c.self.inside.next + 1)) (sym c.run_after-last.ensures.run)

pub returns-clause-steps : goal.returns-clause-steps
returns-clause-steps c = more (goal.at.returns-clause-steps c).After-run_after-last

pub returns-clause-goes : goal.returns-clause-goes
returns-clause-goes c =
    let fewer = ap length (more (goal.at.returns-clause-goes c).After-run_after-last) in
    record { on = λ _. (tt, tt, omega (arith, fewer)); keeps = tt; rests = λ _. tt }
