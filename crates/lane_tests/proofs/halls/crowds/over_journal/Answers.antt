use Rattle.std.proofs.Common.{ℕ, arith, subst}
use Rattle.hall.specs.Passes.{HasBegun}
use Rattle.lane_tests.proofs.halls.crowds.over_journal.Goals as goal

pub over_hall-requires-clause-begun : goal.over_hall-requires-clause-begun
over_hall-requires-clause-begun g c κs within =
    let b = c.in-Ok.ensures in
    (b.0, subst (λ (m : ℕ). HasBegun c.in-Ok.hall c.in-Ok.pass b.0 m) (omega arith) b.1)
