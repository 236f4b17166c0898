use Rattle.std.proofs.Common.{ℕ, ◌+◌, vec_len, sym, ap, ◌∙◌, arith, subst}
use Rattle.flush_journal.specs.declared.journal.Journal.{Journal}
use Rattle.hall.specs.Passes.{HasBegun, IsNewWorld}
use Rattle.service_core.specs.Worlds.{State}
use Rattle.rest_session.specs.Halls.Histories.{IsClosed}
use Rattle.rest_session.specs.Halls.Visits.{telling}
use Rattle.rest_session.proofs.halls.top.serve_hall.Goals as goal

pub run_hall-closed-requires-clause-begun : goal.run_hall-closed-requires-clause-begun
run_hall-closed-requires-clause-begun g c κs within = (
  c.begin-world.result.0,
  subst IsNewWorld (sym c.begin-world.ensures.world) c.requires.new,
  subst (λ (m : ℕ). HasBegun c.in-Ok-begin.hall c.in-Ok-begin.pass c.begin-world.result.0 m) (omega arith) c.in-Ok-begin.ensures.begun,
)

pub returns : goal.returns
returns g c =
    let met = g.D.Disk in
    let begun = subst (λ (m : ℕ). HasBegun c.in-Ok-begin.hall c.in-Ok-begin.pass c.begin-world.result.0 m) (omega arith) c.in-Ok-begin.ensures.begun in
    let here = subst (λ (s : State). HasBegun c.in-Ok-begin.hall c.in-Ok-begin.pass s (vec_len c.args.doors + 2)) c.begin-world.ensures.world begun in record {
      served = subst (λ (j : Journal g.row.D.Denot met). IsClosed met _ (telling g.F.Door g.F.Link.Source g.F.Link.Sink) c.args.tokens.now c.args.links j c.args.world
          c.run_hall-closed.result c.args.doors.items c.run_hall-closed.new.doors.items)
          (ap (λ k. k.value) c.in-Ok-begin.ensures.desk ∙ c.begin-world.ensures.first) (c.run_hall-closed.ensures.closed c.args.world c.requires.new here);
    }
