use Rattle.std.proofs.Common.{[], Option, refl, sym, ◌∙◌, subst, append-nil}
use Rattle.rest_session.specs.Halls.Accounts.{account}
use Rattle.rest_session.specs.Halls.Visits.{telling}
use Rattle.rest_session.specs.Halls.Workers.{WorksAt}
use Rattle.rest_session.proofs.halls.workers.run_worker.Goals as goal

pub returns-in-None : goal.returns-in-None
returns-in-None g c =
    let t = telling g.F.Door g.F.Link.Source g.F.Link.Sink in
    let h = c.args.hall.now in
    let w = c.args.worker.now in
    let before = account c.args.tokens.now h w.pass in
    let after = account c.args.tokens.now h c.flush_beside.new.pass in
    let nothing = c.flush_beside.ensures.nothing c.args.tokens.now in record {
      ready = c.flush_beside.ensures.ready;
      same = c.flush_beside.ensures.same;
      works = subst (λ (o : Option g.row.F.Denot). WorksAt t c.args.links o o w.ends.items before after w.door_failed) (sym c.in-None.is) (c.requires.new.0, c.requires.new.2, nothing);
      gates = record { more = []; grew = nothing.told ∙ sym (append-nil before.told); gone = refl };
    }
