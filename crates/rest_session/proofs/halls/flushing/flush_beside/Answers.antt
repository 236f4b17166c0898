use Rattle.std.proofs.Common.{◌∙◌}
use Rattle.rest_session.specs.Halls.Accounts.{account}
use Rattle.rest_session.proofs.OfHalls.Flushes.{nothing_more}
use Rattle.rest_session.proofs.halls.flushing.flush_beside.Goals as goal

pub returns-then-are_all-clause-nothing : goal.returns-then-are_all-clause-nothing
returns-then-are_all-clause-nothing g c = λ tokens.
    let h = c.args.hall.now in
    nothing_more (account tokens h c.args.pass.now) (account tokens h c.loop.pass) (account tokens h c.flush_behind-last.new.pass) (c.loop.invariant.nothing tokens)
    (c.flush_behind-last.ensures.nothing tokens)

pub loop-preserved : goal.loop-preserved
loop-preserved g c = record {
  ready = c.flush_behind-last.ensures.ready;
  same = c.flush_behind-last.ensures.same ∙ c.loop.invariant.same;
  nothing = λ tokens.
      let h = c.args.hall.now in
      nothing_more (account tokens h c.args.pass.now) (account tokens h c.loop.pass) (account tokens h c.flush_behind-last.new.pass) (c.loop.invariant.nothing tokens)
      (c.flush_behind-last.ensures.nothing tokens);
}
