use Rattle.std.proofs.Common.{length}
use Rattle.flush_journal.specs.Batches.{records}
use Rattle.chunk_owner.proofs.OfOwners.CutLemmas.{all_cut, cut_more, stopped_bodies, stopped_cut, stopped_front, stopped_lanes, stopped_objects, stopped_standing}
use Rattle.chunk_owner.proofs.owners.cuts.cut_lanes.Goals as goal

pub loop-lane-preserved : goal.loop-lane-preserved
loop-lane-preserved c =
    cut_more (length c.args.owners.now) c.loop-lane.lane c.args.owners.now c.loop-lane.owners c.cut_lane.new.owners (records c.args.into.now) (records c.loop-lane.into) (records c.cut_lane.new.into)
    c.requires.lanes c.are_whole.ensures c.loop-lane-test.true c.loop-lane.invariant c.in_ok-cut_lane.ensures.cuts c.in_ok-cut_lane.ensures.still

pub returns-in_err-cut_lane-clause-cut : goal.returns-in_err-cut_lane-clause-cut
returns-in_err-cut_lane-clause-cut c =
    stopped_cut (length c.args.owners.now) c.loop-lane.lane c.args.owners.now c.loop-lane.owners c.cut_lane.new.owners (records c.args.into.now) (records c.loop-lane.into) (records c.cut_lane.new.into)
    c.loop-lane-test.true c.loop-lane.invariant c.in_err-cut_lane.ensures.err c.in_err-cut_lane.ensures.back

pub returns-in_err-cut_lane-clause-bodies : goal.returns-in_err-cut_lane-clause-bodies
returns-in_err-cut_lane-clause-bodies c =
    stopped_bodies (length c.args.owners.now) c.loop-lane.lane c.args.owners.now c.loop-lane.owners c.cut_lane.new.owners (records c.args.into.now) (records c.loop-lane.into) (records c.cut_lane.new.into)
    c.loop-lane-test.true c.loop-lane.invariant c.in_err-cut_lane.ensures.err c.in_err-cut_lane.ensures.back

pub returns-in_err-cut_lane-clause-standing : goal.returns-in_err-cut_lane-clause-standing
returns-in_err-cut_lane-clause-standing c =
    stopped_standing (length c.args.owners.now) c.loop-lane.lane c.args.owners.now c.loop-lane.owners c.cut_lane.new.owners (records c.args.into.now) (records c.loop-lane.into) (records c.cut_lane.new.into)
    c.loop-lane-test.true c.loop-lane.invariant c.in_err-cut_lane.ensures.err c.in_err-cut_lane.ensures.back

pub returns-in_err-cut_lane-clause-front : goal.returns-in_err-cut_lane-clause-front
returns-in_err-cut_lane-clause-front c =
    stopped_front (length c.args.owners.now) c.loop-lane.lane c.args.owners.now c.loop-lane.owners c.cut_lane.new.owners (records c.args.into.now) (records c.loop-lane.into) (records c.cut_lane.new.into)
    c.loop-lane-test.true c.loop-lane.invariant c.in_err-cut_lane.ensures.err c.in_err-cut_lane.ensures.back c.from_residual.result

pub returns-in_err-cut_lane-clause-objects : goal.returns-in_err-cut_lane-clause-objects
returns-in_err-cut_lane-clause-objects c =
    stopped_objects (length c.args.owners.now) c.loop-lane.lane c.args.owners.now c.loop-lane.owners c.cut_lane.new.owners (records c.args.into.now) (records c.loop-lane.into) (records c.cut_lane.new.into)
    c.loop-lane-test.true c.loop-lane.invariant c.in_err-cut_lane.ensures.err c.in_err-cut_lane.ensures.back

pub returns-in_err-cut_lane-clause-lanes : goal.returns-in_err-cut_lane-clause-lanes
returns-in_err-cut_lane-clause-lanes c =
    stopped_lanes (length c.args.owners.now) c.loop-lane.lane c.args.owners.now c.loop-lane.owners c.cut_lane.new.owners (records c.args.into.now) (records c.loop-lane.into) (records c.cut_lane.new.into)
    c.loop-lane-test.true c.loop-lane.invariant c.in_err-cut_lane.ensures.err c.in_err-cut_lane.ensures.back

pub returns-clause-cut : goal.returns-clause-cut
returns-clause-cut c = all_cut (length c.args.owners.now) c.loop-lane.lane c.args.owners.now c.loop-lane.owners (records c.args.into.now) (records c.loop-lane.into) c.loop-lane.invariant
