use Rattle.chunk_owner.proofs.OfSlots.CutWalks.{each_settled, kinds_settled, objects_settled, still_settled}
use Rattle.chunk_owner.proofs.OfSlots.Listing.{still_listed}
use Rattle.chunk_owner.proofs.OfSlots.Marks.{cut_marks}
use Rattle.chunk_owner.proofs.slots.cuts.cut.Goals as goal

pub returns-clause-cut : goal.returns-clause-cut
returns-clause-cut c = c.in_ok-append_whole.ensures.cut c.settle_all.new.slots c.settle_all.ensures

pub returns-clause-still : goal.returns-clause-still
returns-clause-still c = still_settled c.args.slots.now c.settle_all.new.slots c.settle_all.ensures

pub returns-clause-each : goal.returns-clause-each
returns-clause-each c = each_settled c.args.slots.now c.settle_all.new.slots c.settle_all.ensures

pub returns-clause-marks : goal.returns-clause-marks
returns-clause-marks c = cut_marks c.args.slots.now c.settle_all.new.slots (each_settled c.args.slots.now c.settle_all.new.slots c.settle_all.ensures)

pub returns-clause-same : goal.returns-clause-same
returns-clause-same c = objects_settled c.args.slots.now c.settle_all.new.slots c.settle_all.ensures

pub returns-clause-kinds : goal.returns-clause-kinds
returns-clause-kinds c = kinds_settled c.args.slots.now c.settle_all.new.slots c.settle_all.ensures c.requires.kinds

pub returns-clause-listed : goal.returns-clause-listed
returns-clause-listed c = still_listed _ c.settle_all.new.slots (still_settled c.args.slots.now c.settle_all.new.slots c.settle_all.ensures)

pub returns-clause-none : goal.returns-clause-none
returns-clause-none c = c.clear.ensures.none
