use Rattle.flush_journal.specs.Batches.{records}
use Rattle.service_core.proofs.OfJournals.RecordLemmas.{first_records}
use Rattle.service_core.proofs.journals.making.first_batch.Goals as goal

pub returns : goal.returns
returns c =
    first_records c.args.catalogue c.args.lanes c.in_ok-world.world c.cut.new.self
    (records c.new-batch.result) (records c.cut.new.into)
    c.in_ok-world.ensures.world c.in_ok-world.ensures.says c.in_ok-world.ensures.undropped c.new-batch.ensures
    c.in_ok-cut.ensures.cut c.in_ok-cut.ensures.bodies c.in_ok-cut.ensures.same c.in_ok-cut.ensures.kept
    (c.is_described.ensures.described c.in_ok-cut.ensures.kept) c.in_ok-cut.ensures.order
