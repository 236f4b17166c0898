use Rattle.flush_journal.specs.Batches.{records}
use Rattle.service_core.proofs.OfJournals.MakingLemmas.{has_lanes, has_one}
use Rattle.service_core.proofs.journals.making.write_first.Goals as goal

pub returns-clause-lanes : goal.returns-clause-lanes
returns-clause-lanes g c = has_lanes c.args.lanes (records c.args.batch) c.requires.some c.create_with.result c.create_with.ensures.numbers

pub returns-clause-batches : goal.returns-clause-batches
returns-clause-batches g c = has_one c.args.lanes (records c.args.batch) c.requires.some c.create_with.result c.create_with.ensures.numbers
