use Rattle.flush_journal.specs.Batches.{records}
use Rattle.service_core.proofs.OfJournals.MakingLemmas.{each_image, refused_by}
use Rattle.service_core.proofs.journals.making.make_journal.Goals as goal

pub returns-in-Ok-clause-images : goal.returns-in-Ok-clause-images
returns-in-Ok-clause-images g c = λ honest.
    each_image c.args.catalogue c.args.lanes (records c.in-Ok.batch) c.in-Ok.ensures c.write_first.result
    (c.write_first.ensures.settled honest)

pub returns-in-Ok-clause-why : goal.returns-in-Ok-clause-why
returns-in-Ok-clause-why g c =
    refused_by c.args.catalogue (records c.in-Ok.batch) c.in-Ok.ensures g.D.Disk.honest (g.D.Disk.reads c.args.disk) (g.D.Disk.most c.args.disk) (g.D.Disk.faults c.args.disk)
    (λ r. g.D.Disk.faults r.disk) (λ r. r.why) c.write_first.result c.write_first.ensures.why
