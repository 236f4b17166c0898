use Rattle.groups_links.proofs.LinkLemmas.{refused_exactly}
use Rattle.groups_links.proofs.reading.read_link.Goals as goal

pub returns-clause-refused : goal.returns-clause-refused
returns-clause-refused c = refused_exactly c.link.result _ c.link.ensures.reads
