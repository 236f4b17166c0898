use Rattle.groups_links.proofs.LinkLemmas.{printed_back}
use Rattle.groups_links.proofs.laws.printed_links_read_back.Goals as goal

pub returns-clause-link : goal.returns-clause-link
returns-clause-link c = printed_back
