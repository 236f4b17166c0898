use Rattle.configuration.proofs.NodeLemmas.{first_roots}
use Rattle.configuration.proofs.Serials.{first_serials}
use Rattle.configuration.proofs.reading.read_catalogue_in.Goals as goal

pub returns-clause-roots : goal.returns-clause-roots
returns-clause-roots c = first_roots _ _ _ c.make_catalogue.ensures.ok

pub returns-clause-serials : goal.returns-clause-serials
returns-clause-serials c = first_serials _ _ _ c.make_catalogue.ensures.ok
