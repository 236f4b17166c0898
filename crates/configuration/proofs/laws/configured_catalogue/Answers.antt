use Rattle.configuration.proofs.NodeLemmas.{configured_read, configured_roots, configured_told}
use Rattle.configuration.proofs.laws.configured_catalogue.Goals as goal

pub returns : goal.returns
returns c = record {
  nodes = λ folders domains catalogue. (configured_told folders domains catalogue, configured_read folders domains catalogue);
  roots = λ folders domains catalogue is. configured_roots folders domains catalogue (configured_told folders domains catalogue is).1;
}
