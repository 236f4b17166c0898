use Rattle.json_import.proofs.RoundTrips.DocumentLemmas.{document_again}
use Rattle.json_import.proofs.RoundTrips.OrderLemmas.{in_order}
use Rattle.json_import.proofs.round_trips.laws.documents_read_back.Goals as goal

pub returns-clause-same : goal.returns-clause-same
returns-clause-same c = λ tree l root m loads room alone.
    document_again c.creation_or_fault.ensures c.reads_of_cells.ensures.back c.cells_have_elements.ensures tree l root m loads room alone

pub returns-clause-order : goal.returns-clause-order
returns-clause-order c = in_order
