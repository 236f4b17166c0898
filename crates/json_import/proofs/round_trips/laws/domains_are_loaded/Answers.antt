use Rattle.documents.specs.Domains.Documents.{document_tree}
use Rattle.json_import.specs.RoundTrips.Loaded.{loaded_from}
use Rattle.std.proofs.Common.{arith}
use Rattle.json_import.proofs.RoundTrips.DepthLemmas.{document_deep}
use Rattle.json_import.proofs.RoundTrips.DocumentLemmas.{document_again}
use Rattle.json_import.proofs.RoundTrips.LoadedLemmas.{domain_loaded}
use Rattle.json_import.proofs.round_trips.laws.domains_are_loaded.Goals as goal

pub returns-clause-loaded : goal.returns-clause-loaded
returns-clause-loaded c = domain_loaded c.creation_or_fault.ensures c.reads_of_cells.ensures.back c.cells_have_elements.ensures c.reads_of_cells.ensures.each

pub returns-clause-again : goal.returns-clause-again
returns-clause-again c = λ old h root m sound room alone.
    let first = domain_loaded c.creation_or_fault.ensures c.reads_of_cells.ensures.back c.cells_have_elements.ensures c.reads_of_cells.ensures.each old h sound in
    document_again c.creation_or_fault.ensures c.reads_of_cells.ensures.back c.cells_have_elements.ensures (document_tree old h) (loaded_from old h) root m first room alone

pub returns-clause-shallow : goal.returns-clause-shallow
returns-clause-shallow c = document_deep

pub returns-clause-texts : goal.returns-clause-texts
returns-clause-texts c = λ m h text sound short utf8 reads. record {
  short = omega (arith, short);
  utf8 = utf8;
  tree = document_tree m h;
  reads = reads (document_deep m h sound);
  loads = returns-clause-loaded c m h sound;
}
