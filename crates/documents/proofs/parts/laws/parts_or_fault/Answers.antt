-- The relations and the tests in order say the same.
use Rattle.documents.proofs.OfParts.SpelledLemmas.{array_complete, array_sound, attributes_complete, attributes_sound, kind_complete, kind_sound, links_complete, links_sound}
use Rattle.documents.proofs.parts.laws.parts_or_fault.Goals as goal

pub returns-clause-attributes : goal.returns-clause-attributes
returns-clause-attributes c = λ path o m. (attributes_sound path o m, attributes_complete path o m)

pub returns-clause-links : goal.returns-clause-links
returns-clause-links c = λ document path o m. (links_sound document path o m, links_complete document path o m)

pub returns-clause-kinds : goal.returns-clause-kinds
returns-clause-kinds c = λ path o e. (kind_sound path o e, kind_complete path o e)

pub returns-clause-arrays : goal.returns-clause-arrays
returns-clause-arrays c = λ path d g. (array_sound path d g, array_complete path d g)
