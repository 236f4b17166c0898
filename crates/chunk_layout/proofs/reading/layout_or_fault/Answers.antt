-- The relation and the tests in order say the same.
use Rattle.std.proofs.Common.{Some, None}
use Rattle.chunk_layout.specs.Defaults.{at_least_one}
use Rattle.chunk_layout.proofs.DefaultLemmas.{one_end, fits_chunk}
use Rattle.chunk_layout.proofs.LayoutLemmas.{asked_told, asked_read, not_both}
use Rattle.chunk_layout.proofs.reading.layout_or_fault.Goals as goal

pub returns-clause-chunk : goal.returns-clause-chunk
returns-clause-chunk c = λ d dims chunk size. (λ h. asked_read d dims size (Some chunk) h.0 (h.1, h.2), λ e. ((asked_told d dims size (Some chunk) e).0, (asked_told d dims size (Some chunk) e).1.0, (asked_told d dims size (Some chunk) e).1.1))

pub returns-clause-open : goal.returns-clause-open
returns-clause-open c = λ d dims size. (λ h. asked_read d dims size None h.0 h.1, λ e. asked_told d dims size None e)

pub returns-clause-one : goal.returns-clause-one
returns-clause-one c = λ dims xs ys size h k. one_end size (at_least_one dims) xs ys h k

pub returns-clause-fault : goal.returns-clause-fault
returns-clause-fault c = λ d dims chunk size f e h. not_both d dims chunk size f e h

pub returns-clause-fits : goal.returns-clause-fits
returns-clause-fits c = λ s size chunk sound some fits. fits_chunk size s chunk sound fits some
