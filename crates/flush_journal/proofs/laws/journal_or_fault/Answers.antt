use Rattle.flush_journal.proofs.EncodingLemmas.{bytes_each}
use Rattle.flush_journal.proofs.LayoutLemmas.{journal_read, journal_of, fault_read, fault_of}
use Rattle.flush_journal.proofs.laws.journal_or_fault.Goals as goal

pub returns-clause-journal : goal.returns-clause-journal
returns-clause-journal c = λ bytes content h. (journal_of bytes content (bytes_each bytes h), journal_read bytes content)

pub returns-clause-fault : goal.returns-clause-fault
returns-clause-fault c = λ bytes at h. (fault_of bytes at (bytes_each bytes h), fault_read bytes at (bytes_each bytes h))

pub returns-clause-read : goal.returns-clause-read
returns-clause-read c = journal_read
