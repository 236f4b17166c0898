-- Each is read in one way.
use Rattle.hyperslab.proofs.TextLemmas.{one_reading, one_bad, text_spelled, text_bad}
use Rattle.hyperslab.proofs.reading.reading_or_fault.Goals as goal

pub returns-clause-spelled : goal.returns-clause-spelled
returns-clause-spelled c = text_spelled

pub returns-clause-bad : goal.returns-clause-bad
returns-clause-bad c = text_bad

pub returns-clause-one_reading : goal.returns-clause-one_reading
returns-clause-one_reading c = one_reading

pub returns-clause-one_byte : goal.returns-clause-one_byte
returns-clause-one_byte c = one_bad

pub returns-clause-never_both : goal.returns-clause-never_both
returns-clause-never_both c = λ text ps b h bad. bad.none ps h
