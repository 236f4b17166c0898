use Rattle.std.proofs.Common.{◌∙◌, ℕ, Some, sym, ap}
use Rattle.flush_journal.proofs.LengthLemmas.{number_short, number_is}
use Rattle.flush_journal.proofs.records.number_4.Goals as goal

pub returns-in_default : goal.returns-in_default
returns-in_default c = sym (number_short c.args.bytes.now c.in_default.len_below)

pub returns-in-len4-up : goal.returns-in-len4-up
returns-in-len4-up c = ap (λ (n : ℕ). Some n) c.from_be_bytes.ensures ∙ sym (number_is c.args.bytes.now c.in-len4-up.len_at_least)
