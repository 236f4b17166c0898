use Rattle.std.proofs.Common.{◌≡◌, ◌+◌, false, sym, ◌∙◌, ap, arith, rules}
use Rattle.flush_journal.specs.Readers.{file_of}
use Rattle.flush_journal.specs.Reading.{window}
use Rattle.flush_journal.proofs.LengthLemmas.{number_ends, number_read}
use Rattle.flush_journal.proofs.payload.read_number.Goals as goal

pub returns-then-left-end-clause-number : goal.returns-then-left-end-clause-number
returns-then-left-end-clause-number g c = λ h.
    sym (number_ends (file_of c.args.reader.now) c.args.at c.args.left c.args.skip (omega (arith, c.requires, c.args.reader.now.whole h)) c.if-left-end.true)

pub returns-then-not-branch-clause-number : goal.returns-then-not-branch-clause-number
returns-then-not-branch-clause-number g c = λ h.
    let no : c.in_ok-fill.field-0 ≡ false = search rules in
    absurd (omega (arith, c.in_ok-fill.ensures.beyond h no, c.requires, c.args.reader.now.whole h, c.if-left-end.false))

pub returns-clause-number : goal.returns-clause-number
returns-clause-number g c = λ h.
    let same = (c.fill.ensures.on.bytes h).reads in
    c.number_4.ensures
    ∙ number_read (file_of c.args.reader.now) c.slice.result.now c.args.at c.args.left c.args.skip (omega (arith, c.requires, c.args.reader.now.whole h)) c.if-left-end.false
    (c.slice.ensures.bytes h ∙ ap (λ l. window l (c.args.at + c.args.skip) 4) same)
