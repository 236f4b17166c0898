use Rattle.std.proofs.Common.{◌≡◌, ◌∙◌, ℕ, min, length, take, ap, sym}
use Rattle.flush_journal.proofs.ContentLemmas.{content-outside}
use Rattle.flush_journal.proofs.ReadLemmas.{header_of}
use Rattle.flush_journal.proofs.read.read_header.Goals as goal

pub returns-in-Some-clause-why : goal.returns-in-Some-clause-why
returns-in-Some-clause-why g c = λ h.
    let file = g.D.Disk.reads c.args.reader.now.disk in
    let size : c.min-size.result ≡ min (length file) 16 = c.min-size.ensures ∙ ap (λ (n : ℕ). min n 16) (c.end.ensures ∙ c.args.reader.now.whole h) in
    let bytes = c.slice-header.ensures.bytes h ∙ ap (take c.min-size.result) (c.fill.ensures.on.bytes h).reads in
    content-outside file c.in-Some.at (sym (header_of file c.slice-header.result.now c.min-size.result size bytes) ∙ sym c.in-Some.ensures.place)

pub returns-clause-header : goal.returns-clause-header
returns-clause-header g c = λ h.
    let file = g.D.Disk.reads c.args.reader.now.disk in
    let size : c.min-size.result ≡ min (length file) 16 = c.min-size.ensures ∙ ap (λ (n : ℕ). min n 16) (c.end.ensures ∙ c.args.reader.now.whole h) in
    let bytes = c.slice-header.ensures.bytes h ∙ ap (take c.min-size.result) (c.fill.ensures.on.bytes h).reads in
    sym (header_of file c.slice-header.result.now c.min-size.result size bytes) ∙ sym c.in_default.ensures.place
