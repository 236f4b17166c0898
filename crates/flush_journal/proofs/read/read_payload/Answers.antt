use Rattle.std.proofs.Common.{◌≡◌, ◌+◌, ◌≤◌, ℕ, List, length, take, drop, sym, ◌∙◌, ap, subst, arith, length-drop, false, true, rules}
use Rattle.flush_journal.specs.Reading.{PayloadIs, RecordsAre, window}
use Rattle.flush_journal.proofs.ReadLemmas.{no_length_field, number_found, number_missing, payload_short, payload_is, then_some_if}
use Rattle.flush_journal.proofs.read.read_payload.Goals as goal

pub returns-then-not-branch-clause-payload : goal.returns-then-not-branch-clause-payload
returns-then-not-branch-clause-payload g c = λ h.
    let no : c.in_ok-fill.field-0 ≡ false = search rules in
    no_length_field (drop (c.args.at + 1) (g.D.Disk.reads c.args.reader.now.disk)) (omega (arith, c.in_ok-fill.ensures.beyond h no, length-drop (c.args.at + 1) (g.D.Disk.reads c.args.reader.now.disk)))

pub returns-in_default-clause-payload : goal.returns-in_default-clause-payload
returns-in_default-clause-payload g c = λ h.
    let yes : c.in_ok-fill.field-0 ≡ true = search rules in
    let long : c.args.at + 1 + 8 ≤ length (g.D.Disk.reads c.args.reader.now.disk) = omega (arith, c.in_ok-fill.ensures.inside yes, c.fill.ensures.on.end, c.args.reader.now.whole h) in
    absurd (number_missing (g.D.Disk.reads c.args.reader.now.disk) c.slice.result.now c.args.at (c.slice.ensures.bytes h ∙ ap (λ (l : List ℕ). take 8 (drop (c.args.at + 1) l)) (c.fill.ensures.on.bytes h).reads) long c.in_default.ensures)

pub returns-then-not-reaches-clause-payload : goal.returns-then-not-reaches-clause-payload
returns-then-not-reaches-clause-payload g c = λ h.
    let file = g.D.Disk.reads c.args.reader.now.disk in
    let yes : c.in_ok-fill.field-0 ≡ true = search rules in
    let no : c.reaches.result ≡ false = search rules in
    let long : c.args.at + 1 + 8 ≤ length (g.D.Disk.reads c.args.reader.now.disk) = omega (arith, c.in_ok-fill.ensures.inside yes, c.fill.ensures.on.end, c.args.reader.now.whole h) in
    let number = number_found file c.slice.result.now c.in-Some.field-0-1.now c.args.at c.in-Some.size (c.slice.ensures.bytes h ∙ ap (λ (l : List ℕ). take 8 (drop (c.args.at + 1) l)) (c.fill.ensures.on.bytes h).reads) long c.in-Some.ensures in
    payload_short (drop (c.args.at + 1) file) c.in-Some.size number
    (omega (arith, c.reaches.ensures.beyond h no, ap length (c.fill.ensures.on.bytes h).reads, length-drop 8 (drop (c.args.at + 1) file), length-drop (c.args.at + 1) file))

pub returns-clause-payload : goal.returns-clause-payload
returns-clause-payload g c = λ h.
    let file = g.D.Disk.reads c.args.reader.now.disk in
    let yes : c.in_ok-fill.field-0 ≡ true = search rules in
    let long : c.args.at + 1 + 8 ≤ length (g.D.Disk.reads c.args.reader.now.disk) = omega (arith, c.in_ok-fill.ensures.inside yes, c.fill.ensures.on.end, c.args.reader.now.whole h) in
    let reached : c.reaches.result ≡ true = search rules in
    let whole : c.args.at + 9 + c.in-Some.size ≤ length (g.D.Disk.reads c.args.reader.now.disk) = omega (arith, c.reaches.ensures.inside reached, c.fill.ensures.on.end, c.args.reader.now.whole h) in
    let number = number_found file c.slice.result.now c.in-Some.field-0-1.now c.args.at c.in-Some.size (c.slice.ensures.bytes h ∙ ap (λ (l : List ℕ). take 8 (drop (c.args.at + 1) l)) (c.fill.ensures.on.bytes h).reads) long c.in-Some.ensures in
    subst (PayloadIs file c.args.at c.args.recovered.now c.read_records.new.recovered) (sym (c.then_some.ensures ∙ then_some_if c.in_ok-whole.whole c.in-Some.size))
    (payload_is file c.args.at c.in-Some.size c.args.recovered.now c.read_records.new.recovered c.in_ok-whole.whole number whole
    (subst (λ (l : List ℕ). RecordsAre (window l (c.args.at + 9) c.in-Some.size) c.args.recovered.now c.read_records.new.recovered c.in_ok-whole.whole) (c.fill.ensures.on.bytes h).reads (c.in_ok-whole.ensures.records h)))
