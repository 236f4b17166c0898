use Rattle.std.proofs.Common.{◌+◌, ◌≤◌, ◌<◌, ℕ, inl, inr, ⊎_elim, List, drop, sym, ◌∙◌, ap, arith}
use Rattle.flush_journal.specs.Readers.{file_of}
use Rattle.flush_journal.specs.Reading.{window}
use Rattle.flush_journal.proofs.LengthLemmas.{bad_key_length, body_short, no_body_length, no_key_length, number_of, whole_record, window_long}
use Rattle.flush_journal.proofs.payload.read_lengths.Goals as goal

pub returns-in_default-clause-lengths : goal.returns-in_default-clause-lengths
returns-in_default-clause-lengths g c = λ h.
    no_key_length (window (file_of c.args.reader.now) c.args.at c.args.left) (sym c.in_default.is ∙ c.in_ok-key.ensures.number h)

pub returns-then-key-lt1-clause-lengths : goal.returns-then-key-lt1-clause-lengths
returns-then-key-lt1-clause-lengths g c = λ h.
    bad_key_length (window (file_of c.args.reader.now) c.args.at c.args.left) c.in-Some.key (sym c.in-Some.is ∙ c.in_ok-key.ensures.number h)
    (⊎_elim (λ (none : c.in-Some.key < 1). inl none) (λ (long : (1 ≤ c.in-Some.key) × (65535 < c.in-Some.key)). inr long.1) c.then-key-lt1.either)

pub returns-in_default-2-clause-lengths : goal.returns-in_default-2-clause-lengths
returns-in_default-2-clause-lengths g c = λ h.
    let same = (c.read_number.ensures.on.bytes h).reads in
    no_body_length (window (file_of c.args.reader.now) c.args.at c.args.left) c.in-Some.key (sym c.in-Some.is ∙ c.in_ok-key.ensures.number h) (omega (arith, c.if-key-lt1.false)) (omega (arith, c.if-key-gt-MAX_KEY.false))
    (sym c.in_default-2.is ∙ c.in_ok-body.ensures.number h ∙ ap (λ (l : List ℕ). number_of (drop (4 + c.in-Some.key) (window l c.args.at c.args.left))) same)

pub returns-then-left-size-clause-lengths : goal.returns-then-left-size-clause-lengths
returns-then-left-size-clause-lengths g c = λ h.
    let same = (c.read_number.ensures.on.bytes h).reads in
    let file = file_of c.args.reader.now in
    let p = window file c.args.at c.args.left in
    body_short p c.in-Some.key (sym c.in-Some.is ∙ c.in_ok-key.ensures.number h) (omega (arith, c.if-key-lt1.false)) (omega (arith, c.if-key-gt-MAX_KEY.false))
    c.in-Some-2.body (sym c.in-Some-2.is ∙ c.in_ok-body.ensures.number h ∙ ap (λ (l : List ℕ). number_of (drop (4 + c.in-Some.key) (window l c.args.at c.args.left))) same)
    (omega (arith, c.if-left-size.true, window_long file c.args.at c.args.left (omega (arith, c.requires, c.args.reader.now.whole h))))

pub returns-clause-lengths : goal.returns-clause-lengths
returns-clause-lengths g c = λ h.
    let same = (c.read_number.ensures.on.bytes h).reads in
    let file = file_of c.args.reader.now in
    let p = window file c.args.at c.args.left in
    whole_record p c.in-Some.key (sym c.in-Some.is ∙ c.in_ok-key.ensures.number h) (omega (arith, c.if-key-lt1.false)) (omega (arith, c.if-key-gt-MAX_KEY.false))
    c.in-Some-2.body (sym c.in-Some-2.is ∙ c.in_ok-body.ensures.number h ∙ ap (λ (l : List ℕ). number_of (drop (4 + c.in-Some.key) (window l c.args.at c.args.left))) same)
    (omega (arith, c.if-left-size.false, window_long file c.args.at c.args.left (omega (arith, c.requires, c.args.reader.now.whole h))))
