use Rattle.std.proofs.Common.{◌≡◌, ◌+◌, ◌≤◌, ◌<◌, ℕ, List, Option, IfSome, false, length, refl, ◌∙◌, ap, subst, arith, rules}
use Rattle.flush_journal.specs.Readers.{file_of}
use Rattle.flush_journal.specs.Reading.{LengthsAre, window}
use Rattle.flush_journal.proofs.LengthLemmas.{record_is}
use Rattle.flush_journal.proofs.payload.read_record.Goals as goal

pub returns-in_default-clause-record : goal.returns-in_default-clause-record
returns-in_default-clause-record g c = λ h.
    subst (LengthsAre (window (file_of c.args.reader.now) c.args.at c.args.left)) c.in_default.is (c.in_ok-lengths.ensures.lengths h)

pub returns-then-not-branch-clause-record : goal.returns-then-not-branch-clause-record
returns-then-not-branch-clause-record g c = λ h.
    let no : c.in_ok-fill.field-0 ≡ false = search rules in
    let fits = subst (λ (o : Option (ℕ × ℕ)). IfSome o (λ n. 8 + n.0 + n.1 ≤ c.args.left)) c.in-Some.is c.in_ok-lengths.ensures.fits in
    absurd (omega (arith, fits, c.in_ok-fill.ensures.beyond h no, c.requires, c.args.reader.now.whole h, ap length (c.read_lengths.ensures.on.bytes h).reads))

pub put_record-requires : goal.put_record-requires
put_record-requires g c =
    let some = subst (λ (o : Option (ℕ × ℕ)). IfSome o (λ n. 0 < n.0)) c.in-Some.is c.in_ok-lengths.ensures.some in
    let short = subst (λ (o : Option (ℕ × ℕ)). IfSome o (λ n. n.0 < 65536)) c.in-Some.is c.in_ok-lengths.ensures.short in
    record {
      some = omega (arith, some, c.slice.ensures.length);
      key = omega (arith, short, c.slice.ensures.length);
      body = omega (arith, c.slice-2.ensures.length);
    }

pub returns-clause-record : goal.returns-clause-record
returns-clause-record g c = λ h.
    let file = file_of c.args.reader.now in
    let n = c.in-Some.lengths in
    let same = (c.fill.ensures.on.bytes h).reads ∙ (c.read_lengths.ensures.on.bytes h).reads in
    let fits = subst (λ (o : Option (ℕ × ℕ)). IfSome o (λ n. 8 + n.0 + n.1 ≤ c.args.left)) c.in-Some.is c.in_ok-lengths.ensures.fits in
    record_is file c.slice.result.now c.slice-2.result.now c.args.at c.args.left n.0 n.1 (8 + n.0) (8 + n.0 + n.1) c.args.recovered.now c.put_record.new.self refl refl fits
    (subst (LengthsAre (window file c.args.at c.args.left)) c.in-Some.is (c.in_ok-lengths.ensures.lengths h))
    (c.slice.ensures.bytes h ∙ ap (λ (l : List ℕ). window l (c.args.at + 4) n.0) same)
    (c.slice-2.ensures.bytes h ∙ ap (λ (l : List ℕ). window l (c.args.at + (8 + n.0)) n.1) same)
    c.in_ok-put_record.ensures

pub returns-clause-fits : goal.returns-clause-fits
returns-clause-fits g c = subst (λ (o : Option (ℕ × ℕ)). IfSome o (λ n. 8 + n.0 + n.1 ≤ c.args.left)) c.in-Some.is c.in_ok-lengths.ensures.fits
