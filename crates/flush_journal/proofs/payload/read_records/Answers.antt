use Rattle.std.proofs.Common.{◌≡◌, ◌≢◌, ◌≤◌, ◌<◌, ℕ, List, Option, Some, None, IfSome, length, refl, sym, ap, subst, arith}
use Rattle.flush_journal.specs.Readers.{file_of}
use Rattle.flush_journal.specs.Reading.{RecordIs, window}
use Rattle.flush_journal.proofs.LengthLemmas.{window_long}
use Rattle.flush_journal.proofs.PayloadLemmas.{all_read, not_read, record_read}
use Rattle.flush_journal.proofs.Unchanged.{goes_on_here, goes_on_both}
use Rattle.flush_journal.proofs.payload.read_records.Goals as goal

pub records-init : goal.records-init
records-init g c = record {
  so_far = λ h. refl;
  on = goes_on_here c.args.reader.now;
  inside = c.requires;
}

pub returns-in_default-clause-records : goal.returns-in_default-clause-records
returns-in_default-clause-records g c = λ h.
    let file = file_of c.args.reader.now in
    let long = window_long file c.records.at c.records.left (omega (arith, c.records.invariant.inside, c.records.invariant.on.end, c.args.reader.now.whole h)) in
    let some : length (window file c.records.at c.records.left) ≢ 0 = λ none. omega (arith, long, none, c.records-test.true) in
    let is = subst (λ (l : List ℕ). RecordIs l c.records.at c.records.left c.records.recovered c.read_record.new.recovered None) (c.records.invariant.on.bytes h).reads
    (subst (λ (o : Option ℕ). RecordIs (file_of c.records.reader) c.records.at c.records.left c.records.recovered c.read_record.new.recovered o) c.in_default.is (c.in_ok-size.ensures.record h)) in
    not_read (window file c.args.from c.args.size) (window file c.records.at c.records.left) c.args.recovered.now c.records.recovered c.read_record.new.recovered (c.records.invariant.so_far h) some is

pub records-smaller : goal.records-smaller
records-smaller g c =
    let some = subst (λ (o : Option ℕ). IfSome o (λ size. 0 < size)) c.in-Some.is c.in_ok-size.ensures.some in
    let fits = subst (λ (o : Option ℕ). IfSome o (λ size. size ≤ c.records.left)) c.in-Some.is c.in_ok-size.ensures.fits in
    omega (arith, some, fits)

pub records-preserved : goal.records-preserved
records-preserved g c =
    let size = c.in-Some.size in
    let fits = subst (λ (o : Option ℕ). IfSome o (λ n. n ≤ c.records.left)) c.in-Some.is c.in_ok-size.ensures.fits in
    record {
      so_far = λ h.
          let file = file_of c.args.reader.now in
          let is = subst (λ (l : List ℕ). RecordIs l c.records.at c.records.left c.records.recovered c.read_record.new.recovered (Some size)) (c.records.invariant.on.bytes h).reads
          (subst (λ (o : Option ℕ). RecordIs (file_of c.records.reader) c.records.at c.records.left c.records.recovered c.read_record.new.recovered o) c.in-Some.is (c.in_ok-size.ensures.record h)) in
          record_read (window file c.args.from c.args.size) (window file c.records.at c.records.left) _ is.0 c.args.recovered.now c.records.recovered c.read_record.new.recovered (c.records.invariant.so_far h) (sym is.1) is.2;
      on = goes_on_both c.args.reader.now c.records.reader c.read_record.new.reader c.records.invariant.on c.read_record.ensures.on;
      inside = omega (arith, fits, c.records.invariant.inside, c.read_record.ensures.on.end);
    }

pub returns-clause-records : goal.returns-clause-records
returns-clause-records g c = λ h.
    let file = file_of c.args.reader.now in
    let none : c.records.left ≡ 0 = omega (arith, c.records-test.false) in
    let empty : length (window file c.records.at c.records.left) ≡ 0 = ap (λ (n : ℕ). length (window file c.records.at n)) none in
    all_read (window file c.args.from c.args.size) (window file c.records.at c.records.left) c.args.recovered.now c.records.recovered (c.records.invariant.so_far h) empty
