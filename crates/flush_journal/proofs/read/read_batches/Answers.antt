use Rattle.std.proofs.Common.{◌≡◌, ◌+◌, ◌≤◌, ℕ, List, [], ◌∷◌, ◌++◌, length, drop, sym, ◌∙◌, ap, subst, arith, length-drop, Option, Some, None, MatchOption}
use Rattle.flush_journal.specs.Records.{Record}
use Rattle.flush_journal.specs.Files.{Content, grown, fresh}
use Rattle.flush_journal.specs.Reading.{MarkerIs, PayloadIs, read_from}
use Rattle.flush_journal.specs.Readers.{file_of, end_of_file}
use Rattle.flush_journal.specs.declared.read.Marker.{Marker}
use Rattle.flush_journal.proofs.ContentLemmas.{content-header}
use Rattle.flush_journal.proofs.FileLemmas.{read_on_steps}
use Rattle.flush_journal.proofs.ReadLemmas.{read_missing, read_closed, read_bad, read_good}
use Rattle.flush_journal.proofs.Unchanged.{goes_on_here, goes_on_both}
use Rattle.flush_journal.proofs.read.read_batches.Goals as goal

pub markers-init : goal.markers-init
markers-init g c = record {
  so_far = λ h.
      let file = file_of c.args.reader.now in (
        [],
        content-header file (c.requires.header h)
            ∙ read_on_steps (length file) (length (drop 16 file)) (fresh _) (drop 16 file) (omega (arith, length-drop 16 file)) (omega arith)
            ∙ (λ i. read_from (record { version = 1; lanes = sym (c.requires.lanes h) i; batches = 0; end = 16; written = []; held = sym c.requires.empty i }) (drop 16 file)),
      );
  on = goes_on_here c.args.reader.now;
  inside = c.requires.long;
  counted = omega arith;
}

pub returns-in-Missing-clause-why : goal.returns-in-Missing-clause-why
returns-in-Missing-clause-why g c = λ h.
    let file = file_of c.args.reader.now in
    let so_far = c.markers.invariant.so_far h in
    let before : Content = record { version = 1; lanes = c.args.lanes; batches = c.markers.batches; end = c.markers.at; written = so_far.0; held = c.markers.recovered } in
    let marker = subst (λ (x : Marker). MarkerIs (file_of c.markers.reader) c.markers.at x) c.in-Missing.is (c.in_ok-read_marker.ensures.marker h) in
    so_far.1 ∙ read_missing before file c.markers.at (omega (arith, marker, ap length (c.markers.invariant.on.bytes h).reads))

pub returns-in-Closed-clause-found : goal.returns-in-Closed-clause-found
returns-in-Closed-clause-found g c = λ h.
    let file = file_of c.args.reader.now in
    let so_far = c.markers.invariant.so_far h in
    let before : Content = record { version = 1; lanes = c.args.lanes; batches = c.markers.batches; end = c.markers.at; written = so_far.0; held = c.markers.recovered } in
    let marker = subst (λ (l : List ℕ). MarkerIs l c.markers.at Marker.Closed) (c.markers.invariant.on.bytes h).reads (subst (λ (x : Marker). MarkerIs (file_of c.markers.reader) c.markers.at x) c.in-Closed.is (c.in_ok-read_marker.ensures.marker h)) in
    (so_far.0, so_far.1 ∙ read_closed before file c.markers.at marker.0 marker.1)

pub returns-in_default-clause-why : goal.returns-in_default-clause-why
returns-in_default-clause-why g c = λ h.
    let file = file_of c.args.reader.now in
    let so_far = c.markers.invariant.so_far h in
    let before : Content = record { version = 1; lanes = c.args.lanes; batches = c.markers.batches; end = c.markers.at; written = so_far.0; held = c.markers.recovered } in
    let marker = subst (λ (l : List ℕ). MarkerIs l c.markers.at Marker.Open) (c.markers.invariant.on.bytes h).reads (subst (λ (x : Marker). MarkerIs (file_of c.markers.reader) c.markers.at x) c.in-Open.is (c.in_ok-read_marker.ensures.marker h)) in
    let same = (c.read_marker.ensures.on.bytes h).reads ∙ (c.markers.invariant.on.bytes h).reads in
    let payload = subst (λ (l : List ℕ). PayloadIs l c.markers.at c.markers.recovered c.read_payload.new.recovered None) same
    (subst (λ (o : Option ℕ). PayloadIs (file_of c.read_marker.new.reader) c.markers.at c.markers.recovered c.read_payload.new.recovered o) c.in_default.is (c.in_ok-size.ensures.payload h)) in
    so_far.1 ∙ read_bad before file c.markers.at marker.0 marker.1 payload

pub markers-preserved : goal.markers-preserved
markers-preserved g c =
    let size = c.in-Some.size in
    record {
      so_far = λ h.
          let file = file_of c.args.reader.now in
          let so_far = c.markers.invariant.so_far h in
          let before : Content = record { version = 1; lanes = c.args.lanes; batches = c.markers.batches; end = c.markers.at; written = so_far.0; held = c.markers.recovered } in
          let marker = subst (λ (l : List ℕ). MarkerIs l c.markers.at Marker.Open) (c.markers.invariant.on.bytes h).reads (subst (λ (x : Marker). MarkerIs (file_of c.markers.reader) c.markers.at x) c.in-Open.is (c.in_ok-read_marker.ensures.marker h)) in
          let same = (c.read_marker.ensures.on.bytes h).reads ∙ (c.markers.invariant.on.bytes h).reads in
          let payload = subst (λ (l : List ℕ). PayloadIs l c.markers.at c.markers.recovered c.read_payload.new.recovered (Some size)) same
          (subst (λ (o : Option ℕ). PayloadIs (file_of c.read_marker.new.reader) c.markers.at c.markers.recovered c.read_payload.new.recovered o) c.in-Some.is (c.in_ok-size.ensures.payload h)) in
          let place : c.markers.at + 9 + size ≡ c.markers.at + (9 + size) = omega arith in
          let written : List (List Record) = so_far.0 ++ payload.0 ∷ [] in
          let more : read_from (grown before size payload.0) (drop (c.markers.at + 9 + size) file)
          ≡ read_from (record { version = 1; lanes = c.args.lanes; batches = c.markers.batches + 1; end = c.markers.at + (9 + size); written = written; held = c.read_payload.new.recovered }) (drop (c.markers.at + (9 + size)) file) =
          (λ i. let now : Content = record { version = 1; lanes = c.args.lanes; batches = c.markers.batches + 1; end = place i; written = written; held = sym payload.2 i } in read_from now (drop (place i) file)) in (
            written,
            so_far.1
                ∙ read_good before file c.markers.at (record { size = size; records = payload.0; rest = drop (c.markers.at + 9 + size) file }) marker.0 marker.1 payload.1
                ∙ more,
          );
      on = goes_on_both c.args.reader.now c.markers.reader c.read_payload.new.reader c.markers.invariant.on (goes_on_both c.markers.reader c.read_marker.new.reader c.read_payload.new.reader c.read_marker.ensures.on c.read_payload.ensures.on);
      inside =
          let within = subst (λ (o : Option ℕ). MatchOption o (Unit {0}) (λ n. c.markers.at + 9 + n ≤ end_of_file c.read_payload.new.reader)) c.in-Some.is c.in_ok-size.ensures.inside in
          omega (arith, within);
      counted = omega (arith, c.markers.invariant.counted);
    }
