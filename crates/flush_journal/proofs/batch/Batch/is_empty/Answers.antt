use Rattle.std.proofs.Common.{◌≡◌, length, ap, sym, ◌∙◌, arith}
use Rattle.std.proofs.lemmas.Bool.Decides.{nat_tests}
use Rattle.std.proofs.lemmas.List.{nil_from_length}
use Rattle.flush_journal.specs.Frames.{framed_records}
use Rattle.flush_journal.proofs.BatchLemmas.{no_bytes, no_records}
use Rattle.flush_journal.proofs.batch.Batch.is_empty.Goals as goal

pub returns : goal.returns
returns c =
    let bytes = c.as_slice.ensures.value in (
      λ yes. let none : length c.as_slice.result.now ≡ 0 = grind (arith, nat_tests, c.is_empty.ensures, yes) in ap framed_records (sym bytes ∙ nil_from_length _ none) ∙ no_records,
      λ none. let size : length c.as_slice.result.now ≡ 0 = ap length (bytes ∙ no_bytes _ c.args.self.now.whole none) in grind (arith, nat_tests, c.is_empty.ensures, size),
    )
