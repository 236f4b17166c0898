-- A new journal's file.
use Rattle.std.proofs.Common.{◌≡◌, ℕ, ◌≤◌, List, ◌++◌, length, Some, None, Ok, ◌∙◌, arith}
use Rattle.std.specs.Prelude.{nat_le, ◌&&◌}
use Rattle.std.proofs.lemmas.Bool.{cond-true}
use Rattle.flush_journal.specs.Files.{first_outside, header_ranges, content, fresh}
use Rattle.flush_journal.specs.Refusals.{new_file}
use Rattle.flush_journal.proofs.ContentLemmas.{content-header}
use Rattle.flush_journal.proofs.FileLemmas.{read_on_shut}
use Rattle.flush_journal.proofs.ReadLemmas.{test_holds}

new_header : (lanes : ℕ) (tail : List ℕ) → 1 ≤ lanes → lanes ≤ 16 → first_outside 0 header_ranges (new_file lanes ++ tail) ≡ None
unfolding first_outside
new_header lanes tail some few = cond-true (nat_le 1 lanes && nat_le lanes 16) None (Some 11) (test_holds 1 lanes 16 some few)

pub new_content : (lanes : ℕ) (tail : List ℕ) → 1 ≤ lanes → lanes ≤ 16 → content (new_file lanes ++ tail) ≡ Ok (fresh lanes)
new_content lanes tail some few =
    content-header (new_file lanes ++ tail) (new_header lanes tail some few)
    ∙ read_on_shut (length (new_file lanes ++ tail)) (fresh lanes) 0 tail (omega arith)
