-- The cap stands above the most bytes.
use Rattle.std.proofs.Common.{◌≡◌, ℕ, ◌*◌, ◌-◌, ◌^◌, min, nat_le, ap, ◌∙◌, arith}
use Rattle.std.proofs.lemmas.Bool.Decides.{nat_tests}
use Rattle.object_acts.specs.Arrays.Faults.{most_new_bytes}
use Rattle.object_acts.specs.Arrays.Marked.{chunk_bytes}
use Rattle.object_acts.proofs.arrays.writes.are_few.Goals as goal

cap_hides_none : (n : ℕ) → nat_le (min n (2 ^ 64 - 1)) most_new_bytes ≡ nat_le n most_new_bytes
cap_hides_none n = grind (arith, nat_tests)

pub returns : goal.returns
returns c = ap (λ n. nat_le n most_new_bytes) (c.saturating_mul.ensures ∙ ap (λ n. min (c.args.many * n) (2 ^ 64 - 1)) c.chunk_size.ensures)
    ∙ cap_hides_none (chunk_bytes c.args.array.now.grid c.args.many)
