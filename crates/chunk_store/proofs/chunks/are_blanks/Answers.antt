use Rattle.std.proofs.Common.{◌≡◌, ◌+◌, length, bytes_eq, sym, ap, ◌∙◌, inl, inr, arith}
use Rattle.std.proofs.lemmas.Bool.{cases_lt, not-false}
use Rattle.std.proofs.lemmas.Slice.Eq.{bytes_eq-Decides}
use Rattle.hdf_values.specs.Nested.{piece_at}
use Rattle.chunk_store.proofs.chunks.are_blanks.Goals as goal

pub loop-j-preserved : goal.loop-j-preserved
loop-j-preserved c = λ i low. elim (cases_lt i c.loop-j.j) [
  | inl less ↦ c.loop-j.invariant i less
  | inr past ↦
      let same : c.loop-j.j ≡ i = omega (arith, low, past) in
      ap (λ n. piece_at (length c.args.blank.now) (c.args.first + n) c.args.bytes.now) (sym same) ∙ sym c.element.ensures ∙ (bytes_eq-Decides c.element.result.now c.args.blank.now).0 (not-false (bytes_eq c.element.result.now c.args.blank.now) (sym c.ne.ensures ∙ c.if-ne.false))
]
