-- Null, or another tree.
use Rattle.std.proofs.Common.{ap, inr, sym, ◌∙◌, Ok}
use Rattle.documents.proofs.OfParts.NullLemmas.{null_missing, null_there}
use Rattle.documents.proofs.parts.kept_values.null_bytes.Goals as goal

pub returns-then-begins_null-clause-gives : goal.returns-then-begins_null-clause-gives
returns-then-begins_null-clause-gives c =
    null_there _ c.begins_null.new.reader c.args.value.now c.in_ok-reader.ensures (c.begins_null.ensures.null c.if-begins_null.true) ∙ ap Ok (sym c.new.ensures.items)

pub returns-clause-gives : goal.returns-clause-gives
returns-clause-gives c =
    inr (null_missing _ c.args.value.now c.in_ok-reader.ensures (c.begins_null.ensures.other c.if-begins_null.false))
