-- Few dims are all kept.
use Rattle.std.proofs.Common.{sym, ◌∙◌, arith}
use Rattle.serde_json.specs.View.{view}
use Rattle.shapes.specs.Extents.{dims_in}
use Rattle.shapes.proofs.SpelledLemmas.{few_kept}
use Rattle.shapes.proofs.reading.few_dims.Goals as goal

pub returns-then-dims-le-MAX_RANK : goal.returns-then-dims-le-MAX_RANK
returns-then-dims-le-MAX_RANK c =
    few_kept (dims_in (view c.args.tree.now)) c.in_ok-dims.dims (sym c.spelled_dims.ensures ∙ c.in_ok-dims.was) (omega arith) (omega arith)
