-- Bytes that are no UTF-8 have no tree.
use Rattle.std.proofs.Common.{sym, ap, ◌∙◌}
use Rattle.std.proofs.lemmas.Result.{IfOk-weaker}
use Rattle.serde_json.specs.Read.{read}
use Rattle.json_trees.proofs.OfKept.KeptLemmas.{tree_read, no_text}
use Rattle.json_trees.proofs.kept.kept_tree.KeptTree.read.Goals as goal

pub returns-in-Ok-clause-read : goal.returns-in-Ok-clause-read
returns-in-Ok-clause-read c =
    IfOk-weaker c.read_text.result _ _ (λ tree is. tree_read c.args.bytes.now _ c.in-Ok.ensures.cases.1 (ap read (sym c.in-Ok.ensures.cases.0) ∙ is)) c.read_text.ensures.read

pub returns-in-Err-clause-refused : goal.returns-in-Err-clause-refused
returns-in-Err-clause-refused c refused = no_text c.args.bytes.now c.in-Err.ensures.cases.0
