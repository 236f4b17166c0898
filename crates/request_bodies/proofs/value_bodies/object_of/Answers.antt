-- Bytes that are no UTF-8 have no object.
use Rattle.std.proofs.Common.{sym, ap, ◌∙◌}
use Rattle.std.proofs.lemmas.Result.{IfOk-weaker}
use Rattle.serde_json.specs.Data.{object}
use Rattle.serde_json.specs.Read.{read}
use Rattle.json_trees.specs.Trees.{tree_in}
use Rattle.json_trees.proofs.OfKept.KeptLemmas.{no_text}
use Rattle.request_bodies.proofs.ValueBodyLemmas.{differs, tree_is}
use Rattle.request_bodies.proofs.value_bodies.object_of.Goals as goal

pub returns-in-Ok-clause-read : goal.returns-in-Ok-clause-read
returns-in-Ok-clause-read c =
    IfOk-weaker c.object_in.result _ _ (λ body h. (h.0, tree_is c.args.bytes.now c.in-Ok.ensures.cases.1 ∙ ap read (sym c.in-Ok.ensures.cases.0) ∙ h.1, h.2)) c.object_in.ensures.read

pub returns-in-Err-clause-refused : goal.returns-in-Err-clause-refused
returns-in-Err-clause-refused c refused all e = differs (object all) (tree_in c.args.bytes.now) (no_text c.args.bytes.now c.in-Err.ensures.cases.0) e
