-- Behind a bracket come items or members, and behind any other token nothing.
use Rattle.std.proofs.Common.{◌∷◌, subst, arith}
use Rattle.std.proofs.lemmas.Result.{IfOk-weaker}
use Rattle.json.specs.Reads.{token_of}
use Rattle.json_trees.specs.Begun.{IsValue}
use Rattle.json_trees.proofs.OfKept.PassLemmas.{array_rest, object_rest, leaf_rest, no_array, no_object}
use Rattle.json_trees.proofs.kept.passing.pass_rest.Goals as goal

pub returns-in-BeginArray-clause-passed : goal.returns-in-BeginArray-clause-passed
returns-in-BeginArray-clause-passed c =
    IfOk-weaker c.pass_items.result _ _ (λ u passed rest h. passed rest (array_rest c.args.reader.now rest (subst (λ t. IsValue (token_of t ∷ c.args.reader.now) rest) c.in-BeginArray.is h))) c.pass_items.ensures.passed

pub returns-in-BeginObject-clause-passed : goal.returns-in-BeginObject-clause-passed
returns-in-BeginObject-clause-passed c =
    IfOk-weaker c.pass_members.result _ _ (λ u passed rest h. passed rest (object_rest c.args.reader.now rest (subst (λ t. IsValue (token_of t ∷ c.args.reader.now) rest) c.in-BeginObject.is h))) c.pass_members.ensures.passed

pub returns-in_default : goal.returns-in_default
returns-in_default c = record {
  passed = λ rest h. leaf_rest (token_of c.args.first) c.args.reader.now rest (no_array c.args.first c.in_default.not-BeginArray) (no_object c.args.first c.in_default.not-BeginObject) h;
  not_longer = omega arith;
}
