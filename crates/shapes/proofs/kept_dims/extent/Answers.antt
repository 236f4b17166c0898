-- A number, or another token.
use Rattle.std.proofs.Common.{◌∷◌, sym, ap, subst, ◌∙◌, option_and_then}
use Rattle.json.specs.Reads.{token_of}
use Rattle.serde_json.specs.Find.{as_u64}
use Rattle.json_trees.specs.Kept.{Begins}
use Rattle.json_trees.proofs.OfKept.PassLemmas.{is_value}
use Rattle.shapes.specs.Extents.{extent_in, small}
use Rattle.json_trees.proofs.OfKept.StreamLemmas.{a_number, no_number, other_token}
use Rattle.shapes.proofs.kept_dims.extent.Goals as goal

pub returns-in-Number-clause-told : goal.returns-in-Number-clause-told
returns-in-Number-clause-told c tree rest h =
    let found = a_number c.in-Number.text.now c.args.reader.now rest tree (subst (λ t. Begins (token_of t ∷ c.args.reader.now) tree rest) c.in-Number.is h) in
    (found.0, c.extent_of.ensures ∙ ap (λ n. option_and_then small (option_and_then as_u64 n)) found.1.1 ∙ sym (ap extent_in found.1.2))

pub returns-in_ok-pass_rest-in_default : goal.returns-in_ok-pass_rest-in_default
returns-in_ok-pass_rest-in_default c = record {
  told = λ tree rest h. (
    c.in_ok-pass_rest-in_default.ensures.passed rest (is_value _ rest tree h),
    sym (ap (λ n. option_and_then small (option_and_then as_u64 n)) (no_number (token_of c.args.first) c.args.reader.now rest tree (other_token c.args.first c.in_default.not-Number) h)),
  );
  not_longer = c.in_ok-pass_rest-in_default.ensures.not_longer;
}
