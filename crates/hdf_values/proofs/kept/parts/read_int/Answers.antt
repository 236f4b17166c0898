-- A number, or another token.
use Rattle.std.proofs.Common.{◌∷◌, sym, subst}
use Rattle.std.proofs.lemmas.Result.{IfOk-weaker}
use Rattle.json.specs.Reads.{token_of}
use Rattle.hdf_types.specs.Elems.{int as int_type}
use Rattle.hdf_values.specs.Elements.{encoded}
use Rattle.hdf_values.specs.Streamed.{Told}
use Rattle.json_trees.specs.Kept.{Begins}
use Rattle.json_trees.proofs.OfKept.PassLemmas.{is_value}
use Rattle.json_trees.proofs.OfKept.StreamLemmas.{a_number, other_token}
use Rattle.hdf_values.proofs.OfKept.PartLemmas.{no_int}
use Rattle.hdf_values.proofs.kept.parts.read_int.Goals as goal

pub returns-in-Number-clause-told : goal.returns-in-Number-clause-told
returns-in-Number-clause-told c =
    IfOk-weaker c.read_number.result _ _ (λ misfit told tree rest h.
    let found = a_number c.in-Number.text.now c.args.reader.now rest tree (subst (λ t. Begins (token_of t ∷ c.args.reader.now) tree rest) c.in-Number.is h) in (
      found.0,
      subst (λ d. Told misfit c.args.out.now.items c.read_number.new.out.items (encoded (int_type c.args.int.now) d)) (sym found.1.2) (told found.1.0 found.1.1),
    )) c.read_number.ensures

pub returns-in_ok-pass_rest-in_default : goal.returns-in_ok-pass_rest-in_default
returns-in_ok-pass_rest-in_default c = record {
  told = λ tree rest h. (
    c.in_ok-pass_rest-in_default.ensures.passed rest (is_value _ rest tree h),
    no_int c.args.int.now (token_of c.args.first) c.args.reader.now rest tree (other_token c.args.first c.in_default.not-Number) h,
  );
  not_longer = c.in_ok-pass_rest-in_default.ensures.not_longer;
}
