-- A text, or another token.
use Rattle.std.proofs.Common.{◌∷◌, sym, subst}
use Rattle.std.proofs.lemmas.Result.{IfOk-weaker}
use Rattle.json.specs.Reads.{token_of}
use Rattle.hdf_types.specs.Elems.{text as text_type}
use Rattle.hdf_values.specs.Elements.{encoded}
use Rattle.hdf_values.specs.Streamed.{Told}
use Rattle.json_trees.specs.Kept.{Begins}
use Rattle.json_trees.proofs.OfKept.PassLemmas.{is_value}
use Rattle.json_trees.proofs.OfKept.StreamLemmas.{a_string, other_word}
use Rattle.hdf_values.proofs.OfKept.PartLemmas.{no_chars}
use Rattle.hdf_values.proofs.kept.parts.read_text.Goals as goal

pub returns-in-String-clause-told : goal.returns-in-String-clause-told
returns-in-String-clause-told c =
    IfOk-weaker c.push_text.result _ _ (λ misfit told tree rest h.
    let found = a_string c.in-String.text.now c.args.reader.now rest tree (subst (λ t. Begins (token_of t ∷ c.args.reader.now) tree rest) c.in-String.is h) in (
      found.0,
      subst (λ d. Told misfit c.args.out.now.items c.push_text.new.out.items (encoded (text_type c.args.kind.now) d)) (sym found.1) told,
    )) c.push_text.ensures

pub returns-in_ok-pass_rest-in_default : goal.returns-in_ok-pass_rest-in_default
returns-in_ok-pass_rest-in_default c = record {
  told = λ tree rest h. (
    c.in_ok-pass_rest-in_default.ensures.passed rest (is_value _ rest tree h),
    no_chars c.args.kind.now (token_of c.args.first) c.args.reader.now rest tree (other_word c.args.first c.in_default.not-String) h,
  );
  not_longer = c.in_ok-pass_rest-in_default.ensures.not_longer;
}
