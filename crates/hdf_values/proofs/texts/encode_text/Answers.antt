-- The text fits, since no test failed.
use Rattle.std.proofs.Common.{◌≡◌, ℕ, List, Bor, Some, option_map, sym, ap, ◌∙◌, arith}
use Rattle.serde_json.specs.Find.{as_str}
use Rattle.serde_json.specs.View.{view}
use Rattle.hdf_values.proofs.TextLemmas.{text_short, tree_fits}
use Rattle.hdf_values.proofs.texts.encode_text.Goals as goal

pub split_at_mut-front-requires : goal.split_at_mut-front-requires
split_at_mut-front-requires c = omega (arith, text_short c.args.kind.now c.as_bytes-given.result.now (sym c.in_default.ensures))

pub returns-clause-fits : goal.returns-clause-fits
returns-clause-fits c =
    let given = c.as_bytes-given.result.now in
    let found : Some c.in_ok-ok_or.field-0.now ≡ as_str (view c.args.tree.now) = sym (ap (option_map (λ (s : Bor (List ℕ)). s.now)) c.in_ok-ok_or.ensures.ok_part) ∙ c.as_str.ensures in
    tree_fits c.args.kind.now (view c.args.tree.now) given (ap (λ s. Some s) c.as_bytes-given.ensures.value ∙ found) c.as_bytes-given.ensures.utf8 (sym c.in_default.ensures)
