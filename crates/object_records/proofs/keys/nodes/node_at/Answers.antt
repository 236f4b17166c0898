use Rattle.std.proofs.Common.{◌≡◌, ◌∙◌, Some, drop, option_copied, true, true≢false, sym, ap}
use Rattle.std.proofs.lemmas.Slice.Eq.{bytes_eq-Decides}
use Rattle.object_ids.specs.Paths.{path_of}
use Rattle.object_records.proofs.OfKeys.NumberLaws.{rest_whole}
use Rattle.object_records.proofs.keys.nodes.node_at.Goals as goal

pub returns-else-eq : goal.returns-else-eq
returns-else-eq c = λ path h e.
    let text : c.in-Ok.text.now ≡ path = c.in-Ok.ensures.cases.0 ∙ rest_whole 1 c.args.key.now ∙ sym (ap (drop 1) e) in
    let found : Some c.in_ok-path.path.now ≡ Some path = sym (ap option_copied c.in_ok-path.was) ∙ c.path_text.ensures ∙ ap path_of text ∙ h.canonical in
    let same : c.in_ok-path.path.now ≡ c.in-Ok.text.now = cc in
    let equal : c.eq.result ≡ true = c.eq.ensures ∙ (bytes_eq-Decides _ _).1 same in
    true≢false (sym equal ∙ c.if-eq.false)
