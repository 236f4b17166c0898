use Rattle.std.proofs.Common.{◌∙◌, ap, List, ℕ, ◌++◌, ◌≡◌}
use Rattle.std.specs.Int.{to_be_bytes, w128}
use Rattle.std.proofs.lemmas.Result.{IfOk-weaker}
use Rattle.uuid.specs.Text.{hyphenated_text, lower}
use Rattle.object_ids.specs.IdValues.{Id}
use Rattle.object_ids.specs.Ids.{bits_of, prefix_of}
use Rattle.object_ids.proofs.texts.id_text.Goals as goal

pub returns : goal.returns
returns c =
    let digits : c.encode_lower-digits.result.now ≡ hyphenated_text lower (to_be_bytes w128 (bits_of c.args.id.now)) =
    c.encode_lower-digits.ensures.text
    ∙ ap (hyphenated_text lower) (c.hyphenated-uuid.ensures ∙ c.from_u128.ensures ∙ ap (to_be_bytes w128) c.bits_of.ensures) in
    IfOk-weaker c.format.result _ _
    (λ text h. h ∙ ap (λ (p : List ℕ). p ++ c.encode_lower-digits.result.now) (c.prefix_of-prefix.ensures ∙ ap (λ (id : Id). prefix_of id.kind) c.id.view_is) ∙ ap (λ (d : List ℕ). prefix_of c.args.id.now.kind ++ d) digits)
    c.format.ensures.ok
