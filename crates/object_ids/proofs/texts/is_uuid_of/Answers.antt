use Rattle.std.proofs.Common.{List, ℕ, ap, ◌∙◌}
use Rattle.std.specs.Int.{to_be_bytes, w128}
use Rattle.std.specs.Str.{bytes_eq}
use Rattle.uuid.specs.Text.{hyphenated_text, lower}
use Rattle.object_ids.proofs.texts.is_uuid_of.Goals as goal

pub returns : goal.returns
returns c = c.eq.ensures ∙ ap (λ (text : List ℕ). bytes_eq text c.args.text.now) (
    c.as_bytes.ensures.value ∙ c.encode_lower.ensures.text
    ∙ ap (hyphenated_text lower) (c.hyphenated-uuid.ensures ∙ c.from_u128.ensures ∙ ap (to_be_bytes w128) c.bits_of.ensures))
