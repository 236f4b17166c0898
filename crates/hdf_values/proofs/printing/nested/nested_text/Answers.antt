-- The tokens that were written are those of the tree, their print is its text, and that reads as the tree.
use Rattle.std.proofs.Common.{◌≡◌, ap, ◌∙◌, string_bytes}
use Rattle.serde_json.specs.Read.{read}
use Rattle.serde_json.specs.Written.{compact_text}
use Rattle.hdf_types.specs.Views.{elem}
use Rattle.hdf_values.specs.Nested.{nested_decoded}
use Rattle.hdf_values.proofs.PrintLemmas.{printed}
use Rattle.hdf_values.proofs.ReadBackLemmas.{text_read, nested_whole}
use Rattle.hdf_values.proofs.printing.nested.nested_text.Goals as goal

text : (c : goal.After-from_utf8_unchecked) → string_bytes c.from_utf8_unchecked.result ≡ compact_text (nested_decoded (elem c.args.kind.now) c.args.extents.now c.args.bytes.now)
text c =
    printed (nested_decoded (elem c.args.kind.now) c.args.extents.now c.args.bytes.now) c.in_ok-writer.writer c.push_nested.new.writer _ c.in_ok-writer.ensures.tokens c.in_ok-writer.ensures.before c.in_ok-push_nested.ensures
    (ap (λ v. v.items) c.from_utf8_unchecked.ensures.value ∙ c.into_inner.ensures.items)

pub returns : goal.returns
returns c = record {
  text = text c;
  reads_back = λ shallow. ap read (text c) ∙ text_read (nested_decoded (elem c.args.kind.now) c.args.extents.now c.args.bytes.now) (nested_whole (elem c.args.kind.now) c.args.extents.now c.args.bytes.now c.requires.sound.formed c.requires.encoded) shallow;
}
