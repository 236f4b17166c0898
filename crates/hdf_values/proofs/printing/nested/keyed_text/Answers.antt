-- The tokens that were written are those of the tree, their print is its text, and that reads as the tree.
use Rattle.std.proofs.Common.{◌≡◌, ap, ◌∙◌, string_bytes}
use Rattle.serde_json.specs.Read.{read}
use Rattle.serde_json.specs.Written.{compact_text}
use Rattle.hdf_types.specs.Views.{elem}
use Rattle.hdf_values.specs.Nested.{nested_decoded}
use Rattle.hdf_values.specs.Printed.{keyed}
use Rattle.hdf_values.proofs.PrintLemmas.{printed}
use Rattle.hdf_values.proofs.ReadBackLemmas.{keyed_text_read, nested_whole}
use Rattle.hdf_values.proofs.printing.nested.keyed_text.Goals as goal

text : (c : goal.After-from_utf8_unchecked) → string_bytes c.from_utf8_unchecked.result ≡ compact_text (keyed c.args.key.now (nested_decoded (elem c.args.kind.now) c.args.extents.now c.args.bytes.now))
text c =
    printed (keyed c.args.key.now (nested_decoded (elem c.args.kind.now) c.args.extents.now c.args.bytes.now)) c.in_ok-writer.writer c.push_keyed.new.writer _ c.in_ok-writer.ensures.tokens c.in_ok-writer.ensures.before c.in_ok-push_keyed.ensures
    (ap (λ v. v.items) c.from_utf8_unchecked.ensures.value ∙ c.into_inner.ensures.items)

pub returns : goal.returns
returns c = record {
  text = text c;
  reads_back = λ shallow. ap read (text c) ∙ keyed_text_read c.args.key.now (nested_decoded (elem c.args.kind.now) c.args.extents.now c.args.bytes.now) (nested_whole (elem c.args.kind.now) c.args.extents.now c.args.bytes.now c.requires.sound.formed c.requires.encoded) shallow;
}
