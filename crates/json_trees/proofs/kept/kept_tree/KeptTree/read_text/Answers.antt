-- What was written reads as what was read.
use Rattle.std.proofs.Common.{arith, ◌≡◌, Some, sym, ap, subst, ◌∙◌, string_bytes}
use Rattle.json.specs.Lex.{tokens}
use Rattle.json.specs.Reads.{token_of}
use Rattle.serde_json.specs.Read.{max_depth, read}
use Rattle.json_trees.specs.Copied.{Copies}
use Rattle.json_trees.specs.Kept.{or_null}
use Rattle.json_trees.proofs.OfKept.KeptLemmas.{text_read, more_left, kept_tokens, kept_read}
use Rattle.json_trees.proofs.kept.kept_tree.KeptTree.read_text.Goals as goal

pub returns-in-Some-clause-refused : goal.returns-in-Some-clause-refused
returns-in-Some-clause-refused c refused =
    let from_text = subst (λ ts. Copies max_depth ts c.copy_value.new.reader c.new-writer.result c.copy_value.new.writer) c.in_ok-reader.ensures.ok c.in_ok-copy_value.ensures.copied in
    more_left c.args.text.now (token_of c.in-Some.field-0) c.next.new.self _ _
    (subst (λ ts. Copies max_depth (tokens c.args.text.now) ts c.new-writer.result c.copy_value.new.writer) c.in-Some.ensures.value from_text)

pub invariant_of-result : goal.invariant_of-result
invariant_of-result c = (
  c.in_ok-copy_value.ensures.copied.tree,
  kept_tokens max_depth _ _ c.new-writer.result c.copy_value.new.writer _ (omega arith) c.in_ok-copy_value.ensures.copied c.new-writer.ensures.tokens (c.new-writer.ensures.before ∙ c.in_ok-with_capacity.ensures.items)
      (ap (λ v. v.items) c.from_utf8_unchecked.ensures.value ∙ c.into_inner.ensures.items) c.into_inner.ensures.reads_back,
  c.in_ok-copy_value.ensures.copied.texts,
)

pub returns-clause-read : goal.returns-clause-read
returns-clause-read c =
    let from_text = subst (λ ts. Copies max_depth ts c.copy_value.new.reader c.new-writer.result c.copy_value.new.writer) c.in_ok-reader.ensures.ok c.in_ok-copy_value.ensures.copied in
    let whole_text = subst (λ ts. Copies max_depth (tokens c.args.text.now) ts c.new-writer.result c.copy_value.new.writer) c.in-None.ensures.value.0 from_text in
    let written : read (string_bytes c.from_utf8_unchecked.result) ≡ Some c.in_ok-copy_value.ensures.copied.tree =
    kept_read _ _
    (kept_tokens max_depth _ _ c.new-writer.result c.copy_value.new.writer _ (omega arith) c.in_ok-copy_value.ensures.copied c.new-writer.ensures.tokens (c.new-writer.ensures.before ∙ c.in_ok-with_capacity.ensures.items)
    (ap (λ v. v.items) c.from_utf8_unchecked.ensures.value ∙ c.into_inner.ensures.items) c.into_inner.ensures.reads_back) in
    text_read c.args.text.now _ _ whole_text ∙ ap (λ o. Some (or_null o)) (sym written)
