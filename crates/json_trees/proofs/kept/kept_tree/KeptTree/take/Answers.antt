-- What was passed on reads as the value that stood there.
use Rattle.std.proofs.Common.{[], ap, ◌∙◌, string_bytes}
use Rattle.json.specs.Lex.{tokens}
use Rattle.json_trees.specs.Kept.{Begins}
use Rattle.json_trees.proofs.OfKept.KeptLemmas.{kept_reads, kept_tokens}
use Rattle.json_trees.proofs.kept.kept_tree.KeptTree.take.Goals as goal

kept : (c : goal.After-from_utf8_unchecked) → Begins (tokens (string_bytes c.from_utf8_unchecked.result)) c.in_ok-copy_value.ensures.copied.tree []
kept c =
    kept_tokens c.args.depth _ _ c.new-writer.result c.copy_value.new.writer _ c.requires c.in_ok-copy_value.ensures.copied c.new-writer.ensures.tokens (c.new-writer.ensures.before ∙ c.new.ensures.items)
    (ap (λ v. v.items) c.from_utf8_unchecked.ensures.value ∙ c.into_inner.ensures.items) c.into_inner.ensures.reads_back

pub invariant_of-result : goal.invariant_of-result
invariant_of-result c = (c.in_ok-copy_value.ensures.copied.tree, kept c, c.in_ok-copy_value.ensures.copied.texts)

pub returns-clause-read : goal.returns-clause-read
returns-clause-read c = kept_reads c.args.depth _ _ _ _ c.in_ok-copy_value.ensures.copied.read (kept c)
