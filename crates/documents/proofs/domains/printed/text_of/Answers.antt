use Rattle.std.proofs.Common.{ap, ◌∙◌}
use Rattle.std.proofs.lemmas.Str.{IsUtf8-string_bytes}
use Rattle.documents.specs.Domains.Documents.{document_tree}
use Rattle.documents.proofs.OfDomains.WritingLemmas.{text_printed}
use Rattle.documents.proofs.domains.printed.text_of.Goals as goal

pub returns : goal.returns
returns g c =
    text_printed (document_tree (g.S.ObjectStore.objects c.args.store.now) c.args.home.now) c.new-writer.result c.write_document.new.writer _ c.new-writer.ensures.tokens (c.new-writer.ensures.before ∙ c.new.ensures.items) c.in_ok-write_document.ensures
    (ap (λ v. v.items) c.from_utf8_unchecked.ensures.value ∙ c.into_inner.ensures.items) c.into_inner.ensures.reads_back (IsUtf8-string_bytes c.from_utf8_unchecked.result)
