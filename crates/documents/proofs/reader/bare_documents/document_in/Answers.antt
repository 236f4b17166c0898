-- An object that is the whole text.
use Rattle.std.proofs.Common.{◌∷◌, sym, subst, ◌∙◌, arith}
use Rattle.json.specs.Reads.{token_of}
use Rattle.json.specs.Token.{begin_object}
use Rattle.serde_json.specs.Data.{object}
use Rattle.serde_json.specs.Read.{max_depth}
use Rattle.json_trees.specs.Copied.{Reads}
use Rattle.documents.proofs.OfReader.WalkLemmas.{members_refused, more_behind, whole_read}
use Rattle.documents.proofs.reader.bare_documents.document_in.Goals as goal

pub returns-in_err-document-clause-refused : goal.returns-in_err-document-clause-refused
returns-in_err-document-clause-refused c refused =
    let begun = sym c.in_ok-reader.ensures.ok ∙ c.begins_object.ensures c.if-not-begins_object.false in
    members_refused c.args.text.now c.begins_object.new.reader begun (c.read_parts.ensures.refused (grind arith))

pub returns-in-Some-next-clause-refused : goal.returns-in-Some-next-clause-refused
returns-in-Some-next-clause-refused c refused =
    let begun = sym c.in_ok-reader.ensures.ok ∙ c.begins_object.ensures c.if-not-begins_object.false in
    let h = rw c.in-Some.is at c.in_ok-document.ensures.read in
    let behind = subst (λ ts. Reads max_depth (begin_object ∷ c.begins_object.new.reader) (object h.0) ts) c.in-Some-next.ensures.value h.1 in
    more_behind c.args.text.now c.begins_object.new.reader c.next.new.self (token_of c.in-Some-next.field-0) (object h.0) begun behind

pub returns-clause-read : goal.returns-clause-read
returns-clause-read c =
    let begun = sym c.in_ok-reader.ensures.ok ∙ c.begins_object.ensures c.if-not-begins_object.false in
    let h = rw c.in-Some.is at c.in_ok-document.ensures.read in
    let over = subst (λ ts. Reads max_depth (begin_object ∷ c.begins_object.new.reader) (object h.0) ts) c.in-None.ensures.value.0 h.1 in
    (object h.0, whole_read c.args.text.now c.begins_object.new.reader (object h.0) begun over, h.2)
