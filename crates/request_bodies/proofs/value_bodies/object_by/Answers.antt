-- An object, or another text.
use Rattle.std.proofs.Common.{◌∷◌, sym, subst, ◌∙◌, arith}
use Rattle.json.specs.Reads.{token_of}
use Rattle.json.specs.Token.{begin_object}
use Rattle.serde_json.specs.Data.{object}
use Rattle.serde_json.specs.Read.{max_depth}
use Rattle.json_trees.specs.Copied.{Reads}
use Rattle.request_bodies.proofs.ValueBodyLemmas.{members_refused, more_behind, no_object, whole_read}
use Rattle.request_bodies.proofs.value_bodies.object_by.Goals as goal

pub returns-then-not-begins_object-clause-refused : goal.returns-then-not-begins_object-clause-refused
returns-then-not-begins_object-clause-refused c refused all e =
    no_object c.args.text.now all (λ r is. c.begins_object.ensures.other c.if-not-begins_object.true r (c.in_ok-reader.ensures.ok ∙ is)) e

pub returns-in_err-body-clause-refused : goal.returns-in_err-body-clause-refused
returns-in_err-body-clause-refused c refused all e =
    let begun = sym c.in_ok-reader.ensures.ok ∙ c.begins_object.ensures.object c.if-not-begins_object.false in
    members_refused c.args.text.now c.begins_object.new.reader (object all) begun (c.read_members.ensures.refused (grind arith)) e

pub returns-in-Some-clause-refused : goal.returns-in-Some-clause-refused
returns-in-Some-clause-refused c refused all e =
    let begun = sym c.in_ok-reader.ensures.ok ∙ c.begins_object.ensures.object c.if-not-begins_object.false in
    let h = c.in_ok-body.ensures.read in
    let behind = subst (λ ts. Reads max_depth (begin_object ∷ c.begins_object.new.reader) (object h.0) ts) c.in-Some.ensures.value h.1 in
    more_behind c.args.text.now c.begins_object.new.reader c.next.new.self (token_of c.in-Some.field-0) (object h.0) (object all) begun behind e

pub returns-clause-read : goal.returns-clause-read
returns-clause-read c =
    let begun = sym c.in_ok-reader.ensures.ok ∙ c.begins_object.ensures.object c.if-not-begins_object.false in
    let h = c.in_ok-body.ensures.read in
    let over = subst (λ ts. Reads max_depth (begin_object ∷ c.begins_object.new.reader) (object h.0) ts) c.in-None.ensures.value.0 h.1 in
    (h.0, whole_read c.args.text.now c.begins_object.new.reader h.0 begun over, h.2)
