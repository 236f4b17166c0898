use Rattle.std.proofs.Common.{◌≡◌, is_ok, true≢false, ap, sym, ◌∙◌}
use Rattle.std.specs.Int.{from_be_bytes, to_be_bytes, w128}
use Rattle.std.proofs.lemmas.Slice.Eq.{bytes_eq-Decides}
use Rattle.std.proofs.lemmas.Option.{same_Some}
use Rattle.uuid.specs.Text.{parsed}
use Rattle.object_ids.specs.Ids.{bits_of, id_in, uuid_of}
use Rattle.object_ids.proofs.IdBits.{parses_uuid, uuid_of-read}
use Rattle.object_ids.proofs.texts.read_uuid.Goals as goal

pub returns-in_default-clause-none : goal.returns-in_default-clause-none
returns-in_default-clause-none c = λ id h e.
    let ok = c.try_parse_ascii.ensures.ok.1 (to_be_bytes w128 (bits_of id), ap parsed (sym e) ∙ sym (parses_uuid id)) in
    absurd (true≢false (sym ok ∙ ap is_ok c.in_default.is))

pub returns-then-is_uuid_of-clause-some : goal.returns-then-is_uuid_of-clause-some
returns-then-is_uuid_of-clause-some c = (bytes_eq-Decides (uuid_of c.id_in-id.result) c.args.text.now).0 (sym c.is_uuid_of.ensures ∙ c.if-is_uuid_of.true)

pub returns-else-is_uuid_of-clause-none : goal.returns-else-is_uuid_of-clause-none
returns-else-is_uuid_of-clause-none c = λ id h e.
    let bytes : c.in-Ok.uuid ≡ to_be_bytes w128 (bits_of id) = same_Some _ _ (c.in-Ok.ensures.bytes ∙ ap parsed (sym e) ∙ sym (parses_uuid id)) in
    let read : uuid_of c.id_in-id.result ≡ c.args.text.now =
    ap uuid_of (c.id_in-id.ensures ∙ ap (id_in c.args.kind) (c.as_u128.ensures ∙ ap (from_be_bytes w128) bytes)) ∙ uuid_of-read c.args.kind id h ∙ e in
    absurd (true≢false (sym ((bytes_eq-Decides (uuid_of c.id_in-id.result) c.args.text.now).1 read) ∙ sym c.is_uuid_of.ensures ∙ c.if-is_uuid_of.false))
