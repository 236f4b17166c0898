use Rattle.std.proofs.Common.{◌≡◌, ◌∙◌, length, is_ok, true, true≢false, sym, ap}
use Rattle.std.specs.Int.{from_be_bytes, w128}
use Rattle.std.proofs.lemmas.Slice.Eq.{bytes_eq-Decides}
use Rattle.object_ids.specs.Ids.{id_in}
use Rattle.object_records.specs.Keys.Keys.{id_bytes}
use Rattle.object_records.proofs.OfKeys.IdLaws.{id_again, length-id_bytes}
use Rattle.object_records.proofs.keys.ids.id_of.Goals as goal

pub returns-in_default : goal.returns-in_default
returns-in_default c = λ id h k e.
    let ok = c.try_from.ensures.0 (ap length (sym e) ∙ length-id_bytes id) in
    true≢false (sym ok ∙ ap is_ok c.in_default.is)

pub returns-else-eq : goal.returns-else-eq
returns-else-eq c = λ id h k e.
    let bits : c.from_be_bytes.result ≡ from_be_bytes w128 (id_bytes id) = c.from_be_bytes.ensures ∙ ap (from_be_bytes w128) (c.in-Ok.ensures.1.same ∙ sym e) in
    let same : c.id_in-id.result ≡ id = c.id_in-id.ensures ∙ ap (id_in c.args.kind) bits ∙ ap (λ j. id_in j (from_be_bytes w128 (id_bytes id))) (sym k) ∙ id_again id h in
    let bytes : c.as_slice.result.now ≡ c.args.bytes.now = c.as_slice.ensures ∙ c.id_bytes.ensures.bytes ∙ ap id_bytes same ∙ e in
    let equal : c.eq.result ≡ true = c.eq.ensures ∙ (bytes_eq-Decides _ _).1 bytes in
    true≢false (sym equal ∙ c.if-eq.false)
