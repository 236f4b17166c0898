use Rattle.std.proofs.Common.{◌∙◌, length, take, drop, length-drop, sym, ap, arith}
use Rattle.object_records.proofs.OfKeys.IdLaws.{chunk_parts}
use Rattle.object_records.proofs.OfKeys.NumberLaws.{rest_whole}
use Rattle.object_records.proofs.keys.chunks.chunk_at.Goals as goal

pub returns-then-rest-lt16 : goal.returns-then-rest-lt16
returns-then-rest-lt16 c = λ dataset index h e.
    let long = (chunk_parts dataset index c.args.key.now e).2 in
    omega (arith, ap length (rest_whole 1 c.args.key.now), length-drop 1 c.args.key.now)

pub returns-in_default-id_of : goal.returns-in_default-id_of
returns-in_default-id_of c = λ dataset index h e.
    let parts = chunk_parts dataset index c.args.key.now e in
    c.in_default-id_of.ensures dataset h.id h.kind (sym (c.split_at.ensures.front ∙ ap (take 16) (rest_whole 1 c.args.key.now) ∙ parts.0))

pub returns-in_default-numbers_in : goal.returns-in_default-numbers_in
returns-in_default-numbers_in c = λ dataset index h e.
    let parts = chunk_parts dataset index c.args.key.now e in
    c.in_default-numbers_in.ensures index h.numbers (sym (c.split_at.ensures.back ∙ ap (drop 16) (rest_whole 1 c.args.key.now) ∙ parts.1))
