-- One text more.
use Rattle.std.proofs.Common.{◌≡◌, ◌+◌, ◌++◌, length, drop, take, refl, sym, ap, ◌∙◌, arith}
use Rattle.std.proofs.lemmas.List.{length-append}
use Rattle.hdf_values.specs.Nested.{placed}
use Rattle.hdf_values.proofs.NestedLemmas.{first_piece}
use Rattle.hdf_values.proofs.ReadLemmas.{place_within, kept_front}
use Rattle.hdf_values.proofs.texts.read_text.Goals as goal

pub overflow_add-result : goal.overflow_add-result
overflow_add-result c =
    let some = c.requires.some in
    omega (arith, place_within c.args.place c.args.kind.now.len (length c.args.out.now.items) (omega (arith, some)) c.requires.place)

pub returns-in-Ok-clause-reads : goal.returns-in-Ok-clause-reads
returns-in-Ok-clause-reads c =
    let old = c.args.out.now.items in
    let all = c.resize.new.self.items in
    let front = c.split_at_mut-room.result.0.now in
    let bytes = c.encode_text.new.out in
    let start : c.len-from.result ≡ length c.args.out.now.items = omega arith in
    let kept : c.split_at_mut-room.result.0.now ≡ c.args.out.now.items =
    c.split_at_mut-room.ensures.front ∙ ap (take c.len-from.result) (c.as_mut_slice.ensures.value ∙ c.in_ok-resize.ensures.items) ∙ kept_front old _ c.len-from.result (c.len-from.result + c.args.kind.now.len) start (omega arith) in
    let len : length (c.split_at_mut-room.result.0.now ++ c.encode_text.new.out) ≡ c.resize.new.self.len = omega (arith, length-append front bytes, c.in-Ok.ensures.len) in
    (bytes, ap (placed c.args.place) (sym c.in-Ok.ensures.exact), first_piece c.resize.new.self.len (front ++ bytes) (drop (length (front ++ bytes)) all) len ∙ ap (λ l. l ++ bytes) kept, refl)
