use Rattle.std.proofs.Common.{◌≢◌, ◌<◌, length, true≢false, sym, ◌∙◌, arith}
use Rattle.std.proofs.lemmas.Bool.{eq-eqb, eqb-true}
use Rattle.shapes.specs.declared.TheConstants.{MAX_RANK}
use Rattle.object_records.proofs.OfKeys.NumberLaws.{read_more, read_end, read_short, read_full}
use Rattle.object_records.proofs.keys.chunks.numbers_in.Goals as goal

pub returns-then-is_full : goal.returns-then-is_full
returns-then-is_full c = read_full _ _ _ c.loop-left.invariant c.in-len4-up.len_at_least (c.is_full.ensures.0 c.if-is_full.true)

pub loop-left-preserved : goal.loop-left-preserved
loop-left-preserved c =
    let open_ended : length c.loop-left.numbers ≢ MAX_RANK = λ e. true≢false (sym (c.is_full.ensures.1 e) ∙ c.if-is_full.false) in
    let few = c.loop-left.invariant.few in
    let room : length c.loop-left.numbers < MAX_RANK = omega arith in
    read_more _ _ _ _ _ c.loop-left.invariant c.in-len4-up.len_at_least room (c.from.ensures ∙ c.from_be_bytes.ensures) c.push.ensures

pub returns-then-is_empty : goal.returns-then-is_empty
returns-then-is_empty c = read_end c.args.bytes.now _ _ c.loop-left.invariant (eqb-true _ _ (sym c.is_empty.ensures ∙ c.if-is_empty.true)) (λ i. omega (arith, c.type_inv.bytes i))

pub returns-else-is_empty : goal.returns-else-is_empty
returns-else-is_empty c =
    read_short _ _ _ c.loop-left.invariant c.in_default.len_below (λ e. true≢false (sym (eq-eqb _ _ e) ∙ sym c.is_empty.ensures ∙ c.if-is_empty.false))
