use Rattle.std.proofs.Common.{◌≡◌, true, false, sym, ◌∙◌}
use Rattle.service_core.proofs.OfStrays.StrayLemmas.{stray_no_number, told_none, told_stray}
use Rattle.service_core.proofs.strays.is_stray.Goals as goal

pub returns-then-is_node_key : goal.returns-then-is_node_key
returns-then-is_node_key c = told_none c.args.key.now (λ stray. let e : true ≡ false = sym (sym c.is_node_key.ensures ∙ c.if-is_node_key.true) ∙ stray.no_node in absurd (cc))

pub returns-then-is_number_key : goal.returns-then-is_number_key
returns-then-is_number_key c = told_none c.args.key.now (λ stray. stray_no_number c.args.key.now stray (c.is_number_key.ensures.0 c.if-is_number_key.true))

pub returns : goal.returns
returns c =
    told_stray c.args.key.now c.is_object_key.result (sym c.is_node_key.ensures ∙ c.if-is_node_key.false)
    (λ number. let e : true ≡ false = sym (c.is_number_key.ensures.1 number) ∙ c.if-is_number_key.false in absurd (cc)) c.is_object_key.ensures
