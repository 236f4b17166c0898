use Rattle.std.proofs.Common.{◌≡◌, length, arith, ap, ◌∙◌}
use Rattle.std.proofs.lemmas.List.{length-replicate}
use Rattle.register.proofs.register.Register.begin.Goals as goal

pub invariant_of-result : goal.invariant_of-result
invariant_of-result c =
    let lanes : length c.repeated.result ≡ c.args.lanes = ap length c.repeated.ensures ∙ length-replicate c.args.lanes 0 in
    record { run = c.requires.run; serial = omega arith; some_lane = omega arith; few_lanes = omega arith; roots = c.requires.roots }
