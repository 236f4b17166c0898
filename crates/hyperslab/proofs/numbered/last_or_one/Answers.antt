use Rattle.std.proofs.Common.{◌≡◌, ◌-◌, length, get_or, sym, ap, ◌∙◌, arith}
use Rattle.std.proofs.lemmas.Grind.{get_or_default_zero}
use Rattle.hyperslab.proofs.SideLemmas.{last_none}
use Rattle.hyperslab.proofs.numbered.last_or_one.Goals as goal

pub returns-then-many-eq0 : goal.returns-then-many-eq0
returns-then-many-eq0 c = last_none c.args.numbers.now (omega arith)

pub returns-else-many-eq0 : goal.returns-else-many-eq0
returns-else-many-eq0 c =
    let n : c.len-many.result - 1 ≡ length c.args.numbers.now - 1 = omega arith in
    c.get.ensures ∙ ap (λ i. get_or c.args.numbers.now i 0) n ∙ sym (get_or_default_zero c.args.numbers.now (length c.args.numbers.now - 1) 1 (omega arith))
