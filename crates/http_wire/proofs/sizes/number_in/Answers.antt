use Rattle.std.proofs.Common.{◌∙◌, sym, ap, arith, ◌*◌, ◌+◌, ◌-◌, ℕ, get_or}
use Rattle.http_wire.proofs.Numbers.{one_more}
use Rattle.http_wire.proofs.sizes.number_in.Goals as goal

pub overflow_mul-number : goal.overflow_mul-number
overflow_mul-number c =
    let more = one_more c.args.text.now c.digits.digit-index c.requires c.digits-test.true in
    let now = c.digits.invariant in
    let same = more.0 in
    let most = more.1 in
    omega (arith, now, same, most)

pub overflow_add-number : goal.overflow_add-number
overflow_add-number c =
    let more = one_more c.args.text.now c.digits.digit-index c.requires c.digits-test.true in
    let now = c.digits.invariant in
    let same = more.0 in
    let most = more.1 in
    omega (arith, now, same, most)

pub digits-preserved : goal.digits-preserved
digits-preserved c =
    ap (λ (n : ℕ). n * 10 + (get_or c.args.text.now c.digits.digit-index 0 - 48)) c.digits.invariant
    ∙ sym (one_more c.args.text.now c.digits.digit-index c.requires c.digits-test.true).0
