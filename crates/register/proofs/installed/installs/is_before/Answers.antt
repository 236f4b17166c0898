use Rattle.std.proofs.Common.{◌≡◌, ℕ, List, Some, nat_cmp, refl, sym, ap, ◌∙◌}
use Rattle.std.specs.Cmp.Lexicographic.{lists_agrees, slice_partial_cmp}
use Rattle.std.specs.Ordering.{is_lt, is_some_and}
use Rattle.containers.specs.TextMaps.Keyed.{text_order}
use Rattle.register.proofs.OfInstalled.RegisterFaults.{lt_true}
use Rattle.register.proofs.installed.installs.is_before.Goals as goal
use Rattle.containers.proofs.Passing.{lt_less}

agrees : (x y : List ℕ) → slice_partial_cmp (λ a b. Some (nat_cmp a b)) x y ≡ Some (text_order x y)
agrees x y = lists_agrees (λ a b. refl) x y

pub returns : goal.returns
returns c =
    let same = c.lt.ensures ∙ ap (is_some_and is_lt) (agrees c.args.key.now c.args.other.now) in
    (λ is_so. lt_less (text_order c.args.key.now c.args.other.now) (sym same ∙ is_so), λ low. same ∙ lt_true (text_order c.args.key.now c.args.other.now) low)
