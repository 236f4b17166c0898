-- A number written behind the others leaves zeros behind it.
use Rattle.std.proofs.Common.{◌≡◌, ℕ, ◌+◌, ◌-◌, ◌<◌, List, length, drop, replicate, slice_set, arith, sym, ap, ◌∙◌}
use Rattle.std.proofs.lemmas.List.{drop-set-lt, drop-drop, drop-replicate, length-set}
use Rattle.containers.specs.ShortLists.Filled.{IsFilled, length-shown}
use Rattle.containers.proofs.short_lists.ShortList.push.Goals as goal

IsFilled-pushed : (cap len : ℕ) (room : List ℕ) (n : ℕ) → IsFilled cap len room → len < cap → IsFilled cap (len + 1) (slice_set room len n)
IsFilled-pushed cap len room n h more = record {
  within = omega arith;
  whole = length-set room len n ∙ h.whole;
  zeros = drop-set-lt (len + 1) room len n (omega arith) ∙ one_less;
}
  where
    one_less : drop (len + 1) room ≡ replicate (cap - (len + 1)) 0
    one_less =
        let fewer : (cap - len) - 1 ≡ cap - (len + 1) = omega arith in
        sym (drop-drop 1 len room) ∙ ap (drop 1) h.zeros ∙ drop-replicate 1 (cap - len) 0 ∙ ap (λ k. replicate k 0) fewer

pub invariant_of-self : goal.invariant_of-self
invariant_of-self g c =
    let shown = length-shown g.row.N c.self.inside.len c.self.inside.room c.self.invariant in
    IsFilled-pushed g.row.N c.self.inside.len c.self.inside.room c.args.n c.self.invariant (omega (arith, shown, ap length c.self.view_is))
