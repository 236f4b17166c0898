use Rattle.std.proofs.Common.{◌≡◌, true, false, List, ℕ, sym, ap, subst, ◌∙◌, vec_items}
use Rattle.std.specs.Map.Iter.{deref_pair}
use Rattle.std.proofs.lemmas.Map.Iter.{rest_more, rest_all}
use Rattle.containers.specs.TextMaps.Keyed.{keyed}
use Rattle.containers.specs.TextMaps.Fronts.{IsLeast}
use Rattle.service_core.specs.Strays.Strays.{IsStray, IsStrayKey}
use Rattle.service_core.proofs.OfStrays.StrayLemmas.{searched_begin, searched_end, searched_more, searched_stray}
use Rattle.service_core.proofs.strays.first_stray.Goals as goal

pub loop-key-init : goal.loop-key-init
loop-key-init c =
    let same : c.into_iter-key-iterator.result ≡ c.as_tree-records.result.now.entries = c.into_iter-key-iterator.ensures.into_iter_gives.0 in
    searched_begin c.args.kept.now _ (c.as_tree-records.ensures ∙ ap (keyed vec_items) (sym same))

pub loop-key-preserved : goal.loop-key-preserved
loop-key-preserved c =
    let left = rest_more deref_pair c.loop-key.key-iterator c.next.new.self _ (c.in-Some.key, c.in-Some._body) c.in-Some.is c.next.ensures.steps in
    searched_more c.args.kept.now _ _ (c.in-Some.key.now.items, c.in-Some._body.now) c.loop-key.invariant (ap (keyed vec_items) left)
    (λ stray. let e : true ≡ false = sym (c.is_stray.ensures.1 (subst IsStrayKey (sym c.as_slice-key.ensures.value) stray)) ∙ c.if-is_stray.false in absurd (cc))

pub returns-then-is_stray : goal.returns-then-is_stray
returns-then-is_stray c =
    let left = rest_more deref_pair c.loop-key.key-iterator c.next.new.self _ (c.in-Some.key, c.in-Some._body) c.in-Some.is c.next.ensures.steps in
    subst (λ (k : List ℕ). IsLeast (IsStray c.args.kept.now) k) (sym c.as_slice-key.ensures.value)
    (searched_stray c.args.kept.now _ _ (c.in-Some.key.now.items, c.in-Some._body.now) c.loop-key.invariant (ap (keyed vec_items) left)
    (subst IsStrayKey c.as_slice-key.ensures.value (c.is_stray.ensures.0 c.if-is_stray.true)))

pub returns : goal.returns
returns c = searched_end c.args.kept.now _ c.loop-key.invariant (ap (keyed vec_items) (rest_all deref_pair c.loop-key.key-iterator c.next.new.self _ c.in-None.is c.next.ensures.steps))
