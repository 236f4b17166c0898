use Rattle.std.proofs.Common.{◌≡◌, ◌∙◌, ◌∷◌, [], ◌++◌, ap, List, ℕ}
use Rattle.std.specs.FinMap.{FinMap, insert, remove}
use Rattle.std.proofs.lemmas.Result.{on_ok_weaker}
use Rattle.containers.specs.TextMaps.Keyed.{text_order}
use Rattle.configuration.specs.People.{names_at}
use Rattle.configuration.proofs.PeopleLemmas.{names_at-added}
use Rattle.configuration.proofs.people.add_membership.Goals as goal

pub returns : goal.returns
returns c =
    on_ok_weaker c.put_copy.result
    (λ e q.
    let m = c.args.memberships.now in
    let u = c.args.user.now in
    let g = c.args.group.now in
    let whole : c.put_copy.new.self ≡ insert (remove m u) u (names_at m u ++ g ∷ []) =
    cc (e, c.text.ensures.value, c.take_names-names.ensures.value, c.take_names-names.ensures.rest, c.in_ok-push.ensures.ok, c.in_ok-copy.ensures) in
    ap (λ (n : FinMap text_order (List (List ℕ))). names_at n q) whole ∙ names_at-added m u g q)
    c.put_copy.ensures.ok
