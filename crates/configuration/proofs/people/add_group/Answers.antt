use Rattle.std.proofs.Common.{◌≡◌, ◌∙◌, ◌||◌, ◌++◌, ◌∷◌, [], sym, ap, cond, Bool, List, ℕ, is_some, bytes_eq, take, get_or, ◌+◌}
use Rattle.std.specs.FinMap.{FinMap, contains_key, get-empty}
use Rattle.std.specs.List.{list_any}
use Rattle.std.proofs.lemmas.List.{append-nil}
use Rattle.std.proofs.lemmas.List.Folds.{list_any_more}
use Rattle.containers.specs.TextMaps.Keyed.{text_order}
use Rattle.configuration.specs.People.{names_at}
use Rattle.configuration.proofs.PeopleLemmas.{added_more}
use Rattle.configuration.proofs.people.add_group.Goals as goal

pub users-init : goal.users-init
users-init c = (
  λ q. ap (λ (n : FinMap text_order Bool). contains_key n q) c.new-known.ensures ∙ ap is_some (get-empty text_order q),
  λ q. sym (append-nil (names_at c.args.memberships.now q)),
)

pub users-preserved : goal.users-preserved
users-preserved c =
    let user = c.user-item.result in
    let more : (q : List ℕ) → list_any (bytes_eq q) (take (c.users.user-index + 1) c.args.users.now) ≡ (contains_key c.users.known q || bytes_eq q user) =
    λ q. list_any_more (bytes_eq q) c.args.users.now c.users.user-index user c.users-test.true
    ∙ ap (λ (b : Bool). b || bytes_eq q (get_or c.args.users.now c.users.user-index user)) (sym (c.users.invariant.0 q))
    ∙ ap (λ (u : List ℕ). contains_key c.users.known q || bytes_eq q u) (sym c.user-item.is) in (
      λ q. c.in_ok-add_once.ensures.known q ∙ sym (more q),
      λ q.
          let before = c.users.invariant.1 q ∙ ap (λ (b : Bool). names_at c.args.memberships.now q ++ cond b (c.args.group.now ∷ []) []) (sym (c.users.invariant.0 q)) in
          added_more (names_at c.args.memberships.now q) (names_at c.add_once.new.memberships q) (names_at c.users.memberships q) c.args.group.now
          (contains_key c.users.known q) (bytes_eq q user) before (c.in_ok-add_once.ensures.added q)
          ∙ ap (λ (b : Bool). names_at c.args.memberships.now q ++ cond b (c.args.group.now ∷ []) []) (sym (more q)),
    )
