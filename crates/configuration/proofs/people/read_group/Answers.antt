use Rattle.std.proofs.Common.{◌∙◌, ◌++◌, ◌∷◌, [], ap, cond, option_map, List, ℕ, bytes_eq}
use Rattle.std.specs.List.{list_any}
use Rattle.std.proofs.lemmas.Bool.{cond-true}
use Rattle.toml.specs.View.{view}
use Rattle.object_ids.specs.Names.{is_name}
use Rattle.configuration.specs.People.{Group, names_at, users_of}
use Rattle.configuration.specs.declared.limits.TheConstants.{MAX_GROUP_LEN}
use Rattle.configuration.proofs.PeopleLemmas.{groups_with-one}
use Rattle.configuration.proofs.people.read_group.Goals as goal

pub returns-clause-ok : goal.returns-clause-ok
returns-clause-ok c =
    let key = c.args.key.now in
    let g : Group = record { name = key; users = c.in_ok-users.users.items } in (
      g,
      cond-true (is_name MAX_GROUP_LEN key) (option_map (λ users. record { name = key; users = users }) (users_of (view c.args.value.now))) _ c.in_ok-group.ensures.ok.1
          ∙ ap (option_map (λ users. record { name = key; users = users })) c.in_ok-users.ensures.ok,
      λ q.
          c.in_ok-add_group.ensures q
          ∙ ap (λ (us : List (List ℕ)). names_at c.args.memberships.now q ++ cond (list_any (bytes_eq q) us) (c.in_ok-group.group ∷ []) []) c.as_slice.ensures.value
          ∙ ap (λ (n : List ℕ). names_at c.args.memberships.now q ++ cond (list_any (bytes_eq q) c.in_ok-users.users.items) (n ∷ []) []) c.in_ok-group.ensures.ok.0
          ∙ ap (λ (l : List (List ℕ)). names_at c.args.memberships.now q ++ l) (groups_with-one g q),
    )
