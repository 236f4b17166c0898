use Rattle.std.proofs.Common.{◌≡◌, ◌∙◌, sym, ap, map, List}
use Rattle.std.specs.Option.{option_and_then}
use Rattle.std.proofs.lemmas.Result.{IfOk-weaker}
use Rattle.toml.specs.View.{view}
use Rattle.toml.specs.declared.value.Value.{Value}
use Rattle.configuration.specs.People.{user_of, users_of}
use Rattle.configuration.specs.Tables.{all_of, elements_of}
use Rattle.configuration.proofs.TableLemmas.{elements_of-items_view}
use Rattle.configuration.proofs.people.read_users.Goals as goal

pub returns-in-Some-clause-ok : goal.returns-in-Some-clause-ok
returns-in-Some-clause-ok c =
    let whole : users_of (view c.args.value.now) ≡ all_of user_of (map view c.as_slice.result.now) =
    ap (option_and_then (λ users. all_of user_of (elements_of users))) (sym c.in-Some.ensures)
    ∙ ap (all_of user_of) (elements_of-items_view c.in-Some.values.now.items)
    ∙ ap (λ (vs : List Value). all_of user_of (map view vs)) (sym c.as_slice.ensures.value) in
    IfOk-weaker c.users_in.result _ _ (λ users h. whole ∙ h) c.users_in.ensures.ok

pub returns-in-Some-clause-bad : goal.returns-in-Some-clause-bad
returns-in-Some-clause-bad c =
    let whole : users_of (view c.args.value.now) ≡ all_of user_of (map view c.as_slice.result.now) =
    ap (option_and_then (λ users. all_of user_of (elements_of users))) (sym c.in-Some.ensures)
    ∙ ap (all_of user_of) (elements_of-items_view c.in-Some.values.now.items)
    ∙ ap (λ (vs : List Value). all_of user_of (map view vs)) (sym c.as_slice.ensures.value) in
    λ is. whole ∙ c.users_in.ensures.bad is
