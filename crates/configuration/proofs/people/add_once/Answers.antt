use Rattle.std.proofs.Common.{◌≡◌, ◌∙◌, ap, true, Bool}
use Rattle.std.specs.FinMap.{FinMap, contains_key, insert}
use Rattle.std.proofs.lemmas.Result.{on_ok_weaker}
use Rattle.containers.specs.TextMaps.Keyed.{text_order}
use Rattle.configuration.proofs.PeopleLemmas.{known_more}
use Rattle.configuration.proofs.people.add_once.Goals as goal

pub returns-clause-known : goal.returns-clause-known
returns-clause-known c =
    on_ok_weaker c.add_membership.result
    (λ _ q.
    let put : c.put_copy.new.self ≡ insert c.args.known.now c.args.user.now true = cc (c.in_ok-put_copy.ensures.ok, c.text-2.ensures.value) in
    ap (λ (n : FinMap text_order Bool). contains_key n q) put ∙ known_more c.args.known.now c.args.user.now q true)
    c.add_membership.ensures
