use Rattle.std.proofs.Common.{◌≡◌}
use Rattle.form_urlencoded.specs.Parse.{pairs_left}
use Rattle.rest_requests.specs.Queries.Pairs.{value_of, pairs_of, texts_of}
use Rattle.rest_requests.proofs.queries.first_value.Given as goal

abbrev pub invariant-loop-pair : goal.invariant-loop-pair
invariant-loop-pair l =
    (goal.iterator-loop-pair).can_next l.pair-iterator ×
    (goal.iterator-loop-pair).is_finite l.pair-iterator ×
    (value_of l.key (texts_of (pairs_left l.pair-iterator)) ≡ value_of l.key (pairs_of l.query))
