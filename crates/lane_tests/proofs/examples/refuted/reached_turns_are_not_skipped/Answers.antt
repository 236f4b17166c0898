use Rattle.std.proofs.Common.{◌≡◌, true, false}
use Rattle.lane_tests.proofs.OfExamples.RefutedLemmas.{no_only, no_short_drop, pair_agrees}
use Rattle.lane_tests.proofs.examples.refuted.reached_turns_are_not_skipped.Goals as goal

pub returns-clause-skipped : goal.returns-clause-skipped
returns-clause-skipped c = λ before h replayed pair. let never : true ≡ false = pair_agrees before h (c.replays_are_products.ensures.legal 2 before h replayed.replay replayed.rest) _ _ pair in absurd (cc)

pub returns-clause-refused : goal.returns-clause-refused
returns-clause-refused c = λ before h made replayed pair. let never : false ≡ true = pair_agrees before h (c.replays_are_products.ensures.legal 2 before h replayed.replay replayed.rest) _ _ pair in absurd (cc)

pub returns-clause-short : goal.returns-clause-short
returns-clause-short c = λ before h made replayed pair. let never : false ≡ true = pair_agrees before h (c.replays_are_products.ensures.legal 2 before h replayed.replay replayed.rest) _ _ pair in absurd (cc)

pub returns-clause-only : goal.returns-clause-only
returns-clause-only c = λ before h l place task replayed here.
    no_only (before.objects l) (h.lane l) place task ((c.replays_are_products.ensures.legal 2 before h replayed.replay replayed.rest).lanes l) here

pub returns-clause-dropped : goal.returns-clause-dropped
returns-clause-dropped c = λ before h l place part replayed here.
    no_short_drop (before.objects l) (h.lane l) place part ((c.replays_are_products.ensures.legal 2 before h replayed.replay replayed.rest).lanes l) here
