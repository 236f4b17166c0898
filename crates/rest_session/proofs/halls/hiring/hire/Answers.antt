use Rattle.std.proofs.Common.{◌+◌, ap, ◌∙◌}
use Rattle.hall_rule.specs.Rule.{head_or_zero, tail_of}
use Rattle.hall_rule.specs.Sums.{upward}
use Rattle.lane_histories.specs.Histories.{own}
use Rattle.rest_session.proofs.OfHalls.Lists.{upward_first}
use Rattle.rest_session.proofs.halls.hiring.hire.Goals as goal

pub split-share-requires-clause-of_this_hall : goal.split-share-requires-clause-of_this_hall
split-share-requires-clause-of_this_hall g c = c.requires.giver.2.of_this_hall

pub split-share-requires-clause-spare : goal.split-share-requires-clause-spare
split-share-requires-clause-spare g c =
    let k = c.requires.giver.0 in
    let n = c.requires.giver.1 in
    (k + 1, upward (k + 1 + 1) n, c.requires.giver.2.spare ∙ upward_first (k + 1) n)

pub returns-clause-giver : goal.returns-clause-giver
returns-clause-giver g c = λ k n giver.
    let s = c.split-share.ensures in
    let spare = giver.spare ∙ upward_first (k + 1) n in (
      record {
        of_this_hall = s.of_this_hall;
        number = ap (λ v. v.number) s.kept ∙ giver.number;
        spare = ap (λ v. v.spare) s.kept ∙ ap tail_of spare;
        joined = ap (λ v. v.joined) s.kept ∙ giver.joined;
        seen = ap (λ v. v.seen) s.kept ∙ giver.seen;
        front = s.fronts.0 ∙ giver.front;
      },
      record {
        of_this_hall = s.of_this_hall_too;
        number = ap (λ v. v.number) s.given ∙ ap head_or_zero spare;
        spare = ap (λ v. v.spare) s.given;
        joined = ap (λ v. v.joined) s.given;
        unasked = ap (λ v. own (k + 1) v.seen.register) s.given ∙ ap (λ h. own (k + 1) h.register) giver.seen;
        keepings = ap (λ v. v.seen.keepings) s.given ∙ ap (λ h. h.keepings) giver.seen;
        front = s.fronts.1 ∙ giver.front;
      },
    )
