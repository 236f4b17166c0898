use Rattle.std.proofs.Common.{length, ap, ◌∙◌}
use Rattle.hall_rule.specs.Rule.{names}
use Rattle.lane_tests.proofs.PassLemmas.{one_fewer, some_spare}
use Rattle.lane_tests.proofs.halls.crowds.admit.Goals as goal

pub split-share-requires-clause-of_this_hall : goal.split-share-requires-clause-of_this_hall
split-share-requires-clause-of_this_hall c = c.requires.giver.1.of_this_hall

pub split-share-requires-clause-spare : goal.split-share-requires-clause-spare
split-share-requires-clause-spare c = let giver = c.requires.giver in some_spare _ giver.0 giver.1.spare

pub returns : goal.returns
returns c = record {
  giver = λ n giver.
      let s = c.split-share.ensures in (
        record {
          of_this_hall = s.of_this_hall;
          spare = ap (λ v. length v.spare) s.kept ∙ one_fewer _ n giver.spare;
          joined = ap (λ v. v.joined) s.kept ∙ giver.joined;
        },
        record { of_this_hall = s.of_this_hall_too; alone = ap (λ v. length (names v)) s.given },
      );
}
