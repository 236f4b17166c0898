use Rattle.std.proofs.Common.{length, map, ap, sym, ◌∙◌, subst}
use Rattle.hall_rule.specs.Rule.{names}
use Rattle.hall.specs.ArrayMachines.{lanes_in}
use Rattle.hall.specs.Passes.{opening, view_of}
use Rattle.rest_session.specs.Halls.Accounts.{AllAnswered, told_of}
use Rattle.lane_tests.proofs.PassLemmas.{one_fewer, some_spare}
use Rattle.lane_tests.proofs.halls.doors.hire.Goals as goal

pub split-share-requires-clause-of_this_hall : goal.split-share-requires-clause-of_this_hall
split-share-requires-clause-of_this_hall c = c.requires.giver.1.of_this_hall

pub split-share-requires-clause-spare : goal.split-share-requires-clause-spare
split-share-requires-clause-spare c = let giver = c.requires.giver in some_spare _ giver.0 giver.1.spare

pub returns-clause-giver : goal.returns-clause-giver
returns-clause-giver c = λ n giver.
    let s = c.split-share.ensures in record {
      of_this_hall = s.of_this_hall;
      spare = ap (λ v. length v.spare) s.kept ∙ one_fewer _ n giver.spare;
      joined = ap (λ v. v.joined) s.kept ∙ giver.joined;
    }

pub returns-clause-member : goal.returns-clause-member
returns-clause-member c =
    let s = c.split-share.ensures in
    record { of_this_hall = s.of_this_hall_too; alone = ap (λ v. length (names v)) s.given }

pub returns-clause-ready : goal.returns-clause-ready
returns-clause-ready c =
    let s = c.split-share.ensures in
    let n = lanes_in (opening c.args.hall.now) in record {
      of_this_hall = s.of_this_hall_too;
      answered = subst (λ es. AllAnswered (map (told_of n (view_of c.split-share.result).seen) es)) (sym s.unused) tt;
    }
