use Rattle.std.proofs.Common.{◌+◌, [], ◌∷◌, ◌++◌, length-append, sym, ap, ◌∙◌, refl, subst, arith}
use Rattle.edge_traits.proofs.CauseLemmas.{rose_since}
use Rattle.rest_session.specs.Halls.Accounts.{account}
use Rattle.rest_session.specs.Halls.Visits.{Attends, telling}
use Rattle.rest_session.proofs.OfHalls.Gates.{gone_none, gone_more}
use Rattle.rest_session.proofs.OfHalls.Tellings.{keeps_same}
use Rattle.rest_session.proofs.OfHalls.Talks.{attends_none, attends_more, ends_more, works_to_the_end, works_to_a_fault, works_all}
use Rattle.rest_session.proofs.halls.attending.attend_door.Goals as goal

pub links-init : goal.links-init
links-init g c =
    let t = telling g.F.Door g.F.Link.Source g.F.Link.Sink in
    let d = c.args.door.now in
    let s = account c.args.tokens.now c.args.hall.now c.args.pass.now in record {
      ready = c.requires.ready;
      same = refl;
      room = refl;
      visits = [];
      one_each = refl;
      attends = subst (λ ends. Attends t [] d d [] ends s s) (sym c.requires.empty) (attends_none t d d [] s (keeps_same (t.left d)) (keeps_same (t.ended d)) refl (omega arith));
      gates = gone_none g.G.Gate.goes s c.args.gate.now;
    }

pub attend_link-requires-clause-room : goal.attend_link-requires-clause-room
attend_link-requires-clause-room g c =
    let t = telling g.F.Door g.F.Link.Source g.F.Link.Sink in
    let i = c.links.invariant in
    let ends = ends_more t i.visits _ _ _ _ _ _ i.attends in
    omega (arith, c.links.ends.ok.0)

pub links-preserved : goal.links-preserved
links-preserved g c =
    let t = telling g.F.Door g.F.Link.Source g.F.Link.Sink in
    let i = c.links.invariant in
    let a = rw c.in-Ok-true.field-0-test at c.in-Ok-true.ensures.attends in
    let e = c.attend_link.ensures in record {
      ready = e.ready;
      same = e.same ∙ i.same;
      room = e.room ∙ i.room;
      visits = i.visits ++ a.0 ∷ [];
      one_each = length-append i.visits (a.0 ∷ []) ∙ ap (λ n. n + 1) i.one_each;
      attends = attends_more t i.visits (a.0 ∷ []) _ _ _ _ _ _ _ _ _ i.attends a.1;
      gates = gone_more g.G.Gate.goes _ _ _ _ _ _ i.gates e.gates;
    }

pub returns-in-Ok-false-clause-same : goal.returns-in-Ok-false-clause-same
returns-in-Ok-false-clause-same g c = c.attend_link.ensures.same ∙ c.links.invariant.same

pub returns-in-Ok-false-clause-gates : goal.returns-in-Ok-false-clause-gates
returns-in-Ok-false-clause-gates g c = gone_more g.G.Gate.goes _ _ _ _ _ _ c.links.invariant.gates c.attend_link.ensures.gates

pub returns-in-Ok-false-clause-works : goal.returns-in-Ok-false-clause-works
returns-in-Ok-false-clause-works g c =
    let t = telling g.F.Door g.F.Link.Source g.F.Link.Sink in
    let i = c.links.invariant in
    let a = rw c.in-Ok-false.field-0-test at c.in-Ok-false.ensures.attends in
    let all = attends_more t i.visits [] _ _ _ _ _ _ _ _ _ i.attends a.0 in
    works_to_the_end t c.args.links i.visits _ c.links.door _ _ _ _ (omega arith) i.attends.taken all a.1

pub returns-in-Err-clause-same : goal.returns-in-Err-clause-same
returns-in-Err-clause-same g c = c.attend_link.ensures.same ∙ c.links.invariant.same

pub returns-in-Err-clause-gates : goal.returns-in-Err-clause-gates
returns-in-Err-clause-gates g c = gone_more g.G.Gate.goes _ _ _ _ _ _ c.links.invariant.gates c.attend_link.ensures.gates

pub returns-in-Err-clause-works : goal.returns-in-Err-clause-works
returns-in-Err-clause-works g c =
    let t = telling g.F.Door g.F.Link.Source g.F.Link.Sink in
    let i = c.links.invariant in
    let a = c.in-Err.ensures.attends in
    let all = attends_more t i.visits [] _ _ _ _ _ _ _ _ _ i.attends a.0 in
    works_to_a_fault t c.args.links i.visits _ _ _ _ _ (omega arith) all (rose_since _ _ _ i.attends.later a.1)

pub returns-clause-same : goal.returns-clause-same
returns-clause-same g c = c.links.invariant.same

pub returns-clause-gates : goal.returns-clause-gates
returns-clause-gates g c = c.links.invariant.gates

pub returns-clause-works : goal.returns-clause-works
returns-clause-works g c =
    let t = telling g.F.Door g.F.Link.Source g.F.Link.Sink in
    let i = c.links.invariant in
    works_all t c.args.links i.visits _ _ _ _ _ (omega arith) i.attends
