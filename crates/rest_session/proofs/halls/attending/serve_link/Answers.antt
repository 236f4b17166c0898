use Rattle.std.proofs.Common.{rules}
use Rattle.rest_session.proofs.OfHalls.Gates.{transcript_gone, transcript_told}
use Rattle.rest_session.proofs.halls.attending.serve_link.Goals as goal

pub returns-clause-transcript : goal.returns-clause-transcript
returns-clause-transcript g c =
    let s = c.in-Ok.ensures.transcript in
    let told = transcript_told g.G.Gate.goes _ _ _ _ _ _ s.4 in
    (s.0, s.1, s.2, s.3, search (rules, told))

pub returns-clause-gates : goal.returns-clause-gates
returns-clause-gates g c =
    let gone = transcript_gone g.G.Gate.goes _ _ _ _ _ _ c.in-Ok.ensures.transcript.4 in
    search (rules, gone)
