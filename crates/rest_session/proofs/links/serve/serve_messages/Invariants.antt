use Rattle.std.proofs.Common.{◌≡◌, ◌≤◌, length}
use Rattle.std.specs.Io.KnownBytes.{prepend_known}
use Rattle.http_wire.specs.Taken.{waiting}
use Rattle.http_wire.specs.declared.limits.TheConstants.{HEAD_LIMIT}
use Rattle.rest_session.proofs.OfLinks.Progress.{Progress}
use Rattle.rest_session.proofs.links.serve.serve_messages.Given as goal

-- each message so far was answered, and no count fell
abbrev pub invariant-messages : goal.invariant-messages
invariant-messages g l =
    Progress g.V.Service.step (g.V.Service.world l.fn.service) (g.L.Source.left l.fn.link) (prepend_known (waiting l.inbox) (g.L.Source.left l.link))
    (g.L.Sink.held l.fn.link) (g.L.Sink.held l.link) (g.V.Service.world l.service) l._answered
    × (g.L.Source.faults l.fn.link ≤ g.L.Source.faults l.link)
    × (g.L.Sink.faults l.fn.link ≤ g.L.Sink.faults l.link)
    × (g.V.Service.fixed l.service ≡ g.V.Service.fixed l.fn.service)
    × (g.L.Source.names l.link ≡ g.L.Source.names l.fn.link)
    × (length (waiting l.inbox) ≤ HEAD_LIMIT)
    × g.V.Service.ready l.service
