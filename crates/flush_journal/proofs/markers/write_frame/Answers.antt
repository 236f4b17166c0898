use Rattle.std.proofs.Common.{◌+◌, length, take, inl}
use Rattle.std.proofs.lemmas.Result.{on_ok_weaker}
use Rattle.flush_journal.specs.Markers.{HasClosedMarker, HasOpenMarker, Either, MarkerStands}
use Rattle.flush_journal.proofs.EndMarkers.{shut_of_stands, shut_long, stands_of_either, stands_of_opened}
use Rattle.flush_journal.proofs.Moments.{joined, weaker}
use Rattle.flush_journal.proofs.markers.write_frame.Goals as goal

pub returns-in_err-lay-clause-stands : goal.returns-in_err-lay-clause-stands
returns-in_err-lay-clause-stands g c = λ h ends.
    let at = shut_of_stands c.args.end (g.D.Disk.reads c.args.disk.now) (c.requires.stands h) in
    stands_of_either _ c.args.frame.now _ c.args.end at.0 ends (inl (c.lay.ensures.reads h _ at.0 at.1))

pub open_marker-requires-clause-inside : goal.open_marker-requires-clause-inside
open_marker-requires-clause-inside g c = λ h.
    let at = shut_of_stands c.args.end (g.D.Disk.reads c.args.disk.now) (c.requires.stands h) in
    shut_long _ _ c.args.end at.0 (c.lay.ensures.reads h _ at.0 at.1)

pub returns-clause-kept : goal.returns-clause-kept
returns-clause-kept g c = λ h front place has. c.open_marker.ensures.kept h front c.args.frame.now place (c.in_ok-lay.ensures.ok h front place has)

pub returns-clause-moments : goal.returns-clause-moments
returns-clause-moments g c = λ h front place has.
    joined g.D.Disk c.args.disk.now c.lay.new.disk c.open_marker.new.disk (Either front c.args.frame.now)
    (weaker g.D.Disk c.args.disk.now c.lay.new.disk (HasClosedMarker front) (Either front c.args.frame.now) (λ i shut. inl shut) (c.lay.ensures.moments h front place has))
    (c.open_marker.ensures.moments h front c.args.frame.now place (c.in_ok-lay.ensures.ok h front place has))

pub returns-clause-stands : goal.returns-clause-stands
returns-clause-stands g c = λ h ends.
    let at = shut_of_stands c.args.end (g.D.Disk.reads c.args.disk.now) (c.requires.stands h) in
    stands_of_either _ c.args.frame.now _ c.args.end at.0 ends (c.open_marker.ensures.reads h _ c.args.frame.now at.0 (c.in_ok-lay.ensures.laid h _ at.0 at.1))

pub returns-clause-moved : goal.returns-clause-moved
returns-clause-moved g c = λ h ends.
    let at = shut_of_stands c.args.end (g.D.Disk.reads c.args.disk.now) (c.requires.stands h) in
    let front = take c.args.end (g.D.Disk.reads c.args.disk.now) in
    on_ok_weaker {P = HasOpenMarker front c.args.frame.now (g.D.Disk.reads c.open_marker.new.disk)}
    {Q = MarkerStands (c.args.end + length c.args.frame.now) 0 (g.D.Disk.reads c.open_marker.new.disk)} c.open_marker.result
    (stands_of_opened front c.args.frame.now _ c.args.end at.0 ends)
    (c.open_marker.ensures.opened h front c.args.frame.now at.0 (c.in_ok-lay.ensures.laid h front at.0 at.1))
