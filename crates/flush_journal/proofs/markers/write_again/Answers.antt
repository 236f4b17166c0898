use Rattle.std.proofs.Common.{◌≢◌, arith, slice_index}
use Rattle.std.proofs.lemmas.Bool.Decides.{nat_tests}
use Rattle.flush_journal.specs.Markers.{Either}
use Rattle.flush_journal.proofs.EndMarkers.{found_shut}
use Rattle.flush_journal.proofs.Moments.{quiet_call, joined}
use Rattle.flush_journal.proofs.markers.write_again.Goals as goal

pub returns-in_err-marker_is_open-clause-moments : goal.returns-in_err-marker_is_open-clause-moments
returns-in_err-marker_is_open-clause-moments g c = λ h front place has.
    joined g.D.Disk c.args.disk.now c.sync.new.self c.marker_is_open.new.disk (Either front c.args.frame.now)
    (quiet_call g.D.Disk c.args.disk.now c.sync.new.self (Either front c.args.frame.now) _ _
    (λ i left. g.met.D.Disk.only_now c.args.disk.now i h left) has.each (c.sync.ensures.time h) (c.sync.ensures.images h))
    (quiet_call g.D.Disk c.sync.new.self c.marker_is_open.new.disk (Either front c.args.frame.now) _ _
    (λ i left. g.met.D.Disk.only_now c.sync.new.self i h left) (λ i left. has.each i (c.sync.ensures.images h i left)) (c.marker_is_open.ensures.time h) (c.marker_is_open.ensures.images h))

pub returns-then-branch-clause-moments : goal.returns-then-branch-clause-moments
returns-then-branch-clause-moments g c = λ h front place has.
    joined g.D.Disk c.args.disk.now c.sync.new.self c.marker_is_open.new.disk (Either front c.args.frame.now)
    (quiet_call g.D.Disk c.args.disk.now c.sync.new.self (Either front c.args.frame.now) _ _
    (λ i left. g.met.D.Disk.only_now c.args.disk.now i h left) has.each (c.sync.ensures.time h) (c.sync.ensures.images h))
    (quiet_call g.D.Disk c.sync.new.self c.marker_is_open.new.disk (Either front c.args.frame.now) _ _
    (λ i left. g.met.D.Disk.only_now c.sync.new.self i h left) (λ i left. has.each i (c.sync.ensures.images h i left)) (c.marker_is_open.ensures.time h) (c.marker_is_open.ensures.images h))

pub returns-clause-kept : goal.returns-clause-kept
returns-clause-kept g c = λ h front place has.
    let shut : slice_index (g.D.Disk.reads c.sync.new.self) c.args.end ≢ 1 = (let e = c.in_ok-marker_is_open.ensures.open h in λ is. grind (arith, nat_tests, e, c.if-branch.false)) in
    c.write_frame.ensures.kept h front place (found_shut front c.args.frame.now _ _ _ _ _ c.args.end place has.now (c.sync.ensures.reads h) (c.marker_is_open.ensures.reads h) (c.in_ok-sync.ensures.ok h) (c.marker_is_open.ensures.images h) shut)

pub returns-clause-moments : goal.returns-clause-moments
returns-clause-moments g c = λ h front place has.
    let shut : slice_index (g.D.Disk.reads c.sync.new.self) c.args.end ≢ 1 = (let e = c.in_ok-marker_is_open.ensures.open h in λ is. grind (arith, nat_tests, e, c.if-branch.false)) in
    joined g.D.Disk c.args.disk.now c.marker_is_open.new.disk c.write_frame.new.disk (Either front c.args.frame.now)
    (joined g.D.Disk c.args.disk.now c.sync.new.self c.marker_is_open.new.disk (Either front c.args.frame.now)
    (quiet_call g.D.Disk c.args.disk.now c.sync.new.self (Either front c.args.frame.now) _ _
    (λ i left. g.met.D.Disk.only_now c.args.disk.now i h left) has.each (c.sync.ensures.time h) (c.sync.ensures.images h))
    (quiet_call g.D.Disk c.sync.new.self c.marker_is_open.new.disk (Either front c.args.frame.now) _ _
    (λ i left. g.met.D.Disk.only_now c.sync.new.self i h left) (λ i left. has.each i (c.sync.ensures.images h i left)) (c.marker_is_open.ensures.time h) (c.marker_is_open.ensures.images h)))
    (c.write_frame.ensures.moments h front place (found_shut front c.args.frame.now _ _ _ _ _ c.args.end place has.now (c.sync.ensures.reads h) (c.marker_is_open.ensures.reads h) (c.in_ok-sync.ensures.ok h) (c.marker_is_open.ensures.images h) shut))

pub returns-clause-ok : goal.returns-clause-ok
returns-clause-ok g c = λ h front place has.
    let shut : slice_index (g.D.Disk.reads c.sync.new.self) c.args.end ≢ 1 = (let e = c.in_ok-marker_is_open.ensures.open h in λ is. grind (arith, nat_tests, e, c.if-branch.false)) in
    c.write_frame.ensures.ok h front place (found_shut front c.args.frame.now _ _ _ _ _ c.args.end place has.now (c.sync.ensures.reads h) (c.marker_is_open.ensures.reads h) (c.in_ok-sync.ensures.ok h) (c.marker_is_open.ensures.images h) shut)
