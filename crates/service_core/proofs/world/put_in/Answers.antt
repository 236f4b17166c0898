use Rattle.std.proofs.Common.{get_or, sym, ap}
use Rattle.object_acts.specs.Objects.{unmarked}
use Rattle.chunk_owner.proofs.OfOwners.WholeLemmas.{home_by_lane, kept_lanes, lane_put, none_here, put_whole}
use Rattle.chunk_owner.proofs.OfOwners.SaidLemmas.{said_set}
use Rattle.chunk_owner.proofs.OfOwners.UndroppedLemmas.{undropped_set}
use Rattle.chunk_owner.specs.Slots.Slots.{IsMarkedIn}
use Rattle.chunk_owner.specs.declared.slots.slot.Mark.TheVariants.{Changed}
use Rattle.service_core.proofs.TurnMarks.{marked_set}
use Rattle.service_core.proofs.world.put_in.Goals as goal

pub put_object-requires-clause-lane : goal.put_object-requires-clause-lane
put_object-requires-clause-lane c =
    let ls = c.args.owners.now in
    let l = get_or ls c.args.lane c.index-owners-lane.result in
    home_by_lane _ c.args.lane ls l l c.requires.lanes c.requires.lane (sym (ap (get_or ls c.args.lane) c.index-owners-lane.is)) c.args.id (unmarked c.args.object) c.requires.home

pub put_object-requires-clause-new : goal.put_object-requires-clause-new
put_object-requires-clause-new c =
    let ls = c.args.owners.now in
    let l = get_or ls c.args.lane c.index-owners-lane.result in
    none_here _ c.args.lane ls l l c.requires.lanes c.requires.lane (sym (ap (get_or ls c.args.lane) c.index-owners-lane.is)) c.args.id c.requires.new

pub returns-clause-ok : goal.returns-clause-ok
returns-clause-ok c =
    let ls = c.args.owners.now in
    let l = get_or ls c.args.lane c.index-owners-lane.result in
    put_whole _ c.args.lane ls l c.put_object.new.self c.requires.lanes c.requires.lane (sym (ap (get_or ls c.args.lane) c.index-owners-lane.is)) c.args.id (unmarked c.args.object) c.requires.home
    c.put_object.result c.put_object.ensures.ok

pub returns-clause-err : goal.returns-clause-err
returns-clause-err c =
    let ls = c.args.owners.now in
    let l = get_or ls c.args.lane c.index-owners-lane.result in
    kept_lanes _ c.args.lane ls l c.put_object.new.self c.requires.lanes c.requires.lane (sym (ap (get_or ls c.args.lane) c.index-owners-lane.is)) c.args.id (unmarked c.args.object) c.requires.home
    c.put_object.result c.put_object.ensures.err

pub returns-clause-lanes : goal.returns-clause-lanes
returns-clause-lanes c =
    let ls = c.args.owners.now in
    let l = get_or ls c.args.lane c.index-owners-lane.result in
    lane_put _ c.args.lane ls l c.put_object.new.self c.requires.lanes c.requires.lane (sym (ap (get_or ls c.args.lane) c.index-owners-lane.is)) c.args.id (unmarked c.args.object) c.requires.home
    c.put_object.result c.put_object.ensures.same c.put_object.ensures.ok c.put_object.ensures.err

pub returns-clause-says : goal.returns-clause-says
returns-clause-says c =
    let ls = c.args.owners.now in
    let l = get_or ls c.args.lane c.index-owners-lane.result in
    said_set l c.put_object.new.self c.put_object.ensures.same c.put_object.ensures.says c.args.lane ls (sym (ap (get_or ls c.args.lane) c.index-owners-lane.is))

pub returns-clause-undropped : goal.returns-clause-undropped
returns-clause-undropped c =
    let ls = c.args.owners.now in
    let l = get_or ls c.args.lane c.index-owners-lane.result in
    undropped_set l c.put_object.new.self c.put_object.ensures.undropped c.args.lane ls (sym (ap (get_or ls c.args.lane) c.index-owners-lane.is))

pub returns-clause-alone : goal.returns-clause-alone
returns-clause-alone c =
    let ls = c.args.owners.now in
    let l = get_or ls c.args.lane c.index-owners-lane.result in
    marked_set (IsMarkedIn c.args.id Changed c.args.object.body) l c.put_object.new.self c.put_object.ensures.alone c.args.lane ls (sym (ap (get_or ls c.args.lane) c.index-owners-lane.is))
