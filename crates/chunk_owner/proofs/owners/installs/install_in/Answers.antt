use Rattle.std.proofs.Common.{get_or, refl, sym, ap}
use Rattle.std.proofs.lemmas.List.{length-set, take-set}
use Rattle.std.proofs.lemmas.Result.{on_ok_weaker}
use Rattle.containers.proofs.Passing.{err_map}
use Rattle.chunk_owner.specs.Installs.Walks.{Blames, IsRefused, subject_of}
use Rattle.chunk_owner.specs.Owners.Walks.{IsRefusedIn}
use Rattle.chunk_owner.proofs.OfInstalls.Records.{blame_map}
use Rattle.chunk_owner.proofs.owners.installs.install_in.Goals as goal

pub install_record-requires-clause-own : goal.install_record-requires-clause-own
install_record-requires-clause-own c =
    let ls = c.args.owners.now in
    c.requires.own (get_or ls c.args.lane c.index-owners-lane.result) (sym (ap (get_or ls c.args.lane) c.index-owners-lane.is))

pub returns-clause-done : goal.returns-clause-done
returns-clause-done c =
    let ls = c.args.owners.now in
    on_ok_weaker c.install_record.result (λ done. record {
      was = get_or ls c.args.lane c.index-owners-lane.result;
      left = c.install_record.new.self;
      here = sym (ap (get_or ls c.args.lane) c.index-owners-lane.is);
      set = refl;
      same = c.install_record.ensures.same;
      installs = done;
    }) c.install_record.ensures.done

pub returns-clause-bad : goal.returns-clause-bad
returns-clause-bad c =
    let ls = c.args.owners.now in
    let was = get_or ls c.args.lane c.index-owners-lane.result in
    err_map c.install_record.result (λ e. Blames e (IsRefused c.args.run c.args.next (subject_of c.args.of.now) c.args.body.items was.slots))
    (λ e. Blames e (IsRefusedIn c.args.run c.args.next (subject_of c.args.of.now) c.args.body.items c.args.lane ls))
    (λ e. blame_map e _ _ (λ refused. record { was = was; here = sym (ap (get_or ls c.args.lane) c.index-owners-lane.is); refused = refused }))
    c.install_record.ensures.bad

pub returns-clause-count : goal.returns-clause-count
returns-clause-count c = length-set c.args.owners.now c.args.lane c.install_record.new.self

pub returns-clause-front : goal.returns-clause-front
returns-clause-front c = take-set c.args.owners.now c.args.lane c.install_record.new.self
