use Rattle.std.proofs.Common.{List, OnErr, OnOk, sym, ap, subst, ◌∙◌}
use Rattle.std.specs.FinMap.{empty}
use Rattle.std.specs.List.{AllByRecursion}
use Rattle.flush_journal.specs.Batches.{records}
use Rattle.flush_journal.specs.Records.{Held}
use Rattle.flush_journal.specs.Cuts.Cuts.{AppendsEach, AppendsOnce, IsCut}
use Rattle.chunk_owner.specs.Slots.Bodies.{IsObjectRecord}
use Rattle.chunk_owner.specs.Lanes.{IsWhole, Lane}
use Rattle.chunk_owner.specs.Owners.Cutting.{CutsFront}
use Rattle.chunk_owner.specs.Owners.Joined.{whole}
use Rattle.chunk_owner.specs.Owners.Records.{IsMarkedIn, IsStandingIn, LanesSay}
use Rattle.register.specs.Decided.{RegisterState}
use Rattle.service_core.specs.Cutting.{CutsInTurn, StopsCut, in_register}
use Rattle.service_core.specs.Records.{IsCutRecord, IsWorldMarked, WorldSays}
use Rattle.service_core.specs.Worlds.{State}
use Rattle.service_core.proofs.RecordLemmas.{both_cut, both_records, register_alone, register_records}
use Rattle.service_core.proofs.CutRecords.{err_stops, lanes_stop, ok_always}
use Rattle.service_core.proofs.WorldLemmas.{written}
use Rattle.service_core.proofs.world.World.cut.Goals as goal

pub returns-in_err-cut-clause-cut : goal.returns-in_err-cut-clause-cut
returns-in_err-cut-clause-cut c =
    let wholes = subst (λ (ls : List Lane). AllByRecursion IsWhole ls) c.as_slice.ensures.value c.are_whole.ensures in
    subst (λ (s : State). (base : Held) → IsCut (IsWorldMarked s) base (records c.args.into.now) (records c.cut.new.into) (λ held. WorldSays s base → WorldSays (record { register = c.cut.new.self; lanes = c.self.inside.owners.items }) held)) c.self.view_is
    (register_alone (record { register = c.self.inside.register; lanes = c.self.inside.owners.items }) wholes c.cut.new.self (records c.args.into.now) (records c.cut.new.into) c.in_err-cut.ensures.cut)

pub returns-clause-cut : goal.returns-clause-cut
returns-clause-cut c =
    let wholes = subst (λ (ls : List Lane). AllByRecursion IsWhole ls) c.as_slice.ensures.value c.are_whole.ensures in
    let left = c.cut_lanes.new.owners in
    let lanes = subst (λ (ls : List Lane). (base : Held) → IsCut (IsMarkedIn ls) base (records c.cut.new.into) (records c.cut_lanes.new.into) (λ held. LanesSay ls base → LanesSay left held)) c.as_mut_slice.ensures.value c.cut_lanes.ensures.cut in
    subst (λ (ls : List Lane). (base : Held) → IsCut (IsWorldMarked c.args.self.now) base (records c.args.into.now) (records c.cut_lanes.new.into)
    (λ held. WorldSays c.args.self.now base → WorldSays (record { register = c.cut.new.self; lanes = ls }) held)) (sym (written _ left _ (c.cut_lanes.auto.owners ∙ c.as_mut_slice.ensures.len)))
    (subst (λ (s : State). (base : Held) → IsCut (IsWorldMarked s) base (records c.args.into.now) (records c.cut_lanes.new.into) (λ held. WorldSays s base → WorldSays (record { register = c.cut.new.self; lanes = left }) held)) c.self.view_is
    (both_cut (record { register = c.self.inside.register; lanes = c.self.inside.owners.items }) wholes c.cut.new.self (records c.args.into.now) (records c.cut.new.into) c.in_ok-cut.ensures.cut left (records c.cut_lanes.new.into) lanes))

pub returns-in_err-cut-clause-bodies : goal.returns-in_err-cut-clause-bodies
returns-in_err-cut-clause-bodies c =
    let wholes = subst (λ (ls : List Lane). AllByRecursion IsWhole ls) c.as_slice.ensures.value c.are_whole.ensures in
    let s : State = record { register = c.self.inside.register; lanes = c.self.inside.owners.items } in
    let first = records c.args.into.now in
    let mid = records c.cut.new.into in
    subst (λ (x : State). AppendsOnce (IsCutRecord x) first mid) c.self.view_is
    (register_records s empty first mid _ c.in_err-cut.ensures.bodies (register_alone s wholes c.cut.new.self first mid c.in_err-cut.ensures.cut empty))

pub returns-clause-bodies : goal.returns-clause-bodies
returns-clause-bodies c =
    let wholes = subst (λ (ls : List Lane). AllByRecursion IsWhole ls) c.as_slice.ensures.value c.are_whole.ensures in
    let left = c.cut_lanes.new.owners in
    let s : State = record { register = c.self.inside.register; lanes = c.self.inside.owners.items } in
    let first = records c.args.into.now in
    let mid = records c.cut.new.into in
    let last = records c.cut_lanes.new.into in
    let value = c.as_mut_slice.ensures.value in
    let lanes = subst (λ (ls : List Lane). (base : Held) → IsCut (IsMarkedIn ls) base mid last (λ held. LanesSay ls base → LanesSay left held)) value c.cut_lanes.ensures.cut in
    let objects = subst (λ (ls : List Lane). AppendsEach (IsObjectRecord (whole ls)) mid last) value c.cut_lanes.ensures.bodies in
    let standing = subst (λ (ls : List Lane). AppendsEach (IsStandingIn ls) mid last) value c.cut_lanes.ensures.standing in
    subst (λ (x : State). AppendsOnce (IsCutRecord x) first last) c.self.view_is
    (both_records s empty first mid _ c.in_ok-cut.ensures.bodies last (both_cut s wholes c.cut.new.self first mid c.in_ok-cut.ensures.cut left last lanes empty) objects standing)

pub returns-in_err-cut-clause-stops : goal.returns-in_err-cut-clause-stops
returns-in_err-cut-clause-stops c =
    err_stops c.from_residual.result (in_register (ap (λ (d : RegisterState). record { register = d; lanes = c.self.inside.owners.items }) c.in_err-cut.ensures.err ∙ c.self.view_is) c.in_err-cut.ensures.back)

pub returns-clause-stops : goal.returns-clause-stops
returns-clause-stops c =
    let left = c.cut_lanes.new.owners in
    let first = records c.args.into.now in
    let mid = records c.cut.new.into in
    let last = records c.cut_lanes.new.into in
    let front = subst (λ (ls : List Lane). OnErr c.cut_lanes.result (CutsFront ls left mid last)) c.as_mut_slice.ensures.value c.cut_lanes.ensures.front in
    subst (λ (ls : List Lane). OnErr c.cut_lanes.result (StopsCut c.args.self.now (record { register = c.cut.new.self; lanes = ls }) first last)) (sym (written _ left _ (c.cut_lanes.auto.owners ∙ c.as_mut_slice.ensures.len)))
    (subst (λ (s : State). OnErr c.cut_lanes.result (StopsCut s (record { register = c.cut.new.self; lanes = left }) first last)) c.self.view_is
    (lanes_stop c.cut_lanes.result c.self.inside.register c.cut.new.self c.self.inside.owners.items left first mid last
    (record { cut = c.in_ok-cut.ensures.cut; bodies = c.in_ok-cut.ensures.bodies; kept = c.in_ok-cut.ensures.still }) front))

pub returns-clause-order : goal.returns-clause-order
returns-clause-order c =
    let first = records c.args.into.now in
    let mid = records c.cut.new.into in
    let last = records c.cut_lanes.new.into in
    let objects = subst (λ (ls : List Lane). AppendsEach (IsObjectRecord (whole ls)) mid last) c.as_mut_slice.ensures.value c.cut_lanes.ensures.bodies in
    let s : State = record { register = c.self.inside.register; lanes = c.self.inside.owners.items } in
    let turn : CutsInTurn s first last = record { mid = mid; register = c.in_ok-cut.ensures.order; objects = objects } in
    subst (λ (x : State). OnOk c.cut_lanes.result (CutsInTurn x first last)) c.self.view_is (ok_always c.cut_lanes.result turn)
