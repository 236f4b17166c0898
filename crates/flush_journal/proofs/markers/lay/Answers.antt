use Rattle.std.proofs.Common.{sym, ◌∙◌, subst}
use Rattle.std.proofs.lemmas.Result.{on_ok_weaker}
use Rattle.edge_traits.specs.Disks.{Only}
use Rattle.flush_journal.specs.Markers.{HasClosedMarker, IsLaid, OnlyHas}
use Rattle.flush_journal.proofs.MarkerLemmas.{torn_behind, written_behind, laid_shut, images_behind}
use Rattle.flush_journal.proofs.Moments.{one_call, joined}
use Rattle.flush_journal.proofs.Results.{if_ok}
use Rattle.flush_journal.proofs.markers.lay.Goals as goal

pub returns-in_err-write_at-clause-kept : goal.returns-in_err-write_at-clause-kept
returns-in_err-write_at-clause-kept g c = λ h front place has. record {
  now = torn_behind front c.args.end place _ _ _ has.now (c.in_err-write_at.ensures.err h);
  each = images_behind front c.args.end place _ _ _ _ has (c.write_at.ensures.images h);
}

pub returns-in_err-write_at-clause-moments : goal.returns-in_err-write_at-clause-moments
returns-in_err-write_at-clause-moments g c = λ h front place has.
    one_call g.D.Disk c.args.disk.now c.write_at.new.self (HasClosedMarker front) _
    (λ i left. subst (HasClosedMarker front) (sym (has.only i (g.met.D.Disk.only_now c.args.disk.now i h left))) has.now)
    (c.write_at.ensures.time h)
    (images_behind front c.args.end place _ _ _ _ has (λ i left. left))

pub returns-clause-kept : goal.returns-clause-kept
returns-clause-kept g c = λ h front place has. record {
  now = subst (HasClosedMarker front) (sym (c.sync.ensures.reads h)) (laid_shut front c.args.end place _ _ (written_behind front c.args.end place _ _ _ has.now (c.in_ok-write_at.ensures.ok h)));
  each = λ i left. images_behind front c.args.end place _ _ _ _ has (c.write_at.ensures.images h) i (c.sync.ensures.images h i left);
}

pub returns-clause-moments : goal.returns-clause-moments
returns-clause-moments g c = λ h front place has.
    let behind = images_behind front c.args.end place _ _ _ _ has (c.write_at.ensures.images h) in
    joined g.D.Disk c.args.disk.now c.write_at.new.self c.sync.new.self (HasClosedMarker front)
    (one_call g.D.Disk c.args.disk.now c.write_at.new.self (HasClosedMarker front) _
    (λ i left. subst (HasClosedMarker front) (sym (has.only i (g.met.D.Disk.only_now c.args.disk.now i h left))) has.now)
    (c.write_at.ensures.time h) (images_behind front c.args.end place _ _ _ _ has (λ i left. left)))
    (one_call g.D.Disk c.write_at.new.self c.sync.new.self (HasClosedMarker front) _
    (λ i left. behind i (g.met.D.Disk.only_now c.write_at.new.self i h left))
    (c.sync.ensures.time h) (λ i left. behind i (c.sync.ensures.images h i left)))

pub returns-clause-ok : goal.returns-clause-ok
returns-clause-ok g c = λ h front place has.
    let laid = written_behind front c.args.end place _ _ _ has.now (c.in_ok-write_at.ensures.ok h) in
    on_ok_weaker {P = Only (g.D.Disk.reads c.write_at.new.self) (g.D.Disk.images c.sync.new.self)}
    {Q = OnlyHas (IsLaid front c.args.frame.now) (g.D.Disk.reads c.sync.new.self) (g.D.Disk.images c.sync.new.self)} c.sync.result
    (λ (only : Only (g.D.Disk.reads c.write_at.new.self) (g.D.Disk.images c.sync.new.self)). record {
      now = subst (IsLaid front c.args.frame.now) (sym (c.sync.ensures.reads h)) laid;
      only = λ i left. only i left ∙ sym (c.sync.ensures.reads h);
    }) (c.sync.ensures.ok h)

pub returns-in_err-write_at-clause-reads : goal.returns-in_err-write_at-clause-reads
returns-in_err-write_at-clause-reads g c = λ h front place shut. torn_behind front c.args.end place _ _ _ shut (c.in_err-write_at.ensures.err h)

pub returns-clause-reads : goal.returns-clause-reads
returns-clause-reads g c = λ h front place shut.
    subst (HasClosedMarker front) (sym (c.sync.ensures.reads h)) (laid_shut front c.args.end place _ _ (written_behind front c.args.end place _ _ _ shut (c.in_ok-write_at.ensures.ok h)))

pub returns-clause-laid : goal.returns-clause-laid
returns-clause-laid g c = λ h front place shut.
    if_ok c.sync.result _ (subst (IsLaid front c.args.frame.now) (sym (c.sync.ensures.reads h)) (written_behind front c.args.end place _ _ _ shut (c.in_ok-write_at.ensures.ok h)))
