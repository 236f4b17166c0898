use Rattle.std.proofs.Common.{inl, inr, sym, ◌∙◌, subst}
use Rattle.std.proofs.lemmas.Result.{on_ok_weaker}
use Rattle.edge_traits.specs.Disks.{Only}
use Rattle.flush_journal.specs.Markers.{IsLaid, HasOpenMarker, Either, OnlyHas}
use Rattle.flush_journal.proofs.MarkerLemmas.{torn_marker, written_marker, laid_shut, images_marker}
use Rattle.flush_journal.proofs.Moments.{one_call, joined}
use Rattle.flush_journal.proofs.Results.{if_ok}
use Rattle.flush_journal.proofs.markers.open_marker.Goals as goal

pub returns-in_err-write_at-clause-kept : goal.returns-in_err-write_at-clause-kept
returns-in_err-write_at-clause-kept g c = λ h front frame place has. record {
  now = torn_marker front c.args.end place _ _ _ has.now (c.in_err-write_at.ensures.err h);
  each = images_marker front c.args.end place _ _ _ _ has (c.write_at.ensures.images h);
}

pub returns-in_err-write_at-clause-moments : goal.returns-in_err-write_at-clause-moments
returns-in_err-write_at-clause-moments g c = λ h front frame place has.
    one_call g.D.Disk c.args.disk.now c.write_at.new.self (Either front frame) _
    (λ i left. inl (laid_shut front c.args.end place frame i (subst (IsLaid front frame) (sym (has.only i (g.met.D.Disk.only_now c.args.disk.now i h left))) has.now)))
    (c.write_at.ensures.time h)
    (images_marker front c.args.end place _ _ _ _ has (λ i left. left))

pub returns-clause-kept : goal.returns-clause-kept
returns-clause-kept g c = λ h front frame place has. record {
  now = subst (Either front frame) (sym (c.sync.ensures.reads h)) (inr (written_marker front c.args.end place _ _ _ has.now (c.in_ok-write_at.ensures.ok h)));
  each = λ i left. images_marker front c.args.end place _ _ _ _ has (c.write_at.ensures.images h) i (c.sync.ensures.images h i left);
}

pub returns-clause-moments : goal.returns-clause-moments
returns-clause-moments g c = λ h front frame place has.
    let behind = images_marker front c.args.end place _ _ _ _ has (c.write_at.ensures.images h) in
    joined g.D.Disk c.args.disk.now c.write_at.new.self c.sync.new.self (Either front frame)
    (one_call g.D.Disk c.args.disk.now c.write_at.new.self (Either front frame) _
    (λ i left. inl (laid_shut front c.args.end place frame i (subst (IsLaid front frame) (sym (has.only i (g.met.D.Disk.only_now c.args.disk.now i h left))) has.now)))
    (c.write_at.ensures.time h) (images_marker front c.args.end place _ _ _ _ has (λ i left. left)))
    (one_call g.D.Disk c.write_at.new.self c.sync.new.self (Either front frame) _
    (λ i left. behind i (g.met.D.Disk.only_now c.write_at.new.self i h left))
    (c.sync.ensures.time h) (λ i left. behind i (c.sync.ensures.images h i left)))

pub returns-clause-ok : goal.returns-clause-ok
returns-clause-ok g c = λ h front frame place has.
    let opened = written_marker front c.args.end place _ _ _ has.now (c.in_ok-write_at.ensures.ok h) in
    on_ok_weaker {P = Only (g.D.Disk.reads c.write_at.new.self) (g.D.Disk.images c.sync.new.self)}
    {Q = OnlyHas (HasOpenMarker front frame) (g.D.Disk.reads c.sync.new.self) (g.D.Disk.images c.sync.new.self)} c.sync.result
    (λ (only : Only (g.D.Disk.reads c.write_at.new.self) (g.D.Disk.images c.sync.new.self)). record {
      now = subst (HasOpenMarker front frame) (sym (c.sync.ensures.reads h)) opened;
      only = λ i left. only i left ∙ sym (c.sync.ensures.reads h);
    }) (c.sync.ensures.ok h)

pub returns-in_err-write_at-clause-reads : goal.returns-in_err-write_at-clause-reads
returns-in_err-write_at-clause-reads g c = λ h front frame place laid. torn_marker front c.args.end place _ _ _ laid (c.in_err-write_at.ensures.err h)

pub returns-clause-reads : goal.returns-clause-reads
returns-clause-reads g c = λ h front frame place laid.
    subst (Either front frame) (sym (c.sync.ensures.reads h)) (inr (written_marker front c.args.end place _ _ _ laid (c.in_ok-write_at.ensures.ok h)))

pub returns-clause-opened : goal.returns-clause-opened
returns-clause-opened g c = λ h front frame place laid.
    if_ok c.sync.result _ (subst (HasOpenMarker front frame) (sym (c.sync.ensures.reads h)) (written_marker front c.args.end place _ _ _ laid (c.in_ok-write_at.ensures.ok h)))
