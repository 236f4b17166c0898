use Rattle.std.proofs.Common.{OnOk, IfErr, sym, subst}
use Rattle.chunk_owner.specs.Installs.Records.{IsOfLane}
use Rattle.chunk_owner.specs.Installs.Walks.{Blames, Installs, IsRefused, subject_of}
use Rattle.chunk_owner.specs.Lanes.{Lane}
use Rattle.chunk_owner.proofs.owner.Owner.install_record.Goals as goal

pub invariant_of-self : goal.invariant_of-self
invariant_of-self c = (
  c.install_record.ensures.own c.self.inside.lane c.self.inside.lanes (subst (λ (l : Lane). IsOfLane l.lanes l.lane (subject_of c.args.of.now)) (sym c.self.view_is) c.requires.own) c.self.invariant.0,
  λ q isnt. c.install_record.ensures.still q (c.self.invariant.1 q isnt),
)

pub returns-clause-done : goal.returns-clause-done
returns-clause-done c =
    subst (λ (l : Lane). OnOk c.install_record.result (Installs c.args.run c.args.next (subject_of c.args.of.now) c.args.body.items l.slots c.install_record.new.slots)) c.self.view_is c.install_record.ensures.done

pub returns-clause-bad : goal.returns-clause-bad
returns-clause-bad c =
    subst (λ (l : Lane). IfErr c.install_record.result (λ e. Blames e (IsRefused c.args.run c.args.next (subject_of c.args.of.now) c.args.body.items l.slots))) c.self.view_is c.install_record.ensures.bad
