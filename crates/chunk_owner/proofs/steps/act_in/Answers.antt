use Rattle.std.proofs.Common.{⊎_elim, ap}
use Rattle.object_acts.specs.Acts.{changes_object, reads_object}
use Rattle.object_ops.specs.Parts.{id_of}
use Rattle.chunk_owner.specs.Slots.Slots.{objects_of}
use Rattle.chunk_owner.specs.Acts.{touched}
use Rattle.chunk_owner.proofs.KeptLemmas.{acted_reading, touched_named}
use Rattle.chunk_owner.proofs.LaneLemmas.{left_at}
use Rattle.chunk_owner.proofs.MarkLemmas.{changed_alone, made_alone}
use Rattle.chunk_owner.proofs.steps.act_in.Goals as goal

pub returns-in-PutLink-clause-others : goal.returns-in-PutLink-clause-others
returns-in-PutLink-clause-others c =
    let names = ⊎_elim (λ h. ap id_of h.2) (⊎_elim (λ h. ap id_of h.1) (⊎_elim (λ h. ap id_of h.2) (⊎_elim (λ h. ap id_of h.1) (⊎_elim (λ h. ap id_of h.1) (λ h. ap id_of h.2))))) c.in-PutLink.is in
    left_at (touched c.args.grant.now c.args.op.now c.args.step) c.in-PutLink.id c.args.slots.now c.change_in.new.slots
    (touched_named c.args.grant.now c.args.op.now c.args.step c.in-PutLink.id names) c.change_in.ensures.others

pub returns-in-GetObject-clause-acts : goal.returns-in-GetObject-clause-acts
returns-in-GetObject-clause-acts c =
    let reads = ⊎_elim (λ h. ap reads_object h) (⊎_elim (λ h. ap reads_object h) (⊎_elim (λ h. ap reads_object h.1) (⊎_elim (λ h. ap reads_object h) (⊎_elim (λ h. ap reads_object h.1) (⊎_elim (λ h. ap reads_object h) (⊎_elim (λ h. ap reads_object h) (⊎_elim (λ h. ap reads_object h.1) (λ h. ap reads_object h.1)))))))) c.in-GetObject.is in
    let names = ⊎_elim (λ h. ap id_of h) (⊎_elim (λ h. ap id_of h) (⊎_elim (λ h. ap id_of h.1) (⊎_elim (λ h. ap id_of h) (⊎_elim (λ h. ap id_of h.1) (⊎_elim (λ h. ap id_of h) (⊎_elim (λ h. ap id_of h) (⊎_elim (λ h. ap id_of h.1) (λ h. ap id_of h.1)))))))) c.in-GetObject.is in
    acted_reading c.args.grant.now c.args.op.now c.args.step c.in-GetObject.id (objects_of c.args.slots.now) c.read_in.result reads names c.read_in.ensures

pub returns-in-MakeObject-clause-alone : goal.returns-in-MakeObject-clause-alone
returns-in-MakeObject-clause-alone c =
    made_alone c.args.grant.now c.in-MakeObject.make c.in-MakeObject.link c.args.step c.args.slots.now c.args.op.now c.make_or_link.result c.make_or_link.new.slots c.in-MakeObject.is c.make_or_link.ensures.alone

pub returns-in-PutLink-clause-alone : goal.returns-in-PutLink-clause-alone
returns-in-PutLink-clause-alone c =
    let names = ⊎_elim (λ h. ap id_of h.2) (⊎_elim (λ h. ap id_of h.1) (⊎_elim (λ h. ap id_of h.2) (⊎_elim (λ h. ap id_of h.1) (⊎_elim (λ h. ap id_of h.1) (λ h. ap id_of h.2))))) c.in-PutLink.is in
    let changes = ⊎_elim (λ h. ap changes_object h.2) (⊎_elim (λ h. ap changes_object h.1) (⊎_elim (λ h. ap changes_object h.2) (⊎_elim (λ h. ap changes_object h.1) (⊎_elim (λ h. ap changes_object h.1) (λ h. ap changes_object h.2))))) c.in-PutLink.is in
    changed_alone c.args.grant.now c.args.op.now c.args.step c.in-PutLink.id c.change_in.result c.args.slots.now c.change_in.new.slots changes names c.change_in.ensures.alone
