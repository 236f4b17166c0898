use Rattle.std.proofs.Common.{◌≡◌, None, sym, subst}
use Rattle.serde_json.specs.declared.value.Value.{Value}
use Rattle.domains.specs.Changes.{children_fault}
use Rattle.object_ops.specs.declared.replies.Reply.TheVariants.{Done}
use Rattle.register.specs.Decided.{RegisterState, children_body}
use Rattle.register.proofs.Settling.{folder_has_children, only_memory}
use Rattle.register.proofs.register.Register.children.Goals as goal

pub returns-in-Err : goal.returns-in-Err
returns-in-Err c =
    let d : RegisterState = record { catalogue = c.self.inside.catalogue; run = c.self.inside.run; serial = c.self.inside.serial; places = c.self.inside.places; issued = c.self.inside.issued; marks = c.self.inside.marks } in
    let None_at : RegisterState → Type 0 = λ x. children_fault x.catalogue c.args.path.now ≡ None in
    only_memory Value c.args.path.now c.in-Err.fault (children_fault d.catalogue c.args.path.now) (Done 200 (children_body c.args.self.now.catalogue c.args.path.now)) c.refused.result
    (subst None_at (sym c.self.view_is) (folder_has_children c.args.self.now.catalogue c.args.path.now c.requires))
    c.in-Err.ensures.why c.refused.ensures
