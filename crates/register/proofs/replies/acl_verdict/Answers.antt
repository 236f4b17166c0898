use Rattle.std.proofs.Common.{subst, Option}
use Rattle.access_lists.specs.declared.rights.Rights.{Rights}
use Rattle.register.specs.Looks.{VerdictAnswersEntry}
use Rattle.register.proofs.replies.acl_verdict.Goals as goal

pub returns-in-Some : goal.returns-in-Some
returns-in-Some c =
    let For : Option Rights → Type 0 = λ entry. VerdictAnswersEntry c.args.name.now entry c.answered.result in
    subst For c.in-Some.ensures (c.answered.ensures _ c.acl_reply.ensures)
