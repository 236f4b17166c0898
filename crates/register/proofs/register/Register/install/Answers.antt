use Rattle.register.specs.contracts.register.Register as register_row
use Rattle.register.proofs.Installing.{fault_told, given_out, installed_says, used_up}
use Rattle.register.proofs.register.Register.install.Goals as goal

pub returns-then-kept-ge-LAST_RUN-clause-used : goal.returns-then-kept-ge-LAST_RUN-clause-used
returns-then-kept-ge-LAST_RUN-clause-used c = used_up c.args.kept.now c.in-Ok.kept.run c.in-Ok.kept.catalogue c.in-Ok.ensures.described c.if-kept-ge-LAST_RUN.true

pub begin-requires-clause-roots : goal.begin-requires-clause-roots
begin-requires-clause-roots c = given_out c.args.kept.now c.in-Ok.kept.run c.in-Ok.kept.catalogue c.in-Ok.ensures.described

pub returns-else-kept-ge-LAST_RUN-clause-says : goal.returns-else-kept-ge-LAST_RUN-clause-says
returns-else-kept-ge-LAST_RUN-clause-says c =
    installed_says c.args.kept.now c.in-Ok.kept.run c.in-Ok.kept.catalogue c.in-Ok.ensures.described c.args.lanes c.begin.result c.begin.ensures

pub returns-in-Err-clause-told : goal.returns-in-Err-clause-told
returns-in-Err-clause-told c = fault_told register_row.the_row.Denot c.args.kept.now c.in-Err.fault c.from.result c.from.ensures c.in-Err.ensures.fault
