use Rattle.std.proofs.Common.{◌≡◌, w64, sym, rules, arith, ◌∙◌}
use mir.Val.{to_z, of_z}
use Rattle.documents.proofs.OfDomains.TokenLemmas.{negative_written, unsigned_written}
use Rattle.documents.proofs.domains.writing.trees.write_number.Goals as goal

pub returns-in-Some-default : goal.returns-in-Some-default
returns-in-Some-default c =
    unsigned_written c.u64.result _ c.in-Some-default.found c.args.writer.now c.u64.new.self (sym c.as_u64.ensures ∙ c.in-Some-default.is-0) (omega arith) c.u64.ensures

pub returns-in-None-Some : goal.returns-in-None-Some
returns-in-None-Some c =
    let found = c.in-None-Some.found in
    let same : to_z w64 (of_z w64 found) ≡ found = search rules in
    negative_written c.i64.result c.args.n.now.n found _ c.args.writer.now c.i64.new.self c.args.n.now.valid (sym c.as_u64.ensures ∙ c.in-None-Some.is-0) (sym c.as_i64.ensures ∙ c.in-None-Some.is-1) same (search rules) c.i64.ensures
