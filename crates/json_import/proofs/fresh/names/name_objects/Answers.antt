use Rattle.std.proofs.Common.{ap, arith}
use Rattle.json_import.specs.declared.fresh.names.Naming.{Naming}
use Rattle.json_import.proofs.OfFresh.NameLemmas.{serials_taken}
use Rattle.json_import.proofs.fresh.names.name_objects.Goals as goal

pub name_each-requires-2 : goal.name_each-requires-2
name_each-requires-2 c =
    let root = ap (λ (n : Naming). n.last.serial) c.in_ok-naming.ensures in
    let first = serials_taken _ _ _ _ c.in_ok-name_each.ensures in
    omega (arith, c.requires, root, first)

pub name_each-requires-3 : goal.name_each-requires-3
name_each-requires-3 c =
    let root = ap (λ (n : Naming). n.last.serial) c.in_ok-naming.ensures in
    let first = serials_taken _ _ _ _ c.in_ok-name_each.ensures in
    let second = serials_taken _ _ _ _ c.in_ok-name_each-2.ensures in
    omega (arith, c.requires, root, first, second)
