use Rattle.std.proofs.Common.{◌≡◌, OnOk, string_bytes, subst, sym, arith}
use Rattle.json_import.specs.Fresh.Names.{name_each}
use Rattle.json_import.proofs.OfFresh.NameLemmas.{keys_keyed, many_keyed}
use Rattle.json_import.proofs.fresh.names.name_each.Goals as goal

pub name_tree-requires : goal.name_tree-requires
name_tree-requires g c = omega (arith, c.requires, many_keyed string_bytes c.args.objects.now c.as_tree.result.now.entries c.as_tree.ensures)

pub returns : goal.returns
returns g c =
    subst (λ texts. OnOk c.name_tree.result (c.name_tree.new.naming ≡ name_each c.args.kind c.args.naming.now texts))
    (sym (keys_keyed string_bytes c.args.objects.now c.as_tree.result.now.entries c.as_tree.ensures))
    c.name_tree.ensures
