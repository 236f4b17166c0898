use Rattle.std.proofs.Common.{◌≡◌, ◌+◌, ◌<◌, ◌^◌, option_map, sym, ap, subst, ◌∙◌}
use Rattle.std.specs.FinMap.{get, keys, len, remove}
use Rattle.object_ids.specs.declared.ids.Kind.TheVariants as kind
use Rattle.json_import.specs.Fresh.Names.{name_each, names_of, root_named}
use Rattle.json_import.specs.Fresh.Renamed.{group_object}
use Rattle.json_import.proofs.OfFresh.ObjectLemmas.{under_count}
use Rattle.json_import.proofs.fresh.renaming.rename.Goals as goal

pub name_objects-requires : goal.name_objects-requires
name_objects-requires c =
    let l = c.args.loaded in
    let rest = c.remove-top.ensures.rest ∙ ap (remove l.groups) c.text-2.ensures in
    subst (λ groups. c.args.root.serial + (len groups + (len l.datasets + len l.datatypes)) < 2 ^ 40) (sym rest) c.requires.room

pub returns-clause-root : goal.returns-clause-root
returns-clause-root c =
    let l = c.args.loaded in
    let rest = c.remove-top.ensures.rest ∙ ap (remove l.groups) c.text-2.ensures in
    let top = c.remove-top.ensures.value ∙ ap (get l.groups) c.text-2.ensures in
    let names : c.in_ok-ids.ids.names ≡ names_of l c.args.root =
    c.in_ok-ids.ensures.names
    ∙ (λ i. (name_each kind.Datatype
    (name_each kind.Dataset
    (name_each kind.Group (root_named (c.text-3.ensures i) c.args.root) (keys (rest i)))
    (keys l.datasets))
    (keys l.datatypes)).names) in
    c.in_ok-root.ensures ∙ (λ i. option_map (group_object (names i) (c.in_ok-ids.ensures.root i)) (top i))

pub returns-clause-many : goal.returns-clause-many
returns-clause-many c =
    let l = c.args.loaded in
    let rest = c.remove-top.ensures.rest ∙ ap (remove l.groups) c.text-2.ensures in
    under_count c.in_ok-ids.ids.names c.in_ok-ids.ids.root c.remove-top.new.self l.datasets l.datatypes
    ∙ ap (λ g. len g + (len l.datasets + len l.datatypes)) rest
