use Rattle.std.proofs.Common.{◌≡◌, ◌∙◌, ap, sym, subst, arith, length, true, Bool, List, ℕ, Some, Option, string_bytes}
use Rattle.std.specs.Option.{unwrap_or}
use Rattle.std.specs.FinMap.{FinMap, entries, get, remove}
use Rattle.std.proofs.lemmas.Bool.{cond-true}
use Rattle.object_ids.specs.Paths.{root_path}
use Rattle.domains.specs.Contents.{Contents, only_root}
use Rattle.containers.specs.TextMaps.Keyed.{keyed, text_order}
use Rattle.configuration.specs.Catalogues.{ArePaths, CanBePut, default_setting, domain_nodes, folder_node, folder_nodes, catalogue_from, is_tree, with_nodes}
use Rattle.configuration.specs.declared.setting.Setting.{Setting}
use Rattle.configuration.proofs.SettingLemmas.{next-folders}
use Rattle.configuration.proofs.TableLemmas.{passed_on}
use Rattle.configuration.proofs.CatalogueLemmas.{few_domains, removed, tree_folders, tree_domains}
use Rattle.configuration.proofs.catalogue.make_catalogue.Goals as goal

-- the catalogue of `/` alone, and with the other folders
abbrev start_of : FinMap text_order Setting → Contents
start_of folders = only_root (folder_node (unwrap_or (get folders root_path) default_setting))

abbrev middle_of : FinMap text_order Setting → Contents
middle_of folders = with_nodes (start_of folders) (folder_nodes (entries (remove folders root_path)))

tree_of : (folders others domains : FinMap text_order Setting) (passes : Bool) → others ≡ remove folders root_path → passes ≡ is_tree others domains → passes ≡ true → is_tree (remove folders root_path) domains ≡ true
tree_of folders others domains passes rest is passed = ap (λ (m : FinMap text_order Setting). is_tree m domains) (sym rest) ∙ sym is ∙ passed

paths_of : (folders others : FinMap text_order Setting) (es : List (List ℕ × Setting)) → others ≡ remove folders root_path → es ≡ entries others → ArePaths es → ArePaths (entries (remove folders root_path))
paths_of folders others es rest is paths = subst ArePaths (is ∙ ap entries rest) paths

started : (folders : FinMap text_order Setting) (root : Option Setting) (c : Contents) → root ≡ get folders root_path → c ≡ only_root (folder_node (unwrap_or root default_setting)) → c ≡ start_of folders
started folders root c value is = is ∙ ap (λ (o : Option Setting). only_root (folder_node (unwrap_or o default_setting))) value

with_folders : (folders others : FinMap text_order Setting) (c d : Contents) (es : List (List ℕ × Setting)) → c ≡ start_of folders → others ≡ remove folders root_path → es ≡ entries others → d ≡ with_nodes c (folder_nodes es) → d ≡ middle_of folders
with_folders folders others c d es start rest is put =
    put ∙ ap (λ (l : List (List ℕ × Setting)). with_nodes c (folder_nodes l)) (is ∙ ap entries rest)
    ∙ ap (λ (x : Contents). with_nodes x (folder_nodes (entries (remove folders root_path)))) start

first_number : (folders : FinMap text_order Setting) (d : Contents) → d ≡ middle_of folders → d.next ≡ 1
first_number folders d is = ap (λ (x : Contents). x.next) is ∙ next-folders (start_of folders) (entries (remove folders root_path))

pub put_folders-requires-clause-free : goal.put_folders-requires-clause-free
put_folders-requires-clause-free c =
    let rest = c.take_root-root.ensures.rest in
    let tree = tree_of c.args.folders c.take_root-root.new.self c.args.domains c.is_tree.result rest c.is_tree.ensures c.if-not-is_tree.false in
    let root = unwrap_or (get c.args.folders root_path) default_setting in
    let start = started c.args.folders c.take_root-root.result c.in_ok-catalogue.catalogue c.take_root-root.ensures.value c.in_ok-catalogue.ensures.ok in
    subst (λ (d : Contents). CanBePut d (folder_nodes (keyed string_bytes c.into_entries.result.entries))) (sym start)
    (subst (λ (es : List (List ℕ × Setting)). CanBePut (start_of c.args.folders) (folder_nodes es)) (sym (c.into_entries.ensures.entries ∙ ap entries rest))
    (tree_folders root (remove c.args.folders root_path) c.args.domains (removed c.args.folders root_path)
    (paths_of c.args.folders c.take_root-root.new.self _ rest c.into_entries.ensures.entries c.into_entries.ensures.paths) tree))

pub put_domains-requires-clause-free : goal.put_domains-requires-clause-free
put_domains-requires-clause-free c =
    let rest = c.take_root-root.ensures.rest in
    let tree = tree_of c.args.folders c.take_root-root.new.self c.args.domains c.is_tree.result rest c.is_tree.ensures c.if-not-is_tree.false in
    let root = unwrap_or (get c.args.folders root_path) default_setting in
    let start = started c.args.folders c.take_root-root.result c.in_ok-catalogue.catalogue c.take_root-root.ensures.value c.in_ok-catalogue.ensures.ok in
    let middle = with_folders c.args.folders c.take_root-root.new.self c.in_ok-catalogue.catalogue c.put_folders.new.catalogue _ start rest c.into_entries.ensures.entries c.in_ok-put_folders.ensures.ok in
    let number = first_number c.args.folders c.put_folders.new.catalogue middle in
    subst (λ (n : ℕ). CanBePut c.put_folders.new.catalogue (domain_nodes n (keyed string_bytes c.into_entries-2.result.entries))) (sym number)
    (subst (λ (d : Contents). CanBePut d (domain_nodes 1 (keyed string_bytes c.into_entries-2.result.entries))) (sym middle)
    (subst (λ (es : List (List ℕ × Setting)). CanBePut (middle_of c.args.folders) (domain_nodes 1 es)) (sym c.into_entries-2.ensures.entries)
    (tree_domains root (remove c.args.folders root_path) c.args.domains tree)))

pub put_domains-requires-clause-few : goal.put_domains-requires-clause-few
put_domains-requires-clause-few c =
    let rest = c.take_root-root.ensures.rest in
    let tree = tree_of c.args.folders c.take_root-root.new.self c.args.domains c.is_tree.result rest c.is_tree.ensures c.if-not-is_tree.false in
    let start = started c.args.folders c.take_root-root.result c.in_ok-catalogue.catalogue c.take_root-root.ensures.value c.in_ok-catalogue.ensures.ok in
    let middle = with_folders c.args.folders c.take_root-root.new.self c.in_ok-catalogue.catalogue c.put_folders.new.catalogue _ start rest c.into_entries.ensures.entries c.in_ok-put_folders.ensures.ok in
    let number = first_number c.args.folders c.put_folders.new.catalogue middle in
    let size = ap length c.into_entries-2.ensures.entries in
    omega (arith, number, size, few_domains (remove c.args.folders root_path) c.args.domains tree)

pub returns-clause-ok : goal.returns-clause-ok
returns-clause-ok c =
    let rest = c.take_root-root.ensures.rest in
    let tree = tree_of c.args.folders c.take_root-root.new.self c.args.domains c.is_tree.result rest c.is_tree.ensures c.if-not-is_tree.false in
    let start = started c.args.folders c.take_root-root.result c.in_ok-catalogue.catalogue c.take_root-root.ensures.value c.in_ok-catalogue.ensures.ok in
    let middle = with_folders c.args.folders c.take_root-root.new.self c.in_ok-catalogue.catalogue c.put_folders.new.catalogue _ start rest c.into_entries.ensures.entries c.in_ok-put_folders.ensures.ok in
    let number = first_number c.args.folders c.put_folders.new.catalogue middle in
    let whole : c.put_domains.new.catalogue ≡ catalogue_from (unwrap_or (get c.args.folders root_path) default_setting) (remove c.args.folders root_path) c.args.domains =
    c.in_ok-put_domains.ensures.ok
    ∙ ap (λ (n : ℕ). with_nodes c.put_folders.new.catalogue (domain_nodes n (keyed string_bytes c.into_entries-2.result.entries))) number
    ∙ ap (λ (es : List (List ℕ × Setting)). with_nodes c.put_folders.new.catalogue (domain_nodes 1 es)) c.into_entries-2.ensures.entries
    ∙ ap (λ (d : Contents). with_nodes d (domain_nodes 1 (entries c.args.domains))) middle in
    cond-true _ _ _ tree ∙ ap Some (sym whole)

pub returns-in_err-catalogue-clause-bad : goal.returns-in_err-catalogue-clause-bad
returns-in_err-catalogue-clause-bad c = λ err. absurd (c.in_err-catalogue.ensures.memory (passed_on c.from_residual.result c.in_err-catalogue.field-0.0 _ c.from_residual.ensures.1 err))

pub returns-in_err-put_folders-clause-bad : goal.returns-in_err-put_folders-clause-bad
returns-in_err-put_folders-clause-bad c = λ err. absurd (c.in_err-put_folders.ensures.memory (passed_on c.from_residual-in_err-put_folders.result c.in_err-put_folders.field-0.0 _ c.from_residual-in_err-put_folders.ensures.1 err))

pub returns-in_err-put_domains-clause-bad : goal.returns-in_err-put_domains-clause-bad
returns-in_err-put_domains-clause-bad c = λ err. absurd (c.in_err-put_domains.ensures.memory (passed_on c.from_residual-in_err-put_domains.result c.in_err-put_domains.field-0.0 _ c.from_residual-in_err-put_domains.ensures.1 err))
