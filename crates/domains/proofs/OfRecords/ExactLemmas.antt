-- A tree that spells a node is the node's tree.
use Rattle.std.proofs.Common.{◌≡◌, ◌≤◌, ◌<◌, ◌^◌, ◌==◌, ℕ, List, [], ◌∷◌, length, Bool, true, false, codes, nat_le, bytes_eq, Option, Some, None, option_map, option_and_then, refl, sym, ap, subst, if◌then◌else◌, arith, ◌∙◌}
use Rattle.std.specs.List.{AllByRecursion}
use Rattle.std.proofs.lemmas.Bool.{eqb-true, leb-true, and_parts}
use Rattle.std.proofs.lemmas.Slice.Eq.{bytes_eq-Decides}
use Rattle.serde_json.specs.Data.{unsigned, negative, float, Data, null, boolean, number, string, array, object, Members, no_members, member}
use Rattle.serde_json.specs.Find.{as_bool, as_str, get_member}
use Rattle.json_trees.specs.Trees.{all_in, whole_in, pairs_of}
use Rattle.json_trees.proofs.TreeLemmas.{and_then_some, map_some}
use Rattle.object_ids.specs.Ids.{text_of_id}
use Rattle.object_ids.specs.Names.{is_name}
use Rattle.object_ids.specs.declared.ids.Kind.{Kind}
use Rattle.object_ids.specs.declared.ids.Kind.TheVariants.{Group, Dataset, Datatype}
use Rattle.groups_links.specs.IdTexts.{id_of}
use Rattle.groups_links.proofs.IdLemmas.{id_told}
use Rattle.access_lists.specs.EntryTrees.{entry_members, entry_tree, list_tree, rights_members, rights_of}
use Rattle.access_lists.specs.InForce.{Entries}
use Rattle.access_lists.specs.Lists.{IsList}
use Rattle.access_lists.specs.declared.rights.Rights.{Rights}
use Rattle.domains.specs.Contents.{HasRoot, NumberFits}
use Rattle.domains.specs.declared.classes.Node.{Node}
use Rattle.domains.specs.declared.classes.NodeClass.{NodeClass}
use Rattle.domains.specs.declared.classes.NodeClass.TheVariants.{Folder, Domain}
use Rattle.domains.specs.Records.Lists.{entry_in, entry_of, list_in, name_in, size}
use Rattle.domains.specs.Records.Nodes.{HasId, IsKeptNode, acls_in, class_in, class_of, class_tree, domain_in, domain_of, folder_in, is_group, is_root, node_in, node_of_body, node_tree, number_at, owner_in, root_at}
use Rattle.std.specs.Str.{is_utf8}
use Rattle.serde_json.specs.Read.{read}
use Rattle.domains.proofs.OfRecords.TreeLemmas.{node_back}
use Rattle.domains.proofs.OfRecords.BackLemmas.{AreNamed, length-members, list_of_rows, Row}
use Rattle.domains.proofs.OfRecords.SameLemmas.{Within, count, length-pairs, same}
use Rattle.domains.proofs.OfRecords.TidyLemmas.{EachTidy, IsRising, IsTidy, read_tidy, tidy_member}
use Rattle.containers.specs.Options.{only_if}
use Rattle.containers.specs.TextMaps.Keyed.{map_of}

-- ---- what stands at a key

text_told : (o : Option Data) (s : List ℕ) → option_and_then as_str o ≡ Some s → o ≡ Some (string s)
text_told (Some (string t)) s e = let same : t ≡ s = cc in ap (λ (u : List ℕ). Some (string u)) same
text_told None s e = cc
text_told (Some null) s e = cc
text_told (Some (boolean b)) s e = cc
text_told (Some (number n)) s e = cc
text_told (Some (array ds)) s e = cc
text_told (Some (object ms)) s e = cc

truth_told : (o : Option Data) (b : Bool) → option_and_then as_bool o ≡ Some b → o ≡ Some (boolean b)
truth_told (Some (boolean c)) b e = let same : c ≡ b = cc in ap (λ (d : Bool). Some (boolean d)) same
truth_told None b e = cc
truth_told (Some null) b e = cc
truth_told (Some (string s)) b e = cc
truth_told (Some (number n)) b e = cc
truth_told (Some (array ds)) b e = cc
truth_told (Some (object ms)) b e = cc

whole_told : (o : Option Data) (n : ℕ) → option_and_then whole_in o ≡ Some n → o ≡ Some (number (unsigned n))
whole_told (Some (number (unsigned m))) n e = let same : m ≡ n = cc in ap (λ (k : ℕ). Some (number (unsigned k))) same
whole_told (Some (number (negative z))) n e = cc
whole_told (Some (number (float x))) n e = cc
whole_told None n e = cc
whole_told (Some null) n e = cc
whole_told (Some (boolean b)) n e = cc
whole_told (Some (string s)) n e = cc
whole_told (Some (array ds)) n e = cc
whole_told (Some (object ms)) n e = cc

only_told : {A : Type 0} (b : Bool) (o : Option A) (x : A) → only_if b o ≡ Some x → (b ≡ true) × (o ≡ Some x)
only_told true o x e = (refl, e)
only_told false o x e = let both : None ≡ Some x = e in absurd (cc)

name_told : (text name : List ℕ) → name_in text ≡ Some name → (is_name (length name) name ≡ true) × (text ≡ name)
name_told text name e =
    let told = only_told (is_name (length text) text) (Some text) name e in
    let same : text ≡ name = let both : Some text ≡ Some name = told.1 in cc in (
      subst (λ (t : List ℕ). is_name (length t) t ≡ true) same told.0,
      same,
    )

-- ---- entries

six_told : (c r u d ra ua : Option Bool) (e : Rights) → rights_of c r u d ra ua ≡ Some e
    → (c ≡ Some e.create) × (r ≡ Some e.read) × (u ≡ Some e.update) × (d ≡ Some e.delete) × (ra ≡ Some e.read_acl) × (ua ≡ Some e.update_acl)
six_told (Some c) (Some r) (Some u) (Some d) (Some ra) (Some ua) e is = (cc, cc, cc, cc, cc, cc)
six_told None r u d ra ua e is = let both : None ≡ Some e = is in absurd (cc)
six_told (Some c) None u d ra ua e is = let both : None ≡ Some e = is in absurd (cc)
six_told (Some c) (Some r) None d ra ua e is = let both : None ≡ Some e = is in absurd (cc)
six_told (Some c) (Some r) (Some u) None ra ua e is = let both : None ≡ Some e = is in absurd (cc)
six_told (Some c) (Some r) (Some u) (Some d) None ua e is = let both : None ≡ Some e = is in absurd (cc)
six_told (Some c) (Some r) (Some u) (Some d) (Some ra) None e is = let both : None ≡ Some e = is in absurd (cc)

six_rise : (e : Rights) → IsRising (rights_members e no_members)
six_rise e = ((refl, (refl, (refl, (refl, (refl, tt))))), ((refl, (refl, (refl, (refl, tt)))), ((refl, (refl, (refl, tt))), ((refl, (refl, tt)), ((refl, tt), (tt, tt))))))

sized : (ms : Members) (n : ℕ) → (size (object ms) == n) ≡ true → count ms ≤ n
sized ms n e = omega (arith, length-pairs ms, eqb-true (size (object ms)) n e)

entry_exact : (d : Data) → IsTidy d → (e : Rights) → entry_in d ≡ Some e → entry_tree e ≡ d
entry_exact (object ms) tidy e is =
    let told = only_told _ _ e is in
    let each = six_told _ _ _ _ _ _ e told.1 in
    let at : (k : List ℕ) (b : Bool) → option_and_then as_bool (get_member k ms) ≡ Some b → get_member k ms ≡ Some (boolean b) = λ k b h. truth_told (get_member k ms) b h in
    let within : Within (rights_members e no_members) ms = (
      at (codes "create") e.create each.0,
      (
        at (codes "delete") e.delete each.3,
        (
          at (codes "read") e.read each.1,
          (at (codes "readACL") e.read_acl each.4, (at (codes "update") e.update each.2, (at (codes "updateACL") e.update_acl each.5, tt))),
        ),
      ),
    ) in
    ap object (same (rights_members e no_members) ms (six_rise e) tidy.0 within (sized ms 6 told.0))
entry_exact null tidy e is = cc
entry_exact (boolean b) tidy e is = cc
entry_exact (number n) tidy e is = cc
entry_exact (string s) tidy e is = cc
entry_exact (array ds) tidy e is = cc

-- ---- lists

rows_exact : (ms : Members) → EachTidy ms → (rows : List Row) → all_in entry_of (pairs_of ms) ≡ Some rows → (entry_members rows ≡ ms) × AreNamed rows
rows_exact no_members tidy rows is =
    let same : [] ≡ rows = let both : Some [] ≡ Some rows = is in cc in
    subst (λ (rs : List Row). (entry_members rs ≡ no_members) × AllByRecursion (λ e. is_name (length e.0) e.0 ≡ true) rs) same (refl, tt)
rows_exact (member k d ms) tidy rows is =
    let first = and_then_some (λ (y : Row). option_map (λ ys. y ∷ ys) (all_in entry_of (pairs_of ms))) (entry_of (k, d)) rows is in
    let more = map_some (λ (ys : List Row). first.0 ∷ ys) (all_in entry_of (pairs_of ms)) rows first.2 in
    let rest = rows_exact ms tidy.1 more.0 more.1 in
    let named = and_then_some (λ (n : List ℕ). option_map (λ entry. (n, entry)) (entry_in d)) (name_in k) first.0 first.1 in
    let entry = map_some (λ (r : Rights). (named.0, r)) (entry_in d) first.0 named.2 in
    let name = name_told k named.0 named.1 in
    let tree = entry_exact d tidy.0 entry.0 entry.1 in
    let one : entry_members ((named.0, entry.0) ∷ more.0) ≡ member k d ms = (λ i. member (sym name.1 i) (tree i) (rest.0 i)) in
    let here : entry_members (first.0 ∷ more.0) ≡ member k d ms = ap (λ (r : Row). entry_members (r ∷ more.0)) (sym entry.2) ∙ one in
    subst (λ (rs : List Row). (entry_members rs ≡ member k d ms) × AllByRecursion (λ e. is_name (length e.0) e.0 ≡ true) rs) more.2
    (here, (subst (λ (r : Row). is_name (length r.0) r.0 ≡ true) entry.2 name.0, rest.1))

list_exact : (d : Data) → IsTidy d → (list : Entries) → list_in d ≡ Some list → (list_tree list ≡ d) × IsList list
list_exact (object ms) tidy list is =
    let told = only_told (nat_le (length (pairs_of ms)) 1024) (option_map map_of (all_in entry_of (pairs_of ms))) list is in
    let found = map_some map_of (all_in entry_of (pairs_of ms)) list told.1 in
    let rows = rows_exact ms tidy.1 found.0 found.1 in
    let few : length found.0 ≤ 1024 = omega (arith, leb-true _ _ told.0, length-members found.0, ap (λ (ns : Members). length (pairs_of ns)) rows.0) in
    let made = list_of_rows found.0 (subst IsRising (sym rows.0) tidy.0) rows.1 few in
    subst (λ (l : Entries). (list_tree l ≡ object ms) × IsList l) found.2 (ap object (ap entry_members made.0 ∙ rows.0), made.1)
list_exact null tidy list is = let both : None ≡ Some list = is in absurd (cc)
list_exact (boolean b) tidy list is = let both : None ≡ Some list = is in absurd (cc)
list_exact (number n) tidy list is = let both : None ≡ Some list = is in absurd (cc)
list_exact (string s) tidy list is = let both : None ≡ Some list = is in absurd (cc)
list_exact (array ds) tidy list is = let both : None ≡ Some list = is in absurd (cc)

-- ---- classes

group_told : (k : Kind) → is_group k ≡ true → k ≡ Group
group_told Group e = refl
group_told Dataset e = absurd (let both : false ≡ true = e in cc)
group_told Datatype e = absurd (let both : false ≡ true = e in cc)

-- the object has just the members of a tree of the class
record IsExact (ms : Members) (acls : Data) (owner : List ℕ) (class : NodeClass) : Type 0 where
  tree : class_tree class acls owner ≡ object ms
  root : HasRoot class
  id : HasId class
  fits : NumberFits class

module _ (ms : Members) (up : IsRising ms) (acls : Data) (owner : List ℕ)
    (acls_is : get_member (codes "acls") ms ≡ Some acls) (owner_is : get_member (codes "owner") ms ≡ Some (string owner)) where
  folder_exact : get_member (codes "class") ms ≡ Some (string (codes "folder")) → (class : NodeClass) → folder_in (object ms) ≡ Some class → IsExact ms acls owner class
  folder_exact word class is =
      let told = only_told (size (object ms) == 3) (Some Folder) class is in
      let ns = member (codes "acls") acls (member (codes "class") (string (codes "folder")) (member (codes "owner") (string owner) no_members)) in
      let rising : IsRising ns = ((refl, (refl, tt)), ((refl, tt), (tt, tt))) in
      let made = ap object (same ns ms rising up (acls_is, (word, (owner_is, tt))) (sized ms 3 told.0)) in
      subst (IsExact ms acls owner) (let same : Folder ≡ class = let both : Some Folder ≡ Some class = told.1 in cc in same)
      (record { tree = made; root = tt; id = tt; fits = tt })

  domain_exact : get_member (codes "class") ms ≡ Some (string (codes "domain")) → (class : NodeClass) → domain_in (object ms) ≡ Some class → IsExact ms acls owner class
  domain_exact word class is =
      let told = only_told (size (object ms) == 5) _ class is in
      let own = and_then_some (λ (n : ℕ). option_and_then (domain_of n) (root_at (object ms))) (number_at (object ms)) class told.1 in
      let root = and_then_some (domain_of own.0) (root_at (object ms)) class own.2 in
      let made = only_told (is_root own.0 root.0) (Some (Domain own.0 root.0)) class root.2 in
      let text = and_then_some id_of (option_and_then as_str (get_member (codes "root") ms)) root.0 root.1 in
      let id = id_told text.0 root.0 text.2 in
      let held = and_parts _ _ made.0 in
      let same_domain : root.0.domain ≡ own.0 = eqb-true root.0.domain own.0 held.1 in
      let root_is : get_member (codes "root") ms ≡ Some (string (text_of_id root.0)) = text_told _ text.0 text.1 ∙ ap (λ (t : List ℕ). Some (string t)) (sym id.1) in
      let ns = member (codes "acls") acls (member (codes "class") (string (codes "domain")) (member (codes "number") (number (unsigned own.0))
      (member (codes "owner") (string owner) (member (codes "root") (string (text_of_id root.0)) no_members)))) in
      let rising : IsRising ns = ((refl, (refl, (refl, (refl, tt)))), ((refl, (refl, (refl, tt))), ((refl, (refl, tt)), ((refl, tt), (tt, tt))))) in
      let tree = ap object (same ns ms rising up (acls_is, (word, (whole_told _ own.0 own.1, (owner_is, (root_is, tt))))) (sized ms 5 told.0)) in
      subst (IsExact ms acls owner) (let same : Domain own.0 root.0 ≡ class = let both : Some (Domain own.0 root.0) ≡ Some class = made.1 in cc in same)
      (record { tree = tree; root = (group_told root.0.kind held.0, same_domain); id = id.0; fits = subst (λ n. n < 2 ^ 48) same_domain id.0.domain })

  class_exact : (word : List ℕ) → get_member (codes "class") ms ≡ Some (string word) → (class : NodeClass) → class_of (object ms) word ≡ Some class → IsExact ms acls owner class
  class_exact word there class is = at (bytes_eq word (codes "folder")) (bytes_eq word (codes "domain")) refl refl is where
    spelled : (w : List ℕ) → bytes_eq word w ≡ true → get_member (codes "class") ms ≡ Some (string w)
    spelled w e = there ∙ ap (λ (t : List ℕ). Some (string t)) ((bytes_eq-Decides word w).0 e)

    at : (f d : Bool) → bytes_eq word (codes "folder") ≡ f → bytes_eq word (codes "domain") ≡ d
        → (if f then folder_in (object ms) else if d then domain_in (object ms) else None) ≡ Some class → IsExact ms acls owner class
    at true d e g h = folder_exact (spelled (codes "folder") e) class h
    at false true e g h = domain_exact (spelled (codes "domain") g) class h
    at false false e g h = let both : None ≡ Some class = h in absurd (cc)

-- ---- nodes

with_list : (class : NodeClass) (acls list : Data) (owner : List ℕ) (ms : Members) → class_tree class acls owner ≡ object ms → list ≡ acls → object ms ≡ class_tree class list owner
with_list class acls list owner ms tree same = sym tree ∙ ap (λ (t : Data). class_tree class t owner) (sym same)

pub node_exact : (d : Data) → IsTidy d → (node : Node) → node_in d ≡ Some node → (d ≡ node_tree node) × IsKeptNode node
node_exact (object ms) tidy node is =
    let a = and_then_some (λ (class : NodeClass). option_and_then (λ owner. option_map (λ list. record { class = class; owner = owner; list = list }) (acls_in (object ms))) (owner_in (object ms)))
    (class_in (object ms)) node is in
    let b = and_then_some (λ (owner : List ℕ). option_map (λ list. record { class = a.0; owner = owner; list = list }) (acls_in (object ms))) (owner_in (object ms)) node a.2 in
    let c = map_some (λ (list : Entries). record { class = a.0; owner = b.0; list = list }) (acls_in (object ms)) node b.2 in
    let word = and_then_some (class_of (object ms)) (option_and_then as_str (get_member (codes "class") ms)) a.0 a.1 in
    let owner = and_then_some name_in (option_and_then as_str (get_member (codes "owner") ms)) b.0 b.1 in
    let named = name_told owner.0 b.0 owner.2 in
    let acls = and_then_some list_in (get_member (codes "acls") ms) c.0 c.1 in
    let list = list_exact acls.0 (tidy_member (codes "acls") acls.0 ms tidy.1 acls.1) c.0 acls.2 in
    let owner_is : get_member (codes "owner") ms ≡ Some (string b.0) = text_told _ owner.0 owner.1 ∙ ap (λ (t : List ℕ). Some (string t)) named.1 in
    let exact = class_exact ms tidy.0 acls.0 b.0 acls.1 owner_is word.0 (text_told _ word.0 word.1) a.0 word.2 in
    let made = with_list a.0 acls.0 (list_tree c.0) b.0 ms exact.tree list.0 in
    subst (λ (n : Node). (object ms ≡ node_tree n) × IsKeptNode n) c.2
    (made, record { owner = named.0; list = list.1; fits = exact.fits; root = exact.root; id = exact.id })
node_exact null tidy node is = let both : None ≡ Some node = is in absurd (cc)
node_exact (boolean b) tidy node is = let both : None ≡ Some node = is in absurd (cc)
node_exact (number n) tidy node is = let both : None ≡ Some node = is in absurd (cc)
node_exact (string s) tidy node is = let both : None ≡ Some node = is in absurd (cc)
node_exact (array ds) tidy node is = let both : None ≡ Some node = is in absurd (cc)

-- ---- bodies

pub body_exact : (body : List ℕ) (node : Node) → node_of_body body ≡ Some node → (is_utf8 body ≡ true) × (read body ≡ Some (node_tree node)) × IsKeptNode node
body_exact body node is =
    let told = only_told (is_utf8 body) (option_and_then node_in (read body)) node is in
    let tree = and_then_some node_in (read body) node told.1 in
    let exact = node_exact tree.0 (read_tidy body tree.0 tree.1) node tree.2 in
    (told.0, tree.1 ∙ ap Some exact.0, exact.1)

pub exact_body : (body : List ℕ) (node : Node) → is_utf8 body ≡ true → read body ≡ Some (node_tree node) → IsKeptNode node → node_of_body body ≡ Some node
exact_body body node utf8 reads kept =
    ap (λ (b : Bool). if b then option_and_then node_in (read body) else None) utf8 ∙ ap (option_and_then node_in) reads ∙ node_back node kept
