-- A catalogue stays one when a node is removed, or its list or the next number changes.
use Rattle.std.proofs.Common.{◌≡◌, ◌≢◌, ⊎_elim, ℕ, ◌+◌, ◌<◌, ◌≤◌, ◌^◌, cond, is_some, List, Option, Some, None, IsSome, Result, Ok, Err, OnOk, OnErr, option_map, refl, ap, sym, subst, ◌∙◌, true≢false}
use Rattle.std.specs.Cmp.Lexicographic.{nat_list_cmp_total}
use Rattle.std.specs.FinMap.{FinMap, get, insert, len, get-remove, len-insert, same_map}
use Rattle.containers.specs.TextMaps.Keyed.{text_order}
use Rattle.containers.proofs.TextMaps.KeyedMaps.{exact_texts}
use Rattle.object_ids.specs.IdValues.{Id}
use Rattle.object_ids.specs.Paths.{parent_of, root_path}
use Rattle.object_ids.proofs.PutLemmas.{remove_most}
use Rattle.access_lists.specs.declared.rights.Rights.{Rights}
use Rattle.domains.specs.declared.classes.Node.{Node}
use Rattle.domains.specs.declared.classes.NodeClass.{NodeClass}
use Rattle.domains.specs.declared.faults.CatFault.{CatFault}
use Rattle.domains.specs.Contents.{Contents, HasChildren, IsCatalogue, IsDomainAt, class_at, most_nodes}
use Rattle.domains.specs.Changes.{entry_put, node_with, without_node}
use Rattle.domains.proofs.Puts.{IsOther, class_elsewhere, class_here, get_elsewhere, get_here, other_differs, same_or_other}
use Rattle.containers.proofs.TextMaps.TextOrders.{itself}

-- catalogues whose nodes have the same classes
alike : (c d : Contents) → ((q : List ℕ) → class_at d q ≡ class_at c q) → len d.nodes ≤ most_nodes → d.next ≡ c.next → IsCatalogue c → IsCatalogue d
alike c d same few next valid = record {
  root = same root_path ∙ valid.root;
  paths = λ q there. valid.paths q (subst IsSome (same q) there);
  parents = λ q there. same (parent_of q) ∙ valid.parents q (subst IsSome (same q) there);
  few = few;
  below = λ q number id at. subst (λ n. number < n) (sym next) (valid.below q number id (sym (same q) ∙ at));
  fits = subst (λ n. n ≤ 2 ^ 48) (sym next) valid.fits;
  roots = λ q number id at. valid.roots q number id (sym (same q) ∙ at);
  distinct = λ q r number id own at that. valid.distinct q r number id own (sym (same q) ∙ at) (sym (same r) ∙ that);
}

-- another next number
pub next-valid : (c : Contents) (next : ℕ) → ((path : List ℕ) (number : ℕ) (root : Id) → IsDomainAt c path number root → number < next) → next ≤ 2 ^ 48 → IsCatalogue c
    → IsCatalogue (record { nodes = c.nodes; next = next })
next-valid c next above fits valid = record {
  root = valid.root;
  paths = valid.paths;
  parents = valid.parents;
  few = valid.few;
  below = above;
  fits = fits;
  roots = valid.roots;
  distinct = valid.distinct;
}

len_same : (m : FinMap text_order Node) (k : List ℕ) (old new : Node) → get m k ≡ Some old → len (insert m k new) ≡ len m
len_same m k old new e = len-insert nat_list_cmp_total m k new ∙ ap (λ o. cond (is_some o) (len m) (len m + 1)) e

-- the node that stands there, put there
pub insert_same : (m : FinMap text_order Node) (k : List ℕ) (v : Node) → get m k ≡ Some v → insert m k v ≡ m
insert_same m k v e = same_map nat_list_cmp_total exact_texts _ _ (λ q. ⊎_elim
    (λ same. ap (get (insert m k v)) same ∙ get_here m k v ∙ sym e ∙ ap (get m) (sym same))
    (λ far. get_elsewhere m k v q far)
    (same_or_other q k))

entry_class : (c : Contents) (path name : List ℕ) (rights : Rights) (old : Node) → get c.nodes path ≡ Some old → (q : List ℕ)
    → class_at (record { nodes = insert c.nodes path (node_with old name rights); next = c.next }) q ≡ class_at c q
entry_class c path name rights old e q = ⊎_elim
    (λ same. ap (class_at (record { nodes = insert c.nodes path (node_with old name rights); next = c.next })) same ∙ class_here c path (node_with old name rights)
    ∙ sym (ap (option_map (λ n. n.class)) e) ∙ ap (class_at c) (sym same))
    (λ far. class_elsewhere c path (node_with old name rights) q far)
    (same_or_other q path)

entry-valid : (c : Contents) (path name : List ℕ) (rights : Rights) (o : Option Node) → get c.nodes path ≡ o → IsCatalogue c
    → IsCatalogue (record { nodes = entry_put c.nodes path o name rights; next = c.next })
entry-valid c path name rights None e valid = valid
entry-valid c path name rights (Some old) e valid =
    alike c _ (entry_class c path name rights old e) (subst (λ n. n ≤ most_nodes) (sym (len_same c.nodes path old (node_with old name rights) e)) valid.few) refl valid

-- an entry that was put, or not
pub entry_kept : {A : Type 0} (r : Result A CatFault) (c : Contents) (path name : List ℕ) (rights : Rights) (nodes : FinMap text_order Node) → IsCatalogue c
    → OnOk r (nodes ≡ entry_put c.nodes path (get c.nodes path) name rights) → OnErr r (nodes ≡ c.nodes) → IsCatalogue (record { nodes = nodes; next = c.next })
entry_kept (Ok x) c path name rights nodes valid ok err =
    let Valid : FinMap text_order Node → Type 0 = λ m. IsCatalogue (record { nodes = m; next = c.next }) in
    subst Valid (sym ok) (entry-valid c path name rights (get c.nodes path) refl valid)
entry_kept (Err e) c path name rights nodes valid ok err =
    let Valid : FinMap text_order Node → Type 0 = λ m. IsCatalogue (record { nodes = m; next = c.next }) in
    subst Valid (sym err) valid

module _ (c : Contents) (path : List ℕ) where
  gone_here : (q : List ℕ) → q ≡ path → class_at (without_node c path) q ≡ None
  gone_here q same =
      ap (class_at (without_node c path)) same
      ∙ ap (option_map (λ n. n.class)) (get-remove nat_list_cmp_total c.nodes path path ∙ ap (λ b. cond b None (get c.nodes path)) (itself path))

  left_elsewhere : (q : List ℕ) → IsOther q path → class_at (without_node c path) q ≡ class_at c q
  unfolding IsOther
  left_elsewhere q far = ap (option_map (λ n. n.class)) (get-remove nat_list_cmp_total c.nodes path q ∙ ap (λ b. cond b None (get c.nodes q)) far)

  is_left : (q : List ℕ) → IsSome (class_at (without_node c path) q) → IsOther q path
  is_left q there = ⊎_elim (λ same. absurd (true≢false (sym there ∙ ap is_some (gone_here q same)))) (λ far. far) (same_or_other q path)

  was_there : (q : List ℕ) → IsSome (class_at (without_node c path) q) → IsSome (class_at c q)
  was_there q there = subst IsSome (left_elsewhere q (is_left q there)) there

  was_class : (q : List ℕ) (class : NodeClass) → class_at (without_node c path) q ≡ Some class → class_at c q ≡ Some class
  was_class q class at = sym (left_elsewhere q (is_left q (ap is_some at))) ∙ at

  -- a node that isn't `/` and has no children is removed
  pub without_node-valid : IsCatalogue c → path ≢ root_path → (HasChildren c path → ⊥) → IsCatalogue (without_node c path)
  without_node-valid valid below childless = record {
    root = ⊎_elim (λ same. absurd (below (sym same))) (λ far. left_elsewhere root_path far ∙ valid.root) (same_or_other root_path path);
    paths = λ q there. valid.paths q (was_there q there);
    parents = λ q there. ⊎_elim
        (λ same. absurd (childless (q, same, other_differs q path (is_left q there), was_there q there)))
        (λ far. left_elsewhere (parent_of q) far ∙ valid.parents q (was_there q there))
        (same_or_other (parent_of q) path);
    few = remove_most most_nodes c.nodes path valid.few;
    below = λ q number id at. valid.below q number id (was_class q _ at);
    fits = valid.fits;
    roots = λ q number id at. valid.roots q number id (was_class q _ at);
    distinct = λ q r number id own at that. valid.distinct q r number id own (was_class q _ at) (was_class r _ that);
  }
