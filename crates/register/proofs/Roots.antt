-- The roots of domains were given out before, also once the catalogue has changed.
use Rattle.std.proofs.Common.{◌≡◌, ◌⊎◌, inl, inr, ⊎_elim, ℕ, ◌+◌, cond, is_some, List, Option, Some, None, option_map, refl, ap, sym, subst, ◌∙◌, arith, true≢false}
use Rattle.std.specs.Cmp.Lexicographic.{nat_list_cmp_total}
use Rattle.std.specs.FinMap.{empty, get, insert, get-empty, get-remove}
use Rattle.std.proofs.lemmas.Option.{same_Some}
use Rattle.containers.specs.TextMaps.Keyed.{text_order}
use Rattle.object_ids.specs.IdValues.{Id}
use Rattle.object_ids.specs.Paths.{root_path}
use Rattle.access_lists.specs.declared.rights.Rights.{Rights}
use Rattle.domains.specs.declared.classes.Node.{Node}
use Rattle.domains.specs.declared.classes.NodeClass.{NodeClass}
use Rattle.domains.specs.declared.classes.NodeClass.TheVariants.{Folder, Domain}
use Rattle.domains.specs.Changes.{entry_put, new_domain, new_node, node_with, root_of, with_entry, without_node}
use Rattle.domains.specs.Contents.{Contents, IsDomainAt, class_at, only_root, with_node}
use Rattle.domains.proofs.Puts.{IsOther, class_elsewhere, class_here, same_or_other}
use Rattle.register.specs.Decided.{AreGivenOut, IsGivenOut}
use Rattle.containers.proofs.TextMaps.TextOrders.{itself}

-- ---- a serial more

pub later : (run serial : ℕ) (id : Id) → IsGivenOut run serial id → IsGivenOut run (serial + 1) id
later run serial id h = record { run = h.run; serial = λ same. omega (arith, h.serial same) }

pub all_later : (c : Contents) (run serial : ℕ) → AreGivenOut c run serial → AreGivenOut c run (serial + 1)
all_later c run serial h path number root at = later run serial root (h path number root at)

-- ---- another catalogue

-- a domain after a node is put is that node, or was there
pub put_domain_was : (c : Contents) (path : List ℕ) (node : Node) (q : List ℕ) (number : ℕ) (root : Id) → IsDomainAt (with_node c path node) q number root
    → (node.class ≡ Domain number root) ⊎ IsDomainAt c q number root
put_domain_was c path node q number root at =
    ⊎_elim
    (λ same. inl (same_Some node.class (Domain number root) (sym (class_here c path node) ∙ ap (class_at (with_node c path node)) (sym same) ∙ at)))
    (λ far. inr (sym (class_elsewhere c path node q far) ∙ at))
    (same_or_other q path)
  where
    class_or : NodeClass → Option NodeClass → NodeClass
    class_or x None = x
    class_or x (Some y) = y

pub with_folder : (c : Contents) (path owner : List ℕ) (run serial : ℕ) → AreGivenOut c run serial → AreGivenOut (with_node c path (new_node Folder owner)) run serial
with_folder c path owner run serial h q number root at =
    ⊎_elim (λ e. absurd (let none : Folder ≡ Domain number root = e in cc)) (λ was. h q number root was) (put_domain_was c path (new_node Folder owner) q number root at)

pub with_domain : (c : Contents) (path owner : List ℕ) (run serial : ℕ) → AreGivenOut c run serial → AreGivenOut (with_node c path (new_domain c.next run serial owner)) run (serial + 1)
with_domain c path owner run serial h q number root at =
    ⊎_elim
    (λ e. let own : root_of c.next run serial ≡ root = (let d : Domain c.next (root_of c.next run serial) ≡ Domain number root = e in cc) in
    subst (IsGivenOut run (serial + 1)) own (record { run = omega arith; serial = λ _. omega arith }))
    (λ was. later run serial root (h q number root was))
    (put_domain_was c path (new_domain c.next run serial owner) q number root at)

pub was_class : (c : Contents) (path q : List ℕ) (class : NodeClass) → class_at (without_node c path) q ≡ Some class → class_at c q ≡ Some class
unfolding IsOther
was_class c path q class at =
    ⊎_elim
    (λ same. absurd (true≢false (sym (ap is_some at) ∙ ap is_some (ap (class_at (without_node c path)) same
    ∙ ap (option_map (λ n. n.class)) (get-remove nat_list_cmp_total c.nodes path path ∙ ap (λ b. cond b None (get c.nodes path)) (itself path))))))
    (λ far. sym (ap (option_map (λ n. n.class)) (get-remove nat_list_cmp_total c.nodes path q ∙ ap (λ b. cond b None (get c.nodes q)) far)) ∙ at)
    (same_or_other q path)

pub without : (c : Contents) (path : List ℕ) (run serial : ℕ) → AreGivenOut c run serial → AreGivenOut (without_node c path) run serial
without c path run serial h q number root at = h q number root (was_class c path q (Domain number root) at)

pub entry_class : (c : Contents) (path name : List ℕ) (rights : Rights) (o : Option Node) → get c.nodes path ≡ o → (q : List ℕ)
    → class_at (record { nodes = entry_put c.nodes path o name rights; next = c.next }) q ≡ class_at c q
entry_class c path name rights None e q = refl
entry_class c path name rights (Some old) e q = ⊎_elim
    (λ same. ap (class_at (record { nodes = insert c.nodes path (node_with old name rights); next = c.next })) same ∙ class_here c path (node_with old name rights)
    ∙ sym (ap (option_map (λ n. n.class)) e) ∙ ap (class_at c) (sym same))
    (λ far. class_elsewhere c path (node_with old name rights) q far)
    (same_or_other q path)

pub with_list : (c : Contents) (path name : List ℕ) (rights : Rights) (run serial : ℕ) → AreGivenOut c run serial → AreGivenOut (with_entry c path name rights) run serial
with_list c path name rights run serial h q number root at = h q number root (sym (entry_class c path name rights (get c.nodes path) refl q) ∙ at)

-- ---- no domain yet

nothing_at : (q : List ℕ) (class : NodeClass) → class_at (record { nodes = empty; next = 1 }) q ≡ Some class → ⊥
nothing_at q class at = true≢false (ap is_some (sym at ∙ ap (option_map (λ n. n.class)) (get-empty text_order q)))

-- the folder `/` alone has no domain
pub with_root : (node : Node) → node.class ≡ Folder → (run serial : ℕ) → AreGivenOut (only_root node) run serial
with_root node folder run serial q number root at =
    ⊎_elim
    (λ e. absurd (let none : Folder ≡ Domain number root = sym folder ∙ e in cc))
    (λ was. absurd (nothing_at q (Domain number root) was))
    (put_domain_was (record { nodes = empty; next = 1 }) root_path node q number root at)
