-- What a walk begins with and ends in.
use Rattle.std.proofs.Common.{◌≡◌, ◌≢◌, ℕ, ◌+◌, ◌<◌, true, false, cond, ◌&&◌, not, nat_le, List, [], ◌∷◌, Option, Some, None, IsSome, is_some, refl, sym, ap, subst, ◌∙◌}
use denote.Ref.{Bor}
use Rattle.std.specs.Option.{option_copied}
use Rattle.std.proofs.lemmas.Bool.{and_parts, eqb-true, both_ways, not-true}
use Rattle.std.specs.Cmp.Lexicographic.{nat_list_cmp_total}
use Rattle.std.specs.FinMap.{empty, get, get-empty, get-insert, len, len-empty, len-insert}
use Rattle.std.specs.Ordering.{eq_by_cmp}
use Rattle.std.proofs.lemmas.Option.{none-some, same_Some}
use Rattle.containers.specs.TextMaps.Keyed.{text_order}
use Rattle.flush_journal.specs.Records.{Held, Record}
use Rattle.object_ids.specs.IdValues.{Id}
use Rattle.object_ids.specs.Paths.{path_of, root_path}
use Rattle.domains.specs.Contents.{Contents, IsDomainAt, IsNumberFree, IsPlace, only_root, with_node}
use Rattle.domains.specs.declared.classes.Node.{Node}
use Rattle.domains.specs.declared.classes.NodeClass.{NodeClass}
use Rattle.domains.specs.declared.classes.NodeClass.TheVariants.{Folder, Domain}
use Rattle.object_records.specs.Keys.Keys.{node_key}
use Rattle.domains.specs.Records.Nodes.{node_of_body}
use Rattle.domains.specs.declared.records.faults.NodeFault.{NodeFault}
use Rattle.domains.specs.declared.records.faults.NodeFault.TheVariants as of_nodes
use Rattle.containers.proofs.TextMaps.Fronts.{all_held}
use Rattle.containers.proofs.Passing.{by_bool, contrary}
use Rattle.register.specs.Installed.Registers.{DescribesRegister, IsNextNumber, IsNodeRecord, IsRun, KeepsNumber, is_node_key, node_at}
use Rattle.register.specs.Installed.Walks.{AreRoots, Blames, IsNodeWalk, PutsNode, Roots, is_given, may_stand, number_id, with_root}
use Rattle.register.proofs.OfInstalled.NodeWalks.{IsRooted, body_of_node, class_of, node_of_class}
use Rattle.containers.proofs.TextMaps.TextOrders.{same_key, unlike, differ}

pub copied_some : {A : Type 0} (o : Option (Bor A)) (p : Option A) → option_copied o ≡ p → is_some o ≡ true → IsSome p
copied_some None p e s = cc
copied_some {A = A} (Some b) p e s = subst (λ (q : Option A). IsSome q) e refl

pub copied_none : {A : Type 0} (o : Option (Bor A)) (p : Option A) → option_copied o ≡ p → is_some o ≡ false → p ≡ None
copied_none None p e s = sym e
copied_none (Some b) p e s = cc

pub blames : {P Q : Type 0} (f : NodeFault) → Blames f P → (P → Q) → Blames f Q
blames of_nodes.BadNode h f = f h
blames of_nodes.NoMemory h f = tt

pub rooted_by : (held : Held) (root : Node) → node_at held root_path ≡ Some root → root.class ≡ Folder → IsRooted held
rooted_by held root told class = ap class_of told ∙ ap (λ x. Some x) class

pub key_of_node : (key : List ℕ) → is_node_key key ≡ true → (path : List ℕ) × (key ≡ node_key path)
key_of_node [] e = contrary false _ e refl
key_of_node (b ∷ bs) e = (bs, ap (λ x. x ∷ bs) (eqb-true b 2 e))

-- ---- the first catalogue

module _ (c c' : Contents) (x root : Node) (path : List ℕ) (begins : c ≡ only_root x) where
  alone : (q : List ℕ) → get c.nodes q ≡ cond (eq_by_cmp text_order q root_path) (Some x) None
  alone q = ap (λ (d : Contents). get d.nodes q) begins ∙ get-insert nat_list_cmp_total empty root_path x q ∙ ap (cond (eq_by_cmp text_order q root_path) (Some x)) (get-empty text_order q)

  pub one_alone : len c.nodes ≡ 1
  one_alone = ap (λ (d : Contents). len d.nodes) begins ∙ len-insert nat_list_cmp_total empty root_path x ∙ at (get empty root_path) (get-empty text_order root_path) where
    at : (o : Option Node) → o ≡ None → cond (is_some o) (len {R = text_order} (empty {X = Node})) (len {R = text_order} (empty {X = Node}) + 1) ≡ 1
    at None e = ap (λ n. n + 1) (len-empty text_order Node)
    at (Some y) e = absurd (none-some y (sym e))

  module _ (is_root : path ≡ root_path) (put : c' ≡ with_node c path root) where
    got : (q : List ℕ) → get c'.nodes q ≡ cond (eq_by_cmp text_order q root_path) (Some root) (get c.nodes q)
    got q = ap (λ (d : Contents). get d.nodes q) (put ∙ ap (λ p. with_node c p root) is_root) ∙ get-insert nat_list_cmp_total c.nodes root_path root q

    self_root : eq_by_cmp text_order root_path root_path ≡ true
    self_root = by_bool (eq_by_cmp text_order root_path root_path) _ (λ y. y) (λ n. absurd (differ root_path root_path n refl))

    pub begun_root : get c'.nodes root_path ≡ Some root
    begun_root = got root_path ∙ ap (λ b. cond b (Some root) (get c.nodes root_path)) self_root

    pub begun_others : (q : List ℕ) → q ≢ root_path → get c'.nodes q ≡ None
    begun_others q other = let apart = unlike q root_path other in
        got q ∙ ap (λ b. cond b (Some root) (get c.nodes q)) apart ∙ alone q ∙ ap (λ b. cond b (Some x) None) apart

    pub begun_one : len c'.nodes ≡ 1
    begun_one = ap (λ (d : Contents). len d.nodes) (put ∙ ap (λ p. with_node c p root) is_root) ∙ len-insert nat_list_cmp_total c.nodes root_path root
        ∙ at (get c.nodes root_path) (alone root_path ∙ ap (λ b. cond b (Some x) None) self_root) where
          at : (o : Option Node) → o ≡ Some x → cond (is_some o) (len c.nodes) (len c.nodes + 1) ≡ 1
          at None e = absurd (none-some x e)
          at (Some y) e = one_alone

-- ---- a node

pub number_unused : (c : Contents) (roots : Roots) (run : ℕ) (next : Option ℕ) (path : List ℕ) (class : NodeClass) → AreRoots c roots → may_stand run next roots class ≡ true → IsNumberFree c path class
number_unused c roots run next path Folder are stands = tt
number_unused c roots run next path (Domain number id) are stands = λ other id' there. absurd (both_ways (is_some (get roots (number_id number))) (not-true _ halves.1) (are.all other number id' there)) where
  halves : (nat_le id.run run && is_given next number ≡ true) × (not (is_some (get roots (number_id number))) ≡ true)
  halves = and_parts (nat_le id.run run && is_given next number) (not (is_some (get roots (number_id number)))) stands

pub puts : (run : ℕ) (next : Option ℕ) (path p body : List ℕ) (c : Contents) (roots : Roots) (c' : Contents) (roots' : Roots) (node : Node) → path_of path ≡ Some path → path_of path ≡ Some p
    → node_of_body body ≡ Some node → IsPlace c p → may_stand run next roots node.class ≡ true → c' ≡ with_node c p node → roots' ≡ with_root roots node.class → PutsNode run next path body c roots c' roots'
puts run next path p body c roots c' roots' node canonical spelled reads place stands put root = record {
  node = node;
  reads = reads;
  place = subst (λ (q : List ℕ). IsPlace c q) same place;
  stands = stands;
  put = ap (λ (d : Contents). d.nodes) (put ∙ ap (λ q. with_node c q node) same);
  root = root;
} where
  same : p ≡ path
  same = same_Some p path (sym spelled ∙ canonical)

-- ---- the end

pub end_nodes : (held : Held) (rest : List Record) (c : Contents) (roots : Roots) → IsNodeWalk held rest c roots → rest ≡ [] → (path : List ℕ) → get c.nodes path ≡ node_at held path
end_nodes held rest c roots w none path = by_bool (eq_by_cmp text_order path root_path) (get c.nodes path ≡ node_at held path)
    (λ same. let at = same_key path root_path same in ap (get c.nodes) at ∙ w.root ∙ ap (node_at held) (sym at))
    (λ other. w.nodes path (differ path root_path other) ∙ ap (λ (m : Held). node_at m path) (all_held held w.front rest w.split none))

pub end_rules : (held : Held) (rest : List Record) (c : Contents) (roots : Roots) → IsNodeWalk held rest c roots → rest ≡ [] → (path body : List ℕ) → get held (node_key path) ≡ Some body → IsNodeRecord held path body
end_rules held rest c roots w none path body there = w.rules path body (ap (λ (m : Held). get m (node_key path)) (all_held held w.front rest w.split none) ∙ there)

pub given_number : (held : Held) (c : Contents) (next : ℕ) → IsNextNumber held next → ((path : List ℕ) → get c.nodes path ≡ node_at held path) → ((path body : List ℕ) → get held (node_key path) ≡ Some body → IsNodeRecord held path body)
    → (path : List ℕ) (number : ℕ) (id : Id) → IsDomainAt c path number id → number < next
given_number held c next is_next nodes rules path number id there =
    let told = node_of_class (node_at held path) (Domain number id) (sym (ap class_of (nodes path)) ∙ there) in
    let body = body_of_node (get held (node_key path)) told.0 told.1 in
    let r = rules path body.0 body.1 in
    let same : r.node ≡ told.0 = same_Some r.node told.0 (sym r.reads ∙ body.2) in
    (subst (λ (class : NodeClass). KeepsNumber held path class) (ap (λ (n : Node). n.class) same ∙ told.2) r.number).given next is_next

pub described : (held : Held) (run next : ℕ) (c c' : Contents) → IsRun held run → IsNextNumber held next → ((path : List ℕ) → get c.nodes path ≡ node_at held path) → IsRooted held
    → ((path body : List ℕ) → get held (node_key path) ≡ Some body → IsNodeRecord held path body) → c' ≡ record c { next = next } → DescribesRegister held run c'
described held run next c c' is_run is_next nodes root rules set = subst (λ (d : Contents). DescribesRegister held run d) (sym set) (record { kept = is_run; next = is_next; nodes = nodes; root = root; rules = rules })
