-- What is held of a register of which nothing is marked describes it.
use Rattle.std.proofs.Common.{◌≡◌, ◌≢◌, inl, inr, ℕ, ◌+◌, ◌<◌, ◌≤◌, ◌&&◌, ◌||◌, T, Bool, true, false, cond, List, [], ◌∷◌, ◌++◌, drop, Option, Some, None, is_some, IsSome, option_map, Less, Equal, refl, sym, ap, subst, ◌∙◌, arith}
use Rattle.std.proofs.lemmas.Bool.{eqb-true}
use Rattle.std.proofs.lemmas.Cmp.{tied_itself}
use Rattle.std.proofs.lemmas.List.Sums.{sum_by-cons}
use Rattle.std.specs.Cmp.Lexicographic.{nat_list_cmp_total}
use Rattle.std.specs.FinMap.{FinMap, contains_key, entries, entries_sorted, find, get, get-empty, get-entries, get-insert, get-remove, insert, is_sorted, len, len-insert, remove, same_map}
use Rattle.std.specs.FinMap.Entries.{below_all}
use Rattle.std.specs.Ordering.{eq_by_cmp, is_lt}
use Rattle.std.specs.Prelude.{option_and_then}
use Rattle.containers.specs.TextMaps.Keyed.{text_order}
use Rattle.containers.proofs.TextMaps.KeyedMaps.{exact_texts}
use Rattle.flush_journal.specs.Records.{Held, Record}
use Rattle.flush_journal.proofs.PutLemmas.{tied}
use Rattle.object_ids.specs.Paths.{parent_of, root_path}
use Rattle.domains.specs.Contents.{IsCatalogue, class_at as class_in, most_nodes}
use Rattle.domains.specs.declared.classes.Node.{Node}
use Rattle.domains.specs.declared.classes.NodeClass.{NodeClass}
use Rattle.domains.specs.declared.classes.NodeClass.TheVariants.{Folder, Domain}
use Rattle.object_records.specs.Keys.Keys.{node_key}
use Rattle.domains.specs.Records.Nodes.{node_of_body}
use Rattle.register.specs.Installed.Registers.{DescribesRegister, IsNextNumber, IsNodeRecord, IsRun, KeepsNumber, class_at, count_nodes, is_node_key, node_at}
use Rattle.register.proofs.OfInstalled.NodeWalks.{one_next}
use Rattle.register.specs.Marks.{Marked, no_marks}
use Rattle.register.specs.Decided.{IsRegister, RegisterState}
use Rattle.register.specs.Kept.{AreTexts, IsHeldNode, RegisterSays, is_marked, is_marked_in}
use Rattle.register.specs.Cutting.{IsAmong}
use Rattle.register.proofs.Installing.{one_run}
use Rattle.containers.proofs.Passing.{by_bool, contrary}
use Rattle.containers.proofs.Plain.{halves}
use Rattle.containers.proofs.TextMaps.TextOrders.{itself}

-- ---- how many records of nodes stand before one

as_node : (key : List ℕ) → is_node_key key ≡ true → key ≡ node_key (drop 1 key)
as_node [] e = contrary false ([] ≡ node_key []) e refl
as_node (b ∷ path) e = ap (λ (x : ℕ). x ∷ path) (eqb-true b 2 e)

not_below : (key : List ℕ) (es : List Record) → T (below_all text_order key es) → IsAmong key es → ⊥
not_below key [] h among = among
not_below key (e ∷ es) h (inl same) = subst T (ap (λ (k : List ℕ). is_lt (text_order key k)) same ∙ ap is_lt (tied_itself nat_list_cmp_total key)) (halves (is_lt (text_order key e.0)) (below_all text_order key es) h).0
not_below key (e ∷ es) h (inr later) = not_below key es (halves (is_lt (text_order key e.0)) (below_all text_order key es) h).1 later

among_found : (key : List ℕ) (es : List Record) → IsAmong key es → is_some (find text_order key es) ≡ true
among_found key [] among = absurd among
among_found key (e ∷ es) among = at (among_found key es) (eq_by_cmp text_order key e.0) refl among where
  at : (IsAmong key es → is_some (find text_order key es) ≡ true) → (b : Bool) → eq_by_cmp text_order key e.0 ≡ b → IsAmong key (e ∷ es) → is_some (cond b (Some e.1) (find text_order key es)) ≡ true
  at again true t among = refl
  at again false t (inl same) = contrary (eq_by_cmp text_order key e.0) (is_some (find text_order key es) ≡ true) (ap (eq_by_cmp text_order key) same ∙ itself key) t
  at again false t (inr later) = again later

module _ {V : Type 0} where
  taken_out : (m : FinMap text_order V) (path : List ℕ) → contains_key (remove m path) path ≡ false
  taken_out m path = ap is_some (get-remove nat_list_cmp_total m path path) ∙ ap (λ b. is_some (cond b None (get m path))) (itself path)

  put_back : (m : FinMap text_order V) (path : List ℕ) (v : V) → get m path ≡ Some v → insert (remove m path) path v ≡ m
  put_back m path v there = same_map nat_list_cmp_total exact_texts _ _ (λ q. get-insert nat_list_cmp_total (remove m path) path v q
      ∙ ap (λ o. cond (eq_by_cmp text_order q path) (Some v) o) (get-remove nat_list_cmp_total m path q) ∙ at q (eq_by_cmp text_order q path) refl) where
        at : (q : List ℕ) (b : Bool) → eq_by_cmp text_order q path ≡ b → cond b (Some v) (cond b None (get m q)) ≡ get m q
        at q true t = sym (ap (get m) (tied q path t) ∙ there)
        at q false t = refl

  len_some : (m : FinMap text_order V) (path : List ℕ) → contains_key m path ≡ true → len (remove m path) + 1 ≡ len m
  len_some m path there = at (get m path) refl there where
    at : (o : Option V) → get m path ≡ o → is_some o ≡ true → len (remove m path) + 1 ≡ len m
    at None e some = contrary false (len (remove m path) + 1 ≡ len m) some refl
    at (Some v) e some = sym (ap (λ b. cond b (len (remove m path)) (len (remove m path) + 1)) (taken_out m path)) ∙ sym (len-insert nat_list_cmp_total (remove m path) path v) ∙ ap len (put_back m path v e)

  some_len : (m : FinMap text_order V) (path : List ℕ) → contains_key m path ≡ true → 0 < len m
  some_len m path there = let size = len_some m path there in omega (arith, size)

  still_there : (m : FinMap text_order V) (path q : List ℕ) → q ≢ path → contains_key m q ≡ true → contains_key (remove m path) q ≡ true
  still_there m path q other there = ap is_some (get-remove nat_list_cmp_total m path q) ∙ at (eq_by_cmp text_order q path) refl where
    at : (b : Bool) → eq_by_cmp text_order q path ≡ b → is_some (cond b None (get m q)) ≡ true
    at true t = absurd (other (tied q path t))
    at false t = there

-- so it is in each map that has their paths
abbrev IsFew : List ℕ → List ℕ → List Record → List Record → Type 0
IsFew path body rest front = (m : FinMap text_order Node) → T (is_sorted text_order (front ++ (node_key path, body) ∷ rest))
    → ((q : List ℕ) → IsAmong (node_key q) (front ++ (node_key path, body) ∷ rest) → contains_key m q ≡ true) → count_nodes front < len m

few : (path body : List ℕ) (rest front : List Record) (m : FinMap text_order Node) → T (is_sorted text_order (front ++ (node_key path, body) ∷ rest))
    → ((q : List ℕ) → IsAmong (node_key q) (front ++ (node_key path, body) ∷ rest) → contains_key m q ≡ true) → count_nodes front < len m
few path body rest [] m sorted h = some_len m path (h path (inl refl))
few path body rest (e ∷ front) m sorted h = by_bool (is_node_key e.0) (count_nodes (e ∷ front) < len m) (yes (few path body rest front)) (no (few path body rest front)) where
  below : T (below_all text_order e.0 (front ++ (node_key path, body) ∷ rest))
  below = (halves (below_all text_order e.0 (front ++ (node_key path, body) ∷ rest)) (is_sorted text_order (front ++ (node_key path, body) ∷ rest)) sorted).0

  later : T (is_sorted text_order (front ++ (node_key path, body) ∷ rest))
  later = (halves (below_all text_order e.0 (front ++ (node_key path, body) ∷ rest)) (is_sorted text_order (front ++ (node_key path, body) ∷ rest)) sorted).1

  count : count_nodes (e ∷ front) ≡ cond (is_node_key e.0) 1 0 + count_nodes front
  count = sum_by-cons (λ y. cond (is_node_key y.0) 1 0) e front

  no : IsFew path body rest front → is_node_key e.0 ≡ false → count_nodes (e ∷ front) < len m
  no again isnt =
      let less = again m later (λ q among. h q (inr among)) in
      let same : count_nodes (e ∷ front) ≡ 0 + count_nodes front = count ∙ ap (λ b. cond b 1 0 + count_nodes front) isnt in
      omega (arith, less, same)

  yes : IsFew path body rest front → is_node_key e.0 ≡ true → count_nodes (e ∷ front) < len m
  yes again is =
      let own : List ℕ = drop 1 e.0 in
      let key : e.0 ≡ node_key own = as_node e.0 is in
      let there : contains_key m own ≡ true = h own (inl key) in
      let other : (q : List ℕ) → IsAmong (node_key q) (front ++ (node_key path, body) ∷ rest) → q ≢ own =
      λ q among same. not_below e.0 (front ++ (node_key path, body) ∷ rest) below (subst (λ (k : List ℕ). IsAmong k (front ++ (node_key path, body) ∷ rest)) (ap node_key same ∙ sym key) among) in
      let less = again (remove m own) later (λ q among. still_there m own q (other q among) (h q (inr among))) in
      let size = len_some m own there in
      let same : count_nodes (e ∷ front) ≡ 1 + count_nodes front = count ∙ ap (λ b. cond b 1 0 + count_nodes front) is in
      fits (count_nodes (e ∷ front)) (count_nodes front) (len (remove m own)) (len m) less size same where
        fits : (all some left most : ℕ) → some < left → left + 1 ≡ most → all ≡ 1 + some → all < most
        fits all some left most less size same = omega (arith, less, size, same)

-- ---- what is held

none_body : {P : Type 0} (x : List ℕ) → None ≡ Some x → P
none_body x e = absurd (cc)

module _ (d : RegisterState) (held : Held) (marks : d.marks ≡ no_marks) (register : IsRegister d) (valid : IsCatalogue d.catalogue) (texts : AreTexts d.catalogue) (says : RegisterSays d held) where
  unmarked : (path : List ℕ) → is_marked d path ≡ false
  unmarked path = ap (λ (m : Marked). is_marked_in d.catalogue m path) marks ∙ ap (λ b. b || (false && contains_key d.catalogue.nodes path)) (ap is_some (get-empty text_order path))

  run_kept : IsRun held d.run
  run_kept = record { small = register.run; here = says.run (ap (λ (m : Marked). m.run) marks) }

  next_kept : IsNextNumber held d.catalogue.next
  next_kept = record { small = valid.fits; here = says.next (ap (λ (m : Marked). m.next) marks) }

  said_node : (path : List ℕ) (o : Option Node) → IsHeldNode o (get held (node_key path)) → o ≡ node_at held path
  said_node path None h = sym (ap (option_and_then node_of_body) h)
  said_node path (Some node) h = sym h

  nodes_kept : (path : List ℕ) → get d.catalogue.nodes path ≡ node_at held path
  nodes_kept path = said_node path (get d.catalogue.nodes path) (says.nodes path (unmarked path))

  class_kept : (path : List ℕ) → class_in d.catalogue path ≡ class_at held path
  class_kept path = ap (option_map (λ (n : Node). n.class)) (nodes_kept path)

  there : (path body : List ℕ) → get held (node_key path) ≡ Some body → (node : Node) × (get d.catalogue.nodes path ≡ Some node) × (node_of_body body ≡ Some node)
  there path body here = at (get d.catalogue.nodes path) refl (says.nodes path (unmarked path)) where
    at : (o : Option Node) → get d.catalogue.nodes path ≡ o → IsHeldNode o (get held (node_key path)) → (node : Node) × (get d.catalogue.nodes path ≡ Some node) × (node_of_body body ≡ Some node)
    at None e h = none_body body (sym h ∙ here)
    at (Some node) e h = (node, e, sym (ap (option_and_then node_of_body) here) ∙ h)

  number_kept : (path : List ℕ) (class : NodeClass) → class_in d.catalogue path ≡ Some class → KeepsNumber held path class
  number_kept path Folder at = tt
  number_kept path (Domain number root) at = record {
    made = λ run is. subst (λ (n : ℕ). root.run ≤ n) (one_run held d.run run run_kept is) (register.roots path number root at).run;
    given = λ next is. subst (λ (n : ℕ). number < n) (one_next held d.catalogue.next next next_kept is) (valid.below path number root at);
    free = λ other id less e. never (valid.distinct other path number id root (class_kept other ∙ e) at) less;
  } where
    never : {other : List ℕ} → other ≡ path → text_order other path ≡ Less → ⊥
    never same less = absurd (let tie : Equal ≡ Less = sym (ap (λ (q : List ℕ). text_order q path) same ∙ tied_itself nat_list_cmp_total path) ∙ less in cc)

  among_nodes : (q : List ℕ) → IsAmong (node_key q) (entries held) → contains_key d.catalogue.nodes q ≡ true
  among_nodes q among = at (get held (node_key q)) refl (ap is_some (get-entries held (node_key q)) ∙ among_found (node_key q) (entries held) among) where
    at : (o : Option (List ℕ)) → get held (node_key q) ≡ o → is_some (get held (node_key q)) ≡ true → contains_key d.catalogue.nodes q ≡ true
    at None e some = contrary (is_some (get held (node_key q))) (contains_key d.catalogue.nodes q ≡ true) some (ap is_some e)
    at (Some body) e some = ap is_some (there q body e).1

  room_kept : (path body : List ℕ) (front rest : List Record) → entries held ≡ front ++ (node_key path, body) ∷ rest → count_nodes front < most_nodes
  room_kept path body front rest split =
      let less = few path body rest front d.catalogue.nodes (subst (λ (es : List Record). T (is_sorted text_order es)) split (entries_sorted held))
      (λ q among. among_nodes q (subst (λ (es : List Record). IsAmong (node_key q) es) (sym split) among)) in
      let most = valid.few in omega (arith, less, most)

  record_kept : (path body : List ℕ) → get held (node_key path) ≡ Some body → IsNodeRecord held path body
  record_kept path body here =
      let t = there path body here in
      let some : IsSome (get d.catalogue.nodes path) = ap is_some t.1 in
      let class : class_in d.catalogue path ≡ Some t.0.class = ap (option_map (λ (n : Node). n.class)) t.1 in
      record {
        canonical = record { utf8 = texts path some; canonical = valid.paths path (ap is_some class) };
        parent = sym (class_kept (parent_of path)) ∙ valid.parents path (ap is_some class);
        node = t.0;
        reads = t.2;
        number = number_kept path t.0.class class;
        room = room_kept path body;
      }

  pub described : DescribesRegister held d.run d.catalogue
  described = record {
    kept = run_kept;
    next = next_kept;
    nodes = nodes_kept;
    root = sym (class_kept root_path) ∙ valid.root;
    rules = record_kept;
  }
