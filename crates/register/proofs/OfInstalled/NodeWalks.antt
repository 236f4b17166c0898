-- A walk over records that installs folders and domains.
use Rattle.std.proofs.Common.{◌≡◌, ◌≢◌, ℕ, ◌+◌, ◌<◌, ◌≤◌, ◌^◌, Bool, true, false, cond, ◌&&◌, not, nat_le, List, [], ◌∷◌, ◌++◌, T, Option, Some, None, IsSome, is_some, option_and_then, option_map, Less, refl, sym, ap, subst, ◌∙◌, arith}
use Rattle.std.specs.Int.{from_be_bytes, w64}
use Rattle.std.proofs.lemmas.Nat.{from_be_bytes-to_be_bytes_8}
use Rattle.std.proofs.lemmas.Bool.{and_from, and_parts, le-leb, leb-true, lt-ltb, ltb-true, both_ways, not-true}
use Rattle.std.specs.Cmp.{Equal-is}
use Rattle.std.specs.Cmp.Lexicographic.{nat_list_cmp_total}
use Rattle.std.specs.FinMap.{empty, entries, entries_sorted, get, get-empty, get-insert, is_sorted, len, len-insert}
use Rattle.std.specs.Ordering.{eq_by_cmp}
use Rattle.std.proofs.lemmas.Option.{none-some, same_Some}
use Rattle.containers.specs.TextMaps.Keyed.{text_order}
use Rattle.flush_journal.specs.Records.{Held, Record}
use Rattle.object_ids.specs.IdOrder.{id_order}
use Rattle.object_ids.specs.IdValues.{Id}
use Rattle.object_ids.specs.Paths.{parent_of, root_path}
use Rattle.object_ids.proofs.IdOrders.{id_order_once, id_order_total, itself}
use Rattle.domains.specs.Contents.{Contents, IsDomainAt, class_at as class_in, most_nodes}
use Rattle.domains.specs.declared.classes.Node.{Node}
use Rattle.domains.specs.declared.classes.NodeClass.{NodeClass}
use Rattle.domains.specs.declared.classes.NodeClass.TheVariants.{Folder, Domain}
use Rattle.object_records.specs.Keys.Keys.{IsPath, node_key}
use Rattle.object_records.specs.Keys.Numbers.{next_bytes}
use Rattle.domains.specs.Records.Nodes.{node_of_body}
use Rattle.containers.specs.TextMaps.Fronts.{held_by}
use Rattle.containers.proofs.TextMaps.Fronts.{held_before, held_here, new_key, nothing_held, said_else, said_here, split_more}
use Rattle.containers.proofs.Passing.{by_bool, contrary}
use Rattle.register.specs.Installed.Registers.{IsNextNumber, IsNodeRecord, IsRun, KeepsNumber, class_at, count_nodes, is_node_key, node_at}
use Rattle.register.specs.Installed.Walks.{AreRoots, IsNextOf, IsNodeWalk, NoPut, no_node, no_place, no_number, PutsNode, Roots, is_given, may_stand, number_id, one_without, with_root}
use Rattle.register.proofs.OfInstalled.NodeKeys.{count_more, front_less, key_path, one_split, other_kind}
use Rattle.containers.proofs.TextMaps.TextOrders.{same_key, unlike, differ}
use Rattle.object_ids.proofs.PathOrders.{root_before, parent_before}
use Rattle.register.proofs.Installing.{one_run}

abbrev pub class_of : Option Node → Option NodeClass
class_of o = option_map (λ node. node.class) o

-- a class is that of a node
pub node_of_class : (o : Option Node) (class : NodeClass) → class_of o ≡ Some class → (node : Node) × (o ≡ Some node) × (node.class ≡ class)
node_of_class None class e = absurd (none-some class e)
node_of_class (Some node) class e = (node, refl, same_Some node.class class e)

-- a node is what a body tells
pub body_of_node : (o : Option (List ℕ)) (node : Node) → option_and_then node_of_body o ≡ Some node → (body : List ℕ) × (o ≡ Some body) × (node_of_body body ≡ Some node)
body_of_node None node e = absurd (none-some node e)
body_of_node (Some body) node e = (body, refl, e)

pub never_some : {A : Type 0} (o : Option A) → o ≡ None → IsSome o → ⊥
never_some None e some = cc
never_some (Some x) e some = none-some x (sym e)

either : (b : Bool) (i : Id) (o : Option Id) → IsSome o → IsSome (cond b (Some i) o)
either true i o some = refl
either false i o some = some

same_number : (a b : ℕ) → eq_by_cmp id_order (number_id a) (number_id b) ≡ true → a ≡ b
same_number a b e = ap (λ (id : Id). id.domain) (id_order_once (number_id a) (number_id b) ((Equal-is (id_order (number_id a) (number_id b))).0 e))

same_own : (n : ℕ) (i : Id) (m : ℕ) (j : Id) → Domain n i ≡ Domain m j → n ≡ m
same_own n i m j e = cc

-- ---- one run and one number

pub one_next : (held : Held) (a b : ℕ) → IsNextNumber held a → IsNextNumber held b → a ≡ b
one_next held a b x y =
    sym (from_be_bytes-to_be_bytes_8 a (below a x.small)) ∙ ap (from_be_bytes w64) (same_Some (next_bytes a) (next_bytes b) (sym x.here ∙ y.here)) ∙ from_be_bytes-to_be_bytes_8 b (below b y.small) where
      below : (n : ℕ) → n ≤ 2 ^ 48 → n < 2 ^ 64
      below n small = omega arith

abbrev pub IsRooted : Held → Type 0
IsRooted held = class_at held root_path ≡ Some Folder

-- ---- nothing was walked over

no_node_yet : (path : List ℕ) → node_at (held_by []) path ≡ None
no_node_yet path = ap (option_and_then node_of_body) (nothing_held (node_key path))

only_root_there : (held : Held) (c : Contents) (root : Node) → node_at held root_path ≡ Some root → root.class ≡ Folder → get c.nodes root_path ≡ Some root → ((path : List ℕ) → path ≢ root_path → get c.nodes path ≡ None)
    → (path : List ℕ) (number : ℕ) (id : Id) → IsDomainAt c path number id → ⊥
only_root_there held c root told class there others path number id e = by_bool (eq_by_cmp text_order path root_path) ⊥
    (λ same. let c : Folder ≡ Domain number id = sym class ∙ same_Some root.class (Domain number id) (sym (ap class_of there) ∙ ap (λ q. class_in c q) (sym (same_key path root_path same)) ∙ e) in cc)
    (λ other. none-some (Domain number id) (sym (ap class_of (others path (differ path root_path other))) ∙ e))

pub walk_begin : (held : Held) (all : List Record) (c : Contents) (roots : Roots) (root : Node) → entries held ≡ all → node_at held root_path ≡ Some root → root.class ≡ Folder
    → get c.nodes root_path ≡ Some root → ((path : List ℕ) → path ≢ root_path → get c.nodes path ≡ None) → len c.nodes ≡ 1 → roots ≡ empty → IsNodeWalk held all c roots
walk_begin held all c roots root whole told class there others one none = record {
  front = [];
  split = whole;
  root = there ∙ sym told;
  nodes = λ path other. others path other ∙ sym (no_node_yet path);
  rules = λ path body e. absurd (none-some body (sym (nothing_held (node_key path)) ∙ e));
  count = one ∙ ap (λ o. count_nodes [] + one_without o) (sym (nothing_held (node_key root_path)));
  numbers = record {
    there = λ number some. absurd (not_there number some);
    all = λ path number id e. absurd (only_root_there held c root told class there others path number id e);
  };
} where
  not_there : (number : ℕ) → IsSome (get roots (number_id number)) → ⊥
  not_there number some = never_some (get roots (number_id number)) (ap (λ (m : Roots). get m (number_id number)) none ∙ get-empty id_order (number_id number)) some

-- ---- a record

module _ (held : Held) (rest : List Record) (e : Record) (c : Contents) (roots : Roots) (w : IsNodeWalk held (e ∷ rest) c roots) where
  abbrev after : Held
  after = held_by (w.front ++ e ∷ [])

  else_same : (path : List ℕ) → node_key path ≢ e.0 → get after (node_key path) ≡ get (held_by w.front) (node_key path)
  else_same path other = said_else held w.front rest e w.split (node_key path) other

  -- no node's
  pub walk_skip : is_node_key e.0 ≡ false → IsNodeWalk held rest c roots
  walk_skip isnt = record {
    front = w.front ++ e ∷ [];
    split = split_more held w.front rest e w.split;
    root = w.root;
    nodes = λ path other. w.nodes path other ∙ ap (option_and_then node_of_body) (sym (else_same path (other_kind path e.0 isnt)));
    rules = λ path body is. w.rules path body (sym (else_same path (other_kind path e.0 isnt)) ∙ is);
    count = w.count ∙ ap (λ o. count_nodes w.front + one_without o) (sym (else_same root_path (other_kind root_path e.0 isnt)))
        ∙ ap (λ n. n + one_without (get after (node_key root_path))) (no_more (count_nodes w.front) (is_node_key e.0) isnt ∙ sym (count_more w.front e));
    numbers = w.numbers;
  } where
    no_more : (n : ℕ) (b : Bool) → b ≡ false → n ≡ n + cond b 1 0
    no_more n true is = contrary true _ refl is
    no_more n false is = omega arith

  module _ (path : List ℕ) (fine : IsPath path) (key : node_key path ≡ e.0) where
    here_held : get held (node_key path) ≡ Some e.1
    here_held = ap (get held) key ∙ held_here held w.front rest e w.split

    more : count_nodes (w.front ++ e ∷ []) ≡ count_nodes w.front + 1
    more = count_more w.front e ∙ ap (λ k. count_nodes w.front + cond (is_node_key k) 1 0) (sym key)

    in_room : count_nodes w.front < most_nodes → (front' rest' : List Record) → entries held ≡ front' ++ (node_key path, e.1) ∷ rest' → count_nodes front' < most_nodes
    in_room room front' rest' split = subst (λ (xs : List Record). count_nodes xs < most_nodes) same room where
      same_pair : e ≡ (node_key path, e.1)
      same_pair = ap (λ k. (k, e.1)) (sym key)

      both : w.front ++ (node_key path, e.1) ∷ rest ≡ front' ++ (node_key path, e.1) ∷ rest'
      both = ap (λ (x : Record). w.front ++ x ∷ rest) (sym same_pair) ∙ sym w.split ∙ split

      same : w.front ≡ front'
      same = one_split w.front front' rest rest' (node_key path) e.1 e.1 (subst (λ (xs : List Record). T (is_sorted text_order xs)) (w.split ∙ ap (λ (x : Record). w.front ++ x ∷ rest) same_pair) (entries_sorted held)) both

    rules_more : IsNodeRecord held path e.1 → (q body : List ℕ) → get after (node_key q) ≡ Some body → IsNodeRecord held q body
    rules_more sound q body is = by_bool (eq_by_cmp text_order (node_key q) e.0) (IsNodeRecord held q body)
        (λ same. let at_key = same_key (node_key q) e.0 same in
        let one : e.1 ≡ body = same_Some e.1 body (sym (said_here held w.front rest e w.split) ∙ ap (get after) (sym at_key) ∙ is) in
        subst (λ (x : List ℕ). IsNodeRecord held x body) (key_path path q (key ∙ sym at_key)) (subst (λ (x : List ℕ). IsNodeRecord held path x) one sound))
        (λ other. w.rules q body (sym (else_same q (differ (node_key q) e.0 other)) ∙ is))

    -- ---- the root's

    module _ (rooted : IsRooted held) (is_root : path ≡ root_path) (few : len c.nodes ≤ most_nodes) where
      root_key : node_key root_path ≡ e.0
      root_key = ap node_key (sym is_root) ∙ key

      counted : len c.nodes ≡ count_nodes w.front + 1
      counted = w.count ∙ ap (λ o. count_nodes w.front + one_without o) (ap (get (held_by w.front)) root_key ∙ new_key held w.front rest e w.split)

      root_sound : IsNodeRecord held path e.1
      root_sound = let told = node_of_class (node_at held root_path) Folder rooted in
          let reads : node_of_body e.1 ≡ Some told.0 = ap (option_and_then node_of_body) (sym (ap (λ q. get held (node_key q)) (sym is_root) ∙ here_held)) ∙ told.1 in
          record {
            canonical = fine;
            parent = ap (λ q. class_at held (parent_of q)) is_root ∙ rooted;
            node = told.0;
            reads = reads;
            number = subst (λ (class : NodeClass). KeepsNumber held path class) (sym told.2) tt;
            room = in_room (omega (arith, counted, few));
          }

      pub walk_root : IsNodeWalk held rest c roots
      walk_root = record {
        front = w.front ++ e ∷ [];
        split = split_more held w.front rest e w.split;
        root = w.root;
        nodes = λ q other. w.nodes q other ∙ ap (option_and_then node_of_body) (sym (else_same q (λ same. other (key_path q root_path (same ∙ sym root_key)))));
        rules = rules_more root_sound;
        count = counted ∙ sym (more' ∙ none_left);
        numbers = w.numbers;
      } where
        more' : count_nodes (w.front ++ e ∷ []) + one_without (get after (node_key root_path)) ≡ (count_nodes w.front + 1) + one_without (get after (node_key root_path))
        more' = ap (λ n. n + one_without (get after (node_key root_path))) more

        none_left : (count_nodes w.front + 1) + one_without (get after (node_key root_path)) ≡ count_nodes w.front + 1
        none_left = ap (λ o. (count_nodes w.front + 1) + one_without o) (ap (get after) root_key ∙ said_here held w.front rest e w.split) ∙ plus_none (count_nodes w.front + 1) where
          plus_none : (n : ℕ) → n + 0 ≡ n
          plus_none n = omega arith

    -- ---- another's

    module _ (run : ℕ) (next : Option ℕ) (rooted : IsRooted held) (is_run : IsRun held run) (is_next : IsNextOf held next) (other : path ≢ root_path) where
      before : (q : List ℕ) → text_order q path ≡ Less → get held (node_key q) ≡ get (held_by w.front) (node_key q)
      before q low = held_before held w.front rest e w.split (node_key q) (ap (text_order (node_key q)) (sym key) ∙ low)

      -- of a lesser path the catalogue has what the records tell
      node_before : (q : List ℕ) → text_order q path ≡ Less → get c.nodes q ≡ node_at held q
      node_before q low = by_bool (eq_by_cmp text_order q root_path) (get c.nodes q ≡ node_at held q)
          (λ same. let at_root = same_key q root_path same in ap (get c.nodes) at_root ∙ w.root ∙ ap (node_at held) (sym at_root))
          (λ another. w.nodes q (differ q root_path another) ∙ ap (option_and_then node_of_body) (sym (before q low)))

      class_before : (q : List ℕ) → text_order q path ≡ Less → class_in c q ≡ class_at held q
      class_before q low = ap class_of (node_before q low)

      parent_low : text_order (parent_of path) path ≡ Less
      parent_low = parent_before path fine.canonical other

      root_there : (body : List ℕ) × (get (held_by w.front) (node_key root_path) ≡ Some body)
      root_there = let told = node_of_class (node_at held root_path) Folder rooted in
          let body = body_of_node (get held (node_key root_path)) told.0 told.1 in
          (body.0, sym (before root_path (root_before path fine.canonical other)) ∙ body.1)

      counted_all : len c.nodes ≡ count_nodes w.front
      counted_all = w.count ∙ ap (λ o. count_nodes w.front + one_without o) root_there.1 ∙ plus_none (count_nodes w.front) where
        plus_none : (n : ℕ) → n + 0 ≡ n
        plus_none n = omega arith

      absent : get c.nodes path ≡ None
      absent = w.nodes path other ∙ ap (option_and_then node_of_body) (ap (get (held_by w.front)) key ∙ new_key held w.front rest e w.split)

      -- a domain of the catalogue stands before it
      domain_low : (q : List ℕ) (number : ℕ) (id : Id) → IsDomainAt c q number id → text_order q path ≡ Less
      domain_low q number id there = by_bool (eq_by_cmp text_order q root_path) (text_order q path ≡ Less)
          (λ same. absurd (root_no_domain (same_key q root_path same)))
          (λ another.
          let told = node_of_class (node_at (held_by w.front) q) (Domain number id) (sym (ap class_of (w.nodes q (differ q root_path another))) ∙ there) in
          let body = body_of_node (get (held_by w.front) (node_key q)) told.0 told.1 in
          ap (text_order (node_key q)) key ∙ front_less held w.front rest e w.split (node_key q) body.0 body.1) where
            root_no_domain : q ≡ root_path → ⊥
            root_no_domain at_root = let c : Folder ≡ Domain number id = same_Some Folder (Domain number id) (sym rooted ∙ sym (ap class_of w.root) ∙ ap (class_in c) (sym at_root) ∙ there) in cc

      -- ---- its number

      number_free : (class : NodeClass) → may_stand run next roots class ≡ true → KeepsNumber held path class
      number_free Folder stands = tt
      number_free (Domain number id) stands =
          let halves = and_parts (nat_le id.run run && is_given next number) (not (is_some (get roots (number_id number)))) stands in
          let fronts = and_parts (nat_le id.run run) (is_given next number) halves.0 in
          record {
            made = λ run' is. made run' is (leb-true _ _ fronts.0);
            given = λ next' is. given next is_next next' is fronts.1;
            free = λ q id' low there. both_ways (is_some (get roots (number_id number))) (not-true _ halves.1) (w.numbers.all q number id' (class_before q low ∙ there));
          } where
            made : (run' : ℕ) → IsRun held run' → id.run ≤ run → id.run ≤ run'
            made run' is low = subst (λ (n : ℕ). id.run ≤ n) (one_run held run run' is_run is) low

            given : (next : Option ℕ) → IsNextOf held next → (next' : ℕ) → IsNextNumber held next' → is_given next number ≡ true → number < next'
            given None none next' is is_so = absurd (none next' is)
            given (Some n) told next' is is_so = subst (λ (m : ℕ). number < m) (one_next held n next' told is) (ltb-true number n is_so)

      free_number : (class : NodeClass) → KeepsNumber held path class → may_stand run next roots class ≡ true
      free_number Folder keeps = refl
      free_number (Domain number id) keeps = and_from _ _ (and_from _ _ (le-leb _ _ (keeps.made run is_run)) (given next is_next)) (unused (get roots (number_id number)) (w.numbers.there number)) where
        given : (next : Option ℕ) → IsNextOf held next → is_given next number ≡ true
        given None none = refl
        given (Some n) told = lt-ltb number n (keeps.given n told)

        unused : (o : Option Id) → (IsSome o → (q : List ℕ) × (id' : Id) × IsDomainAt c q number id') → not (is_some o) ≡ true
        unused None found = refl
        unused (Some x) found = let there = found refl in
            absurd (let low = domain_low there.0 number there.1 there.2 in keeps.free there.0 there.1 low (sym (class_before there.0 low) ∙ there.2))

      -- ---- it is put

      module _ (c' : Contents) (roots' : Roots) (p : PutsNode run next path e.1 c roots c' roots') where
        sound : IsNodeRecord held path e.1
        sound = record {
          canonical = fine;
          parent = sym (class_before (parent_of path) parent_low) ∙ p.place.parent;
          node = p.node;
          reads = p.reads;
          number = number_free p.node.class p.stands;
          room = in_room (subst (λ (n : ℕ). n < most_nodes) counted_all p.place.room);
        }

        got : (q : List ℕ) → get c'.nodes q ≡ cond (eq_by_cmp text_order q path) (Some p.node) (get c.nodes q)
        got q = ap (λ m. get m q) p.put ∙ get-insert nat_list_cmp_total c.nodes path p.node q

        got_else : (q : List ℕ) → q ≢ path → get c'.nodes q ≡ get c.nodes q
        got_else q isnt = got q ∙ ap (λ b. cond b (Some p.node) (get c.nodes q)) (unlike q path isnt)

        nodes_more : (q : List ℕ) → q ≢ root_path → get c'.nodes q ≡ node_at after q
        nodes_more q isnt = by_bool (eq_by_cmp text_order q path) (get c'.nodes q ≡ node_at after q)
            (λ same. let at_path = same_key q path same in
            got q ∙ ap (λ b. cond b (Some p.node) (get c.nodes q)) same ∙ sym (ap (option_and_then node_of_body) (ap (get after) (ap node_key at_path ∙ key) ∙ said_here held w.front rest e w.split) ∙ p.reads))
            (λ another. let unlike_path = differ q path another in
            got_else q unlike_path ∙ w.nodes q isnt ∙ ap (option_and_then node_of_body) (sym (else_same q (λ same. unlike_path (key_path q path (same ∙ sym key))))))

        counted_more : len c'.nodes ≡ count_nodes (w.front ++ e ∷ []) + one_without (get after (node_key root_path))
        counted_more = ap len p.put ∙ len-insert nat_list_cmp_total c.nodes path p.node ∙ one_longer (get c.nodes path) absent
            ∙ sym (ap (λ n. n + one_without (get after (node_key root_path))) more ∙ ap (λ o. (count_nodes w.front + 1) + one_without o) (else_same root_path (λ same. other (sym (key_path root_path path (same ∙ sym key)))) ∙ root_there.1) ∙ last) where
              one_longer : (o : Option Node) → o ≡ None → cond (is_some o) (len c.nodes) (len c.nodes + 1) ≡ len c.nodes + 1
              one_longer None e = refl
              one_longer (Some x) e = absurd (none-some x (sym e))

              last : (count_nodes w.front + 1) + 0 ≡ len c.nodes + 1
              last = omega (arith, counted_all)

        roots_more : (class : NodeClass) → p.node.class ≡ class → roots' ≡ with_root roots class → AreRoots c' roots'
        roots_more class is with = record { there = there class is with; all = all class is with } where
          found : (number : ℕ) → IsSome (get roots (number_id number)) → (q : List ℕ) × (id : Id) × IsDomainAt c' q number id
          found number some = let at = w.numbers.there number some in
              (at.0, at.1, ap class_of (got_else at.0 (λ same. none-some (Domain number at.1) (sym (ap class_of absent) ∙ ap (class_in c) (sym same) ∙ at.2))) ∙ at.2)

          own : class_in c' path ≡ Some class
          own = ap class_of (got path ∙ ap (λ b. cond b (Some p.node) (get c.nodes path)) (by_bool (eq_by_cmp text_order path path) (eq_by_cmp text_order path path ≡ true) (λ y. y) (λ n. absurd (differ path path n refl)))) ∙ ap (λ x. Some x) is

          there : (class : NodeClass) → p.node.class ≡ class → roots' ≡ with_root roots class → (number : ℕ) → IsSome (get roots' (number_id number)) → (q : List ℕ) × (id : Id) × IsDomainAt c' q number id
          there Folder is with number some = found number (subst (λ (m : Roots). IsSome (get m (number_id number))) with some)
          there (Domain n id) is with number some = by_bool (eq_by_cmp id_order (number_id number) (number_id n)) _
              (λ same. (path, id, ap class_of (got path ∙ ap (λ b. cond b (Some p.node) (get c.nodes path)) (by_bool (eq_by_cmp text_order path path) (eq_by_cmp text_order path path ≡ true) (λ y. y) (λ isnt. absurd (differ path path isnt refl)))) ∙ ap (λ x. Some x) is ∙ ap (λ m. Some (Domain m id)) (sym (same_number number n same))))
              (λ isnt. found number (subst (λ (o : Option Id). IsSome o) (ap (λ (m : Roots). get m (number_id number)) with ∙ get-insert id_order_total roots (number_id n) id (number_id number) ∙ ap (λ b. cond b (Some id) (get roots (number_id number))) isnt) some))

          all : (class : NodeClass) → p.node.class ≡ class → roots' ≡ with_root roots class → (q : List ℕ) (number : ℕ) (id : Id) → IsDomainAt c' q number id → IsSome (get roots' (number_id number))
          all class is with q number id at = by_bool (eq_by_cmp text_order q path) (IsSome (get roots' (number_id number)))
              (λ same. new class with (sym (own_class class is q same) ∙ at))
              (λ isnt. old class with (w.numbers.all q number id (sym (ap class_of (got_else q (differ q path isnt))) ∙ at))) where
                own_class : (class : NodeClass) → p.node.class ≡ class → (q : List ℕ) → eq_by_cmp text_order q path ≡ true → class_in c' q ≡ Some class
                own_class class is q same = ap class_of (got q ∙ ap (λ b. cond b (Some p.node) (get c.nodes q)) same) ∙ ap (λ x. Some x) is

                new : (class : NodeClass) → roots' ≡ with_root roots class → Some class ≡ Some (Domain number id) → IsSome (get roots' (number_id number))
                new Folder with e = let c : Folder ≡ Domain number id = same_Some Folder (Domain number id) e in cc
                new (Domain n i) with e = subst (λ (o : Option Id). IsSome o) (sym (ap (λ (m : Roots). get m (number_id number)) with ∙ get-insert id_order_total roots (number_id n) i (number_id number) ∙ ap (λ b. cond b (Some i) (get roots (number_id number))) (ap (λ m. eq_by_cmp id_order (number_id m) (number_id n)) (sym (same_own n i number id (same_Some (Domain n i) (Domain number id) e))) ∙ itself (number_id n)))) refl

                old : (class : NodeClass) → roots' ≡ with_root roots class → IsSome (get roots (number_id number)) → IsSome (get roots' (number_id number))
                old Folder with some = subst (λ (m : Roots). IsSome (get m (number_id number))) (sym with) some
                old (Domain n i) with some = subst (λ (o : Option Id). IsSome o) (sym (ap (λ (m : Roots). get m (number_id number)) with ∙ get-insert id_order_total roots (number_id n) i (number_id number))) (either (eq_by_cmp id_order (number_id number) (number_id n)) i (get roots (number_id number)) some)

        pub walk_put : IsNodeWalk held rest c' roots'
        walk_put = record {
          front = w.front ++ e ∷ [];
          split = split_more held w.front rest e w.split;
          root = got_else root_path (λ same. other (sym same)) ∙ w.root;
          nodes = nodes_more;
          rules = rules_more sound;
          count = counted_more;
          numbers = roots_more p.node.class refl p.root;
        }

      -- ---- it isn't put

      pub no_put : NoPut run next path e.1 c roots → IsNodeRecord held path e.1 → ⊥
      no_put (no_node none) r = none-some r.node (sym none ∙ r.reads)
      no_put (no_place never) r = never (record {
        empty = absent;
        parent = class_before (parent_of path) parent_low ∙ r.parent;
        room = subst (λ (n : ℕ). n < most_nodes) (sym counted_all) (r.room w.front rest (w.split ∙ ap (λ k. w.front ++ (k, e.1) ∷ rest) (sym key)));
      })
      no_put (no_number node reads isnt) r =
          contrary (may_stand run next roots node.class) ⊥ (free_number node.class (subst (λ (n : Node). KeepsNumber held path n.class) (same_Some r.node node (sym r.reads ∙ reads)) r.number)) isnt
