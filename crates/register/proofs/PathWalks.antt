-- A walk over paths, each of which has a record where it is wanted.
use Rattle.std.proofs.Common.{◌≡◌, ◌≢◌, inl, inr, ℕ, ◌<◌, List, [], ◌∷◌, ◌++◌, length, Bool, true, false, ◌&&◌, Option, Some, None, is_some, IsSome, option_map, Ordering, Less, Equal, Greater, refl, sym, ap, subst, ◌∙◌, append_assoc, append-nil, arith}
use Rattle.std.specs.Cmp.Lexicographic.{nat_list_cmp_total}
use Rattle.std.specs.FinMap.{FinMap, contains_key, entries, get}
use Rattle.std.specs.List.{AllByRecursion}
use Rattle.std.specs.Ordering.{is_lt, ordering_reverse}
use Rattle.std.proofs.lemmas.Cmp.{tied_itself}
use Rattle.std.proofs.lemmas.Bool.{and_from, and_parts}
use Rattle.containers.specs.TextMaps.Keyed.{text_order}
use Rattle.containers.specs.TextMaps.Nexts.{is_behind, left, IsNext, IsStep}
use Rattle.containers.proofs.TextMaps.KeyedMaps.{exact_texts}
use Rattle.flush_journal.specs.Records.{Record}
use Rattle.flush_journal.specs.Cuts.Cuts.{AreOnce}
use Rattle.flush_journal.proofs.OfCuts.CutLemmas.{all_more}
use Rattle.object_ids.specs.Paths.{path_of}
use Rattle.domains.specs.Contents.{Contents, IsCatalogue}
use Rattle.domains.specs.declared.classes.Node.{Node}
use Rattle.object_records.specs.Keys.Keys.{node_key}
use Rattle.register.specs.Cutting.{AddsNodes, AddsWanted, AreAdded, IsAmong, IsDueNode, IsNodeBody, IsRightNode, is_key_wanted, is_of_all, is_of_paths, is_wanted}
use Rattle.register.specs.Marks.{Marked}
use Rattle.containers.proofs.Passing.{by_bool, contrary, lt_less}
use Rattle.register.proofs.OfInstalled.NodeKeys.{key_path}

-- ---- behind a path

weaker_behind : (last : Option (List ℕ)) (k q : List ℕ) → is_behind text_order last k ≡ true → is_behind text_order (Some k) q ≡ true → is_behind text_order last q ≡ true
weaker_behind None k q h e = refl
weaker_behind (Some a) k q h e = ap is_lt (nat_list_cmp_total.trans a k q (lt_less (text_order a k) h) (lt_less (text_order k q) e))

itself_not : (k : List ℕ) → is_behind text_order (Some k) k ≡ false
itself_not k = ap is_lt (tied_itself nat_list_cmp_total k)

-- at a path, or before it
by_place : (k q : List ℕ) (P : Type 0) → is_behind text_order (Some k) q ≡ false → (k ≡ q → P) → (text_order q k ≡ Less → P) → P
by_place k q P e same before = at (text_order k q) refl where
  at : (o : Ordering) → text_order k q ≡ o → P
  at Less h = contrary (is_lt (text_order k q)) P (ap is_lt h) e
  at Equal h = same (exact_texts k q h)
  at Greater h = before (nat_list_cmp_total.antisymm q k ∙ ap ordering_reverse h)

-- ---- the walk

module _ (c : Contents) {V : Type 0} (keys : FinMap text_order V) (missing : Bool) where
  abbrev wanted : List ℕ → Bool
  wanted = is_key_wanted c keys missing

  abbrev IsLater : Option (List ℕ) → Record → Type 0
  IsLater last r = (path : List ℕ) × (is_behind text_order last path ≡ true) × (wanted path ≡ true) × (r.0 ≡ node_key path) × IsNodeBody (get c.nodes path) r.1

  -- the records of paths behind one
  pub record IsTail (whole : Bool) (last : Option (List ℕ)) (tail : List Record) : Type 0 where
    pub right : AllByRecursion (IsLater last) tail
    pub once : AreOnce tail
    pub all : whole ≡ true → (path : List ℕ) → is_behind text_order last path ≡ true → wanted path ≡ true → IsAmong (node_key path) tail

  -- with the records that are still to come, what was added is right
  abbrev pub IsPathWalk : List Record → List Record → Option (List ℕ) → Type 0
  IsPathWalk old cur last = (whole : Bool) (tail : List Record) → IsTail whole last tail → (added : List Record) × IsTail whole None added × (old ++ added ≡ cur ++ tail)

  pub walk_begin : (old : List Record) → IsPathWalk old old None
  walk_begin old whole tail t = (tail, t, refl)

  as_added : (whole : Bool) (added : List Record) → IsTail whole None added → AreAdded (IsRightNode c wanted) (IsDueNode wanted) whole added
  as_added whole added t = record {
    right = all_more (IsLater None) (IsRightNode c wanted) added (λ r h. (h.0, h.2, h.3, h.4)) t.right;
    once = t.once;
    all = λ w key due. subst (λ (k : List ℕ). IsAmong k added) (sym due.2) (t.all w due.0 refl due.1);
  }

  nothing_more : (old cur : List Record) (last : Option (List ℕ)) (whole : Bool) → IsTail whole last [] → IsPathWalk old cur last → AddsNodes c wanted whole old cur
  nothing_more old cur last whole t walk = let w = walk whole [] t in (w.0, as_added whole w.0 w.1, sym (w.2 ∙ append-nil cur))

  none_behind : (last : Option (List ℕ)) → IsNext keys last None → (path : List ℕ) → is_behind text_order last path ≡ true → wanted path ≡ true → IsAmong (node_key path) []
  none_behind last none path behind want =
      contrary (is_some (get keys path)) (IsAmong (node_key path) []) (and_parts (contains_key keys path) (is_wanted c missing path) want).0 (ap is_some (none path behind))

  pub walk_end : (old cur : List Record) (last : Option (List ℕ)) → IsNext keys last None → IsPathWalk old cur last → AddsNodes c wanted true old cur
  walk_end old cur last none walk = nothing_more old cur last true (record { right = tt; once = tt; all = λ w. none_behind last none }) walk

  pub walk_fails : (old cur new : List Record) (last : Option (List ℕ)) → new ≡ cur → IsPathWalk old cur last → AddsNodes c wanted false old new
  walk_fails old cur new last same walk = subst (λ (rs : List Record). AddsNodes c wanted false old rs) (sym same)
      (nothing_more old cur last false (record { right = tt; once = tt; all = λ w path behind want. contrary false (IsAmong (node_key path) []) w refl }) walk)

  module _ (last : Option (List ℕ)) (k : List ℕ) (next : IsNext keys last (Some k)) where
    later : (r : Record) → IsLater (Some k) r → IsLater last r
    later r h = (h.0, weaker_behind last k h.0 next.0 h.1, h.2, h.3, h.4)

    -- what is wanted and isn't behind the next path is that path
    not_before : (path : List ℕ) (P : Type 0) → is_behind text_order last path ≡ true → wanted path ≡ true → text_order path k ≡ Less → P
    not_before path P behind want less =
        contrary (is_some (get keys path)) P (and_parts (contains_key keys path) (is_wanted c missing path) want).0 (ap is_some (next.2 path behind less))

    with_record : (whole : Bool) (body : List ℕ) (tail : List Record) → is_wanted c missing k ≡ true → IsNodeBody (get c.nodes k) body → IsTail whole (Some k) tail
        → IsTail whole last ((node_key k, body) ∷ tail)
    with_record whole body tail want is t = record {
      right = ((k, next.0, and_from (contains_key keys k) (is_wanted c missing k) next.1 want, refl, is), all_more (IsLater (Some k)) (IsLater last) tail later t.right);
      once = (all_more (IsLater (Some k)) (λ r. r.0 ≢ node_key k) tail other t.right, t.once);
      all = λ w path behind want. by_bool (is_behind text_order (Some k) path) (IsAmong (node_key path) ((node_key k, body) ∷ tail))
          (λ y. inr (t.all w path y want))
          (λ n. by_place k path (IsAmong (node_key path) ((node_key k, body) ∷ tail)) n (λ same. inl (ap node_key same)) (λ less. not_before path (IsAmong (node_key path) ((node_key k, body) ∷ tail)) behind want less));
    } where
      other : (r : Record) → IsLater (Some k) r → r.0 ≢ node_key k
      other r h same = contrary (is_behind text_order (Some k) h.0) ⊥ h.1
          (subst (λ (p : List ℕ). is_behind text_order (Some k) p ≡ false) (key_path k h.0 (sym same ∙ h.3)) (itself_not k))

    without_record : (whole : Bool) (tail : List Record) → is_wanted c missing k ≡ false → IsTail whole (Some k) tail → IsTail whole last tail
    without_record whole tail unwanted t = record {
      right = all_more (IsLater (Some k)) (IsLater last) tail later t.right;
      once = t.once;
      all = λ w path behind want. by_bool (is_behind text_order (Some k) path) (IsAmong (node_key path) tail)
          (λ y. t.all w path y want)
          (λ n. by_place k path (IsAmong (node_key path) tail) n
          (λ same. contrary (is_wanted c missing k) (IsAmong (node_key path) tail) (subst (λ (p : List ℕ). is_wanted c missing p ≡ true) (sym same) (and_parts (contains_key keys path) (is_wanted c missing path) want).1) unwanted)
          (λ less. not_before path (IsAmong (node_key path) tail) behind want less));
    }

    more_at : (old cur new : List Record) (b : Bool) → is_wanted c missing k ≡ b → AddsWanted b c k cur new → IsPathWalk old cur last → IsPathWalk old new (Some k)
    more_at old cur new true want adds walk whole tail t =
        let w = walk whole ((node_key k, adds.0) ∷ tail) (with_record whole adds.0 tail want adds.1 t) in
        (w.0, w.1, w.2 ∙ sym (ap (λ (rs : List Record). rs ++ tail) adds.2 ∙ append_assoc cur ((node_key k, adds.0) ∷ []) tail))
    more_at old cur new false unwanted same walk whole tail t =
        let w = walk whole tail (without_record whole tail unwanted t) in
        (w.0, w.1, w.2 ∙ ap (λ (rs : List Record). rs ++ tail) (sym same))

    pub walk_more : (old cur new : List Record) → AddsWanted (is_wanted c missing k) c k cur new → IsPathWalk old cur last → IsPathWalk old new (Some k)
    walk_more old cur new adds walk = more_at old cur new (is_wanted c missing k) refl adds walk

-- fewer are left
pub walk_smaller : {V : Type 0} (keys : FinMap text_order V) (last : Option (List ℕ)) (e : List ℕ × V) → IsStep keys last (Some e)
    → length (left text_order (Some e.0) (entries keys)) < length (left text_order last (entries keys))
walk_smaller keys last e step = let more = ap length step in omega (arith, more)

-- ---- other words for what is wanted

pub as_due : (c : Contents) (due is : List ℕ → Bool) (whole : Bool) (old new : List Record) → ((path : List ℕ) → due path ≡ is path) → AddsNodes c due whole old new → AddsNodes c is whole old new
as_due c due is whole old new e h = subst (λ (f : List ℕ → Bool). AddsNodes c f whole old new) (λ i path. e path i) h

some_mapped : {A B : Type 0} (f : A → B) (o : Option A) → IsSome o → IsSome (option_map f o)
some_mapped f None h = h
some_mapped f (Some x) h = refl

-- the keys of a catalogue are paths
pub catalogue_paths : (c : Contents) → IsCatalogue c → (nodes : FinMap text_order Node) → nodes ≡ c.nodes → (path : List ℕ) → IsSome (get nodes path) → path_of path ≡ Some path
catalogue_paths c valid nodes e path some = valid.paths path (some_mapped (λ (n : Node). n.class) (get c.nodes path) (subst (λ (m : FinMap text_order Node). IsSome (get m path)) e some))

pub all_due : (c : Contents) (m : Marked) (nodes : FinMap text_order Node) → m.all ≡ true → nodes ≡ c.nodes → (path : List ℕ) → is_key_wanted c nodes false path ≡ is_of_all c m path
all_due c m nodes all e path = ap (λ (ns : FinMap text_order Node). is_key_wanted c ns false path) e ∙ sym (ap (λ b. b && is_key_wanted c c.nodes false path) all)

pub paths_due : (c : Contents) (m : Marked) (paths : FinMap text_order Bool) (all : Bool) → all ≡ m.all → paths ≡ m.paths → (path : List ℕ) → is_key_wanted c paths all path ≡ is_of_paths c m path
paths_due c m paths all f e path = λ i. is_key_wanted c (e i) (f i) path
