-- A collection that is written in the order of its ids is the one that the puts make.
use Rattle.std.proofs.Common.{◌≡◌, ℕ, Bool, true, false, cond, T, List, [], ◌∷◌, ◌++◌, map, Option, Some, None, Result, OnOk, Ordering, Less, Equal, Greater, refl, sym, ap, subst, ◌∙◌, append_assoc, append-nil}
use Rattle.std.specs.FinMap.{empty, entries, entries_sorted, is_sorted, len-empty, len-entries}
use Rattle.std.specs.FinMap.Entries.{below_all}
use Rattle.std.specs.List.{AllByRecursion}
use Rattle.std.specs.Cmp.Lexicographic.{nat_list_cmp_total}
use Rattle.std.specs.Ordering.{match_ordering}
use Rattle.std.proofs.lemmas.Cmp.{tied_itself}
use Rattle.std.proofs.lemmas.List.{nil_from_length}
use Rattle.std.proofs.lemmas.Result.{on_ok_weaker}
use Rattle.json.specs.Token.{Token}
use Rattle.json.specs.Tree.{members_tokens}
use Rattle.json.specs.Written.{Written}
use Rattle.serde_json.specs.Data.{Data, Members, array, no_items, no_members, member, put}
use Rattle.serde_json.specs.Read.{of_members}
use Rattle.serde_json.specs.View.{items_of}
use Rattle.serde_json.specs.Written.{members_outline}
use Rattle.json_trees.specs.Copied.{Adds}
use Rattle.containers.specs.TextMaps.Keyed.{text_order}
use Rattle.containers.proofs.Plain.{halves, less}
use Rattle.containers.proofs.TextMaps.TextOrders.{turned, turned_back}
use Rattle.object_ids.specs.IdOrder.{id_order}
use Rattle.object_ids.specs.IdValues.{Id}
use Rattle.object_ids.specs.Ids.{InRange, text_of_id}
use Rattle.object_ids.specs.declared.ids.Kind.{Kind}
use Rattle.object_ids.proofs.IdOrders.{id_order_once, id_order_total, rank_once}
use Rattle.object_ids.proofs.IdTexts.{same_order}
use Rattle.shapes.specs.declared.printing.Form.TheVariants.{Document}
use Rattle.hdf_values.specs.declared.attributes.Attribute.{Attribute}
use Rattle.attributes.specs.AttributeTrees.{entry_tree as attribute_entry}
use Rattle.groups_links.specs.declared.target.LinkTo.{LinkTo}
use Rattle.object_acts.specs.Objects.{empty_group, Objects}
use Rattle.object_acts.specs.declared.objects.Object.{Object}
use Rattle.documents.specs.Domains.Collected.{end_tokens, is_due_behind, tokens_before, with_each, with_found, with_object}
use Rattle.documents.specs.Domains.Documents.{is_of, put_each}
use Rattle.object_records.specs.Objects.{group_tree}
use Rattle.documents.specs.Domains.Entries.{entry_tree, links_tree, shown_links}
use Rattle.documents.specs.Domains.Writing.{PrintsMembers, ReadsBack, member_tokens}
use Rattle.documents.specs.declared.domains.home.Home.{Home}
use Rattle.documents.proofs.OfDomains.DocumentLemmas.{keys_in_order}
use Rattle.documents.proofs.OfDomains.RangeLemmas.{HoldsOf, is_here}
use Rattle.documents.proofs.OfDomains.TokenLemmas.{AreBelow, MembersReadBack, behind, behind_assoc, below_behind, members_read, put_behind}

-- ---- tokens of members, with no bracket behind them

abbrev open_tokens : Members → List Token
open_tokens no_members = []
open_tokens (member k d ms) = member_tokens k d ++ open_tokens ms

open_behind : (ms ns : Members) → open_tokens (behind ms ns) ≡ open_tokens ms ++ open_tokens ns
open_behind no_members ns = refl
open_behind (member k d ms) ns = ap (λ ts. member_tokens k d ++ ts) (open_behind ms ns) ∙ sym (append_assoc (member_tokens k d) (open_tokens ms) (open_tokens ns))

close_behind : (ms ns : Members) → members_tokens (members_outline (behind ms ns)) ≡ open_tokens ms ++ members_tokens (members_outline ns)
close_behind no_members ns = refl
close_behind (member k d ms) ns = ap (λ ts. member_tokens k d ++ ts) (close_behind ms ns) ∙ sym (append_assoc (member_tokens k d) (open_tokens ms) (members_tokens (members_outline ns)))

regroup_step : (a b c d : List Token) → ((a ++ b) ++ c) ++ d ≡ a ++ ((b ++ c) ++ d)
regroup_step a b c d = simp append_assoc

module _ (m : Objects) (h : Home) (k : Kind) where
  -- ---- the root, while it is still to come

  abbrev waiting : Bool → Members
  waiting true = member (text_of_id h.root) (entry_tree m h empty_group) no_members
  waiting false = no_members

  -- it is written before an id of this order to it
  abbrev first : Bool → Ordering → Members
  first due Less = waiting due
  first due Equal = no_members
  first due Greater = no_members

  waiting_tokens : (due : Bool) → members_tokens (members_outline (waiting due)) ≡ end_tokens m h due
  waiting_tokens true = refl
  waiting_tokens false = refl

  first_tokens : (due : Bool) (o : Ordering) → tokens_before m h due o ≡ open_tokens (first due o)
  first_tokens true Less = sym (append-nil (member_tokens (text_of_id h.root) (entry_tree m h empty_group)))
  first_tokens false Less = refl
  first_tokens due Equal = refl
  first_tokens due Greater = refl

  ended : (due : Bool) (ts : List Token) (front : Members) → (ts ++ open_tokens front) ++ end_tokens m h due ≡ ts ++ members_tokens (members_outline (behind front (waiting due)))
  ended due ts front =
      append_assoc ts (open_tokens front) (end_tokens m h due)
      ∙ ap (λ x. ts ++ (open_tokens front ++ x)) (sym (waiting_tokens due))
      ∙ ap (λ x. ts ++ x) (sym (close_behind front (waiting due)))

  -- ---- the texts of ids are in the order of the ids

  texts_as_ids : (a b : Id) → InRange a → InRange b → is_of k h a ≡ true → is_of k h b ≡ true → text_order (text_of_id a) (text_of_id b) ≡ id_order a b
  texts_as_ids a b range_a range_b here_a here_b = same_order a b range_a range_b (rank_once a.kind b.kind ((is_here k h a here_a).rank ∙ sym (is_here k h b here_b).rank))

  abbrev AreInRange : List (Id × Object) → Type 0
  AreInRange = AllByRecursion (λ e. is_of k h e.0 ≡ true → InRange e.0)

  -- all keys so far come before those of the entries that are left
  abbrev AreAhead : Members → List (Id × Object) → Type 0
  AreAhead front = AllByRecursion (λ e. is_of k h e.0 ≡ true → AreBelow front (text_of_id e.0))

  -- and before that of the root, which is of the collection
  abbrev IsRootAhead : Members → Type 0
  IsRootAhead front = (is_of k h h.root ≡ true) × AreBelow front (text_of_id h.root)

  module _ (root_range : InRange h.root) (id : Id) (here : is_of k h id ≡ true) (range : InRange id) (d : Data) where
    -- an object is put behind the members so far, and behind the root where that comes first
    abbrev then_put : Members → Bool → Ordering → Members
    then_put front due o = behind (behind front (first due o)) (member (text_of_id id) d no_members)

    put_in_turn : (due : Bool) (o : Ordering) → (due ≡ true → text_order (text_of_id h.root) (text_of_id id) ≡ o) → (o ≡ Equal → h.root ≡ id)
        → put (text_of_id id) d (waiting due) ≡ behind (first due o) (member (text_of_id id) d (waiting (is_due_behind due o)))
    put_in_turn false Less is same = refl
    put_in_turn false Equal is same = refl
    put_in_turn false Greater is same = refl
    put_in_turn true Less is same = put_at (text_order (text_of_id id) (text_of_id h.root)) (turned_back (text_of_id h.root) (text_of_id id) (is refl)) where
      put_at : (o : Ordering) → o ≡ Greater → match_ordering o (member (text_of_id id) d (waiting true)) (member (text_of_id h.root) d no_members) (member (text_of_id h.root) (entry_tree m h empty_group) (member (text_of_id id) d no_members))
          ≡ member (text_of_id h.root) (entry_tree m h empty_group) (member (text_of_id id) d no_members)
      put_at o e = ap (λ (x : Ordering). match_ordering x (member (text_of_id id) d (waiting true)) (member (text_of_id h.root) d no_members) (member (text_of_id h.root) (entry_tree m h empty_group) (member (text_of_id id) d no_members))) e
    put_in_turn true Equal is same =
        ap (λ (x : Id). put (text_of_id x) d (waiting true)) (sym (same refl))
        ∙ put_same (text_of_id h.root) (entry_tree m h empty_group)
        ∙ ap (λ (x : Id). member (text_of_id x) d no_members) (same refl)
      where
        put_same : (key : List ℕ) (e : Data) → put key d (member key e no_members) ≡ member key d no_members
        put_same key e = ap (λ (x : Ordering). match_ordering x (member key d (member key e no_members)) (member key d no_members) (member key e (member key d no_members))) (tied_itself nat_list_cmp_total key)
    put_in_turn true Greater is same = put_at (text_order (text_of_id id) (text_of_id h.root)) (turned (text_of_id h.root) (text_of_id id) (is refl)) where
      put_at : (o : Ordering) → o ≡ Less → match_ordering o (member (text_of_id id) d (waiting true)) (member (text_of_id h.root) d no_members) (member (text_of_id h.root) (entry_tree m h empty_group) (member (text_of_id id) d no_members))
          ≡ member (text_of_id id) d (waiting true)
      put_at o e = ap (λ (x : Ordering). match_ordering x (member (text_of_id id) d (waiting true)) (member (text_of_id h.root) d no_members) (member (text_of_id h.root) (entry_tree m h empty_group) (member (text_of_id id) d no_members))) e

    put_next : (front : Members) (due : Bool) → AreBelow front (text_of_id id) → (due ≡ true → IsRootAhead front)
        → put (text_of_id id) d (behind front (waiting due)) ≡ behind (then_put front due (id_order h.root id)) (waiting (is_due_behind due (id_order h.root id)))
    put_next front due below waits =
        let o = id_order h.root id in
        put_behind (text_of_id id) d front (waiting due) below
        ∙ ap (behind front) (put_in_turn due o (λ is. texts_as_ids h.root id root_range range (waits is).0 here) (id_order_once h.root id))
        ∙ sym (behind_assoc front (first due o) (member (text_of_id id) d (waiting (is_due_behind due o))))
        ∙ sym (behind_assoc (behind front (first due o)) (member (text_of_id id) d no_members) (waiting (is_due_behind due o)))

    tokens_next : (front : Members) (due : Bool) (ts : List Token)
        → ((ts ++ open_tokens front) ++ tokens_before m h due (id_order h.root id)) ++ member_tokens (text_of_id id) d ≡ ts ++ open_tokens (then_put front due (id_order h.root id))
    tokens_next front due ts =
        let o = id_order h.root id in
        let one : open_tokens (member (text_of_id id) d no_members) ≡ member_tokens (text_of_id id) d = append-nil (member_tokens (text_of_id id) d) in
        ap (λ x. ((ts ++ open_tokens front) ++ x) ++ member_tokens (text_of_id id) d) (first_tokens due o)
        ∙ regroup_step ts (open_tokens front) (open_tokens (first due o)) (member_tokens (text_of_id id) d)
        ∙ ap (λ x. ts ++ ((open_tokens front ++ open_tokens (first due o)) ++ x)) (sym one)
        ∙ ap (λ x. ts ++ (x ++ open_tokens (member (text_of_id id) d no_members))) (sym (open_behind front (first due o)))
        ∙ ap (λ x. ts ++ x) (sym (open_behind (behind front (first due o)) (member (text_of_id id) d no_members)))

    -- a later id of the collection comes behind all of these
    first_below : (due : Bool) (o : Ordering) (q : Id) → id_order h.root id ≡ o → (due ≡ true → is_of k h h.root ≡ true) → InRange q → is_of k h q ≡ true → id_order id q ≡ Less → AreBelow (first due o) (text_of_id q)
    first_below true Less q is root range_q here_q later = (texts_as_ids h.root q root_range range_q (root refl) here_q ∙ id_order_total.trans h.root id q is later, tt)
    first_below false Less q is root range_q here_q later = tt
    first_below due Equal q is root range_q here_q later = tt
    first_below due Greater q is root range_q here_q later = tt

    ahead_next : (front : Members) (due : Bool) (fs : List (Id × Object)) → (due ≡ true → IsRootAhead front) → T (below_all id_order id fs) → AreInRange fs → AreAhead front fs → AreAhead (then_put front due (id_order h.root id)) fs
    ahead_next front due [] waits above ranges ahead = tt
    ahead_next front due (f ∷ fs) waits above ranges ahead = (
      (λ here_f.
          let later = less (id_order id f.0) (halves _ _ above).0 in
          below_behind (behind front (first due (id_order h.root id))) (member (text_of_id id) d no_members) (text_of_id f.0)
          (below_behind front (first due (id_order h.root id)) (text_of_id f.0) (ahead.0 here_f) (first_below due (id_order h.root id) f.0 refl (λ is. (waits is).0) (ranges.0 here_f) here_f later))
          (texts_as_ids id f.0 range (ranges.0 here_f) here here_f ∙ later, tt)),
      ahead_next front due fs waits (halves _ _ above).1 ranges.1 ahead.1,
    )

    root_next : (front : Members) (due : Bool) (o : Ordering) → id_order h.root id ≡ o → (due ≡ true → IsRootAhead front) → is_due_behind due o ≡ true → IsRootAhead (then_put front due o)
    root_next front due Less is waits still = absurd (let both : false ≡ true = still in cc)
    root_next front due Equal is waits still = absurd (let both : false ≡ true = still in cc)
    root_next front due Greater is waits still = (
      (waits still).0,
      below_behind (behind front no_members) (member (text_of_id id) d no_members) (text_of_id h.root)
          (below_behind front no_members (text_of_id h.root) (waits still).1 tt)
          (turned (text_of_id h.root) (text_of_id id) (texts_as_ids h.root id root_range range (waits still).0 here ∙ is), tt),
    )

  -- ---- the whole walk

  merged : InRange h.root → (es : List (Id × Object)) (due : Bool) (front : Members) (ts : List Token) → T (is_sorted id_order es) → AreInRange es → AreAhead front es → (due ≡ true → IsRootAhead front)
      → (with_each m h k es (due, ts ++ open_tokens front)).1 ++ end_tokens m h (with_each m h k es (due, ts ++ open_tokens front)).0
      ≡ ts ++ members_tokens (members_outline (put_each m h k es (behind front (waiting due))))
  merged root [] due front ts rising ranges ahead waits = ended due ts front
  merged root (e ∷ es) due front ts rising ranges ahead waits =
      at (is_of k h e.0) refl (λ due front. merged root es due front ts (halves _ _ rising).1 ranges.1)
    where
      at : (b : Bool) → is_of k h e.0 ≡ b
          → ((due : Bool) (front : Members) → AreAhead front es → (due ≡ true → IsRootAhead front)
          → (with_each m h k es (due, ts ++ open_tokens front)).1 ++ end_tokens m h (with_each m h k es (due, ts ++ open_tokens front)).0
          ≡ ts ++ members_tokens (members_outline (put_each m h k es (behind front (waiting due)))))
          → (with_each m h k es (with_found m h k e.0 (Some e.1) (due, ts ++ open_tokens front))).1 ++ end_tokens m h (with_each m h k es (with_found m h k e.0 (Some e.1) (due, ts ++ open_tokens front))).0
          ≡ ts ++ members_tokens (members_outline (put_each m h k es (cond (is_of k h e.0) (put (text_of_id e.0) (entry_tree m h e.1) (behind front (waiting due))) (behind front (waiting due)))))
      at false is later =
          ap (λ b. (with_each m h k es (cond b (with_object m h e.0 e.1 (due, ts ++ open_tokens front)) (due, ts ++ open_tokens front))).1
          ++ end_tokens m h (with_each m h k es (cond b (with_object m h e.0 e.1 (due, ts ++ open_tokens front)) (due, ts ++ open_tokens front))).0) is
          ∙ later due front ahead.1 waits
          ∙ ap (λ b. ts ++ members_tokens (members_outline (put_each m h k es (cond b (put (text_of_id e.0) (entry_tree m h e.1) (behind front (waiting due))) (behind front (waiting due)))))) (sym is)
      at true is later =
          let o = id_order h.root e.0 in
          let d = entry_tree m h e.1 in
          let range = ranges.0 is in
          let next = then_put root e.0 is range d front due o in
          ap (λ b. (with_each m h k es (cond b (with_object m h e.0 e.1 (due, ts ++ open_tokens front)) (due, ts ++ open_tokens front))).1
          ++ end_tokens m h (with_each m h k es (cond b (with_object m h e.0 e.1 (due, ts ++ open_tokens front)) (due, ts ++ open_tokens front))).0) is
          ∙ ap (λ x. (with_each m h k es (is_due_behind due o, x)).1 ++ end_tokens m h (with_each m h k es (is_due_behind due o, x)).0) (tokens_next root e.0 is range d front due ts)
          ∙ later (is_due_behind due o) next (ahead_next root e.0 is range d front due es waits (halves _ _ rising).0 ranges.1 ahead.1) (root_next root e.0 is range d front due o refl waits)
          ∙ ap (λ ms. ts ++ members_tokens (members_outline (put_each m h k es ms))) (sym (put_next root e.0 is range d front due (ahead.0 is) waits))
          ∙ ap (λ b. ts ++ members_tokens (members_outline (put_each m h k es (cond b (put (text_of_id e.0) d (behind front (waiting due))) (behind front (waiting due)))))) (sym is)

  none_ahead : (es : List (Id × Object)) → AreAhead no_members es
  none_ahead [] = tt
  none_ahead (e ∷ es) = ((λ here. tt), none_ahead es)

  waiting_first : (b : Bool) → cond b (put (text_of_id h.root) (entry_tree m h empty_group) no_members) no_members ≡ waiting b
  waiting_first true = refl
  waiting_first false = refl

  pub collected : InRange h.root → AreInRange (entries m) → (ts : List Token)
      → (with_each m h k (entries m) (is_of k h h.root, ts)).1 ++ end_tokens m h (with_each m h k (entries m) (is_of k h h.root, ts)).0
      ≡ ts ++ members_tokens (members_outline (put_each m h k ((h.root, empty_group) ∷ entries m) no_members))
  collected root ranges ts =
      ap (λ x. (with_each m h k (entries m) (is_of k h h.root, x)).1 ++ end_tokens m h (with_each m h k (entries m) (is_of k h h.root, x)).0) (sym (append-nil ts))
      ∙ merged root (entries m) (is_of k h h.root) no_members ts (entries_sorted m) ranges (none_ahead (entries m)) (λ is. (is, tt))
      ∙ ap (λ ms. ts ++ members_tokens (members_outline (put_each m h k (entries m) ms))) (sym (waiting_first (is_of k h h.root)))

  -- of an id that isn't of the collection nothing is written
  pub found_elsewhere : (q : Id) (o : Option Object) (a : Bool × List Token) → is_of k h q ≡ false → with_found m h k q o a ≡ a
  found_elsewhere q None a isnt = refl
  found_elsewhere q (Some o) a isnt = ap (λ b. cond b (with_object m h q o a) a) isnt

-- ---- a collection is read back

put_read : (k : List ℕ) (d : Data) (ms : Members) → ReadsBack d → MembersReadBack ms → MembersReadBack (put k d ms)
put_read k d no_members one each = (one, tt)
put_read k d (member l e ms) one each = at (text_order k l) (put_read k d ms one each.1) where
  at : (o : Ordering) → MembersReadBack (put k d ms) → MembersReadBack (match_ordering o (member k d (member l e ms)) (member l d ms) (member l e (put k d ms)))
  at Less later = (one, each)
  at Equal later = (one, each.1)
  at Greater later = (each.0, later)

none_in : (X : Type 0) → entries (empty {X = X} {R = text_order}) ≡ []
none_in X = nil_from_length _ (sym (len-entries (empty {X = X} {R = text_order})) ∙ len-empty text_order X)

module _ (m : Objects) (h : Home) (k : Kind) where
  root_read : ReadsBack (entry_tree m h empty_group)
  root_read =
      subst (λ (es : List (List ℕ × Attribute)). ReadsBack (group_tree (array (items_of (map (attribute_entry Document true) es))) (links_tree m h empty))) (sym (none_in Attribute))
      (subst (λ (es : List (List ℕ × LinkTo)). ReadsBack (group_tree (array no_items) (array (items_of (shown_links m h es))))) (sym (none_in LinkTo)) refl)

  abbrev EachIsRead : List (Id × Object) → Type 0
  EachIsRead = AllByRecursion (λ e. is_of k h e.0 ≡ true → ReadsBack (entry_tree m h e.1))

  each_read : (es : List (Id × Object)) (ms : Members) → EachIsRead es → MembersReadBack ms → MembersReadBack (put_each m h k es ms)
  each_read [] ms each rest = rest
  each_read (e ∷ es) ms each rest = each_read es (cond (is_of k h e.0) (put (text_of_id e.0) (entry_tree m h e.1) ms) ms) each.1 (at (is_of k h e.0) refl) where
    at : (b : Bool) → is_of k h e.0 ≡ b → MembersReadBack (cond b (put (text_of_id e.0) (entry_tree m h e.1) ms) ms)
    at true is = put_read (text_of_id e.0) (entry_tree m h e.1) ms (each.0 is) rest
    at false is = rest

  pub collection_read : EachIsRead (entries m)
      → of_members (members_outline (put_each m h k ((h.root, empty_group) ∷ entries m) no_members)) no_members ≡ Some (put_each m h k ((h.root, empty_group) ∷ entries m) no_members)
  collection_read each =
      let ms = put_each m h k ((h.root, empty_group) ∷ entries m) no_members in
      members_read ms (keys_in_order m h k ms refl) (each_read ((h.root, empty_group) ∷ entries m) no_members ((λ here. root_read), each) tt)

-- ---- a collection was written

-- an entry's id is one that an `ObjectId` can be, and its tree is read back
abbrev pub IsReadInRange : Objects → Home → Id × Object → Type 0
IsReadInRange m h e = InRange e.0 × ReadsBack (entry_tree m h e.1)

module _ (m : Objects) (h : Home) (k : Kind) where
  ranges_of : (es : List (Id × Object)) → HoldsOf m h k (IsReadInRange m h) es → AllByRecursion (λ e. is_of k h e.0 ≡ true → InRange e.0) es
  ranges_of [] each = tt
  ranges_of (e ∷ es) each = ((λ here. (each.0 here).0), ranges_of es each.1)

  reads_of : (es : List (Id × Object)) → HoldsOf m h k (IsReadInRange m h) es → AllByRecursion (λ e. is_of k h e.0 ≡ true → ReadsBack (entry_tree m h e.1)) es
  reads_of [] each = tt
  reads_of (e ∷ es) each = ((λ here. (each.0 here).1), reads_of es each.1)

  pub all_collected : {E : Type 0} (r : Result (Unit {0}) E) (due : Bool) (begun now new : Written) → InRange h.root → (due, now.tokens) ≡ with_each m h k (entries m) (is_of k h h.root, begun.tokens)
      → now.before ≡ begun.before → HoldsOf m h k (IsReadInRange m h) (entries m) → OnOk r (Adds (end_tokens m h due) now new)
      → OnOk r (PrintsMembers (put_each m h k ((h.root, empty_group) ∷ entries m) no_members) begun new)
  all_collected r due begun now new root all stays each ends =
      on_ok_weaker r (λ end. record {
        added = record {
          tokens = end.tokens ∙ ap (λ (a : Bool × List Token). a.1 ++ end_tokens m h a.0) all ∙ collected m h k root (ranges_of (entries m) each) begun.tokens;
          before = end.before ∙ stays;
        };
        exact = collection_read m h k (reads_of (entries m) each);
      }) ends
