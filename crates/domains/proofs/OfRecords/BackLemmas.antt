-- The members that an access list is printed as read as the list.
use Rattle.std.proofs.Common.{◌≡◌, ℕ, suc, ◌≤◌, List, [], ◌∷◌, length, T, Bool, true, false, cond, ◌&&◌, nat_le, Option, Some, None, option_map, option_and_then, Ordering, is_eq, is_lt, refl, sym, ap, subst, arith, ◌∙◌}
use Rattle.std.specs.Cmp.{Equal-is}
use Rattle.std.specs.Ordering.{eq_by_cmp}
use Rattle.std.specs.FinMap.{entries, entries_sorted, find, from_sorted, entries-from_sorted, get-entries, is_sorted, len-entries}
use Rattle.std.specs.FinMap.Entries.{below_all}
use Rattle.std.specs.List.{AllByRecursion}
use Rattle.std.proofs.lemmas.Bool.{le-leb}
use Rattle.std.proofs.lemmas.Cmp.{nat_list_cmp_total, tied_itself}
use Rattle.serde_json.specs.Data.{depth, members_depth}
use Rattle.json_trees.specs.Trees.{all_in, pairs_of}
use Rattle.containers.specs.TextMaps.Keyed.{text_order, map_of}
use Rattle.containers.proofs.TextMaps.KeyedMaps.{exact_texts}
use Rattle.containers.proofs.TextMaps.Walks.{found_above}
use Rattle.object_ids.specs.Names.{is_name}
use Rattle.access_lists.specs.EntryTrees.{entry_members, entry_tree, list_tree}
use Rattle.access_lists.specs.InForce.{Entries}
use Rattle.access_lists.specs.Lists.{IsList}
use Rattle.access_lists.specs.declared.rights.Rights.{Rights}
use Rattle.domains.proofs.OfRecords.TidyLemmas.{Above, IsRising}
use Rattle.domains.specs.Records.Lists.{entry_in, entry_of, list_in}
use Rattle.containers.proofs.Plain.{halves}
use Rattle.containers.proofs.TextMaps.TextOrders.{greater}
use Rattle.containers.specs.Options.{only_if}
use Rattle.containers.proofs.TextMaps.PutLemmas.{put_entries}

abbrev pub Row : Type 0
Row = List ℕ × Rights

-- ---- each member is an entry

abbrev pub AreNamed : List Row → Type 0
AreNamed es = AllByRecursion (λ e. is_name (length e.0) e.0 ≡ true) es

each_found : (es : List Row) → T (is_sorted text_order es) → ((k : List ℕ) (v : Rights) → find text_order k es ≡ Some v → is_name (length k) k ≡ true) → AreNamed es
each_found [] rising held = tt
each_found (e ∷ es) rising held = (
  held e.0 e.1 (ap (λ r. cond (is_eq r) (Some e.1) (find text_order e.0 es)) (tied_itself nat_list_cmp_total e.0)),
  each_found es (halves _ _ rising).1 (λ k v f. held k v (ap (λ b. cond b (Some e.1) (find text_order k es)) (greater e.0 k (found_above nat_list_cmp_total e.0 k es v (halves _ _ rising).0 f)) ∙ f)),
)

row_back : (e : Row) → is_name (length e.0) e.0 ≡ true → entry_of (e.0, entry_tree e.1) ≡ Some e
row_back e named = ap (λ (b : Bool). option_and_then (λ name. option_map (λ entry. (name, entry)) (entry_in (entry_tree e.1))) (only_if b (Some e.0))) named

rows_back : (es : List Row) → AreNamed es → all_in entry_of (pairs_of (entry_members es)) ≡ Some es
rows_back [] named = refl
rows_back (e ∷ es) named =
    ap (λ (o : Option Row). option_and_then (λ y. option_map (λ ys. y ∷ ys) (all_in entry_of (pairs_of (entry_members es)))) o) (row_back e named.0)
    ∙ ap (option_map (λ ys. e ∷ ys)) (rows_back es named.1)

pub length-members : (es : List Row) → length (pairs_of (entry_members es)) ≡ length es
length-members [] = refl
length-members (e ∷ es) = ap suc (length-members es)

-- a list is read back
pub list_back : (list : Entries) → IsList list → list_in (list_tree list) ≡ Some list
list_back list held =
    let rows = entries list in
    let named = each_found rows (entries_sorted list) (λ k v f. held.names k v (get-entries list k ∙ f)) in
    let few : nat_le (length (pairs_of (entry_members rows))) 1024 ≡ true = le-leb _ 1024 (omega (arith, length-members rows, len-entries list, held.few)) in
    ap (λ (b : Bool). only_if b (option_map map_of (all_in entry_of (pairs_of (entry_members rows))))) few
    ∙ ap (option_map map_of) (rows_back rows named) ∙ ap Some (put_entries list)

-- ---- rows in order are the entries of their map

rows_rise : (es : List Row) → IsRising (entry_members es) → T (is_sorted text_order es)
rows_rise [] up = tt
rows_rise (e ∷ es) up = together (below_all text_order e.0 es) (is_sorted text_order es) (all_below es up.0) (rows_rise es up.1) where
  together : (a b : Bool) → T a → T b → T (a && b)
  together true b p q = q
  together false b p q = absurd p

  all_below : (fs : List Row) → Above e.0 (entry_members fs) → T (below_all text_order e.0 fs)
  all_below [] h = tt
  all_below (f ∷ fs) h = together (is_lt (text_order e.0 f.0)) (below_all text_order e.0 fs) (subst (λ (o : Ordering). T (is_lt o)) (sym h.0) tt) (all_below fs h.1)

rows_of_map : (es : List Row) → T (is_sorted text_order es) → entries (map_of es) ≡ es
rows_of_map es rising =
    let m : Entries = from_sorted es in
    let own : entries m ≡ es = entries-from_sorted text_order es rising in
    ap (λ (l : List Row). entries (map_of l)) (sym own) ∙ ap entries (put_entries m) ∙ own

found_named : (es : List Row) (q : List ℕ) (entry : Rights) → AreNamed es → find text_order q es ≡ Some entry → is_name (length q) q ≡ true
found_named [] q entry named there = let both : None ≡ Some entry = there in absurd (cc)
found_named (e ∷ es) q entry named there = at (eq_by_cmp text_order q e.0) refl (found_named es q entry named.1) there where
  at : (b : Bool) → eq_by_cmp text_order q e.0 ≡ b → (find text_order q es ≡ Some entry → is_name (length q) q ≡ true) → cond b (Some e.1) (find text_order q es) ≡ Some entry → is_name (length q) q ≡ true
  at true is rest h = subst (λ (t : List ℕ). is_name (length t) t ≡ true) (sym (exact_texts q e.0 ((Equal-is (text_order q e.0)).0 is))) named.0
  at false is rest h = rest h

pub list_of_rows : (es : List Row) → IsRising (entry_members es) → AreNamed es → length es ≤ 1024 → (entries (map_of es) ≡ es) × IsList (map_of es)
list_of_rows es up named few =
    let back = rows_of_map es (rows_rise es up) in (
      back,
      record {
        few = omega (arith, few, ap length back, len-entries (map_of es));
        names = λ q entry there. found_named es q entry named (ap (find text_order q) (sym back) ∙ sym (get-entries (map_of es) q) ∙ there);
      },
    )

-- ---- depths

members_flat : (es : List Row) → members_depth (entry_members es) ≤ 1
members_flat [] = omega arith
members_flat (e ∷ es) = omega (arith, members_flat es)

pub list_flat : (list : Entries) → depth (list_tree list) ≤ 2
list_flat list = omega (arith, members_flat (entries list))
