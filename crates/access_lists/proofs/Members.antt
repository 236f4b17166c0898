-- The members of an object, put one after another.
use Rattle.std.proofs.Common.{◌≡◌, ℕ, T, cond, List, [], ◌∷◌, ◌++◌, Option, Some, option_map, Ordering, Less, Equal, Greater, is_eq, refl, sym, ap, subst, ◌∙◌, append-nil, append_assoc}
use Rattle.std.specs.Cmp.Lexicographic.{nat_list_cmp_total}
use Rattle.std.specs.Ordering.{match_ordering, ordering_reverse}
use Rattle.std.specs.FinMap.{entries, entries_sorted, find, from_entries, get as get_at, get-entries, get-from_entries, is_sorted, same_map}
use Rattle.std.specs.FinMap.Entries.{below_all}
use Rattle.containers.specs.TextMaps.Keyed.{text_order}
use Rattle.containers.proofs.TextMaps.KeyedMaps.{exact_texts}
use Rattle.serde_json.specs.Data.{Data, no_members, member, put}
use Rattle.serde_json.specs.Find.{get, get_member}
use Rattle.access_lists.specs.declared.rights.Rights.{Rights}
use Rattle.access_lists.specs.EntryTrees.{entry_in, entry_members, entry_tree, entries_in, list_in, list_tree, put_all}
use Rattle.access_lists.specs.InForce.{Entries}
use Rattle.containers.proofs.Plain.{halves, less}

abbrev Row : Type 0
Row = List ℕ × Rights

below_middle : (x : List ℕ) (es : List Row) (e : Row) (more : List Row) → T (below_all text_order x (es ++ e ∷ more)) → text_order x e.0 ≡ Less
below_middle x [] e more h = less _ (halves _ _ h).0
below_middle x (d ∷ es) e more h = below_middle x es e more (halves _ _ h).1

-- an entry whose name is behind all those before goes last
put_last : (done : List Row) (e : Row) (more : List Row) → T (is_sorted text_order (done ++ e ∷ more))
    → put e.0 (entry_tree e.1) (entry_members done) ≡ entry_members (done ++ e ∷ [])
put_last [] e more h = refl
put_last (d ∷ done) e more h =
    let above : text_order e.0 d.0 ≡ Greater = nat_list_cmp_total.antisymm e.0 d.0 ∙ ap ordering_reverse (below_middle d.0 done e more (halves _ _ h).0) in
    rw above (ap (member d.0 (entry_tree d.1)) (put_last done e more (halves _ _ h).1))

put_behind : (done es : List Row) → T (is_sorted text_order (done ++ es)) → put_all es (entry_members done) ≡ entry_members (done ++ es)
put_behind done [] h = ap entry_members (sym (append-nil done))
put_behind done (e ∷ es) h =
    let Sorted : List Row → Type 0 = λ rows. T (is_sorted text_order rows) in
    ap (put_all es) (put_last done e es h)
    ∙ put_behind (done ++ e ∷ []) es (subst Sorted (sym (append_assoc done (e ∷ []) es)) h)
    ∙ ap entry_members (append_assoc done (e ∷ []) es)

-- the entries of a list, put in their order
pub put_entries : (list : Entries) → put_all (entries list) no_members ≡ entry_members (entries list)
put_entries list = put_behind [] (entries list) (entries_sorted list)

found_at : (o : Ordering) (e : Rights) (rest : Option Rights) (d : Option Data) → d ≡ option_map entry_tree rest
    → match_ordering o d (Some (entry_tree e)) d ≡ option_map entry_tree (cond (is_eq o) (Some e) rest)
found_at Less e rest d h = h
found_at Equal e rest d h = refl
found_at Greater e rest d h = h

found : (name : List ℕ) (es : List Row) → get_member name (entry_members es) ≡ option_map entry_tree (find text_order name es)
found name [] = refl
found name (e ∷ es) = found_at (text_order name e.0) e.1 (find text_order name es) (get_member name (entry_members es)) (found name es)

-- what stands at a name
pub get-list_tree : (list : Entries) (name : List ℕ) → get name (list_tree list) ≡ option_map entry_tree (get_at list name)
get-list_tree list name = found name (entries list) ∙ ap (option_map entry_tree) (sym (get-entries list name))

pub entry_back : (entry : Rights) → entry_in (entry_tree entry) ≡ Some entry
entry_back entry = refl

entries_back : (es : List Row) → entries_in (entry_members es) ≡ Some (from_entries es)
entries_back [] = refl
entries_back (e ∷ es) = rw (entries_back es)

pub list_back : (list : Entries) → list_in (list_tree list) ≡ Some list
list_back list =
    entries_back (entries list)
    ∙ ap Some (same_map nat_list_cmp_total exact_texts _ _ (λ q. get-from_entries nat_list_cmp_total (entries list) q ∙ sym (get-entries list q)))
