-- A list of trees that spell the entries of a map, in order, reads as the map.
use Rattle.std.proofs.Common.{◌≡◌, ℕ, suc, ◌+◌, ◌<◌, ◌≤◌, List, [], ◌∷◌, ◌++◌, map, length, nat_lt, T, Bool, false, if◌then◌else◌, Option, Some, None, option_and_then, is_some, Less, sym, ap, ◌∙◌, arith, append_assoc, append-nil}
use Rattle.std.specs.Ordering.{is_eq}
use Rattle.std.specs.FinMap.{FinMap, get, insert, entries, entries_sorted, empty, from_entries, is_sorted, len, get-from_entries, from_entries_push, len-empty, len-entries}
use Rattle.std.specs.List.{AllByRecursion, AllZip}
use Rattle.std.proofs.lemmas.Bool.{lt-ltb}
use Rattle.std.proofs.lemmas.Cmp.{nat_list_cmp_total}
use Rattle.serde_json.specs.Data.{Data}
use Rattle.object_ids.specs.Puts.{put_fault}
use Rattle.object_ids.specs.declared.puts.PutFault.{PutFault}
use Rattle.object_ids.specs.declared.puts.PutFault.TheVariants.{Taken, Limit}
use Rattle.object_ids.proofs.PutLemmas.{insert_most}
use Rattle.containers.specs.TextMaps.Keyed.{text_order}
use Rattle.containers.proofs.TextMaps.KeyedMaps.{exact_texts}
use Rattle.object_records.specs.Lists.{listed, put_in}
use Rattle.containers.proofs.Plain.{halves}
use Rattle.containers.proofs.TextMaps.PutLemmas.{apart_push, apart_empty, Apart, entries_same}

module _ {X : Type 0} where
  free : (most : ℕ) (m : FinMap text_order X) (name : List ℕ) → get m name ≡ None → len m < most → put_fault most m name ≡ None
  free most m name none room =
      let limit : Option PutFault = (if nat_lt (len m) most then None else Some Limit) in
      ap (λ (o : Option X). if is_some o then Some Taken else limit) none ∙ ap (λ (b : Bool). if b then None else Some Limit) (lt-ltb (len m) most room)

  put_one : (most : ℕ) (read : Data → Option (List ℕ × X)) (m : FinMap text_order X) (d : Data) (e : List ℕ × X) → read d ≡ Some e → put_fault most m e.0 ≡ None
      → put_in most read m d ≡ Some (insert m e.0 e.1)
  put_one most read m d e is none =
      ap (option_and_then (λ (p : List ℕ × X). if is_some (put_fault most m p.0) then None else Some (insert m p.0 p.1))) is
      ∙ ap (λ (o : Option PutFault). if is_some o then None else Some (insert m e.0 e.1)) none

  read_on : (most : ℕ) (read : Data → Option (List ℕ × X)) (done es : List (List ℕ × X)) (ds : List Data) → AllZip (λ d e. read d ≡ Some e) ds es
      → T (is_sorted text_order es) → Apart done es → len (from_entries {R = text_order} done) + length es ≤ most
      → listed most read (from_entries done) ds ≡ Some (from_entries (done ++ es))
  read_on most read done [] [] zip sorted apart room = ap (λ xs. Some (from_entries {R = text_order} xs)) (sym (append-nil done))
  read_on most read done [] (d ∷ ds) zip sorted apart room = absurd zip
  read_on most read done (e ∷ es) [] zip sorted apart room = absurd zip
  read_on most read done (e ∷ es) (d ∷ ds) zip sorted apart room =
      let m = from_entries {R = text_order} done in
      let none : get m e.0 ≡ None = get-from_entries nat_list_cmp_total done e.0 ∙ apart.0 in
      let pushed : insert m e.0 e.1 ≡ from_entries (done ++ e ∷ []) = sym (from_entries_push nat_list_cmp_total exact_texts done e.0 e.1 apart.0) in
      let left : len m < most = omega arith in
      let one : len (insert m e.0 e.1) ≤ suc (len m) = insert_most (suc (len m)) m e.0 e.1 (omega arith) in
      let more : len (from_entries {R = text_order} (done ++ e ∷ [])) + length es ≤ most = omega (arith, one, ap len pushed) in
      ap (option_and_then (λ (g : FinMap text_order X). listed most read g ds)) (put_one most read m d e zip.0 (free most m e.0 none left))
      ∙ ap (λ (g : FinMap text_order X). listed most read g ds) pushed
      ∙ read_on most read (done ++ e ∷ []) es ds zip.1 (halves _ _ sorted).1 (apart_push done e es apart.0 (halves _ _ sorted).0 apart.1) more
      ∙ ap (λ xs. Some (from_entries {R = text_order} xs)) (append_assoc done (e ∷ []) es)

  pub list_back : (most : ℕ) (read : Data → Option (List ℕ × X)) (m : FinMap text_order X) (ds : List Data) → AllZip (λ d e. read d ≡ Some e) ds (entries m) → len m ≤ most
      → listed most read empty ds ≡ Some m
  list_back most read m ds zip few =
      read_on most read [] (entries m) ds zip (entries_sorted m) (apart_empty (entries m)) (omega (arith, few, len-entries m, len-empty text_order X)) ∙ ap Some (entries_same m)

-- entries that are each spelled by their tree
pub zip_of : {X Y : Type 0} (tree : List ℕ × Y → Data) (see : List ℕ × Y → List ℕ × X) (read : Data → Option (List ℕ × X)) (es : List (List ℕ × Y))
    → AllByRecursion (λ e. read (tree e) ≡ Some (see e)) es → AllZip (λ d e. read d ≡ Some e) (map tree es) (map see es)
zip_of tree see read [] each = tt
zip_of tree see read (e ∷ es) each = (each.0, zip_of tree see read es each.1)
