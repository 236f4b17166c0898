-- What the steps of a reading answer.
use Rattle.std.proofs.Common.{◌≡◌, ◌≢◌, ◌↔◌, ◌<◌, ℕ, List, [], length, arith, ◌∷◌, All, Bool, true, false, not, ◌==◌, ◌&&◌, nat_lt, if◌then◌else◌, Option, Some, None, option_map, option_and_then, is_some, Result, Ok, Err, codes, refl, sym, ap, subst, ◌∙◌}
use Rattle.std.specs.FinMap.{FinMap, empty, get, insert, len}
use Rattle.std.specs.List.{list_all}
use Rattle.std.proofs.lemmas.Bool.{eqb-true}
use Rattle.std.proofs.lemmas.Cmp.{nat_list_cmp_total}
use Rattle.std.proofs.lemmas.List.Elements.{All-head, All-tail}
use Rattle.serde_json.specs.Data.{Data}
use Rattle.serde_json.specs.Errors.{IsMemory}
use Rattle.serde_json.specs.declared.error.Error.{Error}
use Rattle.json_trees.proofs.TreeLemmas.{nothing_read}
use Rattle.object_ids.specs.Puts.{Blames, put_fault}
use Rattle.object_ids.specs.declared.puts.PutFault.{PutFault}
use Rattle.object_ids.specs.declared.puts.PutFault.TheVariants.{Taken, Limit, NoMemory}
use Rattle.containers.specs.TextMaps.Keyed.{text_order, with_values}
use Rattle.containers.proofs.TextMaps.KeyedMaps.{exact_texts}
use Rattle.containers.proofs.TextMaps.ValueMaps.{empty-values, get-values, insert-values, len-values}
use Rattle.hdf_values.specs.Attributes.{Content, attribute_of}
use Rattle.hdf_values.specs.declared.attributes.AttributeFault.{AttributeFault}
use Rattle.attributes.specs.AttributeMaps.{longest_name}
use Rattle.hdf_types.specs.Elems.{Elem}
use Rattle.shapes.specs.declared.Shape.{Shape}
use Rattle.groups_links.specs.Titles.{IsGoodTitle}
use Rattle.chunk_store.specs.Grids.{Grid, all_fill}
use Rattle.std.specs.Result.{IsErrAnd}
use Rattle.std.specs.Str.{IsUtf8, is_utf8}
use Rattle.std.proofs.lemmas.Str.{IsUtf8-from_is_utf8, is_utf8-from_IsUtf8}
use Rattle.serde_json.specs.Read.{read}
use Rattle.object_ids.specs.declared.ids.Kind.{Kind}
use Rattle.object_records.specs.Entries.{entry_of}
use Rattle.object_records.specs.Readings.{Reads}
use Rattle.object_records.specs.Objects.{object_of_body, spelled_in}
use Rattle.object_records.specs.declared.faults.BodyFault.{BodyFault}
use Rattle.object_records.specs.declared.faults.BodyFault.TheVariants as body
use Rattle.object_records.specs.declared.faults.BodyFault.TheVariants.{NoObject}
use Rattle.object_records.specs.FaultsOf.{of_put}
use Rattle.object_records.specs.Lists.{attribute_in, name_at, no_fault, put_in}

-- an error's word on what is there
abbrev pub Refuses : {A : Type 0} → BodyFault → Option A → Type 0
Refuses NoObject found = found ≡ None
Refuses body.NoMemory found = Unit {0}

-- ---- a name with a value

is_some-map : {A B : Type 0} (f : A → B) (o : Option A) → is_some (option_map f o) ≡ is_some o
is_some-map f None = refl
is_some-map f (Some x) = refl

-- whether a name can be put doesn't depend on what is seen of the values
fault-values : {X Y : Type 0} (h : X → Y) (most : ℕ) (m : FinMap text_order X) (name : List ℕ) → put_fault most (with_values h m) name ≡ put_fault most m name
fault-values h most m name =
    let there : is_some (get (with_values h m) name) ≡ is_some (get m name) = ap is_some (get-values nat_list_cmp_total h m name) ∙ is_some-map h (get m name) in
    let pick : Bool → ℕ → Option PutFault = λ b n. if b then Some Taken else (if nat_lt n most then None else Some Limit) in
    ap (λ b. pick b (len (with_values h m))) there ∙ ap (pick (is_some (get m name))) (len-values nat_list_cmp_total h m)

module _ {X Y : Type 0} (h : X → Y) (most : ℕ) (read : Data → Option (List ℕ × Y)) (m : FinMap text_order X) (d : Data) (name : List ℕ) (x : X) where
  step : read d ≡ Some (name, h x) → put_in most read (with_values h m) d ≡ (if is_some (put_fault most m name) then None else Some (insert (with_values h m) name (h x)))
  step is =
      ap (option_and_then (λ (e : List ℕ × Y). if is_some (put_fault most (with_values h m) e.0) then None else Some (insert (with_values h m) e.0 e.1))) is
      ∙ ap (λ (o : Option PutFault). if is_some o then None else Some (insert (with_values h m) name (h x))) (fault-values h most m name)

  -- a value that was put
  pub put_done : (new : FinMap text_order X) → read d ≡ Some (name, h x) → put_fault most m name ≡ None → new ≡ insert m name x → put_in most read (with_values h m) d ≡ Some (with_values h new)
  put_done new is none made =
      step is ∙ ap (λ (o : Option PutFault). if is_some o then None else Some (insert (with_values h m) name (h x))) none
      ∙ ap Some (sym (insert-values nat_list_cmp_total exact_texts h m name x)) ∙ ap (λ (n : FinMap text_order X). Some (with_values h n)) (sym made)

  -- a value that was not put
  pub put_refused : (fault : PutFault) → read d ≡ Some (name, h x) → Blames {T = Unit {0}} (Err fault) (put_fault most m name)
      → Refuses (of_put fault) (put_in most read (with_values h m) d)
  put_refused Taken is why = step is ∙ ap (λ (o : Option PutFault). if is_some o then None else Some (insert (with_values h m) name (h x))) why
  put_refused Limit is why = step is ∙ ap (λ (o : Option PutFault). if is_some o then None else Some (insert (with_values h m) name (h x))) why
  put_refused NoMemory is why = tt

-- a map without entries
pub none_valued : {X Y : Type 0} (h : X → Y) → with_values h (empty {X = X} {R = text_order}) ≡ empty
none_valued h = empty-values nat_list_cmp_total exact_texts h

-- a tree with a name and an attribute
pub attribute_read : (d : Data) (name : List ℕ) (c : Content) → name_at (codes "name") longest_name d ≡ Some name → attribute_of d ≡ Ok c → attribute_in d ≡ Some (name, c)
attribute_read d name c named is =
    ap (option_and_then (λ (n : List ℕ). option_map (λ c. (n, c)) (no_fault (attribute_of d)))) named ∙ ap (λ (r : Result Content AttributeFault). option_map (λ c. (name, c)) (no_fault r)) is

-- ---- a title

other_byte : (b : Bool) (byte : ℕ) → (byte == 47) ≡ b → byte ≢ 47 → not b ≡ true
other_byte true byte e h = absurd (h (eqb-true byte 47 e))
other_byte false byte e h = refl

pub no_slash : (title : List ℕ) → All (λ byte. byte ≢ 47) title → list_all (λ byte. not (byte == 47)) title ≡ true
no_slash [] h = refl
no_slash (b ∷ bs) h =
    ap (λ (x : Bool). x && list_all (λ byte. not (byte == 47)) bs) (other_byte (b == 47) b refl (All-head (λ byte. byte ≢ 47) b bs h)) ∙ no_slash bs (All-tail (λ byte. byte ≢ 47) b bs h)

pub title_read : (o : Option (List ℕ)) (title : List ℕ) → o ≡ Some title → IsGoodTitle title
    → option_and_then (λ text. if list_all (λ byte. not (byte == 47)) text then Some text else None) o ≡ Some title
title_read o title is good =
    ap (option_and_then (λ (text : List ℕ). if list_all (λ byte. not (byte == 47)) text then Some text else None)) is
    ∙ ap (λ (b : Bool). if b then Some title else None) (no_slash title good.one_part)

-- ---- what is handed on

-- an error that a `?` hands on
pub handed : {A T : Type 0} (see : T → A) (r : Result T BodyFault) (found : Option A) (fault : BodyFault) → IsErrAnd r (λ e. e ≡ fault) → Refuses fault found → Reads see r found
handed see (Ok x) found fault h told = absurd h
handed see (Err NoObject) found fault h told = subst (λ (f : BodyFault). Refuses f found) (sym h) told
handed see (Err body.NoMemory) found fault h told = tt

-- ---- bodies

pub body_reads : (k : Kind) (text : List ℕ) (d : Data) → IsUtf8 text → read text ≡ Some d → object_of_body k text ≡ spelled_in k d
body_reads k text d utf8 reads =
    ap (λ (b : Bool). if b then option_and_then (spelled_in k) (read text) else None) (is_utf8-from_IsUtf8 text utf8) ∙ ap (option_and_then (spelled_in k)) reads

pub not_a_tree : (k : Kind) (text : List ℕ) → read text ≡ None → object_of_body k text ≡ None
not_a_tree k text none = ap (λ (o : Option Data). if is_utf8 text then option_and_then (spelled_in k) o else None) none ∙ either (is_utf8 text) where
  either : (b : Bool) → (if b then option_and_then (spelled_in k) None else None) ≡ None
  either true = refl
  either false = refl

pub not_a_text : (k : Kind) (text : List ℕ) → ¬ (IsUtf8 text) → object_of_body k text ≡ None
not_a_text k text never = at (is_utf8 text) refl where
  at : (b : Bool) → is_utf8 text ≡ b → object_of_body k text ≡ None
  at true e = absurd (never (IsUtf8-from_is_utf8 text e))
  at false e = ap (λ (b : Bool). if b then option_and_then (spelled_in k) (read text) else None) e

-- an error of the reading of JSON
pub json_told : (k : Kind) (text : List ℕ) (error : Error) (e : BodyFault) → (¬ (IsMemory error) → read text ≡ None) → ((e ≡ body.NoMemory) ↔ IsMemory error)
    → Reads entry_of (Err e) (object_of_body k text)
json_told k text error NoObject none told = not_a_tree k text (none (λ is. let clash : NoObject ≡ body.NoMemory = told.1 is in cc))
json_told k text error body.NoMemory none told = tt

-- what was read has bytes, and so has that of which want of memory is told
pub read_some : (text : List ℕ) (d : Data) → read text ≡ Some d → text ≢ []
read_some text d reads none = let clash : None ≡ Some d = sym nothing_read ∙ ap read (sym none) ∙ reads in cc

pub some_bytes : (text body : List ℕ) → text ≡ body → 0 < length text → body ≢ []
some_bytes text body same some none = omega (arith, some, ap length (same ∙ none))

-- ---- arrays

pub fresh_grid : (g : Grid) (e : Elem) (s : Shape) (chunk : List ℕ) (fill : Option (List ℕ)) → g ≡ all_fill e s chunk fill → g ≡ all_fill g.kind g.shape g.chunk g.fill
fresh_grid g e s chunk fill is = subst (λ (h : Grid). h ≡ all_fill h.kind h.shape h.chunk h.fill) (sym is) refl
