-- Attributes, links and arrays: what is read is what the trees spell, and the other way.
use Rattle.std.proofs.Common.{◌≡◌, ℕ, List, Bool, true, false, cond, inl, inr, Option, Some, None, option_and_then, Result, Ok, Err, codes, decimal, refl, sym, ap, subst, ◌∙◌}
use Rattle.std.specs.FinMap.{FinMap, contains_key, insert}
use Rattle.std.specs.Option.{ok_or}
use Rattle.std.proofs.lemmas.Bool.{cond-true, cond-false}
use Rattle.std.proofs.lemmas.Option.{none-some, same_Some}
use Rattle.serde_json.specs.Data.{Data, Members, null, boolean, number, string, array, object}
use Rattle.serde_json.specs.Find.{get, as_object, as_str}
use Rattle.json_trees.specs.Trees.{text_at}
use Rattle.json_trees.proofs.FaultLemmas.{bind_ok, chosen, ok_or_ok, test_ok}
use Rattle.json_trees.proofs.TreeLemmas.{and_then_some}
use Rattle.containers.specs.TextMaps.Keyed.{text_order}
use Rattle.object_ids.specs.Names.{is_name, has_no_slash}
use Rattle.hdf_types.specs.Elems.{Elem}
use Rattle.hdf_types.specs.Reading.{type_of}
use Rattle.hdf_types.specs.Faults as types
use Rattle.hdf_types.proofs.TypeLemmas.{type_read, type_told}
use Rattle.shapes.specs.declared.Shape.{Shape}
use Rattle.shapes.specs.declared.ShapeFault.{ShapeFault}
use Rattle.shapes.specs.Shapes.{IsShape, shape_of}
use Rattle.shapes.proofs.ShapeLemmas.{shape_read, shape_told}
use Rattle.hdf_values.specs.Attributes.{Content, IsTypeAt, attribute_of, content, attribute}
use Rattle.hdf_values.specs.Shaped.{value_from}
use Rattle.hdf_values.specs.declared.attributes.Attribute.{Attribute}
use Rattle.hdf_values.specs.declared.attributes.AttributeFault.{AttributeFault}
use Rattle.hdf_values.specs.declared.faults.ValueFault.{ValueFault}
use Rattle.hdf_values.proofs.ContentLemmas.{same_attribute}
use Rattle.attributes.specs.AttributeMaps.{AttributeMap, longest_name, most_attributes}
use Rattle.groups_links.specs.GroupLinks.{most_links}
use Rattle.groups_links.specs.Targets.{link_in}
use Rattle.groups_links.specs.Titles.{most_of_title}
use Rattle.groups_links.specs.declared.target.LinkTo.{LinkTo}
use Rattle.groups_links.specs.declared.target.LinkTo.TheVariants as links
use Rattle.chunk_store.specs.Grids.{Grid}
use Rattle.object_ops.specs.Creation.Creations.{creation_of}
use Rattle.object_ops.specs.declared.creation.faults.CreationFault.{CreationFault}
use Rattle.documents.specs.Parts.Arrays.{array_at, blank, created, creation_at, creation_fault, filled_at, shape_at, shaped, value_at, value_fault, valued, with_bytes}
use Rattle.documents.specs.Parts.AttributeLists.{attribute_at, attribute_fault, attribute_or, attribute_step, attributes_at, content_at}
use Rattle.documents.specs.Parts.Faults.{Fault, fault}
use Rattle.documents.specs.Parts.Ids.{is_id}
use Rattle.documents.specs.Parts.Items.{members_at}
use Rattle.documents.specs.Parts.LinkLists.{hard_of, link_at, link_step, links_at, outward_of, target_at, target_by, target_of}
use Rattle.documents.specs.Parts.Names.{name_in, new_name, new_title, title_in, unless_there}
use Rattle.documents.specs.Parts.Paths.{under}
use Rattle.documents.specs.Parts.Spelled.{AreAttributesAt, AreLinksAt, HasCells, IsArray, IsNamed, IsTarget, IsTitled}
use Rattle.documents.specs.Parts.TitleMaps.{TargetMap}
use Rattle.documents.specs.Parts.Types.{kind_at, typed}
use Rattle.documents.specs.declared.parts.faults.DocCause.TheVariants.{NotADocument, BadType, BadShape, BadName, BadLink}
use Rattle.documents.specs.declared.parts.targets.Target.{Target}
use Rattle.documents.specs.declared.parts.targets.Target.TheVariants.{Hard, Soft, External}
use Rattle.documents.proofs.OfParts.ListedLemmas.{bind_at, listed_complete, listed_sound, not_ok}
use Rattle.containers.proofs.Plain.{ok_same}
use Rattle.hdf_types.proofs.ViewLemmas.{elem-elem_type}

-- what has a text at a key is an object
object_of_text : (k : List ℕ) (d : Data) (t : List ℕ) → text_at k d ≡ Some t → (ms : Members) × (as_object d ≡ Some ms)
object_of_text k null t e = absurd (none-some t e)
object_of_text k (boolean b) t e = absurd (none-some t e)
object_of_text k (number n) t e = absurd (none-some t e)
object_of_text k (string s) t e = absurd (none-some t e)
object_of_text k (array ds) t e = absurd (none-some t e)
object_of_text k (object ms) t e = (ms, refl)

members_there : (path : List ℕ) (d : Data) (k t : List ℕ) → text_at k d ≡ Some t → (ms : Members) × (members_at path d ≡ Ok ms)
members_there path d k t e =
    let o = object_of_text k d t e in
    (o.0, ap (λ (q : Option Members). ok_or q (fault path NotADocument)) o.1)

-- ---- names

-- a test whose failure is a fault that passed, and one that failed
test_not : {A : Type 0} (b : Bool) (f : Fault) (x y : A) → cond b (Err f) (Ok x) ≡ Ok y → (b ≡ false) × (x ≡ y)
test_not true f x y e = absurd (not_ok f y e)
test_not false f x y e = (refl, ok_same x y e)

name_sound : (most : ℕ) (path : List ℕ) (o : Option (List ℕ)) (name : List ℕ) → name_in most path o ≡ Ok name → (o ≡ Some name) × (is_name most name ≡ true)
name_sound most path None name e = absurd (not_ok (fault path BadName) name e)
name_sound most path (Some word) name e =
    let h = test_ok (is_name most word) (Ok word) (fault path BadName) name e in
    let same = ok_same word name h.1 in
    (ap Some same, subst (λ (t : List ℕ). is_name most t ≡ true) same h.0)

name_complete : (most : ℕ) (path : List ℕ) (o : Option (List ℕ)) (name : List ℕ) → o ≡ Some name → is_name most name ≡ true → name_in most path o ≡ Ok name
name_complete most path o name e good = ap (name_in most path) e ∙ cond-true (is_name most name) (Ok name) (Err (fault path BadName)) good

unless_sound : {X : Type 0} (path : List ℕ) (m : FinMap text_order X) (name n : List ℕ) → unless_there path m name ≡ Ok n → (contains_key m n ≡ false) × (name ≡ n)
unless_sound path m name n e =
    let h = test_not (contains_key m name) (fault path BadName) name n e in
    (subst (λ (t : List ℕ). contains_key m t ≡ false) h.1 h.0, h.1)

unless_complete : {X : Type 0} (path : List ℕ) (m : FinMap text_order X) (name : List ℕ) → contains_key m name ≡ false → unless_there path m name ≡ Ok name
unless_complete path m name new = cond-false (contains_key m name) (Err (fault path BadName)) (Ok name) new

new_name_sound : {X : Type 0} (path : List ℕ) (m : FinMap text_order X) (o : Option (List ℕ)) (name : List ℕ) → new_name path m o ≡ Ok name
    → (o ≡ Some name) × (is_name longest_name name ≡ true) × (contains_key m name ≡ false)
new_name_sound path m o name e =
    let a = bind_ok (name_in longest_name path o) _ name e in
    let there = unless_sound path m a.0 name a.2 in
    let named = name_sound longest_name path o a.0 a.1 in
    (named.0 ∙ ap Some there.1, subst (λ (t : List ℕ). is_name longest_name t ≡ true) there.1 named.1, there.0)

new_name_complete : {X : Type 0} (path : List ℕ) (m : FinMap text_order X) (o : Option (List ℕ)) (name : List ℕ) → o ≡ Some name → is_name longest_name name ≡ true → contains_key m name ≡ false → new_name path m o ≡ Ok name
new_name_complete path m o name e good new =
    bind_at (name_in longest_name path o) _ name _ (name_complete longest_name path o name e good) (unless_complete path m name new)

title_sound : {X : Type 0} (path : List ℕ) (m : FinMap text_order X) (o : Option (List ℕ)) (title : List ℕ) → new_title path m o ≡ Ok title
    → (o ≡ Some title) × (is_name most_of_title title ≡ true) × (has_no_slash title ≡ true) × (contains_key m title ≡ false)
title_sound path m o title e =
    let a = bind_ok (title_in path o) _ title e in
    let b = bind_ok (name_in most_of_title path o) _ a.0 a.1 in
    let one = test_ok (has_no_slash b.0) (Ok b.0) (fault path BadName) a.0 b.2 in
    let named = name_sound most_of_title path o b.0 b.1 in
    let there = unless_sound path m a.0 title a.2 in
    let same : b.0 ≡ title = ok_same b.0 a.0 one.1 ∙ there.1 in
    (named.0 ∙ ap Some same, subst (λ (t : List ℕ). is_name most_of_title t ≡ true) same named.1, subst (λ (t : List ℕ). has_no_slash t ≡ true) same one.0, there.0)

title_complete : {X : Type 0} (path : List ℕ) (m : FinMap text_order X) (o : Option (List ℕ)) (title : List ℕ)
    → o ≡ Some title → is_name most_of_title title ≡ true → has_no_slash title ≡ true → contains_key m title ≡ false → new_title path m o ≡ Ok title
title_complete path m o title e good one new =
    bind_at (title_in path o) _ title _
    (bind_at (name_in most_of_title path o) _ title _ (name_complete most_of_title path o title e good) (cond-true (has_no_slash title) (Ok title) (Err (fault path BadName)) one))
    (unless_complete path m title new)

-- ---- attributes

content_same : (c : Content) → content (attribute c) ≡ c
content_same c = ap (λ (k : Elem). record { kind = k; shape = c.shape; bytes = c.bytes }) (elem-elem_type c.kind)

content_sound : (path : List ℕ) (r : Result Content AttributeFault) (a : Attribute) → attribute_or path r ≡ Ok a → r ≡ Ok (content a)
content_sound path (Ok c) a e = ap Ok (sym (content_same c) ∙ ap content (ok_same (attribute c) a e))
content_sound path (Err f) a e = absurd (not_ok (attribute_fault path f) a e)

content_complete : (path : List ℕ) (r : Result Content AttributeFault) (a : Attribute) → r ≡ Ok (content a) → attribute_or path r ≡ Ok a
content_complete path r a e = ap (attribute_or path) e ∙ ap Ok (same_attribute (attribute (content a)) a (content_same (content a)))

attribute_sound : (path : List ℕ) (i : ℕ) (m n : AttributeMap) (d : Data) → attribute_step path i m d ≡ Ok n
    → (e : List ℕ × Attribute) × IsNamed d e × (contains_key m e.0 ≡ false) × (n ≡ insert m e.0 e.1)
unfolding attribute_at
attribute_sound path i m n d e =
    let at : List ℕ = under path (decimal i) in
    let a = bind_ok (members_at at d) _ n e in
    let b = bind_ok (new_name (under at (codes "name")) m (text_at (codes "name") d)) _ n a.2 in
    let c = bind_ok (content_at at d) _ n b.2 in
    let named = new_name_sound (under at (codes "name")) m (text_at (codes "name") d) b.0 b.1 in
    ((b.0, c.0), record { name = named.0; good = named.1; spelled = content_sound at (attribute_of d) c.0 c.1 }, named.2, sym (ok_same (insert m b.0 c.0) n c.2))

attribute_complete : (path : List ℕ) (i : ℕ) (m : AttributeMap) (d : Data) (e : List ℕ × Attribute) → IsNamed d e → contains_key m e.0 ≡ false → attribute_step path i m d ≡ Ok (insert m e.0 e.1)
unfolding attribute_at
attribute_complete path i m d e h new =
    let at : List ℕ = under path (decimal i) in
    let o = members_there at d (codes "name") e.0 h.name in
    bind_at (members_at at d) _ o.0 _ o.1
    (bind_at (new_name (under at (codes "name")) m (text_at (codes "name") d)) _ e.0 _ (new_name_complete (under at (codes "name")) m (text_at (codes "name") d) e.0 h.name h.good new)
    (bind_at (content_at at d) _ e.1 _ (content_complete at (attribute_of d) e.1 h.spelled) refl))

pub attributes_sound : (path : List ℕ) (o : Option Data) (m : AttributeMap) → attributes_at path o ≡ Ok m → AreAttributesAt o m
unfolding attributes_at
attributes_sound path o m e = listed_sound IsNamed (attribute_step path) (attribute_sound path) most_attributes path o m e

pub attributes_complete : (path : List ℕ) (o : Option Data) (m : AttributeMap) → AreAttributesAt o m → attributes_at path o ≡ Ok m
unfolding attributes_at
attributes_complete path o m h = listed_complete IsNamed (attribute_step path) (attribute_complete path) most_attributes path o m h

-- ---- links

outward_sound : (document d : Data) (o : Option LinkTo) (t : Target) → get (codes "id") d ≡ None → link_in d ≡ o → option_and_then outward_of o ≡ Some t → IsTarget document d t
outward_sound document d None t none is e = absurd (none-some t e)
outward_sound document d (Some (links.Hard id)) t none is e = absurd (none-some t e)
outward_sound document d (Some (links.Soft path)) t none is e = subst (IsTarget document d) (same_Some (Soft path) t e) (none, is)
outward_sound document d (Some (links.External path file)) t none is e = subst (IsTarget document d) (same_Some (External path file) t e) (none, is)

hard_sound : (document d : Data) (o : Option (List ℕ)) (t : Target) → text_at (codes "id") d ≡ o → hard_of document o ≡ Some t → IsTarget document d t
hard_sound document d None t is e = absurd (none-some t e)
hard_sound document d (Some id) t is e = elim (chosen (is_id id document) (Some (Hard id)) None (Some t) e) [
  | inl here ↦ subst (IsTarget document d) (same_Some (Hard id) t here.1) (is, here.0)
  | inr there ↦ absurd (none-some t there.1)
]

target_sound : (document d : Data) (o : Option Data) (t : Target) → get (codes "id") d ≡ o → target_by document o d ≡ Some t → IsTarget document d t
target_sound document d None t is e = outward_sound document d (link_in d) t is refl e
target_sound document d (Some id) t is e = hard_sound document d (as_str id) t (ap (option_and_then as_str) is) e

target_complete : (document d : Data) (t : Target) → IsTarget document d t → target_of document d ≡ Some t
target_complete document d (Hard id) h =
    let some = and_then_some as_str (get (codes "id") d) id h.0 in
    ap (λ (o : Option Data). target_by document o d) some.1 ∙ ap (hard_of document) some.2 ∙ cond-true (is_id id document) (Some (Hard id)) None h.1
target_complete document d (Soft path) h = ap (λ (o : Option Data). target_by document o d) h.0 ∙ ap (option_and_then outward_of) h.1
target_complete document d (External path file) h = ap (λ (o : Option Data). target_by document o d) h.0 ∙ ap (option_and_then outward_of) h.1

link_sound : (document : Data) (path : List ℕ) (i : ℕ) (m n : TargetMap) (d : Data) → link_step document path i m d ≡ Ok n
    → (e : List ℕ × Target) × IsTitled document d e × (contains_key m e.0 ≡ false) × (n ≡ insert m e.0 e.1)
unfolding link_at
link_sound document path i m n d e =
    let at : List ℕ = under path (decimal i) in
    let a = bind_ok (members_at at d) _ n e in
    let b = bind_ok (new_title (under at (codes "title")) m (text_at (codes "title") d)) _ n a.2 in
    let c = bind_ok (target_at document at d) _ n b.2 in
    let titled = title_sound (under at (codes "title")) m (text_at (codes "title") d) b.0 b.1 in
    let target = target_sound document d (get (codes "id") d) c.0 refl (ok_or_ok (target_of document d) (fault at BadLink) c.0 c.1) in
    ((b.0, c.0), record { title = titled.0; good = titled.1; one_part = titled.2; target = target }, titled.3, sym (ok_same (insert m b.0 c.0) n c.2))

link_complete : (document : Data) (path : List ℕ) (i : ℕ) (m : TargetMap) (d : Data) (e : List ℕ × Target) → IsTitled document d e → contains_key m e.0 ≡ false → link_step document path i m d ≡ Ok (insert m e.0 e.1)
unfolding link_at
link_complete document path i m d e h new =
    let at : List ℕ = under path (decimal i) in
    let o = members_there at d (codes "title") e.0 h.title in
    bind_at (members_at at d) _ o.0 _ o.1
    (bind_at (new_title (under at (codes "title")) m (text_at (codes "title") d)) _ e.0 _ (title_complete (under at (codes "title")) m (text_at (codes "title") d) e.0 h.title h.good h.one_part new)
    (bind_at (target_at document at d) _ e.1 _ (ap (λ (q : Option Target). ok_or q (fault at BadLink)) (target_complete document d e.1 h.target)) refl))

pub links_sound : (document : Data) (path : List ℕ) (o : Option Data) (m : TargetMap) → links_at document path o ≡ Ok m → AreLinksAt document o m
unfolding links_at
links_sound document path o m e = listed_sound (IsTitled document) (link_step document path) (link_sound document path) most_links path o m e

pub links_complete : (document : Data) (path : List ℕ) (o : Option Data) (m : TargetMap) → AreLinksAt document o m → links_at document path o ≡ Ok m
unfolding links_at
links_complete document path o m h = listed_complete (IsTitled document) (link_step document path) (link_complete document path) most_links path o m h

-- ---- types

typed_sound : (path : List ℕ) (d : Data) (r : Result Elem types.Fault) (e : Elem) → type_of d ≡ r → typed path r ≡ Ok e → type_of d ≡ Ok e
typed_sound path d (Ok x) e is h = is ∙ ap Ok (ok_same x e h)
typed_sound path d (Err f) e is h = absurd (not_ok (fault (under path (codes "type")) BadType) e h)

pub kind_sound : (path : List ℕ) (o : Option Data) (e : Elem) → kind_at path o ≡ Ok e → IsTypeAt o e
kind_sound path None e h = absurd (not_ok (fault (under path (codes "type")) BadType) e h)
kind_sound path (Some d) e h = type_told d e (typed_sound path d (type_of d) e refl h)

pub kind_complete : (path : List ℕ) (o : Option Data) (e : Elem) → IsTypeAt o e → kind_at path o ≡ Ok e
kind_complete path None e h = absurd h
kind_complete path (Some d) e h = ap (typed path) (type_read d e h)

-- ---- arrays

shaped_sound : (path : List ℕ) (r : Result Shape ShapeFault) (s : Shape) → shaped path r ≡ Ok s → r ≡ Ok s
shaped_sound path (Ok x) s h = ap Ok (ok_same x s h)
shaped_sound path (Err f) s h = absurd (not_ok (fault (under path (codes "shape")) BadShape) s h)

created_sound : (path : List ℕ) (r : Result (List ℕ × Option (List ℕ)) CreationFault) (p : List ℕ × Option (List ℕ)) → created path r ≡ Ok p → r ≡ Ok p
created_sound path (Ok x) p h = ap Ok (ok_same x p h)
created_sound path (Err f) p h = absurd (not_ok (creation_fault path f) p h)

valued_sound : (path : List ℕ) (r : Result (List ℕ) ValueFault) (bs : List ℕ) → valued path r ≡ Ok bs → r ≡ Ok bs
valued_sound path (Ok x) bs h = ap Ok (ok_same x bs h)
valued_sound path (Err f) bs h = absurd (not_ok (value_fault path) bs h)

-- a grid that was filled has the type, the shape, the chunk and the fill that it was made with
pub record IsMade (e : Elem) (s : Shape) (p : List ℕ × Option (List ℕ)) (g : Grid) : Type 0 where
  pub kind : g.kind ≡ e
  pub shape : g.shape ≡ s
  pub creation : (g.chunk, g.fill) ≡ p

made_blank : (e : Elem) (s : Shape) (p : List ℕ × Option (List ℕ)) → IsMade e s p (blank e s p)
made_blank e s p = record { kind = refl; shape = refl; creation = refl }

made_bytes : (e : Elem) (s : Shape) (p : List ℕ × Option (List ℕ)) (bs : List ℕ) → IsMade e s p (with_bytes (blank e s p) bs)
made_bytes e s p bs = record { kind = refl; shape = refl; creation = refl }

filled_sound : (path : List ℕ) (e : Elem) (s : Shape) (p : List ℕ × Option (List ℕ)) (o : Option Data) (g : Grid) → filled_at path e s p o ≡ Ok g → IsMade e s p g × HasCells o g
filled_sound path e s p None g h =
    let same = ok_same (blank e s p) g h in
    (subst (IsMade e s p) same (made_blank e s p), subst (HasCells None) same refl)
filled_sound path e s p (Some d) g h =
    let a = bind_ok (value_at path e s d) _ g h in
    let same = ok_same (with_bytes (blank e s p) a.0) g a.2 in
    (subst (IsMade e s p) same (made_bytes e s p a.0), subst (HasCells (Some d)) same (a.0, valued_sound path (value_from e s d) a.0 a.1, refl))

filled_complete : (path : List ℕ) (o : Option Data) (g : Grid) → HasCells o g → filled_at path g.kind g.shape (g.chunk, g.fill) o ≡ Ok g
filled_complete path None g h = ap Ok (sym h)
filled_complete path (Some d) g h =
    bind_at (value_at path g.kind g.shape d) _ h.0 _ (ap (valued path) h.1) (ap Ok (sym h.2))

pub array_sound : (path : List ℕ) (d : Data) (g : Grid) → array_at path d ≡ Ok g → IsArray d g
unfolding array_at
array_sound path d g h =
    let a = bind_ok (kind_at path (get (codes "type") d)) _ g h in
    let b = bind_ok (shape_at path (get (codes "shape") d)) _ g a.2 in
    let c = bind_ok (creation_at path a.0 b.0 (get (codes "creationProperties") d)) _ g b.2 in
    let f = filled_sound path a.0 b.0 c.0 (get (codes "value") d) g c.2 in
    let made = created_sound path (creation_of a.0 b.0 (get (codes "creationProperties") d)) c.0 c.1 in
    record {
      kind = subst (IsTypeAt (get (codes "type") d)) (sym f.0.kind) (kind_sound path (get (codes "type") d) a.0 a.1);
      shape = subst (IsShape (get (codes "shape") d) None) (sym f.0.shape)
          (shape_told (get (codes "shape") d) None b.0 (shaped_sound path (shape_of (get (codes "shape") d) None) b.0 b.1));
      creation = ap (λ (e : Elem). creation_of e g.shape (get (codes "creationProperties") d)) f.0.kind
          ∙ ap (λ (s : Shape). creation_of a.0 s (get (codes "creationProperties") d)) f.0.shape
          ∙ made ∙ ap Ok (sym f.0.creation);
      cells = f.1;
    }

pub array_complete : (path : List ℕ) (d : Data) (g : Grid) → IsArray d g → array_at path d ≡ Ok g
unfolding array_at
array_complete path d g h =
    bind_at (kind_at path (get (codes "type") d)) _ g.kind _ (kind_complete path (get (codes "type") d) g.kind h.kind)
    (bind_at (shape_at path (get (codes "shape") d)) _ g.shape _ (ap (shaped path) (shape_read (get (codes "shape") d) None g.shape h.shape))
    (bind_at (creation_at path g.kind g.shape (get (codes "creationProperties") d)) _ (g.chunk, g.fill) _ (ap (created path) h.creation)
    (filled_complete path (get (codes "value") d) g h.cells)))
