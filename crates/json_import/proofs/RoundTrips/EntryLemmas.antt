-- Attributes and links are read again from the lists that are printed of them.
use Rattle.std.proofs.Common.{◌≡◌, ℕ, true, inl, inr, List, [], ◌∷◌, map, Option, Some, None, option_map, if◌then◌else◌, codes, refl, sym, ap, subst, ◌∙◌}
use Rattle.std.specs.Cmp.Lexicographic.{nat_list_cmp_total}
use Rattle.std.specs.List.{AllByRecursion}
use Rattle.std.specs.FinMap.{FinMap, entries, get, same_map}
use Rattle.serde_json.specs.Data.{Data}
use Rattle.serde_json.specs.Find.{as_str, get as find}
use Rattle.json_trees.specs.Trees.{text_at}
use Rattle.json_trees.proofs.FaultLemmas.{chosen}
use Rattle.json_trees.proofs.TreeLemmas.{and_then_some, map_some}
use Rattle.containers.specs.TextMaps.Keyed.{text_order, with_values}
use Rattle.containers.proofs.TextMaps.KeyedMaps.{exact_texts}
use Rattle.containers.proofs.TextMaps.ValueMaps.{entries-values, get-values}
use Rattle.object_ids.specs.IdValues.{Id}
use Rattle.object_ids.specs.Names.{is_name}
use Rattle.shapes.specs.declared.printing.Form.TheVariants.{Document}
use Rattle.hdf_values.specs.Attributes.{content}
use Rattle.hdf_values.specs.declared.attributes.Attribute.{Attribute}
use Rattle.hdf_values.proofs.ElementLemmas.{list_of-items_of}
use Rattle.attributes.specs.AttributeMaps.{AttributeMap, most_attributes}
use Rattle.attributes.specs.AttributeTrees.{attribute_tree, attributes_list, entry_tree}
use Rattle.groups_links.specs.GroupLinks.{most_links}
use Rattle.groups_links.specs.Printed.{link_tree}
use Rattle.groups_links.specs.Targets.{IsSoundLink, IsText, file_at, link_by, link_in, most_of_text, outward_in, text_in}
use Rattle.groups_links.specs.declared.target.LinkTo.{LinkTo}
use Rattle.groups_links.specs.declared.target.LinkTo.TheVariants as links
use Rattle.groups_links.proofs.LinkLemmas.{printed_back}
use Rattle.documents.specs.Parts.Ids.{is_id}
use Rattle.documents.specs.Parts.Spelled.{AreAttributesAt, AreLinksAt, AreListed, IsNamed, IsTarget, IsTitled}
use Rattle.documents.specs.Parts.TitleMaps.{TargetMap}
use Rattle.documents.specs.declared.parts.targets.Target.{Target}
use Rattle.documents.specs.declared.parts.targets.Target.TheVariants.{Hard, Soft, External}
use Rattle.documents.specs.Domains.Domains.{is_there}
use Rattle.documents.specs.Domains.Entries.{is_shown, links_tree, shown_links, titled_tree}
use Rattle.documents.specs.declared.domains.home.Home.{Home}
use Rattle.json_import.specs.Fresh.Names.{Names, id_in}
use Rattle.json_import.specs.Fresh.Renamed.{renamed_link}
use Rattle.json_import.specs.RoundTrips.Renamed.{renamed_target}
use Rattle.json_import.specs.RoundTrips.Renamed.{text_in as fresh_text}
use Rattle.json_import.proofs.RoundTrips.ListLemmas.{filter_all, listed_few, listed_found, listed_of}
use Rattle.json_import.proofs.RoundTrips.PartLemmas.{content_again}
use Rattle.object_acts.specs.Objects.{Objects}

-- ---- attributes

-- a map whose values are seen as they are
pub values_same : {X : Type 0} (m : FinMap text_order X) → with_values (λ x. x) m ≡ m
values_same {X} m = same_map nat_list_cmp_total exact_texts _ _ (λ q. get-values nat_list_cmp_total (λ x. x) m q ∙ same (get m q)) where
  same : (o : Option X) → option_map (λ x. x) o ≡ o
  same None = refl
  same (Some x) = refl

named_again : (d : Data) (name : List ℕ) (a : Attribute) → IsNamed d (name, a)
    → IsNamed (attribute_tree name (content a) Document true) (name, a)
named_again d name a h = record {
  name = refl;
  good = h.good;
  spelled = content_again d (attribute_tree name (content a) Document true) (content a) h.spelled refl refl refl;
}

pub attributes_again : (o : Option Data) (m : AttributeMap) → AreAttributesAt o m
    → AreAttributesAt (Some (attributes_list m Document true)) m
attributes_again o m are =
    let listed = listed_of (λ a. a) most_attributes IsNamed (entry_tree Document true) m (listed_few most_attributes IsNamed o m are) (λ name a is.
    let found = listed_found most_attributes IsNamed o m are name a is in named_again found.0 name a found.1) in
    subst (λ (ds : List Data). AreListed most_attributes IsNamed ds m) (sym (list_of-items_of (map (entry_tree Document true) (entries m))))
    (subst (AreListed most_attributes IsNamed (map (entry_tree Document true) (entries m))) (values_same m) listed)

-- ---- the paths and files of links

text_sound : (d : Data) (text : List ℕ) → text_in d ≡ Some text → IsText text
text_sound d text e =
    let a = and_then_some (λ (s : List ℕ). if is_name most_of_text s then Some s else None) (as_str d) text e in
    elim (chosen (is_name most_of_text a.0) (Some a.0) None (Some text) a.2) [
      | inl good ↦ subst IsText (let both : Some a.0 ≡ Some text = good.1 in let same : a.0 ≡ text = cc in same) good.0
      | inr bad ↦ let both : None ≡ Some text = bad.1 in absurd (cc)
    ]

outward_sound : (path : Data) (file : Option Data) (link : LinkTo) → outward_in path file ≡ Some link → IsSoundLink link
outward_sound path None link e =
    let a = map_some links.Soft (text_in path) link e in
    subst IsSoundLink a.2 (text_sound path a.0 a.1)
outward_sound path (Some file) link e =
    let a = and_then_some (λ (p : List ℕ). option_map (links.External p) (text_in file)) (text_in path) link e in
    let b = map_some (links.External a.0) (text_in file) link a.2 in
    subst IsSoundLink b.2 (text_sound path a.0 a.1, text_sound file b.0 b.1)

by_sound : (path file : Option Data) (link : LinkTo) → link_by None path file ≡ Some link → IsSoundLink link
by_sound None file link e = let both : None ≡ Some link = e in absurd (cc)
by_sound (Some path) file link e = outward_sound path file link e

-- what leads to a path can be spelled
link_sound : (d : Data) (link : LinkTo) → find (codes "id") d ≡ None → link_in d ≡ Some link → IsSoundLink link
unfolding link_in
link_sound d link none e = by_sound (find (codes "h5path") d) (file_at d) link (ap (λ (o : Option Data). link_by o (find (codes "h5path") d) (file_at d)) (sym none) ∙ e)

-- ---- links under fresh ids

mapped : {A B C : Type 0} (f : B → C) (g : A → B) (xs : List A) → map f (map g xs) ≡ map (λ x. f (g x)) xs
mapped f g [] = refl
mapped f g (x ∷ xs) = ap (λ ys. f (g x) ∷ ys) (mapped f g xs)

pub titled_at : (title : List ℕ) (link : LinkTo) → text_at (codes "title") (link_tree title link Document) ≡ Some title
titled_at title (links.Hard id) = refl
titled_at title (links.Soft path) = refl
titled_at title (links.External path file) = refl

module _ (old new : Data) (objects : Objects) (home : Home) (names : Names) (root : Id)
    (there : (text : List ℕ) → is_there objects home (id_in names root text) ≡ true)
    (known : (text : List ℕ) → is_id (fresh_text names root text) new ≡ true)
  where
    abbrev renames : Target → LinkTo
    renames = renamed_link names root

    target_again : (d : Data) (title : List ℕ) (t : Target) → IsTarget old d t
        → IsTarget new (link_tree title (renames t) Document) (renamed_target names root t)
    target_again d title (Hard text) h = (refl, known text)
    target_again d title (Soft path) h = (refl, printed_back title (links.Soft path) Document (link_sound d (links.Soft path) h.0 h.1))
    target_again d title (External path file) h = (refl, printed_back title (links.External path file) Document (link_sound d (links.External path file) h.0 h.1))

    titled_again : (d : Data) (title : List ℕ) (t : Target) → IsTitled old d (title, t)
        → IsTitled new (titled_tree (title, renames t)) (title, renamed_target names root t)
    titled_again d title t h = record { title = titled_at title (renames t); good = h.good; one_part = h.one_part; target = target_again d title t h.target }

    all_shown : (t : Target) → is_shown objects home (renames t) ≡ true
    all_shown (Hard text) = there text
    all_shown (Soft path) = refl
    all_shown (External path file) = refl

    abbrev relinked : List ℕ × Target → List ℕ × LinkTo
    relinked e = (e.0, renames e.1)

    each_shown : (es : List (List ℕ × Target))
        → AllByRecursion (λ (e : List ℕ × LinkTo). is_shown objects home e.1 ≡ true) (map relinked es)
    each_shown [] = tt
    each_shown (e ∷ es) = (all_shown e.1, each_shown es)

    shown_all : (m : TargetMap)
        → shown_links objects home (entries (with_values renames m)) ≡ map (λ e. titled_tree (relinked e)) (entries m)
    shown_all m =
        ap (shown_links objects home) (entries-values nat_list_cmp_total renames m)
        ∙ ap (map titled_tree) (filter_all (λ e. is_shown objects home e.1) (map relinked (entries m)) (each_shown (entries m)))
        ∙ mapped titled_tree relinked (entries m)

    pub links_again : (o : Option Data) (m : TargetMap) → AreLinksAt old o m
        → AreLinksAt new (Some (links_tree objects home (with_values renames m))) (with_values (renamed_target names root) m)
    links_again o m are =
        let listed = listed_of (renamed_target names root) most_links (IsTitled new) (λ e. titled_tree (relinked e)) m (listed_few most_links (IsTitled old) o m are) (λ title t is.
        let found = listed_found most_links (IsTitled old) o m are title t is in titled_again found.0 title t found.1) in
        subst (λ (ds : List Data). AreListed most_links (IsTitled new) ds (with_values (renamed_target names root) m))
        (sym (list_of-items_of (shown_links objects home (entries (with_values renames m))) ∙ shown_all m)) listed
