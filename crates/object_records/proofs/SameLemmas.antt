-- What is kept of objects tells them apart.
use Rattle.std.proofs.Common.{◌≡◌, Option, Some, None, option_map, refl, sym, ap, ◌∙◌}
use Rattle.std.specs.FinMap.{FinMap, get, same_map}
use Rattle.std.proofs.lemmas.Cmp.{nat_list_cmp_total}
use Rattle.containers.specs.TextMaps.Keyed.{text_order, with_values}
use Rattle.containers.proofs.TextMaps.KeyedMaps.{exact_texts}
use Rattle.containers.proofs.TextMaps.ValueMaps.{get-values}
use Rattle.hdf_types.specs.Views.{elem}
use Rattle.hdf_values.specs.Attributes.{Content, content}
use Rattle.hdf_values.specs.declared.attributes.Attribute.{Attribute}
use Rattle.hdf_values.proofs.ContentLemmas.{same_attribute, same_type}
use Rattle.object_acts.specs.declared.objects.Body.{Body}
use Rattle.object_acts.specs.declared.objects.Body.TheVariants.{Group, Dataset, Datatype}
use Rattle.object_records.specs.Entries.{kept_of}
use Rattle.object_records.specs.Same.{IsSameBody}

same_there : (o p : Option Attribute) → option_map content o ≡ option_map content p → o ≡ p
same_there None None e = refl
same_there None (Some b) e = cc
same_there (Some a) None e = cc
same_there (Some a) (Some b) e = ap Some (same_attribute a b (let same : content a ≡ content b = cc in same))

pub same_names : (m n : FinMap text_order Attribute) → with_values content m ≡ with_values content n → m ≡ n
same_names m n e = same_map nat_list_cmp_total exact_texts m n (λ q.
    same_there (get m q) (get n q)
    (sym (get-values nat_list_cmp_total content m q) ∙ ap (λ (k : FinMap text_order Content). get k q) e ∙ get-values nat_list_cmp_total content n q))

pub same_body : (a b : Body) → kept_of a ≡ kept_of b → IsSameBody a b
same_body (Group l) (Group m) e = let same : l ≡ m = cc in same
same_body (Group l) (Dataset y) e = cc
same_body (Group l) (Datatype t) e = cc
same_body (Dataset x) (Group m) e = cc
same_body (Dataset x) (Dataset y) e = record { kind = cc; shape = cc; chunk = cc; fill = cc }
same_body (Dataset x) (Datatype t) e = cc
same_body (Datatype s) (Group m) e = cc
same_body (Datatype s) (Dataset y) e = cc
same_body (Datatype s) (Datatype t) e = same_type s t (let same : elem s ≡ elem t = cc in same)
