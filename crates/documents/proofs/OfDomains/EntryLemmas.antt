-- The entries of objects.
use Rattle.std.proofs.Common.{◌≡◌, true, false, refl}
use Rattle.std.specs.FinMap.{entries}
use Rattle.std.specs.List.{filter}
use Rattle.serde_json.specs.Written.{has_float}
use Rattle.hdf_types.specs.Views.{elem}
use Rattle.shapes.specs.Shapes.{cells_of}
use Rattle.shapes.specs.declared.printing.Form.TheVariants.{Document}
use Rattle.chunk_store.specs.Grids.{reads}
use Rattle.object_acts.specs.Objects.{unmarked, unmarked_body, Objects}
use Rattle.object_acts.specs.declared.objects.Object.{Object}
use Rattle.object_acts.specs.declared.objects.Body.{Body}
use Rattle.object_acts.specs.declared.objects.Body.TheVariants.{Group, Dataset, Datatype}
use Rattle.object_acts.proofs.OfExact.Floats.{attributes_exact, creation_exact, link_exact, list_exact, neither, shape_exact, type_exact, value_exact}
use Rattle.attributes.specs.AttributeTrees.{attributes_list}
use Rattle.documents.specs.Domains.Entries.{body_tree, entry_tree, is_shown, titled_tree}
use Rattle.documents.specs.declared.domains.home.Home.{Home}

-- it doesn't matter which chunks of an array have changed
pub entry_unmarked : (m : Objects) (h : Home) (o : Object) → entry_tree m h (unmarked o) ≡ entry_tree m h o
entry_unmarked m h o = at o.body where
  at : (b : Body) → body_tree m h (attributes_list o.attributes Document true) (unmarked_body b) ≡ body_tree m h (attributes_list o.attributes Document true) b
  at (Group links) = refl
  at (Dataset array) = refl
  at (Datatype type) = refl

-- no number of an entry has a fraction or an exponent
pub entry_exact : (m : Objects) (h : Home) (o : Object) → has_float (entry_tree m h o) ≡ false
entry_exact m h o = at o.body where
  at : (b : Body) → has_float (body_tree m h (attributes_list o.attributes Document true) b) ≡ false
  at (Group links) =
      neither (attributes_exact o.attributes Document true)
      (neither (list_exact titled_tree (filter (λ e. is_shown m h e.1) (entries links)) (λ e. link_exact e.0 e.1 Document)) refl)
  at (Dataset array) =
      let g = array.grid in
      neither (attributes_exact o.attributes Document true)
      (neither (creation_exact g)
      (neither (shape_exact g.shape Document)
      (neither (type_exact g.kind)
      (neither (value_exact g.kind g.shape (reads g (cells_of g.shape))) refl))))
  at (Datatype type) = neither (attributes_exact o.attributes Document true) (neither (type_exact (elem type)) refl)
