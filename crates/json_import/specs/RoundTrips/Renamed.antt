-- What a document holds, under the texts of fresh ids.
--     text_in names root text      the text of the id for which a text stands
--     at_texts text h m      a map with each value, seen as something else, at another text
--     renamed l root      the value of a document whose root has this id
use Rattle.std.specs.Prelude.{ℕ, List, map}
use Rattle.std.specs.FinMap.{FinMap, empty, entries}
use Rattle.containers.specs.TextMaps.Keyed.{text_order, with_values, with_entries}
use Rattle.object_ids.specs.IdValues.{Id}
use Rattle.object_ids.specs.Ids.{text_of_id}
use Rattle.documents.specs.declared.parts.targets.Target.{Target}
use Rattle.documents.specs.declared.parts.targets.Target.TheVariants.{Hard, Soft, External}
use Rattle.documents.specs.declared.reader.loaded.Group.{Group}
use Rattle.documents.specs.declared.reader.loaded.Loaded.{Loaded}
use Rattle.json_import.specs.Fresh.Names.{Names, id_in, names_of}

abbrev pub text_in : Names → Id → List ℕ → List ℕ
text_in names root text = text_of_id (id_in names root text)

abbrev pub at_texts : {X Y : Type 0} → (List ℕ → List ℕ) → (X → Y) → FinMap text_order X → FinMap text_order Y
at_texts text h m = with_entries empty (map (λ e. (text e.0, h e.1)) (entries m))

-- a hard link leads to the text of the fresh id, and each other link where it led
abbrev pub renamed_target : Names → Id → Target → Target
renamed_target names root (Hard text) = Hard (text_in names root text)
renamed_target names root (Soft path) = Soft path
renamed_target names root (External path file) = External path file

abbrev pub renamed_group : Names → Id → Group → Group
renamed_group names root g = record { attributes = g.attributes; links = with_values (renamed_target names root) g.links }

-- each object at the text of its fresh id, and the links to it as well; all else stays
abbrev pub renamed : Loaded → Id → Loaded
renamed l root =
    let names = names_of l root in
    let text = text_in names root in
    record {
      root = text_of_id root;
      groups = at_texts text (renamed_group names root) l.groups;
      datasets = at_texts text (λ d. d) l.datasets;
      datatypes = at_texts text (λ t. t) l.datatypes;
    }
