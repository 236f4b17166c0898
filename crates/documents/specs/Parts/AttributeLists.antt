-- The attributes of an object of a document: the first fault in the stated order.
use Rattle.std.specs.Prelude.{◌≡◌, ◌<◌, ◌≤◌, ◌⊎◌, ℕ, List, [], ◌∷◌, Option, Some, None, Result, Ok, Err, IsOkAnd, codes, decimal}
use Rattle.std.specs.FinMap.{empty, get, insert}
use Rattle.serde_json.specs.Data.{Data, Members}
use Rattle.json_trees.specs.Faults.{◌>>=◌, Gives as GivesTold, Leaves as LeavesTold}
use Rattle.json_trees.specs.Trees.{list_in, text_at}
use Rattle.hdf_values.specs.Attributes.{Content, attribute_of, attribute}
use Rattle.hdf_values.specs.declared.attributes.Attribute.{Attribute}
use Rattle.hdf_values.specs.declared.attributes.AttributeFault.{AttributeFault}
use Rattle.hdf_values.specs.declared.attributes.AttributeFault.TheVariants as attributes
use Rattle.attributes.specs.AttributeMaps.{AttributeMap, most_attributes}
use Rattle.shapes.specs.RowMajor.{room_of}
use Rattle.shapes.specs.Shapes.{dims_of}
use Rattle.shapes.specs.declared.Shape.{Shape}
use Rattle.documents.specs.Parts.Faults.{Fails, Fault, Tells, fault}
use Rattle.documents.specs.Parts.Items.{listed_at, members_at}
use Rattle.documents.specs.Parts.Names.{new_name}
use Rattle.documents.specs.Parts.Paths.{under}
use Rattle.documents.specs.declared.parts.faults.AttributesFault.{AttributesFault}
use Rattle.documents.specs.declared.parts.faults.AttributesFault.TheVariants.{Doc, TooManyCells}
use Rattle.documents.specs.declared.parts.faults.DocCause.TheVariants.{BadType, BadShape, BadValue, Limit}
use Rattle.documents.specs.declared.parts.faults.DocFault.{DocFault}
use Rattle.documents.specs.declared.parts.faults.DocFault.TheVariants.{NoMemory}

-- the fault of an attribute stands at the key that is missing or wrong; a value with too many bytes passes a limit
abbrev pub attribute_fault : List ℕ → AttributeFault → Fault
attribute_fault path attributes.NoMemory = fault path BadValue
attribute_fault path (attributes.BadType f) = fault (under path (codes "type")) BadType
attribute_fault path (attributes.BadShape f) = fault (under path (codes "shape")) BadShape
attribute_fault path attributes.TooLarge = fault (under path (codes "value")) Limit
attribute_fault path (attributes.BadValue f) = fault (under path (codes "value")) BadValue

-- what is told of the fault of a call
abbrev pub IsToldOf : List ℕ → AttributeFault → DocFault → Type 0
IsToldOf path attributes.NoMemory e = e ≡ NoMemory
IsToldOf path (attributes.BadType f) e = Tells e (attribute_fault path (attributes.BadType f))
IsToldOf path (attributes.BadShape f) e = Tells e (attribute_fault path (attributes.BadShape f))
IsToldOf path attributes.TooLarge e = Tells e (attribute_fault path attributes.TooLarge)
IsToldOf path (attributes.BadValue f) e = Tells e (attribute_fault path (attributes.BadValue f))

abbrev pub attribute_or : List ℕ → Result Content AttributeFault → Result Attribute Fault
attribute_or path (Ok c) = Ok (attribute c)
attribute_or path (Err f) = Err (attribute_fault path f)

-- its type, its shape, its size and its value
abbrev pub content_at : List ℕ → Data → Result Attribute Fault
content_at path d = attribute_or path (attribute_of d)

-- one attribute more
unfoldable pub attribute_at : List ℕ → AttributeMap → Data → Result AttributeMap Fault
attribute_at path m d =
    members_at path d >>= λ (ms : Members).
    new_name (under path (codes "name")) m (text_at (codes "name") d) >>= λ (name : List ℕ).
    content_at path d >>= λ (a : Attribute).
    Ok (insert m name a)

-- the same at an index of a list
abbrev pub attribute_step : List ℕ → ℕ → AttributeMap → Data → Result AttributeMap Fault
attribute_step path i m d = attribute_at (under path (decimal i)) m d

-- the attributes of a list at a path; an absent one has none
unfoldable pub attributes_at : List ℕ → Option Data → Result AttributeMap Fault
attributes_at path o = listed_at most_attributes path (attribute_step path) empty o

-- ---- how many cells an attribute may have

-- how many cells a shape has, with an extent of 0 counted as 1
abbrev pub room : Shape → ℕ
room shape = room_of (dims_of shape)

-- the most of them that an attribute of a document may have
abbrev pub most_cells : ℕ
most_cells = 65536

-- no attribute has more
abbrev pub HaveFewCells : AttributeMap → Type 0
HaveFewCells m = (name : List ℕ) (a : Attribute) → get m name ≡ Some a → room a.shape ≤ most_cells

-- the tree spells an attribute that has more
abbrev pub HasManyCells : Data → Type 0
HasManyCells d = IsOkAnd (attribute_of d) (λ c. most_cells < room c.shape)

-- one of the trees does
abbrev pub OneHasManyCells : List Data → Type 0
OneHasManyCells [] = ⊥
OneHasManyCells (d ∷ ds) = HasManyCells d ⊎ OneHasManyCells ds

abbrev pub ListHasManyCells : Option (List Data) → Type 0
ListHasManyCells None = ⊥
ListHasManyCells (Some ds) = OneHasManyCells ds

-- one member of the list does; an absent one has none
abbrev pub OneAtHasManyCells : Option Data → Type 0
OneAtHasManyCells None = ⊥
OneAtHasManyCells (Some d) = ListHasManyCells (list_in d)

-- one fault tells what a document's fault tells; the other, that there are too many cells somewhere
abbrev pub TellsOr : {A : Type 0} → Type 0 → AttributesFault → Result A Fault → Type 0
TellsOr many (Doc e) r = Fails e r
TellsOr many TooManyCells r = many

-- a call gives what the tests find, or tells a fault
abbrev pub AnswersOr : {A : Type 0} → Type 0 → Result A AttributesFault → Result A Fault → Type 0
AnswersOr many given found = GivesTold (TellsOr many) (λ x. x) given found

-- a call leaves behind what the tests find, or tells a fault
abbrev pub LeavesOr : {A T : Type 0} → Type 0 → Result T AttributesFault → A → Result A Fault → Type 0
LeavesOr many given new found = LeavesTold (TellsOr many) given new found
