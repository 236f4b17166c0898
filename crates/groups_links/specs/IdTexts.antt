-- The id that a text is.
use Rattle.std.specs.Prelude.{ℕ, ◌^◌, ◌&&◌, nat_eq, nat_lt, List, drop, Bool, Option, Some, None, option_and_then, codes, if◌then◌else◌}
use Rattle.std.specs.Int.{from_be_bytes, w128}
use Rattle.std.specs.List.{starts_with}
use Rattle.std.specs.Str.{bytes_eq}
use Rattle.object_ids.specs.Text.{parsed}
use Rattle.object_ids.specs.Ids.{id_in, text_of_id}
use Rattle.object_ids.specs.IdValues.{Id}
use Rattle.object_ids.specs.declared.ids.Kind.{Kind}
use Rattle.object_ids.specs.declared.ids.Kind.TheVariants.{Group, Dataset, Datatype}

-- the kind that a text begins with
abbrev pub kind_in : List ℕ → Kind
kind_in text =
    if starts_with nat_eq text (codes "g-") then Group
    else if starts_with nat_eq text (codes "d-") then Dataset
    else Datatype

-- whether the parts of an id are as small as an id's are, and the text is the id's
abbrev pub is_text_of : Id → List ℕ → Bool
is_text_of id text =
    nat_lt id.domain (2 ^ 48) && nat_lt id.run (2 ^ 22) && nat_lt id.serial (2 ^ 40) && bytes_eq (text_of_id id) text

-- an id, where the text is its own
abbrev pub id_with : List ℕ → Id → Option Id
id_with text id = if is_text_of id text then Some id else None

-- the id whose text this is: the one in the bits of the UUID behind the kind
unfoldable pub id_of : List ℕ → Option Id
id_of text = option_and_then (λ bytes. id_with text (id_in (kind_in text) (from_be_bytes w128 bytes))) (parsed (drop 2 text))
