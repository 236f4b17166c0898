-- What a writer gets of a document, tree by tree; for private clauses.
use Rattle.std.specs.Prelude.{◌≡◌, ℕ, List, ◌∷◌, Some}
use Rattle.json.specs.Token.{Token, key}
use Rattle.json.specs.Tree.{json_tokens, items_tokens, members_tokens}
use Rattle.json.specs.Written.{Written}
use Rattle.serde_json.specs.Data.{Data, Items, Members, no_members}
use Rattle.serde_json.specs.Read.{of_items, of_json, of_members}
use Rattle.serde_json.specs.Written.{items_outline, members_outline, outline}
use Rattle.json_trees.specs.Copied.{Adds}

-- the tree is read from what is written for it: its numbers from their digits, and of an object each key once and in order
abbrev pub ReadsBack : Data → Type 0
ReadsBack d = of_json (outline d) ≡ Some d

-- a writer got the tokens of a tree, from which it is read
pub record Prints (d : Data) (old new : Written) : Type 0 where
  pub added : Adds (json_tokens (outline d)) old new
  pub exact : ReadsBack d

-- those of the items of a list, with the bracket that closes it
pub record PrintsItems (ds : Items) (old new : Written) : Type 0 where
  pub added : Adds (items_tokens (items_outline ds)) old new
  pub exact : of_items (items_outline ds) ≡ Some ds

-- those of the members of an object, with the bracket that closes it
pub record PrintsMembers (ms : Members) (old new : Written) : Type 0 where
  pub added : Adds (members_tokens (members_outline ms)) old new
  pub exact : of_members (members_outline ms) no_members ≡ Some ms

abbrev pub member_tokens : List ℕ → Data → List Token
member_tokens k d = key k ∷ json_tokens (outline d)

-- those of one member
pub record PrintsMember (k : List ℕ) (d : Data) (old new : Written) : Type 0 where
  pub added : Adds (member_tokens k d) old new
  pub exact : ReadsBack d
