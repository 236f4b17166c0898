-- What a reader stands before: the tokens of a value, of items, of members.
use Rattle.std.specs.Prelude.{◌≡◌, ◌≤◌, List, ◌++◌, Some}
use Rattle.json.specs.Json as json
use Rattle.json.specs.Token.{Token}
use Rattle.json.specs.Tree.{json_tokens, items_tokens, members_tokens, depth, items_depth, members_depth}
use Rattle.serde_json.specs.Data.{Items, Members}
use Rattle.serde_json.specs.Read.{max_depth, of_items, of_members}

-- the tokens begin with those of a value
pub record IsValue (from rest : List Token) : Type 0 where
  pub value : json.Json
  pub tokens : from ≡ json_tokens value ++ rest
  pub shallow : depth value ≤ max_depth

-- with those of the items of an array, and the bracket that closes it
pub record AreItems (from rest : List Token) : Type 0 where
  pub items : json.Items
  pub tokens : from ≡ items_tokens items ++ rest
  pub shallow : items_depth items ≤ max_depth

-- with those of items that read as these trees
pub record AreTrees (from : List Token) (trees : Items) (rest : List Token) : Type 0 where
  pub items : json.Items
  pub tokens : from ≡ items_tokens items ++ rest
  pub shallow : items_depth items ≤ max_depth
  pub reads : of_items items ≡ Some trees

-- with those of the members of an object, and the bracket that closes it
pub record AreMembers (from rest : List Token) : Type 0 where
  pub members : json.Members
  pub tokens : from ≡ members_tokens members ++ rest
  pub shallow : members_depth members ≤ max_depth

-- with those of members that read as all these, where some came before
pub record AreReadMembers (from : List Token) (before all : Members) (rest : List Token) : Type 0 where
  pub members : json.Members
  pub tokens : from ≡ members_tokens members ++ rest
  pub shallow : members_depth members ≤ max_depth
  pub reads : of_members members before ≡ Some all
