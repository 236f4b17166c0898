-- What is read from a reader, and passed to a writer: values that read as data.
use Rattle.std.specs.Prelude.{◌≡◌, ◌≤◌, ℕ, List, ◌++◌, Some}
use Rattle.json.specs.Json as json
use Rattle.json.specs.Token.{Token}
use Rattle.json.specs.Tree.{json_tokens, items_tokens, members_tokens, depth, items_depth, members_depth}
use Rattle.json.specs.Written.{Written}
use Rattle.serde_json.specs.Data.{Data, Items, Members}
use Rattle.serde_json.specs.Read.{of_json, of_items, of_members}
use Rattle.json_trees.specs.Trees.{AreTexts, AreItemTexts}

-- ---- what is read

-- the tokens begin with those of a value that reads as the tree
pub record Reads (most : ℕ) (from : List Token) (tree : Data) (rest : List Token) : Type 0 where
  pub value : json.Json
  pub tokens : from ≡ json_tokens value ++ rest
  pub shallow : depth value ≤ most
  pub reads : of_json value ≡ Some tree

-- with those of the items of an array, with the bracket that closes it
pub record ReadsItems (most : ℕ) (from : List Token) (trees : Items) (rest : List Token) : Type 0 where
  pub items : json.Items
  pub tokens : from ≡ items_tokens items ++ rest
  pub shallow : items_depth items ≤ most
  pub reads : of_items items ≡ Some trees

-- with those of the members of an object, with the bracket that closes it, whatever members came before
pub record ReadsMembers (most : ℕ) (from rest : List Token) : Type 0 where
  pub members : json.Members
  pub tokens : from ≡ members_tokens members ++ rest
  pub shallow : members_depth members ≤ most
  pub reads : (before : Members) → (all : Members) × (of_members members before ≡ Some all)

-- ---- what is passed on

-- a writer got these tokens behind its old ones, and what stood before them stays
pub record Adds (ts : List Token) (old new : Written) : Type 0 where
  pub tokens : new.tokens ≡ old.tokens ++ ts
  pub before : new.before ≡ old.before

-- a value was read, and a writer got its tokens
pub record Copies (most : ℕ) (from rest : List Token) (old new : Written) : Type 0 where
  pub tree : Data
  pub read : Reads most from tree rest
  pub texts : AreTexts tree
  pub added : Adds (json_tokens read.value) old new

-- the same of the items of an array
pub record CopiesItems (most : ℕ) (from rest : List Token) (old new : Written) : Type 0 where
  pub trees : Items
  pub read : ReadsItems most from trees rest
  pub texts : AreItemTexts trees
  pub added : Adds (items_tokens read.items) old new

-- the same of the members of an object
pub record CopiesMembers (most : ℕ) (from rest : List Token) (old new : Written) : Type 0 where
  pub read : ReadsMembers most from rest
  pub added : Adds (members_tokens read.members) old new
