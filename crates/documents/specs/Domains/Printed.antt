-- The text of a document.
use Rattle.std.specs.Prelude.{◌≡◌, ◌≤◌, ℕ, List, IsUtf8, Some}
use Rattle.serde_json.specs.Data.{Data, depth}
use Rattle.serde_json.specs.Read.{max_depth, read}
use Rattle.serde_json.specs.Written.{compact_text}

-- a text is UTF-8, and is read as the tree where that nests no deeper than is read
pub record ReadsAs (text : List ℕ) (tree : Data) : Type 0 where
  pub utf8 : IsUtf8 text
  pub reads : depth tree ≤ max_depth → read text ≡ Some tree

-- this is the compact text of the document, which is read as the document
pub record IsPrinted (tree : Data) (text : List ℕ) : Type 0 where
  pub told : text ≡ compact_text tree
  pub reads : ReadsAs text tree
