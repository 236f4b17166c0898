-- The tree that a text is kept for.
use Rattle.std.specs.Prelude.{ℕ, List, [], Option, Some, None}
use Rattle.json.specs.Lex.{tokens}
use Rattle.json.specs.Token.{Token}
use Rattle.serde_json.specs.Data.{Data, null}
use Rattle.serde_json.specs.Read.{read, max_depth}
use Rattle.json_trees.specs.Copied.{Reads}
use Rattle.json_trees.specs.Trees.{AreTexts}

abbrev pub or_null : Option Data → Data
or_null None = null
or_null (Some d) = d

abbrev pub kept_tree : List ℕ → Data
kept_tree text = or_null (read text)

-- the tokens begin with those of a value that reads as the tree
abbrev pub Begins : (from : List Token) (tree : Data) (rest : List Token) → Type 0
Begins from tree rest = Reads max_depth from tree rest

-- the text is that of a tree, whose texts are UTF-8
abbrev pub IsKept : List ℕ → Type 0
IsKept text = (tree : Data) × Begins (tokens text) tree [] × AreTexts tree
