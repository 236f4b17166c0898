-- Null, told by its token.
use Rattle.std.proofs.Common.{◌≡◌, ◌++◌, ◌∷◌, List, [], Option, Some, None, option_map, Ok, Err, refl, sym, ap, ◌∙◌}
use Rattle.json.specs.Json as json
use Rattle.json.specs.Token.{Token}
use Rattle.json.specs.Tree.{json_tokens}
use Rattle.serde_json.specs.Data.{Data, Items, Members, Num, null, boolean, number, string, array, object}
use Rattle.serde_json.specs.Read.{number_of, of_items, of_json, of_members}
use Rattle.serde_json.specs.Data.{no_members}
use Rattle.json_trees.specs.Kept.{Begins}
use Rattle.hdf_values.specs.Shaped.{null_from}
use Rattle.hdf_values.specs.declared.faults.ValueFault.TheVariants.{NotOfType}

number_apart : (o : Option Num) → option_map number o ≡ Some null → ⊥
number_apart None e = absurd (cc)
number_apart (Some n) e = absurd (cc)

array_apart : (o : Option Items) → option_map array o ≡ Some null → ⊥
array_apart None e = absurd (cc)
array_apart (Some ds) e = absurd (cc)

object_apart : (o : Option Members) → option_map object o ≡ Some null → ⊥
object_apart None e = absurd (cc)
object_apart (Some ms) e = absurd (cc)

null_first : (v : json.Json) (ts : List Token) → json_tokens v ++ [] ≡ Token.null ∷ ts → of_json v ≡ Some null
null_first json.null ts e = refl
null_first (json.boolean b) ts e = absurd (cc)
null_first (json.number s) ts e = absurd (cc)
null_first (json.string s) ts e = absurd (cc)
null_first (json.array js) ts e = absurd (cc)
null_first (json.object ms) ts e = absurd (cc)

-- a tree whose first token is null is null
pub null_there : (from ts : List Token) (d : Data) → Begins from d [] → from ≡ Token.null ∷ ts → null_from d ≡ Ok []
null_there from ts d h e = let both : Some d ≡ Some null = sym h.reads ∙ null_first h.value ts (sym h.tokens ∙ e) in let same : d ≡ null = cc in ap null_from same

null_token : (from : List Token) (v : json.Json) → from ≡ json_tokens v ++ [] → of_json v ≡ Some null → ((ts : List Token) → from ≡ Token.null ∷ ts → ⊥) → ⊥
null_token from json.null e is none = none [] e
null_token from (json.boolean b) e is none = cc
null_token from (json.number s) e is none = number_apart (number_of s) is
null_token from (json.string s) e is none = cc
null_token from (json.array js) e is none = array_apart (of_items js) is
null_token from (json.object ms) e is none = object_apart (of_members ms no_members) is

-- any other isn't
pub null_missing : (from : List Token) (d : Data) → Begins from d [] → ((ts : List Token) → from ≡ Token.null ∷ ts → ⊥) → null_from d ≡ Err (NotOfType 0)
null_missing from null h none = absurd (null_token from h.value h.tokens h.reads none)
null_missing from (boolean b) h none = refl
null_missing from (number n) h none = refl
null_missing from (string s) h none = refl
null_missing from (array ds) h none = refl
null_missing from (object ms) h none = refl
