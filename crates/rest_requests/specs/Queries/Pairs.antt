-- The pairs of a query.
use Rattle.std.specs.Prelude.{ℕ, List, Option, find, map, option_map}
use Rattle.std.specs.Str.{bytes_eq}
use Rattle.std.specs.Str.Lossy.{utf8_lossy}
use Rattle.form_urlencoded.specs.Form.{decode, raw_pairs}

abbrev pub Text : Type 0
Text = List ℕ

-- the text of a name or a value, with U+FFFD for what is not UTF-8
abbrev pub text_of : Text → Text
text_of piece = utf8_lossy (decode piece)

abbrev pub texts_of : List (Text × Text) → List (Text × Text)
texts_of pairs = map (λ (name, value). (text_of name, text_of value)) pairs

-- names and values in their order
abbrev pub pairs_of : Text → List (Text × Text)
pairs_of query = texts_of (raw_pairs query)

-- the value of the first pair of this name
abbrev pub value_of : Text → List (Text × Text) → Option Text
value_of key pairs = option_map (λ pair. pair.1) (find (λ pair. bytes_eq pair.0 key) pairs)
