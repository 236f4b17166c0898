-- The texts of a `Value` are UTF-8.
use Rattle.std.proofs.Common.{List, [], ◌∷◌, map, sym, subst}
use Rattle.std.proofs.lemmas.Str.{IsUtf8-string_bytes}
use Rattle.serde_json.specs.Data.{Data}
use Rattle.serde_json.specs.View.{view, view_step, items_of}
use Rattle.serde_json.specs.declared.value.Value.{Value, map-Value}
use Rattle.serde_json.specs.declared.value.Value.TheOpen.{Value-F}
use Rattle.serde_json.specs.declared.value.Value.TheFolds.{fold-roll-Value, ind-Value}
use Rattle.json_trees.specs.Trees.{AreTexts, AreItemTexts}

abbrev HasTexts : Value → Type 0
HasTexts v = AreTexts (view v)

items_texts : (vs : List ((v : Value) × HasTexts v)) → AreItemTexts (items_of (map view (map (λ e. e.0) vs)))
items_texts [] = tt
items_texts (v ∷ vs) = (v.1, items_texts vs)

-- one level, with each value inside beside its texts
level_texts : (y : Value-F ((v : Value) × HasTexts v)) → AreTexts (view_step (map-Value Value Data view (map-Value ((v : Value) × HasTexts v) Value (λ e. e.0) y)))
level_texts Value-F.Null = tt
level_texts (Value-F.Bool b) = tt
level_texts (Value-F.Number n) = tt
level_texts (Value-F.String s) = IsUtf8-string_bytes s
level_texts (Value-F.Array v) = items_texts v.items
level_texts (Value-F.Object m) = tt

pub value_texts : (v : Value) → AreTexts (view v)
value_texts = ind-Value HasTexts (λ x y is.
    let level = subst (λ z. AreTexts (view_step (map-Value Value Data view z))) is (level_texts y) in
    subst AreTexts (sym (fold-roll-Value Data view_step x)) level)
