use Rattle.std.proofs.Common.{◌≡◌, ℕ, ◌+◌, ◌++◌, map}
use Rattle.serde_json.specs.View.{view}
use Rattle.hdf_types.specs.Elems.{text}
use Rattle.hdf_values.specs.Elements.{decoded}
use Rattle.hdf_values.specs.Nested.{AreEncoded, pieces}
use Rattle.hdf_values.proofs.texts.texts_list.Given as goal

-- the rest are texts, and its trees behind those in the list are the trees of all
abbrev pub invariant-loop : goal.invariant-loop
invariant-loop l =
    (rest : ℕ) → l.counter + rest ≡ l.count → AreEncoded (text l.kind) rest l.left
    × (map view l.list.items ++ map (decoded (text l.kind)) (pieces rest l.kind.len l.left) ≡ map (decoded (text l.kind)) (pieces l.count l.kind.len l.bytes))
