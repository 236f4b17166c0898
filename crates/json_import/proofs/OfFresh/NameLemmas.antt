-- The texts of a map's keys, and how many serials these take.
use Rattle.std.proofs.Common.{◌≡◌, ℕ, ◌+◌, List, [], ◌∷◌, length, map, sym, ap, ◌∙◌, arith}
use Rattle.std.proofs.lemmas.List.{length-map}
use Rattle.std.proofs.lemmas.Simd.{map-map}
use Rattle.std.specs.FinMap.{FinMap, entries, keys, len, len-entries}
use Rattle.containers.specs.TextMaps.Keyed.{keyed, text_order}
use Rattle.object_ids.specs.declared.ids.Kind.{Kind}
use Rattle.json_import.specs.Fresh.Names.{name_each, name_next}
use Rattle.json_import.specs.declared.fresh.names.Naming.{Naming}

module _ {K X : Type 0} (bytes : K → List ℕ) where
  pub keys_keyed : (m : FinMap text_order X) (es : List (K × X)) → entries m ≡ keyed bytes es → keys m ≡ map (λ e. bytes e.0) es
  keys_keyed m es is = ap (map (λ e. e.0)) is ∙ map-map (λ (e : List ℕ × X). e.0) (λ (e : K × X). (bytes e.0, e.1)) es

  pub many_keyed : (m : FinMap text_order X) (es : List (K × X)) → entries m ≡ keyed bytes es → len m ≡ length es
  many_keyed m es is = len-entries m ∙ ap length is ∙ length-map es (λ e. (bytes e.0, e.1))

last_named : (k : Kind) (texts : List (List ℕ)) (n : Naming) → (name_each k n texts).last.serial ≡ n.last.serial + length texts
last_named k [] n = omega arith
last_named k (text ∷ texts) n = let later = last_named k texts (name_next k n text) in omega (arith, later)

-- the ids of a map's texts are as many as it has keys
pub serials_taken : {X : Type 0} (k : Kind) (m : FinMap text_order X) (n new : Naming) → new ≡ name_each k n (keys m)
    → new.last.serial ≡ n.last.serial + len m
serials_taken k m n new is =
    ap (λ (x : Naming). x.last.serial) is ∙ last_named k (keys m) n
    ∙ ap (λ many. n.last.serial + many) (length-map (entries m) (λ e. e.0) ∙ sym (len-entries m))
