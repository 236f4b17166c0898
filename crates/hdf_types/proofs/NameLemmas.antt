-- Names that stand once.
use Rattle.std.proofs.Common.{◌≡◌, ◌≢◌, ℕ, suc, ◌||◌, Bool, true, false, not, List, [], ◌∷◌, ◌++◌, length, Option, Some, None, inl, inr, refl, sym, ap, ◌∙◌}
use Rattle.std.specs.Option.{is_some}
use Rattle.std.specs.List.{list_any, AllByRecursion}
use Rattle.std.specs.Str.{bytes_eq}
use Rattle.std.proofs.lemmas.Bool.{or_parts}
use Rattle.json_trees.proofs.TableLemmas.{equal_bytes, differs}
use Rattle.json_trees.proofs.FaultLemmas.{chosen}
use Rattle.hdf_types.specs.declared.types.Field.{Field}
use Rattle.hdf_types.specs.Views.{field_names}
use Rattle.hdf_types.specs.Reading.{first_again}
use Rattle.hdf_types.specs.Types.{IsDistinct}

-- no name of `earlier` is this one
abbrev Apart : List (List ℕ) → List ℕ → Type 0
Apart earlier n = AllByRecursion (λ m. m ≢ n) earlier

-- no name of `earlier` is among those that follow
abbrev Fresh : List (List ℕ) → List (List ℕ) → Type 0
Fresh earlier ns = AllByRecursion (λ n. AllByRecursion (λ m. m ≢ n) earlier) ns

not_equal : (m n : List ℕ) → bytes_eq m n ≡ false → m ≢ n
not_equal m n e same = cc (sym (ap (λ x. bytes_eq x n) same) ∙ e, equal_bytes n)

apart_told : (earlier : List (List ℕ)) (n : List ℕ) → list_any (λ m. bytes_eq m n) earlier ≡ false → Apart earlier n
apart_told [] n e = tt
apart_told (m ∷ earlier) n e =
    let parts = or_parts (bytes_eq m n) (list_any (λ m. bytes_eq m n) earlier) e in
    (not_equal m n parts.0, apart_told earlier n parts.1)

apart_read : (earlier : List (List ℕ)) (n : List ℕ) → Apart earlier n → list_any (λ m. bytes_eq m n) earlier ≡ false
apart_read [] n h = refl
apart_read (m ∷ earlier) n h = rw (differs m n h.0) (apart_read earlier n h.1)

apart_last : (earlier : List (List ℕ)) (m n : List ℕ) → Apart (earlier ++ m ∷ []) n → Apart earlier n × (m ≢ n)
apart_last [] m n h = (tt, h.0)
apart_last (s ∷ earlier) m n h =
    let rest = apart_last earlier m n h.1 in
    ((h.0, rest.0), rest.1)

apart_push : (earlier : List (List ℕ)) (m n : List ℕ) → Apart earlier n → m ≢ n → Apart (earlier ++ m ∷ []) n
apart_push [] m n h k = (k, tt)
apart_push (s ∷ earlier) m n h k = (h.0, apart_push earlier m n h.1 k)

fresh_last : (earlier : List (List ℕ)) (m : List ℕ) (ns : List (List ℕ)) → Fresh (earlier ++ m ∷ []) ns → Fresh earlier ns × Apart ns m
fresh_last earlier m [] h = (tt, tt)
fresh_last earlier m (n ∷ ns) h =
    let here = apart_last earlier m n h.0 in
    let rest = fresh_last earlier m ns h.1 in
    ((here.0, rest.0), (λ same. here.1 (sym same), rest.1))

fresh_push : (earlier : List (List ℕ)) (m : List ℕ) (ns : List (List ℕ)) → Fresh earlier ns → Apart ns m → Fresh (earlier ++ m ∷ []) ns
fresh_push earlier m [] h k = tt
fresh_push earlier m (n ∷ ns) h k = (apart_push earlier m n h.0 (λ same. k.0 (sym same)), fresh_push earlier m ns h.1 k.1)

none_again : (k : ℕ) (earlier ns : List (List ℕ)) → first_again k earlier ns ≡ None → Fresh earlier ns × IsDistinct ns
none_again k earlier [] e = (tt, tt)
none_again k earlier (n ∷ ns) e = elim (chosen (list_any (λ m. bytes_eq m n) earlier) (Some k) (first_again (suc k) (earlier ++ n ∷ []) ns) None e) [
  | inl p ↦ cc
  | inr p ↦
      let rest = none_again (suc k) (earlier ++ n ∷ []) ns p.1 in
      let parts = fresh_last earlier n ns rest.0 in
      ((apart_told earlier n p.0, parts.0), (parts.1, rest.1))
]

again_none : (k : ℕ) (earlier ns : List (List ℕ)) → Fresh earlier ns → IsDistinct ns → first_again k earlier ns ≡ None
again_none k earlier [] h d = refl
again_none k earlier (n ∷ ns) h d = rw (apart_read earlier n h.0) (again_none (suc k) (earlier ++ n ∷ []) ns (fresh_push earlier n ns h.1 d.0) d.1)

fresh_none : (ns : List (List ℕ)) → Fresh [] ns
fresh_none [] = tt
fresh_none (n ∷ ns) = (tt, fresh_none ns)

pub distinct_told : (ns : List (List ℕ)) → first_again 0 [] ns ≡ None → IsDistinct ns
distinct_told ns e = (none_again 0 [] ns e).1

pub distinct_read : (ns : List (List ℕ)) → IsDistinct ns → first_again 0 [] ns ≡ None
distinct_read ns h = again_none 0 [] ns (fresh_none ns) h

pub distinct_found : (o : Option ℕ) (b : Bool) (ns : List (List ℕ)) → o ≡ first_again 0 [] ns → is_some o ≡ not b → (b ≡ true → IsDistinct ns) × (IsDistinct ns → b ≡ true)
distinct_found None true ns e s = (λ h. distinct_told ns (sym e), λ h. refl)
distinct_found None false ns e s = cc
distinct_found (Some k) true ns e s = cc
distinct_found (Some k) false ns e s = (λ h. cc, λ h. cc (distinct_read ns h))

pub as_many_names : (fs : List Field) → length (field_names fs) ≡ length fs
as_many_names [] = refl
as_many_names (f ∷ fs) = ap suc (as_many_names fs)
