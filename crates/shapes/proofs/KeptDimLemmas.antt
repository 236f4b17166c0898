-- Dims that are kept extent by extent are those of the whole list.
use Rattle.std.proofs.Common.{◌≡◌, ◌≤◌, ◌++◌, ◌∷◌, ℕ, Bool, true, false, cond, nat_le, nat_lt, List, [], length, Option, Some, None, option_map, option_and_then, refl, sym, ap, ◌∙◌, arith, append_assoc, append-nil, length-append}
use Rattle.std.proofs.Math.Bool.{and-false}
use Rattle.std.proofs.lemmas.Bool.Decides.{nat_tests}
use Rattle.serde_json.specs.Data.{Data}
use Rattle.json_trees.specs.Trees.{all_in}
use Rattle.shapes.specs.declared.TheConstants.{MAX_RANK}
use Rattle.shapes.specs.Extents.{extent_in}
use Rattle.shapes.specs.Spelled.{dims_with, few_of}

-- dims with the extents of trees, one after another
abbrev pub dims_after : Option (List ℕ) → List Data → Option (List ℕ)
dims_after o [] = o
dims_after o (d ∷ ds) = dims_after (dims_with o (extent_in d)) ds

none_after : (ds : List Data) → dims_after None ds ≡ None
none_after [] = refl
none_after (d ∷ ds) = none_after ds

grouped : (ns : List ℕ) (n : ℕ) (all : Option (List ℕ)) → option_and_then (λ ms. few_of ((ns ++ n ∷ []) ++ ms)) all ≡ option_and_then (λ ms. few_of (ns ++ ms)) (option_map (λ ms. n ∷ ms) all)
grouped ns n None = refl
grouped ns n (Some ms) = ap few_of (append_assoc ns (n ∷ []) ms)

too_many : (ns : List ℕ) (n : ℕ) (all : Option (List ℕ)) → MAX_RANK ≤ length ns → option_and_then (λ ms. few_of (ns ++ ms)) (option_map (λ ms. n ∷ ms) all) ≡ None
too_many ns n None h = refl
too_many ns n (Some ms) h =
    let fails : nat_le (length (ns ++ n ∷ ms)) MAX_RANK ≡ false = grind (arith, nat_tests, length-append ns (n ∷ ms), h) in
    rw (fails, and-false (nat_le 1 (length (ns ++ n ∷ ms)))) refl

-- one extent more
dims_step : (ns : List ℕ) (ds : List Data) (o : Option ℕ) (b : Bool) (all : Option (List ℕ)) → nat_lt (length ns) MAX_RANK ≡ b
    → ((n : ℕ) → option_and_then few_of (dims_after (Some (ns ++ n ∷ [])) ds) ≡ option_and_then (λ ms. few_of ((ns ++ n ∷ []) ++ ms)) all)
    → option_and_then few_of (dims_after (dims_with (Some ns) o) ds) ≡ option_and_then (λ ms. few_of (ns ++ ms)) (option_and_then (λ n. option_map (λ ms. n ∷ ms) all) o)
dims_step ns ds None b all e more = ap (option_and_then few_of) (none_after ds)
dims_step ns ds (Some n) true all e more = ap (λ c. option_and_then few_of (dims_after (cond c (Some (ns ++ n ∷ [])) None) ds)) e ∙ more n ∙ grouped ns n all
dims_step ns ds (Some n) false all e more =
    let full : MAX_RANK ≤ length ns = grind (arith, nat_tests, e) in
    ap (λ c. option_and_then few_of (dims_after (cond c (Some (ns ++ n ∷ [])) None) ds)) e ∙ ap (option_and_then few_of) (none_after ds) ∙ sym (too_many ns n all full)

dims_kept : (ns : List ℕ) (ds : List Data) → option_and_then few_of (dims_after (Some ns) ds) ≡ option_and_then (λ ms. few_of (ns ++ ms)) (all_in extent_in ds)
dims_kept ns [] = sym (ap few_of (append-nil ns))
dims_kept ns (d ∷ ds) = dims_step ns ds (extent_in d) (nat_lt (length ns) MAX_RANK) (all_in extent_in ds) refl (λ n. dims_kept (ns ++ n ∷ []) ds)

pub dims_of_all : (ds : List Data) → option_and_then few_of (dims_after (Some []) ds) ≡ option_and_then few_of (all_in extent_in ds)
dims_of_all ds = dims_kept [] ds
