use Rattle.std.proofs.Common.{◌≡◌, ◌∙◌, ℕ, List, [], ◌∷◌, Bool, ◌==◌, ◌||◌, refl, ap, map, codes, rules, tests}
use Rattle.std.proofs.lemmas.Iterator.Search.{any_from_yields_List}
use Rattle.std.proofs.lemmas.Iterator.Splits.{YieldsList-from_slice_split}
use Rattle.std.specs.List.{list_any, slice_split}
use Rattle.std.specs.Str.{str_eq_ignore_ascii_case}
use Rattle.httparse.specs.Grammar.{trim_ows}
use Rattle.http_wire.proofs.closing.says_close.Goals as goal

any-map : (p : List ℕ → Bool) (f : List ℕ → List ℕ) (xs : List (List ℕ)) → list_any (λ x. p (f x)) xs ≡ list_any p (map f xs)
any-map p f [] = refl
any-map p f (x ∷ xs) = ap (λ b. p (f x) || b) (any-map p f xs)

pub returns : goal.returns
returns c =
    any_from_yields_List (λ word. str_eq_ignore_ascii_case (trim_ows word) (codes "close")) _ _ _ c.any.ensures.ran
    (YieldsList-from_slice_split _ (λ byte. byte == 44) c.args.value.now c.split.ensures.rest c.split.ensures.done c.split.ensures.closure
    (λ x r q k. search (rules, tests)))
    (λ x b q k. search (rules, tests))
    ∙ any-map (λ word. str_eq_ignore_ascii_case word (codes "close")) trim_ows (slice_split (λ byte. byte == 44) c.args.value.now)
