-- A walk over the entries of a map, each of which becomes an item of a list.
use Rattle.std.proofs.Common.{◌≡◌, List, [], ◌∷◌, ◌++◌, map, sym, ap, ◌∙◌, append_assoc}
use Rattle.std.proofs.lemmas.List.{map-append}

-- what is made so far, in front of what is left to make: one entry more is made
pub listed_more : {V D E : Type 0} (shown : V → D) (item : E → D) (done made : List V) (x : V) (es rest : List E) (e : E) (whole : List D)
    → made ≡ done ++ x ∷ [] → shown x ≡ item e → es ≡ e ∷ rest → map shown done ++ map item es ≡ whole → map shown made ++ map item rest ≡ whole
listed_more shown item done made x es rest e whole pushed same left so_far =
    ap (λ vs. map shown vs ++ map item rest) pushed
    ∙ ap (λ ds. ds ++ map item rest) (map-append shown done (x ∷ []))
    ∙ append_assoc (map shown done) (shown x ∷ []) (map item rest)
    ∙ ap (λ d. map shown done ++ d ∷ map item rest) same
    ∙ sym (ap (λ xs. map shown done ++ map item xs) left)
    ∙ so_far
