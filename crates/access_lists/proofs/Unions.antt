-- What some entries give, and one entry more.
use Rattle.std.proofs.Common.{◌≡◌, List, [], ◌∷◌, ◌++◌, ◌||◌, Option, Some, None, filter_map, option_map, ap, ◌∙◌, append-nil}
use Rattle.std.specs.List.{list_any, cons_option}
use Rattle.std.proofs.lemmas.List.Folds.{list_any-append}
use Rattle.std.proofs.lemmas.List.Elements.{filter_map-append}
use Rattle.std.proofs.Math.Bool.{or-false}
use Rattle.access_lists.specs.declared.right.Right.{Right}
use Rattle.access_lists.specs.declared.rights.Rights.{Rights}
use Rattle.access_lists.specs.RightWords.{holds}
use Rattle.access_lists.specs.InForce.{union_holds, joined}

union-one : (right : Right) (es : List Rights) (entry : Option Rights)
    → union_holds right (es ++ cons_option entry []) ≡ joined (option_map (holds right) entry) (union_holds right es)
union-one right es None = ap (union_holds right) (append-nil es)
union-one right [] (Some e) = ap Some (or-false (holds right e))
union-one right (d ∷ es) (Some e) = ap Some (list_any-append (holds right) (d ∷ es) (e ∷ []) ∙ ap (λ b. list_any (holds right) (d ∷ es) || b) (or-false (holds right e)))

pub union-push : {G : Type 0} (right : Right) (entry_of : G → Option Rights) (gs : List G) (g : G)
    → union_holds right (filter_map entry_of (gs ++ g ∷ [])) ≡ joined (option_map (holds right) (entry_of g)) (union_holds right (filter_map entry_of gs))
union-push right entry_of gs g = ap (union_holds right) (filter_map-append entry_of gs (g ∷ [])) ∙ union-one right (filter_map entry_of gs) (entry_of g)
