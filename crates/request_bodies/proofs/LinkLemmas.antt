-- Texts, and the ids and titles that they are.
use Rattle.std.proofs.Common.{◌≡◌, ◌≢◌, ◌∙◌, ap, ℕ, List, [], ◌∷◌, Bool, true, false, not, nat_eq, cond, Result, Ok, Err, All, refl}
use Rattle.std.proofs.lemmas.Bool.{and_from, eqb-true}
use Rattle.std.proofs.lemmas.List.Elements.{All-head, All-tail}
use Rattle.json_trees.specs.Faults.{◌>>=◌}
use Rattle.groups_links.specs.Titles.{IsGoodTitle}
use Rattle.object_ops.specs.declared.refusals.Refusal.{Refusal}
use Rattle.object_ops.specs.declared.refusals.Refusal.TheVariants.{BadName}
use Rattle.request_bodies.specs.Bodies.{name_in, title_in}
use Rattle.object_ids.specs.Names.{has_no_slash}

other_byte : (b : ℕ) (t : Bool) → nat_eq b 47 ≡ t → b ≢ 47 → not t ≡ true
other_byte b true e other = absurd (other (eqb-true b 47 e))
other_byte b false e other = refl

pub no_slash : (text : List ℕ) → All (λ byte. byte ≢ 47) text → has_no_slash text ≡ true
no_slash [] h = refl
no_slash (b ∷ bs) h =
    and_from (not (nat_eq b 47)) (has_no_slash bs) (other_byte b _ refl (All-head (λ byte. byte ≢ 47) b bs h)) (no_slash bs (All-tail (λ byte. byte ≢ 47) b bs h))

-- a name that is a good title is one
pub titled : (text title : List ℕ) → name_in text ≡ Ok title → IsGoodTitle title → title_in text ≡ Ok title
titled text title e good =
    let next : List ℕ → Result (List ℕ) Refusal = λ name. cond (has_no_slash name) (Ok name) (Err BadName) in
    ap (λ r. r >>= next) e ∙ ap (λ (b : Bool). cond b (Ok title) (Err BadName)) (no_slash title good.one_part)
