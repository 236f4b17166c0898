-- Names that are short, and titles.
use Rattle.std.proofs.Common.{◌≡◌, ◌≢◌, ◌≤◌, ℕ, List, [], ◌∷◌, All, Bool, true, false, not, ◌==◌, ◌&&◌, length, nat_lt, nat_le, eq-eqb, refl, sym, ◌∙◌}
use Rattle.std.specs.List.{list_all}
use Rattle.std.proofs.lemmas.Bool.{false≢true, leb-true, and_parts}
use Rattle.std.proofs.lemmas.List.Elements.{All-cons, All-nil}
use Rattle.object_ids.specs.Names.{is_name, is_name_byte, has_no_slash}
use Rattle.groups_links.specs.Titles.{IsGoodTitle, most_of_title}

-- a name is as short as it is to be
pub name_short : (most : ℕ) (text : List ℕ) → is_name most text ≡ true → length text ≤ most
name_short most text name =
    let all = and_parts (nat_lt 0 (length text) && nat_le (length text) most) (list_all is_name_byte text) name in
    leb-true (length text) most (and_parts (nat_lt 0 (length text)) (nat_le (length text) most) all.0).1

other_byte : (b : Bool) (byte : ℕ) → (byte == 47) ≡ b → not b ≡ true → byte ≢ 47
other_byte true byte e h = absurd (false≢true h)
other_byte false byte e h = λ same. false≢true (sym e ∙ eq-eqb byte 47 same)

no_byte : (text : List ℕ) → has_no_slash text ≡ true → All (λ byte. byte ≢ 47) text
no_byte [] h = All-nil (λ byte. byte ≢ 47)
no_byte (b ∷ bs) h =
    let both = and_parts (not (b == 47)) (has_no_slash bs) h in
    All-cons (λ byte. byte ≢ 47) b bs (other_byte (b == 47) b refl both.0) (no_byte bs both.1)

-- a short name without a slash is a title
pub title_good : (title : List ℕ) → length title ≤ most_of_title → has_no_slash title ≡ true → IsGoodTitle title
title_good title short one = record { short = short; one_part = no_byte title one }
