-- Every path is a name, of as many bytes as a path may have.
use Rattle.std.proofs.Common.{◌≡◌, ℕ, ◌<◌, inl, inr, Bool, true, false, ◌&&◌, cond, List, [], ◌∷◌, length, nat_lt, nat_le, Some, None, refl, sym, ap, subst, ◌∙◌, arith}
use Rattle.std.specs.List.{list_all, onto_first, slice_split}
use Rattle.std.specs.Str.{bytes_eq}
use Rattle.std.proofs.lemmas.Bool.{and_from, and_parts, cases_Bool, eqb-true, false≢true, lt-ltb, or_cases}
use Rattle.std.proofs.lemmas.List.Splits.{length-slice_split, slice_split-cons_no, slice_split-cons_yes}
use Rattle.std.proofs.lemmas.Option.{same_Some}
use Rattle.std.proofs.lemmas.Slice.Eq.{bytes_eq-Decides}
use Rattle.object_ids.specs.Names.{is_name, is_name_byte}
use Rattle.object_ids.specs.Paths.{is_part, is_path, is_slash, most_of_part, most_of_path, parts_of, path_of, root_path, starts_with_slash, without_trailing_slash}

-- each part has the bytes of a name
part_bytes : (parts : List (List ℕ)) → list_all is_part parts ≡ true → list_all (list_all is_name_byte) parts ≡ true
part_bytes [] h = refl
part_bytes (part ∷ parts) h =
    let both = and_parts (is_part part) (list_all is_part parts) h in
    let named = and_parts _ _ (and_parts _ _ both.0).0 in
    let bytes = and_parts (nat_lt 0 (length part) && nat_le (length part) most_of_part) (list_all is_name_byte part) named.0 in
    and_from (list_all is_name_byte part) (list_all (list_all is_name_byte) parts) bytes.1 (part_bytes parts both.1)

-- of the first part the first byte, and the others
first_bytes : (byte : ℕ) (parts : List (List ℕ)) → 0 < length parts → list_all (list_all is_name_byte) (onto_first byte parts) ≡ true
    → (is_name_byte byte ≡ true) × (list_all (list_all is_name_byte) parts ≡ true)
first_bytes byte [] some h = absurd (omega arith)
first_bytes byte (part ∷ parts) some h =
    let both = and_parts (is_name_byte byte && list_all is_name_byte part) (list_all (list_all is_name_byte) parts) h in
    let front = and_parts (is_name_byte byte) (list_all is_name_byte part) both.0 in
    (front.0, and_from (list_all is_name_byte part) (list_all (list_all is_name_byte) parts) front.1 both.1)

slash_byte : (byte : ℕ) → is_slash byte ≡ true → is_name_byte byte ≡ true
slash_byte byte h = subst (λ (n : ℕ). is_name_byte n ≡ true) (sym (eqb-true byte 47 h)) refl

text_bytes : (text : List ℕ) → list_all (list_all is_name_byte) (slice_split is_slash text) ≡ true → list_all is_name_byte text ≡ true
text_bytes [] h = refl
text_bytes (byte ∷ text) h = elim (cases_Bool (is_slash byte)) [
  | inl slash ↦ and_from (is_name_byte byte) (list_all is_name_byte text) (slash_byte byte slash)
      (text_bytes text (sym (ap (list_all (list_all is_name_byte)) (slice_split-cons_yes is_slash byte text slash)) ∙ h))
  | inr other ↦
      let both = first_bytes byte (slice_split is_slash text) (omega (arith, length-slice_split is_slash text))
      (sym (ap (list_all (list_all is_name_byte)) (slice_split-cons_no is_slash byte text other)) ∙ h) in
      and_from (is_name_byte byte) (list_all is_name_byte text) both.0 (text_bytes text both.1)
]

long_is_name : (path : List ℕ) → nat_le (length path) most_of_path ≡ true → starts_with_slash path ≡ true → list_all is_part (parts_of path) ≡ true → is_name most_of_path path ≡ true
long_is_name [] small begins parts = absurd (false≢true begins)
long_is_name (byte ∷ path) small begins parts =
    and_from (nat_lt 0 (length (byte ∷ path)) && nat_le (length (byte ∷ path)) most_of_path) (list_all is_name_byte (byte ∷ path))
    (and_from (nat_lt 0 (length (byte ∷ path))) (nat_le (length (byte ∷ path)) most_of_path) (lt-ltb 0 (length (byte ∷ path)) (omega arith)) small)
    (and_from (is_name_byte byte) (list_all is_name_byte path) (slash_byte byte begins) (text_bytes path (part_bytes (slice_split is_slash path) parts)))

named : (path : List ℕ) → is_path path ≡ true → is_name most_of_path path ≡ true
named path h = elim (or_cases (bytes_eq path root_path) _ h) [
  | inl same ↦ subst (λ (p : List ℕ). is_name most_of_path p ≡ true) (sym ((bytes_eq-Decides path root_path).0 same)) refl
  | inr long ↦
      let halves = and_parts (nat_le (length path) most_of_path && starts_with_slash path) (list_all is_part (parts_of path)) long in
      let fronts = and_parts (nat_le (length path) most_of_path) (starts_with_slash path) halves.0 in
      long_is_name path fronts.0 fronts.1 halves.1
]

if_some : (b : Bool) (x y : List ℕ) → cond b (Some x) None ≡ Some y → (b ≡ true) × (x ≡ y)
if_some true x y e = (refl, same_Some x y e)
if_some false x y e = absurd (cc)

pub path_is_name : (path : List ℕ) → path_of path ≡ Some path → is_name most_of_path path ≡ true
path_is_name path canonical =
    let both = if_some (is_path (without_trailing_slash path)) (without_trailing_slash path) path canonical in
    subst (λ (p : List ℕ). is_name most_of_path p ≡ true) both.1 (named (without_trailing_slash path) both.0)
