-- The token that a header's value shows, in two ways of saying it.
use Rattle.std.proofs.Common.{◌≡◌, ℕ, List, [], ◌∷◌, ◌++◌, map, length, take, drop, Bool, true, false, ◌==◌, Option, Some, None, is_some, codes, if◌then◌else◌, refl, ap, sym, ◌∙◌, true≢false, take-append-drop, ⊎_elim}
use Rattle.std.specs.Char.{to_ascii_lowercase}
use Rattle.std.specs.List.{list_all}
use Rattle.std.proofs.Math.Seq.{take-append_seam, drop-append_seam}
use Rattle.std.proofs.lemmas.Bool.{cases_Bool, eqb-true, and_from, not-true, not_from_false, and_parts}
use Rattle.std.proofs.lemmas.List.{length-map}
use Rattle.std.proofs.lemmas.Slice.Eq.{bytes_eq-Decides}
use Rattle.std.proofs.lemmas.Option.{same_Some}
use Rattle.access_lists.specs.Tokens.Bearer.{ShowsToken, after_spaces, bearer_token, begins_token, if_any, is_bearer, without_spaces}

is_space : ℕ → Bool
is_space byte = byte == 32

module _ {A : Type 0} (b : Bool) (x y : A) where
  if_yes : b ≡ true → (if b then x else y) ≡ x
  if_yes h = ap (λ t. if t then x else y) h

  if_no : b ≡ false → (if b then x else y) ≡ y
  if_no h = ap (λ t. if t then x else y) h

-- what is something comes from the first branch, where the second is nothing
if_some : (b : Bool) (o : Option (List ℕ)) (token : List ℕ) → (if b then o else None) ≡ Some token → (b ≡ true) × (o ≡ Some token)
if_some true o token h = (refl, h)
if_some false o token h = absurd (true≢false (sym (ap is_some h)))

-- ---- from the parts to the token

skips : (spaces token : List ℕ) → list_all (λ byte. byte == 32) spaces ≡ true → begins_token token ≡ true → without_spaces (spaces ++ token) ≡ token
skips [] [] blank begins = refl
skips [] (byte ∷ bytes) blank begins = if_no _ _ _ (not-true (byte == 32) begins)
skips (space ∷ spaces) token blank begins =
    if_yes _ _ _ (and_parts (space == 32) _ blank).0 ∙ skips spaces token (and_parts (space == 32) _ blank).1 begins

if_any-token : (token : List ℕ) → begins_token token ≡ true → if_any token ≡ Some token
if_any-token [] begins = absurd (true≢false (sym begins))
if_any-token (byte ∷ bytes) begins = refl

front : (n : ℕ) (xs ys : List ℕ) → length xs ≡ n → take n (xs ++ ys) ≡ xs
front n xs ys e = ap (λ k. take k (xs ++ ys)) (sym e) ∙ take-append_seam xs ys

back : (n : ℕ) (xs ys : List ℕ) → length xs ≡ n → drop n (xs ++ ys) ≡ ys
back n xs ys e = ap (λ k. drop k (xs ++ ys)) (sym e) ∙ drop-append_seam xs ys

pub token-from_parts : (value token : List ℕ) → ShowsToken value token → bearer_token value ≡ Some token
token-from_parts value token shown =
    let six : length shown.scheme ≡ 6 = sym (length-map shown.scheme to_ascii_lowercase) ∙ ap length shown.named in
    let rest : List ℕ = 32 ∷ (shown.spaces ++ token) in
    let word : is_bearer (take 6 value) ≡ true =
    ap (λ v. is_bearer (take 6 v)) shown.parts ∙ ap is_bearer (front 6 shown.scheme rest six)
    ∙ (bytes_eq-Decides (map to_ascii_lowercase shown.scheme) (codes "bearer")).1 shown.named in
    if_yes _ _ _ word
    ∙ ap (λ v. after_spaces (drop 6 v)) shown.parts
    ∙ ap after_spaces (back 6 shown.scheme rest six)
    ∙ ap if_any (skips shown.spaces token shown.blank shown.begins)
    ∙ if_any-token token shown.begins

-- ---- from the token to the parts

record Rest (bytes token : List ℕ) : Type 0 where
  spaces : List ℕ
  blank : list_all (λ byte. byte == 32) spaces ≡ true
  begins : begins_token token ≡ true
  parts : bytes ≡ spaces ++ token

one_space : (byte : ℕ) (bytes token : List ℕ) → (byte == 32) ≡ true → Rest bytes token → Rest (byte ∷ bytes) token
one_space byte bytes token spaced rest = record {
  spaces = byte ∷ rest.spaces;
  blank = and_from (byte == 32) _ spaced rest.blank;
  begins = rest.begins;
  parts = ap (λ bs. byte ∷ bs) rest.parts;
}

no_space : (byte : ℕ) (bytes token : List ℕ) → (byte == 32) ≡ false → Some (byte ∷ bytes) ≡ Some token → Rest (byte ∷ bytes) token
no_space byte bytes token other h = record {
  spaces = [];
  blank = refl;
  begins = ap begins_token (sym (same_Some _ _ h)) ∙ not_from_false (byte == 32) other;
  parts = same_Some _ _ h;
}

rest-from : (bytes token : List ℕ) → if_any (without_spaces bytes) ≡ Some token → Rest bytes token
rest-from [] token h = absurd (true≢false (sym (ap is_some h)))
rest-from (byte ∷ bytes) token h =
    ⊎_elim
    (λ spaced. one_space byte bytes token spaced (rest-from bytes token (sym (ap if_any (if_yes _ _ _ spaced)) ∙ h)))
    (λ other. no_space byte bytes token other (sym (ap if_any (if_no _ _ _ other)) ∙ h))
    (cases_Bool (byte == 32))

space_is : (byte : ℕ) → (byte == 32) ≡ true → byte ≡ 32
space_is byte h = eqb-true byte 32 h

shows : (value token bytes : List ℕ) → is_bearer (take 6 value) ≡ true → drop 6 value ≡ bytes → after_spaces bytes ≡ Some token → ShowsToken value token
shows value token [] word is h = absurd (true≢false (sym (ap is_some h)))
shows value token (byte ∷ bytes) word is h =
    let inner = if_some (byte == 32) (if_any (without_spaces bytes)) token h in
    let rest : Rest bytes token = rest-from bytes token inner.1 in
    record {
      scheme = take 6 value;
      spaces = rest.spaces;
      named = (bytes_eq-Decides (map to_ascii_lowercase (take 6 value)) (codes "bearer")).0 word;
      blank = rest.blank;
      begins = rest.begins;
      parts = sym (take-append-drop 6 value) ∙ ap (λ bs. take 6 value ++ bs) (is ∙ ap (λ b. b ∷ bytes) (space_is byte inner.0) ∙ ap (λ bs. 32 ∷ bs) rest.parts);
    }

pub parts-from_token : (value token : List ℕ) → bearer_token value ≡ Some token → ShowsToken value token
parts-from_token value token h =
    let inner = if_some (is_bearer (take 6 value)) (after_spaces (drop 6 value)) token h in
    shows value token (drop 6 value) inner.0 refl inner.1
