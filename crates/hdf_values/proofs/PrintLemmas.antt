-- What a writer has got, token by token.
use Rattle.std.proofs.Common.{◌≡◌, ◌++◌, ◌∷◌, ◌*◌, ◌≤◌, [], ℕ, suc, ℤ, pos, negsuc, List, Result, OnOk, length, map, take, drop, get_or, refl, sym, ap, subst, ◌∙◌, append_assoc, arith}
use Rattle.std.proofs.lemmas.Result.{on_ok_weaker}
use Rattle.std.specs.Fmt.{signed_decimal}
use Rattle.json.specs.Print.{print}
use Rattle.json.specs.Token.{Token, begin_array, end_array, begin_object, end_object, key}
use Rattle.json.specs.Tree.{json_tokens}
use Rattle.json.specs.Written.{Written, Writes}
use Rattle.serde_json.specs.Data.{Data}
use Rattle.serde_json.specs.Find.{of_integer}
use Rattle.serde_json.specs.Written.{number_text, outline, compact_text}
use Rattle.serde_json.proofs.Texts.{print-outline}
use Rattle.hdf_types.specs.Elems.{Elem, FieldList}
use Rattle.hdf_types.specs.Reading.{size_of}
use Rattle.shapes.specs.RowMajor.{cell_count}
use Rattle.hdf_values.specs.Elements.{decoded, fields_decoded}
use Rattle.hdf_values.specs.Nested.{pieces, nested_decoded}
use Rattle.hdf_values.specs.Printed.{keyed, list_tokens}
use Rattle.json_trees.specs.Copied.{Adds}

pub signed_text : (z : ℤ) → signed_decimal z ≡ number_text (of_integer z)
signed_text (pos n) = refl
signed_text (negsuc n) = refl

pub token_added : {E : Type 0} (r : Result (Unit {0}) E) (old new : Written) (t u : Token) → t ≡ u → Writes r old new t → OnOk r (Adds (u ∷ []) old new)
token_added r old new t u is h = on_ok_weaker r (λ e. record { tokens = e ∙ ap (λ x. old.tokens ++ x ∷ []) is; before = h.room.0 }) h.ok

-- a bracket, and then the rest of the list
pub opened : {E : Type 0} (r : Result (Unit {0}) E) (a b c : Written) (t : Token) (ts : List Token) → b.tokens ≡ a.tokens ++ t ∷ [] → b.before ≡ a.before → OnOk r (Adds ts b c) → OnOk r (Adds (t ∷ ts) a c)
opened r a b c t ts e s h = on_ok_weaker r (λ k. record { tokens = k.tokens ∙ ap (λ x. x ++ ts) e ∙ append_assoc a.tokens (t ∷ []) ts; before = k.before ∙ s }) h

-- with the tokens that are left the writer will have what it is to have
pub record IsUnderway (ts : List Token) (begun : Written) (left : List Token) (now : Written) : Type 0 where
  pub tokens : now.tokens ++ left ≡ begun.tokens ++ ts
  pub before : now.before ≡ begun.before

pub underway_at_first : (ts : List Token) (w : Written) → IsUnderway ts w ts w
underway_at_first ts w = record { tokens = refl; before = refl }

pub underway_next : (ts : List Token) (begun : Written) (here left : List Token) (now next : Written) → IsUnderway ts begun (here ++ left) now → Adds here now next → IsUnderway ts begun left next
underway_next ts begun here left now next h k = record {
  tokens = ap (λ x. x ++ left) k.tokens ∙ append_assoc now.tokens here left ∙ h.tokens;
  before = k.before ∙ h.before;
}

pub underway_closed : {E : Type 0} (r : Result (Unit {0}) E) (ts : List Token) (begun now next : Written) → IsUnderway ts begun (end_array ∷ []) now → Writes r now next end_array → OnOk r (Adds ts begun next)
underway_closed r ts begun now next h k = on_ok_weaker r (λ e. record { tokens = e ∙ h.tokens; before = k.room.0 ∙ h.before }) k.ok

-- the first of the pieces that are left was written
pub underway_piece : (dec : List ℕ → Data) (ts : List Token) (begun : Written) (rest k : ℕ) (front left : List ℕ) (now next : Written) → front ≡ take k left
    → IsUnderway ts begun (list_tokens (map dec (pieces (suc rest) k left))) now → Adds (json_tokens (outline (dec front))) now next
    → IsUnderway ts begun (list_tokens (map dec (pieces rest k (drop k left)))) next
underway_piece dec ts begun rest k front left now next is h added =
    underway_next ts begun (json_tokens (outline (dec (take k left)))) _ now next h (subst (λ bs. Adds (json_tokens (outline (dec bs))) now next) is added)

-- the first of the fields that are left was written
pub underway_field : (ts : List Token) (begun : Written) (fs : FieldList) (e : Elem) (later : FieldList) (front back left : List ℕ) (now next : Written) → front ≡ take (size_of e) left → back ≡ drop (size_of e) left
    → fields_decoded fs left ≡ decoded e (take (size_of e) left) ∷ fields_decoded later (drop (size_of e) left) → IsUnderway ts begun (list_tokens (fields_decoded fs left)) now
    → Adds (json_tokens (outline (decoded e front))) now next → IsUnderway ts begun (list_tokens (fields_decoded later back)) next
underway_field ts begun fs e later front back left now next f b values h added =
    let here = subst (λ ds. IsUnderway ts begun (list_tokens ds) now) values h in
    let done = subst (λ bs. Adds (json_tokens (outline (decoded e bs))) now next) f added in
    subst (λ bs. IsUnderway ts begun (list_tokens (fields_decoded later bs)) next) (sym b) (underway_next ts begun (json_tokens (outline (decoded e (take (size_of e) left)))) _ now next here done)

-- the members of a list, behind its first bracket
pub list_opened : {E : Type 0} (r : Result (Unit {0}) E) (e : Elem) (dims rest bs : List ℕ) (a b c : Written) → 1 ≤ length dims → rest ≡ drop 1 dims → b.tokens ≡ a.tokens ++ begin_array ∷ [] → b.before ≡ a.before
    → OnOk r (Adds (list_tokens (map (nested_decoded e rest) (pieces (get_or dims 0 0) (cell_count rest * size_of e) bs))) b c) → OnOk r (Adds (json_tokens (outline (nested_decoded e dims bs))) a c)
list_opened r e [] rest bs a b c some is o s h = absurd (omega arith)
list_opened r e (n ∷ ns) rest bs a b c some is o s h =
    let members = subst (λ ms. OnOk r (Adds (list_tokens (map (nested_decoded e ms) (pieces n (cell_count ms * size_of e) bs))) b c)) is h in
    opened r a b c begin_array _ o s members

-- the text of a tree is that of its tokens
pub printed : (d : Data) (begun now : Written) (text : List ℕ) → begun.tokens ≡ [] → begun.before ≡ [] → Adds (json_tokens (outline d)) begun now → text ≡ now.before ++ print now.tokens → text ≡ compact_text d
printed d begun now text none first h e =
    e ∙ ap (λ b. b ++ print now.tokens) (h.before ∙ first) ∙ ap print (h.tokens ∙ ap (λ ts. ts ++ json_tokens (outline d)) none) ∙ print-outline d

regroup : (xs : List Token) (a b : Token) (ts : List Token) (z : Token) → (((xs ++ a ∷ []) ++ b ∷ []) ++ ts) ++ z ∷ [] ≡ xs ++ a ∷ b ∷ (ts ++ z ∷ [])
regroup xs a b ts z = simp append_assoc

-- a tree between the brackets of an object with one key
pub keyed_added : {E : Type 0} (r : Result (Unit {0}) E) (k : List ℕ) (d : Data) (a b c e f : Written) → b.tokens ≡ a.tokens ++ begin_object ∷ [] → b.before ≡ a.before → c.tokens ≡ b.tokens ++ key k ∷ [] → c.before ≡ b.before
    → Adds (json_tokens (outline d)) c e → Writes r e f end_object → OnOk r (Adds (json_tokens (outline (keyed k d))) a f)
keyed_added r k d a b c e f opened_a kept_a named kept_b tree closed =
    let ts = json_tokens (outline d) in
    on_ok_weaker r (λ last. record {
      tokens = last ∙ ap (λ x. x ++ end_object ∷ []) (tree.tokens ∙ ap (λ x. x ++ ts) (named ∙ ap (λ x. x ++ key k ∷ []) opened_a)) ∙ regroup a.tokens begin_object (key k) ts end_object;
      before = closed.room.0 ∙ tree.before ∙ kept_b ∙ kept_a;
    }) closed.ok
