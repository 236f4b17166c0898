-- What stands at five keys of an object, and its members read one after another.
use Rattle.std.proofs.Common.{◌≡◌, ◌≤◌, ◌==◌, eqb-true, suc, ◌-◌, ◌++◌, ◌∷◌, ◌||◌, ℕ, List, [], length, Bool, true, false, cond, if◌then◌else◌, Option, Some, None, option_map, option_and_then, Result, Ok, Err, refl, sym, ap, subst, ◌∙◌, arith, append_assoc, IsUtf8}
use Rattle.std.specs.Prelude.{codes}
use Rattle.std.specs.Str.{bytes_eq}
use Rattle.std.proofs.lemmas.Bool.{false≢true}
use Rattle.std.proofs.lemmas.Slice.Eq.{bytes_eq-Decides}
use Rattle.std.proofs.lemmas.Str.{is_utf8-from_IsUtf8}
use Rattle.json.specs.Json as json
use Rattle.json.specs.Json.{Parse, parse_map, members, value, value_with, read_key}
use Rattle.json.specs.Lex.{tokens}
use Rattle.json.specs.Token.{Token}
use Rattle.json.specs.Tree.{json_tokens, members_tokens, members_depth}
use Rattle.json.proofs.Grammar.{read_key_is, read_key-shorter, value_is, value-begin_object}
use Rattle.serde_json.specs.Data.{Data, Num, Items, Members, object, array, number, no_members, put}
use Rattle.serde_json.specs.Data as trees
use Rattle.serde_json.specs.Find.{get_member}
use Rattle.serde_json.specs.Read.{converted, max_depth, number_of, of_json, of_items, of_members, read}
use Rattle.serde_json.proofs.Views.{get_member-put, get_member-put_other}
use Rattle.json_trees.specs.Copied.{Reads}
use Rattle.json_trees.specs.Trees.{tree_in}
use Rattle.json_trees.specs.declared.kept.fault.ReadFault.{ReadFault}
use Rattle.json_trees.specs.declared.kept.fault.ReadFault.TheVariants as reading
use Rattle.json_trees.proofs.OfKept.GrammarLemmas.{converted-object, member_read, member_refused, key_refused, whole, whole_and_more}
use Rattle.json_trees.proofs.OfKept.KeptLemmas.{kept_read, text_refused}
use Rattle.json_trees.proofs.OfKept.ReadLemmas.{read_converted, read_found, read_shorter}
use Rattle.object_ops.specs.declared.refusals.Refusal.TheVariants.{BadJson}
use Rattle.request_bodies.specs.Bodies.{body_in, object_in}
use Rattle.request_bodies.specs.Refusing.{Tells, or_refuse, read_fault}
use Rattle.request_bodies.specs.declared.faults.BodyFault.{BodyFault}
use Rattle.request_bodies.specs.ValueBodies.{TellsAsked, asked_of, is_asked, no_keys, with_key}
use Rattle.request_bodies.specs.declared.value_bodies.ValueBody.{ValueBody}
use Rattle.request_bodies.proofs.BodyLemmas.{object_missing, object_read, other_read}

-- ---- the five keys

at_key : (k name : List ℕ) (d : Data) (before : Members) (b : Bool) → bytes_eq name k ≡ b → get_member k (put name d before) ≡ (if b then Some d else get_member k before)
at_key k name d before true e = ap (λ x. get_member k (put x d before)) ((bytes_eq-Decides name k).0 e) ∙ get_member-put k d before
at_key k name d before false e = get_member-put_other k name d before (λ same. let equal : bytes_eq name k ≡ true = (bytes_eq-Decides name k).1 (sym same) in let never : true ≡ false = sym equal ∙ e in absurd (cc))

made : (value points start stop step : Option Data) → ValueBody
made value points start stop step = record { value = value; points = points; start = start; stop = stop; step = step }

all_keys : (name : List ℕ) (d : Data) (before : Members) (v p a o e : Bool) → bytes_eq name (codes "value") ≡ v → bytes_eq name (codes "points") ≡ p → bytes_eq name (codes "start") ≡ a → bytes_eq name (codes "stop") ≡ o → bytes_eq name (codes "step") ≡ e
    → asked_of (object (put name d before))
    ≡ made (if v then Some d else get_member (codes "value") before) (if p then Some d else get_member (codes "points") before) (if a then Some d else get_member (codes "start") before)
    (if o then Some d else get_member (codes "stop") before) (if e then Some d else get_member (codes "step") before)
unfolding made
all_keys name d before v p a o e is_v is_p is_a is_o is_e =
    let all = put name d before in
    ap (λ x. made x (get_member (codes "points") all) (get_member (codes "start") all) (get_member (codes "stop") all) (get_member (codes "step") all)) (at_key (codes "value") name d before v is_v)
    ∙ ap (λ x. made (if v then Some d else get_member (codes "value") before) x (get_member (codes "start") all) (get_member (codes "stop") all) (get_member (codes "step") all)) (at_key (codes "points") name d before p is_p)
    ∙ ap (λ x. made (if v then Some d else get_member (codes "value") before) (if p then Some d else get_member (codes "points") before) x (get_member (codes "stop") all) (get_member (codes "step") all)) (at_key (codes "start") name d before a is_a)
    ∙ ap (λ x. made (if v then Some d else get_member (codes "value") before) (if p then Some d else get_member (codes "points") before) (if a then Some d else get_member (codes "start") before) x (get_member (codes "step") all)) (at_key (codes "stop") name d before o is_o)
    ∙ ap (λ x. made (if v then Some d else get_member (codes "value") before) (if p then Some d else get_member (codes "points") before) (if a then Some d else get_member (codes "start") before) (if o then Some d else get_member (codes "stop") before) x) (at_key (codes "step") name d before e is_e)

IsPut : List ℕ → Data → Members → Type 0
IsPut name d before = asked_of (object (put name d before)) ≡ with_key name d (asked_of (object before))

put_named : (k name : List ℕ) (d : Data) (before : Members) → bytes_eq name k ≡ true → IsPut k d before → IsPut name d before
put_named k name d before e h = subst (λ n. IsPut n d before) (sym ((bytes_eq-Decides name k).0 e)) h

-- a member that is put stands at its key
put_by : (name : List ℕ) (d : Data) (before : Members) (v p a o e : Bool) → bytes_eq name (codes "value") ≡ v → bytes_eq name (codes "points") ≡ p → bytes_eq name (codes "start") ≡ a → bytes_eq name (codes "stop") ≡ o → bytes_eq name (codes "step") ≡ e → IsPut name d before
unfolding made IsPut
put_by name d before true p a o e is_v is_p is_a is_o is_e = put_named (codes "value") name d before is_v (all_keys (codes "value") d before true false false false false refl refl refl refl refl)
put_by name d before false true a o e is_v is_p is_a is_o is_e = put_named (codes "points") name d before is_p (all_keys (codes "points") d before false true false false false refl refl refl refl refl)
put_by name d before false false true o e is_v is_p is_a is_o is_e = put_named (codes "start") name d before is_a (all_keys (codes "start") d before false false true false false refl refl refl refl refl)
put_by name d before false false false true e is_v is_p is_a is_o is_e = put_named (codes "stop") name d before is_o (all_keys (codes "stop") d before false false false true false refl refl refl refl refl)
put_by name d before false false false false true is_v is_p is_a is_o is_e = put_named (codes "step") name d before is_e (all_keys (codes "step") d before false false false false true refl refl refl refl refl)
put_by name d before false false false false false is_v is_p is_a is_o is_e = all_keys name d before false false false false false is_v is_p is_a is_o is_e ∙ rw (is_v, is_p, is_a, is_o, is_e) refl

put_asked : (name : List ℕ) (d : Data) (before : Members) → asked_of (object (put name d before)) ≡ with_key name d (asked_of (object before))
unfolding IsPut
put_asked name d before = put_by name d before _ _ _ _ _ refl refl refl refl refl

first_of : (v p a o e : Bool) (b₁ b₂ b₃ b₄ b₅ b : ValueBody) → (v || p || a || o || e) ≡ false → (if v then b₁ else (if p then b₂ else (if a then b₃ else (if o then b₄ else (if e then b₅ else b))))) ≡ b
first_of true p a o e b₁ b₂ b₃ b₄ b₅ b none = absurd (cc)
first_of false true a o e b₁ b₂ b₃ b₄ b₅ b none = absurd (cc)
first_of false false true o e b₁ b₂ b₃ b₄ b₅ b none = absurd (cc)
first_of false false false true e b₁ b₂ b₃ b₄ b₅ b none = absurd (cc)
first_of false false false false true b₁ b₂ b₃ b₄ b₅ b none = absurd (cc)
first_of false false false false false b₁ b₂ b₃ b₄ b₅ b none = refl

-- no other key is asked for
pub unasked : (key : List ℕ) (d : Data) (b : ValueBody) → is_asked key ≡ false → b ≡ with_key key d b
unasked key d b none = sym (first_of (bytes_eq key (codes "value")) (bytes_eq key (codes "points")) (bytes_eq key (codes "start")) (bytes_eq key (codes "stop")) (bytes_eq key (codes "step")) _ _ _ _ _ b none)

-- ---- member after member

-- the tokens of members, of which this is read
pub record Whole (start rest : List Token) (found : Option Members) : Type 0 where
  pub members : json.Members
  pub tokens : start ≡ members_tokens members ++ rest
  pub shallow : members_depth members ≤ 126
  pub reads : of_members members no_members ≡ found

-- some members were read; what comes next is read behind them, and what is refused next is refused from the start
pub record IsUnderway (start from : List Token) (body : ValueBody) : Type 0 where
  pub before : Members
  pub asked : body ≡ asked_of (object before)
  pub front : (ms : json.Members) (rest : List Token) → from ≡ members_tokens ms ++ rest → members_depth ms ≤ 126 → Whole start rest (of_members ms before)
  pub turns : ℕ
  pub enough : length from ≤ turns
  pub refused : converted (λ ms. of_members ms before) (members (value 126) turns from) ≡ None → converted (λ ms. of_members ms no_members) (members (value 126) (length start) start) ≡ None

pub underway_first : (start : List Token) (body : ValueBody) → body ≡ no_keys → IsUnderway start start body
underway_first start body is = record {
  before = no_members;
  asked = is;
  front = λ ms rest e flat. record { members = ms; tokens = e; shallow = flat; reads = refl };
  turns = length start;
  enough = omega arith;
  refused = λ e. e;
}

pub underway_more : (start from s mid : List Token) (body now : ValueBody) (name : List ℕ) (tree : Data) → IsUnderway start from body → read_key from ≡ Some (Some name, s) → Reads 126 s tree mid → now ≡ with_key name tree body → IsUnderway start mid now
underway_more start from s mid body now name tree u key h is =
    let less = read_shorter 126 s mid tree h in
    let lesser = read_key-shorter from (Some name) s key in
    record {
      before = put name tree u.before;
      asked = is ∙ ap (with_key name tree) u.asked ∙ sym (put_asked name tree u.before);
      front = λ ms rest e flat.
          let w = u.front (json.member name h.value ms) rest
          (read_key_is from (Some name) s key ∙ ap (λ ts. Token.key name ∷ ts) (h.tokens ∙ ap (λ ts. json_tokens h.value ++ ts) e ∙ sym (append_assoc (json_tokens h.value) (members_tokens ms) rest))) (omega (arith, h.shallow, flat)) in
          record { members = w.members; tokens = w.tokens; shallow = w.shallow; reads = w.reads ∙ ap (option_and_then (λ d. of_members ms (put name d u.before))) h.reads };
      turns = u.turns - 1;
      enough = omega (arith, u.enough, less, lesser);
      refused = λ none. u.refused (member_read (value 126) u.before u.turns name from s mid tree (omega (arith, u.enough, lesser)) key (read_converted 126 s mid tree h) ∙ none);
    }

pub underway_over : (start from rest : List Token) (body : ValueBody) → IsUnderway start from body → read_key from ≡ Some (None, rest) → (all : Members) × Reads max_depth (Token.begin_object ∷ start) (object all) rest × (body ≡ asked_of (object all))
underway_over start from rest body u e =
    let w = u.front json.no_members rest (read_key_is from None rest e) (omega arith) in
    (u.before, record { value = json.object w.members; tokens = ap (λ ts. Token.begin_object ∷ ts) w.tokens; shallow = omega (arith, w.shallow); reads = ap (option_map object) w.reads }, u.asked)

pub underway_no_key : (start from : List Token) (body : ValueBody) → IsUnderway start from body → read_key from ≡ None → converted (λ ms. of_members ms no_members) (members (value 126) (length start) start) ≡ None
underway_no_key start from body u e = u.refused (key_refused (value 126) u.before u.turns from e)

pub underway_no_member : (start from s : List Token) (name : List ℕ) (body : ValueBody) → IsUnderway start from body → read_key from ≡ Some (Some name, s) → converted of_json (value 126 s) ≡ None
    → converted (λ ms. of_members ms no_members) (members (value 126) (length start) start) ≡ None
underway_no_member start from s name body u key e = u.refused (member_refused (value 126) u.before u.turns name from s key e)

-- ---- the whole text

pub whole_read : (text : List ℕ) (ts : List Token) (all : Members) → tokens text ≡ Token.begin_object ∷ ts → Reads max_depth (Token.begin_object ∷ ts) (object all) [] → read text ≡ Some (object all)
whole_read text ts all is h = kept_read text (object all) (subst (λ x. Reads max_depth x (object all) []) (sym is) h)

pub differs : (d : Data) (o : Option Data) → o ≡ None → o ≡ Some d → ⊥
differs d o none some = let never : None ≡ Some d = sym none ∙ some in absurd (cc)

pub more_behind : (text : List ℕ) (ts r : List Token) (t : Token) (tree d : Data) → tokens text ≡ Token.begin_object ∷ ts → Reads max_depth (Token.begin_object ∷ ts) tree (t ∷ r) → read text ≡ Some d → ⊥
more_behind text ts r t tree d is h e =
    differs d (read text) (ap (λ x. whole (value max_depth x)) is ∙ whole_and_more (value max_depth (Token.begin_object ∷ ts)) h.value t r (read_found max_depth (Token.begin_object ∷ ts) (t ∷ r) tree h)) e

pub members_refused : (text : List ℕ) (ts : List Token) (d : Data) → tokens text ≡ Token.begin_object ∷ ts → converted (λ ms. of_members ms no_members) (members (value 126) (length ts) ts) ≡ None → read text ≡ Some d → ⊥
members_refused text ts d is none e =
    differs d (read text)
    (text_refused text (ap (λ x. converted of_json (value max_depth x)) is ∙ ap (converted of_json) (value-begin_object max_depth ts (omega arith)) ∙ converted-object (members (value 126) (length ts) ts) ∙ ap (parse_map object) none)) e

-- a text that begins with another token has no object
array_apart : (all : Members) (found : Option Items) → option_map array found ≡ Some (object all) → ⊥
array_apart all None e = absurd (cc)
array_apart all (Some ds) e = absurd (cc)

number_apart : (all : Members) (found : Option Num) → option_map number found ≡ Some (object all) → ⊥
number_apart all None e = absurd (cc)
number_apart all (Some n) e = absurd (cc)

array_other : (all : Members) (o : Option (json.Items × List Token)) → whole (parse_map json.array o) ≡ Some (object all) → ⊥
array_other all None e = absurd (cc)
array_other all (Some (js, [])) e = array_apart all (of_items js) e
array_other all (Some (js, t ∷ r)) e = absurd (cc)

number_other : (all : Members) (s : List ℕ) (r : List Token) → whole (Some (json.number s, r)) ≡ Some (object all) → ⊥
number_other all s [] e = number_apart all (number_of s) e
number_other all s (t ∷ r) e = absurd (cc)

leaf_other : (all : Members) (j : json.Json) (d : Data) (r : List Token) → of_json j ≡ Some d → (Some d ≡ Some (object all) → ⊥) → whole (Some (j, r)) ≡ Some (object all) → ⊥
leaf_other all j d [] is apart e = apart (sym is ∙ e)
leaf_other all j d (t ∷ r) is apart e = absurd (cc)

first_other : (a : Parse json.Items) (o : Parse json.Members) (ts : List Token) (all : Members) → ((r : List Token) → ts ≡ Token.begin_object ∷ r → ⊥) → whole (value_with a o ts) ≡ Some (object all) → ⊥
first_other a o [] all other e = absurd (cc)
first_other a o (Token.begin_object ∷ ts) all other e = other ts refl
first_other a o (Token.end_object ∷ ts) all other e = absurd (cc)
first_other a o (Token.begin_array ∷ ts) all other e = array_other all (a ts) e
first_other a o (Token.end_array ∷ ts) all other e = absurd (cc)
first_other a o (Token.key s ∷ ts) all other e = absurd (cc)
first_other a o (Token.string s ∷ ts) all other e = leaf_other all (json.string s) (trees.string s) ts refl (λ x. absurd (cc)) e
first_other a o (Token.number s ∷ ts) all other e = number_other all s ts e
first_other a o (Token.boolean b ∷ ts) all other e = leaf_other all (json.boolean b) (trees.boolean b) ts refl (λ x. absurd (cc)) e
first_other a o (Token.null ∷ ts) all other e = leaf_other all json.null trees.null ts refl (λ x. absurd (cc)) e
first_other a o (Token.bad ∷ ts) all other e = absurd (cc)

pub no_object : (text : List ℕ) (all : Members) → ((r : List Token) → tokens text ≡ Token.begin_object ∷ r → ⊥) → read text ≡ Some (object all) → ⊥
no_object text all other e = first_other _ _ (tokens text) all other (sym (ap whole (value_is max_depth (tokens text))) ∙ e)

-- ---- bytes

pub tree_is : (bytes : List ℕ) → IsUtf8 bytes → tree_in bytes ≡ read bytes
tree_is bytes utf8 = ap (λ b. cond b (read bytes) None) (is_utf8-from_IsUtf8 bytes utf8)

object_found : (bytes : List ℕ) (all : Members) → tree_in bytes ≡ Some (object all) → or_refuse BadJson (object_in bytes) ≡ Ok (object all)
object_found bytes all is = ap (or_refuse BadJson) (object_read bytes (object all) is refl)

tree_apart : (bytes : List ℕ) (d : Data) → tree_in bytes ≡ Some d → ((all : Members) → tree_in bytes ≡ Some (object all) → ⊥) → object_in bytes ≡ None
tree_apart bytes trees.null is none = other_read bytes trees.null is refl
tree_apart bytes (trees.boolean b) is none = other_read bytes (trees.boolean b) is refl
tree_apart bytes (number n) is none = other_read bytes (number n) is refl
tree_apart bytes (trees.string s) is none = other_read bytes (trees.string s) is refl
tree_apart bytes (array ds) is none = other_read bytes (array ds) is refl
tree_apart bytes (object all) is none = absurd (none all is)

object_apart : (bytes : List ℕ) (o : Option Data) → tree_in bytes ≡ o → ((all : Members) → tree_in bytes ≡ Some (object all) → ⊥) → object_in bytes ≡ None
object_apart bytes None is none = object_missing bytes is
object_apart bytes (Some d) is none = tree_apart bytes d is none

object_refused : (bytes : List ℕ) → ((all : Members) → tree_in bytes ≡ Some (object all) → ⊥) → or_refuse BadJson (object_in bytes) ≡ Err BadJson
object_refused bytes none = ap (or_refuse BadJson) (object_apart bytes (tree_in bytes) refl none)

-- ---- the body

pub empty_body : (bytes : List ℕ) (b : ValueBody) → true ≡ (length bytes == 0) → b ≡ no_keys → TellsAsked (Ok b) (body_in bytes)
empty_body [] b none is = (object no_members, refl, is)
empty_body (x ∷ xs) b none is = let never : suc (length xs) ≡ 0 = eqb-true (length (x ∷ xs)) 0 (sym none) in absurd (omega (arith, never))

pub body_found : (bytes : List ℕ) (all : Members) → false ≡ (length bytes == 0) → tree_in bytes ≡ Some (object all) → body_in bytes ≡ Ok (object all)
body_found [] all some is = absurd (false≢true some)
body_found (b ∷ bs) all some is = object_found (b ∷ bs) all is

body_refused : (bytes : List ℕ) → false ≡ (length bytes == 0) → ((all : Members) → tree_in bytes ≡ Some (object all) → ⊥) → body_in bytes ≡ Err BadJson
body_refused [] some none = absurd (false≢true some)
body_refused (b ∷ bs) some none = object_refused (b ∷ bs) none

fault_told : (bytes : List ℕ) (fault : ReadFault) → false ≡ (length bytes == 0) → (fault ≡ reading.NotJson → (all : Members) → tree_in bytes ≡ Some (object all) → ⊥) → Tells (read_fault fault) (body_in bytes)
fault_told bytes reading.NoMemory some none = tt
fault_told bytes reading.NotJson some none = body_refused bytes some (none refl)

pub why_told : (bytes : List ℕ) (r : Result ValueBody ReadFault) (fault : ReadFault) (f : BodyFault) → r ≡ Err fault → f ≡ read_fault fault → false ≡ (length bytes == 0) → (r ≡ Err reading.NotJson → (all : Members) → tree_in bytes ≡ Some (object all) → ⊥) → Tells f (body_in bytes)
why_told bytes r fault f is gives some none = subst (λ x. Tells x (body_in bytes)) (sym gives) (fault_told bytes fault some (λ e. none (is ∙ ap (λ x. Err x) e)))
