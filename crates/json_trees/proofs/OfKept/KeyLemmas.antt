-- Members of an object, one after another, and the last at a key.
use Rattle.std.proofs.Common.{◌≡◌, ◌≤◌, ◌++◌, ◌∷◌, ℕ, List, [], Option, Some, None, Bool, true, false, option_map, option_and_then, refl, sym, ap, subst, ◌∙◌, arith, append_assoc, if◌then◌else◌}
use Rattle.json.specs.Json as json
use Rattle.json.specs.Json.{read_key}
use Rattle.json.specs.Token.{Token, begin_object}
use Rattle.json.specs.Tree.{json_tokens, members_tokens, members_depth, depth}
use Rattle.json.proofs.Found.{Some_inj}
use Rattle.serde_json.specs.Data.{Data, Items, array, boolean, null, number, string, object, Members, no_members, put, Num}
use Rattle.serde_json.specs.Find.{get, get_member}
use Rattle.serde_json.specs.Read.{max_depth, number_of, of_json, of_items, of_members}
use Rattle.serde_json.proofs.Views.{get_member-put, get_member-put_other}
use Rattle.json_trees.specs.Kept.{Begins}
use Rattle.json_trees.specs.Begun.{AreReadMembers}
use Rattle.json_trees.proofs.OfKept.PassLemmas.{found_inj}

-- a value comes behind a key, and other members behind it
pub record AReadMember (k : List ℕ) (from : List Token) (before all : Members) (rest : List Token) : Type 0 where
  pub tree : Data
  pub mid : List Token
  pub first : Begins from tree mid
  pub behind : AreReadMembers mid (put k tree before) all rest

member_found : (k : List ℕ) (from s rest : List Token) (before all : Members) (j : json.Json) (ms : json.Members) (d : Option Data) → of_json j ≡ d → option_and_then (λ x. of_members ms (put k x before)) d ≡ Some all
    → s ≡ json_tokens j ++ (members_tokens ms ++ rest) → depth j ≤ max_depth → members_depth ms ≤ max_depth → AReadMember k s before all rest
member_found k from s rest before all j ms None e r is flat flats = absurd (cc)
member_found k from s rest before all j ms (Some d) e r is flat flats = record {
  tree = d;
  mid = members_tokens ms ++ rest;
  first = record { value = j; tokens = is; shallow = flat; reads = e };
  behind = record { members = ms; tokens = refl; shallow = flats; reads = r };
}

member_next : (k : List ℕ) (from s rest : List Token) (before all : Members) (ms : json.Members) → from ≡ members_tokens ms ++ rest → members_depth ms ≤ max_depth → of_members ms before ≡ Some all → read_key from ≡ Some (Some k, s) → AReadMember k s before all rest
member_next k from s rest before all json.no_members is flat r e = let closed = (found_inj (Some k, s) (None, rest) (sym e ∙ ap read_key is)).0 in absurd (cc)
member_next k from s rest before all (json.member l j ms) is flat r e =
    let named = found_inj (Some k, s) (Some l, (json_tokens j ++ members_tokens ms) ++ rest) (sym e ∙ ap read_key is) in
    let same : k ≡ l = Some_inj k l named.0 in
    member_found k from s rest before all j ms (of_json j) refl (ap (λ x. option_and_then (λ d. of_members ms (put x d before)) (of_json j)) same ∙ r) (named.1 ∙ append_assoc (json_tokens j) (members_tokens ms) rest) (omega (arith, flat)) (omega (arith, flat))

pub a_read_member : (k : List ℕ) (from s rest : List Token) (before all : Members) → AreReadMembers from before all rest → read_key from ≡ Some (Some k, s) → AReadMember k s before all rest
a_read_member k from s rest before all h e = member_next k from s rest before all h.members h.tokens h.shallow h.reads e

no_more : (from s rest : List Token) (before all : Members) (ms : json.Members) → from ≡ members_tokens ms ++ rest → of_members ms before ≡ Some all → read_key from ≡ Some (None, s) → before ≡ all
no_more from s rest before all json.no_members is r e = Some_inj before all r
no_more from s rest before all (json.member l j ms) is r e = let named = (found_inj (None, s) (Some l, (json_tokens j ++ members_tokens ms) ++ rest) (sym e ∙ ap read_key is)).0 in absurd (cc)

-- some members were read, and this stands at the key
pub record IsSought (k : List ℕ) (all : Members) (rest : List Token) (from : List Token) (found : Option Data) : Type 0 where
  pub before : Members
  pub here : AreReadMembers from before all rest
  pub last : found ≡ get_member k before

pub sought_first : (k : List ℕ) (all : Members) (rest from : List Token) → AreReadMembers from no_members all rest → IsSought k all rest from None
sought_first k all rest from h = record { before = no_members; here = h; last = refl }

last_now : (k name : List ℕ) (b : Bool) (tree : Data) (before : Members) (found : Option Data) → (b ≡ true → name ≡ k) → (b ≡ false → k ≡ name → ⊥) → found ≡ get_member k before → (if b then Some tree else found) ≡ get_member k (put name tree before)
last_now k name true tree before found is other e = sym (ap (λ x. get_member k (put x tree before)) (is refl) ∙ get_member-put k tree before)
last_now k name false tree before found is other e = e ∙ sym (get_member-put_other k name tree before (other refl))

pub sought_more : (k name : List ℕ) (b : Bool) (all : Members) (rest from s after : List Token) (found now : Option Data) → IsSought k all rest from found → read_key from ≡ Some (Some name, s) → (b ≡ true → name ≡ k) → (b ≡ false → k ≡ name → ⊥)
    → ((tree : Data) (mid : List Token) → Begins s tree mid → (after ≡ mid) × (now ≡ (if b then Some tree else found))) → IsSought k all rest after now
sought_more k name b all rest from s after found now u e is other read =
    let m = a_read_member name from s rest u.before all u.here e in
    let r = read m.tree m.mid m.first in
    record {
      before = put name m.tree u.before;
      here = subst (λ ts. AreReadMembers ts (put name m.tree u.before) all rest) (sym r.0) m.behind;
      last = r.1 ∙ last_now k name b m.tree u.before found is other u.last;
    }

pub sought_over : (k : List ℕ) (all : Members) (rest from s : List Token) (found : Option Data) → IsSought k all rest from found → read_key from ≡ Some (None, s) → found ≡ get_member k all
sought_over k all rest from s found u e = u.last ∙ ap (get_member k) (no_more from s rest u.before all u.here.members u.here.tokens u.here.reads e)

-- ---- the object

tail : List Token → List Token
tail [] = []
tail (t ∷ ts) = ts

first_or : Token → List Token → Token
first_or d [] = d
first_or d (t ∷ ts) = t

-- an object
pub record AnObject (ts : List Token) (tree : Data) (rest : List Token) : Type 0 where
  pub all : Members
  pub is : tree ≡ object all
  pub members : AreReadMembers ts no_members all rest

members_found : (ts rest : List Token) (tree : Data) (ms : json.Members) (found : Option Members) → of_members ms no_members ≡ found → option_map object found ≡ Some tree → ts ≡ members_tokens ms ++ rest → members_depth ms ≤ max_depth → AnObject ts tree rest
members_found ts rest tree ms None e r is flat = absurd (cc)
members_found ts rest tree ms (Some all) e r is flat = record { all = all; is = Some_inj tree (object all) (sym r); members = record { members = ms; tokens = is; shallow = flat; reads = e } }

object_begun : (ts rest : List Token) (tree : Data) (j : json.Json) → begin_object ∷ ts ≡ json_tokens j ++ rest → depth j ≤ max_depth → of_json j ≡ Some tree → AnObject ts tree rest
unfolding tail
object_begun ts rest tree json.null e s r = absurd (cc)
object_begun ts rest tree (json.boolean b) e s r = absurd (cc)
object_begun ts rest tree (json.number x) e s r = absurd (cc)
object_begun ts rest tree (json.string x) e s r = absurd (cc)
object_begun ts rest tree (json.array js) e s r = absurd (cc)
object_begun ts rest tree (json.object ms) e s r = members_found ts rest tree ms (of_members ms no_members) refl r (ap tail e) (omega (arith, s))

pub an_object : (ts rest : List Token) (tree : Data) → Begins (begin_object ∷ ts) tree rest → AnObject ts tree rest
an_object ts rest tree h = object_begun ts rest tree h.value h.tokens h.shallow h.reads

-- no other tree has a key
no_key_number : (k : List ℕ) (o : Option Num) (tree : Data) → option_map number o ≡ Some tree → get k tree ≡ None
no_key_number k None tree e = absurd (cc)
no_key_number k (Some n) tree e = ap (get k) (Some_inj tree (number n) (sym e))

no_key_items : (k : List ℕ) (o : Option Items) (tree : Data) → option_map array o ≡ Some tree → get k tree ≡ None
no_key_items k None tree e = absurd (cc)
no_key_items k (Some ds) tree e = ap (get k) (Some_inj tree (array ds) (sym e))

other_tree : (k : List ℕ) (t : Token) (ts rest : List Token) (tree : Data) (j : json.Json) → (t ≡ begin_object → ⊥) → t ∷ ts ≡ json_tokens j ++ rest → of_json j ≡ Some tree → get k tree ≡ None
unfolding first_or
other_tree k t ts rest tree json.null other e r = ap (get k) (Some_inj tree null (sym r))
other_tree k t ts rest tree (json.boolean b) other e r = ap (get k) (Some_inj tree (boolean b) (sym r))
other_tree k t ts rest tree (json.number x) other e r = no_key_number k (number_of x) tree r
other_tree k t ts rest tree (json.string x) other e r = ap (get k) (Some_inj tree (string x) (sym r))
other_tree k t ts rest tree (json.array js) other e r = no_key_items k (of_items js) tree r
other_tree k t ts rest tree (json.object ms) other e r = absurd (other (ap (first_or t) e))

pub no_object_no_key : (k : List ℕ) (t : Token) (ts rest : List Token) (tree : Data) → (t ≡ begin_object → ⊥) → Begins (t ∷ ts) tree rest → get k tree ≡ None
no_object_no_key k t ts rest tree other h = other_tree k t ts rest tree h.value other h.tokens h.reads
