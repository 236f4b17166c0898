-- Objects that are read member by member, at any depth.
use Rattle.std.proofs.Common.{◌≡◌, ◌≤◌, ◌<◌, ℕ, ◌-◌, ◌++◌, ◌∷◌, List, [], length, Option, Some, None, option_map, option_and_then, refl, sym, ap, subst, ◌∙◌, arith, append_assoc}
use Rattle.json.specs.Json as json
use Rattle.json.specs.Json.{parse_map, members, value, read_key}
use Rattle.json.specs.Lex.{tokens}
use Rattle.json.specs.Token.{Token}
use Rattle.json.specs.Tree.{json_tokens, members_tokens, members_depth}
use Rattle.json.proofs.Grammar.{read_key_is, read_key-shorter, value-begin_object}
use Rattle.serde_json.specs.Data.{Data, Members, object, no_members, put}
use Rattle.serde_json.specs.Read.{converted, max_depth, of_json, of_members, read}
use Rattle.json_trees.specs.Copied.{Reads}
use Rattle.json_trees.proofs.OfKept.GrammarLemmas.{converted-object, member_read, member_refused, key_refused, whole_and_more}
use Rattle.json_trees.proofs.OfKept.KeptLemmas.{kept_read, text_refused}
use Rattle.json_trees.proofs.OfKept.ReadLemmas.{read_converted, read_found, read_shorter}

-- the tokens of members, of which this is read
pub record Whole (most : ℕ) (start rest : List Token) (found : Option Members) : Type 0 where
  pub members : json.Members
  pub tokens : start ≡ members_tokens members ++ rest
  pub shallow : members_depth members ≤ most
  pub reads : of_members members no_members ≡ found

-- these members were read; what comes next is read behind them, and what is refused next is refused from the start
pub record IsUnderway (most : ℕ) (start from : List Token) (before : Members) : Type 0 where
  pub front : (ms : json.Members) (rest : List Token) → from ≡ members_tokens ms ++ rest → members_depth ms ≤ most → Whole most start rest (of_members ms before)
  pub turns : ℕ
  pub enough : length from ≤ turns
  pub refused : converted (λ ms. of_members ms before) (members (value most) turns from) ≡ None → converted (λ ms. of_members ms no_members) (members (value most) (length start) start) ≡ None

pub underway_first : (most : ℕ) (start : List Token) → IsUnderway most start start no_members
underway_first most start = record {
  front = λ ms rest e flat. record { members = ms; tokens = e; shallow = flat; reads = refl };
  turns = length start;
  enough = omega arith;
  refused = λ e. e;
}

pub underway_more : (most : ℕ) (start from s mid : List Token) (before : Members) (name : List ℕ) (tree : Data) → IsUnderway most start from before → read_key from ≡ Some (Some name, s) → Reads most s tree mid → IsUnderway most start mid (put name tree before)
underway_more most start from s mid before name tree u key h =
    let less = read_shorter most s mid tree h in
    let lesser = read_key-shorter from (Some name) s key in
    record {
      front = λ ms rest e flat.
          let w = u.front (json.member name h.value ms) rest
          (read_key_is from (Some name) s key ∙ ap (λ ts. Token.key name ∷ ts) (h.tokens ∙ ap (λ ts. json_tokens h.value ++ ts) e ∙ sym (append_assoc (json_tokens h.value) (members_tokens ms) rest))) (omega (arith, h.shallow, flat)) in
          record { members = w.members; tokens = w.tokens; shallow = w.shallow; reads = w.reads ∙ ap (option_and_then (λ d. of_members ms (put name d before))) h.reads };
      turns = u.turns - 1;
      enough = omega (arith, u.enough, less, lesser);
      refused = λ none. u.refused (member_read (value most) before u.turns name from s mid tree (omega (arith, u.enough, lesser)) key (read_converted most s mid tree h) ∙ none);
    }

pub underway_over : (most deep : ℕ) (start from rest : List Token) (before : Members) → most < deep → IsUnderway most start from before → read_key from ≡ Some (None, rest) → Reads deep (Token.begin_object ∷ start) (object before) rest
underway_over most deep start from rest before less u e =
    let w = u.front json.no_members rest (read_key_is from None rest e) (omega arith) in
    record { value = json.object w.members; tokens = ap (λ ts. Token.begin_object ∷ ts) w.tokens; shallow = omega (arith, w.shallow, less); reads = ap (option_map object) w.reads }

pub underway_no_key : (most : ℕ) (start from : List Token) (before : Members) → IsUnderway most start from before → read_key from ≡ None → converted (λ ms. of_members ms no_members) (members (value most) (length start) start) ≡ None
underway_no_key most start from before u e = u.refused (key_refused (value most) before u.turns from e)

pub underway_no_member : (most : ℕ) (start from s : List Token) (name : List ℕ) (before : Members) → IsUnderway most start from before → read_key from ≡ Some (Some name, s) → converted of_json (value most s) ≡ None
    → converted (λ ms. of_members ms no_members) (members (value most) (length start) start) ≡ None
underway_no_member most start from s name before u key e = u.refused (member_refused (value most) before u.turns name from s key e)

-- ---- the object

-- an object whose members are refused
pub object_refused : (deep : ℕ) (from ts : List Token) → 0 < deep → from ≡ Token.begin_object ∷ ts → converted (λ ms. of_members ms no_members) (members (value (deep - 1)) (length ts) ts) ≡ None → converted of_json (value deep from) ≡ None
object_refused deep from ts some is none =
    ap (λ x. converted of_json (value deep x)) is ∙ ap (converted of_json) (value-begin_object deep ts some) ∙ converted-object (members (value (deep - 1)) (length ts) ts) ∙ ap (parse_map object) none

pub object_begun : (deep : ℕ) (from ts rest : List Token) (d : Data) → from ≡ Token.begin_object ∷ ts → Reads deep (Token.begin_object ∷ ts) d rest → Reads deep from d rest
object_begun deep from ts rest d is h = subst (λ x. Reads deep x d rest) (sym is) h

-- ---- the whole text

pub whole_read : (text : List ℕ) (ts : List Token) (d : Data) → tokens text ≡ Token.begin_object ∷ ts → Reads max_depth (Token.begin_object ∷ ts) d [] → read text ≡ Some d
whole_read text ts d is h = kept_read text d (object_begun max_depth (tokens text) ts [] d is h)

pub more_behind : (text : List ℕ) (ts r : List Token) (t : Token) (d : Data) → tokens text ≡ Token.begin_object ∷ ts → Reads max_depth (Token.begin_object ∷ ts) d (t ∷ r) → read text ≡ None
more_behind text ts r t d is h =
    let begun = object_begun max_depth (tokens text) ts (t ∷ r) d is h in
    whole_and_more (value max_depth (tokens text)) begun.value t r (read_found max_depth (tokens text) (t ∷ r) d begun)

pub members_refused : (text : List ℕ) (ts : List Token) → tokens text ≡ Token.begin_object ∷ ts → converted (λ ms. of_members ms no_members) (members (value 126) (length ts) ts) ≡ None → read text ≡ None
members_refused text ts is none = text_refused text (object_refused max_depth (tokens text) ts (omega arith) is none)
