-- Trees as tokens, and what is read of them.
use Rattle.std.proofs.Common.{◌≡◌, ◌≤◌, ◌<◌, ◌^◌, ℕ, suc, max, ℤ, pos, negsuc, int_lt, SFits, w64, true, decimal, List, [], ◌∷◌, ◌++◌, String, Global, string_bytes, string_cmp, Result, OnOk, Some, None, option_map, option_and_then, Ordering, Less, refl, sym, ap, ap₂, subst, ◌∙◌, append_assoc, append-nil, arith}
use Rattle.std.proofs.lemmas.Result.{on_ok_weaker}
use Rattle.std.specs.List.{AllByRecursion}
use Rattle.std.specs.List.Sorted.{IsStrictlySortedBy}
use Rattle.std.specs.Fmt.{signed_decimal}
use Rattle.std.specs.Map.{keys_of as map_keys}
use Rattle.std.specs.Ordering.{match_ordering}
use Rattle.json.specs.Json as json
use Rattle.json.specs.Lex.{tokens}
use Rattle.json.specs.Token.{Token}
use Rattle.json.specs.Token as token
use Rattle.json.specs.Tree.{items_tokens, json_tokens, members_tokens}
use Rattle.json.specs.Tree as tree
use Rattle.json.specs.Written.{Written, Writes}
use Rattle.json.proofs.Printed.Trees.{value-json_tokens}
use Rattle.serde_json.specs.Data.{Num, unsigned, negative, float, Data, null, boolean, number, string, array, object, Items, no_items, item, Members, no_members, member, put, depth, items_depth, members_depth}
use Rattle.serde_json.specs.Find.{as_i64, as_u64}
use Rattle.serde_json.specs.Number.{is_valid, num_of}
use Rattle.serde_json.specs.Read.{max_depth, number_of, of_items, of_json, of_members, read}
use Rattle.serde_json.specs.View.{members_view}
use Rattle.serde_json.specs.Written.{items_outline, members_outline, number_text, outline}
use Rattle.serde_json.specs.declared.number.N.{N}
use Rattle.serde_json.specs.declared.number.N.TheVariants.{PosInt, NegInt, Float}
use Rattle.serde_json.proofs.Numbers.{number_of-decimal, number_of-negative}
use Rattle.serde_json.proofs.Views.{Entry}
use Rattle.json_trees.specs.Copied.{Adds}
use Rattle.containers.specs.TextMaps.Keyed.{text_order}
use Rattle.containers.proofs.TextMaps.TextOrders.{turned_back}
use Rattle.hdf_values.proofs.PrintLemmas.{IsUnderway, underway_next}
use Rattle.documents.specs.Domains.Laws.{keys_of}
use Rattle.documents.specs.Domains.Writing.{Prints, ReadsBack, member_tokens}

-- ---- how deep the tokens nest

mutual
  pub outline_depth : (d : Data) → tree.depth (outline d) ≡ depth d
  outline_depth null = refl
  outline_depth (boolean b) = refl
  outline_depth (number n) = refl
  outline_depth (string s) = refl
  outline_depth (array ds) = ap suc (items_outline_depth ds)
  outline_depth (object ms) = ap suc (members_outline_depth ms)

  items_outline_depth : (ds : Items) → tree.items_depth (items_outline ds) ≡ items_depth ds
  items_outline_depth no_items = refl
  items_outline_depth (item d ds) = ap₂ max (outline_depth d) (items_outline_depth ds)

  members_outline_depth : (ms : Members) → tree.members_depth (members_outline ms) ≡ members_depth ms
  members_outline_depth no_members = refl
  members_outline_depth (member k d ms) = ap₂ max (outline_depth d) (members_outline_depth ms)

-- a text with these tokens is read as the tree
pub tokens_read : (d : Data) (text : List ℕ) → tokens text ≡ json_tokens (outline d) → ReadsBack d → depth d ≤ max_depth → read text ≡ Some d
tokens_read d text is exact shallow =
    ap (λ ts. option_and_then of_json (option_and_then (λ p. json.if_last p.0 p.1) (json.value max_depth ts))) (is ∙ sym (append-nil (json_tokens (outline d))))
    ∙ ap (λ v. option_and_then of_json (option_and_then (λ p. json.if_last p.0 p.1) v)) (value-json_tokens (outline d) max_depth [] (omega (arith, outline_depth d, shallow)))
    ∙ exact

-- ---- members one behind another

abbrev pub behind : Members → Members → Members
behind no_members ns = ns
behind (member k d ms) ns = member k d (behind ms ns)

pub behind_none : (ms : Members) → behind ms no_members ≡ ms
behind_none no_members = refl
behind_none (member k d ms) = ap (member k d) (behind_none ms)

pub behind_assoc : (ms ns os : Members) → behind (behind ms ns) os ≡ behind ms (behind ns os)
behind_assoc no_members ns os = refl
behind_assoc (member k d ms) ns os = ap (member k d) (behind_assoc ms ns os)

-- each key comes before this one
abbrev pub AreBelow : Members → List ℕ → Type 0
AreBelow no_members k = Unit {0}
AreBelow (member l e ms) k = (text_order l k ≡ Less) × AreBelow ms k

pub below_behind : (ms ns : Members) (k : List ℕ) → AreBelow ms k → AreBelow ns k → AreBelow (behind ms ns) k
below_behind no_members ns k h g = g
below_behind (member l e ms) ns k h g = (h.0, below_behind ms ns k h.1 g)

-- what is put at a later key goes behind them
pub put_behind : (k : List ℕ) (d : Data) (ms ns : Members) → AreBelow ms k → put k d (behind ms ns) ≡ behind ms (put k d ns)
put_behind k d no_members ns h = refl
put_behind k d (member l e ms) ns h =
    ap (λ (o : Ordering). match_ordering o (member k d (member l e (behind ms ns))) (member l d (behind ms ns)) (member l e (put k d (behind ms ns)))) (turned_back l k h.0)
    ∙ ap (member l e) (put_behind k d ms ns h.1)

-- ---- items and members are read

abbrev pub AreReadBack : Items → Type 0
AreReadBack no_items = Unit {0}
AreReadBack (item d ds) = ReadsBack d × AreReadBack ds

pub items_read : (ds : Items) → AreReadBack ds → of_items (items_outline ds) ≡ Some ds
items_read no_items each = refl
items_read (item d ds) each = ap (option_and_then (λ x. option_map (item x) (of_items (items_outline ds)))) each.0 ∙ ap (option_map (item d)) (items_read ds each.1)

abbrev pub MembersReadBack : Members → Type 0
MembersReadBack no_members = Unit {0}
MembersReadBack (member k d ms) = ReadsBack d × MembersReadBack ms

-- each key of the first comes before each of the second
abbrev AreApart : Members → Members → Type 0
AreApart ms ns = AllByRecursion (AreBelow ms) (keys_of ns)

abbrev Above : List ℕ → Members → Type 0
Above k ms = AllByRecursion (λ l. text_order k l ≡ Less) (keys_of ms)

apart_more : (ms ns : Members) (k : List ℕ) (d : Data) → AreApart ms ns → Above k ns → AreApart (behind ms (member k d no_members)) ns
apart_more ms no_members k d h g = tt
apart_more ms (member l e ns) k d h g = (below_behind ms (member k d no_members) l h.0 (g.0, tt), apart_more ms ns k d h.1 g.1)

none_apart : (ns : Members) → AreApart no_members ns
none_apart no_members = tt
none_apart (member l e ns) = (tt, none_apart ns)

read_behind : (front ms : Members) → IsStrictlySortedBy text_order (keys_of ms) → AreApart front ms → MembersReadBack ms → of_members (members_outline ms) front ≡ Some (behind front ms)
unfolding IsStrictlySortedBy
read_behind front no_members up apart each = ap Some (sym (behind_none front))
read_behind front (member k d ms) up apart each =
    ap (option_and_then (λ v. of_members (members_outline ms) (put k v front))) each.0
    ∙ ap (of_members (members_outline ms)) (ap (put k d) (sym (behind_none front)) ∙ put_behind k d front no_members apart.0)
    ∙ read_behind (behind front (member k d no_members)) ms up.1 (apart_more front ms k d apart.1 up.0) each.1
    ∙ ap Some (behind_assoc front (member k d no_members) ms)

pub members_read : (ms : Members) → IsStrictlySortedBy text_order (keys_of ms) → MembersReadBack ms → of_members (members_outline ms) no_members ≡ Some ms
members_read ms up each = read_behind no_members ms up (none_apart ms) each

-- the keys of a map
pub entries_rise : (es : List Entry) → IsStrictlySortedBy string_cmp (map_keys es) → IsStrictlySortedBy text_order (keys_of (members_view es))
unfolding IsStrictlySortedBy
entries_rise [] h = tt
entries_rise (e ∷ es) h = (all_above e.0 es h.0, entries_rise es h.1) where
  all_above : (k : String Global) (es : List Entry) → AllByRecursion (λ y. string_cmp k y ≡ Less) (map_keys es) → Above (string_bytes k) (members_view es)
  all_above k [] h = tt
  all_above k (e ∷ es) h = (h.0, all_above k es h.1)

-- ---- numbers

unsigned_is : (x : Num) (n : ℕ) → as_u64 x ≡ Some n → x ≡ unsigned n
unsigned_is (unsigned m) n e = let same : m ≡ n = cc in ap unsigned same
unsigned_is (negative z) n e = absurd (let both : None ≡ Some n = e in cc)
unsigned_is (float x) n e = absurd (let both : None ≡ Some n = e in cc)

negative_is : (x : N) (z : ℤ) → is_valid x ≡ true → as_u64 (num_of x) ≡ None → as_i64 (num_of x) ≡ Some z → (num_of x ≡ negative z) × (int_lt z (pos 0) ≡ true)
negative_is (PosInt m) z valid other e = absurd (let both : Some m ≡ None = other in cc)
negative_is (NegInt y) z valid other e = let same : y ≡ z = let whole : Some y ≡ Some z = e in cc in (ap negative same, ap (λ x. int_lt x (pos 0)) (sym same) ∙ valid)
negative_is (Float x) z valid other e = absurd (let both : None ≡ Some z = e in cc)

below_zero : (z : ℤ) → int_lt z (pos 0) ≡ true → SFits w64 z → number_of (signed_decimal z) ≡ Some (negative z)
below_zero (pos n) e fits = absurd (grind arith)
below_zero (negsuc n) e fits = number_of-negative n (grind arith)

-- a number was written
written_as : {E : Type 0} (r : Result (Unit {0}) E) (x y : Num) (old new : Written) → x ≡ y → number_of (number_text y) ≡ Some y → Writes r old new (token.number (number_text y)) → OnOk r (Prints (number x) old new)
written_as r x y old new is read w =
    on_ok_weaker r (λ e. record {
      added = record { tokens = e ∙ ap (λ z. old.tokens ++ token.number (number_text z) ∷ []) (sym is); before = w.room.0 };
      exact = ap (λ z. of_json (outline (number z))) is ∙ ap (option_map number) read ∙ ap (λ z. Some (number z)) (sym is);
    }) w.ok

pub unsigned_written : {E : Type 0} (r : Result (Unit {0}) E) (x : Num) (n : ℕ) (old new : Written) → as_u64 x ≡ Some n → n < 2 ^ 64 → Writes r old new (token.number (decimal n)) → OnOk r (Prints (number x) old new)
unsigned_written r x n old new is fits w = written_as r x (unsigned n) old new (unsigned_is x n is) (number_of-decimal n fits) w

pub negative_written : {E : Type 0} (r : Result (Unit {0}) E) (x : N) (z y : ℤ) (old new : Written) → is_valid x ≡ true → as_u64 (num_of x) ≡ None → as_i64 (num_of x) ≡ Some z → y ≡ z → SFits w64 z
    → Writes r old new (token.number (signed_decimal y)) → OnOk r (Prints (number (num_of x)) old new)
negative_written r x z y old new valid other is same fits w =
    let found = negative_is x z valid other is in
    written_as r (num_of x) (negative z) old new found.0 (below_zero z found.1 fits) (subst (λ v. Writes r old new (token.number (signed_decimal v))) same w)

-- ---- objects, member by member

-- the next of the members that are left was written
pub underway_member : (ts : List Token) (begun : Written) (k : List ℕ) (d : Data) (ms : Members) (now next : Written) → IsUnderway ts begun (members_tokens (members_outline (member k d ms))) now
    → Adds (member_tokens k d) now next → IsUnderway ts begun (members_tokens (members_outline ms)) next
underway_member ts begun k d ms now next h added = underway_next ts begun (member_tokens k d) (members_tokens (members_outline ms)) now next h added

-- a token, and then those of the rest
pub token_then : (a b c : Written) (t : Token) (ts : List Token) → b.tokens ≡ a.tokens ++ t ∷ [] → b.before ≡ a.before → Adds ts b c → Adds (t ∷ ts) a c
token_then a b c t ts first stays rest = record {
  tokens = rest.tokens ∙ ap (λ x. x ++ ts) first ∙ append_assoc a.tokens (t ∷ []) ts;
  before = rest.before ∙ stays;
}

-- the last token of those that are left
pub underway_done : (ts : List Token) (begun now next : Written) (t : Token) → IsUnderway ts begun (t ∷ []) now → next.tokens ≡ now.tokens ++ t ∷ [] → next.before ≡ now.before → Adds ts begun next
underway_done ts begun now next t h last stays = record { tokens = last ∙ h.tokens; before = stays ∙ h.before }

-- what is left behind a first bracket
pub underway_opened : (a b : Written) (t : Token) (ts : List Token) → b.tokens ≡ a.tokens ++ t ∷ [] → b.before ≡ a.before → IsUnderway (t ∷ ts) a ts b
underway_opened a b t ts first stays = record { tokens = ap (λ x. x ++ ts) first ∙ append_assoc a.tokens (t ∷ []) ts; before = stays }
