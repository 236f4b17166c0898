-- An object that is read has each key once, in byte order.
use Rattle.std.proofs.Common.{◌≡◌, ℕ, List, Option, Some, None, option_map, option_and_then, IfSome, Ordering, Less, Equal, Greater, refl, subst}
use Rattle.std.specs.Ordering.{match_ordering}
use Rattle.std.proofs.lemmas.Cmp.{nat_list_cmp_total}
use Rattle.json.specs.Json as json
use Rattle.json.specs.Lex.{tokens}
use Rattle.serde_json.specs.Data.{Data, null, boolean, number, string, array, object, Members, no_members, member, put}
use Rattle.serde_json.specs.Find.{get_member}
use Rattle.serde_json.specs.Read.{max_depth, number_of, of_items, of_json, of_members, read}
use Rattle.containers.specs.TextMaps.Keyed.{text_order}
use Rattle.containers.proofs.TextMaps.TextOrders.{turned}

-- a key stands before each of some members
abbrev pub Above : List ℕ → Members → Type 0
Above k no_members = Unit {0}
Above k (member l d ms) = (text_order k l ≡ Less) × Above k ms

abbrev pub IsRising : Members → Type 0
IsRising no_members = Unit {0}
IsRising (member k d ms) = Above k ms × IsRising ms

-- so is each object that isn't inside a list
abbrev mutual
  pub IsTidy : Data → Type 0
  IsTidy null = Unit {0}
  IsTidy (boolean b) = Unit {0}
  IsTidy (number n) = Unit {0}
  IsTidy (string s) = Unit {0}
  IsTidy (array ds) = Unit {0}
  IsTidy (object ms) = IsRising ms × EachTidy ms

  pub EachTidy : Members → Type 0
  EachTidy no_members = Unit {0}
  EachTidy (member k d ms) = IsTidy d × EachTidy ms

map_if : {A B : Type 0} (f : A → B) (Q : B → Type 0) (o : Option A) → ((x : A) → o ≡ Some x → Q (f x)) → IfSome (option_map f o) Q
map_if f Q None h = tt
map_if f Q (Some x) h = h x refl

bind_if : {A B : Type 0} (f : A → Option B) (Q : B → Type 0) (o : Option A) → ((x : A) → o ≡ Some x → IfSome (f x) Q) → IfSome (option_and_then f o) Q
bind_if f Q None h = tt
bind_if f Q (Some x) h = h x refl

pub from_if : {A : Type 0} (Q : A → Type 0) (o : Option A) (x : A) → IfSome o Q → o ≡ Some x → Q x
from_if Q None x h e = let both : None ≡ Some x = e in absurd (cc)
from_if Q (Some y) x h e = subst Q (let same : y ≡ x = cc in same) h

pub above_weaker : (k l : List ℕ) (ms : Members) → text_order k l ≡ Less → Above l ms → Above k ms
above_weaker k l no_members lt h = tt
above_weaker k l (member m d ms) lt h = (nat_list_cmp_total.trans k l m lt h.0, above_weaker k l ms lt h.1)

-- ---- what is put keeps the order

above_put : (x k : List ℕ) (d : Data) (ms : Members) → text_order x k ≡ Less → Above x ms → Above x (put k d ms)
above_put x k d no_members lt h = (lt, tt)
above_put x k d (member l e ms) lt h = at (text_order k l) (above_put x k d ms lt h.1) where
  at : (o : Ordering) → Above x (put k d ms) → Above x (match_ordering o (member k d (member l e ms)) (member l d ms) (member l e (put k d ms)))
  at Less rest = (lt, h)
  at Equal rest = h
  at Greater rest = (h.0, rest)

rising_put : (k : List ℕ) (d : Data) (ms : Members) → IsRising ms → IsRising (put k d ms)
rising_put k d no_members h = (tt, tt)
rising_put k d (member l e ms) h = at (text_order k l) refl (rising_put k d ms h.1) where
  at : (o : Ordering) → text_order k l ≡ o → IsRising (put k d ms) → IsRising (match_ordering o (member k d (member l e ms)) (member l d ms) (member l e (put k d ms)))
  at Less is rest = ((is, above_weaker k l ms is h.0), h)
  at Equal is rest = h
  at Greater is rest = (above_put l k d ms (turned k l is) h.0, rest)

each_put : (k : List ℕ) (d : Data) (ms : Members) → IsTidy d → EachTidy ms → EachTidy (put k d ms)
each_put k d no_members t h = (t, tt)
each_put k d (member l e ms) t h = at (text_order k l) (each_put k d ms t h.1) where
  at : (o : Ordering) → EachTidy (put k d ms) → EachTidy (match_ordering o (member k d (member l e ms)) (member l d ms) (member l e (put k d ms)))
  at Less rest = (t, h)
  at Equal rest = (t, h.1)
  at Greater rest = (h.0, rest)

mutual
  tidy_json : (j : json.Json) → IfSome (of_json j) IsTidy
  tidy_json json.null = tt
  tidy_json (json.boolean b) = tt
  tidy_json (json.number s) = map_if number IsTidy (number_of s) (λ n e. tt)
  tidy_json (json.string s) = tt
  tidy_json (json.array js) = map_if array IsTidy (of_items js) (λ ds e. tt)
  tidy_json (json.object ms) =
      map_if object IsTidy (of_members ms no_members) (λ found e. from_if (λ all. IsRising all × EachTidy all) (of_members ms no_members) found (tidy_members ms no_members (tt, tt)) e)

  tidy_members : (ms : json.Members) (found : Members) → (IsRising found × EachTidy found) → IfSome (of_members ms found) (λ all. IsRising all × EachTidy all)
  tidy_members json.no_members found h = h
  tidy_members (json.member k j ms) found h =
      bind_if (λ d. of_members ms (put k d found)) (λ all. IsRising all × EachTidy all) (of_json j)
      (λ d e. tidy_members ms (put k d found) (rising_put k d found h.0, each_put k d found (from_if IsTidy (of_json j) d (tidy_json j) e) h.1))

-- what is read is tidy
pub read_tidy : (text : List ℕ) (d : Data) → read text ≡ Some d → IsTidy d
read_tidy text d e = from_if IsTidy (read text) d (bind_if of_json IsTidy (option_and_then (λ p. json.if_last p.0 p.1) (json.value max_depth (tokens text))) (λ j is. tidy_json j)) e

-- what stands at a key of a tidy object
pub tidy_member : (k : List ℕ) (d : Data) (ms : Members) → EachTidy ms → get_member k ms ≡ Some d → IsTidy d
tidy_member k d no_members h e = let both : None ≡ Some d = e in absurd (cc)
tidy_member k d (member l c ms) h e = at (text_order k l) (tidy_member k d ms h.1) e where
  at : (o : Ordering) → (get_member k ms ≡ Some d → IsTidy d) → match_ordering o (get_member k ms) (Some c) (get_member k ms) ≡ Some d → IsTidy d
  at Less rest f = rest f
  at Equal rest f = subst IsTidy (let same : c ≡ d = cc in same) h.0
  at Greater rest f = rest f
