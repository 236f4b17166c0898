-- The text of a value that was passed to a writer reads as the value.
use Rattle.std.proofs.Common.{◌≡◌, ◌≤◌, arith, ◌++◌, ◌∷◌, ℕ, List, [], Bool, true, false, cond, Some, None, IsUtf8, refl, sym, ap, subst, ◌∙◌, append-nil}
use Rattle.std.specs.Str.{is_utf8}
use Rattle.std.proofs.lemmas.Str.{IsUtf8-from_is_utf8, is_utf8-from_IsUtf8}
use Rattle.json.specs.Json as json
use Rattle.json.specs.Lex.{tokens}
use Rattle.json.specs.Print.{print}
use Rattle.json.specs.Token.{Token}
use Rattle.json.specs.Tree.{json_tokens}
use Rattle.json.specs.Written.{Written}
use Rattle.json.proofs.Found.{Some_inj}
use Rattle.json.proofs.Printed.Trees.{value-json_tokens}
use Rattle.serde_json.specs.Read.{converted, max_depth, of_json, read}
use Rattle.serde_json.specs.Data.{Data}
use Rattle.json_trees.specs.Trees.{AreTexts, tree_in}
use Rattle.json_trees.specs.Copied.{Copies, Reads}
use Rattle.json_trees.specs.Kept.{Begins, IsKept, kept_tree, or_null}
use Rattle.json_trees.proofs.OfKept.ReadLemmas.{read_found}
use Rattle.json_trees.proofs.OfKept.GrammarLemmas.{whole, whole_and_more, whole_refused}

-- the text that was read, of which no token is left
pub text_read : (text : List ℕ) (old new : Written) → (h : Copies max_depth (tokens text) [] old new) → read text ≡ Some h.tree
text_read text old new h = ap whole (read_found max_depth (tokens text) [] h.tree h.read) ∙ h.read.reads

-- of which some token is left
pub more_left : (text : List ℕ) (t : Token) (r : List Token) (old new : Written) → Copies max_depth (tokens text) (t ∷ r) old new → read text ≡ None
more_left text t r old new h = whole_and_more (json.value max_depth (tokens text)) h.read.value t r (read_found max_depth (tokens text) (t ∷ r) h.tree h.read)

pub text_refused : (text : List ℕ) → converted of_json (json.value max_depth (tokens text)) ≡ None → read text ≡ None
text_refused text e = whole_refused (json.value max_depth (tokens text)) e

-- the text that was written
pub kept_tokens : (most : ℕ) (from rest : List Token) (old new : Written) (text : List ℕ) → most ≤ max_depth → (h : Copies most from rest old new) → old.tokens ≡ [] → old.before ≡ [] → text ≡ new.before ++ print new.tokens → tokens (print new.tokens) ≡ new.tokens
    → Begins (tokens text) h.tree []
kept_tokens most from rest old new text few h none first is back =
    let j = h.read.value in
    let printed : text ≡ print new.tokens = is ∙ ap (λ b. b ++ print new.tokens) (h.added.before ∙ first) in
    let written : new.tokens ≡ json_tokens h.read.value ++ [] = h.added.tokens ∙ ap (λ ts. ts ++ json_tokens j) none ∙ sym (append-nil (json_tokens j)) in
    record { value = j; tokens = ap tokens printed ∙ back ∙ written; shallow = omega (arith, h.read.shallow, few); reads = h.read.reads }

pub kept_read : (text : List ℕ) (tree : Data) → Begins (tokens text) tree [] → read text ≡ Some tree
kept_read text tree h = ap (λ ts. whole (json.value max_depth ts)) h.tokens ∙ ap whole (value-json_tokens h.value max_depth [] h.shallow) ∙ h.reads

-- the tree that a text is kept for has its tokens
pub begins_kept : (text : List ℕ) → IsKept text → Begins (tokens text) (kept_tree text) []
begins_kept text h = subst (λ d. Begins (tokens text) d []) (ap or_null (sym (kept_read text h.0 h.1))) h.1

pub kept_texts : (text : List ℕ) → IsKept text → AreTexts (kept_tree text)
kept_texts text h = subst AreTexts (ap or_null (sym (kept_read text h.0 h.1))) h.2

-- what is read of the same tokens is the same
both_read : (p q : json.Json × List Token) (d e : Data) → Some p ≡ Some q → of_json p.0 ≡ Some d → of_json q.0 ≡ Some e → (d ≡ e) × (p.1 ≡ q.1)
both_read p q d e is f g =
    let same = Some_inj p q is in
    (Some_inj d e (sym f ∙ ap (λ x. of_json x.0) same ∙ g), ap (λ x. x.1) same)

pub read_once : (from now rest : List Token) (kept tree : Data) → Begins from kept now → Begins from tree rest → (kept ≡ tree) × (now ≡ rest)
read_once from now rest kept tree h b = both_read (h.value, now) (b.value, rest) kept tree (sym (read_found max_depth from now kept h) ∙ read_found max_depth from rest tree b) h.reads b.reads

-- the tree that is kept is the one that was read
pub kept_reads : (most : ℕ) (from rest : List Token) (tree : Data) (text : List ℕ) → Reads most from tree rest → Begins (tokens text) tree [] → Reads most from (kept_tree text) rest
kept_reads most from rest tree text h kept = subst (λ d. Reads most from d rest) (ap or_null (sym (kept_read text tree kept))) h

-- ---- bytes

pub tree_read : (bytes : List ℕ) (d : Data) → IsUtf8 bytes → read bytes ≡ Some d → tree_in bytes ≡ Some d
tree_read bytes d utf8 is = ap (λ b. cond b (read bytes) None) (is_utf8-from_IsUtf8 bytes utf8) ∙ is

pub no_text : (bytes : List ℕ) → (IsUtf8 bytes → ⊥) → tree_in bytes ≡ None
no_text bytes none = go (is_utf8 bytes) refl
  where
    go : (b : Bool) → is_utf8 bytes ≡ b → tree_in bytes ≡ None
    go true e = absurd (none (IsUtf8-from_is_utf8 bytes e))
    go false e = ap (λ b. cond b (read bytes) None) e
