-- What was written of a document, put together: objects of five members, values, and the text.
use Rattle.std.proofs.Common.{◌≡◌, ℕ, List, [], ◌∷◌, ◌++◌, IsUtf8, Result, OnOk, sym, ap, subst, ◌∙◌}
use Rattle.std.proofs.lemmas.Result.{on_ok_weaker}
use Rattle.json.specs.Lex.{tokens}
use Rattle.json.specs.Print.{print}
use Rattle.json.specs.Token.{begin_object, end_object}
use Rattle.json.specs.Tree.{json_tokens, members_tokens}
use Rattle.json.specs.Written.{Written, Writes}
use Rattle.serde_json.specs.Data.{Data, Members, member, no_members, object}
use Rattle.serde_json.specs.Written.{members_outline, outline}
use Rattle.json_trees.specs.Copied.{Adds}
use Rattle.hdf_types.specs.Elems.{Elem}
use Rattle.hdf_types.specs.Types.{IsSoundType}
use Rattle.shapes.specs.RowMajor.{cell_count}
use Rattle.shapes.specs.Shapes.{count_of}
use Rattle.shapes.specs.declared.Shape.{Shape}
use Rattle.shapes.specs.declared.Shape.TheVariants.{Scalar, Simple}
use Rattle.hdf_values.specs.Nested.{AreEncoded, nested_decoded}
use Rattle.hdf_values.specs.Shaped.{value_tree}
use Rattle.hdf_values.proofs.PrintLemmas.{IsUnderway, printed}
use Rattle.hdf_values.proofs.ReadBackLemmas.{nested_whole, outline_read}
use Rattle.documents.specs.Domains.Documents.{whole_tree}
use Rattle.documents.specs.Domains.Entries.{dataset_tree}
use Rattle.documents.specs.Domains.Printed.{IsPrinted}
use Rattle.documents.specs.Domains.Writing.{Prints, PrintsMember, ReadsBack}
use Rattle.documents.proofs.OfDomains.TokenLemmas.{tokens_read, underway_done, underway_member, underway_opened}

-- ---- objects of five members

module _ {E : Type 0} (r : Result (Unit {0}) E) (k₁ k₂ k₃ k₄ k₅ : List ℕ) (d₁ d₂ d₃ d₄ d₅ : Data) (begun opened w₁ w₂ w₃ w₄ w₅ new : Written) where
  abbrev five : Members
  five = member k₁ d₁ (member k₂ d₂ (member k₃ d₃ (member k₄ d₄ (member k₅ d₅ no_members))))

  pub five_written : opened.tokens ≡ begun.tokens ++ begin_object ∷ [] → opened.before ≡ begun.before
      → PrintsMember k₁ d₁ opened w₁ → PrintsMember k₂ d₂ w₁ w₂ → PrintsMember k₃ d₃ w₂ w₃ → PrintsMember k₄ d₄ w₃ w₄ → PrintsMember k₅ d₅ w₄ w₅ → Writes r w₅ new end_object
      → ReadsBack (object five) → OnOk r (Prints (object five) begun new)
  five_written opens stays p₁ p₂ p₃ p₄ p₅ closes reads =
      let all = begin_object ∷ members_tokens (members_outline five) in
      let s₀ : IsUnderway all begun (members_tokens (members_outline five)) opened = underway_opened begun opened begin_object (members_tokens (members_outline five)) opens stays in
      let s₁ = underway_member all begun k₁ d₁ (member k₂ d₂ (member k₃ d₃ (member k₄ d₄ (member k₅ d₅ no_members)))) opened w₁ s₀ p₁.added in
      let s₂ = underway_member all begun k₂ d₂ (member k₃ d₃ (member k₄ d₄ (member k₅ d₅ no_members))) w₁ w₂ s₁ p₂.added in
      let s₃ = underway_member all begun k₃ d₃ (member k₄ d₄ (member k₅ d₅ no_members)) w₂ w₃ s₂ p₃.added in
      let s₄ = underway_member all begun k₄ d₄ (member k₅ d₅ no_members) w₃ w₄ s₃ p₄.added in
      let s₅ = underway_member all begun k₅ d₅ no_members w₄ w₅ s₄ p₅.added in
      on_ok_weaker r (λ last. record { added = underway_done all begun w₅ new end_object s₅ last closes.room.0; exact = reads }) closes.ok

pub dataset_read : (attributes creation shape type value : Data) → ReadsBack attributes → ReadsBack creation → ReadsBack shape → ReadsBack type → ReadsBack value → ReadsBack (dataset_tree attributes creation shape type value)
dataset_read attributes creation shape type value a c s t v = rw (a, c, s, t, v)

pub whole_read : (datasets datatypes groups : Data) (root : List ℕ) → ReadsBack datasets → ReadsBack datatypes → ReadsBack groups → ReadsBack (whole_tree datasets datatypes groups root)
whole_read datasets datatypes groups root d t g = rw (d, t, g)

-- ---- values

nested_printed : {E : Type 0} (r : Result (Unit {0}) E) (e : Elem) (dims bs : List ℕ) (old new : Written) → IsSoundType e → AreEncoded e (cell_count dims) bs
    → OnOk r (Adds (json_tokens (outline (nested_decoded e dims bs))) old new) → OnOk r (Prints (nested_decoded e dims bs) old new)
nested_printed r e dims bs old new sound encoded h =
    on_ok_weaker r (λ added. record { added = added; exact = outline_read (nested_decoded e dims bs) (nested_whole e dims bs sound.formed encoded) }) h

pub scalar_printed : {E : Type 0} (r : Result (Unit {0}) E) (e : Elem) (s : Shape) (dims bs : List ℕ) (old new : Written) → s ≡ Scalar → dims ≡ [] → IsSoundType e → AreEncoded e (count_of s) bs
    → OnOk r (Adds (json_tokens (outline (nested_decoded e dims bs))) old new) → OnOk r (Prints (value_tree e s bs) old new)
scalar_printed r e s dims bs old new is none sound encoded h =
    subst (λ (x : Shape). OnOk r (Prints (value_tree e x bs) old new)) (sym is)
    (nested_printed r e [] bs old new sound (subst (λ (x : Shape). AreEncoded e (count_of x) bs) is encoded)
    (subst (λ ds. OnOk r (Adds (json_tokens (outline (nested_decoded e ds bs))) old new)) none h))

pub simple_printed : {E : Type 0} (r : Result (Unit {0}) E) (e : Elem) (s : Shape) (dims limits bs : List ℕ) (old new : Written) → s ≡ Simple dims limits → IsSoundType e → AreEncoded e (count_of s) bs
    → OnOk r (Adds (json_tokens (outline (nested_decoded e dims bs))) old new) → OnOk r (Prints (value_tree e s bs) old new)
simple_printed r e s dims limits bs old new is sound encoded h =
    subst (λ (x : Shape). OnOk r (Prints (value_tree e x bs) old new)) (sym is)
    (nested_printed r e dims bs old new sound (subst (λ (x : Shape). AreEncoded e (count_of x) bs) is encoded) h)

-- ---- the text

pub text_printed : (d : Data) (begun now : Written) (text : List ℕ) → begun.tokens ≡ [] → begun.before ≡ [] → Prints d begun now → text ≡ now.before ++ print now.tokens → tokens (print now.tokens) ≡ now.tokens → IsUtf8 text → IsPrinted d text
text_printed d begun now text none first h is back utf8 =
    let found : tokens text ≡ json_tokens (outline d) =
    ap tokens (is ∙ ap (λ b. b ++ print now.tokens) (h.added.before ∙ first)) ∙ back ∙ h.added.tokens ∙ ap (λ ts. ts ++ json_tokens (outline d)) none in
    record {
      told = printed d begun now text none first h.added is;
      reads = record { utf8 = utf8; reads = tokens_read d text found h.exact };
    }
