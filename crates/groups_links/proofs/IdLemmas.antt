-- Texts and the ids that they are.
use Rattle.std.proofs.Common.{◌≡◌, ◌≢◌, ℕ, ◌^◌, List, ◌++◌, true, false, cond, Bool, drop, Option, Some, None, option_and_then, refl, sym, ap, ◌∙◌}
use Rattle.std.proofs.lemmas.Bool.{lt-ltb, ltb-true, and_parts}
use Rattle.std.specs.Int.{from_be_bytes, to_be_bytes, w128}
use Rattle.std.specs.Prelude.{IfSome, IfNone}
use Rattle.json_trees.proofs.TableLemmas.{equal_bytes, same_bytes}
use Rattle.json_trees.proofs.TreeLemmas.{and_then_some}
use Rattle.object_ids.specs.Text.{parsed}
use Rattle.object_ids.specs.Ids.{InRange, bits_of, id_in, prefix_of, text_of_id, uuid_of}
use Rattle.object_ids.specs.IdValues.{Id}
use Rattle.object_ids.specs.declared.ids.Kind.{Kind}
use Rattle.object_ids.specs.declared.ids.Kind.TheVariants.{Group, Dataset, Datatype}
use Rattle.object_ids.proofs.IdBits.{from_to_bytes, id_in-bits, parses_uuid, small_bits}
use Rattle.groups_links.specs.IdTexts.{id_of, id_with, is_text_of, kind_in}
use Rattle.object_ids.proofs.IdTexts.{drop-prefix_of}

kind_in-prefix : (k : Kind) (rest : List ℕ) → kind_in (prefix_of k ++ rest) ≡ k
kind_in-prefix Group rest = refl
kind_in-prefix Dataset rest = refl
kind_in-prefix Datatype rest = refl

is_own : (id : Id) → InRange id → is_text_of id (text_of_id id) ≡ true
is_own id h = rw (lt-ltb id.domain (2 ^ 48) h.domain, lt-ltb id.run (2 ^ 22) h.run, lt-ltb id.serial (2 ^ 40) h.serial, equal_bytes (text_of_id id)) refl

owned : (id : Id) (text : List ℕ) → is_text_of id text ≡ true → InRange id × (text_of_id id ≡ text)
owned id text e =
    let last = and_parts _ _ e in
    let serial = and_parts _ _ last.0 in
    let run = and_parts _ _ serial.0 in (
      record { domain = ltb-true id.domain (2 ^ 48) run.0; run = ltb-true id.run (2 ^ 22) run.1; serial = ltb-true id.serial (2 ^ 40) serial.1 },
      same_bytes (text_of_id id) text last.1,
    )

chosen_id : (b : Bool) (a id : Id) → cond b (Some a) None ≡ Some id → (b ≡ true) × (a ≡ id)
chosen_id true a id e = (refl, let same : Some a ≡ Some id = e in cc)
chosen_id false a id e = let none : None ≡ Some id = e in absurd (cc)

with_own : (text : List ℕ) (a id : Id) → id_with text a ≡ Some id → is_text_of id text ≡ true
with_own text a id e =
    let own = chosen_id (is_text_of a text) a id e in
    ap (λ b. is_text_of b text) (sym own.1) ∙ own.0

-- a text that is read as an id is that id's
pub id_told : (text : List ℕ) (id : Id) → id_of text ≡ Some id → InRange id × (text_of_id id ≡ text)
unfolding id_of
id_told text id e =
    let found = and_then_some (λ bytes. id_with text (id_in (kind_in text) (from_be_bytes w128 bytes))) (parsed (drop 2 text)) id e in
    owned id text (with_own text (id_in (kind_in text) (from_be_bytes w128 found.0)) id found.2)

own_id : (id : Id) → InRange id → id_in (kind_in (text_of_id id)) (from_be_bytes w128 (to_be_bytes w128 (bits_of id))) ≡ id
own_id id h =
    ap (λ k. id_in k (from_be_bytes w128 (to_be_bytes w128 (bits_of id)))) (kind_in-prefix id.kind (uuid_of id))
    ∙ ap (id_in id.kind) (from_to_bytes (bits_of id) (small_bits id.domain id.run id.serial h.domain h.run h.serial))
    ∙ id_in-bits id h

-- the text of an id is read as that id
pub id_of-text : (id : Id) → InRange id → id_of (text_of_id id) ≡ Some id
unfolding id_of
id_of-text id h =
    let reads = λ (bytes : List ℕ). id_with (text_of_id id) (id_in (kind_in (text_of_id id)) (from_be_bytes w128 bytes)) in
    ap (λ text. option_and_then reads (parsed text)) (drop-prefix_of id.kind (uuid_of id))
    ∙ ap (option_and_then reads) (sym (parses_uuid id))
    ∙ ap (id_with (text_of_id id)) (own_id id h)
    ∙ ap (λ b. cond b (Some id) None) (is_own id h)

pub id_read : (text : List ℕ) (id : Id) → InRange id → text_of_id id ≡ text → id_of text ≡ Some id
id_read text id h e = ap id_of (sym e) ∙ id_of-text id h

none_told : (text : List ℕ) (found : Option Id) → id_of text ≡ found → ((id : Id) → InRange id → text_of_id id ≢ text) → found ≡ None
none_told text None e none = refl
none_told text (Some id) e none = let own = id_told text id e in absurd (none id own.0 own.1)

-- a text that is no id's is read as none
pub no_id : (text : List ℕ) → ((id : Id) → InRange id → text_of_id id ≢ text) → id_of text ≡ None
no_id text none = none_told text _ refl none

-- what a text is read as is the id that it is
pub id_found : (text : List ℕ) (found : Option Id) → IfSome found InRange → IfSome found (λ id. text_of_id id ≡ text)
    → IfNone found ((id : Id) → InRange id → text_of_id id ≢ text) → found ≡ id_of text
id_found text None range some none = sym (no_id text none)
id_found text (Some id) range some none = sym (id_read text id range some)
