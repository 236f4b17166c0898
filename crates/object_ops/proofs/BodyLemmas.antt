-- What stands at a key of a refusal's body.
use Rattle.std.proofs.Common.{◌≡◌, ℕ, List, Option, Some, None, codes, cond, refl, ◌∙◌}
use Rattle.serde_json.specs.Data.{Data, Members, member, number, unsigned, string, no_members}
use Rattle.serde_json.specs.Find.{get, get_member}
use Rattle.object_ops.specs.declared.refusals.Refusal.{Refusal}
use Rattle.object_ops.specs.declared.refusals.Refusal.TheVariants.{BadSelect, BadValue}
use Rattle.object_ops.specs.declared.words.SelectWord.{SelectWord}
use Rattle.object_ops.specs.declared.words.ValueWord.{ValueWord}
use Rattle.object_ops.specs.Words.{select_word, value_word}
use Rattle.object_ops.specs.Refusals.{maybe_member, members_with, reason_alone, reason_of, refusal_tree, speaks_of_path, text_member}

-- a number that may be there stands at another key
skip : (key other : List ℕ) → ((d : Data) (ms : Members) → get_member key (member other d ms) ≡ get_member key ms)
    → (n : Option ℕ) (ms : Members) → get_member key (maybe_member other n ms) ≡ get_member key ms
skip key other passes None ms = refl
skip key other passes (Some n) ms = passes (number (unsigned n)) ms

-- of a refusal with parts that may be there, at a key that is none of theirs
module _ (key word path : List ℕ)
    (no_axis : (d : Data) (ms : Members) → get_member key (member (codes "axis") d ms) ≡ get_member key ms)
    (no_byte : (d : Data) (ms : Members) → get_member key (member (codes "byte") d ms) ≡ get_member key ms)
    (no_fault : (d : Data) (ms : Members) → get_member key (member (codes "fault") d ms) ≡ get_member key ms)
    (no_index : (d : Data) (ms : Members) → get_member key (member (codes "index") d ms) ≡ get_member key ms)
    (no_got : (d : Data) (ms : Members) → get_member key (member (codes "got") d ms) ≡ get_member key ms)
    (no_place : (d : Data) (ms : Members) → get_member key (member (codes "place") d ms) ≡ get_member key ms) where
  at_select : (fault : SelectWord) (axis byte index : Option ℕ) → get_member key (members_with word path (BadSelect fault axis byte index)) ≡ get_member key (reason_alone word)
  at_select fault axis byte index =
      skip key (codes "axis") no_axis axis (maybe_member (codes "byte") byte (text_member (codes "fault") (select_word fault) (maybe_member (codes "index") index (reason_alone word))))
      ∙ skip key (codes "byte") no_byte byte (text_member (codes "fault") (select_word fault) (maybe_member (codes "index") index (reason_alone word)))
      ∙ no_fault (string (select_word fault)) (maybe_member (codes "index") index (reason_alone word))
      ∙ skip key (codes "index") no_index index (reason_alone word)

  at_value : (fault : ValueWord) (place got want : Option ℕ)
      → get_member key (members_with word path (BadValue fault place got want)) ≡ get_member key (text_member (codes "reason") word (maybe_member (codes "want") want no_members))
  at_value fault place got want =
      no_fault (string (value_word fault)) (maybe_member (codes "got") got (maybe_member (codes "place") place (text_member (codes "reason") word (maybe_member (codes "want") want no_members))))
      ∙ skip key (codes "got") no_got got (maybe_member (codes "place") place (text_member (codes "reason") word (maybe_member (codes "want") want no_members)))
      ∙ skip key (codes "place") no_place place (text_member (codes "reason") word (maybe_member (codes "want") want no_members))

pub reason_told : (path : List ℕ) (refusal : Refusal) → get (codes "reason") (refusal_tree path refusal) ≡ Some (string (reason_of refusal))
reason_told path (BadSelect fault axis byte index) =
    at_select (codes "reason") (codes "bad-select") path (λ d ms. refl) (λ d ms. refl) (λ d ms. refl) (λ d ms. refl) (λ d ms. refl) (λ d ms. refl) fault axis byte index
reason_told path (BadValue fault place got want) =
    at_value (codes "reason") (codes "bad-value") path (λ d ms. refl) (λ d ms. refl) (λ d ms. refl) (λ d ms. refl) (λ d ms. refl) (λ d ms. refl) fault place got want
reason_told path refusal = refl

pub path_told : (path : List ℕ) (refusal : Refusal) → get (codes "domain") (refusal_tree path refusal) ≡ cond (speaks_of_path refusal) (Some (string path)) None
path_told path (BadSelect fault axis byte index) =
    at_select (codes "domain") (codes "bad-select") path (λ d ms. refl) (λ d ms. refl) (λ d ms. refl) (λ d ms. refl) (λ d ms. refl) (λ d ms. refl) fault axis byte index
path_told path (BadValue fault place got want) =
    at_value (codes "domain") (codes "bad-value") path (λ d ms. refl) (λ d ms. refl) (λ d ms. refl) (λ d ms. refl) (λ d ms. refl) (λ d ms. refl) fault place got want
    ∙ skip (codes "domain") (codes "want") (λ d ms. refl) want no_members
path_told path refusal = refl
