-- Bytes that are a text, and bytes that are none.
use Rattle.std.proofs.Common.{◌≡◌, ap, refl, ℕ, Bool, true, false, List, Some, None}
use Rattle.std.specs.Prelude.{IsUtf8, cond}
use Rattle.std.specs.Str.{is_utf8}
use Rattle.std.proofs.lemmas.Str.{IsUtf8-from_is_utf8, is_utf8-from_IsUtf8}
use Rattle.rest_requests.specs.Queries.Targets.{if_text}

pub if_text-IsUtf8 : (bytes : List ℕ) → IsUtf8 bytes → if_text bytes ≡ Some bytes
if_text-IsUtf8 bytes utf8 = ap (λ (b : Bool). cond b (Some bytes) None) (is_utf8-from_IsUtf8 bytes utf8)

pub if_text-other : (bytes : List ℕ) → (IsUtf8 bytes → ⊥) → if_text bytes ≡ None
if_text-other bytes none = go (is_utf8 bytes) refl
  where
    go : (b : Bool) → is_utf8 bytes ≡ b → if_text bytes ≡ None
    go true e = absurd (none (IsUtf8-from_is_utf8 bytes e))
    go false e = ap (λ (b : Bool). cond b (Some bytes) None) e
