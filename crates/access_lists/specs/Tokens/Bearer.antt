-- Who sends a request, by its Authorization header.
--     bearer_token value      the token that a header's value shows by the scheme Bearer of RFC 6750
--     ShowsToken value token      that this is the token
--     TokenTable      a finite map from tokens to callers
--     caller_of table authorization      the caller, or None where the header is refused
use Rattle.std.specs.Prelude.{◌≡◌, ℕ, List, [], ◌∷◌, ◌++◌, Bool, true, false, not, ◌==◌, Option, Some, None, take, drop, map, codes, if◌then◌else◌, option_and_then}
use Rattle.std.specs.List.{list_all}
use Rattle.std.specs.Str.{bytes_eq}
use Rattle.std.specs.Char.{to_ascii_lowercase}
use Rattle.std.specs.FinMap.{FinMap, get}
use Rattle.containers.specs.TextMaps.Keyed.{text_order}
use Rattle.access_lists.specs.declared.people.Caller.{Caller}
use Rattle.access_lists.specs.InForce.{anonymous_caller}

-- a text without the spaces at its front
abbrev pub without_spaces : List ℕ → List ℕ
without_spaces [] = []
without_spaces (byte ∷ bytes) = if byte == 32 then without_spaces bytes else byte ∷ bytes

-- a text of at least one byte that does not begin with a space
abbrev pub begins_token : List ℕ → Bool
begins_token [] = false
begins_token (byte ∷ bytes) = not (byte == 32)

-- a text of at least one byte
abbrev pub if_any : List ℕ → Option (List ℕ)
if_any [] = None
if_any (byte ∷ bytes) = Some (byte ∷ bytes)

-- what stands after one space or more
abbrev pub after_spaces : List ℕ → Option (List ℕ)
after_spaces [] = None
after_spaces (byte ∷ bytes) = if byte == 32 then if_any (without_spaces bytes) else None

-- the name of the scheme, in any case
abbrev pub is_bearer : List ℕ → Bool
is_bearer scheme = bytes_eq (map to_ascii_lowercase scheme) (codes "bearer")

-- `Bearer`, one space or more, and then the token, which is all the rest
abbrev pub bearer_token : List ℕ → Option (List ℕ)
bearer_token value = if is_bearer (take 6 value) then after_spaces (drop 6 value) else None

-- the same in other words: the scheme's name, a space and maybe more, and the token stand one after another
pub record ShowsToken (value token : List ℕ) : Type 0 where
  pub scheme : List ℕ
  pub spaces : List ℕ
  pub named : map to_ascii_lowercase scheme ≡ codes "bearer"
  pub blank : list_all (λ byte. byte == 32) spaces ≡ true
  pub begins : begins_token token ≡ true
  pub parts : value ≡ scheme ++ (32 ∷ spaces ++ token)

abbrev pub TokenTable : Type 0
TokenTable = FinMap text_order Caller

-- Without the header it is a caller without user and groups. With it, the caller whose token it shows.
abbrev pub caller_of : TokenTable → Option (List ℕ) → Option Caller
caller_of table None = Some anonymous_caller
caller_of table (Some value) = option_and_then (get table) (bearer_token value)
