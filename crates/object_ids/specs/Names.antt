-- Names of users, groups, attributes, links and the parts of paths.
use Rattle.std.specs.Prelude.{ℕ, List, Bool, not, ◌==◌, ◌&&◌, nat_lt, nat_le, length}
use Rattle.std.specs.List.{list_all}

-- any byte of a text but the control characters of ASCII
abbrev pub is_name_byte : ℕ → Bool
is_name_byte byte = nat_le 32 byte && not (byte == 127)

-- a text of 1 to `most` such bytes
abbrev pub is_name : ℕ → List ℕ → Bool
is_name most text = nat_lt 0 (length text) && nat_le (length text) most && list_all is_name_byte text

abbrev pub has_no_slash : List ℕ → Bool
has_no_slash text = list_all (λ byte. not (byte == 47)) text
