-- The paths of folders and domains.
use Rattle.std.specs.Prelude.{ℕ, ◌-◌, List, [], ◌∷◌, Bool, false, not, ◌==◌, ◌&&◌, ◌||◌, nat_eq, nat_lt, nat_le, length, take, drop, Option, Some, None, if◌then◌else◌, codes}
use Rattle.std.specs.List.{list_all, slice_split, ends_with, before_last}
use Rattle.std.specs.Str.{bytes_eq}
use Rattle.object_ids.specs.Names.{is_name}

-- the most bytes of a path, and of a part
abbrev pub most_of_path : ℕ
most_of_path = 1024

abbrev pub most_of_part : ℕ
most_of_part = 255

-- the path `/`
abbrev pub root_path : List ℕ
root_path = 47 ∷ []

abbrev pub is_slash : ℕ → Bool
is_slash byte = byte == 47

abbrev pub starts_with_slash : List ℕ → Bool
starts_with_slash [] = false
starts_with_slash (byte ∷ _) = is_slash byte

-- what stands between the slashes, and after the last one, of a text that begins with a slash
abbrev pub parts_of : List ℕ → List (List ℕ)
parts_of path = slice_split is_slash (drop 1 path)

-- a name that is neither `.` nor `..`
abbrev pub is_part : List ℕ → Bool
is_part part = is_name most_of_part part && not (bytes_eq part (codes ".")) && not (bytes_eq part (codes ".."))

-- `/`, or one part or more, each begun by a slash
abbrev pub is_path : List ℕ → Bool
is_path path = bytes_eq path root_path || (nat_le (length path) most_of_path && starts_with_slash path && list_all is_part (parts_of path))

-- a text without one slash at its end, where it is more than a slash
abbrev pub without_trailing_slash : List ℕ → List ℕ
without_trailing_slash text = if nat_lt 1 (length text) && ends_with nat_eq text root_path then take (length text - 1) text else text

-- the path that a text spells, as its canonical text
abbrev pub path_of : List ℕ → Option (List ℕ)
path_of text = let path = without_trailing_slash text in if is_path path then Some path else None

-- a path without its last part; `/` where there is but one part, or none
abbrev pub parent_of : List ℕ → List ℕ
parent_of path = let front = before_last is_slash path in if length front == 0 then root_path else front
