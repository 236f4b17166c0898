-- The names of groups' entries.
use Rattle.std.specs.Prelude.{ℕ, List, ◌++◌, codes}

-- a group's entry stands under `g:` and the group's name
abbrev pub group_key : List ℕ → List ℕ
group_key group = codes "g:" ++ group
