-- The tests of creation properties in order: the first that fails decides.
use Rattle.std.specs.Prelude.{◌≡◌, ℕ, suc, ◌*◌, ◌&&◌, Bool, List, [], ◌∷◌, length, Option, Some, None, option_and_then, Result, Ok, Err, nat_lt, nat_le, nat_eq, if◌then◌else◌, codes}
use Rattle.std.specs.Result.{IsOkAnd}
use Rattle.std.specs.Option.{is_some}
use Rattle.std.specs.Str.{bytes_eq}
use Rattle.serde_json.specs.Data.{Data}
use Rattle.serde_json.specs.Find.{get, as_object}
use Rattle.json_trees.specs.Trees.{all_in, list_in, whole_in, text_at}
use Rattle.shapes.specs.RowMajor.{cell_count}
use Rattle.shapes.specs.declared.TheConstants.{MAX_EXTENT, MAX_CHUNK_BYTES}
use Rattle.chunk_layout.specs.declared.Layout.{Layout}
use Rattle.chunk_layout.specs.declared.LayoutFault.{LayoutFault}
use Rattle.chunk_layout.specs.declared.LayoutFault.TheVariants.{NotALayout, Rank, Dim, TooBig}
use Rattle.chunk_layout.specs.Defaults.{IsDefault}

abbrev pub is_chunk_dim : ℕ → Bool
is_chunk_dim n = nat_le 1 n && nat_le n MAX_EXTENT

-- the first axis, from `k` on, whose dim is none of a chunk
abbrev pub first_bad : ℕ → List ℕ → Option ℕ
first_bad k [] = None
first_bad k (n ∷ ns) = if is_chunk_dim n then first_bad (suc k) ns else Some k

abbrev pub is_too_big : ℕ → List ℕ → Bool
is_too_big size chunk = nat_lt MAX_CHUNK_BYTES (size * cell_count chunk) && nat_lt 1 (cell_count chunk)

-- dims that were given: a bad axis, then the bytes
abbrev pub sized_of : Option ℕ → ℕ → List ℕ → Result (Option (List ℕ)) LayoutFault
sized_of (Some axis) size ns = Err (Dim axis)
sized_of None size ns = if is_too_big size ns then Err TooBig else Ok (Some ns)

unfoldable pub ranked : List ℕ → ℕ → List ℕ → Result (Option (List ℕ)) LayoutFault
ranked dims size ns = if nat_eq (length ns) (length dims) then sized_of (first_bad 0 ns) size ns else Err Rank

abbrev pub chunked_of : List ℕ → ℕ → Option (List ℕ) → Result (Option (List ℕ)) LayoutFault
chunked_of dims size None = Err NotALayout
chunked_of dims size (Some ns) = ranked dims size ns

abbrev pub wholes_in : Data → Option (List ℕ)
wholes_in d = option_and_then (all_in whole_in) (list_in d)

-- the class, and then the dims of a layout
unfoldable pub classed : List ℕ → ℕ → Option (List ℕ) → Data → Result (Option (List ℕ)) LayoutFault
classed dims size None layout = Err NotALayout
classed dims size (Some word) layout =
    if bytes_eq word (codes "H5D_CONTIGUOUS") then Ok None
    else (if bytes_eq word (codes "H5D_COMPACT") then Ok None
    else (if bytes_eq word (codes "H5D_CHUNKED") then chunked_of dims size (option_and_then wholes_in (get (codes "dims") layout)) else Err NotALayout))

abbrev pub laid : List ℕ → ℕ → Option Data → Result (Option (List ℕ)) LayoutFault
laid dims size None = Ok None
laid dims size (Some layout) = classed dims size (text_at (codes "class") layout) layout

-- the chunk that properties ask for, none where they leave it open, or their first fault
unfoldable pub asked_of : Data → List ℕ → ℕ → Result (Option (List ℕ)) LayoutFault
asked_of d dims size = if is_some (as_object d) then laid dims size (get (codes "layout") d) else Err NotALayout

-- the answer to what is asked for
abbrev pub IsAnswer : List ℕ → ℕ → Result (Option (List ℕ)) LayoutFault → Result Layout LayoutFault → Type 0
IsAnswer dims size (Err fault) answer = answer ≡ Err fault
IsAnswer dims size (Ok None) answer = IsOkAnd answer (λ layout. IsDefault size dims layout.chunk)
IsAnswer dims size (Ok (Some chunk)) answer = answer ≡ Ok (record { chunk = chunk })
