-- Elements a stride apart, and copies of them.
use Rattle.std.specs.Prelude.{◌≡◌, ℕ, ◌+◌, ◌*◌, ◌<◌, ◌≤◌, List}
use Rattle.hdf_values.specs.Nested.{piece_at}
use Rattle.chunk_store.specs.declared.strided_copies.copies.Strided.{Strided}

-- the number of an element
abbrev pub nth : Strided → ℕ → ℕ
nth s i = s.first + i * s.stride

-- the elements lie in so many bytes
abbrev pub Fit : Strided → ℕ → ℕ → ℕ → Type 0
Fit s many size bytes = (i : ℕ) → i < many → (nth s i + 1) * size ≤ bytes

-- each element is that of the other bytes
abbrev pub AreCopied : Strided → Strided → ℕ → ℕ → List ℕ → List ℕ → Type 0
AreCopied to at many size from out = (i : ℕ) → i < many → piece_at size (nth to i) out ≡ piece_at size (nth at i) from

-- each other element is what it was
abbrev pub AreOthersKept : Strided → ℕ → ℕ → List ℕ → List ℕ → Type 0
AreOthersKept to many size old out = (j : ℕ) → ((i : ℕ) → i < many → j ≡ nth to i → ⊥) → piece_at size j out ≡ piece_at size j old
