-- What stands at a journal's end while a batch is written there.
use Rattle.std.specs.Prelude.{◌≡◌, ◌≢◌, ◌⊎◌, ℕ, ◌+◌, ◌<◌, List, [], ◌∷◌, ◌++◌, length, slice_index}
use Rattle.edge_traits.specs.Disks.{Only}

-- a closed marker behind this front
abbrev pub HasClosedMarker : List ℕ → List ℕ → Type 0
HasClosedMarker front bytes = (marker : ℕ) × (tail : List ℕ) × (marker ≢ 1) × (bytes ≡ front ++ marker ∷ tail)

-- a closed marker behind this front, and behind the marker all of the frame
abbrev pub IsLaid : List ℕ → List ℕ → List ℕ → Type 0
IsLaid front frame bytes = (marker : ℕ) × (tail : List ℕ) × (marker ≢ 1) × (bytes ≡ front ++ marker ∷ (frame ++ tail))

-- an open marker behind this front, and behind the marker all of the frame
abbrev pub HasOpenMarker : List ℕ → List ℕ → List ℕ → Type 0
HasOpenMarker front frame bytes = (tail : List ℕ) × (bytes ≡ front ++ 1 ∷ (frame ++ tail))

-- the batch isn't there, or all of it is
abbrev pub Either : List ℕ → List ℕ → List ℕ → Type 0
Either front frame bytes = HasClosedMarker front bytes ⊎ HasOpenMarker front frame bytes

-- what reads give has this, and so has each image
pub record AllHave (P : List ℕ → Type 0) (reads : List ℕ) (images : List ℕ → Type 0) : Type 0 where
  pub now : P reads
  pub each : (i : List ℕ) → images i → P i

-- what reads give has this, and is the only image
pub record OnlyHas (P : List ℕ → Type 0) (reads : List ℕ) (images : List ℕ → Type 0) : Type 0 where
  pub now : P reads
  pub only : Only reads images

-- A marker stands at this place. Where it is open, a frame of so many bytes stands behind it, and the last of them is a closed marker.
pub record MarkerStands (end frame_size : ℕ) (bytes : List ℕ) : Type 0 where
  pub inside : end < length bytes
  pub whole : slice_index bytes end ≡ 1 → (0 < frame_size) × (end + frame_size < length bytes) × (slice_index bytes (end + frame_size) ≢ 1)

-- a frame ends in a closed marker
abbrev pub EndsInClosedMarker : List ℕ → Type 0
EndsInClosedMarker frame = (front : List ℕ) × (frame ≡ front ++ 0 ∷ [])
