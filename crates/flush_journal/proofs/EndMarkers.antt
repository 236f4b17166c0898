-- Where a marker stands, from what stands behind a front and back.
use Rattle.std.proofs.Common.{◌≡◌, ◌≢◌, inl, inr, ℕ, ◌+◌, ◌<◌, List, [], ◌∷◌, ◌++◌, length, get_or, take, drop, sym, ◌∙◌, ap, subst, arith, append_assoc, length-append, take-append-drop, slice_index}
use Rattle.std.proofs.Math.Seq.{get_or-append_seam}
use Rattle.std.proofs.lemmas.List.{drop_more, length-take-le}
use Rattle.edge_traits.specs.Disks.{Only, LeavesNoMore}
use Rattle.flush_journal.specs.Markers.{HasClosedMarker, HasOpenMarker, Either, OnlyHas, MarkerStands, EndsInClosedMarker}

-- the byte behind a front
pub seam : (front : List ℕ) (marker : ℕ) (tail : List ℕ) (end : ℕ) → length front ≡ end → slice_index (front ++ marker ∷ tail) end ≡ marker
seam front marker tail end place = ap (λ (n : ℕ). get_or (front ++ marker ∷ tail) n 0) (sym place) ∙ get_or-append_seam front marker tail 0

-- where no frame stands the marker is closed
pub shut_of_stands : (end : ℕ) (bytes : List ℕ) → MarkerStands end 0 bytes → (length (take end bytes) ≡ end) × HasClosedMarker (take end bytes) bytes
shut_of_stands end bytes stands = (
  length-take-le end bytes (omega (arith, stands.inside)),
  (
    get_or bytes end 0,
    drop (end + 1) bytes,
    λ is_open. let no = stands.whole is_open in omega (arith, no.0),
    sym (take-append-drop end bytes) ∙ ap (λ (l : List ℕ). take end bytes ++ l) (drop_more bytes end 0 stands.inside),
  ),
)

size_behind : (front : List ℕ) (marker : ℕ) (frame tail : List ℕ) → length (front ++ marker ∷ (frame ++ tail)) ≡ length front + 1 + length frame + length tail
size_behind front marker frame tail = length-append front (marker ∷ (frame ++ tail)) ∙ omega (arith, length-append frame tail)

-- the last byte of a frame behind a front
last_byte : (front frame tail : List ℕ) (marker end : ℕ) → length front ≡ end → EndsInClosedMarker frame → slice_index (front ++ marker ∷ (frame ++ tail)) (end + length frame) ≡ 0
last_byte front frame tail marker end place ends =
    let body = ends.0 in
    let split : front ++ marker ∷ (frame ++ tail) ≡ (front ++ marker ∷ body) ++ 0 ∷ tail =
    ap (λ (l : List ℕ). front ++ marker ∷ (l ++ tail)) ends.1 ∙ ap (λ (l : List ℕ). front ++ marker ∷ l) (append_assoc body (0 ∷ []) tail) ∙ sym (append_assoc front (marker ∷ body) (0 ∷ tail)) in
    ap (λ (l : List ℕ). get_or l (end + length frame) 0) split
    ∙ seam (front ++ marker ∷ body) 0 tail (end + length frame) (length-append front (marker ∷ body) ∙ omega (arith, place, ap length ends.1, length-append body (0 ∷ [])))

frame_size : (frame : List ℕ) → EndsInClosedMarker frame → 0 < length frame
frame_size frame ends = omega (arith, ap length ends.1, length-append ends.0 (0 ∷ []))

pub stands_of_opened : (front frame bytes : List ℕ) (end : ℕ) → length front ≡ end → EndsInClosedMarker frame → HasOpenMarker front frame bytes → MarkerStands (end + length frame) 0 bytes
stands_of_opened front frame bytes end place ends opened =
    let size = ap length opened.1 ∙ size_behind front 1 frame opened.0 in
    let last = ap (λ (l : List ℕ). get_or l (end + length frame) 0) opened.1 ∙ last_byte front frame opened.0 1 end place ends in
    record {
      inside = omega (arith, size, place);
      whole = λ is_open. absurd (let no : 1 ≡ 0 = sym is_open ∙ last in omega (arith, no));
    }

pub stands_of_either : (front frame bytes : List ℕ) (end : ℕ) → length front ≡ end → EndsInClosedMarker frame → Either front frame bytes → MarkerStands end (length frame) bytes
stands_of_either front frame bytes end place ends (inl shut) =
    let size : length bytes ≡ length front + 1 + length shut.1 = ap length shut.3 ∙ length-append front (shut.0 ∷ shut.1) ∙ omega arith in
    record {
      inside = omega (arith, size, place);
      whole = λ is_open. absurd (shut.2 (sym (seam front shut.0 shut.1 end place) ∙ ap (λ (l : List ℕ). get_or l end 0) (sym shut.3) ∙ is_open));
    }
stands_of_either front frame bytes end place ends (inr opened) =
    let size = ap length opened.1 ∙ size_behind front 1 frame opened.0 in
    let last = ap (λ (l : List ℕ). get_or l (end + length frame) 0) opened.1 ∙ last_byte front frame opened.0 1 end place ends in
    record {
      inside = omega (arith, size, place);
      whole = λ is_open. (frame_size frame ends, omega (arith, size, place), λ again. let no : 1 ≡ 0 = sym again ∙ last in omega (arith, no));
    }

-- the marker tells which of both it is
pub either_open : (front frame bytes : List ℕ) (end : ℕ) → length front ≡ end → slice_index bytes end ≡ 1 → Either front frame bytes → HasOpenMarker front frame bytes
either_open front frame bytes end place is_open (inl shut) = absurd (shut.2 (sym (seam front shut.0 shut.1 end place) ∙ ap (λ (l : List ℕ). get_or l end 0) (sym shut.3) ∙ is_open))
either_open front frame bytes end place is_open (inr opened) = opened

pub either_shut : (front frame bytes : List ℕ) (end : ℕ) → length front ≡ end → slice_index bytes end ≢ 1 → Either front frame bytes → HasClosedMarker front bytes
either_shut front frame bytes end place shut_ (inl shut) = shut
either_shut front frame bytes end place shut_ (inr opened) = absurd (shut_ (ap (λ (l : List ℕ). get_or l end 0) opened.1 ∙ seam front 1 (frame ++ opened.0) end place))

-- an open marker with a frame behind it, as it stands
pub moved_of_stands : (end size : ℕ) (bytes : List ℕ) → MarkerStands end size bytes → slice_index bytes end ≡ 1 → MarkerStands (end + size) 0 bytes
moved_of_stands end size bytes stands is_open =
    let whole = stands.whole is_open in record { inside = whole.1; whole = λ again. absurd (whole.2 again) }

-- a closed marker with no frame behind it
pub shut_stands : (end size : ℕ) (bytes : List ℕ) → MarkerStands end size bytes → slice_index bytes end ≢ 1 → MarkerStands end 0 bytes
shut_stands end size bytes stands shut = record { inside = stands.inside; whole = λ is_open. absurd (shut is_open) }

pub shut_long : (front bytes : List ℕ) (end : ℕ) → length front ≡ end → HasClosedMarker front bytes → end < length bytes
shut_long front bytes end place shut = omega (arith, place, ap length shut.3, length-append front (shut.0 ∷ shut.1))

-- after a sync and a look at the marker, which was found closed
pub found_shut : (front frame r0 r1 r2 : List ℕ) (i1 i2 : List ℕ → Type 0) (end : ℕ) → length front ≡ end → Either front frame r0 → r1 ≡ r0 → r2 ≡ r1
    → Only r0 i1 → LeavesNoMore i1 i2 → slice_index r1 end ≢ 1 → OnlyHas (HasClosedMarker front) r2 i2
found_shut front frame r0 r1 r2 i1 i2 end place either e1 e2 only fewer shut = record {
  now = subst (HasClosedMarker front) (sym (e2 ∙ e1)) (either_shut front frame r0 end place (subst (λ (l : List ℕ). slice_index l end ≢ 1) e1 shut) either);
  only = λ i left. only i (fewer i left) ∙ sym (e2 ∙ e1);
}
