-- What the two writes of a batch may leave.
use Rattle.std.proofs.Common.{◌≡◌, inl, inr, ℕ, ◌+◌, List, [], ◌∷◌, ◌++◌, length, get_or, take, drop, sym, ◌∙◌, ap, subst, arith, append_assoc, length-append, take-append-drop}
use Rattle.std.proofs.lemmas.Bool.{cases_eq}
use Rattle.std.proofs.lemmas.List.{take_at, drop_at, drop_more}
use Rattle.edge_traits.specs.Disks.{Written, Torn, Follows}
use Rattle.flush_journal.specs.Markers.{HasClosedMarker, IsLaid, HasOpenMarker, Either, AllHave, OnlyHas}

-- the front with the marker behind it, and the place of each
marker_split : (front : List ℕ) (marker : ℕ) (tail : List ℕ) → front ++ marker ∷ tail ≡ (front ++ marker ∷ []) ++ tail
marker_split front marker tail = sym (append_assoc front (marker ∷ []) tail)

front_size : (front : List ℕ) (marker : ℕ) → length (front ++ marker ∷ []) ≡ length front + 1
front_size front marker = length-append front (marker ∷ [])

module _ (front : List ℕ) (end : ℕ) (place : length front ≡ end) where
  front_and_marker : (marker : ℕ) (tail : List ℕ) → take (end + 1) (front ++ marker ∷ tail) ≡ front ++ marker ∷ []
  front_and_marker marker tail = ap (take (end + 1)) (marker_split front marker tail) ∙ take_at (front ++ marker ∷ []) tail (end + 1) (omega (arith, front_size front marker, place))

  behind_marker : (marker : ℕ) (tail : List ℕ) → drop (end + 1) (front ++ marker ∷ tail) ≡ tail
  behind_marker marker tail = ap (drop (end + 1)) (marker_split front marker tail) ∙ drop_at (front ++ marker ∷ []) tail (end + 1) (omega (arith, front_size front marker, place))

  -- a write behind the marker that was torn leaves the marker closed
  pub torn_behind : (n : ℕ) (old new : List ℕ) → HasClosedMarker front old → Torn (end + 1) n old new → HasClosedMarker front new
  torn_behind n old new shut torn =
      let same : take (end + 1) new ≡ front ++ shut.0 ∷ [] = torn.before ∙ ap (take (end + 1)) shut.3 ∙ front_and_marker shut.0 shut.1 in (
        shut.0,
        drop (end + 1) new,
        shut.2,
        sym (take-append-drop (end + 1) new) ∙ ap (λ (l : List ℕ). l ++ drop (end + 1) new) same ∙ sym (marker_split front shut.0 (drop (end + 1) new)),
      )

  -- a write behind the marker lays the frame
  pub written_behind : (frame old new : List ℕ) → HasClosedMarker front old → Written (end + 1) frame old new → IsLaid front frame new
  written_behind frame old new shut written =
      let rest = drop (end + 1 + length frame) old in (
        shut.0,
        rest,
        shut.2,
        written ∙ ap (λ (l : List ℕ). l ++ frame ++ rest) (ap (take (end + 1)) shut.3 ∙ front_and_marker shut.0 shut.1)
            ∙ append_assoc (front ++ shut.0 ∷ []) frame rest ∙ sym (marker_split front shut.0 (frame ++ rest)),
      )

  -- a laid frame's marker is closed
  pub laid_shut : (frame bytes : List ℕ) → IsLaid front frame bytes → HasClosedMarker front bytes
  laid_shut frame bytes laid = (laid.0, frame ++ laid.1, laid.2, laid.3)

  -- a write of the marker that was torn leaves it open or closed
  pub torn_marker : (frame old new : List ℕ) → IsLaid front frame old → Torn end 1 old new → Either front frame new
  torn_marker frame old new laid torn =
      let long : length old ≡ end + 1 + length (frame ++ laid.1) = ap length laid.3 ∙ length-append front (laid.0 ∷ (frame ++ laid.1)) ∙ omega (arith, place) in
      let marker = get_or new end 0 in
      let before : take end new ≡ front = torn.before ∙ ap (take end) laid.3 ∙ take_at front (laid.0 ∷ (frame ++ laid.1)) end place in
      let after : drop (end + 1) new ≡ frame ++ laid.1 = torn.after ∙ ap (drop (end + 1)) laid.3 ∙ behind_marker laid.0 (frame ++ laid.1) in
      let whole : new ≡ front ++ marker ∷ (frame ++ laid.1) =
      sym (take-append-drop end new) ∙ ap (λ (l : List ℕ). l ++ drop end new) before
      ∙ ap (λ (l : List ℕ). front ++ l) (drop_more new end 0 (omega (arith, long, torn.no_shorter)) ∙ ap (λ (l : List ℕ). marker ∷ l) after) in
      elim (cases_eq marker 1) [
        | inl is_open ↦ inr (laid.1, whole ∙ ap (λ (g : ℕ). front ++ g ∷ (frame ++ laid.1)) is_open)
        | inr shut ↦ inl (marker, frame ++ laid.1, shut, whole)
      ]

  -- a write of the marker opens it
  pub written_marker : (frame old new : List ℕ) → IsLaid front frame old → Written end (1 ∷ []) old new → HasOpenMarker front frame new
  written_marker frame old new laid written =
      let before : take end old ≡ front = ap (take end) laid.3 ∙ take_at front (laid.0 ∷ (frame ++ laid.1)) end place in
      let after : drop (end + 1) old ≡ frame ++ laid.1 = ap (drop (end + 1)) laid.3 ∙ behind_marker laid.0 (frame ++ laid.1) in (
        laid.1,
        written ∙ ap (λ (l : List ℕ). l ++ (1 ∷ []) ++ drop (end + 1) old) before ∙ ap (λ (l : List ℕ). front ++ (1 ∷ []) ++ l) after ∙ append_assoc front (1 ∷ []) (frame ++ laid.1),
      )

  -- the same of each image
  pub images_behind : (n : ℕ) (reads : List ℕ) (old new : List ℕ → Type 0) → OnlyHas (HasClosedMarker front) reads old → Follows (Torn (end + 1) n) old new → (i : List ℕ) → new i → HasClosedMarker front i
  images_behind n reads old new has follows i left =
      let from = follows i left in
      torn_behind n from.0 i (subst (HasClosedMarker front) (sym (has.only from.0 from.1)) has.now) from.2

  pub images_marker : (frame reads : List ℕ) (old new : List ℕ → Type 0) → OnlyHas (IsLaid front frame) reads old → Follows (Torn end 1) old new → (i : List ℕ) → new i → Either front frame i
  images_marker frame reads old new has follows i left =
      let from = follows i left in
      torn_marker frame from.0 i (subst (IsLaid front frame) (sym (has.only from.0 from.1)) has.now) from.2

-- what the only image has each image has
pub all_have : (P Q : List ℕ → Type 0) (reads : List ℕ) (images : List ℕ → Type 0) → ((b : List ℕ) → P b → Q b) → OnlyHas P reads images → AllHave Q reads images
all_have P Q reads images f has = record {
  now = f reads has.now;
  each = λ i left. subst Q (sym (has.only i left)) (f reads has.now);
}

pub all_weaker : (P Q : List ℕ → Type 0) (reads : List ℕ) (images : List ℕ → Type 0) → ((b : List ℕ) → P b → Q b) → AllHave P reads images → AllHave Q reads images
all_weaker P Q reads images f has = record { now = f reads has.now; each = λ i left. f i (has.each i left) }
