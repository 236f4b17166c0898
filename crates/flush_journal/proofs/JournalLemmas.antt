-- From what stands at a journal's end to what it holds.
use Rattle.std.proofs.Common.{◌≡◌, ◌≢◌, inl, inr, ℕ, ◌+◌, ◌<◌, ◌^◌, List, [], ◌∷◌, ◌++◌, length, Some, Ok, refl, ◌∙◌, ap, arith}
use Rattle.edge_traits.specs.Disks.{Only}
use Rattle.flush_journal.specs.Records.{Record, Held, records_of, encoded_all, put_all}
use Rattle.flush_journal.specs.Files.{Content, content}
use Rattle.flush_journal.specs.Frames.{frame_of, need_of}
use Rattle.flush_journal.specs.Markers.{HasClosedMarker, HasOpenMarker, Either, OnlyHas, EndsInClosedMarker}
use Rattle.flush_journal.specs.Standing.{with_batch, HasEither, HoldsEither}
use Rattle.flush_journal.proofs.ContentLemmas.{content_found, IsFront, front_of, content-shut, content-opened, held-content}
use Rattle.flush_journal.proofs.BatchLemmas.{length-framed, ends_shut}

-- a settled file, divided at its end
pub record Start (reads : List ℕ) (images : List ℕ → Type 0) (c : Content) : Type 0 where
  pub front : List ℕ
  pub is_front : IsFront front c
  pub has : OnlyHas (HasClosedMarker front) reads images

pub start_of : (reads : List ℕ) (images : List ℕ → Type 0) (c : Content) → content reads ≡ Ok c → Only reads images → Start reads images c
start_of reads images c is only =
    let found = content_found reads c is in
    record { front = found.front; is_front = front_of reads c found; has = record { now = (found.marker, found.back, found.shut, found.whole); only = only } }

-- records that a batch can have
pub record AreBatch (rs : List Record) : Type 0 where
  pub some : rs ≢ []
  pub small : length (frame_of rs) < 2 ^ 63
  pub read : records_of (encoded_all rs) ≡ Some rs

pub length-frame_of : (rs : List Record) → rs ≢ [] → length (frame_of rs) ≡ length (encoded_all rs) + 9
length-frame_of [] some = absurd (some refl)
length-frame_of (r ∷ rs) some = length-framed (encoded_all (r ∷ rs))

-- what a batch needs is its frame and the marker before it
pub need_of-size : (rs : List Record) (frame : List ℕ) → rs ≢ [] → frame ≡ frame_of rs → length frame + 1 ≡ need_of rs
need_of-size rs frame some is = ap (λ (l : List ℕ). length l + 1) is ∙ omega (arith, length-frame_of rs some)

pub frame_ends : (rs : List Record) → rs ≢ [] → EndsInClosedMarker (frame_of rs)
frame_ends [] some = absurd (some refl)
frame_ends (r ∷ rs) some = ends_shut (encoded_all (r ∷ rs))

pub with_batch-held : (c : Content) (rs : List Record) → (with_batch c rs).held ≡ put_all rs c.held
with_batch-held c [] = refl
with_batch-held c (r ∷ rs) = refl

pub with_batch-version : (c : Content) (rs : List Record) → (with_batch c rs).version ≡ c.version
with_batch-version c [] = refl
with_batch-version c (r ∷ rs) = refl

pub with_batch-lanes : (c : Content) (rs : List Record) → (with_batch c rs).lanes ≡ c.lanes
with_batch-lanes c [] = refl
with_batch-lanes c (r ∷ rs) = refl

pub with_batch-batches : (c : Content) (rs : List Record) → rs ≢ [] → (with_batch c rs).batches ≡ c.batches + 1
with_batch-batches c [] some = absurd (some refl)
with_batch-batches c (r ∷ rs) some = refl

pub with_batch-end : (c : Content) (rs : List Record) → rs ≢ [] → (with_batch c rs).end ≡ c.end + length (frame_of rs)
with_batch-end c [] some = absurd (some refl)
with_batch-end c (r ∷ rs) some = omega (arith, length-framed (encoded_all (r ∷ rs)))

module _ (front : List ℕ) (c : Content) (is : IsFront front c) (rs : List Record) (are : AreBatch rs) where
  pub shut_content : (bytes : List ℕ) → HasClosedMarker front bytes → content bytes ≡ Ok c
  shut_content bytes shut = ap content shut.3 ∙ content-shut front c is shut.0 shut.1 shut.2

  opened_case : (qs : List Record) → AreBatch qs → (tail : List ℕ) → content (front ++ 1 ∷ (frame_of qs ++ tail)) ≡ Ok (with_batch c qs)
  opened_case [] of_ tail = absurd (of_.some refl)
  opened_case (r ∷ qs) of_ tail =
      content-opened front c is (encoded_all (r ∷ qs)) (r ∷ qs) (omega (arith, of_.small, length-framed (encoded_all (r ∷ qs)))) of_.read tail

  pub opened_content : (bytes : List ℕ) → HasOpenMarker front (frame_of rs) bytes → content bytes ≡ Ok (with_batch c rs)
  opened_content bytes opened = ap content opened.1 ∙ opened_case rs are opened.0

  pub either_content : (bytes : List ℕ) → Either front (frame_of rs) bytes → HasEither c (with_batch c rs) bytes
  either_content bytes (inl shut) = inl (shut_content bytes shut)
  either_content bytes (inr opened) = inr (opened_content bytes opened)

-- the content tells the map
pub either_held : (c : Content) (rs : List Record) (bytes : List ℕ) → HasEither c (with_batch c rs) bytes → HoldsEither c.held (put_all rs c.held) bytes
either_held c rs bytes (inl is) = inl (held-content bytes c is)
either_held c rs bytes (inr is) = inr (held-content bytes (with_batch c rs) is ∙ ap (λ (m : Held). Some m) (with_batch-held c rs))
