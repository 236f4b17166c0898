-- What a turn of a desk adds to the journal's file.
use Rattle.std.proofs.Common.{◌≡◌, ◌≢◌, inl, inr, ⊎_elim, ℕ, ◌+◌, List, [], ◌∷◌, Option, None, Some, Result, Ok, Err, refl, ap, sym, ◌∙◌, subst, arith}
use Rattle.std.specs.Prelude.{IsErr, OnErr, OnOk}
use Rattle.edge_traits.specs.declared.disk.Disk.{Ghosts}
use Rattle.flush_journal.specs.Frames.{frame_size}
use Rattle.flush_journal.specs.Records.{Record}
use Rattle.flush_journal.specs.Standing.{end_of, pending_of}
use Rattle.flush_journal.specs.declared.journal.Journal.{Journal}
use Rattle.flush_journal.specs.declared.why.Why.{Why}
use Rattle.lane_histories.specs.Services.{World}
use Rattle.lane_histories.specs.declared.items.Reach.{Reach}
use Rattle.journal_desk.specs.Cuts.{AddCuts}
use Rattle.journal_desk.specs.Notes.{NoteOf, at_lanes}
use Rattle.journal_desk.specs.Owed.{AppendsCuts, bytes_of, note_held, pending_bytes, since_held}
use Rattle.journal_desk.specs.Standing.{Standing, standing_of}
use Rattle.journal_desk.specs.declared.note.Note.{Ghosts as Notes}

some_none : (r : Record) (rs : List Record) → ◌≡◌ {A = List Record} (r ∷ rs) [] → ⊥
some_none r rs e = cc

-- ---- one batch

-- behind a batch, where one was appended
pub end_behind : (rs : List Record) (old new : ℕ) → (rs ≢ [] → new ≡ old + frame_size rs) → (rs ≡ [] → new ≡ old) → new ≡ old + bytes_of rs
end_behind [] old new grown nothing = let same = nothing refl in omega arith
end_behind (r ∷ rs) old new grown nothing = grown (some_none r rs)

module _ {D N : Type 0} (old mid : Standing D N) where
  -- behind what was pending, where something was
  pub settled_end : ((rs : List Record) → old.pending ≡ Some rs → mid.end ≡ old.end + frame_size rs) → (old.pending ≡ None → mid ≡ old)
      → mid.end ≡ old.end + pending_bytes old.pending
  settled_end grown idle = by old.pending refl where
    by : (o : Option (List Record)) → old.pending ≡ o → mid.end ≡ old.end + pending_bytes o
    by None is = let same : mid.end ≡ old.end = ap (λ (d : Standing D N). d.end) (idle is) in omega arith
    by (Some rs) is = grown rs is

-- what was cut was appended, where nothing was pending
pub appends_batch : {D N : Type 0} {met : Ghosts D} (notes : NoteOf N) (lanes : ℕ) (old new : Journal D met) (building built : List Record)
    (cut kept : Reach) (at later : D) (since then note : N) → pending_of old ≡ None → then ≡ note
    → AddCuts notes.kept (notes.start note) (notes.history since) (notes.was since) (notes.history note) (notes.was note) building
    → end_of new ≡ end_of old + bytes_of building
    → AppendsCuts {T = Unit {0}} notes (standing_of lanes old building cut kept at since note)
    (standing_of lanes new built cut cut later then note) (Ok tt)
appends_batch notes lanes old new building built cut kept at later since then note idle now added end =
    let held : since ≡ note_held (pending_of old) since note = sym (ap (λ (o : Option (List Record)). note_held o since note) idle) in
    let none : pending_bytes (pending_of old) ≡ 0 = ap pending_bytes idle in
    record {
      done = (
        building,
        subst (λ n. AddCuts notes.kept (notes.start note) (notes.history n) (notes.was n) (notes.history note) (notes.was note) building) held added,
        omega arith,
        now,
      );
      refused = tt;
    }

-- the desk as its caller sees it
pub appends_from : {D N T : Type 0} (family : Notes N) (inside old new : Standing D N) (r : Result T Why) → inside ≡ old
    → AppendsCuts (at_lanes family inside.lanes) inside new r → AppendsCuts (at_lanes family old.lanes) old new r
appends_from {D} {N} family inside old new r is appends = subst (λ (v : Standing D N). AppendsCuts (at_lanes family v.lanes) v new r) is appends

-- ---- a turn

module _ {D N : Type 0} (notes : NoteOf N) (old new : Standing D N) where
  -- nothing was written
  pub appends_nothing : {T : Type 0} (r : Result T Why) → IsErr r → new.end ≡ old.end → new.since ≡ old.since → AppendsCuts notes old new r
  appends_nothing (Ok x) err end since = absurd (cc)
  appends_nothing (Err why) err end since = record { done = tt; refused = inl (end, since) }

  -- or just what was pending
  pub appends_pending : {T : Type 0} (r : Result T Why) → IsErr r → new.end ≡ old.end + pending_bytes old.pending → new.since ≡ since_held old
      → AppendsCuts notes old new r
  appends_pending (Ok x) err end since = absurd (cc)
  appends_pending (Err why) err end since = record { done = tt; refused = inr (end, since) }

-- What was pending is written, cuts came, and what they added is appended, or not.
module _ {D N : Type 0} (family : Notes N) (old mid cut new : Standing D N) (end : mid.end ≡ old.end + pending_bytes old.pending)
    (since : mid.since ≡ since_held old) (idle : cut.pending ≡ None) (cut_end : cut.end ≡ mid.end) (cut_since : cut.since ≡ mid.since)
    (lanes : cut.lanes ≡ old.lanes) (start : family.start old.lanes cut.note ≡ family.start old.lanes old.note) where
  none_pending : pending_bytes cut.pending ≡ 0
  none_pending = ap pending_bytes idle

  held_is : since_held cut ≡ since_held old
  held_is = ap (λ (o : Option (List Record)). note_held o cut.since cut.note) idle ∙ cut_since ∙ since

  here : {T : Type 0} (r : Result T Why) → AppendsCuts (at_lanes family cut.lanes) cut new r → AppendsCuts (at_lanes family old.lanes) cut new r
  here r is = subst (λ (l : ℕ). AppendsCuts (at_lanes family l) cut new r) lanes is

  module _ {T U : Type 0} where
    pub appends_on : (r : Result T Why) (x : T) (q : Result U Why) (y : U) → r ≡ Ok x → q ≡ Ok y → AppendsCuts (at_lanes family cut.lanes) cut new r
        → AppendsCuts (at_lanes family old.lanes) old new q
    appends_on (Err why) x q y is well appends = absurd (cc)
    appends_on (Ok z) x (Err why) y is well appends = absurd (cc)
    appends_on (Ok z) x (Ok w) y is well appends =
        let notes = at_lanes family old.lanes in
        let more = (here (Ok z) appends).done in
        let behind = more.2 in
        let none = none_pending in
        record {
          done = (
            more.0,
            subst (λ (p : World notes.kept.service × N). AddCuts notes.kept p.0 (notes.history p.1) (notes.was p.1) (notes.history new.note)
                (notes.was new.note) more.0) (λ i. (start i, held_is i)) more.1,
            omega arith,
            more.3,
          );
          refused = tt;
        }

    pub appends_not : (r : Result T Why) (q : Result U Why) → IsErr r → IsErr q → AppendsCuts (at_lanes family cut.lanes) cut new r
        → AppendsCuts (at_lanes family old.lanes) old new q
    appends_not (Ok x) q err off appends = absurd (cc)
    appends_not (Err why) (Ok x) err off appends = absurd (cc)
    appends_not (Err why) (Err other) err off appends =
        let none = none_pending in
        record {
          done = tt;
          refused = inr (⊎_elim
              (λ stays. (let same = stays.0 in omega arith, stays.1 ∙ cut_since ∙ since))
              (λ stays. (let same = stays.0 in omega arith, stays.1 ∙ held_is))
              appends.refused);
        }
