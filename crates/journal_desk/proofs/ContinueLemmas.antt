-- From a desk to the same desk later.
use Rattle.std.proofs.Common.{◌≡◌, ◌≤◌, ℕ, List, refl, sym, ◌∙◌, subst, arith}
use Rattle.edge_traits.specs.declared.disk.Disk.{Ghosts}
use Rattle.flush_journal.specs.Moments.{CrashLeaves}
use Rattle.flush_journal.specs.Records.{Record}
use Rattle.flush_journal.specs.Standing.{disk_of}
use Rattle.flush_journal.specs.declared.journal.Journal.{Journal}
use Rattle.flush_journal.specs.Unchanged.{SameDisk}
use Rattle.flush_journal.proofs.Unchanged.{same_both}
use Rattle.lane_histories.specs.declared.items.Reach.{Reach}
use Rattle.lane_histories.specs.Legal.{IsLegal, IsPrefix}
use Rattle.lane_histories.specs.KeptContents.{IsAsFar}
use Rattle.journal_desk.specs.Standing.{Standing, standing_of}
use Rattle.journal_desk.specs.Desks.{HoldsAsFar}
use Rattle.journal_desk.specs.Keepings.{Continues, IsUpTo, lists}
use Rattle.journal_desk.specs.Notes.{AreAlike, NoteOf, at_lanes}
use Rattle.journal_desk.specs.declared.note.Note.{Ghosts as Notes}
use Rattle.journal_desk.proofs.ImageLemmas.{farther, lasts_by, prefix_both, prefix_itself}

-- what is kept now was reached no earlier than what was kept before
pub reached_now : {D : Type 0} (met : Ghosts D) (at : D) (old new later : Journal D met) → later ≡ new → SameDisk met (disk_of old) (disk_of new)
    → (met.honest → met.moment at ≤ met.moment (disk_of old)) → met.honest → met.moment at ≤ met.moment (disk_of later)
reached_now met at old new later is disk before honest =
    let first = before honest in
    let more = disk.goes_on honest in
    subst (λ j. met.moment at ≤ met.moment (disk_of j)) (sym is) (omega (arith, first, more))

module _ {D N : Type 0} (met : Ghosts D) (notes : NoteOf N) where
  -- the note stayed, or grew
  pub continues_by : (old new : Standing D N) → new.lanes ≡ old.lanes → notes.start new.note ≡ notes.start old.note
      → IsLegal notes.kept.service (notes.start old.note) (lists met notes new) → IsPrefix (lists met notes old) (lists met notes new)
      → SameDisk met old.disk new.disk → IsAsFar old.kept new.kept
      → (met.honest → met.moment old.at ≤ met.moment new.at)
      → (met.honest → CrashLeaves met old.disk new.disk (HoldsAsFar notes.kept (notes.start old.note) (lists met notes new) old.kept))
      → Continues met notes old new
  continues_by old new lanes start legal prefix disk own reached leaves = record {
    lanes = lanes;
    start = start;
    longer = prefix;
    disk = disk;
    own = own;
    reached = reached;
    lasts = λ honest moment own le far since image left.
        subst (λ w. HoldsAsFar notes.kept w (lists met notes new) own image) (sym start)
        (lasts_by notes.kept (notes.start old.note) met (lists met notes old) (lists met notes new) legal prefix old.disk new.disk old.kept
        (leaves honest) moment own le far since image left);
  }

  -- a call of the journal, or none
  pub continues_here : (lanes : ℕ) (old new : Journal D met) (building built : List Record) (cut now kept own : Reach) (at later : D) (since then note : N)
      → IsLegal notes.kept.service (notes.start note) (notes.history note) → SameDisk met (disk_of old) (disk_of new) → IsAsFar kept own
      → (met.honest → met.moment at ≤ met.moment later)
      → (met.honest → CrashLeaves met (disk_of old) (disk_of new) (HoldsAsFar notes.kept (notes.start note) (notes.history note) kept))
      → Continues met notes (standing_of lanes old building cut kept at since note) (standing_of lanes new built now own later then note)
  continues_here lanes old new building built cut now kept own at later since then note legal disk far reached leaves =
      continues_by (standing_of lanes old building cut kept at since note) (standing_of lanes new built now own later then note) refl refl legal
      (prefix_itself (notes.history note)) disk far reached leaves

  -- one call after another
  pub continues_again : (old mid new : Standing D N) → Continues met notes old mid → Continues met notes mid new → Continues met notes old new
  continues_again old mid new first more = record {
    lanes = more.lanes ∙ first.lanes;
    start = more.start ∙ first.start;
    longer = prefix_both (lists met notes old) (lists met notes mid) (lists met notes new) first.longer more.longer;
    disk = same_both met old.disk mid.disk new.disk first.disk more.disk;
    own = farther old.kept mid.kept new.kept first.own more.own;
    reached = λ honest.
        let a = first.reached honest in
        let b = more.reached honest in omega (arith, a, b);
    lasts = λ honest moment own le far since.
        let later = first.disk.goes_on honest in
        more.lasts honest moment own (omega arith) (farther own old.kept mid.kept far first.own) (first.lasts honest moment own le far since);
  }

-- ---- over as many lanes as the desk has

module _ {D N : Type 0} (met : Ghosts D) (notes : Notes N) where
  pub continues_both : (old mid new : Standing D N) → Continues met (at_lanes notes old.lanes) old mid
      → Continues met (at_lanes notes mid.lanes) mid new → Continues met (at_lanes notes old.lanes) old new
  continues_both old mid new first more = continues_again met (at_lanes notes old.lanes) old mid new first
      (subst (λ (lanes : ℕ). Continues met (at_lanes notes lanes) mid new) first.lanes more)

  -- the desk as its caller sees it
  pub continues_from : (inside old new : Standing D N) → inside ≡ old → Continues met (at_lanes notes inside.lanes) inside new
      → Continues met (at_lanes notes old.lanes) old new
  continues_from inside old new is more = subst (λ (v : Standing D N). Continues met (at_lanes notes v.lanes) v new) is more

module _ {D N : Type 0} (notes : Notes N) where
  -- the note stayed
  pub still_up_to : (old new : Standing D N) (lanes : ℕ) (seen : N) → new.lanes ≡ old.lanes → new.note ≡ old.note
      → IsUpTo notes old lanes seen → IsUpTo notes new lanes seen
  still_up_to old new lanes seen same note was = record {
    lanes_are = was.lanes_are ∙ sym same;
    alike = subst (λ (x : ℕ × N). AreAlike (at_lanes notes x.0) x.1 seen) (λ i. (sym same i, sym note i)) was.alike;
  }

  -- a note of what was seen last
  pub noted_up_to : (d : Standing D N) (before after : ℕ) (last seen : N) → before ≡ d.lanes → after ≡ before → seen ≡ last
      → AreAlike (at_lanes notes before) d.note last → IsUpTo notes d after seen
  noted_up_to d before after last seen lanes same is alike = record {
    lanes_are = same ∙ lanes;
    alike = subst (λ (x : ℕ × N). AreAlike (at_lanes notes x.0) d.note x.1) (λ i. (lanes i, sym is i)) alike;
  }
