use Rattle.std.proofs.Common.{◌≡◌, ℕ, Some, length, arith, refl, sym, ap, ◌∙◌, subst}
use Rattle.std.specs.Prelude.{slice_get}
use Rattle.chunk_owner.specs.Lanes.{Lane}
use Rattle.flush_journal.specs.Records.{Held}
use Rattle.flush_journal.specs.Standing.{disk_of, end_of}
use Rattle.flush_journal.specs.Unchanged.{SameDisk}
use Rattle.flush_journal.proofs.Unchanged.{same_here}
use Rattle.journal_desk.specs.Keepings.{HasKept, owed_by}
use Rattle.lane_histories.specs.declared.items.Reach.{Reach}
use Rattle.register.specs.Decided.{RegisterState}
use Rattle.register.specs.Installed.Registers.{DescribesRegister}
use Rattle.register.specs.Kept.{RegisterSays}
use Rattle.register.specs.Marks.{no_marks}
use Rattle.service_core.specs.Worlds.{State}
use Rattle.service_histories.specs.Markings.{IsOwner}
use Rattle.hall_rule.specs.Seen.{nothing}
use Rattle.service_histories.specs.Tellings.{opening}
use Rattle.hall.specs.Notes.{hall_notes, of_lanes, seen_in, world_in}
use Rattle.hall.proofs.NoteLemmas.{are_of_lanes, of_nothing}
use Rattle.hall.proofs.JournalDeskLemmas.{first_history, first_lists, first_opens, first_world, opens, part_of_kept}
use Rattle.hall.proofs.journal.JournalDesk.begin.Goals as goal

pub begin-desk-requires-clause-none : goal.begin-desk-requires-clause-none
begin-desk-requires-clause-none g c = first_history c.lanes-lanes.result c.blank.result.views c.of.result c.blank.ensures

pub begin-desk-requires-clause-says_all : goal.begin-desk-requires-clause-says_all
begin-desk-requires-clause-says_all g c = c.cuts_tell_the_lane.ensures.says c.lanes-lanes.result

pub begin-desk-requires-clause-opens : goal.begin-desk-requires-clause-opens
begin-desk-requires-clause-opens g c honest =
    let s = c.args.world in
    let n = c.lanes-lanes.result in
    let parts = c.parts-register.ensures in
    let lanes = c.lanes-lanes.ensures.lanes ∙ ap (λ (d : RegisterState). length d.issued) parts.register ∙ sym parts.built.count in
    let described = subst (λ (d : RegisterState). d.marks ≡ no_marks → (held : Held) → RegisterSays d held → DescribesRegister held d.run d.catalogue)
    parts.register c.is_described.ensures in
    let part = part_of_kept s.register c.requires.new.kept.register described c.cuts_tell_the_register.ensures.part in
    let each : (l : ℕ) (o : Lane) → slice_get s.lanes l ≡ Some o → IsOwner o =
    λ l o at. c.are_owners.ensures l o (ap (λ x. slice_get x.owners l) parts.owners ∙ at) in
    let world : c.of.result.value ≡ s = c.of.ensures ∙ c.of_parts-world.ensures ∙ (λ i. record { register = parts.register i; lanes = (parts.owners i).owners }) in
    first_opens n c.blank.result.views c.of.result c.blank.ensures c.args.journal s world
    (opens g.D.Disk c.args.journal s n lanes c.requires.new parts.built part each (c.worlds_are_told.ensures.all n) (c.worlds_open.ensures.owners n)
    (c.requires.holds honest))

pub returns-clause-lanes : goal.returns-clause-lanes
returns-clause-lanes g c =
    let parts = c.parts-register.ensures in
    c.lanes-lanes.ensures.lanes ∙ ap (λ (d : RegisterState). length d.issued) parts.register ∙ sym parts.built.count

pub returns-clause-note : goal.returns-clause-note
returns-clause-note g c =
    let s = c.args.world in
    let parts = c.parts-register.ensures in
    let world : c.of.result.value ≡ s = c.of.ensures ∙ c.of_parts-world.ensures ∙ (λ i. record { register = parts.register i; lanes = (parts.owners i).owners }) in
    ap (of_lanes (length s.lanes)) (ap seen_in c.begin-desk.ensures.note.0 ∙ first_lists c.lanes-lanes.result c.blank.result.views c.of.result c.blank.ensures
    ∙ ap (λ (x : State). nothing x.lanes) world) ∙ of_nothing (length s.lanes) s.lanes refl

pub returns-clause-since : goal.returns-clause-since
returns-clause-since g c =
    let s = c.args.world in
    let met = g.D.Disk in
    let parts = c.parts-register.ensures in
    let begun = c.begin-desk.ensures in
    let desk = c.begin-desk.result in
    let lanes = c.lanes-lanes.ensures.lanes ∙ ap (λ (d : RegisterState). length d.issued) parts.register ∙ sym parts.built.count in
    let world : c.of.result.value ≡ s = c.of.ensures ∙ c.of_parts-world.ensures ∙ (λ i. record { register = parts.register i; lanes = (parts.owners i).owners }) in
    let seen = ap seen_in begun.note.0 ∙ first_lists c.lanes-lanes.result c.blank.result.views c.of.result c.blank.ensures ∙ ap (λ (x : State). nothing x.lanes) world in
    let first = ap disk_of c.of-first.ensures in
    let moment : met.moment desk.disk ≡ met.moment (disk_of c.of-first.result.value) = ap met.moment (begun.disk.0 ∙ sym first) in
    record {
      lanes = begun.lanes ∙ lanes;
      world = ap (λ (x : State). opening desk.lanes x) (ap world_in begun.note.0
          ∙ first_world c.lanes-lanes.result c.blank.result.views c.of.result c.blank.ensures ∙ world);
      lists = are_of_lanes desk.lanes (seen_in desk.note) (ap (of_lanes desk.lanes) seen ∙ of_nothing desk.lanes s.lanes (sym (begun.lanes ∙ lanes)) ∙ sym seen);
      disk = subst (λ (x : g.row.D.Denot × g.row.D.Denot). SameDisk met x.0 x.1) (λ i. (sym first i, sym begun.disk.0 i)) (same_here met (disk_of c.args.journal));
      kept = λ honest.
          subst (λ (x : ℕ × Reach). HasKept met (hall_notes desk.lanes) desk x.0 x.1) (λ i. (moment i, begun.reach.1 i)) (c.images_are_kept.ensures.since honest);
      reached = λ honest.
          let same : met.moment (disk_of c.of-first.result.value) ≡ met.moment desk.at = ap met.moment (first ∙ sym begun.disk.1) in omega (arith, same);
    }

pub returns-clause-told : goal.returns-clause-told
returns-clause-told g c =
    let begun = c.begin-desk.ensures in
    let desk = c.begin-desk.result in
    let end : desk.end ≡ end_of c.of-first.result.value = begun.disk.2 ∙ sym (ap end_of c.of-first.ensures) in record {
      between = tt;
      follow = tt;
      left = λ i. record { end = end i; owed = owed_by (begun.idle.0 i); cut = begun.reach.0 i; own = begun.reach.1 i };
    }
