use Rattle.std.proofs.Common.{ℕ, ◌≤◌, ⊎_elim, sym, subst}
use Rattle.flush_journal.specs.Standing.{disk_of}
use Rattle.lane_histories.specs.Desks.{nowhere}
use Rattle.lane_histories.specs.declared.items.Reach.{Reach}
use Rattle.hall.specs.JournalDesks.{LiesBetween}
use Rattle.rest_session.specs.Kept.Doors.{IsKeptFrom}
use Rattle.rest_session.proofs.OfHalls.Ends.{all_in}
use Rattle.rest_session.proofs.OfKept.Doors.{kept_later, settled_later}
use Rattle.rest_session.proofs.kept.doors.end_hall.Goals as goal

pub returns-clause-leaves : goal.returns-clause-leaves
returns-clause-leaves g c = λ honest first start seen register owners legal desk_is.
    let met = g.D.Disk in
    let d = c.args.hall.desk.desk in
    let later = kept_later met first start seen d desk_is.since.1 desk_is.uncut register owners legal c.what_is_kept_stays_kept.ensures in
    let disk = c.into_disk.ensures in record {
      images = λ image left.
          later d.kept image (c.images_are_kept.ensures.images honest image (subst (λ (x : g.row.D.Denot). met.images x image) disk left));
      settled = λ none image left.
          settled_later met first start seen d desk_is.since.1 desk_is.uncut register owners legal c.what_is_kept_stays_kept.ensures d.kept image
          (c.images_are_kept.ensures.settled honest none image (subst (λ (x : g.row.D.Denot). met.images x image) disk left));
      each = λ k there kept image left.
          let here = subst (λ (x : g.row.D.Denot). met.left_since x k.moment image) disk left in
          ⊎_elim
          (λ noted. later k.own image (c.keepings_are_kept.ensures.each honest k noted kept image here))
          (λ last. subst (λ (r : Reach). IsKeptFrom first seen r image) (sym last.0)
          (later d.kept image (c.keepings_are_kept.ensures.own honest image (subst (λ (m : ℕ). met.left_since d.disk m image) last.1 here))))
          (desk_is.kept k there kept);
      since = λ image left.
          later nowhere image (desk_is.since.1.kept honest image (subst (λ (x : g.row.D.Denot). met.left_since x (met.moment (disk_of start.desk.value)) image) disk left));
      moments = λ k there.
          let lies = all_in (LiesBetween met (disk_of start.desk.value) d.disk) seen.keepings k desk_is.told.between there in (
            lies.begun honest,
            subst (λ (x : g.row.D.Denot). k.moment ≤ met.moment x) (sym disk) (lies.ended honest),
          );
    }
