use Rattle.std.proofs.Common.{ℕ, List, OnOk, refl, sym, subst, ◌∙◌}
use Rattle.edge_traits.proofs.CauseLemmas.{rose_since}
use Rattle.edge_traits.specs.Causes.{Rose}
use Rattle.flush_journal.specs.Batches.{records}
use Rattle.flush_journal.specs.Moments.{CrashLeaves}
use Rattle.flush_journal.specs.Standing.{disk_of}
use Rattle.flush_journal.specs.Unchanged.{SameDisk}
use Rattle.flush_journal.proofs.Unchanged.{same_both}
use Rattle.service_core.specs.Records.{as_kept}
use Rattle.service_core.specs.Steps.{World}
use Rattle.rest_session.specs.Sessions.{Served}
use Rattle.service_core.specs.KeptWorlds.{KeepsWorld, HoldsWorld}
use Rattle.rest_session.specs.Stood.{HoldsStood}
use Rattle.rest_session.proofs.OfKept.Lasting.{all_kept_then, fault_counted, image_stood, left_then, places, waits_then, whole_then}
use Rattle.rest_session.proofs.kept.session.serve_begun.Goals as goal

pub returns-clause-served : goal.returns-clause-served
returns-clause-served g c =
    let t = c.serve_world-end.ensures.transcript in
    let first : Served g.D.Disk = record { tokens = c.args.tokens.now; world = c.args.world; keeping = c.args.keeping } in
    let final : Served g.D.Disk = record { tokens = c.args.tokens.now; world = c.serve_world-end.new.world; keeping = c.serve_world-end.new.keeping } in
    let k = c.keep-last.new.self in
    let w = c.keep-last.new.world in
    let keeps : KeepsWorld final.keeping final.world k w c.keep-last.result = record {
      keeps = c.keep-last.ensures.keeps;
      same = c.keep-last.ensures.world;
      number = c.keep-last.ensures.number;
      kept = c.keep-last.ensures.kept;
      refused = c.keep-last.ensures.refused;
      batch = c.keep-last.ensures.batch;
      done = c.keep-last.ensures.done;
      none = c.keep-last.ensures.none;
    } in
    let holds = λ (worlds : List World). c.images_are_kept.ensures k.journal (records k.building) w worlds in (
      record { front = c.places.result; kept = k.kept; end = c.serve_world-end.result },
      c.keep-last.result,
      refl,
      record {
        begins = c.requires.new;
        final = final;
        keeping = k;
        world = w;
        taken = t.0;
        sent = t.1;
        consumed = t.2;
        appended = t.3;
        transcript = t.4;
        last_keeping = keeps;
        disk = c.into_disk.ensures;
        front = c.places.ensures ∙ sym (places final.keeping k final.world w c.keep-last.result keeps);
        kept = refl;
        all = all_kept_then final.keeping k final.world w c.keep-last.result keeps c.places.result c.places.ensures;
        waits = waits_then first final t.0 t.1 k w c.keep-last.result keeps
            (c.what_waits_stood.ensures first final t.0 t.1 (g.L.Source.left c.serve_world-end.new.link) c.serve_world-end.result t.4 c.requires.new.waits c.requires.new.building c.requires.kept);
        stretch = c.what_is_kept_stood.ensures.stretch first final t.0 t.1 (g.L.Source.left c.serve_world-end.new.link) c.serve_world-end.result t.4;
        crash = λ honest u v is. c.what_is_kept_stood.ensures.crash first final u v t.0 t.1 is honest (c.requires.backed honest) c.requires.kept;
        last_crash = λ honest u is. subst (λ (d : g.row.D.Denot). CrashLeaves g.D.Disk (disk_of u.keeping.journal) d (HoldsStood first final t.0 t.1 u.keeping.kept)) (sym c.into_disk.ensures)
            (left_then first final t.0 t.1 k w c.keep-last.result keeps honest
            (c.what_is_kept_stood.ensures.stood first final t.0 t.1 (g.L.Source.left c.serve_world-end.new.link) c.serve_world-end.result t.4 honest (c.requires.backed honest) c.requires.kept) u
            (c.what_is_kept_stood.ensures.onward first final u final t.0 t.1 is c.requires.kept)
            (c.what_is_kept_stood.ensures.crash first final u final t.0 t.1 is honest (c.requires.backed honest) c.requires.kept));
        images = λ honest image left. image_stood first final t.0 t.1 k w c.keep-last.result keeps honest
            (c.what_is_kept_stood.ensures.stood first final t.0 t.1 (g.L.Source.left c.serve_world-end.new.link) c.serve_world-end.result t.4 honest (c.requires.backed honest) c.requires.kept) holds image
            (subst (λ (d : g.row.D.Denot). g.D.Disk.images d image) c.into_disk.ensures left);
        whole = λ honest. subst (λ (d : g.row.D.Denot). OnOk c.keep-last.result ((image : List ℕ) → g.D.Disk.images d image → HoldsWorld (as_kept final.world) image)) (sym c.into_disk.ensures)
            (whole_then first final t.0 t.1 k w c.keep-last.result keeps honest
            (c.what_is_kept_stood.ensures.stood first final t.0 t.1 (g.L.Source.left c.serve_world-end.new.link) c.serve_world-end.result t.4 honest (c.requires.backed honest) c.requires.kept) holds);
      },
      c.serve_world-end.ensures.causes,
    )

pub returns-clause-same : goal.returns-clause-same
returns-clause-same g c =
    let t = c.serve_world-end.ensures.transcript in
    let first : Served g.D.Disk = record { tokens = c.args.tokens.now; world = c.args.world; keeping = c.args.keeping } in
    let final : Served g.D.Disk = record { tokens = c.args.tokens.now; world = c.serve_world-end.new.world; keeping = c.serve_world-end.new.keeping } in
    subst (λ (d : g.row.D.Denot). SameDisk g.D.Disk (disk_of c.args.keeping.journal) d) (sym c.into_disk.ensures)
    (same_both g.D.Disk (disk_of c.args.keeping.journal) (disk_of final.keeping.journal) (disk_of c.keep-last.new.self.journal)
    (c.what_is_kept_stood.ensures.disk first final t.0 t.1 (g.L.Source.left c.serve_world-end.new.link) c.serve_world-end.result t.4) c.keep-last.ensures.keeps.disk)

pub returns-clause-disk_fault : goal.returns-clause-disk_fault
returns-clause-disk_fault g c = λ is.
    let t = c.serve_world-end.ensures.transcript in
    let first : Served g.D.Disk = record { tokens = c.args.tokens.now; world = c.args.world; keeping = c.args.keeping } in
    let final : Served g.D.Disk = record { tokens = c.args.tokens.now; world = c.serve_world-end.new.world; keeping = c.serve_world-end.new.keeping } in
    let keeps : KeepsWorld final.keeping final.world c.keep-last.new.self c.keep-last.new.world c.keep-last.result = record {
      keeps = c.keep-last.ensures.keeps;
      same = c.keep-last.ensures.world;
      number = c.keep-last.ensures.number;
      kept = c.keep-last.ensures.kept;
      refused = c.keep-last.ensures.refused;
      batch = c.keep-last.ensures.batch;
      done = c.keep-last.ensures.done;
      none = c.keep-last.ensures.none;
    } in
    subst (λ (d : g.row.D.Denot). Rose (g.D.Disk.faults (disk_of c.args.keeping.journal)) (g.D.Disk.faults d)) (sym c.into_disk.ensures)
    (rose_since (g.D.Disk.faults (disk_of c.args.keeping.journal)) (g.D.Disk.faults (disk_of final.keeping.journal)) (g.D.Disk.faults (disk_of c.keep-last.new.self.journal))
    (c.what_is_kept_stood.ensures.disk first final t.0 t.1 (g.L.Source.left c.serve_world-end.new.link) c.serve_world-end.result t.4).faults
    (fault_counted final.keeping c.keep-last.new.self final.world c.keep-last.new.world c.keep-last.result keeps is))
