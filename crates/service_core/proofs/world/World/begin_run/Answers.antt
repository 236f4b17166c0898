use Rattle.std.proofs.Common.{◌≡◌, ◌∷◌, [], ◌++◌, List, Ok, inr, sym, ap, subst, ◌∙◌}
use Rattle.std.specs.List.{AllByRecursion}
use Rattle.chunk_owner.specs.Lanes.{IsWhole, Lane}
use Rattle.flush_journal.specs.Batches.{records}
use Rattle.flush_journal.specs.Records.{Held, Record, put_all, put_record}
use Rattle.flush_journal.specs.Tries.{Writes}
use Rattle.object_records.specs.Keys.Numbers.{run_bytes}
use Rattle.register.specs.Decided.{RegisterState}
use Rattle.service_core.specs.Records.{WorldSays, run_record}
use Rattle.service_core.specs.Worlds.{State}
use Rattle.service_core.proofs.LaterLemmas.{built_kept}
use Rattle.service_core.proofs.RecordLemmas.{run_said}
use Rattle.service_core.proofs.world.World.begin_run.Goals as goal

pub invariant_of-self : goal.invariant_of-self
invariant_of-self g c = built_kept c.self.inside.register c.run_is_kept.new.self c.self.inside.owners.items c.run_is_kept.ensures c.self.invariant

pub returns-clause-writes : goal.returns-clause-writes
returns-clause-writes g c = λ honest before settled.
    let body = c.run_body.ensures ∙ ap run_bytes (c.run.ensures ∙ ap (λ (s : State). s.register.run) c.self.view_is) in
    let one : records c.push.new.self ≡ run_record c.args.self.now.register ∷ [] =
    c.in_ok-push.ensures.ok ∙ ap (λ (rs : List Record). rs ++ (c.run_key.result, c.run_body.result) ∷ []) c.new-batch.ensures ∙ (λ i. (c.run_key.ensures i, body i) ∷ []) in
    inr (subst (λ (rs : List Record). Writes {D = g.row.D.Denot} {met = g.D.Disk} c.args.journal.now c.append.new.self before rs (Ok tt)) one (c.in_ok-append.ensures.writes honest before settled))

pub returns-clause-says : goal.returns-clause-says
returns-clause-says g c =
    let wholes = subst (λ (ls : List Lane). AllByRecursion IsWhole ls) c.as_slice.ensures.value c.are_whole.ensures in
    subst (λ (x : State). (held : Held) → WorldSays x held → WorldSays (record { register = c.run_is_kept.new.self; lanes = c.self.inside.owners.items }) (put_record (run_record x.register) held)) c.self.view_is
    (λ held said. subst (λ (d : RegisterState). WorldSays (record { register = d; lanes = c.self.inside.owners.items }) (put_all (run_record c.self.inside.register ∷ []) held)) (sym c.run_is_kept.ensures)
    (run_said (record { register = c.self.inside.register; lanes = c.self.inside.owners.items }) wholes held said))
