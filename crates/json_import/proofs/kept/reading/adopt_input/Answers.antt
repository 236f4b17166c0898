use Rattle.service_core.specs.Worlds.{seen}
use Rattle.json_import.specs.Kept.Documents.{adopted}
use Rattle.json_import.specs.Kept.Parts.{of_adoption}
use Rattle.json_import.proofs.OfKept.Refusals.{handed, not_adopted, same_world}
use Rattle.json_import.proofs.kept.reading.adopt_input.Goals as goal

pub returns-in_err-adopt-clause-err : goal.returns-in_err-adopt-clause-err
returns-in_err-adopt-clause-err g c =
    handed c.from_residual-in_err-adopt.result (of_adoption c.in_err-adopt.field-0.0) _ c.from_residual-in_err-adopt.ensures.1
    (not_adopted (g.S.Source.left c.args.input.now) (g.S.Source.left c.read_input.new.input) (g.S.Source.faults c.args.input.now) (g.S.Source.faults c.read_input.new.input) (seen c.args.world.now)
    c.args.path.now c.in_ok-loaded.loaded c.in_err-adopt.field-0.0 c.in_ok-loaded.ensures.ok c.in_err-adopt.ensures.faults)

pub returns-clause-ok : goal.returns-clause-ok
returns-clause-ok g c = record {
  loaded = c.in_ok-loaded.loaded;
  accepted = record { document = c.in_ok-loaded.ensures.ok; free = c.in_ok-adopt.ensures.faults };
  counts_are = c.in_ok-adopt.ensures.counts;
  is = same_world (seen c.adopt.new.world) (adopted (seen c.args.world.now) c.args.path.now c.args.owner.now c.in_ok-loaded.loaded) c.in_ok-adopt.ensures.register c.in_ok-adopt.ensures.objects;
  document = c.in_ok-adopt.ensures.document;
}
