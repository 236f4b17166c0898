use Rattle.std.proofs.Common.{sym, subst, ◌∙◌}
use Rattle.std.proofs.lemmas.Result.{on_ok_weaker}
use Rattle.object_acts.specs.Objects.{IsOfKind}
use Rattle.service_core.specs.Worlds.{seen}
use Rattle.json_import.proofs.OfAdoption.PlacingLemmas.{put_placed}
use Rattle.json_import.proofs.adoption.adoption.put_object.Goals as goal

pub put_object-requires-clause-kind : goal.put_object-requires-clause-kind
put_object-requires-clause-kind c =
    subst (λ k. IsOfKind k c.into_object.result) (sym (c.in-Some.ensures.fresh.kind ∙ c.kind.ensures)) c.into_object.ensures.kind

pub returns-clause-world : goal.returns-clause-world
returns-clause-world c =
    on_ok_weaker c.put_object.result
    (put_placed c.args.number c.args.world.now c.fresh.new.self (seen c.put_object.new.self) c.kind.result c.in-Some.id c.args.object c.into_object.result
    c.in-Some.ensures.id c.in-Some.ensures.world c.kind.ensures c.into_object.ensures.same)
    c.put_object.ensures.ok
