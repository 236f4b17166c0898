-- What is kept of the objects of a lane.
use Rattle.std.proofs.Common.{ℕ, sym, ◌∙◌}
use Rattle.std.proofs.lemmas.Option.{none-some}
use Rattle.domains.specs.Contents.{Contents}
use Rattle.object_acts.specs.Objects.{Objects}
use Rattle.object_ids.specs.IdValues.{Id}
use Rattle.service_histories.specs.ArrayServices.{IsSameOrGone, same, gone}
use Rattle.service_histories.specs.KeptObjects.{KeptObjectsStand, StandsAsLeft}

as_left : (c : Contents) (kept left : Objects) (id : Id) → IsSameOrGone c kept left id → StandsAsLeft c kept left id
as_left c kept left id (same e) = record { of_domain = λ path root here. e; no_other = λ o at. sym e ∙ at }
as_left c kept left id (gone none empty) = record {
  of_domain = λ path root here. absurd (none (record { path = path; root = root; here = here }));
  no_other = λ o at. absurd (none-some o (sym empty ∙ at));
}

pub kept_objects_stand : (lanes : ℕ) → KeptObjectsStand lanes
kept_objects_stand lanes start h w reach kept l below id = as_left w.catalogue.contents (w.objects l) _ id ((kept.kept.lanes l below).objects id)
