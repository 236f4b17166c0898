-- Requests are done with three statuses.
use Rattle.std.proofs.Common.{inl, inr, refl}
use Rattle.object_acts.specs.Objects.{Objects}
use Rattle.service_core.specs.AnswerTrees.Statuses.{AnswersHaveDoneStatuses, IsDoneStatus}
use Rattle.service_core.proofs.AnswerTrees.Floats.{AnyGrid, AnyObject, AnyOp, any_array}
use Rattle.service_core.proofs.AnswerTrees.Objects.{AreAll}
use Rattle.service_core.proofs.AnswerTrees.Trees.{Trees}
use Rattle.service_core.proofs.AnswerTrees.Worlds.{answer_gives}

done : Trees (λ status body. IsDoneStatus status) AnyObject AnyGrid AnyOp
done = record {
  none = inl refl;
  added = inr (inl refl);
  flushed = inr (inr refl);
  node = λ n. inl refl;
  node_made = λ n. inr (inl refl);
  children = λ c folder. inl refl;
  acls = λ list. inl refl;
  acl = λ name rights. inl refl;
  object = λ id root o any. inl refl;
  object_made = λ id root o any. inr (inl refl);
  links = λ titles. inl refl;
  link = λ title to. inl refl;
  attributes = λ o any. inl refl;
  attribute = λ o name a any there. inl refl;
  array = λ o any. any_array o.body;
  shape = λ g any. inl refl;
  kind = λ g any. inl refl;
  part = λ g s any within. inl refl;
  points = λ g ps any. inl refl;
  empty = tt;
  made = λ make place any. tt;
  linked = λ place fresh o any. tt;
  changed = λ op o any same. tt;
}

any_objects : (m : Objects) → AreAll done m
any_objects m = λ id o there. tt

pub statuses_done : AnswersHaveDoneStatuses
statuses_done w caller request answer v steps =
    (answer_gives done w caller request tt (any_objects w.objects) answer.what v steps.answered).0
