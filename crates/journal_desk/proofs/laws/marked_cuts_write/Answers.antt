use Rattle.std.proofs.Common.{refl}
use Rattle.std.specs.FinMap.{empty}
use Rattle.journal_desk.proofs.laws.marked_cuts_write.Goals as goal

pub returns : goal.returns
returns g c lanes l items was old now first added since cuts others catalogue once changed = record {
  now = now;
  later_is = refl;
  still = (cuts empty).still;
  objects_are = (cuts empty).objects;
  added = added;
  appended = refl;
  writes = record { once = once; changed = changed; own = λ x says. (cuts x).says (since x says); others = others; catalogue = catalogue };
}
