-- The machines of the array service's hall.
--     machines lanes            the register and the owners of so many lanes, whatever desk lies beside them
--     desk_machines met lanes   with a desk of this kind
--     start_of key              with what a hall began, as its table was told
--     lanes_in start            how many lanes it has
--     lanes_known v             so as a pass knows it
--     IsOpened start            what is true of it
use Rattle.std.specs.Prelude.{◌≡◌, ℕ, ◌<◌, length, Option, Some, None}
use Rattle.std.specs.FinMap.{empty}
use Rattle.chunk_owner.specs.Lanes.{Lane}
use Rattle.register.specs.Decided.{RegisterState}
use Rattle.hall_rule.specs.declared.view.Opening.{Opening}
use Rattle.hall_rule.specs.declared.view.Start.{Start}
use Rattle.hall_rule.specs.declared.view.View.{View}
use Rattle.hall_rule.specs.Machines.{Machines}
use Rattle.hall_rule.specs.Seen.{nothing}
use Rattle.hall_rule.specs.Standing.{IsFresh}
use Rattle.service_histories.specs.ArrayServices.{array_service}
use Rattle.service_histories.specs.Counts.{IsFreshRegister}
use Rattle.service_histories.specs.Cuttings.{IsOwnerMarked, IsRegisterSince}
use Rattle.service_histories.specs.Readies.{IsGivenIn}
use Rattle.service_histories.specs.Tellings.{objects_in}
use Rattle.hall.specs.declared.desk.AtDesk.{Ghosts}
use Rattle.hall.specs.declared.desk.NotedDesk.{NotedDesk}

-- what is said of the register and the owners alone is said by these, at whose desk nothing is done
unfoldable pub machines : {K : Type 0} → (lanes : ℕ)
    → Machines (array_service lanes) RegisterState Lane (Start RegisterState Lane K) K
machines lanes = record {
  register = λ d. d;
  owner = λ o. o.objects;
  no_objects = empty;
  RegisterIsSince = λ d c. IsRegisterSince c d;
  OwnerIsSince = λ o lane items was. IsOwnerMarked lanes lane items was o;
  DeskIsSince = λ desk first. desk.desk ≡ first;
  note = λ d. nothing d.owners;
  noted_register = λ d. d.register;
  noted_owners = λ d. d.owners;
  news = λ d. None;
  reach = λ d. record { c = 0; p = 0 };
  moment = λ d. 0;
  HasTold = λ d first keepings. Unit {0};
}

-- the rule of a hall's table is over these
unfoldable pub desk_machines : {D K : Type 0} → Ghosts D K → (lanes : ℕ)
    → Machines (array_service lanes) RegisterState Lane (NotedDesk D) K
desk_machines met lanes = record {
  register = λ d. d;
  owner = λ o. o.objects;
  no_objects = empty;
  RegisterIsSince = λ d c. IsRegisterSince c d;
  OwnerIsSince = λ o lane items was. IsOwnerMarked lanes lane items was o;
  DeskIsSince = λ d first. met.IsSince d.desk
      (record { register = d.register.value; owners = d.owners.value.items; desk = first });
  note = λ d. met.note d.desk d.owners.value.items;
  noted_register = λ d. d.register.value;
  noted_owners = λ d. d.owners.value.items;
  news = λ d. met.news d.desk;
  reach = λ d. met.reach d.desk;
  moment = λ d. met.moment d.desk;
  HasTold = λ d first keepings. met.HasTold d.desk first keepings;
}

unfoldable pub start_of : {M N E : Type 0} → Opening M N E → Start M N E
start_of key = record {
  register = key.register.value;
  owners = key.owners.value.items;
  desk = key.desk.value;
}

abbrev pub lanes_in : {M N E : Type 0} → Start M N E → ℕ
lanes_in start = length start.owners

abbrev pub lanes_of_start : {M N E : Type 0} → Option (Start M N E) → ℕ
lanes_of_start None = 0
lanes_of_start (Some start) = lanes_in start

abbrev pub lanes_known : {Q V T R M N E : Type 0} → View Q V T R N (Start M N E) → ℕ
lanes_known v = lanes_of_start v.start

-- no place and no ticket was given, the ids of all objects were, and nothing changed since the last cuts
pub record IsOpened {K : Type 0} (start : Start RegisterState Lane K) : Type 0 where
  pub some_lane : 0 < lanes_in start
  pub lanes : length start.register.issued ≡ lanes_in start
  pub register : IsFreshRegister start.register
  pub given : (l : ℕ) → IsGivenIn (lanes_in start) start.register (objects_in start.owners l)
  pub fresh : IsFresh (machines {K = K} (lanes_in start)) start
