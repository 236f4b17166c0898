-- What reports tell of the doors at their places.
use Rattle.std.proofs.Common.{◌≡◌, ◌⊎◌, ℕ, ◌+◌, List, [], ◌∷◌, ◌∙◌, ◌||◌, length, map, Bool, true, false, Option, Some, None, Result, zero, suc, refl, sym, ap, subst, arith}
use Rattle.std.specs.List.{list_any, slice_get}
use Rattle.std.proofs.lemmas.Map.Keys.{any_passes_from_place}
use Rattle.access_lists.specs.Tokens.Bearer.{TokenTable}
use Rattle.edge_traits.specs.Causes.{Rose}
use Rattle.edge_traits.specs.declared.disk.Disk.{Ghosts}
use Rattle.flush_journal.specs.declared.journal.Journal.{Journal}
use Rattle.flush_journal.specs.declared.why.Why.{Why}
use Rattle.hall.specs.declared.desk.AtDesk.{Ghosts as AtDesk}
use Rattle.service_core.specs.Worlds.{State}
use Rattle.rest_session.specs.Halls.Histories.{IsServed}
use Rattle.rest_session.specs.Kept.Doors.{AreDoorsKept}
use Rattle.rest_session.specs.Halls.Visits.{IsAllOf, IsAskedToTheEnd, IsFailedFor, Telling}
use Rattle.rest_session.specs.declared.halls.hiring.Report.{Report}
use Rattle.rest_session.specs.declared.kept.outcome.ClosedDoors.{ClosedDoors}
use Rattle.rest_session.specs.declared.links.end.LinkEnd.{LinkEnd}
use Rattle.rest_session.specs.declared.links.end.LinkEnd.TheVariants as end
use Rattle.hsds_cli.specs.declared.closed.Closed.{Closed}
use Rattle.hsds_cli.specs.Closings.{HasFailedDoor, SomeBudget, SomeFailed, UsesUpBudget, ends_of, of_doors}
use Rattle.hsds_cli.specs.Doors.{AreAskedOut, AreAskedUnlessFailed, Doors, IsAskedOut, SomeDoorFailed}
use Rattle.hsds_cli.specs.Serves.{Desks, is_budget, some_budget, some_failed}

-- ---- lists

-- the place of an element that passes
abbrev pub Place : {A : Type 0} → (A → Bool) → List A → Type 0
Place {A} f xs = (i : ℕ) × (x : A) × (slice_get xs i ≡ Some x) × (f x ≡ true)

any_step : {A : Type 0} (f : A → Bool) (x : A) (xs : List A) → (list_any f xs ≡ true → Place f xs) → (b : Bool) → f x ≡ b → (f x || list_any f xs) ≡ true → Place f (x ∷ xs)
any_step f x xs later true is e = (0, x, refl, is)
any_step f x xs later false is e = let p = later (sym (ap (λ b. b || list_any f xs) is) ∙ e) in (suc p.0, p.1, p.2, p.3)

pub any_place : {A : Type 0} (f : A → Bool) (xs : List A) → list_any f xs ≡ true → Place f xs
any_place f [] e = absurd (let no : false ≡ true = e in cc)
any_place f (x ∷ xs) e = any_step f x xs (any_place f xs) (f x) refl e

none_at : {A : Type 0} (f : A → Bool) (xs : List A) (i : ℕ) (x : A) → list_any f xs ≡ false → slice_get xs i ≡ Some x → f x ≡ false
none_at f xs i x none at = by (f x) refl where
  by : (b : Bool) → f x ≡ b → b ≡ false
  by false is = refl
  by true is = let no : true ≡ false = sym (any_passes_from_place f xs i x at is) ∙ none in cc

-- of two lists of one length both have an element at a place
pub there : {A B : Type 0} (xs : List A) (ys : List B) → length ys ≡ length xs → (i : ℕ) (x : A) → slice_get xs i ≡ Some x → (y : B) × (slice_get ys i ≡ Some y)
there {A} [] ys e i x at = absurd (let no : ◌≡◌ {A = Option A} None (Some x) = at in cc)
there (z ∷ xs) [] e i x at = absurd (omega (arith, e))
there (z ∷ xs) (y ∷ ys) e zero x at = (y, refl)
there (z ∷ xs) (y ∷ ys) e (suc i) x at = there xs ys (omega (arith, e)) i x at

-- ---- what is told of links

budget_is : (e : LinkEnd) → is_budget e ≡ true → e ≡ end.Budget
budget_is end.Closed is = absurd (let no : false ≡ true = is in cc)
budget_is (end.Cut unread) is = absurd (let no : false ≡ true = is in cc)
budget_is (end.Ended fault) is = absurd (let no : false ≡ true = is in cc)
budget_is end.ReadFault is = absurd (let no : false ≡ true = is in cc)
budget_is end.WriteFault is = absurd (let no : false ≡ true = is in cc)
budget_is end.Budget is = refl
budget_is end.NoMemory is = absurd (let no : false ≡ true = is in cc)

abbrev each_end : List Report → List (List LinkEnd)
each_end reports = map (λ r. r.ends.items) reports

end_at : (rs : List Report) (i : ℕ) (r : Report) → slice_get rs i ≡ Some r → slice_get (each_end rs) i ≡ Some r.ends.items
end_at [] i r at = absurd (let no : ◌≡◌ {A = Option Report} None (Some r) = at in cc)
end_at (x ∷ rs) zero r at = let same : x ≡ r = cc in ap (λ (y : Report). Some y.ends.items) same
end_at (x ∷ rs) (suc i) r at = end_at rs i r at

report_at : (rs : List Report) (i : ℕ) (es : List LinkEnd) → slice_get (each_end rs) i ≡ Some es → (r : Report) × (slice_get rs i ≡ Some r) × (r.ends.items ≡ es)
report_at [] i es at = absurd (let no : ◌≡◌ {A = Option (List LinkEnd)} None (Some es) = at in cc)
report_at (x ∷ rs) zero es at = (x, refl, (let same : x.ends.items ≡ es = cc in same))
report_at (x ∷ rs) (suc i) es at = report_at rs i es at

closed_same : (x y : Closed) → ◌≡◌ {A = Option Closed} (Some x) (Some y) → x ≡ y
closed_same x y e = cc

module _ (left : ClosedDoors) where
  -- a budget that was used up is told, and no other
  pub told_budget : some_budget left.reports.items ≡ true → UsesUpBudget (Some (of_doors left))
  told_budget e =
      let p = any_place (λ r. list_any is_budget r.ends.items) left.reports.items e in
      let q = any_place is_budget p.1.ends.items p.3 in
      (of_doors left, refl, (p.0, p.1.ends.items, end_at left.reports.items p.0 p.1 p.2, q.0, q.2 ∙ ap (λ (x : LinkEnd). Some x) (budget_is q.1 q.3)))

  pub told_no_budget : some_budget left.reports.items ≡ false → UsesUpBudget (Some (of_doors left)) → ⊥
  told_no_budget none told =
      let some : SomeBudget (each_end left.reports.items) = subst (λ (x : Closed). SomeBudget (ends_of x.ends)) (sym (closed_same (of_doors left) told.0 told.1)) told.2 in
      let r = report_at left.reports.items some.0 some.1 some.2 in
      let quiet : list_any is_budget some.1 ≡ false =
      subst (λ (l : List LinkEnd). list_any is_budget l ≡ false) r.2 (none_at (λ r. list_any is_budget r.ends.items) left.reports.items some.0 r.0 none r.1) in
      let no : true ≡ false = none_at is_budget some.1 some.3 end.Budget quiet some.4 in cc

  -- and so is a door that failed
  pub told_failed : some_failed left.reports.items ≡ true → HasFailedDoor (Some (of_doors left))
  told_failed e = let p = any_place (λ r. r.door_failed) left.reports.items e in (of_doors left, refl, (p.0, p.1, p.2, p.3))

  pub told_no_failed : some_failed left.reports.items ≡ false → HasFailedDoor (Some (of_doors left)) → ⊥
  told_no_failed none told =
      let some = subst (λ (x : Closed). SomeFailed x.ends) (sym (closed_same (of_doors left) told.0 told.1)) told.2 in
      let no : true ≡ false = sym some.3 ∙ none_at (λ r. r.door_failed) left.reports.items some.0 some.1 none some.2 in cc

-- ---- doors

rose_from : {F L : Type 0} (tells : Telling F L) (door after : F) (b : Bool) → b ≡ true → IsFailedFor tells door after b → Rose (tells.faults door) (tells.faults after)
rose_from tells door after true is h = h
rose_from tells door after false is h = absurd (let no : false ≡ true = is in cc)

asked_from : {F L : Type 0} (tells : Telling F L) (links : ℕ) (door : F) (given : List L) (b : Bool) → b ≡ false → IsAskedToTheEnd tells links door given b
    → (length given ≡ links) ⊎ IsAllOf (tells.left door) given
asked_from tells links door given true is h = absurd (let no : true ≡ false = is in cc)
asked_from tells links door given false is h = h

-- doors that were kept were served so, by the reports that are told
pub served_of : {F L D : Type 0} (met : Ghosts D) (desks : Desks met) (links : ℕ) (doors : Doors F L) (tokens : TokenTable) (journal : Journal D met) (first : State) (after : D) (closed : ClosedDoors)
    (last : Result ℕ Why) (k : AreDoorsKept met desks doors.tells tokens links journal first after doors.before doors.after closed last)
    → IsServed desks doors.tells tokens links first k.hall.world k.hall.front k.hall.desk doors.before doors.after closed.reports.items
served_of met desks links doors tokens journal first after closed last k =
    subst (λ (c : ClosedDoors). IsServed desks doors.tells tokens links first k.hall.world k.hall.front k.hall.desk doors.before doors.after c.reports.items) (sym k.closed_is) k.is_closed.served

module _ {F L D K : Type 0} (desks : AtDesk D K) (links : ℕ) (doors : Doors F L) (tokens : TokenTable) (first closing : State) (front : ℕ) (desk : D) (reports : List Report)
    (s : IsServed desks doors.tells tokens links first closing front desk doors.before doors.after reports) where
  -- a worker whose door didn't fail asked it to its end
  asked_at : (i : ℕ) (door after : F) (report : Report) → slice_get doors.before i ≡ Some door → slice_get doors.after i ≡ Some after → slice_get reports i ≡ Some report
      → report.door_failed ≡ false → IsAskedOut links doors.tells door after
  asked_at i door after report d n r none =
      let w = s.each i door after report d n r in record {
        given = map (λ v. v.link) w.3.visits;
        taken = w.3.attends.taken;
        all = asked_from doors.tells links door (map (λ v. v.link) w.3.visits) report.door_failed none w.3.asked;
      }

  pub asked_out : some_failed reports ≡ false → AreAskedOut links doors
  asked_out none = λ i door after at.
      let r = there doors.before reports s.one_each i door at.0 in
      asked_at i door after r.0 at.0 at.1 r.1 (none_at (λ r. r.door_failed) reports i r.0 none r.1)

  pub asked_unless_failed : AreAskedUnlessFailed links doors
  asked_unless_failed = λ i door after at calm.
      let r = there doors.before reports s.one_each i door at.0 in
      let w = s.each i door after r.0 at.0 at.1 r.1 in
      asked_at i door after r.0 at.0 at.1 r.1 (calm_flag doors.tells door after r.0.door_failed w.3.cause calm) where
        calm_flag : (tells : Telling F L) (door after : F) (b : Bool) → IsFailedFor tells door after b → (Rose (tells.faults door) (tells.faults after) → ⊥) → b ≡ false
        calm_flag tells door after true h calm = absurd (calm h)
        calm_flag tells door after false h calm = refl

  -- a door failed only where its count rose
  pub failed_rose : some_failed reports ≡ true → SomeDoorFailed doors
  failed_rose e =
      let p = any_place (λ r. r.door_failed) reports e in
      let d = there reports doors.before (sym s.one_each) p.0 p.1 p.2 in
      let n = there reports doors.after (s.as_many ∙ sym s.one_each) p.0 p.1 p.2 in
      let w = s.each p.0 d.0 n.0 p.1 d.1 n.1 p.2 in
      (p.0, d.0, n.0, (d.1, n.1), rose_from doors.tells d.0 n.0 p.1.door_failed p.3 w.3.cause)
