-- From the end of all workers to that of the hall.
use Rattle.std.proofs.Common.{◌≡◌, ◌⊎◌, inl, inr, ⊎_elim, ℕ, zero, suc, ◌+◌, ◌<◌, ◌≤◌, List, [], ◌∷◌, ◌++◌, length, map, cond, Some, None, Result, Ok, Err, refl, sym, ap, ◌∙◌, subst, arith, length-append}
use Rattle.std.specs.Prelude.{All, IfOk, OnOk}
use Rattle.std.specs.List.{AllByRecursion, slice_get}
use Rattle.std.proofs.lemmas.List.{length-map}
use Rattle.access_lists.specs.Tokens.Bearer.{TokenTable}
use Rattle.edge_traits.specs.Causes.{Rose}
use Rattle.edge_traits.proofs.CauseLemmas.{rose_since}
use Rattle.flush_journal.specs.declared.why.Why.{Why}
use Rattle.lane_histories.specs.Histories.{IsIn, StartsWith, entries, own, places}
use Rattle.lane_histories.specs.Laws.{RepliesStay}
use Rattle.lane_histories.specs.declared.items.Keeping.{Keeping}
use Rattle.lane_histories.specs.declared.items.RegisterItem.{RegisterItem}
use Rattle.lane_histories.specs.declared.items.RegisterItem.TheVariants.{Entered, DrawnCut, RegisterCut}
use Rattle.hall_rule.specs.Rule.{names}
use Rattle.hall_rule.specs.Seen.{GrowsFrom}
use Rattle.hall_rule.specs.Sums.{times, upward}
use Rattle.hall_rule.specs.WholeTurns.{HasKept}
use Rattle.hall_rule.specs.declared.queue.Claim.{Claim}
use Rattle.service_core.specs.Worlds.{State}
use Rattle.service_histories.specs.ArrayServices.{array_service}
use Rattle.hall.specs.Answers.{ArrayLists, ArrayStart, ArrayView}
use Rattle.hall.specs.ArrayMachines.{lanes_in, machines}
use Rattle.hall.specs.Passes.{HasEnded, IsDeskAtEnd, IsPassOf, TookIn, names_of, opening, view_of, who}
use Rattle.hall.specs.declared.desk.AtDesk.{Ghosts}
use Rattle.hall.specs.declared.gate.OpenGate.{OpenGate}
use Rattle.hall.specs.declared.hall.Hall.{Hall}
use Rattle.hall.specs.declared.pass.Pass.{Pass}
use Rattle.rest_session.specs.declared.halls.hiring.Report.{Report}
use Rattle.rest_session.specs.declared.halls.workers.Worker.{Worker}
use Rattle.rest_session.specs.Halls.Accounts.{IsReady, account, told_by, unasked}
use Rattle.rest_session.specs.Halls.Histories.{IsServed}
use Rattle.rest_session.specs.Halls.Staff.{IsAlone, IsGiver, IsHired, IsStaff, numbers}
use Rattle.rest_session.specs.Halls.Visits.{Telling, Works}
use Rattle.rest_session.specs.Halls.Workers.{WorksAt}
use Rattle.rest_session.proofs.OfHalls.Lists.{all_on, all_two, found, get_map, report, some_same}
use Rattle.rest_session.proofs.OfHalls.Served.{alone_still, count_still, each_served, giver_alone, hired_alone, hired_ready, keepings_seen, none_served, owns_all}
use Rattle.rest_session.proofs.OfHalls.Shares.{grows_on, number_named, one_name, took_on}
use Rattle.rest_session.proofs.OfHalls.Staffs.{WithNone, get_front, get_last}

-- ---- numbers

pub next_or_later : (n x : ℕ) → n < x → (n + 1 ≡ x) ⊎ (n + 2 ≤ x)
next_or_later zero zero lt = absurd (omega arith)
next_or_later zero (suc zero) lt = inl refl
next_or_later zero (suc (suc x)) lt = inr (omega arith)
next_or_later (suc n) zero lt = absurd (omega arith)
next_or_later (suc n) (suc x) lt = ⊎_elim
    (λ (e : n + 1 ≡ x). inl (omega (arith, e)))
    (λ (e : n + 2 ≤ x). inr (omega (arith, e)))
    (next_or_later n x (omega arith))

pub places_entries : {Q V : Type 0} (items : List (RegisterItem Q V)) → places items ≡ length (entries items)
places_entries [] = refl
places_entries (Entered e ∷ items) = ap suc (places_entries items)
places_entries (DrawnCut number c ∷ items) = places_entries items
places_entries (RegisterCut p found ∷ items) = places_entries items

places_more : {Q V : Type 0} (items more : List (RegisterItem Q V)) → places items ≤ places (items ++ more)
places_more [] more = omega arith
places_more (Entered e ∷ items) more = let l = places_more items more in omega (arith, l)
places_more (DrawnCut number c ∷ items) more = places_more items more
places_more (RegisterCut p found ∷ items) more = places_more items more

pub places_grow : {Q V : Type 0} (h g : List (RegisterItem Q V)) → StartsWith h g → places g ≤ places h
places_grow h g begins = subst (λ (l : List (RegisterItem _ _)). places g ≤ places l) (sym begins.1) (places_more g begins.0)

pub all_in : {X : Type 0} (P : X → Type 0) (xs : List X) (x : X) → AllByRecursion P xs → IsIn xs x → P x
all_in P [] x all here = absurd here
all_in P (y ∷ xs) x all (inl is) = subst P is all.0
all_in P (y ∷ xs) x all (inr there) = all_in P xs x all.1 there

in_middle : {X : Type 0} (front back : List X) (x : X) → IsIn ((front ++ x ∷ []) ++ back) x
in_middle [] back x = inl refl
in_middle (y ∷ front) back x = inr (in_middle front back x)

-- where Ok all was reached
pub closing_numbers : (last : Result ℕ Why) (reached kept seen front : ℕ) → IfOk last (λ n. (n ≡ reached) × (seen ≤ n)) → front ≤ seen → reached ≤ kept → kept ≤ front
    → IfOk last (λ n. n ≡ front) × OnOk last (kept ≡ front)
closing_numbers (Ok n) reached kept seen front ok within below above =
    let is = ok.0 in
    let least = ok.1 in
    (omega (arith, is, least, within, below, above), omega (arith, is, least, within, below, above))
closing_numbers (Err why) reached kept seen front ok within below above = (tt, tt)

-- a count that rose between two moments rose between any two that lie round them
pub rose_within : (first before after last : ℕ) → first ≤ before → Rose before after → after ≤ last → Rose first last
rose_within first before after last below rose above =
    let later = rose.later in
    let up = rose_since first before after below rose in
    let more = up.rose in record {
      later = omega (arith, below, later, above);
      rose = omega (arith, more, above);
    }

-- ---- the last flush

module _ {K : Type 0} (start : ArrayStart K) (k : Keeping) (others : List Claim) (v w : ArrayView K) (turn : HasKept (machines (lanes_in start)) start k others v w) where
  -- a pass that flushed knows all that it did
  pub flushed_took : names w ≡ names v → TookIn w v
  flushed_took same = record {
    longer = subst (λ (u : ArrayView K). GrowsFrom u.seen v.seen) (sym turn.is) (grows_on turn.seen turn.before v.seen turn.longer turn.begins);
    has_names = λ x named. subst (λ (l : List ℕ). 0 < times x l) (sym same) named;
    no_more = λ x named. subst (λ (u : ArrayView K). own x u.seen.register ≡ own x v.seen.register) (sym turn.is) (turn.own_same x named);
  }

  -- and its keeping is one of the history's
  pub flushed_in : (h : ArrayLists) → GrowsFrom h w.seen → IsIn h.keepings k
  flushed_in h grows =
      let now : w.seen.keepings ≡ turn.before.keepings ++ k ∷ [] = ap (λ (u : ArrayView K). u.seen.keepings) turn.is ∙ turn.keepings in
      subst (λ (l : List Keeping). IsIn l k) (sym (grows.keepings.1 ∙ ap (λ l. l ++ grows.keepings.0) now)) (in_middle turn.before.keepings grows.keepings.0 k)

pub same_names : {D K : Type 0} {g : Ghosts D K} (p q : Pass D K g) → who q ≡ who p → names_of q ≡ names_of p
same_names p q same = ap (λ t. cond t.1 (t.2 ∷ (t.3 ++ t.4)) []) same

-- ---- a run of workers

module _ {D K F L : Type 0} {g : Ghosts D K} (tells : Telling F L) (tokens : TokenTable) (links : ℕ) (h : Hall D K) where
  -- what hiring, work and dismissal say
  pub record HasRun (doors after : List F) (reports : List Report) (first dismissed : Pass D K g) (ws now : List (Worker D F OpenGate K g)) : Type 0 where
    pub giver : IsGiver h (length doors + 1) 0 first
    pub hired : All (λ w. (x : ℕ) × IsHired h x w.pass) ws
    pub numbered : map (λ w. (view_of w.pass).number) ws ≡ upward 1 (length doors + 1)
    pub staff : IsStaff doors ws
    pub ready : All (λ w. IsReady h w.pass) now
    pub same : map (λ w. who w.pass) now ≡ map (λ w. who w.pass) ws
    pub worked : (i : ℕ) (x y : Worker D F OpenGate K g) → slice_get ws i ≡ Some x → slice_get now i ≡ Some y
        → WorksAt tells links x.door y.door y.ends.items (account tokens h x.pass) (account tokens h y.pass) y.door_failed
    pub staff_now : IsStaff after now
    pub flusher : Report
    pub reported : map (report {g = g}) now ≡ reports ++ flusher ∷ []
    pub named : numbers dismissed ≡ numbers first + length now
    pub itself : TookIn (view_of dismissed) (view_of first)
    pub others : All (λ w. TookIn (view_of dismissed) (view_of w.pass)) now

  pub many : (doors : List F) (ws : List (Worker D F OpenGate K g)) → IsStaff doors ws → length ws ≡ length doors + 1
  many doors ws staff =
      sym (length-map ws (λ (w : Worker D F OpenGate K g). w.door)) ∙ ap length staff
      ∙ length-append (map (λ (d : F). Some d) doors) (None ∷ []) ∙ ap (λ (n : ℕ). n + 1) (length-map doors (λ (d : F). Some d))

  pub all_ready : (ws : List (Worker D F OpenGate K g)) → All (λ w. (x : ℕ) × IsHired h x w.pass) ws → All (λ w. IsReady h w.pass) ws
  all_ready ws hired =
      all_on (λ (w : Worker D F OpenGate K g). (x : ℕ) × IsHired h x w.pass) (λ (w : Worker D F OpenGate K g). IsReady h w.pass) ws (λ w k. hired_ready h k.0 w.pass k.1) hired

  pub all_ours : (ws now : List (Worker D F OpenGate K g)) → map (λ w. who w.pass) now ≡ map (λ w. who w.pass) ws → All (λ w. (x : ℕ) × IsHired h x w.pass) ws
      → All (λ w. IsReady h w.pass) now → All (λ w. IsPassOf h w.pass × IsAlone (view_of w.pass)) now
  all_ours ws now same hired ready =
      let Alone = λ (w : Worker D F OpenGate K g). IsAlone (view_of w.pass) in
      let alone = alone_still ws now same (all_on (λ (w : Worker D F OpenGate K g). (x : ℕ) × IsHired h x w.pass) Alone ws (λ w k. hired_alone h k.0 w.pass k.1) hired) in
      all_two (λ (w : Worker D F OpenGate K g). IsReady h w.pass) Alone (λ (w : Worker D F OpenGate K g). IsPassOf h w.pass × IsAlone (view_of w.pass)) now (λ w r a. (r.of_this_hall, a)) ready alone

  module _ (doors after : List F) (reports : List Report) (first dismissed : Pass D K g) (ws now : List (Worker D F OpenGate K g))
      (r : HasRun doors after reports first dismissed ws now) where
    pub still : length now ≡ length doors + 1
    still = count_still ws now r.same ∙ many doors ws r.staff

    pub as_many_doors : length after ≡ length doors
    as_many_doors = let a = many after now r.staff_now in let b = still in omega (arith, a, b)

    pub as_many_reports : length reports ≡ length doors
    as_many_reports =
        let a : length now ≡ length reports + 1 = sym (length-map now (report {g = g})) ∙ ap length r.reported ∙ length-append reports (r.flusher ∷ []) in
        let b = still in
        omega (arith, a, b)

    -- the pass has all numbers
    pub all_names : numbers dismissed ≡ length doors + 2
    all_names =
        let one = one_name (view_of first) first.live (giver_alone h (length doors + 1) first r.giver) in
        let all = r.named in
        let b = still in
        omega (arith, one, all, b)

    -- the pass of the last flush, and the world in which the hall ended
    unfoldable pub is_served : (stay : RepliesStay (array_service (lanes_in (opening h)))) (last : Pass D K g) (opening_world closing : State) (desk : D) (front : ℕ)
        → (opening h).register ≡ opening_world.register → (opening h).owners ≡ opening_world.lanes
        → (ended : HasEnded (opening h) (view_of last) closing) → IsDeskAtEnd g (opening h) ended.seen desk → front ≡ places ended.seen.register
        → numbers last ≡ numbers dismissed → TookIn (view_of last) (view_of dismissed)
        → IsServed g tells tokens links opening_world closing front desk doors after reports
    is_served stay last opening_world closing desk front register owners ended desk_is told same_count took =
        let door = λ (w : Worker D F OpenGate K g). w.door in
        let owns = owns_all (opening h) (view_of last) closing r.giver.of_this_hall.opened ended last.alone in
        let others = all_on (λ (w : Worker D F OpenGate K g). TookIn (view_of dismissed) (view_of w.pass)) (λ (w : Worker D F OpenGate K g). TookIn (view_of last) (view_of w.pass)) now
        (λ w t. took_on (view_of last) (view_of dismissed) (view_of w.pass) took t) r.others in
        let itself = took_on (view_of last) (view_of dismissed) (view_of first) took r.itself in
        let named = number_named (view_of first) first.live in record {
          start = opening h;
          register = register;
          owners = owners;
          last = view_of last;
          ended = ended;
          desk_is = desk_is;
          told = told;
          none_of_the_first = subst (λ (m : ℕ). own m ended.seen.register ≡ []) r.giver.number
              (owns (view_of first).number (itself.has_names (view_of first).number named) ∙ itself.no_more (view_of first).number named
              ∙ ap (λ l. own (view_of first).number l.register) r.giver.seen);
          none_of_others = λ x above. ⊎_elim
              (λ (e : length doors + 1 ≡ x).
              let a = found door ws (length doors) None (ap (λ l. slice_get l (length doors)) r.staff
              ∙ subst (λ (n : ℕ). slice_get (WithNone doors) n ≡ Some None) (length-map doors (λ (d : F). Some d)) (get_last (map (λ (d : F). Some d) doors) None)) in
              let b = found door now (length doors) None (ap (λ l. slice_get l (length doors)) r.staff_now
              ∙ subst (λ (n : ℕ). slice_get (WithNone after) n ≡ Some None) (length-map after (λ (d : F). Some d) ∙ as_many_doors) (get_last (map (λ (d : F). Some d) after) None)) in
              subst (λ (m : ℕ). own m ended.seen.register ≡ []) e
              (none_served tells tokens links h stay ws now (length doors + 1) (view_of last) ended.seen r.numbered r.same r.hired r.ready r.worked others ended.grown.begins owns
              (length doors) a.0 b.0 a.1 b.1 a.2 b.2))
              (λ (later : length doors + 2 ≤ x). let all = all_names in ended.strangers x (omega (arith, later, all, same_count)))
              (next_or_later (length doors) x above);
          as_many = as_many_doors;
          one_each = as_many_reports;
          each = λ i d d' q gd gd' gq.
              let a = found door ws i (Some d) (ap (λ l. slice_get l i) r.staff ∙ get_front (map (λ (e : F). Some e) doors) (None ∷ []) i (Some d) (get_map (λ (e : F). Some e) doors i d gd)) in
              let b = found door now i (Some d') (ap (λ l. slice_get l i) r.staff_now ∙ get_front (map (λ (e : F). Some e) after) (None ∷ []) i (Some d') (get_map (λ (e : F). Some e) after i d' gd')) in
              let z = found (report {g = g}) now i q (ap (λ l. slice_get l i) r.reported ∙ get_front reports (r.flusher ∷ []) i q gq) in
              let one : z.0 ≡ b.0 = some_same z.0 b.0 (sym z.1 ∙ b.1) in
              let its : report b.0 ≡ q = ap (report {g = g}) (sym one) ∙ z.2 in
              let works = each_served tells tokens links h stay ws now (length doors + 1) (view_of last) ended.seen r.numbered r.same r.hired r.ready r.worked others ended.grown.begins owns
              i a.0 b.0 a.1 b.1 d d' a.2 b.2 in
              let began = keepings_seen tells tokens links h stay ws now (length doors + 1) (view_of last) ended.seen r.numbered r.same r.hired r.ready r.worked others ended.grown.begins owns
              i a.0 b.0 a.1 b.1 in (
                b.0.pass.front,
                (view_of b.0.pass).seen.keepings,
                began,
                subst (λ (x : Report). Works tells links d d' x.ends.items (unasked tokens)
                    (record { tokens = tokens; told = told_by (lanes_in (opening h)) (i + 1) ended.seen; front = b.0.pass.front; keepings = (view_of b.0.pass).seen.keepings }) x.door_failed) its works,
              );
        }
