-- From lists of workers to what the call says of each door.
use Rattle.std.proofs.Common.{◌≡◌, ⊎_elim, Bool, ℕ, ◌+◌, ◌-◌, ◌<◌, List, [], ◌∷◌, length, map, Option, Some, None, refl, sym, ap, ◌∙◌, subst, arith}
use Rattle.std.specs.Prelude.{All, is_some}
use Rattle.std.specs.List.{slice_get}
use Rattle.std.proofs.lemmas.List.{length-map}
use Rattle.std.proofs.lemmas.Option.{slice_get_within}
use Rattle.atomic_table.specs.Seated.{TableId}
use Rattle.access_lists.specs.Tokens.Bearer.{TokenTable}
use Rattle.service_core.specs.Worlds.{State}
use Rattle.lane_histories.specs.Histories.{StartsWith, own, places}
use Rattle.lane_histories.specs.Laws.{RepliesStay}
use Rattle.hall_rule.specs.Rule.{names}
use Rattle.hall_rule.specs.Seen.{GrowsFrom, nothing}
use Rattle.hall_rule.specs.Sums.{times, upward}
use Rattle.service_histories.specs.ArrayServices.{array_service}
use Rattle.service_histories.specs.Counts.{RegistersCount}
use Rattle.hall.specs.Answers.{ArrayStart, ArrayView}
use Rattle.hall.specs.ArrayMachines.{IsOpened, lanes_in, machines}
use Rattle.hall.specs.Passes.{HasBegun, HasEnded, TookIn, opening, view_of, who}
use Rattle.hall.specs.declared.desk.AtDesk.{Ghosts}
use Rattle.hall.specs.declared.gate.OpenGate.{OpenGate}
use Rattle.hall.specs.declared.hall.Hall.{Hall}
use Rattle.hall.specs.declared.pass.Pass.{Pass}
use Rattle.rest_session.specs.declared.halls.workers.Worker.{Worker}
use Rattle.rest_session.specs.Halls.Accounts.{Account, AllAnswered, IsReady, Lists, account, told_by, told_of, unasked}
use Rattle.rest_session.specs.Halls.Staff.{IsAlone, IsGiver, IsHired, IsStaff}
use Rattle.rest_session.specs.Halls.Visits.{Telling, Works}
use Rattle.rest_session.specs.Halls.Workers.{WorksAt}
use Rattle.rest_session.specs.declared.links.end.LinkEnd.{LinkEnd}
use Rattle.rest_session.proofs.OfHalls.Accounts.{told_still}
use Rattle.rest_session.proofs.OfHalls.Lists.{all_at, all_images, all_map, all_on, get_map, length_upward, map_of, map_same, some_same, upward_at}
use Rattle.rest_session.proofs.OfHalls.Shares.{grows_on, number_named}
use Rattle.rest_session.proofs.OfHalls.Staffs.{staffed}

map_empty : {X Y : Type 0} (f : X → Y) (xs : List X) → map f xs ≡ [] → xs ≡ []
map_empty f [] e = refl
map_empty f (x ∷ xs) e = absurd (let no : f x ∷ map f xs ≡ [] = e in cc)

-- ---- the beginning

pub first_giver : {D K : Type 0} {g : Ghosts D K} (h : Hall D K) (p : Pass D K g) (s : State) (n : ℕ) → HasBegun h p s (n + 1) → IsGiver h 0 n p
first_giver h p s n begun = record {
  of_this_hall = begun.pass;
  number = ap (λ v. v.number) begun.first;
  spare = ap (λ v. v.spare) begun.first ∙ ap (upward 1) (let e : (n + 1) - 1 ≡ n = omega arith in e);
  joined = ap (λ v. v.joined) begun.first;
  seen = ap (λ v. v.seen) begun.first ∙ ap (λ o. nothing o) (sym begun.owners);
  front = begun.front;
}

pub hired_account : {D K : Type 0} {g : Ghosts D K} (tokens : TokenTable) (h : Hall D K) (x : ℕ) (p : Pass D K g) → IsHired h x p → account tokens h p ≡ unasked tokens
hired_account tokens h x p hired =
    let none : own (view_of p).number (view_of p).seen.register ≡ [] = ap (λ m. own m (view_of p).seen.register) hired.number ∙ hired.unasked in
    (λ i. record { tokens = tokens; told = map (told_of (lanes_in (opening h)) (view_of p).seen) (none i); front = hired.front i; keepings = hired.keepings i })

pub hired_ready : {D K : Type 0} {g : Ghosts D K} (h : Hall D K) (x : ℕ) (p : Pass D K g) → IsHired h x p → IsReady h p
hired_ready h x p hired =
    let none : own (view_of p).number (view_of p).seen.register ≡ [] = ap (λ m. own m (view_of p).seen.register) hired.number ∙ hired.unasked in record {
      of_this_hall = hired.of_this_hall;
      answered = subst (λ es. AllAnswered (map (told_of (lanes_in (opening h)) (view_of p).seen) es)) (sym none) tt;
    }

pub hired_alone : {D K : Type 0} {g : Ghosts D K} (h : Hall D K) (x : ℕ) (p : Pass D K g) → IsHired h x p → IsAlone (view_of p)
hired_alone h x p hired = record { spare = hired.spare; joined = hired.joined }

-- the first pass, once it gave all its numbers away
pub giver_alone : {D K : Type 0} {g : Ghosts D K} (h : Hall D K) (k : ℕ) (p : Pass D K g) → IsGiver h k 0 p → IsAlone (view_of p)
giver_alone h k p giver = record { spare = giver.spare; joined = giver.joined }

-- ---- what no worker changes

module _ {D K F G : Type 0} {g : Ghosts D K} (ws now : List (Worker D F G K g)) (same : map (λ w. who w.pass) now ≡ map (λ w. who w.pass) ws) where
  pub alone_still : All (λ w. IsAlone (view_of w.pass)) ws → All (λ w. IsAlone (view_of w.pass)) now
  alone_still alone =
      let named = λ (w : Worker D F G K g). who w.pass in
      let Alone = λ (t : TableId × Bool × ℕ × List ℕ × List ℕ × Option (ArrayStart K)). (t.3 ≡ []) × (t.4 ≡ []) in
      let before = all_images Alone named ws (all_on (λ w. IsAlone (view_of w.pass)) (λ w. Alone (named w)) ws (λ w a. (a.spare, a.joined)) alone) in
      all_on (λ w. Alone (named w)) (λ w. IsAlone (view_of w.pass)) now (λ w a. record { spare = a.0; joined = a.1 }) (all_map Alone named now (subst (All Alone) (sym same) before))

  pub count_still : length now ≡ length ws
  count_still = sym (length-map now (λ (w : Worker D F G K g). who w.pass)) ∙ ap length same ∙ length-map ws (λ (w : Worker D F G K g). who w.pass)

-- ---- the end

module _ {D K F L : Type 0} {g : Ghosts D K} (tells : Telling F L) (tokens : TokenTable) (links : ℕ) (h : Hall D K) (ws now : List (Worker D F OpenGate K g)) where
  abbrev pub Worked : Type 0
  Worked = (i : ℕ) (x y : Worker D F OpenGate K g) → slice_get ws i ≡ Some x → slice_get now i ≡ Some y
      → WorksAt tells links x.door y.door y.ends.items (account tokens h x.pass) (account tokens h y.pass) y.door_failed

  -- a worker where another one stood has a door exactly where that had one
  door_kept : (o p : Option F) (ends : List LinkEnd) (s t : Account) (failed : Bool) → WorksAt tells links o p ends s t failed → is_some p ≡ is_some o
  door_kept (Some d) (Some e) ends s t failed h = refl
  door_kept (Some d) None ends s t failed h = absurd h
  door_kept None (Some e) ends s t failed h = absurd h
  door_kept None None ends s t failed h = refl

  pub staff_kept : (doors : List F) → IsStaff doors ws → length now ≡ length ws → Worked → (after : List F) × IsStaff after now × (length after ≡ length doors)
  staff_kept doors staff many worked =
      let door = λ (w : Worker D F OpenGate K g). w.door in
      let here = λ (w : Worker D F OpenGate K g). is_some w.door in
      let same : map here now ≡ map here ws = map_same here ws now many
      (λ i x y gx gy. door_kept x.door y.door y.ends.items (account tokens h x.pass) (account tokens h y.pass) y.door_failed (worked i x y gx gy)) in
      staffed (map door now) doors (map_of is_some door now ∙ same ∙ sym (map_of is_some door ws) ∙ ap (map is_some) staff)

module _ {D K F L : Type 0} {g : Ghosts D K} (tells : Telling F L) (tokens : TokenTable) (links : ℕ) (h : Hall D K) (stay : RepliesStay (array_service (lanes_in (opening h))))
    (ws now : List (Worker D F OpenGate K g)) (count : ℕ) (last : ArrayView K) (seen : Lists) where
  module _ (numbers : map (λ w. (view_of w.pass).number) ws ≡ upward 1 count) (same : map (λ w. who w.pass) now ≡ map (λ w. who w.pass) ws)
      (hired : All (λ w. (x : ℕ) × IsHired h x w.pass) ws) (ready : All (λ w. IsReady h w.pass) now) (worked : Worked tells tokens links h ws now)
      (took : All (λ w. TookIn last (view_of w.pass)) now) (grows : GrowsFrom seen last.seen)
      (owns : (x : ℕ) → 0 < times x (names last) → own x seen.register ≡ own x last.seen.register)
      (i : ℕ) (x y : Worker D F OpenGate K g) (gx : slice_get ws i ≡ Some x) (gy : slice_get now i ≡ Some y) where
    -- each has the number behind its place
    number_is : (view_of y.pass).number ≡ i + 1
    number_is =
        let number = λ (w : Worker D F OpenGate K g). (view_of w.pass).number in
        let named = λ (w : Worker D F OpenGate K g). who w.pass in
        let some = slice_get_within ws i x gx in
        let many : length ws ≡ count = sym (length-map ws number) ∙ ap length numbers ∙ length_upward 1 count in
        let at_i : Some (number x) ≡ Some (1 + i) = sym (get_map number ws i x gx) ∙ ap (λ l. slice_get l i) numbers ∙ upward_at 1 count i (omega (arith, some, many)) in
        let first : number x ≡ 1 + i = some_same (number x) (1 + i) at_i in
        let kept_i : Some (named y) ≡ Some (named x) = sym (get_map named now i y gy) ∙ ap (λ l. slice_get l i) same ∙ get_map named ws i x gx in
        let kept : named y ≡ named x = some_same (named y) (named x) kept_i in
        ap (λ t. t.2) kept ∙ first ∙ (let e : 1 + i ≡ i + 1 = omega arith in e)

    had : TookIn last (view_of y.pass)
    had = all_at (λ (w : Worker D F OpenGate K g). TookIn last (view_of w.pass)) now i y took gy

    -- no entry of its number was asked by another
    own_only : own (view_of y.pass).number seen.register ≡ own (view_of y.pass).number (view_of y.pass).seen.register
    own_only =
        let named = number_named (view_of y.pass) y.pass.live in
        owns (view_of y.pass).number (had.has_names (view_of y.pass).number named) ∙ had.no_more (view_of y.pass).number named

    unasked_before : account tokens h x.pass ≡ unasked tokens
    unasked_before =
        let fresh = all_at (λ (w : Worker D F OpenGate K g). (m : ℕ) × IsHired h m w.pass) ws i x hired gx in
        hired_account tokens h fresh.0 x.pass fresh.1

    -- it has seen the first of the keepings
    pub keepings_seen : StartsWith seen.keepings (view_of y.pass).seen.keepings
    keepings_seen = (grows_on seen last.seen (view_of y.pass).seen grows had.longer).keepings

    -- what a worker at a door was told is what the history tells of its number
    pub each_served : (d e : F) → x.door ≡ Some d → y.door ≡ Some e
        → Works tells links d e y.ends.items (unasked tokens)
        (record { tokens = tokens; told = told_by (lanes_in (opening h)) (i + 1) seen; front = y.pass.front; keepings = (view_of y.pass).seen.keepings }) y.door_failed
    each_served d e at_x at_y =
        let n = lanes_in (opening h) in
        let is = all_at (λ (w : Worker D F OpenGate K g). IsReady h w.pass) now i y ready gy in
        let told : told_by n (view_of y.pass).number seen ≡ told_by n (view_of y.pass).number (view_of y.pass).seen =
        told_still n stay seen (view_of y.pass).seen (grows_on seen last.seen (view_of y.pass).seen grows had.longer) (view_of y.pass).number own_only is.answered in
        let after : account tokens h y.pass ≡ record { tokens = tokens; told = told_by n (i + 1) seen; front = y.pass.front; keepings = (view_of y.pass).seen.keepings } =
        (λ j. record { tokens = tokens; told = (sym told ∙ ap (λ m. told_by n m seen) number_is) j; front = y.pass.front; keepings = (view_of y.pass).seen.keepings }) in
        let works : WorksAt tells links (Some d) (Some e) y.ends.items (account tokens h x.pass) (account tokens h y.pass) y.door_failed =
        subst (λ (p : Option F × Option F). WorksAt tells links p.0 p.1 y.ends.items (account tokens h x.pass) (account tokens h y.pass) y.door_failed)
        (λ j. (at_x j, at_y j)) (worked i x y gx gy) in
        subst (λ (t : Account × Account). Works tells links d e y.ends.items t.0 t.1 y.door_failed) (λ j. (unasked_before j, after j)) works

    -- one without a door has no entry
    pub none_served : x.door ≡ None → y.door ≡ None → own (i + 1) seen.register ≡ []
    none_served at_x at_y =
        let n = lanes_in (opening h) in
        let works : WorksAt tells links None None y.ends.items (account tokens h x.pass) (account tokens h y.pass) y.door_failed =
        subst (λ (p : Option F × Option F). WorksAt tells links p.0 p.1 y.ends.items (account tokens h x.pass) (account tokens h y.pass) y.door_failed)
        (λ j. (at_x j, at_y j)) (worked i x y gx gy) in
        let nothing_told : told_by n (view_of y.pass).number (view_of y.pass).seen ≡ [] = works.2.told ∙ ap (λ (s : Account). s.told) unasked_before in
        let none = map_empty (told_of n (view_of y.pass).seen) (own (view_of y.pass).number (view_of y.pass).seen.register) nothing_told in
        subst (λ (m : ℕ). own m seen.register ≡ []) number_is (own_only ∙ none)

module _ {K : Type 0} (start : ArrayStart K) (last : ArrayView K) (closing : State) (opened : IsOpened start) (ended : HasEnded start last closing) where
  -- the world has decided as many requests as the history has entries
  pub places_told : RegistersCount (lanes_in start) → closing.register.places ≡ places ended.seen.register
  unfolding machines
  places_told counts =
      let counted = counts start.register 0 0 ended.seen.register opened.some_lane opened.lanes ended.grown.legal.register in
      let all = counted.places in
      let none = opened.register.places in
      ap (λ r. r.places) ended.register ∙ omega (arith, all, none)

  -- nothing more came under the names of the last pass
  pub owns_all : last.guests ≡ [] → (x : ℕ) → 0 < times x (names last) → own x ended.seen.register ≡ own x last.seen.register
  owns_all alone x named =
      ⊎_elim (λ (guest : 0 < times x last.guests). absurd (let none : 0 < times x [] = subst (λ (l : List ℕ). 0 < times x l) alone guest in omega (arith, none)))
      (λ (e : own x ended.seen.register ≡ own x last.seen.register). e) (ended.grown.owns x named)
