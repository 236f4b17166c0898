-- A turn of the desk behind an answer: the answer stays what it was, and where the turn kept what was to be kept, it reaches past the
-- answer's place.
use Rattle.std.proofs.Common.{◌≡◌, ◌⊎◌, inl, inr, ⊎_elim, ℕ, ◌+◌, ◌<◌, ◌≤◌, Bool, true, cond, List, [], ◌∷◌, ◌++◌, Option, Some, None, Result, Ok, Err}
use Rattle.std.proofs.Common.{eq-eqb, refl, sym, ap, subst, ◌∙◌, arith}
use Rattle.std.proofs.lemmas.List.{append-nil, append_assoc}
use Rattle.std.specs.declared.snapshot.Snapshot.{Snapshot}
use Rattle.access_lists.specs.declared.people.Caller.{Caller}
use Rattle.edge_traits.specs.declared.disk.Disk.{Ghosts as Disks}
use Rattle.flush_journal.specs.declared.journal.Journal.{Journal}
use Rattle.flush_journal.specs.declared.why.Why.{Why}
use Rattle.object_ops.specs.declared.ops.Request.{Request}
use Rattle.service_core.specs.declared.answers.Answer.{Answer}
use Rattle.journal_desk.specs.Keepings.{keeping_of}
use Rattle.lane_histories.specs.Histories.{IsIn, Ticket, own, places, tickets}
use Rattle.lane_histories.specs.Laws.{RepliesStay}
use Rattle.lane_histories.specs.declared.items.Keeping.{Keeping}
use Rattle.lane_histories.specs.declared.items.LaneItem.{LaneItem}
use Rattle.lane_histories.specs.declared.items.Reach.{Reach}
use Rattle.lane_histories.specs.declared.items.RegisterItem.TheVariants.{Entered}
use Rattle.hall_rule.specs.Rule.{names, seeing}
use Rattle.hall_rule.specs.Seen.{GrowsFrom, history_of, lane_of}
use Rattle.hall_rule.specs.Sums.{times}
use Rattle.hall_rule.specs.WholeTurns.{HasKept}
use Rattle.service_histories.specs.ArrayServices.{array_service}
use Rattle.hall.specs.Answers.{ArrayLists, ArrayStart, ArrayView, HasAnswered, HasGoneThrough}
use Rattle.hall.specs.ArrayMachines.{lanes_in, machines}
use Rattle.hall.specs.DeskTurns.{HasFlushedPast, HasKeptTo}
use Rattle.hall.specs.KeptAnswers.{HasKeptFor, IsKeptPast, without_number}
use Rattle.hall.specs.declared.journal.DeskWork.{DeskWork}
use Rattle.hall.specs.declared.journal.DeskWork.TheVariants.{Flush, FlushPast, KeepRegister, Look}
use Rattle.hall.proofs.DenialLemmas.{is_in_list}
use Rattle.hall.proofs.DeskTurnLemmas.{grows_on}
use Rattle.hall.proofs.DeskWorkLemmas.{one_kept}
use Rattle.hall.proofs.MemoryLemmas.{in_beginning}

-- ---- the answer stays

still_passed : {T R : Type 0} (front more : List (LaneItem T R)) (x : Ticket T) → IsIn (tickets front) x → IsIn (tickets (front ++ more)) x
still_passed [] more x here = absurd here
still_passed (i ∷ front) more x here = ⊎_elim (λ same. inl same) (λ later. inr (still_passed front more x later)) here

module _ {K : Type 0} (start : ArrayStart K) (k : Keeping) (mid w : ArrayView K) (t : HasKept (machines (lanes_in start)) start k [] mid w) where
  grown : GrowsFrom t.seen mid.seen
  grown = grows_on t.seen t.before mid.seen t.longer t.begins

  seen_now : w.seen ≡ t.seen
  seen_now = ap (λ (x : ArrayView K). x.seen) t.is

  gone_behind : {G : Type 0} (goes : G → ℕ → ℕ → G → Type 0) (place : ℕ) (old new : G) → HasGoneThrough goes mid place old new
      → HasGoneThrough goes w place old new
  gone_behind goes place old new g =
      let here = subst (λ items. IsIn items (Entered g.verdict_is.0)) (sym grown.register.1)
      (in_beginning mid.seen.register grown.register.0 (Entered g.verdict_is.0) g.verdict_is.1) in
      record {
        decided_as = g.decided_as;
        verdict_is = (
          g.verdict_is.0,
          subst (λ (h : ArrayLists). IsIn h.register (Entered g.verdict_is.0)) (sym seen_now) here,
          g.verdict_is.2,
          g.verdict_is.3,
        );
        gates = g.gates;
      }

  module _ (stay : RepliesStay (array_service (lanes_in start))) (caller : Caller) (request : Request) (answer : Answer) (v : ArrayView K)
      (live : v.live ≡ true) (h : HasAnswered start caller request answer v mid) where
    seen_then : mid.seen ≡ h.asked.seen
    seen_then = ap (λ (x : ArrayView K). x.seen) h.asked.is

    grew : GrowsFrom t.seen h.asked.seen
    grew = subst (λ (g : ArrayLists). GrowsFrom t.seen g) seen_then grown

    named : (x : ℕ) → 0 < times x (names v) → 0 < times x (names mid)
    named x = subst (λ (xs : List ℕ). 0 < times x xs) (sym (ap (λ (u : ArrayView K). names u) h.asked.is))

    mine : 0 < times v.number (names v)
    mine =
        let once : times v.number (v.number ∷ (v.spare ++ v.joined)) ≡ 1 + times v.number (v.spare ++ v.joined) =
        ap (λ (b : Bool). cond b 1 0 + times v.number (v.spare ++ v.joined)) (eq-eqb v.number v.number refl) in
        subst (λ (b : Bool). 0 < times v.number (cond b (v.number ∷ (v.spare ++ v.joined)) [])) (sym live) (omega (arith, once))

    same_own : (x : ℕ) → 0 < times x (names v) → own x t.seen.register ≡ own x h.asked.seen.register
    same_own x is_name = t.own_same x (named x is_name) ∙ ap (λ (g : ArrayLists). own x g.register) seen_then

    answered_behind : HasAnswered start caller request answer v w
    answered_behind =
        let a = h.asked in record {
          decided_as = h.decided_as;
          what_is = h.what_is;
          asked = record {
            before = a.before;
            seen = t.seen;
            is = t.is ∙ ap (λ (x : ArrayView K). seeing x [] t.seen) a.is;
            longer = grows_on t.seen a.seen v.seen grew a.longer;
            legal = t.legal;
            begins = a.begins;
            place_is = a.place_is;
            entered = (
              a.entered.0 ++ grew.register.0,
              grew.register.1 ∙ ap (λ items. items ++ grew.register.0) a.entered.1 ∙ append_assoc _ a.entered.0 grew.register.0,
            );
            decided = a.decided;
            own_grew = same_own v.number mine ∙ a.own_grew;
            own_others = λ x other is_name. same_own x is_name ∙ a.own_others x other is_name;
            passed = λ lane ticket here. subst (λ items. IsIn (tickets items) ticket) (sym (grew.lanes lane).1)
                (still_passed (lane_of a.seen.lanes lane) (grew.lanes lane).0 ticket (a.passed lane ticket here));
            replied = stay (history_of (array_service (lanes_in start)) a.seen) (history_of (array_service (lanes_in start)) t.seen) answer.place
                h.what_is (record { register = grew.register; lane = grew.lanes; keepings = grew.keepings }) a.replied;
          };
          told = h.told;
        }

-- ---- whatever was to be kept

module _ {D : Type 0} (met : Disks D) (start : ArrayStart (Snapshot (Journal D met))) (kept : Result (Unit {0}) Why)
    (mid w : ArrayView (Snapshot (Journal D met))) where
  none_or_one : (work : Option DeskWork) → HasKeptFor met work start kept mid w
      → (w ≡ mid) ⊎ ((k : Keeping) × HasKept (machines (lanes_in start)) start k [] mid w)
  none_or_one None t = inl t.1
  none_or_one (Some Flush) t = inr (_, t.2.turn)
  none_or_one (Some (FlushPast place)) t = inr (one_kept met start place t.0 mid w t.2)
  none_or_one (Some KeepRegister) t = inr (_, t.2.0.turn)
  none_or_one (Some Look) t = inr (_, t.2.2.turn)

  module _ (work : Option DeskWork) (turn : HasKeptFor met work start kept mid w) where
    pub still_gone : {G : Type 0} (goes : G → ℕ → ℕ → G → Type 0) (place : ℕ) (old new : G) → HasGoneThrough goes mid place old new
        → HasGoneThrough goes w place old new
    still_gone goes place old new gone = ⊎_elim
        (λ same. subst (λ (x : ArrayView (Snapshot (Journal D met))). HasGoneThrough goes x place old new) (sym same) gone)
        (λ one. gone_behind start one.0 mid w one.1 goes place old new gone)
        (none_or_one work turn)

    pub still_answered : RepliesStay (array_service (lanes_in start)) → (caller : Caller) (request : Request) (answer : Answer)
        (v : ArrayView (Snapshot (Journal D met))) → v.live ≡ true → HasAnswered start caller request answer v mid
        → HasAnswered start caller request answer v w
    still_answered stay caller request answer v live h = ⊎_elim
        (λ same. subst (λ (x : ArrayView (Snapshot (Journal D met))). HasAnswered start caller request answer v x) (sym same) h)
        (λ one. answered_behind start one.0 mid w one.1 stay caller request answer v live h)
        (none_or_one work turn)

-- ---- what is acknowledged is kept

module _ {K : Type 0} (start : ArrayStart K) (k : Keeping) (v w : ArrayView K) (t : HasKept (machines (lanes_in start)) start k [] v w) where
  item_seen : IsIn w.seen.keepings k
  item_seen = is_in_list w.seen.keepings t.before.keepings k
      ([], ap (λ (x : ArrayView K). x.seen.keepings) t.is ∙ t.keepings ∙ sym (append-nil _))

-- the place lies below all that the pass had seen
module _ {D : Type 0} (met : Disks D) (start : ArrayStart (Snapshot (Journal D met))) (v w : ArrayView (Snapshot (Journal D met)))
    (place front : ℕ) (front_is : front ≡ place + 1) (counted : front ≤ places v.seen.register) where
  past_by : (reached : Reach → ℕ) (result : Result ℕ Why) → without_number result ≡ Ok tt → HasKeptTo met reached start result v w
      → IsKeptPast reached w place
  past_by reached (Ok n) done t =
      let k : Keeping = keeping_of met t.before t.after (Ok n) in
      let more = t.ok.1 in (
        k,
        item_seen start k v w t.turn,
        refl,
        subst (λ (m : ℕ). place < m) t.ok.0 (omega (arith, front_is, counted, more)),
      )
  past_by reached (Err why) done t = absurd (let never : ◌≡◌ {A = Result (Unit {0}) Why} (Err why) (Ok tt) = done in cc)

  shared_past : (result : Result ℕ Why) → without_number result ≡ Ok tt → HasFlushedPast met start place result v w → IsKeptPast (λ r. r.c) w place
  shared_past result done t = ⊎_elim
      (λ shared.
      let k : Keeping = record (keeping_of met shared.desk shared.desk (Ok shared.desk.kept.c)) { moment = met.moment shared.desk.at } in
      (k, item_seen start k v w shared.turn, refl, shared.past))
      (λ flushed. past_by (λ r. r.c) result done flushed.0)
      t

  module _ (work : Option DeskWork) (kept : Result (Unit {0}) Why) (turn : HasKeptFor met work start kept v w) (done : kept ≡ Ok tt) where
    pub flush_past : work ≡ Some (FlushPast place) → IsKeptPast (λ r. r.c) w place
    flush_past is =
        let t = subst (λ (x : Option DeskWork). HasKeptFor met x start kept v w) is turn in
        shared_past t.0 (sym t.1 ∙ done) t.2

    pub change_past : work ≡ Some KeepRegister → IsKeptPast (λ r. r.p) w place
    change_past is =
        let t = subst (λ (x : Option DeskWork). HasKeptFor met x start kept v w) is turn in
        past_by (λ r. r.p) t.0 (sym t.1 ∙ done) t.2.0
