-- What the register may do in its turn.
use Rattle.std.proofs.Common.{◌≡◌, ℕ, zero, suc, ◌+◌, ◌<◌, ◌≤◌, List, [], ◌∷◌, Option, Some, length, false, refl, sym, ap, subst, ◌∙◌, arith}
use Rattle.std.specs.List.{AllByRecursion}
use Rattle.std.specs.declared.snapshot.Snapshot.{Snapshot}
use Rattle.access_lists.specs.declared.people.Caller.{Caller}
use Rattle.atomic_table.specs.Table.{rest}
use Rattle.chunk_owner.specs.Lanes.{Lane}
use Rattle.object_ops.specs.declared.grants.Grant.{Grant}
use Rattle.object_ops.specs.declared.ops.Op.{Op}
use Rattle.object_ops.specs.declared.ops.Op.TheVariants.{DropNode}
use Rattle.object_ops.specs.declared.ops.Request.{Request}
use Rattle.register.specs.Decided.{Decides, HasRoom, RegisterState}
use Rattle.register.specs.Grants.{IfGranted, IsIssueOf}
use Rattle.register.specs.Tickets.{AreInLanes, Issue}
use Rattle.register.specs.declared.tickets.Turn.{Turn}
use Rattle.register.specs.declared.verdicts.Verdict.{Verdict}
use Rattle.register.specs.declared.verdicts.Verdict.TheVariants as verdict
use Rattle.lane_histories.specs.Histories.{places, register_after}
use Rattle.lane_histories.specs.Legal.{IsLegalRegister}
use Rattle.lane_histories.specs.declared.items.RegisterItem.TheVariants.{Entered}
use Rattle.hall_rule.specs.Claims.{claim}
use Rattle.hall_rule.specs.Rule.{HallHand}
use Rattle.hall_rule.specs.Seen.{at_register, lanes_of}
use Rattle.hall_rule.specs.Steps.{HasPassed, HasTaken}
use Rattle.hall_rule.specs.Sums.{upward}
use Rattle.hall_rule.specs.TurnLaws.{MachinesStand, RegisterTurnLaws}
use Rattle.hall_rule.specs.WholeTurns.{HasDecided, IsReadyToPass, entry_behind}
use Rattle.hall_rule.specs.declared.queue.Claim.{Claim}
use Rattle.hall_rule.specs.declared.queue.Queue.TheVariants.{OfRegister}
use Rattle.hall_rule.specs.declared.slot.RegisterNews.{RegisterNews}
use Rattle.hall_rule.specs.declared.slot.RegisterNews.TheVariants.{Asks}
use Rattle.hall_rule.specs.declared.slot.RegisterSlot.{RegisterSlot}
use Rattle.hall_rule.specs.declared.slot.Slot.{Slot}
use Rattle.hall_rule.specs.declared.slot.Slot.TheVariants.{AtRegister}
use Rattle.service_histories.specs.ArrayServices.{Asked, KeptPart, array_service, listed, turns_for, turns_of}
use Rattle.service_histories.specs.Calls.{DecisionsAnswer}
use Rattle.service_histories.specs.Counts.{FreshRegistersHaveRoom, IsCounted, RegistersCount}
use Rattle.service_histories.specs.Cuttings.{IsRegisterSince}
use Rattle.hall.specs.Answers.{ArrayStart, ArrayView, asked_by}
use Rattle.hall.specs.ArrayMachines.{IsOpened, desk_machines, lanes_in, machines}
use Rattle.hall.specs.declared.desk.AtDesk.{Ghosts}
use Rattle.hall.specs.declared.desk.NotedDesk.{NotedDesk}
use Rattle.hall.proofs.PlainLemmas.{decided_so}

pub same_register_slot : {M N P Q V R : Type 0} (a b : RegisterSlot M Q V) → ◌≡◌ {A = Slot M N P Q V R} (AtRegister a) (AtRegister b) → a ≡ b
same_register_slot a b e = cc

-- ---- the tickets of a decision are of lanes that are there

pub upward_below : (a n k : ℕ) → a + n ≤ k → AllByRecursion (λ l. l < k) (upward a n)
upward_below a zero k few = tt
upward_below a (suc n) k few = (omega arith, upward_below (a + 1) n k (omega arith))

module _ (n : ℕ) where
  in_list : (g : Grant) (op : Op) (turns : List Turn) → AreInLanes n turns → AllByRecursion (λ l. l < n) (lanes_of n (listed g op turns))
  in_list g op [] there = tt
  in_list g op (t ∷ []) there = (there.0, tt)
  in_list g op (t ∷ u ∷ ts) there = (there.0, (there.1.0, tt))

  in_turns : (op : Op) (issue : Issue) → AreInLanes n issue.left → AllByRecursion (λ l. l < n) (lanes_of n (turns_for op issue))
  in_turns DropNode issue there = upward_below 0 n n (omega arith)
  in_turns op issue there = in_list issue.grant op issue.left there

  pub lanes_there : (d : RegisterState) (asked : Asked) (v : Verdict) → length d.issued ≡ n → IfGranted v (IsIssueOf d asked.1.value.op)
      → AllByRecursion (λ l. l < n) (lanes_of n (turns_of asked v))
  lanes_there d asked (verdict.Granted issue) few is = in_turns asked.1.value.op issue (subst (λ k. AreInLanes k issue.left) few is.lanes)
  lanes_there d asked (verdict.Answered answer) few is = tt
  lanes_there d asked (verdict.Denied right) few is = tt
  lanes_there d asked (verdict.Refused refusal) few is = tt
  lanes_there d asked verdict.NoMemory few is = tt

-- ---- what was asked, as the history has it

pub decides_as : (d new : RegisterState) (asked : Asked) (caller : Caller) (request : Request) (v w : Verdict) → asked ≡ asked_by caller request → w ≡ v
    → Decides d caller request v new → Decides d asked.0.value asked.1.value w new
decides_as d new asked caller request v w same is =
    subst (λ (x : Asked × Verdict). Decides d x.0.0.value x.0.1.value x.1 new) (λ i. (sym same i, sym is i))

pub issue_as : (d : RegisterState) (asked : Asked) (caller : Caller) (request : Request) (v w : Verdict) → asked ≡ asked_by caller request → w ≡ v
    → IfGranted v (IsIssueOf d request.op) → IfGranted w (IsIssueOf d asked.1.value.op)
issue_as d asked caller request v w same is =
    subst (λ (x : Asked × Verdict). IfGranted x.1 (IsIssueOf d x.0.1.value.op)) (λ i. (sym same i, sym is i))

-- the slot that was put back is the one in hand
pub in_hand_again : {X : Type 0} (xs ys : List (ℕ × X)) (k : ℕ) (x : X) → xs ≡ (k, x) ∷ ys → xs ≡ (k, x) ∷ rest xs
in_hand_again xs ys k x e = e ∙ ap (λ l. (k, x) ∷ l) (sym (ap rest e))

-- ---- the register that was taken is the one that its list leaves

module _ {D K : Type 0} (met : Ghosts D K) (start : ArrayStart K) (opened : IsOpened start) (stand : MachinesStand (desk_machines met (lanes_in start)))
    (n : ℕ) (others : List Claim) (me after : HallHand (array_service (lanes_in start)) RegisterState Lane (NotedDesk D) K)
    (t : HasTaken (desk_machines met (lanes_in start)) start (claim OfRegister n false) others me after)
    (slot : RegisterSlot RegisterState Asked Verdict) (here : t.slot ≡ AtRegister slot) where
  pub register_here : slot.register ≡ register_after (array_service (lanes_in start)) start.register t.seen.register
  unfolding desk_machines
  register_here =
      let d = stand.register start n others me after t in
      ap (λ (s : RegisterSlot RegisterState Asked Verdict). s.register) (same_register_slot slot d.0 (sym here ∙ d.1)) ∙ d.2.now

  legal_here : IsLegalRegister (array_service (lanes_in start)) start.register 0 0 t.seen.register
  unfolding desk_machines
  legal_here = t.grown.legal.register

  pub counted_here : RegistersCount (lanes_in start) → IsCounted (lanes_in start) t.seen.register start.register slot.register
  counted_here counts = subst (IsCounted (lanes_in start) t.seen.register start.register) (sym register_here)
      (counts start.register 0 0 t.seen.register opened.some_lane opened.lanes legal_here)

  pub room_here : FreshRegistersHaveRoom (lanes_in start) → HasRoom slot.register
  room_here room =
      let few = stand.room start n others me after t in
      subst HasRoom (sym register_here) (room start.register 0 0 t.seen.register opened.some_lane opened.lanes legal_here opened.register few.0 (λ l _. few.1 l))

  pub place_here : RegistersCount (lanes_in start) → slot.register.places ≡ places t.seen.register
  place_here counts = let c = (counted_here counts).places in let z = opened.register.places in omega arith

  -- so a decision of it may be passed on
  pub decision_here : RegistersCount (lanes_in start) → DecisionsAnswer → (v : ArrayView K) (back : HallHand (array_service (lanes_in start)) RegisterState Lane (NotedDesk D) K)
      (asked : Snapshot Asked) (verdict : Snapshot Verdict) (new : RegisterState)
      → RegisterTurnLaws (desk_machines met (lanes_in start)) start v t.seen back slot (record { register = new; news = Some (Asks asked verdict) })
      → Decides slot.register asked.value.0.value asked.value.1.value verdict.value new
      → IfGranted verdict.value (IsIssueOf slot.register asked.value.1.value.op)
      → ((c : KeptPart) → IsRegisterSince c slot.register → IsRegisterSince c new)
      → IsReadyToPass (desk_machines met (lanes_in start)) start (at_register (Entered (entry_behind t.seen.register v.number asked.value verdict.value))) back
  unfolding desk_machines
  decision_here counts events v back asked verdict new laws decides issue says =
      let answer = events slot.register asked.value verdict.value new decides in
      laws.may_decide asked verdict refl answer.may
      (lanes_there (lanes_in start) slot.register asked.value verdict.value (counted_here counts).lanes_are issue)
      answer.leaves says

  -- and behind it the request is decided at the next place
  pub decided_here : RegistersCount (lanes_in start) → DecisionsAnswer → (v w : ArrayView K) (back : HallHand (array_service (lanes_in start)) RegisterState Lane (NotedDesk D) K)
      (asked : Asked) (verdict : Verdict) (new after-it : RegisterState) (news : Option (RegisterNews Asked Verdict)) (place : ℕ)
      → RegisterTurnLaws (desk_machines met (lanes_in start)) start v t.seen back slot (record { register = new; news = news })
      → HasPassed (desk_machines met (lanes_in start)) start (at_register (Entered (entry_behind t.seen.register v.number asked verdict))) back.0 w
      → place ≡ slot.register.places → Decides slot.register asked.0.value asked.1.value verdict after-it
      → HasDecided (machines (lanes_in start)) start place asked verdict v w
  unfolding desk_machines
  decided_here counts events v w back asked verdict new after-it news place laws passed at decides =
      decided_so met (lanes_in start) start place asked verdict v w
      (laws.decided place asked verdict w passed (at ∙ place_here counts) (events slot.register asked verdict after-it decides).may).0
