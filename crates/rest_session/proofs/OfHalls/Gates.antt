-- Gates, message after message.
use Rattle.std.proofs.Common.{◌≡◌, inl, inr, ℕ, List, [], ◌∷◌, ◌++◌, Option, Some, refl, sym, ap, ◌∙◌, subst, append_assoc, append-nil}
use Rattle.access_lists.specs.declared.people.Caller.{Caller}
use Rattle.http_wire.specs.Messages.{RequestMessage}
use Rattle.object_ops.specs.declared.ops.Request.{Request}
use Rattle.register.specs.Grants.{turns_of}
use Rattle.register.specs.declared.verdicts.Verdict.{Verdict}
use Rattle.service_core.specs.declared.answers.Answer.{Answer}
use Rattle.lane_histories.specs.Histories.{IsIn, StartsWith}
use Rattle.lane_histories.specs.Laws.{EntriesAreFound, RepliesStay}
use Rattle.lane_histories.specs.Replies.{entry_at}
use Rattle.lane_histories.specs.declared.items.Entry.{Entry}
use Rattle.lane_histories.specs.declared.items.RegisterItem.TheVariants.{Entered}
use Rattle.hall_rule.specs.Seen.{history_of}
use Rattle.service_histories.specs.ArrayServices.{Asked, array_service}
use Rattle.hall.specs.Answers.{ArrayStart, ArrayView, GoesThrough, HasAnswered, HasGoneThrough}
use Rattle.hall.specs.ArrayMachines.{lanes_in}
use Rattle.rest_session.specs.declared.links.end.LinkEnd.{LinkEnd}
use Rattle.rest_session.specs.declared.links.end.LinkEnd.TheVariants.{Closed, Cut, Ended, ReadFault, WriteFault, Budget, NoMemory}
use Rattle.rest_session.specs.Halls.Accounts.{Account, AllAnswered, Told, told_by}
use Rattle.rest_session.specs.Halls.Asking.{IsAskedOf}
use Rattle.rest_session.specs.Halls.Gates.{EachGoesThrough, Gated, Goes, HasGoneThroughAll, IsAskedThrough}
use Rattle.rest_session.specs.Links.Links.{IsAnswer, IsEnd, IsTranscript, Replays}
use Rattle.rest_session.proofs.OfHalls.Accounts.{entry_of, told_asked}
use Rattle.rest_session.proofs.OfHalls.Lists.{some_same}
use Rattle.rest_session.proofs.OfLinks.Views.{transcript_shown}

module _ {G : Type 0} (goes : Goes G) where
  each_more : (xs ys : List Told) (a b c : G) → EachGoesThrough goes xs a b → EachGoesThrough goes ys b c → EachGoesThrough goes (xs ++ ys) a c
  each_more [] ys a b c h k = subst (λ (x : G). EachGoesThrough goes ys x c) h k
  each_more (x ∷ xs) ys a b c h k = (h.0, h.1, each_more xs ys h.0 b c h.2 k)

  -- where nothing was asked, nothing went through
  pub gone_none : (s : Account) (g : G) → HasGoneThroughAll goes s s g g
  gone_none s g = record { more = []; grew = sym (append-nil s.told); gone = refl }

  pub gone_more : (r s t : Account) (a b c : G) → HasGoneThroughAll goes r s a b → HasGoneThroughAll goes s t b c → HasGoneThroughAll goes r t a c
  gone_more r s t a b c h k = record {
    more = h.more ++ k.more;
    grew = k.grew ∙ ap (λ l. l ++ k.more) h.grew ∙ append_assoc r.told h.more k.more;
    gone = each_more h.more k.more a b c h.gone k.gone;
  }

  -- one entry
  gone_one : (s t : Account) (told : Told) (a b : G) → t.told ≡ s.told ++ told ∷ [] → GoesThrough goes told.0.place (turns_of told.0.verdict) a b → HasGoneThroughAll goes s t a b
  gone_one s t told a b grew gone = record { more = told ∷ []; grew = grew; gone = (b, gone, refl) }

  -- ---- over one link

  abbrev Gone : Gated G → Gated G → Type 0
  Gone w v = HasGoneThroughAll goes w.account v.account w.gate v.gate

  gone_still : (w v : Gated G) → v ≡ w → Gone w v
  gone_still w v same = subst (λ (x : Gated G). Gone w x) (sym same) (gone_none w.account w.gate)

  answer_gone : (w v : Gated G) (m : RequestMessage) (bytes : List ℕ) → IsAnswer (IsAskedThrough goes) w m bytes v → Gone w v
  answer_gone w v m bytes (inl s) = s.1
  answer_gone w v m bytes (inr s) = gone_still w v s.1

  replays_gone : (ms : List RequestMessage) (w v : Gated G) (bytes : List ℕ) → Replays (IsAskedThrough goes) w ms bytes v → Gone w v
  replays_gone [] w v bytes r = gone_still w v r.1
  replays_gone (m ∷ ms) w v bytes r =
      gone_more w.account r.2.account v.account w.gate r.2.gate v.gate (answer_gone w r.2 m r.0 r.4) (replays_gone ms r.2 v r.1 r.5)

  end_gone : (w v : Gated G) (tail sent : List ℕ) (left : Option (List ℕ)) (end : LinkEnd) → IsEnd (IsAskedThrough goes) w tail sent left v end → Gone w v
  end_gone w v tail sent left Closed s = elim s [
    | inl e ↦ gone_still w v e.3
    | inr e ↦ answer_gone w v e.0.message sent e.0.is_answer
  ]
  end_gone w v tail sent left (Cut unread) s = gone_still w v s.6
  end_gone w v tail sent left (Ended fault) s = gone_still w v s.3
  end_gone w v tail sent left ReadFault s = gone_still w v s.3
  end_gone w v tail sent left WriteFault s = elim s [
    | inl e ↦ answer_gone w v e.1.message e.0 e.1.is_answer
    | inr e ↦ gone_still w v e.4
  ]
  end_gone w v tail sent left Budget s = gone_still w v s.2
  end_gone w v tail sent left NoMemory s = gone_still w v s.2

  pub transcript_gone : (w v : Gated G) (taken sent : List ℕ) (left : Option (List ℕ)) (end : LinkEnd) → IsTranscript (IsAskedThrough goes) w taken sent left v end → Gone w v
  transcript_gone w v taken sent left end t =
      gone_more w.account t.mid.account v.account w.gate t.mid.gate v.gate (replays_gone t.messages w t.mid t.answers t.replays) (end_gone t.mid v t.tail t.last left end t.ends)

  -- the account by itself
  pub transcript_told : (w v : Gated G) (taken sent : List ℕ) (left : Option (List ℕ)) (end : LinkEnd) → IsTranscript (IsAskedThrough goes) w taken sent left v end
      → IsTranscript IsAskedOf w.account taken sent left v.account end
  transcript_told w v taken sent left end t =
      transcript_shown (λ (x : Gated G). x.account) (IsAskedThrough goes) IsAskedOf (λ x y m bytes s. s.0) w v taken sent left end t

-- ---- one `ask`

in_front : {X : Type 0} (xs more : List X) (x : X) → IsIn ((xs ++ x ∷ []) ++ more) x
in_front [] more x = inl refl
in_front (y ∷ ys) more x = inr (in_front ys more x)

is_in_list : {X : Type 0} (xs front : List X) (x : X) → StartsWith xs (front ++ x ∷ []) → IsIn xs x
is_in_list xs front x begins = subst (λ l. IsIn l x) (sym begins.1) (in_front front begins.0 x)

module _ {K G : Type 0} (goes : Goes G) (start : ArrayStart K) (v w : ArrayView K) (caller : Caller) (request : Request) (answer : Answer)
    (found : EntriesAreFound (array_service (lanes_in start))) (a : HasAnswered start caller request answer v w) (old new : G) (h : HasGoneThrough goes w answer.place old new) where
  -- the entry of the answer's place is the pass's own
  one_entry : h.verdict_is.0 ≡ entry_of start v w caller request answer a
  one_entry =
      let q = a.asked in
      let mine = entry_of start v w caller request answer a in
      let other = h.verdict_is.0 in
      let here : IsIn q.seen.register (Entered other) = subst (λ (x : ArrayView K). IsIn x.seen.register (Entered other)) q.is h.verdict_is.1 in
      let at_mine : entry_at mine.place q.seen.register ≡ Some mine =
      found _ (history_of (array_service (lanes_in start)) q.seen) mine q.legal (is_in_list q.seen.register q.before.register (Entered mine) q.entered) in
      let at_other : entry_at other.place q.seen.register ≡ Some other = found _ (history_of (array_service (lanes_in start)) q.seen) other q.legal here in
      some_same other mine (sym at_other ∙ ap (λ (p : ℕ). entry_at p q.seen.register) (h.verdict_is.2 ∙ q.place_is) ∙ at_mine)

  -- so its turns went through the gate
  pub gone_asked : RepliesStay (array_service (lanes_in start)) → AllAnswered (told_by (lanes_in start) v.number v.seen) → (s t : Account)
      → s.told ≡ told_by (lanes_in start) v.number v.seen → t.told ≡ told_by (lanes_in start) w.number w.seen → HasGoneThroughAll goes s t old new
  gone_asked stay all s t before after =
      let mine = entry_of start v w caller request answer a in
      let turns : GoesThrough goes answer.place (turns_of mine.verdict) old new =
      subst (λ (x : Verdict). GoesThrough goes answer.place (turns_of x) old new) (sym h.verdict_is.3 ∙ ap (λ (e : Entry Asked Verdict). e.verdict) one_entry) h.gates in
      gone_one goes s t (mine, Some answer.what) old new
      (after ∙ told_asked start v w caller request answer stay all a ∙ ap (λ l. l ++ (mine, Some answer.what) ∷ []) (sym before))
      (subst (λ (p : ℕ). GoesThrough goes p (turns_of mine.verdict) old new) a.asked.place_is turns)
