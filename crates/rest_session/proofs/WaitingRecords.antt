-- What waits to be written follows the worlds that stood since the last keeping.
use Rattle.std.proofs.Common.{◌≡◌, inl, inr, ℕ, ◌≤◌, Bool, true, false, List, [], ◌∷◌, Option, Some, None, Result, Ok, Err, refl, sym, ap, subst, ◌∙◌}
use Rattle.std.specs.List.{AllByRecursion}
use Rattle.access_lists.specs.declared.people.Caller.{Caller}
use Rattle.edge_traits.specs.declared.disk.Disk.{Ghosts}
use Rattle.flush_journal.specs.Batches.{records}
use Rattle.flush_journal.specs.Records.{Record}
use Rattle.flush_journal.specs.Standing.{numbers_of, pending_of}
use Rattle.flush_journal.specs.declared.report.Report.{Report}
use Rattle.flush_journal.specs.declared.why.Why.{Why}
use Rattle.http_wire.specs.Messages.{RequestMessage, closes}
use Rattle.flush_journal.specs.Keepings.Keepings.{Builds, unsettled, uncut, waits, written}
use Rattle.flush_journal.specs.declared.keepings.keeping.Keeping.{Keeping}
use Rattle.flush_journal.proofs.OfKeepings.Backing.{none_some}
use Rattle.rest_session.specs.Links.Links.{IsAnswer, IsTranscript}
use Rattle.rest_session.specs.declared.links.end.LinkEnd.{LinkEnd}
use Rattle.object_ops.specs.Needs.{decided_at}
use Rattle.object_ops.specs.declared.ops.Request.{Request}
use Rattle.object_ops.specs.declared.refusals.Refusal.{Refusal}
use Rattle.flush_journal.specs.Cuts.Cuts.{AppendsOnce}
use Rattle.flush_journal.proofs.OfCuts.CutLemmas.{all_append, all_more}
use Rattle.rest_requests.specs.Requests.{request_of}
use Rattle.service_core.specs.Laws.{PlacesGoOn}
use Rattle.service_core.specs.Records.{IsCutRecord, IsWorldRecord, as_kept}
use Rattle.service_core.specs.Steps.{World}
use Rattle.service_core.specs.Worlds.{State}
use Rattle.service_core.specs.declared.answers.What.{What}
use Rattle.rest_session.specs.Sessions.{IsAnsweredBy, IsFinished, IsServed, Served, acknowledges, said_by}
use Rattle.service_core.specs.KeptWorlds.{KeepsWorld}
use Rattle.rest_session.specs.Stood.{AreOfStood, IsOfStood, StoodSince}
use Rattle.rest_session.proofs.Following.{Advances, Among, Answered, Follows, all_map, all_stood, answered, follow, of_among}
use Rattle.rest_session.proofs.Following.{StoodSince as Since}
use Rattle.rest_session.proofs.KeptWorlds.{keeps_on, kept_of, of_before, places_of, shown, stands_now, stood_in}

-- ---- one keeping

abbrev pub AllWaiting : (Record → Type 0) → Option (List Record) → Type 0
AllWaiting Q waiting = (rs : List Record) → waiting ≡ Some rs → AllByRecursion Q rs

-- what holds of each record that waited, was building or was cut holds of each that waits or is building afterwards
module _ (P Q : Record → Type 0) (f : (r : Record) → P r → Q r) (waiting : Option (List Record)) (building : List Record) (waited : AllWaiting Q waiting) (were : AllByRecursion Q building) where
  all_appended : (new : List Record) → AppendsOnce P building new → AllByRecursion Q new
  all_appended new cut = subst (λ (rs : List Record). AllByRecursion Q rs) (sym cut.appended) (all_append Q building cut.added were (all_more P Q cut.added f cut.each))

  same_waiting : (left : Option (List Record)) (rs : List Record) → left ≡ Some rs → AllByRecursion Q rs → AllWaiting Q left
  same_waiting left rs left_it all = λ qs is.
      let both : ◌≡◌ {A = Option (List Record)} (Some rs) (Some qs) = sym left_it ∙ is in
      let same : rs ≡ qs = cc in
      subst (λ (xs : List Record). AllByRecursion Q xs) same all

  none_waiting : (left : Option (List Record)) → left ≡ None → AllWaiting Q left
  none_waiting left none = λ qs is. none_some left qs (AllByRecursion Q qs) none is

  none_built : (built : List Record) → built ≡ [] → AllByRecursion Q built
  none_built built none = subst (λ (rs : List Record). AllByRecursion Q rs) (sym none) tt

  pub all_built : (from to : Report) (left : Option (List Record)) (built : List Record) → Builds P from waiting building to left built → AllWaiting Q left × AllByRecursion Q built
  all_built from to left built (unsettled rs waits_it left_it same stays) = (same_waiting left rs left_it (waited rs waits_it), subst (λ (xs : List Record). AllByRecursion Q xs) (sym same) were)
  all_built from to left built (uncut none cut grows) = (none_waiting left none, all_appended built cut)
  all_built from to left built (waits rs left_it cut none grows) = (same_waiting left rs left_it (all_appended rs cut), none_built built none)
  all_built from to left built (written rs none cut all grows) = (none_waiting left none, none_built built all)

-- ---- records of some worlds

abbrev pub IsOfOne : List World → Record → Type 0
IsOfOne ws r = (w : World) × Among w ws × IsWorldRecord w r

of_more : (w : World) (ws : List World) (r : Record) → IsOfOne ws r → IsOfOne (w ∷ ws) r
of_more w ws r h = (h.0, inr h.1, h.2)

module _ {D : Type 0} {met : Ghosts D} where
  -- what waits, and what is building, is records of these worlds
  pub record AreOfOnes (k : Keeping D met) (ws : List World) : Type 0 where
    pub waiting : AllWaiting (IsOfOne ws) (pending_of k.journal)
    pub building : AllByRecursion (IsOfOne ws) (records k.building)

  abbrev pub AreOfWorlds : Served met → List World → Type 0
  AreOfWorlds s ws = AreOfOnes s.keeping ws

  nothing_left : (k : Keeping D met) (ws : List World) → pending_of k.journal ≡ None → records k.building ≡ [] → AreOfOnes k ws
  nothing_left k ws none all = record {
    waiting = λ rs is. none_some (pending_of k.journal) rs (AllByRecursion (IsOfOne ws) rs) none is;
    building = subst (λ (rs : List Record). AllByRecursion (IsOfOne ws) rs) (sym all) tt;
  }

  -- a keeping was refused
  kept_later : (k l : Keeping D met) (u v : State) (ws : List World) → as_kept v ≡ as_kept u
      → Builds (IsCutRecord u) (numbers_of k.journal) (pending_of k.journal) (records k.building) (numbers_of l.journal) (pending_of l.journal) (records l.building) → AreOfOnes k ws → AreOfOnes l (as_kept v ∷ ws)
  kept_later k l u v ws same built h = record { waiting = all.0; building = all.1 } where
    more : (rs : List Record) → AllByRecursion (IsOfOne ws) rs → AllByRecursion (IsOfOne (as_kept v ∷ ws)) rs
    more rs all = all_more (IsOfOne ws) (IsOfOne (as_kept v ∷ ws)) rs (of_more (as_kept v) ws) all

    all : AllWaiting (IsOfOne (as_kept v ∷ ws)) (pending_of l.journal) × AllByRecursion (IsOfOne (as_kept v ∷ ws)) (records l.building)
    all = all_built (IsCutRecord u) (IsOfOne (as_kept v ∷ ws)) (λ r is. (as_kept v, inl refl, subst (λ (w : World). IsWorldRecord w r) (sym same) is.stands)) (pending_of k.journal) (records k.building)
        (λ rs is. more rs (h.waiting rs is)) (more (records k.building) h.building) (numbers_of k.journal) (numbers_of l.journal) (pending_of l.journal) (records l.building) built

  -- ---- one answer

  abbrev Goes : Served met → Served met → List World → Type 0
  Goes s t ws = Advances IsServed AreOfWorlds shown kept_of places_of s t ws

  on : (s t : Served met) (ws : List World) → t.keeping ≡ s.keeping → AreOfWorlds s ws → Goes s t ws
  on s t ws keeping are = record {
    left = ws;
    is_backed = subst (λ (k : Keeping D met). AreOfOnes k ws) (sym keeping) are;
    each = of_before s t ws ws (ap (λ (k : Keeping D met). k.kept) keeping) (λ w h. h);
  }

  kept_on : (s t : Served met) (mid : State) (ws : List World) (result : Result ℕ Why) → KeepsWorld s.keeping mid t.keeping t.world result → AreOfWorlds s ws → Goes s t ws
  kept_on s t mid ws (Ok n) h are = record { left = shown t ∷ []; is_backed = nothing_left t.keeping (shown t ∷ []) h.keeps.idle h.done; each = (inr refl, tt) }
  kept_on s t mid ws (Err e) h are = record {
    left = shown t ∷ ws;
    is_backed = kept_later s.keeping t.keeping mid t.world ws h.same h.batch are;
    each = (inr refl, of_before s t ws ws h.refused (λ w a. a));
  }

  finished : (s t : Served met) (mid : State) (ws : List World) (path : List ℕ) (what : What) (close : Bool) (bytes : List ℕ) (b : Bool) → IsFinished b path what close s.keeping mid bytes t
      → AreOfWorlds s ws → Goes s t ws
  finished s t mid ws path what close bytes false h are = on s t ws h.1 are
  finished s t mid ws path what close bytes true h are = kept_on s t mid ws h.0 h.1 are

  stepped : (s t : Served met) (ws : List World) (target : List ℕ) (r : Result (Caller × Request) Refusal) (close : Bool) (bytes : List ℕ) → IsAnsweredBy s target r close bytes t
      → AreOfWorlds s ws → Goes s t ws
  stepped s t ws target (Err refusal) close bytes h are = on s t ws h.1.keeping are
  stepped s t ws target (Ok read) close bytes h are =
      finished s t h.mid ws (decided_at read.1) h.answer.what close bytes (acknowledges read.1.op h.answer.what) h.finished are

  advance : (s : Served met) (m : RequestMessage) (bytes : List ℕ) (t : Served met) (ws : List World) → IsAnswer IsServed s m bytes t → AreOfWorlds s ws → Goes s t ws
  advance s m bytes t ws (inl (tokens, inl h)) are = stepped s t ws m.head.target (request_of s.tokens (said_by m)) (closes m) bytes h are
  advance s m bytes t ws (inl (tokens, inr h)) are = on s t ws h.1.keeping are
  advance s m bytes t ws (inr h) are = on s t ws (ap (λ (x : Served met). x.keeping) h.1) are

  -- ---- the whole link

  pub what_waits : PlacesGoOn → (s t : Served met) (taken sent : List ℕ) (left : Option (List ℕ)) (end : LinkEnd) → IsTranscript IsServed s taken sent left t end
      → pending_of s.keeping.journal ≡ None → records s.keeping.building ≡ [] → s.keeping.kept ≤ s.world.register.places → AreOfStood s t taken sent
  what_waits next s t taken sent left end transcript none all k = record {
    waiting = λ rs is. all_more (IsOfOne f.left) (IsOfStood s t taken sent t.keeping.kept) rs of_stood (f.is_backed.waiting rs is);
    building = all_more (IsOfOne f.left) (IsOfStood s t taken sent t.keeping.kept) (records t.keeping.building) of_stood f.is_backed.building;
    now = stands_now s t taken sent a t.keeping.kept f.within;
  } where
    a : Answered IsServed s t taken sent
    a = answered IsServed s taken sent left t end transcript

    f : Follows IsServed AreOfWorlds shown kept_of places_of s a.messages a.answers t (as_kept s.world ∷ [])
    f = follow IsServed AreOfWorlds shown kept_of places_of advance (keeps_on next) s a.messages a.answers t (as_kept s.world ∷ []) a.replays
        (nothing_left s.keeping (as_kept s.world ∷ []) none all) k

    stood : AllByRecursion (StoodSince s t taken sent t.keeping.kept) f.left
    stood = all_map (Since IsServed AreOfWorlds shown kept_of places_of s a.messages a.answers t t.keeping.kept) (StoodSince s t taken sent t.keeping.kept) f.left
        (λ w h. stood_in AreOfWorlds s t taken sent a.messages a.answers t.keeping.kept w a.read a.written h) (all_stood IsServed AreOfWorlds shown kept_of places_of s a.messages a.answers t a.replays k f)

    of_stood : (r : Record) → IsOfOne f.left r → IsOfStood s t taken sent t.keeping.kept r
    of_stood r h = (h.0, of_among (StoodSince s t taken sent t.keeping.kept) f.left h.0 h.1 stood, h.2)
