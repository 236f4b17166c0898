-- What an answer makes of the worlds that a crash may leave.
use Rattle.std.proofs.Common.{◌≡◌, ◌⊎◌, inl, inr, ⊎_elim, ℕ, ◌+◌, ◌≤◌, Bool, true, false, List, [], ◌∷◌, ◌++◌, get_or, drop, Option, Result, Ok, Err, refl, sym, ap, subst, ◌∙◌, append_assoc, append-nil, arith}
use Rattle.std.specs.List.{AllByRecursion}
use Rattle.access_lists.specs.declared.people.Caller.{Caller}
use Rattle.edge_traits.specs.declared.disk.Disk.{Ghosts}
use Rattle.flush_journal.specs.Batches.{records}
use Rattle.flush_journal.specs.Moments.{CrashLeaves}
use Rattle.flush_journal.specs.Records.{Record, put_all}
use Rattle.flush_journal.specs.Standing.{disk_of}
use Rattle.flush_journal.specs.Unchanged.{SameDisk}
use Rattle.flush_journal.specs.declared.journal.Journal.{Journal}
use Rattle.flush_journal.specs.declared.why.Why.{Why}
use Rattle.flush_journal.proofs.Moments.{joined, no_call, weaker}
use Rattle.flush_journal.proofs.Unchanged.{same_both, same_here}
use Rattle.http_wire.specs.Messages.{RequestMessage, closes, spelling}
use Rattle.flush_journal.specs.Keepings.Keepings.{HoldsOne, IsBacked, TellsOne, settled, owed}
use Rattle.flush_journal.specs.declared.keepings.keeping.Keeping.{Keeping}
use Rattle.rest_session.specs.Links.Links.{AreWritten, IsAnswer, IsFront, IsTranscript, Replays, spellings}
use Rattle.rest_session.specs.declared.links.end.LinkEnd.{LinkEnd}
use Rattle.object_ops.specs.Needs.{decided_at}
use Rattle.object_ops.specs.declared.ops.Request.{Request}
use Rattle.object_ops.specs.declared.refusals.Refusal.{Refusal}
use Rattle.rest_requests.specs.Requests.{request_of}
use Rattle.service_core.specs.Laws.{PlacesGoOn}
use Rattle.service_core.specs.Records.{WorldSays, WorldStillSays, as_kept}
use Rattle.service_core.specs.Steps.{World}
use Rattle.service_core.specs.Worlds.{State, seen}
use Rattle.service_core.specs.declared.answers.What.{What}
use Rattle.rest_session.specs.Sessions.{IsAnsweredBy, IsFinished, IsServed, Served, StandsStill, acknowledges, said_by}
use Rattle.service_core.specs.KeptWorlds.{KeepsWorld, TellsWorld, HoldsWorld}
use Rattle.rest_session.specs.Stood.{HoldsStood, IsBackedBy, IsBackedByStood, IsStretch, StoodSince}
use Rattle.rest_session.proofs.Following.{Advances, Among, Answered, Follows, all_map, all_stood, answered, follow, leaves_between, related}
use Rattle.rest_session.proofs.Following.{StoodSince as Since}

-- ---- how many are kept

module _ {D : Type 0} {met : Ghosts D} (next : PlacesGoOn) where
  -- the number that is kept doesn't fall, and stays within the places
  abbrev pub KeepsOn : Served met → Served met → Type 0
  KeepsOn s t = s.keeping.kept ≤ s.world.register.places → (s.keeping.kept ≤ t.keeping.kept) × (t.keeping.kept ≤ t.world.register.places)

  keeps_as : (s t : Served met) (mid : State) → t.world ≡ mid → t.keeping ≡ s.keeping → s.world.register.places ≤ mid.register.places → KeepsOn s t
  keeps_as s t mid world keeping later k = (
    omega (arith, ap (λ (l : Keeping D met). l.kept) keeping),
    omega (arith, k, later, ap (λ (l : Keeping D met). l.kept) keeping, ap (λ (u : State). u.register.places) world),
  )

  keeps_tried : (s t : Served met) (mid : State) (result : Result ℕ Why) → KeepsWorld s.keeping mid t.keeping t.world result → s.world.register.places ≤ mid.register.places → KeepsOn s t
  keeps_tried s t mid (Ok n) h later k = (omega (arith, k, later, h.kept, h.number, ap (λ (w : World). w.register.places) h.same), omega (arith, h.kept, h.number))
  keeps_tried s t mid (Err e) h later k = (omega (arith, h.refused), omega (arith, k, later, h.refused, ap (λ (w : World). w.register.places) h.same))

  keeps_finished : (s t : Served met) (mid : State) (path : List ℕ) (what : What) (close : Bool) (bytes : List ℕ) (b : Bool) → IsFinished b path what close s.keeping mid bytes t
      → s.world.register.places ≤ mid.register.places → KeepsOn s t
  keeps_finished s t mid path what close bytes false h later = keeps_as s t mid h.0 h.1 later
  keeps_finished s t mid path what close bytes true h later = keeps_tried s t mid h.0 h.1 later

  keeps_answered : (s t : Served met) (target : List ℕ) (r : Result (Caller × Request) Refusal) (close : Bool) (bytes : List ℕ) → IsAnsweredBy s target r close bytes t → KeepsOn s t
  keeps_answered s t target (Err refusal) close bytes h = keeps_as s t s.world h.1.world h.1.keeping (omega arith)
  keeps_answered s t target (Ok read) close bytes h =
      let place : h.mid.register.places ≡ s.world.register.places + 1 = next (seen s.world) (seen h.mid) read.0 read.1 h.answer h.steps in
      keeps_finished s t h.mid (decided_at read.1) h.answer.what close bytes (acknowledges read.1.op h.answer.what) h.finished (omega (arith, place))

  pub keeps_on : (s t : Served met) (m : RequestMessage) (bytes : List ℕ) → IsAnswer IsServed s m bytes t → KeepsOn s t
  keeps_on s t m bytes (inl (tokens, inl h)) = keeps_answered s t m.head.target (request_of s.tokens (said_by m)) (closes m) bytes h
  keeps_on s t m bytes (inl (tokens, inr h)) = keeps_as s t s.world h.1.world h.1.keeping (omega arith)
  keeps_on s t m bytes (inr h) = keeps_as s t s.world (ap (λ (x : Served met). x.world) h.1) (ap (λ (x : Served met). x.keeping) h.1) (omega arith)

  keeps_all : (s : Served met) (ms : List RequestMessage) (bytes : List ℕ) (t : Served met) → Replays IsServed s ms bytes t → KeepsOn s t
  keeps_all = related IsServed KeepsOn (λ s k. (omega arith, k))
      (λ s t u first then_ k. let a = first k in let b = then_ a.1 in (omega (arith, a.0, b.0), b.1)) keeps_on

  pub never_less : (s t : Served met) (taken sent : List ℕ) (u v : Served met) → IsStretch s t taken sent u v → s.keeping.kept ≤ s.world.register.places → u.keeping.kept ≤ v.keeping.kept
  never_less s t taken sent u v is k = (keeps_all u is.between is.answers v is.passes (keeps_all s is.before is.first_answers u is.reaches k).1).0

-- ---- what a state shows

module _ {D : Type 0} {met : Ghosts D} where
  abbrev pub kept_of : Served met → ℕ
  kept_of s = s.keeping.kept

  abbrev pub places_of : Served met → ℕ
  places_of s = s.world.register.places

  abbrev pub shown : Served met → World
  shown s = as_kept s.world

  -- each world is one of those of before
  pub of_before : (s t : Served met) (xs vs : List World) → t.keeping.kept ≡ s.keeping.kept → ((w : World) → Among w xs → Among w vs)
      → AllByRecursion (λ w. (Among w vs × (kept_of t ≡ kept_of s)) ⊎ (w ≡ shown t)) xs
  of_before s t [] vs same f = tt
  of_before s t (x ∷ xs) vs same f = (inl (f x (inl refl), same), of_before s t xs vs same (λ w h. f w (inr h)))

  -- what stood after some first of these messages stood
  pub stood_in : (backed : Served met → List World → Type 0) (s t : Served met) (taken sent : List ℕ) (ms : List RequestMessage) (bytes : List ℕ) (least : ℕ) (w : World)
      → IsFront (spellings ms) taken → AreWritten bytes sent → Since IsServed backed shown kept_of places_of s ms bytes t least w → StoodSince s t taken sent least w
  stood_in backed s t taken sent ms bytes least w read written h = record {
    at = h.u;
    before = h.before;
    after = h.after;
    read = subst (λ (ms : List RequestMessage). IsFront (spellings ms) taken) h.split read;
    answers = h.answers;
    later_answers = h.later_answers;
    written = subst (λ (xs : List ℕ). AreWritten xs sent) h.said written;
    reaches = h.reaches;
    follows = h.follows;
    shown = h.shown;
    late = h.late;
  }

  -- the world behind all messages stood
  pub stands_now : (s t : Served met) (taken sent : List ℕ) → Answered IsServed s t taken sent → (kept : ℕ) → kept ≤ t.world.register.places → StoodSince s t taken sent kept (as_kept t.world)
  stands_now s t taken sent a kept le = record {
    at = t;
    before = a.messages;
    after = [];
    read = subst (λ (ms : List RequestMessage). IsFront (spellings ms) taken) (sym (append-nil a.messages)) a.read;
    answers = a.answers;
    later_answers = [];
    written = subst (λ (xs : List ℕ). AreWritten xs sent) (sym (append-nil a.answers)) a.written;
    reaches = a.replays;
    follows = (refl, refl);
    shown = refl;
    late = le;
  }

-- ---- what a crash leaves

-- a file holds a world of which something holds
abbrev pub HoldsSome : (World → Type 0) → List ℕ → Type 0
HoldsSome P file = (w : World) × HoldsWorld w file × P w

pub holds_among : (P : World → Type 0) (ws : List World) (file : List ℕ) → HoldsOne TellsWorld ws file → ((w : World) → Among w ws → P w) → HoldsSome P file
holds_among P ws file (m, e, told) f = at ws told f where
  at : (xs : List World) → TellsOne TellsWorld xs m → ((w : World) → Among w xs → P w) → HoldsSome P file
  at [] told f = absurd told
  at (x ∷ xs) (inl here) f = (x, (m, e, here), f x (inl refl))
  at (x ∷ xs) (inr later) f = at xs later (λ w there. f w (inr there))

spellings_both : (front back : List RequestMessage) → spellings (front ++ back) ≡ spellings front ++ spellings back
spellings_both [] back = refl
spellings_both (m ∷ front) back = ap (λ xs. spelling m ++ xs) (spellings_both front back) ∙ sym (append_assoc (spelling m) (spellings front) (spellings back))

-- what is read in front of more
read_to : (front back after : List RequestMessage) (taken : List ℕ) → IsFront (spellings (front ++ back ++ after)) taken → IsFront (spellings (front ++ back)) taken
read_to front back after taken (others, e) = (
  spellings after ++ others,
  e ∙ ap (λ xs. xs ++ others) (spellings_both (front ++ back) after) ∙ append_assoc (spellings (front ++ back)) (spellings after) others,
)

-- of two lists that go on to the same one, one stands in front of the other
one_in_front : (xs more ys others : List ℕ) → xs ++ more ≡ ys ++ others → IsFront xs ys ⊎ IsFront ys xs
one_in_front [] more ys others e = inl (ys, refl)
one_in_front (x ∷ xs) more [] others e = inr (x ∷ xs, refl)
one_in_front (x ∷ xs) more (y ∷ ys) others e =
    let head : x ≡ y = ap (λ l. get_or l 0 0) e in
    let tail : xs ++ more ≡ ys ++ others = ap (λ l. drop 1 l) e in
    ⊎_elim (λ f. inl (f.0, ap (λ l. y ∷ l) f.1 ∙ ap (λ n. n ∷ (xs ++ f.0)) (sym head))) (λ f. inr (f.0, ap (λ l. x ∷ l) f.1 ∙ ap (λ n. n ∷ (ys ++ f.0)) head)) (one_in_front xs more ys others tail)

-- what is written in front of more
written_to : (front back after sent : List ℕ) → AreWritten (front ++ back ++ after) sent → AreWritten (front ++ back) sent
written_to front back after sent (inl (others, e)) = inl (after ++ others, e ∙ append_assoc (front ++ back) after others)
written_to front back after sent (inr (others, e)) = one_in_front (front ++ back) after sent others e

module _ {D : Type 0} {met : Ghosts D} where
  -- what is kept is what it was, where what is held still tells the world
  pub still_backed : (k : Keeping D met) (u v : State) (ws : List World) → WorldStillSays u v → IsBacked TellsWorld k.journal (records k.building) (WorldSays u) ws
      → IsBacked TellsWorld k.journal (records k.building) (WorldSays v) ws
  still_backed k u v ws says (settled c s t w) = settled c s t (says (put_all (records k.building) c.held) w)
  still_backed k u v ws says (owed c rs o t p w) = owed c rs o t p (says (put_all (records k.building) (put_all rs c.held)) w)

module _ {D : Type 0} {met : Ghosts D} (honest : met.honest) (next : PlacesGoOn) (only_now : (disk : D) (c : List ℕ) → met.honest → met.left_since disk (met.moment disk) c → met.images disk c)
    (holds : (j : Journal D met) (building : List Record) (u : State) (ws : List World) → IsBacked TellsWorld j building (WorldSays u) ws → (image : List ℕ) → met.images (disk_of j) image
    → HoldsOne TellsWorld ws image) where
  -- whatever a crash leaves since one state, up to another, holds a world of which something holds
  abbrev pub LeftHolding : Served met → Served met → (World → Type 0) → Type 0
  LeftHolding s t P = CrashLeaves met (disk_of s.keeping.journal) (disk_of t.keeping.journal) (HoldsSome P)

  pub record Goes (s t : Served met) (ws : List World) : Type 0 where
    pub advances : Advances IsServed IsBackedBy shown kept_of places_of s t ws
    pub crash : LeftHolding s t (λ w. Among w (shown t ∷ ws))

  quiet : (s : Served met) (ws vs : List World) → IsBackedBy s ws → ((w : World) → Among w ws → Among w vs) → LeftHolding s s (λ w. Among w vs)
  quiet s ws vs b f = no_call met (disk_of s.keeping.journal) (HoldsSome (λ w. Among w vs))
      (λ c left. holds_among (λ w. Among w vs) ws c (holds s.keeping.journal (records s.keeping.building) s.world ws b c (only_now (disk_of s.keeping.journal) c honest left)) f)

  kept_crash : (s t : Served met) (ws : List World) → CrashLeaves met (disk_of s.keeping.journal) (disk_of t.keeping.journal) (HoldsOne TellsWorld (as_kept t.world ∷ ws)) → LeftHolding s t (λ w. Among w (shown t ∷ ws))
  kept_crash s t ws l = weaker met (disk_of s.keeping.journal) (disk_of t.keeping.journal) (HoldsOne TellsWorld (as_kept t.world ∷ ws)) (HoldsSome (λ w. Among w (shown t ∷ ws)))
      (λ c one. holds_among (λ w. Among w (shown t ∷ ws)) (shown t ∷ ws) c one (λ w there. there)) l

  -- the world has another state, and its keeping is as it was
  on : (s t : Served met) (mid : State) (ws : List World) → t.world ≡ mid → t.keeping ≡ s.keeping → WorldStillSays s.world mid → IsBackedBy s ws → Goes s t ws
  on s t mid ws world keeping says b = record {
    advances = record {
      left = ws;
      is_backed = subst (λ (l : Keeping D met). IsBacked TellsWorld l.journal (records l.building) (WorldSays t.world) ws) (sym keeping)
          (subst (λ (u : State). IsBacked TellsWorld s.keeping.journal (records s.keeping.building) (WorldSays u) ws) (sym world) (still_backed s.keeping s.world mid ws says b));
      each = of_before s t ws ws (ap (λ (l : Keeping D met). l.kept) keeping) (λ w h. h);
    };
    crash = subst (λ (l : Keeping D met). CrashLeaves met (disk_of s.keeping.journal) (disk_of l.journal) (HoldsSome (λ w. Among w (shown t ∷ ws)))) (sym keeping)
        (quiet s ws (shown t ∷ ws) b (λ w there. inr there));
  }

  stands : (s t : Served met) (ws : List World) → StandsStill s t → IsBackedBy s ws → Goes s t ws
  stands s t ws h b = on s t s.world ws h.world h.keeping (λ held said. said) b

  -- the world was kept, or was tried to be
  kept_on : (s t : Served met) (mid : State) (ws : List World) (result : Result ℕ Why) → KeepsWorld s.keeping mid t.keeping t.world result → WorldStillSays s.world mid → IsBackedBy s ws → Goes s t ws
  kept_on s t mid ws (Ok n) h says b = record {
    advances = record { left = as_kept t.world ∷ []; is_backed = h.keeps.backed honest ws (still_backed s.keeping s.world mid ws says b); each = (inr refl, tt) };
    crash = kept_crash s t ws (h.keeps.crash honest ws (still_backed s.keeping s.world mid ws says b));
  }
  kept_on s t mid ws (Err e) h says b = record {
    advances = record {
      left = as_kept t.world ∷ ws;
      is_backed = h.keeps.backed honest ws (still_backed s.keeping s.world mid ws says b);
      each = (inr refl, of_before s t ws ws h.refused (λ w a. a));
    };
    crash = kept_crash s t ws (h.keeps.crash honest ws (still_backed s.keeping s.world mid ws says b));
  }

  finished : (s t : Served met) (mid : State) (ws : List World) (path : List ℕ) (what : What) (close : Bool) (bytes : List ℕ) (b : Bool) → IsFinished b path what close s.keeping mid bytes t
      → WorldStillSays s.world mid → IsBackedBy s ws → Goes s t ws
  finished s t mid ws path what close bytes false h says b = on s t mid ws h.0 h.1 says b
  finished s t mid ws path what close bytes true h says b = kept_on s t mid ws h.0 h.1 says b

  stepped : (s t : Served met) (ws : List World) (target : List ℕ) (r : Result (Caller × Request) Refusal) (close : Bool) (bytes : List ℕ) → IsAnsweredBy s target r close bytes t
      → IsBackedBy s ws → Goes s t ws
  stepped s t ws target (Err refusal) close bytes h b = stands s t ws h.1 b
  stepped s t ws target (Ok read) close bytes h b =
      finished s t h.mid ws (decided_at read.1) h.answer.what close bytes (acknowledges read.1.op h.answer.what) h.finished h.says b

  goes : (s : Served met) (m : RequestMessage) (bytes : List ℕ) (t : Served met) (ws : List World) → IsAnswer IsServed s m bytes t → IsBackedBy s ws → Goes s t ws
  goes s m bytes t ws (inl (tokens, inl h)) b = stepped s t ws m.head.target (request_of s.tokens (said_by m)) (closes m) bytes h b
  goes s m bytes t ws (inl (tokens, inr h)) b = stands s t ws h.1 b
  goes s m bytes t ws (inr h) b = stands s t ws (record { world = ap (λ (x : Served met). x.world) h.1; keeping = ap (λ (x : Served met). x.keeping) h.1 }) b

  advance : (s : Served met) (m : RequestMessage) (bytes : List ℕ) (t : Served met) (ws : List World) → IsAnswer IsServed s m bytes t → IsBackedBy s ws
      → Advances IsServed IsBackedBy shown kept_of places_of s t ws
  advance s m bytes t ws is b = (goes s m bytes t ws is b).advances

  pub what_stood : (s t : Served met) (taken sent : List ℕ) (left : Option (List ℕ)) (end : LinkEnd) → IsTranscript IsServed s taken sent left t end
      → IsBackedBy s (as_kept s.world ∷ []) → s.keeping.kept ≤ s.world.register.places → IsBackedByStood s t taken sent
  what_stood s t taken sent left end transcript b k = record {
    worlds = f.left;
    backed = f.is_backed;
    each = all_map (Since IsServed IsBackedBy shown kept_of places_of s a.messages a.answers t t.keeping.kept) (StoodSince s t taken sent t.keeping.kept) f.left
        (λ w h. stood_in IsBackedBy s t taken sent a.messages a.answers t.keeping.kept w a.read a.written h) (all_stood IsServed IsBackedBy shown kept_of places_of s a.messages a.answers t a.replays k f);
    within = f.within;
    now = λ kept le. stands_now s t taken sent a kept le;
  } where
    a : Answered IsServed s t taken sent
    a = answered IsServed s taken sent left t end transcript

    f : Follows IsServed IsBackedBy shown kept_of places_of s a.messages a.answers t (as_kept s.world ∷ [])
    f = follow IsServed IsBackedBy shown kept_of places_of advance (keeps_on next) s a.messages a.answers t (as_kept s.world ∷ []) a.replays b k

  -- at each moment of a stretch
  pub what_is_left : (s t : Served met) (taken sent : List ℕ) (u v : Served met) → IsStretch s t taken sent u v → IsBackedBy s (as_kept s.world ∷ []) → s.keeping.kept ≤ s.world.register.places
      → CrashLeaves met (disk_of u.keeping.journal) (disk_of v.keeping.journal) (HoldsStood s v taken sent u.keeping.kept)
  what_is_left s t taken sent u v is b k =
      wider u v (Since IsServed IsBackedBy shown kept_of places_of s (is.before ++ is.between) (is.first_answers ++ is.answers) v u.keeping.kept) (StoodSince s v taken sent u.keeping.kept)
      (λ w h. stood_in IsBackedBy s v taken sent (is.before ++ is.between) (is.first_answers ++ is.answers) u.keeping.kept w (read_to is.before is.between is.after taken is.read)
      (written_to is.first_answers is.answers is.later_answers sent is.written) h)
      (leaves_between IsServed IsBackedBy shown kept_of places_of advance (keeps_on next) LeftHolding (λ x ws backed. quiet x ws ws backed (λ w there. there))
      (λ x y z P. joined met (disk_of x.keeping.journal) (disk_of y.keeping.journal) (disk_of z.keeping.journal) (HoldsSome P)) wider
      (λ x m bytes y ws answer backed. (goes x m bytes y ws answer backed).crash) s u v is.before is.between is.first_answers is.answers is.reaches is.passes b k) where
        wider : (x y : Served met) (P Q : World → Type 0) → ((w : World) → P w → Q w) → LeftHolding x y P → LeftHolding x y Q
        wider x y P Q f l = weaker met (disk_of x.keeping.journal) (disk_of y.keeping.journal) (HoldsSome P) (HoldsSome Q) (λ c h. (h.0, h.1, f h.0 h.2)) l

-- ---- the whole link, and its disk

module _ {D : Type 0} {met : Ghosts D} where
  abbrev pub On : Served met → Served met → Type 0
  On s t = SameDisk met (disk_of s.keeping.journal) (disk_of t.keeping.journal)

  same_keeping : (s t : Served met) → t.keeping ≡ s.keeping → On s t
  same_keeping s t same = subst (λ (k : Keeping D met). SameDisk met (disk_of s.keeping.journal) (disk_of k.journal)) (sym same) (same_here met (disk_of s.keeping.journal))

  on_finished : (s t : Served met) (mid : State) (path : List ℕ) (what : What) (close : Bool) (bytes : List ℕ) (b : Bool) → IsFinished b path what close s.keeping mid bytes t → On s t
  on_finished s t mid path what close bytes false h = same_keeping s t h.1
  on_finished s t mid path what close bytes true h = h.1.keeps.disk

  on_answered : (s t : Served met) (target : List ℕ) (r : Result (Caller × Request) Refusal) (close : Bool) (bytes : List ℕ) → IsAnsweredBy s target r close bytes t → On s t
  on_answered s t target (Err refusal) close bytes h = same_keeping s t h.1.keeping
  on_answered s t target (Ok read) close bytes h = on_finished s t h.mid (decided_at read.1) h.answer.what close bytes (acknowledges read.1.op h.answer.what) h.finished

  on_served : (s t : Served met) (m : RequestMessage) (bytes : List ℕ) → IsAnswer IsServed s m bytes t → On s t
  on_served s t m bytes (inl (tokens, inl h)) = on_answered s t m.head.target (request_of s.tokens (said_by m)) (closes m) bytes h
  on_served s t m bytes (inl (tokens, inr h)) = same_keeping s t h.1.keeping
  on_served s t m bytes (inr h) = same_keeping s t (ap (λ (x : Served met). x.keeping) h.1)

  pub whole_stretch : (s t : Served met) (taken sent : List ℕ) (left : Option (List ℕ)) (end : LinkEnd) → IsTranscript IsServed s taken sent left t end → IsStretch s t taken sent s t
  whole_stretch s t taken sent left end transcript =
      let a = answered IsServed s taken sent left t end transcript in
      record {
        before = [];
        between = a.messages;
        after = [];
        read = subst (λ (ms : List RequestMessage). IsFront (spellings ms) taken) (sym (append-nil a.messages)) a.read;
        first_answers = [];
        answers = a.answers;
        later_answers = [];
        written = subst (λ (xs : List ℕ). AreWritten xs sent) (sym (append-nil a.answers)) a.written;
        reaches = (refl, refl);
        passes = a.replays;
        follows = (refl, refl);
      }

  pub same_disk : (s t : Served met) (taken sent : List ℕ) (left : Option (List ℕ)) (end : LinkEnd) → IsTranscript IsServed s taken sent left t end → On s t
  same_disk s t taken sent left end transcript =
      let a = answered IsServed s taken sent left t end transcript in
      related IsServed On (λ x. same_here met (disk_of x.keeping.journal))
      (λ x y z. same_both met (disk_of x.keeping.journal) (disk_of y.keeping.journal) (disk_of z.keeping.journal)) on_served s a.messages a.answers t a.replays
