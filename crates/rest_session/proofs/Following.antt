-- What a crash leaves follows the worlds that stood since the last keeping.
use Rattle.std.proofs.Common.{◌≡◌, ◌⊎◌, inl, inr, ⊎_elim, ℕ, ◌≤◌, List, [], ◌∷◌, ◌++◌, Option, refl, sym, ap, subst, ◌∙◌, append_assoc, append-nil, arith}
use Rattle.std.specs.List.{AllByRecursion}
use Rattle.http_wire.specs.Messages.{RequestMessage, spelling}
use Rattle.rest_session.specs.Links.Links.{AreWritten, IsAnswer, IsEnd, IsFront, IsLastAnswer, IsTranscript, Replays, Step, spellings}
use Rattle.rest_session.specs.declared.links.end.LinkEnd.{LinkEnd}
use Rattle.rest_session.specs.declared.links.end.LinkEnd.TheVariants.{Closed, Cut, Ended, ReadFault, WriteFault, Budget, NoMemory}
use Rattle.rest_session.proofs.OfLinks.Progress.{replays_joined, spellings_more}

abbrev pub Among : {W : Type 0} → W → List W → Type 0
Among w [] = ⊥
Among w (x ∷ xs) = (w ≡ x) ⊎ Among w xs

pub all_map : {W : Type 0} (P Q : W → Type 0) (ws : List W) → ((w : W) → P w → Q w) → AllByRecursion P ws → AllByRecursion Q ws
all_map P Q [] f h = tt
all_map P Q (w ∷ ws) f h = (f w h.0, all_map P Q ws f h.1)

-- what holds of some worlds, of one among them
pub of_among : {W : Type 0} (P : W → Type 0) (ws : List W) (w : W) → Among w ws → AllByRecursion P ws → P w
of_among P [] w there all = absurd there
of_among P (x ∷ xs) w (inl same) all = subst P (sym same) all.0
of_among P (x ∷ xs) w (inr later) all = of_among P xs w later all.1

module _ {T W : Type 0} (step : Step T) (backed : T → List W → Type 0) (show : T → W) (kept places : T → ℕ) where
  -- what one answer makes of the worlds that a crash may leave
  pub record Advances (s t : T) (ws : List W) : Type 0 where
    pub left : List W
    pub is_backed : backed t left
    pub each : AllByRecursion (λ w. (Among w ws × (kept t ≡ kept s)) ⊎ (w ≡ show t)) left

  -- a world that stood after some first messages, once at least `least` requests were decided
  pub record StoodSince (s : T) (ms : List RequestMessage) (bytes : List ℕ) (t : T) (least : ℕ) (w : W) : Type 0 where
    pub before : List RequestMessage
    pub after : List RequestMessage
    pub split : ms ≡ before ++ after
    pub u : T
    pub answers : List ℕ
    pub later_answers : List ℕ
    pub said : bytes ≡ answers ++ later_answers
    pub reaches : Replays step s before answers u
    pub follows : Replays step u after later_answers t
    pub shown : w ≡ show u
    pub late : least ≤ places u

  pub record Follows (s : T) (ms : List RequestMessage) (bytes : List ℕ) (t : T) (ws : List W) : Type 0 where
    pub left : List W
    pub is_backed : backed t left
    pub within : kept t ≤ places t
    pub each : AllByRecursion (λ w. (Among w ws × (kept t ≡ kept s)) ⊎ StoodSince s ms bytes t (kept t) w) left

  -- where a crash could leave one world at first
  pub all_stood : (s : T) (ms : List RequestMessage) (bytes : List ℕ) (t : T) → Replays step s ms bytes t → kept s ≤ places s → (f : Follows s ms bytes t (show s ∷ []))
      → AllByRecursion (StoodSince s ms bytes t (kept t)) f.left
  all_stood s ms bytes t r k f = all_map (λ w. (Among w (show s ∷ []) × (kept t ≡ kept s)) ⊎ StoodSince s ms bytes t (kept t) w) (StoodSince s ms bytes t (kept t)) f.left at f.each where
    at : (w : W) → (Among w (show s ∷ []) × (kept t ≡ kept s)) ⊎ StoodSince s ms bytes t (kept t) w → StoodSince s ms bytes t (kept t) w
    at w (inl (inl same, e)) = record {
      before = [];
      after = ms;
      split = refl;
      u = s;
      answers = [];
      later_answers = bytes;
      said = refl;
      reaches = (refl, refl);
      follows = r;
      shown = same;
      late = omega (arith, k, e);
    }
    at w (inl (inr none, e)) = absurd none
    at w (inr h) = h

  -- what stood before some more messages
  further : (s t v : T) (ms more : List RequestMessage) (first bytes : List ℕ) (least : ℕ) (w : W) → Replays step t more bytes v → StoodSince s ms first t least w
      → StoodSince s (ms ++ more) (first ++ bytes) v least w
  further s t v ms more first bytes least w r h = record {
    before = h.before;
    after = h.after ++ more;
    split = ap (λ xs. xs ++ more) h.split ∙ append_assoc h.before h.after more;
    u = h.u;
    answers = h.answers;
    later_answers = h.later_answers ++ bytes;
    said = ap (λ xs. xs ++ bytes) h.said ∙ append_assoc h.answers h.later_answers bytes;
    reaches = h.reaches;
    follows = replays_joined step h.u t v h.after more h.later_answers bytes h.follows r;
    shown = h.shown;
    late = h.late;
  }

  module _ (advance : (s : T) (m : RequestMessage) (bytes : List ℕ) (t : T) (ws : List W) → IsAnswer step s m bytes t → backed s ws → Advances s t ws)
      (onward : (s t : T) (m : RequestMessage) (bytes : List ℕ) → IsAnswer step s m bytes t → kept s ≤ places s → (kept s ≤ kept t) × (kept t ≤ places t)) where
    one_before : (s : T) (m : RequestMessage) (first others bytes : List ℕ) (mid : T) (ms : List RequestMessage) (t : T) (least : ℕ) (w : W) → bytes ≡ first ++ others → IsAnswer step s m first mid
        → StoodSince mid ms others t least w → StoodSince s (m ∷ ms) bytes t least w
    one_before s m first others bytes mid ms t least w e is h = record {
      before = m ∷ h.before;
      after = h.after;
      split = ap (λ xs. m ∷ xs) h.split;
      u = h.u;
      answers = first ++ h.answers;
      later_answers = h.later_answers;
      said = e ∙ ap (λ xs. first ++ xs) h.said ∙ sym (append_assoc first h.answers h.later_answers);
      reaches = (first, h.answers, mid, refl, is, h.reaches);
      follows = h.follows;
      shown = h.shown;
      late = h.late;
    }

    module _ (s : T) (m : RequestMessage) (ms : List RequestMessage) (bytes : List ℕ) (t : T) (ws : List W) (r : Replays step s (m ∷ ms) bytes t) (within : kept r.2 ≤ places r.2)
        (a : Advances s r.2 ws) (f : Follows r.2 ms r.1 t a.left) where
      here : (w : W) → w ≡ show r.2 → kept t ≡ kept r.2 → StoodSince s (m ∷ ms) bytes t (kept t) w
      here w same e = record {
        before = m ∷ [];
        after = ms;
        split = refl;
        u = r.2;
        answers = r.0;
        later_answers = r.1;
        said = r.3;
        reaches = (r.0, [], r.2, sym (append-nil r.0), r.4, (refl, refl));
        follows = r.5;
        shown = same;
        late = subst (λ n. n ≤ places r.2) (sym e) within;
      }

      at : (w : W) → (Among w a.left × (kept t ≡ kept r.2)) ⊎ StoodSince r.2 ms r.1 t (kept t) w → (Among w ws × (kept t ≡ kept s)) ⊎ StoodSince s (m ∷ ms) bytes t (kept t) w
      at w (inr stood) = inr (one_before s m r.0 r.1 bytes r.2 ms t (kept t) w r.3 r.4 stood)
      at w (inl there) = ⊎_elim (λ old. inl (old.0, there.1 ∙ old.1)) (λ now. inr (here w now there.1))
          (of_among (λ v. (Among v ws × (kept r.2 ≡ kept s)) ⊎ (v ≡ show r.2)) a.left w there.0 a.each)

      one_then : Follows s (m ∷ ms) bytes t ws
      one_then = record {
        left = f.left;
        is_backed = f.is_backed;
        within = f.within;
        each = all_map (λ w. (Among w a.left × (kept t ≡ kept r.2)) ⊎ StoodSince r.2 ms r.1 t (kept t) w) (λ w. (Among w ws × (kept t ≡ kept s)) ⊎ StoodSince s (m ∷ ms) bytes t (kept t) w) f.left at f.each;
      }

    themselves : (s t : T) (ms : List RequestMessage) (bytes : List ℕ) (xs vs : List W) → ((w : W) → Among w xs → Among w vs)
        → AllByRecursion (λ w. (Among w vs × (kept s ≡ kept s)) ⊎ StoodSince s ms bytes t (kept s) w) xs
    themselves s t ms bytes [] vs f = tt
    themselves s t ms bytes (x ∷ xs) vs f = (inl (f x (inl refl), refl), themselves s t ms bytes xs vs (λ w h. f w (inr h)))

    pub follow : (s : T) (ms : List RequestMessage) (bytes : List ℕ) (t : T) (ws : List W) → Replays step s ms bytes t → backed s ws → kept s ≤ places s → Follows s ms bytes t ws
    follow s [] bytes t ws r b k = subst (λ x. Follows s [] bytes x ws) (sym r.1) (record { left = ws; is_backed = b; within = k; each = themselves s s [] bytes ws ws (λ w h. h) })
    follow s (m ∷ ms) bytes t ws r b k =
        let a = advance s m r.0 r.2 ws r.4 b in
        let n = onward s r.2 m r.0 r.4 k in
        one_then s m ms bytes t ws r n.1 a (follow r.2 ms r.1 t a.left r.5 a.is_backed n.1)

    -- what is left by a crash since one state, up to another, holds a world of which something holds
    module _ (leaves : T → T → (W → Type 0) → Type 0) (no_call : (s : T) (ws : List W) → backed s ws → leaves s s (λ w. Among w ws))
        (joined : (s t u : T) (P : W → Type 0) → leaves s t P → leaves t u P → leaves s u P)
        (weaker : (s t : T) (P Q : W → Type 0) → ((w : W) → P w → Q w) → leaves s t P → leaves s t Q)
        (during : (s : T) (m : RequestMessage) (bytes : List ℕ) (t : T) (ws : List W) → IsAnswer step s m bytes t → backed s ws → leaves s t (λ w. Among w (show t ∷ ws))) where
      module _ (s v : T) (whole : List RequestMessage) (said : List ℕ) (least : ℕ) where
        leaves_on : (x : T) (front : List RequestMessage) (answers : List ℕ) (ms : List RequestMessage) (bytes : List ℕ) (ws : List W) → whole ≡ front ++ ms → said ≡ answers ++ bytes → Replays step s front answers x
            → Replays step x ms bytes v → backed x ws → kept x ≤ places x → least ≤ kept x → AllByRecursion (StoodSince s whole said v least) ws → leaves x v (StoodSince s whole said v least)
        leaves_on x front answers [] bytes ws split parts reaches r b within le all =
            subst (λ y. leaves x y (StoodSince s whole said v least)) (sym r.1)
            (weaker x x (λ w. Among w ws) (StoodSince s whole said v least) (λ w there. of_among (StoodSince s whole said v least) ws w there all) (no_call x ws b))
        leaves_on x front answers (m ∷ ms) bytes ws split parts reaches r b within le all =
            let a = advance x m r.0 r.2 ws r.4 b in
            let n = onward x r.2 m r.0 r.4 within in
            let parted : whole ≡ (front ++ m ∷ []) ++ ms = split ∙ sym (append_assoc front (m ∷ []) ms) in
            let told : said ≡ (answers ++ r.0) ++ r.1 = parts ∙ ap (λ xs. answers ++ xs) r.3 ∙ sym (append_assoc answers r.0 r.1) in
            let reached : Replays step s (front ++ m ∷ []) (answers ++ r.0) r.2 = replays_joined step s x r.2 front (m ∷ []) answers r.0 reaches (r.0, [], r.2, sym (append-nil r.0), r.4, (refl, refl)) in
            let now : StoodSince s whole said v least (show r.2) = record {
              before = front ++ m ∷ [];
              after = ms;
              split = parted;
              u = r.2;
              answers = answers ++ r.0;
              later_answers = r.1;
              said = told;
              reaches = reached;
              follows = r.5;
              shown = refl;
              late = omega (arith, le, n.0, n.1);
            } in
            joined x r.2 v (StoodSince s whole said v least)
            (weaker x r.2 (λ w. Among w (show r.2 ∷ ws)) (StoodSince s whole said v least) (λ w there. of_among (StoodSince s whole said v least) (show r.2 ∷ ws) w there (now, all)) (during x m r.0 r.2 ws r.4 b))
            (leaves_on r.2 (front ++ m ∷ []) (answers ++ r.0) ms r.1 a.left parted told reached r.5 a.is_backed n.1 (omega (arith, le, n.0))
            (all_map (λ w. (Among w ws × (kept r.2 ≡ kept x)) ⊎ (w ≡ show r.2)) (StoodSince s whole said v least) a.left
            (λ w is. ⊎_elim (λ old. of_among (StoodSince s whole said v least) ws w old.0 all) (λ same. subst (StoodSince s whole said v least) (sym same) now) is) a.each))

      -- between two states of a replay
      pub leaves_between : (s u v : T) (before between : List RequestMessage) (first answers : List ℕ) → Replays step s before first u → Replays step u between answers v
          → backed s (show s ∷ []) → kept s ≤ places s → leaves u v (StoodSince s (before ++ between) (first ++ answers) v (kept u))
      leaves_between s u v before between first answers reaches passes b k =
          let f = follow s before first u (show s ∷ []) reaches b k in
          leaves_on s v (before ++ between) (first ++ answers) (kept u) u before first between answers f.left refl refl reaches passes f.is_backed f.within (omega arith)
          (all_map (StoodSince s before first u (kept u)) (StoodSince s (before ++ between) (first ++ answers) v (kept u)) f.left (λ w. further s u v before between first answers (kept u) w passes)
          (all_stood s before first u reaches k f))

-- ---- the messages of a transcript

-- a replay of some messages, whose bytes stand in front, and whose answers are the bytes that were written
pub record Answered {T : Type 0} (step : Step T) (s t : T) (taken sent : List ℕ) : Type 0 where
  pub messages : List RequestMessage
  pub read : IsFront (spellings messages) taken
  pub answers : List ℕ
  pub written : AreWritten answers sent
  pub replays : Replays step s messages answers t

module _ {T : Type 0} (step : Step T) (s : T) (taken whole : List ℕ) (ms : List RequestMessage) (answers : List ℕ) (mid : T) (tail : List ℕ) (replays : Replays step s ms answers mid)
    (bytes : taken ≡ spellings ms ++ tail) where
  no_more : (sent : List ℕ) (t : T) → whole ≡ answers ++ sent → t ≡ mid → Answered step s t taken whole
  no_more sent t written same = record {
    messages = ms;
    read = (tail, bytes);
    answers = answers;
    written = inl (sent, written);
    replays = subst (λ x. Replays step s ms answers x) (sym same) replays;
  }

  one_more : (t : T) (answer : List ℕ) → AreWritten (answers ++ answer) whole → IsLastAnswer step mid tail answer t → Answered step s t taken whole
  one_more t answer written a = record {
    messages = ms ++ a.message ∷ [];
    read = (a.ahead, bytes ∙ ap (λ xs. spellings ms ++ xs) a.bytes ∙ sym (append_assoc (spellings ms) (spelling a.message) a.ahead) ∙ ap (λ xs. xs ++ a.ahead) (sym (spellings_more ms a.message)));
    answers = answers ++ answer;
    written = written;
    replays = replays_joined step s mid t ms (a.message ∷ []) answers answer replays (answer, [], t, sym (append-nil answer), a.is_answer, (refl, refl));
  }

  -- the last answer was written whole, or as far as a write failed
  written_whole : (answer : List ℕ) → whole ≡ answers ++ answer → AreWritten (answers ++ answer) whole
  written_whole answer written = inl ([], written ∙ sym (append-nil (answers ++ answer)))

  written_partly : (sent answer : List ℕ) → whole ≡ answers ++ sent → IsFront sent answer → AreWritten (answers ++ answer) whole
  written_partly sent answer written (others, e) =
      inr (others, ap (λ xs. answers ++ xs) e ∙ sym (append_assoc answers sent others) ∙ ap (λ xs. xs ++ others) (sym written))

  answered_by : (sent : List ℕ) (left : Option (List ℕ)) (t : T) (end : LinkEnd) → whole ≡ answers ++ sent → IsEnd step mid tail sent left t end → Answered step s t taken whole
  answered_by sent left t Closed written (inl h) = no_more sent t written h.3
  answered_by sent left t Closed written (inr h) = one_more t sent (written_whole sent written) h.0
  answered_by sent left t (Cut unread) written h = no_more sent t written h.6
  answered_by sent left t (Ended fault) written h = no_more sent t written h.3
  answered_by sent left t ReadFault written h = no_more sent t written h.3
  answered_by sent left t WriteFault written (inl h) = one_more t h.0 (written_partly sent h.0 written h.2) h.1
  answered_by sent left t WriteFault written (inr h) = no_more sent t written h.4
  answered_by sent left t Budget written h = no_more sent t written h.2
  answered_by sent left t NoMemory written h = no_more sent t written h.2

pub answered : {T : Type 0} (step : Step T) (s : T) (taken sent : List ℕ) (left : Option (List ℕ)) (t : T) (end : LinkEnd) → IsTranscript step s taken sent left t end → Answered step s t taken sent
answered step s taken sent left t end tr = answered_by step s taken sent tr.messages tr.answers tr.mid tr.tail tr.replays tr.bytes tr.last left t end tr.written tr.ends

-- what each answer keeps, all do
pub related : {T : Type 0} (step : Step T) (R : T → T → Type 0) → ((t : T) → R t t) → ((s t u : T) → R s t → R t u → R s u)
    → ((s t : T) (m : RequestMessage) (bytes : List ℕ) → IsAnswer step s m bytes t → R s t) → (s : T) (ms : List RequestMessage) (bytes : List ℕ) (t : T) → Replays step s ms bytes t → R s t
related step R here then_ each s [] bytes t r = subst (λ x. R s x) (sym r.1) (here s)
related step R here then_ each s (m ∷ ms) bytes t r = then_ s r.2 t (each s r.2 m r.0 r.4) (related step R here then_ each r.2 ms r.1 t r.5)
