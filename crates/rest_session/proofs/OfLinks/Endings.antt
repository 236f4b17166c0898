-- The same bytes end a link alike, in whatever pieces they come.
use Rattle.std.proofs.Common.{◌≡◌, ◌⊎◌, inl, inr, ℕ, ◌<◌, List, [], ◌++◌, length, length-append, drop, Some, Err, refl, sym, ap, ◌∙◌, subst, append_assoc, append-nil, arith}
use Rattle.std.proofs.Math.Seq.{drop-append_seam}
use Rattle.httparse.specs.Grammar.{RequestHead, ReadsRequest}
use Rattle.httparse.proofs.GrammarLemmas.{request_unique, ReadsRequest-append}
use Rattle.http_wire.specs.Heads.{IsSmall}
use Rattle.http_wire.specs.Messages.{spelling, HasNoMessage, HasNoBadSize, HasBadSize, StopsInside, IsRefusedFor, body_size}
use Rattle.http_wire.specs.declared.message_fault.MessageFault.{MessageFault}
use Rattle.http_wire.specs.declared.message_fault.MessageFault.TheVariants.{BadHead, HeadTooLong, BadLength, BodyTooLong, TransferCoding}
use Rattle.http_wire.proofs.MessageLemmas.{message_unique}
use Rattle.rest_session.specs.declared.links.end.LinkEnd.{LinkEnd}
use Rattle.rest_session.specs.declared.links.end.LinkEnd.TheVariants.{Closed, Cut, Ended, ReadFault, WriteFault, Budget, NoMemory}
use Rattle.rest_session.specs.Links.Links.{Step, AreAlike, IsCounted, IsEnd, IsHeadFault, IsOfBytes, IsTranscript, IsUndecided, closing_message, spellings}
use Rattle.rest_session.proofs.OfLinks.Readings.{none_empty, refused_first, same_messages, some_refused}

-- ---- a link that closed

module _ {W : Type 0} (step : Step W) (w v : W) (tail sent left : List ℕ) where
  closed_uncut : (bytes : List ℕ) → IsEnd step w tail sent (Some left) v Closed → bytes ≡ tail ++ left → 0 < length bytes → HasNoMessage bytes → ⊥
  closed_uncut bytes (inl s) e some none =
      let l = ap length e in let a = ap length s.0 in let b = ap length s.2 in let k = length-append tail left in omega (arith, l, a, b, k, some)
  closed_uncut bytes (inr s) e some none =
      none s.0.message (s.0.ahead ++ left) s.0.spelled (e ∙ ap (λ l. l ++ left) s.0.bytes ∙ append_assoc (spelling s.0.message) s.0.ahead left)

  closed_unrefused : (rest behind : List ℕ) (fault : MessageFault) → IsEnd step w tail sent (Some left) v Closed → rest ++ behind ≡ tail ++ left
      → IsRefusedFor rest fault → ⊥
  closed_unrefused rest behind fault (inl s) e refused =
      let some = some_refused rest fault refused in
      let l = ap length e in let a = ap length s.0 in let b = ap length s.2 in let k = length-append tail left in let n = length-append rest behind in
      omega (arith, some, l, a, b, k, n)
  closed_unrefused rest behind fault (inr s) e refused =
      refused_first s.0.message (s.0.ahead ++ left) rest behind fault s.0.spelled
      (e ∙ ap (λ l. l ++ left) s.0.bytes ∙ append_assoc (spelling s.0.message) s.0.ahead left) refused

-- ---- refused bytes

-- a head that no small one can be, or one that says a bad size
heads_fault : (rest : List ℕ) (fault : MessageFault) → IsRefusedFor rest fault
    → (IsHeadFault fault × ((more : List ℕ) (h : RequestHead) (others : List ℕ) → ReadsRequest (rest ++ more) h others → IsSmall h → ⊥)) ⊎ HasBadSize rest fault
heads_fault rest BadHead w = inl (tt, λ more h others reads small. w.1 more h others reads)
heads_fault rest HeadTooLong w = inl (tt, w.1)
heads_fault rest BadLength w = inr w
heads_fault rest BodyTooLong w = inr w
heads_fault rest TransferCoding w = inr w

bad_size_on : (rest more : List ℕ) (fault : MessageFault) → HasBadSize rest fault → HasBadSize (rest ++ more) fault
bad_size_on rest more fault w = (w.0, w.1 ++ more, ReadsRequest-append rest w.0 w.1 more w.2, w.3, w.4)

same_size : (bytes : List ℕ) (fault other : MessageFault) → HasBadSize bytes fault → HasBadSize bytes other → fault ≡ other
same_size bytes fault other a b =
    let heads = (request_unique bytes a.0 b.0 a.1 b.1 a.2 b.2).0 in
    let two : Err fault ≡ Err other = sym a.4 ∙ ap body_size heads ∙ b.4 in
    cc

-- two readings that refuse agree, but for which of the two faults of a head they tell
refused_alike : (a x b y : List ℕ) (fault other : MessageFault) → a ++ x ≡ b ++ y → IsRefusedFor a fault → IsRefusedFor b other
    → (fault ≡ other) ⊎ (IsHeadFault fault × IsHeadFault other)
refused_alike a x b y fault other e p q =
    elim (heads_fault a fault p) [
      | inl first ↦ elim (heads_fault b other q) [
        | inl second ↦ inr (first.0, second.0)
        | inr bad ↦
            let here = bad_size_on b y other bad in
            absurd (first.1 x here.0 here.1 (subst (λ l. ReadsRequest l here.0 here.1) (sym e) here.2) here.3)
      ]
      | inr bad ↦ elim (heads_fault b other q) [
        | inl second ↦
            let here = bad_size_on a x fault bad in
            absurd (second.1 y here.0 here.1 (subst (λ l. ReadsRequest l here.0 here.1) e here.2) here.3)
        | inr worse ↦ inl (same_size (b ++ y) fault other (subst (λ l. HasBadSize l fault) e (bad_size_on a x fault bad)) (bad_size_on b y other worse))
      ]
    ]

-- a reading that takes the bytes for cut short, and one that refuses some first of them
cut_or_refused : (cut rest behind : List ℕ) (fault : MessageFault) → HasNoBadSize cut → StopsInside cut → rest ++ behind ≡ cut → IsRefusedFor rest fault
    → IsHeadFault fault × IsUndecided cut
cut_or_refused cut rest behind BadHead sized (inl (none, few, inl goes_on)) e w =
    absurd (w.1 (behind ++ goes_on.0) goes_on.1 []
    (subst (λ l. ReadsRequest l goes_on.1 []) (sym (ap (λ l. l ++ goes_on.0) e) ∙ append_assoc rest behind goes_on.0) goes_on.2))
cut_or_refused cut rest behind BadHead sized (inl (none, few, inr target)) e w = (tt, inl target)
cut_or_refused cut rest behind BadHead sized (inr body) e w =
    absurd (w.1 behind body.0 body.1 (subst (λ l. ReadsRequest l body.0 body.1) (sym e) body.3))
cut_or_refused cut rest behind HeadTooLong sized (inl head) e w =
    elim w.2 [
      | inl full ↦
          let most = full.full in let few = head.1 in let l = ap length e in let n = length-append rest behind in
          absurd (omega (arith, most, few, l, n))
      | inr over ↦
          (tt, inr (over.0, over.1 ++ behind, sym e ∙ ap (λ l. l ++ behind) over.2 ∙ append_assoc over.0 over.1 behind, over.3, over.4, over.5))
    ]
cut_or_refused cut rest behind HeadTooLong sized (inr body) e w =
    absurd (w.1 behind body.0 body.1 (subst (λ l. ReadsRequest l body.0 body.1) (sym e) body.3) body.4)
cut_or_refused cut rest behind BadLength sized stops e w = absurd (sized BadLength (subst (λ l. HasBadSize l BadLength) e (bad_size_on rest behind BadLength w)))
cut_or_refused cut rest behind BodyTooLong sized stops e w =
    absurd (sized BodyTooLong (subst (λ l. HasBadSize l BodyTooLong) e (bad_size_on rest behind BodyTooLong w)))
cut_or_refused cut rest behind TransferCoding sized stops e w =
    absurd (sized TransferCoding (subst (λ l. HasBadSize l TransferCoding) e (bad_size_on rest behind TransferCoding w)))

-- ---- two ends

-- at the end of the input nothing is left
all_came : (tail left : List ℕ) → left ≡ [] → tail ++ left ≡ tail
all_came tail left none = ap (λ l. tail ++ l) none ∙ append-nil tail

module _ {W : Type 0} (step : Step W) (t u v w : W) (tail sent left others written remaining : List ℕ) (n : ℕ) (e : tail ++ left ≡ others ++ remaining) where
  alike : (end other : LinkEnd) → IsEnd step t tail sent (Some left) u end → IsEnd step v others written (Some remaining) w other
      → IsCounted n end → IsCounted n other → IsOfBytes end → IsOfBytes other → AreAlike (tail ++ left) end other
  alike Closed Closed a b p q calm quiet = tt
  alike Closed (Cut k) a b p q calm quiet =
      closed_uncut step t u tail sent left others a (sym (all_came others remaining b.4) ∙ sym e) (let s = b.3 in let l = b.2 in omega (arith, s, l)) b.0
  alike Closed (Ended other) a b p q calm quiet = closed_unrefused step t u tail sent left others remaining other a (sym e) b.0
  alike Closed Budget a b p q calm quiet = omega (arith, p, q)
  alike (Cut k) Closed a b p q calm quiet =
      closed_uncut step v w others written remaining tail b (sym (all_came tail left a.4) ∙ e) (let s = a.3 in let l = a.2 in omega (arith, s, l)) a.0
  alike (Cut k) (Cut m) a b p q calm quiet =
      let x = ap length (sym (all_came tail left a.4) ∙ e ∙ all_came others remaining b.4) in let y = a.2 in let z = b.2 in omega (arith, x, y, z)
  alike (Cut k) (Ended other) a b p q calm quiet =
      let whole = all_came tail left a.4 in
      let found = cut_or_refused tail others remaining other a.1 a.7 (sym e ∙ whole) b.0 in
      (found.0, subst (λ l. IsUndecided l) (sym whole) found.1)
  alike (Cut k) Budget a b p q calm quiet = omega (arith, p, q)
  alike (Ended fault) Closed a b p q calm quiet = closed_unrefused step v w others written remaining tail left fault b e a.0
  alike (Ended fault) (Cut k) a b p q calm quiet =
      let whole = all_came others remaining b.4 in
      let found = cut_or_refused others tail left fault b.1 b.7 (e ∙ whole) a.0 in
      (found.0, subst (λ l. IsUndecided l) (sym (e ∙ whole)) found.1)
  alike (Ended fault) (Ended other) a b p q calm quiet = refused_alike tail left others remaining fault other e a.0 b.0
  alike (Ended fault) Budget a b p q calm quiet = omega (arith, p, q)
  alike Budget Closed a b p q calm quiet = omega (arith, p, q)
  alike Budget (Cut k) a b p q calm quiet = omega (arith, p, q)
  alike Budget (Ended other) a b p q calm quiet = omega (arith, p, q)
  alike Budget Budget a b p q calm quiet = tt
  alike ReadFault other a b p q calm quiet = absurd calm
  alike WriteFault other a b p q calm quiet = absurd calm
  alike NoMemory other a b p q calm quiet = absurd calm
  alike Closed ReadFault a b p q calm quiet = absurd quiet
  alike Closed WriteFault a b p q calm quiet = absurd quiet
  alike Closed NoMemory a b p q calm quiet = absurd quiet
  alike (Cut k) ReadFault a b p q calm quiet = absurd quiet
  alike (Cut k) WriteFault a b p q calm quiet = absurd quiet
  alike (Cut k) NoMemory a b p q calm quiet = absurd quiet
  alike (Ended fault) ReadFault a b p q calm quiet = absurd quiet
  alike (Ended fault) WriteFault a b p q calm quiet = absurd quiet
  alike (Ended fault) NoMemory a b p q calm quiet = absurd quiet
  alike Budget ReadFault a b p q calm quiet = absurd quiet
  alike Budget WriteFault a b p q calm quiet = absurd quiet
  alike Budget NoMemory a b p q calm quiet = absurd quiet

  closing_same : (a : IsEnd step t tail sent (Some left) u Closed) (b : IsEnd step v others written (Some remaining) w Closed)
      → closing_message step t tail sent (Some left) u a ≡ closing_message step v others written (Some remaining) w b
  closing_same (inl a) (inl b) = refl
  closing_same (inl a) (inr b) =
      absurd (none_empty b.0.message (b.0.ahead ++ remaining)
      (sym (ap (λ l. l ++ left) a.0 ∙ a.2) ∙ e ∙ ap (λ l. l ++ remaining) b.0.bytes ∙ append_assoc (spelling b.0.message) b.0.ahead remaining))
  closing_same (inr a) (inl b) =
      absurd (none_empty a.0.message (a.0.ahead ++ left)
      (sym (ap (λ l. l ++ remaining) b.0 ∙ b.2) ∙ sym e ∙ ap (λ l. l ++ left) a.0.bytes ∙ append_assoc (spelling a.0.message) a.0.ahead left))
  closing_same (inr a) (inr b) =
      ap Some (message_unique a.0.message b.0.message (a.0.ahead ++ left) (b.0.ahead ++ remaining) a.0.spelled b.0.spelled
      (sym (ap (λ l. l ++ left) a.0.bytes ∙ append_assoc (spelling a.0.message) a.0.ahead left) ∙ e
      ∙ ap (λ l. l ++ remaining) b.0.bytes ∙ append_assoc (spelling b.0.message) b.0.ahead remaining)).0

-- what stands behind the same messages is the same
same_behind : (a b x y : List ℕ) → a ++ x ≡ b ++ y → a ≡ b → x ≡ y
same_behind a b x y e same =
    sym (drop-append_seam a x) ∙ ap (drop (length a)) e ∙ ap (λ l. drop (length l) (b ++ y)) same ∙ drop-append_seam b y

module _ {W : Type 0} (step : Step W) (u v w x : W) (taken sent left others written remaining : List ℕ) where
  behind_messages : (end other : LinkEnd) (t : IsTranscript step u taken sent (Some left) v end) (s : IsTranscript step w others written (Some remaining) x other)
      → taken ++ left ≡ others ++ remaining → t.messages ≡ s.messages → t.tail ++ left ≡ s.tail ++ remaining
  behind_messages end other t s e same =
      same_behind (spellings t.messages) (spellings s.messages) (t.tail ++ left) (s.tail ++ remaining)
      (sym (append_assoc (spellings t.messages) t.tail left) ∙ sym (ap (λ l. l ++ left) t.bytes) ∙ e
      ∙ ap (λ l. l ++ remaining) s.bytes ∙ append_assoc (spellings s.messages) s.tail remaining) (ap spellings same)

  pub ends_alike : (end other : LinkEnd) (t : IsTranscript step u taken sent (Some left) v end) (s : IsTranscript step w others written (Some remaining) x other)
      → taken ++ left ≡ others ++ remaining → IsOfBytes end → IsOfBytes other → AreAlike (t.tail ++ left) end other
  ends_alike end other t s e calm quiet =
      let same = same_messages step u v w x taken sent left others written remaining end other t s e calm quiet in
      alike step t.mid v s.mid x t.tail t.last left s.tail s.last remaining (length t.messages) (behind_messages end other t s e same) end other t.ends s.ends
      t.counted (subst (λ (n : ℕ). IsCounted n other) (sym (ap length same)) s.counted) calm quiet

  pub same_closing : (t : IsTranscript step u taken sent (Some left) v Closed) (s : IsTranscript step w others written (Some remaining) x Closed)
      → taken ++ left ≡ others ++ remaining
      → closing_message step t.mid t.tail t.last (Some left) v t.ends ≡ closing_message step s.mid s.tail s.last (Some remaining) x s.ends
  same_closing t s e =
      let same = same_messages step u v w x taken sent left others written remaining Closed Closed t s e tt tt in
      closing_same step t.mid v s.mid x t.tail t.last left s.tail s.last remaining 0 (behind_messages Closed Closed t s e same) t.ends s.ends
