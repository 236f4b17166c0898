-- A disk in memory: what its record of calls gives, after one call more.
use Rattle.std.proofs.Common.{◌≡◌, inl, inr, ⊎_elim, ℕ, suc, zero, ◌+◌, ◌-◌, ◌≤◌, ◌<◌, max, Bool, true, false, List, [], ◌∷◌, ◌++◌, length, take, drop, replicate, Vec, Global, Result, Ok, Err, IfOk, refl, sym, ◌∙◌, ap, subst, arith, append_assoc, length-append, length-drop}
use Rattle.std.specs.Prelude.{◌&&◌, ◌⊎◌, nat_le}
use Rattle.std.specs.Cmp.{second_so}
use Rattle.std.proofs.lemmas.Bool.Decides.{nat_tests}
use Rattle.std.proofs.lemmas.List.{take_at, take_all, drop_all, length-take, length-take-le, length-replicate, append-nil, drop-drop, take-append-le, drop-append-le}
use Rattle.std.proofs.Math.Seq.{drop-append-add}
use Rattle.edge_traits.specs.Disks.{Written, overwritten, Torn, Follows, After, LeavesAll, Elapses, ElapsesBy}
use Rattle.edge_traits.specs.MemDisks.{Write, Memory, begun, written, synced, TornBy, IsImage, lengthened, torn_write, torn_writes}
use Rattle.edge_traits.specs.DiskCalls.{step, after, writes_of, all_done, holding, LeftSince, writes_fit, size_after, Unsynced}
use Rattle.edge_traits.specs.declared.mem_disk.Call.{Call}
use Rattle.edge_traits.specs.declared.mem_disk.Call.TheVariants.{Wrote, Synced}

after-push : (m : Memory) (calls : List Call) (c : Call) → after m (calls ++ c ∷ []) ≡ step (after m calls) c
after-push m [] c = refl
after-push m (d ∷ calls) c = after-push (step m d) calls c

writes_of-push : (calls : List Call) (at : ℕ) (copy : Vec ℕ Global) → writes_of (calls ++ Wrote at copy ∷ []) ≡ writes_of calls ++ record { at = at; bytes = copy.items } ∷ []
writes_of-push [] at copy = refl
writes_of-push (Wrote a b ∷ calls) at copy = ap (λ (l : List Write). record { at = a; bytes = b.items } ∷ l) (writes_of-push calls at copy)
writes_of-push (Synced ∷ calls) at copy = writes_of-push calls at copy

order : (k n : ℕ) → (k ≤ n) ⊎ (n < k)
order zero n = inl (omega arith)
order (suc k) zero = inr (omega arith)
order (suc k) (suc n) = ⊎_elim (λ (h : k ≤ n). inl (omega arith)) (λ (h : n < k). inr (omega arith)) (order k n)

-- nothing need be torn
torn_none : (at n : ℕ) (bytes : List ℕ) → Torn at n bytes bytes
torn_none at n bytes = record { before = refl; after = refl; no_shorter = omega arith; no_longer = omega arith }

-- one write more, torn
torn_push : (writes : List Write) (w : Write) (old mid new : List ℕ) → TornBy writes old mid → Torn w.at (length w.bytes) mid new → TornBy (writes ++ w ∷ []) old new
torn_push [] w old mid new is torn = (new, subst (λ (l : List ℕ). Torn w.at (length w.bytes) l new) is torn, refl)
torn_push (v ∷ writes) w old mid new torn last = (torn.0, torn.1, torn_push writes w torn.0 mid new torn.2 last)

-- .. and the image before that one
torn_pop : (writes : List Write) (w : Write) (old new : List ℕ) → TornBy (writes ++ w ∷ []) old new → (mid : List ℕ) × TornBy writes old mid × Torn w.at (length w.bytes) mid new
torn_pop [] w old new torn = (old, refl, subst (Torn w.at (length w.bytes) old) (sym torn.2) torn.1)
torn_pop (v ∷ writes) w old new torn = let last = torn_pop writes w torn.0 new torn.2 in (last.0, (torn.0, torn.1, last.1), last.2)

all_done-push : (writes : List Write) (w : Write) (old : List ℕ) → all_done (writes ++ w ∷ []) old ≡ overwritten w.at w.bytes (all_done writes old)
all_done-push [] w old = refl
all_done-push (v ∷ writes) w old = all_done-push writes w (overwritten v.at v.bytes old)

-- a write that was put into the record
module _ (old new bytes base : List ℕ) (calls later : List Call) (at synced_at : ℕ) (copy : Vec ℕ Global) (is : later ≡ calls ++ Wrote at copy ∷ []) (copied : copy.items ≡ bytes)
    (place : synced_at ≤ length calls) (done : Written at bytes old new) where
  split : writes_of (drop synced_at later) ≡ writes_of (drop synced_at calls) ++ record { at = at; bytes = bytes } ∷ []
  split = ap (λ (l : List Call). writes_of (drop synced_at l)) is ∙ ap writes_of (drop-append-le synced_at calls (Wrote at copy ∷ []) place)
      ∙ writes_of-push (drop synced_at calls) at copy ∙ ap (λ (l : List ℕ). writes_of (drop synced_at calls) ++ record { at = at; bytes = l } ∷ []) copied

  pub holding_written : holding new base (drop synced_at later) ≡ written (record { at = at; bytes = bytes }) (holding old base (drop synced_at calls))
  holding_written i = record { reads = done i; base = base; unsynced = split i }

  pub replays_written : (first : List ℕ) → after (begun first) calls ≡ holding old base (drop synced_at calls) → after (begun first) later ≡ holding new base (drop synced_at later)
  replays_written first r = ap (after (begun first)) is ∙ after-push (begun first) calls (Wrote at copy) ∙ ap (λ (m : Memory). step m (Wrote at copy)) r
      ∙ ap (λ (l : List ℕ). written (record { at = at; bytes = l }) (holding old base (drop synced_at calls))) copied ∙ sym holding_written

  pub done_written : all_done (writes_of (drop synced_at calls)) base ≡ old → all_done (writes_of (drop synced_at later)) base ≡ new
  done_written was = ap (λ (l : List Write). all_done l base) split ∙ all_done-push (writes_of (drop synced_at calls)) (record { at = at; bytes = bytes }) base
      ∙ ap (overwritten at bytes) was ∙ sym done

-- what a crash may leave after a write
module _ (m now : Memory) (w : Write) (is : now ≡ written w m) where
  pub images_torn : LeavesAll (After (Torn w.at (length w.bytes)) (IsImage m)) (IsImage now)
  images_torn c from = subst (λ (n : Memory). IsImage n c) (sym is) (torn_push m.unsynced w m.base from.0 c from.1 from.2)

  pub images_stay : LeavesAll (IsImage m) (IsImage now)
  images_stay c image = images_torn c (c, image, torn_none w.at (length w.bytes) c)

  pub images_follow : Follows (Torn w.at (length w.bytes)) (IsImage m) (IsImage now)
  images_follow c image = torn_pop m.unsynced w m.base c (subst (λ (n : Memory). IsImage n c) is image)

-- a sync that was put into the record
module _ (bytes base' : List ℕ) (later : List Call) (synced_at : ℕ) (all : length later ≤ synced_at) (copied : base' ≡ bytes) where
  none : writes_of (drop synced_at later) ≡ []
  none = ap writes_of (drop_all synced_at later all)

  pub holding_synced : holding bytes base' (drop synced_at later) ≡ begun bytes
  holding_synced i = record { reads = bytes; base = copied i; unsynced = none i }

  pub replays_synced : (first : List ℕ) (calls : List Call) (m : Memory) → later ≡ calls ++ Synced ∷ [] → after (begun first) calls ≡ m → m.reads ≡ bytes
      → after (begun first) later ≡ holding bytes base' (drop synced_at later)
  replays_synced first calls m is r reads = ap (after (begun first)) is ∙ after-push (begun first) calls Synced ∙ ap (λ (n : Memory). begun n.reads) r ∙ ap begun reads ∙ sym holding_synced

  pub done_synced : all_done (writes_of (drop synced_at later)) base' ≡ bytes
  done_synced = ap (λ (l : List Write). all_done l base') none ∙ copied

-- a call was put into the record: time goes on
module _ (first : List ℕ) (calls later : List Call) (call : Call) (now : Memory) (is : later ≡ calls ++ call ∷ []) (replayed : after (begun first) later ≡ now) where
  size : length later ≡ length calls + 1
  size = ap length is ∙ length-append calls (call ∷ [])

  front : (k : ℕ) → k ≤ length calls → take k later ≡ take k calls
  front k le = ap (take k) is ∙ take-append-le k calls (call ∷ []) le

  pub elapses_push : Elapses (length calls) (length later) (LeftSince first calls) (LeftSince first later) (IsImage now)
  elapses_push = record {
    later = omega (arith, size);
    nothing_else = λ t c le left.
        ⊎_elim
        (λ (small : left.0 ≤ length calls). inl (left.0, left.1, small, subst (λ (l : List Call). IsImage (after (begun first) l) c) (front left.0 small) left.3))
        (λ (big : length calls < left.0). inr (subst (λ (m : Memory). IsImage m c) (ap (after (begun first)) (take_all left.0 later (omega (arith, size, big))) ∙ replayed) left.3))
        (order left.0 (length calls));
    keeps = λ t c le left. (left.0, left.1, omega (arith, left.2, size), subst (λ (l : List Call). IsImage (after (begun first) l) c) (sym (front left.0 left.2)) left.3);
  }

  pub elapses_written : (m : Memory) (w : Write) → now ≡ written w m
      → ElapsesBy (Torn w.at (length w.bytes)) (length calls) (length later) (LeftSince first calls) (LeftSince first later) (IsImage m)
  elapses_written m w made = record {
    later = elapses_push.later;
    nothing_else = λ t c le left. ⊎_elim (λ was. inl was) (λ is_now. inr (images_follow m now w made c is_now)) (elapses_push.nothing_else t c le left);
    keeps = elapses_push.keeps;
  }

writes_fit-push : (size : ℕ) (calls : List Call) (at : ℕ) (copy : Vec ℕ Global) → writes_fit size calls ≡ true → at ≤ size_after size calls → writes_fit size (calls ++ Wrote at copy ∷ []) ≡ true
writes_fit-push size [] at copy fit le = grind (arith, nat_tests)
writes_fit-push size (Wrote a b ∷ calls) at copy fit le = both (nat_le a size) (writes_fit (max size (a + length b.items)) calls) fit (λ f. writes_fit-push (max size (a + length b.items)) calls at copy f le)
  where
    both : {q : Bool} (p r : Bool) → (p && r) ≡ true → (r ≡ true → q ≡ true) → (p && q) ≡ true
    both true true e f = f refl
    both true false e f = absurd (cc)
    both false r e f = absurd (cc)
writes_fit-push size (Synced ∷ calls) at copy fit le = absurd (cc)

size_after-push : (size : ℕ) (calls : List Call) (at : ℕ) (copy : Vec ℕ Global) → size_after size (calls ++ Wrote at copy ∷ []) ≡ max (size_after size calls) (at + length copy.items)
size_after-push size [] at copy = refl
size_after-push size (Wrote a b ∷ calls) at copy = size_after-push (max size (a + length b.items)) calls at copy
size_after-push size (Synced ∷ calls) at copy = size_after-push size calls at copy

pub unsynced_push : (base_size size size' synced at : ℕ) (copy : Vec ℕ Global) (calls later : List Call) → later ≡ calls ++ Wrote at copy ∷ [] → synced ≤ length calls → at ≤ size → size' ≡ max size (at + length copy.items)
    → Unsynced base_size size (drop synced calls) → Unsynced base_size size' (drop synced later)
unsynced_push base_size size size' synced at copy calls later is place inside grown u =
    let split : drop synced later ≡ drop synced calls ++ Wrote at copy ∷ [] = ap (drop synced) is ∙ drop-append-le synced calls (Wrote at copy ∷ []) place in
    record {
      fit = ap (writes_fit base_size) split ∙ writes_fit-push base_size (drop synced calls) at copy u.fit (omega (arith, inside, u.reach));
      reach = ap (size_after base_size) split ∙ size_after-push base_size (drop synced calls) at copy ∙ omega (arith, u.reach, grown);
    }

pub unsynced_none : (base bytes : List ℕ) (synced : ℕ) (calls : List Call) → length calls ≤ synced → base ≡ bytes → Unsynced (length base) (length bytes) (drop synced calls)
unsynced_none base bytes synced calls all is =
    let none : drop synced calls ≡ [] = drop_all synced calls all in
    record { fit = ap (writes_fit (length base)) none; reach = ap (size_after (length base)) none ∙ ap length is }

pub size_after_le : (size : ℕ) (calls : List Call) → size ≤ size_after size calls
size_after_le size [] = omega arith
size_after_le size (Wrote a b ∷ calls) = omega (arith, size_after_le (max size (a + length b.items)) calls)
size_after_le size (Synced ∷ calls) = size_after_le size calls

lengthened_length : (end : ℕ) (old : List ℕ) → length (lengthened end old) ≡ max (length old) end
lengthened_length end old = length-append old (replicate (end - length old) 0) ∙ omega (arith, length-replicate {A = ℕ} (end - length old) 0)

lengthened_past : (end : ℕ) (old : List ℕ) → drop end (lengthened end old) ≡ drop end old
lengthened_past end old = ⊎_elim
    (λ (short : end ≤ length old). drop-append-le end old (replicate (end - length old) 0) short
    ∙ ap (λ (k : ℕ). drop end old ++ replicate k 0) (let none : end - length old ≡ 0 = omega (arith, short) in none) ∙ append-nil (drop end old))
    (λ (long : length old < end). drop_all end (lengthened end old) (omega (arith, long, lengthened_length end old)) ∙ sym (drop_all end old (omega (arith, long))))
    (order end (length old))

torn_length : (n : ℕ) (w : Write) (old : List ℕ) → w.at ≤ length old → length (torn_write n w old) ≡ max (length old) (w.at + length w.bytes)
torn_length n w old inside =
    let kept = take n w.bytes in
    let rest = drop (w.at + length kept) (lengthened (w.at + length w.bytes) old) in
    length-append (take w.at old ++ kept) rest
    ∙ omega (arith, length-append (take w.at old) kept, length-take-le w.at old inside, length-take n w.bytes, length-drop (w.at + length kept) (lengthened (w.at + length w.bytes) old), lengthened_length (w.at + length w.bytes) old)

-- a write whose first bytes stand is one that was torn
write_torn : (n : ℕ) (w : Write) (old : List ℕ) → w.at ≤ length old → Torn w.at (length w.bytes) old (torn_write n w old)
write_torn n w old inside =
    let end = w.at + length w.bytes in
    let kept = take n w.bytes in
    let from = w.at + length kept in
    let rest = drop from (lengthened end old) in
    let front : length (take w.at old ++ kept) ≡ from = length-append (take w.at old) kept ∙ omega (arith, length-take-le w.at old inside) in
    record {
      before = ap (take w.at) (append_assoc (take w.at old) kept rest) ∙ take_at (take w.at old) (kept ++ rest) w.at (length-take-le w.at old inside);
      after = ap (λ (k : ℕ). drop k (torn_write n w old)) (let e : end ≡ from + (end - from) = omega (arith, length-take n w.bytes) in e)
          ∙ ap (λ (k : ℕ). drop (k + (end - from)) (torn_write n w old)) (sym front) ∙ drop-append-add (take w.at old ++ kept) rest (end - from)
          ∙ drop-drop (end - from) from (lengthened end old)
          ∙ ap (λ (k : ℕ). drop k (lengthened end old)) (let e : from + (end - from) ≡ end = omega (arith, length-take n w.bytes) in e) ∙ lengthened_past end old;
      no_shorter = omega (arith, torn_length n w old inside);
      no_longer = omega (arith, torn_length n w old inside);
    }

-- writes whose first bytes stand are writes that were torn
pub writes_torn : (n size : ℕ) (calls : List Call) (old : List ℕ) → length old ≡ size → writes_fit size calls ≡ true → TornBy (writes_of calls) old (torn_writes n (writes_of calls) old)
writes_torn n size [] old is fit = refl
writes_torn n size (Wrote a b ∷ calls) old is fit =
    let w : Write = record { at = a; bytes = b.items } in
    let inside : a ≤ length old = grind (arith, nat_tests, fit, is) in (
      torn_write n w old,
      write_torn n w old inside,
      writes_torn (n - length b.items) (max size (a + length b.items)) calls (torn_write n w old)
          (torn_length n w old inside ∙ ap (λ (k : ℕ). max k (a + length b.items)) is)
          (second_so (nat_le a size) (writes_fit (max size (a + length b.items)) calls) fit),
    )
writes_torn n size (Synced ∷ calls) old is fit = absurd (cc)

-- a fact on bytes holds of the value that has them
pub if_ok_has : {T E : Type 0} (r : Result T E) (f : T → List ℕ) (x : List ℕ) (P : List ℕ → Type 0) → P x → IfOk r (λ d. f d ≡ x) → IfOk r (λ d. P (f d))
if_ok_has (Ok d) f x P p e = subst P (sym e) p
if_ok_has (Err _) f x P p e = tt
