-- How a keeping goes on.
use Rattle.std.proofs.Common.{◌≡◌, ◌≢◌, inl, inr, ℕ, ◌+◌, ◌<◌, List, [], ◌∷◌, Option, Some, None, Result, Ok, Err, OnOk, OnErr, IfErr, refl, sym, ap, subst, ◌∙◌, arith}
use Rattle.edge_traits.specs.declared.disk.Disk.{Ghosts}
use Rattle.edge_traits.proofs.CauseLemmas.{rose_since}
use Rattle.flush_journal.specs.Files.{Content, content}
use Rattle.flush_journal.specs.Frames.{need_of}
use Rattle.flush_journal.specs.Moments.{CrashLeaves}
use Rattle.flush_journal.specs.Records.{Held, Record, put_all}
use Rattle.flush_journal.specs.Standing.{HasEither, HoldsEither, IsOwed, IsSettled, disk_of, end_of, pending_of, with_batch}
use Rattle.flush_journal.specs.Tries.{Tries, Writes}
use Rattle.flush_journal.specs.Unchanged.{SameDisk}
use Rattle.flush_journal.specs.declared.journal.Journal.{Journal}
use Rattle.flush_journal.specs.declared.why.Why.{Why}
use Rattle.flush_journal.specs.declared.why.Why.TheVariants.{DiskFault, NotAJournal, JournalFull, Exists, NoMemory}
use Rattle.flush_journal.proofs.ContentLemmas.{held-content}
use Rattle.flush_journal.proofs.JournalLemmas.{either_held, with_batch-held}
use Rattle.flush_journal.proofs.Moments.{joined, no_call, weaker}
use Rattle.flush_journal.proofs.Unchanged.{same_both, same_here}
use Rattle.flush_journal.specs.Keepings.Keepings.{HoldsOne, IsBacked, settled, owed, Keeps, MayRefuseKeeping, TellsOne, worlds_after}

-- ---- outcomes

pub on_ok : {A E : Type 0} (r : Result A E) (P : Type 0) (x : A) → r ≡ Ok x → OnOk r P → P
on_ok (Ok a) P x is p = p
on_ok (Err e) P x is p = absurd (cc)

pub on_err : {A E : Type 0} (r : Result A E) (P : Type 0) (e : E) → r ≡ Err e → OnErr r P → P
on_err (Ok a) P e is p = absurd (cc)
on_err (Err f) P e is p = p

any_ok : {A E : Type 0} (r : Result A E) {P : Type 0} → P → OnOk r P
any_ok (Ok a) p = p
any_ok (Err e) p = tt

pub ok_not_err : {A E : Type 0} (r : Result A E) (x : A) (e : E) (P : Type 0) → r ≡ Ok x → r ≡ Err e → P
ok_not_err {A} {E} r x e P good bad = absurd (let both : ◌≡◌ {A = Result A E} (Ok x) (Err e) = sym good ∙ bad in cc)

err_same : {A E : Type 0} (e f : E) → ◌≡◌ {A = Result A E} (Err e) (Err f) → e ≡ f
err_same e f is = cc

some_same : {A : Type 0} (x y : A) → ◌≡◌ {A = Option A} (Some x) (Some y) → x ≡ y
some_same x y is = cc

pub none_some : {A : Type 0} (o : Option A) (x : A) (P : Type 0) → o ≡ None → o ≡ Some x → P
none_some {A} o x P none some = absurd (let both : ◌≡◌ {A = Option A} None (Some x) = sym none ∙ some in cc)

-- ---- what a crash leaves

module _ {D W : Type 0} {met : Ghosts D} (tells : Held → W → Type 0) (j : Journal D met) (building : List Record) (says : Held → Type 0) (ws : List W) where
  pub each_image : IsBacked tells j building says ws → (image : List ℕ) → met.images (disk_of j) image → HoldsOne tells ws image
  each_image (settled c s t w) image left = (c.held, held-content image c (ap content (s.only image left) ∙ s.file), t)
  each_image (owed c rs o t u w) image left = either (either_held c rs image (o.each image left)) where
    either : HoldsEither c.held (put_all rs c.held) image → HoldsOne tells ws image
    either (inl h) = (c.held, h, t)
    either (inr h) = (put_all rs c.held, h, u)

  more_worlds : (w : W) → IsBacked tells j building says ws → IsBacked tells j building says (w ∷ ws)
  more_worlds w (settled c s t v) = settled c s (inr t) v
  more_worlds w (owed c rs o t u v) = owed c rs o (inr t) (inr u) v

  -- records were added to what is building
  recut : (built : List Record) (now : Held → Type 0) → ((m : Held) → says (put_all building m) → now (put_all built m)) → IsBacked tells j building says ws → IsBacked tells j built now ws
  recut built now cut (settled c s t w) = settled c s t (cut c.held w)
  recut built now cut (owed c rs o t u w) = owed c rs o t u (cut (put_all rs c.held) w)

  -- before any call
  still : ((c : List ℕ) → met.left_since (disk_of j) (met.moment (disk_of j)) c → met.images (disk_of j) c) → IsBacked tells j building says ws → CrashLeaves met (disk_of j) (disk_of j) (HoldsOne tells ws)
  still only_now backed = no_call met (disk_of j) (HoldsOne tells ws) (λ c left. each_image backed c (only_now c left))

-- ---- why a batch was refused

module _ {D : Type 0} {met : Ghosts D} (old new : Journal D met) (rs : List Record) (same : SameDisk met (disk_of old) (disk_of new)) where
  may_refuse : (e : Why) → Tries old new rs (Err e) → MayRefuseKeeping old new e
  may_refuse DiskFault t = t.cause
  may_refuse (JournalFull end need room) t = (rs, t.pending, t.cause.0 ∙ sym (ap (λ n. n.end) t.numbers), t.cause.1, t.cause.2 ∙ sym same.most, omega (arith, t.cause.0, t.cause.1, t.cause.2, t.cause.3))
  may_refuse NoMemory t = absurd t.cause
  may_refuse (NotAJournal at) t = absurd t.cause
  may_refuse Exists t = absurd t.cause

  is_full : (e : Why) → Tries old new rs (Err e) → (qs : List Record) → pending_of new ≡ Some qs → met.most (disk_of new) < end_of new + need_of qs
      → e ≡ JournalFull (end_of new) (need_of qs) (met.most (disk_of new))
  is_full e t qs pending full =
      err_same e (JournalFull (end_of new) (need_of qs) (met.most (disk_of new))) (subst (λ n. ◌≡◌ {A = Result (Unit {0}) Why} (Err e) (Err (JournalFull n (need_of qs) (met.most (disk_of new))))) (sym end)
      (subst (λ n. ◌≡◌ {A = Result (Unit {0}) Why} (Err e) (Err (JournalFull (end_of old) (need_of qs) n))) (sym same.most) (subst (λ xs. ◌≡◌ {A = Result (Unit {0}) Why} (Err e) (Err (JournalFull (end_of old) (need_of xs) (met.most (disk_of old))))) same_rs
      (t.refused (subst (λ xs. met.most (disk_of old) < end_of old + need_of xs) (sym same_rs) (omega (arith, full, end, same.most))))))) where
        end : end_of new ≡ end_of old
        end = ap (λ n. n.end) t.numbers

        same_rs : rs ≡ qs
        same_rs = some_same rs qs (sym t.pending ∙ pending)

-- ---- what is pending is written

module _ {D W : Type 0} {met : Ghosts D} (tells : Held → W → Type 0) (old new : Journal D met) (r : Result (Unit {0}) Why)
    (only_now : (disk : D) (c : List ℕ) → met.honest → met.left_since disk (met.moment disk) c → met.images disk c)
    (writes : met.honest → (c : Content) (rs : List Record) → IsOwed old c rs → Writes old new c rs r)
    (tries : (rs : List Record) → pending_of old ≡ Some rs → Tries old new rs r)
    (none : pending_of old ≡ None → r ≡ Ok tt)
    (untouched : pending_of old ≡ None → new ≡ old)
    (same : SameDisk met (disk_of old) (disk_of new)) where
  settles : (building : List Record) (says : Held → Type 0) (ws : List W) → r ≡ Ok tt → met.honest → IsBacked tells old building says ws → IsBacked tells new building says ws
  settles building says ws is honest (settled c s t w) = subst (λ (j : Journal D met). IsBacked tells j building says ws) (sym (untouched s.idle)) (settled c s t w)
  settles building says ws is honest (owed c rs o t u w) =
      settled (with_batch c rs) (on_ok r (IsSettled new (with_batch c rs)) tt is (writes honest c rs o).ok) (subst (TellsOne tells ws) (sym (with_batch-held c rs)) u)
      (subst (λ (m : Held). says (put_all building m)) (sym (with_batch-held c rs)) w)

  stays_owed : (building : List Record) (says : Held → Type 0) (ws : List W) (e : Why) → r ≡ Err e → met.honest → IsBacked tells old building says ws → IsBacked tells new building says ws
  stays_owed building says ws e is honest (settled c s t w) = ok_not_err r tt e (IsBacked tells new building says ws) (none s.idle) is
  stays_owed building says ws e is honest (owed c rs o t u w) = owed c rs (on_err r (IsOwed new c rs) e is (writes honest c rs o).err) t u w

  settling : (building : List Record) (says : Held → Type 0) (ws : List W) → met.honest → IsBacked tells old building says ws → CrashLeaves met (disk_of old) (disk_of new) (HoldsOne tells ws)
  settling building says ws honest (settled c s t w) = subst (λ (j : Journal D met). CrashLeaves met (disk_of old) (disk_of j) (HoldsOne tells ws)) (sym (untouched s.idle))
      (still tells old building says ws (λ c left. only_now (disk_of old) c honest left) (settled c s t w))
  settling building says ws honest (owed c rs o t u w) = weaker met (disk_of old) (disk_of new) (HasEither c (with_batch c rs)) (HoldsOne tells ws) (λ image has. either image (either_held c rs image has)) (writes honest c rs o).moments where
    either : (image : List ℕ) → HoldsEither c.held (put_all rs c.held) image → HoldsOne tells ws image
    either image (inl h) = (c.held, h, t)
    either image (inr h) = (put_all rs c.held, h, u)

  now_idle : r ≡ Ok tt → (p : Option (List Record)) → pending_of old ≡ p → pending_of new ≡ None
  now_idle is None e = ap pending_of (untouched e) ∙ e
  now_idle is (Some rs) e = on_ok r (pending_of new ≡ None) tt is (tries rs e).done

  was_pending : (e : Why) → r ≡ Err e → (p : Option (List Record)) → pending_of old ≡ p → (rs : List Record) × Tries old new rs (Err e)
  was_pending e is None n = ok_not_err r tt e ((rs : List Record) × Tries old new rs (Err e)) (none n) is
  was_pending e is (Some rs) n = (rs, subst (Tries old new rs) is (tries rs n))

  -- what is pending was refused again
  pub refused_again : {T : Type 0} (building : List Record) (says : Held → Type 0) (now : W) (e : Why) → r ≡ Err e → Keeps {T = T} tells old new building building says says now (Err e)
  refused_again building says now e is = let tried = was_pending e is (pending_of old) refl in record {
    backed = λ honest ws backed. more_worlds tells new building says ws now (stays_owed building says ws e is honest backed);
    crash = λ honest ws backed. settling building says (now ∷ ws) honest (more_worlds tells old building says ws now backed);
    idle = tt;
    disk = same;
    cause = may_refuse old new tried.0 same e tried.1;
    full = λ qs pending full. ap Err (is_full old new tried.0 same e tried.1 qs pending full);
  }

  -- it was written, and what changed is kept after it
  pub then_kept : {T : Type 0} (last : Journal D met) (building built : List Record) (said says : Held → Type 0) (now : W) (out : Result T Why) → r ≡ Ok tt
      → Keeps tells new last building built said says now out → Keeps tells old last building built said says now out
  then_kept {T} last building built said says now out is k = record {
    backed = λ honest ws backed. k.backed honest ws (settles building said ws is honest backed);
    crash = λ honest ws backed. joined met (disk_of old) (disk_of new) (disk_of last) (HoldsOne tells (now ∷ ws))
        (settling building said (now ∷ ws) honest (more_worlds tells old building said ws now backed)) (k.crash honest ws (settles building said ws is honest backed));
    idle = k.idle;
    disk = same_both met (disk_of old) (disk_of new) (disk_of last) same k.disk;
    cause = earlier out k.cause;
    full = k.full;
  } where
    from : (e : Why) → MayRefuseKeeping new last e → MayRefuseKeeping old last e
    from DiskFault rose = rose_since (met.faults (disk_of old)) (met.faults (disk_of new)) (met.faults (disk_of last)) same.faults rose
    from (JournalFull end need room) h = h
    from NoMemory h = h
    from (NotAJournal at) h = h
    from Exists h = h

    earlier : (o : Result T Why) → IfErr o (MayRefuseKeeping new last) → IfErr o (MayRefuseKeeping old last)
    earlier (Ok x) h = tt
    earlier (Err e) h = from e h

-- ---- what changed is appended

module _ {D W : Type 0} {met : Ghosts D} (tells : Held → W → Type 0) (old new : Journal D met) (building built : List Record) (said says : Held → Type 0) (now : W)
    (only_now : (disk : D) (c : List ℕ) → met.honest → met.left_since disk (met.moment disk) c → met.images disk c)
    (idle : pending_of old ≡ None)
    (cut : (m : Held) → said (put_all building m) → says (put_all built m)) where
  -- memory ran out on the way
  pub cut_failed : {T : Type 0} → Keeps {T = T} tells old old building built said says now (Err NoMemory)
  cut_failed = record {
    backed = λ honest ws backed. more_worlds tells old built says ws now (recut tells old building said ws built says cut backed);
    crash = λ honest ws backed. still tells old building said (now ∷ ws) (λ c left. only_now (disk_of old) c honest left) (more_worlds tells old building said ws now backed);
    idle = tt;
    disk = same_here met (disk_of old);
    cause = idle;
    full = λ rs pending full. none_some (pending_of old) rs (Err NoMemory ≡ Err (JournalFull (end_of old) (need_of rs) (met.most (disk_of old)))) idle pending;
  }

  -- the batch was tried
  pub appended : (r : Result (Unit {0}) Why) → ((m : Held) → says m → tells m now)
      → (met.honest → (c : Content) → IsSettled old c → Writes old new c built r) → (built ≢ [] → Tries old new built r) → (built ≡ [] → r ≡ Ok tt) → (built ≡ [] → new ≡ old)
      → SameDisk met (disk_of old) (disk_of new) → Keeps tells old new building [] said says now r
  appended r told writes tries none untouched same = record {
    backed = λ honest ws backed. kept honest ws backed;
    crash = λ honest ws backed. moments honest ws backed;
    idle = now_idle built refl;
    disk = same;
    cause = causes built refl;
    full = λ rs pending full. is_refused built refl rs pending full;
  } where
    kept : met.honest → (ws : List W) → IsBacked tells old building said ws → IsBacked tells new [] says (worlds_after ws now r)
    kept honest ws (owed c rs o t u w) = none_some (pending_of old) rs (IsBacked tells new [] says (worlds_after ws now r)) idle o.pending
    kept honest ws (settled c s t w) = by r (writes honest c s) where
      said_now : says (put_all built c.held)
      said_now = cut c.held w

      by : (r : Result (Unit {0}) Why) → Writes old new c built r → IsBacked tells new [] says (worlds_after ws now r)
      by (Ok done) wr = settled (with_batch c built) wr.ok (inl (subst (λ (m : Held). tells m now) (sym (with_batch-held c built)) (told (put_all built c.held) said_now)))
          (subst says (sym (with_batch-held c built)) said_now)
      by (Err e) wr = owed c built wr.err (inr t) (inl (told (put_all built c.held) said_now)) said_now

    moments : met.honest → (ws : List W) → IsBacked tells old building said ws → CrashLeaves met (disk_of old) (disk_of new) (HoldsOne tells (now ∷ ws))
    moments honest ws (owed c rs o t u w) = none_some (pending_of old) rs (CrashLeaves met (disk_of old) (disk_of new) (HoldsOne tells (now ∷ ws))) idle o.pending
    moments honest ws (settled c s t w) = weaker met (disk_of old) (disk_of new) (HasEither c (with_batch c built)) (HoldsOne tells (now ∷ ws)) (λ image has. either image (either_held c built image has)) (writes honest c s).moments where
      either : (image : List ℕ) → HoldsEither c.held (put_all built c.held) image → HoldsOne tells (now ∷ ws) image
      either image (inl h) = (c.held, h, inr t)
      either image (inr h) = (put_all built c.held, h, inl (told (put_all built c.held) (cut c.held w)))

    now_idle : (rs : List Record) → built ≡ rs → OnOk r (pending_of new ≡ None)
    now_idle [] e = any_ok r (ap pending_of (untouched e) ∙ idle)
    now_idle (b ∷ rs) e = (tries (λ same. absurd (let both : ◌≡◌ {A = List Record} (b ∷ rs) [] = sym e ∙ same in cc))).done

    causes : (rs : List Record) → built ≡ rs → IfErr r (MayRefuseKeeping old new)
    causes [] e = subst (λ x. IfErr x (MayRefuseKeeping old new)) (sym (none e)) tt
    causes (b ∷ rs) e = by r (tries (λ same. absurd (let both : ◌≡◌ {A = List Record} (b ∷ rs) [] = sym e ∙ same in cc))) where
      by : (r : Result (Unit {0}) Why) → Tries old new built r → IfErr r (MayRefuseKeeping old new)
      by (Ok done) t = tt
      by (Err why) t = may_refuse old new built same why t

    is_refused : (rs : List Record) → built ≡ rs → (qs : List Record) → pending_of new ≡ Some qs → met.most (disk_of new) < end_of new + need_of qs
        → r ≡ Err (JournalFull (end_of new) (need_of qs) (met.most (disk_of new)))
    is_refused [] e qs pending full = none_some (pending_of new) qs (r ≡ Err (JournalFull (end_of new) (need_of qs) (met.most (disk_of new)))) (ap pending_of (untouched e) ∙ idle) pending
    is_refused (b ∷ rs) e qs pending full = by r refl (tries (λ same. absurd (let both : ◌≡◌ {A = List Record} (b ∷ rs) [] = sym e ∙ same in cc))) where
      by : (q : Result (Unit {0}) Why) → r ≡ q → Tries old new built q → r ≡ Err (JournalFull (end_of new) (need_of qs) (met.most (disk_of new)))
      by (Ok done) is t = none_some (pending_of new) qs (r ≡ Err (JournalFull (end_of new) (need_of qs) (met.most (disk_of new)))) t.done pending
      by (Err why) is t = is ∙ ap Err (is_full old new built same why t qs pending full)

-- ---- another outcome of the same kind

module _ {D W T U : Type 0} {met : Ghosts D} (tells : Held → W → Type 0) (old new : Journal D met) (building built : List Record) (said says : Held → Type 0) (now : W) where
  pub with_ok : (x : T) (y : U) → Keeps {T = T} tells old new building built said says now (Ok x) → Keeps {T = U} tells old new building built said says now (Ok y)
  with_ok x y k = record {
    backed = k.backed;
    crash = k.crash;
    idle = k.idle;
    disk = k.disk;
    cause = tt;
    full = λ rs pending full. ok_not_err (Ok x) x (JournalFull (end_of new) (need_of rs) (met.most (disk_of new))) (Ok y ≡ Err (JournalFull (end_of new) (need_of rs) (met.most (disk_of new)))) refl (k.full rs pending full);
  }

  pub with_err : (e : Why) → Keeps {T = T} tells old new building built said says now (Err e) → Keeps {T = U} tells old new building built said says now (Err e)
  with_err e k = record {
    backed = k.backed;
    crash = k.crash;
    idle = tt;
    disk = k.disk;
    cause = k.cause;
    full = λ rs pending full. ap Err (err_same e (JournalFull (end_of new) (need_of rs) (met.most (disk_of new))) (k.full rs pending full));
  }
