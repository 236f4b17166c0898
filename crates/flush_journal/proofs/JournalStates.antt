-- How a journal stands after a call.
use Rattle.std.proofs.Common.{◌≡◌, ◌≢◌, ℕ, ◌+◌, ◌<◌, ◌^◌, Bool, true, false, List, [], length, Option, Some, None, refl, sym, ◌∙◌, ap, arith}
use Rattle.std.specs.Prelude.{option_map, IsTrue, ◌↔◌}
use Rattle.edge_traits.specs.declared.disk.Disk.{Ghosts}
use Rattle.flush_journal.specs.declared.journal.Journal.{Journal}
use Rattle.flush_journal.specs.declared.batch.Batch.{Batch}
use Rattle.flush_journal.specs.Batches.{records, owed_size}
use Rattle.flush_journal.specs.Records.{Record, records_of, encoded_all}
use Rattle.flush_journal.specs.Files.{Content}
use Rattle.flush_journal.specs.Frames.{frame_of}
use Rattle.flush_journal.specs.Markers.{HasOpenMarker, Either, AllHave, OnlyHas}
use Rattle.flush_journal.specs.Moments.{CrashLeaves}
use Rattle.flush_journal.specs.Standing.{pending_of, with_batch, Numbers, IsSettled, IsOwed, HasEither}
use Rattle.flush_journal.proofs.ContentLemmas.{IsFront, content-shut}
use Rattle.flush_journal.proofs.JournalLemmas.{AreBatch, opened_content, either_content, with_batch-version, with_batch-lanes, with_batch-batches, with_batch-end}
use Rattle.flush_journal.proofs.Moments.{weaker}

pub is_false : {P : Type 0} (b : Bool) → (IsTrue b ↔ P) → b ≡ false → P → ⊥
is_false b both e p = let yes : b ≡ true = both.1 p in absurd (cc)

pub are_batch : (rs : List Record) (bytes : List ℕ) → rs ≢ [] → bytes ≡ frame_of rs → length bytes < 2 ^ 63 → records_of (encoded_all rs) ≡ Some rs → AreBatch rs
are_batch rs bytes some is small read = record { some = some; small = omega (arith, small, ap length is); read = read }

pub none_owed : (p : Option Batch) → option_map records p ≡ None → owed_size p ≡ 0
none_owed None e = refl
none_owed (Some b) e = absurd (cc)

module _ {D : Type 0} {met : Ghosts D} (j : Journal D met) (c : Content) (rs : List Record) (front : List ℕ) (is : IsFront front c) (are : AreBatch rs) where
  pub owed_by : pending_of j ≡ Some rs → Numbers j c → AllHave (Either front (frame_of rs)) (met.reads j.disk) (met.images j.disk) → IsOwed j c rs
  owed_by pending numbers has = record {
    pending = pending;
    some = are.some;
    numbers = numbers;
    now = either_content front c is rs are (met.reads j.disk) has.now;
    each = λ i left. either_content front c is rs are i (has.each i left);
    resumable = record { front = front; closed = content-shut front c is 0 [] (omega arith); place = is.place; now = has.now; each = has.each };
  }

  pub settled_by : pending_of j ≡ None → j.numbers.version ≡ c.version → j.numbers.lanes ≡ c.lanes → j.numbers.batches ≡ c.batches + 1 → j.numbers.end ≡ c.end + length (frame_of rs)
      → OnlyHas (HasOpenMarker front (frame_of rs)) (met.reads j.disk) (met.images j.disk) → IsSettled j (with_batch c rs)
  settled_by idle version lanes batches end has = record {
    idle = idle;
    numbers = record {
      version = version ∙ sym (with_batch-version c rs);
      lanes = lanes ∙ sym (with_batch-lanes c rs);
      batches = batches ∙ sym (with_batch-batches c rs are.some);
      end = end ∙ sym (with_batch-end c rs are.some);
    };
    file = opened_content front c is rs are (met.reads j.disk) has.now;
    only = has.only;
  }

  pub leaves_either : (old new : D) → CrashLeaves met old new (Either front (frame_of rs)) → CrashLeaves met old new (HasEither c (with_batch c rs))
  leaves_either old new l = weaker met old new (Either front (frame_of rs)) (HasEither c (with_batch c rs)) (either_content front c is rs are) l

-- the batch that is pending has some record
pub some_pending : (p : Option Batch) (b : Batch) → option_map records p ≢ Some [] → p ≡ Some b → records b ≢ []
some_pending p b some is none = some (ap (option_map records) is ∙ ap (λ (l : List Record). Some l) none)

pub pending_records : (p : Option Batch) (b : Batch) (rs : List Record) → p ≡ Some b → option_map records p ≡ Some rs → records b ≡ rs
pending_records p b rs is are = let both : Some (records b) ≡ Some rs = sym (ap (option_map records) is) ∙ are in cc

pub some_batch : (rs : List Record) → rs ≢ [] → ◌≢◌ {A = Option (List Record)} (Some rs) (Some [])
some_batch rs some e = some (let same : rs ≡ [] = cc in same)
