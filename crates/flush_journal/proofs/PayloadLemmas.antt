-- The map that a payload's records make.
use Rattle.std.proofs.Common.{◌≡◌, ◌≢◌, ℕ, true, false, List, [], ◌∷◌, length, Option, Some, None, MatchOption, refl, sym, ◌∙◌, ap, arith}
use Rattle.std.specs.Prelude.{option_map}
use Rattle.std.specs.FinMap as map
use Rattle.std.proofs.lemmas.List.{nil_from_length}
use Rattle.flush_journal.specs.Records.{Record, Held, first_record, records_of, put_record, put_all}
use Rattle.flush_journal.proofs.RecordLemmas.{records_of_first, records_of_none, records_of_nothing}

pub put_empty : (key body : List ℕ) (m : Held) → length body ≡ 0 → put_record (key, body) m ≡ map.remove m key
put_empty key [] m e = refl
put_empty key (b ∷ body) m e = absurd (omega arith)

pub put_some : (key body : List ℕ) (m : Held) → length body ≢ 0 → put_record (key, body) m ≡ map.insert m key body
put_some key [] m some = absurd (some refl)
put_some key (b ∷ body) m some = refl

-- the records so far made m of m0, and the rest is to be read
abbrev pub SoFar : List ℕ → List ℕ → Held → Held → Type 0
SoFar payload rest m0 m = option_map (λ rs. put_all rs m0) (records_of payload) ≡ option_map (λ rs. put_all rs m) (records_of rest)

nothing_of : (o : Option (List Record)) (m0 m : Held) → option_map (λ rs. put_all rs m0) o ≡ None → MatchOption o (false ≡ false) (λ rs. (false ≡ true) × (m ≡ put_all rs m0))
nothing_of None m0 m e = refl
nothing_of (Some rs) m0 m e = absurd (cc)

all_of : (o : Option (List Record)) (m0 m : Held) → option_map (λ rs. put_all rs m0) o ≡ Some m → MatchOption o (true ≡ false) (λ rs. (true ≡ true) × (m ≡ put_all rs m0))
all_of None m0 m e = absurd (cc)
all_of (Some rs) m0 m e = (refl, let same : put_all rs m0 ≡ m = cc in sym same)

none_behind : (rest : List ℕ) → length rest ≢ 0 → first_record rest ≡ None → records_of rest ≡ None
none_behind [] some none = absurd (some refl)
none_behind (b ∷ rest) some none = records_of_none b rest none

pub not_read : (payload rest : List ℕ) (m0 m m' : Held) → SoFar payload rest m0 m → length rest ≢ 0 → first_record rest ≡ None → MatchOption (records_of payload) (false ≡ false) (λ rs. (false ≡ true) × (m' ≡ put_all rs m0))
not_read payload rest m0 m m' so_far some none =
    nothing_of (records_of payload) m0 m' (so_far ∙ ap (option_map (λ rs. put_all rs m)) (none_behind rest some none))

pub all_read : (payload rest : List ℕ) (m0 m : Held) → SoFar payload rest m0 m → length rest ≡ 0 → MatchOption (records_of payload) (true ≡ false) (λ rs. (true ≡ true) × (m ≡ put_all rs m0))
all_read payload rest m0 m so_far none =
    all_of (records_of payload) m0 m (so_far ∙ ap (option_map (λ rs. put_all rs m)) (ap records_of (nil_from_length rest none) ∙ records_of_nothing))

pub record_read : (payload rest after : List ℕ) (r : Record) (m0 m m' : Held) → SoFar payload rest m0 m → Some (r, after) ≡ first_record rest → m' ≡ put_record r m → SoFar payload after m0 m'
record_read payload rest after r m0 m m' so_far is put =
    so_far ∙ ap (option_map (λ rs. put_all rs m)) (records_of_first rest r after (sym is)) ∙ moved (records_of after) ∙ ap (λ (n : Held). option_map (λ rs. put_all rs n) (records_of after)) (sym put)
  where
    moved : (o : Option (List Record)) → option_map (λ rs. put_all rs m) (option_map (λ rs. r ∷ rs) o) ≡ option_map (λ rs. put_all rs (put_record r m)) o
    moved None = refl
    moved (Some rs) = refl
