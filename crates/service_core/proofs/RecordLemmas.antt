-- What is held of a register, of lanes and besides, beside records of the others.
use Rattle.std.proofs.Common.{◌≡◌, ◌≢◌, ◌⊎◌, inl, inr, ⊎_elim, ℕ, true, false, List, [], ◌∷◌, None, Some, refl, sym, ap, subst, ◌∙◌, arith}
use Rattle.std.specs.FinMap.{empty, get, get-empty}
use Rattle.std.specs.List.{AllByRecursion}
use Rattle.std.proofs.lemmas.List.{append_cancel_left}
use Rattle.flush_journal.specs.Records.{Held, Record, put_all}
use Rattle.containers.specs.TextMaps.Keyed.{text_order}
use Rattle.flush_journal.specs.Records.{kept_body}
use Rattle.flush_journal.proofs.PutLemmas.{put_last, put_others}
use Rattle.object_ids.specs.IdValues.{Id}
use Rattle.object_ids.specs.Ids.{InRange}
use Rattle.flush_journal.specs.Cuts.Cuts.{AppendsEach, AppendsOnce, AreApart, IsCut}
use Rattle.flush_journal.proofs.OfCuts.CutLemmas.{all_more, appends_as, appends_more, appends_once, in_turn}
use Rattle.object_records.specs.Keys.Keys.{IsChunk, chunk_key, next_key, node_key, object_key, run_key}
use Rattle.object_records.specs.Keys.Keys.{the_run, chunk, object, next_number}
use Rattle.object_records.specs.Keys.Numbers.{run_bytes}
use Rattle.chunk_owner.specs.Slots.Bodies.{IsObjectRecord}
use Rattle.chunk_owner.specs.Slots.Slots.{IsMarked, Slots}
use Rattle.chunk_owner.proofs.OfSlots.KeyFacts.{index_numbers}
use Rattle.chunk_owner.proofs.OfSlots.LaneCuts.{IsKeyApart, said_apart}
use Rattle.chunk_owner.specs.Lanes.{IsWhole, Lane}
use Rattle.chunk_owner.specs.Owners.Joined.{whole}
use Rattle.chunk_owner.specs.Owners.Records.{AreStillIn, AreUndropped, DescribesObjects, IsMarkedIn, IsStandingIn, IsStandingRecord, LaneSays, LanesSay, LanesStillSay}
use Rattle.register.specs.Installed.Registers.{DescribesRegister, is_node_key}
use Rattle.register.specs.Decided.{RegisterState}
use Rattle.register.specs.Kept.{IsHeldNode, IsRegisterMarked, IsRegisterRecord, RegisterSays, a_node, all_kept, of_next, of_node, of_none, of_run, run_kept, the_next}
use Rattle.register.specs.Kept.{the_run as marks_run}
use Rattle.register.specs.Marks.{no_marks}
use Rattle.service_core.specs.Strays.Strays.{HasNoStrays, IsStrayKey}
use Rattle.service_core.specs.Records.{DescribesWorld, as_kept, IsCutRecord, IsKept, IsWorldMarked, IsWorldRecord, of_object, of_register, WorldSays, WorldStillSays, run_record}
use Rattle.service_core.specs.Worlds.{IsBuilt, IsNew, State, seen}

-- ---- which part a key is of

abbrev first_byte : List ℕ → ℕ
first_byte [] = 0
first_byte (b ∷ bs) = b

-- the key of an object, or of a chunk
abbrev IsObjectKey : List ℕ → Type 0
IsObjectKey key = (id : Id) × InRange id × (key ≡ object_key id)

abbrev IsChunkKey : List ℕ → Type 0
IsChunkKey key = (id : Id) × (i : List ℕ) × IsChunk id i × (key ≡ chunk_key id i)

slots_key : (s : Slots) (key : List ℕ) → IsMarked s key → IsObjectKey key ⊎ IsChunkKey key
slots_key s key m = ⊎_elim
    (λ of. inl (m.id, m.range, of.0))
    (λ of. inr (m.id, of.0, record { kind = of.3; id = m.range; numbers = index_numbers of.0 of.2 }, of.1))
    m.part

lane_key : (ls : List Lane) (key : List ℕ) → IsMarkedIn ls key → IsObjectKey key ⊎ IsChunkKey key
lane_key [] key h = absurd h
lane_key (l ∷ ls) key (inl h) = slots_key l.slots key h
lane_key (l ∷ ls) key (inr h) = lane_key ls key h

-- it begins with 3 or 4
lane_byte : (ls : List Lane) (key : List ℕ) → IsMarkedIn ls key → (first_byte key ≡ 3) ⊎ (first_byte key ≡ 4)
lane_byte ls key h = ⊎_elim (λ of. inl (ap first_byte of.2)) (λ of. inr (ap first_byte of.3)) (lane_key ls key h)

-- and one of the register with 1, 2 or 5
low_byte : (d : RegisterState) (key : List ℕ) → IsRegisterMarked d key → (first_byte key ≡ 3 → ⊥) × (first_byte key ≡ 4 → ⊥)
low_byte d key (marks_run on is) = (λ e. let w = ap first_byte is in absurd (omega (arith, e, w)), λ e. let w = ap first_byte is in absurd (omega (arith, e, w)))
low_byte d key (the_next on is) = (λ e. let w = ap first_byte is in absurd (omega (arith, e, w)), λ e. let w = ap first_byte is in absurd (omega (arith, e, w)))
low_byte d key (a_node path on is) = (λ e. let w = ap first_byte is in absurd (omega (arith, e, w)), λ e. let w = ap first_byte is in absurd (omega (arith, e, w)))

pub parts_apart : (d : RegisterState) (ls : List Lane) → AreApart (IsRegisterMarked d) (IsMarkedIn ls)
parts_apart d ls key mine theirs = let low = low_byte d key mine in ⊎_elim low.0 low.1 (lane_byte ls key theirs)

-- ---- keys of no part

register_no_stray : (d : RegisterState) (key : List ℕ) → IsRegisterMarked d key → IsStrayKey key → ⊥
register_no_stray d key (marks_run on is) stray = stray.no_subject the_run tt (sym is)
register_no_stray d key (the_next on is) stray = stray.no_subject next_number tt (sym is)
register_no_stray d key (a_node path on is) stray = let c : true ≡ false = sym (ap is_node_key is) ∙ stray.no_node in cc

lane_no_stray : (ls : List Lane) (key : List ℕ) → IsMarkedIn ls key → IsStrayKey key → ⊥
lane_no_stray ls key h stray = ⊎_elim (λ of. stray.no_subject (object of.0) of.1 (sym of.2)) (λ of. stray.no_subject (chunk of.0 of.1) of.2 (sym of.3)) (lane_key ls key h)

strays_stay : (P : List ℕ → Type 0) → ((key : List ℕ) → P key → IsStrayKey key → ⊥) → (added : List Record) (m : Held) → AllByRecursion (λ r. P r.0) added → HasNoStrays m → HasNoStrays (put_all added m)
strays_stay P none added m all before key stray =
    before key (record {
      stray = stray.stray;
      body = stray.body;
      here = sym (put_others m added key (all_more (λ r. P r.0) (λ r. r.0 ≢ key) added (λ r p same. none key (subst P same p) stray.stray) all)) ∙ stray.here;
    })

-- ---- the register beside records of lanes

module _ (d : RegisterState) (ls : List Lane) (added : List Record) (m : Held) (all : AllByRecursion (λ r. IsMarkedIn ls r.0) added) where
  low_stays : (key : List ℕ) → (first_byte key ≡ 3 → ⊥) → (first_byte key ≡ 4 → ⊥) → get (put_all added m) key ≡ get m key
  low_stays key three four =
      put_others m added key (all_more (λ r. IsMarkedIn ls r.0) (λ r. r.0 ≢ key) added
      (λ r h same. ⊎_elim (λ e. three (sym (ap first_byte same) ∙ e)) (λ e. four (sym (ap first_byte same) ∙ e)) (lane_byte ls r.0 h)) all)

  pub register_stays : RegisterSays d m → RegisterSays d (put_all added m)
  register_stays said = record {
    run = λ on. low_stays run_key (λ e. omega (arith, e)) (λ e. omega (arith, e)) ∙ said.run on;
    next = λ on. low_stays next_key (λ e. omega (arith, e)) (λ e. omega (arith, e)) ∙ said.next on;
    nodes = λ path off. subst (IsHeldNode (get d.catalogue.nodes path)) (sym (low_stays (node_key path) (λ e. omega (arith, e)) (λ e. omega (arith, e)))) (said.nodes path off);
  }

-- ---- lanes beside records of the register

module _ (d : RegisterState) (added : List Record) (m : Held) (all : AllByRecursion (λ r. IsRegisterMarked d r.0) added) where
  apart_from : (q : Id) → AllByRecursion (λ r. IsKeyApart q r.0) added
  apart_from q = all_more (λ r. IsRegisterMarked d r.0) (λ r. IsKeyApart q r.0) added (λ r h. let low = low_byte d r.0 h in (
    λ same. low.0 (ap first_byte same),
    λ i index dataset same. low.1 (ap first_byte same),
  )) all

  lane_stays : (l : Lane) → IsWhole l → LaneSays m l → LaneSays (put_all added m) l
  lane_stays l is_whole said id range at = said_apart id added (apart_from id) m (get l.slots id) (λ s there. is_whole.slots.kinds id s there) (said id range at)

  pub lanes_stay : (ls : List Lane) → AllByRecursion IsWhole ls → LanesSay ls m → LanesSay ls (put_all added m)
  lanes_stay [] wholes said = tt
  lanes_stay (l ∷ ls) wholes said = (lane_stays l wholes.0 said.0, lanes_stay ls wholes.1 said.1)

-- ---- a cut of the register, and then of the lanes

module _ (s : State) (wholes : AllByRecursion IsWhole s.lanes) (d : RegisterState) (first mid : List Record)
    (register : (base : Held) → IsCut (IsRegisterMarked s.register) base first mid (λ held. RegisterSays s.register base → RegisterSays d held)) where
  abbrev halfway : State
  halfway = record { register = d; lanes = s.lanes }

  -- the register is cut
  register_said : (base : Held) → IsCut (IsRegisterMarked s.register) base first mid (λ held. WorldSays s base → WorldSays halfway held)
  register_said base = let c = register base in record {
    added = c.added;
    appended = c.appended;
    changed = c.changed;
    once = c.once;
    stands = λ said. record {
      register = c.stands said.register;
      lanes = lanes_stay s.register c.added base c.changed s.lanes wholes said.lanes;
      strays = strays_stay (IsRegisterMarked s.register) (register_no_stray s.register) c.added base c.changed said.strays;
    };
  }

  pub register_alone : (base : Held) → IsCut (IsWorldMarked s) base first mid (λ held. WorldSays s base → WorldSays halfway held)
  register_alone base = let c = register_said base in record {
    added = c.added;
    appended = c.appended;
    changed = all_more (λ r. IsRegisterMarked s.register r.0) (λ r. IsWorldMarked s r.0) c.added (λ r h. inl h) c.changed;
    once = c.once;
    stands = c.stands;
  }

  -- and then the lanes
  pub both_cut : (ls : List Lane) (last : List Record)
      → ((base : Held) → IsCut (IsMarkedIn s.lanes) base mid last (λ held. LanesSay s.lanes base → LanesSay ls held))
      → (base : Held) → IsCut (IsWorldMarked s) base first last (λ held. WorldSays s base → WorldSays (record { register = d; lanes = ls }) held)
  both_cut ls last lanes base =
      in_turn (IsRegisterMarked s.register) (IsMarkedIn s.lanes) (parts_apart s.register s.lanes) base first mid last
      (λ held. WorldSays s base → WorldSays halfway held) (λ held. WorldSays s base → WorldSays (record { register = d; lanes = ls }) held) (register_said base)
      (λ held between. let c = lanes held in record {
        added = c.added;
        appended = c.appended;
        changed = c.changed;
        once = c.once;
        stands = λ said. let half = between said in record {
          register = register_stays d s.lanes c.added held c.changed half.register;
          lanes = c.stands half.lanes;
          strays = strays_stay (IsMarkedIn s.lanes) (lane_no_stray s.lanes) c.added held c.changed half.strays;
        };
      })

-- ---- the records of a cut

both_each : (P Q : Record → Type 0) (rs : List Record) → AllByRecursion P rs → AllByRecursion Q rs → AllByRecursion (λ r. P r × Q r) rs
both_each P Q [] h g = tt
both_each P Q (r ∷ rs) h g = ((h.0, g.0), both_each P Q rs h.1 g.1)

-- the records that were added have both properties
appends_both : (P Q : Record → Type 0) (old new : List Record) → AppendsEach P old new → AppendsEach Q old new → AppendsEach (λ r. P r × Q r) old new
appends_both P Q old new a b = record {
  added = a.added;
  appended = a.appended;
  each = both_each P Q a.added a.each (subst (AllByRecursion Q) (append_cancel_left old b.added a.added (sym b.appended ∙ a.appended)) b.each);
}

register_kept : (d : RegisterState) (r : Record) → IsRegisterRecord d r → IsRegisterRecord (all_kept d) r
register_kept d r (of_run is) = of_run is
register_kept d r (of_next is) = of_next is
register_kept d r (of_node path node there is) = of_node path node there is
register_kept d r (of_none path none is) = of_none path none is

module _ (s : State) where
  -- the body of a record is what stands there
  abbrev Stands : Record → Type 0
  Stands r = IsWorldRecord (as_kept s) r × (AreUndropped s.lanes → IsRegisterRecord (all_kept s.register) r ⊎ IsStandingRecord (whole s.lanes) r)

  by_register : (r : Record) → IsRegisterMarked s.register r.0 × IsRegisterRecord s.register r → Stands r
  by_register r h = (of_register (register_kept s.register r h.1), λ undropped. inl (register_kept s.register r h.1))

  by_lanes : (r : Record) → IsObjectRecord (whole s.lanes) r × IsStandingIn s.lanes r → Stands r
  by_lanes r h = (of_object h.0, λ undropped. inr (h.1 undropped))

  cut_records : (base : Held) (old new : List Record) (later : Held → Type 0) → IsCut (IsWorldMarked s) base old new later → AppendsEach Stands old new → AppendsOnce (IsCutRecord s) old new
  cut_records base old new later c a =
      appends_once (IsCutRecord s) (IsWorldMarked s) base old new later c
      (appends_as (λ r. IsWorldMarked s r.0 × Stands r) (IsCutRecord s) old new (λ r h. record { marked = h.0; stands = h.1.0; standing = h.1.1 })
      (appends_both (λ r. IsWorldMarked s r.0) Stands old new (record { added = c.added; appended = c.appended; each = c.changed }) a))

  module _ (base : Held) (first mid : List Record) (later : Held → Type 0) (register : AppendsEach (λ r. IsRegisterMarked s.register r.0 × IsRegisterRecord s.register r) first mid) where
    register_stands : AppendsEach Stands first mid
    register_stands = appends_as (λ r. IsRegisterMarked s.register r.0 × IsRegisterRecord s.register r) Stands first mid by_register register

    pub register_records : IsCut (IsWorldMarked s) base first mid later → AppendsOnce (IsCutRecord s) first mid
    register_records c = cut_records base first mid later c register_stands

    pub both_records : (last : List Record) → IsCut (IsWorldMarked s) base first last later → AppendsEach (IsObjectRecord (whole s.lanes)) mid last → AppendsEach (IsStandingIn s.lanes) mid last
        → AppendsOnce (IsCutRecord s) first last
    both_records last c objects standing = cut_records base first last later c
        (appends_more Stands first mid last register_stands
        (appends_as (λ r. IsObjectRecord (whole s.lanes) r × IsStandingIn s.lanes r) Stands mid last by_lanes (appends_both (IsObjectRecord (whole s.lanes)) (IsStandingIn s.lanes) mid last objects standing)))

-- ---- the record of the run

four : (n : ℕ) → kept_body (run_bytes n) ≡ Some (run_bytes n)
four n = refl

module _ (s : State) (wholes : AllByRecursion IsWhole s.lanes) (held : Held) (said : WorldSays s held) where
  abbrev begun : RegisterState
  begun = record s.register { marks = record s.register.marks { run = true } }

  abbrev added : List Record
  added = run_record s.register ∷ []

  run_marked : AllByRecursion (λ r. IsRegisterMarked begun r.0) added
  run_marked = (marks_run refl refl, tt)

  elsewhere : (key : List ℕ) → run_key ≢ key → get (put_all added held) key ≡ get held key
  elsewhere key other = put_others held added key (other, tt)

  -- once it is held, it tells the run
  pub run_said : WorldSays (record s { register = run_kept s.register }) (put_all added held)
  run_said = record {
    register = record {
      run = λ _. put_last held [] [] run_key (run_bytes s.register.run) tt ∙ four s.register.run;
      next = λ off. elsewhere next_key (λ same. let e = ap first_byte same in absurd (omega (arith, e))) ∙ said.register.next off;
      nodes = λ path off. subst (IsHeldNode (get s.register.catalogue.nodes path)) (sym (elsewhere (node_key path) (λ same. let e = ap first_byte same in absurd (omega (arith, e))))) (said.register.nodes path off);
    };
    lanes = lanes_stay begun added held run_marked s.lanes wholes said.lanes;
    strays = strays_stay (IsRegisterMarked begun) (register_no_stray begun) added held run_marked said.strays;
  }

-- ---- what each call leaves

-- the register and the lanes are told as they were
pub both_still : (d new : RegisterState) (ls left : List Lane) → ((held : Held) → RegisterSays d held → RegisterSays new held) → LanesStillSay ls left
    → WorldStillSays (record { register = d; lanes = ls }) (record { register = new; lanes = left })
both_still d new ls left register lanes held said = record { register = register held said.register; lanes = lanes held said.lanes; strays = said.strays }

nothing_stray : HasNoStrays empty
nothing_stray key stray = let both : None ≡ Some stray.body = sym (get-empty text_order key) ∙ stray.here in absurd (cc)

-- owners without objects are told by nothing
pub new_said : (d : RegisterState) (owners : List Lane) (n : ℕ) → IsNew n owners → RegisterSays d empty → WorldSays (record { register = d; lanes = owners }) empty
new_said d owners n new said = record { register = said; lanes = new.says; strays = nothing_stray }

-- ---- what describes the world

pub all_told : (d : RegisterState) (ls : List Lane) → IsBuilt d ls → (d.marks ≡ no_marks → (held : Held) → RegisterSays d held → DescribesRegister held d.run d.catalogue)
    → (AreStillIn ls → (held : Held) → LanesSay ls held → DescribesObjects held (whole ls)) → IsKept (record { register = d; lanes = ls }) → (held : Held)
    → WorldSays (record { register = d; lanes = ls }) held → DescribesWorld held d.run (seen (record { register = d; lanes = ls }))
all_told d ls built register lanes kept held said = record {
  register = register (ap (λ (x : RegisterState). x.marks) kept.register) held said.register;
  objects = lanes kept.lanes held said.lanes;
  given = λ id o there. let is_given = built.given id o there in (is_given.out.run, is_given.number);
  strays = said.strays;
}

-- what is to be written doesn't matter to what describes it
pub described_as_kept : (held : Held) (s : State) → DescribesWorld held s.register.run (seen s) → DescribesWorld held s.register.run (as_kept s)
described_as_kept held s d = record { register = d.register; objects = d.objects; given = d.given; strays = d.strays }
