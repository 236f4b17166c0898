-- A world that was made from records.
use Rattle.std.proofs.Common.{◌≡◌, ℕ, ◌+◌, ◌-◌, ◌≤◌, List, length, Result, Ok, Err, IfErr, sym, ap, subst, ◌∙◌, arith}
use Rattle.std.specs.Result.{IsErrAnd}
use Rattle.std.proofs.lemmas.List.{length-replicate}
use Rattle.flush_journal.specs.Records.{Held}
use Rattle.chunk_owner.specs.Lanes.{Lane}
use Rattle.containers.specs.TextMaps.Fronts.{IsLeast}
use Rattle.object_records.specs.declared.install_fault.InstallFault.{InstallFault as LaneFault}
use Rattle.object_records.specs.declared.install_fault.InstallFault.TheVariants as of_lanes
use Rattle.object_records.specs.InstallFaults.{MatchFault as MatchLaneFault}
use Rattle.chunk_owner.specs.Owners.Joined.{AreLanes, whole}
use Rattle.chunk_owner.specs.Owners.Records.{AreFaultless, AreGivenUpTo, DescribesObjects, IsFirstFault}
use Rattle.register.specs.Installed.Registers.{IsNextNumber, IsRegisterFault, IsRun}
use Rattle.register.proofs.Installing.{faultless}
use Rattle.register.specs.Decided.{RegisterState}
use Rattle.register.specs.Kept.{IsInstalled, IsUsedUp, MatchFault, MatchUsed, of_records}
use Rattle.register.specs.declared.installs.InstallFault.{InstallFault}
use Rattle.register.specs.declared.installs.InstallFault.TheVariants.{BadRecord, RunsUsed, NoMemory}
use Rattle.service_core.specs.Strays.Strays.{HasNoStrays, IsStray}
use Rattle.service_core.specs.Records.{IsKeyTold, IsWorldFault, IsWorldOf, Names, TellsKey, of_lane, of_none, of_register}
use Rattle.service_core.proofs.OfDescribed.NamedLemmas.{faults_are_one, same_lane_fault}
use Rattle.service_core.specs.Worlds.{IsBuilt}

module _ (held : Held) (lanes : ℕ) (d : RegisterState) (is : IsInstalled held lanes d) (run next : ℕ) (runs : run ≡ d.run - 1) (nexts : next ≡ d.catalogue.next) where
  later : d.run ≡ is.kept + 1
  later = ap (λ (x : RegisterState). x.run) is.begins

  kept_run : run ≡ is.kept
  kept_run = omega (arith, runs, later)

  -- no record of the register is at fault
  sound : (q : List ℕ) → IsRegisterFault held q → ⊥
  sound = faultless held is.kept d.catalogue is.described

  of_lane_fault : (fault : LaneFault) (e : InstallFault) → e ≡ of_records fault → MatchLaneFault fault (IsFirstFault lanes run next held) → MatchFault e (IsWorldFault lanes held)
  of_lane_fault fault e same match = subst (λ (x : InstallFault). MatchFault x (IsWorldFault lanes held)) (sym same) (by fault match) where
    by : (f : LaneFault) → MatchLaneFault f (IsFirstFault lanes run next held) → MatchFault (of_records f) (IsWorldFault lanes held)
    by (of_lanes.BadRecord key) h = of_lane run next (subst (IsRun held) (sym kept_run) is.described.kept) (subst (IsNextNumber held) (sym nexts) is.described.next) sound h
    by of_lanes.NoMemory h = tt

  pub lane_fault_handed : {A : Type 0} (r : Result A InstallFault) (fault : LaneFault) → IsErrAnd r (λ e. e ≡ of_records fault) → MatchLaneFault fault (IsFirstFault lanes run next held)
      → IfErr r (λ e. MatchFault e (IsWorldFault lanes held))
  lane_fault_handed (Ok x) fault h match = tt
  lane_fault_handed (Err e) fault h match = of_lane_fault fault e h match

  pub of_stray : (key : List ℕ) (e : InstallFault) → AreFaultless lanes run next held → IsLeast (IsStray held) key → Names key e → MatchFault e (IsWorldFault lanes held)
  of_stray key (BadRecord k) none least names =
      subst (λ (q : List ℕ). IsWorldFault lanes held q) (sym names)
      (of_none run next (subst (IsRun held) (sym kept_run) is.described.kept) (subst (IsNextNumber held) (sym nexts) is.described.next) sound none least)
  of_stray key RunsUsed none least names = absurd names
  of_stray key NoMemory none least names = tt

  module _ (owners : List Lane) (given : AreGivenUpTo run next (whole owners)) where
    pub built : length owners ≡ lanes → AreLanes lanes 0 owners → IsBuilt d owners
    built count numbered = record {
      count = count ∙ sym (ap (λ (x : RegisterState). length x.issued) is.begins ∙ length-replicate lanes 0);
      lanes = subst (λ (n : ℕ). AreLanes n 0 owners) (sym count) numbered;
      given = λ id o there. let g = given id o there in record {
        number = omega (arith, g.1, nexts);
        out = record { run = omega (arith, g.0, kept_run, later); serial = λ same. absurd (omega (arith, g.0, kept_run, later, same)) };
      };
    }

    pub world_of : DescribesObjects held (whole owners) → HasNoStrays held → IsWorldOf held lanes (record { register = d; lanes = owners })
    world_of objects strays = record {
      register = is;
      describes = record {
        register = is.described;
        objects = objects;
        given = λ id o there. let g = given id o there in (omega (arith, g.0, kept_run), omega (arith, g.1, nexts));
        strays = strays;
      };
    }

-- the run before
pub has_run : (held : Held) (lanes : ℕ) (d : RegisterState) → IsInstalled held lanes d → 1 ≤ d.run
has_run held lanes d is = let e = ap (λ (x : RegisterState). x.run) is.begins in omega (arith, e)

-- a fault of the register
pub of_register_fault : (lanes : ℕ) (held : Held) (e : InstallFault) → MatchFault e (IsLeast (IsRegisterFault held)) → MatchFault e (IsWorldFault lanes held)
of_register_fault lanes held (BadRecord key) h = of_register h
of_register_fault lanes held RunsUsed h = tt
of_register_fault lanes held NoMemory h = tt

-- only the register tells that no run is left
pub never_used : (P : Type 0) (fault : LaneFault) (e : InstallFault) → e ≡ of_records fault → MatchUsed e P
never_used P fault e same = subst (λ (x : InstallFault). MatchUsed x P) (sym same) (by fault) where
  by : (f : LaneFault) → MatchUsed (of_records f) P
  by (of_lanes.BadRecord key) = tt
  by of_lanes.NoMemory = tt

pub named_used : (P : Type 0) (key : List ℕ) (e : InstallFault) → Names key e → MatchUsed e P
named_used P key (BadRecord k) names = tt
named_used P key RunsUsed names = absurd names
named_used P key NoMemory names = tt

-- ---- a key at fault is named

pub named_by : (held : Held) (lanes : ℕ) (e : InstallFault) → MatchFault e (IsWorldFault lanes held) → MatchUsed e (IsUsedUp held) → (key : List ℕ) → IsWorldFault lanes held key → (IsUsedUp held → ⊥) → IsKeyTold key e
named_by held lanes (BadRecord k) fault used key is unused = faults_are_one held lanes key k.items is fault
named_by held lanes RunsUsed fault used key is unused = absurd (unused used)
named_by held lanes NoMemory fault used key is unused = tt

pub named_handed : {A : Type 0} (P : InstallFault → Type 0) (held : Held) (lanes : ℕ) (r : Result A InstallFault) → IsErrAnd r P → IfErr r (λ e. MatchFault e (IsWorldFault lanes held)) → IfErr r (λ e. MatchUsed e (IsUsedUp held))
    → (key : List ℕ) → IsWorldFault lanes held key → (IsUsedUp held → ⊥) → TellsKey key r
named_handed P held lanes (Ok x) h fault used key is unused = absurd h
named_handed P held lanes (Err e) h fault used key is unused = named_by held lanes e fault used key is unused

-- where a world is made, no key is at fault
pub none_named : (held : Held) (run next : ℕ) → IsRun held run → IsNextNumber held next → ((q : List ℕ) → IsRegisterFault held q → ⊥) → (lanes : ℕ) → AreFaultless lanes run next held → HasNoStrays held
    → (key : List ℕ) → IsWorldFault lanes held key → ⊥
none_named held run next r n sound lanes none strays key (of_register x) = sound key x.has
none_named held run next r n sound lanes none strays key (of_lane last after l a also x) =
    let first = same_lane_fault lanes run next last after held key r l n a x in none first.lane first.of key first.least.has
none_named held run next r n sound lanes none strays key (of_none last after l a also others x) = strays key x.has

pub none_installed : (held : Held) (lanes : ℕ) (d : RegisterState) (is : IsInstalled held lanes d) (run next : ℕ) → run ≡ d.run - 1 → next ≡ d.catalogue.next → AreFaultless lanes run next held → HasNoStrays held
    → {A : Type 0} (key : List ℕ) → IsWorldFault lanes held key → (IsUsedUp held → ⊥) → A
none_installed held lanes d is run next runs nexts none strays key fault unused = absurd (none_named held run next
    (subst (IsRun held) (sym (kept_run held lanes d is run next runs nexts)) is.described.kept) (subst (IsNextNumber held) (sym nexts) is.described.next)
    (sound held lanes d is run next runs nexts) lanes none strays key fault)

pub used_handed : {A : Type 0} (P : Type 0) (fault : LaneFault) (r : Result A InstallFault) → IsErrAnd r (λ e. e ≡ of_records fault) → IfErr r (λ e. MatchUsed e P)
used_handed P fault (Ok x) h = tt
used_handed P fault (Err e) h = never_used P fault e h

pub register_named : {A : Type 0} (held : Held) (lanes : ℕ) (fault : InstallFault) (r : Result A InstallFault) → IsErrAnd r (λ e. e ≡ fault) → MatchFault fault (IsLeast (IsRegisterFault held)) → MatchUsed fault (IsUsedUp held)
    → (key : List ℕ) → IsWorldFault lanes held key → (IsUsedUp held → ⊥) → TellsKey key r
register_named held lanes fault (Ok x) h match used key is unused = absurd h
register_named held lanes fault (Err e) h match used key is unused =
    subst (λ (x : InstallFault). IsKeyTold key x) (sym h) (named_by held lanes fault (of_register_fault lanes held fault match) used key is unused)
