-- Why no world is opened, by why none is made of what the journal holds.
use Rattle.std.proofs.Common.{◌≡◌, ℕ, List, Result, Ok, Err, sym, ap, subst, ◌∙◌}
use Rattle.flush_journal.specs.Files.{Content, content}
use Rattle.flush_journal.specs.Records.{Held, IsRecordMap}
use Rattle.register.specs.declared.installs.InstallFault.{InstallFault}
use Rattle.register.specs.declared.installs.InstallFault.TheVariants.{BadRecord, RunsUsed, NoMemory}
use Rattle.register.specs.Kept.{IsUsedUp, MatchFault, MatchUsed, TellsUsed}
use Rattle.service_core.specs.Records.{IsKeyTold, IsWorldFault}
use Rattle.service_core.specs.Worlds.{State}
use Rattle.service_core.specs.Journals.Opening.{IsBadKeyTold, MayRefuseOpening, of_install}

pub install_refused : (told : Type 0) (file : List ℕ) (before now lanes : ℕ) (held : Held) (fault : InstallFault)
    → (told → (c : Content) × (content file ≡ Ok c) × (lanes ≡ c.lanes) × (held ≡ c.held))
    → MatchFault fault (IsWorldFault lanes held) → MatchUsed fault (IsUsedUp held) → (IsUsedUp held → TellsUsed {A = State} (Err fault))
    → MayRefuseOpening told file before now (of_install fault)
install_refused told file before now lanes held (BadRecord key) read fault used left = λ honest.
    let got = read honest in (
      got.0,
      got.1,
      (subst (λ (m : Held). IsWorldFault got.0.lanes m key.items) got.3 (subst (λ (n : ℕ). IsWorldFault n held key.items) got.2 fault), λ last. left (subst IsUsedUp (sym got.3) last)),
    )
install_refused told file before now lanes held RunsUsed read fault used left = λ honest.
    let got = read honest in
    (got.0, got.1, subst IsUsedUp got.3 used)
install_refused told file before now lanes held NoMemory read fault used left = tt

-- ---- a key at fault is told

pub bad_key_told : (key : List ℕ) (fault : InstallFault) → IsKeyTold key fault → IsBadKeyTold key (of_install fault)
bad_key_told key (BadRecord k) told = told
bad_key_told key RunsUsed told = absurd told
bad_key_told key NoMemory told = tt

-- what is read is one content
module _ (file : List ℕ) (c d : Content) (first : content file ≡ Ok c) (second : content file ≡ Ok d) where
  one_content : c ≡ d
  one_content = let both : ◌≡◌ {A = Result Content ℕ} (Ok c) (Ok d) = sym first ∙ second in cc

  module _ (lanes : ℕ) (held : Held) (of_lanes : lanes ≡ c.lanes) (of_held : held ≡ c.held) where
    same_held : held ≡ d.held
    same_held = of_held ∙ ap (λ (x : Content). x.held) one_content

    pub fault_read : (key : List ℕ) → IsWorldFault d.lanes d.held key → IsWorldFault lanes held key
    fault_read key fault =
        subst (λ (n : ℕ). IsWorldFault n held key) (sym (of_lanes ∙ ap (λ (x : Content). x.lanes) one_content)) (subst (λ (m : Held). IsWorldFault d.lanes m key) (sym same_held) fault)

    pub unused_read : (IsUsedUp d.held → ⊥) → IsUsedUp held → ⊥
    unused_read unused used = unused (subst IsUsedUp same_held used)

    pub sizes_read : IsRecordMap held → IsRecordMap d.held
    sizes_read sizes = subst IsRecordMap same_held sizes
