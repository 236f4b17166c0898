-- A register that was made from records.
use Rattle.std.proofs.Common.{◌≡◌, ℕ, ◌+◌, ◌<◌, ◌≤◌, ◌^◌, List, true, false, Option, Some, None, option_map, Err, refl, sym, ap, subst, ◌∙◌, arith}
use Rattle.std.proofs.lemmas.Nat.{from_be_bytes-to_be_bytes_4}
use Rattle.std.specs.Int.{from_be_bytes, w32}
use Rattle.std.specs.Prelude.{option_and_then}
use Rattle.std.specs.FinMap.{get}
use Rattle.std.proofs.lemmas.Option.{same_Some}
use Rattle.flush_journal.specs.Records.{Held}
use Rattle.object_ids.specs.IdValues.{Id}
use Rattle.domains.specs.Contents.{Contents, IsDomainAt}
use Rattle.domains.specs.declared.classes.Node.{Node}
use Rattle.domains.specs.declared.classes.NodeClass.{NodeClass}
use Rattle.domains.specs.declared.classes.NodeClass.TheVariants.{Folder, Domain}
use Rattle.object_records.specs.Keys.Keys.{node_key}
use Rattle.object_records.specs.Keys.Numbers.{run_bytes}
use Rattle.domains.specs.Records.Nodes.{node_of_body}
use Rattle.object_records.specs.InstallFaults.{MatchFault as MatchRecord}
use Rattle.containers.specs.TextMaps.Fronts.{IsLeast}
use Rattle.object_records.specs.declared.install_fault.InstallFault.{InstallFault as RecordFault}
use Rattle.object_records.specs.declared.install_fault.InstallFault.TheVariants as records
use Rattle.register.specs.Installed.Registers.{DescribesRegister, IsRegisterFault, IsRun, KeepsNumber, no_run, bad_node, no_root, no_next}
use Rattle.register.specs.declared.installs.InstallFault.{InstallFault}
use Rattle.register.specs.Decided.{AreGivenOut, RegisterState}
use Rattle.register.specs.Kept.{IsHeldNode, IsInstalled, IsUsedUp, MatchFault, MatchUsed, RegisterSays, TellsUsed, installed, last_run, of_records}

none_class : {P : Type 0} (x : NodeClass) → None ≡ Some x → P
none_class x e = absurd (cc)

none_node : {P : Type 0} (x : Node) → None ≡ Some x → P
none_node x e = absurd (cc)

pub one_run : (held : Held) (a b : ℕ) → IsRun held a → IsRun held b → a ≡ b
one_run held a b x y =
    sym (from_be_bytes-to_be_bytes_4 a (below a x.small)) ∙ ap (from_be_bytes w32) (same_Some (run_bytes a) (run_bytes b) (sym x.here ∙ y.here)) ∙ from_be_bytes-to_be_bytes_4 b (below b y.small) where
      below : (n : ℕ) → n < 2 ^ 22 → n < 2 ^ 32
      below n small = omega arith

class_in : Option (List ℕ) → Option NodeClass
class_in body = option_map (λ (n : Node). n.class) (option_and_then node_of_body body)

module _ (held : Held) (run : ℕ) (c : Contents) (h : DescribesRegister held run c) where
  made_before : (path : List ℕ) (number : ℕ) (root : Id) → IsDomainAt c path number root → root.run ≤ run
  unfolding class_in
  made_before path number root at = found (get held (node_key path)) refl where
    told : (o : Option (List ℕ)) → get held (node_key path) ≡ o → class_in o ≡ Some (Domain number root)
    told o e = ap class_in (sym e) ∙ sym (ap (option_map (λ (n : Node). n.class)) (h.nodes path)) ∙ at

    found : (o : Option (List ℕ)) → get held (node_key path) ≡ o → root.run ≤ run
    found None e = none_class (Domain number root) (told None e)
    found (Some body) e =
        let r = h.rules path body e in
        let class = same_Some r.node.class (Domain number root) (sym (ap (option_map (λ (n : Node). n.class)) r.reads) ∙ told (Some body) e) in
        (subst (λ (x : NodeClass). KeepsNumber held path x) class r.number).made run h.kept

  -- the roots were given out in earlier runs
  pub given_out : AreGivenOut c (run + 1) 0
  given_out path number root at = let before = made_before path number root at in record { run = omega (arith, before); serial = λ same. omega (arith, before, same) }

  held_node : (path : List ℕ) → IsHeldNode (get c.nodes path) (get held (node_key path))
  held_node path = at (get c.nodes path) refl where
    no_body : get c.nodes path ≡ None → (o : Option (List ℕ)) → get held (node_key path) ≡ o → o ≡ None
    no_body e None f = refl
    no_body e (Some body) f = let r = h.rules path body f in
        none_node r.node (sym e ∙ h.nodes path ∙ ap (option_and_then node_of_body) f ∙ r.reads)

    at : (o : Option Node) → get c.nodes path ≡ o → IsHeldNode o (get held (node_key path))
    at None e = no_body e (get held (node_key path)) refl
    at (Some node) e = sym (h.nodes path) ∙ e

  said : (lanes : ℕ) → RegisterSays (installed c lanes (run + 1)) held
  said lanes = record { run = λ e. absurd (let both : true ≡ false = e in cc); next = λ _. h.next.here; nodes = λ path _. held_node path }

  pub faultless : (key : List ℕ) → IsRegisterFault held key → ⊥
  unfolding class_in
  faultless key (no_run e none) = none run h.kept
  faultless key (bad_node path body e there broken) = broken (h.rules path body (ap (get held) (sym e) ∙ there))
  faultless key (no_root e none) = none_class Folder (sym (ap class_in (ap (get held) (sym e) ∙ none)) ∙ h.root)
  faultless key (no_next e none) = none c.next h.next

  pub used_up : last_run ≤ run → IsUsedUp held
  used_up full = let small = h.kept.small in let is : run ≡ last_run = omega (arith, small, full) in record { last = subst (λ (n : ℕ). IsRun held n) is h.kept; sound = faultless }

  pub not_used_up : run < last_run → IsUsedUp held → ⊥
  not_used_up below u = let same = one_run held run last_run h.kept u.last in omega (arith, below, same)

  module _ (lanes : ℕ) (r : RegisterState) (e : r ≡ installed c lanes (run + 1)) where
    pub is_installed : IsInstalled held lanes r
    is_installed = record {
      kept = run;
      described = subst (λ (k : Contents). DescribesRegister held run k) (sym (ap (λ (d : RegisterState). d.catalogue) e)) h;
      begins = e ∙ ap (λ (k : Contents). installed k lanes (run + 1)) (sym (ap (λ (d : RegisterState). d.catalogue) e));
    }

    pub installed_says : RegisterSays r held
    installed_says = subst (λ (d : RegisterState). RegisterSays d held) (sym e) (said lanes)

-- ---- faults

pub fault_named : (fault : RecordFault) (e : InstallFault) (P : List ℕ → Type 0) → e ≡ of_records fault → MatchRecord fault P → MatchFault e P
fault_named fault e P is m = subst (λ (x : InstallFault). MatchFault x P) (sym is) (at fault m) where
  at : (f : RecordFault) → MatchRecord f P → MatchFault (of_records f) P
  at (records.BadRecord key) m = m
  at records.NoMemory m = tt

pub fault_not_used : (fault : RecordFault) (e : InstallFault) (P : Type 0) → e ≡ of_records fault → MatchUsed e P
fault_not_used fault e P is = subst (λ (x : InstallFault). MatchUsed x P) (sym is) (at fault) where
  at : (f : RecordFault) → MatchUsed (of_records f) P
  at (records.BadRecord key) = tt
  at records.NoMemory = tt

pub fault_told : (A : Type 0) (held : Held) (fault : RecordFault) (e : InstallFault) → e ≡ of_records fault → MatchRecord fault (IsLeast (IsRegisterFault held)) → IsUsedUp held
    → TellsUsed {A = A} (Err e)
fault_told A held fault e is m u = subst (λ (x : InstallFault). TellsUsed {A = A} (Err x)) (sym is) (at fault m) where
  at : (f : RecordFault) → MatchRecord f (IsLeast (IsRegisterFault held)) → TellsUsed {A = A} (Err (of_records f))
  at (records.BadRecord key) m = absurd (u.sound key.items m.has)
  at records.NoMemory m = tt
