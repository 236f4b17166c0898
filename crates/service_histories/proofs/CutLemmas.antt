-- Cuts of an owner and of the register.
use Rattle.std.proofs.Common.{◌≡◌, ◌≢◌, ℕ, List, [], ◌∷◌, ◌++◌, refl, sym, ap, subst, ◌∙◌}
use Rattle.std.specs.FinMap.{empty, get}
use Rattle.std.specs.List.{AllByRecursion}
use Rattle.flush_journal.specs.Records.{Held, Record, put_all}
use Rattle.object_ids.specs.IdValues.{Id}
use Rattle.object_ids.specs.Ids.{InRange, lane_of}
use Rattle.object_records.specs.Keys.Keys.{next_key, node_key, run_key}
use Rattle.chunk_owner.specs.Lanes.{IsSameLane, Lane}
use Rattle.chunk_owner.specs.Slots.Slots.{IsMarked, Says}
use Rattle.register.specs.Decided.{RegisterState}
use Rattle.register.specs.Marks.{Marked}
use Rattle.register.specs.Kept.{is_marked_in, IsHeldNode, IsRegisterMarked, RegisterSays, all_kept}
use Rattle.lane_histories.specs.JournalContents.{KeepsCatalogue, KeepsLane}
use Rattle.lane_histories.specs.Since.{IsSince, KeepsSaid, SaysAll}
use Rattle.service_histories.specs.ArrayServices.{KeptPart, kept_part}
use Rattle.service_histories.specs.Cuttings.{CutsOwner, CutsRegister, IsOwnerCut, IsRegisterCut, IsRegisterSince, OwnerCutsTell, OwnersMark, KeptRegistersAreParts, RegisterCutsTell}
use Rattle.service_histories.specs.KeptArrays.{OwnerCutsWrite, RegisterCutsWrite}
use Rattle.service_histories.specs.JournalParts.{TellsLane, TellsRegister, array_contents, kept_register}
use Rattle.service_histories.specs.Markings.{SaysOwner, array_marking}
use Rattle.service_histories.proofs.Keys.{IsKeyIn, IsLowKey, KeysDiffer, OthersStay, far_describes, far_says, high_strays, low_describes, low_says, low_stays, low_strays, of_next, of_node, of_run, register_key, slots_key}

-- ---- an owner of which nothing is marked

-- a property of each record's key of another
pub all_keys : (P Q : List ℕ → Type 0) → ((key : List ℕ) → P key → Q key) → (rs : List Record) → AllByRecursion (λ r. P r.0) rs → AllByRecursion (λ r. Q r.0) rs
all_keys P Q f [] h = tt
all_keys P Q f (r ∷ rs) h = (f r.0 h.0, all_keys P Q f rs h.1)

-- what stands behind a list is known by the whole
same_back : (first xs ys : List Record) → first ++ xs ≡ first ++ ys → xs ≡ ys
same_back [] xs ys same = same
same_back (r ∷ first) xs ys same = same_back first xs ys (let rest : first ++ xs ≡ first ++ ys = cc in rest)

module _ (lanes : ℕ) where
  pub says_all : SaysAll (array_marking lanes)
  says_all held l x still said = record {
    described = λ id range home. still.owner.described still.still id held
        (said.says id range (ap (λ n. lane_of n id) said.lanes_are ∙ home ∙ sym said.lane_is));
    home = λ id o at. ap (λ n. lane_of n id) (sym said.lanes_are) ∙ (still.owner.whole.own id o at).own ∙ said.lane_is;
    parts = still.owner.parts;
  }

  same_owner : (l : ℕ) (old new : Lane) (base held : Held) → IsSameLane old new → SaysOwner lanes l base old
      → ((id : Id) → InRange id → Says (get old.slots id) id base → Says (get new.slots id) id held) → SaysOwner lanes l held new
  same_owner l old new base held same said later = record {
    lane_is = same.lane ∙ said.lane_is;
    lanes_are = same.lanes ∙ said.lanes_are;
    says = λ id range home. later id range (said.says id range (ap (λ n. lane_of n id) (sym same.lanes) ∙ home ∙ same.lane));
  }

  pub owners_mark : OwnersMark lanes
  owners_mark l old new same still held said = same_owner l old new held held same said (λ id range. still id held)

  -- ---- a cut of an owner

  module _ (others : OthersStay) (differ : KeysDiffer) where
    -- what its records leave
    module _ (l : ℕ) (old new : Lane) (base : Held) (first last : List Record) (c : CutsOwner old new base first last)
        (lane_is : old.lane ≡ l) (lanes_are : old.lanes ≡ lanes) where
      abbrev after : Held
      after = put_all c.cut.added base

      high : AllByRecursion (λ r. IsKeyIn lanes l r.0) c.cut.added
      high = all_keys (IsMarked old.slots) (IsKeyIn lanes l)
          (λ key. slots_key lanes l old.slots key (λ id m is.
          ap (λ n. lane_of n id) (sym lanes_are) ∙ ap (lane_of old.lanes) (sym is) ∙ c.owner.whole.slots.home m.id m.slot m.here ∙ lane_is))
          c.cut.added c.cut.changed

      other_lane : (m : ℕ) → m ≢ l → KeepsLane (array_contents lanes) m base after
      other_lane m far o told = record {
        described = λ id range home.
            far_describes others differ lanes l c.cut.added base high id range (λ same. far (sym home ∙ same)) (get o id) (told.described id range home);
        home = told.home;
        parts = told.parts;
      }

      other_owner : (m : ℕ) → m ≢ l → KeepsSaid (array_marking lanes) m base after
      other_owner m far o still told = record {
        lane_is = told.lane_is;
        lanes_are = told.lanes_are;
        says = λ id range home.
            let there : lane_of lanes id ≡ m = ap (λ n. lane_of n id) (sym told.lanes_are) ∙ home ∙ told.lane_is in
            far_says others differ lanes l c.cut.added base high id range (λ same. far (sym there ∙ same)) (get o.slots id)
            (λ s at. (still.owner.whole.slots.kinds id s at).kind) (told.says id range home);
      }

      low : (key : List ℕ) → IsLowKey key → get after key ≡ get base key
      low = low_stays others differ lanes l c.cut.added base high

      register : KeepsCatalogue (array_contents lanes) base after
      register k told = record {
        says = record {
          run = λ off. low run_key (of_run refl) ∙ told.says.run off;
          next = λ off. low next_key (of_next refl) ∙ told.says.next off;
          nodes = λ path off. subst (IsHeldNode (get k.contents.nodes path)) (sym (low (node_key path) (of_node path refl))) (told.says.nodes path off);
        };
        strays = high_strays others differ lanes l c.cut.added base high told.strays;
        sound = told.sound;
      }

    module _ (l : ℕ) (was old new : Lane) (base : Held) (first last : List Record) (c : CutsOwner old new base first last)
        (said_was : SaysOwner lanes l base was) (since : IsSince (array_marking lanes) l was old) where
      said : SaysOwner lanes l base old
      said = since base said_was

      said_new : SaysOwner lanes l (put_all c.cut.added base) new
      said_new = same_owner l old new base (put_all c.cut.added base) c.same said c.cut.stands

      told_new : TellsLane lanes l (put_all c.cut.added base) old.objects
      told_new = subst (TellsLane lanes l (put_all c.cut.added base)) c.objects (says_all (put_all c.cut.added base) l new c.still said_new)

      pub owner_cut : IsOwnerCut lanes l old new base (put_all c.cut.added base)
      owner_cut = record {
        cuts = record {
          own = told_new;
          others = other_lane l old new base first last c said.lane_is said.lanes_are;
          catalogue = register l old new base first last c said.lane_is said.lanes_are;
        };
        says = said_new;
        others = other_owner l old new base first last c said.lane_is said.lanes_are;
      }

    pub owner_cuts_tell : OwnerCutsTell lanes
    owner_cuts_tell l was old new base first last c said since = owner_cut l was old new base first last c said since

    -- the records are the same, whatever is held
    pub owner_cuts_write : OwnerCutsWrite lanes
    owner_cuts_write l items was old new first last is cuts =
        let lane_is = is.owner.lane_is in
        let lanes_are = is.owner.lanes_are in
        let added = (cuts empty).cut.added in
        let same : (x : Held) → (cuts x).cut.added ≡ added = (λ x. same_back first _ _ (sym (cuts x).cut.appended ∙ (cuts empty).cut.appended)) in
        record {
          now = new;
          later_is = refl;
          still = (cuts empty).still;
          objects_are = (cuts empty).objects;
          added = added;
          appended = (cuts empty).cut.appended;
          writes = record {
            once = (cuts empty).cut.once;
            changed = record { old = old; since = is; objects = (cuts empty).objects; changed = (cuts empty).cut.changed };
            own = λ x says. subst (λ (rs : List Record). SaysOwner lanes l (put_all rs x) new) (same x)
                (same_owner l old new x (put_all (cuts x).cut.added x) (cuts x).same (is.owner.since x says) (cuts x).cut.stands);
            others = λ x m far. subst (λ (rs : List Record). KeepsSaid (array_marking lanes) m x (put_all rs x)) (same x)
                (other_owner l old new x first last (cuts x) lane_is lanes_are m far);
            catalogue = λ x. subst (λ (rs : List Record). KeepsCatalogue (array_contents lanes) x (put_all rs x)) (same x)
                (register l old new x first last (cuts x) lane_is lanes_are);
          };
        }

  -- ---- a cut of the register

  -- the same, once all is kept
  kept_says : (d : RegisterState) (held : Held) → RegisterSays (all_kept d) held → RegisterSays (kept_register (kept_part d)) held
  kept_says d held said = record { run = said.run; next = said.next; nodes = said.nodes }

  says_kept : (d : RegisterState) (held : Held) → RegisterSays (kept_register (kept_part d)) held → RegisterSays (all_kept d) held
  says_kept d held said = record { run = said.run; next = said.next; nodes = said.nodes }

  module _ (others : OthersStay) (old new : RegisterState) (base : Held) (first last : List Record) (c : CutsRegister old new base first last) where
    keys : AllByRecursion (λ r. IsLowKey r.0) c.cut.added
    keys = all_keys (IsRegisterMarked old) IsLowKey (register_key old) c.cut.added c.cut.changed

    each_lane_stays : (m : ℕ) → KeepsLane (array_contents lanes) m base (put_all c.cut.added base)
    each_lane_stays m o said = record {
      described = λ id range home. low_describes others c.cut.added base keys id range (get o id) (said.described id range home);
      home = said.home;
      parts = said.parts;
    }

    each_owner_stays : (m : ℕ) → KeepsSaid (array_marking lanes) m base (put_all c.cut.added base)
    each_owner_stays m o still said = record {
      lane_is = said.lane_is;
      lanes_are = said.lanes_are;
      says = λ id range home.
          low_says others c.cut.added base keys id range (get o.slots id) (λ s at. (still.owner.whole.slots.kinds id s at).kind) (said.says id range home);
    }

    module _ (k : KeptPart) (since : IsRegisterSince k old) where
      told_then : TellsRegister base k → TellsRegister (put_all c.cut.added base) (kept_part old)
      told_then told = record {
        says = kept_says old (put_all c.cut.added base)
            (subst (λ (d : RegisterState). RegisterSays d (put_all c.cut.added base)) c.still (c.cut.stands (since base told.says)));
        strays = low_strays others c.cut.added base keys told.strays;
        sound = c.sound;
      }

      pub register_cut : TellsRegister base k → IsRegisterCut lanes old new base (put_all c.cut.added base)
      register_cut told = record {
        cuts = record { own = told_then told; lanes = each_lane_stays };
        since = λ held said. subst (λ (d : RegisterState). RegisterSays d held) (sym c.still) (says_kept old held said);
        owners = each_owner_stays;
      }

  pub register_cuts_tell : OthersStay → RegisterCutsTell lanes
  register_cuts_tell others k old new base first last c told since = register_cut others old new base first last c k since told

  pub register_cuts_write : OthersStay → RegisterCutsWrite lanes
  register_cuts_write others k old new first last since cuts =
      let added = (cuts empty).cut.added in
      let same : (x : Held) → (cuts x).cut.added ≡ added = (λ x. same_back first _ _ (sym (cuts x).cut.appended ∙ (cuts empty).cut.appended)) in (
        added,
        (cuts empty).cut.appended,
        record {
          once = (cuts empty).cut.once;
          changed = (cuts empty).cut.changed;
          own = λ x told. subst (λ (rs : List Record). TellsRegister (put_all rs x) (kept_part old)) (same x) (told_then others old new x first last (cuts x) k since told);
          lanes = λ x m. subst (λ (rs : List Record). KeepsSaid (array_marking lanes) m x (put_all rs x)) (same x)
              (each_owner_stays others old new x first last (cuts x) m);
        },
      )

pub kept_registers_are_parts : KeptRegistersAreParts
kept_registers_are_parts d none described held said =
    described held (record {
      run = λ off. said.run refl;
      next = λ off. said.next refl;
      nodes = λ path off. said.nodes path (ap (λ (m : Marked). is_marked_in d.catalogue m path) (sym none) ∙ off);
    })
