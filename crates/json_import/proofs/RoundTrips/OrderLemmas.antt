-- The texts of fresh ids stand in the order of the texts that they replace.
use Rattle.std.proofs.Common.{◌≡◌, ◌<◌, ◌^◌, ℕ, inl, inr, List, ◌∷◌, map, Less, IsSome, refl, sym, ap, subst, ◌∙◌, arith}
use Rattle.std.specs.FinMap.{get, keys}
use Rattle.std.specs.Ordering.{nat_cmp, ordering_then}
use Rattle.serde_json.specs.Data.{Data}
use Rattle.containers.specs.TextMaps.Keyed.{text_order}
use Rattle.object_ids.specs.IdOrder.{id_order, kind_rank}
use Rattle.object_ids.specs.IdValues.{Id}
use Rattle.object_ids.specs.Ids.{InRange, text_of_id}
use Rattle.object_ids.specs.declared.ids.Kind.{Kind}
use Rattle.object_ids.specs.declared.ids.Kind.TheVariants as kind
use Rattle.object_ids.proofs.IdTexts.{same_order}
use Rattle.object_ids.proofs.NumberOrders.{cmp_same}
use Rattle.object_acts.specs.declared.objects.Object.{Object}
use Rattle.documents.specs.Reader.Loads.{Loads}
use Rattle.documents.specs.declared.reader.loaded.Loaded.{Loaded}
use Rattle.json_import.specs.Fresh.Laws.{HasObject, IsFresh, StandForOne}
use Rattle.json_import.specs.Fresh.Names.{Names, id_in, names_of, others}
use Rattle.json_import.specs.Fresh.Renamed.{dataset_object, datatype_object, group_object, kind_of, other_count}
use Rattle.json_import.proofs.OfFresh.LawLemmas.{ids_fresh, other_is, root_first, root_stands, serials_rise}
use Rattle.json_import.proofs.OfFresh.LoadedLemmas.{stand_for_one}
use Rattle.json_import.specs.RoundTrips.Laws.{AreInOrder, HasRoom}
use Rattle.json_import.specs.RoundTrips.Renamed.{renamed_group, text_in}
use Rattle.json_import.proofs.RoundTrips.ListLemmas.{keys_behind, keys_moved}
use Rattle.containers.proofs.Plain.{some_value}
use Rattle.containers.specs.ShortLists.OrderLaws.{cmp_less}

-- of two ids of a kind, a domain and a run the one with the lesser serial comes first
lesser_first : (a b : Id) → a.kind ≡ b.kind → a.domain ≡ b.domain → a.run ≡ b.run → a.serial < b.serial → id_order a b ≡ Less
lesser_first a b kinds domains runs below =
    ap (λ o. ordering_then o (ordering_then (nat_cmp a.domain b.domain) (ordering_then (nat_cmp a.run b.run) (nat_cmp a.serial b.serial)))) (cmp_same (kind_rank a.kind) (kind_rank b.kind) (ap kind_rank kinds))
    ∙ ap (λ o. ordering_then o (ordering_then (nat_cmp a.run b.run) (nat_cmp a.serial b.serial))) (cmp_same a.domain b.domain domains)
    ∙ ap (λ o. ordering_then o (nat_cmp a.serial b.serial)) (cmp_same a.run b.run runs)
    ∙ cmp_less a.serial b.serial below

-- each fresh id is one that an `ObjectId` can be
pub fresh_range : (root : Id) (many : ℕ) (k : Kind) (id : Id) → HasRoom root many → IsFresh root many k id → InRange id
fresh_range root many k id room h = record {
  domain = subst (λ n. n < 2 ^ 48) (sym h.domain) room.range.domain;
  run = subst (λ n. n < 2 ^ 22) (sym h.run) room.range.run;
  serial = let left = room.left in let within = h.within in omega (arith, left, within);
}

module _ (tree : Data) (l : Loaded) (root : Id) (loads : Loads tree l) (room : HasRoom root (other_count l)) where
  abbrev one : StandForOne l
  one = stand_for_one tree l loads

  abbrev names : Names
  names = names_of l root

  abbrev id_at : List ℕ → Id
  id_at text = id_in names root text

  abbrev FreshAt : Kind → List ℕ → Type 0
  FreshAt k text = IsFresh root (other_count l) k (id_at text)

  texts_rise : (k : Kind) (s t : List ℕ) → FreshAt k s → FreshAt k t → (id_at s).serial < (id_at t).serial
      → text_order (text_in names root s) (text_in names root t) ≡ Less
  texts_rise k s t first second below =
      same_order (id_at s) (id_at t) (fresh_range root (other_count l) k (id_at s) room first) (fresh_range root (other_count l) k (id_at t) room second) (first.same_kind ∙ sym second.same_kind)
      ∙ lesser_first (id_at s) (id_at t) (first.same_kind ∙ sym second.same_kind) (first.domain ∙ sym second.domain) (first.run ∙ sym second.run) below

  has_fresh : (text : List ℕ) (o : Object) → HasObject l root text o → FreshAt (kind_of o) text
  has_fresh text o has = ids_fresh l root room.group one text o has

  dataset_fresh : (text : List ℕ) → IsSome (get l.datasets text) → FreshAt kind.Dataset text
  dataset_fresh text there = let x = some_value (get l.datasets text) there in has_fresh text (dataset_object x.0) (inr (inl (x.0, x.1, refl)))

  datatype_fresh : (text : List ℕ) → IsSome (get l.datatypes text) → FreshAt kind.Datatype text
  datatype_fresh text there = let x = some_value (get l.datatypes text) there in has_fresh text (datatype_object x.0) (inr (inr (x.0, x.1, refl)))

  group_fresh : (text : List ℕ) → IsSome (get l.groups text) → FreshAt kind.Group text
  group_fresh text there = let x = some_value (get l.groups text) there in has_fresh text (group_object names root x.0) (inl (x.0, x.1, refl))

  other_fresh : (text : List ℕ) → IsSome (get (others l) text) → FreshAt kind.Group text
  other_fresh text there =
      let x = some_value (get (others l) text) there in
      has_fresh text (group_object names root x.0) (inl (x.0, other_is l.groups l.root text x.0 x.1, refl))

  root_is : id_at l.root ≡ root
  root_is = root_stands l root one

  pub in_order : AreInOrder l root
  in_order =
      let top = some_value (get l.groups l.root) one.root in
      record {
        groups = keys_behind (text_in names root) (renamed_group names root) l.groups l.root top.0 top.1
            (λ s t first second below. texts_rise kind.Group s t (other_fresh s first) (other_fresh t second) (serials_rise l root one s t (inl (first, second)) below))
            (λ t there. texts_rise kind.Group l.root t (group_fresh l.root one.root) (other_fresh t there)
            (subst (λ (i : Id). i.serial < (id_at t).serial) (sym root_is) (root_first l root one t there)))
            ∙ ap (λ i. text_of_id i ∷ map (text_in names root) (keys (others l))) root_is;
        datasets = keys_moved (text_in names root) (λ d. d) l.datasets (λ s t first second below.
            texts_rise kind.Dataset s t (dataset_fresh s first) (dataset_fresh t second) (serials_rise l root one s t (inr (inl (first, second))) below));
        datatypes = keys_moved (text_in names root) (λ t. t) l.datatypes (λ s t first second below.
            texts_rise kind.Datatype s t (datatype_fresh s first) (datatype_fresh t second) (serials_rise l root one s t (inr (inr (first, second))) below));
      }
