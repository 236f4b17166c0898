-- Which trees are entries.
use Rattle.std.proofs.Common.{◌≡◌, ◌⊎◌, inl, inr, Bool, Option, Some, None, refl, sym, ◌∙◌, true≢false}
use Rattle.serde_json.specs.Data.{Data, null, boolean, number, string, array, object}
use Rattle.serde_json.specs.Find.{as_object}
use Rattle.access_lists.specs.declared.right.Right.{Right}
use Rattle.access_lists.specs.declared.right.Right.TheVariants.{Create, Read, Update, Delete, ReadAcl, UpdateAcl}
use Rattle.access_lists.specs.declared.rights.Rights.{Rights}
use Rattle.access_lists.specs.RightWords.{holds, right_name}
use Rattle.access_lists.specs.EntryTrees.{IsEntry, entry_in, rights_of, truth_at}

-- the truth values of six keys, by their rights
abbrev of_right : (c r u d ra ua : Option Bool) → Right → Option Bool
of_right c r u d ra ua Create = c
of_right c r u d ra ua Read = r
of_right c r u d ra ua Update = u
of_right c r u d ra ua Delete = d
of_right c r u d ra ua ReadAcl = ra
of_right c r u d ra ua UpdateAcl = ua

read_each : (c r u d ra ua : Option Bool) (entry : Rights) → rights_of c r u d ra ua ≡ Some entry → (right : Right) → of_right c r u d ra ua right ≡ Some (holds right entry)
read_each (Some c) (Some r) (Some u) (Some d) (Some ra) (Some ua) entry e Create = cc
read_each (Some c) (Some r) (Some u) (Some d) (Some ra) (Some ua) entry e Read = cc
read_each (Some c) (Some r) (Some u) (Some d) (Some ra) (Some ua) entry e Update = cc
read_each (Some c) (Some r) (Some u) (Some d) (Some ra) (Some ua) entry e Delete = cc
read_each (Some c) (Some r) (Some u) (Some d) (Some ra) (Some ua) entry e ReadAcl = cc
read_each (Some c) (Some r) (Some u) (Some d) (Some ra) (Some ua) entry e UpdateAcl = cc
read_each None r u d ra ua entry e right = cc
read_each (Some c) None u d ra ua entry e right = cc
read_each (Some c) (Some r) None d ra ua entry e right = cc
read_each (Some c) (Some r) (Some u) None ra ua entry e right = cc
read_each (Some c) (Some r) (Some u) (Some d) None ua entry e right = cc
read_each (Some c) (Some r) (Some u) (Some d) (Some ra) None entry e right = cc

each_read : (c r u d ra ua : Option Bool) (entry : Rights) → ((right : Right) → of_right c r u d ra ua right ≡ Some (holds right entry)) → rights_of c r u d ra ua ≡ Some entry
each_read c r u d ra ua entry each =
    (λ i. rights_of (each Create i) (each Read i) (each Update i) (each Delete i) (each ReadAcl i) (each UpdateAcl i))

one_wrong : (c r u d ra ua : Option Bool) → rights_of c r u d ra ua ≡ None → (right : Right) × (of_right c r u d ra ua right ≡ None)
one_wrong (Some c) (Some r) (Some u) (Some d) (Some ra) (Some ua) e = cc
one_wrong None r u d ra ua e = (Create, refl)
one_wrong (Some c) None u d ra ua e = (Read, refl)
one_wrong (Some c) (Some r) None d ra ua e = (Update, refl)
one_wrong (Some c) (Some r) (Some u) None ra ua e = (Delete, refl)
one_wrong (Some c) (Some r) (Some u) (Some d) None ua e = (ReadAcl, refl)
one_wrong (Some c) (Some r) (Some u) (Some d) (Some ra) None e = (UpdateAcl, refl)

wrong_one : (c r u d ra ua : Option Bool) (right : Right) → of_right c r u d ra ua right ≡ None → rights_of c r u d ra ua ≡ None
wrong_one (Some c) (Some r) (Some u) (Some d) (Some ra) (Some ua) Create e = cc
wrong_one (Some c) (Some r) (Some u) (Some d) (Some ra) (Some ua) Read e = cc
wrong_one (Some c) (Some r) (Some u) (Some d) (Some ra) (Some ua) Update e = cc
wrong_one (Some c) (Some r) (Some u) (Some d) (Some ra) (Some ua) Delete e = cc
wrong_one (Some c) (Some r) (Some u) (Some d) (Some ra) (Some ua) ReadAcl e = cc
wrong_one (Some c) (Some r) (Some u) (Some d) (Some ra) (Some ua) UpdateAcl e = cc
wrong_one None r u d ra ua right e = refl
wrong_one (Some c) None u d ra ua right e = refl
wrong_one (Some c) (Some r) None d ra ua right e = refl
wrong_one (Some c) (Some r) (Some u) None ra ua right e = refl
wrong_one (Some c) (Some r) (Some u) (Some d) None ua right e = refl
wrong_one (Some c) (Some r) (Some u) (Some d) (Some ra) None right e = refl

abbrev at : Data → Right → Option Bool
at d right = truth_at (right_name right) d

by_right : (d : Data) (right : Right) → of_right (at d Create) (at d Read) (at d Update) (at d Delete) (at d ReadAcl) (at d UpdateAcl) right ≡ truth_at (right_name right) d
by_right d Create = refl
by_right d Read = refl
by_right d Update = refl
by_right d Delete = refl
by_right d ReadAcl = refl
by_right d UpdateAcl = refl

six : Data → Option Rights
six d = rights_of (at d Create) (at d Read) (at d Update) (at d Delete) (at d ReadAcl) (at d UpdateAcl)

six_each : (d : Data) (entry : Rights) → six d ≡ Some entry → (right : Right) → truth_at (right_name right) d ≡ Some (holds right entry)
unfolding six
six_each d entry e right = sym (by_right d right) ∙ read_each _ _ _ _ _ _ entry e right

each_six : (d : Data) (entry : Rights) → ((right : Right) → truth_at (right_name right) d ≡ Some (holds right entry)) → six d ≡ Some entry
unfolding six
each_six d entry each = each_read _ _ _ _ _ _ entry (λ right. by_right d right ∙ each right)

-- an entry has a truth value at each key
pub entry_is : (d : Data) (entry : Rights) → entry_in d ≡ Some entry → IsEntry d entry
unfolding six
entry_is (object ms) entry e = (refl, six_each (object ms) entry e)
entry_is null entry e = cc
entry_is (boolean b) entry e = cc
entry_is (number n) entry e = cc
entry_is (string s) entry e = cc
entry_is (array ds) entry e = cc

pub is_entry : (d : Data) (entry : Rights) → IsEntry d entry → entry_in d ≡ Some entry
unfolding six
is_entry (object ms) entry h = each_six (object ms) entry h.1
is_entry null entry h = absurd (true≢false (sym h.0))
is_entry (boolean b) entry h = absurd (true≢false (sym h.0))
is_entry (number n) entry h = absurd (true≢false (sym h.0))
is_entry (string s) entry h = absurd (true≢false (sym h.0))
is_entry (array ds) entry h = absurd (true≢false (sym h.0))

-- and what is none
abbrev pub IsOther : Data → Type 0
IsOther d = (as_object d ≡ None) ⊎ ((right : Right) × (truth_at (right_name right) d ≡ None))

pub other_is : (d : Data) → entry_in d ≡ None → IsOther d
other_is (object ms) e = let found = one_wrong _ _ _ _ _ _ e in inr (found.0, sym (by_right (object ms) found.0) ∙ found.1)
other_is null e = inl refl
other_is (boolean b) e = inl refl
other_is (number n) e = inl refl
other_is (string s) e = inl refl
other_is (array ds) e = inl refl

pub is_other : (d : Data) → IsOther d → entry_in d ≡ None
is_other (object ms) (inl e) = cc
is_other (object ms) (inr found) = wrong_one _ _ _ _ _ _ found.0 (by_right (object ms) found.0 ∙ found.1)
is_other null h = refl
is_other (boolean b) h = refl
is_other (number n) h = refl
is_other (string s) h = refl
is_other (array ds) h = refl
