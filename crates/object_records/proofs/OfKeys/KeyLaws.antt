-- No two records have one key.
use Rattle.std.proofs.Common.{◌≡◌, ℕ, zero, suc, List, drop, get_or, refl, sym, ap, ◌∙◌, arith}
use Rattle.std.specs.Int.{from_be_bytes, w128}
use Rattle.object_ids.specs.IdOrder.{kind_rank}
use Rattle.object_ids.specs.IdValues.{Id}
use Rattle.object_ids.specs.Ids.{InRange, id_in}
use Rattle.object_ids.specs.declared.ids.Kind.{Kind}
use Rattle.object_ids.specs.declared.ids.Kind.TheVariants.{Group, Dataset, Datatype}
use Rattle.object_records.specs.Keys.Keys.{IsChunk, IsSubject, Subject, chunk_key, id_bytes, key_of, object_key}
use Rattle.object_records.specs.Keys.Keys.{the_run, node, object, chunk, next_number}
use Rattle.object_records.proofs.OfKeys.IdLaws.{chunk_parts, id_again}
use Rattle.object_records.proofs.OfKeys.NumberLaws.{numbers_once}

-- two ids of one kind with the same bytes are the same
id_once : (a b : Id) → InRange a → InRange b → a.kind ≡ b.kind → id_bytes a ≡ id_bytes b → a ≡ b
id_once a b ha hb kind bytes =
    sym (id_again a ha) ∙ (λ i. id_in (kind i) (from_be_bytes w128 (bytes i))) ∙ id_again b hb

-- the kind of a rank
abbrev kind_at : ℕ → Kind
kind_at zero = Group
kind_at (suc zero) = Dataset
kind_at (suc (suc n)) = Datatype

kind_again : (k : Kind) → kind_at (kind_rank k) ≡ k
kind_again Group = refl
kind_again Dataset = refl
kind_again Datatype = refl

pub objects_once : (a b : Id) → InRange a → InRange b → object_key a ≡ object_key b → a ≡ b
objects_once a b ha hb e =
    id_once a b ha hb (sym (kind_again a.kind) ∙ ap (λ (k : List ℕ). kind_at (get_or k 1 0)) e ∙ kind_again b.kind) (ap (λ (k : List ℕ). drop 2 k) e)

chunks_once : (a b : Id) (i j : List ℕ) → IsChunk a i → IsChunk b j → chunk_key a i ≡ chunk_key b j → chunk a i ≡ chunk b j
chunks_once a b i j ha hb e =
    let left = chunk_parts a i (chunk_key b j) e in
    let right = chunk_parts b j (chunk_key b j) refl in
    let id = id_once a b ha.id hb.id (ha.kind ∙ sym hb.kind) (sym left.0 ∙ right.0) in
    let index = numbers_once i j ha.numbers.small hb.numbers.small (sym left.1 ∙ right.1) in
    λ k. chunk (id k) (index k)

-- the first bytes of two keys
firsts : (a b : Subject) → key_of a ≡ key_of b → get_or (key_of a) 0 0 ≡ get_or (key_of b) 0 0
firsts a b e = ap (λ (k : List ℕ). get_or k 0 0) e

pub same_subject : (a b : Subject) → IsSubject a → IsSubject b → key_of a ≡ key_of b → a ≡ b
same_subject the_run the_run ha hb e = refl
same_subject the_run (node p) ha hb e = absurd (let s : 1 ≡ 2 = firsts the_run (node p) e in omega arith)
same_subject the_run (object b) ha hb e = absurd (let s : 1 ≡ 3 = firsts the_run (object b) e in omega arith)
same_subject the_run (chunk b j) ha hb e = absurd (let s : 1 ≡ 4 = firsts the_run (chunk b j) e in omega arith)
same_subject the_run next_number ha hb e = absurd (let s : 1 ≡ 5 = firsts the_run next_number e in omega arith)
same_subject (node p) the_run ha hb e = absurd (let s : 2 ≡ 1 = firsts (node p) the_run e in omega arith)
same_subject (node p) (node q) ha hb e = ap node (ap (λ (k : List ℕ). drop 1 k) e)
same_subject (node p) (object b) ha hb e = absurd (let s : 2 ≡ 3 = firsts (node p) (object b) e in omega arith)
same_subject (node p) (chunk b j) ha hb e = absurd (let s : 2 ≡ 4 = firsts (node p) (chunk b j) e in omega arith)
same_subject (node p) next_number ha hb e = absurd (let s : 2 ≡ 5 = firsts (node p) next_number e in omega arith)
same_subject (object a) the_run ha hb e = absurd (let s : 3 ≡ 1 = firsts (object a) the_run e in omega arith)
same_subject (object a) (node q) ha hb e = absurd (let s : 3 ≡ 2 = firsts (object a) (node q) e in omega arith)
same_subject (object a) (object b) ha hb e = ap object (objects_once a b ha hb e)
same_subject (object a) (chunk b j) ha hb e = absurd (let s : 3 ≡ 4 = firsts (object a) (chunk b j) e in omega arith)
same_subject (object a) next_number ha hb e = absurd (let s : 3 ≡ 5 = firsts (object a) next_number e in omega arith)
same_subject (chunk a i) the_run ha hb e = absurd (let s : 4 ≡ 1 = firsts (chunk a i) the_run e in omega arith)
same_subject (chunk a i) (node q) ha hb e = absurd (let s : 4 ≡ 2 = firsts (chunk a i) (node q) e in omega arith)
same_subject (chunk a i) (object b) ha hb e = absurd (let s : 4 ≡ 3 = firsts (chunk a i) (object b) e in omega arith)
same_subject (chunk a i) (chunk b j) ha hb e = chunks_once a b i j ha hb e
same_subject (chunk a i) next_number ha hb e = absurd (let s : 4 ≡ 5 = firsts (chunk a i) next_number e in omega arith)
same_subject next_number the_run ha hb e = absurd (let s : 5 ≡ 1 = firsts next_number the_run e in omega arith)
same_subject next_number (node q) ha hb e = absurd (let s : 5 ≡ 2 = firsts next_number (node q) e in omega arith)
same_subject next_number (object b) ha hb e = absurd (let s : 5 ≡ 3 = firsts next_number (object b) e in omega arith)
same_subject next_number (chunk b j) ha hb e = absurd (let s : 5 ≡ 4 = firsts next_number (chunk b j) e in omega arith)
same_subject next_number next_number ha hb e = refl
