use Rattle.std.proofs.Common.{◌≡◌, ℕ, List, [], ◌∷◌, ◌++◌, is_some, inl, inr, refl, sym, ap, subst, ◌∙◌}
use Rattle.std.specs.declared.vec.Vec.{Vec}
use Rattle.std.specs.declared.alloc.Global.{Global}
use Rattle.chunk_store.proofs.KeyLemmas.{find-get}
use Rattle.chunk_store.proofs.MarkLemmas.{set_or_kept}
use Rattle.chunk_store.specs.Buffers.{IsUndoneBy, held_but}
use Rattle.chunk_store.specs.Cells.{find_in}
use Rattle.containers.proofs.Plain.{none_of}
use Rattle.chunk_store.proofs.BufferLemmas.{added_bytes, added_flag, put_other, same_bytes, same_flag}
use Rattle.chunk_store.proofs.GrowthLemmas.{undone_more, unheld}
use Rattle.chunk_store.proofs.buffers.add_chunk.Goals as goal

pub returns-then-contains_key-clause-there : goal.returns-then-contains_key-clause-there
returns-then-contains_key-clause-there c = sym (ap is_some (find-get c.args.chunks.now c.args.index.now)) ∙ sym c.contains_key.ensures ∙ c.if-contains_key.true

pub returns-clause-same : goal.returns-clause-same
returns-clause-same c = λ q rank.
    let m = c.args.chunks.now in
    let n = c.put_chunk.new.chunks in
    let k = c.args.index.now in
    let f = c.args.frame.now in
    let none = sym (ap is_some (find-get c.args.chunks.now c.args.index.now)) ∙ sym c.contains_key.ensures ∙ c.if-contains_key.false in
    elim (set_or_kept c.put_chunk.result c.put_chunk.ensures.done c.put_chunk.ensures.kept) [
      | inl done ↦ added_bytes m n k _ done f c.requires.frame none c.in_ok-bytes.ensures.each q rank
      | inr kept ↦ same_bytes m n kept f q
    ]

pub returns-clause-noted : goal.returns-clause-noted
returns-clause-noted c = λ i.
    let m = c.args.chunks.now in
    let n = c.put_chunk.new.chunks in
    let none = sym (ap is_some (find-get c.args.chunks.now c.args.index.now)) ∙ sym c.contains_key.ensures ∙ c.if-contains_key.false in
    elim (set_or_kept c.put_chunk.result c.put_chunk.ensures.done c.put_chunk.ensures.kept) [
      | inl done ↦ added_flag m n c.args.index.now _ done none refl i
      | inr kept ↦ inl (same_flag m n kept i)
    ]

pub returns-in_err-list-clause-undone : goal.returns-in_err-list-clause-undone
returns-in_err-list-clause-undone c = λ before was i. ap (λ (v : Vec (List ℕ) Global). held_but v.items c.args.chunks.now i) c.list.ensures.added ∙ was i

pub returns-then-contains_key-clause-undone : goal.returns-then-contains_key-clause-undone
returns-then-contains_key-clause-undone c = λ before was i. ap (λ (v : Vec (List ℕ) Global). held_but v.items c.args.chunks.now i) c.list.ensures.added ∙ was i

pub returns-in_err-push-clause-undone : goal.returns-in_err-push-clause-undone
returns-in_err-push-clause-undone c = λ before was i. ap (λ ks. held_but ks c.args.chunks.now i) (c.in_err-push.ensures.items ∙ ap (λ (v : Vec (List ℕ) Global). v.items) c.list.ensures.added) ∙ was i

pub returns-in_err-bytes-clause-undone : goal.returns-in_err-bytes-clause-undone
returns-in_err-bytes-clause-undone c = λ before was.
    let m = c.args.chunks.now in
    subst (λ (ks : List (List ℕ)). IsUndoneBy ks before m) (sym (c.in_ok-push.ensures.items ∙ ap (λ (v : Vec (List ℕ) Global). v.items ++ c.args.index.now ∷ []) c.list.ensures.added)) (undone_more before m m c.args.changes.now.added.items c.args.index.now (none_of (find_in c.args.chunks.now c.args.index.now) (unheld c.args.chunks.now c.args.index.now c.contains_key.result c.contains_key.ensures c.if-contains_key.false)) (λ i apart. refl) was)

pub returns-clause-undone : goal.returns-clause-undone
returns-clause-undone c = λ before was.
    let m = c.args.chunks.now in
    let n = c.put_chunk.new.chunks in
    let k = c.args.index.now in
    subst (λ (ks : List (List ℕ)). IsUndoneBy ks before n) (sym (c.in_ok-push.ensures.items ∙ ap (λ (v : Vec (List ℕ) Global). v.items ++ c.args.index.now ∷ []) c.list.ensures.added))
    (undone_more before m n c.args.changes.now.added.items c.args.index.now (none_of (find_in c.args.chunks.now c.args.index.now) (unheld c.args.chunks.now c.args.index.now c.contains_key.result c.contains_key.ensures c.if-contains_key.false))
    (elim (set_or_kept c.put_chunk.result c.put_chunk.ensures.done c.put_chunk.ensures.kept) as (λ v. (i : List ℕ) → (i ≡ c.args.index.now → ⊥) → find_in c.put_chunk.new.chunks i ≡ find_in c.args.chunks.now i) [
      | inl done ↦ put_other m n k _ done
      | inr kept ↦ λ i apart. kept i
    ]) was)
