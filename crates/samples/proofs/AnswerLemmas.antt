-- What is answered to the read of a slab.
use Rattle.std.proofs.Common.{◌≡◌, ℕ, ◌+◌, ◌*◌, ◌^◌, ◌<◌, ◌≤◌, Bool, cond, codes, length, Some, refl, ap, ◌∙◌, arith}
use Rattle.std.proofs.lemmas.Bool.{le-leb}
use Rattle.hdf_types.specs.Reading.{size_of}
use Rattle.shapes.specs.declared.Shape.{Shape}
use Rattle.chunk_store.specs.Grids.{Grid, reads}
use Rattle.hyperslab.specs.Selected.{extents, slab_cells}
use Rattle.object_ops.specs.Replies.{only}
use Rattle.object_ops.specs.declared.replies.Reply.TheVariants.{Done, Refused}
use Rattle.object_ops.specs.declared.refusals.Refusal.TheVariants.{TooMany}
use Rattle.object_acts.specs.Arrays.Arrays.{bytes_for, nested_by, part_read, part_tree, value_read}
use Rattle.object_acts.specs.Arrays.Faults.{most_bytes}
use Rattle.samples.specs.Trees.{IsSample, read_tree, slab_of, slab_text}
use Rattle.samples.proofs.ReadLemmas.{slab_many, slab_read}
use Rattle.samples.proofs.SelectLemmas.{slab_spelled}

tree_is : (a n : ℕ) (g : Grid) → n < 2 ^ 64 → a + 100 ≤ 1000 → IsSample n g → part_tree g (slab_of a) ≡ read_tree n a 100 143
tree_is a n g small low sample =
    let s = slab_of a in
    ap (λ (t : Shape). nested_by t g.kind (extents s) (reads g (slab_cells s g.shape))) sample.shape
    ∙ slab_read a n s g small low sample refl

few_bytes : (many size : ℕ) → many ≡ 14300 → size ≡ 4 → many * size ≤ most_bytes
few_bytes many size h k =
    let all : many * size ≡ 57200 = ap (λ m. m * size) h ∙ ap (λ m. 14300 * m) k in
    omega (arith, all)

bytes_few : (a n : ℕ) (g : Grid) → a + 100 ≤ 1000 → IsSample n g → bytes_for g (length (slab_cells (slab_of a) g.shape)) ≤ most_bytes
bytes_few a n g low sample =
    let many : length (slab_cells (slab_of a) g.shape) ≡ 14300 = slab_many a n g low sample in
    let size : size_of g.kind ≡ 4 = ap size_of sample.kind in
    few_bytes (length (slab_cells (slab_of a) g.shape)) (size_of g.kind) many size

pub slab_answered : (a n : ℕ) (g : Grid) → n < 2 ^ 64 → a + 100 ≤ 1000 → IsSample n g → value_read (Some (slab_text a)) g ≡ Done 200 (only (codes "value") (read_tree n a 100 143))
slab_answered a n g small low sample =
    let s = slab_of a in
    let bytes = bytes_for g (length (slab_cells s g.shape)) in
    ap (part_read g) (slab_spelled a g.shape sample.limits low sample.shape)
    ∙ ap (λ (b : Bool). cond b (Done 200 (only (codes "value") (part_tree g s))) (Refused (TooMany bytes most_bytes))) (le-leb bytes most_bytes (bytes_few a n g low sample))
    ∙ ap (λ d. Done 200 (only (codes "value") d)) (tree_is a n g small low sample)
