use Rattle.std.proofs.Common.{◌≡◌, ℕ, ◌≤◌, ◌+◌, ◌*◌, List, All, length, replicate, sym, ap, subst, ◌∙◌, arith}
use Rattle.std.proofs.lemmas.List.{with_items_is}
use Rattle.chunk_store.specs.Slabs.{AreReady, IsChunkRead}
use Rattle.chunk_store.specs.Touched.{touched_count}
use Rattle.chunk_store.proofs.TouchLemmas.{same_count, same_at}
use Rattle.chunk_store.proofs.SlabLemmas.{AreChunksRead, read_first, read_more, read_done, ready_first, ready_more}
use Rattle.chunk_store.proofs.slabs.read_slab.Goals as goal

pub loop-number-init : goal.loop-number-init
loop-number-init c =
    let f = c.args.frame.now in
    let many = ap (λ n. n * f.size) c.count.ensures.product in
    record {
      len = omega (arith, c.in_ok-out.out.ok.0, c.in_ok-out.ensures.len, many);
      ready = λ z.
          ready_first c.args.chunks.now f c.args.slab.now c.in_ok-out.out.items c.requires.frame (subst (λ (bs : List ℕ). All (λ b. b ≡ 0) bs) c.as_slice.ensures.value (c.are_zero-ready.ensures.0 z))
          (c.in_ok-out.ensures.items_if_clones_equal (λ y e. e) ∙ ap (λ n. replicate n 0) many);
      read = read_first c.args.chunks.now f c.args.slab.now c.in_ok-out.out.items;
    }

pub read_chunk-requires-clause-ready : goal.read_chunk-requires-clause-ready
read_chunk-requires-clause-ready c = λ z. subst (AreReady c.args.chunks.now c.args.frame.now c.args.slab.now) (sym c.as_mut_slice.ensures.value) (c.loop-number.invariant.ready z)

pub loop-number-preserved : goal.loop-number-preserved
loop-number-preserved c =
    let m = c.args.chunks.now in
    let f = c.args.frame.now in
    let s = c.args.slab.now in
    let v = c.loop-number.out in
    let new = c.read_chunk.new.out in
    let t = c.new-touched.ensures in
    let size : length c.read_chunk.new.out ≡ c.loop-number.out.len = omega (arith, c.read_chunk.ensures.len, ap length c.as_mut_slice.ensures.value, c.loop-number.out.ok.0) in
    let items = with_items_is c.loop-number.out c.read_chunk.new.out size in
    let box = subst (λ os. IsChunkRead m f s c.index-index.result os new) c.as_mut_slice.ensures.value c.read_chunk.ensures.read in
    record {
      len = ap length items ∙ c.read_chunk.ensures.len ∙ ap length c.as_mut_slice.ensures.value ∙ c.loop-number.invariant.len;
      ready = λ z. subst (AreReady m f s) (sym items) (ready_more m f s c.index-index.result v.items new (c.loop-number.invariant.ready z) box);
      read = subst (AreChunksRead m f s (c.loop-number.number + 1)) (sym items)
          (read_more m f s c.loop-number.number c.index-index.result v.items new (c.index-index.ensures.same ∙ same_at c.new-touched.result s f.layout.chunk c.loop-number.number t.slab t.chunk) c.loop-number.invariant.read box);
    }

pub returns : goal.returns
returns c = λ dims fits.
    let t = c.new-touched.ensures in
    let f = c.args.frame.now in
    let all : touched_count c.args.slab.now c.args.frame.now.layout.chunk ≤ c.loop-number.number = omega (arith, c.many-number-end.ensures, same_count c.new-touched.result c.args.slab.now f.layout.chunk t.slab t.chunk) in
    read_done c.args.chunks.now f c.args.slab.now c.loop-number.number c.loop-number.out.items c.requires.slab t.touched all c.loop-number.invariant.len c.loop-number.invariant.read dims fits
