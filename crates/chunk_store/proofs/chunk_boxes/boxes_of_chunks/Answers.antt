use Rattle.chunk_store.proofs.ChunkBoxLemmas.{box_of_chunk, offset_in_chunk, length-corner, corner_ends}
use Rattle.chunk_store.proofs.chunk_boxes.boxes_of_chunks.Goals as goal

pub returns : goal.returns
returns c = record {
  there = box_of_chunk;
  offset = λ chunk at h e. offset_in_chunk chunk at e;
  rank = length-corner;
  ends = corner_ends;
}
