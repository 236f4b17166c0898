pub mod KeyLemmas
pub mod GridLemmas
pub mod KeptLemmas
pub mod PickLemmas
pub mod SameLemmas
pub mod WriteLemmas
mod CutLemmas
mod TrackLemmas
mod InstallLemmas
pub mod NextLemmas
mod ChunkLemmas
mod MarkLemmas
mod ArrayLemmas
mod ValueLemmas
pub mod BufferLemmas
mod GrowthLemmas
mod ChangeLemmas
pub mod TouchLemmas
mod ChunkBoxLemmas
pub mod SlabLemmas
mod RowLemmas
mod TurnLemmas
mod StretchLemmas
mod PlaceWalkLemmas
mod PointLemmas
mod AdditionLemmas
mod AccessLemmas
mod EntryLemmas
mod TruncationLemmas
mod ChunkRowLemmas
mod PartLemmas
pub mod BoxCopies
pub mod StridedCopies
