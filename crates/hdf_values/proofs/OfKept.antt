pub mod MemberLemmas
pub mod ValueLemmas
pub mod PartLemmas
pub mod NumberLemmas
pub mod PackLemmas
pub mod UnpackLemmas
pub mod TreeLemmas
