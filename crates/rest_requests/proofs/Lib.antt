mod NumberLemmas
mod OrderLemmas
pub mod OfQueries
pub mod OfRoutes
