pub mod HalvingLemmas
