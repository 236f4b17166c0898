pub mod KeyedMaps
pub mod TreeMaps
pub mod ValueMaps
pub mod Walks
pub mod Fronts
pub mod Lending
pub mod TextOrders
pub mod PutLemmas
