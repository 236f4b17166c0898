pub mod CatalogueLemmas
pub mod NodeLemmas
pub mod PeopleLemmas
pub mod SettingLemmas
pub mod TableLemmas
pub mod Serials
