pub mod RelabelLaws
pub mod NodeLaws
pub mod NumberingLoops
pub mod UnitLaws
