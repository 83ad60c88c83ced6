pub mod AgreesFunctions
pub mod Laws
pub mod UnitVariables
pub mod UnitsOf
pub mod UnitLaws
pub mod BlockLaws
