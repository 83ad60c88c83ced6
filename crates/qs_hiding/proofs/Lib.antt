pub mod HiddenMemory
pub mod HiddenValues
pub mod HiddenRuns
pub mod HiddenExamples
