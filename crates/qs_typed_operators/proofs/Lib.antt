pub mod OperationTypes
