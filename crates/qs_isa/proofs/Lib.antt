pub mod ByOpcode
pub mod RoundTrip
