pub mod PartLaws
pub mod LeafLaws
pub mod FlatLaws
pub mod RowLaws
pub mod AssertionLaws
pub mod FirstLaws
pub mod CombinationLaws
pub mod RangeLaws
