pub mod PutLaws
pub mod TreeLaws
pub mod TokenLaws
pub mod LayLaws
