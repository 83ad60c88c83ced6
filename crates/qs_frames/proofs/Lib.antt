pub mod FrameLaws
pub mod OffsetLaws
mod FrameExamples
