pub mod NodeLaws
pub mod ScanLaws
pub mod StepLaws
pub mod ReadingScans
pub mod ScanResults
pub mod OneReading
pub mod PartLaws
pub mod PlaceLaws
pub mod WritingLaws
pub mod SpellingLaws
pub mod LayoutLaws
pub mod MarkLaws
mod Examples
mod NestingExamples
pub mod ReadWritable
