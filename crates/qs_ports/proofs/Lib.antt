pub mod Sinks
pub mod Wholes
pub mod Shelves
pub mod CellLaws
pub mod CellScans
pub mod ShelfChanges
pub mod MemoryStores
