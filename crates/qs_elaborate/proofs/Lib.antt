mod Steps
mod PieceRuns
mod NamesByNode
mod UnitNames
