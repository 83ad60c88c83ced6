-- The lines of costs.
use Rattle.std.specs.Prelude.{ℕ, List, flat_map}
use Rattle.qs_image.specs.Image.{FunctionRecord}
use Rattle.qs_report.specs.Lines.{cost_line}

-- the line of a function's cost in bytes of stack
abbrev pub record_line : FunctionRecord → List ℕ
record_line f = cost_line f.name f.cost

-- one for each function in order
abbrev pub cost_lines : List FunctionRecord → List ℕ
cost_lines functions = flat_map record_line functions
