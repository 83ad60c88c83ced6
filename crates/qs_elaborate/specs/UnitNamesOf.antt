-- The names of functions in code, where the nodes of their variables are known.
use Rattle.std.specs.Prelude.{◌≡◌, ℕ, List, ◌++◌, Result, OnOk, map}
use Rattle.std.specs.Global.{Vec}
use Rattle.qs_syntax.specs.Trees.{ParameterTree}
use Rattle.qs_syntax.specs.TreeOf.{parameter_tree, stmts_tree, function_tree, decl_tree}
use Rattle.qs_syntax.specs.declared.declarations.Parameter.{Parameter}
use Rattle.qs_syntax.specs.declared.statements.Stmt.{Stmt}
use Rattle.qs_syntax.specs.declared.units.Function.{Function}
use Rattle.qs_syntax.specs.declared.units.Decl.{Decl}
use Rattle.qs_typed_units.specs.TablesOf.{numbers}
use Rattle.qs_elaborate_bodies.specs.Names as names
use Rattle.qs_elaborate.specs.NamesOf.{names_of}
use Rattle.qs_elaborate.specs.UnitNames as unit_names
use Rattle.qs_elaborate.specs.declared.names.FunctionNames.{FunctionNames}

abbrev pub parameter_names : List Parameter → List (List ℕ)
parameter_names ps = map (λ (p : ParameterTree). names.parameter_name p.name) (map parameter_tree ps)

abbrev pub names_with : Function → (body : List Stmt) → (nodes : List ℕ) → names.FunctionNames
names_with f body nodes = unit_names.names_with (function_tree f) (stmts_tree body) nodes

abbrev pub function_named : (nodes : List ℕ) → Function → List names.FunctionNames
function_named nodes f = unit_names.function_named nodes (function_tree f) (function_tree f).body

-- each list has the nodes of one function
abbrev pub names_in : List (Vec ℕ) → List Decl → List names.FunctionNames
names_in all ds = unit_names.declarations_named (map numbers all) (map decl_tree ds)

-- these names stand behind those from before; it says so only where the result is Ok
abbrev pub AddsNames : {A E : Type 0} → List names.FunctionNames → (old new : Vec FunctionNames) → Result A E → Type 0
AddsNames ns old new result = OnOk result (map names_of new.items ≡ map names_of old.items ++ ns)
