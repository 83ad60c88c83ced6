-- What those in code that are declared stand for, and what code declares.
use Rattle.std.specs.Prelude.{◌≡◌, List, ◌++◌, Result, OnOk, map}
use Rattle.std.specs.Global.{Vec}
use Rattle.qs_syntax.specs.TreeOf.{variable_tree, parameter_tree, stmts_tree, function_tree}
use Rattle.qs_syntax.specs.declared.declarations.Variable.{Variable}
use Rattle.qs_syntax.specs.declared.declarations.Parameter.{Parameter}
use Rattle.qs_syntax.specs.declared.statements.Stmt.{Stmt}
use Rattle.qs_syntax.specs.declared.units.Function.{Function}
use Rattle.qs_elaborate_bodies.specs.Names as names
use Rattle.qs_elaborate.specs.declared.names.Declared.{Declared}

abbrev pub declared_of : Declared → names.Declared
declared_of d = record { node = d.node; name = d.name }

abbrev pub declared_variables : List Variable → List names.Declared
declared_variables vs = map names.declared_variable (map variable_tree vs)

abbrev pub declared_parameters : List Parameter → List names.Declared
declared_parameters ps = map names.declared_parameter (map parameter_tree ps)

abbrev pub declared_in : Function → (body : List Stmt) → List names.Declared
declared_in f body = names.function_declares (function_tree f) (stmts_tree body)

-- these are declared behind those from before; it says so only where the result is Ok
abbrev pub Declares : {A E : Type 0} → List names.Declared → (old new : Vec Declared) → Result A E → Type 0
Declares ds old new result = OnOk result (map declared_of new.items ≡ map declared_of old.items ++ ds)
