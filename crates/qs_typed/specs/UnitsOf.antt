-- The functions that functions in code find in tables, and their variables.
use Rattle.std.specs.Prelude.{◌≡◌, ℕ, List, ◌++◌, map, Result, Vec, OnOk}
use Rattle.std.specs.declared.alloc.Global.{Global}
use Rattle.qs_syntax.specs.TreeOf as source
use Rattle.qs_syntax.specs.Trees.{DeclTree, FunctionTree}
use Rattle.qs_syntax.specs.declared.statements.Stmt.{Stmt}
use Rattle.qs_syntax.specs.declared.units.Decl.{Decl}
use Rattle.qs_syntax.specs.declared.units.Function.{Function}
use Rattle.qs_typed_nodes.specs.Behind.{Continues}
use Rattle.qs_typed_nodes.specs.KnownFunctions.{function_known}
use Rattle.qs_typed_nodes.specs.KnownOf.{known_tree}
use Rattle.qs_typed_units.specs.KnownPrograms.{Tables, body_known, body_places, functions_known}
use Rattle.qs_typed_nodes.specs.PlacesOf.{locals_tree}
use Rattle.qs_typed_forms.specs.Results.{Gives, Makes}
use Rattle.qs_typed_units.specs.TablesOf.{number_lists, tables_tree}
use Rattle.qs_typed_trees.specs.TreeOf.{function_tree, functions_tree}
use Rattle.qs_typed.specs.UnitVariables.{variables_known, variables_of}
use Rattle.qs_typed_nodes.specs.declared.known.Known.{Known}
use Rattle.qs_typed_nodes.specs.declared.places.Locals.{Locals}
use Rattle.qs_typed_trees.specs.declared.program.TypedFunction.{TypedFunction}
use Rattle.qs_typed_units.specs.declared.tables.Tables.{Tables as CodeTables}

-- ---- of a function with this body

abbrev pub KnowsFunction : {E : Type 0} → Known → Function → (body : List Stmt) → Result TypedFunction E → Type 0
KnowsFunction k f body result = Gives function_tree (function_known (known_tree k) (source.function_tree f) (source.stmts_tree body)) result

abbrev pub FindsFunction : {E : Type 0} → CodeTables → Function → (body : List Stmt) → Result TypedFunction E → Type 0
FindsFunction t f body result = Gives function_tree (body_known (tables_tree t) (source.function_tree f) (source.stmts_tree body)) result

abbrev pub FindsPlaces : {E : Type 0} → CodeTables → Function → (body : List Stmt) → Result Locals E → Type 0
FindsPlaces t f body result = Makes locals_tree (body_places (tables_tree t) (source.function_tree f) (source.stmts_tree body)) result

-- ---- of declarations

-- the functions of a declaration stand behind the others
abbrev pub AddsFunctions : {T E : Type 0} → CodeTables → DeclTree → (old new : Vec TypedFunction Global) → Result T E → Type 0
AddsFunctions t d old new result = OnOk result (Continues (functions_known (tables_tree t)) d (functions_tree old) (functions_tree new))

-- the variables of a function, if it has a body
abbrev pub body_variables : Tables → FunctionTree → List (List ℕ)
body_variables t f = variables_of t f f.body

-- the variables that the definition has of this stand behind the others
abbrev pub AddsVariables :
    {X T E : Type 0} → (Tables → X → List (List ℕ)) → CodeTables → X → (old new : Vec (Vec ℕ Global) Global) → Result T E → Type 0
AddsVariables definition t x old new result = OnOk result (number_lists new ≡ number_lists old ++ definition (tables_tree t) x)

abbrev pub variables_in : CodeTables → List Decl → List (List ℕ)
variables_in t ds = variables_known (tables_tree t) (map source.decl_tree ds)
