-- What functions in code do with the lists that they are passed, and answer. Each says so only where the result is Ok.
use Rattle.std.specs.Prelude.{◌≡◌, List, ◌++◌, Result, IfOk, OnOk}
use Rattle.std.specs.Global.{Vec}
use Rattle.qs_memory.specs.declared.scalar.Scalar.{Scalar}
use Rattle.qs_core.specs.Trees.{CoreExprTree, CoreStmtTree}
use Rattle.qs_core.specs.TreeOf.{core_expr, core_stmt, core_stmts}
use Rattle.qs_core.specs.declared.expressions.CoreExpr.{CoreExpr}
use Rattle.qs_core.specs.declared.labels.CoreLabel.{CoreLabel}
use Rattle.qs_core.specs.declared.statements.CoreStmt.{CoreStmt}
use Rattle.qs_elaborate_bodies.specs.Parts as parts
use Rattle.qs_elaborate_bodies.specs.LocationOf.{location_of}
use Rattle.qs_elaborate_bodies.specs.declared.parts.Location.{Location}

-- ---- lists that are passed

-- these statements stand behind those from before
abbrev pub Adds : {A E : Type 0} → List CoreStmtTree → (old new : Vec CoreStmt) → Result A E → Type 0
Adds ss old new result = OnOk result (core_stmts new.items ≡ core_stmts old.items ++ ss)

-- these labels stand behind those from before
abbrev pub AddsLabels : {A E : Type 0} → List CoreLabel → (old new : Vec CoreLabel) → Result A E → Type 0
AddsLabels labels old new result = OnOk result (new.items ≡ old.items ++ labels)

-- the temporaries of the function are these now
abbrev pub Leaves : {A E : Type 0} → parts.Temporaries → (new : Vec Scalar) → Result A E → Type 0
Leaves ts new result = OnOk result (new.items ≡ ts)

-- ---- answers

-- this expression
abbrev pub Gives : {E : Type 0} → CoreExprTree → Result CoreExpr E → Type 0
Gives a result = IfOk result (λ b. core_expr b ≡ a)

-- this statement
abbrev pub Makes : {E : Type 0} → CoreStmtTree → Result CoreStmt E → Type 0
Makes s result = IfOk result (λ r. core_stmt r ≡ s)

-- these statements
abbrev pub Lists : {E : Type 0} → List CoreStmtTree → Result (Vec CoreStmt) E → Type 0
Lists ss result = IfOk result (λ rs. core_stmts rs.items ≡ ss)

-- this place of a value
abbrev pub Locates : {E : Type 0} → parts.Location → Result Location E → Type 0
Locates at result = IfOk result (λ l. location_of l ≡ at)
