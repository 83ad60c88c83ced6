-- Lists of statements in code, and what stands behind a first part that was pushed already.
use Rattle.std.specs.Prelude.{◌||◌, List, [], ◌++◌, if◌then◌else◌}
use Rattle.qs_memory.specs.declared.scalar.Scalar.{Scalar}
use Rattle.qs_memory.specs.declared.scalar.Scalar.TheVariants as scalars
use Rattle.qs_core.specs.Trees.{CoreExprTree, CoreStmtTree}
use Rattle.qs_core.specs.Trees as core
use Rattle.qs_meaning.specs.Typed.{Conversion, Expr}
use Rattle.qs_elaborate_bodies.specs.Acting.{acts}
use Rattle.qs_elaborate_bodies.specs.Laws.{has_any}
use Rattle.qs_elaborate_bodies.specs.Parts.{Temporaries, with_temporary, Valued, Location, Located, pure, joined}
use Rattle.qs_elaborate_bodies.specs.Expressions.{and_branching, or_branching, choice_branching, choice_joined, expression_core}

abbrev pub valued : List CoreStmtTree → CoreExprTree → Temporaries → Valued
valued ss a ts = record { statements = ss; value = a; temporaries = ts }

abbrev pub located : Location → Temporaries → Located
located l ts = record { statements = []; location = l; temporaries = ts }

-- what h gives, behind the statements of g
abbrev pub behind : Valued → Valued → Valued
behind g h = record { statements = g.statements ++ h.statements; value = h.value; temporaries = h.temporaries }

-- ---- `&&`, `||` and `?:`, behind the statements of the first operand, whose value is v

abbrev pub and_behind : CoreExprTree → Expr → Temporaries → Valued
and_behind v b ts =
    if acts b then and_branching (pure v ts) (expression_core b ts)
    else joined core.logical_and (pure v ts) (expression_core b ts)

abbrev pub or_behind : CoreExprTree → Expr → Temporaries → Valued
or_behind v b ts =
    if acts b then or_branching (pure v ts) (expression_core b (with_temporary ts scalars.Int))
    else joined core.logical_or (pure v ts) (expression_core b ts)

-- the second operand gave this
abbrev pub choice_behind : Scalar → (second third : Conversion) → CoreExprTree → Valued → Expr → Valued
choice_behind s second third v met b =
    if has_any met.statements || acts b
    then choice_branching s second third (pure v []) met (expression_core b (with_temporary met.temporaries s))
    else choice_joined second third (pure v []) met (expression_core b met.temporaries)
