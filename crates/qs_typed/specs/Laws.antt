-- What is promised of trees that are found by the numbers of nodes: where the definition gives a typed tree, they are the same.
use Rattle.std.specs.Prelude.{ℕ, List}
use Rattle.qs_syntax.specs.Trees.{ExprTree, FunctionTree, Stmts}
use Rattle.qs_types.specs.Placed.{Local}
use Rattle.qs_meaning.specs.Names.{Scope}
use Rattle.qs_meaning.specs.Expressions.{typed}
use Rattle.qs_meaning.specs.Statements.{statements_typed}
use Rattle.qs_meaning.specs.Units.{function_with}
use Rattle.qs_typed_nodes.specs.Known.{Known, known}
use Rattle.qs_typed_nodes.specs.KnownStatements.{statements_known}
use Rattle.qs_typed_nodes.specs.KnownFunctions.{function_known}
use Rattle.qs_typed_nodes.specs.Agrees.{Keeps, ExpressionAt, StatementsAt}
use Rattle.qs_typed.specs.AgreesFunctions.{FunctionAt}

abbrev pub ExpressionsAreTyped : Type 0
ExpressionsAreTyped = (k : Known) (s : Scope) (e : ExprTree) → ExpressionAt k s e → Keeps (typed s e) (known k e)

abbrev pub StatementsAreTyped : Type 0
StatementsAreTyped = (k : Known) (s : Scope) (ss : Stmts) → StatementsAt k s ss → Keeps (statements_typed s ss) (statements_known k ss)

abbrev pub FunctionsAreTyped : Type 0
FunctionsAreTyped =
    (k : Known) (s : Scope) (f : FunctionTree) (body : Stmts) (addressed : List ℕ) (ps ls : List Local) → FunctionAt k s f body addressed ps ls
    → Keeps (function_with s f body addressed ps ls) (function_known k f body)
