-- What the code's values stand for, of declarations, statements and units.
use Rattle.std.specs.Prelude.{ℕ, List, [], length, Option, Result, option_map, Box}
use Rattle.std.specs.Borrow.{Bor}
use Rattle.std.specs.declared.alloc.Global.{Global}
use Rattle.std.specs.declared.vec.Vec.{Vec}
use Rattle.qs_syntax_vocabulary.specs.declared.terminal.Terminal.{Terminal}
use Rattle.qs_syntax.specs.declared.statements.Stmt.{Stmt}
use Rattle.qs_syntax.specs.declared.units.Decl.{Decl}
use Rattle.qs_syntax.specs.declared.declarations.Parameter.{Parameter}
use Rattle.qs_syntax.specs.Trees.{unnumbered, ParameterTree, StmtTree, Stmts, DeclTree, function}
use Rattle.qs_syntax.specs.TreeOf.{parameter_tree, stmt_tree, decl_tree}
use Rattle.qs_parser_expressions.specs.declared.halt.Halt.{Halt}
use Rattle.qs_parser.specs.declared.units.Header.{Header}
use Rattle.qs_parser_grammar.specs.Parse.{Stop, Parse}
use Rattle.qs_parser_expressions.specs.View.{Gives, Reads, listed}
use Rattle.qs_parser_grammar.specs.ParseMarked.{last}

-- what is read as a parameter
abbrev pub ReadsParameter : Result (Parameter × ℕ × Bor (List Terminal)) Halt → Result ((ParameterTree × ℕ) × List Terminal) Stop → Type 0
ReadsParameter result given = Reads parameter_tree result given

-- a statement in a box of its own, and one that may be there
abbrev pub boxed_stmt : Box Stmt Global → StmtTree
boxed_stmt s = stmt_tree s.value

abbrev pub second_tree : Option (Box Stmt Global) → Option StmtTree
second_tree o = option_map boxed_stmt o

-- the parameters of a header
abbrev pub parameters_of : Header → List ParameterTree
parameters_of h = listed parameter_tree h.parameters

-- a function of this header with this body
abbrev pub function_with : Header → Option Stmts → DeclTree
function_with h body = function (record { node = unnumbered h.token; result_type = record { base = h.base; stars = h.stars }; name = h.name; parameters = parameters_of h; body = body })

-- what is read, how high it is, and how many of these tokens stand behind it
abbrev pub Leaves : {X Y : Type 0} → (X → Y) → List Terminal → Result (X × ℕ × ℕ) Halt → Result ((Y × ℕ) × List Terminal) Stop → Type 0
Leaves view tokens result given = Gives (λ x. ((view x.0, x.1), last x.2 tokens)) result given

-- what is answered is what the list's reader gives that starts with as many turns as there are tokens, no items and height 0
abbrev pub LeavesList : {X Y : Type 0} → (X → Y) → List Terminal → Result (Vec X Global × ℕ × ℕ) Halt → (ℕ → List Y → ℕ → Parse (List Y × ℕ)) → List Terminal → Type 0
LeavesList view after result read tokens = Leaves (listed view) after result (read (length tokens) [] 0 tokens)

-- all that is read, and how high it is, with nothing left
abbrev pub unit_of : Vec Decl Global × ℕ → (List DeclTree × ℕ) × List Terminal
unit_of x = ((listed decl_tree x.0, x.1), [])
