-- What a `for` evaluates and executes in each turn, as it is read behind its start (C11 6.8.5.3).
use Rattle.std.specs.Prelude.{ℕ, max, Option, Ok, Box}
use Rattle.std.specs.declared.alloc.Global.{Global}
use Rattle.qs_syntax.specs.declared.expressions.Expr.{Expr}
use Rattle.qs_syntax.specs.declared.statements.Stmt.{Stmt}
use Rattle.qs_syntax_vocabulary.specs.declared.punctuator.Punctuator.TheVariants as punctuators
use Rattle.qs_syntax.specs.Trees.{ExprTree, StmtTree}
use Rattle.qs_syntax.specs.TreeOf.{option_tree, stmt_tree}
use Rattle.qs_parser_grammar.specs.Parse.{Parse, read_on}
use Rattle.qs_parser_grammar.specs.ParseStatements.{S, optional}
use Rattle.qs_parser.specs.declared.statements.Turn.{Turn}

pub record TurnTree : Type 0 where
  pub condition : Option ExprTree
  pub step : Option ExprTree
  pub body : StmtTree

abbrev pub step_tree : Option Expr × Box Stmt Global → Option ExprTree × StmtTree
step_tree x = (option_tree x.0, stmt_tree x.1.value)

abbrev pub turn_tree : Turn → TurnTree
turn_tree t = record { condition = option_tree t.condition; step = option_tree t.step; body = stmt_tree t.body.value }

module _ (m : ℕ) (inner : Parse S) where
  abbrev pub step_and_body : Parse ((Option ExprTree × StmtTree) × ℕ)
  step_and_body ts = read_on (optional m punctuators.CloseParenthesis ts) (λ u us. read_on (inner us) (λ s vs. Ok (((u.0, s.0), max u.1 s.1), vs)))

  abbrev pub turn_of : Parse (TurnTree × ℕ)
  turn_of ts = read_on (optional m punctuators.Semicolon ts) (λ e us. read_on (step_and_body us) (λ b vs. Ok ((record { condition = e.0; step = b.0.0; body = b.0.1 }, max e.1 b.1), vs)))
