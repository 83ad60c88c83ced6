-- The grammar's readers of expressions, with the room that a context leaves for the parts. What the code's functions are given stands in their order.
use Rattle.std.specs.Prelude.{ℕ, Option, length, Box}
use Rattle.std.specs.declared.alloc.Global.{Global}
use Rattle.qs_syntax_vocabulary.specs.declared.operators.Access.{Access}
use Rattle.qs_syntax_vocabulary.specs.declared.operators.AssignmentOperator.{AssignmentOperator}
use Rattle.qs_syntax.specs.declared.expressions.Expr.{Expr}
use Rattle.qs_syntax.specs.Reads.{Form}
use Rattle.qs_syntax.specs.TreeOf.{expr_tree}
use Rattle.qs_parser_grammar.specs.Parse as parse
use Rattle.qs_parser_grammar.specs.Parse.{Parse, E, part}
use Rattle.qs_parser_expressions.specs.declared.context.Context.{Context}
use Rattle.qs_parser_expressions.specs.View.{boxed_expr}

-- the most levels that a context can leave: its room is a number of 8 bits
abbrev pub most_levels : ℕ
most_levels = 255

-- what has expressions as its parts
abbrev pub with_parts : {X : Type 0} → Context → (ℕ → (Form → Parse E) → X) → X
with_parts context read = read context.room (part context.room)

-- behind an operand in a box of its own
module _ (context : Context) (start : ℕ) (left : Box Expr Global) (height : ℕ) where
  abbrev pub index_of : Parse E
  index_of ts = with_parts context parse.index_of start (boxed_expr left, height) ts

  abbrev pub member_of : Access → Parse E
  member_of access ts = with_parts context parse.member_of start (boxed_expr left, height) access ts

  abbrev pub suffix : Parse E
  suffix ts = with_parts context parse.suffix start (boxed_expr left, height) ts

-- behind an operand
module _ (context : Context) (start : ℕ) (left : Expr) (height : ℕ) where
  abbrev pub suffixes : Parse E
  suffixes ts = with_parts context parse.suffixes (length ts) start (expr_tree left, height) ts

  abbrev pub after_or : Parse E
  after_or ts = with_parts context parse.after_or start (expr_tree left, height) ts

  abbrev pub after_operand : Parse E
  after_operand ts = with_parts context parse.after_operand start (expr_tree left, height) ts

  abbrev pub assignment_of : Option AssignmentOperator → Parse E
  assignment_of operator ts = with_parts context parse.assignment_of start (expr_tree left, height) operator ts

  abbrev pub after_unary : Parse E
  after_unary ts = with_parts context parse.after_unary start (expr_tree left, height) ts

  abbrev pub commas : Parse E
  commas ts = with_parts context parse.commas (length ts) start (expr_tree left, height) ts

-- behind an operand, up to operators of this level
module _ (context : Context) (level start : ℕ) (left : Expr) (height : ℕ) where
  abbrev pub operations : Parse E
  operations ts = with_parts context parse.operations (length ts) level start (expr_tree left, height) ts

  abbrev pub climb : Parse E
  climb ts = with_parts context parse.climb level start (expr_tree left, height) ts
