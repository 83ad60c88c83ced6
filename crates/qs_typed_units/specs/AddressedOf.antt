-- The operands of `&` in trees in code.
use Rattle.std.specs.Prelude.{ℕ, List, Option, map, option_map}
use Rattle.qs_syntax.specs.TreeOf.{expr_tree, initialiser_tree, initialisers_tree, variable_tree}
use Rattle.qs_syntax.specs.declared.declarations.Initialiser.{Initialiser}
use Rattle.qs_syntax.specs.declared.declarations.Variable.{Variable}
use Rattle.qs_syntax.specs.declared.expressions.Expr.{Expr}
use Rattle.qs_syntax_vocabulary.specs.declared.operators.UnaryOperator.{UnaryOperator}
use Rattle.qs_types.specs.Placed.{operand_of}
use Rattle.qs_typed_units.specs.Addressed.{Names, initial_addressed, initialiser_addressed, initialisers_addressed, name_known, variables_addressed}

abbrev pub operand_in : UnaryOperator → Names → Expr → List ℕ
operand_in operator names e = operand_of operator (name_known names (expr_tree e))

abbrev pub initialiser_operands : Names → Initialiser → List ℕ
initialiser_operands names i = initialiser_addressed names (initialiser_tree i)

abbrev pub initialisers_operands : Names → List Initialiser → List ℕ
initialisers_operands names is = initialisers_addressed names (initialisers_tree is)

-- of an initialiser, if there is one
abbrev pub initial_operands : Names → Option Initialiser → List ℕ
initial_operands names i = initial_addressed names (option_map initialiser_tree i)

abbrev pub variables_operands : Names → List Variable → List ℕ
variables_operands names vs = variables_addressed names (map variable_tree vs)
