-- What several values of the program are printed as, one behind the other.
use Rattle.std.specs.Prelude.{List, ◌∷◌, ◌++◌, map, flat_map, Option}
use Rattle.qs_syntax_vocabulary.specs.declared.terminal.Terminal.{Terminal}
use Rattle.qs_syntax_vocabulary.specs.declared.terminal.Terminal.TheVariants.{Punctuator}
use Rattle.qs_syntax_vocabulary.specs.declared.punctuator.Punctuator.TheVariants as punctuators
use Rattle.qs_syntax.specs.declared.expressions.Expr.{Expr}
use Rattle.qs_syntax.specs.declared.declarations.Declarator.{Declarator}
use Rattle.qs_syntax.specs.declared.declarations.Initialiser.{Initialiser}
use Rattle.qs_syntax.specs.declared.declarations.Variable.{Variable}
use Rattle.qs_syntax.specs.declared.declarations.Parameter.{Parameter}
use Rattle.qs_syntax.specs.declared.declarations.Members.{Members}
use Rattle.qs_syntax.specs.declared.statements.Start.{Start}
use Rattle.qs_syntax.specs.TreeOf.{declarator_tree, expr_tree, initialiser_tree, members_tree, option_tree, parameter_tree, start_tree, variable_tree}
use Rattle.qs_print.specs.Levels.{assignment_level}
use Rattle.qs_print.specs.Printed.{in_parentheses, printed_declarator, printed_initialiser, printed_length, printed_members, printed_optional, printed_parameter, printed_parameters, printed_part, printed_start, printed_variable, with_commas}

-- ---- with commas between

abbrev pub argument_row : List Expr → List Terminal
argument_row es = with_commas (printed_part assignment_level) (map expr_tree es)

abbrev pub initialiser_row : List Initialiser → List Terminal
initialiser_row is = with_commas printed_initialiser (map initialiser_tree is)

abbrev pub variable_row : List Variable → List Terminal
variable_row vs = with_commas printed_variable (map variable_tree vs)

abbrev pub declarator_row : List Declarator → List Terminal
declarator_row ds = with_commas printed_declarator (map declarator_tree ds)

abbrev pub parameter_row : List Parameter → List Terminal
parameter_row ps = with_commas printed_parameter (map parameter_tree ps)

-- `void` where there are none
abbrev pub row_or_void : List Parameter → List Terminal
row_or_void ps = printed_parameters (map parameter_tree ps)

-- ---- with nothing between

-- each in brackets
abbrev pub length_row : List Expr → List Terminal
length_row es = flat_map printed_length (map expr_tree es)

abbrev pub member_row : List Members → List Terminal
member_row ms = flat_map printed_members (map members_tree ms)

-- what stands between `for` and its body
abbrev pub for_head : Start → Option Expr → Option Expr → List Terminal
for_head start e u =
    in_parentheses (printed_start (start_tree start) ++ (printed_optional (option_tree e) ++ Punctuator 0 punctuators.Semicolon ∷ printed_optional (option_tree u)))
