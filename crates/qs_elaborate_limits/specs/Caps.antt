-- How much of the stack a call of a function takes at most, by the function's source: its cap.
use Rattle.std.specs.Prelude.{ℕ, ◌+◌, ◌*◌, ◌/◌, ◌≤◌, List, [], ◌∷◌, ◌++◌, Option, Some, None, length}
use Rattle.qs_base.specs.Parameters.{stack_arguments}
use Rattle.qs_syntax.specs.Trees.{Stmts, FunctionTree, structure, forward, function, variables, UnitTree, typedef}
use Rattle.qs_types.specs.Contexts.{Context, start_context}
use Rattle.qs_types.specs.Limits.{placed_bytes}
use Rattle.qs_types.specs.Placed.{addressed_in, statements_locals}
use Rattle.qs_types.specs.UnitRules.{body_context, after_declaration}
use Rattle.qs_core.specs.Trees.{CoreFunctionTree}
use Rattle.qs_core.specs.Sizes.{values, most_passed}
use Rattle.qs_meaning.specs.Units.{variables_among, parameters_in}
use Rattle.qs_elaborate_laws.specs.ExpressionCounts.{stmts_expressions}
use Rattle.qs_elaborate_limits.specs.Measures.{bytes_in_words}
use Rattle.qs_elaborate_limits.specs.Arguments.{stmts_arguments}

-- the least multiple of 16 that has room for a return address, bytes of blocks, and words for values and arguments
abbrev pub frame_size : (bytes words : ℕ) → ℕ
frame_size bytes words = (4 + bytes + 4 * words + 15) / 16 * 16

-- parameters and plain locals; the context is that before the header
abbrev pub variable_count : Context → FunctionTree → Stmts → ℕ
variable_count c f ss = length (variables_among (addressed_in c f ss) (parameters_in c f) (statements_locals (body_context c f) ss))

-- the greatest number of arguments past the eighth in a call of the body
abbrev pub passed_in : Stmts → ℕ
passed_in ss = stack_arguments (stmts_arguments ss)

-- a word for each variable, two for each expression in the body, and those for the arguments past the eighth
abbrev pub cap : Context → FunctionTree → Stmts → ℕ
cap c f ss = frame_size (placed_bytes c f ss) (variable_count c f ss + 2 * stmts_expressions ss + passed_in ss)

abbrev pub body_cap : Context → FunctionTree → Option Stmts → List ℕ
body_cap c f None = []
body_cap c f (Some ss) = cap c f ss ∷ []

-- of the functions with a body, in order
abbrev pub caps_from : Context → UnitTree → List ℕ
caps_from c [] = []
caps_from c (structure s ∷ ds) = caps_from (after_declaration c (structure s)) ds
caps_from c (forward f ∷ ds) = caps_from (after_declaration c (forward f)) ds
caps_from c (typedef f ∷ ds) = caps_from (after_declaration c (typedef f)) ds
caps_from c (function f ∷ ds) = body_cap c f f.body ++ caps_from (after_declaration c (function f)) ds
caps_from c (variables d ∷ ds) = caps_from (after_declaration c (variables d)) ds

abbrev pub caps : UnitTree → List ℕ
caps unit = caps_from start_context unit

-- what a function of core needs
abbrev pub needed : CoreFunctionTree → ℕ
needed f = frame_size (bytes_in_words f.blocks) (values f + most_passed f)

-- one by one, as many
abbrev pub EachBelow : List ℕ → List ℕ → Type 0
EachBelow [] [] = Unit {0}
EachBelow [] (m ∷ ms) = ⊥
EachBelow (n ∷ ns) [] = ⊥
EachBelow (n ∷ ns) (m ∷ ms) = (n ≤ m) × EachBelow ns ms
