-- What is known behind parameters, and a walk over the items of a body.
use Rattle.std.specs.Prelude.{List, [], ◌∷◌, Option, length}
use Rattle.qs_syntax.specs.Trees.{ParameterTree, Stmts}
use Rattle.qs_types.specs.Types.{TypeTree}
use Rattle.qs_types.specs.Contexts.{Context, inner_scope}
use Rattle.qs_types.specs.UnitRules.{after_parameter, with_parameters}
use Rattle.qs_typing_findings.specs.Noted.{parameters_noted}
use Rattle.qs_typing_findings.specs.UnitWalk.{WalkTree, statements_walked, with_body_begun, with_body_ended}

abbrev pub after_parameters : Context → List ParameterTree → Context
after_parameters c [] = c
after_parameters c (p ∷ ps) = after_parameters (after_parameter c p) ps

-- the items of a body whose parameters have these types, and whose function has this result; the context is that behind the header
abbrev pub items_walked : Context → List ParameterTree → List (Option TypeTree) → (result : Option TypeTree) → Stmts → WalkTree → WalkTree
items_walked c ps ts result ss w =
    with_body_ended (length w.found.addressed)
    (statements_walked (with_parameters (record (inner_scope c) { result = result }) ps ts) ss (with_body_begun (parameters_noted c.structs ps ts) w))
