-- Array lengths in code, as the definitions see them.
use Rattle.std.specs.Prelude.{◌≡◌, Bool, ◌&&◌, List, map}
use Rattle.qs_syntax.specs.declared.expressions.Expr.{Expr}
use Rattle.qs_syntax.specs.declared.declarations.Lengths.{Lengths}
use Rattle.qs_syntax.specs.TreeOf.{expr_tree, lengths_tree}
use Rattle.qs_types.specs.Declarations as declarations
use Rattle.qs_types.specs.Declarations.{all_typed, element_lengths, first_length, lengths_of}
use Rattle.qs_typing_findings.specs.declared.context.Context.{Context}
use Rattle.qs_typing.specs.declared.lengths.ArrayLengths.{ArrayLengths}
use Rattle.qs_typing.specs.declared.lengths.ParameterLengths.{ParameterLengths}
use Rattle.qs_typing_findings.specs.declared.walk.Walk.{Walk}
use Rattle.qs_typing_findings.specs.ContextOf.{context_tree}
use Rattle.qs_typing.specs.DeclaredOf.{numbers}
use Rattle.qs_typing_findings.specs.UnitWalk.{lengths_walked}
use Rattle.qs_typing_findings.specs.WalkOf.{walk_tree}

-- whether each of these lengths has a type, and their values, where each is a length
abbrev pub AreTyped : Context → List Expr → ArrayLengths → Type 0
AreTyped c es l = l.all_typed ≡ all_typed (context_tree c) (map expr_tree es)

abbrev pub AreValued : Context → List Expr → ArrayLengths → Type 0
AreValued c es l = numbers l.values ≡ lengths_of (context_tree c) (map expr_tree es)

-- the same of the lengths of the elements of a parameter
abbrev pub ElementsAreTyped : Context → Lengths → ArrayLengths → Type 0
ElementsAreTyped c l rest = rest.all_typed ≡ all_typed (context_tree c) (element_lengths (lengths_tree l))

abbrev pub ElementsAreValued : Context → Lengths → ArrayLengths → Type 0
ElementsAreValued c l rest = numbers rest.values ≡ lengths_of (context_tree c) (element_lengths (lengths_tree l))

-- whether the first length has a type, and whether it is a length
abbrev pub is_length_typed : Context → Lengths → Bool
is_length_typed c l = declarations.is_length_typed (context_tree c) (first_length (lengths_tree l))

abbrev pub is_length : Context → Lengths → Bool
is_length c l = declarations.is_length (context_tree c) (first_length (lengths_tree l))

-- whether all lengths have types
abbrev pub WholeTyped : Context → Lengths → ParameterLengths → Type 0
WholeTyped c l p = (p.first_typed && p.rest.all_typed) ≡ all_typed (context_tree c) (lengths_tree l).given

-- a walk went over array lengths
abbrev pub WalksLengths : Context → List Expr → (before after : Walk) → Type 0
WalksLengths c es before after = walk_tree after ≡ lengths_walked (context_tree c) (map expr_tree es) (walk_tree before)

abbrev pub WalksGiven : Context → Lengths → (before after : Walk) → Type 0
WalksGiven c l before after = walk_tree after ≡ lengths_walked (context_tree c) (lengths_tree l).given (walk_tree before)
