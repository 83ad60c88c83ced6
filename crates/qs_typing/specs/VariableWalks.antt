-- How walks in code go over variables, as the definitions say.
use Rattle.std.specs.Prelude.{◌≡◌, Bool, List, [], ◌++◌, Option, map, option_map, if◌then◌else◌}
use Rattle.qs_syntax.specs.declared.types.Base.{Base}
use Rattle.qs_syntax.specs.declared.declarations.Initialiser.{Initialiser}
use Rattle.qs_syntax.specs.declared.declarations.Variable.{Variable}
use Rattle.qs_syntax.specs.declared.expressions.Expr.{Expr}
use Rattle.qs_syntax.specs.TreeOf.{expr_tree, initialiser_tree, variable_tree}
use Rattle.qs_types.specs.declared.types.CType.{CType}
use Rattle.qs_types.specs.Declarations.{all_typed, variable_declared}
use Rattle.qs_types.specs.ExpressionFaults.{expr_faults, whole}
use Rattle.qs_types.specs.InitialiserRules.{initialiser_tests}
use Rattle.qs_types.specs.Rules.{is_any}
use Rattle.qs_types.specs.StatementRules as rules
use Rattle.qs_types.specs.StatementRules.{after_variable, after_variables}
use Rattle.qs_typing_findings.specs.declared.context.Context.{Context}
use Rattle.qs_typing_findings.specs.declared.judged.Test.{Test}
use Rattle.qs_typing.specs.declared.variables.Initialised.{Initialised}
use Rattle.qs_typing_findings.specs.declared.walk.Walk.{Walk}
use Rattle.qs_typing_findings.specs.ContextOf.{context_tree}
use Rattle.qs_typing.specs.DeclaredOf.{option_type}
use Rattle.qs_typing_findings.specs.JudgedOf.{test_tree}
use Rattle.qs_typing_findings.specs.UnitWalk.{declarator_walked, option_initialiser_walked, variable_walked, variables_walked}
use Rattle.qs_typing_findings.specs.Variables.{again_tests, fit_tests}
use Rattle.qs_typing_findings.specs.WalkOf.{walk_tree}

-- ---- initialisers

-- a rule is broken in an expression
abbrev pub breaks_rule : Context → Expr → Bool
breaks_rule c e = is_any (expr_faults (context_tree c) whole (expr_tree e))

abbrev pub holds_back : Context → Option Initialiser → Bool
holds_back c i = rules.holds_back (context_tree c) (option_map initialiser_tree i)

-- the test that an initialiser fits is this one, where it is made
abbrev pub IsTested : (at_file_scope : Bool) → Context → Option CType → Option Initialiser → (fits : Option Bool) → Type 0
IsTested at_file_scope c t i fits =
    fit_tests fits ≡ initialiser_tests at_file_scope (context_tree c) (option_type t) (option_map initialiser_tree i)

-- a walk went over an initialiser, where there is one
abbrev pub WalksOption : (at_file_scope : Bool) → Context → Option CType → Option Initialiser → (before after : Walk) → Type 0
WalksOption at_file_scope c t i before after =
    walk_tree after ≡ option_initialiser_walked at_file_scope (context_tree c) (option_type t) (option_map initialiser_tree i) (walk_tree before)

-- ---- variables

-- each length of a variable has a type
abbrev pub are_lengths_typed : Context → Variable → Bool
are_lengths_typed c v = all_typed (context_tree c) (variable_tree v).declarator.lengths.given

-- a walk went over the declarator of a variable
abbrev pub WalksDeclarator : Context → Base → Variable → (before after : Walk) → Type 0
WalksDeclarator c base v before after =
    walk_tree after
    ≡ declarator_walked (context_tree c) (variable_declared (context_tree c) base (variable_tree v)).type (variable_tree v).declarator.lengths.given (walk_tree before)

-- the tests of a variable: those of its name, where its lengths have types, of its type, and of its initialiser
abbrev pub AreVariableTests : (again : Option Bool) → (declared : List Test) → Initialised → List Test → Type 0
AreVariableTests again declared initialised tests =
    map test_tree tests
    ≡ (if initialised.holds_back then [] else again_tests again ++ (map test_tree declared ++ fit_tests initialised.fits))

abbrev pub HasDeclaredType : Context → Base → Variable → Option CType → Type 0
HasDeclaredType c base v t = option_type t ≡ (variable_declared (context_tree c) base (variable_tree v)).type

-- one variable is known, and all that are declared together
abbrev pub KnowsOne : (at_file_scope : Bool) → Base → Variable → (before after : Context) → Type 0
KnowsOne at_file_scope base v before after = context_tree after ≡ after_variable at_file_scope (context_tree before) base (variable_tree v)

abbrev pub KnowsAll : (at_file_scope : Bool) → Base → List Variable → (before after : Context) → Type 0
KnowsAll at_file_scope base vs before after =
    context_tree after ≡ after_variables at_file_scope (context_tree before) base (map variable_tree vs)

-- a walk went over one, and over all
abbrev pub WalksOne : (at_file_scope : Bool) → Context → Base → Variable → (before after : Walk) → Type 0
WalksOne at_file_scope c base v before after =
    walk_tree after ≡ variable_walked at_file_scope (context_tree c) base (variable_tree v) (walk_tree before)

abbrev pub WalksAll : (at_file_scope : Bool) → Context → Base → List Variable → (before after : Walk) → Type 0
WalksAll at_file_scope c base vs before after =
    walk_tree after ≡ variables_walked at_file_scope (context_tree c) base (map variable_tree vs) (walk_tree before)
