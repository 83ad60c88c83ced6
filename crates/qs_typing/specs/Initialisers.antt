-- Words on types that the code of initialisers uses.
pub use Rattle.qs_typing_findings.specs.PartsOf.{type_at}
use Rattle.std.specs.Prelude.{◌≡◌, Bool, true, false, List, Option, Some, None, is_some}
use Rattle.std.specs.Borrow.{Bor}
use Rattle.qs_syntax.specs.declared.declarations.Initialiser.{Initialiser}
use Rattle.qs_syntax.specs.declared.declarations.InitialiserList.{InitialiserList}
use Rattle.qs_syntax.specs.declared.expressions.Expr.{Expr}
use Rattle.qs_syntax.specs.Trees.{Initialisers, value}
use Rattle.qs_syntax.specs.TreeOf.{expr_tree, initialiser_tree, initialisers_tree, list_tree}
use Rattle.qs_types.specs.Types.{TypeTree, Structs, int, unsigned, char, void, pointer, array, struct}
use Rattle.qs_types.specs.declared.types.CType.{CType}
use Rattle.qs_types.specs.declared.env.Env.{Env}
use Rattle.qs_types.specs.EnvOf.{env_tree}
use Rattle.qs_types.specs.Expressions.{type_of}
use Rattle.qs_types.specs.InitialiserRules as rules
use Rattle.qs_types.specs.InitialiserRules.{takes_list, list_fits}
use Rattle.qs_types.specs.TypeOf.{type_tree}
use Rattle.qs_typing_findings.specs.declared.context.Context.{Context}
use Rattle.qs_typing_findings.specs.declared.walk.Walk.{Walk}
use Rattle.qs_typing_findings.specs.ContextOf.{context_tree}
use Rattle.qs_typing_findings.specs.UnitWalk.{elements_walked, initialiser_walked}
use Rattle.qs_typing_findings.specs.WalkOf.{walk_tree}

abbrev pub is_char : TypeTree → Bool
is_char int = false
is_char unsigned = false
is_char char = true
is_char void = false
is_char (pointer t) = false
is_char (array t n) = false
is_char (struct k) = false

-- a list for a part of this type, where there is one
abbrev pub option_takes_list : Option TypeTree → Bool
option_takes_list None = false
option_takes_list (Some t) = takes_list t

abbrev pub option_list_fits : Structs → Option TypeTree → Initialisers → Bool
option_list_fits structs None is = true
option_list_fits structs (Some t) is = list_fits structs t is

-- ---- in code

-- an expression of this type is a constant
abbrev pub is_constant_at : Context → Expr → CType → Bool
is_constant_at c e t = rules.is_constant (context_tree c) (expr_tree e) (type_tree t)

-- an expression of type u fits a variable of type t
abbrev pub fits_as : (at_file_scope : Bool) → Context → (t : CType) → Expr → (u : CType) → Bool
fits_as at_file_scope c t e u = rules.fits_variable at_file_scope (context_tree c) (type_tree t) (expr_tree e) (type_tree u)

-- a list of these is for an object of this type, and isn't too long
abbrev pub list_fits_in : Env → Option (Bor CType) → List Initialiser → Bool
list_fits_in structs t is = option_list_fits (env_tree structs) (type_at t) (initialisers_tree is)

-- an expression, a list and the initialisers in it fit an object of this type
abbrev pub value_fits : (at_file_scope : Bool) → Context → Option (Bor CType) → Expr → Bool
value_fits at_file_scope c t e = rules.element_fits at_file_scope (context_tree c) (type_at t) (value (expr_tree e))

abbrev pub fits : (at_file_scope : Bool) → Context → Option (Bor CType) → Initialiser → Bool
fits at_file_scope c t i = rules.element_fits at_file_scope (context_tree c) (type_at t) (initialiser_tree i)

abbrev pub list_fits_at : (at_file_scope : Bool) → Context → Option (Bor CType) → InitialiserList → Bool
list_fits_at at_file_scope c t l = rules.element_fits at_file_scope (context_tree c) (type_at t) (list_tree l)

abbrev pub all_fit : (at_file_scope : Bool) → Context → Option (Bor CType) → List Initialiser → Bool
all_fit at_file_scope c t is = rules.elements_fit at_file_scope (context_tree c) (type_at t) 0 (initialisers_tree is)

-- whether an expression has a type, an initialiser, and all in a list
abbrev pub is_value_typed : Context → Expr → Bool
is_value_typed c e = is_some (type_of (context_tree c) (expr_tree e))

abbrev pub is_typed : Context → Initialiser → Bool
is_typed c i = rules.is_typed (context_tree c) (initialiser_tree i)

abbrev pub all_typed : Context → List Initialiser → Bool
all_typed c is = rules.elements_typed (context_tree c) (initialisers_tree is)

-- a walk went over them
abbrev pub WalksValue : (at_file_scope : Bool) → Context → Option (Bor CType) → Expr → (before after : Walk) → Type 0
WalksValue at_file_scope c t e before after =
    walk_tree after ≡ initialiser_walked at_file_scope (context_tree c) (type_at t) (value (expr_tree e)) (walk_tree before)

abbrev pub Initialises : (at_file_scope : Bool) → Context → Option (Bor CType) → Initialiser → (before after : Walk) → Type 0
Initialises at_file_scope c t i before after =
    walk_tree after ≡ initialiser_walked at_file_scope (context_tree c) (type_at t) (initialiser_tree i) (walk_tree before)

abbrev pub WalksList : (at_file_scope : Bool) → Context → Option (Bor CType) → InitialiserList → (before after : Walk) → Type 0
WalksList at_file_scope c t l before after =
    walk_tree after ≡ initialiser_walked at_file_scope (context_tree c) (type_at t) (list_tree l) (walk_tree before)

abbrev pub Fills : (at_file_scope : Bool) → Context → Option (Bor CType) → List Initialiser → (before after : Walk) → Type 0
Fills at_file_scope c t is before after =
    walk_tree after ≡ elements_walked at_file_scope (context_tree c) (type_at t) 0 (initialisers_tree is) (walk_tree before)
