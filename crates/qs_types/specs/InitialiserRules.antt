-- Which initialisers fit (C11 6.7.9).
use Rattle.std.specs.Prelude.{ℕ, ◌+◌, nat_lt, nat_le, Bool, true, false, not, ◌&&◌, ◌||◌, List, [], ◌++◌, Option, Some, None, is_some, length, if◌then◌else◌}
use Rattle.std.specs.List.{slice_get}
use Rattle.qs_syntax.specs.Trees.{ExprTree, expr, InitialiserTree, Initialisers, no_initialisers, initialiser_and}
use Rattle.qs_syntax.specs.Trees as trees
use Rattle.qs_syntax_vocabulary.specs.declared.operators.UnaryOperator.{UnaryOperator}
use Rattle.qs_syntax_vocabulary.specs.declared.operators.UnaryOperator.TheVariants as unaries
use Rattle.qs_types.specs.Types.{TypeTree, char, array, struct, MemberTree, Structs, same_type, is_scalar, is_struct, is_array}
use Rattle.qs_types.specs.Layout.{and_then, struct_of}
use Rattle.qs_types.specs.Conversions.{decayed}
use Rattle.qs_types.specs.declared.rules.Rule.TheVariants as rules
use Rattle.qs_types.specs.Rules.{Test, keeps, Fault, faults_of}
use Rattle.qs_types.specs.Contexts.{Context, Entity, local_variable, file_variable, function, given, entity_of}
use Rattle.qs_types.specs.Expressions.{type_of, is_lvalue, is_null_constant, is_assignable}
use Rattle.qs_types.specs.Constants.{constant_of}
use Rattle.qs_types.specs.Declarations.{text_of, initialisers_count}
use Rattle.qs_types.specs.ExpressionFaults.{whole, expr_faults}

-- ---- parts of an object (6.7.9p17)

abbrev pub member_at : Option (List MemberTree) → ℕ → Option TypeTree
member_at None i = None
member_at (Some ms) i = and_then (slice_get ms i) (λ (m : MemberTree). Some m.type)

-- the type of the part number i; no part where i is past the end
abbrev pub part_type : Structs → TypeTree → ℕ → Option TypeTree
part_type structs (array t n) i = if nat_lt i n then Some t else None
part_type structs (struct k) i = member_at (struct_of structs k) i
part_type structs _ i = None

-- ---- expressions

-- 6.7.9p14: a text for a `char` array that has room for its bytes without the last zero
abbrev pub holds_text : TypeTree → Option (List ℕ) → Bool
holds_text (array char n) (Some bytes) = nat_le (length bytes) n
holds_text _ _ = false

abbrev pub is_file_variable : Option Entity → Bool
is_file_variable None = false
is_file_variable (Some (local_variable node t)) = false
is_file_variable (Some (file_variable node t)) = true
is_file_variable (Some (function node signature body)) = false
is_file_variable (Some (given signature)) = false

abbrev pub names_file_variable : Context → ExprTree → Bool
names_file_variable c (expr node (trees.name x)) = is_file_variable (entity_of c x)
names_file_variable c (expr node _) = false

abbrev pub is_address_of : Context → UnaryOperator → ExprTree → Bool
is_address_of c unaries.Address a = names_file_variable c a
is_address_of c _ a = false

-- the name of an array at file scope, or `&` of a variable there
abbrev pub is_address : Context → ExprTree → (t : TypeTree) → Bool
is_address c (expr node (trees.name x)) t = is_array t && is_file_variable (entity_of c x)
is_address c (expr node (trees.unary operator a)) t = is_address_of c operator a
is_address c (expr node _) t = false

-- 6.7.9p4: a constant expression, a null constant, a text, or an address
abbrev pub is_constant : Context → ExprTree → (t : TypeTree) → Bool
is_constant c e t = is_some (constant_of c e) || (is_null_constant e || (is_some (text_of e) || is_address c e t))

-- whether the object is at file scope
abbrev pub may_stand : Bool → Context → ExprTree → (t : TypeTree) → Bool
may_stand at_file_scope c e t = not at_file_scope || is_constant c e t

-- 6.7.9p11: an expression of type u for a scalar
abbrev pub fits_scalar : Bool → Context → TypeTree → ExprTree → (u : TypeTree) → Bool
fits_scalar at_file_scope c t e u = is_scalar t && (is_assignable t e (decayed u) && may_stand at_file_scope c e u)

-- 6.7.9p13: an expression for a whole struct, which only a local has
abbrev pub fits_struct : Bool → TypeTree → ExprTree → (u : TypeTree) → Bool
fits_struct at_file_scope t e u = not at_file_scope && (is_struct t && (same_type t u && is_lvalue e))

-- an expression as initialiser of a variable, or of a part in a list: a part that is an array or a struct has a list of its own, a text,
-- or for a local a whole struct
abbrev pub fits_variable : Bool → Context → TypeTree → ExprTree → (u : TypeTree) → Bool
fits_variable at_file_scope c t e u = holds_text t (text_of e) || (fits_scalar at_file_scope c t e u || fits_struct at_file_scope t e u)

-- ---- lists

abbrev pub fits_typed : Option TypeTree → (TypeTree → Bool) → Bool
fits_typed None fits = false
fits_typed (Some u) fits = fits u

-- 6.7.9p16: a list is for an array or a struct
abbrev pub takes_list : TypeTree → Bool
takes_list t = is_array t || is_struct t

abbrev pub count_of_members : Option (List MemberTree) → ℕ
count_of_members None = 0
count_of_members (Some ms) = length ms

-- how many parts an object has
abbrev pub count_of_parts : Structs → TypeTree → ℕ
count_of_parts structs (array t n) = n
count_of_parts structs (struct k) = count_of_members (struct_of structs k)
count_of_parts structs _ = 0

-- a list for an array or a struct is no longer than that
abbrev pub list_fits : Structs → TypeTree → Initialisers → Bool
list_fits structs t is = takes_list t && nat_le (initialisers_count is) (count_of_parts structs t)

-- an initialiser of a part of type t fits, what stands in an inner list aside; what is past the end is let pass, since the list is too long
abbrev pub element_fits : Bool → Context → Option TypeTree → InitialiserTree → Bool
element_fits at_file_scope c None i = true
element_fits at_file_scope c (Some t) (trees.value e) = fits_typed (type_of c e) (fits_variable at_file_scope c t e)
element_fits at_file_scope c (Some t) (trees.list node is) = list_fits c.structs t is

abbrev pub option_part : Structs → Option TypeTree → ℕ → Option TypeTree
option_part structs t i = and_then t (λ t. part_type structs t i)

-- the elements of a list for an object of this type, from number i on
abbrev pub elements_fit : Bool → Context → Option TypeTree → ℕ → Initialisers → Bool
elements_fit at_file_scope c t i no_initialisers = true
elements_fit at_file_scope c t i (initialiser_and first is) =
    element_fits at_file_scope c (option_part c.structs t i) first && elements_fit at_file_scope c t (i + 1) is

-- whether the expressions that stand in the list itself have types
abbrev pub elements_typed : Context → Initialisers → Bool
elements_typed c no_initialisers = true
elements_typed c (initialiser_and (trees.value e) is) = is_some (type_of c e) && elements_typed c is
elements_typed c (initialiser_and (trees.list node inner) is) = elements_typed c is

-- the test of a list for an object of type t
abbrev pub list_tests : Bool → Context → TypeTree → Initialisers → List Test
list_tests at_file_scope c t is = if elements_typed c is && takes_list t then keeps rules.InitialiserType (elements_fit at_file_scope c (Some t) 0 is) else []

-- the faults in the parts of an initialiser; the types of inner lists are those of the parts, where there are such
abbrev mutual
  pub initialiser_faults : Bool → Context → Option TypeTree → InitialiserTree → List Fault
  initialiser_faults at_file_scope c t (trees.value e) = expr_faults c whole e
  initialiser_faults at_file_scope c None (trees.list node is) = elements_faults at_file_scope c None 0 is
  initialiser_faults at_file_scope c (Some t) (trees.list node is) =
      faults_of node.id (list_tests at_file_scope c t is) ++ elements_faults at_file_scope c (Some t) 0 is

  pub elements_faults : Bool → Context → Option TypeTree → ℕ → Initialisers → List Fault
  elements_faults at_file_scope c t i no_initialisers = []
  elements_faults at_file_scope c t i (initialiser_and first is) =
      initialiser_faults at_file_scope c (option_part c.structs t i) first ++ elements_faults at_file_scope c t (i + 1) is

-- ---- the test of a variable of type t

abbrev pub is_typed : Context → InitialiserTree → Bool
is_typed c (trees.value e) = is_some (type_of c e)
is_typed c (trees.list node is) = true

abbrev pub fits : Bool → Context → TypeTree → InitialiserTree → Bool
fits at_file_scope c t (trees.value e) = fits_typed (type_of c e) (fits_variable at_file_scope c t e)
fits at_file_scope c t (trees.list node is) = list_fits c.structs t is

abbrev pub initialiser_tests : Bool → Context → Option TypeTree → Option InitialiserTree → List Test
initialiser_tests at_file_scope c t None = []
initialiser_tests at_file_scope c None (Some i) = []
initialiser_tests at_file_scope c (Some t) (Some i) = if is_typed c i then keeps rules.InitialiserType (fits at_file_scope c t i) else []
