-- The types that declarations give (C11 6.7), and the rules that their nodes keep.
use Rattle.std.specs.Prelude.{ℕ, suc, ◌+◌, Bool, true, false, not, ◌&&◌, ◌||◌, List, [], ◌∷◌, ◌++◌, Option, Some, None, is_some, length, option_map, if◌then◌else◌}
use Rattle.qs_syntax.specs.declared.types.Base.{Base}
use Rattle.qs_syntax.specs.Trees.{ExprTree, expr, LengthsTree, DeclaratorTree, InitialiserTree, Initialisers, no_initialisers, initialiser_and, VariableTree, ParameterTree}
use Rattle.qs_syntax.specs.Trees as trees
use Rattle.qs_types.specs.Types.{TypeTree, void, pointer, array}
use Rattle.qs_types.specs.Layout.{and_then, is_complete, is_sized}
use Rattle.qs_types.specs.Conversions.{decayed}
use Rattle.qs_types.specs.declared.rules.Rule.TheVariants as rules
use Rattle.qs_types.specs.Rules.{Test, test, keeps, breaks_one, type_unless, Fault}
use Rattle.qs_types.specs.Contexts.{Context, base_type, starred, is_void_type}
use Rattle.qs_types.specs.Expressions.{type_of, type_or_void}
use Rattle.qs_types.specs.Constants.{length_of}
use Rattle.qs_types.specs.ExpressionFaults.{used, expr_faults}

-- ---- array lengths (6.7.6.2)

abbrev pub all_typed : Context → List ExprTree → Bool
all_typed c [] = true
all_typed c (e ∷ es) = is_some (type_of c e) && all_typed c es

abbrev pub lengths_faults : Context → List ExprTree → List Fault
lengths_faults c [] = []
lengths_faults c (e ∷ es) = expr_faults c used e ++ lengths_faults c es

abbrev pub lengths_of : Context → List ExprTree → Option (List ℕ)
lengths_of c [] = Some []
lengths_of c (e ∷ es) = and_then (length_of c e) (λ n. and_then (lengths_of c es) (λ ns. Some (n ∷ ns)))

-- 6.7.6.2p3: the first length is the outermost
abbrev pub arrays : TypeTree → List ℕ → TypeTree
arrays t [] = t
arrays t (n ∷ ns) = array (arrays t ns) n

-- ---- a declared type: the tests of the node that declares it, and the type where it breaks none

pub record Declared : Type 0 where
  pub tests : List Test
  pub type : Option TypeTree

abbrev pub declared_by : List Test → TypeTree → Declared
declared_by tests t = record { tests = tests; type = type_unless tests t }

-- a length has no type: the node breaks no rule, and the name has no type
abbrev pub undeclared : Declared
undeclared = record { tests = []; type = None }

-- a declaration begins with this type, its base; the base is known, it isn't `void`, and the type of the elements is complete
abbrev pub element_tests : Context → (base : Option TypeTree) → ℕ → List Test
element_tests c base stars =
    keeps rules.UnknownTag (is_some base)
    ++ test rules.IncompleteType (is_void_type base || (is_some base && not (is_complete c.structs (type_or_void (starred base stars)))))

-- the lengths with the first, where the brackets are empty, from elsewhere
abbrev pub whole_lengths : LengthsTree → (first : Option ℕ) → Option (List ℕ) → Option (List ℕ)
whole_lengths l first None = None
whole_lengths l first (Some ns) = if l.is_open then and_then first (λ n. Some (n ∷ ns)) else Some ns

abbrev pub object_by : (element : TypeTree) → Option (List ℕ) → TypeTree
object_by element None = void
object_by element (Some ns) = arrays element ns

abbrev pub object_type : (base : Option TypeTree) → ℕ → Option (List ℕ) → TypeTree
object_type base stars ns = object_by (type_or_void (starred base stars)) ns

abbrev pub size_tests : Context → List Test → TypeTree → List Test
size_tests c before t = test rules.LargeType (not (breaks_one before) && not (is_sized c.structs t))

abbrev pub with_size_tests : Context → List Test → TypeTree → Declared
with_size_tests c before t = declared_by (before ++ size_tests c before t) t

-- an object with this base, where its lengths are these
abbrev pub object_over : Context → (base : Option TypeTree) → ℕ → Option (List ℕ) → Declared
object_over c base stars ns =
    with_size_tests c (element_tests c base stars ++ keeps rules.ArrayLength (is_some ns)) (object_type base stars ns)

abbrev pub object_declared : Context → Base → ℕ → Option (List ℕ) → Declared
object_declared c base stars ns = object_over c (base_type c base) stars ns

abbrev pub declared_over : Context → (base : Option TypeTree) → DeclaratorTree → (first : Option ℕ) → Declared
declared_over c base d first =
    if all_typed c d.lengths.given then object_over c base d.stars (whole_lengths d.lengths first (lengths_of c d.lengths.given)) else undeclared

-- a variable or a member
abbrev pub declared : Context → Base → DeclaratorTree → (first : Option ℕ) → Declared
declared c base d first = declared_over c (base_type c base) d first

-- ---- variables (6.7.9p22): a list or a text gives the length that the brackets don't

abbrev pub initialisers_count : Initialisers → ℕ
initialisers_count no_initialisers = 0
initialisers_count (initialiser_and i is) = suc (initialisers_count is)

abbrev pub text_of : ExprTree → Option (List ℕ)
text_of (expr node (trees.text bytes)) = Some bytes
text_of (expr node _) = None

abbrev pub length_by : Option InitialiserTree → Option ℕ
length_by None = None
length_by (Some (trees.value e)) = and_then (text_of e) (λ bytes. Some (length bytes + 1))
length_by (Some (trees.list node is)) = Some (initialisers_count is)

abbrev pub variable_declared : Context → Base → VariableTree → Declared
variable_declared c base v = declared c base v.declarator (length_by v.initialiser)

-- ---- parameters (6.7.6.3)

abbrev pub is_any : List ExprTree → Bool
is_any [] = false
is_any (e ∷ es) = true

-- whether brackets stand behind the name
abbrev pub has_brackets : LengthsTree → Bool
has_brackets l = l.is_open || is_any l.given

abbrev pub first_in : List ExprTree → Option ExprTree
first_in [] = None
first_in (e ∷ es) = Some e

abbrev pub behind_first : List ExprTree → List ExprTree
behind_first [] = []
behind_first (e ∷ es) = es

-- the first length, which is the parameter's, and those of its elements
abbrev pub first_length : LengthsTree → Option ExprTree
first_length l = if l.is_open then None else first_in l.given

abbrev pub element_lengths : LengthsTree → List ExprTree
element_lengths l = if l.is_open then l.given else behind_first l.given

abbrev pub is_length_typed : Context → Option ExprTree → Bool
is_length_typed c None = true
is_length_typed c (Some e) = is_some (type_of c e)

abbrev pub is_length : Context → Option ExprTree → Bool
is_length c None = true
is_length c (Some e) = is_some (length_of c e)

-- 6.7.6.3p7: a parameter written as an array is a pointer to its elements, which have a size
abbrev pub pointed : Declared → Declared
pointed d = record d { type = option_map pointer d.type }

-- where the first length has no type nothing is tested, but the parameter is a pointer still
abbrev pub untested : Declared → Declared
untested d = record d { tests = [] }

abbrev pub array_parameter : Context → ParameterTree → Declared
array_parameter c p =
    pointed (object_declared c p.type_name.base p.type_name.stars (if is_length c (first_length p.lengths) then lengths_of c (element_lengths p.lengths) else None))

abbrev pub held_parameter : Context → ParameterTree → Declared
held_parameter c p = untested (pointed (object_declared c p.type_name.base p.type_name.stars (lengths_of c (element_lengths p.lengths))))

-- without brackets: the base is known, and it isn't `void`
abbrev pub plain_tests : (base : Option TypeTree) → List Test
plain_tests base = keeps rules.UnknownTag (is_some base) ++ test rules.IncompleteType (is_void_type base)

abbrev pub plain_declared : (base : Option TypeTree) → ℕ → Declared
plain_declared base stars = declared_by (plain_tests base) (type_or_void (starred base stars))

-- 6.7.6.3p7: a type name may stand for an array
abbrev pub adjusted : Declared → Declared
adjusted d = record d { type = option_map decayed d.type }

-- that the type is a scalar is a rule of its own
abbrev pub plain_parameter : Context → ParameterTree → Declared
plain_parameter c p = adjusted (plain_declared (base_type c p.type_name.base) p.type_name.stars)

abbrev pub parameter_declared : Context → ParameterTree → Declared
parameter_declared c p =
    if not (has_brackets p.lengths) then plain_parameter c p else
    if not (all_typed c (element_lengths p.lengths)) then undeclared else
    if is_length_typed c (first_length p.lengths) then array_parameter c p else held_parameter c p

-- ---- names of types (6.7.8)

-- without brackets the type may be incomplete
abbrev pub type_name_declared : Context → (base : Option TypeTree) → DeclaratorTree → Declared
type_name_declared c base d = if has_brackets d.lengths then declared_over c base d None else plain_declared base d.stars
