-- Which nodes of a unit break which rules (C11 6.9).
use Rattle.std.specs.Prelude.{◌≡◌, ℕ, ◌+◌, ◌==◌, nat_le, Bool, true, false, not, ◌&&◌, ◌||◌, List, [], ◌∷◌, ◌++◌, Option, Some, None, is_some, length, if◌then◌else◌}
use Rattle.std.specs.List.{list_all, list_any, slice_get}
use Rattle.qs_base.specs.Bytes.{same_bytes}
use Rattle.qs_syntax.specs.declared.types.Base.{Base}
use Rattle.qs_syntax.specs.declared.types.Base.TheVariants as bases
use Rattle.qs_syntax.specs.Trees.{DeclaratorTree, ParameterTree, MembersTree, StructTree, DefinedTree, of_struct, of_base, TypedefTree, FunctionTree, Stmts, DeclTree, structure, forward, typedef, function, variables, UnitTree}
use Rattle.qs_types.specs.Types.{TypeTree, int, unsigned, struct, MemberTree, Structs, same_type, is_scalar, is_struct, is_array}
use Rattle.qs_types.specs.declared.extent.Extent.{Extent}
use Rattle.qs_types.specs.Layout.{and_then, member_types, rounded_up, layout_of, size_limit, sized_by, sized_layout, with_members, struct_of}
use Rattle.qs_types.specs.declared.rules.Rule.TheVariants as rules
use Rattle.qs_types.specs.declared.rules.Rule.{Rule}
use Rattle.qs_types.specs.Rules.{same_rule, Test, test, keeps, Fault, faults_of}
use Rattle.qs_types.specs.Contexts.{Entity, local_variable, file_variable, given, Context, add_tag, add_type, start_context, lookup, tag_place, type_under, is_type_name, base_type, starred_type, is_void_base, with_name, inner_scope, is_declared_here}
use Rattle.qs_types.specs.Contexts as contexts
use Rattle.qs_types.specs.GivenFunctions.{Signature, main_name}
use Rattle.qs_types.specs.Expressions.{type_or_void, member_in}
use Rattle.qs_types.specs.Declarations.{Declared, declared, type_name_declared, parameter_declared, lengths_faults, all_typed}
use Rattle.qs_types.specs.StatementRules.{variables_faults, after_variables, statements_faults}

-- ---- structs (6.7.2.1, 6.7.2.3)

-- one more struct, behind the others
abbrev pub with_struct : Context → Context
with_struct c = record c { structs = c.structs ++ None ∷ [] }

-- a new tag, of one more struct
abbrev pub with_new_tag : Context → List ℕ → Context
with_new_tag c tag = record c { structs = c.structs ++ None ∷ []; type_names = add_tag c.type_names tag (length c.structs) }

-- a tag that is new is declared behind the others
abbrev pub with_tag : Context → List ℕ → Context
with_tag c tag = if is_some (tag_place c tag) then c else with_new_tag c tag

-- 6.7.2.1p8: a struct without a tag is a type of its own
abbrev pub with_option_tag : Context → Option (List ℕ) → Context
with_option_tag c None = with_struct c
with_option_tag c (Some tag) = with_tag c tag

-- the place of the struct that is declared so
abbrev pub option_place : Context → Option (List ℕ) → Option ℕ
option_place c None = Some (length c.structs)
option_place c (Some tag) = tag_place (with_tag c tag) tag

-- the members before a place of a struct: the names of all, those that have a type, and where the last of these ends
pub record Before : Type 0 where
  pub names : List (List ℕ)
  pub members : List MemberTree
  pub end : ℕ

abbrev pub no_members : Before
no_members = record { names = []; members = []; end = 0 }

-- where a member ends that lies behind this end
abbrev pub member_end : (end : ℕ) → Extent → ℕ
member_end end e = rounded_up end e.alignment + e.size

-- a struct isn't larger than the limit of sizes
abbrev pub has_room : (end : ℕ) → Option Extent → Bool
has_room end None = true
has_room end (Some e) = nat_le (member_end end e) size_limit

abbrev pub option_extent : Structs → Option TypeTree → Option Extent
option_extent structs t = and_then t (sized_by (layout_of structs))

-- the member at which the struct would be too large is too large
abbrev pub with_room_tests : Context → (end : ℕ) → Declared → Declared
with_room_tests c end d = record {
  tests = d.tests ++ keeps rules.LargeType (has_room end (option_extent c.structs d.type));
  type = if has_room end (option_extent c.structs d.type) then d.type else None;
}

abbrev pub member_declared : Context → (end : ℕ) → Base → DeclaratorTree → Declared
member_declared c end base d = with_room_tests c end (declared c base d None)

abbrev pub is_name_in : List ℕ → List (List ℕ) → Bool
is_name_in x names = list_any (same_bytes x) names

abbrev pub end_behind : (end : ℕ) → Option Extent → ℕ
end_behind end None = end
end_behind end (Some e) = member_end end e

abbrev pub is_member : List ℕ → List MemberTree → Bool
is_member x members = is_some (member_in x members)

abbrev pub with_name_once : List (List ℕ) → List ℕ → List (List ℕ)
with_name_once names x = if is_name_in x names then names else names ++ x ∷ []

-- behind a member; one whose name stands already among the members with a type doesn't count
abbrev pub with_member : Structs → Before → List ℕ → Option TypeTree → Before
with_member structs before x None = record before { names = with_name_once before.names x }
with_member structs before x (Some t) = record {
  names = with_name_once before.names x;
  members = if is_member x before.members then before.members else before.members ++ record { name = x; type = t } ∷ [];
  end = if is_member x before.members then before.end else end_behind before.end (sized_by (layout_of structs) t);
}

abbrev pub after_member : Context → Before → Base → DeclaratorTree → Before
after_member c before base d = with_member c.structs before d.name (member_declared c before.end base d).type

abbrev pub after_together : Context → Before → Base → List DeclaratorTree → Before
after_together c before base [] = before
after_together c before base (d ∷ ds) = after_together c (after_member c before base d) base ds

abbrev pub after_members : Context → Before → List MembersTree → Before
after_members c before [] = before
after_members c before (m ∷ ms) = after_members c (after_together c before m.base m.declarators) ms

abbrev pub is_defined : Context → List ℕ → Bool
is_defined c tag = is_some (and_then (tag_place c tag) (struct_of c.structs))

abbrev pub is_option_defined : Context → Option (List ℕ) → Bool
is_option_defined c None = false
is_option_defined c (Some tag) = is_defined c tag

-- a struct that is declared and has no members
abbrev pub has_no_members : Option (Option (List MemberTree)) → Bool
has_no_members None = false
has_no_members (Some None) = true
has_no_members (Some (Some ms)) = false

-- a struct that has no members gets these: it is defined once
abbrev pub define_at : Context → List MemberTree → Option ℕ → Context
define_at c ms None = c
define_at c ms (Some k) =
    if has_no_members (slice_get c.structs k)
    then record c { structs = with_members (is_some (sized_layout (layout_of c.structs) (member_types ms))) c.structs k ms }
    else c

abbrev pub after_struct : Context → StructTree → Context
after_struct c s =
    define_at (with_option_tag c s.name) (after_members (with_option_tag c s.name) no_members s.members).members (option_place c s.name)

abbrev pub member_tests : Context → Before → Base → DeclaratorTree → List Test
member_tests c before base d =
    if all_typed c d.lengths.given
    then (member_declared c before.end base d).tests ++ test rules.MemberTwice (is_name_in d.name before.names)
    else []

abbrev pub member_faults : Context → Before → Base → DeclaratorTree → List Fault
member_faults c before base d = faults_of d.node.id (member_tests c before base d) ++ lengths_faults c d.lengths.given

abbrev pub together_faults : Context → Before → Base → List DeclaratorTree → List Fault
together_faults c before base [] = []
together_faults c before base (d ∷ ds) = member_faults c before base d ++ together_faults c (after_member c before base d) base ds

abbrev pub members_faults : Context → Before → List MembersTree → List Fault
members_faults c before [] = []
members_faults c before (m ∷ ms) =
    together_faults c before m.base m.declarators ++ members_faults c (after_together c before m.base m.declarators) ms

abbrev pub struct_faults : Context → StructTree → List Fault
struct_faults c s =
    faults_of s.node.id (test rules.UnknownTag (is_option_defined c s.name)) ++ members_faults (with_option_tag c s.name) no_members s.members

-- ---- names of types (6.7.8)

-- a `typedef` that is the first to name a tag declares it
abbrev pub with_base_tag : Context → Base → Context
with_base_tag c bases.Void = c
with_base_tag c bases.Int = c
with_base_tag c bases.Unsigned = c
with_base_tag c bases.Char = c
with_base_tag c (bases.Struct tag) = with_tag c tag
with_base_tag c (bases.Named x) = c

abbrev pub after_defined : Context → DefinedTree → Context
after_defined c (of_struct s) = after_struct c s
after_defined c (of_base b) = with_base_tag c b

abbrev pub struct_at : Option ℕ → Option TypeTree
struct_at k = and_then k (λ k. Some (struct k))

-- the type that gets names
abbrev pub defined_type : Context → DefinedTree → Option TypeTree
defined_type c (of_struct s) = struct_at (option_place c s.name)
defined_type c (of_base b) = base_type (with_base_tag c b) b

abbrev pub defined_faults : Context → DefinedTree → List Fault
defined_faults c (of_struct s) = struct_faults c s
defined_faults c (of_base b) = []

-- a type name keeps its first type
abbrev pub with_type_name : Context → List ℕ → Option TypeTree → Context
with_type_name c x t = if is_type_name c x then c else record c { type_names = add_type c.type_names x t }

-- 6.2.1p7: known behind its declarator
abbrev pub after_type_name : Context → (base : Option TypeTree) → DeclaratorTree → Context
after_type_name c base d = with_type_name c d.name (type_name_declared c base d).type

abbrev pub after_type_names : Context → (base : Option TypeTree) → List DeclaratorTree → Context
after_type_names c base [] = c
after_type_names c base (d ∷ ds) = after_type_names (after_type_name c base d) base ds

abbrev pub after_typedef : Context → TypedefTree → Context
after_typedef c t = after_type_names (after_defined c t.defined) (defined_type c t.defined) t.names

abbrev pub is_same_type : Option TypeTree → Option TypeTree → Bool
is_same_type None u = true
is_same_type (Some t) None = true
is_same_type (Some t) (Some u) = same_type t u

-- 6.7p3: a type name that is declared again gets the same type, where both declarations give one
abbrev pub is_type_kept : (before : Option (Option TypeTree)) → Option TypeTree → Bool
is_type_kept None t = true
is_type_kept (Some u) t = is_same_type u t

abbrev pub type_name_tests : Context → (base : Option TypeTree) → DeclaratorTree → List Test
type_name_tests c base d =
    if all_typed c d.lengths.given
    then test rules.DeclaredTwice (is_declared_here c d.name)
    ++ ((type_name_declared c base d).tests ++ keeps rules.RenamedType (is_type_kept (type_under c d.name) (type_name_declared c base d).type))
    else []

abbrev pub type_name_faults : Context → (base : Option TypeTree) → DeclaratorTree → List Fault
type_name_faults c base d = faults_of d.node.id (type_name_tests c base d) ++ lengths_faults c d.lengths.given

abbrev pub type_names_faults : Context → (base : Option TypeTree) → List DeclaratorTree → List Fault
type_names_faults c base [] = []
type_names_faults c base (d ∷ ds) = type_name_faults c base d ++ type_names_faults (after_type_name c base d) base ds

abbrev pub typedef_faults : Context → TypedefTree → List Fault
typedef_faults c t = defined_faults c t.defined ++ type_names_faults (after_defined c t.defined) (defined_type c t.defined) t.names

-- ---- the types of functions (6.7.6.3)

-- a parameter is known behind its declarator (6.2.1p7)
abbrev pub with_parameter : Context → ParameterTree → Option TypeTree → Option (List ℕ) → Context
with_parameter c p t None = c
with_parameter c p t (Some x) = with_name c x (local_variable p.node.id t)

abbrev pub after_parameter : Context → ParameterTree → Context
after_parameter c p = with_parameter c p (parameter_declared c p).type p.name

-- the types of parameters, where the first is known in this context
abbrev pub parameter_types : Context → List ParameterTree → List (Option TypeTree)
parameter_types c [] = []
parameter_types c (p ∷ ps) = (parameter_declared c p).type ∷ parameter_types (after_parameter c p) ps

-- `void` with stars is no type
abbrev pub is_void_pointer : FunctionTree → Bool
is_void_pointer f = is_void_base f.result_type.base && not (f.result_type.stars == 0)

abbrev pub result_type : Context → FunctionTree → Option TypeTree
result_type c f = if is_void_pointer f then None else starred_type c f.result_type.base f.result_type.stars

-- the types of a header's parts; a part that breaks a rule on types has none
pub record Header : Type 0 where
  pub parameters : List (Option TypeTree)
  pub result : Option TypeTree

abbrev pub header_of : Context → FunctionTree → Header
header_of c f = record { parameters = parameter_types (inner_scope c) f.parameters; result = result_type c f }

-- the types, where each part has one
abbrev pub all_of : List (Option TypeTree) → Option (List TypeTree)
all_of [] = Some []
all_of (t ∷ ts) = and_then t (λ t. and_then (all_of ts) (λ ts. Some (t ∷ ts)))

abbrev pub signature_by : Header → Option Signature
signature_by h = and_then (all_of h.parameters) (λ ts. and_then h.result (λ t. Some (record { parameters = ts; result = t })))

-- a part without type is let pass
abbrev pub may_be : TypeTree → Option TypeTree → Bool
may_be t None = true
may_be t (Some u) = same_type t u

abbrev pub may_all_be : List TypeTree → List (Option TypeTree) → Bool
may_all_be [] [] = true
may_all_be (t ∷ ts) (u ∷ us) = may_be t u && may_all_be ts us
may_all_be _ _ = false

-- 6.7.6.3p15: the parts of a header agree with what was declared before
abbrev pub agree : Option Signature → Header → Bool
agree None h = true
agree (Some r) h = may_be r.result h.result && may_all_be r.parameters h.parameters

-- ---- functions (6.9.1)

-- 6.7p4: what was declared under the name before agrees; 6.9p3, p5: at most one body
abbrev pub agrees_with : Option Entity → Header → (has_body : Bool) → Bool
agrees_with None h has_body = true
agrees_with (Some (local_variable node t)) h has_body = false
agrees_with (Some (file_variable node t)) h has_body = false
agrees_with (Some (contexts.function node r earlier)) h has_body = agree r h && not (earlier && has_body)
agrees_with (Some (given r)) h has_body = agree (Some r) h && not has_body

abbrev pub may_declare : Context → FunctionTree → Bool
may_declare c f = not (is_type_name c f.name) && agrees_with (lookup f.name c.inner) (header_of c f) (is_some f.body)

-- 5.1.2.2.1
abbrev pub is_main_parameter : Option TypeTree → Bool
is_main_parameter t = may_be int t || may_be unsigned t

abbrev pub is_main_type : Header → Bool
is_main_type h = may_be int h.result && list_all is_main_parameter h.parameters

abbrev pub main_tests : FunctionTree → Header → List Test
main_tests f h = if same_bytes f.name main_name then keeps rules.MainType (is_main_type h) else []

abbrev pub is_aggregate : TypeTree → Bool
is_aggregate t = is_struct t || is_array t

-- 6.7.6.3p1, 6.9.1p3: the result is a scalar or void
abbrev pub result_tests : Context → FunctionTree → List Test
result_tests c f =
    keeps rules.UnknownTag (is_some (base_type c f.result_type.base))
    ++ (test rules.IncompleteType (is_void_pointer f) ++ test rules.SignatureType (is_aggregate (type_or_void (result_type c f))))

abbrev pub header_tests : Context → FunctionTree → List Test
header_tests c f = keeps rules.DeclaredTwice (may_declare c f) ++ (result_tests c f ++ main_tests f (header_of c f))

-- what is known behind the header: a body that was given before stays, and so does a function that is given
abbrev pub declared_function : Option Entity → ℕ → Option Signature → (has_body : Bool) → Entity
declared_function None node s has_body = contexts.function node s has_body
declared_function (Some (local_variable n t)) node s has_body = contexts.function node s has_body
declared_function (Some (file_variable n t)) node s has_body = contexts.function node s has_body
declared_function (Some (contexts.function n r earlier)) node s has_body = contexts.function node s (earlier || has_body)
declared_function (Some (given r)) node s has_body = given r

abbrev pub after_function : Context → FunctionTree → Context
after_function c f = with_name c f.name (declared_function (lookup f.name c.inner) f.node.id (signature_by (header_of c f)) (is_some f.body))

-- ---- parameters: they share the scope of the function's block (6.2.1p4)

abbrev pub is_name_declared : Context → Option (List ℕ) → Bool
is_name_declared c None = false
is_name_declared c (Some x) = is_declared_here c x

-- 6.9.1p5: the parameters of a body have names; parameters are scalars
abbrev pub signature_tests : ParameterTree → (has_body : Bool) → Option TypeTree → List Test
signature_tests p has_body None = test rules.SignatureType (has_body && not (is_some p.name))
signature_tests p has_body (Some t) = keeps rules.SignatureType (is_scalar t && (not has_body || is_some p.name))

abbrev pub parameter_tests : Context → (has_body : Bool) → ParameterTree → List Test
parameter_tests c has_body p =
    if all_typed c p.lengths.given
    then test rules.DeclaredTwice (is_name_declared c p.name)
    ++ ((parameter_declared c p).tests ++ signature_tests p has_body (parameter_declared c p).type)
    else []

abbrev pub parameters_faults : Context → (has_body : Bool) → List ParameterTree → List Fault
parameters_faults c has_body [] = []
parameters_faults c has_body (p ∷ ps) =
    (faults_of p.node.id (parameter_tests c has_body p) ++ lengths_faults c p.lengths.given)
    ++ parameters_faults (after_parameter c p) has_body ps

-- ---- bodies

abbrev pub with_parameters : Context → List ParameterTree → List (Option TypeTree) → Context
with_parameters c [] ts = c
with_parameters c (p ∷ ps) [] = c
with_parameters c (p ∷ ps) (t ∷ ts) = with_parameters (with_parameter c p t p.name) ps ts

-- what is known at the begin of the body; the context is that before the header
abbrev pub body_context : Context → FunctionTree → Context
body_context c f =
    with_parameters (record (inner_scope (after_function c f)) { result = result_type c f }) f.parameters (parameter_types (inner_scope c) f.parameters)

abbrev pub body_faults : Context → FunctionTree → Option Stmts → List Fault
body_faults c f None = []
body_faults c f (Some ss) = statements_faults (body_context c f) ss

abbrev pub function_faults : Context → FunctionTree → List Fault
function_faults c f =
    faults_of f.node.id (header_tests c f)
    ++ (parameters_faults (inner_scope c) (is_some f.body) f.parameters ++ body_faults c f f.body)

-- ---- units

abbrev pub after_declaration : Context → DeclTree → Context
after_declaration c (structure s) = after_struct c s
after_declaration c (forward f) = with_tag c f.name
after_declaration c (typedef t) = after_typedef c t
after_declaration c (function f) = after_function c f
after_declaration c (variables d) = after_variables true c d.base d.variables

abbrev pub declaration_faults : Context → DeclTree → List Fault
declaration_faults c (structure s) = struct_faults c s
declaration_faults c (forward f) = []
declaration_faults c (typedef t) = typedef_faults c t
declaration_faults c (function f) = function_faults c f
declaration_faults c (variables d) = variables_faults true c d.base d.variables

abbrev pub declarations_faults : Context → UnitTree → List Fault
declarations_faults c [] = []
declarations_faults c (d ∷ ds) = declaration_faults c d ++ declarations_faults (after_declaration c d) ds

abbrev pub faults_in : UnitTree → List Fault
faults_in unit = declarations_faults start_context unit

-- what is known at the end of a unit
abbrev pub context_after : Context → UnitTree → Context
context_after c [] = c
context_after c (d ∷ ds) = context_after (after_declaration c d) ds

-- the structs of a unit
abbrev pub structs_of : UnitTree → Structs
structs_of unit = (context_after start_context unit).structs

-- the node breaks the rule
abbrev pub is_among : (node : ℕ) → (rule : Rule) → List Fault → Bool
is_among node rule [] = false
is_among node rule (f ∷ fs) = ((f.node == node) && same_rule f.rule rule) || is_among node rule fs

pub record Violates (unit : UnitTree) (node : ℕ) (rule : Rule) : Type 0 where
  pub found : is_among node rule (faults_in unit) ≡ true

-- no node breaks a rule
pub record KeepsRules (unit : UnitTree) : Type 0 where
  pub nothing : faults_in unit ≡ []
