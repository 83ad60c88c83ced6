-- putchar and getchar have the types that they are given with, at each place at file scope.
use Rattle.std.proofs.Common.{◌≡◌, ℕ, Bool, true, false, ◌||◌, List, [], ◌∷◌, ◌++◌, Option, Some, None, is_some, refl, ap, ◌∙◌, if◌then◌else◌}
use Rattle.std.specs.List.{slice_get}
use Rattle.std.proofs.lemmas.Cmp.{nat_list_eq_equiv}
use Rattle.qs_base.specs.Bytes.{same_bytes}
use Rattle.qs_syntax.specs.declared.types.Base.{Base}
use Rattle.qs_syntax.specs.Trees.{VariableTree, FunctionTree, DeclTree, structure, forward, function, variables, DeclaratorTree, StructTree, DefinedTree, of_struct, of_base, typedef}
use Rattle.qs_types.specs.Types.{TypeTree, MemberTree}
use Rattle.qs_types.specs.Layout.{layout_of, sized_layout, member_types, with_members}
use Rattle.qs_types.specs.GivenFunctions.{Signature, putchar_name, putchar_type, getchar_name, getchar_type}
use Rattle.qs_types.specs.Contexts.{Entity, local_variable, file_variable, given, Binding, Context, start_context, lookup, entity_of, with_name, tag_place, add_type, is_type_name}
use Rattle.qs_types.specs.Contexts as contexts
use Rattle.qs_types.specs.Declarations.{variable_declared, type_name_declared}
use Rattle.qs_types.specs.StatementRules.{after_variable, after_variables}
use Rattle.qs_types.specs.UnitRules.{with_tag, no_members, after_members, has_no_members, define_at, header_of, signature_by, declared_function, after_function, after_declaration, with_new_tag, with_option_tag, option_place, with_base_tag, after_struct, after_defined, defined_type, after_type_name, after_type_names}
use Rattle.qs_typed_nodes.proofs.KeptAgreement.{nothing}
use Rattle.qs_syntax.specs.declared.types.Base.TheVariants as bases

abbrev pub given_type : List ℕ → Signature
given_type x = if same_bytes x putchar_name then putchar_type else getchar_type

-- functions that are given have their types
abbrev pub GivenIn : Context → Type 0
GivenIn c = (x : List ℕ) (f : Signature) → entity_of c x ≡ Some (given f) → f ≡ given_type x

given_is : (f g : Signature) → Some (given f) ≡ Some (given g) → g ≡ f
given_is f g e = cc

pub start_given : GivenIn start_context
start_given x f e = by (same_bytes putchar_name x) (same_bytes getchar_name x) e ∙ ap (λ b. if b then putchar_type else getchar_type) (nat_list_eq_equiv.symm putchar_name x)
  where
    by : (b d : Bool) → (if b then Some (given putchar_type) else if d then Some (given getchar_type) else None) ≡ Some (given f) → f ≡ (if b then putchar_type else getchar_type)
    by true d p = given_is putchar_type f p
    by false true p = given_is getchar_type f p
    by false false p = nothing (given f) p

-- ---- a name more

no_file : (n : ℕ) (t : Option TypeTree) (f : Signature) → Some (file_variable n t) ≡ Some (given f) → ⊥
no_file n t f e = cc

no_function : (n : ℕ) (s : Option Signature) (b : Bool) (f : Signature) → Some (contexts.function n s b) ≡ Some (given f) → ⊥
no_function n s b f e = cc

variable_given : (c : Context) (x : List ℕ) (n : ℕ) (t : Option TypeTree) → GivenIn c → GivenIn (with_name c x (file_variable n t))
variable_given c x n t h y f e = by (same_bytes x y) e
  where
    by : (b : Bool) → (if b then Some (file_variable n t) else entity_of c y) ≡ Some (given f) → f ≡ given_type y
    by true p = absurd (no_file n t f p)
    by false p = h y f p

variables_given : (c : Context) (base : Base) (vs : List VariableTree) → GivenIn c → GivenIn (after_variables true c base vs)
variables_given c base [] h = h
variables_given c base (v ∷ vs) h =
    variables_given (after_variable true c base v) base vs (variable_given c v.declarator.name v.declarator.node.id (variable_declared c base v).type h)

-- a function that is given stays so
stays_given : (o : Option Entity) (n : ℕ) (s : Option Signature) (b : Bool) (f : Signature) → Some (declared_function o n s b) ≡ Some (given f) → o ≡ Some (given f)
stays_given None n s b f e = absurd (no_function n s b f e)
stays_given (Some (local_variable m t)) n s b f e = absurd (no_function n s b f e)
stays_given (Some (file_variable m t)) n s b f e = absurd (no_function n s b f e)
stays_given (Some (contexts.function m r earlier)) n s b f e = absurd (no_function n s (earlier || b) f e)
stays_given (Some (given r)) n s b f e = e

found_inside : (x : List ℕ) (bs cs : List Binding) (e : Entity) → lookup x bs ≡ Some e → lookup x (bs ++ cs) ≡ Some e
found_inside x [] cs e p = nothing e p
found_inside x (b ∷ bs) cs e p = by (same_bytes b.name x) p (found_inside x bs cs e)
  where
    by : (t : Bool) → (if t then Some b.entity else lookup x bs) ≡ Some e → (lookup x bs ≡ Some e → lookup x (bs ++ cs) ≡ Some e) → (if t then Some b.entity else lookup x (bs ++ cs)) ≡ Some e
    by true q rest = q
    by false q rest = rest q

pub function_given : (c : Context) (f : FunctionTree) → GivenIn c → GivenIn (after_function c f)
function_given c f h y g e = by (same_bytes f.name y) refl e
  where
    new : Option Entity
    new = Some (declared_function (lookup f.name c.inner) f.node.id (signature_by (header_of c f)) (is_some f.body))

    by : (b : Bool) → same_bytes f.name y ≡ b → (if b then new else entity_of c y) ≡ Some (given g) → g ≡ given_type y
    by true q p =
        h f.name g
        (found_inside f.name c.inner c.outer (given g) (stays_given (lookup f.name c.inner) f.node.id (signature_by (header_of c f)) (is_some f.body) g p))
        ∙ ap (λ b. if b then putchar_type else getchar_type) (nat_list_eq_equiv.congr f.name y putchar_name q)
    by false q p = h y g p

-- ---- structs give no names

tag_names : (c : Context) (tag : List ℕ) → GivenIn c → GivenIn (with_tag c tag)
tag_names c tag h = by (is_some (tag_place c tag))
  where
    by : (b : Bool) → GivenIn (if b then c else with_new_tag c tag)
    by true = h
    by false = h

option_names : (c : Context) (tag : Option (List ℕ)) → GivenIn c → GivenIn (with_option_tag c tag)
option_names c None h = h
option_names c (Some tag) h = tag_names c tag h

base_names : (c : Context) (b : Base) → GivenIn c → GivenIn (with_base_tag c b)
base_names c bases.Void h = h
base_names c bases.Int h = h
base_names c bases.Unsigned h = h
base_names c bases.Char h = h
base_names c (bases.Struct tag) h = tag_names c tag h
base_names c (bases.Named x) h = h

type_names_given : (c : Context) (base : Option TypeTree) (ds : List DeclaratorTree) → GivenIn c → GivenIn (after_type_names c base ds)
type_names_given c base [] h = h
type_names_given c base (d ∷ ds) h = type_names_given (after_type_name c base d) base ds (by (is_type_name c d.name))
  where
    by : (b : Bool) → GivenIn (if b then c else record c { type_names = add_type c.type_names d.name (type_name_declared c base d).type })
    by true = h
    by false = h

define_names : (c : Context) (new : List MemberTree) (o : Option ℕ) → GivenIn c → GivenIn (define_at c new o)
define_names c new None h = h
define_names c new (Some k) h = by (has_no_members (slice_get c.structs k))
  where
    by : (b : Bool) → GivenIn (if b then record c { structs = with_members (is_some (sized_layout (layout_of c.structs) (member_types new))) c.structs k new } else c)
    by true = h
    by false = h

struct_given : (c : Context) (s : StructTree) → GivenIn c → GivenIn (after_struct c s)
struct_given c s h =
    define_names (with_option_tag c s.name) (after_members (with_option_tag c s.name) no_members s.members).members (option_place c s.name) (option_names c s.name h)

defined_given : (c : Context) (d : DefinedTree) → GivenIn c → GivenIn (after_defined c d)
defined_given c (of_struct s) h = struct_given c s h
defined_given c (of_base b) h = base_names c b h

pub declaration_given : (c : Context) (d : DeclTree) → GivenIn c → GivenIn (after_declaration c d)
declaration_given c (structure s) h = struct_given c s h
declaration_given c (forward f) h = tag_names c f.name h
declaration_given c (typedef t) h = type_names_given (after_defined c t.defined) (defined_type c t.defined) t.names (defined_given c t.defined h)
declaration_given c (function f) h = function_given c f h
declaration_given c (variables d) h = variables_given c d.base d.variables h
