-- A function's name stands for the latest header of that name; putchar and getchar have the types that they are given with.
use Rattle.std.proofs.Common.{◌≡◌, ℕ, Bool, true, false, List, [], ◌∷◌, ◌++◌, Option, Some, None, is_some, refl, sym, ap, ◌∙◌, subst, append_assoc, append-nil, slice_get, if◌then◌else◌}
use Rattle.std.proofs.lemmas.Option.{same_Some}
use Rattle.qs_syntax.specs.declared.types.Base.{Base}
use Rattle.qs_syntax.specs.declared.types.Base.TheVariants as bases
use Rattle.qs_base.specs.Bytes.{same_bytes}
use Rattle.qs_syntax.specs.Trees.{VariableTree, ParameterTree, DeclaratorTree, StructTree, DefinedTree, of_struct, of_base, TypedefTree, FunctionTree, structure, forward, typedef, function, variables, UnitTree}
use Rattle.qs_types.specs.Types.{TypeTree, MemberTree}
use Rattle.qs_types.specs.GivenFunctions.{Signature, putchar_name, putchar_type, getchar_name, getchar_type}
use Rattle.qs_types.specs.Contexts.{Entity, Binding, local_variable, file_variable, given, Context, add_type, entity_of, lookup, start_context, tag_place, is_type_name, with_name, inner_scope}
use Rattle.qs_types.specs.Contexts as contexts
use Rattle.qs_types.specs.Declarations.{variable_declared, type_name_declared}
use Rattle.qs_types.specs.StatementRules.{after_variable, after_variables, entity_at}
use Rattle.qs_types.specs.UnitRules.{with_new_tag, with_tag, with_option_tag, option_place, with_base_tag, after_defined, defined_type, with_type_name, after_type_name, after_type_names, after_typedef, no_members, after_members, has_no_members, define_at, after_struct, declared_function, after_function, context_after, header_of, signature_by, result_type, parameter_types, with_parameter, with_parameters, body_context}
use Rattle.qs_base.proofs.ByteLaws.{bytes_exact}
use Rattle.qs_typing_findings.specs.LatestHeaders.{FunctionHeader, header_at, headers_from, unit_headers, latest_or, latest, IsLatest, AreLatest, given_type, AreGiven}

-- ---- one header more

latest_behind : (o : Option FunctionHeader) (x : List ℕ) (hs : List FunctionHeader) (h : FunctionHeader)
    → latest_or o x (hs ++ h ∷ []) ≡ (if same_bytes h.name x then Some h else latest_or o x hs)
latest_behind o x [] h = refl
latest_behind o x (g ∷ hs) h = latest_behind (if same_bytes g.name x then Some g else o) x hs h

-- the latest of some headers is that of these and of one of another name
pub still_latest : (hs : List FunctionHeader) (h : FunctionHeader) (x : List ℕ) (node : ℕ) (s : Option Signature) → same_bytes h.name x ≡ false
    → IsLatest hs x node s → IsLatest (hs ++ h ∷ []) x node s
still_latest hs h x node s other l = record {
  header = l.header;
  found = latest_behind None x hs h ∙ ap (λ b. if b then Some h else latest x hs) other ∙ l.found;
  its_node = l.its_node;
  its_signature = l.its_signature;
}

-- what is declared as a function has the number and the type of the header
declared_here : (o : Option Entity) (n m : ℕ) (s r : Option Signature) (b d : Bool) → declared_function o n s b ≡ contexts.function m r d → (n ≡ m) × (s ≡ r)
declared_here None n m s r b d e = (cc, cc)
declared_here (Some (local_variable k t)) n m s r b d e = (cc, cc)
declared_here (Some (file_variable k t)) n m s r b d e = (cc, cc)
declared_here (Some (contexts.function k q earlier)) n m s r b d e = (cc, cc)
declared_here (Some (given g)) n m s r b d e = absurd (cc)

now_latest : (c : Context) (f : FunctionTree) (hs : List FunctionHeader) (x : List ℕ) (node : ℕ) (s : Option Signature) (has_body : Bool) → same_bytes f.name x ≡ true
    → declared_function (lookup f.name c.inner) f.node.id (signature_by (header_of c f)) (is_some f.body) ≡ contexts.function node s has_body
    → IsLatest (hs ++ header_at c f ∷ []) x node s
now_latest c f hs x node s has_body same e =
    let own = declared_here (lookup f.name c.inner) f.node.id node (signature_by (header_of c f)) s (is_some f.body) has_body e in record {
      header = header_at c f;
      found = latest_behind None x hs (header_at c f) ∙ ap (λ b. if b then Some (header_at c f) else latest x hs) same;
      its_node = own.0;
      its_signature = own.1;
    }

function_latest : (c : Context) (f : FunctionTree) (hs : List FunctionHeader) → AreLatest c hs → AreLatest (after_function c f) (hs ++ header_at c f ∷ [])
function_latest c f hs l = record { each = λ x node s has_body e. by x node s has_body (same_bytes f.name x) refl e }
  where
    by : (x : List ℕ) (node : ℕ) (s : Option Signature) (has_body : Bool) (b : Bool) → same_bytes f.name x ≡ b
        → (if b then Some (declared_function (lookup f.name c.inner) f.node.id (signature_by (header_of c f)) (is_some f.body)) else entity_of c x) ≡ Some (contexts.function node s has_body)
        → IsLatest (hs ++ header_at c f ∷ []) x node s
    by x node s has_body true same e =
        now_latest c f hs x node s has_body same
        (same_Some (declared_function (lookup f.name c.inner) f.node.id (signature_by (header_of c f)) (is_some f.body)) (contexts.function node s has_body) e)
    by x node s has_body false other e = still_latest hs (header_at c f) x node s other (l.each x node s has_body e)

-- ---- what declares no function

abbrev is_called : Entity → Bool
is_called (local_variable n t) = false
is_called (file_variable n t) = false
is_called (contexts.function n s has_body) = true
is_called (given s) = true

-- the functions here are those there
pub record SameFunctions (c d : Context) : Type 0 where
  pub same : (x : List ℕ) (e : Entity) → is_called e ≡ true → entity_of d x ≡ Some e → entity_of c x ≡ Some e

pub same_latest : (c d : Context) (hs : List FunctionHeader) → SameFunctions c d → AreLatest c hs → AreLatest d hs
same_latest c d hs k l = record { each = λ x node s has_body e. l.each x node s has_body (k.same x (contexts.function node s has_body) refl e) }

then_same : (c d e : Context) → SameFunctions c d → SameFunctions d e → SameFunctions c e
then_same c d e k l = record { same = λ x f called p. k.same x f called (l.same x f called p) }

pub name_same : (c : Context) (y : List ℕ) (e : Entity) → is_called e ≡ false → SameFunctions c (with_name c y e)
name_same c y e none = record { same = λ x f called p. by x f called (same_bytes y x) p }
  where
    by : (x : List ℕ) (f : Entity) → is_called f ≡ true → (b : Bool) → (if b then Some e else entity_of c x) ≡ Some f → entity_of c x ≡ Some f
    by x f called true p = absurd (let q : true ≡ false = sym called ∙ ap is_called (sym (same_Some e f p)) ∙ none in cc)
    by x f called false p = p

variable_none : (at_file_scope : Bool) (n : ℕ) (t : Option TypeTree) → is_called (entity_at at_file_scope n t) ≡ false
variable_none true n t = refl
variable_none false n t = refl

pub variables_same : (at_file_scope : Bool) (c : Context) (base : Base) (vs : List VariableTree) → SameFunctions c (after_variables at_file_scope c base vs)
variables_same at_file_scope c base [] = record { same = λ x f called p. p }
variables_same at_file_scope c base (v ∷ vs) =
    let t = (variable_declared c base v).type in
    then_same c (after_variable at_file_scope c base v) (after_variables at_file_scope (after_variable at_file_scope c base v) base vs)
    (name_same c v.declarator.name (entity_at at_file_scope v.declarator.node.id t) (variable_none at_file_scope v.declarator.node.id t))
    (variables_same at_file_scope (after_variable at_file_scope c base v) base vs)

tag_names : (c : Context) (tag x : List ℕ) → entity_of (with_tag c tag) x ≡ entity_of c x
tag_names c tag x = by (is_some (tag_place c tag))
  where
    by : (b : Bool) → entity_of (if b then c else with_new_tag c tag) x ≡ entity_of c x
    by true = refl
    by false = refl

option_names : (c : Context) (tag : Option (List ℕ)) (x : List ℕ) → entity_of (with_option_tag c tag) x ≡ entity_of c x
option_names c None x = refl
option_names c (Some tag) x = tag_names c tag x

base_names : (c : Context) (b : Base) (x : List ℕ) → entity_of (with_base_tag c b) x ≡ entity_of c x
base_names c bases.Void x = refl
base_names c bases.Int x = refl
base_names c bases.Unsigned x = refl
base_names c bases.Char x = refl
base_names c (bases.Struct tag) x = tag_names c tag x
base_names c (bases.Named n) x = refl

type_name_names : (c : Context) (n : List ℕ) (t : Option TypeTree) (x : List ℕ) → entity_of (with_type_name c n t) x ≡ entity_of c x
type_name_names c n t x = by (is_type_name c n)
  where
    by : (b : Bool) → entity_of (if b then c else record c { type_names = add_type c.type_names n t }) x ≡ entity_of c x
    by true = refl
    by false = refl

type_names_names : (c : Context) (base : Option TypeTree) (ds : List DeclaratorTree) (x : List ℕ) → entity_of (after_type_names c base ds) x ≡ entity_of c x
type_names_names c base [] x = refl
type_names_names c base (d ∷ ds) x = type_names_names (after_type_name c base d) base ds x ∙ type_name_names c d.name (type_name_declared c base d).type x

define_names : (c : Context) (ms : List MemberTree) (o : Option ℕ) (x : List ℕ) → entity_of (define_at c ms o) x ≡ entity_of c x
define_names c ms None x = refl
define_names c ms (Some k) x = by (has_no_members (slice_get c.structs k)) _
  where
    by : (b : Bool) (structs : _) → entity_of (if b then record c { structs = structs } else c) x ≡ entity_of c x
    by true structs = refl
    by false structs = refl

same_by : (c d : Context) → ((x : List ℕ) → entity_of d x ≡ entity_of c x) → SameFunctions c d
same_by c d e = record { same = λ x f called p. sym (e x) ∙ p }

struct_entities : (c : Context) (s : StructTree) (x : List ℕ) → entity_of (after_struct c s) x ≡ entity_of c x
struct_entities c s x =
    define_names (with_option_tag c s.name) (after_members (with_option_tag c s.name) no_members s.members).members (option_place c s.name) x ∙ option_names c s.name x

struct_same : (c : Context) (s : StructTree) → SameFunctions c (after_struct c s)
struct_same c s =
    same_by c (after_struct c s)
    (struct_entities c s)

defined_entities : (c : Context) (d : DefinedTree) (x : List ℕ) → entity_of (after_defined c d) x ≡ entity_of c x
defined_entities c (of_struct s) x = struct_entities c s x
defined_entities c (of_base b) x = base_names c b x

pub typedef_same : (c : Context) (t : TypedefTree) → SameFunctions c (after_typedef c t)
typedef_same c t = same_by c (after_typedef c t) (λ x. type_names_names (after_defined c t.defined) (defined_type c t.defined) t.names x ∙ defined_entities c t.defined x)

-- ---- units

declarations_latest : (c : Context) (ds : UnitTree) (hs : List FunctionHeader) → AreLatest c hs → AreLatest (context_after c ds) (hs ++ headers_from c ds)
declarations_latest c [] hs l = subst (AreLatest c) (sym (append-nil hs)) l
declarations_latest c (structure s ∷ ds) hs l = declarations_latest (after_struct c s) ds hs (same_latest c (after_struct c s) hs (struct_same c s) l)
declarations_latest c (forward f ∷ ds) hs l =
    declarations_latest (with_tag c f.name) ds hs (same_latest c (with_tag c f.name) hs (same_by c (with_tag c f.name) (tag_names c f.name)) l)
declarations_latest c (typedef t ∷ ds) hs l = declarations_latest (after_typedef c t) ds hs (same_latest c (after_typedef c t) hs (typedef_same c t) l)
declarations_latest c (function f ∷ ds) hs l =
    subst (AreLatest (context_after (after_function c f) ds)) (append_assoc hs (header_at c f ∷ []) (headers_from (after_function c f) ds))
    (declarations_latest (after_function c f) ds (hs ++ header_at c f ∷ []) (function_latest c f hs l))
declarations_latest c (variables d ∷ ds) hs l =
    declarations_latest (after_variables true c d.base d.variables) ds hs
    (same_latest c (after_variables true c d.base d.variables) hs (variables_same true c d.base d.variables) l)

start_latest : AreLatest start_context []
start_latest = record { each = λ x node s has_body e. by x node s has_body (same_bytes putchar_name x) (same_bytes getchar_name x) e }
  where
    by : (x : List ℕ) (node : ℕ) (s : Option Signature) (has_body : Bool) (a b : Bool)
        → (if a then Some (given putchar_type) else (if b then Some (given getchar_type) else None)) ≡ Some (contexts.function node s has_body) → IsLatest [] x node s
    by x node s has_body true b e = absurd (cc)
    by x node s has_body false true e = absurd (cc)
    by x node s has_body false false e = absurd (cc)

-- behind any front of a unit a function's name stands for the latest header of the front
pub latest_behind_front : (front : UnitTree) → AreLatest (context_after start_context front) (unit_headers front)
latest_behind_front front = declarations_latest start_context front [] start_latest

-- ---- bodies: the parameters declare no functions, so what is a function there is one behind the header

inner_names : (c : Context) (result : Option TypeTree) (x : List ℕ) → entity_of (record (inner_scope c) { result = result }) x ≡ entity_of c x
inner_names c result x = refl

parameter_same : (c : Context) (p : ParameterTree) (t : Option TypeTree) (x : Option (List ℕ)) → SameFunctions c (with_parameter c p t x)
parameter_same c p t None = record { same = λ x f called p. p }
parameter_same c p t (Some x) = name_same c x (local_variable p.node.id t) refl

parameters_same : (c : Context) (ps : List ParameterTree) (ts : List (Option TypeTree)) → SameFunctions c (with_parameters c ps ts)
parameters_same c [] ts = record { same = λ x f called p. p }
parameters_same c (p ∷ ps) [] = record { same = λ x f called p. p }
parameters_same c (p ∷ ps) (t ∷ ts) =
    then_same c (with_parameter c p t p.name) (with_parameters (with_parameter c p t p.name) ps ts) (parameter_same c p t p.name)
    (parameters_same (with_parameter c p t p.name) ps ts)

pub body_same : (c : Context) (f : FunctionTree) → SameFunctions (after_function c f) (body_context c f)
body_same c f =
    let begin = record (inner_scope (after_function c f)) { result = result_type c f } in
    then_same (after_function c f) begin (body_context c f) (same_by (after_function c f) begin (inner_names (after_function c f) (result_type c f)))
    (parameters_same begin f.parameters (parameter_types (inner_scope c) f.parameters))

-- at the begin of a body a function's name stands for the latest header before it, its own among them
pub latest_in_body : (front : UnitTree) (f : FunctionTree) → AreLatest (body_context (context_after start_context front) f) (unit_headers front ++ header_at (context_after start_context front) f ∷ [])
latest_in_body front f =
    let c = context_after start_context front in
    same_latest (after_function c f) (body_context c f) (unit_headers front ++ header_at c f ∷ []) (body_same c f)
    (function_latest c f (unit_headers front) (latest_behind_front front))

-- ---- the functions that are given

-- what is declared as given was given before
still_given : (o : Option Entity) (n : ℕ) (s : Option Signature) (b : Bool) (g : Signature) → declared_function o n s b ≡ given g → o ≡ Some (given g)
still_given None n s b g e = absurd (cc)
still_given (Some (local_variable k t)) n s b g e = absurd (cc)
still_given (Some (file_variable k t)) n s b g e = absurd (cc)
still_given (Some (contexts.function k q earlier)) n s b g e = absurd (cc)
still_given (Some (given r)) n s b g e = ap Some e

found_within : (x : List ℕ) (bs cs : List Binding) (e : Entity) → lookup x bs ≡ Some e → lookup x (bs ++ cs) ≡ Some e
found_within x [] cs e p = absurd (cc)
found_within x (b ∷ bs) cs e p = by (same_bytes b.name x) (λ q. found_within x bs cs e q) p
  where
    by : (t : Bool) → (lookup x bs ≡ Some e → lookup x (bs ++ cs) ≡ Some e) → (if t then Some b.entity else lookup x bs) ≡ Some e → (if t then Some b.entity else lookup x (bs ++ cs)) ≡ Some e
    by true within p = p
    by false within p = within p

same_given : (c d : Context) → SameFunctions c d → AreGiven c → AreGiven d
same_given c d k g = record { each = λ x s e. g.each x s (k.same x (given s) refl e) }

function_given : (c : Context) (f : FunctionTree) → AreGiven c → AreGiven (after_function c f)
function_given c f g = record { each = λ x s e. by x s (same_bytes f.name x) refl e }
  where
    declared : Entity
    declared = declared_function (lookup f.name c.inner) f.node.id (signature_by (header_of c f)) (is_some f.body)

    by : (x : List ℕ) (s : Signature) (b : Bool) → same_bytes f.name x ≡ b → (if b then Some declared else entity_of c x) ≡ Some (given s) → s ≡ given_type x
    by x s true same e =
        let before : lookup f.name c.inner ≡ Some (given s) =
        still_given (lookup f.name c.inner) f.node.id (signature_by (header_of c f)) (is_some f.body) s (same_Some declared (given s) e) in
        g.each f.name s (found_within f.name c.inner c.outer (given s) before) ∙ ap given_type ((bytes_exact f.name x).0 same)
    by x s false other e = g.each x s e

declarations_given : (c : Context) (ds : UnitTree) → AreGiven c → AreGiven (context_after c ds)
declarations_given c [] g = g
declarations_given c (structure s ∷ ds) g = declarations_given (after_struct c s) ds (same_given c (after_struct c s) (struct_same c s) g)
declarations_given c (forward f ∷ ds) g =
    declarations_given (with_tag c f.name) ds (same_given c (with_tag c f.name) (same_by c (with_tag c f.name) (tag_names c f.name)) g)
declarations_given c (typedef t ∷ ds) g = declarations_given (after_typedef c t) ds (same_given c (after_typedef c t) (typedef_same c t) g)
declarations_given c (function f ∷ ds) g = declarations_given (after_function c f) ds (function_given c f g)
declarations_given c (variables d ∷ ds) g =
    declarations_given (after_variables true c d.base d.variables) ds (same_given c (after_variables true c d.base d.variables) (variables_same true c d.base d.variables) g)

start_given : AreGiven start_context
start_given = record { each = λ x s e. by x s (same_bytes putchar_name x) refl (same_bytes getchar_name x) refl e }
  where
    by : (x : List ℕ) (s : Signature) (a : Bool) → same_bytes putchar_name x ≡ a → (b : Bool) → same_bytes getchar_name x ≡ b
        → (if a then Some (given putchar_type) else (if b then Some (given getchar_type) else None)) ≡ Some (given s) → s ≡ given_type x
    by x s true p b q e = let own : s ≡ putchar_type = cc in own ∙ ap given_type ((bytes_exact putchar_name x).0 p)
    by x s false p true q e = let own : s ≡ getchar_type = cc in own ∙ ap given_type ((bytes_exact getchar_name x).0 q)
    by x s false p false q e = absurd (cc)

-- behind any front of a unit, and at the begin of a body, putchar and getchar have the types that they are given with
pub given_behind_front : (front : UnitTree) → AreGiven (context_after start_context front)
given_behind_front front = declarations_given start_context front start_given

pub given_in_body : (front : UnitTree) (f : FunctionTree) → AreGiven (body_context (context_after start_context front) f)
given_in_body front f =
    let c = context_after start_context front in
    same_given (after_function c f) (body_context c f) (body_same c f) (function_given c f (given_behind_front front))
