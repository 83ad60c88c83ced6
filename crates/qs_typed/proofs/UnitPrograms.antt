-- The functions of a program that are found by the numbers of the unit's nodes are those of its typed tree.
use Rattle.std.proofs.Common.{◌≡◌, ℕ, Bool, true, false, List, [], ◌∷◌, ◌++◌, Option, Some, None, is_some, map, refl, sym, ap, ◌∙◌, arith, if◌then◌else◌}
use Rattle.std.specs.List.{slice_get}
use Rattle.std.proofs.lemmas.Option.{same_Some}
use Rattle.qs_memory.specs.Partial.{◌>>=◌}
use Rattle.qs_base.specs.Bytes.{same_bytes}
use Rattle.qs_syntax.specs.declared.types.Base.{Base}
use Rattle.qs_syntax.specs.Trees.{VariableTree, StructTree, FunctionTree, Stmts, DeclTree, structure, forward, function, variables, UnitTree, TypedefTree, typedef}
use Rattle.qs_types.specs.Types.{TypeTree, MemberTree}
use Rattle.qs_types.specs.Layout.{layout_of, sized_layout, member_types, with_members}
use Rattle.qs_types.specs.GivenFunctions.{Signature}
use Rattle.qs_types.specs.Contexts.{file_variable, Context, entity_of, with_name, tag_place, inner_scope, base_in, base_type}
use Rattle.qs_types.specs.Contexts as contexts
use Rattle.qs_types.specs.Declarations.{variable_declared}
use Rattle.qs_types.specs.StatementRules.{after_variable, after_variables}
use Rattle.qs_types.specs.Placed.{addressed_in, statements_locals}
use Rattle.qs_types.specs.UnitRules.{with_tag, no_members, after_members, has_no_members, define_at, after_struct, result_type, after_function, after_declaration, body_context, function_faults, declaration_faults, declarations_faults, context_after, with_new_tag, with_option_tag, option_place, after_typedef}
use Rattle.qs_typing_findings.specs.UnitNodes.{of_parameters, of_body, of_declaration, of_declarations}
use Rattle.qs_meaning.specs.Typed.{Function, StaticBlock, TypedProgram}
use Rattle.qs_meaning.specs.Conversions.{scalar_of}
use Rattle.qs_meaning.specs.Names.{Locals, Scope, within}
use Rattle.qs_meaning.specs.TypedLaws.{IsFileScope}
use Rattle.qs_meaning.specs.Units.{parameters_in, function_with, function_typed, file_variables_typed, no_functions, no_blocks, declarations_typed}
use Rattle.qs_meaning.proofs.FaultlessExpressions.{none_left, none_right}
use Rattle.qs_meaning.proofs.UnitsTyped.{header_result, declaration_known}
use Rattle.qs_typed_nodes.specs.Known.{Header, parameters_of}
use Rattle.qs_typed_units.specs.KnownUnits.{with_header, headers_behind}
use Rattle.qs_typed_units.specs.KnownPrograms.{Tables, known_in, body_known, option_body_known, functions_known}
use Rattle.qs_typed.specs.UnitVariables.{function_variables, unit_variables_from, variables_of, variables_known}
use Rattle.qs_typed_nodes.specs.Agrees.{Keeps}
use Rattle.qs_typed.specs.AgreesFunctions.{FunctionAt}
use Rattle.qs_typed_nodes.proofs.KeptAgreement.{nothing, kept, is_kept}
use Rattle.qs_typed.proofs.LaterStructs.{IsLater}
use Rattle.qs_typed.proofs.KnownNodes.{Each, each_left, each_right, StandsIn}
use Rattle.qs_typed.proofs.KnownBodies.{Typing, Naming, declared_type, no_referent, its_type, its_referent}
use Rattle.qs_typed.proofs.TiedFunctions.{function_kept}
use Rattle.qs_typed.proofs.UnitContexts.{unit_goes}
use Rattle.qs_typed.proofs.UnitHeaders.{HeadersFound, header_kept, function_found}
use Rattle.qs_typed.proofs.UnitGiven.{GivenIn, function_given, declaration_given}
use Rattle.qs_typed.proofs.UnitLocals.{parameters_declared}
use Rattle.qs_typed.proofs.UnitBodies.{KnownAt}
use Rattle.qs_typed.proofs.UnitFunctions.{function_at}
use Rattle.qs_typing_findings.proofs.LatestHeaders.{typedef_same}

-- ---- headers

headers_kept : (types : List (Option TypeTree)) (hs : List Header) (ds : UnitTree) (all : List Header) → headers_behind types hs ds ≡ Some all → (n : ℕ) → Keeps (parameters_of n hs) (parameters_of n all)
headers_kept types hs [] all e n = λ x p. ap (parameters_of n) (sym (same_Some hs all e)) ∙ p
headers_kept types hs (structure d ∷ ds) all e n = headers_kept types hs ds all e n
headers_kept types hs (forward d ∷ ds) all e n = headers_kept types hs ds all e n
headers_kept types hs (typedef d ∷ ds) all e n = headers_kept types hs ds all e n
headers_kept types hs (variables d ∷ ds) all e n = headers_kept types hs ds all e n
headers_kept types hs (function f ∷ ds) all e n = go (with_header types f hs) refl e (λ more p. headers_kept types more ds all p n)
  where
    go : (o : Option (List Header)) → with_header types f hs ≡ o → (o >>= λ more. headers_behind types more ds) ≡ Some all
        → ((more : List Header) → headers_behind types more ds ≡ Some all → Keeps (parameters_of n more) (parameters_of n all)) → Keeps (parameters_of n hs) (parameters_of n all)
    go None q p rest = nothing all p
    go (Some more) q p rest = λ x r. rest more p x (header_kept types f hs more q n x r)

found_later : (c : Context) (hs all : List Header) → ((n : ℕ) → Keeps (parameters_of n hs) (parameters_of n all)) → HeadersFound c hs → HeadersFound c all
found_later c hs all g h x node f body e = g node _ (h x node f body e)

-- ---- what holds at a place at file scope, for all that follows

pub record UnitAt (t : Tables) (s : Scope) (c : Context) (hs : List Header) (ds : UnitTree) : Type 0 where
  pub scope : IsFileScope c
  pub faultless : declarations_faults c ds ≡ []
  pub structs : IsLater (context_after c ds).structs t.structs
  pub bases : (b : Base) → Keeps (base_type (context_after c ds) b) (base_in t.type_names b)
  pub found : HeadersFound c hs
  pub headers : headers_behind t.types hs ds ≡ Some t.headers
  pub given : GivenIn c
  pub statics : t.statics ≡ s.statics
  pub functions : t.functions ≡ s.functions

-- ---- functions in scope behind other declarations

tag_entity : (c : Context) (tag x : List ℕ) → entity_of (with_tag c tag) x ≡ entity_of c x
tag_entity c tag x = by (is_some (tag_place c tag))
  where
    by : (b : Bool) → entity_of (if b then c else with_new_tag c tag) x ≡ entity_of c x
    by true = refl
    by false = refl

option_entity : (c : Context) (tag : Option (List ℕ)) (x : List ℕ) → entity_of (with_option_tag c tag) x ≡ entity_of c x
option_entity c None x = refl
option_entity c (Some tag) x = tag_entity c tag x

define_entity : (c : Context) (new : List MemberTree) (o : Option ℕ) (x : List ℕ) → entity_of (define_at c new o) x ≡ entity_of c x
define_entity c new None x = refl
define_entity c new (Some k) x = by (has_no_members (slice_get c.structs k))
  where
    by : (b : Bool) → entity_of (if b then record c { structs = with_members (is_some (sized_layout (layout_of c.structs) (member_types new))) c.structs k new } else c) x ≡ entity_of c x
    by true = refl
    by false = refl

struct_found : (c : Context) (d : StructTree) (hs : List Header) → HeadersFound c hs → HeadersFound (after_struct c d) hs
struct_found c d hs h x node f body e =
    h x node f body
    (sym (define_entity (with_option_tag c d.name) (after_members (with_option_tag c d.name) no_members d.members).members (option_place c d.name) x ∙ option_entity c d.name x) ∙ e)

typedef_found : (c : Context) (d : TypedefTree) (hs : List Header) → HeadersFound c hs → HeadersFound (after_typedef c d) hs
typedef_found c d hs h x node f body e = h x node f body ((typedef_same c d).same x (contexts.function node (Some f) body) refl e)

tag_found : (c : Context) (tag : List ℕ) (hs : List Header) → HeadersFound c hs → HeadersFound (with_tag c tag) hs
tag_found c tag hs h x node f body e = h x node f body (sym (tag_entity c tag x) ∙ e)

no_function : (n node : ℕ) (t : Option TypeTree) (f : Signature) (body : Bool) → Some (file_variable n t) ≡ Some (contexts.function node (Some f) body) → ⊥
no_function n node t f body e = cc

variable_found : (c : Context) (x : List ℕ) (n : ℕ) (t : Option TypeTree) (hs : List Header) → HeadersFound c hs → HeadersFound (with_name c x (file_variable n t)) hs
variable_found c x n t hs h y node f body e = by (same_bytes x y) e
  where
    by : (b : Bool) → (if b then Some (file_variable n t) else entity_of c y) ≡ Some (contexts.function node (Some f) body) → parameters_of node hs ≡ Some (map scalar_of f.parameters)
    by true p = absurd (no_function n node t f body p)
    by false p = h y node f body p

variables_found : (c : Context) (base : Base) (vs : List VariableTree) (hs : List Header) → HeadersFound c hs → HeadersFound (after_variables true c base vs) hs
variables_found c base [] hs h = h
variables_found c base (v ∷ vs) hs h =
    variables_found (after_variable true c base v) base vs hs (variable_found c v.declarator.name v.declarator.node.id (variable_declared c base v).type hs h)

-- ---- what holds behind a declaration

behind : (t : Tables) (s : Scope) (c : Context) (hs more : List Header) (d : DeclTree) (ds : UnitTree) → UnitAt t s c hs (d ∷ ds) → HeadersFound (after_declaration c d) more
    → headers_behind t.types more ds ≡ Some t.headers → UnitAt t s (after_declaration c d) more ds
behind t s c hs more d ds h found e = record {
  scope = (declaration_known s d c h.scope (none_left (declaration_faults c d) (declarations_faults (after_declaration c d) ds) h.faultless)).scope;
  faultless = none_right (declaration_faults c d) (declarations_faults (after_declaration c d) ds) h.faultless;
  structs = h.structs;
  bases = h.bases;
  found = found;
  headers = e;
  given = declaration_given c d h.given;
  statics = h.statics;
  functions = h.functions;
}

-- ---- functions

known_at : (t : Tables) (s : Scope) (c : Context) (hs more : List Header) (f : FunctionTree) (body : Stmts) (ds : UnitTree) → UnitAt t s c hs (function f ∷ ds)
    → HeadersFound (after_function c f) more → headers_behind t.types more ds ≡ Some t.headers → KnownAt (known_in t f body) (within s (after_function c f))
known_at t s c hs more f body ds h found e =
    let later = unit_goes (after_function c f) ds in
    record {
      structs = record {
        members = λ k x p. h.structs.members k x (later.structs.members k x p);
        many = let a = later.structs.many in let b = h.structs.many in omega arith;
      };
      bases = λ b x p. h.bases b x (later.bases b x p);
      headers = found_later (after_function c f) more t.headers (headers_kept t.types more ds t.headers e) found;
      given = function_given c f h.given;
      statics = h.statics;
      functions = h.functions;
    }

abbrev pub BodyAt : Tables → Scope → Context → FunctionTree → Option Stmts → Type 0
BodyAt t s c f None = Unit {0}
BodyAt t s c f (Some b) = FunctionAt (known_in t f b) (within s c) f b (addressed_in c f b) (parameters_in c f) (statements_locals (body_context c f) b)

body_at : (t : Tables) (s : Scope) (c : Context) (f : FunctionTree) (r : TypeTree) → result_type c f ≡ Some r → Each (StandsIn t.types) (of_parameters declared_type its_type (inner_scope c) f.parameters)
    → (body : Option Stmts) → ((b : Stmts) → KnownAt (known_in t f b) (within s (after_function c f)))
    → Each (StandsIn t.types) (of_body declared_type its_type c f body) → Each (StandsIn t.referents) (of_body no_referent its_referent c f body) → BodyAt t s c f body
body_at t s c f r e ps None h n m = tt
body_at t s c f r e ps (Some b) h n m = function_at t (within s c) f b r (h b) e ps (n, m)

-- at each body of a unit
abbrev pub BodiesAt : Tables → Scope → Context → UnitTree → Type 0
BodiesAt t s c [] = Unit {0}
BodiesAt t s c (structure d ∷ ds) = BodiesAt t s (after_struct c d) ds
BodiesAt t s c (forward d ∷ ds) = BodiesAt t s (with_tag c d.name) ds
BodiesAt t s c (typedef d ∷ ds) = BodiesAt t s (after_typedef c d) ds
BodiesAt t s c (function f ∷ ds) = BodyAt t s c f f.body × BodiesAt t s (after_function c f) ds
BodiesAt t s c (variables d ∷ ds) = BodiesAt t s (after_variables true c d.base d.variables) ds

-- ---- units

abbrev joined : TypedProgram → TypedProgram → Option TypedProgram
joined now rest = Some (record { functions = now.functions ++ rest.functions; blocks = now.blocks ++ rest.blocks })

alone : (known : Option (List Function)) (o : Option TypedProgram) (bs : List StaticBlock) (p : TypedProgram) → (o >>= joined (record { functions = []; blocks = bs })) ≡ Some p
    → ((q : TypedProgram) → o ≡ Some q → known ≡ Some q.functions) → known ≡ Some p.functions
alone known None bs p e h = nothing p e
alone known (Some q) bs p e h = h q refl ∙ ap (λ (p : TypedProgram). Some p.functions) (same_Some (record { functions = q.functions; blocks = bs ++ q.blocks }) p e)

beside : (known : Option (List Function)) (fs : List Function) (o : Option TypedProgram) (p : TypedProgram) → (o >>= joined (record { functions = fs; blocks = [] })) ≡ Some p
    → ((q : TypedProgram) → o ≡ Some q → known ≡ Some q.functions) → (known >>= λ rest. Some (fs ++ rest)) ≡ Some p.functions
beside known fs None p e h = nothing p e
beside known fs (Some q) p e h =
    ap (λ o. o >>= λ rest. Some (fs ++ rest)) (h q refl) ∙ ap (λ (p : TypedProgram). Some p.functions) (same_Some (record { functions = fs ++ q.functions; blocks = q.blocks }) p e)

variables_alone : (known : Option (List Function)) (blocks : Option (List StaticBlock)) (o : Option TypedProgram) (p : TypedProgram) → (no_functions blocks >>= λ now. o >>= joined now) ≡ Some p
    → ((q : TypedProgram) → o ≡ Some q → known ≡ Some q.functions) → known ≡ Some p.functions
variables_alone known None o p e h = nothing p e
variables_alone known (Some bs) o p e h = alone known o bs p e h

function_beside : (known : Option (List Function)) (typed now : Option (List Function)) (o : Option TypedProgram) (p : TypedProgram) → Keeps typed now
    → (no_blocks typed >>= λ now. o >>= joined now) ≡ Some p → ((q : TypedProgram) → o ≡ Some q → known ≡ Some q.functions)
    → (now >>= λ now. known >>= λ rest. Some (now ++ rest)) ≡ Some p.functions
function_beside known None now o p k e h = nothing p e
function_beside known (Some fs) now o p k e h = ap (λ x. x >>= λ now. known >>= λ rest. Some (now ++ rest)) (k fs refl) ∙ beside known fs o p e h

-- ---- what the definition gives from these

body_kept : (t : Tables) (s : Scope) (c : Context) (f : FunctionTree) (body : Option Stmts) → BodyAt t s c f body → Keeps (function_typed (within s c) f body) (option_body_known t f body)
body_kept t s c f None h = λ x p. p
body_kept t s c f (Some b) h =
    kept (function_with (within s c) f b (addressed_in c f b) (parameters_in c f) (statements_locals (body_context c f) b)) (body_known t f b) (λ g. Some (g ∷ [])) (λ g. Some (g ∷ []))
    (function_kept (known_in t f b) (within s c) f b (addressed_in c f b) (parameters_in c f) (statements_locals (body_context c f) b) h) (λ g. is_kept (Some (g ∷ [])))

pub functions_same : (t : Tables) (s : Scope) (ds : UnitTree) (c : Context) → BodiesAt t s c ds → (p : TypedProgram) → declarations_typed (within s c) ds ≡ Some p → functions_known t ds ≡ Some p.functions
functions_same t s [] c h p e = ap (λ (p : TypedProgram). Some p.functions) (same_Some (record { functions = []; blocks = [] }) p e)
functions_same t s (structure d ∷ ds) c h p e =
    alone (functions_known t ds) (declarations_typed (within s (after_struct c d)) ds) [] p e (functions_same t s ds (after_struct c d) h)
functions_same t s (forward d ∷ ds) c h p e = alone (functions_known t ds) (declarations_typed (within s (with_tag c d.name)) ds) [] p e (functions_same t s ds (with_tag c d.name) h)
functions_same t s (typedef d ∷ ds) c h p e = alone (functions_known t ds) (declarations_typed (within s (after_typedef c d)) ds) [] p e (functions_same t s ds (after_typedef c d) h)
functions_same t s (variables d ∷ ds) c h p e =
    variables_alone (functions_known t ds) (file_variables_typed (within s c) d.base d.variables) (declarations_typed (within s (after_variables true c d.base d.variables)) ds) p e
    (functions_same t s ds (after_variables true c d.base d.variables) h)
functions_same t s (function f ∷ ds) c h p e =
    function_beside (functions_known t ds) (function_typed (within s c) f f.body) (option_body_known t f f.body) (declarations_typed (within s (after_function c f)) ds) p
    (body_kept t s c f f.body h.0) e (functions_same t s ds (after_function c f) h.1)

-- ---- units

pub bodies_at : (t : Tables) (s : Scope) (ds : UnitTree) (c : Context) (hs : List Header) → UnitAt t s c hs ds
    → Each (StandsIn t.types) (of_declarations declared_type its_type c ds) → Each (StandsIn t.referents) (of_declarations no_referent its_referent c ds) → BodiesAt t s c ds
bodies_at t s [] c hs h n m = tt
bodies_at t s (structure d ∷ ds) c hs h n m =
    bodies_at t s ds (after_struct c d) hs (behind t s c hs hs (structure d) ds h (struct_found c d hs h.found) h.headers)
    (each_right (StandsIn t.types) (of_declaration declared_type its_type c (structure d)) (of_declarations declared_type its_type (after_struct c d) ds) n)
    (each_right (StandsIn t.referents) (of_declaration no_referent its_referent c (structure d)) (of_declarations no_referent its_referent (after_struct c d) ds) m)
bodies_at t s (forward d ∷ ds) c hs h n m =
    bodies_at t s ds (with_tag c d.name) hs (behind t s c hs hs (forward d) ds h (tag_found c d.name hs h.found) h.headers)
    (each_right (StandsIn t.types) (of_declaration declared_type its_type c (forward d)) (of_declarations declared_type its_type (with_tag c d.name) ds) n)
    (each_right (StandsIn t.referents) (of_declaration no_referent its_referent c (forward d)) (of_declarations no_referent its_referent (with_tag c d.name) ds) m)
bodies_at t s (typedef d ∷ ds) c hs h n m =
    bodies_at t s ds (after_typedef c d) hs (behind t s c hs hs (typedef d) ds h (typedef_found c d hs h.found) h.headers)
    (each_right (StandsIn t.types) (of_declaration declared_type its_type c (typedef d)) (of_declarations declared_type its_type (after_typedef c d) ds) n)
    (each_right (StandsIn t.referents) (of_declaration no_referent its_referent c (typedef d)) (of_declarations no_referent its_referent (after_typedef c d) ds) m)
bodies_at t s (variables d ∷ ds) c hs h n m =
    let after = after_variables true c d.base d.variables in
    bodies_at t s ds after hs (behind t s c hs hs (variables d) ds h (variables_found c d.base d.variables hs h.found) h.headers)
    (each_right (StandsIn t.types) (of_declaration declared_type its_type c (variables d)) (of_declarations declared_type its_type after ds) n)
    (each_right (StandsIn t.referents) (of_declaration no_referent its_referent c (variables d)) (of_declarations no_referent its_referent after ds) m)
bodies_at t s (function f ∷ ds) c hs h n m =
    go (with_header t.types f hs) refl h.headers (λ more g v w. bodies_at t s ds (after_function c f) more g v w)
  where
    td : List Typing
    td = declared_type f.node None ∷ of_parameters declared_type its_type (inner_scope c) f.parameters

    rd : List Naming
    rd = no_referent f.node None ∷ of_parameters no_referent its_referent (inner_scope c) f.parameters

    after : Context
    after = after_function c f

    tr : List Typing
    tr = of_declarations declared_type its_type after ds

    rr : List Naming
    rr = of_declarations no_referent its_referent after ds

    here : Each (StandsIn t.types) (td ++ of_body declared_type its_type c f f.body)
    here = each_left (StandsIn t.types) (td ++ of_body declared_type its_type c f f.body) tr n

    named : Each (StandsIn t.referents) (rd ++ of_body no_referent its_referent c f f.body)
    named = each_left (StandsIn t.referents) (rd ++ of_body no_referent its_referent c f f.body) rr m

    parameters : Each (StandsIn t.types) (of_parameters declared_type its_type (inner_scope c) f.parameters)
    parameters = (each_left (StandsIn t.types) td (of_body declared_type its_type c f f.body) here).1

    faults : function_faults c f ≡ []
    faults = none_left (declaration_faults c (function f)) (declarations_faults after ds) h.faultless

    go : (o : Option (List Header)) → with_header t.types f hs ≡ o → (o >>= λ more. headers_behind t.types more ds) ≡ Some t.headers
        → ((more : List Header) → UnitAt t s after more ds → Each (StandsIn t.types) tr → Each (StandsIn t.referents) rr → BodiesAt t s after ds) → BodiesAt t s c (function f ∷ ds)
    go None q r rest = nothing t.headers r
    go (Some more) q r rest =
        let result = header_result s c f h.scope faults in
        let found : HeadersFound after more = function_found t.types c f hs more (parameters_declared t.types (inner_scope c) f.parameters parameters) q h.found in (
          body_at t s c f result.value result.is parameters f.body (λ b. known_at t s c hs more f b ds h found r)
              (each_right (StandsIn t.types) td (of_body declared_type its_type c f f.body) here) (each_right (StandsIn t.referents) rd (of_body no_referent its_referent c f f.body) named),
          rest more (behind t s c hs more (function f) ds h found r) (each_right (StandsIn t.types) (td ++ of_body declared_type its_type c f f.body) tr n)
              (each_right (StandsIn t.referents) (rd ++ of_body no_referent its_referent c f f.body) rr m),
        )

-- ---- variables

body_variables : (t : Tables) (s : Scope) (c : Context) (f : FunctionTree) (body : Option Stmts) → BodyAt t s c f body → variables_of t f body ≡ function_variables c f body
body_variables t s c f None h = refl
body_variables t s c f (Some b) h = ap (λ (l : Locals). l.variables ∷ []) h.locals

pub variables_same : (t : Tables) (s : Scope) (ds : UnitTree) (c : Context) → BodiesAt t s c ds → variables_known t ds ≡ unit_variables_from c ds
variables_same t s [] c h = refl
variables_same t s (structure d ∷ ds) c h = variables_same t s ds (after_struct c d) h
variables_same t s (forward d ∷ ds) c h = variables_same t s ds (with_tag c d.name) h
variables_same t s (typedef d ∷ ds) c h = variables_same t s ds (after_typedef c d) h
variables_same t s (function f ∷ ds) c h = λ i. body_variables t s c f f.body h.0 i ++ variables_same t s ds (after_function c f) h.1 i
variables_same t s (variables d ∷ ds) c h = variables_same t s ds (after_variables true c d.base d.variables) h
