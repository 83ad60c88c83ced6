-- A well typed unit has a main, which returns an `int` and takes `int` and `unsigned` alone.
use Rattle.std.proofs.Common.{◌≡◌, ◌⊎◌, inl, inr, ℕ, suc, ◌+◌, ◌||◌, Bool, true, false, List, [], ◌∷◌, ◌++◌, append-nil, length, Option, Some, None, is_some, refl, sym, ap, ◌∙◌, subst, arith, if◌then◌else◌}
use Rattle.std.specs.List.{slice_get, list_all, list_any}
use Rattle.std.proofs.lemmas.Bool.{and_parts, and_from}
use Rattle.std.proofs.lemmas.Option.{same_Some}
use Rattle.qs_base.specs.Bytes.{same_bytes}
use Rattle.qs_base.proofs.ByteLaws.{bytes_exact}
use Rattle.qs_syntax.specs.declared.types.Base.{Base}
use Rattle.qs_syntax.specs.Trees.{VariableTree, ParameterTree, Stmts, DeclTree, structure, forward, function, variables, UnitTree, typedef, DeclaratorTree, StructTree, DefinedTree, of_struct, of_base}
use Rattle.qs_memory.specs.Scalars.{is_type, is_promoted}
use Rattle.qs_memory.specs.declared.scalar.Scalar.{Scalar}
use Rattle.qs_memory.specs.declared.scalar.Scalar.TheVariants as scalars
use Rattle.qs_memory.proofs.Options.{followed}
use Rattle.qs_calls.specs.declared.parameter.Parameter.{Parameter}
use Rattle.qs_types.specs.Types.{TypeTree, int, unsigned, char, void, pointer, array, struct, same_type, MemberTree, Structs}
use Rattle.qs_types.specs.GivenFunctions.{Signature, main_name}
use Rattle.qs_types.specs.Contexts.{Entity, local_variable, file_variable, given, Binding, Context, lookup, start_context}
use Rattle.qs_types.specs.Contexts as contexts
use Rattle.qs_types.specs.StatementRules.{after_variable, after_variables}
use Rattle.qs_types.specs.UnitRules.{is_name_in, parameter_types, after_parameter, may_be, is_main_parameter, declared_function, signature_by, header_of, after_function, with_tag, no_members, after_members, define_at, after_struct, after_declaration, context_after, with_new_tag, with_option_tag, option_place, with_base_tag, after_defined, defined_type, after_type_name, after_type_names, after_typedef}
use Rattle.qs_types.specs.WellTyped.{entity_has_body, end_context, has_main}
use Rattle.qs_types.specs.Placed.{Local, parameters_locals}
use Rattle.qs_types.specs.Declarations.{variable_declared, parameter_declared, type_name_declared}
use Rattle.qs_meaning.specs.Typed.{Function}
use Rattle.qs_meaning.specs.Conversions.{scalar_of}
use Rattle.qs_meaning.specs.Interfaces.{types_of}
use Rattle.qs_meaning.specs.Runs.{main_from}
use Rattle.qs_meaning.specs.Units.{scalars_of, result_scalar, name_with_body, functions_in}
use Rattle.qs_elaborate_laws.proofs.FitRules.{has_body_here, tag_inner, struct_inner}
use Rattle.qs_syntax.specs.declared.types.Base.TheVariants as bases
use Rattle.qs_meaning.proofs.FitSignatures.{typedef_inner}

-- ---- types (5.1.2.2.1)

pub int_result : (o : Option TypeTree) (t : TypeTree) → o ≡ Some t → may_be int o ≡ true → is_type (result_scalar o) scalars.Int ≡ true
int_result o t e h = subst (λ (p : Option TypeTree). is_type (result_scalar p) scalars.Int ≡ true) (sym e) (by_type t (ap (may_be int) (sym e) ∙ h))
  where
    by_type : (t : TypeTree) → same_type int t ≡ true → is_type (result_scalar (Some t)) scalars.Int ≡ true
    by_type int h = refl
    by_type unsigned h = cc
    by_type char h = cc
    by_type void h = cc
    by_type (pointer t) h = cc
    by_type (array t n) h = cc
    by_type (struct k) h = cc

one_promoted : (t : TypeTree) → is_main_parameter (Some t) ≡ true → is_promoted (scalar_of t) ≡ true
one_promoted int h = refl
one_promoted unsigned h = refl
one_promoted char h = cc
one_promoted void h = refl
one_promoted (pointer t) h = cc
one_promoted (array t n) h = cc
one_promoted (struct k) h = cc

pub parameters_promoted : (ps : List ParameterTree) (c : Context) (rest : List Local) (qs : List Parameter) (ss : List Scalar) → length qs ≡ length ps → scalars_of (parameters_locals ps (parameter_types c ps) ++ rest) ≡ Some ss → list_all is_main_parameter (parameter_types c ps) ≡ true → list_all is_promoted (types_of qs ss) ≡ true
parameters_promoted [] c rest [] ss long h k = refl
parameters_promoted [] c rest (q ∷ qs) ss long h k = absurd (omega arith)
parameters_promoted (p ∷ ps) c rest [] ss long h k = absurd (omega arith)
parameters_promoted (p ∷ ps) c rest (q ∷ qs) ss long h k =
    let t = followed (parameter_declared c p).type _ ss h in
    let others = followed (scalars_of (parameters_locals ps (parameter_types (after_parameter c p) ps) ++ rest)) _ ss t.then in
    let two = and_parts (is_main_parameter (parameter_declared c p).type) _ k in
    subst (λ (xs : List Scalar). list_all is_promoted (types_of (q ∷ qs) xs) ≡ true) (same_Some (scalar_of t.value ∷ others.value) ss others.then)
    (and_from _ _ (one_promoted t.value (ap is_main_parameter (sym t.first) ∙ two.0)) (parameters_promoted ps (after_parameter c p) rest qs others.value (omega arith) others.first two.1))

-- ---- contexts at file scope

tag_outer : (c : Context) (tag : List ℕ) → (with_tag c tag).outer ≡ c.outer
tag_outer c tag = by_test (is_some (contexts.tag_place c tag))
  where
    by_test : (b : Bool) → (if b then c else with_new_tag c tag).outer ≡ c.outer
    by_test true = refl
    by_test false = refl

option_outer : (c : Context) (tag : Option (List ℕ)) → (with_option_tag c tag).outer ≡ c.outer
option_outer c None = refl
option_outer c (Some tag) = tag_outer c tag

base_outer : (c : Context) (b : Base) → (with_base_tag c b).outer ≡ c.outer
base_outer c bases.Void = refl
base_outer c bases.Int = refl
base_outer c bases.Unsigned = refl
base_outer c bases.Char = refl
base_outer c (bases.Struct tag) = tag_outer c tag
base_outer c (bases.Named x) = refl

type_names_outer : (c : Context) (base : Option TypeTree) (ds : List DeclaratorTree) → (after_type_names c base ds).outer ≡ c.outer
type_names_outer c base [] = refl
type_names_outer c base (d ∷ ds) = type_names_outer (after_type_name c base d) base ds ∙ by_test (contexts.is_type_name c d.name)
  where
    by_test : (b : Bool) → (if b then c else record c { type_names = contexts.add_type c.type_names d.name (type_name_declared c base d).type }).outer ≡ c.outer
    by_test true = refl
    by_test false = refl

defined_outer : (c : Context) (ms : List MemberTree) (o : Option ℕ) → (define_at c ms o).outer ≡ c.outer
defined_outer c ms None = refl
defined_outer c ms (Some k) = by_test _ _
  where
    by_test : (b : Bool) (structs : Structs) → (if b then record c { structs = structs } else c).outer ≡ c.outer
    by_test true structs = refl
    by_test false structs = refl

variables_outer : (vs : List VariableTree) (c : Context) (base : Base) → (after_variables true c base vs).outer ≡ c.outer
variables_outer [] c base = refl
variables_outer (v ∷ vs) c base = variables_outer vs (after_variable true c base v) base

struct_outer : (c : Context) (s : StructTree) → (after_struct c s).outer ≡ c.outer
struct_outer c s =
    defined_outer (with_option_tag c s.name) (after_members (with_option_tag c s.name) no_members s.members).members (option_place c s.name) ∙ option_outer c s.name

names_outer : (c : Context) (d : DefinedTree) → (after_defined c d).outer ≡ c.outer
names_outer c (of_struct s) = struct_outer c s
names_outer c (of_base b) = base_outer c b

declaration_outer : (d : DeclTree) (c : Context) → (after_declaration c d).outer ≡ c.outer
declaration_outer (structure s) c = struct_outer c s
declaration_outer (forward g) c = tag_outer c g.name
declaration_outer (typedef t) c = type_names_outer (after_defined c t.defined) (defined_type c t.defined) t.names ∙ names_outer c t.defined
declaration_outer (function g) c = refl
declaration_outer (variables d) c = variables_outer d.variables c d.base

unit_outer : (ds : UnitTree) (c : Context) → (context_after c ds).outer ≡ c.outer
unit_outer [] c = refl
unit_outer (d ∷ ds) c = unit_outer ds (after_declaration c d) ∙ declaration_outer d c

-- ---- a body that is known was given

header_has : (o : Option Entity) (node : ℕ) (s : Option Signature) (b : Bool) → entity_has_body (Some (declared_function o node s b)) ≡ true → (entity_has_body o ≡ true) ⊎ (b ≡ true)
header_has None node s b h = inr h
header_has (Some (local_variable n t)) node s b h = inr h
header_has (Some (file_variable n t)) node s b h = inr h
header_has (Some (contexts.function n r true)) node s b h = inl refl
header_has (Some (contexts.function n r false)) node s b h = inr h
header_has (Some (given r)) node s b h = cc

variables_have : (vs : List VariableTree) (c : Context) (base : Base) (x : List ℕ) → has_body_here (after_variables true c base vs) x ≡ true → has_body_here c x ≡ true
variables_have [] c base x h = h
variables_have (v ∷ vs) c base x h = by_test (same_bytes v.declarator.name x) (variables_have vs (after_variable true c base v) base x h)
  where
    by_test : (b : Bool) → entity_has_body (if b then Some (file_variable v.declarator.node.id (variable_declared c base v).type) else lookup x c.inner) ≡ true → has_body_here c x ≡ true
    by_test true h = cc
    by_test false h = h

-- in front of other names
in_front : (x g : List ℕ) (o : Option Stmts) (names : List (List ℕ)) → is_name_in x names ≡ true → is_name_in x (name_with_body g o ++ names) ≡ true
in_front x g None names h = h
in_front x g (Some body) names h = by_test (same_bytes x g)
  where
    by_test : (b : Bool) → (b || is_name_in x names) ≡ true
    by_test true = refl
    by_test false = h

named_first : (x g : List ℕ) (o : Option Stmts) (names : List (List ℕ)) → is_some o ≡ true → g ≡ x → is_name_in x (name_with_body g o ++ names) ≡ true
named_first x g None names h e = cc
named_first x g (Some body) names h e = ap (λ b. b || is_name_in x names) ((bytes_exact x g).1 (sym e))

pub body_given : (ds : UnitTree) (c : Context) (x : List ℕ) → has_body_here (context_after c ds) x ≡ true → (has_body_here c x ≡ true) ⊎ (is_name_in x (functions_in ds) ≡ true)
body_given [] c x h = inl h
body_given (structure s ∷ ds) c x h = by_rest (body_given ds (after_struct c s) x h)
  where
    by_rest : (has_body_here (after_struct c s) x ≡ true) ⊎ (is_name_in x (functions_in ds) ≡ true) → (has_body_here c x ≡ true) ⊎ (is_name_in x (functions_in ds) ≡ true)
    by_rest (inl k) = inl (ap (λ (bs : List Binding). entity_has_body (lookup x bs)) (sym (struct_inner c s)) ∙ k)
    by_rest (inr k) = inr k
body_given (forward g ∷ ds) c x h = by_rest (body_given ds (with_tag c g.name) x h)
  where
    by_rest : (has_body_here (with_tag c g.name) x ≡ true) ⊎ (is_name_in x (functions_in ds) ≡ true) → (has_body_here c x ≡ true) ⊎ (is_name_in x (functions_in ds) ≡ true)
    by_rest (inl k) = inl (ap (λ (bs : List Binding). entity_has_body (lookup x bs)) (sym (tag_inner c g.name)) ∙ k)
    by_rest (inr k) = inr k
body_given (typedef g ∷ ds) c x h = by_rest (body_given ds (after_typedef c g) x h)
  where
    by_rest : (has_body_here (after_typedef c g) x ≡ true) ⊎ (is_name_in x (functions_in ds) ≡ true) → (has_body_here c x ≡ true) ⊎ (is_name_in x (functions_in ds) ≡ true)
    by_rest (inl k) = inl (ap (λ (bs : List Binding). entity_has_body (lookup x bs)) (sym (typedef_inner c g)) ∙ k)
    by_rest (inr k) = inr k
body_given (variables d ∷ ds) c x h = by_rest (body_given ds (after_variables true c d.base d.variables) x h)
  where
    by_rest : (has_body_here (after_variables true c d.base d.variables) x ≡ true) ⊎ (is_name_in x (functions_in ds) ≡ true) → (has_body_here c x ≡ true) ⊎ (is_name_in x (functions_in ds) ≡ true)
    by_rest (inl k) = inl (variables_have d.variables c d.base x k)
    by_rest (inr k) = inr k
body_given (function g ∷ ds) c x h = by_rest (body_given ds (after_function c g) x h)
  where
    by_test : (b : Bool) → same_bytes g.name x ≡ b → entity_has_body (if b then Some (declared_function (lookup g.name c.inner) g.node.id (signature_by (header_of c g)) (is_some g.body)) else lookup x c.inner) ≡ true
        → (has_body_here c x ≡ true) ⊎ (is_name_in x (name_with_body g.name g.body ++ functions_in ds) ≡ true)
    by_test false e k = inl k
    by_test true e k = by_header (header_has (lookup g.name c.inner) g.node.id (signature_by (header_of c g)) (is_some g.body) k)
      where
        same : g.name ≡ x
        same = (bytes_exact g.name x).0 e

        by_header : (entity_has_body (lookup g.name c.inner) ≡ true) ⊎ (is_some g.body ≡ true) → (has_body_here c x ≡ true) ⊎ (is_name_in x (name_with_body g.name g.body ++ functions_in ds) ≡ true)
        by_header (inl k) = inl (ap (λ (y : List ℕ). entity_has_body (lookup y c.inner)) (sym same) ∙ k)
        by_header (inr k) = inr (named_first x g.name g.body (functions_in ds) k same)

    by_rest : (has_body_here (after_function c g) x ≡ true) ⊎ (is_name_in x (functions_in ds) ≡ true) → (has_body_here c x ≡ true) ⊎ (is_name_in x (name_with_body g.name g.body ++ functions_in ds) ≡ true)
    by_rest (inl k) = by_test (same_bytes g.name x) refl k
    by_rest (inr k) = inr (in_front x g.name g.body (functions_in ds) k)

-- a well typed unit gives main a body
pub main_given : (unit : UnitTree) → has_main unit ≡ true → is_name_in main_name (functions_in unit) ≡ true
main_given unit h = by_start (body_given unit start_context main_name here)
  where
    here : has_body_here (end_context unit) main_name ≡ true
    here =
        ap (λ (bs : List Binding). entity_has_body (lookup main_name bs))
        (sym (append-nil (end_context unit).inner) ∙ ap (λ (bs : List Binding). (end_context unit).inner ++ bs) (sym (unit_outer unit start_context)))
        ∙ h

    by_start : (has_body_here start_context main_name ≡ true) ⊎ (is_name_in main_name (functions_in unit) ≡ true) → is_name_in main_name (functions_in unit) ≡ true
    by_start (inl k) = cc
    by_start (inr k) = k

-- ---- the number of main

pub record FoundMain (gs : List Function) (first : ℕ) : Type 0 where
  pub place : ℕ
  pub is : main_from first gs ≡ Some (first + place)
  pub main : Function
  pub there : slice_get gs place ≡ Some main
  pub marked : main.is_main ≡ true

pub main_found : (gs : List Function) (first : ℕ) → list_any (λ (g : Function). g.is_main) gs ≡ true → FoundMain gs first
main_found [] first h = cc
main_found (g ∷ gs) first h = by_mark g.is_main refl h (λ k. main_found gs (first + 1) k)
  where
    by_mark : (b : Bool) → g.is_main ≡ b → (b || list_any (λ (g : Function). g.is_main) gs) ≡ true → (list_any (λ (g : Function). g.is_main) gs ≡ true → FoundMain gs (first + 1)) → FoundMain (g ∷ gs) first
    by_mark true e h rest = record {
      place = 0;
      is = ap (λ b. if b then Some first else main_from (first + 1) gs) e ∙ ap Some (omega arith);
      main = g;
      there = refl;
      marked = e;
    }
    by_mark false e h rest =
        let r = rest h in
        record {
          place = suc r.place;
          is = ap (λ b. if b then Some first else main_from (first + 1) gs) e ∙ r.is ∙ ap Some (omega arith);
          main = r.main;
          there = r.there;
          marked = r.marked;
        }
