-- What is known of a unit agrees with the scope in which each of its bodies stands.
use Rattle.std.proofs.Common.{◌≡◌, ℕ, zero, suc, Bool, true, false, ◌&&◌, List, [], ◌∷◌, Option, Some, None, refl, sym, ap, ◌∙◌, arith, if◌then◌else◌}
use Rattle.std.specs.Prelude.{◌==◌}
use Rattle.std.proofs.lemmas.Option.{same_Some}
use Rattle.qs_memory.specs.declared.scalar.Scalar.TheVariants as scalars
use Rattle.qs_syntax.specs.declared.types.Base.{Base}
use Rattle.qs_syntax.specs.Trees.{ParameterTree, FunctionTree}
use Rattle.qs_types.specs.Types.{TypeTree, int, unsigned, char, void, pointer, array, struct, is_void}
use Rattle.qs_types.specs.Contexts.{TypeNames, Context, base_in, base_type, is_void_type, pointers, starred, starred_type, inner_scope}
use Rattle.qs_types.specs.UnitRules.{with_parameter, with_parameters, parameter_types, is_void_pointer, result_type, after_function}
use Rattle.qs_meaning.specs.Conversions.{scalar_of}
use Rattle.qs_meaning.specs.Names.{Locals, Scope, within}
use Rattle.qs_meaning.specs.Units.{result_scalar, in_body}
use Rattle.qs_typed_nodes.specs.Known.{Known}
use Rattle.qs_typed_nodes.specs.KnownFunctions.{type_scalar, named_scalar, returns_nothing}
use Rattle.qs_typed_nodes.specs.Agrees.{Keeps}
use Rattle.qs_typed_nodes.proofs.KeptAgreement.{nothing}
use Rattle.qs_typed.proofs.LaterStructs.{IsLater, grown}
use Rattle.qs_typed.proofs.InnerScopes.{Inside, local_inside}
use Rattle.qs_typed.proofs.UnitHeaders.{HeadersFound}
use Rattle.qs_typed.proofs.UnitGiven.{GivenIn}

-- ---- results

not_zero : (n : ℕ) → (suc n == 0) ≡ false
not_zero n = grind arith

scalar_is : (u : TypeTree) (stars : ℕ) → (if stars == 0 then scalar_of u else scalars.Pointer) ≡ scalar_of (pointers stars u)
scalar_is u zero = refl
scalar_is u (suc stars) = ap (λ b. if b then scalar_of u else scalars.Pointer) (not_zero stars)

-- the type that a header names for the result
record Resolved (names : TypeNames) (f : FunctionTree) (t : TypeTree) : Type 0 where
  base : TypeTree
  known : base_in names f.result_type.base ≡ Some base
  is : pointers f.result_type.stars base ≡ t

resolved : (c : Context) (names : TypeNames) → ((b : Base) → Keeps (base_type c b) (base_in names b)) → (f : FunctionTree) (t : TypeTree) → result_type c f ≡ Some t → Resolved names f t
resolved c names g f t e = by (is_void_pointer f) e
  where
    go : (o : Option TypeTree) → base_type c f.result_type.base ≡ o → starred o f.result_type.stars ≡ Some t → Resolved names f t
    go None p q = nothing t q
    go (Some u) p q = record { base = u; known = g f.result_type.base u p; is = same_Some (pointers f.result_type.stars u) t q }

    by : (b : Bool) → (if b then None else starred_type c f.result_type.base f.result_type.stars) ≡ Some t → Resolved names f t
    by true q = nothing t q
    by false q = go (base_type c f.result_type.base) refl q

pub result_is : (c : Context) (names : TypeNames) → ((b : Base) → Keeps (base_type c b) (base_in names b)) → (f : FunctionTree) (t : TypeTree) → result_type c f ≡ Some t
    → named_scalar names f.result_type ≡ scalar_of t
result_is c names g f t e =
    let r = resolved c names g f t e in
    ap (λ o. if f.result_type.stars == 0 then type_scalar o else scalars.Pointer) r.known ∙ (scalar_is r.base f.result_type.stars ∙ ap scalar_of r.is)

-- a pointer is given back as such
pointer_done : (b : Bool) → (if b && false then None else Some scalars.Pointer) ≡ Some scalars.Pointer
pointer_done true = refl
pointer_done false = refl

-- a function whose type is known gives back a value of it, but where it is void
result_done : (u : TypeTree) (stars : ℕ) → (if is_void u && (stars == 0) then None else Some (if stars == 0 then scalar_of u else scalars.Pointer)) ≡ result_scalar (Some (pointers stars u))
result_done u (suc stars) = ap (λ b. if is_void u && b then None else Some (if b then scalar_of u else scalars.Pointer)) (not_zero stars) ∙ pointer_done (is_void u)
result_done int zero = refl
result_done unsigned zero = refl
result_done char zero = refl
result_done void zero = refl
result_done (pointer t) zero = refl
result_done (array t n) zero = refl
result_done (struct k) zero = refl

pub result_kept : (c : Context) (names : TypeNames) → ((b : Base) → Keeps (base_type c b) (base_in names b)) → (f : FunctionTree) (t : TypeTree) → result_type c f ≡ Some t
    → (if returns_nothing names f then None else Some (named_scalar names f.result_type)) ≡ result_scalar (result_type c f)
result_kept c names g f t e =
    let r = resolved c names g f t e in
    ap (λ o. if is_void_type o && (f.result_type.stars == 0) then None else Some (if f.result_type.stars == 0 then type_scalar o else scalars.Pointer)) r.known
    ∙ (result_done r.base f.result_type.stars ∙ ap (λ t. result_scalar (Some t)) r.is ∙ ap result_scalar (sym e))

-- ---- scopes

-- what is known of a unit where a scope at file scope stands
pub record KnownAt (k : Known) (s : Scope) : Type 0 where
  pub structs : IsLater s.context.structs k.structs
  pub bases : (b : Base) → Keeps (base_type s.context b) (base_in k.type_names b)
  pub headers : HeadersFound s.context k.headers
  pub given : GivenIn s.context
  pub statics : k.statics ≡ s.statics
  pub functions : k.functions ≡ s.functions

parameters_inside : (k : Known) (s : Scope) (ps : List ParameterTree) (ts : List (Option TypeTree)) → Inside k s → Inside k (within s (with_parameters s.context ps ts))
parameters_inside k s [] ts h = h
parameters_inside k s (p ∷ ps) [] h = h
parameters_inside k s (p ∷ ps) (t ∷ ts) h = parameters_inside k (within s (with_parameter s.context p t p.name)) ps ts (one p.name)
  where
    one : (x : Option (List ℕ)) → Inside k (within s (with_parameter s.context p t x))
    one None = h
    one (Some x) = local_inside k s x p.node.id t h

-- the scope of a body is that behind the header of its function, with the parameters
pub body_inside : (k : Known) (s : Scope) (f : FunctionTree) (locals : Locals) → KnownAt k (within s (after_function s.context f)) → k.locals ≡ locals → Inside k (in_body s f locals)
body_inside k s f locals h g = parameters_inside k first f.parameters (parameter_types (inner_scope s.context) f.parameters) first_inside
  where
    first : Scope
    first = record s { context = record (inner_scope (after_function s.context f)) { result = result_type s.context f }; locals = locals }

    first_inside : Inside k first
    first_inside = record {
      agrees = record {
        structs = grown (after_function s.context f).structs k.structs h.structs;
        bases = h.bases;
        headers = h.headers;
        locals = g;
        statics = h.statics;
        functions = h.functions;
      };
      given = h.given;
    }
