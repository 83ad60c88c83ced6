-- The header of each function that is in scope is found among the headers of the unit.
use Rattle.std.proofs.Common.{◌≡◌, ℕ, Bool, true, false, List, [], ◌∷◌, ◌++◌, Option, Some, None, map, is_some, refl, sym, ap, ◌∙◌, if◌then◌else◌}
use Rattle.std.specs.Prelude.{◌==◌}
use Rattle.std.proofs.lemmas.Cmp.{nat_eq_equiv}
use Rattle.std.proofs.lemmas.Option.{same_Some}
use Rattle.qs_memory.specs.Partial.{◌>>=◌}
use Rattle.qs_memory.specs.declared.scalar.Scalar.{Scalar}
use Rattle.qs_base.specs.Bytes.{same_bytes}
use Rattle.qs_syntax.specs.Trees.{ParameterTree, FunctionTree}
use Rattle.qs_types.specs.Types.{TypeTree}
use Rattle.qs_types.specs.Layout.{and_then}
use Rattle.qs_types.specs.GivenFunctions.{Signature}
use Rattle.qs_types.specs.Contexts.{Entity, local_variable, file_variable, function, given, Context, lookup, entity_of, inner_scope}
use Rattle.qs_types.specs.Declarations.{parameter_declared}
use Rattle.qs_types.specs.UnitRules.{after_parameter, parameter_types, result_type, header_of, all_of, signature_by, declared_function, after_function}
use Rattle.qs_meaning.specs.Conversions.{scalar_of}
use Rattle.qs_meaning.specs.Units.{scalars_of}
use Rattle.qs_typed_nodes.specs.Known.{Header, at_number, parameters_of}
use Rattle.qs_typed_nodes.specs.KnownFunctions.{parameters_nodes, locals_at}
use Rattle.qs_typed_units.specs.KnownUnits.{header_known, header_behind, with_header}
use Rattle.qs_typed_nodes.specs.Agrees.{Keeps}
use Rattle.qs_typed_nodes.proofs.KeptAgreement.{nothing}

-- each parameter has at its node the type that it is declared with
abbrev pub ParametersDeclared : (types : List (Option TypeTree)) → Context → List ParameterTree → Type 0
ParametersDeclared types c [] = Unit {0}
ParametersDeclared types c (p ∷ ps) = (at_number types p.node.id ≡ (parameter_declared c p).type) × ParametersDeclared types (after_parameter c p) ps

-- the headers of the functions that are in scope are found
abbrev pub HeadersFound : Context → List Header → Type 0
HeadersFound c hs = (x : List ℕ) (node : ℕ) (f : Signature) (body : Bool) → entity_of c x ≡ Some (function node (Some f) body) → parameters_of node hs ≡ Some (map scalar_of f.parameters)

-- ---- one header more

found_still : (n : ℕ) (hs ks : List Header) → Keeps (parameters_of n hs) (parameters_of n (hs ++ ks))
found_still n [] ks = λ x e. nothing x e
found_still n (h ∷ hs) ks = by (h.node == n) (found_still n hs ks)
  where
    by : (b : Bool) → Keeps (parameters_of n hs) (parameters_of n (hs ++ ks)) → Keeps (if b then Some h.parameters else parameters_of n hs) (if b then Some h.parameters else parameters_of n (hs ++ ks))
    by true rest = λ x e. e
    by false rest = rest

found_last : (h : Header) (hs : List Header) → parameters_of h.node hs ≡ None → parameters_of h.node (hs ++ h ∷ []) ≡ Some h.parameters
found_last h [] e = ap (λ b. if b then Some h.parameters else None) (nat_eq_equiv.refl h.node)
found_last h (k ∷ hs) e = by (k.node == h.node) e (found_last h hs)
  where
    by : (b : Bool) → (if b then Some k.parameters else parameters_of h.node hs) ≡ None → (parameters_of h.node hs ≡ None → parameters_of h.node (hs ++ h ∷ []) ≡ Some h.parameters)
        → (if b then Some k.parameters else parameters_of h.node (hs ++ h ∷ [])) ≡ Some h.parameters
    by true p rest = nothing k.parameters (sym p)
    by false p rest = rest p

-- the headers so far are found still
pub header_kept : (types : List (Option TypeTree)) (f : FunctionTree) (hs more : List Header) → with_header types f hs ≡ Some more → (n : ℕ) → Keeps (parameters_of n hs) (parameters_of n more)
header_kept types f hs more e n = go (header_known types f) (parameters_of f.node.id hs) e
  where
    go : (o : Option Header) (there : Option (List Scalar)) → (o >>= header_behind hs there) ≡ Some more → Keeps (parameters_of n hs) (parameters_of n more)
    go None there p = nothing more p
    go (Some h) None p = λ x q. ap (parameters_of n) (sym (same_Some (hs ++ h ∷ []) more p)) ∙ found_still n hs (h ∷ []) x q
    go (Some h) (Some ps) p = nothing more p

-- and so is the new one
pub header_there : (types : List (Option TypeTree)) (f : FunctionTree) (hs more : List Header) (ps : List Scalar) → with_header types f hs ≡ Some more
    → scalars_of (locals_at types (parameters_nodes f.parameters)) ≡ Some ps → parameters_of f.node.id more ≡ Some ps
header_there types f hs more ps e q =
    go (parameters_of f.node.id hs) refl
    (sym (ap (λ o. (o >>= λ ps. Some (record { node = f.node.id; parameters = ps })) >>= header_behind hs (parameters_of f.node.id hs)) q) ∙ e)
  where
    go : (there : Option (List Scalar)) → parameters_of f.node.id hs ≡ there → header_behind hs there (record { node = f.node.id; parameters = ps }) ≡ Some more
        → parameters_of f.node.id more ≡ Some ps
    go None r p = ap (parameters_of f.node.id) (sym (same_Some (hs ++ record { node = f.node.id; parameters = ps } ∷ []) more p)) ∙ found_last (record { node = f.node.id; parameters = ps }) hs r
    go (Some qs) r p = nothing more p

-- ---- its parameters

scalars_all : (types : List (Option TypeTree)) (c : Context) (ps : List ParameterTree) → ParametersDeclared types c ps → (us : List TypeTree) → all_of (parameter_types c ps) ≡ Some us
    → scalars_of (locals_at types (parameters_nodes ps)) ≡ Some (map scalar_of us)
scalars_all types c [] d us e = ap (λ us. Some (map scalar_of us)) (same_Some [] us e)
scalars_all types c (p ∷ ps) d us e =
    ap (λ o. o >>= λ t. scalars_of (locals_at types (parameters_nodes ps)) >>= λ rest. Some (scalar_of t ∷ rest)) d.0
    ∙ go (parameter_declared c p).type (all_of (parameter_types (after_parameter c p) ps)) (λ vs. scalars_all types (after_parameter c p) ps d.1 vs) e
  where
    go : (o : Option TypeTree) (rest : Option (List TypeTree)) → ((vs : List TypeTree) → rest ≡ Some vs → scalars_of (locals_at types (parameters_nodes ps)) ≡ Some (map scalar_of vs))
        → and_then o (λ t. and_then rest (λ ts. Some (t ∷ ts))) ≡ Some us
        → (o >>= λ t. scalars_of (locals_at types (parameters_nodes ps)) >>= λ rest. Some (scalar_of t ∷ rest)) ≡ Some (map scalar_of us)
    go None rest h q = nothing us q
    go (Some t) None h q = nothing us q
    go (Some t) (Some vs) h q =
        ap (λ o. o >>= λ rest. Some (scalar_of t ∷ rest)) (h vs refl) ∙ ap (λ us. Some (map scalar_of us)) (same_Some (t ∷ vs) us q)

signature_parts : (ps : Option (List TypeTree)) (r : Option TypeTree) (g : Signature) → and_then ps (λ ts. and_then r (λ t. Some (record { parameters = ts; result = t }))) ≡ Some g
    → ps ≡ Some g.parameters
signature_parts None r g e = nothing g e
signature_parts (Some ts) None g e = nothing g e
signature_parts (Some ts) (Some t) g e = ap (λ (s : Signature). Some s.parameters) (same_Some (record { parameters = ts; result = t }) g e)

-- ---- what is in scope behind a header

-- a function that is declared has its node and its type from the header
from_header : (o : Option Entity) (n : ℕ) (s : Option Signature) (b : Bool) (node : ℕ) (g : Signature) (body : Bool)
    → Some (declared_function o n s b) ≡ Some (function node (Some g) body) → (n ≡ node) × (s ≡ Some g)
from_header None n s b node g body e = (cc, cc)
from_header (Some (local_variable m t)) n s b node g body e = (cc, cc)
from_header (Some (file_variable m t)) n s b node g body e = (cc, cc)
from_header (Some (function m r earlier)) n s b node g body e = (cc, cc)
from_header (Some (given r)) n s b node g body e = absurd (no r node g body e)
  where
    no : (r : Signature) (node : ℕ) (g : Signature) (body : Bool) → Some (given r) ≡ Some (function node (Some g) body) → ⊥
    no r node g body e = cc

pub function_found : (types : List (Option TypeTree)) (c : Context) (f : FunctionTree) (hs more : List Header) → ParametersDeclared types (inner_scope c) f.parameters → with_header types f hs ≡ Some more
    → HeadersFound c hs → HeadersFound (after_function c f) more
function_found types c f hs more d e h x node g body q = by (same_bytes f.name x) q
  where
    new : Option Entity
    new = Some (declared_function (lookup f.name c.inner) f.node.id (signature_by (header_of c f)) (is_some f.body))

    here : new ≡ Some (function node (Some g) body) → parameters_of node more ≡ Some (map scalar_of g.parameters)
    here p =
        let parts = from_header (lookup f.name c.inner) f.node.id (signature_by (header_of c f)) (is_some f.body) node g body p in
        ap (λ n. parameters_of n more) (sym parts.0)
        ∙ header_there types f hs more (map scalar_of g.parameters) e
        (scalars_all types (inner_scope c) f.parameters d g.parameters (signature_parts (all_of (parameter_types (inner_scope c) f.parameters)) (result_type c f) g parts.1))

    by : (b : Bool) → (if b then new else entity_of c x) ≡ Some (function node (Some g) body) → parameters_of node more ≡ Some (map scalar_of g.parameters)
    by true p = here p
    by false p = header_kept types f hs more e node (map scalar_of g.parameters) (h x node g body p)
