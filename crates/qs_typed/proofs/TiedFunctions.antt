-- Where the definition gives a function a typed tree, what is known by the numbers of its nodes gives the same.
use Rattle.std.proofs.Common.{◌≡◌, ℕ, Bool, true, false, not, List, [], ◌∷◌, ◌++◌, Option, Some, filter, cond, refl, ap, ◌∙◌}
use Rattle.qs_memory.specs.Partial.{◌>>=◌}
use Rattle.qs_memory.specs.declared.scalar.Scalar.{Scalar}
use Rattle.qs_base.specs.Bytes.{same_bytes}
use Rattle.qs_syntax.specs.Trees.{ParameterTree, FunctionTree, Stmts}
use Rattle.qs_calls.specs.declared.parameter.Parameter.{Parameter}
use Rattle.qs_types.specs.Types.{TypeTree, Structs}
use Rattle.qs_types.specs.Layout.{size_of}
use Rattle.qs_types.specs.GivenFunctions.{main_name}
use Rattle.qs_types.specs.Contexts.{inner_scope}
use Rattle.qs_types.specs.Placed.{Local, is_placed}
use Rattle.qs_types.specs.UnitRules.{parameter_types}
use Rattle.qs_meaning.specs.Typed.{Function}
use Rattle.qs_meaning.specs.Typed as trees
use Rattle.qs_meaning.specs.Conversions.{scalar_of}
use Rattle.qs_meaning.specs.Names.{Locals, Scope, local_lvalue}
use Rattle.qs_meaning.specs.Statements.{statements_typed}
use Rattle.qs_meaning.specs.Units.{nodes_of, placed_among, plain_among, variables_among, locals_of, scalars_of, sizes_of, parameter_by, parameter_typed, parameters_typed, in_body, function_with}
use Rattle.qs_typed_nodes.specs.Known.{Known, at_number}
use Rattle.qs_typed_nodes.specs.KnownStatements.{statements_known}
use Rattle.qs_typed_nodes.specs.KnownFunctions.{local_at, locals_at, parameter_known, parameters_known, function_known}
use Rattle.qs_typed_nodes.specs.Agrees.{Keeps, Grown}
use Rattle.qs_typed.specs.AgreesFunctions.{ParametersAt, LocalsAt, FunctionAt}
use Rattle.qs_typed_nodes.proofs.KeptAgreement.{nothing, kept, is_kept, equal_kept}
use Rattle.qs_typed.proofs.UnitStructs.{size_kept}
use Rattle.qs_typed.proofs.TiedStatements.{statements_kept}

-- ---- parameters

parameter_kept : (k : Known) (locals : Locals) → k.locals ≡ locals → (p : ParameterTree) (t : Option TypeTree) → at_number k.types p.node.id ≡ t
    → Keeps (parameter_typed locals p t) (parameter_known k p)
parameter_kept k locals g p t h =
    kept t (at_number k.types p.node.id) (λ u. parameter_by (scalar_of u) (local_lvalue locals p.node.id)) (λ u. parameter_by (scalar_of u) (local_lvalue k.locals p.node.id))
    (equal_kept t (at_number k.types p.node.id) h)
    (λ u. equal_kept (parameter_by (scalar_of u) (local_lvalue locals p.node.id)) (parameter_by (scalar_of u) (local_lvalue k.locals p.node.id))
    (ap (λ l. parameter_by (scalar_of u) (local_lvalue l p.node.id)) g))

parameters_kept : (k : Known) (locals : Locals) → k.locals ≡ locals → (ps : List ParameterTree) (ts : List (Option TypeTree)) → ParametersAt k ps ts
    → Keeps (parameters_typed locals ps ts) (parameters_known k ps)
parameters_kept k locals g [] [] h = λ x e. e
parameters_kept k locals g [] (t ∷ ts) h = λ x e. nothing x e
parameters_kept k locals g (p ∷ ps) [] h = λ x e. nothing x e
parameters_kept k locals g (p ∷ ps) (t ∷ ts) h =
    kept (parameter_typed locals p t) (parameter_known k p) (λ now. parameters_typed locals ps ts >>= λ rest. Some (now ∷ rest)) (λ now. parameters_known k ps >>= λ rest. Some (now ∷ rest))
    (parameter_kept k locals g p t h.0)
    (λ now. kept (parameters_typed locals ps ts) (parameters_known k ps) (λ rest. Some (now ∷ rest)) (λ rest. Some (now ∷ rest)) (parameters_kept k locals g ps ts h.1)
    (λ rest. is_kept (Some (now ∷ rest))))

-- ---- locals

local_again : (k : Known) (l : Local) → at_number k.types l.node ≡ l.type → local_at k.types l.node ≡ l
local_again k l e = λ i. record { node = l.node; type = e i }

pub locals_again : (k : Known) (ls : List Local) → LocalsAt k ls → locals_at k.types (nodes_of ls) ≡ ls
locals_again k [] h = refl
locals_again k (l ∷ ls) h = λ i. local_again k l h.0 i ∷ locals_again k ls h.1 i

some_at : (k : Known) (test : Local → Bool) (ls : List Local) → LocalsAt k ls → LocalsAt k (filter test ls)
some_at k test [] h = tt
some_at k test (l ∷ ls) h = by (test l) (some_at k test ls h.1)
  where
    by : (b : Bool) → LocalsAt k (filter test ls) → LocalsAt k (cond b (l ∷ filter test ls) (filter test ls))
    by true rest = (h.0, rest)
    by false rest = rest

left_at : (k : Known) (ls ms : List Local) → LocalsAt k (ls ++ ms) → LocalsAt k ls
left_at k [] ms h = tt
left_at k (l ∷ ls) ms h = (h.0, left_at k ls ms h.1)

right_at : (k : Known) (ls ms : List Local) → LocalsAt k (ls ++ ms) → LocalsAt k ms
right_at k [] ms h = h
right_at k (l ∷ ls) ms h = right_at k ls ms h.1

pub both_at : (k : Known) (ls ms : List Local) → LocalsAt k ls → LocalsAt k ms → LocalsAt k (ls ++ ms)
both_at k [] ms h g = g
both_at k (l ∷ ls) ms h g = (h.0, both_at k ls ms h.1 g)

variables_again : (k : Known) (addressed : List ℕ) (ps ls : List Local) → LocalsAt k (ps ++ ls) → k.locals ≡ locals_of addressed ps ls
    → locals_at k.types k.locals.variables ≡ variables_among addressed ps ls
variables_again k addressed ps ls h g =
    ap (λ (l : Locals). locals_at k.types l.variables) g
    ∙ locals_again k (variables_among addressed ps ls) (both_at k ps (plain_among addressed ls) (left_at k ps ls h) (some_at k (λ l. not (is_placed addressed l)) ls (right_at k ps ls h)))

placed_again : (k : Known) (addressed : List ℕ) (ps ls : List Local) → LocalsAt k (ps ++ ls) → k.locals ≡ locals_of addressed ps ls
    → locals_at k.types k.locals.placed ≡ placed_among addressed (ps ++ ls)
placed_again k addressed ps ls h g =
    ap (λ (l : Locals). locals_at k.types l.placed) g ∙ locals_again k (placed_among addressed (ps ++ ls)) (some_at k (is_placed addressed) (ps ++ ls) h)

sizes_kept : (old new : Structs) → Grown old new → (ls : List Local) → Keeps (sizes_of old ls) (sizes_of new ls)
sizes_kept old new g [] = λ x e. e
sizes_kept old new g (l ∷ ls) =
    kept (l.type >>= size_of old) (l.type >>= size_of new) (λ size. sizes_of old ls >>= λ rest. Some (size ∷ rest)) (λ size. sizes_of new ls >>= λ rest. Some (size ∷ rest))
    (kept l.type l.type (size_of old) (size_of new) (is_kept l.type) (size_kept old new g))
    (λ size. kept (sizes_of old ls) (sizes_of new ls) (λ rest. Some (size ∷ rest)) (λ rest. Some (size ∷ rest)) (sizes_kept old new g ls) (λ rest. is_kept (Some (size ∷ rest))))

-- ---- functions

abbrev as_function : FunctionTree → Option Scalar → List Parameter → List Scalar → List ℕ → trees.Stmts → Option Function
as_function f result parameters scalars sizes statements =
    Some (record {
      name = f.name;
      result = result;
      parameters = parameters;
      variables = scalars;
      blocks = sizes;
      body = statements;
      is_main = same_bytes f.name main_name;
    })

pub function_kept : (k : Known) (s : Scope) (f : FunctionTree) (body : Stmts) (addressed : List ℕ) (ps ls : List Local) → FunctionAt k s f body addressed ps ls
    → Keeps (function_with s f body addressed ps ls) (function_known k f body)
function_kept k s f body addressed ps ls h =
    kept (parameters_typed (locals_of addressed ps ls) f.parameters (parameter_types (inner_scope s.context) f.parameters)) (parameters_known k f.parameters) _ _
    (parameters_kept k (locals_of addressed ps ls) h.locals f.parameters (parameter_types (inner_scope s.context) f.parameters) h.parameters)
    (λ parameters. kept (scalars_of (variables_among addressed ps ls)) (scalars_of (locals_at k.types k.locals.variables)) _ _
    (equal_kept (scalars_of (variables_among addressed ps ls)) (scalars_of (locals_at k.types k.locals.variables)) (ap scalars_of (variables_again k addressed ps ls h.declared h.locals)))
    (λ scalars. kept (sizes_of s.context.structs (placed_among addressed (ps ++ ls))) (sizes_of k.structs (locals_at k.types k.locals.placed)) _ _
    (λ x e. ap (sizes_of k.structs) (placed_again k addressed ps ls h.declared h.locals) ∙ sizes_kept s.context.structs k.structs h.structs (placed_among addressed (ps ++ ls)) x e)
    (λ sizes. kept (statements_typed (in_body s f (locals_of addressed ps ls)) body) (statements_known k body) _ _ (statements_kept k (in_body s f (locals_of addressed ps ls)) body h.statements)
    (λ statements x e. ap (λ r. as_function f r parameters scalars sizes statements) h.result ∙ e))))
