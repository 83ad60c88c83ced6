-- A function that breaks no rule has a typed tree.
use Rattle.std.proofs.Common.{◌≡◌, ℕ, Bool, true, false, not, ◌||◌, List, [], ◌∷◌, ◌++◌, Option, Some, None, is_some, refl, sym, ap, ◌∙◌, subst, if◌then◌else◌}
use Rattle.std.specs.Cmp.{second_so}
use Rattle.qs_syntax.specs.Trees.{FunctionTree, Stmts}
use Rattle.qs_memory.specs.Partial.{◌>>=◌}
use Rattle.qs_types.specs.Types.{TypeTree, Structs}
use Rattle.qs_types.specs.Layout.{and_then}
use Rattle.qs_types.specs.GivenFunctions.{Signature}
use Rattle.qs_types.specs.declared.rules.Rule.TheVariants as rules
use Rattle.qs_types.specs.Rules.{keeps, breaks_one, faults_of}
use Rattle.qs_types.specs.Contexts.{Entity, local_variable, file_variable, function, given, Binding, Context, lookup, base_type, starred_type, pointers, inner_scope}
use Rattle.qs_types.specs.Placed.{Local, parameters_locals, statements_locals, addressed_in, is_placed}
use Rattle.qs_types.specs.Sites.{statements_sites}
use Rattle.qs_types.specs.StatementRules.{statements_faults}
use Rattle.qs_types.specs.UnitRules.{parameter_types, is_void_pointer, result_type, header_of, all_of, signature_by, may_declare, result_tests, main_tests, header_tests, declared_function, after_function, parameters_faults, body_context, function_faults}
use Rattle.qs_meaning.specs.Typed.{Function}
use Rattle.qs_meaning.specs.Names.{Locals, Scope, within}
use Rattle.qs_meaning.specs.Statements.{statements_typed}
use Rattle.qs_meaning.specs.Units.{nodes_of, placed_among, plain_among, variables_among, locals_of, parameters_in, scalars_of, sizes_of, parameters_typed, in_body, function_with, function_typed}
use Rattle.qs_meaning.specs.TypedLaws.{EntityTyped, AllTyped, IsFileScope, FunctionsTyped}
use Rattle.qs_meaning.proofs.Options.{never, Known, onward}
use Rattle.qs_meaning.proofs.FaultlessExpressions.{none_left, none_right, unbroken, first_unbroken, second_unbroken}
use Rattle.qs_meaning.proofs.Bindings.{EntityFine, AllFine, Sound}
use Rattle.qs_meaning.proofs.LocalInitialisers.{sites_taken}
use Rattle.qs_meaning.proofs.Bodies.{locals_fine, locals_left, locals_right, all_sized, sized_together, Stands, all_known, body_sized}
use Rattle.qs_meaning.proofs.Functions.{all_fine, all_taken, scalars_known, scalars_behind, sizes_known, is_scalar_type, all_scalar, parameters_scalar, with_parameters_sound, same_result, same_structs_with, parameters_known, parameters_sized, parameters_declared}

-- ---- names at file scope

entity_fine : (structs : Structs) (declared places : List ℕ) (entity : Entity) → EntityTyped structs entity → EntityFine structs declared places entity
entity_fine structs declared places (local_variable node t) h = absurd h
entity_fine structs declared places (file_variable node None) h = absurd h
entity_fine structs declared places (file_variable node (Some t)) h = h
entity_fine structs declared places (function node None body) h = absurd h
entity_fine structs declared places (function node (Some signature) body) h = tt
entity_fine structs declared places (given signature) h = tt

names_fine : (structs : Structs) (declared places : List ℕ) (bs : List Binding) → AllTyped structs bs → AllFine structs declared places bs
names_fine structs declared places [] h = tt
names_fine structs declared places (b ∷ bs) h = (entity_fine structs declared places b.entity h.0, names_fine structs declared places bs h.1)

pub file_sound : (s : Scope) (c : Context) (declared : List ℕ) → IsFileScope c → Sound (within s c) declared
file_sound s c declared h = record { names = names_fine c.structs declared s.locals.placed (c.inner ++ c.outer) h.names; laid_out = h.laid_out; members = h.members }

-- ---- headers

starred_known : (c : Context) (f : FunctionTree) → is_some (base_type c f.result_type.base) ≡ true → Known (starred_type c f.result_type.base f.result_type.stars)
starred_known c f e = go (base_type c f.result_type.base) e
  where
    go : (o : Option TypeTree) → is_some o ≡ true → Known (and_then o (λ t. Some (pointers f.result_type.stars t)))
    go None e = never e
    go (Some t) e = record { value = _; is = refl }

-- the tag is known, and `void` has no stars
result_parts : (b v : Bool) (rest : Bool) → (not b || (v || rest)) ≡ false → (b ≡ true) × (v ≡ false)
result_parts true true rest e = never (sym e)
result_parts true false rest e = (refl, refl)
result_parts false v rest e = never (sym e)

pub result_known : (c : Context) (f : FunctionTree) → breaks_one (result_tests c f) ≡ false → Known (result_type c f)
result_known c f h =
    let parts = result_parts (is_some (base_type c f.result_type.base)) (is_void_pointer f) _ h in
    go (is_void_pointer f) parts.1 (starred_known c f parts.0)
  where
    go : (b : Bool) → b ≡ false → Known (starred_type c f.result_type.base f.result_type.stars) → Known
        (if b then None else starred_type c f.result_type.base f.result_type.stars)
    go true e k = never (sym e)
    go false e k = k

all_of_known : (ts : List (Option TypeTree)) → all_scalar ts ≡ true → Known (all_of ts)
all_of_known [] e = record { value = []; is = refl }
all_of_known (None ∷ ts) e = never e
all_of_known (Some t ∷ ts) e =
    let rest = all_of_known ts (second_so (is_scalar_type (Some t)) _ e) in
    record { value = t ∷ rest.value; is = ap (λ o. and_then o (λ ts. Some (t ∷ ts))) rest.is }

pub signature_known : (c : Context) (f : FunctionTree) → all_scalar (parameter_types (inner_scope c) f.parameters) ≡ true → Known (result_type c f) → Known
    (signature_by (header_of c f))
signature_known c f e r =
    let ts = all_of_known (parameter_types (inner_scope c) f.parameters) e in
    record {
      value = record { parameters = ts.value; result = r.value };
      is = ap (λ o. and_then o (λ ts. and_then (result_type c f) (λ t. Some (record { parameters = ts; result = t })))) ts.is
          ∙ ap (λ o. and_then o (λ t. Some (record { parameters = ts.value; result = t }))) r.is;
    }

function_entity : (structs : Structs) (o : Option Entity) (node : ℕ) (signature : Option Signature) (body : Bool) → Known signature → EntityTyped structs
    (declared_function o node signature body)
function_entity structs o node signature body k = subst (λ z. EntityTyped structs (declared_function o node z body)) (sym k.is) (go o)
  where
    go : (o : Option Entity) → EntityTyped structs (declared_function o node (Some k.value) body)
    go None = tt
    go (Some (local_variable n t)) = tt
    go (Some (file_variable n t)) = tt
    go (Some (function n r earlier)) = tt
    go (Some (given r)) = tt

pub after_function_scope : (c : Context) (f : FunctionTree) → IsFileScope c → Known (signature_by (header_of c f)) → IsFileScope (after_function c f)
after_function_scope c f h k = record {
  names = (function_entity c.structs (lookup f.name c.inner) f.node.id (signature_by (header_of c f)) (is_some f.body) k, h.names);
  members = h.members;
  laid_out = h.laid_out;
}

-- ---- bodies

module _ (s : Scope) (h : IsFileScope s.context) (f : FunctionTree) (body : Stmts) (faultless : function_faults s.context (record f { body = Some body }) ≡ []) where
  abbrev whole : FunctionTree
  whole = record f { body = Some body }

  abbrev c : Context
  c = s.context

  abbrev parameters : List Local
  parameters = parameters_in c whole

  abbrev in_statements : List Local
  in_statements = statements_locals (body_context c whole) body

  abbrev ls : List Local
  ls = parameters ++ in_statements

  abbrev operands : List ℕ
  operands = addressed_in c whole body

  abbrev locals : Locals
  locals = locals_of operands parameters in_statements

  abbrev s₀ : Scope
  s₀ = record s { locals = locals }

  abbrev types : List (Option TypeTree)
  types = parameter_types (inner_scope c) f.parameters

  parts : (parameters_faults (inner_scope c) true f.parameters ++ statements_faults (body_context c whole) body) ≡ []
  parts = none_right (faults_of f.node.id (header_tests c whole)) _ faultless

  tests : breaks_one (header_tests c whole) ≡ false
  tests = unbroken f.node.id (header_tests c whole) (none_left (faults_of f.node.id (header_tests c whole)) _ faultless)

  result : Known (result_type c whole)
  result = result_known c whole (first_unbroken (result_tests c whole) (main_tests whole (header_of c whole))
      (second_unbroken (keeps rules.DeclaredTwice (may_declare c whole)) (result_tests c whole ++ main_tests whole (header_of c whole)) tests))

  fine : locals_fine (nodes_of ls) locals.placed ls ≡ true
  fine = all_fine operands ls

  parameters_fine : locals_fine (nodes_of ls) locals.placed (parameters_locals f.parameters types) ≡ true
  parameters_fine = locals_left (nodes_of ls) locals.placed (parameters_locals f.parameters types) (statements_locals (body_context c whole) body) fine

  inner_file_scope : IsFileScope (inner_scope c)
  inner_file_scope = record { names = h.names; members = h.members; laid_out = h.laid_out }

  scalar : all_scalar types ≡ true
  scalar = parameters_scalar s₀ (nodes_of ls) true f.parameters (inner_scope c) (file_sound s₀ (inner_scope c) (nodes_of ls) inner_file_scope)
      (parameters_declared (nodes_of ls) locals.placed f.parameters (inner_scope c) parameters_fine) (none_left _ _ parts)

  behind_header : IsFileScope (after_function c whole)
  behind_header = after_function_scope c whole h (signature_known c whole scalar result)

  at_body : Context
  at_body = record (inner_scope (after_function c whole)) { result = result_type c whole }

  body_scope : IsFileScope at_body
  unfolding at_body
  body_scope = record { names = behind_header.names; members = behind_header.members; laid_out = behind_header.laid_out }

  stands : Stands s₀ (nodes_of ls) (body_context c whole)
  unfolding at_body
  stands = record {
    sound = with_parameters_sound s₀ (nodes_of ls) f.parameters types at_body (file_sound s₀ at_body (nodes_of ls) body_scope)
        (parameters_declared (nodes_of ls) locals.placed f.parameters (inner_scope c) parameters_fine) scalar;
    result = subst Known (sym (same_result f.parameters types at_body)) result;
  }

  body_fine : locals_fine (nodes_of ls) locals.placed (statements_locals (body_context c whole) body) ≡ true
  body_fine = locals_right (nodes_of ls) locals.placed (parameters_locals f.parameters types) (statements_locals (body_context c whole) body) fine

  body_faultless : statements_faults (body_context c whole) body ≡ []
  body_faultless = none_right (parameters_faults (inner_scope c) true f.parameters) _ parts

  body_taken : sites_taken (nodes_of ls) locals.placed (statements_sites (body_context c whole) body) ≡ true
  body_taken = all_taken (statements_sites (body_context c whole) body) ls

  all_parameters_sized : all_sized c.structs parameters ≡ true
  all_parameters_sized = parameters_sized c.structs f.parameters (inner_scope c) scalar

  statements_sized : all_sized c.structs in_statements ≡ true
  unfolding at_body
  statements_sized = subst (λ z. all_sized z in_statements ≡ true) (same_structs_with f.parameters types at_body)
      (body_sized s₀ (nodes_of ls) body (body_context c whole) stands body_faultless body_taken body_fine)

  pub function_known : Known (function_with s whole body operands parameters in_statements)
  function_known =
      onward (parameters_typed locals f.parameters types) _ (parameters_known locals f.parameters (inner_scope c) scalar)
      (onward (scalars_of (variables_among operands parameters in_statements)) _
      (scalars_behind c.structs parameters (plain_among operands in_statements) all_parameters_sized
      (scalars_known c.structs (λ (l : Local). not (is_placed operands l)) in_statements statements_sized))
      (onward (sizes_of c.structs (placed_among operands ls)) _
      (sizes_known c.structs (is_placed operands) ls (sized_together c.structs parameters in_statements all_parameters_sized statements_sized))
      (onward (statements_typed (in_body s whole locals) body) _ (all_known s₀ (nodes_of ls) body (body_context c whole) stands body_faultless body_taken body_fine)
      (record { value = _; is = refl }))))

pub functions_typed : FunctionsTyped
functions_typed s h f faultless = go f.body refl
  where
    go : (o : Option Stmts) → f.body ≡ o → (fs : List Function) × (function_typed s f f.body ≡ Some fs)
    go None e = ([], ap (function_typed s f) e)
    go (Some body) e = from (record f { body = Some body }) e
      where
        from : (g : FunctionTree) → f.body ≡ Some body → (fs : List Function) × (function_typed s f f.body ≡ Some fs)
        from g e =
            let whole = ap (λ b. record f { body = b }) e in
            let k = function_known s h f body (subst (λ z. function_faults s.context z ≡ []) whole faultless) in
            (k.value ∷ [], subst (λ z. function_typed s z z.body ≡ Some (k.value ∷ [])) (sym whole) (ap (λ o. o >>= λ g. Some (g ∷ [])) k.is))
