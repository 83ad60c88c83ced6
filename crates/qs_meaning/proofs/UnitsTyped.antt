-- A well typed unit has a typed tree.
use Rattle.std.proofs.Common.{◌≡◌, true, false, List, [], ◌∷◌, ◌++◌, Option, is_some, refl}
use Rattle.qs_syntax.specs.Trees.{FunctionTree, DeclTree, structure, forward, function, variables, UnitTree, typedef}
use Rattle.qs_types.specs.Types.{TypeTree}
use Rattle.qs_types.specs.declared.rules.Rule.TheVariants as rules
use Rattle.qs_types.specs.Rules.{keeps, breaks_one, faults_of}
use Rattle.qs_types.specs.Contexts.{Context, start_context, inner_scope}
use Rattle.qs_types.specs.Placed.{Local, parameters_locals}
use Rattle.qs_types.specs.UnitRules.{parameter_types, result_type, header_of, signature_by, may_declare, result_tests, main_tests, header_tests, parameters_faults, body_faults, function_faults, after_function, after_declaration, declaration_faults, declarations_faults}
use Rattle.qs_meaning.specs.Names.{Scope, within}
use Rattle.qs_meaning.specs.Units.{nodes_of, placed_among, function_typed, file_variables_typed, declaration_typed, declarations_typed, start_scope}
use Rattle.qs_meaning.specs.TypedLaws.{IsFileScope, UnitsTyped}
use Rattle.qs_meaning.proofs.Options.{nothing, Known, onward}
use Rattle.qs_meaning.proofs.FaultlessExpressions.{none_left, none_right, unbroken, first_unbroken, second_unbroken}
use Rattle.qs_meaning.proofs.Functions.{all_fine, all_scalar, parameters_scalar, parameters_declared}
use Rattle.qs_meaning.proofs.FunctionsTyped.{file_sound, result_known, signature_known, after_function_scope, functions_typed}
use Rattle.qs_meaning.proofs.FileVariables.{file_variables_known}
use Rattle.qs_meaning.proofs.StructTables.{with_tag_known, after_struct_known, after_typedef_known}

-- ---- behind declarations

-- what the header of a function that breaks no rule gives
module _ (s : Scope) (c : Context) (f : FunctionTree) (h : IsFileScope c) (faultless : function_faults c f ≡ []) where
  abbrev types : List (Option TypeTree)
  types = parameter_types (inner_scope c) f.parameters

  abbrev ls : List Local
  ls = parameters_locals f.parameters types

  abbrev s₀ : Scope
  s₀ = record s { locals = record { variables = []; placed = nodes_of (placed_among [] ls) } }

  pub header_parts : (parameters_faults (inner_scope c) (is_some f.body) f.parameters ++ body_faults c f f.body) ≡ []
  header_parts = none_right (faults_of f.node.id (header_tests c f)) _ faultless

  pub header_unbroken : breaks_one (header_tests c f) ≡ false
  header_unbroken = unbroken f.node.id (header_tests c f) (none_left (faults_of f.node.id (header_tests c f)) _ faultless)

  pub header_result : Known (result_type c f)
  header_result = result_known c f (first_unbroken (result_tests c f) (main_tests f (header_of c f))
      (second_unbroken (keeps rules.DeclaredTwice (may_declare c f)) (result_tests c f ++ main_tests f (header_of c f)) header_unbroken))

  pub header_scalar : all_scalar (parameter_types (inner_scope c) f.parameters) ≡ true
  header_scalar = parameters_scalar s₀ (nodes_of ls) (is_some f.body) f.parameters (inner_scope c)
      (file_sound s₀ (inner_scope c) (nodes_of ls) (record { names = h.names; members = h.members; laid_out = h.laid_out }))
      (parameters_declared (nodes_of ls) (nodes_of (placed_among [] ls)) f.parameters (inner_scope c) (all_fine [] ls)) (none_left _ _ header_parts)

  pub header_signature : Known (signature_by (header_of c f))
  header_signature = signature_known c f header_scalar header_result

pub after_function_known : (s : Scope) (c : Context) (f : FunctionTree) → IsFileScope c → function_faults c f ≡ [] → IsFileScope (after_function c f)
after_function_known s c f h faultless = after_function_scope c f h (header_signature s c f h faultless)

-- ---- units

module _ (s₀ : Scope) where
  pub record Declared (c : Context) (d : DeclTree) : Type 0 where
    pub tree : Known (declaration_typed (within s₀ c) d)
    pub scope : IsFileScope (after_declaration c d)

  pub declaration_known : (d : DeclTree) (c : Context) → IsFileScope c → declaration_faults c d ≡ [] → Declared c d
  declaration_known (structure s) c h f = record { tree = record { value = _; is = refl }; scope = after_struct_known c s h }
  declaration_known (forward g) c h f = record { tree = record { value = _; is = refl }; scope = with_tag_known c g.name h }
  declaration_known (typedef t) c h f = record { tree = record { value = _; is = refl }; scope = after_typedef_known c t h }
  declaration_known (function g) c h f =
      let t = functions_typed (within s₀ c) h g f in
      record {
        tree = onward (function_typed (within s₀ c) g g.body) _ (record { value = t.0; is = t.1 })
            (record { value = _; is = refl });
        scope = after_function_known s₀ c g h f;
      }
  declaration_known (variables d) c h f =
      let k = file_variables_known s₀ d.variables c d.base h f in
      record {
        tree = onward (file_variables_typed (within s₀ c) d.base d.variables) _ k.blocks (record { value = _; is = refl });
        scope = k.scope;
      }

  declarations_known : (ds : UnitTree) (c : Context) → IsFileScope c → declarations_faults c ds ≡ [] → Known (declarations_typed (within s₀ c) ds)
  declarations_known [] c h f = record { value = _; is = refl }
  declarations_known (d ∷ ds) c h f =
      let now = declaration_known d c h (none_left (declaration_faults c d) (declarations_faults (after_declaration c d) ds) f) in
      onward (declaration_typed (within s₀ c) d) _ now.tree
      (onward (declarations_typed (within s₀ (after_declaration c d)) ds) _
      (declarations_known ds (after_declaration c d) now.scope (none_right (declaration_faults c d) (declarations_faults (after_declaration c d) ds) f))
      (record { value = _; is = refl }))

pub start_known : IsFileScope start_context
start_known = record { names = (tt, (tt, tt)); members = λ k ms e. nothing ms e; laid_out = λ k ms e. nothing ms e }

pub units_typed : UnitsTyped
units_typed unit w =
    let u = declarations_known (start_scope unit) unit start_context start_known w.keeps_rules in
    let t = onward (declarations_typed (start_scope unit) unit) _ u (record { value = _; is = refl }) in
    (t.value, t.is)
