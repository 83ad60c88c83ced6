-- Frames are no larger than the caps of their functions.
use Rattle.std.proofs.Common.{◌≡◌, ◌≤◌, ℕ, ◌+◌, ◌*◌, true, List, [], ◌∷◌, ◌++◌, map, length, Option, Some, None, is_some, refl, sym, ap, ◌∙◌, subst, arith}
use Rattle.std.specs.List.{list_all}
use Rattle.qs_base.specs.Parameters.{stack_arguments}
use Rattle.std.proofs.lemmas.List.{map-append}
use Rattle.std.specs.Cmp.{first_so, second_so}
use Rattle.std.proofs.lemmas.Option.{same_Some}
use Rattle.qs_syntax.specs.Trees.{Stmts, FunctionTree, DeclTree, structure, forward, function, variables, UnitTree, typedef}
use Rattle.qs_memory.specs.declared.scalar.Scalar.{Scalar}
use Rattle.qs_memory.proofs.Options.{followed}
use Rattle.qs_types.specs.Contexts.{Context, start_context, inner_scope}
use Rattle.qs_types.specs.Rules.{faults_of}
use Rattle.qs_types.specs.Limits.{placed_bytes}
use Rattle.qs_types.specs.Placed.{Local, addressed_in, statements_locals}
use Rattle.qs_types.specs.UnitRules.{parameter_types, header_tests, parameters_faults, body_context, body_faults, after_declaration, declaration_faults, declarations_faults}
use Rattle.qs_core.specs.Sizes.{values, most_passed}
use Rattle.qs_meaning.specs.Typed.{Function, TypedProgram}
use Rattle.qs_meaning.specs.Names.{Scope, within}
use Rattle.qs_meaning.specs.Statements.{statements_typed}
use Rattle.qs_meaning.specs.Units.{placed_among, variables_among, locals_of, parameters_in, scalars_of, sizes_of, parameters_typed, in_body, function_with, function_typed, file_variables_typed, declaration_typed, declarations_typed, start_scope}
use Rattle.qs_meaning.specs.FitLaws.{body_filled, declaration_filled}
use Rattle.qs_meaning.specs.TypedLaws.{IsFileScope}
use Rattle.qs_meaning.proofs.FaultlessExpressions.{none_left, none_right}
use Rattle.qs_meaning.proofs.UnitsTyped.{start_known}
use Rattle.qs_meaning.proofs.FitTypes.{SmallTable, SmallNames}
use Rattle.qs_meaning.proofs.FitReadings.{read_is_as_read}
use Rattle.qs_meaning.proofs.FitSignatures.{file_after}
use Rattle.qs_meaning.proofs.FitBlocks.{table_after, start_small, named_after, start_named}
use Rattle.qs_elaborate_laws.specs.Counts.{expressions_in}
use Rattle.qs_elaborate_laws.specs.ExpressionCounts.{stmts_expressions}
use Rattle.qs_elaborate_bodies.specs.Names.{FunctionNames, names_in}
use Rattle.qs_elaborate_bodies.specs.Units.{function_core, no_names, functions_core}
use Rattle.qs_elaborate_laws.proofs.SizeFunctions.{values_are_few}
use Rattle.qs_elaborate_laws.proofs.CountedParts.{statements_parts}
use Rattle.qs_elaborate_limits.specs.Caps.{frame_size, variable_count, passed_in, cap, body_cap, caps_from, caps, needed, EachBelow}
use Rattle.qs_elaborate_limits.specs.Measures.{bytes_in_words}
use Rattle.qs_elaborate_limits.specs.Arguments.{stmts_arguments}
use Rattle.qs_elaborate_limits.specs.Laws.{CapsAreKept}
use Rattle.qs_elaborate_limits.proofs.TypedArguments.{statements_arguments}
use Rattle.qs_elaborate_limits.proofs.StatementArguments.{statements_few}
use Rattle.qs_elaborate_limits.proofs.CoreArguments.{body_few}
use Rattle.qs_elaborate_limits.proofs.PlacedBytes.{blocks_are}
use Rattle.qs_elaborate_limits.proofs.CoreUnits.{made, functions_are}

-- ---- sizes of frames

larger_frame : (bytes words more : ℕ) → words ≤ more → frame_size bytes words ≤ frame_size bytes more
larger_frame bytes words more h = omega arith

below_both : (ns ms ks ls : List ℕ) → EachBelow ns ms → EachBelow ks ls → EachBelow (ns ++ ks) (ms ++ ls)
below_both [] [] ks ls h k = k
below_both [] (m ∷ ms) ks ls h k = absurd h
below_both (n ∷ ns) [] ks ls h k = absurd h
below_both (n ∷ ns) (m ∷ ms) ks ls h k = (h.0, below_both ns ms ks ls h.1 k)

below_through : (ns ms ls : List ℕ) → EachBelow ns ms → EachBelow ms ls → EachBelow ns ls
below_through [] [] ls h k = k
below_through [] (m ∷ ms) ls h k = absurd h
below_through (n ∷ ns) [] ls h k = absurd h
below_through (n ∷ ns) (m ∷ ms) [] h k = absurd k
below_through (n ∷ ns) (m ∷ ms) (l ∷ ls) h k = (through h.0 k.0, below_through ns ms ls h.1 k.1)
  where
    through : n ≤ m → m ≤ l → n ≤ l
    through a b = omega arith

-- ---- what a function needs, by its typed tree

abbrev typed_passed : Function → ℕ
typed_passed g = stack_arguments (statements_arguments g.body)

abbrev typed_need : Function → ℕ
typed_need g = frame_size (bytes_in_words g.blocks) (length g.variables + 2 * expressions_in g + typed_passed g)

core_need : (names : FunctionNames) (g : Function) → needed (function_core names g) ≤ typed_need g
core_need names g =
    let v = values_are_few names g in
    let a = body_few names g in
    larger_frame (bytes_in_words g.blocks) (values (function_core names g) + most_passed (function_core names g))
    (length g.variables + 2 * expressions_in g + typed_passed g) (omega (arith, v, a))

cores_need : (names : List FunctionNames) (gs : List Function) → EachBelow (map needed (functions_core names gs)) (map typed_need gs)
cores_need names [] = tt
cores_need [] (g ∷ gs) = (core_need no_names g, cores_need [] gs)
cores_need (f ∷ names) (g ∷ gs) = (core_need f g, cores_need names gs)

-- ---- and by its source

pub scalars_length : (ls : List Local) (ss : List Scalar) → scalars_of ls ≡ Some ss → length ss ≡ length ls
scalars_length [] ss e = ap length (sym (same_Some [] ss e))
scalars_length (l ∷ ls) ss e =
    let t = followed l.type _ ss e in
    let rest = followed (scalars_of ls) _ ss t.then in
    let k = scalars_length ls rest.value rest.first in
    subst (λ z. length z ≡ length (l ∷ ls)) (same_Some _ ss rest.then) (omega arith)

function_capped :
    (s : Scope) → SmallTable s.context.structs → SmallNames s.context.structs s.context.type_names → (f : FunctionTree) (o : Option Stmts) (gs : List Function)
    → body_filled o ≡ true → body_faults s.context f o ≡ [] → function_typed s f o ≡ Some gs → EachBelow (map typed_need gs) (body_cap s.context f o)
function_capped s table named f None gs filled faults q = subst (λ z. EachBelow (map typed_need z) []) (same_Some _ gs q) tt
function_capped s table named f (Some body) gs filled faults q =
    let addressed = addressed_in s.context f body in
    let ps = parameters_in s.context f in
    let ls = statements_locals (body_context s.context f) body in
    let g = followed (function_with s f body addressed ps ls) _ gs q in
    let x = followed (parameters_typed (locals_of addressed ps ls) f.parameters (parameter_types (inner_scope s.context) f.parameters)) _ g.value g.first in
    let y = followed (scalars_of (variables_among addressed ps ls)) _ g.value x.then in
    let z = followed (sizes_of s.context.structs (placed_among addressed (ps ++ ls))) _ g.value y.then in
    let w = followed (statements_typed (in_body s f (locals_of addressed ps ls)) body) _ g.value z.then in
    let is = same_Some _ g.value w.then in
    let bytes = sym (ap (λ (g : Function). bytes_in_words g.blocks) is) ∙ blocks_are s.context table named f body filled z.value z.first in
    let vars = sym (ap (λ (g : Function). length g.variables) is) ∙ scalars_length (variables_among addressed ps ls) y.value y.first in
    let parts = statements_parts body (in_body s f (locals_of addressed ps ls)) w.value faults w.first in
    let most = subst (λ (g : Function). expressions_in g ≤ stmts_expressions body) is parts in
    let arguments = statements_few body (in_body s f (locals_of addressed ps ls)) w.value w.first in
    let few = subst (λ (g : Function). statements_arguments g.body ≤ stmts_arguments body) is arguments in
    subst (λ z. EachBelow (map typed_need z) (cap s.context f body ∷ [])) (same_Some _ gs g.then) (
      capped (bytes_in_words g.value.blocks) (placed_bytes s.context f body) (length g.value.variables) (variable_count s.context f body)
          (expressions_in g.value) (stmts_expressions body) (typed_passed g.value) (passed_in body) bytes vars most (omega (arith, few)),
      tt,
    )
  where
    capped : (b p v w e m a n : ℕ) → b ≡ p → v ≡ w → e ≤ m → a ≤ n → frame_size b (v + 2 * e + a) ≤ frame_size p (w + 2 * m + n)
    capped b p v w e m a n i j k l = omega (arith, i, j, k, l)

-- ---- units

abbrev declared_caps : Context → DeclTree → List ℕ
declared_caps c (structure t) = []
declared_caps c (forward t) = []
declared_caps c (typedef t) = []
declared_caps c (variables v) = []
declared_caps c (function f) = body_cap c f f.body

caps_joined : (c : Context) (d : DeclTree) (ds : UnitTree) → declared_caps c d ++ caps_from (after_declaration c d) ds ≡ caps_from c (d ∷ ds)
caps_joined c (structure t) ds = refl
caps_joined c (forward t) ds = refl
caps_joined c (typedef t) ds = refl
caps_joined c (variables v) ds = refl
caps_joined c (function f) ds = refl

declaration_capped :
    (d : DeclTree) (s : Scope) (now : TypedProgram) → SmallTable s.context.structs → SmallNames s.context.structs s.context.type_names → declaration_filled d ≡ true
    → declaration_faults s.context d ≡ [] → declaration_typed s d ≡ Some now → EachBelow (map typed_need now.functions) (declared_caps s.context d)
declaration_capped (structure t) s now table named filled faults q = subst (λ (z : TypedProgram). EachBelow (map typed_need z.functions) []) (same_Some _ now q) tt
declaration_capped (forward t) s now table named filled faults q = subst (λ (z : TypedProgram). EachBelow (map typed_need z.functions) []) (same_Some _ now q) tt
declaration_capped (typedef t) s now table named filled faults q = subst (λ (z : TypedProgram). EachBelow (map typed_need z.functions) []) (same_Some _ now q) tt
declaration_capped (variables v) s now table named filled faults q =
    let bs = followed (file_variables_typed s v.base v.variables) _ now q in
    subst (λ (z : TypedProgram). EachBelow (map typed_need z.functions) []) (same_Some _ now bs.then) tt
declaration_capped (function f) s now table named filled faults q =
    let gs = followed (function_typed s f f.body) _ now q in
    let inside = none_right (parameters_faults (inner_scope s.context) (is_some f.body) f.parameters) _ (none_right (faults_of f.node.id (header_tests s.context f)) _ faults) in
    subst (λ (z : TypedProgram). EachBelow (map typed_need z.functions) (body_cap s.context f f.body)) (same_Some _ now gs.then)
    (function_capped s table named f f.body gs.value filled inside gs.first)

module _ (s₀ : Scope) where
  declarations_capped :
      (ds : UnitTree) (c : Context) (u : TypedProgram) → IsFileScope c → SmallTable c.structs → SmallNames c.structs c.type_names → declarations_faults c ds ≡ [] → list_all declaration_filled ds ≡ true
      → declarations_typed (within s₀ c) ds ≡ Some u → EachBelow (map typed_need u.functions) (caps_from c ds)
  declarations_capped [] c u h table named faults filled q = subst (λ (z : TypedProgram). EachBelow (map typed_need z.functions) []) (same_Some _ u q) tt
  declarations_capped (d ∷ ds) c u h table named faults filled q =
      let after = after_declaration c d in
      let now = followed (declaration_typed (within s₀ c) d) _ u q in
      let rest = followed (declarations_typed (within s₀ after) ds) _ u now.then in
      let own = none_left (declaration_faults c d) (declarations_faults after ds) faults in
      let here = declaration_capped d (within s₀ c) now.value table named (first_so _ _ filled) own now.first in
      let later =
      declarations_capped ds after rest.value (file_after s₀ c d h own) (table_after s₀ d c h table named own (first_so _ _ filled)) (named_after s₀ d c h table named own (first_so _ _ filled))
      (none_right (declaration_faults c d) (declarations_faults after ds) faults) (second_so (declaration_filled d) _ filled) rest.first
      in
      let both = below_both (map typed_need now.value.functions) (declared_caps c d) (map typed_need rest.value.functions) (caps_from after ds) here later in
      subst (λ (z : TypedProgram). EachBelow (map typed_need z.functions) (caps_from c (d ∷ ds))) (same_Some _ u rest.then)
      (subst (λ ns. EachBelow ns (caps_from c (d ∷ ds))) (sym (map-append typed_need now.value.functions rest.value.functions))
      (subst (λ ns. EachBelow (map typed_need now.value.functions ++ map typed_need rest.value.functions) ns) (caps_joined c d ds) both))

pub caps_are_kept : CapsAreKept
caps_are_kept unit core read well q =
    let m = made unit core q in
    let d = followed (declarations_typed (start_scope unit) unit) _ m.typed m.tree in
    let source = subst (λ (z : TypedProgram). EachBelow (map typed_need z.functions) (caps unit)) (same_Some _ m.typed d.then)
    (declarations_capped (start_scope unit) unit start_context d.value start_known start_small start_named well.keeps_rules (read_is_as_read unit read).lists d.first) in
    subst (λ fs. EachBelow (map needed fs) (caps unit)) (functions_are unit core m)
    (below_through (map needed (functions_core (names_in unit) m.typed.functions)) (map typed_need m.typed.functions) (caps unit)
    (cores_need (names_in unit) m.typed.functions) source)
