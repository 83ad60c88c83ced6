-- The blocks of a call take as many bytes as are counted of the placed locals and parameters of its function.
use Rattle.std.proofs.Common.{◌≡◌, ◌≤◌, inl, inr, ℕ, max, true, List, [], ◌∷◌, ◌++◌, map, Option, Some, None, refl, sym, ap, ◌∙◌, subst, arith}
use Rattle.std.specs.Prelude.{sum_by}
use Rattle.std.specs.List.{list_all}
use Rattle.std.proofs.lemmas.List.Sums.{sum_by-cons}
use Rattle.std.specs.Cmp.{first_so, second_so}
use Rattle.std.proofs.lemmas.Option.{same_Some}
use Rattle.qs_syntax.specs.Trees.{Stmts, FunctionTree, DeclTree, structure, forward, function, variables, UnitTree, typedef}
use Rattle.qs_memory.specs.Partial.{◌>>=◌}
use Rattle.qs_memory.proofs.Options.{followed}
use Rattle.qs_types.specs.Types.{TypeTree, Structs}
use Rattle.qs_types.specs.Layout.{rounded_up, size_of}
use Rattle.qs_types.specs.Contexts.{Context, start_context, inner_scope}
use Rattle.qs_types.specs.Limits.{Block, word_size, type_size, local_block, placed_bytes, body_bytes, placed_from, most_placed}
use Rattle.qs_types.specs.Placed.{Local, is_placed, addressed_in, statements_locals}
use Rattle.qs_types.specs.UnitRules.{parameter_types, result_type, body_context, after_function, after_declaration, declaration_faults, declarations_faults}
use Rattle.qs_types.specs.WellTyped.{WellTyped}
use Rattle.qs_meaning.specs.Typed.{Function, TypedProgram}
use Rattle.qs_meaning.specs.Names.{Scope, within}
use Rattle.qs_meaning.specs.Statements.{statements_typed}
use Rattle.qs_meaning.specs.Units.{placed_among, variables_among, locals_of, parameters_in, scalars_of, sizes_of, parameters_typed, in_body, function_with, function_typed, file_variables_typed, declaration_typed, declarations_typed, start_scope, typed_of}
use Rattle.qs_meaning.specs.FitLaws.{statements_filled, body_filled, declaration_filled, IsAsRead}
use Rattle.qs_meaning.specs.TypedLaws.{IsFileScope}
use Rattle.qs_meaning.proofs.FaultlessExpressions.{none_left, none_right}
use Rattle.qs_meaning.proofs.Functions.{same_structs_with}
use Rattle.qs_meaning.proofs.UnitsTyped.{start_known}
use Rattle.qs_meaning.proofs.FitTypes.{is_small, SmallTable, SmallNames}
use Rattle.qs_meaning.proofs.FitLocals.{In, SmallLocals, small_both, statements_small}
use Rattle.qs_meaning.proofs.FitFunctions.{parameters_small, with_parameters_named, small_in, in_filtered}
use Rattle.qs_meaning.proofs.FitSignatures.{file_after}
use Rattle.qs_meaning.proofs.FitBlocks.{table_after, start_small, named_after, start_named}
use Rattle.qs_meaning.proofs.DeclaredSizes.{declared_size}
use Rattle.qs_elaborate_limits.specs.Measures.{highest, bytes_in_words}
use Rattle.qs_elaborate_limits.proofs.UnitHeights.{highest_joined}

-- ---- the sizes of locals

sizes_are :
    (structs : Structs) → SmallTable structs → (ls : List Local) (sizes : List ℕ)
    → ((l : Local) → In l ls → (t : TypeTree) → l.type ≡ Some t → is_small structs t ≡ true) → sizes_of structs ls ≡ Some sizes
    → bytes_in_words sizes ≡ sum_by (λ (b : Block). b.size) (map (local_block structs) ls)
sizes_are structs table [] sizes small e = ap bytes_in_words (sym (same_Some [] sizes e))
sizes_are structs table (l ∷ ls) sizes small e =
    let n = followed (l.type >>= size_of structs) _ sizes e in
    let rest = followed (sizes_of structs ls) _ sizes n.then in
    let t = followed l.type _ n.value n.first in
    let counted = ap (type_size structs) t.first ∙ declared_size structs table t.value (small l (inl refl) t.value t.first) n.value t.then in
    let later = sizes_are structs table ls rest.value (λ x m t e. small x (inr m) t e) rest.first in
    let one = sum_by-cons (λ size. rounded_up size word_size) n.value rest.value in
    let other = sum_by-cons (λ (b : Block). b.size) (local_block structs l) (map (local_block structs) ls) in
    let here = ap (λ size. rounded_up size word_size) counted in
    subst (λ z. bytes_in_words z ≡ sum_by (λ (b : Block). b.size) (map (local_block structs) (l ∷ ls))) (same_Some _ sizes rest.then) (omega arith)

abbrev pub placed_of : Function → ℕ
placed_of g = bytes_in_words g.blocks

-- ---- functions

module _ (c : Context) (table : SmallTable c.structs) (named : SmallNames c.structs c.type_names) (f : FunctionTree) (body : Stmts) (filled : statements_filled body ≡ true) where
  small_all : SmallLocals c.structs (parameters_in c f ++ statements_locals (body_context c f) body)
  small_all =
      let body_structs : (body_context c f).structs ≡ c.structs =
      same_structs_with f.parameters (parameter_types (inner_scope c) f.parameters) (record (inner_scope (after_function c f)) { result = result_type c f }) in
      let body_named : SmallNames (body_context c f).structs (body_context c f).type_names =
      with_parameters_named f.parameters (parameter_types (inner_scope c) f.parameters) (record (inner_scope (after_function c f)) { result = result_type c f }) named in
      small_both c.structs (parameters_in c f) (statements_locals (body_context c f) body) (parameters_small f.parameters (inner_scope c) named)
      (subst (λ z. SmallLocals z (statements_locals (body_context c f) body)) body_structs (statements_small body (body_context c f) body_named filled))

  pub blocks_are : (sizes : List ℕ) → sizes_of c.structs (placed_among (addressed_in c f body) (parameters_in c f ++ statements_locals (body_context c f) body)) ≡ Some sizes
      → bytes_in_words sizes ≡ placed_bytes c f body
  blocks_are sizes e =
      sizes_are c.structs table (placed_among (addressed_in c f body) (parameters_in c f ++ statements_locals (body_context c f) body)) sizes
      (λ l m t e. small_in c.structs (parameters_in c f ++ statements_locals (body_context c f) body) l small_all
      (in_filtered (is_placed (addressed_in c f body)) l (parameters_in c f ++ statements_locals (body_context c f) body) m) t e) e

function_placed :
    (s : Scope) → SmallTable s.context.structs → SmallNames s.context.structs s.context.type_names → (f : FunctionTree) (o : Option Stmts) (gs : List Function) → body_filled o ≡ true
    → function_typed s f o ≡ Some gs → highest placed_of gs ≤ body_bytes s.context f o
function_placed s table named f None gs filled q = subst (λ z. highest placed_of z ≤ 0) (same_Some _ gs q) (omega arith)
function_placed s table named f (Some body) gs filled q =
    let addressed = addressed_in s.context f body in
    let ps = parameters_in s.context f in
    let ls = statements_locals (body_context s.context f) body in
    let g = followed (function_with s f body addressed ps ls) _ gs q in
    let x = followed (parameters_typed (locals_of addressed ps ls) f.parameters (parameter_types (inner_scope s.context) f.parameters)) _ g.value g.first in
    let y = followed (scalars_of (variables_among addressed ps ls)) _ g.value x.then in
    let z = followed (sizes_of s.context.structs (placed_among addressed (ps ++ ls))) _ g.value y.then in
    let w = followed (statements_typed (in_body s f (locals_of addressed ps ls)) body) _ g.value z.then in
    let sizes = ap bytes_in_words (ap (λ (g : Function). g.blocks) (same_Some _ g.value w.then)) in
    let are = blocks_are s.context table named f body filled z.value z.first in
    subst (λ z. highest placed_of z ≤ placed_bytes s.context f body) (same_Some _ gs g.then) (omega arith)

-- ---- units

-- what a declaration has
abbrev declared_bytes : Context → DeclTree → ℕ
declared_bytes c (structure t) = 0
declared_bytes c (forward t) = 0
declared_bytes c (typedef t) = 0
declared_bytes c (variables v) = 0
declared_bytes c (function f) = body_bytes c f f.body

most_here : (c : Context) (d : DeclTree) (ds : UnitTree) → placed_from c (d ∷ ds) ≡ max (declared_bytes c d) (placed_from (after_declaration c d) ds)
most_here c (structure t) ds = omega arith
most_here c (forward t) ds = omega arith
most_here c (typedef t) ds = omega arith
most_here c (variables v) ds = omega arith
most_here c (function f) ds = omega arith

declaration_placed :
    (d : DeclTree) (s : Scope) (now : TypedProgram) → SmallTable s.context.structs → SmallNames s.context.structs s.context.type_names → declaration_filled d ≡ true
    → declaration_typed s d ≡ Some now
    → highest placed_of now.functions ≤ declared_bytes s.context d
declaration_placed (structure t) s now table named filled q = subst (λ (z : TypedProgram). highest placed_of z.functions ≤ 0) (same_Some _ now q) (omega arith)
declaration_placed (forward t) s now table named filled q = subst (λ (z : TypedProgram). highest placed_of z.functions ≤ 0) (same_Some _ now q) (omega arith)
declaration_placed (typedef t) s now table named filled q = subst (λ (z : TypedProgram). highest placed_of z.functions ≤ 0) (same_Some _ now q) (omega arith)
declaration_placed (variables v) s now table named filled q =
    let bs = followed (file_variables_typed s v.base v.variables) _ now q in
    subst (λ (z : TypedProgram). highest placed_of z.functions ≤ 0) (same_Some _ now bs.then) (omega arith)
declaration_placed (function f) s now table named filled q =
    let gs = followed (function_typed s f f.body) _ now q in
    subst (λ (z : TypedProgram). highest placed_of z.functions ≤ body_bytes s.context f f.body) (same_Some _ now gs.then)
    (function_placed s table named f f.body gs.value filled gs.first)

module _ (s₀ : Scope) where
  declarations_placed :
      (ds : UnitTree) (c : Context) (u : TypedProgram) → IsFileScope c → SmallTable c.structs → SmallNames c.structs c.type_names → declarations_faults c ds ≡ [] → list_all declaration_filled ds ≡ true
      → declarations_typed (within s₀ c) ds ≡ Some u → highest placed_of u.functions ≤ placed_from c ds
  declarations_placed [] c u h table named faults filled q = subst (λ (z : TypedProgram). highest placed_of z.functions ≤ 0) (same_Some _ u q) (omega arith)
  declarations_placed (d ∷ ds) c u h table named faults filled q =
      let after = after_declaration c d in
      let now = followed (declaration_typed (within s₀ c) d) _ u q in
      let rest = followed (declarations_typed (within s₀ after) ds) _ u now.then in
      let own = none_left (declaration_faults c d) (declarations_faults after ds) faults in
      let later =
      declarations_placed ds after rest.value (file_after s₀ c d h own) (table_after s₀ d c h table named own (first_so _ _ filled)) (named_after s₀ d c h table named own (first_so _ _ filled))
      (none_right (declaration_faults c d) (declarations_faults after ds) faults) (second_so (declaration_filled d) _ filled) rest.first
      in
      let both = highest_joined placed_of now.value.functions rest.value.functions in
      let here = declaration_placed d (within s₀ c) now.value table named (first_so _ _ filled) now.first in
      let most = most_here c d ds in
      subst (λ (z : TypedProgram). highest placed_of z.functions ≤ placed_from c (d ∷ ds)) (same_Some _ u rest.then) (omega arith)

pub placed_is_counted : (unit : UnitTree) (u : TypedProgram) → IsAsRead unit → WellTyped unit → typed_of unit ≡ Some u → highest placed_of u.functions ≤ most_placed unit
placed_is_counted unit u read well q =
    let d = followed (declarations_typed (start_scope unit) unit) _ u q in
    subst (λ (z : TypedProgram). highest placed_of z.functions ≤ most_placed unit) (same_Some _ u d.then)
    (declarations_placed (start_scope unit) unit start_context d.value start_known start_small start_named well.keeps_rules read.lists d.first)
