-- A function of core needs at most three values for each node of its unit.
use Rattle.std.proofs.Common.{◌≡◌, ◌≤◌, ℕ, ◌+◌, ◌*◌, Bool, true, false, not, List, [], ◌∷◌, ◌++◌, length, filter, Option, Some, None, is_some, sym, ap, ◌∙◌, subst, arith, length-append, cond}
use Rattle.std.proofs.lemmas.Option.{same_Some}
use Rattle.qs_syntax.specs.declared.types.Base.{Base}
use Rattle.qs_syntax.specs.Trees.{InitialiserTree, value, list, Initialisers, no_initialisers, initialiser_and, VariableTree, ParameterTree, StartTree, no_start, start_expression, start_declaration, StmtTree, empty, expression, declaration, block, switch, case_label, default_label, branch, while_loop, do_loop, for_loop, break, continue, return, Stmts, no_stmts, stmt_and, Else, no_else, else_by, FunctionTree, DeclTree, structure, forward, function, variables, UnitTree, typedef}
use Rattle.qs_syntax.specs.Nodes.{all_count, option_count, initialiser_count, initialisers_count, variable_count, parameter_count, start_count, stmt_count, stmts_count, else_count, decl_count, unit_count}
use Rattle.qs_memory.proofs.Options.{followed}
use Rattle.qs_types.specs.Types.{TypeTree}
use Rattle.qs_types.specs.Contexts.{Context, inner_scope, inside_loop}
use Rattle.qs_types.specs.Rules.{faults_of}
use Rattle.qs_types.specs.Placed.{Local, is_placed, addressed_in, variables_locals, start_locals, statement_locals, statements_locals, else_locals, parameters_locals}
use Rattle.qs_types.specs.StatementRules.{after_variable, after_statement, switch_context, for_context}
use Rattle.qs_types.specs.UnitRules.{parameter_types, header_tests, parameters_faults, body_context, body_faults, after_declaration, declaration_faults, declarations_faults}
use Rattle.qs_types.proofs.LimitLaws.{keeps_limits}
use Rattle.qs_core.specs.Sizes.{values}
use Rattle.qs_meaning.specs.Typed.{Function, TypedProgram}
use Rattle.qs_meaning.specs.Names.{Scope, within}
use Rattle.qs_meaning.specs.Statements.{statements_typed}
use Rattle.qs_meaning.specs.Units.{placed_among, plain_among, variables_among, locals_of, parameters_in, scalars_of, sizes_of, parameters_typed, in_body, function_with, function_typed, file_variables_typed, declaration_typed, declarations_typed, start_scope}
use Rattle.qs_meaning.proofs.FaultlessExpressions.{none_left, none_right}
use Rattle.qs_elaborate_laws.specs.Counts.{expressions_in}
use Rattle.qs_elaborate_laws.specs.ExpressionCounts.{initialiser_expressions, initialisers_expressions, variable_expressions, start_expressions, stmt_expressions, stmts_expressions, else_expressions}
use Rattle.qs_elaborate_bodies.specs.Names.{FunctionNames, names_in}
use Rattle.qs_elaborate_bodies.specs.Units.{no_names, functions_core}
use Rattle.qs_elaborate_laws.proofs.SizeFunctions.{values_are_few}
use Rattle.qs_elaborate_laws.proofs.CountedParts.{statements_parts}
use Rattle.qs_elaborate_limits.specs.Laws.{value_limit, ValuesAreLimited}
use Rattle.qs_elaborate_limits.specs.Measures.{highest}
use Rattle.qs_elaborate_limits.proofs.UnitHeights.{highest_joined}
use Rattle.qs_elaborate_limits.proofs.CoreUnits.{made, functions_are, all_below}
use Rattle.qs_elaborate_limits.proofs.FrameCaps.{scalars_length}

-- ---- expressions are nodes

mutual
  initialiser_less : (i : InitialiserTree) → initialiser_expressions i ≤ initialiser_count i
  initialiser_less (value e) = omega arith
  initialiser_less (list node is) = let h = initialisers_less is in omega arith

  initialisers_less : (is : Initialisers) → initialisers_expressions is ≤ initialisers_count is
  initialisers_less no_initialisers = omega arith
  initialisers_less (initialiser_and i is) = let h = initialiser_less i in let k = initialisers_less is in omega arith

option_less : (i : Option InitialiserTree) → option_count initialiser_expressions i ≤ option_count initialiser_count i
option_less None = omega arith
option_less (Some i) = initialiser_less i

variables_less : (vs : List VariableTree) → all_count variable_expressions vs ≤ all_count variable_count vs
variables_less [] = omega arith
variables_less (v ∷ vs) = let h = option_less v.initialiser in let k = variables_less vs in omega arith

start_less : (a : StartTree) → start_expressions a ≤ start_count a
start_less no_start = omega arith
start_less (start_expression e) = omega arith
start_less (start_declaration d) = variables_less d.variables

mutual
  statement_less : (s : StmtTree) → stmt_expressions s ≤ stmt_count s
  statement_less (empty node) = omega arith
  statement_less (expression node e) = omega arith
  statement_less (declaration d) = variables_less d.variables
  statement_less (block ss) = statements_less ss
  statement_less (switch node e ss) = let h = statements_less ss in omega arith
  statement_less (case_label node e) = omega arith
  statement_less (default_label node) = omega arith
  statement_less (branch node e s r) = let h = statement_less s in let k = else_less r in omega arith
  statement_less (while_loop node e s) = let h = statement_less s in omega arith
  statement_less (do_loop node s e) = let h = statement_less s in omega arith
  statement_less (for_loop node a e u s) = let h = start_less a in let k = statement_less s in omega arith
  statement_less (break node) = omega arith
  statement_less (continue node) = omega arith
  statement_less (return node e) = omega arith

  statements_less : (ss : Stmts) → stmts_expressions ss ≤ stmts_count ss
  statements_less no_stmts = omega arith
  statements_less (stmt_and s ss) = let h = statement_less s in let k = statements_less ss in omega arith

  else_less : (r : Else) → else_expressions r ≤ else_count r
  else_less no_else = omega arith
  else_less (else_by s) = statement_less s

-- ---- each local is declared by a node

variables_few : (vs : List VariableTree) (c : Context) (base : Base) → length (variables_locals c base vs) ≤ all_count variable_count vs
variables_few [] c base = omega arith
variables_few (v ∷ vs) c base = let h = variables_few vs (after_variable false c base v) base in omega arith

start_few : (a : StartTree) (c : Context) → length (start_locals c a) ≤ start_count a
start_few no_start c = omega arith
start_few (start_expression e) c = omega arith
start_few (start_declaration d) c = variables_few d.variables c d.base

mutual
  statement_few : (s : StmtTree) (c : Context) → length (statement_locals c s) ≤ stmt_count s
  statement_few (empty node) c = omega arith
  statement_few (expression node e) c = omega arith
  statement_few (declaration d) c = variables_few d.variables c d.base
  statement_few (block ss) c = statements_few ss (inner_scope c)
  statement_few (switch node e ss) c = let h = statements_few ss (switch_context c e) in omega arith
  statement_few (case_label node e) c = omega arith
  statement_few (default_label node) c = omega arith
  statement_few (branch node e s r) c =
      let h = statement_few s (inner_scope c) in
      let k = else_few r c in
      omega (arith, h, k, length-append (statement_locals (inner_scope c) s) (else_locals c r))
  statement_few (while_loop node e s) c = let h = statement_few s (inside_loop (inner_scope c)) in omega arith
  statement_few (do_loop node s e) c = let h = statement_few s (inside_loop (inner_scope c)) in omega arith
  statement_few (for_loop node a e u s) c =
      let inside = inside_loop (inner_scope (for_context c a)) in
      let h = start_few a (inner_scope c) in
      let k = statement_few s inside in
      omega (arith, h, k, length-append (start_locals (inner_scope c) a) (statement_locals inside s))
  statement_few (break node) c = omega arith
  statement_few (continue node) c = omega arith
  statement_few (return node e) c = omega arith

  statements_few : (ss : Stmts) (c : Context) → length (statements_locals c ss) ≤ stmts_count ss
  statements_few no_stmts c = omega arith
  statements_few (stmt_and s ss) c =
      let h = statement_few s c in
      let k = statements_few ss (after_statement c s) in
      omega (arith, h, k, length-append (statement_locals c s) (statements_locals (after_statement c s) ss))

  else_few : (r : Else) (c : Context) → length (else_locals c r) ≤ else_count r
  else_few no_else c = omega arith
  else_few (else_by s) c = statement_few s (inner_scope c)

parameters_few : (ps : List ParameterTree) (ts : List (Option TypeTree)) → length (parameters_locals ps ts) ≤ all_count parameter_count ps
parameters_few [] ts = omega arith
parameters_few (p ∷ ps) [] = omega arith
parameters_few (p ∷ ps) (t ∷ ts) = let h = parameters_few ps ts in omega arith

fewer : (p : Local → Bool) (ls : List Local) → length (filter p ls) ≤ length ls
fewer p [] = omega arith
fewer p (l ∷ ls) = by (p l) (fewer p ls)
  where
    by : (b : Bool) → length (filter p ls) ≤ length ls → length (cond b (l ∷ filter p ls) (filter p ls)) ≤ length (l ∷ ls)
    by true h = omega arith
    by false h = omega arith

-- ---- functions

abbrev typed_values : Function → ℕ
typed_values g = length g.variables + 2 * expressions_in g

function_values :
    (s : Scope) (f : FunctionTree) (o : Option Stmts) (gs : List Function) → body_faults s.context f o ≡ [] → function_typed s f o ≡ Some gs
    → highest typed_values gs ≤ 3 * (all_count parameter_count f.parameters + option_count stmts_count o)
function_values s f None gs faults q =
    subst (λ z. highest typed_values z ≤ 3 * (all_count parameter_count f.parameters + 0)) (same_Some _ gs q) (omega arith)
function_values s f (Some body) gs faults q =
    let addressed = addressed_in s.context f body in
    let ps = parameters_in s.context f in
    let ls = statements_locals (body_context s.context f) body in
    let g = followed (function_with s f body addressed ps ls) _ gs q in
    let x = followed (parameters_typed (locals_of addressed ps ls) f.parameters (parameter_types (inner_scope s.context) f.parameters)) _ g.value g.first in
    let y = followed (scalars_of (variables_among addressed ps ls)) _ g.value x.then in
    let z = followed (sizes_of s.context.structs (placed_among addressed (ps ++ ls))) _ g.value y.then in
    let w = followed (statements_typed (in_body s f (locals_of addressed ps ls)) body) _ g.value z.then in
    let is = same_Some _ g.value w.then in
    let vars = sym (ap (λ (g : Function). length g.variables) is) ∙ scalars_length (variables_among addressed ps ls) y.value y.first in
    let parts = subst (λ (g : Function). expressions_in g ≤ stmts_expressions body) is (statements_parts body (in_body s f (locals_of addressed ps ls)) w.value faults w.first) in
    let less = statements_less body in
    let both = length-append ps (plain_among addressed ls) in
    let plain = fewer (λ (l : Local). not (is_placed addressed l)) ls in
    let locals = statements_few body (body_context s.context f) in
    let given = parameters_few f.parameters (parameter_types (inner_scope s.context) f.parameters) in
    subst (λ z. highest typed_values z ≤ 3 * (all_count parameter_count f.parameters + stmts_count body)) (same_Some _ gs g.then) (omega arith)

declaration_values :
    (d : DeclTree) (s : Scope) (now : TypedProgram) → declaration_faults s.context d ≡ [] → declaration_typed s d ≡ Some now
    → highest typed_values now.functions ≤ 3 * decl_count d
declaration_values (structure t) s now f q = subst (λ (z : TypedProgram). highest typed_values z.functions ≤ 3 * decl_count (structure t)) (same_Some _ now q) (omega arith)
declaration_values (forward t) s now f q = subst (λ (z : TypedProgram). highest typed_values z.functions ≤ 3 * decl_count (forward t)) (same_Some _ now q) (omega arith)
declaration_values (typedef t) s now f q = subst (λ (z : TypedProgram). highest typed_values z.functions ≤ 3 * decl_count (typedef t)) (same_Some _ now q) (omega arith)
declaration_values (variables v) s now f q =
    let bs = followed (file_variables_typed s v.base v.variables) _ now q in
    subst (λ (z : TypedProgram). highest typed_values z.functions ≤ 3 * decl_count (variables v)) (same_Some _ now bs.then) (omega arith)
declaration_values (function g) s now f q =
    let gs = followed (function_typed s g g.body) _ now q in
    let inside = none_right (parameters_faults (inner_scope s.context) (is_some g.body) g.parameters) _ (none_right (faults_of g.node.id (header_tests s.context g)) _ f) in
    let h = function_values s g g.body gs.value inside gs.first in
    subst (λ (z : TypedProgram). highest typed_values z.functions ≤ 3 * decl_count (function g)) (same_Some _ now gs.then) (omega arith)

declarations_values :
    (ds : UnitTree) (s : Scope) (u : TypedProgram) → declarations_faults s.context ds ≡ [] → declarations_typed s ds ≡ Some u
    → highest typed_values u.functions ≤ 3 * unit_count ds
declarations_values [] s u f q = subst (λ (z : TypedProgram). highest typed_values z.functions ≤ 0) (same_Some _ u q) (omega arith)
declarations_values (d ∷ ds) s u f q =
    let after = within s (after_declaration s.context d) in
    let now = followed (declaration_typed s d) _ u q in
    let rest = followed (declarations_typed after ds) _ u now.then in
    let h = declaration_values d s now.value (none_left (declaration_faults s.context d) (declarations_faults after.context ds) f) now.first in
    let k = declarations_values ds after rest.value (none_right (declaration_faults s.context d) (declarations_faults after.context ds) f) rest.first in
    let both = highest_joined typed_values now.value.functions rest.value.functions in
    subst (λ (z : TypedProgram). highest typed_values z.functions ≤ 3 * unit_count (d ∷ ds)) (same_Some _ u rest.then) (omega arith)

-- ---- core

cores_values : (names : List FunctionNames) (gs : List Function) → highest values (functions_core names gs) ≤ highest typed_values gs
cores_values names [] = omega arith
cores_values [] (g ∷ gs) = let h = cores_values [] gs in omega (arith, h, values_are_few no_names g)
cores_values (f ∷ names) (g ∷ gs) = let h = cores_values names gs in omega (arith, h, values_are_few f g)

pub values_are_limited : ValuesAreLimited
values_are_limited unit core read well limits q =
    let m = made unit core q in
    let d = followed (declarations_typed (start_scope unit) unit) _ m.typed m.tree in
    let counted = subst (λ (z : TypedProgram). highest typed_values z.functions ≤ 3 * unit_count unit) (same_Some _ m.typed d.then)
    (declarations_values unit (start_scope unit) d.value well.keeps_rules d.first) in
    let limit = (keeps_limits unit read limits).nodes in
    let kept = cores_values (names_in unit) m.typed.functions in
    all_below values value_limit core.functions (subst (λ fs. highest values fs ≤ value_limit) (functions_are unit core m) (omega arith))
