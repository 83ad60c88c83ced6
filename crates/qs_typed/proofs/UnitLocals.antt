-- The locals and parameters that are found by the nodes of a function are those of the definition.
use Rattle.std.proofs.Common.{◌≡◌, ℕ, false, List, [], ◌∷◌, ◌++◌, Option, None, refl, sym, ap, ◌∙◌}
use Rattle.std.proofs.lemmas.List.{map-append}
use Rattle.qs_syntax.specs.declared.types.Base.{Base}
use Rattle.qs_syntax.specs.Trees.{VariableTree, ParameterTree, StartTree, no_start, start_expression, start_declaration, StmtTree, Stmts, no_stmts, stmt_and, Else, no_else, else_by}
use Rattle.qs_syntax.specs.Trees as trees
use Rattle.qs_types.specs.Types.{TypeTree}
use Rattle.qs_types.specs.Contexts.{Context, inner_scope, inside_loop}
use Rattle.qs_types.specs.Declarations.{variable_declared, parameter_declared}
use Rattle.qs_types.specs.StatementRules.{after_variable, switch_context, after_statement, for_context}
use Rattle.qs_types.specs.UnitRules.{after_parameter, parameter_types}
use Rattle.qs_types.specs.Placed.{Local, parameters_locals, variables_locals, start_locals, statement_locals, statements_locals, else_locals}
use Rattle.qs_typing_findings.specs.ExprFindings.{of_nodes}
use Rattle.qs_typing_findings.specs.UnitNodes.{of_option, of_lengths, of_declarator, of_option_initialiser, of_variables, of_start, of_statement, of_statements, of_else, of_parameters}
use Rattle.qs_meaning.specs.Units.{nodes_of}
use Rattle.qs_typed_nodes.specs.Known.{Known}
use Rattle.qs_typed_nodes.specs.KnownFunctions.{variables_nodes, start_nodes, statement_nodes, statements_nodes, else_nodes, parameters_nodes}
use Rattle.qs_typed.specs.AgreesFunctions.{ParametersAt, LocalsAt}
use Rattle.qs_typed.proofs.KnownNodes.{Each, each_left, each_right, StandsIn, at_node}
use Rattle.qs_typed.proofs.KnownBodies.{declared_type, its_type}
use Rattle.qs_typed.proofs.UnitHeaders.{ParametersDeclared}
use Rattle.qs_typed.proofs.TiedFunctions.{both_at}

-- ---- parameters

pub parameters_declared : (types : List (Option TypeTree)) (c : Context) (ps : List ParameterTree) → Each (StandsIn types) (of_parameters declared_type its_type c ps) → ParametersDeclared types c ps
parameters_declared types c [] n = tt
parameters_declared types c (p ∷ ps) n =
    let here = declared_type p.node (parameter_declared c p).type ∷ of_lengths declared_type its_type c p.lengths.given in
    let later = of_parameters declared_type its_type (after_parameter c p) ps in (
      at_node types p.node.id (parameter_declared c p).type (each_left (StandsIn types) here later n).0,
      parameters_declared types (after_parameter c p) ps (each_right (StandsIn types) here later n),
    )

pub parameters_at : (k : Known) (c : Context) (ps : List ParameterTree) → ParametersDeclared k.types c ps → ParametersAt k ps (parameter_types c ps)
parameters_at k c [] d = tt
parameters_at k c (p ∷ ps) d = (d.0, parameters_at k (after_parameter c p) ps d.1)

pub parameters_locals_at : (k : Known) (c : Context) (ps : List ParameterTree) → ParametersDeclared k.types c ps → LocalsAt k (parameters_locals ps (parameter_types c ps))
parameters_locals_at k c [] d = tt
parameters_locals_at k c (p ∷ ps) d = (d.0, parameters_locals_at k (after_parameter c p) ps d.1)

pub parameters_same : (c : Context) (ps : List ParameterTree) → parameters_nodes ps ≡ nodes_of (parameters_locals ps (parameter_types c ps))
parameters_same c [] = refl
parameters_same c (p ∷ ps) = ap (λ rest. p.node.id ∷ rest) (parameters_same (after_parameter c p) ps)

-- ---- the nodes of locals

joined : (xs ys : List Local) (ns ms : List ℕ) → ns ≡ nodes_of xs → ms ≡ nodes_of ys → ns ++ ms ≡ nodes_of (xs ++ ys)
joined xs ys ns ms p q = (λ i. p i ++ q i) ∙ sym (map-append (λ (l : Local). l.node) xs ys)

variables_same : (c : Context) (base : Base) (vs : List VariableTree) → variables_nodes vs ≡ nodes_of (variables_locals c base vs)
variables_same c base [] = refl
variables_same c base (v ∷ vs) = ap (λ rest. v.declarator.node.id ∷ rest) (variables_same (after_variable false c base v) base vs)

start_same : (c : Context) (start : StartTree) → start_nodes start ≡ nodes_of (start_locals c start)
start_same c no_start = refl
start_same c (start_expression e) = refl
start_same c (start_declaration d) = variables_same c d.base d.variables

mutual
  statement_same : (c : Context) (t : StmtTree) → statement_nodes t ≡ nodes_of (statement_locals c t)
  statement_same c (trees.empty node) = refl
  statement_same c (trees.expression node e) = refl
  statement_same c (trees.declaration d) = variables_same c d.base d.variables
  statement_same c (trees.block ss) = statements_same (inner_scope c) ss
  statement_same c (trees.branch node e t o) =
      joined (statement_locals (inner_scope c) t) (else_locals c o) (statement_nodes t) (else_nodes o) (statement_same (inner_scope c) t) (else_same c o)
  statement_same c (trees.switch node e ss) = statements_same (switch_context c e) ss
  statement_same c (trees.case_label node e) = refl
  statement_same c (trees.default_label node) = refl
  statement_same c (trees.while_loop node e t) = statement_same (inside_loop (inner_scope c)) t
  statement_same c (trees.do_loop node t e) = statement_same (inside_loop (inner_scope c)) t
  statement_same c (trees.for_loop node start e u t) =
      joined (start_locals (inner_scope c) start) (statement_locals (inside_loop (inner_scope (for_context c start))) t) (start_nodes start) (statement_nodes t)
      (start_same (inner_scope c) start) (statement_same (inside_loop (inner_scope (for_context c start))) t)
  statement_same c (trees.break node) = refl
  statement_same c (trees.continue node) = refl
  statement_same c (trees.return node e) = refl

  pub statements_same : (c : Context) (ss : Stmts) → statements_nodes ss ≡ nodes_of (statements_locals c ss)
  statements_same c no_stmts = refl
  statements_same c (stmt_and t ts) =
      joined (statement_locals c t) (statements_locals (after_statement c t) ts) (statement_nodes t) (statements_nodes ts) (statement_same c t) (statements_same (after_statement c t) ts)

  else_same : (c : Context) (o : Else) → else_nodes o ≡ nodes_of (else_locals c o)
  else_same c no_else = refl
  else_same c (else_by t) = statement_same (inner_scope c) t

-- ---- their types

variables_at : (k : Known) (c : Context) (base : Base) (vs : List VariableTree) → Each (StandsIn k.types) (of_variables declared_type its_type false c base vs) → LocalsAt k (variables_locals c base vs)
variables_at k c base [] n = tt
variables_at k c base (v ∷ vs) n =
    let after = after_variable false c base v in
    let t = (variable_declared c base v).type in
    let td = of_declarator declared_type its_type c t v.declarator in
    let ti = of_option_initialiser declared_type its_type after v.initialiser in
    let tr = of_variables declared_type its_type false after base vs in
    let here = each_left (StandsIn k.types) (td ++ ti) tr n in (
      at_node k.types v.declarator.node.id t (each_left (StandsIn k.types) td ti here).0,
      variables_at k after base vs (each_right (StandsIn k.types) (td ++ ti) tr n),
    )

start_at : (k : Known) (c : Context) (start : StartTree) → Each (StandsIn k.types) (of_start declared_type its_type c start) → LocalsAt k (start_locals c start)
start_at k c no_start n = tt
start_at k c (start_expression e) n = tt
start_at k c (start_declaration d) n = variables_at k c d.base d.variables n

mutual
  statement_at : (k : Known) (c : Context) (t : StmtTree) → Each (StandsIn k.types) (of_statement declared_type its_type c t) → LocalsAt k (statement_locals c t)
  statement_at k c (trees.empty node) n = tt
  statement_at k c (trees.expression node e) n = tt
  statement_at k c (trees.declaration d) n = variables_at k c d.base d.variables n
  statement_at k c (trees.block ss) n = statements_at k (inner_scope c) ss n
  statement_at k c (trees.branch node e t o) n =
      let te = declared_type node None ∷ of_nodes (its_type c) e in
      let ts = of_statement declared_type its_type (inner_scope c) t in
      let to = of_else declared_type its_type c o in
      let rest = each_right (StandsIn k.types) te (ts ++ to) n in
      both_at k (statement_locals (inner_scope c) t) (else_locals c o) (statement_at k (inner_scope c) t (each_left (StandsIn k.types) ts to rest))
      (else_at k c o (each_right (StandsIn k.types) ts to rest))
  statement_at k c (trees.switch node e ss) n =
      statements_at k (switch_context c e) ss
      (each_right (StandsIn k.types) (declared_type node None ∷ of_nodes (its_type c) e) (of_statements declared_type its_type (switch_context c e) ss) n)
  statement_at k c (trees.case_label node e) n = tt
  statement_at k c (trees.default_label node) n = tt
  statement_at k c (trees.while_loop node e t) n =
      statement_at k (inside_loop (inner_scope c)) t
      (each_right (StandsIn k.types) (declared_type node None ∷ of_nodes (its_type c) e) (of_statement declared_type its_type (inside_loop (inner_scope c)) t) n)
  statement_at k c (trees.do_loop node t e) n =
      let ts = declared_type node None ∷ of_statement declared_type its_type (inside_loop (inner_scope c)) t in
      statement_at k (inside_loop (inner_scope c)) t (each_left (StandsIn k.types) ts (of_nodes (its_type c) e) n).1
  statement_at k c (trees.for_loop node start e u t) n =
      let f = for_context c start in
      let t0 = declared_type node None ∷ of_start declared_type its_type (inner_scope c) start in
      let te = of_option declared_type its_type f e in
      let tu = of_option declared_type its_type f u in
      let ts = of_statement declared_type its_type (inside_loop (inner_scope f)) t in
      let rest = each_right (StandsIn k.types) t0 ((te ++ tu) ++ ts) n in
      both_at k (start_locals (inner_scope c) start) (statement_locals (inside_loop (inner_scope f)) t)
      (start_at k (inner_scope c) start (each_left (StandsIn k.types) t0 ((te ++ tu) ++ ts) n).1)
      (statement_at k (inside_loop (inner_scope f)) t (each_right (StandsIn k.types) (te ++ tu) ts rest))
  statement_at k c (trees.break node) n = tt
  statement_at k c (trees.continue node) n = tt
  statement_at k c (trees.return node e) n = tt

  pub statements_at : (k : Known) (c : Context) (ss : Stmts) → Each (StandsIn k.types) (of_statements declared_type its_type c ss) → LocalsAt k (statements_locals c ss)
  statements_at k c no_stmts n = tt
  statements_at k c (stmt_and t ts) n =
      let now = of_statement declared_type its_type c t in
      let later = of_statements declared_type its_type (after_statement c t) ts in
      both_at k (statement_locals c t) (statements_locals (after_statement c t) ts) (statement_at k c t (each_left (StandsIn k.types) now later n))
      (statements_at k (after_statement c t) ts (each_right (StandsIn k.types) now later n))

  else_at : (k : Known) (c : Context) (o : Else) → Each (StandsIn k.types) (of_else declared_type its_type c o) → LocalsAt k (else_locals c o)
  else_at k c no_else n = tt
  else_at k c (else_by t) n = statement_at k (inner_scope c) t n
