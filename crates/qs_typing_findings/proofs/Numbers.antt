-- What stands in the order of the nodes of a unit stands by their numbers.
use Rattle.std.proofs.Common.{◌≡◌, ℕ, Bool, true, false, List, [], ◌∷◌, ◌++◌, Option, Some, None, map, option_map, length, refl, sym, ap, ◌∙◌, append_assoc}
use Rattle.std.specs.List.{slice_get}
use Rattle.std.proofs.lemmas.List.{map-append, length-map}
use Rattle.std.proofs.lemmas.Option.{slice_get-map}
use Rattle.qs_syntax.specs.declared.types.Base.{Base}
use Rattle.qs_syntax.specs.declared.nodes.Node.{Node}
use Rattle.qs_syntax.specs.Trees.{ExprTree, DeclaratorTree, InitialiserTree, value, list, Initialisers, no_initialisers, initialiser_and, VariableTree, ParameterTree, MembersTree, StartTree, no_start, start_expression, start_declaration, StmtTree, empty, expression, declaration, block, switch, case_label, default_label, branch, while_loop, do_loop, for_loop, break, continue, return, Stmts, no_stmts, stmt_and, Else, no_else, else_by, DefinedTree, of_struct, of_base, FunctionTree, DeclTree, structure, forward, typedef, function, variables, UnitTree}
use Rattle.qs_syntax.specs.Nodes.{all_nodes, option_nodes, expr_nodes, declarator_nodes, initialiser_nodes, initialisers_nodes, variable_nodes, parameter_nodes, members_nodes, start_nodes, stmt_nodes, stmts_nodes, else_nodes, defined_nodes, decl_nodes, unit_nodes}
use Rattle.qs_types.specs.Types.{TypeTree}
use Rattle.qs_types.specs.Contexts.{Context, start_context, inner_scope, inside_loop}
use Rattle.qs_types.specs.Declarations.{variable_declared, parameter_declared}
use Rattle.qs_types.specs.StatementRules.{after_variable, after_statement, switch_context, for_context}
use Rattle.qs_types.specs.UnitRules.{with_option_tag, after_defined, defined_type, after_type_name, after_parameter, body_context, after_declaration}
use Rattle.qs_typing_findings.specs.ExprFindings.{node_of, of_nodes}
use Rattle.qs_typing_findings.specs.UnitNodes.{of_option, of_lengths, of_declarator, of_declarators, of_initialiser, of_initialisers, of_option_initialiser, of_variables, of_start, of_statement, of_statements, of_else, of_members, of_defined, of_type_names, of_parameters, of_body, of_declaration, of_declarations, of_unit, with_nodes}
use Rattle.qs_typing_findings.proofs.FindingOrder.{expr_aligned, of_nodes-map}

-- ---- the nodes of a unit are those of which there is something

abbrev itself : Node → Option TypeTree → Node
itself node declared = node

abbrev own_node : Context → ExprTree → Node
own_node c e = node_of e

option_nodes_of : (c : Context) (e : Option ExprTree) → option_nodes expr_nodes e ≡ of_option itself own_node c e
option_nodes_of c None = refl
option_nodes_of c (Some e) = expr_aligned e

lengths_nodes_of : (c : Context) (es : List ExprTree) → all_nodes expr_nodes es ≡ of_lengths itself own_node c es
lengths_nodes_of c [] = refl
lengths_nodes_of c (e ∷ es) = λ i. expr_aligned e i ++ lengths_nodes_of c es i

declarator_nodes_of : (c : Context) (t : Option TypeTree) (d : DeclaratorTree) → declarator_nodes d ≡ of_declarator itself own_node c t d
declarator_nodes_of c t d = ap (λ ns. d.node ∷ ns) (lengths_nodes_of c d.lengths.given)

declarators_nodes_of : (c : Context) (ds : List DeclaratorTree) → all_nodes declarator_nodes ds ≡ of_declarators itself own_node c ds
declarators_nodes_of c [] = refl
declarators_nodes_of c (d ∷ ds) = λ i. declarator_nodes_of c None d i ++ declarators_nodes_of c ds i

mutual
  initialiser_nodes_of : (c : Context) (i : InitialiserTree) → initialiser_nodes i ≡ of_initialiser itself own_node c i
  initialiser_nodes_of c (value e) = expr_aligned e
  initialiser_nodes_of c (list node is) = ap (λ ns. node ∷ ns) (initialisers_nodes_of c is)

  initialisers_nodes_of : (c : Context) (is : Initialisers) → initialisers_nodes is ≡ of_initialisers itself own_node c is
  initialisers_nodes_of c no_initialisers = refl
  initialisers_nodes_of c (initialiser_and i is) = λ j. initialiser_nodes_of c i j ++ initialisers_nodes_of c is j

option_initialiser_nodes_of : (c : Context) (i : Option InitialiserTree) → option_nodes initialiser_nodes i ≡ of_option_initialiser itself own_node c i
option_initialiser_nodes_of c None = refl
option_initialiser_nodes_of c (Some i) = initialiser_nodes_of c i

variables_nodes_of : (at_file_scope : Bool) (c : Context) (base : Base) (vs : List VariableTree) → all_nodes variable_nodes vs ≡ of_variables itself own_node at_file_scope c base vs
variables_nodes_of at_file_scope c base [] = refl
variables_nodes_of at_file_scope c base (v ∷ vs) =
    λ i. (declarator_nodes_of c (variable_declared c base v).type v.declarator i ++ option_initialiser_nodes_of (after_variable at_file_scope c base v) v.initialiser i)
    ++ variables_nodes_of at_file_scope (after_variable at_file_scope c base v) base vs i

start_nodes_of : (c : Context) (start : StartTree) → start_nodes start ≡ of_start itself own_node c start
start_nodes_of c no_start = refl
start_nodes_of c (start_expression e) = expr_aligned e
start_nodes_of c (start_declaration d) = variables_nodes_of false c d.base d.variables

mutual
  statement_nodes_of : (c : Context) (s : StmtTree) → stmt_nodes s ≡ of_statement itself own_node c s
  statement_nodes_of c (empty node) = refl
  statement_nodes_of c (expression node e) = ap (λ ns. node ∷ ns) (expr_aligned e)
  statement_nodes_of c (declaration d) = variables_nodes_of false c d.base d.variables
  statement_nodes_of c (block ss) = statements_nodes_of (inner_scope c) ss
  statement_nodes_of c (switch node e ss) = λ i. node ∷ (expr_aligned e i ++ statements_nodes_of (switch_context c e) ss i)
  statement_nodes_of c (case_label node e) = ap (λ ns. node ∷ ns) (expr_aligned e)
  statement_nodes_of c (default_label node) = refl
  statement_nodes_of c (branch node e s r) = λ i. node ∷ (expr_aligned e i ++ (statement_nodes_of (inner_scope c) s i ++ else_nodes_of c r i))
  statement_nodes_of c (while_loop node e s) = λ i. node ∷ (expr_aligned e i ++ statement_nodes_of (inside_loop (inner_scope c)) s i)
  statement_nodes_of c (do_loop node s e) = λ i. node ∷ (statement_nodes_of (inside_loop (inner_scope c)) s i ++ expr_aligned e i)
  statement_nodes_of c (for_loop node start e u s) =
      (λ i. node ∷ (start_nodes_of (inner_scope c) start i
      ++ (option_nodes_of (for_context c start) e i ++ (option_nodes_of (for_context c start) u i ++ statement_nodes_of (inside_loop (inner_scope (for_context c start))) s i))))
      ∙ ap (λ ns. node ∷ (of_start itself own_node (inner_scope c) start ++ ns))
      (sym (append_assoc (of_option itself own_node (for_context c start) e) (of_option itself own_node (for_context c start) u)
      (of_statement itself own_node (inside_loop (inner_scope (for_context c start))) s)))
  statement_nodes_of c (break node) = refl
  statement_nodes_of c (continue node) = refl
  statement_nodes_of c (return node e) = ap (λ ns. node ∷ ns) (option_nodes_of c e)

  statements_nodes_of : (c : Context) (ss : Stmts) → stmts_nodes ss ≡ of_statements itself own_node c ss
  statements_nodes_of c no_stmts = refl
  statements_nodes_of c (stmt_and s ss) = λ i. statement_nodes_of c s i ++ statements_nodes_of (after_statement c s) ss i

  else_nodes_of : (c : Context) (r : Else) → else_nodes r ≡ of_else itself own_node c r
  else_nodes_of c no_else = refl
  else_nodes_of c (else_by s) = statement_nodes_of (inner_scope c) s

members_nodes_of : (c : Context) (ms : List MembersTree) → all_nodes members_nodes ms ≡ of_members itself own_node c ms
members_nodes_of c [] = refl
members_nodes_of c (m ∷ ms) = λ i. declarators_nodes_of c m.declarators i ++ members_nodes_of c ms i

defined_nodes_of : (c : Context) (d : DefinedTree) → defined_nodes d ≡ of_defined itself own_node c d
defined_nodes_of c (of_struct s) = ap (λ ns. s.node ∷ ns) (members_nodes_of (with_option_tag c s.name) s.members)
defined_nodes_of c (of_base b) = refl

type_names_nodes_of : (c : Context) (base : Option TypeTree) (ds : List DeclaratorTree) → all_nodes declarator_nodes ds ≡ of_type_names itself own_node c base ds
type_names_nodes_of c base [] = refl
type_names_nodes_of c base (d ∷ ds) = λ i. (d.node ∷ lengths_nodes_of c d.lengths.given i) ++ type_names_nodes_of (after_type_name c base d) base ds i

parameters_nodes_of : (c : Context) (ps : List ParameterTree) → all_nodes parameter_nodes ps ≡ of_parameters itself own_node c ps
parameters_nodes_of c [] = refl
parameters_nodes_of c (p ∷ ps) = λ i. (p.node ∷ lengths_nodes_of c p.lengths.given i) ++ parameters_nodes_of (after_parameter c p) ps i

body_nodes_of : (c : Context) (f : FunctionTree) (body : Option Stmts) → option_nodes stmts_nodes body ≡ of_body itself own_node c f body
body_nodes_of c f None = refl
body_nodes_of c f (Some ss) = statements_nodes_of (body_context c f) ss

declaration_nodes_of : (c : Context) (d : DeclTree) → decl_nodes d ≡ of_declaration itself own_node c d
declaration_nodes_of c (structure s) = ap (λ ns. s.node ∷ ns) (members_nodes_of (with_option_tag c s.name) s.members)
declaration_nodes_of c (forward f) = refl
declaration_nodes_of c (typedef t) = λ i. defined_nodes_of c t.defined i ++ type_names_nodes_of (after_defined c t.defined) (defined_type c t.defined) t.names i
declaration_nodes_of c (function f) = λ i. f.node ∷ (parameters_nodes_of (inner_scope c) f.parameters i ++ body_nodes_of c f f.body i)
declaration_nodes_of c (variables d) = variables_nodes_of true c d.base d.variables

declarations_nodes_of : (c : Context) (ds : UnitTree) → all_nodes decl_nodes ds ≡ of_declarations itself own_node c ds
declarations_nodes_of c [] = refl
declarations_nodes_of c (d ∷ ds) = λ i. declaration_nodes_of c d i ++ declarations_nodes_of (after_declaration c d) ds i

pub unit_nodes_of : (unit : UnitTree) → unit_nodes unit ≡ of_unit itself own_node unit
unit_nodes_of unit = declarations_nodes_of start_context unit

-- ---- something of something of each node

module _ {A B : Type 0} (f : A → B) (at : Node → Option TypeTree → A) (of : Context → ExprTree → A) where
  abbrev at_f : Node → Option TypeTree → B
  at_f node declared = f (at node declared)

  abbrev of_f : Context → ExprTree → B
  of_f c e = f (of c e)

  both : (xs ys : List A) (us vs : List B) → map f xs ≡ us → map f ys ≡ vs → map f (xs ++ ys) ≡ us ++ vs
  both xs ys us vs p q = map-append f xs ys ∙ (λ i. p i ++ q i)

  option_map_of : (c : Context) (e : Option ExprTree) → map f (of_option at of c e) ≡ of_option at_f of_f c e
  option_map_of c None = refl
  option_map_of c (Some e) = of_nodes-map (of c) f e

  lengths_map : (c : Context) (es : List ExprTree) → map f (of_lengths at of c es) ≡ of_lengths at_f of_f c es
  lengths_map c [] = refl
  lengths_map c (e ∷ es) = both (of_nodes (of c) e) (of_lengths at of c es) (of_nodes (of_f c) e) (of_lengths at_f of_f c es) (of_nodes-map (of c) f e) (lengths_map c es)

  declarator_map : (c : Context) (t : Option TypeTree) (d : DeclaratorTree) → map f (of_declarator at of c t d) ≡ of_declarator at_f of_f c t d
  declarator_map c t d = ap (λ l. at_f d.node t ∷ l) (lengths_map c d.lengths.given)

  declarators_map : (c : Context) (ds : List DeclaratorTree) → map f (of_declarators at of c ds) ≡ of_declarators at_f of_f c ds
  declarators_map c [] = refl
  declarators_map c (d ∷ ds) = both (of_declarator at of c None d) (of_declarators at of c ds) (of_declarator at_f of_f c None d) (of_declarators at_f of_f c ds) (declarator_map c None d) (declarators_map c ds)

  mutual
    initialiser_map : (c : Context) (i : InitialiserTree) → map f (of_initialiser at of c i) ≡ of_initialiser at_f of_f c i
    initialiser_map c (value e) = of_nodes-map (of c) f e
    initialiser_map c (list node is) = ap (λ l. at_f node None ∷ l) (initialisers_map c is)

    initialisers_map : (c : Context) (is : Initialisers) → map f (of_initialisers at of c is) ≡ of_initialisers at_f of_f c is
    initialisers_map c no_initialisers = refl
    initialisers_map c (initialiser_and i is) =
        both (of_initialiser at of c i) (of_initialisers at of c is) (of_initialiser at_f of_f c i) (of_initialisers at_f of_f c is) (initialiser_map c i) (initialisers_map c is)

  option_initialiser_map : (c : Context) (i : Option InitialiserTree) → map f (of_option_initialiser at of c i) ≡ of_option_initialiser at_f of_f c i
  option_initialiser_map c None = refl
  option_initialiser_map c (Some i) = initialiser_map c i

  variables_map : (at_file_scope : Bool) (c : Context) (base : Base) (vs : List VariableTree) → map f (of_variables at of at_file_scope c base vs) ≡ of_variables at_f of_f at_file_scope c base vs
  variables_map at_file_scope c base [] = refl
  variables_map at_file_scope c base (v ∷ vs) =
      let after = after_variable at_file_scope c base v in
      let declared = (variable_declared c base v).type in
      both (of_declarator at of c declared v.declarator ++ of_option_initialiser at of after v.initialiser) (of_variables at of at_file_scope after base vs)
      (of_declarator at_f of_f c declared v.declarator ++ of_option_initialiser at_f of_f after v.initialiser) (of_variables at_f of_f at_file_scope after base vs)
      (both (of_declarator at of c declared v.declarator) (of_option_initialiser at of after v.initialiser) (of_declarator at_f of_f c declared v.declarator) (of_option_initialiser at_f of_f after v.initialiser)
      (declarator_map c declared v.declarator) (option_initialiser_map after v.initialiser))
      (variables_map at_file_scope after base vs)

  start_map : (c : Context) (start : StartTree) → map f (of_start at of c start) ≡ of_start at_f of_f c start
  start_map c no_start = refl
  start_map c (start_expression e) = of_nodes-map (of c) f e
  start_map c (start_declaration d) = variables_map false c d.base d.variables

  mutual
    statement_map : (c : Context) (s : StmtTree) → map f (of_statement at of c s) ≡ of_statement at_f of_f c s
    statement_map c (empty node) = refl
    statement_map c (expression node e) = ap (λ l. at_f node None ∷ l) (of_nodes-map (of c) f e)
    statement_map c (declaration d) = variables_map false c d.base d.variables
    statement_map c (block ss) = statements_map (inner_scope c) ss
    statement_map c (switch node e ss) =
        both (at node None ∷ of_nodes (of c) e) (of_statements at of (switch_context c e) ss) (at_f node None ∷ of_nodes (of_f c) e) (of_statements at_f of_f (switch_context c e) ss)
        (ap (λ l. at_f node None ∷ l) (of_nodes-map (of c) f e)) (statements_map (switch_context c e) ss)
    statement_map c (case_label node e) = ap (λ l. at_f node None ∷ l) (of_nodes-map (of c) f e)
    statement_map c (default_label node) = refl
    statement_map c (branch node e s r) =
        both (at node None ∷ of_nodes (of c) e) (of_statement at of (inner_scope c) s ++ of_else at of c r)
        (at_f node None ∷ of_nodes (of_f c) e) (of_statement at_f of_f (inner_scope c) s ++ of_else at_f of_f c r)
        (ap (λ l. at_f node None ∷ l) (of_nodes-map (of c) f e))
        (both (of_statement at of (inner_scope c) s) (of_else at of c r) (of_statement at_f of_f (inner_scope c) s) (of_else at_f of_f c r) (statement_map (inner_scope c) s) (else_map c r))
    statement_map c (while_loop node e s) =
        both (at node None ∷ of_nodes (of c) e) (of_statement at of (inside_loop (inner_scope c)) s) (at_f node None ∷ of_nodes (of_f c) e) (of_statement at_f of_f (inside_loop (inner_scope c)) s)
        (ap (λ l. at_f node None ∷ l) (of_nodes-map (of c) f e)) (statement_map (inside_loop (inner_scope c)) s)
    statement_map c (do_loop node s e) =
        both (at node None ∷ of_statement at of (inside_loop (inner_scope c)) s) (of_nodes (of c) e) (at_f node None ∷ of_statement at_f of_f (inside_loop (inner_scope c)) s) (of_nodes (of_f c) e)
        (ap (λ l. at_f node None ∷ l) (statement_map (inside_loop (inner_scope c)) s)) (of_nodes-map (of c) f e)
    statement_map c (for_loop node start e u s) =
        let known = for_context c start in
        let body = inside_loop (inner_scope known) in
        both (at node None ∷ of_start at of (inner_scope c) start) ((of_option at of known e ++ of_option at of known u) ++ of_statement at of body s)
        (at_f node None ∷ of_start at_f of_f (inner_scope c) start) ((of_option at_f of_f known e ++ of_option at_f of_f known u) ++ of_statement at_f of_f body s)
        (ap (λ l. at_f node None ∷ l) (start_map (inner_scope c) start))
        (both (of_option at of known e ++ of_option at of known u) (of_statement at of body s) (of_option at_f of_f known e ++ of_option at_f of_f known u) (of_statement at_f of_f body s)
        (both (of_option at of known e) (of_option at of known u) (of_option at_f of_f known e) (of_option at_f of_f known u) (option_map_of known e) (option_map_of known u))
        (statement_map body s))
    statement_map c (break node) = refl
    statement_map c (continue node) = refl
    statement_map c (return node e) = ap (λ l. at_f node None ∷ l) (option_map_of c e)

    statements_map : (c : Context) (ss : Stmts) → map f (of_statements at of c ss) ≡ of_statements at_f of_f c ss
    statements_map c no_stmts = refl
    statements_map c (stmt_and s ss) =
        both (of_statement at of c s) (of_statements at of (after_statement c s) ss) (of_statement at_f of_f c s) (of_statements at_f of_f (after_statement c s) ss)
        (statement_map c s) (statements_map (after_statement c s) ss)

    else_map : (c : Context) (r : Else) → map f (of_else at of c r) ≡ of_else at_f of_f c r
    else_map c no_else = refl
    else_map c (else_by s) = statement_map (inner_scope c) s

  members_map : (c : Context) (ms : List MembersTree) → map f (of_members at of c ms) ≡ of_members at_f of_f c ms
  members_map c [] = refl
  members_map c (m ∷ ms) = both (of_declarators at of c m.declarators) (of_members at of c ms) (of_declarators at_f of_f c m.declarators) (of_members at_f of_f c ms) (declarators_map c m.declarators) (members_map c ms)

  defined_map : (c : Context) (d : DefinedTree) → map f (of_defined at of c d) ≡ of_defined at_f of_f c d
  defined_map c (of_struct s) = ap (λ l. at_f s.node None ∷ l) (members_map (with_option_tag c s.name) s.members)
  defined_map c (of_base b) = refl

  type_names_map : (c : Context) (base : Option TypeTree) (ds : List DeclaratorTree) → map f (of_type_names at of c base ds) ≡ of_type_names at_f of_f c base ds
  type_names_map c base [] = refl
  type_names_map c base (d ∷ ds) =
      let after = after_type_name c base d in
      both (of_declarator at of c None d) (of_type_names at of after base ds) (of_declarator at_f of_f c None d) (of_type_names at_f of_f after base ds) (declarator_map c None d) (type_names_map after base ds)

  parameters_map : (c : Context) (ps : List ParameterTree) → map f (of_parameters at of c ps) ≡ of_parameters at_f of_f c ps
  parameters_map c [] = refl
  parameters_map c (p ∷ ps) =
      let declared = (parameter_declared c p).type in
      both (at p.node declared ∷ of_lengths at of c p.lengths.given) (of_parameters at of (after_parameter c p) ps) (at_f p.node declared ∷ of_lengths at_f of_f c p.lengths.given) (of_parameters at_f of_f (after_parameter c p) ps)
      (ap (λ l. at_f p.node declared ∷ l) (lengths_map c p.lengths.given)) (parameters_map (after_parameter c p) ps)

  body_map : (c : Context) (g : FunctionTree) (body : Option Stmts) → map f (of_body at of c g body) ≡ of_body at_f of_f c g body
  body_map c g None = refl
  body_map c g (Some ss) = statements_map (body_context c g) ss

  declaration_map : (c : Context) (d : DeclTree) → map f (of_declaration at of c d) ≡ of_declaration at_f of_f c d
  declaration_map c (structure s) = ap (λ l. at_f s.node None ∷ l) (members_map (with_option_tag c s.name) s.members)
  declaration_map c (forward g) = refl
  declaration_map c (typedef t) =
      let after = after_defined c t.defined in
      let base = defined_type c t.defined in
      both (of_defined at of c t.defined) (of_type_names at of after base t.names) (of_defined at_f of_f c t.defined) (of_type_names at_f of_f after base t.names)
      (defined_map c t.defined) (type_names_map after base t.names)
  declaration_map c (function g) =
      both (at g.node None ∷ of_parameters at of (inner_scope c) g.parameters) (of_body at of c g g.body) (at_f g.node None ∷ of_parameters at_f of_f (inner_scope c) g.parameters) (of_body at_f of_f c g g.body)
      (ap (λ l. at_f g.node None ∷ l) (parameters_map (inner_scope c) g.parameters)) (body_map c g g.body)
  declaration_map c (variables d) = variables_map true c d.base d.variables

  declarations_map : (c : Context) (ds : UnitTree) → map f (of_declarations at of c ds) ≡ of_declarations at_f of_f c ds
  declarations_map c [] = refl
  declarations_map c (d ∷ ds) =
      both (of_declaration at of c d) (of_declarations at of (after_declaration c d) ds) (of_declaration at_f of_f c d) (of_declarations at_f of_f (after_declaration c d) ds)
      (declaration_map c d) (declarations_map (after_declaration c d) ds)

  pub unit_map : (unit : UnitTree) → map f (of_unit at of unit) ≡ of_unit at_f of_f unit
  unit_map unit = declarations_map start_context unit

-- ---- each node has one place in both lists

pub nodes_of_both : {A : Type 0} (at : Node → Option TypeTree → A) (of : Context → ExprTree → A) (unit : UnitTree) → map (λ p. p.0) (with_nodes at of unit) ≡ unit_nodes unit
nodes_of_both at of unit = unit_map (λ p. p.0) (λ node declared. (node, at node declared)) (λ c e. (node_of e, of c e)) unit ∙ sym (unit_nodes_of unit)

pub values_of_both : {A : Type 0} (at : Node → Option TypeTree → A) (of : Context → ExprTree → A) (unit : UnitTree) → map (λ p. p.1) (with_nodes at of unit) ≡ of_unit at of unit
values_of_both at of unit = unit_map (λ p. p.1) (λ node declared. (node, at node declared)) (λ c e. (node_of e, of c e)) unit

pub as_many : {A : Type 0} (at : Node → Option TypeTree → A) (of : Context → ExprTree → A) (unit : UnitTree) → length (of_unit at of unit) ≡ length (unit_nodes unit)
as_many at of unit =
    let both = with_nodes at of unit in
    ap length (sym (values_of_both at of unit)) ∙ length-map both (λ p. p.1) ∙ sym (length-map both (λ p. p.0)) ∙ ap length (nodes_of_both at of unit)

-- what stands at the place of a node is what there is of it
pub at_place : {A : Type 0} (at : Node → Option TypeTree → A) (of : Context → ExprTree → A) (unit : UnitTree) (i : ℕ) (node : Node) (x : A) → slice_get (with_nodes at of unit) i ≡ Some (node, x)
    → (slice_get (unit_nodes unit) i ≡ Some node) × (slice_get (of_unit at of unit) i ≡ Some x)
at_place at of unit i node x e =
    let both = with_nodes at of unit in (
      ap (λ l. slice_get l i) (sym (nodes_of_both at of unit)) ∙ slice_get-map (λ p. p.0) both i ∙ ap (option_map (λ p. p.0)) e,
      ap (λ l. slice_get l i) (sym (values_of_both at of unit)) ∙ slice_get-map (λ p. p.1) both i ∙ ap (option_map (λ p. p.1)) e,
    )
