-- Each type fault of a unit names one of its nodes, or none.
use Rattle.std.proofs.Common.{◌≡◌, ℕ, zero, suc, ◌+◌, ◌<◌, nat_lt, Bool, true, false, not, ◌&&◌, if◌then◌else◌, List, [], ◌∷◌, ◌++◌, length, map, flat_map, filter, Option, Some, None, is_some, slice_get, refl, ap, subst, ◌∙◌, arith}
use Rattle.std.proofs.lemmas.Bool.Decides.{nat_tests}
use Rattle.std.specs.Option.{option_or}
use Rattle.qs_syntax.specs.declared.nodes.Node.{Node}
use Rattle.qs_syntax.specs.declared.types.Base.{Base}
use Rattle.qs_syntax_vocabulary.specs.declared.terminal.Terminal.{Terminal}
use Rattle.qs_syntax.specs.Trees.{ExprTree, expr, ShapeTree, Exprs, no_exprs, expr_and, DeclaratorTree, InitialiserTree, value, list, Initialisers, no_initialisers, initialiser_and, VariableTree, ParameterTree, MembersTree, StartTree, no_start, start_expression, start_declaration, StmtTree, empty, expression, declaration, block, switch, case_label, default_label, branch, while_loop, do_loop, for_loop, break, continue, return, Stmts, no_stmts, stmt_and, Else, no_else, else_by, StructTree, DefinedTree, of_struct, of_base, TypedefTree, FunctionTree, DeclTree, structure, forward, typedef, function, variables, UnitTree}
use Rattle.qs_syntax.specs.Trees as trees
use Rattle.qs_syntax.specs.Nodes.{all_nodes, option_nodes, expr_nodes, shape_nodes, exprs_nodes, declarator_nodes, initialiser_nodes, initialisers_nodes, variable_nodes, declaration_nodes, parameter_nodes, members_nodes, start_nodes, stmt_nodes, stmts_nodes, else_nodes, struct_nodes, defined_nodes, typedef_nodes, function_nodes, decl_nodes, unit_nodes, unit_count}
use Rattle.qs_types.specs.Types.{TypeTree, Structs}
use Rattle.qs_types.specs.Rules.{Test, Fault, faults_of}
use Rattle.qs_types.specs.Contexts.{Context, start_context, inner_scope, inside_loop}
use Rattle.qs_types.specs.ExpressionFaults.{Position, used, discarded, whole, operand_position, assigned_position, object_position, right_position, own_tests, position_tests, node_faults, expr_faults, part_faults, all_faults}
use Rattle.qs_types.specs.Expressions.{type_of, shape_judged}
use Rattle.qs_types.specs.Declarations.{lengths_faults, variable_declared}
use Rattle.qs_types.specs.InitialiserRules.{list_tests, initialiser_faults, elements_faults, option_part}
use Rattle.qs_types.specs.StatementRules.{after_variable, after_statement, switch_context, for_context, variable_tests, option_initialiser_faults, variable_faults, variables_faults, condition_tests, condition_faults, option_used, option_discarded, return_tests, switch_tests, switch_faults, case_tests, default_tests, break_tests, continue_tests, for_tests, for_faults, start_faults, statement_faults, statements_faults, else_faults}
use Rattle.qs_types.specs.UnitRules.{Before, no_members, with_option_tag, after_member, after_together, member_tests, member_faults, together_faults, members_faults, struct_faults, is_option_defined, after_defined, defined_type, defined_faults, after_type_name, type_name_tests, type_name_faults, type_names_faults, typedef_faults, header_tests, parameter_tests, parameters_faults, after_parameter, parameter_types, body_context, body_faults, function_faults, after_declaration, declaration_faults, declarations_faults, faults_in, is_name_in}
use Rattle.qs_types.specs.declared.rules.Rule.TheVariants as rules
use Rattle.qs_types.specs.Rules.{test}
use Rattle.qs_types.specs.Sites.{Site, site, sites, option_sites, declarator_sites, declarators_sites, initialiser_sites, elements_sites, option_initialiser_sites, variable_sites, variables_sites, start_sites, statement_sites, statements_sites, else_sites, members_sites, defined_sites, type_names_sites, parameters_sites, body_sites, declaration_sites, declarations_sites, unit_sites}
use Rattle.qs_types.specs.References.{TextBlock, expr_texts, shape_texts, exprs_texts, site_texts, literal_blocks, unit_calls}
use Rattle.qs_types.specs.Placed.{Local, variables_locals, start_locals, statement_locals, statements_locals, else_locals, parameters_locals, locals_in, is_placed, addressed_in, placed_in}
use Rattle.qs_types.specs.WellTyped.{undefined_from, runs, first_undefined, has_main}
use Rattle.qs_types.specs.Limits.{node_limit, first_past_nodes, function_limit, header_past, first_past_functions, parameter_limit, node_of_parameter, first_past_parameters, Block, block_end, block_past, variables_blocks, variable_blocks_from, text_block, data_blocks, global_limit, first_past_globals, local_block, local_blocks, local_past, local_past_from, local_limit, first_past_locals}
use Rattle.qs_typing_findings.specs.Findings.{is_before, lesser, least_with}
use Rattle.qs_typing_findings.specs.Refusals.{limit_fault, rule_fault, main_fault, undefined_fault, early_refusal, late_refusal, first_refusal}
use Rattle.qs_types.specs.declared.limits.LimitKind.{LimitKind}
use Rattle.qs_types.specs.declared.limits.LimitKind.TheVariants as kinds
use Rattle.qs_typing_findings.specs.declared.type_fault.TypeFault.{TypeFault}
use Rattle.qs_parser.specs.Answers.{ReadsAs}
use Rattle.qs_driver_session.specs.Source.{node_of}
use Rattle.qs_driver_session.proofs.NodeTokens.{Each, each_both, all_ids_low}

-- ---- a property of the numbers of all nodes is one of the numbers that are told

module _ (P : ℕ → Type 0) where
  abbrev Known : List Node → Type 0
  Known ns = Each (λ (n : Node). P n.id) ns

  abbrev Told : List Fault → Type 0
  Told fs = Each (λ (f : Fault). P f.node) fs

  abbrev Maybe : Option ℕ → Type 0
  Maybe None = Unit {0}
  Maybe (Some n) = P n

  known_front : (ns ms : List Node) → Known (ns ++ ms) → Known ns
  known_front [] ms k = tt
  known_front (n ∷ ns) ms k = (k.0, known_front ns ms k.1)

  known_back : (ns ms : List Node) → Known (ns ++ ms) → Known ms
  known_back [] ms k = k
  known_back (n ∷ ns) ms k = known_back ns ms k.1

  told_both : (fs gs : List Fault) → Told fs → Told gs → Told (fs ++ gs)
  told_both fs gs h k = each_both (λ (f : Fault). P f.node) fs gs h k

  told_if : (b : Bool) (f : Fault) (fs : List Fault) → P f.node → Told fs → Told (if b then f ∷ fs else fs)
  told_if true f fs p h = (p, h)
  told_if false f fs p h = h

  own_told : (node : ℕ) (ts : List Test) → P node → Told (faults_of node ts)
  own_told node [] p = tt
  own_told node (t ∷ ts) p = told_if t.breaks (record { node = node; rule = t.rule }) (faults_of node ts) p (own_told node ts p)

  -- ---- expressions

  mutual
    expr_told : (c : Context) (p : Position) (e : ExprTree) → Known (expr_nodes e) → Told (expr_faults c p e)
    expr_told c p (expr node shape) k =
        told_both (node_faults c p node shape) (part_faults c p shape)
        (own_told node.id (own_tests (shape_judged c shape) ++ position_tests p shape (type_of c (expr node shape))) k.0) (part_told c p shape k.1)

    part_told : (c : Context) (p : Position) (s : ShapeTree) → Known (shape_nodes s) → Told (part_faults c p s)
    part_told c p (trees.constant n u) k = tt
    part_told c p (trees.text bytes) k = tt
    part_told c p (trees.name x) k = tt
    part_told c p (trees.unary operator a) k = expr_told c (operand_position operator) a k
    part_told c p (trees.step operator a) k = expr_told c used a k
    part_told c p (trees.cast n a) k = expr_told c used a k
    part_told c p (trees.sizeof_type n) k = tt
    part_told c p (trees.sizeof_expr a) k = expr_told c whole a k
    part_told c p (trees.binary operator a b) k =
        told_both (expr_faults c used a) (expr_faults c used b) (expr_told c used a (known_front (expr_nodes a) (expr_nodes b) k))
        (expr_told c used b (known_back (expr_nodes a) (expr_nodes b) k))
    part_told c p (trees.assign operator a b) k =
        told_both (expr_faults c (assigned_position operator) a) (expr_faults c (assigned_position operator) b) (expr_told c (assigned_position operator) a (known_front (expr_nodes a) (expr_nodes b) k))
        (expr_told c (assigned_position operator) b (known_back (expr_nodes a) (expr_nodes b) k))
    part_told c p (trees.conditional d a b) k =
        let rest = known_back (expr_nodes d) (expr_nodes a ++ expr_nodes b) k in
        told_both (expr_faults c used d) (expr_faults c used a ++ expr_faults c used b) (expr_told c used d (known_front (expr_nodes d) (expr_nodes a ++ expr_nodes b) k))
        (told_both (expr_faults c used a) (expr_faults c used b) (expr_told c used a (known_front (expr_nodes a) (expr_nodes b) rest))
        (expr_told c used b (known_back (expr_nodes a) (expr_nodes b) rest)))
    part_told c p (trees.comma a b) k =
        told_both (expr_faults c discarded a) (expr_faults c (right_position p) b) (expr_told c discarded a (known_front (expr_nodes a) (expr_nodes b) k))
        (expr_told c (right_position p) b (known_back (expr_nodes a) (expr_nodes b) k))
    part_told c p (trees.subscript a b) k =
        told_both (expr_faults c used a) (expr_faults c used b) (expr_told c used a (known_front (expr_nodes a) (expr_nodes b) k))
        (expr_told c used b (known_back (expr_nodes a) (expr_nodes b) k))
    part_told c p (trees.member access a x) k = expr_told c (object_position access) a k
    part_told c p (trees.call f es) k = all_told c es k

    all_told : (c : Context) (es : Exprs) → Known (exprs_nodes es) → Told (all_faults c es)
    all_told c no_exprs k = tt
    all_told c (expr_and e es) k =
        told_both (expr_faults c used e) (all_faults c es) (expr_told c used e (known_front (expr_nodes e) (exprs_nodes es) k)) (all_told c es (known_back (expr_nodes e) (exprs_nodes es) k))

  -- ---- declarations

  lengths_told : (c : Context) (es : List ExprTree) → Known (all_nodes expr_nodes es) → Told (lengths_faults c es)
  lengths_told c [] k = tt
  lengths_told c (e ∷ es) k =
      told_both (expr_faults c used e) (lengths_faults c es) (expr_told c used e (known_front (expr_nodes e) (all_nodes expr_nodes es) k))
      (lengths_told c es (known_back (expr_nodes e) (all_nodes expr_nodes es) k))

  mutual
    initialiser_told : (b : Bool) (c : Context) (t : Option TypeTree) (x : InitialiserTree) → Known (initialiser_nodes x) → Told (initialiser_faults b c t x)
    initialiser_told b c t (value e) k = expr_told c whole e k
    initialiser_told b c None (list node is) k = elements_told b c None 0 is k.1
    initialiser_told b c (Some t) (list node is) k =
        told_both (faults_of node.id (list_tests b c t is)) (elements_faults b c (Some t) 0 is) (own_told node.id (list_tests b c t is) k.0) (elements_told b c (Some t) 0 is k.1)

    elements_told : (b : Bool) (c : Context) (t : Option TypeTree) (i : ℕ) (is : Initialisers) → Known (initialisers_nodes is) → Told (elements_faults b c t i is)
    elements_told b c t i no_initialisers k = tt
    elements_told b c t i (initialiser_and x is) k =
        told_both (initialiser_faults b c (option_part c.structs t i) x) (elements_faults b c t (i + 1) is)
        (initialiser_told b c (option_part c.structs t i) x (known_front (initialiser_nodes x) (initialisers_nodes is) k))
        (elements_told b c t (i + 1) is (known_back (initialiser_nodes x) (initialisers_nodes is) k))

  option_initialiser_told : (b : Bool) (c : Context) (t : Option TypeTree) (x : Option InitialiserTree) → Known (option_nodes initialiser_nodes x) → Told (option_initialiser_faults b c t x)
  option_initialiser_told b c t None k = tt
  option_initialiser_told b c t (Some x) k = initialiser_told b c t x k

  variable_told : (b : Bool) (c after : Context) (base : Base) (v : VariableTree) → Known (variable_nodes v) → Told (variable_faults b c after base v)
  variable_told b c after base v k =
      let d = known_front (declarator_nodes v.declarator) (option_nodes initialiser_nodes v.initialiser) k in
      let i = known_back (declarator_nodes v.declarator) (option_nodes initialiser_nodes v.initialiser) k in
      told_both (faults_of v.declarator.node.id (variable_tests b c after base v))
      (lengths_faults c v.declarator.lengths.given ++ option_initialiser_faults b after (variable_declared c base v).type v.initialiser)
      (own_told v.declarator.node.id (variable_tests b c after base v) d.0)
      (told_both (lengths_faults c v.declarator.lengths.given) (option_initialiser_faults b after (variable_declared c base v).type v.initialiser)
      (lengths_told c v.declarator.lengths.given d.1) (option_initialiser_told b after (variable_declared c base v).type v.initialiser i))

  variables_told : (b : Bool) (c : Context) (base : Base) (vs : List VariableTree) → Known (all_nodes variable_nodes vs) → Told (variables_faults b c base vs)
  variables_told b c base [] k = tt
  variables_told b c base (v ∷ vs) k =
      told_both (variable_faults b c (after_variable b c base v) base v) (variables_faults b (after_variable b c base v) base vs)
      (variable_told b c (after_variable b c base v) base v (known_front (variable_nodes v) (all_nodes variable_nodes vs) k))
      (variables_told b (after_variable b c base v) base vs (known_back (variable_nodes v) (all_nodes variable_nodes vs) k))

  -- ---- statements

  used_told : (c : Context) (e : Option ExprTree) → Known (option_nodes expr_nodes e) → Told (option_used c e)
  used_told c None k = tt
  used_told c (Some e) k = expr_told c used e k

  discarded_told : (c : Context) (e : Option ExprTree) → Known (option_nodes expr_nodes e) → Told (option_discarded c e)
  discarded_told c None k = tt
  discarded_told c (Some e) k = expr_told c discarded e k

  condition_told : (c : Context) (node : Node) (e : ExprTree) → P node.id → Known (expr_nodes e) → Told (condition_faults c node e)
  condition_told c node e p k = told_both (faults_of node.id (condition_tests (type_of c e))) (expr_faults c used e) (own_told node.id (condition_tests (type_of c e)) p) (expr_told c used e k)

  start_told : (c : Context) (s : StartTree) → Known (start_nodes s) → Told (start_faults c s)
  start_told c no_start k = tt
  start_told c (start_expression e) k = expr_told c discarded e k
  start_told c (start_declaration d) k = variables_told false c d.base d.variables k

  for_told : (c : Context) (s : StartTree) (node : Node) (e u : Option ExprTree) → P node.id → Known (option_nodes expr_nodes e) → Known (option_nodes expr_nodes u) → Told (for_faults c s node e u)
  for_told c s node e u p h k =
      told_both (faults_of node.id (for_tests c s e u)) (option_used c e ++ option_discarded c u) (own_told node.id (for_tests c s e u) p)
      (told_both (option_used c e) (option_discarded c u) (used_told c e h) (discarded_told c u k))

  mutual
    statement_told : (c : Context) (s : StmtTree) → Known (stmt_nodes s) → Told (statement_faults c s)
    statement_told c (empty node) k = tt
    statement_told c (expression node e) k = expr_told c discarded e k.1
    statement_told c (declaration d) k = variables_told false c d.base d.variables k
    statement_told c (block ss) k = statements_told (inner_scope c) ss k
    statement_told c (switch node e ss) k =
        told_both (switch_faults c node e) (statements_faults (switch_context c e) ss)
        (told_both (faults_of node.id (switch_tests (type_of c e))) (expr_faults c used e) (own_told node.id (switch_tests (type_of c e)) k.0)
        (expr_told c used e (known_front (expr_nodes e) (stmts_nodes ss) k.1)))
        (statements_told (switch_context c e) ss (known_back (expr_nodes e) (stmts_nodes ss) k.1))
    statement_told c (case_label node e) k =
        told_both (faults_of node.id (case_tests c e)) (expr_faults c used e) (own_told node.id (case_tests c e) k.0) (expr_told c used e k.1)
    statement_told c (default_label node) k = own_told node.id (default_tests c) k.0
    statement_told c (branch node e s r) k =
        let rest = known_back (expr_nodes e) (stmt_nodes s ++ else_nodes r) k.1 in
        told_both (condition_faults c node e) (statement_faults (inner_scope c) s ++ else_faults c r)
        (condition_told c node e k.0 (known_front (expr_nodes e) (stmt_nodes s ++ else_nodes r) k.1))
        (told_both (statement_faults (inner_scope c) s) (else_faults c r)
        (statement_told (inner_scope c) s (known_front (stmt_nodes s) (else_nodes r) rest)) (else_told c r (known_back (stmt_nodes s) (else_nodes r) rest)))
    statement_told c (while_loop node e s) k =
        told_both (condition_faults c node e) (statement_faults (inside_loop (inner_scope c)) s)
        (condition_told c node e k.0 (known_front (expr_nodes e) (stmt_nodes s) k.1)) (statement_told (inside_loop (inner_scope c)) s (known_back (expr_nodes e) (stmt_nodes s) k.1))
    statement_told c (do_loop node s e) k =
        told_both (statement_faults (inside_loop (inner_scope c)) s) (condition_faults c node e)
        (statement_told (inside_loop (inner_scope c)) s (known_front (stmt_nodes s) (expr_nodes e) k.1)) (condition_told c node e k.0 (known_back (stmt_nodes s) (expr_nodes e) k.1))
    statement_told c (for_loop node a e u s) k =
        let after : Context = for_context c a in
        let i = known_back (start_nodes a) (option_nodes expr_nodes e ++ (option_nodes expr_nodes u ++ stmt_nodes s)) k.1 in
        let j = known_back (option_nodes expr_nodes e) (option_nodes expr_nodes u ++ stmt_nodes s) i in
        told_both (start_faults (inner_scope c) a) (for_faults after a node e u ++ statement_faults (inside_loop (inner_scope after)) s)
        (start_told (inner_scope c) a (known_front (start_nodes a) (option_nodes expr_nodes e ++ (option_nodes expr_nodes u ++ stmt_nodes s)) k.1))
        (told_both (for_faults after a node e u) (statement_faults (inside_loop (inner_scope after)) s)
        (for_told after a node e u k.0 (known_front (option_nodes expr_nodes e) (option_nodes expr_nodes u ++ stmt_nodes s) i) (known_front (option_nodes expr_nodes u) (stmt_nodes s) j))
        (statement_told (inside_loop (inner_scope after)) s (known_back (option_nodes expr_nodes u) (stmt_nodes s) j)))
    statement_told c (break node) k = own_told node.id (break_tests c) k.0
    statement_told c (continue node) k = own_told node.id (continue_tests c) k.0
    statement_told c (return node e) k = told_both (faults_of node.id (return_tests c c.result e)) (option_used c e) (own_told node.id (return_tests c c.result e) k.0) (used_told c e k.1)

    statements_told : (c : Context) (ss : Stmts) → Known (stmts_nodes ss) → Told (statements_faults c ss)
    statements_told c no_stmts k = tt
    statements_told c (stmt_and s ss) k =
        told_both (statement_faults c s) (statements_faults (after_statement c s) ss) (statement_told c s (known_front (stmt_nodes s) (stmts_nodes ss) k))
        (statements_told (after_statement c s) ss (known_back (stmt_nodes s) (stmts_nodes ss) k))

    else_told : (c : Context) (r : Else) → Known (else_nodes r) → Told (else_faults c r)
    else_told c no_else k = tt
    else_told c (else_by s) k = statement_told (inner_scope c) s k

  -- ---- file scope

  member_told : (c : Context) (before : Before) (base : Base) (d : DeclaratorTree) → Known (declarator_nodes d) → Told (member_faults c before base d)
  member_told c before base d k =
      told_both (faults_of d.node.id (member_tests c before base d)) (lengths_faults c d.lengths.given) (own_told d.node.id (member_tests c before base d) k.0) (lengths_told c d.lengths.given k.1)

  together_told : (c : Context) (before : Before) (base : Base) (ds : List DeclaratorTree) → Known (all_nodes declarator_nodes ds) → Told (together_faults c before base ds)
  together_told c before base [] k = tt
  together_told c before base (d ∷ ds) k =
      told_both (member_faults c before base d) (together_faults c (after_member c before base d) base ds)
      (member_told c before base d (known_front (declarator_nodes d) (all_nodes declarator_nodes ds) k))
      (together_told c (after_member c before base d) base ds (known_back (declarator_nodes d) (all_nodes declarator_nodes ds) k))

  members_told : (c : Context) (before : Before) (ms : List MembersTree) → Known (all_nodes members_nodes ms) → Told (members_faults c before ms)
  members_told c before [] k = tt
  members_told c before (m ∷ ms) k =
      told_both (together_faults c before m.base m.declarators) (members_faults c (after_together c before m.base m.declarators) ms)
      (together_told c before m.base m.declarators (known_front (members_nodes m) (all_nodes members_nodes ms) k))
      (members_told c (after_together c before m.base m.declarators) ms (known_back (members_nodes m) (all_nodes members_nodes ms) k))

  struct_told : (c : Context) (s : StructTree) → Known (struct_nodes s) → Told (struct_faults c s)
  struct_told c s k =
      told_both (faults_of s.node.id (test rules.UnknownTag (is_option_defined c s.name))) (members_faults (with_option_tag c s.name) no_members s.members)
      (own_told s.node.id (test rules.UnknownTag (is_option_defined c s.name)) k.0) (members_told (with_option_tag c s.name) no_members s.members k.1)

  defined_told : (c : Context) (d : DefinedTree) → Known (defined_nodes d) → Told (defined_faults c d)
  defined_told c (of_struct s) k = struct_told c s k
  defined_told c (of_base b) k = tt

  type_names_told : (c : Context) (base : Option TypeTree) (ds : List DeclaratorTree) → Known (all_nodes declarator_nodes ds) → Told (type_names_faults c base ds)
  type_names_told c base [] k = tt
  type_names_told c base (d ∷ ds) k =
      let here = known_front (declarator_nodes d) (all_nodes declarator_nodes ds) k in
      told_both (type_name_faults c base d) (type_names_faults (after_type_name c base d) base ds)
      (told_both (faults_of d.node.id (type_name_tests c base d)) (lengths_faults c d.lengths.given) (own_told d.node.id (type_name_tests c base d) here.0) (lengths_told c d.lengths.given here.1))
      (type_names_told (after_type_name c base d) base ds (known_back (declarator_nodes d) (all_nodes declarator_nodes ds) k))

  typedef_told : (c : Context) (t : TypedefTree) → Known (typedef_nodes t) → Told (typedef_faults c t)
  typedef_told c t k =
      told_both (defined_faults c t.defined) (type_names_faults (after_defined c t.defined) (defined_type c t.defined) t.names)
      (defined_told c t.defined (known_front (defined_nodes t.defined) (all_nodes declarator_nodes t.names) k))
      (type_names_told (after_defined c t.defined) (defined_type c t.defined) t.names (known_back (defined_nodes t.defined) (all_nodes declarator_nodes t.names) k))

  parameters_told : (c : Context) (b : Bool) (ps : List ParameterTree) → Known (all_nodes parameter_nodes ps) → Told (parameters_faults c b ps)
  parameters_told c b [] k = tt
  parameters_told c b (p ∷ ps) k =
      let here = known_front (parameter_nodes p) (all_nodes parameter_nodes ps) k in
      told_both (faults_of p.node.id (parameter_tests c b p) ++ lengths_faults c p.lengths.given) (parameters_faults (after_parameter c p) b ps)
      (told_both (faults_of p.node.id (parameter_tests c b p)) (lengths_faults c p.lengths.given) (own_told p.node.id (parameter_tests c b p) here.0) (lengths_told c p.lengths.given here.1))
      (parameters_told (after_parameter c p) b ps (known_back (parameter_nodes p) (all_nodes parameter_nodes ps) k))

  body_told : (c : Context) (f : FunctionTree) (body : Option Stmts) → Known (option_nodes stmts_nodes body) → Told (body_faults c f body)
  body_told c f None k = tt
  body_told c f (Some ss) k = statements_told (body_context c f) ss k

  function_told : (c : Context) (f : FunctionTree) → Known (function_nodes f) → Told (function_faults c f)
  function_told c f k =
      told_both (faults_of f.node.id (header_tests c f)) (parameters_faults (inner_scope c) (is_some f.body) f.parameters ++ body_faults c f f.body)
      (own_told f.node.id (header_tests c f) k.0)
      (told_both (parameters_faults (inner_scope c) (is_some f.body) f.parameters) (body_faults c f f.body)
      (parameters_told (inner_scope c) (is_some f.body) f.parameters (known_front (all_nodes parameter_nodes f.parameters) (option_nodes stmts_nodes f.body) k.1))
      (body_told c f f.body (known_back (all_nodes parameter_nodes f.parameters) (option_nodes stmts_nodes f.body) k.1)))

  declaration_told : (c : Context) (d : DeclTree) → Known (decl_nodes d) → Told (declaration_faults c d)
  declaration_told c (structure s) k = struct_told c s k
  declaration_told c (forward f) k = tt
  declaration_told c (typedef t) k = typedef_told c t k
  declaration_told c (function f) k = function_told c f k
  declaration_told c (variables d) k = variables_told true c d.base d.variables k

  declarations_told : (c : Context) (ds : UnitTree) → Known (unit_nodes ds) → Told (declarations_faults c ds)
  declarations_told c [] k = tt
  declarations_told c (d ∷ ds) k =
      told_both (declaration_faults c d) (declarations_faults (after_declaration c d) ds) (declaration_told c d (known_front (decl_nodes d) (unit_nodes ds) k))
      (declarations_told (after_declaration c d) ds (known_back (decl_nodes d) (unit_nodes ds) k))

  -- ---- the least fault

  abbrev MaybeTold : Option Fault → Type 0
  MaybeTold None = Unit {0}
  MaybeTold (Some f) = P f.node

  either : (b : Bool) (f g : Fault) → P f.node → P g.node → P (if b then f else g).node
  either true f g p q = p
  either false f g p q = q

  lesser_told : (g : Option Fault) (f : Fault) → MaybeTold g → P f.node → P (lesser g f).node
  lesser_told None f h p = p
  lesser_told (Some g) f h p = either (is_before f g) f g p h

  least_told : (g : Option Fault) (fs : List Fault) → MaybeTold g → Told fs → MaybeTold (least_with g fs)
  least_told g [] h k = h
  least_told g (f ∷ fs) h k = least_told (Some (lesser g f)) fs (lesser_told g f h k.0) k.1

  -- ---- headers and parameters

  maybe_if : (b : Bool) (x y : Option ℕ) → Maybe x → Maybe y → Maybe (if b then x else y)
  maybe_if true x y h k = h
  maybe_if false x y h k = k

  maybe_either : (x y : Option ℕ) → Maybe x → Maybe y → Maybe (option_or x y)
  maybe_either None y h k = k
  maybe_either (Some n) y h k = h

  header_known : (limit : ℕ) (names : List (List ℕ)) (ds : UnitTree) → Known (unit_nodes ds) → Maybe (header_past limit names ds)
  header_known limit names [] k = tt
  header_known limit names (structure s ∷ ds) k = header_known limit names ds (known_back (struct_nodes s) (unit_nodes ds) k)
  header_known limit names (forward f ∷ ds) k = header_known limit names ds k.1
  header_known limit names (typedef t ∷ ds) k = header_known limit names ds (known_back (typedef_nodes t) (unit_nodes ds) k)
  header_known limit names (function f ∷ ds) k =
      let rest = known_back (function_nodes f) (unit_nodes ds) k in
      maybe_if (is_name_in f.name names) (header_past limit names ds) (if nat_lt limit (length names + 1) then Some f.node.id else header_past limit (names ++ f.name ∷ []) ds)
      (header_known limit names ds rest)
      (maybe_if (nat_lt limit (length names + 1)) (Some f.node.id) (header_past limit (names ++ f.name ∷ []) ds) k.0 (header_known limit (names ++ f.name ∷ []) ds rest))
  header_known limit names (variables d ∷ ds) k = header_known limit names ds (known_back (declaration_nodes d) (unit_nodes ds) k)

  parameter_known : (ps : List ParameterTree) (i : ℕ) → Known (all_nodes parameter_nodes ps) → Maybe (node_of_parameter (slice_get ps i))
  parameter_known [] i k = tt
  parameter_known (p ∷ ps) zero k = k.0
  parameter_known (p ∷ ps) (suc i) k = parameter_known ps i (known_back (parameter_nodes p) (all_nodes parameter_nodes ps) k)

  parameters_known : (limit : List ℕ → ℕ) (ds : UnitTree) → Known (unit_nodes ds) → Maybe (first_past_parameters limit ds)
  parameters_known limit [] k = tt
  parameters_known limit (structure s ∷ ds) k = parameters_known limit ds (known_back (struct_nodes s) (unit_nodes ds) k)
  parameters_known limit (forward f ∷ ds) k = parameters_known limit ds k.1
  parameters_known limit (typedef t ∷ ds) k = parameters_known limit ds (known_back (typedef_nodes t) (unit_nodes ds) k)
  parameters_known limit (function f ∷ ds) k =
      let here = known_front (function_nodes f) (unit_nodes ds) k in
      maybe_either (node_of_parameter (slice_get f.parameters (limit f.name))) (first_past_parameters limit ds)
      (parameter_known f.parameters (limit f.name) (known_front (all_nodes parameter_nodes f.parameters) (option_nodes stmts_nodes f.body) here.1))
      (parameters_known limit ds (known_back (function_nodes f) (unit_nodes ds) k))
  parameters_known limit (variables d ∷ ds) k = parameters_known limit ds (known_back (declaration_nodes d) (unit_nodes ds) k)

  undefined_known : (runs : List ℕ → Bool) (called : List (List ℕ)) (ds : UnitTree) → Known (unit_nodes ds) → Maybe (undefined_from runs called ds)
  undefined_known runs called [] k = tt
  undefined_known runs called (structure s ∷ ds) k = undefined_known runs called ds (known_back (struct_nodes s) (unit_nodes ds) k)
  undefined_known runs called (forward f ∷ ds) k = undefined_known runs called ds k.1
  undefined_known runs called (typedef t ∷ ds) k = undefined_known runs called ds (known_back (typedef_nodes t) (unit_nodes ds) k)
  undefined_known runs called (function f ∷ ds) k =
      maybe_if (is_name_in f.name called && not (runs f.name)) (Some f.node.id) (undefined_from runs called ds) k.0 (undefined_known runs called ds (known_back (function_nodes f) (unit_nodes ds) k))
  undefined_known runs called (variables d ∷ ds) k = undefined_known runs called ds (known_back (declaration_nodes d) (unit_nodes ds) k)

  -- ---- blocks

  abbrev Blocks : List Block → Type 0
  Blocks bs = Each (λ (b : Block). P b.node) bs

  blocks_known : (limit end : ℕ) (bs : List Block) → Blocks bs → Maybe (block_past limit end bs)
  blocks_known limit end [] k = tt
  blocks_known limit end (b ∷ bs) k =
      maybe_if (nat_lt limit (block_end end b)) (Some b.node) (block_past limit (block_end end b) bs) k.0 (blocks_known limit (block_end end b) bs k.1)

  variables_blocks_known : (c : Context) (base : Base) (vs : List VariableTree) → Known (all_nodes variable_nodes vs) → Blocks (variables_blocks c base vs)
  variables_blocks_known c base [] k = tt
  variables_blocks_known c base (v ∷ vs) k = (k.0, variables_blocks_known (after_variable true c base v) base vs (known_back (variable_nodes v) (all_nodes variable_nodes vs) k))

  data_known : (c : Context) (ds : UnitTree) → Known (unit_nodes ds) → Blocks (variable_blocks_from c ds)
  data_known c [] k = tt
  data_known c (structure s ∷ ds) k = data_known (after_declaration c (structure s)) ds (known_back (struct_nodes s) (unit_nodes ds) k)
  data_known c (forward f ∷ ds) k = data_known (after_declaration c (forward f)) ds k.1
  data_known c (typedef t ∷ ds) k = data_known (after_declaration c (typedef t)) ds (known_back (typedef_nodes t) (unit_nodes ds) k)
  data_known c (function f ∷ ds) k = data_known (after_declaration c (function f)) ds (known_back (function_nodes f) (unit_nodes ds) k)
  data_known c (variables d ∷ ds) k =
      each_both (λ (b : Block). P b.node) (variables_blocks c d.base d.variables) (variable_blocks_from (after_declaration c (variables d)) ds)
      (variables_blocks_known c d.base d.variables (known_front (declaration_nodes d) (unit_nodes ds) k))
      (data_known (after_declaration c (variables d)) ds (known_back (declaration_nodes d) (unit_nodes ds) k))

  -- ---- texts

  abbrev Texts : List TextBlock → Type 0
  Texts ts = Each (λ (t : TextBlock). P t.node) ts

  texts_both : (ts us : List TextBlock) → Texts ts → Texts us → Texts (ts ++ us)
  texts_both ts us h k = each_both (λ (t : TextBlock). P t.node) ts us h k

  mutual
    expr_texts_known : (e : ExprTree) → Known (expr_nodes e) → Texts (expr_texts e)
    expr_texts_known (expr node shape) k = shape_texts_known node.id shape k.0 k.1

    shape_texts_known : (node : ℕ) (s : ShapeTree) → P node → Known (shape_nodes s) → Texts (shape_texts node s)
    shape_texts_known node (trees.constant n u) p k = tt
    shape_texts_known node (trees.text bytes) p k = (p, tt)
    shape_texts_known node (trees.name x) p k = tt
    shape_texts_known node (trees.unary operator a) p k = expr_texts_known a k
    shape_texts_known node (trees.step operator a) p k = expr_texts_known a k
    shape_texts_known node (trees.cast n a) p k = expr_texts_known a k
    shape_texts_known node (trees.sizeof_type n) p k = tt
    shape_texts_known node (trees.sizeof_expr a) p k = expr_texts_known a k
    shape_texts_known node (trees.binary operator a b) p k =
        texts_both (expr_texts a) (expr_texts b) (expr_texts_known a (known_front (expr_nodes a) (expr_nodes b) k))
        (expr_texts_known b (known_back (expr_nodes a) (expr_nodes b) k))
    shape_texts_known node (trees.assign operator a b) p k =
        texts_both (expr_texts a) (expr_texts b) (expr_texts_known a (known_front (expr_nodes a) (expr_nodes b) k))
        (expr_texts_known b (known_back (expr_nodes a) (expr_nodes b) k))
    shape_texts_known node (trees.conditional d a b) p k =
        let rest = known_back (expr_nodes d) (expr_nodes a ++ expr_nodes b) k in
        texts_both (expr_texts d) (expr_texts a ++ expr_texts b) (expr_texts_known d (known_front (expr_nodes d) (expr_nodes a ++ expr_nodes b) k))
        (texts_both (expr_texts a) (expr_texts b) (expr_texts_known a (known_front (expr_nodes a) (expr_nodes b) rest)) (expr_texts_known b (known_back (expr_nodes a) (expr_nodes b) rest)))
    shape_texts_known node (trees.comma a b) p k =
        texts_both (expr_texts a) (expr_texts b) (expr_texts_known a (known_front (expr_nodes a) (expr_nodes b) k))
        (expr_texts_known b (known_back (expr_nodes a) (expr_nodes b) k))
    shape_texts_known node (trees.subscript a b) p k =
        texts_both (expr_texts a) (expr_texts b) (expr_texts_known a (known_front (expr_nodes a) (expr_nodes b) k))
        (expr_texts_known b (known_back (expr_nodes a) (expr_nodes b) k))
    shape_texts_known node (trees.member access a x) p k = expr_texts_known a k
    shape_texts_known node (trees.call f es) p k = exprs_texts_known es k

    exprs_texts_known : (es : Exprs) → Known (exprs_nodes es) → Texts (exprs_texts es)
    exprs_texts_known no_exprs k = tt
    exprs_texts_known (expr_and e es) k =
        texts_both (expr_texts e) (exprs_texts es) (expr_texts_known e (known_front (expr_nodes e) (exprs_nodes es) k)) (exprs_texts_known es (known_back (expr_nodes e) (exprs_nodes es) k))

  -- ---- where expressions stand

  abbrev Placed : List Site → Type 0
  Placed ss = Each (λ (s : Site). Known (expr_nodes s.expression)) ss

  sites_both : (ss ts : List Site) → Placed ss → Placed ts → Placed (ss ++ ts)
  sites_both ss ts h k = each_both (λ (s : Site). Known (expr_nodes s.expression)) ss ts h k

  sites_known : (c : Context) (es : List ExprTree) → Known (all_nodes expr_nodes es) → Placed (sites c es)
  sites_known c [] k = tt
  sites_known c (e ∷ es) k = (known_front (expr_nodes e) (all_nodes expr_nodes es) k, sites_known c es (known_back (expr_nodes e) (all_nodes expr_nodes es) k))

  option_sites_known : (c : Context) (e : Option ExprTree) → Known (option_nodes expr_nodes e) → Placed (option_sites c e)
  option_sites_known c None k = tt
  option_sites_known c (Some e) k = (k, tt)

  declarators_sites_known : (c : Context) (ds : List DeclaratorTree) → Known (all_nodes declarator_nodes ds) → Placed (declarators_sites c ds)
  declarators_sites_known c [] k = tt
  declarators_sites_known c (d ∷ ds) k =
      sites_both (declarator_sites c d) (declarators_sites c ds) (sites_known c d.lengths.given (known_front (declarator_nodes d) (all_nodes declarator_nodes ds) k).1)
      (declarators_sites_known c ds (known_back (declarator_nodes d) (all_nodes declarator_nodes ds) k))

  mutual
    initialiser_sites_known : (b : Bool) (c : Context) (t : Option TypeTree) (x : InitialiserTree) → Known (initialiser_nodes x) → Placed (initialiser_sites b c t x)
    initialiser_sites_known b c t (value e) k = (k, tt)
    initialiser_sites_known b c t (list node is) k = elements_sites_known b c t 0 is k.1

    elements_sites_known : (b : Bool) (c : Context) (t : Option TypeTree) (i : ℕ) (is : Initialisers) → Known (initialisers_nodes is) → Placed (elements_sites b c t i is)
    elements_sites_known b c t i no_initialisers k = tt
    elements_sites_known b c t i (initialiser_and x is) k =
        sites_both (initialiser_sites b c (option_part c.structs t i) x) (elements_sites b c t (i + 1) is)
        (initialiser_sites_known b c (option_part c.structs t i) x (known_front (initialiser_nodes x) (initialisers_nodes is) k))
        (elements_sites_known b c t (i + 1) is (known_back (initialiser_nodes x) (initialisers_nodes is) k))

  option_initialiser_sites_known : (b : Bool) (c : Context) (t : Option TypeTree) (x : Option InitialiserTree) → Known (option_nodes initialiser_nodes x) → Placed (option_initialiser_sites b c t x)
  option_initialiser_sites_known b c t None k = tt
  option_initialiser_sites_known b c t (Some x) k = initialiser_sites_known b c t x k

  variables_sites_known : (b : Bool) (c : Context) (base : Base) (vs : List VariableTree) → Known (all_nodes variable_nodes vs) → Placed (variables_sites b c base vs)
  variables_sites_known b c base [] k = tt
  variables_sites_known b c base (v ∷ vs) k =
      let here = known_front (variable_nodes v) (all_nodes variable_nodes vs) k in
      sites_both (variable_sites b c (after_variable b c base v) base v) (variables_sites b (after_variable b c base v) base vs)
      (sites_both (declarator_sites c v.declarator) (option_initialiser_sites b (after_variable b c base v) (variable_declared c base v).type v.initialiser)
      (sites_known c v.declarator.lengths.given (known_front (declarator_nodes v.declarator) (option_nodes initialiser_nodes v.initialiser) here).1)
      (option_initialiser_sites_known b (after_variable b c base v) (variable_declared c base v).type v.initialiser (known_back (declarator_nodes v.declarator) (option_nodes initialiser_nodes v.initialiser) here)))
      (variables_sites_known b (after_variable b c base v) base vs (known_back (variable_nodes v) (all_nodes variable_nodes vs) k))

  start_sites_known : (c : Context) (s : StartTree) → Known (start_nodes s) → Placed (start_sites c s)
  start_sites_known c no_start k = tt
  start_sites_known c (start_expression e) k = (k, tt)
  start_sites_known c (start_declaration d) k = variables_sites_known false c d.base d.variables k

  mutual
    statement_sites_known : (c : Context) (s : StmtTree) → Known (stmt_nodes s) → Placed (statement_sites c s)
    statement_sites_known c (empty node) k = tt
    statement_sites_known c (expression node e) k = (k.1, tt)
    statement_sites_known c (declaration d) k = variables_sites_known false c d.base d.variables k
    statement_sites_known c (block ss) k = statements_sites_known (inner_scope c) ss k
    statement_sites_known c (switch node e ss) k =
        (known_front (expr_nodes e) (stmts_nodes ss) k.1, statements_sites_known (switch_context c e) ss (known_back (expr_nodes e) (stmts_nodes ss) k.1))
    statement_sites_known c (case_label node e) k = (k.1, tt)
    statement_sites_known c (default_label node) k = tt
    statement_sites_known c (branch node e s r) k =
        let rest = known_back (expr_nodes e) (stmt_nodes s ++ else_nodes r) k.1 in (
          known_front (expr_nodes e) (stmt_nodes s ++ else_nodes r) k.1,
          sites_both (statement_sites (inner_scope c) s) (else_sites c r) (statement_sites_known (inner_scope c) s (known_front (stmt_nodes s) (else_nodes r) rest))
              (else_sites_known c r (known_back (stmt_nodes s) (else_nodes r) rest)),
        )
    statement_sites_known c (while_loop node e s) k =
        (known_front (expr_nodes e) (stmt_nodes s) k.1, statement_sites_known (inside_loop (inner_scope c)) s (known_back (expr_nodes e) (stmt_nodes s) k.1))
    statement_sites_known c (do_loop node s e) k =
        sites_both (statement_sites (inside_loop (inner_scope c)) s) (site c e) (statement_sites_known (inside_loop (inner_scope c)) s (known_front (stmt_nodes s) (expr_nodes e) k.1))
        (known_back (stmt_nodes s) (expr_nodes e) k.1, tt)
    statement_sites_known c (for_loop node a e u s) k =
        let after : Context = for_context c a in
        let i = known_back (start_nodes a) (option_nodes expr_nodes e ++ (option_nodes expr_nodes u ++ stmt_nodes s)) k.1 in
        let j = known_back (option_nodes expr_nodes e) (option_nodes expr_nodes u ++ stmt_nodes s) i in
        sites_both (start_sites (inner_scope c) a) (option_sites after e ++ (option_sites after u ++ statement_sites (inside_loop (inner_scope after)) s))
        (start_sites_known (inner_scope c) a (known_front (start_nodes a) (option_nodes expr_nodes e ++ (option_nodes expr_nodes u ++ stmt_nodes s)) k.1))
        (sites_both (option_sites after e) (option_sites after u ++ statement_sites (inside_loop (inner_scope after)) s)
        (option_sites_known after e (known_front (option_nodes expr_nodes e) (option_nodes expr_nodes u ++ stmt_nodes s) i))
        (sites_both (option_sites after u) (statement_sites (inside_loop (inner_scope after)) s) (option_sites_known after u (known_front (option_nodes expr_nodes u) (stmt_nodes s) j))
        (statement_sites_known (inside_loop (inner_scope after)) s (known_back (option_nodes expr_nodes u) (stmt_nodes s) j))))
    statement_sites_known c (break node) k = tt
    statement_sites_known c (continue node) k = tt
    statement_sites_known c (return node e) k = option_sites_known c e k.1

    statements_sites_known : (c : Context) (ss : Stmts) → Known (stmts_nodes ss) → Placed (statements_sites c ss)
    statements_sites_known c no_stmts k = tt
    statements_sites_known c (stmt_and s ss) k =
        sites_both (statement_sites c s) (statements_sites (after_statement c s) ss) (statement_sites_known c s (known_front (stmt_nodes s) (stmts_nodes ss) k))
        (statements_sites_known (after_statement c s) ss (known_back (stmt_nodes s) (stmts_nodes ss) k))

    else_sites_known : (c : Context) (r : Else) → Known (else_nodes r) → Placed (else_sites c r)
    else_sites_known c no_else k = tt
    else_sites_known c (else_by s) k = statement_sites_known (inner_scope c) s k

  members_sites_known : (c : Context) (ms : List MembersTree) → Known (all_nodes members_nodes ms) → Placed (members_sites c ms)
  members_sites_known c [] k = tt
  members_sites_known c (m ∷ ms) k =
      sites_both (declarators_sites c m.declarators) (members_sites c ms) (declarators_sites_known c m.declarators (known_front (members_nodes m) (all_nodes members_nodes ms) k))
      (members_sites_known c ms (known_back (members_nodes m) (all_nodes members_nodes ms) k))

  defined_sites_known : (c : Context) (d : DefinedTree) → Known (defined_nodes d) → Placed (defined_sites c d)
  defined_sites_known c (of_struct s) k = members_sites_known (with_option_tag c s.name) s.members k.1
  defined_sites_known c (of_base b) k = tt

  type_names_sites_known : (c : Context) (base : Option TypeTree) (ds : List DeclaratorTree) → Known (all_nodes declarator_nodes ds) → Placed (type_names_sites c base ds)
  type_names_sites_known c base [] k = tt
  type_names_sites_known c base (d ∷ ds) k =
      sites_both (declarator_sites c d) (type_names_sites (after_type_name c base d) base ds)
      (sites_known c d.lengths.given (known_front (declarator_nodes d) (all_nodes declarator_nodes ds) k).1)
      (type_names_sites_known (after_type_name c base d) base ds (known_back (declarator_nodes d) (all_nodes declarator_nodes ds) k))

  parameters_sites_known : (c : Context) (ps : List ParameterTree) → Known (all_nodes parameter_nodes ps) → Placed (parameters_sites c ps)
  parameters_sites_known c [] k = tt
  parameters_sites_known c (p ∷ ps) k =
      sites_both (sites c p.lengths.given) (parameters_sites (after_parameter c p) ps) (sites_known c p.lengths.given (known_front (parameter_nodes p) (all_nodes parameter_nodes ps) k).1)
      (parameters_sites_known (after_parameter c p) ps (known_back (parameter_nodes p) (all_nodes parameter_nodes ps) k))

  body_sites_known : (c : Context) (f : FunctionTree) (body : Option Stmts) → Known (option_nodes stmts_nodes body) → Placed (body_sites c f body)
  body_sites_known c f None k = tt
  body_sites_known c f (Some ss) k = statements_sites_known (body_context c f) ss k

  declaration_sites_known : (c : Context) (d : DeclTree) → Known (decl_nodes d) → Placed (declaration_sites c d)
  declaration_sites_known c (structure s) k = members_sites_known (with_option_tag c s.name) s.members k.1
  declaration_sites_known c (forward f) k = tt
  declaration_sites_known c (typedef t) k =
      sites_both (defined_sites c t.defined) (type_names_sites (after_defined c t.defined) (defined_type c t.defined) t.names)
      (defined_sites_known c t.defined (known_front (defined_nodes t.defined) (all_nodes declarator_nodes t.names) k))
      (type_names_sites_known (after_defined c t.defined) (defined_type c t.defined) t.names (known_back (defined_nodes t.defined) (all_nodes declarator_nodes t.names) k))
  declaration_sites_known c (function f) k =
      sites_both (parameters_sites (inner_scope c) f.parameters) (body_sites c f f.body)
      (parameters_sites_known (inner_scope c) f.parameters (known_front (all_nodes parameter_nodes f.parameters) (option_nodes stmts_nodes f.body) k.1))
      (body_sites_known c f f.body (known_back (all_nodes parameter_nodes f.parameters) (option_nodes stmts_nodes f.body) k.1))
  declaration_sites_known c (variables d) k = variables_sites_known true c d.base d.variables k

  declarations_sites_known : (c : Context) (ds : UnitTree) → Known (unit_nodes ds) → Placed (declarations_sites c ds)
  declarations_sites_known c [] k = tt
  declarations_sites_known c (d ∷ ds) k =
      sites_both (declaration_sites c d) (declarations_sites (after_declaration c d) ds) (declaration_sites_known c d (known_front (decl_nodes d) (unit_nodes ds) k))
      (declarations_sites_known (after_declaration c d) ds (known_back (decl_nodes d) (unit_nodes ds) k))

  texts_if : (b : Bool) (ts : List TextBlock) → Texts ts → Texts (if b then [] else ts)
  texts_if true ts h = tt
  texts_if false ts h = h

  site_texts_known : (ss : List Site) → Placed ss → Texts (flat_map site_texts ss)
  site_texts_known [] k = tt
  site_texts_known (s ∷ ss) k = texts_both (site_texts s) (flat_map site_texts ss) (texts_if s.fills_array (expr_texts s.expression) (expr_texts_known s.expression k.0)) (site_texts_known ss k.1)

  text_blocks_known : (ts : List TextBlock) → Texts ts → Blocks (map text_block ts)
  text_blocks_known [] k = tt
  text_blocks_known (t ∷ ts) k = (k.0, text_blocks_known ts k.1)

  globals_known : (ds : UnitTree) → Known (unit_nodes ds) → Maybe (first_past_globals global_limit ds)
  globals_known ds k =
      blocks_known global_limit 0 (data_blocks ds)
      (each_both (λ (b : Block). P b.node) (variable_blocks_from start_context ds) (map text_block (literal_blocks ds)) (data_known start_context ds k)
      (text_blocks_known (literal_blocks ds) (site_texts_known (unit_sites ds) (declarations_sites_known start_context ds k))))

  -- ---- locals

  abbrev Locals : List Local → Type 0
  Locals ls = Each (λ (l : Local). P l.node) ls

  locals_both : (ls ms : List Local) → Locals ls → Locals ms → Locals (ls ++ ms)
  locals_both ls ms h k = each_both (λ (l : Local). P l.node) ls ms h k

  variables_locals_known : (c : Context) (base : Base) (vs : List VariableTree) → Known (all_nodes variable_nodes vs) → Locals (variables_locals c base vs)
  variables_locals_known c base [] k = tt
  variables_locals_known c base (v ∷ vs) k = (k.0, variables_locals_known (after_variable false c base v) base vs (known_back (variable_nodes v) (all_nodes variable_nodes vs) k))

  start_locals_known : (c : Context) (s : StartTree) → Known (start_nodes s) → Locals (start_locals c s)
  start_locals_known c no_start k = tt
  start_locals_known c (start_expression e) k = tt
  start_locals_known c (start_declaration d) k = variables_locals_known c d.base d.variables k

  mutual
    statement_locals_known : (c : Context) (s : StmtTree) → Known (stmt_nodes s) → Locals (statement_locals c s)
    statement_locals_known c (empty node) k = tt
    statement_locals_known c (expression node e) k = tt
    statement_locals_known c (declaration d) k = variables_locals_known c d.base d.variables k
    statement_locals_known c (block ss) k = statements_locals_known (inner_scope c) ss k
    statement_locals_known c (switch node e ss) k = statements_locals_known (switch_context c e) ss (known_back (expr_nodes e) (stmts_nodes ss) k.1)
    statement_locals_known c (case_label node e) k = tt
    statement_locals_known c (default_label node) k = tt
    statement_locals_known c (branch node e s r) k =
        let rest = known_back (expr_nodes e) (stmt_nodes s ++ else_nodes r) k.1 in
        locals_both (statement_locals (inner_scope c) s) (else_locals c r) (statement_locals_known (inner_scope c) s (known_front (stmt_nodes s) (else_nodes r) rest))
        (else_locals_known c r (known_back (stmt_nodes s) (else_nodes r) rest))
    statement_locals_known c (while_loop node e s) k = statement_locals_known (inside_loop (inner_scope c)) s (known_back (expr_nodes e) (stmt_nodes s) k.1)
    statement_locals_known c (do_loop node s e) k = statement_locals_known (inside_loop (inner_scope c)) s (known_front (stmt_nodes s) (expr_nodes e) k.1)
    statement_locals_known c (for_loop node a e u s) k =
        let i = known_back (start_nodes a) (option_nodes expr_nodes e ++ (option_nodes expr_nodes u ++ stmt_nodes s)) k.1 in
        let j = known_back (option_nodes expr_nodes e) (option_nodes expr_nodes u ++ stmt_nodes s) i in
        locals_both (start_locals (inner_scope c) a) (statement_locals (inside_loop (inner_scope (for_context c a))) s)
        (start_locals_known (inner_scope c) a (known_front (start_nodes a) (option_nodes expr_nodes e ++ (option_nodes expr_nodes u ++ stmt_nodes s)) k.1))
        (statement_locals_known (inside_loop (inner_scope (for_context c a))) s (known_back (option_nodes expr_nodes u) (stmt_nodes s) j))
    statement_locals_known c (break node) k = tt
    statement_locals_known c (continue node) k = tt
    statement_locals_known c (return node e) k = tt

    statements_locals_known : (c : Context) (ss : Stmts) → Known (stmts_nodes ss) → Locals (statements_locals c ss)
    statements_locals_known c no_stmts k = tt
    statements_locals_known c (stmt_and s ss) k =
        locals_both (statement_locals c s) (statements_locals (after_statement c s) ss) (statement_locals_known c s (known_front (stmt_nodes s) (stmts_nodes ss) k))
        (statements_locals_known (after_statement c s) ss (known_back (stmt_nodes s) (stmts_nodes ss) k))

    else_locals_known : (c : Context) (r : Else) → Known (else_nodes r) → Locals (else_locals c r)
    else_locals_known c no_else k = tt
    else_locals_known c (else_by s) k = statement_locals_known (inner_scope c) s k

  parameters_locals_known : (ps : List ParameterTree) (ts : List (Option TypeTree)) → Known (all_nodes parameter_nodes ps) → Locals (parameters_locals ps ts)
  parameters_locals_known [] ts k = tt
  parameters_locals_known (p ∷ ps) [] k = tt
  parameters_locals_known (p ∷ ps) (t ∷ ts) k = (k.0, parameters_locals_known ps ts (known_back (parameter_nodes p) (all_nodes parameter_nodes ps) k))

  locals_if : (b : Bool) (l : Local) (ls : List Local) → P l.node → Locals ls → Locals (if b then l ∷ ls else ls)
  locals_if true l ls p h = (p, h)
  locals_if false l ls p h = h

  filtered_known : (test : Local → Bool) (ls : List Local) → Locals ls → Locals (filter test ls)
  filtered_known test [] k = tt
  filtered_known test (l ∷ ls) k = locals_if (test l) l (filter test ls) k.0 (filtered_known test ls k.1)

  local_blocks_known : (structs : Structs) (ls : List Local) → Locals ls → Blocks (map (local_block structs) ls)
  local_blocks_known structs [] k = tt
  local_blocks_known structs (l ∷ ls) k = (k.0, local_blocks_known structs ls k.1)

  local_known : (limit : ℕ) (c : Context) (f : FunctionTree) (body : Option Stmts) → Known (all_nodes parameter_nodes f.parameters) → Known (option_nodes stmts_nodes body) → Maybe (local_past limit c f body)
  local_known limit c f None h k = tt
  local_known limit c f (Some ss) h k =
      blocks_known limit 0 (local_blocks c f ss)
      (local_blocks_known c.structs (placed_in c f ss)
      (filtered_known (is_placed (addressed_in c f ss)) (locals_in c f ss)
      (locals_both (parameters_locals f.parameters (parameter_types (inner_scope c) f.parameters)) (statements_locals (body_context c f) ss)
      (parameters_locals_known f.parameters (parameter_types (inner_scope c) f.parameters) h) (statements_locals_known (body_context c f) ss k))))

  locals_known : (limit : ℕ) (c : Context) (ds : UnitTree) → Known (unit_nodes ds) → Maybe (local_past_from limit c ds)
  locals_known limit c [] k = tt
  locals_known limit c (structure s ∷ ds) k = locals_known limit (after_declaration c (structure s)) ds (known_back (struct_nodes s) (unit_nodes ds) k)
  locals_known limit c (forward f ∷ ds) k = locals_known limit (after_declaration c (forward f)) ds k.1
  locals_known limit c (typedef t ∷ ds) k = locals_known limit (after_declaration c (typedef t)) ds (known_back (typedef_nodes t) (unit_nodes ds) k)
  locals_known limit c (function f ∷ ds) k =
      let here = known_front (function_nodes f) (unit_nodes ds) k in
      maybe_either (local_past limit c f f.body) (local_past_from limit (after_declaration c (function f)) ds)
      (local_known limit c f f.body (known_front (all_nodes parameter_nodes f.parameters) (option_nodes stmts_nodes f.body) here.1) (known_back (all_nodes parameter_nodes f.parameters) (option_nodes stmts_nodes f.body) here.1))
      (locals_known limit (after_declaration c (function f)) ds (known_back (function_nodes f) (unit_nodes ds) k))
  locals_known limit c (variables d ∷ ds) k = locals_known limit (after_declaration c (variables d)) ds (known_back (declaration_nodes d) (unit_nodes ds) k)

  -- ---- refusals

  abbrev Named : Option TypeFault → Type 0
  Named None = Unit {0}
  Named (Some f) = Maybe (node_of f)

  first_named : (f g : Option TypeFault) → Named f → Named g → Named (option_or f g)
  first_named None g h k = k
  first_named (Some f) g h k = h

  limit_named : (kind : LimitKind) (n : Option ℕ) → Maybe n → Named (limit_fault kind n)
  limit_named kind None h = tt
  limit_named kind (Some n) h = h

  rule_named : (f : Option Fault) → MaybeTold f → Named (rule_fault f)
  rule_named None h = tt
  rule_named (Some f) h = h

  main_named : (b : Bool) → Named (main_fault b)
  main_named true = tt
  main_named false = tt

  undefined_named : (n : Option ℕ) → Maybe n → Named (undefined_fault n)
  undefined_named None h = tt
  undefined_named (Some n) h = h

  -- where the property holds of the node that is one too many
  refusal_named : (ds : UnitTree) → Maybe (first_past_nodes node_limit ds) → Known (unit_nodes ds) → Named (first_refusal ds)
  refusal_named ds h k =
      first_named (early_refusal ds) (late_refusal ds)
      (first_named (limit_fault kinds.Nodes (first_past_nodes node_limit ds)) (option_or (limit_fault kinds.Functions (first_past_functions function_limit ds)) (limit_fault kinds.Parameters (first_past_parameters parameter_limit ds)))
      (limit_named kinds.Nodes (first_past_nodes node_limit ds) h)
      (first_named (limit_fault kinds.Functions (first_past_functions function_limit ds)) (limit_fault kinds.Parameters (first_past_parameters parameter_limit ds))
      (limit_named kinds.Functions (first_past_functions function_limit ds) (header_known function_limit [] ds k))
      (limit_named kinds.Parameters (first_past_parameters parameter_limit ds) (parameters_known parameter_limit ds k))))
      (first_named (rule_fault (least_with None (faults_in ds)))
      (option_or (main_fault (has_main ds)) (option_or (undefined_fault (first_undefined ds)) (option_or (limit_fault kinds.Globals (first_past_globals global_limit ds)) (limit_fault kinds.Locals (first_past_locals local_limit ds)))))
      (rule_named (least_with None (faults_in ds)) (least_told None (faults_in ds) tt (declarations_told start_context ds k)))
      (first_named (main_fault (has_main ds)) (option_or (undefined_fault (first_undefined ds)) (option_or (limit_fault kinds.Globals (first_past_globals global_limit ds)) (limit_fault kinds.Locals (first_past_locals local_limit ds))))
      (main_named (has_main ds))
      (first_named (undefined_fault (first_undefined ds)) (option_or (limit_fault kinds.Globals (first_past_globals global_limit ds)) (limit_fault kinds.Locals (first_past_locals local_limit ds)))
      (undefined_named (first_undefined ds) (undefined_known (runs ds) (unit_calls ds) ds k))
      (first_named (limit_fault kinds.Globals (first_past_globals global_limit ds)) (limit_fault kinds.Locals (first_past_locals local_limit ds))
      (limit_named kinds.Globals (first_past_globals global_limit ds) (globals_known ds k))
      (limit_named kinds.Locals (first_past_locals local_limit ds) (locals_known local_limit start_context ds k))))))

-- ---- what is named is a node of the unit

past_is_low : (limit count : ℕ) → Maybe (λ n. n < count) (if nat_lt limit count then Some limit else None)
past_is_low limit count = by (nat_lt limit count) refl
  where
    by : (b : Bool) → nat_lt limit count ≡ b → Maybe (λ n. n < count) (if b then Some limit else None)
    by true e = grind (arith, nat_tests)
    by false e = tt

named_low : (count : ℕ) (f : Option TypeFault) (fault : TypeFault) (number : ℕ) → Named (λ n. n < count) f → f ≡ Some fault → node_of fault ≡ Some number → number < count
named_low count None fault number h e names = absurd cc
named_low count (Some f) fault number h e names =
    let same : node_of f ≡ Some number = (let s : f ≡ fault = cc in ap node_of s) ∙ names in
    subst (λ (o : Option ℕ). Maybe (λ n. n < count) o) same h

pub named_is_low : (ls : List Terminal) (ds : UnitTree) (fault : TypeFault) (number : ℕ) → ReadsAs ls ds → first_refusal ds ≡ Some fault → node_of fault ≡ Some number → number < unit_count ds
named_is_low ls ds fault number r h names =
    named_low (unit_count ds) (first_refusal ds) fault number (refusal_named (λ n. n < unit_count ds) ds (past_is_low node_limit (unit_count ds)) (all_ids_low ls ds r)) h names
