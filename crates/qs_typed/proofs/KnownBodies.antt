-- Lists by the numbers of nodes have what is known at each place of a body.
use Rattle.std.proofs.Common.{ℕ, false, List, [], ◌∷◌, ◌++◌, Option, Some, None}
use Rattle.qs_syntax.specs.declared.nodes.Node.{Node}
use Rattle.qs_syntax.specs.declared.types.Base.{Base}
use Rattle.qs_syntax.specs.Trees.{ExprTree, InitialiserTree, Initialisers, no_initialisers, initialiser_and, VariableTree, StartTree, no_start, start_expression, start_declaration, StmtTree, Stmts, no_stmts, stmt_and, Else, no_else, else_by}
use Rattle.qs_syntax.specs.Trees as trees
use Rattle.qs_types.specs.Types.{TypeTree}
use Rattle.qs_types.specs.Contexts.{Context, inner_scope, inside_loop, with_case}
use Rattle.qs_types.specs.Declarations.{variable_declared}
use Rattle.qs_types.specs.Expressions.{type_of}
use Rattle.qs_types.specs.StatementRules.{after_variable, after_variables, operand_type, switch_context, case_value, after_statement, after_start, for_context}
use Rattle.qs_types.specs.declared.referent.Referent.{Referent}
use Rattle.qs_types.specs.Referents.{referent_of}
use Rattle.qs_typing_findings.specs.ExprFindings.{node_of, of_nodes}
use Rattle.qs_typing_findings.specs.UnitNodes.{of_option, of_declarator, of_initialiser, of_initialisers, of_option_initialiser, of_variables, of_start, of_statement, of_statements, of_else}
use Rattle.qs_meaning.specs.Names.{Scope, within}
use Rattle.qs_meaning.specs.Statements.{behind_variable, inner, in_switch, loop_body, in_for}
use Rattle.qs_typed_nodes.specs.Known.{Known}
use Rattle.qs_typed_nodes.specs.Agrees.{ResultIs, ExpressionAt, OptionAt, InitialiserAt, InitialisersAt, InitialAt, VariablesAt, StartAt, StatementAt, StatementsAt, ElseAt}
use Rattle.qs_typed.proofs.KnownNodes.{Each, each_left, each_right, StandsIn, at_node, nodes_known}
use Rattle.qs_typed.proofs.InnerScopes.{Inside, inner_inside, loop_inside, switch_inside, case_inside, default_inside, local_inside}

-- ---- each node with its type, and with what its name stands for

abbrev pub Typing : Type 0
Typing = Node × Option TypeTree

abbrev pub Naming : Type 0
Naming = Node × Option Referent

abbrev pub declared_type : Node → Option TypeTree → Typing
declared_type node t = (node, t)

abbrev pub its_type : Context → ExprTree → Typing
its_type c e = (node_of e, type_of c e)

abbrev pub no_referent : Node → Option TypeTree → Naming
no_referent node t = (node, None)

abbrev pub its_referent : Context → ExprTree → Naming
its_referent c e = (node_of e, referent_of c e)

-- both lists stand by the numbers of the nodes
abbrev pub Stand : Known → List Typing → List Naming → Type 0
Stand k ts rs = Each (StandsIn k.types) ts × Each (StandsIn k.referents) rs

pub left : (k : Known) (ts us : List Typing) (rs ns : List Naming) → Stand k (ts ++ us) (rs ++ ns) → Stand k ts rs
left k ts us rs ns h = (each_left (StandsIn k.types) ts us h.0, each_left (StandsIn k.referents) rs ns h.1)

pub right : (k : Known) (ts us : List Typing) (rs ns : List Naming) → Stand k (ts ++ us) (rs ++ ns) → Stand k us ns
right k ts us rs ns h = (each_right (StandsIn k.types) ts us h.0, each_right (StandsIn k.referents) rs ns h.1)

-- ---- expressions

expression_at : (k : Known) (s : Scope) → Inside k s → (e : ExprTree) → Stand k (of_nodes (its_type s.context) e) (of_nodes (its_referent s.context) e) → ExpressionAt k s e
expression_at k s h e n = (h.agrees, (h.given, nodes_known k s.context e n.0 n.1))

option_at : (k : Known) (s : Scope) → Inside k s → (e : Option ExprTree) → Stand k (of_option declared_type its_type s.context e) (of_option no_referent its_referent s.context e) → OptionAt k s e
option_at k s h None n = tt
option_at k s h (Some e) n = expression_at k s h e n

mutual
  initialiser_at : (k : Known) (s : Scope) → Inside k s → (i : InitialiserTree) → Stand k (of_initialiser declared_type its_type s.context i) (of_initialiser no_referent its_referent s.context i)
      → InitialiserAt k s i
  initialiser_at k s h (trees.value e) n = expression_at k s h e n
  initialiser_at k s h (trees.list node is) n = initialisers_at k s h is (n.0.1, n.1.1)

  initialisers_at : (k : Known) (s : Scope) → Inside k s → (is : Initialisers) → Stand k (of_initialisers declared_type its_type s.context is) (of_initialisers no_referent its_referent s.context is)
      → InitialisersAt k s is
  initialisers_at k s h no_initialisers n = tt
  initialisers_at k s h (initialiser_and i is) n =
      let ti = of_initialiser declared_type its_type s.context i in
      let ri = of_initialiser no_referent its_referent s.context i in
      let tr = of_initialisers declared_type its_type s.context is in
      let rr = of_initialisers no_referent its_referent s.context is in
      (initialiser_at k s h i (left k ti tr ri rr n), initialisers_at k s h is (right k ti tr ri rr n))

initial_at : (k : Known) (s : Scope) → Inside k s → (i : Option InitialiserTree) → Stand k (of_option_initialiser declared_type its_type s.context i) (of_option_initialiser no_referent its_referent s.context i)
    → InitialAt k s i
initial_at k s h None n = tt
initial_at k s h (Some i) n = (h.agrees, initialiser_at k s h i n)

-- ---- declarations

variable_inside : (k : Known) (s : Scope) → Inside k s → (base : Base) (v : VariableTree) → Inside k (behind_variable s base v)
variable_inside k s h base v = local_inside k s v.declarator.name v.declarator.node.id (variable_declared s.context base v).type h

variables_at : (k : Known) (s : Scope) → Inside k s → (base : Base) (vs : List VariableTree)
    → Stand k (of_variables declared_type its_type false s.context base vs) (of_variables no_referent its_referent false s.context base vs) → VariablesAt k s base vs
variables_at k s h base [] n = tt
variables_at k s h base (v ∷ vs) n =
    let after = behind_variable s base v in
    let t = (variable_declared s.context base v).type in
    let td = of_declarator declared_type its_type s.context t v.declarator in
    let rd = of_declarator no_referent its_referent s.context t v.declarator in
    let ti = of_option_initialiser declared_type its_type after.context v.initialiser in
    let ri = of_option_initialiser no_referent its_referent after.context v.initialiser in
    let tr = of_variables declared_type its_type false after.context base vs in
    let rr = of_variables no_referent its_referent false after.context base vs in
    let inside : Inside k after = variable_inside k s h base v in
    let here = left k (td ++ ti) tr (rd ++ ri) rr n in
    let first = left k td ti rd ri here in (
      (at_node k.types v.declarator.node.id t first.0.0, initial_at k after inside v.initialiser (right k td ti rd ri here)),
      variables_at k after inside base vs (right k (td ++ ti) tr (rd ++ ri) rr n),
    )

variables_inside : (k : Known) (s : Scope) → Inside k s → (base : Base) (vs : List VariableTree) → Inside k (within s (after_variables false s.context base vs))
variables_inside k s h base [] = h
variables_inside k s h base (v ∷ vs) = variables_inside k (behind_variable s base v) (variable_inside k s h base v) base vs

start_at : (k : Known) (s : Scope) → Inside k s → (start : StartTree)
    → Stand k (of_start declared_type its_type s.context start) (of_start no_referent its_referent s.context start) → StartAt k s start
start_at k s h no_start n = tt
start_at k s h (start_expression e) n = expression_at k s h e n
start_at k s h (start_declaration t) n = variables_at k s h t.base t.variables n

start_inside : (k : Known) (s : Scope) → Inside k s → (start : StartTree) → Inside k (within s (after_start s.context start))
start_inside k s h no_start = h
start_inside k s h (start_expression e) = h
start_inside k s h (start_declaration d) = variables_inside k s h d.base d.variables

for_inside : (k : Known) (s : Scope) → Inside k s → (start : StartTree) → Inside k (in_for s start)
for_inside k s h start = start_inside k (inner s) (inner_inside k s h) start

loop_in : (k : Known) (s : Scope) → Inside k s → Inside k (loop_body s)
loop_in k s h = loop_inside k (inner s) (inner_inside k s h)

switch_in : (k : Known) (s : Scope) → Inside k s → (e : ExprTree) → Inside k (in_switch s e)
switch_in k s h e = switch_inside k (inner s) (operand_type (type_of s.context e)) (inner_inside k s h)

statement_inside : (k : Known) (s : Scope) → Inside k s → (t : StmtTree) → Inside k (within s (after_statement s.context t))
statement_inside k s h (trees.empty node) = h
statement_inside k s h (trees.expression node e) = h
statement_inside k s h (trees.declaration d) = variables_inside k s h d.base d.variables
statement_inside k s h (trees.block ss) = h
statement_inside k s h (trees.branch node e t r) = h
statement_inside k s h (trees.switch node e ts) = h
statement_inside k s h (trees.case_label node e) = case_inside k s (case_value s.context e) h
statement_inside k s h (trees.default_label node) = default_inside k s h
statement_inside k s h (trees.while_loop node e t) = h
statement_inside k s h (trees.do_loop node t e) = h
statement_inside k s h (trees.for_loop node start e u t) = h
statement_inside k s h (trees.break node) = h
statement_inside k s h (trees.continue node) = h
statement_inside k s h (trees.return node e) = h

-- ---- statements; the result is that of the function in every scope of its body

variables_result : (k : Known) (c : Context) (base : Base) (vs : List VariableTree) → ResultIs k c → ResultIs k (after_variables false c base vs)
variables_result k c base [] r = r
variables_result k c base (v ∷ vs) r = variables_result k (after_variable false c base v) base vs r

start_result : (k : Known) (c : Context) (start : StartTree) → ResultIs k c → ResultIs k (after_start c start)
start_result k c no_start r = r
start_result k c (start_expression e) r = r
start_result k c (start_declaration d) r = variables_result k c d.base d.variables r

case_result : (k : Known) (c : Context) (value : Option ℕ) → ResultIs k c → ResultIs k (with_case c value)
case_result k c None r = r
case_result k c (Some n) r = r

statement_result : (k : Known) (c : Context) (t : StmtTree) → ResultIs k c → ResultIs k (after_statement c t)
statement_result k c (trees.empty node) r = r
statement_result k c (trees.expression node e) r = r
statement_result k c (trees.declaration d) r = variables_result k c d.base d.variables r
statement_result k c (trees.block ss) r = r
statement_result k c (trees.branch node e t o) r = r
statement_result k c (trees.switch node e ts) r = r
statement_result k c (trees.case_label node e) r = case_result k c (case_value c e) r
statement_result k c (trees.default_label node) r = r
statement_result k c (trees.while_loop node e t) r = r
statement_result k c (trees.do_loop node t e) r = r
statement_result k c (trees.for_loop node start e u t) r = r
statement_result k c (trees.break node) r = r
statement_result k c (trees.continue node) r = r
statement_result k c (trees.return node e) r = r

abbrev types_in : Context → StmtTree → List Typing
types_in c t = of_statement declared_type its_type c t

abbrev names_in : Context → StmtTree → List Naming
names_in c t = of_statement no_referent its_referent c t

mutual
  pub statement_at : (k : Known) (s : Scope) → Inside k s → ResultIs k s.context → (t : StmtTree) → Stand k (types_in s.context t) (names_in s.context t)
      → StatementAt k s t
  statement_at k s h r (trees.empty node) n = tt
  statement_at k s h r (trees.expression node e) n = expression_at k s h e (n.0.1, n.1.1)
  statement_at k s h r (trees.declaration t) n = variables_at k s h t.base t.variables n
  statement_at k s h r (trees.block ss) n = statements_at k (inner s) (inner_inside k s h) r ss n
  statement_at k s h r (trees.branch node e t o) n =
      let c = s.context in
      let te = declared_type node None ∷ of_nodes (its_type c) e in
      let re = no_referent node None ∷ of_nodes (its_referent c) e in
      let tt_ = types_in (inner_scope c) t in
      let rt_ = names_in (inner_scope c) t in
      let rest = right k te (tt_ ++ of_else declared_type its_type c o) re (rt_ ++ of_else no_referent its_referent c o) n in
      let first = left k te (tt_ ++ of_else declared_type its_type c o) re (rt_ ++ of_else no_referent its_referent c o) n in (
        expression_at k s h e (first.0.1, first.1.1),
        (
          statement_at k (inner s) (inner_inside k s h) r t (left k tt_ (of_else declared_type its_type c o) rt_ (of_else no_referent its_referent c o) rest),
          else_at k s h r o (right k tt_ (of_else declared_type its_type c o) rt_ (of_else no_referent its_referent c o) rest),
        ),
      )
  statement_at k s h r (trees.switch node e ts) n =
      let c = s.context in
      let te = declared_type node None ∷ of_nodes (its_type c) e in
      let re = no_referent node None ∷ of_nodes (its_referent c) e in
      let items = of_statements declared_type its_type (switch_context c e) ts in
      let names = of_statements no_referent its_referent (switch_context c e) ts in
      let first = left k te items re names n in
      (expression_at k s h e (first.0.1, first.1.1), statements_at k (in_switch s e) (switch_in k s h e) r ts (right k te items re names n))
  statement_at k s h r (trees.case_label node e) n = h.agrees
  statement_at k s h r (trees.default_label node) n = tt
  statement_at k s h r (trees.while_loop node e t) n =
      let c = s.context in
      let te = declared_type node None ∷ of_nodes (its_type c) e in
      let re = no_referent node None ∷ of_nodes (its_referent c) e in
      let ts = types_in (inside_loop (inner_scope c)) t in
      let rs = names_in (inside_loop (inner_scope c)) t in
      let first = left k te ts re rs n in
      (expression_at k s h e (first.0.1, first.1.1), statement_at k (loop_body s) (loop_in k s h) r t (right k te ts re rs n))
  statement_at k s h r (trees.do_loop node t e) n =
      let c = s.context in
      let ts = declared_type node None ∷ types_in (inside_loop (inner_scope c)) t in
      let rs = no_referent node None ∷ names_in (inside_loop (inner_scope c)) t in
      let first = left k ts (of_nodes (its_type c) e) rs (of_nodes (its_referent c) e) n in (
        statement_at k (loop_body s) (loop_in k s h) r t (first.0.1, first.1.1),
        expression_at k s h e (right k ts (of_nodes (its_type c) e) rs (of_nodes (its_referent c) e) n),
      )
  statement_at k s h r (trees.for_loop node start e u t) n =
      let c = s.context in
      let f = for_context c start in
      let t0 = declared_type node None ∷ of_start declared_type its_type (inner_scope c) start in
      let r0 = no_referent node None ∷ of_start no_referent its_referent (inner_scope c) start in
      let te = of_option declared_type its_type f e in
      let re = of_option no_referent its_referent f e in
      let tu = of_option declared_type its_type f u in
      let ru = of_option no_referent its_referent f u in
      let ts = types_in (inside_loop (inner_scope f)) t in
      let rs = names_in (inside_loop (inner_scope f)) t in
      let rest = right k t0 ((te ++ tu) ++ ts) r0 ((re ++ ru) ++ rs) n in
      let both = left k (te ++ tu) ts (re ++ ru) rs rest in
      let inside : Inside k (in_for s start) = for_inside k s h start in
      let first = left k t0 ((te ++ tu) ++ ts) r0 ((re ++ ru) ++ rs) n in (
        start_at k (inner s) (inner_inside k s h) start (first.0.1, first.1.1),
        (
          option_at k (in_for s start) inside e (left k te tu re ru both),
          (
            option_at k (in_for s start) inside u (right k te tu re ru both),
            statement_at k (loop_body (in_for s start)) (loop_in k (in_for s start) inside) (start_result k (inner_scope c) start r) t (right k (te ++ tu) ts (re ++ ru) rs rest),
          ),
        ),
      )
  statement_at k s h r (trees.break node) n = tt
  statement_at k s h r (trees.continue node) n = tt
  statement_at k s h r (trees.return node e) n = (r, option_at k s h e (n.0.1, n.1.1))

  pub statements_at : (k : Known) (s : Scope) → Inside k s → ResultIs k s.context → (ss : Stmts)
      → Stand k (of_statements declared_type its_type s.context ss) (of_statements no_referent its_referent s.context ss) → StatementsAt k s ss
  statements_at k s h r no_stmts n = tt
  statements_at k s h r (stmt_and t ts) n =
      let c = s.context in
      let after = within s (after_statement c t) in
      let later = of_statements declared_type its_type (after_statement c t) ts in
      let names = of_statements no_referent its_referent (after_statement c t) ts in (
        statement_at k s h r t (left k (types_in c t) later (names_in c t) names n),
        statements_at k after (statement_inside k s h t) (statement_result k c t r) ts (right k (types_in c t) later (names_in c t) names n),
      )

  else_at : (k : Known) (s : Scope) → Inside k s → ResultIs k s.context → (o : Else)
      → Stand k (of_else declared_type its_type s.context o) (of_else no_referent its_referent s.context o) → ElseAt k s o
  else_at k s h r no_else n = tt
  else_at k s h r (else_by t) n = statement_at k (inner s) (inner_inside k s h) r t n
