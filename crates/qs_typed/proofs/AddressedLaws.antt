-- The operands of `&` that are found by the nodes of a body are those of the definition.
use Rattle.std.proofs.Common.{◌≡◌, ℕ, ◌+◌, Bool, true, false, List, [], ◌∷◌, ◌++◌, Option, Some, None, refl, sym, ap, ◌∙◌, if◌then◌else◌, append-nil}
use Rattle.std.specs.List.{flat_map}
use Rattle.std.proofs.lemmas.List.Concat.{flat_map-append}
use Rattle.qs_base.specs.Bytes.{same_bytes}
use Rattle.qs_syntax.specs.declared.types.Base.{Base}
use Rattle.qs_syntax.specs.Trees.{ExprTree, expr, ShapeTree, Exprs, no_exprs, expr_and, InitialiserTree, Initialisers, no_initialisers, initialiser_and, VariableTree, StartTree, no_start, start_expression, start_declaration, StmtTree, Stmts, no_stmts, stmt_and, Else, no_else, else_by}
use Rattle.qs_syntax.specs.Trees as trees
use Rattle.qs_types.specs.Types.{TypeTree}
use Rattle.qs_types.specs.GivenFunctions.{putchar_name}
use Rattle.qs_types.specs.Contexts.{Context, Entity, local_variable, file_variable, function, given, entity_of, inner_scope, inside_loop}
use Rattle.qs_types.specs.Declarations.{variable_declared}
use Rattle.qs_types.specs.InitialiserRules.{option_part}
use Rattle.qs_types.specs.StatementRules.{after_variable, switch_context, after_statement, for_context}
use Rattle.qs_types.specs.Placed.{local_node, named_local, operand_of, addressed, shape_addressed, all_addressed}
use Rattle.qs_types.specs.Sites.{Site, site, sites, option_sites, declarator_sites, initialiser_sites, elements_sites, option_initialiser_sites, variable_sites, variables_sites, start_sites, statement_sites, statements_sites, else_sites}
use Rattle.qs_types.specs.declared.referent.Referent.TheVariants as referents
use Rattle.qs_types.specs.Referents.{referent}
use Rattle.qs_typing_findings.specs.ExprFindings.{of_nodes}
use Rattle.qs_typing_findings.specs.UnitNodes.{of_option, of_lengths, of_declarator, of_initialiser, of_initialisers, of_option_initialiser, of_variables, of_start, of_statement, of_statements, of_else}
use Rattle.qs_typed_units.specs.Addressed as known
use Rattle.qs_typed_nodes.specs.Known.{Known}
use Rattle.qs_typed_nodes.specs.Agrees.{NodesKnown, PartsKnown, AllKnown}
use Rattle.qs_typed.proofs.KnownNodes.{nodes_known}
use Rattle.qs_typed.proofs.KnownBodies.{declared_type, no_referent, its_type, its_referent, Stand, left, right}

both : {A : Type 0} {x y z w : List A} → x ≡ y → z ≡ w → x ++ z ≡ y ++ w
both p q = λ i. p i ++ q i

-- ---- names

local_same : (x : List ℕ) (o : Option Entity) → known.local_named (referent x o) ≡ local_node o
local_same x None = refl
local_same x (Some (local_variable node t)) = refl
local_same x (Some (file_variable node t)) = refl
local_same x (Some (function node signature body)) = refl
local_same x (Some (given signature)) = by (same_bytes x putchar_name)
  where
    by : (b : Bool) → known.local_named (Some (if b then referents.PutChar else referents.GetChar)) ≡ []
    by true = refl
    by false = refl

name_same : (k : Known) (c : Context) (a : ExprTree) → NodesKnown k c a → known.name_known k.referents a ≡ named_local c a
name_same k c (expr node (trees.constant n u)) h = refl
name_same k c (expr node (trees.text bytes)) h = refl
name_same k c (expr node (trees.name x)) h = ap known.local_named h.1.0 ∙ local_same x (entity_of c x)
name_same k c (expr node (trees.unary operator a)) h = refl
name_same k c (expr node (trees.step operator a)) h = refl
name_same k c (expr node (trees.cast n a)) h = refl
name_same k c (expr node (trees.sizeof_type n)) h = refl
name_same k c (expr node (trees.sizeof_expr a)) h = refl
name_same k c (expr node (trees.binary operator a b)) h = refl
name_same k c (expr node (trees.assign operator a b)) h = refl
name_same k c (expr node (trees.conditional d a b)) h = refl
name_same k c (expr node (trees.comma a b)) h = refl
name_same k c (expr node (trees.subscript a b)) h = refl
name_same k c (expr node (trees.member access a x)) h = refl
name_same k c (expr node (trees.call f es)) h = refl

-- ---- expressions

mutual
  expr_same : (k : Known) (c : Context) (e : ExprTree) → NodesKnown k c e → known.addressed_known k.referents e ≡ addressed c e
  expr_same k c (expr node shape) h = shape_same k c shape h.1.1

  shape_same : (k : Known) (c : Context) (shape : ShapeTree) → PartsKnown k c shape → known.shape_addressed k.referents shape ≡ shape_addressed c shape
  shape_same k c (trees.constant n u) h = refl
  shape_same k c (trees.text bytes) h = refl
  shape_same k c (trees.name x) h = refl
  shape_same k c (trees.unary operator a) h = both (ap (operand_of operator) (name_same k c a h)) (expr_same k c a h)
  shape_same k c (trees.step operator a) h = expr_same k c a h
  shape_same k c (trees.cast n a) h = expr_same k c a h
  shape_same k c (trees.sizeof_type n) h = refl
  shape_same k c (trees.sizeof_expr a) h = expr_same k c a h
  shape_same k c (trees.binary operator a b) h = both (expr_same k c a h.0) (expr_same k c b h.1)
  shape_same k c (trees.assign operator a b) h = both (expr_same k c a h.0) (expr_same k c b h.1)
  shape_same k c (trees.conditional d a b) h = both (expr_same k c d h.0) (both (expr_same k c a h.1.0) (expr_same k c b h.1.1))
  shape_same k c (trees.comma a b) h = both (expr_same k c a h.0) (expr_same k c b h.1)
  shape_same k c (trees.subscript a b) h = both (expr_same k c a h.0) (expr_same k c b h.1)
  shape_same k c (trees.member access a x) h = expr_same k c a h
  shape_same k c (trees.call f es) h = all_same k c es h

  all_same : (k : Known) (c : Context) (es : Exprs) → AllKnown k c es → known.all_addressed k.referents es ≡ all_addressed c es
  all_same k c no_exprs h = refl
  all_same k c (expr_and e es) h = both (expr_same k c e h.0) (all_same k c es h.1)

-- ---- sites

abbrev pub at_sites : List Site → List ℕ
at_sites ss = flat_map (λ (s : Site). addressed s.context s.expression) ss

split : (xs ys : List Site) → at_sites (xs ++ ys) ≡ at_sites xs ++ at_sites ys
split xs ys = flat_map-append (λ (s : Site). addressed s.context s.expression) xs ys

site_same : (k : Known) (c : Context) (e : ExprTree) → Stand k (of_nodes (its_type c) e) (of_nodes (its_referent c) e) → known.addressed_known k.referents e ≡ at_sites (site c e)
site_same k c e n = expr_same k c e (nodes_known k c e n.0 n.1) ∙ sym (append-nil (addressed c e))

option_same : (k : Known) (c : Context) (e : Option ExprTree) → Stand k (of_option declared_type its_type c e) (of_option no_referent its_referent c e)
    → known.option_addressed k.referents e ≡ at_sites (option_sites c e)
option_same k c None n = refl
option_same k c (Some e) n = site_same k c e n

each_same : (k : Known) (c : Context) (es : List ExprTree) → Stand k (of_lengths declared_type its_type c es) (of_lengths no_referent its_referent c es)
    → known.each_addressed k.referents es ≡ at_sites (sites c es)
each_same k c [] n = refl
each_same k c (e ∷ es) n =
    let te = of_nodes (its_type c) e in
    let re = of_nodes (its_referent c) e in
    let tr = of_lengths declared_type its_type c es in
    let rr = of_lengths no_referent its_referent c es in
    both (site_same k c e (left k te tr re rr n)) (each_same k c es (right k te tr re rr n)) ∙ sym (split (site c e) (sites c es))

mutual
  initialiser_same : (k : Known) (c : Context) (t : Option TypeTree) (i : InitialiserTree) → Stand k (of_initialiser declared_type its_type c i) (of_initialiser no_referent its_referent c i)
      → known.initialiser_addressed k.referents i ≡ at_sites (initialiser_sites false c t i)
  initialiser_same k c t (trees.value e) n = expr_same k c e (nodes_known k c e n.0 n.1) ∙ sym (append-nil (addressed c e))
  initialiser_same k c t (trees.list node is) n = elements_same k c t 0 is (n.0.1, n.1.1)

  elements_same : (k : Known) (c : Context) (t : Option TypeTree) (j : ℕ) (is : Initialisers) → Stand k (of_initialisers declared_type its_type c is) (of_initialisers no_referent its_referent c is)
      → known.initialisers_addressed k.referents is ≡ at_sites (elements_sites false c t j is)
  elements_same k c t j no_initialisers n = refl
  elements_same k c t j (initialiser_and i is) n =
      let ti = of_initialiser declared_type its_type c i in
      let ri = of_initialiser no_referent its_referent c i in
      let tr = of_initialisers declared_type its_type c is in
      let rr = of_initialisers no_referent its_referent c is in
      both (initialiser_same k c (option_part c.structs t j) i (left k ti tr ri rr n)) (elements_same k c t (j + 1) is (right k ti tr ri rr n))
      ∙ sym (split (initialiser_sites false c (option_part c.structs t j) i) (elements_sites false c t (j + 1) is))

initial_same : (k : Known) (c : Context) (t : Option TypeTree) (i : Option InitialiserTree)
    → Stand k (of_option_initialiser declared_type its_type c i) (of_option_initialiser no_referent its_referent c i)
    → known.initial_addressed k.referents i ≡ at_sites (option_initialiser_sites false c t i)
initial_same k c t None n = refl
initial_same k c t (Some i) n = initialiser_same k c t i n

variables_same : (k : Known) (c : Context) (base : Base) (vs : List VariableTree)
    → Stand k (of_variables declared_type its_type false c base vs) (of_variables no_referent its_referent false c base vs)
    → known.variables_addressed k.referents vs ≡ at_sites (variables_sites false c base vs)
variables_same k c base [] n = refl
variables_same k c base (v ∷ vs) n =
    let after = after_variable false c base v in
    let t = (variable_declared c base v).type in
    let td = of_declarator declared_type its_type c t v.declarator in
    let rd = of_declarator no_referent its_referent c t v.declarator in
    let ti = of_option_initialiser declared_type its_type after v.initialiser in
    let ri = of_option_initialiser no_referent its_referent after v.initialiser in
    let tr = of_variables declared_type its_type false after base vs in
    let rr = of_variables no_referent its_referent false after base vs in
    let here = left k (td ++ ti) tr (rd ++ ri) rr n in
    let first = left k td ti rd ri here in
    both
    (both (each_same k c v.declarator.lengths.given (first.0.1, first.1.1)) (initial_same k after t v.initialiser (right k td ti rd ri here))
    ∙ sym (split (declarator_sites c v.declarator) (option_initialiser_sites false after t v.initialiser)))
    (variables_same k after base vs (right k (td ++ ti) tr (rd ++ ri) rr n))
    ∙ sym (split (variable_sites false c after base v) (variables_sites false after base vs))

start_same : (k : Known) (c : Context) (start : StartTree) → Stand k (of_start declared_type its_type c start) (of_start no_referent its_referent c start)
    → known.start_addressed k.referents start ≡ at_sites (start_sites c start)
start_same k c no_start n = refl
start_same k c (start_expression e) n = site_same k c e n
start_same k c (start_declaration d) n = variables_same k c d.base d.variables n

mutual
  statement_same : (k : Known) (c : Context) (t : StmtTree) → Stand k (of_statement declared_type its_type c t) (of_statement no_referent its_referent c t)
      → known.statement_addressed k.referents t ≡ at_sites (statement_sites c t)
  statement_same k c (trees.empty node) n = refl
  statement_same k c (trees.expression node e) n = site_same k c e (n.0.1, n.1.1)
  statement_same k c (trees.declaration d) n = variables_same k c d.base d.variables n
  statement_same k c (trees.block ss) n = statements_same k (inner_scope c) ss n
  statement_same k c (trees.branch node e t o) n =
      let te = declared_type node None ∷ of_nodes (its_type c) e in
      let re = no_referent node None ∷ of_nodes (its_referent c) e in
      let ts = of_statement declared_type its_type (inner_scope c) t in
      let rs = of_statement no_referent its_referent (inner_scope c) t in
      let to = of_else declared_type its_type c o in
      let ro = of_else no_referent its_referent c o in
      let first = left k te (ts ++ to) re (rs ++ ro) n in
      let rest = right k te (ts ++ to) re (rs ++ ro) n in
      both (site_same k c e (first.0.1, first.1.1))
      (both (statement_same k (inner_scope c) t (left k ts to rs ro rest)) (else_same k c o (right k ts to rs ro rest)) ∙ sym (split (statement_sites (inner_scope c) t) (else_sites c o)))
      ∙ sym (split (site c e) (statement_sites (inner_scope c) t ++ else_sites c o))
  statement_same k c (trees.switch node e ts) n =
      let te = declared_type node None ∷ of_nodes (its_type c) e in
      let re = no_referent node None ∷ of_nodes (its_referent c) e in
      let items = of_statements declared_type its_type (switch_context c e) ts in
      let names = of_statements no_referent its_referent (switch_context c e) ts in
      let first = left k te items re names n in
      both (site_same k c e (first.0.1, first.1.1)) (statements_same k (switch_context c e) ts (right k te items re names n))
      ∙ sym (split (site c e) (statements_sites (switch_context c e) ts))
  statement_same k c (trees.case_label node e) n = site_same k c e (n.0.1, n.1.1)
  statement_same k c (trees.default_label node) n = refl
  statement_same k c (trees.while_loop node e t) n =
      let te = declared_type node None ∷ of_nodes (its_type c) e in
      let re = no_referent node None ∷ of_nodes (its_referent c) e in
      let ts = of_statement declared_type its_type (inside_loop (inner_scope c)) t in
      let rs = of_statement no_referent its_referent (inside_loop (inner_scope c)) t in
      let first = left k te ts re rs n in
      both (site_same k c e (first.0.1, first.1.1)) (statement_same k (inside_loop (inner_scope c)) t (right k te ts re rs n))
      ∙ sym (split (site c e) (statement_sites (inside_loop (inner_scope c)) t))
  statement_same k c (trees.do_loop node t e) n =
      let ts = declared_type node None ∷ of_statement declared_type its_type (inside_loop (inner_scope c)) t in
      let rs = no_referent node None ∷ of_statement no_referent its_referent (inside_loop (inner_scope c)) t in
      let te = of_nodes (its_type c) e in
      let re = of_nodes (its_referent c) e in
      let first = left k ts te rs re n in
      both (statement_same k (inside_loop (inner_scope c)) t (first.0.1, first.1.1)) (site_same k c e (right k ts te rs re n))
      ∙ sym (split (statement_sites (inside_loop (inner_scope c)) t) (site c e))
  statement_same k c (trees.for_loop node start e u t) n =
      let f = for_context c start in
      let t0 = declared_type node None ∷ of_start declared_type its_type (inner_scope c) start in
      let r0 = no_referent node None ∷ of_start no_referent its_referent (inner_scope c) start in
      let te = of_option declared_type its_type f e in
      let re = of_option no_referent its_referent f e in
      let tu = of_option declared_type its_type f u in
      let ru = of_option no_referent its_referent f u in
      let ts = of_statement declared_type its_type (inside_loop (inner_scope f)) t in
      let rs = of_statement no_referent its_referent (inside_loop (inner_scope f)) t in
      let first = left k t0 ((te ++ tu) ++ ts) r0 ((re ++ ru) ++ rs) n in
      let rest = right k t0 ((te ++ tu) ++ ts) r0 ((re ++ ru) ++ rs) n in
      let two = left k (te ++ tu) ts (re ++ ru) rs rest in
      both (start_same k (inner_scope c) start (first.0.1, first.1.1))
      (both (option_same k f e (left k te tu re ru two))
      (both (option_same k f u (right k te tu re ru two)) (statement_same k (inside_loop (inner_scope f)) t (right k (te ++ tu) ts (re ++ ru) rs rest))
      ∙ sym (split (option_sites f u) (statement_sites (inside_loop (inner_scope f)) t)))
      ∙ sym (split (option_sites f e) (option_sites f u ++ statement_sites (inside_loop (inner_scope f)) t)))
      ∙ sym (split (start_sites (inner_scope c) start) (option_sites f e ++ (option_sites f u ++ statement_sites (inside_loop (inner_scope f)) t)))
  statement_same k c (trees.break node) n = refl
  statement_same k c (trees.continue node) n = refl
  statement_same k c (trees.return node e) n = option_same k c e (n.0.1, n.1.1)

  pub statements_same : (k : Known) (c : Context) (ss : Stmts) → Stand k (of_statements declared_type its_type c ss) (of_statements no_referent its_referent c ss)
      → known.statements_addressed k.referents ss ≡ at_sites (statements_sites c ss)
  statements_same k c no_stmts n = refl
  statements_same k c (stmt_and t ts) n =
      let now = of_statement declared_type its_type c t in
      let names = of_statement no_referent its_referent c t in
      let later = of_statements declared_type its_type (after_statement c t) ts in
      let rest = of_statements no_referent its_referent (after_statement c t) ts in
      both (statement_same k c t (left k now later names rest n)) (statements_same k (after_statement c t) ts (right k now later names rest n))
      ∙ sym (split (statement_sites c t) (statements_sites (after_statement c t) ts))

  else_same : (k : Known) (c : Context) (o : Else) → Stand k (of_else declared_type its_type c o) (of_else no_referent its_referent c o)
      → known.else_addressed k.referents o ≡ at_sites (else_sites c o)
  else_same k c no_else n = refl
  else_same k c (else_by t) n = statement_same k (inner_scope c) t n
