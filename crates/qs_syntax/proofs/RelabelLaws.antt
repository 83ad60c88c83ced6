-- A map over the nodes of a tree keeps their count, and one such map behind another is one map.
use Rattle.std.proofs.Common.{◌≡◌, ℕ, ◌+◌, List, [], ◌∷◌, Option, Some, None, refl, ap}
use Rattle.qs_syntax.specs.declared.nodes.Node.{Node}
use Rattle.qs_syntax.specs.Trees.{ExprTree, expr, ShapeTree, constant, text, name, unary, step, cast, sizeof_type, sizeof_expr, binary, assign, conditional, comma, subscript, member, call, Exprs, no_exprs, expr_and, LengthsTree, DeclaratorTree, InitialiserTree, value, list, Initialisers, no_initialisers, initialiser_and, VariableTree, DeclarationTree, ParameterTree, MembersTree, StartTree, no_start, start_expression, start_declaration, StmtTree, empty, expression, declaration, block, switch, case_label, default_label, branch, while_loop, do_loop, for_loop, break, continue, return, Stmts, no_stmts, stmt_and, Else, no_else, else_by, StructTree, DefinedTree, of_struct, of_base, TypedefTree, FunctionTree, DeclTree, structure, forward, typedef, function, variables, UnitTree}
use Rattle.qs_syntax.specs.Nodes.{all_count, option_count, expr_count, shape_count, exprs_count, lengths_count, declarator_count, initialiser_count, initialisers_count, variable_count, declaration_count, parameter_count, members_count, start_count, stmt_count, stmts_count, else_count, struct_count, defined_count, typedef_count, function_count, decl_count}
use Rattle.qs_syntax.specs.Numbering.{Relabelling, relabel_all, relabel_option, relabel_expr, relabel_shape, relabel_exprs, relabel_lengths, relabel_declarator, relabel_initialiser, relabel_initialisers, relabel_variable, relabel_declaration, relabel_parameter, relabel_members, relabel_start, relabel_stmt, relabel_stmts, relabel_else, relabel_struct, relabel_defined, relabel_typedef, relabel_function, relabel_decl, relabel_unit, numbered, bare, numbered_unit}
use Rattle.qs_syntax.specs.WithoutTokens.{without_tokens}

-- ---- the count of the nodes

module _ {A : Type 0} (f : Relabelling) (count : A → ℕ) (relabel : ℕ → A → A) (keeps : (n : ℕ) (x : A) → count (relabel n x) ≡ count x) where
  pub all_keeps : (n : ℕ) (xs : List A) → all_count count (relabel_all f count relabel n xs) ≡ all_count count xs
  all_keeps n [] = refl
  all_keeps n (x ∷ xs) = rw (keeps n x, all_keeps (f.onward n (count x)) xs) refl

module _ {A : Type 0} (count : A → ℕ) (relabel : ℕ → A → A) (keeps : (n : ℕ) (x : A) → count (relabel n x) ≡ count x) where
  pub option_keeps : (n : ℕ) (o : Option A) → option_count count (relabel_option relabel n o) ≡ option_count count o
  option_keeps n None = refl
  option_keeps n (Some x) = keeps n x

module _ (f : Relabelling) where
  mutual
    pub expr_keeps : (n : ℕ) (e : ExprTree) → expr_count (relabel_expr f n e) ≡ expr_count e
    expr_keeps n (expr node s) = ap (λ k. 1 + k) (shape_keeps (f.onward n 1) s)

    pub shape_keeps : (n : ℕ) (s : ShapeTree) → shape_count (relabel_shape f n s) ≡ shape_count s
    shape_keeps n (constant k unsigned) = refl
    shape_keeps n (text bytes) = refl
    shape_keeps n (name x) = refl
    shape_keeps n (sizeof_type type) = refl
    shape_keeps n (unary operator a) = expr_keeps n a
    shape_keeps n (step operator a) = expr_keeps n a
    shape_keeps n (cast type a) = expr_keeps n a
    shape_keeps n (sizeof_expr a) = expr_keeps n a
    shape_keeps n (member access a x) = expr_keeps n a
    shape_keeps n (binary operator a b) = rw (expr_keeps n a, expr_keeps (f.onward n (expr_count a)) b) refl
    shape_keeps n (assign operator a b) = rw (expr_keeps n a, expr_keeps (f.onward n (expr_count a)) b) refl
    shape_keeps n (comma a b) = rw (expr_keeps n a, expr_keeps (f.onward n (expr_count a)) b) refl
    shape_keeps n (subscript a b) = rw (expr_keeps n a, expr_keeps (f.onward n (expr_count a)) b) refl
    shape_keeps n (conditional a b c) = rw (expr_keeps n a, expr_keeps (f.onward n (expr_count a)) b, expr_keeps (f.onward (f.onward n (expr_count a)) (expr_count b)) c) refl
    shape_keeps n (call x es) = exprs_keeps n es

    pub exprs_keeps : (n : ℕ) (es : Exprs) → exprs_count (relabel_exprs f n es) ≡ exprs_count es
    exprs_keeps n no_exprs = refl
    exprs_keeps n (expr_and e es) = rw (expr_keeps n e, exprs_keeps (f.onward n (expr_count e)) es) refl

  pub lengths_keeps : (n : ℕ) (l : LengthsTree) → lengths_count (relabel_lengths f n l) ≡ lengths_count l
  lengths_keeps n l = all_keeps f expr_count (relabel_expr f) expr_keeps n l.given

  pub declarator_keeps : (n : ℕ) (d : DeclaratorTree) → declarator_count (relabel_declarator f n d) ≡ declarator_count d
  declarator_keeps n d = ap (λ k. 1 + k) (lengths_keeps (f.onward n 1) d.lengths)

  mutual
    pub initialiser_keeps : (n : ℕ) (i : InitialiserTree) → initialiser_count (relabel_initialiser f n i) ≡ initialiser_count i
    initialiser_keeps n (value e) = expr_keeps n e
    initialiser_keeps n (list node is) = ap (λ k. 1 + k) (initialisers_keeps (f.onward n 1) is)

    pub initialisers_keeps : (n : ℕ) (is : Initialisers) → initialisers_count (relabel_initialisers f n is) ≡ initialisers_count is
    initialisers_keeps n no_initialisers = refl
    initialisers_keeps n (initialiser_and i is) = rw (initialiser_keeps n i, initialisers_keeps (f.onward n (initialiser_count i)) is) refl

  pub variable_keeps : (n : ℕ) (v : VariableTree) → variable_count (relabel_variable f n v) ≡ variable_count v
  variable_keeps n v = rw (lengths_keeps (f.onward n 1) v.declarator.lengths, option_keeps initialiser_count (relabel_initialiser f) initialiser_keeps (f.onward n (declarator_count v.declarator)) v.initialiser) refl

  pub declaration_keeps : (n : ℕ) (d : DeclarationTree) → declaration_count (relabel_declaration f n d) ≡ declaration_count d
  declaration_keeps n d = all_keeps f variable_count (relabel_variable f) variable_keeps n d.variables

  pub parameter_keeps : (n : ℕ) (p : ParameterTree) → parameter_count (relabel_parameter f n p) ≡ parameter_count p
  parameter_keeps n p = ap (λ k. 1 + k) (lengths_keeps (f.onward n 1) p.lengths)

  pub members_keeps : (n : ℕ) (g : MembersTree) → members_count (relabel_members f n g) ≡ members_count g
  members_keeps n g = all_keeps f declarator_count (relabel_declarator f) declarator_keeps n g.declarators

  pub start_keeps : (n : ℕ) (a : StartTree) → start_count (relabel_start f n a) ≡ start_count a
  start_keeps n no_start = refl
  start_keeps n (start_expression e) = expr_keeps n e
  start_keeps n (start_declaration d) = declaration_keeps n d

  pub maybe_keeps : (n : ℕ) (o : Option ExprTree) → option_count expr_count (relabel_option (relabel_expr f) n o) ≡ option_count expr_count o
  maybe_keeps n o = option_keeps expr_count (relabel_expr f) expr_keeps n o

  mutual
    pub stmt_keeps : (n : ℕ) (s : StmtTree) → stmt_count (relabel_stmt f n s) ≡ stmt_count s
    stmt_keeps n (empty node) = refl
    stmt_keeps n (expression node e) = ap (λ k. 1 + k) (expr_keeps (f.onward n 1) e)
    stmt_keeps n (declaration d) = declaration_keeps n d
    stmt_keeps n (block ss) = stmts_keeps n ss
    stmt_keeps n (switch node e ss) = rw (expr_keeps (f.onward n 1) e, stmts_keeps (f.onward (f.onward n 1) (expr_count e)) ss) refl
    stmt_keeps n (case_label node e) = ap (λ k. 1 + k) (expr_keeps (f.onward n 1) e)
    stmt_keeps n (default_label node) = refl
    stmt_keeps n (branch node e s r) = rw (expr_keeps (f.onward n 1) e, stmt_keeps (f.onward (f.onward n 1) (expr_count e)) s, else_keeps (f.onward (f.onward (f.onward n 1) (expr_count e)) (stmt_count s)) r) refl
    stmt_keeps n (while_loop node e s) = rw (expr_keeps (f.onward n 1) e, stmt_keeps (f.onward (f.onward n 1) (expr_count e)) s) refl
    stmt_keeps n (do_loop node s e) = rw (stmt_keeps (f.onward n 1) s, expr_keeps (f.onward (f.onward n 1) (stmt_count s)) e) refl
    stmt_keeps n (for_loop node a e u s) =
        rw (start_keeps (f.onward n 1) a, maybe_keeps (f.onward (f.onward n 1) (start_count a)) e, maybe_keeps (f.onward (f.onward (f.onward n 1) (start_count a)) (option_count expr_count e)) u, stmt_keeps (f.onward (f.onward (f.onward (f.onward n 1) (start_count a)) (option_count expr_count e)) (option_count expr_count u)) s) refl
    stmt_keeps n (break node) = refl
    stmt_keeps n (continue node) = refl
    stmt_keeps n (return node e) = ap (λ k. 1 + k) (maybe_keeps (f.onward n 1) e)

    pub stmts_keeps : (n : ℕ) (ss : Stmts) → stmts_count (relabel_stmts f n ss) ≡ stmts_count ss
    stmts_keeps n no_stmts = refl
    stmts_keeps n (stmt_and s ss) = rw (stmt_keeps n s, stmts_keeps (f.onward n (stmt_count s)) ss) refl

    pub else_keeps : (n : ℕ) (r : Else) → else_count (relabel_else f n r) ≡ else_count r
    else_keeps n no_else = refl
    else_keeps n (else_by s) = stmt_keeps n s

  pub struct_keeps : (n : ℕ) (s : StructTree) → struct_count (relabel_struct f n s) ≡ struct_count s
  struct_keeps n s = ap (λ k. 1 + k) (all_keeps f members_count (relabel_members f) members_keeps (f.onward n 1) s.members)

  pub defined_keeps : (n : ℕ) (d : DefinedTree) → defined_count (relabel_defined f n d) ≡ defined_count d
  defined_keeps n (of_struct s) = struct_keeps n s
  defined_keeps n (of_base b) = refl

  pub typedef_keeps : (n : ℕ) (t : TypedefTree) → typedef_count (relabel_typedef f n t) ≡ typedef_count t
  typedef_keeps n t = rw (defined_keeps n t.defined, all_keeps f declarator_count (relabel_declarator f) declarator_keeps (f.onward n (defined_count t.defined)) t.names) refl

  pub function_keeps : (n : ℕ) (d : FunctionTree) → function_count (relabel_function f n d) ≡ function_count d
  function_keeps n d =
      rw (all_keeps f parameter_count (relabel_parameter f) parameter_keeps (f.onward n 1) d.parameters, option_keeps stmts_count (relabel_stmts f) stmts_keeps (f.onward (f.onward n 1) (all_count parameter_count d.parameters)) d.body) refl

  pub decl_keeps : (n : ℕ) (d : DeclTree) → decl_count (relabel_decl f n d) ≡ decl_count d
  decl_keeps n (structure s) = struct_keeps n s
  decl_keeps n (forward d) = refl
  decl_keeps n (typedef t) = typedef_keeps n t
  decl_keeps n (function d) = function_keeps n d
  decl_keeps n (variables d) = declaration_keeps n d

-- ---- one map behind another

-- where g is and where f was are `At` one another, there g makes of f's node what `label` makes of the node
pub record Composes (g f : Relabelling) (label : ℕ → Node → Node) (At : ℕ → ℕ → Type 0) : Type 0 where
  pub moves : (n m count : ℕ) → At n m → At (g.onward n count) (f.onward m count)
  pub labels : (n m : ℕ) (node : Node) → At n m → g.label n (f.label m node) ≡ label n node

module _ (g f : Relabelling) (label : ℕ → Node → Node) (At : ℕ → ℕ → Type 0) (c : Composes g f label At) where
  abbrev both : Relabelling
  both = record { label = label; onward = g.onward }

  pub record Place : Type 0 where
    pub n : ℕ
    pub m : ℕ
    pub at : At n m

  abbrev next : Place → ℕ → Place
  next p count = record { n = g.onward p.n count; m = f.onward p.m count; at = c.moves p.n p.m count p.at }

  node_again : (p : Place) (node : Node) → g.label p.n (f.label p.m node) ≡ label p.n node
  node_again p node = c.labels p.n p.m node p.at

  pub all_again : {A : Type 0} (count : A → ℕ) (of_g of_f of_both : ℕ → A → A) → ((n : ℕ) (x : A) → count (of_f n x) ≡ count x) → ((p : Place) (x : A) → of_g p.n (of_f p.m x) ≡ of_both p.n x) → (p : Place) (xs : List A)
      → relabel_all g count of_g p.n (relabel_all f count of_f p.m xs) ≡ relabel_all both count of_both p.n xs
  all_again count of_g of_f of_both keeps again p [] = refl
  all_again count of_g of_f of_both keeps again p (x ∷ xs) = rw (again p x, keeps p.m x, all_again count of_g of_f of_both keeps again (next p (count x)) xs) refl

  pub option_again : {A : Type 0} (of_g of_f of_both : ℕ → A → A) → ((p : Place) (x : A) → of_g p.n (of_f p.m x) ≡ of_both p.n x) → (p : Place) (o : Option A)
      → relabel_option of_g p.n (relabel_option of_f p.m o) ≡ relabel_option of_both p.n o
  option_again of_g of_f of_both again p None = refl
  option_again of_g of_f of_both again p (Some x) = ap Some (again p x)

  mutual
    pub expr_again : (p : Place) (e : ExprTree) → relabel_expr g p.n (relabel_expr f p.m e) ≡ relabel_expr both p.n e
    expr_again p (expr node s) = λ i. expr (node_again p node i) (shape_again (next p 1) s i)

    pub shape_again : (p : Place) (s : ShapeTree) → relabel_shape g p.n (relabel_shape f p.m s) ≡ relabel_shape both p.n s
    shape_again p (constant k unsigned) = refl
    shape_again p (text bytes) = refl
    shape_again p (name x) = refl
    shape_again p (sizeof_type type) = refl
    shape_again p (unary operator a) = ap (unary operator) (expr_again p a)
    shape_again p (step operator a) = ap (step operator) (expr_again p a)
    shape_again p (cast type a) = ap (cast type) (expr_again p a)
    shape_again p (sizeof_expr a) = ap sizeof_expr (expr_again p a)
    shape_again p (member access a x) = ap (λ b. member access b x) (expr_again p a)
    shape_again p (binary operator a b) = rw (expr_again p a, expr_keeps f p.m a, expr_again (next p (expr_count a)) b) refl
    shape_again p (assign operator a b) = rw (expr_again p a, expr_keeps f p.m a, expr_again (next p (expr_count a)) b) refl
    shape_again p (comma a b) = rw (expr_again p a, expr_keeps f p.m a, expr_again (next p (expr_count a)) b) refl
    shape_again p (subscript a b) = rw (expr_again p a, expr_keeps f p.m a, expr_again (next p (expr_count a)) b) refl
    shape_again p (conditional a b c) = rw (expr_again p a, expr_keeps f p.m a, expr_again (next p (expr_count a)) b, expr_keeps f (f.onward p.m (expr_count a)) b, expr_again (next (next p (expr_count a)) (expr_count b)) c) refl
    shape_again p (call x es) = ap (call x) (exprs_again p es)

    pub exprs_again : (p : Place) (es : Exprs) → relabel_exprs g p.n (relabel_exprs f p.m es) ≡ relabel_exprs both p.n es
    exprs_again p no_exprs = refl
    exprs_again p (expr_and e es) = rw (expr_again p e, expr_keeps f p.m e, exprs_again (next p (expr_count e)) es) refl

  pub lengths_again : (p : Place) (l : LengthsTree) → relabel_lengths g p.n (relabel_lengths f p.m l) ≡ relabel_lengths both p.n l
  lengths_again p l = rw (all_again expr_count (relabel_expr g) (relabel_expr f) (relabel_expr both) (expr_keeps f) expr_again p l.given) refl

  pub declarator_again : (p : Place) (d : DeclaratorTree) → relabel_declarator g p.n (relabel_declarator f p.m d) ≡ relabel_declarator both p.n d
  declarator_again p d = rw (node_again p d.node, lengths_again (next p 1) d.lengths) refl

  mutual
    pub initialiser_again : (p : Place) (i : InitialiserTree) → relabel_initialiser g p.n (relabel_initialiser f p.m i) ≡ relabel_initialiser both p.n i
    initialiser_again p (value e) = ap value (expr_again p e)
    initialiser_again p (list node is) = λ i. list (node_again p node i) (initialisers_again (next p 1) is i)

    pub initialisers_again : (p : Place) (is : Initialisers) → relabel_initialisers g p.n (relabel_initialisers f p.m is) ≡ relabel_initialisers both p.n is
    initialisers_again p no_initialisers = refl
    initialisers_again p (initialiser_and i is) = rw (initialiser_again p i, initialiser_keeps f p.m i, initialisers_again (next p (initialiser_count i)) is) refl

  pub variable_again : (p : Place) (v : VariableTree) → relabel_variable g p.n (relabel_variable f p.m v) ≡ relabel_variable both p.n v
  variable_again p v =
      rw (declarator_again p v.declarator, declarator_keeps f p.m v.declarator, option_again (relabel_initialiser g) (relabel_initialiser f) (relabel_initialiser both) initialiser_again (next p (declarator_count v.declarator)) v.initialiser) refl

  pub declaration_again : (p : Place) (d : DeclarationTree) → relabel_declaration g p.n (relabel_declaration f p.m d) ≡ relabel_declaration both p.n d
  declaration_again p d = rw (all_again variable_count (relabel_variable g) (relabel_variable f) (relabel_variable both) (variable_keeps f) variable_again p d.variables) refl

  pub parameter_again : (p : Place) (d : ParameterTree) → relabel_parameter g p.n (relabel_parameter f p.m d) ≡ relabel_parameter both p.n d
  parameter_again p d = rw (node_again p d.node, lengths_again (next p 1) d.lengths) refl

  pub members_again : (p : Place) (d : MembersTree) → relabel_members g p.n (relabel_members f p.m d) ≡ relabel_members both p.n d
  members_again p d = rw (all_again declarator_count (relabel_declarator g) (relabel_declarator f) (relabel_declarator both) (declarator_keeps f) declarator_again p d.declarators) refl

  pub start_again : (p : Place) (a : StartTree) → relabel_start g p.n (relabel_start f p.m a) ≡ relabel_start both p.n a
  start_again p no_start = refl
  start_again p (start_expression e) = ap start_expression (expr_again p e)
  start_again p (start_declaration d) = ap start_declaration (declaration_again p d)

  pub maybe_again : (p : Place) (o : Option ExprTree) → relabel_option (relabel_expr g) p.n (relabel_option (relabel_expr f) p.m o) ≡ relabel_option (relabel_expr both) p.n o
  maybe_again p o = option_again (relabel_expr g) (relabel_expr f) (relabel_expr both) expr_again p o

  mutual
    pub stmt_again : (p : Place) (s : StmtTree) → relabel_stmt g p.n (relabel_stmt f p.m s) ≡ relabel_stmt both p.n s
    stmt_again p (empty node) = ap empty (node_again p node)
    stmt_again p (expression node e) = λ i. expression (node_again p node i) (expr_again (next p 1) e i)
    stmt_again p (declaration d) = ap declaration (declaration_again p d)
    stmt_again p (block ss) = ap block (stmts_again p ss)
    stmt_again p (switch node e ss) = rw (node_again p node, expr_again (next p 1) e, expr_keeps f (f.onward p.m 1) e, stmts_again (next (next p 1) (expr_count e)) ss) refl
    stmt_again p (case_label node e) = λ i. case_label (node_again p node i) (expr_again (next p 1) e i)
    stmt_again p (default_label node) = ap default_label (node_again p node)
    stmt_again p (branch node e s r) =
        rw (node_again p node, expr_again (next p 1) e, expr_keeps f (f.onward p.m 1) e, stmt_again (next (next p 1) (expr_count e)) s, stmt_keeps f (f.onward (f.onward p.m 1) (expr_count e)) s, else_again (next (next (next p 1) (expr_count e)) (stmt_count s)) r) refl
    stmt_again p (while_loop node e s) = rw (node_again p node, expr_again (next p 1) e, expr_keeps f (f.onward p.m 1) e, stmt_again (next (next p 1) (expr_count e)) s) refl
    stmt_again p (do_loop node s e) = rw (node_again p node, stmt_again (next p 1) s, stmt_keeps f (f.onward p.m 1) s, expr_again (next (next p 1) (stmt_count s)) e) refl
    stmt_again p (for_loop node a e u s) =
        let q : Place = next (next p 1) (start_count a) in
        let r : Place = next q (option_count expr_count e) in
        rw (node_again p node, start_again (next p 1) a, start_keeps f (f.onward p.m 1) a, maybe_again q e, maybe_keeps f q.m e, maybe_again r u, maybe_keeps f r.m u, stmt_again (next r (option_count expr_count u)) s) refl
    stmt_again p (break node) = ap break (node_again p node)
    stmt_again p (continue node) = ap continue (node_again p node)
    stmt_again p (return node e) = λ i. return (node_again p node i) (maybe_again (next p 1) e i)

    pub stmts_again : (p : Place) (ss : Stmts) → relabel_stmts g p.n (relabel_stmts f p.m ss) ≡ relabel_stmts both p.n ss
    stmts_again p no_stmts = refl
    stmts_again p (stmt_and s ss) = rw (stmt_again p s, stmt_keeps f p.m s, stmts_again (next p (stmt_count s)) ss) refl

    pub else_again : (p : Place) (r : Else) → relabel_else g p.n (relabel_else f p.m r) ≡ relabel_else both p.n r
    else_again p no_else = refl
    else_again p (else_by s) = ap else_by (stmt_again p s)

  pub struct_again : (p : Place) (s : StructTree) → relabel_struct g p.n (relabel_struct f p.m s) ≡ relabel_struct both p.n s
  struct_again p s = rw (node_again p s.node, all_again members_count (relabel_members g) (relabel_members f) (relabel_members both) (members_keeps f) members_again (next p 1) s.members) refl

  pub defined_again : (p : Place) (d : DefinedTree) → relabel_defined g p.n (relabel_defined f p.m d) ≡ relabel_defined both p.n d
  defined_again p (of_struct s) = ap of_struct (struct_again p s)
  defined_again p (of_base b) = refl

  pub typedef_again : (p : Place) (t : TypedefTree) → relabel_typedef g p.n (relabel_typedef f p.m t) ≡ relabel_typedef both p.n t
  typedef_again p t =
      rw (
        defined_again p t.defined,
        defined_keeps f p.m t.defined,
        all_again declarator_count (relabel_declarator g) (relabel_declarator f) (relabel_declarator both) (declarator_keeps f) declarator_again (next p (defined_count t.defined)) t.names,
      ) refl

  pub function_again : (p : Place) (d : FunctionTree) → relabel_function g p.n (relabel_function f p.m d) ≡ relabel_function both p.n d
  function_again p d =
      rw (
        node_again p d.node,
        all_again parameter_count (relabel_parameter g) (relabel_parameter f) (relabel_parameter both) (parameter_keeps f) parameter_again (next p 1) d.parameters,
        all_keeps f parameter_count (relabel_parameter f) (parameter_keeps f) (f.onward p.m 1) d.parameters,
        option_again (relabel_stmts g) (relabel_stmts f) (relabel_stmts both) stmts_again (next (next p 1) (all_count parameter_count d.parameters)) d.body,
      ) refl

  pub decl_again : (p : Place) (d : DeclTree) → relabel_decl g p.n (relabel_decl f p.m d) ≡ relabel_decl both p.n d
  decl_again p (structure s) = ap structure (struct_again p s)
  decl_again p (forward d) = ap (λ n. forward (record { node = n; name = d.name })) (node_again p d.node)
  decl_again p (typedef t) = ap typedef (typedef_again p t)
  decl_again p (function d) = ap function (function_again p d)
  decl_again p (variables d) = ap variables (declaration_again p d)

  -- g behind f is one map, where they begin at one another
  pub unit_composes : At 0 0 → (ds : UnitTree) → relabel_unit g (relabel_unit f ds) ≡ relabel_unit both ds
  unit_composes at ds = all_again decl_count (relabel_decl g) (relabel_decl f) (relabel_decl both) (decl_keeps f) decl_again (record { n = 0; m = 0; at = at }) ds

-- ---- the maps that are used

abbrev Anywhere : ℕ → ℕ → Type 0
Anywhere n m = Unit {0}

-- what is numbered again is as if it were numbered once
pub unit_numbered_again : (ds : UnitTree) → numbered_unit (numbered_unit ds) ≡ numbered_unit ds
unit_numbered_again = unit_composes numbered numbered (λ n node. record { id = n; token = node.token }) Anywhere (record { moves = λ _ _ _ _. tt; labels = λ _ _ _ _. refl }) tt

-- what has no numbers and tokens any more doesn't tell whether it was numbered
pub numbered_without_tokens : (ds : UnitTree) → without_tokens (numbered_unit ds) ≡ without_tokens ds
numbered_without_tokens = unit_composes bare numbered (λ n node. record { id = 0; token = 0 }) Anywhere (record { moves = λ _ _ _ _. tt; labels = λ _ _ _ _. refl }) tt
