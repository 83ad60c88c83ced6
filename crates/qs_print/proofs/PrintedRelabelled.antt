-- The numbers of tokens and nodes aren't printed: what a map over the nodes leaves is printed as before.
use Rattle.std.proofs.Common.{◌≡◌, ℕ, Bool, true, false, List, [], ◌∷◌, Option, Some, None, flat_map, refl}
use Rattle.qs_syntax.specs.Trees.{ExprTree, expr, ShapeTree, constant, text, name, unary, step, cast, sizeof_type, sizeof_expr, binary, assign, conditional, comma, subscript, member, call, Exprs, no_exprs, expr_and, LengthsTree, DeclaratorTree, InitialiserTree, value, list, Initialisers, no_initialisers, initialiser_and, VariableTree, DeclarationTree, ParameterTree, MembersTree, StartTree, no_start, start_expression, start_declaration, StmtTree, empty, expression, declaration, block, switch, case_label, default_label, branch, while_loop, do_loop, for_loop, break, continue, return, Stmts, no_stmts, stmt_and, Else, no_else, else_by, StructTree, FunctionTree, DefinedTree, of_struct, of_base, TypedefTree, DeclTree, structure, forward, function, variables, typedef}
use Rattle.qs_syntax.specs.Nodes.{all_count, decl_count, declarator_count, defined_count, expr_count, initialiser_count, members_count, option_count, parameter_count, start_count, stmt_count, variable_count}
use Rattle.qs_syntax.specs.Numbering.{Relabelling, relabel_all, relabel_decl, relabel_declaration, relabel_declarator, relabel_defined, relabel_else, relabel_expr, relabel_exprs, relabel_function, relabel_initialiser, relabel_initialisers, relabel_lengths, relabel_members, relabel_option, relabel_parameter, relabel_shape, relabel_start, relabel_stmt, relabel_stmts, relabel_struct, relabel_typedef, relabel_unit, relabel_variable}
use Rattle.qs_print.specs.Levels.{assignment_level, conditional_level, level, shape_level}
use Rattle.qs_print.specs.Printed.{behind_commas, further_arguments, further_initialisers, is_without_brackets, printed_arguments, printed_body, printed_braces, printed_decl, printed_declaration, printed_declarator, printed_defined, printed_else, printed_expr, printed_function, printed_initialiser, printed_initialisers, printed_length, printed_lengths, printed_members, printed_optional, printed_parameter, printed_parameters, printed_part, printed_setting, printed_shape, printed_start, printed_stmt, printed_stmts, printed_struct, printed_typedef, printed_unit, printed_variable, with_commas}
use Rattle.qs_syntax_vocabulary.specs.declared.terminal.Terminal.{Terminal}

module _ (f : Relabelling) {A : Type 0} (printed : A → List Terminal) (count : A → ℕ) (relabel : ℕ → A → A) (same : (n : ℕ) (x : A) → printed (relabel n x) ≡ printed x) where
  row_same : (n : ℕ) (xs : List A) → flat_map printed (relabel_all f count relabel n xs) ≡ flat_map printed xs
  row_same n [] = refl
  row_same n (x ∷ xs) = rw (same n x, row_same (f.onward n (count x)) xs) refl

  behind_same : (n : ℕ) (xs : List A) → behind_commas printed (relabel_all f count relabel n xs) ≡ behind_commas printed xs
  behind_same n [] = refl
  behind_same n (x ∷ xs) = rw (same n x, behind_same (f.onward n (count x)) xs) refl

  commas_same : (n : ℕ) (xs : List A) → with_commas printed (relabel_all f count relabel n xs) ≡ with_commas printed xs
  commas_same n [] = refl
  commas_same n (x ∷ xs) = rw (same n x, behind_same (f.onward n (count x)) xs) refl

module _ (f : Relabelling) where
  -- ---- expressions

  shape_level_same : (n : ℕ) (s : ShapeTree) → shape_level (relabel_shape f n s) ≡ shape_level s
  shape_level_same n (constant v unsigned) = refl
  shape_level_same n (text bytes) = refl
  shape_level_same n (name x) = refl
  shape_level_same n (unary operator a) = refl
  shape_level_same n (step operator a) = refl
  shape_level_same n (cast type a) = refl
  shape_level_same n (sizeof_type type) = refl
  shape_level_same n (sizeof_expr a) = refl
  shape_level_same n (binary operator a b) = refl
  shape_level_same n (assign operator a b) = refl
  shape_level_same n (conditional a b c) = refl
  shape_level_same n (comma a b) = refl
  shape_level_same n (subscript a b) = refl
  shape_level_same n (member access a x) = refl
  shape_level_same n (call x es) = refl

  level_same : (n : ℕ) (e : ExprTree) → level (relabel_expr f n e) ≡ level e
  level_same n (expr node s) = shape_level_same (f.onward n 1) s

  part_with : (most n : ℕ) (e : ExprTree) → printed_expr (relabel_expr f n e) ≡ printed_expr e → printed_part most (relabel_expr f n e) ≡ printed_part most e
  part_with most n e p = rw (level_same n e, p) refl

  mutual
    expr_same : (n : ℕ) (e : ExprTree) → printed_expr (relabel_expr f n e) ≡ printed_expr e
    expr_same n (expr node s) = shape_same (f.onward n 1) s

    shape_same : (n : ℕ) (s : ShapeTree) → printed_shape (relabel_shape f n s) ≡ printed_shape s
    shape_same n (constant v unsigned) = refl
    shape_same n (text bytes) = refl
    shape_same n (name x) = refl
    shape_same n (unary operator a) = rw (part_with _ n a (expr_same n a)) refl
    shape_same n (step operator a) = rw (part_with _ n a (expr_same n a)) refl
    shape_same n (cast type a) = rw (part_with _ n a (expr_same n a)) refl
    shape_same n (sizeof_type type) = refl
    shape_same n (sizeof_expr a) = rw (part_with _ n a (expr_same n a)) refl
    shape_same n (binary operator a b) = let m : ℕ = f.onward n (expr_count a) in rw (level_same n a, expr_same n a, level_same m b, expr_same m b) refl
    shape_same n (assign operator a b) = let m : ℕ = f.onward n (expr_count a) in rw (level_same n a, expr_same n a, level_same m b, expr_same m b) refl
    shape_same n (conditional a b c) =
        let m : ℕ = f.onward n (expr_count a) in
        let k : ℕ = f.onward m (expr_count b) in
        rw (level_same n a, expr_same n a, expr_same m b, level_same k c, expr_same k c) refl
    shape_same n (comma a b) = let m : ℕ = f.onward n (expr_count a) in rw (expr_same n a, level_same m b, expr_same m b) refl
    shape_same n (subscript a b) = let m : ℕ = f.onward n (expr_count a) in rw (level_same n a, expr_same n a, expr_same m b) refl
    shape_same n (member access a x) = rw (level_same n a, expr_same n a) refl
    shape_same n (call x es) = rw (arguments_same n es) refl

    arguments_same : (n : ℕ) (es : Exprs) → printed_arguments (relabel_exprs f n es) ≡ printed_arguments es
    arguments_same n no_exprs = refl
    arguments_same n (expr_and e es) = rw (level_same n e, expr_same n e, further_same (f.onward n (expr_count e)) es) refl

    further_same : (n : ℕ) (es : Exprs) → further_arguments (relabel_exprs f n es) ≡ further_arguments es
    further_same n no_exprs = refl
    further_same n (expr_and e es) = rw (level_same n e, expr_same n e, further_same (f.onward n (expr_count e)) es) refl

  part_same : (most n : ℕ) (e : ExprTree) → printed_part most (relabel_expr f n e) ≡ printed_part most e
  part_same most n e = part_with most n e (expr_same n e)

  -- ---- declarations

  length_same : (n : ℕ) (e : ExprTree) → printed_length (relabel_expr f n e) ≡ printed_length e
  length_same n e = rw (part_same conditional_level n e) refl

  lengths_same : (n : ℕ) (l : LengthsTree) → printed_lengths (relabel_lengths f n l) ≡ printed_lengths l
  lengths_same n l = rw (row_same f printed_length expr_count (relabel_expr f) length_same n l.given) refl

  declarator_same : (n : ℕ) (d : DeclaratorTree) → printed_declarator (relabel_declarator f n d) ≡ printed_declarator d
  declarator_same n d = rw (lengths_same (f.onward n 1) d.lengths) refl

  mutual
    initialiser_same : (n : ℕ) (i : InitialiserTree) → printed_initialiser (relabel_initialiser f n i) ≡ printed_initialiser i
    initialiser_same n (value e) = part_same assignment_level n e
    initialiser_same n (list node is) = rw (initialisers_same (f.onward n 1) is) refl

    initialisers_same : (n : ℕ) (is : Initialisers) → printed_initialisers (relabel_initialisers f n is) ≡ printed_initialisers is
    initialisers_same n no_initialisers = refl
    initialisers_same n (initialiser_and i is) = rw (initialiser_same n i, further_initialisers_same (f.onward n (initialiser_count i)) is) refl

    further_initialisers_same : (n : ℕ) (is : Initialisers) → further_initialisers (relabel_initialisers f n is) ≡ further_initialisers is
    further_initialisers_same n no_initialisers = refl
    further_initialisers_same n (initialiser_and i is) = rw (initialiser_same n i, further_initialisers_same (f.onward n (initialiser_count i)) is) refl

  setting_same : (n : ℕ) (o : Option InitialiserTree) → printed_setting (relabel_option (relabel_initialiser f) n o) ≡ printed_setting o
  setting_same n None = refl
  setting_same n (Some i) = rw (initialiser_same n i) refl

  variable_same : (n : ℕ) (v : VariableTree) → printed_variable (relabel_variable f n v) ≡ printed_variable v
  variable_same n v = rw (lengths_same (f.onward n 1) v.declarator.lengths, setting_same (f.onward n (declarator_count v.declarator)) v.initialiser) refl

  declaration_same : (n : ℕ) (d : DeclarationTree) → printed_declaration (relabel_declaration f n d) ≡ printed_declaration d
  declaration_same n d = rw (commas_same f printed_variable variable_count (relabel_variable f) variable_same n d.variables) refl

  members_same : (n : ℕ) (m : MembersTree) → printed_members (relabel_members f n m) ≡ printed_members m
  members_same n m = rw (commas_same f printed_declarator declarator_count (relabel_declarator f) declarator_same n m.declarators) refl

  brackets_same : (first : Bool) (n : ℕ) (es : List ExprTree) → is_without_brackets first (relabel_all f expr_count (relabel_expr f) n es) ≡ is_without_brackets first es
  brackets_same true n es = refl
  brackets_same false n [] = refl
  brackets_same false n (e ∷ es) = refl

  parameter_same : (n : ℕ) (p : ParameterTree) → printed_parameter (relabel_parameter f n p) ≡ printed_parameter p
  parameter_same n p = rw (brackets_same p.lengths.is_open (f.onward n 1) p.lengths.given, lengths_same (f.onward n 1) p.lengths) refl

  parameters_same : (n : ℕ) (ps : List ParameterTree) → printed_parameters (relabel_all f parameter_count (relabel_parameter f) n ps) ≡ printed_parameters ps
  parameters_same n [] = refl
  parameters_same n (p ∷ ps) = commas_same f printed_parameter parameter_count (relabel_parameter f) parameter_same n (p ∷ ps)

  -- ---- statements

  optional_same : (n : ℕ) (o : Option ExprTree) → printed_optional (relabel_option (relabel_expr f) n o) ≡ printed_optional o
  optional_same n None = refl
  optional_same n (Some e) = expr_same n e

  start_same : (n : ℕ) (a : StartTree) → printed_start (relabel_start f n a) ≡ printed_start a
  start_same n no_start = refl
  start_same n (start_expression e) = rw (expr_same n e) refl
  start_same n (start_declaration d) = declaration_same n d

  mutual
    stmt_same : (n : ℕ) (s : StmtTree) → printed_stmt (relabel_stmt f n s) ≡ printed_stmt s
    stmt_same n (empty node) = refl
    stmt_same n (expression node e) = rw (expr_same (f.onward n 1) e) refl
    stmt_same n (declaration d) = declaration_same n d
    stmt_same n (block ss) = rw (stmts_same n ss) refl
    stmt_same n (switch node e ss) = let i : ℕ = f.onward n 1 in rw (expr_same i e, stmts_same (f.onward i (expr_count e)) ss) refl
    stmt_same n (case_label node e) = rw (part_same conditional_level (f.onward n 1) e) refl
    stmt_same n (default_label node) = refl
    stmt_same n (branch node e s r) =
        let i : ℕ = f.onward n 1 in
        let j : ℕ = f.onward i (expr_count e) in
        rw (expr_same i e, stmt_same j s, else_same (f.onward j (stmt_count s)) r) refl
    stmt_same n (while_loop node e s) = let i : ℕ = f.onward n 1 in rw (expr_same i e, stmt_same (f.onward i (expr_count e)) s) refl
    stmt_same n (do_loop node s e) = let i : ℕ = f.onward n 1 in rw (stmt_same i s, expr_same (f.onward i (stmt_count s)) e) refl
    stmt_same n (for_loop node a e u s) =
        let i : ℕ = f.onward n 1 in
        let j : ℕ = f.onward i (start_count a) in
        let k : ℕ = f.onward j (option_count expr_count e) in
        rw (start_same i a, optional_same j e, optional_same k u, stmt_same (f.onward k (option_count expr_count u)) s) refl
    stmt_same n (break node) = refl
    stmt_same n (continue node) = refl
    stmt_same n (return node e) = rw (optional_same (f.onward n 1) e) refl

    stmts_same : (n : ℕ) (ss : Stmts) → printed_stmts (relabel_stmts f n ss) ≡ printed_stmts ss
    stmts_same n no_stmts = refl
    stmts_same n (stmt_and s ss) = rw (stmt_same n s, stmts_same (f.onward n (stmt_count s)) ss) refl

    else_same : (n : ℕ) (r : Else) → printed_else (relabel_else f n r) ≡ printed_else r
    else_same n no_else = refl
    else_same n (else_by s) = rw (stmt_same n s) refl

  -- ---- what stands at file scope

  struct_same : (n : ℕ) (s : StructTree) → printed_struct (relabel_struct f n s) ≡ printed_struct s
  struct_same n s = rw (row_same f printed_members members_count (relabel_members f) members_same (f.onward n 1) s.members) refl

  braces_same : (n : ℕ) (s : StructTree) → printed_braces (relabel_struct f n s) ≡ printed_braces s
  braces_same n s = rw (row_same f printed_members members_count (relabel_members f) members_same (f.onward n 1) s.members) refl

  defined_same : (n : ℕ) (d : DefinedTree) → printed_defined (relabel_defined f n d) ≡ printed_defined d
  defined_same n (of_struct s) = braces_same n s
  defined_same n (of_base base) = refl

  typedef_same : (n : ℕ) (t : TypedefTree) → printed_typedef (relabel_typedef f n t) ≡ printed_typedef t
  typedef_same n t = rw (defined_same n t.defined, commas_same f printed_declarator declarator_count (relabel_declarator f) declarator_same (f.onward n (defined_count t.defined)) t.names) refl

  body_same : (n : ℕ) (o : Option Stmts) → printed_body (relabel_option (relabel_stmts f) n o) ≡ printed_body o
  body_same n None = refl
  body_same n (Some ss) = rw (stmts_same n ss) refl

  function_same : (n : ℕ) (d : FunctionTree) → printed_function (relabel_function f n d) ≡ printed_function d
  function_same n d = rw (parameters_same (f.onward n 1) d.parameters, body_same (f.onward (f.onward n 1) (all_count parameter_count d.parameters)) d.body) refl

  decl_same : (n : ℕ) (d : DeclTree) → printed_decl (relabel_decl f n d) ≡ printed_decl d
  decl_same n (structure s) = struct_same n s
  decl_same n (forward d) = refl
  decl_same n (typedef t) = typedef_same n t
  decl_same n (function d) = function_same n d
  decl_same n (variables d) = declaration_same n d

  pub unit_same : (ds : List DeclTree) → printed_unit (relabel_unit f ds) ≡ printed_unit ds
  unit_same ds = row_same f printed_decl decl_count (relabel_decl f) decl_same 0 ds
