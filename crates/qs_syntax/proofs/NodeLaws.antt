-- The nodes of a tree, and the tokens that they begin at: their list is as long as their count says, and has each at its number.
use Rattle.std.proofs.Common.{◌≡◌, ℕ, ◌+◌, zero, suc, List, [], ◌∷◌, ◌++◌, Option, Some, None, length, refl, sym, ap, ◌∙◌, arith}
use Rattle.std.specs.List.{slice_get}
use Rattle.std.proofs.lemmas.List.{map-append, length-append}
use Rattle.qs_syntax.specs.declared.nodes.Node.{Node}
use Rattle.qs_syntax.specs.Trees.{ExprTree, expr, ShapeTree, constant, text, name, unary, step, cast, sizeof_type, sizeof_expr, binary, assign, conditional, comma, subscript, member, call, Exprs, no_exprs, expr_and, LengthsTree, DeclaratorTree, InitialiserTree, value, list, Initialisers, no_initialisers, initialiser_and, VariableTree, DeclarationTree, ParameterTree, MembersTree, StartTree, no_start, start_expression, start_declaration, StmtTree, empty, expression, declaration, block, switch, case_label, default_label, branch, while_loop, do_loop, for_loop, break, continue, return, Stmts, no_stmts, stmt_and, Else, no_else, else_by, StructTree, DefinedTree, of_struct, of_base, TypedefTree, FunctionTree, DeclTree, structure, forward, typedef, function, variables, UnitTree}
use Rattle.qs_syntax.specs.Nodes.{tokens_of, all_count, option_count, expr_count, shape_count, exprs_count, lengths_count, declarator_count, initialiser_count, initialisers_count, variable_count, declaration_count, parameter_count, members_count, start_count, stmt_count, stmts_count, else_count, struct_count, defined_count, typedef_count, function_count, decl_count, unit_count, all_nodes, option_nodes, expr_nodes, shape_nodes, exprs_nodes, lengths_nodes, declarator_nodes, initialiser_nodes, initialisers_nodes, variable_nodes, declaration_nodes, parameter_nodes, members_nodes, start_nodes, stmt_nodes, stmts_nodes, else_nodes, struct_nodes, defined_nodes, typedef_nodes, function_nodes, decl_nodes, unit_nodes}
use Rattle.qs_syntax.specs.Numbering.{relabel_nodes, relabel_all, relabel_option, relabel_expr, relabel_shape, relabel_exprs, relabel_lengths, relabel_declarator, relabel_initialiser, relabel_initialisers, relabel_variable, relabel_declaration, relabel_parameter, relabel_members, relabel_start, relabel_stmt, relabel_stmts, relabel_else, relabel_struct, relabel_defined, relabel_typedef, relabel_decl, numbered, numbered_unit}

-- ---- tokens

-- the tokens of some nodes and of further ones stand behind one another
pub tokens_of_both : (a b : List Node) → tokens_of (a ++ b) ≡ tokens_of a ++ tokens_of b
tokens_of_both a b = map-append (λ n. n.token) a b

-- ---- the list is as long as the count says

one_node : (x : Node) (a : List Node) (m : ℕ) → length a ≡ m → length (x ∷ a) ≡ 1 + m
one_node x a m p = omega (arith, p)

two_parts : (a b : List Node) (m n : ℕ) → length a ≡ m → length b ≡ n → length (a ++ b) ≡ m + n
two_parts a b m n p q = length-append a b ∙ (λ i. p i + q i)

module _ {A : Type 0} (count : A → ℕ) (nodes : A → List Node) (counted : (x : A) → length (nodes x) ≡ count x) where
  all_length : (xs : List A) → length (all_nodes nodes xs) ≡ all_count count xs
  all_length [] = refl
  all_length (x ∷ xs) = two_parts (nodes x) (all_nodes nodes xs) (count x) (all_count count xs) (counted x) (all_length xs)

  option_length : (o : Option A) → length (option_nodes nodes o) ≡ option_count count o
  option_length None = refl
  option_length (Some x) = counted x

mutual
  pub expr_length : (e : ExprTree) → length (expr_nodes e) ≡ expr_count e
  expr_length (expr node s) = one_node node (shape_nodes s) (shape_count s) (shape_length s)

  shape_length : (s : ShapeTree) → length (shape_nodes s) ≡ shape_count s
  shape_length (constant k unsigned) = refl
  shape_length (text bytes) = refl
  shape_length (name x) = refl
  shape_length (unary operator a) = expr_length a
  shape_length (step operator a) = expr_length a
  shape_length (cast type a) = expr_length a
  shape_length (sizeof_type type) = refl
  shape_length (sizeof_expr a) = expr_length a
  shape_length (binary operator a b) = two_parts (expr_nodes a) (expr_nodes b) (expr_count a) (expr_count b) (expr_length a) (expr_length b)
  shape_length (assign operator a b) = two_parts (expr_nodes a) (expr_nodes b) (expr_count a) (expr_count b) (expr_length a) (expr_length b)
  shape_length (conditional a b c) =
      let p : length (expr_nodes a) ≡ expr_count a = expr_length a in
      let q : length (expr_nodes b ++ expr_nodes c) ≡ expr_count b + expr_count c = two_parts (expr_nodes b) (expr_nodes c) (expr_count b) (expr_count c) (expr_length b) (expr_length c) in
      let e : length (expr_nodes a ++ (expr_nodes b ++ expr_nodes c)) ≡ length (expr_nodes a) + length (expr_nodes b ++ expr_nodes c) = length-append (expr_nodes a) (expr_nodes b ++ expr_nodes c) in
      omega (arith, p, q, e)
  shape_length (comma a b) = two_parts (expr_nodes a) (expr_nodes b) (expr_count a) (expr_count b) (expr_length a) (expr_length b)
  shape_length (subscript a b) = two_parts (expr_nodes a) (expr_nodes b) (expr_count a) (expr_count b) (expr_length a) (expr_length b)
  shape_length (member access a x) = expr_length a
  shape_length (call x es) = exprs_length es

  exprs_length : (es : Exprs) → length (exprs_nodes es) ≡ exprs_count es
  exprs_length no_exprs = refl
  exprs_length (expr_and e es) = two_parts (expr_nodes e) (exprs_nodes es) (expr_count e) (exprs_count es) (expr_length e) (exprs_length es)

lengths_length : (l : LengthsTree) → length (lengths_nodes l) ≡ lengths_count l
lengths_length l = all_length expr_count expr_nodes expr_length l.given

declarator_length : (d : DeclaratorTree) → length (declarator_nodes d) ≡ declarator_count d
declarator_length d = one_node d.node (lengths_nodes d.lengths) (lengths_count d.lengths) (lengths_length d.lengths)

mutual
  initialiser_length : (i : InitialiserTree) → length (initialiser_nodes i) ≡ initialiser_count i
  initialiser_length (value e) = expr_length e
  initialiser_length (list node is) = one_node node (initialisers_nodes is) (initialisers_count is) (initialisers_length is)

  initialisers_length : (is : Initialisers) → length (initialisers_nodes is) ≡ initialisers_count is
  initialisers_length no_initialisers = refl
  initialisers_length (initialiser_and i is) = two_parts (initialiser_nodes i) (initialisers_nodes is) (initialiser_count i) (initialisers_count is) (initialiser_length i) (initialisers_length is)

variable_length : (v : VariableTree) → length (variable_nodes v) ≡ variable_count v
variable_length v =
    two_parts (declarator_nodes v.declarator) (option_nodes initialiser_nodes v.initialiser) (declarator_count v.declarator) (option_count initialiser_count v.initialiser) (declarator_length v.declarator)
    (option_length initialiser_count initialiser_nodes initialiser_length v.initialiser)

declaration_length : (d : DeclarationTree) → length (declaration_nodes d) ≡ declaration_count d
declaration_length d = all_length variable_count variable_nodes variable_length d.variables

parameter_length : (p : ParameterTree) → length (parameter_nodes p) ≡ parameter_count p
parameter_length p = one_node p.node (lengths_nodes p.lengths) (lengths_count p.lengths) (lengths_length p.lengths)

members_length : (m : MembersTree) → length (members_nodes m) ≡ members_count m
members_length m = all_length declarator_count declarator_nodes declarator_length m.declarators

start_length : (a : StartTree) → length (start_nodes a) ≡ start_count a
start_length no_start = refl
start_length (start_expression e) = expr_length e
start_length (start_declaration d) = declaration_length d

maybe_length : (o : Option ExprTree) → length (option_nodes expr_nodes o) ≡ option_count expr_count o
maybe_length = option_length expr_count expr_nodes expr_length

-- a node with two, three or four parts
node_two : (x : Node) (a b : List Node) (l m : ℕ) → length a ≡ l → length b ≡ m → length (x ∷ (a ++ b)) ≡ 1 + l + m
node_two x a b l m p q =
    let e : length (a ++ b) ≡ length a + length b = length-append a b in
    omega (arith, e, p, q)

node_three : (x : Node) (a b c : List Node) (l m n : ℕ) → length a ≡ l → length b ≡ m → length c ≡ n → length (x ∷ (a ++ (b ++ c))) ≡ 1 + l + m + n
node_three x a b c l m n p q r =
    let e : length (a ++ (b ++ c)) ≡ length a + length (b ++ c) = length-append a (b ++ c) in
    let f : length (b ++ c) ≡ length b + length c = length-append b c in
    omega (arith, e, f, p, q, r)

node_four : (x : Node) (a b c d : List Node) (k l m n : ℕ) → length a ≡ k → length b ≡ l → length c ≡ m → length d ≡ n → length (x ∷ (a ++ (b ++ (c ++ d)))) ≡ 1 + k + l + m + n
node_four x a b c d k l m n o p q r =
    let e : length (a ++ (b ++ (c ++ d))) ≡ length a + length (b ++ (c ++ d)) = length-append a (b ++ (c ++ d)) in
    let f : length (b ++ (c ++ d)) ≡ length b + length (c ++ d) = length-append b (c ++ d) in
    let g : length (c ++ d) ≡ length c + length d = length-append c d in
    omega (arith, e, f, g, o, p, q, r)

mutual
  stmt_length : (s : StmtTree) → length (stmt_nodes s) ≡ stmt_count s
  stmt_length (empty node) = refl
  stmt_length (expression node e) = one_node node (expr_nodes e) (expr_count e) (expr_length e)
  stmt_length (declaration d) = declaration_length d
  stmt_length (block ss) = stmts_length ss
  stmt_length (switch node e ss) = node_two node (expr_nodes e) (stmts_nodes ss) (expr_count e) (stmts_count ss) (expr_length e) (stmts_length ss)
  stmt_length (case_label node e) = one_node node (expr_nodes e) (expr_count e) (expr_length e)
  stmt_length (default_label node) = refl
  stmt_length (branch node e s r) = node_three node (expr_nodes e) (stmt_nodes s) (else_nodes r) (expr_count e) (stmt_count s) (else_count r) (expr_length e) (stmt_length s) (else_length r)
  stmt_length (while_loop node e s) = node_two node (expr_nodes e) (stmt_nodes s) (expr_count e) (stmt_count s) (expr_length e) (stmt_length s)
  stmt_length (do_loop node s e) = node_two node (stmt_nodes s) (expr_nodes e) (stmt_count s) (expr_count e) (stmt_length s) (expr_length e)
  stmt_length (for_loop node a e u s) =
      node_four node (start_nodes a) (option_nodes expr_nodes e) (option_nodes expr_nodes u) (stmt_nodes s) (start_count a) (option_count expr_count e) (option_count expr_count u) (stmt_count s) (start_length a) (maybe_length e) (maybe_length u) (stmt_length s)
  stmt_length (break node) = refl
  stmt_length (continue node) = refl
  stmt_length (return node e) = one_node node (option_nodes expr_nodes e) (option_count expr_count e) (maybe_length e)

  stmts_length : (ss : Stmts) → length (stmts_nodes ss) ≡ stmts_count ss
  stmts_length no_stmts = refl
  stmts_length (stmt_and s ss) = two_parts (stmt_nodes s) (stmts_nodes ss) (stmt_count s) (stmts_count ss) (stmt_length s) (stmts_length ss)

  else_length : (r : Else) → length (else_nodes r) ≡ else_count r
  else_length no_else = refl
  else_length (else_by s) = stmt_length s

struct_length : (s : StructTree) → length (struct_nodes s) ≡ struct_count s
struct_length s = one_node s.node (all_nodes members_nodes s.members) (all_count members_count s.members) (all_length members_count members_nodes members_length s.members)

defined_length : (d : DefinedTree) → length (defined_nodes d) ≡ defined_count d
defined_length (of_struct s) = struct_length s
defined_length (of_base b) = refl

typedef_length : (t : TypedefTree) → length (typedef_nodes t) ≡ typedef_count t
typedef_length t =
    two_parts (defined_nodes t.defined) (all_nodes declarator_nodes t.names) (defined_count t.defined) (all_count declarator_count t.names) (defined_length t.defined) (all_length declarator_count declarator_nodes declarator_length t.names)

function_length : (f : FunctionTree) → length (function_nodes f) ≡ function_count f
function_length f =
    node_two f.node (all_nodes parameter_nodes f.parameters) (option_nodes stmts_nodes f.body) (all_count parameter_count f.parameters) (option_count stmts_count f.body)
    (all_length parameter_count parameter_nodes parameter_length f.parameters) (option_length stmts_count stmts_nodes stmts_length f.body)

decl_length : (d : DeclTree) → length (decl_nodes d) ≡ decl_count d
decl_length (structure s) = struct_length s
decl_length (forward f) = refl
decl_length (typedef t) = typedef_length t
decl_length (function f) = function_length f
decl_length (variables d) = declaration_length d

pub unit_length : (ds : UnitTree) → length (unit_nodes ds) ≡ unit_count ds
unit_length = all_length decl_count decl_nodes decl_length

-- ---- each node at its number

relabelled_both : (n : ℕ) (a b : List Node) → relabel_nodes numbered n a ++ relabel_nodes numbered (n + length a) b ≡ relabel_nodes numbered n (a ++ b)
relabelled_both n [] b =
    let e : n + length {A = Node} [] ≡ n = omega arith in
    ap (λ k. relabel_nodes numbered k b) e
relabelled_both n (x ∷ a) b =
    let e : n + length (x ∷ a) ≡ n + 1 + length a = omega arith in
    ap (λ l. numbered.label n x ∷ l) (ap (λ k. relabel_nodes numbered (n + 1) a ++ relabel_nodes numbered k b) e ∙ relabelled_both (n + 1) a b)

both_at : (n m : ℕ) (a b p q : List Node) → length a ≡ m → p ≡ relabel_nodes numbered n a → q ≡ relabel_nodes numbered (n + m) b → p ++ q ≡ relabel_nodes numbered n (a ++ b)
both_at n m a b p q l h k = (λ i. h i ++ k i) ∙ ap (λ j. relabel_nodes numbered n a ++ relabel_nodes numbered (n + j) b) (sym l) ∙ relabelled_both n a b

module _ {A : Type 0} (count : A → ℕ) (nodes : A → List Node) (relabel : ℕ → A → A) (counted : (x : A) → length (nodes x) ≡ count x) (at : (n : ℕ) (x : A) → nodes (relabel n x) ≡ relabel_nodes numbered n (nodes x)) where
  all_at : (n : ℕ) (xs : List A) → all_nodes nodes (relabel_all numbered count relabel n xs) ≡ relabel_nodes numbered n (all_nodes nodes xs)
  all_at n [] = refl
  all_at n (x ∷ xs) = both_at n (count x) (nodes x) (all_nodes nodes xs) _ _ (counted x) (at n x) (all_at (n + count x) xs)

module _ {A : Type 0} (nodes : A → List Node) (relabel : ℕ → A → A) (at : (n : ℕ) (x : A) → nodes (relabel n x) ≡ relabel_nodes numbered n (nodes x)) where
  option_at : (n : ℕ) (o : Option A) → option_nodes nodes (relabel_option relabel n o) ≡ relabel_nodes numbered n (option_nodes nodes o)
  option_at n None = refl
  option_at n (Some x) = at n x

mutual
  expr_at : (n : ℕ) (e : ExprTree) → expr_nodes (relabel_expr numbered n e) ≡ relabel_nodes numbered n (expr_nodes e)
  expr_at n (expr node s) = ap (λ l. numbered.label n node ∷ l) (shape_at (n + 1) s)

  shape_at : (n : ℕ) (s : ShapeTree) → shape_nodes (relabel_shape numbered n s) ≡ relabel_nodes numbered n (shape_nodes s)
  shape_at n (constant k unsigned) = refl
  shape_at n (text bytes) = refl
  shape_at n (name x) = refl
  shape_at n (unary operator a) = expr_at n a
  shape_at n (step operator a) = expr_at n a
  shape_at n (cast type a) = expr_at n a
  shape_at n (sizeof_type type) = refl
  shape_at n (sizeof_expr a) = expr_at n a
  shape_at n (binary operator a b) = both_at n (expr_count a) (expr_nodes a) (expr_nodes b) _ _ (expr_length a) (expr_at n a) (expr_at (n + expr_count a) b)
  shape_at n (assign operator a b) = both_at n (expr_count a) (expr_nodes a) (expr_nodes b) _ _ (expr_length a) (expr_at n a) (expr_at (n + expr_count a) b)
  shape_at n (conditional a b c) =
      let k : ℕ = n + expr_count a in
      both_at n (expr_count a) (expr_nodes a) (expr_nodes b ++ expr_nodes c) _ _ (expr_length a) (expr_at n a) (both_at k (expr_count b) (expr_nodes b) (expr_nodes c) _ _ (expr_length b) (expr_at k b) (expr_at (k + expr_count b) c))
  shape_at n (comma a b) = both_at n (expr_count a) (expr_nodes a) (expr_nodes b) _ _ (expr_length a) (expr_at n a) (expr_at (n + expr_count a) b)
  shape_at n (subscript a b) = both_at n (expr_count a) (expr_nodes a) (expr_nodes b) _ _ (expr_length a) (expr_at n a) (expr_at (n + expr_count a) b)
  shape_at n (member access a x) = expr_at n a
  shape_at n (call x es) = exprs_at n es

  exprs_at : (n : ℕ) (es : Exprs) → exprs_nodes (relabel_exprs numbered n es) ≡ relabel_nodes numbered n (exprs_nodes es)
  exprs_at n no_exprs = refl
  exprs_at n (expr_and e es) = both_at n (expr_count e) (expr_nodes e) (exprs_nodes es) _ _ (expr_length e) (expr_at n e) (exprs_at (n + expr_count e) es)

lengths_at : (n : ℕ) (l : LengthsTree) → lengths_nodes (relabel_lengths numbered n l) ≡ relabel_nodes numbered n (lengths_nodes l)
lengths_at n l = all_at expr_count expr_nodes (relabel_expr numbered) expr_length expr_at n l.given

declarator_at : (n : ℕ) (d : DeclaratorTree) → declarator_nodes (relabel_declarator numbered n d) ≡ relabel_nodes numbered n (declarator_nodes d)
declarator_at n d = ap (λ l. numbered.label n d.node ∷ l) (lengths_at (n + 1) d.lengths)

mutual
  initialiser_at : (n : ℕ) (i : InitialiserTree) → initialiser_nodes (relabel_initialiser numbered n i) ≡ relabel_nodes numbered n (initialiser_nodes i)
  initialiser_at n (value e) = expr_at n e
  initialiser_at n (list node is) = ap (λ l. numbered.label n node ∷ l) (initialisers_at (n + 1) is)

  initialisers_at : (n : ℕ) (is : Initialisers) → initialisers_nodes (relabel_initialisers numbered n is) ≡ relabel_nodes numbered n (initialisers_nodes is)
  initialisers_at n no_initialisers = refl
  initialisers_at n (initialiser_and i is) = both_at n (initialiser_count i) (initialiser_nodes i) (initialisers_nodes is) _ _ (initialiser_length i) (initialiser_at n i) (initialisers_at (n + initialiser_count i) is)

variable_at : (n : ℕ) (v : VariableTree) → variable_nodes (relabel_variable numbered n v) ≡ relabel_nodes numbered n (variable_nodes v)
variable_at n v =
    both_at n (declarator_count v.declarator) (declarator_nodes v.declarator) (option_nodes initialiser_nodes v.initialiser) _ _ (declarator_length v.declarator) (declarator_at n v.declarator)
    (option_at initialiser_nodes (relabel_initialiser numbered) initialiser_at (n + declarator_count v.declarator) v.initialiser)

declaration_at : (n : ℕ) (d : DeclarationTree) → declaration_nodes (relabel_declaration numbered n d) ≡ relabel_nodes numbered n (declaration_nodes d)
declaration_at n d = all_at variable_count variable_nodes (relabel_variable numbered) variable_length variable_at n d.variables

parameter_at : (n : ℕ) (p : ParameterTree) → parameter_nodes (relabel_parameter numbered n p) ≡ relabel_nodes numbered n (parameter_nodes p)
parameter_at n p = ap (λ l. numbered.label n p.node ∷ l) (lengths_at (n + 1) p.lengths)

members_at : (n : ℕ) (m : MembersTree) → members_nodes (relabel_members numbered n m) ≡ relabel_nodes numbered n (members_nodes m)
members_at n m = all_at declarator_count declarator_nodes (relabel_declarator numbered) declarator_length declarator_at n m.declarators

start_at : (n : ℕ) (a : StartTree) → start_nodes (relabel_start numbered n a) ≡ relabel_nodes numbered n (start_nodes a)
start_at n no_start = refl
start_at n (start_expression e) = expr_at n e
start_at n (start_declaration d) = declaration_at n d

maybe_at : (n : ℕ) (o : Option ExprTree) → option_nodes expr_nodes (relabel_option (relabel_expr numbered) n o) ≡ relabel_nodes numbered n (option_nodes expr_nodes o)
maybe_at = option_at expr_nodes (relabel_expr numbered) expr_at

mutual
  stmt_at : (n : ℕ) (s : StmtTree) → stmt_nodes (relabel_stmt numbered n s) ≡ relabel_nodes numbered n (stmt_nodes s)
  stmt_at n (empty node) = refl
  stmt_at n (expression node e) = ap (λ l. numbered.label n node ∷ l) (expr_at (n + 1) e)
  stmt_at n (declaration d) = declaration_at n d
  stmt_at n (block ss) = stmts_at n ss
  stmt_at n (switch node e ss) = ap (λ l. numbered.label n node ∷ l) (both_at (n + 1) (expr_count e) (expr_nodes e) (stmts_nodes ss) _ _ (expr_length e) (expr_at (n + 1) e) (stmts_at (n + 1 + expr_count e) ss))
  stmt_at n (case_label node e) = ap (λ l. numbered.label n node ∷ l) (expr_at (n + 1) e)
  stmt_at n (default_label node) = refl
  stmt_at n (branch node e s r) =
      let k : ℕ = n + 1 + expr_count e in
      ap (λ l. numbered.label n node ∷ l)
      (both_at (n + 1) (expr_count e) (expr_nodes e) (stmt_nodes s ++ else_nodes r) _ _ (expr_length e) (expr_at (n + 1) e)
      (both_at k (stmt_count s) (stmt_nodes s) (else_nodes r) _ _ (stmt_length s) (stmt_at k s) (else_at (k + stmt_count s) r)))
  stmt_at n (while_loop node e s) = ap (λ l. numbered.label n node ∷ l) (both_at (n + 1) (expr_count e) (expr_nodes e) (stmt_nodes s) _ _ (expr_length e) (expr_at (n + 1) e) (stmt_at (n + 1 + expr_count e) s))
  stmt_at n (do_loop node s e) = ap (λ l. numbered.label n node ∷ l) (both_at (n + 1) (stmt_count s) (stmt_nodes s) (expr_nodes e) _ _ (stmt_length s) (stmt_at (n + 1) s) (expr_at (n + 1 + stmt_count s) e))
  stmt_at n (for_loop node a e u s) =
      let i : ℕ = n + 1 + start_count a in
      let j : ℕ = i + option_count expr_count e in
      let k : ℕ = j + option_count expr_count u in
      ap (λ l. numbered.label n node ∷ l)
      (both_at (n + 1) (start_count a) (start_nodes a) (option_nodes expr_nodes e ++ (option_nodes expr_nodes u ++ stmt_nodes s)) _ _ (start_length a) (start_at (n + 1) a)
      (both_at i (option_count expr_count e) (option_nodes expr_nodes e) (option_nodes expr_nodes u ++ stmt_nodes s) _ _ (maybe_length e) (maybe_at i e)
      (both_at j (option_count expr_count u) (option_nodes expr_nodes u) (stmt_nodes s) _ _ (maybe_length u) (maybe_at j u) (stmt_at k s))))
  stmt_at n (break node) = refl
  stmt_at n (continue node) = refl
  stmt_at n (return node e) = ap (λ l. numbered.label n node ∷ l) (maybe_at (n + 1) e)

  stmts_at : (n : ℕ) (ss : Stmts) → stmts_nodes (relabel_stmts numbered n ss) ≡ relabel_nodes numbered n (stmts_nodes ss)
  stmts_at n no_stmts = refl
  stmts_at n (stmt_and s ss) = both_at n (stmt_count s) (stmt_nodes s) (stmts_nodes ss) _ _ (stmt_length s) (stmt_at n s) (stmts_at (n + stmt_count s) ss)

  else_at : (n : ℕ) (r : Else) → else_nodes (relabel_else numbered n r) ≡ relabel_nodes numbered n (else_nodes r)
  else_at n no_else = refl
  else_at n (else_by s) = stmt_at n s

struct_at : (n : ℕ) (s : StructTree) → struct_nodes (relabel_struct numbered n s) ≡ relabel_nodes numbered n (struct_nodes s)
struct_at n s = ap (λ l. numbered.label n s.node ∷ l) (all_at members_count members_nodes (relabel_members numbered) members_length members_at (n + 1) s.members)

defined_at : (n : ℕ) (d : DefinedTree) → defined_nodes (relabel_defined numbered n d) ≡ relabel_nodes numbered n (defined_nodes d)
defined_at n (of_struct s) = struct_at n s
defined_at n (of_base b) = refl

typedef_at : (n : ℕ) (t : TypedefTree) → typedef_nodes (relabel_typedef numbered n t) ≡ relabel_nodes numbered n (typedef_nodes t)
typedef_at n t =
    both_at n (defined_count t.defined) (defined_nodes t.defined) (all_nodes declarator_nodes t.names) _ _ (defined_length t.defined) (defined_at n t.defined)
    (all_at declarator_count declarator_nodes (relabel_declarator numbered) declarator_length declarator_at (n + defined_count t.defined) t.names)

decl_at : (n : ℕ) (d : DeclTree) → decl_nodes (relabel_decl numbered n d) ≡ relabel_nodes numbered n (decl_nodes d)
decl_at n (structure s) = struct_at n s
decl_at n (forward f) = refl
decl_at n (typedef t) = typedef_at n t
decl_at n (function f) =
    ap (λ l. numbered.label n f.node ∷ l)
    (both_at (n + 1) (all_count parameter_count f.parameters) (all_nodes parameter_nodes f.parameters) (option_nodes stmts_nodes f.body) _ _ (all_length parameter_count parameter_nodes parameter_length f.parameters)
    (all_at parameter_count parameter_nodes (relabel_parameter numbered) parameter_length parameter_at (n + 1) f.parameters) (option_at stmts_nodes (relabel_stmts numbered) stmts_at (n + 1 + all_count parameter_count f.parameters) f.body))
decl_at n (variables d) = declaration_at n d

pub unit_at : (ds : UnitTree) → unit_nodes (numbered_unit ds) ≡ relabel_nodes numbered 0 (unit_nodes ds)
unit_at ds = all_at decl_count decl_nodes (relabel_decl numbered) decl_length decl_at 0 ds

-- the numbers alone change
pub same_tokens : (n : ℕ) (nodes : List Node) → tokens_of (relabel_nodes numbered n nodes) ≡ tokens_of nodes
same_tokens n [] = refl
same_tokens n (x ∷ xs) = ap (λ l. x.token ∷ l) (same_tokens (n + 1) xs)

-- the node at a place has the place for its number
pub node_at : (n : ℕ) (nodes : List Node) (i token : ℕ) → slice_get (tokens_of nodes) i ≡ Some token → slice_get (relabel_nodes numbered n nodes) i ≡ Some (record { id = n + i; token = token })
node_at n [] i token h = absurd (cc)
node_at n (x ∷ xs) zero token h =
    let e : n + zero ≡ n = omega arith in
    let f : x.token ≡ token = grind (arith, h) in
    λ j. Some (record { id = sym e j; token = f j })
node_at n (x ∷ xs) (suc i) token h =
    let e : n + 1 + i ≡ n + suc i = omega arith in
    node_at (n + 1) xs i token h ∙ ap (λ k. Some (record { id = k; token = token })) e
