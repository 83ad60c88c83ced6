-- What a function declares stands among its nodes in order, and its variables are among what it declares.
use Rattle.std.proofs.Common.{◌≡◌, ℕ, ◌==◌, ◌||◌, not, Bool, true, false, cond, List, [], ◌∷◌, ◌++◌, map, filter, Option, Some, refl, sym, ap, ◌∙◌, subst}
use Rattle.std.proofs.lemmas.List.{map-append}
use Rattle.std.proofs.lemmas.Bool.{and_parts, or_right, and_from}
use Rattle.qs_syntax.specs.declared.types.Base.{Base}
use Rattle.qs_syntax.specs.declared.nodes.Node.{Node}
use Rattle.qs_syntax.specs.Trees.{VariableTree, ParameterTree, StartTree, no_start, start_expression, start_declaration, StmtTree, empty, expression, declaration, block, switch, case_label, default_label, branch, while_loop, do_loop, for_loop, break, continue, return, Stmts, no_stmts, stmt_and, Else, no_else, else_by, FunctionTree}
use Rattle.qs_syntax.specs.Nodes.{all_nodes, option_nodes, expr_nodes, lengths_nodes, initialiser_nodes, variable_nodes, parameter_nodes, start_nodes, stmt_nodes, stmts_nodes, else_nodes, function_nodes}
use Rattle.qs_types.specs.Contexts.{Context, inner_scope, inside_loop}
use Rattle.qs_types.specs.StatementRules.{after_variable, after_statement, switch_context, for_context}
use Rattle.qs_types.specs.UnitRules.{parameter_types, after_parameter}
use Rattle.qs_types.specs.Placed.{Local, is_one_of, variables_locals, start_locals, statement_locals, statements_locals, else_locals, parameters_locals}
use Rattle.qs_meaning.specs.Units.{nodes_of}
use Rattle.qs_meaning.specs.FitLaws.{are_different}
use Rattle.qs_elaborate_bodies.specs.Names.{Declared, declared_variable, declared_parameter, start_declares, statement_declares, statements_declare, else_declares, function_declares}
use Rattle.qs_elaborate_laws.proofs.FitNames.{nodes_declared}

-- ---- a list without some of its elements

pub data IsPart : (some all : List ℕ) → Type 0 where
  nothing : IsPart [] []
  taken : (x : ℕ) (xs ys : List ℕ) → IsPart xs ys → IsPart (x ∷ xs) (x ∷ ys)
  left_out : (y : ℕ) (xs ys : List ℕ) → IsPart xs ys → IsPart xs (y ∷ ys)

pub part_none : (ys : List ℕ) → IsPart [] ys
part_none [] = nothing
part_none (y ∷ ys) = left_out y [] ys (part_none ys)

pub part_self : (xs : List ℕ) → IsPart xs xs
part_self [] = nothing
part_self (x ∷ xs) = taken x xs xs (part_self xs)

pub part_behind : (xs ys zs : List ℕ) → IsPart xs zs → IsPart xs (ys ++ zs)
part_behind xs [] zs h = h
part_behind xs (y ∷ ys) zs h = left_out y xs (ys ++ zs) (part_behind xs ys zs h)

pub part_both : (vs xs ws ys : List ℕ) → IsPart vs xs → IsPart ws ys → IsPart (vs ++ ws) (xs ++ ys)
part_both _ _ ws ys nothing k = k
part_both _ _ ws ys (taken x vs xs h) k = taken x (vs ++ ws) (xs ++ ys) (part_both vs xs ws ys h k)
part_both _ _ ws ys (left_out x vs xs h) k = left_out x (vs ++ ws) (xs ++ ys) (part_both vs xs ws ys h k)

pub part_front : (xs ys zs : List ℕ) → IsPart xs ys → IsPart xs (ys ++ zs)
part_front _ _ zs nothing = part_none zs
part_front _ _ zs (taken x xs ys h) = taken x xs (ys ++ zs) (part_front xs ys zs h)
part_front _ _ zs (left_out y xs ys h) = left_out y xs (ys ++ zs) (part_front xs ys zs h)

pub part_in : (xs ys : List ℕ) → IsPart xs ys → (n : ℕ) → is_one_of n xs ≡ true → is_one_of n ys ≡ true
part_in _ _ nothing n h = h
part_in _ _ (taken x xs ys k) n h = by_test (x == n) (is_one_of n xs) (is_one_of n ys) (part_in xs ys k n) h
  where
    by_test : (a b c : Bool) → (b ≡ true → c ≡ true) → (a || b) ≡ true → (a || c) ≡ true
    by_test true b c f h = refl
    by_test false b c f h = f h
part_in _ _ (left_out y xs ys k) n h = or_right (y == n) (is_one_of n ys) (part_in xs ys k n h)

pub part_different : (xs ys : List ℕ) → IsPart xs ys → are_different ys ≡ true → are_different xs ≡ true
part_different _ _ nothing h = refl
part_different _ _ (taken x xs ys k) h =
    let two = and_parts (not (is_one_of x ys)) _ h in
    and_from _ _ (by_test (is_one_of x xs) (is_one_of x ys) (part_in xs ys k x) two.0) (part_different xs ys k two.1)
  where
    by_test : (b c : Bool) → (b ≡ true → c ≡ true) → not c ≡ true → not b ≡ true
    by_test false c f h = refl
    by_test true false f h = f refl
    by_test true true f h = h
part_different _ _ (left_out y xs ys k) h = part_different xs ys k (and_parts (not (is_one_of y ys)) _ h).1

-- ---- declarations among nodes

abbrev pub ids : List Node → List ℕ
ids ns = map (λ (n : Node). n.id) ns

-- in the order of the nodes
abbrev pub Among : List Declared → List Node → Type 0
Among ds ns = IsPart (nodes_declared ds) (ids ns)

behind : (ds : List Declared) (a b : List Node) → Among ds b → Among ds (a ++ b)
behind ds a b h = subst (IsPart (nodes_declared ds)) (sym (map-append (λ (n : Node). n.id) a b)) (part_behind (nodes_declared ds) (ids a) (ids b) h)

before : (ds : List Declared) (a b : List Node) → Among ds a → Among ds (a ++ b)
before ds a b h = subst (IsPart (nodes_declared ds)) (sym (map-append (λ (n : Node). n.id) a b)) (part_front (nodes_declared ds) (ids a) (ids b) h)

in_turn : (ds es : List Declared) (a b : List Node) → Among ds a → Among es b → Among (ds ++ es) (a ++ b)
in_turn ds es a b h k =
    subst (λ (xs : List ℕ). IsPart xs (ids (a ++ b))) (sym (map-append (λ (d : Declared). d.node) ds es))
    (subst (IsPart (nodes_declared ds ++ nodes_declared es)) (sym (map-append (λ (n : Node). n.id) a b)) (part_both (nodes_declared ds) (ids a) (nodes_declared es) (ids b) h k))

variables_among : (vs : List VariableTree) → Among (map declared_variable vs) (all_nodes variable_nodes vs)
variables_among [] = nothing
variables_among (v ∷ vs) =
    taken v.declarator.node.id (nodes_declared (map declared_variable vs)) _
    (behind (map declared_variable vs) (lengths_nodes v.declarator.lengths ++ option_nodes initialiser_nodes v.initialiser) (all_nodes variable_nodes vs) (variables_among vs))

start_among : (s : StartTree) → Among (start_declares s) (start_nodes s)
start_among no_start = nothing
start_among (start_expression e) = part_none (ids (expr_nodes e))
start_among (start_declaration d) = variables_among d.variables

-- behind a node
past : (ds : List Declared) (node : Node) (ns : List Node) → Among ds ns → Among ds (node ∷ ns)
past ds node ns h = left_out node.id (nodes_declared ds) (ids ns) h

mutual
  statement_among : (s : StmtTree) → Among (statement_declares s) (stmt_nodes s)
  statement_among (empty node) = part_none (node.id ∷ [])
  statement_among (expression node e) = part_none (ids (node ∷ expr_nodes e))
  statement_among (declaration d) = variables_among d.variables
  statement_among (block ss) = statements_among ss
  statement_among (switch node e ss) = past (statements_declare ss) node _ (behind (statements_declare ss) (expr_nodes e) (stmts_nodes ss) (statements_among ss))
  statement_among (case_label node e) = part_none (ids (node ∷ expr_nodes e))
  statement_among (default_label node) = part_none (node.id ∷ [])
  statement_among (branch node e s r) =
      past (statement_declares s ++ else_declares r) node _
      (behind (statement_declares s ++ else_declares r) (expr_nodes e) (stmt_nodes s ++ else_nodes r)
      (in_turn (statement_declares s) (else_declares r) (stmt_nodes s) (else_nodes r) (statement_among s) (else_among r)))
  statement_among (while_loop node e s) =
      past (statement_declares s) node _ (behind (statement_declares s) (expr_nodes e) (stmt_nodes s) (statement_among s))
  statement_among (do_loop node s e) =
      past (statement_declares s) node _ (before (statement_declares s) (stmt_nodes s) (expr_nodes e) (statement_among s))
  statement_among (for_loop node a e u s) =
      past (start_declares a ++ statement_declares s) node _
      (in_turn (start_declares a) (statement_declares s) (start_nodes a) (option_nodes expr_nodes e ++ (option_nodes expr_nodes u ++ stmt_nodes s)) (start_among a)
      (behind (statement_declares s) (option_nodes expr_nodes e) (option_nodes expr_nodes u ++ stmt_nodes s)
      (behind (statement_declares s) (option_nodes expr_nodes u) (stmt_nodes s) (statement_among s))))
  statement_among (break node) = part_none (node.id ∷ [])
  statement_among (continue node) = part_none (node.id ∷ [])
  statement_among (return node e) = part_none (ids (node ∷ option_nodes expr_nodes e))

  pub statements_among : (ss : Stmts) → Among (statements_declare ss) (stmts_nodes ss)
  statements_among no_stmts = nothing
  statements_among (stmt_and s ss) = in_turn (statement_declares s) (statements_declare ss) (stmt_nodes s) (stmts_nodes ss) (statement_among s) (statements_among ss)

  else_among : (r : Else) → Among (else_declares r) (else_nodes r)
  else_among no_else = nothing
  else_among (else_by s) = statement_among s

parameters_among : (ps : List ParameterTree) → Among (map declared_parameter ps) (all_nodes parameter_nodes ps)
parameters_among [] = nothing
parameters_among (p ∷ ps) =
    taken p.node.id (nodes_declared (map declared_parameter ps)) _
    (behind (map declared_parameter ps) (lengths_nodes p.lengths) (all_nodes parameter_nodes ps) (parameters_among ps))

pub function_among : (f : FunctionTree) (body : Stmts) → f.body ≡ Some body → Among (function_declares f body) (function_nodes f)
function_among f body is =
    past (function_declares f body) f.node _
    (in_turn (map declared_parameter f.parameters) (statements_declare body) (all_nodes parameter_nodes f.parameters) (option_nodes stmts_nodes f.body) (parameters_among f.parameters)
    (subst (λ (o : Option Stmts). Among (statements_declare body) (option_nodes stmts_nodes o)) (sym is) (statements_among body)))

-- ---- the locals of a function are what it declares

joined : (ks ls : List Local) (ds es : List Declared) → nodes_of ks ≡ nodes_declared ds → nodes_of ls ≡ nodes_declared es → nodes_of (ks ++ ls) ≡ nodes_declared (ds ++ es)
joined ks ls ds es h k =
    map-append (λ (l : Local). l.node) ks ls ∙ ap (λ (xs : List ℕ). xs ++ nodes_of ls) h ∙ ap (λ (xs : List ℕ). nodes_declared ds ++ xs) k
    ∙ sym (map-append (λ (d : Declared). d.node) ds es)

variables_are : (c : Context) (base : Base) (vs : List VariableTree) → nodes_of (variables_locals c base vs) ≡ nodes_declared (map declared_variable vs)
variables_are c base [] = refl
variables_are c base (v ∷ vs) = ap (λ (xs : List ℕ). v.declarator.node.id ∷ xs) (variables_are (after_variable false c base v) base vs)

start_are : (c : Context) (s : StartTree) → nodes_of (start_locals c s) ≡ nodes_declared (start_declares s)
start_are c no_start = refl
start_are c (start_expression e) = refl
start_are c (start_declaration d) = variables_are c d.base d.variables

mutual
  statement_are : (s : StmtTree) (c : Context) → nodes_of (statement_locals c s) ≡ nodes_declared (statement_declares s)
  statement_are (empty node) c = refl
  statement_are (expression node e) c = refl
  statement_are (declaration d) c = variables_are c d.base d.variables
  statement_are (block ss) c = statements_are ss (inner_scope c)
  statement_are (switch node e ss) c = statements_are ss (switch_context c e)
  statement_are (case_label node e) c = refl
  statement_are (default_label node) c = refl
  statement_are (branch node e s r) c =
      joined (statement_locals (inner_scope c) s) (else_locals c r) (statement_declares s) (else_declares r) (statement_are s (inner_scope c)) (else_are r c)
  statement_are (while_loop node e s) c = statement_are s (inside_loop (inner_scope c))
  statement_are (do_loop node s e) c = statement_are s (inside_loop (inner_scope c))
  statement_are (for_loop node a e u s) c =
      joined (start_locals (inner_scope c) a) (statement_locals (inside_loop (inner_scope (for_context c a))) s) (start_declares a) (statement_declares s)
      (start_are (inner_scope c) a) (statement_are s (inside_loop (inner_scope (for_context c a))))
  statement_are (break node) c = refl
  statement_are (continue node) c = refl
  statement_are (return node e) c = refl

  statements_are : (ss : Stmts) (c : Context) → nodes_of (statements_locals c ss) ≡ nodes_declared (statements_declare ss)
  statements_are no_stmts c = refl
  statements_are (stmt_and s ss) c =
      joined (statement_locals c s) (statements_locals (after_statement c s) ss) (statement_declares s) (statements_declare ss) (statement_are s c)
      (statements_are ss (after_statement c s))

  else_are : (r : Else) (c : Context) → nodes_of (else_locals c r) ≡ nodes_declared (else_declares r)
  else_are no_else c = refl
  else_are (else_by s) c = statement_are s (inner_scope c)

pub parameters_are : (ps : List ParameterTree) (c : Context) → nodes_of (parameters_locals ps (parameter_types c ps)) ≡ nodes_declared (map declared_parameter ps)
parameters_are [] c = refl
parameters_are (p ∷ ps) c = ap (λ (xs : List ℕ). p.node.id ∷ xs) (parameters_are ps (after_parameter c p))

pub locals_are : (f : FunctionTree) (body : Stmts) (c d : Context) → nodes_of (parameters_locals f.parameters (parameter_types c f.parameters) ++ statements_locals d body) ≡ nodes_declared (function_declares f body)
locals_are f body c d =
    joined (parameters_locals f.parameters (parameter_types c f.parameters)) (statements_locals d body) (map declared_parameter f.parameters) (statements_declare body)
    (parameters_are f.parameters c) (statements_are body d)

-- those that pass a test
pub filtered_part : (test : Local → Bool) (ls : List Local) → IsPart (nodes_of (filter test ls)) (nodes_of ls)
filtered_part test [] = nothing
filtered_part test (l ∷ ls) = by_test (filtered_part test ls) (test l)
  where
    by_test : IsPart (nodes_of (filter test ls)) (nodes_of ls) → (b : Bool) → IsPart (nodes_of (cond b (l ∷ filter test ls) (filter test ls))) (l.node ∷ nodes_of ls)
    by_test h true = taken l.node (nodes_of (filter test ls)) (nodes_of ls) h
    by_test h false = left_out l.node (nodes_of (filter test ls)) (nodes_of ls) h
