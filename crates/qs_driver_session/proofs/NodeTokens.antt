-- Each node of a unit stands at a token that the unit is read from.
use Rattle.std.proofs.Common.{◌≡◌, ℕ, zero, suc, ◌+◌, ◌<◌, Bool, true, false, if◌then◌else◌, List, [], ◌∷◌, ◌++◌, length, Option, Some, slice_get, refl, ap, subst, sym, ◌∙◌, arith}
use Rattle.std.proofs.lemmas.List.{length-map}
use Rattle.qs_syntax.specs.declared.nodes.Node.{Node}
use Rattle.qs_syntax_vocabulary.specs.declared.terminal.Terminal.{Terminal}
use Rattle.qs_syntax_vocabulary.specs.declared.tokens.Token.{Token}
use Rattle.qs_syntax_vocabulary.specs.declared.tokens.TokenKind.{TokenKind}
use Rattle.qs_syntax_vocabulary.specs.declared.tokens.TokenKind.TheVariants as kinds
use Rattle.qs_syntax_vocabulary.specs.Operators.{number_of}
use Rattle.qs_syntax.specs.Trees.{ExprTree, Exprs, LengthsTree, DeclaratorTree, InitialiserTree, Initialisers, VariableTree, DeclarationTree, ParameterTree, MembersTree, StartTree, StmtTree, Stmts, DefinedTree, DeclTree}
use Rattle.qs_syntax.specs.Nodes.{all_nodes, option_nodes, expr_nodes, exprs_nodes, lengths_nodes, declarator_nodes, initialiser_nodes, initialisers_nodes, variable_nodes, declaration_nodes, parameter_nodes, members_nodes, start_nodes, stmt_nodes, stmts_nodes, defined_nodes, decl_nodes, unit_nodes, unit_count}
use Rattle.qs_syntax.specs.Numbering.{relabel_nodes, numbered}
use Rattle.qs_syntax.specs.Reads.{Form, Reads, ReadsArguments, place, a_name, an_empty_call, a_call, a_constant, a_text, in_parentheses, an_index, a_member, an_increment_after, a_decrement_after, a_postfix, an_increment, a_decrement, an_operator, a_size_of_type, a_size_of_value, a_cast, an_operand, stronger, an_operation, a_plain_level, a_choice, a_plain_conditional, an_assignment, a_plain_assignment, a_comma, a_last_argument, an_argument}
use Rattle.qs_syntax.specs.ReadsDeclarations.{ReadsGiven, no_length, a_length, ReadsLengths, are_given, first_open, ReadsDeclarator, a_declarator, ReadsInitialiser, a_value, a_list, ReadsInitialisers, a_last_initialiser, a_last_with_comma, an_initialiser, ReadsVariable, an_unset_variable, a_set_variable, ReadsVariables, a_last_variable, a_variable, ReadsDeclaration, a_declaration, ReadsOuterDeclaration, an_outer_declaration, ReadsDeclarators, a_last_member, ReadsMembers, a_group, ReadsAllMembers, a_last_group, a_further_group, ReadsParameter, a_named_parameter, an_unnamed_parameter, ReadsParameters, a_last_parameter, a_parameter, ReadsHead, no_parameter, a_void_head, some_parameters}
use Rattle.qs_syntax.specs.ReadsDeclarations as declarations
use Rattle.qs_syntax.specs.ReadsStatements.{ReadsOptional, nothing_there, something_there, ReadsStart, a_start_declaration, a_start_expression, no_start_at_all, ReadsStatement, a_block, an_empty, an_expression, an_if, an_if_with_else, a_while, a_do, a_for, a_switch, a_break, a_continue, a_return, ReadsItem, a_statement, a_declared, ReadsItems, no_item, an_item, ReadsSwitchBlock, in_braces, ReadsSwitchItem, a_label, a_switch_statement, a_switch_declaration, ReadsSwitchItems, no_switch_item, a_switch_item, ReadsLabel, a_case, a_default}
use Rattle.qs_syntax_vocabulary.specs.Marks.{NameSet, is_in, mark, marked}
use Rattle.qs_syntax_vocabulary.specs.declared.terminal.Terminal.TheVariants as terminals
use Rattle.qs_syntax.specs.ReadsTypes.{Names, a_plain_name, a_name_of_a_type}
use Rattle.qs_syntax.specs.ReadsUnits.{ReadsPlain, a_struct_with_members, a_forward, a_header, a_definition, some_variables, ReadsDefined, a_struct_with_tag, a_struct_without_tag, a_known_type, ReadsTypeNames, a_last_name, a_name_before, ReadsExternal, a_plain_external, a_typedef, ReadsExternals, a_last_external, an_external}
use Rattle.qs_syntax.proofs.NodeLaws.{unit_at, unit_length}
use Rattle.qs_lexer.specs.Terminals.{terminals, terminal_of, terminal}
use Rattle.qs_lexer.specs.Laws.{spelling}
use Rattle.qs_parser.specs.Answers.{ReadsAs}

-- ---- lists

abbrev pub Each : {A : Type 0} → (A → Type 0) → List A → Type 0
Each P [] = Unit {0}
Each P (x ∷ xs) = P x × Each P xs

pub each_both : {A : Type 0} (P : A → Type 0) (xs ys : List A) → Each P xs → Each P ys → Each P (xs ++ ys)
each_both P [] ys h k = k
each_both P (x ∷ xs) ys h k = (h.0, each_both P xs ys h.1 k)

pub each_front : {A : Type 0} (P : A → Type 0) (xs ys : List A) → Each P (xs ++ ys) → Each P xs
each_front P [] ys h = tt
each_front P (x ∷ xs) ys h = (h.0, each_front P xs ys h.1)

pub each_back : {A : Type 0} (P : A → Type 0) (xs ys : List A) → Each P (xs ++ ys) → Each P ys
each_back P [] ys h = h
each_back P (x ∷ xs) ys h = each_back P xs ys h.1

pub each_at : {A : Type 0} (P : A → Type 0) (xs : List A) (i : ℕ) (x : A) → Each P xs → slice_get xs i ≡ Some x → P x
each_at P [] i x h e = absurd cc
each_at P (y ∷ ys) zero x h e = let same : y ≡ x = cc in subst P same h.0
each_at P (y ∷ ys) (suc i) x h e = each_at P ys i x h.1 e

-- ---- a name's token keeps its number, whatever names are types'

same_number : (set : NameSet) (t : Terminal) → number_of (mark set t) ≡ number_of t
same_number set (terminals.Name at x) = named (is_in set x)
  where
    named : (b : Bool) → number_of (if b then terminals.TypeName at x else terminals.Name at x) ≡ at
    named true = refl
    named false = refl
same_number set (terminals.TypeName at x) = named (is_in set x)
  where
    named : (b : Bool) → number_of (if b then terminals.TypeName at x else terminals.Name at x) ≡ at
    named true = refl
    named false = refl
same_number set (terminals.Keyword at k) = refl
same_number set (terminals.Constant at n unsigned) = refl
same_number set (terminals.Text at bytes) = refl
same_number set (terminals.Punctuator at m) = refl

-- ---- of numbers that hold of each token, the first of which may be missing, one holds where each node stands

module _ (P : ℕ → Type 0) (start : P 0) where
  abbrev In : List Terminal → Type 0
  In ts = Each (λ (t : Terminal). P (number_of t)) ts

  abbrev Stand : List Node → Type 0
  Stand ns = Each (λ (n : Node). P n.token) ns

  front : (xs ys : List Terminal) → In (xs ++ ys) → In xs
  front xs ys h = each_front (λ (t : Terminal). P (number_of t)) xs ys h

  back : (xs ys : List Terminal) → In (xs ++ ys) → In ys
  back xs ys h = each_back (λ (t : Terminal). P (number_of t)) xs ys h

  two : (ns ms : List Node) → Stand ns → Stand ms → Stand (ns ++ ms)
  two ns ms h k = each_both (λ (n : Node). P n.token) ns ms h k

  -- whatever names are types'
  marked_in : (set : NameSet) (ts : List Terminal) → In ts → In (marked set ts)
  marked_in set [] k = tt
  marked_in set (t ∷ ts) k = (subst P (sym (same_number set t)) k.0, marked_in set ts k.1)

  first : (ts : List Terminal) → In ts → P (place ts)
  first [] h = start
  first (t ∷ ts) h = h.0

  -- ---- expressions

  mutual
    expr_stands : {form : Form} {h : ℕ} {ts : List Terminal} {e : ExprTree} → Reads form h ts e → In ts → Stand (expr_nodes e)
    expr_stands (a_name at x) i = (i.0, tt)
    expr_stands (an_empty_call at o c f) i = (i.0, tt)
    expr_stands (a_call {ts = ts} at o c f r) i = (i.0, arguments_stand r (front ts _ i.1.1))
    expr_stands (a_constant at n unsigned) i = (i.0, tt)
    expr_stands (a_text at bytes r) i = (i.0, tt)
    expr_stands (in_parentheses {ts = ts} o c r) i = expr_stands r (front ts _ i.1)
    expr_stands (an_index {xs = xs} {ys = ys} {a = a} {b = b} o c r s) i =
        (first xs (front xs _ i), two (expr_nodes a) (expr_nodes b) (expr_stands r (front xs _ i)) (expr_stands s (front ys _ (back xs _ i).1)))
    expr_stands (a_member {xs = xs} access d r x) i = (first xs (front xs _ i), expr_stands r (front xs _ i))
    expr_stands (an_increment_after {xs = xs} s r) i = (first xs (front xs _ i), expr_stands r (front xs _ i))
    expr_stands (a_decrement_after {xs = xs} s r) i = (first xs (front xs _ i), expr_stands r (front xs _ i))
    expr_stands (a_postfix r) i = expr_stands r i
    expr_stands (an_increment at r) i = (i.0, expr_stands r i.1)
    expr_stands (a_decrement at r) i = (i.0, expr_stands r i.1)
    expr_stands (an_operator operator at r) i = (i.0, expr_stands r i.1)
    expr_stands (a_size_of_type at o c t) i = (i.0, tt)
    expr_stands (a_size_of_value at r) i = (i.0, expr_stands r i.1)
    expr_stands (a_cast {ts = ts} at c t r) i = (i.0, expr_stands r (back ts _ i.1).1)
    expr_stands (an_operand r) i = expr_stands r i
    expr_stands (stronger r) i = expr_stands r i
    expr_stands (an_operation {xs = xs} {a = a} {b = b} operator at p r s) i =
        (first xs (front xs _ i), two (expr_nodes a) (expr_nodes b) (expr_stands r (front xs _ i)) (expr_stands s (back xs _ i).1))
    expr_stands (a_plain_level r) i = expr_stands r i
    expr_stands (a_choice {xs = xs} {ys = ys} {a = a} {b = b} {c = c} q s r t u) i = (
      first xs (front xs _ i),
      two (expr_nodes a) (expr_nodes b ++ expr_nodes c) (expr_stands r (front xs _ i))
          (two (expr_nodes b) (expr_nodes c) (expr_stands t (front ys _ (back xs _ i).1)) (expr_stands u (back ys _ (back xs _ i).1).1)),
    )
    expr_stands (a_plain_conditional r) i = expr_stands r i
    expr_stands (an_assignment {xs = xs} {a = a} {b = b} operator at r s) i =
        (first xs (front xs _ i), two (expr_nodes a) (expr_nodes b) (expr_stands r (front xs _ i)) (expr_stands s (back xs _ i).1))
    expr_stands (a_plain_assignment r) i = expr_stands r i
    expr_stands (a_comma {xs = xs} {a = a} {b = b} at r s) i =
        (first xs (front xs _ i), two (expr_nodes a) (expr_nodes b) (expr_stands r (front xs _ i)) (expr_stands s (back xs _ i).1))

    arguments_stand : {h : ℕ} {ts : List Terminal} {es : Exprs} → ReadsArguments h ts es → In ts → Stand (exprs_nodes es)
    arguments_stand (a_last_argument {e = e} r) i = two (expr_nodes e) [] (expr_stands r i) tt
    arguments_stand (an_argument {xs = xs} {e = e} {es = es} at r s) i = two (expr_nodes e) (exprs_nodes es) (expr_stands r (front xs _ i)) (arguments_stand s (back xs _ i).1)

  -- ---- declarations

  given_stand : {h : ℕ} {ts : List Terminal} {es : List ExprTree} → ReadsGiven h ts es → In ts → Stand (all_nodes expr_nodes es)
  given_stand no_length i = tt
  given_stand (a_length {xs = xs} {e = e} {es = es} o c r s) i = two (expr_nodes e) (all_nodes expr_nodes es) (expr_stands r (front xs _ i.1)) (given_stand s (back xs _ i.1).1)

  lengths_stand : {h : ℕ} {ts : List Terminal} {l : LengthsTree} → ReadsLengths h ts l → In ts → Stand (lengths_nodes l)
  lengths_stand (are_given r) i = given_stand r i
  lengths_stand (first_open o c r) i = given_stand r i.1.1

  declarator_stands : {names : Names} {h : ℕ} {ts : List Terminal} {d : DeclaratorTree} → ReadsDeclarator names h ts d → In ts → Stand (declarator_nodes d)
  declarator_stands (a_declarator {xs = xs} s (a_plain_name at x) r) i = ((back xs _ i).0, lengths_stand r (back xs _ i).1)
  declarator_stands (a_declarator {xs = xs} s (a_name_of_a_type at x) r) i = ((back xs _ i).0, lengths_stand r (back xs _ i).1)

  mutual
    initialiser_stands : {h : ℕ} {ts : List Terminal} {x : InitialiserTree} → ReadsInitialiser h ts x → In ts → Stand (initialiser_nodes x)
    initialiser_stands (a_value r) k = expr_stands r k
    initialiser_stands (a_list {ts = ts} o c r) k = (k.0, initialisers_stand r (front ts _ k.1))

    initialisers_stand : {h : ℕ} {ts : List Terminal} {is : Initialisers} → ReadsInitialisers h ts is → In ts → Stand (initialisers_nodes is)
    initialisers_stand (a_last_initialiser {i = x} r) k = two (initialiser_nodes x) [] (initialiser_stands r k) tt
    initialisers_stand (a_last_with_comma {ts = ts} {i = x} at r) k = two (initialiser_nodes x) [] (initialiser_stands r (front ts _ k)) tt
    initialisers_stand (an_initialiser {xs = xs} {i = x} {is = is} at r s) k = two (initialiser_nodes x) (initialisers_nodes is) (initialiser_stands r (front xs _ k)) (initialisers_stand s (back xs _ k).1)

  variable_stands : {h : ℕ} {ts : List Terminal} {v : VariableTree} → ReadsVariable h ts v → In ts → Stand (variable_nodes v)
  variable_stands (an_unset_variable {d = d} r) k = two (declarator_nodes d) [] (declarator_stands r k) tt
  variable_stands (a_set_variable {xs = xs} {d = d} {i = x} at r s) k = two (declarator_nodes d) (initialiser_nodes x) (declarator_stands r (front xs _ k)) (initialiser_stands s (back xs _ k).1)

  variables_stand : {h : ℕ} {ts : List Terminal} {vs : List VariableTree} → ReadsVariables h ts vs → In ts → Stand (all_nodes variable_nodes vs)
  variables_stand (a_last_variable {v = v} r) k = two (variable_nodes v) [] (variable_stands r k) tt
  variables_stand (a_variable {xs = xs} {v = v} {vs = vs} at r s) k = two (variable_nodes v) (all_nodes variable_nodes vs) (variable_stands r (front xs _ k)) (variables_stand s (back xs _ k).1)

  declaration_stands : {h : ℕ} {ts : List Terminal} {d : DeclarationTree} → ReadsDeclaration h ts d → In ts → Stand (declaration_nodes d)
  declaration_stands (a_declaration {xs = xs} {ys = ys} s t r) k = variables_stand r (front ys _ (back xs _ k))

  outer_stands : {h : ℕ} {ts : List Terminal} {d : DeclarationTree} → ReadsOuterDeclaration h ts d → In ts → Stand (declaration_nodes d)
  outer_stands (an_outer_declaration {xs = xs} {ys = ys} s t r) k = variables_stand r (front ys _ (back xs _ k))

  declarators_stand : {h : ℕ} {ts : List Terminal} {ds : List DeclaratorTree} → ReadsDeclarators h ts ds → In ts → Stand (all_nodes declarator_nodes ds)
  declarators_stand (a_last_member {d = d} r) k = two (declarator_nodes d) [] (declarator_stands r k) tt
  declarators_stand (declarations.a_member {xs = xs} {d = d} {ds = ds} at r s) k = two (declarator_nodes d) (all_nodes declarator_nodes ds) (declarator_stands r (front xs _ k)) (declarators_stand s (back xs _ k).1)

  members_stand : {h : ℕ} {ts : List Terminal} {m : MembersTree} → ReadsMembers h ts m → In ts → Stand (members_nodes m)
  members_stand (a_group {xs = xs} {ys = ys} s t r) k = declarators_stand r (front ys _ (back xs _ k))

  all_members_stand : {h : ℕ} {ts : List Terminal} {ms : List MembersTree} → ReadsAllMembers h ts ms → In ts → Stand (all_nodes members_nodes ms)
  all_members_stand (a_last_group {m = m} r) k = two (members_nodes m) [] (members_stand r k) tt
  all_members_stand (a_further_group {xs = xs} {m = m} {ms = ms} r s) k = two (members_nodes m) (all_nodes members_nodes ms) (members_stand r (front xs _ k)) (all_members_stand s (back xs _ k))

  parameter_stands : {h : ℕ} {ts : List Terminal} {p : ParameterTree} → ReadsParameter h ts p → In ts → Stand (parameter_nodes p)
  parameter_stands (a_named_parameter {xs = xs} {ys = ys} at x t s r) k = ((back ys _ (back xs _ k)).0, lengths_stand r (back ys _ (back xs _ k)).1)
  parameter_stands (an_unnamed_parameter {xs = xs} {ys = ys} t s r never) k = (first xs (front xs _ k), lengths_stand r (back ys _ (back xs _ k)))

  parameters_stand : {h : ℕ} {ts : List Terminal} {ps : List ParameterTree} → ReadsParameters h ts ps → In ts → Stand (all_nodes parameter_nodes ps)
  parameters_stand (a_last_parameter {p = p} r) k = two (parameter_nodes p) [] (parameter_stands r k) tt
  parameters_stand (a_parameter {xs = xs} {p = p} {ps = ps} at r s) k = two (parameter_nodes p) (all_nodes parameter_nodes ps) (parameter_stands r (front xs _ k)) (parameters_stand s (back xs _ k).1)

  head_stands : {h : ℕ} {ts : List Terminal} {ps : List ParameterTree} → ReadsHead h ts ps → In ts → Stand (all_nodes parameter_nodes ps)
  head_stands no_parameter k = tt
  head_stands (a_void_head at) k = tt
  head_stands (some_parameters r) k = parameters_stand r k

  -- ---- statements

  optional_stands : {h : ℕ} {ts : List Terminal} {e : Option ExprTree} → ReadsOptional h ts e → In ts → Stand (option_nodes expr_nodes e)
  optional_stands nothing_there k = tt
  optional_stands (something_there r) k = expr_stands r k

  start_stands : {h : ℕ} {ts : List Terminal} {s : StartTree} → ReadsStart h ts s → In ts → Stand (start_nodes s)
  start_stands (a_start_declaration r) k = declaration_stands r k
  start_stands (a_start_expression {ts = ts} s r) k = expr_stands r (front ts _ k)
  start_stands (no_start_at_all s) k = tt

  label_stands : {h : ℕ} {ts : List Terminal} {s : StmtTree} → ReadsLabel h ts s → In ts → Stand (stmt_nodes s)
  label_stands (a_case {ts = ts} at c r) k = (k.0, expr_stands r (front ts _ k.1))
  label_stands (a_default at c) k = (k.0, tt)

  mutual
    statement_stands : {h : ℕ} {ts : List Terminal} {s : StmtTree} → ReadsStatement h ts s → In ts → Stand (stmt_nodes s)
    statement_stands (a_block {ts = ts} o c r) k = items_stand r (front ts _ k.1)
    statement_stands (an_empty at) k = (k.0, tt)
    statement_stands (an_expression {ts = ts} s r) k = (first ts (front ts _ k), expr_stands r (front ts _ k))
    statement_stands (an_if {xs = xs} {e = e} {s = s} at o c r q) k =
        (k.0, two (expr_nodes e) (stmt_nodes s ++ []) (expr_stands r (front xs _ k.1.1)) (two (stmt_nodes s) [] (statement_stands q (back xs _ k.1.1).1) tt))
    statement_stands (an_if_with_else {xs = xs} {ys = ys} {e = e} {s = s} {t = t} at o c n r q closed w) k = (
      k.0,
      two (expr_nodes e) (stmt_nodes s ++ stmt_nodes t) (expr_stands r (front xs _ k.1.1))
          (two (stmt_nodes s) (stmt_nodes t) (statement_stands q (front ys _ (back xs _ k.1.1).1)) (statement_stands w (back ys _ (back xs _ k.1.1).1).1)),
    )
    statement_stands (a_while {xs = xs} {e = e} {s = s} at o c r q) k = (k.0, two (expr_nodes e) (stmt_nodes s) (expr_stands r (front xs _ k.1.1)) (statement_stands q (back xs _ k.1.1).1))
    statement_stands (a_do {xs = xs} {ys = ys} {s = s} {e = e} at w o c n q r) k =
        (k.0, two (stmt_nodes s) (expr_nodes e) (statement_stands q (front xs _ k.1)) (expr_stands r (front ys _ (back xs _ k.1).1.1)))
    statement_stands (a_for {ws = ws} {xs = xs} {ys = ys} {start = a} {e = e} {u = u} {s = s} at o n c ra re ru rs) k = (
      k.0,
      two (start_nodes a) (option_nodes expr_nodes e ++ (option_nodes expr_nodes u ++ stmt_nodes s)) (start_stands ra (front ws _ k.1.1))
          (two (option_nodes expr_nodes e) (option_nodes expr_nodes u ++ stmt_nodes s) (optional_stands re (front xs _ (back ws _ k.1.1)))
          (two (option_nodes expr_nodes u) (stmt_nodes s) (optional_stands ru (front ys _ (back xs _ (back ws _ k.1.1)).1)) (statement_stands rs (back ys _ (back xs _ (back ws _ k.1.1)).1).1))),
    )
    statement_stands (a_switch {xs = xs} {e = e} {ss = ss} at o c r q) k =
        (k.0, two (expr_nodes e) (stmts_nodes ss) (expr_stands r (front xs _ k.1.1)) (switch_stands q (back xs _ k.1.1).1))
    statement_stands (a_break at s) k = (k.0, tt)
    statement_stands (a_continue at s) k = (k.0, tt)
    statement_stands (a_return {ts = ts} at s r) k = (k.0, optional_stands r (front ts _ k.1))

    item_stands : {h : ℕ} {ts : List Terminal} {s : StmtTree} → ReadsItem h ts s → In ts → Stand (stmt_nodes s)
    item_stands (a_statement r) k = statement_stands r k
    item_stands (a_declared r) k = declaration_stands r k

    items_stand : {h : ℕ} {ts : List Terminal} {ss : Stmts} → ReadsItems h ts ss → In ts → Stand (stmts_nodes ss)
    items_stand no_item k = tt
    items_stand (an_item {xs = xs} {s = s} {ss = ss} r q) k = two (stmt_nodes s) (stmts_nodes ss) (item_stands r (front xs _ k)) (items_stand q (back xs _ k))

    switch_stands : {h : ℕ} {ts : List Terminal} {ss : Stmts} → ReadsSwitchBlock h ts ss → In ts → Stand (stmts_nodes ss)
    switch_stands (in_braces {ts = ts} o c r) k = switch_items_stand r (front ts _ k.1)

    switch_item_stands : {b c : Bool} {h : ℕ} {ts : List Terminal} {s : StmtTree} → ReadsSwitchItem b c h ts s → In ts → Stand (stmt_nodes s)
    switch_item_stands (a_label r) k = label_stands r k
    switch_item_stands (a_switch_statement r) k = statement_stands r k
    switch_item_stands (a_switch_declaration r) k = declaration_stands r k

    switch_items_stand : {b : Bool} {h : ℕ} {ts : List Terminal} {ss : Stmts} → ReadsSwitchItems b h ts ss → In ts → Stand (stmts_nodes ss)
    switch_items_stand no_switch_item k = tt
    switch_items_stand (a_switch_item {xs = xs} {s = s} {ss = ss} r q) k = two (stmt_nodes s) (stmts_nodes ss) (switch_item_stands r (front xs _ k)) (switch_items_stand q (back xs _ k))

  -- ---- units

  plain_stands : {h : ℕ} {ts : List Terminal} {d : DeclTree} → ReadsPlain h ts d → In ts → Stand (decl_nodes d)
  plain_stands (a_struct_with_members {ts = ts} at o c s x r) k = (k.0, all_members_stand r (front ts _ k.1.1.1))
  plain_stands (a_forward at s x) k = (k.0, tt)
  plain_stands (a_header {xs = xs} {ys = ys} {zs = zs} {ps = ps} n o c s x t m r) k =
      (first xs (front xs _ k), two (all_nodes parameter_nodes ps) [] (head_stands r (front zs _ (back ys _ (back xs _ k)).1.1)) tt)
  plain_stands (a_definition {xs = xs} {ys = ys} {zs = zs} {ws = ws} {ps = ps} {ss = ss} n o c b e x t m r q) k = (
    first xs (front xs _ k),
    two (all_nodes parameter_nodes ps) (stmts_nodes ss) (head_stands r (front zs _ (back ys _ (back xs _ k)).1.1))
        (items_stand q (front ws _ (back zs _ (back ys _ (back xs _ k)).1.1).1.1)),
  )
  plain_stands (some_variables r) k = outer_stands r k

  defined_stands : {h : ℕ} {ts : List Terminal} {d : DefinedTree} → ReadsDefined h ts d → In ts → Stand (defined_nodes d)
  defined_stands (a_struct_with_tag {ts = ts} at o c x r) k = (k.0, all_members_stand r (front ts _ k.1.1.1))
  defined_stands (a_struct_without_tag {ts = ts} at o c r) k = (k.0, all_members_stand r (front ts _ k.1.1))
  defined_stands (a_known_type r) k = tt

  type_names_stand : {set : NameSet} {h : ℕ} {ts : List Terminal} {ds : List DeclaratorTree} → ReadsTypeNames set h ts ds → In ts → Stand (all_nodes declarator_nodes ds)
  type_names_stand (a_last_name {set = set} {ts = ts} {d = d} r) k = two (declarator_nodes d) [] (declarator_stands r (marked_in set ts k)) tt
  type_names_stand (a_name_before {set = set} {d = d} {ds = ds} xs at r s) k =
      two (declarator_nodes d) (all_nodes declarator_nodes ds) (declarator_stands r (marked_in set xs (front xs _ k))) (type_names_stand s (back xs _ k).1)

  external_stands : {set : NameSet} {h : ℕ} {ts : List Terminal} {d : DeclTree} → ReadsExternal set h ts d → In ts → Stand (decl_nodes d)
  external_stands (a_plain_external {set = set} {ts = ts} r) k = plain_stands r (marked_in set ts k)
  external_stands (a_typedef {set = set} {ys = ys} {defined = d} {ds = ds} xs at s r q) k =
      two (defined_nodes d) (all_nodes declarator_nodes ds) (defined_stands r (marked_in set xs (front xs _ k.1))) (type_names_stand q (front ys _ (back xs _ k.1)))

  unit_stands : {set : NameSet} {h : ℕ} {ts : List Terminal} {ds : List DeclTree} → ReadsExternals set h ts ds → In ts → Stand (unit_nodes ds)
  unit_stands (a_last_external {d = d} r) k = two (decl_nodes d) [] (external_stands r k) tt
  unit_stands (an_external {xs = xs} {d = d} {ds = ds} r s) k = two (decl_nodes d) (unit_nodes ds) (external_stands r (front xs _ k)) (unit_stands s (back xs _ k))

  -- the numbers of nodes don't matter
  numbered_stand : (n : ℕ) (ns : List Node) → Stand ns → Stand (relabel_nodes numbered n ns)
  numbered_stand n [] k = tt
  numbered_stand n (x ∷ xs) k = (k.0, numbered_stand (n + 1) xs k.1)

-- ---- a unit is read from some token

front_some : (xs ys : List Terminal) → 0 < length ys → 0 < length (xs ++ ys)
front_some [] ys h = h
front_some (x ∷ xs) ys h = omega arith

plain_some : {h : ℕ} {ts : List Terminal} {d : DeclTree} → ReadsPlain h ts d → 0 < length ts
plain_some (a_struct_with_members at o c s x r) = omega arith
plain_some (a_forward at s x) = omega arith
plain_some (a_header {xs = xs} {ys = ys} n o c s x t m r) = front_some xs _ (front_some ys _ (omega arith))
plain_some (a_definition {xs = xs} {ys = ys} n o c b e x t m r q) = front_some xs _ (front_some ys _ (omega arith))
plain_some (some_variables (an_outer_declaration {xs = xs} {ys = ys} s t r)) = front_some xs _ (front_some ys _ (omega arith))

external_some : {set : NameSet} {h : ℕ} {ts : List Terminal} {d : DeclTree} → ReadsExternal set h ts d → 0 < length ts
external_some (a_plain_external {set = set} {ts = ts} r) = subst (λ n. 0 < n) (length-map ts (mark set)) (plain_some r)
external_some (a_typedef xs at s defined names) = omega arith

some_more : (xs ys : List Terminal) → 0 < length xs → 0 < length (xs ++ ys)
some_more [] ys h = absurd (omega arith)
some_more (x ∷ xs) ys h = omega arith

unit_some : {set : NameSet} {h : ℕ} {ts : List Terminal} {ds : List DeclTree} → ReadsExternals set h ts ds → 0 < length ts
unit_some (a_last_external r) = external_some r
unit_some (an_external {xs = xs} {ys = ys} r s) = some_more xs ys (external_some r)

-- ---- the tokens of a text have their places for numbers

number_is : (at : ℕ) (bytes : List ℕ) (kind : TokenKind) → number_of (terminal_of at bytes kind) ≡ at
number_is at bytes kinds.Name = refl
number_is at bytes (kinds.Keyword k) = refl
number_is at bytes (kinds.Number value unsigned) = refl
number_is at bytes (kinds.Character value) = refl
number_is at bytes kinds.Text = refl
number_is at bytes (kinds.Punctuator m) = refl

numbers_low : (text : List ℕ) (at all : ℕ) (tokens : List Token) → at + length tokens ≡ all → Each (λ (t : Terminal). number_of t < all) (terminals text at tokens)
numbers_low text at all [] e = tt
numbers_low text at all (token ∷ tokens) e =
    let is : number_of (terminal text at token) ≡ at = number_is at (spelling text token) token.kind in
    let low : number_of (terminal text at token) < all = omega arith in
    let rest : at + 1 + length tokens ≡ all = omega arith in
    (low, numbers_low text (at + 1) all tokens rest)

some_tokens : (text : List ℕ) (tokens : List Token) → 0 < length (terminals text 0 tokens) → 0 < length tokens
some_tokens text [] h = h
some_tokens text (token ∷ tokens) h = omega arith

-- the token at which a node of a unit stands is one of the text's
pub token_is_low : (text : List ℕ) (tokens : List Token) (trees : List DeclTree) (number : ℕ) (node : Node) → ReadsAs (terminals text 0 tokens) trees → slice_get (unit_nodes trees) number ≡ Some node → node.token < length tokens
token_is_low text tokens trees number node r is =
    let P : ℕ → Type 0 = λ n. n < length tokens in
    let Q : Node → Type 0 = λ n. n.token < length tokens in
    let some : 0 < length tokens = some_tokens text tokens (unit_some r.reads) in
    let low = numbers_low text 0 (length tokens) tokens (omega arith) in
    let stand : Each Q (unit_nodes r.unnumbered) = unit_stands P some r.reads low in
    let also : Each Q (relabel_nodes numbered 0 (unit_nodes r.unnumbered)) = numbered_stand P some 0 (unit_nodes r.unnumbered) stand in
    let e : relabel_nodes numbered 0 (unit_nodes r.unnumbered) ≡ unit_nodes trees = sym (unit_at r.unnumbered) ∙ ap unit_nodes (sym r.are_numbered) in
    each_at Q (unit_nodes trees) number node (subst (λ (ns : List Node). Each Q ns) e also) is

-- ---- the nodes of a unit have their places for numbers

ids_low : (n all : ℕ) (ns : List Node) → n + length ns ≡ all → Each (λ (x : Node). x.id < all) (relabel_nodes numbered n ns)
ids_low n all [] e = tt
ids_low n all (x ∷ xs) e =
    let low : n < all = omega arith in
    let rest : n + 1 + length xs ≡ all = omega arith in
    (low, ids_low (n + 1) all xs rest)

same_length : (n : ℕ) (ns : List Node) → length (relabel_nodes numbered n ns) ≡ length ns
same_length n [] = refl
same_length n (x ∷ xs) = ap suc (same_length (n + 1) xs)

pub all_ids_low : (ls : List Terminal) (trees : List DeclTree) → ReadsAs ls trees → Each (λ (x : Node). x.id < unit_count trees) (unit_nodes trees)
all_ids_low ls trees r =
    let e : unit_nodes trees ≡ relabel_nodes numbered 0 (unit_nodes r.unnumbered) = ap unit_nodes r.are_numbered ∙ unit_at r.unnumbered in
    let count : length (unit_nodes r.unnumbered) ≡ unit_count trees = sym (same_length 0 (unit_nodes r.unnumbered)) ∙ ap length (sym e) ∙ unit_length trees in
    let all : 0 + length (unit_nodes r.unnumbered) ≡ unit_count trees = omega arith in
    subst (λ (ns : List Node). Each (λ (x : Node). x.id < unit_count trees) ns) (sym e) (ids_low 0 (unit_count trees) (unit_nodes r.unnumbered) all)
