-- A unit that is read is as the laws on typed trees ask: its nodes have different numbers, its constants are words and its texts bytes, and its lists are filled.
use Rattle.std.proofs.Common.{◌≡◌, ◌<◌, ℕ, ◌+◌, ◌==◌, ◌^◌, nat_lt, Bool, true, false, not, ◌||◌, List, [], ◌∷◌, ◌++◌, Option, Some, None, refl, sym, ap, ◌∙◌, subst, arith, if◌then◌else◌}
use Rattle.std.specs.List.{list_all}
use Rattle.std.proofs.lemmas.Bool.Decides.{nat_tests}
use Rattle.std.proofs.lemmas.List.Folds.{list_all-append}
use Rattle.std.proofs.Math.Logic.{∥∥₁_elim}
use Rattle.std.proofs.lemmas.Bool.{and_from}
use Rattle.std.specs.Cmp.{first_so, second_so}
use mathlib.Core.Bool.{Bool-set}
use Rattle.qs_base.specs.Names.{is_name}
use Rattle.qs_syntax.specs.declared.nodes.Node.{Node}
use Rattle.qs_syntax.specs.declared.types.Base.{Base}
use Rattle.qs_syntax_vocabulary.specs.declared.terminal.Terminal.{Terminal}
use Rattle.qs_syntax_vocabulary.specs.declared.terminal.Terminal.TheVariants as terminals
use Rattle.qs_syntax_vocabulary.specs.Marks.{NameSet, is_in, mark, marked}
use Rattle.qs_syntax.specs.Units.{Reading}
use Rattle.qs_syntax_vocabulary.specs.WellFormed.{is_byte, is_well_formed}
use Rattle.qs_syntax.specs.Trees.{ExprTree, Exprs, LengthsTree, DeclaratorTree, InitialiserTree, Initialisers, VariableTree, DeclarationTree, ParameterTree, MembersTree, StartTree, StmtTree, Stmts, DefinedTree, FunctionTree, DeclTree, UnitTree}
use Rattle.qs_syntax.specs.Trees as trees
use Rattle.qs_syntax.specs.Nodes.{all_count, option_count, start_count, stmt_count, expr_count, declarator_count, variable_count, parameter_count, members_count, defined_count, decl_count, unit_nodes}
use Rattle.qs_syntax.specs.Numbering.{relabel_nodes, relabel_all, relabel_option, relabel_expr, relabel_exprs, relabel_lengths, relabel_declarator, relabel_initialiser, relabel_initialisers, relabel_variable, relabel_parameter, relabel_members, relabel_start, relabel_stmt, relabel_stmts, relabel_defined, relabel_function, relabel_decl, numbered}
use Rattle.qs_syntax.specs.Reads.{Form, Reads, ReadsArguments, ReadsTexts, no_text, a_further_text, place, a_name, an_empty_call, a_call, a_constant, a_text, in_parentheses, an_index, a_member, an_increment_after, a_decrement_after, a_postfix, an_increment, a_decrement, an_operator, a_size_of_type, a_size_of_value, a_cast, an_operand, stronger, an_operation, a_plain_level, a_choice, a_plain_conditional, an_assignment, a_plain_assignment, a_comma, a_last_argument, an_argument}
use Rattle.qs_syntax.specs.ReadsDeclarations.{ReadsGiven, no_length, a_length, ReadsLengths, are_given, first_open, ReadsDeclarator, a_declarator, ReadsInitialiser, a_value, a_list, ReadsInitialisers, a_last_initialiser, a_last_with_comma, an_initialiser, ReadsVariable, an_unset_variable, a_set_variable, ReadsVariables, a_last_variable, a_variable, ReadsDeclaration, a_declaration, ReadsOuterDeclaration, an_outer_declaration, ReadsDeclarators, a_last_member, ReadsMembers, a_group, ReadsAllMembers, a_last_group, a_further_group, ReadsParameter, a_named_parameter, an_unnamed_parameter, ReadsParameters, a_last_parameter, a_parameter, ReadsHead, no_parameter, a_void_head, some_parameters}
use Rattle.qs_syntax.specs.ReadsDeclarations as declarations
use Rattle.qs_syntax.specs.ReadsStatements.{ReadsOptional, nothing_there, something_there, ReadsStart, a_start_declaration, a_start_expression, no_start_at_all, ReadsStatement, a_block, an_empty, an_expression, an_if, an_if_with_else, a_while, a_do, a_for, a_switch, a_break, a_continue, a_return, ReadsItem, a_statement, a_declared, ReadsItems, no_item, an_item, ReadsLabel, a_case, a_default, ReadsSwitchBlock, in_braces, ReadsSwitchItem, a_label, a_switch_statement, a_switch_declaration, ReadsSwitchItems, no_switch_item, a_switch_item}
use Rattle.qs_syntax.specs.ReadsTypes.{Names}
use Rattle.qs_syntax.specs.ReadsUnits.{ReadsPlain, a_struct_with_members, a_forward, a_header, a_definition, some_variables, ReadsDefined, a_struct_with_tag, a_struct_without_tag, a_known_type, ReadsTypeNames, a_last_name, a_name_before, ReadsExternal, a_plain_external, a_typedef, ReadsExternals, a_last_external, an_external}
use Rattle.qs_syntax.proofs.NodeLaws.{unit_at}
use Rattle.qs_types.specs.Types.{TypeTree}
use Rattle.qs_types.specs.Contexts.{Context, start_context, inner_scope, inside_loop}
use Rattle.qs_types.specs.InitialiserRules.{option_part}
use Rattle.qs_types.specs.Placed.{is_one_of}
use Rattle.qs_types.specs.StatementRules.{after_variable, switch_context, after_statement, for_context}
use Rattle.qs_types.specs.Sites.{Site, site, sites, option_sites, declarator_sites, declarators_sites, initialiser_sites, elements_sites, variable_sites, variables_sites, start_sites, statement_sites, statements_sites, members_sites, defined_sites, type_names_sites, parameters_sites, declaration_sites, declarations_sites}
use Rattle.qs_types.specs.UnitRules.{with_option_tag, after_defined, defined_type, after_type_name, body_context, after_declaration}
use Rattle.qs_meaning.specs.FitLaws.{are_different, numbers_differ, literals_fit, all_literals_fit, unit_literals_fit, is_filled, variables_filled, start_filled, is_label, ends_in_label, statement_filled, statements_filled, has_declarators, members_filled, defined_filled, declaration_filled, lists_are_filled, IsAsRead, ReadIsAsRead}
use Rattle.qs_meaning.proofs.Options.{all_left, all_right}
use Rattle.qs_meaning.proofs.FitLocals.{ids}

-- ---- numbers

above : (m n : ℕ) (ns : List Node) → m < n → is_one_of m (ids (relabel_nodes numbered n ns)) ≡ false
above m n [] h = refl
above m n (x ∷ ns) h = neither (n == m) (other m n h) (above m (n + 1) ns (omega arith))
  where
    other : (m n : ℕ) → m < n → (n == m) ≡ false
    other m n h = grind (arith, nat_tests)

    neither : (b : Bool) → b ≡ false → is_one_of m (ids (relabel_nodes numbered (n + 1) ns)) ≡ false → (b || is_one_of m (ids (relabel_nodes numbered (n + 1) ns))) ≡ false
    neither true e f = e
    neither false e f = f

numbers_different : (n : ℕ) (ns : List Node) → are_different (ids (relabel_nodes numbered n ns)) ≡ true
numbers_different n [] = refl
numbers_different n (x ∷ ns) = and_from _ _ (ap not (above n (n + 1) ns (omega arith))) (numbers_different (n + 1) ns)

-- ---- tokens

abbrev In : List Terminal → Type 0
In ts = list_all is_well_formed ts ≡ true

front : (xs ys : List Terminal) → In (xs ++ ys) → In xs
front xs ys h = all_left is_well_formed xs ys h

back : (xs ys : List Terminal) → In (xs ++ ys) → In ys
back xs ys h = all_right is_well_formed xs ys h

-- whatever names are types'
pub marked_in : (set : NameSet) (ts : List Terminal) → list_all is_well_formed ts ≡ true → list_all is_well_formed (marked set ts) ≡ true
marked_in set [] h = refl
marked_in set (t ∷ ts) h = and_from _ _ (one t ∙ first_so _ _ h) (marked_in set ts (second_so (is_well_formed t) _ h))
  where
    named : (b : Bool) (at : ℕ) (x : List ℕ) → is_well_formed (if b then terminals.TypeName at x else terminals.Name at x) ≡ is_name x
    named true at x = refl
    named false at x = refl

    one : (t : Terminal) → is_well_formed (mark set t) ≡ is_well_formed t
    one (terminals.Name at x) = named (is_in set x) at x
    one (terminals.TypeName at x) = named (is_in set x) at x
    one (terminals.Keyword at k) = refl
    one (terminals.Constant at n unsigned) = refl
    one (terminals.Text at bytes) = refl
    one (terminals.Punctuator at m) = refl

-- 6.4.4.1: a constant is a value of its type
word : (n : ℕ) (unsigned : Bool) → nat_lt n (if unsigned then 2 ^ 32 else 2 ^ 31) ≡ true → nat_lt n (2 ^ 32) ≡ true
word n true h = h
word n false h = below n h
  where
    below : (n : ℕ) → nat_lt n (2 ^ 31) ≡ true → nat_lt n (2 ^ 32) ≡ true
    below n h = grind (arith, nat_tests)

-- 6.4.5: literals that stand side by side are one text
texts_read : {ts : List Terminal} {bytes : List ℕ} → ReadsTexts ts bytes → In ts → list_all is_byte bytes ≡ true
texts_read no_text i = refl
texts_read (a_further_text {bytes = bytes} at first r) i = list_all-append is_byte first bytes ∙ and_from _ _ (first_so _ _ i) (texts_read r (second_so (list_all is_byte first) _ i))

-- ---- expressions, with whatever numbers

mutual
  expr_read : {form : Form} {h : ℕ} {ts : List Terminal} {e : ExprTree} → Reads form h ts e → In ts → (n : ℕ) → literals_fit (relabel_expr numbered n e) ≡ true
  expr_read (a_name at x) i n = refl
  expr_read (an_empty_call at o c f) i n = refl
  expr_read (a_call {ts = ts} at o c f r) i n = arguments_read r (front ts _ (second_so (is_name f) _ i)) _
  expr_read (a_constant at k unsigned) i n = word k unsigned (first_so _ _ i)
  expr_read (a_text {bytes = bytes} at first r) i n = list_all-append is_byte first bytes ∙ and_from _ _ (first_so _ _ i) (texts_read r (second_so (list_all is_byte first) _ i))
  expr_read (in_parentheses {ts = ts} o c r) i n = expr_read r (front ts _ i) n
  expr_read (an_index {xs = xs} {ys = ys} {a = a} {b = b} o c r s) i n = and_from _ _ (expr_read r (front xs _ i) _) (expr_read s (front ys _ (back xs _ i)) _)
  expr_read (a_member {xs = xs} access d r x) i n = expr_read r (front xs _ i) _
  expr_read (an_increment_after {xs = xs} s r) i n = expr_read r (front xs _ i) _
  expr_read (a_decrement_after {xs = xs} s r) i n = expr_read r (front xs _ i) _
  expr_read (a_postfix r) i n = expr_read r i n
  expr_read (an_increment at r) i n = expr_read r i _
  expr_read (a_decrement at r) i n = expr_read r i _
  expr_read (an_operator operator at r) i n = expr_read r i _
  expr_read (a_size_of_type at o c t) i n = refl
  expr_read (a_size_of_value at r) i n = expr_read r i _
  expr_read (a_cast {ts = ts} at c t r) i n = expr_read r (back ts _ i) _
  expr_read (an_operand r) i n = expr_read r i n
  expr_read (stronger r) i n = expr_read r i n
  expr_read (an_operation {xs = xs} {a = a} {b = b} operator at p r s) i n = and_from _ _ (expr_read r (front xs _ i) _) (expr_read s (back xs _ i) _)
  expr_read (a_plain_level r) i n = expr_read r i n
  expr_read (a_choice {xs = xs} {ys = ys} {a = a} {b = b} {c = c} q s r t u) i n =
      and_from _ _ (expr_read r (front xs _ i) _) (and_from _ _ (expr_read t (front ys _ (back xs _ i)) _) (expr_read u (back ys _ (back xs _ i)) _))
  expr_read (a_plain_conditional r) i n = expr_read r i n
  expr_read (an_assignment {xs = xs} {a = a} {b = b} operator at r s) i n = and_from _ _ (expr_read r (front xs _ i) _) (expr_read s (back xs _ i) _)
  expr_read (a_plain_assignment r) i n = expr_read r i n
  expr_read (a_comma {xs = xs} {a = a} {b = b} at r s) i n = and_from _ _ (expr_read r (front xs _ i) _) (expr_read s (back xs _ i) _)

  arguments_read : {h : ℕ} {ts : List Terminal} {es : Exprs} → ReadsArguments h ts es → In ts → (n : ℕ) → all_literals_fit (relabel_exprs numbered n es) ≡ true
  arguments_read (a_last_argument {e = e} r) i n = and_from _ _ (expr_read r i _) refl
  arguments_read (an_argument {xs = xs} {e = e} {es = es} at r s) i n = and_from _ _ (expr_read r (front xs _ i) _) (arguments_read s (back xs _ i) _)

-- ---- declarations

abbrev are_fine : List Site → Bool
are_fine ss = list_all (λ (s : Site). literals_fit s.expression) ss

two : (xs ys : List Site) → are_fine xs ≡ true → are_fine ys ≡ true → are_fine (xs ++ ys) ≡ true
two xs ys h k = list_all-append (λ (s : Site). literals_fit s.expression) xs ys ∙ and_from _ _ h k

given_read : {h : ℕ} {ts : List Terminal} {es : List ExprTree} → ReadsGiven h ts es → In ts → (n : ℕ) (c : Context)
    → are_fine (sites c (relabel_all numbered expr_count (relabel_expr numbered) n es)) ≡ true
given_read no_length i n c = refl
given_read (a_length {xs = xs} {e = e} {es = es} o k r s) i n c = and_from _ _ (expr_read r (front xs _ i) _) (given_read s (back xs _ i) _ c)

lengths_read : {h : ℕ} {ts : List Terminal} {l : LengthsTree} → ReadsLengths h ts l → In ts → (n : ℕ) (c : Context) → are_fine (sites c (relabel_lengths numbered n l).given) ≡ true
lengths_read (are_given r) i n c = given_read r i n c
lengths_read (first_open o k r) i n c = given_read r i n c

declarator_read : {names : Names} {h : ℕ} {ts : List Terminal} {d : DeclaratorTree} → ReadsDeclarator names h ts d → In ts → (n : ℕ) (c : Context) → are_fine (declarator_sites c (relabel_declarator numbered n d)) ≡ true
declarator_read (a_declarator {xs = xs} {t = t} s x r) i n c = lengths_read r (second_so (is_well_formed t) _ (back xs _ i)) _ c

mutual
  initialiser_read : {h : ℕ} {ts : List Terminal} {x : InitialiserTree} → ReadsInitialiser h ts x → In ts → (n : ℕ) (file : Bool) (c : Context) (t : Option TypeTree)
      → are_fine (initialiser_sites file c t (relabel_initialiser numbered n x)) ≡ true
  initialiser_read (a_value r) i n file c t = and_from _ _ (expr_read r i _) refl
  initialiser_read (a_list {ts = ts} o k r) i n file c t = initialisers_read r (front ts _ i) _ file c t 0

  initialisers_read : {h : ℕ} {ts : List Terminal} {is : Initialisers} → ReadsInitialisers h ts is → In ts → (n : ℕ) (file : Bool) (c : Context) (t : Option TypeTree) (k : ℕ)
      → are_fine (elements_sites file c t k (relabel_initialisers numbered n is)) ≡ true
  initialisers_read (a_last_initialiser {i = x} r) i n file c t k = two (initialiser_sites file c (option_part c.structs t k) (relabel_initialiser numbered n x)) [] (initialiser_read r i n file c _) refl
  initialisers_read (a_last_with_comma {ts = ts} {i = x} at r) i n file c t k =
      two (initialiser_sites file c (option_part c.structs t k) (relabel_initialiser numbered n x)) [] (initialiser_read r (front ts _ i) n file c _) refl
  initialisers_read (an_initialiser {xs = xs} {i = x} {is = is} at r s) i n file c t k =
      two (initialiser_sites file c (option_part c.structs t k) (relabel_initialiser numbered n x)) (elements_sites file c t (k + 1) (relabel_initialisers numbered _ is))
      (initialiser_read r (front xs _ i) n file c _) (initialisers_read s (back xs _ i) _ file c t (k + 1))

list_filled : {h : ℕ} {ts : List Terminal} {is : Initialisers} → ReadsInitialisers h ts is → (m n : ℕ) (token : ℕ) → is_filled (Some (relabel_initialiser numbered n (trees.list (record { id = m; token = token }) is))) ≡ true
list_filled (a_last_initialiser r) m n token = refl
list_filled (a_last_with_comma at r) m n token = refl
list_filled (an_initialiser at r s) m n token = refl

initialiser_filled : {h : ℕ} {ts : List Terminal} {x : InitialiserTree} → ReadsInitialiser h ts x → (n : ℕ) → is_filled (Some (relabel_initialiser numbered n x)) ≡ true
initialiser_filled (a_value r) n = refl
initialiser_filled (a_list o k r) n = list_filled r 0 n o

record VariableRead (n : ℕ) (v : VariableTree) : Type 0 where
  sites : (file : Bool) (c : Context) (after : Context) (base : Base) → are_fine (variable_sites file c after base (relabel_variable numbered n v)) ≡ true
  filled : is_filled (relabel_variable numbered n v).initialiser ≡ true

variable_read : {h : ℕ} {ts : List Terminal} {v : VariableTree} → ReadsVariable h ts v → In ts → (n : ℕ) → VariableRead n v
variable_read (an_unset_variable {d = d} r) i n =
    record { sites = λ file c after base. two (declarator_sites c (relabel_declarator numbered n d)) [] (declarator_read r i n c) refl; filled = refl }
variable_read (a_set_variable {xs = xs} {d = d} {i = x} at r s) i n = record {
  sites = λ file c after base. two (declarator_sites c (relabel_declarator numbered n d)) _ (declarator_read r (front xs _ i) n c) (initialiser_read s (back xs _ i) _ file after _);
  filled = initialiser_filled s _;
}

record VariablesRead (n : ℕ) (vs : List VariableTree) : Type 0 where
  sites : (file : Bool) (c : Context) (base : Base) → are_fine (variables_sites file c base (relabel_all numbered variable_count (relabel_variable numbered) n vs)) ≡ true
  filled : variables_filled (relabel_all numbered variable_count (relabel_variable numbered) n vs) ≡ true

variables_read : {h : ℕ} {ts : List Terminal} {vs : List VariableTree} → ReadsVariables h ts vs → In ts → (n : ℕ) → VariablesRead n vs
variables_read (a_last_variable {v = v} r) i n =
    let x = variable_read r i n in
    record {
      sites = λ file c base. two (variable_sites file c (after_variable file c base (relabel_variable numbered n v)) base (relabel_variable numbered n v)) [] (x.sites file c _ base) refl;
      filled = and_from _ _ x.filled refl;
    }
variables_read (a_variable {xs = xs} {v = v} {vs = vs} at r s) i n =
    let x = variable_read r (front xs _ i) n in
    let rest = variables_read s (back xs _ i) (n + variable_count v) in
    record {
      sites = λ file c base. two (variable_sites file c (after_variable file c base (relabel_variable numbered n v)) base (relabel_variable numbered n v)) _ (x.sites file c _ base)
          (rest.sites file _ base);
      filled = and_from _ _ x.filled rest.filled;
    }

declaration_read : {h : ℕ} {ts : List Terminal} {d : DeclarationTree} → ReadsDeclaration h ts d → In ts → (n : ℕ) → VariablesRead n d.variables
declaration_read (a_declaration {xs = xs} {ys = ys} s t r) i n = variables_read r (front ys _ (back xs _ i)) n

outer_read : {h : ℕ} {ts : List Terminal} {d : DeclarationTree} → ReadsOuterDeclaration h ts d → In ts → (n : ℕ) → VariablesRead n d.variables
outer_read (an_outer_declaration {xs = xs} {ys = ys} s t r) i n = variables_read r (front ys _ (back xs _ i)) n

declarators_read : {h : ℕ} {ts : List Terminal} {ds : List DeclaratorTree} → ReadsDeclarators h ts ds → In ts → (n : ℕ) (c : Context)
    → (are_fine (declarators_sites c (relabel_all numbered declarator_count (relabel_declarator numbered) n ds)) ≡ true)
    × (has_declarators (relabel_all numbered declarator_count (relabel_declarator numbered) n ds) ≡ true)
declarators_read (a_last_member {d = d} r) i n c = (two (declarator_sites c (relabel_declarator numbered n d)) [] (declarator_read r i n c) refl, refl)
declarators_read (declarations.a_member {xs = xs} {d = d} {ds = ds} at r s) i n c =
    (two (declarator_sites c (relabel_declarator numbered n d)) _ (declarator_read r (front xs _ i) n c) (declarators_read s (back xs _ i) _ c).0, refl)

members_read : {h : ℕ} {ts : List Terminal} {m : MembersTree} → ReadsMembers h ts m → In ts → (n : ℕ) (c : Context)
    → (are_fine (declarators_sites c (relabel_members numbered n m).declarators) ≡ true) × (has_declarators (relabel_members numbered n m).declarators ≡ true)
members_read (a_group {xs = xs} {ys = ys} s t r) i n c = declarators_read r (front ys _ (back xs _ i)) n c

all_members_read : {h : ℕ} {ts : List Terminal} {ms : List MembersTree} → ReadsAllMembers h ts ms → In ts → (n : ℕ) (c : Context)
    → (are_fine (members_sites c (relabel_all numbered members_count (relabel_members numbered) n ms)) ≡ true)
    × (members_filled (relabel_all numbered members_count (relabel_members numbered) n ms) ≡ true)
all_members_read (a_last_group {m = m} r) i n c =
    let x = members_read r i n c in (two (declarators_sites c (relabel_members numbered n m).declarators) [] x.0 refl, x.1)
all_members_read (a_further_group {xs = xs} {m = m} {ms = ms} r s) i n c =
    let x = members_read r (front xs _ i) n c in (two (declarators_sites c (relabel_members numbered n m).declarators) _ x.0 (all_members_read s (back xs _ i) _ c).0, x.1)

parameter_read : {h : ℕ} {ts : List Terminal} {p : ParameterTree} → ReadsParameter h ts p → In ts → (n : ℕ) (c : Context)
    → are_fine (sites c (relabel_parameter numbered n p).lengths.given) ≡ true
parameter_read (a_named_parameter {xs = xs} {ys = ys} at x t s r) i n c = lengths_read r (second_so (is_name x) _ (back ys _ (back xs _ i))) _ c
parameter_read (an_unnamed_parameter {xs = xs} {ys = ys} t s r other) i n c = lengths_read r (back ys _ (back xs _ i)) _ c

parameters_read : {h : ℕ} {ts : List Terminal} {ps : List ParameterTree} → ReadsParameters h ts ps → In ts → (n : ℕ) (c : Context)
    → are_fine (parameters_sites c (relabel_all numbered parameter_count (relabel_parameter numbered) n ps)) ≡ true
parameters_read (a_last_parameter {p = p} r) i n c = two (sites c (relabel_parameter numbered n p).lengths.given) [] (parameter_read r i n c) refl
parameters_read (a_parameter {xs = xs} {p = p} {ps = ps} at r s) i n c =
    two (sites c (relabel_parameter numbered n p).lengths.given) _ (parameter_read r (front xs _ i) n c) (parameters_read s (back xs _ i) _ _)

head_read : {h : ℕ} {ts : List Terminal} {ps : List ParameterTree} → ReadsHead h ts ps → In ts → (n : ℕ) (c : Context)
    → are_fine (parameters_sites c (relabel_all numbered parameter_count (relabel_parameter numbered) n ps)) ≡ true
head_read no_parameter i n c = refl
head_read (a_void_head at) i n c = refl
head_read (some_parameters r) i n c = parameters_read r i n c

-- ---- statements

optional_read : {h : ℕ} {ts : List Terminal} {e : Option ExprTree} → ReadsOptional h ts e → In ts → (n : ℕ) (c : Context)
    → are_fine (option_sites c (relabel_option (relabel_expr numbered) n e)) ≡ true
optional_read nothing_there i n c = refl
optional_read (something_there r) i n c = and_from _ _ (expr_read r i n) refl

record StatementRead (sites : List Site) (filled : Bool) : Type 0 where
  fine : are_fine sites ≡ true
  full : filled ≡ true

start_read : {h : ℕ} {ts : List Terminal} {s : StartTree} → ReadsStart h ts s → In ts → (n : ℕ) (c : Context)
    → StatementRead (start_sites c (relabel_start numbered n s)) (start_filled (relabel_start numbered n s))
start_read (a_start_declaration {d = d} r) i n c = let x = declaration_read r i n in record { fine = x.sites false c d.base; full = x.filled }
start_read (a_start_expression {ts = ts} s r) i n c = record { fine = and_from _ _ (expr_read r (front ts _ i) n) refl; full = refl }
start_read (no_start_at_all s) i n c = record { fine = refl; full = refl }

-- ---- labels have statements behind them

no_label : {h : ℕ} {ts : List Terminal} {s : StmtTree} → ReadsStatement h ts s → (n : ℕ) → is_label (relabel_stmt numbered n s) ≡ false
no_label (a_block o k r) n = refl
no_label (an_empty at) n = refl
no_label (an_expression s r) n = refl
no_label (an_if at o k r q) n = refl
no_label (an_if_with_else at o k m r q closed w) n = refl
no_label (a_while at o k r q) n = refl
no_label (a_do at w o k m q r) n = refl
no_label (a_for at o m k ra re ru rs) n = refl
no_label (a_switch at o k r q) n = refl
no_label (a_break at s) n = refl
no_label (a_continue at s) n = refl
no_label (a_return at s r) n = refl

label_is : {b l : Bool} {h : ℕ} {ts : List Terminal} {s : StmtTree} → ReadsSwitchItem b l h ts s → (n : ℕ) → is_label (relabel_stmt numbered n s) ≡ l
label_is (a_label (a_case at k r)) n = refl
label_is (a_label (a_default at k)) n = refl
label_is (a_switch_statement r) n = no_label r n
label_is (a_switch_declaration r) n = refl

switch_items_end : {b : Bool} {h : ℕ} {ts : List Terminal} {ss : Stmts} → ReadsSwitchItems b h ts ss → (n : ℕ) → ends_in_label b (relabel_stmts numbered n ss) ≡ false
switch_items_end no_switch_item n = refl
switch_items_end (a_switch_item {s = s} {ss = ss} r q) n =
    subst (λ b. ends_in_label b (relabel_stmts numbered (n + stmt_count s) ss) ≡ false) (sym (label_is r n)) (switch_items_end q (n + stmt_count s))

switch_block_ends : {h : ℕ} {ts : List Terminal} {ss : Stmts} → ReadsSwitchBlock h ts ss → (n : ℕ) → ends_in_label false (relabel_stmts numbered n ss) ≡ false
switch_block_ends (in_braces o k r) n = switch_items_end r n

label_read : {h : ℕ} {ts : List Terminal} {s : StmtTree} → ReadsLabel h ts s → In ts → (n : ℕ) (c : Context)
    → StatementRead (statement_sites c (relabel_stmt numbered n s)) (statement_filled (relabel_stmt numbered n s))
label_read (a_case {ts = ts} at k r) i n c = record { fine = and_from _ _ (expr_read r (front ts _ i) _) refl; full = refl }
label_read (a_default at k) i n c = record { fine = refl; full = refl }

mutual
  statement_read : {h : ℕ} {ts : List Terminal} {s : StmtTree} → ReadsStatement h ts s → In ts → (n : ℕ) (c : Context)
      → StatementRead (statement_sites c (relabel_stmt numbered n s)) (statement_filled (relabel_stmt numbered n s))
  statement_read (a_block {ts = ts} o k r) i n c = items_read r (front ts _ i) n (inner_scope c)
  statement_read (an_empty at) i n c = record { fine = refl; full = refl }
  statement_read (an_expression {ts = ts} s r) i n c = record { fine = and_from _ _ (expr_read r (front ts _ i) _) refl; full = refl }
  statement_read (an_if {xs = xs} {e = e} {s = s} at o k r q) i n c =
      let x = statement_read q (back xs _ i) (n + 1 + expr_count e) (inner_scope c) in
      record {
        fine = and_from _ _ (expr_read r (front xs _ i) (n + 1)) (two (statement_sites (inner_scope c) (relabel_stmt numbered (n + 1 + expr_count e) s)) [] x.fine refl);
        full = and_from _ _ x.full refl;
      }
  statement_read (an_if_with_else {xs = xs} {ys = ys} {e = e} {s = s} {t = t} at o k m r q closed w) i n c =
      let x = statement_read q (front ys _ (back xs _ i)) (n + 1 + expr_count e) (inner_scope c) in
      let y = statement_read w (back ys _ (back xs _ i)) (n + 1 + expr_count e + stmt_count s) (inner_scope c) in
      record {
        fine = and_from _ _ (expr_read r (front xs _ i) (n + 1))
            (two (statement_sites (inner_scope c) (relabel_stmt numbered (n + 1 + expr_count e) s))
            (statement_sites (inner_scope c) (relabel_stmt numbered (n + 1 + expr_count e + stmt_count s) t)) x.fine y.fine);
        full = and_from _ _ x.full y.full;
      }
  statement_read (a_while {xs = xs} {e = e} {s = s} at o k r q) i n c =
      let x = statement_read q (back xs _ i) (n + 1 + expr_count e) (inside_loop (inner_scope c)) in
      record { fine = and_from _ _ (expr_read r (front xs _ i) (n + 1)) x.fine; full = x.full }
  statement_read (a_do {xs = xs} {ys = ys} {s = s} {e = e} at w o k m q r) i n c =
      let x = statement_read q (front xs _ i) (n + 1) (inside_loop (inner_scope c)) in
      record {
        fine = two (statement_sites (inside_loop (inner_scope c)) (relabel_stmt numbered (n + 1) s)) (site c (relabel_expr numbered (n + 1 + stmt_count s) e)) x.fine
            (and_from _ _ (expr_read r (front ys _ (back xs _ i)) (n + 1 + stmt_count s)) refl);
        full = x.full;
      }
  statement_read (a_for {ws = ws} {xs = xs} {ys = ys} {start = a} {e = e} {u = u} {s = s} at o m k ra re ru rs) i n c =
      let first = n + 1 + start_count a in
      let second = n + 1 + start_count a + option_count expr_count e in
      let third = n + 1 + start_count a + option_count expr_count e + option_count expr_count u in
      let behind = for_context c (relabel_start numbered (n + 1) a) in
      let inside = inside_loop (inner_scope behind) in
      let x = start_read ra (front ws _ i) (n + 1) (inner_scope c) in
      let y = statement_read rs (back ys _ (back xs _ (back ws _ i))) third inside in
      record {
        fine = two (start_sites (inner_scope c) (relabel_start numbered (n + 1) a))
            (option_sites behind (relabel_option (relabel_expr numbered) first e)
            ++ (option_sites behind (relabel_option (relabel_expr numbered) second u) ++ statement_sites inside (relabel_stmt numbered third s))) x.fine
            (two (option_sites behind (relabel_option (relabel_expr numbered) first e))
            (option_sites behind (relabel_option (relabel_expr numbered) second u) ++ statement_sites inside (relabel_stmt numbered third s))
            (optional_read re (front xs _ (back ws _ i)) first behind)
            (two (option_sites behind (relabel_option (relabel_expr numbered) second u)) (statement_sites inside (relabel_stmt numbered third s))
            (optional_read ru (front ys _ (back xs _ (back ws _ i))) second behind) y.fine));
        full = and_from _ _ x.full y.full;
      }
  statement_read (a_switch {xs = xs} {e = e} at o k r q) i n c =
      let x = switch_block_read q (back xs _ i) (n + 1 + expr_count e) (switch_context c (relabel_expr numbered (n + 1) e)) in
      record {
        fine = and_from _ _ (expr_read r (front xs _ i) (n + 1)) x.fine;
        full = and_from _ _ (ap not (switch_block_ends q (n + 1 + expr_count e))) x.full;
      }
  statement_read (a_break at s) i n c = record { fine = refl; full = refl }
  statement_read (a_continue at s) i n c = record { fine = refl; full = refl }
  statement_read (a_return {ts = ts} at s r) i n c = record { fine = optional_read r (front ts _ i) _ c; full = refl }

  item_read : {h : ℕ} {ts : List Terminal} {s : StmtTree} → ReadsItem h ts s → In ts → (n : ℕ) (c : Context)
      → StatementRead (statement_sites c (relabel_stmt numbered n s)) (statement_filled (relabel_stmt numbered n s))
  item_read (a_statement r) i n c = statement_read r i n c
  item_read (a_declared {d = d} r) i n c = let x = declaration_read r i n in record { fine = x.sites false c d.base; full = x.filled }

  items_read : {h : ℕ} {ts : List Terminal} {ss : Stmts} → ReadsItems h ts ss → In ts → (n : ℕ) (c : Context)
      → StatementRead (statements_sites c (relabel_stmts numbered n ss)) (statements_filled (relabel_stmts numbered n ss))
  items_read no_item i n c = record { fine = refl; full = refl }
  items_read (an_item {xs = xs} {s = s} {ss = ss} r q) i n c =
      let x = item_read r (front xs _ i) n c in
      let y = items_read q (back xs _ i) _ (after_statement c (relabel_stmt numbered n s)) in
      record { fine = two (statement_sites c (relabel_stmt numbered n s)) _ x.fine y.fine; full = and_from _ _ x.full y.full }

  switch_block_read : {h : ℕ} {ts : List Terminal} {ss : Stmts} → ReadsSwitchBlock h ts ss → In ts → (n : ℕ) (c : Context)
      → StatementRead (statements_sites c (relabel_stmts numbered n ss)) (statements_filled (relabel_stmts numbered n ss))
  switch_block_read (in_braces {ts = ts} o k r) i n c = switch_items_read r (front ts _ i) n c

  switch_item_read : {b l : Bool} {h : ℕ} {ts : List Terminal} {s : StmtTree} → ReadsSwitchItem b l h ts s → In ts → (n : ℕ) (c : Context)
      → StatementRead (statement_sites c (relabel_stmt numbered n s)) (statement_filled (relabel_stmt numbered n s))
  switch_item_read (a_label r) i n c = label_read r i n c
  switch_item_read (a_switch_statement r) i n c = statement_read r i n c
  switch_item_read (a_switch_declaration {d = d} r) i n c = let x = declaration_read r i n in record { fine = x.sites false c d.base; full = x.filled }

  switch_items_read : {b : Bool} {h : ℕ} {ts : List Terminal} {ss : Stmts} → ReadsSwitchItems b h ts ss → In ts → (n : ℕ) (c : Context)
      → StatementRead (statements_sites c (relabel_stmts numbered n ss)) (statements_filled (relabel_stmts numbered n ss))
  switch_items_read no_switch_item i n c = record { fine = refl; full = refl }
  switch_items_read (a_switch_item {xs = xs} {s = s} {ss = ss} r q) i n c =
      let x = switch_item_read r (front xs _ i) n c in
      let y = switch_items_read q (back xs _ i) _ (after_statement c (relabel_stmt numbered n s)) in
      record { fine = two (statement_sites c (relabel_stmt numbered n s)) _ x.fine y.fine; full = and_from _ _ x.full y.full }

-- ---- units

-- a function with a body
both_read : (f : FunctionTree) (ss : Stmts) (c : Context) → are_fine (parameters_sites (inner_scope c) f.parameters) ≡ true
    → ((d : Context) → StatementRead (statements_sites d ss) (statements_filled ss))
    → StatementRead (parameters_sites (inner_scope c) f.parameters ++ statements_sites (body_context c f) ss) (statements_filled ss)
both_read f ss c h k =
    let x = k (body_context c f) in record { fine = two (parameters_sites (inner_scope c) f.parameters) (statements_sites (body_context c f) ss) h x.fine; full = x.full }

plain_read : {h : ℕ} {ts : List Terminal} {d : DeclTree} → ReadsPlain h ts d → In ts → (n : ℕ) (c : Context)
    → StatementRead (declaration_sites c (relabel_decl numbered n d)) (declaration_filled (relabel_decl numbered n d))
plain_read (a_struct_with_members {t = t} {ts = ts} {x = x} at o k s y r) i n c =
    let z = all_members_read r (front ts _ (second_so (is_well_formed t) _ i)) _ (with_option_tag c (Some x)) in record { fine = z.0; full = z.1 }
plain_read (a_forward at s x) i n c = record { fine = refl; full = refl }
plain_read (a_header {xs = xs} {ys = ys} {zs = zs} {ps = ps} m o k s x t u r) i n c = record {
  fine = two (parameters_sites (inner_scope c) (relabel_all numbered parameter_count (relabel_parameter numbered) (n + 1) ps)) []
      (head_read r (front zs _ (second_so (is_name x) _ (back ys _ (back xs _ i)))) (n + 1) (inner_scope c)) refl;
  full = refl;
}
plain_read (a_definition {m = stars} {xs = xs} {ys = ys} {zs = zs} {ws = ws} {base = base} {ps = ps} {ss = ss} m o k b e x t u r q) i n c =
    let behind = second_so (is_name x) _ (back ys _ (back xs _ i)) in
    both_read
    (relabel_function numbered n (record { node = trees.unnumbered (place xs); result_type = record { base = base; stars = stars }; name = x; parameters = ps; body = Some ss }))
    (relabel_stmts numbered (n + 1 + all_count parameter_count ps) ss) c (head_read r (front zs _ behind) (n + 1) (inner_scope c))
    (λ d. items_read q (front ws _ (back zs _ behind)) (n + 1 + all_count parameter_count ps) d)
plain_read (some_variables {d = d} r) i n c = let x = outer_read r i n in record { fine = x.sites true c d.base; full = x.filled }

-- the struct that a typedef defines
defined_read : {h : ℕ} {ts : List Terminal} {d : DefinedTree} → ReadsDefined h ts d → In ts → (n : ℕ) (c : Context)
    → StatementRead (defined_sites c (relabel_defined numbered n d)) (defined_filled (relabel_defined numbered n d))
defined_read (a_struct_with_tag {t = t} {ts = ts} {x = x} at o k y r) i n c =
    let z = all_members_read r (front ts _ (second_so (is_well_formed t) _ i)) _ (with_option_tag c (Some x)) in record { fine = z.0; full = z.1 }
defined_read (a_struct_without_tag {ts = ts} at o k r) i n c =
    let z = all_members_read r (front ts _ i) _ (with_option_tag c None) in record { fine = z.0; full = z.1 }
defined_read (a_known_type r) i n c = record { fine = refl; full = refl }

type_names_read : {set : NameSet} {h : ℕ} {ts : List Terminal} {ds : List DeclaratorTree} → ReadsTypeNames set h ts ds → In ts → (n : ℕ) (c : Context) (base : Option TypeTree)
    → are_fine (type_names_sites c base (relabel_all numbered declarator_count (relabel_declarator numbered) n ds)) ≡ true
type_names_read (a_last_name {set = set} {ts = ts} {d = d} r) i n c base =
    two (declarator_sites c (relabel_declarator numbered n d)) [] (declarator_read r (marked_in set ts i) n c) refl
type_names_read (a_name_before {set = set} {d = d} xs at r s) i n c base =
    two (declarator_sites c (relabel_declarator numbered n d)) _ (declarator_read r (marked_in set xs (front xs _ i)) n c)
    (type_names_read s (back xs _ i) _ (after_type_name c base (relabel_declarator numbered n d)) base)

external_read : {set : NameSet} {h : ℕ} {ts : List Terminal} {d : DeclTree} → ReadsExternal set h ts d → In ts → (n : ℕ) (c : Context)
    → StatementRead (declaration_sites c (relabel_decl numbered n d)) (declaration_filled (relabel_decl numbered n d))
external_read (a_plain_external {set = set} {ts = ts} r) i n c = plain_read r (marked_in set ts i) n c
external_read (a_typedef {set = set} {ys = ys} {defined = d} {ds = ds} xs at s r q) i n c =
    let x = defined_read r (marked_in set xs (front xs _ i)) n c in
    let names = type_names_read q (front ys _ (back xs _ i)) (n + defined_count d) (after_defined c (relabel_defined numbered n d)) (defined_type c (relabel_defined numbered n d)) in
    record { fine = two (defined_sites c (relabel_defined numbered n d)) _ x.fine names; full = x.full }

unit_read : {set : NameSet} {h : ℕ} {ts : List Terminal} {ds : List DeclTree} → ReadsExternals set h ts ds → In ts → (n : ℕ) (c : Context)
    → StatementRead (declarations_sites c (relabel_all numbered decl_count (relabel_decl numbered) n ds)) (lists_are_filled (relabel_all numbered decl_count (relabel_decl numbered) n ds))
unit_read (a_last_external {d = d} r) i n c = let x = external_read r i n c in record { fine = two (declaration_sites c (relabel_decl numbered n d)) [] x.fine refl; full = and_from _ _ x.full refl }
unit_read (an_external {xs = xs} {d = d} {ds = ds} r s) i n c =
    let x = external_read r (front xs _ i) n c in
    let y = unit_read s (back xs _ i) _ (after_declaration c (relabel_decl numbered n d)) in
    record { fine = two (declaration_sites c (relabel_decl numbered n d)) _ x.fine y.fine; full = and_from _ _ x.full y.full }

reading_is : (ds : UnitTree) → Reading ds → IsAsRead ds
reading_is ds r =
    let u = unit_read r.reads r.are_tokens 0 start_context in
    subst IsAsRead (sym r.are_numbered) (record {
      numbers = ap (λ ns. are_different (ids ns)) (unit_at r.unnumbered) ∙ numbers_different 0 (unit_nodes r.unnumbered);
      literals = u.fine;
      lists = u.full;
    })

pub read_is_as_read : ReadIsAsRead
read_is_as_read ds read = record {
  numbers = ∥∥₁_elim read (Bool-set (numbers_differ ds) true) (λ r. (reading_is ds r).numbers);
  literals = ∥∥₁_elim read (Bool-set (unit_literals_fit ds) true) (λ r. (reading_is ds r).literals);
  lists = ∥∥₁_elim read (Bool-set (lists_are_filled ds) true) (λ r. (reading_is ds r).lists);
}
