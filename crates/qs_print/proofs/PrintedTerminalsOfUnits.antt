-- Units that are read from terminals are printed as terminals.
use Rattle.std.proofs.Common.{◌≡◌, ℕ, Bool, true, false, List, [], ◌∷◌, ◌++◌, Option, Some, None, flat_map, if◌then◌else◌, refl, ap, ◌∙◌}
use Rattle.std.specs.List.{list_all}
use Rattle.std.proofs.lemmas.List.Concat.{flat_map-cons}
use Rattle.std.specs.Cmp.{first_so, second_so}
use Rattle.qs_base.specs.Names.{is_name}
use Rattle.qs_syntax_vocabulary.specs.WellFormed.{is_well_formed}
use Rattle.qs_syntax_vocabulary.specs.declared.terminal.Terminal.{Terminal}
use Rattle.qs_syntax.specs.Trees.{unnumbered, ExprTree, LengthsTree, DeclaratorTree, InitialiserTree, Initialisers, VariableTree, DeclarationTree, ParameterTree, MembersTree, DefinedTree, StartTree, StmtTree, Stmts, DeclTree, block}
use Rattle.qs_syntax.specs.ReadsDeclarations.{ReadsGiven, no_length, a_length, ReadsLengths, are_given, first_open, ReadsDeclarator, a_declarator, ReadsInitialiser, a_value, a_list, ReadsInitialisers, a_last_initialiser, a_last_with_comma, an_initialiser, ReadsVariable, an_unset_variable, a_set_variable, ReadsVariables, a_last_variable, a_variable, ReadsDeclaration, a_declaration, ReadsOuterDeclaration, an_outer_declaration, ReadsDeclarators, a_last_member, a_member, ReadsMembers, a_group, ReadsAllMembers, a_last_group, a_further_group, ReadsParameter, a_named_parameter, an_unnamed_parameter, ReadsParameters, a_last_parameter, a_parameter, ReadsHead, no_parameter, a_void_head, some_parameters}
use Rattle.qs_syntax.specs.ReadsStatements.{ReadsOptional, nothing_there, something_there, ReadsStart, a_start_declaration, a_start_expression, no_start_at_all, ReadsStatement, a_block, an_empty, an_expression, an_if, an_if_with_else, a_while, a_do, a_for, a_switch, a_break, a_continue, a_return, ReadsItem, a_statement, a_declared, ReadsItems, no_item, an_item, ReadsLabel, a_case, a_default, ReadsSwitchBlock, in_braces, ReadsSwitchItem, a_label, a_switch_statement, a_switch_declaration, ReadsSwitchItems, no_switch_item, a_switch_item}
use Rattle.qs_syntax.specs.ReadsUnits.{ReadsPlain, a_struct_with_members, a_forward, a_header, a_definition, some_variables, ReadsDefined, a_struct_with_tag, a_struct_without_tag, a_known_type, ReadsTypeNames, a_last_name, a_name_before, ReadsExternal, a_plain_external, a_typedef, ReadsExternals, a_last_external, an_external}
use Rattle.qs_syntax.specs.ReadsTypes.{Names, Any, ReadsName}
use Rattle.qs_syntax_vocabulary.specs.Marks.{NameSet, mark, marked, is_in}
use Rattle.qs_syntax_vocabulary.specs.declared.terminal.Terminal.TheVariants as terminals
use Rattle.qs_syntax.specs.Reads.{place}
use Rattle.qs_print.specs.Printed.{behind_commas, with_commas, const_if, further_initialisers, in_parentheses, is_void_alone, printed_base, printed_decl, printed_declaration, printed_declarator, printed_defined, printed_expr, printed_initialiser, printed_initialisers, printed_length, printed_lengths, printed_members, printed_name, printed_optional, printed_parameter, printed_parameters, printed_stars, printed_start, printed_stmt, printed_stmts, printed_unit, printed_variable, within}
use Rattle.qs_syntax_vocabulary.specs.declared.terminal.Terminal.TheVariants.{Name, Punctuator}
use Rattle.qs_syntax_vocabulary.specs.declared.punctuator.Punctuator.TheVariants as punctuators
use Rattle.qs_print.proofs.PrintedTerminals.{Are, keep, left, right, join, stars_are, name_are, type_are, outer_type_are, within_are, expr_are}

-- ---- lists

more_are : {A : Type 0} (printed : A → List Terminal) (x : A) (xs : List A) → Are (printed x) → Are (flat_map printed xs) → Are (flat_map printed (x ∷ xs))
more_are printed x xs h k = ap (list_all is_well_formed) (flat_map-cons printed x xs) ∙ join is_well_formed (printed x) (flat_map printed xs) h k

without_comma : {A : Type 0} (printed : A → List Terminal) (xs : List A) → Are (behind_commas printed xs) → Are (with_commas printed xs)
without_comma printed [] h = refl
without_comma printed (x ∷ xs) h = h

parentheses_are : (ls rest : List Terminal) → Are ls → Are rest → Are (in_parentheses ls ++ rest)
parentheses_are ls rest h k = join is_well_formed (in_parentheses ls) rest (join is_well_formed ls _ h refl) k

-- ---- declarations

given_are : {n : ℕ} {ts : List Terminal} {es : List ExprTree} → ReadsGiven n ts es → Are ts → Are (flat_map printed_length es)
given_are no_length h = refl
given_are (a_length {xs = xs} {e = e} {es = es} o c r s) h =
    more_are printed_length e es (join is_well_formed (within 13 e (printed_expr e)) _ (within_are 13 e (expr_are r (left is_well_formed xs _ h))) refl) (given_are s (right is_well_formed xs _ h))

lengths_are : {n : ℕ} {ts : List Terminal} {lengths : LengthsTree} → ReadsLengths n ts lengths → Are ts → Are (printed_lengths lengths)
lengths_are (are_given r) h = given_are r h
lengths_are (first_open o c r) h = given_are r h

declarator_are : {names : Names} {n : ℕ} {ts : List Terminal} {d : DeclaratorTree} → ReadsDeclarator names n ts d → Are ts → Are (printed_declarator d)
declarator_are (a_declarator {n = n} {xs = xs} {ys = ys} {x = x} s named l) h = join is_well_formed (printed_stars n) _ (stars_are n) (keep (is_name x) _ _ (name_are named ys (right is_well_formed xs _ h)) (λ k. lengths_are l k))

mutual
  initialiser_are : {n : ℕ} {ts : List Terminal} {i : InitialiserTree} → ReadsInitialiser n ts i → Are ts → Are (printed_initialiser i)
  initialiser_are (a_value {e = e} r) h = within_are 14 e (expr_are r h)
  initialiser_are (a_list {ts = ts} {is = is} o c r) h = join is_well_formed (printed_initialisers is) _ (initialisers_are r (left is_well_formed ts _ h)) refl

  initialisers_are : {n : ℕ} {ts : List Terminal} {is : Initialisers} → ReadsInitialisers n ts is → Are ts → Are (printed_initialisers is)
  initialisers_are (a_last_initialiser {i = i} r) h = join is_well_formed (printed_initialiser i) [] (initialiser_are r h) refl
  initialisers_are (a_last_with_comma {ts = ts} {i = i} at r) h = join is_well_formed (printed_initialiser i) [] (initialiser_are r (left is_well_formed ts _ h)) refl
  initialisers_are (an_initialiser {xs = xs} {i = i} {is = is} at r s) h = join is_well_formed (printed_initialiser i) (further_initialisers is) (initialiser_are r (left is_well_formed xs _ h)) (further_are s (right is_well_formed xs _ h))

  further_are : {n : ℕ} {ts : List Terminal} {is : Initialisers} → ReadsInitialisers n ts is → Are ts → Are (further_initialisers is)
  further_are (a_last_initialiser {i = i} r) h = join is_well_formed (printed_initialiser i) [] (initialiser_are r h) refl
  further_are (a_last_with_comma {ts = ts} {i = i} at r) h = join is_well_formed (printed_initialiser i) [] (initialiser_are r (left is_well_formed ts _ h)) refl
  further_are (an_initialiser {xs = xs} {i = i} {is = is} at r s) h = join is_well_formed (printed_initialiser i) (further_initialisers is) (initialiser_are r (left is_well_formed xs _ h)) (further_are s (right is_well_formed xs _ h))

variable_are : {n : ℕ} {ts : List Terminal} {v : VariableTree} → ReadsVariable n ts v → Are ts → Are (printed_variable v)
variable_are (an_unset_variable {d = d} r) h = join is_well_formed (printed_declarator d) [] (declarator_are r h) refl
variable_are (a_set_variable {xs = xs} {d = d} at r s) h = join is_well_formed (printed_declarator d) _ (declarator_are r (left is_well_formed xs _ h)) (initialiser_are s (right is_well_formed xs _ h))

variables_are : {n : ℕ} {ts : List Terminal} {vs : List VariableTree} → ReadsVariables n ts vs → Are ts → Are (behind_commas printed_variable vs)
variables_are (a_last_variable {v = v} r) h = join is_well_formed (printed_variable v) [] (variable_are r h) refl
variables_are (a_variable {xs = xs} {v = v} {vs = vs} at r s) h = join is_well_formed (printed_variable v) (behind_commas printed_variable vs) (variable_are r (left is_well_formed xs _ h)) (variables_are s (right is_well_formed xs _ h))

declaration_are : {n : ℕ} {ts : List Terminal} {d : DeclarationTree} → ReadsDeclaration n ts d → Are ts → Are (printed_declaration d)
declaration_are (a_declaration {xs = xs} {ys = ys} {base = base} {vs = vs} s t r) h =
    join is_well_formed (printed_base base) _ (type_are t (left is_well_formed xs _ h))
    (join is_well_formed (with_commas printed_variable vs) _ (without_comma printed_variable vs (variables_are r (left is_well_formed ys _ (right is_well_formed xs _ h)))) refl)

outer_declaration_are : {n : ℕ} {ts : List Terminal} {d : DeclarationTree} → ReadsOuterDeclaration n ts d → Are ts → Are (printed_declaration d)
outer_declaration_are (an_outer_declaration {xs = xs} {ys = ys} {base = base} {vs = vs} s t r) h =
    join is_well_formed (printed_base base) _ (outer_type_are t (left is_well_formed xs _ h))
    (join is_well_formed (with_commas printed_variable vs) _ (without_comma printed_variable vs (variables_are r (left is_well_formed ys _ (right is_well_formed xs _ h)))) refl)

declarators_are : {n : ℕ} {ts : List Terminal} {ds : List DeclaratorTree} → ReadsDeclarators n ts ds → Are ts → Are (behind_commas printed_declarator ds)
declarators_are (a_last_member {d = d} r) h = join is_well_formed (printed_declarator d) [] (declarator_are r h) refl
declarators_are (a_member {xs = xs} {d = d} {ds = ds} at r s) h = join is_well_formed (printed_declarator d) (behind_commas printed_declarator ds) (declarator_are r (left is_well_formed xs _ h)) (declarators_are s (right is_well_formed xs _ h))

members_are : {n : ℕ} {ts : List Terminal} {m : MembersTree} → ReadsMembers n ts m → Are ts → Are (printed_members m)
members_are (a_group {xs = xs} {ys = ys} {base = base} {ds = ds} s t r) h =
    join is_well_formed (printed_base base) _ (type_are t (left is_well_formed xs _ h))
    (join is_well_formed (with_commas printed_declarator ds) _ (without_comma printed_declarator ds (declarators_are r (left is_well_formed ys _ (right is_well_formed xs _ h)))) refl)

all_members_are : {n : ℕ} {ts : List Terminal} {ms : List MembersTree} → ReadsAllMembers n ts ms → Are ts → Are (flat_map printed_members ms)
all_members_are (a_last_group {m = m} r) h = more_are printed_members m [] (members_are r h) refl
all_members_are (a_further_group {xs = xs} {m = m} {ms = ms} r s) h = more_are printed_members m ms (members_are r (left is_well_formed xs _ h)) (all_members_are s (right is_well_formed xs _ h))

-- ---- parameters

const_are : (b : Bool) → Are (const_if b)
const_are true = refl
const_are false = refl

parts_are : (p : ParameterTree) → Are (printed_base p.type_name.base) → Are (printed_name p.name ++ printed_lengths p.lengths) → Are (printed_parameter p)
parts_are p b l =
    join is_well_formed (const_if (is_void_alone p)) _ (const_are (is_void_alone p)) (join is_well_formed (printed_base p.type_name.base) _ b (join is_well_formed (printed_stars p.type_name.stars) _ (stars_are p.type_name.stars) l))

parameter_are : {n : ℕ} {ts : List Terminal} {p : ParameterTree} → ReadsParameter n ts p → Are ts → Are (printed_parameter p)
parameter_are (a_named_parameter {n = n} {xs = xs} {ys = ys} {base = base} {lengths = lengths} at x t s l) h =
    parts_are (record { node = unnumbered at; type_name = record { base = base; stars = n }; name = Some x; lengths = lengths }) (type_are t (left is_well_formed xs _ h))
    (keep (is_name x) _ _ (right is_well_formed ys _ (right is_well_formed xs _ h)) (λ k. lengths_are l k))
parameter_are (an_unnamed_parameter {n = n} {xs = xs} {ys = ys} {base = base} {lengths = lengths} t s l w) h =
    parts_are (record { node = unnumbered (place xs); type_name = record { base = base; stars = n }; name = None; lengths = lengths }) (type_are t (left is_well_formed xs _ h))
    (lengths_are l (right is_well_formed ys _ (right is_well_formed xs _ h)))

parameters_are : {n : ℕ} {ts : List Terminal} {ps : List ParameterTree} → ReadsParameters n ts ps → Are ts → Are (behind_commas printed_parameter ps)
parameters_are (a_last_parameter {p = p} r) h = join is_well_formed (printed_parameter p) [] (parameter_are r h) refl
parameters_are (a_parameter {xs = xs} {p = p} {ps = ps} at r s) h = join is_well_formed (printed_parameter p) (behind_commas printed_parameter ps) (parameter_are r (left is_well_formed xs _ h)) (parameters_are s (right is_well_formed xs _ h))

some_are : (ps : List ParameterTree) → Are (behind_commas printed_parameter ps) → Are (printed_parameters ps)
some_are [] h = refl
some_are (p ∷ ps) h = h

head_are : {n : ℕ} {ts : List Terminal} {ps : List ParameterTree} → ReadsHead n ts ps → Are ts → Are (printed_parameters ps)
head_are no_parameter h = refl
head_are (a_void_head at) h = refl
head_are (some_parameters {ps = ps} r) h = some_are ps (parameters_are r h)

-- ---- statements

optional_are : {n : ℕ} {ts : List Terminal} {e : Option ExprTree} → ReadsOptional n ts e → Are ts → Are (printed_optional e)
optional_are nothing_there h = refl
optional_are (something_there r) h = expr_are r h

start_are : {n : ℕ} {ts : List Terminal} {start : StartTree} → ReadsStart n ts start → Are ts → Are (printed_start start)
start_are (a_start_declaration r) h = declaration_are r h
start_are (a_start_expression {ts = ts} {e = e} s r) h = join is_well_formed (printed_expr e) _ (expr_are r (left is_well_formed ts _ h)) refl
start_are (no_start_at_all s) h = refl

label_are : {n : ℕ} {ts : List Terminal} {s : StmtTree} → ReadsLabel n ts s → Are ts → Are (printed_stmt s)
label_are (a_case {ts = ts} {e = e} at c r) h = join is_well_formed (within 13 e (printed_expr e)) _ (within_are 13 e (expr_are r (left is_well_formed ts _ h))) refl
label_are (a_default at c) h = refl

mutual
  statement_are : {n : ℕ} {ts : List Terminal} {s : StmtTree} → ReadsStatement n ts s → Are ts → Are (printed_stmt s)
  statement_are (a_block {ts = ts} {ss = ss} o c r) h = join is_well_formed (printed_stmts ss) _ (items_are r (left is_well_formed ts _ h)) refl
  statement_are (an_empty at) h = refl
  statement_are (an_expression {ts = ts} {e = e} s r) h = join is_well_formed (printed_expr e) _ (expr_are r (left is_well_formed ts _ h)) refl
  statement_are (an_if {xs = xs} {e = e} {s = s} at o c r t) h =
      parentheses_are (printed_expr e) _ (expr_are r (left is_well_formed xs _ h)) (join is_well_formed (printed_stmt s) [] (statement_are t (right is_well_formed xs _ h)) refl)
  statement_are (an_if_with_else {xs = xs} {ys = ys} {e = e} {s = s} at o c n r t w u) h =
      parentheses_are (printed_expr e) _ (expr_are r (left is_well_formed xs _ h))
      (join is_well_formed (printed_stmt s) _ (statement_are t (left is_well_formed ys _ (right is_well_formed xs _ h))) (statement_are u (right is_well_formed ys _ (right is_well_formed xs _ h))))
  statement_are (a_while {xs = xs} {e = e} at o c r t) h = parentheses_are (printed_expr e) _ (expr_are r (left is_well_formed xs _ h)) (statement_are t (right is_well_formed xs _ h))
  statement_are (a_do {xs = xs} {ys = ys} {s = s} {e = e} at w o c n r t) h =
      join is_well_formed (printed_stmt s) _ (statement_are r (left is_well_formed xs _ h)) (parentheses_are (printed_expr e) _ (expr_are t (left is_well_formed ys _ (right is_well_formed xs _ h))) refl)
  statement_are (a_for {ws = ws} {xs = xs} {ys = ys} {start = start} {e = e} {u = u} at o n c r p q t) h =
      parentheses_are (printed_start start ++ _) _
      (join is_well_formed (printed_start start) _ (start_are r (left is_well_formed ws _ h))
      (join is_well_formed (printed_optional e) _ (optional_are p (left is_well_formed xs _ (right is_well_formed ws _ h))) (optional_are q (left is_well_formed ys _ (right is_well_formed xs _ (right is_well_formed ws _ h))))))
      (statement_are t (right is_well_formed ys _ (right is_well_formed xs _ (right is_well_formed ws _ h))))
  statement_are (a_switch {xs = xs} {e = e} at o c r t) h = parentheses_are (printed_expr e) _ (expr_are r (left is_well_formed xs _ h)) (braces_are t (right is_well_formed xs _ h))
  statement_are (a_break at s) h = refl
  statement_are (a_continue at s) h = refl
  statement_are (a_return {ts = ts} {e = e} at s r) h = join is_well_formed (printed_optional e) _ (optional_are r (left is_well_formed ts _ h)) refl

  item_are : {n : ℕ} {ts : List Terminal} {s : StmtTree} → ReadsItem n ts s → Are ts → Are (printed_stmt s)
  item_are (a_statement r) h = statement_are r h
  item_are (a_declared r) h = declaration_are r h

  items_are : {n : ℕ} {ts : List Terminal} {ss : Stmts} → ReadsItems n ts ss → Are ts → Are (printed_stmts ss)
  items_are no_item h = refl
  items_are (an_item {xs = xs} {s = s} {ss = ss} r t) h = join is_well_formed (printed_stmt s) (printed_stmts ss) (item_are r (left is_well_formed xs _ h)) (items_are t (right is_well_formed xs _ h))

  braces_are : {n : ℕ} {ts : List Terminal} {ss : Stmts} → ReadsSwitchBlock n ts ss → Are ts → Are (printed_stmt (block ss))
  braces_are (in_braces {ts = ts} {ss = ss} o c r) h = join is_well_formed (printed_stmts ss) _ (switch_items_are r (left is_well_formed ts _ h)) refl

  switch_item_are : {labelled labels : Bool} {n : ℕ} {ts : List Terminal} {s : StmtTree} → ReadsSwitchItem labelled labels n ts s → Are ts → Are (printed_stmt s)
  switch_item_are (a_label r) h = label_are r h
  switch_item_are (a_switch_statement r) h = statement_are r h
  switch_item_are (a_switch_declaration r) h = declaration_are r h

  switch_items_are : {labelled : Bool} {n : ℕ} {ts : List Terminal} {ss : Stmts} → ReadsSwitchItems labelled n ts ss → Are ts → Are (printed_stmts ss)
  switch_items_are no_switch_item h = refl
  switch_items_are (a_switch_item {xs = xs} {s = s} {ss = ss} r t) h = join is_well_formed (printed_stmt s) (printed_stmts ss) (switch_item_are r (left is_well_formed xs _ h)) (switch_items_are t (right is_well_formed xs _ h))

-- ---- what stands at file scope

-- a struct up to the brace behind its members
tagged_are : {n : ℕ} {t : Terminal} {at : ℕ} {x : List ℕ} {ts : List Terminal} {ms : List MembersTree} (after : List Terminal) → ReadsName Any t at x → ReadsAllMembers n ts ms → (us : List Terminal) → Are (t ∷ (ts ++ us)) → Are after → Are (Name 0 x ∷ ((flat_map printed_members ms ++ Punctuator 0 punctuators.CloseBrace ∷ []) ++ after))
tagged_are {x = x} {ts = ts} {ms = ms} after named r us h a =
    keep (is_name x) _ _ (name_are named (ts ++ us) h) (λ k. join is_well_formed (flat_map printed_members ms ++ Punctuator 0 punctuators.CloseBrace ∷ []) after (join is_well_formed (flat_map printed_members ms) _ (all_members_are r (left is_well_formed ts us k)) refl) a)

plain_are : {n : ℕ} {ts : List Terminal} {d : DeclTree} → ReadsPlain n ts d → Are ts → Are (printed_decl d)
plain_are (a_struct_with_members {ts = ts} at o c s named r) h = tagged_are (Punctuator 0 punctuators.Semicolon ∷ []) named r _ h refl
plain_are (a_forward at s named) h = name_are named [] h
plain_are (a_header {m = m} {xs = xs} {ys = ys} {zs = zs} {base = base} {ps = ps} n o c s x t st p) h =
    join is_well_formed (printed_base base) _ (outer_type_are t (left is_well_formed xs _ h))
    (join is_well_formed (printed_stars m) _ (stars_are m)
    (keep (is_name x) _ _ (right is_well_formed ys _ (right is_well_formed xs _ h)) (λ k. parentheses_are (printed_parameters ps) _ (head_are p (left is_well_formed zs _ k)) refl)))
plain_are (a_definition {m = m} {xs = xs} {ys = ys} {zs = zs} {ws = ws} {base = base} {ps = ps} {ss = ss} n o c b e x t st p r) h =
    join is_well_formed (printed_base base) _ (outer_type_are t (left is_well_formed xs _ h))
    (join is_well_formed (printed_stars m) _ (stars_are m)
    (keep (is_name x) _ _ (right is_well_formed ys _ (right is_well_formed xs _ h)) (λ k. parentheses_are (printed_parameters ps) _ (head_are p (left is_well_formed zs _ k))
    (join is_well_formed (printed_stmts ss) _ (items_are r (left is_well_formed ws _ (right is_well_formed zs _ k))) refl))))
plain_are (some_variables r) h = outer_declaration_are r h

defined_are : {n : ℕ} {ts : List Terminal} {d : DefinedTree} → ReadsDefined n ts d → Are ts → Are (printed_defined d)
defined_are (a_struct_with_tag {ts = ts} {x = x} {ms = ms} at o c named r) h =
    let close : List Terminal = Punctuator c punctuators.CloseBrace ∷ [] in
    keep (is_name x) _ _ (name_are named (Punctuator o punctuators.OpenBrace ∷ (ts ++ close)) h) (λ k. join is_well_formed (flat_map printed_members ms) _ (all_members_are r (left is_well_formed ts close k)) refl)
defined_are (a_struct_without_tag {ts = ts} {ms = ms} at o c r) h = join is_well_formed (flat_map printed_members ms) _ (all_members_are r (left is_well_formed ts _ h)) refl
defined_are (a_known_type t) h = type_are t h

-- ---- where names are marked

token_are : (at : ℕ) (x : List ℕ) (b : Bool) → is_name x ≡ true → is_well_formed (if b then terminals.TypeName at x else Name at x) ≡ true
token_are at x true h = h
token_are at x false h = h

mark_are : (set : NameSet) (t : Terminal) → is_well_formed t ≡ true → is_well_formed (mark set t) ≡ true
mark_are set (terminals.Name at x) h = token_are at x (is_in set x) h
mark_are set (terminals.TypeName at x) h = token_are at x (is_in set x) h
mark_are set (terminals.Keyword at keyword) h = h
mark_are set (terminals.Constant at value unsigned) h = h
mark_are set (terminals.Text at bytes) h = h
mark_are set (terminals.Punctuator at punctuator) h = h

-- marks leave them well formed
marked_are : (set : NameSet) (ts : List Terminal) → Are ts → Are (marked set ts)
marked_are set [] h = refl
marked_are set (t ∷ ts) h = rw (mark_are set t (first_so (is_well_formed t) (list_all is_well_formed ts) h), marked_are set ts (second_so (is_well_formed t) (list_all is_well_formed ts) h)) refl

names_are : {set : NameSet} {n : ℕ} {ts : List Terminal} {ds : List DeclaratorTree} → ReadsTypeNames set n ts ds → Are ts → Are (behind_commas printed_declarator ds)
names_are {set} (a_last_name {ts = ts} {d = d} r) h = join is_well_formed (printed_declarator d) [] (declarator_are r (marked_are set ts h)) refl
names_are {set} (a_name_before {d = d} {ds = ds} xs at r s) h = join is_well_formed (printed_declarator d) (behind_commas printed_declarator ds) (declarator_are r (marked_are set xs (left is_well_formed xs _ h))) (names_are s (right is_well_formed xs _ h))

external_are : {set : NameSet} {n : ℕ} {ts : List Terminal} {d : DeclTree} → ReadsExternal set n ts d → Are ts → Are (printed_decl d)
external_are {set} (a_plain_external {ts = ts} r) h = plain_are r (marked_are set ts h)
external_are {set} (a_typedef {ys = ys} {defined = defined} {ds = ds} xs at s r names) h =
    join is_well_formed (printed_defined defined) _ (defined_are r (marked_are set xs (left is_well_formed xs _ h)))
    (join is_well_formed (with_commas printed_declarator ds) _ (without_comma printed_declarator ds (names_are names (left is_well_formed ys _ (right is_well_formed xs _ h)))) refl)

-- a unit that is read from terminals is printed as terminals
pub printed_are_well_formed : {set : NameSet} {n : ℕ} {ts : List Terminal} {ds : List DeclTree} → ReadsExternals set n ts ds → list_all is_well_formed ts ≡ true → list_all is_well_formed (printed_unit ds) ≡ true
printed_are_well_formed (a_last_external {d = d} r) h = more_are printed_decl d [] (external_are r h) refl
printed_are_well_formed (an_external {xs = xs} {d = d} {ds = ds} r s) h = more_are printed_decl d ds (external_are r (left is_well_formed xs _ h)) (printed_are_well_formed s (right is_well_formed xs _ h))
