-- What tokens are read as is at most as high as the reading.
use Rattle.std.proofs.Common.{◌≤◌, ℕ, Bool, List, Option, arith}
use Rattle.qs_syntax_vocabulary.specs.declared.terminal.Terminal.{Terminal}
use Rattle.qs_syntax.specs.Trees.{ExprTree, Exprs, InitialiserTree, Initialisers, VariableTree, DeclarationTree, StartTree, StmtTree, Stmts, DeclTree}
use Rattle.qs_syntax.specs.Reads.{Form, Reads, ReadsArguments, a_name, an_empty_call, a_call, a_constant, a_text, in_parentheses, an_index, a_member, an_increment_after, a_decrement_after, a_postfix, an_increment, a_decrement, an_operator, a_size_of_type, a_size_of_value, a_cast, an_operand, stronger, an_operation, a_plain_level, a_choice, a_plain_conditional, an_assignment, a_plain_assignment, a_comma, a_last_argument, an_argument}
use Rattle.qs_syntax.specs.ReadsDeclarations.{ReadsInitialiser, a_value, a_list, ReadsInitialisers, a_last_initialiser, a_last_with_comma, an_initialiser, ReadsVariable, an_unset_variable, a_set_variable, ReadsVariables, a_last_variable, a_variable, ReadsDeclaration, a_declaration}
use Rattle.qs_syntax.specs.ReadsStatements.{ReadsOptional, nothing_there, something_there, ReadsStart, a_start_declaration, a_start_expression, no_start_at_all, ReadsStatement, a_block, an_empty, an_expression, an_if, an_if_with_else, a_while, a_do, a_for, a_switch, a_break, a_continue, a_return, ReadsItem, a_statement, a_declared, ReadsItems, no_item, an_item, ReadsSwitchBlock, in_braces, ReadsSwitchItem, a_label, a_switch_statement, a_switch_declaration, ReadsSwitchItems, no_switch_item, a_switch_item, ReadsLabel, a_case, a_default}
use Rattle.qs_syntax_vocabulary.specs.Marks.{NameSet}
use Rattle.qs_syntax.specs.ReadsUnits.{ReadsPlain, a_struct_with_members, a_forward, a_header, a_definition, some_variables, ReadsExternal, a_plain_external, a_typedef, ReadsExternals, a_last_external, an_external}
use Rattle.qs_elaborate_limits.specs.Measures.{highest, option_highest}
use Rattle.qs_elaborate_limits.proofs.SourceHeights.{expr_height, exprs_height, initialiser_height, initialisers_height, variable_height, declaration_height, start_height, stmt_height, stmts_height, decl_height, unit_height}

-- ---- expressions

mutual
  expr_low : {form : Form} {h : ℕ} {ts : List Terminal} {e : ExprTree} → Reads form h ts e → expr_height e ≤ h
  expr_low (a_name at x) = omega arith
  expr_low (an_empty_call at o c f) = omega arith
  expr_low (a_call at o c f r) = let i = exprs_low r in omega arith
  expr_low (a_constant at n unsigned) = omega arith
  expr_low (a_text at first r) = omega arith
  expr_low (in_parentheses o c r) = let i = expr_low r in omega arith
  expr_low (an_index o c r s) = let i = expr_low r in let j = expr_low s in omega arith
  expr_low (a_member access d r x) = let i = expr_low r in omega arith
  expr_low (an_increment_after s r) = let i = expr_low r in omega arith
  expr_low (a_decrement_after s r) = let i = expr_low r in omega arith
  expr_low (a_postfix r) = expr_low r
  expr_low (an_increment at r) = let i = expr_low r in omega arith
  expr_low (a_decrement at r) = let i = expr_low r in omega arith
  expr_low (an_operator operator at r) = let i = expr_low r in omega arith
  expr_low (a_size_of_type at o c t) = omega arith
  expr_low (a_size_of_value at r) = let i = expr_low r in omega arith
  expr_low (a_cast at c t r) = let i = expr_low r in omega arith
  expr_low (an_operand r) = expr_low r
  expr_low (stronger r) = expr_low r
  expr_low (an_operation operator at p r s) = let i = expr_low r in let j = expr_low s in omega arith
  expr_low (a_plain_level r) = expr_low r
  expr_low (a_choice q s r t u) = let i = expr_low r in let j = expr_low t in let k = expr_low u in omega arith
  expr_low (a_plain_conditional r) = expr_low r
  expr_low (an_assignment operator at r s) = let i = expr_low r in let j = expr_low s in omega arith
  expr_low (a_plain_assignment r) = expr_low r
  expr_low (a_comma at r s) = let i = expr_low r in let j = expr_low s in omega arith

  exprs_low : {h : ℕ} {ts : List Terminal} {es : Exprs} → ReadsArguments h ts es → exprs_height es ≤ h
  exprs_low (a_last_argument r) = let i = expr_low r in omega arith
  exprs_low (an_argument at r s) = let i = expr_low r in let j = exprs_low s in omega arith

-- ---- declarations

mutual
  initialiser_low : {h : ℕ} {ts : List Terminal} {i : InitialiserTree} → ReadsInitialiser h ts i → initialiser_height i ≤ h
  initialiser_low (a_value r) = expr_low r
  initialiser_low (a_list o c r) = let i = initialisers_low r in omega arith

  initialisers_low : {h : ℕ} {ts : List Terminal} {is : Initialisers} → ReadsInitialisers h ts is → initialisers_height is ≤ h
  initialisers_low (a_last_initialiser r) = let i = initialiser_low r in omega arith
  initialisers_low (a_last_with_comma at r) = let i = initialiser_low r in omega arith
  initialisers_low (an_initialiser at r s) = let i = initialiser_low r in let j = initialisers_low s in omega arith

variable_low : {h : ℕ} {ts : List Terminal} {v : VariableTree} → ReadsVariable h ts v → variable_height v ≤ h
variable_low (an_unset_variable d) = omega arith
variable_low (a_set_variable at d r) = let i = initialiser_low r in omega arith

variables_low : {h : ℕ} {ts : List Terminal} {vs : List VariableTree} → ReadsVariables h ts vs → highest variable_height vs ≤ h
variables_low (a_last_variable r) = let i = variable_low r in omega arith
variables_low (a_variable at r s) = let i = variable_low r in let j = variables_low s in omega arith

declaration_low : {h : ℕ} {ts : List Terminal} {d : DeclarationTree} → ReadsDeclaration h ts d → declaration_height d ≤ h
declaration_low (a_declaration s t r) = variables_low r

-- ---- statements

optional_low : {h : ℕ} {ts : List Terminal} {e : Option ExprTree} → ReadsOptional h ts e → option_highest expr_height e ≤ h
optional_low nothing_there = omega arith
optional_low (something_there r) = expr_low r

start_low : {h : ℕ} {ts : List Terminal} {a : StartTree} → ReadsStart h ts a → start_height a ≤ h
start_low (a_start_declaration r) = declaration_low r
start_low (a_start_expression s r) = expr_low r
start_low (no_start_at_all s) = omega arith

label_low : {h : ℕ} {ts : List Terminal} {s : StmtTree} → ReadsLabel h ts s → stmt_height s ≤ h
label_low (a_case at c r) = omega arith
label_low (a_default at c) = omega arith

mutual
  statement_low : {h : ℕ} {ts : List Terminal} {s : StmtTree} → ReadsStatement h ts s → stmt_height s ≤ h
  statement_low (a_block o c r) = let i = items_low r in omega arith
  statement_low (an_empty at) = omega arith
  statement_low (an_expression s r) = let i = expr_low r in omega arith
  statement_low (an_if at o c r s) = let i = expr_low r in let j = statement_low s in omega arith
  statement_low (an_if_with_else at o c n r s closed t) =
      let i = expr_low r in let j = statement_low s in let k = statement_low t in omega arith
  statement_low (a_while at o c r s) = let i = expr_low r in let j = statement_low s in omega arith
  statement_low (a_do at w o c n s r) = let i = statement_low s in let j = expr_low r in omega arith
  statement_low (a_for at o n c a e u s) =
      let i = start_low a in let j = optional_low e in let k = optional_low u in let l = statement_low s in omega arith
  statement_low (a_switch at o c r s) = let i = expr_low r in let j = switch_low s in omega arith
  statement_low (a_break at s) = omega arith
  statement_low (a_continue at s) = omega arith
  statement_low (a_return at s r) = let i = optional_low r in omega arith

  item_low : {h : ℕ} {ts : List Terminal} {s : StmtTree} → ReadsItem h ts s → stmt_height s ≤ h
  item_low (a_statement r) = statement_low r
  item_low (a_declared r) = declaration_low r

  items_low : {h : ℕ} {ts : List Terminal} {ss : Stmts} → ReadsItems h ts ss → stmts_height ss ≤ h
  items_low no_item = omega arith
  items_low (an_item r s) = let i = item_low r in let j = items_low s in omega arith

  switch_low : {h : ℕ} {ts : List Terminal} {ss : Stmts} → ReadsSwitchBlock h ts ss → stmts_height ss ≤ h
  switch_low (in_braces o c r) = let i = switch_items_low r in omega arith

  switch_item_low : {b c : Bool} {h : ℕ} {ts : List Terminal} {s : StmtTree} → ReadsSwitchItem b c h ts s → stmt_height s ≤ h
  switch_item_low (a_label r) = label_low r
  switch_item_low (a_switch_statement r) = statement_low r
  switch_item_low (a_switch_declaration r) = declaration_low r

  switch_items_low : {b : Bool} {h : ℕ} {ts : List Terminal} {ss : Stmts} → ReadsSwitchItems b h ts ss → stmts_height ss ≤ h
  switch_items_low no_switch_item = omega arith
  switch_items_low (a_switch_item r s) = let i = switch_item_low r in let j = switch_items_low s in omega arith

-- ---- units

plain_low : {h : ℕ} {ts : List Terminal} {d : DeclTree} → ReadsPlain h ts d → decl_height d ≤ h
plain_low (a_struct_with_members at o c s x r) = omega arith
plain_low (a_forward at s x) = omega arith
plain_low (a_header n o c s x t u r) = omega arith
plain_low (a_definition n o c b e x t u r q) = let i = items_low q in omega arith
plain_low (some_variables r) = omega arith

external_low : {set : NameSet} {h : ℕ} {ts : List Terminal} {d : DeclTree} → ReadsExternal set h ts d → decl_height d ≤ h
external_low (a_plain_external r) = plain_low r
external_low (a_typedef xs at s defined names) = omega arith

pub unit_low : {set : NameSet} {h : ℕ} {ts : List Terminal} {ds : List DeclTree} → ReadsExternals set h ts ds → unit_height ds ≤ h
unit_low (a_last_external r) = let i = external_low r in omega arith
unit_low (an_external r s) = let i = external_low r in let j = unit_low s in omega arith
