-- What tokens are read as has at most as many nodes as there are tokens.
use Rattle.std.proofs.Common.{◌≡◌, ℕ, ◌+◌, ◌≤◌, List, [], ◌∷◌, ◌++◌, length, arith, length-append}
use Rattle.std.specs.Prelude.{Bool, Option}
use Rattle.qs_syntax_vocabulary.specs.declared.terminal.Terminal.{Terminal}
use Rattle.qs_syntax_vocabulary.specs.declared.terminal.Terminal.TheVariants as terminals
use Rattle.qs_syntax_vocabulary.specs.declared.punctuator.Punctuator.TheVariants as punctuators
use Rattle.qs_base.specs.declared.keyword.Keyword.TheVariants as keywords
use Rattle.qs_syntax_vocabulary.specs.Operators.{punctuator_of_access, punctuator_of_binary, punctuator_of_assign}
use Rattle.qs_syntax.specs.Trees.{ExprTree, Exprs, LengthsTree, DeclaratorTree, InitialiserTree, Initialisers, VariableTree, DeclarationTree, MembersTree, ParameterTree, StartTree, StmtTree, Stmts, DeclTree, DefinedTree}
use Rattle.qs_syntax.specs.Nodes.{all_count, option_count, expr_count, exprs_count, lengths_count, declarator_count, initialiser_count, initialisers_count, variable_count, declaration_count, parameter_count, members_count, start_count, stmt_count, stmts_count, decl_count, unit_count, defined_count}
use Rattle.qs_syntax.specs.declared.types.Base.{Base}
use Rattle.qs_syntax.specs.ReadsTypes.{ReadsBase, a_void, an_int, a_char, an_unsigned, an_unsigned_int, an_unsigned_char, a_signed, a_signed_int, a_struct, ReadsType, a_type, Names, a_named_type}
use Rattle.qs_syntax.specs.Reads.{Form, Reads, a_name, an_empty_call, a_call, a_constant, a_text, in_parentheses, an_index, a_member, an_increment_after, a_decrement_after, a_postfix, an_increment, a_decrement, an_operator, a_size_of_type, a_size_of_value, a_cast, an_operand, stronger, an_operation, a_plain_level, a_choice, a_plain_conditional, an_assignment, a_plain_assignment, a_comma, ReadsArguments, a_last_argument, an_argument}
use Rattle.qs_syntax.specs.ReadsDeclarations as ds
use Rattle.qs_syntax.specs.ReadsDeclarations.{ReadsGiven, ReadsLengths, ReadsDeclarator, ReadsInitialiser, ReadsInitialisers, ReadsVariable, ReadsVariables, ReadsDeclaration, ReadsOuterDeclaration, ReadsDeclarators, ReadsMembers, ReadsAllMembers, ReadsParameter, ReadsParameters, ReadsHead}
use Rattle.qs_syntax.specs.ReadsStatements as ss
use Rattle.qs_syntax.specs.ReadsStatements.{ReadsOptional, ReadsStart, ReadsStatement, ReadsItem, ReadsItems, ReadsLabel, ReadsSwitchBlock, ReadsSwitchItem, ReadsSwitchItems}
use Rattle.qs_syntax.specs.ReadsUnits as us
use Rattle.qs_syntax.specs.ReadsUnits.{ReadsExternal, ReadsUnit, a_plain_external, ReadsDefined, ReadsExternals, ReadsPlain, ReadsTypeNames, a_known_type, a_last_name, a_name_before, a_struct_with_tag, a_struct_without_tag, a_typedef}
use Rattle.qs_syntax_vocabulary.specs.Marks.{NameSet}
use Rattle.qs_parser_grammar.proofs.MarkLaws.{as_many}

joined : (xs ys : List Terminal) → length (xs ++ ys) ≡ length xs + length ys
joined xs ys = length-append xs ys

mutual
  pub counted : {form : Form} {h : ℕ} {ts : List Terminal} {e : ExprTree} → Reads form h ts e → expr_count e ≤ length ts
  counted (a_name at x) = omega arith
  counted (an_empty_call at o c f) = omega arith
  counted (a_call {ts = ts} at o c f r) = let n = counted_arguments r in omega (arith, joined ts (terminals.Punctuator c punctuators.CloseParenthesis ∷ []))
  counted (a_constant at n unsigned) = omega arith
  counted (a_text at first r) = omega arith
  counted (in_parentheses {ts = ts} o c r) = let n = counted r in omega (arith, joined ts (terminals.Punctuator c punctuators.CloseParenthesis ∷ []))
  counted (an_index {xs = xs} {ys = ys} o c r s) = let n = counted r in let m = counted s in omega (arith, joined xs (terminals.Punctuator o punctuators.OpenBracket ∷ (ys ++ terminals.Punctuator c punctuators.CloseBracket ∷ [])), joined ys (terminals.Punctuator c punctuators.CloseBracket ∷ []))
  counted (a_member {xs = xs} {t = t} access d r name) = let i = counted r in omega (arith, joined xs (terminals.Punctuator d (punctuator_of_access access) ∷ t ∷ []))
  counted (an_increment_after {xs = xs} s r) = let n = counted r in omega (arith, joined xs (terminals.Punctuator s punctuators.Increment ∷ []))
  counted (a_decrement_after {xs = xs} s r) = let n = counted r in omega (arith, joined xs (terminals.Punctuator s punctuators.Decrement ∷ []))
  counted (a_postfix r) = counted r
  counted (an_increment at r) = let n = counted r in omega arith
  counted (a_decrement at r) = let n = counted r in omega arith
  counted (an_operator operator at r) = let n = counted r in omega arith
  counted (a_size_of_type at o c t) = omega arith
  counted (a_size_of_value at r) = let n = counted r in omega arith
  counted (a_cast {ts = ts} {us = us} at c t r) = let n = counted r in omega (arith, joined ts (terminals.Punctuator c punctuators.CloseParenthesis ∷ us))
  counted (an_operand r) = counted r
  counted (stronger r) = counted r
  counted (an_operation {xs = xs} {ys = ys} operator at w r s) = let n = counted r in let m = counted s in omega (arith, joined xs (terminals.Punctuator at (punctuator_of_binary operator) ∷ ys))
  counted (a_plain_level r) = counted r
  counted (a_choice {xs = xs} {ys = ys} {zs = zs} q s r t u) = let n = counted r in let m = counted t in let k = counted u in omega (arith, joined xs (terminals.Punctuator q punctuators.Question ∷ (ys ++ terminals.Punctuator s punctuators.Colon ∷ zs)), joined ys (terminals.Punctuator s punctuators.Colon ∷ zs))
  counted (a_plain_conditional r) = counted r
  counted (an_assignment {xs = xs} {ys = ys} operator at r s) = let n = counted r in let m = counted s in omega (arith, joined xs (terminals.Punctuator at (punctuator_of_assign operator) ∷ ys))
  counted (a_plain_assignment r) = counted r
  counted (a_comma {xs = xs} {ys = ys} at r s) = let n = counted r in let m = counted s in omega (arith, joined xs (terminals.Punctuator at punctuators.Comma ∷ ys))

  counted_arguments : {h : ℕ} {ts : List Terminal} {es : Exprs} → ReadsArguments h ts es → exprs_count es ≤ length ts
  counted_arguments (a_last_argument r) = let n = counted r in omega arith
  counted_arguments (an_argument {xs = xs} {ys = ys} at r s) = let n = counted r in let m = counted_arguments s in omega (arith, joined xs (terminals.Punctuator at punctuators.Comma ∷ ys))

-- a base is at least one token
pub base_some : {ts : List Terminal} {b : Base} → ReadsBase ts b → 1 ≤ length ts
base_some (a_void at) = omega arith
base_some (an_int at) = omega arith
base_some (a_char at) = omega arith
base_some (an_unsigned at) = omega arith
base_some (an_unsigned_int at bt) = omega arith
base_some (an_unsigned_char at bt) = omega arith
base_some (a_signed at) = omega arith
base_some (a_signed_int at bt) = omega arith
base_some (a_struct at r) = omega arith
base_some (a_named_type at x) = omega arith

pub type_some : {ts : List Terminal} {b : Base} → ReadsType ts b → 1 ≤ length ts
type_some (a_type {xs = xs} {ys = ys} {zs = zs} r s t) = let n = base_some s in omega (arith, joined xs (ys ++ zs), joined ys zs)

counted_given : {h : ℕ} {ts : List Terminal} {es : List ExprTree} → ReadsGiven h ts es → all_count expr_count es ≤ length ts
counted_given ds.no_length = omega arith
counted_given (ds.a_length {xs = xs} {ys = ys} o c r s) = let n = counted r in let m = counted_given s in omega (arith, joined xs (terminals.Punctuator c punctuators.CloseBracket ∷ ys))

counted_lengths : {h : ℕ} {ts : List Terminal} {l : LengthsTree} → ReadsLengths h ts l → lengths_count l ≤ length ts
counted_lengths (ds.are_given r) = counted_given r
counted_lengths (ds.first_open o c r) = let n = counted_given r in omega arith

counted_declarator : {names : Names} {h : ℕ} {ts : List Terminal} {d : DeclaratorTree} → ReadsDeclarator names h ts d → declarator_count d ≤ length ts
counted_declarator (ds.a_declarator {xs = xs} {ys = ys} {t = t} r name s) = let n = counted_lengths s in omega (arith, joined xs (t ∷ ys))

mutual
  counted_initialiser : {h : ℕ} {ts : List Terminal} {i : InitialiserTree} → ReadsInitialiser h ts i → initialiser_count i ≤ length ts
  counted_initialiser (ds.a_value r) = counted r
  counted_initialiser (ds.a_list {ts = ts} o c r) = let n = counted_initialisers r in omega (arith, joined ts (terminals.Punctuator c punctuators.CloseBrace ∷ []))

  counted_initialisers : {h : ℕ} {ts : List Terminal} {is : Initialisers} → ReadsInitialisers h ts is → initialisers_count is ≤ length ts
  counted_initialisers (ds.a_last_initialiser r) = let n = counted_initialiser r in omega arith
  counted_initialisers (ds.a_last_with_comma {ts = ts} at r) = let n = counted_initialiser r in omega (arith, joined ts (terminals.Punctuator at punctuators.Comma ∷ []))
  counted_initialisers (ds.an_initialiser {xs = xs} {ys = ys} at r s) = let n = counted_initialiser r in let m = counted_initialisers s in omega (arith, joined xs (terminals.Punctuator at punctuators.Comma ∷ ys))

counted_variable : {h : ℕ} {ts : List Terminal} {v : VariableTree} → ReadsVariable h ts v → variable_count v ≤ length ts
counted_variable (ds.an_unset_variable r) = let n = counted_declarator r in omega arith
counted_variable (ds.a_set_variable {xs = xs} {ys = ys} at r s) = let n = counted_declarator r in let m = counted_initialiser s in omega (arith, joined xs (terminals.Punctuator at punctuators.Assign ∷ ys))

counted_variables : {h : ℕ} {ts : List Terminal} {vs : List VariableTree} → ReadsVariables h ts vs → all_count variable_count vs ≤ length ts
counted_variables (ds.a_last_variable r) = let n = counted_variable r in omega arith
counted_variables (ds.a_variable {xs = xs} {ys = ys} at r s) = let n = counted_variable r in let m = counted_variables s in omega (arith, joined xs (terminals.Punctuator at punctuators.Comma ∷ ys))

counted_declaration : {h : ℕ} {ts : List Terminal} {d : DeclarationTree} → ReadsDeclaration h ts d → declaration_count d ≤ length ts
counted_declaration (ds.a_declaration {xs = xs} {ys = ys} s t r) = let n = counted_variables r in omega (arith, joined xs (ys ++ terminals.Punctuator s punctuators.Semicolon ∷ []), joined ys (terminals.Punctuator s punctuators.Semicolon ∷ []))

counted_outer : {h : ℕ} {ts : List Terminal} {d : DeclarationTree} → ReadsOuterDeclaration h ts d → declaration_count d ≤ length ts
counted_outer (ds.an_outer_declaration {xs = xs} {ys = ys} s t r) = let n = counted_variables r in omega (arith, joined xs (ys ++ terminals.Punctuator s punctuators.Semicolon ∷ []), joined ys (terminals.Punctuator s punctuators.Semicolon ∷ []))

counted_declarators : {h : ℕ} {ts : List Terminal} {l : List DeclaratorTree} → ReadsDeclarators h ts l → all_count declarator_count l ≤ length ts
counted_declarators (ds.a_last_member r) = let n = counted_declarator r in omega arith
counted_declarators (ds.a_member {xs = xs} {ys = ys} at r s) = let n = counted_declarator r in let m = counted_declarators s in omega (arith, joined xs (terminals.Punctuator at punctuators.Comma ∷ ys))

counted_members : {h : ℕ} {ts : List Terminal} {m : MembersTree} → ReadsMembers h ts m → members_count m ≤ length ts
counted_members (ds.a_group {xs = xs} {ys = ys} s t r) = let n = counted_declarators r in omega (arith, joined xs (ys ++ terminals.Punctuator s punctuators.Semicolon ∷ []), joined ys (terminals.Punctuator s punctuators.Semicolon ∷ []))

counted_groups : {h : ℕ} {ts : List Terminal} {ms : List MembersTree} → ReadsAllMembers h ts ms → all_count members_count ms ≤ length ts
counted_groups (ds.a_last_group r) = let n = counted_members r in omega arith
counted_groups (ds.a_further_group {xs = xs} {ys = ys} r s) = let n = counted_members r in let m = counted_groups s in omega (arith, joined xs ys)

counted_parameter : {h : ℕ} {ts : List Terminal} {p : ParameterTree} → ReadsParameter h ts p → parameter_count p ≤ length ts
counted_parameter (ds.a_named_parameter {xs = xs} {ys = ys} {zs = zs} at x t s r) = let n = counted_lengths r in omega (arith, joined xs (ys ++ terminals.Name at x ∷ zs), joined ys (terminals.Name at x ∷ zs))
counted_parameter (ds.an_unnamed_parameter {xs = xs} {ys = ys} {zs = zs} t s r no_void) = let n = counted_lengths r in let m = type_some t in omega (arith, joined xs (ys ++ zs), joined ys zs)

counted_parameters : {h : ℕ} {ts : List Terminal} {ps : List ParameterTree} → ReadsParameters h ts ps → all_count parameter_count ps ≤ length ts
counted_parameters (ds.a_last_parameter r) = let n = counted_parameter r in omega arith
counted_parameters (ds.a_parameter {xs = xs} {ys = ys} at r s) = let n = counted_parameter r in let m = counted_parameters s in omega (arith, joined xs (terminals.Punctuator at punctuators.Comma ∷ ys))

counted_head : {h : ℕ} {ts : List Terminal} {ps : List ParameterTree} → ReadsHead h ts ps → all_count parameter_count ps ≤ length ts
counted_head ds.no_parameter = omega arith
counted_head (ds.a_void_head at) = omega arith
counted_head (ds.some_parameters r) = counted_parameters r

counted_optional : {h : ℕ} {ts : List Terminal} {o : Option ExprTree} → ReadsOptional h ts o → option_count expr_count o ≤ length ts
counted_optional ss.nothing_there = omega arith
counted_optional (ss.something_there r) = counted r

counted_start : {h : ℕ} {ts : List Terminal} {a : StartTree} → ReadsStart h ts a → start_count a ≤ length ts
counted_start (ss.a_start_declaration r) = counted_declaration r
counted_start (ss.a_start_expression {ts = ts} s r) = let n = counted r in omega (arith, joined ts (terminals.Punctuator s punctuators.Semicolon ∷ []))
counted_start (ss.no_start_at_all s) = omega arith

counted_label : {h : ℕ} {ts : List Terminal} {s : StmtTree} → ReadsLabel h ts s → stmt_count s ≤ length ts
counted_label (ss.a_case {ts = ts} at c r) = let n = counted r in omega (arith, joined ts (terminals.Punctuator c punctuators.Colon ∷ []))
counted_label (ss.a_default at c) = omega arith

mutual
  counted_statement : {h : ℕ} {ts : List Terminal} {s : StmtTree} → ReadsStatement h ts s → stmt_count s ≤ length ts
  counted_statement (ss.a_block {ts = ts} o c r) = let n = counted_items r in omega (arith, joined ts (terminals.Punctuator c punctuators.CloseBrace ∷ []))
  counted_statement (ss.an_empty at) = omega arith
  counted_statement (ss.an_expression {ts = ts} s r) = let n = counted r in omega (arith, joined ts (terminals.Punctuator s punctuators.Semicolon ∷ []))
  counted_statement (ss.an_if {xs = xs} {ys = ys} at o c r s) = let n = counted r in let m = counted_statement s in omega (arith, joined xs (terminals.Punctuator c punctuators.CloseParenthesis ∷ ys))
  counted_statement (ss.an_if_with_else {xs = xs} {ys = ys} {zs = zs} at o c n r s closed t) =
      let a = counted r in
      let b = counted_statement s in
      let d = counted_statement t in
      omega (arith, joined xs (terminals.Punctuator c punctuators.CloseParenthesis ∷ (ys ++ terminals.Keyword n keywords.Else ∷ zs)), joined ys (terminals.Keyword n keywords.Else ∷ zs))
  counted_statement (ss.a_while {xs = xs} {ys = ys} at o c r s) = let n = counted r in let m = counted_statement s in omega (arith, joined xs (terminals.Punctuator c punctuators.CloseParenthesis ∷ ys))
  counted_statement (ss.a_do {xs = xs} {ys = ys} at w o c n s r) =
      let a = counted_statement s in
      let b = counted r in
      omega (arith, joined xs (terminals.Keyword w keywords.While ∷ terminals.Punctuator o punctuators.OpenParenthesis ∷ (ys ++ terminals.Punctuator c punctuators.CloseParenthesis ∷ terminals.Punctuator n punctuators.Semicolon ∷ [])), joined ys (terminals.Punctuator c punctuators.CloseParenthesis ∷ terminals.Punctuator n punctuators.Semicolon ∷ []))
  counted_statement (ss.a_for {ws = ws} {xs = xs} {ys = ys} {zs = zs} at o n c a e u s) =
      let i = counted_start a in
      let j = counted_optional e in
      let k = counted_optional u in
      let l = counted_statement s in
      omega (arith, joined ws (xs ++ terminals.Punctuator n punctuators.Semicolon ∷ (ys ++ terminals.Punctuator c punctuators.CloseParenthesis ∷ zs)), joined xs (terminals.Punctuator n punctuators.Semicolon ∷ (ys ++ terminals.Punctuator c punctuators.CloseParenthesis ∷ zs)), joined ys (terminals.Punctuator c punctuators.CloseParenthesis ∷ zs))
  counted_statement (ss.a_switch {xs = xs} {ys = ys} at o c r s) = let n = counted r in let m = counted_braces s in omega (arith, joined xs (terminals.Punctuator c punctuators.CloseParenthesis ∷ ys))
  counted_statement (ss.a_break at s) = omega arith
  counted_statement (ss.a_continue at s) = omega arith
  counted_statement (ss.a_return {ts = ts} at s r) = let n = counted_optional r in omega (arith, joined ts (terminals.Punctuator s punctuators.Semicolon ∷ []))

  counted_item : {h : ℕ} {ts : List Terminal} {s : StmtTree} → ReadsItem h ts s → stmt_count s ≤ length ts
  counted_item (ss.a_statement r) = counted_statement r
  counted_item (ss.a_declared r) = counted_declaration r

  counted_items : {h : ℕ} {ts : List Terminal} {l : Stmts} → ReadsItems h ts l → stmts_count l ≤ length ts
  counted_items ss.no_item = omega arith
  counted_items (ss.an_item {xs = xs} {ys = ys} r s) = let n = counted_item r in let m = counted_items s in omega (arith, joined xs ys)

  counted_braces : {h : ℕ} {ts : List Terminal} {l : Stmts} → ReadsSwitchBlock h ts l → stmts_count l ≤ length ts
  counted_braces (ss.in_braces {ts = ts} o c r) = let n = counted_switch_items r in omega (arith, joined ts (terminals.Punctuator c punctuators.CloseBrace ∷ []))

  counted_switch_item : {labelled labels : Bool} {h : ℕ} {ts : List Terminal} {s : StmtTree} → ReadsSwitchItem labelled labels h ts s → stmt_count s ≤ length ts
  counted_switch_item (ss.a_label r) = counted_label r
  counted_switch_item (ss.a_switch_statement r) = counted_statement r
  counted_switch_item (ss.a_switch_declaration r) = counted_declaration r

  counted_switch_items : {labelled : Bool} {h : ℕ} {ts : List Terminal} {l : Stmts} → ReadsSwitchItems labelled h ts l → stmts_count l ≤ length ts
  counted_switch_items ss.no_switch_item = omega arith
  counted_switch_items (ss.a_switch_item {xs = xs} {ys = ys} r s) = let n = counted_switch_item r in let m = counted_switch_items s in omega (arith, joined xs ys)

counted_plain : {h : ℕ} {ts : List Terminal} {d : DeclTree} → ReadsPlain h ts d → decl_count d ≤ length ts
counted_plain (us.a_struct_with_members {ts = ts} at o c s name r) = let k = counted_groups r in omega (arith, joined ts (terminals.Punctuator c punctuators.CloseBrace ∷ terminals.Punctuator s punctuators.Semicolon ∷ []))
counted_plain (us.a_forward at s name) = omega arith
counted_plain (us.a_header {xs = xs} {ys = ys} {zs = zs} n o c s x t st r) =
    let k = counted_head r in
    omega (
      arith,
      joined xs (ys ++ terminals.Name n x ∷ terminals.Punctuator o punctuators.OpenParenthesis ∷ (zs ++ terminals.Punctuator c punctuators.CloseParenthesis ∷ terminals.Punctuator s punctuators.Semicolon ∷ [])),
      joined ys (terminals.Name n x ∷ terminals.Punctuator o punctuators.OpenParenthesis ∷ (zs ++ terminals.Punctuator c punctuators.CloseParenthesis ∷ terminals.Punctuator s punctuators.Semicolon ∷ [])),
      joined zs (terminals.Punctuator c punctuators.CloseParenthesis ∷ terminals.Punctuator s punctuators.Semicolon ∷ []),
    )
counted_plain (us.a_definition {xs = xs} {ys = ys} {zs = zs} {ws = ws} n o c b e x t st r s) =
    let k = counted_head r in
    let l = counted_items s in
    let tail : List Terminal = terminals.Punctuator c punctuators.CloseParenthesis ∷ terminals.Punctuator b punctuators.OpenBrace ∷ (ws ++ terminals.Punctuator e punctuators.CloseBrace ∷ []) in
    omega (arith, joined xs (ys ++ terminals.Name n x ∷ terminals.Punctuator o punctuators.OpenParenthesis ∷ (zs ++ tail)), joined ys (terminals.Name n x ∷ terminals.Punctuator o punctuators.OpenParenthesis ∷ (zs ++ tail)), joined zs tail, joined ws (terminals.Punctuator e punctuators.CloseBrace ∷ []))
counted_plain (us.some_variables r) = counted_outer r

counted_defined : {h : ℕ} {ts : List Terminal} {d : DefinedTree} → ReadsDefined h ts d → defined_count d ≤ length ts
counted_defined (us.a_struct_with_tag {ts = ts} at o c name r) = let k = counted_groups r in omega (arith, joined ts (terminals.Punctuator c punctuators.CloseBrace ∷ []))
counted_defined (us.a_struct_without_tag {ts = ts} at o c r) = let k = counted_groups r in omega (arith, joined ts (terminals.Punctuator c punctuators.CloseBrace ∷ []))
counted_defined (us.a_known_type r) = omega arith

counted_type_names : {set : NameSet} {h : ℕ} {ts : List Terminal} {l : List DeclaratorTree} → ReadsTypeNames set h ts l → all_count declarator_count l ≤ length ts
counted_type_names {set} (us.a_last_name {ts = ts} r) = let n = counted_declarator r in omega (arith, as_many set ts)
counted_type_names {set} (us.a_name_before {ys = ys} xs at r s) =
    let n = counted_declarator r in
    let m = counted_type_names s in
    omega (arith, as_many set xs, joined xs (terminals.Punctuator at punctuators.Comma ∷ ys))

counted_external : {set : NameSet} {h : ℕ} {ts : List Terminal} {d : DeclTree} → ReadsExternal set h ts d → decl_count d ≤ length ts
counted_external {set} (us.a_plain_external {ts = ts} r) = let n = counted_plain r in omega (arith, as_many set ts)
counted_external {set} (us.a_typedef {ys = ys} xs at s r q) =
    let n = counted_defined r in
    let m = counted_type_names q in
    omega (arith, as_many set xs, joined xs (ys ++ terminals.Punctuator s punctuators.Semicolon ∷ []), joined ys (terminals.Punctuator s punctuators.Semicolon ∷ []))

pub counted_unit : {set : NameSet} {h : ℕ} {ts : List Terminal} {ds : List DeclTree} → ReadsExternals set h ts ds → unit_count ds ≤ length ts
counted_unit (us.a_last_external r) = let n = counted_external r in omega arith
counted_unit (us.an_external {xs = xs} {ys = ys} r s) = let n = counted_external r in let m = counted_unit s in omega (arith, joined xs ys)
