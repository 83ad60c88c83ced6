-- Units with switches that keep the rules, and others that just don't.
use Rattle.std.proofs.Common.{◌≡◌, ℕ, true, List, [], ◌∷◌, Some, None, refl}
use Rattle.qs_syntax_vocabulary.specs.declared.operators.AssignmentOperator.TheVariants as assigns
use Rattle.qs_syntax_vocabulary.specs.declared.operators.BinaryOperator.TheVariants as binaries
use Rattle.qs_syntax_vocabulary.specs.declared.operators.UnaryOperator.TheVariants as unaries
use Rattle.qs_syntax.specs.declared.types.Base.TheVariants as bases
use Rattle.qs_syntax.specs.Trees.{unnumbered, ExprTree, StmtTree, stmts_of}
use Rattle.qs_syntax.specs.Trees as trees
use Rattle.qs_types.specs.Types.{int, unsigned, char, pointer}
use Rattle.qs_types.specs.Contexts.{start_context, inside_switch, with_case, with_default}
use Rattle.qs_types.specs.Rules.{Fault}
use Rattle.qs_types.specs.StatementRules.{operand_type, case_value, after_statement}
use Rattle.qs_types.specs.declared.rules.Rule.{Rule}
use Rattle.qs_types.specs.declared.rules.Rule.TheVariants as rules
use Rattle.qs_types.proofs.RuleTrees.{found, fault, e, number, a, b, call_f, one, many, global, local, s_base, struct_s, header, g, eval, f_name}

-- ---- words

abbrev faults : (m : ℕ) → Rule → (n : ℕ) → Rule → List Fault
faults m r n s = record { node = m; rule = r } ∷ record { node = n; rule = s } ∷ []

abbrev switch : ExprTree → List StmtTree → StmtTree
switch v ss = trees.switch (unnumbered 0) v (stmts_of ss)

abbrev case_of : ExprTree → StmtTree
case_of v = trees.case_label (unnumbered 0) v

abbrev case : ℕ → StmtTree
case n = case_of (number n)

abbrev default : StmtTree
default = trees.default_label (unnumbered 0)

abbrev empty : StmtTree
empty = trees.empty (unnumbered 0)

abbrev break : StmtTree
break = trees.break (unnumbered 0)

abbrev continue : StmtTree
continue = trees.continue (unnumbered 0)

abbrev while : StmtTree → StmtTree
while s = trees.while_loop (unnumbered 0) (number 1) s

abbrev block : List StmtTree → StmtTree
block ss = trees.block (stmts_of ss)

abbrev minus_one : ExprTree
minus_one = e (trees.unary unaries.Minus (number 1))

abbrev as_char : ℕ → ExprTree
as_char n = e (trees.cast (record { base = bases.Char; stars = 0 }) (number n))

-- ---- the operand

-- void g(void){switch(1){}}
no_item : found (g (switch (number 1) [] ∷ []) ∷ []) ≡ []
no_item = refl

-- char a;void g(void){switch(a){case 97:;}}
char_operand : found (global bases.Char 0 97 one None ∷ g (switch a (case 97 ∷ empty ∷ []) ∷ []) ∷ []) ≡ []
char_operand = refl

-- int *a;void g(void){switch(a){case 1:case 1:;}}: without an integer operand the labels have no values
pointer_operand : found (global bases.Int 1 97 one None ∷ g (switch a (case 1 ∷ case 1 ∷ empty ∷ []) ∷ []) ∷ []) ≡ fault 2 rules.SwitchType
pointer_operand = refl

-- int a[2];void g(void){switch(a){}}
array_operand : found (global bases.Int 0 97 (many (number 2)) None ∷ g (switch a [] ∷ []) ∷ []) ≡ fault 3 rules.SwitchType
array_operand = refl

-- struct s {int m;};struct s a;void g(void){switch(a){}}
struct_operand : found (struct_s ∷ global s_base 0 97 one None ∷ g (switch a [] ∷ []) ∷ []) ≡ faults 4 rules.SwitchType 5 rules.MisplacedValue
struct_operand = refl

-- void f(void);void g(void){switch(f()){}}
void_operand : found (header bases.Void f_name [] ∷ g (switch (call_f []) [] ∷ []) ∷ []) ≡ faults 2 rules.SwitchType 3 rules.MisplacedValue
void_operand = refl

-- void g(void){switch(b){case 1:case 1:default:default:;}}: no type, no rule of the switch
unknown_operand : found (g (switch b (case 1 ∷ case 1 ∷ default ∷ default ∷ empty ∷ []) ∷ []) ∷ []) ≡ faults 2 rules.UnknownVariable 8 rules.LabelTwice
unknown_operand = refl

promoted_operand : operand_type (Some char) ≡ Some int
promoted_operand = refl

unsigned_operand : operand_type (Some unsigned) ≡ Some unsigned
unsigned_operand = refl

no_operand : operand_type (Some (pointer int)) ≡ None
no_operand = refl

-- ---- the expression of a `case`

-- void g(void){int b;switch(1){case b:case b:;}}: labels without values don't have the same
variable_case : found (g (local bases.Int 0 98 one None ∷ switch (number 1) (case_of b ∷ case_of b ∷ empty ∷ []) ∷ []) ∷ []) ≡ faults 4 rules.SwitchType 6 rules.SwitchType
variable_case = refl

-- void g(void){switch(1){case b:;}}
unknown_case : found (g (switch (number 1) (case_of b ∷ empty ∷ []) ∷ []) ∷ []) ≡ fault 4 rules.UnknownVariable
unknown_case = refl

-- void g(void){switch(1){case 1/0:;}}
undefined_case : found (g (switch (number 1) (case_of (e (trees.binary binaries.Divide (number 1) (number 0))) ∷ empty ∷ []) ∷ []) ∷ []) ≡ fault 3 rules.SwitchType
undefined_case = refl

-- void g(void){switch(1){case (1,2):;}}
comma_case : found (g (switch (number 1) (case_of (e (trees.comma (number 1) (number 2))) ∷ empty ∷ []) ∷ []) ∷ []) ≡ fault 3 rules.SwitchType
comma_case = refl

-- void g(void){switch(1){case "a":;}}
text_case : found (g (switch (number 1) (case_of (e (trees.text (97 ∷ []))) ∷ empty ∷ []) ∷ []) ∷ []) ≡ fault 3 rules.SwitchType
text_case = refl

-- void g(void){switch(1){case (int *)0:;}}
pointer_case : found (g (switch (number 1) (case_of (e (trees.cast (record { base = bases.Int; stars = 1 }) (number 0))) ∷ empty ∷ []) ∷ []) ∷ []) ≡ fault 3 rules.SwitchType
pointer_case = refl

-- ---- equal values

-- void g(void){switch(1){case 2:case 2:;}}
case_twice : found (g (switch (number 1) (case 2 ∷ case 2 ∷ empty ∷ []) ∷ []) ∷ []) ≡ fault 5 rules.LabelTwice
case_twice = refl

-- void g(void){switch(1){case 2:;case 3:case 2:;case 2:;}}: each of the later labels
case_thrice : found (g (switch (number 1) (case 2 ∷ empty ∷ case 3 ∷ case 2 ∷ empty ∷ case 2 ∷ empty ∷ []) ∷ []) ∷ []) ≡ faults 8 rules.LabelTwice 11 rules.LabelTwice
case_thrice = refl

-- void g(void){switch(1){case -1:case 4294967295u:;}}: equal as values of the operand's type alone
converted_to_int : found (g (switch (number 1) (case_of minus_one ∷ case_of (e (trees.constant 4294967295 true)) ∷ empty ∷ []) ∷ []) ∷ []) ≡ fault 6 rules.LabelTwice
converted_to_int = refl

-- void g(void){switch(1u){case 4294967295u:case -1:;}}
converted_to_unsigned : found (g (switch (e (trees.constant 1 true)) (case_of (e (trees.constant 4294967295 true)) ∷ case_of minus_one ∷ empty ∷ []) ∷ []) ∷ []) ≡ fault 5 rules.LabelTwice
converted_to_unsigned = refl

-- char a;void g(void){switch(a){case 0:case 256:case -1:case 255:;}}: a char is promoted to int, so they differ
char_promoted : found (global bases.Char 0 97 one None ∷ g (switch a (case 0 ∷ case 256 ∷ case_of minus_one ∷ case 255 ∷ empty ∷ []) ∷ []) ∷ []) ≡ []
char_promoted = refl

-- void g(void){switch(1){case 1:case(char)257:;}}
value_of_cast : found (g (switch (number 1) (case 1 ∷ case_of (as_char 257) ∷ empty ∷ []) ∷ []) ∷ []) ≡ fault 5 rules.LabelTwice
value_of_cast = refl

-- void g(void){switch(1){case sizeof(int):case 4:;}}
value_of_size : found (g (switch (number 1) (case_of (e (trees.sizeof_type (record { base = bases.Int; stars = 0 }))) ∷ case 4 ∷ empty ∷ []) ∷ []) ∷ []) ≡ fault 5 rules.LabelTwice
value_of_size = refl

-- case -1 of a switch on an unsigned, and of one on a pointer
value_of_label : case_value (inside_switch (Some unsigned) start_context) minus_one ≡ Some 4294967295
value_of_label = refl

no_value_of_label : case_value (inside_switch None start_context) minus_one ≡ None
no_value_of_label = refl

-- what is known behind case 2: default:
behind_labels : after_statement (after_statement (inside_switch (Some int) start_context) (case 2)) default ≡ with_default (with_case (inside_switch (Some int) start_context) (Some 2))
behind_labels = refl

-- ---- `default`

-- void g(void){switch(1){default:case 1:;}}
default_first : found (g (switch (number 1) (default ∷ case 1 ∷ empty ∷ []) ∷ []) ∷ []) ≡ []
default_first = refl

-- void g(void){switch(1){default:;case 1:default:;}}
default_twice : found (g (switch (number 1) (default ∷ empty ∷ case 1 ∷ default ∷ empty ∷ []) ∷ []) ∷ []) ≡ fault 7 rules.LabelTwice
default_twice = refl

-- ---- switches in switches

-- void g(void){switch(1){case 1:switch(2){case 1:default:;}default:;}}: each has labels of its own
inner_labels : found (g (switch (number 1) (case 1 ∷ switch (number 2) (case 1 ∷ default ∷ empty ∷ []) ∷ default ∷ empty ∷ []) ∷ []) ∷ []) ≡ []
inner_labels = refl

-- void g(void){switch(1){case 1:switch(2){case 2:;}case 1:;}}: behind an inner switch the labels of the outer one are those before it
labels_behind : found (g (switch (number 1) (case 1 ∷ switch (number 2) (case 2 ∷ empty ∷ []) ∷ case 1 ∷ empty ∷ []) ∷ []) ∷ []) ≡ fault 10 rules.LabelTwice
labels_behind = refl

-- void g(void){switch(1){case 1:;}switch(1){case 1:;}}
labels_of_next : found (g (switch (number 1) (case 1 ∷ empty ∷ []) ∷ switch (number 1) (case 1 ∷ empty ∷ []) ∷ []) ∷ []) ≡ []
labels_of_next = refl

-- ---- the block

-- void g(void){int a;switch(1){int a;case 1:a=1;}}
declared_in_block : found (g (local bases.Int 0 97 one None ∷ switch (number 1) (local bases.Int 0 97 one None ∷ case 1 ∷ eval (e (trees.assign assigns.Plain a (number 1))) ∷ []) ∷ []) ∷ []) ≡ []
declared_in_block = refl

-- void g(void){switch(1){int a;case 1:;int a;}}
declared_twice : found (g (switch (number 1) (local bases.Int 0 97 one None ∷ case 1 ∷ empty ∷ local bases.Int 0 97 one None ∷ []) ∷ []) ∷ []) ≡ fault 7 rules.DeclaredTwice
declared_twice = refl

-- void g(void){switch(1){int a;}a;}
declared_outside : found (g (switch (number 1) (local bases.Int 0 97 one None ∷ []) ∷ eval a ∷ []) ∷ []) ≡ fault 5 rules.UnknownVariable
declared_outside = refl

-- ---- `break` and `continue`

-- void g(void){switch(1){default:break;}}
break_in_switch : found (g (switch (number 1) (default ∷ break ∷ []) ∷ []) ∷ []) ≡ []
break_in_switch = refl

-- void g(void){switch(1){default:{if(1)break;}}}
break_in_block : found (g (switch (number 1) (default ∷ block (trees.branch (unnumbered 0) (number 1) break trees.no_else ∷ []) ∷ []) ∷ []) ∷ []) ≡ []
break_in_block = refl

-- void g(void){switch(1){default:;}break;}
break_behind : found (g (switch (number 1) (default ∷ empty ∷ []) ∷ break ∷ []) ∷ []) ≡ fault 5 rules.MisplacedJump
break_behind = refl

-- void g(void){switch(1){default:continue;}}
continue_in_switch : found (g (switch (number 1) (default ∷ continue ∷ []) ∷ []) ∷ []) ≡ fault 4 rules.MisplacedJump
continue_in_switch = refl

-- void g(void){while(1)switch(1){default:continue;}}
continue_in_loop : found (g (while (switch (number 1) (default ∷ continue ∷ [])) ∷ []) ∷ []) ≡ []
continue_in_loop = refl

-- void g(void){switch(1){default:while(1)continue;continue;}}
continue_behind_loop : found (g (switch (number 1) (default ∷ while continue ∷ continue ∷ []) ∷ []) ∷ []) ≡ fault 7 rules.MisplacedJump
continue_behind_loop = refl
