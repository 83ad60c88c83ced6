-- For each rule on expressions, statements and initialisers a unit that breaks it and one that just doesn't.
use Rattle.std.proofs.Common.{◌≡◌, [], ◌∷◌, Some, None, refl}
use Rattle.qs_syntax_vocabulary.specs.declared.operators.UnaryOperator.TheVariants as unaries
use Rattle.qs_syntax_vocabulary.specs.declared.operators.StepOperator.TheVariants as steps
use Rattle.qs_syntax_vocabulary.specs.declared.operators.BinaryOperator.TheVariants as binaries
use Rattle.qs_syntax_vocabulary.specs.declared.operators.AssignmentOperator.TheVariants as assigns
use Rattle.qs_syntax_vocabulary.specs.declared.operators.Access.TheVariants as accesses
use Rattle.qs_syntax.specs.declared.types.Base.TheVariants as bases
use Rattle.qs_syntax.specs.Trees.{unnumbered}
use Rattle.qs_syntax.specs.Trees as trees
use Rattle.qs_types.specs.declared.rules.Rule.TheVariants as rules
use Rattle.qs_types.proofs.RuleTrees.{found, fault, e, number, a, b, one, many, global, local, listed, valued, s_base, struct_s, g, eval}

-- void g(void){int *a;-a;}
arithmetic_operand_broken : found (g (local bases.Int 1 97 one None ∷ eval (e (trees.unary unaries.Minus (a))) ∷ []) ∷ []) ≡ fault 3 rules.ArithmeticOperand
arithmetic_operand_broken = refl

-- void g(void){int *a;!a;}
arithmetic_operand_kept : found (g (local bases.Int 1 97 one None ∷ eval (e (trees.unary unaries.Not (a))) ∷ []) ∷ []) ≡ []
arithmetic_operand_kept = refl

-- void g(void){int a;*a;}
indirect_operand_broken : found (g (local bases.Int 0 97 one None ∷ eval (e (trees.unary unaries.Indirect (a))) ∷ []) ∷ []) ≡ fault 3 rules.IndirectOperand
indirect_operand_broken = refl

-- void g(void){int *a;*a;}
indirect_operand_kept : found (g (local bases.Int 1 97 one None ∷ eval (e (trees.unary unaries.Indirect (a))) ∷ []) ∷ []) ≡ []
indirect_operand_kept = refl

-- void g(void){&1;}
address_operand_broken : found (g (eval (e (trees.unary unaries.Address (number 1))) ∷ []) ∷ []) ≡ fault 2 rules.AddressOperand
address_operand_broken = refl

-- void g(void){int a;&a;}
address_operand_kept : found (g (local bases.Int 0 97 one None ∷ eval (e (trees.unary unaries.Address (a))) ∷ []) ∷ []) ≡ []
address_operand_kept = refl

-- void g(void){int a[2];a++;}
step_operand_broken : found (g (local bases.Int 0 97 (many (number 2)) None ∷ eval (e (trees.step steps.IncrementAfter (a))) ∷ []) ∷ []) ≡ fault 4 rules.StepOperand
step_operand_broken = refl

-- void g(void){int *a;a++;}
step_operand_kept : found (g (local bases.Int 1 97 one None ∷ eval (e (trees.step steps.IncrementAfter (a))) ∷ []) ∷ []) ≡ []
step_operand_kept = refl

-- void g(void){int *a;a*2;}
integer_operands_broken : found (g (local bases.Int 1 97 one None ∷ eval (e (trees.binary binaries.Multiply (a) (number 2))) ∷ []) ∷ []) ≡ fault 3 rules.IntegerOperands
integer_operands_broken = refl

-- void g(void){int a;a*2;}
integer_operands_kept : found (g (local bases.Int 0 97 one None ∷ eval (e (trees.binary binaries.Multiply (a) (number 2))) ∷ []) ∷ []) ≡ []
integer_operands_kept = refl

-- void g(void){int *a;a+a;}
sum_operands_broken : found (g (local bases.Int 1 97 one None ∷ eval (e (trees.binary binaries.Add (a) (a))) ∷ []) ∷ []) ≡ fault 3 rules.SumOperands
sum_operands_broken = refl

-- void g(void){int *a;a-a;}
sum_operands_kept : found (g (local bases.Int 1 97 one None ∷ eval (e (trees.binary binaries.Subtract (a) (a))) ∷ []) ∷ []) ≡ []
sum_operands_kept = refl

-- void g(void){int *a;a<0;}
order_operands_broken : found (g (local bases.Int 1 97 one None ∷ eval (e (trees.binary binaries.Less (a) (number 0))) ∷ []) ∷ []) ≡ fault 3 rules.OrderOperands
order_operands_broken = refl

-- void g(void){int *a;a==1;}
equality_operands_broken : found (g (local bases.Int 1 97 one None ∷ eval (e (trees.binary binaries.Equal (a) (number 1))) ∷ []) ∷ []) ≡ fault 3 rules.EqualityOperands
equality_operands_broken = refl

-- void g(void){int *a;a==0;}
equality_operands_kept : found (g (local bases.Int 1 97 one None ∷ eval (e (trees.binary binaries.Equal (a) (number 0))) ∷ []) ∷ []) ≡ []
equality_operands_kept = refl

-- struct s {int m;};struct s a;void g(void){while(a);}
truth_operand_broken : found (struct_s ∷ global s_base 0 97 one None ∷ g (trees.while_loop (unnumbered 0) a (trees.empty (unnumbered 0)) ∷ []) ∷ []) ≡ record { node = 4; rule = rules.TruthOperand } ∷ record { node = 5; rule = rules.MisplacedValue } ∷ []
truth_operand_broken = refl

-- void g(void){int *a;while(a);}
truth_operand_kept : found (g (local bases.Int 1 97 one None ∷ trees.while_loop (unnumbered 0) a (trees.empty (unnumbered 0)) ∷ []) ∷ []) ≡ []
truth_operand_kept = refl

-- void g(void){int *a;1?a:1;}
branch_types_broken : found (g (local bases.Int 1 97 one None ∷ eval (e (trees.conditional (number 1) (a) (number 1))) ∷ []) ∷ []) ≡ fault 3 rules.BranchTypes
branch_types_broken = refl

-- void g(void){int *a;1?a:0;}
branch_types_kept : found (g (local bases.Int 1 97 one None ∷ eval (e (trees.conditional (number 1) (a) (number 0))) ∷ []) ∷ []) ≡ []
branch_types_kept = refl

-- void g(void){int a[2];a=0;}
assigned_type_broken : found (g (local bases.Int 0 97 (many (number 2)) None ∷ eval (e (trees.assign assigns.Plain (a) (number 0))) ∷ []) ∷ []) ≡ fault 4 rules.AssignedType
assigned_type_broken = refl

-- void g(void){int *a;a=0;}
assigned_type_kept : found (g (local bases.Int 1 97 one None ∷ eval (e (trees.assign assigns.Plain (a) (number 0))) ∷ []) ∷ []) ≡ []
assigned_type_kept = refl

-- void g(void){int *a;a*=2;}
compound_operands_broken : found (g (local bases.Int 1 97 one None ∷ eval (e (trees.assign assigns.Multiply (a) (number 2))) ∷ []) ∷ []) ≡ fault 3 rules.CompoundOperands
compound_operands_broken = refl

-- void g(void){int *a;a+=2;}
compound_operands_kept : found (g (local bases.Int 1 97 one None ∷ eval (e (trees.assign assigns.Add (a) (number 2))) ∷ []) ∷ []) ≡ []
compound_operands_kept = refl

-- struct s {int m;};struct s a;void g(void){a.n;}
unknown_member_broken : found (struct_s ∷ global s_base 0 97 one None ∷ g (eval (e (trees.member accesses.Dot (a) (110 ∷ []))) ∷ []) ∷ []) ≡ fault 5 rules.UnknownMember
unknown_member_broken = refl

-- struct s {int m;};struct s *a;void g(void){a->m;}
unknown_member_kept : found (struct_s ∷ global s_base 1 97 one None ∷ g (eval (e (trees.member accesses.Arrow (a) (109 ∷ []))) ∷ []) ∷ []) ≡ []
unknown_member_kept = refl

-- void g(void){(int *)1;}
cast_type_broken : found (g (eval (e (trees.cast (record { base = bases.Int; stars = 1 }) (number 1))) ∷ []) ∷ []) ≡ fault 2 rules.CastType
cast_type_broken = refl

-- void g(void){(int *)0;}
cast_type_kept : found (g (eval (e (trees.cast (record { base = bases.Int; stars = 1 }) (number 0))) ∷ []) ∷ []) ≡ []
cast_type_kept = refl

-- void g(void){return 1;}
returned_type_broken : found (g (trees.return (unnumbered 0) (Some (number 1)) ∷ []) ∷ []) ≡ fault 1 rules.ReturnedType
returned_type_broken = refl

-- void g(void){return;}
returned_type_kept : found (g (trees.return (unnumbered 0) None ∷ []) ∷ []) ≡ []
returned_type_kept = refl

-- void g(void){break;}
outside_loop_broken : found (g (trees.break (unnumbered 0) ∷ []) ∷ []) ≡ fault 1 rules.MisplacedJump
outside_loop_broken = refl

-- void g(void){while(1)break;}
outside_loop_kept : found (g (trees.while_loop (unnumbered 0) (number 1) (trees.break (unnumbered 0)) ∷ []) ∷ []) ≡ []
outside_loop_kept = refl

-- struct s {int m;};struct s a;void g(void){a;}
misplaced_value_broken : found (struct_s ∷ global s_base 0 97 one None ∷ g (eval (a) ∷ []) ∷ []) ≡ fault 5 rules.MisplacedValue
misplaced_value_broken = refl

-- struct s{..};struct s a;void g(void){a+=b;}
misplaced_value_broken_2 : found (struct_s ∷ global s_base 0 97 one None ∷ g (eval (e (trees.assign assigns.Add (a) (b))) ∷ []) ∷ []) ≡ record { node = 6; rule = rules.MisplacedValue } ∷ record { node = 7; rule = rules.UnknownVariable } ∷ []
misplaced_value_broken_2 = refl

-- struct s {int m;};struct s a;void g(void){a=a;}
misplaced_value_kept : found (struct_s ∷ global s_base 0 97 one None ∷ g (eval (e (trees.assign assigns.Plain (a) (a))) ∷ []) ∷ []) ≡ []
misplaced_value_kept = refl

-- char a[2]="xxx";
initialiser_type_broken : found (global bases.Char 0 97 (many (number 2)) (valued (e (trees.text (120 ∷ 120 ∷ 120 ∷ [])))) ∷ []) ≡ fault 0 rules.InitialiserType
initialiser_type_broken = refl

-- char a[2]="xx";
initialiser_type_kept : found (global bases.Char 0 97 (many (number 2)) (valued (e (trees.text (120 ∷ 120 ∷ [])))) ∷ []) ≡ []
initialiser_type_kept = refl

-- int a[1]={1,2};
initialiser_type_broken_2 : found (global bases.Int 0 97 (many (number 1)) (listed (trees.value (number 1) ∷ trees.value (number 2) ∷ [])) ∷ []) ≡ fault 0 rules.InitialiserType
initialiser_type_broken_2 = refl

-- int a=b where b is a variable: int b;int a=b;
initialiser_type_broken_3 : found (global bases.Int 0 98 one None ∷ global bases.Int 0 97 one (valued b) ∷ []) ≡ fault 1 rules.InitialiserType
initialiser_type_broken_3 = refl
