-- The first cause to refuse a unit.
use Rattle.std.proofs.Common.{◌≡◌, List, [], ◌∷◌, Option, Some, None, replicate, refl}
use Rattle.qs_types.specs.declared.limits.LimitKind.TheVariants as kinds
use Rattle.qs_syntax_vocabulary.specs.declared.operators.BinaryOperator.TheVariants as binaries
use Rattle.qs_syntax.specs.declared.types.Base.TheVariants as bases
use Rattle.qs_syntax.specs.Numbering.{numbered_unit}
use Rattle.qs_syntax.specs.Trees.{unnumbered, ExprTree, StmtTree, DeclTree, UnitTree}
use Rattle.qs_syntax.specs.Trees as trees
use Rattle.qs_types.specs.declared.rules.Rule.TheVariants as rules
use Rattle.qs_types.specs.GivenFunctions.{main_name}
use Rattle.qs_typing_findings.specs.declared.type_fault.TypeFault.{TypeFault}
use Rattle.qs_typing_findings.specs.declared.type_fault.TypeFault.TheVariants as faults
use Rattle.qs_typing_findings.specs.Refusals.{first_refusal}
use Rattle.qs_typing_findings.proofs.ExampleTrees.{e, number, a, b, one, many, global, local, f_name, header, body, call_f}

-- ---- words for the trees

-- an `int` without a name
abbrev parameter : trees.ParameterTree
parameter = record { node = unnumbered 0; type_name = record { base = bases.Int; stars = 0 }; name = None; lengths = one }

abbrev refusal : UnitTree → Option TypeFault
refusal unit = first_refusal (numbered_unit unit)

abbrev returns : ExprTree → StmtTree
returns v = trees.return (unnumbered 0) (Some v)

-- int main(void){ .. return 0;}
abbrev main : List StmtTree → DeclTree
main ss = body bases.Int main_name ss

-- int main(void){return 0;}
abbrev good : DeclTree
good = main (returns (number 0) ∷ [])

good_unit : refusal (good ∷ []) ≡ None
good_unit = refl

-- ---- rules: the least node, and there the least rule

-- int main(void){return a+b;}
two_nodes : refusal (main (returns (e (trees.binary binaries.Add a b)) ∷ []) ∷ []) ≡ Some (faults.Rule 3 rules.UnknownVariable)
two_nodes = refl

-- int main(void){int a;void a;return 0;}
two_rules : refusal (main (local bases.Int 97 one ∷ local bases.Void 97 one ∷ returns (number 0) ∷ []) ∷ []) ≡ Some (faults.Rule 2 rules.DeclaredTwice)
two_rules = refl

-- ---- the order of causes

-- int f(int,int,int,int,int,int,int,int,int,int,int,int,int,int,int,int,int);int main(void){return a;}
parameters_before_rules : refusal (header bases.Int f_name (replicate 17 parameter) ∷ main (returns a ∷ []) ∷ []) ≡ Some (faults.Limit kinds.Parameters 17)
parameters_before_rules = refl

-- void f(void){return a;}
rule_before_main : refusal (body bases.Void f_name (returns a ∷ []) ∷ []) ≡ Some (faults.Rule 2 rules.UnknownVariable)
rule_before_main = refl

-- void f(void);void g(void){f();}
main_before_undefined : refusal (header bases.Void f_name [] ∷ body bases.Void (103 ∷ []) (call_f ∷ []) ∷ []) ≡ Some faults.NoMain
main_before_undefined = refl

-- char a[16777216];char b;void f(void);int main(void){f();return 0;}
undefined_before_globals : refusal (global bases.Char 97 (many 16777216) ∷ global bases.Char 98 one ∷ header bases.Void f_name [] ∷ main (call_f ∷ returns (number 0) ∷ []) ∷ [])
    ≡ Some (faults.Undefined 3)
undefined_before_globals = refl

-- char a[16777216];char b;int main(void){char a[1048577];return 0;}
globals_before_locals : refusal (global bases.Char 97 (many 16777216) ∷ global bases.Char 98 one ∷ main (local bases.Char 97 (many 1048577) ∷ returns (number 0) ∷ []) ∷ [])
    ≡ Some (faults.Limit kinds.Globals 2)
globals_before_locals = refl

-- int main(void){char a[1048577];return 0;}
locals : refusal (main (local bases.Char 97 (many 1048577) ∷ returns (number 0) ∷ []) ∷ []) ≡ Some (faults.Limit kinds.Locals 1)
locals = refl
