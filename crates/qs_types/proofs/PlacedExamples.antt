-- Which locals are placed, and the functions that are given.
use Rattle.std.proofs.Common.{◌≡◌, ℕ, List, [], ◌∷◌, Option, Some, None, refl}
use Rattle.qs_syntax_vocabulary.specs.declared.operators.UnaryOperator.TheVariants as unaries
use Rattle.qs_syntax.specs.declared.types.Base.TheVariants as bases
use Rattle.qs_syntax.specs.Trees.{unnumbered, stmts_of, FunctionTree, Stmts, structure, forward, typedef, function, variables, UnitTree}
use Rattle.qs_syntax.specs.Trees as trees
use Rattle.qs_syntax.specs.Numbering.{numbered_unit}
use Rattle.qs_types.specs.declared.rules.Rule.TheVariants as rules
use Rattle.qs_types.specs.Contexts.{given, start_context, entity_of}
use Rattle.qs_types.specs.GivenFunctions.{putchar_name, putchar_type}
use Rattle.qs_types.specs.Placed.{addressed_in}
use Rattle.qs_types.proofs.RuleTrees.{found, fault, e, number, a, one, local, parameter, g, eval}

abbrev addressed_by : FunctionTree → Option Stmts → List ℕ
addressed_by f None = []
addressed_by f (Some ss) = addressed_in start_context f ss

-- the nodes of the first function of a unit whose names are operands of `&`
abbrev addressed : UnitTree → List ℕ
addressed [] = []
addressed (structure s ∷ ds) = []
addressed (forward f ∷ ds) = []
addressed (typedef t ∷ ds) = []
addressed (function f ∷ ds) = addressed_by f f.body
addressed (variables d ∷ ds) = []

-- void g(void){int a;int b;&a;}
one_addressed : addressed (numbered_unit (g (local bases.Int 0 97 one None ∷ local bases.Int 0 98 one None ∷ eval (e (trees.unary unaries.Address a)) ∷ []) ∷ [])) ≡ 1 ∷ []
one_addressed = refl

-- void g(void){int a;{int a;&a;}}
inner_addressed : addressed (numbered_unit (g (local bases.Int 0 97 one None ∷ trees.block (stmts_of (local bases.Int 0 97 one None ∷ eval (e (trees.unary unaries.Address a)) ∷ [])) ∷ []) ∷ [])) ≡ 2 ∷ []
inner_addressed = refl

-- void g(void){int a;sizeof &a;}
addressed_below_sizeof : addressed (numbered_unit (g (local bases.Int 0 97 one None ∷ eval (e (trees.sizeof_expr (e (trees.unary unaries.Address a)))) ∷ []) ∷ [])) ≡ 1 ∷ []
addressed_below_sizeof = refl

-- putchar counts as declared
putchar_known : entity_of start_context putchar_name ≡ Some (given putchar_type)
putchar_known = refl

-- void g(void){putchar(65);}
putchar_called : found (g (eval (e (trees.call putchar_name (trees.exprs_of (number 65 ∷ [])))) ∷ []) ∷ []) ≡ []
putchar_called = refl

-- void g(void){putchar();}
putchar_without : found (g (eval (e (trees.call putchar_name trees.no_exprs)) ∷ []) ∷ []) ≡ fault 2 rules.ArgumentCount
putchar_without = refl

-- int putchar; at file scope
putchar_variable : found (trees.variables (record { base = bases.Int; variables = record { declarator = record { node = unnumbered 0; stars = 0; name = putchar_name; lengths = one }; initialiser = None } ∷ [] }) ∷ []) ≡ fault 0 rules.DeclaredTwice
putchar_variable = refl

-- char putchar(int);
putchar_otherwise : found (function (record { node = unnumbered 0; result_type = record { base = bases.Char; stars = 0 }; name = putchar_name; parameters = parameter bases.Int 0 None ∷ []; body = None }) ∷ []) ≡ fault 0 rules.DeclaredTwice
putchar_otherwise = refl
