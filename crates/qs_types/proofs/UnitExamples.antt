-- Violations and counts of whole units, and a unit that keeps the rules in forms that stronger rules would refuse.
use Rattle.std.proofs.Common.{◌≡◌, ℕ, true, false, Bool, List, [], ◌∷◌, Option, Some, None, replicate, refl}
use Rattle.qs_syntax_vocabulary.specs.declared.operators.BinaryOperator.TheVariants as binaries
use Rattle.qs_syntax_vocabulary.specs.declared.operators.Access.TheVariants as accesses
use Rattle.qs_syntax.specs.declared.types.Base.{Base}
use Rattle.qs_syntax.specs.declared.types.Base.TheVariants as bases
use Rattle.qs_syntax.specs.Numbering.{numbered_unit}
use Rattle.qs_syntax.specs.Trees.{unnumbered, ExprTree, StmtTree, Stmts, stmts_of, start_declaration, no_else, ParameterTree, DeclTree, structure, function, UnitTree}
use Rattle.qs_syntax.specs.Trees as trees
use Rattle.qs_types.specs.declared.rules.Rule.{Rule}
use Rattle.qs_types.specs.declared.rules.Rule.TheVariants as rules
use Rattle.qs_types.specs.GivenFunctions.{putchar_name}
use Rattle.qs_types.specs.Limits.{function_count, first_past_functions, parameter_count, first_past_parameters, data_bytes, first_past_globals, most_placed, first_past_locals}
use Rattle.qs_types.specs.UnitRules.{faults_in, is_among}
use Rattle.qs_types.specs.WellTyped.{first_undefined}
use Rattle.qs_types.proofs.RuleTrees.{found, fault, e, number, a, b, call_f, one, many, some, declarator, global, local, listed, valued, s_base, struct_s, forward_s, parameter, header, g, eval, f_name}

-- ---- violations: the node and the rule of each fault, and no other

-- void g(void){a+b;}
abbrev breaks : ℕ → Rule → Bool
breaks node rule = is_among node rule (faults_in (numbered_unit (g (eval (e (trees.binary binaries.Add a b)) ∷ []) ∷ [])))

violations : breaks 3 rules.UnknownVariable ∷ breaks 4 rules.UnknownVariable ∷ [] ≡ true ∷ true ∷ []
violations = refl

no_violations : breaks 2 rules.UnknownVariable ∷ breaks 3 rules.UnknownFunction ∷ breaks 4 rules.SumOperands ∷ [] ≡ false ∷ false ∷ false ∷ []
no_violations = refl

-- ---- counts, where declarations of all kinds stand

-- struct s;struct s {int m;};struct s a;void f(int);void h(struct s *,int);void g(void){struct s b;f(1);}
abbrev mixed : UnitTree
mixed = numbered_unit (
    forward_s ∷ struct_s ∷ global s_base 0 97 one None ∷ header bases.Void f_name (parameter bases.Int 0 None ∷ [])
    ∷ header bases.Void (104 ∷ []) (parameter s_base 1 None ∷ parameter bases.Int 0 None ∷ []) ∷ g (local s_base 0 98 one None ∷ eval (call_f (number 1 ∷ [])) ∷ []) ∷ [])

-- names of functions, parameters of one header, bytes of data, bytes of one function's locals
counts : function_count mixed ∷ parameter_count mixed ∷ data_bytes mixed ∷ most_placed mixed ∷ [] ≡ 3 ∷ 2 ∷ 4 ∷ 4 ∷ []
counts = refl

none_past : first_past_functions 3 mixed ∷ first_past_parameters (λ name. 2) mixed ∷ first_past_globals 4 mixed ∷ first_past_locals 4 mixed ∷ [] ≡ replicate 4 None
none_past = refl

one_past : first_past_functions 2 mixed ∷ first_past_parameters (λ name. 1) mixed ∷ first_past_globals 3 mixed ∷ first_past_locals 3 mixed ∷ [] ≡ Some 9 ∷ Some 8 ∷ Some 3 ∷ Some 10 ∷ []
one_past = refl

called_without_body : first_undefined mixed ≡ Some 4
called_without_body = refl

-- int a[]={1,2,3};char b[]="ab"; take 12 bytes and 3 (6.7.9p22)
open_lengths : data_bytes (numbered_unit (global bases.Int 0 97 some (listed (trees.value (number 1) ∷ trees.value (number 2) ∷ trees.value (number 3) ∷ [])) ∷ global bases.Char 0 98 some (valued (e (trees.text (97 ∷ 98 ∷ [])))) ∷ [])) ≡ 15
open_lengths = refl

-- ---- a unit that keeps the rules

abbrev empty : StmtTree
empty = trees.empty (unnumbered 0)

-- int *f(..);
abbrev pointer_f : List ParameterTree → Option Stmts → DeclTree
pointer_f ps body = function (record { node = unnumbered 0; result_type = record { base = bases.Int; stars = 1 }; name = f_name; parameters = ps; body = body })

-- a parameter a of this length
abbrev sized : Base → ExprTree → ParameterTree
sized base n = record { node = unnumbered 0; type_name = record { base = base; stars = 0 }; name = Some (97 ∷ []); lengths = many n }

-- struct s {int m;};int a;int *f(int a){int b[2];return b;}int *f(int);void h(char a[16777217]);
-- void g(void){int i;struct s l[2];int b[2];for(int i;;);if(b);b?1:2;l->m;f(1);}
abbrev kept : UnitTree
kept =
    struct_s ∷ global bases.Int 0 97 one None
    ∷ pointer_f (parameter bases.Int 0 (Some (97 ∷ [])) ∷ []) (Some (stmts_of (local bases.Int 0 98 (many (number 2)) None ∷ trees.return (unnumbered 0) (Some b) ∷ [])))
    ∷ pointer_f (parameter bases.Int 0 None ∷ []) None ∷ header bases.Void (104 ∷ []) (sized bases.Char (number 16777217) ∷ [])
    ∷ g (
    local bases.Int 0 105 one None ∷ local s_base 0 108 (many (number 2)) None ∷ local bases.Int 0 98 (many (number 2)) None
    ∷ trees.for_loop (unnumbered 0) (start_declaration (record { base = bases.Int; variables = record { declarator = declarator 0 105 one; initialiser = None } ∷ [] })) None None empty
    ∷ trees.branch (unnumbered 0) b empty no_else ∷ eval (e (trees.conditional b (number 1) (number 2))) ∷ eval (e (trees.member accesses.Arrow (e (trees.name (108 ∷ []))) (109 ∷ [])))
    ∷ eval (call_f (number 1 ∷ [])) ∷ []) ∷ []

kept_rules : found kept ≡ []
kept_rules = refl

-- f has a body still behind its later header
called_with_body : first_undefined (numbered_unit kept) ≡ None
called_with_body = refl

-- ---- and some that don't

-- void f(int n,int a[n]);
parameter_known : found (header bases.Void f_name (parameter bases.Int 0 (Some (110 ∷ [])) ∷ sized bases.Int (e (trees.name (110 ∷ []))) ∷ []) ∷ []) ≡ fault 2 rules.ArrayLength
parameter_known = refl

-- void g(void){putchar;}
putchar_no_variable : found (g (eval (e (trees.name putchar_name)) ∷ []) ∷ []) ≡ fault 2 rules.UnknownVariable
putchar_no_variable = refl

-- struct s {char m;int n;char o[..];}; where o lies at 8
abbrev padded : ℕ → UnitTree
padded n = structure (record {
  node = unnumbered 0;
  name = Some (115 ∷ []);
  members =
      record { base = bases.Char; declarators = declarator 0 109 one ∷ [] } ∷ record { base = bases.Int; declarators = declarator 0 110 one ∷ [] }
      ∷ record { base = bases.Char; declarators = declarator 0 111 (many (number n)) ∷ [] } ∷ [];
}) ∷ []

padded_at : found (padded 16777208) ≡ []
padded_at = refl

padded_past : found (padded 16777209) ≡ fault 3 rules.LargeType
padded_past = refl
