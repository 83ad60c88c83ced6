-- From source trees to outlines.
use Rattle.std.proofs.Common.{◌≡◌, ℕ, List, [], ◌∷◌, ◌++◌, codes, decimal, Option, Some, None, refl, ap, ◌∙◌, arith}
use Rattle.std.proofs.lemmas.Fmt.{decimal_digit, decimal_step}
use Rattle.qs_syntax.specs.declared.types.Base.TheVariants as bases
use Rattle.qs_syntax_vocabulary.specs.declared.operators.BinaryOperator.TheVariants as binaries
use Rattle.qs_syntax.specs.Numbering.{numbered_unit}
use Rattle.qs_syntax.specs.Trees.{UnitTree}
use Rattle.qs_memory.specs.declared.scalar.Scalar.TheVariants.{Int, Unsigned}
use Rattle.qs_memory.specs.declared.operation.Signedness.TheVariants as signs
use Rattle.qs_memory.specs.declared.operation.Arithmetic.TheVariants.{Add, Subtract}
use Rattle.qs_memory.specs.declared.operation.Comparison.TheVariants.{Equal}
use Rattle.qs_memory.specs.declared.operation.BinaryOperation.TheVariants.{Arithmetic, Compare}
use Rattle.qs_calls.specs.declared.callee.Callee.TheVariants.{Function, PutChar}
use Rattle.qs_calls.specs.declared.parameter.Parameter.TheVariants.{Plain}
use Rattle.qs_core.specs.declared.labels.CoreLabel.TheVariants.{Case, Default}
use Rattle.qs_core.specs.declared.numbers.Target.TheVariants.{Variable}
use Rattle.qs_core.specs.Trees.{CoreExprTree, literal, variable, temporary, binary, CoreStmtTree, skip, assign, call, branch, loop, switch, break, return, stmts_of, CoreUnitTree}
use Rattle.qs_core.specs.Outline.{outline}
use Rattle.qs_elaborate_bodies.specs.Units.{core_of}
use Rattle.qs_elaborate_laws.proofs.UnitExamples.{core_seven}
use Rattle.qs_meaning.proofs.Samples.{number, natural, named, plus, op, putchar, eval, set, when, while, defined, parameter, main_, main_name}
use Rattle.qs_meaning.proofs.Samples as c

d0 : decimal 0 ≡ codes "0"
d0 = decimal_digit 0 (omega arith)

d1 : decimal 1 ≡ codes "1"
d1 = decimal_digit 1 (omega arith)

d2 : decimal 2 ≡ codes "2"
d2 = decimal_digit 2 (omega arith)

d3 : decimal 3 ≡ codes "3"
d3 = decimal_digit 3 (omega arith)

d4 : decimal 4 ≡ codes "4"
d4 = decimal_digit 4 (omega arith)

d5 : decimal 5 ≡ codes "5"
d5 = decimal_digit 5 (omega arith)

d6 : decimal 6 ≡ codes "6"
d6 = decimal_digit 6 (omega arith)

d7 : decimal 7 ≡ codes "7"
d7 = decimal_digit 7 (omega arith)

d8 : decimal 8 ≡ codes "8"
d8 = decimal_digit 8 (omega arith)

d9 : decimal 9 ≡ codes "9"
d9 = decimal_digit 9 (omega arith)

d12 : decimal 12 ≡ codes "12"
d12 = decimal_step 12 (omega arith) (omega arith) ∙ ap (λ (l : List ℕ). l ++ codes "2") d1

d120 : decimal 120 ≡ codes "120"
d120 = decimal_step 120 (omega arith) (omega arith) ∙ ap (λ (l : List ℕ). l ++ codes "0") d12

abbrev core_from : UnitTree → Option CoreUnitTree
core_from unit = core_of (numbered_unit unit)

-- ---- unsigned f(unsigned n){if(n==0u)return 0u;return f(n-1u)+1u;} int main(unsigned n){f(n);return 0;}

abbrev counting : UnitTree
counting =
    defined bases.Unsigned 0 (102 ∷ []) (parameter bases.Unsigned 0 110 ∷ [])
    (when (op binaries.Equal (named 110) (natural 0)) (c.return (natural 0)) ∷ c.return (plus (c.call 102 (op binaries.Subtract (named 110) (natural 1) ∷ [])) (natural 1)) ∷ [])
    ∷ defined bases.Int 0 main_name (parameter bases.Unsigned 0 110 ∷ []) (eval (c.call 102 (named 110 ∷ [])) ∷ c.return (number 0) ∷ [])
    ∷ []

abbrev n : CoreExprTree
n = variable Unsigned 0

abbrev zero_returned : CoreStmtTree
zero_returned = return (Some (literal Int 0))

abbrev core_counting : CoreUnitTree
core_counting = record {
  functions =
      record {
        name = codes "f";
        parameters = record { name = codes "n"; place = Plain 0 } ∷ [];
        variables = record { name = codes "n"; ordinal = 1; scalar = Unsigned } ∷ [];
        temporaries = Unsigned ∷ [];
        blocks = [];
        result_type = Some Unsigned;
        body = stmts_of (
            branch (binary (Compare Equal signs.Unsigned) n (literal Unsigned 0)) (return (Some (literal Unsigned 0))) skip
            ∷ call (Some 0) (Function (record { 0 = 0 })) (binary (Arithmetic Subtract signs.Unsigned) n (literal Unsigned 1) ∷ [])
            ∷ return (Some (binary (Arithmetic Add signs.Unsigned) (temporary Unsigned 0) (literal Unsigned 1)))
            ∷ []);
      }
      ∷ record {
        name = codes "main";
        parameters = record { name = codes "n"; place = Plain 0 } ∷ [];
        variables = record { name = codes "n"; ordinal = 1; scalar = Unsigned } ∷ [];
        temporaries = [];
        blocks = [];
        result_type = Some Int;
        body = stmts_of (call None (Function (record { 0 = 0 })) (n ∷ []) ∷ zero_returned ∷ zero_returned ∷ []);
      }
      ∷ [];
  main = 1;
  data_blocks = [];
}

counting_in_core : core_from counting ≡ Some core_counting
counting_in_core = refl

counting_outline :
    outline core_counting
    ≡ codes "function f n\n"
    ++ codes ". seq 3\n"
    ++ codes ".0 if (eq n 0)\n"
    ++ codes ".0.0 return 0\n"
    ++ codes ".0.1 skip\n"
    ++ codes ".1 call $0 f (wrapu (sub n 1))\n"
    ++ codes ".2 return (wrapu (add $0 1))\n"
    ++ codes "function main n\n"
    ++ codes ". seq 3\n"
    ++ codes ".0 call - f n\n"
    ++ codes ".1 return 0\n"
    ++ codes ".2 return 0\n"
counting_outline = simp (d0, d1, d2, d3) refl

-- ---- int main(void){while(1)putchar('x');return 0;}

abbrev endless : UnitTree
endless = main_ (while (number 1) (eval (putchar (number 120))) ∷ c.return (number 0) ∷ []) ∷ []

abbrev core_endless : CoreUnitTree
core_endless = record {
  functions =
      record {
        name = codes "main";
        parameters = [];
        variables = [];
        temporaries = [];
        blocks = [];
        result_type = Some Int;
        body = stmts_of (
            loop (branch (literal Int 1) (call None PutChar (literal Int 120 ∷ [])) break) skip
            ∷ zero_returned
            ∷ zero_returned
            ∷ []);
      }
      ∷ [];
  main = 0;
  data_blocks = [];
}

endless_in_core : core_from endless ≡ Some core_endless
endless_in_core = refl

endless_outline :
    outline core_endless
    ≡ codes "function main\n"
    ++ codes ". seq 3\n"
    ++ codes ".0 loop\n"
    ++ codes ".0.0 if (ne 1 0)\n"
    ++ codes ".0.0.0 call - putchar 120\n"
    ++ codes ".0.0.1 break\n"
    ++ codes ".0.1 skip\n"
    ++ codes ".1 return 0\n"
    ++ codes ".2 return 0\n"
endless_outline = simp (d0, d1, d2, d3, d120) refl

-- ---- int f(int x){switch(x){case 1:return 5;case 2:x=7;break;default:x=9;}return x;} int main(int a){return f(a);}

abbrev choosing : UnitTree
choosing =
    defined bases.Int 0 (102 ∷ []) (parameter bases.Int 0 120 ∷ [])
    (c.switch (named 120)
    (c.case (number 1)
    ∷ c.return (number 5)
    ∷ c.case (number 2)
    ∷ eval (set (named 120) (number 7))
    ∷ c.break
    ∷ c.default
    ∷ eval (set (named 120) (number 9))
    ∷ [])
    ∷ c.return (named 120)
    ∷ [])
    ∷ defined bases.Int 0 main_name (parameter bases.Int 0 97 ∷ []) (c.return (c.call 102 (named 97 ∷ [])) ∷ [])
    ∷ []

abbrev core_choosing : CoreUnitTree
core_choosing = record {
  functions =
      record {
        name = codes "f";
        parameters = record { name = codes "x"; place = Plain 0 } ∷ [];
        variables = record { name = codes "x"; ordinal = 1; scalar = Int } ∷ [];
        temporaries = [];
        blocks = [];
        result_type = Some Int;
        body = stmts_of (
            switch (variable Int 0) (Case 1 0 ∷ Case 2 1 ∷ Default 3 ∷ [])
            (stmts_of (
            return (Some (literal Int 5))
            ∷ assign (Variable 0) (literal Int 7)
            ∷ break
            ∷ assign (Variable 0) (literal Int 9)
            ∷ []))
            ∷ return (Some (variable Int 0))
            ∷ []);
      }
      ∷ record {
        name = codes "main";
        parameters = record { name = codes "a"; place = Plain 0 } ∷ [];
        variables = record { name = codes "a"; ordinal = 1; scalar = Int } ∷ [];
        temporaries = Int ∷ [];
        blocks = [];
        result_type = Some Int;
        body = stmts_of (
            call (Some 0) (Function (record { 0 = 0 })) (variable Int 0 ∷ [])
            ∷ return (Some (temporary Int 0))
            ∷ zero_returned
            ∷ []);
      }
      ∷ [];
  main = 1;
  data_blocks = [];
}

choosing_in_core : core_from choosing ≡ Some core_choosing
choosing_in_core = refl

choosing_outline :
    outline core_choosing
    ≡ codes "function f x\n"
    ++ codes ". seq 2\n"
    ++ codes ".0 switch x 1@0 2@1 default@3\n"
    ++ codes ".0.0 return 5\n"
    ++ codes ".0.1 assign x 7\n"
    ++ codes ".0.2 break\n"
    ++ codes ".0.3 assign x 9\n"
    ++ codes ".1 return x\n"
    ++ codes "function main a\n"
    ++ codes ". seq 3\n"
    ++ codes ".0 call $0 f a\n"
    ++ codes ".1 return $0\n"
    ++ codes ".2 return 0\n"
choosing_outline = simp (d0, d1, d2, d3, d5, d7, d9) refl

-- ---- several variables of one name (the source stands in UnitExamples)

seven_outline :
    outline (record { functions = core_seven ∷ []; main = 0; data_blocks = [] })
    ≡ codes "function main x\n"
    ++ codes ". seq 9\n"
    ++ codes ".0 assign x#2 1\n"
    ++ codes ".1 assign x#3 2\n"
    ++ codes ".2 loop\n"
    ++ codes ".2.0 if (ne x#3 0)\n"
    ++ codes ".2.0.0 skip\n"
    ++ codes ".2.0.1 break\n"
    ++ codes ".2.1 assign x#3 (wraps (sub x#3 1))\n"
    ++ codes ".3 if (ne x 0)\n"
    ++ codes ".3.0 assign x#4 3\n"
    ++ codes ".3.1 store\n"
    ++ codes ".4 store\n"
    ++ codes ".5 assign $0 ?\n"
    ++ codes ".6 assign x#7 5\n"
    ++ codes ".7 return x\n"
    ++ codes ".8 return 0\n"
seven_outline = simp (d0, d1, d2, d3, d4, d5, d6, d7, d8, d9) refl
