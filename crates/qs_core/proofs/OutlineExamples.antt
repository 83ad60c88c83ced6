-- Outlines by hand.
use Rattle.std.proofs.Common.{◌≡◌, ℕ, true, List, [], ◌∷◌, ◌++◌, codes, decimal, pos, negsuc, Some, None, refl, ap, ◌∙◌, arith}
use Rattle.std.proofs.lemmas.Fmt.{decimal_digit, decimal_step}
use Rattle.qs_memory.specs.declared.scalar.Scalar.TheVariants as scalars
use Rattle.qs_memory.specs.declared.operation.Signedness.TheVariants.{Signed, Unsigned}
use Rattle.qs_memory.specs.declared.operation.Arithmetic.TheVariants as arithmetics
use Rattle.qs_memory.specs.declared.operation.Comparison.TheVariants as comparisons
use Rattle.qs_memory.specs.declared.operation.BinaryOperation.TheVariants as binaries
use Rattle.qs_calls.specs.declared.callee.Callee.TheVariants.{Function}
use Rattle.qs_calls.specs.declared.parameter.Parameter.TheVariants.{Plain}
use Rattle.qs_base.specs.Names.{is_name}
use Rattle.qs_base.specs.Keywords.{is_keyword, keyword_of}
use Rattle.qs_core.specs.declared.labels.CoreLabel.TheVariants.{Case, Default}
use Rattle.qs_core.specs.declared.numbers.BlockId.TheVariants.{Data}
use Rattle.qs_core.specs.declared.numbers.Target.TheVariants as targets
use Rattle.qs_core.specs.Trees.{CoreExprTree, literal, variable, temporary, address_of, load, binary, skip, assign, call, branch, switch, break, return, stmts_of, CoreFunctionTree, CoreUnitTree}
use Rattle.qs_core.specs.Fits.{unit_fits}
use Rattle.qs_core.specs.declared.term.TermOperation.TheVariants.{Add, Subtract}
use Rattle.qs_core.specs.declared.term.TermComparison.TheVariants.{LessOrEqual, Less, Equal, NotEqual}
use Rattle.qs_core.specs.TermTrees.{CoreTermTree, number, combined, wrapped, CoreConditionTree, compared, not, and, or}
use Rattle.qs_core.specs.Terms.{remainder_of}
use Rattle.qs_core.specs.TermTexts.{term_or_mark, condition_or_mark}
use Rattle.qs_core.specs.Outline.{switch_form, outline_function, outline}

-- numbers in decimal

d0 : decimal 0 ≡ codes "0"
d0 = decimal_digit 0 (omega arith)

d1 : decimal 1 ≡ codes "1"
d1 = decimal_digit 1 (omega arith)

d2 : decimal 2 ≡ codes "2"
d2 = decimal_digit 2 (omega arith)

d3 : decimal 3 ≡ codes "3"
d3 = decimal_digit 3 (omega arith)

d5 : decimal 5 ≡ codes "5"
d5 = decimal_digit 5 (omega arith)

d7 : decimal 7 ≡ codes "7"
d7 = decimal_digit 7 (omega arith)

d8 : decimal 8 ≡ codes "8"
d8 = decimal_digit 8 (omega arith)

d9 : decimal 9 ≡ codes "9"
d9 = decimal_digit 9 (omega arith)

d25 : decimal 25 ≡ codes "25"
d25 = decimal_step 25 (omega arith) (omega arith) ∙ ap (λ (l : List ℕ). l ++ codes "5") d2

d256 : decimal 256 ≡ codes "256"
d256 = decimal_step 256 (omega arith) (omega arith) ∙ ap (λ (l : List ℕ). l ++ codes "6") d25

-- unsigned f(unsigned n) { if (n == 0u) return 0u; return f(n - 1u) + 1u; }
abbrev pub n : CoreExprTree
n = variable scalars.Unsigned 0

abbrev pub unsigned : ℕ → CoreExprTree
unsigned k = literal scalars.Unsigned k

abbrev pub f : CoreFunctionTree
f = record {
  name = codes "f";
  parameters = record { name = codes "n"; place = Plain 0 } ∷ [];
  variables = record { name = codes "n"; ordinal = 1; scalar = scalars.Unsigned } ∷ [];
  temporaries = scalars.Unsigned ∷ [];
  blocks = [];
  result_type = Some scalars.Unsigned;
  body = stmts_of (
      branch (binary (binaries.Compare comparisons.Equal Unsigned) n (unsigned 0)) (return (Some (unsigned 0))) skip
      ∷ call (Some 0) (Function (record { 0 = 0 })) (binary (binaries.Arithmetic arithmetics.Subtract Unsigned) n (unsigned 1) ∷ [])
      ∷ return (Some (binary (binaries.Arithmetic arithmetics.Add Unsigned) (temporary scalars.Unsigned 0) (unsigned 1)))
      ∷ []);
}

-- int main(unsigned n) { f(n); return 0; }
abbrev pub main : CoreFunctionTree
main = record {
  name = codes "main";
  parameters = record { name = codes "n"; place = Plain 0 } ∷ [];
  variables = record { name = codes "n"; ordinal = 1; scalar = scalars.Unsigned } ∷ [];
  temporaries = [];
  blocks = [];
  result_type = Some scalars.Int;
  body = stmts_of (
      call None (Function (record { 0 = 0 })) (n ∷ [])
      ∷ return (Some (literal scalars.Int 0))
      ∷ return (Some (literal scalars.Int 0))
      ∷ []);
}

abbrev pub whole : CoreUnitTree
whole = record { functions = f ∷ main ∷ []; main = 1; data_blocks = [] }

it_fits : unit_fits whole ≡ true
unfolding is_name is_keyword keyword_of
it_fits = refl

its_outline :
    outline whole
    ≡ codes "function f n\n"
    ++ codes ". seq 3\n"
    ++ codes ".0 if (eq n 0)\n"
    ++ codes ".0.0 return 0\n"
    ++ codes ".0.1 skip\n"
    ++ codes ".1 call $0 f (wrapu (sub n 1))\n"
    ++ codes ".2 return (wrapu (add $0 1))\n"
    ++ codes "function main n\n"
    ++ codes ". seq 3\n"
    ++ codes ".0 call - f n\n"
    ++ codes ".1 return 0\n"
    ++ codes ".2 return 0\n"
its_outline = simp (d0, d1, d2, d3) refl

-- ---- terms and conditions as text

-- int i, unsigned i, unsigned u, and the second of them
abbrev g : CoreFunctionTree
g = record {
  name = codes "g";
  parameters = [];
  variables =
      record { name = codes "i"; ordinal = 1; scalar = scalars.Int }
      ∷ record { name = codes "i"; ordinal = 2; scalar = scalars.Unsigned }
      ∷ [];
  temporaries = [];
  blocks = [];
  result_type = None;
  body = stmts_of [];
}

abbrev i1 : CoreTermTree
i1 = CoreTermTree.variable scalars.Int 0

abbrev i2 : CoreTermTree
i2 = CoreTermTree.variable scalars.Unsigned 1

abbrev text : CoreTermTree → List ℕ
text t = term_or_mark g (Some t)

abbrev test : CoreConditionTree → List ℕ
test c = condition_or_mark g (Some c)

no_term : term_or_mark g None ≡ codes "?"
no_term = refl

no_condition : condition_or_mark g None ≡ codes "?"
no_condition = refl

a_number : text (number (pos 25)) ≡ codes "25"
a_number = d25

below_zero : text (number (negsuc 0)) ≡ codes "-1"
below_zero = simp d1 refl

first_of_its_name : text i1 ≡ codes "i"
first_of_its_name = refl

second_of_its_name : text i2 ≡ codes "i#2"
second_of_its_name = simp d2 refl

a_temporary : text (CoreTermTree.temporary scalars.Char 3) ≡ codes "$3"
a_temporary = simp d3 refl

a_sum : text (wrapped Signed (combined Add i1 i1)) ≡ codes "(wraps (add i i))"
a_sum = refl

a_difference : text (wrapped Unsigned (combined Subtract i2 (number (pos 1)))) ≡ codes "(wrapu (sub i#2 1))"
a_difference = simp (d1, d2) refl

a_remainder : text (remainder_of i1 256) ≡ codes "(sub i (mul 256 (div i 256)))"
a_remainder = simp d256 refl

comparisons_told :
    test (and (or (compared LessOrEqual i1 i1) (compared Less i1 i1)) (not (and (compared Equal i1 i1) (compared NotEqual i1 i1))))
    ≡ codes "(and (or (le i i) (lt i i)) (not (and (eq i i) (ne i i))))"
comparisons_told = refl

-- ---- switches

-- int f(int x) { switch (x) { case 1: return 5; case 2: x = 7; break; default: x = 9; } return x; }
abbrev x : CoreExprTree
x = variable scalars.Int 0

abbrev int : ℕ → CoreExprTree
int k = literal scalars.Int k

abbrev with_switch : CoreFunctionTree
with_switch = record {
  name = codes "f";
  parameters = record { name = codes "x"; place = Plain 0 } ∷ [];
  variables = record { name = codes "x"; ordinal = 1; scalar = scalars.Int } ∷ [];
  temporaries = [];
  blocks = [];
  result_type = Some scalars.Int;
  body = stmts_of (
      switch x (Case 1 0 ∷ Case 2 1 ∷ Default 3 ∷ [])
      (stmts_of (
      return (Some (int 5))
      ∷ assign (targets.Variable 0) (int 7)
      ∷ break
      ∷ assign (targets.Variable 0) (int 9)
      ∷ []))
      ∷ return (Some x)
      ∷ []);
}

outline_with_switch :
    outline_function [] with_switch
    ≡ codes "function f x\n"
    ++ codes ". seq 2\n"
    ++ codes ".0 switch x 1@0 2@1 default@3\n"
    ++ codes ".0.0 return 5\n"
    ++ codes ".0.1 assign x 7\n"
    ++ codes ".0.2 break\n"
    ++ codes ".0.3 assign x 9\n"
    ++ codes ".1 return x\n"
outline_with_switch = simp (d0, d1, d2, d3, d5, d7, d9) refl

-- -1 of an `int`, and 1 of an `unsigned`; an operand without a term
signed_label : switch_form g (variable scalars.Int 0) (Case 4294967295 0 ∷ []) ≡ codes "switch i -1@0"
signed_label = simp (d0, d1) refl

unsigned_label : switch_form g (variable scalars.Unsigned 1) (Case 1 0 ∷ []) ≡ codes "switch i#2 1@0"
unsigned_label = simp (d0, d1, d2) refl

no_term_of_the_operand : switch_form g (load scalars.Int (address_of (Data 0))) (Default 0 ∷ []) ≡ codes "switch ? default@0"
no_term_of_the_operand = simp d0 refl
