-- Caps and measures, computed from the definitions.
use Rattle.std.proofs.Common.{◌≡◌, ℕ, List, [], ◌∷◌, refl}
use Rattle.std.specs.Prelude.{replicate}
use Rattle.qs_syntax.specs.declared.types.Base.TheVariants as bases
use Rattle.qs_syntax_vocabulary.specs.declared.operators.BinaryOperator.TheVariants as binaries
use Rattle.qs_syntax.specs.Numbering.{numbered_unit}
use Rattle.qs_syntax.specs.Trees.{ExprTree, ParameterTree, UnitTree}
use Rattle.qs_syntax.specs.Trees as trees
use Rattle.qs_meaning.proofs.Samples.{number, named, op, defined, parameter, main_}
use Rattle.qs_meaning.proofs.Samples as c
use Rattle.qs_elaborate_limits.specs.Caps.{frame_size, caps}
use Rattle.qs_elaborate_limits.specs.Measures.{bytes_in_words, data_end}

-- a return address alone takes a whole frame
a_return_address : frame_size 0 0 ≡ 16
a_return_address = refl

-- three values and the return address fill it, and a fourth doesn't fit
three_values : frame_size 0 3 ≡ 16
three_values = refl

four_values : frame_size 0 4 ≡ 32
four_values = refl

-- a `char` and a struct of five bytes, each in whole words
bytes_of_blocks : bytes_in_words (1 ∷ 5 ∷ []) ≡ 12
bytes_of_blocks = refl

-- nothing lies behind the last
end_of_data : data_end (1 ∷ 5 ∷ []) ≡ 9
end_of_data = refl

-- ---- int f(int a,int b,int c,int d,int e,int g,int h,int i,int j){return a-j;} int main(void){return f(9,0,0,0,0,0,0,0,2);}

abbrev int_parameters : List ℕ → List ParameterTree
int_parameters [] = []
int_parameters (x ∷ names) = parameter bases.Int 0 x ∷ int_parameters names

abbrev main_returns : ExprTree → UnitTree
main_returns e = numbered_unit (main_ (c.return e ∷ []) ∷ [])

abbrev nine_arguments : UnitTree
nine_arguments = numbered_unit (
    defined bases.Int 0 (102 ∷ []) (int_parameters (97 ∷ 98 ∷ 99 ∷ 100 ∷ 101 ∷ 103 ∷ 104 ∷ 105 ∷ 106 ∷ [])) (c.return (op binaries.Subtract (named 97) (named 106)) ∷ [])
    ∷ main_ (c.return (c.call 102 (replicate 9 (number 0))) ∷ [])
    ∷ [])

-- of f nine parameters and three expressions; of main ten expressions, and one argument past the eighth
caps_of_nine_arguments : caps nine_arguments ≡ 64 ∷ 96 ∷ []
caps_of_nine_arguments = refl

-- ---- calls of a function f

-- f(0, .., 0), with so many
abbrev f_of : (count : ℕ) → ExprTree
f_of count = c.call 102 (replicate count (number 0))

-- eleven expressions and two arguments past the eighth: 4 + 4 * (2 * 11 + 2) is 100
a_call_of_ten : caps (main_returns (f_of 10)) ≡ 112 ∷ []
a_call_of_ten = refl

-- seventeen and eight: 4 + 4 * (2 * 17 + 8) is 172
a_call_of_sixteen : caps (main_returns (f_of 16)) ≡ 176 ∷ []
a_call_of_sixteen = refl

-- one call's arguments have room where another's were: of f(f(0, .., 0), 0, .., 0) 33 expressions and eight arguments
a_call_in_a_call : caps (main_returns (c.call 102 (f_of 16 ∷ replicate 15 (number 0)))) ≡ 304 ∷ []
a_call_in_a_call = refl

-- sizeof f(0, .., 0), in which nothing is called when it runs: eighteen expressions and eight arguments
a_call_below_sizeof : caps (main_returns (c.e (trees.sizeof_expr (f_of 16)))) ≡ 192 ∷ []
a_call_below_sizeof = refl
