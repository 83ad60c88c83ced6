-- A sample's source is a unit.
use Rattle.std.proofs.Common.{◌≡◌, ℕ, zero, suc, ◌+◌, ◌<◌, ◌≤◌, max, true, false, List, [], ◌∷◌, ◌++◌, codes, decimal, refl, ap, sym, ◌∙◌, subst, arith}
use Rattle.std.proofs.lemmas.List.{append_assoc}
use Rattle.std.specs.Fmt.{digits}
use Rattle.qs_base.specs.declared.keyword.Keyword.TheVariants as keywords
use Rattle.qs_syntax_vocabulary.specs.declared.operators.BinaryOperator.TheVariants.{Add, Remainder}
use Rattle.qs_syntax_vocabulary.specs.declared.punctuator.Punctuator.TheVariants as punctuators
use Rattle.qs_syntax_vocabulary.specs.declared.terminal.Terminal.{Terminal}
use Rattle.qs_syntax_vocabulary.specs.declared.terminal.Terminal.TheVariants.{Name, Keyword, Constant, Punctuator}
use Rattle.qs_syntax.specs.Numbering.{numbered, numbered_unit}
use Rattle.qs_syntax.specs.Reads.{Postfix, Level, Assignment, Reads, a_name, a_constant, a_call, a_postfix, an_operand, stronger, an_operation, a_plain_level, a_plain_conditional, a_plain_assignment, a_last_argument}
use Rattle.qs_syntax.specs.ReadsTypes.{no_prefix, an_int, no_const, a_type, an_outer_type, no_star}
use Rattle.qs_syntax.specs.ReadsDeclarations.{ReadsHead, are_given, no_length, a_named_parameter, a_last_parameter, a_void_head, some_parameters}
use Rattle.qs_syntax.specs.ReadsStatements.{something_there, an_expression, a_return, a_statement, no_item, an_item}
use Rattle.qs_syntax.specs.ReadsUnits.{ReadsExternal, ReadsUnit, a_last_external, an_external, a_plain_external, a_definition}
use Rattle.qs_syntax.specs.Trees.{unnumbered, ExprTree, expr, call, no_exprs, expr_and, FunctionTree, function, UnitTree}
use Rattle.qs_lexer.proofs.RestOfText.{LexesAs, Lexed, lexed, nothing_left}
use Rattle.qs_driver_session.specs.SampleSource.{calling, function_after, functions, main_function, sample_text}
use Rattle.qs_driver_session.specs.Source.{IsUnit}
use Rattle.qs_driver_session.proofs.SampleLexed.{int_then, int_within, main_then, void_then, putchar_then, return_then, x_then, blank_then, line_feed_then, name_then, plus_one_then, plus_f_then, percent_then, open_then, close_then, semicolon_then, block_then, block_end_then, zero_then, one_then, ten_then, zero_character_then}
use Rattle.qs_driver_session.proofs.SampleTrees.{function_name, next, the_next, parameter, function_of, MainNodes, digit, main_of, IsTail, the_main, a_function, tail_relabelled}
use Rattle.qs_driver_session.proofs.SampleTrees as trees

-- ---- expressions

as_level_0 : {h : ℕ} {ts : List Terminal} {e : ExprTree} → Reads Postfix h ts e → Reads (Level 0) h ts e
as_level_0 r = an_operand (a_postfix r)

as_level_1 : {h : ℕ} {ts : List Terminal} {e : ExprTree} → Reads Postfix h ts e → Reads (Level 1) h ts e
as_level_1 r = stronger (as_level_0 r)

-- from the sums on
sum_as_assignment : {h : ℕ} {ts : List Terminal} {e : ExprTree} → Reads (Level 2) h ts e → Reads Assignment h ts e
sum_as_assignment r = a_plain_conditional (a_plain_level (stronger (stronger (stronger (stronger (stronger (stronger (stronger (stronger r)))))))))

as_assignment : {h : ℕ} {ts : List Terminal} {e : ExprTree} → Reads Postfix h ts e → Reads Assignment h ts e
as_assignment r = sum_as_assignment (stronger (as_level_1 r))

-- `x+1`
a_next : (at plus one : ℕ) → Reads Assignment 2 (Name at (codes "x") ∷ Punctuator plus punctuators.Plus ∷ Constant one 1 false ∷ []) (next (unnumbered at) (unnumbered at) (unnumbered one))
a_next at plus one = sum_as_assignment (an_operation Add plus refl (stronger (as_level_1 (a_name at (codes "x")))) (as_level_1 (a_constant one 1 false)))

-- ---- what is behind

-- these bytes, at the begin of a line, are so many functions behind j others and then main, and nothing more
record Lines (bytes : List ℕ) (number j left : ℕ) : Type 0 where
  ls : List Terminal
  lexes : LexesAs true bytes number ls
  height : ℕ
  low : height ≤ 10
  unit : UnitTree
  reads : ReadsUnit height ls unit
  shape : IsTail j left unit

abbrev AreLines : (bytes : List ℕ) → (j left : ℕ) → Type 0
AreLines bytes j left = (number : ℕ) → Lines bytes number j left

low_max : (h k : ℕ) → h ≤ 10 → k ≤ 10 → max h k ≤ 10
low_max h k l m = grind arith

-- so many tokens on
abbrev up : ℕ → ℕ → ℕ
up zero number = number
up (suc k) number = up k number + 1

-- ---- the first function

-- `(int x)` of these tokens
a_head : (at x : ℕ) → ReadsHead 1 (Keyword at keywords.Int ∷ Name x (codes "x") ∷ []) (parameter (unnumbered x) ∷ [])
a_head at x = some_parameters (a_last_parameter (a_named_parameter x (codes "x") (a_type no_const (an_int at) no_const) no_star (are_given no_length)))

abbrev next_height : ℕ
next_height = suc (max 1 1)

-- a function that returns a value of this height
abbrev function_height : ℕ → ℕ
function_height h = suc (max 1 (suc (max (suc h) 0)))

abbrev first_tokens : (t : ℕ) → List Terminal
first_tokens t =
    Keyword t keywords.Int ∷ Name (up 1 t) (function_name 1) ∷ Punctuator (up 2 t) punctuators.OpenParenthesis ∷ Keyword (up 3 t) keywords.Int
    ∷ Name (up 4 t) (codes "x") ∷ Punctuator (up 5 t) punctuators.CloseParenthesis ∷ Punctuator (up 6 t) punctuators.OpenBrace
    ∷ Keyword (up 7 t) keywords.Return ∷ Name (up 8 t) (codes "x") ∷ Punctuator (up 9 t) punctuators.Plus ∷ Constant (up 10 t) 1 false
    ∷ Punctuator (up 11 t) punctuators.Semicolon ∷ Punctuator (up 12 t) punctuators.CloseBrace ∷ []

abbrev first_tree : (t : ℕ) → FunctionTree
first_tree t = function_of (unnumbered t) (unnumbered (up 4 t)) (unnumbered (up 7 t)) 1 (next (unnumbered (up 8 t)) (unnumbered (up 8 t)) (unnumbered (up 10 t)))

first_reads : (t : ℕ) → ReadsExternal [] (function_height next_height) (first_tokens t) (function (first_tree t))
first_reads t =
    a_plain_external (a_definition (up 1 t) (up 2 t) (up 5 t) (up 6 t) (up 12 t) (function_name 1) (an_outer_type no_prefix (an_int t) no_const) no_star (a_head (up 3 t) (up 4 t))
    (an_item (a_statement (a_return (up 7 t) (up 11 t) (something_there (a_plain_assignment (a_next (up 8 t) (up 9 t) (up 10 t)))))) no_item))

first_lexes : (rest : List ℕ) (t : ℕ) {ls : List Terminal} → LexesAs true rest (up 13 t) ls
    → LexesAs true (codes "int " ++ (function_name 1 ++ (codes "(int x){return x+1;}" ++ 10 ∷ rest))) t (first_tokens t ++ ls)
first_lexes rest t on =
    int_then (blank_then (name_then 1 (omega arith) (open_then 105 (int_within (blank_then (x_then 41 refl (close_then 123 (block_then 114 (return_then (blank_then (x_then 43 refl (plus_one_then
    (one_then 59 refl (semicolon_then 125 (block_end_then 10 (line_feed_then on))))))))))))))))

a_first : (rest : List ℕ) (left : ℕ) → AreLines rest 1 left
    → AreLines (codes "int " ++ (function_name 1 ++ (codes "(int x){return x+1;}" ++ 10 ∷ rest))) 0 (suc left)
a_first rest left h t = record {
  ls = first_tokens t ++ (h (up 13 t)).ls;
  lexes = first_lexes rest t (h (up 13 t)).lexes;
  height = max (function_height next_height) (h (up 13 t)).height;
  low = low_max (function_height next_height) (h (up 13 t)).height (omega arith) (h (up 13 t)).low;
  unit = function (first_tree t) ∷ (h (up 13 t)).unit;
  reads = an_external (first_reads t) (h (up 13 t)).reads;
  shape = a_function _ _ _ 0 left _ _ (the_next _ _ _) (h (up 13 t)).shape;
}

-- ---- a function that calls another

abbrev calling_tokens : (k j t : ℕ) → List Terminal
calling_tokens k j t =
    Keyword t keywords.Int ∷ Name (up 1 t) (function_name k) ∷ Punctuator (up 2 t) punctuators.OpenParenthesis ∷ Keyword (up 3 t) keywords.Int
    ∷ Name (up 4 t) (codes "x") ∷ Punctuator (up 5 t) punctuators.CloseParenthesis ∷ Punctuator (up 6 t) punctuators.OpenBrace
    ∷ Keyword (up 7 t) keywords.Return ∷ Name (up 8 t) (function_name j) ∷ Punctuator (up 9 t) punctuators.OpenParenthesis
    ∷ Name (up 10 t) (codes "x") ∷ Punctuator (up 11 t) punctuators.Plus ∷ Constant (up 12 t) 1 false
    ∷ Punctuator (up 13 t) punctuators.CloseParenthesis ∷ Punctuator (up 14 t) punctuators.Semicolon ∷ Punctuator (up 15 t) punctuators.CloseBrace ∷ []

abbrev called_tree : (j t : ℕ) → ExprTree
called_tree j t = expr (unnumbered (up 8 t)) (call (function_name j) (expr_and (next (unnumbered (up 10 t)) (unnumbered (up 10 t)) (unnumbered (up 12 t))) no_exprs))

abbrev calling_tree : (k j t : ℕ) → FunctionTree
calling_tree k j t = function_of (unnumbered t) (unnumbered (up 4 t)) (unnumbered (up 7 t)) k (called_tree j t)

calling_reads : (k j t : ℕ) → ReadsExternal [] (function_height (suc next_height)) (calling_tokens k j t) (function (calling_tree k j t))
calling_reads k j t =
    a_plain_external (a_definition (up 1 t) (up 2 t) (up 5 t) (up 6 t) (up 15 t) (function_name k) (an_outer_type no_prefix (an_int t) no_const) no_star (a_head (up 3 t) (up 4 t))
    (an_item (a_statement (a_return (up 7 t) (up 14 t) (something_there (a_plain_assignment (as_assignment
    (a_call (up 8 t) (up 9 t) (up 13 t) (function_name j) (a_last_argument (a_next (up 10 t) (up 11 t) (up 12 t))))))))) no_item))

calling_lexes : (k j : ℕ) (rest : List ℕ) (t : ℕ) {ls : List Terminal} → k < 512 → j < 512 → LexesAs true rest (up 16 t) ls
    → LexesAs true (codes "int " ++ (function_name k ++ (codes "(int x){return " ++ (function_name j ++ (codes "(x+1);}" ++ 10 ∷ rest))))) t (calling_tokens k j t ++ ls)
calling_lexes k j rest t l m on =
    int_then (blank_then (name_then k l (open_then 105 (int_within (blank_then (x_then 41 refl (close_then 123 (block_then 114 (return_then (blank_then (name_then j m (open_then 120 (x_then 43 refl (plus_one_then
    (one_then 41 refl (close_then 59 (semicolon_then 125 (block_end_then 10 (line_feed_then on)))))))))))))))))))

a_calling : (j : ℕ) (rest : List ℕ) (left : ℕ) → suc (suc j) < 512 → AreLines rest (suc (suc j)) left
    → AreLines (codes "int " ++ (function_name (suc (suc j)) ++ (codes "(int x){return " ++ (function_name (suc j) ++ (codes "(x+1);}" ++ 10 ∷ rest))))) (suc j) (suc left)
a_calling j rest left l h t = record {
  ls = calling_tokens (suc (suc j)) (suc j) t ++ (h (up 16 t)).ls;
  lexes = calling_lexes (suc (suc j)) (suc j) rest t l (omega arith) (h (up 16 t)).lexes;
  height = max (function_height (suc next_height)) (h (up 16 t)).height;
  low = low_max (function_height (suc next_height)) (h (up 16 t)).height (omega arith) (h (up 16 t)).low;
  unit = function (calling_tree (suc (suc j)) (suc j) t) ∷ (h (up 16 t)).unit;
  reads = an_external (calling_reads (suc (suc j)) (suc j) t) (h (up 16 t)).reads;
  shape = a_function _ _ _ (suc j) left _ _ (trees.a_call _ _ _ _ j) (h (up 16 t)).shape;
}

-- ---- main

abbrev main_tokens : (n t : ℕ) → List Terminal
main_tokens n t =
    Keyword t keywords.Int ∷ Name (up 1 t) (codes "main") ∷ Punctuator (up 2 t) punctuators.OpenParenthesis ∷ Keyword (up 3 t) keywords.Void
    ∷ Punctuator (up 4 t) punctuators.CloseParenthesis ∷ Punctuator (up 5 t) punctuators.OpenBrace ∷ Name (up 6 t) (codes "putchar")
    ∷ Punctuator (up 7 t) punctuators.OpenParenthesis ∷ Constant (up 8 t) 48 false ∷ Punctuator (up 9 t) punctuators.Plus
    ∷ Name (up 10 t) (function_name n) ∷ Punctuator (up 11 t) punctuators.OpenParenthesis ∷ Constant (up 12 t) 0 false
    ∷ Punctuator (up 13 t) punctuators.CloseParenthesis ∷ Punctuator (up 14 t) punctuators.Percent ∷ Constant (up 15 t) 10 false
    ∷ Punctuator (up 16 t) punctuators.CloseParenthesis ∷ Punctuator (up 17 t) punctuators.Semicolon ∷ Keyword (up 18 t) keywords.Return
    ∷ Constant (up 19 t) 0 false ∷ Punctuator (up 20 t) punctuators.Semicolon ∷ Punctuator (up 21 t) punctuators.CloseBrace ∷ []

abbrev main_nodes : (t : ℕ) → MainNodes
main_nodes t = record {
  statement = unnumbered (up 6 t);
  put = unnumbered (up 6 t);
  sum = unnumbered (up 8 t);
  zero = unnumbered (up 8 t);
  rest = unnumbered (up 10 t);
  called = unnumbered (up 10 t);
  argument = unnumbered (up 12 t);
  ten = unnumbered (up 15 t);
  end = unnumbered (up 18 t);
  status = unnumbered (up 19 t);
}

abbrev digit_height : ℕ
digit_height = suc (max 1 (suc (max (suc 1) 1)))

abbrev main_height : ℕ
main_height = suc (max 0 (suc (max (suc (suc digit_height)) (max (suc 1) 0))))

a_digit : (n t : ℕ) → Reads (Level 2) digit_height
    (Constant (up 8 t) 48 false ∷ Punctuator (up 9 t) punctuators.Plus ∷ Name (up 10 t) (function_name n) ∷ Punctuator (up 11 t) punctuators.OpenParenthesis
    ∷ Constant (up 12 t) 0 false ∷ Punctuator (up 13 t) punctuators.CloseParenthesis ∷ Punctuator (up 14 t) punctuators.Percent ∷ Constant (up 15 t) 10 false ∷ [])
    (digit (main_nodes t) n)
a_digit n t =
    an_operation {j = 1} Add (up 9 t) refl (stronger (as_level_1 (a_constant (up 8 t) 48 false)))
    (an_operation {j = 0} Remainder (up 14 t) refl
    (as_level_1 (a_call (up 10 t) (up 11 t) (up 13 t) (function_name n) (a_last_argument (as_assignment (a_constant (up 12 t) 0 false)))))
    (as_level_0 (a_constant (up 15 t) 10 false)))

main_reads : (n t : ℕ) → ReadsExternal [] main_height (main_tokens n t) (function (main_of (unnumbered t) (main_nodes t) n))
main_reads n t =
    a_plain_external (a_definition (up 1 t) (up 2 t) (up 4 t) (up 5 t) (up 21 t) (codes "main") (an_outer_type no_prefix (an_int t) no_const) no_star (a_void_head (up 3 t))
    (an_item (a_statement (an_expression (up 17 t) (a_plain_assignment (as_assignment (a_call (up 6 t) (up 7 t) (up 16 t) (codes "putchar") (a_last_argument (sum_as_assignment (a_digit n t))))))))
    (an_item (a_statement (a_return (up 18 t) (up 20 t) (something_there (a_plain_assignment (as_assignment (a_constant (up 19 t) 0 false)))))) no_item)))

main_lexes : (n t : ℕ) → n < 512 → LexesAs true (codes "int main(void){putchar('0'+" ++ (function_name n ++ (codes "(0)%10);return 0;}" ++ 10 ∷ []))) t (main_tokens n t)
main_lexes n t l =
    int_then (blank_then (main_then (open_then 118 (void_then (close_then 123 (block_then 112 (putchar_then (open_then 39 (zero_character_then (plus_f_then (name_then n l (open_then 48 (zero_then 41 refl (close_then 37
    (percent_then (ten_then 41 refl (close_then 59 (semicolon_then 114 (return_then (blank_then (zero_then 59 refl (semicolon_then 125 (block_end_then 10 (line_feed_then (nothing_left true (up 22 t))))))))))))))))))))))))))

a_main : (n : ℕ) → n < 512 → AreLines (main_function n) n 0
a_main n l t = record {
  ls = main_tokens n t;
  lexes = main_lexes n t l;
  height = main_height;
  low = omega arith;
  unit = function (main_of (unnumbered t) (main_nodes t) n) ∷ [];
  reads = a_last_external (main_reads n t);
  shape = the_main (unnumbered t) (main_nodes t) n;
}

-- ---- the text

abbrev HoldsOfLines : (j left : ℕ) → List ℕ → Type 0
HoldsOfLines j left bytes = AreLines bytes j left

first_spelled : (rest : List ℕ) → function_after 0 ++ rest ≡ codes "int " ++ (function_name 1 ++ (codes "(int x){return x+1;}" ++ 10 ∷ rest))
unfolding digits
first_spelled rest = refl

calling_spelled : (k j : ℕ) (rest : List ℕ) → calling k j ++ rest ≡ codes "int " ++ (function_name k ++ (codes "(int x){return " ++ (function_name j ++ (codes "(x+1);}" ++ 10 ∷ rest))))
calling_spelled k j rest =
    ap (λ bytes. codes "int f" ++ bytes) (append_assoc (decimal k) (codes "(int x){return f" ++ (decimal j ++ (codes "(x+1);}" ++ 10 ∷ []))) rest
    ∙ ap (λ bytes. decimal k ++ (codes "(int x){return f" ++ bytes)) (append_assoc (decimal j) (codes "(x+1);}" ++ 10 ∷ []) rest))

a_function_after : (j : ℕ) (rest : List ℕ) (left : ℕ) → suc j < 512 → AreLines rest (suc j) left → AreLines (function_after j ++ rest) j (suc left)
a_function_after zero rest left l h = subst (HoldsOfLines 0 (suc left)) (sym (first_spelled rest)) (a_first rest left h)
a_function_after (suc j) rest left l h =
    let one_more : suc j + 1 ≡ suc (suc j) = omega arith in
    subst (HoldsOfLines (suc j) (suc left)) (sym (ap (λ k. calling k (suc j) ++ rest) one_more ∙ calling_spelled (suc (suc j)) (suc j) rest)) (a_calling j rest left l h)

all_lines : (j left total : ℕ) (rest : List ℕ) → j < 512 → j + left ≡ total → AreLines rest j left → AreLines (functions j ++ rest) 0 total
all_lines zero left total rest l e h = let same : left ≡ total = omega arith in subst (λ k. AreLines rest 0 k) same h
all_lines (suc j) left total rest l e h =
    subst (HoldsOfLines 0 total) (sym (append_assoc (functions j) (function_after j) rest))
    (all_lines j (suc left) total (function_after j ++ rest) (omega arith) (omega arith) (a_function_after j rest left l h))

-- ---- the unit

-- the source of the sample of this number is a unit whose tree has the form of samples
pub record IsSampleUnit (n : ℕ) : Type 0 where
  pub unit : IsUnit (sample_text n)
  pub shape : IsTail 0 n unit.trees

as_unit : (n : ℕ) → Lines (sample_text n) 0 0 n → IsSampleUnit n
as_unit n h =
    let l : Lexed (sample_text n) h.ls = lexed (sample_text n) h.ls h.lexes in
    let P : List Terminal → Type 0 = λ ts. ReadsUnit h.height ts h.unit in
    record {
      unit = record {
        tokens = l.tokens;
        are_tokens = l.are_tokens;
        trees = numbered_unit h.unit;
        reads = record { height = h.height; unnumbered = h.unit; reads = subst P (sym l.seen) h.reads; low = low h.height h.low; are_numbered = refl };
      };
      shape = tail_relabelled numbered h.shape 0;
    }
  where
    low : (k : ℕ) → k ≤ 10 → k ≤ 128
    low k l = omega arith

pub sample_is_unit : (n : ℕ) → n < 512 → IsSampleUnit n
sample_is_unit n l = as_unit n (all_lines n 0 n (main_function n) l (omega arith) (a_main n l) 0)
