-- Small lists that begin a unit, or none: each is shown, or computed by the parser.
use Rattle.std.proofs.Common.{◌≡◌, ℕ, zero, suc, false, Ok, Err, Some, List, [], ◌∷◌, ◌++◌, length, refl, ◌∙◌, arith, ◌==◌, ap}
use Rattle.std.proofs.lemmas.Bool.{eqb-true, false_from_ne_true}
use Rattle.qs_syntax_vocabulary.specs.declared.terminal.Terminal.{Terminal}
use Rattle.qs_syntax_vocabulary.specs.declared.terminal.Terminal.TheVariants.{Name, Keyword, Punctuator}
use Rattle.qs_base.specs.declared.keyword.Keyword.TheVariants as keywords
use Rattle.qs_syntax_vocabulary.specs.declared.punctuator.Punctuator.TheVariants as punctuators
use Rattle.qs_syntax.specs.ReadsTypes.{no_prefix, no_const, an_int, an_outer_type, no_star, a_plain_name}
use Rattle.qs_syntax.specs.ReadsDeclarations.{no_length, are_given, a_declarator, an_unset_variable, a_last_variable, an_outer_declaration}
use Rattle.qs_syntax.specs.ReadsUnits.{some_variables, ReadsUnit, a_last_external, a_plain_external}
use Rattle.qs_syntax.specs.declared.types.Base.TheVariants as bases
use Rattle.qs_syntax.specs.Trees.{unnumbered, expr, name, empty, branch, else_by, no_stmts, stmt_and, DeclTree, function}
use Rattle.qs_syntax.specs.Begins.{BeginsUnit, BeginsLowUnit}
use Rattle.qs_syntax.specs.Reads.{Form, Assignment, Expression}
use Rattle.qs_parser_grammar.specs.Heads.{begins_type}
use Rattle.qs_parser_grammar.specs.Parse.{Stop, Unexpected, Deep, Parse, E, stars, primary, suffixes, unary_of_all, operations, climb, commas, expression, part}
use Rattle.qs_parser_grammar.specs.ParseDeclarations.{outer_type, given_lengths, lengths, declarator, initialiser, variable, variables, head}
use Rattle.qs_parser_grammar.specs.ParseStatements.{items, statement, external, externals, unit, plain}
use Rattle.qs_parser_grammar.proofs.UnitsSound.{reads_whole}
use Rattle.qs_parser_grammar.proofs.FaultPlaces.{no_unit}
use Rattle.qs_syntax_vocabulary.specs.Marks.{marked}
use Rattle.qs_parser_grammar.proofs.MarkLaws.{as_many}

-- int
abbrev pub an_int_token : Terminal
an_int_token = Keyword 0 keywords.Int

-- x
abbrev pub a_name : Terminal
a_name = Name 1 (120 ∷ [])

abbrev pub a_semicolon : ℕ → Terminal
a_semicolon at = Punctuator at punctuators.Semicolon

abbrev pub a_parenthesis : Terminal
a_parenthesis = Punctuator 2 punctuators.CloseParenthesis

-- `int x;` is a unit of height 1
pub a_declaration : (ds : List DeclTree) × ReadsUnit 1 (an_int_token ∷ a_name ∷ a_semicolon 2 ∷ []) ds
a_declaration = (
  _,
  a_last_external (a_plain_external (some_variables (an_outer_declaration {xs = an_int_token ∷ []} {ys = a_name ∷ []} 2 (an_outer_type {xs = []} {ys = an_int_token ∷ []} {zs = []} no_prefix (an_int 0) no_const)
      (a_last_variable (an_unset_variable (a_declarator {xs = []} {ys = []} no_star (a_plain_name 1 (120 ∷ [])) (are_given no_length))))))),
)

-- `int` begins it, and so does all of it
pub type_begins : BeginsUnit (an_int_token ∷ [])
type_begins = record { rest = a_name ∷ a_semicolon 2 ∷ []; height = 1; ds = a_declaration.0; reads = a_declaration.1 }

pub declaration_begins_low : BeginsLowUnit (an_int_token ∷ a_name ∷ a_semicolon 2 ∷ [])
declaration_begins_low = record { rest = []; height = 1; ds = a_declaration.0; reads = a_declaration.1; low = omega arith }

-- a semicolon begins none, nor does `int x )`
semicolon_begins_none : BeginsUnit (a_semicolon 0 ∷ []) → ⊥
unfolding unit externals external plain outer_type
semicolon_begins_none = no_unit 126 (a_semicolon 0 ∷ []) [] refl

parenthesis_ends_none : BeginsUnit (an_int_token ∷ a_name ∷ a_parenthesis ∷ []) → ⊥
unfolding unit externals external plain outer_type stars variables variable declarator lengths given_lengths
parenthesis_ends_none = no_unit 126 (an_int_token ∷ a_name ∷ a_parenthesis ∷ []) [] refl

-- so many opening parentheses
abbrev pub opening : ℕ → List Terminal
opening zero = []
opening (suc n) = Punctuator 3 punctuators.OpenParenthesis ∷ opening n

-- int x = ((..
abbrev pub nested : ℕ → List Terminal
nested n = an_int_token ∷ a_name ∷ Punctuator 2 punctuators.Assign ∷ opening n

not_zero : (m : ℕ) → (suc m == 0) ≡ false
not_zero m = false_from_ne_true (suc m == 0) (λ e. let z : suc m ≡ 0 = eqb-true (suc m) 0 e in omega arith)

-- what is told inside two parentheses is told of them, where there is room
inside : (m : ℕ) (p : Form → Parse E) (us : List Terminal) (stop : Stop) → p Expression (Punctuator 3 punctuators.OpenParenthesis ∷ us) ≡ Err stop → expression (suc m) p Expression (opening 2 ++ us) ≡ Err stop
unfolding expression unary_of_all primary
inside m p us stop e = rw (e, not_zero m) refl

inside_assignment : (m : ℕ) (p : Form → Parse E) (us : List Terminal) (stop : Stop) → p Expression (Punctuator 3 punctuators.OpenParenthesis ∷ us) ≡ Err stop → expression (suc m) p Assignment (opening 2 ++ us) ≡ Err stop
unfolding expression unary_of_all primary
inside_assignment m p us stop e = rw (e, not_zero m) refl

deep_at_once : (p : Form → Parse E) (rest : List Terminal) → begins_type rest ≡ false → expression 0 p Expression (opening 1 ++ rest) ≡ Err (Deep (suc (length rest)))
unfolding expression unary_of_all primary
deep_at_once p rest no_type = rw no_type refl

-- the last of so many is too deep for a part that is at most so high
deep_in_part : (k : ℕ) (rest : List Terminal) → begins_type rest ≡ false → part (suc k) Expression (opening (suc k) ++ rest) ≡ Err (Deep (suc (length rest)))
unfolding part
deep_in_part zero rest no_type = deep_at_once (part 0) rest no_type
deep_in_part (suc k) rest no_type = inside k (part (suc k)) (opening k ++ rest) (Deep (suc (length rest))) (deep_in_part k rest no_type)

deep_assignment : (rest : List Terminal) → begins_type rest ≡ false → part 127 Assignment (opening 127 ++ rest) ≡ Err (Deep (suc (length rest)))
unfolding part
deep_assignment rest no_type = inside_assignment 125 (part 126) (opening 125 ++ rest) (Deep (suc (length rest))) (deep_in_part 125 rest no_type)

-- what is told of an initialiser is told of the unit
told_of_initialiser : (us : List Terminal) (stop : Stop) → part 127 Assignment (Punctuator 3 punctuators.OpenParenthesis ∷ marked [] us) ≡ Err stop → unit 126 (nested 1 ++ us) ≡ Err stop
unfolding unit externals external plain outer_type stars variables variable declarator lengths given_lengths initialiser
told_of_initialiser us stop e = rw e refl

-- parentheses have no marks
opening_marked : (n : ℕ) (rest : List Terminal) → marked [] (opening n ++ rest) ≡ opening n ++ marked [] rest
opening_marked zero rest = refl
opening_marked (suc n) rest = ap (λ l. Punctuator 3 punctuators.OpenParenthesis ∷ l) (opening_marked n rest)

-- the last of 127 is too deep there
pub nested_is_deep : (rest : List Terminal) → begins_type (marked [] rest) ≡ false → unit 126 (nested 127 ++ rest) ≡ Err (Deep (suc (length rest)))
nested_is_deep rest no_type =
    told_of_initialiser (opening 126 ++ rest) (Deep (suc (length rest)))
    (ap (λ l. part 127 Assignment (Punctuator 3 punctuators.OpenParenthesis ∷ l)) (opening_marked 126 rest) ∙ deep_assignment (marked [] rest) no_type ∙ ap (λ n. Err (Deep (suc n))) (as_many [] rest))

-- what is told of `int x` and of `int x )`
pub name_is_unexpected : unit 126 (an_int_token ∷ a_name ∷ []) ≡ Err (Unexpected 0)
unfolding unit externals external plain outer_type stars variables variable declarator lengths given_lengths
name_is_unexpected = refl

pub parenthesis_is_unexpected : unit 126 (an_int_token ∷ a_name ∷ a_parenthesis ∷ []) ≡ Err (Unexpected 1)
unfolding unit externals external plain outer_type stars variables variable declarator lengths given_lengths
parenthesis_is_unexpected = refl

-- int x(){if(x);else;
abbrev pub an_if : List Terminal
an_if =
    an_int_token ∷ a_name ∷ Punctuator 2 punctuators.OpenParenthesis ∷ Punctuator 3 punctuators.CloseParenthesis ∷ Punctuator 4 punctuators.OpenBrace ∷ Keyword 5 keywords.If ∷ Punctuator 6 punctuators.OpenParenthesis ∷ Name 7 (120 ∷ [])
    ∷ Punctuator 8 punctuators.CloseParenthesis ∷ a_semicolon 9 ∷ Keyword 10 keywords.Else ∷ a_semicolon 11 ∷ []

an_if_is_read : unit 126 (an_if ++ Punctuator 12 punctuators.CloseBrace ∷ []) ≡ Ok (
  (
    function (record {
      node = unnumbered 0;
      result_type = record { base = bases.Int; stars = 0 };
      name = 120 ∷ [];
      parameters = [];
      body = Some (stmt_and (branch (unnumbered 5) (expr (unnumbered 7) (name (120 ∷ []))) (empty (unnumbered 9)) (else_by (empty (unnumbered 11)))) no_stmts);
    }) ∷ [],
    4,
  ),
  [],
)
unfolding unit externals external plain outer_type stars head items statement part expression primary suffixes unary_of_all operations climb commas
an_if_is_read = refl

-- with a brace behind it, it is a unit
pub an_if_reads : (ds : List DeclTree) × ReadsUnit 4 (an_if ++ Punctuator 12 punctuators.CloseBrace ∷ []) ds
an_if_reads = (_, (reads_whole (an_if ++ Punctuator 12 punctuators.CloseBrace ∷ []) _ 4 an_if_is_read).0)

-- a second `else` is told
pub else_is_unexpected : unit 126 (an_if ++ Keyword 12 keywords.Else ∷ []) ≡ Err (Unexpected 1)
unfolding unit externals external plain outer_type stars head items statement part expression primary suffixes unary_of_all operations climb commas
else_is_unexpected = refl
