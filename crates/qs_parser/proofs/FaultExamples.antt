-- Small lists with a fault, and which number it has.
use Rattle.std.proofs.Common.{◌≡◌, List, [], ◌∷◌, ◌++◌, Err, refl, arith}
use Rattle.qs_syntax_vocabulary.specs.declared.terminal.Terminal.{Terminal}
use Rattle.qs_syntax_vocabulary.specs.declared.terminal.Terminal.TheVariants.{Name, Keyword, Punctuator}
use Rattle.qs_base.specs.declared.keyword.Keyword.TheVariants as keywords
use Rattle.qs_base.specs.Keywords.{is_keyword, keyword_of}
use Rattle.qs_base.specs.Names.{is_name}
use Rattle.qs_syntax_vocabulary.specs.declared.punctuator.Punctuator.TheVariants as punctuators
use Rattle.qs_syntax.specs.Begins.{BeginsUnit, BeginsLowUnit}
use Rattle.qs_parser_grammar.specs.Parse.{Unexpected, type, stars}
use Rattle.qs_parser_grammar.specs.ParseDeclarations.{outer_type, given_lengths, lengths, declarator, variable, variables}
use Rattle.qs_parser_grammar.specs.ParseStatements.{plain, defined, type_names, external, externals, unit}
use Rattle.qs_parser.specs.Answers.{IsUnexpected, IsTooDeep}
use Rattle.qs_parser_grammar.proofs.BeginsExamples.{an_int_token, a_name, a_semicolon, a_parenthesis, a_declaration, parenthesis_is_unexpected, name_is_unexpected, nested, nested_is_deep, an_if, an_if_reads, else_is_unexpected}
use Rattle.qs_parser.proofs.Top.{is_unexpected, is_too_deep}

-- `int x )`: the parenthesis is unexpected, and the name is not
parenthesis_unexpected : IsUnexpected (an_int_token ∷ a_name ∷ a_parenthesis ∷ []) 2
unfolding is_name is_keyword keyword_of
parenthesis_unexpected = is_unexpected (an_int_token ∷ a_name ∷ a_parenthesis ∷ []) 1 2 refl parenthesis_is_unexpected refl

name_expected : IsUnexpected (an_int_token ∷ a_name ∷ a_parenthesis ∷ []) 1 → ⊥
name_expected fault = fault.not_with (omega arith) (record { rest = a_semicolon 2 ∷ []; height = 1; ds = a_declaration.0; reads = a_declaration.1 })

not_at_the_end : IsUnexpected (an_int_token ∷ a_name ∷ a_parenthesis ∷ []) 3 → ⊥
not_at_the_end fault = parenthesis_unexpected.not_with (omega arith) (record { rest = fault.before.rest; height = fault.before.height; ds = fault.before.ds; reads = fault.before.reads })

-- `int x`: the end is unexpected; behind `int x ;` it is not
end_unexpected : IsUnexpected (an_int_token ∷ a_name ∷ []) 2
unfolding is_name is_keyword keyword_of
end_unexpected = is_unexpected (an_int_token ∷ a_name ∷ []) 0 2 refl name_is_unexpected refl

end_expected : IsUnexpected (an_int_token ∷ a_name ∷ a_semicolon 2 ∷ []) 3 → ⊥
end_expected fault = fault.none 1 a_declaration.0 a_declaration.1

-- `int x = ((..`: the last of 127 parentheses is too deep, and the one before it is not
last_too_deep : IsTooDeep (nested 127) 129
unfolding is_name is_keyword keyword_of
last_too_deep = is_too_deep (nested 127) 1 129 refl (nested_is_deep [] refl) refl

begins_one : BeginsUnit (nested 127)
begins_one = last_too_deep.with

begins_none_that_is_low : BeginsLowUnit (nested 127) → ⊥
begins_none_that_is_low = last_too_deep.none

others_begin_low : BeginsLowUnit (nested 126)
others_begin_low = last_too_deep.before

one_before_is_not : IsTooDeep (nested 127) 128 → ⊥
one_before_is_not fault = fault.none others_begin_low

-- nor is a later one
one_later_is_not : IsTooDeep (nested 128) 130 → ⊥
one_later_is_not fault = begins_none_that_is_low fault.before

-- a bracket behind it is unexpected, but what is too deep is told
abbrev then_bracket : List Terminal
then_bracket = nested 127 ++ Punctuator 4 punctuators.CloseBracket ∷ []

too_deep_before_unexpected : IsTooDeep then_bracket 129
unfolding is_name is_keyword keyword_of
too_deep_before_unexpected = is_too_deep then_bracket 2 129 refl (nested_is_deep (Punctuator 4 punctuators.CloseBracket ∷ []) refl) refl

bracket_is_not_told : IsUnexpected then_bracket 130 → ⊥
bracket_is_not_told fault = begins_none_that_is_low fault.before

-- `int x(){if(x);else;else`: the second `else` is unexpected, and the first is not
second_else_unexpected : IsUnexpected (an_if ++ Keyword 12 keywords.Else ∷ []) 12
unfolding is_name is_keyword keyword_of
second_else_unexpected = is_unexpected (an_if ++ Keyword 12 keywords.Else ∷ []) 1 12 refl else_is_unexpected refl

first_else_expected : IsUnexpected (an_if ++ Keyword 12 keywords.Else ∷ []) 10 → ⊥
first_else_expected fault = fault.not_with (omega arith) (record { rest = a_semicolon 11 ∷ Punctuator 12 punctuators.CloseBrace ∷ []; height = 4; ds = an_if_reads.0; reads = an_if_reads.1 })

-- `typedef int T; int T`: the second T is the name of a type, which declares no variable; another name may stand there
abbrev a_type : List Terminal
a_type = Keyword 0 keywords.Typedef ∷ Keyword 1 keywords.Int ∷ Name 2 (84 ∷ []) ∷ a_semicolon 3 ∷ Keyword 4 keywords.Int ∷ []

type_name_is_unexpected : unit 126 (a_type ++ Name 5 (84 ∷ []) ∷ []) ≡ Err (Unexpected 1)
unfolding unit externals external plain defined type_names outer_type variables variable declarator type stars lengths given_lengths
type_name_is_unexpected = refl

type_name_unexpected : IsUnexpected (a_type ++ Name 5 (84 ∷ []) ∷ []) 5
unfolding is_name is_keyword keyword_of
type_name_unexpected = is_unexpected (a_type ++ Name 5 (84 ∷ []) ∷ []) 1 5 refl type_name_is_unexpected refl
