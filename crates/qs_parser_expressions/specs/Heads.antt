-- What tokens begin with.
use Rattle.std.specs.Prelude.{List, Bool, ◌||◌}
use Rattle.qs_syntax_vocabulary.specs.declared.terminal.Terminal.{Terminal}
use Rattle.qs_syntax_vocabulary.specs.declared.punctuator.Punctuator.TheVariants as punctuators
use Rattle.qs_base.specs.declared.keyword.Keyword.TheVariants as keywords
use Rattle.qs_parser_grammar.specs.Heads.{is_keyword, starts, starts_step}

-- a parenthesis or a step by one stands first
abbrev pub opens_or_steps : List Terminal → Bool
opens_or_steps ts = starts punctuators.OpenParenthesis ts || starts_step ts

-- `if`, `while`, `do`, `for` or `switch` stands here (C11 6.8.4, 6.8.5)
abbrev pub is_nesting : Terminal → Bool
is_nesting t = is_keyword keywords.If t || (is_keyword keywords.While t || (is_keyword keywords.Do t || (is_keyword keywords.For t || is_keyword keywords.Switch t)))
