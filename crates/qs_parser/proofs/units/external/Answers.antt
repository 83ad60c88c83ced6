use Rattle.std.proofs.Common.{◌≡◌, false, rules}
use Rattle.qs_base.specs.declared.keyword.Keyword.TheVariants as keywords
use Rattle.qs_parser_grammar.specs.Heads.{starts_with}
use Rattle.qs_parser_grammar.specs.ParseMarked.{last}
use Rattle.qs_parser.proofs.CodeUnits.{plain_leaves}
use Rattle.qs_parser.proofs.units.external.Goals as goal

pub returns-clause-gives : goal.returns-clause-gives
returns-clause-gives c =
    let is : c.unread-2.result.now ≡ last c.args.left c.args.tokens.now.tokens.items = search rules in
    let none : starts_with keywords.Typedef c.unread-2.result.now ≡ false = search rules in
    plain_leaves c.args.context.room c.args.left c.args.tokens.now.tokens.items c.unread-2.result.now c.plain_external.result c.requires.within is none c.plain_external.ensures.few c.plain_external.ensures.gives
