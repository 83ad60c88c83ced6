use Rattle.std.proofs.Common.{◌≡◌, length, map, Ok, Err, rules}
use Rattle.qs_syntax.specs.TreeOf.{decl_tree}
use Rattle.qs_syntax.specs.UnitTrees.{unit_tree}
use Rattle.qs_parser_grammar.specs.Parse.{Unexpected, Deep}
use Rattle.qs_parser_grammar.proofs.UnitsSound.{stops_within}
use Rattle.qs_parser.specs.Answers.{ReadsAs, IsUnexpected, IsTooDeep}
use Rattle.qs_parser.specs.declared.syntax_fault.SyntaxFault.TheVariants as faults
use Rattle.qs_parser.proofs.Top.{is_read, are_few, reads_as, is_unexpected, is_too_deep, decided}
use Rattle.qs_parser.proofs.parse.unit_of.Goals as goal

pub numbered-requires-clause-read : goal.numbered-requires-clause-read
numbered-requires-clause-read c = is_read c.args.tokens.items (map decl_tree c.in-Ok.unnumbered.items) c.in-Ok._height c.requires.tokens c.in-Ok.ensures.gives

pub numbered-requires-clause-few : goal.numbered-requires-clause-few
numbered-requires-clause-few c = are_few c.args.tokens.items (map decl_tree c.in-Ok.unnumbered.items) c.in-Ok._height c.requires.few c.in-Ok.ensures.gives

pub returns-in_ok-numbered-in-Ok : goal.returns-in_ok-numbered-in-Ok
returns-in_ok-numbered-in-Ok c =
    let reads : ReadsAs c.args.tokens.items (unit_tree c.in_ok-numbered-in-Ok.field-0) =
    reads_as c.args.tokens.items (map decl_tree c.in-Ok.unnumbered.items) (map decl_tree c.in_ok-numbered-in-Ok.field-0.declarations.items) c.in-Ok._height c.in-Ok.ensures.gives c.in_ok-numbered-in-Ok.ensures in
    record { answers = reads; decides = decided c.args.tokens.items (Ok c.in_ok-numbered-in-Ok.field-0) reads }

pub number_of-requires-clause-within : goal.number_of-requires-clause-within
number_of-requires-clause-within c =
    let all : c.len-all.result ≡ length c.args.tokens.items = search rules in
    rw (c.in-Err-Unexpected.field-0-is, all) (stops_within c.args.tokens.items (Unexpected c.in-Err-Unexpected.left) (rw c.in-Err-Unexpected.field-0-is at c.in-Err-Unexpected.ensures.gives))

pub number_of-requires-in-Err-TooDeep-clause-within : goal.number_of-requires-in-Err-TooDeep-clause-within
number_of-requires-in-Err-TooDeep-clause-within c =
    let all : c.len-all.result ≡ length c.args.tokens.items = search rules in
    rw (c.in-Err-TooDeep.field-0-is, all) (stops_within c.args.tokens.items (Deep c.in-Err-TooDeep.left) (rw c.in-Err-TooDeep.field-0-is at c.in-Err-TooDeep.ensures.gives))

pub returns-in-Err-Unexpected : goal.returns-in-Err-Unexpected
returns-in-Err-Unexpected c =
    let all : c.len-all.result ≡ length c.args.tokens.items = search rules in
    let stands : IsUnexpected c.args.tokens.items c.number_of.result =
    is_unexpected c.args.tokens.items c.in-Err-Unexpected.left _ c.requires.tokens (rw c.in-Err-Unexpected.field-0-is at c.in-Err-Unexpected.ensures.gives) (rw (c.in-Err-Unexpected.field-0-is, all) at c.number_of.ensures) in
    record { answers = stands; decides = decided c.args.tokens.items (Err (faults.Unexpected c.number_of.result)) stands }

pub returns-in-Err-TooDeep : goal.returns-in-Err-TooDeep
returns-in-Err-TooDeep c =
    let all : c.len-all.result ≡ length c.args.tokens.items = search rules in
    let stands : IsTooDeep c.args.tokens.items c.number_of-in-Err-TooDeep.result =
    is_too_deep c.args.tokens.items c.in-Err-TooDeep.left _ c.requires.tokens (rw c.in-Err-TooDeep.field-0-is at c.in-Err-TooDeep.ensures.gives) (rw (c.in-Err-TooDeep.field-0-is, all) at c.number_of-in-Err-TooDeep.ensures) in
    record { answers = stands; decides = decided c.args.tokens.items (Err (faults.TooDeep c.number_of-in-Err-TooDeep.result)) stands }
