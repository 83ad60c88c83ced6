use Rattle.std.proofs.Common.{◌≤◌, ◌+◌, length, refl, false, arith, sym, ap, ◌∙◌}
use Rattle.qs_lexer.specs.Ends.{end_of, quote_turn}
use Rattle.qs_lexer.specs.Literals.{character_of}
use Rattle.qs_lexer.specs.Pieces.{token_or_fault}
use Rattle.qs_lexer.specs.declared.pieces.Piece.TheVariants.{Fault}
use Rattle.qs_lexer.specs.declared.fault.FaultKind.TheVariants.{OpenText}
use Rattle.qs_lexer.proofs.Fronts.{end_within}
use Rattle.qs_lexer.proofs.ScanTokens.{character_ends, character_open}
use Rattle.qs_lexer.proofs.scan.character.Goals as goal

within : (c : goal.In-Some) → c.in-Some.n + 1 ≤ length c.args.rest.now
within c =
    let w : c.in-Some.n ≤ length c.split_at.result.1.now = end_within (quote_turn 39) false c.split_at.result.1.now c.in-Some.n (sym c.quote_end.ensures ∙ c.in-Some.is) in
    omega (arith, c.split_at.ensures.back_len)

pub overflow_add-n : goal.overflow_add-n
overflow_add-n c = let w : c.in-Some.n + 1 ≤ length c.args.rest.now = within c in omega arith

pub split_at-requires-in-Some : goal.split_at-requires-in-Some
split_at-requires-in-Some c = within c

pub returns-in-Some : goal.returns-in-Some
returns-in-Some c = λ fresh. character_ends fresh c.args.rest.now c.in-Some.n c.token_or_fault.result c.requires
    (ap (end_of (quote_turn 39) false) (sym c.split_at.ensures.back) ∙ sym c.quote_end.ensures ∙ c.in-Some.is)
    (c.token_or_fault.ensures ∙ ap (token_or_fault (c.in-Some.n + 1)) (c.character_of.ensures ∙ ap character_of c.split_at-in-Some.ensures.front))

pub returns-in-None : goal.returns-in-None
returns-in-None c = λ fresh. character_open fresh c.args.rest.now (Fault OpenText)
    (ap (end_of (quote_turn 39) false) (sym c.split_at.ensures.back) ∙ sym c.quote_end.ensures ∙ c.in-None.is) refl
