use Rattle.std.proofs.Common.{◌≤◌, ◌+◌, length, refl, false, arith, sym, ◌∙◌}
use Rattle.qs_lexer.specs.Ends.{comment_turn}
use Rattle.qs_lexer.specs.declared.pieces.Piece.TheVariants.{White, Fault}
use Rattle.qs_lexer.specs.declared.fault.FaultKind.TheVariants.{OpenComment}
use Rattle.qs_lexer.proofs.Fronts.{end_within}
use Rattle.qs_lexer.proofs.ScanWhiteSpace.{block_ends, block_open}
use Rattle.qs_lexer.proofs.scan.block_comment.Goals as goal

pub overflow_add-result : goal.overflow_add-result
overflow_add-result c =
    let w : c.in-Some.n ≤ length c.split_at.result.1.now = end_within comment_turn false c.split_at.result.1.now c.in-Some.n (sym c.comment_end.ensures ∙ c.in-Some.is) in
    omega (arith, c.split_at.ensures.back_len)

pub returns-in-Some : goal.returns-in-Some
returns-in-Some c = λ fresh. block_ends fresh c.args.rest.now c.split_at.result.1.now c.in-Some.n (White (c.in-Some.n + 2) false) c.requires c.split_at.ensures.back (sym c.comment_end.ensures ∙ c.in-Some.is) refl

pub returns-in-None : goal.returns-in-None
returns-in-None c = λ fresh. block_open fresh c.args.rest.now c.split_at.result.1.now (Fault OpenComment) c.requires c.split_at.ensures.back (sym c.comment_end.ensures ∙ c.in-None.is) refl
