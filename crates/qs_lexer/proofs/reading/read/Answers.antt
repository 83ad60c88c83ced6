use Rattle.std.proofs.Common.{arith, ◌-◌, length}
use Rattle.qs_lexer.specs.declared.pieces.Piece.TheVariants.{End, White, Token}
use Rattle.qs_lexer.proofs.ReadingSteps.{starts, steps_white, steps_token, steps_fault, steps_move, Moves}
use Rattle.qs_lexer.proofs.reading.read.Goals as goal

white_moves : (c : goal.In-White) → Moves (length c.args.text.now - c.loop-at.at) (White c.in-White.n c.in-White.still)
white_moves c = steps_move c.args.text.now c.split_at.result.1.now c.loop-at.fresh c.loop-at.at c.next.result (White c.in-White.n c.in-White.still) c.split_at.ensures.back c.next.ensures c.in-White.is

pub loop-at-init : goal.loop-at-init
loop-at-init c = (omega arith, starts c.args.text.now c.new-list.result.items c.new-list.ensures.items)

pub returns-in-End : goal.returns-in-End
returns-in-End c =
    let m = steps_move c.args.text.now c.split_at.result.1.now c.loop-at.fresh c.loop-at.at c.next.result End c.split_at.ensures.back c.next.ensures c.in-End.is in
    absurd (omega (arith, m, c.loop-at-test.true))

pub overflow_add-at : goal.overflow_add-at
overflow_add-at c = let m = white_moves c in omega (arith, m.0, m.1, c.loop-at.invariant.0)

pub loop-at-smaller-in-White : goal.loop-at-smaller-in-White
loop-at-smaller-in-White c = let m = white_moves c in omega (arith, m.0, m.1, c.loop-at.invariant.0, c.loop-at-test.true)

pub loop-at-preserved-in-White : goal.loop-at-preserved-in-White
loop-at-preserved-in-White c =
    let m = white_moves c in
    (omega (arith, m.0, m.1, c.loop-at.invariant.0), steps_white c.args.text.now c.split_at.result.1.now c.loop-at.list.items c.loop-at.fresh c.in-White.still c.loop-at.at c.in-White.n c.next.result c.loop-at.invariant.1 c.split_at.ensures.back c.next.ensures c.in-White.is)

pub overflow_add-at-in-Token : goal.overflow_add-at-in-Token
overflow_add-at-in-Token c =
    let m = steps_move c.args.text.now c.split_at.result.1.now c.loop-at.fresh c.loop-at.at c.next.result (Token c.in-Token.n c.in-Token.kind) c.split_at.ensures.back c.next.ensures c.in-Token.is in
    omega (arith, m.0, m.1, c.loop-at.invariant.0)

pub overflow_cast-at-in-Token : goal.overflow_cast-at-in-Token
overflow_cast-at-in-Token c =
    let m = steps_move c.args.text.now c.split_at.result.1.now c.loop-at.fresh c.loop-at.at c.next.result (Token c.in-Token.n c.in-Token.kind) c.split_at.ensures.back c.next.ensures c.in-Token.is in
    omega (arith, m.0, m.1, c.loop-at.invariant.0)

pub overflow_add-at-in-Token-2 : goal.overflow_add-at-in-Token-2
overflow_add-at-in-Token-2 c =
    let m = steps_move c.args.text.now c.split_at.result.1.now c.loop-at.fresh c.loop-at.at c.next.result (Token c.in-Token.n c.in-Token.kind) c.split_at.ensures.back c.next.ensures c.in-Token.is in
    omega (arith, m.0, m.1, c.loop-at.invariant.0)

pub loop-at-smaller : goal.loop-at-smaller
loop-at-smaller c =
    let m = steps_move c.args.text.now c.split_at.result.1.now c.loop-at.fresh c.loop-at.at c.next.result (Token c.in-Token.n c.in-Token.kind) c.split_at.ensures.back c.next.ensures c.in-Token.is in
    omega (arith, m.0, m.1, c.loop-at.invariant.0, c.loop-at-test.true)

pub loop-at-preserved : goal.loop-at-preserved
loop-at-preserved c =
    let m = steps_move c.args.text.now c.split_at.result.1.now c.loop-at.fresh c.loop-at.at c.next.result (Token c.in-Token.n c.in-Token.kind) c.split_at.ensures.back c.next.ensures c.in-Token.is in
    (omega (arith, m.0, m.1, c.loop-at.invariant.0), steps_token c.args.text.now c.split_at.result.1.now c.loop-at.list.items c.push.new.self.items c.loop-at.fresh c.loop-at.at c.in-Token.n c.in-Token.kind c.next.result c.loop-at.invariant.1 c.split_at.ensures.back c.next.ensures c.in-Token.is c.in_ok-push-in-Token.ensures.items)

pub returns-in-Fault : goal.returns-in-Fault
returns-in-Fault c = steps_fault c.args.text.now c.split_at.result.1.now c.loop-at.list.items c.loop-at.fresh c.loop-at.at c.in-Fault.kind c.next.result c.at.result c.loop-at.invariant.1 c.split_at.ensures.back c.next.ensures c.in-Fault.is c.at.ensures
