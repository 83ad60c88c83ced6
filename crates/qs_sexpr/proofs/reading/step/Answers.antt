use Rattle.std.proofs.Common.{arith, ◌<◌, length, ◌∷◌, [], ◌++◌, take, refl, ap, sym, ℤ, SFits, w64, to_z-of_z, rules}
use Rattle.std.proofs.lemmas.Bool.Decides.{nat_tests}
use Rattle.qs_sexpr.specs.Trees.{Sexp, number, symbol, node}
use Rattle.qs_sexpr.specs.declared.node.Item.TheVariants as items
use Rattle.qs_sexpr.specs.declared.pieces.Piece.TheVariants.{White, Open, Number, Symbol, BadByte}
use Rattle.qs_sexpr.proofs.ScanLaws.{open_acts}
use Rattle.qs_sexpr.proofs.StepLaws.{first_of, others_of, moves, fits, step_goes, symbol_node}
use Rattle.qs_sexpr.proofs.reading.step.Goals as goal

pub overflow_add-result : goal.overflow_add-result
overflow_add-result c =
    let m = moves c.args.rest.now c.first_piece.result (White c.in-White.more) c.requires.some c.first_piece.ensures c.in-White.is in
    let l = fits c.args.rest.now c.requires.some in
    omega (arith, m, l, c.requires.small)

pub overflow_add-result-in-Number : goal.overflow_add-result-in-Number
overflow_add-result-in-Number c =
    let m = moves c.args.rest.now c.first_piece.result (Number c.in-Number.more c.in-Number.number) c.requires.some c.first_piece.ensures c.in-Number.is in
    let l = fits c.args.rest.now c.requires.some in
    omega (arith, m, l, c.requires.small)

pub overflow_add-result-in-Symbol : goal.overflow_add-result-in-Symbol
overflow_add-result-in-Symbol c =
    let m = moves c.args.rest.now c.first_piece.result (Symbol c.in-Symbol.more) c.requires.some c.first_piece.ensures c.in-Symbol.is in
    let l = fits c.args.rest.now c.requires.some in
    omega (arith, m, l, c.requires.small)

pub overflow_cast-more : goal.overflow_cast-more
overflow_cast-more c =
    let m = moves c.args.rest.now c.first_piece.result (Symbol c.in-Symbol.more) c.requires.some c.first_piece.ensures c.in-Symbol.is in
    let l = fits c.args.rest.now c.requires.some in
    omega (arith, m, l, c.requires.small)

pub overflow_add-more : goal.overflow_add-more
overflow_add-more c =
    let m = moves c.args.rest.now c.first_piece.result (Symbol c.in-Symbol.more) c.requires.some c.first_piece.ensures c.in-Symbol.is in
    let l = fits c.args.rest.now c.requires.some in
    omega (arith, m, l, c.requires.small)

pub overflow_cast-result : goal.overflow_cast-result
overflow_cast-result c =
    let m = moves c.args.rest.now c.first_piece.result (BadByte c.in-BadByte.more) c.requires.some c.first_piece.ensures c.in-BadByte.is in
    let l = fits c.args.rest.now c.requires.some in
    omega (arith, m, l, c.requires.small)

pub overflow_add-result-in-BadByte : goal.overflow_add-result-in-BadByte
overflow_add-result-in-BadByte c =
    let m = moves c.args.rest.now c.first_piece.result (BadByte c.in-BadByte.more) c.requires.some c.first_piece.ensures c.in-BadByte.is in
    let l = fits c.args.rest.now c.requires.some in
    omega (arith, m, l, c.requires.small)

pub returns-in-White : goal.returns-in-White
returns-in-White c = λ outer done h.
    let m = moves c.args.rest.now c.first_piece.result (White c.in-White.more) c.requires.some c.first_piece.ensures c.in-White.is in
    step_goes outer outer done done c.args.at c.in-White.more c.args.rest.now c.first_piece.result (White c.in-White.more) c.args.reader.now c.args.reader.now c.requires.some c.first_piece.ensures c.in-White.is m (λ go. refl) h (omega arith)

pub returns-in_ok-put-in-Number : goal.returns-in_ok-put-in-Number
returns-in_ok-put-in-Number c = λ outer done h.
    let m = moves c.args.rest.now c.first_piece.result (Number c.in-Number.more c.in-Number.number) c.requires.some c.first_piece.ensures c.in-Number.is in
    let fits : SFits w64 c.in-Number.number = search rules in
    step_goes outer outer done (done ++ number c.args.at c.in-Number.number ∷ []) c.args.at c.in-Number.more c.args.rest.now c.first_piece.result (Number c.in-Number.more c.in-Number.number) c.args.reader.now c.put.new.self c.requires.some c.first_piece.ensures c.in-Number.is m (λ go. refl) (c.in_ok-put-in-Number.ensures.puts outer done (number c.args.at c.in-Number.number) h (ap (λ (z : ℤ). node c.args.at (items.Number z) ∷ []) (sym (to_z-of_z fits)))) c.in_ok-put-in-Number.ensures.few

pub returns-in_ok-put-in-Symbol : goal.returns-in_ok-put-in-Symbol
returns-in_ok-put-in-Symbol c = λ outer done h.
    let m = moves c.args.rest.now c.first_piece.result (Symbol c.in-Symbol.more) c.requires.some c.first_piece.ensures c.in-Symbol.is in
    let s : Sexp = symbol c.args.at (first_of c.args.rest.now ∷ take c.in-Symbol.more (others_of c.args.rest.now)) in
    step_goes outer outer done (done ++ s ∷ []) c.args.at c.in-Symbol.more c.args.rest.now c.first_piece.result (Symbol c.in-Symbol.more) c.args.reader.now c.put-in-Symbol.new.self c.requires.some c.first_piece.ensures c.in-Symbol.is m (λ go. refl) (c.in_ok-put-in-Symbol.ensures.puts outer done s h (symbol_node c.args.at (first_of c.args.rest.now) c.in-Symbol.more (others_of c.args.rest.now) m)) c.in_ok-put-in-Symbol.ensures.few

pub returns-in_ok-begin-in-Open : goal.returns-in_ok-begin-in-Open
returns-in_ok-begin-in-Open c = λ outer done h.
    let e = c.depth.ensures outer done h in
    let deep : length outer < 1024 = grind (arith, nat_tests, e, c.if-depth-ge-NESTING.false) in
    step_goes outer (record { place = c.args.at; before = done } ∷ outer) done [] c.args.at 0 c.args.rest.now c.first_piece.result Open c.args.reader.now c.begin.new.self c.requires.some c.first_piece.ensures c.in-Open.is (omega arith) (λ go. open_acts outer done c.args.at (first_of c.args.rest.now) (others_of c.args.rest.now) go deep) (c.in_ok-begin-in-Open.ensures.begins outer done h) c.in_ok-begin-in-Open.ensures.few
