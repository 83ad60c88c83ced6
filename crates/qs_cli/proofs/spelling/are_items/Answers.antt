use Rattle.std.proofs.Common.{◌≡◌, true, arith, rules, map, string_bytes, refl, drop, ◌+◌, is_some, None}
use Rattle.qs_cli.specs.Words.{items_from, word_of}
use Rattle.qs_cli.specs.Reading.{waiting_of, is_shape}
use Rattle.qs_cli.proofs.Shapes.{loop_step, after_word}
use Rattle.qs_cli.proofs.spelling.are_items.Goals.{in-Plain, in-Assigned+else-waiting, in-Named+else-waiting-2}
use Rattle.qs_cli.proofs.spelling.are_items.Goals as goal

pub loop-word-preserved : goal.loop-word-preserved
loop-word-preserved c =
    let rest = map string_bytes (drop (c.loop-word.word-index + 1) c.args.words.now) in
    let shaped : is_shape c.shape_of.result (word_of (string_bytes c.word-item.result)) ≡ true = search rules in
    let step : after_word c.shape_of.result c.loop-word.waiting rest ≡ is_some (items_from rest (waiting_of c.match-shape_of.waiting)) =
    elim c.match-shape_of.branch [
      | in-Plain w ↦ rw (w.in-Plain.is, w.waiting-is) refl
      | in-Assigned+else-waiting w ↦ rw (w.in-Assigned.is, w.if-waiting.false, w.waiting-is, w.if-waiting.false) refl
      | in-Named+else-waiting-2 w ↦ rw (w.in-Named.is, w.if-waiting-2.false, w.waiting-is) refl
    ] in
    loop_step string_bytes c.args.words.now c.loop-word.word-index c.word-item.result (is_some (items_from (map string_bytes c.args.words.now) None))
    c.shape_of.result c.loop-word.waiting c.match-shape_of.waiting (omega arith) c.word-item.is shaped step c.loop-word.invariant
