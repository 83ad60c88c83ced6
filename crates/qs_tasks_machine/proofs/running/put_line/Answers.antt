use Rattle.std.proofs.Common.{◌≡◌, List, ℕ, [], ◌∷◌, ◌++◌, ap, ◌∙◌, subst}
use Rattle.hex.specs.Hex.{encode_lower}
use Rattle.qs_ports.specs.SinkView.{PutsAll}
use Rattle.qs_ports.proofs.Sinks.{then_puts}
use Rattle.qs_tasks_machine.proofs.RunLaws.{line_text}
use Rattle.qs_tasks_machine.proofs.running.put_line.Goals as goal

pub returns : goal.returns
returns g c =
    let u = c.unwrap.ensures in
    let written : c.encode_to_slice.new.output ≡ encode_lower c.as_slice.result.now = rw u at c.encode_to_slice.ensures.written in
    let digits : c.encode_to_slice.new.output ≡ encode_lower (c.args.byte ∷ []) = written ∙ ap (λ (l : List ℕ). encode_lower l) c.as_slice.ensures in
    let text = line_text c.args.byte c.encode_to_slice.new.output digits in
    subst (λ (l : List ℕ). PutsAll (g.K.Sink.view c.args.out.now) (g.K.Sink.view c.put_all-2.new.sink) (c.args.name.now ++ l) c.put_all-2.result) text
    (then_puts (g.K.Sink.view c.put_all-2.new.sink) _ c.put_all-2.result c.in_ok-put_all.ensures c.put_all-2.ensures)
