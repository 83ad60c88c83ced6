use Rattle.std.proofs.Common.{◌∙◌, arith, rules, sym, map}
use Rattle.qs_cli.specs.Numbers.{all_signed_of}
use Rattle.qs_cli.proofs.Arguments.{all_signed_step}
use Rattle.qs_cli.proofs.numbers.all_signed.Goals as goal

pub loop-part-preserved : goal.loop-part-preserved
loop-part-preserved c =
    all_signed_step (λ t. t.now) c.args.parts.now c.loop-part.part-index _ c.in-Some.number c.loop-part.numbers.items c.push.new.self.items
    (all_signed_of (map (λ t. t.now) c.args.parts.now)) (omega arith) (sym c.signed.ensures ∙ c.in-Some.is) (search rules) c.loop-part.invariant
