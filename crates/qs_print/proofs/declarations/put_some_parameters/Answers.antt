use Rattle.std.proofs.Common.{arith}
use Rattle.qs_syntax.specs.TreeOf.{parameter_tree}
use Rattle.qs_print.specs.Printed.{printed_parameter}
use Rattle.qs_print.proofs.Spaces.{commas_more}
use Rattle.qs_print.proofs.declarations.put_some_parameters.Goals as goal

pub loop-p-preserved : goal.loop-p-preserved
loop-p-preserved c = record {
  start = λ e. cc;
  later = λ _. omega arith;
  written = commas_more printed_parameter parameter_tree c.args.parameters.now c.loop-p.p-index c.p-item.result c.loop-p.is_first (omega arith) c.p-item.is c.loop-p.invariant.start c.loop-p.invariant.later c.loop-p.invariant.written c.in_ok-put_comma_unless.ensures c.in_ok-put_parameter.ensures;
}
