use Rattle.std.proofs.Common.{arith}
use Rattle.qs_syntax.specs.TreeOf.{variable_tree}
use Rattle.qs_print.specs.Printed.{printed_variable}
use Rattle.qs_print.proofs.Spaces.{commas_more}
use Rattle.qs_print.proofs.declarations.put_variables.Goals as goal

pub loop-v-preserved : goal.loop-v-preserved
loop-v-preserved c = record {
  start = λ e. cc;
  later = λ _. omega arith;
  written = commas_more printed_variable variable_tree c.args.variables.now c.loop-v.v-index c.v-item.result c.loop-v.is_first (omega arith) c.v-item.is c.loop-v.invariant.start c.loop-v.invariant.later c.loop-v.invariant.written c.in_ok-put_comma_unless.ensures c.in_ok-put_variable.ensures;
}
