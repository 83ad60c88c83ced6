use Rattle.std.proofs.Common.{arith}
use Rattle.qs_syntax.specs.TreeOf.{declarator_tree}
use Rattle.qs_print.specs.Printed.{printed_declarator}
use Rattle.qs_print.proofs.Spaces.{commas_more}
use Rattle.qs_print.proofs.declarations.put_declarators.Goals as goal

pub loop-d-preserved : goal.loop-d-preserved
loop-d-preserved c = record {
  start = λ e. cc;
  later = λ _. omega arith;
  written = commas_more printed_declarator declarator_tree c.args.declarators.now c.loop-d.d-index c.d-item.result c.loop-d.is_first (omega arith) c.d-item.is c.loop-d.invariant.start c.loop-d.invariant.later c.loop-d.invariant.written c.in_ok-put_comma_unless.ensures c.in_ok-put_declarator.ensures;
}
