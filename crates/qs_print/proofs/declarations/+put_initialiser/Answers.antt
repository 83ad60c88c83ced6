use Rattle.std.proofs.Common.{arith}
use Rattle.qs_syntax.specs.TreeOf.{initialiser_tree}
use Rattle.qs_print.specs.Printed.{printed_initialiser}
use Rattle.qs_print.proofs.Spaces.{commas_more, initialisers_list, last}
use Rattle.qs_print.proofs.Variants.{list_of_tree}
use Rattle.qs_print.proofs.declarations.+put_initialiser.Goals as goal

pub put_initialisers-loop-i-preserved : goal.put_initialisers-loop-i-preserved
put_initialisers-loop-i-preserved t c = record {
  start = λ e. cc;
  later = λ _. omega arith;
  written = commas_more printed_initialiser initialiser_tree c.args.items.now c.loop-i.i-index c.i-item.result c.loop-i.is_first (omega arith) c.i-item.is c.loop-i.invariant.start c.loop-i.invariant.later c.loop-i.invariant.written c.in_ok-put_comma_unless.ensures c.in_ok-put_initialiser.ensures;
}

pub put_initialiser-returns-in_ok-put_initialisers-in-List : goal.put_initialiser-returns-in_ok-put_initialisers-in-List
put_initialiser-returns-in_ok-put_initialisers-in-List t c = rw (c.in-List.is, list_of_tree, initialisers_list, ← c.deref.ensures.value) (last _ _ c.put_punctuator-in-List.result c.in_ok-put_punctuator-in-List.ensures (last _ _ c.put_punctuator-in-List.result c.in_ok-put_initialisers-in-List.ensures c.put_punctuator-in-List.ensures))
