use Rattle.std.proofs.Common.{arith, map}
use Rattle.qs_syntax.specs.TreeOf.{decl_tree}
use Rattle.qs_print.specs.Printed.{printed_unit}
use Rattle.qs_print.proofs.ReadsBackLaws.{reads_back}
use Rattle.qs_print.proofs.Spaces.{finished}
use Rattle.qs_print.proofs.units.print.Goals as goal

pub returns : goal.returns
returns c =
    let written = rw (c.new-out.ensures.items, c.declarations.ensures) at c.in_ok-put_unit.ensures in
    let text = finished (printed_unit (map decl_tree c.args.unit.now.declarations.items)) c.put_unit.new.out.items c.pop-blank.new.self.items c.push.new.self.items c.put_unit.new.out.len written c.pop-blank.ensures.rest (omega arith) c.in_ok-push.ensures.items in
    record { reads_back = reads_back c.push.new.self.items (map decl_tree c.args.unit.now.declarations.items) text c.args.unit.now.is_read; text = text }
