use Rattle.std.proofs.Common.{◌≡◌, ◌+◌, ◌<◌, ◌∙◌, length, take, sym, ap, rules, arith, string_bytes}
use Rattle.std.proofs.lemmas.Grind.{common_steps}
use Rattle.std.proofs.lemmas.List.Sums.{fold_more}
use Rattle.qs_ports.specs.Memory.{files_in, no_files, with_entry, with_file}
use Rattle.qs_ports.proofs.ShelfChanges.{no_file_yet, puts_entry}
use Rattle.qs_ports.proofs.memory.shelf.Shelf.new.Goals as goal

pub loop-name-init : goal.loop-name-init
loop-name-init c = no_file_yet c.new-cells.result c.new-cells.ensures

pub loop-name-preserved : goal.loop-name-preserved
loop-name-preserved c =
    let entry = c.loop-name-item.result in
    let name : c.as_bytes.result.now ≡ string_bytes entry.0 = search rules in
    let content : c.deref.result.now ≡ entry.1.items = search rules in
    let inside : c.loop-name.name-index < length c.args.entries.now = c.loop-name-test.true in
    let before = files_in (take c.loop-name.name-index c.args.entries.now) in
    let more : files_in (take (c.loop-name.name-index + 1) c.args.entries.now) ≡ with_file before c.as_bytes.result.now c.deref.result.now =
    fold_more with_entry no_files c.args.entries.now c.loop-name.name-index entry inside
    ∙ ap (λ x. with_entry before x) (sym c.loop-name-item.is)
    ∙ ap (λ x. with_file before x entry.1.items) (sym name)
    ∙ ap (λ x. with_file before c.as_bytes.result.now x) (sym content)
    in
    let cells = c.loop-name.cells in
    let same : length cells.parts.items ≡ length cells.bytes.items = grind (arith, common_steps) in
    puts_entry cells c.start.new.self c.extend.new.self c.as_bytes.result.now c.deref.result.now c.in_ok-start.field-0 before _ c.in_ok-start.ensures.starts c.in_ok-extend.ensures.extends more c.loop-name.invariant same
