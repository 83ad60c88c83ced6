use Rattle.std.proofs.Common.{◌≡◌, ◌++◌, ◌∷◌, [], ◌∙◌, ap, map, rules}
use Rattle.qs_memory.specs.Memory.{byte}
use Rattle.qs_meaning.specs.InitialValues.{text_cells}
use Rattle.qs_syntax.specs.TreeOf.{expr_tree}
use Rattle.qs_types.specs.TypeOf.{type_tree}
use Rattle.qs_typed_units.specs.CellsOf.{cell_tree}
use Rattle.qs_typed_units.proofs.DataOrder.{text_taken}
use Rattle.qs_typed_nodes.proofs.Loops.{pushed}
use Rattle.qs_typed_units.proofs.constants.array_cells.Goals as goal

pub returns : goal.returns
returns c =
    let first : map cell_tree c.push_bytes.new.cells.items ≡ map byte c.in_ok-text.text.now = search rules in
    let all : map cell_tree c.push.new.self.items ≡ text_cells c.in_ok-text.text.now = pushed cell_tree c.push.new.self.items c.push_bytes.new.cells.items _ c.in_ok-push.ensures.items ∙ ap (λ xs. xs ++ byte 0 ∷ []) first in
    text_taken (type_tree c.args.of.now) (expr_tree c.args.e.now) c.in_ok-text.text.now c.length_in.result c.truncate.new.self.items c.push.new.self.items c.in_ok-text.ensures c.length_in.ensures
    c.truncate.ensures.items all
