use Rattle.std.proofs.Common.{◌≡◌, ◌++◌, Some, map, sym, ap, ◌∙◌}
use Rattle.qs_syntax.specs.TreeOf.{decl_tree}
use Rattle.qs_types.specs.References.{literal_blocks}
use Rattle.qs_typing_findings.specs.TypedOf.{typed_tree}
use Rattle.qs_meaning.specs.InitialValues.{text_block}
use Rattle.qs_typed_units.specs.KnownBlocks.{blocks_known}
use Rattle.qs_typed_units.specs.KnownPrograms.{functions_known}
use Rattle.qs_typed_units.specs.TablesOf.{tables_tree}
use Rattle.qs_typed_trees.specs.TreeOf.{function_tree, static_block_tree}
use Rattle.qs_typed.proofs.UnitTrees.{is_numbered, program_is}
use Rattle.qs_typed.proofs.unit.typed_program.Goals as goal

pub returns : goal.returns
returns c =
    let unit = typed_tree c.args.typed.now in
    let t = tables_tree c.in_ok-t.t in
    let fs = map function_tree c.in_ok-functions.functions.items in
    let bs = map static_block_tree c.in_ok-blocks.blocks.items in
    let ds : map decl_tree c.declarations-ds.result.now ≡ unit = c.declarations-ds.ensures ∙ c.unit.ensures in
    let texts : (bs ++ map text_block (literal_blocks unit)) ≡ map static_block_tree c.add_texts.new.blocks.items = ap (λ ts. bs ++ map text_block ts) (sym c.texts.ensures) ∙ sym c.in_ok-add_texts.ensures in
    program_is unit (is_numbered c.args.typed.now) t c.in_ok-t.ensures fs (ap (functions_known t) (sym ds) ∙ c.in_ok-functions.ensures) bs (ap (blocks_known t) (sym ds) ∙ c.in_ok-blocks.ensures)
    ∙ (λ i. Some (record { functions = fs; blocks = texts i }))
