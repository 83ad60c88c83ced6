use Rattle.std.proofs.Common.{arith, ◌≡◌, length, ap, sym, ◌∙◌, ℤ, SFits, w64, to_z-of_z, rules}
use Rattle.qs_sexpr.specs.declared.node.Item.TheVariants as items
use Rattle.qs_prooftext_assertions.proofs.PartLaws.{none_at, number_at, symbol_at, list_at}
use Rattle.qs_prooftext_assertions.proofs.parts.part_of.Goals as goal

pub returns-in-empty : goal.returns-in-empty
returns-in-empty c = λ s h.
    let l : length c.args.nodes.now ≡ 0 = omega arith in
    none_at c.args.text.now c.args.nodes.now s h l

pub returns-in-Number : goal.returns-in-Number
returns-in-Number c = λ s h.
    let fits : SFits w64 c.in-Number.number = search rules in
    number_at c.args.text.now c.args.nodes.now s _ _ h (c.in-Number.is ∙ ap (λ (z : ℤ). items.Number z) (sym (to_z-of_z fits)))

pub returns-in-Symbol : goal.returns-in-Symbol
returns-in-Symbol c = λ s h.
    symbol_at c.args.text.now c.args.nodes.now s _ c.in-Symbol.bytes c.symbol_bytes.result.now h c.in-Symbol.is c.symbol_bytes.ensures

pub returns-in-List : goal.returns-in-List
returns-in-List c = λ s h.
    list_at c.args.text.now c.args.nodes.now s _ c.in-List.parts c.in-List.nodes c.parts_of_list.result.now h c.in-List.is c.parts_of_list.ensures
