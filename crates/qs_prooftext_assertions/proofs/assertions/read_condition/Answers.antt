use Rattle.std.proofs.Common.{Ok, sym, ◌∙◌, ap}
use Rattle.qs_assert.specs.Trees.{CondTree}
use Rattle.qs_prooftext_meaning.specs.Contexts.{setting_of}
use Rattle.qs_prooftext_assertions.specs.declared.sorts.Sort.TheVariants.{Condition}
use Rattle.qs_prooftext_assertions.proofs.AssertionLaws.{meant, meant_fault, passed_out}
use Rattle.qs_prooftext_assertions.proofs.assertions.read_condition.Goals as goal

pub from_nodes-requires : goal.from_nodes-requires
from_nodes-requires c =
    let t = c.requires in
    let m = meant (setting_of c.args.context) Condition t.0 c.in_ok-read.read.items (c.in_ok-read.ensures t.0 t.1) in
    (m.value, m.nodes_are)

pub returns : goal.returns
returns c = λ s h.
    let m = meant (setting_of c.args.context) Condition s c.in_ok-read.read.items (c.in_ok-read.ensures s h) in
    m.is_due ∙ ap (λ (a : CondTree). Ok a) (sym (c.from_nodes.ensures m.value m.nodes_are))

pub returns-in_err-read : goal.returns-in_err-read
returns-in_err-read c = λ s h.
    passed_out _ c.from_residual.result c.in_err-read.field-0.0 _ c.from_residual.ensures (meant_fault (setting_of c.args.context) Condition s c.in_err-read.field-0.0 (c.in_err-read.ensures s h))
