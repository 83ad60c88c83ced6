use Rattle.std.proofs.Common.{map, ap, ◌∙◌}
use Rattle.qs_core.specs.TreeOf.{function_tree}
use Rattle.qs_prooftext_meaning.specs.Contexts.{word_view}
use Rattle.qs_prooftext_meaning.specs.Settings.{Setting}
use Rattle.qs_prooftext.specs.Tops.{entry_parts_mean, parts_view}
use Rattle.qs_prooftext.proofs.TopLaws.{gives_same, new_setting}
use Rattle.qs_prooftext.proofs.tops.new_entry.Goals as goal

pub returns-clause-parts : goal.returns-clause-parts
returns-clause-parts c = λ ss h.
    gives_same parts_view c.read_entry.result _ _
    (ap (λ (g : Setting). entry_parts_mean g ss)
    (new_setting c.args.file c.args.proofs.now (function_tree c.args.function.now) c.deref.result.now c.deref-2.result.now c.returned.result c.deref.ensures.value (ap (map word_view) c.deref-2.ensures.value ∙ c.in_ok-words.ensures) c.returned.ensures))
    (c.read_entry.ensures.parts ss h)
