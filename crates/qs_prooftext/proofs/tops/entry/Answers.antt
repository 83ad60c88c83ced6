use Rattle.std.proofs.Common.{sym}
use Rattle.qs_core.specs.TreeOf.{function_tree}
use Rattle.qs_prooftext.proofs.ListedLaws.{found_in}
use Rattle.qs_prooftext.proofs.TopLaws.{entry_found, function_at, gives_same}
use Rattle.qs_prooftext.proofs.tops.entry.Goals as goal

pub returns-in-Some-get : goal.returns-in-Some-get
returns-in-Some-get c = λ ss h.
    let found = found_in c.args.file.unit.now c.args.word.now c.deref.result.now c.in_ok-find_function.field-0 c.in-Some.f c.deref.ensures.value c.in_ok-find_function.ensures c.in-Some.is in
    let at = function_at c.args.file.unit.now c.deref-in-Some.result.now c.in-Some.f.0 c.get.result c.in-Some-get.function c.deref-in-Some.ensures.value c.get.ensures.lookup c.in-Some-get.is in
    gives_same _ c.known_entry.result _ _ (sym (entry_found c.args.file c.args.proofs.now c.args.at c.args.word.now ss c.in-Some.f.0 (function_tree c.in-Some-get.function.now) found at)) (c.known_entry.ensures ss h)
