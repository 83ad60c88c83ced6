use Rattle.std.proofs.Common.{◌≡◌, ℕ, ◌*◌, length, arith, refl, ap, ◌∙◌, List}
use Rattle.qs_machine.proofs.Choices.{length-words_bytes}
use Rattle.qs_machine.proofs.Starts.{memory}
use Rattle.qs_machine.proofs.loading.load.Goals as goal

pub invariant_of-result : goal.invariant_of-result
invariant_of-result c =
    let image = c.args.image.now in
    let w = c.parameters.ensures.well_formed in
    let most_code = w.code_count.1 in
    let most_bytes = w.byte_count in
    let code : length c.in_ok-code_bytes.field-0.items ≡ 4 * length image.code = ap (λ (l : List ℕ). length l) c.in_ok-code_bytes.ensures ∙ length-words_bytes image.code in
    let pages = c.in_ok-data_pages.ensures in
    let stack = c.in_ok-stack_pages.ensures in
    let begins = pages.start in
    let ends = pages.end in
    let low = stack.start in
    record { code_fits = omega arith; data_begins = pages.start; data_fits = omega arith; stack_fits = omega arith; stack_ends = stack.end }

pub returns-clause-start : goal.returns-clause-start
returns-clause-start c = λ input.
    let image = c.args.image.now in
    let pages = c.in_ok-data_pages.ensures in
    let stack = c.in_ok-stack_pages.ensures in
    record {
      loaded = record { instructions = c.in_ok-instructions.ensures; code = c.in_ok-code_bytes.ensures; bytes = pages.end; stack = stack.start };
      at = rw (memory image c.in_ok-code_bytes.field-0.items c.in_ok-data_pages.field-0 c.in_ok-stack_pages.field-0 c.in_ok-code_bytes.ensures pages.bytes stack.zeros, ← c.at_start.ensures, ← c.entry.ensures.value) refl;
      going = refl;
    }
