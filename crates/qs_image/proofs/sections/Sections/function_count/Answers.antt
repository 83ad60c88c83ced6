use Rattle.std.proofs.Common.{ℕ, arith, ◌/◌, length, ap, sym, ◌∙◌}
use Rattle.qs_image.specs.Bytes.{record_bytes}
use Rattle.qs_image.proofs.Parts.{length-records}
use Rattle.qs_image.proofs.sections.Sections.function_count.Goals as goal

pub overflow_cast-result : goal.overflow_cast-result
overflow_cast-result c =
    let v = c.args.self.now.version in
    let table = c.args.self.now.table.now in
    let same = ap (λ (bytes : ℕ). length table / bytes) c.record_bytes.ensures.value in
    let count = length-records v (length table / record_bytes v) table c.args.self.now.names.now in
    omega arith

pub returns : goal.returns
returns c =
    let v = c.args.self.now.version in
    let table = c.args.self.now.table.now in
    ap (λ (bytes : ℕ). length table / bytes) c.record_bytes.ensures.value
    ∙ sym (length-records v (length table / record_bytes v) table c.args.self.now.names.now)
