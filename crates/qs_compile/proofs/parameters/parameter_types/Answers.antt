use Rattle.std.proofs.Common.{◌≡◌, ℕ, List, ◌++◌, length, min, take, sym, ap, ◌∙◌, arith, append-nil}
use Rattle.std.proofs.Math.ListN.{drop_of_length-le}
use Rattle.qs_core.specs.declared.units.CoreVariable.{CoreVariable}
use Rattle.qs_compile.proofs.UnsignedLaws.{scalars_of, types_taken}
use Rattle.qs_compile.proofs.parameters.parameter_types.Goals as goal

pub returns : goal.returns
returns c =
    let f = c.args.f.now in
    let all = c.loop-variable.invariant in
    let none = drop_of_length-le (take c.min-count.result c.deref.result.now) c.loop-variable-test.false in
    let count : c.min-count.result ≡ min (length f.parameters.items) (length f.variables.items) = omega arith in
    sym (append-nil c.loop-variable.types.items)
    ∙ sym (ap (λ (vs : List CoreVariable). c.loop-variable.types.items ++ scalars_of vs) none)
    ∙ all
    ∙ ap (λ (n : ℕ). scalars_of (take n c.deref.result.now)) count
    ∙ ap (λ (vs : List CoreVariable). scalars_of (take (min (length f.parameters.items) (length f.variables.items)) vs)) c.deref.ensures.value
    ∙ types_taken f.parameters.items f.variables.items
