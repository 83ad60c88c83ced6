use Rattle.std.proofs.Common.{◌++◌, ◌+◌, ◌∙◌, sym, ap, drop, append_assoc, arith}
use Rattle.qs_poly.specs.Codes.{code, monomial_code}
use Rattle.qs_poly.specs.Views.{product_of, product_of_atoms}
use Rattle.qs_poly.proofs.CodeSteps.{atom_coded, monomial_ends}
use Rattle.qs_poly.proofs.atom.push_monomial.Goals as goal

pub loop-atom-preserved : goal.loop-atom-preserved
loop-atom-preserved c =
    let xs = c.atoms-atom-items.result.now in
    let i = c.loop-atom.atom-index in
    let d = c.atom-item.result in
    let before = c.loop-atom.nodes.items in
    let rest = monomial_code (product_of (drop (i + 1) xs)) in
    ap (λ ns. ns ++ rest) (c.in_ok-extend_from_slice.ensures.items ∙ ap (λ ns. before ++ ns) c.nodes.ensures)
    ∙ append_assoc before (code d) rest
    ∙ ap (λ ns. before ++ ns) (sym (atom_coded xs i d c.loop-atom-test.true c.atom-item.is))
    ∙ c.loop-atom.invariant

pub returns : goal.returns
returns c =
    let xs = c.atoms-atom-items.result.now in
    let before = c.loop-atom.nodes.items in
    c.in_ok-push.ensures.items
    ∙ ap (λ ns. before ++ ns) (sym (monomial_ends xs c.loop-atom.atom-index (omega arith)))
    ∙ c.loop-atom.invariant
    ∙ ap (λ m. c.args.nodes.now.items ++ monomial_code m) (ap product_of c.atoms-atom-items.ensures ∙ product_of_atoms c.args.monomial.now)
