use Rattle.std.proofs.Common.{◌≡◌, ◌∙◌, sym, ap, subst, take, drop}
use Rattle.qs_poly.specs.Operations.{insert_atom}
use Rattle.qs_poly.specs.Polynomials.{times}
use Rattle.qs_poly.specs.Views.{product_of}
use Rattle.qs_poly.specs.Terms.{atoms_before}
use Rattle.qs_poly.proofs.Steps.{product_insert}
use Rattle.qs_poly.proofs.monomial.insert_atom.Goals as goal

pub returns : goal.returns
returns c =
    let a = c.args.atom in
    let at = c.place_of_atom-at.result in
    let place = subst (λ xs. insert_atom a (product_of xs) ≡ atoms_before (take at xs) (times a (product_of (drop at xs)))) c.deref.ensures.value c.place_of_atom-at.ensures.place in
    ap product_of c.in_ok-insert.ensures.items ∙ product_insert c.args.atoms.now.items at a ∙ sym place
