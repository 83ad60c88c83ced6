use Rattle.std.proofs.Common.{rules, ◌≡◌, ◌^◌, ◌++◌, ◌+◌, ◌∷◌, [], List, ◌∙◌, sym, ap, subst, drop, append_assoc, arith}
use Rattle.std.specs.Int.{w64}
use Rattle.std.proofs.lemmas.Int.{to_z-of_z}
use mir.Val.{SFits}
use Rattle.qs_poly.specs.declared.node.Node.{Node}
use Rattle.qs_poly.specs.declared.node.Node.TheVariants.{Coefficient}
use Rattle.qs_poly.specs.Codes.{monomial_code, polynomial_code}
use Rattle.qs_poly.specs.Terms.{sum_of, sum_of_terms, AllAtMost}
use Rattle.qs_poly.proofs.Bounds.{item_at_most}
use Rattle.qs_poly.proofs.CodeSteps.{term_coded, polynomial_ends}
use Rattle.qs_poly.proofs.LimitLaws.{narrow_at_most}
use Rattle.qs_poly.proofs.atom.push_polynomial.Goals as goal

pub narrow_coefficient-requires : goal.narrow_coefficient-requires
narrow_coefficient-requires c =
    let xs = c.terms-term-items.result.now in
    let e : sum_of xs ≡ c.args.poly.now = ap sum_of c.terms-term-items.ensures.terms ∙ sum_of_terms c.args.poly.now in
    let n = subst (AllAtMost (2 ^ 56)) (sym e) (narrow_at_most c.args.poly.now c.terms-term-items.ensures.polynomial.narrow) in
    record { narrow = item_at_most (2 ^ 56) xs c.loop-term.term-index c.term-item.result c.loop-term-test.true c.term-item.is n }

pub loop-term-preserved : goal.loop-term-preserved
loop-term-preserved c =
    let xs = c.terms-term-items.result.now in
    let i = c.loop-term.term-index in
    let d = c.term-item.result in
    let before = c.loop-term.nodes.items in
    let rest = polynomial_code (sum_of (drop (i + 1) xs)) in
    let m = monomial_code d.monomial in
    let head : List Node = Coefficient d.coefficient ∷ [] in
    let fits : SFits w64 c.narrow_coefficient.result = search rules in
    let e : c.push.new.self.items ≡ before ++ head = c.in_ok-push.ensures.items ∙ ap (λ z. before ++ (Coefficient z ∷ [])) (to_z-of_z w64 c.narrow_coefficient.result fits ∙ c.narrow_coefficient.ensures) in
    ap (λ ns. ns ++ rest) (c.in_ok-push_monomial.ensures ∙ ap (λ ns. ns ++ m) e)
    ∙ append_assoc (before ++ head) m rest
    ∙ append_assoc before head (m ++ rest)
    ∙ ap (λ ns. before ++ ns) (sym (term_coded xs i d c.loop-term-test.true c.term-item.is))
    ∙ c.loop-term.invariant

pub returns-clause-code : goal.returns-clause-code
returns-clause-code c =
    let xs = c.terms-term-items.result.now in
    let before = c.loop-term.nodes.items in
    c.in_ok-push-2.ensures.items
    ∙ ap (λ ns. before ++ ns) (sym (polynomial_ends xs c.loop-term.term-index (omega arith)))
    ∙ c.loop-term.invariant
    ∙ ap (λ p. c.args.nodes.now.items ++ polynomial_code p) (ap sum_of c.terms-term-items.ensures.terms ∙ sum_of_terms c.args.poly.now)
