use Rattle.std.proofs.Common.{◌≡◌, ◌^◌, ◌∙◌, sym, ap, subst}
use Rattle.std.specs.Prelude.{pos, ◌-ℤ◌}
use mir.Val.{to_z, of_z}
use Rattle.std.specs.Int.{w128}
use Rattle.qs_poly.specs.Canonical.{IsCanonical}
use Rattle.qs_poly.specs.Polynomials.{one}
use Rattle.qs_poly.specs.Operations.{insert_term, sum, multiple}
use Rattle.qs_poly.specs.Terms.{sum_of, AllAtMost}
use Rattle.qs_poly.proofs.Coefficients.{sum_canonical, multiple_canonical}
use Rattle.qs_poly.proofs.DifferenceLaws.{negative_is, scaled_small, added_small, lessened_is}
use Rattle.qs_poly.proofs.sums.less_terms.Goals as goal

pub add_terms-requires-clause-small : goal.add_terms-requires-clause-small
add_terms-requires-clause-small c =
    let k = c.args.k in
    let q = sum_of c.args.others.now in
    let e : sum_of c.in_ok-so_far.so_far.items ≡ multiple (pos 0 -ℤ pos k) q = c.in_ok-so_far.ensures ∙ ap (λ z. multiple z q) (negative_is k c.negative.result c.ranges.k.fits c.negative.ensures) in
    subst (AllAtMost (2 ^ 120)) (sym e) (scaled_small k q c.ranges.k.fits c.requires.narrow_others)

pub insert_term-requires-clause-all_small : goal.insert_term-requires-clause-all_small
insert_term-requires-clause-all_small c =
    let k = c.args.k in
    let q = sum_of c.args.others.now in
    let e : sum_of c.in_ok-so_far.so_far.items ≡ multiple (pos 0 -ℤ pos k) q = c.in_ok-so_far.ensures ∙ ap (λ z. multiple z q) (negative_is k c.negative.result c.ranges.k.fits c.negative.ensures) in
    let s = subst (AllAtMost (2 ^ 120)) (sym e) (scaled_small k q c.ranges.k.fits c.requires.narrow_others) in
    subst (AllAtMost (2 ^ 125)) (sym c.in_ok-add_terms.ensures) (added_small c.args.terms.now (sum_of c.in_ok-so_far.so_far.items) c.requires.few c.requires.narrow_terms s)

pub add_terms-requires-clause-canonical : goal.add_terms-requires-clause-canonical
add_terms-requires-clause-canonical c =
    let k = c.args.k in
    let q = sum_of c.args.others.now in
    let e : sum_of c.in_ok-so_far.so_far.items ≡ multiple (pos 0 -ℤ pos k) q = c.in_ok-so_far.ensures ∙ ap (λ z. multiple z q) (negative_is k c.negative.result c.ranges.k.fits c.negative.ensures) in
    subst IsCanonical (sym e) (multiple_canonical (pos 0 -ℤ pos k) q c.requires.canonical_others)

pub insert_term-requires-clause-canonical : goal.insert_term-requires-clause-canonical
insert_term-requires-clause-canonical c =
    let k = c.args.k in
    let p = sum_of c.args.terms.now in
    let q = sum_of c.args.others.now in
    let e : sum_of c.in_ok-so_far.so_far.items ≡ multiple (pos 0 -ℤ pos k) q = c.in_ok-so_far.ensures ∙ ap (λ z. multiple z q) (negative_is k c.negative.result c.ranges.k.fits c.negative.ensures) in
    subst IsCanonical (sym (c.in_ok-add_terms.ensures ∙ ap (sum p) e)) (sum_canonical p (multiple (pos 0 -ℤ pos k) q) c.requires.canonical_terms (multiple_canonical (pos 0 -ℤ pos k) q c.requires.canonical_others))

pub returns : goal.returns
returns c =
    let k = c.args.k in
    let p = sum_of c.args.terms.now in
    let q = sum_of c.args.others.now in
    let e : sum_of c.in_ok-so_far.so_far.items ≡ multiple (pos 0 -ℤ pos k) q = c.in_ok-so_far.ensures ∙ ap (λ z. multiple z q) (negative_is k c.negative.result c.ranges.k.fits c.negative.ensures) in
    let f : sum_of c.add_terms.new.so_far.items ≡ sum p (multiple (pos 0 -ℤ pos k) q) = c.in_ok-add_terms.ensures ∙ ap (sum p) e in
    c.in_ok-insert_term.ensures
    ∙ ap (λ m. insert_term (to_z w128 (of_z w128 c.negative-2.result)) m (sum_of c.add_terms.new.so_far.items)) c.one.ensures
    ∙ ap (λ z. insert_term z one (sum_of c.add_terms.new.so_far.items)) (negative_is c.args.c c.negative-2.result c.ranges.c.fits c.negative-2.ensures)
    ∙ ap (λ r. insert_term (pos 0 -ℤ pos c.args.c) one r) f
    ∙ lessened_is p q k c.args.c c.requires.canonical_terms c.requires.canonical_others
