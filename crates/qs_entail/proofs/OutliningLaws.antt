-- The outline of a condition is that of the conditions that are pushed for it.
use Rattle.std.proofs.Common.{◌≡◌, ◌+◌, refl, ap, ◌∙◌, sym, true, false, List, [], ◌∷◌, ◌++◌, append_assoc, append-nil, arith}
use Rattle.qs_assert.specs.Trees.{CondTree, le, lt, eq, ne, not, and, or, CondTrees, no_conds, cond_and}
use Rattle.qs_entail.specs.Flattening.{flat, flats, flat_list, polynomial_counts}
use Rattle.qs_entail.specs.Verdicts.{Outline, outline, outline_not, outline_all, outline_nots, outline_list}

abbrev adds : List CondTree → Outline → Outline
adds list o = record { conditions = o.conditions ++ list; count = o.count + polynomial_counts list }

counts-append : (xs ys : List CondTree) → polynomial_counts (xs ++ ys) ≡ polynomial_counts xs + polynomial_counts ys
counts-append [] ys = omega arith
counts-append (x ∷ xs) ys = omega (arith, counts-append xs ys)

adds-append : (xs ys : List CondTree) (o : Outline) → adds (xs ++ ys) o ≡ adds ys (adds xs o)
adds-append xs ys o =
    let counts : o.count + polynomial_counts (xs ++ ys) ≡ (o.count + polynomial_counts xs) + polynomial_counts ys = omega (arith, counts-append xs ys) in
    λ i. record { conditions = sym (append_assoc o.conditions xs ys) i; count = counts i }

adds_none : (o : Outline) → adds [] o ≡ o
adds_none o =
    let count : o.count + 0 ≡ o.count = omega arith in
    λ i. record { conditions = append-nil o.conditions i; count = count i }

mutual
  is_outline : (c : CondTree) (o : Outline) → adds (flat false c) o ≡ outline c o
  is_outline (le t u) o = refl
  is_outline (lt t u) o = refl
  is_outline (eq t u) o = refl
  is_outline (ne t u) o = refl
  is_outline (not c) o = is_outline_not c o
  is_outline (and cs) o = is_outline_all cs o
  is_outline (or cs) o = refl

  is_outline_not : (c : CondTree) (o : Outline) → adds (flat true c) o ≡ outline_not c o
  is_outline_not (le t u) o = refl
  is_outline_not (lt t u) o = refl
  is_outline_not (eq t u) o = refl
  is_outline_not (ne t u) o = refl
  is_outline_not (not c) o = is_outline c o
  is_outline_not (and cs) o = refl
  is_outline_not (or cs) o = is_outline_nots cs o

  is_outline_all : (cs : CondTrees) (o : Outline) → adds (flats false cs) o ≡ outline_all cs o
  is_outline_all no_conds o = adds_none o
  is_outline_all (cond_and c cs) o =
      adds-append (flat false c) (flats false cs) o ∙ (ap (adds (flats false cs)) (is_outline c o) ∙ is_outline_all cs (outline c o))

  is_outline_nots : (cs : CondTrees) (o : Outline) → adds (flats true cs) o ≡ outline_nots cs o
  is_outline_nots no_conds o = adds_none o
  is_outline_nots (cond_and c cs) o =
      adds-append (flat true c) (flats true cs) o ∙ (ap (adds (flats true cs)) (is_outline_not c o) ∙ is_outline_nots cs (outline_not c o))

list_is : (cs : List CondTree) (o : Outline) → adds (flat_list cs) o ≡ outline_list cs o
list_is [] o = adds_none o
list_is (c ∷ cs) o =
    adds-append (flat false c) (flat_list cs) o ∙ (ap (adds (flat_list cs)) (is_outline c o) ∙ list_is cs (outline c o))

-- of hypotheses, from the conditions and their count
pub outlined_is : (hypotheses list : List CondTree) (o : Outline) → list ≡ flat_list hypotheses → o.conditions ≡ list → o.count ≡ 1 + polynomial_counts list → o ≡ outline_list hypotheses (record { conditions = []; count = 1 })
outlined_is hypotheses list o e f g =
    let start : Outline = record { conditions = []; count = 1 } in
    let counts = g ∙ ap (λ (l : List CondTree). 1 + polynomial_counts l) e in
    let same : o ≡ adds (flat_list hypotheses) start = λ i. record { conditions = (f ∙ e) i; count = counts i } in
    same ∙ list_is hypotheses start
