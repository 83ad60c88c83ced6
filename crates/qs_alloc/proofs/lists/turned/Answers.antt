use Rattle.std.proofs.Common.{◌≡◌, ℕ, ◌<◌, ◌∙◌, ⊎_elim, arith, get_or, subst, sym, ap, List, length}
use Rattle.std.proofs.lemmas.Bool.{cases_eq}
use Rattle.std.specs.Prelude.{Contains}
use Rattle.std.proofs.lemmas.List.Elements.{Contains-get_or}
use Rattle.qs_alloc.specs.Rows.{row}
use Rattle.qs_alloc.proofs.Tests.{none_in_empty}
use Rattle.qs_alloc.proofs.RowLaws.{row_read, row_below, row_empty}
use Rattle.qs_alloc.proofs.lists.turned.Goals as goal

pub loop-t-init : goal.loop-t-init
loop-t-init c =
    let g = c.in_ok-grow.ensures in
    record {
      count = let e = g.size in let z = ap length c.new-needed.ensures.items in omega arith;
      there = λ u p l d. absurd (omega arith);
      from = λ u p d. absurd (none_in_empty u (subst (λ (xs : List ℕ). Contains xs u) (g.rows p ∙ row_empty _ p c.new-needed.ensures.items) d));
    }

pub list_one-requires : goal.list_one-requires
list_one-requires c =
    let t = c.loop-t.t in
    let l : t < length c.args.rows.now = omega arith in
    let at : row c.args.rows.now t ≡ c.deref.result.now = row_read c.args.rows.now t _ l c.index-rows-t.is ∙ sym c.deref.ensures.value in
    record { below = λ k m. let b = c.requires.below t (get_or c.deref.result.now k 0) (subst (λ (xs : List ℕ). Contains xs (get_or c.deref.result.now k 0)) (sym at) (Contains-get_or c.deref.result.now k 0 m)) in let e = c.loop-t.invariant.count in omega arith }

pub loop-t-preserved : goal.loop-t-preserved
loop-t-preserved c =
    let t = c.loop-t.t in
    let l : t < length c.args.rows.now = omega arith in
    let at : row c.args.rows.now t ≡ c.deref.result.now = row_read c.args.rows.now t _ l c.index-rows-t.is ∙ sym c.deref.ensures.value in
    let n = c.in_ok-list_one.ensures in
    let i = c.loop-t.invariant in
    record {
      count = n.count ∙ i.count;
      there = λ u p m d. ⊎_elim
          (λ (e : u ≡ t). subst (λ (j : ℕ). Contains (row c.list_one.new.needed.items p) j) (sym e) (n.there p (subst (λ (xs : List ℕ). Contains xs p) at (subst (λ (j : ℕ). Contains (row c.args.rows.now j) p) e d))))
          (λ (ne : u ≡ t → ⊥). n.keeps p u (i.there u p (omega arith) d))
          (cases_eq u t);
      from = λ u p d. ⊎_elim (λ x. i.from u p x) (λ x. subst (λ (j : ℕ). Contains (row c.args.rows.now j) p) (sym x.0) (subst (λ (xs : List ℕ). Contains xs p) (sym at) x.1)) (n.from p u d);
    }

pub returns : goal.returns
returns c =
    let i = c.loop-t.invariant in
    record {
      lists = i.count;
      there = λ t p d. let b = row_below c.args.rows.now t p d in i.there t p (omega arith) d;
      from = i.from;
    }
