use Rattle.std.proofs.Common.{◌≡◌, ℕ, List, ◌∙◌, sym, ap, subst, ⊎_elim, arith, Some}
use Rattle.std.specs.Prelude.{Contains}
use Rattle.std.specs.List.{slice_get}
use Rattle.std.proofs.lemmas.Bool.{cases_eq}
use Rattle.std.proofs.lemmas.Option.{slice_get_read}
use Rattle.qs_alloc.specs.Rows.{row, Names, keys_of}
use Rattle.qs_alloc.proofs.Tests.{none_in_empty}
use Rattle.qs_alloc.proofs.RowLaws.{some_same, get_below, row_empty}
use Rattle.qs_alloc.proofs.rows.rows_of.Goals as goal

pub loop-index-init : goal.loop-index-init
loop-index-init c =
    let g = c.in_ok-grow.ensures in
    record {
      enough = let e = g.size in omega arith;
      names = λ k q x. absurd (none_in_empty q (subst (λ (xs : List ℕ). Contains xs q) (g.rows k ∙ row_empty _ k c.new-rows.ensures.items) x));
      named = λ k q l n. absurd (omega arith);
    }

pub loop-index-preserved : goal.loop-index-preserved
loop-index-preserved c =
    let n = c.in_ok-note_keys.ensures in
    let i = c.loop-index.invariant in
    let here : slice_get c.args.code.now c.loop-index.index ≡ Some c.index-code-index.result = search (slice_get_read, c.index-code-index.is, c.loop-index-test.true) in
    record {
      enough = let l = n.longer in let e = i.enough in omega (arith, l, e);
      names = λ k q x. ⊎_elim (λ y. i.names k q y) (λ y. subst (Names c.args.side c.args.code.now k) (sym y.1) (record { instruction = c.index-code-index.result; here = here; key = y.0 })) (n.from k q x);
      named = λ k q l m. ⊎_elim
          (λ (e : q ≡ c.loop-index.index). subst (Contains (row _ k)) (sym e)
          (n.there k
          (subst (λ j. Contains (keys_of c.args.side c.loop-index.index j) k)
          (some_same _ _ (sym m.here ∙ ap (slice_get c.args.code.now) e ∙ here))
          (subst (λ (p : ℕ). Contains (keys_of c.args.side p m.instruction) k) e m.key))))
          (λ (ne : q ≡ c.loop-index.index → ⊥). n.keeps k q (i.named k q (omega arith) m))
          (cases_eq q c.loop-index.index);
    }

pub returns : goal.returns
returns c =
    let i = c.loop-index.invariant in
    record {
      enough = i.enough;
      names = i.names;
      named = λ k p m. let b = get_below c.args.code.now p m.instruction m.here in i.named k p (omega arith) m;
    }
