use Rattle.std.proofs.Common.{arith, Bool, List, length, sym, ap, subst}
use Rattle.qs_callgraph.proofs.MemberLaws.{written_back}
use Rattle.qs_core.specs.UnitTrees.{unit_tree}
use Rattle.qs_prooftext.specs.Listed.{ListsLeft, Marks}
use Rattle.qs_prooftext_meaning.specs.Proofs.{entry_names_of}
use Rattle.qs_prooftext.proofs.ListedLaws.{lists_end, lists_go}
use Rattle.qs_prooftext.proofs.listed.listed_functions.Goals as goal

pub tops-preserved : goal.tops-preserved
tops-preserved c =
    let u = unit_tree c.args.unit.now in
    let back = written_back c.tops.flags c.mark.new.flags c.deref_mut.result.now c.mark.auto.flags c.deref_mut.ensures.value in
    let b = ap length back in
    let l = c.mark.auto.flags in
    let v = ap length c.deref_mut.ensures.value in
    let m = c.tops.invariant.as_many in
    record {
      as_many = omega (arith, b, l, v, m);
      left = λ ss h.
          subst (λ (fs : List Bool). ListsLeft u c.args.text.now c.in-Some.others.now fs ss) (sym back)
          (lists_go u c.args.text.now c.tops.rest.now c.in-Some.first.now c.in-Some.others.now c.tops.flags.items c.mark.new.flags ss (c.tops.invariant.left ss h) c.in-Some.ensures
          (λ s k. subst (λ (fs : List Bool). Marks u (entry_names_of s) fs c.mark.new.flags) c.deref_mut.ensures.value (c.in_ok-mark.ensures s k)));
    }

pub returns : goal.returns
returns c = λ ss h.
    lists_end (unit_tree c.args.unit.now) c.args.text.now c.tops.rest.now c.tops.flags.items ss (c.tops.invariant.left ss h) c.in_default.ensures
