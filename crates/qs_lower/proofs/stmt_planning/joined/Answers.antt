use Rattle.std.proofs.Common.{◌≡◌, map, length, List, [], ◌∷◌, ◌++◌, true, false, None, refl, ap, sym, ◌∙◌, arith}
use Rattle.std.proofs.lemmas.List.{map-append}
use Rattle.std.specs.Vec.Iter.{into_iter_items}
use Rattle.qs_lower.specs.StmtPlans.{stmt_part, all_joined, joined_to, all_before}
use Rattle.qs_lower.specs.Ways.{option_way}
use Rattle.qs_lower.specs.declared.stmt_plans.StmtPlan.{StmtPlan}
use Rattle.qs_lower.proofs.PlanTrees.{if_ok_is}
use Rattle.qs_lower.proofs.JoinedLaws.{last_apart, ends_there, is_put, one_more}
use Rattle.qs_lower.proofs.stmt_planning.joined.Goals as goal

-- the last one apart
apart : (all front : List StmtPlan) (last : StmtPlan) → all ≡ front ++ last ∷ [] → all_joined (map stmt_part all) ≡ joined_to (map stmt_part front) (stmt_part last)
apart all front last h =
    ap (λ l. all_joined (map stmt_part l)) h ∙ ap all_joined (map-append stmt_part front (last ∷ [])) ∙ last_apart (map stmt_part front) (stmt_part last)

nothing_left : (l : List StmtPlan) → length l ≡ 0 → l ≡ []
nothing_left [] h = refl
nothing_left (x ∷ xs) h = absurd (omega arith)

pub returns-then-ends : goal.returns-then-ends
returns-then-ends c =
    let at = c.loop-s in
    let kept = map stmt_part at.kept.items in
    let last = stmt_part c.in-Some.last in
    let s = stmt_part c.in-Some-s.s in
    let rest = joined_to (map stmt_part (into_iter_items c.next.new.self)) last in
    let steps : into_iter_items at.s-iterator ≡ c.in-Some-s.s ∷ into_iter_items c.next.new.self = c.in-Some-s.ensures.steps.0 in
    let ends : s.ends ≡ true = sym c.ends.ensures ∙ c.if-ends.true in
    let whole : all_before kept s ≡ all_joined (map stmt_part c.args.all.items) =
    ap (all_before kept) (sym (ap (λ l. joined_to (map stmt_part l) last) steps ∙ ends_there s rest ends))
    ∙ at.invariant.whole ∙ ap (λ l. joined_to (map stmt_part l) last) c.into_iter-s-iterator.ensures.into_iter_gives.0
    ∙ sym (apart c.args.all.items c.pop.new.self.items c.in-Some.last c.in-Some.ensures.items) in
    if_ok_is c.all_before.result stmt_part (all_before kept s) (all_joined (map stmt_part c.args.all.items)) whole c.all_before.ensures

pub loop-s-preserved-in-Continue-1 : goal.loop-s-preserved-in-Continue-1
loop-s-preserved-in-Continue-1 c =
    let at = c.loop-s in
    let kept = map stmt_part at.kept.items in
    let last = stmt_part c.in-Some.last in
    let s = stmt_part c.in-Some-s.s in
    let rest = joined_to (map stmt_part (into_iter_items c.next.new.self)) last in
    let steps : into_iter_items at.s-iterator ≡ c.in-Some-s.s ∷ into_iter_items c.next.new.self = c.in-Some-s.ensures.steps.0 in
    let ends : s.ends ≡ false = sym c.ends.ensures ∙ c.if-ends.false in
    let none : s.way ≡ None = sym c.way.ensures.way ∙ ap option_way c.in-None-way.is in
    let put : all_before kept (joined_to (map stmt_part (into_iter_items at.s-iterator)) last) ≡ all_before (kept ++ s ∷ []) rest =
    ap (all_before kept) (ap (λ l. joined_to (map stmt_part l) last) steps ∙ is_put s rest ends none) ∙ sym (one_more kept s rest) in
    let pushed : map stmt_part c.push.new.self.items ≡ kept ++ s ∷ [] =
    ap (map stmt_part) c.in_ok-push-in-None-way.ensures.items ∙ map-append stmt_part at.kept.items (c.in-Some-s.s ∷ []) in
    record {
      whole = ap (λ l. all_before l rest) pushed ∙ sym put ∙ at.invariant.whole;
      count =
          let was = at.invariant.count in
          let gone = c.in-Some-s.ensures.steps.1 in
          let short = ap length steps in
          omega arith;
    }

pub returns : goal.returns
returns c =
    let at = c.loop-s in
    let kept = map stmt_part at.kept.items in
    let last = stmt_part c.in-Some.last in
    let none = c.in-None.ensures.steps in
    let empty : into_iter_items at.s-iterator ≡ [] = nothing_left (into_iter_items at.s-iterator) (sym at.invariant.count ∙ none.0) in
    let whole : all_before kept last ≡ all_joined (map stmt_part c.args.all.items) =
    sym (ap (λ l. all_before kept (joined_to (map stmt_part l) last)) empty)
    ∙ at.invariant.whole ∙ ap (λ l. joined_to (map stmt_part l) last) c.into_iter-s-iterator.ensures.into_iter_gives.0
    ∙ sym (apart c.args.all.items c.pop.new.self.items c.in-Some.last c.in-Some.ensures.items) in
    if_ok_is c.all_before-2.result stmt_part (all_before kept last) (all_joined (map stmt_part c.args.all.items)) whole c.all_before-2.ensures
