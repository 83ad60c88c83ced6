use Rattle.std.proofs.Common.{◌≡◌, ◌⊎◌, inl, inr, ℕ, ◌<◌, ◌≤◌, true, false, nat_le, List, [], ◌∷◌, Option, length, map, option_map, drop, refl, sym, ap, ◌∙◌, arith}
use Rattle.std.proofs.lemmas.List.{drop_all, length-map, length-drop}
use Rattle.std.proofs.lemmas.Bool.{cases_lt}
use Rattle.std.proofs.lemmas.Bool.Decides.{nat_tests}
use Rattle.qs_types.specs.declared.types.CType.{CType}
use Rattle.qs_types.specs.Types.{TypeTree}
use Rattle.qs_types.specs.TypeOf.{type_tree}
use Rattle.qs_types.specs.UnitRules.{may_all_be}
use Rattle.qs_typing.proofs.functions.may_all_be.Goals as goal
use Rattle.qs_typing.proofs.functions.may_all_be.Goals.{then-loop-i-test+else-i-us, else-loop-i-test}

too_few : (ts : List TypeTree) (us : List (Option TypeTree)) → 0 < length ts → length us ≡ 0 → may_all_be ts us ≡ false
too_few [] us h e = absurd (omega arith)
too_few (t ∷ ts) [] h e = refl
too_few (t ∷ ts) (u ∷ us) h e = absurd (omega arith)

others_end : (ts : List CType) (us : List (Option CType)) (i : ℕ) → i < length ts → length us ≤ i
    → may_all_be (map type_tree (drop i ts)) (map (option_map type_tree) (drop i us)) ≡ false
others_end ts us i h e =
    too_few (map type_tree (drop i ts)) (map (option_map type_tree) (drop i us)) (simp (length-map, length-drop) (omega arith)) (simp (length-map, length-drop) (omega arith))

too_many : (us : List (Option TypeTree)) → 0 < length us → may_all_be [] us ≡ false
too_many [] h = absurd (omega arith)
too_many (u ∷ us) h = refl

-- whether others are left where there are no more
none_left : (us : List (Option CType)) (i : ℕ) → nat_le (length us) i ≡ may_all_be [] (map (option_map type_tree) (drop i us))
none_left us i = by (cases_lt i (length us))
  where
    by : (i < length us) ⊎ (length us ≤ i) → nat_le (length us) i ≡ may_all_be [] (map (option_map type_tree) (drop i us))
    by (inl h) =
        let e : nat_le (length us) i ≡ false = grind (arith, nat_tests) in
        e ∙ sym (too_many (map (option_map type_tree) (drop i us)) (simp (length-map, length-drop) (omega arith)))
    by (inr h) =
        let e : nat_le (length us) i ≡ true = grind (arith, nat_tests) in
        e ∙ ap (λ l. may_all_be [] (map (option_map type_tree) l)) (sym (drop_all i us h))

pub returns-then-i-ts : goal.returns-then-i-ts
returns-then-i-ts c =
    elim c.loop-i-test.branch [
      | then-loop-i-test+else-i-us w ↦ sym (c.loop-i.invariant.may ∙ others_end c.args.ts.now c.args.us.now c.loop-i.i (omega arith) (omega arith))
      | else-loop-i-test w ↦ absurd (omega arith)
    ]

pub returns : goal.returns
returns c =
    none_left c.args.us.now c.loop-i.i
    ∙ ap (λ l. may_all_be (map type_tree l) (map (option_map type_tree) (drop c.loop-i.i c.args.us.now))) (sym (drop_all c.loop-i.i c.args.ts.now (omega arith)))
    ∙ sym c.loop-i.invariant.may
