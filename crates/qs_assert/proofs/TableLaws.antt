-- The table of the definitions has their amounts.
use Rattle.std.proofs.Common.{◌≡◌, ℕ, ℤ, refl, ap, ◌∙◌, sym, Bool, true, false, List, [], ◌∷◌, ◌++◌, Option, Some, None, is_some, Bor}
use Rattle.std.specs.Prelude.{if◌then◌else◌, ◌&&◌, slice_index_or, option_copied}
use Rattle.std.specs.Map.{lookup}
use Rattle.indexmap.specs.IndexMap.{insert_entry}
use Rattle.qs_assert.specs.declared.define.Define.{Define}
use Rattle.qs_assert.specs.declared.define.Amount.{Amount}
use Rattle.qs_assert.specs.declared.define.Amount.TheVariants.{Infinite, Wide}
use Rattle.qs_assert.specs.Trees.{AssertionTree, cost}
use Rattle.qs_assert.specs.Listing.{assertion_nodes}
use Rattle.qs_assert.specs.Values.{Extended, finite, value, or_infinite, plus}
use Rattle.qs_assert.specs.Bounds.{Setting, wide, amount_of, amount_in, argument, same_name, with_definition, with_definitions, at_entry, amount_at, bound_at}
use Rattle.qs_assert.specs.Stacks.{steps, first_amount, joined_known, amount_known}
use Rattle.qs_assert.specs.Evaluations.{Amounts, or_infinity, found}
use Rattle.qs_assert.specs.Tables.{reckoned, with_amount, tabled}
use Rattle.qs_assert.proofs.SamenessLaws.{name_equal}
use Rattle.qs_assert.proofs.EvaluationLaws.{Named_by, evaluated, total_is}

abbrev given : Option Extended → Bool
given (Some v) = true
given None = false

abbrev or_else : Option Amount → Option Amount → Option Amount
or_else (Some x) y = Some x
or_else None y = y

entry_by : (b : Bool) (x : Amount) (rest y all : Option Amount) → all ≡ or_else rest y → (if b then Some x else all) ≡ or_else (if b then Some x else rest) y
entry_by true x rest y all h = refl
entry_by false x rest y all h = h

entry_more : (ks : Amounts) (x : List ℕ) (v : Amount) (n : List ℕ) → lookup (same_name n) (ks ++ (x, v) ∷ []) ≡ or_else (lookup (same_name n) ks) (if same_name n x then Some v else None)
entry_more [] x v n = refl
entry_more (k ∷ ks) x v n =
    entry_by (same_name n k.0) k.1 (lookup (same_name n) ks) (if same_name n x then Some v else None) (lookup (same_name n) (ks ++ (x, v) ∷ [])) (entry_more ks x v n)

or_none : (o : Option Amount) → o ≡ or_else o None
or_none (Some x) = refl
or_none None = refl

entry_kept : (ks : Amounts) (x n : List ℕ) (v a : Amount) (b : Bool) → same_name n x ≡ b → lookup (same_name x) ks ≡ Some a → lookup (same_name n) ks ≡ or_else (lookup (same_name n) ks) (if b then Some v else None)
entry_kept ks x n v a true e h =
    let same : lookup (same_name n) ks ≡ Some a = ap (λ (y : List ℕ). lookup (same_name y) ks) (name_equal n x e) ∙ h in
    same ∙ ap (λ o. or_else o (Some v)) (sym same)
entry_kept ks x n v a false e h = or_none (lookup (same_name n) ks)

with_entry : (ks : Amounts) (x n : List ℕ) (v : Amount) (o : Option Amount) → lookup (same_name x) ks ≡ o → lookup (same_name n) (if is_some o then ks else ks ++ (x, v) ∷ []) ≡ or_else (lookup (same_name n) ks) (if same_name n x then Some v else None)
with_entry ks x n v (Some a) h = entry_kept ks x n v a (same_name n x) refl h
with_entry ks x n v None h = entry_more ks x v n

-- what a setting says of a name: its definition's value, and whether that is wide
abbrev told : Option Extended → Bool → Option Amount
told (Some v) w = Some (if w then Wide else amount_of v)
told None w = None

-- the table says what the setting says, and a name that isn't defined is in no definition that is wide
record Matches (g : Setting) (ks : Amounts) : Type 0 where
  same : (n : List ℕ) → lookup (same_name n) ks ≡ told (g.state.names n) (g.wides n)
  none : (n : List ℕ) → given (g.state.names n) ≡ false → g.wides n ≡ false

undefined : (o : Option Extended) (w : Bool) → (given o ≡ false → w ≡ false) → or_infinity (told o w) ≡ (if w then Wide else amount_of (or_infinite o))
undefined (Some v) w h = refl
undefined None w h = ap (λ (b : Bool). if b then Wide else Infinite) (sym (h refl))

named_by : (g : Setting) (ks : Amounts) → Matches g ks → Named_by g (found ks)
named_by g ks m = λ n. ap or_infinity (m.same n) ∙ undefined (g.state.names n) (g.wides n) (m.none n)

told_more : (o : Option Extended) (w same : Bool) (v : Extended) (bw : Bool) → or_else (told o w) (if same then Some (if bw then Wide else amount_of v) else None) ≡ told (if given o then o else (if same then Some v else None)) (if given o then w else (same && bw))
told_more (Some u) w same v bw = refl
told_more None w true v bw = refl
told_more None w false v bw = refl

none_more : (o : Option Extended) (w same : Bool) (v : Extended) (bw : Bool) → given (if given o then o else (if same then Some v else None)) ≡ false → (if given o then w else (same && bw)) ≡ false
none_more (Some u) w same v bw h = absurd (cc)
none_more None w true v bw h = absurd (cc)
none_more None w false v bw h = refl

-- the state is that of the arguments and costs
record Stands (args : List ℤ) (costs : List ℕ) (g : Setting) : Type 0 where
  at : g.state.at ≡ (λ x. argument args x.kind)
  cost : g.state.costs ≡ (λ f. slice_index_or costs f 0)

reckoned_is : (args : List ℤ) (costs : List ℕ) (g : Setting) (ks : Amounts) (a : AssertionTree) → Stands args costs g → Matches g ks → reckoned args costs ks a ≡ amount_in a g
reckoned_is args costs g ks a s m =
    sym (λ i. first_amount (steps (record { at = s.at i; costs = s.cost i; names = found ks }) (assertion_nodes a)).amounts) ∙ evaluated g (found ks) (named_by g ks m) a

matches_more : (args : List ℤ) (costs : List ℕ) (d : Define) (g : Setting) (ks : Amounts) → Stands args costs g → Matches g ks → Matches (with_definition d g) (with_amount d.name (reckoned args costs ks d.body) ks)
matches_more args costs d g ks s m = record {
  same = λ n. with_entry ks d.name n (reckoned args costs ks d.body) (lookup (same_name d.name) ks) refl ∙ ((λ i. or_else (m.same n i) (if same_name n d.name then Some (reckoned_is args costs g ks d.body s m i) else None)) ∙ told_more (g.state.names n) (g.wides n) (same_name n d.name) (value d.body g.state) (wide d.body g.state g.wides));
  none = λ n. none_more (g.state.names n) (g.wides n) (same_name n d.name) (value d.body g.state) (wide d.body g.state g.wides);
}

tabled_is : (args : List ℤ) (costs : List ℕ) (ds : List Define) (g : Setting) (ks : Amounts) (a : AssertionTree) → Stands args costs g → Matches g ks → reckoned args costs (tabled args costs ds ks) a ≡ amount_in a (with_definitions ds g)
tabled_is args costs [] g ks a s m = reckoned_is args costs g ks a s m
tabled_is args costs (d ∷ ds) g ks a s m =
    tabled_is args costs ds (with_definition d g) (with_amount d.name (reckoned args costs ks d.body) ks) a (record { at = s.at; cost = s.cost }) (matches_more args costs d g ks s m)

pub value_is : (args : List ℤ) (costs : List ℕ) (ds : List Define) (a : AssertionTree) → reckoned args costs (tabled args costs ds []) a ≡ amount_at a ds args costs
value_is args costs ds a =
    tabled_is args costs ds (at_entry args costs) [] a (record { at = refl; cost = refl }) (record { same = λ n. refl; none = λ n h. refl })

costs_kept : (args : List ℤ) (costs : List ℕ) (ds : List Define) (g : Setting) → Stands args costs g → (with_definitions ds g).state.costs ≡ (λ f. slice_index_or costs f 0)
costs_kept args costs [] g s = s.cost
costs_kept args costs (d ∷ ds) g s = costs_kept args costs ds (with_definition d g) (record { at = s.at; cost = s.cost })

-- the bound: the sum of two amounts
pub bound_is : (args : List ℤ) (costs : List ℕ) (ds : List Define) (pre : AssertionTree) (main : ℕ) → joined_known plus (finite 0) (amount_known (finite (slice_index_or costs main 0)) ∷ (amount_at pre ds args costs ∷ [])) ≡ bound_at pre ds args costs main
bound_is args costs ds pre main =
    (λ i. joined_known plus (finite 0) (amount_known (finite (sym (costs_kept args costs ds (at_entry args costs) (record { at = refl; cost = refl })) i main)) ∷ (amount_at pre ds args costs ∷ []))) ∙ total_is (with_definitions ds (at_entry args costs)) (cost main ∷ (pre ∷ []))

-- ---- the table in code

appended : (x : List ℕ) (v : Amount) (ks : Amounts) → lookup (same_name x) ks ≡ None → insert_entry same_name ks x v ≡ ks ++ (x, v) ∷ []
appended x v [] h = refl
appended x v (k ∷ ks) h = by (same_name x k.0) h (appended x v ks)
  where
    by : (b : Bool) → (if b then Some k.1 else lookup (same_name x) ks) ≡ None → (lookup (same_name x) ks ≡ None → insert_entry same_name ks x v ≡ ks ++ (x, v) ∷ []) → (if b then (k.0, v) ∷ ks else k ∷ insert_entry same_name ks x v) ≡ k ∷ (ks ++ (x, v) ∷ [])
    by true h rest = absurd (cc)
    by false h rest = ap (λ (l : Amounts). k ∷ l) (rest h)

pub amount_kept : (x : List ℕ) (v : Amount) (r : Option (Bor Amount)) (ks : Amounts) → option_copied r ≡ lookup (same_name x) ks → is_some r ≡ true → ks ≡ with_amount x v ks
amount_kept x v (Some a) ks e h = ap (λ o. if is_some o then ks else ks ++ (x, v) ∷ []) e
amount_kept x v None ks e h = absurd (cc)

pub amount_added : (x : List ℕ) (v : Amount) (r : Option (Bor Amount)) (ks after : Amounts) → option_copied r ≡ lookup (same_name x) ks → is_some r ≡ false → after ≡ insert_entry same_name ks x v → after ≡ with_amount x v ks
amount_added x v (Some a) ks after e h i = absurd (cc)
amount_added x v None ks after e h i = i ∙ (appended x v ks (sym e) ∙ ap (λ o. if is_some o then ks else ks ++ (x, v) ∷ []) e)
