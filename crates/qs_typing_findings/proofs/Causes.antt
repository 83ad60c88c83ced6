-- A unit is refused for the first of the causes that there are, in their order, and for none exactly where there is none.
use Rattle.std.proofs.Common.{◌≡◌, ◌≤◌, ◌⊎◌, inl, inr, ℕ, suc, ◌==◌, nat_lt, Bool, true, false, ◌&&◌, ◌||◌, [], Option, Some, None, refl, sym, ap, ◌∙◌, subst, arith, if◌then◌else◌, le_antisymm}
use Rattle.std.proofs.lemmas.Bool.Decides.{nat_tests}
use Rattle.std.specs.Option.{option_or}
use Rattle.qs_syntax.specs.Trees.{UnitTree}
use Rattle.qs_types.specs.declared.limits.LimitKind.{LimitKind}
use Rattle.qs_types.specs.declared.limits.LimitKind.TheVariants as kinds
use Rattle.qs_types.specs.declared.rules.Rule.{Rule}
use Rattle.qs_types.specs.Rules.{Fault, rule_number}
use Rattle.qs_types.specs.UnitRules.{faults_in, is_among}
use Rattle.qs_types.specs.WellTyped.{has_main, first_undefined}
use Rattle.qs_types.proofs.RuleLaws.{numbers_differ}
use Rattle.qs_typing_findings.specs.declared.type_fault.TypeFault.{TypeFault}
use Rattle.qs_typing_findings.specs.declared.type_fault.TypeFault.TheVariants as faults
use Rattle.qs_typing_findings.specs.Findings.{least_with, IsFirst}
use Rattle.qs_typing_findings.specs.Refusals.{IsCause, HasCause, IsLeastViolation, first_past, limit_place, place_of, limit_fault, rule_fault, main_fault, undefined_fault, late_refusal, first_refusal}
use Rattle.qs_typing_findings.proofs.FirstFaults.{first_found, none_found}

-- ---- the causes of one place

-- a test shows the cause of a place, where there is one
record ShowsOne (unit : UnitTree) (place : ℕ) (o : Option TypeFault) : Type 0 where
  there : (f : TypeFault) → o ≡ Some f → HasCause unit f × (place_of f ≡ place)
  none : o ≡ None → (g : TypeFault) → HasCause unit g → place_of g ≡ place → ⊥

-- the kind of limit at a place
abbrev kind_at : ℕ → Option LimitKind
kind_at n =
    if n == 0 then Some kinds.Nodes else
    if n == 1 then Some kinds.Functions else
    if n == 2 then Some kinds.Parameters else
    if n == 6 then Some kinds.Globals else
    if n == 7 then Some kinds.Locals else None

kind_of_place : (kind : LimitKind) → kind_at (limit_place kind) ≡ Some kind
kind_of_place kinds.Nodes = refl
kind_of_place kinds.Functions = refl
kind_of_place kinds.Parameters = refl
kind_of_place kinds.Globals = refl
kind_of_place kinds.Locals = refl

no_kind : (n : ℕ) (kind : LimitKind) → kind_at n ≡ None → n ≡ limit_place kind → ⊥
no_kind n kind h e = let clash : None ≡ Some kind = sym h ∙ ap kind_at e ∙ kind_of_place kind in cc

same_kind : (k kind : LimitKind) → limit_place k ≡ limit_place kind → k ≡ kind
same_kind k kind e = let same : Some k ≡ Some kind = sym (kind_of_place k) ∙ ap kind_at e ∙ kind_of_place kind in cc

-- ---- limits

limit_none : (unit : UnitTree) (kind : LimitKind) → first_past kind unit ≡ None → (g : TypeFault) → HasCause unit g → place_of g ≡ limit_place kind → ⊥
limit_none unit kind n (faults.Limit k node) h e =
    let there : first_past kind unit ≡ Some node = subst (λ k. first_past k unit ≡ Some node) (same_kind k kind e) h in
    let clash : None ≡ Some node = sym n ∙ there in
    cc
limit_none unit kind n (faults.Rule node rule) h e = no_kind 3 kind refl e
limit_none unit kind n faults.NoMain h e = no_kind 4 kind refl e
limit_none unit kind n (faults.Undefined node) h e = no_kind 5 kind refl e
limit_none unit kind n faults.NoMemory h e = h

limit_by : (unit : UnitTree) (kind : LimitKind) (o : Option ℕ) → first_past kind unit ≡ o → ShowsOne unit (limit_place kind) (limit_fault kind o)
limit_by unit kind None p = record { there = λ f e. absurd (cc); none = λ e. limit_none unit kind p }
limit_by unit kind (Some node) p = record {
  there = λ f e. let same : faults.Limit kind node ≡ f = cc in subst (λ f. HasCause unit f × (place_of f ≡ limit_place kind)) same (p, refl);
  none = λ e. absurd (cc);
}

limit_one : (unit : UnitTree) (kind : LimitKind) → ShowsOne unit (limit_place kind) (limit_fault kind (first_past kind unit))
limit_one unit kind = limit_by unit kind (first_past kind unit) refl

-- ---- rules

node_least : (n m x y : ℕ) → (nat_lt n m || ((n == m) && nat_lt x y)) ≡ false → m ≤ n
node_least n m x y h = grind (arith, nat_tests)

number_least : (m x y : ℕ) → (nat_lt m m || ((m == m) && nat_lt x y)) ≡ false → y ≤ x
number_least m x y h = grind (arith, nat_tests)

least_violation : (unit : UnitTree) (f : Fault) → IsFirst (faults_in unit) f → IsLeastViolation unit f.node f.rule
least_violation unit f first = record {
  violates = record { found = first.found };
  least_node = λ n r v. node_least n f.node (rule_number r) (rule_number f.rule) (first.least n r v.found);
  least_rule = λ r v. number_least f.node (rule_number r) (rule_number f.rule) (first.least f.node r v.found);
}

none_violated : (unit : UnitTree) (node : ℕ) (rule : Rule) → faults_in unit ≡ [] → IsLeastViolation unit node rule → ⊥
none_violated unit node rule n v = let clash : false ≡ true = sym (ap (is_among node rule) n) ∙ v.violates.found in cc

rule_none : (unit : UnitTree) → faults_in unit ≡ [] → (g : TypeFault) → HasCause unit g → place_of g ≡ 3 → ⊥
rule_none unit n (faults.Limit kind node) h e = no_kind 3 kind refl (sym e)
rule_none unit n (faults.Rule node rule) h e = none_violated unit node rule n h
rule_none unit n faults.NoMain h e = absurd (omega (arith, e))
rule_none unit n (faults.Undefined node) h e = absurd (omega (arith, e))
rule_none unit n faults.NoMemory h e = h

rule_by : (unit : UnitTree) (o : Option Fault) → least_with None (faults_in unit) ≡ o → ShowsOne unit 3 (rule_fault o)
rule_by unit None p = record { there = λ f e. absurd (cc); none = λ e. rule_none unit (none_found (faults_in unit) p) }
rule_by unit (Some v) p = record {
  there = λ f e.
      let same : faults.Rule v.node v.rule ≡ f = cc in
      subst (λ f. HasCause unit f × (place_of f ≡ 3)) same (least_violation unit v (first_found (faults_in unit) v p), refl);
  none = λ e. absurd (cc);
}

-- ---- main, and functions without a body

main_none : (unit : UnitTree) → has_main unit ≡ true → (g : TypeFault) → HasCause unit g → place_of g ≡ 4 → ⊥
main_none unit n (faults.Limit kind node) h e = no_kind 4 kind refl (sym e)
main_none unit n (faults.Rule node rule) h e = absurd (omega (arith, e))
main_none unit n faults.NoMain h e = let clash : true ≡ false = sym n ∙ h in cc
main_none unit n (faults.Undefined node) h e = absurd (omega (arith, e))
main_none unit n faults.NoMemory h e = h

main_by : (unit : UnitTree) (b : Bool) → has_main unit ≡ b → ShowsOne unit 4 (main_fault b)
main_by unit true p = record { there = λ f e. absurd (cc); none = λ e. main_none unit p }
main_by unit false p = record {
  there = λ f e. let same : faults.NoMain ≡ f = cc in subst (λ f. HasCause unit f × (place_of f ≡ 4)) same (p, refl);
  none = λ e. absurd (cc);
}

undefined_none : (unit : UnitTree) → first_undefined unit ≡ None → (g : TypeFault) → HasCause unit g → place_of g ≡ 5 → ⊥
undefined_none unit n (faults.Limit kind node) h e = no_kind 5 kind refl (sym e)
undefined_none unit n (faults.Rule node rule) h e = absurd (omega (arith, e))
undefined_none unit n faults.NoMain h e = absurd (omega (arith, e))
undefined_none unit n (faults.Undefined node) h e = let clash : None ≡ Some node = sym n ∙ h in cc
undefined_none unit n faults.NoMemory h e = h

undefined_by : (unit : UnitTree) (o : Option ℕ) → first_undefined unit ≡ o → ShowsOne unit 5 (undefined_fault o)
undefined_by unit None p = record { there = λ f e. absurd (cc); none = λ e. undefined_none unit p }
undefined_by unit (Some node) p = record {
  there = λ f e. let same : faults.Undefined node ≡ f = cc in subst (λ f. HasCause unit f × (place_of f ≡ 5)) same (p, refl);
  none = λ e. absurd (cc);
}

-- ---- the first of the causes from a place on

record ShowsFirst (unit : UnitTree) (place : ℕ) (o : Option TypeFault) : Type 0 where
  there : (f : TypeFault) → o ≡ Some f → HasCause unit f × ((g : TypeFault) → HasCause unit g → place ≤ place_of g → place_of f ≤ place_of g)
  none : o ≡ None → (g : TypeFault) → HasCause unit g → place ≤ place_of g → ⊥

here_or_behind : (n m : ℕ) → n ≤ m → (m ≡ n) ⊎ (suc n ≤ m)
here_or_behind n m h = grind arith

first_here : (place m n : ℕ) → m ≡ place → place ≤ n → m ≤ n
first_here place m n e h = omega arith

in_front : (unit : UnitTree) (place : ℕ) (o p : Option TypeFault) → ShowsOne unit place o → ShowsFirst unit (suc place) p → ShowsFirst unit place (option_or o p)
in_front unit place None p one rest = record {
  there = λ f e. let r = rest.there f e in (r.0, λ g h le. by f r.1 g h (here_or_behind place (place_of g) le));
  none = λ e g h le. elim (here_or_behind place (place_of g) le) [ inl q ↦ one.none refl g h q | inr q ↦ rest.none e g h q ];
}
  where
    by : (f : TypeFault) → ((g : TypeFault) → HasCause unit g → suc place ≤ place_of g → place_of f ≤ place_of g)
        → (g : TypeFault) → HasCause unit g → ((place_of g ≡ place) ⊎ (suc place ≤ place_of g)) → place_of f ≤ place_of g
    by f least g h (inl q) = absurd (one.none refl g h q)
    by f least g h (inr q) = least g h q
in_front unit place (Some x) p one rest = record {
  there = λ f e.
      let same : Some x ≡ Some f = e in
      let r = one.there f same in
      (r.0, λ g h le. first_here place (place_of f) (place_of g) r.1 le);
  none = λ e. absurd (cc);
}

-- want of memory is no cause, and no other has its place
nothing_behind : (unit : UnitTree) → ShowsFirst unit 8 None
nothing_behind unit = record { there = λ f e. absurd (cc); none = λ e. by }
  where
    low : (kind : LimitKind) → 8 ≤ limit_place kind → ⊥
    low kinds.Nodes h = omega (arith, h)
    low kinds.Functions h = omega (arith, h)
    low kinds.Parameters h = omega (arith, h)
    low kinds.Globals h = omega (arith, h)
    low kinds.Locals h = omega (arith, h)

    by : (g : TypeFault) → HasCause unit g → 8 ≤ place_of g → ⊥
    by (faults.Limit kind node) h le = low kind le
    by (faults.Rule node rule) h le = omega (arith, le)
    by faults.NoMain h le = omega (arith, le)
    by (faults.Undefined node) h le = omega (arith, le)
    by faults.NoMemory h le = h

in_turn : (o p q : Option TypeFault) → option_or o (option_or p q) ≡ option_or (option_or o p) q
in_turn None p q = refl
in_turn (Some f) p q = refl

alone : (o : Option TypeFault) → option_or o None ≡ o
alone None = refl
alone (Some f) = refl

abbrev limit_of : LimitKind → UnitTree → Option TypeFault
limit_of kind unit = limit_fault kind (first_past kind unit)

abbrev behind_rule : UnitTree → Option TypeFault → Option TypeFault
behind_rule unit last =
    option_or (main_fault (has_main unit)) (option_or (undefined_fault (first_undefined unit)) (option_or (limit_of kinds.Globals unit) last))

abbrev one_by_one : UnitTree → Option TypeFault
one_by_one unit =
    option_or (limit_of kinds.Nodes unit)
    (option_or (limit_of kinds.Functions unit)
    (option_or (limit_of kinds.Parameters unit)
    (option_or (rule_fault (least_with None (faults_in unit)))
    (behind_rule unit (option_or (limit_of kinds.Locals unit) None)))))

one_by_one_is : (unit : UnitTree) → one_by_one unit ≡ first_refusal unit
one_by_one_is unit =
    let a = limit_of kinds.Nodes unit in
    let b = limit_of kinds.Functions unit in
    let c = limit_of kinds.Parameters unit in
    let d = rule_fault (least_with None (faults_in unit)) in
    (λ i. option_or a (option_or b (option_or c (option_or d (behind_rule unit (alone (limit_of kinds.Locals unit) i))))))
    ∙ ap (option_or a) (in_turn b c (late_refusal unit))
    ∙ in_turn a (option_or b c) (late_refusal unit)

all_shown : (unit : UnitTree) → ShowsFirst unit 0 (one_by_one unit)
all_shown unit =
    let locals = option_or (limit_of kinds.Locals unit) None in
    let globals = option_or (limit_of kinds.Globals unit) locals in
    let undefined = option_or (undefined_fault (first_undefined unit)) globals in
    let main = option_or (main_fault (has_main unit)) undefined in
    let rules = option_or (rule_fault (least_with None (faults_in unit))) main in
    let parameters = option_or (limit_of kinds.Parameters unit) rules in
    let functions = option_or (limit_of kinds.Functions unit) parameters in
    in_front unit 0 (limit_of kinds.Nodes unit) functions (limit_one unit kinds.Nodes)
    (in_front unit 1 (limit_of kinds.Functions unit) parameters (limit_one unit kinds.Functions)
    (in_front unit 2 (limit_of kinds.Parameters unit) rules (limit_one unit kinds.Parameters)
    (in_front unit 3 (rule_fault (least_with None (faults_in unit))) main (rule_by unit (least_with None (faults_in unit)) refl)
    (in_front unit 4 (main_fault (has_main unit)) undefined (main_by unit (has_main unit) refl)
    (in_front unit 5 (undefined_fault (first_undefined unit)) globals (undefined_by unit (first_undefined unit) refl)
    (in_front unit 6 (limit_of kinds.Globals unit) locals (limit_one unit kinds.Globals)
    (in_front unit 7 (limit_of kinds.Locals unit) None (limit_one unit kinds.Locals) (nothing_behind unit))))))))

shown : (unit : UnitTree) → ShowsFirst unit 0 (first_refusal unit)
shown unit = subst (ShowsFirst unit 0) (one_by_one_is unit) (all_shown unit)

-- ---- what is told is the first of the causes, and where nothing is told there is none

pub cause_is : (unit : UnitTree) (f : TypeFault) → first_refusal unit ≡ Some f → IsCause unit f
cause_is unit f e =
    let r = (shown unit).there f e in
    record { first = e; is_there = r.0; none_before = λ g h. r.1 g h (omega arith) }

pub no_cause : (unit : UnitTree) → first_refusal unit ≡ None → (g : TypeFault) → HasCause unit g → ⊥
no_cause unit e g h = (shown unit).none e g h (omega arith)

-- ---- a cause before which there is none is told

same_limit : (unit : UnitTree) (k kind : LimitKind) (n m : ℕ) → first_past k unit ≡ Some n → first_past kind unit ≡ Some m → limit_place k ≡ limit_place kind → faults.Limit k n ≡ faults.Limit kind m
same_limit unit k kind n m p q e =
    let kinds_alike : k ≡ kind = same_kind k kind e in
    let some : Some n ≡ Some m = sym p ∙ ap (λ k. first_past k unit) kinds_alike ∙ q in
    let nodes_alike : n ≡ m = cc in
    λ i. faults.Limit (kinds_alike i) (nodes_alike i)

same_violation : (unit : UnitTree) (n m : ℕ) (r s : Rule) → IsLeastViolation unit n r → IsLeastViolation unit m s → faults.Rule n r ≡ faults.Rule m s
same_violation unit n m r s v w =
    let node : n ≡ m = le_antisymm (v.least_node m s w.violates) (w.least_node n r v.violates) in
    let here : IsLeastViolation unit m r = subst (λ k. IsLeastViolation unit k r) node v in
    let rule : r ≡ s = numbers_differ r s (le_antisymm (here.least_rule s w.violates) (w.least_rule r here.violates)) in
    λ i. faults.Rule (node i) (rule i)

same_cause : (unit : UnitTree) (f g : TypeFault) → HasCause unit f → HasCause unit g → place_of f ≡ place_of g → f ≡ g
same_cause unit (faults.Limit k n) (faults.Limit kind m) p q e = same_limit unit k kind n m p q e
same_cause unit (faults.Limit k n) (faults.Rule m s) p q e = absurd (no_kind 3 k refl (sym e))
same_cause unit (faults.Limit k n) faults.NoMain p q e = absurd (no_kind 4 k refl (sym e))
same_cause unit (faults.Limit k n) (faults.Undefined m) p q e = absurd (no_kind 5 k refl (sym e))
same_cause unit (faults.Limit k n) faults.NoMemory p q e = absurd q
same_cause unit (faults.Rule n r) (faults.Limit kind m) p q e = absurd (no_kind 3 kind refl e)
same_cause unit (faults.Rule n r) (faults.Rule m s) p q e = same_violation unit n m r s p q
same_cause unit (faults.Rule n r) faults.NoMain p q e = absurd (omega (arith, e))
same_cause unit (faults.Rule n r) (faults.Undefined m) p q e = absurd (omega (arith, e))
same_cause unit (faults.Rule n r) faults.NoMemory p q e = absurd q
same_cause unit faults.NoMain (faults.Limit kind m) p q e = absurd (no_kind 4 kind refl e)
same_cause unit faults.NoMain (faults.Rule m s) p q e = absurd (omega (arith, e))
same_cause unit faults.NoMain faults.NoMain p q e = refl
same_cause unit faults.NoMain (faults.Undefined m) p q e = absurd (omega (arith, e))
same_cause unit faults.NoMain faults.NoMemory p q e = absurd q
same_cause unit (faults.Undefined n) (faults.Limit kind m) p q e = absurd (no_kind 5 kind refl e)
same_cause unit (faults.Undefined n) (faults.Rule m s) p q e = absurd (omega (arith, e))
same_cause unit (faults.Undefined n) faults.NoMain p q e = absurd (omega (arith, e))
same_cause unit (faults.Undefined n) (faults.Undefined m) p q e =
    let some : Some n ≡ Some m = sym p ∙ q in
    let same : n ≡ m = cc in
    ap faults.Undefined same
same_cause unit (faults.Undefined n) faults.NoMemory p q e = absurd q
same_cause unit faults.NoMemory g p q e = absurd p

pub cause_told : (unit : UnitTree) (f : TypeFault) → HasCause unit f → ((g : TypeFault) → HasCause unit g → place_of f ≤ place_of g) → first_refusal unit ≡ Some f
cause_told unit f h least = by (first_refusal unit) refl
  where
    by : (o : Option TypeFault) → first_refusal unit ≡ o → first_refusal unit ≡ Some f
    by None e = absurd (no_cause unit e f h)
    by (Some g) e =
        let c = cause_is unit g e in
        e ∙ ap Some (same_cause unit g f c.is_there h (le_antisymm (c.none_before f h) (least g c.is_there)))
