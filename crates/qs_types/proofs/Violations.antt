-- A unit keeps the rules exactly where no node violates one.
use Rattle.std.proofs.Common.{◌≡◌, ℕ, true, false, ◌&&◌, ◌||◌, List, [], ◌∷◌, refl, sym, ap, ◌∙◌}
use Rattle.std.proofs.lemmas.Bool.Decides.{Decides-eqb}
use Rattle.qs_syntax.specs.Trees.{UnitTree}
use Rattle.qs_types.specs.declared.rules.Rule.{Rule}
use Rattle.qs_types.specs.Rules.{rule_number, same_rule, Fault}
use Rattle.qs_types.specs.UnitRules.{faults_in, is_among, Violates, KeepsRules}

pub no_violation : (unit : UnitTree) → KeepsRules unit → (node : ℕ) (rule : Rule) → Violates unit node rule → ⊥
no_violation unit keeps node rule v = by (ap (is_among node rule) (sym keeps.nothing) ∙ v.found)
  where
    by : false ≡ true → ⊥
    by e = cc

-- a fault is among those that begin with it
at_head : (f : Fault) (fs : List Fault) → is_among f.node f.rule (f ∷ fs) ≡ true
at_head f fs =
    ap (λ b. (b && same_rule f.rule f.rule) || is_among f.node f.rule fs) ((Decides-eqb f.node f.node).1 refl)
    ∙ ap (λ b. b || is_among f.node f.rule fs) ((Decides-eqb (rule_number f.rule) (rule_number f.rule)).1 refl)

none_among : (fs : List Fault) → ((node : ℕ) (rule : Rule) → is_among node rule fs ≡ true → ⊥) → fs ≡ []
none_among [] none = refl
none_among (f ∷ fs) none = absurd (none f.node f.rule (at_head f fs))

pub keeps_rules : (unit : UnitTree) → ((node : ℕ) (rule : Rule) → Violates unit node rule → ⊥) → KeepsRules unit
keeps_rules unit none = record { nothing = none_among (faults_in unit) (λ n r h. none n r (record { found = h })) }
