-- The command as its builders make it, and its parse.
use Rattle.std.proofs.Common.{◌≡◌, ◌∙◌, ℕ, Bool, cond, true, false, ◌&&◌, refl, ap, ap₂, List, [], ◌∷◌, ◌++◌, map, Some, None, append_assoc, if◌then◌else◌}
use Rattle.std.specs.Prelude.{bytes_eq, find, option_and_then, slice_get}
use Rattle.std.specs.List.{list_any, list_all}
use Rattle.qs_cli.specs.Words.{Text, Item, items_from, operand, key, value_in, among, Options, names_of, fits, value_of}
use Rattle.qs_cli.proofs.Rules.{built_option, rules, row}
use Rattle.qs_cli.proofs.Walk.{is_nil, shape, built_app, parse_fault, level, level_rows}
use Rattle.qs_cli.specs.Parser.{bare, flat, operand_rule, option_rule, with_options}
use Rattle.clap.specs.Walk.{Row, Rule, nothing_held, rows_after, is_early_multiple, first_of}
use Rattle.clap.specs.Faults.{fault_of, built_fault, is_simple_and_free, is_free_app}
use Rattle.clap.specs.Simple.{App, with_rule, on_top, built, filled_from, matches_of, is_simple, names_of as names_in}

-- ---- the command as its builders make it

plain_rules : Options → List Rule
plain_rules [] = operand_rule ∷ []
plain_rules (o ∷ os) = option_rule o ∷ plain_rules os

abbrev app_with : Text → List Rule → App
app_with name rs = on_top (λ s. record s { rules = rs }) (bare name)

flat_rules : (name : Text) (rs : List Rule) (os : Options) → with_rule (with_options (app_with name rs) os) operand_rule ≡ app_with name (rs ++ plain_rules os)
unfolding plain_rules
flat_rules name rs [] = refl
flat_rules name rs (o ∷ os) = flat_rules name (rs ++ option_rule o ∷ []) os ∙ ap (app_with name) (append_assoc rs (option_rule o ∷ []) (plain_rules os))

filled_rules : (os : Options) → filled_from 1 (plain_rules os) ≡ rules os
unfolding plain_rules
filled_rules [] = refl
filled_rules (o ∷ os) = ap (λ rs. built_option o ∷ rs) (filled_rules os)

flat_is : (name : Text) (os : Options) → flat name os ≡ app_with name (plain_rules os)
flat_is name os = flat_rules name [] os

simple_plain : (os : Options) → list_all (λ a. a.is_simple) (plain_rules os) ≡ true
unfolding plain_rules
simple_plain [] = refl
simple_plain (o ∷ os) = simple_plain os

simple_rules : (os : Options) → list_all (λ a. a.is_simple) (rules os) ≡ true
simple_rules [] = refl
simple_rules (o ∷ os) = simple_rules os

free_rules : (os : Options) → list_all (λ a. a.is_free) (rules os) ≡ true
free_rules [] = refl
free_rules (o ∷ os) = free_rules os

no_early : (n : ℕ) (os : Options) → list_any (is_early_multiple n) (rules os) ≡ false
no_early n [] = refl
no_early n (o ∷ os) = no_early n os

module _ (name : Text) (os : Options) (no_operand : among operand (names_of os) ≡ false) where
  is_built : built (app_with name (plain_rules os)) ≡ built_app name os no_operand
  is_built = ap (λ rs. record { top = record (shape name os) { rules = rs }; subs = [] }) (filled_rules os)

  pub flat_simple : is_simple (flat name os) ≡ true
  flat_simple = ap is_simple (flat_is name os) ∙ rw (simple_plain os, filled_rules os, simple_rules os, no_early _ os) refl

  pub flat_free : is_simple_and_free (flat name os) ≡ true
  flat_free = ap₂ (λ a b. a && b) flat_simple
      (ap (λ a. is_free_app (built a)) (flat_is name os) ∙ ap is_free_app is_built ∙ free)
    where
      free : is_free_app (built_app name os no_operand) ≡ true
      free = rw (free_rules os) refl

  pub flat_decides : (words : List Text) (is : List Item) → items_from words None ≡ Some is → is_nil (fault_of (flat name os) words) ≡ fits os is
  flat_decides words is e = ap (λ a. is_nil (fault_of a words)) (flat_is name os)
      ∙ ap (λ a. is_nil (built_fault a nothing_held words)) is_built ∙ ap is_nil (parse_fault name os no_operand words) ∙ level name os no_operand words is e

  pub flat_rows : (words : List Text) (is : List Item) → items_from words None ≡ Some is → fits os is ≡ true → matches_of (flat name os) words ≡ map row is
  flat_rows words is e fit = ap (λ a. matches_of a words) (flat_is name os)
      ∙ ap (λ (a : App). rows_after a.top.rules (names_in a) words) is_built ∙ level_rows name os no_operand words is e fit

pub first_of-map : (k : Text) (is : List Item) → first_of k (map row is) ≡ value_of is k
first_of-map k [] = refl
first_of-map k (i ∷ is) = go (bytes_eq (key i) k) (first_of-map k is)
  where
    go : (b : Bool) → first_of k (map row is) ≡ value_of is k
        → option_and_then (λ (r : Row). slice_get r.values 0) (cond b (Some (row i)) (find (λ (r : Row). bytes_eq r.id k) (map row is)))
        ≡ (if b then Some (value_in i) else value_of is k)
    go true h = refl
    go false h = h
