-- The values of names don't depend on variables, where no definition mentions one.
use Rattle.std.proofs.Common.{◌≡◌, ℕ, List, [], ◌∷◌, refl, ap, ◌∙◌, subst, true, false}
use Rattle.std.specs.Prelude.{ℤ, pos, Bool, if◌then◌else◌, Option, Some, None}
use Rattle.std.specs.List.{list_any}
use Rattle.std.proofs.lemmas.List.Elements.{All-nil}
use Rattle.qs_events.specs.Weights.{Costs}
use Rattle.qs_assert.specs.declared.define.Define.{Define}
use Rattle.qs_assert.specs.declared.variable.Var.{Var}
use Rattle.qs_assert.specs.Bounds.{Setting, same_name, is_defined, with_definition, with_definitions}
use Rattle.qs_assert.specs.Order.{IsInOrder}
use Rattle.qs_assert.specs.Substitution.{same_variable}
use Rattle.qs_assert.specs.Trees.{CondTree, AssertionTree}
use Rattle.qs_assert.specs.Values.{State, Extended, holds, value}
use Rattle.qs_assert.specs.Variables.{variables, mentions}
use Rattle.qs_assert.proofs.VariableLaws.{of_its_variables}
use Rattle.qs_entail.specs.Certificates.{CertTree}
use Rattle.qs_entail.specs.Meaning.{AtLeast, InRange}
use Rattle.qs_entail.specs.Verdicts.{verdict}
use Rattle.qs_entail.proofs.Definitions.{only_names}
use Rattle.qs_entail.proofs.Soundness.{certificates_are_sound}
use Rattle.qs_triples.specs.Valuations.{state_of}
use Rattle.qs_triples.specs.Entries.{AreClosed}

abbrev Names : Type 0
Names = List ℕ → Option Extended

-- an assertion that mentions no variable has one value
pub closed_value : (a : AssertionTree) (s : State) (f g : Var → ℤ) → variables a ≡ [] → value a (record s { at = f }) ≡ value a (record s { at = g })
closed_value a s f g none = of_its_variables a s f g (λ x h. absurd (no_mention x h))
  where
    no_mention : (x : Var) → mentions a x ≡ true → ⊥
    no_mention x h = let same = ap (λ (xs : List Var). list_any (λ y. same_variable y x) xs) none in cc

module _ (costs : ℕ → ℕ) where
  abbrev state : (Var → ℤ) → Names → State
  state f e = record { at = f; costs = costs; names = e }

  abbrev setting : (Var → ℤ) → Names → (List ℕ → Bool) → Setting
  setting f e w = record { state = state f e; wides = w }

  abbrev more : (Var → ℤ) → Define → Names → Names
  more f d e = (with_definition d (setting f e (λ n. false))).state.names

  more_same : (d : Define) (f g : Var → ℤ) (e : Names) → variables d.body ≡ [] → more f d e ≡ more g d e
  more_same d f g e none =
      λ i n. if is_defined (state f e) n then e n else (if same_name n d.name then Some (closed_value d.body (state f e) f g none i) else None)

  names_same :
      (ds : List Define) (f g : Var → ℤ) (e : Names) (v w : List ℕ → Bool) → AreClosed ds
      → (with_definitions ds (setting f e v)).state.names ≡ (with_definitions ds (setting g e w)).state.names
  names_same [] f g e v w h = refl
  names_same (d ∷ ds) f g e v w h =
      names_same ds f g (more f d e) (with_definition d (setting f e v)).wides (with_definition d (setting g e w)).wides h.1
      ∙ last (more f d e) (more g d e) (more_same d f g e h.0)
    where
      last : (a b : Names) → a ≡ b → (with_definitions ds (setting g a (with_definition d (setting g e w)).wides)).state.names ≡ (with_definitions ds (setting g b (with_definition d (setting g e w)).wides)).state.names
      last a b same = ap (λ (e' : Names). (with_definitions ds (setting g e' (with_definition d (setting g e w)).wides)).state.names) same

-- ---- states

module _ (cost : Costs) (ds : List Define) where
  -- the state with these numbers for the variables
  abbrev pub seen : (Var → ℤ) → State
  seen f = record { at = f; costs = cost; names = (state_of cost ds (λ x. pos 0)).names }

  pub state_is : AreClosed ds → (f : Var → ℤ) → state_of cost ds f ≡ seen f
  state_is closed f =
      only_names ds (setting cost f (λ n. None) (λ n. false))
      ∙ ap (λ (e : Names). state cost f e) (names_same cost ds f (λ x. pos 0) (λ n. None) (λ n. false) (λ n. false) closed)

  -- what a certificate without a fault shows
  pub shown :
      AreClosed ds → IsInOrder ds → (p q : AssertionTree) (c : CertTree) → verdict [] ds p q c ≡ None
      → (f : Var → ℤ) → InRange (seen f) → AtLeast (value p (seen f)) (value q (seen f))
  shown closed order p q c fine f range =
      subst (λ (s : State). AtLeast (value p s) (value q s)) (state_is closed f)
      (certificates_are_sound [] ds p q c order fine (record { at = f; costs = cost; names = λ n. None })
      (record { from_least = range.from_least; to_greatest = range.to_greatest })
      (All-nil (λ (c : CondTree). holds c (state_of cost ds f) ≡ true)))
