-- Where a fault of an entry is told, and what is said there, computed from the definitions.
use Rattle.std.proofs.Common.{◌≡◌, [], ◌∷◌, codes, Some, None, refl}
use Rattle.qs_poly.specs.declared.fault.PolyFault.TheVariants.{ManyTerms}
use Rattle.qs_assert.specs.declared.variable.NumberType.TheVariants as numbers
use Rattle.qs_assert.specs.declared.variable.VarKind.{VarKind}
use Rattle.qs_assert.specs.declared.variable.VarKind.TheVariants as kinds
use Rattle.qs_assert.specs.declared.variable.Var.{Var}
use Rattle.qs_entail.specs.Faults.{step, limit}
use Rattle.qs_entail.specs.declared.fault.Rule.TheVariants as rules
use Rattle.qs_entail.specs.declared.stop.Limit.TheVariants.{Terms}
use Rattle.qs_prooftext_meaning.proofs.Examples.{u}
use Rattle.qs_triples.specs.Rules.{in_precondition, in_postcondition, at_node, shape, mentions, certificate, entry}
use Rattle.qs_report.specs.declared.fault_texts.Path.{Path}
use Rattle.qs_report.specs.declared.fault_texts.ProofText.TheVariants as wrongs
use Rattle.qs_report.specs.declared.fault_texts.Spot.TheVariants as spots
use Rattle.qs_driver_session.specs.Told.{at_precondition, at_postcondition, at_entry, at_body, at_certificate, place_of, fault_place, fault_text}

-- the number `n` of the unit's `unsigned f(unsigned n, int q)`; its `void g(void)` has no variables
abbrev n : VarKind → Var
n kind = record { kind = kind; number = numbers.Unsigned }

-- ---- places

a_shape : fault_place (shape (1 ∷ 0 ∷ [])) ≡ at_body (1 ∷ 0 ∷ [])
a_shape = refl

a_step_at_a_node : fault_place (certificate (2 ∷ []) (step (0 ∷ 1 ∷ []) rules.Via)) ≡ at_certificate (2 ∷ []) (0 ∷ 1 ∷ [])
a_step_at_a_node = refl

a_limit_at_the_entry : fault_place (entry (limit (3 ∷ []) ManyTerms)) ≡ at_entry (3 ∷ [])
a_limit_at_the_entry = refl

a_mention_in_the_precondition : fault_place (mentions in_precondition None (n (kinds.Old 0))) ≡ at_precondition
a_mention_in_the_precondition = refl

a_mention_in_the_postcondition : fault_place (mentions in_postcondition None (n (kinds.Plain 0))) ≡ at_postcondition
a_mention_in_the_postcondition = refl

a_mention_at_a_node : fault_place (mentions (at_node (4 ∷ [])) (Some 0) (n (kinds.Plain 0))) ≡ at_body (4 ∷ [])
a_mention_at_a_node = refl

-- the line tells the path of the node, and then that in its certificate
the_place_of_a_line : (node inner : Path) → place_of (spots.BodyCert node inner) ≡ at_certificate node.steps.items inner.steps.items
the_place_of_a_line node inner = refl

-- ---- texts

a_rule : fault_text u 0 (certificate [] (step [] rules.Arithmetic)) ≡ wrongs.Step rules.Arithmetic
a_rule = refl

a_limit : fault_text u 0 (entry (limit [] ManyTerms)) ≡ wrongs.Limit Terms
a_limit = refl

its_own_variable : fault_text u 0 (mentions in_postcondition None (n (kinds.Old 0))) ≡ wrongs.Mentions (codes "(old n)")
its_own_variable = refl

-- in the entry of g at a call of f
a_variable_of_what_is_called : fault_text u 1 (mentions (at_node []) (Some 0) (n (kinds.Plain 0))) ≡ wrongs.Mentions (codes "n")
a_variable_of_what_is_called = refl
