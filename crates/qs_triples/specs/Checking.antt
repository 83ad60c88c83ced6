-- The first fault of an entry, as the code looks for it.
use Rattle.std.specs.Prelude.{ℕ, [], Option}
use Rattle.std.specs.Option.{option_or}
use Rattle.qs_base.specs.Results.{fault_or}
use Rattle.qs_assert.specs.Images.{assertion_image}
use Rattle.qs_assert.specs.Trees.{AssertionTree}
use Rattle.qs_core.specs.Trees as core
use Rattle.qs_core.specs.TreeOf.{function_tree}
use Rattle.qs_core.specs.UnitTrees.{unit_tree}
use Rattle.qs_core.specs.declared.unit.CoreUnit.{CoreUnit}
use Rattle.qs_core.specs.declared.units.CoreFunction.{CoreFunction}
use Rattle.qs_entail.specs.Verdicts.{verdict}
use Rattle.qs_triples.specs.Derivations.{EntryTree}
use Rattle.qs_triples.specs.Entries.{function_posts, mentions_fault, entry_told, result_at_end, fault_in_for, entry_fault_for, function_fault_for, HasDerivedEntryFor, function_fault, HasDerivedEntry}
use Rattle.qs_triples.specs.Mentions.{in_pre, in_post, first_other, as_plain}
use Rattle.qs_triples.specs.Rules as rules
use Rattle.qs_triples.specs.Rules.{in_precondition, in_postcondition, Answer, Scope, pre}
use Rattle.qs_triples.specs.Told.{FailsAs, IsDue}
use Rattle.qs_triples.specs.TreeOf.{entry_tree, proofs_tree}
use Rattle.qs_triples.specs.declared.derivation.FunctionProof.{FunctionProof}
use Rattle.qs_triples.specs.declared.derivation.Proofs.{Proofs}
use Rattle.qs_triples.specs.declared.failure.Failure.{Failure}
use Rattle.qs_triples.specs.declared.fault.DerivFault.{DerivFault}
use Rattle.qs_triples.specs.declared.resource.Resource.{Resource}

-- that the precondition is at least what the body needs
abbrev pub entry_certificate : Scope → EntryTree → (needed : AssertionTree) → Option rules.DerivFault
entry_certificate c e p = entry_told (verdict [] c.defines e.spec.pre (assertion_image as_plain p) e.entry)

abbrev pub body_fault : Scope → EntryTree → Option rules.DerivFault
body_fault c e =
    fault_or (λ fault. fault)
    (pre e.body c (core.seq c.function.body) (function_posts e.spec.post))
    (entry_certificate c e)

-- the definitions aside
abbrev pub first_fault : Scope → EntryTree → Option rules.DerivFault
first_fault c e =
    option_or (mentions_fault in_precondition (first_other c.function (in_pre c.function) e.spec.pre))
    (option_or (mentions_fault in_postcondition (first_other c.function (in_post c.function) e.spec.post))
    (option_or (mentions_fault in_postcondition (result_at_end c.function e.spec.post))
    (body_fault c e)))

-- the fault of a walk that fails so, whatever its certificate would show
abbrev pub WasDue : Failure → DerivFault → Type 0
WasDue failure fault =
    (answer : Answer) (others : AssertionTree → Option rules.DerivFault)
    → FailsAs failure answer → IsDue fault (fault_or (λ fault. fault) answer others)

-- ---- of the code's values: an entry whose function is known, one that is found, and the first of a function

abbrev pub known_entry_fault : Resource → CoreUnit → CoreFunction → Proofs → FunctionProof → Option rules.DerivFault
known_entry_fault resource unit f proofs e =
    fault_in_for resource (unit_tree unit) (proofs_tree proofs) (function_tree f) (entry_tree e)

abbrev pub found_entry_fault : Resource → CoreUnit → Proofs → FunctionProof → Option rules.DerivFault
found_entry_fault resource unit proofs e = entry_fault_for resource (unit_tree unit) (proofs_tree proofs) (entry_tree e)

abbrev pub first_entry_fault_for : Resource → CoreUnit → (function : ℕ) → Proofs → Option rules.DerivFault
first_entry_fault_for resource unit f proofs = function_fault_for resource (unit_tree unit) (proofs_tree proofs) f

abbrev pub FirstEntryIsDerivedFor : Resource → CoreUnit → (function : ℕ) → Proofs → Type 0
FirstEntryIsDerivedFor resource unit f proofs = HasDerivedEntryFor resource (unit_tree unit) (proofs_tree proofs) f

-- on the stack
abbrev pub first_entry_fault : CoreUnit → (function : ℕ) → Proofs → Option rules.DerivFault
first_entry_fault unit f proofs = function_fault (unit_tree unit) (proofs_tree proofs) f

abbrev pub FirstEntryIsDerived : CoreUnit → (function : ℕ) → Proofs → Type 0
FirstEntryIsDerived unit f proofs = HasDerivedEntry (unit_tree unit) (proofs_tree proofs) f
