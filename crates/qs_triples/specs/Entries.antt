-- Entries: which are derived, for the stack or for calls, which hold along the paths of calls, and when all functions have
-- valid ones.
use Rattle.std.specs.Prelude.{◌≡◌, ◌⊎◌, ℕ, ◌<◌, Bool, true, false, List, [], ◌∷◌, length, Option, Some, None, is_some}
use Rattle.std.specs.List.{slice_get}
use Rattle.std.specs.Option.{option_or}
use Rattle.qs_base.specs.Results.{fault_or}
use Rattle.qs_memory.specs.Values.{Value}
use Rattle.qs_events.specs.Weights.{Costs}
use Rattle.qs_assert.specs.declared.define.Define.{Define}
use Rattle.qs_assert.specs.declared.variable.VarKind.TheVariants as kinds
use Rattle.qs_assert.specs.declared.variable.Var.{Var}
use Rattle.qs_assert.specs.Images.{assertion_image}
use Rattle.qs_assert.specs.Order.{order_fault}
use Rattle.qs_assert.specs.Trees.{AssertionTree}
use Rattle.qs_assert.specs.Values.{finite, plus}
use Rattle.qs_assert.specs.Variables.{variables}
use Rattle.qs_entail.specs.Faults as certificates
use Rattle.qs_entail.specs.Meaning.{AtLeast}
use Rattle.qs_entail.specs.Verdicts.{verdict}
use Rattle.qs_core.specs.Trees as core
use Rattle.qs_core.specs.Trees.{CoreStmtTree, CoreStmts, no_stmts, stmt_and, CoreFunctionTree, CoreUnitTree}
use Rattle.qs_core.specs.CallGraph.{HasCall}
use Rattle.qs_triples.specs.declared.resource.Resource.{Resource}
use Rattle.qs_triples.specs.declared.resource.Resource.TheVariants.{Stack}
use Rattle.qs_triples.specs.Derivations.{EntryTree, ProofsTree, entry_of, entries_of, spec_of}
use Rattle.qs_triples.specs.Valuations.{value_at_entry}
use Rattle.qs_triples.specs.Mentions.{in_pre, in_post, first_other, first_of, as_plain}
use Rattle.qs_triples.specs.Rules.{Place, in_precondition, in_postcondition, DerivFault, shape, mentions, entry, bad_order, Posts, Scope, pre}

-- ---- derived entries, for what is bounded

abbrev pub is_return : CoreStmtTree → Bool
is_return (core.return e) = true
is_return core.skip = false
is_return (core.seq ss) = false
is_return (core.assign x e) = false
is_return (core.store s to e) = false
is_return (core.copy size alignment to from) = false
is_return (core.fill contents to) = false
is_return (core.call x g es) = false
is_return (core.branch e s t) = false
is_return (core.loop body step) = false
is_return (core.switch e labels ss) = false
is_return core.break = false
is_return core.continue = false

abbrev pub ends_in_return : CoreStmts → Bool
ends_in_return no_stmts = false
ends_in_return (stmt_and s no_stmts) = is_return s
ends_in_return (stmt_and s (stmt_and t ss)) = ends_in_return (stmt_and t ss)

-- in each way in which a body can be left, its function's postcondition is to hold
abbrev pub function_posts : (post : AssertionTree) → Posts
function_posts post = record { next = post; on_break = post; on_continue = post; on_return = post }

abbrev pub scope_for : Resource → CoreUnitTree → ProofsTree → CoreFunctionTree → Scope
scope_for resource u proofs f =
    record { resource = resource; function = f; functions = u.functions; specs = spec_of proofs; defines = proofs.defines }

abbrev pub mentions_fault : Place → Option Var → Option DerivFault
mentions_fault place None = None
mentions_fault place (Some x) = Some (mentions place None x)

abbrev pub order_told : Option ℕ → Option DerivFault
order_told None = None
order_told (Some d) = Some (bad_order d)

abbrev pub entry_told : Option certificates.CertFault → Option DerivFault
entry_told None = None
entry_told (Some fault) = Some (entry fault)

-- a body whose end can be met returns no value there, so the postcondition must not speak of it
abbrev pub result_at_end : CoreFunctionTree → (post : AssertionTree) → Option Var
result_at_end f post = elim (ends_in_return f.body) [ true ↦ None | false ↦ first_of kinds.Returned post ]

abbrev pub fault_in_for : Resource → CoreUnitTree → ProofsTree → CoreFunctionTree → EntryTree → Option DerivFault
fault_in_for resource u proofs f e =
    option_or (order_told (order_fault proofs.defines))
    (option_or (mentions_fault in_precondition (first_other f (in_pre f) e.spec.pre))
    (option_or (mentions_fault in_postcondition (first_other f (in_post f) e.spec.post))
    (option_or (mentions_fault in_postcondition (result_at_end f e.spec.post))
    (fault_or (λ fault. fault)
    (pre e.body (scope_for resource u proofs f) (core.seq f.body) (function_posts e.spec.post))
    (λ p. entry_told (verdict [] proofs.defines e.spec.pre (assertion_image as_plain p) e.entry))))))

abbrev pub fault_of_known_for : Resource → CoreUnitTree → ProofsTree → Option CoreFunctionTree → EntryTree → Option DerivFault
fault_of_known_for resource u proofs (Some f) e = fault_in_for resource u proofs f e
-- never asked
fault_of_known_for resource u proofs None e = Some (shape [])

-- the first fault of an entry, in the order of search
abbrev pub entry_fault_for : Resource → CoreUnitTree → ProofsTree → EntryTree → Option DerivFault
entry_fault_for resource u proofs e = fault_of_known_for resource u proofs (slice_get u.functions e.function) e

abbrev pub IsDerivedFor : Resource → CoreUnitTree → ProofsTree → EntryTree → Type 0
IsDerivedFor resource u proofs e = entry_fault_for resource u proofs e ≡ None

-- the first fault of the first entry of a function
abbrev pub fault_of_entry_for : Resource → CoreUnitTree → ProofsTree → Option EntryTree → Option DerivFault
fault_of_entry_for resource u proofs (Some e) = entry_fault_for resource u proofs e
-- never asked
fault_of_entry_for resource u proofs None = Some (shape [])

abbrev pub function_fault_for : Resource → CoreUnitTree → ProofsTree → (function : ℕ) → Option DerivFault
function_fault_for resource u proofs f = fault_of_entry_for resource u proofs (entry_of proofs f)

pub record HasDerivedEntryFor (resource : Resource) (u : CoreUnitTree) (proofs : ProofsTree) (function : ℕ) : Type 0 where
  pub entry_tree : EntryTree
  pub stands : entry_of proofs function ≡ Some entry_tree
  pub derived : IsDerivedFor resource u proofs entry_tree

-- ---- on the stack

abbrev pub scope_of : CoreUnitTree → ProofsTree → CoreFunctionTree → Scope
scope_of u proofs f = scope_for Stack u proofs f

abbrev pub fault_in : CoreUnitTree → ProofsTree → CoreFunctionTree → EntryTree → Option DerivFault
fault_in u proofs f e = fault_in_for Stack u proofs f e

abbrev pub fault_of_known : CoreUnitTree → ProofsTree → Option CoreFunctionTree → EntryTree → Option DerivFault
fault_of_known u proofs f e = fault_of_known_for Stack u proofs f e

abbrev pub entry_fault : CoreUnitTree → ProofsTree → EntryTree → Option DerivFault
entry_fault u proofs e = entry_fault_for Stack u proofs e

abbrev pub IsDerived : CoreUnitTree → ProofsTree → EntryTree → Type 0
IsDerived u proofs e = IsDerivedFor Stack u proofs e

abbrev pub fault_of_entry : CoreUnitTree → ProofsTree → Option EntryTree → Option DerivFault
fault_of_entry u proofs e = fault_of_entry_for Stack u proofs e

abbrev pub function_fault : CoreUnitTree → ProofsTree → (function : ℕ) → Option DerivFault
function_fault u proofs f = function_fault_for Stack u proofs f

abbrev pub HasDerivedEntry : CoreUnitTree → ProofsTree → (function : ℕ) → Type 0
HasDerivedEntry u proofs f = HasDerivedEntryFor Stack u proofs f

-- ---- path entries

-- At all costs and all arguments of g, the assertion is at least what a call of g needs. It mentions no variable, so its
-- value is the same at all arguments.
abbrev pub PaysFor : CoreUnitTree → ProofsTree → AssertionTree → (g : ℕ) → Type 0
PaysFor u proofs a g =
    (cost : Costs) (f : CoreFunctionTree) (e : EntryTree) (arguments : List Value)
    → slice_get u.functions g ≡ Some f → entry_of proofs g ≡ Some e
    → AtLeast (value_at_entry cost proofs.defines f arguments a)
    (plus (finite (cost g)) (value_at_entry cost proofs.defines f arguments e.spec.pre))

-- An entry that needs no derivation: what each call in the body needs is in the precondition, which mentions no
-- variable, so it is there at each call, and is given back at each return.
pub record IsPathEntry (u : CoreUnitTree) (proofs : ProofsTree) (e : EntryTree) : Type 0 where
  pub balanced : e.spec.post ≡ e.spec.pre
  pub closed : variables e.spec.pre ≡ []
  pub pays : (g : ℕ) → HasCall u e.function g → PaysFor u proofs e.spec.pre g

-- ---- definitions

-- A definition mentions no variable, so a name has one value in each state.
abbrev pub AreClosed : List Define → Type 0
AreClosed [] = Unit {0}
AreClosed (d ∷ ds) = (variables d.body ≡ []) × AreClosed ds

-- ---- valid entries

abbrev pub IsValid : CoreUnitTree → ProofsTree → EntryTree → Type 0
IsValid u proofs e = IsDerived u proofs e ⊎ IsPathEntry u proofs e

abbrev pub has_entry : ProofsTree → (function : ℕ) → Bool
has_entry proofs f = is_some (entry_of proofs f)

-- Each function of the unit has exactly one entry. Those of the functions that have one in the file are derived, the
-- others are valid.
pub record Covers (u : CoreUnitTree) (given proofs : ProofsTree) : Type 0 where
  -- what pays for a call has to do so at the callee's arguments too
  pub closed : AreClosed proofs.defines
  pub one : (f : ℕ) → f < length u.functions → length (entries_of proofs f) ≡ 1
  pub derived :
      (f : ℕ) (e : EntryTree) → f < length u.functions → has_entry given f ≡ true
      → entry_of proofs f ≡ Some e → IsDerived u proofs e
  pub valid :
      (f : ℕ) (e : EntryTree) → f < length u.functions → entry_of proofs f ≡ Some e
      → IsValid u proofs e
