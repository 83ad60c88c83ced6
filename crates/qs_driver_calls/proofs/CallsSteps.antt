-- `calls` is a good command: its steps are sound, and stand in their order.
use Rattle.std.proofs.Common.{◌≡◌, ◌∙◌, ℕ, ◌≤◌, true, false, ℤ, List, Some, None, refl, sym, ap, inl, arith}
use Rattle.qs_syntax.specs.Trees.{UnitTree}
use Rattle.qs_memory.specs.declared.scalar.Scalar.{Scalar}
use Rattle.qs_assert.specs.Order.{IsInOrder}
use Rattle.qs_core.specs.FunctionNames.{function_name}
use Rattle.qs_core.specs.Interfaces.{main_types}
use Rattle.qs_core.specs.Trees.{CoreUnitTree}
use Rattle.qs_triples.specs.Derivations.{ProofsTree}
use Rattle.qs_triples.specs.declared.resource.Resource.TheVariants.{Calls}
use Rattle.qs_analyse.specs.Fillable.{entry_functions}
use Rattle.qs_certify.specs.Bound.{AreNumbersOf}
use Rattle.qs_certify.specs.Certification.{IsMisplaced}
use Rattle.qs_certify.specs.Entries.{EntryFault, first_fault_for}
use Rattle.qs_certify.proofs.RefusalLaws.{no_place}
use Rattle.qs_count.specs.Counted.{AreCounted}
use Rattle.qs_count.specs.Covered.{IsCovered}
use Rattle.qs_count.proofs.CheckLaws.{none_first}
use Rattle.qs_ports.specs.StoreView.{StoreView}
use Rattle.qs_cli.specs.Commands.{CallsWords}
use Rattle.qs_driver_steps.specs.Runs.{Halts, Passes}
use Rattle.qs_driver_steps.specs.Steps.{end_status}
use Rattle.qs_driver_steps.proofs.Laws.{IsSound, FindsOne, IsSingle, IsWithin, IsLawful, IsFrom, IsGood, decides}
use Rattle.qs_driver_steps.proofs.ReadingLaws.{reading_sound, reading_one, decided, not_decided, undecided}
use Rattle.qs_driver_steps.proofs.ThenLaws.{then_lawful, then_from}
use Rattle.qs_driver_session.specs.Limits.{proof_limit}
use Rattle.qs_driver_session.specs.Origin.{origin}
use Rattle.qs_driver_session.specs.Shared.{ArgumentFault, count_differs, misfit}
use Rattle.qs_driver_session.specs.Statuses.{tool, exactly, seen_as, number_of}
use Rattle.qs_driver_session.specs.Told.{place_of}
use Rattle.qs_driver_session.specs.declared.status.FileKind.TheVariants as kinds
use Rattle.qs_driver_session.specs.declared.status.ProofFault.TheVariants.{NoEntry, Order}
use Rattle.qs_driver_session.specs.declared.status.Status.TheVariants.{Proof, Words, NoMemory}
use Rattle.qs_driver_session.specs.declared.status.WordsFault.TheVariants.{ArgRange}
use Rattle.qs_driver_session.proofs.OriginLaws.{origin_single, origin_within}
use Rattle.qs_driver_proofs.specs.Steps.{order_status, EntryRefusal, entry_status, LacksDerivation}
use Rattle.qs_driver_proofs.proofs.NumberLaws.{as_many, one_unfit, none_unfit}
use Rattle.qs_driver_proofs.proofs.StepsLaws.{coring_sound, coring_one, text_sound, text_one, misplaced_same, one_entry}
use Rattle.qs_driver_calls.specs.Calls.{LacksEntry, entry_wanted, having_entries, ordering, counting, counted_proofs, HasMisfit, misfit_status, fitting_types, of_proofs, of_core, of_unit, calls}

-- ---- a function that needs an entry

both_first : (a b : ℕ) → a ≤ b → b ≤ a → a ≡ b
both_first a b h k = omega arith

module _ (core : CoreUnitTree) (given : ProofsTree) where
  abbrev Covered : Unit {0} → Type 0
  Covered u = IsCovered core given

  abbrev IsWanting : List ℕ → Type 0
  IsWanting name = LacksEntry core given name

  -- one function is the first
  pub one_wanting : (a b : List ℕ) → LacksEntry core given a → LacksEntry core given b → a ≡ b
  one_wanting a b c d =
      let same : c.function ≡ d.function = both_first c.function d.function (c.first.first d.function d.first.missing) (d.first.first c.function c.first.missing) in
      c.named ∙ ap (function_name core) same ∙ sym d.named

  never_both : (name : List ℕ) → LacksEntry core given name → IsCovered core given → ⊥
  never_both name c covered =
      let never : true ≡ false = sym (covered c.function c.first.missing.needed) ∙ c.first.missing.none in
      (let no : ⊥ = cc in no)

  pub entries_sound : IsSound (having_entries core given)
  entries_sound = decides tool 10 Covered IsWanting entry_wanted (λ a b c d. ap (λ (x : List ℕ). exactly (Proof (NoEntry x))) (one_wanting a b c d)) (λ name u c h. never_both name c h) (λ name. refl)

  pub entries_one : FindsOne (having_entries core given)
  entries_one files y z h k = refl

  pub have_entries : (v : StoreView) → IsCovered core given → Passes (having_entries core given) v v tt
  have_entries v h = decided 10 Covered IsWanting entry_wanted v tt h

  pub entry_lacks : (v : StoreView) (name : List ℕ) → LacksEntry core given name → Halts (having_entries core given) v v (entry_wanted name)
  entry_lacks v name c = not_decided 10 Covered IsWanting entry_wanted v name c

  pub no_name_memory : (v : StoreView) → Halts (having_entries core given) v v NoMemory
  no_name_memory v = undecided 10 Covered IsWanting entry_wanted v

-- ---- the order of definitions

module _ (given : ProofsTree) where
  abbrev InOrder : Unit {0} → Type 0
  InOrder u = IsInOrder given.defines

  abbrev IsOut : List ℕ → Type 0
  IsOut name = IsMisplaced given.defines name

  pub ordering_sound : IsSound (ordering given)
  ordering_sound = decides tool 11 InOrder IsOut order_status (λ a b c d. ap (λ (x : List ℕ). exactly (Proof (Order x))) (misplaced_same given.defines a b c d)) (λ name u c h. no_place given.defines c.at h c.first) (λ name. refl)

  pub ordering_one : FindsOne (ordering given)
  ordering_one files y z h k = refl

  pub are_ordered : (v : StoreView) → IsInOrder given.defines → Passes (ordering given) v v tt
  are_ordered v h = decided 11 InOrder IsOut order_status v tt h

  pub out_of_order : (v : StoreView) (name : List ℕ) → IsMisplaced given.defines name → Halts (ordering given) v v (order_status name)
  out_of_order v name c = not_decided 11 InOrder IsOut order_status v name c

  pub no_check_memory : (v : StoreView) → Halts (ordering given) v v NoMemory
  no_check_memory v = undecided 11 InOrder IsOut order_status v

-- ---- the entries

module _ (core : CoreUnitTree) (given : ProofsTree) where
  abbrev Counted : Unit {0} → Type 0
  Counted u = AreCounted core given

  abbrev IsUncounted : EntryRefusal → Type 0
  IsUncounted f = LacksDerivation Calls core given given f.function (place_of f.spot) f.wrong

  some_or_none : (e : EntryFault) → first_fault_for Calls core given (entry_functions given.functions) ≡ Some e → first_fault_for Calls core given (entry_functions given.functions) ≡ None → ⊥
  some_or_none e is none = cc

  -- entries that are derived have no first that isn't
  pub never_first : (e : EntryFault) → first_fault_for Calls core given (entry_functions given.functions) ≡ Some e → AreCounted core given → ⊥
  never_first e is are = some_or_none e is (none_first core given are)

  pub counting_sound : IsSound (counting core given)
  counting_sound = decides tool 12 Counted IsUncounted entry_status (one_entry Calls core given given) (λ f u c h. never_first _ c.first h) (λ f. refl)

  pub counting_one : FindsOne (counting core given)
  counting_one files y z h k = refl

  pub are_counted : (v : StoreView) → AreCounted core given → Passes (counting core given) v v tt
  are_counted v h = decided 12 Counted IsUncounted entry_status v tt h

  pub uncounted : (v : StoreView) (f : EntryRefusal) → LacksDerivation Calls core given given f.function (place_of f.spot) f.wrong → Halts (counting core given) v v (entry_status f)
  uncounted v f c = not_decided 12 Counted IsUncounted entry_status v f c

-- ---- the proofs

pub proofs_single : (core : CoreUnitTree) (text : List ℕ) → IsSingle (counted_proofs core text)
proofs_single core text = (
  text_sound core (Some text),
  text_one core (Some text),
  (λ given. (
    entries_sound core given,
    entries_one core given,
    (λ u. (
      ordering_sound given,
      ordering_one given,
      (λ x. (counting_sound core given, counting_one core given, (λ y. tt))),
    )),
  )),
)

proofs_within : (core : CoreUnitTree) (text : List ℕ) → IsWithin (counted_proofs core text) 9 13
proofs_within core text = (
  omega arith,
  omega arith,
  (λ given. (
    omega arith,
    omega arith,
    (λ u. (omega arith, omega arith, (λ x. (omega arith, omega arith, (λ y. omega arith))))),
  )),
)

-- ---- the arguments

module _ (types : List Scalar) (args : List ℤ) where
  one_misfit : (f g : ArgumentFault) → HasMisfit types args f → HasMisfit types args g → seen_as (misfit_status types args f) ≡ seen_as (misfit_status types args g)
  one_misfit count_differs count_differs c d = refl
  one_misfit count_differs (misfit i) c d = absurd (c.differ d.count)
  one_misfit (misfit i) count_differs c d = absurd (d.differ c.count)
  one_misfit (misfit i) (misfit j) c d = ap (λ (k : ℕ). exactly (Words (ArgRange k))) (one_unfit types args i j c.first d.first)

  pub no_misfit : (f : ArgumentFault) → HasMisfit types args f → AreNumbersOf types args → ⊥
  no_misfit count_differs c h = c.differ (as_many types args h)
  no_misfit (misfit i) c h = none_unfit types args i h c.first

  misfit_number : (f : ArgumentFault) → number_of (misfit_status types args f) ≡ 15
  misfit_number count_differs = refl
  misfit_number (misfit i) = refl

  abbrev Fit : Unit {0} → Type 0
  Fit u = AreNumbersOf types args

  pub types_sound : IsSound (fitting_types types args)
  types_sound = decides tool 15 Fit (HasMisfit types args) (misfit_status types args) one_misfit (λ f u c h. no_misfit f c h) misfit_number

  pub types_one : FindsOne (fitting_types types args)
  types_one files y z h k = refl

  pub types_fit : (v : StoreView) → AreNumbersOf types args → Passes (fitting_types types args) v v tt
  types_fit v h = decided 15 Fit (HasMisfit types args) (misfit_status types args) v tt h

  pub types_unfit : (v : StoreView) (f : ArgumentFault) → HasMisfit types args f → Halts (fitting_types types args) v v (misfit_status types args f)
  types_unfit v f c = not_decided 15 Fit (HasMisfit types args) (misfit_status types args) v f c

-- ---- together

module _ (w : CallsWords) where
  proofs_lawful : (core : CoreUnitTree) (given : ProofsTree) → IsLawful end_status (of_proofs w core given)
  proofs_lawful core given = (types_sound (main_types core) w.args, inl (types_one (main_types core) w.args), (λ u. tt))

  proofs_from : (core : CoreUnitTree) (given : ProofsTree) → IsFrom end_status (of_proofs w core given) 13
  proofs_from core given = (omega arith, omega arith, (λ u. (refl, omega arith)))

  core_lawful : (text : List ℕ) (core : CoreUnitTree) → IsLawful end_status (of_core w text core)
  core_lawful text core = then_lawful end_status (of_proofs w core) (counted_proofs core text) (proofs_single core text) (proofs_lawful core)

  core_from : (text : List ℕ) (core : CoreUnitTree) → IsFrom end_status (of_core w text core) 9
  core_from text core = then_from end_status (of_proofs w core) (counted_proofs core text) 9 13 (omega arith) (proofs_within core text) (proofs_from core)

  unit_lawful : (unit : UnitTree) → IsLawful end_status (of_unit w unit)
  unit_lawful unit = (
    reading_sound tool 7 kinds.Derivation proof_limit w.proof refl refl,
    inl (reading_one tool 7 kinds.Derivation proof_limit w.proof),
    (λ text. (coring_sound unit, inl (coring_one unit), (λ core. core_lawful text core))),
  )

  pub unit_from : (unit : UnitTree) → IsFrom end_status (of_unit w unit) 7
  unit_from unit = (omega arith, omega arith, (λ text. (omega arith, omega arith, (λ core. core_from text core))))

  pub calls_good : IsGood (calls w)
  calls_good = record {
    lawful = then_lawful end_status (of_unit w) (origin w.source) (origin_single w.source) unit_lawful;
    ordered = then_from end_status (of_unit w) (origin w.source) 1 7 (omega arith) (omega arith, omega arith, (origin_within w.source).2) unit_from;
  }
