-- A unit and a proof file come to one certified source, or have one fault; and what the code shows of these steps.
use Rattle.std.proofs.Common.{◌≡◌, ◌∙◌, ℕ, List, Option, Some, None, refl, sym, ap, subst, inl, inr, arith}
use Rattle.std.specs.Prelude.{Vec}
use Rattle.std.specs.declared.alloc.Global.{Global}
use Rattle.qs_syntax.specs.Trees.{UnitTree}
use Rattle.qs_assert.specs.Order.{IsInOrder}
use Rattle.qs_core.specs.FunctionNames.{function_name}
use Rattle.qs_core.specs.Trees.{CoreUnitTree}
use Rattle.qs_callgraph.specs.CallLists.{numbers}
use Rattle.qs_triples.specs.Derivations.{ProofsTree}
use Rattle.qs_triples.specs.declared.resource.Resource.TheVariants.{Stack}
use Rattle.qs_analyse.proofs.FillingLaws.{one_filling}
use Rattle.qs_analyse.specs.Fillable.{entry_functions}
use Rattle.qs_analyse.specs.Laws.{HasNoCycle}
use Rattle.qs_certify.specs.Certification.{AreAll, IsCertified, IsMisplaced, HasNoOrder, CannotCertify}
use Rattle.qs_certify.specs.Entries.{EntryFault, first_fault}
use Rattle.qs_certify.specs.declared.fault.CertifyFault.{CertifyFault}
use Rattle.qs_certify.specs.declared.fault.CertifyFault.TheVariants as faults
use Rattle.qs_certify.proofs.CompletedLaws.{has_member}
use Rattle.qs_certify.proofs.RefusalLaws.{no_place, none_of}
use Rattle.qs_ports.specs.StoreView.{StoreView}
use Rattle.qs_driver_steps.specs.Runs.{Halts, Passes, Halted, Passed}
use Rattle.qs_driver_steps.proofs.Laws.{IsSound, FindsOne, IsSingle, IsWithin, decides}
use Rattle.qs_driver_steps.proofs.ReadingLaws.{reading_sound, reading_one, decided, not_decided}
use Rattle.qs_driver_steps.proofs.ThenLaws.{then_single, then_within}
use Rattle.qs_driver_session.specs.Limits.{proof_limit}
use Rattle.qs_driver_session.specs.Origin.{origin}
use Rattle.qs_driver_session.specs.Statuses.{tool, exactly}
use Rattle.qs_driver_session.specs.Told.{place_of}
use Rattle.qs_driver_session.specs.declared.status.FileKind.TheVariants as kinds
use Rattle.qs_driver_session.specs.declared.status.ProofFault.{ProofFault}
use Rattle.qs_driver_session.specs.declared.status.ProofFault.TheVariants.{Text, Cycle, Order, Entry}
use Rattle.qs_driver_session.specs.declared.status.Status.{Status}
use Rattle.qs_driver_session.specs.declared.status.Status.TheVariants.{Proof, NoMemory}
use Rattle.qs_driver_session.proofs.OriginLaws.{origin_single, origin_within}
use Rattle.qs_driver_proofs.specs.Refusals.{Tells}
use Rattle.qs_driver_proofs.proofs.StepsLaws.{coring_sound, coring_one, is_core, text_sound, text_one, one_entry, is_given, wrong_text, no_proofs_memory, misplaced_same}
use Rattle.qs_driver.specs.Certified.{CertifyWords}
use Rattle.qs_driver_proofs.specs.Steps.{IsCoreOf, reading_proofs, order_status, EntryRefusal, entry_status, LacksDerivation}
use Rattle.qs_driver.specs.Proved.{proof_file, IsCycleOf, cycle_status, leaving_no_cycle, AreOrdered, filling, AreCovering, covering, source_of, of_file, proved, certified}
use Rattle.qs_driver_proofs.proofs.ToldPlaces.{told_by}

-- ---- cycles

module _ (core : CoreUnitTree) (given : ProofsTree) where
  abbrev NoneLeft : Unit {0} → Type 0
  NoneLeft u = HasNoCycle core given

  abbrev AreInTurn : Vec (List ℕ) Global → Type 0
  AreInTurn names = IsCycleOf core given names.items

  pub cycle_sound : IsSound (leaving_no_cycle core given)
  cycle_sound = decides tool 10 NoneLeft AreInTurn cycle_status (λ f g c d. refl) (λ f u c h. h c.functions c.cycle) (λ f. refl)

  pub cycle_one : FindsOne (leaving_no_cycle core given)
  cycle_one files y z h k = refl

  none_left : (v : StoreView) → HasNoCycle core given → Passes (leaving_no_cycle core given) v v tt
  none_left v h = decided 10 NoneLeft AreInTurn cycle_status v tt h

  in_turn : (v : StoreView) (names : Vec (List ℕ) Global) → IsCycleOf core given names.items → Halts (leaving_no_cycle core given) v v (cycle_status names)
  in_turn v names c = not_decided 10 NoneLeft AreInTurn cycle_status v names c

-- ---- the order of definitions

module _ (core : CoreUnitTree) (given : ProofsTree) where
  same_all : (a b : ProofsTree) → AreAll core given a → AreAll core given b → a ≡ b
  same_all a b h k = one_filling core given a b h.filling k.filling

  one_order : (name other : List ℕ) → HasNoOrder core given name → HasNoOrder core given other → exactly (order_status name) ≡ exactly (order_status other)
  one_order name other c d =
      let proofs : c.proofs ≡ d.proofs = same_all c.proofs d.proofs c.all d.all in
      ap (λ (x : List ℕ). exactly (Proof (Order x))) (misplaced_same d.proofs.defines name other (subst (λ (p : ProofsTree). IsMisplaced p.defines name) proofs c.misplaced) d.misplaced)

  no_disorder : (name : List ℕ) (proofs : ProofsTree) → HasNoOrder core given name → AreOrdered core given proofs → ⊥
  no_disorder name proofs c h =
      let same : proofs ≡ c.proofs = same_all proofs c.proofs h.all c.all in
      no_place c.proofs.defines c.misplaced.at (subst (λ (p : ProofsTree). IsInOrder p.defines) same h.in_order) c.misplaced.first

  abbrev Ordered : ProofsTree → Type 0
  Ordered proofs = AreOrdered core given proofs

  abbrev IsOut : List ℕ → Type 0
  IsOut name = HasNoOrder core given name

  pub filling_sound : IsSound (filling core given)
  filling_sound = decides tool 11 Ordered IsOut order_status one_order no_disorder (λ f. refl)

  pub filling_one : FindsOne (filling core given)
  filling_one files y z h k = same_all y z h.all k.all

  are_filled : (v : StoreView) (proofs : ProofsTree) → AreOrdered core given proofs → Passes (filling core given) v v proofs
  are_filled v proofs h = decided 11 Ordered IsOut order_status v proofs h

  out_of_order : (v : StoreView) (name : List ℕ) → HasNoOrder core given name → Halts (filling core given) v v (order_status name)
  out_of_order v name c = not_decided 11 Ordered IsOut order_status v name c

-- ---- the entries

module _ (core : CoreUnitTree) (given proofs : ProofsTree) where
  abbrev Cover : Unit {0} → Type 0
  Cover u = AreCovering core given proofs

  abbrev IsUnderived : EntryRefusal → Type 0
  IsUnderived f = LacksDerivation Stack core given proofs f.function (place_of f.spot) f.wrong

  pub all_derived : AreCovering core given proofs → first_fault core proofs (entry_functions given.functions) ≡ None
  all_derived h = none_of core given proofs h.all.filled h.covers.derived (entry_functions given.functions) (λ f m. has_member given f ∙ m)

  some_or_none : (e : EntryFault) → first_fault core proofs (entry_functions given.functions) ≡ Some e → first_fault core proofs (entry_functions given.functions) ≡ None → ⊥
  some_or_none e is none = cc

  pub covering_sound : IsSound (covering core given proofs)
  covering_sound = decides tool 12 Cover IsUnderived entry_status (one_entry Stack core given proofs) (λ f u c h. some_or_none _ c.first (all_derived h)) (λ f. refl)

  pub covering_one : FindsOne (covering core given proofs)
  covering_one files y z h k = refl

  are_covering : (v : StoreView) → AreCovering core given proofs → Passes (covering core given proofs) v v tt
  are_covering v h = decided 12 Cover IsUnderived entry_status v tt h

  underived : (v : StoreView) (f : EntryRefusal) → LacksDerivation Stack core given proofs f.function (place_of f.spot) f.wrong → Halts (covering core given proofs) v v (entry_status f)
  underived v f c = not_decided 12 Cover IsUnderived entry_status v f c

-- ---- together

pub file_single : (proof : Option (List ℕ)) → IsSingle (proof_file proof)
file_single None = tt
file_single (Some name) = (reading_sound tool 7 kinds.Derivation proof_limit name refl refl, reading_one tool 7 kinds.Derivation proof_limit name, (λ text. tt))

pub file_within : (proof : Option (List ℕ)) → IsWithin (proof_file proof) 7 8
file_within None = omega arith
file_within (Some name) = (omega arith, omega arith, (λ text. omega arith))

module _ (unit : UnitTree) (file : Option (List ℕ)) where
  of_file_single : IsSingle (of_file unit file)
  of_file_single = (
    coring_sound unit,
    coring_one unit,
    (λ core. (
      text_sound core file,
      text_one core file,
      (λ given. (
        cycle_sound core given,
        cycle_one core given,
        (λ u. (
          filling_sound core given,
          filling_one core given,
          (λ proofs.
              (covering_sound core given proofs, covering_one core given proofs, (λ v. tt))),
        )),
      )),
    )),
  )

  of_file_within : IsWithin (of_file unit file) 8 13
  of_file_within = (
    omega arith,
    omega arith,
    (λ core. (
      omega arith,
      omega arith,
      (λ given. (
        omega arith,
        omega arith,
        (λ u. (
          omega arith,
          omega arith,
          (λ proofs. (omega arith, omega arith, (λ v. omega arith))),
        )),
      )),
    )),
  )

pub proved_single : (proof : Option (List ℕ)) (unit : UnitTree) → IsSingle (proved proof unit)
proved_single proof unit = then_single (of_file unit) (proof_file proof) (file_single proof) (of_file_single unit)

pub proved_within : (proof : Option (List ℕ)) (unit : UnitTree) → IsWithin (proved proof unit) 7 13
proved_within proof unit = then_within (of_file unit) (proof_file proof) 7 8 13 (omega arith) (file_within proof) (of_file_within unit)

pub certified_single : (w : CertifyWords) → IsSingle (certified w)
certified_single w = then_single (proved w.proof) (origin w.source) (origin_single w.source) (proved_single w.proof)

pub certified_within : (w : CertifyWords) → IsWithin (certified w) 3 13
certified_within w = then_within (proved w.proof) (origin w.source) 3 7 13 (omega arith) (origin_within w.source) (proved_within w.proof)

-- it stands first, or behind the names
pub certified_from_first : (w : CertifyWords) → IsWithin (certified w) 1 13
certified_from_first w = (omega arith, omega arith, (certified_within w).2)

-- ---- what the code shows

module _ (unit : UnitTree) (file : Option (List ℕ)) (core : CoreUnitTree) (v : StoreView) (is : IsCoreOf unit core) where
  pub core_passes : (given proofs : ProofsTree) → IsCertified core file given proofs → Passed (of_file unit file) v v (source_of unit core given proofs)
  core_passes given proofs c = (
    v,
    core,
    is_core unit v core is,
    (
      v,
      given,
      is_given core file v given c.given_is,
      (
        v,
        tt,
        none_left core given v c.all.no_cycle,
        (
          v,
          proofs,
          are_filled core given v proofs (record { all = c.all; in_order = c.in_order }),
          (v, tt, are_covering core given proofs v (record { all = c.all; covers = c.covers }), (refl, refl)),
        ),
      ),
    ),
  )

  -- no memory was found behind the core
  pub core_wants_memory : Halted (of_file unit file) v v NoMemory
  core_wants_memory = inr (v, core, is_core unit v core is, inl (no_proofs_memory core file v))

  pub of_status : (told : ProofFault) (status : Status) → Halted (of_file unit file) v v (Proof told) → status ≡ Proof told → Halted (of_file unit file) v v status
  of_status told status h e = subst (λ (x : Status). Halted (of_file unit file) v v x) (sym e) h

  -- the cause is told at its step, and the steps before pass
  pub core_stops : (fault : CertifyFault) (told : ProofFault) → CannotCertify core file fault → Tells core file fault told → Halted (of_file unit file) v v (Proof told)
  core_stops faults.NoMemory told c t = absurd t
  core_stops (faults.Text fault) told c (pos, e, place) =
      let halts : Halts (reading_proofs core file) v v (Proof (Text fault pos)) = wrong_text core file v (record { fault = fault; pos = pos }) (record { first = c; place = place }) in
      inr (v, core, is_core unit v core is, inl (subst (λ (x : ProofFault). Halts (reading_proofs core file) v v (Proof x)) (sym e) halts))
  core_stops (faults.Cycle fs) told c (names, e, are) =
      let halts : Halts (leaving_no_cycle core c.given) v v (Proof (Cycle names)) = in_turn core c.given v names (record { functions = numbers fs.items; named = are; cycle = c.so }) in
      inr (v, core, is_core unit v core is, inr (v, c.given, is_given core file v c.given c.given_is, inl (subst (λ (x : ProofFault). Halts (leaving_no_cycle core c.given) v v (Proof x)) (sym e) halts)))
  core_stops (faults.Order name) told c e =
      let halts : Halts (filling core c.given) v v (Proof (Order name)) = out_of_order core c.given v name c.so in
      inr (v, core, is_core unit v core is, inr (v, c.given, is_given core file v c.given c.given_is, inr (v, tt, none_left core c.given v c.so.all.no_cycle, inl (subst (λ (x : ProofFault). Halts (filling core c.given) v v (Proof x)) (sym e) halts))))
  core_stops (faults.Entry f fault) told c (spot, text, e, t) =
      let first = c.so.first in
      let by = told_by core f.0 fault first.fault spot text first.is_told t in
      let lacks : LacksDerivation Stack core c.given c.so.proofs (function_name core f.0) (place_of spot) text = record { function = f.0; fault = first.fault; named = refl; first = first.first; place_is = by.place; wrong_is = by.wrong } in
      let halts : Halts (covering core c.given c.so.proofs) v v (Proof (Entry (function_name core f.0) spot text)) = underived core c.given c.so.proofs v (record { function = function_name core f.0; spot = spot; wrong = text }) lacks in
      inr (v, core, is_core unit v core is, inr (v, c.given, is_given core file v c.given c.given_is, inr (v, tt, none_left core c.given v c.so.all.no_cycle, inr (v, c.so.proofs, are_filled core c.given v c.so.proofs (record { all = c.so.all; in_order = c.so.in_order }), inl (subst (λ (x : ProofFault). Halts (covering core c.given c.so.proofs) v v (Proof x)) (sym e) halts)))))
