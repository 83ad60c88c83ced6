-- A source and its proofs are refused exactly where their causes are, and pass where they are right, in each command that begins with them.
use Rattle.std.proofs.Common.{◌≡◌, ◌∙◌, ℕ, ◌<◌, ◌≤◌, true, false, List, Option, Some, None, refl, sym, ap, subst, inl, inr, arith}
use Rattle.std.proofs.lemmas.Option.{same_Some}
use Rattle.std.specs.Prelude.{Vec}
use Rattle.std.specs.declared.alloc.Global.{Global}
use Rattle.qs_base.specs.declared.places.Pos.{Pos}
use Rattle.qs_syntax.specs.Trees.{UnitTree}
use Rattle.qs_core.specs.CallGraph.{IsWithoutRecursion}
use Rattle.qs_core.specs.Trees.{CoreUnitTree}
use Rattle.qs_elaborate_bodies.specs.Units.{core_of}
use Rattle.qs_triples.specs.Derivations.{ProofsTree}
use Rattle.qs_triples.specs.declared.resource.Resource.TheVariants.{Stack}
use Rattle.qs_prooftext_meaning.specs.Proofs.{no_proofs}
use Rattle.qs_prooftext_meaning.specs.declared.fault.TextFault.{TextFault}
use Rattle.qs_analyse.specs.Fillable.{entry_functions}
use Rattle.qs_analyse.specs.Laws.{HasNoCycle}
use Rattle.qs_certify.specs.Certification.{HasNoOrder, OfGiven}
use Rattle.qs_certify.specs.Given.{GivenIs}
use Rattle.qs_certify.specs.Laws.{AreRightProofs}
use Rattle.qs_certify.proofs.CompletedLaws.{has_member}
use Rattle.qs_certify.proofs.RefusalLaws.{no_place, none_of}
use Rattle.qs_report.specs.declared.fault_texts.ProofText.{ProofText}
use Rattle.qs_report.specs.declared.fault_texts.Spot.{Spot}
use Rattle.qs_ports.specs.StoreView.{Files}
use Rattle.qs_driver_steps.specs.Files.{HoldsContent, IsTooLong}
use Rattle.qs_driver_steps.specs.Promises.{IsExact}
use Rattle.qs_driver_steps.specs.Reading.{absent, long}
use Rattle.qs_driver_steps.specs.Steps.{Command, first, then, Comes, Stops, end_status}
use Rattle.qs_driver_steps.proofs.Laws.{IsFrom}
use Rattle.qs_driver_steps.proofs.ReadingLaws.{not_absent, not_long}
use Rattle.qs_driver_steps.proofs.SharedLaws.{Leads, stops_shared, stops_later, comes_later, comes_behind, stand_from}
use Rattle.qs_driver_steps.proofs.ThenLaws.{then_from}
use Rattle.qs_driver_session.specs.Limits.{source_limit, proof_limit}
use Rattle.qs_driver_session.specs.Origin.{origin}
use Rattle.qs_driver_session.specs.Source.{IsTypedUnit, RefusesSource}
use Rattle.qs_driver_session.specs.Statuses.{tool, exactly, number_of}
use Rattle.qs_driver_session.specs.Told.{EntryPlace, place_of}
use Rattle.qs_driver_session.specs.declared.status.FileKind.TheVariants as kinds
use Rattle.qs_driver_session.specs.declared.status.ProofFault.TheVariants.{Text, Cycle, Order, Entry}
use Rattle.qs_driver_session.specs.declared.status.SourceFault.TheVariants.{TooLong}
use Rattle.qs_driver_session.specs.declared.status.Status.{Status}
use Rattle.qs_driver_session.specs.declared.status.Status.TheVariants.{Source, Proof, Missing}
use Rattle.qs_driver_session.proofs.OriginLaws.{origin_single, origin_within}
use Rattle.qs_driver_session.proofs.OriginRefusals.{source_refused}
use Rattle.qs_driver_proofs.specs.Refusals.{HasTextFaultAt}
use Rattle.qs_driver_proofs.proofs.SourceReads.{unit_leads, core_is, exactly_same}
use Rattle.qs_driver.specs.Certified.{CertifyWords, CertifiedSource, HoldsRight, HoldsRightProofs, HoldsProof, HoldsBoth, HoldsUnit, OfProof, LeavesCycle, IsCycleOf, IsCycleStatus, IsEntryStatus, RefusesCertified}
use Rattle.qs_driver.specs.Certified as meant
use Rattle.qs_driver_proofs.specs.Steps.{IsCoreOf, reading_proofs, LacksDerivation}
use Rattle.qs_driver.specs.Proved.{proof_file, leaving_no_cycle, filling, AreOrdered, AreCovering, source_of, of_proofs, of_given, of_core, of_file, proved, certified}
use Rattle.qs_driver.proofs.ProvedReads.{HoldsSource}
use Rattle.qs_driver_proofs.proofs.StepsLaws.{text_sound, text_one, one_lack}
use Rattle.qs_driver.proofs.ProvedLaws.{cycle_sound, cycle_one, filling_sound, filling_one, all_derived, file_single, file_within, proved_within}

-- ---- what the files give

file_leads : (files : Files) (proof file : Option (List ℕ)) → HoldsProof files proof file → Leads (proof_file proof) files file
file_leads files None file h = h
file_leads files (Some name) None h = absurd h
file_leads files (Some name) (Some text) h = (text, h, refl)

leads_file : (files : Files) (proof file : Option (List ℕ)) → Leads (proof_file proof) files file → HoldsProof files proof file
leads_file files None file e = e
leads_file files (Some name) file (text, h, e) = subst (λ (x : Option (List ℕ)). HoldsProof files (Some name) x) (sym e) h

-- proofs that stop nowhere, of the core of a unit
record HasRight (core : CoreUnitTree) (file : Option (List ℕ)) : Type 0 where
  given : ProofsTree
  given_is : GivenIs core file given
  right : AreRightProofs core given

never_true : false ≡ true → ⊥
never_true e = cc

nothing_is_right : (core : CoreUnitTree) → IsWithoutRecursion core → AreRightProofs core no_proofs
nothing_is_right core none = record {
  no_cycle = λ fs cycle. none fs cycle.circle;
  in_order = λ proofs all. all.derives.in_order refl;
  derived = λ proofs all f e within has is. absurd (never_true has);
}

-- the file of right proofs, if one is named
record HasRightFile (files : Files) (proof : Option (List ℕ)) (unit : UnitTree) : Type 0 where
  file : Option (List ℕ)
  there : HoldsProof files proof file
  right : (core : CoreUnitTree) → core_of unit ≡ Some core → HasRight core file

right_file : (files : Files) (proof : Option (List ℕ)) (unit : UnitTree) → HoldsRightProofs files proof unit → HasRightFile files proof unit
right_file files None unit h = record { file = None; there = refl; right = λ core is. record { given = no_proofs; given_is = refl; right = nothing_is_right core (h core is) } }
right_file files (Some name) unit h = record {
  file = Some h.content;
  there = h.holds;
  right = λ core is. (let r = h.has core is in record { given = r.given; given_is = r.reads; right = r.right });
}

-- ---- how far a command comes

module _ (w : CertifyWords) (next : CertifiedSource → Command tool) (files : Files) (status : Status) where
  abbrev ComesTo : Command tool → Type 0
  ComesTo c = Comes end_status c files status

  same_steps : (proof : Option (List ℕ)) (unit : UnitTree) → ComesTo (then (then (proof_file proof) (of_file unit)) next) → ComesTo (then (proof_file proof) (λ file. then (of_file unit file) next))
  same_steps None unit h = h
  same_steps (Some name) unit h = h

  -- past a source that is a typed unit
  past_source : (text : List ℕ) → HoldsContent (files w.source) source_limit text → (typed : IsTypedUnit text) → ComesTo (then (certified w) next) → ComesTo (then (proved w.proof typed.unit.trees) next)
  past_source text there typed h = comes_later end_status (λ unit. then (proved w.proof unit) next) (origin w.source) (origin_single w.source) files typed.unit.trees status (unit_leads w.source files text there typed) h

  -- past its proof file
  past_file : (text : List ℕ) → HoldsContent (files w.source) source_limit text → (typed : IsTypedUnit text) (file : Option (List ℕ)) → HoldsProof files w.proof file → ComesTo (then (certified w) next) → ComesTo (then (of_file typed.unit.trees file) next)
  past_file text there typed file held h = comes_later end_status (λ x. then (of_file typed.unit.trees x) next) (proof_file w.proof) (file_single w.proof) files file status (file_leads files w.proof file held) (same_steps w.proof typed.unit.trees (past_source text there typed h))

  -- and past its core
  past_core : (unit : UnitTree) (file : Option (List ℕ)) (core : CoreUnitTree) → core_of unit ≡ Some core → ComesTo (then (of_file unit file) next) → IsCoreOf unit core × ComesTo (then (of_core unit file core) next)
  past_core unit file core is (inl (f, c, e)) = absurd c
  past_core unit file core is (inr (found, found_is, rest)) =
      let same : found ≡ core = same_Some found core (sym (core_is unit found found_is) ∙ is) in
      (subst (λ (x : CoreUnitTree). IsCoreOf unit x) same found_is, subst (λ (x : CoreUnitTree). ComesTo (then (of_core unit file x) next)) same rest)

  past_both : (IsSo : CoreUnitTree → Option (List ℕ) → Type 0) (h : HoldsBoth w files IsSo) → ComesTo (then (certified w) next) → ComesTo (then (of_core h.typed.unit.trees h.file h.core) next)
  past_both IsSo h comes = (past_core h.typed.unit.trees h.file h.core h.core_is (past_file h.text h.there h.typed h.file h.proof_there comes)).1

  module _ (unit : UnitTree) (file : Option (List ℕ)) (core : CoreUnitTree) where
    past_text : (given : ProofsTree) → GivenIs core file given → ComesTo (then (of_core unit file core) next) → ComesTo (then (of_given unit core given) next)
    past_text given is h = comes_behind (reading_proofs core file) (text_sound core file) (text_one core file) files given is end_status (λ x. then (of_given unit core x) next) status h

    past_cycle : (given : ProofsTree) → HasNoCycle core given → ComesTo (then (of_given unit core given) next) → ComesTo (then (first (filling core given) (of_proofs unit core given)) next)
    past_cycle given none h = comes_behind (leaving_no_cycle core given) (cycle_sound core given) (cycle_one core given) files tt none end_status (λ u. then (first (filling core given) (of_proofs unit core given)) next) status h

    past_filling : (given proofs : ProofsTree) → AreOrdered core given proofs → ComesTo (then (first (filling core given) (of_proofs unit core given)) next) → ComesTo (then (of_proofs unit core given proofs) next)
    past_filling given proofs are h = comes_behind (filling core given) (filling_sound core given) (filling_one core given) files proofs are end_status (λ x. then (of_proofs unit core given x) next) status h

  -- ---- where the source and its proofs are right

  right_covers : (unit : UnitTree) (core : CoreUnitTree) (given proofs : ProofsTree) → AreOrdered core given proofs → AreRightProofs core given → ComesTo (then (of_proofs unit core given proofs) next) → AreCovering core given proofs × ComesTo (next (source_of unit core given proofs))
  right_covers unit core given proofs are right (inl (f, c, e)) =
      let none = none_of core given proofs are.all.filled (right.derived proofs are.all) (entry_functions given.functions) (λ g m. has_member given g ∙ m) in
      let is = c.first in
      absurd (let never : ⊥ = cc in never)
  right_covers unit core given proofs are right (inr (u, covers, rest)) = (covers, rest)

  right_fills : (unit : UnitTree) (core : CoreUnitTree) (given : ProofsTree) → AreRightProofs core given → ComesTo (then (first (filling core given) (of_proofs unit core given)) next) → (proofs : ProofsTree) × AreOrdered core given proofs × AreCovering core given proofs × ComesTo (next (source_of unit core given proofs))
  right_fills unit core given right (inl (name, c, e)) = absurd (no_place c.proofs.defines c.misplaced.at (right.in_order c.proofs c.all) c.misplaced.first)
  right_fills unit core given right (inr (proofs, are, rest)) =
      let there = right_covers unit core given proofs are right rest in
      (proofs, are, there.0, there.1)

  right_passes : (unit : UnitTree) (file : Option (List ℕ)) (core : CoreUnitTree) (given : ProofsTree) → GivenIs core file given → AreRightProofs core given → ComesTo (then (of_core unit file core) next) → (proofs : ProofsTree) × AreOrdered core given proofs × AreCovering core given proofs × ComesTo (next (source_of unit core given proofs))
  right_passes unit file core given is right h = right_fills unit core given right (past_cycle unit file core given right.no_cycle (past_text unit file core given is h))

  core_there : (unit : UnitTree) (file : Option (List ℕ)) → ComesTo (then (of_file unit file) next) → (core : CoreUnitTree) × IsCoreOf unit core × ComesTo (then (of_core unit file core) next)
  core_there unit file (inl (f, c, e)) = absurd c
  core_there unit file (inr (core, is, rest)) = (core, is, rest)

  -- the command goes on with the certified source
  pub right_comes : HoldsRight w files → ComesTo (then (certified w) next) → (s : CertifiedSource) × HoldsSource w files s × ComesTo (next s)
  right_comes h comes =
      let unit : UnitTree = h.typed.unit.trees in
      let of = right_file files w.proof unit h.proofs in
      let core = core_there unit of.file (past_file h.text h.there h.typed of.file of.there comes) in
      let right = of.right core.0 (core_is unit core.0 core.1) in
      let proofs = right_passes unit of.file core.0 right.given right.given_is right.right core.2 in (
        source_of unit core.0 right.given proofs.0,
        record {
          text = h.text;
          file = of.file;
          there = h.there;
          proof_there = of.there;
          is = record {
            typed_as = record { typed = h.typed; trees_are = refl };
            has_core = core.1.has_core;
            core_is = core.1.is;
            certified = record { given_is = right.given_is; all = proofs.1.all; in_order = proofs.1.in_order; covers = proofs.2.covers };
          };
        },
        proofs.3,
      )

  -- ---- a cause leads to its refusal

  module _ (comes : ComesTo (then (certified w) next)) where
    gone : (unit : UnitTree) (proof : Option (List ℕ)) (name : List ℕ) → proof ≡ Some name → files name ≡ None → ComesTo (then (then (proof_file proof) (of_file unit)) next) → status ≡ Missing kinds.Derivation
    gone unit None name is none h = absurd (let never : ⊥ = cc in never)
    gone unit (Some found) name is none (inl (absent, c, e)) = e
    gone unit (Some found) name is none (inl (long, c, e)) = let same : found ≡ name = cc in absurd (not_absent (files found) c.content (ap files same ∙ none) c.there)
    gone unit (Some found) name is none (inr (text, h, rest)) = let same : found ≡ name = cc in absurd (not_absent (files found) text (ap files same ∙ none) h.there)

    leads_missing : OfProof w files (λ file. file ≡ None) → status ≡ Missing kinds.Derivation
    leads_missing o = gone o.unit.has.unit.trees w.proof o.name o.named o.so (past_source o.unit.content o.unit.holds o.unit.has comes)

    too_much : (unit : UnitTree) (proof : Option (List ℕ)) (name : List ℕ) → proof ≡ Some name → IsTooLong (files name) proof_limit → ComesTo (then (then (proof_file proof) (of_file unit)) next) → status ≡ Source (TooLong kinds.Derivation)
    too_much unit None name is more h = absurd (let never : ⊥ = cc in never)
    too_much unit (Some found) name is more (inl (absent, c, e)) = let same : found ≡ name = cc in absurd (not_absent (files name) more.content (ap files (sym same) ∙ c) more.there)
    too_much unit (Some found) name is more (inl (long, c, e)) = e
    too_much unit (Some found) name is more (inr (text, h, rest)) = let same : found ≡ name = cc in absurd (not_long (files found) proof_limit text h (subst (λ (x : List ℕ). IsTooLong (files x) proof_limit) (sym same) more))

    leads_long : OfProof w files (λ file. IsTooLong file proof_limit) → status ≡ Source (TooLong kinds.Derivation)
    leads_long o = too_much o.unit.has.unit.trees w.proof o.name o.named o.so (past_source o.unit.content o.unit.holds o.unit.has comes)

    leads_text : (fault : TextFault) (pos : Pos) → HoldsBoth w files (λ u file. HasTextFaultAt u file fault pos) → status ≡ Proof (Text fault pos)
    leads_text fault pos h = elim (past_both (λ u file. HasTextFaultAt u file fault pos) h comes) [
      | inl (f, c, e) ↦ e ∙ exactly_same _ _ ((text_sound h.core h.file).one files f (record { fault = fault; pos = pos }) c h.so)
      | inr (given, is, rest) ↦ absurd ((text_sound h.core h.file).apart files (record { fault = fault; pos = pos }) given h.so is)
    ]

    leads_cycle : HoldsBoth w files LeavesCycle → IsCycleStatus status
    leads_cycle h =
        let of = h.so.cycle in
        elim (past_text h.typed.unit.trees h.file h.core of.given of.given_is (past_both LeavesCycle h comes)) [
          | inl (names, c, e) ↦ (names, e)
          | inr (u, none, rest) ↦ absurd (none h.so.functions of.so)
        ]

    leads_order : (name : List ℕ) → HoldsBoth w files (λ u file. OfGiven u file (λ given. HasNoOrder u given name)) → status ≡ Proof (Order name)
    leads_order name h =
        let of = h.so in
        let unit : UnitTree = h.typed.unit.trees in
        let there = past_text unit h.file h.core of.given of.given_is (past_both (λ u file. OfGiven u file (λ given. HasNoOrder u given name)) h comes) in
        elim (past_cycle unit h.file h.core of.given of.so.all.no_cycle there) [
          | inl (found, c, e) ↦ e ∙ exactly_same _ _ ((filling_sound h.core of.given).one files found name c of.so)
          | inr (proofs, are, rest) ↦ absurd ((filling_sound h.core of.given).apart files name proofs of.so are)
        ]

    leads_entry : (function : List ℕ) (place : EntryPlace) (wrong : ProofText) → HoldsBoth w files (meant.LacksDerivation function place wrong) → IsEntryStatus function place wrong status
    leads_entry function place wrong h =
        let of = h.so.first in
        let unit : UnitTree = h.typed.unit.trees in
        let proofs : ProofsTree = of.so.proofs in
        let lacks : LacksDerivation Stack h.core of.given proofs function place wrong = record { function = h.so.function; fault = h.so.fault; named = h.so.named; first = of.so.first; place_is = h.so.place_is; wrong_is = h.so.wrong_is } in
        let there = past_text unit h.file h.core of.given of.given_is (past_both (meant.LacksDerivation function place wrong) h comes) in
        let filled = past_cycle unit h.file h.core of.given of.so.all.no_cycle there in
        elim (past_filling unit h.file h.core of.given proofs (record { all = of.so.all; in_order = of.so.in_order }) filled) [
          | inl (f, c, e) ↦ (
              let one = one_lack Stack h.core of.given proofs f.function function (place_of f.spot) place f.wrong wrong c lacks in
              (f.spot, one.1, e ∙ ap (λ (x : List ℕ). Proof (Entry x f.spot f.wrong)) one.0 ∙ ap (λ (x : ProofText). Proof (Entry function f.spot x)) one.2)
              )
          | inr (u, covers, rest) ↦ (
              let none = all_derived h.core of.given proofs covers in
              let is = of.so.first in
              absurd (let never : ⊥ = cc in never)
              )
        ]

  -- ---- a refusal comes only where its cause is

  module _ (ordered : (s : CertifiedSource) → IsFrom end_status (next s) 13) (exact : IsExact (then (certified w) next) files status) where
    tells : (r : Status) → number_of r < 13 → status ≡ r → Stops (certified w) (number_of r) files r
    tells r low e = stops_shared next (certified w) (number_of r) 13 low (λ s. stand_from end_status (next s) 13 (ordered s)) files r ((exact r (omega (arith, low))).0 e)

    -- the source is a typed unit, and one of the steps behind it refuses
    record BehindSource (number : ℕ) (r : Status) : Type 0 where
      text : List ℕ
      there : HoldsContent (files w.source) source_limit text
      typed : IsTypedUnit text
      stops : Stops (proved w.proof typed.unit.trees) number files r

    led_source : (number : ℕ) (r : Status) (unit : UnitTree) → Leads (origin w.source) files unit → Stops (proved w.proof unit) number files r → BehindSource number r
    led_source number r unit (text, there, (u, l, (v, p, (trees, t, e)))) stops = record {
      text = text;
      there = there;
      typed = t.typed;
      stops = subst (λ (x : UnitTree). Stops (proved w.proof x) number files r) (e ∙ sym t.trees_are) stops;
    }

    behind_source : (number : ℕ) (r : Status) → 7 ≤ number → Stops (certified w) number files r → BehindSource number r
    behind_source number r le h =
        let led = stops_later (proved w.proof) (origin w.source) number 3 7 le (origin_within w.source) files r h in
        led_source number r led.0 led.1 led.2

    record BehindFile (number : ℕ) (r : Status) : Type 0 where
      source : BehindSource number r
      file : Option (List ℕ)
      proof_there : HoldsProof files w.proof file
      stops : Stops (of_file source.typed.unit.trees file) number files r

    behind_file : (number : ℕ) (r : Status) → 8 ≤ number → Stops (certified w) number files r → BehindFile number r
    behind_file number r le h =
        let source = behind_source number r (omega (arith, le)) h in
        let led = stops_later (of_file source.typed.unit.trees) (proof_file w.proof) number 7 8 le (file_within w.proof) files r source.stops in
        record { source = source; file = led.0; proof_there = leads_file files w.proof led.0 led.1; stops = led.2 }

    both : (IsSo : CoreUnitTree → Option (List ℕ) → Type 0) (number : ℕ) (r : Status) (b : BehindFile number r) (core : CoreUnitTree) → IsCoreOf b.source.typed.unit.trees core → IsSo core b.file → HoldsBoth w files IsSo
    both IsSo number r b core is so = record {
      text = b.source.text;
      there = b.source.there;
      typed = b.source.typed;
      core = core;
      core_is = core_is b.source.typed.unit.trees core is;
      file = b.file;
      proof_there = b.proof_there;
      so = so;
    }

    -- the file
    named_gone : (unit : UnitTree) (proof : Option (List ℕ)) → Stops (then (proof_file proof) (of_file unit)) 7 files (Missing kinds.Derivation) → (name : List ℕ) × (proof ≡ Some name) × (files name ≡ None)
    named_gone unit None (core, is, (given, g, (u, n, (proofs, o, (v, c, never))))) = absurd never
    named_gone unit (Some name) (absent, c, e) = (name, refl, c)
    named_gone unit (Some name) (long, c, e) = absurd (let never : ⊥ = cc in never)

    named_long : (unit : UnitTree) (proof : Option (List ℕ)) → Stops (then (proof_file proof) (of_file unit)) 7 files (Source (TooLong kinds.Derivation)) → (name : List ℕ) × (proof ≡ Some name) × IsTooLong (files name) proof_limit
    named_long unit None (core, is, (given, g, (u, n, (proofs, o, (v, c, never))))) = absurd never
    named_long unit (Some name) (absent, c, e) = absurd (let never : ⊥ = cc in never)
    named_long unit (Some name) (long, c, e) = (name, refl, c)

    unit_held : {number : ℕ} {r : Status} → BehindSource number r → HoldsUnit w files
    unit_held b = record { content = b.text; holds = b.there; has = b.typed }

    tells_missing : status ≡ Missing kinds.Derivation → OfProof w files (λ file. file ≡ None)
    tells_missing e =
        let b = behind_source 7 (Missing kinds.Derivation) (omega arith) (tells (Missing kinds.Derivation) (omega arith) e) in
        let there = named_gone b.typed.unit.trees w.proof b.stops in
        record { unit = unit_held b; name = there.0; named = there.1; so = there.2 }

    tells_long : status ≡ Source (TooLong kinds.Derivation) → OfProof w files (λ file. IsTooLong file proof_limit)
    tells_long e =
        let b = behind_source 7 (Source (TooLong kinds.Derivation)) (omega arith) (tells (Source (TooLong kinds.Derivation)) (omega arith) e) in
        let there = named_long b.typed.unit.trees w.proof b.stops in
        record { unit = unit_held b; name = there.0; named = there.1; so = there.2 }

    -- the proofs
    text_cause : (fault : TextFault) (pos : Pos) (b : BehindFile 9 (Proof (Text fault pos))) → Stops (of_file b.source.typed.unit.trees b.file) 9 files (Proof (Text fault pos)) → HoldsBoth w files (λ u file. HasTextFaultAt u file fault pos)
    text_cause fault pos b (core, is, (f, c, e)) =
        let same_fault : f.fault ≡ fault = cc in
        let same_place : f.pos ≡ pos = cc in
        both (λ u file. HasTextFaultAt u file fault pos) 9 (Proof (Text fault pos)) b core is (subst (λ (x : TextFault). HasTextFaultAt core b.file x pos) same_fault (subst (λ (x : Pos). HasTextFaultAt core b.file f.fault x) same_place c))

    tells_text : (fault : TextFault) (pos : Pos) → status ≡ Proof (Text fault pos) → HoldsBoth w files (λ u file. HasTextFaultAt u file fault pos)
    tells_text fault pos e =
        let b = behind_file 9 (Proof (Text fault pos)) (omega arith) (tells (Proof (Text fault pos)) (omega arith) e) in
        text_cause fault pos b b.stops

    cycle_cause : (names : Vec (List ℕ) Global) (b : BehindFile 10 (Proof (Cycle names))) → Stops (of_file b.source.typed.unit.trees b.file) 10 files (Proof (Cycle names)) → HoldsBoth w files (IsCycleOf names.items)
    cycle_cause names b (core, is, (given, g, (found, c, e))) =
        let same : found ≡ names = cc in
        both (IsCycleOf names.items) 10 (Proof (Cycle names)) b core is (record {
          functions = c.functions;
          named = ap (λ (x : Vec (List ℕ) Global). x.items) (sym same) ∙ c.named;
          cycle = record { given = given; given_is = g; so = c.cycle };
        })

    tells_names : (names : Vec (List ℕ) Global) → status ≡ Proof (Cycle names) → HoldsBoth w files (IsCycleOf names.items)
    tells_names names e =
        let b = behind_file 10 (Proof (Cycle names)) (omega arith) (tells (Proof (Cycle names)) (omega arith) e) in
        cycle_cause names b b.stops

    tells_cycle : IsCycleStatus status → HoldsBoth w files LeavesCycle
    tells_cycle (names, e) =
        let h = tells_names names e in
        record { text = h.text; there = h.there; typed = h.typed; core = h.core; core_is = h.core_is; file = h.file; proof_there = h.proof_there; so = record { functions = h.so.functions; cycle = h.so.cycle } }

    order_cause : (name : List ℕ) (b : BehindFile 11 (Proof (Order name))) → Stops (of_file b.source.typed.unit.trees b.file) 11 files (Proof (Order name)) → HoldsBoth w files (λ u file. OfGiven u file (λ given. HasNoOrder u given name))
    order_cause name b (core, is, (given, g, (u, n, (found, c, e)))) =
        let same : found ≡ name = cc in
        both (λ u file. OfGiven u file (λ given. HasNoOrder u given name)) 11 (Proof (Order name)) b core is (record { given = given; given_is = g; so = subst (λ (x : List ℕ). HasNoOrder core given x) same c })

    tells_order : (name : List ℕ) → status ≡ Proof (Order name) → HoldsBoth w files (λ u file. OfGiven u file (λ given. HasNoOrder u given name))
    tells_order name e =
        let b = behind_file 11 (Proof (Order name)) (omega arith) (tells (Proof (Order name)) (omega arith) e) in
        order_cause name b b.stops

    entry_cause : (function : List ℕ) (spot : Spot) (wrong : ProofText) (b : BehindFile 12 (Proof (Entry function spot wrong))) → Stops (of_file b.source.typed.unit.trees b.file) 12 files (Proof (Entry function spot wrong)) → HoldsBoth w files (meant.LacksDerivation function (place_of spot) wrong)
    entry_cause function spot wrong b (core, is, (given, g, (u, n, (proofs, o, (f, c, e))))) =
        let same_function : f.function ≡ function = cc in
        let same_spot : f.spot ≡ spot = cc in
        let same_wrong : f.wrong ≡ wrong = cc in
        both (meant.LacksDerivation function (place_of spot) wrong) 12 (Proof (Entry function spot wrong)) b core is (record {
          function = c.function;
          fault = c.fault;
          named = sym same_function ∙ c.named;
          first = record { given = given; given_is = g; so = record { proofs = proofs; all = o.all; in_order = o.in_order; first = c.first } };
          place_is = ap place_of (sym same_spot) ∙ c.place_is;
          wrong_is = sym same_wrong ∙ c.wrong_is;
        })

    tells_entry : (function : List ℕ) (place : EntryPlace) (wrong : ProofText) → IsEntryStatus function place wrong status → HoldsBoth w files (meant.LacksDerivation function place wrong)
    tells_entry function place wrong (spot, at, e) =
        let b = behind_file 12 (Proof (Entry function spot wrong)) (omega arith) (tells (Proof (Entry function spot wrong)) (omega arith) e) in
        subst (λ (x : EntryPlace). HoldsBoth w files (meant.LacksDerivation function x wrong)) at (entry_cause function spot wrong b b.stops)

    -- ---- the clauses

    source_clauses : ComesTo (then (certified w) next) → RefusesSource (files w.source) status
    source_clauses comes = source_refused w.source (λ unit. then (proved w.proof unit) next) (λ unit. stand_from end_status (then (proved w.proof unit) next) 7 (then_from end_status next (proved w.proof unit) 7 13 (omega arith) (proved_within w.proof unit) ordered)) files status exact comes

    pub certified_refused : ComesTo (then (certified w) next) → RefusesCertified w files status
    certified_refused comes = record {
      source = source_clauses comes;
      missing = (tells_missing, leads_missing comes);
      too_long = (tells_long, leads_long comes);
      text = λ fault pos. (tells_text fault pos, leads_text comes fault pos);
      cycle = (tells_cycle, leads_cycle comes);
      one_cycle = tells_names;
      order = λ name. (tells_order name, leads_order comes name);
      entry = λ function place wrong. (tells_entry function place wrong, leads_entry comes function place wrong);
    }
