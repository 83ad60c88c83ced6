-- How far `calls` comes, and that each refusal comes where its cause is.
use Rattle.std.proofs.Common.{◌≡◌, ◌∙◌, ℕ, List, length, Some, None, sym, ap, subst, inl, inr, arith}
use Rattle.std.proofs.lemmas.Option.{same_Some}
use Rattle.std.specs.Prelude.{Vec}
use Rattle.std.specs.declared.alloc.Global.{Global}
use Rattle.qs_base.specs.declared.places.Pos.{Pos}
use Rattle.qs_syntax.specs.Trees.{UnitTree}
use Rattle.qs_assert.specs.Order.{IsInOrder}
use Rattle.qs_core.specs.Interfaces.{main_types}
use Rattle.qs_core.specs.Trees.{CoreUnitTree}
use Rattle.qs_elaborate_bodies.specs.Units.{core_of}
use Rattle.qs_triples.specs.Derivations.{ProofsTree}
use Rattle.qs_triples.specs.declared.resource.Resource.TheVariants.{Calls}
use Rattle.qs_prooftext_meaning.specs.Reading.{Reading}
use Rattle.qs_prooftext_meaning.specs.declared.fault.TextFault.{TextFault}
use Rattle.qs_certify.specs.Certification.{IsMisplaced}
use Rattle.qs_count.specs.Counted.{AreCounted, AreAllCounted}
use Rattle.qs_count.specs.Covered.{IsCovered}
use Rattle.qs_report.specs.declared.fault_texts.ProofText.{ProofText}
use Rattle.qs_report.specs.declared.fault_texts.Spot.{Spot}
use Rattle.qs_ports.specs.StoreView.{Files}
use Rattle.qs_cli.specs.Commands.{CallsWords}
use Rattle.qs_driver_steps.specs.Files.{HoldsContent, IsTooLong}
use Rattle.qs_driver_steps.specs.Promises.{IsExact}
use Rattle.qs_driver_steps.specs.Reading.{absent, long}
use Rattle.qs_driver_steps.specs.Steps.{Command, Comes, Stops, then, end_status}
use Rattle.qs_driver_steps.proofs.ReadingLaws.{not_absent, not_long, one_content}
use Rattle.qs_driver_steps.proofs.SharedLaws.{comes_later, stand_from}
use Rattle.qs_driver_session.specs.Limits.{source_limit, proof_limit}
use Rattle.qs_driver_session.specs.Origin.{origin}
use Rattle.qs_driver_session.specs.Shared.{count_differs, misfit}
use Rattle.qs_driver_session.specs.Source.{HoldsText, IsTypedAs, IsTypedUnit}
use Rattle.qs_driver_session.specs.Statuses.{tool}
use Rattle.qs_driver_session.specs.Told.{EntryPlace, place_of}
use Rattle.qs_driver_session.specs.declared.status.FileKind.TheVariants as kinds
use Rattle.qs_driver_session.specs.declared.status.ProofFault.TheVariants.{Text, Cycle, Order, Entry}
use Rattle.qs_driver_session.specs.declared.status.SourceFault.TheVariants.{TooLong}
use Rattle.qs_driver_session.specs.declared.status.Status.{Status}
use Rattle.qs_driver_session.specs.declared.status.Status.TheVariants.{Done, Source, Proof, Words, Missing}
use Rattle.qs_driver_session.specs.declared.status.WordsFault.TheVariants.{ArgCount, ArgRange}
use Rattle.qs_driver_session.proofs.OriginLaws.{origin_single}
use Rattle.qs_driver_session.proofs.OriginRefusals.{source_refused}
use Rattle.qs_driver_proofs.specs.Misfits.{CountDiffers, IsMisfit}
use Rattle.qs_driver_proofs.specs.Refusals.{HasTextFaultAt}
use Rattle.qs_driver_proofs.specs.Steps.{IsCoreOf, LacksDerivation}
use Rattle.qs_driver_proofs.proofs.NumberLaws.{as_many, one_unfit, none_unfit}
use Rattle.qs_driver_proofs.proofs.SourceReads.{unit_leads, core_is, exactly_same}
use Rattle.qs_driver_proofs.proofs.StepsLaws.{text_sound, text_one, misplaced_same, one_lack}
use Rattle.qs_driver_calls.specs.Calls.{LacksEntry, entry_wanted, of_order, of_entries, of_given, of_proofs, of_core, of_text, of_unit, calls}
use Rattle.qs_driver_calls.specs.Laws.{HoldsBoth, HoldsCounted, OfProofFile, OfText, OfProofs, HasNoOrder, HasEntryFault, HasArguments, IsEntryStatus, RefusesCalls}
use Rattle.qs_driver_calls.proofs.CallsSteps.{one_wanting, entries_sound, ordering_sound, counting_sound, never_first, no_misfit, unit_from}

-- ---- how far the command comes

module _ (w : CallsWords) (files : Files) (status : Status) where
  abbrev ComesTo : Command tool → Type 0
  ComesTo c = Comes end_status c files status

  -- behind the source
  past_source : (text : List ℕ) → HoldsContent (files w.source) source_limit text → (typed : IsTypedUnit text) → ComesTo (calls w) → ComesTo (of_unit w typed.unit.trees)
  past_source text there typed comes = comes_later end_status (of_unit w) (origin w.source) (origin_single w.source) files typed.unit.trees status (unit_leads w.source files text there typed) comes

  past_file : (unit : UnitTree) (file : List ℕ) → HoldsContent (files w.proof) proof_limit file → ComesTo (of_unit w unit) → ComesTo (of_text w unit file)
  past_file unit file there (inl (absent, c, e)) = absurd (not_absent (files w.proof) file c there.there)
  past_file unit file there (inl (long, c, e)) = absurd (not_long (files w.proof) proof_limit file there c)
  past_file unit file there (inr (other, h, rest)) =
      subst (λ (t : List ℕ). ComesTo (of_text w unit t)) (one_content (files w.proof) proof_limit other file h there) rest

  past_core : (unit : UnitTree) (file : List ℕ) (core : CoreUnitTree) → core_of unit ≡ Some core → ComesTo (of_text w unit file) → ComesTo (of_core w file core)
  past_core unit file core is (inl (f, c, e)) = absurd c
  past_core unit file core is (inr (other, h, rest)) =
      subst (λ (u : CoreUnitTree). ComesTo (of_core w file u)) (same_Some other core (sym (core_is unit other h) ∙ is)) rest

  past_both : (h : HoldsBoth w files) → ComesTo (calls w) → ComesTo (of_core w h.file h.core)
  past_both h comes =
      past_core h.typed.unit.trees h.file h.core h.core_is
      (past_file h.typed.unit.trees h.file h.file_there (past_source h.text h.there h.typed comes))

  -- behind the proofs that the text gives
  module _ (core : CoreUnitTree) (file : List ℕ) (given : ProofsTree) where
    past_text : Reading core file given → ComesTo (of_core w file core) → ComesTo (then (of_given core given) (of_proofs w core))
    past_text reads (inl (f, c, e)) = absurd ((text_sound core (Some file)).apart files f given c reads)
    past_text reads (inr (other, g, rest)) =
        subst (λ (p : ProofsTree). ComesTo (then (of_given core p) (of_proofs w core))) (text_one core (Some file) files other given g reads) rest

  module _ (core : CoreUnitTree) (given : ProofsTree) where
    past_entries : IsCovered core given → ComesTo (then (of_given core given) (of_proofs w core)) → ComesTo (then (of_entries core given) (of_proofs w core))
    past_entries covered (inl (f, c, e)) = absurd ((entries_sound core given).apart files f tt c covered)
    past_entries covered (inr (u, h, rest)) = rest

    past_order : IsInOrder given.defines → ComesTo (then (of_entries core given) (of_proofs w core)) → ComesTo (then (of_order core given) (of_proofs w core))
    past_order in_order (inl (f, c, e)) = absurd ((ordering_sound given).apart files f tt c in_order)
    past_order in_order (inr (u, h, rest)) = rest

    past_counted : AreCounted core given → ComesTo (then (of_order core given) (of_proofs w core)) → ComesTo (of_proofs w core given)
    past_counted are (inl (f, c, e)) = absurd ((counting_sound core given).apart files f tt c are)
    past_counted are (inr (u, h, rest)) = rest

  past_proofs : {IsSo : CoreUnitTree → ProofsTree → Type 0} (h : OfProofs w files IsSo) → ComesTo (calls w) → ComesTo (then (of_given h.both.core h.given) (of_proofs w h.both.core))
  past_proofs h comes = past_text h.both.core h.both.file h.given h.reads (past_both h.both comes)

  past_all : (core : CoreUnitTree) (given : ProofsTree) → IsCovered core given → AreAllCounted core given → ComesTo (then (of_given core given) (of_proofs w core)) → ComesTo (of_proofs w core given)
  past_all core given covered all comes = past_counted core given all.counted (past_order core given all.in_order (past_entries core given covered comes))

  -- ---- what is accepted

  pub accepted : (h : HoldsCounted w files) → ComesTo (calls w) → status ≡ Done
  accepted h comes =
      let core : CoreUnitTree = h.both.core in
      elim (past_all core h.given h.by.covered h.by.all (past_text core h.both.file h.given h.by.reads (past_both h.both comes))) [
        | inl (f, c, e) ↦ absurd (no_misfit (main_types core) w.args f c h.arguments)
        | inr (u, are, e) ↦ e
      ]

  -- ---- a cause leads to its refusal

  leads_missing : OfProofFile w files (λ file. file ≡ None) → ComesTo (calls w) → status ≡ Missing kinds.Derivation
  leads_missing h comes = by h.unit.has.unit.trees (past_source h.unit.content h.unit.holds h.unit.has comes)
    where
      by : (unit : UnitTree) → ComesTo (of_unit w unit) → status ≡ Missing kinds.Derivation
      by unit (inl (absent, c, e)) = e
      by unit (inl (long, c, e)) = absurd (not_absent (files w.proof) c.content h.so c.there)
      by unit (inr (text, there, rest)) = absurd (not_absent (files w.proof) text h.so there.there)

  leads_long : OfProofFile w files (λ file. IsTooLong file proof_limit) → ComesTo (calls w) → status ≡ Source (TooLong kinds.Derivation)
  leads_long h comes = by h.unit.has.unit.trees (past_source h.unit.content h.unit.holds h.unit.has comes)
    where
      by : (unit : UnitTree) → ComesTo (of_unit w unit) → status ≡ Source (TooLong kinds.Derivation)
      by unit (inl (absent, c, e)) = absurd (not_absent (files w.proof) h.so.content c h.so.there)
      by unit (inl (long, c, e)) = e
      by unit (inr (text, there, rest)) = absurd (not_long (files w.proof) proof_limit text there h.so)

  leads_text : (fault : TextFault) (pos : Pos) → OfText w files (λ core file. HasTextFaultAt core (Some file) fault pos) → ComesTo (calls w) → status ≡ Proof (Text fault pos)
  leads_text fault pos h comes =
      elim (past_both h.both comes) [
        | inl (f, c, e) ↦ e ∙ exactly_same _ _ ((text_sound h.both.core (Some h.both.file)).one files f (record { fault = fault; pos = pos }) c h.so)
        | inr (given, g, rest) ↦ absurd ((text_sound h.both.core (Some h.both.file)).apart files (record { fault = fault; pos = pos }) given h.so g)
      ]

  leads_wanting : (name : List ℕ) → OfProofs w files (λ core given. LacksEntry core given name) → ComesTo (calls w) → status ≡ entry_wanted name
  leads_wanting name h comes =
      elim (past_proofs h comes) [
        | inl (other, c, e) ↦ e ∙ ap entry_wanted (one_wanting h.both.core h.given other name c h.so)
        | inr (u, covered, rest) ↦ absurd ((entries_sound h.both.core h.given).apart files name tt h.so covered)
      ]

  leads_order : (name : List ℕ) → OfProofs w files (HasNoOrder name) → ComesTo (calls w) → status ≡ Proof (Order name)
  leads_order name h comes =
      elim (past_entries h.both.core h.given h.so.covered (past_proofs h comes)) [
        | inl (other, c, e) ↦ e ∙ ap (λ (x : List ℕ). Proof (Order x)) (misplaced_same h.given.defines other name c h.so.misplaced)
        | inr (u, in_order, rest) ↦ absurd ((ordering_sound h.given).apart files name tt h.so.misplaced in_order)
      ]

  leads_entry : (function : List ℕ) (place : EntryPlace) (wrong : ProofText) → OfProofs w files (HasEntryFault function place wrong) → ComesTo (calls w) → IsEntryStatus function place wrong status
  leads_entry function place wrong h comes = by h.both.core h.given h.so.lacks (past_order h.both.core h.given h.so.in_order (past_entries h.both.core h.given h.so.covered (past_proofs h comes)))
    where
      by : (core : CoreUnitTree) (given : ProofsTree) → LacksDerivation Calls core given given function place wrong → ComesTo (then (of_order core given) (of_proofs w core)) → IsEntryStatus function place wrong status
      by core given lacks (inl (f, c, e)) =
          let one = one_lack Calls core given given f.function function (place_of f.spot) place f.wrong wrong c lacks in
          (f.spot, one.1, e ∙ ap (λ (x : List ℕ). Proof (Entry x f.spot f.wrong)) one.0 ∙ ap (λ (x : ProofText). Proof (Entry function f.spot x)) one.2)
      by core given lacks (inr (u, are, rest)) = absurd (never_first core given _ lacks.first are)

  leads_count : (parameters : ℕ) → OfProofs w files (HasArguments (λ types. CountDiffers types w.args parameters)) → ComesTo (calls w) → status ≡ Words (ArgCount parameters (length w.args))
  leads_count parameters h comes = by h.both.core h.given h.so.so (past_all h.both.core h.given h.so.covered h.so.all (past_proofs h comes))
    where
      by : (core : CoreUnitTree) (given : ProofsTree) → CountDiffers (main_types core) w.args parameters → ComesTo (of_proofs w core given) → status ≡ Words (ArgCount parameters (length w.args))
      by core given d (inl (count_differs, c, e)) = e ∙ ap (λ (n : ℕ). Words (ArgCount n (length w.args))) (sym d.parameters_are)
      by core given d (inl (misfit i, c, e)) = absurd (d.differ (c.count ∙ sym d.parameters_are))
      by core given d (inr (u, are, e)) = absurd (d.differ (as_many (main_types core) w.args are ∙ sym d.parameters_are))

  leads_argument : (i : ℕ) → OfProofs w files (HasArguments (λ types. IsMisfit types w.args i)) → ComesTo (calls w) → status ≡ Words (ArgRange i)
  leads_argument i h comes = by h.both.core h.given h.so.so (past_all h.both.core h.given h.so.covered h.so.all (past_proofs h comes))
    where
      by : (core : CoreUnitTree) (given : ProofsTree) → IsMisfit (main_types core) w.args i → ComesTo (of_proofs w core given) → status ≡ Words (ArgRange i)
      by core given m (inl (count_differs, c, e)) = absurd (c.differ m.count)
      by core given m (inl (misfit j, c, e)) = e ∙ ap (λ (k : ℕ). Words (ArgRange k)) (one_unfit (main_types core) w.args j i c.first m.first)
      by core given m (inr (u, are, e)) = absurd (none_unfit (main_types core) w.args i are m.first)

  -- ---- a refusal has its cause

  -- the steps before the one of this number passed
  abbrev StopsAt : ℕ → Status → Type 0
  StopsAt number r = Stops (calls w) number files r

  module _ (text : List ℕ) (there : HoldsContent (files w.source) source_limit text) (trees : UnitTree) (typed : IsTypedAs text trees) where
    the_unit : HoldsText (files w.source) IsTypedUnit
    the_unit = record { content = text; holds = there; has = typed.typed }

    module _ (file : List ℕ) (file_there : HoldsContent (files w.proof) proof_limit file) (core : CoreUnitTree) (is : IsCoreOf trees core) where
      abbrev the_both : HoldsBoth w files
      the_both = record {
        text = text;
        there = there;
        typed = typed.typed;
        core = core;
        core_is = ap core_of typed.trees_are ∙ core_is trees core is;
        file = file;
        file_there = file_there;
      }

  tells_missing : StopsAt 7 (Missing kinds.Derivation) → OfProofFile w files (λ file. file ≡ None)
  tells_missing (text, there, (a, l, (b, p, (trees, typed, (absent, c, same))))) = record { unit = the_unit text there trees typed; so = c }
  tells_missing (text, there, (a, l, (b, p, (trees, typed, (long, c, same))))) = absurd cc

  tells_long : StopsAt 7 (Source (TooLong kinds.Derivation)) → OfProofFile w files (λ file. IsTooLong file proof_limit)
  tells_long (text, there, (a, l, (b, p, (trees, typed, (absent, c, same))))) = absurd cc
  tells_long (text, there, (a, l, (b, p, (trees, typed, (long, c, same))))) = record { unit = the_unit text there trees typed; so = c }

  tells_text : (fault : TextFault) (pos : Pos) → StopsAt 9 (Proof (Text fault pos)) → OfText w files (λ core file. HasTextFaultAt core (Some file) fault pos)
  tells_text fault pos (text, there, (a, l, (b, p, (trees, typed, (file, file_there, (core, is, (f, c, same))))))) =
      let one : f.fault ≡ fault = cc in
      let at : f.pos ≡ pos = cc in
      record {
        both = the_both text there trees typed file file_there core is;
        so = subst (λ (x : TextFault). HasTextFaultAt core (Some file) x pos) one (subst (λ (y : Pos). HasTextFaultAt core (Some file) f.fault y) at c);
      }

  tells_wanting : (name : List ℕ) → StopsAt 10 (entry_wanted name) → OfProofs w files (λ core given. LacksEntry core given name)
  tells_wanting name (text, there, (a, l, (b, p, (trees, typed, (file, file_there, (core, is, (given, g, (other, c, same)))))))) =
      let one : other ≡ name = cc in
      record {
        both = the_both text there trees typed file file_there core is;
        given = given;
        reads = g;
        so = subst (LacksEntry core given) one c;
      }

  tells_order : (name : List ℕ) → StopsAt 11 (Proof (Order name)) → OfProofs w files (HasNoOrder name)
  tells_order name (text, there, (a, l, (b, p, (trees, typed, (file, file_there, (core, is, (given, g, (u, covered, (other, c, same))))))))) =
      let one : other ≡ name = cc in
      record {
        both = the_both text there trees typed file file_there core is;
        given = given;
        reads = g;
        so = record { covered = covered; misplaced = subst (λ (x : List ℕ). IsMisplaced given.defines x) one c };
      }

  tells_entry : (function : List ℕ) (spot : Spot) (wrong : ProofText) → StopsAt 12 (Proof (Entry function spot wrong)) → OfProofs w files (HasEntryFault function (place_of spot) wrong)
  tells_entry function spot wrong (text, there, (a, l, (b, p, (trees, typed, (file, file_there, (core, is, (given, g, (u, covered, (v, in_order, (f, c, same)))))))))) =
      let one : f.function ≡ function = cc in
      let at : f.spot ≡ spot = cc in
      let what : f.wrong ≡ wrong = cc in
      record {
        both = the_both text there trees typed file file_there core is;
        given = given;
        reads = g;
        so = record {
          covered = covered;
          in_order = in_order;
          lacks = subst (λ (x : ProofText). LacksDerivation Calls core given given function (place_of spot) x) what
              (subst (λ (x : Spot). LacksDerivation Calls core given given function (place_of x) f.wrong) at
              (subst (λ (x : List ℕ). LacksDerivation Calls core given given x (place_of f.spot) f.wrong) one c));
        };
      }

  entry_told : (function : List ℕ) (place : EntryPlace) (wrong : ProofText) → IsExact (calls w) files status → IsEntryStatus function place wrong status → OfProofs w files (HasEntryFault function place wrong)
  entry_told function place wrong exact (spot, at, e) =
      subst (λ (x : EntryPlace). OfProofs w files (HasEntryFault function x wrong)) at (tells_entry function spot wrong ((exact (Proof (Entry function spot wrong)) (omega arith)).0 e))

  tells_count : (parameters : ℕ) → StopsAt 15 (Words (ArgCount parameters (length w.args))) → OfProofs w files (HasArguments (λ types. CountDiffers types w.args parameters))
  tells_count parameters (text, there, (a, l, (b, p, (trees, typed, (file, file_there, (core, is, (given, g, (u, covered, (v, in_order, (x, are, (count_differs, c, same))))))))))) =
      let one : parameters ≡ length (main_types core) = cc in
      record {
        both = the_both text there trees typed file file_there core is;
        given = given;
        reads = g;
        so = record {
          covered = covered;
          all = record { in_order = in_order; counted = are };
          so = record { parameters_are = one; differ = λ e. c.differ (e ∙ one) };
        };
      }
  tells_count parameters (text, there, (a, l, (b, p, (trees, typed, (file, file_there, (core, is, (given, g, (u, covered, (v, in_order, (x, are, (misfit i, c, same))))))))))) = absurd cc

  tells_argument : (i : ℕ) → StopsAt 15 (Words (ArgRange i)) → OfProofs w files (HasArguments (λ types. IsMisfit types w.args i))
  tells_argument i (text, there, (a, l, (b, p, (trees, typed, (file, file_there, (core, is, (given, g, (u, covered, (v, in_order, (x, are, (count_differs, c, same))))))))))) = absurd cc
  tells_argument i (text, there, (a, l, (b, p, (trees, typed, (file, file_there, (core, is, (given, g, (u, covered, (v, in_order, (x, are, (misfit j, c, same))))))))))) =
      let one : j ≡ i = cc in
      record {
        both = the_both text there trees typed file file_there core is;
        given = given;
        reads = g;
        so = record {
          covered = covered;
          all = record { in_order = in_order; counted = are };
          so = subst (λ (k : ℕ). IsMisfit (main_types core) w.args k) one c;
        };
      }

  -- no functions that call each other are told: an entry is wanted before
  no_cycle_stops : (names : Vec (List ℕ) Global) → StopsAt 10 (Proof (Cycle names)) → ⊥
  no_cycle_stops names (text, there, (a, l, (b, p, (trees, typed, (file, file_there, (core, is, (given, g, (other, c, same)))))))) = cc

  pub refused : IsExact (calls w) files status → ComesTo (calls w) → RefusesCalls w files status
  refused exact comes = record {
    source = source_refused w.source (of_unit w) (λ unit. stand_from end_status (of_unit w unit) 7 (unit_from w unit)) files status exact comes;
    missing = (λ e. tells_missing ((exact (Missing kinds.Derivation) (omega arith)).0 e), λ h. leads_missing h comes);
    too_long = (λ e. tells_long ((exact (Source (TooLong kinds.Derivation)) (omega arith)).0 e), λ h. leads_long h comes);
    text = λ fault pos. (λ e. tells_text fault pos ((exact (Proof (Text fault pos)) (omega arith)).0 e), λ h. leads_text fault pos h comes);
    no_entry = λ name. (λ e. tells_wanting name ((exact (entry_wanted name) (omega arith)).0 e), λ h. leads_wanting name h comes);
    order = λ name. (λ e. tells_order name ((exact (Proof (Order name)) (omega arith)).0 e), λ h. leads_order name h comes);
    entry = λ function place wrong. (entry_told function place wrong exact, λ h. leads_entry function place wrong h comes);
    count = λ parameters. (λ e. tells_count parameters ((exact (Words (ArgCount parameters (length w.args))) (omega arith)).0 e), λ h. leads_count parameters h comes);
    argument = λ i. (λ e. tells_argument i ((exact (Words (ArgRange i)) (omega arith)).0 e), λ h. leads_argument i h comes);
    no_cycle = λ names e. no_cycle_stops names ((exact (Proof (Cycle names)) (omega arith)).0 e);
  }
