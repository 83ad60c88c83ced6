-- No refusal of another command comes of the steps of a source and its proofs.
use Rattle.std.proofs.Common.{◌⊎◌, ℕ, List, Option, Some, None, sym, subst, inl, inr}
use Rattle.qs_syntax.specs.Trees.{UnitTree}
use Rattle.qs_driver_steps.specs.Reading.{absent, long}
use Rattle.qs_driver_steps.specs.Steps.{Command, then, IsOf, end_status}
use Rattle.qs_driver_session.specs.Origin.{origin}
use Rattle.qs_driver_session.specs.Source.{IsOfSource, missing_source, long_source, ill_spelled, no_reading, ill_typed}
use Rattle.qs_driver_session.specs.Statuses.{tool}
use Rattle.qs_driver_session.specs.declared.status.ProofFault.TheVariants.{Text, Cycle, Order, Entry}
use Rattle.qs_driver_session.specs.declared.status.Status.{Status}
use Rattle.qs_driver.specs.Certified.{CertifyWords, CertifiedSource, IsOfCertified, of_source, missing_proof, long_proof, wrong_proof}
use Rattle.qs_driver.specs.Proved.{proof_file, source_of, of_file, proved, certified}

module _ (status : Status) where
  abbrev Own : Command tool → Type 0
  Own c = IsOf end_status c status

  -- a status of the source, or of what comes behind it
  pub source_own : (name : List ℕ) (next : UnitTree → Command tool) → Own (then (origin name) next) → IsOfSource status ⊎ ((unit : UnitTree) × Own (next unit))
  source_own name next (inl (absent, c, e)) = inl (subst IsOfSource (sym e) missing_source)
  source_own name next (inl (long, c, e)) = inl (subst IsOfSource (sym e) long_source)
  source_own name next (inr (text, h, inl (f, c, e))) = inl (subst IsOfSource (sym e) (ill_spelled f.fault f.pos))
  source_own name next (inr (text, h, inr (u, l, inl (f, c, e)))) = inl (subst IsOfSource (sym e) (no_reading f.fault f.place))
  source_own name next (inr (text, h, inr (u, l, inr (v, p, inl (f, c, e))))) = inl (subst IsOfSource (sym e) (ill_typed f.fault f.place))
  source_own name next (inr (text, h, inr (u, l, inr (v, p, inr (unit, t, rest))))) = inr (unit, rest)

  module _ (next : CertifiedSource → Command tool) where
    -- a status of the proofs, or of what comes behind them
    core_own : (unit : UnitTree) (file : Option (List ℕ)) → Own (then (of_file unit file) next) → IsOfCertified status ⊎ ((s : CertifiedSource) × Own (next s))
    core_own unit file (inl (f, c, e)) = absurd f
    core_own unit file (inr (core, is, inl (f, c, e))) = inl (subst IsOfCertified (sym e) (wrong_proof (Text f.fault f.pos)))
    core_own unit file (inr (core, is, inr (given, g, inl (names, c, e)))) = inl (subst IsOfCertified (sym e) (wrong_proof (Cycle names)))
    core_own unit file (inr (core, is, inr (given, g, inr (u, n, inl (name, c, e))))) = inl (subst IsOfCertified (sym e) (wrong_proof (Order name)))
    core_own unit file (inr (core, is, inr (given, g, inr (u, n, inr (proofs, o, inl (f, c, e)))))) = inl (subst IsOfCertified (sym e) (wrong_proof (Entry f.function f.spot f.wrong)))
    core_own unit file (inr (core, is, inr (given, g, inr (u, n, inr (proofs, o, inr (v, k, rest)))))) = inr (source_of unit core given proofs, rest)

    file_own : (proof : Option (List ℕ)) (unit : UnitTree) → Own (then (then (proof_file proof) (of_file unit)) next) → IsOfCertified status ⊎ ((s : CertifiedSource) × Own (next s))
    file_own None unit h = core_own unit None h
    file_own (Some name) unit (inl (absent, c, e)) = inl (subst IsOfCertified (sym e) missing_proof)
    file_own (Some name) unit (inl (long, c, e)) = inl (subst IsOfCertified (sym e) long_proof)
    file_own (Some name) unit (inr (text, t, rest)) = core_own unit (Some text) rest

    pub certified_own : (w : CertifyWords) → Own (then (certified w) next) → IsOfCertified status ⊎ ((s : CertifiedSource) × Own (next s))
    certified_own w h = elim (source_own w.source (λ unit. then (proved w.proof unit) next) h) [
      | inl s ↦ inl (of_source s)
      | inr (unit, rest) ↦ file_own w.proof unit rest
    ]
