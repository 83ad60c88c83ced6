-- What `derive` came to.
use Rattle.std.proofs.Common.{◌≡◌, ◌≢◌, ℕ, ◌<◌, ◌≤◌, ◌^◌, true, List, length, Option, None, Result, Ok, Err, refl, ap, subst, arith}
use Rattle.qs_syntax.specs.Units.{IsRead}
use Rattle.qs_types.specs.Limits.{IsWithinLimits, function_limit}
use Rattle.qs_types.specs.WellTyped.{WellTyped}
use Rattle.qs_typing_findings.specs.TypedOf.{typed_tree}
use Rattle.qs_core.specs.Fits.{unit_fits}
use Rattle.qs_core.specs.Trees.{CoreUnitTree}
use Rattle.qs_core.specs.UnitTrees.{unit_tree}
use Rattle.qs_elaborate_limits.specs.Laws.{OfEachCore}
use Rattle.qs_elaborate_limits.specs.Laws as limits
use Rattle.qs_elaborate_limits.proofs.CoreUnits.{functions_are_few, statements_nest_little}
use Rattle.qs_triples.specs.Derivations.{ProofsTree}
use Rattle.qs_triples.specs.Filled.{Filled}
use Rattle.qs_triples.specs.TreeOf.{proofs_tree}
use Rattle.qs_prooftext_meaning.specs.Reading.{Reading}
use Rattle.qs_prooftext_meaning.specs.Writable.{IsWritable}
use Rattle.qs_certify.specs.Certification.{IsCertified}
use Rattle.qs_certify.specs.Laws.{nesting_limit}
use Rattle.qs_certify.proofs.OneLaws.{all_are_derived}
use Rattle.qs_certify.proofs.RightLaws.{added_is_right}
use Rattle.qs_certify.proofs.WritableLaws.{added_is_writable}
use Rattle.qs_ports.specs.StoreView.{StoreView, HasSameCounts, HasFailed}
use Rattle.qs_ports.specs.SinkView.{SinkView}
use Rattle.qs_ports.specs.Whole.{Stores, IsCutShort}
use Rattle.qs_ports.proofs.Wholes.{counts_more, failed_later}
use Rattle.qs_report.specs.declared.fault_texts.Count.{Count}
use Rattle.qs_report.specs.declared.fault_texts.Count.TheVariants.{Derived}
use Rattle.qs_driver_steps.specs.Devices.{streams, views_of}
use Rattle.qs_driver_session.specs.Due.{IsWritten}
use Rattle.qs_driver_session.specs.Counts.{counted, counted_or_refused}
use Rattle.qs_driver_session.specs.Source.{IsTypedUnit}
use Rattle.qs_driver_session.specs.Task.{Answers}
use Rattle.qs_driver_session.specs.declared.status.Status.{Status}
use Rattle.qs_driver_session.specs.declared.status.Status.TheVariants.{StoreFailed, NoMemory}
use Rattle.qs_driver_session.specs.declared.status.FileKind.TheVariants as kinds
use Rattle.qs_driver_session.proofs.LaterLaws.{keeps_then_holds, cut_short}
use Rattle.qs_driver.specs.Certified.{CertifiedSource, ReadsCertified, LacksCertified, HasCertified}
use Rattle.qs_driver.specs.commands.Derive.{DeriveWords, names_of, inputs, derive, HasProofs, Derives}
use Rattle.qs_driver.specs.commands.Derive as meant
use Rattle.qs_driver.specs.declared.certified.CertifiedUnit.{CertifiedUnit}
use Rattle.qs_driver.proofs.BoundsLaws.{core_is}

-- ---- what is certified without a proof file

few_enough : (n : ℕ) → n ≤ function_limit → n < 2 ^ 63
few_enough n few = omega arith

little_enough : (n : ℕ) → n ≤ limits.nesting_limit → n ≤ nesting_limit
little_enough n little = omega arith

module _ (d : DeriveWords) {v : StoreView} {s : CertifiedSource} (r : ReadsCertified (inputs d) v s) (read : IsRead s.unit) where
  alone : IsCertified s.core None s.given s.proofs
  alone = subst (λ (file : Option (List ℕ)). IsCertified s.core file s.given s.proofs) r.file_read r.is.certified

  fits : unit_fits s.core ≡ true
  fits = subst (λ (u : CoreUnitTree). unit_fits u ≡ true) r.is.core_is r.is.has_core.fits

  abbrev typed : IsTypedUnit r.text
  typed = r.is.typed_as.typed

  -- what holds of the core of each unit within limits holds of this one
  of_core : {Holds : CoreUnitTree → Type 0} → OfEachCore Holds → Holds s.core
  of_core all =
      all s.unit s.core read (subst WellTyped r.is.typed_as.trees_are typed.well_typed) (subst IsWithinLimits r.is.typed_as.trees_are typed.within_limits)
      (core_is r.text r.file s r.is)

  -- what is filled in where none is given can be written
  writable : IsWritable s.core s.proofs
  writable =
      let few = of_core functions_are_few in
      let little = of_core statements_nest_little in
      added_is_writable s.core s.given s.proofs fits (few_enough _ few) (little_enough _ little) alone

  -- what is written of the proofs reads back as them
  has_proofs : {text : List ℕ} → (IsWritable s.core s.proofs → Reading s.core text s.proofs) → HasProofs d v s text
  has_proofs written = record {
    reads = r;
    filled = subst (λ (given : ProofsTree). Filled s.core given s.proofs) alone.given_is alone.all.filled;
    derived = λ f within. all_are_derived s.core s.given s.proofs f alone within;
    is_text = written writable;
    is_right = record {
      given = s.proofs;
      reads = written writable;
      right = added_is_right s.core s.given s.proofs fits alone;
    };
  }

-- ---- the work on the store

-- there is nothing certified to go on with
pub not_certified : (d : DeriveWords) (v w : StoreView) (status : Status) → d.source ≢ d.out → LacksCertified (inputs d) v w status → Derives d v w (Err status)
not_certified d v w status differ l = meant.refused differ status (meant.not_certified l) refl

-- no memory was found after the source was certified
pub out_of_memory : (d : DeriveWords) (v w : StoreView) (c : CertifiedUnit) → d.source ≢ d.out → HasCertified (inputs d) v w c → Derives d v w (Err NoMemory)
out_of_memory d v w c differ h = meant.refused differ NoMemory (meant.no_memory h.untouched refl) refl

-- the text reads back as what the code holds, where this can be written
abbrev pub ReadsBack : CertifiedUnit → (text : List ℕ) → Type 0
ReadsBack c text =
    IsWritable (unit_tree c.core) (proofs_tree c.certified.proofs)
    → Reading (unit_tree c.core) text (proofs_tree c.certified.proofs)

-- so it is one of the source's proofs
text_of_proofs : (d : DeriveWords) {v u : StoreView} {c : CertifiedUnit} {text : List ℕ} (h : HasCertified (inputs d) v u c) → IsRead (typed_tree c.typed) → ReadsBack c text → HasProofs d v h.source text
text_of_proofs d {c = c} {text = text} h read written =
    let of_core = subst (λ (u : CoreUnitTree). IsWritable u (proofs_tree c.certified.proofs) → Reading u text (proofs_tree c.certified.proofs)) h.holds.core written in
    let of_proofs = subst (λ (proofs : ProofsTree). IsWritable h.source.core proofs → Reading h.source.core text proofs) h.holds.proofs of_core in
    has_proofs d h.reads (subst IsRead h.holds.unit read) of_proofs

pub was_derived : (d : DeriveWords) {v u w : StoreView} {c : CertifiedUnit} {text : List ℕ} → d.source ≢ d.out → HasCertified (inputs d) v u c → IsRead (typed_tree c.typed) → ReadsBack c text → Stores u w d.out text × HasSameCounts u w → Derives d v w (Ok (Derived (length (proofs_tree c.certified.proofs).functions)))
was_derived d {text = text} differ h read written (stores, counts) = meant.derived differ (record {
  source = h.source;
  text = text;
  has_proofs = text_of_proofs d h read written;
  stores = keeps_then_holds h.untouched.only_reads.keeps stores;
  counts = counts_more h.untouched.counts counts;
  is_due = ap (λ (proofs : ProofsTree). counted (Derived (length proofs.functions))) h.holds.proofs;
})

pub not_written : (d : DeriveWords) {v u w : StoreView} {c : CertifiedUnit} {text : List ℕ} → d.source ≢ d.out → HasCertified (inputs d) v u c → IsRead (typed_tree c.typed) → ReadsBack c text → HasFailed u w × IsCutShort u w d.out text → Derives d v w (Err (StoreFailed kinds.Output))
not_written d {text = text} differ h read written (failed, cut) = meant.refused differ (StoreFailed kinds.Output) (meant.unwritable (record {
  source = h.source;
  text = text;
  has_proofs = text_of_proofs d h read written;
  part = cut_short h.untouched.only_reads.keeps cut;
  failed = failed_later h.untouched.counts failed;
}) refl) refl

-- ---- what is put after that

pub derive_answers : (d : DeriveWords) (s s' : StoreView) (o o' l l' : SinkView) (work : Result Count Status) (result : Status) → Derives d s s' work → IsWritten (counted_or_refused (names_of d) work) (streams o l) (streams o' l') result → Answers (derive d) (views_of s o l) (views_of s' o' l') result
derive_answers d s s' o o' l l' work result due h = record { due = counted_or_refused (names_of d) work; is_due = due; written = h }
