-- When nothing is made, where no call failed and memory was found.
use Rattle.std.proofs.Common.{◌≡◌, ◌≢◌, ◌⊎◌, ◌∙◌, ℕ, ◌<◌, ℤ, List, [], ◌∷◌, length, Bool, true, false, Option, Some, None, refl, sym, ap, subst, inl, inr, IsTrue}
use Rattle.std.specs.List.{list_any}
use Rattle.std.proofs.lemmas.Option.{same_Some}
use Rattle.qs_syntax.specs.Trees.{UnitTree}
use Rattle.qs_core.specs.Interfaces.{main_types}
use Rattle.qs_core.specs.CallGraph.{IsWithoutRecursion}
use Rattle.qs_core.specs.Trees.{CoreUnitTree}
use Rattle.qs_elaborate_bodies.specs.Units.{core_of}
use Rattle.qs_assert.specs.declared.define.Amount.{Amount}
use Rattle.qs_triples.specs.Derivations.{ProofsTree}
use Rattle.qs_triples.specs.Entries.{has_entry}
use Rattle.qs_prooftext_meaning.specs.Proofs.{no_proofs}
use Rattle.qs_memory.specs.declared.scalar.Scalar.{Scalar}
use Rattle.qs_certify.specs.Bound.{AreNumbersOf}
use Rattle.qs_certify.specs.Certification.{IsCertified}
use Rattle.qs_certify.specs.Laws.{AreRightProofs}
use Rattle.qs_certify.proofs.OneLaws.{certified_is_right}
use Rattle.qs_ports.specs.StoreView.{StoreView}
use Rattle.qs_image.specs.Image.{Image}
use Rattle.qs_driver_session.specs.Limits.{source_limit}
use Rattle.qs_driver_session.specs.Source.{IsTypedAs, IsOfSource, missing_source, long_source, ill_spelled, no_reading, ill_typed}
use Rattle.qs_driver_steps.specs.Files.{StoreHeld}
use Rattle.qs_driver_session.specs.Promises.{SaysStoreFailed}
use Rattle.qs_driver_session.specs.declared.status.Status.{Status}
use Rattle.qs_driver_session.specs.declared.status.Status.TheVariants.{Done, Source, Proof, Words, Missing, StoreFailed, Image as NotAnImage, Elf as NoExecutable, Trapped, StepLimit, NoBound, StackTooLarge, SinkFailed, NoMemory}
use Rattle.qs_driver_session.specs.declared.status.SourceFault.{SourceFault}
use Rattle.qs_driver_session.specs.declared.status.SourceFault.TheVariants.{TooLong, Lex, Syntax, Typing}
use Rattle.qs_driver_session.specs.declared.status.WordsFault.{WordsFault}
use Rattle.qs_driver_session.specs.declared.status.WordsFault.TheVariants.{ArgCount, ArgRange}
use Rattle.qs_driver_session.specs.declared.status.FileKind.{FileKind}
use Rattle.qs_driver_session.specs.declared.status.FileKind.TheVariants as kinds
use Rattle.qs_driver_session.proofs.FilesLaws.{held_content}
use Rattle.qs_driver_session.proofs.SourceFollows.{one_content}
use Rattle.qs_driver_session.proofs.SourceLaws.{same_trees}
use Rattle.qs_driver_session.proofs.rooms.Follows.{not_untouched}
use Rattle.qs_driver.specs.Certified.{CertifyWords, CertifiedSource, ReadsCertified, WasReadProof, IsRightFile, HoldsRight, HoldsRightProofs, IsOfCertified, of_source, missing_proof, long_proof, wrong_proof}
use Rattle.qs_driver_proofs.specs.Misfits.{CountDiffers, IsMisfit}
use Rattle.qs_driver.specs.Made.{MakeWords, IsMade, ReadsMain, CannotMake, HoldsMain, FitsMain, IsOfMade, RefusesMade}
use Rattle.qs_driver.specs.Made as meant
use Rattle.qs_driver.proofs.BoundsLaws.{core_is}
use Rattle.qs_driver.proofs.CertifiedFollows.{certified_own, certified_shows, certified_no_right}
use Rattle.qs_driver.proofs.CertifiedRefusals.{CertifiedEnds, IsNoCertifiedRefusal, certified_ends, was_right, refuses_certified}
use Rattle.qs_driver_proofs.proofs.NumberLaws.{as_many, one_unfit, none_unfit}

-- ---- statuses at which a source or its proofs are refused

abbrev is_certified_file : FileKind → Bool
is_certified_file kinds.Source = true
is_certified_file kinds.Derivation = true
is_certified_file kinds.Image = false
is_certified_file kinds.Elf = false
is_certified_file kinds.Input = false
is_certified_file kinds.Output = false

abbrev is_source_refusal : SourceFault → Bool
is_source_refusal (TooLong kind) = is_certified_file kind
is_source_refusal (Lex fault pos) = true
is_source_refusal (Syntax fault place) = true
is_source_refusal (Typing fault place) = true

abbrev pub is_refusal : Status → Bool
is_refusal Done = false
is_refusal (Source fault) = is_source_refusal fault
is_refusal (Proof told) = true
is_refusal (Words x) = false
is_refusal (Missing kind) = is_certified_file kind
is_refusal (StoreFailed kind) = false
is_refusal (NotAnImage fault) = false
is_refusal (NoExecutable fault) = false
is_refusal (Trapped cause pc) = false
is_refusal (StepLimit steps) = false
is_refusal (NoBound amount) = false
is_refusal (StackTooLarge size) = false
is_refusal SinkFailed = false
is_refusal NoMemory = false

differs : (status other : Status) → is_refusal other ≡ true → is_refusal status ≡ false → status ≢ other
differs status other is none e = let same : is_refusal status ≡ is_refusal other = ap is_refusal e in (let never : ⊥ = cc in never)

-- the status is another
pub none_refused : (status : Status) → is_refusal status ≡ false → IsNoCertifiedRefusal status
none_refused status none = record {
  of_source = record {
    not_missing = differs status (Missing kinds.Source) refl none;
    not_long = differs status (Source (TooLong kinds.Source)) refl none;
    not_lexical = λ fault pos. differs status (Source (Lex fault pos)) refl none;
    not_syntactic = λ fault place. differs status (Source (Syntax fault place)) refl none;
    not_typing = λ fault place. differs status (Source (Typing fault place)) refl none;
  };
  not_missing = differs status (Missing kinds.Derivation) refl none;
  not_long = differs status (Source (TooLong kinds.Derivation)) refl none;
  not_wrong = λ told. differs status (Proof told) refl none;
}

source_refuses : {status : Status} → IsOfSource status → is_refusal status ≡ true
source_refuses missing_source = refl
source_refuses long_source = refl
source_refuses (ill_spelled fault pos) = refl
source_refuses (no_reading fault place) = refl
source_refuses (ill_typed fault place) = refl

pub certified_refuses : {status : Status} → IsOfCertified status → is_refusal status ≡ true
certified_refuses (of_source of) = source_refuses of
certified_refuses missing_proof = refl
certified_refuses long_proof = refl
certified_refuses (wrong_proof told) = refl

no_words : (status : Status) (x : WordsFault) → IsOfCertified status → status ≡ Words x → ⊥
no_words status x of e =
    let is : is_refusal status ≡ true = certified_refuses of in
    let none : is_refusal status ≡ false = ap is_refusal e in
    (let never : ⊥ = cc in never)

-- ---- its own statuses

pub made_own : (m : MakeWords) (v w : StoreView) (status : Status) → StoreHeld v w → CannotMake m v w status → IsOfMade m.args status ⊎ (status ≡ NoMemory)
made_own m v w status n (meant.not_certified l) = elim (certified_own m.inputs v w status n l) [
  | inl of ↦ inl (meant.of_certified of)
  | inr e ↦ inr e
]
made_own m v w status n (meant.count_differs parameters u c e) = inl (subst (IsOfMade m.args) (sym e) (meant.wrong_count parameters))
made_own m v w status n (meant.misfit i u x e) = inl (subst (IsOfMade m.args) (sym e) (meant.wrong_argument i))
made_own m v w status n (meant.no_memory u e) = inr e

-- ---- what isn't hidden

pub made_shows : (m : MakeWords) (v w : StoreView) (status : Status) → CannotMake m v w status → v.faults < w.faults → SaysStoreFailed status
made_shows m v w status (meant.not_certified l) r = certified_shows m.inputs v w status l r
made_shows m v w status (meant.count_differs parameters u c e) r = absurd (not_untouched v w u r)
made_shows m v w status (meant.misfit i u x e) r = absurd (not_untouched v w u r)
made_shows m v w status (meant.no_memory u e) r = absurd (not_untouched v w u r)

-- ---- a source that is there has one core

-- the core of a source that is there is that of what was read of it
read_core : (c : CertifyWords) (v : StoreView) (s : CertifiedSource) (h : HoldsRight c v.files) (core : CoreUnitTree) → IsTrue v.told → ReadsCertified c v s → core_of h.typed.unit.trees ≡ Some core → s.core ≡ core
read_core c v s h core told r is =
    let texts : r.text ≡ h.text = one_content (v.files c.source) source_limit r.text h.text (held_content r.text_read told) h.there in
    let there : IsTypedAs h.text s.unit = subst (λ (text : List ℕ). IsTypedAs text s.unit) texts r.is.typed_as in
    let unit : s.unit ≡ h.typed.unit.trees = sym there.trees_are ∙ same_trees h.text there.typed.unit h.typed.unit in
    same_Some s.core core (sym (core_is r.text r.file s r.is) ∙ ap core_of unit ∙ is)

-- ---- what is certified is right

no_entries : (fs : List ℕ) → list_any (has_entry no_proofs) fs ≡ false
no_entries [] = refl
no_entries (f ∷ fs) = no_entries fs

right_proofs : (v : StoreView) (proof file : Option (List ℕ)) (unit : UnitTree) (u : CoreUnitTree) (given proofs : ProofsTree) → IsTrue v.told → WasReadProof v proof file → core_of unit ≡ Some u → IsCertified u file given proofs → HoldsRightProofs v.files proof unit
right_proofs v None file unit u given proofs told read is c =
    let none : IsCertified u None given proofs = subst (λ (x : Option (List ℕ)). IsCertified u x given proofs) read c in
    let right : AreRightProofs u no_proofs = subst (λ (p : ProofsTree). AreRightProofs u p) none.given_is (certified_is_right u None given proofs none) in
    λ core core_is.
    subst IsWithoutRecursion (same_Some u core (sym is ∙ core_is))
    (λ fs circle. right.no_cycle fs (record { circle = circle; none = no_entries fs }))
right_proofs v (Some name) None unit u given proofs told read is c = absurd read
right_proofs v (Some name) (Some text) unit u given proofs told read is c = record {
  content = text;
  holds = held_content read told;
  has = λ core core_is.
      subst (λ (x : CoreUnitTree). IsRightFile x text) (same_Some u core (sym is ∙ core_is))
      (record { given = given; reads = c.given_is; right = certified_is_right u (Some text) given proofs c });
}

own_core : (c : CertifyWords) (v : StoreView) (s : CertifiedSource) (r : ReadsCertified c v s) → core_of r.is.typed_as.typed.unit.trees ≡ Some s.core
own_core c v s r = ap core_of r.is.typed_as.trees_are ∙ core_is r.text r.file s r.is

pub certified_right : (c : CertifyWords) (v : StoreView) (s : CertifiedSource) → IsTrue v.told → ReadsCertified c v s → HoldsRight c v.files
certified_right c v s told r = record {
  text = r.text;
  there = held_content r.text_read told;
  typed = r.is.typed_as.typed;
  proofs = right_proofs v c.proof r.file r.is.typed_as.typed.unit.trees s.core s.given s.proofs told r.file_read (own_core c v s r) r.is.certified;
}

-- ---- main's parameters

-- what is so of those that were read is so of those that are there, and the other way round
main_there : (m : MakeWords) (v : StoreView) (P : List Scalar → Type 0) → IsTrue v.told → ReadsMain m v P → HoldsMain m v.files P
unfolding certified_right
main_there m v P told h = record {
  right = certified_right m.inputs v h.source told h.reads;
  core = h.source.core;
  core_is = own_core m.inputs v h.source h.reads;
  so = h.so;
}

main_read : (m : MakeWords) (v : StoreView) (s : CertifiedSource) (P : List Scalar → Type 0) → IsTrue v.told → ReadsCertified m.inputs v s → HoldsMain m v.files P → P (main_types s.core)
main_read m v s P told r h =
    subst (λ (u : CoreUnitTree). P (main_types u)) (sym (read_core m.inputs v s h.right h.core told r h.core_is)) h.so

-- there aren't both so many and another number of parameters
counts_differ : (types : List Scalar) (args : List ℤ) (parameters : ℕ) → CountDiffers types args parameters → length args ≡ length types → ⊥
counts_differ types args parameters d count = d.differ (count ∙ sym d.parameters_are)

-- ---- what is accepted

-- where nothing is made, the proofs aren't right or the arguments aren't main's
pub made_no_good : (m : MakeWords) (v w : StoreView) (status : Status) → StoreHeld v w → CannotMake m v w status → (IsTrue v.told → FitsMain m v.files → ⊥) ⊎ (status ≡ NoMemory)
made_no_good m v w status n (meant.not_certified l) = elim (certified_no_right m.inputs v w status n l) [
  | inl never ↦ inl (λ told fits. never told fits.right)
  | inr e ↦ inr e
]
made_no_good m v w status n (meant.count_differs parameters u c e) = inl (λ told fits.
    let are = main_read m v c.source (λ types. AreNumbersOf types m.args) told c.reads fits in
    counts_differ (main_types c.source.core) m.args parameters c.so (as_many (main_types c.source.core) m.args are))
made_no_good m v w status n (meant.misfit i u x e) = inl (λ told fits.
    let are = main_read m v x.source (λ types. AreNumbersOf types m.args) told x.reads fits in
    none_unfit (main_types x.source.core) m.args i are x.so.first)
made_no_good m v w status n (meant.no_memory u e) = inr e

pub fits_main : (m : MakeWords) (v : StoreView) (image : Image) (bound : Amount) → IsTrue v.told → IsMade m v image bound → FitsMain m v.files
fits_main m v image bound told made =
    main_there m v (λ types. AreNumbersOf types m.args) told (record { source = made.source; reads = made.makes.reads; so = made.arguments })

-- ---- how it ends

-- the status is none of those at which nothing is made
pub record IsNoMadeRefusal (status : Status) : Type 0 where
  pub of_certified : IsNoCertifiedRefusal status
  pub not_words : (x : WordsFault) → status ≢ Words x

pub data MadeEnds (m : MakeWords) (v : StoreView) (status : Status) : Type 0 where
  goes_on : (image : Image) (bound : Amount) → IsMade m v image bound → IsNoMadeRefusal status → MadeEnds m v status
  cannot : (w : StoreView) → StoreHeld v w → CannotMake m v w status → MadeEnds m v status

module _ (m : MakeWords) (v : StoreView) (status : Status) (memory : status ≢ NoMemory) (told : IsTrue v.told) where
  as_certified : MadeEnds m v status → CertifiedEnds m.inputs v.files status
  as_certified (goes_on image bound made none) = was_right m.inputs v made.source status told made.makes.reads none.of_certified
  as_certified (cannot w n (meant.not_certified l)) = elim (certified_ends m.inputs v w status n told l) [
    | inl ends ↦ ends
    | inr e ↦ absurd (memory e)
  ]
  as_certified (cannot w n (meant.count_differs parameters u c e)) = was_right m.inputs v c.source status told c.reads (none_refused status (ap is_refusal e))
  as_certified (cannot w n (meant.misfit i u x e)) = was_right m.inputs v x.source status told x.reads (none_refused status (ap is_refusal e))
  as_certified (cannot w n (meant.no_memory u e)) = absurd (memory e)

  no_words_of : (w : StoreView) (x : WordsFault) → StoreHeld v w → IsOfCertified status ⊎ (status ≡ NoMemory) → status ≡ Words x → ⊥
  no_words_of w x n (inl of) e = no_words status x of e
  no_words_of w x n (inr is) e = memory is

  -- ---- as many arguments as parameters

  module _ (parameters : ℕ) where
    abbrev Differs : List Scalar → Type 0
    Differs types = CountDiffers types m.args parameters

    count_tells : MadeEnds m v status → status ≡ Words (ArgCount parameters (length m.args)) → HoldsMain m v.files Differs
    count_tells (goes_on image bound made none) f = absurd (none.not_words (ArgCount parameters (length m.args)) f)
    count_tells (cannot w n (meant.not_certified l)) f = absurd (no_words_of w (ArgCount parameters (length m.args)) n (certified_own m.inputs v w status n l) f)
    count_tells (cannot w n (meant.count_differs found u c e)) f =
        let both : ◌≡◌ {A = Status} (Words (ArgCount found (length m.args))) (Words (ArgCount parameters (length m.args))) = sym e ∙ f in
        let same : found ≡ parameters = cc in
        main_there m v Differs told (subst (λ (k : ℕ). ReadsMain m v (λ types. CountDiffers types m.args k)) same c)
    count_tells (cannot w n (meant.misfit i u x e)) f = absurd (let both : ◌≡◌ {A = Status} (Words (ArgRange i)) (Words (ArgCount parameters (length m.args))) = sym e ∙ f in (let never : ⊥ = cc in never))
    count_tells (cannot w n (meant.no_memory u e)) f = absurd (memory e)

    count_leads : MadeEnds m v status → HoldsMain m v.files Differs → status ≡ Words (ArgCount parameters (length m.args))
    count_leads (goes_on image bound made none) h =
        let d = main_read m v made.source Differs told made.makes.reads h in
        absurd (counts_differ (main_types made.source.core) m.args parameters d (as_many (main_types made.source.core) m.args made.arguments))
    count_leads (cannot w n (meant.not_certified l)) h = elim (certified_no_right m.inputs v w status n l) [
      | inl never ↦ absurd (never told h.right)
      | inr e ↦ absurd (memory e)
    ]
    count_leads (cannot w n (meant.count_differs found u c e)) h =
        let d = main_read m v c.source Differs told c.reads h in
        e ∙ ap (λ (k : ℕ). Words (ArgCount k (length m.args))) (c.so.parameters_are ∙ sym d.parameters_are)
    count_leads (cannot w n (meant.misfit i u x e)) h =
        absurd (counts_differ (main_types x.source.core) m.args parameters (main_read m v x.source Differs told x.reads h) x.so.count)
    count_leads (cannot w n (meant.no_memory u e)) h = absurd (memory e)

  -- ---- arguments of their parameters' types

  module _ (i : ℕ) where
    abbrev Misfits : List Scalar → Type 0
    Misfits types = IsMisfit types m.args i

    argument_tells : MadeEnds m v status → status ≡ Words (ArgRange i) → HoldsMain m v.files Misfits
    argument_tells (goes_on image bound made none) f = absurd (none.not_words (ArgRange i) f)
    argument_tells (cannot w n (meant.not_certified l)) f = absurd (no_words_of w (ArgRange i) n (certified_own m.inputs v w status n l) f)
    argument_tells (cannot w n (meant.count_differs found u c e)) f = absurd (let both : ◌≡◌ {A = Status} (Words (ArgCount found (length m.args))) (Words (ArgRange i)) = sym e ∙ f in (let never : ⊥ = cc in never))
    argument_tells (cannot w n (meant.misfit found u x e)) f =
        let both : ◌≡◌ {A = Status} (Words (ArgRange found)) (Words (ArgRange i)) = sym e ∙ f in
        let same : found ≡ i = cc in
        main_there m v Misfits told (subst (λ (k : ℕ). ReadsMain m v (λ types. IsMisfit types m.args k)) same x)
    argument_tells (cannot w n (meant.no_memory u e)) f = absurd (memory e)

    argument_leads : MadeEnds m v status → HoldsMain m v.files Misfits → status ≡ Words (ArgRange i)
    argument_leads (goes_on image bound made none) h =
        absurd (none_unfit (main_types made.source.core) m.args i made.arguments (main_read m v made.source Misfits told made.makes.reads h).first)
    argument_leads (cannot w n (meant.not_certified l)) h = elim (certified_no_right m.inputs v w status n l) [
      | inl never ↦ absurd (never told h.right)
      | inr e ↦ absurd (memory e)
    ]
    argument_leads (cannot w n (meant.count_differs found u c e)) h =
        absurd (counts_differ (main_types c.source.core) m.args found c.so (main_read m v c.source Misfits told c.reads h).count)
    argument_leads (cannot w n (meant.misfit found u x e)) h =
        let first = (main_read m v x.source Misfits told x.reads h).first in
        e ∙ ap (λ (k : ℕ). Words (ArgRange k)) (one_unfit (main_types x.source.core) m.args found i x.so.first first)
    argument_leads (cannot w n (meant.no_memory u e)) h = absurd (memory e)

  -- ---- the clauses

  pub refuses_made : MadeEnds m v status → RefusesMade m v.files status
  refuses_made ends = record {
    certified = refuses_certified m.inputs v.files status (as_certified ends);
    count = λ parameters. (count_tells parameters ends, count_leads parameters ends);
    argument = λ i. (argument_tells i ends, argument_leads i ends);
  }
