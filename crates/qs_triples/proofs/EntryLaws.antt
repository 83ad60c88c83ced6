-- What the check of an entry tells, one question after another.
use Rattle.std.proofs.Common.{◌≡◌, ◌-◌, ℕ, suc, List, [], ◌∷◌, length, Option, Some, None, refl, sym, ap, ◌∙◌, subst, arith}
use Rattle.std.specs.Prelude.{reverse, Vec, OnOk, Result, Ok, Err}
use Rattle.std.specs.declared.alloc.Global.{Global}
use Rattle.qs_base.specs.declared.function.FnId.{FnId}
use Rattle.qs_assert.specs.declared.variable.Var.{Var}
use Rattle.std.specs.List.{slice_get}
use Rattle.std.specs.Option.{option_or}
use Rattle.qs_base.specs.Results.{fault_or}
use Rattle.qs_assert.specs.Trees.{AssertionTree}
use Rattle.qs_entail.specs.declared.fault.CertFault.{CertFault}
use Rattle.qs_entail.specs.declared.fault.CertFault.TheVariants as certs
use Rattle.qs_entail.specs.declared.fault.Rule.{Rule}
use Rattle.qs_entail.specs.declared.stop.Limit.{Limit}
use Rattle.qs_entail.specs.Answers.{fault_of}
use Rattle.qs_entail.specs.Faults as certificates
use Rattle.qs_core.specs.declared.statements.CoreStmt.{CoreStmt}
use Rattle.qs_core.specs.TreeOf.{core_stmt, core_stmts}
use Rattle.qs_core.specs.Trees.{stmts_of, CoreFunctionTree, CoreUnitTree}
use Rattle.qs_triples.specs.Derivations.{EntryTree, ProofsTree, entry_of}
use Rattle.qs_triples.specs.Entries.{is_return, ends_in_return, order_told, fault_in_for, fault_of_known_for, entry_fault_for, fault_of_entry_for, function_fault_for, HasDerivedEntryFor}
use Rattle.qs_triples.specs.Rules as rules
use Rattle.qs_triples.specs.Rules.{Answer, shape, mentions, at_node, certificate, no_spec, entry}
use Rattle.qs_triples.specs.Told.{callee_view, fault_at, FailsAs, IsDue, IsOfCertificate, Tells}
use Rattle.qs_triples.specs.Checking.{WasDue}
use Rattle.qs_triples.specs.declared.resource.Resource.{Resource}
use Rattle.qs_triples.specs.declared.failure.Cause.{Cause}
use Rattle.qs_triples.specs.declared.failure.Cause.TheVariants as causes
use Rattle.qs_triples.specs.declared.failure.Failure.{Failure}
use Rattle.qs_triples.specs.declared.failure.Failure.TheVariants as failures
use Rattle.qs_triples.specs.declared.fault.Place.TheVariants as places
use Rattle.qs_triples.specs.declared.fault.DerivFault.{DerivFault}
use Rattle.qs_triples.specs.declared.fault.DerivFault.TheVariants as faults

-- ---- the first fault

of_first : (there : certificates.CertFault → rules.DerivFault) (fault : CertFault) (a b : Option rules.DerivFault) → IsOfCertificate there fault a → IsOfCertificate there fault (option_or a b)
of_first there certs.NoMemory a b h = absurd h
of_first there (certs.Step path rule) a b h = ap (λ (o : Option rules.DerivFault). option_or o b) h
of_first there (certs.Limit path l) a b h = ap (λ (o : Option rules.DerivFault). option_or o b) h

-- the first question's fault comes before those of the others
pub due_first : (fault : DerivFault) (a b : Option rules.DerivFault) → IsDue fault a → IsDue fault (option_or a b)
due_first faults.NoMemory a b h = tt
due_first (faults.Shape path) a b h = ap (λ (o : Option rules.DerivFault). option_or o b) h
due_first (faults.Mentions place g x) a b h = ap (λ (o : Option rules.DerivFault). option_or o b) h
due_first (faults.Cert path fault) a b h = of_first (certificate path.items) fault a b h
due_first (faults.NoSpec path g) a b h = ap (λ (o : Option rules.DerivFault). option_or o b) h
due_first (faults.Entry fault) a b h = of_first entry fault a b h
due_first (faults.BadOrder d) a b h = ap (λ (o : Option rules.DerivFault). option_or o b) h

-- without one, the others decide
pub tells_next : (result : Result (Unit {0}) DerivFault) (a b : Option rules.DerivFault) → a ≡ None → Tells result b → Tells result (option_or a b)
tells_next result a b e h = subst (λ (o : Option rules.DerivFault). Tells result (option_or o b)) (sym e) h

-- a definition that is out of order comes before all others
pub order_stops : (misplaced first : Option ℕ) (d : ℕ) (b : Option rules.DerivFault) → misplaced ≡ first → misplaced ≡ Some d → IsDue (faults.BadOrder d) (option_or (order_told first) b)
order_stops misplaced first d b same is = due_first (faults.BadOrder d) (order_told first) b (ap order_told (sym same ∙ is))

pub order_passed : (result : Result (Unit {0}) DerivFault) (misplaced first : Option ℕ) (b : Option rules.DerivFault) → misplaced ≡ first → misplaced ≡ None → Tells result b → Tells result (option_or (order_told first) b)
order_passed result misplaced first b same is h = tells_next result (order_told first) b (ap order_told (sym same ∙ is)) h

-- the body's fault comes before that of the certificate
pub due_of_body : (answer : Answer) (fault due : rules.DerivFault) (others : AssertionTree → Option rules.DerivFault) → answer ≡ Err fault → fault ≡ due → fault_or (λ f. f) answer others ≡ Some due
due_of_body answer fault due others h e = ap (λ (r : Answer). fault_or (λ f. f) r others) h ∙ ap Some e

pub tells_behind : (result : Result (Unit {0}) DerivFault) (answer : Answer) (needed : AssertionTree) (others : AssertionTree → Option rules.DerivFault) → answer ≡ Ok needed → Tells result (others needed) → Tells result (fault_or (λ f. f) answer others)
tells_behind result answer needed others e h = subst (λ (r : Answer). Tells result (fault_or (λ f. f) r others)) (sym e) h

-- ---- the end of a body

pub ends_as_last : (ss : List CoreStmt) (s : CoreStmt) → Some s ≡ slice_get ss (length ss - 1) → ends_in_return (stmts_of (core_stmts ss)) ≡ is_return (core_stmt s)
ends_as_last [] s h = absurd (let none : Some s ≡ None = h in cc)
ends_as_last (x ∷ []) s h =
    let first : length (x ∷ []) - 1 ≡ 0 = omega arith in
    let at : Some s ≡ Some x = h ∙ ap (slice_get (x ∷ [])) first in
    let e : x ≡ s = cc in
    ap (λ (y : CoreStmt). is_return (core_stmt y)) e
ends_as_last (x ∷ y ∷ ss) s h =
    let e : length (x ∷ y ∷ ss) - 1 ≡ suc (length (y ∷ ss) - 1) = omega arith in
    ends_as_last (y ∷ ss) s (h ∙ ap (slice_get (x ∷ y ∷ ss)) e)

-- ---- the function of an entry

pub found_tells : (result : Result (Unit {0}) DerivFault) (resource : Resource) (u : CoreUnitTree) (proofs : ProofsTree) (e : EntryTree) (f : CoreFunctionTree) → slice_get u.functions e.function ≡ Some f → Tells result (fault_in_for resource u proofs f e) → Tells result (entry_fault_for resource u proofs e)
found_tells result resource u proofs e f h k = subst (λ (o : Option CoreFunctionTree). Tells result (fault_of_known_for resource u proofs o e)) (sym h) k

pub not_found : (resource : Resource) (u : CoreUnitTree) (proofs : ProofsTree) (e : EntryTree) → slice_get u.functions e.function ≡ None → entry_fault_for resource u proofs e ≡ Some (shape [])
not_found resource u proofs e h = ap (λ (o : Option CoreFunctionTree). fault_of_known_for resource u proofs o e) h

-- ---- a function whose first entry is derived

derived_entry : (resource : Resource) (u : CoreUnitTree) (proofs : ProofsTree) (f : ℕ) (o : Option EntryTree) → entry_of proofs f ≡ o → fault_of_entry_for resource u proofs o ≡ None → HasDerivedEntryFor resource u proofs f
derived_entry resource u proofs f None h k = absurd (let e : Some (shape []) ≡ None = k in cc)
derived_entry resource u proofs f (Some e) h k = record { entry_tree = e; stands = h; derived = k }

pub tells_derived : (result : Result (Unit {0}) DerivFault) (resource : Resource) (u : CoreUnitTree) (proofs : ProofsTree) (f : ℕ) → Tells result (function_fault_for resource u proofs f) → OnOk result (HasDerivedEntryFor resource u proofs f)
tells_derived (Ok done) resource u proofs f h = derived_entry resource u proofs f (entry_of proofs f) refl h
tells_derived (Err fault) resource u proofs f h = tt

-- ---- the fault of a walk that failed

-- the path is turned round
at_path : (failure : Failure) (path now : Vec ℕ Global) (cause : Cause) (due : rules.DerivFault) → failure ≡ failures.Fault path cause → fault_at (reverse path.items) cause ≡ due → (answer : Answer) (others : AssertionTree → Option rules.DerivFault) → FailsAs failure answer → fault_or (λ f. f) answer others ≡ Some due
at_path failure path now cause due e k answer others h =
    due_of_body answer (fault_at (reverse path.items) cause) due others (subst (λ (x : Failure). FailsAs x answer) e h) k

pub told_shape : (failure : Failure) (path now : Vec ℕ Global) → failure ≡ failures.Fault path causes.Shape → now.items ≡ reverse path.items → WasDue failure (faults.Shape now)
told_shape failure path now e r = at_path failure path now causes.Shape (shape now.items) e (ap shape (sym r))

pub told_mentions : (failure : Failure) (path now : Vec ℕ Global) (g : Option FnId) (x : Var) → failure ≡ failures.Fault path (causes.Mentions g x) → now.items ≡ reverse path.items → WasDue failure (faults.Mentions (places.Node now) g x)
told_mentions failure path now g x e r =
    at_path failure path now (causes.Mentions g x) (mentions (at_node now.items) (callee_view g) x) e (ap (λ (p : List ℕ). mentions (at_node p) (callee_view g) x) (sym r))

pub told_step : (failure : Failure) (path now inner : Vec ℕ Global) (rule : Rule) → failure ≡ failures.Fault path (causes.Step inner rule) → now.items ≡ reverse path.items → WasDue failure (faults.Cert now (certs.Step inner rule))
told_step failure path now inner rule e r =
    at_path failure path now (causes.Step inner rule) (certificate now.items (certificates.step inner.items rule)) e (ap (λ (p : List ℕ). certificate p (certificates.step inner.items rule)) (sym r))

pub told_limit : (failure : Failure) (path now inner : Vec ℕ Global) (l : Limit) → failure ≡ failures.Fault path (causes.Limit inner l) → now.items ≡ reverse path.items → WasDue failure (faults.Cert now (certs.Limit inner l))
told_limit failure path now inner l e r =
    at_path failure path now (causes.Limit inner l) (certificate now.items (certificates.limit inner.items (fault_of l))) e (ap (λ (p : List ℕ). certificate p (certificates.limit inner.items (fault_of l))) (sym r))

pub told_no_spec : (failure : Failure) (path now : Vec ℕ Global) (g : FnId) → failure ≡ failures.Fault path (causes.NoSpec g) → now.items ≡ reverse path.items → WasDue failure (faults.NoSpec now g)
told_no_spec failure path now g e r =
    at_path failure path now (causes.NoSpec g) (no_spec now.items g.0) e (ap (λ (p : List ℕ). no_spec p g.0) (sym r))

pub ruleset known_order = (order_stops, order_passed)

pub ruleset told_faults = (told_shape, told_mentions, told_step, told_limit, told_no_spec)
