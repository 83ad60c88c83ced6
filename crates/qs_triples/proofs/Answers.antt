-- What answers say: those without a fault, steps that may fail, and answers that are another one.
use Rattle.std.proofs.Common.{◌≡◌, ℕ, List, [], ◌∷◌, Bool, true, false, Option, Some, None, refl, sym, ap, subst, ◌∙◌}
use Rattle.std.specs.Prelude.{cond, ◌||◌, is_none, Result, Ok, Err}
use Rattle.std.specs.List.{find, list_any}
use Rattle.std.specs.Option.{option_or}
use Rattle.qs_base.specs.Results.{bind, require, fault_or}
use Rattle.qs_calls.specs.declared.callee.Callee.TheVariants.{Function, PutChar, GetChar}
use Rattle.qs_assert.specs.declared.variable.Var.{Var}
use Rattle.qs_assert.specs.Substitution.{same_variable}
use Rattle.qs_assert.specs.Trees.{AssertionTree}
use Rattle.qs_assert.proofs.SamenessLaws.{variable_equal}
use Rattle.qs_entail.specs.Faults as certificates
use Rattle.qs_core.specs.declared.labels.CoreLabel.{CoreLabel}
use Rattle.qs_core.specs.Trees as core
use Rattle.qs_core.specs.Trees.{CoreExprTree, CoreStmtTree, CoreStmts, CoreFunctionTree}
use Rattle.qs_triples.specs.declared.resource.Resource.{Resource}
use Rattle.qs_triples.specs.declared.resource.Resource.TheVariants.{Stack, Calls}
use Rattle.qs_triples.specs.declared.failure.Failure.{Failure}
use Rattle.qs_triples.specs.declared.failure.Failure.TheVariants as failures
use Rattle.qs_triples.specs.Derivations.{SpecTree}
use Rattle.qs_triples.specs.Rules.{DerivFault, Answer, part, unless, unless_of, where_given_back, by_verdict, of_sequence, of_branch, of_loop, of_switch, CallSite, of_call, Known, of_spec}
use Rattle.qs_triples.specs.Told.{FailsAs, Follows}
pub use Rattle.std.proofs.lemmas.Bool.{not-false as not_false}

-- an answer that is this assertion
abbrev pub Gives : Answer → AssertionTree → Type 0
Gives answer a = answer ≡ Ok a

pub ok_same : (a b : AssertionTree) → Gives (Ok a) b → a ≡ b
ok_same a b h = cc

pub bind_ok : (r : Answer) (next : AssertionTree → Answer) (b : AssertionTree) → Gives (bind r next) b → (a : AssertionTree) × (Gives r a × Gives (next a) b)
bind_ok (Ok a) next b h = (a, (refl, h))
bind_ok (Err fault) next b h = cc

pub part_ok : (i : ℕ) (r : Answer) (a : AssertionTree) → Gives (part i r) a → Gives r a
part_ok i (Ok b) a h = h
part_ok i (Err fault) a h = cc

pub require_ok : (t : Bool) (fault : DerivFault) (r : Answer) (a : AssertionTree) → Gives (require t fault r) a → (t ≡ true) × Gives r a
require_ok true fault r a h = (refl, h)
require_ok false fault r a h = cc

pub unless_of_ok : (g : Option ℕ) (o : Option Var) (r : Answer) (a : AssertionTree) → Gives (unless_of g o r) a → (o ≡ None) × Gives r a
unless_of_ok g None r a h = (refl, h)
unless_of_ok g (Some x) r a h = cc

pub unless_ok : (o : Option Var) (r : Answer) (a : AssertionTree) → Gives (unless o r) a → (o ≡ None) × Gives r a
unless_ok o r a h = unless_of_ok None o r a h

pub given_back_ok : (resource : Resource) (r : Answer) (a : AssertionTree) → Gives (where_given_back resource r) a → (resource ≡ Stack) × Gives r a
given_back_ok Stack r a h = (refl, h)
given_back_ok Calls r a h = cc

pub by_verdict_ok : (v : Option certificates.CertFault) (r a : AssertionTree) → Gives (by_verdict v r) a → (v ≡ None) × (r ≡ a)
by_verdict_ok None r a h = (refl, ok_same r a h)
by_verdict_ok (Some fault) r a h = cc

-- ---- the forms of statements

pub sequence_ok : (s : CoreStmtTree) (rule : CoreStmts → Answer) (a : AssertionTree) → Gives (of_sequence s rule) a → (ss : CoreStmts) × ((s ≡ core.seq ss) × Gives (rule ss) a)
sequence_ok (core.seq ss) rule a h = (ss, (refl, h))
sequence_ok _ rule a h = cc

pub record IsBranch (s : CoreStmtTree) (rule : CoreExprTree → CoreStmtTree → CoreStmtTree → Answer) (a : AssertionTree) : Type 0 where
  pub condition : CoreExprTree
  pub first : CoreStmtTree
  pub second : CoreStmtTree
  pub is : s ≡ core.branch condition first second
  pub gives : Gives (rule condition first second) a

pub branch_ok : (s : CoreStmtTree) (rule : CoreExprTree → CoreStmtTree → CoreStmtTree → Answer) (a : AssertionTree) → Gives (of_branch s rule) a → IsBranch s rule a
branch_ok (core.branch e s t) rule a h = record { condition = e; first = s; second = t; is = refl; gives = h }
branch_ok _ rule a h = cc

pub record IsLoop (s : CoreStmtTree) (rule : CoreStmtTree → CoreStmtTree → Answer) (a : AssertionTree) : Type 0 where
  pub body : CoreStmtTree
  pub step : CoreStmtTree
  pub is : s ≡ core.loop body step
  pub gives : Gives (rule body step) a

pub loop_ok : (s : CoreStmtTree) (rule : CoreStmtTree → CoreStmtTree → Answer) (a : AssertionTree) → Gives (of_loop s rule) a → IsLoop s rule a
loop_ok (core.loop body step) rule a h = record { body = body; step = step; is = refl; gives = h }
loop_ok _ rule a h = cc

pub record IsSwitch (s : CoreStmtTree) (rule : CoreExprTree → List CoreLabel → CoreStmts → Answer) (a : AssertionTree) : Type 0 where
  pub operand : CoreExprTree
  pub labels : List CoreLabel
  pub parts : CoreStmts
  pub is : s ≡ core.switch operand labels parts
  pub gives : Gives (rule operand labels parts) a

pub switch_ok : (s : CoreStmtTree) (rule : CoreExprTree → List CoreLabel → CoreStmts → Answer) (a : AssertionTree) → Gives (of_switch s rule) a → IsSwitch s rule a
switch_ok (core.switch e labels ss) rule a h = record { operand = e; labels = labels; parts = ss; is = refl; gives = h }
switch_ok _ rule a h = cc

abbrev pub call_at : CallSite → CoreStmtTree
call_at site = core.call site.destination (Function (record { 0 = site.function })) site.arguments

pub call_ok : (s : CoreStmtTree) (rule : CallSite → Answer) (a : AssertionTree) → Gives (of_call s rule) a → (site : CallSite) × ((s ≡ call_at site) × Gives (rule site) a)
call_ok (core.call x (Function g) es) rule a h = (record { destination = x; function = g.0; arguments = es }, (refl, h))
call_ok (core.call x PutChar es) rule a h = cc
call_ok (core.call x GetChar es) rule a h = cc
call_ok _ rule a h = cc

pub record IsKnown (o : Option CoreFunctionTree) (spec : Option SpecTree) (rule : Known → Answer) (a : AssertionTree) : Type 0 where
  pub known : Known
  pub function_is : o ≡ Some known.function
  pub spec_is : spec ≡ Some known.spec
  pub gives : Gives (rule known) a

pub spec_ok : (g : ℕ) (o : Option CoreFunctionTree) (spec : Option SpecTree) (rule : Known → Answer) (a : AssertionTree) → Gives (of_spec g o spec rule) a → IsKnown o spec rule a
spec_ok g None spec rule a h = cc
spec_ok g (Some f) None rule a h = cc
spec_ok g (Some f) (Some spec) rule a h = record { known = record { function = f; spec = spec }; function_is = refl; spec_is = refl; gives = h }

-- ---- no fault

pub or_none : (o p : Option DerivFault) → option_or o p ≡ None → (o ≡ None) × (p ≡ None)
or_none None p h = (refl, h)
or_none (Some fault) p h = cc

pub fault_or_none : (r : Answer) (next : AssertionTree → Option DerivFault) → fault_or (λ fault. fault) r next ≡ None → (a : AssertionTree) × (Gives r a × (next a ≡ None))
fault_or_none (Ok a) next h = (a, (refl, h))
fault_or_none (Err fault) next h = cc

-- ---- variables that aren't found

pub none_found : (p : Var → Bool) (xs : List Var) (x : Var) → find p xs ≡ None → list_any (λ y. same_variable y x) xs ≡ true → p x ≡ false
none_found p [] x h k = cc
none_found p (y ∷ xs) x h k = by (p y) refl (same_variable y x) refl h k (none_found p xs x)
  where
    by : (b : Bool) → p y ≡ b → (c : Bool) → same_variable y x ≡ c → cond b (Some y) (find p xs) ≡ None → (c || list_any (λ y. same_variable y x) xs) ≡ true
        → (find p xs ≡ None → list_any (λ y. same_variable y x) xs ≡ true → p x ≡ false) → p x ≡ false
    by true pb c ce h k others = cc
    by false pb true ce h k others = ap p (sym (variable_equal y x ce)) ∙ pb
    by false pb false ce h k others = others h k

pub some_there : {A : Type 0} → (o : Option A) → is_none o ≡ false → (a : A) × (o ≡ Some a)
some_there (Some a) h = (a, refl)
some_there None h = cc

-- ---- steps that may fail, and answers that are another one

pub bind_fails : (failure : Failure) (a : Answer) (next : AssertionTree → Answer) → FailsAs failure a → FailsAs failure (bind a next)
bind_fails failures.NoMemory a next h = tt
bind_fails (failures.Fault path cause) a next h = ap (λ (r : Answer). bind r next) h

pub fails_by : (failure : Failure) (a b : Answer) → a ≡ b → FailsAs failure b → FailsAs failure a
fails_by failure a b e h = subst (λ (r : Answer). FailsAs failure r) (sym e) h

pub follows_by : (result : Result AssertionTree Failure) (a b : Answer) → a ≡ b → Follows result b → Follows result a
follows_by result a b e h = subst (λ (r : Answer). Follows result r) (sym e) h
