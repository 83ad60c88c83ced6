-- Which functions need an entry where calls are counted: nothing is filled in.
use Rattle.std.specs.Prelude.{◌≡◌, ◌⊎◌, ℕ, ◌≤◌, true, false, Option, Some, None}
use Rattle.qs_base.specs.declared.function.FnId.{FnId}
use Rattle.qs_core.specs.CallGraph.{HasCall}
use Rattle.qs_core.specs.Trees.{CoreUnitTree}
use Rattle.qs_core.specs.UnitTrees.{unit_tree}
use Rattle.qs_core.specs.declared.unit.CoreUnit.{CoreUnit}
use Rattle.qs_triples.specs.Derivations.{ProofsTree}
use Rattle.qs_triples.specs.Entries.{has_entry}
use Rattle.qs_triples.specs.TreeOf.{proofs_tree}
use Rattle.qs_triples.specs.declared.derivation.Proofs.{Proofs}

-- the body of an entry calls it
pub record HasCaller (u : CoreUnitTree) (proofs : ProofsTree) (f : ℕ) : Type 0 where
  pub caller : ℕ
  pub has : has_entry proofs caller ≡ true
  pub calls : HasCall u caller f

-- main, and each function that the body of an entry calls; `putchar` and `getchar` have no body and need none
abbrev pub NeedsEntry : CoreUnitTree → ProofsTree → (f : ℕ) → Type 0
NeedsEntry u proofs f = (u.main ≡ f) ⊎ HasCaller u proofs f

-- each of them has one
abbrev pub IsCovered : CoreUnitTree → ProofsTree → Type 0
IsCovered u proofs = (f : ℕ) → NeedsEntry u proofs f → has_entry proofs f ≡ true

-- it needs one and has none
pub record IsMissing (u : CoreUnitTree) (proofs : ProofsTree) (f : ℕ) : Type 0 where
  pub needed : NeedsEntry u proofs f
  pub none : has_entry proofs f ≡ false

-- the first of these in order of definition
pub record IsFirstMissing (u : CoreUnitTree) (proofs : ProofsTree) (f : ℕ) : Type 0 where
  pub missing : IsMissing u proofs f
  pub first : (g : ℕ) → IsMissing u proofs g → f ≤ g

-- the first one is told, if there is one
abbrev pub TellsMissing : CoreUnit → Proofs → Option FnId → Type 0
TellsMissing unit proofs None = IsCovered (unit_tree unit) (proofs_tree proofs)
TellsMissing unit proofs (Some f) = IsFirstMissing (unit_tree unit) (proofs_tree proofs) f.0
