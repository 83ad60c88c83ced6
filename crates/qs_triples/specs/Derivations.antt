-- Derivations: why what a function's runs take of the stack is at most its precondition.
use Rattle.std.specs.Prelude.{ℕ, suc, ◌==◌, Bool, List, Option, option_map, filter}
use Rattle.std.specs.List.{find}
use Rattle.qs_assert.specs.declared.define.Define.{Define}
use Rattle.qs_assert.specs.Trees.{AssertionTree}
use Rattle.qs_entail.specs.Certificates.{CertTree}

mutual
  -- one node for each statement, and one more where a consequence is drawn
  pub data DerivationTree : Type 0 where
    -- `(leaf)`
    leaf : DerivationTree
    -- `(seq d ..)`
    sequence : DerivationTrees → DerivationTree
    -- `(if d e)`
    conditional : (first second : DerivationTree) → DerivationTree
    -- `(loop I cert body step)`
    loop : (invariant : AssertionTree) → CertTree → (body step : DerivationTree) → DerivationTree
    -- `(switch d ..)`
    switch : DerivationTrees → DerivationTree
    -- `(call A cert)`
    call : (frame : AssertionTree) → CertTree → DerivationTree
    -- `(bal)`
    balanced_call : DerivationTree
    -- `(use R cert d)`
    consequence : AssertionTree → CertTree → DerivationTree → DerivationTree

  pub data DerivationTrees : Type 0 where
    no_derivations : DerivationTrees
    derivation_and : DerivationTree → DerivationTrees → DerivationTrees

-- What a function may be given and what it gives back: in each run from arguments at which pre has
-- a value, so much besides its own cost is enough; at its return so much is left as post says.
pub record SpecTree : Type 0 where
  pub pre : AssertionTree
  pub post : AssertionTree

-- the specification of a function, and why it holds
pub record EntryTree : Type 0 where
  pub function : ℕ
  pub spec : SpecTree
  -- that pre is at least what the body needs
  pub entry : CertTree
  pub body : DerivationTree

pub record ProofsTree : Type 0 where
  pub defines : List Define
  pub functions : List EntryTree

-- ---- the entries of functions

abbrev pub is_entry_of : (function : ℕ) → EntryTree → Bool
is_entry_of f e = e.function == f

-- the first one
abbrev pub entry_of : ProofsTree → (function : ℕ) → Option EntryTree
entry_of proofs f = find (is_entry_of f) proofs.functions

abbrev pub entries_of : ProofsTree → (function : ℕ) → List EntryTree
entries_of proofs f = filter (is_entry_of f) proofs.functions

abbrev pub spec_of : ProofsTree → (function : ℕ) → Option SpecTree
spec_of proofs f = option_map (λ e. e.spec) (entry_of proofs f)

-- ---- counts

abbrev pub count_derivations : DerivationTrees → ℕ
count_derivations no_derivations = 0
count_derivations (derivation_and d ds) = suc (count_derivations ds)
