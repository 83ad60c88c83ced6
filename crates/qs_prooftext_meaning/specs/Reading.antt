-- Readings of proof files, and their faults.
use Rattle.std.specs.Prelude.{◌≡◌, ◌⊎◌, ℕ, Bool, List, Result, Ok, Err, IfErr}
use Rattle.qs_callgraph.specs.Opens.{TellsOpen}
use Rattle.qs_core.specs.Trees.{CoreUnitTree}
use Rattle.qs_sexpr.specs.Reading as lists
use Rattle.qs_sexpr.specs.Trees.{Sexps}
use Rattle.qs_sexpr.specs.declared.fault.SexprFault.{SexprFault}
use Rattle.qs_sexpr.specs.declared.fault.SexprFault.TheVariants as list_faults
use Rattle.qs_triples.specs.Derivations.{ProofsTree}
use Rattle.qs_prooftext_meaning.specs.declared.fault.TextFault.{TextFault}
use Rattle.qs_prooftext_meaning.specs.declared.fault.TextFault.TheVariants as faults
use Rattle.qs_prooftext_meaning.specs.Proofs.{has_list, file_means}

-- a fault of lists and atoms as one of proof files
abbrev pub told : SexprFault → TextFault
told list_faults.NoMemory = faults.NoMemory
told (list_faults.BadByte at) = faults.BadByte at
told (list_faults.Unbalanced at) = faults.Unbalanced at
told (list_faults.BadNumber at) = faults.BadNumber at
told (list_faults.TooDeep at) = faults.TooDeep at

-- the text reads as these proofs of the unit
pub record Reading (u : CoreUnitTree) (text : List ℕ) (proofs : ProofsTree) : Type 0 where
  pub file : Sexps
  pub reads : lists.Reading text file
  pub is_open : ℕ → Bool
  pub tells_open : TellsOpen u (has_list u file) is_open
  pub means : file_means u is_open file ≡ Ok proofs

-- its first fault: of lists and atoms anywhere in the text, or else of what they mean
pub data Fault (u : CoreUnitTree) (text : List ℕ) : TextFault → Type 0 where
  no_lists : (fault : SexprFault) → lists.Fault text fault → Fault u text (told fault)
  no_meaning :
      (file : Sexps) (is_open : ℕ → Bool) (fault : TextFault) → lists.Reading text file
      → TellsOpen u (has_list u file) is_open → file_means u is_open file ≡ Err fault → Fault u text fault

-- where there is no reading, it is for the text's first fault or for want of memory
abbrev pub Refuses : {A : Type 0} → CoreUnitTree → (text : List ℕ) → Result A TextFault → Type 0
Refuses u text result = IfErr result (λ fault. (fault ≡ faults.NoMemory) ⊎ Fault u text fault)
