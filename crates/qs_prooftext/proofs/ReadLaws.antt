-- The proofs that a text is, or its first fault.
use Rattle.std.proofs.Common.{◌≡◌, ℕ, Bool, List, Result, Ok, Err, IfOk, IfErr, inl, inr, refl}
use Rattle.std.specs.Prelude.{◌⊎◌}
use Rattle.qs_callgraph.specs.Opens.{TellsOpen}
use Rattle.qs_core.specs.Trees.{CoreUnitTree}
use Rattle.qs_sexpr.specs.Reading as lists
use Rattle.qs_sexpr.proofs.PlaceLaws.{parts_lie}
use Rattle.qs_sexpr.specs.Results.{IsRead, SaysFault}
use Rattle.qs_sexpr.specs.Trees.{Sexps}
use Rattle.qs_sexpr.specs.declared.node.Node.{Node}
use Rattle.qs_sexpr.specs.declared.fault.SexprFault.{SexprFault}
use Rattle.qs_sexpr.specs.declared.fault.SexprFault.TheVariants as list_faults
use Rattle.qs_triples.specs.TreeOf.{proofs_tree}
use Rattle.qs_triples.specs.declared.derivation.Proofs.{Proofs}
use Rattle.qs_prooftext_meaning.specs.declared.fault.TextFault.{TextFault}
use Rattle.qs_prooftext_meaning.specs.declared.fault.TextFault.TheVariants as faults
use Rattle.qs_prooftext_assertions.specs.Answers.{Gives, StandAll}
use Rattle.qs_prooftext_meaning.specs.Proofs.{file_means, has_list}
use Rattle.qs_prooftext_meaning.specs.Reading.{Fault, Reading, no_lists, no_meaning, told}

-- the lists and atoms of a text stand in it
pub all_stand : (text : List ℕ) (nodes : List Node) → (r : IsRead text nodes) → StandAll text nodes r.parts
all_stand text nodes r = record { nodes_are = r.nodes_are; lie = parts_lie text r.parts r.reading }

pub list_fault : (u : CoreUnitTree) (text : List ℕ) (fault : SexprFault) → SaysFault text fault → (told fault ≡ faults.NoMemory) ⊎ Fault u text (told fault)
list_fault u text list_faults.NoMemory h = inl refl
list_fault u text (list_faults.BadByte at) h = inr (no_lists (list_faults.BadByte at) h)
list_fault u text (list_faults.Unbalanced at) h = inr (no_lists (list_faults.Unbalanced at) h)
list_fault u text (list_faults.BadNumber at) h = inr (no_lists (list_faults.BadNumber at) h)
list_fault u text (list_faults.TooDeep at) h = inr (no_lists (list_faults.TooDeep at) h)

pub reads : (u : CoreUnitTree) (text : List ℕ) (file : Sexps) (is_open : ℕ → Bool) (r : Result Proofs TextFault) → lists.Reading text file → TellsOpen u (has_list u file) is_open → Gives proofs_tree (file_means u is_open file) r → IfOk r (λ proofs. Reading u text (proofs_tree proofs))
reads u text file is_open (Ok proofs) h tells means =
    record { file = file; reads = h; is_open = is_open; tells_open = tells; means = means }
reads u text file is_open (Err fault) h tells means = tt

pub stops : (u : CoreUnitTree) (text : List ℕ) (file : Sexps) (is_open : ℕ → Bool) (r : Result Proofs TextFault) → lists.Reading text file → TellsOpen u (has_list u file) is_open → Gives proofs_tree (file_means u is_open file) r → IfErr r (λ fault. (fault ≡ faults.NoMemory) ⊎ Fault u text fault)
stops u text file is_open (Ok proofs) h tells means = tt
stops u text file is_open (Err fault) h tells (inl e) = inr (no_meaning file is_open fault h tells e)
stops u text file is_open (Err fault) h tells (inr e) = inl e
