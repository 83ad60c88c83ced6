-- What the lists of a file are, as the readers go over them.
use Rattle.std.specs.Prelude.{◌≡◌, ℕ, List, ◌∷◌, [], map, codes, bytes_eq, Bool, if◌then◌else◌, Option, Some, None, Result, Ok, Err}
use Rattle.std.specs.Borrow.{Bor}
use Rattle.std.specs.List.{slice_get}
use Rattle.qs_base.specs.Results.{bind}
use Rattle.qs_base.specs.declared.function.FnId.{FnId}
use Rattle.qs_assert.specs.Trees.{AssertionTree}
use Rattle.qs_callgraph.specs.CallLists.{flag}
use Rattle.qs_core.specs.Trees.{CoreFunctionTree}
use Rattle.qs_core.specs.TreeOf.{function_tree}
use Rattle.qs_core.specs.UnitTrees.{unit_tree}
use Rattle.qs_core.specs.declared.units.CoreFunction.{CoreFunction}
use Rattle.qs_entail.specs.Certificates.{CertTree}
use Rattle.qs_entail.specs.View.{cert_tree}
use Rattle.qs_sexpr.specs.Trees.{Sexp, number, symbol, list, Sexps, no_parts, part_and}
use Rattle.qs_sexpr.specs.declared.node.Node.{Node}
use Rattle.qs_triples.specs.Derivations.{DerivationTree, ProofsTree}
use Rattle.qs_triples.specs.Entries.{has_entry}
use Rattle.qs_triples.specs.TreeOf.{derivation_tree, entry_tree}
use Rattle.qs_triples.specs.declared.derivation.FunctionProof.{FunctionProof}
use Rattle.qs_prooftext_meaning.specs.declared.context.Context.{Context}
use Rattle.qs_prooftext_meaning.specs.declared.fault.TextFault.{TextFault}
use Rattle.qs_prooftext_meaning.specs.declared.fault.TextFault.TheVariants.{UnknownForm, Duplicate, NoSuchFunction}
use Rattle.qs_prooftext.specs.declared.tops.File.{File}
use Rattle.qs_prooftext.specs.declared.tops.ProofsSoFar.{ProofsSoFar}
use Rattle.qs_prooftext_assertions.specs.Answers.{Gives, StandAll, Stands}
use Rattle.qs_prooftext_meaning.specs.Contexts.{setting_of}
use Rattle.qs_prooftext_assertions.specs.Firsts.{first_means, tail}
use Rattle.qs_prooftext_meaning.specs.Kinds.{Kind, Of, Values, a_body, a_certificate, a_definition_body, a_derivation, a_postcondition, a_precondition, an_assertion, an_entry_certificate}
use Rattle.qs_prooftext_meaning.specs.Meanings.{Answer, means}
use Rattle.qs_prooftext_meaning.specs.Proofs.{Sofar, file_means, headed_top_means, is_defined, top_means, tops_mean, with_define, with_entry}
use Rattle.qs_prooftext_assertions.specs.Readers.{GivesParts}
use Rattle.qs_prooftext_meaning.specs.Settings.{Setting, functions_of, in_definition, in_entry, look_up}
use Rattle.qs_prooftext_assertions.specs.Walking.{HasParts}

abbrev pub open_in : File → ℕ → Bool
open_in file = flag file.is_open.now

abbrev pub proofs_so_far : ProofsSoFar → ProofsTree
proofs_so_far p = record { defines = p.definitions.defines.items; functions = map entry_tree p.functions.items }

-- the file, and the proofs that the lists before are
abbrev pub sofar_of : File → ProofsSoFar → Sofar
sofar_of file proofs =
    record { unit = unit_tree file.unit.now; is_open = open_in file; proofs = proofs_so_far proofs }

-- ---- parts

-- the symbol that is the first part
abbrev pub first_word : Sexps → Answer (List ℕ)
first_word no_parts = Err (UnknownForm 0)
first_word (part_and (number place n) parts) = Err (UnknownForm place)
first_word (part_and (symbol place w) parts) = Ok w
first_word (part_and (list place inner) parts) = Err (UnknownForm place)

-- the only one of these parts
abbrev pub single : (at : ℕ) → Sexps → Answer Sexp
single at no_parts = Err (UnknownForm at)
single at (part_and s no_parts) = Ok s
single at (part_and s (part_and t ss)) = Err (UnknownForm at)

-- the only part of a list with this head
abbrev pub only_part : (head : List ℕ) → Sexp → Answer Sexp
only_part head (number at n) = Err (UnknownForm at)
only_part head (symbol at w) = Err (UnknownForm at)
only_part head (list at no_parts) = Err (UnknownForm at)
only_part head (list at (part_and (number place n) parts)) = Err (UnknownForm at)
only_part head (list at (part_and (symbol place w) parts)) =
    if bytes_eq head w then single at parts else Err (UnknownForm at)
only_part head (list at (part_and (list place inner) parts)) = Err (UnknownForm at)

abbrev pub first_only : (head : List ℕ) → Sexps → Answer Sexp
first_only head no_parts = Err (UnknownForm 0)
first_only head (part_and s ss) = only_part head s

-- what the only part of the first list is, which has this head
abbrev pub part_means : Setting → (k : Kind) → (head : List ℕ) → Sexps → Answer (Of k)
part_means g k head ss = bind (first_only head ss) (λ s. means g k s)

-- the nodes are those of the list or atom that is due
abbrev pub GivesPart : (text : List ℕ) → Answer Sexp → Result (Bor (List Node)) TextFault → Type 0
GivesPart text due (Ok nodes) = (s : Sexp) × (due ≡ Ok s) × Stands text nodes.now s
GivesPart text due (Err fault) = due ≡ Err fault

-- the answer is the only part of the list with these nodes, which has this head, or of the first of the parts
-- with these
abbrev pub FindsOnly :
    (text head : List ℕ) → (nodes : List Node) → Result (Bor (List Node)) TextFault → Type 0
FindsOnly text head nodes result = (s : Sexp) → Stands text nodes s → GivesPart text (only_part head s) result

abbrev pub FindsFirstOnly :
    (text head : List ℕ) → (parts : List Node) → Result (Bor (List Node)) TextFault → Type 0
FindsFirstOnly text head parts result =
    (ss : Sexps) → StandAll text parts ss → GivesPart text (first_only head ss) result

-- it is read as one of the kind
abbrev pub ReadsOnly :
    {T : Type 0} → Context → (head : List ℕ) → (parts : List Node) → (k : Kind) → (T → Of k)
    → Result T TextFault → Type 0
ReadsOnly c head parts k view result =
    (ss : Sexps) → StandAll c.text.now parts ss → Gives view (part_means (setting_of c) k head ss) result

-- ---- definitions

abbrev pub named_define : Sofar → (at : ℕ) → (name : List ℕ) → Sexps → Answer ProofsTree
named_define s at name parts =
    if is_defined s name then Err (Duplicate at)
    else bind (first_means (in_definition s.unit) a_definition_body parts) (λ body. Ok (with_define s.proofs name body))

abbrev pub definition : Sofar → (at : ℕ) → Sexps → Answer ProofsTree
definition s at parts = bind (first_word parts) (λ name. named_define s at name (tail parts))

-- ---- entries

abbrev pub EntryParts : Type 0
EntryParts = Values (a_precondition ∷ a_postcondition ∷ an_entry_certificate ∷ a_body ∷ [])

abbrev pub parts_view : FunctionProof → EntryParts
parts_view e = (e.spec.pre, (e.spec.post, (cert_tree e.entry, (derivation_tree e.body, tt))))

-- the parts one after another
abbrev pub entry_of_parts :
    Answer AssertionTree → Answer AssertionTree → Answer CertTree → Answer DerivationTree → Answer EntryParts
entry_of_parts x y z w =
    bind x (λ pre. bind y (λ post. bind z (λ entry. bind w (λ body. Ok (pre, (post, (entry, (body, tt))))))))

abbrev pub entry_parts_mean : Setting → Sexps → Answer EntryParts
entry_parts_mean g ss =
    entry_of_parts (part_means g an_assertion (codes "pre") ss) (part_means g an_assertion (codes "post") (tail ss))
    (part_means g a_certificate (codes "entry") (tail (tail ss))) (part_means g a_derivation (codes "body") (tail (tail (tail ss))))

-- in the parts of an entry the names that are defined so far have a meaning
abbrev pub new_entry_means : Sofar → CoreFunctionTree → Sexps → Answer EntryParts
new_entry_means s function parts = entry_parts_mean (in_entry s.unit function (is_defined s)) parts

abbrev pub known_entry : Sofar → (at f : ℕ) → CoreFunctionTree → Sexps → Answer ProofsTree
known_entry s at f function parts =
    if has_entry s.proofs f then Err (Duplicate at)
    else bind (new_entry_means s function parts) (λ v. Ok (with_entry s.proofs f v))

abbrev pub entry_at : Sofar → (at f : ℕ) → Option CoreFunctionTree → Sexps → Answer ProofsTree
entry_at s at f None parts = Err (NoSuchFunction at)
entry_at s at f (Some function) parts = known_entry s at f function parts

abbrev pub found_entry : Sofar → (at : ℕ) → (function : Option ℕ) → Sexps → Answer ProofsTree
found_entry s at None parts = Err (NoSuchFunction at)
found_entry s at (Some f) parts = entry_at s at f (slice_get s.unit.functions f) parts

abbrev pub named_entry : Sofar → (at : ℕ) → (name : List ℕ) → Sexps → Answer ProofsTree
named_entry s at name parts = found_entry s at (look_up name (functions_of s.unit)) parts

abbrev pub function : Sofar → (at : ℕ) → Sexps → Answer ProofsTree
function s at parts = bind (first_word parts) (λ name. named_entry s at name (tail parts))

-- ---- the file

-- these lists are still to be read
pub record TopsLeft (s : Sofar) (text : List ℕ) (rest : List Node) (due : Answer ProofsTree) : Type 0 where
  pub forest : Sexps
  pub stand : StandAll text rest forest
  pub same : tops_mean s forest ≡ due

-- ---- what the readers of a file promise

-- the proofs are those so far and what the parts mean behind them
abbrev pub Adds :
    File → (parts : List Node) → (Sofar → Sexps → Answer ProofsTree) → (old new : ProofsSoFar)
    → Result (Unit {0}) TextFault → Type 0
Adds file parts meaning old new result = GivesParts file.text.now parts (meaning (sofar_of file old)) (λ done. proofs_so_far new) result

-- by the parts behind the name, of a definition and of an entry
abbrev pub define_of : (at : ℕ) → (name : List ℕ) → Sofar → Sexps → Answer ProofsTree
define_of at name s parts = named_define s at name parts

abbrev pub entry_of : (at : ℕ) → (name : List ℕ) → Sofar → Sexps → Answer ProofsTree
entry_of at name s parts = named_entry s at name parts

abbrev pub entry_in : (at : ℕ) → FnId → CoreFunction → Sofar → Sexps → Answer ProofsTree
entry_in at f function s parts = known_entry s at f.0 (function_tree function) parts

-- and what the list at this place with this head, so many parts and these nodes behind its head means
abbrev pub AddsHeaded :
    File → (at : ℕ) → (head : List ℕ) → (parts : ℕ) → (others : List Node) → (old new : ProofsSoFar)
    → Result (Unit {0}) TextFault → Type 0
AddsHeaded file at head n others old new result =
    (place : ℕ) (ss : Sexps) → StandAll file.text.now others ss → HasParts n ss
    → Gives (λ done. proofs_so_far new) (headed_top_means (sofar_of file old) at (symbol place head) ss) result

-- and what the list or atom at the top with these nodes means
abbrev pub AddsTop :
    File → (nodes : List Node) → (old new : ProofsSoFar) → Result (Unit {0}) TextFault → Type 0
AddsTop file nodes old new result =
    (s : Sexp) → Stands file.text.now nodes s → Gives (λ done. proofs_so_far new) (top_means (sofar_of file old) s) result

-- behind the proofs so far the parts are those of an entry of this function
abbrev pub ReadsEntry :
    File → ProofsSoFar → CoreFunction → (parts : List Node) → Result FunctionProof TextFault → Type 0
ReadsEntry file proofs function parts result =
    GivesParts file.text.now parts (new_entry_means (sofar_of file proofs) (function_tree function)) parts_view result

-- the proofs that the lists of the file are
abbrev pub meaning_of : File → Sexps → Answer ProofsTree
meaning_of file ss = file_means (unit_tree file.unit.now) (open_in file) ss
