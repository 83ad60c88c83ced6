-- What the steps of the walk over a certificate answer.
use Rattle.std.specs.Prelude.{◌≡◌, ℕ, ℤ, Bool, true, false, List, Option, None, Result, IfOk}
use Rattle.qs_base.specs.declared.memory.NoMemory.{NoMemory}
use Rattle.qs_assert.specs.declared.define.Define.{Define}
use Rattle.qs_assert.specs.Trees.{CondTree, not, AssertionTree, natural, infinity, assertions_of}
use Rattle.qs_entail.specs.declared.certificate.Certificate.{Certificate}
use Rattle.qs_entail.specs.declared.certificate.Fact.{Fact}
use Rattle.qs_entail.specs.declared.failed.Failed.{Failed}
use Rattle.qs_entail.specs.declared.fault.CertFault.{CertFault}
use Rattle.qs_entail.specs.declared.fault.Rule.TheVariants as rules
use Rattle.qs_entail.specs.declared.item.Item.{Item}
use Rattle.qs_entail.specs.declared.known.Known as code
use Rattle.qs_entail.specs.declared.parts.Guarded.{Guarded}
use Rattle.qs_entail.specs.declared.walk.Mark.{Mark}
use Rattle.qs_entail.specs.declared.walk.Walk.{Walk}
use Rattle.qs_entail.specs.Certificates.{pick, all, parts, assume, by_definition}
use Rattle.qs_entail.specs.Certificates as cert
use Rattle.qs_entail.specs.Extending.{pushed}
use Rattle.qs_entail.specs.Faults as faults
use Rattle.qs_entail.specs.Faults.{node, part, branch, guarded_of, summands_of, contradiction, arithmetic_holds}
use Rattle.qs_entail.specs.Pushing.{Known, push}
use Rattle.qs_entail.specs.Said.{Tells}
use Rattle.qs_entail.specs.Verdicts as verdicts
use Rattle.qs_entail.specs.Verdicts.{fault, rest, faults_all, faults_parts, rest_under, verdict}
use Rattle.qs_entail.specs.View.{cert_tree, certs_tree, fact_tree, items_view, known_view}
use Rattle.qs_entail.specs.Walking.{place, cut, Says, not_of, branch_number}

-- the answer is this verdict on what was known
abbrev pub Answers : (Known → Option faults.CertFault) → (old new : Walk) → Result (Unit {0}) Failed → Type 0
Answers verdict old new result = Says (place old) (place new) result (verdict (known_view old.known))

-- ---- a node

-- the certificate shows that P is at least Q, or what its first fault is
abbrev pub Checks : Certificate → List Define → AssertionTree → AssertionTree → (old new : Walk) → Result (Unit {0}) Failed → Type 0
Checks c ds p q old new result = Answers (λ k. fault (cert_tree c) ds k p q) old new result

-- the polynomials and the parts of a node whose other conditions hold
abbrev pub ChecksRest : Certificate → List Define → AssertionTree → AssertionTree → (old new : Walk) → Result (Unit {0}) Failed → Type 0
ChecksRest c ds p q old new result = Answers (λ k. rest (cert_tree c) ds k p q) old new result

-- ---- a part

-- the verdict on part i
abbrev pub part_fault : ℕ → Certificate → List Define → AssertionTree → AssertionTree → Known → Option faults.CertFault
part_fault i c ds p q k = part i (fault (cert_tree c) ds k p q)

abbrev pub ChecksPart : ℕ → Certificate → List Define → AssertionTree → AssertionTree → (old new : Walk) → Result (Unit {0}) Failed → Type 0
ChecksPart i c ds p q old new result = Answers (part_fault i c ds p q) old new result

-- and behind it no more is known than at the mark
abbrev pub ChecksUntil : Mark → ℕ → Certificate → List Define → AssertionTree → AssertionTree → (old new : Walk) → Result (Unit {0}) Failed → Type 0
ChecksUntil mark i c ds p q old new result =
    Says (cut mark (place old)) (place new) result (part_fault i c ds p q (known_view old.known))

-- ---- the parts of a node by its rule

abbrev pub ChecksPick : ℤ → Certificate → List Define → AssertionTree → AssertionTree → (old new : Walk) → Result (Unit {0}) Failed → Type 0
ChecksPick i c ds p q old new result = Answers (λ k. rest (pick i (cert_tree c)) ds k p q) old new result

abbrev pub ChecksAll : List Certificate → List Define → AssertionTree → AssertionTree → (old new : Walk) → Result (Unit {0}) Failed → Type 0
ChecksAll cs ds p q old new result = Answers (λ k. rest (all (certs_tree cs)) ds k p q) old new result

-- one part for each member
abbrev pub ChecksEach : List Certificate → List Define → AssertionTree → List AssertionTree → (old new : Walk) → Result (Unit {0}) Failed → Type 0
ChecksEach cs ds p members old new result =
    Answers (λ k. faults_all (certs_tree cs) 0 ds k p (assertions_of members)) old new result

abbrev pub ChecksParts : List Certificate → List Define → AssertionTree → AssertionTree → (old new : Walk) → Result (Unit {0}) Failed → Type 0
ChecksParts cs ds p q old new result = Answers (λ k. rest (parts (certs_tree cs)) ds k p q) old new result

-- the summands on the left are given
abbrev pub ChecksRight : List Certificate → List Define → List AssertionTree → AssertionTree → (old new : Walk) → Result (Unit {0}) Failed → Type 0
ChecksRight cs ds left q old new result =
    Answers (λ k. node rules.Parts (summands_of q) (λ right. faults_parts (certs_tree cs) 0 ds k (assertions_of left) right)) old new result

-- and those on the right
abbrev pub ChecksSums : List Certificate → List Define → (left right : List AssertionTree) → (old new : Walk) → Result (Unit {0}) Failed → Type 0
ChecksSums cs ds left right old new result =
    Answers (λ k. faults_parts (certs_tree cs) 0 ds k (assertions_of left) (assertions_of right)) old new result

abbrev pub ChecksAssume : Certificate → List Define → AssertionTree → AssertionTree → (old new : Walk) → Result (Unit {0}) Failed → Type 0
ChecksAssume c ds p q old new result = Answers (λ k. rest (assume (cert_tree c)) ds k p q) old new result

-- the body of a guard is at least Q where its condition holds
abbrev pub ChecksGuarded : Certificate → List Define → Guarded → AssertionTree → (old new : Walk) → Result (Unit {0}) Failed → Type 0
ChecksGuarded c ds guarded q old new result =
    Answers (λ k. node rules.Assume (push guarded.condition k) (part_fault 0 c ds guarded.body q)) old new result

-- what is known with the negation of a condition is a contradiction: 0 is at least infinity
abbrev pub refutation : CondTree → Certificate → List Define → Known → Option faults.CertFault
refutation b c ds k = node rules.DropGuard (push (not b) k) (part_fault 0 c ds (natural 0) infinity)

abbrev pub ChecksRefuted : CondTree → Certificate → List Define → (old new : Walk) → Result (Unit {0}) Failed → Type 0
ChecksRefuted b c ds old new result = Answers (refutation b c ds) old new result

-- the condition of the guard Q holds
abbrev pub ChecksGuard : Certificate → List Define → AssertionTree → (old new : Walk) → Result (Unit {0}) Failed → Type 0
ChecksGuard c ds q old new result =
    Answers (λ k. node rules.DropGuard (guarded_of q) (λ g. refutation g.condition c ds k)) old new result

-- P is at least the body of the guard Q
abbrev pub ChecksBody : Certificate → List Define → AssertionTree → AssertionTree → (old new : Walk) → Result (Unit {0}) Failed → Type 0
ChecksBody c ds p q old new result =
    Answers (λ k. node rules.DropGuard (guarded_of q) (λ g. part_fault 1 c ds p g.body k)) old new result

-- the verdict on the part with the first branches or with the second
abbrev pub branch_fault : CondTree → Bool → Certificate → List Define → AssertionTree → AssertionTree → Known → Option faults.CertFault
branch_fault b first c ds p q = part_fault (branch_number first) c ds (branch b first p) (branch b first q)

-- the condition and its negation can be pushed, and the part with the condition
abbrev pub ChecksFirst : CondTree → Certificate → List Define → AssertionTree → AssertionTree → (old new : Walk) → Result (Unit {0}) Failed → Type 0
ChecksFirst b c ds p q old new result =
    Answers (λ k. node rules.Split (push b k) (λ k'. node rules.Split (push (not b) k) (λ _. branch_fault b true c ds p q k'))) old new result

-- the part with the negation
abbrev pub ChecksSecond : CondTree → Certificate → List Define → AssertionTree → AssertionTree → (old new : Walk) → Result (Unit {0}) Failed → Type 0
ChecksSecond b c ds p q old new result =
    Answers (λ k. node rules.Split (push (not b) k) (branch_fault b false c ds p q)) old new result

-- the part with the condition, or with the negation
abbrev pub ChecksSide : CondTree → Bool → Certificate → List Define → AssertionTree → AssertionTree → (old new : Walk) → Result (Unit {0}) Failed → Type 0
ChecksSide b first c ds p q old new result =
    Answers (λ k. node rules.Split (pushed (not_of first) b k) (branch_fault b first c ds p q)) old new result

-- with the body of a name in its place
abbrev pub ChecksBy : List ℕ → Certificate → List Define → AssertionTree → AssertionTree → (old new : Walk) → Result (Unit {0}) Failed → Type 0
ChecksBy n c ds p q old new result = Answers (λ k. rest (by_definition n (cert_tree c)) ds k p q) old new result

-- with what a fact adds
abbrev pub ChecksFact : Fact → Certificate → List Define → AssertionTree → AssertionTree → (old new : Walk) → Result (Unit {0}) Failed → Type 0
ChecksFact f c ds p q old new result =
    Answers (λ k. rest (cert.fact (fact_tree f) (cert_tree c)) ds k p q) old new result

-- ---- nodes without parts

-- that the items contradict what is known
abbrev pub ChecksContradiction : List Item → Walk → Result (Unit {0}) Failed → Type 0
ChecksContradiction items walk result =
    Answers (λ k. node rules.Contradict (contradiction (items_view items) k) (λ _. None)) walk walk result

-- that the items are the difference of the two
abbrev pub ChecksDifference : List Item → AssertionTree → AssertionTree → Walk → Result (Unit {0}) Failed → Type 0
ChecksDifference items p q walk result =
    Answers (λ k. node rules.Arithmetic (arithmetic_holds (items_view items) k p q) (λ _. None)) walk walk result

-- ---- the root

-- whether its conditions without polynomials hold under the hypotheses
abbrev pub TellsRootStands : List CondTree → List Define → AssertionTree → AssertionTree → Certificate → Result Bool NoMemory → Type 0
TellsRootStands hypotheses ds p q c result = IfOk result (λ b. b ≡ verdicts.root_stands hypotheses ds p q (cert_tree c))

-- what is known being given
abbrev pub TellsRest : Certificate → List Define → code.Known → AssertionTree → AssertionTree → Result (Unit {0}) CertFault → Type 0
TellsRest c ds known p q result = Tells result (rest (cert_tree c) ds (known_view known) p q)

-- under hypotheses, where those conditions hold
abbrev pub TellsUnder : List CondTree → List Define → AssertionTree → AssertionTree → Certificate → Result (Unit {0}) CertFault → Type 0
TellsUnder hypotheses ds p q c result = Tells result (rest_under hypotheses ds p q (cert_tree c))

abbrev pub TellsVerdict : List CondTree → List Define → AssertionTree → AssertionTree → Certificate → Result (Unit {0}) CertFault → Type 0
TellsVerdict hypotheses ds p q c result = Tells result (verdict hypotheses ds p q (cert_tree c))
