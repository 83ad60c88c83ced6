-- The parts of a sequence and of a switch, from the last to the first.
use Rattle.std.proofs.Common.{◌≡◌, ◌<◌, ◌+◌, ℕ, zero, suc, List, [], ◌∷◌, length, drop, sym, ap, ◌∙◌, subst, arith}
use Rattle.std.proofs.Math.Seq.{drop-cons}
use Rattle.std.specs.Prelude.{get_or, Ok}
use Rattle.qs_assert.specs.Trees.{AssertionTree}
use Rattle.qs_base.specs.Results.{bind}
use Rattle.qs_core.specs.declared.statements.CoreStmt.{CoreStmt}
use Rattle.qs_core.specs.TreeOf.{core_stmt, core_stmts}
use Rattle.qs_core.specs.Trees.{stmts_of}
use Rattle.qs_triples.specs.Rules.{Answer, Posts, Scope, part, before_part, pre, sequence_pre, parts_pre, with_next}
use Rattle.qs_triples.specs.Told.{FailsAs}
use Rattle.qs_triples.proofs.Answers.{fails_by, bind_fails}
use Rattle.qs_triples.specs.TreeOf.{derivation_tree, derivation_trees}
use Rattle.qs_triples.specs.declared.derivation.Derivation.{Derivation}
use Rattle.qs_triples.specs.declared.failure.Failure.{Failure}

-- what the parts from i on need
abbrev pub behind : List Derivation → List CoreStmt → Scope → Posts → (i : ℕ) → Answer
behind ds ss c q i = sequence_pre (derivation_trees (drop i ds)) i c (stmts_of (core_stmts (drop i ss))) q

-- one more part in front
behind_one : (ds : List Derivation) (ss : List CoreStmt) (c : Scope) (q : Posts) (i j : ℕ) (d : Derivation) (s : CoreStmt) → j ≡ suc i → i < length ds → i < length ss → d ≡ get_or ds i d → s ≡ get_or ss i s → behind ds ss c q i ≡ bind (behind ds ss c q j) (λ n. part i (pre (derivation_tree d) c (core_stmt s) (with_next q n)))
behind_one ds ss c q i j d s e h l is at =
    (λ z. sequence_pre (derivation_trees ((drop-cons ds i d h ∙ ap (λ (x : Derivation). x ∷ drop (suc i) ds) (sym is)) z)) i c (stmts_of (core_stmts ((drop-cons ss i s l ∙ ap (λ (x : CoreStmt). x ∷ drop (suc i) ss) (sym at)) z))) q)
    ∙ ap (λ (k : ℕ). bind (behind ds ss c q k) (λ n. part i (pre (derivation_tree d) c (core_stmt s) (with_next q n)))) (sym e)

-- the parts in front of those that fail
in_front : (failure : Failure) (ds : List Derivation) (ss : List CoreStmt) (c : Scope) (q : Posts) (i j k : ℕ) → length ds ≡ length ss → j ≡ i + k → FailsAs failure (sequence_pre (derivation_trees (drop i ds)) j c (stmts_of (core_stmts (drop i ss))) q) → FailsAs failure (sequence_pre (derivation_trees ds) k c (stmts_of (core_stmts ss)) q)
in_front failure ds ss c q zero j k same e h =
    let here : j ≡ k = omega arith in
    subst (λ (n : ℕ). FailsAs failure (sequence_pre (derivation_trees ds) n c (stmts_of (core_stmts ss)) q)) here h
in_front failure [] [] c q (suc i) j k same e h = h
in_front failure [] (s ∷ ss) c q (suc i) j k same e h = absurd (omega arith)
in_front failure (d ∷ ds) [] c q (suc i) j k same e h = absurd (omega arith)
in_front failure (d ∷ ds) (s ∷ ss) c q (suc i) j k same e h =
    bind_fails failure (sequence_pre (derivation_trees ds) (suc k) c (stmts_of (core_stmts ss)) q) (λ n. part k (pre (derivation_tree d) c (core_stmt s) (with_next q n)))
    (in_front failure ds ss c q i j (suc k) (omega arith) (omega arith) h)

sequence_fails : (failure : Failure) (ds : List Derivation) (ss : List CoreStmt) (c : Scope) (q : Posts) (i : ℕ) → length ds ≡ length ss → FailsAs failure (behind ds ss c q i) → FailsAs failure (behind ds ss c q 0)
sequence_fails failure ds ss c q i same h = in_front failure ds ss c q i i 0 same (omega arith) h

-- ---- a turn of the walk, at part i

-- or it fails, and with it the whole sequence
pub turn_fails : (failure : Failure) (ds : List Derivation) (ss : List CoreStmt) (c : Scope) (q : Posts) (i j : ℕ) (d : Derivation) (s : CoreStmt) (next : AssertionTree) → length ds ≡ length ss → j ≡ suc i → i < length ds → d ≡ get_or ds i d → s ≡ get_or ss i s → behind ds ss c q j ≡ Ok next → FailsAs failure (part i (pre (derivation_tree d) c (core_stmt s) (with_next q next))) → FailsAs failure (sequence_pre (derivation_trees ds) 0 c (stmts_of (core_stmts ss)) q)
turn_fails failure ds ss c q i j d s next same e h is at needed fails =
    sequence_fails failure ds ss c q i same
    (fails_by failure _ _
    (behind_one ds ss c q i j d s e h (omega arith) is at
    ∙ ap (λ (a : Answer). bind a (λ n. part i (pre (derivation_tree d) c (core_stmt s) (with_next q n)))) needed)
    fails)

-- ---- the parts of a switch

-- a rule that gets what the parts from i on need
abbrev pub parts_behind : List Derivation → List CoreStmt → Scope → Posts → (i : ℕ) → (rule : List AssertionTree → Answer) → Answer
parts_behind ds ss c q i rule = parts_pre (derivation_trees (drop i ds)) i c (stmts_of (core_stmts (drop i ss))) q rule

-- what part i needs, where those behind it need this
abbrev pub part_needs : Derivation → CoreStmt → Scope → Posts → (i : ℕ) → (before : List AssertionTree) → Answer
part_needs d s c q i before = part i (pre (derivation_tree d) c (core_stmt s) (with_next q (before_part q.next before 0)))

parts_behind_one :
    (ds : List Derivation) (ss : List CoreStmt) (c : Scope) (q : Posts) (i j : ℕ) (d : Derivation) (s : CoreStmt) → j ≡ suc i → i < length ds → i < length ss → d ≡ get_or ds i d → s ≡ get_or ss i s
    → (rule : List AssertionTree → Answer) → parts_behind ds ss c q i rule ≡ parts_behind ds ss c q j (λ before. bind (part_needs d s c q i before) (λ p. rule (p ∷ before)))
parts_behind_one ds ss c q i j d s e h l is at rule =
    (λ z. parts_pre (derivation_trees ((drop-cons ds i d h ∙ ap (λ (x : Derivation). x ∷ drop (suc i) ds) (sym is)) z)) i c (stmts_of (core_stmts ((drop-cons ss i s l ∙ ap (λ (x : CoreStmt). x ∷ drop (suc i) ss) (sym at)) z))) q rule)
    ∙ ap (λ (k : ℕ). parts_behind ds ss c q k (λ before. bind (part_needs d s c q i before) (λ p. rule (p ∷ before)))) (sym e)

parts_in_front :
    (failure : Failure) (ds : List Derivation) (ss : List CoreStmt) (c : Scope) (q : Posts) (i j k : ℕ) → length ds ≡ length ss → j ≡ i + k
    → ((rule : List AssertionTree → Answer) → FailsAs failure (parts_pre (derivation_trees (drop i ds)) j c (stmts_of (core_stmts (drop i ss))) q rule))
    → (rule : List AssertionTree → Answer) → FailsAs failure (parts_pre (derivation_trees ds) k c (stmts_of (core_stmts ss)) q rule)
parts_in_front failure ds ss c q zero j k same e h rule =
    let here : j ≡ k = omega arith in
    subst (λ (n : ℕ). FailsAs failure (parts_pre (derivation_trees ds) n c (stmts_of (core_stmts ss)) q rule)) here (h rule)
parts_in_front failure [] [] c q (suc i) j k same e h rule = h rule
parts_in_front failure [] (s ∷ ss) c q (suc i) j k same e h rule = absurd (omega arith)
parts_in_front failure (d ∷ ds) [] c q (suc i) j k same e h rule = absurd (omega arith)
parts_in_front failure (d ∷ ds) (s ∷ ss) c q (suc i) j k same e h rule =
    parts_in_front failure ds ss c q i j (suc k) (omega arith) (omega arith) h (λ before. bind (part_needs d s c q k before) (λ p. rule (p ∷ before)))

-- a turn, at part i, where those behind it need this
pub parts_turn :
    (ds : List Derivation) (ss : List CoreStmt) (c : Scope) (q : Posts) (i j : ℕ) (d : Derivation) (s : CoreStmt) (before : List AssertionTree) (p : AssertionTree)
    → j ≡ suc i → i < length ds → i < length ss → d ≡ get_or ds i d → s ≡ get_or ss i s
    → ((rule : List AssertionTree → Answer) → parts_behind ds ss c q j rule ≡ rule before) → part_needs d s c q i before ≡ Ok p
    → (rule : List AssertionTree → Answer) → parts_behind ds ss c q i rule ≡ rule (p ∷ before)
parts_turn ds ss c q i j d s before p e h l is at needed one rule =
    parts_behind_one ds ss c q i j d s e h l is at rule ∙ needed (λ before. bind (part_needs d s c q i before) (λ p. rule (p ∷ before)))
    ∙ ap (λ (a : Answer). bind a (λ p. rule (p ∷ before))) one

-- or it fails, and with it the whole switch
pub parts_turn_fails :
    (failure : Failure) (ds : List Derivation) (ss : List CoreStmt) (c : Scope) (q : Posts) (i j : ℕ) (d : Derivation) (s : CoreStmt) (before : List AssertionTree) → length ds ≡ length ss
    → j ≡ suc i → i < length ds → d ≡ get_or ds i d → s ≡ get_or ss i s
    → ((rule : List AssertionTree → Answer) → parts_behind ds ss c q j rule ≡ rule before) → FailsAs failure (part_needs d s c q i before)
    → (rule : List AssertionTree → Answer) → FailsAs failure (parts_pre (derivation_trees ds) 0 c (stmts_of (core_stmts ss)) q rule)
parts_turn_fails failure ds ss c q i j d s before same e h is at needed fails =
    parts_in_front failure ds ss c q i i 0 same (omega arith) (λ rule.
    fails_by failure _ _
    (parts_behind_one ds ss c q i j d s e h (omega arith) is at rule ∙ needed (λ before. bind (part_needs d s c q i before) (λ p. rule (p ∷ before))))
    (bind_fails failure (part_needs d s c q i before) (λ p. rule (p ∷ before)) fails))
