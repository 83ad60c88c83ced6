-- The derivation that is written for an open function: before each statement its name is enough.
use Rattle.std.specs.Prelude.{ℕ, suc, ◌==◌, pos, if◌then◌else◌, List, [], ◌∷◌, map}
use Rattle.qs_calls.specs.declared.callee.Callee.{Callee}
use Rattle.qs_calls.specs.declared.callee.Callee.TheVariants.{Function, PutChar, GetChar}
use Rattle.qs_assert.specs.Trees.{named}
use Rattle.qs_core.specs.Trees as core
use Rattle.qs_core.specs.Trees.{CoreStmtTree, CoreStmts, no_stmts, stmt_and, stmts_of}
use Rattle.qs_core.specs.TreeOf.{core_stmt, core_stmts}
use Rattle.qs_core.specs.declared.statements.CoreStmt.{CoreStmt}
use Rattle.qs_callgraph.specs.CallLists.{numbers}
use Rattle.qs_analyse.specs.declared.written.Needs.{Needs}
use Rattle.qs_entail.specs.Certificates.{CertTree, same, pick, all, by_definition, cert_and, no_certs}
use Rattle.qs_triples.specs.Derivations.{DerivationTree, leaf, sequence, conditional, loop, switch, balanced_call, consequence, DerivationTrees, no_derivations, derivation_and}

-- the place of g among these
abbrev pub place_of : List ℕ → (g : ℕ) → ℕ
place_of [] g = 0
place_of (f ∷ fs) g = if f == g then 0 else suc (place_of fs g)

-- why what the greatest of calls of these needs is enough for a call of g
abbrev pub pick_certificate : (callees : List ℕ) → (g : ℕ) → CertTree
pick_certificate [] g = same
pick_certificate (f ∷ []) g = same
pick_certificate (f ∷ h ∷ fs) g = pick (pos (place_of (f ∷ h ∷ fs) g)) same

-- why the name is enough for what comes behind a call of g, which needs the name too, and for the call
abbrev pub call_certificate : (name : List ℕ) → (callees : List ℕ) → (g : ℕ) → CertTree
call_certificate name callees g =
    all (cert_and same (cert_and (by_definition name (pick_certificate callees g)) no_certs))

abbrev pub written_call : (name : List ℕ) → (callees : List ℕ) → Callee → DerivationTree
written_call name callees (Function g) = consequence (named name) (call_certificate name callees g.0) balanced_call
written_call name callees PutChar = leaf
written_call name callees GetChar = leaf

abbrev mutual
  pub written : (name : List ℕ) → (callees : List ℕ) → CoreStmtTree → DerivationTree
  written name callees core.skip = leaf
  written name callees (core.seq ss) = sequence (all_written name callees ss)
  written name callees (core.assign x e) = leaf
  written name callees (core.store s to e) = leaf
  written name callees (core.copy size alignment to from) = leaf
  written name callees (core.fill contents to) = leaf
  written name callees (core.call x g es) = written_call name callees g
  written name callees (core.branch e s t) = conditional (written name callees s) (written name callees t)
  written name callees (core.loop body step) =
      loop (named name) same (written name callees body) (written name callees step)
  written name callees (core.switch e labels ss) = switch (all_written name callees ss)
  written name callees core.break = leaf
  written name callees core.continue = leaf
  written name callees (core.return e) = leaf

  pub all_written : (name : List ℕ) → (callees : List ℕ) → CoreStmts → DerivationTrees
  all_written name callees no_stmts = no_derivations
  all_written name callees (stmt_and s ss) = derivation_and (written name callees s) (all_written name callees ss)

-- the derivations of statements, one after another
abbrev pub each_written : (name : List ℕ) → (callees : List ℕ) → List CoreStmtTree → List DerivationTree
each_written name callees ss = map (written name callees) ss

-- ---- of the code's values

-- with the name of the function and those that it calls
abbrev pub for_needs : {X : Type 0} → Needs → ((name : List ℕ) → (callees : List ℕ) → X) → X
for_needs f write = write f.name.now (numbers f.callees.now)

-- the derivation of a statement, and those of statements one after another
abbrev pub written_stmt : Needs → CoreStmt → DerivationTree
written_stmt f s = for_needs f written (core_stmt s)

abbrev pub written_stmts : Needs → List CoreStmt → DerivationTrees
written_stmts f ss = for_needs f all_written (stmts_of (core_stmts ss))
