-- What the code's walk over a body gives, of the code's values.
use Rattle.std.specs.Prelude.{◌≡◌, ℕ, true, List, reverse, Option, Vec, Result, MatchResult, option_map}
use Rattle.std.specs.declared.alloc.Global.{Global}
use Rattle.qs_assert.specs.declared.tree.Assertion.{Assertion}
use Rattle.qs_assert.specs.Simultaneous.{first_without}
use Rattle.qs_assert.specs.Trees.{AssertionTree}
use Rattle.qs_assert.specs.declared.variable.Var.{Var}
use Rattle.qs_assert.specs.declared.variable.VarKind.{VarKind}
use Rattle.qs_core.specs.Expressions.{type_of}
use Rattle.qs_core.specs.TreeOf.{core_expr, core_stmt, core_stmts}
use Rattle.qs_core.specs.Trees.{seq, stmts_of}
use Rattle.qs_core.specs.declared.expressions.CoreExpr.{CoreExpr}
use Rattle.qs_core.specs.declared.statements.CoreStmt.{CoreStmt}
use Rattle.qs_entail.specs.View.{cert_tree}
use Rattle.qs_entail.specs.declared.certificate.Certificate.{Certificate}
use Rattle.qs_triples.specs.Derivations.{DerivationTree, DerivationTrees, call}
use Rattle.qs_triples.specs.ExpressionTerms.{expression_term, var}
use Rattle.qs_triples.specs.Forms.{site_view}
use Rattle.qs_triples.specs.Mentions.{first_without_argument, plain_variable}
use Rattle.qs_triples.specs.Replacements.{first_missing, image, replaced}
use Rattle.qs_triples.specs.Rules as rules
use Rattle.qs_triples.specs.Rules.{Answer}
use Rattle.qs_triples.specs.Told.{Carries, CarriesBehind, FailsAs, Follows}
use Rattle.qs_triples.specs.Views.{known_view, posts_view, scope_view}
use Rattle.qs_triples.specs.declared.failure.Failure.{Failure}
use Rattle.qs_triples.specs.declared.forms.Site.{Site}
use Rattle.qs_triples.specs.declared.posts.Known.{Known}
use Rattle.qs_triples.specs.declared.posts.Posts.{Posts}
use Rattle.qs_triples.specs.declared.posts.Scope.{Scope}
use Rattle.qs_triples.specs.declared.replacements.Replacement.{Replacement}

-- what must be free before a statement, before a body and before the statements of a sequence
abbrev pub pre_of : DerivationTree → Scope → CoreStmt → Posts → Answer
pre_of d c s q = rules.pre d (scope_view c) (core_stmt s) (posts_view q)

abbrev pub body_pre_of : DerivationTree → Scope → List CoreStmt → Posts → Answer
body_pre_of d c body q = rules.pre d (scope_view c) (seq (stmts_of (core_stmts body))) (posts_view q)

abbrev pub sequence_pre_of : DerivationTrees → Scope → List CoreStmt → Posts → Answer
sequence_pre_of ds c ss q = rules.sequence_pre ds 0 (scope_view c) (stmts_of (core_stmts ss)) (posts_view q)

-- the rule that gets what must be free before each part of a switch
abbrev pub parts_pre_of : DerivationTrees → Scope → List CoreStmt → Posts → (rule : List AssertionTree → Answer) → Answer
parts_pre_of ds c ss q rule = rules.parts_pre ds 0 (scope_view c) (stmts_of (core_stmts ss)) (posts_view q) rule

-- it gets these, the last one first, or fails whatever it is
abbrev pub GivesBefore : Result (Vec Assertion Global) Failure → DerivationTrees → Scope → List CoreStmt → Posts → Type 0
GivesBefore result ds c ss q =
    MatchResult result
    (λ before. (rule : List AssertionTree → Answer) → parts_pre_of ds c ss q rule ≡ rule (reverse before.items))
    (λ failure. (rule : List AssertionTree → Answer) → FailsAs failure (parts_pre_of ds c ss q rule))

-- the derivation of a call with this frame
abbrev pub call_with : (frame : AssertionTree) → Certificate → DerivationTree
call_with frame certificate = call frame (cert_tree certificate)

-- the assertion, where the certificate shows that it is at least what is needed
abbrev pub concluded : Scope → Certificate → AssertionTree → (needed : AssertionTree) → Answer
concluded c certificate r needed = rules.certified (scope_view c).defines (cert_tree certificate) r needed r

-- the value of the expression is assigned to a variable of this kind
abbrev pub assigned : VarKind → CoreExpr → AssertionTree → Answer
assigned kind e a = rules.replaced (var kind (type_of (core_expr e))) (expression_term (core_expr e)) a

-- ---- calls

abbrev pub FollowsCall : Scope → Posts → (frame : AssertionTree) → Certificate → Site → Known → Result AssertionTree Failure → Type 0
FollowsCall c q frame certificate site k result =
    Follows result
    (rules.call_rule (scope_view c) frame (cert_tree certificate) (posts_view q) (site_view site) (known_view k))

abbrev pub FollowsBalancedCall : Posts → Site → Known → Result AssertionTree Failure → Type 0
FollowsBalancedCall q site k result = Follows result (rules.balanced_rule (posts_view q) (site_view site) (known_view k))

-- the first of the callee's variables, the result aside, that has no term; it is told by its plain name
abbrev pub missing_argument : Replacement → List Var → Option Var
missing_argument r xs = option_map plain_variable (first_missing r true xs)

-- the callee's assertion in which all is replaced, and the same of a postcondition, whose result comes last
abbrev pub CarriesReplaced : (callee : ℕ) → Replacement → AssertionTree → Result AssertionTree Failure → Type 0
CarriesReplaced g r a result = Carries g result (first_without (image r) a) (replaced r a)

abbrev pub CarriesReplacedBehind : (callee : ℕ) → Replacement → AssertionTree → Result AssertionTree Failure → Type 0
CarriesReplacedBehind g r a result =
    CarriesBehind g result (option_map plain_variable (first_without_argument (image r) a))
    (first_without (image r) a) (replaced r a)
