-- Statements that pass the tests on a body fit what is written around an assertion, where each of their calls is paid.
use Rattle.std.proofs.Common.{◌≡◌, ◌+◌, ℕ, suc, refl, ap, ◌∙◌, subst, arith, Bool, true, false, List, [], ◌∷◌, ◌++◌, Some, None}
use Rattle.std.specs.Prelude.{◌&&◌, ◌||◌, not, nat_lt, Option}
use Rattle.std.specs.List.{list_all}
use Rattle.std.proofs.lemmas.Bool.{and_parts, or_parts}
use Rattle.qs_memory.specs.declared.scalar.Scalar.{Scalar}
use Rattle.qs_calls.specs.declared.callee.Callee.{Callee}
use Rattle.qs_calls.specs.declared.callee.Callee.TheVariants.{Function, PutChar, GetChar}
use Rattle.qs_assert.specs.Trees.{TermTree, AssertionTree}
use Rattle.qs_core.specs.declared.labels.CoreLabel.{CoreLabel}
use Rattle.qs_core.specs.declared.labels.CoreLabel.TheVariants.{Case, Default}
use Rattle.qs_core.specs.declared.numbers.Target.{Target}
use Rattle.qs_core.specs.declared.numbers.Target.TheVariants as targets
use Rattle.qs_core.specs.Expressions.{type_of}
use Rattle.qs_core.specs.Fits.{expr_fits, label_fits, stmt_fits, stmts_fit}
use Rattle.qs_core.specs.Outline.{count_of}
use Rattle.qs_core.specs.Trees as core
use Rattle.qs_core.specs.Trees.{CoreExprTree, CoreStmtTree, CoreStmts, no_stmts, stmt_and, CoreFunctionTree, CoreUnitTree}
use Rattle.qs_entail.specs.Certificates.{CertTree}
use Rattle.qs_recur.specs.Around.{Way, itself, shown, Ways, to_itself, body_ways, step_ways, switch_ways}
use Rattle.qs_triples.specs.ExpressionTerms.{expression_term}
use Rattle.qs_triples.specs.Rules.{Scope, count_stmts}
use Rattle.qs_recur.proofs.AroundLaws.{part_of, LabelsPass, SwitchFits, IsPaid, CallFits, Fits, AllFit}
use Rattle.qs_recur.specs.Bodies.{CallTree, call_of, calls_made, all_calls_made, is_variable, assigns, one_assigns, labels_pass, cases_pass, has_default, end_passes, last_end_passes}
use Rattle.qs_recur.proofs.CountingLaws.{may_assign}

-- ---- tests

second_of : (a b : Bool) → (a || b) ≡ true → a ≡ false → b ≡ true
second_of true b h n = cc
second_of false b h n = h

target_is_other : (i : ℕ) (y : Target) → is_variable i y ≡ false → may_assign i y ≡ true
target_is_other i (targets.Variable j) h = ap not h
target_is_other i (targets.Temporary k) h = refl

pub others_than : (i : ℕ) (y : Target) → ((x : ℕ) → x ≡ i → is_variable x y ≡ false) → may_assign i y ≡ true
others_than i y h = target_is_other i y (h i refl)

pub only_this : (i : ℕ) (p : ℕ → Bool) → p i ≡ false → (x : ℕ) → x ≡ i → p x ≡ false
only_this i p h x e = ap p e ∙ h

-- ---- labels

labels_below : (s : Scalar) (n : ℕ) (labels : List CoreLabel) → list_all (label_fits s n) labels ≡ true → list_all (λ l. nat_lt (part_of l) n) labels ≡ true
labels_below s n [] h = refl
labels_below s n (Case v part ∷ labels) h =
    let p = and_parts (label_fits s n (Case v part)) (list_all (label_fits s n) labels) h in
    let q = and_parts _ (nat_lt part n) p.0 in
    ap (λ (b : Bool). b && list_all (λ l. nat_lt (part_of l) n) labels) q.1 ∙ labels_below s n labels p.1
labels_below s n (Default part ∷ labels) h =
    let p = and_parts (label_fits s n (Default part)) (list_all (label_fits s n) labels) h in
    ap (λ (b : Bool). b && list_all (λ l. nat_lt (part_of l) n) labels) p.0 ∙ labels_below s n labels p.1

passes : (s : Scalar) (t : Option TermTree) (labels : List CoreLabel) → labels_pass s t labels ≡ true → LabelsPass s t labels
passes s None labels h = tt
passes s (Some t) labels h = h

same_count : (ss : CoreStmts) → count_of ss ≡ count_stmts ss
same_count no_stmts = refl
same_count (stmt_and s ss) = ap (λ (n : ℕ). n + 1) (same_count ss) ∙ one_more (count_stmts ss)
  where
    one_more : (n : ℕ) → n + 1 ≡ suc n
    one_more n = omega arith

-- what a statement needs of its end where the assertion isn't needed behind it
abbrev pub Ends : Way → (passes : Bool) → Type 0
Ends itself passes = Unit {0}
Ends (shown c) passes = passes ≡ true

first_ends : (w : Way) (a b : Bool) → Ends w (a && b) → Ends w a
first_ends itself a b h = tt
first_ends (shown c) a b h = (and_parts a b h).0

second_ends : (w : Way) (a b : Bool) → Ends w (a && b) → Ends w b
second_ends itself a b h = tt
second_ends (shown c) a b h = (and_parts a b h).1

switch_fits : (next : Way) (e : CoreExprTree) (labels : List CoreLabel) (n : ℕ) → Ends next (cases_pass e labels) → list_all (λ l. nat_lt (part_of l) n) labels ≡ true → SwitchFits next e labels n
switch_fits itself e labels n h below = tt
switch_fits (shown c) e labels n h below = (below, λ none. passes (type_of e) (expression_term e) labels (second_of (has_default labels) _ h none))

-- ---- calls

-- the same of each call
abbrev pub Each : (CallTree → Type 0) → List CallTree → Type 0
Each P [] = Unit {0}
Each P (c ∷ cs) = P c × Each P cs

pub each_first : (P : CallTree → Type 0) (cs ds : List CallTree) → Each P (cs ++ ds) → Each P cs
each_first P [] ds h = tt
each_first P (c ∷ cs) ds h = (h.0, each_first P cs ds h.1)

pub each_second : (P : CallTree → Type 0) (cs ds : List CallTree) → Each P (cs ++ ds) → Each P ds
each_second P [] ds h = h
each_second P (c ∷ cs) ds h = each_second P cs ds h.1

-- ---- statements

module _ (u : CoreUnitTree) (function : CoreFunctionTree) (kept : ℕ → Type 0) (may : Target → Bool) (others : (y : Target) → ((x : ℕ) → kept x → is_variable x y ≡ false) → may y ≡ true) (r : AssertionTree) (pay : ℕ → List CoreExprTree → CertTree) (c : Scope) where
  abbrev pub Paid : CallTree → Type 0
  Paid call = IsPaid r (pay call.function call.arguments) c call.function call.arguments

  call_fits : (g : Callee) (es : List CoreExprTree) → Each Paid (call_of g es) → CallFits r pay c may g es
  call_fits (Function g) es h = h.0
  call_fits PutChar es h = tt
  call_fits GetChar es h = tt

  -- no variable that is kept is assigned
  abbrev pub Untouched : CoreStmtTree → Type 0
  Untouched s = (x : ℕ) → kept x → assigns x s ≡ false

  abbrev pub AllUntouched : CoreStmts → Type 0
  AllUntouched ss = (x : ℕ) → kept x → one_assigns x ss ≡ false

  mutual
    pub statement_fits :
        (s : CoreStmtTree) (w : Ways) (b k : Bool) → stmt_fits u function b k s ≡ true → Untouched s → Ends w.next (end_passes s) → Each Paid (calls_made s) → Fits r pay c may s w
    statement_fits core.skip w b k fits not_assigned ends paid = tt
    statement_fits (core.seq ss) w b k fits not_assigned ends paid = statements_fit ss w b k fits not_assigned ends paid
    statement_fits (core.assign y e) w b k fits not_assigned ends paid = others y not_assigned
    statement_fits (core.store s to e) w b k fits not_assigned ends paid = tt
    statement_fits (core.copy size alignment to from) w b k fits not_assigned ends paid = tt
    statement_fits (core.fill contents to) w b k fits not_assigned ends paid = tt
    statement_fits (core.call x g es) w b k fits not_assigned ends paid = call_fits g es paid
    statement_fits (core.branch e s t) w b k fits not_assigned ends paid =
        let p = and_parts (expr_fits u function e && stmt_fits u function b k s) (stmt_fits u function b k t) fits in
        let n = λ (x : ℕ) (h : kept x). or_parts (assigns x s) (assigns x t) (not_assigned x h) in (
          statement_fits s w b k (and_parts (expr_fits u function e) (stmt_fits u function b k s) p.0).1 (λ x h. (n x h).0) (first_ends w.next (end_passes s) (end_passes t) ends) (each_first Paid (calls_made s) (calls_made t) paid),
          statement_fits t w b k p.1 (λ x h. (n x h).1) (second_ends w.next (end_passes s) (end_passes t) ends) (each_second Paid (calls_made s) (calls_made t) paid),
        )
    statement_fits (core.loop body step) w b k fits not_assigned ends paid =
        let p = and_parts (stmt_fits u function true true body) (stmt_fits u function true false step) fits in
        let n = λ (x : ℕ) (h : kept x). or_parts (assigns x body) (assigns x step) (not_assigned x h) in (
          statement_fits body (body_ways w) true true p.0 (λ x h. (n x h).0) tt (each_first Paid (calls_made body) (calls_made step) paid),
          statement_fits step (step_ways w) true false p.1 (λ x h. (n x h).1) tt (each_second Paid (calls_made body) (calls_made step) paid),
        )
    statement_fits (core.switch e labels ss) w b k fits not_assigned ends paid =
        let p = and_parts _ (stmts_fit u function true k ss) fits in
        let q = and_parts _ (list_all (label_fits (type_of e) (count_of ss)) labels) p.0 in
        let first = first_ends w.next (cases_pass e labels) (last_end_passes ss) ends in (
          switch_fits w.next e labels (count_stmts ss) first (subst (λ (n : ℕ). list_all (λ l. nat_lt (part_of l) n) labels ≡ true) (same_count ss) (labels_below (type_of e) (count_of ss) labels q.1)),
          statements_fit ss (switch_ways w) true k p.1 not_assigned (second_ends w.next (cases_pass e labels) (last_end_passes ss) ends) paid,
        )
    statement_fits core.break w b k fits not_assigned ends paid = tt
    statement_fits core.continue w b k fits not_assigned ends paid = tt
    statement_fits (core.return e) w b k fits not_assigned ends paid = tt

    pub statements_fit :
        (ss : CoreStmts) (w : Ways) (b k : Bool) → stmts_fit u function b k ss ≡ true → AllUntouched ss → Ends w.next (last_end_passes ss) → Each Paid (all_calls_made ss) → AllFit r pay c may ss w
    statements_fit no_stmts w b k fits not_assigned ends paid = tt
    statements_fit (stmt_and s no_stmts) w b k fits not_assigned ends paid =
        let p = and_parts (stmt_fits u function b k s) true fits in
        (statement_fits s w b k p.0 (λ x h. (or_parts (assigns x s) false (not_assigned x h)).0) ends (each_first Paid (calls_made s) [] paid), tt)
    statements_fit (stmt_and s (stmt_and t ss)) w b k fits not_assigned ends paid =
        let p = and_parts (stmt_fits u function b k s) (stmts_fit u function b k (stmt_and t ss)) fits in
        let n = λ (x : ℕ) (h : kept x). or_parts (assigns x s) (one_assigns x (stmt_and t ss)) (not_assigned x h) in (
          statement_fits s (to_itself w) b k p.0 (λ x h. (n x h).0) tt (each_first Paid (calls_made s) (all_calls_made (stmt_and t ss)) paid),
          statements_fit (stmt_and t ss) w b k p.1 (λ x h. (n x h).1) ends (each_second Paid (calls_made s) (all_calls_made (stmt_and t ss)) paid),
        )
