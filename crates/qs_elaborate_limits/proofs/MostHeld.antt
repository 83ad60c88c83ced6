-- The most that one expression of a body holds. A body of core that fits holds few more, since a call has few arguments.
use Rattle.std.proofs.Common.{◌≡◌, ◌≤◌, ℕ, zero, suc, ◌+◌, max, Bool, true, false, List, [], ◌∷◌, ◌++◌, map, Option, Some, None, length, refl, ap, arith}
use Rattle.std.specs.List.{slice_get}
use Rattle.std.proofs.lemmas.List.{length-map}
use Rattle.std.proofs.lemmas.Bool.{and_parts}
use Rattle.std.proofs.lemmas.Option.{same_Some}
use Rattle.qs_calls.specs.Starts.{Signature, signature_of}
use Rattle.qs_calls.specs.declared.callee.Callee.{Callee}
use Rattle.qs_calls.specs.declared.callee.Callee.TheVariants.{Function, PutChar, GetChar}
use Rattle.qs_core.specs.Trees.{CoreExprTree, CoreStmtTree, skip, seq, assign, store, copy, fill, call, branch, loop, switch, break, continue, return, CoreStmts, no_stmts, stmt_and, stmts_of, CoreParameterTree, CoreVariableTree, CoreFunctionTree, CoreUnitTree}
use Rattle.qs_core.specs.Expressions.{type_of}
use Rattle.qs_memory.specs.Scalars.{same_scalars}
use Rattle.qs_memory.proofs.ScalarLaws.{scalars_same}
use Rattle.qs_core.specs.Interfaces.{types_of, signature, interface_of}
use Rattle.qs_core.specs.Fits.{expr_fits, exprs_fit, destination_fits, call_fits, stmt_fits, stmts_fit}
use Rattle.qs_core.specs.Sizes.{held, all_held, option_held, held_in, held_in_all, most_arguments, most_arguments_in}
use Rattle.qs_elaborate_bodies.specs.Parts.{one_statement}
use Rattle.qs_elaborate_laws.proofs.SizeFacts.{own_small, own_held, parts_small}
use Rattle.qs_meaning.proofs.Options.{never, nothing}
use Rattle.qs_elaborate_limits.specs.Measures.{highest}

abbrev pub most_held : List CoreExprTree → ℕ
most_held [] = 0
most_held (e ∷ es) = max (held e) (most_held es)

abbrev mutual
  pub most_in : CoreStmtTree → ℕ
  most_in skip = 0
  most_in (seq ss) = most_in_all ss
  most_in (assign x e) = held e
  most_in (store s a b) = max (held a) (held b)
  most_in (copy size alignment a b) = max (held a) (held b)
  most_in (fill blank a) = held a
  most_in (call x f es) = most_held es
  most_in (branch e a b) = max (held e) (max (most_in a) (most_in b))
  most_in (loop body step) = max (most_in body) (most_in step)
  most_in (switch e labels ss) = max (held e) (most_in_all ss)
  most_in break = 0
  most_in continue = 0
  most_in (return e) = option_held e

  pub most_in_all : CoreStmts → ℕ
  most_in_all no_stmts = 0
  most_in_all (stmt_and s ss) = max (most_in s) (most_in_all ss)

-- ---- lists of statements

abbrev pub list_most : List CoreStmtTree → ℕ
list_most ss = most_in_all (stmts_of ss)

pub most-append : (a b : List CoreStmtTree) → list_most (a ++ b) ≡ max (list_most a) (list_most b)
most-append [] b = omega arith
most-append (s ∷ a) b = let e = most-append a b in omega arith

pub most_one : (ss : List CoreStmtTree) → most_in (one_statement ss) ≡ list_most ss
most_one [] = refl
most_one (s ∷ []) = omega arith
most_one (s ∷ r ∷ rest) = refl

-- ---- what is computed from left to right

-- each but the last waits
waiting_few : (k : ℕ) (e : CoreExprTree) (es : List CoreExprTree) → length es ≤ k → all_held (e ∷ es) ≤ most_held (e ∷ es) + k
waiting_few k e [] h = omega (arith, own_held e)
waiting_few zero e (d ∷ es) h = omega arith
waiting_few (suc k) e (d ∷ es) h = let i = waiting_few k d es (omega arith) in omega (arith, i, own_small e)

-- ---- statements of a unit whose functions have at most k + 1 parameters

-- no call takes more arguments
abbrev pub TakesFew : ℕ → Option Signature → Type 0
TakesFew k o = (s : Signature) → o ≡ Some s → length s.parameters ≤ k + 1

arguments_few : (k : ℕ) (f : CoreFunctionTree) (x : Option ℕ) (o : Option Signature) (es : List CoreExprTree) → TakesFew k o → call_fits f x o es ≡ true
    → all_held es ≤ most_held es + k
arguments_few k f x None es few h = never h
arguments_few k f x (Some s) [] few h = omega arith
arguments_few k f x (Some s) (e ∷ es) few h =
    let two = and_parts (same_scalars (map type_of (e ∷ es)) s.parameters) (destination_fits f s.result_type x (e ∷ es)) h in
    let same = ap length (scalars_same (map type_of (e ∷ es)) s.parameters two.0) in
    let mapped = length-map es type_of in
    let most = few s refl in
    waiting_few k e es (omega arith)

module _ (u : CoreUnitTree) (k : ℕ) (some : 2 ≤ k) (few : (g : Callee) → TakesFew k (signature_of (interface_of u) g)) (f : CoreFunctionTree) where
  mutual
    statement_few : (b c : Bool) (s : CoreStmtTree) → stmt_fits u f b c s ≡ true → held_in s ≤ most_in s + k
    statement_few b c skip h = omega arith
    statement_few b c (seq ss) h = body_few b c ss h
    statement_few b c (assign x e) h = omega (arith, parts_small e)
    statement_few b c (store s a e) h = omega (arith, own_small a, own_held e)
    statement_few b c (copy size alignment a e) h = omega (arith, own_small a, own_held e)
    statement_few b c (fill blank a) h = omega arith
    statement_few b c (call x g es) h =
        arguments_few k f x (signature_of (interface_of u) g) es (few g) (and_parts (exprs_fit u f es) (call_fits f x (signature_of (interface_of u) g) es) h).1
    statement_few b c (branch e s t) h =
        let two = and_parts _ (stmt_fits u f b c t) h in
        let i = statement_few b c s (and_parts (expr_fits u f e) (stmt_fits u f b c s) two.0).1 in
        let j = statement_few b c t two.1 in
        omega arith
    statement_few b c (loop body step) h =
        let two = and_parts (stmt_fits u f true true body) (stmt_fits u f true false step) h in
        let i = statement_few true true body two.0 in
        let j = statement_few true false step two.1 in
        omega arith
    statement_few b c (switch e labels ss) h =
        let i = body_few true c ss (and_parts _ (stmts_fit u f true c ss) h).1 in
        omega arith
    statement_few b c break h = omega arith
    statement_few b c continue h = omega arith
    statement_few b c (return e) h = omega arith

    pub body_few : (b c : Bool) (ss : CoreStmts) → stmts_fit u f b c ss ≡ true → held_in_all ss ≤ most_in_all ss + k
    body_few b c no_stmts h = omega arith
    body_few b c (stmt_and s ss) h =
        let two = and_parts (stmt_fits u f b c s) (stmts_fit u f b c ss) h in
        let i = statement_few b c s two.0 in
        let j = body_few b c ss two.1 in
        omega arith

-- ---- the arguments of calls

call_arguments : (k : ℕ) (f : CoreFunctionTree) (x : Option ℕ) (o : Option Signature) (es : List CoreExprTree) → TakesFew k o → call_fits f x o es ≡ true
    → length es ≤ k + 1
call_arguments k f x None es few h = never h
call_arguments k f x (Some s) es few h =
    let two = and_parts (same_scalars (map type_of es) s.parameters) (destination_fits f s.result_type x es) h in
    let same = ap length (scalars_same (map type_of es) s.parameters two.0) in
    let mapped = length-map es type_of in
    let most = few s refl in
    omega arith

module _ (u : CoreUnitTree) (k : ℕ) (few : (g : Callee) → TakesFew k (signature_of (interface_of u) g)) (f : CoreFunctionTree) where
  mutual
    statement_arguments : (b c : Bool) (s : CoreStmtTree) → stmt_fits u f b c s ≡ true → most_arguments s ≤ k + 1
    statement_arguments b c skip h = omega arith
    statement_arguments b c (seq ss) h = body_arguments b c ss h
    statement_arguments b c (assign x e) h = omega arith
    statement_arguments b c (store s a e) h = omega arith
    statement_arguments b c (copy size alignment a e) h = omega arith
    statement_arguments b c (fill blank a) h = omega arith
    statement_arguments b c (call x g es) h =
        call_arguments k f x (signature_of (interface_of u) g) es (few g) (and_parts (exprs_fit u f es) (call_fits f x (signature_of (interface_of u) g) es) h).1
    statement_arguments b c (branch e s t) h =
        let two = and_parts _ (stmt_fits u f b c t) h in
        let i = statement_arguments b c s (and_parts (expr_fits u f e) (stmt_fits u f b c s) two.0).1 in
        let j = statement_arguments b c t two.1 in
        omega arith
    statement_arguments b c (loop body step) h =
        let two = and_parts (stmt_fits u f true true body) (stmt_fits u f true false step) h in
        let i = statement_arguments true true body two.0 in
        let j = statement_arguments true false step two.1 in
        omega arith
    statement_arguments b c (switch e labels ss) h = body_arguments true c ss (and_parts _ (stmts_fit u f true c ss) h).1
    statement_arguments b c break h = omega arith
    statement_arguments b c continue h = omega arith
    statement_arguments b c (return e) h = omega arith

    pub body_arguments : (b c : Bool) (ss : CoreStmts) → stmts_fit u f b c ss ≡ true → most_arguments_in ss ≤ k + 1
    body_arguments b c no_stmts h = omega arith
    body_arguments b c (stmt_and s ss) h =
        let two = and_parts (stmt_fits u f b c s) (stmts_fit u f b c ss) h in
        let i = statement_arguments b c s two.0 in
        let j = body_arguments b c ss two.1 in
        omega arith

-- ---- what the functions of a unit take

abbrev pub core_parameters : CoreFunctionTree → ℕ
core_parameters f = length f.parameters

pub types_few : (ps : List CoreParameterTree) (vs : List CoreVariableTree) → length (types_of ps vs) ≤ length ps
types_few [] vs = omega arith
types_few (p ∷ ps) [] = omega arith
types_few (p ∷ ps) (v ∷ vs) = let h = types_few ps vs in omega arith

signatures_few : (fs : List CoreFunctionTree) (i : ℕ) (s : Signature) → slice_get (map signature fs) i ≡ Some s → length s.parameters ≤ highest core_parameters fs
signatures_few [] i s e = nothing s e
signatures_few (f ∷ fs) zero s e =
    let n = ap (λ (z : Signature). length z.parameters) (same_Some (signature f) s e) in
    let h = types_few f.parameters f.variables in
    omega arith
signatures_few (f ∷ fs) (suc i) s e = let h = signatures_few fs i s e in omega arith

-- putchar takes 1
pub calls_few : (u : CoreUnitTree) (k : ℕ) → highest core_parameters u.functions ≤ k + 1 → (g : Callee) → TakesFew k (signature_of (interface_of u) g)
calls_few u k h (Function f) s e = let i = signatures_few u.functions f.0 s e in omega arith
calls_few u k h PutChar s e = let n = ap (λ (z : Signature). length z.parameters) (same_Some _ s e) in omega arith
calls_few u k h GetChar s e = let n = ap (λ (z : Signature). length z.parameters) (same_Some _ s e) in omega arith
