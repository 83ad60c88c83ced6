-- Where a run of main ends, main has returned a value.
use Rattle.std.proofs.Common.{◌≡◌, ◌≢◌, ℕ, zero, suc, ◌+◌, Bool, true, false, List, [], ◌∷◌, All, Option, Some, None, length, refl, sym, ap, ◌∙◌, subst, arith, if◌then◌else◌}
use Rattle.std.specs.List.{slice_get}
use Rattle.std.specs.Cmp.{first_so, second_so}
use Rattle.std.proofs.lemmas.Option.{same_Some}
use Rattle.qs_memory.specs.Values.{Value, integer, as_integer}
use Rattle.qs_memory.specs.Memory.{Memory, make, release}
use Rattle.qs_events.specs.Events.{Returns}
use Rattle.qs_events.specs.Runs.{Left, Ending, emit, has_ended, is_undefined, is_short, ending_of, given}
use Rattle.qs_calls.specs.World.{World, with_memory, RootRun, Return, leaves, Environment, no_values}
use Rattle.qs_calls.specs.Calls.{CallsOf, activate}
use Rattle.qs_calls.specs.Relations.{Relation, Keeps, CallsRelated}
use Rattle.qs_calls.proofs.RelationLaws.{given_related, pass_related, activate_related}
use Rattle.qs_core.specs.Trees.{CoreUnitTree}
use Rattle.qs_core.specs.Units.{main_run}
use Rattle.qs_meaning.specs.Typed.{Expr, Effect, Stmt, evaluate, block, switch, case_label, default_label, branch, while_loop, do_loop, for_loop, break, continue, return, return_nothing, Stmts, no_stmts, stmt_and, Function, TypedProgram}
use Rattle.qs_meaning.specs.States.{Next, Here, convert_by, conversion_then}
use Rattle.qs_meaning.specs.Meaning.{Targets, in_loop, in_switch, is_case, is_default, turns, condition, for_condition, effect, statement, statements, behind_label}
use Rattle.qs_meaning.specs.Runs.{frame_of, body_of, calls_within, main_from, run_of, start_world}
use Rattle.qs_meaning.specs.Runs as source
use Rattle.qs_meaning.proofs.Options.{never, nothing}
use Rattle.qs_meaning.proofs.RelationLaws.{TurnsRelated, expression_related, effect_related, condition_related, for_condition_related, body_related}
use Rattle.qs_elaborate_laws.proofs.FitCore.{units_have_cores}
use Rattle.qs_elaborate_limits.specs.Laws.{MainReturns}
use Rattle.qs_elaborate_limits.proofs.GivenValues.{gives_values, all_give_values, GivesIfMain, mains_give}

-- ---- runs that leave a result where they end

abbrev LeavesResult : RootRun → Type 0
LeavesResult run = (end : Left Value Memory) → ending_of run ≡ has_ended end → end.result ≢ None

-- of the first of two runs
abbrev R : Relation
R o p = LeavesResult o

not_undefined : (end : Left Value Memory) → is_undefined ≡ has_ended end → ⊥
not_undefined end e = cc

not_short : (end : Left Value Memory) → is_short ≡ has_ended end → ⊥
not_short end e = cc

keeps : Keeps R
keeps = record { emit = λ event o p h. h; undefined = λ end e. absurd (not_undefined end e) }

turns_leave : (n : ℕ) → TurnsRelated R n n
turns_leave zero t u h v w = λ end e. absurd (not_short end e)
turns_leave (suc n) t u h v w = h (turns n t) (turns n u) (turns_leave n t u h) v w

calls_leave : (functions : List Function) (n depth : ℕ) → CallsRelated R (calls_within functions n depth) (calls_within functions n depth)
calls_leave functions n zero f xs k l h w = λ end e. absurd (not_short end e)
calls_leave functions n (suc depth) f xs k l h w =
    let calls = calls_within functions n depth in
    given_related R keeps (slice_get functions f) (λ (g : Function). activate f (frame_of g) (body_of g n calls) xs k w)
    (λ (g : Function). activate f (frame_of g) (body_of g n calls) xs l w) (λ g.
    activate_related R keeps f (frame_of g) (body_of g n calls) (body_of g n calls)
    (body_related R keeps n n (turns_leave n) calls calls (calls_leave functions n depth) g) xs k l h w)

-- ---- statements: what follows them leaves results, and so does what follows each value that is returned

module _ (n : ℕ) (c : CallsOf) (related : CallsRelated R c c) (first : ℕ) where
  abbrev here : Here
  here = record { turns = n; first_block = first; calls = c }

  abbrev Leaves : Next → Type 0
  Leaves k = (v : Environment) (w : World) → LeavesResult (k v w)

  record AllLeave (t : Targets) : Type 0 where
    behind : Leaves t.behind
    at_break : Leaves t.at_break
    at_continue : Leaves t.at_continue
    at_return : (x : Value) (w : World) → LeavesResult (t.at_return (Some x) w)

  loop_leaves : (t : Targets) → AllLeave t → (rest : Next) → Leaves rest → AllLeave (in_loop t rest)
  loop_leaves t h rest r = record { behind = r; at_break = h.behind; at_continue = r; at_return = h.at_return }

  switch_leaves : (t : Targets) → AllLeave t → AllLeave (in_switch t)
  switch_leaves t h = record { behind = h.behind; at_break = h.behind; at_continue = h.at_continue; at_return = h.at_return }

  -- a switch, from the label of its value on
  abbrev chosen : Stmts → Targets → ℕ → Next
  chosen ss t m = behind_label (is_case m) ss here (in_switch t) (behind_label is_default ss here (in_switch t) t.behind)

  abbrev from_label : Stmts → Targets → Value → Next
  from_label ss t y v w = given (as_integer y) (λ m. chosen ss t m v w)

  either_leaves : (z : Bool) (k l : Next) → Leaves k → Leaves l → Leaves (if z then k else l)
  either_leaves true k l h i = h
  either_leaves false k l h i = i

  -- a turn of a `for`
  abbrev for_turn : Option Expr → Effect → Stmt → Targets → Next → Next
  for_turn e step a t k = for_condition e here (statement a here (in_loop t (effect step here k))) t.behind

  mutual
    statement_leaves : (s : Stmt) (t : Targets) → gives_values s ≡ true → AllLeave t → Leaves (statement s here t)
    statement_leaves (evaluate a) t g h v w = effect_related R keeps n n (turns_leave n) c c related first a t.behind t.behind h.behind v w
    statement_leaves (block ss) t g h v w = statements_leave ss t g h v w
    statement_leaves (switch to e ss) t g h v w =
        expression_related R keeps n n (turns_leave n) c c related first e (λ x. conversion_then to x (from_label ss t)) (λ x. source.nowhere) (λ x v w.
        given_related R keeps (convert_by to x) (λ y. from_label ss t y v w) (λ y. from_label ss t y v w) (λ y.
        given_related R keeps (as_integer y) (λ m. chosen ss t m v w) (λ m. chosen ss t m v w) (λ m.
        label_leaves ss (in_switch t) (is_case m) (behind_label is_default ss here (in_switch t) t.behind) g (switch_leaves t h)
        (label_leaves ss (in_switch t) is_default t.behind g (switch_leaves t h) h.behind) v w))) v w
    statement_leaves (case_label m) t g h v w = h.behind v w
    statement_leaves default_label t g h v w = h.behind v w
    statement_leaves (branch e a b) t g h v w =
        condition_related R keeps n n (turns_leave n) c c related first e (statement a here t) (statement b here t) (statement a here t) (statement b here t)
        (statement_leaves a t (first_so _ _ g) h) (statement_leaves b t (second_so (gives_values a) _ g) h) v w
    statement_leaves (while_loop e a) t g h v w =
        turns_leave n (λ k. condition e here (statement a here (in_loop t k)) t.behind) (λ k. k) (λ k l i.
        condition_related R keeps n n (turns_leave n) c c related first e (statement a here (in_loop t k)) t.behind (statement a here (in_loop t k)) t.behind
        (statement_leaves a (in_loop t k) g (loop_leaves t h k i)) h.behind) v w
    statement_leaves (do_loop a e) t g h v w =
        turns_leave n (λ k. statement a here (in_loop t (condition e here k t.behind))) (λ k. k) (λ k l i.
        statement_leaves a (in_loop t (condition e here k t.behind)) g (loop_leaves t h (condition e here k t.behind)
        (condition_related R keeps n n (turns_leave n) c c related first e k t.behind k t.behind i h.behind))) v w
    statement_leaves (for_loop start e step a) t g h v w =
        effect_related R keeps n n (turns_leave n) c c related first start (turns n (for_turn e step a t)) (turns n (for_turn e step a t))
        (turns_leave n (for_turn e step a t) (for_turn e step a t) (λ k l i.
        for_condition_related R keeps n n (turns_leave n) c c related first e (statement a here (in_loop t (effect step here k))) t.behind
        (statement a here (in_loop t (effect step here k))) t.behind
        (statement_leaves a (in_loop t (effect step here k)) g (loop_leaves t h (effect step here k)
        (effect_related R keeps n n (turns_leave n) c c related first step k k i))) h.behind)) v w
    statement_leaves break t g h v w = h.at_break v w
    statement_leaves continue t g h v w = h.at_continue v w
    statement_leaves (return i a) t g h v w =
        expression_related R keeps n n (turns_leave n) c c related first a (λ x. conversion_then i x (λ y v. t.at_return (Some y))) (λ x. source.nowhere) (λ x v w.
        given_related R keeps (convert_by i x) (λ y. t.at_return (Some y) w) (λ y. t.at_return (Some y) w) (λ y. h.at_return y w)) v w
    statement_leaves return_nothing t g h v w = never g

    statements_leave : (ss : Stmts) (t : Targets) → all_give_values ss ≡ true → AllLeave t → Leaves (statements ss here t)
    statements_leave no_stmts t g h v w = h.behind v w
    statements_leave (stmt_and s ss) t g h v w =
        statement_leaves s (record t { behind = statements ss here t }) (first_so _ _ g) (record {
          behind = statements_leave ss t (second_so (gives_values s) _ g) h;
          at_break = h.at_break;
          at_continue = h.at_continue;
          at_return = h.at_return;
        }) v w

    -- from a label on, or what is done without one
    label_leaves : (ss : Stmts) (t : Targets) (test : Stmt → Bool) (without : Next) → all_give_values ss ≡ true → AllLeave t → Leaves without
        → Leaves (behind_label test ss here t without)
    label_leaves no_stmts t test without g h other = other
    label_leaves (stmt_and s ss) t test without g h other =
        either_leaves (test s) (statements ss here t) (behind_label test ss here t without) (statements_leave ss t (second_so (gives_values s) _ g) h)
        (label_leaves ss t test without (second_so (gives_values s) _ g) h other)

-- ---- main

abbrev left_with : Value → Memory → (input : List ℕ) → Left Value Memory
left_with x m input = record { result = Some x; memory = m; input = input }

some_left : (x : Value) (m : Memory) (input : List ℕ) (end : Left Value Memory) → has_ended (left_with x m input) ≡ has_ended end → end.result ≢ None
some_left x m input end e none = nothing x (sym (some_result e ∙ none))
  where
    result_in : Ending (Left Value Memory) → Option Value
    result_in (has_ended end) = end.result
    result_in is_undefined = None
    result_in is_short = None

    some_result : has_ended (left_with x m input) ≡ has_ended end → Some x ≡ end.result
    some_result e = ap result_in e

ended_main : (b : Bool) → b ≡ true → (k : Return) → ((x : Value) (w : World) → LeavesResult (k (Some x) w)) → (w : World) → LeavesResult (k (source.result_at_end b) w)
ended_main true e k h w = h (integer 0) w
ended_main false e k h w = never e

body_leaves :
    (g : Function) → g.is_main ≡ true → all_give_values g.body ≡ true → (n : ℕ) (c : CallsOf) → CallsRelated R c c → (first : ℕ) (k : Return)
    → ((x : Value) (w : World) → LeavesResult (k (Some x) w)) → (v : Environment) (w : World) → LeavesResult (body_of g n c first k v w)
body_leaves g is gives n c related first k h v w =
    statements_leave n c related first g.body (source.targets g k) gives (record {
      behind = λ v w. ended_main g.is_main is k h w;
      at_break = λ v w end e. absurd (not_undefined end e);
      at_continue = λ v w end e. absurd (not_undefined end e);
      at_return = h;
    }) v w

call_leaves :
    (functions : List Function) (n depth root : ℕ) (o : Option Function) (g : Function) → o ≡ Some g → g.is_main ≡ true → all_give_values g.body ≡ true
    → (xs : List Value) (w : World)
    → LeavesResult (given o (λ g. activate root (frame_of g) (body_of g n (calls_within functions n depth)) xs leaves w))
call_leaves functions n depth root None g at is gives xs w = nothing g at
call_leaves functions n depth root (Some f) g at is gives xs w =
    let e = same_Some f g at in
    let entered = length w.memory in
    let k = returned root entered in
    pass_related R keeps f.parameters xs entered no_values (with_memory w (make f.blocks w.memory))
    (body_of f n (calls_within functions n depth) entered k) (λ v w. source.nowhere v w)
    (λ v w. body_leaves f (ap (λ (z : Function). z.is_main) e ∙ is) (ap (λ (z : Function). all_give_values z.body) e ∙ gives) n (calls_within functions n depth)
    (calls_leave functions n depth) entered k (λ x w end q. some_left x (release entered w.memory) w.input end q) v w)
  where
    returned : (root entered : ℕ) → Return
    returned root entered = λ result u. emit (Returns root) (leaves result (with_memory u (release entered u.memory)))

root_leaves :
    (functions : List Function) (n depth root : ℕ) (g : Function) → slice_get functions root ≡ Some g → g.is_main ≡ true → all_give_values g.body ≡ true
    → (xs : List Value) (w : World) → LeavesResult (calls_within functions n depth root xs leaves w)
root_leaves functions n zero root g at is gives xs w = λ end e. absurd (not_short end e)
root_leaves functions n (suc depth) root g at is gives xs w = call_leaves functions n depth root (slice_get functions root) g at is gives xs w

-- main is the first function that is marked
pub record IsMain (gs : List Function) (k m : ℕ) : Type 0 where
  pub number : ℕ
  pub place : m ≡ k + number
  pub main : Function
  pub there : slice_get gs number ≡ Some main
  pub marked : main.is_main ≡ true

pub main_at : (k m : ℕ) (gs : List Function) → main_from k gs ≡ Some m → IsMain gs k m
main_at k m [] h = nothing m h
main_at k m (g ∷ gs) h = by g.is_main refl h (main_at (k + 1) m gs)
  where
    by : (b : Bool) → g.is_main ≡ b → (if b then Some k else main_from (k + 1) gs) ≡ Some m → (main_from (k + 1) gs ≡ Some m → IsMain gs (k + 1) m)
        → IsMain (g ∷ gs) k m
    by true e q others = let p = same_Some k m q in record { number = 0; place = omega arith; main = g; there = refl; marked = e }
    by false e q others =
        let rest = others q in
        let p = rest.place in
        record { number = suc rest.number; place = omega arith; main = rest.main; there = rest.there; marked = rest.marked }

gives_at : (gs : List Function) (k : ℕ) (g : Function) → All GivesIfMain gs → slice_get gs k ≡ Some g → GivesIfMain g
gives_at [] k g all at = nothing g at
gives_at (f ∷ gs) zero g all at = subst GivesIfMain (same_Some f g at) (all 0 f (omega arith))
gives_at (f ∷ gs) (suc k) g all at = gives_at gs k g (λ i h lt. all (suc i) h (omega arith)) at

pub at_place : (gs : List Function) (m number : ℕ) (g : Function) → m ≡ 0 + number → slice_get gs number ≡ Some g → slice_get gs m ≡ Some g
at_place gs m number g e h = subst (λ k. slice_get gs k ≡ Some g) (number_is m number e) h
  where
    number_is : (m number : ℕ) → m ≡ 0 + number → number ≡ m
    number_is m number e = omega arith

source_returns :
    (u : TypedProgram) → All GivesIfMain u.functions → (xs : List Value) (input : List ℕ) (n : ℕ) → LeavesResult (source.main_run u xs input n)
source_returns u all xs input n = by (main_from 0 u.functions) refl
  where
    by : (o : Option ℕ) → main_from 0 u.functions ≡ o → LeavesResult (given o (λ root. run_of u root xs (start_world u input) n))
    by None e = λ end q. absurd (not_undefined end q)
    by (Some m) e =
        let f = main_at 0 m u.functions e in
        let here = at_place u.functions m f.number f.main f.place f.there in
        root_leaves u.functions n n m f.main here f.marked (gives_at u.functions m f.main all here f.marked) xs (start_world u input)

pub main_returns : MainReturns
main_returns unit core read well limits q xs input n end e =
    let has = units_have_cores unit read well limits in
    let core_is = same_Some has.core core (sym has.is ∙ q) in
    let run_is = sym (has.main_follows xs input n) ∙ ap (λ (z : CoreUnitTree). main_run z xs input n) core_is in
    source_returns has.typed (mains_give unit has.typed well has.tree) xs input n end (ap ending_of run_is ∙ e)
