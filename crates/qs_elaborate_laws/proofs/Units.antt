-- Elaboration keeps runs: bodies, calls and roots.
use Rattle.std.proofs.Common.{◌≡◌, ℕ, zero, suc, Bool, true, false, List, [], ◌∷◌, ◌++◌, refl, sym, ap, ◌∙◌, map, slice_get}
use Rattle.std.proofs.Math.Path.{fun_ext}
use Rattle.qs_memory.specs.Values.{Value}
use Rattle.qs_memory.specs.Memory.{Memory}
use Rattle.qs_events.specs.Runs.{given}
use Rattle.qs_calls.specs.World.{World, RootRun, Return, leaves, Environment, no_values}
use Rattle.qs_calls.specs.Calls.{CallsOf, Frame, Body, activate}
use Rattle.qs_calls.specs.declared.parameter.Parameter.{Parameter}
use Rattle.qs_core.specs.Trees.{CoreStmtTree, CoreFunctionTree}
use Rattle.qs_core.specs.Expressions.{Locals}
use Rattle.qs_core.specs.Statements.{Continuations}
use Rattle.qs_core.specs.Units as core
use Rattle.qs_meaning.specs.Typed.{Function, TypedProgram}
use Rattle.qs_meaning.specs.States.{Here}
use Rattle.qs_meaning.specs.Runs.{result_at_end, frame_of}
use Rattle.qs_meaning.specs.Runs as source
use Rattle.qs_elaborate_bodies.specs.Names.{FunctionNames}
use Rattle.qs_elaborate_bodies.specs.Units.{named_parameters, end_of_body, body_core, function_core, no_names, functions_core, unit_core}
use Rattle.qs_elaborate_bodies.specs.Laws.{CoreFollows, MainFollows}
use Rattle.qs_elaborate_laws.proofs.Data.{memory_kept}
use Rattle.qs_elaborate_bodies.proofs.Lists.{run_list, then_next, run-append, runs_of}
use Rattle.qs_elaborate_bodies.proofs.OperandLaws.{context}
use Rattle.qs_elaborate_bodies.proofs.StatementRuns.{statements_follow}

-- ---- bodies

body_follows : (names : FunctionNames) (g : Function) (turns : ℕ) (calls : CallsOf) (first : ℕ) (k : Return) (v : Environment) (w : World) → core.body_of (function_core names g) (record { turns = turns; calls = calls }) first k v w ≡ source.body_of g turns calls first k v w
body_follows names g turns calls first k v w =
    runs_of (ss ++ end_of_body g.is_main) (context h) kk l w
    ∙ run-append ss (end_of_body g.is_main) (context h) kk l w
    ∙ statements_follow h g.body [] (then_next kk (run_list (end_of_body g.is_main) (context h) kk)) (source.targets g k) (record {
      next = λ v t w. end_follows g.is_main v t w;
      on_break = λ v t w. refl;
      on_continue = λ v t w. refl;
      on_return = λ result w. refl;
    }) v no_values w
  where
    h : Here
    h = record { turns = turns; first_block = first; calls = calls }

    kk : Continuations
    kk = core.after_function k

    ss : List CoreStmtTree
    ss = (body_core g).statements

    l : Locals
    l = record { first_block = first; variables = v; temporaries = no_values }

    end_follows : (is_main : Bool) (v t : Environment) (w : World) → run_list (end_of_body is_main) (context h) (core.after_function k) (record { first_block = first; variables = v; temporaries = t }) w ≡ k (result_at_end is_main) w
    end_follows true v t w = refl
    end_follows false v t w = refl

-- ---- calls

pub places_are : (names : List (List ℕ)) (ps : List Parameter) → map (λ p. p.place) (named_parameters names ps) ≡ ps
places_are names [] = refl
places_are [] (p ∷ ps) = ap (λ rest. p ∷ rest) (places_are [] ps)
places_are (x ∷ names) (p ∷ ps) = ap (λ rest. p ∷ rest) (places_are names ps)

frame_is : (names : FunctionNames) (g : Function) → core.frame_of (function_core names g) ≡ frame_of g
frame_is names g = ap (λ (ps : List Parameter). record { parameters = ps; blocks = g.blocks }) (places_are names.parameters g.parameters)

body_ext : (b c : Body) → ((first : ℕ) (k : Return) (v : Environment) (w : World) → b first k v w ≡ c first k v w) → b ≡ c
body_ext b c h = fun_ext (λ first. fun_ext (λ k. fun_ext (λ v. fun_ext (λ w. h first k v w))))

calls_ext : (c d : CallsOf) → ((f : ℕ) (xs : List Value) (k : Return) (w : World) → c f xs k w ≡ d f xs k w) → c ≡ d
calls_ext c d h = fun_ext (λ f. fun_ext (λ xs. fun_ext (λ k. fun_ext (λ w. h f xs k w))))

call_follows : (names : FunctionNames) (g : Function) (turns : ℕ) (c d : CallsOf) → ((f : ℕ) (xs : List Value) (k : Return) (w : World) → c f xs k w ≡ d f xs k w) → (f : ℕ) (xs : List Value) (k : Return) (w : World) → activate f (core.frame_of (function_core names g)) (core.body_of (function_core names g) (record { turns = turns; calls = c })) xs k w ≡ activate f (frame_of g) (source.body_of g turns d) xs k w
call_follows names g turns c d same f xs k w =
    ap (λ (frame : Frame). activate f frame (core.body_of (function_core names g) (record { turns = turns; calls = c })) xs k w) (frame_is names g)
    ∙ ap (λ (calls : CallsOf). activate f (frame_of g) (core.body_of (function_core names g) (record { turns = turns; calls = calls })) xs k w) (calls_ext c d same)
    ∙ ap (λ (body : Body). activate f (frame_of g) body xs k w) (body_ext _ _ (body_follows names g turns d))

-- the function with a number
found : (names : List FunctionNames) (gs : List Function) (f : ℕ) (k : CoreFunctionTree → RootRun) (j : Function → RootRun) → ((n : FunctionNames) (g : Function) → k (function_core n g) ≡ j g) → given (slice_get (functions_core names gs) f) k ≡ given (slice_get gs f) j
found names [] f k j same = refl
found [] (g ∷ gs) zero k j same = same no_names g
found [] (g ∷ gs) (suc f) k j same = found [] gs f k j same
found (n ∷ names) (g ∷ gs) zero k j same = same n g
found (n ∷ names) (g ∷ gs) (suc f) k j same = found names gs f k j same

calls_follow : (names : List FunctionNames) (u : TypedProgram) (main turns depth f : ℕ) (xs : List Value) (k : Return) (w : World) → core.calls_within (unit_core names u main) turns depth f xs k w ≡ source.calls_within u.functions turns depth f xs k w
calls_follow names u main turns zero f xs k w = refl
calls_follow names u main turns (suc depth) f xs k w =
    found names u.functions f _ _ (λ n g. call_follows n g turns _ _ (calls_follow names u main turns depth) f xs k w)

pub core_follows : CoreFollows
core_follows names u main root xs w n = calls_follow names u main n n root xs leaves w

pub main_follows : MainFollows
main_follows names u main xs input n is whole =
    ap (λ (m : Memory). core.core_run (unit_core names u main) main xs (record { memory = m; input = input }) n) (memory_kept u.blocks whole)
    ∙ core_follows names u main main xs (source.start_world u input) n
    ∙ ap (λ o. given o (λ root. source.run_of u root xs (source.start_world u input) n)) (sym is)
