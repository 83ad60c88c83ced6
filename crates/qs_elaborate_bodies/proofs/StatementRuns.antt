-- Elaboration keeps runs: statements.
use Rattle.std.proofs.Common.{◌≡◌, ℕ, zero, suc, ◌+◌, Bool, true, false, List, [], ◌∷◌, ◌++◌, Option, Some, None, refl, sym, ap, subst, ◌∙◌, arith, if◌then◌else◌}
use Rattle.std.specs.Option.{option_or}
use Rattle.qs_memory.specs.Values.{Value, as_integer}
use Rattle.qs_memory.specs.Pointers.{truth}
use Rattle.qs_events.specs.Runs.{given}
use Rattle.qs_calls.specs.World.{World, Environment}
use Rattle.qs_core.specs.declared.labels.CoreLabel.{CoreLabel}
use Rattle.qs_core.specs.declared.labels.CoreLabel.TheVariants.{Case, Default}
use Rattle.qs_core.specs.Expressions.{Locals}
use Rattle.qs_core.specs.Trees.{CoreStmtTree, stmts_of}
use Rattle.qs_core.specs.Trees as core
use Rattle.qs_core.specs.Statements as core_statements
use Rattle.qs_core.specs.Statements.{Continuation, Continuations, after_step, after_body, repeated, case_part, default_part, chosen_part, at_part, runs, runs_all, runs_from}
use Rattle.qs_meaning.specs.Typed.{Expr, Effect, Stmt, evaluate, block, switch, case_label, default_label, branch, while_loop, do_loop, for_loop, break, continue, return, return_nothing, Stmts, no_stmts, stmt_and}
use Rattle.qs_meaning.specs.States.{Next, Here, test}
use Rattle.qs_meaning.specs.Meaning.{expression, effect, Targets, in_loop, in_switch, is_case, is_default, turns, condition, statement, statements, behind_label}
use Rattle.qs_elaborate_bodies.specs.Literals.{converted_core}
use Rattle.qs_elaborate_bodies.specs.Parts.{Temporaries, next_number, Valued, Listed, one_statement}
use Rattle.qs_elaborate_bodies.specs.Expressions.{expression_core, effect_core}
use Rattle.qs_elaborate_bodies.specs.Statements.{tested, guarded, looped, labels_core, statement_core, statements_core, parts_core}
use Rattle.qs_elaborate_bodies.proofs.Options.{given_same}
use Rattle.qs_elaborate_bodies.proofs.Lists.{run_list, then_next, run-append, runs_of, run_one}
use Rattle.qs_elaborate_bodies.proofs.Items.{IsPart, Item, a_case, a_default, a_part, item_of, part_first, part_labels}
use Rattle.qs_elaborate_bodies.proofs.OperandLaws.{Source, locals, context, worth, GivesValued}
use Rattle.qs_elaborate_bodies.proofs.Branches.{chosen, converted_gives}
use Rattle.qs_elaborate_bodies.proofs.Expressions.{expression_gives, effect_does}

module _ (h : Here) where
  -- what follows in core is what follows in the source, whatever the temporaries are
  abbrev pub Same : Continuation → Next → Type 0
  Same k next = (v t : Environment) (w : World) → k (locals h v t) w ≡ next v w

  pub record Agree (kk : Continuations) (k : Targets) : Type 0 where
    pub next : Same kk.next k.behind
    pub on_break : Same kk.on_break k.at_break
    pub on_continue : Same kk.on_continue k.at_continue
    pub on_return : (result : Option Value) (w : World) → kk.on_return result w ≡ k.at_return result w

  -- ---- turns

  turns_same : (turn : Continuation → Continuation) (source : Next → Next) → ((again : Continuation) (next : Next) → Same again next → Same (turn again) (source next)) → (n : ℕ) → Same (repeated n turn) (turns n source)
  turns_same turn source is zero v t w = refl
  turns_same turn source is (suc n) v t w = is (repeated n turn) (turns n source) (turns_same turn source is n) v t w

  body_agrees : (kk : Continuations) (k : Targets) → Agree kk k → (step : Continuation) (rest : Next) → Same step rest → Agree (after_body kk step) (in_loop k rest)
  body_agrees kk k a step rest same = record { next = same; on_break = a.next; on_continue = same; on_return = a.on_return }

  -- ---- conditions and effects

  -- a list of statements that are this in the source
  abbrev pub Follows : List CoreStmtTree → (Targets → Next) → Type 0
  Follows ss source = (kk : Continuations) (k : Targets) → Agree kk k → Same (run_list ss (context h) kk) (source k)

  one_follows : (ss : List CoreStmtTree) (source : Targets → Next) → Follows ss source → (kk : Continuations) (k : Targets) → Agree kk k → Same (runs (one_statement ss) (context h) kk) (source k)
  one_follows ss source f kk k a v t w = run_one ss (context h) kk (locals h v t) w ∙ f kk k a v t w

  tested_same : (m : ℕ) (g : Valued) (source : Source Value) → GivesValued h m g source → (p q : CoreStmtTree) (kk : Continuations) (met unmet : Next) → Same (runs p (context h) kk) met → Same (runs q (context h) kk) unmet → Same (run_list (tested g p q) (context h) kk) (source (λ x. test x met unmet))
  tested_same m g source a p q kk met unmet same same' v t w =
      run-append g.statements (core.branch g.value p q ∷ []) (context h) kk (locals h v t) w
      ∙ a.gives (λ x. test x met unmet) (then_next kk (run_list (core.branch g.value p q ∷ []) (context h) kk)) v t w (λ v1 t1 w1 kept.
      given_same (worth h g.value v1 t1 w1) _ _ (λ x. given_same (truth w1.memory x) _ _ (λ yes. chosen yes _ _ met unmet v1 w1 (same v1 t1 w1) (same' v1 t1 w1))))

  -- an effect, and then statements
  effect_then : (a : Effect) (ts : Temporaries) (rest : List CoreStmtTree) (kk : Continuations) (next : Next) → Same (run_list rest (context h) kk) next → Same (run_list ((effect_core a ts).statements ++ rest) (context h) kk) (effect a h next)
  effect_then a ts rest kk next same v t w =
      run-append (effect_core a ts).statements rest (context h) kk (locals h v t) w
      ∙ (effect_does h a ts).gives next (then_next kk (run_list rest (context h) kk)) v t w (λ v1 t1 w1 kept. same v1 t1 w1)

  step_same : (a : Effect) (ts : Temporaries) (kk : Continuations) (again : Continuation) (next : Next) → Same again next → Same (runs (one_statement (effect_core a ts).statements) (context h) (after_step kk again)) (effect a h next)
  step_same a ts kk again next same v t w =
      run_one (effect_core a ts).statements (context h) (after_step kk again) (locals h v t) w
      ∙ (effect_does h a ts).gives next (after_step kk again) v t w (λ v1 t1 w1 kept. same v1 t1 w1)

  -- a body that is run while a condition holds
  guarded_follows : (e : Expr) (ts : Temporaries) (body : Listed) (source : Targets → Next) → Follows body.statements source → Follows (guarded (expression_core e ts) body) (λ k. condition e h (source k) k.at_break)
  guarded_follows e ts body source f kk k a =
      tested_same (next_number ts) (expression_core e ts) (expression e h) (expression_gives h e ts) (one_statement body.statements) core.break kk (source k) k.at_break
      (one_follows body.statements source f kk k a) a.on_break

  -- a loop whose turns are a body and then a step
  loop_same : (body step : List CoreStmtTree) (source : Targets → Next) (rest : Next → Next) (kk : Continuations) (k : Targets) → Agree kk k → Follows body source → ((again : Continuation) (next : Next) → Same again next → Same (runs (one_statement step) (context h) (after_step kk again)) (rest next)) → Same (run_list (looped body step ∷ []) (context h) kk) (turns h.turns (λ again. source (in_loop k (rest again))))
  loop_same body step source rest kk k a f same =
      turns_same _ _ (λ again next is.
      one_follows body source f (after_body kk (runs (one_statement step) (context h) (after_step kk again))) (in_loop k (rest next)) (body_agrees kk k a _ (rest next) (same again next is))) h.turns

  -- ---- switches

  -- one more statement in front
  front_follows : (s : Stmt) (ts : Temporaries) (rest : List CoreStmtTree) (source : Targets → Next) → Follows (statement_core s ts).statements (statement s h) → Follows rest source
      → Follows (one_statement (statement_core s ts).statements ∷ rest) (λ k. statement s h (record k { behind = source k }))
  front_follows s ts rest source f r kk k a v t w =
      one_follows (statement_core s ts).statements (statement s h) f (then_next kk (run_list rest (context h) kk)) (record k { behind = source k }) (record {
        next = r kk k a;
        on_break = a.on_break;
        on_continue = a.on_continue;
        on_return = a.on_return;
      }) v t w

  -- the parts from the first on are the items; a label among them does nothing
  item_follows : (s : Stmt) (ss : Stmts) (ts : Temporaries) → Item s → Follows (statement_core s ts).statements (statement s h)
      → ((us : Temporaries) → Follows (parts_core ss us).statements (statements ss h)) → Follows (parts_core (stmt_and s ss) ts).statements (statements (stmt_and s ss) h)
  item_follows _ ss ts (a_case n) f r = r ts
  item_follows _ ss ts a_default f r = r ts
  item_follows _ ss ts (a_part s p) f r =
      subst (λ (parts : List CoreStmtTree). Follows parts (statements (stmt_and s ss) h)) (sym (part_first s ss ts p))
      (front_follows s ts (parts_core ss (statement_core s ts).temporaries).statements (statements ss h) f (r (statement_core s ts).temporaries))

  -- what is looked for among the labels of core is what is looked for among the items
  record Finds (test : Stmt → Bool) (find : List CoreLabel → Option ℕ) : Type 0 where
    none : find [] ≡ None
    at_case : (n part : ℕ) (labels : List CoreLabel) → find (Case n part ∷ labels) ≡ (if test (case_label n) then Some part else find labels)
    at_default : (part : ℕ) (labels : List CoreLabel) → find (Default part ∷ labels) ≡ (if test default_label then Some part else find labels)
    at_other : (s : Stmt) → IsPart s → test s ≡ false

  finds_case : (n : ℕ) → Finds (is_case n) (λ labels. case_part labels n)
  finds_case n = record { none = refl; at_case = λ m part labels. refl; at_default = λ part labels. refl; at_other = λ s p. p.no_case n }

  finds_default : Finds is_default default_part
  finds_default = record { none = refl; at_case = λ n part labels. refl; at_default = λ part labels. refl; at_other = λ s p. p.no_default }

  -- the parts have numbers from this one on, by which what is run from them is known
  abbrev Numbered : (parts : List CoreStmtTree) → (part : ℕ) → (from : ℕ → Continuation) → Continuations → Type 0
  Numbered parts part from kk = (i j : ℕ) → j ≡ part + i → (l : Locals) (w : World) → from j l w ≡ runs_from (stmts_of parts) i (context h) kk l w

  numbered_later : (s : CoreStmtTree) (parts : List CoreStmtTree) (part : ℕ) (from : ℕ → Continuation) (kk : Continuations) → Numbered (s ∷ parts) part from kk → Numbered parts (part + 1) from kk
  numbered_later s parts part from kk is i j e l w = is (suc i) j (omega arith) l w

  first_part : (parts : List CoreStmtTree) (kk : Continuations) (l : Locals) (w : World) → runs_from (stmts_of parts) 0 (context h) kk l w ≡ run_list parts (context h) kk l w
  first_part [] kk l w = refl
  first_part (s ∷ parts) kk l w = runs_of (s ∷ parts) (context h) kk l w

  -- the run from the part that is found, or of what follows without one, is that of the items behind the label that is found
  abbrev FoundIn : Stmts → Type 0
  FoundIn ss =
      (test : Stmt → Bool) (find : List CoreLabel → Option ℕ) → Finds test find
      → (from : ℕ → Continuation) (kk : Continuations) (k : Targets) → Agree kk k → (behind : Continuation) (without : Next) → Same behind without
      → (ts : Temporaries) (part : ℕ) → Numbered (parts_core ss ts).statements part from kk
      → Same (at_part (find (labels_core part ss)) from behind) (behind_label test ss h k without)

  none_found : FoundIn no_stmts
  none_found test find finds from kk k a behind without same ts part is =
      subst (λ (o : Option ℕ). Same (at_part o from behind) without) (sym finds.none) same

  -- a label at which it goes on, or not
  label_found :
      (z : Bool) (rest : Option ℕ) (from : ℕ → Continuation) (behind : Continuation) (part : ℕ) (here later : Next) → Same (from part) here → Same (at_part rest from behind) later
      → Same (at_part (if z then Some part else rest) from behind) (if z then here else later)
  label_found true rest from behind part here later first second v t w = first v t w
  label_found false rest from behind part here later first second v t w = second v t w

  -- from a part on, where it is the first one
  first_found : (ss : Stmts) (ts : Temporaries) (part : ℕ) (from : ℕ → Continuation) (kk : Continuations) (k : Targets) → Agree kk k → Follows (parts_core ss ts).statements (statements ss h)
      → Numbered (parts_core ss ts).statements part from kk → Same (from part) (statements ss h k)
  first_found ss ts part from kk k a f is v t w =
      is 0 part (omega arith) (locals h v t) w ∙ first_part (parts_core ss ts).statements kk (locals h v t) w ∙ f kk k a v t w

  item_found : (s : Stmt) (ss : Stmts) → Item s → ((us : Temporaries) → Follows (parts_core ss us).statements (statements ss h)) → FoundIn ss → FoundIn (stmt_and s ss)
  item_found _ ss (a_case n) f later test find finds from kk k a behind without same ts part is =
      subst (λ (o : Option ℕ). Same (at_part o from behind) (behind_label test (stmt_and (case_label n) ss) h k without)) (sym (finds.at_case n part (labels_core part ss)))
      (label_found (test (case_label n)) (find (labels_core part ss)) from behind part (statements ss h k) (behind_label test ss h k without)
      (first_found ss ts part from kk k a (f ts) is) (later test find finds from kk k a behind without same ts part is))
  item_found _ ss a_default f later test find finds from kk k a behind without same ts part is =
      subst (λ (o : Option ℕ). Same (at_part o from behind) (behind_label test (stmt_and default_label ss) h k without)) (sym (finds.at_default part (labels_core part ss)))
      (label_found (test default_label) (find (labels_core part ss)) from behind part (statements ss h k) (behind_label test ss h k without)
      (first_found ss ts part from kk k a (f ts) is) (later test find finds from kk k a behind without same ts part is))
  item_found _ ss (a_part s p) f later test find finds from kk k a behind without same ts part is =
      let us = (statement_core s ts).temporaries in
      let numbered = numbered_later (one_statement (statement_core s ts).statements) (parts_core ss us).statements part from kk
      (subst (λ (all : List CoreStmtTree). Numbered all part from kk) (part_first s ss ts p) is) in
      subst (λ (z : Bool). Same (at_part (find (labels_core part (stmt_and s ss))) from behind) (if z then statements ss h k else behind_label test ss h k without)) (sym (finds.at_other s p))
      (subst (λ (labels : List CoreLabel). Same (at_part (find labels) from behind) (behind_label test ss h k without)) (sym (part_labels s ss part p))
      (later test find finds from kk k a behind without same us (part + 1) numbered))

  -- 6.8.4.2p5: the part at the `case` of the value, or else that at `default`
  either_part : (o other : Option ℕ) (from : ℕ → Continuation) (behind : Continuation) (l : Locals) (w : World)
      → at_part (option_or o other) from behind l w ≡ at_part o from (at_part other from behind) l w
  either_part None other from behind l w = refl
  either_part (Some part) other from behind l w = refl

  -- the items behind the label of the value, and else behind `default`, are the parts from the chosen one on
  switch_same : (ss : Stmts) → FoundIn ss → (n : ℕ) (ts : Temporaries) (kk : Continuations) (k : Targets) → Agree kk k
      → Same (at_part (chosen_part (labels_core 0 ss) n) (λ part. runs_from (stmts_of (parts_core ss ts).statements) part (context h) (core_statements.in_switch kk)) kk.next)
      (behind_label (is_case n) ss h (in_switch k) (behind_label is_default ss h (in_switch k) k.behind))
  switch_same ss found n ts kk k a v t w =
      let inside = core_statements.in_switch kk in
      let from : ℕ → Continuation = λ part. runs_from (stmts_of (parts_core ss ts).statements) part (context h) inside in
      let agree : Agree inside (in_switch k) = record { next = a.next; on_break = a.next; on_continue = a.on_continue; on_return = a.on_return } in
      let numbered : Numbered (parts_core ss ts).statements 0 from inside = λ i j e l w. from_number i j e l w inside in
      let labels = labels_core 0 ss in
      either_part (case_part labels n) (default_part labels) from kk.next (locals h v t) w
      ∙ found (is_case n) (λ labels. case_part labels n) (finds_case n) from inside (in_switch k) agree (at_part (default_part labels) from kk.next)
      (behind_label is_default ss h (in_switch k) k.behind)
      (found is_default default_part finds_default from inside (in_switch k) agree kk.next k.behind a.next ts 0 numbered) ts 0 numbered v t w
    where
      from_number : (i j : ℕ) → j ≡ 0 + i → (l : Locals) (w : World) (inside : Continuations)
          → runs_from (stmts_of (parts_core ss ts).statements) j (context h) inside l w ≡ runs_from (stmts_of (parts_core ss ts).statements) i (context h) inside l w
      from_number i j e l w inside =
          let same : j ≡ i = omega arith in ap (λ part. runs_from (stmts_of (parts_core ss ts).statements) part (context h) inside l w) same

  -- ---- statements

  mutual
    pub statement_follows : (s : Stmt) (ts : Temporaries) → Follows (statement_core s ts).statements (statement s h)
    statement_follows (evaluate e) ts kk k a v t w = (effect_does h e ts).gives k.behind kk v t w (λ v1 t1 w1 kept. a.next v1 t1 w1)
    statement_follows (block ss) ts kk k a v t w = statements_follow ss ts kk k a v t w
    statement_follows (switch c e ss) ts kk k a v t w =
        let g = expression_core e ts in
        let labels = labels_core 0 ss in
        let parts = (parts_core ss g.temporaries).statements in
        let rest : List CoreStmtTree = core.switch (converted_core c g.value) labels (stmts_of parts) ∷ [] in
        run-append g.statements rest (context h) kk (locals h v t) w
        ∙ (converted_gives h (next_number ts) c g (expression e h) (expression_gives h e ts)).gives
        (λ y v w. given (as_integer y) (λ n. behind_label (is_case n) ss h (in_switch k) (behind_label is_default ss h (in_switch k) k.behind) v w))
        (then_next kk (run_list rest (context h) kk)) v t w (λ v1 t1 w1 kept.
        given_same (worth h (converted_core c g.value) v1 t1 w1) _ _ (λ y. given_same (as_integer y) _ _ (λ n. switch_same ss (found ss) n g.temporaries kk k a v1 t1 w1)))
    statement_follows (case_label n) ts kk k a v t w = a.next v t w
    statement_follows default_label ts kk k a v t w = a.next v t w
    statement_follows (branch e s r) ts kk k a v t w =
        let g = expression_core e ts in
        let met = statement_core s g.temporaries in
        let unmet = statement_core r met.temporaries in
        tested_same (next_number ts) g (expression e h) (expression_gives h e ts) (one_statement met.statements) (one_statement unmet.statements) kk (statement s h k) (statement r h k)
        (one_follows met.statements (statement s h) (statement_follows s g.temporaries) kk k a) (one_follows unmet.statements (statement r h) (statement_follows r met.temporaries) kk k a) v t w
    statement_follows (while_loop e s) ts kk k a v t w =
        let g = expression_core e ts in
        loop_same (guarded g (statement_core s g.temporaries)) [] (λ k. condition e h (statement s h k) k.at_break) (λ next. next) kk k a
        (guarded_follows e ts (statement_core s g.temporaries) (statement s h) (statement_follows s g.temporaries)) (λ again next is. is) v t w
    statement_follows (do_loop s e) ts kk k a v t w =
        let body = statement_core s ts in
        let g = expression_core e body.temporaries in
        turns_same _ (λ again. statement s h (in_loop k (condition e h again k.behind))) (λ again next is.
        one_follows body.statements (statement s h) (statement_follows s ts) _ (in_loop k (condition e h next k.behind)) (body_agrees kk k a _ (condition e h next k.behind) (λ v t w.
        run_one (tested g core.skip core.break) (context h) (after_step kk again) (locals h v t) w
        ∙ tested_same (next_number body.temporaries) g (expression e h) (expression_gives h e body.temporaries) core.skip core.break (after_step kk again) next k.behind is a.next v t w))) h.turns v t w
    statement_follows (for_loop start None step s) ts kk k a v t w =
        let first = effect_core start ts in
        let body = statement_core s first.temporaries in
        effect_then start ts _ kk _ (loop_same body.statements (effect_core step body.temporaries).statements (statement s h) (effect step h) kk k a
        (statement_follows s first.temporaries) (λ again next is. step_same step body.temporaries kk again next is)) v t w
    statement_follows (for_loop start (Some e) step s) ts kk k a v t w =
        let first = effect_core start ts in
        let g = expression_core e first.temporaries in
        let body = statement_core s g.temporaries in
        effect_then start ts _ kk _ (loop_same (guarded g body) (effect_core step body.temporaries).statements (λ k. condition e h (statement s h k) k.at_break) (effect step h) kk k a
        (guarded_follows e first.temporaries body (statement s h) (statement_follows s g.temporaries)) (λ again next is. step_same step body.temporaries kk again next is)) v t w
    statement_follows break ts kk k a v t w = a.on_break v t w
    statement_follows continue ts kk k a v t w = a.on_continue v t w
    statement_follows (return c e) ts kk k a v t w =
        let g = expression_core e ts in
        let rest : List CoreStmtTree = core.return (Some (converted_core c g.value)) ∷ [] in
        run-append g.statements rest (context h) kk (locals h v t) w
        ∙ (converted_gives h (next_number ts) c g (expression e h) (expression_gives h e ts)).gives (λ y v. k.at_return (Some y)) (then_next kk (run_list rest (context h) kk)) v t w (λ v1 t1 w1 kept.
        given_same (worth h (converted_core c g.value) v1 t1 w1) _ _ (λ y. a.on_return (Some y) w1))
    statement_follows return_nothing ts kk k a v t w = a.on_return None w

    pub statements_follow : (ss : Stmts) (ts : Temporaries) → Follows (statements_core ss ts).statements (statements ss h)
    statements_follow no_stmts ts kk k a v t w = a.next v t w
    statements_follow (stmt_and s ss) ts kk k a v t w =
        let first = statement_core s ts in
        let rest = statements_core ss first.temporaries in
        run-append first.statements rest.statements (context h) kk (locals h v t) w
        ∙ statement_follows s ts (then_next kk (run_list rest.statements (context h) kk)) (record k { behind = statements ss h k }) (record {
          next = statements_follow ss first.temporaries kk k a;
          on_break = a.on_break;
          on_continue = a.on_continue;
          on_return = a.on_return;
        }) v t w

    parts_follow : (ss : Stmts) (ts : Temporaries) → Follows (parts_core ss ts).statements (statements ss h)
    parts_follow no_stmts ts = λ kk k a v t w. a.next v t w
    parts_follow (stmt_and s ss) ts = item_follows s ss ts (item_of s) (statement_follows s ts) (λ us. parts_follow ss us)

    found : (ss : Stmts) → FoundIn ss
    found no_stmts = none_found
    found (stmt_and s ss) = item_found s ss (item_of s) (λ us. parts_follow ss us) (found ss)
