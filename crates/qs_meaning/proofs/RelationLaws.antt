-- The meaning keeps every relation between runs that events and undefined steps keep: runs with related ends, calls and turns are related.
use Rattle.std.proofs.Common.{ℕ, Bool, true, false, List, Option, Some, None, if◌then◌else◌}
use Rattle.qs_memory.specs.declared.scalar.Scalar.{Scalar}
use Rattle.qs_memory.specs.Partial.{◌>>=◌}
use Rattle.qs_memory.specs.Values.{Value, address, as_integer, as_pointer}
use Rattle.qs_memory.specs.Memory.{store}
use Rattle.qs_memory.specs.Memory as blocks
use Rattle.qs_memory.specs.Pointers.{member_of, truth}
use Rattle.qs_memory.specs.Operations.{apply_unary}
use Rattle.qs_calls.specs.World.{World, with_memory, Environment, with_value}
use Rattle.qs_calls.specs.Calls.{CallsOf}
use Rattle.qs_calls.specs.Relations.{Relation, Keeps, ReturnsRelated, CallsRelated, BodiesRelated}
use Rattle.qs_calls.proofs.RelationLaws.{given_related, invoke_related}
use Rattle.qs_meaning.specs.Typed.{unchanged, Expr, constant, value, pointer_to, member, called, stepped_after, unary, cast, binary, logical_and, logical_or, conditional, assigned, sequence, Lvalue, variable, object, Arguments, no_arguments, argument_and, Assignment, set, update, Effect, nothing, discard, assign, perform, copy, fill, in_order, Stmt, evaluate, block, branch, switch, case_label, default_label, while_loop, do_loop, for_loop, break, continue, return, return_nothing, Stmts, no_stmts, stmt_and, Function}
use Rattle.qs_meaning.specs.States.{Next, Here, choose, test, convert_by, Place, in_variable, in_object, read, write}
use Rattle.qs_meaning.specs.Meaning.{operation_value, updated_value, step_amount, expression, lvalue, arguments, assignment, effect, Targets, in_loop, in_switch, is_case, is_default, turns, condition, for_condition, statement, statements, behind_label}
use Rattle.qs_meaning.specs.Runs.{body_of}

module _ (R : Relation) where
  abbrev pub NextRelated : Next → Next → Type 0
  NextRelated k l = (v : Environment) (w : World) → R (k v w) (l v w)

  pub record TargetsRelated (t u : Targets) : Type 0 where
    pub behind : NextRelated t.behind u.behind
    pub at_break : NextRelated t.at_break u.at_break
    pub at_continue : NextRelated t.at_continue u.at_continue
    pub at_return : ReturnsRelated R t.at_return u.at_return

  abbrev pub TurnsRelated : ℕ → ℕ → Type 0
  TurnsRelated m n = (t u : Next → Next) → ((k l : Next) → NextRelated k l → NextRelated (t k) (u l)) → NextRelated (turns m t) (turns n u)

  module _ (keeps : Keeps R) where
    choose_related : (b : Bool) (k k' l l' : Next) → NextRelated k l → NextRelated k' l' → NextRelated (choose b k k') (choose b l l')
    choose_related true k k' l l' h i = h
    choose_related false k k' l l' h i = i

    test_related : (x : Value) (k k' l l' : Next) → NextRelated k l → NextRelated k' l' → NextRelated (test x k k') (test x l l')
    test_related x k k' l l' h i v w = given_related R keeps (truth w.memory x) _ _ (λ b. choose_related b k k' l l' h i v w)

    write_related : (s : Scalar) (p : Place) (y : Value) (k l : Next) → NextRelated k l → NextRelated (write s p y k) (write s p y l)
    write_related s (in_variable x) y k l h v w = h (with_value v x y) w
    write_related s (in_object a) y k l h v w = given_related R keeps (as_pointer a >>= λ p. store s w.memory p y) _ _ (λ m. h v (with_memory w m))

    -- a call seen with two bounds
    module _ (m n : ℕ) (turns_related : TurnsRelated m n) (c d : CallsOf) (calls_related : CallsRelated R c d) (first_block : ℕ) where
      abbrev here : Here
      here = record { turns = m; first_block = first_block; calls = c }

      abbrev there : Here
      there = record { turns = n; first_block = first_block; calls = d }

      mutual
        pub expression_related : (a : Expr) (k l : Value → Next) → ((x : Value) → NextRelated (k x) (l x)) → NextRelated (expression a here k) (expression a there l)
        expression_related (constant s i) k l h v w = h _ v w
        expression_related (value s a) k l h v w = lvalue_related a _ _ (λ p v w. given_related R keeps (read s p v w) _ _ (λ x. h x v w)) v w
        expression_related (pointer_to o) k l h v w = h _ v w
        expression_related (member offset a) k l h v w =
            expression_related a _ _ (λ x v w. given_related R keeps (as_pointer x >>= λ p. member_of w.memory p offset) _ _ (λ p. h (address p) v w)) v w
        expression_related (called s f es) k l h v w =
            arguments_related es _ _ (λ xs v w. invoke_related R keeps f c d calls_related xs _ _ (λ result w. given_related R keeps result _ _ (λ x. h x v w)) w) v w
        expression_related (stepped_after s a operation left back) k l h v w =
            lvalue_related a _ _ (λ p v w. given_related R keeps (read s p v w) _ _ (λ x.
            given_related R keeps (updated_value operation left unchanged back w.memory x step_amount) _ _ (λ y. write_related s p y _ _ (h x) v w))) v w
        expression_related (unary operation i a) k l h v w =
            expression_related a _ _ (λ x v w. given_related R keeps (convert_by i x >>= λ x. apply_unary operation w.memory x) _ _ (λ y. h y v w)) v w
        expression_related (cast i a) k l h v w = expression_related a _ _ (λ x v w. given_related R keeps (convert_by i x) _ _ (λ y. h y v w)) v w
        expression_related (binary operation order left right a b) k l h v w =
            expression_related a _ _ (λ x. expression_related b _ _ (λ y v w.
            given_related R keeps (operation_value operation order left right w.memory x y) _ _ (λ z. h z v w))) v w
        expression_related (logical_and a b) k l h v w =
            expression_related a _ _ (λ x. test_related x _ _ _ _ (expression_related b _ _ (λ y. test_related y _ _ _ _ (h _) (h _))) (h _)) v w
        expression_related (logical_or a b) k l h v w =
            expression_related a _ _ (λ x. test_related x _ _ _ _ (h _) (expression_related b _ _ (λ y. test_related y _ _ _ _ (h _) (h _)))) v w
        expression_related (conditional s a i j b e) k l h v w =
            expression_related a _ _ (λ x. test_related x _ _ _ _
            (expression_related b _ _ (λ y v w. given_related R keeps (convert_by i y) _ _ (λ z. h z v w)))
            (expression_related e _ _ (λ y v w. given_related R keeps (convert_by j y) _ _ (λ z. h z v w)))) v w
        expression_related (assigned a) k l h v w = assignment_related a k l h v w
        expression_related (sequence a b) k l h v w = effect_related a _ _ (expression_related b k l h) v w

        lvalue_related : (a : Lvalue) (k l : Place → Next) → ((p : Place) → NextRelated (k p) (l p)) → NextRelated (lvalue a here k) (lvalue a there l)
        lvalue_related (variable x) k l h v w = h _ v w
        lvalue_related (object a) k l h v w = expression_related a _ _ (λ x. h (in_object x)) v w

        arguments_related : (es : Arguments) (k l : List Value → Next) → ((xs : List Value) → NextRelated (k xs) (l xs)) → NextRelated (arguments es here k)
            (arguments es there l)
        arguments_related no_arguments k l h v w = h _ v w
        arguments_related (argument_and i a es) k l h v w =
            expression_related a _ _ (λ x. arguments_related es _ _ (λ ys v w. given_related R keeps (convert_by i x) _ _ (λ y. h _ v w))) v w

        assignment_related : (a : Assignment) (k l : Value → Next) → ((x : Value) → NextRelated (k x) (l x)) → NextRelated (assignment a here k) (assignment a there l)
        assignment_related (set s a i b) k l h v w =
            lvalue_related a _ _ (λ p. expression_related b _ _ (λ x v w. given_related R keeps (convert_by i x) _ _ (λ y. write_related s p y _ _ (h y) v w))) v w
        assignment_related (update s a operation left right back b) k l h v w =
            lvalue_related a _ _ (λ p v w. given_related R keeps (read s p v w) _ _ (λ x.
            expression_related b _ _ (λ y v w. given_related R keeps (updated_value operation left right back w.memory x y) _ _
            (λ z. write_related s p z _ _ (h z) v w)) v w)) v w

        pub effect_related : (a : Effect) (k l : Next) → NextRelated k l → NextRelated (effect a here k) (effect a there l)
        effect_related nothing k l h v w = h v w
        effect_related (discard a) k l h v w = expression_related a _ _ (λ x. h) v w
        effect_related (assign a) k l h v w = assignment_related a _ _ (λ x. h) v w
        effect_related (perform f es) k l h v w = arguments_related es _ _ (λ xs v w. invoke_related R keeps f c d calls_related xs _ _ (λ result w. h v w) w) v w
        effect_related (copy size alignment a b) k l h v w =
            expression_related a _ _ (λ x. expression_related b _ _ (λ y v w.
            given_related R keeps (as_pointer x >>= λ to. as_pointer y >>= λ from. blocks.copy size alignment w.memory to from) _ _ (λ m. h v (with_memory w m)))) v w
        effect_related (fill blank a) k l h v w =
            expression_related a _ _ (λ x v w. given_related R keeps (as_pointer x >>= λ p. blocks.fill blank w.memory p) _ _ (λ m. h v (with_memory w m))) v w
        effect_related (in_order a b) k l h v w = effect_related a _ _ (effect_related b k l h) v w

      pub condition_related : (e : Expr) (k k' l l' : Next) → NextRelated k l → NextRelated k' l' → NextRelated (condition e here k k') (condition e there l l')
      condition_related e k k' l l' h i = expression_related e _ _ (λ x. test_related x k k' l l' h i)

      pub for_condition_related : (e : Option Expr) (k k' l l' : Next) → NextRelated k l → NextRelated k' l' → NextRelated (for_condition e here k k') (for_condition e there l l')
      for_condition_related None k k' l l' h i = h
      for_condition_related (Some e) k k' l l' h i = condition_related e k k' l l' h i

      loop_related : (t u : Targets) → TargetsRelated t u → (k l : Next) → NextRelated k l → TargetsRelated (in_loop t k) (in_loop u l)
      loop_related t u h k l i = record { behind = i; at_break = h.behind; at_continue = i; at_return = h.at_return }

      switch_related : (t u : Targets) → TargetsRelated t u → TargetsRelated (in_switch t) (in_switch u)
      switch_related t u h = record { behind = h.behind; at_break = h.behind; at_continue = h.at_continue; at_return = h.at_return }

      chosen_related : (b : Bool) (k k' l l' : Next) → NextRelated k l → NextRelated k' l' → NextRelated (if b then k else k') (if b then l else l')
      chosen_related true k k' l l' h i = h
      chosen_related false k k' l l' h i = i

      mutual
        statement_related : (s : Stmt) (t u : Targets) → TargetsRelated t u → NextRelated (statement s here t) (statement s there u)
        statement_related (evaluate a) t u h v w = effect_related a _ _ h.behind v w
        statement_related (block ss) t u h v w = statements_related ss t u h v w
        statement_related (branch e a b) t u h v w = condition_related e _ _ _ _ (statement_related a t u h) (statement_related b t u h) v w
        statement_related (switch i e ss) t u h v w =
            expression_related e _ _ (λ x v w. given_related R keeps (convert_by i x) _ _ (λ y. given_related R keeps (as_integer y) _ _ (λ n.
            label_related (is_case n) ss _ _ (switch_related t u h) _ _ (label_related is_default ss _ _ (switch_related t u h) _ _ h.behind) v w))) v w
        statement_related (case_label n) t u h v w = h.behind v w
        statement_related default_label t u h v w = h.behind v w
        statement_related (while_loop e a) t u h v w =
            turns_related _ _ (λ k l i. condition_related e _ _ _ _ (statement_related a _ _ (loop_related t u h k l i)) h.behind) v w
        statement_related (do_loop a e) t u h v w =
            turns_related _ _ (λ k l i. statement_related a _ _ (loop_related t u h _ _ (condition_related e _ _ _ _ i h.behind))) v w
        statement_related (for_loop start e step a) t u h v w =
            effect_related start _ _ (turns_related _ _ (λ k l i.
            for_condition_related e _ _ _ _ (statement_related a _ _ (loop_related t u h _ _ (effect_related step k l i))) h.behind)) v w
        statement_related break t u h v w = h.at_break v w
        statement_related continue t u h v w = h.at_continue v w
        statement_related (return i a) t u h v w =
            expression_related a _ _ (λ x v w. given_related R keeps (convert_by i x) _ _ (λ y. h.at_return (Some y) w)) v w
        statement_related return_nothing t u h v w = h.at_return None w

        statements_related : (ss : Stmts) (t u : Targets) → TargetsRelated t u → NextRelated (statements ss here t) (statements ss there u)
        statements_related no_stmts t u h v w = h.behind v w
        statements_related (stmt_and s ss) t u h v w =
            statement_related s _ _ (record { behind = statements_related ss t u h; at_break = h.at_break; at_continue = h.at_continue; at_return = h.at_return }) v w

        -- behind a label of a switch
        label_related : (is_label : Stmt → Bool) (ss : Stmts) (t u : Targets) → TargetsRelated t u → (k l : Next) → NextRelated k l
            → NextRelated (behind_label is_label ss here t k) (behind_label is_label ss there u l)
        label_related is_label no_stmts t u h k l i v w = i v w
        label_related is_label (stmt_and s ss) t u h k l i v w =
            chosen_related (is_label s) _ _ _ _ (statements_related ss t u h) (label_related is_label ss t u h k l i) v w

    pub body_related : (m n : ℕ) → TurnsRelated m n → (c d : CallsOf) → CallsRelated R c d → (g : Function) → BodiesRelated R (body_of g m c) (body_of g n d)
    body_related m n turns_related c d calls_related g first k l h v w =
        statements_related m n turns_related c d calls_related first g.body _ _
        (record { behind = λ v w. h _ w; at_break = λ v w. keeps.undefined; at_continue = λ v w. keeps.undefined; at_return = h }) v w
