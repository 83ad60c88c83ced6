-- The meaning of core keeps each relation of runs that events keep.
use Rattle.std.proofs.Common.{ℕ, zero, suc, ◌≤◌, Bool, true, false, if◌then◌else◌, Option, Some, None, refl, arith}
use Rattle.std.specs.List.{slice_get}
use Rattle.qs_memory.specs.Values.{Pointer, as_integer, as_pointer}
use Rattle.qs_memory.specs.Memory as memory
use Rattle.qs_memory.specs.Pointers.{truth}
use Rattle.qs_events.specs.Runs.{Within}
use Rattle.qs_calls.specs.World.{World, with_memory, RootRun, Return, leaves, no_values}
use Rattle.qs_calls.specs.Calls.{CallsOf}
use Rattle.qs_calls.specs.Relations.{Relation, Keeps, ReturnsRelated, CallsRelated, BodiesRelated}
use Rattle.qs_calls.proofs.RelationLaws.{given_related, invoke_related, activate_related, within_keeps, Follows, follows_keeps, leaves_follows}
use Rattle.qs_core.specs.declared.numbers.Target.TheVariants as targets
use Rattle.qs_core.specs.Trees.{CoreExprTree, CoreStmtTree, skip, seq, assign, store, copy, fill, call, branch, loop, switch, break, continue, return, CoreStmts, no_stmts, stmt_and, CoreFunctionTree, CoreUnitTree}
use Rattle.qs_core.specs.Expressions.{Locals, value, values}
use Rattle.qs_core.specs.Statements.{Continuation, Continuations, Context, assigned, take_result, given_pointer, repeated, after_step, chosen_part, at_part, runs, runs_all, runs_from}
use Rattle.qs_core.specs.Units.{frame_of, body_of, calls_within}
use Rattle.qs_core.specs.Laws.{CoreGrows, CallsAlone}

module _ (R : Relation) where
  abbrev pub Related : Continuation → Continuation → Type 0
  Related f g = (l : Locals) (w : World) → R (f l w) (g l w)

  pub record AllRelated (k j : Continuations) : Type 0 where
    pub next : Related k.next j.next
    pub on_break : Related k.on_break j.on_break
    pub on_continue : Related k.on_continue j.on_continue
    pub on_return : ReturnsRelated R k.on_return j.on_return

  -- loops of at most so many turns, whose turns are related
  abbrev pub TurnsRelated : ℕ → ℕ → Type 0
  TurnsRelated m n =
      (f g : Continuation → Continuation)
      → ((k j : Continuation) → Related k j → Related (f k) (g j))
      → Related (repeated m f) (repeated n g)

  module _ (keeps : Keeps R) where
    choice_related :
        (b : Bool) (o p q r : RootRun) → R o q → R p r → R (if b then o else p) (if b then q else r)
    choice_related true o p q r h g = h
    choice_related false o p q r h g = g

    part_related :
        (part : Option ℕ) (f g : ℕ → Continuation) → ((n : ℕ) → Related (f n) (g n))
        → (k j : Continuation) → Related k j → Related (at_part part f k) (at_part part g j)
    part_related None f g h k j e = e
    part_related (Some part) f g h k j e = h part

    result_related :
        (x : Option ℕ) (f g : Continuation) → Related f g → (l : Locals)
        → ReturnsRelated R (take_result x f l) (take_result x g l)
    result_related None f g h l result w = h l w
    result_related (Some k) f g h l result w =
        given_related R keeps result _ _ (λ v. h (assigned (targets.Temporary k) l v) w)

    pointer_related :
        (e : CoreExprTree) (l : Locals) (w : World) (f g : Pointer → RootRun)
        → ((p : Pointer) → R (f p) (g p)) → R (given_pointer e l w f) (given_pointer e l w g)
    pointer_related e l w f g h =
        given_related R keeps (value e l w.memory) _ _
        (λ v. given_related R keeps (as_pointer v) _ _ h)

    -- the same body in two contexts
    module _ (m n : ℕ) (tr : TurnsRelated m n) (c d : CallsOf) (cd : CallsRelated R c d) where
      abbrev one : Context
      one = record { turns = m; calls = c }

      abbrev other : Context
      other = record { turns = n; calls = d }

      mutual
        pub stmt_related :
            (s : CoreStmtTree) (k j : Continuations) → AllRelated k j
            → Related (runs s one k) (runs s other j)
        stmt_related skip k j h l w = h.next l w
        stmt_related (seq ss) k j h l w = stmts_related ss k j h l w
        stmt_related (assign x e) k j h l w =
            given_related R keeps (value e l w.memory) _ _ (λ v. h.next (assigned x l v) w)
        stmt_related (store s a b) k j h l w =
            pointer_related a l w _ _ (λ p. given_related R keeps (value b l w.memory) _ _
            (λ v. given_related R keeps (memory.store s w.memory p v) _ _
            (λ u. h.next l (with_memory w u))))
        stmt_related (copy size alignment a b) k j h l w =
            pointer_related a l w _ _ (λ p. pointer_related b l w _ _
            (λ q. given_related R keeps (memory.copy size alignment w.memory p q) _ _
            (λ u. h.next l (with_memory w u))))
        stmt_related (fill blank a) k j h l w =
            pointer_related a l w _ _ (λ p. given_related R keeps (memory.fill blank w.memory p) _ _
            (λ u. h.next l (with_memory w u)))
        stmt_related (call x f arguments) k j h l w =
            given_related R keeps (values arguments l w.memory) _ _
            (λ vs. invoke_related R keeps f c d cd vs _ _ (result_related x _ _ h.next l) w)
        stmt_related (branch e a b) k j h l w =
            given_related R keeps (value e l w.memory) _ _
            (λ v. given_related R keeps (truth w.memory v) _ _ (λ yes.
            choice_related yes _ _ _ _ (stmt_related a k j h l w) (stmt_related b k j h l w)))
        stmt_related (loop body step) k j h l w =
            tr _ _ (λ f g fg.
            let st =
            stmt_related step (after_step k f) (after_step j g)
            (record { next = fg; on_break = h.next; on_continue = fg; on_return = h.on_return })
            in
            stmt_related body _ _ (record {
              next = st;
              on_break = h.next;
              on_continue = st;
              on_return = h.on_return;
            })) l w
        stmt_related (switch e labels ss) k j h l w =
            given_related R keeps (value e l w.memory) _ _
            (λ v. given_related R keeps (as_integer v) _ _ (λ n.
            part_related (chosen_part labels n) _ _ (λ part. parts_related ss part _ _ (record {
              next = h.next;
              on_break = h.next;
              on_continue = h.on_continue;
              on_return = h.on_return;
            })) _ _ h.next l w))
        stmt_related break k j h l w = h.on_break l w
        stmt_related continue k j h l w = h.on_continue l w
        stmt_related (return None) k j h l w = h.on_return None w
        stmt_related (return (Some e)) k j h l w =
            given_related R keeps (value e l w.memory) _ _ (λ v. h.on_return (Some v) w)

        pub stmts_related :
            (ss : CoreStmts) (k j : Continuations) → AllRelated k j
            → Related (runs_all ss one k) (runs_all ss other j)
        stmts_related no_stmts k j h l w = h.next l w
        stmts_related (stmt_and s ss) k j h l w =
            stmt_related s _ _ (record {
              next = stmts_related ss k j h;
              on_break = h.on_break;
              on_continue = h.on_continue;
              on_return = h.on_return;
            }) l w

        pub parts_related :
            (ss : CoreStmts) (part : ℕ) (k j : Continuations) → AllRelated k j
            → Related (runs_from ss part one k) (runs_from ss part other j)
        parts_related no_stmts part k j h l w = h.next l w
        parts_related (stmt_and s ss) zero k j h l w =
            stmt_related s _ _ (record {
              next = stmts_related ss k j h;
              on_break = h.on_break;
              on_continue = h.on_continue;
              on_return = h.on_return;
            }) l w
        parts_related (stmt_and s ss) (suc part) k j h l w = parts_related ss part k j h l w

      pub body_related : (f : CoreFunctionTree) → BodiesRelated R (body_of f one) (body_of f other)
      body_related f first k j h e w =
          stmts_related f.body _ _
          (record {
            next = λ l w. h None w;
            on_break = λ l w. keeps.undefined;
            on_continue = λ l w. keeps.undefined;
            on_return = h;
          })
          (record { first_block = first; variables = e; temporaries = no_values }) w

-- ---- growth

turns_grow : (m n : ℕ) → m ≤ n → TurnsRelated Within m n
turns_grow zero n le f g h l w = tt
turns_grow (suc m) zero le f g h l w = absurd (omega arith)
turns_grow (suc m) (suc n) le f g h l w = h _ _ (turns_grow m n (omega arith) f g h) l w

pub calls_grow :
    (u : CoreUnitTree) (m n : ℕ) → m ≤ n → (i j : ℕ) → i ≤ j
    → CallsRelated Within (calls_within u m i) (calls_within u n j)
calls_grow u m n le zero j ij f vs k q h w = tt
calls_grow u m n le (suc i) zero ij f vs k q h w = absurd (omega arith)
calls_grow u m n le (suc i) (suc j) ij f vs k q h w =
    given_related Within within_keeps (slice_get u.functions f) _ _ (λ g.
    activate_related Within within_keeps f (frame_of g) _ _
    (body_related Within within_keeps m n (turns_grow m n le) _ _
    (calls_grow u m n le i j (omega arith)) g) vs k q h w)

pub core_grows : CoreGrows
core_grows u root arguments w m n le =
    calls_grow u m n le m n le root arguments leaves leaves (λ result w. refl) w

-- ---- a call alone, and then what follows

turns_follow : (r : Return) (n : ℕ) → TurnsRelated (Follows r) n n
turns_follow r zero f g h l w = refl
turns_follow r (suc n) f g h l w = h _ _ (turns_follow r n f g h) l w

calls_follow :
    (r : Return) (u : CoreUnitTree) (turns i : ℕ)
    → CallsRelated (Follows r) (calls_within u turns i) (calls_within u turns i)
calls_follow r u turns zero f vs k q h w = refl
calls_follow r u turns (suc i) f vs k q h w =
    given_related (Follows r) (follows_keeps r) (slice_get u.functions f) _ _ (λ g.
    activate_related (Follows r) (follows_keeps r) f (frame_of g) _ _
    (body_related (Follows r) (follows_keeps r) turns turns (turns_follow r turns) _ _
    (calls_follow r u turns i) g) vs k q h w)

pub calls_alone : CallsAlone
calls_alone u turns depth f arguments k w =
    calls_follow k u turns depth f arguments leaves k (leaves_follows k) w
