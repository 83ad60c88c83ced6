-- The code of each statement makes the run that it means.
use Rattle.std.proofs.Common.{◌≡◌, ℕ, zero, suc, ◌+◌, ◌-◌, Bool, true, false, not, ◌||◌, ◌&&◌, if◌then◌else◌, List, length, Option, Some, None, refl, sym, ap, ◌∙◌, subst, arith}
use Rattle.std.specs.Prelude.{nat_lt}
use Rattle.std.proofs.lemmas.Bool.Decides.{nat_tests}
use Rattle.std.proofs.lemmas.Bool.{or_left, or_right, and_left, and_right, not_from_true}
use Rattle.qs_memory.specs.Values.{Value}
use Rattle.qs_memory.specs.Pointers.{truth}
use Rattle.qs_events.specs.Runs.{emit, given}
use Rattle.qs_calls.specs.World.{World, RootRun, Environment}
use Rattle.qs_calls.specs.Relations.{Relation, Keeps}
use Rattle.qs_core.specs.Trees.{CoreExprTree, CoreFunctionTree}
use Rattle.qs_core.specs.Expressions.{Locals, value}
use Rattle.qs_core.specs.Statements.{Continuation, Continuations, Context, repeated, after_step, after_body}
use Rattle.qs_tac.specs.Trees.{InstructionTree}
use Rattle.qs_lower_expressions.specs.Expressions.{ExprCode}
use Rattle.qs_lower.specs.Statements.{Part, Way, to_next, to_break, to_continue, Tested, StmtCode, straight, leaves, is_break, by_way, tested_behind, of_joined, of_before, of_ways, of_both, test_of, is_next, of_test, of_branch, body_alone, body_first, test_last, loop_part, of_loop}
use Rattle.qs_lower.proofs.StmtSizeLaws.{PartSized, OptionSized, StmtSized, going_sized, joined_sized, redirected_sized, branch_sized, loop_sized}
use Rattle.qs_lower_expressions.proofs.RealisationLaws.{Model, Stack, CallsReal, IsCode, Agree, free}
use Rattle.qs_lower_expressions.proofs.ExprReal as expr
use Rattle.qs_lower.proofs.PlainReal as plain
use Rattle.qs_lower.proofs.FlowReal as flow

abbrev pub Equal : Relation
Equal o p = o ≡ p

pub equal_keeps : Keeps Equal
equal_keeps = record { emit = λ event o p h. ap (emit event) h; undefined = refl }

pub given_alike : {A : Type 0} (o : Option A) (f g : A → RootRun) → ((a : A) → f a ≡ g a) → given o f ≡ given o g
given_alike None f g h = refl
given_alike (Some a) f g h = h a

choice_alike : (b : Bool) (o p q r : RootRun) → o ≡ q → p ≡ r → (if b then o else p) ≡ (if b then q else r)
choice_alike true o p q r h k = h
choice_alike false o p q r h k = k

module _ (u : Model) (f : CoreFunctionTree) (code : List InstructionTree) (function : ℕ) (stack : Stack) (is_code : IsCode u f code function stack) (c : Context) (first depth : ℕ) (calls_real : CallsReal u depth c.calls) where
  abbrev Meaning : Type 0
  Meaning = Continuations → Continuation

  abbrev PartReal : Meaning → Part → Type 0
  PartReal m p = plain.PartReal u f code function stack is_code c first depth calls_real m p

  abbrev Correct : CoreExprTree → ExprCode → Type 0
  Correct s e = expr.Correct u f code function stack is_code s e

  abbrev Alike : Continuation → Continuation → Type 0
  Alike k j = (l : Locals) (w : World) → k l w ≡ j l w

  abbrev goes_to : Way → Continuations → Continuation
  goes_to to_next k = k.next
  goes_to to_break k = k.on_break
  goes_to to_continue k = k.on_continue

  abbrev with_next : Continuations → Continuation → Continuations
  with_next k n = record k { next = n }

  abbrev then_ : Meaning → Meaning → Meaning
  then_ m n k = m (with_next k (n k))

  abbrev chosen : CoreExprTree → Meaning → Meaning → Meaning
  chosen s m n k l w = given (value s l w.memory) (λ v. given (truth w.memory v) (λ said. if said then m k l w else n k l w))

  abbrev first_free : ℕ
  first_free = free u f code function stack

  -- ---- what a statement doesn't use

  -- the same, but for what is next where the statement never comes there, and for a break where it makes none
  pub record SameBut (ends breaks : Bool) (k j : Continuations) : Type 0 where
    pub next : ends ≡ false → Alike k.next j.next
    pub on_break : breaks ≡ true → Alike k.on_break j.on_break
    pub on_continue : Alike k.on_continue j.on_continue
    pub on_return : (result : Option Value) (w : World) → k.on_return result w ≡ j.on_return result w

  nothing_next : (b : Bool) (k : Continuations) (n : Continuation) → SameBut true b k (with_next k n)
  nothing_next b k n = record { next = λ no. absurd (cc); on_break = λ so l w. refl; on_continue = λ l w. refl; on_return = λ result w. refl }

  same_less : (e b b2 : Bool) (k j : Continuations) → (b2 ≡ true → b ≡ true) → SameBut e b k j → SameBut e b2 k j
  same_less e b b2 k j h s = record { next = s.next; on_break = λ so. s.on_break (h so); on_continue = s.on_continue; on_return = s.on_return }

  -- ---- what is claimed of a statement's code

  pub record TestIs (d : Tested) (m : Meaning) : Type 0 where
    pub tree : CoreExprTree
    pub front_meaning : Meaning
    pub rest_meaning : Meaning
    pub front : PartReal front_meaning d.front
    pub test : Correct tree d.test
    pub rest : PartReal rest_meaning d.rest
    pub idle : d.is_idle ≡ true → (k : Continuations) → Alike k.next (rest_meaning k)
    pub is : (k : Continuations) → Alike (front_meaning (with_next k (chosen tree rest_meaning (λ j. j.on_break) k))) (m k)

  abbrev pub TestedIs : Option Tested → Meaning → Type 0
  TestedIs None m = Unit {0}
  TestedIs (Some d) m = TestIs d m

  pub record Good (m : Meaning) (s : StmtCode) : Type 0 where
    pub sized : StmtSized s
    pub part : PartReal m s.part
    pub way : (way : Way) → s.way ≡ Some way → (k : Continuations) → Alike (goes_to way k) (m k)
    pub way_ends : (way : Way) → s.way ≡ Some way → s.ends ≡ leaves way
    pub ignores : (k j : Continuations) → SameBut s.ends s.breaks k j → Alike (m k) (m j)
    pub tested : TestedIs s.tested m

  tested_alike : (o : Option Tested) (m n : Meaning) → ((k : Continuations) → Alike (m k) (n k)) → TestedIs o m → TestedIs o n
  tested_alike None m n same t = tt
  tested_alike (Some d) m n same t = record {
    tree = t.tree;
    front_meaning = t.front_meaning;
    rest_meaning = t.rest_meaning;
    front = t.front;
    test = t.test;
    rest = t.rest;
    idle = t.idle;
    is = λ k l w. t.is k l w ∙ same k l w;
  }

  good_alike : (m n : Meaning) (s : StmtCode) → ((k : Continuations) → Alike (m k) (n k)) → Good m s → Good n s
  good_alike m n s same g = record {
    sized = g.sized;
    part = flow.part_alike u f code function stack is_code c first depth calls_real m n s.part same g.part;
    way = λ way is k l w. g.way way is k l w ∙ same k l w;
    way_ends = g.way_ends;
    ignores = λ k j h l w. sym (same k l w) ∙ g.ignores k j h l w ∙ same j l w;
    tested = tested_alike s.tested m n same g.tested;
  }

  way_is : (o : Option Way) (m : Meaning) → ((way : Way) → o ≡ Some way → (k : Continuations) → Alike (goes_to way k) (m k)) → flow.WayIs u f code function stack is_code c first depth calls_real o m
  way_is None m h = tt
  way_is (Some way) m h = h way refl

  -- ---- a statement without jumps of its own, and one that only jumps

  pub straight_good :
      (m : Meaning) (size used : ℕ) (lines : (at : ℕ) → List InstructionTree) → StmtSized (straight size used lines) → PartReal m (straight size used lines).part
      → ((k j : Continuations) → SameBut false false k j → Alike (m k) (m j)) → Good m (straight size used lines)
  straight_good m size used lines sized real same =
      record { sized = sized; part = real; way = λ way is. absurd (cc); way_ends = λ way is. absurd (cc); ignores = same; tested = tt }

  ways_same : (way : Way) (k j : Continuations) → SameBut (leaves way) (is_break way) k j → Alike (goes_to way k) (goes_to way j)
  ways_same to_next k j h = h.next refl
  ways_same to_break k j h = h.on_break refl
  ways_same to_continue k j h = h.on_continue

  pub way_good : (way : Way) → Good (goes_to way) (by_way way)
  way_good way = record {
    sized = record { part = going_sized way; tested = tt };
    part = flow.going_real u f code function stack is_code c first depth calls_real way;
    way = λ other is k l w. ap (λ (x : Way). goes_to x k l w) (sym (some_way way other is));
    way_ends = λ other is. ap leaves (some_way way other is);
    ignores = λ k j h. ways_same way k j h;
    tested = tt;
  }
    where
      some_way : (way other : Way) → Some way ≡ Some other → way ≡ other
      some_way way other h = cc

  -- ---- one behind another

  joined_good : (m n : Meaning) (a b : StmtCode) → a.ends ≡ false → Good m a → Good n b → Good (then_ m n) (of_joined a b)
  joined_good m n a b goes g h = record {
    sized = record { part = joined_sized a.part b.part g.sized.part h.sized.part; tested = sized_behind a.part b.tested g.sized.part h.sized.tested };
    part = flow.joined_real u f code function stack is_code c first depth calls_real m n a.part b.part g.part h.part g.sized.part;
    way = λ way is. absurd (cc);
    way_ends = λ way is. absurd (cc);
    ignores = λ k j same l w.
        g.ignores (with_next k (n k)) (with_next j (n j))
        (record {
          next = λ no. h.ignores k j (same_less b.ends (a.breaks || b.breaks) b.breaks k j (or_right a.breaks b.breaks) same);
          on_break = λ so. same.on_break (or_left a.breaks b.breaks so);
          on_continue = same.on_continue;
          on_return = same.on_return;
        }) l w;
    tested = behind b.tested h.tested;
  }
    where
      sized_behind : (a : Part) (d : Option Tested) → PartSized a → OptionSized d → OptionSized (tested_behind a d)
      sized_behind a None x y = tt
      sized_behind a (Some d) x y = record { front = joined_sized a d.front x y.front; test = y.test; rest = y.rest }

      behind : (o : Option Tested) → TestedIs o n → TestedIs (tested_behind a.part o) (then_ m n)
      behind None t = tt
      behind (Some d) t = record {
        tree = t.tree;
        front_meaning = then_ m t.front_meaning;
        rest_meaning = t.rest_meaning;
        front = flow.joined_real u f code function stack is_code c first depth calls_real m t.front_meaning a.part d.front g.part t.front g.sized.part;
        test = t.test;
        rest = t.rest;
        idle = t.idle;
        is = λ k l w.
            g.ignores _ (with_next k (n k))
            (record { next = λ no. t.is k; on_break = λ so x y. refl; on_continue = λ x y. refl; on_return = λ x y. refl }) l w;
      }

  redirected_good :
      (m n : Meaning) (a b : StmtCode) (way : Way) → a.way ≡ None → Good m a → Good n b → b.way ≡ Some way → Good (then_ m n) (of_before a (Some way) b)
  redirected_good m n a b way none g h is = record {
    sized = record { part = redirected_sized a.part way g.sized.part; tested = tt };
    part = flow.redirected_real u f code function stack is_code c first depth calls_real m n a.part way g.part (h.way way is);
    way = λ other some. no_way (a.way) none other some;
    way_ends = λ other some. no_way (a.way) none other some;
    ignores = λ k j same l w.
        g.ignores (with_next k (n k)) (with_next j (n j))
        (record {
          next = λ no. h.ignores k j (same_less b.ends (a.breaks || b.breaks) b.breaks k j (or_right a.breaks b.breaks) same);
          on_break = λ so. same.on_break (or_left a.breaks b.breaks so);
          on_continue = same.on_continue;
          on_return = same.on_return;
        }) l w;
    tested = tt;
  }
    where
      no_way : {X : Type 0} (o : Option Way) → o ≡ None → (way : Way) → o ≡ Some way → X
      no_way o e way h = absurd (cc)

  before_good : (m n : Meaning) (a b : StmtCode) → a.ends ≡ false → a.way ≡ None → Good m a → Good n b → (o : Option Way) → b.way ≡ o → Good (then_ m n) (of_before a o b)
  before_good m n a b goes none g h None is = joined_good m n a b goes g h
  before_good m n a b goes none g h (Some way) is = redirected_good m n a b way none g h is

  ways_good : (m n : Meaning) (a b : StmtCode) → a.ends ≡ false → Good m a → Good n b → (o : Option Way) → a.way ≡ o → Good (then_ m n) (of_ways o a b)
  ways_good m n a b goes g h None is = before_good m n a b goes is g h b.way refl
  ways_good m n a b goes g h (Some to_next) is = good_alike n (then_ m n) b (λ k. g.way to_next is (with_next k (n k))) h
  ways_good m n a b goes g h (Some to_break) is = absurd (clash a.ends goes (g.way_ends to_break is))
    where
      clash : (b : Bool) → b ≡ false → b ≡ true → ⊥
      clash b h k = cc
  ways_good m n a b goes g h (Some to_continue) is = absurd (clash a.ends goes (g.way_ends to_continue is))
    where
      clash : (b : Bool) → b ≡ false → b ≡ true → ⊥
      clash b h k = cc

  pub both_good : (m n : Meaning) (a b : StmtCode) → Good m a → Good n b → Good (then_ m n) (of_both a b)
  both_good m n a b g h = by_end a.ends refl
    where
      by_end : (e : Bool) → a.ends ≡ e → Good (then_ m n) (if e then a else of_ways a.way a b)
      by_end true ends =
          good_alike m (then_ m n) a
          (λ k. g.ignores k (with_next k (n k)) (subst (λ (e : Bool). SameBut e a.breaks k (with_next k (n k))) (sym ends) (nothing_next a.breaks k (n k)))) g
      by_end false ends = ways_good m n a b ends g h a.way refl

  -- ---- branches

  pub test_good : (s : CoreExprTree) (e : ExprCode) (m n : Meaning) (a b : StmtCode) → Correct s e → Good m a → Good n b → Good (chosen s m n) (of_test first_free e a b)
  test_good s e m n a b h g i = record {
    sized = branch_sized None first_free e a b h.sized g.sized i.sized;
    part =
        flow.branch_real u f code function stack is_code c first depth calls_real s e m n a.way b.way a.part b.part h g.part i.part g.sized.part
        (way_is a.way m g.way) (way_is b.way n i.way);
    way = λ way is. absurd (cc);
    way_ends = λ way is. absurd (cc);
    ignores = λ k j same l w.
        given_alike (value s l w.memory) _ _
        (λ v. given_alike (truth w.memory v) _ _
        (λ said. choice_alike said _ _ _ _
        (g.ignores k j (record {
          next = λ no. same.next (and_left a.ends b.ends no);
          on_break = λ so. same.on_break (or_left a.breaks b.breaks so);
          on_continue = same.on_continue;
          on_return = same.on_return;
        }) l w)
        (i.ignores k j (record {
          next = λ no. same.next (and_right a.ends b.ends no);
          on_break = λ so. same.on_break (or_right a.breaks b.breaks so);
          on_continue = same.on_continue;
          on_return = same.on_return;
        }) l w)));
    tested = ends_loop b.way refl;
  }
    where
      next_way : (o : Option Way) → is_next o ≡ true → o ≡ Some to_next
      next_way None h = absurd (cc)
      next_way (Some to_next) h = refl
      next_way (Some to_break) h = absurd (cc)
      next_way (Some to_continue) h = absurd (cc)

      ends_loop : (o : Option Way) → b.way ≡ o → TestedIs (test_of e (is_next a.way) a.part o) (chosen s m n)
      ends_loop None is = tt
      ends_loop (Some to_next) is = tt
      ends_loop (Some to_continue) is = tt
      ends_loop (Some to_break) is = record {
        tree = s;
        front_meaning = goes_to to_next;
        rest_meaning = m;
        front = flow.going_real u f code function stack is_code c first depth calls_real to_next;
        test = h;
        rest = g.part;
        idle = λ next. g.way to_next (next_way a.way next);
        is = λ k l w.
            given_alike (value s l w.memory) _ _
            (λ v. given_alike (truth w.memory v) _ _ (λ said. choice_alike said _ _ _ _ refl (i.way to_break is k l w)));
      }

  -- some values of temporaries that agree
  held_for : Locals → Environment
  held_for l x = if nat_lt x (length f.variables) then l.variables x else l.temporaries (x - length f.variables)

  held_agrees : (l : Locals) → Agree u f code function stack l (held_for l)
  unfolding held_for
  held_agrees l = record {
    variables = λ x below. let so : nat_lt x (length f.variables) ≡ true = grind (arith, nat_tests, below) in
        ap (λ b. if b then l.variables x else l.temporaries (x - length f.variables)) so;
    temporaries = λ k below.
        let so : nat_lt (length f.variables + k) (length f.variables) ≡ false = grind (arith, nat_tests) in
        let same : length f.variables + k - length f.variables ≡ k = omega arith in
        ap (λ b. if b then l.variables (length f.variables + k) else l.temporaries (length f.variables + k - length f.variables)) so
        ∙ ap l.temporaries same;
  }

  pub branch_good :
      (s : CoreExprTree) (e : ExprCode) (m n : Meaning) (a b : StmtCode) → Correct s e → Good m a → Good n b → (o : Option Bool) → e.known ≡ o
      → Good (chosen s m n) (of_branch o first_free e a b)
  branch_good s e m n a b h g i None is = test_good s e m n a b h g i
  branch_good s e m n a b h g i (Some true) is =
      good_alike m (chosen s m n) a
      (λ k l w.
      sym (plain.given_bind (value s l w.memory) (truth w.memory) (λ said. if said then m k l w else n k l w)
      ∙ plain.given_some _ true (λ said. if said then m k l w else n k l w) (h.known true is 0 l (held_for l) w.memory (held_agrees l)))) g
  branch_good s e m n a b h g i (Some false) is =
      good_alike n (chosen s m n) b
      (λ k l w.
      sym (plain.given_bind (value s l w.memory) (truth w.memory) (λ said. if said then m k l w else n k l w)
      ∙ plain.given_some _ false (λ said. if said then m k l w else n k l w) (h.known false is 0 l (held_for l) w.memory (held_agrees l)))) i

  -- ---- loops

  abbrev looped : Meaning → Meaning → Meaning
  looped m n k l w = repeated c.turns (λ again. m (after_body k (n (after_step k again)))) l w

  abbrev turns_of : Meaning → Meaning → Continuations → ℕ → Continuation
  turns_of m n k i = repeated i (λ again. m (after_body k (n (after_step k again))))

  -- loops of bodies that mean the same
  turns_alike :
      (m q n : Meaning) (body step : StmtCode) → ((k : Continuations) → Alike (m k) (q k)) → Good q body → Good n step
      → (k : Continuations) (i : ℕ) → Alike (turns_of m n k i) (turns_of q n k i)
  turns_alike m q n body step same g h k zero l w = refl
  turns_alike m q n body step same g h k (suc i) l w =
      let again = turns_alike m q n body step same g h k i in
      let steps =
      h.ignores (after_step k (turns_of m n k i)) (after_step k (turns_of q n k i))
      (record { next = λ no. again; on_break = λ so x y. refl; on_continue = again; on_return = λ x y. refl }) in
      same (after_body k (n (after_step k (turns_of m n k i)))) l w
      ∙ g.ignores (after_body k (n (after_step k (turns_of m n k i)))) (after_body k (n (after_step k (turns_of q n k i))))
      (record { next = λ no. steps; on_break = λ so x y. refl; on_continue = steps; on_return = λ x y. refl }) l w

  turns_ignore :
      (m n : Meaning) (body step : StmtCode) → Good m body → Good n step → (k j : Continuations) → SameBut (not (body.breaks || step.breaks)) false k j
      → (i : ℕ) → Alike (turns_of m n k i) (turns_of m n j i)
  turns_ignore m n body step g h k j same zero l w = refl
  turns_ignore m n body step g h k j same (suc i) l w =
      let again = turns_ignore m n body step g h k j same i in
      let steps =
      h.ignores (after_step k (turns_of m n k i)) (after_step j (turns_of m n j i))
      (record {
        next = λ no. again;
        on_break = λ so. same.next (not_from_true (body.breaks || step.breaks) (or_right body.breaks step.breaks so));
        on_continue = again;
        on_return = same.on_return;
      }) in
      g.ignores (after_body k (n (after_step k (turns_of m n k i)))) (after_body j (n (after_step j (turns_of m n j i))))
      (record {
        next = λ no. steps;
        on_break = λ so. same.next (not_from_true (body.breaks || step.breaks) (or_left body.breaks step.breaks so));
        on_continue = steps;
        on_return = same.on_return;
      }) l w

  if_part : (m : Meaning) (b : Bool) (p q : Part) → (b ≡ true → PartReal m p) → PartReal m q → PartReal m (if b then p else q)
  if_part m true p q h k = h refl
  if_part m false p q h k = k

  step_idle : (n : Meaning) (step : StmtCode) → Good n step → is_next step.way ≡ true → (k : Continuations) → Alike k.next (n k)
  step_idle n step g is = by_way_of step.way refl is
    where
      by_way_of : (o : Option Way) → step.way ≡ o → is_next o ≡ true → (k : Continuations) → Alike k.next (n k)
      by_way_of None same h = absurd (cc)
      by_way_of (Some to_next) same h = g.way to_next same
      by_way_of (Some to_break) same h = absurd (cc)
      by_way_of (Some to_continue) same h = absurd (cc)

  loop_part_real : (m n : Meaning) (body step : StmtCode) → Good m body → Good n step → (o : Option Tested) → TestedIs o m → OptionSized o → PartReal (looped m n) (loop_part first_free o body.part step)
  loop_part_real m n body step g h None t sized =
      if_part (looped m n) (is_next step.way) (body_alone body.part) (body_first body.part step.part)
      (λ is. flow.alone_real u f code function stack is_code c first depth calls_real m n body.part g.part (step_idle n step h is))
      (flow.first_real u f code function stack is_code c first depth calls_real m n body.part step.part g.part h.part g.sized.part)
  loop_part_real m n body step g h (Some d) t sized =
      if_part (looped m n) (d.is_idle && is_next step.way) (body_alone body.part) (test_last first_free d step.part)
      (λ is. flow.alone_real u f code function stack is_code c first depth calls_real m n body.part g.part (step_idle n step h (both_true d.is_idle (is_next step.way) is)))
      (flow.part_alike u f code function stack is_code c first depth calls_real _ (looped m n) (test_last first_free d step.part)
      (λ k. turns_alike (λ j. t.front_meaning (with_next j (chosen t.tree t.rest_meaning (λ i. i.on_break) j))) m n body step t.is g h k c.turns)
      (flow.last_real u f code function stack is_code c first depth calls_real t.tree t.front_meaning t.rest_meaning n d step.part t.front t.test t.rest h.part sized h.sized.part))
    where
      both_true : (a b : Bool) → (a && b) ≡ true → b ≡ true
      both_true true b h = h
      both_true false b h = absurd (cc)

  pub loop_good : (m n : Meaning) (body step : StmtCode) → Good m body → Good n step → Good (looped m n) (of_loop first_free body step)
  loop_good m n body step g h = record {
    sized = record { part = loop_sized first_free body.tested body.part step g.sized.tested g.sized.part h.sized; tested = tt };
    part = loop_part_real m n body step g h body.tested g.tested g.sized.tested;
    way = λ way is. absurd (cc);
    way_ends = λ way is. absurd (cc);
    ignores = λ k j same. turns_ignore m n body step g h k j same c.turns;
    tested = tt;
  }
