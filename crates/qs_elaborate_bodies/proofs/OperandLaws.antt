-- What it is that statements and a value give what the source gives; the two kinds of operands.
use Rattle.std.proofs.Common.{◌≡◌, ℕ, ◌+◌, ◌≤◌, Bool, true, false, List, [], ◌∷◌, ◌++◌, append-nil, Option, Some, None, is_some, refl, sym, ap, ◌∙◌, subst, arith, if◌then◌else◌}
use Rattle.std.proofs.Math.Path.{fun_ext}
use Rattle.qs_memory.specs.Partial.{◌>>=◌}
use Rattle.qs_memory.specs.Values.{Value}
use Rattle.qs_memory.specs.declared.scalar.Scalar.{Scalar}
use Rattle.qs_events.specs.Runs.{undefined, given}
use Rattle.qs_calls.specs.World.{World, Environment, with_value}
use Rattle.qs_core.specs.Trees.{CoreExprTree, temporary, CoreStmtTree}
use Rattle.qs_core.specs.Expressions.{Locals, value, type_of}
use Rattle.qs_core.specs.Statements.{Continuations, Context}
use Rattle.qs_meaning.specs.States.{Next, Here}
use Rattle.qs_elaborate_bodies.specs.Literals.{literal_value}
use Rattle.qs_elaborate_bodies.specs.Parts.{next_number, keep, Valued, in_temporary, saved, saved_if}
use Rattle.qs_elaborate_bodies.proofs.Options.{given_and, given_same}
use Rattle.qs_elaborate_bodies.proofs.Lists.{run_list, then_next, run-append, with-same, Kept, kept_same, kept_with, kept_then, next_is}
use Rattle.qs_elaborate_bodies.proofs.Values.{literal_is}

-- what variables and temporaries give, in a world
abbrev pub Worth : Type 0 → Type 0
Worth V = (variables temporaries : Environment) → World → Option V

-- what the source does, and then what follows its value
abbrev pub Source : Type 0 → Type 0
Source V = (V → Next) → Next

pub value_ext : {V : Type 0} → (f g : V → Next) → ((x : V) (v : Environment) (w : World) → f x v w ≡ g x v w) → f ≡ g
value_ext f g h = fun_ext (λ x. fun_ext (λ v. fun_ext (λ w. h x v w)))

-- one value after another
abbrev pub both_worth : {V U W : Type 0} → Worth V → Worth U → (V → U → Environment → World → Option W) → Worth W
both_worth a b f v t w = a v t w >>= λ x. b v t w >>= λ y. f x y v w

abbrev pub both_source : {V U W : Type 0} → Source V → Source U → (V → U → Environment → World → Option W) → Source W
both_source sa sb f k = sa (λ x. sb (λ y v w. given (f x y v w) (λ z. k z v w)))

abbrev pub map_worth : {V U : Type 0} → Worth V → (V → Environment → World → Option U) → Worth U
map_worth a f v t w = a v t w >>= λ x. f x v w

abbrev pub map_source : {V U : Type 0} → Source V → (V → Environment → World → Option U) → Source U
map_source sa f k = sa (λ x v w. given (f x v w) (λ y. k y v w))

module _ (h : Here) where
  abbrev pub locals : (variables temporaries : Environment) → Locals
  locals v t = record { first_block = h.first_block; variables = v; temporaries = t }

  abbrev pub context : Context
  context = record { turns = h.turns; calls = h.calls }

  abbrev pub worth : CoreExprTree → Worth Value
  worth a v t w = value a (locals v t) w.memory

  -- Statements that begin with m temporaries, a value that stands on the n temporaries there are then, and what they are in the source:
  -- where what follows is k at the value, the statements are the source with k.
  pub record Gives (V : Type 0) (m : ℕ) (ss : List CoreStmtTree) (n : ℕ) (a : Worth V) (source : Source V) : Type 0 where
    pub more : m ≤ n
    pub steady : (v t s : Environment) (w : World) → Kept n t s → a v s w ≡ a v t w
    pub gives : (k : V → Next) (kk : Continuations) (v t : Environment) (w : World) → ((v1 t1 : Environment) (w1 : World) → Kept m t t1 → kk.next (locals v1 t1) w1 ≡ given (a v1 t1 w1) (λ x. k x v1 w1)) → run_list ss context kk (locals v t) w ≡ source k v w

  -- the same where the value lasts, whatever follows
  pub record Lasts (V : Type 0) (m : ℕ) (ss : List CoreStmtTree) (n : ℕ) (a : Worth V) (source : Source V) : Type 0 where
    pub more : m ≤ n
    pub steady : (v t s : Environment) (w : World) → Kept n t s → a v s w ≡ a v t w
    pub gives : (k : V → Next) (kk : Continuations) (v t : Environment) (w : World) → ((x : V) (v1 t1 : Environment) (w1 : World) → Kept m t t1 → ((v2 t2 : Environment) (w2 : World) → Kept n t1 t2 → a v2 t2 w2 ≡ Some x) → kk.next (locals v1 t1) w1 ≡ k x v1 w1) → run_list ss context kk (locals v t) w ≡ source k v w

  -- statements without a value
  pub record Does (m : ℕ) (ss : List CoreStmtTree) (n : ℕ) (source : Next → Next) : Type 0 where
    pub more : m ≤ n
    pub gives : (k : Next) (kk : Continuations) (v t : Environment) (w : World) → ((v1 t1 : Environment) (w1 : World) → Kept m t t1 → kk.next (locals v1 t1) w1 ≡ k v1 w1) → run_list ss context kk (locals v t) w ≡ source k v w

  -- ---- one value

  -- no statements
  pub pure_gives : {V : Type 0} → (m : ℕ) (a : Worth V) (source : Source V) → ((v t s : Environment) (w : World) → Kept m t s → a v s w ≡ a v t w) → ((k : V → Next) (v t : Environment) (w : World) → given (a v t w) (λ x. k x v w) ≡ source k v w) → Gives V m [] m a source
  pure_gives m a source steady is = record { more = omega arith; steady = steady; gives = λ k kk v t w f. f v t w (kept_same m t) ∙ is k v t w }

  pub like_gives : {V : Type 0} → (m : ℕ) (ss : List CoreStmtTree) (n : ℕ) (a b : Worth V) (source other : Source V) → ((v t : Environment) (w : World) → b v t w ≡ a v t w) → ((k : V → Next) (v : Environment) (w : World) → source k v w ≡ other k v w) → Gives V m ss n a source → Gives V m ss n b other
  like_gives m ss n a b source other same is g = record {
    more = g.more;
    steady = λ v t s w k. same v s w ∙ g.steady v t s w k ∙ sym (same v t w);
    gives = λ k kk v t w f. g.gives k kk v t w (λ v1 t1 w1 kept. f v1 t1 w1 kept ∙ ap (λ o. given o (λ x. k x v1 w1)) (same v1 t1 w1)) ∙ is k v w;
  }

  pub map_gives : {V U : Type 0} → (m : ℕ) (ss : List CoreStmtTree) (n : ℕ) (a : Worth V) (source : Source V) → Gives V m ss n a source → (f : V → Environment → World → Option U) → Gives U m ss n (map_worth a f) (map_source source f)
  map_gives m ss n a source g f = record {
    more = g.more;
    steady = λ v t s w k. ap (λ o. o >>= λ x. f x v w) (g.steady v t s w k);
    gives = λ k kk v t w q. g.gives (λ x v w. given (f x v w) (λ y. k y v w)) kk v t w (λ v1 t1 w1 kept. q v1 t1 w1 kept ∙ given_and (a v1 t1 w1) (λ x. f x v1 w1) (λ y. k y v1 w1));
  }

  -- what a value without statements is
  pub pure_value : {V : Type 0} → (m : ℕ) (ss : List CoreStmtTree) (n : ℕ) (a : Worth V) (source : Source V) → Gives V m ss n a source → ss ≡ [] → (k : V → Next) (v t : Environment) (w : World) → given (a v t w) (λ x. k x v w) ≡ source k v w
  pure_value m ss n a source g none k v t w =
      let kk : Continuations = record {
        next = λ l w. given (a l.variables l.temporaries w) (λ x. k x l.variables w);
        on_break = λ l w. undefined;
        on_continue = λ l w. undefined;
        on_return = λ result w. undefined;
      } in
      ap (λ z. run_list z context kk (locals v t) w) (sym none) ∙ g.gives k kk v t w (λ v1 t1 w1 kept. refl)

  -- ---- a value in a temporary

  abbrev pub GivesValued : ℕ → Valued → Source Value → Type 0
  GivesValued m g source = Gives Value m g.statements (next_number g.temporaries) (worth g.value) source

  abbrev pub LastsValued : ℕ → Valued → Source Value → Type 0
  LastsValued m g source = Lasts Value m g.statements (next_number g.temporaries) (worth g.value) source

  pub keep_lasts : (m : ℕ) (ss : List CoreStmtTree) (n i : ℕ) (a : CoreExprTree) (s : Scalar) (source : Source Value) → i ≡ n + 1 → Gives Value m ss n (worth a) source → Lasts Value m (ss ++ keep n a ∷ []) i (worth (temporary s n)) source
  keep_lasts m ss n i a s source is g = record {
    more = let le = g.more in omega (arith, is);
    steady = λ v t r w k. k n (omega (arith, is));
    gives = λ k kk v t w q.
        run-append ss (keep n a ∷ []) context kk (locals v t) w
        ∙ g.gives k (then_next kk (run_list (keep n a ∷ []) context kk)) v t w (λ v1 t1 w1 kept.
        given_same (worth a v1 t1 w1) _ _ (λ x. q x v1 (with_value t1 n x) w1 (kept_with m t t1 n x g.more kept) (λ v2 t2 w2 k2. k2 n (omega (arith, is)) ∙ with-same t1 n x)));
  }

  -- a value that stays the same
  pub constant_lasts : {V : Type 0} → (m : ℕ) (ss : List CoreStmtTree) (n : ℕ) (a : Worth V) (x : V) (source : Source V) → ((v t : Environment) (w : World) → a v t w ≡ Some x) → Gives V m ss n a source → Lasts V m ss n a source
  constant_lasts m ss n a x source is g = record {
    more = g.more;
    steady = g.steady;
    gives = λ k kk v t w q. g.gives k kk v t w (λ v1 t1 w1 kept.
        q x v1 t1 w1 kept (λ v2 t2 w2 k2. is v2 t2 w2) ∙ ap (λ o. given o (λ x. k x v1 w1)) (sym (is v1 t1 w1)));
  }

  pub saved_lasts : (m : ℕ) (g : Valued) (source : Source Value) → GivesValued m g source → LastsValued m (saved g) source
  saved_lasts m g source a = by_literal (literal_value g.value) refl
    where
      by_literal : (o : Option Value) → literal_value g.value ≡ o → LastsValued m (saved g) source
      by_literal None e = subst (λ (o : Option Value). LastsValued m (if is_some o then g else in_temporary g) source) (sym e)
          (keep_lasts m g.statements (next_number g.temporaries) _ g.value (type_of g.value) source (next_is g.temporaries (type_of g.value)) a)
      by_literal (Some x) e = subst (λ (o : Option Value). LastsValued m (if is_some o then g else in_temporary g) source) (sym e)
          (constant_lasts m g.statements (next_number g.temporaries) (worth g.value) x source (λ v t w. literal_is g.value x e (locals v t) w.memory) a)

  -- ---- two values

  module _ (V U W : Type 0) (m : ℕ) (sa : List CoreStmtTree) (na : ℕ) (a : Worth V) (first : Source V) (sb : List CoreStmtTree) (nb : ℕ) (b : Worth U) (second : Source U) (good : Gives U na sb nb b second) (f : V → U → Environment → World → Option W) where
    both_steady : ((v t s : Environment) (w : World) → Kept na t s → a v s w ≡ a v t w) → (v t s : Environment) (w : World) → Kept nb t s → both_worth a b f v s w ≡ both_worth a b f v t w
    both_steady steady v t s w k =
        let le = good.more in
        ap (λ o. o >>= λ x. b v s w >>= λ y. f x y v w) (steady v t s w (λ y l. k y (omega arith)))
        ∙ ap (λ p. a v t w >>= λ x. p >>= λ y. f x y v w) (good.steady v t s w k)

    pub lasting_first : Lasts V m sa na a first → Gives W m (sa ++ sb) nb (both_worth a b f) (both_source first second f)
    lasting_first g = record {
      more = let le = g.more in let le' = good.more in omega arith;
      steady = both_steady g.steady;
      gives = λ k kk v t w q.
          run-append sa sb context kk (locals v t) w
          ∙ g.gives (λ x. second (λ y v w. given (f x y v w) (λ z. k z v w))) (then_next kk (run_list sb context kk)) v t w (λ x v1 t1 w1 kept is.
          good.gives (λ y v w. given (f x y v w) (λ z. k z v w)) kk v1 t1 w1 (λ v2 t2 w2 kept2.
          q v2 t2 w2 (kept_then m na t t1 t2 g.more kept kept2)
          ∙ ap (λ o. given (o >>= λ x. b v2 t2 w2 >>= λ y. f x y v2 w2) (λ z. k z v2 w2)) (is v2 t2 w2 kept2)
          ∙ given_and (b v2 t2 w2) (λ y. f x y v2 w2) (λ z. k z v2 w2)));
    }

    pub quiet_second : Gives V m sa na a first → sb ≡ [] → Gives W m (sa ++ sb) nb (both_worth a b f) (both_source first second f)
    quiet_second g none = record {
      more = let le = g.more in let le' = good.more in omega arith;
      steady = both_steady g.steady;
      gives = λ k kk v t w q.
          ap (λ z. run_list z context kk (locals v t) w) (ap (λ z. sa ++ z) none ∙ append-nil sa)
          ∙ g.gives (λ x. second (λ y v w. given (f x y v w) (λ z. k z v w))) kk v t w (λ v1 t1 w1 kept.
          q v1 t1 w1 kept
          ∙ given_and (a v1 t1 w1) (λ x. b v1 t1 w1 >>= λ y. f x y v1 w1) (λ z. k z v1 w1)
          ∙ given_same (a v1 t1 w1) _ _ (λ x.
          given_and (b v1 t1 w1) (λ y. f x y v1 w1) (λ z. k z v1 w1)
          ∙ pure_value na sb nb b second good none (λ y v w. given (f x y v w) (λ z. k z v w)) v1 t1 w1));
    }

  -- two operands: the first is saved where the second acts
  pub operands : {U W : Type 0} → (z : Bool) (m : ℕ) (g : Valued) (first : Source Value) → GivesValued m g first → (sb : List CoreStmtTree) (nb : ℕ) (b : Worth U) (second : Source U) → Gives U (next_number (saved_if z g).temporaries) sb nb b second → (z ≡ false → sb ≡ []) → (f : Value → U → Environment → World → Option W) → Gives W m ((saved_if z g).statements ++ sb) nb (both_worth (worth (saved_if z g).value) b f) (both_source first second f)
  operands true m g first a sb nb b second good none f =
      lasting_first Value _ _ m (saved g).statements (next_number (saved g).temporaries) (worth (saved g).value) first sb nb b second good f (saved_lasts m g first a)
  operands false m g first a sb nb b second good none f =
      quiet_second Value _ _ m g.statements (next_number g.temporaries) (worth g.value) first sb nb b second good f a (none refl)

  -- ---- effects

  pub does_then : {V : Type 0} → (m : ℕ) (sa : List CoreStmtTree) (na : ℕ) (first : Next → Next) → Does m sa na first → (sb : List CoreStmtTree) (nb : ℕ) (b : Worth V) (second : Source V) → Gives V na sb nb b second → Gives V m (sa ++ sb) nb b (λ k. first (second k))
  does_then m sa na first a sb nb b second g = record {
    more = let le = a.more in let le' = g.more in omega arith;
    steady = g.steady;
    gives = λ k kk v t w q.
        run-append sa sb context kk (locals v t) w
        ∙ a.gives (second k) (then_next kk (run_list sb context kk)) v t w (λ v1 t1 w1 kept. g.gives k kk v1 t1 w1 (λ v2 t2 w2 kept2. q v2 t2 w2 (kept_then m na t t1 t2 a.more kept kept2)));
  }

  pub does_both : (m : ℕ) (sa : List CoreStmtTree) (na : ℕ) (first : Next → Next) → Does m sa na first → (sb : List CoreStmtTree) (nb : ℕ) (second : Next → Next) → Does na sb nb second → Does m (sa ++ sb) nb (λ k. first (second k))
  does_both m sa na first a sb nb second b = record {
    more = let le = a.more in let le' = b.more in omega arith;
    gives = λ k kk v t w q.
        run-append sa sb context kk (locals v t) w
        ∙ a.gives (second k) (then_next kk (run_list sb context kk)) v t w (λ v1 t1 w1 kept. b.gives k kk v1 t1 w1 (λ v2 t2 w2 kept2. q v2 t2 w2 (kept_then m na t t1 t2 a.more kept kept2)));
  }

  -- a value, and then statements that take it
  pub gives_then : {V : Type 0} → (m : ℕ) (ss : List CoreStmtTree) (n : ℕ) (a : Worth V) (source : Source V) → Gives V m ss n a source → (rest : List CoreStmtTree) (after : Next → V → Next) → ((k : Next) (kk : Continuations) (t v1 t1 : Environment) (w1 : World) → Kept m t t1 → ((v2 t2 : Environment) (w2 : World) → Kept m t t2 → kk.next (locals v2 t2) w2 ≡ k v2 w2) → run_list rest context kk (locals v1 t1) w1 ≡ given (a v1 t1 w1) (λ x. after k x v1 w1)) → Does m (ss ++ rest) n (λ k. source (after k))
  gives_then m ss n a source g rest after is = record {
    more = g.more;
    gives = λ k kk v t w q.
        run-append ss rest context kk (locals v t) w
        ∙ g.gives (after k) (then_next kk (run_list rest context kk)) v t w (λ v1 t1 w1 kept. is k kk t v1 t1 w1 kept q);
  }
