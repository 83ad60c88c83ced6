-- Elaboration keeps runs: `&&`, `||` and `?:`, with and without statements behind the first operand.
use Rattle.std.proofs.Common.{◌≡◌, ℕ, ◌<◌, ◌≤◌, Bool, true, false, List, [], ◌∷◌, ◌++◌, append-nil, Some, refl, ap, ◌∙◌, arith, if◌then◌else◌}
use Rattle.qs_memory.specs.Partial.{◌>>=◌}
use Rattle.qs_memory.specs.Values.{Value, integer}
use Rattle.qs_memory.specs.Memory.{Memory}
use Rattle.qs_memory.specs.Pointers.{truth}
use Rattle.qs_memory.specs.Operations.{of_truth, apply_unary}
use Rattle.qs_memory.specs.declared.scalar.Scalar.{Scalar}
use Rattle.qs_memory.specs.declared.scalar.Scalar.TheVariants as scalars
use Rattle.qs_memory.specs.declared.operation.UnaryOperation.TheVariants.{Truth}
use Rattle.qs_events.specs.Runs.{given}
use Rattle.qs_calls.specs.World.{World, RootRun, Environment, with_value}
use Rattle.qs_core.specs.Trees.{CoreExprTree, temporary, CoreStmtTree}
use Rattle.qs_core.specs.Trees as core
use Rattle.qs_core.specs.Statements.{Continuations, runs}
use Rattle.qs_meaning.specs.Typed.{Conversion}
use Rattle.qs_meaning.specs.States.{Next, Here, choose, test, convert_by, conversion_then}
use Rattle.qs_elaborate_bodies.specs.Literals.{converted_core}
use Rattle.qs_elaborate_bodies.specs.Parts.{next_number, with_temporary, keep, Valued, joined}
use Rattle.qs_elaborate_bodies.specs.Expressions.{branch_with, truth_core, truth_literal, and_branching, or_branching, choice_branching, choice_joined}
use Rattle.qs_elaborate_bodies.proofs.Options.{given_and, given_same, and_same, if_same, given_if}
use Rattle.qs_elaborate_bodies.proofs.Lists.{run_list, then_next, run-append, run_one, with-same, Kept, kept_with, kept_then, next_is}
use Rattle.qs_elaborate_bodies.proofs.Values.{converted_is}
use Rattle.qs_elaborate_bodies.proofs.OperandLaws.{Worth, Source, value_ext, locals, context, worth, Gives, pure_gives, like_gives, map_gives, pure_value, GivesValued}

-- ---- choices

pub chosen : (b : Bool) (x y : RootRun) (met unmet : Next) (v : Environment) (w : World) → x ≡ met v w → y ≡ unmet v w → (if b then x else y) ≡ choose b met unmet v w
chosen true x y met unmet v w h k = h
chosen false x y met unmet v w h k = k

pub truth_chosen : (m : Memory) (y : Value) (go : Value → Next) (v : Environment) (w : World) → given (truth m y >>= λ b. Some (of_truth b)) (λ z. go z v w) ≡ given (truth m y) (λ b. choose b (go (integer 1)) (go (integer 0)) v w)
truth_chosen m y go v w = given_and (truth m y) (λ b. Some (of_truth b)) (λ z. go z v w) ∙ given_same (truth m y) _ _ sides
  where
    sides : (b : Bool) → go (of_truth b) v w ≡ choose b (go (integer 1)) (go (integer 0)) v w
    sides true = refl
    sides false = refl

module _ (h : Here) where
  -- ---- conversions and truth

  pub converted_gives : (m : ℕ) (c : Conversion) (g : Valued) (source : Source Value) → GivesValued h m g source → Gives h Value m g.statements (next_number g.temporaries) (worth h (converted_core c g.value)) (λ k. source (λ x. conversion_then c x k))
  converted_gives m c g source a =
      like_gives h m g.statements (next_number g.temporaries) _ (worth h (converted_core c g.value)) _ (λ k. source (λ x. conversion_then c x k))
      (λ v t w. converted_is c g.value (locals h v t) w.memory) (λ k v w. refl)
      (map_gives h m g.statements (next_number g.temporaries) (worth h g.value) source a (λ x v w. convert_by c x))

  -- 1 or 0
  abbrev pub truth_source : Source Value → Source Value
  truth_source source k = source (λ y. test y (k (integer 1)) (k (integer 0)))

  pub truth_gives : (m : ℕ) (g : Valued) (source : Source Value) → GivesValued h m g source → Gives h Value m g.statements (next_number g.temporaries) (worth h (truth_core g.value)) (truth_source source)
  truth_gives m g source a =
      like_gives h m g.statements (next_number g.temporaries) _ (worth h (truth_core g.value)) _ (truth_source source)
      (λ v t w. refl)
      (λ k v w. ap (λ (z : Value → Next). source z v w) (value_ext _ _ (λ y v w. truth_chosen w.memory y k v w)))
      (map_gives h m g.statements (next_number g.temporaries) (worth h g.value) source a (λ y v w. apply_unary Truth w.memory y))

  -- ---- branches that give the temporary i

  abbrev pub BranchRuns : (m i : ℕ) → CoreStmtTree → Source Value → Type 0
  BranchRuns m i p source =
      (k : Value → Next) (kk : Continuations) (t : Environment) → ((v1 t1 : Environment) (w1 : World) → Kept m t t1 → kk.next (locals h v1 t1) w1 ≡ given (t1 i) (λ x. k x v1 w1))
      → (v1 t1 : Environment) (w1 : World) → Kept m t t1 → runs p (context h) kk (locals h v1 t1) w1 ≡ source k v1 w1

  pub branch_runs : (m n i : ℕ) (ss : List CoreStmtTree) (n' : ℕ) (a : CoreExprTree) (source : Source Value) → m ≤ n → m ≤ i → Gives h Value n ss n' (worth h a) source → BranchRuns m i (branch_with ss i a) source
  branch_runs m n i ss n' a source le le' g k kk t q v1 t1 w1 kept =
      run_one (ss ++ keep i a ∷ []) (context h) kk (locals h v1 t1) w1
      ∙ run-append ss (keep i a ∷ []) (context h) kk (locals h v1 t1) w1
      ∙ g.gives k (then_next kk (run_list (keep i a ∷ []) (context h) kk)) v1 t1 w1 (λ v2 t2 w2 kept2.
      given_same (worth h a v2 t2 w2) _ _ (λ x.
      q v2 (with_value t2 i x) w2 (kept_with m t t2 i x le' (kept_then m n t t1 t2 le kept kept2))
      ∙ ap (λ o. given o (λ x. k x v2 w2)) (with-same t2 i x)))

  pub literal_runs : (m i n : ℕ) → m ≤ i → BranchRuns m i (branch_with [] i (truth_literal n)) (λ k. k (integer n))
  literal_runs m i n le =
      branch_runs m m i [] m (truth_literal n) (λ k. k (integer n)) (omega arith) le
      (pure_gives h m (worth h (truth_literal n)) (λ k. k (integer n)) (λ v t s w k. refl) (λ k v t w. refl))

  pub branching_gives : (s : Scalar) (m : ℕ) (g : Valued) (source : Source Value) → GivesValued h m g source → (p q : CoreStmtTree) (met unmet : Source Value) (i n : ℕ) → m ≤ i → i < n → BranchRuns m i p met → BranchRuns m i q unmet → Gives h Value m (g.statements ++ core.branch g.value p q ∷ []) n (worth h (temporary s i)) (λ k. source (λ x. test x (met k) (unmet k)))
  branching_gives s m g source a p q met unmet i n le lt bp bq = record {
    more = omega arith;
    steady = λ v t r w k. k i lt;
    gives = λ k kk v t w f.
        run-append g.statements (core.branch g.value p q ∷ []) (context h) kk (locals h v t) w
        ∙ a.gives (λ x. test x (met k) (unmet k)) (then_next kk (run_list (core.branch g.value p q ∷ []) (context h) kk)) v t w (λ v1 t1 w1 kept.
        given_same (worth h g.value v1 t1 w1) _ _ (λ x. given_same (truth w1.memory x) _ _ (λ b.
        chosen b _ _ (met k) (unmet k) v1 w1 (bp k kk t f v1 t1 w1 kept) (bq k kk t f v1 t1 w1 kept))));
  }

  -- ---- no statements behind the first operand

  abbrev pub branch_worth : CoreExprTree → (met unmet : Worth Value) → Worth Value
  branch_worth a met unmet v t w = worth h a v t w >>= λ x. truth w.memory x >>= λ yes. if yes then met v t w else unmet v t w

  abbrev pub Steady : ℕ → Worth Value → Type 0
  Steady n a = (v t s : Environment) (w : World) → Kept n t s → a v s w ≡ a v t w

  abbrev pub IsPure : Worth Value → Source Value → Type 0
  IsPure a source = (k : Value → Next) (v t : Environment) (w : World) → given (a v t w) (λ x. k x v w) ≡ source k v w

  pub quiet_branches : (m : ℕ) (g : Valued) (source : Source Value) → GivesValued h m g source → (rest : List CoreStmtTree) (n : ℕ) → rest ≡ [] → next_number g.temporaries ≤ n → (a b : Worth Value) (met unmet : Source Value) → Steady n a → Steady n b → IsPure a met → IsPure b unmet → Gives h Value m (g.statements ++ rest) n (branch_worth g.value a b) (λ k. source (λ x. test x (met k) (unmet k)))
  quiet_branches m g source good rest n none le a b met unmet sa sb pa pb = record {
    more = let le' = good.more in omega arith;
    steady = λ v t s w k.
        ap (λ o. o >>= λ x. truth w.memory x >>= λ yes. if yes then a v s w else b v s w) (good.steady v t s w (λ y l. k y (omega arith)))
        ∙ and_same (worth h g.value v t w) _ _ (λ x. and_same (truth w.memory x) _ _ (λ yes. if_same yes _ _ _ _ (sa v t s w k) (sb v t s w k)));
    gives = λ k kk v t w f.
        ap (λ z. run_list z (context h) kk (locals h v t) w) (ap (λ z. g.statements ++ z) none ∙ append-nil g.statements)
        ∙ good.gives (λ x. test x (met k) (unmet k)) kk v t w (λ v1 t1 w1 kept.
        f v1 t1 w1 kept
        ∙ given_and (worth h g.value v1 t1 w1) _ (λ x. k x v1 w1)
        ∙ given_same (worth h g.value v1 t1 w1) _ _ (λ x.
        given_and (truth w1.memory x) _ (λ x. k x v1 w1)
        ∙ given_same (truth w1.memory x) _ _ (λ yes. given_if yes (a v1 t1 w1) (b v1 t1 w1) (λ x. k x v1 w1) ∙ chosen yes _ _ (met k) (unmet k) v1 w1 (pa k v1 t1 w1) (pb k v1 t1 w1))));
  }

  no_lists : (a b : List CoreStmtTree) → a ≡ [] → b ≡ [] → (a ++ b) ≡ []
  no_lists a b e f = ap (λ l. l ++ b) e ∙ f

  -- ---- the three operators

  pub and_gives : (z : Bool) (m : ℕ) (g : Valued) (first : Source Value) → GivesValued h m g first → (b : Valued) (second : Source Value) → GivesValued h (next_number g.temporaries) b second → (z ≡ false → b.statements ≡ []) → GivesValued h m (if z then and_branching g b else joined core.logical_and g b) (λ k. first (λ x. test x (truth_source second k) (k (integer 0))))
  and_gives true m g first a b second gb none =
      let le = a.more in
      let le' = gb.more in
      let is = next_is b.temporaries scalars.Int in
      branching_gives scalars.Int m g first a _ _ (truth_source second) (λ k. k (integer 0)) (next_number b.temporaries) _ (omega arith) (omega (arith, is))
      (branch_runs m (next_number g.temporaries) (next_number b.temporaries) b.statements (next_number b.temporaries) (truth_core b.value) (truth_source second) le (omega arith) (truth_gives (next_number g.temporaries) b second gb))
      (literal_runs m (next_number b.temporaries) 0 (omega arith))
  and_gives false m g first a b second gb none =
      let t = truth_gives (next_number g.temporaries) b second gb in
      quiet_branches m g first a b.statements (next_number b.temporaries) (none refl) gb.more (worth h (truth_core b.value)) (λ v t w. Some (of_truth false)) (truth_source second) (λ k. k (integer 0))
      t.steady (λ v t s w k. refl) (pure_value h (next_number g.temporaries) b.statements (next_number b.temporaries) (worth h (truth_core b.value)) (truth_source second) t (none refl)) (λ k v t w. refl)

  pub or_gives : (z : Bool) (m : ℕ) (g : Valued) (first : Source Value) → GivesValued h m g first → (b b' : Valued) (second : Source Value) → GivesValued h (next_number (with_temporary g.temporaries scalars.Int)) b second → GivesValued h (next_number g.temporaries) b' second → (z ≡ false → b'.statements ≡ []) → GivesValued h m (if z then or_branching g b else joined core.logical_or g b') (λ k. first (λ x. test x (k (integer 1)) (truth_source second k)))
  or_gives true m g first a b b' second gb gb' none =
      let le = a.more in
      let le' = gb.more in
      let is = next_is g.temporaries scalars.Int in
      branching_gives scalars.Int m g first a _ _ (λ k. k (integer 1)) (truth_source second) (next_number g.temporaries) _ (omega arith) (omega (arith, is))
      (literal_runs m (next_number g.temporaries) 1 (omega arith))
      (branch_runs m (next_number (with_temporary g.temporaries scalars.Int)) (next_number g.temporaries) b.statements (next_number b.temporaries) (truth_core b.value) (truth_source second) (omega (arith, is)) (omega arith) (truth_gives (next_number (with_temporary g.temporaries scalars.Int)) b second gb))
  or_gives false m g first a b b' second gb gb' none =
      let t = truth_gives (next_number g.temporaries) b' second gb' in
      quiet_branches m g first a b'.statements (next_number b'.temporaries) (none refl) gb'.more (λ v t w. Some (of_truth true)) (worth h (truth_core b'.value)) (λ k. k (integer 1)) (truth_source second)
      (λ v t s w k. refl) t.steady (λ k v t w. refl) (pure_value h (next_number g.temporaries) b'.statements (next_number b'.temporaries) (worth h (truth_core b'.value)) (truth_source second) t (none refl))

  pub choice_gives : (s : Scalar) (z : Bool) (m : ℕ) (second third : Conversion) (g : Valued) (first : Source Value) → GivesValued h m g first → (a : Valued) (met : Source Value) → GivesValued h (next_number g.temporaries) a met → (b b' : Valued) (unmet : Source Value) → GivesValued h (next_number (with_temporary a.temporaries s)) b unmet → GivesValued h (next_number a.temporaries) b' unmet → (z ≡ false → a.statements ≡ []) → (z ≡ false → b'.statements ≡ []) → GivesValued h m (if z then choice_branching s second third g a b else choice_joined second third g a b') (λ k. first (λ x. test x (met (λ y. conversion_then second y k)) (unmet (λ y. conversion_then third y k))))
  choice_gives s true m second third g first gg a met ga b b' unmet gb gb' none none' =
      let le = gg.more in
      let le' = ga.more in
      let le'' = gb.more in
      let is = next_is a.temporaries s in
      branching_gives s m g first gg _ _ (λ k. met (λ y. conversion_then second y k)) (λ k. unmet (λ y. conversion_then third y k)) (next_number a.temporaries) _ (omega arith) (omega (arith, is))
      (branch_runs m (next_number g.temporaries) (next_number a.temporaries) a.statements (next_number a.temporaries) (converted_core second a.value) (λ k. met (λ y. conversion_then second y k)) le (omega arith) (converted_gives (next_number g.temporaries) second a met ga))
      (branch_runs m (next_number (with_temporary a.temporaries s)) (next_number a.temporaries) b.statements (next_number b.temporaries) (converted_core third b.value) (λ k. unmet (λ y. conversion_then third y k)) (omega (arith, is)) (omega arith) (converted_gives (next_number (with_temporary a.temporaries s)) third b unmet gb))
  choice_gives s false m second third g first gg a met ga b b' unmet gb gb' none none' =
      let le = ga.more in
      let le' = gb'.more in
      let p = converted_gives (next_number g.temporaries) second a met ga in
      let q = converted_gives (next_number a.temporaries) third b' unmet gb' in
      quiet_branches m g first gg (a.statements ++ b'.statements) (next_number b'.temporaries) (no_lists _ _ (none refl) (none' refl)) (omega arith) (worth h (converted_core second a.value)) (worth h (converted_core third b'.value)) (λ k. met (λ y. conversion_then second y k)) (λ k. unmet (λ y. conversion_then third y k))
      (λ v t s w k. p.steady v t s w (λ y l. k y (omega arith))) q.steady
      (pure_value h (next_number g.temporaries) a.statements (next_number a.temporaries) (worth h (converted_core second a.value)) (λ k. met (λ y. conversion_then second y k)) p (none refl))
      (pure_value h (next_number a.temporaries) b'.statements (next_number b'.temporaries) (worth h (converted_core third b'.value)) (λ k. unmet (λ y. conversion_then third y k)) q (none' refl))
