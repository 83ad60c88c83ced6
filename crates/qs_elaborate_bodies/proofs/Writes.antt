-- Elaboration keeps runs: lvalues, assignments and steps.
use Rattle.std.proofs.Common.{◌≡◌, ℕ, ◌+◌, ◌≤◌, Bool, true, false, List, [], ◌∷◌, ◌++◌, Option, Some, None, is_some, refl, sym, ap, ◌∙◌, subst, arith, if◌then◌else◌}
use Rattle.std.proofs.Math.Path.{fun_ext}
use Rattle.qs_memory.specs.Partial.{◌>>=◌}
use Rattle.qs_memory.specs.Values.{Value, as_pointer}
use Rattle.qs_memory.specs.Memory.{store}
use Rattle.qs_memory.specs.declared.scalar.Scalar.{Scalar}
use Rattle.qs_memory.specs.declared.operation.BinaryOperation.{BinaryOperation}
use Rattle.qs_events.specs.Runs.{given}
use Rattle.qs_calls.specs.World.{World, with_memory, Environment, with_value}
use Rattle.qs_core.specs.Trees.{CoreExprTree, temporary, CoreStmtTree}
use Rattle.qs_core.specs.Expressions.{type_of}
use Rattle.qs_core.specs.Statements.{Continuations, runs}
use Rattle.qs_meaning.specs.Typed.{Conversion, unchanged}
use Rattle.qs_meaning.specs.States.{Next, Here, convert_by, conversion_then}
use Rattle.qs_meaning.specs.States.{Place, in_variable, in_object, read, write}
use Rattle.qs_meaning.specs.Meaning.{updated_value, step_amount}
use Rattle.qs_elaborate_bodies.specs.Literals.{literal_value, is_literal, converted_core}
use Rattle.qs_elaborate_bodies.specs.Parts.{Temporaries, next_number, keep, Valued, in_temporary, saved, saved_if, Location, plain, pointed, Located, at_address, with_saved_address, address_saved_if, value_at, value_read, written}
use Rattle.qs_elaborate_bodies.specs.Expressions.{updated_core, write_at, step_valued}
use Rattle.qs_elaborate_bodies.specs.Expressions as elaborated
use Rattle.qs_elaborate_bodies.proofs.Options.{given_and, given_same, and_assoc, and_same, given_twice, given_swap, given_pair, given_through, pair_twice, pair_shuffle}
use Rattle.qs_elaborate_bodies.proofs.Lists.{run_list, then_next, run-append, with-same, Kept, kept_same, kept_with, kept_then, next_is}
use Rattle.qs_elaborate_bodies.proofs.Values.{literal_is, converted_is, updated_is}
use Rattle.qs_elaborate_bodies.proofs.OperandLaws.{Worth, Source, value_ext, both_worth, both_source, locals, context, worth, Gives, Lasts, Does, like_gives, map_gives, GivesValued, constant_lasts, lasting_first, quiet_second, gives_then}

pub write_same : (s : Scalar) (p : Place) (y : Value) (k l : Next) → ((v : Environment) (w : World) → k v w ≡ l v w) → (v : Environment) (w : World) → write s p y k v w ≡ write s p y l v w
write_same s (in_variable x) y k l h v w = h (with_value v x y) w
write_same s (in_object a) y k l h v w = given_same (as_pointer a >>= λ p. store s w.memory p y) _ _ (λ m. h v (with_memory w m))

-- saving makes no temporary less
pub saved_more : (g : Valued) → next_number g.temporaries ≤ next_number (saved g).temporaries
saved_more g = by_literal (is_literal g.value)
  where
    by_literal : (z : Bool) → next_number g.temporaries ≤ next_number (if z then g else in_temporary g).temporaries
    by_literal true = omega arith
    by_literal false = let is = next_is g.temporaries (type_of g.value) in omega (arith, is)

module _ (h : Here) where
  -- ---- places

  abbrev pub place_worth : Location → Worth Place
  place_worth (plain x) v t w = Some (in_variable x)
  place_worth (pointed a) v t w = worth h a v t w >>= λ x. Some (in_object x)

  -- a place, and a value
  abbrev pub pair_worth : Location → CoreExprTree → Worth (Place × Value)
  pair_worth l a v t w = place_worth l v t w >>= λ p. worth h a v t w >>= λ x. Some (p, x)

  abbrev pub GivesLocated : ℕ → Located → Source Place → Type 0
  GivesLocated m l source = Gives h Place m l.statements (next_number l.temporaries) (place_worth l.location) source

  abbrev pub LastsLocated : ℕ → Located → Source Place → Type 0
  LastsLocated m l source = Lasts h Place m l.statements (next_number l.temporaries) (place_worth l.location) source

  pub address_gives : (m : ℕ) (g : Valued) (source : Source Value) → GivesValued h m g source → GivesLocated m (at_address g) (λ k. source (λ x. k (in_object x)))
  address_gives m g source a = map_gives h m g.statements (next_number g.temporaries) (worth h g.value) source a (λ x v w. Some (in_object x))

  -- the address lasts
  keep_address : (m : ℕ) (ss : List CoreStmtTree) (n i : ℕ) (a : CoreExprTree) (s : Scalar) (source : Source Place) → i ≡ n + 1 → Gives h Place m ss n (place_worth (pointed a)) source → Lasts h Place m (ss ++ keep n a ∷ []) i (place_worth (pointed (temporary s n))) source
  keep_address m ss n i a s source is g = record {
    more = let le = g.more in omega (arith, is);
    steady = λ v t r w k. ap (λ o. o >>= λ x. Some (in_object x)) (k n (omega (arith, is)));
    gives = λ k kk v t w q.
        run-append ss (keep n a ∷ []) (context h) kk (locals h v t) w
        ∙ g.gives k (then_next kk (run_list (keep n a ∷ []) (context h) kk)) v t w (λ v1 t1 w1 kept.
        given_same (worth h a v1 t1 w1) _ _ (λ x. q (in_object x) v1 (with_value t1 n x) w1 (kept_with m t t1 n x g.more kept)
        (λ v2 t2 w2 k2. ap (λ o. o >>= λ x. Some (in_object x)) (k2 n (omega (arith, is)) ∙ with-same t1 n x)))
        ∙ sym (given_and (worth h a v1 t1 w1) (λ x. Some (in_object x)) (λ p. k p v1 w1)));
  }

  pub address_lasts : (m : ℕ) (ss : List CoreStmtTree) (l : Location) (ts : Temporaries) (source : Source Place) → Gives h Place m ss (next_number ts) (place_worth l) source → LastsLocated m (with_saved_address ss l ts) source
  address_lasts m ss (plain x) ts source g = constant_lasts h m ss (next_number ts) (place_worth (plain x)) (in_variable x) source (λ v t w. refl) g
  address_lasts m ss (pointed a) ts source g = by_literal (literal_value a) refl
    where
      there : Valued
      there = record { statements = ss; value = a; temporaries = ts }

      by_literal : (o : Option Value) → literal_value a ≡ o → LastsLocated m (at_address (saved there)) source
      by_literal None e = subst (λ (o : Option Value). LastsLocated m (at_address (if is_some o then there else in_temporary there)) source) (sym e)
          (keep_address m ss (next_number ts) _ a (type_of a) source (next_is ts (type_of a)) g)
      by_literal (Some x) e = subst (λ (o : Option Value). LastsLocated m (at_address (if is_some o then there else in_temporary there)) source) (sym e)
          (constant_lasts h m ss (next_number ts) (place_worth (pointed a)) (in_object x) source (λ v t w. ap (λ o. o >>= λ x. Some (in_object x)) (literal_is a x e (locals h v t) w.memory)) g)

  -- ---- what stands at a place

  pub read_is : (s : Scalar) (l : Location) (v t : Environment) (w : World) → worth h (value_at s l) v t w ≡ (place_worth l v t w >>= λ p. read s p v w)
  read_is s (plain x) v t w = refl
  read_is s (pointed a) v t w = sym (and_assoc (worth h a v t w) (λ x. Some (in_object x)) (λ p. read s p v w))

  pub read_gives : (m : ℕ) (s : Scalar) (l : Located) (source : Source Place) → GivesLocated m l source → GivesValued h m (value_read s l) (λ k. source (λ p v w. given (read s p v w) (λ x. k x v w)))
  read_gives m s l source g =
      like_gives h m l.statements (next_number l.temporaries) _ (worth h (value_at s l.location)) _ _ (λ v t w. read_is s l.location v t w) (λ k v w. refl)
      (map_gives h m l.statements (next_number l.temporaries) (place_worth l.location) source g (λ p v w. read s p v w))

  -- ---- a write

  pub write_is : (s : Scalar) (l : Location) (b : CoreExprTree) (kk : Continuations) (v t : Environment) (w : World) → runs (written s l b) (context h) kk (locals h v t) w ≡ given (place_worth l v t w) (λ p. given (worth h b v t w) (λ y. write s p y (λ v w. kk.next (locals h v t) w) v w))
  write_is s (plain x) b kk v t w = refl
  write_is s (pointed a) b kk v t w =
      given_same (worth h a v t w) _ _ (λ x. given_through (as_pointer x) (worth h b v t w) (λ p y. store s w.memory p y) (λ m. kk.next (locals h v t) (with_memory w m)))
      ∙ sym (given_and (worth h a v t w) (λ x. Some (in_object x)) _)

  -- what is to be written at a place that doesn't move
  pub record Writes (m : ℕ) (ss : List CoreStmtTree) (n : ℕ) (l : Location) (a : CoreExprTree) (source : Source (Place × Value)) : Type 0 where
    pub good : Gives h (Place × Value) m ss n (pair_worth l a) source
    pub steady : (v t s : Environment) (w : World) → Kept n t s → place_worth l v s w ≡ place_worth l v t w

  -- the value that was written
  pub write_used : (m : ℕ) (s : Scalar) (ss : List CoreStmtTree) (l : Location) (a : CoreExprTree) (ts : Temporaries) (source : Source (Place × Value)) → Writes m ss (next_number ts) l a source → GivesValued h m (write_at s l ss a ts) (λ k. source (λ p. write s p.0 p.1 (k p.1)))
  write_used m s ss (plain x) a ts source g = record {
    more = g.good.more;
    steady = λ v t r w k. refl;
    gives = λ k kk v t w q.
        run-append ss (written s (plain x) a ∷ []) (context h) kk (locals h v t) w
        ∙ g.good.gives (λ p. write s p.0 p.1 (k p.1)) (then_next kk (run_list (written s (plain x) a ∷ []) (context h) kk)) v t w (λ v1 t1 w1 kept.
        given_same (worth h a v1 t1 w1) _ _ (λ y. q (with_value v1 x y) t1 w1 kept ∙ ap (λ o. given o (λ z. k z (with_value v1 x y) w1)) (with-same v1 x y))
        ∙ sym (given_and (worth h a v1 t1 w1) (λ y. Some (in_variable x, y)) (λ p. write s p.0 p.1 (k p.1) v1 w1)));
  }
  write_used m s ss (pointed b) a ts source g =
      let n = next_number ts in
      let is = next_is ts s in
      let rest : List CoreStmtTree = keep n a ∷ written s (pointed b) (temporary s n) ∷ [] in
      record {
        more = let le = g.good.more in omega (arith, is);
        steady = λ v t r w k. k n (omega (arith, is));
        gives = λ k kk v t w q.
            run-append ss rest (context h) kk (locals h v t) w
            ∙ g.good.gives (λ p. write s p.0 p.1 (k p.1)) (then_next kk (run_list rest (context h) kk)) v t w (λ v1 t1 w1 kept.
            given_same (worth h a v1 t1 w1) _ _ (λ y.
            write_is s (pointed b) (temporary s n) kk v1 (with_value t1 n y) w1
            ∙ ap (λ o. given o (λ p. given (with_value t1 n y n) (λ z. write s p z (λ v w. kk.next (locals h v (with_value t1 n y)) w) v1 w1)))
            (g.steady v1 t1 (with_value t1 n y) w1 (kept_with n t1 t1 n y (omega arith) (kept_same n t1)))
            ∙ given_same (place_worth (pointed b) v1 t1 w1) _ _ (λ p.
            ap (λ o. given o (λ z. write s p z (λ v w. kk.next (locals h v (with_value t1 n y)) w) v1 w1)) (with-same t1 n y)
            ∙ write_same s p y _ (k y) (λ v2 w2.
            q v2 (with_value t1 n y) w2 (kept_with m t t1 n y g.good.more kept)
            ∙ ap (λ o. given o (λ z. k z v2 w2)) (with-same t1 n y)) v1 w1))
            ∙ given_swap (place_worth (pointed b) v1 t1 w1) (worth h a v1 t1 w1) (λ p y. write s p y (k y) v1 w1));
      }

  pub write_done : (m : ℕ) (s : Scalar) (ss : List CoreStmtTree) (n : ℕ) (l : Location) (a : CoreExprTree) (source : Source (Place × Value)) → Writes m ss n l a source → Does h m (ss ++ written s l a ∷ []) n (λ k. source (λ p. write s p.0 p.1 k))
  write_done m s ss n l a source g =
      gives_then h m ss n (pair_worth l a) source g.good (written s l a ∷ []) (λ k p. write s p.0 p.1 k) (λ k kk t v1 t1 w1 kept q.
      write_is s l a kk v1 t1 w1
      ∙ given_same (place_worth l v1 t1 w1) _ _ (λ p. given_same (worth h a v1 t1 w1) _ _ (λ y. write_same s p y _ k (λ v2 w2. q v2 t1 w2 kept) v1 w1))
      ∙ given_pair (place_worth l v1 t1 w1) (worth h a v1 t1 w1) (λ p y. write s p y k v1 w1))

  -- ---- steps

  stepped_is : (s : Scalar) (operation : BinaryOperation) (left back : Conversion) (n : ℕ) (v t : Environment) (w : World) (x : Value) → t n ≡ Some x → worth h (updated_core operation left unchanged back (temporary s n) (elaborated.step_amount operation)) v t w ≡ updated_value operation left unchanged back w.memory x step_amount
  stepped_is s operation left back n v t w x is =
      updated_is operation left unchanged back (temporary s n) (elaborated.step_amount operation) (locals h v t) w.memory
      ∙ ap (λ o. o >>= λ x. updated_value operation left unchanged back w.memory x step_amount) is

  pub step_gives : (m : ℕ) (s : Scalar) (operation : BinaryOperation) (left back : Conversion) (l : Located) (source : Source Place) → GivesLocated m l source → GivesValued h m (step_valued s operation left back l) (λ k. source (λ p v w. given (read s p v w) (λ x. given (updated_value operation left unchanged back w.memory x step_amount) (λ y. write s p y (k x) v w))))
  step_gives m s operation left back l source g =
      let n = next_number l.temporaries in
      let is = next_is l.temporaries s in
      let b = updated_core operation left unchanged back (temporary s n) (elaborated.step_amount operation) in
      let rest : List CoreStmtTree = keep n (value_at s l.location) ∷ written s l.location b ∷ [] in
      record {
        more = let le = g.more in omega (arith, is);
        steady = λ v t r w k. k n (omega (arith, is));
        gives = λ k kk v t w q.
            run-append l.statements rest (context h) kk (locals h v t) w
            ∙ g.gives (λ p v w. given (read s p v w) (λ x. given (updated_value operation left unchanged back w.memory x step_amount) (λ y. write s p y (k x) v w))) (then_next kk (run_list rest (context h) kk)) v t w (λ v1 t1 w1 kept.
            given_same (worth h (value_at s l.location) v1 t1 w1) _ _ (λ x.
            write_is s l.location b kk v1 (with_value t1 n x) w1
            ∙ ap (λ o. given o (λ p. given (worth h b v1 (with_value t1 n x) w1) (λ y. write s p y (λ v w. kk.next (locals h v (with_value t1 n x)) w) v1 w1)))
            (g.steady v1 t1 (with_value t1 n x) w1 (kept_with n t1 t1 n x (omega arith) (kept_same n t1)))
            ∙ given_same (place_worth l.location v1 t1 w1) _ _ (λ p.
            ap (λ o. given o (λ y. write s p y (λ v w. kk.next (locals h v (with_value t1 n x)) w) v1 w1)) (stepped_is s operation left back n v1 (with_value t1 n x) w1 x (with-same t1 n x))
            ∙ given_same (updated_value operation left unchanged back w1.memory x step_amount) _ _ (λ y. write_same s p y _ (k x) (λ v2 w2.
            q v2 (with_value t1 n x) w2 (kept_with m t t1 n x g.more kept)
            ∙ ap (λ o. given o (λ z. k z v2 w2)) (with-same t1 n x)) v1 w1)))
            ∙ ap (λ o. given o (λ x. given (place_worth l.location v1 t1 w1) (λ p. given (updated_value operation left unchanged back w1.memory x step_amount) (λ y. write s p y (k x) v1 w1)))) (read_is s l.location v1 t1 w1)
            ∙ given_twice (place_worth l.location v1 t1 w1) (λ p. read s p v1 w1) (λ x p. given (updated_value operation left unchanged back w1.memory x step_amount) (λ y. write s p y (k x) v1 w1)));
      }

  -- ---- assignments

  -- an address before another operand
  address_steady : (z : Bool) (m : ℕ) (l : Located) (source : Source Place) → GivesLocated m l source → (v t s : Environment) (w : World) → Kept (next_number (address_saved_if z l).temporaries) t s → place_worth (address_saved_if z l).location v s w ≡ place_worth (address_saved_if z l).location v t w
  address_steady true m l source g = (address_lasts m l.statements l.location l.temporaries source g).steady
  address_steady false m l source g = g.steady

  address_operands : {U W : Type 0} → (z : Bool) (m : ℕ) (l : Located) (first : Source Place) → GivesLocated m l first → (sb : List CoreStmtTree) (nb : ℕ) (b : Worth U) (second : Source U) → Gives h U (next_number (address_saved_if z l).temporaries) sb nb b second → (z ≡ false → sb ≡ []) → (f : Place → U → Environment → World → Option W) → Gives h W m ((address_saved_if z l).statements ++ sb) nb (both_worth (place_worth (address_saved_if z l).location) b f) (both_source first second f)
  address_operands true m l first a sb nb b second good none f =
      lasting_first h Place _ _ m (address_saved_if true l).statements (next_number (address_saved_if true l).temporaries) (place_worth (address_saved_if true l).location) first sb nb b second good f (address_lasts m l.statements l.location l.temporaries first a)
  address_operands false m l first a sb nb b second good none f =
      quiet_second h Place _ _ m l.statements (next_number l.temporaries) (place_worth l.location) first sb nb b second good f a (none refl)

  pub set_writes : (z : Bool) (m : ℕ) (c : Conversion) (l : Located) (first : Source Place) → GivesLocated m l first → (b : Valued) (second : Source Value) → GivesValued h (next_number (address_saved_if z l).temporaries) b second → (z ≡ false → b.statements ≡ []) → Writes m ((address_saved_if z l).statements ++ b.statements) (next_number b.temporaries) (address_saved_if z l).location (converted_core c b.value) (λ k. first (λ p. second (λ x. conversion_then c x (λ y. k (p, y)))))
  set_writes z m c l first a b second gb none = record {
    good =
        like_gives h m _ (next_number b.temporaries) _ (pair_worth (address_saved_if z l).location (converted_core c b.value)) _ (λ k. first (λ p. second (λ x. conversion_then c x (λ y. k (p, y)))))
        (λ v t w. and_same (place_worth (address_saved_if z l).location v t w) _ _ (λ p.
        ap (λ o. o >>= λ y. Some (p, y)) (converted_is c b.value (locals h v t) w.memory) ∙ and_assoc (worth h b.value v t w) (convert_by c) (λ y. Some (p, y))))
        (λ k v w. ap (λ (next : Place → Next). first next v w) (fun_ext (λ p. ap (λ (next : Value → Next). second next) (value_ext _ _ (λ x v w. given_and (convert_by c x) (λ y. Some (p, y)) (λ q. k q v w))))))
        (address_operands z m l first a b.statements (next_number b.temporaries) (worth h b.value) second gb none (λ p x v w. convert_by c x >>= λ y. Some (p, y)));
    steady = λ v t s w k. let le = gb.more in address_steady z m l first a v t s w (λ y lt. k y (omega arith));
  }

  -- an address, and what stands there
  abbrev pub there_source : Scalar → Source Place → Source (Place × Value)
  there_source s first k = first (λ p v w. given (read s p v w) (λ x. k (p, x) v w))

  there_lasts : (m : ℕ) (s t : Scalar) (ss : List CoreStmtTree) (n i : ℕ) (l : Location) (first : Source Place) → i ≡ n + 1 → Lasts h Place m ss n (place_worth l) first → Lasts h (Place × Value) m (ss ++ keep n (value_at s l) ∷ []) i (pair_worth l (temporary t n)) (there_source s first)
  there_lasts m s u ss n i l first is a =
      let rest : List CoreStmtTree = keep n (value_at s l) ∷ [] in
      record {
        more = let le = a.more in omega (arith, is);
        steady = λ v t r w k.
            ap (λ o. o >>= λ p. r n >>= λ x. Some (p, x)) (a.steady v t r w (λ y lt. k y (omega (arith, is))))
            ∙ ap (λ o. place_worth l v t w >>= λ p. o >>= λ x. Some (p, x)) (k n (omega (arith, is)));
        gives = λ k kk v t w q.
            run-append ss rest (context h) kk (locals h v t) w
            ∙ a.gives (λ p v w. given (read s p v w) (λ x. k (p, x) v w)) (then_next kk (run_list rest (context h) kk)) v t w (λ p v1 t1 w1 kept same.
            ap (λ o. given o (λ x. kk.next (locals h v1 (with_value t1 n x)) w1)) (read_is s l v1 t1 w1 ∙ ap (λ o. o >>= λ p. read s p v1 w1) (same v1 t1 w1 (kept_same n t1)))
            ∙ given_same (read s p v1 w1) _ _ (λ x.
            q (p, x) v1 (with_value t1 n x) w1 (kept_with m t t1 n x a.more kept) (λ v2 t2 w2 k2.
            ap (λ o. o >>= λ p. t2 n >>= λ x. Some (p, x)) (same v2 t2 w2 (kept_then n i t1 (with_value t1 n x) t2 (omega (arith, is)) (kept_with n t1 t1 n x (omega arith) (kept_same n t1)) k2))
            ∙ ap (λ o. o >>= λ x. Some (p, x)) (k2 n (omega (arith, is)) ∙ with-same t1 n x))));
      }

  old_lasts : (m : ℕ) (s : Scalar) (ss : List CoreStmtTree) (l : Location) (ts : Temporaries) (first : Source Place) → Gives h Place m ss (next_number ts) (place_worth l) first → let at = with_saved_address ss l ts in let old = saved (value_read s at) in Lasts h (Place × Value) m old.statements (next_number old.temporaries) (pair_worth at.location old.value) (there_source s first)
  old_lasts m s ss (plain x) ts first g =
      there_lasts m s s ss (next_number ts) _ (plain x) first (next_is ts s) (address_lasts m ss (plain x) ts first g)
  old_lasts m s ss (pointed a) ts first g =
      let at = saved (record { statements = ss; value = a; temporaries = ts }) in
      there_lasts m s s at.statements (next_number at.temporaries) _ (pointed at.value) first (next_is at.temporaries s) (address_lasts m ss (pointed a) ts first g)

  there_gives : (m : ℕ) (s : Scalar) (l : Located) (first : Source Place) → GivesLocated m l first → Gives h (Place × Value) m l.statements (next_number l.temporaries) (pair_worth l.location (value_at s l.location)) (there_source s first)
  there_gives m s l first g =
      like_gives h m l.statements (next_number l.temporaries) _ (pair_worth l.location (value_at s l.location)) _ (there_source s first)
      (λ v t w. and_same (place_worth l.location v t w) _ _ (λ p. ap (λ o. o >>= λ x. Some (p, x)) (read_is s l.location v t w)) ∙ pair_twice (place_worth l.location v t w) (λ p. read s p v w))
      (λ k v w. ap (λ (next : Place → Next). first next v w) (value_ext _ _ (λ p v w. given_and (read s p v w) (λ x. Some (p, x)) (λ q. k q v w))))
      (map_gives h m l.statements (next_number l.temporaries) (place_worth l.location) first g (λ p v w. read s p v w >>= λ x. Some (p, x)))

  -- both forms of it, and another operand
  abbrev update_pair : BinaryOperation → (left right back : Conversion) → Place × Value → Value → Environment → World → Option (Place × Value)
  update_pair operation left right back p y v w = updated_value operation left right back w.memory p.1 y >>= λ z. Some (p.0, z)

  abbrev pub update_source : Scalar → BinaryOperation → (left right back : Conversion) → Source Place → Source Value → Source (Place × Value)
  update_source s operation left right back first second k =
      first (λ p v w. given (read s p v w) (λ x. second (λ y v w. given (updated_value operation left right back w.memory x y) (λ z. k (p, z) v w)) v w))

  update_like : (m : ℕ) (s : Scalar) (operation : BinaryOperation) (left right back : Conversion) (l : Location) (old : CoreExprTree) (first : Source Place) (ss : List CoreStmtTree) (b : Valued) (second : Source Value) → Gives h (Place × Value) m (ss ++ b.statements) (next_number b.temporaries) (both_worth (pair_worth l old) (worth h b.value) (update_pair operation left right back)) (both_source (there_source s first) second (update_pair operation left right back)) → Gives h (Place × Value) m (ss ++ b.statements) (next_number b.temporaries) (pair_worth l (updated_core operation left right back old b.value)) (update_source s operation left right back first second)
  update_like m s operation left right back l old first ss b second g =
      like_gives h m _ (next_number b.temporaries) _ (pair_worth l (updated_core operation left right back old b.value)) _ (update_source s operation left right back first second)
      (λ v t w.
      and_same (place_worth l v t w) _ _ (λ p. ap (λ o. o >>= λ z. Some (p, z)) (updated_is operation left right back old b.value (locals h v t) w.memory))
      ∙ pair_shuffle (place_worth l v t w) (worth h old v t w) (worth h b.value v t w) (λ x y. updated_value operation left right back w.memory x y))
      (λ k v w. ap (λ (next : Place → Next). first next v w) (value_ext _ _ (λ p v w. given_same (read s p v w) _ _ (λ x. ap (λ (next : Value → Next). second next v w) (value_ext _ _ (λ y v w. given_and (updated_value operation left right back w.memory x y) (λ z. Some (p, z)) (λ q. k q v w)))))))
      g

  pub update_writes : (z : Bool) (m : ℕ) (s : Scalar) (operation : BinaryOperation) (left right back : Conversion) (l : Located) (first : Source Place) → GivesLocated m l first → (b : Valued) (second : Source Value) → GivesValued h (next_number (saved_if z (value_read s (address_saved_if z l))).temporaries) b second → (z ≡ false → b.statements ≡ []) → let old = saved_if z (value_read s (address_saved_if z l)) in Writes m (old.statements ++ b.statements) (next_number b.temporaries) (address_saved_if z l).location (updated_core operation left right back old.value b.value) (update_source s operation left right back first second)
  update_writes false m s operation left right back l first a b second gb none = record {
    good = update_like m s operation left right back l.location (value_at s l.location) first l.statements b second
        (quiet_second h (Place × Value) Value (Place × Value) m l.statements (next_number l.temporaries) (pair_worth l.location (value_at s l.location)) (there_source s first) b.statements (next_number b.temporaries) (worth h b.value) second gb (update_pair operation left right back) (there_gives m s l first a) (none refl));
    steady = λ v t r w k. let le = gb.more in a.steady v t r w (λ y lt. k y (omega arith));
  }
  update_writes true m s operation left right back l first a b second gb none =
      let at = address_saved_if true l in
      let old = saved (value_read s at) in
      record {
        good = update_like m s operation left right back at.location old.value first old.statements b second
            (lasting_first h (Place × Value) Value (Place × Value) m old.statements (next_number old.temporaries) (pair_worth at.location old.value) (there_source s first) b.statements (next_number b.temporaries) (worth h b.value) second gb (update_pair operation left right back) (old_lasts m s l.statements l.location l.temporaries first a));
        steady = λ v t r w k.
            let le = gb.more in
            let le' = saved_more (value_read s at) in
            address_steady true m l first a v t r w (λ y lt. k y (omega arith));
      }
