-- Steps that may be undefined.
use Rattle.std.proofs.Common.{◌≡◌, Bool, true, false, Option, Some, None, refl, sym, if◌then◌else◌}
use Rattle.qs_memory.specs.Partial.{◌>>=◌}
use Rattle.qs_memory.specs.Values.{Pointer, Value, as_pointer}
use Rattle.qs_events.specs.Runs.{given}
use Rattle.qs_calls.specs.World.{RootRun}

pub given_and : {A B : Type 0} → (o : Option A) (f : A → Option B) (k : B → RootRun) → given (o >>= f) k ≡ given o (λ x. given (f x) k)
given_and None f k = refl
given_and (Some x) f k = refl

pub given_same : {A : Type 0} → (o : Option A) (f g : A → RootRun) → ((x : A) → f x ≡ g x) → given o f ≡ given o g
given_same None f g h = refl
given_same (Some x) f g h = h x

pub and_some : {A : Type 0} → (o : Option A) → (o >>= λ x. Some x) ≡ o
and_some None = refl
and_some (Some x) = refl

pub and_assoc : {A B C : Type 0} → (o : Option A) (f : A → Option B) (g : B → Option C) → ((o >>= f) >>= g) ≡ (o >>= λ x. f x >>= g)
and_assoc None f g = refl
and_assoc (Some x) f g = refl

pub and_same : {A B : Type 0} → (o : Option A) (f g : A → Option B) → ((x : A) → f x ≡ g x) → (o >>= f) ≡ (o >>= g)
and_same None f g h = refl
and_same (Some x) f g h = h x

-- two steps in the other order
pub and_swap : {A B C : Type 0} → (o : Option A) (p : Option B) (f : A → B → Option C) → (o >>= λ x. p >>= λ y. f x y) ≡ (p >>= λ y. o >>= λ x. f x y)
and_swap None None f = refl
and_swap None (Some y) f = refl
and_swap (Some x) None f = refl
and_swap (Some x) (Some y) f = refl

-- a step and another that goes on from it, and the first once more
pub given_twice : {A B : Type 0} → (o : Option A) (f : A → Option B) (g : B → A → RootRun) → given (o >>= f) (λ y. given o (λ x. g y x)) ≡ given o (λ x. given (f x) (λ y. g y x))
given_twice None f g = refl
given_twice (Some x) f g = refl

-- with a value before it
abbrev pub paired : {A B : Type 0} → A → Option B → Option (A × B)
paired a o = o >>= λ x. Some (a, x)

pub given_swap : {A B : Type 0} → (o : Option A) (p : Option B) (g : A → B → RootRun) → given p (λ y. given o (λ x. g x y)) ≡ given {A = A × B} (o >>= λ x. paired x p) (λ z. g z.0 z.1)
given_swap None None g = refl
given_swap None (Some y) g = refl
given_swap (Some x) None g = refl
given_swap (Some x) (Some y) g = refl

pub given_pair : {A B : Type 0} → (o : Option A) (p : Option B) (g : A → B → RootRun) → given o (λ x. given p (λ y. g x y)) ≡ given {A = A × B} (o >>= λ x. paired x p) (λ z. g z.0 z.1)
given_pair None p g = refl
given_pair (Some x) None g = refl
given_pair (Some x) (Some y) g = refl

pub if_same : {A : Type 0} → (b : Bool) (x y x' y' : A) → x ≡ x' → y ≡ y' → (if b then x else y) ≡ (if b then x' else y')
if_same true x y x' y' h k = h
if_same false x y x' y' h k = k

pub given_if : {A : Type 0} → (b : Bool) (o p : Option A) (k : A → RootRun) → given (if b then o else p) k ≡ (if b then given o k else given p k)
given_if true o p k = refl
given_if false o p k = refl

pub given_through : {A B C : Type 0} → (o : Option A) (q : Option B) (f : A → B → Option C) (k : C → RootRun) → given o (λ x. given q (λ y. given (f x y) k)) ≡ given q (λ y. given (o >>= λ x. f x y) k)
given_through None None f k = refl
given_through None (Some y) f k = refl
given_through (Some x) None f k = refl
given_through (Some x) (Some y) f k = refl

-- a place, and what is read there
pub pair_twice : {A B : Type 0} → (o : Option A) (f : A → Option B) → (o >>= λ p. paired p (o >>= f)) ≡ (o >>= λ p. paired p (f p))
pair_twice None f = refl
pair_twice (Some p) f = refl

-- a place, what is there and another value, put together in two ways
pub pair_shuffle : {A X Y Z : Type 0} → (o : Option A) (p : Option X) (q : Option Y) (f : X → Y → Option Z) → (o >>= λ a. paired a (p >>= λ x. q >>= λ y. f x y)) ≡ ((o >>= λ a. paired a p) >>= λ ax. q >>= λ y. paired ax.0 (f ax.1 y))
pair_shuffle None p q f = refl
pair_shuffle (Some a) None q f = refl
pair_shuffle (Some a) (Some x) None f = refl
pair_shuffle (Some a) (Some x) (Some y) f = refl

-- two pointers, and what is done with them
pub copy_is : {A : Type 0} → (o q : Option Value) (f : Pointer → Pointer → Option A) (k : A → RootRun) → given o (λ x. given (as_pointer x) (λ to. given q (λ y. given (as_pointer y) (λ from. given (f to from) k)))) ≡ given (o >>= λ x. q >>= λ y. as_pointer x >>= λ to. as_pointer y >>= λ from. f to from) k
copy_is None q f k = refl
copy_is (Some x) q f k = by_pointer (as_pointer x) q
  where
    by_pointer : (p : Option Pointer) (q : Option Value) → given p (λ to. given q (λ y. given (as_pointer y) (λ from. given (f to from) k))) ≡ given (q >>= λ y. p >>= λ to. as_pointer y >>= λ from. f to from) k
    by_pointer None None = refl
    by_pointer None (Some y) = refl
    by_pointer (Some to) None = refl
    by_pointer (Some to) (Some y) = sym (given_and (as_pointer y) (λ from. f to from) k)
