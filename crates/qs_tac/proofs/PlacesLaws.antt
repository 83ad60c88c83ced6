-- A unit does the same whether its values stand in temporaries or in places that are accepted.
use Rattle.std.proofs.Common.{◌≡◌, ℕ, zero, suc, ◌+◌, ◌==◌, ◌&&◌, not, Bool, true, false, if◌then◌else◌, List, [], ◌∷◌, ◌++◌, length, map, slice_index_or, Option, Some, None, refl, sym, ap, ◌∙◌, subst, arith}
use Rattle.std.specs.Prelude.{Contains}
use Rattle.std.proofs.lemmas.Bool.Decides.{nat_tests}
use Rattle.std.proofs.lemmas.List.Elements.{Contains-append_left, Contains-append_right}
use Rattle.std.specs.List.{slice_get, list_all}
use Rattle.qs_memory.specs.Partial.{◌>>=◌}
use Rattle.qs_memory.specs.Values as values
use Rattle.qs_memory.specs.Values.{Pointer, into, Value, integer, address, as_integer, as_pointer}
use Rattle.qs_memory.specs.Memory as memory
use Rattle.qs_memory.specs.Memory.{Memory, store, make, release}
use Rattle.qs_memory.specs.Operations.{apply_unary, apply_binary, on_integers, on_pointers}
use Rattle.qs_memory.specs.Integers.{compares}
use Rattle.qs_memory.specs.Pointers.{truth, compares_pointers}
use Rattle.qs_memory.specs.declared.scalar.Scalar.TheVariants as scalars
use Rattle.qs_memory.specs.declared.operation.Direction.TheVariants.{Up}
use Rattle.qs_memory.specs.declared.operation.BinaryOperation.TheVariants as binaries
use Rattle.qs_events.specs.Events.{Calls, Returns}
use Rattle.qs_events.specs.Runs.{emit, given}
use Rattle.qs_calls.specs.World.{World, with_memory, RootRun, leaves, Environment, no_values, with_value}
use Rattle.qs_calls.specs.Calls.{Entered, pass}
use Rattle.qs_calls.specs.Relations.{Relation, Keeps, ReturnsRelated, CallsRelated}
use Rattle.qs_calls.specs.declared.parameter.Parameter.{Parameter}
use Rattle.qs_calls.specs.declared.parameter.Parameter.TheVariants.{Plain, Placed}
use Rattle.qs_calls.proofs.RelationLaws.{given_related, invoke_related}
use Rattle.qs_tac.specs.Trees.{InstructionTree, move, unary, binary, convert, address_of, load, store as store_at}
use Rattle.qs_tac.specs.Trees.{copy, fill, call, jump, branch, return, TacFunctionTree, TacUnitTree}
use Rattle.qs_tac.specs.declared.operands.Operand.{Operand}
use Rattle.qs_tac.specs.declared.operands.Operand.TheVariants.{Temporary, Integer, Byte, Constant, Null, Local, Data}
use Rattle.qs_tac.specs.declared.operands.Index.{Index}
use Rattle.qs_tac.specs.declared.operands.Address.{Address}
use Rattle.qs_tac.specs.declared.operands.Condition.{Condition}
use Rattle.qs_tac.specs.declared.operands.Condition.TheVariants.{NotZero, Zero, Compare, ComparePointers}
use Rattle.qs_tac.specs.declared.places.Place.{Place}
use Rattle.qs_tac.specs.Holders.{Holder, temporaries, File, same_place, with_place, placed_values, kept, places}
use Rattle.qs_tac.specs.Places.{PlacesTree, Accepted, place_in, no_places}
use Rattle.qs_tac.specs.Uses.{read_by, read_by_all, read_by_index, read_by_address, read_by_condition, reads, writes}
use Rattle.qs_tac.specs.Liveness.{nexts, is_call}
use Rattle.qs_tac.specs.Values.{Activation, operand, operands, member_at, indexed, pointer, holds}
use Rattle.qs_tac.specs.Steps.{Waiting, Next, gives, leaves_memory, take_result, resume, enters, ends, step, instruction_at, steps}
use Rattle.qs_tac.specs.Units.{tac_run, plain, plain_of, placed_run, stopped_steps, stopped_run}
use Rattle.qs_tac.specs.Laws.{AreAccepted, PlacesKeepRuns}
use Rattle.qs_tac.proofs.NeedLaws.{Needs, reads_are_needed, needed_before, needed_apart, needed_kept, entry_apart, one_place}

abbrev Equal : Relation
Equal o p = o ≡ p

equal_keeps : Keeps Equal
equal_keeps = record { emit = λ event o p h. ap (emit event) h; undefined = refl }

given_found : {A : Type 0} (o : Option A) (f g : A → RootRun) → ((a : A) → o ≡ Some a → f a ≡ g a) → given o f ≡ given o g
given_found None f g h = refl
given_found (Some a) f g h = h a refl

given_both : {A : Type 0} (o p : Option A) (f g : A → RootRun) → o ≡ p → ((a : A) → f a ≡ g a) → given o f ≡ given p g
given_both o p f g e h = ap (λ q. given q f) e ∙ given_related Equal equal_keeps p f g h

bind_same : {A B : Type 0} (o : Option A) (f g : A → Option B) → ((a : A) → f a ≡ g a) → (o >>= f) ≡ (o >>= g)
bind_same None f g h = refl
bind_same (Some a) f g h = h a

both_bind : {A B : Type 0} (o p : Option A) (f g : A → Option B) → o ≡ p → ((a : A) → f a ≡ g a) → (o >>= f) ≡ (p >>= g)
both_bind o p f g e h = ap (λ q. q >>= f) e ∙ bind_same p f g h

-- ---- the values that a call begins with stand in the places of its plain parameters

abbrev is_outside : ℕ → List ℕ → Bool
is_outside x ts = list_all (λ t. not (x == t)) ts

-- no other variable has a value
abbrev Bound : Environment → List ℕ → Type 0
Bound e ts = (x : ℕ) → is_outside x ts ≡ true → e x ≡ None

abbrev AreAmong : List ℕ → List ℕ → Type 0
AreAmong [] ts = Unit {0}
AreAmong (x ∷ xs) ts = (is_outside x ts ≡ false) × AreAmong xs ts

one_more : (b c : Bool) → c ≡ false → (not b && c) ≡ false
one_more true c h = refl
one_more false c h = h

among_more : (t : ℕ) (xs ts : List ℕ) → AreAmong xs ts → AreAmong xs (t ∷ ts)
among_more t [] ts h = tt
among_more t (x ∷ xs) ts h = (one_more (x == t) (is_outside x ts) h.0, among_more t xs ts h.1)

same_first : (b c : Bool) → b ≡ true → (not b && c) ≡ false
same_first true c h = refl
same_first false c h = cc

are_among : (ts : List ℕ) → AreAmong ts ts
are_among [] = tt
are_among (t ∷ ts) =
    let here : (t == t) ≡ true = grind (arith, nat_tests) in
    (same_first (t == t) (is_outside t ts) here, among_more t ts ts (are_among ts))

-- a variable among these gets a value
bound_more : (e : Environment) (ts : List ℕ) (x : ℕ) (v : Value) → is_outside x ts ≡ false → Bound e ts → Bound (with_value e x v) ts
bound_more e ts x v inside bound y out = shown (y == x) refl
  where
    shown : (b : Bool) → (y == x) ≡ b → (if b then Some v else e y) ≡ None
    shown true h = let same : y ≡ x = grind (arith, nat_tests, h) in
        let other : is_outside x ts ≡ true = subst (λ (k : ℕ). is_outside k ts ≡ true) same out in cc
    shown false h = bound y out

nothing_bound : (ts : List ℕ) → Bound no_values ts
nothing_bound ts x h = refl

pass_same :
    (all : List ℕ) (f g : Entered) → ((e : Environment) (w : World) → Bound e all → f e w ≡ g e w)
    → (ps : List Parameter) (arguments : List Value) (first : ℕ) (e : Environment) (w : World)
    → AreAmong (plain ps) all → Bound e all → pass ps arguments first e w f ≡ pass ps arguments first e w g
pass_same all f g h [] [] first e w among bound = h e w bound
pass_same all f g h [] (v ∷ vs) first e w among bound = refl
pass_same all f g h (Plain x ∷ ps) [] first e w among bound = refl
pass_same all f g h (Placed i s ∷ ps) [] first e w among bound = refl
pass_same all f g h (Plain x ∷ ps) (v ∷ vs) first e w among bound =
    pass_same all f g h ps vs first (with_value e x v) w among.1 (bound_more e all x v among.0 bound)
pass_same all f g h (Placed i s ∷ ps) (v ∷ vs) first e w among bound =
    given_related Equal equal_keeps (store s w.memory (into (first + i) 0) v) _ _
    (λ m. pass_same all f g h ps vs first e (with_memory w m) among bound)

-- ---- with places

-- x shares its place with none of these but itself
abbrev ApartFrom : (at : ℕ → Place) → (x : ℕ) → List ℕ → Type 0
ApartFrom at x [] = Unit {0}
ApartFrom at x (t ∷ ts) = (at x ≡ at t → x ≡ t) × ApartFrom at x ts

apart_from :
    (at : ℕ → Place) (x : ℕ) (ps : List Parameter) → ((d : ℕ) → Contains ps (Plain d) → at x ≡ at d → x ≡ d)
    → ApartFrom at x (plain ps)
apart_from at x [] h = tt
apart_from at x (Plain d ∷ ps) h = (h d (0, omega arith, refl), apart_from at x ps (λ t c. h t (suc c.0, omega (arith, c.1), c.2)))
apart_from at x (Placed i s ∷ ps) h = apart_from at x ps (λ t c. h t (suc c.0, omega (arith, c.1), c.2))

-- what its place holds: its value, where it is among the parameters
places_hold :
    (at : ℕ → Place) (e : Environment) (ts : List ℕ) (x : ℕ) → ApartFrom at x ts
    → placed_values at e ts (at x) ≡ (if is_outside x ts then None else e x)
places_hold at e [] x apart = refl
places_hold at e (t ∷ ts) x apart = shown (places_hold at e ts x apart.1) (one_place at x t apart.0)
  where
    shown :
        (placed_values at e ts (at x) ≡ (if is_outside x ts then None else e x)) → same_place (at x) (at t) ≡ (x == t)
        → (if same_place (at x) (at t) then e t else placed_values at e ts (at x))
        ≡ (if not (x == t) && is_outside x ts then None else e x)
    shown others is =
        ap (λ b. if b then e t else placed_values at e ts (at x)) is ∙ by (x == t) refl
      where
        by : (b : Bool) → (x == t) ≡ b
            → (if b then e t else placed_values at e ts (at x)) ≡ (if not b && is_outside x ts then None else e x)
        by true h = let same : t ≡ x = grind (arith, nat_tests, h) in ap e same
        by false h = others

places_begin :
    (at : ℕ → Place) (e : Environment) (ts : List ℕ) → Bound e ts → (x : ℕ) → ApartFrom at x ts
    → placed_values at e ts (at x) ≡ e x
places_begin at e ts bound x apart = places_hold at e ts x apart ∙ shown (is_outside x ts) refl
  where
    shown : (b : Bool) → is_outside x ts ≡ b → (if b then None else e x) ≡ e x
    shown true h = sym (bound x h)
    shown false h = refl

-- a value is written, seen at the place of t
write_same :
    (at : ℕ → Place) (file : File) (e : Environment) (x : ℕ) (v : Value) (t : ℕ) → (at t ≡ at x → t ≡ x)
    → (¬ (t ≡ x) → file (at t) ≡ e t) → with_place file (at x) (Some v) (at t) ≡ with_value e x v t
write_same at file e x v t apart old =
    ap (λ b. if b then Some v else file (at t)) (one_place at t x apart) ∙ by (t == x) refl
  where
    by : (b : Bool) → (t == x) ≡ b → (if b then Some v else file (at t)) ≡ (if b then Some v else e t)
    by true h = refl
    by false h = old (λ is. let self : (t == x) ≡ true = grind (arith, nat_tests, is) in absurd cc)

first_is : (x : ℕ) (xs : List ℕ) → Contains (x ∷ xs) x
first_is x xs = (0, omega arith, refl)

second_is : (x y : ℕ) (xs : List ℕ) → Contains (x ∷ y ∷ xs) y
second_is x y xs = (1, omega arith, refl)

either_is : (yes : Bool) (x y : ℕ) → Contains (x ∷ y ∷ []) (if yes then y else x)
either_is true x y = second_is x y []
either_is false x y = first_is x (y ∷ [])

some_same : (x y : ℕ) → Some x ≡ Some y → x ≡ y
some_same x y e = cc

none_is_some : (o : Option ℕ) (x : ℕ) → o ≡ None → ¬ (o ≡ Some x)
none_is_some o x n e = let other : None ≡ Some x = sym n ∙ e in cc

-- ---- both runs

module _ (u : TacUnitTree) (ps : List PlacesTree) (accepted : AreAccepted u ps) where
  abbrev placed : Holder File
  placed = places (λ f. plain_of (slice_get u.functions f)) (place_in ps)

  -- a function that runs, with the values of its temporaries and with those in its places
  pub record Both : Type 0 where
    pub function : ℕ
    pub at : ℕ
    pub first_block : ℕ
    pub file : File
    pub values : Environment
    pub body : TacFunctionTree
    pub is_body : slice_get u.functions function ≡ Some body

  abbrev in_places : Both → Activation File
  in_places b = record { function = b.function; at = b.at; first_block = b.first_block; held = b.file }

  abbrev in_temporaries : Both → Activation Environment
  in_temporaries b = record { function = b.function; at = b.at; first_block = b.first_block; held = b.values }

  abbrev places_of : Both → PlacesTree
  places_of b = slice_index_or ps b.function no_places

  abbrev is_accepted : (b : Both) → Accepted b.body (places_of b)
  is_accepted b = accepted b.function b.body b.is_body

  -- what is needed before the instruction at this index
  abbrev NeedsAt : Both → (index temporary : ℕ) → Type 0
  NeedsAt b = Needs b.body (places_of b) (is_accepted b)

  abbrev IsSame : Both → (temporary : ℕ) → Type 0
  IsSame b t = b.file (place_in ps b.function t) ≡ b.values t

  -- what is needed stands in its place
  abbrev AreSame : Both → Type 0
  AreSame b = (t : ℕ) → NeedsAt b b.at t → IsSame b t

  -- one that waits for a call: what is needed stands in its place, but for what the call gives
  pub record BothWait : Type 0 where
    pub both : Both
    pub taken_by : Option ℕ
    pub same : (t : ℕ) → NeedsAt both both.at t → ¬ (taken_by ≡ Some t) → IsSame both t
    pub apart :
        (x t : ℕ) → taken_by ≡ Some x → NeedsAt both both.at t
        → place_in ps both.function t ≡ place_in ps both.function x → t ≡ x

  abbrev waits_in_places : BothWait → Waiting File
  waits_in_places c = record { activation = in_places c.both; taken_by = c.taken_by }

  abbrev waits_in_temporaries : BothWait → Waiting Environment
  waits_in_temporaries c = record { activation = in_temporaries c.both; taken_by = c.taken_by }

  abbrev NextsSame : Next File → Next Environment → Type 0
  NextsSame k n =
      (b : Both) → AreSame b → (w : World) (cs : List BothWait)
      → k (in_places b) w (map waits_in_places cs) ≡ n (in_temporaries b) w (map waits_in_temporaries cs)

  -- ---- what both read

  -- all of these stand in their places
  abbrev AllSame : Both → List ℕ → Type 0
  AllSame b ts = (t : ℕ) → Contains ts t → IsSame b t

  in_left : (b : Both) (ts us : List ℕ) → AllSame b (ts ++ us) → AllSame b ts
  in_left b ts us h t c = h t (Contains-append_left ts us t c)

  in_right : (b : Both) (ts us : List ℕ) → AllSame b (ts ++ us) → AllSame b us
  in_right b ts us h t c = h t (Contains-append_right ts us t c)

  operand_same :
      (b : Both) (o : Operand) → AllSame b (read_by o)
      → operand placed o (in_places b) ≡ operand temporaries o (in_temporaries b)
  operand_same b (Temporary t) h = h t (first_is t [])
  operand_same b (Integer t) h = ap (λ o. o >>= λ v. as_integer v >>= λ n. Some (integer n)) (h t (first_is t []))
  operand_same b (Byte t) h = ap (λ o. o >>= λ v. values.convert scalars.Char v) (h t (first_is t []))
  operand_same b (Constant n) h = refl
  operand_same b Null h = refl
  operand_same b (Local i) h = refl
  operand_same b (Data i) h = refl

  operands_same :
      (b : Both) (os : List Operand) → AllSame b (read_by_all os)
      → operands placed os (in_places b) ≡ operands temporaries os (in_temporaries b)
  operands_same b [] h = refl
  operands_same b (o ∷ os) h =
      both_bind _ _ _ _ (operand_same b o (in_left b (read_by o) (read_by_all os) h))
      (λ v. ap (λ r. r >>= λ vs. Some (v ∷ vs)) (operands_same b os (in_right b (read_by o) (read_by_all os) h)))

  indexed_same :
      (b : Both) (index : Option Index) (q : Pointer) (m : Memory) → AllSame b (read_by_index index)
      → indexed placed index q (in_places b) m ≡ indexed temporaries index q (in_temporaries b) m
  indexed_same b None q m h = refl
  indexed_same b (Some index) q m h =
      ap
      (λ o. o >>= λ n. apply_binary (binaries.Move Up index.signedness index.element) m (address q) n >>= λ v.
      as_pointer v >>= λ r. member_at m index.offset r)
      (operand_same b index.count h)

  pointer_same :
      (b : Both) (p : Address) (m : Memory) → AllSame b (read_by_address p)
      → pointer placed p (in_places b) m ≡ pointer temporaries p (in_temporaries b) m
  pointer_same b p m h =
      both_bind _ _ _ _ (operand_same b p.base (in_left b (read_by p.base) (read_by_index p.index) h))
      (λ v. bind_same (as_pointer v) _ _
      (λ q. bind_same (member_at m p.offset q) _ _
      (λ r. indexed_same b p.index r m (in_right b (read_by p.base) (read_by_index p.index) h))))

  holds_same :
      (b : Both) (c : Condition) (m : Memory) → AllSame b (read_by_condition c)
      → holds placed c (in_places b) m ≡ holds temporaries c (in_temporaries b) m
  holds_same b (NotZero o) m h = ap (λ r. r >>= λ v. truth m v) (operand_same b o h)
  holds_same b (Zero o) m h = ap (λ r. r >>= λ v. truth m v >>= λ t. Some (not t)) (operand_same b o h)
  holds_same b (Compare op s o p) m h =
      both_bind _ _ _ _ (operand_same b o (in_left b (read_by o) (read_by p) h))
      (λ v. ap (λ r. r >>= λ y. on_integers (λ x z. Some (compares op s x z)) v y)
      (operand_same b p (in_right b (read_by o) (read_by p) h)))
  holds_same b (ComparePointers op o p) m h =
      both_bind _ _ _ _ (operand_same b o (in_left b (read_by o) (read_by p) h))
      (λ v. ap (λ r. r >>= λ y. on_pointers (compares_pointers op m) v y)
      (operand_same b p (in_right b (read_by o) (read_by p) h)))

  -- ---- how both go on

  abbrev at_index : ℕ → Both → Both
  at_index i b = record b { at = i }

  abbrev with_result : ℕ → Value → Both → Both
  with_result x v b = record {
    function = b.function;
    at = b.at;
    first_block = b.first_block;
    file = with_place b.file (place_in ps b.function x) (Some v);
    values = with_value b.values x v;
    body = b.body;
    is_body = b.is_body;
  }

  abbrev behind_call : Both → Both
  behind_call b = record {
    function = b.function;
    at = b.at + 1;
    first_block = b.first_block;
    file = kept b.file;
    values = b.values;
    body = b.body;
    is_body = b.is_body;
  }

  -- the instruction that both stand at
  abbrev StandsAt : Both → InstructionTree → Type 0
  StandsAt b i = slice_get b.body.code b.at ≡ Some i

  reads_same : (b : Both) → AreSame b → (i : InstructionTree) → StandsAt b i → AllSame b (reads i)
  reads_same b same i here t c = same t (reads_are_needed b.body (places_of b) (is_accepted b) i b.at t here c)

  moved_same :
      (b : Both) → AreSame b → (i : InstructionTree) → StandsAt b i → writes i ≡ None
      → (q : ℕ) → Contains (nexts i b.at) q → AreSame (at_index q b)
  moved_same b same i here nothing q next t need =
      same t (needed_before b.body (places_of b) (is_accepted b) i b.at q t here next need (none_is_some (writes i) t nothing))

  written_same :
      (b : Both) → AreSame b → (i : InstructionTree) → StandsAt b i → (x : ℕ) → writes i ≡ Some x
      → (q : ℕ) → Contains (nexts i b.at) q → (v : Value) → AreSame (at_index q (with_result x v b))
  written_same b same i here x writes_x q next v t need =
      write_same (place_in ps b.function) b.file b.values x v t
      (needed_apart b.body (places_of b) (is_accepted b) i b.at q x t here next need writes_x)
      (λ other. same t (needed_before b.body (places_of b) (is_accepted b) i b.at q t here next need
      (λ w. other (some_same t x (sym w ∙ writes_x)))))

  waits_same :
      (b : Both) → AreSame b → (i : InstructionTree) → StandsAt b i → is_call i ≡ true → Contains (nexts i b.at) (b.at + 1)
      → (t : ℕ) → NeedsAt b (b.at + 1) t → ¬ (writes i ≡ Some t) → IsSame (behind_call b) t
  waits_same b same i here called next t need other =
      ap (λ k. if k then b.file (place_in ps b.function t) else None)
      (needed_kept b.body (places_of b) (is_accepted b) i b.at (b.at + 1) t here next need called)
      ∙ same t (needed_before b.body (places_of b) (is_accepted b) i b.at (b.at + 1) t here next need other)

  gives_same :
      (k : Next File) (n : Next Environment) → NextsSame k n → (x : ℕ) (o p : Option Value) → o ≡ p
      → (b : Both) → AreSame b → (i : InstructionTree) → StandsAt b i → writes i ≡ Some x → Contains (nexts i b.at) (b.at + 1)
      → (w : World) (cs : List BothWait)
      → gives placed k x o (in_places b) w (map waits_in_places cs) ≡ gives temporaries n x p (in_temporaries b) w (map waits_in_temporaries cs)
  gives_same k n r x o p e b same i here writes_x next w cs =
      ap (λ q. gives placed k x q (in_places b) w (map waits_in_places cs)) e
      ∙ given_related Equal equal_keeps p _ _
      (λ v. r (at_index (b.at + 1) (with_result x v b)) (written_same b same i here x writes_x (b.at + 1) next v) w cs)

  memory_same :
      (k : Next File) (n : Next Environment) → NextsSame k n → (o p : Option Memory) → o ≡ p
      → (b : Both) → AreSame b → (i : InstructionTree) → StandsAt b i → writes i ≡ None → Contains (nexts i b.at) (b.at + 1)
      → (w : World) (cs : List BothWait)
      → leaves_memory k o (in_places b) w (map waits_in_places cs) ≡ leaves_memory n p (in_temporaries b) w (map waits_in_temporaries cs)
  memory_same k n r o p e b same i here nothing next w cs =
      ap (λ q. leaves_memory k q (in_places b) w (map waits_in_places cs)) e
      ∙ given_related Equal equal_keeps p _ _
      (λ m. r (at_index (b.at + 1) b) (moved_same b same i here nothing (b.at + 1) next) (with_memory w m) cs)

  taken_same : (c : BothWait) (x : ℕ) → c.taken_by ≡ Some x → (v : Value) → AreSame (with_result x v c.both)
  taken_same c x taken v t need =
      write_same (place_in ps c.both.function) c.both.file c.both.values x v t (c.apart x t taken need)
      (λ other. c.same t need (λ e. other (some_same t x (sym e ∙ taken))))

  result_same :
      (k : Next File) (n : Next Environment) → NextsSame k n → (c : BothWait) (cs : List BothWait)
      → ReturnsRelated Equal (take_result placed k c.taken_by (in_places c.both) (map waits_in_places cs))
      (take_result temporaries n c.taken_by (in_temporaries c.both) (map waits_in_temporaries cs))
  result_same k n r c cs result w = by c.taken_by refl
    where
      by :
          (x : Option ℕ) → c.taken_by ≡ x
          → take_result placed k x (in_places c.both) (map waits_in_places cs) result w
          ≡ take_result temporaries n x (in_temporaries c.both) (map waits_in_temporaries cs) result w
      by None e = r c.both (λ t need. c.same t need (none_is_some c.taken_by t e)) w cs
      by (Some x) e = given_related Equal equal_keeps result _ _ (λ v. r (with_result x v c.both) (taken_same c x e v) w cs)

  resume_same :
      (k : Next File) (n : Next Environment) → NextsSame k n → (cs : List BothWait)
      → ReturnsRelated Equal (resume placed k (map waits_in_places cs)) (resume temporaries n (map waits_in_temporaries cs))
  resume_same k n r [] result w = refl
  resume_same k n r (c ∷ cs) result w = result_same k n r c cs result w

  abbrev entered : (f : ℕ) (g : TacFunctionTree) → slice_get u.functions f ≡ Some g → (first : ℕ) → Environment → Both
  entered f g is first e = record {
    function = f;
    at = 0;
    first_block = first;
    file = placed.enter f e;
    values = e;
    body = g;
    is_body = is;
  }

  begin_same :
      (f : ℕ) (g : TacFunctionTree) (is : slice_get u.functions f ≡ Some g) (first : ℕ) (e : Environment)
      → Bound e (plain g.parameters) → AreSame (entered f g is first e)
  begin_same f g is first e bound t need =
      ap (λ (o : Option TacFunctionTree). placed_values (place_in ps f) e (plain_of o) (place_in ps f t)) is
      ∙ places_begin (place_in ps f) e (plain g.parameters) bound t
      (apart_from (place_in ps f) t g.parameters
      (λ d c. entry_apart g (slice_index_or ps f no_places) (accepted f g is) d t c need))

  enters_same :
      (k : Next File) (n : Next Environment) → NextsSame k n → (cs : List BothWait)
      → CallsRelated Equal (enters placed u k (map waits_in_places cs)) (enters temporaries u n (map waits_in_temporaries cs))
  enters_same k n r cs f arguments c d cd w =
      given_found (slice_get u.functions f) _ _
      (λ g is. ap (emit (Calls f))
      (pass_same (plain g.parameters) _ _
      (λ e v bound. r (entered f g is (length w.memory) e) (begin_same f g is (length w.memory) e bound) v cs)
      g.parameters arguments (length w.memory) no_values (with_memory w (make g.blocks w.memory))
      (are_among (plain g.parameters)) (nothing_bound (plain g.parameters))))

  ends_same :
      (k : Next File) (n : Next Environment) → NextsSame k n → (b : Both) (cs : List BothWait) (result : Option Value) (w : World)
      → ends placed k (in_places b) (map waits_in_places cs) result w
      ≡ ends temporaries n (in_temporaries b) (map waits_in_temporaries cs) result w
  ends_same k n r b cs result w =
      ap (emit (Returns b.function)) (resume_same k n r cs result (with_memory w (release b.first_block w.memory)))

  abbrev waiting :
      (b : Both) → AreSame b → (x : Option ℕ) (f : _) (arguments : List Operand) → StandsAt b (call x f arguments) → BothWait
  waiting b same x f arguments here = record {
    both = behind_call b;
    taken_by = x;
    same = λ t need other. waits_same b same (call x f arguments) here refl (first_is (b.at + 1) []) t need other;
    apart =
        λ y t taken need.
        needed_apart b.body (places_of b) (is_accepted b) (call x f arguments) b.at (b.at + 1) y t here (first_is (b.at + 1) []) need taken;
  }

  step_same :
      (k : Next File) (n : Next Environment) → NextsSame k n → (i : Option InstructionTree)
      → (b : Both) → AreSame b → slice_get b.body.code b.at ≡ i → (w : World) (cs : List BothWait)
      → step placed u i k (in_places b) w (map waits_in_places cs)
      ≡ step temporaries u i n (in_temporaries b) w (map waits_in_temporaries cs)
  step_same k n r None b same here w cs = refl
  step_same k n r (Some (move x o)) b same here w cs =
      gives_same k n r x _ _ (operand_same b o (reads_same b same (move x o) here))
      b same (move x o) here refl (first_is (b.at + 1) []) w cs
  step_same k n r (Some (unary op x o)) b same here w cs =
      gives_same k n r x _ _
      (ap (λ q. q >>= λ v. apply_unary op w.memory v) (operand_same b o (reads_same b same (unary op x o) here)))
      b same (unary op x o) here refl (first_is (b.at + 1) []) w cs
  step_same k n r (Some (binary op x o p)) b same here w cs =
      let read = reads_same b same (binary op x o p) here in
      gives_same k n r x _ _
      (both_bind _ _ _ _ (operand_same b o (in_left b (read_by o) (read_by p) read))
      (λ v. ap (λ q. q >>= λ y. apply_binary op w.memory v y) (operand_same b p (in_right b (read_by o) (read_by p) read))))
      b same (binary op x o p) here refl (first_is (b.at + 1) []) w cs
  step_same k n r (Some (convert s x o)) b same here w cs =
      gives_same k n r x _ _
      (ap (λ q. q >>= λ v. values.convert s v) (operand_same b o (reads_same b same (convert s x o) here)))
      b same (convert s x o) here refl (first_is (b.at + 1) []) w cs
  step_same k n r (Some (address_of x p)) b same here w cs =
      gives_same k n r x _ _
      (ap (λ q. q >>= λ to. Some (address to)) (pointer_same b p w.memory (reads_same b same (address_of x p) here)))
      b same (address_of x p) here refl (first_is (b.at + 1) []) w cs
  step_same k n r (Some (load s x p)) b same here w cs =
      gives_same k n r x _ _
      (ap (λ q. q >>= λ from. memory.load s w.memory from) (pointer_same b p w.memory (reads_same b same (load s x p) here)))
      b same (load s x p) here refl (first_is (b.at + 1) []) w cs
  step_same k n r (Some (store_at s p o)) b same here w cs =
      let read = reads_same b same (store_at s p o) here in
      memory_same k n r _ _
      (both_bind _ _ _ _ (pointer_same b p w.memory (in_left b (read_by_address p) (read_by o) read))
      (λ to. ap (λ q. q >>= λ v. memory.store s w.memory to v) (operand_same b o (in_right b (read_by_address p) (read_by o) read))))
      b same (store_at s p o) here refl (first_is (b.at + 1) []) w cs
  step_same k n r (Some (copy size alignment p q)) b same here w cs =
      let read = reads_same b same (copy size alignment p q) here in
      memory_same k n r _ _
      (both_bind _ _ _ _ (pointer_same b p w.memory (in_left b (read_by_address p) (read_by_address q) read))
      (λ to. ap (λ o. o >>= λ from. memory.copy size alignment w.memory to from)
      (pointer_same b q w.memory (in_right b (read_by_address p) (read_by_address q) read))))
      b same (copy size alignment p q) here refl (first_is (b.at + 1) []) w cs
  step_same k n r (Some (fill blank p)) b same here w cs =
      memory_same k n r _ _
      (ap (λ q. q >>= λ to. memory.fill blank w.memory to) (pointer_same b p w.memory (reads_same b same (fill blank p) here)))
      b same (fill blank p) here refl (first_is (b.at + 1) []) w cs
  step_same k n r (Some (call x f arguments)) b same here w cs =
      given_both _ _ _ _ (operands_same b arguments (reads_same b same (call x f arguments) here))
      (λ vs. invoke_related Equal equal_keeps f _ _
      (enters_same k n r (waiting b same x f arguments here ∷ cs)) vs _ _
      (result_same k n r (waiting b same x f arguments here) cs) w)
  step_same k n r (Some (jump to)) b same here w cs =
      r (at_index to b) (moved_same b same (jump to) here refl to (first_is to [])) w cs
  step_same k n r (Some (branch c to)) b same here w cs =
      given_both _ _ _ _ (holds_same b c w.memory (reads_same b same (branch c to) here))
      (λ yes. r (at_index (if yes then to else (b.at + 1)) b)
      (moved_same b same (branch c to) here refl (if yes then to else (b.at + 1)) (either_is yes (b.at + 1) to)) w cs)
  step_same k n r (Some (return None)) b same here w cs = ends_same k n r b cs None w
  step_same k n r (Some (return (Some o))) b same here w cs =
      given_both _ _ _ _ (operand_same b o (reads_same b same (return (Some o)) here)) (λ v. ends_same k n r b cs (Some v) w)

  here_is : (b : Both) → slice_get b.body.code b.at ≡ instruction_at u (in_temporaries b)
  here_is b = sym (ap (λ (o : Option TacFunctionTree). o >>= λ f. slice_get f.code b.at) b.is_body)

  steps_same : (m : ℕ) → NextsSame (steps placed u m) (steps temporaries u m)
  steps_same zero b same w cs = refl
  steps_same (suc m) b same w cs =
      step_same (steps placed u m) (steps temporaries u m) (steps_same m) (instruction_at u (in_temporaries b)) b same (here_is b) w cs

  runs_same : (root : ℕ) (arguments : List Value) (w : World) (m : ℕ) → placed_run u ps root arguments w m ≡ tac_run u root arguments w m
  runs_same root arguments w zero = refl
  runs_same root arguments w (suc m) =
      enters_same (steps placed u m) (steps temporaries u m) (steps_same m) [] root arguments leaves leaves (λ result v. refl) w

  -- ---- the same where they stop

  stopped_steps_same : (result : Option Value) (m : ℕ) → NextsSame (stopped_steps placed u result m) (stopped_steps temporaries u result m)
  stopped_steps_same result zero b same w cs = refl
  stopped_steps_same result (suc m) b same w cs =
      step_same (stopped_steps placed u result m) (stopped_steps temporaries u result m) (stopped_steps_same result m)
      (instruction_at u (in_temporaries b)) b same (here_is b) w cs

  stopped_runs_same :
      (result : Option Value) (root : ℕ) (arguments : List Value) (w : World) (m : ℕ)
      → stopped_run placed u result root arguments w m ≡ stopped_run temporaries u result root arguments w m
  stopped_runs_same result root arguments w zero = refl
  stopped_runs_same result root arguments w (suc m) =
      enters_same (stopped_steps placed u result m) (stopped_steps temporaries u result m) (stopped_steps_same result m)
      [] root arguments leaves leaves (λ result v. refl) w

pub places_keep_runs : PlacesKeepRuns
places_keep_runs u ps accepted root arguments w m = runs_same u ps accepted root arguments w m

pub places_keep_stopped_runs :
    (u : TacUnitTree) (ps : List PlacesTree) → AreAccepted u ps
    → (result : Option Value) (root : ℕ) (arguments : List Value) (w : World) (m : ℕ)
    → stopped_run (places (λ f. plain_of (slice_get u.functions f)) (place_in ps)) u result root arguments w m
    ≡ stopped_run temporaries u result root arguments w m
places_keep_stopped_runs u ps accepted result root arguments w m = stopped_runs_same u ps accepted result root arguments w m
