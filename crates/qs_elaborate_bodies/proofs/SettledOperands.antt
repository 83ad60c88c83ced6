-- An operand whose temporary is settled is the operand that is saved where a later one acts.
use Rattle.std.proofs.Common.{◌≡◌, ℕ, ◌+◌, ◌-◌, ◌≤◌, ◌<◌, Bool, true, false, List, [], ◌∷◌, ◌++◌, Option, length, take, refl, sym, ap, ◌∙◌, if◌then◌else◌, append_assoc, arith}
use Rattle.std.specs.Prelude.{nat_le, set}
use Rattle.std.proofs.lemmas.Bool.Decides.{nat_tests}
use Rattle.std.proofs.lemmas.List.{append-nil, take_at, set_at, length-append}
use Rattle.qs_memory.specs.declared.scalar.Scalar.{Scalar}
use Rattle.qs_core.specs.Trees.{CoreExprTree, temporary, CoreStmtTree, skip}
use Rattle.qs_core.specs.Expressions.{type_of}
use Rattle.qs_meaning.specs.Typed.{Expr}
use Rattle.qs_elaborate_bodies.specs.Literals.{is_literal}
use Rattle.qs_elaborate_bodies.specs.Acting.{acts}
use Rattle.qs_elaborate_bodies.specs.Laws.{has_any}
use Rattle.qs_elaborate_bodies.specs.Parts.{Temporaries, with_temporary, keep, Valued, in_temporary, saved_if}
use Rattle.qs_elaborate_bodies.specs.Lists.{valued}
use Rattle.qs_elaborate_bodies.specs.Reserved.{with_room, with_reserved, reservation, settled_at, settled}
use Rattle.qs_elaborate_bodies.specs.Expressions.{expression_core}
use Rattle.qs_elaborate_bodies.specs.declared.reserving.Reserved.{Reserved}
use Rattle.qs_elaborate_bodies.proofs.ActingLaws.{acts_exactly, quiet}
use Rattle.qs_elaborate_bodies.proofs.UnchangedValues.{quiet_temporaries, quiet_value}

above : (n : ℕ) (m : ℕ) → m + 2 ≤ n → nat_le (n - m) 1 ≡ false
above n m h = grind (arith, nat_tests)

within_one : (n : ℕ) (m : ℕ) → n ≤ m + 1 → nat_le (n - m) 1 ≡ true
within_one n m h = grind (arith, nat_tests)

longer : (p l : List CoreStmtTree) (s t : CoreStmtTree) → length p + 2 ≤ length ((p ++ t ∷ []) ++ s ∷ l)
longer p l s t =
    let e : length ((p ++ t ∷ []) ++ s ∷ l) ≡ length (p ++ t ∷ []) + length (s ∷ l) = length-append (p ++ t ∷ []) (s ∷ l) in
    let f : length (p ++ t ∷ []) ≡ length p + length (t ∷ []) = length-append p (t ∷ []) in
    omega arith

one_longer : (p : List CoreStmtTree) (t : CoreStmtTree) → length ((p ++ t ∷ []) ++ []) ≤ length p + 1
one_longer p t =
    let e : length ((p ++ t ∷ []) ++ []) ≡ length (p ++ t ∷ []) + length {A = CoreStmtTree} [] = length-append (p ++ t ∷ []) [] in
    let f : length (p ++ t ∷ []) ≡ length p + length (t ∷ []) = length-append p (t ∷ []) in
    omega arith

settled_acts : (p l : List CoreStmtTree) (v : CoreExprTree) (k : ℕ) (ts : Temporaries) → has_any l ≡ true
    → settled_at (record { place = length p; temporary = k }) v ((p ++ skip ∷ []) ++ l) ts ≡ valued (p ++ keep k v ∷ l) (temporary (type_of v) k) ts
settled_acts p [] v k ts h = cc
settled_acts p (s ∷ l) v k ts h =
    let ss : List CoreStmtTree = (p ++ skip ∷ []) ++ s ∷ l in
    ap (λ z. if z then valued (take (length p) ss) v (take k ts) else valued (set ss (length p) (keep k v)) (temporary (type_of v) k) ts) (above (length ss) (length p) (longer p l s skip))
    ∙ ap (λ l. valued (set l (length p) (keep k v)) (temporary (type_of v) k) ts) (append_assoc p (skip ∷ []) (s ∷ l))
    ∙ ap (λ l. valued l (temporary (type_of v) k) ts) (set_at p skip (s ∷ l) (keep k v) (length p) refl)

settled_quiet : (p : List CoreStmtTree) (v : CoreExprTree) (s : Scalar) (ts : Temporaries)
    → settled_at (record { place = length p; temporary = length ts }) v ((p ++ skip ∷ []) ++ []) (with_temporary ts s) ≡ valued p v ts
settled_quiet p v s ts =
    let ss : List CoreStmtTree = (p ++ skip ∷ []) ++ [] in
    let us : Temporaries = with_temporary ts s in
    ap (λ z. if z then valued (take (length p) ss) v (take (length ts) us) else valued (set ss (length p) (keep (length ts) v)) (temporary (type_of v) (length ts)) us) (within_one (length ss) (length p) (one_longer p skip))
    ∙ ap (λ l. valued (take (length p) l) v (take (length ts) us)) (append-nil (p ++ skip ∷ []))
    ∙ ap (λ l. valued l v (take (length ts) us)) (take_at p (skip ∷ []) (length p) refl)
    ∙ ap (λ l. valued p v l) (take_at ts (s ∷ []) (length ts) refl)

-- what both operands give
abbrev pub both : List CoreStmtTree → Valued → Expr → Valued
both o first b =
    let second = expression_core b first.temporaries in
    valued (o ++ (first.statements ++ second.statements)) first.value second.temporaries

-- what the second gives behind the reserved first one
abbrev pub reserved_second : (z : Bool) → Valued → Expr → Valued
reserved_second z g b = expression_core b (with_reserved z g.value g.temporaries)

abbrev pub settled_both : (z : Bool) → List CoreStmtTree → Valued → Expr → Valued
settled_both z o g b =
    let second = reserved_second z g b in
    settled (reservation z (o ++ g.statements) g.temporaries) g.value (with_room z (o ++ g.statements) ++ second.statements) second.temporaries

by_acts : (y : Bool) (o : List CoreStmtTree) (g : Valued) (b : Expr) → acts b ≡ y → settled_both false o g b ≡ both o (if y then in_temporary g else g) b
by_acts true o g b h =
    let k = length g.temporaries in
    let second = expression_core b (with_temporary g.temporaries (type_of g.value)) in
    settled_acts (o ++ g.statements) second.statements g.value k second.temporaries (acts_exactly b (with_temporary g.temporaries (type_of g.value)) ∙ h)
    ∙ ap (λ l. valued l (temporary (type_of g.value) k) second.temporaries)
    (append_assoc o g.statements (keep k g.value ∷ second.statements)
    ∙ ap (λ l. o ++ l) (sym (append_assoc g.statements (keep k g.value ∷ []) second.statements)))
by_acts false o g b h =
    let us : Temporaries = with_temporary g.temporaries (type_of g.value) in
    let second = expression_core b us in
    ap (λ l. settled_at (record { place = length (o ++ g.statements); temporary = length g.temporaries }) g.value (((o ++ g.statements) ++ skip ∷ []) ++ l) second.temporaries) (quiet b us h)
    ∙ ap (λ l. settled_at (record { place = length (o ++ g.statements); temporary = length g.temporaries }) g.value (((o ++ g.statements) ++ skip ∷ []) ++ []) l) (quiet_temporaries b us h)
    ∙ settled_quiet (o ++ g.statements) g.value (type_of g.value) g.temporaries
    ∙ ap (λ l. valued (o ++ l) g.value g.temporaries) (sym (append-nil g.statements))
    ∙ ap (λ l. valued (o ++ (g.statements ++ l)) g.value g.temporaries) (sym (quiet b g.temporaries h))
    ∙ ap (λ l. valued (o ++ (g.statements ++ (expression_core b g.temporaries).statements)) g.value l) (sym (quiet_temporaries b g.temporaries h))

literal_kept : (y : Bool) (g : Valued) → is_literal g.value ≡ true → saved_if y g ≡ g
literal_kept true g h = ap (λ z. if z then g else in_temporary g) h
literal_kept false g h = refl

other_saved : (y : Bool) (g : Valued) → is_literal g.value ≡ false → saved_if y g ≡ (if y then in_temporary g else g)
other_saved true g h = ap (λ z. if z then g else in_temporary g) h
other_saved false g h = refl

settled_by : (z : Bool) (o : List CoreStmtTree) (g : Valued) (b : Expr) → is_literal g.value ≡ z → settled_both z o g b ≡ both o (saved_if (acts b) g) b
settled_by true o g b h =
    ap (λ l. valued l g.value (expression_core b g.temporaries).temporaries) (append_assoc o g.statements (expression_core b g.temporaries).statements)
    ∙ ap (λ first. both o first b) (sym (literal_kept (acts b) g h))
settled_by false o g b h = by_acts (acts b) o g b refl ∙ ap (λ first. both o first b) (sym (other_saved (acts b) g h))

pub settled_is : (o : List CoreStmtTree) (g : Valued) (b : Expr) → settled_both (is_literal g.value) o g b ≡ both o (saved_if (acts b) g) b
settled_is o g b = settled_by (is_literal g.value) o g b refl

-- the value of the second one is the same
value_by : (z y : Bool) (g : Valued) (b : Expr) → is_literal g.value ≡ z → acts b ≡ y → (reserved_second z g b).value ≡ (expression_core b (saved_if y g).temporaries).value
value_by true y g b h k = ap (λ (first : Valued). (expression_core b first.temporaries).value) (sym (literal_kept y g h))
value_by false true g b h k = ap (λ (first : Valued). (expression_core b first.temporaries).value) (sym (other_saved true g h))
value_by false false g b h k = quiet_value b (with_temporary g.temporaries (type_of g.value)) g.temporaries k

pub second_value : (g : Valued) (b : Expr) → (reserved_second (is_literal g.value) g b).value ≡ (expression_core b (saved_if (acts b) g).temporaries).value
second_value g b = value_by (is_literal g.value) (acts b) g b refl refl

-- the same by the steps of the code
pub settled_steps : (o p q s : List CoreStmtTree) (g : Valued) (v : CoreExprTree) (ts us rs : Temporaries) (r : Option Reserved) (b : Expr)
    → p ≡ o ++ g.statements → v ≡ g.value → ts ≡ g.temporaries
    → r ≡ reservation (is_literal v) p ts → q ≡ with_room (is_literal v) p → us ≡ with_reserved (is_literal v) v ts
    → s ≡ q ++ (expression_core b us).statements → rs ≡ (expression_core b us).temporaries
    → settled r v s rs ≡ both o (saved_if (acts b) g) b
settled_steps o p q s g v ts us rs r b hp hv ht hr hq hu hs hrs =
    rw (hr, hs, hrs, hq, hu, hp, hv, ht) (settled_is o g b)

pub second_steps : (g : Valued) (v : CoreExprTree) (ts us : Temporaries) (b : Expr)
    → v ≡ g.value → ts ≡ g.temporaries → us ≡ with_reserved (is_literal v) v ts
    → (expression_core b us).value ≡ (expression_core b (saved_if (acts b) g).temporaries).value
second_steps g v ts us b hv ht hu = rw (hu, hv, ht) (second_value g b)

-- ---- what is settled where statements follow, and where none does

pub settled_short : (r : Reserved) (v : CoreExprTree) (ss : List CoreStmtTree) (ts : Temporaries) → length ss - r.place ≤ 1 → settled_at r v ss ts ≡ valued (take r.place ss) v (take r.temporary ts)
settled_short r v ss ts h =
    ap (λ z. if z then valued (take r.place ss) v (take r.temporary ts) else valued (set ss r.place (keep r.temporary v)) (temporary (type_of v) r.temporary) ts) (at_most_one (length ss - r.place) h)
  where
    at_most_one : (n : ℕ) → n ≤ 1 → nat_le n 1 ≡ true
    at_most_one n h = grind (arith, nat_tests)

pub settled_long : (r : Reserved) (v : CoreExprTree) (ss : List CoreStmtTree) (ts : Temporaries) → 1 < length ss - r.place → settled_at r v ss ts ≡ valued (set ss r.place (keep r.temporary v)) (temporary (type_of v) r.temporary) ts
settled_long r v ss ts h =
    ap (λ z. if z then valued (take r.place ss) v (take r.temporary ts) else valued (set ss r.place (keep r.temporary v)) (temporary (type_of v) r.temporary) ts) (more_than_one (length ss - r.place) h)
  where
    more_than_one : (n : ℕ) → 1 < n → nat_le n 1 ≡ false
    more_than_one n h = grind (arith, nat_tests)
