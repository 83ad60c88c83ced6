-- What stands behind a first part that was pushed already.
use Rattle.std.proofs.Common.{◌≡◌, ◌||◌, Bool, true, false, List, [], ◌∷◌, ◌++◌, length, take, refl, sym, ap, ◌∙◌, if◌then◌else◌, append_assoc}
use Rattle.std.proofs.lemmas.List.{append-nil, take_at}
use Rattle.qs_memory.specs.declared.scalar.Scalar.{Scalar}
use Rattle.qs_memory.specs.declared.scalar.Scalar.TheVariants as scalars
use Rattle.qs_core.specs.Trees.{CoreExprTree, CoreStmtTree}
use Rattle.qs_core.specs.Trees as core
use Rattle.qs_meaning.specs.Typed.{Conversion, Expr, logical_and, logical_or, conditional}
use Rattle.qs_elaborate_bodies.specs.Literals.{is_literal, converted_core}
use Rattle.qs_elaborate_bodies.specs.Acting.{acts}
use Rattle.qs_elaborate_bodies.specs.Laws.{has_any}
use Rattle.qs_elaborate_bodies.specs.Lists.{behind, and_behind, or_behind, choice_behind}
use Rattle.qs_elaborate_bodies.specs.Parts.{Temporaries, with_temporary, Valued, Location, plain, pointed, pure, joined, in_temporary, saved, saved_if, at_address, address_saved_if}
use Rattle.qs_elaborate_bodies.specs.Expressions.{Written, and_branching, or_branching, choice_branching, choice_joined, write_at, write_valued, expression_core}
use Rattle.qs_elaborate_bodies.proofs.ActingLaws.{acts_exactly, quiet}
use Rattle.qs_elaborate_bodies.proofs.UnchangedValues.{neither_left, neither_right, if_off, quiet_temporaries, quiet_value}

-- ---- operands

pub saved_is : (g : Valued) → saved g ≡ behind g (saved (pure g.value g.temporaries))
saved_is g = by_literal (is_literal g.value)
  where
    by_literal : (z : Bool) → (if z then g else in_temporary g) ≡ behind g (if z then pure g.value g.temporaries else in_temporary (pure g.value g.temporaries))
    by_literal true = ap (λ (ss : List CoreStmtTree). record g { statements = ss }) (sym (append-nil g.statements))
    by_literal false = refl

pub saved_if_is : (z : Bool) (g : Valued) → saved_if z g ≡ behind g (saved_if z (pure g.value g.temporaries))
saved_if_is true g = saved_is g
saved_if_is false g = ap (λ (ss : List CoreStmtTree). record g { statements = ss }) (sym (append-nil g.statements))

pub address_is : (z : Bool) (g : Valued) → address_saved_if z (at_address g) ≡ at_address (saved_if z g)
address_is true g = refl
address_is false g = refl

-- ---- assignments

pub write_is : (s : Scalar) (l : Location) (ss : List CoreStmtTree) (a : CoreExprTree) (ts : Temporaries) → write_at s l ss a ts ≡ behind (record { statements = ss; value = a; temporaries = ts }) (write_at s l [] a ts)
write_is s (plain x) ss a ts = refl
write_is s (pointed p) ss a ts = refl

-- ---- `&&`, `||` and `?:`

pub and_is : (a b : Expr) (ts : Temporaries) → expression_core (logical_and a b) ts ≡ behind (expression_core a ts) (and_behind (expression_core a ts).value b (expression_core a ts).temporaries)
and_is a b ts = by_acts (acts b) (expression_core a ts) (expression_core b (expression_core a ts).temporaries)
  where
    by_acts : (z : Bool) (g h : Valued) → (if z then and_branching g h else joined core.logical_and g h) ≡ behind g (if z then and_branching (pure g.value g.temporaries) h else joined core.logical_and (pure g.value g.temporaries) h)
    by_acts true g h = refl
    by_acts false g h = refl

pub or_is : (a b : Expr) (ts : Temporaries) → expression_core (logical_or a b) ts ≡ behind (expression_core a ts) (or_behind (expression_core a ts).value b (expression_core a ts).temporaries)
or_is a b ts = by_acts (acts b) (expression_core a ts) (expression_core b (with_temporary (expression_core a ts).temporaries scalars.Int)) (expression_core b (expression_core a ts).temporaries)
  where
    by_acts : (z : Bool) (g h j : Valued) → (if z then or_branching g h else joined core.logical_or g j) ≡ behind g (if z then or_branching (pure g.value g.temporaries) h else joined core.logical_or (pure g.value g.temporaries) j)
    by_acts true g h j = refl
    by_acts false g h j = refl

pub choice_is : (s : Scalar) (a : Expr) (second third : Conversion) (b c : Expr) (ts : Temporaries) →
    expression_core (conditional s a second third b c) ts
    ≡ behind (expression_core a ts) (choice_behind s second third (expression_core a ts).value (expression_core b (expression_core a ts).temporaries) c)
choice_is s a second third b c ts =
    let first = expression_core a ts in
    let met = expression_core b first.temporaries in
    ap (λ z. if z || acts c then choice_branching s second third first met (expression_core c (with_temporary met.temporaries s)) else choice_joined second third first met (expression_core c met.temporaries))
    (sym (acts_exactly b first.temporaries))
    ∙ by_acts (has_any met.statements || acts c) first met (expression_core c (with_temporary met.temporaries s)) (expression_core c met.temporaries)
  where
    by_acts : (z : Bool) (g m h j : Valued) →
        (if z then choice_branching s second third g m h else choice_joined second third g m j)
        ≡ behind g (if z then choice_branching s second third (pure g.value []) m h else choice_joined second third (pure g.value []) m j)
    by_acts true g m h j = refl
    by_acts false g m h j = refl

-- ---- what was pushed in two steps: g, and then what follows its value and its temporaries

pub pushed_behind : (F : CoreExprTree → Temporaries → Valued) (g whole : Valued) (o p q : List CoreStmtTree) (v : CoreExprTree) (ts : Temporaries)
    → whole ≡ behind g (F g.value g.temporaries) → p ≡ o ++ g.statements → v ≡ g.value → ts ≡ g.temporaries → q ≡ p ++ (F v ts).statements
    → q ≡ o ++ whole.statements
pushed_behind F g whole o p q v ts w hp hv ht hq =
    hq
    ∙ ap (λ l. l ++ (F v ts).statements) hp
    ∙ append_assoc o g.statements (F v ts).statements
    ∙ ap (λ x. o ++ (g.statements ++ (F x ts).statements)) hv
    ∙ ap (λ x. o ++ (g.statements ++ (F g.value x).statements)) ht
    ∙ ap (λ (x : Valued). o ++ x.statements) (sym w)

pub value_behind : (F : CoreExprTree → Temporaries → Valued) (g whole : Valued) (v : CoreExprTree) (ts : Temporaries) (x : CoreExprTree)
    → whole ≡ behind g (F g.value g.temporaries) → v ≡ g.value → ts ≡ g.temporaries → x ≡ (F v ts).value → x ≡ whole.value
value_behind F g whole v ts x w hv ht hx = hx ∙ ap (λ y. (F y ts).value) hv ∙ ap (λ y. (F g.value y).value) ht ∙ ap (λ (y : Valued). y.value) (sym w)

pub temporaries_behind : (F : CoreExprTree → Temporaries → Valued) (g whole : Valued) (v : CoreExprTree) (ts us : Temporaries)
    → whole ≡ behind g (F g.value g.temporaries) → v ≡ g.value → ts ≡ g.temporaries → us ≡ (F v ts).temporaries → us ≡ whole.temporaries
temporaries_behind F g whole v ts us w hv ht hx = hx ∙ ap (λ y. (F y ts).temporaries) hv ∙ ap (λ y. (F g.value y).temporaries) ht ∙ ap (λ (y : Valued). y.temporaries) (sym w)

-- an assignment, and then its write
write_same : (w : Written) (s : Scalar) (l : Location) (a : CoreExprTree) (ts : Temporaries)
    → s ≡ w.scalar → l ≡ w.location → a ≡ w.value → ts ≡ w.temporaries
    → write_at s l [] a ts ≡ write_at w.scalar w.location [] w.value w.temporaries
write_same w s l a ts hs hl ha ht =
    ap (λ x. write_at x l [] a ts) hs
    ∙ ap (λ x. write_at w.scalar x [] a ts) hl
    ∙ ap (λ x. write_at w.scalar w.location [] x ts) ha
    ∙ ap (λ x. write_at w.scalar w.location [] w.value x) ht

pub write_pushed : (w : Written) (s : Scalar) (l : Location) (a : CoreExprTree) (ts : Temporaries) (o p q : List CoreStmtTree)
    → s ≡ w.scalar → l ≡ w.location → a ≡ w.value → ts ≡ w.temporaries
    → p ≡ o ++ w.statements → q ≡ p ++ (write_at s l [] a ts).statements → q ≡ o ++ (write_valued w).statements
write_pushed w s l a ts o p q hs hl ha ht hp hq =
    hq
    ∙ ap (λ x. x ++ (write_at s l [] a ts).statements) hp
    ∙ append_assoc o w.statements (write_at s l [] a ts).statements
    ∙ ap (λ (x : Valued). o ++ (w.statements ++ x.statements)) (write_same w s l a ts hs hl ha ht)
    ∙ ap (λ (x : Valued). o ++ x.statements) (sym (write_is w.scalar w.location w.statements w.value w.temporaries))

-- ---- whether the second operand acts, by its statements

nothing_pushed : (o : List CoreStmtTree) (g : Valued) → g.statements ≡ [] → o ≡ o ++ g.statements
nothing_pushed o g h = sym (append-nil o) ∙ ap (λ l. o ++ l) (sym h)

pub or_off : (v : CoreExprTree) (b : Expr) (ts : Temporaries) → acts b ≡ false → or_behind v b ts ≡ joined core.logical_or (pure v ts) (expression_core b ts)
or_off v b ts h = if_off (acts b) _ _ h

pub or_quiet_statements : (o : List CoreStmtTree) (v : CoreExprTree) (b : Expr) (ts : Temporaries) → acts b ≡ false → o ≡ o ++ (or_behind v b ts).statements
or_quiet_statements o v b ts h = nothing_pushed o (or_behind v b ts) (ap (λ (g : Valued). g.statements) (or_off v b ts h) ∙ quiet b ts h)

-- the temporary that was added for nothing is taken away again
pub or_quiet_value : (v : CoreExprTree) (b : Expr) (ts : Temporaries) → acts b ≡ false
    → core.logical_or v (expression_core b (with_temporary ts scalars.Int)).value ≡ (or_behind v b ts).value
or_quiet_value v b ts h = ap (core.logical_or v) (quiet_value b (with_temporary ts scalars.Int) ts h) ∙ ap (λ (g : Valued). g.value) (sym (or_off v b ts h))

pub taken_away : (b : Expr) (ts : Temporaries) (s : Scalar) → acts b ≡ false → take (length ts) (expression_core b (with_temporary ts s)).temporaries ≡ ts
taken_away b ts s h = ap (take (length ts)) (quiet_temporaries b (with_temporary ts s) h) ∙ take_at ts (s ∷ []) (length ts) refl

pub or_quiet_temporaries : (v : CoreExprTree) (b : Expr) (ts : Temporaries) → acts b ≡ false
    → take (length ts) (expression_core b (with_temporary ts scalars.Int)).temporaries ≡ (or_behind v b ts).temporaries
or_quiet_temporaries v b ts h = taken_away b ts scalars.Int h ∙ sym (quiet_temporaries b ts h) ∙ ap (λ (g : Valued). g.temporaries) (sym (or_off v b ts h))

-- `?:`

pub choice_off : (s : Scalar) (second third : Conversion) (v : CoreExprTree) (met : Valued) (b : Expr) → (has_any met.statements || acts b) ≡ false
    → choice_behind s second third v met b ≡ choice_joined second third (pure v []) met (expression_core b met.temporaries)
choice_off s second third v met b h = if_off (has_any met.statements || acts b) _ _ h

no_any : (ss : List CoreStmtTree) → has_any ss ≡ false → ss ≡ []
no_any [] h = refl
no_any (s ∷ ss) h = cc

pub choice_quiet_statements : (o : List CoreStmtTree) (s : Scalar) (second third : Conversion) (v : CoreExprTree) (met : Valued) (b : Expr)
    → (has_any met.statements || acts b) ≡ false → o ≡ o ++ (choice_behind s second third v met b).statements
choice_quiet_statements o s second third v met b h =
    let p : has_any met.statements ≡ false = neither_left (has_any met.statements) (acts b) h in
    let q : acts b ≡ false = neither_right (has_any met.statements) (acts b) h in
    nothing_pushed o (choice_behind s second third v met b)
    (ap (λ (g : Valued). g.statements) (choice_off s second third v met b h)
    ∙ ap (λ l. l ++ (expression_core b met.temporaries).statements) (no_any met.statements p)
    ∙ quiet b met.temporaries q)

pub choice_quiet_value : (s : Scalar) (second third : Conversion) (v : CoreExprTree) (met : Valued) (b : Expr)
    → (has_any met.statements || acts b) ≡ false
    → core.conditional v (converted_core second met.value) (converted_core third (expression_core b (with_temporary met.temporaries s)).value)
    ≡ (choice_behind s second third v met b).value
choice_quiet_value s second third v met b h =
    let q : acts b ≡ false = neither_right (has_any met.statements) (acts b) h in
    ap (λ x. core.conditional v (converted_core second met.value) (converted_core third x)) (quiet_value b (with_temporary met.temporaries s) met.temporaries q)
    ∙ ap (λ (g : Valued). g.value) (sym (choice_off s second third v met b h))

pub choice_quiet_temporaries : (s : Scalar) (second third : Conversion) (v : CoreExprTree) (met : Valued) (b : Expr)
    → (has_any met.statements || acts b) ≡ false
    → take (length met.temporaries) (expression_core b (with_temporary met.temporaries s)).temporaries ≡ (choice_behind s second third v met b).temporaries
choice_quiet_temporaries s second third v met b h =
    let q : acts b ≡ false = neither_right (has_any met.statements) (acts b) h in
    taken_away b met.temporaries s q ∙ sym (quiet_temporaries b met.temporaries q)
    ∙ ap (λ (g : Valued). g.temporaries) (sym (choice_off s second third v met b h))
