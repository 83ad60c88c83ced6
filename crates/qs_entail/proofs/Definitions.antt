-- Where definitions are in order, each name has the value of the body of its first definition.
use Rattle.std.proofs.Common.{◌≡◌, ℕ, List, [], ◌∷◌, ◌++◌, length, refl, sym, ap, ◌∙◌, subst, true, false, ap₂}
use Rattle.std.specs.Prelude.{pos, ◌+ℤ◌, ◌-ℤ◌, ◌*ℤ◌, Bool, ◌&&◌, ◌||◌, if◌then◌else◌, int_le, int_lt, Option, Some, None, Ok}
use Rattle.std.specs.Prelude.{not as flip}
use Rattle.std.specs.Ordering.{int_eq}
use Rattle.std.proofs.lemmas.List.Folds.{list_any-append}
use Rattle.std.proofs.lemmas.Bool.{and_parts, and_from}
use Rattle.qs_assert.specs.declared.define.Define.{Define}
use Rattle.qs_assert.specs.Order.{names_known, all_names_known, is_among, order_fault_behind, IsInOrder}
use Rattle.qs_assert.specs.Bounds.{Setting, same_name, with_definition, with_definitions}
use Rattle.qs_assert.specs.Trees.{TermTree, number, variable, add, sub, mul, div, wrapu, wraps, bits, TermTrees, no_terms, term_and, CondTree, le, lt, eq, ne, not, and, or, CondTrees, no_conds, cond_and, AssertionTree, natural, infinity, cost, num, total, greatest, product, guard, choose, named, AssertionTrees, no_assertions, assertion_and}
use Rattle.qs_assert.specs.Values.{State, wrapped_unsigned, wrapped_signed, bit_length, quotient, natural_part, term_value, sum_of_terms, product_of_terms, holds, all_hold, some_holds, Extended, finite, infinite, or_infinite, value, sum_of, greatest_of, product_of, plus, greater, times}
use Rattle.qs_entail.specs.Faults.{definition}
use Rattle.qs_entail.specs.Meaning.{defined_by, InRange}
use Rattle.qs_entail.proofs.PushingLaws.{made}

abbrev Names : Type 0
Names = List ℕ → Option Extended

abbrev with_names : State → Names → State
with_names s e = record s { names = e }

-- ---- terms and conditions read no names

mutual
  term_apart : (t : TermTree) (s : State) (e f : Names) → term_value t (with_names s e) ≡ term_value t (with_names s f)
  term_apart (number k) s e f = refl
  term_apart (variable x) s e f = refl
  term_apart (add ts) s e f = (terms_apart ts s e f).0
  term_apart (sub t u) s e f = ap₂ (λ x y. x -ℤ y) (term_apart t s e f) (term_apart u s e f)
  term_apart (mul ts) s e f = (terms_apart ts s e f).1
  term_apart (div t k) s e f = ap (λ z. quotient z k) (term_apart t s e f)
  term_apart (wrapu t) s e f = ap wrapped_unsigned (term_apart t s e f)
  term_apart (wraps t) s e f = ap wrapped_signed (term_apart t s e f)
  term_apart (bits t) s e f = ap (λ z. pos (bit_length z)) (term_apart t s e f)

  terms_apart : (ts : TermTrees) (s : State) (e f : Names) → (sum_of_terms ts (with_names s e) ≡ sum_of_terms ts (with_names s f)) × (product_of_terms ts (with_names s e) ≡ product_of_terms ts (with_names s f))
  terms_apart no_terms s e f = (refl, refl)
  terms_apart (term_and t ts) s e f =
      let a = term_apart t s e f in
      let b = terms_apart ts s e f in
      (ap₂ (λ x y. x +ℤ y) a b.0, ap₂ (λ x y. x *ℤ y) a b.1)

mutual
  condition_apart : (c : CondTree) (s : State) (e f : Names) → holds c (with_names s e) ≡ holds c (with_names s f)
  condition_apart (le t u) s e f = ap₂ int_le (term_apart t s e f) (term_apart u s e f)
  condition_apart (lt t u) s e f = ap₂ int_lt (term_apart t s e f) (term_apart u s e f)
  condition_apart (eq t u) s e f = ap₂ int_eq (term_apart t s e f) (term_apart u s e f)
  condition_apart (ne t u) s e f = ap flip (ap₂ int_eq (term_apart t s e f) (term_apart u s e f))
  condition_apart (not c) s e f = ap flip (condition_apart c s e f)
  condition_apart (and cs) s e f = (conditions_apart cs s e f).0
  condition_apart (or cs) s e f = (conditions_apart cs s e f).1

  conditions_apart : (cs : CondTrees) (s : State) (e f : Names) → (all_hold cs (with_names s e) ≡ all_hold cs (with_names s f)) × (some_holds cs (with_names s e) ≡ some_holds cs (with_names s f))
  conditions_apart no_conds s e f = (refl, refl)
  conditions_apart (cond_and c cs) s e f =
      let a = condition_apart c s e f in
      let b = conditions_apart cs s e f in
      (ap₂ (λ x y. x && y) a b.0, ap₂ (λ x y. x || y) a b.1)

-- ---- an assertion reads only the names in it

abbrev Agree : (List ℕ → Bool) → Names → Names → Type 0
Agree known e f = (n : List ℕ) → known n ≡ true → or_infinite (e n) ≡ or_infinite (f n)

mutual
  value_agrees : (a : AssertionTree) (known : List ℕ → Bool) (s : State) (e f : Names) → names_known a known ≡ true → Agree known e f → value a (with_names s e) ≡ value a (with_names s f)
  value_agrees (natural n) known s e f k g = refl
  value_agrees infinity known s e f k g = refl
  value_agrees (cost i) known s e f k g = refl
  value_agrees (num t) known s e f k g = ap (λ z. finite (natural_part z)) (term_apart t s e f)
  value_agrees (total parts) known s e f k g = (values_agree parts known s e f k g).0
  value_agrees (greatest parts) known s e f k g = (values_agree parts known s e f k g).1
  value_agrees (product parts) known s e f k g = (values_agree parts known s e f k g).2
  value_agrees (guard c a) known s e f k g = ap₂ (λ x y. if x then y else infinite) (condition_apart c s e f) (value_agrees a known s e f k g)
  value_agrees (choose c a b) known s e f k g =
      let k' = and_parts (names_known a known) (names_known b known) k in
      ap₂ (λ x y. if x then y else value b (with_names s e)) (condition_apart c s e f) (value_agrees a known s e f k'.0 g)
      ∙ ap (λ y. if holds c (with_names s f) then value a (with_names s f) else y) (value_agrees b known s e f k'.1 g)
  value_agrees (named n) known s e f k g = g n k

  values_agree : (ps : AssertionTrees) (known : List ℕ → Bool) (s : State) (e f : Names) → all_names_known ps known ≡ true → Agree known e f → (sum_of ps (with_names s e) ≡ sum_of ps (with_names s f)) × (greatest_of ps (with_names s e) ≡ greatest_of ps (with_names s f)) × (product_of ps (with_names s e) ≡ product_of ps (with_names s f))
  values_agree no_assertions known s e f k g = (refl, refl, refl)
  values_agree (assertion_and a ps) known s e f k g =
      let b = and_parts (names_known a known) (all_names_known ps known) k in
      let x = value_agrees a known s e f b.0 g in
      let y = values_agree ps known s e f b.1 g in
      (ap₂ plus x y.0, ap₂ greater x y.1, ap₂ times x y.2)

-- ---- definitions

-- all mention only names that are known, or defined earlier
abbrev in_order : List Define → (List ℕ → Bool) → Bool
in_order [] known = true
in_order (d ∷ ds) known = names_known d.body known && in_order ds (λ n. known n || same_name n d.name)

or_one : (a b : Bool) → (a || (b || false)) ≡ (a || b)
or_one true b = refl
or_one false true = refl
or_one false false = refl

one_more_name : (earlier : List Define) (d : Define) (known : List ℕ → Bool) → known ≡ is_among earlier → (λ (n : List ℕ). known n || same_name n d.name) ≡ is_among (earlier ++ d ∷ [])
one_more_name earlier d known e =
    λ i n. (ap (λ (k : List ℕ → Bool). k n || same_name n d.name) e ∙ (sym (or_one (is_among earlier n) (same_name n d.name)) ∙ sym (list_any-append (λ (c : Define). same_name n c.name) earlier (d ∷ [])))) i

no_fault_here : (b : Bool) (x : Option ℕ) (i : ℕ) → (if b then x else Some i) ≡ None → (b ≡ true) × (x ≡ None)
no_fault_here true x i h = (refl, h)
no_fault_here false x i h = cc

orders : (ds earlier : List Define) (known : List ℕ → Bool) → known ≡ is_among earlier → order_fault_behind ds earlier ≡ None → in_order ds known ≡ true
orders [] earlier known e h = refl
orders (d ∷ ds) earlier known e h =
    let k = no_fault_here (names_known d.body (is_among earlier)) (order_fault_behind ds (earlier ++ d ∷ [])) (length earlier) h in
    and_from (names_known d.body known) (in_order ds (λ n. known n || same_name n d.name)) (ap (names_known d.body) e ∙ k.0)
    (orders ds (earlier ++ d ∷ []) (λ n. known n || same_name n d.name) (one_more_name earlier d known e) k.1)

-- only the names change
pub only_names : (ds : List Define) (g : Setting) → (with_definitions ds g).state ≡ with_names g.state (with_definitions ds g).state.names
only_names [] g = refl
only_names (d ∷ ds) g = only_names ds (with_definition d g)

-- what is defined stays

abbrev has_value : Option Extended → Bool
has_value o = elim o [ Some v ↦ true | None ↦ false ]

pub defined_stays : (d : Define) (g : Setting) (n : List ℕ) (v : Extended) → g.state.names n ≡ Some v → (with_definition d g).state.names n ≡ Some v
defined_stays d g n v h =
    ap (λ b. if b then g.state.names n else (if same_name n d.name then Some (value d.body g.state) else None)) (ap has_value h) ∙ h

pub undefined_takes : (d : Define) (g : Setting) (n : List ℕ) → g.state.names n ≡ None → (with_definition d g).state.names n ≡ (if same_name n d.name then Some (value d.body g.state) else None)
undefined_takes d g n h = ap (λ b. if b then g.state.names n else (if same_name n d.name then Some (value d.body g.state) else None)) (ap has_value h)

pub kept : (ds : List Define) (g : Setting) (n : List ℕ) (v : Extended) → g.state.names n ≡ Some v → (with_definitions ds g).state.names n ≡ Some v
kept [] g n v h = h
kept (d ∷ ds) g n v h = kept ds (with_definition d g) n v (defined_stays d g n v h)

abbrev AllValued : (List ℕ → Bool) → Setting → Type 0
AllValued known g = (m : List ℕ) → known m ≡ true → (v : Extended) × (g.state.names m ≡ Some v)

one_more : (d : Define) (g : Setting) (known : List ℕ → Bool) → AllValued known g → AllValued (λ n. known n || same_name n d.name) (with_definition d g)
one_more d g known k m h = by (known m) (same_name m d.name) (g.state.names m) refl (k m) h refl
  where
    by : (x y : Bool) (o : Option Extended) → g.state.names m ≡ o → (x ≡ true → (v : Extended) × (g.state.names m ≡ Some v)) → (x || y) ≡ true → y ≡ same_name m d.name → (v : Extended) × ((with_definition d g).state.names m ≡ Some v)
    by x y (Some v) e k h t = (v, defined_stays d g m v e)
    by true y None e k h t = let z = k refl in let c = z.1 in absurd cc
    by false true None e k h t = (value d.body g.state, undefined_takes d g m e ∙ ap (λ b. if b then Some (value d.body g.state) else None) (sym t))
    by false false None e k h t = cc

given : (ds : List Define) (g : Setting) (known : List ℕ → Bool) → in_order ds known ≡ true → AllValued known g → (n : List ℕ) (body : AssertionTree) → definition ds n ≡ Ok body → g.state.names n ≡ None → or_infinite ((with_definitions ds g).state.names n) ≡ value body (with_definitions ds g).state
given [] g known o k n body h none = cc
given (d ∷ ds) g known o k n body h none =
    let b = and_parts (names_known d.body known) (in_order ds (λ n. known n || same_name n d.name)) o in
    by (same_name n d.name) refl b.0 h (given ds (with_definition d g) (λ n. known n || same_name n d.name) b.1 (one_more d g known k) n body)
  where
    final : State
    final = (with_definitions ds (with_definition d g)).state

    by : (t : Bool) → same_name n d.name ≡ t → names_known d.body known ≡ true → (if t then Ok d.body else definition ds n) ≡ Ok body → (definition ds n ≡ Ok body → (with_definition d g).state.names n ≡ None → or_infinite ((with_definitions ds (with_definition d g)).state.names n) ≡ value body (with_definitions ds (with_definition d g)).state) → or_infinite ((with_definitions ds (with_definition d g)).state.names n) ≡ value body (with_definitions ds (with_definition d g)).state
    by true t kn h next =
        let here : (with_definition d g).state.names n ≡ Some (value d.body g.state) = undefined_takes d g n none ∙ ap (λ b. if b then Some (value d.body g.state) else None) t in
        let stays = kept ds (with_definition d g) n (value d.body g.state) here in
        let after = (with_definitions ds (with_definition d g)).state.names in
        let same : d.body ≡ body = made d.body body h in
        ap or_infinite stays
        ∙ value_agrees d.body known g.state g.state.names after kn
        (λ m sm. let x = k m sm in ap or_infinite x.1 ∙ sym (ap or_infinite (kept ds (with_definition d g) m x.0 (defined_stays d g m x.0 x.1))))
        ∙ ap (λ s. value d.body s) (sym (only_names ds (with_definition d g)))
        ∙ ap (λ a. value a (with_definitions ds (with_definition d g)).state) same
    by false t kn h next = next h (undefined_takes d g n none ∙ ap (λ b. if b then Some (value d.body g.state) else None) t)

abbrev before_all : State → Setting
before_all s = record { state = record s { names = λ n. None }; wides = λ n. false }

pub names_given : (ds : List Define) (s : State) → IsInOrder ds → (n : List ℕ) (body : AssertionTree) → definition ds n ≡ Ok body → or_infinite ((defined_by ds s).names n) ≡ value body (defined_by ds s)
names_given ds s o n body h = given ds (before_all s) (λ n. false) (orders ds [] (λ n. false) refl o) (λ m h. cc) n body h refl

pub still_in_range : (ds : List Define) (s : State) → InRange s → InRange (defined_by ds s)
still_in_range ds s r = subst InRange (sym (only_names ds (before_all s))) (record { from_least = r.from_least; to_greatest = r.to_greatest })
