-- What is written for a function that passes on derives its entry, where each of its calls is paid.
use Rattle.std.proofs.Common.{◌≡◌, ◌==◌, ℕ, refl, sym, ap, ◌∙◌, subst, Bool, true, false, List, [], ◌∷◌, length, Ok, Some, None}
use Rattle.std.specs.Prelude.{◌&&◌, ◌||◌, not, if◌then◌else◌, Option}
use Rattle.std.specs.List.{slice_get, find, list_any}
use Rattle.std.specs.Option.{option_or}
use Rattle.std.proofs.lemmas.Bool.{both_ways, eq-eqb, or_parts, or_right, not-true, false_from_ne_true}
use Rattle.qs_base.specs.Results.{fault_or}
use Rattle.qs_memory.specs.declared.scalar.Scalar.{Scalar}
use Rattle.qs_assert.specs.declared.define.Define.{Define}
use Rattle.qs_assert.specs.declared.variable.Var.{Var}
use Rattle.qs_assert.specs.declared.variable.VarKind.{VarKind}
use Rattle.qs_assert.specs.declared.variable.VarKind.TheVariants as kinds
use Rattle.qs_assert.specs.Images.{Images, assertion_image}
use Rattle.qs_assert.specs.Order.{IsInOrder}
use Rattle.qs_assert.specs.Sameness.{same_assertion}
use Rattle.qs_assert.specs.Substitution.{one_image, same_kind, same_number_type, same_variable}
use Rattle.qs_assert.specs.Trees.{TermTree, variable, CondTree, eq, AssertionTree, guard}
use Rattle.qs_assert.specs.Variables.{variables}
use Rattle.qs_assert.proofs.SamenessLaws.{assertion_same, variable_self}
use Rattle.qs_core.specs.declared.numbers.Target.{Target}
use Rattle.qs_core.specs.declared.numbers.Target.TheVariants as targets
use Rattle.qs_core.specs.Expressions.{type_of}
use Rattle.qs_core.specs.Fits.{stmts_fit}
use Rattle.qs_core.specs.Interfaces.{variable_type}
use Rattle.qs_core.specs.Trees as core
use Rattle.qs_core.specs.Trees.{CoreExprTree, CoreFunctionTree, CoreUnitTree}
use Rattle.qs_entail.specs.Certificates.{CertTree}
use Rattle.qs_entail.specs.Verdicts.{fault, verdict}
use Rattle.qs_triples.specs.Derivations.{EntryTree, ProofsTree}
use Rattle.qs_triples.specs.Entries.{function_posts, scope_of, order_told, mentions_fault, entry_told, result_at_end, ends_in_return, fault_of_known, IsDerived}
use Rattle.qs_triples.specs.ExpressionTerms.{var, expression_term}
use Rattle.qs_triples.specs.Mentions.{has_plain_parameter, may_mention, in_body, in_pre, in_post, first_other, first_of, first_of_destination, old_kind, as_old, as_plain}
use Rattle.qs_triples.specs.Rules.{Answer, DerivFault, Scope, in_precondition, in_postcondition, unless, replaced, returned_rule, target_kind, pre}
use Rattle.qs_triples.specs.Valuations.{is_own}
use Rattle.qs_triples.proofs.ValuationLaws.{kind_equal}
use Rattle.qs_recur.specs.Around.{shown, Ways, written}
use Rattle.qs_recur.specs.Bodies.{all_calls_made, is_variable, one_assigns, last_end_passes}
use Rattle.qs_recur.specs.Needs.{Preconditions, unsigned, is_unsigned, greatest_of, end_fits}
use Rattle.qs_recur.specs.Passing.{each_once, passed_on, is_kept, guarded_by, assumed, all_entered, all_left, passing_ways, pay_passing, passing_entry}
use Rattle.qs_recur.proofs.AroundLaws.{only, IsWithoutChoice, Reaches, IsClean, Enough, Fits, stmt_ok}
use Rattle.qs_recur.proofs.CountingLaws.{pass, own_is, placed}
use Rattle.qs_recur.proofs.FitLaws.{Ends, Each, Paid, statements_fit}
use Rattle.qs_recur.proofs.GuardedLaws.{in_each_once, each_once_every, guards_and, guarded, assumed_holds, only_one, guards_have_places, guarded_plain, entered_is, all_entered_holds}
use Rattle.qs_recur.proofs.NeedLaws.{Every, IsCounter, IsNeed, is_in, need_branch, need_variables, need_stays, need_image, need_left}

-- ---- lists of variables

pub every_map : (P Q : Var → Type 0) → ((v : Var) → P v → Q v) → (xs : List Var) → Every P xs → Every Q xs
every_map P Q next [] h = tt
every_map P Q next (x ∷ xs) h = (next x h.0, every_map P Q next xs h.1)

every_and : (P Q : Var → Type 0) (xs : List Var) → Every P xs → Every Q xs → Every (λ v. P v × Q v) xs
every_and P Q [] h i = tt
every_and P Q (x ∷ xs) h i = ((h.0, i.0), every_and P Q xs h.1 i.1)

none_found : (p : Var → Bool) (xs : List Var) → Every (λ v. p v ≡ false) xs → find p xs ≡ None
none_found p [] h = refl
none_found p (x ∷ xs) h = pass p x xs h.0 (none_found p xs h.1)

none_of : (p : Var → Bool) (xs : List Var) → list_any p xs ≡ false → Every (λ v. p v ≡ false) xs
none_of p [] h = tt
none_of p (x ∷ xs) h = let n = or_parts (p x) (list_any p xs) h in (n.0, none_of p xs n.1)

all_in : (xs ys : List Var) → ((v : Var) → is_in v xs ≡ true → is_in v ys ≡ true) → Every (λ v. is_in v ys ≡ true) xs
all_in [] ys within = tt
all_in (x ∷ xs) ys within = (
  within x (ap (λ (b : Bool). b || is_in x xs) (variable_self x)),
  all_in xs ys (λ v h. within v (or_right (same_variable x v) (is_in v xs) h)),
)

none_at_once : (xs : List Var) → each_once xs ≡ [] → xs ≡ []
none_at_once [] h = refl
none_at_once (x ∷ xs) h = cc

-- ---- an assertion that its images leave

unchanged :
    (a : AssertionTree) → ((m : Images) → Every (λ v. m v ≡ variable v) (variables a) → assertion_image m a ≡ a)
    → (k : VarKind) (s : Scalar) (t : Option TermTree) → Every (λ v. same_kind v.kind k ≡ false) (variables a) → replaced (var k s) t a ≡ Ok a
unchanged a stays k s None h = ap (λ (found : Option Var). unless found (Ok a)) (none_found (λ v. same_kind v.kind k) (variables a) h)
unchanged a stays k s (Some t) h =
    ap (λ (b : AssertionTree). Ok b)
    (stays (one_image (var k s) t)
    (every_map (λ v. same_kind v.kind k ≡ false) (λ v. one_image (var k s) t v ≡ variable v) (λ v e. ap (λ (b : Bool). if b && same_number_type v.number (var k s).number then t else variable v) e) (variables a) h))

-- ---- parameters that are passed on

-- a plain parameter of type `unsigned` that is never assigned
pub record IsPassed (function : CoreFunctionTree) (v : Var) : Type 0 where
  pub parameter : ℕ
  pub is : v ≡ unsigned (kinds.Plain parameter)
  pub plain : has_plain_parameter function parameter ≡ true
  pub type_is : is_unsigned (variable_type function parameter) ≡ true
  pub fixed : one_assigns parameter function.body ≡ false

-- its value at the entry
pub record IsEntered (function : CoreFunctionTree) (v : Var) : Type 0 where
  pub parameter : ℕ
  pub is : v ≡ unsigned (kinds.Old parameter)
  pub plain : has_plain_parameter function parameter ≡ true
  pub type_is : is_unsigned (variable_type function parameter) ≡ true

abbrev pub old_of : Var → Var
old_of v = record { kind = old_kind v.kind; number = v.number }

-- one of these is the parameter x
abbrev pub among : ℕ → List Var → Bool
among x ys = list_any (λ v. same_kind v.kind (kinds.Plain x)) ys

abbrev pub may_pass : List Var → Target → Bool
may_pass ys (targets.Variable j) = not (among j ys)
may_pass ys (targets.Temporary k) = true

pub others_than_passed : (ys : List Var) (y : Target) → ((x : ℕ) → among x ys ≡ true → is_variable x y ≡ false) → may_pass ys y ≡ true
others_than_passed ys (targets.Temporary k) h = refl
others_than_passed ys (targets.Variable j) h = by (among j ys) refl
  where
    by : (b : Bool) → among j ys ≡ b → not b ≡ true
    by true e = absurd (both_ways (j == j) (h j e) (eq-eqb j j refl))
    by false e = refl

module _ (function : CoreFunctionTree) where
  as_counter : (v : Var) → IsPassed function v → IsCounter v
  as_counter v h = record { parameter = h.parameter; is = h.is }

  entered : (v : Var) → IsPassed function v → IsEntered function (old_of v)
  entered v h = record { parameter = h.parameter; is = ap old_of h.is; plain = h.plain; type_is = h.type_is }

  passed_in_body : (v : Var) → IsPassed function v → not (may_mention function (in_body function) v) ≡ false
  passed_in_body v h =
      subst (λ (v : Var). not (may_mention function (in_body function) v) ≡ false) (sym h.is)
      (ap (λ (b : Bool). not (not b && is_own function (unsigned (kinds.Plain h.parameter)))) (placed (slice_get function.parameters h.parameter) h.plain)
      ∙ ap not (own_is (variable_type function h.parameter) h.type_is))

  passed_in_pre : (v : Var) → IsPassed function v → not (may_mention function (in_pre function) v) ≡ false
  passed_in_pre v h =
      subst (λ (v : Var). not (may_mention function (in_pre function) v) ≡ false) (sym h.is)
      (ap (λ (b : Bool). not (b && is_own function (unsigned (kinds.Plain h.parameter)))) h.plain ∙ ap not (own_is (variable_type function h.parameter) h.type_is))

  entered_in_body : (v : Var) → IsEntered function v → not (may_mention function (in_body function) v) ≡ false
  entered_in_body v h =
      subst (λ (v : Var). not (may_mention function (in_body function) v) ≡ false) (sym h.is)
      (ap (λ (b : Bool). not (b && is_own function (unsigned (kinds.Old h.parameter)))) h.plain ∙ ap not (own_is (variable_type function h.parameter) h.type_is))

  entered_in_post : (v : Var) → IsEntered function v → not (may_mention function (in_post function) v) ≡ false
  entered_in_post v h =
      subst (λ (v : Var). not (may_mention function (in_post function) v) ≡ false) (sym h.is)
      (ap (λ (b : Bool). not (b && is_own function (unsigned (kinds.Old h.parameter)))) h.plain ∙ ap not (own_is (variable_type function h.parameter) h.type_is))

  passed_no_temporary : (k : ℕ) (v : Var) → IsPassed function v → same_kind v.kind (kinds.Temporary k) ≡ false
  passed_no_temporary k v h = subst (λ (v : Var). same_kind v.kind (kinds.Temporary k) ≡ false) (sym h.is) refl

  entered_no_target : (y : Target) (v : Var) → IsEntered function v → same_kind v.kind (target_kind y) ≡ false
  entered_no_target (targets.Variable j) v h = subst (λ (v : Var). same_kind v.kind (kinds.Plain j) ≡ false) (sym h.is) refl
  entered_no_target (targets.Temporary k) v h = subst (λ (v : Var). same_kind v.kind (kinds.Temporary k) ≡ false) (sym h.is) refl

  entered_no_result : (v : Var) → IsEntered function v → same_kind v.kind kinds.Returned ≡ false
  entered_no_result v h = subst (λ (v : Var). same_kind v.kind kinds.Returned ≡ false) (sym h.is) refl

  plain_stays : (v : Var) → IsPassed function v → as_plain v ≡ variable v
  plain_stays v h = subst (λ (v : Var). as_plain v ≡ variable v) (sym h.is) refl

  plain_number : (i j : ℕ) → kinds.Plain i ≡ kinds.Plain j → i ≡ j
  plain_number i j h = cc

  unassigned : (ys : List Var) → Every (IsPassed function) ys → (x : ℕ) → among x ys ≡ true → one_assigns x function.body ≡ false
  unassigned [] h x m = cc
  unassigned (v ∷ ys) h x m = by (same_kind v.kind (kinds.Plain x)) refl (unassigned ys h.1 x)
    where
      by : (b : Bool) → same_kind v.kind (kinds.Plain x) ≡ b → (among x ys ≡ true → one_assigns x function.body ≡ false) → one_assigns x function.body ≡ false
      by true e later =
          subst (λ (x : ℕ). one_assigns x function.body ≡ false) (plain_number h.0.parameter x (sym (ap (λ (v : Var). v.kind) h.0.is) ∙ kind_equal v.kind (kinds.Plain x) e)) h.0.fixed
      by false e later = later (sym (ap (λ (b : Bool). b || among x ys) e) ∙ m)

-- ---- the entry

module _ (u : CoreUnitTree) (pres : Preconditions) (f : ℕ) (function : CoreFunctionTree) (stands : slice_get u.functions f ≡ Some function) (needs : List AssertionTree) (is : IsNeed (IsPassed function) (greatest_of needs)) where
  abbrev pub need : AssertionTree
  need = greatest_of needs

  abbrev ys : List Var
  ys = variables need

  abbrev pub xs : List Var
  xs = passed_on need

  abbrev pub held : AssertionTree
  held = guarded_by xs need

  abbrev post : AssertionTree
  post = assertion_image as_old need

  abbrev pub Passes : Var → Type 0
  Passes v = IsPassed function v

  abbrev Enters : Var → Type 0
  Enters v = IsEntered function v

  each_named : Every Passes ys
  each_named = need_variables Passes need is

  each_passed : Every Passes xs
  each_passed = each_once_every Passes ys each_named

  pub each_counts : Every IsCounter xs
  each_counts = every_map Passes IsCounter (as_counter function) xs each_passed

  post_is : IsNeed Enters post
  post_is = need_image Passes Enters as_old (entered function) need is

  each_entered : Every Enters (variables post)
  each_entered = need_variables Enters post post_is

  -- ---- what is needed before each statement

  of_guarded : (Q : Var → Type 0) (vs : List Var) → Every (λ v. Q v × Q (old_of v)) vs → Every Q ys → Every Q (variables (guarded_by vs need))
  of_guarded Q [] h e = e
  of_guarded Q (v ∷ vs) h e = (h.0.0, (h.0.1, of_guarded Q vs h.1 e))

  guarded_stays : (m : Images) (vs : List Var) → Every (λ v. m v ≡ variable v) (variables (guarded_by vs need)) → assertion_image m (guarded_by vs need) ≡ guarded_by vs need
  guarded_stays m [] h = need_stays Passes m need is h
  guarded_stays m (v ∷ vs) h =
      ap (λ (t : TermTree). guard (eq t (m (old_of v))) (assertion_image m (guarded_by vs need))) h.0
      ∙ ap (λ (t : TermTree). guard (eq (variable v) t) (assertion_image m (guarded_by vs need))) h.1.0
      ∙ ap (λ (a : AssertionTree). guard (is_kept v) a) (guarded_stays m vs h.1.1)

  held_stays : (m : Images) → Every (λ v. m v ≡ variable v) (variables held) → assertion_image m held ≡ held
  held_stays m h = guarded_stays m xs h

  held_plain : IsWithoutChoice held
  held_plain = guarded_plain xs need (λ b first. need_branch Passes b first need is)

  -- the same of all its variables, by what they are
  of_held : (Q : Var → Type 0) → ((v : Var) → Enters v → Q v) → Every Q ys → Every Q (variables held)
  of_held Q old h =
      of_guarded Q xs
      (each_once_every (λ v. Q v × Q (old_of v)) ys (every_and Q (λ v. Q (old_of v)) ys h (every_map Passes (λ v. Q (old_of v)) (λ v p. old (old_of v) (entered function v p)) ys each_named))) h

  held_fits : first_other function (in_body function) held ≡ None
  held_fits =
      let Q = λ (v : Var). not (may_mention function (in_body function) v) ≡ false in
      none_found (λ v. not (may_mention function (in_body function) v)) (variables held) (of_held Q (entered_in_body function) (every_map Passes Q (passed_in_body function) ys each_named))

  named_apart : (y : Target) → may_pass ys y ≡ true → Every (λ v. same_kind v.kind (target_kind y) ≡ false) ys
  named_apart (targets.Variable j) h = none_of (λ v. same_kind v.kind (kinds.Plain j)) ys (not-true (among j ys) h)
  named_apart (targets.Temporary k) h = every_map Passes (λ v. same_kind v.kind (kinds.Temporary k) ≡ false) (passed_no_temporary function k) ys each_named

  held_apart : (y : Target) → may_pass ys y ≡ true → Every (λ v. same_kind v.kind (target_kind y) ≡ false) (variables held)
  held_apart y h = of_held (λ v. same_kind v.kind (target_kind y) ≡ false) (entered_no_target function y) (named_apart y h)

  held_clean : IsClean (may_pass ys) held
  held_clean = record { assigned = λ y e h. unchanged held held_stays (target_kind y) (type_of e) (expression_term e) (held_apart y h); received = received }
    where
      received : (k : Option ℕ) → first_of_destination k held ≡ None
      received None = refl
      received (Some k) = none_found (λ v. same_kind v.kind (kinds.Temporary k)) (variables held) (held_apart (targets.Temporary k) refl)

  -- ---- what is left at the end

  post_stays : (m : Images) → Every (λ v. m v ≡ variable v) (variables post) → assertion_image m post ≡ post
  post_stays m h = need_stays Enters m post post_is h

  post_apart : (y : Target) → Every (λ v. same_kind v.kind (target_kind y) ≡ false) (variables post)
  post_apart y = every_map Enters (λ v. same_kind v.kind (target_kind y) ≡ false) (entered_no_target function y) (variables post) each_entered

  no_result : Every (λ v. same_kind v.kind kinds.Returned ≡ false) (variables post)
  no_result = every_map Enters (λ v. same_kind v.kind kinds.Returned ≡ false) (entered_no_result function) (variables post) each_entered

  post_clean : IsClean (may_pass ys) post
  post_clean = record { assigned = λ y e h. unchanged post post_stays (target_kind y) (type_of e) (expression_term e) (post_apart y); received = received }
    where
      received : (k : Option ℕ) → first_of_destination k post ≡ None
      received None = refl
      received (Some k) = none_found (λ v. same_kind v.kind (kinds.Temporary k)) (variables post) (post_apart (targets.Temporary k))

  post_kept : (e : Option CoreExprTree) → returned_rule e post ≡ Ok post
  post_kept None = ap (λ (found : Option Var). unless found (Ok post)) (none_found (λ v. same_kind v.kind kinds.Returned) (variables post) no_result)
  post_kept (Some e) = unchanged post post_stays kinds.Returned (type_of e) (expression_term e) no_result

  post_fits : first_other function (in_post function) post ≡ None
  post_fits =
      let Q = λ (v : Var). not (may_mention function (in_post function) v) ≡ false in
      none_found (λ v. not (may_mention function (in_post function) v)) (variables post) (every_map Enters Q (entered_in_post function) (variables post) each_entered)

  need_fits : first_other function (in_pre function) need ≡ None
  need_fits =
      let Q = λ (v : Var). not (may_mention function (in_pre function) v) ≡ false in
      none_found (λ v. not (may_mention function (in_pre function) v)) ys (every_map Passes Q (passed_in_pre function) ys each_named)

  -- ---- the ways to the end

  module _ (ds : List Define) where
    left_holds : (cs : List CondTree) → fault (assumed (length xs) (all_left xs need)) ds (only cs) held post ≡ None
    left_holds cs =
        assumed_holds xs (all_left xs need) ds cs only_one need post each_counts
        (need_left Passes (as_counter function) xs (guarded xs only_one) (guards_have_places xs) (guards_and xs cs) ds need is (all_in ys xs (λ v h. in_each_once v ys h)))

    end_reached : (v : Var) (vs : List Var) → xs ≡ v ∷ vs → Reaches ds held (shown (λ n. assumed (length (v ∷ vs)) (all_left (v ∷ vs) need))) post
    end_reached v vs e = (
      subst (λ (zs : List Var). (cs : List CondTree) → fault (assumed (length zs) (all_left zs need)) ds (only cs) held post ≡ None) e left_holds,
      false_from_ne_true (same_assertion held post)
          (λ h. subst (λ (a : AssertionTree). IsNeed Enters a) (sym (sym (ap (λ (zs : List Var). guarded_by zs need) e) ∙ assertion_same held post h)) post_is),
      λ b first. need_branch Enters b first post post_is,
    )

    post_is_held : xs ≡ [] → post ≡ held
    post_is_held e =
        need_stays Passes as_old need is (subst (λ (zs : List Var). Every (λ v. as_old v ≡ variable v) zs) (sym (none_at_once ys e)) tt)
        ∙ sym (ap (λ (zs : List Var). guarded_by zs need) e)

    enough : (vs : List Var) → xs ≡ vs → Enough (may_pass ys) held ds (passing_ways vs need) (function_posts post)
    enough [] e =
        let v = post_is_held e in
        record { leaves = record { on_break = v; on_continue = v; on_return = v; kept = post_kept }; next = v; clean = post_clean }
    enough (v ∷ vs) e =
        let w = end_reached v vs e in
        record { leaves = record { on_break = w; on_continue = w; on_return = w; kept = post_kept }; next = w; clean = post_clean }

  end_holds : (vs : List Var) → xs ≡ vs → end_fits function ys ≡ true → Ends (passing_ways vs need).next (last_end_passes function.body)
  end_holds [] e h = tt
  end_holds (v ∷ vs) e h = by ys e h
    where
      by : (zs : List Var) → each_once zs ≡ v ∷ vs → end_fits function zs ≡ true → last_end_passes function.body ≡ true
      by [] e h = cc
      by (z ∷ zs) e h = h

  -- ---- the whole

  module _ (proofs : ProofsTree) (order : IsInOrder proofs.defines) where
    abbrev pub scope : Scope
    scope = scope_of u proofs function

    abbrev pub pay : ℕ → List CoreExprTree → CertTree
    pay = pay_passing u pres function needs

    abbrev ways : Ways
    ways = passing_ways xs need

    abbrev pub IsKept : ℕ → Type 0
    IsKept x = among x ys ≡ true

    abbrev entry_with : EntryTree
    entry_with = passing_entry u pres function needs f

    no_result_at_end : (b : Bool) → (elim b as (λ b. Option Var) [ true ↦ None | false ↦ first_of kinds.Returned post ]) ≡ None
    no_result_at_end true = refl
    no_result_at_end false = none_found (λ v. same_kind v.kind kinds.Returned) (variables post) no_result

    entry_holds : verdict [] proofs.defines need (assertion_image as_plain held) (all_entered (length xs)) ≡ None
    entry_holds =
        ap (λ (a : AssertionTree). verdict [] proofs.defines need a (all_entered (length xs)))
        (entered_is xs need each_counts (need_stays Passes as_plain need is (every_map Passes (λ v. as_plain v ≡ variable v) (plain_stays function) ys each_named)))
        ∙ all_entered_holds xs need proofs.defines each_counts

    abbrev pub AllPaid : Type 0
    AllPaid = Each (Paid u function IsKept (may_pass ys) (others_than_passed ys) held pay scope) (all_calls_made function.body)

    body_fits : stmts_fit u function false false function.body ≡ true → end_fits function ys ≡ true → AllPaid → Fits held pay scope (may_pass ys) (core.seq function.body) ways
    body_fits typed end paid =
        statements_fit u function IsKept (may_pass ys) (others_than_passed ys) held pay scope function.body ways false false typed (unassigned function ys each_named) (end_holds xs refl end) paid

    pub passing_derived : stmts_fit u function false false function.body ≡ true → end_fits function ys ≡ true → AllPaid → IsDerived u proofs entry_with
    passing_derived typed end paid =
        let posts = function_posts post in
        let d = written held pay (core.seq function.body) ways in
        let walk = λ (a : Answer). fault_or (λ (fault : DerivFault). fault) a (λ p. entry_told (verdict [] proofs.defines need (assertion_image as_plain p) (all_entered (length xs)))) in
        let last = walk (pre d scope (core.seq function.body) posts) in
        let third = option_or (mentions_fault in_postcondition (result_at_end function post)) last in
        let second = option_or (mentions_fault in_postcondition (first_other function (in_post function) post)) third in
        ap (λ z. fault_of_known u proofs z entry_with) stands
        ∙ ap (λ z. option_or (order_told z) (option_or (mentions_fault in_precondition (first_other function (in_pre function) need)) second)) order
        ∙ ap (λ z. option_or (mentions_fault in_precondition z) second) need_fits
        ∙ ap (λ z. option_or (mentions_fault in_postcondition z) third) post_fits
        ∙ ap (λ z. option_or (mentions_fault in_postcondition z) last) (no_result_at_end (ends_in_return function.body))
        ∙ ap walk (stmt_ok held pay scope (may_pass ys) refl held_fits held_clean held_plain (core.seq function.body) ways posts (enough proofs.defines xs refl) (body_fits typed end paid))
        ∙ ap entry_told entry_holds
