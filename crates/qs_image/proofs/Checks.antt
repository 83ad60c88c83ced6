-- What the tests of reading test.
use Rattle.std.proofs.Common.{◌≡◌, inl, inr, cond, ℕ, zero, suc, ◌+◌, ◌-◌, ◌*◌, ◌/◌, ◌%◌, ◌^◌, ◌<◌, ◌≤◌, Bool, true, false, not, List, [], ◌∷◌, length, get_or, map, All, Option, Some, None, refl, sym, arith, le-leb}
use Rattle.std.specs.Prelude.{◌≢◌, ◌&&◌, ◌||◌, ◌==◌, nat_le, nat_lt, bytes_eq, codes, AllPairs, Contains}
use Rattle.std.specs.List.{list_any, position_from}
use Rattle.std.proofs.lemmas.Bool.{and_parts, and_from, or_cases, cases_Bool, not-true, eq-eqb, eqb-true}
use Rattle.std.proofs.Math.Bool.{or-true}
use Rattle.std.proofs.lemmas.Bool.Decides.{nat_tests}
use Rattle.std.proofs.lemmas.Slice.Eq.{bytes_eq-Decides}
use Rattle.std.proofs.lemmas.List.Elements.{All-head, All-tail, All-cons, All-nil, All-weaker}
use Rattle.std.proofs.lemmas.List.Folds.{list_any_none, list_any_at}
use Rattle.qs_base.specs.Bytes.{is_between}
use Rattle.qs_isa.specs.Addresses.{code_start}
use Rattle.qs_base.specs.Parameters.{most_parameters}
use Rattle.qs_image.specs.declared.version.Version.{Version}
use Rattle.qs_image.specs.declared.version.Version.TheVariants.{First, Second}
use Rattle.qs_image.specs.Image.{FunctionRecord, IsBetween, IsAddress, IsCost, HasCount, HasParameters}
use Rattle.qs_image.specs.Faults.{all_differ, is_address, is_cost, has_parameters}
use Rattle.qs_image.proofs.Tables.{Says}

-- ---- numbers

pub between-means : (low high n : ℕ) → is_between low high n ≡ true → IsBetween low high n
between-means low high n e = (grind (arith, nat_tests), grind (arith, nat_tests))

pub between-holds : (low high n : ℕ) → IsBetween low high n → is_between low high n ≡ true
between-holds low high n h = grind (arith, nat_tests)

pub address-means : (count a : ℕ) → is_address count a ≡ true → IsAddress count a
address-means count a e =
    let both = and_parts (nat_le code_start a && nat_lt a (code_start + 4 * count)) (a % 4 == 0) e in
    let ends = and_parts (nat_le code_start a) (nat_lt a (code_start + 4 * count)) both.0 in
    let low : code_start ≤ a = grind (arith, nat_tests) in
    let high : a < code_start + 4 * count = grind (arith, nat_tests) in
    let whole : a % 4 ≡ 0 = grind (arith, nat_tests) in
    record { k = (a - code_start) / 4; below = omega arith; at = omega arith }

pub address-holds : (count a : ℕ) → IsAddress count a → is_address count a ≡ true
address-holds count a h =
    let low : nat_le code_start a ≡ true = let le : code_start ≤ a = omega arith in grind (arith, nat_tests) in
    let high : nat_lt a (code_start + 4 * count) ≡ true = let lt : a < code_start + 4 * count = omega arith in grind (arith, nat_tests) in
    let whole : (a % 4 == 0) ≡ true = let e : a % 4 ≡ 0 = omega arith in grind (arith, nat_tests) in
    and_from _ _ (and_from _ _ low high) whole

pub cost-means : (cost : ℕ) → is_cost cost ≡ true → IsCost cost
cost-means cost e =
    let both = and_parts (is_between 1 (2 ^ 28) cost) (cost % 16 == 0) e in
    let ends = between-means 1 (2 ^ 28) cost both.0 in
    let whole : cost % 16 ≡ 0 = grind (arith, nat_tests) in
    record { k = cost / 16; multiple = omega arith; positive = ends.0; most = ends.1 }

pub cost-holds : (cost : ℕ) → IsCost cost → is_cost cost ≡ true
cost-holds cost h =
    let ends = between-holds 1 (2 ^ 28) cost (h.positive, h.most) in
    let whole : (cost % 16 == 0) ≡ true = let e : cost % 16 ≡ 0 = omega arith in grind (arith, nat_tests) in
    and_from _ _ ends whole

-- ---- each record

skipped : (b : Bool) (i : ℕ) (rest : Option ℕ) → cond (not b) (Some i) rest ≡ None → (b ≡ true) × (rest ≡ None)
skipped true i rest e = (refl, e)
skipped false i rest e = absurd cc

-- none fails a test: each passes it
none-fails : (test : FunctionRecord → Bool) (i : ℕ) (fs : List FunctionRecord) → position_from (λ f. not (test f)) i fs ≡ None → All (λ f. test f ≡ true) fs
none-fails test i [] e = All-nil (λ f. test f ≡ true)
none-fails test i (f ∷ fs) e =
    let both = skipped (test f) i (position_from (λ f. not (test f)) (i + 1) fs) e in
    All-cons (λ f. test f ≡ true) f fs both.0 (none-fails test (i + 1) fs both.1)

each-passes : (test : FunctionRecord → Bool) (i : ℕ) (fs : List FunctionRecord) → All (λ f. test f ≡ true) fs → position_from (λ f. not (test f)) i fs ≡ None
each-passes test i [] h = refl
each-passes test i (f ∷ fs) h =
    rw (All-head (λ f. test f ≡ true) f fs h) (each-passes test (i + 1) fs (All-tail (λ f. test f ≡ true) f fs h))

pub costs-mean : (i : ℕ) (fs : List FunctionRecord) → position_from (λ f. not (is_cost f.cost)) i fs ≡ None → All (λ f. IsCost f.cost) fs
costs-mean i fs e = All-weaker (λ f. is_cost f.cost ≡ true) (λ f. IsCost f.cost) (λ f h. cost-means f.cost h) fs (none-fails (λ f. is_cost f.cost) i fs e)

pub costs-hold : (i : ℕ) (fs : List FunctionRecord) → All (λ f. IsCost f.cost) fs → position_from (λ f. not (is_cost f.cost)) i fs ≡ None
costs-hold i fs h = each-passes (λ f. is_cost f.cost) i fs (All-weaker (λ f. IsCost f.cost) (λ f. is_cost f.cost ≡ true) (λ f h. cost-holds f.cost h) fs h)

-- ---- counts of parameters

main-has : (main_parameters : ℕ) (name main : List ℕ) (count : ℕ) → (not (bytes_eq name main) || count == main_parameters) ≡ true → name ≡ main → count ≡ main_parameters
main-has main_parameters name main count test named =
    let is : bytes_eq name main ≡ true = (bytes_eq-Decides name main).1 named in
    eqb-true count main_parameters (rw is at test)

main-test : (main_parameters : ℕ) (name main : List ℕ) (count : ℕ) → (name ≡ main → count ≡ main_parameters) → (not (bytes_eq name main) || count == main_parameters) ≡ true
main-test main_parameters name main count has =
    elim (cases_Bool (bytes_eq name main)) [
      | inl is ↦ rw is (eq-eqb count main_parameters (has ((bytes_eq-Decides name main).0 is)))
      | inr other ↦ rw other refl
    ]

count-means : (main_parameters : ℕ) (f : FunctionRecord) (count : ℕ) → f.parameters ≡ Some count → has_parameters main_parameters f ≡ true → HasCount main_parameters f
count-means main_parameters f count is e =
    let both = and_parts (nat_le count most_parameters) (not (bytes_eq f.name (codes "main")) || count == main_parameters) (rw is at e) in
    record { count = count; is = is; most = (let h = both.0 in grind (arith, nat_tests)); main = main-has main_parameters f.name (codes "main") count both.1 }

parameters-mean : (v : Version) (main_parameters : ℕ) (f : FunctionRecord) → Says v f.parameters → has_parameters main_parameters f ≡ true → HasParameters v main_parameters f
parameters-mean First main_parameters f said e = said
parameters-mean Second main_parameters f said e = count-means main_parameters f said.count said.is e

parameters-test : (v : Version) (main_parameters : ℕ) (f : FunctionRecord) → HasParameters v main_parameters f → has_parameters main_parameters f ≡ true
parameters-test First main_parameters f none = rw none refl
parameters-test Second main_parameters f has =
    rw has.is (and_from _ _ (le-leb has.count most_parameters has.most) (main-test main_parameters f.name (codes "main") has.count has.main))

pub counts-mean :
    (v : Version) (main_parameters i : ℕ) (fs : List FunctionRecord) → All (λ f. Says v f.parameters) fs → position_from (λ f. not (has_parameters main_parameters f)) i fs ≡ None
    → All (λ f. HasParameters v main_parameters f) fs
counts-mean v main_parameters i fs say e k d lt =
    parameters-mean v main_parameters (get_or fs k d) (say k d lt) (none-fails (λ f. has_parameters main_parameters f) i fs e k d lt)

pub counts-hold : (v : Version) (main_parameters i : ℕ) (fs : List FunctionRecord) → All (λ f. HasParameters v main_parameters f) fs → position_from (λ f. not (has_parameters main_parameters f)) i fs ≡ None
counts-hold v main_parameters i fs h =
    each-passes (λ f. has_parameters main_parameters f) i fs (All-weaker (λ f. HasParameters v main_parameters f) (λ f. has_parameters main_parameters f ≡ true) (λ f h. parameters-test v main_parameters f h) fs h)

-- ---- names

apart-means : (a b : List ℕ) → bytes_eq a b ≡ false → a ≢ b
apart-means a b e same = let eq = (bytes_eq-Decides a b).1 same in absurd cc

apart-holds : (a b : List ℕ) → a ≢ b → bytes_eq a b ≡ false
apart-holds a b apart = elim (cases_Bool (bytes_eq a b)) [ inl same ↦ absurd (apart ((bytes_eq-Decides a b).0 same)) | inr other ↦ other ]

none-passes : {X : Type 0} (p : X → Bool) (xs : List X) (j : ℕ) (d : X) → list_any p xs ≡ false → j < length xs → p (get_or xs j d) ≡ false
none-passes p xs j d none lt = elim (cases_Bool (p (get_or xs j d))) [ inl passes ↦ let some = list_any_at p xs j d lt passes in absurd cc | inr fails ↦ fails ]

pub differ-mean : (fs : List FunctionRecord) → all_differ fs ≡ true → AllPairs (λ f g. f.name ≢ g.name) fs
differ-mean [] e i j d lt within = absurd (omega arith)
differ-mean (f ∷ fs) e zero zero d lt within = absurd (omega arith)
differ-mean (f ∷ fs) e (suc i) zero d lt within = absurd (omega arith)
differ-mean (f ∷ fs) e zero (suc j) d lt within =
    let parts = and_parts (not (list_any (λ g. bytes_eq g.name f.name) fs)) (all_differ fs) e in
    let other = none-passes (λ g. bytes_eq g.name f.name) fs j d (not-true _ parts.0) (omega arith) in
    λ same. apart-means (get_or fs j d).name f.name other (sym same)
differ-mean (f ∷ fs) e (suc i) (suc j) d lt within =
    let parts = and_parts (not (list_any (λ g. bytes_eq g.name f.name) fs)) (all_differ fs) e in
    differ-mean fs parts.1 i j d (omega arith) (omega arith)

pub differ-hold : (fs : List FunctionRecord) → AllPairs (λ f g. f.name ≢ g.name) fs → all_differ fs ≡ true
differ-hold [] apart = refl
differ-hold (f ∷ fs) apart =
    let none = list_any_none (λ g. bytes_eq g.name f.name) fs (λ k d lt. apart-holds (get_or fs k d).name f.name (λ same. apart 0 (suc k) d (omega arith) (omega arith) (sym same))) in
    rw none (differ-hold fs (λ i j d lt within. apart (suc i) (suc j) d (omega arith) (omega arith)))

pub main-means : (name : List ℕ) (fs : List FunctionRecord) → list_any (λ f. bytes_eq f.name name) fs ≡ true → Contains (map (λ f. f.name) fs) name
main-means name [] e = absurd cc
main-means name (f ∷ fs) e =
    elim (or_cases (bytes_eq f.name name) (list_any (λ f. bytes_eq f.name name) fs) e) [
      | inl first ↦ (0, omega arith, (bytes_eq-Decides f.name name).0 first)
      | inr later ↦ let found = main-means name fs later in (suc found.0, omega arith, found.2)
    ]

main-at : (name : List ℕ) (fs : List FunctionRecord) (k : ℕ) → k < length (map (λ f. f.name) fs) → get_or (map (λ f. f.name) fs) k name ≡ name → list_any (λ f. bytes_eq f.name name) fs ≡ true
main-at name [] k lt is = absurd (omega arith)
main-at name (f ∷ fs) zero lt is = rw ((bytes_eq-Decides f.name name).1 is) refl
main-at name (f ∷ fs) (suc k) lt is = rw (main-at name fs k (omega arith) is) (or-true (bytes_eq f.name name))

pub main-holds : (name : List ℕ) (fs : List FunctionRecord) → Contains (map (λ f. f.name) fs) name → list_any (λ f. bytes_eq f.name name) fs ≡ true
main-holds name fs found = main-at name fs found.0 found.1 found.2
