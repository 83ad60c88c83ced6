-- The names of a function's variables tell them apart.
use Rattle.std.proofs.Common.{◌≡◌, ℕ, ◌+◌, ◌<◌, ◌≤◌, ◌==◌, ◌&&◌, ◌||◌, not, nat_le, Bool, true, false, cond, List, [], ◌∷◌, ◌++◌, length, map, filter, refl, sym, ap, ◌∙◌, subst, arith, if◌then◌else◌, eqb-true}
use Rattle.std.specs.Prelude.{bytes_eq}
use Rattle.std.specs.List.{list_all}
use Rattle.std.proofs.lemmas.Bool.Decides.{nat_tests, Decides-eqb}
use Rattle.std.proofs.lemmas.Slice.Eq.{bytes_eq-Decides}
use Rattle.std.proofs.lemmas.Bool.{and_parts, or_right, and_from}
use Rattle.qs_base.specs.Names.{is_name}
use Rattle.qs_base.specs.Bytes.{same_bytes}
use Rattle.qs_base.proofs.ByteLaws.{bytes_exact}
use Rattle.qs_memory.specs.declared.scalar.Scalar.{Scalar}
use Rattle.qs_calls.specs.declared.parameter.Parameter.{Parameter}
use Rattle.qs_core.specs.Fits.{differ, same_variable, is_named}
use Rattle.qs_types.specs.Placed.{is_one_of}
use Rattle.qs_meaning.specs.FitLaws.{are_different}
use Rattle.qs_elaborate_bodies.specs.Names.{Declared, VariableName, count_of, name_at}
use Rattle.qs_elaborate_bodies.specs.Units.{named_parameters, named_variables}
use Rattle.qs_elaborate_laws.specs.FitLaws.{are_first, has_name}

abbrev pub nodes_declared : List Declared → List ℕ
nodes_declared ds = map (λ (d : Declared). d.node) ds

pub node_self : (n : ℕ) → (n == n) ≡ true
node_self n = (Decides-eqb n n).1 refl

-- ---- how many are declared with a name

count_more : (x : List ℕ) (d : Declared) (ds : List Declared) → count_of x ds ≤ count_of x (d ∷ ds)
count_more x d ds = by_test (same_bytes d.name x)
  where
    by_test : (b : Bool) → count_of x ds ≤ length (cond b (d ∷ filter (λ (e : Declared). same_bytes e.name x) ds) (filter (λ (e : Declared). same_bytes e.name x) ds))
    by_test true = omega arith
    by_test false = omega arith

count_same : (d : Declared) (ds : List Declared) → count_of d.name (d ∷ ds) ≡ count_of d.name ds + 1
count_same d ds = by_test (same_bytes d.name d.name) ((bytes_exact d.name d.name).1 refl)
  where
    by_test : (b : Bool) → b ≡ true → length (cond b (d ∷ filter (λ (e : Declared). same_bytes e.name d.name) ds) (filter (λ (e : Declared). same_bytes e.name d.name) ds)) ≡ count_of d.name ds + 1
    by_test true h = omega arith
    by_test false h = cc

count_other : (x : List ℕ) (d : Declared) (ds : List Declared) → same_bytes d.name x ≡ false → count_of x (d ∷ ds) ≡ count_of x ds
count_other x d ds h = by_test (same_bytes d.name x) h
  where
    by_test : (b : Bool) → b ≡ false → length (cond b (d ∷ filter (λ (e : Declared). same_bytes e.name x) ds) (filter (λ (e : Declared). same_bytes e.name x) ds)) ≡ count_of x ds
    by_test true h = cc
    by_test false h = refl

-- ---- the name at a node

-- what is at a node, whether it is the first or stands behind it
abbrev found : Bool → Declared → (earlier : List Declared) → VariableName → VariableName
found b d earlier later = if b then record { name = d.name; ordinal = count_of d.name earlier + 1 } else later

ordinal_grows : (node : ℕ) (earlier ds : List Declared) → is_one_of node (nodes_declared ds) ≡ true → count_of (name_at node earlier ds).name earlier < (name_at node earlier ds).ordinal
ordinal_grows node earlier [] h = cc
ordinal_grows node earlier (d ∷ ds) h = by_node (λ k. ordinal_grows node (d ∷ earlier) ds k) (d.node == node) h
  where
    by_node : (is_one_of node (nodes_declared ds) ≡ true → count_of (name_at node (d ∷ earlier) ds).name (d ∷ earlier) < (name_at node (d ∷ earlier) ds).ordinal)
        → (b : Bool) → (b || is_one_of node (nodes_declared ds)) ≡ true → count_of (found b d earlier (name_at node (d ∷ earlier) ds)).name earlier < (found b d earlier (name_at node (d ∷ earlier) ds)).ordinal
    by_node behind true h = omega arith
    by_node behind false h =
        let rest = behind h in
        let more = count_more (name_at node (d ∷ earlier) ds).name d earlier in omega arith

-- of two nodes one name and one number make one node
pub one_node : (n m : ℕ) (earlier ds : List Declared) → is_one_of n (nodes_declared ds) ≡ true → is_one_of m (nodes_declared ds) ≡ true → (name_at n earlier ds).name ≡ (name_at m earlier ds).name → (name_at n earlier ds).ordinal ≡ (name_at m earlier ds).ordinal → n ≡ m
one_node n m earlier [] h k e f = cc
one_node n m earlier (d ∷ ds) h k e f = by_nodes (one_node n m (d ∷ earlier) ds) (d.node == n) (d.node == m) refl refl h k e f
  where
    later_name : (node : ℕ) → VariableName
    later_name node = name_at node (d ∷ earlier) ds

    -- the first is of its name, the other behind it has a greater number
    never : (node : ℕ) → is_one_of node (nodes_declared ds) ≡ true → d.name ≡ (later_name node).name → count_of d.name earlier + 1 ≡ (later_name node).ordinal → n ≡ m
    never node h e f =
        let grows = ordinal_grows node (d ∷ earlier) ds h in
        let counted = ap (λ (x : List ℕ). count_of x (d ∷ earlier)) e in
        let more = count_same d earlier in absurd (omega arith)

    by_nodes : (is_one_of n (nodes_declared ds) ≡ true → is_one_of m (nodes_declared ds) ≡ true → (later_name n).name ≡ (later_name m).name → (later_name n).ordinal ≡ (later_name m).ordinal → n ≡ m)
        → (b c : Bool) → (d.node == n) ≡ b → (d.node == m) ≡ c → (b || is_one_of n (nodes_declared ds)) ≡ true → (c || is_one_of m (nodes_declared ds)) ≡ true → (found b d earlier (later_name n)).name ≡ (found c d earlier (later_name m)).name → (found b d earlier (later_name n)).ordinal ≡ (found c d earlier (later_name m)).ordinal → n ≡ m
    by_nodes behind true true is also h k e f = sym (eqb-true d.node n is) ∙ eqb-true d.node m also
    by_nodes behind true false is also h k e f = never m k e f
    by_nodes behind false true is also h k e f = never n h (sym e) (sym f)
    by_nodes behind false false is also h k e f = behind h k e f

named_at : (node : ℕ) (earlier ds : List Declared) → is_one_of node (nodes_declared ds) ≡ true → list_all has_name ds ≡ true → (is_name (name_at node earlier ds).name && nat_le 1 (name_at node earlier ds).ordinal) ≡ true
named_at node earlier [] h k = cc
named_at node earlier (d ∷ ds) h k = by_node (λ h. named_at node (d ∷ earlier) ds h (and_parts (is_name d.name) _ k).1) (d.node == node) h
  where
    by_node : (is_one_of node (nodes_declared ds) ≡ true → (is_name (name_at node (d ∷ earlier) ds).name && nat_le 1 (name_at node (d ∷ earlier) ds).ordinal) ≡ true)
        → (b : Bool) → (b || is_one_of node (nodes_declared ds)) ≡ true → (is_name (found b d earlier (name_at node (d ∷ earlier) ds)).name && nat_le 1 (found b d earlier (name_at node (d ∷ earlier) ds)).ordinal) ≡ true
    by_node behind true h = and_from _ _ (and_parts (is_name d.name) _ k).0 (grind (arith, nat_tests))
    by_node behind false h = behind h

-- ---- variables by these names

module _ (ds : List Declared) where
  abbrev pub naming : ℕ → VariableName
  naming node = name_at node [] ds

  -- each of these nodes is declared
  abbrev pub AreDeclared : List ℕ → Type 0
  AreDeclared nodes = (n : ℕ) → is_one_of n nodes ≡ true → is_one_of n (nodes_declared ds) ≡ true

  or_first : (n m : ℕ) (b : Bool) → m ≡ n → ((m == n) || b) ≡ true
  or_first n m b e = ap (λ c. c || b) ((Decides-eqb m n).1 e)

  behind_first : (n : ℕ) (nodes : List ℕ) → AreDeclared (n ∷ nodes) → AreDeclared nodes
  behind_first n nodes h m is = h m (or_right (n == m) _ is)

  pub all_named : (nodes : List ℕ) (ss : List Scalar) → length ss ≡ length nodes → AreDeclared nodes → list_all has_name ds ≡ true → list_all is_named (named_variables (map naming nodes) ss) ≡ true
  all_named [] [] long h k = refl
  all_named [] (s ∷ ss) long h k = absurd (omega arith)
  all_named (n ∷ nodes) [] long h k = refl
  all_named (n ∷ nodes) (s ∷ ss) long h k =
      and_from _ _ (named_at n [] ds (h n (or_first n n _ refl)) k) (all_named nodes ss (omega arith) (behind_first n nodes h) k)

  -- a variable and those at other nodes
  apart : (n : ℕ) (s : Scalar) (nodes : List ℕ) (ss : List Scalar) → length ss ≡ length nodes → is_one_of n (nodes_declared ds) ≡ true → AreDeclared nodes → is_one_of n nodes ≡ false
      → list_all (λ y. not (same_variable (record { name = (naming n).name; ordinal = (naming n).ordinal; scalar = s }) y)) (named_variables (map naming nodes) ss) ≡ true
  apart n s [] [] long here h other = refl
  apart n s [] (t ∷ ss) long here h other = absurd (omega arith)
  apart n s (m ∷ nodes) [] long here h other = refl
  apart n s (m ∷ nodes) (t ∷ ss) long here h other =
      and_from _ _ (by_test (bytes_eq (naming n).name (naming m).name) ((naming n).ordinal == (naming m).ordinal) refl refl)
      (apart n s nodes ss (omega arith) here (behind_first m nodes h) (no_second (m == n) _ other))
    where
      no_second : (a b : Bool) → (a || b) ≡ false → b ≡ false
      no_second true b h = cc
      no_second false b h = h

      by_test : (a b : Bool) → bytes_eq (naming n).name (naming m).name ≡ a → ((naming n).ordinal == (naming m).ordinal) ≡ b → not (a && b) ≡ true
      by_test false b e f = refl
      by_test true false e f = refl
      by_test true true e f =
          let same = one_node n m [] ds here (h m (or_first m m _ refl)) ((bytes_eq-Decides (naming n).name (naming m).name).0 e) (eqb-true _ _ f) in
          let never = or_first n m (is_one_of n nodes) (sym same) in cc

  pub all_apart : (nodes : List ℕ) (ss : List Scalar) → length ss ≡ length nodes → AreDeclared nodes → are_different nodes ≡ true → differ same_variable (named_variables (map naming nodes) ss) ≡ true
  all_apart [] [] long h k = refl
  all_apart [] (s ∷ ss) long h k = absurd (omega arith)
  all_apart (n ∷ nodes) [] long h k = refl
  all_apart (n ∷ nodes) (s ∷ ss) long h k =
      let two = and_parts (not (is_one_of n nodes)) _ k in
      and_from _ _ (apart n s nodes ss (omega arith) (h n (or_first n n _ refl)) (behind_first n nodes h) (no_test (is_one_of n nodes) two.0))
      (all_apart nodes ss (omega arith) (behind_first n nodes h) two.1)
    where
      no_test : (b : Bool) → not b ≡ true → b ≡ false
      no_test true h = sym h
      no_test false h = refl

-- ---- parameters, which are declared first

module _ (naming : ℕ → VariableName) where
  -- what is named at each node is what is found behind the earlier ones
  abbrev pub IsNaming : (earlier here later : List Declared) → Type 0
  IsNaming earlier here later = (n : ℕ) → is_one_of n (nodes_declared here) ≡ true → naming n ≡ name_at n earlier (here ++ later)

  abbrev new_names : (earlier here : List Declared) → Bool
  new_names earlier here = list_all (λ (d : Declared). count_of d.name earlier == 0) here

  still_new : (d : Declared) (earlier here : List Declared) → new_names earlier here ≡ true → list_all (λ y. not (same_bytes d.name y)) (map (λ (e : Declared). e.name) here) ≡ true → new_names (d ∷ earlier) here ≡ true
  still_new d earlier [] h k = refl
  still_new d earlier (e ∷ here) h k =
      let new = and_parts (count_of e.name earlier == 0) _ h in
      let other = and_parts (not (same_bytes d.name e.name)) _ k in
      and_from _ _ (ap (λ (n : ℕ). n == 0) (count_other e.name d earlier (no_test (same_bytes d.name e.name) other.0)) ∙ new.0) (still_new d earlier here new.1 other.1)
    where
      no_test : (b : Bool) → not b ≡ true → b ≡ false
      no_test true h = sym h
      no_test false h = refl

  pub first_named : (here : List Declared) (places : List Parameter) (others : List ℕ) (ss : List Scalar) (earlier later : List Declared) → length places ≡ length here → length here ≤ length ss → IsNaming earlier here later → are_different (nodes_declared here) ≡ true → new_names earlier here ≡ true → differ same_bytes (map (λ (d : Declared). d.name) here) ≡ true → are_first (named_parameters (map (λ (d : Declared). d.name) here) places) (named_variables (map naming (nodes_declared here ++ others)) ss) ≡ true
  first_named [] [] others ss earlier later long room is other new apart = refl
  first_named [] (p ∷ places) others ss earlier later long room is other new apart = absurd (omega arith)
  first_named (d ∷ here) [] others ss earlier later long room is other new apart = absurd (omega arith)
  first_named (d ∷ here) (p ∷ places) others [] earlier later long room is other new apart = absurd (omega arith)
  first_named (d ∷ here) (p ∷ places) others (s ∷ ss) earlier later long room is other new apart =
      let one = and_parts (not (is_one_of d.node (nodes_declared here))) _ other in
      let first = and_parts (count_of d.name earlier == 0) _ new in
      let names = and_parts (list_all (λ y. not (same_bytes d.name y)) (map (λ (e : Declared). e.name) here)) _ apart in
      let at : naming d.node ≡ record { name = d.name; ordinal = count_of d.name earlier + 1 } =
      is d.node (ap (λ b. b || is_one_of d.node (nodes_declared here)) (node_self d.node))
      ∙ ap (λ b. found b d earlier (name_at d.node (d ∷ earlier) (here ++ later))) (node_self d.node) in
      let none : count_of d.name earlier ≡ 0 = eqb-true _ _ first.0 in
      let number : count_of d.name earlier + 1 ≡ 1 = omega arith in
      and_from _ _
      (and_from _ _ ((bytes_eq-Decides d.name (naming d.node).name).1 (sym (ap (λ (v : VariableName). v.name) at))) (ap (λ (v : VariableName). v.ordinal == 1) at ∙ (Decides-eqb _ _).1 number))
      (first_named here places others ss (d ∷ earlier) later (omega arith) (omega arith) (next_naming one.0) one.1 (still_new d earlier here first.1 names.0) names.1)
    where
      next_naming : not (is_one_of d.node (nodes_declared here)) ≡ true → IsNaming (d ∷ earlier) here later
      next_naming apart n h = is n (or_behind (d.node == n) _ h) ∙ ap (λ b. found b d earlier (name_at n (d ∷ earlier) (here ++ later))) (by_test (d.node == n) refl)
        where
          or_behind : (a b : Bool) → b ≡ true → (a || b) ≡ true
          or_behind true b h = refl
          or_behind false b h = h

          by_test : (b : Bool) → (d.node == n) ≡ b → b ≡ false
          by_test false e = refl
          by_test true e =
              let there : is_one_of d.node (nodes_declared here) ≡ true = subst (λ (m : ℕ). is_one_of m (nodes_declared here) ≡ true) (sym (eqb-true d.node n e)) h in
              let never = ap not there ∙ refl in cc
