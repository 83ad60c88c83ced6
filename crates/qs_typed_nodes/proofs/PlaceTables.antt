-- Places in tables and in lists.
use Rattle.std.proofs.Common.{◌≡◌, ℕ, ◌+◌, Bool, true, false, not, ◌||◌, List, [], ◌∷◌, Option, Some, None, length, nat_lt, nat_eq, cond, refl, sym, ap, ◌∙◌, append_assoc, arith, if◌then◌else◌}
use Rattle.std.specs.Prelude.{◌==◌, position}
use Rattle.std.specs.List.{position_or_len, list_any}
use Rattle.std.specs.Map.{lookup}
use Rattle.std.specs.Prelude.{Vec}
use Rattle.std.specs.declared.alloc.Global.{Global}
use Rattle.qs_memory.specs.declared.scalar.Scalar.{Scalar}
use Rattle.std.proofs.lemmas.Cmp.{nat_list_eq_equiv, nat_eq_equiv}
use Rattle.qs_base.specs.Bytes.{same_bytes}
use Rattle.qs_types.specs.Types.{TypeTree}
use Rattle.qs_types.specs.Placed.{is_one_of}
use Rattle.qs_meaning.specs.Names.{place_where, place_among, function_number}
use Rattle.qs_typed_nodes.specs.Known.{parameters_of}
use Rattle.qs_typed_nodes.specs.KnownOf.{headers_tree}
use Rattle.std.specs.Prelude.{◌++◌}
use Rattle.std.proofs.lemmas.List.Elements.{filter-append}
use Rattle.std.proofs.lemmas.Option.{same_Some}
use Rattle.qs_types.specs.Placed.{Local, is_placed}
use Rattle.qs_meaning.specs.Names.{Locals}
use Rattle.qs_meaning.specs.Units.{nodes_of, placed_among, plain_among}
use Rattle.qs_typed_nodes.specs.KnownFunctions.{local_at, locals_at, places_at, with_parameters, with_locals}

-- ---- the place of the first that passes a test

step : (b : Bool) (p : ℕ) → (if b then 0 else p + 1) ≡ cond (not b) (1 + p) 0
step true p = refl
step false p = omega arith

where_is : {A : Type 0} (test other : A → Bool) → ((x : A) → test x ≡ other x) → (xs : List A) → place_where test xs ≡ position_or_len other xs
where_is test other same [] = refl
where_is test other same (x ∷ xs) = (λ i. if same x i then 0 else where_is test other same xs i + 1) ∙ step (other x) (position_or_len other xs)

found_at : (b : Bool) (p i : ℕ) → cond b (Some p) None ≡ Some i → p ≡ i
found_at true p i e = cc
found_at false p i e = absurd (no i e)
  where
    no : (i : ℕ) → None ≡ Some i → ⊥
    no i e = cc

pub place_found : (node : ℕ) (xs : List ℕ) (i : ℕ) → position (nat_eq node) xs ≡ Some i → place_among node xs ≡ i
place_found node xs i e =
    where_is (λ n. n == node) (nat_eq node) (λ n. nat_eq_equiv.symm n node) xs ∙ found_at (nat_lt (position_or_len (nat_eq node) xs) (length xs)) (position_or_len (nat_eq node) xs) i e

pub function_found : (f : List ℕ) (names : List (List ℕ)) (i : ℕ) → position (same_bytes f) names ≡ Some i → function_number f names ≡ i
function_found f names i e =
    where_is (λ g. same_bytes g f) (same_bytes f) (λ g. nat_list_eq_equiv.symm g f) names
    ∙ found_at (nat_lt (position_or_len (same_bytes f) names) (length names)) (position_or_len (same_bytes f) names) i e

pub one_of : (n : ℕ) (ms : List ℕ) → list_any (nat_eq n) ms ≡ is_one_of n ms
one_of n [] = refl
one_of n (m ∷ ms) = λ i. nat_eq_equiv.symm n m i || one_of n ms i

-- ---- headers

-- the table that is looked up goes on as the list does
found_first : (node : ℕ) (h : ℕ × Vec Scalar Global) (hs : List (ℕ × Vec Scalar Global)) (ps : Vec Scalar Global) (b : Bool) → cond b (Some h.1) (lookup (nat_eq node) hs) ≡ Some ps
    → (lookup (nat_eq node) hs ≡ Some ps → parameters_of node (headers_tree hs) ≡ Some ps.items)
    → (if b then Some h.1.items else parameters_of node (headers_tree hs)) ≡ Some ps.items
found_first node h hs ps true e rest = ap (λ (v : Vec Scalar Global). Some v.items) (same_Some h.1 ps e)
found_first node h hs ps false e rest = rest e

pub header_found : (node : ℕ) (hs : List (ℕ × Vec Scalar Global)) (ps : Vec Scalar Global) → lookup (nat_eq node) hs ≡ Some ps
    → parameters_of node (headers_tree hs) ≡ Some ps.items
header_found node [] ps e = absurd (no ps e)
  where
    no : {A : Type 0} (x : A) → None ≡ Some x → ⊥
    no x e = cc
header_found node (h ∷ hs) ps e =
    ap (λ b. if b then Some h.1.items else parameters_of node (headers_tree hs)) (nat_eq_equiv.symm h.0 node)
    ∙ found_first node h hs ps (nat_eq node h.0) e (header_found node hs ps)

-- ---- places of locals

pub added_last : (n : ℕ) (ns : List ℕ) → list_any (nat_eq n) ns ≡ false → (if list_any (nat_eq n) ns then ns else ns ++ n ∷ []) ≡ ns ++ n ∷ []
added_last n ns e = ap (λ b. if b then ns else ns ++ n ∷ []) e

pub name_last : (x : List ℕ) (xs : List (List ℕ)) → list_any (same_bytes x) xs ≡ false → (if list_any (same_bytes x) xs then xs else xs ++ x ∷ []) ≡ xs ++ x ∷ []
name_last x xs e = ap (λ b. if b then xs else xs ++ x ∷ []) e

abbrev pub lists : List ℕ → List ℕ → Locals
lists variables placed = record { variables = variables; placed = placed }

abbrev pub no_places : Locals
no_places = record { variables = []; placed = [] }

-- parameters first, and then the locals
pub placed_in_order : (declared : List (Option TypeTree)) (addressed ps ls : List ℕ) (none with_ps with_ls : Locals) → none ≡ no_places
    → with_ps ≡ with_parameters declared addressed ps none → with_ls ≡ with_locals declared addressed ls with_ps → with_ls ≡ places_at declared addressed ps ls
placed_in_order declared addressed ps ls none with_ps with_ls p q r =
    r ∙ ap (with_locals declared addressed ls) (q ∙ ap (with_parameters declared addressed ps) p)
    ∙ λ i. lists (variables_in_order ps i) (placed_together (locals_at declared ps) (locals_at declared ls) i)
  where
    nodes_again : (ns : List ℕ) → nodes_of (locals_at declared ns) ≡ ns
    nodes_again [] = refl
    nodes_again (n ∷ ns) = ap (λ rest. n ∷ rest) (nodes_again ns)

    both : (xs ys : List Local) → nodes_of xs ++ nodes_of ys ≡ nodes_of (xs ++ ys)
    both [] ys = refl
    both (x ∷ xs) ys = ap (λ rest. x.node ∷ rest) (both xs ys)

    variables_in_order : (ps : List ℕ) → ps ++ nodes_of (plain_among addressed (locals_at declared ls)) ≡ nodes_of (locals_at declared ps ++ plain_among addressed (locals_at declared ls))
    variables_in_order ps =
        ap (λ ns. ns ++ nodes_of (plain_among addressed (locals_at declared ls))) (sym (nodes_again ps)) ∙ both (locals_at declared ps) (plain_among addressed (locals_at declared ls))

    placed_together : (xs ys : List Local) → nodes_of (placed_among addressed xs) ++ nodes_of (placed_among addressed ys) ≡ nodes_of (placed_among addressed (xs ++ ys))
    placed_together xs ys = both (placed_among addressed xs) (placed_among addressed ys) ∙ ap nodes_of (sym (filter-append (is_placed addressed) xs ys))

-- one parameter more, and one local more
abbrev pub one_parameter : (b : Bool) (n : ℕ) → Locals → Locals
one_parameter b n l = record { variables = l.variables ++ n ∷ []; placed = if b then l.placed ++ n ∷ [] else l.placed }

abbrev pub one_local : (b : Bool) (n : ℕ) → Locals → Locals
one_local b n l = record { variables = if b then l.variables else l.variables ++ n ∷ []; placed = if b then l.placed ++ n ∷ [] else l.placed }

abbrev placed_behind : (declared : List (Option TypeTree)) (addressed : List ℕ) (n : ℕ) (ns : List ℕ) → Bool → List ℕ
placed_behind declared addressed n ns b =
    nodes_of (cond b (local_at declared n ∷ placed_among addressed (locals_at declared ns)) (placed_among addressed (locals_at declared ns)))

abbrev plain_behind : (declared : List (Option TypeTree)) (addressed : List ℕ) (n : ℕ) (ns : List ℕ) → Bool → List ℕ
plain_behind declared addressed n ns b =
    nodes_of (cond (not b) (local_at declared n ∷ plain_among addressed (locals_at declared ns)) (plain_among addressed (locals_at declared ns)))

joined_last : (xs : List ℕ) (n : ℕ) (ns : List ℕ) → xs ++ n ∷ ns ≡ (xs ++ n ∷ []) ++ ns
joined_last xs n ns = sym (append_assoc xs (n ∷ []) ns)

pub parameter_placed : (declared : List (Option TypeTree)) (addressed : List ℕ) (n : ℕ) (ns : List ℕ) (l : Locals) (b : Bool) → is_placed addressed (local_at declared n) ≡ b
    → with_parameters declared addressed (n ∷ ns) l ≡ with_parameters declared addressed ns (one_parameter b n l)
parameter_placed declared addressed n ns l b e = ap (λ b. lists (l.variables ++ n ∷ ns) (l.placed ++ placed_behind declared addressed n ns b)) e ∙ by b
  where
    by : (b : Bool) → lists (l.variables ++ n ∷ ns) (l.placed ++ placed_behind declared addressed n ns b) ≡ with_parameters declared addressed ns (one_parameter b n l)
    by true = λ i. lists (joined_last l.variables n ns i) (joined_last l.placed n (nodes_of (placed_among addressed (locals_at declared ns))) i)
    by false = λ i. lists (joined_last l.variables n ns i) (l.placed ++ nodes_of (placed_among addressed (locals_at declared ns)))

pub local_placed : (declared : List (Option TypeTree)) (addressed : List ℕ) (n : ℕ) (ns : List ℕ) (l : Locals) (b : Bool) → is_placed addressed (local_at declared n) ≡ b
    → with_locals declared addressed (n ∷ ns) l ≡ with_locals declared addressed ns (one_local b n l)
local_placed declared addressed n ns l b e =
    ap (λ b. lists (l.variables ++ plain_behind declared addressed n ns b) (l.placed ++ placed_behind declared addressed n ns b)) e ∙ by b
  where
    by : (b : Bool) → lists (l.variables ++ plain_behind declared addressed n ns b) (l.placed ++ placed_behind declared addressed n ns b)
        ≡ with_locals declared addressed ns (one_local b n l)
    by true = λ i. lists (l.variables ++ nodes_of (plain_among addressed (locals_at declared ns))) (joined_last l.placed n (nodes_of (placed_among addressed (locals_at declared ns))) i)
    by false = λ i. lists (joined_last l.variables n (nodes_of (plain_among addressed (locals_at declared ns))) i) (l.placed ++ nodes_of (placed_among addressed (locals_at declared ns)))
