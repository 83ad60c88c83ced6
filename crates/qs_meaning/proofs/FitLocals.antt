-- The locals of a function have different numbers, so each has its own place among the variables or the blocks.
use Rattle.std.proofs.Common.{◌≡◌, ◌⊎◌, inl, inr, ℕ, suc, ◌+◌, ◌==◌, nat_lt, Bool, true, false, cond, not, ◌||◌, List, [], ◌∷◌, ◌++◌, length, map, filter, Option, Some, None, refl, sym, ap, ◌∙◌, subst, arith, if◌then◌else◌}
use Rattle.std.specs.List.{slice_get}
use Rattle.std.proofs.lemmas.Bool.{eqb-true, eq-eqb, and_from, or_right}
use Rattle.std.proofs.lemmas.Bool.Decides.{nat_tests}
use Rattle.std.proofs.lemmas.List.{map-append}
use Rattle.std.proofs.lemmas.Option.{slice_get_within, same_Some}
use Rattle.std.specs.Cmp.{first_so, second_so}
use Rattle.qs_syntax.specs.declared.nodes.Node.{Node}
use Rattle.qs_syntax.specs.declared.types.Base.{Base}
use Rattle.qs_syntax.specs.Trees.{VariableTree, ParameterTree, StartTree, no_start, start_expression, start_declaration, StmtTree, empty, expression, declaration, block, switch, case_label, default_label, branch, while_loop, do_loop, for_loop, break, continue, return, Stmts, no_stmts, stmt_and, Else, no_else, else_by}
use Rattle.qs_syntax.specs.Nodes.{all_nodes, option_nodes, expr_nodes, lengths_nodes, initialiser_nodes, variable_nodes, parameter_nodes, start_nodes, stmt_nodes, stmts_nodes, else_nodes}
use Rattle.qs_memory.specs.Partial.{◌>>=◌}
use Rattle.qs_memory.specs.declared.scalar.Scalar.{Scalar}
use Rattle.qs_memory.proofs.Options.{followed}
use Rattle.qs_types.specs.Types.{TypeTree, Structs}
use Rattle.qs_types.specs.Layout.{size_of}
use Rattle.qs_types.specs.Contexts.{Context, inner_scope, inside_loop, with_case}
use Rattle.qs_types.specs.StatementRules.{after_variable, after_variables, after_start, switch_context, case_value, after_statement, for_context}
use Rattle.qs_types.specs.Placed.{Local, is_one_of, variables_locals, start_locals, statement_locals, statements_locals, else_locals, parameters_locals}
use Rattle.qs_meaning.specs.Conversions.{scalar_of}
use Rattle.qs_meaning.specs.Names.{place_among}
use Rattle.qs_meaning.specs.Units.{nodes_of, scalars_of, sizes_of}
use Rattle.qs_meaning.specs.FitLaws.{are_different, is_filled, ends_in_label, variables_filled, start_filled, statement_filled, statements_filled, else_filled}
use Rattle.qs_meaning.proofs.Options.{never}
use Rattle.qs_meaning.proofs.FitTypes.{is_small, SmallNames}
use Rattle.qs_meaning.proofs.FitDeclarations.{variable_small}

-- ---- lists in others, in order

pub data Sub {A : Type 0} : List A → List A → Type 0 where
  done : Sub [] []
  skip : {xs ys : List A} (y : A) → Sub xs ys → Sub xs (y ∷ ys)
  keep : {xs ys : List A} (x : A) → Sub xs ys → Sub (x ∷ xs) (x ∷ ys)

pub sub_same : {A : Type 0} (xs : List A) → Sub xs xs
sub_same [] = done
sub_same (x ∷ xs) = keep x (sub_same xs)

pub sub_nothing : {A : Type 0} (ys : List A) → Sub [] ys
sub_nothing [] = done
sub_nothing (y ∷ ys) = skip y (sub_nothing ys)

pub sub_append : {A : Type 0} {xs ys us vs : List A} → Sub xs ys → Sub us vs → Sub (xs ++ us) (ys ++ vs)
sub_append done k = k
sub_append (skip y h) k = skip y (sub_append h k)
sub_append (keep x h) k = keep x (sub_append h k)

pub sub_front : {A : Type 0} {xs ys : List A} (vs : List A) → Sub xs ys → Sub xs (ys ++ vs)
sub_front vs done = sub_nothing vs
sub_front vs (skip y h) = skip y (sub_front vs h)
sub_front vs (keep x h) = keep x (sub_front vs h)

pub sub_back : {A : Type 0} {xs ys : List A} (us : List A) → Sub xs ys → Sub xs (us ++ ys)
sub_back [] h = h
sub_back (u ∷ us) h = skip u (sub_back us h)

pub sub_map : {A B : Type 0} {xs ys : List A} (f : A → B) → Sub xs ys → Sub (map f xs) (map f ys)
sub_map f done = done
sub_map f (skip y h) = skip (f y) (sub_map f h)
sub_map f (keep x h) = keep (f x) (sub_map f h)

pub sub_filter : {A : Type 0} (p : A → Bool) (xs : List A) → Sub (filter p xs) xs
sub_filter p [] = done
sub_filter p (x ∷ xs) = go (p x) (sub_filter p xs)
  where
    go : (b : Bool) → Sub (filter p xs) xs → Sub (cond b (x ∷ filter p xs) (filter p xs)) (x ∷ xs)
    go true h = keep x h
    go false h = skip x h

sub_member : {xs ys : List ℕ} (n : ℕ) → Sub xs ys → is_one_of n xs ≡ true → is_one_of n ys ≡ true
sub_member n done e = e
sub_member n (skip y h) e = or_right (y == n) _ (sub_member n h e)
sub_member {xs = x ∷ xs} {ys = y ∷ ys} n (keep z h) e = go (z == n) (λ f. sub_member n h f) e
  where
    go : (b : Bool) → (is_one_of n xs ≡ true → is_one_of n ys ≡ true) → (b || is_one_of n xs) ≡ true → (b || is_one_of n ys) ≡ true
    go true later e = refl
    go false later e = later e

absent : (b c : Bool) → (b ≡ true → c ≡ true) → not c ≡ true → not b ≡ true
absent true true h e = e
absent true false h e = never (h refl)
absent false c h e = refl

pub sub_different : {xs ys : List ℕ} → Sub xs ys → are_different ys ≡ true → are_different xs ≡ true
sub_different done e = refl
sub_different {ys = _ ∷ ys} (skip y h) e = sub_different h (second_so (not (is_one_of y ys)) _ e)
sub_different {xs = _ ∷ xs} {ys = _ ∷ ys} (keep x h) e =
    and_from _ _ (absent (is_one_of x xs) (is_one_of x ys) (sub_member x h) (first_so _ _ e)) (sub_different h (second_so (not (is_one_of x ys)) _ e))

-- ---- locals among others

abbrev pub In : Local → List Local → Type 0
In l [] = ⊥
In l (x ∷ xs) = (x ≡ l) ⊎ In l xs

pub in_left : (l : Local) (xs ys : List Local) → In l xs → In l (xs ++ ys)
in_left l [] ys h = absurd h
in_left l (x ∷ xs) ys (inl e) = inl e
in_left l (x ∷ xs) ys (inr h) = inr (in_left l xs ys h)

pub in_right : (l : Local) (xs ys : List Local) → In l ys → In l (xs ++ ys)
in_right l [] ys h = h
in_right l (x ∷ xs) ys h = inr (in_right l xs ys h)

pub in_either : (l : Local) (xs ys : List Local) → In l (xs ++ ys) → In l xs ⊎ In l ys
in_either l [] ys h = inr h
in_either l (x ∷ xs) ys (inl e) = inl (inl e)
in_either l (x ∷ xs) ys (inr h) = go (in_either l xs ys h)
  where
    go : In l xs ⊎ In l ys → In l (x ∷ xs) ⊎ In l ys
    go (inl k) = inl (inr k)
    go (inr k) = inr k

pub in_filter : (p : Local → Bool) (l : Local) (xs : List Local) → p l ≡ true → In l xs → In l (filter p xs)
in_filter p l [] e h = absurd h
in_filter p l (x ∷ xs) e (inl s) = go (p x) (ap p s ∙ e)
  where
    go : (b : Bool) → b ≡ true → In l (cond b (x ∷ filter p xs) (filter p xs))
    go true e = inl s
    go false e = never e
in_filter p l (x ∷ xs) e (inr h) = go (p x) (in_filter p l xs e h)
  where
    go : (b : Bool) → In l (filter p xs) → In l (cond b (x ∷ filter p xs) (filter p xs))
    go true k = inr k
    go false k = k

pub node_in : (l : Local) (xs : List Local) → In l xs → is_one_of l.node (nodes_of xs) ≡ true
node_in l [] h = absurd h
node_in l (x ∷ xs) (inl s) = or_left (x.node == l.node) (eq-eqb x.node l.node (ap (λ (z : Local). z.node) s))
  where
    or_left : (b : Bool) → b ≡ true → (b || is_one_of l.node (nodes_of xs)) ≡ true
    or_left true e = refl
    or_left false e = never e
node_in l (x ∷ xs) (inr h) = or_right (x.node == l.node) _ (node_in l xs h)

-- the number of the first isn't among those of the others
first_apart : (n m : ℕ) (ns : List ℕ) → not (is_one_of n ns) ≡ true → is_one_of m ns ≡ true → (n == m) ≡ false
first_apart n m ns e f = go (n == m) refl
  where
    go : (b : Bool) → (n == m) ≡ b → b ≡ false
    go false h = refl
    go true h = never (sym (ap not f) ∙ subst (λ z. not (is_one_of z ns) ≡ true) (eqb-true n m h) e)

-- one that isn't placed has a number that no placed one has
pub not_among : (p : Local → Bool) (l : Local) (xs : List Local) → are_different (nodes_of xs) ≡ true → In l xs → p l ≡ false → is_one_of l.node (nodes_of (filter p xs)) ≡ false
not_among p l [] d h e = absurd h
not_among p l (x ∷ xs) d (inl s) e = go (p x) (ap p s ∙ e)
  where
    none : (b c : Bool) → (b ≡ true → c ≡ true) → not c ≡ true → b ≡ false
    none true c h k = never (sym (ap not (h refl)) ∙ k)
    none false c h k = refl

    go : (b : Bool) → b ≡ false → is_one_of l.node (nodes_of (cond b (x ∷ filter p xs) (filter p xs))) ≡ false
    go true e = never (sym e)
    go false e =
        none (is_one_of l.node (nodes_of (filter p xs))) (is_one_of l.node (nodes_of xs)) (sub_member l.node (sub_map (λ (z : Local). z.node) (sub_filter p xs)))
        (subst (λ n. not (is_one_of n (nodes_of xs)) ≡ true) (ap (λ (z : Local). z.node) s) (first_so _ _ d))
not_among p l (x ∷ xs) d (inr h) e = go (p x) (not_among p l xs (second_so (not (is_one_of x.node (nodes_of xs))) _ d) h e)
  where
    go : (b : Bool) → is_one_of l.node (nodes_of (filter p xs)) ≡ false → is_one_of l.node (nodes_of (cond b (x ∷ filter p xs) (filter p xs))) ≡ false
    go true k = apart (x.node == l.node) (first_apart x.node l.node (nodes_of xs) (first_so _ _ d) (node_in l xs h)) k
      where
        apart : (b : Bool) → b ≡ false → is_one_of l.node (nodes_of (filter p xs)) ≡ false → (b || is_one_of l.node (nodes_of (filter p xs))) ≡ false
        apart true e k = e
        apart false e k = k
    go false k = k

-- ---- the place of a local

place_first : (n m : ℕ) (ns : List ℕ) → n ≡ m → place_among m (n ∷ ns) ≡ 0
place_first n m ns e = ap (λ b. if b then 0 else place_among m ns + 1) (eq-eqb n m e)

place_later : (n m : ℕ) (ns : List ℕ) → (n == m) ≡ false → place_among m (n ∷ ns) ≡ suc (place_among m ns)
place_later n m ns e = ap (λ b. if b then 0 else place_among m ns + 1) e ∙ next (place_among m ns)
  where
    next : (k : ℕ) → k + 1 ≡ suc k
    next k = omega arith

pub scalar_at : (xs : List Local) (ss : List Scalar) (l : Local) (t : TypeTree) → scalars_of xs ≡ Some ss → are_different (nodes_of xs) ≡ true → In l xs → l.type ≡ Some t
    → slice_get ss (place_among l.node (nodes_of xs)) ≡ Some (scalar_of t)
scalar_at [] ss l t e d h p = absurd h
scalar_at (x ∷ xs) ss l t e d (inl s) p =
    let u = followed x.type _ ss e in
    let rest = followed (scalars_of xs) _ ss u.then in
    subst (λ z. slice_get z (place_among l.node (nodes_of (x ∷ xs))) ≡ Some (scalar_of t)) (same_Some _ ss rest.then)
    (ap (slice_get (scalar_of u.value ∷ rest.value)) (place_first x.node l.node (nodes_of xs) (ap (λ (z : Local). z.node) s))
    ∙ ap (λ z. Some (scalar_of z)) (same_Some _ _ (sym u.first ∙ (ap (λ (z : Local). z.type) s ∙ p))))
scalar_at (x ∷ xs) ss l t e d (inr h) p =
    let u = followed x.type _ ss e in
    let rest = followed (scalars_of xs) _ ss u.then in
    subst (λ z. slice_get z (place_among l.node (nodes_of (x ∷ xs))) ≡ Some (scalar_of t)) (same_Some _ ss rest.then)
    (ap (slice_get (scalar_of u.value ∷ rest.value)) (place_later x.node l.node (nodes_of xs) (first_apart x.node l.node (nodes_of xs) (first_so _ _ d) (node_in l xs h)))
    ∙ scalar_at xs rest.value l t rest.first (second_so (not (is_one_of x.node (nodes_of xs))) _ d) h p)

-- the size of a block is that of its local's type
pub record SizeAt (structs : Structs) (sizes : List ℕ) (k : ℕ) (t : TypeTree) : Type 0 where
  pub size : ℕ
  pub is : size_of structs t ≡ Some size
  pub stands : slice_get sizes k ≡ Some size

pub size_at : (structs : Structs) (xs : List Local) (sizes : List ℕ) (l : Local) (t : TypeTree) → sizes_of structs xs ≡ Some sizes → are_different (nodes_of xs) ≡ true → In l xs
    → l.type ≡ Some t → SizeAt structs sizes (place_among l.node (nodes_of xs)) t
size_at structs [] sizes l t e d h p = absurd h
size_at structs (x ∷ xs) sizes l t e d (inl s) p =
    let n = followed (x.type >>= size_of structs) _ sizes e in
    let rest = followed (sizes_of structs xs) _ sizes n.then in
    record {
      size = n.value;
      is = ap (λ o. o >>= size_of structs) (sym (ap (λ (z : Local). z.type) s ∙ p)) ∙ n.first;
      stands = subst (λ z. slice_get z (place_among l.node (nodes_of (x ∷ xs))) ≡ Some n.value) (same_Some _ sizes rest.then)
          (ap (slice_get (n.value ∷ rest.value)) (place_first x.node l.node (nodes_of xs) (ap (λ (z : Local). z.node) s)));
    }
size_at structs (x ∷ xs) sizes l t e d (inr h) p =
    let n = followed (x.type >>= size_of structs) _ sizes e in
    let rest = followed (sizes_of structs xs) _ sizes n.then in
    let later = size_at structs xs rest.value l t rest.first (second_so (not (is_one_of x.node (nodes_of xs))) _ d) h p in
    record {
      size = later.size;
      is = later.is;
      stands = subst (λ z. slice_get z (place_among l.node (nodes_of (x ∷ xs))) ≡ Some later.size) (same_Some _ sizes rest.then)
          (ap (slice_get (n.value ∷ rest.value)) (place_later x.node l.node (nodes_of xs) (first_apart x.node l.node (nodes_of xs) (first_so _ _ d) (node_in l xs h))) ∙ later.stands);
    }

pub below_length : (sizes : List ℕ) (k n : ℕ) → slice_get sizes k ≡ Some n → nat_lt k (length sizes) ≡ true
below_length sizes k n e = let b = slice_get_within sizes k n e in grind (arith, nat_tests)

-- what stands behind others that have other numbers
pub place_behind : (front : List ℕ) (n : ℕ) (ns : List ℕ) → are_different (front ++ n ∷ ns) ≡ true → place_among n (front ++ n ∷ ns) ≡ length front
place_behind [] n ns d = place_first n n ns refl
place_behind (m ∷ front) n ns d =
    place_later m n (front ++ n ∷ ns) (first_apart m n (front ++ n ∷ ns) (first_so _ _ d) (there front))
    ∙ ap suc (place_behind front n ns (second_so (not (is_one_of m (front ++ n ∷ ns))) _ d))
  where
    or_left : (b c : Bool) → b ≡ true → (b || c) ≡ true
    or_left true c e = refl
    or_left false c e = never e

    there : (front : List ℕ) → is_one_of n (front ++ n ∷ ns) ≡ true
    there [] = or_left (n == n) _ (eq-eqb n n refl)
    there (m ∷ front) = or_right (m == n) _ (there front)

-- ---- the nodes of locals are among those of the text

abbrev pub ids : List Node → List ℕ
ids ns = map (λ (n : Node). n.id) ns

abbrev pub Among : List Local → List Node → Type 0
Among ls ns = Sub (nodes_of ls) (ids ns)

pub among_both : (xs ys : List Local) (us vs : List Node) → Among xs us → Among ys vs → Among (xs ++ ys) (us ++ vs)
among_both xs ys us vs h k =
    subst (λ z. Sub z (ids (us ++ vs))) (sym (map-append (λ (l : Local). l.node) xs ys))
    (subst (λ z. Sub (nodes_of xs ++ nodes_of ys) z) (sym (map-append (λ (n : Node). n.id) us vs)) (sub_append h k))

among_front : (xs : List Local) (us vs : List Node) → Among xs us → Among xs (us ++ vs)
among_front xs us vs h = subst (λ z. Sub (nodes_of xs) z) (sym (map-append (λ (n : Node). n.id) us vs)) (sub_front (ids vs) h)

among_back : (xs : List Local) (us vs : List Node) → Among xs vs → Among xs (us ++ vs)
among_back xs us vs h = subst (λ z. Sub (nodes_of xs) z) (sym (map-append (λ (n : Node). n.id) us vs)) (sub_back (ids us) h)

variables_among : (vs : List VariableTree) (c : Context) (base : Base) → Among (variables_locals c base vs) (all_nodes variable_nodes vs)
variables_among [] c base = done
variables_among (v ∷ vs) c base =
    keep v.declarator.node.id
    (among_back (variables_locals (after_variable false c base v) base vs) (lengths_nodes v.declarator.lengths ++ option_nodes initialiser_nodes v.initialiser)
    (all_nodes variable_nodes vs) (variables_among vs (after_variable false c base v) base))

start_among : (start : StartTree) (c : Context) → Among (start_locals c start) (start_nodes start)
start_among no_start c = done
start_among (start_expression e) c = sub_nothing (ids (expr_nodes e))
start_among (start_declaration d) c = variables_among d.variables c d.base

mutual
  pub statement_among : (t : StmtTree) (c : Context) → Among (statement_locals c t) (stmt_nodes t)
  statement_among (empty node) c = sub_nothing (node.id ∷ [])
  statement_among (expression node e) c = sub_nothing (ids (node ∷ expr_nodes e))
  statement_among (declaration d) c = variables_among d.variables c d.base
  statement_among (block ss) c = statements_among ss (inner_scope c)
  statement_among (switch node e ss) c =
      skip node.id (among_back (statements_locals (switch_context c e) ss) (expr_nodes e) (stmts_nodes ss) (statements_among ss (switch_context c e)))
  statement_among (case_label node e) c = sub_nothing (ids (node ∷ expr_nodes e))
  statement_among (default_label node) c = sub_nothing (node.id ∷ [])
  statement_among (branch node e t r) c =
      skip node.id (among_back (statement_locals (inner_scope c) t ++ else_locals c r) (expr_nodes e) (stmt_nodes t ++ else_nodes r)
      (among_both (statement_locals (inner_scope c) t) (else_locals c r) (stmt_nodes t) (else_nodes r) (statement_among t (inner_scope c)) (else_among r c)))
  statement_among (while_loop node e t) c =
      skip node.id (among_back (statement_locals (inside_loop (inner_scope c)) t) (expr_nodes e) (stmt_nodes t) (statement_among t (inside_loop (inner_scope c))))
  statement_among (do_loop node t e) c =
      skip node.id (among_front (statement_locals (inside_loop (inner_scope c)) t) (stmt_nodes t) (expr_nodes e) (statement_among t (inside_loop (inner_scope c))))
  statement_among (for_loop node start e u t) c =
      let inside = inside_loop (inner_scope (for_context c start)) in
      skip node.id (among_both (start_locals (inner_scope c) start) (statement_locals inside t) (start_nodes start)
      (option_nodes expr_nodes e ++ (option_nodes expr_nodes u ++ stmt_nodes t)) (start_among start (inner_scope c))
      (among_back (statement_locals inside t) (option_nodes expr_nodes e) (option_nodes expr_nodes u ++ stmt_nodes t)
      (among_back (statement_locals inside t) (option_nodes expr_nodes u) (stmt_nodes t) (statement_among t inside))))
  statement_among (break node) c = sub_nothing (node.id ∷ [])
  statement_among (continue node) c = sub_nothing (node.id ∷ [])
  statement_among (return node e) c = sub_nothing (ids (node ∷ option_nodes expr_nodes e))

  pub statements_among : (ss : Stmts) (c : Context) → Among (statements_locals c ss) (stmts_nodes ss)
  statements_among no_stmts c = done
  statements_among (stmt_and t ts) c =
      among_both (statement_locals c t) (statements_locals (after_statement c t) ts) (stmt_nodes t) (stmts_nodes ts) (statement_among t c) (statements_among ts (after_statement c t))

  else_among : (r : Else) (c : Context) → Among (else_locals c r) (else_nodes r)
  else_among no_else c = done
  else_among (else_by t) c = statement_among t (inner_scope c)

pub parameters_among : (ps : List ParameterTree) (ts : List (Option TypeTree)) → Among (parameters_locals ps ts) (all_nodes parameter_nodes ps)
parameters_among [] ts = done
parameters_among (p ∷ ps) [] = sub_nothing (ids (all_nodes parameter_nodes (p ∷ ps)))
parameters_among (p ∷ ps) (t ∷ ts) =
    keep p.node.id (among_back (parameters_locals ps ts) (lengths_nodes p.lengths) (all_nodes parameter_nodes ps) (parameters_among ps ts))

-- ---- the types of locals are small

abbrev pub SmallLocals : Structs → List Local → Type 0
SmallLocals structs [] = Unit {0}
SmallLocals structs (l ∷ ls) = ((t : TypeTree) → l.type ≡ Some t → is_small structs t ≡ true) × SmallLocals structs ls

pub small_both : (structs : Structs) (xs ys : List Local) → SmallLocals structs xs → SmallLocals structs ys → SmallLocals structs (xs ++ ys)
small_both structs [] ys h k = k
small_both structs (x ∷ xs) ys h k = (h.0, small_both structs xs ys h.1 k)

variables_structs : (base : Base) (vs : List VariableTree) (c : Context) → (after_variables false c base vs).structs ≡ c.structs
variables_structs base [] c = refl
variables_structs base (v ∷ vs) c = variables_structs base vs (after_variable false c base v)

start_structs : (start : StartTree) (c : Context) → (after_start c start).structs ≡ c.structs
start_structs no_start c = refl
start_structs (start_expression e) c = refl
start_structs (start_declaration d) c = variables_structs d.base d.variables c

case_structs : (c : Context) (value : Option ℕ) → (with_case c value).structs ≡ c.structs
case_structs c None = refl
case_structs c (Some n) = refl

statement_structs : (t : StmtTree) (c : Context) → (after_statement c t).structs ≡ c.structs
statement_structs (declaration d) c = variables_structs d.base d.variables c
statement_structs (empty node) c = refl
statement_structs (expression node e) c = refl
statement_structs (block ss) c = refl
statement_structs (switch node e ss) c = refl
statement_structs (case_label node e) c = case_structs c (case_value c e)
statement_structs (default_label node) c = refl
statement_structs (branch node e t r) c = refl
statement_structs (while_loop node e t) c = refl
statement_structs (do_loop node t e) c = refl
statement_structs (for_loop node start e u t) c = refl
statement_structs (break node) c = refl
statement_structs (continue node) c = refl
statement_structs (return node e) c = refl

-- the types of type names are small where an expression or a statement stands
abbrev Named : Context → Type 0
Named c = SmallNames c.structs c.type_names

pub variables_named : (at_file_scope : Bool) (base : Base) (vs : List VariableTree) (c : Context) → SmallNames c.structs c.type_names
    → SmallNames (after_variables at_file_scope c base vs).structs (after_variables at_file_scope c base vs).type_names
variables_named at_file_scope base [] c named = named
variables_named at_file_scope base (v ∷ vs) c named = variables_named at_file_scope base vs (after_variable at_file_scope c base v) named

start_named : (start : StartTree) (c : Context) → Named c → Named (after_start c start)
start_named no_start c named = named
start_named (start_expression e) c named = named
start_named (start_declaration d) c named = variables_named false d.base d.variables c named

case_named : (c : Context) (value : Option ℕ) → Named c → Named (with_case c value)
case_named c None named = named
case_named c (Some n) named = named

statement_named : (t : StmtTree) (c : Context) → Named c → Named (after_statement c t)
statement_named (declaration d) c named = variables_named false d.base d.variables c named
statement_named (empty node) c named = named
statement_named (expression node e) c named = named
statement_named (block ss) c named = named
statement_named (switch node e ss) c named = named
statement_named (case_label node e) c named = case_named c (case_value c e) named
statement_named (default_label node) c named = named
statement_named (branch node e t r) c named = named
statement_named (while_loop node e t) c named = named
statement_named (do_loop node t e) c named = named
statement_named (for_loop node start e u t) c named = named
statement_named (break node) c named = named
statement_named (continue node) c named = named
statement_named (return node e) c named = named

variables_small : (vs : List VariableTree) (c : Context) → Named c → (base : Base) → variables_filled vs ≡ true → SmallLocals c.structs (variables_locals c base vs)
variables_small [] c named base h = tt
variables_small (v ∷ vs) c named base h = (
  λ t e. (variable_small c named base v t (first_so _ _ h) e).small,
  variables_small vs (after_variable false c base v) named base (second_so (is_filled v.initialiser) _ h),
)

start_small : (start : StartTree) (c : Context) → Named c → start_filled start ≡ true → SmallLocals c.structs (start_locals c start)
start_small no_start c named h = tt
start_small (start_expression e) c named h = tt
start_small (start_declaration d) c named h = variables_small d.variables c named d.base h

mutual
  statement_small : (t : StmtTree) (c : Context) → Named c → statement_filled t ≡ true → SmallLocals c.structs (statement_locals c t)
  statement_small (empty node) c named h = tt
  statement_small (expression node e) c named h = tt
  statement_small (declaration d) c named h = variables_small d.variables c named d.base h
  statement_small (block ss) c named h = statements_small ss (inner_scope c) named h
  statement_small (switch node e ss) c named h = statements_small ss (switch_context c e) named (second_so (not (ends_in_label false ss)) _ h)
  statement_small (case_label node e) c named h = tt
  statement_small (default_label node) c named h = tt
  statement_small (branch node e t r) c named h =
      small_both c.structs (statement_locals (inner_scope c) t) (else_locals c r) (statement_small t (inner_scope c) named (first_so _ _ h)) (else_small r c named (second_so (statement_filled t) _ h))
  statement_small (while_loop node e t) c named h = statement_small t (inside_loop (inner_scope c)) named h
  statement_small (do_loop node t e) c named h = statement_small t (inside_loop (inner_scope c)) named h
  statement_small (for_loop node start e u t) c named h =
      let inside = inside_loop (inner_scope (for_context c start)) in
      small_both c.structs (start_locals (inner_scope c) start) (statement_locals inside t) (start_small start (inner_scope c) named (first_so _ _ h))
      (subst (λ z. SmallLocals z (statement_locals inside t)) (start_structs start (inner_scope c)) (statement_small t inside (start_named start (inner_scope c) named) (second_so (start_filled start) _ h)))
  statement_small (break node) c named h = tt
  statement_small (continue node) c named h = tt
  statement_small (return node e) c named h = tt

  pub statements_small : (ss : Stmts) (c : Context) → Named c → statements_filled ss ≡ true → SmallLocals c.structs (statements_locals c ss)
  statements_small no_stmts c named h = tt
  statements_small (stmt_and t ts) c named h =
      small_both c.structs (statement_locals c t) (statements_locals (after_statement c t) ts) (statement_small t c named (first_so _ _ h))
      (subst (λ z. SmallLocals z (statements_locals (after_statement c t) ts)) (statement_structs t c) (statements_small ts (after_statement c t) (statement_named t c named) (second_so (statement_filled t) _ h)))

  else_small : (r : Else) (c : Context) → Named c → else_filled r ≡ true → SmallLocals c.structs (else_locals c r)
  else_small no_else c named h = tt
  else_small (else_by t) c named h = statement_small t (inner_scope c) named h
