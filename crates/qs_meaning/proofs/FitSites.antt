-- The expressions of a unit that is read and within the limits: constants, texts and called functions are known.
use Rattle.std.proofs.Common.{◌≡◌, ℕ, ◌+◌, nat_lt, nat_le, ◌==◌, Bool, true, false, ◌&&◌, ◌||◌, List, [], ◌∷◌, ◌++◌, length, map, flat_map, Some, None, refl, arith, if◌then◌else◌}
use Rattle.std.specs.List.{list_all}
use Rattle.std.proofs.lemmas.Bool.{eq-eqb, and_from, or_left, or_right}
use Rattle.std.proofs.lemmas.Bool.Decides.{nat_tests}
use Rattle.std.specs.Cmp.{first_so, second_so}
use Rattle.qs_base.specs.Bytes.{same_bytes}
use Rattle.qs_base.proofs.ByteLaws.{bytes_exact}
use Rattle.qs_syntax.specs.Trees.{UnitTree}
use Rattle.qs_types.specs.Layout.{rounded_up}
use Rattle.qs_types.specs.Limits.{Block, block_end, block_past, global_limit, text_block, variable_blocks_from, data_blocks, first_past_globals, word_size}
use Rattle.qs_types.specs.Contexts.{start_context}
use Rattle.qs_types.specs.Placed.{is_one_of}
use Rattle.qs_types.specs.References.{TextBlock, expr_calls, expr_texts, site_texts, literal_blocks, unit_calls}
use Rattle.qs_types.specs.Sites.{Site, unit_sites}
use Rattle.qs_types.specs.UnitRules.{is_name_in}
use Rattle.qs_meaning.specs.FitLaws.{literals_fit, unit_literals_fit}
use Rattle.qs_meaning.proofs.Options.{never, all_left, all_right}
use Rattle.qs_meaning.proofs.FitLeaves.{is_sure, sure_by, is_short}
use Rattle.qs_meaning.proofs.FitInitialisers.{site_sure}

-- ---- texts are short, since data are within the limit

blocks_within : (limit end : ℕ) (bs : List Block) → block_past limit end bs ≡ None → list_all (λ (b : Block). nat_le b.size limit) bs ≡ true
blocks_within limit end [] e = refl
blocks_within limit end (b ∷ bs) e = go (nat_lt limit (block_end end b)) refl (λ f. blocks_within limit (block_end end b) bs f) e
  where
    no : (n : ℕ) → Some n ≡ None → false ≡ true
    no n e = cc

    at_most : (r n : ℕ) → nat_lt limit (r + n) ≡ false → nat_le n limit ≡ true
    at_most r n h = grind (arith, nat_tests)

    go : (c : Bool) → nat_lt limit (block_end end b) ≡ c → (block_past limit (block_end end b) bs ≡ None → list_all (λ (b : Block). nat_le b.size limit) bs ≡ true)
        → (if c then Some b.node else block_past limit (block_end end b) bs) ≡ None → (nat_le b.size limit && list_all (λ (b : Block). nat_le b.size limit) bs) ≡ true
    go true h later e = never (no b.node e)
    go false h later e = and_from _ _ (at_most (rounded_up end word_size) b.size h) (later e)

short_texts : (ts : List TextBlock) → list_all (λ (b : Block). nat_le b.size global_limit) (map text_block ts) ≡ true → list_all is_short ts ≡ true
short_texts [] e = refl
short_texts (t ∷ ts) e = and_from _ _ (first_so _ _ e) (short_texts ts (second_so (nat_le (length t.bytes + 1) global_limit) _ e))

pub literals_short : (unit : UnitTree) → first_past_globals global_limit unit ≡ None → list_all is_short (literal_blocks unit) ≡ true
literals_short unit e =
    short_texts (literal_blocks unit) (all_right (λ (b : Block). nat_le b.size global_limit) (variable_blocks_from start_context unit) (map text_block (literal_blocks unit))
    (blocks_within global_limit 0 (data_blocks unit) e))

-- ---- what is in a part is in the whole

abbrev pub nodes_of : List TextBlock → List ℕ
nodes_of ts = map (λ (t : TextBlock). t.node) ts

one_front : (n : ℕ) (ts us : List TextBlock) → is_one_of n (nodes_of ts) ≡ true → is_one_of n (nodes_of (ts ++ us)) ≡ true
one_front n [] us e = never e
one_front n (t ∷ ts) us e = go (t.node == n) (one_front n ts us) e
  where
    go : (b : Bool) → (is_one_of n (nodes_of ts) ≡ true → is_one_of n (nodes_of (ts ++ us)) ≡ true) → (b || is_one_of n (nodes_of ts)) ≡ true
        → (b || is_one_of n (nodes_of (ts ++ us))) ≡ true
    go true later e = refl
    go false later e = later e

one_back : (n : ℕ) (ts us : List TextBlock) → is_one_of n (nodes_of us) ≡ true → is_one_of n (nodes_of (ts ++ us)) ≡ true
one_back n [] us e = e
one_back n (t ∷ ts) us e = or_right (t.node == n) _ (one_back n ts us e)

name_front : (x : List ℕ) (xs ys : List (List ℕ)) → is_name_in x xs ≡ true → is_name_in x (xs ++ ys) ≡ true
name_front x [] ys e = never e
name_front x (y ∷ xs) ys e = go (same_bytes x y) (name_front x xs ys) e
  where
    go : (b : Bool) → (is_name_in x xs ≡ true → is_name_in x (xs ++ ys) ≡ true) → (b || is_name_in x xs) ≡ true → (b || is_name_in x (xs ++ ys)) ≡ true
    go true later e = refl
    go false later e = later e

name_back : (x : List ℕ) (xs ys : List (List ℕ)) → is_name_in x ys ≡ true → is_name_in x (xs ++ ys) ≡ true
name_back x [] ys e = e
name_back x (y ∷ xs) ys e = or_right (same_bytes x y) _ (name_back x xs ys e)

calls_known : (xs all : List (List ℕ)) → ((x : List ℕ) → is_name_in x xs ≡ true → is_name_in x all ≡ true) → list_all (λ x. is_name_in x all) xs ≡ true
calls_known [] all h = refl
calls_known (x ∷ xs) all h =
    and_from _ _ (h x (or_left (same_bytes x x) _ ((bytes_exact x x).1 refl))) (calls_known xs all (λ y e. h y (or_right (same_bytes y x) _ e)))

texts_known : (ts : List TextBlock) (texts : List ℕ) → list_all is_short ts ≡ true → ((n : ℕ) → is_one_of n (nodes_of ts) ≡ true → is_one_of n texts ≡ true)
    → list_all (λ (t : TextBlock). is_one_of t.node texts && is_short t) ts ≡ true
texts_known [] texts s h = refl
texts_known (t ∷ ts) texts s h =
    and_from _ _ (and_from _ _ (h t.node (or_left (t.node == t.node) _ (eq-eqb t.node t.node refl))) (first_so _ _ s))
    (texts_known ts texts (second_so (is_short t) _ s) (λ n e. h n (or_right (t.node == n) _ e)))

-- ---- the expressions of a unit

abbrev pub calls_in : List (List ℕ) → List ℕ → Bool
calls_in names x = is_name_in x names

abbrev pub text_in : List ℕ → TextBlock → Bool
text_in texts t = is_one_of t.node texts && is_short t

sites_sure : (ss : List Site) (names : List (List ℕ)) (texts : List ℕ) → list_all (λ (s : Site). literals_fit s.expression) ss ≡ true
    → ((x : List ℕ) → is_name_in x (flat_map (λ (s : Site). expr_calls s.expression) ss) ≡ true → is_name_in x names ≡ true)
    → list_all is_short (flat_map site_texts ss) ≡ true → ((n : ℕ) → is_one_of n (nodes_of (flat_map site_texts ss)) ≡ true → is_one_of n texts ≡ true)
    → list_all (site_sure (calls_in names) (text_in texts)) ss ≡ true
sites_sure [] names texts w c s t = refl
sites_sure (x ∷ xs) names texts w c s t =
    and_from _ _ (go x.fills_array (all_left is_short (site_texts x) (flat_map site_texts xs) s) (λ n e. t n (one_front n (site_texts x) (flat_map site_texts xs) e)))
    (sites_sure xs names texts (second_so (literals_fit x.expression) _ w)
    (λ y e. c y (name_back y (expr_calls x.expression) (flat_map (λ (s : Site). expr_calls s.expression) xs) e)) (all_right is_short (site_texts x) (flat_map site_texts xs) s)
    (λ n e. t n (one_back n (site_texts x) (flat_map site_texts xs) e)))
  where
    go : (b : Bool) → list_all is_short (if b then [] else expr_texts x.expression) ≡ true
        → ((n : ℕ) → is_one_of n (nodes_of (if b then [] else expr_texts x.expression)) ≡ true → is_one_of n texts ≡ true)
        → (b || is_sure (calls_in names) (text_in texts) x.expression) ≡ true
    go true s t = refl
    go false s t =
        sure_by (calls_in names) (text_in texts) x.expression (first_so _ _ w)
        (calls_known (expr_calls x.expression) names (λ y e. c y (name_front y (expr_calls x.expression) (flat_map (λ (s : Site). expr_calls s.expression) xs) e)))
        (texts_known (expr_texts x.expression) texts s t)

pub unit_sure : (unit : UnitTree) → unit_literals_fit unit ≡ true → first_past_globals global_limit unit ≡ None
    → list_all (site_sure (calls_in (unit_calls unit)) (text_in (nodes_of (literal_blocks unit)))) (unit_sites unit) ≡ true
unit_sure unit w e = sites_sure (unit_sites unit) (unit_calls unit) (nodes_of (literal_blocks unit)) w (λ x h. h) (literals_short unit e) (λ n h. h)
