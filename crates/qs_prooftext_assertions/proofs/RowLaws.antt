-- The rows of assertions are those by which they are read.
use Rattle.std.proofs.Common.{arith, ◌≡◌, ℕ, zero, suc, pos, negsuc, Bool, true, false, bytes_eq, codes, List, [], ◌∷◌, ◌++◌, length, map, if◌then◌else◌, Option, Some, None, Ok, Err, refl, sym, ap, ◌∙◌}
use Rattle.std.proofs.lemmas.List.{append-nil, map-append}
use Rattle.qs_base.specs.Results.{bind}
use Rattle.qs_memory.specs.Partial.{◌>>=◌}
use Rattle.qs_assert.specs.Listing.{inner_term, term_nodes, terms_nodes, cond_nodes, conds_nodes, assertion_nodes, assertions_nodes}
use Rattle.qs_assert.specs.Reading.{term_list-of, cond_list-of, assertion_list-of}
use Rattle.qs_assert.specs.Trees.{TermTree, CondTree, AssertionTree, terms_of, conds_of, assertions_of, term_list, cond_list, assertion_list}
use Rattle.qs_assert.specs.Trees as trees
use Rattle.qs_assert.specs.declared.node.Node.{Node}
use Rattle.qs_assert.specs.declared.node.TermNode.{TermNode}
use Rattle.qs_assert.specs.declared.node.Node.TheVariants as nodes
use Rattle.qs_assert.specs.declared.node.TermNode.TheVariants as term_heads
use Rattle.qs_assert.specs.declared.node.CondNode.TheVariants as cond_heads
use Rattle.qs_assert.specs.declared.node.AssertionNode.TheVariants as assertion_heads
use Rattle.qs_assert.specs.declared.variable.Var.{Var}
use Rattle.qs_sexpr.specs.Trees.{Sexp, number, symbol, list, Sexps, no_parts, part_and, count}
use Rattle.qs_prooftext_assertions.specs.declared.sorts.AssertionWord.{AssertionWord}
use Rattle.qs_prooftext_assertions.specs.declared.sorts.AssertionWord.TheVariants as assertions
use Rattle.qs_prooftext_assertions.specs.declared.sorts.ConditionWord.{ConditionWord}
use Rattle.qs_prooftext_assertions.specs.declared.sorts.ConditionWord.TheVariants as conditions
use Rattle.qs_prooftext_assertions.specs.declared.sorts.TermWord.{TermWord}
use Rattle.qs_prooftext_assertions.specs.declared.sorts.TermWord.TheVariants as terms
use Rattle.qs_prooftext_assertions.specs.declared.sorts.Row.{Row as CodeRow}
use Rattle.qs_prooftext_assertions.specs.declared.sorts.Sort.{Sort}
use Rattle.qs_prooftext_assertions.specs.declared.sorts.Sort.TheVariants.{Term, Condition, Assertion, Definition, Divisor, OldVariable, Function, KnownName, Name}
use Rattle.qs_prooftext_assertions.specs.AssertionRows.{variable_row, term_row, condition_row, assertion_row, definition_row, found_row}
use Rattle.qs_prooftext_assertions.specs.AssertionWords.{term_words, condition_words, assertion_words, definition_words, result_row, term_word_row, condition_word_row, assertion_word_row, definition_word_row}
use Rattle.qs_prooftext_assertions.specs.Flattening.{kind_of, nodes_of_all, divisor_of, IsDivisor}
use Rattle.qs_prooftext_meaning.specs.Heads.{rows, term_rows, condition_rows, assertion_rows, definition_rows, result_rows}
use Rattle.qs_prooftext_meaning.specs.Kinds.{Kind, Of, Row, none, a_term, a_divisor, a_condition, an_assertion, a_definition_body}
use Rattle.qs_prooftext_meaning.specs.Meanings.{Answer, means, each_means}
use Rattle.qs_prooftext_meaning.specs.Settings.{Setting, look_up}
use Rattle.qs_prooftext_assertions.proofs.FlatLaws.{spec_flat, code_flat, none_row, one_row, two_row, three_row, many_row}
use Rattle.qs_prooftext_assertions.proofs.LeafLaws.{divisor_list}

-- ---- the heads are found alike

pub pick : {A B : Type 0} (b : Bool) (a : A) (o : Option A) (r x : Option B) (f : A → Option B) → f a ≡ r → x ≡ (o >>= f) → (if b then r else x) ≡ ((if b then Some a else o) >>= f)
pick true a o r x f h k = sym h
pick false a o r x f h k = k

pub last_result : {k : Kind} (w : List ℕ) (made : Var → Of k) (o : Option Var) (b : Bool) → bytes_eq (codes "result") w ≡ b → look_up w (result_rows made o) ≡ (if b then result_row made o else None)
last_result w made None true h = refl
last_result w made None false h = refl
last_result {k = k} w made (Some x) true h =
    let r : Option (Row k) = Some (none (made x)) in ap (λ (b : Bool). if b then r else None) h
last_result {k = k} w made (Some x) false h =
    let r : Option (Row k) = Some (none (made x)) in ap (λ (b : Bool). if b then r else None) h

pub terms_found : (g : Setting) (at : ℕ) (w : List ℕ) → look_up w (term_rows g at) ≡ (look_up w term_words >>= term_word_row g.result at)
terms_found g at w =
    let f : TermWord → Option (Row a_term) = term_word_row g.result at in
    pick _ terms.Old _ _ _ f refl (pick _ terms.Add _ _ _ f refl (pick _ terms.Sub _ _ _ f refl (pick _ terms.Mul _ _ _ f refl (pick _ terms.Div _ _ _ f refl (pick _ terms.WrapUnsigned _ _ _ f refl (pick _ terms.WrapSigned _ _ _ f refl (pick _ terms.Bits _ _ _ f refl (last_result w trees.variable g.result _ refl ∙ pick _ terms.Returned None _ None f refl refl))))))))

pub conditions_found : (w : List ℕ) → look_up w condition_rows ≡ (look_up w condition_words >>= condition_word_row)
conditions_found w =
    pick _ conditions.Le _ _ _ condition_word_row refl (pick _ conditions.Lt _ _ _ condition_word_row refl (pick _ conditions.Eq _ _ _ condition_word_row refl (pick _ conditions.Ne _ _ _ condition_word_row refl (pick _ conditions.Not _ _ _ condition_word_row refl (pick _ conditions.And _ _ _ condition_word_row refl (pick _ conditions.Or None _ None condition_word_row refl refl))))))

pub assertions_found : (at : ℕ) (w : List ℕ) → look_up w (assertion_rows at) ≡ (look_up w assertion_words >>= assertion_word_row at)
assertions_found at w =
    pick _ assertions.Infinity _ _ _ (assertion_word_row at) refl (pick _ assertions.Cost _ _ _ (assertion_word_row at) refl (pick _ assertions.Num _ _ _ (assertion_word_row at) refl (pick _ assertions.Total _ _ _ (assertion_word_row at) refl (pick _ assertions.Greatest _ _ _ (assertion_word_row at) refl (pick _ assertions.Product _ _ _ (assertion_word_row at) refl (pick _ assertions.Guard _ _ _ (assertion_word_row at) refl (pick _ assertions.If _ _ _ (assertion_word_row at) refl (pick _ assertions.Named None _ None (assertion_word_row at) refl refl))))))))

pub definitions_found : (at : ℕ) (w : List ℕ) → look_up w (definition_rows at) ≡ (look_up w definition_words >>= definition_word_row at)
definitions_found at w =
    pick _ assertions.Cost _ _ _ (definition_word_row at) refl (pick _ assertions.Total _ _ _ (definition_word_row at) refl (pick _ assertions.Greatest _ _ _ (definition_word_row at) refl (pick _ assertions.Product _ _ _ (definition_word_row at) refl (pick _ assertions.Named None _ None (definition_word_row at) refl refl))))

-- ---- nodes

bare : (xs : List Node) → xs ≡ xs ++ []
bare xs = sym (append-nil xs)

of_terms : (vs : List TermTree) → map nodes.Term (terms_nodes (terms_of vs)) ≡ nodes_of_all Term vs
of_terms [] = refl
of_terms (v ∷ vs) = map-append nodes.Term (term_nodes v) (terms_nodes (terms_of vs)) ∙ ap (λ (xs : List Node). inner_term v ++ xs) (of_terms vs)

of_conditions : (vs : List CondTree) → conds_nodes (conds_of vs) ≡ nodes_of_all Condition vs
of_conditions [] = refl
of_conditions (v ∷ vs) = ap (λ (xs : List Node). cond_nodes v ++ xs) (of_conditions vs)

of_assertions : (vs : List AssertionTree) → assertions_nodes (assertions_of vs) ≡ nodes_of_all Assertion vs
of_assertions [] = refl
of_assertions (v ∷ vs) = ap (λ (xs : List Node). assertion_nodes v ++ xs) (of_assertions vs)

of_definitions : (vs : List AssertionTree) → assertions_nodes (assertions_of vs) ≡ nodes_of_all Definition vs
of_definitions [] = refl
of_definitions (v ∷ vs) = ap (λ (xs : List Node). assertion_nodes v ++ xs) (of_definitions vs)

terms_many : (head : ℕ → TermNode) (vs : List TermTree) (n : ℕ) → length vs ≡ n → map nodes.Term (head (length (term_list (terms_of vs))) ∷ terms_nodes (terms_of vs)) ≡ nodes.Term (head n) ∷ nodes_of_all Term vs
terms_many head vs n e = λ i. nodes.Term (head ((ap (λ (ts : List TermTree). length ts) (term_list-of vs) ∙ e) i)) ∷ of_terms vs i

conditions_many : (head : ℕ → Node) (vs : List CondTree) (n : ℕ) → length vs ≡ n → head (length (cond_list (conds_of vs))) ∷ conds_nodes (conds_of vs) ≡ head n ∷ nodes_of_all Condition vs
conditions_many head vs n e = λ i. head ((ap (λ (ts : List CondTree). length ts) (cond_list-of vs) ∙ e) i) ∷ of_conditions vs i

assertions_many : (head : ℕ → Node) (vs : List AssertionTree) (n : ℕ) → length vs ≡ n → head (length (assertion_list (assertions_of vs))) ∷ assertions_nodes (assertions_of vs) ≡ head n ∷ nodes_of_all Assertion vs
assertions_many head vs n e = λ i. head ((ap (λ (ts : List AssertionTree). length ts) (assertion_list-of vs) ∙ e) i) ∷ of_assertions vs i

definitions_many : (head : ℕ → Node) (vs : List AssertionTree) (n : ℕ) → length vs ≡ n → head (length (assertion_list (assertions_of vs))) ∷ assertions_nodes (assertions_of vs) ≡ head n ∷ nodes_of_all Definition vs
definitions_many head vs n e = λ i. head ((ap (λ (ts : List AssertionTree). length ts) (assertion_list-of vs) ∙ e) i) ∷ of_definitions vs i

inner_two : (h : TermNode) (t u : TermTree) → map nodes.Term (h ∷ term_nodes t ++ term_nodes u) ≡ nodes.Term h ∷ (inner_term t ++ (inner_term u ++ []))
inner_two h t u = ap (λ (xs : List Node). nodes.Term h ∷ xs) (map-append nodes.Term (term_nodes t) (term_nodes u) ∙ ap (λ (xs : List Node). inner_term t ++ xs) (bare (inner_term u)))

compared : (h : Node) (t u : TermTree) → h ∷ inner_term t ++ inner_term u ≡ h ∷ (inner_term t ++ (inner_term u ++ []))
compared h t u = ap (λ (xs : List Node). h ∷ (inner_term t ++ xs)) (bare (inner_term u))

-- ---- the divisor of a quotient

number_divides : (g : Setting) (q : Sexp) (k : ℕ) → means g a_divisor q ≡ Ok k → divisor_of q ≡ k
number_divides g (number at (pos zero)) k e = absurd (cc)
number_divides g (number at (pos (suc m))) k e = cc
number_divides g (number at (negsuc m)) k e = absurd (cc)
number_divides g (symbol at w) k e = absurd (cc)
number_divides g (list at parts) k e = absurd (let f = divisor_list g at parts in cc)

second_of : {A B : Type 0} (x : Answer A) (y : Answer B) (p : A) (q : B) → bind x (λ v. bind (bind y (λ u. let w : B × Unit {0} = (u, tt) in Ok w)) (λ vs. let w : A × (B × Unit {0}) = (v, vs) in Ok w)) ≡ Ok (p, (q, tt)) → y ≡ Ok q
second_of (Err f) y p q e = absurd (cc)
second_of (Ok v) (Err f) p q e = absurd (cc)
second_of {A = A} {B = B} (Ok v) (Ok u) p q e =
    let l : A × (B × Unit {0}) = (v, (u, tt)) in
    let r : A × (B × Unit {0}) = (p, (q, tt)) in
    let f : l ≡ r = cc in
    ap (λ (w : A × (B × Unit {0})). Ok w.1.0) f

divides : (g : Setting) (parts : Sexps) (n : ℕ) (t : TermTree) (k : ℕ) → IsDivisor n parts → count parts ≡ 2 → each_means g (a_term ∷ a_divisor ∷ []) parts ≡ Ok (t, (k, tt)) → k ≡ n
divides g no_parts n t k d c e = absurd (omega (arith, c))
divides g (part_and p no_parts) n t k d c e = absurd (omega (arith, c))
divides g (part_and p (part_and q no_parts)) n t k d c e =
    sym (d p q refl ∙ number_divides g q k (second_of (means g a_term p) (means g a_divisor q) t k e))
divides g (part_and p (part_and q (part_and r ps))) n t k d c e = absurd (omega (arith, c))

-- ---- each head

returned_fits : (g : Setting) (at : ℕ) (o : Option Var) (parts : Sexps) → spec_flat g Term at (result_row trees.variable o) parts ≡ code_flat g at (variable_row o) parts
returned_fits g at None parts = refl
returned_fits g at (Some x) parts = none_row g Term at (trees.variable x) (Some (nodes.Term (term_heads.Variable x))) parts refl

after : (h : Node) (xs : List Node) → h ∷ xs ≡ h ∷ (xs ++ [])
after h xs = ap (λ (ys : List Node). h ∷ ys) (bare xs)

term_fits : (g : Setting) (at : ℕ) (w : TermWord) (parts : Sexps) (n : ℕ) → IsDivisor n parts → spec_flat g Term at (term_word_row g.result at w) parts ≡ code_flat g at (term_row g.result at (count parts) n w) parts
term_fits g at terms.Old parts n d = one_row g Term (OldVariable at) at trees.variable None parts (λ x. refl)
term_fits g at terms.Add parts n d =
    many_row g Term Term at (λ ts. trees.add (terms_of ts)) (Some (nodes.Term (term_heads.Add (count parts)))) parts (λ vs e. terms_many term_heads.Add vs (count parts) e)
term_fits g at terms.Sub parts n d =
    two_row g Term Term Term at trees.sub (Some (nodes.Term term_heads.Sub)) parts (λ c t u e. inner_two term_heads.Sub t u)
term_fits g at terms.Mul parts n d =
    many_row g Term Term at (λ ts. trees.mul (terms_of ts)) (Some (nodes.Term (term_heads.Mul (count parts)))) parts (λ vs e. terms_many term_heads.Mul vs (count parts) e)
term_fits g at terms.Div parts n d =
    two_row g Term Term Divisor at trees.div (Some (nodes.Term (term_heads.Div n))) parts (λ c t k e. (λ i. nodes.Term (term_heads.Div (divides g parts n t k d c e i)) ∷ bare (inner_term t) i))
term_fits g at terms.WrapUnsigned parts n d =
    one_row g Term Term at trees.wrapu (Some (nodes.Term term_heads.WrapUnsigned)) parts (λ t. after (nodes.Term term_heads.WrapUnsigned) (inner_term t))
term_fits g at terms.WrapSigned parts n d =
    one_row g Term Term at trees.wraps (Some (nodes.Term term_heads.WrapSigned)) parts (λ t. after (nodes.Term term_heads.WrapSigned) (inner_term t))
term_fits g at terms.Bits parts n d =
    one_row g Term Term at trees.bits (Some (nodes.Term term_heads.Bits)) parts (λ t. after (nodes.Term term_heads.Bits) (inner_term t))
term_fits g at terms.Returned parts n d = returned_fits g at g.result parts

condition_fits : (g : Setting) (at : ℕ) (w : ConditionWord) (parts : Sexps) → spec_flat g Condition at (condition_word_row w) parts ≡ code_flat g at (condition_row (count parts) w) parts
condition_fits g at conditions.Le parts =
    two_row g Condition Term Term at trees.le (Some (nodes.Condition cond_heads.Le)) parts (λ c t u e. compared (nodes.Condition cond_heads.Le) t u)
condition_fits g at conditions.Lt parts =
    two_row g Condition Term Term at trees.lt (Some (nodes.Condition cond_heads.Lt)) parts (λ c t u e. compared (nodes.Condition cond_heads.Lt) t u)
condition_fits g at conditions.Eq parts =
    two_row g Condition Term Term at trees.eq (Some (nodes.Condition cond_heads.Eq)) parts (λ c t u e. compared (nodes.Condition cond_heads.Eq) t u)
condition_fits g at conditions.Ne parts =
    two_row g Condition Term Term at trees.ne (Some (nodes.Condition cond_heads.Ne)) parts (λ c t u e. compared (nodes.Condition cond_heads.Ne) t u)
condition_fits g at conditions.Not parts =
    one_row g Condition Condition at trees.not (Some (nodes.Condition cond_heads.Not)) parts (λ c. after (nodes.Condition cond_heads.Not) (cond_nodes c))
condition_fits g at conditions.And parts =
    many_row g Condition Condition at (λ cs. trees.and (conds_of cs)) (Some (nodes.Condition (cond_heads.And (count parts)))) parts (λ vs e. conditions_many (λ m. nodes.Condition (cond_heads.And m)) vs (count parts) e)
condition_fits g at conditions.Or parts =
    many_row g Condition Condition at (λ cs. trees.or (conds_of cs)) (Some (nodes.Condition (cond_heads.Or (count parts)))) parts (λ vs e. conditions_many (λ m. nodes.Condition (cond_heads.Or m)) vs (count parts) e)

assertion_fits : (g : Setting) (at : ℕ) (w : AssertionWord) (parts : Sexps) → spec_flat g Assertion at (assertion_word_row at w) parts ≡ code_flat g at (assertion_row at (count parts) w) parts
assertion_fits g at assertions.Infinity parts =
    none_row g Assertion at trees.infinity (Some (nodes.Assertion assertion_heads.Infinity)) parts refl
assertion_fits g at assertions.Cost parts = one_row g Assertion (Function at) at trees.cost None parts (λ f. refl)
assertion_fits g at assertions.Num parts =
    one_row g Assertion Term at trees.num (Some (nodes.Assertion assertion_heads.Num)) parts (λ t. after (nodes.Assertion assertion_heads.Num) (inner_term t))
assertion_fits g at assertions.Total parts =
    many_row g Assertion Assertion at (λ vs. trees.total (assertions_of vs)) (Some (nodes.Assertion (assertion_heads.Total (count parts)))) parts (λ vs e. assertions_many (λ m. nodes.Assertion (assertion_heads.Total m)) vs (count parts) e)
assertion_fits g at assertions.Greatest parts =
    many_row g Assertion Assertion at (λ vs. trees.greatest (assertions_of vs)) (Some (nodes.Assertion (assertion_heads.Greatest (count parts)))) parts (λ vs e. assertions_many (λ m. nodes.Assertion (assertion_heads.Greatest m)) vs (count parts) e)
assertion_fits g at assertions.Product parts =
    many_row g Assertion Assertion at (λ vs. trees.product (assertions_of vs)) (Some (nodes.Assertion (assertion_heads.Product (count parts)))) parts (λ vs e. assertions_many (λ m. nodes.Assertion (assertion_heads.Product m)) vs (count parts) e)
assertion_fits g at assertions.Guard parts =
    two_row g Assertion Condition Assertion at trees.guard (Some (nodes.Assertion assertion_heads.Guard)) parts (λ n c a e. ap (λ (xs : List Node). nodes.Assertion assertion_heads.Guard ∷ (cond_nodes c ++ xs)) (bare (assertion_nodes a)))
assertion_fits g at assertions.If parts =
    three_row g Assertion Condition Assertion Assertion at trees.choose (Some (nodes.Assertion assertion_heads.If)) parts (λ c a b. ap (λ (xs : List Node). nodes.Assertion assertion_heads.If ∷ (cond_nodes c ++ (assertion_nodes a ++ xs))) (bare (assertion_nodes b)))
assertion_fits g at assertions.Named parts = one_row g Assertion (KnownName at) at trees.named None parts (λ f. refl)

definition_fits : (g : Setting) (at : ℕ) (w : AssertionWord) (parts : Sexps) → spec_flat g Definition at (definition_word_row at w) parts ≡ code_flat g at (definition_row at (count parts) w) parts
definition_fits g at assertions.Infinity parts = refl
definition_fits g at assertions.Cost parts = one_row g Definition (Function at) at trees.cost None parts (λ f. refl)
definition_fits g at assertions.Num parts = refl
definition_fits g at assertions.Total parts =
    many_row g Definition Definition at (λ vs. trees.total (assertions_of vs)) (Some (nodes.Assertion (assertion_heads.Total (count parts)))) parts (λ vs e. definitions_many (λ m. nodes.Assertion (assertion_heads.Total m)) vs (count parts) e)
definition_fits g at assertions.Greatest parts =
    many_row g Definition Definition at (λ vs. trees.greatest (assertions_of vs)) (Some (nodes.Assertion (assertion_heads.Greatest (count parts)))) parts (λ vs e. definitions_many (λ m. nodes.Assertion (assertion_heads.Greatest m)) vs (count parts) e)
definition_fits g at assertions.Product parts =
    many_row g Definition Definition at (λ vs. trees.product (assertions_of vs)) (Some (nodes.Assertion (assertion_heads.Product (count parts)))) parts (λ vs e. definitions_many (λ m. nodes.Assertion (assertion_heads.Product m)) vs (count parts) e)
definition_fits g at assertions.Guard parts = refl
definition_fits g at assertions.If parts = refl
definition_fits g at assertions.Named parts = one_row g Definition Name at trees.named None parts (λ f. refl)

by_word : {A : Type 0} (g : Setting) (k : Sort) (at : ℕ) (parts : Sexps) (o : Option A) (f : A → Option (Row (kind_of k))) (h : A → Option CodeRow) → ((a : A) → spec_flat g k at (f a) parts ≡ code_flat g at (h a) parts) → spec_flat g k at (o >>= f) parts ≡ code_flat g at (o >>= h) parts
by_word g k at parts None f h e = refl
by_word g k at parts (Some a) f h e = e a

pub found_fits : (g : Setting) (k : Sort) (at : ℕ) (w : List ℕ) (parts : Sexps) (n : ℕ) → IsDivisor n parts → spec_flat g k at (look_up w (rows g (kind_of k) at)) parts ≡ code_flat g at (found_row g.result k at (count parts) n w) parts
found_fits g Term at w parts n d =
    ap (λ (o : Option (Row a_term)). spec_flat g Term at o parts) (terms_found g at w) ∙ by_word g Term at parts (look_up w term_words) (term_word_row g.result at) (term_row g.result at (count parts) n) (λ a. term_fits g at a parts n d)
found_fits g Condition at w parts n d =
    ap (λ (o : Option (Row a_condition)). spec_flat g Condition at o parts) (conditions_found w) ∙ by_word g Condition at parts (look_up w condition_words) condition_word_row (condition_row (count parts)) (λ a. condition_fits g at a parts)
found_fits g Assertion at w parts n d =
    ap (λ (o : Option (Row an_assertion)). spec_flat g Assertion at o parts) (assertions_found at w) ∙ by_word g Assertion at parts (look_up w assertion_words) (assertion_word_row at) (assertion_row at (count parts)) (λ a. assertion_fits g at a parts)
found_fits g Definition at w parts n d =
    ap (λ (o : Option (Row a_definition_body)). spec_flat g Definition at o parts) (definitions_found at w) ∙ by_word g Definition at parts (look_up w definition_words) (definition_word_row at) (definition_row at (count parts)) (λ a. definition_fits g at a parts)
found_fits g Divisor at w parts n d = refl
found_fits g (OldVariable whole) at w parts n d = refl
found_fits g (Function whole) at w parts n d = refl
found_fits g (KnownName whole) at w parts n d = refl
found_fits g Name at w parts n d = refl
