-- Derivations are read by their heads.
use Rattle.std.proofs.Common.{◌≡◌, ◌⊎◌, inl, inr, ℕ, ◌+◌, Bool, true, false, List, ◌++◌, length, if◌then◌else◌, Option, Some, None, Ok, Err, refl, sym, ap, ◌∙◌}
use Rattle.std.proofs.lemmas.Bool.{eqb-true}
use Rattle.qs_base.specs.Results.{bind}
use Rattle.qs_assert.specs.Trees.{AssertionTree}
use Rattle.qs_entail.specs.Certificates.{CertTree}
use Rattle.qs_sexpr.specs.Trees.{Sexps, part_and, symbol, list, count}
use Rattle.qs_triples.specs.Derivations as derivations
use Rattle.qs_triples.specs.Derivations.{DerivationTree}
use Rattle.qs_triples.specs.TreeOf.{derivations_of}
use Rattle.qs_prooftext_meaning.specs.declared.fault.TextFault.{TextFault}
use Rattle.qs_prooftext_meaning.specs.declared.fault.TextFault.TheVariants.{UnknownForm, NoMemory}
use Rattle.qs_prooftext.specs.declared.statements.Statement.{Statement}
use Rattle.qs_prooftext.specs.declared.statements.Statement.TheVariants as statements
use Rattle.qs_prooftext.specs.DerivationHeads as heads
use Rattle.qs_prooftext.specs.DerivationHeads.{HeadTree, arity, derivation_shape, planted, reason_means, statement_means, statement_row}
use Rattle.qs_prooftext_assertions.specs.Firsts.{first_means, tail}
use Rattle.qs_prooftext_meaning.specs.Heads.{derivation_rows}
use Rattle.qs_prooftext.specs.HeadWalks.{HasHead, listed}
use Rattle.qs_prooftext_meaning.specs.Kinds.{Row, a_certificate, a_derivation, an_assertion}
use Rattle.qs_prooftext_meaning.specs.Meanings.{Answer, means, takes}
use Rattle.qs_prooftext_meaning.specs.Settings.{Setting, look_up}
use Rattle.qs_prooftext.specs.StatementWords.{statement_words, statement_takes, statement_leaves}
use Rattle.qs_prooftext.proofs.HeadLaws.{firsts_same, own_all, own_one, own_two}
use Rattle.qs_prooftext.proofs.ShapeLaws.{taken_by, made_arity, head_arity, leaves_and, no_leaves, by_row, by_head, none_row, two_row, any_row, leaves_row, leaves_one_row, leaves_two_row, pair_means, then_two}

-- ---- the heads are found alike

abbrev pub found : Option Statement → Option (Row a_derivation)
found None = None
found (Some statement) = Some (statement_row statement)

pick : (b : Bool) (a : Statement) (o : Option Statement) (x : Option (Row a_derivation)) → x ≡ found o → (if b then Some (statement_row a) else x) ≡ found (if b then Some a else o)
pick true a o x h = refl
pick false a o x h = h

statements_found : (w : List ℕ) → look_up w derivation_rows ≡ found (look_up w statement_words)
statements_found w =
    pick _ statements.Leaf _ _ (pick _ statements.Sequence _ _ (pick _ statements.Conditional _ _ (pick _ statements.Loop _ _ (pick _ statements.Switch _ _ (pick _ statements.Call _ _ (pick _ statements.BalancedCall _ _ (pick _ statements.Consequence None None refl)))))))

by_words : (g : Setting) (at place : ℕ) (w : List ℕ) (ss : Sexps) → means g a_derivation (list at (part_and (symbol place w) ss)) ≡ listed g at (found (look_up w statement_words)) ss
by_words g at place w ss = ap (λ (o : Option (Row a_derivation)). listed g at o ss) (statements_found w)

-- ---- each statement

reason_head : (g : Setting) (ss : Sexps) (head : AssertionTree × CertTree → HeadTree) → bind (reason_means g ss) (λ r. Ok (head r)) ≡ pair_means an_assertion a_certificate g (λ a c. head (a, c)) ss
reason_head g ss head = then_two (first_means g an_assertion ss) (first_means g a_certificate (tail ss)) (λ a c. (a, c)) head

-- a list with as many parts as its statement takes is what its head and the derivations behind make
statement_reads : (g : Setting) (t : Statement) (ss : Sexps) → statement_takes t (count ss) ≡ true → by_row g (statement_row t) ss ≡ by_head a_derivation planted g (statement_means g t (count ss) ss) (statement_leaves t) ss
statement_reads g statements.Leaf ss h = none_row a_derivation planted g ss derivations.leaf heads.leaf (eqb-true (count ss) 0 h) refl
statement_reads g statements.Sequence ss h =
    any_row a_derivation planted g ss (λ ds. derivations.sequence (derivations_of ds)) (heads.sequence (count ss)) (λ vs e. ap (λ (ds : List DerivationTree). derivations.sequence (derivations_of ds)) (sym (firsts_same derivations.leaf (count ss) vs e)))
statement_reads g statements.Conditional ss h =
    two_row a_derivation planted g ss derivations.conditional heads.conditional (eqb-true (count ss) 2 h) (λ u v. refl)
statement_reads g statements.Loop ss h =
    leaves_two_row a_derivation an_assertion a_certificate planted g ss derivations.loop (λ a c. heads.loop (a, c)) (eqb-true (count ss) 4 h) (λ a c d e. refl) ∙ ap (λ (x : Answer HeadTree). by_head a_derivation planted g x 2 ss) (sym (reason_head g ss heads.loop))
statement_reads g statements.Switch ss h =
    any_row a_derivation planted g ss (λ ds. derivations.switch (derivations_of ds)) (heads.switch (count ss)) (λ vs e. ap (λ (ds : List DerivationTree). derivations.switch (derivations_of ds)) (sym (firsts_same derivations.leaf (count ss) vs e)))
statement_reads g statements.Call ss h =
    leaves_row a_derivation an_assertion a_certificate planted g ss derivations.call (λ a c. heads.call (a, c)) (eqb-true (count ss) 2 h) (λ a c. refl) ∙ ap (λ (x : Answer HeadTree). by_head a_derivation planted g x 2 ss) (sym (reason_head g ss heads.call))
statement_reads g statements.BalancedCall ss h =
    none_row a_derivation planted g ss derivations.balanced_call heads.balanced_call (eqb-true (count ss) 0 h) refl
statement_reads g statements.Consequence ss h =
    leaves_one_row a_derivation an_assertion a_certificate planted g ss derivations.consequence (λ a c. heads.consequence (a, c)) (eqb-true (count ss) 3 h) (λ a c d. refl) ∙ ap (λ (x : Answer HeadTree). by_head a_derivation planted g x 2 ss) (sym (reason_head g ss heads.consequence))

statement_takes_so : (t : Statement) (n : ℕ) → takes (statement_row t) n ≡ statement_takes t n
statement_takes_so statements.Leaf n = refl
statement_takes_so statements.Sequence n = refl
statement_takes_so statements.Conditional n = refl
statement_takes_so statements.Loop n = refl
statement_takes_so statements.Switch n = refl
statement_takes_so statements.Call n = refl
statement_takes_so statements.BalancedCall n = refl
statement_takes_so statements.Consequence n = refl

statement_listed : (g : Setting) (at n : ℕ) (t : Statement) (ss : Sexps) → n ≡ count ss → statement_takes t n ≡ true → listed g at (Some (statement_row t)) ss ≡ by_head a_derivation planted g (statement_means g t n ss) (statement_leaves t) ss
statement_listed g at n t ss c h =
    let e : statement_takes t (count ss) ≡ true = ap (statement_takes t) (sym c) ∙ h in
    taken_by g at (statement_row t) ss true (statement_takes_so t (count ss) ∙ e) ∙ (statement_reads g t ss e ∙ (λ i. by_head a_derivation planted g (statement_means g t (sym c i) ss) (statement_leaves t) ss))

statement_fits : (g : Setting) (t : Statement) (n : ℕ) (ss : Sexps) (h : HeadTree) → statement_takes t n ≡ true → statement_means g t n ss ≡ Ok h → statement_leaves t + arity h ≡ n
statement_fits g statements.Leaf n ss h t e = no_leaves n (arity h) (head_arity arity heads.leaf h 0 refl e ∙ sym (eqb-true n 0 t))
statement_fits g statements.Sequence n ss h t e = no_leaves n (arity h) (head_arity arity (heads.sequence n) h n refl e)
statement_fits g statements.Conditional n ss h t e = no_leaves n (arity h) (head_arity arity heads.conditional h 2 refl e ∙ sym (eqb-true n 2 t))
statement_fits g statements.Loop n ss h t e = leaves_and 2 n 2 (arity h) (made_arity arity (reason_means g ss) heads.loop h 2 (λ r. refl) e) (eqb-true n 4 t)
statement_fits g statements.Switch n ss h t e = no_leaves n (arity h) (head_arity arity (heads.switch n) h n refl e)
statement_fits g statements.Call n ss h t e = leaves_and 2 n 0 (arity h) (made_arity arity (reason_means g ss) heads.call h 0 (λ r. refl) e) (eqb-true n 2 t)
statement_fits g statements.BalancedCall n ss h t e = no_leaves n (arity h) (head_arity arity heads.balanced_call h 0 refl e ∙ sym (eqb-true n 0 t))
statement_fits g statements.Consequence n ss h t e = leaves_and 2 n 1 (arity h) (made_arity arity (reason_means g ss) heads.consequence h 1 (λ r. refl) e) (eqb-true n 3 t)

pub statement_fails : (g : Setting) (at n : ℕ) (t : Statement) (ss : Sexps) → n ≡ count ss → statement_takes t n ≡ false → listed g at (Some (statement_row t)) ss ≡ Err (UnknownForm at)
statement_fails g at n t ss c h =
    taken_by g at (statement_row t) ss false (statement_takes_so t (count ss) ∙ (ap (statement_takes t) (sym c) ∙ h))

pub statement_stops : (g : Setting) (at n : ℕ) (t : Statement) (ss : Sexps) (fault : TextFault) → n ≡ count ss → statement_takes t n ≡ true → (statement_means g t n ss ≡ Err fault) ⊎ (fault ≡ NoMemory) → (listed g at (Some (statement_row t)) ss ≡ Err fault) ⊎ (fault ≡ NoMemory)
statement_stops g at n t ss fault c h (inl f) =
    inl (statement_listed g at n t ss c h ∙ (λ i. by_head a_derivation planted g (f i) (statement_leaves t) ss))
statement_stops g at n t ss fault c h (inr f) = inr f

-- a list with a statement, whose head was read
pub statement_has : (g : Setting) (at n leaves : ℕ) (t : Statement) (ss : Sexps) (h : HeadTree) → n ≡ count ss → leaves ≡ statement_leaves t → statement_takes t n ≡ true → statement_means g t n ss ≡ Ok h → HasHead a_derivation derivation_shape g (listed g at (Some (statement_row t)) ss) ss h leaves
statement_has g at n leaves t ss h c l k f = record {
  same = statement_listed g at n t ss c k ∙ (λ i. by_head a_derivation planted g (f i) (sym l i) ss);
  fits = ap (λ (m : ℕ). m + arity h) l ∙ (statement_fits g t n ss h k f ∙ c);
}

-- ---- lists by their words

pub with_statement : (g : Setting) (at place : ℕ) (w : List ℕ) (ss : Sexps) (t : Statement) → look_up w statement_words ≡ Some t → means g a_derivation (list at (part_and (symbol place w) ss)) ≡ listed g at (Some (statement_row t)) ss
with_statement g at place w ss t e = by_words g at place w ss ∙ (λ i. listed g at (found (e i)) ss)

pub with_none : (g : Setting) (at place : ℕ) (w : List ℕ) (ss : Sexps) → look_up w statement_words ≡ None → means g a_derivation (list at (part_and (symbol place w) ss)) ≡ Err (UnknownForm at)
with_none g at place w ss e = by_words g at place w ss ∙ (λ i. listed g at (found (e i)) ss)

-- ---- a derivation takes as many parts as its head has

pub takes_its_own : (h : HeadTree) (xs ys : List DerivationTree) → length xs ≡ arity h → planted h (xs ++ ys) ≡ planted h xs
takes_its_own heads.leaf xs ys e = refl
takes_its_own (heads.sequence n) xs ys e = own_all derivations.leaf (λ ds. derivations.sequence (derivations_of ds)) n xs ys e
takes_its_own heads.conditional xs ys e = own_two derivations.leaf derivations.conditional xs ys e
takes_its_own (heads.loop r) xs ys e = own_two derivations.leaf (derivations.loop r.0 r.1) xs ys e
takes_its_own (heads.switch n) xs ys e = own_all derivations.leaf (λ ds. derivations.switch (derivations_of ds)) n xs ys e
takes_its_own (heads.call r) xs ys e = refl
takes_its_own heads.balanced_call xs ys e = refl
takes_its_own (heads.consequence r) xs ys e = own_one derivations.leaf (derivations.consequence r.0 r.1) xs ys e
