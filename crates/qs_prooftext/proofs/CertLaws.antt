-- Certificates are read by their heads.
use Rattle.std.proofs.Common.{arith, ◌≡◌, ◌≤◌, ◌⊎◌, inl, inr, ℕ, ◌+◌, ◌==◌, Bool, true, false, List, ◌++◌, length, if◌then◌else◌, Option, Some, None, Ok, Err, refl, sym, ap, ◌∙◌}
use Rattle.std.proofs.lemmas.Bool.{eqb-true, eq-eqb}
use Rattle.qs_base.specs.Results.{bind}
use Rattle.qs_entail.specs.Certificates as certificates
use Rattle.qs_entail.specs.Certificates.{CertTree, FactTree}
use Rattle.qs_entail.specs.View.{certs_of}
use Rattle.qs_sexpr.specs.Trees.{Sexps, part_and, symbol, list, count}
use Rattle.qs_prooftext_meaning.specs.declared.fault.TextFault.{TextFault}
use Rattle.qs_prooftext_meaning.specs.declared.fault.TextFault.TheVariants.{UnknownForm, NoMemory}
use Rattle.qs_prooftext.specs.declared.rules.FactWord.{FactWord}
use Rattle.qs_prooftext.specs.declared.rules.FactWord.TheVariants as facts
use Rattle.qs_prooftext.specs.declared.rules.Rule.{Rule}
use Rattle.qs_prooftext.specs.declared.rules.Rule.TheVariants as rules
use Rattle.qs_prooftext.specs.CertHeads.{HeadTree, arity, cert_shape, head_means, fact_means, planted}
use Rattle.qs_prooftext.specs.CertHeads as heads
use Rattle.qs_prooftext.specs.CertRows.{rule_row, fact_row}
use Rattle.qs_prooftext_meaning.specs.Heads.{rule_rows, fact_rows}
use Rattle.qs_prooftext.specs.HeadWalks.{HasHead, listed}
use Rattle.qs_prooftext_meaning.specs.Kinds.{Kind, Of, Row, two, three, four, a_term, a_condition, an_assertion, a_certificate, a_range, a_combination, an_index, a_natural, a_name}
use Rattle.qs_prooftext_assertions.specs.Firsts.{first_means, tail}
use Rattle.qs_prooftext_meaning.specs.Meanings.{Answer, means, takes}
use Rattle.qs_prooftext.specs.RuleWords.{rule_words, fact_words, rule_takes, rule_leaves, fact_leaves}
use Rattle.qs_prooftext_meaning.specs.Settings.{Setting, look_up}
use Rattle.qs_prooftext.proofs.HeadLaws.{firsts_same, own_all, own_one, own_two}
use Rattle.qs_prooftext.proofs.ShapeLaws.{is_not_so_many, taken_by, made_arity, head_arity, leaves_and, no_leaves, by_row, by_head, none_row, one_row, two_row, any_row, leaf_row, leaf_one_row, leaf_two_row, leaves_one_row, three_one_row, then_one, then_two, then_three}

-- ---- the heads are found alike

abbrev pub found : Option Rule → Option FactWord → Option (Row a_certificate)
found None None = None
found None (Some f) = Some (fact_row f)
found (Some rule) o = Some (rule_row rule)

pick_rule : (b : Bool) (a : Rule) (o : Option Rule) (f : Option FactWord) (x : Option (Row a_certificate)) → x ≡ found o f → (if b then Some (rule_row a) else x) ≡ found (if b then Some a else o) f
pick_rule true a o f x h = refl
pick_rule false a o f x h = h

pick_fact : (b : Bool) (a : FactWord) (o : Option FactWord) (x : Option (Row a_certificate)) → x ≡ found None o → (if b then Some (fact_row a) else x) ≡ found None (if b then Some a else o)
pick_fact true a o x h = refl
pick_fact false a o x h = h

facts_found : (w : List ℕ) → look_up w fact_rows ≡ found None (look_up w fact_words)
facts_found w =
    pick_fact _ facts.Range _ _ (pick_fact _ facts.Apart _ _ (pick_fact _ facts.NumIs _ _ (pick_fact _ facts.NumBounds _ _ (pick_fact _ facts.WrapUnsignedIs _ _ (pick_fact _ facts.WrapSignedIs _ _ (pick_fact _ facts.WrapUnsignedBounds _ _ (pick_fact _ facts.WrapSignedBounds _ _ (pick_fact _ facts.QuotientBounds _ _ (pick_fact _ facts.BitsBound _ _ (pick_fact _ facts.BitsHalf _ _ (pick_fact _ facts.BitsRise None None refl)))))))))))

rules_found : (w : List ℕ) → look_up w (rule_rows ++ fact_rows) ≡ found (look_up w rule_words) (look_up w fact_words)
rules_found w =
    let f : Option FactWord = look_up w fact_words in
    pick_rule _ rules.Same _ f _ (pick_rule _ rules.Via _ f _ (pick_rule _ rules.Pick _ f _ (pick_rule _ rules.All _ f _ (pick_rule _ rules.Parts _ f _ (pick_rule _ rules.Assume _ f _ (pick_rule _ rules.Drop _ f _ (pick_rule _ rules.Split _ f _ (pick_rule _ rules.Contradict _ f _ (pick_rule _ rules.Arithmetic _ f _ (pick_rule _ rules.ByDefinition None f _ (facts_found w)))))))))))

-- ---- each rule

-- a list with as many parts as its rule takes is what its head and the certificates behind make
rule_reads : (g : Setting) (rule : Rule) (ss : Sexps) → rule_takes rule (count ss) ≡ true → by_row g (rule_row rule) ss ≡ by_head a_certificate planted g (head_means g rule (count ss) ss) (rule_leaves rule) ss
rule_reads g rules.Same ss h = none_row a_certificate planted g ss certificates.same heads.same (eqb-true (count ss) 0 h) refl
rule_reads g rules.Via ss h = leaf_two_row a_certificate an_assertion planted g ss certificates.via heads.via (eqb-true (count ss) 3 h) (λ v c d. refl)
rule_reads g rules.Pick ss h = leaf_one_row a_certificate an_index planted g ss certificates.pick heads.pick (eqb-true (count ss) 2 h) (λ v c. refl)
rule_reads g rules.All ss h =
    any_row a_certificate planted g ss (λ cs. certificates.all (certs_of cs)) (heads.all (count ss)) (λ vs e. ap (λ (ds : List CertTree). certificates.all (certs_of ds)) (sym (firsts_same certificates.same (count ss) vs e)))
rule_reads g rules.Parts ss h =
    any_row a_certificate planted g ss (λ cs. certificates.parts (certs_of cs)) (heads.parts (count ss)) (λ vs e. ap (λ (ds : List CertTree). certificates.parts (certs_of ds)) (sym (firsts_same certificates.same (count ss) vs e)))
rule_reads g rules.Assume ss h = one_row a_certificate planted g ss certificates.assume heads.assume (eqb-true (count ss) 1 h) (λ v. refl)
rule_reads g rules.Drop ss h = two_row a_certificate planted g ss certificates.drop heads.drop (eqb-true (count ss) 2 h) (λ u v. refl)
rule_reads g rules.Split ss h = leaf_two_row a_certificate a_condition planted g ss certificates.split heads.split (eqb-true (count ss) 3 h) (λ v c d. refl)
rule_reads g rules.Contradict ss h = leaf_row a_certificate a_combination planted g ss certificates.contradict heads.contradict (eqb-true (count ss) 1 h) (λ v. refl)
rule_reads g rules.Arithmetic ss h = leaf_row a_certificate a_combination planted g ss certificates.arithmetic heads.arithmetic (eqb-true (count ss) 1 h) (λ v. refl)
rule_reads g rules.ByDefinition ss h = leaf_one_row a_certificate a_name planted g ss certificates.by_definition heads.by_definition (eqb-true (count ss) 2 h) (λ v c. refl)

rule_takes_so : (rule : Rule) (n : ℕ) → takes (rule_row rule) n ≡ rule_takes rule n
rule_takes_so rules.Same n = refl
rule_takes_so rules.Via n = refl
rule_takes_so rules.Pick n = refl
rule_takes_so rules.All n = refl
rule_takes_so rules.Parts n = refl
rule_takes_so rules.Assume n = refl
rule_takes_so rules.Drop n = refl
rule_takes_so rules.Split n = refl
rule_takes_so rules.Contradict n = refl
rule_takes_so rules.Arithmetic n = refl
rule_takes_so rules.ByDefinition n = refl

rule_listed : (g : Setting) (at n : ℕ) (rule : Rule) (ss : Sexps) → n ≡ count ss → rule_takes rule n ≡ true → listed g at (Some (rule_row rule)) ss ≡ by_head a_certificate planted g (head_means g rule n ss) (rule_leaves rule) ss
rule_listed g at n rule ss c h =
    let e : rule_takes rule (count ss) ≡ true = ap (rule_takes rule) (sym c) ∙ h in
    taken_by g at (rule_row rule) ss true (rule_takes_so rule (count ss) ∙ e) ∙ (rule_reads g rule ss e ∙ (λ i. by_head a_certificate planted g (head_means g rule (sym c i) ss) (rule_leaves rule) ss))

pub rule_fails : (g : Setting) (at n : ℕ) (rule : Rule) (ss : Sexps) → n ≡ count ss → rule_takes rule n ≡ false → listed g at (Some (rule_row rule)) ss ≡ Err (UnknownForm at)
rule_fails g at n rule ss c h =
    taken_by g at (rule_row rule) ss false (rule_takes_so rule (count ss) ∙ (ap (rule_takes rule) (sym c) ∙ h))

-- ---- each fact

term_fact : (g : Setting) (ss : Sexps) (made : Of a_term → FactTree) → count ss ≡ 2 → by_row {k = a_certificate} g (two a_term a_certificate (λ t. certificates.fact (made t))) ss ≡ by_head a_certificate planted g (bind (bind (first_means g a_term ss) (λ t. Ok (made t))) (λ f. Ok (heads.fact f))) 1 ss
term_fact g ss made e =
    leaf_one_row a_certificate a_term planted g ss (λ t. certificates.fact (made t)) (λ t. heads.fact (made t)) e (λ v c. refl) ∙ ap (λ (a : Answer HeadTree). by_head a_certificate planted g a 1 ss) (sym (then_one (first_means g a_term ss) made heads.fact))

pair_fact : (g : Setting) (ss : Sexps) (a b : Kind) (made : Of a → Of b → FactTree) → count ss ≡ 3 → by_row {k = a_certificate} g (three a b a_certificate (λ v u. certificates.fact (made v u))) ss ≡ by_head a_certificate planted g (bind (bind (first_means g a ss) (λ v. bind (first_means g b (tail ss)) (λ u. Ok (made v u)))) (λ f. Ok (heads.fact f))) 2 ss
pair_fact g ss a b made e =
    leaves_one_row a_certificate a b planted g ss (λ v u. certificates.fact (made v u)) (λ v u. heads.fact (made v u)) e (λ v u c. refl) ∙ ap (λ (x : Answer HeadTree). by_head a_certificate planted g x 2 ss) (sym (then_two (first_means g a ss) (first_means g b (tail ss)) made heads.fact))

triple_fact : (g : Setting) (ss : Sexps) (a b c : Kind) (made : Of a → Of b → Of c → FactTree) → count ss ≡ 4 → by_row {k = a_certificate} g (four a b c a_certificate (λ v u t. certificates.fact (made v u t))) ss ≡ by_head a_certificate planted g (bind (bind (first_means g a ss) (λ v. bind (first_means g b (tail ss)) (λ u. bind (first_means g c (tail (tail ss))) (λ t. Ok (made v u t))))) (λ f. Ok (heads.fact f))) 3 ss
triple_fact g ss a b c made e =
    three_one_row a_certificate a b c planted g ss (λ v u t. certificates.fact (made v u t)) (λ v u t. heads.fact (made v u t)) e (λ v u t w. refl) ∙ ap (λ (x : Answer HeadTree). by_head a_certificate planted g x 3 ss) (sym (then_three (first_means g a ss) (first_means g b (tail ss)) (first_means g c (tail (tail ss))) made heads.fact))

-- what the head of a fact's list is
abbrev pub fact_head : Setting → FactWord → Sexps → Answer HeadTree
fact_head g word ss = bind (fact_means g word ss) (λ f. Ok (heads.fact f))

fact_reads : (g : Setting) (word : FactWord) (ss : Sexps) → count ss ≡ fact_leaves word + 1 → by_row g (fact_row word) ss ≡ by_head a_certificate planted g (fact_head g word ss) (fact_leaves word) ss
fact_reads g facts.Range ss h = leaf_one_row a_certificate a_range planted g ss certificates.fact heads.fact h (λ v c. refl)
fact_reads g facts.Apart ss h = pair_fact g ss an_index a_combination certificates.apart h
fact_reads g facts.NumIs ss h = pair_fact g ss a_term a_combination certificates.num_is h
fact_reads g facts.NumBounds ss h = term_fact g ss certificates.num_bounds h
fact_reads g facts.WrapUnsignedIs ss h = triple_fact g ss a_term a_combination a_combination certificates.wrapu_is h
fact_reads g facts.WrapSignedIs ss h = triple_fact g ss a_term a_combination a_combination certificates.wraps_is h
fact_reads g facts.WrapUnsignedBounds ss h = term_fact g ss certificates.wrapu_bounds h
fact_reads g facts.WrapSignedBounds ss h = term_fact g ss certificates.wraps_bounds h
fact_reads g facts.QuotientBounds ss h = pair_fact g ss a_term a_natural certificates.quotient_bounds h
fact_reads g facts.BitsBound ss h = term_fact g ss certificates.bits_bound h
fact_reads g facts.BitsHalf ss h = pair_fact g ss a_term a_combination certificates.bits_half h
fact_reads g facts.BitsRise ss h = triple_fact g ss a_term a_term a_combination certificates.bits_rise h

fact_takes_so : (word : FactWord) (n : ℕ) → takes (fact_row word) n ≡ (n == fact_leaves word + 1)
fact_takes_so facts.Range n = refl
fact_takes_so facts.Apart n = refl
fact_takes_so facts.NumIs n = refl
fact_takes_so facts.NumBounds n = refl
fact_takes_so facts.WrapUnsignedIs n = refl
fact_takes_so facts.WrapSignedIs n = refl
fact_takes_so facts.WrapUnsignedBounds n = refl
fact_takes_so facts.WrapSignedBounds n = refl
fact_takes_so facts.QuotientBounds n = refl
fact_takes_so facts.BitsBound n = refl
fact_takes_so facts.BitsHalf n = refl
fact_takes_so facts.BitsRise n = refl

pub few_leaves : (word : FactWord) → fact_leaves word ≤ 3
few_leaves facts.Range = omega arith
few_leaves facts.Apart = omega arith
few_leaves facts.NumIs = omega arith
few_leaves facts.NumBounds = omega arith
few_leaves facts.WrapUnsignedIs = omega arith
few_leaves facts.WrapSignedIs = omega arith
few_leaves facts.WrapUnsignedBounds = omega arith
few_leaves facts.WrapSignedBounds = omega arith
few_leaves facts.QuotientBounds = omega arith
few_leaves facts.BitsBound = omega arith
few_leaves facts.BitsHalf = omega arith
few_leaves facts.BitsRise = omega arith

fact_listed : (g : Setting) (at n leaves : ℕ) (word : FactWord) (ss : Sexps) → n ≡ count ss → leaves ≡ fact_leaves word → n ≡ leaves + 1 → listed g at (Some (fact_row word)) ss ≡ by_head a_certificate planted g (fact_head g word ss) (fact_leaves word) ss
fact_listed g at n leaves word ss c l h =
    let e : count ss ≡ fact_leaves word + 1 = sym c ∙ (h ∙ ap (λ (m : ℕ). m + 1) l) in
    taken_by g at (fact_row word) ss true (fact_takes_so word (count ss) ∙ eq-eqb (count ss) (fact_leaves word + 1) e) ∙ fact_reads g word ss e

pub fact_fails : (g : Setting) (at n leaves : ℕ) (word : FactWord) (ss : Sexps) → n ≡ count ss → leaves ≡ fact_leaves word → (n ≡ leaves + 1 → ⊥) → listed g at (Some (fact_row word)) ss ≡ Err (UnknownForm at)
fact_fails g at n leaves word ss c l h =
    taken_by g at (fact_row word) ss false (fact_takes_so word (count ss) ∙ is_not_so_many (count ss) (fact_leaves word + 1) n c (λ e. h (e ∙ ap (λ (m : ℕ). m + 1) (sym l))))

-- ---- the heads of lists

rule_fits : (g : Setting) (rule : Rule) (n : ℕ) (ss : Sexps) (h : HeadTree) → rule_takes rule n ≡ true → head_means g rule n ss ≡ Ok h → rule_leaves rule + arity h ≡ n
rule_fits g rules.Same n ss h t e = no_leaves n (arity h) (head_arity arity heads.same h 0 refl e ∙ sym (eqb-true n 0 t))
rule_fits g rules.Via n ss h t e = leaves_and 1 n 2 (arity h) (made_arity arity (first_means g an_assertion ss) heads.via h 2 (λ a. refl) e) (eqb-true n 3 t)
rule_fits g rules.Pick n ss h t e = leaves_and 1 n 1 (arity h) (made_arity arity (first_means g an_index ss) heads.pick h 1 (λ a. refl) e) (eqb-true n 2 t)
rule_fits g rules.All n ss h t e = no_leaves n (arity h) (head_arity arity (heads.all n) h n refl e)
rule_fits g rules.Parts n ss h t e = no_leaves n (arity h) (head_arity arity (heads.parts n) h n refl e)
rule_fits g rules.Assume n ss h t e = no_leaves n (arity h) (head_arity arity heads.assume h 1 refl e ∙ sym (eqb-true n 1 t))
rule_fits g rules.Drop n ss h t e = no_leaves n (arity h) (head_arity arity heads.drop h 2 refl e ∙ sym (eqb-true n 2 t))
rule_fits g rules.Split n ss h t e = leaves_and 1 n 2 (arity h) (made_arity arity (first_means g a_condition ss) heads.split h 2 (λ a. refl) e) (eqb-true n 3 t)
rule_fits g rules.Contradict n ss h t e = leaves_and 1 n 0 (arity h) (made_arity arity (first_means g a_combination ss) heads.contradict h 0 (λ a. refl) e) (eqb-true n 1 t)
rule_fits g rules.Arithmetic n ss h t e = leaves_and 1 n 0 (arity h) (made_arity arity (first_means g a_combination ss) heads.arithmetic h 0 (λ a. refl) e) (eqb-true n 1 t)
rule_fits g rules.ByDefinition n ss h t e = leaves_and 1 n 1 (arity h) (made_arity arity (first_means g a_name ss) heads.by_definition h 1 (λ a. refl) e) (eqb-true n 2 t)

-- a list with a rule, whose head was read
pub rule_has : (g : Setting) (at n leaves : ℕ) (rule : Rule) (ss : Sexps) (h : HeadTree) → n ≡ count ss → leaves ≡ rule_leaves rule → rule_takes rule n ≡ true → head_means g rule n ss ≡ Ok h → HasHead a_certificate cert_shape g (listed g at (Some (rule_row rule)) ss) ss h leaves
rule_has g at n leaves rule ss h c l t e = record {
  same = rule_listed g at n rule ss c t ∙ (λ i. by_head a_certificate planted g (e i) (sym l i) ss);
  fits = ap (λ (m : ℕ). m + arity h) l ∙ (rule_fits g rule n ss h t e ∙ c);
}

pub rule_stops : (g : Setting) (at n : ℕ) (rule : Rule) (ss : Sexps) (fault : TextFault) → n ≡ count ss → rule_takes rule n ≡ true → (head_means g rule n ss ≡ Err fault) ⊎ (fault ≡ NoMemory) → (listed g at (Some (rule_row rule)) ss ≡ Err fault) ⊎ (fault ≡ NoMemory)
rule_stops g at n rule ss fault c t (inl e) =
    inl (rule_listed g at n rule ss c t ∙ (λ i. by_head a_certificate planted g (e i) (rule_leaves rule) ss))
rule_stops g at n rule ss fault c t (inr e) = inr e

-- a list with a fact, whose head was read
pub fact_has : (g : Setting) (at n leaves : ℕ) (word : FactWord) (ss : Sexps) (f : FactTree) → n ≡ count ss → leaves ≡ fact_leaves word → n ≡ leaves + 1 → fact_means g word ss ≡ Ok f → HasHead a_certificate cert_shape g (listed g at (Some (fact_row word)) ss) ss (heads.fact f) leaves
fact_has g at n leaves word ss f c l t e = record {
  same = fact_listed g at n leaves word ss c l t ∙ (λ i. by_head a_certificate planted g (bind (e i) (λ x. Ok (heads.fact x))) (sym l i) ss);
  fits = sym t ∙ c;
}

pub fact_stops : (g : Setting) (at n leaves : ℕ) (word : FactWord) (ss : Sexps) (fault : TextFault) → n ≡ count ss → leaves ≡ fact_leaves word → n ≡ leaves + 1 → (fact_means g word ss ≡ Err fault) ⊎ (fault ≡ NoMemory) → (listed g at (Some (fact_row word)) ss ≡ Err fault) ⊎ (fault ≡ NoMemory)
fact_stops g at n leaves word ss fault c l t (inl e) =
    inl (fact_listed g at n leaves word ss c l t ∙ (λ i. by_head a_certificate planted g (bind (e i) (λ x. Ok (heads.fact x))) (fact_leaves word) ss))
fact_stops g at n leaves word ss fault c l t (inr e) = inr e

-- ---- lists by their words

by_words : (g : Setting) (at place : ℕ) (w : List ℕ) (ss : Sexps) → means g a_certificate (list at (part_and (symbol place w) ss)) ≡ listed g at (found (look_up w rule_words) (look_up w fact_words)) ss
by_words g at place w ss = ap (λ (o : Option (Row a_certificate)). listed g at o ss) (rules_found w)

pub with_rule : (g : Setting) (at place : ℕ) (w : List ℕ) (ss : Sexps) (rule : Rule) → look_up w rule_words ≡ Some rule → means g a_certificate (list at (part_and (symbol place w) ss)) ≡ listed g at (Some (rule_row rule)) ss
with_rule g at place w ss rule e =
    by_words g at place w ss ∙ (λ i. listed g at (found (e i) (look_up w fact_words)) ss)

pub with_fact : (g : Setting) (at place : ℕ) (w : List ℕ) (ss : Sexps) (word : FactWord) → look_up w rule_words ≡ None → look_up w fact_words ≡ Some word → means g a_certificate (list at (part_and (symbol place w) ss)) ≡ listed g at (Some (fact_row word)) ss
with_fact g at place w ss word e f = by_words g at place w ss ∙ (λ i. listed g at (found (e i) (f i)) ss)

pub with_none : (g : Setting) (at place : ℕ) (w : List ℕ) (ss : Sexps) → look_up w rule_words ≡ None → look_up w fact_words ≡ None → means g a_certificate (list at (part_and (symbol place w) ss)) ≡ Err (UnknownForm at)
with_none g at place w ss e f = by_words g at place w ss ∙ (λ i. listed g at (found (e i) (f i)) ss)

-- ---- a certificate takes as many parts as its head has

pub takes_its_own : (h : HeadTree) (xs ys : List CertTree) → length xs ≡ arity h → planted h (xs ++ ys) ≡ planted h xs
takes_its_own heads.same xs ys e = refl
takes_its_own (heads.via a) xs ys e = own_two certificates.same (certificates.via a) xs ys e
takes_its_own (heads.pick i) xs ys e = own_one certificates.same (certificates.pick i) xs ys e
takes_its_own (heads.all n) xs ys e = own_all certificates.same (λ cs. certificates.all (certs_of cs)) n xs ys e
takes_its_own (heads.parts n) xs ys e = own_all certificates.same (λ cs. certificates.parts (certs_of cs)) n xs ys e
takes_its_own heads.assume xs ys e = own_one certificates.same certificates.assume xs ys e
takes_its_own heads.drop xs ys e = own_two certificates.same certificates.drop xs ys e
takes_its_own (heads.split b) xs ys e = own_two certificates.same (certificates.split b) xs ys e
takes_its_own (heads.contradict w) xs ys e = refl
takes_its_own (heads.arithmetic w) xs ys e = refl
takes_its_own (heads.by_definition n) xs ys e = own_one certificates.same (certificates.by_definition n) xs ys e
takes_its_own (heads.fact f) xs ys e = own_one certificates.same (certificates.fact f) xs ys e
