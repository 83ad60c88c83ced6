-- Turns of the loops that read declarations.
use Rattle.std.proofs.Common.{◌≡◌, ℕ, zero, suc, ◌+◌, ◌-◌, ◌<◌, ◌≤◌, true, false, cond, List, [], ◌∷◌, ◌++◌, length, Ok, refl, ap, ◌∙◌, arith}
use Rattle.std.specs.Prelude.{max}
use Rattle.std.proofs.lemmas.Bool.{ne_eqb}
use Rattle.std.proofs.lemmas.List.{map_push}
use Rattle.qs_syntax_vocabulary.specs.declared.terminal.Terminal.{Terminal}
use Rattle.qs_syntax_vocabulary.specs.declared.punctuator.Punctuator.TheVariants as punctuators
use Rattle.qs_syntax.specs.ReadsTypes.{Any}
use Rattle.qs_syntax.specs.Trees.{unnumbered, ExprTree, InitialiserTree, value, list, initialisers_of, VariableTree, DeclaratorTree, MembersTree, ParameterTree}
use Rattle.qs_syntax.specs.Reads.{Conditional, Assignment, place}
use Rattle.qs_parser_grammar.specs.Heads.{starts}
use Rattle.qs_parser_grammar.specs.Parse.{Parse, read_on, unexpected, deep, deeper, expect, part}
use Rattle.qs_parser_grammar.specs.ParseDeclarations.{given_lengths, after_initialiser, initialisers, begins_initialiser, initialiser, after_variable, variable, variables, declaration, declaration_within, declarator, after_member, declarators, members, groups, after_parameter, parameter, parameters}

left_turns : (n i : ℕ) → i < n → n - i ≡ suc (n - (i + 1))
left_turns n i h = omega arith

no_turns : (n i : ℕ) → n ≤ i → n - i ≡ 0
no_turns n i h = omega arith

pub given_more : (m n i : ℕ) (done : List ExprTree) (h : ℕ) (ts : List Terminal) → i < n
    → given_lengths m (n - i) done h ts
    ≡ cond (starts punctuators.OpenBracket ts) (read_on (expect punctuators.OpenBracket ts) (λ _ us. read_on (part m Conditional us) (λ e vs. read_on (expect punctuators.CloseBracket vs) (λ _ ws. given_lengths m (n - (i + 1)) (done ++ e.0 ∷ []) (max h e.1) ws)))) (Ok ((done, h), ts))
unfolding given_lengths
given_more m n i done h ts lt = ap (λ k. given_lengths m k done h ts) (left_turns n i lt)

pub given_end : (m n i : ℕ) (done : List ExprTree) (h : ℕ) (ts : List Terminal) → n ≤ i → given_lengths m (n - i) done h ts ≡ Ok ((done, h), ts)
unfolding given_lengths
given_end m n i done h ts le = ap (λ k. given_lengths m k done h ts) (no_turns n i le)

pub initialisers_more : (one : Parse (InitialiserTree × ℕ)) (n i : ℕ) (done : List InitialiserTree) (h : ℕ) (ts : List Terminal) → i < n
    → initialisers one (n - i) done h ts ≡ read_on (one ts) (λ x us. after_initialiser one (initialisers one (n - (i + 1))) (done ++ x.0 ∷ []) (max h x.1) us)
unfolding initialisers
initialisers_more one n i done h ts lt = ap (λ k. initialisers one k done h ts) (left_turns n i lt)

pub initialisers_end : (one : Parse (InitialiserTree × ℕ)) (n i : ℕ) (done : List InitialiserTree) (h : ℕ) (ts : List Terminal) → n ≤ i → initialisers one (n - i) done h ts ≡ unexpected ts
unfolding initialisers
initialisers_end one n i done h ts le = ap (λ k. initialisers one k done h ts) (no_turns n i le)

pub initialiser_none : (n : ℕ) (ts : List Terminal) → n ≡ 0 → initialiser n ts ≡ cond (begins_initialiser ts) (deep ts) (unexpected ts)
unfolding initialiser
initialiser_none zero ts e = refl
initialiser_none (suc n) ts e = absurd (omega arith)

pub initialiser_value : (n : ℕ) (ts : List Terminal) → 0 < n → starts punctuators.OpenBrace ts ≡ false → initialiser n ts ≡ read_on (part n Assignment ts) (λ e us. Ok ((value e.0, e.1), us))
unfolding initialiser
initialiser_value zero ts h e = absurd (omega arith)
initialiser_value (suc n) ts h e = rw e refl

pub initialiser_deep : (n : ℕ) (ts : List Terminal) → n ≡ 1 → starts punctuators.OpenBrace ts ≡ true → initialiser n ts ≡ deep ts
unfolding initialiser
initialiser_deep zero ts h e = absurd (omega arith)
initialiser_deep (suc zero) ts h e = rw e refl
initialiser_deep (suc (suc n)) ts h e = absurd (omega arith)

abbrev list_with : Parse (InitialiserTree × ℕ) → Parse (InitialiserTree × ℕ)
list_with inner ts = read_on (expect punctuators.OpenBrace ts) (λ _ vs. read_on (initialisers inner (length vs) [] 0 vs) (λ is ws. Ok ((list (unnumbered (place ts)) (initialisers_of is.0), is.1 + 1), ws)))

deeper_more : (m : ℕ) (q : Parse (InitialiserTree × ℕ)) (ts : List Terminal) → 0 < m → deeper m q ts ≡ q ts
deeper_more m q ts h = ap (λ b. cond b (deep ts) (q ts)) (ne_eqb m 0 (λ e. omega arith))

initialiser_braced : (n : ℕ) (ts : List Terminal) → starts punctuators.OpenBrace ts ≡ true → initialiser (suc n) ts ≡ deeper n (list_with (initialiser n)) ts
unfolding initialiser
initialiser_braced n ts e = rw e refl

pub initialiser_list : (n : ℕ) (ts : List Terminal) → 1 < n → starts punctuators.OpenBrace ts ≡ true
    → initialiser n ts ≡ read_on (expect punctuators.OpenBrace ts) (λ _ vs. read_on (initialisers (initialiser (n - 1)) (length vs) [] 0 vs) (λ is ws. Ok ((list (unnumbered (place ts)) (initialisers_of is.0), is.1 + 1), ws)))
initialiser_list zero ts h e = absurd (omega arith)
initialiser_list (suc zero) ts h e = absurd (omega arith)
initialiser_list (suc (suc n)) ts h e = let q : suc n ≡ suc (suc n) - 1 = omega arith in initialiser_braced (suc n) ts e ∙ deeper_more (suc n) (list_with (initialiser (suc n))) ts (omega arith) ∙ ap (λ (k : ℕ). list_with (initialiser k) ts) q

pub variables_more : (m n i : ℕ) (done : List VariableTree) (h : ℕ) (ts : List Terminal) → i < n
    → variables m (n - i) done h ts ≡ read_on (variable m ts) (λ v us. after_variable (variables m (n - (i + 1))) (done ++ v.0 ∷ []) (max h v.1) us)
unfolding variables
variables_more m n i done h ts lt = ap (λ k. variables m k done h ts) (left_turns n i lt)

pub variables_end : (m n i : ℕ) (done : List VariableTree) (h : ℕ) (ts : List Terminal) → n ≤ i → variables m (n - i) done h ts ≡ unexpected ts
unfolding variables
variables_end m n i done h ts le = ap (λ k. variables m k done h ts) (no_turns n i le)

pub within_none : (n : ℕ) (ts : List Terminal) → n ≡ 0 → declaration_within n ts ≡ deep ts
unfolding declaration_within
within_none zero ts e = refl
within_none (suc n) ts e = absurd (omega arith)

pub within_more : (n : ℕ) (ts : List Terminal) → 0 < n → declaration_within n ts ≡ declaration (n - 1) ts
unfolding declaration_within
within_more zero ts h = absurd (omega arith)
within_more (suc n) ts h = let e : n ≡ suc n - 1 = omega arith in ap (λ (k : ℕ). declaration k ts) e

pub declarators_more : (m n i : ℕ) (done : List DeclaratorTree) (h : ℕ) (ts : List Terminal) → i < n
    → declarators m (n - i) done h ts ≡ read_on (declarator Any m ts) (λ d us. after_member (declarators m (n - (i + 1))) (done ++ d.0 ∷ []) (max h (d.1 + 1)) us)
unfolding declarators
declarators_more m n i done h ts lt = ap (λ k. declarators m k done h ts) (left_turns n i lt)

pub declarators_end : (m n i : ℕ) (done : List DeclaratorTree) (h : ℕ) (ts : List Terminal) → n ≤ i → declarators m (n - i) done h ts ≡ unexpected ts
unfolding declarators
declarators_end m n i done h ts le = ap (λ k. declarators m k done h ts) (no_turns n i le)

pub groups_more : (m n i : ℕ) (done : List MembersTree) (h : ℕ) (ts : List Terminal) → i < n
    → groups m (n - i) done h ts
    ≡ read_on (members m ts) (λ g us. cond (starts punctuators.CloseBrace us) (read_on (expect punctuators.CloseBrace us) (λ _ vs. Ok ((done ++ g.0 ∷ [], max h g.1), vs))) (groups m (n - (i + 1)) (done ++ g.0 ∷ []) (max h g.1) us))
unfolding groups
groups_more m n i done h ts lt = ap (λ k. groups m k done h ts) (left_turns n i lt)

pub groups_end : (m n i : ℕ) (done : List MembersTree) (h : ℕ) (ts : List Terminal) → n ≤ i → groups m (n - i) done h ts ≡ unexpected ts
unfolding groups
groups_end m n i done h ts le = ap (λ k. groups m k done h ts) (no_turns n i le)

pub parameters_more : (m n i : ℕ) (done : List ParameterTree) (h : ℕ) (ts : List Terminal) → i < n
    → parameters m (n - i) done h ts ≡ read_on (parameter m ts) (λ x us. after_parameter (parameters m (n - (i + 1))) (done ++ x.0 ∷ []) (max h x.1) us)
unfolding parameters
parameters_more m n i done h ts lt = ap (λ k. parameters m k done h ts) (left_turns n i lt)

pub parameters_end : (m n i : ℕ) (done : List ParameterTree) (h : ℕ) (ts : List Terminal) → n ≤ i → parameters m (n - i) done h ts ≡ unexpected ts
unfolding parameters
parameters_end m n i done h ts le = ap (λ k. parameters m k done h ts) (no_turns n i le)

pub ruleset length_steps = (given_more, given_end, map_push)

pub ruleset initialiser_steps = (initialisers_more, initialisers_end, map_push)

pub ruleset initialiser_cases = (initialiser_none, initialiser_value, initialiser_deep, initialiser_list)

pub ruleset variable_steps = (variables_more, variables_end, map_push)

pub ruleset declaration_cases = (within_none, within_more)

pub ruleset declarator_steps = (declarators_more, declarators_end, map_push)

pub ruleset group_steps = (groups_more, groups_end, map_push)

pub ruleset parameter_steps = (parameters_more, parameters_end, map_push)
