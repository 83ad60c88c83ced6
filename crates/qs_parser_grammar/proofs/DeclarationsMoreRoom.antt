-- With more room a declaration is answered in the same way, but for what was too deep.
use Rattle.std.proofs.Common.{◌≡◌, ℕ, zero, suc, ◌+◌, ◌≤◌, Bool, true, false, cond, List, [], ◌∷◌, ◌++◌, length, refl, sym, arith, true≢false}
use Rattle.std.specs.Prelude.{max, ◌==◌, ◌&&◌}
use Rattle.std.proofs.lemmas.Bool.{eqb-true, eq-eqb}
use Rattle.qs_syntax_vocabulary.specs.declared.terminal.Terminal.{Terminal}
use Rattle.qs_syntax_vocabulary.specs.declared.terminal.Terminal.TheVariants.{Name, TypeName, Keyword, Constant, Text, Punctuator}
use Rattle.qs_syntax_vocabulary.specs.declared.punctuator.Punctuator.TheVariants as punctuators
use Rattle.qs_syntax.specs.declared.types.Base.{Base}
use Rattle.qs_syntax.specs.Trees.{ExprTree, DeclaratorTree, InitialiserTree, VariableTree, ParameterTree, MembersTree}
use Rattle.qs_syntax.specs.Reads.{Conditional, Assignment, place}
use Rattle.qs_parser_grammar.specs.Heads.{starts}
use Rattle.qs_parser_grammar.specs.Parse.{Parse, unexpected, deep, expect, expect_name, type, stars, begins_one}
use Rattle.qs_parser_grammar.specs.ParseDeclarations.{given_lengths, is_empty_brackets, behind_open, lengths, declarator, initialisers, begins_initialiser, initialiser, variable, variables, declared, declaration, declaration_within, declarators, members, groups, with_name, is_void_alone, parameter, parameters, is_void_head, head}
use Rattle.qs_parser_grammar.proofs.MoreRoom.{DeepOrSame, DeepOrSame-refl, DeepOrSame-deep, DeepOrSame-read_on, DeepOrSame-then, DeepOrSame-last, DeepOrSame-some, DeepOrSame-cond}
use Rattle.qs_parser_grammar.proofs.ExpressionsMoreRoom.{not_begun, more_room_part}
use Rattle.qs_syntax.specs.ReadsTypes.{Any, Names, Plain}

module _ (m n : ℕ) (le : m ≤ n) where
  more_room_given : (k : ℕ) (done : List ExprTree) (h : ℕ) (ts : List Terminal) → DeepOrSame (given_lengths m k done h ts) (given_lengths n k done h ts)
  unfolding given_lengths
  more_room_given zero done h ts = DeepOrSame-refl
  more_room_given (suc k) done h ts =
      DeepOrSame-cond (starts punctuators.OpenBracket ts)
      (DeepOrSame-then (expect punctuators.OpenBracket ts) _ _ (λ _ us. DeepOrSame-read_on _ _ (more_room_part m n le Conditional us) (λ e vs. DeepOrSame-then (expect punctuators.CloseBracket vs) _ _ (λ _ ws. more_room_given k (done ++ e.0 ∷ []) (max h e.1) ws)))) DeepOrSame-refl

  more_room_behind_open : (ts : List Terminal) → DeepOrSame (behind_open m ts) (behind_open n ts)
  more_room_behind_open ts = by_case (m == 0) (n == 0) (starts punctuators.OpenBracket ts) (λ e. eq-eqb m 0 (let none : n ≡ 0 = eqb-true n 0 e in omega arith))
    where
      by_case : (b c d : Bool) → (c ≡ true → b ≡ true) → DeepOrSame (cond (b && d) (deep ts) (given_lengths m (length ts) [] 0 ts)) (cond (c && d) (deep ts) (given_lengths n (length ts) [] 0 ts))
      by_case true c true h = DeepOrSame-deep
      by_case true true false h = more_room_given (length ts) [] 0 ts
      by_case true false false h = more_room_given (length ts) [] 0 ts
      by_case false true d h = absurd (true≢false (sym (h refl)))
      by_case false false d h = more_room_given (length ts) [] 0 ts

  more_room_lengths : (ts : List Terminal) → DeepOrSame (lengths m ts) (lengths n ts)
  unfolding lengths
  more_room_lengths ts =
      DeepOrSame-cond (is_empty_brackets ts) (DeepOrSame-then (expect punctuators.OpenBracket ts) _ _ (λ _ us. DeepOrSame-then (expect punctuators.CloseBracket us) _ _ (λ _ vs. DeepOrSame-last _ (more_room_behind_open vs))))
      (DeepOrSame-last _ (more_room_given (length ts) [] 0 ts))

  pub more_room_declarator : (names : Names) (ts : List Terminal) → DeepOrSame (declarator names m ts) (declarator names n ts)
  unfolding declarator
  more_room_declarator names ts = DeepOrSame-then (expect_name names (stars ts).1) _ _ (λ x us. DeepOrSame-last _ (more_room_lengths us))

more_room_initialisers : (p q : Parse (InitialiserTree × ℕ)) → ((ts : List Terminal) → DeepOrSame (p ts) (q ts)) → (k : ℕ) (done : List InitialiserTree) (h : ℕ) (ts : List Terminal) → DeepOrSame (initialisers p k done h ts) (initialisers q k done h ts)
unfolding initialisers
more_room_initialisers p q g zero done h ts = DeepOrSame-refl
more_room_initialisers p q g (suc k) done h ts =
    DeepOrSame-read_on _ _ (g ts) (λ i us. DeepOrSame-cond (starts punctuators.CloseBrace us) DeepOrSame-refl
    (DeepOrSame-then (expect punctuators.Comma us) _ _ (λ _ vs. DeepOrSame-cond (starts punctuators.CloseBrace vs) DeepOrSame-refl (more_room_initialisers p q g k (done ++ i.0 ∷ []) (max h i.1) vs))))

begins_neither : (b c : Bool) → cond b true c ≡ false → (b ≡ false) × (c ≡ false)
begins_neither true c e = absurd (true≢false e)
begins_neither false c e = (refl, e)

no_initialiser : (n : ℕ) (ts : List Terminal) → begins_initialiser ts ≡ false → initialiser n ts ≡ unexpected ts
unfolding initialiser
no_initialiser zero ts e = rw e refl
no_initialiser (suc n) ts e = let both = begins_neither (starts punctuators.OpenBrace ts) (begins_one ts) e in rw (both.0, not_begun (suc n) Assignment ts both.1) refl

pub more_room_initialiser : (m n : ℕ) → m ≤ n → (ts : List Terminal) → DeepOrSame (initialiser m ts) (initialiser n ts)
unfolding initialiser
more_room_initialiser zero n le ts = by_case (begins_initialiser ts) refl
  where
    by_case : (b : Bool) → begins_initialiser ts ≡ b → DeepOrSame (cond b (deep ts) (unexpected ts)) (initialiser n ts)
    by_case true e = DeepOrSame-deep
    by_case false e = rw (no_initialiser n ts e) DeepOrSame-refl
more_room_initialiser (suc m) zero le ts = absurd (omega arith)
more_room_initialiser (suc m) (suc n) le ts =
    DeepOrSame-cond (starts punctuators.OpenBrace ts)
    (DeepOrSame-some (length ts) m n (omega arith) (DeepOrSame-then (expect punctuators.OpenBrace ts) _ _ (λ _ us. DeepOrSame-last _ (more_room_initialisers (initialiser m) (initialiser n) (λ vs. more_room_initialiser m n (omega arith) vs) (length us) [] 0 us))))
    (DeepOrSame-last _ (more_room_part (suc m) (suc n) le Assignment ts))

module _ (m n : ℕ) (le : m ≤ n) where
  more_room_variable : (ts : List Terminal) → DeepOrSame (variable m ts) (variable n ts)
  unfolding variable
  more_room_variable ts =
      DeepOrSame-read_on _ _ (more_room_declarator m n le Plain ts) (λ d us. DeepOrSame-cond (starts punctuators.Assign us) (DeepOrSame-some (length us) m n le (DeepOrSame-then (expect punctuators.Assign us) _ _ (λ _ vs. DeepOrSame-last _ (more_room_initialiser m n le vs)))) DeepOrSame-refl)

  more_room_variables : (k : ℕ) (done : List VariableTree) (h : ℕ) (ts : List Terminal) → DeepOrSame (variables m k done h ts) (variables n k done h ts)
  unfolding variables
  more_room_variables zero done h ts = DeepOrSame-refl
  more_room_variables (suc k) done h ts =
      DeepOrSame-read_on _ _ (more_room_variable ts) (λ v us. DeepOrSame-cond (starts punctuators.Semicolon us) DeepOrSame-refl (DeepOrSame-then (expect punctuators.Comma us) _ _ (λ _ vs. more_room_variables k (done ++ v.0 ∷ []) (max h v.1) vs)))

  pub more_room_declared : (b : Base) (ts : List Terminal) → DeepOrSame (declared m b ts) (declared n b ts)
  more_room_declared b ts = DeepOrSame-last _ (more_room_variables (length ts) [] 0 ts)

  more_room_declarators : (k : ℕ) (done : List DeclaratorTree) (h : ℕ) (ts : List Terminal) → DeepOrSame (declarators m k done h ts) (declarators n k done h ts)
  unfolding declarators
  more_room_declarators zero done h ts = DeepOrSame-refl
  more_room_declarators (suc k) done h ts =
      DeepOrSame-read_on _ _ (more_room_declarator m n le Any ts) (λ d us. DeepOrSame-cond (starts punctuators.Semicolon us) DeepOrSame-refl (DeepOrSame-then (expect punctuators.Comma us) _ _ (λ _ vs. more_room_declarators k (done ++ d.0 ∷ []) (max h (d.1 + 1)) vs)))

  more_room_members : (ts : List Terminal) → DeepOrSame (members m ts) (members n ts)
  unfolding members
  more_room_members ts = DeepOrSame-then (type ts) _ _ (λ b us. DeepOrSame-last _ (more_room_declarators (length us) [] 0 us))

  pub more_room_groups : (k : ℕ) (done : List MembersTree) (h : ℕ) (ts : List Terminal) → DeepOrSame (groups m k done h ts) (groups n k done h ts)
  unfolding groups
  more_room_groups zero done h ts = DeepOrSame-refl
  more_room_groups (suc k) done h ts = DeepOrSame-read_on _ _ (more_room_members ts) (λ g us. DeepOrSame-cond (starts punctuators.CloseBrace us) DeepOrSame-refl (more_room_groups k (done ++ g.0 ∷ []) (max h g.1) us))

  more_room_with_name : (start : ℕ) (b : Base) (s : ℕ) (ts : List Terminal) → DeepOrSame (with_name m start b s ts) (with_name n start b s ts)
  more_room_with_name start b s [] = DeepOrSame-last _ (more_room_lengths m n le [])
  more_room_with_name start b s (Name at x ∷ ts) = DeepOrSame-last _ (more_room_lengths m n le ts)
  more_room_with_name start b s (TypeName at x ∷ ts) = DeepOrSame-last _ (more_room_lengths m n le (TypeName at x ∷ ts))
  more_room_with_name start b s (Keyword at k ∷ ts) = DeepOrSame-last _ (more_room_lengths m n le (Keyword at k ∷ ts))
  more_room_with_name start b s (Constant at k unsigned ∷ ts) = DeepOrSame-last _ (more_room_lengths m n le (Constant at k unsigned ∷ ts))
  more_room_with_name start b s (Text at bytes ∷ ts) = DeepOrSame-last _ (more_room_lengths m n le (Text at bytes ∷ ts))
  more_room_with_name start b s (Punctuator at k ∷ ts) = DeepOrSame-last _ (more_room_lengths m n le (Punctuator at k ∷ ts))

  more_room_parameter : (ts : List Terminal) → DeepOrSame (parameter m ts) (parameter n ts)
  unfolding parameter
  more_room_parameter ts = DeepOrSame-cond (is_void_alone ts) DeepOrSame-refl (DeepOrSame-then (type ts) _ _ (λ b us. more_room_with_name (place ts) b (stars us).0 (stars us).1))

  more_room_parameters : (k : ℕ) (done : List ParameterTree) (h : ℕ) (ts : List Terminal) → DeepOrSame (parameters m k done h ts) (parameters n k done h ts)
  unfolding parameters
  more_room_parameters zero done h ts = DeepOrSame-refl
  more_room_parameters (suc k) done h ts =
      DeepOrSame-read_on _ _ (more_room_parameter ts) (λ p us. DeepOrSame-cond (starts punctuators.CloseParenthesis us) DeepOrSame-refl (DeepOrSame-then (expect punctuators.Comma us) _ _ (λ _ vs. more_room_parameters k (done ++ p.0 ∷ []) (max h p.1) vs)))

  pub more_room_head : (ts : List Terminal) → DeepOrSame (head m ts) (head n ts)
  unfolding head
  more_room_head ts = DeepOrSame-cond (starts punctuators.CloseParenthesis ts) DeepOrSame-refl (DeepOrSame-cond (is_void_head ts) DeepOrSame-refl (more_room_parameters (length ts) [] 0 ts))

pub more_room_declaration_within : (m n : ℕ) → m ≤ n → (ts : List Terminal) → DeepOrSame (declaration_within m ts) (declaration_within n ts)
unfolding declaration_within declaration
more_room_declaration_within zero n le ts = DeepOrSame-deep
more_room_declaration_within (suc m) zero le ts = absurd (omega arith)
more_room_declaration_within (suc m) (suc n) le ts = DeepOrSame-then (type ts) _ _ (λ b us. more_room_declared m n (omega arith) b us)
