-- What is read as a declarator, a variable or a declaration has that reading.
use Rattle.std.proofs.Common.{◌≡◌, ℕ, zero, suc, ◌+◌, ◌≤◌, max, List, [], ◌∷◌, ◌++◌, length, Some, None, refl, sym, ap, ◌∙◌, append_assoc, append-nil, add-one, arith, ◌==◌, ◌&&◌}
use Rattle.qs_syntax_vocabulary.specs.declared.terminal.Terminal.{Terminal}
use Rattle.qs_syntax_vocabulary.specs.declared.terminal.Terminal.TheVariants.{Punctuator}
use Rattle.qs_syntax_vocabulary.specs.declared.punctuator.Punctuator.TheVariants as punctuators
use Rattle.qs_syntax.specs.declared.types.Base.{Base}
use Rattle.qs_syntax.specs.Trees.{unnumbered, ExprTree, LengthsTree, DeclaratorTree, InitialiserTree, list, initialisers_of, VariableTree, DeclarationTree}
use Rattle.qs_syntax.specs.ReadsTypes.{ReadsType, ReadsStars, Names, Plain}
use Rattle.qs_syntax.specs.Reads.{Conditional, Assignment, place}
use Rattle.qs_syntax.specs.ReadsDeclarations.{ReadsGiven, no_length, a_length, ReadsLengths, are_given, first_open, ReadsDeclarator, a_declarator, ReadsInitialiser, a_value, a_list, ReadsInitialisers, a_last_initialiser, a_last_with_comma, an_initialiser, ReadsVariable, an_unset_variable, a_set_variable, ReadsVariables, a_last_variable, a_variable, ReadsDeclaration, a_declaration}
use Rattle.qs_parser_grammar.specs.Heads.{starts}
use Rattle.qs_parser_grammar.specs.Parse.{Parse, E, stars}
use Rattle.qs_parser_grammar.specs.ParseDeclarations.{given_lengths, is_empty_brackets, lengths, named, declarator, after_initialiser, initialisers, begins_initialiser, initialiser, initialised, variable, variables, declared, declaration, declaration_within}
use Rattle.qs_parser_grammar.proofs.Sound.{Sound, Sound-ok, Sound-err, at_end, Sound-after, Sound-mono}
use Rattle.qs_parser_grammar.proofs.SoundSteps.{Sound-if}
use Rattle.qs_parser_grammar.proofs.TypesSound.{sound_type, StarsRead, stars_read}
use Rattle.qs_parser_grammar.proofs.ExpressionsSound.{IsRead, sound_part}
use Rattle.qs_parser_grammar.proofs.DeclarationsSteps.{Sound-behind, Sound-punctuator-next, Sound-punctuator-is, Sound-name-next, Sound-part, Sound-last}
use Rattle.qs_parser_grammar.proofs.DeclarationsLists.{Closed, Ends, all_closed, closed_last, closed_further, sound_after}

-- ---- lengths

-- more lengths behind those that are done
abbrev AreGiven : ℕ → List ExprTree → ℕ → List ExprTree × ℕ → List Terminal → Type 0
AreGiven m done h x l = (es : List ExprTree) × (k : ℕ) × (x.0 ≡ done ++ es) × (x.1 ≡ max h k) × ReadsGiven k l es × (k ≤ m)

none_given : (m : ℕ) (done : List ExprTree) (h : ℕ) → AreGiven m done h (done, h) []
none_given m done h = ([], 0, sym (append-nil done), omega arith, no_length, omega arith)

given_further : (m : ℕ) (done : List ExprTree) (h : ℕ) (e : E) (o c : ℕ) (front : List Terminal) → IsRead m Conditional e front
    → (x : List ExprTree × ℕ) (l : List Terminal) → AreGiven m (done ++ e.0 ∷ []) (max h e.1) x l → AreGiven m done h x (Punctuator o punctuators.OpenBracket ∷ (front ++ Punctuator c punctuators.CloseBracket ∷ l))
given_further m done h e o c front (r, le) x l (es, k, p, q, s, low) = (e.0 ∷ es, max e.1 k, p ∙ append_assoc done (e.0 ∷ []) es, omega arith, a_length o c r s, omega arith)

sound_given : (m n : ℕ) (done : List ExprTree) (h : ℕ) (ts : List Terminal) → Sound (AreGiven m done h) [] ts (given_lengths m n done h ts)
unfolding given_lengths
sound_given m zero done h ts = Sound-ok (none_given m done h)
sound_given m (suc n) done h ts =
    Sound-if (starts punctuators.OpenBracket ts) (λ _. Sound-punctuator-next punctuators.OpenBracket ts _
    (λ o us. Sound-part _ (sound_part m Conditional us)
    (λ e front vs r. Sound-punctuator-next punctuators.CloseBracket vs _
    (λ c ws. Sound-mono (given_further m done h e o c front r) (sound_given m n (done ++ e.0 ∷ []) (max h e.1) ws)))))
    (λ _. Sound-ok (none_given m done h))

abbrev pub AreLengths : ℕ → LengthsTree × ℕ → List Terminal → Type 0
AreLengths m x l = ReadsLengths x.1 l x.0 × (x.1 ≤ m)

all_given : (m : ℕ) (x : List ExprTree × ℕ) (l : List Terminal) → AreGiven m [] 0 x l → ReadsGiven x.1 l x.0 × (x.1 ≤ m)
all_given m x l (es, k, p, q, r, low) = let same : x.1 ≡ k = omega arith in (rw (same, p) r, omega arith)

pub sound_lengths : (m : ℕ) (ts : List Terminal) → Sound (AreLengths m) [] ts (lengths m ts)
unfolding lengths
sound_lengths m ts =
    Sound-if (is_empty_brackets ts) (λ _. Sound-punctuator-next punctuators.OpenBracket ts _ (λ o us. Sound-punctuator-next punctuators.CloseBracket us _
    (λ c vs. Sound-last _ (Sound-if (m == 0 && starts punctuators.OpenBracket vs) (λ _. Sound-err at_end) (λ _. sound_given m (length vs) [] 0 vs)) (λ x l r. (first_open o c (all_given m x l r).0, (all_given m x l r).1)))))
    (λ _. Sound-last _ (sound_given m (length ts) [] 0 ts) (λ x l r. (are_given (all_given m x l r).0, (all_given m x l r).1)))

-- ---- declarators

abbrev pub IsDeclarator : Names → ℕ → DeclaratorTree × ℕ → List Terminal → Type 0
IsDeclarator names m x l = ReadsDeclarator names x.1 l x.0 × (x.1 ≤ m)

sound_named : (names : Names) (m n : ℕ) (front : List Terminal) → ReadsStars front n → (ts : List Terminal) → Sound (λ x l. IsDeclarator names m x (front ++ l)) [] ts (named names m n ts)
sound_named names m n front s ts = Sound-name-next names ts _ (λ t at x name us. Sound-last _ (sound_lengths m us) (λ y l r. (a_declarator s name r.0, r.1)))

pub sound_declarator : (names : Names) (m : ℕ) (ts : List Terminal) → Sound (IsDeclarator names m) [] ts (declarator names m ts)
unfolding declarator
sound_declarator names m ts =
    let first : StarsRead ts (stars ts) = stars_read ts in
    Sound-after [] ts first.front (stars ts).1 first.split _ (Sound-behind (sound_named names m (stars ts).0 first.front first.is (stars ts).1))

-- ---- initialisers

abbrev pub IsInitialiser : ℕ → InitialiserTree × ℕ → List Terminal → Type 0
IsInitialiser n x l = ReadsInitialiser x.1 l x.0 × (x.1 ≤ n)

abbrev OneInitialiser : ℕ → List Terminal → InitialiserTree → Type 0
OneInitialiser h l i = ReadsInitialiser h l i

abbrev AllInitialisers : ℕ → List Terminal → List InitialiserTree → Type 0
AllInitialisers h l is = ReadsInitialisers h l (initialisers_of is)

abbrev AreInitialisers : ℕ → List InitialiserTree → ℕ → List InitialiserTree × ℕ → List Terminal → Type 0
AreInitialisers n done h x l = Closed punctuators.CloseBrace AllInitialisers n done h x l

last_initialiser : (h : ℕ) (ts : List Terminal) (i : InitialiserTree) → OneInitialiser h ts i → AllInitialisers h ts (i ∷ [])
last_initialiser h ts i r = a_last_initialiser r

further_initialiser : (h k : ℕ) (ts us : List Terminal) (i : InitialiserTree) (is : List InitialiserTree) (at : ℕ) → OneInitialiser h ts i → AllInitialisers k us is → AllInitialisers (max h k) (ts ++ Punctuator at punctuators.Comma ∷ us) (i ∷ is)
further_initialiser h k ts us i is at r s = an_initialiser at r s

last_with_comma : (n : ℕ) (done : List InitialiserTree) (h : ℕ) (i : InitialiserTree) (k : ℕ) (front : List Terminal) (at c : ℕ) → ReadsInitialiser k front i → k ≤ n
    → AreInitialisers n done h (done ++ i ∷ [], max h k) (front ++ Punctuator at punctuators.Comma ∷ Punctuator c punctuators.CloseBrace ∷ [])
last_with_comma n done h i k front at c r le = (i ∷ [], k, front ++ Punctuator at punctuators.Comma ∷ [], c, refl, refl, sym (append_assoc front (Punctuator at punctuators.Comma ∷ []) (Punctuator c punctuators.CloseBrace ∷ [])), a_last_with_comma at r, le)

module _ (n : ℕ) (one : Parse (InitialiserTree × ℕ)) (good : (ts : List Terminal) → Sound (IsInitialiser n) [] ts (one ts)) where
  sound_after_initialiser : (others : List InitialiserTree → ℕ → Parse (List InitialiserTree × ℕ)) → ((done : List InitialiserTree) (h : ℕ) (ts : List Terminal) → Sound (AreInitialisers n done h) [] ts (others done h ts))
      → (done : List InitialiserTree) (h : ℕ) (i : InitialiserTree × ℕ) (front : List Terminal) → IsInitialiser n i front → (ts : List Terminal)
      → Sound (λ y l. AreInitialisers n done h y (front ++ l)) [] ts (after_initialiser one others (done ++ i.0 ∷ []) (max h i.1) ts)
  sound_after_initialiser others all done h i front r ts =
      Sound-if (starts punctuators.CloseBrace ts)
      (λ _. Sound-punctuator-next punctuators.CloseBrace ts _ (λ c us. Sound-ok (closed_last punctuators.CloseBrace OneInitialiser AllInitialisers last_initialiser further_initialiser n done h i.0 i.1 front c r.0 r.1)))
      (λ _. Sound-punctuator-next punctuators.Comma ts _ (λ at us. Sound-if (starts punctuators.CloseBrace us)
      (λ _. Sound-punctuator-next punctuators.CloseBrace us _ (λ c vs. Sound-ok (last_with_comma n done h i.0 i.1 front at c r.0 r.1)))
      (λ _. Sound-mono (closed_further punctuators.CloseBrace OneInitialiser AllInitialisers last_initialiser further_initialiser n done h i.0 i.1 front at r.0 r.1) (all (done ++ i.0 ∷ []) (max h i.1) us))))

  sound_initialisers : (turns : ℕ) (done : List InitialiserTree) (h : ℕ) (ts : List Terminal) → Sound (AreInitialisers n done h) [] ts (initialisers one turns done h ts)
  unfolding initialisers
  sound_initialisers zero done h ts = Sound-err at_end
  sound_initialisers (suc turns) done h ts = Sound-part _ (good ts) (λ i front us r. sound_after_initialiser (initialisers one turns) (λ done h ts. sound_initialisers turns done h ts) done h i front r us)

a_list_read : (m : ℕ) (o : ℕ) (at : ℕ) → at ≡ o → (x : List InitialiserTree × ℕ) (l : List Terminal) → AreInitialisers m [] 0 x l → IsInitialiser (suc m) (list (unnumbered at) (initialisers_of x.0), x.1 + 1) (Punctuator o punctuators.OpenBrace ∷ l)
a_list_read m o at same x l r = go (all_closed punctuators.CloseBrace AllInitialisers m x l r)
  where
    go : Ends punctuators.CloseBrace AllInitialisers m x l → IsInitialiser (suc m) (list (unnumbered at) (initialisers_of x.0), x.1 + 1) (Punctuator o punctuators.OpenBrace ∷ l)
    go (inside, c, e, s, le) = (rw (e, same, add-one x.1) (a_list o c s), omega arith)

pub sound_initialiser : (n : ℕ) (ts : List Terminal) → Sound (IsInitialiser n) [] ts (initialiser n ts)
unfolding initialiser
sound_initialiser zero ts = Sound-if (begins_initialiser ts) (λ _. Sound-err at_end) (λ _. Sound-err at_end)
sound_initialiser (suc m) ts =
    Sound-if (starts punctuators.OpenBrace ts)
    (λ _. Sound-if (m == 0) (λ _. Sound-err at_end) (λ _. Sound-punctuator-is punctuators.OpenBrace ts _
    (λ o us e. Sound-last _ (sound_initialisers m (initialiser m) (λ ts. sound_initialiser m ts) (length us) [] 0 us) (a_list_read m o (place ts) (ap place e)))))
    (λ _. Sound-last _ (sound_part (suc m) Assignment ts) (λ e l r. (a_value r.0, r.1)))

-- ---- variables

abbrev pub IsVariable : ℕ → VariableTree × ℕ → List Terminal → Type 0
IsVariable m x l = ReadsVariable x.1 l x.0 × (x.1 ≤ suc m)

unset_read : (m : ℕ) (d : DeclaratorTree × ℕ) (front : List Terminal) → IsDeclarator Plain m d front → IsVariable m (record { declarator = d.0; initialiser = None }, d.1 + 1) (front ++ [])
unset_read m d front (r, le) = (rw (append-nil front, add-one d.1) (an_unset_variable r), omega arith)

set_read : (m : ℕ) (d : DeclaratorTree × ℕ) (front : List Terminal) → IsDeclarator Plain m d front → (at : ℕ) (i : InitialiserTree × ℕ) (l : List Terminal) → IsInitialiser m i l
    → IsVariable m (record { declarator = d.0; initialiser = Some i.0 }, max d.1 i.1 + 1) (front ++ Punctuator at punctuators.Assign ∷ l)
set_read m d front (r, le) at i l (s, low) = (rw (add-one (max d.1 i.1)) (a_set_variable at r s), omega arith)

sound_initialised : (m : ℕ) (d : DeclaratorTree × ℕ) (front : List Terminal) → IsDeclarator Plain m d front → (ts : List Terminal) → Sound (λ x l. IsVariable m x (front ++ l)) [] ts (initialised m d ts)
sound_initialised m d front r ts =
    Sound-if (starts punctuators.Assign ts)
    (λ _. Sound-if (m == 0) (λ _. Sound-err at_end) (λ _. Sound-punctuator-next punctuators.Assign ts _ (λ at us. Sound-last _ (sound_initialiser m us) (set_read m d front r at))))
    (λ _. Sound-ok (unset_read m d front r))

pub sound_variable : (m : ℕ) (ts : List Terminal) → Sound (IsVariable m) [] ts (variable m ts)
unfolding variable
sound_variable m ts = Sound-part (initialised m) (sound_declarator Plain m ts) (λ d front us r. sound_initialised m d front r us)

abbrev AreVariables : ℕ → List VariableTree → ℕ → List VariableTree × ℕ → List Terminal → Type 0
AreVariables m done h x l = Closed punctuators.Semicolon ReadsVariables (suc m) done h x l

sound_variables : (m n : ℕ) (done : List VariableTree) (h : ℕ) (ts : List Terminal) → Sound (AreVariables m done h) [] ts (variables m n done h ts)
unfolding variables
sound_variables m zero done h ts = Sound-err at_end
sound_variables m (suc n) done h ts =
    Sound-part _ (sound_variable m ts)
    (λ v front us r. sound_after punctuators.Semicolon ReadsVariable ReadsVariables (λ h ts v r. a_last_variable r) (λ h k ts us v vs at r s. a_variable at r s) (suc m) (variables m n) (λ done h ts. sound_variables m n done h ts) done h v.0 v.1 front r.0 r.1 us)

-- ---- declarations

-- behind a type
abbrev pub IsDeclared : ℕ → Base → DeclarationTree × ℕ → List Terminal → Type 0
IsDeclared m b x l = (vs : List VariableTree) × (x.0 ≡ record { base = b; variables = vs }) × Ends punctuators.Semicolon ReadsVariables (suc m) (vs, x.1) l

pub sound_declared : (m : ℕ) (b : Base) (ts : List Terminal) → Sound (IsDeclared m b) [] ts (declared m b ts)
sound_declared m b ts = Sound-last _ (sound_variables m (length ts) [] 0 ts) (λ x l r. (x.0, refl, all_closed punctuators.Semicolon ReadsVariables (suc m) x l r))

abbrev pub IsDeclaration : ℕ → DeclarationTree × ℕ → List Terminal → Type 0
IsDeclaration n x l = ReadsDeclaration x.1 l x.0 × (x.1 ≤ n)

pub sound_declaration : (m : ℕ) (ts : List Terminal) → Sound (IsDeclaration (suc m)) [] ts (declaration m ts)
unfolding declaration
sound_declaration m ts = Sound-part (declared m) (sound_type ts) (λ b front us t. Sound-mono (λ x l r. go b front t x l r) (sound_declared m b us))
  where
    go : (b : Base) (front : List Terminal) → ReadsType front b → (x : DeclarationTree × ℕ) (l : List Terminal) → IsDeclared m b x l → IsDeclaration (suc m) x (front ++ l)
    go b front t x l (vs, e, (inside, s, d, r, le)) = (rw (e, d) (a_declaration s t r), le)

pub sound_declaration_within : (n : ℕ) (ts : List Terminal) → Sound (IsDeclaration n) [] ts (declaration_within n ts)
unfolding declaration_within
sound_declaration_within zero ts = Sound-err at_end
sound_declaration_within (suc m) ts = sound_declaration m ts
