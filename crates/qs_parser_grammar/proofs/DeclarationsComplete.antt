-- What has a reading as a declarator, a variable or a declaration is read so, whatever follows that does not go on with it.
use Rattle.std.proofs.Common.{◌≡◌, ℕ, zero, suc, ◌+◌, ◌<◌, ◌≤◌, max, List, [], ◌∷◌, ◌++◌, length, Result, Ok, refl, sym, ap, ◌∙◌, append_assoc, append-nil, add-one, length-append, true, false, true≢false, arith, ◌==◌, ◌&&◌}
use Rattle.std.proofs.lemmas.Bool.{and_right, false_from_ne_true, ne_eqb}
use Rattle.qs_syntax_vocabulary.specs.declared.terminal.Terminal.{Terminal}
use Rattle.qs_syntax_vocabulary.specs.declared.terminal.Terminal.TheVariants.{Punctuator}
use Rattle.qs_syntax_vocabulary.specs.declared.punctuator.Punctuator as punctuator
use Rattle.qs_syntax_vocabulary.specs.declared.punctuator.Punctuator.TheVariants as punctuators
use Rattle.qs_syntax.specs.Trees.{unnumbered, ExprTree, LengthsTree, DeclaratorTree, InitialiserTree, list, Initialisers, no_initialisers, initialiser_and, initialisers_of, VariableTree, DeclarationTree}
use Rattle.qs_syntax.specs.Reads.{Conditional, Assignment}
use Rattle.qs_syntax.specs.ReadsDeclarations.{ReadsGiven, no_length, a_length, ReadsLengths, are_given, first_open, ReadsDeclarator, a_declarator, ReadsInitialiser, a_value, a_list, ReadsInitialisers, a_last_initialiser, a_last_with_comma, an_initialiser, ReadsVariable, an_unset_variable, a_set_variable, ReadsVariables, a_last_variable, a_variable, ReadsDeclaration, a_declaration}
use Rattle.qs_parser_grammar.specs.Heads.{starts, begins_type}
use Rattle.qs_parser_grammar.specs.Parse.{Stop, begins_one}
use Rattle.qs_parser_grammar.specs.ParseDeclarations.{given_lengths, is_empty_brackets, lengths, declarator, initialisers, initialiser, variable, variables, declaration, declaration_within}
use Rattle.qs_parser_grammar.specs.Stops.{Stops}
use Rattle.qs_parser_grammar.proofs.HeadsLaws.{starts_is, not_starts, finds_name}
use Rattle.qs_parser_grammar.proofs.TypesComplete.{goes_on_type, stars_go_on, finds_stars, finds_type, type_begins, goes_on_stars}
use Rattle.qs_parser_grammar.proofs.ExpressionsBegin.{begins, high}
use Rattle.qs_parser_grammar.proofs.ExpressionsComplete.{finds}
use Rattle.qs_syntax.specs.ReadsTypes.{Names, ReadsName, a_plain_name, a_name_of_a_type}

-- ---- lists that are read from the front

-- the answer of a list
abbrev pub Items : {X : Type 0} → List X → ℕ → List Terminal → Result ((List X × ℕ) × List Terminal) Stop
Items xs h rest = Ok ((xs, h), rest)

pub nothing_more : {X : Type 0} (done : List X) (j : ℕ) (rest : List Terminal) → Items done j rest ≡ Items (done ++ []) (max j 0) rest
nothing_more done j rest = let same : max j 0 ≡ j = omega arith in rw (append-nil done, same) refl

pub one_more : {X : Type 0} (done xs : List X) (x : X) (j h k : ℕ) (rest : List Terminal) → Items ((done ++ x ∷ []) ++ xs) (max (max j h) k) rest ≡ Items (done ++ x ∷ xs) (max j (max h k)) rest
one_more done xs x j h k rest = let same : max (max j h) k ≡ max j (max h k) = omega arith in rw (append_assoc done (x ∷ []) xs, same) refl

pub from_zero : (h : ℕ) → max 0 h ≡ h
from_zero h = omega arith

-- a level is left
pub has_room : (m : ℕ) → (suc m == 0) ≡ false
has_room m = ne_eqb (suc m) 0 (λ e. omega arith)

-- a punctuator that begins no expression does not stand where one begins, and so with types
pub not_begun : (k : punctuator.Punctuator) → ((at : ℕ) (us : List Terminal) → begins_one (Punctuator at k ∷ us) ≡ false) → (ts : List Terminal) → begins_one ts ≡ true → starts k ts ≡ false
not_begun k no_punctuator ts e = false_from_ne_true (starts k ts) (λ s. let is = starts_is k ts s in true≢false (sym e ∙ ap begins_one is.2 ∙ no_punctuator is.0 is.1))

pub not_typed : (k : punctuator.Punctuator) (ts : List Terminal) → begins_type ts ≡ true → starts k ts ≡ false
not_typed k ts e = false_from_ne_true (starts k ts) (λ s. let is = starts_is k ts s in true≢false (sym e ∙ ap begins_type is.2))

-- ---- lengths

pub finds_given : {h : ℕ} {ts : List Terminal} {es : List ExprTree} → ReadsGiven h ts es → (m n : ℕ) → h ≤ m → length ts ≤ n → (done : List ExprTree) (j : ℕ) (rest : List Terminal) → starts punctuators.OpenBracket rest ≡ false
    → given_lengths m n done j (ts ++ rest) ≡ Items (done ++ es) (max j h) rest
unfolding given_lengths
finds_given no_length m zero le enough done j rest stop = nothing_more done j rest
finds_given no_length m (suc n) le enough done j rest stop = rw stop (nothing_more done j rest)
finds_given (a_length {h = h} {k = k} {xs = xs} {ys = ys} {e = e} {es = es} o c r s) m zero le enough done j rest stop = absurd (omega arith)
finds_given (a_length {h = h} {k = k} {xs = xs} {ys = ys} {e = e} {es = es} o c r s) m (suc n) le enough done j rest stop =
    rw (append_assoc xs (Punctuator c punctuators.CloseBracket ∷ ys) rest, finds m Conditional h xs e r (omega arith) (Punctuator c punctuators.CloseBracket ∷ (ys ++ rest)) (omega arith))
    (finds_given s m n (omega arith) (omega (arith, length-append xs (Punctuator c punctuators.CloseBracket ∷ ys))) (done ++ e ∷ []) (max j h) rest stop ∙ one_more done es e j h k rest)

given_not_open : {h : ℕ} {ts : List Terminal} {es : List ExprTree} → ReadsGiven h ts es → (rest : List Terminal) → starts punctuators.OpenBracket rest ≡ false → is_empty_brackets (ts ++ rest) ≡ false
given_not_open no_length [] stop = refl
given_not_open no_length (t ∷ ts) stop = rw stop refl
given_not_open (a_length {xs = xs} {ys = ys} o c r s) rest stop =
    rw (append_assoc xs (Punctuator c punctuators.CloseBracket ∷ ys) rest) (not_begun punctuators.CloseBracket (λ at us. refl) (xs ++ Punctuator c punctuators.CloseBracket ∷ (ys ++ rest)) (begins r (Punctuator c punctuators.CloseBracket ∷ (ys ++ rest))))

-- a length needs a level
may_follow : {h : ℕ} {ts : List Terminal} {es : List ExprTree} → ReadsGiven h ts es → (m : ℕ) → h ≤ m → (rest : List Terminal) → starts punctuators.OpenBracket rest ≡ false → (m == 0 && starts punctuators.OpenBracket (ts ++ rest)) ≡ false
may_follow no_length m le rest stop = rw stop (and_right (m == 0) false refl)
may_follow (a_length o c r s) m le rest stop =
    let some = high r in
    let room : (m == 0) ≡ false = ne_eqb m 0 (λ e. omega arith) in
    rw room refl

pub finds_lengths : {h : ℕ} {ts : List Terminal} {x : LengthsTree} → ReadsLengths h ts x → (m : ℕ) → h ≤ m → (rest : List Terminal) → starts punctuators.OpenBracket rest ≡ false → lengths m (ts ++ rest) ≡ Ok ((x, h), rest)
unfolding lengths
finds_lengths (are_given {h = h} {ts = ts} {es = es} r) m le rest stop =
    rw (given_not_open r rest stop, finds_given r m (length (ts ++ rest)) le (omega (arith, length-append ts rest)) [] 0 rest stop, from_zero h) refl
finds_lengths (first_open {h = h} {ts = ts} {es = es} o c r) m le rest stop =
    rw (may_follow r m le rest stop, finds_given r m (length (ts ++ rest)) le (omega (arith, length-append ts rest)) [] 0 rest stop, from_zero h) refl

-- ---- declarators

name_no_stars : {names : Names} {t : Terminal} {at : ℕ} {x : List ℕ} → ReadsName names t at x → (rest : List Terminal) → goes_on_stars (t ∷ rest) ≡ false
name_no_stars (a_plain_name at x) rest = refl
name_no_stars (a_name_of_a_type at x) rest = refl

name_no_type : {names : Names} {t : Terminal} {at : ℕ} {x : List ℕ} → ReadsName names t at x → (rest : List Terminal) → goes_on_type (t ∷ rest) ≡ false
name_no_type (a_plain_name at x) rest = refl
name_no_type (a_name_of_a_type at x) rest = refl

pub finds_declarator : {names : Names} {h : ℕ} {ts : List Terminal} {d : DeclaratorTree} → ReadsDeclarator names h ts d → (m : ℕ) → h ≤ m → (rest : List Terminal) → starts punctuators.OpenBracket rest ≡ false → declarator names m (ts ++ rest) ≡ Ok ((d, h), rest)
unfolding declarator
finds_declarator (a_declarator {xs = xs} {ys = ys} {t = t} s name r) m le rest stop =
    rw (append_assoc xs (t ∷ ys) rest, finds_stars s (t ∷ (ys ++ rest)) (name_no_stars name (ys ++ rest)), finds_name name (ys ++ rest), finds_lengths r m le rest stop) refl

pub declarator_no_type : {names : Names} {h : ℕ} {ts : List Terminal} {d : DeclaratorTree} → ReadsDeclarator names h ts d → (rest : List Terminal) → goes_on_type (ts ++ rest) ≡ false
declarator_no_type (a_declarator {xs = xs} {ys = ys} {t = t} s name r) rest = rw (append_assoc xs (t ∷ ys) rest) (stars_go_on s (t ∷ (ys ++ rest)) (name_no_type name (ys ++ rest)))

-- ---- initialisers

abbrev items_of : Initialisers → List InitialiserTree
items_of no_initialisers = []
items_of (initialiser_and i is) = i ∷ items_of is

items_back : (is : Initialisers) → initialisers_of (items_of is) ≡ is
items_back no_initialisers = refl
items_back (initialiser_and i is) = ap (initialiser_and i) (items_back is)

mutual
  initialiser_positive : {h : ℕ} {ts : List Terminal} {i : InitialiserTree} → ReadsInitialiser h ts i → 0 < h
  initialiser_positive (a_value r) = high r
  initialiser_positive (a_list o c r) = omega arith

  initialisers_positive : {h : ℕ} {ts : List Terminal} {is : Initialisers} → ReadsInitialisers h ts is → 0 < h
  initialisers_positive (a_last_initialiser r) = initialiser_positive r
  initialisers_positive (a_last_with_comma at r) = initialiser_positive r
  initialisers_positive (an_initialiser {h = h} {k = k} at r s) = let p = initialiser_positive r in omega arith

-- the punctuator at the end does not stand where an initialiser begins
initialiser_no_end : {h : ℕ} {ts : List Terminal} {i : InitialiserTree} → ReadsInitialiser h ts i → (rest : List Terminal) → starts punctuators.CloseBrace (ts ++ rest) ≡ false
initialiser_no_end (a_value {ts = ts} r) rest = not_begun punctuators.CloseBrace (λ at us. refl) (ts ++ rest) (begins r rest)
initialiser_no_end (a_list o c r) rest = refl

initialisers_no_end : {h : ℕ} {ts : List Terminal} {is : Initialisers} → ReadsInitialisers h ts is → (rest : List Terminal) → starts punctuators.CloseBrace (ts ++ rest) ≡ false
initialisers_no_end (a_last_initialiser r) rest = initialiser_no_end r rest
initialisers_no_end (a_last_with_comma {ts = ts} at r) rest = rw (append_assoc ts (Punctuator at punctuators.Comma ∷ []) rest) (initialiser_no_end r (Punctuator at punctuators.Comma ∷ rest))
initialisers_no_end (an_initialiser {xs = xs} {ys = ys} at r s) rest = rw (append_assoc xs (Punctuator at punctuators.Comma ∷ ys) rest) (initialiser_no_end r (Punctuator at punctuators.Comma ∷ (ys ++ rest)))

list_answer : (o h : ℕ) (is : Initialisers) (rest : List Terminal) → ◌≡◌ {A = Result ((InitialiserTree × ℕ) × List Terminal) Stop} (Ok ((list (unnumbered o) (initialisers_of (items_of is)), max 0 h + 1), rest)) (Ok ((list (unnumbered o) is, suc h), rest))
list_answer o h is rest = rw (items_back is, from_zero h, add-one h) refl

mutual
  unfolding initialiser initialisers

  pub finds_initialiser : {h : ℕ} {ts : List Terminal} {i : InitialiserTree} → ReadsInitialiser h ts i → (n : ℕ) → h ≤ n → (rest : List Terminal) → Stops Assignment rest → initialiser n (ts ++ rest) ≡ Ok ((i, h), rest)
  finds_initialiser (a_value {h = h} {ts = ts} {e = e} r) zero le rest stop = let p = high r in absurd (omega arith)
  finds_initialiser (a_value {h = h} {ts = ts} {e = e} r) (suc m) le rest stop =
      rw (not_begun punctuators.OpenBrace (λ at us. refl) (ts ++ rest) (begins r rest), finds (suc m) Assignment h ts e r le rest stop) refl
  finds_initialiser (a_list {h = h} {ts = ts} {is = is} o c r) zero le rest stop = absurd (omega arith)
  finds_initialiser (a_list {h = h} {ts = ts} {is = is} o c r) (suc zero) le rest stop = let p = initialisers_positive r in absurd (omega arith)
  finds_initialiser (a_list {h = h} {ts = ts} {is = is} o c r) (suc (suc m)) le rest stop =
      rw (has_room m, append_assoc ts (Punctuator c punctuators.CloseBrace ∷ []) rest, finds_initialisers r (suc m) (length (ts ++ Punctuator c punctuators.CloseBrace ∷ rest)) (omega arith) (omega (arith, length-append ts (Punctuator c punctuators.CloseBrace ∷ rest))) [] 0 c rest)
      (list_answer o h is rest)

  finds_initialisers : {h : ℕ} {ts : List Terminal} {is : Initialisers} → ReadsInitialisers h ts is → (m n : ℕ) → h ≤ m → length ts < n → (done : List InitialiserTree) (j c : ℕ) (rest : List Terminal)
      → initialisers (initialiser m) n done j (ts ++ Punctuator c punctuators.CloseBrace ∷ rest) ≡ Items (done ++ items_of is) (max j h) rest
  finds_initialisers (a_last_initialiser r) m zero le enough done j c rest = absurd (omega arith)
  finds_initialisers (a_last_initialiser {h = h} {ts = ts} {i = i} r) m (suc n) le enough done j c rest = rw (finds_initialiser r m le (Punctuator c punctuators.CloseBrace ∷ rest) (omega arith)) refl
  finds_initialisers (a_last_with_comma at r) m zero le enough done j c rest = absurd (omega arith)
  finds_initialisers (a_last_with_comma {h = h} {ts = ts} {i = i} at r) m (suc n) le enough done j c rest =
      rw (append_assoc ts (Punctuator at punctuators.Comma ∷ []) (Punctuator c punctuators.CloseBrace ∷ rest), finds_initialiser r m le (Punctuator at punctuators.Comma ∷ Punctuator c punctuators.CloseBrace ∷ rest) (omega arith)) refl
  finds_initialisers (an_initialiser at r s) m zero le enough done j c rest = absurd (omega arith)
  finds_initialisers (an_initialiser {h = h} {k = k} {xs = xs} {ys = ys} {i = i} {is = is} at r s) m (suc n) le enough done j c rest =
      rw (append_assoc xs (Punctuator at punctuators.Comma ∷ ys) (Punctuator c punctuators.CloseBrace ∷ rest), finds_initialiser r m (omega arith) (Punctuator at punctuators.Comma ∷ (ys ++ Punctuator c punctuators.CloseBrace ∷ rest)) (omega arith), initialisers_no_end s (Punctuator c punctuators.CloseBrace ∷ rest))
      (finds_initialisers s m n (omega arith) (omega (arith, length-append xs (Punctuator at punctuators.Comma ∷ ys))) (done ++ i ∷ []) (max j h) c rest ∙ one_more done (items_of is) i j h k rest)

-- ---- variables

pub finds_variable : {h : ℕ} {ts : List Terminal} {v : VariableTree} → ReadsVariable h ts v → (m : ℕ) → h ≤ suc m → (rest : List Terminal) → Stops Assignment rest → variable m (ts ++ rest) ≡ Ok ((v, h), rest)
unfolding variable
finds_variable (an_unset_variable {h = h} {ts = ts} {d = d} r) m le rest stop =
    rw (finds_declarator r m (omega arith) rest (not_starts punctuators.OpenBracket rest (omega arith)), not_starts punctuators.Assign rest (omega arith), add-one h) refl
finds_variable (a_set_variable {h = h} {k = k} at r s) zero le rest stop = let p = initialiser_positive s in absurd (omega arith)
finds_variable (a_set_variable {h = h} {k = k} {xs = xs} {ys = ys} {d = d} {i = i} at r s) (suc m) le rest stop =
    rw (append_assoc xs (Punctuator at punctuators.Assign ∷ ys) rest, finds_declarator r (suc m) (omega arith) (Punctuator at punctuators.Assign ∷ (ys ++ rest)) refl, has_room m, finds_initialiser s (suc m) (omega arith) rest stop, add-one (max h k)) refl

finds_variables : {h : ℕ} {ts : List Terminal} {vs : List VariableTree} → ReadsVariables h ts vs → (m n : ℕ) → h ≤ suc m → length ts < n → (done : List VariableTree) (j s : ℕ) (rest : List Terminal)
    → variables m n done j (ts ++ Punctuator s punctuators.Semicolon ∷ rest) ≡ Items (done ++ vs) (max j h) rest
unfolding variables
finds_variables (a_last_variable r) m zero le enough done j s rest = absurd (omega arith)
finds_variables (a_last_variable {h = h} {ts = ts} {v = v} r) m (suc n) le enough done j s rest = rw (finds_variable r m le (Punctuator s punctuators.Semicolon ∷ rest) (omega arith)) refl
finds_variables (a_variable at r q) m zero le enough done j s rest = absurd (omega arith)
finds_variables (a_variable {h = h} {k = k} {xs = xs} {ys = ys} {v = v} {vs = vs} at r q) m (suc n) le enough done j s rest =
    rw (append_assoc xs (Punctuator at punctuators.Comma ∷ ys) (Punctuator s punctuators.Semicolon ∷ rest), finds_variable r m (omega arith) (Punctuator at punctuators.Comma ∷ (ys ++ Punctuator s punctuators.Semicolon ∷ rest)) (omega arith))
    (finds_variables q m n (omega arith) (omega (arith, length-append xs (Punctuator at punctuators.Comma ∷ ys))) (done ++ v ∷ []) (max j h) s rest ∙ one_more done vs v j h k rest)

variable_positive : {h : ℕ} {ts : List Terminal} {v : VariableTree} → ReadsVariable h ts v → 0 < h
variable_positive (an_unset_variable r) = omega arith
variable_positive (a_set_variable at r s) = omega arith

variables_positive : {h : ℕ} {ts : List Terminal} {vs : List VariableTree} → ReadsVariables h ts vs → 0 < h
variables_positive (a_last_variable r) = variable_positive r
variables_positive (a_variable {h = h} {k = k} at r s) = let p = variable_positive r in omega arith

variable_no_type : {h : ℕ} {ts : List Terminal} {v : VariableTree} → ReadsVariable h ts v → (rest : List Terminal) → goes_on_type (ts ++ rest) ≡ false
variable_no_type (an_unset_variable r) rest = declarator_no_type r rest
variable_no_type (a_set_variable {xs = xs} {ys = ys} at r s) rest = rw (append_assoc xs (Punctuator at punctuators.Assign ∷ ys) rest) (declarator_no_type r (Punctuator at punctuators.Assign ∷ (ys ++ rest)))

pub variables_no_type : {h : ℕ} {ts : List Terminal} {vs : List VariableTree} → ReadsVariables h ts vs → (rest : List Terminal) → goes_on_type (ts ++ rest) ≡ false
variables_no_type (a_last_variable r) rest = variable_no_type r rest
variables_no_type (a_variable {xs = xs} {ys = ys} at r s) rest = rw (append_assoc xs (Punctuator at punctuators.Comma ∷ ys) rest) (variable_no_type r (Punctuator at punctuators.Comma ∷ (ys ++ rest)))

-- ---- declarations

-- all the variables, with the semicolon behind them
pub finds_all_variables : {h : ℕ} {ts : List Terminal} {vs : List VariableTree} → ReadsVariables h ts vs → (m : ℕ) → h ≤ suc m → (s : ℕ) (rest : List Terminal)
    → variables m (length (ts ++ Punctuator s punctuators.Semicolon ∷ rest)) [] 0 (ts ++ Punctuator s punctuators.Semicolon ∷ rest) ≡ Items vs h rest
finds_all_variables {h} {ts} {vs} r m le s rest = finds_variables r m (length (ts ++ Punctuator s punctuators.Semicolon ∷ rest)) le (omega (arith, length-append ts (Punctuator s punctuators.Semicolon ∷ rest))) [] 0 s rest ∙ ap (λ (k : ℕ). Items vs k rest) (from_zero h)

pub finds_declaration : {h : ℕ} {ts : List Terminal} {d : DeclarationTree} → ReadsDeclaration h ts d → (n : ℕ) → h ≤ n → (rest : List Terminal) → declaration_within n (ts ++ rest) ≡ Ok ((d, h), rest)
unfolding declaration_within declaration
finds_declaration (a_declaration s t r) zero le rest = let p = variables_positive r in absurd (omega arith)
finds_declaration (a_declaration {h = h} {xs = xs} {ys = ys} {base = b} {vs = vs} s t r) (suc m) le rest =
    rw (append_assoc xs (ys ++ Punctuator s punctuators.Semicolon ∷ []) rest, append_assoc ys (Punctuator s punctuators.Semicolon ∷ []) rest, finds_type t (ys ++ Punctuator s punctuators.Semicolon ∷ rest) (variables_no_type r (Punctuator s punctuators.Semicolon ∷ rest)), finds_all_variables r m le s rest) refl

pub declaration_begins : {h : ℕ} {ts : List Terminal} {d : DeclarationTree} → ReadsDeclaration h ts d → (rest : List Terminal) → begins_type (ts ++ rest) ≡ true
declaration_begins (a_declaration {xs = xs} {ys = ys} s t r) rest = rw (append_assoc xs (ys ++ Punctuator s punctuators.Semicolon ∷ []) rest) (type_begins t ((ys ++ Punctuator s punctuators.Semicolon ∷ []) ++ rest))
