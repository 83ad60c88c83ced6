-- How tokens are read as declarations (C11 6.7): one constructor for each production. The heights of nodes are as in expressions; what
-- is no node (brackets, a declaration as such, a group of members) is as high as its highest part, and 0 without parts. A variable,
-- member or parameter with a name stands at the name.
use Rattle.std.specs.Prelude.{◌≡◌, ℕ, suc, max, List, [], ◌∷◌, ◌++◌, true, false, Some, None}
use Rattle.qs_syntax_vocabulary.specs.declared.terminal.Terminal.{Terminal}
use Rattle.qs_syntax_vocabulary.specs.declared.terminal.Terminal.TheVariants.{Name, Keyword, Punctuator}
use Rattle.qs_base.specs.declared.keyword.Keyword.TheVariants as keywords
use Rattle.qs_syntax_vocabulary.specs.declared.punctuator.Punctuator.TheVariants as punctuators
use Rattle.qs_syntax.specs.declared.types.Base.{Base}
use Rattle.qs_syntax.specs.Trees.{unnumbered, ExprTree, LengthsTree, DeclaratorTree, InitialiserTree, value, list, Initialisers, no_initialisers, initialiser_and, VariableTree, DeclarationTree, ParameterTree, MembersTree}
use Rattle.qs_syntax.specs.ReadsTypes.{Names, Plain, Any, ReadsName, ReadsType, ReadsOuterType, ReadsStars}
use Rattle.qs_syntax.specs.Reads.{Reads, Conditional, Assignment, place}

-- { "[" conditional "]" }
pub data ReadsGiven : ℕ → List Terminal → List ExprTree → Type 0 where
  no_length : ReadsGiven 0 [] []
  a_length : {h k : ℕ} {xs ys : List Terminal} {e : ExprTree} {es : List ExprTree} (o c : ℕ) → Reads Conditional h xs e → ReadsGiven k ys es
      → ReadsGiven (max h k) (Punctuator o punctuators.OpenBracket ∷ (xs ++ Punctuator c punctuators.CloseBracket ∷ ys)) (e ∷ es)

-- dims = [ "[" [ conditional ] "]" { "[" conditional "]" } ]
pub data ReadsLengths : ℕ → List Terminal → LengthsTree → Type 0 where
  are_given : {h : ℕ} {ts : List Terminal} {es : List ExprTree} → ReadsGiven h ts es → ReadsLengths h ts (record { is_open = false; given = es })
  first_open : {h : ℕ} {ts : List Terminal} {es : List ExprTree} (o c : ℕ) → ReadsGiven h ts es
      → ReadsLengths h (Punctuator o punctuators.OpenBracket ∷ Punctuator c punctuators.CloseBracket ∷ ts) (record { is_open = true; given = es })

-- declarator = stars NAME dims, where the name may be a type's or not; the height of its highest part
pub data ReadsDeclarator : Names → ℕ → List Terminal → DeclaratorTree → Type 0 where
  a_declarator : {names : Names} {h n at : ℕ} {xs ys : List Terminal} {t : Terminal} {x : List ℕ} {lengths : LengthsTree} → ReadsStars xs n → ReadsName names t at x → ReadsLengths h ys lengths
      → ReadsDeclarator names h (xs ++ t ∷ ys) (record { node = unnumbered at; stars = n; name = x; lengths = lengths })

-- initialiser = assignment | "{" initialiser { "," initialiser } [ "," ] "}"
mutual
  pub data ReadsInitialiser : ℕ → List Terminal → InitialiserTree → Type 0 where
    a_value : {h : ℕ} {ts : List Terminal} {e : ExprTree} → Reads Assignment h ts e → ReadsInitialiser h ts (value e)
    a_list : {h : ℕ} {ts : List Terminal} {is : Initialisers} (o c : ℕ) → ReadsInitialisers h ts is
        → ReadsInitialiser (suc h) (Punctuator o punctuators.OpenBrace ∷ (ts ++ Punctuator c punctuators.CloseBrace ∷ [])) (list (unnumbered o) is)

  pub data ReadsInitialisers : ℕ → List Terminal → Initialisers → Type 0 where
    a_last_initialiser : {h : ℕ} {ts : List Terminal} {i : InitialiserTree} → ReadsInitialiser h ts i → ReadsInitialisers h ts (initialiser_and i no_initialisers)
    a_last_with_comma : {h : ℕ} {ts : List Terminal} {i : InitialiserTree} (at : ℕ) → ReadsInitialiser h ts i → ReadsInitialisers h (ts ++ Punctuator at punctuators.Comma ∷ []) (initialiser_and i no_initialisers)
    an_initialiser : {h k : ℕ} {xs ys : List Terminal} {i : InitialiserTree} {is : Initialisers} (at : ℕ) → ReadsInitialiser h xs i → ReadsInitialisers k ys is
        → ReadsInitialisers (max h k) (xs ++ Punctuator at punctuators.Comma ∷ ys) (initialiser_and i is)

-- init = declarator [ "=" initialiser ]
pub data ReadsVariable : ℕ → List Terminal → VariableTree → Type 0 where
  an_unset_variable : {h : ℕ} {ts : List Terminal} {d : DeclaratorTree} → ReadsDeclarator Plain h ts d → ReadsVariable (suc h) ts (record { declarator = d; initialiser = None })
  a_set_variable : {h k : ℕ} {xs ys : List Terminal} {d : DeclaratorTree} {i : InitialiserTree} (at : ℕ) → ReadsDeclarator Plain h xs d → ReadsInitialiser k ys i
      → ReadsVariable (suc (max h k)) (xs ++ Punctuator at punctuators.Assign ∷ ys) (record { declarator = d; initialiser = Some i })

-- init { "," init }
pub data ReadsVariables : ℕ → List Terminal → List VariableTree → Type 0 where
  a_last_variable : {h : ℕ} {ts : List Terminal} {v : VariableTree} → ReadsVariable h ts v → ReadsVariables h ts (v ∷ [])
  a_variable : {h k : ℕ} {xs ys : List Terminal} {v : VariableTree} {vs : List VariableTree} (at : ℕ) → ReadsVariable h xs v → ReadsVariables k ys vs
      → ReadsVariables (max h k) (xs ++ Punctuator at punctuators.Comma ∷ ys) (v ∷ vs)

-- declaration = lspec init { "," init } ";"
pub data ReadsDeclaration : ℕ → List Terminal → DeclarationTree → Type 0 where
  a_declaration : {h : ℕ} {xs ys : List Terminal} {base : Base} {vs : List VariableTree} (s : ℕ) → ReadsType xs base → ReadsVariables h ys vs
      → ReadsDeclaration h (xs ++ (ys ++ Punctuator s punctuators.Semicolon ∷ [])) (record { base = base; variables = vs })

-- at file scope: spec init { "," init } ";"
pub data ReadsOuterDeclaration : ℕ → List Terminal → DeclarationTree → Type 0 where
  an_outer_declaration : {h : ℕ} {xs ys : List Terminal} {base : Base} {vs : List VariableTree} (s : ℕ) → ReadsOuterType xs base → ReadsVariables h ys vs
      → ReadsOuterDeclaration h (xs ++ (ys ++ Punctuator s punctuators.Semicolon ∷ [])) (record { base = base; variables = vs })

-- mname { "," mname }, where mname = stars ANYNAME dims; each is a node
pub data ReadsDeclarators : ℕ → List Terminal → List DeclaratorTree → Type 0 where
  a_last_member : {h : ℕ} {ts : List Terminal} {d : DeclaratorTree} → ReadsDeclarator Any h ts d → ReadsDeclarators (suc h) ts (d ∷ [])
  a_member : {h k : ℕ} {xs ys : List Terminal} {d : DeclaratorTree} {ds : List DeclaratorTree} (at : ℕ) → ReadsDeclarator Any h xs d → ReadsDeclarators k ys ds
      → ReadsDeclarators (max (suc h) k) (xs ++ Punctuator at punctuators.Comma ∷ ys) (d ∷ ds)

-- member = lspec mname { "," mname } ";"
pub data ReadsMembers : ℕ → List Terminal → MembersTree → Type 0 where
  a_group : {h : ℕ} {xs ys : List Terminal} {base : Base} {ds : List DeclaratorTree} (s : ℕ) → ReadsType xs base → ReadsDeclarators h ys ds
      → ReadsMembers h (xs ++ (ys ++ Punctuator s punctuators.Semicolon ∷ [])) (record { base = base; declarators = ds })

-- member { member }
pub data ReadsAllMembers : ℕ → List Terminal → List MembersTree → Type 0 where
  a_last_group : {h : ℕ} {ts : List Terminal} {m : MembersTree} → ReadsMembers h ts m → ReadsAllMembers h ts (m ∷ [])
  a_further_group : {h k : ℕ} {xs ys : List Terminal} {m : MembersTree} {ms : List MembersTree} → ReadsMembers h xs m → ReadsAllMembers k ys ms
      → ReadsAllMembers (max h k) (xs ++ ys) (m ∷ ms)

-- param = lspec stars [ NAME ] dims, but not the single token `void`
pub data ReadsParameter : ℕ → List Terminal → ParameterTree → Type 0 where
  a_named_parameter : {h n : ℕ} {xs ys zs : List Terminal} {base : Base} {lengths : LengthsTree} (at : ℕ) (x : List ℕ) → ReadsType xs base → ReadsStars ys n → ReadsLengths h zs lengths
      → ReadsParameter (suc h) (xs ++ (ys ++ Name at x ∷ zs)) (record { node = unnumbered at; type_name = record { base = base; stars = n }; name = Some x; lengths = lengths })
  an_unnamed_parameter : {h n : ℕ} {xs ys zs : List Terminal} {base : Base} {lengths : LengthsTree} → ReadsType xs base → ReadsStars ys n → ReadsLengths h zs lengths
      → ((at : ℕ) → xs ++ (ys ++ zs) ≡ Keyword at keywords.Void ∷ [] → ⊥)
      → ReadsParameter (suc h) (xs ++ (ys ++ zs)) (record { node = unnumbered (place xs); type_name = record { base = base; stars = n }; name = None; lengths = lengths })

-- param { "," param }
pub data ReadsParameters : ℕ → List Terminal → List ParameterTree → Type 0 where
  a_last_parameter : {h : ℕ} {ts : List Terminal} {p : ParameterTree} → ReadsParameter h ts p → ReadsParameters h ts (p ∷ [])
  a_parameter : {h k : ℕ} {xs ys : List Terminal} {p : ParameterTree} {ps : List ParameterTree} (at : ℕ) → ReadsParameter h xs p → ReadsParameters k ys ps
      → ReadsParameters (max h k) (xs ++ Punctuator at punctuators.Comma ∷ ys) (p ∷ ps)

-- params = [ "void" | param { "," param } ]
pub data ReadsHead : ℕ → List Terminal → List ParameterTree → Type 0 where
  no_parameter : ReadsHead 0 [] []
  a_void_head : (at : ℕ) → ReadsHead 0 (Keyword at keywords.Void ∷ []) []
  some_parameters : {h : ℕ} {ts : List Terminal} {ps : List ParameterTree} → ReadsParameters h ts ps → ReadsHead h ts ps
