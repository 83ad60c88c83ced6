-- What is read as a unit has that reading, and all of the tokens are read.
use Rattle.std.proofs.Common.{◌≡◌, ℕ, zero, suc, ◌+◌, ◌≤◌, max, List, [], ◌∷◌, ◌++◌, length, Ok, Err, Some, None, refl, sym, ap, subst, ◌∙◌, append_assoc, append-nil, add-one, Bool, true, false, cond, arith, ◌&&◌}
use Rattle.std.proofs.lemmas.Bool.{and_parts}
use Rattle.qs_syntax_vocabulary.specs.declared.terminal.Terminal.{Terminal}
use Rattle.qs_syntax_vocabulary.specs.declared.terminal.Terminal.TheVariants.{Name, Keyword, Punctuator}
use Rattle.qs_base.specs.declared.keyword.Keyword.TheVariants as keywords
use Rattle.qs_syntax_vocabulary.specs.declared.punctuator.Punctuator.TheVariants as punctuators
use Rattle.qs_syntax.specs.declared.types.Base.{Base}
use Rattle.qs_syntax_vocabulary.specs.Operators.{number_of}
use Rattle.qs_syntax.specs.Trees.{unnumbered, MembersTree, ParameterTree, DeclarationTree, StmtTree, stmts_of, DeclTree, structure, function, DefinedTree, of_struct, typedef, DeclaratorTree}
use Rattle.qs_syntax.specs.Trees as trees
use Rattle.qs_syntax.specs.ReadsTypes.{ReadsPrefixes, no_prefix, a_const_prefix, a_static_prefix, ReadsOuterType, an_outer_type, ReadsStars, Any, Plain, ReadsName}
use Rattle.qs_syntax.specs.Reads.{place}
use Rattle.qs_syntax.specs.ReadsDeclarations.{ReadsAllMembers, an_outer_declaration, ReadsDeclarator}
use Rattle.qs_syntax.specs.ReadsUnits.{ReadsPlain, ReadsExternal, a_struct_with_members, a_forward, a_header, a_definition, some_variables, ReadsUnit, a_last_external, an_external, a_plain_external, ReadsDefined, ReadsExternals, ReadsTypeNames, a_known_type, a_last_name, a_name_before, a_struct_with_tag, a_struct_without_tag, a_typedef, names_behind}
use Rattle.qs_parser_grammar.specs.Heads.{is_keyword, starts}
use Rattle.qs_parser_grammar.specs.Parse.{Stop, left_of, skip_consts, stars}
use Rattle.qs_parser_grammar.specs.ParseDeclarations.{skip_prefixes, outer_type, declarator}
use Rattle.qs_parser_grammar.specs.ParseStatements.{statement, is_named, struct_of, forward_of, body_of, function_of, typed, external, is_empty, externals, unit, has_members, known_type, struct_defined, type_names, typedef_of, plain, defined}
use Rattle.qs_parser_grammar.proofs.HeadsLaws.{keyword_is}
use Rattle.qs_parser_grammar.proofs.Sound.{Outcome, Sound, Sound-ok, Sound-err, at_end, Sound-after, Sound-mono}
use Rattle.qs_parser_grammar.proofs.SoundSteps.{Sound-if, Sound-ends}
use Rattle.qs_parser_grammar.proofs.TypesSound.{Taken, taken_consts, sound_base, StarsRead, stars_read, sound_type}
use Rattle.qs_parser_grammar.proofs.DeclarationsSteps.{Sound-behind, Sound-punctuator-next, Sound-name-next, Sound-part, Sound-part-is, Sound-last, Sound-plain-name}
use Rattle.qs_parser_grammar.proofs.DeclarationsLists.{Closed, Ends, all_closed}
use Rattle.qs_parser_grammar.proofs.DeclarationsSound.{IsDeclared, sound_declared, sound_declarator}
use Rattle.qs_parser_grammar.proofs.DeclarationsMembers.{sound_groups}
use Rattle.qs_parser_grammar.proofs.DeclarationsParameters.{first_place, IsHead, sound_head}
use Rattle.qs_parser_grammar.proofs.StatementsSound.{Sound-keyword, AllItems, AreItems, sound_items, takes_statement, sound_statement}
use Rattle.qs_syntax_vocabulary.specs.Marks.{NameSet, marked}
use Rattle.qs_parser_grammar.proofs.MarkLaws.{Sound-marks}

-- ---- types at file scope

prefix_if : (ts us vs : List Terminal) (b : Bool) → (b ≡ true → Taken ReadsPrefixes ts us) → (b ≡ false → Taken ReadsPrefixes ts vs) → Taken ReadsPrefixes ts (cond b us vs)
prefix_if ts us vs true f g = f refl
prefix_if ts us vs false f g = g refl

pub taken_prefixes : (ts : List Terminal) → Taken ReadsPrefixes ts (skip_prefixes ts)
taken_prefixes [] = record { front = []; split = refl; is = no_prefix }
taken_prefixes (t ∷ ts) =
    let further = taken_prefixes ts in
    prefix_if (t ∷ ts) (skip_prefixes ts) _ (is_keyword keywords.Const t)
    (λ e. record { front = t ∷ further.front; split = ap (λ l. t ∷ l) further.split; is = subst (λ u. ReadsPrefixes (u ∷ further.front)) (sym (keyword_is keywords.Const t e)) (a_const_prefix (number_of t) further.is) })
    (λ _. prefix_if (t ∷ ts) (skip_prefixes ts) (t ∷ ts) (is_keyword keywords.Static t)
    (λ e. record { front = t ∷ further.front; split = ap (λ l. t ∷ l) further.split; is = subst (λ u. ReadsPrefixes (u ∷ further.front)) (sym (keyword_is keywords.Static t e)) (a_static_prefix (number_of t) further.is) })
    (λ _. record { front = []; split = refl; is = no_prefix }))

abbrev pub IsOuterType : Base → List Terminal → Type 0
IsOuterType b l = ReadsOuterType l b

pub sound_outer_type : (ts : List Terminal) → Sound IsOuterType [] ts (outer_type ts)
unfolding outer_type
sound_outer_type ts =
    let before : Taken ReadsPrefixes ts (skip_prefixes ts) = taken_prefixes ts in
    Sound-after [] ts before.front (skip_prefixes ts) before.split _
    (Sound-behind (Sound-part _ (sound_base (skip_prefixes ts))
    (λ b front us r. let behind : Taken _ us (skip_consts us) = taken_consts us in
    Sound-ends [] us (skip_consts us) b behind.front behind.split (an_outer_type before.is r behind.is))))

pub outer_place : {l : List Terminal} {b : Base} → ReadsOuterType l b → (us : List Terminal) → place (l ++ us) ≡ place l
outer_place (an_outer_type {zs = zs} no_prefix b c) us = first_place b zs us
outer_place (an_outer_type (a_const_prefix at r) b c) us = refl
outer_place (an_outer_type (a_static_prefix at r) b c) us = refl

-- ---- externals

-- one that declares no type names
abbrev pub IsPlain : ℕ → DeclTree × ℕ → List Terminal → Type 0
IsPlain k x l = ReadsPlain x.1 l x.0 × (x.1 ≤ suc (suc k))

struct_read : (k at n o : ℕ) (t : Terminal) (name : List ℕ) → ReadsName Any t n name → (x : List MembersTree × ℕ) (l : List Terminal) → Closed punctuators.CloseBrace ReadsAllMembers (suc k) [] 0 x l → (s : ℕ)
    → IsPlain k (structure (record { node = unnumbered at; name = Some name; members = x.0 }), x.1 + 1) (Keyword at keywords.Struct ∷ t ∷ Punctuator o punctuators.OpenBrace ∷ (l ++ Punctuator s punctuators.Semicolon ∷ []))
struct_read k at n o t name is x l r s = go (all_closed punctuators.CloseBrace ReadsAllMembers (suc k) x l r)
  where
    go : Ends punctuators.CloseBrace ReadsAllMembers (suc k) x l
        → IsPlain k (structure (record { node = unnumbered at; name = Some name; members = x.0 }), x.1 + 1) (Keyword at keywords.Struct ∷ t ∷ Punctuator o punctuators.OpenBrace ∷ (l ++ Punctuator s punctuators.Semicolon ∷ []))
    go (inside, c, e, q, le) = (rw (e, append_assoc inside (Punctuator c punctuators.CloseBrace ∷ []) (Punctuator s punctuators.Semicolon ∷ []), add-one x.1) (a_struct_with_members at o c s is q), omega arith)

sound_struct : (k at : ℕ) (ts : List Terminal) → Sound (λ x l. IsPlain k x (Keyword at keywords.Struct ∷ l)) [] ts (struct_of k at ts)
sound_struct k at ts =
    Sound-name-next Any ts _ (λ t n x is us. Sound-punctuator-next punctuators.OpenBrace us _ (λ o vs. Sound-part _ (sound_groups k (length vs) [] 0 vs)
    (λ ms l ws r. Sound-punctuator-next punctuators.Semicolon ws _ (λ s xs. Sound-ok (struct_read k at n o t x is ms l r s)))))

sound_forward : (k at : ℕ) (ts : List Terminal) → Sound (λ x l. IsPlain k x (Keyword at keywords.Struct ∷ l)) [] ts (forward_of at ts)
sound_forward k at ts = Sound-name-next Any ts _ (λ t n x is us. Sound-punctuator-next punctuators.Semicolon us _ (λ s vs. Sound-ok (a_forward at s is, omega arith)))

module _ (k start : ℕ) (b : Base) (front : List Terminal) (t : ReadsOuterType front b) (same : start ≡ place front) where
  header_read : (m n o s : ℕ) (name : List ℕ) (ys : List Terminal) → ReadsStars ys m → (ps : List ParameterTree × ℕ) (l : List Terminal) → IsHead k ps l
      → IsPlain k (function (record { node = unnumbered start; result_type = record { base = b; stars = m }; name = name; parameters = ps.0; body = None }), ps.1 + 1) (front ++ (ys ++ Name n name ∷ Punctuator o punctuators.OpenParenthesis ∷ (l ++ Punctuator s punctuators.Semicolon ∷ [])))
  header_read m n o s name ys r ps l (inside, c, e, q, le) = (rw (e, append_assoc inside (Punctuator c punctuators.CloseParenthesis ∷ []) (Punctuator s punctuators.Semicolon ∷ []), same, add-one ps.1) (a_header n o c s name t r q), omega arith)

  definition_read : (m n o i : ℕ) (name : List ℕ) (ys : List Terminal) → ReadsStars ys m → (ps : List ParameterTree × ℕ) (l : List Terminal) → IsHead k ps l → (ss : List StmtTree × ℕ) (w : List Terminal) → AreItems k [] 0 ss w
      → IsPlain k (function (record { node = unnumbered start; result_type = record { base = b; stars = m }; name = name; parameters = ps.0; body = Some (stmts_of ss.0) }), max ps.1 (ss.1 + 1) + 1) (front ++ (ys ++ Name n name ∷ Punctuator o punctuators.OpenParenthesis ∷ (l ++ Punctuator i punctuators.OpenBrace ∷ w)))
  definition_read m n o i name ys r ps l (inside, c, e, q, le) ss w are = go (all_closed punctuators.CloseBrace AllItems k ss w are)
    where
      go : Ends punctuators.CloseBrace AllItems k ss w
          → IsPlain k (function (record { node = unnumbered start; result_type = record { base = b; stars = m }; name = name; parameters = ps.0; body = Some (stmts_of ss.0) }), max ps.1 (ss.1 + 1) + 1) (front ++ (ys ++ Name n name ∷ Punctuator o punctuators.OpenParenthesis ∷ (l ++ Punctuator i punctuators.OpenBrace ∷ w)))
      go (body, d, f, z, low) =
          (rw (e, f, append_assoc inside (Punctuator c punctuators.CloseParenthesis ∷ []) (Punctuator i punctuators.OpenBrace ∷ (body ++ Punctuator d punctuators.CloseBrace ∷ [])), same, add-one ss.1, add-one (max ps.1 (suc ss.1))) (a_definition n o c i d name t r q z), omega arith)

  variables_read : (d : DeclarationTree × ℕ) (l : List Terminal) → IsDeclared (k + 1) b d l → IsPlain k (trees.variables d.0, d.1) (front ++ l)
  variables_read d l (vs, e, (inside, s, f, r, le)) = (rw (e, f) (some_variables (an_outer_declaration s t r)), omega arith)

  sound_body : (m n o : ℕ) (name : List ℕ) (ys : List Terminal) → ReadsStars ys m → (ps : List ParameterTree × ℕ) (l : List Terminal) → IsHead k ps l → (ts : List Terminal)
      → Sound (λ x w. IsPlain k x (front ++ (ys ++ Name n name ∷ Punctuator o punctuators.OpenParenthesis ∷ (l ++ w)))) [] ts (body_of k start b m name ps ts)
  sound_body m n o name ys r ps l q ts =
      Sound-if (starts punctuators.Semicolon ts)
      (λ _. Sound-punctuator-next punctuators.Semicolon ts _ (λ s us. Sound-ok (header_read m n o s name ys r ps l q)))
      (λ _. Sound-punctuator-next punctuators.OpenBrace ts _ (λ i us. Sound-last _ (sound_items k (statement k) (λ vs. takes_statement k vs) (λ vs. sound_statement k vs) (length us) [] 0 us) (definition_read m n o i name ys r ps l q)))

  sound_function : (m : ℕ) (ys : List Terminal) → ReadsStars ys m → (ts : List Terminal) → Sound (λ x l. IsPlain k x (front ++ (ys ++ l))) [] ts (function_of k start b m ts)
  sound_function m ys r ts = Sound-plain-name ts _ (λ n x us. Sound-punctuator-next punctuators.OpenParenthesis us _ (λ o vs. Sound-part (body_of k start b m x) (sound_head k vs) (λ ps l ws q. sound_body m n o x ys r ps l q ws)))

  sound_typed : (ts : List Terminal) → Sound (λ x l. IsPlain k x (front ++ l)) [] ts (typed k start b ts)
  sound_typed ts =
      let first : StarsRead ts (stars ts) = stars_read ts in
      Sound-if (is_named Plain punctuators.OpenParenthesis (stars ts).1)
      (λ _. Sound-after [] ts first.front (stars ts).1 first.split _ (Sound-behind (sound_function (stars ts).0 first.front first.is (stars ts).1)))
      (λ _. Sound-last _ (sound_declared (k + 1) b ts) variables_read)

pub sound_plain : (k : ℕ) (ts : List Terminal) → Sound (IsPlain k) [] ts (plain k ts)
unfolding plain
sound_plain k [] = Sound-err at_end
sound_plain k (t ∷ ts) =
    Sound-if (is_keyword keywords.Struct t && is_named Any punctuators.OpenBrace ts)
    (λ e. Sound-keyword keywords.Struct t ts (and_parts _ _ e).0 (sound_struct k (number_of t) ts))
    (λ _. Sound-if (is_keyword keywords.Struct t && is_named Any punctuators.Semicolon ts)
    (λ e. Sound-keyword keywords.Struct t ts (and_parts _ _ e).0 (sound_forward k (number_of t) ts))
    (λ _. Sound-part-is (typed k (number_of t)) (sound_outer_type (t ∷ ts)) (λ b front us is split r. sound_typed k (number_of t) b front r (ap place split ∙ outer_place r us) us)))

-- ---- what a typedef gives names to

abbrev pub IsDefined : ℕ → DefinedTree × ℕ → List Terminal → Type 0
IsDefined k x l = ReadsDefined x.1 l x.0 × (x.1 ≤ suc (suc k))

tag_read : (k at n o : ℕ) (t : Terminal) (name : List ℕ) → ReadsName Any t n name → (x : List MembersTree × ℕ) (l : List Terminal) → Closed punctuators.CloseBrace ReadsAllMembers (suc k) [] 0 x l
    → IsDefined k (of_struct (record { node = unnumbered at; name = Some name; members = x.0 }), x.1 + 1) (Keyword at keywords.Struct ∷ t ∷ Punctuator o punctuators.OpenBrace ∷ l)
tag_read k at n o t name is x l r = go (all_closed punctuators.CloseBrace ReadsAllMembers (suc k) x l r)
  where
    go : Ends punctuators.CloseBrace ReadsAllMembers (suc k) x l → IsDefined k (of_struct (record { node = unnumbered at; name = Some name; members = x.0 }), x.1 + 1) (Keyword at keywords.Struct ∷ t ∷ Punctuator o punctuators.OpenBrace ∷ l)
    go (inside, c, e, q, le) = (rw (e, add-one x.1) (a_struct_with_tag at o c is q), omega arith)

no_tag_read : (k at o : ℕ) (x : List MembersTree × ℕ) (l : List Terminal) → Closed punctuators.CloseBrace ReadsAllMembers (suc k) [] 0 x l
    → IsDefined k (of_struct (record { node = unnumbered at; name = None; members = x.0 }), x.1 + 1) (Keyword at keywords.Struct ∷ Punctuator o punctuators.OpenBrace ∷ l)
no_tag_read k at o x l r = go (all_closed punctuators.CloseBrace ReadsAllMembers (suc k) x l r)
  where
    go : Ends punctuators.CloseBrace ReadsAllMembers (suc k) x l → IsDefined k (of_struct (record { node = unnumbered at; name = None; members = x.0 }), x.1 + 1) (Keyword at keywords.Struct ∷ Punctuator o punctuators.OpenBrace ∷ l)
    go (inside, c, e, q, le) = (rw (e, add-one x.1) (a_struct_without_tag at o c q), omega arith)

sound_struct_defined : (k at : ℕ) (ts : List Terminal) → Sound (λ x l. IsDefined k x (Keyword at keywords.Struct ∷ l)) [] ts (struct_defined k at ts)
sound_struct_defined k at ts =
    Sound-if (starts punctuators.OpenBrace ts)
    (λ _. Sound-punctuator-next punctuators.OpenBrace ts _ (λ o us. Sound-last _ (sound_groups k (length us) [] 0 us) (no_tag_read k at o)))
    (λ _. Sound-name-next Any ts _ (λ t n x is us. Sound-punctuator-next punctuators.OpenBrace us _ (λ o vs. Sound-last _ (sound_groups k (length vs) [] 0 vs) (tag_read k at n o t x is))))

sound_known_type : (k : ℕ) (ts : List Terminal) → Sound (IsDefined k) [] ts (known_type ts)
sound_known_type k ts = Sound-last _ (sound_type ts) (λ b l r. (a_known_type r, omega arith))

pub sound_defined : (k : ℕ) (ts : List Terminal) → Sound (IsDefined k) [] ts (defined k ts)
unfolding defined
sound_defined k [] = Sound-err at_end
sound_defined k (t ∷ ts) =
    Sound-if (is_keyword keywords.Struct t && has_members ts)
    (λ e. Sound-keyword keywords.Struct t ts (and_parts _ _ e).0 (sound_struct_defined k (number_of t) ts)) (λ _. sound_known_type k (t ∷ ts))

-- ---- names of types

-- such names behind those that are done, with the semicolon at their end
abbrev AreTypeNames : ℕ → NameSet → List DeclaratorTree → ℕ → List DeclaratorTree × ℕ → List Terminal → Type 0
AreTypeNames m set done h x l = Closed punctuators.Semicolon (ReadsTypeNames set) (suc m) done h x l

abbrev IsTypeName : ℕ → NameSet → DeclaratorTree × ℕ → List Terminal → Type 0
IsTypeName m set d l = ReadsDeclarator Any d.1 (marked set l) d.0 × (d.1 ≤ m)

last_name : (m : ℕ) (set : NameSet) (done : List DeclaratorTree) (h : ℕ) (d : DeclaratorTree × ℕ) (front : List Terminal) (s : ℕ) → IsTypeName m set d front
    → AreTypeNames m set done h (done ++ d.0 ∷ [], max h (d.1 + 1)) (front ++ Punctuator s punctuators.Semicolon ∷ [])
last_name m set done h d front s (r, le) = (d.0 ∷ [], suc d.1, front, s, refl, omega arith, refl, a_last_name r, omega arith)

further_name : (m : ℕ) (set : NameSet) (done : List DeclaratorTree) (h : ℕ) (d : DeclaratorTree × ℕ) (front : List Terminal) (at : ℕ) → IsTypeName m set d front
    → (y : List DeclaratorTree × ℕ) (l : List Terminal) → AreTypeNames m (d.0.name ∷ set) (done ++ d.0 ∷ []) (max h (d.1 + 1)) y l → AreTypeNames m set done h y (front ++ Punctuator at punctuators.Comma ∷ l)
further_name m set done h d front at (r, le) y l (items, k, inside, s, p, q, e, is, low) = (
  d.0 ∷ items,
  max (suc d.1) k,
  front ++ Punctuator at punctuators.Comma ∷ inside,
  s,
  p ∙ append_assoc done (d.0 ∷ []) items,
  omega arith,
  ap (λ l. front ++ Punctuator at punctuators.Comma ∷ l) e ∙ sym (append_assoc front (Punctuator at punctuators.Comma ∷ inside) (Punctuator s punctuators.Semicolon ∷ [])),
  a_name_before front at r is,
  omega arith,
)

sound_type_names : (m : ℕ) (set : NameSet) (n : ℕ) (done : List DeclaratorTree) (h : ℕ) (ts : List Terminal) → Sound (AreTypeNames m set done h) [] ts (type_names m set n done h ts)
unfolding type_names
sound_type_names m set zero done h ts = Sound-err at_end
sound_type_names m set (suc n) done h ts =
    Sound-part _ (Sound-marks set (declarator Any m) ts (sound_declarator Any m (marked set ts)))
    (λ d front us r. Sound-if (starts punctuators.Semicolon us)
    (λ _. Sound-punctuator-next punctuators.Semicolon us _ (λ s vs. Sound-ok (last_name m set done h d front s r)))
    (λ _. Sound-punctuator-next punctuators.Comma us _
    (λ at vs. Sound-mono (further_name m set done h d front at r) (sound_type_names m (d.0.name ∷ set) n (done ++ d.0 ∷ []) (max h (d.1 + 1)) vs))))

-- ---- externals

abbrev pub IsExternal : ℕ → NameSet → DeclTree × ℕ → List Terminal → Type 0
IsExternal k set x l = ReadsExternal set x.1 l x.0 × (x.1 ≤ suc (suc k))

typedef_read : (k : ℕ) (set : NameSet) (at : ℕ) (t : DefinedTree × ℕ) (front : List Terminal) → IsDefined k t (marked set front) → (ds : List DeclaratorTree × ℕ) (l : List Terminal) → AreTypeNames (k + 1) set [] 0 ds l
    → IsExternal k set (trees.typedef (record { defined = t.0; names = ds.0 }), max t.1 ds.1) (Keyword at keywords.Typedef ∷ (front ++ l))
typedef_read k set at t front (r, le) ds l are = go (all_closed punctuators.Semicolon (ReadsTypeNames set) (suc (k + 1)) ds l are)
  where
    go : Ends punctuators.Semicolon (ReadsTypeNames set) (suc (k + 1)) ds l → IsExternal k set (trees.typedef (record { defined = t.0; names = ds.0 }), max t.1 ds.1) (Keyword at keywords.Typedef ∷ (front ++ l))
    go (inside, s, e, q, low) = (rw e (a_typedef front at s r q), omega arith)

sound_typedef : (k : ℕ) (set : NameSet) (at : ℕ) (ts : List Terminal) → Sound (λ x l. IsExternal k set x (Keyword at keywords.Typedef ∷ l)) [] ts (typedef_of k set ts)
sound_typedef k set at ts =
    Sound-part _ (Sound-marks set (defined k) ts (sound_defined k (marked set ts)))
    (λ t front us r. Sound-last _ (sound_type_names (k + 1) set (length us) [] 0 us) (typedef_read k set at t front r))

pub sound_external : (k : ℕ) (set : NameSet) (ts : List Terminal) → Sound (IsExternal k set) [] ts (external k set ts)
unfolding external
sound_external k set [] = Sound-err at_end
sound_external k set (t ∷ ts) =
    Sound-if (is_keyword keywords.Typedef t) (λ e. Sound-keyword keywords.Typedef t ts e (sound_typedef k set (number_of t) ts))
    (λ _. Sound-mono (λ x l r. (a_plain_external r.0, r.1)) (Sound-marks set (plain k) (t ∷ ts) (sound_plain k (marked set (t ∷ ts)))))

-- ---- units

-- externals behind those that are done
abbrev AreExternals : ℕ → NameSet → List DeclTree → ℕ → List DeclTree × ℕ → List Terminal → Type 0
AreExternals k set done h x l = (ds : List DeclTree) × (j : ℕ) × (x.0 ≡ done ++ ds) × (x.1 ≡ max h j) × ReadsExternals set j l ds × (j ≤ suc (suc k))

last_external : (k : ℕ) (set : NameSet) (done : List DeclTree) (h : ℕ) (d : DeclTree × ℕ) (front : List Terminal) → IsExternal k set d front → AreExternals k set done h (done ++ d.0 ∷ [], max h d.1) (front ++ [])
last_external k set done h d front (r, le) = (d.0 ∷ [], d.1, refl, refl, rw (append-nil front) (a_last_external r), le)

further_external : (k : ℕ) (set : NameSet) (done : List DeclTree) (h : ℕ) (d : DeclTree × ℕ) (front : List Terminal) → IsExternal k set d front
    → (y : List DeclTree × ℕ) (l : List Terminal) → AreExternals k (names_behind set d.0) (done ++ d.0 ∷ []) (max h d.1) y l → AreExternals k set done h y (front ++ l)
further_external k set done h d front (r, le) y l (ds, j, p, q, s, low) = (d.0 ∷ ds, max d.1 j, p ∙ append_assoc done (d.0 ∷ []) ds, omega arith, an_external r s, omega arith)

sound_externals : (k : ℕ) (set : NameSet) (n : ℕ) (done : List DeclTree) (h : ℕ) (ts : List Terminal) → Sound (AreExternals k set done h) [] ts (externals k set n done h ts)
unfolding externals
sound_externals k set zero done h ts = Sound-err at_end
sound_externals k set (suc n) done h ts =
    Sound-part _ (sound_external k set ts)
    (λ d front us r. Sound-if (is_empty us) (λ _. Sound-ok (last_external k set done h d front r)) (λ _. Sound-mono (further_external k set done h d front r) (sound_externals k (names_behind set d.0) n (done ++ d.0 ∷ []) (max h d.1) us)))

abbrev pub IsUnit : ℕ → List DeclTree × ℕ → List Terminal → Type 0
IsUnit k x l = ReadsUnit x.1 l x.0 × (x.1 ≤ suc (suc k))

unit_read : (k : ℕ) (x : List DeclTree × ℕ) (l : List Terminal) → AreExternals k [] [] 0 x l → IsUnit k x l
unit_read k x l (ds, j, p, q, r, low) = let same : x.1 ≡ j = omega arith in (rw (same, p) r, omega arith)

pub sound_unit : (k : ℕ) (ts : List Terminal) → Sound (IsUnit k) [] ts (unit k ts)
unfolding unit
sound_unit k ts = Sound-mono (unit_read k) (sound_externals k [] (length ts) [] 0 ts)

-- a fault stands at one of the tokens or at their end
pub stops_within : (ts : List Terminal) (stop : Stop) → unit 126 ts ≡ Err stop → left_of stop ≤ length ts
stops_within ts stop e = rw e at (sound_unit 126 ts).is

-- what is read as a whole unit, with 128 levels, has that reading
pub reads_whole : (ts : List Terminal) (ds : List DeclTree) (h : ℕ) → unit 126 ts ≡ Ok ((ds, h), []) → ReadsUnit h ts ds × (h ≤ 128)
reads_whole ts ds h e = go (rw e at (sound_unit 126 ts).is)
  where
    go : Outcome (IsUnit 126) [] ts (Ok ((ds, h), [])) → ReadsUnit h ts ds × (h ≤ 128)
    go (front, split, (r, le)) = (rw (split, append-nil front) r, le)
