-- The readers that mark names as they go read what the grammar's readers do, which are given the set: where these leave tokens without
-- marks, those leave the same tokens, marked by the set that there is then.
use Rattle.std.proofs.Common.{◌≡◌, ℕ, zero, suc, ◌+◌, ◌-◌, max, Bool, true, false, cond, List, [], ◌∷◌, ◌++◌, length, drop, Result, Ok, Err, refl, sym, ap, subst, ◌∙◌, append_assoc}
use Rattle.std.specs.Prelude.{bytes_eq, ◌||◌}
use Rattle.qs_base.specs.declared.keyword.Keyword.TheVariants as keywords
use Rattle.qs_syntax_vocabulary.specs.declared.terminal.Terminal.{Terminal}
use Rattle.qs_syntax_vocabulary.specs.declared.terminal.Terminal.TheVariants.{Name, TypeName, Keyword, Constant, Text, Punctuator}
use Rattle.qs_syntax_vocabulary.specs.declared.punctuator.Punctuator as punctuator
use Rattle.qs_syntax_vocabulary.specs.declared.punctuator.Punctuator.TheVariants as punctuators
use Rattle.qs_syntax_vocabulary.specs.Marks.{NameSet, is_in, mark, marked}
use Rattle.qs_syntax.specs.ReadsTypes.{Any}
use Rattle.qs_syntax.specs.ReadsUnits.{with_names, names_behind}
use Rattle.qs_syntax.specs.Trees.{DeclaratorTree, DefinedTree, DeclTree, typedef}
use Rattle.qs_parser_grammar.specs.Heads.{is_punctuator, is_keyword, starts}
use Rattle.qs_parser_grammar.specs.Parse.{Parse, Stop, Unexpected, read_on, unexpected}
use Rattle.qs_parser_grammar.specs.ParseDeclarations.{declarator, after_member}
use Rattle.qs_parser_grammar.specs.ParseStatements as grammar
use Rattle.qs_parser_grammar.specs.ParseStatements.{in_marks, plain, defined, is_empty, unit}
use Rattle.qs_parser_grammar.proofs.Sound.{Outcome, Sound}
use Rattle.qs_parser_grammar.proofs.MarkLaws.{as_many, mark_keyword, Split, split, rest_is}
use Rattle.qs_parser_grammar.proofs.NameMarks.{plain_names}
use Rattle.qs_parser_grammar.proofs.DeclarationsSound.{sound_declarator}
use Rattle.qs_parser_grammar.proofs.UnitsSound.{IsPlain, sound_plain, sound_defined}
use Rattle.qs_parser_grammar.specs.ParseMarked.{also, marked_also, type_names, typedef_of, external, externals}

-- ---- marks

also_named : (set : NameSet) (x : List ℕ) (at : ℕ) (y : List ℕ) (b c : Bool) → bytes_eq y x ≡ b → is_in set y ≡ c → also x (cond c (TypeName at y) (Name at y)) ≡ cond (b || c) (TypeName at y) (Name at y)
also_named set x at y true true e f = refl
also_named set x at y true false e f = rw e refl
also_named set x at y false true e f = refl
also_named set x at y false false e f = rw e refl

also_mark : (set : NameSet) (x : List ℕ) (t : Terminal) → also x (mark set t) ≡ mark (x ∷ set) t
also_mark set x (Name at y) = also_named set x at y (bytes_eq y x) (is_in set y) refl refl
also_mark set x (TypeName at y) = also_named set x at y (bytes_eq y x) (is_in set y) refl refl
also_mark set x (Keyword at k) = refl
also_mark set x (Constant at n unsigned) = refl
also_mark set x (Text at bytes) = refl
also_mark set x (Punctuator at m) = refl

-- marked by the set and by a further name
also_marked : (set : NameSet) (x : List ℕ) (ts : List Terminal) → marked_also x (marked set ts) ≡ marked (x ∷ set) ts
also_marked set x [] = refl
also_marked set x (t ∷ ts) = λ i. also_mark set x t i ∷ also_marked set x ts i

mark_punctuator : (set : NameSet) (m : punctuator.Punctuator) (t : Terminal) → is_punctuator m (mark set t) ≡ is_punctuator m t
mark_punctuator set m (Name at x) = by_case (is_in set x)
  where
    by_case : (b : Bool) → is_punctuator m (cond b (TypeName at x) (Name at x)) ≡ false
    by_case true = refl
    by_case false = refl
mark_punctuator set m (TypeName at x) = by_case (is_in set x)
  where
    by_case : (b : Bool) → is_punctuator m (cond b (TypeName at x) (Name at x)) ≡ false
    by_case true = refl
    by_case false = refl
mark_punctuator set m (Keyword at k) = refl
mark_punctuator set m (Constant at n unsigned) = refl
mark_punctuator set m (Text at bytes) = refl
mark_punctuator set m (Punctuator at n) = refl

starts_marked : (set : NameSet) (m : punctuator.Punctuator) (ts : List Terminal) → starts m (marked set ts) ≡ starts m ts
starts_marked set m [] = refl
starts_marked set m (t ∷ ts) = mark_punctuator set m t

-- ---- answers with marks

-- the second is the first, with marks
abbrev Tied : {A : Type 0} → (A → NameSet) → Result (A × List Terminal) Stop → Result (A × List Terminal) Stop → Type 0
Tied set (Ok x) s = s ≡ Ok (x.0, marked (set x.0) x.1)
Tied set (Err e) s = s ≡ Err e

-- what is read where the names are marked
tied_marks : {A : Type 0} {R : A → List Terminal → Type 0} (set : NameSet) (p : Parse A) (ts : List Terminal) → Sound R [] (marked set ts) (p (marked set ts)) → Tied (λ _. set) (in_marks set p ts) (p (marked set ts))
tied_marks {A} {R} set p ts s = by_case (p (marked set ts)) s.is
  where
    by_case : (r : Result (A × List Terminal) Stop) → Outcome R [] (marked set ts) r → Tied (λ _. set) (read_on r (λ x us. Ok (x, drop (length ts - length us) ts))) r
    by_case (Ok x) (front, e, h) = let s : Split set ts front x.1 = split set ts front x.1 e in ap (λ (l : List Terminal). Ok (x.0, l)) (sym s.marks_after ∙ ap (marked set) (sym (rest_is set ts front x.1 s)))
    by_case (Err e) h = refl

-- ---- names of types

-- the same of names behind these, which are added to the set
abbrev NamesTied : NameSet → List DeclaratorTree → Result ((List DeclaratorTree × ℕ) × List Terminal) Stop → Result ((List DeclaratorTree × ℕ) × List Terminal) Stop → Type 0
NamesTied set done (Ok x) s = (new : List DeclaratorTree) × (x.0.0 ≡ done ++ new) × (s ≡ Ok (x.0, marked (with_names set new) x.1))
NamesTied set done (Err e) s = s ≡ Err e

one_before : (set : NameSet) (done : List DeclaratorTree) (d : DeclaratorTree) (r s : Result ((List DeclaratorTree × ℕ) × List Terminal) Stop) → NamesTied (d.name ∷ set) (done ++ d ∷ []) r s → NamesTied set done r s
one_before set done d (Ok x) s (new, e, is) = (d ∷ new, e ∙ append_assoc done (d ∷ []) new, is)
one_before set done d (Err e) s is = is

-- behind a name
after_tied : (m : ℕ) (set : NameSet) (n : ℕ) (done : List DeclaratorTree) (h : ℕ) (d : DeclaratorTree)
    → ((us : List Terminal) → NamesTied (d.name ∷ set) (done ++ d ∷ []) (grammar.type_names m (d.name ∷ set) n (done ++ d ∷ []) h us) (type_names m n (done ++ d ∷ []) h (marked (d.name ∷ set) us)))
    → (us : List Terminal) → NamesTied set done (after_member (grammar.type_names m (d.name ∷ set) n) (done ++ d ∷ []) h us) (after_member (type_names m n) (done ++ d ∷ []) h (marked (d.name ∷ set) us))
after_tied m set n done h d again [] = refl
after_tied m set n done h d again (u ∷ us) =
    by_case (is_punctuator punctuators.Semicolon u) (is_punctuator punctuators.Semicolon (mark (d.name ∷ set) u)) (is_punctuator punctuators.Comma u) (is_punctuator punctuators.Comma (mark (d.name ∷ set) u))
    (mark_punctuator (d.name ∷ set) punctuators.Semicolon u) (mark_punctuator (d.name ∷ set) punctuators.Comma u)
  where
    by_case : (a b e f : Bool) → b ≡ a → f ≡ e
        → NamesTied set done
        (cond a (read_on (cond a (Ok (tt {0}, us)) (unexpected (u ∷ us))) (λ _ vs. Ok ((done ++ d ∷ [], h), vs))) (read_on (cond e (Ok (tt {0}, us)) (unexpected (u ∷ us))) (λ _ vs. grammar.type_names m (d.name ∷ set) n (done ++ d ∷ []) h vs)))
        (cond b (read_on (cond b (Ok (tt {0}, marked (d.name ∷ set) us)) (unexpected (marked (d.name ∷ set) (u ∷ us)))) (λ _ vs. Ok ((done ++ d ∷ [], h), vs)))
        (read_on (cond f (Ok (tt {0}, marked (d.name ∷ set) us)) (unexpected (marked (d.name ∷ set) (u ∷ us)))) (λ _ vs. type_names m n (done ++ d ∷ []) h vs)))
    by_case true true e f p q = (d ∷ [], refl, refl)
    by_case false false true true p q = one_before set done d _ _ (again us)
    by_case false false false false p q = ap (λ (n : ℕ). Err (Unexpected (suc n))) (as_many (d.name ∷ set) us)
    by_case true false e f p q = absurd cc
    by_case false true e f p q = absurd cc
    by_case false false true false p q = absurd cc
    by_case false false false true p q = absurd cc

names_tied : (m : ℕ) (set : NameSet) (n : ℕ) (done : List DeclaratorTree) (h : ℕ) (ts : List Terminal) → NamesTied set done (grammar.type_names m set n done h ts) (type_names m n done h (marked set ts))
unfolding grammar.type_names type_names
names_tied m set zero done h ts = ap (λ (n : ℕ). Err (Unexpected n)) (as_many set ts)
names_tied m set (suc n) done h ts =
    by_case (in_marks set (declarator Any m) ts) (declarator Any m (marked set ts)) (tied_marks set (declarator Any m) ts (sound_declarator Any m (marked set ts))) (λ d us. names_tied m (d.0.name ∷ set) n (done ++ d.0 ∷ []) (max h (d.1 + 1)) us)
  where
    by_case : (r s : Result ((DeclaratorTree × ℕ) × List Terminal) Stop) → Tied (λ _. set) r s
        → ((d : DeclaratorTree × ℕ) (us : List Terminal) → NamesTied (d.0.name ∷ set) (done ++ d.0 ∷ []) (grammar.type_names m (d.0.name ∷ set) n (done ++ d.0 ∷ []) (max h (d.1 + 1)) us) (type_names m n (done ++ d.0 ∷ []) (max h (d.1 + 1)) (marked (d.0.name ∷ set) us)))
        → NamesTied set done (read_on r (λ d us. after_member (grammar.type_names m (d.0.name ∷ set) n) (done ++ d.0 ∷ []) (max h (d.1 + 1)) us)) (read_on s (λ d us. after_member (type_names m n) (done ++ d.0 ∷ []) (max h (d.1 + 1)) (marked_also d.0.name us)))
    by_case (Ok x) s e again =
        let then_is : read_on s (λ d us. after_member (type_names m n) (done ++ d.0 ∷ []) (max h (d.1 + 1)) (marked_also d.0.name us)) ≡ after_member (type_names m n) (done ++ x.0.0 ∷ []) (max h (x.0.1 + 1)) (marked (x.0.0.name ∷ set) x.1) =
        ap (λ s. read_on s (λ d us. after_member (type_names m n) (done ++ d.0 ∷ []) (max h (d.1 + 1)) (marked_also d.0.name us))) e
        ∙ ap (after_member (type_names m n) (done ++ x.0.0 ∷ []) (max h (x.0.1 + 1))) (also_marked set x.0.0.name x.1) in
        subst (NamesTied set done (after_member (grammar.type_names m (x.0.0.name ∷ set) n) (done ++ x.0.0 ∷ []) (max h (x.0.1 + 1)) x.1)) (sym then_is) (after_tied m set n done (max h (x.0.1 + 1)) x.0.0 (again x.0) x.1)
    by_case (Err f) s e again = ap (λ s. read_on s (λ d us. after_member (type_names m n) (done ++ d.0 ∷ []) (max h (d.1 + 1)) (marked_also d.0.name us))) e

-- ---- externals

abbrev behind : NameSet → DeclTree × ℕ → NameSet
behind set d = names_behind set d.0

typedef_tied : (k : ℕ) (set : NameSet) (ts : List Terminal) → Tied (behind set) (grammar.typedef_of k set ts) (typedef_of k (marked set ts))
typedef_tied k set ts = by_case (in_marks set (defined k) ts) (defined k (marked set ts)) (tied_marks set (defined k) ts (sound_defined k (marked set ts)))
  where
    named : (t : DefinedTree × ℕ) (r s : Result ((List DeclaratorTree × ℕ) × List Terminal) Stop) → NamesTied set [] r s
        → Tied (behind set) (read_on r (λ ds vs. Ok ((typedef (record { defined = t.0; names = ds.0 }), max t.1 ds.1), vs))) (read_on s (λ ds vs. Ok ((typedef (record { defined = t.0; names = ds.0 }), max t.1 ds.1), vs)))
    named t (Ok x) s (new, e, is) =
        ap (λ s. read_on s (λ ds vs. Ok ((typedef (record { defined = t.0; names = ds.0 }), max t.1 ds.1), vs))) is
        ∙ ap (λ (l : List DeclaratorTree). Ok ((typedef (record { defined = t.0; names = x.0.0 }), max t.1 x.0.1), marked (with_names set l) x.1)) (sym e)
    named t (Err f) s e = ap (λ s. read_on s (λ ds vs. Ok ((typedef (record { defined = t.0; names = ds.0 }), max t.1 ds.1), vs))) e

    by_case : (r s : Result ((DefinedTree × ℕ) × List Terminal) Stop) → Tied (λ _. set) r s
        → Tied (behind set) (read_on r (λ t us. read_on (grammar.type_names (k + 1) set (length us) [] 0 us) (λ ds vs. Ok ((typedef (record { defined = t.0; names = ds.0 }), max t.1 ds.1), vs))))
        (read_on s (λ t us. read_on (type_names (k + 1) (length us) [] 0 us) (λ ds vs. Ok ((typedef (record { defined = t.0; names = ds.0 }), max t.1 ds.1), vs))))
    by_case (Ok x) s e = rw (e, as_many set x.1) (named x.0 (grammar.type_names (k + 1) set (length x.1) [] 0 x.1) (type_names (k + 1) (length x.1) [] 0 (marked set x.1)) (names_tied (k + 1) set (length x.1) [] 0 x.1))
    by_case (Err f) s e = rw e refl

plain_tied : (k : ℕ) (set : NameSet) (ts : List Terminal) → Tied (behind set) (in_marks set (plain k) ts) (plain k (marked set ts))
plain_tied k set ts = by_case (plain k (marked set ts)) (sound_plain k (marked set ts)).is (tied_marks set (plain k) ts (sound_plain k (marked set ts)))
  where
    by_case : (r : Result ((DeclTree × ℕ) × List Terminal) Stop) → Outcome (IsPlain k) [] (marked set ts) r → Tied (λ _. set) (read_on r (λ x us. Ok (x, drop (length ts - length us) ts))) r → Tied (behind set) (read_on r (λ x us. Ok (x, drop (length ts - length us) ts))) r
    by_case (Ok x) (front, e, h) tied = tied ∙ ap (λ (s : NameSet). Ok (x.0, marked s (drop (length ts - length x.1) ts))) (sym (plain_names h.0 set))
    by_case (Err f) h tied = tied

external_tied : (k : ℕ) (set : NameSet) (ts : List Terminal) → Tied (behind set) (grammar.external k set ts) (external k (marked set ts))
unfolding grammar.external external
external_tied k set [] = refl
external_tied k set (t ∷ ts) = by_case (is_keyword keywords.Typedef t) (is_keyword keywords.Typedef (mark set t)) (mark_keyword set keywords.Typedef t)
  where
    by_case : (b c : Bool) → c ≡ b → Tied (behind set) (cond b (grammar.typedef_of k set ts) (in_marks set (plain k) (t ∷ ts))) (cond c (typedef_of k (marked set ts)) (plain k (marked set (t ∷ ts))))
    by_case true true e = typedef_tied k set ts
    by_case false false e = plain_tied k set (t ∷ ts)
    by_case true false e = absurd cc
    by_case false true e = absurd cc

-- ---- units

abbrev More : ℕ → ℕ → Type 0
More k n = (set : NameSet) (done : List DeclTree) (h : ℕ) (us : List Terminal) → externals k n done h (marked set us) ≡ grammar.externals k set n done h us

externals_tied : (k : ℕ) (set : NameSet) (n : ℕ) (done : List DeclTree) (h : ℕ) (ts : List Terminal) → externals k n done h (marked set ts) ≡ grammar.externals k set n done h ts
unfolding grammar.externals externals
externals_tied k set zero done h ts = ap (λ (n : ℕ). Err (Unexpected n)) (as_many set ts)
externals_tied k set (suc n) done h ts = by_case (grammar.external k set ts) (external k (marked set ts)) (external_tied k set ts) (λ set done h us. externals_tied k set n done h us)
  where
    behind_it : (d : DeclTree × ℕ) (us : List Terminal) → More k n
        → cond (is_empty (marked (behind set d) us)) (Ok ((done ++ d.0 ∷ [], max h d.1), marked (behind set d) us)) (externals k n (done ++ d.0 ∷ []) (max h d.1) (marked (behind set d) us))
        ≡ cond (is_empty us) (Ok ((done ++ d.0 ∷ [], max h d.1), us)) (grammar.externals k (names_behind set d.0) n (done ++ d.0 ∷ []) (max h d.1) us)
    behind_it d [] more = refl
    behind_it d (u ∷ us) more = more (names_behind set d.0) (done ++ d.0 ∷ []) (max h d.1) (u ∷ us)

    by_case : (r s : Result ((DeclTree × ℕ) × List Terminal) Stop) → Tied (behind set) r s → More k n
        → read_on s (λ d us. cond (is_empty us) (Ok ((done ++ d.0 ∷ [], max h d.1), us)) (externals k n (done ++ d.0 ∷ []) (max h d.1) us))
        ≡ read_on r (λ d us. cond (is_empty us) (Ok ((done ++ d.0 ∷ [], max h d.1), us)) (grammar.externals k (names_behind set d.0) n (done ++ d.0 ∷ []) (max h d.1) us))
    by_case (Ok x) s e more = rw e (behind_it x.0 x.1 more)
    by_case (Err f) s e more = rw e refl

-- tokens without marks are read as the grammar reads them
pub unit_is : (k : ℕ) (ts : List Terminal) → marked [] ts ≡ ts → unit k ts ≡ externals k (length ts) [] 0 ts
unfolding unit
unit_is k ts none = sym (externals_tied k [] (length ts) [] 0 ts) ∙ ap (externals k (length ts) [] 0) none
