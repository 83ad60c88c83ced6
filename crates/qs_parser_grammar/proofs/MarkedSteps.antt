-- What is left of the tokens behind what was read is the last of them, and marks change nothing of how many they are. Turns of the loops that
-- read names of types and units.
use Rattle.std.proofs.Common.{◌≡◌, ℕ, zero, suc, ◌+◌, ◌-◌, ◌<◌, ◌≤◌, max, true, false, cond, List, [], ◌∷◌, ◌++◌, length, drop, map, Result, Ok, Err, refl, sym, ap, subst, ◌∙◌, arith, length-append}
use Rattle.std.proofs.lemmas.List.{map_push, length-map, length-drop}
use Rattle.std.proofs.Math.Seq.{drop-nil}
use Rattle.qs_syntax_vocabulary.specs.declared.terminal.Terminal.{Terminal}
use Rattle.qs_syntax.specs.ReadsTypes.{Any}
use Rattle.qs_syntax.specs.Trees.{DeclaratorTree, DefinedTree, DeclTree, typedef}
use Rattle.qs_syntax_vocabulary.specs.declared.punctuator.Punctuator as punctuator
use Rattle.qs_syntax_vocabulary.specs.declared.punctuator.Punctuator.TheVariants as punctuators
use Rattle.qs_parser_grammar.specs.Heads.{starts, starts_with}
use Rattle.qs_parser_grammar.specs.Parse.{Stop, read_on, unexpected, expect}
use Rattle.qs_parser_grammar.proofs.SoundSteps.{sound_expect}
use Rattle.qs_parser_grammar.specs.ParseDeclarations.{declarator, after_member}
use Rattle.qs_parser_grammar.specs.ParseStatements.{plain, defined, is_empty}
use Rattle.qs_parser_grammar.proofs.Sound.{Outcome, Sound}
use Rattle.qs_parser_grammar.proofs.MarkLaws.{drop_front}
use Rattle.qs_parser_grammar.proofs.DeclarationsSound.{sound_declarator}
use Rattle.qs_parser_grammar.proofs.UnitsSound.{sound_plain, sound_defined}
use Rattle.qs_base.specs.declared.keyword.Keyword as key
use Rattle.qs_base.specs.declared.keyword.Keyword.TheVariants as keywords
use Rattle.qs_parser_grammar.specs.ParseMarked.{also, marked_also, last, type_names, typedef_of, external, externals}

-- ---- the last of the tokens

pub last_all : (ts : List Terminal) → last (length ts) ts ≡ ts
last_all ts = let none : length ts - length ts ≡ 0 = omega arith in ap (λ n. drop n ts) none

pub last_length : (n : ℕ) (ts : List Terminal) → n ≤ length ts → length (last n ts) ≡ n
last_length n ts le = let same : length (last n ts) ≡ length ts - (length ts - n) = length-drop (length ts - n) ts in omega arith

record Left (ts us : List Terminal) : Type 0 where
  same : us ≡ last (length us) ts
  few : length us ≤ length ts

left_of : {A : Type 0} {R : A → List Terminal → Type 0} (ts : List Terminal) (r : Result (A × List Terminal) Stop) (x : A) (us : List Terminal) → Sound R [] ts r → r ≡ Ok (x, us) → Left ts us
left_of {A} {R} ts r x us s e = go (subst (Outcome R [] ts) e s.is)
  where
    go : Outcome R [] ts (Ok (x, us)) → Left ts us
    go (front, split, h) = record {
      same = sym (ap (λ l. drop (length l - length us) l) split ∙ drop_front front us);
      few = omega (arith, ap length split, length-append front us);
    }

pub declarator_leaves : (m : ℕ) (ts : List Terminal) (x : DeclaratorTree × ℕ) (us : List Terminal) → declarator Any m ts ≡ Ok (x, us) → declarator Any m ts ≡ Ok (x, last (length us) ts)
declarator_leaves m ts x us e = e ∙ ap (λ (l : List Terminal). Ok (x, l)) (left_of ts (declarator Any m ts) x us (sound_declarator Any m ts) e).same

pub declarator_few : (m : ℕ) (ts : List Terminal) (x : DeclaratorTree × ℕ) (us : List Terminal) → declarator Any m ts ≡ Ok (x, us) → length us ≤ length ts
declarator_few m ts x us e = (left_of ts (declarator Any m ts) x us (sound_declarator Any m ts) e).few

pub defined_leaves : (k : ℕ) (ts : List Terminal) (x : DefinedTree × ℕ) (us : List Terminal) → defined k ts ≡ Ok (x, us) → defined k ts ≡ Ok (x, last (length us) ts)
defined_leaves k ts x us e = e ∙ ap (λ (l : List Terminal). Ok (x, l)) (left_of ts (defined k ts) x us (sound_defined k ts) e).same

pub defined_few : (k : ℕ) (ts : List Terminal) (x : DefinedTree × ℕ) (us : List Terminal) → defined k ts ≡ Ok (x, us) → length us ≤ length ts
defined_few k ts x us e = (left_of ts (defined k ts) x us (sound_defined k ts) e).few

pub plain_leaves : (k : ℕ) (ts : List Terminal) (x : DeclTree × ℕ) (us : List Terminal) → plain k ts ≡ Ok (x, us) → plain k ts ≡ Ok (x, last (length us) ts)
plain_leaves k ts x us e = e ∙ ap (λ (l : List Terminal). Ok (x, l)) (left_of ts (plain k ts) x us (sound_plain k ts) e).same

pub plain_few : (k : ℕ) (ts : List Terminal) (x : DeclTree × ℕ) (us : List Terminal) → plain k ts ≡ Ok (x, us) → length us ≤ length ts
plain_few k ts x us e = (left_of ts (plain k ts) x us (sound_plain k ts) e).few

pub ruleset left_behind = (declarator_leaves, declarator_few, defined_leaves, defined_few, plain_leaves, plain_few)

-- ---- marks

drop_map : {A B : Type 0} (f : A → B) (n : ℕ) (xs : List A) → drop n (map f xs) ≡ map f (drop n xs)
drop_map f zero xs = refl
drop_map f (suc n) [] = refl
drop_map f (suc n) (x ∷ xs) = drop_map f n xs

pub also_many : (x : List ℕ) (ts : List Terminal) → length (marked_also x ts) ≡ length ts
also_many x ts = length-map ts (also x)

-- the last of the tokens, marked
pub last_also : (x : List ℕ) (n : ℕ) (ts : List Terminal) → last n (marked_also x ts) ≡ marked_also x (last n ts)
last_also x n ts = ap (λ k. drop (k - n) (marked_also x ts)) (also_many x ts) ∙ drop_map (also x) (length ts - n) ts

-- the last of the last
pub last_last : (m n : ℕ) (ts : List Terminal) → m ≤ n → n ≤ length ts → last m (last n ts) ≡ last m ts
last_last m n ts le low =
    let many : length (last n ts) ≡ n = last_length n ts low in
    ap (λ k. drop (k - m) (last n ts)) many ∙ drop_drop (n - m) (length ts - n) ts ∙ ap (λ k. drop k ts) (omega arith)
  where
    drop_drop : {A : Type 0} (i j : ℕ) (xs : List A) → drop i (drop j xs) ≡ drop (j + i) xs
    drop_drop i zero xs = ap (λ k. drop k xs) (omega arith)
    drop_drop i (suc j) [] = drop-nil i ∙ sym (drop-nil (suc j + i))
    drop_drop i (suc j) (x ∷ xs) = let one_more : suc j + i ≡ suc (j + i) = omega arith in drop_drop i j xs ∙ ap (λ k. drop k (x ∷ xs)) (sym one_more)

-- ---- the loops

left_turns : (n i : ℕ) → i < n → n - i ≡ suc (n - (i + 1))
left_turns n i h = omega arith

no_turns : (n i : ℕ) → n ≤ i → n - i ≡ 0
no_turns n i h = omega arith

pub names_more : (m n i : ℕ) (done : List DeclaratorTree) (h : ℕ) (ts : List Terminal) → i < n
    → type_names m (n - i) done h ts ≡ read_on (declarator Any m ts) (λ d us. after_member (type_names m (n - (i + 1))) (done ++ d.0 ∷ []) (max h (d.1 + 1)) (marked_also d.0.name us))
unfolding type_names
names_more m n i done h ts lt = ap (λ k. type_names m k done h ts) (left_turns n i lt)

pub names_end : (m n i : ℕ) (done : List DeclaratorTree) (h : ℕ) (ts : List Terminal) → n ≤ i → type_names m (n - i) done h ts ≡ unexpected ts
unfolding type_names
names_end m n i done h ts le = ap (λ k. type_names m k done h ts) (no_turns n i le)

pub externals_more : (k n i : ℕ) (done : List DeclTree) (h : ℕ) (ts : List Terminal) → i < n
    → externals k (n - i) done h ts ≡ read_on (external k ts) (λ d us. cond (is_empty us) (Ok ((done ++ d.0 ∷ [], max h d.1), us)) (externals k (n - (i + 1)) (done ++ d.0 ∷ []) (max h d.1) us))
unfolding externals
externals_more k n i done h ts lt = ap (λ l. externals k l done h ts) (left_turns n i lt)

pub externals_end : (k n i : ℕ) (done : List DeclTree) (h : ℕ) (ts : List Terminal) → n ≤ i → externals k (n - i) done h ts ≡ unexpected ts
unfolding externals
externals_end k n i done h ts le = ap (λ l. externals k l done h ts) (no_turns n i le)

-- ---- a turn of the names

-- behind a name that was read: what was left of the last tokens, marked
behind_marked : (m n i : ℕ) (done : List DeclaratorTree) (h : ℕ) (tokens : List Terminal) (left after : ℕ) (d : DeclaratorTree × ℕ) → i < n → left ≤ length tokens → after ≤ left
    → declarator Any m (last left tokens) ≡ Ok (d, last after tokens)
    → type_names m (n - i) done h (last left tokens) ≡ after_member (type_names m (n - (i + 1))) (done ++ d.0 ∷ []) (max h (d.1 + 1)) (last after (marked_also d.0.name tokens))
behind_marked m n i done h tokens left after d lt within few e = names_more m n i done h (last left tokens) lt ∙ rw (e, last_also d.0.name after tokens) refl

-- a punctuator leaves the last of the tokens
expect_left : (k : punctuator.Punctuator) (n : ℕ) (ts us : List Terminal) → n ≤ length ts → expect k (last n ts) ≡ Ok (tt, us) → (us ≡ last (length us) ts) × (length us ≤ n)
expect_left k n ts us within e =
    let l : Left (last n ts) us = left_of (last n ts) (expect k (last n ts)) tt us (sound_expect k (last n ts)) e in
    let low : length us ≤ n = omega (arith, l.few, last_length n ts within) in
    (l.same ∙ last_last (length us) n ts low within, low)

module _ (m n i : ℕ) (done : List DeclaratorTree) (h : ℕ) (tokens : List Terminal) (left after : ℕ) (d : DeclaratorTree × ℕ) where
  abbrev marked_then : List Terminal
  marked_then = last after (marked_also d.0.name tokens)

  abbrev with_it : List DeclaratorTree
  with_it = done ++ d.0 ∷ []

  abbrev as_high : ℕ
  as_high = max h (d.1 + 1)

  in_tokens : left ≤ length tokens → after ≤ left → after ≤ length (marked_also d.0.name tokens)
  in_tokens within few = let same : length (marked_also d.0.name tokens) ≡ length tokens = also_many d.0.name tokens in omega arith

  pub turn_ends : (us : List Terminal) → i < n → left ≤ length tokens → after ≤ left → declarator Any m (last left tokens) ≡ Ok (d, last after tokens) → starts punctuators.Semicolon marked_then ≡ true → expect punctuators.Semicolon marked_then ≡ Ok (tt, us)
      → type_names m (n - i) done h (last left tokens) ≡ Ok ((with_it, as_high), last (length us) (marked_also d.0.name tokens))
  turn_ends us lt within few read s e =
      behind_marked m n i done h tokens left after d lt within few read
      ∙ rw (s, e) (ap (λ (l : List Terminal). Ok ((with_it, as_high), l)) (expect_left punctuators.Semicolon after (marked_also d.0.name tokens) us (in_tokens within few) e).0)

  pub turn_goes : (us : List Terminal) → i < n → left ≤ length tokens → after ≤ left → declarator Any m (last left tokens) ≡ Ok (d, last after tokens) → starts punctuators.Semicolon marked_then ≡ false → expect punctuators.Comma marked_then ≡ Ok (tt, us)
      → type_names m (n - i) done h (last left tokens) ≡ type_names m (n - (i + 1)) with_it as_high (last (length us) (marked_also d.0.name tokens))
  turn_goes us lt within few read s e =
      behind_marked m n i done h tokens left after d lt within few read
      ∙ rw (s, e) (ap (type_names m (n - (i + 1)) with_it as_high) (expect_left punctuators.Comma after (marked_also d.0.name tokens) us (in_tokens within few) e).0)

  pub turn_fails : (stop : Stop) → i < n → left ≤ length tokens → after ≤ left → declarator Any m (last left tokens) ≡ Ok (d, last after tokens) → starts punctuators.Semicolon marked_then ≡ false → expect punctuators.Comma marked_then ≡ Err stop
      → type_names m (n - i) done h (last left tokens) ≡ Err stop
  turn_fails stop lt within few read s e = behind_marked m n i done h tokens left after d lt within few read ∙ rw (s, e) refl

  pub left_low : (k : punctuator.Punctuator) (us : List Terminal) → left ≤ length tokens → after ≤ left → expect k marked_then ≡ Ok (tt, us) → length us ≤ left
  left_low k us within few e = let low : length us ≤ after = (expect_left k after (marked_also d.0.name tokens) us (in_tokens within few) e).1 in omega arith

pub name_fails : (m n i : ℕ) (done : List DeclaratorTree) (h : ℕ) (ts : List Terminal) (stop : Stop) → i < n → declarator Any m ts ≡ Err stop → type_names m (n - i) done h ts ≡ Err stop
name_fails m n i done h ts stop lt e = names_more m n i done h ts lt ∙ rw e refl

pub ruleset name_steps = (turn_ends, turn_goes, turn_fails, left_low, name_fails, names_end, map_push, last_length)

-- ---- what stands at file scope

module _ (k : ℕ) (tokens : List Terminal) (left : ℕ) where
  -- behind what the names are for
  behind_defined : (behind : ℕ) (t : DefinedTree × ℕ) → left ≤ length tokens → behind ≤ left → defined k (last left tokens) ≡ Ok (t, last behind (last left tokens))
      → typedef_of k (last left tokens) ≡ read_on (type_names (k + 1) (length (last behind tokens)) [] 0 (last behind tokens)) (λ ds vs. Ok ((typedef (record { defined = t.0; names = ds.0 }), max t.1 ds.1), vs))
  behind_defined behind t within few e = rw (e, last_last behind left tokens few within) refl

  pub typedef_ends : (behind : ℕ) (t : DefinedTree × ℕ) (ds : List DeclaratorTree × ℕ) (vs : List Terminal) → left ≤ length tokens → behind ≤ left → defined k (last left tokens) ≡ Ok (t, last behind (last left tokens))
      → type_names (k + 1) (length (last behind tokens)) [] 0 (last behind tokens) ≡ Ok (ds, vs) → typedef_of k (last left tokens) ≡ Ok ((typedef (record { defined = t.0; names = ds.0 }), max t.1 ds.1), vs)
  typedef_ends behind t ds vs within few e f = behind_defined behind t within few e ∙ rw f refl

  pub typedef_fails : (behind : ℕ) (t : DefinedTree × ℕ) (stop : Stop) → left ≤ length tokens → behind ≤ left → defined k (last left tokens) ≡ Ok (t, last behind (last left tokens))
      → type_names (k + 1) (length (last behind tokens)) [] 0 (last behind tokens) ≡ Err stop → typedef_of k (last left tokens) ≡ Err stop
  typedef_fails behind t stop within few e f = behind_defined behind t within few e ∙ rw f refl

  pub defined_fails : (stop : Stop) → defined k (last left tokens) ≡ Err stop → typedef_of k (last left tokens) ≡ Err stop
  defined_fails stop e = rw e refl

  pub some_left : (word : key.Keyword) → left ≤ length tokens → starts_with word (last left tokens) ≡ true → 0 < left
  some_left word within e = go (last left tokens) refl e
    where
      go : (l : List Terminal) → last left tokens ≡ l → starts_with word l ≡ true → 0 < left
      go [] is e = absurd cc
      go (t ∷ l) is e = omega (arith, last_length left tokens within, ap length is)

  pub external_typedef : left ≤ length tokens → starts_with keywords.Typedef (last left tokens) ≡ true → external k (last left tokens) ≡ typedef_of k (last (left - 1) tokens)
  unfolding external
  external_typedef within e = go (last left tokens) refl e
    where
      rest_is : (l : List Terminal) (t : Terminal) → left ≡ suc (length l) → last left tokens ≡ t ∷ l → l ≡ last (left - 1) (last left tokens)
      rest_is l t many is =
          let count : suc (length l) - (left - 1) ≡ 1 = omega arith in
          sym (ap (λ ts. last (left - 1) ts) is ∙ ap (λ n. drop n (t ∷ l)) count)

      go : (l : List Terminal) → last left tokens ≡ l → starts_with keywords.Typedef l ≡ true → external k l ≡ typedef_of k (last (left - 1) tokens)
      go [] is e = absurd cc
      go (t ∷ l) is e =
          let many : left ≡ suc (length l) = sym (last_length left tokens within) ∙ ap length is in
          let one : last (left - 1) (last left tokens) ≡ last (left - 1) tokens = last_last (left - 1) left tokens (omega arith) within in
          let rest : l ≡ last (left - 1) (last left tokens) = rest_is l t many is in
          rw e (ap (typedef_of k) (rest ∙ one))

pub external_plain : (k : ℕ) (ts : List Terminal) → starts_with keywords.Typedef ts ≡ false → external k ts ≡ plain k ts
unfolding external plain
external_plain k [] e = refl
external_plain k (t ∷ ts) e = rw e refl

pub ruleset typedef_steps = (typedef_ends, typedef_fails, defined_fails, last_length, last_last)

pub ruleset scope_steps = (external_typedef, external_plain, some_left, last_length)

pub ruleset last_steps = (last_length, last_last)

pub ruleset external_steps = (externals_more, externals_end, map_push, last_all, last_length)
