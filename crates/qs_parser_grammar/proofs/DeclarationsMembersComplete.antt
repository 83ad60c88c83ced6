-- What has a reading as members of a struct is read so.
use Rattle.std.proofs.Common.{◌≡◌, ℕ, zero, suc, ◌<◌, ◌≤◌, max, List, [], ◌∷◌, ◌++◌, length, Ok, refl, ap, ◌∙◌, append_assoc, add-one, length-append, true, false, arith}
use Rattle.qs_syntax_vocabulary.specs.declared.terminal.Terminal.{Terminal}
use Rattle.qs_syntax_vocabulary.specs.declared.terminal.Terminal.TheVariants.{Punctuator}
use Rattle.qs_syntax_vocabulary.specs.declared.punctuator.Punctuator.TheVariants as punctuators
use Rattle.qs_syntax.specs.Trees.{DeclaratorTree, MembersTree}
use Rattle.qs_syntax.specs.ReadsDeclarations.{ReadsDeclarators, a_last_member, a_member, ReadsMembers, a_group, ReadsAllMembers, a_last_group, a_further_group}
use Rattle.qs_parser_grammar.specs.Heads.{begins_type}
use Rattle.qs_parser_grammar.specs.ParseDeclarations.{declarators, members, groups}
use Rattle.qs_parser_grammar.proofs.TypesComplete.{goes_on_type, finds_type, type_begins}
use Rattle.qs_parser_grammar.proofs.DeclarationsComplete.{Items, one_more, from_zero, not_typed, finds_declarator, declarator_no_type}

finds_declarators : {h : ℕ} {ts : List Terminal} {ds : List DeclaratorTree} → ReadsDeclarators h ts ds → (m n : ℕ) → h ≤ suc m → length ts < n → (done : List DeclaratorTree) (j s : ℕ) (rest : List Terminal)
    → declarators m n done j (ts ++ Punctuator s punctuators.Semicolon ∷ rest) ≡ Items (done ++ ds) (max j h) rest
unfolding declarators
finds_declarators (a_last_member r) m zero le enough done j s rest = absurd (omega arith)
finds_declarators (a_last_member {h = h} {ts = ts} {d = d} r) m (suc n) le enough done j s rest = rw (finds_declarator r m (omega arith) (Punctuator s punctuators.Semicolon ∷ rest) refl, add-one h) refl
finds_declarators (a_member at r q) m zero le enough done j s rest = absurd (omega arith)
finds_declarators (a_member {h = h} {k = k} {xs = xs} {ys = ys} {d = d} {ds = ds} at r q) m (suc n) le enough done j s rest =
    rw (append_assoc xs (Punctuator at punctuators.Comma ∷ ys) (Punctuator s punctuators.Semicolon ∷ rest), finds_declarator r m (omega arith) (Punctuator at punctuators.Comma ∷ (ys ++ Punctuator s punctuators.Semicolon ∷ rest)) refl, add-one h)
    (finds_declarators q m n (omega arith) (omega (arith, length-append xs (Punctuator at punctuators.Comma ∷ ys))) (done ++ d ∷ []) (max j (suc h)) s rest ∙ one_more done ds d j (suc h) k rest)

declarators_no_type : {h : ℕ} {ts : List Terminal} {ds : List DeclaratorTree} → ReadsDeclarators h ts ds → (rest : List Terminal) → goes_on_type (ts ++ rest) ≡ false
declarators_no_type (a_last_member r) rest = declarator_no_type r rest
declarators_no_type (a_member {xs = xs} {ys = ys} at r s) rest = rw (append_assoc xs (Punctuator at punctuators.Comma ∷ ys) rest) (declarator_no_type r (Punctuator at punctuators.Comma ∷ (ys ++ rest)))

finds_all_declarators : {h : ℕ} {ts : List Terminal} {ds : List DeclaratorTree} → ReadsDeclarators h ts ds → (m : ℕ) → h ≤ suc m → (s : ℕ) (rest : List Terminal)
    → declarators m (length (ts ++ Punctuator s punctuators.Semicolon ∷ rest)) [] 0 (ts ++ Punctuator s punctuators.Semicolon ∷ rest) ≡ Items ds h rest
finds_all_declarators {h} {ts} {ds} r m le s rest = finds_declarators r m (length (ts ++ Punctuator s punctuators.Semicolon ∷ rest)) le (omega (arith, length-append ts (Punctuator s punctuators.Semicolon ∷ rest))) [] 0 s rest ∙ ap (λ (k : ℕ). Items ds k rest) (from_zero h)

pub finds_members : {h : ℕ} {ts : List Terminal} {g : MembersTree} → ReadsMembers h ts g → (m : ℕ) → h ≤ suc m → (rest : List Terminal) → members m (ts ++ rest) ≡ Ok ((g, h), rest)
unfolding members
finds_members (a_group {h = h} {xs = xs} {ys = ys} {base = b} {ds = ds} s t r) m le rest =
    rw (append_assoc xs (ys ++ Punctuator s punctuators.Semicolon ∷ []) rest, append_assoc ys (Punctuator s punctuators.Semicolon ∷ []) rest, finds_type t (ys ++ Punctuator s punctuators.Semicolon ∷ rest) (declarators_no_type r (Punctuator s punctuators.Semicolon ∷ rest)), finds_all_declarators r m le s rest) refl

members_begin : {h : ℕ} {ts : List Terminal} {g : MembersTree} → ReadsMembers h ts g → (rest : List Terminal) → begins_type (ts ++ rest) ≡ true
members_begin (a_group {xs = xs} {ys = ys} s t r) rest = rw (append_assoc xs (ys ++ Punctuator s punctuators.Semicolon ∷ []) rest) (type_begins t ((ys ++ Punctuator s punctuators.Semicolon ∷ []) ++ rest))

all_members_begin : {h : ℕ} {ts : List Terminal} {gs : List MembersTree} → ReadsAllMembers h ts gs → (rest : List Terminal) → begins_type (ts ++ rest) ≡ true
all_members_begin (a_last_group r) rest = members_begin r rest
all_members_begin (a_further_group {xs = xs} {ys = ys} r s) rest = rw (append_assoc xs ys rest) (members_begin r (ys ++ rest))

-- members take a token at least
members_take : {h : ℕ} {ts : List Terminal} {g : MembersTree} → ReadsMembers h ts g → 0 < length ts
members_take (a_group {xs = xs} {ys = ys} s t r) = omega (arith, length-append xs (ys ++ Punctuator s punctuators.Semicolon ∷ []), length-append ys (Punctuator s punctuators.Semicolon ∷ []))

pub finds_groups : {h : ℕ} {ts : List Terminal} {gs : List MembersTree} → ReadsAllMembers h ts gs → (m n : ℕ) → h ≤ suc m → length ts ≤ n → (done : List MembersTree) (j c : ℕ) (rest : List Terminal)
    → groups m n done j (ts ++ Punctuator c punctuators.CloseBrace ∷ rest) ≡ Items (done ++ gs) (max j h) rest
unfolding groups
finds_groups (a_last_group r) m zero le enough done j c rest = let some = members_take r in absurd (omega arith)
finds_groups (a_last_group {h = h} {ts = ts} {m = g} r) m (suc n) le enough done j c rest = rw (finds_members r m le (Punctuator c punctuators.CloseBrace ∷ rest)) refl
finds_groups (a_further_group {xs = xs} {ys = ys} r s) m zero le enough done j c rest = let some = members_take r in absurd (omega (arith, length-append xs ys))
finds_groups (a_further_group {h = h} {k = k} {xs = xs} {ys = ys} {m = g} {ms = gs} r s) m (suc n) le enough done j c rest =
    let some = members_take r in
    rw (append_assoc xs ys (Punctuator c punctuators.CloseBrace ∷ rest), finds_members r m (omega arith) (ys ++ Punctuator c punctuators.CloseBrace ∷ rest), not_typed punctuators.CloseBrace (ys ++ Punctuator c punctuators.CloseBrace ∷ rest) (all_members_begin s (Punctuator c punctuators.CloseBrace ∷ rest)))
    (finds_groups s m n (omega arith) (omega (arith, length-append xs ys)) (done ++ g ∷ []) (max j h) c rest ∙ one_more done gs g j h k rest)
