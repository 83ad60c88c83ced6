-- What is read as members of a struct has that reading.
use Rattle.std.proofs.Common.{◌≡◌, ℕ, zero, suc, ◌+◌, ◌≤◌, max, List, [], ◌∷◌, ◌++◌, length, refl, sym, ap, ◌∙◌, append_assoc, add-one, arith}
use Rattle.qs_syntax_vocabulary.specs.declared.terminal.Terminal.{Terminal}
use Rattle.qs_syntax_vocabulary.specs.declared.terminal.Terminal.TheVariants.{Punctuator}
use Rattle.qs_syntax_vocabulary.specs.declared.punctuator.Punctuator.TheVariants as punctuators
use Rattle.qs_syntax.specs.declared.types.Base.{Base}
use Rattle.qs_syntax.specs.Trees.{DeclaratorTree, MembersTree}
use Rattle.qs_syntax.specs.ReadsTypes.{ReadsType, Any}
use Rattle.qs_syntax.specs.ReadsDeclarations.{ReadsDeclarator, ReadsDeclarators, a_last_member, a_member, ReadsMembers, a_group, ReadsAllMembers, a_last_group, a_further_group}
use Rattle.qs_parser_grammar.specs.Heads.{starts}
use Rattle.qs_parser_grammar.specs.ParseDeclarations.{declarators, members, groups}
use Rattle.qs_parser_grammar.proofs.Sound.{Sound, Sound-ok, Sound-err, at_end, Sound-mono}
use Rattle.qs_parser_grammar.proofs.SoundSteps.{Sound-if}
use Rattle.qs_parser_grammar.proofs.TypesSound.{sound_type}
use Rattle.qs_parser_grammar.proofs.DeclarationsSteps.{Sound-punctuator-next, Sound-part, Sound-last}
use Rattle.qs_parser_grammar.proofs.DeclarationsLists.{Closed, Ends, all_closed, sound_after}
use Rattle.qs_parser_grammar.proofs.DeclarationsSound.{sound_declarator}

-- a declarator as a node
abbrev IsMember : ℕ → List Terminal → DeclaratorTree → Type 0
IsMember h l d = (k : ℕ) × (h ≡ suc k) × ReadsDeclarator Any k l d

last_member : (h : ℕ) (ts : List Terminal) (d : DeclaratorTree) → IsMember h ts d → ReadsDeclarators h ts (d ∷ [])
last_member h ts d (k, e, r) = rw e (a_last_member r)

further_member : (h k : ℕ) (ts us : List Terminal) (d : DeclaratorTree) (ds : List DeclaratorTree) (at : ℕ) → IsMember h ts d → ReadsDeclarators k us ds → ReadsDeclarators (max h k) (ts ++ Punctuator at punctuators.Comma ∷ us) (d ∷ ds)
further_member h k ts us d ds at (j, e, r) s = rw e (a_member at r s)

sound_declarators : (m n : ℕ) (done : List DeclaratorTree) (h : ℕ) (ts : List Terminal) → Sound (Closed punctuators.Semicolon ReadsDeclarators (suc m) done h) [] ts (declarators m n done h ts)
unfolding declarators
sound_declarators m zero done h ts = Sound-err at_end
sound_declarators m (suc n) done h ts =
    Sound-part _ (sound_declarator Any m ts)
    (λ d front us r. sound_after punctuators.Semicolon IsMember ReadsDeclarators last_member further_member (suc m) (declarators m n) (λ done h ts. sound_declarators m n done h ts) done h d.0 (d.1 + 1) front (d.1, add-one d.1, r.0) (omega arith) us)

abbrev pub AreMembers : ℕ → MembersTree × ℕ → List Terminal → Type 0
AreMembers m x l = ReadsMembers x.1 l x.0 × (x.1 ≤ suc m)

members_read : (m : ℕ) (b : Base) (front : List Terminal) → ReadsType front b → (x : List DeclaratorTree × ℕ) (l : List Terminal) → Closed punctuators.Semicolon ReadsDeclarators (suc m) [] 0 x l
    → AreMembers m (record { base = b; declarators = x.0 }, x.1) (front ++ l)
members_read m b front t x l r = go (all_closed punctuators.Semicolon ReadsDeclarators (suc m) x l r)
  where
    go : Ends punctuators.Semicolon ReadsDeclarators (suc m) x l → AreMembers m (record { base = b; declarators = x.0 }, x.1) (front ++ l)
    go (inside, s, e, q, le) = (rw e (a_group s t q), le)

pub sound_members : (m : ℕ) (ts : List Terminal) → Sound (AreMembers m) [] ts (members m ts)
unfolding members
sound_members m ts = Sound-part _ (sound_type ts) (λ b front us t. Sound-last _ (sound_declarators m (length us) [] 0 us) (members_read m b front t))

abbrev AreGroups : ℕ → List MembersTree → ℕ → List MembersTree × ℕ → List Terminal → Type 0
AreGroups m done h x l = Closed punctuators.CloseBrace ReadsAllMembers (suc m) done h x l

last_group : (m : ℕ) (done : List MembersTree) (h : ℕ) (g : MembersTree × ℕ) (front : List Terminal) (c : ℕ) → AreMembers m g front → AreGroups m done h (done ++ g.0 ∷ [], max h g.1) (front ++ Punctuator c punctuators.CloseBrace ∷ [])
last_group m done h g front c (r, le) = (g.0 ∷ [], g.1, front, c, refl, refl, refl, a_last_group r, le)

further_group : (m : ℕ) (done : List MembersTree) (h : ℕ) (g : MembersTree × ℕ) (front : List Terminal) → AreMembers m g front
    → (y : List MembersTree × ℕ) (l : List Terminal) → AreGroups m (done ++ g.0 ∷ []) (max h g.1) y l → AreGroups m done h y (front ++ l)
further_group m done h g front (r, le) y l (items, k, inside, c, p, q, e, s, low) = (
  g.0 ∷ items,
  max g.1 k,
  front ++ inside,
  c,
  p ∙ append_assoc done (g.0 ∷ []) items,
  omega arith,
  ap (λ l. front ++ l) e ∙ sym (append_assoc front inside (Punctuator c punctuators.CloseBrace ∷ [])),
  a_further_group r s,
  omega arith,
)

pub sound_groups : (m n : ℕ) (done : List MembersTree) (h : ℕ) (ts : List Terminal) → Sound (Closed punctuators.CloseBrace ReadsAllMembers (suc m) done h) [] ts (groups m n done h ts)
unfolding groups
sound_groups m zero done h ts = Sound-err at_end
sound_groups m (suc n) done h ts =
    Sound-part _ (sound_members m ts)
    (λ g front us r. Sound-if (starts punctuators.CloseBrace us)
    (λ _. Sound-punctuator-next punctuators.CloseBrace us _ (λ c vs. Sound-ok (last_group m done h g front c r)))
    (λ _. Sound-mono (further_group m done h g front r) (sound_groups m n (done ++ g.0 ∷ []) (max h g.1) us)))
