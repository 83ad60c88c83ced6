-- A text is a typed unit in one way, or has one fault; and what the code shows of its steps.
use Rattle.std.proofs.Common.{◌≡◌, ◌∙◌, ℕ, List, Option, Result, Ok, Err, refl, sym, ap, subst, inl, inr, arith}
use Rattle.qs_base.specs.declared.places.Pos.{Pos}
use Rattle.qs_lexer.specs.declared.fault.LexFault.{LexFault}
use Rattle.qs_parser.specs.declared.syntax_fault.SyntaxFault.{SyntaxFault}
use Rattle.qs_syntax.specs.Trees.{DeclTree}
use Rattle.qs_typing_findings.specs.TypedOf.{typed_tree}
use Rattle.qs_typing_findings.specs.declared.type_fault.TypeFault.{TypeFault}
use Rattle.qs_typing_findings.specs.declared.typed_unit.TypedUnit.{TypedUnit}
use Rattle.qs_ports.specs.StoreView.{StoreView}
use Rattle.qs_driver_steps.specs.Reading.{reading}
use Rattle.qs_driver_steps.specs.Runs.{Halts, Passes, Halted, Passed, TakesAll}
use Rattle.qs_driver_steps.proofs.Laws.{IsSound, FindsOne, IsSingle, IsWithin, decides}
use Rattle.qs_driver_steps.proofs.ReadingLaws.{reading_sound, reading_one, decided, not_decided, undecided}
use Rattle.qs_driver_session.specs.Limits.{source_limit}
use Rattle.qs_driver_session.specs.Origin.{LexRefusal, SyntaxRefusal, TypeRefusal, lex_status, syntax_status, type_status, IsLexed, lexing, parsing, typing, of_text, origin}
use Rattle.qs_driver_session.specs.Source.{HasLexFault, HasSyntaxFault, HasTypeFault, IsUnit, IsTypedAs, RefusesText, has_lex_fault, has_syntax_fault, has_type_fault, lacks_memory, TypesText}
use Rattle.qs_driver_session.specs.Statuses.{tool, exactly}
use Rattle.qs_driver_session.specs.declared.status.FileKind.TheVariants as kinds
use Rattle.qs_driver_session.specs.declared.status.SourceFault.TheVariants.{Lex, Syntax, Typing}
use Rattle.qs_driver_session.specs.declared.status.Status.{Status}
use Rattle.qs_driver_session.specs.declared.status.Status.TheVariants.{Source, NoMemory}
use Rattle.qs_driver_session.specs.declared.status.TokenPlace.{TokenPlace}
use Rattle.qs_driver_session.proofs.SourceLaws.{no_unit, syntax_no_unit, lex_or_tokens, same_lex_fault, same_lex_place, same_syntax_fault, same_syntax_place, same_trees, ill_typed_or_typed, same_type_fault, same_type_place}

-- ---- the steps are sound

one_lex : (text : List ℕ) (f g : LexRefusal) → HasLexFault text f.fault f.pos → HasLexFault text g.fault g.pos → lex_status f ≡ lex_status g
one_lex text f g c d =
    ap (λ (x : LexFault). Source (Lex x f.pos)) (same_lex_fault text f.fault g.fault f.pos g.pos c d)
    ∙ ap (λ (x : Pos). Source (Lex g.fault x)) (same_lex_place text f.fault g.fault f.pos g.pos c d)

one_syntax : (text : List ℕ) (f g : SyntaxRefusal) → HasSyntaxFault text f.fault f.place → HasSyntaxFault text g.fault g.place → syntax_status f ≡ syntax_status g
one_syntax text f g c d =
    ap (λ (x : SyntaxFault). Source (Syntax x f.place)) (same_syntax_fault text f.fault g.fault f.place g.place c d)
    ∙ ap (λ (x : TokenPlace). Source (Syntax g.fault x)) (same_syntax_place text f.fault g.fault f.place g.place c d)

one_type : (text : List ℕ) (f g : TypeRefusal) → HasTypeFault text f.fault f.place → HasTypeFault text g.fault g.place → type_status f ≡ type_status g
one_type text f g c d =
    ap (λ (x : TypeFault). Source (Typing x f.place)) (same_type_fault text f.fault g.fault f.place g.place c d)
    ∙ ap (λ (x : Option Pos). Source (Typing g.fault x)) (same_type_place text f.fault g.fault f.place g.place c d)

lexing_sound : (text : List ℕ) → IsSound (lexing text)
lexing_sound text = decides tool 4 (λ (u : Unit {0}). IsLexed text) (λ (f : LexRefusal). HasLexFault text f.fault f.pos) lex_status (λ f g c d. ap exactly (one_lex text f g c d)) (λ f u c h. lex_or_tokens text f.fault f.pos h.tokens c h.are_tokens) (λ f. refl)

parsing_sound : (text : List ℕ) → IsSound (parsing text)
parsing_sound text = decides tool 5 (λ (u : Unit {0}). IsUnit text) (λ (f : SyntaxRefusal). HasSyntaxFault text f.fault f.place) syntax_status (λ f g c d. ap exactly (one_syntax text f g c d)) (λ f u c h. no_unit text (syntax_no_unit text f.fault f.place c) h) (λ f. refl)

typing_sound : (text : List ℕ) → IsSound (typing text)
typing_sound text = decides tool 6 (λ (trees : List DeclTree). IsTypedAs text trees) (λ (f : TypeRefusal). HasTypeFault text f.fault f.place) type_status (λ f g c d. ap exactly (one_type text f g c d)) (λ f trees c h. ill_typed_or_typed text f.fault f.place c h.typed) (λ f. refl)

typing_one : (text : List ℕ) → FindsOne (typing text)
typing_one text files y z h k = sym h.trees_are ∙ same_trees text h.typed.unit k.typed.unit ∙ k.trees_are

of_text_single : (text : List ℕ) → IsSingle (of_text text)
of_text_single text = (
  lexing_sound text,
  (λ files y z h k. refl),
  (λ u. (
    parsing_sound text,
    (λ files y z h k. refl),
    (λ v. (typing_sound text, typing_one text, (λ trees. tt))),
  )),
)

pub origin_single : (name : List ℕ) → IsSingle (origin name)
origin_single name = (
  reading_sound tool 3 kinds.Source source_limit name refl refl,
  reading_one tool 3 kinds.Source source_limit name,
  of_text_single,
)

pub origin_within : (name : List ℕ) → IsWithin (origin name) 3 7
origin_within name = (omega arith, omega arith, (λ text. (omega arith, omega arith, (λ u. (omega arith, omega arith, (λ v. (omega arith, omega arith, (λ trees. omega arith))))))))

-- ---- what the code of a text shows, from one store to the same

module _ (text : List ℕ) (v : StoreView) where
  lexed : IsLexed text → Passes (lexing text) v v tt
  lexed h = decided 4 (λ (u : Unit {0}). IsLexed text) (λ (f : LexRefusal). HasLexFault text f.fault f.pos) lex_status v tt h

  parsed : IsUnit text → Passes (parsing text) v v tt
  parsed h = decided 5 (λ (u : Unit {0}). IsUnit text) (λ (f : SyntaxRefusal). HasSyntaxFault text f.fault f.place) syntax_status v tt h

  typed : (trees : List DeclTree) → IsTypedAs text trees → Passes (typing text) v v trees
  typed trees h = decided 6 (λ (trees : List DeclTree). IsTypedAs text trees) (λ (f : TypeRefusal). HasTypeFault text f.fault f.place) type_status v trees h

  is_lexed : IsUnit text → IsLexed text
  is_lexed u = record { tokens = u.tokens; are_tokens = u.are_tokens }

  pub text_passes : (trees : List DeclTree) → IsTypedAs text trees → Passed (of_text text) v v trees
  text_passes trees h = (v, tt, lexed (is_lexed h.typed.unit), (v, tt, parsed h.typed.unit, (v, trees, typed trees h, (refl, refl))))

  ill_lexed : (f : LexRefusal) → HasLexFault text f.fault f.pos → Halts (lexing text) v v (lex_status f)
  ill_lexed f c = not_decided 4 (λ (u : Unit {0}). IsLexed text) (λ (f : LexRefusal). HasLexFault text f.fault f.pos) lex_status v f c

  ill_parsed : (f : SyntaxRefusal) → HasSyntaxFault text f.fault f.place → Halts (parsing text) v v (syntax_status f)
  ill_parsed f c = not_decided 5 (λ (u : Unit {0}). IsUnit text) (λ (f : SyntaxRefusal). HasSyntaxFault text f.fault f.place) syntax_status v f c

  ill_typed : (f : TypeRefusal) → HasTypeFault text f.fault f.place → Halts (typing text) v v (type_status f)
  ill_typed f c = not_decided 6 (λ (trees : List DeclTree). IsTypedAs text trees) (λ (f : TypeRefusal). HasTypeFault text f.fault f.place) type_status v f c

  no_memory_there : Halts (lexing text) v v NoMemory
  no_memory_there = undecided 4 (λ (u : Unit {0}). IsLexed text) (λ (f : LexRefusal). HasLexFault text f.fault f.pos) lex_status v

  pub text_stops : (status : Status) → RefusesText text status → Halted (of_text text) v v status
  text_stops status (has_lex_fault fault pos f e) =
      let halts : Halts (lexing text) v v (Source (Lex fault pos)) = ill_lexed (record { fault = fault; pos = pos }) f in
      inl (subst (λ (x : Status). Halts (lexing text) v v x) (sym e) halts)
  text_stops status (has_syntax_fault fault place f e) =
      let halts : Halts (parsing text) v v (Source (Syntax fault place)) = ill_parsed (record { fault = fault; place = place }) f in
      inr (v, tt, lexed (record { tokens = f.tokens; are_tokens = f.are_tokens }), inl (subst (λ (x : Status). Halts (parsing text) v v x) (sym e) halts))
  text_stops status (has_type_fault fault place f e) =
      let halts : Halts (typing text) v v (Source (Typing fault place)) = ill_typed (record { fault = fault; place = place }) f in
      inr (v, tt, lexed (is_lexed f.unit), inr (v, tt, parsed f.unit, inl (subst (λ (x : Status). Halts (typing text) v v x) (sym e) halts)))
  text_stops status (lacks_memory e) = inl (subst (λ (x : Status). Halts (lexing text) v v x) (sym e) no_memory_there)

  pub text_takes : (result : Result TypedUnit Status) → TypesText text result → TakesAll (of_text text) typed_tree v v result
  text_takes (Ok unit) h = text_passes (typed_tree unit) h
  text_takes (Err status) h = text_stops status h

-- ---- and of a source

module _ (name : List ℕ) (v w : StoreView) where
  pub unread : (status : Status) → Halts (reading {S = tool} 3 kinds.Source source_limit name) v w status → Halted (origin name) v w status
  unread status h = inl h

  pub refused_text : (text : List ℕ) (status : Status) → Passes (reading {S = tool} 3 kinds.Source source_limit name) v w text → RefusesText text status → Halted (origin name) v w status
  refused_text text status p h = inr (w, text, p, text_stops text w status h)

  pub read_text : (text : List ℕ) (trees : List DeclTree) → Passes (reading {S = tool} 3 kinds.Source source_limit name) v w text → IsTypedAs text trees → Passed (origin name) v w trees
  read_text text trees p h = (w, text, p, text_passes text w trees h)
