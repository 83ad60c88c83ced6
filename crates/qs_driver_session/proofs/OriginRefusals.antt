-- A source is refused exactly where its cause is, in each command that begins with it.
use Rattle.std.proofs.Common.{◌≡◌, ◌∙◌, ℕ, ◌<◌, List, Option, None, refl, subst, inl, inr, arith}
use Rattle.qs_base.specs.declared.places.Pos.{Pos}
use Rattle.qs_lexer.specs.declared.fault.LexFault.{LexFault}
use Rattle.qs_parser.specs.declared.syntax_fault.SyntaxFault.{SyntaxFault}
use Rattle.qs_syntax.specs.Trees.{DeclTree}
use Rattle.qs_typing_findings.specs.declared.type_fault.TypeFault.{TypeFault}
use Rattle.qs_ports.specs.StoreView.{Files}
use Rattle.qs_driver_steps.specs.Files.{IsTooLong}
use Rattle.qs_driver_steps.specs.Promises.{IsExact}
use Rattle.qs_driver_steps.specs.Reading.{absent, long}
use Rattle.qs_driver_steps.specs.Steps.{Command, then, Comes, Stops, end_status}
use Rattle.qs_driver_steps.proofs.Laws.{StandFrom}
use Rattle.qs_driver_steps.proofs.ReadingLaws.{not_absent, not_long, one_content}
use Rattle.qs_driver_steps.proofs.SharedLaws.{stops_shared, shared_stops}
use Rattle.qs_driver_session.specs.Limits.{source_limit}
use Rattle.qs_driver_session.specs.Origin.{origin}
use Rattle.qs_driver_session.specs.Source.{HasLexFault, HasSyntaxFault, HasTypeFault, IsNoUnit, IsSyntax, HoldsText, RefusesSource}
use Rattle.qs_driver_session.specs.Statuses.{tool, seen_as, exactly, number_of}
use Rattle.qs_driver_session.specs.declared.status.FileKind.TheVariants as kinds
use Rattle.qs_driver_session.specs.declared.status.SourceFault.TheVariants.{TooLong, Lex, Syntax, Typing}
use Rattle.qs_driver_session.specs.declared.status.Status.{Status}
use Rattle.qs_driver_session.specs.declared.status.Status.TheVariants.{Source, Missing}
use Rattle.qs_driver_session.specs.declared.status.TokenPlace.{TokenPlace}
use Rattle.qs_driver_session.proofs.SeenLaws.{seen_exactly}
use Rattle.qs_driver_session.proofs.SourceLaws.{no_unit, syntax_no_unit, lex_or_tokens}

-- ---- by the files alone

module _ (name : List ℕ) (files : Files) where
  gone : Stops (origin name) 3 files (Missing kinds.Source) → files name ≡ None
  gone (absent, c, e) = c
  gone (long, c, e) = absurd cc

  too_much : Stops (origin name) 3 files (Source (TooLong kinds.Source)) → IsTooLong (files name) source_limit
  too_much (absent, c, e) = absurd cc
  too_much (long, c, e) = c

  lexical : (fault : LexFault) (pos : Pos) → Stops (origin name) 4 files (Source (Lex fault pos)) → HoldsText (files name) (λ text. HasLexFault text fault pos)
  lexical fault pos (text, there, (f, c, e)) =
      let same_fault : f.fault ≡ fault = cc in
      let same_place : f.pos ≡ pos = cc in
      record { content = text; holds = there; has = subst (λ (x : LexFault). HasLexFault text x pos) same_fault (subst (λ (x : Pos). HasLexFault text f.fault x) same_place c) }

  syntactic : (fault : SyntaxFault) (place : TokenPlace) → Stops (origin name) 5 files (Source (Syntax fault place)) → HoldsText (files name) (λ text. HasSyntaxFault text fault place)
  syntactic fault place (text, there, (u, l, (f, c, e))) =
      let same_fault : f.fault ≡ fault = cc in
      let same_place : f.place ≡ place = cc in
      record { content = text; holds = there; has = subst (λ (x : SyntaxFault). HasSyntaxFault text x place) same_fault (subst (λ (x : TokenPlace). HasSyntaxFault text f.fault x) same_place c) }

  ill_typed : (fault : TypeFault) (place : Option Pos) → Stops (origin name) 6 files (Source (Typing fault place)) → HoldsText (files name) (λ text. HasTypeFault text fault place)
  ill_typed fault place (text, there, (u, l, (v, p, (f, c, e)))) =
      let same_fault : f.fault ≡ fault = cc in
      let same_place : f.place ≡ place = cc in
      record { content = text; holds = there; has = subst (λ (x : TypeFault). HasTypeFault text x place) same_fault (subst (λ (x : Option Pos). HasTypeFault text f.fault x) same_place c) }

  at_lexical : (fault : LexFault) (pos : Pos) → HoldsText (files name) (λ text. HasLexFault text fault pos) → Stops (origin name) 4 files (Source (Lex fault pos))
  at_lexical fault pos h = (h.content, h.holds, (record { fault = fault; pos = pos }, h.has, refl))

  at_syntactic : (fault : SyntaxFault) (place : TokenPlace) → HoldsText (files name) (λ text. HasSyntaxFault text fault place) → Stops (origin name) 5 files (Source (Syntax fault place))
  at_syntactic fault place h = (h.content, h.holds, (tt, record { tokens = h.has.tokens; are_tokens = h.has.are_tokens }, (record { fault = fault; place = place }, h.has, refl)))

  at_ill_typed : (fault : TypeFault) (place : Option Pos) → HoldsText (files name) (λ text. HasTypeFault text fault place) → Stops (origin name) 6 files (Source (Typing fault place))
  at_ill_typed fault place h = (h.content, h.holds, (tt, record { tokens = h.has.unit.tokens; are_tokens = h.has.unit.are_tokens }, (tt, h.has.unit, (record { fault = fault; place = place }, h.has, refl))))

-- ---- of a command that begins with the source

module _ (name : List ℕ) (next : List DeclTree → Command tool) (later : (trees : List DeclTree) → StandFrom (next trees) 7) (files : Files) (status : Status) (exact : IsExact (then (origin name) next) files status) where
  -- a refusal of the source comes only where it has its cause
  tells : (r : Status) → number_of r < 7 → status ≡ r → Stops (origin name) (number_of r) files r
  tells r low e = stops_shared next (origin name) (number_of r) 7 low later files r ((exact r (omega (arith, low))).0 e)

  -- and comes where it has
  leads : (r : Status) → number_of r < 7 → seen_as r ≡ exactly r → Stops (origin name) (number_of r) files r → status ≡ r
  leads r low fixed h = seen_exactly status r ((exact r (omega (arith, low))).1 (shared_stops next (origin name) (number_of r) files r h) ∙ fixed)

  -- where the tokens have no reading some fault is told
  some_syntax : Comes end_status (then (origin name) next) files status → HoldsText (files name) IsNoUnit → IsSyntax status
  some_syntax (inl (absent, c, e)) h = absurd (not_absent (files name) h.content c h.holds.there)
  some_syntax (inl (long, c, e)) h = absurd (not_long (files name) source_limit h.content h.holds c)
  some_syntax (inr (text, there, inl (f, c, e))) h = absurd (lex_or_tokens h.content f.fault f.pos h.has.tokens (subst (λ (x : List ℕ). HasLexFault x f.fault f.pos) (one_content (files name) source_limit text h.content there h.holds) c) h.has.are_tokens)
  some_syntax (inr (text, there, inr (u, l, inl (f, c, e)))) h = (f.fault, f.place, e)
  some_syntax (inr (text, there, inr (u, l, inr (v, p, rest)))) h = absurd (no_unit text (subst IsNoUnit (one_content (files name) source_limit h.content text h.holds there) h.has) p)

  no_unit_there : IsSyntax status → HoldsText (files name) IsNoUnit
  no_unit_there (fault, place, e) =
      let h = syntactic name files fault place (tells (Source (Syntax fault place)) (omega arith) e) in
      record { content = h.content; holds = h.holds; has = syntax_no_unit h.content fault place h.has }

  pub source_refused : Comes end_status (then (origin name) next) files status → RefusesSource (files name) status
  source_refused comes = record {
    missing = ((λ e. gone name files (tells (Missing kinds.Source) (omega arith) e)), (λ h. leads (Missing kinds.Source) (omega arith) refl (absent, h, refl)));
    too_long = ((λ e. too_much name files (tells (Source (TooLong kinds.Source)) (omega arith) e)), (λ h. leads (Source (TooLong kinds.Source)) (omega arith) refl (long, h, refl)));
    lexical = λ fault pos. ((λ e. lexical name files fault pos (tells (Source (Lex fault pos)) (omega arith) e)), (λ h. leads (Source (Lex fault pos)) (omega arith) refl (at_lexical name files fault pos h)));
    no_unit = (no_unit_there, some_syntax comes);
    syntactic = λ fault place. ((λ e. syntactic name files fault place (tells (Source (Syntax fault place)) (omega arith) e)), (λ h. leads (Source (Syntax fault place)) (omega arith) refl (at_syntactic name files fault place h)));
    typing = λ fault place. ((λ e. ill_typed name files fault place (tells (Source (Typing fault place)) (omega arith) e)), (λ h. leads (Source (Typing fault place)) (omega arith) refl (at_ill_typed name files fault place h)));
  }
