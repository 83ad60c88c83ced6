-- When a source is refused, where no call failed and memory was found.
use Rattle.std.proofs.Common.{◌≡◌, ◌≢◌, ◌⊎◌, ◌∙◌, ℕ, List, length, Option, Some, None, ap, subst, sym, inl, inr, arith, IsTrue}
use Rattle.qs_base.specs.declared.places.Pos.{Pos}
use Rattle.qs_lexer.specs.declared.fault.LexFault.{LexFault}
use Rattle.qs_parser.specs.declared.syntax_fault.SyntaxFault.{SyntaxFault}
use Rattle.qs_typing_findings.specs.declared.type_fault.TypeFault.{TypeFault}
use Rattle.qs_ports.specs.StoreView.{StoreView}
use Rattle.qs_driver_session.specs.Limits.{source_limit}
use Rattle.qs_driver_steps.specs.Files.{HoldsContent, IsTooLong}
use Rattle.qs_driver_session.specs.Files.{HoldsWith}
use Rattle.qs_driver_session.specs.Files as files
use Rattle.qs_driver_session.specs.Source.{HasLexFault, HasSyntaxFault, HasTypeFault, IsNoUnit, IsTypedUnit, IsSyntax, LacksSource, IsOfSource, missing_source, long_source, ill_spelled, no_reading, RefusesSource}
use Rattle.qs_driver_session.specs.Source as source
use Rattle.qs_driver_steps.specs.Files.{StoreHeld}
use Rattle.qs_driver_session.specs.declared.status.Status.{Status}
use Rattle.qs_driver_session.specs.declared.status.Status.TheVariants.{Done, Source, Missing, NoMemory}
use Rattle.qs_driver_session.specs.declared.status.SourceFault.TheVariants.{TooLong, Lex, Syntax, Typing}
use Rattle.qs_driver_session.specs.declared.status.TokenPlace.{TokenPlace}
use Rattle.qs_driver_session.specs.declared.status.FileKind.TheVariants as kinds
use Rattle.qs_driver_session.proofs.FilesLaws.{held_with, held_long}
use Rattle.qs_driver_session.proofs.SourceLaws.{no_unit, syntax_no_unit, lex_or_tokens, lex_or_unit, same_lex_fault, same_lex_place, same_syntax_fault, same_syntax_place, ill_typed_or_typed, same_type_fault, same_type_place}

-- ---- a file is in one state

pub not_absent : (file : Option (List ℕ)) (content : List ℕ) → file ≡ None → file ≡ Some content → ⊥
not_absent file content a b = cc

pub same_content : (file : Option (List ℕ)) (a b : List ℕ) → file ≡ Some a → file ≡ Some b → a ≡ b
same_content file a b e f = cc

pub one_content : (file : Option (List ℕ)) (limit : ℕ) (a b : List ℕ) → HoldsContent file limit a → HoldsContent file limit b → a ≡ b
one_content file limit a b h k = same_content file a b h.there k.there

pub not_long : (file : Option (List ℕ)) (limit : ℕ) (content : List ℕ) → HoldsContent file limit content → IsTooLong file limit → ⊥
not_long file limit content h l =
    let e = ap length (same_content file content l.content h.there l.there) in
    let w = h.within in
    let m = l.more in
    omega arith

-- two properties that no content has together
pub not_two : (file : Option (List ℕ)) (limit : ℕ) (P Q : List ℕ → Type 0) → ((content : List ℕ) → P content → Q content → ⊥) → HoldsWith file limit P → HoldsWith file limit Q → ⊥
not_two file limit P Q never h k = never k.content (subst P (one_content file limit h.content k.content h.holds k.holds) h.has) k.has

-- ---- how it ends

-- the status is none of those at which a source is refused
pub record IsNoRefusal (status : Status) : Type 0 where
  pub not_missing : status ≢ Missing kinds.Source
  pub not_long : status ≢ Source (TooLong kinds.Source)
  pub not_lexical : (fault : LexFault) (pos : Pos) → status ≢ Source (Lex fault pos)
  pub not_syntactic : (fault : SyntaxFault) (place : TokenPlace) → status ≢ Source (Syntax fault place)
  pub not_typing : (fault : TypeFault) (place : Option Pos) → status ≢ Source (Typing fault place)

pub done_is_none : (status : Status) → status ≡ Done → IsNoRefusal status
done_is_none status e = record { not_missing = λ f. cc; not_long = λ f. cc; not_lexical = λ fault pos f. cc; not_syntactic = λ fault place f. cc; not_typing = λ fault place f. cc }

pub data SourceEnds (file : Option (List ℕ)) (status : Status) : Type 0 where
  absent : file ≡ None → status ≡ Missing kinds.Source → SourceEnds file status
  long : IsTooLong file source_limit → status ≡ Source (TooLong kinds.Source) → SourceEnds file status
  lexical : (fault : LexFault) (pos : Pos) → HoldsWith file source_limit (λ text. HasLexFault text fault pos) → status ≡ Source (Lex fault pos) → SourceEnds file status
  syntactic : (fault : SyntaxFault) (place : TokenPlace) → HoldsWith file source_limit (λ text. HasSyntaxFault text fault place) → status ≡ Source (Syntax fault place) → SourceEnds file status
  ill_typed : (fault : TypeFault) (place : Option Pos) → HoldsWith file source_limit (λ text. HasTypeFault text fault place) → status ≡ Source (Typing fault place) → SourceEnds file status
  good : HoldsWith file source_limit IsTypedUnit → IsNoRefusal status → SourceEnds file status

pub source_ends : (v w : StoreView) (name : List ℕ) (status : Status) → StoreHeld v w → IsTrue v.told → LacksSource v w name status → SourceEnds (v.files name) status ⊎ (status ≡ NoMemory)
source_ends v w name status n told (source.unread (files.missing m e)) = inl (absent (m.absent told) e)
source_ends v w name status n told (source.unread (files.unreadable f e)) = absurd (n f.failed.rose)
source_ends v w name status n told (source.unread (files.too_long l e)) = inl (long (held_long l told) e)
source_ends v w name status n told (source.unread (files.no_memory u e)) = inr e
source_ends v w name status n told (source.lex_fault fault pos u f e) = inl (lexical fault pos (held_with f told) e)
source_ends v w name status n told (source.syntax_fault fault place u f e) = inl (syntactic fault place (held_with f told) e)
source_ends v w name status n told (source.type_fault fault place u f e) = inl (ill_typed fault place (held_with f told) e)
source_ends v w name status n told (source.no_memory u e) = inr e

-- the status is one of those at which a source is refused
pub source_own : (v w : StoreView) (name : List ℕ) (status : Status) → StoreHeld v w → LacksSource v w name status → IsOfSource status ⊎ (status ≡ NoMemory)
source_own v w name status n (source.unread (files.missing m e)) = inl (subst IsOfSource (sym e) missing_source)
source_own v w name status n (source.unread (files.unreadable f e)) = absurd (n f.failed.rose)
source_own v w name status n (source.unread (files.too_long l e)) = inl (subst IsOfSource (sym e) long_source)
source_own v w name status n (source.unread (files.no_memory u e)) = inr e
source_own v w name status n (source.lex_fault fault pos u f e) = inl (subst IsOfSource (sym e) (ill_spelled fault pos))
source_own v w name status n (source.syntax_fault fault place u f e) = inl (subst IsOfSource (sym e) (no_reading fault place))
source_own v w name status n (source.type_fault fault place u f e) = inl (subst IsOfSource (sym e) (source.ill_typed fault place))
source_own v w name status n (source.no_memory u e) = inr e

-- a source that is refused is no typed unit
pub source_no_unit : (v w : StoreView) (name : List ℕ) (status : Status) → StoreHeld v w → LacksSource v w name status → (IsTrue v.told → HoldsWith (v.files name) source_limit IsTypedUnit → ⊥) ⊎ (status ≡ NoMemory)
source_no_unit v w name status n (source.unread (files.missing m e)) = inl (λ told h. not_absent (v.files name) h.content (m.absent told) h.holds.there)
source_no_unit v w name status n (source.unread (files.unreadable f e)) = absurd (n f.failed.rose)
source_no_unit v w name status n (source.unread (files.too_long l e)) = inl (λ told h. not_long (v.files name) source_limit h.content h.holds (held_long l told))
source_no_unit v w name status n (source.unread (files.no_memory u e)) = inr e
source_no_unit v w name status n (source.lex_fault fault pos u f e) = inl (λ told h. not_two (v.files name) source_limit (λ text. HasLexFault text fault pos) IsTypedUnit (λ text a b. lex_or_unit text fault pos a b.unit) (held_with f told) h)
source_no_unit v w name status n (source.syntax_fault fault place u f e) = inl (λ told h. not_two (v.files name) source_limit (λ text. HasSyntaxFault text fault place) IsTypedUnit (λ text a b. no_unit text (syntax_no_unit text fault place a) b.unit) (held_with f told) h)
source_no_unit v w name status n (source.type_fault fault place u f e) = inl (λ told h. not_two (v.files name) source_limit (λ text. HasTypeFault text fault place) IsTypedUnit (λ text a b. ill_typed_or_typed text fault place a b) (held_with f told) h)
source_no_unit v w name status n (source.no_memory u e) = inr e

-- ---- what the status tells of the file

tells_missing : (file : Option (List ℕ)) (status : Status) → SourceEnds file status → status ≡ Missing kinds.Source → file ≡ None
tells_missing file status (absent a e) f = a
tells_missing file status (long l e) f = absurd cc
tells_missing file status (lexical fault pos h e) f = absurd cc
tells_missing file status (syntactic fault place h e) f = absurd cc
tells_missing file status (ill_typed fault place h e) f = absurd cc
tells_missing file status (good h none) f = absurd (none.not_missing f)

tells_long : (file : Option (List ℕ)) (status : Status) → SourceEnds file status → status ≡ Source (TooLong kinds.Source) → IsTooLong file source_limit
tells_long file status (absent a e) f = absurd cc
tells_long file status (long l e) f = l
tells_long file status (lexical fault pos h e) f = absurd cc
tells_long file status (syntactic fault place h e) f = absurd cc
tells_long file status (ill_typed fault place h e) f = absurd cc
tells_long file status (good h none) f = absurd (none.not_long f)

tells_lexical : (file : Option (List ℕ)) (status : Status) → SourceEnds file status → (fault : LexFault) (pos : Pos) → status ≡ Source (Lex fault pos) → HoldsWith file source_limit (λ text. HasLexFault text fault pos)
tells_lexical file status (absent a e) g q f = absurd cc
tells_lexical file status (long l e) g q f = absurd cc
tells_lexical file status (lexical fault pos h e) g q f =
    let both : ◌≡◌ {A = Status} (Source (Lex fault pos)) (Source (Lex g q)) = sym e ∙ f in
    let same_fault : fault ≡ g = cc in
    let same_place : pos ≡ q = cc in
    subst (λ (x : LexFault). HoldsWith file source_limit (λ text. HasLexFault text x q)) same_fault (subst (λ (x : Pos). HoldsWith file source_limit (λ text. HasLexFault text fault x)) same_place h)
tells_lexical file status (syntactic fault place h e) g q f = absurd cc
tells_lexical file status (ill_typed fault place h e) g q f = absurd cc
tells_lexical file status (good h none) g q f = absurd (none.not_lexical g q f)

tells_no_unit : (file : Option (List ℕ)) (status : Status) → SourceEnds file status → IsSyntax status → HoldsWith file source_limit IsNoUnit
tells_no_unit file status (absent a e) (g, q, f) = absurd cc
tells_no_unit file status (long l e) (g, q, f) = absurd cc
tells_no_unit file status (lexical fault pos h e) (g, q, f) = absurd cc
tells_no_unit file status (syntactic fault place h e) s = record { content = h.content; holds = h.holds; has = syntax_no_unit h.content fault place h.has }
tells_no_unit file status (ill_typed fault place h e) (g, q, f) = absurd cc
tells_no_unit file status (good h none) (g, q, f) = absurd (none.not_syntactic g q f)

tells_syntactic : (file : Option (List ℕ)) (status : Status) → SourceEnds file status → (fault : SyntaxFault) (place : TokenPlace) → status ≡ Source (Syntax fault place) → HoldsWith file source_limit (λ text. HasSyntaxFault text fault place)
tells_syntactic file status (absent a e) g q f = absurd cc
tells_syntactic file status (long l e) g q f = absurd cc
tells_syntactic file status (lexical fault pos h e) g q f = absurd cc
tells_syntactic file status (syntactic fault place h e) g q f =
    let both : ◌≡◌ {A = Status} (Source (Syntax fault place)) (Source (Syntax g q)) = sym e ∙ f in
    let same_fault : fault ≡ g = cc in
    let same_place : place ≡ q = cc in
    subst (λ (x : SyntaxFault). HoldsWith file source_limit (λ text. HasSyntaxFault text x q)) same_fault (subst (λ (x : TokenPlace). HoldsWith file source_limit (λ text. HasSyntaxFault text fault x)) same_place h)
tells_syntactic file status (ill_typed fault place h e) g q f = absurd cc
tells_syntactic file status (good h none) g q f = absurd (none.not_syntactic g q f)

tells_typing : (file : Option (List ℕ)) (status : Status) → SourceEnds file status → (fault : TypeFault) (place : Option Pos) → status ≡ Source (Typing fault place) → HoldsWith file source_limit (λ text. HasTypeFault text fault place)
tells_typing file status (absent a e) g q f = absurd cc
tells_typing file status (long l e) g q f = absurd cc
tells_typing file status (lexical fault pos h e) g q f = absurd cc
tells_typing file status (syntactic fault place h e) g q f = absurd cc
tells_typing file status (ill_typed fault place h e) g q f =
    let both : ◌≡◌ {A = Status} (Source (Typing fault place)) (Source (Typing g q)) = sym e ∙ f in
    let same_fault : fault ≡ g = cc in
    let same_place : place ≡ q = cc in
    subst (λ (x : TypeFault). HoldsWith file source_limit (λ text. HasTypeFault text x q)) same_fault (subst (λ (x : Option Pos). HoldsWith file source_limit (λ text. HasTypeFault text fault x)) same_place h)
tells_typing file status (good h none) g q f = absurd (none.not_typing g q f)

-- ---- what the file leads to

leads_missing : (file : Option (List ℕ)) (status : Status) → SourceEnds file status → file ≡ None → status ≡ Missing kinds.Source
leads_missing file status (absent a e) x = e
leads_missing file status (long l e) x = absurd (not_absent file l.content x l.there)
leads_missing file status (lexical fault pos h e) x = absurd (not_absent file h.content x h.holds.there)
leads_missing file status (syntactic fault place h e) x = absurd (not_absent file h.content x h.holds.there)
leads_missing file status (ill_typed fault place h e) x = absurd (not_absent file h.content x h.holds.there)
leads_missing file status (good h none) x = absurd (not_absent file h.content x h.holds.there)

leads_long : (file : Option (List ℕ)) (status : Status) → SourceEnds file status → IsTooLong file source_limit → status ≡ Source (TooLong kinds.Source)
leads_long file status (absent a e) x = absurd (not_absent file x.content a x.there)
leads_long file status (long l e) x = e
leads_long file status (lexical fault pos h e) x = absurd (not_long file source_limit h.content h.holds x)
leads_long file status (syntactic fault place h e) x = absurd (not_long file source_limit h.content h.holds x)
leads_long file status (ill_typed fault place h e) x = absurd (not_long file source_limit h.content h.holds x)
leads_long file status (good h none) x = absurd (not_long file source_limit h.content h.holds x)

leads_lexical : (file : Option (List ℕ)) (status : Status) → SourceEnds file status → (fault : LexFault) (pos : Pos) → HoldsWith file source_limit (λ text. HasLexFault text fault pos) → status ≡ Source (Lex fault pos)
leads_lexical file status (absent a e) g q x = absurd (not_absent file x.content a x.holds.there)
leads_lexical file status (long l e) g q x = absurd (not_long file source_limit x.content x.holds l)
leads_lexical file status (lexical fault pos h e) g q x =
    let there : HasLexFault x.content fault pos = subst (λ (text : List ℕ). HasLexFault text fault pos) (one_content file source_limit h.content x.content h.holds x.holds) h.has in
    e ∙ ap (λ y. Source (Lex y pos)) (same_lex_fault x.content fault g pos q there x.has) ∙ ap (λ y. Source (Lex g y)) (same_lex_place x.content fault g pos q there x.has)
leads_lexical file status (syntactic fault place h e) g q x = absurd (not_two file source_limit (λ text. HasSyntaxFault text fault place) (λ text. HasLexFault text g q) (λ text a b. lex_or_tokens text g q a.tokens b a.are_tokens) h x)
leads_lexical file status (ill_typed fault place h e) g q x = absurd (not_two file source_limit (λ text. HasTypeFault text fault place) (λ text. HasLexFault text g q) (λ text a b. lex_or_unit text g q b a.unit) h x)
leads_lexical file status (good h none) g q x = absurd (not_two file source_limit IsTypedUnit (λ text. HasLexFault text g q) (λ text a b. lex_or_unit text g q b a.unit) h x)

leads_no_unit : (file : Option (List ℕ)) (status : Status) → SourceEnds file status → HoldsWith file source_limit IsNoUnit → IsSyntax status
leads_no_unit file status (absent a e) x = absurd (not_absent file x.content a x.holds.there)
leads_no_unit file status (long l e) x = absurd (not_long file source_limit x.content x.holds l)
leads_no_unit file status (lexical fault pos h e) x = absurd (not_two file source_limit (λ text. HasLexFault text fault pos) IsNoUnit (λ text a b. lex_or_tokens text fault pos b.tokens a b.are_tokens) h x)
leads_no_unit file status (syntactic fault place h e) x = (fault, place, e)
leads_no_unit file status (ill_typed fault place h e) x = absurd (not_two file source_limit IsNoUnit (λ text. HasTypeFault text fault place) (λ text a b. no_unit text a b.unit) x h)
leads_no_unit file status (good h none) x = absurd (not_two file source_limit IsNoUnit IsTypedUnit (λ text a b. no_unit text a b.unit) x h)

leads_syntactic : (file : Option (List ℕ)) (status : Status) → SourceEnds file status → (fault : SyntaxFault) (place : TokenPlace) → HoldsWith file source_limit (λ text. HasSyntaxFault text fault place) → status ≡ Source (Syntax fault place)
leads_syntactic file status (absent a e) g q x = absurd (not_absent file x.content a x.holds.there)
leads_syntactic file status (long l e) g q x = absurd (not_long file source_limit x.content x.holds l)
leads_syntactic file status (lexical fault pos h e) g q x = absurd (not_two file source_limit (λ text. HasLexFault text fault pos) (λ text. HasSyntaxFault text g q) (λ text a b. lex_or_tokens text fault pos b.tokens a b.are_tokens) h x)
leads_syntactic file status (syntactic fault place h e) g q x =
    let there : HasSyntaxFault x.content fault place = subst (λ (text : List ℕ). HasSyntaxFault text fault place) (one_content file source_limit h.content x.content h.holds x.holds) h.has in
    e ∙ ap (λ y. Source (Syntax y place)) (same_syntax_fault x.content fault g place q there x.has) ∙ ap (λ y. Source (Syntax g y)) (same_syntax_place x.content fault g place q there x.has)
leads_syntactic file status (ill_typed fault place h e) g q x = absurd (not_two file source_limit (λ text. HasSyntaxFault text g q) (λ text. HasTypeFault text fault place) (λ text a b. no_unit text (syntax_no_unit text g q a) b.unit) x h)
leads_syntactic file status (good h none) g q x = absurd (not_two file source_limit (λ text. HasSyntaxFault text g q) IsTypedUnit (λ text a b. no_unit text (syntax_no_unit text g q a) b.unit) x h)

leads_typing : (file : Option (List ℕ)) (status : Status) → SourceEnds file status → (fault : TypeFault) (place : Option Pos) → HoldsWith file source_limit (λ text. HasTypeFault text fault place) → status ≡ Source (Typing fault place)
leads_typing file status (absent a e) g q x = absurd (not_absent file x.content a x.holds.there)
leads_typing file status (long l e) g q x = absurd (not_long file source_limit x.content x.holds l)
leads_typing file status (lexical fault pos h e) g q x = absurd (not_two file source_limit (λ text. HasLexFault text fault pos) (λ text. HasTypeFault text g q) (λ text a b. lex_or_unit text fault pos a b.unit) h x)
leads_typing file status (syntactic fault place h e) g q x = absurd (not_two file source_limit (λ text. HasSyntaxFault text fault place) (λ text. HasTypeFault text g q) (λ text a b. no_unit text (syntax_no_unit text fault place a) b.unit) h x)
leads_typing file status (ill_typed fault place h e) g q x =
    let there : HasTypeFault x.content fault place = subst (λ (text : List ℕ). HasTypeFault text fault place) (one_content file source_limit h.content x.content h.holds x.holds) h.has in
    e ∙ ap (λ y. Source (Typing y place)) (same_type_fault x.content fault g place q there x.has) ∙ ap (λ y. Source (Typing g y)) (same_type_place x.content fault g place q there x.has)
leads_typing file status (good h none) g q x = absurd (not_two file source_limit IsTypedUnit (λ text. HasTypeFault text g q) (λ text a b. ill_typed_or_typed text g q b a) h x)

pub refuses_source : (file : Option (List ℕ)) (status : Status) → SourceEnds file status → RefusesSource file status
refuses_source file status s = record {
  missing = (tells_missing file status s, leads_missing file status s);
  too_long = (tells_long file status s, leads_long file status s);
  lexical = λ fault pos. (tells_lexical file status s fault pos, leads_lexical file status s fault pos);
  no_unit = (tells_no_unit file status s, leads_no_unit file status s);
  syntactic = λ fault place. (tells_syntactic file status s fault place, leads_syntactic file status s fault place);
  typing = λ fault place. (tells_typing file status s fault place, leads_typing file status s fault place);
}
