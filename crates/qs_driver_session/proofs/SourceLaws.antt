-- What is wrong with a text.
use Rattle.std.proofs.Common.{◌≡◌, ◌≢◌, inl, inr, ℕ, ◌<◌, ◌≤◌, List, length, get_or, Option, Some, None, Err, slice_get, refl, ap, subst, sym, ◌∙◌, arith}
use Rattle.std.proofs.lemmas.Option.{slice_get-get_or, slice_get_within, same_Some}
use Rattle.qs_base.specs.declared.places.Pos.{Pos}
use Rattle.qs_syntax_vocabulary.specs.declared.tokens.Token.{Token}
use Rattle.qs_syntax.specs.declared.nodes.Node.{Node}
use Rattle.qs_syntax.specs.Nodes.{unit_count, unit_nodes}
use Rattle.qs_syntax.specs.Numbering.{numbered_unit}
use Rattle.qs_syntax.specs.Trees.{DeclTree}
use Rattle.qs_lexer.specs.Terminals.{terminals}
use Rattle.qs_lexer.specs.Tokens.{Tokens, LexFaultAt}
use Rattle.qs_lexer.specs.Results.{SaysFault, fault_at}
use Rattle.qs_lexer.specs.declared.fault.FaultKind.{FaultKind}
use Rattle.qs_lexer.specs.declared.fault.FaultKind.TheVariants as kinds
use Rattle.qs_lexer.specs.declared.fault.LexFault.{LexFault}
use Rattle.qs_lexer.specs.declared.fault.LexFault.TheVariants as faults
use Rattle.qs_lexer.proofs.OneReading.{not_both, one_list, one_place, one_kind}
use Rattle.qs_lexer.proofs.TerminalLaws.{as_many}
use Rattle.qs_parser.specs.Answers.{Answers, HasFault, HasNoReading, ReadsAs}
use Rattle.qs_syntax_vocabulary.specs.declared.terminal.Terminal.{Terminal}
use Rattle.qs_parser.proofs.Top.{has_none, faults_are_unique}
use Rattle.qs_parser.specs.declared.syntax_fault.SyntaxFault.{SyntaxFault}
use Rattle.qs_parser.specs.declared.syntax_fault.SyntaxFault.TheVariants as syntax
use Rattle.qs_parser_grammar.proofs.UnitsComplete.{one_reading}
use Rattle.qs_typing_findings.specs.Refusals.{IsAccepted, IsCause, IsTold, first_refusal}
use Rattle.qs_typing_findings.specs.declared.type_fault.TypeFault.{TypeFault}
use Rattle.qs_typing_findings.specs.declared.type_fault.TypeFault.TheVariants as type_faults
use Rattle.qs_typing.proofs.CheckingLaws.{nothing_refused}
use Rattle.qs_ports.specs.StoreView.{StoreView}
use Rattle.qs_driver_session.specs.Limits.{source_limit}
use Rattle.qs_driver_session.specs.Files.{WasRead}
use Rattle.qs_driver_session.specs.Source.{IsPlaceOf, IsTokenPlace, IsNodeStart, IsNodePlace, byte_of, number_of, node_of, HasLexFault, HasSyntaxFault, HasTypeFault, IsNoUnit, IsUnit, IsTypedUnit, IsTypedAs, RefusesText, has_lex_fault, has_syntax_fault, has_type_fault, lacks_memory, LacksSource, lex_fault, syntax_fault, type_fault, no_memory}
use Rattle.qs_driver_session.specs.declared.status.Status.{Status}
use Rattle.qs_driver_session.specs.declared.status.Status.TheVariants.{Source}
use Rattle.qs_driver_session.specs.declared.status.SourceFault.TheVariants.{Lex, Syntax, Typing}
use Rattle.qs_driver_session.specs.declared.status.TokenPlace.{TokenPlace}
use Rattle.qs_driver_session.specs.declared.status.TokenPlace.TheVariants.{At, End}
use Rattle.qs_driver_session.proofs.FaultNodes.{named_is_low}
use Rattle.qs_driver_session.proofs.NodeTokens.{token_is_low}

-- ---- what is answered of a text

has_fault : (text : List ℕ) (fault : LexFault) (kind : FaultKind) (found at : ℕ) (pos : Pos) → fault ≡ fault_at kind found → LexFaultAt text kind found → Some found ≡ Some at → IsPlaceOf text at pos → RefusesText text (Source (Lex fault pos))
has_fault text fault kind found at pos is stands e place =
    let same : at ≡ found = cc in
    has_lex_fault fault pos (record { kind = kind; at = found; is = is; stands = stands; place = subst (λ (k : ℕ). IsPlaceOf text k pos) same place }) refl

pub is_lexical : (text : List ℕ) (fault : LexFault) (at : ℕ) (pos : Pos) → SaysFault text fault → byte_of fault ≡ Some at → IsPlaceOf text at pos → RefusesText text (Source (Lex fault pos))
is_lexical text faults.NoMemory at pos says e place = absurd cc
is_lexical text (faults.BadByte found) at pos says e place = has_fault text (faults.BadByte found) kinds.BadByte found at pos refl says e place
is_lexical text (faults.OpenComment found) at pos says e place = has_fault text (faults.OpenComment found) kinds.OpenComment found at pos refl says e place
is_lexical text (faults.BadLiteral found) at pos says e place = has_fault text (faults.BadLiteral found) kinds.BadLiteral found at pos refl says e place
is_lexical text (faults.WideLiteral found) at pos says e place = has_fault text (faults.WideLiteral found) kinds.WideLiteral found at pos refl says e place
is_lexical text (faults.Directive found) at pos says e place = has_fault text (faults.Directive found) kinds.Directive found at pos refl says e place
is_lexical text (faults.OpenText found) at pos says e place = has_fault text (faults.OpenText found) kinds.OpenText found at pos refl says e place

-- a fault names a token or the end, and its tokens have no reading that is low enough
within_of : (ts : List Terminal) (fault : SyntaxFault) (number : ℕ) → HasFault ts fault → number_of fault ≡ Some number → number ≤ length ts
within_of ts syntax.NoMemory number has e = absurd cc
within_of ts (syntax.Unexpected found) number has e = let same : found ≡ number = cc in subst (λ (k : ℕ). k ≤ length ts) same has.within
within_of ts (syntax.TooDeep found) number has e = let same : found ≡ number = cc in let low : found < length ts = has.within in subst (λ (k : ℕ). k ≤ length ts) same (omega arith)

-- a fault that names a token is not want of memory
names_some : (fault : SyntaxFault) (number : ℕ) → number_of fault ≡ Some number → fault ≢ syntax.NoMemory
names_some syntax.NoMemory number e memory = absurd cc
names_some (syntax.Unexpected found) number e memory = absurd cc
names_some (syntax.TooDeep found) number e memory = absurd cc

pub within_tokens : (text : List ℕ) (tokens : List Token) (fault : SyntaxFault) (number : ℕ) → Answers (terminals text 0 tokens) (Err fault) → number_of fault ≡ Some number → number ≤ length tokens
within_tokens text tokens fault number says e = subst (λ (k : ℕ). number ≤ k) (as_many text 0 tokens) (within_of (terminals text 0 tokens) fault number says e)

pub is_syntactic : (text : List ℕ) (tokens : List Token) (fault : SyntaxFault) (number : ℕ) (place : TokenPlace) → Tokens text tokens → Answers (terminals text 0 tokens) (Err fault) → number_of fault ≡ Some number → IsTokenPlace text tokens number place → RefusesText text (Source (Syntax fault place))
is_syntactic text tokens fault number place t says e p = has_syntax_fault fault place (record {
  tokens = tokens;
  are_tokens = t;
  number = number;
  names = e;
  stands = says;
  place_is = p;
}) refl

-- ---- what is answered of a unit

abbrev pub unit_of : (text : List ℕ) (tokens : List Token) (trees : List DeclTree) → Tokens text tokens → ReadsAs (terminals text 0 tokens) trees → IsUnit text
unit_of text tokens trees t r = record { tokens = tokens; are_tokens = t; trees = trees; reads = r }

-- the unit isn't refused
abbrev pub is_typed : (text : List ℕ) (tokens : List Token) (trees : List DeclTree) → Tokens text tokens → ReadsAs (terminals text 0 tokens) trees → IsAccepted trees → IsTypedUnit text
is_typed text tokens trees t r a = record { unit = unit_of text tokens trees t r; well_typed = a.well_typed; within_limits = a.within_limits }

-- the fault isn't want of memory
pub is_cause : (trees : List DeclTree) (fault : TypeFault) → (fault ≡ type_faults.NoMemory → ⊥) → IsTold trees fault → IsCause trees fault
is_cause trees fault other (inl e) = absurd (other e)
is_cause trees fault other (inr c) = c

-- a node's number is below the count of nodes, and that of its token below the count of tokens
pub node_is_there : (text : List ℕ) (tokens : List Token) (trees : List DeclTree) (fault : TypeFault) (number : ℕ) → ReadsAs (terminals text 0 tokens) trees → IsCause trees fault → node_of fault ≡ Some number → number < unit_count trees
node_is_there text tokens trees fault number r c names = named_is_low (terminals text 0 tokens) trees fault number r c.first names

pub token_is_there : (text : List ℕ) (tokens : List Token) (trees : List DeclTree) (number token : ℕ) → ReadsAs (terminals text 0 tokens) trees → slice_get (unit_nodes trees) number ≡ Some (record { id = number; token = token }) → token < length tokens
token_is_there text tokens trees number token r is = token_is_low text tokens trees number (record { id = number; token = token }) r is

pub starts_there : (text : List ℕ) (tokens : List Token) (trees : List DeclTree) (number token : ℕ) (d : Token) (pos : Pos) → slice_get (unit_nodes trees) number ≡ Some (record { id = number; token = token }) → token < length tokens → IsPlaceOf text (get_or tokens token d).start pos → IsNodeStart text tokens trees number pos
starts_there text tokens trees number token d pos is there place = record {
  node = record { id = number; token = token };
  is = is;
  start = record { token = get_or tokens token d; is = slice_get-get_or tokens token d there; place = place };
}

place_of_node : (text : List ℕ) (tokens : List Token) (trees : List DeclTree) (named : Option ℕ) (number : ℕ) (pos : Pos) → named ≡ Some number → IsNodeStart text tokens trees number pos → IsNodePlace text tokens trees named (Some pos)
place_of_node text tokens trees None number pos e s = absurd cc
place_of_node text tokens trees (Some found) number pos e s = let same : found ≡ number = cc in subst (λ (k : ℕ). IsNodeStart text tokens trees k pos) (sym same) s

pub is_ill_typed_at : (text : List ℕ) (tokens : List Token) (trees : List DeclTree) (fault : TypeFault) (number : ℕ) (pos : Pos) → Tokens text tokens → ReadsAs (terminals text 0 tokens) trees → IsCause trees fault → node_of fault ≡ Some number → IsNodeStart text tokens trees number pos → RefusesText text (Source (Typing fault (Some pos)))
is_ill_typed_at text tokens trees fault number pos t r c names s = has_type_fault fault (Some pos) (record {
  unit = unit_of text tokens trees t r;
  cause = c;
  place_is = place_of_node text tokens trees (node_of fault) number pos names s;
}) refl

no_main : (text : List ℕ) (tokens : List Token) (trees : List DeclTree) → Tokens text tokens → ReadsAs (terminals text 0 tokens) trees → IsTold trees type_faults.NoMain → RefusesText text (Source (Typing type_faults.NoMain None))
no_main text tokens trees t r told = has_type_fault type_faults.NoMain None (record {
  unit = unit_of text tokens trees t r;
  cause = is_cause trees type_faults.NoMain (λ e. cc) told;
  place_is = tt;
}) refl

pub has_no_main : (text : List ℕ) (tokens : List Token) (trees : List DeclTree) (fault : TypeFault) → fault ≡ type_faults.NoMain → Tokens text tokens → ReadsAs (terminals text 0 tokens) trees → IsTold trees fault → RefusesText text (Source (Typing fault None))
has_no_main text tokens trees fault e t r told =
    let P : TypeFault → Type 0 = λ f. RefusesText text (Source (Typing f None)) in
    let Q : TypeFault → Type 0 = λ f. IsTold trees f in
    subst P (sym e) (no_main text tokens trees t r (subst Q e told))

-- ---- a text has one fault, or is a unit

pub no_unit : (text : List ℕ) → IsNoUnit text → IsUnit text → ⊥
no_unit text n u =
    let same : u.tokens ≡ n.tokens = one_list text u.tokens n.tokens u.are_tokens n.are_tokens in
    let none : HasNoReading (terminals text 0 u.tokens) = subst (λ (ts : List Token). HasNoReading (terminals text 0 ts)) (sym same) n.none in
    none u.reads.height u.reads.unnumbered u.reads.reads u.reads.low

pub syntax_no_unit : (text : List ℕ) (fault : SyntaxFault) (place : TokenPlace) → HasSyntaxFault text fault place → IsNoUnit text
syntax_no_unit text fault place f = record { tokens = f.tokens; are_tokens = f.are_tokens; none = has_none (terminals text 0 f.tokens) fault (names_some fault f.number f.names) f.stands }

pub lex_or_tokens : (text : List ℕ) (fault : LexFault) (pos : Pos) (tokens : List Token) → HasLexFault text fault pos → Tokens text tokens → ⊥
lex_or_tokens text fault pos tokens f t = not_both text tokens f.kind f.at t f.stands

abbrev pos_of : ℕ → ℕ → Pos
pos_of line column = record { line = line; column = column }

pub same_pos : (text : List ℕ) (at : ℕ) (p q : Pos) → IsPlaceOf text at p → IsPlaceOf text at q → p ≡ q
same_pos text at p q a b =
    let l : p.line ≡ q.line = a.line ∙ sym b.line in
    let c : p.column ≡ q.column = a.column ∙ sym b.column in
    ap (λ (x : ℕ). pos_of x p.column) l ∙ ap (λ (y : ℕ). pos_of q.line y) c

pub same_lex_fault : (text : List ℕ) (f g : LexFault) (p q : Pos) → HasLexFault text f p → HasLexFault text g q → f ≡ g
same_lex_fault text f g p q a b =
    let kind : a.kind ≡ b.kind = one_kind text a.kind b.kind a.at b.at a.stands b.stands in
    let at : a.at ≡ b.at = one_place text a.kind b.kind a.at b.at a.stands b.stands in
    a.is ∙ ap (λ k. fault_at k a.at) kind ∙ ap (fault_at b.kind) at ∙ sym b.is

pub same_lex_place : (text : List ℕ) (f g : LexFault) (p q : Pos) → HasLexFault text f p → HasLexFault text g q → p ≡ q
same_lex_place text f g p q a b =
    let at : a.at ≡ b.at = one_place text a.kind b.kind a.at b.at a.stands b.stands in
    same_pos text b.at p q (subst (λ (k : ℕ). IsPlaceOf text k p) at a.place) b.place

pub same_syntax_fault : (text : List ℕ) (f g : SyntaxFault) (p q : TokenPlace) → HasSyntaxFault text f p → HasSyntaxFault text g q → f ≡ g
same_syntax_fault text f g p q a b =
    let tokens : a.tokens ≡ b.tokens = one_list text a.tokens b.tokens a.are_tokens b.are_tokens in
    let there : HasFault (terminals text 0 b.tokens) f = subst (λ (ts : List Token). HasFault (terminals text 0 ts) f) tokens a.stands in
    faults_are_unique (terminals text 0 b.tokens) f g there b.stands (names_some f a.number a.names) (names_some g b.number b.names)

token_or_end : (tokens : List Token) (number : ℕ) (token : Token) → slice_get tokens number ≡ Some token → number ≡ length tokens → ⊥
token_or_end tokens number token is all = let there : number < length tokens = slice_get_within tokens number token is in omega (arith, there, all)

same_token_place : (text : List ℕ) (tokens : List Token) (number : ℕ) (p q : TokenPlace) → IsTokenPlace text tokens number p → IsTokenPlace text tokens number q → p ≡ q
same_token_place text tokens number (At p) (At q) a b =
    let token : a.token ≡ b.token = same_Some a.token b.token (sym a.is ∙ b.is) in
    ap At (same_pos text b.token.start p q (subst (λ (t : Token). IsPlaceOf text t.start p) token a.place) b.place)
same_token_place text tokens number (At p) (End q) a b = absurd (token_or_end tokens number a.token a.is b.all)
same_token_place text tokens number (End p) (At q) a b = absurd (token_or_end tokens number b.token b.is a.all)
same_token_place text tokens number (End p) (End q) a b = ap End (same_pos text (length text) p q a.place b.place)

pub same_syntax_place : (text : List ℕ) (f g : SyntaxFault) (p q : TokenPlace) → HasSyntaxFault text f p → HasSyntaxFault text g q → p ≡ q
same_syntax_place text f g p q a b =
    let tokens : a.tokens ≡ b.tokens = one_list text a.tokens b.tokens a.are_tokens b.are_tokens in
    let number : a.number ≡ b.number = same_Some a.number b.number (sym a.names ∙ ap number_of (same_syntax_fault text f g p q a b) ∙ b.names) in
    let P : List Token → Type 0 = λ ts. IsTokenPlace text ts a.number p in
    let Q : ℕ → Type 0 = λ k. IsTokenPlace text b.tokens k p in
    same_token_place text b.tokens b.number p q (subst Q number (subst P tokens a.place_is)) b.place_is

-- ---- a text is one unit

same_tokens : (text : List ℕ) (a b : IsUnit text) → a.tokens ≡ b.tokens
same_tokens text a b = one_list text a.tokens b.tokens a.are_tokens b.are_tokens

pub same_trees : (text : List ℕ) (a b : IsUnit text) → a.trees ≡ b.trees
same_trees text a b =
    let read : ReadsAs (terminals text 0 b.tokens) a.trees = subst (λ (ts : List Token). ReadsAs (terminals text 0 ts) a.trees) (same_tokens text a b) a.reads in
    let one = one_reading (terminals text 0 b.tokens) read.unnumbered b.reads.unnumbered read.height b.reads.height read.reads b.reads.reads in
    read.are_numbered ∙ ap numbered_unit one.0 ∙ sym b.reads.are_numbered

pub lex_or_unit : (text : List ℕ) (fault : LexFault) (pos : Pos) → HasLexFault text fault pos → IsUnit text → ⊥
lex_or_unit text fault pos f u = lex_or_tokens text fault pos u.tokens f u.are_tokens

pub ill_typed_or_typed : (text : List ℕ) (fault : TypeFault) (place : Option Pos) → HasTypeFault text fault place → IsTypedUnit text → ⊥
ill_typed_or_typed text fault place f u =
    let none : first_refusal u.unit.trees ≡ None = nothing_refused u.unit.trees (record { well_typed = u.well_typed; within_limits = u.within_limits }) in
    let e : first_refusal f.unit.trees ≡ None = ap first_refusal (same_trees text f.unit u.unit) ∙ none in
    let h = f.cause.first in
    cc

pub same_type_fault : (text : List ℕ) (f g : TypeFault) (p q : Option Pos) → HasTypeFault text f p → HasTypeFault text g q → f ≡ g
same_type_fault text f g p q a b =
    let e : ◌≡◌ {A = Option TypeFault} (Some f) (Some g) = sym a.cause.first ∙ ap first_refusal (same_trees text a.unit b.unit) ∙ b.cause.first in
    cc

same_start : (text : List ℕ) (tokens : List Token) (trees : List DeclTree) (number : ℕ) (p q : Pos) → IsNodeStart text tokens trees number p → IsNodeStart text tokens trees number q → p ≡ q
same_start text tokens trees number p q a b =
    let node : a.node ≡ b.node = same_Some a.node b.node (sym a.is ∙ b.is) in
    let token : a.start.token ≡ b.start.token = same_Some a.start.token b.start.token (sym a.start.is ∙ ap (λ (n : Node). slice_get tokens n.token) node ∙ b.start.is) in
    same_pos text b.start.token.start p q (subst (λ (t : Token). IsPlaceOf text t.start p) token a.start.place) b.start.place

same_node_place : (text : List ℕ) (tokens : List Token) (trees : List DeclTree) (named : Option ℕ) (p q : Option Pos) → IsNodePlace text tokens trees named p → IsNodePlace text tokens trees named q → p ≡ q
same_node_place text tokens trees None None None a b = refl
same_node_place text tokens trees None None (Some q) a b = absurd b
same_node_place text tokens trees None (Some p) q a b = absurd a
same_node_place text tokens trees (Some number) None q a b = absurd a
same_node_place text tokens trees (Some number) (Some p) None a b = absurd b
same_node_place text tokens trees (Some number) (Some p) (Some q) a b = ap Some (same_start text tokens trees number p q a b)

pub same_type_place : (text : List ℕ) (f g : TypeFault) (p q : Option Pos) → HasTypeFault text f p → HasTypeFault text g q → p ≡ q
same_type_place text f g p q a b =
    let P : List Token → Type 0 = λ ts. IsNodePlace text ts a.unit.trees (node_of f) p in
    let Q : List DeclTree → Type 0 = λ ds. IsNodePlace text b.unit.tokens ds (node_of f) p in
    let R : TypeFault → Type 0 = λ x. IsNodePlace text b.unit.tokens b.unit.trees (node_of x) p in
    same_node_place text b.unit.tokens b.unit.trees (node_of g) p q
    (subst R (same_type_fault text f g p q a b) (subst Q (same_trees text a.unit b.unit) (subst P (same_tokens text a.unit b.unit) a.place_is))) b.place_is

-- ---- a source in the store

pub text_refused : (v w : StoreView) (name text : List ℕ) (status : Status) → WasRead v w name source_limit text → RefusesText text status → LacksSource v w name status
text_refused v w name text status read (has_lex_fault fault pos f e) = lex_fault fault pos read.untouched (record { content = text; read_as = read.read_as; has = f }) e
text_refused v w name text status read (has_syntax_fault fault place f e) = syntax_fault fault place read.untouched (record { content = text; read_as = read.read_as; has = f }) e
text_refused v w name text status read (has_type_fault fault place f e) = type_fault fault place read.untouched (record { content = text; read_as = read.read_as; has = f }) e
text_refused v w name text status read (lacks_memory e) = no_memory read.untouched e

-- ---- a source that is a unit

pub typed_as : (text : List ℕ) (tokens : List Token) (trees types : List DeclTree) → Tokens text tokens → ReadsAs (terminals text 0 tokens) trees → types ≡ trees → IsAccepted trees → IsTypedAs text types
typed_as text tokens trees types t r e a = record { typed = is_typed text tokens trees t r a; trees_are = sym e }
