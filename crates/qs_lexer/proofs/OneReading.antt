-- A text has one reading.
use Rattle.std.proofs.Common.{◌≡◌, ℕ, ◌<◌, ◌⊎◌, inl, inr, suc, Bool, true, false, List, [], ◌∷◌, ◌++◌, Result, Ok, Err, length, take, drop, refl, ap, sym, ◌∙◌, subst, arith}
use Rattle.std.proofs.Math.Seq.{drop-length}
use Rattle.std.specs.declared.vec.Vec.{Vec}
use Rattle.std.specs.declared.alloc.Global.{Global}
use Rattle.qs_lexer.specs.Pieces.{Stands, Next, class_of, has_form, piece_of}
use Rattle.qs_lexer.specs.Tokens.{ReadsTo, start, white_space, token, token_at, Tokens, LexFaultAt}
use Rattle.qs_lexer.specs.Results.{Says, SaysFault, GivesTokens, GivesFault, fault_at}
use Rattle.qs_lexer.specs.declared.fault.FaultKind.{FaultKind}
use Rattle.qs_lexer.specs.declared.fault.FaultKind.TheVariants as kinds
use Rattle.qs_lexer.specs.declared.fault.LexFault.{LexFault}
use Rattle.qs_lexer.specs.declared.fault.LexFault.TheVariants as faults
use Rattle.qs_lexer.specs.declared.pieces.Class.{Class}
use Rattle.qs_lexer.specs.declared.pieces.Piece.{Piece}
use Rattle.qs_lexer.specs.declared.pieces.Piece.TheVariants as pieces
use Rattle.qs_syntax_vocabulary.specs.declared.tokens.Token.{Token}
use Rattle.qs_syntax_vocabulary.specs.declared.tokens.TokenKind.{TokenKind}
use Rattle.qs_lexer.proofs.Fronts.{longest_one, front_or_none}

-- ---- one piece stands first

one_stands : (fresh : Bool) (c : Class) (rest : List ℕ) (x y : Piece) → Stands fresh c rest x → Stands fresh c rest y → x ≡ y
one_stands fresh c rest x y (inl a) (inl b) = a.is ∙ ap (λ n. piece_of fresh c (take n rest)) (longest_one (has_form c) rest a.n b.n a.longest b.longest) ∙ sym b.is
one_stands fresh c rest x y (inl a) (inr b) = absurd (front_or_none (has_form c) rest a.n a.longest b.none)
one_stands fresh c rest x y (inr a) (inl b) = absurd (front_or_none (has_form c) rest b.n b.longest a.none)
one_stands fresh c rest x y (inr a) (inr b) = a.is ∙ sym b.is

one_next : (fresh : Bool) (rest : List ℕ) (x y : Piece) → Next fresh rest x → Next fresh rest y → x ≡ y
one_next fresh rest x y a b = one_stands fresh (class_of fresh rest) rest x y a b

-- ---- the same number of pieces leads to the same place

count : {text : List ℕ} {ts : List Token} {fresh : Bool} {at : ℕ} → ReadsTo text ts fresh at → ℕ
count start = 0
count (white_space n g d s) = suc (count d)
count (token n kind d s) = suc (count d)

record Same (ts : List Token) (f : Bool) (a : ℕ) (us : List Token) (g : Bool) (b : ℕ) : Type 0 where
  tokens : ts ≡ us
  fresh : f ≡ g
  at : a ≡ b

moved : (text : List ℕ) (f g : Bool) (a b : ℕ) (x : Piece) → f ≡ g → a ≡ b → Next f (drop a text) x → Next g (drop b text) x
moved text f g a b x p q h =
    let P : Bool → Type 0 = λ v. Next v (drop b text) x in
    let Q : ℕ → Type 0 = λ v. Next f (drop v text) x in
    subst P p (subst Q q h)

both : (ts us : List Token) (a b n m : ℕ) (i j : TokenKind) → ts ≡ us → a ≡ b → n ≡ m → i ≡ j → ts ++ token_at a n i ∷ [] ≡ us ++ token_at b m j ∷ []
both ts us a b n m i j p q r s = rw (p, q, r, s) refl

same : {text : List ℕ} {ts us : List Token} {f g : Bool} {a b : ℕ} (d : ReadsTo text ts f a) (e : ReadsTo text us g b) → count d ≡ count e → Same ts f a us g b
unfolding count
same start start h = record { tokens = refl; fresh = refl; at = refl }
same start (white_space n g d s) h = absurd (omega arith)
same start (token n kind d s) h = absurd (omega arith)
same (white_space n g d s) start h = absurd (omega arith)
same (token n kind d s) start h = absurd (omega arith)
same {text = text} (white_space {tokens = ts} {fresh = f} {at = a} n i d s) (white_space {tokens = us} {fresh = g} {at = b} m j e t) h =
    let r : Same ts f a us g b = same d e (omega arith) in
    let k : pieces.White n i ≡ pieces.White m j = one_next g (drop b text) (pieces.White n i) (pieces.White m j) (moved text f g a b (pieces.White n i) r.fresh r.at s) t in
    record { tokens = r.tokens; fresh = cc; at = let l : n ≡ m = cc in omega (arith, r.at) }
same {text = text} (white_space {tokens = ts} {fresh = f} {at = a} n i d s) (token {tokens = us} {fresh = g} {at = b} m j e t) h =
    let r : Same ts f a us g b = same d e (omega arith) in
    let k : pieces.White n i ≡ pieces.Token m j = one_next g (drop b text) (pieces.White n i) (pieces.Token m j) (moved text f g a b (pieces.White n i) r.fresh r.at s) t in
    cc
same {text = text} (token {tokens = ts} {fresh = f} {at = a} n i d s) (white_space {tokens = us} {fresh = g} {at = b} m j e t) h =
    let r : Same ts f a us g b = same d e (omega arith) in
    let k : pieces.Token n i ≡ pieces.White m j = one_next g (drop b text) (pieces.Token n i) (pieces.White m j) (moved text f g a b (pieces.Token n i) r.fresh r.at s) t in
    cc
same {text = text} (token {tokens = ts} {fresh = f} {at = a} n i d s) (token {tokens = us} {fresh = g} {at = b} m j e t) h =
    let r : Same ts f a us g b = same d e (omega arith) in
    let k : pieces.Token n i ≡ pieces.Token m j = one_next g (drop b text) (pieces.Token n i) (pieces.Token m j) (moved text f g a b (pieces.Token n i) r.fresh r.at s) t in
    let l : n ≡ m = cc in
    let o : i ≡ j = cc in
    record { tokens = both ts us a b n m i j r.tokens r.at l o; fresh = refl; at = omega (arith, r.at) }

-- ---- a text stops at one place

abbrev goes : Piece → Bool
goes pieces.End = false
goes (pieces.White n g) = true
goes (pieces.Token n k) = true
goes (pieces.Fault w) = false

step_back : (c k : ℕ) → k < suc c → (k < c → ⊥) → (c ≡ k → ⊥) → ⊥
step_back c k h f g = omega (arith, f, g)

differ : (x y : Piece) → x ≡ y → goes x ≡ true → goes y ≡ false → ⊥
differ x y e p q = let z : goes x ≡ goes y = ap goes e in cc

-- no reading goes on where the text stops
passes : {text : List ℕ} {ts us : List Token} {f g : Bool} {a b : ℕ} (d : ReadsTo text ts f a) (e : ReadsTo text us g b) (x : Piece) → count e < count d → Next g (drop b text) x → goes x ≡ false → ⊥
unfolding count
passes start e x h n s = absurd (omega arith)
passes {text = text} {us = us} {g = g} {b = b} (white_space {tokens = ts} {fresh = f} {at = a} n i d t) e x h y s =
    step_back (count d) (count e) h (λ l. passes d e x l y s) (λ q.
    let r : Same ts f a us g b = same d e q in
    differ (pieces.White n i) x (one_next g (drop b text) (pieces.White n i) x (moved text f g a b (pieces.White n i) r.fresh r.at t) y) refl s)
passes {text = text} {us = us} {g = g} {b = b} (token {tokens = ts} {fresh = f} {at = a} n i d t) e x h y s =
    step_back (count d) (count e) h (λ l. passes d e x l y s) (λ q.
    let r : Same ts f a us g b = same d e q in
    differ (pieces.Token n i) x (one_next g (drop b text) (pieces.Token n i) x (moved text f g a b (pieces.Token n i) r.fresh r.at t) y) refl s)

record OneEnd (ts : List Token) (a : ℕ) (x : Piece) (us : List Token) (b : ℕ) (y : Piece) : Type 0 where
  tokens : ts ≡ us
  at : a ≡ b
  piece : x ≡ y

same_count : (c k : ℕ) → (c < k → ⊥) → (k < c → ⊥) → c ≡ k
same_count c k f g = omega (arith, f, g)

one_end : {text : List ℕ} {ts us : List Token} {f g : Bool} {a b : ℕ} (d : ReadsTo text ts f a) (e : ReadsTo text us g b) (x y : Piece) → Next f (drop a text) x → goes x ≡ false → Next g (drop b text) y → goes y ≡ false → OneEnd ts a x us b y
one_end {text} {ts} {us} {f} {g} {a} {b} d e x y p s q t =
    let c : count d ≡ count e = same_count (count d) (count e) (λ l. passes e d x l p s) (λ l. passes d e y l q t) in
    let r : Same ts f a us g b = same d e c in
    record { tokens = r.tokens; at = r.at; piece = one_next g (drop b text) x y (moved text f g a b x r.fresh r.at p) q }

nothing_left : (fresh : Bool) → Next fresh [] pieces.End
nothing_left fresh = inr (record { none = λ m w. refl; is = refl })

at_end : (text : List ℕ) (f : Bool) → Next f (drop (length text) text) pieces.End
at_end text f = rw (drop-length text) (nothing_left f)

-- ---- the laws

pub one_list : (text : List ℕ) (ts us : List Token) → Tokens text ts → Tokens text us → ts ≡ us
one_list text ts us a b = (one_end a.reads b.reads pieces.End pieces.End (at_end text a.fresh) refl (at_end text b.fresh) refl).tokens

pub one_place : (text : List ℕ) (kind other : FaultKind) (at place : ℕ) → LexFaultAt text kind at → LexFaultAt text other place → at ≡ place
one_place text kind other at place a b = (one_end a.reads b.reads (pieces.Fault kind) (pieces.Fault other) a.stands refl b.stands refl).at

pub one_kind : (text : List ℕ) (kind other : FaultKind) (at place : ℕ) → LexFaultAt text kind at → LexFaultAt text other place → kind ≡ other
one_kind text kind other at place a b =
    let same : pieces.Fault kind ≡ pieces.Fault other = (one_end a.reads b.reads (pieces.Fault kind) (pieces.Fault other) a.stands refl b.stands refl).piece in
    cc

pub not_both : (text : List ℕ) (ts : List Token) (kind : FaultKind) (at : ℕ) → Tokens text ts → LexFaultAt text kind at → ⊥
not_both text ts kind at a b =
    let same : pieces.End ≡ pieces.Fault kind = (one_end a.reads b.reads pieces.End (pieces.Fault kind) (at_end text a.fresh) refl b.stands refl).piece in
    cc

-- ---- the answer is the only one

-- a fault's kind and place
said : (text : List ℕ) (fault : LexFault) → SaysFault text fault → (fault ≡ faults.NoMemory) ⊎ ((kind : FaultKind) × (at : ℕ) × (fault ≡ fault_at kind at) × LexFaultAt text kind at)
said text faults.NoMemory s = inl refl
said text (faults.BadByte at) s = inr (kinds.BadByte, at, refl, s)
said text (faults.OpenComment at) s = inr (kinds.OpenComment, at, refl, s)
said text (faults.BadLiteral at) s = inr (kinds.BadLiteral, at, refl, s)
said text (faults.WideLiteral at) s = inr (kinds.WideLiteral, at, refl, s)
said text (faults.Directive at) s = inr (kinds.Directive, at, refl, s)
said text (faults.OpenText at) s = inr (kinds.OpenText, at, refl, s)

no_tokens : (text : List ℕ) (fault : LexFault) (ts : List Token) → Tokens text ts → (fault ≡ faults.NoMemory) ⊎ ((kind : FaultKind) × (at : ℕ) × (fault ≡ fault_at kind at) × LexFaultAt text kind at) → fault ≡ faults.NoMemory
no_tokens text fault ts t (inl e) = e
no_tokens text fault ts t (inr (kind, at, e, f)) = absurd (not_both text ts kind at t f)

pub only_tokens : (text : List ℕ) (result : Result (Vec Token Global) LexFault) → Says text result → (ts : List Token) → Tokens text ts → GivesTokens ts result
only_tokens text (Ok vec) says ts t = one_list text vec.items ts says t
only_tokens text (Err fault) says ts t = no_tokens text fault ts t (said text fault says)

that_fault : (text : List ℕ) (fault : LexFault) (kind : FaultKind) (at : ℕ) → LexFaultAt text kind at → (fault ≡ faults.NoMemory) ⊎ ((other : FaultKind) × (place : ℕ) × (fault ≡ fault_at other place) × LexFaultAt text other place) → (fault ≡ fault_at kind at) ⊎ (fault ≡ faults.NoMemory)
that_fault text fault kind at f (inl e) = inr e
that_fault text fault kind at f (inr (other, place, e, g)) =
    let k : other ≡ kind = one_kind text other kind place at g f in
    let p : place ≡ at = one_place text other kind place at g f in
    inl (e ∙ ap (λ x. fault_at x place) k ∙ ap (fault_at kind) p)

pub only_fault : (text : List ℕ) (result : Result (Vec Token Global) LexFault) → Says text result → (kind : FaultKind) (at : ℕ) → LexFaultAt text kind at → GivesFault kind at result
only_fault text (Ok vec) says kind at f = not_both text vec.items kind at says f
only_fault text (Err fault) says kind at f = that_fault text fault kind at f (said text fault says)

pub ruleset only_answer = (only_tokens, only_fault)
