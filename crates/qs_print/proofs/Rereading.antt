-- What it is that printed terminals read back, whatever their numbers, where names are marked by a set; lists, names, types and stars.
use Rattle.std.proofs.Common.{◌≡◌, ℕ, zero, suc, ◌+◌, ◌≤◌, Bool, true, false, not, List, [], ◌∷◌, ◌++◌, Option, length, if◌then◌else◌, refl, sym, ap, subst, ◌∙◌, append_assoc, append-nil, arith}
use Rattle.std.specs.List.{list_all}
use Rattle.std.specs.Cmp.{first_so, second_so}
use Rattle.std.proofs.lemmas.List.{map-append}
use Rattle.qs_syntax_vocabulary.specs.Marks.{NameSet, is_in, mark, marked, name_token}
use Rattle.qs_syntax_vocabulary.specs.declared.terminal.Terminal.{Terminal}
use Rattle.qs_syntax_vocabulary.specs.declared.terminal.Terminal.TheVariants as terminals
use Rattle.qs_base.specs.declared.keyword.Keyword.{Keyword}
use Rattle.qs_syntax_vocabulary.specs.declared.punctuator.Punctuator.{Punctuator}
use Rattle.qs_syntax_vocabulary.specs.declared.punctuator.Punctuator.TheVariants as punctuators
use Rattle.qs_syntax.specs.declared.types.Base.{Base}
use Rattle.qs_syntax.specs.declared.types.TypeName.{TypeName}
use Rattle.qs_syntax.specs.ReadsTypes.{Any, ReadsName, a_plain_name, a_name_of_a_type, no_const, no_prefix, ReadsBase, a_void, an_int, a_char, an_unsigned, an_unsigned_int, an_unsigned_char, a_signed, a_signed_int, a_struct, a_named_type, ReadsType, a_type, ReadsOuterType, an_outer_type, ReadsStars, no_star, a_star, ReadsTypeName, a_type_name}
use Rattle.qs_syntax.specs.Numbering.{bare, relabel_all, relabel_option}
use Rattle.qs_print.specs.Laws.{numbered, renumbered}
use Rattle.qs_print.specs.Printed.{in_parentheses, printed_base, printed_stars, printed_type_name}
use Rattle.qs_print.proofs.PrintedTerminals.{left, right}

-- the trees of a list, or the one that is there, without the numbers of tokens and nodes
abbrev pub all_plain : {A : Type 0} → (A → ℕ) → (ℕ → A → A) → List A → List A
all_plain count relabel = relabel_all bare count relabel 0

abbrev pub some_plain : {A : Type 0} → (ℕ → A → A) → Option A → Option A
some_plain relabel = relabel_option relabel 0

-- ---- marks

-- the token is marked as the set says
abbrev pub fits : NameSet → Terminal → Bool
fits set (terminals.Name at x) = not (is_in set x)
fits set (terminals.TypeName at x) = is_in set x
fits set (terminals.Keyword at keyword) = true
fits set (terminals.Constant at value unsigned) = true
fits set (terminals.Text at bytes) = true
fits set (terminals.Punctuator at punctuator) = true

-- so are all of them
abbrev pub Fit : NameSet → List Terminal → Type 0
Fit set ts = list_all (fits set) ts ≡ true

token_fits : (set : NameSet) (at : ℕ) (x : List ℕ) (b : Bool) → is_in set x ≡ b → fits set (if b then terminals.TypeName at x else terminals.Name at x) ≡ true
token_fits set at x true e = e
token_fits set at x false e = rw e refl

marked_fits : (set : NameSet) (t : Terminal) → fits set (mark set t) ≡ true
marked_fits set (terminals.Name at x) = token_fits set at x (is_in set x) refl
marked_fits set (terminals.TypeName at x) = token_fits set at x (is_in set x) refl
marked_fits set (terminals.Keyword at keyword) = refl
marked_fits set (terminals.Constant at value unsigned) = refl
marked_fits set (terminals.Text at bytes) = refl
marked_fits set (terminals.Punctuator at punctuator) = refl

pub marked_fit : (set : NameSet) (ts : List Terminal) → Fit set (marked set ts)
marked_fit set [] = refl
marked_fit set (t ∷ ts) = rw (marked_fits set t, marked_fit set ts) refl

not_so : (b : Bool) → not b ≡ true → b ≡ false
not_so false e = refl
not_so true e = absurd cc

-- a name that is no type's is not in the set
pub not_in : (set : NameSet) (at : ℕ) (x : List ℕ) (ts : List Terminal) → Fit set (terminals.Name at x ∷ ts) → is_in set x ≡ false
not_in set at x ts f = not_so (is_in set x) (first_so (not (is_in set x)) (list_all (fits set) ts) f)

-- what follows a token fits too
pub behind_it : (set : NameSet) (t : Terminal) (ts : List Terminal) → Fit set (t ∷ ts) → Fit set ts
behind_it set t ts f = second_so (fits set t) (list_all (fits set) ts) f

-- ---- numbers

-- the terminals, numbered from here and marked
abbrev pub seen : NameSet → ℕ → List Terminal → List Terminal
seen set n ls = marked set (renumbered n ls)

-- these terminals are read, no higher than h, as what is the same as x but for the numbers of tokens
pub record Again {T : Type 0} (R : ℕ → List Terminal → T → Type 0) (plain : T → T) (h : ℕ) (us : List Terminal) (x : T) : Type 0 where
  pub height : ℕ
  pub tree : T
  pub reads : R height us tree
  pub low : height ≤ h
  pub same : plain tree ≡ plain x

-- so are these, marked by the set, whatever number the first of them has
pub record Reread {T : Type 0} (set : NameSet) (R : ℕ → List Terminal → T → Type 0) (plain : T → T) (h : ℕ) (ls : List Terminal) (x : T) : Type 0 where
  pub from : (n : ℕ) → Again R plain h (seen set n ls) x

pub renumbered_append : (n : ℕ) (xs ys : List Terminal) → renumbered n (xs ++ ys) ≡ renumbered n xs ++ renumbered (n + length xs) ys
renumbered_append n [] ys = ap (λ k. renumbered k ys) (omega arith)
renumbered_append n (x ∷ xs) ys =
    let e : n + 1 + length xs ≡ n + suc (length xs) = omega arith in
    ap (λ ls. numbered n x ∷ ls) (renumbered_append (n + 1) xs ys ∙ ap (λ k. renumbered (n + 1) xs ++ renumbered k ys) e)

pub seen_append : (set : NameSet) (n : ℕ) (xs ys : List Terminal) → seen set n (xs ++ ys) ≡ seen set n xs ++ seen set (n + length xs) ys
seen_append set n xs ys = ap (marked set) (renumbered_append n xs ys) ∙ map-append (mark set) (renumbered n xs) (renumbered (n + length xs) ys)

-- terminals, a punctuator behind them, and the rest
pub closing : (set : NameSet) (n : ℕ) (m : Punctuator) (ls rest : List Terminal)
    → seen set n ((ls ++ terminals.Punctuator 0 m ∷ []) ++ rest) ≡ seen set n ls ++ terminals.Punctuator (n + length ls) m ∷ seen set (n + length ls + 1) rest
closing set n m ls rest = ap (seen set n) (append_assoc ls (terminals.Punctuator 0 m ∷ []) rest) ∙ seen_append set n ls (terminals.Punctuator 0 m ∷ rest)

-- the number behind parentheses around terminals
abbrev pub behind : ℕ → List Terminal → ℕ
behind n ls = n + 1 + length ls + 1

pub enclosed : (set : NameSet) (n : ℕ) (ls rest : List Terminal)
    → seen set n (in_parentheses ls ++ rest) ≡ terminals.Punctuator n punctuators.OpenParenthesis ∷ (seen set (n + 1) ls ++ terminals.Punctuator (n + 1 + length ls) punctuators.CloseParenthesis ∷ seen set (behind n ls) rest)
enclosed set n ls rest = ap (λ us. terminals.Punctuator n punctuators.OpenParenthesis ∷ us) (closing set (n + 1) punctuators.CloseParenthesis ls rest)

-- ---- names

pub any_of : (n : ℕ) (x : List ℕ) (b : Bool) → ReadsName Any (if b then terminals.TypeName n x else terminals.Name n x) n x
any_of n x true = a_name_of_a_type n x
any_of n x false = a_plain_name n x

-- a name of any kind is read where it is marked
pub any_name : (set : NameSet) (n : ℕ) (x : List ℕ) → ReadsName Any (name_token set n x) n x
any_name set n x = any_of n x (is_in set x)

no_keyword : (n at : ℕ) (keyword : Keyword) (x : List ℕ) (us vs : List Terminal) (b : Bool) → (if b then terminals.TypeName n x else terminals.Name n x) ∷ us ≡ terminals.Keyword at keyword ∷ vs → ⊥
no_keyword n at keyword x us vs true e = cc
no_keyword n at keyword x us vs false e = cc

-- a name is no keyword
pub name_is_no_keyword : (set : NameSet) (n at : ℕ) (keyword : Keyword) (x : List ℕ) (us vs : List Terminal) → name_token set n x ∷ us ≡ terminals.Keyword at keyword ∷ vs → ⊥
name_is_no_keyword set n at keyword x us vs e = no_keyword n at keyword x us vs (is_in set x) e

-- ---- types

-- the base is read where names are marked
pub record KnownBase (set : NameSet) (base : Base) : Type 0 where
  pub from : (n : ℕ) → ReadsBase (seen set n (printed_base base)) base

known_base : {ts : List Terminal} {base : Base} (set : NameSet) → ReadsBase ts base → Fit set ts → KnownBase set base
known_base set (a_void at) f = record { from = λ n. a_void n }
known_base set (an_int at) f = record { from = λ n. an_int n }
known_base set (a_char at) f = record { from = λ n. a_char n }
known_base set (an_unsigned at) f = record { from = λ n. an_unsigned n }
known_base set (an_unsigned_int at bt) f = record { from = λ n. an_unsigned n }
known_base set (an_unsigned_char at bt) f = record { from = λ n. a_char n }
known_base set (a_signed at) f = record { from = λ n. an_int n }
known_base set (a_signed_int at bt) f = record { from = λ n. an_int n }
known_base set (a_struct {x = x} at r) f = record { from = λ n. a_struct n (any_name set (n + 1) x) }
known_base set (a_named_type at x) f = record { from = λ n. rw (first_so (is_in set x) true f) (a_named_type n x) }

pub known_type : {ts : List Terminal} {base : Base} (set : NameSet) → ReadsType ts base → Fit set ts → KnownBase set base
known_type set (a_type {xs = xs} {ys = ys} {zs = zs} p b q) f = known_base set b (left (fits set) ys zs (right (fits set) xs (ys ++ zs) f))

pub known_outer_type : {ts : List Terminal} {base : Base} (set : NameSet) → ReadsOuterType ts base → Fit set ts → KnownBase set base
known_outer_type set (an_outer_type {xs = xs} {ys = ys} {zs = zs} p b q) f = known_base set b (left (fits set) ys zs (right (fits set) xs (ys ++ zs) f))

pub type_reads : {set : NameSet} (base : Base) → KnownBase set base → (n : ℕ) → ReadsType (seen set n (printed_base base)) base
type_reads {set} base k n = subst (λ us. ReadsType us base) (append-nil (seen set n (printed_base base))) (a_type no_const (k.from n) no_const)

pub outer_type_reads : {set : NameSet} (base : Base) → KnownBase set base → (n : ℕ) → ReadsOuterType (seen set n (printed_base base)) base
outer_type_reads {set} base k n = subst (λ us. ReadsOuterType us base) (append-nil (seen set n (printed_base base))) (an_outer_type no_prefix (k.from n) no_const)

pub stars_read : (set : NameSet) (count n : ℕ) → ReadsStars (seen set n (printed_stars count)) count
stars_read set zero n = no_star
stars_read set (suc count) n = a_star n no_const (stars_read set count (n + 1))

pub type_name_reads : {ts : List Terminal} {type : TypeName} (set : NameSet) → ReadsTypeName ts type → Fit set ts → (n : ℕ) → ReadsTypeName (seen set n (printed_type_name type)) type
type_name_reads set (a_type_name {xs = xs} {ys = ys} {base = base} {n = count} t s) f n =
    subst (λ us. ReadsTypeName us (record { base = base; stars = count })) (sym (seen_append set n (printed_base base) (printed_stars count)))
    (a_type_name (type_reads base (known_type set t (left (fits set) xs ys f)) n) (stars_read set count (n + length (printed_base base))))
