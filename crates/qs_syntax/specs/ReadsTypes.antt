-- How tokens are read as types (C11 6.7.2, 6.7.3, 6.7.6, 6.7.7).
use Rattle.std.specs.Prelude.{ℕ, suc, List, [], ◌∷◌, ◌++◌}
use Rattle.qs_syntax_vocabulary.specs.declared.terminal.Terminal.{Terminal}
use Rattle.qs_syntax_vocabulary.specs.declared.terminal.Terminal.TheVariants.{Name, Keyword, Punctuator}
use Rattle.qs_syntax_vocabulary.specs.declared.terminal.Terminal.TheVariants as terminals
use Rattle.qs_base.specs.declared.keyword.Keyword.TheVariants as keywords
use Rattle.qs_syntax_vocabulary.specs.declared.punctuator.Punctuator.TheVariants as punctuators
use Rattle.qs_syntax.specs.declared.types.Base.{Base}
use Rattle.qs_syntax.specs.declared.types.Base.TheVariants as bases
use Rattle.qs_syntax.specs.declared.types.TypeName.{TypeName}

-- NAME, which is no type's, and ANYNAME, which may be
pub data Names : Type 0 where
  Plain : Names
  Any : Names

-- the tokens that are such names, with their number and their bytes
pub data ReadsName : Names → Terminal → ℕ → List ℕ → Type 0 where
  a_plain_name : {names : Names} (at : ℕ) (x : List ℕ) → ReadsName names (Name at x) at x
  a_name_of_a_type : (at : ℕ) (x : List ℕ) → ReadsName Any (terminals.TypeName at x) at x

-- { "const" }
pub data ReadsConsts : List Terminal → Type 0 where
  no_const : ReadsConsts []
  a_const : {ts : List Terminal} (at : ℕ) → ReadsConsts ts → ReadsConsts (Keyword at keywords.Const ∷ ts)

-- { "const" | "static" }
pub data ReadsPrefixes : List Terminal → Type 0 where
  no_prefix : ReadsPrefixes []
  a_const_prefix : {ts : List Terminal} (at : ℕ) → ReadsPrefixes ts → ReadsPrefixes (Keyword at keywords.Const ∷ ts)
  a_static_prefix : {ts : List Terminal} (at : ℕ) → ReadsPrefixes ts → ReadsPrefixes (Keyword at keywords.Static ∷ ts)

-- base = "void" | "int" | "char" | "unsigned" [ "int" | "char" ] | "signed" [ "int" ] | "struct" ANYNAME | TYPENAME
pub data ReadsBase : List Terminal → Base → Type 0 where
  a_void : (at : ℕ) → ReadsBase (Keyword at keywords.Void ∷ []) bases.Void
  an_int : (at : ℕ) → ReadsBase (Keyword at keywords.Int ∷ []) bases.Int
  a_char : (at : ℕ) → ReadsBase (Keyword at keywords.Char ∷ []) bases.Char
  an_unsigned : (at : ℕ) → ReadsBase (Keyword at keywords.Unsigned ∷ []) bases.Unsigned
  an_unsigned_int : (at bt : ℕ) → ReadsBase (Keyword at keywords.Unsigned ∷ Keyword bt keywords.Int ∷ []) bases.Unsigned
  an_unsigned_char : (at bt : ℕ) → ReadsBase (Keyword at keywords.Unsigned ∷ Keyword bt keywords.Char ∷ []) bases.Char
  a_signed : (at : ℕ) → ReadsBase (Keyword at keywords.Signed ∷ []) bases.Int
  a_signed_int : (at bt : ℕ) → ReadsBase (Keyword at keywords.Signed ∷ Keyword bt keywords.Int ∷ []) bases.Int
  a_struct : {t : Terminal} {bt : ℕ} {x : List ℕ} (at : ℕ) → ReadsName Any t bt x → ReadsBase (Keyword at keywords.Struct ∷ t ∷ []) (bases.Struct x)
  a_named_type : (at : ℕ) (x : List ℕ) → ReadsBase (terminals.TypeName at x ∷ []) (bases.Named x)

-- lspec = { "const" } base { "const" }
pub data ReadsType : List Terminal → Base → Type 0 where
  a_type : {xs ys zs : List Terminal} {base : Base} → ReadsConsts xs → ReadsBase ys base → ReadsConsts zs → ReadsType (xs ++ (ys ++ zs)) base

-- spec = { "const" | "static" } base { "const" }
pub data ReadsOuterType : List Terminal → Base → Type 0 where
  an_outer_type : {xs ys zs : List Terminal} {base : Base} → ReadsPrefixes xs → ReadsBase ys base → ReadsConsts zs → ReadsOuterType (xs ++ (ys ++ zs)) base

-- stars = { "*" { "const" } }
pub data ReadsStars : List Terminal → ℕ → Type 0 where
  no_star : ReadsStars [] 0
  a_star : {xs ys : List Terminal} {n : ℕ} (at : ℕ) → ReadsConsts xs → ReadsStars ys n → ReadsStars (Punctuator at punctuators.Star ∷ (xs ++ ys)) (suc n)

-- typename = lspec stars
pub data ReadsTypeName : List Terminal → TypeName → Type 0 where
  a_type_name : {xs ys : List Terminal} {base : Base} {n : ℕ} → ReadsType xs base → ReadsStars ys n → ReadsTypeName (xs ++ ys) (record { base = base; stars = n })
