-- What the code's values stand for.
use Rattle.std.specs.Prelude.{◌≡◌, ℕ, List, [], length, Result, Ok, Err, map, Box}
use Rattle.std.specs.Borrow.{Bor}
use Rattle.std.specs.declared.alloc.Global.{Global}
use Rattle.std.specs.declared.vec.Vec.{Vec}
use Rattle.qs_syntax_vocabulary.specs.declared.terminal.Terminal.{Terminal}
use Rattle.qs_syntax.specs.declared.types.Base.{Base}
use Rattle.qs_syntax.specs.declared.expressions.Expr.{Expr}
use Rattle.qs_syntax.specs.declared.types.TypeName.{TypeName}
use Rattle.qs_syntax.specs.Trees.{ExprTree}
use Rattle.qs_syntax.specs.TreeOf.{expr_tree}
use Rattle.qs_syntax.specs.Reads as reads
use Rattle.qs_parser_expressions.specs.declared.expressions.Form as forms
use Rattle.qs_parser_expressions.specs.declared.expressions.Form.TheVariants as variants
use Rattle.qs_parser_expressions.specs.declared.halt.Halt.{Halt}
use Rattle.qs_parser_expressions.specs.declared.halt.Halt.TheVariants as halts
use Rattle.qs_parser_grammar.specs.Parse.{Stop, Unexpected, Deep, Parse}

-- What a function answers, seen by `view`, is what the function on lists gives, unless memory runs out.
abbrev pub Fails : {Y : Type 0} → Halt → Result Y Stop → Type 0
Fails halts.NoMemory given = Unit {0}
Fails (halts.Unexpected left) given = given ≡ Err (Unexpected left)
Fails (halts.TooDeep left) given = given ≡ Err (Deep left)

abbrev pub Gives : {X Y : Type 0} → (X → Y) → Result X Halt → Result Y Stop → Type 0
Gives view (Ok x) given = given ≡ Ok (view x)
Gives view (Err e) given = Fails e given

abbrev pub rest_of : Bor (List Terminal) → Unit {0} × List Terminal
rest_of rest = (tt, rest.now)

-- what stands behind an expression that was read before
abbrev pub behind_of : {X : Type 0} → X × Bor (List Terminal) → Unit {0} × List Terminal
behind_of x = (tt, x.1.now)

abbrev pub name_of : ℕ × List ℕ × Bor (List Terminal) → (ℕ × List ℕ) × List Terminal
name_of x = ((x.0, x.1), x.2.now)

abbrev pub base_of : Base × Bor (List Terminal) → Base × List Terminal
base_of x = (x.0, x.1.now)

abbrev pub stars_of : ℕ × Bor (List Terminal) → ℕ × List Terminal
stars_of x = (x.0, x.1.now)

abbrev pub type_name_of : TypeName × Bor (List Terminal) → TypeName × List Terminal
type_name_of x = (x.0, x.1.now)

-- what is read, how high it is, and what stands behind it
abbrev pub read_as : {X Y : Type 0} → (X → Y) → X × ℕ × Bor (List Terminal) → (Y × ℕ) × List Terminal
read_as view x = ((view x.0, x.1), x.2.now)

abbrev pub Reads : {X Y : Type 0} → (X → Y) → Result (X × ℕ × Bor (List Terminal)) Halt → Result ((Y × ℕ) × List Terminal) Stop → Type 0
Reads view result given = Gives (read_as view) result given

-- the same of an expression
abbrev pub ReadsExpr : Result (Expr × ℕ × Bor (List Terminal)) Halt → Result ((ExprTree × ℕ) × List Terminal) Stop → Type 0
ReadsExpr result given = Reads expr_tree result given

-- each item of a vector
abbrev pub listed : {X Y : Type 0} → (X → Y) → Vec X Global → List Y
listed view items = map view items.items

-- What is answered is what the list's reader gives that starts with as many turns as there are tokens, no items and height 0. Tokens may be
-- left behind the list.
abbrev pub ReadsList : {X Y : Type 0} → (X → Y) → Result (Vec X Global × ℕ × Bor (List Terminal)) Halt → (ℕ → List Y → ℕ → Parse (List Y × ℕ)) → List Terminal → Type 0
ReadsList view result read tokens = Reads (listed view) result (read (length tokens) [] 0 tokens)

-- an expression in a box of its own
abbrev pub boxed_expr : Box Expr Global → ExprTree
boxed_expr e = expr_tree e.value

-- joined texts, and what stands behind them
abbrev pub texts_of : List ℕ × Bor (List Terminal) → List ℕ × List Terminal
texts_of x = (x.0, x.1.now)

-- what an expression is read as
abbrev pub form_of : forms.Form → reads.Form
form_of variants.Postfix = reads.Postfix
form_of variants.Unary = reads.Unary
form_of (variants.Level j) = reads.Level j
form_of variants.Conditional = reads.Conditional
form_of variants.Assignment = reads.Assignment
form_of variants.Expression = reads.Expression
