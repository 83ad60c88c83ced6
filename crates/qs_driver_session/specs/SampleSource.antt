-- The source of a sample.
use Rattle.std.specs.Prelude.{◌≡◌, ℕ, zero, suc, ◌+◌, List, [], ◌∷◌, ◌++◌, codes, decimal, Result, OnOk, Vec}
use Rattle.std.specs.declared.alloc.Global.{Global}
use Rattle.qs_report.specs.Lines.{line}

-- `int fK(int x){return fJ(x+1);}`
abbrev pub calling : (k j : ℕ) → List ℕ
calling k j =
    line (codes "int f" ∷ decimal k ∷ codes "(int x){return f" ∷ decimal j ∷ codes "(x+1);}" ∷ [])

-- the function that comes after j others: `int f1(int x){return x+1;}`, or one that calls the function before it
abbrev pub function_after : (j : ℕ) → List ℕ
function_after zero = line (codes "int f1(int x){return x+1;}" ∷ [])
function_after (suc j) = calling (suc j + 1) (suc j)

-- the functions f1 to fN
abbrev pub functions : (n : ℕ) → List ℕ
functions zero = []
functions (suc j) = functions j ++ function_after j

-- `int main(void){putchar('0'+fN(0)%10);return 0;}`
abbrev pub main_function : (n : ℕ) → List ℕ
main_function n =
    line (codes "int main(void){putchar('0'+f" ∷ decimal n ∷ codes "(0)%10);return 0;}" ∷ [])

-- the functions, and then main, which calls the last one
abbrev pub sample_text : (n : ℕ) → List ℕ
sample_text n = functions n ++ main_function n

-- ---- how the code makes it

-- a number between two texts
abbrev pub between : (head : List ℕ) → (n : ℕ) → (tail : List ℕ) → List ℕ
between head n tail = head ++ decimal n ++ tail

-- this was put behind the text, unless memory ran out
abbrev pub Adds : {A E : Type 0} → (old new : Vec ℕ Global) → List ℕ → Result A E → Type 0
Adds old new piece result = OnOk result (new.items ≡ old.items ++ piece)
