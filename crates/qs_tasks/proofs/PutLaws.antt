-- The bytes that a task put, among all that were put.
use Rattle.std.proofs.Common.{◌≡◌, ℕ, Bool, true, false, List, [], ◌∷◌, ◌++◌, length, refl, sym, ap, ◌∙◌, arith}
use Rattle.std.specs.Prelude.{◌==◌, if◌then◌else◌, drop}
use Rattle.std.proofs.lemmas.List.{append-nil}
use Rattle.std.proofs.lemmas.Bool.Decides.{nat_tests}
use Rattle.qs_tasks_run.specs.TasksRun.{Put, bytes_by, puts_by}

pub bytes_append : (task : ℕ) (a b : List Put) → bytes_by task (a ++ b) ≡ bytes_by task a ++ bytes_by task b
bytes_append task [] b = refl
bytes_append task (put ∷ a) b = by (put.task == task) (bytes_append task a b)
  where
    by : (t : Bool) → bytes_by task (a ++ b) ≡ bytes_by task a ++ bytes_by task b → (if t then put.byte ∷ bytes_by task (a ++ b) else bytes_by task (a ++ b)) ≡ (if t then put.byte ∷ bytes_by task a else bytes_by task a) ++ bytes_by task b
    by true more = ap (λ (l : List ℕ). put.byte ∷ l) more
    by false more = more

bytes_own : (task : ℕ) (bytes : List ℕ) → bytes_by task (puts_by task bytes) ≡ bytes
bytes_own task [] = refl
bytes_own task (byte ∷ bytes) = let e : (task == task) ≡ true = grind (arith, nat_tests) in rw e (ap (λ (l : List ℕ). byte ∷ l) (bytes_own task bytes))

bytes_other : (task other : ℕ) (bytes : List ℕ) → (other ≡ task → ⊥) → bytes_by other (puts_by task bytes) ≡ []
bytes_other task other [] ne = refl
bytes_other task other (byte ∷ bytes) ne = let e : (task == other) ≡ false = grind (arith, nat_tests, ne) in rw e (bytes_other task other bytes ne)

drop_front : (front rest : List ℕ) → drop (length front) (front ++ rest) ≡ rest
drop_front [] rest = refl
drop_front (x ∷ front) rest = drop_front front rest

-- a task whose output has grown has put what is new
pub own_grown : (task : ℕ) (written : List Put) (grown more : List ℕ) → grown ≡ bytes_by task written ++ more → bytes_by task (written ++ puts_by task (drop (length (bytes_by task written)) grown)) ≡ grown
own_grown task written grown more e =
    bytes_append task written (puts_by task (drop (length (bytes_by task written)) grown))
    ∙ ap (λ (l : List ℕ). bytes_by task written ++ l) (bytes_own task (drop (length (bytes_by task written)) grown) ∙ ap (drop (length (bytes_by task written))) e ∙ drop_front (bytes_by task written) more)
    ∙ sym e

pub other_same : (task other : ℕ) (written : List Put) (bytes : List ℕ) → (other ≡ task → ⊥) → bytes_by other (written ++ puts_by task bytes) ≡ bytes_by other written
other_same task other written bytes ne =
    bytes_append other written (puts_by task bytes)
    ∙ ap (λ (l : List ℕ). bytes_by other written ++ l) (bytes_other task other bytes ne)
    ∙ append-nil (bytes_by other written)
