-- Lists of tasks, part by part.
use Rattle.std.proofs.Common.{◌≡◌, ℕ, suc, ◌+◌, ◌*◌, ◌-◌, ◌≤◌, ◌<◌, Bool, true, false, List, [], ◌∷◌, ◌++◌, length, take, drop, Option, Some, None, option_map, is_some, refl, sym, ap, ◌∙◌, arith, get_or, append_assoc, map, subst}
use Rattle.std.specs.Prelude.{if◌then◌else◌, nat_le}
use Rattle.std.proofs.lemmas.Bool.Decides.{nat_tests}
use Rattle.std.proofs.lemmas.List.{take_rest}
use Rattle.std.proofs.Math.Seq.{drop-cons}
use Rattle.qs_base.specs.Characters.{digit_zero}
use Rattle.qs_syntax.specs.Trees.{UnitTree}
use Rattle.qs_tasks_run.specs.declared.tasks.Task.{Task as DeclaredTask}
use Rattle.qs_tasks_run.specs.declared.tasks.Arrival.{Arrival as DeclaredArrival}
use Rattle.qs_tasks_run.specs.Tasks.{task_of, arrival_of}
use Rattle.qs_tasks_list.specs.declared.fault.TasksFault.{TasksFault}
use Rattle.qs_tasks_list.specs.declared.fault.TasksFault.TheVariants.{NoMemory, BadLine, NoFunction, Twice, NoTask, Order}
use Rattle.qs_tasks_list.specs.LinesOf.{IsListFault}
use Rattle.qs_tasks_list.specs.Lines.{Line, value_from, up_to, hex_digit, joined, followed_by, pairs_of, line_of_words, line_of}
use Rattle.qs_tasks_list.specs.Listing.{Placed, Counts, may_follow, counted, Lines, all_lines, bad_at, behind, where_follows, lines_from, Said, Listing, listed, faulty, no_function, twice, with_task, where_new, said_by, said_from, nothing_said, and_then}

-- ---- the number that digits write

pub value_goes : (v : ℕ) (text : List ℕ) (i : ℕ) → i < length text → value_from v (drop i text) ≡ value_from (v * 10 + (get_or text i 0 - digit_zero)) (drop (i + 1) text)
value_goes v text i h = let one : i + 1 ≡ suc i = omega arith in rw (one, drop-cons text i 0 h) refl

pub value_grows : (v : ℕ) (text : List ℕ) → v ≤ value_from v text
value_grows v [] = omega arith
value_grows v (b ∷ bs) = let g : v * 10 + (b - digit_zero) ≤ value_from (v * 10 + (b - digit_zero)) bs = value_grows (v * 10 + (b - digit_zero)) bs in omega arith

pub too_large : (most value next : ℕ) (text : List ℕ) (i : ℕ) → i < length text → value_from value (drop i text) ≡ value_from 0 text → next ≡ value * 10 + (get_or text i 0 - digit_zero) → most < next → None ≡ up_to most (value_from 0 text)
too_large most value next text i lt e n gt =
    let total : value_from 0 text ≡ value_from next (drop (i + 1) text) = sym e ∙ value_goes value text i lt ∙ ap (λ (v : ℕ). value_from v (drop (i + 1) text)) (sym n) in
    let grows = value_grows next (drop (i + 1) text) in
    let t : nat_le (value_from 0 text) most ≡ false = grind (arith, nat_tests, total, grows, gt) in
    rw t refl

-- ---- pairs of digits

two_more : (rest : List ℕ) → 2 ≤ length rest → rest ≡ get_or rest 0 0 ∷ get_or rest 1 0 ∷ drop 2 rest
two_more [] le = absurd (omega (arith, le))
two_more (high ∷ []) le = absurd (omega (arith, le))
two_more (high ∷ low ∷ rest) le = refl

byte_more : (bytes new : List ℕ) (byte : ℕ) (o : Option (List ℕ)) → new ≡ bytes ++ byte ∷ [] → option_map (λ (more : List ℕ). new ++ more) o ≡ option_map (λ (more : List ℕ). bytes ++ more) (followed_by (Some byte) o)
byte_more bytes new byte None e = refl
byte_more bytes new byte (Some more) e = ap (λ (l : List ℕ). Some l) (ap (λ (l : List ℕ). l ++ more) e ∙ append_assoc bytes (byte ∷ []) more)

pub pairs_more : (bytes new rest digits : List ℕ) (byte : ℕ) → 2 ≤ length rest → Some byte ≡ joined (hex_digit (get_or rest 0 0)) (hex_digit (get_or rest 1 0)) → new ≡ bytes ++ byte ∷ [] → option_map (λ (more : List ℕ). bytes ++ more) (pairs_of rest) ≡ pairs_of digits → option_map (λ (more : List ℕ). new ++ more) (pairs_of (take (length rest - 2) (drop 2 rest))) ≡ pairs_of digits
pairs_more bytes new rest digits byte le j e inv =
    let all : take (length rest - 2) (drop 2 rest) ≡ drop 2 rest = take_rest rest 2 in
    let whole : pairs_of rest ≡ followed_by (Some byte) (pairs_of (drop 2 rest)) = ap pairs_of (two_more rest le) ∙ ap (λ (o : Option ℕ). followed_by o (pairs_of (drop 2 rest))) (sym j) in
    ap (λ (l : List ℕ). option_map (λ (more : List ℕ). new ++ more) (pairs_of l)) all
    ∙ byte_more bytes new byte (pairs_of (drop 2 rest)) e
    ∙ ap (λ (o : Option (List ℕ)). option_map (λ (more : List ℕ). bytes ++ more) o) (sym whole)
    ∙ inv

-- ---- words of a line

pub few_words : (words : List (List ℕ)) → length words < 3 → None ≡ line_of_words words
few_words [] lt = refl
few_words (first ∷ []) lt = refl
few_words (first ∷ second ∷ []) lt = refl
few_words (first ∷ second ∷ third ∷ words) lt = absurd (omega (arith, lt))

pub many_words : (words : List (List ℕ)) → 5 ≤ length words → None ≡ line_of_words words
many_words [] le = absurd (omega (arith, le))
many_words (first ∷ []) le = absurd (omega (arith, le))
many_words (first ∷ second ∷ []) le = absurd (omega (arith, le))
many_words (first ∷ second ∷ third ∷ []) le = absurd (omega (arith, le))
many_words (first ∷ second ∷ third ∷ fourth ∷ []) le = absurd (omega (arith, le))
many_words (first ∷ second ∷ third ∷ fourth ∷ fifth ∷ words) le = refl

-- ---- lines

-- lines that were found stand in front of the others
abbrev pub in_front : List Placed → Lines → Lines
in_front found (all_lines more) = all_lines (found ++ more)
in_front found (bad_at at) = bad_at at

pub nothing_in_front : (ls : Lines) → in_front [] ls ≡ ls
nothing_in_front (all_lines more) = refl
nothing_in_front (bad_at at) = refl

pub one_more_in_front : (found : List Placed) (p : Placed) (ls : Lines) → in_front found (behind p ls) ≡ in_front (found ++ p ∷ []) ls
one_more_in_front found p (all_lines more) = ap all_lines (sym (append_assoc found (p ∷ []) more))
one_more_in_front found p (bad_at at) = refl

-- a line before the last
pub whole_line : (c : Counts) (at : ℕ) (line : List ℕ) (more : List (List ℕ)) (rest : List ℕ) → lines_from c at (line ∷ (more ++ rest ∷ [])) ≡ where_follows c at (line_of line) (λ d. lines_from d (at + length line + 1) (more ++ rest ∷ []))
whole_line c at line [] rest = refl
whole_line c at line (next ∷ more) rest = refl

pub follows : (c : Counts) (at : ℕ) (line : Line) (o : Option Line) (next : Counts → Lines) → o ≡ Some line → may_follow c line ≡ true → where_follows c at o next ≡ behind (record { at = at; line = line }) (next (counted c line))
follows c at line o next is may = ap (λ (x : Option Line). where_follows c at x next) is ∙ ap (λ (b : Bool). if b then behind (record { at = at; line = line }) (next (counted c line)) else bad_at at) may

pub no_line : (c : Counts) (at : ℕ) (o : Option Line) (next : Counts → Lines) → o ≡ None → where_follows c at o next ≡ bad_at at
no_line c at o next is = ap (λ (x : Option Line). where_follows c at x next) is

pub may_not : (c : Counts) (at : ℕ) (line : Line) (o : Option Line) (next : Counts → Lines) → o ≡ Some line → may_follow c line ≡ false → where_follows c at o next ≡ bad_at at
may_not c at line o next is may = ap (λ (x : Option Line). where_follows c at x next) is ∙ ap (λ (b : Bool). if b then behind (record { at = at; line = line }) (next (counted c line)) else bad_at at) may

-- a line that may stand there, before the others
pub line_more : (found new : List Placed) (c d : Counts) (at next : ℕ) (line : Line) (text : List ℕ) (more : List (List ℕ)) (rest : List ℕ) (whole : Lines) → line_of text ≡ Some line → may_follow c line ≡ true → d ≡ counted c line → next ≡ at + length text + 1 → new ≡ found ++ record { at = at; line = line } ∷ [] → in_front found (lines_from c at (text ∷ (more ++ rest ∷ []))) ≡ whole → in_front new (lines_from d next (more ++ rest ∷ [])) ≡ whole
line_more found new c d at next line text more rest whole is may e n f inv =
    let p : Placed = record { at = at; line = line } in
    let later : Lines = lines_from (counted c line) (at + length text + 1) (more ++ rest ∷ []) in
    ap (λ (l : List Placed). in_front l (lines_from d next (more ++ rest ∷ []))) f
    ∙ ap (λ (x : Counts). in_front (found ++ p ∷ []) (lines_from x next (more ++ rest ∷ []))) e
    ∙ ap (λ (x : ℕ). in_front (found ++ p ∷ []) (lines_from (counted c line) x (more ++ rest ∷ []))) n
    ∙ sym (one_more_in_front found p later)
    ∙ ap (in_front found) (sym (whole_line c at text more rest ∙ follows c at line (line_of text) (λ x. lines_from x (at + length text + 1) (more ++ rest ∷ [])) is may))
    ∙ inv

-- ---- tasks

module _ (said : Said) (place : ℕ) (name : List ℕ) (priority : ℕ) (input : List ℕ) where
  pub no_function_there : (f known : Option ℕ) → f ≡ None → where_new said place name priority input f known ≡ faulty (no_function place)
  no_function_there f known e = rw e refl

  pub is_twice : (f known : Option ℕ) (number : ℕ) → f ≡ Some number → is_some known ≡ true → where_new said place name priority input f known ≡ faulty (twice place)
  is_twice f None number e t = cc
  is_twice f (Some other) number e t = rw e refl

  pub is_new : (f known : Option ℕ) (number : ℕ) → f ≡ Some number → is_some known ≡ false → where_new said place name priority input f known ≡ listed (with_task said (record { function = number; name = name; priority = priority; input = input }))
  is_new f None number e t = rw e refl
  is_new f (Some other) number e t = cc

-- ---- what lines say, one after the other

pub begins : (unit : UnitTree) (tasks : List DeclaredTask) (arrivals : List DeclaredArrival) (ps : List Placed) → tasks ≡ [] → arrivals ≡ [] → said_from unit (record { tasks = map task_of tasks; arrivals = map arrival_of arrivals; last = 0 }) ps ≡ said_from unit nothing_said ps
begins unit tasks arrivals ps e f =
    ap (λ (l : List DeclaredTask). said_from unit (record { tasks = map task_of l; arrivals = map arrival_of arrivals; last = 0 }) ps) e
    ∙ ap (λ (l : List DeclaredArrival). said_from unit (record { tasks = []; arrivals = map arrival_of l; last = 0 }) ps) f

module _ (unit same : UnitTree) (said : Said) (p : Placed) (ps : List Placed) (whole : Listing) (e : same ≡ unit) (inv : said_from unit said (p ∷ ps) ≡ whole) where
  said_first : said_by unit said p.at p.line ≡ said_by same said p.at p.line
  said_first = ap (λ (u : UnitTree). said_by u said p.at p.line) (sym e)

  pub goes_on : (next : Said) → said_by same said p.at p.line ≡ listed next → said_from unit next ps ≡ whole
  goes_on next is = sym (ap (λ (o : Listing). and_then o (λ more. said_from unit more ps)) (said_first ∙ is)) ∙ inv

  pub ends_faulty : (fault : TasksFault) → IsListFault (said_by same said p.at p.line) fault → IsListFault whole fault
  ends_faulty fault is =
      subst (λ (o : Listing). IsListFault o fault) (ap (λ (o : Listing). and_then o (λ more. said_from unit more ps)) (sym said_first) ∙ inv)
      (stays_faulty (said_by same said p.at p.line) (λ more. said_from unit more ps) fault is)
    where
      stays_faulty : (l : Listing) (next : Said → Listing) (f : TasksFault) → IsListFault l f → IsListFault (and_then l next) f
      stays_faulty l next NoMemory h = tt
      stays_faulty l next (BadLine at) h = ap (λ (o : Listing). and_then o next) h
      stays_faulty l next (NoFunction at) h = ap (λ (o : Listing). and_then o next) h
      stays_faulty l next (Twice at) h = ap (λ (o : Listing). and_then o next) h
      stays_faulty l next (NoTask at) h = ap (λ (o : Listing). and_then o next) h
      stays_faulty l next (Order at) h = ap (λ (o : Listing). and_then o next) h
