-- Lists of tasks, computed from the definitions.
use Rattle.std.specs.Prelude.{◌≡◌, [], ◌∷◌, codes, Some, None, refl}
use Rattle.qs_base.specs.Names.{is_name}
use Rattle.qs_base.specs.Keywords.{is_keyword, keyword_of}
use Rattle.qs_tasks_list.specs.Lines.{task_line, arrival_line, line_of}
use Rattle.qs_tasks_list.specs.Listing.{bad_at, lines_of}

-- ---- lines

without_input : line_of (codes "task lo 1") ≡ Some (task_line (codes "lo") 1 [])
unfolding is_name is_keyword keyword_of
without_input = refl

with_input : line_of (codes "task hi 255 00ff7a") ≡ Some (task_line (codes "hi") 255 (0 ∷ 255 ∷ 122 ∷ []))
unfolding is_name is_keyword keyword_of
with_input = refl

arrival : line_of (codes "arrive 0000000009 hi") ≡ Some (arrival_line 9 (codes "hi"))
unfolding is_name is_keyword keyword_of
arrival = refl

latest : line_of (codes "arrive 1000000000 hi") ≡ Some (arrival_line 1000000000 (codes "hi"))
unfolding is_name is_keyword keyword_of
latest = refl

too_late : line_of (codes "arrive 1000000001 hi") ≡ None
unfolding is_name is_keyword keyword_of
too_late = refl

priority_too_great : line_of (codes "task hi 256") ≡ None
unfolding is_name is_keyword keyword_of
priority_too_great = refl

eleven_digits : line_of (codes "arrive 00000000009 hi") ≡ None
unfolding is_name is_keyword keyword_of
eleven_digits = refl

two_blanks : line_of (codes "task  lo 1") ≡ None
unfolding is_name is_keyword keyword_of
two_blanks = refl

keyword : line_of (codes "task while 1") ≡ None
unfolding is_name is_keyword keyword_of
keyword = refl

upper_case : line_of (codes "task lo 1 FF") ≡ None
unfolding is_name is_keyword keyword_of
upper_case = refl

half_a_pair : line_of (codes "task lo 1 ff0") ≡ None
unfolding is_name is_keyword keyword_of
half_a_pair = refl

no_digits : line_of (codes "task lo 1 ") ≡ None
unfolding is_name is_keyword keyword_of
no_digits = refl

-- ---- texts

empty : lines_of [] ≡ bad_at 0
empty = refl

not_ended : lines_of (codes "task lo 1") ≡ bad_at 0
unfolding is_name is_keyword keyword_of
not_ended = refl

last_not_ended : lines_of (codes "task lo 1\narrive 0 lo") ≡ bad_at 10
unfolding is_name is_keyword keyword_of
last_not_ended = refl

task_behind_arrival : lines_of (codes "task lo 1\narrive 0 lo\ntask hi 2\n") ≡ bad_at 22
unfolding is_name is_keyword keyword_of
task_behind_arrival = refl

arrival_first : lines_of (codes "arrive 0 lo\n") ≡ bad_at 0
unfolding is_name is_keyword keyword_of
arrival_first = refl

empty_line : lines_of (codes "task lo 1\n\n") ≡ bad_at 10
unfolding is_name is_keyword keyword_of
empty_line = refl

carriage_return : lines_of (codes "task lo 1\r\n") ≡ bad_at 0
unfolding is_name is_keyword keyword_of
carriage_return = refl

-- a word that is no name is the name of no arrival either
arrival_of_keyword : line_of (codes "arrive 0 while") ≡ None
unfolding is_name is_keyword keyword_of
arrival_of_keyword = refl

arrival_of_number : line_of (codes "arrive 0 9x") ≡ None
unfolding is_name is_keyword keyword_of
arrival_of_number = refl
