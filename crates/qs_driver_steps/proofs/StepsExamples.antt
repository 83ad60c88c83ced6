-- What a command of three steps comes to, by its file and by its devices, computed from the definitions.
use Rattle.std.proofs.Common.{◌≡◌, ℕ, true, false, List, [], ◌∷◌, codes, Option, Some, None, refl, sym, ap, inl, inr, arith}
use Rattle.std.specs.List.{slice_get}
use Rattle.qs_ports.specs.SinkView.{SinkView}
use Rattle.qs_ports.specs.StoreView.{Files, StoreView, OnlyReads}
use Rattle.qs_driver_steps.specs.Devices.{StreamsView, streams}
use Rattle.qs_driver_steps.specs.Due.{Due, refusal}
use Rattle.qs_driver_steps.specs.Files.{HoldsContent, IsTooLong}
use Rattle.qs_driver_steps.specs.Pieces.{on_out, on_log, ArePut}
use Rattle.qs_driver_steps.specs.Reading.{deciding, refusing, reading, IsOneOf, absent, long}
use Rattle.qs_driver_steps.specs.Runs.{Halts, refused, failed, no_memory, Passes, finished, Runs}
use Rattle.qs_driver_steps.specs.Statuses.{Statuses, IsRefusal}
use Rattle.qs_driver_steps.specs.Steps.{Step, gives, first, End, Command, Comes, Stops, IsRefused, Ends, IsOf, end_status}
use Rattle.qs_driver_steps.proofs.ReadingLaws.{not_absent, not_long, one_content, decided}
use Rattle.qs_driver_steps.proofs.StoreLaws.{seen, untouched}

-- ---- a tool that shows the first byte of a text

data Kind : Type 0 where
  Text : Kind

data Status : Type 0 where
  SameName : Status
  Missing : Status
  TooLong : Status
  Empty : Status
  Done : Status
  StoreFailed : Status
  SinkFailed : Status
  NoMemory : Status

abbrev number_of : Status → ℕ
number_of SameName = 1
number_of Missing = 2
number_of TooLong = 2
number_of Empty = 3
number_of Done = 4
number_of StoreFailed = 0
number_of SinkFailed = 0
number_of NoMemory = 0

-- the line of each fault is the name of the text
abbrev small : Statuses
small = record {
  Status = Status;
  Kind = Kind;
  Seen = Status;
  seen = λ status. status;
  number = number_of;
  last = 4;
  missing = λ kind. Missing;
  too_long = λ kind. TooLong;
  store_failed = λ kind. StoreFailed;
  sink_failed = SinkFailed;
  no_memory = NoMemory;
  line = λ name status. name Text;
}

abbrev naming : (name out : List ℕ) → Step small
naming name out = refusing 1 (IsOneOf out (name ∷ [])) SameName

-- at most three bytes
abbrev reading_text : (name : List ℕ) → Step small
reading_text name = reading 2 Text 3 name

abbrev beginning : (text : List ℕ) → Step small
beginning text = deciding 3 (λ (byte : ℕ). slice_get text 0 ≡ Some byte) (λ (u : Unit {0}). text ≡ []) (λ u. Empty)

abbrev shown : (byte : ℕ) → Due small
shown byte = record { status = Done; pieces = on_out (byte ∷ []) ∷ [] }

abbrev end_of : (byte : ℕ) → End small
end_of byte = record { output = None; due = shown byte; late = false }

abbrev show : (name out : List ℕ) → Command small
show name out = first (naming name out) (λ u. first (reading_text name) (λ text. first (beginning text) (λ byte. gives (end_of byte))))

-- ---- what it comes to where its file is this one

abbrev holding : Option (List ℕ) → Files
holding file name = file

-- to this status, and to no other
record ComesOnlyTo (command : Command small) (file : Option (List ℕ)) (status : Status) : Type 0 where
  comes : Comes end_status command (holding file) status
  only : (other : Status) → Comes end_status command (holding file) other → other ≡ status

abbrev same : Command small
same = show (codes "a") (codes "a")

abbrev two : Command small
two = show (codes "a") (codes "b")

differ : IsOneOf (codes "b") (codes "a" ∷ []) → ⊥
differ (inl e) = absurd (grind arith)
differ (inr never) = never

-- the first step refuses, whatever the file is
only_same : (file : Option (List ℕ)) (other : Status) → Comes end_status same (holding file) other → other ≡ SameName
only_same file other (inl (u, is, e)) = e
only_same file other (inr (u, n, h)) = absurd (n (inl refl))

one_name : (file : Option (List ℕ)) → ComesOnlyTo same file SameName
one_name file = record { comes = inl (tt, inl refl, refl); only = only_same file }

-- the second does
only_missing : (other : Status) → Comes end_status two (holding None) other → other ≡ Missing
only_missing other (inl (u, is, e)) = absurd (differ is)
only_missing other (inr (u, n, inl (absent, c, e))) = e
only_missing other (inr (u, n, inl (long, c, e))) = absurd (not_absent None c.content refl c.there)
only_missing other (inr (u, n, inr (text, h, rest))) = absurd (not_absent None text refl h.there)

no_file : ComesOnlyTo two None Missing
no_file = record { comes = inr (tt, differ, inl (absent, refl, refl)); only = only_missing }

four : IsTooLong (Some (codes "text")) 3
four = record { content = codes "text"; there = refl; more = omega arith }

only_long : (other : Status) → Comes end_status two (holding (Some (codes "text"))) other → other ≡ TooLong
only_long other (inl (u, is, e)) = absurd (differ is)
only_long other (inr (u, n, inl (absent, c, e))) = absurd (not_absent (Some (codes "text")) (codes "text") c refl)
only_long other (inr (u, n, inl (long, c, e))) = e
only_long other (inr (u, n, inr (text, h, rest))) = absurd (not_long (Some (codes "text")) 3 text h four)

a_byte_too_many : ComesOnlyTo two (Some (codes "text")) TooLong
a_byte_too_many = record { comes = inr (tt, differ, inl (long, four, refl)); only = only_long }

-- the third does
none : HoldsContent (Some []) 3 []
none = record { there = refl; within = omega arith }

no_first : (text : List ℕ) (byte : ℕ) → [] ≡ text → slice_get text 0 ≡ Some byte → ⊥
no_first [] byte e is = absurd cc
no_first (b ∷ text) byte e is = absurd cc

only_empty : (other : Status) → Comes end_status two (holding (Some [])) other → other ≡ Empty
only_empty other (inl (u, is, e)) = absurd (differ is)
only_empty other (inr (u, n, inl (absent, c, e))) = absurd (not_absent (Some []) [] c refl)
only_empty other (inr (u, n, inl (long, c, e))) = absurd (not_long (Some []) 3 [] none c)
only_empty other (inr (u, n, inr (text, h, inl (v, c, e)))) = e
only_empty other (inr (u, n, inr (text, h, inr (byte, is, e)))) = absurd (no_first text byte (one_content (Some []) 3 [] text none h) is)

no_bytes : ComesOnlyTo two (Some []) Empty
no_bytes = record { comes = inr (tt, differ, inr ([], none, inl (tt, refl, refl))); only = only_empty }

-- none does
three : HoldsContent (Some (codes "abc")) 3 (codes "abc")
three = record { there = refl; within = omega arith }

not_empty : (text : List ℕ) → codes "abc" ≡ text → text ≡ [] → ⊥
not_empty [] e is = absurd cc
not_empty (b ∷ text) e is = absurd cc

only_done : (other : Status) → Comes end_status two (holding (Some (codes "abc"))) other → other ≡ Done
only_done other (inl (u, is, e)) = absurd (differ is)
only_done other (inr (u, n, inl (absent, c, e))) = absurd (not_absent (Some (codes "abc")) (codes "abc") c refl)
only_done other (inr (u, n, inl (long, c, e))) = absurd (not_long (Some (codes "abc")) 3 (codes "abc") three c)
only_done other (inr (u, n, inr (text, h, inl (v, c, e)))) = absurd (not_empty text (one_content (Some (codes "abc")) 3 (codes "abc") text three h) c)
only_done other (inr (u, n, inr (text, h, inr (byte, is, e)))) = e

the_most_bytes : ComesOnlyTo two (Some (codes "abc")) Done
the_most_bytes = record { comes = inr (tt, differ, inr (codes "abc", three, inr (97, refl, refl))); only = only_done }

-- ---- at which step it stops

stops_at_the_second : Stops two 2 (holding None) Missing
stops_at_the_second = (tt, differ, (absent, refl, refl))

not_at_the_first : (status : Status) → Stops two 1 (holding None) status → ⊥
not_at_the_first status (u, is, e) = differ is

not_at_the_third : (status : Status) → Stops two 3 (holding None) status → ⊥
not_at_the_third status (u, n, (text, h, rest)) = not_absent None text refl h.there

it_is_refused : IsRefused two (holding None)
it_is_refused = inr (tt, differ, inl (absent, refl))

it_does_not_end : (status : Status) → Ends end_status two (holding None) status → ⊥
it_does_not_end status (u, n, (text, h, rest)) = not_absent None text refl h.there

it_ends : Ends end_status two (holding (Some (codes "abc"))) Done
it_ends = (tt, differ, (codes "abc", three, (97, refl, refl)))

nothing_refuses : IsRefused two (holding (Some (codes "abc"))) → ⊥
nothing_refuses (inl (u, is)) = differ is
nothing_refuses (inr (u, n, inl (absent, c))) = not_absent (Some (codes "abc")) (codes "abc") c refl
nothing_refuses (inr (u, n, inl (long, c))) = not_long (Some (codes "abc")) 3 (codes "abc") three c
nothing_refuses (inr (u, n, inr (text, h, inl (v, c)))) = not_empty text (one_content (Some (codes "abc")) 3 (codes "abc") text three h) c
nothing_refuses (inr (u, n, inr (text, h, inr (byte, is, never)))) = never

-- the statuses of its steps and of its end are its own, and those of devices are not
its_own : IsOf end_status two TooLong
its_own = inr (tt, (holding None, differ), inl (long, (holding (Some (codes "text")), four), refl))

not_its_own : IsOf end_status two StoreFailed → ⊥
not_its_own (inl (u, is, e)) = absurd cc
not_its_own (inr (u, n, inl (absent, c, e))) = absurd cc
not_its_own (inr (u, n, inl (long, c, e))) = absurd cc
not_its_own (inr (u, n, inr (text, h, inl (v, c, e)))) = absurd cc
not_its_own (inr (u, n, inr (text, h, inr (byte, is, e)))) = absurd cc

a_refusal : IsRefusal small Empty
a_refusal = omega arith

an_end : IsRefusal small Done → ⊥
an_end h = omega arith

-- ---- from one store to another

abbrev store : Option (List ℕ) → (misses : ℕ) → StoreView
store file misses = record { told = true; files = holding file; reading = None; place = 0; writing = None; spare = 0; faults = 0; misses = misses }

only_reads : (file : Option (List ℕ)) (before after : ℕ) → OnlyReads (store file before) (store file after)
only_reads file before after = record { keeps = record { was_told = λ t. t; files = λ t n. refl; tells = λ t h. (t, omega arith) }; writing = refl }

-- a file that isn't there is counted
is_counted : Halts (reading_text (codes "a")) (store None 0) (store None 1) Missing
is_counted = refused absent (record { only_reads = only_reads None 0 1; within = λ told opened. omega arith }) (record { rose = omega arith; misses = omega arith; faults = refl }) (seen (store None 0) (λ files. files (codes "a") ≡ None) refl) refl

not_passed_over : Halts (reading_text (codes "a")) (store None 0) (store None 0) Missing → ⊥
not_passed_over (refused absent looks counts cause e) = let r = counts.rose in omega arith
not_passed_over (refused long looks counts cause e) = absurd cc
not_passed_over (failed file is looks counts e) = absurd cc
not_passed_over (no_memory looks counts e) = absurd cc

-- where none refuses, the first byte is due
module _ (v : StoreView) where
  own_name_passes : Passes (naming (codes "a") (codes "b")) v v tt
  own_name_passes = decided 1 (λ (u : Unit {0}). IsOneOf (codes "b") (codes "a" ∷ []) → ⊥) (λ (u : Unit {0}). IsOneOf (codes "b") (codes "a" ∷ [])) (λ u. SameName) v tt differ

  first_byte_passes : Passes (beginning (codes "abc")) v v 97
  first_byte_passes = decided 3 (λ (byte : ℕ). slice_get (codes "abc") 0 ≡ Some byte) (λ (u : Unit {0}). codes "abc" ≡ []) (λ u. Empty) v 97 refl

abbrev full : StoreView
full = store (Some (codes "abc")) 0

text_passes : Passes (reading_text (codes "a")) full full (codes "abc")
text_passes = record {
  looks = record { only_reads = only_reads (Some (codes "abc")) 0 0; within = λ told opened. omega arith };
  counts = record { faults = refl; misses = refl };
  finds = seen full (λ files. HoldsContent (files (codes "a")) 3 (codes "abc")) three;
}

it_runs : Runs two (λ kind. codes "a") full full (shown 97)
it_runs = inr (end_of 97, full, (full, tt, own_name_passes full, (full, codes "abc", text_passes, (full, 97, first_byte_passes full, (refl, refl)))), finished (untouched full) refl)

-- ---- what is put

the_line_of_a_fault : refusal small (λ kind. codes "a") Missing ≡ record { status = Missing; pieces = on_log (codes "a") ∷ [] }
the_line_of_a_fault = refl

abbrev sink : (written : List ℕ) → (spare : ℕ) → SinkView
sink written spare = record { told = true; written = written; spare = spare; faults = 0; failed = false }

abbrev empty : StreamsView
empty = streams (sink [] 9) (sink [] 9)

-- each piece on its own stream
put_in_order : ArePut (on_out (codes "a") ∷ on_log (codes "b") ∷ []) empty (streams (sink (codes "a") 8) (sink (codes "b") 8))
put_in_order = (
  streams (sink (codes "a") 8) (sink [] 9),
  record { happened = record { same_faults = refl; was_told = λ t. t; written = λ t. refl; keeps = λ t h. (t, refl) }; other = refl },
  (
    streams (sink (codes "a") 8) (sink (codes "b") 8),
    record { happened = record { same_faults = refl; was_told = λ t. t; written = λ t. refl; keeps = λ t h. (t, refl) }; other = refl },
    refl,
  ),
)

not_on_the_other : ArePut (on_out (codes "a") ∷ []) empty (streams (sink [] 9) (sink (codes "a") 8)) → ⊥
not_on_the_other (between, p, e) =
    let told : true ≡ between.out.told = ap (λ (s : StreamsView). s.out.told) e in
    let written : [] ≡ between.out.written = ap (λ (s : StreamsView). s.out.written) e in
    let is : between.out.written ≡ codes "a" = p.happened.written (sym told) in
    absurd cc
