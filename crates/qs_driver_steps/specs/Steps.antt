-- A command is a list of steps, and an end; and what it comes to by the files alone.
use Rattle.std.specs.Prelude.{◌≡◌, ◌⊎◌, ℕ, ◌==◌, Bool, true, false, List, Option}
use Rattle.qs_ports.specs.StoreView.{Files}
use Rattle.qs_driver_steps.specs.Due.{Due}
use Rattle.qs_driver_steps.specs.Statuses.{Statuses}

-- a file that a step reads: its kind, and the most bytes that it may have
pub record FileToRead (S : Statuses) : Type 0 where
  pub kind : S.Kind
  pub limit : ℕ

-- What a step finds, or its faults; of which files it finds what, and has which fault; and the status at each fault.
pub record Step (S : Statuses) : Type 1 where
  -- its place in the order of all steps
  pub number : ℕ
  pub Found : Type 0
  pub Fault : Type 0
  pub Finds : Files → Found → Type 0
  pub Cause : Files → Fault → Type 0
  pub status : Fault → S.Status
  -- the file that it reads, and the faults that are that this file isn't there
  pub file : Option (FileToRead S)
  pub misses : Fault → Bool

-- Steps that give a value of this type at last. Each comes after those before, and may look at what they found.
pub data Steps (S : Statuses) (A : Type 0) : Type 1 where
  gives : A → Steps S A
  first : (s : Step S) → (s.Found → Steps S A) → Steps S A

-- these steps, and then those that come of what they give
abbrev pub then : {S : Statuses} {A B : Type 0} → Steps S A → (A → Steps S B) → Steps S B
then (gives a) next = next a
then (first s rest) next = first s (λ y. then (rest y) next)

-- a file that is made and written at the end
pub record FileToWrite (S : Statuses) : Type 0 where
  pub kind : S.Kind
  pub name : List ℕ
  pub bytes : List ℕ

-- where all steps pass: the file that is written, what is due then, and whether memory may be wanting after that file
pub record End (S : Statuses) : Type 0 where
  pub output : Option (FileToWrite S)
  pub due : Due S
  pub late : Bool

-- a command ends where all its steps pass
abbrev pub Command : Statuses → Type 1
Command S = Steps S (End S)

abbrev pub end_status : {S : Statuses} → End S → S.Status
end_status e = e.due.status

-- ---- what steps come to by the files; a value that is given has this status

-- they come to this status
abbrev pub Comes :
    {S : Statuses} {A : Type 0} → (A → S.Status) → Steps S A → Files → S.Status → Type 0
Comes of (gives a) files status = status ≡ of a
Comes of (first s rest) files status =
    ((f : s.Fault) × s.Cause files f × (status ≡ s.status f))
    ⊎ ((y : s.Found) × s.Finds files y × Comes of (rest y) files status)

-- the first of two statements where a test is met, and else the second
abbrev pub ByTest : Bool → Type 0 → Type 0 → Type 0
ByTest true A B = A
ByTest false A B = B

-- the steps before the one of this number pass, and it has a cause for this status
abbrev pub Stops :
    {S : Statuses} {A : Type 0} → Steps S A → (number : ℕ) → Files → S.Status → Type 0
Stops (gives a) number files status = ⊥
Stops (first s rest) number files status =
    ByTest (s.number == number) ((f : s.Fault) × s.Cause files f × (status ≡ s.status f))
    ((y : s.Found) × s.Finds files y × Stops (rest y) number files status)

-- the steps before one of them pass, and it has a cause
abbrev pub IsRefused : {S : Statuses} {A : Type 0} → Steps S A → Files → Type 0
IsRefused (gives a) files = ⊥
IsRefused (first s rest) files =
    ((f : s.Fault) × s.Cause files f)
    ⊎ ((y : s.Found) × s.Finds files y × IsRefused (rest y) files)

-- all steps pass, and what they give has this status
abbrev pub Ends :
    {S : Statuses} {A : Type 0} → (A → S.Status) → Steps S A → Files → S.Status → Type 0
Ends of (gives a) files status = status ≡ of a
Ends of (first s rest) files status =
    (y : s.Found) × s.Finds files y × Ends of (rest y) files status

-- a status of one of the steps, or of what they give; each step sees some files
abbrev pub IsOf : {S : Statuses} {A : Type 0} → (A → S.Status) → Steps S A → S.Status → Type 0
IsOf of (gives a) status = status ≡ of a
IsOf of (first s rest) status =
    ((f : s.Fault) × ((files : Files) × s.Cause files f) × (status ≡ s.status f))
    ⊎ ((y : s.Found) × ((files : Files) × s.Finds files y) × IsOf of (rest y) status)
