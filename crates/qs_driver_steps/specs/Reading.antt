-- Steps of which commands are made: those that look at no file, and a file that is read.
use Rattle.std.specs.Prelude.{◌≡◌, ◌⊎◌, ℕ, Bool, true, false, List, [], ◌∷◌, Option, Some, None, Vec}
use Rattle.std.specs.declared.alloc.Global.{Global}
use Rattle.qs_driver_steps.specs.Files.{HoldsContent, IsTooLong}
use Rattle.qs_driver_steps.specs.Statuses.{Statuses}
use Rattle.qs_driver_steps.specs.Steps.{Step}

-- ---- without a file

-- what is found or is wrong is decided by what was found before
abbrev pub deciding :
    {S : Statuses} {Found Fault : Type 0} → (number : ℕ) → (Found → Type 0) → (Fault → Type 0)
    → (Fault → S.Status) → Step S
deciding {S} {Found} {Fault} number Finds Cause status = record {
  number = number;
  Found = Found;
  Fault = Fault;
  Finds = λ files y. Finds y;
  Cause = λ files f. Cause f;
  status = status;
  file = None;
  misses = λ f. false;
}

-- nothing but memory can be wanting
abbrev pub finding : {S : Statuses} {Found : Type 0} → (number : ℕ) → (Found → Type 0) → Step S
finding {S} {Found} number Finds =
    deciding {S = S} {Found = Found} {Fault = ⊥} number Finds (λ f. ⊥) (λ f. S.no_memory)

-- it is refused where this is so
abbrev pub refusing : {S : Statuses} → (number : ℕ) → (IsSo : Type 0) → S.Status → Step S
refusing {S} number IsSo status =
    deciding {S = S} {Found = Unit {0}} {Fault = Unit {0}} number (λ u. IsSo → ⊥) (λ u. IsSo) (λ u. status)

-- the name is one of these
abbrev pub IsOneOf : List ℕ → List (List ℕ) → Type 0
IsOneOf name [] = ⊥
IsOneOf name (other ∷ others) = (other ≡ name) ⊎ IsOneOf name others

-- ---- a file

-- what may be wrong with a file
pub data FileFault : Type 0 where
  absent : FileFault
  long : FileFault

abbrev pub HasFileFault : Option (List ℕ) → (limit : ℕ) → FileFault → Type 0
HasFileFault file limit absent = file ≡ None
HasFileFault file limit long = IsTooLong file limit

abbrev pub file_status : (S : Statuses) → S.Kind → FileFault → S.Status
file_status S kind absent = S.missing kind
file_status S kind long = S.too_long kind

abbrev pub is_absent : FileFault → Bool
is_absent absent = true
is_absent long = false

-- the file of this kind is read, of this limit and name
abbrev pub reading :
    {S : Statuses} → (number : ℕ) → S.Kind → (limit : ℕ) → (name : List ℕ) → Step S
reading {S} number kind limit name = record {
  number = number;
  Found = List ℕ;
  Fault = FileFault;
  Finds = λ files text. HoldsContent (files name) limit text;
  Cause = λ files f. HasFileFault (files name) limit f;
  status = file_status S kind;
  file = Some (record { kind = kind; limit = limit });
  misses = is_absent;
}

-- what the code reads, as the step says it
abbrev pub items_of : Vec ℕ Global → List ℕ
items_of bytes = bytes.items
