-- How the calls of a tool end, as far as its commands share it.
use Rattle.std.specs.Prelude.{ℕ, ◌<◌, List, []}

pub record Statuses : Type 1 where
  -- how a call ends, and the kinds of files that its words name
  pub Status : Type 0
  pub Kind : Type 0
  -- a status as far as it is fixed: what is free in it isn't seen, and all ends are seen as one
  pub Seen : Type 0
  pub seen : Status → Seen
  -- The place of the step that refuses so in the order of all steps; all ends have the last. (The statuses of devices and
  -- of memory belong to no step.)
  pub number : Status → ℕ
  pub last : ℕ
  -- a file of this kind isn't there, has more bytes than its limit; a call on the store failed at it
  pub missing : Kind → Status
  pub too_long : Kind → Status
  pub store_failed : Kind → Status
  -- a stream failed, and no memory was found
  pub sink_failed : Status
  pub no_memory : Status
  -- the line that tells a status, where the files have these names
  pub line : (Kind → List ℕ) → Status → List ℕ

-- the name of the file of each kind
abbrev pub Names : Statuses → Type 0
Names S = S.Kind → List ℕ

-- no file is named
abbrev pub no_names : (S : Statuses) → Names S
no_names S kind = []

-- a status of a step, and not of an end
abbrev pub IsRefusal : (S : Statuses) → S.Status → Type 0
IsRefusal S status = S.number status < S.last
