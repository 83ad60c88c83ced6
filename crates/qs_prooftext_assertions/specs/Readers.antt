-- What readers promise of a list or atom, of the parts of a list, and of the first of them: the answer is
-- what they mean, or want of memory.
use Rattle.std.specs.Prelude.{ℕ, List, Result}
use Rattle.qs_sexpr.specs.Trees.{Sexp, Sexps}
use Rattle.qs_sexpr.specs.declared.node.Node.{Node}
use Rattle.qs_prooftext_meaning.specs.declared.context.Context.{Context}
use Rattle.qs_prooftext_meaning.specs.declared.fault.TextFault.{TextFault}
use Rattle.qs_prooftext_assertions.specs.declared.parts.Part.{Part}
use Rattle.qs_prooftext_assertions.specs.Answers.{Gives, IsPart, Stands, StandAll}
use Rattle.qs_prooftext_meaning.specs.Contexts.{setting_of}
use Rattle.qs_prooftext_assertions.specs.Firsts.{first_means}
use Rattle.qs_prooftext_meaning.specs.Kinds.{Kind, Of}
use Rattle.qs_prooftext_meaning.specs.Meanings.{Answer, means}
use Rattle.qs_prooftext_meaning.specs.Settings.{Setting}

-- the parts with these nodes give what they mean, in this view
abbrev pub GivesParts :
    {A T : Type 0} → (text : List ℕ) → (parts : List Node) → (Sexps → Answer A) → (T → A) → Result T TextFault
    → Type 0
GivesParts text parts meaning view result = (ss : Sexps) → StandAll text parts ss → Gives view (meaning ss) result

-- ---- in a context

-- the list or atom with these nodes is read as one of the kind
abbrev pub Reads :
    {T : Type 0} → Context → (nodes : List Node) → (k : Kind) → (T → Of k) → Result T TextFault → Type 0
Reads c nodes k view result = (s : Sexp) → Stands c.text.now nodes s → Gives view (means (setting_of c) k s) result

abbrev pub ReadsPart : {T : Type 0} → Context → Part → (k : Kind) → (T → Of k) → Result T TextFault → Type 0
ReadsPart c part k view result = (s : Sexp) → IsPart c.text.now s part → Gives view (means (setting_of c) k s) result

abbrev pub ReadsParts :
    {A T : Type 0} → Context → (parts : List Node) → (Setting → Sexps → Answer A) → (T → A)
    → Result T TextFault → Type 0
ReadsParts c parts meaning view result = GivesParts c.text.now parts (meaning (setting_of c)) view result

-- the first of the parts is read as one of the kind
abbrev pub ReadsFirst :
    {T : Type 0} → Context → (parts : List Node) → (k : Kind) → (T → Of k) → Result T TextFault → Type 0
ReadsFirst c parts k view result =
    (ss : Sexps) → StandAll c.text.now parts ss → Gives view (first_means (setting_of c) k ss) result

-- ---- in any setting

abbrev pub ReadsAnywhere :
    {T : Type 0} → (text : List ℕ) → (nodes : List Node) → (k : Kind) → (T → Of k) → Result T TextFault
    → Type 0
ReadsAnywhere text nodes k view result = (s : Sexp) (g : Setting) → Stands text nodes s → Gives view (means g k s) result

abbrev pub ReadsPartAnywhere : {T : Type 0} → Part → (k : Kind) → (T → Of k) → Result T TextFault → Type 0
ReadsPartAnywhere part k view result =
    (text : List ℕ) (s : Sexp) (g : Setting) → IsPart text s part → Gives view (means g k s) result

abbrev pub ReadsPartsAnywhere :
    {A T : Type 0} → (text : List ℕ) → (parts : List Node) → (Setting → Sexps → Answer A) → (T → A)
    → Result T TextFault → Type 0
ReadsPartsAnywhere text parts meaning view result =
    (ss : Sexps) (g : Setting) → StandAll text parts ss → Gives view (meaning g ss) result

abbrev pub ReadsFirstAnywhere :
    {T : Type 0} → (text : List ℕ) → (parts : List Node) → (k : Kind) → (T → Of k) → Result T TextFault
    → Type 0
ReadsFirstAnywhere text parts k view result =
    (ss : Sexps) (g : Setting) → StandAll text parts ss → Gives view (first_means g k ss) result
