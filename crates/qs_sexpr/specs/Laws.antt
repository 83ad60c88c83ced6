-- What is promised of texts.
use Rattle.std.specs.Prelude.{◌≡◌, ◌⊎◌, ◌≤◌, ℕ, List, [], length}
use Rattle.qs_sexpr.specs.Reading.{Fault, Reading, depth_limit}
use Rattle.qs_sexpr.specs.Results.{HasFault, HasReading}
use Rattle.qs_sexpr.specs.Places.{LieIn, place_of}
use Rattle.qs_sexpr.specs.Trees.{Sexps}
use Rattle.qs_sexpr.specs.Layout.{lay_all}
use Rattle.qs_sexpr.specs.Spelling.{ReadsAs, SpellAll}
use Rattle.qs_sexpr.specs.Writing.{AreWritable, Forms, forms_of_parts}
use Rattle.qs_sexpr.specs.declared.fault.SexprFault.{SexprFault}

-- each text has a reading or a fault
abbrev pub EachIsRead : Type 0
EachIsRead = (text : List ℕ) → HasReading text ⊎ HasFault text

-- a text consists of lists and atoms in one way
abbrev pub OneReading : Type 0
OneReading = (text : List ℕ) (parts others : Sexps) → Reading text parts → Reading text others → parts ≡ others

-- a text has one first fault
abbrev pub OneFault : Type 0
OneFault = (text : List ℕ) (fault other : SexprFault) → Fault text fault → Fault text other → fault ≡ other

-- a text that is read has no fault
abbrev pub NeverBoth : Type 0
NeverBoth = (text : List ℕ) (parts : Sexps) (fault : SexprFault) → Reading text parts → Fault text fault → ⊥

abbrev pub PartsLieInTexts : Type 0
PartsLieInTexts = (text : List ℕ) (parts : Sexps) → Reading text parts → LieIn text parts

-- a fault stands in the text or at its end
abbrev pub FaultsLieInTexts : Type 0
FaultsLieInTexts = (text : List ℕ) (fault : SexprFault) → Fault text fault → place_of fault ≤ length text

-- a text that spells these forms reads as them
abbrev pub SpelledReads : Type 0
SpelledReads = (forms : Forms) (text : List ℕ) → AreWritable depth_limit forms → SpellAll forms text [] → ReadsAs text forms

-- what is laid out reads as the forms
abbrev pub WrittenReads : Type 0
WrittenReads = (forms : Forms) → AreWritable depth_limit forms → ReadsAs (lay_all forms) forms

-- what a text reads as can be written
abbrev pub ReadIsWritable : Type 0
ReadIsWritable = (text : List ℕ) (parts : Sexps) → Reading text parts → AreWritable depth_limit (forms_of_parts parts)
