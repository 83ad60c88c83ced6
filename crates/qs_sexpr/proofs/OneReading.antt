-- A text has one reading or one first fault, and an answer of the scan says which.
use Rattle.std.proofs.Common.{◌≡◌, ◌⊎◌, inl, inr, ℕ, List, Result, Ok, Err, refl, sym, ap, ◌∙◌, subst}
use Rattle.std.specs.declared.vec.Vec.{Vec}
use Rattle.std.specs.declared.alloc.Global.{Global}
use Rattle.qs_sexpr.specs.Reading.{Reading, Fault}
use Rattle.qs_sexpr.specs.Results.{IsRead, Says, GivesNodes, GivesFault, Gives, HasReading, HasFault, nodes_in}
use Rattle.qs_sexpr.specs.Scan.{Answer, parts_of, scanned}
use Rattle.qs_sexpr.specs.Trees.{Sexps, sexps_nodes}
use Rattle.qs_sexpr.specs.declared.fault.SexprFault.{SexprFault}
use Rattle.qs_sexpr.specs.declared.fault.SexprFault.TheVariants as faults
use Rattle.qs_sexpr.specs.declared.node.Node.{Node}
use Rattle.qs_sexpr.proofs.ReadingScans.{parts_list, parts_of_list, reading_scanned, fault_scanned}
use Rattle.qs_sexpr.proofs.ScanResults.{Told, scanned_told}

-- ---- what is in an answer

parts_in : Answer → Sexps → Sexps
parts_in (Ok parts) otherwise = parts_of parts
parts_in (Err fault) otherwise = otherwise

ok_of : {A : Type 0} → Result A SexprFault → A → A
ok_of (Ok a) otherwise = a
ok_of (Err fault) otherwise = otherwise

err_of : {A : Type 0} → Result A SexprFault → SexprFault
err_of (Ok a) = faults.NoMemory
err_of (Err fault) = fault

is_ok : {A : Type 0} → Result A SexprFault → Type 0
is_ok (Ok a) = Unit {0}
is_ok (Err fault) = ⊥

apart : {A : Type 0} (a : A) (fault : SexprFault) → Ok a ≡ Err fault → ⊥
unfolding is_ok
apart {A = A} a fault e = let P : Result A SexprFault → Type 0 = is_ok in subst P e tt

-- ---- one reading or one fault

pub one_list : (text : List ℕ) (parts others : Sexps) → Reading text parts → Reading text others → parts ≡ others
unfolding parts_in
one_list text parts others r s =
    sym (parts_of_list parts) ∙ (ap (λ (a : Answer). parts_in a parts) (sym (reading_scanned text parts r) ∙ reading_scanned text others s) ∙ parts_of_list others)

pub one_fault : (text : List ℕ) (fault other : SexprFault) → Fault text fault → Fault text other → fault ≡ other
unfolding err_of
one_fault text fault other f g = ap (λ (a : Answer). err_of a) (sym (fault_scanned text fault f) ∙ fault_scanned text other g)

pub not_both : (text : List ℕ) (parts : Sexps) (fault : SexprFault) → Reading text parts → Fault text fault → ⊥
not_both text parts fault r f = apart (parts_list parts) fault (sym (reading_scanned text parts r) ∙ fault_scanned text fault f)

by_answer : (text : List ℕ) (a : Answer) → Told text a → HasReading text ⊎ HasFault text
by_answer text (Ok parts) h = inl (record { parts = parts_of parts; reading = h })
by_answer text (Err fault) h = inr (record { fault = fault; is = h })

pub one : (text : List ℕ) → HasReading text ⊎ HasFault text
one text = by_answer text (scanned text) (scanned_told text)

-- ---- what the nodes of the scan say

read_from : (text : List ℕ) (a : Answer) (nodes : List Node) → Told text a → nodes_in a ≡ Ok nodes → IsRead text nodes
unfolding ok_of
read_from text (Ok parts) nodes h e = record { parts = parts_of parts; reading = h; nodes_are = ap (λ (r : Result (List Node) SexprFault). ok_of r nodes) (sym e) }
read_from text (Err fault) nodes h e = absurd (apart nodes fault (sym e))

fault_from : (text : List ℕ) (a : Answer) (fault : SexprFault) → Told text a → nodes_in a ≡ Err fault → Fault text fault
unfolding err_of
fault_from text (Ok parts) fault h e = absurd (apart (sexps_nodes (parts_of parts)) fault e)
fault_from text (Err due) fault h e = let P : SexprFault → Type 0 = λ f. Fault text f in subst P (ap (λ (r : Result (List Node) SexprFault). err_of r) e) h

pub says : (text : List ℕ) (result : Result (Vec Node Global) SexprFault) → Gives (nodes_in (scanned text)) result → Says text result
says text (Ok nodes) g = read_from text (scanned text) nodes.items (scanned_told text) g
says text (Err faults.NoMemory) g = tt
says text (Err (faults.BadByte at)) g = fault_from text (scanned text) (faults.BadByte at) (scanned_told text) g
says text (Err (faults.Unbalanced at)) g = fault_from text (scanned text) (faults.Unbalanced at) (scanned_told text) g
says text (Err (faults.BadNumber at)) g = fault_from text (scanned text) (faults.BadNumber at) (scanned_told text) g
says text (Err (faults.TooDeep at)) g = fault_from text (scanned text) (faults.TooDeep at) (scanned_told text) g

due_nodes : (text : List ℕ) (parts : Sexps) → Reading text parts → nodes_in (scanned text) ≡ Ok (sexps_nodes parts)
due_nodes text parts r = ap nodes_in (reading_scanned text parts r) ∙ ap (λ (ps : Sexps). Ok (sexps_nodes ps)) (parts_of_list parts)

pub only_reading : (text : List ℕ) (result : Result (Vec Node Global) SexprFault) → Gives (nodes_in (scanned text)) result → (parts : Sexps) → Reading text parts → GivesNodes parts result
unfolding ok_of
only_reading text (Ok nodes) g parts r = ap (λ (a : Result (List Node) SexprFault). ok_of a nodes.items) (sym g ∙ due_nodes text parts r)
only_reading text (Err faults.NoMemory) g parts r = refl
only_reading text (Err (faults.BadByte at)) g parts r = absurd (apart (sexps_nodes parts) (faults.BadByte at) (sym (due_nodes text parts r) ∙ g))
only_reading text (Err (faults.Unbalanced at)) g parts r = absurd (apart (sexps_nodes parts) (faults.Unbalanced at) (sym (due_nodes text parts r) ∙ g))
only_reading text (Err (faults.BadNumber at)) g parts r = absurd (apart (sexps_nodes parts) (faults.BadNumber at) (sym (due_nodes text parts r) ∙ g))
only_reading text (Err (faults.TooDeep at)) g parts r = absurd (apart (sexps_nodes parts) (faults.TooDeep at) (sym (due_nodes text parts r) ∙ g))

due_fault : (text : List ℕ) (fault : SexprFault) → Fault text fault → nodes_in (scanned text) ≡ Err fault
due_fault text fault f = ap nodes_in (fault_scanned text fault f)

told_fault : (text : List ℕ) (due fault : SexprFault) → Fault text due → nodes_in (scanned text) ≡ Err fault → fault ≡ due
unfolding err_of
told_fault text due fault f e = ap (λ (a : Result (List Node) SexprFault). err_of a) (sym e ∙ due_fault text due f)

pub only_fault : (text : List ℕ) (result : Result (Vec Node Global) SexprFault) → Gives (nodes_in (scanned text)) result → (fault : SexprFault) → Fault text fault → GivesFault fault result
only_fault text (Ok nodes) g fault f = apart nodes.items fault (sym g ∙ due_fault text fault f)
only_fault text (Err faults.NoMemory) g fault f = inr refl
only_fault text (Err (faults.BadByte at)) g fault f = inl (told_fault text fault (faults.BadByte at) f g)
only_fault text (Err (faults.Unbalanced at)) g fault f = inl (told_fault text fault (faults.Unbalanced at) f g)
only_fault text (Err (faults.BadNumber at)) g fault f = inl (told_fault text fault (faults.BadNumber at) f g)
only_fault text (Err (faults.TooDeep at)) g fault f = inl (told_fault text fault (faults.TooDeep at) f g)

pub ruleset answer_laws = (says, only_reading, only_fault)
