-- The entry of a function goes by the preconditions of the other functions that it calls, and by nothing else.
use Rattle.std.proofs.Common.{◌≡◌, ◌==◌, ℕ, refl, ap, ◌∙◌, Bool, true, false, List, [], ◌∷◌, length, Some, None}
use Rattle.std.specs.Prelude.{if◌then◌else◌, Option, option_map}
use Rattle.std.specs.List.{slice_get, list_any}
use Rattle.std.proofs.lemmas.Bool.{or_right}
use Rattle.qs_memory.specs.Partial.{◌>>=◌, only_if}
use Rattle.qs_calls.specs.declared.callee.Callee.{Callee}
use Rattle.qs_calls.specs.declared.callee.Callee.TheVariants.{Function, PutChar, GetChar}
use Rattle.qs_assert.specs.Trees.{AssertionTree}
use Rattle.qs_core.specs.CallGraph.{below, calls, is_member}
use Rattle.qs_core.specs.Fits.{unit_fits}
use Rattle.qs_core.specs.Trees as core
use Rattle.qs_core.specs.Trees.{CoreExprTree, CoreStmtTree, CoreStmts, no_stmts, stmt_and, CoreFunctionTree, CoreUnitTree}
use Rattle.qs_callgraph.proofs.MemberLaws.{member_first}
use Rattle.qs_entail.specs.Certificates.{CertTree, same}
use Rattle.qs_triples.specs.Derivations.{DerivationTree, sequence, conditional, loop, switch, balanced_call, consequence, DerivationTrees, derivation_and, EntryTree}
use Rattle.qs_recur.specs.Around.{Way, certificate_of, Ways, before, body_ways, step_ways, switch_ways, by_switch, by_parts, call_certificate, written_call, written, all_written}
use Rattle.qs_recur.specs.Bodies.{CallTree, calls_made, all_calls_made, all_switches_fit}
use Rattle.qs_recur.specs.Entries.{entry_in, entry_for}
use Rattle.qs_recur.specs.Needs.{Preconditions, helpers, Helper, helpers_with, helpers_cost_little, Counting, first_counting, body_fits, counting, arguments_fixed, call_need, passed_call, passed_calls, greatest_of, passing_fits, passing, balanced}
use Rattle.qs_recur.specs.Passing.{guarded_by, assumed, all_entered, picked_if, passing_ways, passed_on, pay_passing, passing_entry}
use Rattle.qs_recur.specs.Sizes.{is_of_costs}
use Rattle.qs_recur.specs.Written.{counting_entry}
use Rattle.qs_recur.proofs.FitLaws.{Each, each_first, each_second}
use Rattle.qs_recur.proofs.FoundLaws.{is_own, called_among}
use Rattle.qs_recur.proofs.HelpedLaws.{body_calls, calls_another, helper_listed}

-- ---- what is written, by what pays for the calls

module _ (r : AssertionTree) (pay other : ℕ → List CoreExprTree → CertTree) where
  abbrev pub PaysSame : CallTree → Type 0
  PaysSame call = pay call.function call.arguments ≡ other call.function call.arguments

  call_same : (x : Option ℕ) (g : Callee) (es : List CoreExprTree) (next : Way) → Each PaysSame (calls_made (core.call x g es)) → written_call r pay g es next ≡ written_call r other g es next
  call_same x (Function g) es next h = ap (λ (c : CertTree). consequence r (call_certificate (certificate_of next 0) c) balanced_call) h.0
  call_same x PutChar es next h = refl
  call_same x GetChar es next h = refl

  mutual
    pub written_same : (s : CoreStmtTree) (w : Ways) → Each PaysSame (calls_made s) → written r pay s w ≡ written r other s w
    written_same core.skip w h = refl
    written_same (core.seq ss) w h = ap (λ (ds : DerivationTrees). by_parts r ss w (sequence ds)) (all_written_same ss w h)
    written_same (core.assign x e) w h = refl
    written_same (core.store s to e) w h = refl
    written_same (core.copy size alignment to from) w h = refl
    written_same (core.fill contents to) w h = refl
    written_same (core.call x g es) w h = call_same x g es w.next h
    written_same (core.branch e s t) w h =
        ap (λ (d : DerivationTree). conditional d (written r pay t w)) (written_same s w (each_first PaysSame (calls_made s) (calls_made t) h))
        ∙ ap (λ (d : DerivationTree). conditional (written r other s w) d) (written_same t w (each_second PaysSame (calls_made s) (calls_made t) h))
    written_same (core.loop body step) w h =
        ap (λ (d : DerivationTree). loop r same d (written r pay step (step_ways w))) (written_same body (body_ways w) (each_first PaysSame (calls_made body) (calls_made step) h))
        ∙ ap (λ (d : DerivationTree). loop r same (written r other body (body_ways w)) d) (written_same step (step_ways w) (each_second PaysSame (calls_made body) (calls_made step) h))
    written_same (core.switch e labels ss) w h = ap (λ (ds : DerivationTrees). by_switch r w.next e labels (switch ds)) (all_written_same ss (switch_ways w) h)
    written_same core.break w h = refl
    written_same core.continue w h = refl
    written_same (core.return e) w h = refl

    all_written_same : (ss : CoreStmts) (w : Ways) → Each PaysSame (all_calls_made ss) → all_written r pay ss w ≡ all_written r other ss w
    all_written_same no_stmts w h = refl
    all_written_same (stmt_and s ss) w h =
        ap (λ (d : DerivationTree). derivation_and d (all_written r pay ss w)) (written_same s (before ss w) (each_first PaysSame (calls_made s) (all_calls_made ss) h))
        ∙ ap (λ (ds : DerivationTrees). derivation_and (written r other s (before ss w)) ds) (all_written_same ss w (each_second PaysSame (calls_made s) (all_calls_made ss) h))

-- ---- preconditions that agree

module _ (u : CoreUnitTree) (fits : unit_fits u ≡ true) (pres others : Preconditions) where
  abbrev Agree : List ℕ → Type 0
  Agree gs = (g : ℕ) → is_member g gs ≡ true → pres g ≡ others g

  helpers_same : (gs : List ℕ) → Agree gs → helpers_with pres gs ≡ helpers_with others gs
  helpers_same [] h = refl
  helpers_same (g ∷ gs) h =
      let last = λ (pre : AssertionTree) (hs : List Helper). only_if (is_of_costs pre) (Some (record { function = g; need = pre } ∷ hs)) in
      ap (λ (o : Option AssertionTree). o >>= λ pre. helpers_with pres gs >>= λ hs. last pre hs) (h g (member_first g gs))
      ∙ ap (λ (o : Option (List Helper)). others g >>= λ pre. o >>= λ hs. last pre hs) (helpers_same gs (λ k m. h k (or_right (g == k) (is_member k gs) m)))

  abbrev AgreesAt : CallTree → Type 0
  AgreesAt call = pres call.function ≡ others call.function

  module _ (function : CoreFunctionTree) where
    call_passed_same : (call : CallTree) → AgreesAt call → passed_call u pres function call ≡ passed_call u others function call
    call_passed_same call h = ap (λ (o : Option AssertionTree). o >>= λ pre. only_if (arguments_fixed function call.arguments pre) (call_need u call pre)) h

    calls_passed_same : (calls : List CallTree) → Each AgreesAt calls → passed_calls u pres function calls ≡ passed_calls u others function calls
    calls_passed_same [] h = refl
    calls_passed_same (call ∷ calls) h =
        ap (λ (o : Option AssertionTree). o >>= λ a. passed_calls u pres function calls >>= λ bs. Some (a ∷ bs)) (call_passed_same call h.0)
        ∙ ap (λ (o : Option (List AssertionTree)). passed_call u others function call >>= λ a. o >>= λ bs. Some (a ∷ bs)) (calls_passed_same calls h.1)

    passing_same : Each AgreesAt (all_calls_made function.body) → passing u pres function ≡ passing u others function
    passing_same h =
        ap (λ (o : Option (List AssertionTree)). only_if (all_switches_fit function.body) o >>= λ parts. only_if (passing_fits function (greatest_of parts)) (Some parts)) (calls_passed_same (all_calls_made function.body) h)

    pays_same : (needs : List AssertionTree) (calls : List CallTree) → Each AgreesAt calls → Each (PaysSame (guarded_by (passed_on (greatest_of needs)) (greatest_of needs)) (pay_passing u pres function needs) (pay_passing u others function needs)) calls
    pays_same needs [] h = tt
    pays_same needs (call ∷ calls) h = (
      ap (λ (o : Option AssertionTree). assumed (length (passed_on (greatest_of needs))) (picked_if o needs)) (call_passed_same call h.0),
      pays_same needs calls h.1,
    )

    passing_entry_same : (f : ℕ) (needs : List AssertionTree) → Each AgreesAt (all_calls_made function.body) → passing_entry u pres function needs f ≡ passing_entry u others function needs f
    passing_entry_same f needs h =
        let need = greatest_of needs in
        ap (λ (d : DerivationTree). record { function = f; spec = balanced need; entry = all_entered (length (passed_on need)); body = d })
        (written_same (guarded_by (passed_on need) need) (pay_passing u pres function needs) (pay_passing u others function needs) (core.seq function.body) (passing_ways (passed_on need) need) (pays_same needs (all_calls_made function.body) h))

    each_passing_same :
        (f : ℕ) (o : Option (List AssertionTree)) → Each AgreesAt (all_calls_made function.body)
        → option_map (λ needs. passing_entry u pres function needs f) o ≡ option_map (λ needs. passing_entry u others function needs f) o
    each_passing_same f None h = refl
    each_passing_same f (Some needs) h = ap (λ (e : EntryTree). Some e) (passing_entry_same f needs h)

    counting_same : (f : ℕ) → Agree (helpers u f) → counting u pres f function ≡ counting u others f function
    counting_same f h =
        ap (λ (o : Option (List Helper)). only_if (body_fits function) o >>= λ hs. only_if (helpers_cost_little hs) (first_counting function f (below (length function.parameters)) hs)) (helpers_same (helpers u f) h)

    -- ---- the entry

    module _ (f : ℕ) (stands : slice_get u.functions f ≡ Some function) (agree : Agree (helpers u f)) where
      callee_agrees : calls u f f ≡ false → (g : ℕ) → list_any (is_own g) (all_calls_made function.body) ≡ true → pres g ≡ others g
      callee_agrees alone g m =
          let called = body_calls u f function stands g m in
          agree g (helper_listed u fits f g called (calls_another u f g alone called))

      all_agree : calls u f f ≡ false → (cs : List CallTree) → Each (λ call. list_any (is_own call.function) (all_calls_made function.body) ≡ true) cs → Each AgreesAt cs
      all_agree alone [] h = tt
      all_agree alone (call ∷ cs) h = (callee_agrees alone call.function h.0, all_agree alone cs h.1)

      entry_in_same : entry_in u pres f function ≡ entry_in u others f function
      entry_in_same = by (calls u f f) refl
        where
          by :
              (b : Bool) → calls u f f ≡ b
              → (if b then option_map (λ c. counting_entry f c function) (counting u pres f function) else option_map (λ needs. passing_entry u pres function needs f) (passing u pres function))
              ≡ (if b then option_map (λ c. counting_entry f c function) (counting u others f function) else option_map (λ needs. passing_entry u others function needs f) (passing u others function))
          by true own = ap (λ (o : Option Counting). option_map (λ c. counting_entry f c function) o) (counting_same f agree)
          by false alone =
              let h = all_agree alone (all_calls_made function.body) (called_among (all_calls_made function.body) []) in
              ap (λ (o : Option (List AssertionTree)). option_map (λ needs. passing_entry u pres function needs f) o) (passing_same h) ∙ each_passing_same f (passing u others function) h

  pub entry_same : (f : ℕ) → Agree (helpers u f) → entry_for u pres f ≡ entry_for u others f
  entry_same f agree = by (slice_get u.functions f) refl
    where
      by : (o : Option CoreFunctionTree) → slice_get u.functions f ≡ o → (o >>= entry_in u pres f) ≡ (o >>= entry_in u others f)
      by None e = refl
      by (Some function) e = entry_in_same function f e agree
