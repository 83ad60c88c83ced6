-- Following jumps by a table of where each instruction jumps.
use Rattle.std.proofs.Common.{◌≡◌, ℕ, zero, suc, List, length, map, Option, Some, None, option_map, unwrap_or, refl, ap, ◌∙◌}
use Rattle.std.proofs.Math.Path.{fun_ext}
use Rattle.std.proofs.lemmas.List.{length-map}
use Rattle.std.proofs.lemmas.Option.{slice_get-map}
use Rattle.std.specs.List.{slice_get}
use Rattle.qs_tac.specs.Trees.{InstructionTree}
use Rattle.qs_lower_expressions.specs.Threads.{leads_to, onward_from, follow, retargeted, threaded}
use Rattle.qs_lower.specs.Leads.{leads_of, lead_in, follow_leads}

-- ---- the table

lead_same : (o : Option InstructionTree) → lead_in (option_map (λ i. leads_to (Some i)) o) ≡ leads_to o
lead_same None = refl
lead_same (Some i) = refl

onward_same : (code : List InstructionTree) (i : ℕ) → unwrap_or (lead_in (slice_get (leads_of code) i)) i ≡ onward_from code i
onward_same code i =
    ap (λ (o : Option ℕ). unwrap_or o i)
    (ap lead_in (slice_get-map (λ k. leads_to (Some k)) code i) ∙ lead_same (slice_get code i))

follow_same : (code : List InstructionTree) (n i : ℕ) → follow_leads (leads_of code) n i ≡ follow code n i
follow_same code zero i = refl
follow_same code (suc n) i =
    follow_same code n (unwrap_or (lead_in (slice_get (leads_of code) i)) i) ∙ ap (follow code n) (onward_same code i)

pub threaded_by_leads :
    (code after : List InstructionTree) (leads : List (Option ℕ)) → leads ≡ leads_of code
    → after ≡ map (retargeted (follow_leads leads (length leads))) code → after ≡ threaded code
threaded_by_leads code after leads l h =
    h
    ∙ ap (λ (ls : List (Option ℕ)). map (retargeted (follow_leads ls (length ls))) code) l
    ∙ ap (λ (n : ℕ). map (retargeted (follow_leads (leads_of code) n)) code) (length-map code (λ i. leads_to (Some i)))
    ∙ ap (λ (f : ℕ → ℕ). map (retargeted f) code) (fun_ext (λ i. follow_same code (length code) i))

-- ---- following

-- where nothing leads elsewhere, jumps end
pub follow_ends : (leads : List (Option ℕ)) (n i : ℕ) → lead_in (slice_get leads i) ≡ None → follow_leads leads n i ≡ i
follow_ends leads n i h = stays n
  where
    stays : (k : ℕ) → follow_leads leads k i ≡ i
    stays zero = refl
    stays (suc k) = ap (λ (o : Option ℕ). follow_leads leads k (unwrap_or o i)) h ∙ stays k

-- a jump to itself
pub follow_turns : (leads : List (Option ℕ)) (n i to : ℕ) → lead_in (slice_get leads i) ≡ Some to → to ≡ i → follow_leads leads n i ≡ i
follow_turns leads n i to h e = stays n
  where
    stays : (k : ℕ) → follow_leads leads k i ≡ i
    stays zero = refl
    stays (suc k) = ap (λ (o : Option ℕ). follow_leads leads k (unwrap_or o i)) (h ∙ ap Some e) ∙ stays k
