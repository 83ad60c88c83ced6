-- A condition or its negation, as the list of the conditions that are pushed for it.
use Rattle.std.specs.Prelude.{◌≡◌, ℕ, ◌+◌, Bool, true, false, if◌then◌else◌, List, [], ◌∷◌, ◌++◌, replicate, reverse, Result, Ok, OnOk}
use Rattle.std.specs.Prelude.{not as flip}
use Rattle.qs_assert.specs.declared.node.CondNode.{CondNode}
use Rattle.qs_assert.specs.declared.node.CondNode.TheVariants.{Le, Lt, Eq, Ne, Not, And, Or}
use Rattle.qs_assert.specs.declared.node.Node.{Node}
use Rattle.qs_assert.specs.declared.node.Node.TheVariants.{Term, Condition, Assertion}
use Rattle.qs_assert.specs.Trees.{TermTree, CondTree, le, lt, eq, ne, not, and, or, CondTrees, no_conds, cond_and}
use Rattle.qs_poly.specs.Polynomials.{Polynomial}
use Rattle.qs_poly.specs.Operations.{lessened}
use Rattle.qs_assert.specs.Views.{begins, head_arity}
use Rattle.qs_base.specs.Results.{bind}
use Rattle.qs_base.specs.declared.memory.NoMemory.{NoMemory}
use Rattle.qs_entail.specs.Building.{Stop, Two, limited, difference, term_polynomial}
use Rattle.qs_entail.specs.Pushing.{Known, with_condition, with_polynomials}

-- ---- trees

-- what is pushed for a condition that is pushed whole
abbrev pub whole : Bool → CondTree → CondTree
whole false c = c
whole true (le t u) = lt u t
whole true (lt t u) = le u t
whole true (eq t u) = not (eq t u)
whole true (ne t u) = eq t u
whole true (not c) = not (not c)
whole true (and cs) = not (and cs)
whole true (or cs) = not (or cs)

abbrev mutual
  pub flat : Bool → CondTree → List CondTree
  flat negated (le t u) = whole negated (le t u) ∷ []
  flat negated (lt t u) = whole negated (lt t u) ∷ []
  flat negated (eq t u) = whole negated (eq t u) ∷ []
  flat negated (ne t u) = whole negated (ne t u) ∷ []
  flat negated (not c) = flat (flip negated) c
  flat negated (and cs) = if negated then not (and cs) ∷ [] else flats negated cs
  flat negated (or cs) = if negated then flats negated cs else or cs ∷ []

  pub flats : Bool → CondTrees → List CondTree
  flats negated no_conds = []
  flats negated (cond_and c cs) = flat negated c ++ flats negated cs

-- of hypotheses
abbrev pub flat_list : List CondTree → List CondTree
flat_list [] = []
flat_list (c ∷ cs) = flat false c ++ flat_list cs

-- ---- nodes

-- the parts of the condition are pushed in its place
abbrev pub opens_head : Bool → CondNode → Bool
opens_head negated Le = false
opens_head negated Lt = false
opens_head negated Eq = false
opens_head negated Ne = false
opens_head negated Not = true
opens_head negated (And n) = flip negated
opens_head negated (Or n) = negated

abbrev pub opens : Bool → List Node → Bool
opens negated [] = false
opens negated (Term node ∷ nodes) = false
opens negated (Condition node ∷ nodes) = opens_head negated node
opens negated (Assertion node ∷ nodes) = false

-- whether the parts are negated
abbrev pub parts_negated : Bool → List Node → Bool
parts_negated negated nodes = if begins nodes (Condition Not) then flip negated else negated

-- the parts of the first condition are put on the stack, whose front is its end
abbrev pub PutsParts : Bool → List Node → (old new : List Bool) → Result (Unit {0}) NoMemory → Type 0
PutsParts negated nodes old new result =
    OnOk result (reverse new ≡ replicate (head_arity nodes) (parts_negated negated nodes) ++ reverse old)

-- ---- polynomials

-- how many are pushed for a condition that is pushed whole
abbrev pub polynomial_count : CondTree → ℕ
polynomial_count (le t u) = 1
polynomial_count (lt t u) = 1
polynomial_count (eq t u) = 2
polynomial_count (ne t u) = 0
polynomial_count (not c) = 0
polynomial_count (and cs) = 0
polynomial_count (or cs) = 0

abbrev pub polynomial_counts : List CondTree → ℕ
polynomial_counts [] = 0
polynomial_counts (c ∷ cs) = polynomial_count c + polynomial_counts cs

-- what is pushed for a condition that is pushed whole

abbrev pub both_polynomials : TermTree → TermTree → Result Two Stop
both_polynomials t u = bind (term_polynomial t) (λ p. bind (term_polynomial u) (λ q. Ok (record { first = p; second = q })))

abbrev pub polynomials_of : CondTree → Result (List Polynomial) Stop
polynomials_of (le t u) = bind (both_polynomials t u) (λ z. bind (difference z.second z.first) (λ d. Ok (d ∷ [])))
polynomials_of (lt t u) = bind (both_polynomials t u) (λ z. bind (limited (lessened z.second 1 z.first 1)) (λ d. Ok (d ∷ [])))
polynomials_of (eq t u) =
    bind (both_polynomials t u) (λ z. bind (difference z.second z.first) (λ d. bind (difference z.first z.second) (λ e. Ok (d ∷ e ∷ []))))
polynomials_of (ne t u) = Ok []
polynomials_of (not c) = Ok []
polynomials_of (and cs) = Ok []
polynomials_of (or cs) = Ok []

abbrev pub push_whole : CondTree → Known → Result Known Stop
push_whole c k = bind (polynomials_of c) (λ ps. Ok (with_polynomials ps (with_condition c k)))

abbrev pub push_wholes : List CondTree → Known → Result Known Stop
push_wholes [] k = Ok k
push_wholes (c ∷ cs) k = bind (push_whole c k) (λ k'. push_wholes cs k')
