-- Answers of the walk, one after another.
use Rattle.std.proofs.Common.{◌≡◌, ◌<◌, ◌+◌, ℕ, suc, drop, length, get_or, add-one, List, ◌∷◌, refl, sym, ap, ◌∙◌, subst, append-nil}
use Rattle.std.specs.Option.{option_or}
use Rattle.std.proofs.Math.Seq.{drop-cons}
use Rattle.std.specs.Prelude.{Box, Option, Some, None, Result, Ok, Err, IfOk, OnOk}
use Rattle.std.specs.declared.alloc.Global.{Global}
use Rattle.qs_assert.specs.declared.tree.Assertion.{Assertion}
use Rattle.qs_entail.specs.declared.certificate.Certificate.{Certificate, Certificate-F, fold-roll-Certificate}
use Rattle.qs_entail.specs.declared.certificate.Certificate.TheViews.{Via, Split, DropGuard}
use Rattle.qs_entail.specs.declared.certificate.Certificate.TheVariants.{rolls-Via, rolls-Split, rolls-DropGuard}
use Rattle.qs_assert.specs.declared.tree.Cond.{Cond}
use Rattle.qs_entail.specs.Certificates.{CertTree, via, split}
use Rattle.qs_entail.specs.Certificates.{drop as cert_drop}
use Rattle.qs_entail.specs.View.{cert_tree, certs_tree, cert_step}
use Rattle.qs_assert.specs.declared.define.Define.{Define}
use Rattle.qs_assert.specs.Trees.{AssertionTree, assertions_of}
use Rattle.qs_entail.specs.declared.fault.Rule.{Rule}
use Rattle.qs_entail.specs.declared.stop.Stop.{Stop}
use Rattle.qs_entail.specs.declared.stop.Stop.TheVariants.{NoMemory, Breaks, Passes}
use Rattle.qs_entail.specs.declared.failed.Failed.{Failed}
use Rattle.qs_entail.specs.declared.failed.Failed.TheVariants as failures
use Rattle.qs_entail.specs.Answers.{Follows, FollowsAs}
use Rattle.qs_base.specs.Results.{bind}
use Rattle.qs_entail.specs.Building as building
use Rattle.qs_entail.specs.Faults.{CertFault, step, limit, node, part, done, Guarded}
use Rattle.qs_entail.specs.Verdicts.{fault, faults_all, faults_parts}
use Rattle.qs_entail.specs.Pushing.{Known}
use Rattle.qs_entail.specs.Walking.{Place, Says, cut, settled}
use Rattle.qs_entail.specs.declared.walk.Mark.{Mark}

-- a node without parts
pub says_settled : (w : Place) (rule : Rule) (r : Result (Unit {0}) Stop) (attempt : Result (Unit {0}) building.Stop) → Follows r attempt → Says w w (settled rule r) (node rule attempt (λ _. None))
says_settled w rule (Ok u) attempt h = subst (λ a. Says w w (Ok u) (node rule a (λ _. None))) (sym h) refl
says_settled w rule (Err NoMemory) attempt h = tt
says_settled w rule (Err Breaks) attempt h =
    subst (λ a. Says w w (Err (failures.Step rule)) (node rule a (λ _. None))) (sym h) (refl, sym (append-nil w.path))
says_settled w rule (Err (Passes l)) attempt h =
    subst (λ a. Says w w (Err (failures.Limit l)) (node rule a (λ _. None))) (sym h) (refl, sym (append-nil w.path))

pub both_err : (old new : Place) (f : Failed) (v u : Option CertFault) → Says old new (Err f) v → Says old new (Err f) (option_or v u)
both_err old new failures.NoMemory v u h = tt
both_err old new (failures.Step r) None u h = absurd h
both_err old new (failures.Step r) (Some (step p q)) u h = h
both_err old new (failures.Step r) (Some (limit p q)) u h = absurd h
both_err old new (failures.Limit r) None u h = absurd h
both_err old new (failures.Limit r) (Some (step p q)) u h = absurd h
both_err old new (failures.Limit r) (Some (limit p q)) u h = h

pub both_ok : (old mid new : Place) (x : Unit {0}) (r : Result (Unit {0}) Failed) (v u : Option CertFault) → Says old mid (Ok x) v → Says mid new r u → Says old new r (option_or v u)
both_ok old mid new x r None u h k = subst (λ o. Says o new r u) h k
both_ok old mid new x r (Some f) u h k = absurd h

-- a condition with its negation: both are pushed before either part
pub split_ok : (old mid new : Place) (x : Unit {0}) (r : Result (Unit {0}) Failed) (rule : Rule) (a b : Result Known building.Stop) (f g : Known → Option CertFault) → Says old mid (Ok x) (node rule a (λ k. node rule b (λ _. f k))) → Says mid new r (node rule b g) → Says old new r (node rule a (λ k. node rule b (λ l. option_or (f k) (g l))))
split_ok old mid new x r rule (Ok k) (Ok l) f g h j = both_ok old mid new x r (f k) (g l) h j
split_ok old mid new x r rule (Ok k) (Err e) f g h j = absurd h
split_ok old mid new x r rule (Err e) b f g h j = absurd h

said_none : (old new : Place) (x : Unit {0}) (v : Option CertFault) → Says old new (Ok x) v → new ≡ old
said_none old new x None h = h
said_none old new x (Some f) h = absurd h

pub via_ok : (old mid new : Place) (x : Unit {0}) (r : Result (Unit {0}) Failed) (v : Option CertFault) (u : Known → Option CertFault) → Says old mid (Ok x) v → Says mid new r (u mid.known) → Says old new r (option_or v (u old.known))
via_ok old mid new x r v u h k =
    both_ok old old new x r v (u old.known) (subst (λ (w : Place). Says old w (Ok x) v) (said_none old mid x v h) h) (subst (λ (w : Place). Says w new r (u w.known)) (said_none old mid x v h) k)

pub split_known : (old mid new : Place) (x : Unit {0}) (r : Result (Unit {0}) Failed) (rule : Rule) (a : Result Known building.Stop) (b : Known → Result Known building.Stop) (f g : Known → Option CertFault) → Says old mid (Ok x) (node rule a (λ k. node rule (b old.known) (λ _. f k))) → Says mid new r (node rule (b mid.known) g) → Says old new r (node rule a (λ k. node rule (b old.known) (λ l. option_or (f k) (g l))))
split_known old mid new x r rule a b f g h k =
    let e = said_none old mid x (node rule a (λ k. node rule (b old.known) (λ _. f k))) h in
    split_ok old old new x r rule a (b old.known) f g (subst (λ (w : Place). Says old w (Ok x) (node rule a (λ k. node rule (b old.known) (λ _. f k)))) e h) (subst (λ (w : Place). Says w new r (node rule (b w.known) g)) e k)

pub split_err : (old new : Place) (f : Failed) (rule : Rule) (a b : Result Known building.Stop) (g h : Known → Option CertFault) → Says old new (Err f) (node rule a (λ k. node rule b (λ _. g k))) → Says old new (Err f) (node rule a (λ k. node rule b (λ l. option_or (g k) (h l))))
split_err old new f rule (Ok k) (Ok l) g h s = both_err old new f (g k) (h l) s
split_err old new f rule (Ok k) (Err e) g h s = s
split_err old new f rule (Err e) b g h s = s

-- a guard that goes: its condition is refuted, and then its body is shown

one_ok : (old new : Place) (x : Unit {0}) (r : Result (Unit {0}) Failed) (rule : Rule) (b : Result Known building.Stop) (g : Known → Option CertFault) (v : Option CertFault) → Says old old (Ok x) (node rule b g) → Says old new r v → Says old new r (node rule b (λ k. option_or (g k) v))
one_ok old new x r rule (Ok k) g v h j = both_ok old old new x r (g k) v h j
one_ok old new x r rule (Err e) g v h j = absurd h

one_err : (old new : Place) (f : Failed) (rule : Rule) (b : Result Known building.Stop) (g : Known → Option CertFault) (v : Option CertFault) → Says old new (Err f) (node rule b g) → Says old new (Err f) (node rule b (λ k. option_or (g k) v))
one_err old new f rule (Ok k) g v h = both_err old new f (g k) v h
one_err old new f rule (Err e) g v h = h

pub drop_err : (old new : Place) (f : Failed) (rule : Rule) (a : Result Guarded building.Stop) (b : Guarded → Result Known building.Stop) (g : Known → Option CertFault) (h : Guarded → Option CertFault) → Says old new (Err f) (node rule a (λ z. node rule (b z) g)) → Says old new (Err f) (node rule a (λ z. node rule (b z) (λ k. option_or (g k) (h z))))
drop_err old new f rule (Ok z) b g h s = one_err old new f rule (b z) g (h z) s
drop_err old new f rule (Err e) b g h s = s

drop_at : (old new : Place) (x : Unit {0}) (r : Result (Unit {0}) Failed) (rule : Rule) (a : Result Guarded building.Stop) (b : Guarded → Result Known building.Stop) (g : Known → Option CertFault) (h : Guarded → Option CertFault) → Says old old (Ok x) (node rule a (λ z. node rule (b z) g)) → Says old new r (node rule a h) → Says old new r (node rule a (λ z. node rule (b z) (λ k. option_or (g k) (h z))))
drop_at old new x r rule (Ok z) b g h s j = one_ok old new x r rule (b z) g (h z) s j
drop_at old new x r rule (Err e) b g h s j = absurd s

pub drop_ok : (old mid new : Place) (x : Unit {0}) (r : Result (Unit {0}) Failed) (rule : Rule) (a : Result Guarded building.Stop) (b : Guarded → Result Known building.Stop) (g : Known → Option CertFault) (h : Guarded → Known → Option CertFault) → Says old mid (Ok x) (node rule a (λ z. node rule (b z) g)) → Says mid new r (node rule a (λ z. h z mid.known)) → Says old new r (node rule a (λ z. node rule (b z) (λ k. option_or (g k) (h z old.known))))
drop_ok old mid new x r rule a b g h s j =
    let e = said_none old mid x (node rule a (λ z. node rule (b z) g)) s in
    drop_at old new x r rule a b g (λ z. h z old.known) (subst (λ (w : Place). Says old w (Ok x) (node rule a (λ z. node rule (b z) g))) e s) (subst (λ (w : Place). Says w new r (node rule a (λ z. h z w.known))) e j)

-- ---- a step of the node's rule, and then its part

-- the step gave nothing
pub says_failed : {A B : Type 0} (old new : Place) (rule : Rule) (r : Result A Stop) (failed : Failed) (view : A → B) (attempt : Result B building.Stop) (others : B → Option CertFault) → Err failed ≡ settled rule r → FollowsAs view r attempt → new.path ≡ old.path → Says old new (Err failed) (node rule attempt others)
says_failed old new rule (Ok a) failed view attempt others e h same = cc
says_failed old new rule (Err NoMemory) failed view attempt others e h same =
    let is : failed ≡ failures.NoMemory = cc in
    subst (λ (f : Failed). Says old new (Err f) (node rule attempt others)) (sym is) tt
says_failed old new rule (Err Breaks) failed view attempt others e h same =
    let is : failed ≡ failures.Step rule = cc in
    subst (λ (f : Failed). Says old new (Err f) (node rule attempt others)) (sym is)
    (subst (λ a. Says old new (Err (failures.Step rule)) (node rule a others)) (sym h) (refl, same ∙ sym (append-nil old.path)))
says_failed old new rule (Err (Passes l)) failed view attempt others e h same =
    let is : failed ≡ failures.Limit l = cc in
    subst (λ (f : Failed). Says old new (Err f) (node rule attempt others)) (sym is)
    (subst (λ a. Says old new (Err (failures.Limit l)) (node rule a others)) (sym h) (refl, same ∙ sym (append-nil old.path)))

-- what was known before the step is known again at its mark
pub says_at_mark : (old mid new : Place) (rule : Rule) (r : Result Mark Stop) (mark : Mark) (result : Result (Unit {0}) Failed) (known : Known) (attempt : Result Known building.Stop) (others : Known → Option CertFault) → Ok mark ≡ settled rule r → FollowsAs (λ _. known) r attempt → IfOk r (λ m. cut m mid ≡ old) → Says (cut mark mid) new result (others known) → Says old new result (node rule attempt others)
says_at_mark old mid new rule (Ok m) mark result known attempt others e h back says =
    let same : mark ≡ m = cc in
    let there : cut mark mid ≡ old = ap (λ (n : Mark). cut n mid) same ∙ back in
    subst (λ t. Says old new result (node rule t others)) (sym h) (subst (λ (w : Place). Says w new result (others known)) there says)
says_at_mark old mid new rule (Err stop) mark result known attempt others e h back says = cc

-- the part by what is made of the step's outcome
pub node_onto : {A B : Type 0} (rule : Rule) (a : Result A building.Stop) (made : A → B) (others : B → Option CertFault) → node rule (bind a (λ x. Ok (made x))) others ≡ node rule a (λ x. others (made x))
node_onto rule (Ok x) made others = refl
node_onto rule (Err stop) made others = refl

-- a condition and its negation were tried
pub tried_failed : (old new : Place) (rule : Rule) (r : Result (Unit {0}) Stop) (failed : Failed) (a b : Result Known building.Stop) (f : Known → Option CertFault) → Err failed ≡ settled rule r → Follows r (bind a (λ _. bind b (λ _. done))) → new.path ≡ old.path → Says old new (Err failed) (node rule a (λ k. node rule b (λ _. f k)))
tried_failed old new rule r failed (Ok k) (Ok l) f e h same = says_failed old new rule r failed (λ u. u) done (λ _. f k) e h same
tried_failed old new rule r failed (Ok k) (Err stop) f e h same = says_failed old new rule r failed (λ u. u) (Err stop) (λ _. f k) e h same
tried_failed old new rule r failed (Err stop) b f e h same = says_failed old new rule r failed (λ u. u) (Err stop) (λ _. None) e h same

both_pushed : (rule : Rule) (u : Unit {0}) (a b : Result Known building.Stop) (f : Known → Option CertFault) → bind a (λ _. bind b (λ _. done)) ≡ Ok u → node rule a f ≡ node rule a (λ k. node rule b (λ _. f k))
both_pushed rule u (Ok k) (Ok l) f h = refl
both_pushed rule u (Ok k) (Err stop) f h = cc
both_pushed rule u (Err stop) b f h = refl

pub says_tried : (old mid new : Place) (rule : Rule) (r : Result (Unit {0}) Stop) (u : Unit {0}) (result : Result (Unit {0}) Failed) (a : Known → Result Known building.Stop) (b : Result Known building.Stop) (f : Known → Option CertFault) → Ok u ≡ settled rule r → Follows r (bind (a old.known) (λ _. bind b (λ _. done))) → OnOk r (mid ≡ old) → Says mid new result (node rule (a mid.known) f) → Says old new result (node rule (a old.known) (λ k. node rule b (λ _. f k)))
says_tried old mid new rule (Ok v) u result a b f e h back says =
    subst (λ o. Says old new result o) (both_pushed rule v (a old.known) b f h)
    (subst (λ (w : Place). Says w new result (node rule (a w.known) f)) back says)
says_tried old mid new rule (Err stop) u result a b f e h back says = cc

-- ---- part by part

said : (old new : Place) (x : Unit {0}) (v : Option CertFault) → Says old new (Ok x) v → (v ≡ None) × (new ≡ old)
said old new x None h = (refl, h)
said old new x (Some f) h = absurd h

all_step : (cs : List Certificate) (ms rest : List AssertionTree) (i : ℕ) (c : Certificate) (m : AssertionTree) (ds : List Define) (k : Known) (p : AssertionTree) → i < length cs → c ≡ get_or cs i c → ms ≡ m ∷ rest → part i (fault (cert_tree c) ds k p m) ≡ None → faults_all (certs_tree (drop i cs)) i ds k p (assertions_of ms) ≡ faults_all (certs_tree (drop (i + 1) cs)) (i + 1) ds k p (assertions_of rest)
all_step cs ms rest i c m ds k p h is at none =
    (λ z. faults_all (certs_tree ((drop-cons cs i c h ∙ ap (λ (x : Certificate). x ∷ drop (suc i) cs) (sym is)) z)) i ds k p (assertions_of (at z)))
    ∙ (ap (λ (o : Option CertFault). option_or o (faults_all (certs_tree (drop (suc i) cs)) (suc i) ds k p (assertions_of rest))) none
    ∙ ap (λ (j : ℕ). faults_all (certs_tree (drop j cs)) j ds k p (assertions_of rest)) (sym (add-one i)))

pub each_goes_on : (start old new : Place) (x : Unit {0}) (cs : List Certificate) (ms rest : List AssertionTree) (i : ℕ) (c : Certificate) (m : AssertionTree) (ds : List Define) (p : AssertionTree) (v : Option CertFault) → old ≡ start → i < length cs → c ≡ get_or cs i c → ms ≡ m ∷ rest → Says old new (Ok x) (part i (fault (cert_tree c) ds old.known p m)) → v ≡ faults_all (certs_tree (drop i cs)) i ds start.known p (assertions_of ms) → (new ≡ start) × (v ≡ faults_all (certs_tree (drop (i + 1) cs)) (i + 1) ds start.known p (assertions_of rest))
each_goes_on start old new x cs ms rest i c m ds p v back h is at says others =
    let s = said old new x (part i (fault (cert_tree c) ds old.known p m)) says in
    let none = ap (λ (w : Place). part i (fault (cert_tree c) ds w.known p m)) (sym back) ∙ s.0 in
    (s.1 ∙ back, others ∙ all_step cs ms rest i c m ds start.known p h is at none)

pair_step : (cs : List Certificate) (ps qs left right : List AssertionTree) (i : ℕ) (c : Certificate) (p q : AssertionTree) (ds : List Define) (k : Known) → i < length cs → c ≡ get_or cs i c → ps ≡ p ∷ left → qs ≡ q ∷ right → part i (fault (cert_tree c) ds k p q) ≡ None → faults_parts (certs_tree (drop i cs)) i ds k (assertions_of ps) (assertions_of qs) ≡ faults_parts (certs_tree (drop (i + 1) cs)) (i + 1) ds k (assertions_of left) (assertions_of right)
pair_step cs ps qs left right i c p q ds k h is at there none =
    (λ z. faults_parts (certs_tree ((drop-cons cs i c h ∙ ap (λ (x : Certificate). x ∷ drop (suc i) cs) (sym is)) z)) i ds k (assertions_of (at z)) (assertions_of (there z)))
    ∙ (ap (λ (o : Option CertFault). option_or o (faults_parts (certs_tree (drop (suc i) cs)) (suc i) ds k (assertions_of left) (assertions_of right))) none
    ∙ ap (λ (j : ℕ). faults_parts (certs_tree (drop j cs)) j ds k (assertions_of left) (assertions_of right)) (sym (add-one i)))

pub pair_goes_on : (start old new : Place) (x : Unit {0}) (cs : List Certificate) (ps qs left right : List AssertionTree) (i : ℕ) (c : Certificate) (p q : AssertionTree) (ds : List Define) (v : Option CertFault) → old ≡ start → i < length cs → c ≡ get_or cs i c → ps ≡ p ∷ left → qs ≡ q ∷ right → Says old new (Ok x) (part i (fault (cert_tree c) ds old.known p q)) → v ≡ faults_parts (certs_tree (drop i cs)) i ds start.known (assertions_of ps) (assertions_of qs) → (new ≡ start) × (v ≡ faults_parts (certs_tree (drop (i + 1) cs)) (i + 1) ds start.known (assertions_of left) (assertions_of right))
pair_goes_on start old new x cs ps qs left right i c p q ds v back h is at there says others =
    let s = said old new x (part i (fault (cert_tree c) ds old.known p q)) says in
    let none = ap (λ (w : Place). part i (fault (cert_tree c) ds w.known p q)) (sym back) ∙ s.0 in
    (s.1 ∙ back, others ∙ pair_step cs ps qs left right i c p q ds start.known h is at there none)

-- ---- certificates of two parts

pub via_of : (r : Assertion) (c d : Box Certificate Global) → cert_tree (Via r c d) ≡ via r (cert_tree c.value) (cert_tree d.value)
via_of r c d = ap cert_tree (sym (rolls-Via r c d)) ∙ fold-roll-Certificate CertTree cert_step (Certificate-F.Via r c d)

pub split_of : (b : Cond) (c d : Box Certificate Global) → cert_tree (Split b c d) ≡ split b (cert_tree c.value) (cert_tree d.value)
split_of b c d = ap cert_tree (sym (rolls-Split b c d)) ∙ fold-roll-Certificate CertTree cert_step (Certificate-F.Split b c d)

pub drop_of : (c d : Box Certificate Global) → cert_tree (DropGuard c d) ≡ cert_drop (cert_tree c.value) (cert_tree d.value)
drop_of c d = ap cert_tree (sym (rolls-DropGuard c d)) ∙ fold-roll-Certificate CertTree cert_step (Certificate-F.DropGuard c d)
