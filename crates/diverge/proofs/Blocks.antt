-- A round over the statements of a block as a loop goes: from the front, and then back over the declarations.
use Rattle.std.proofs.Common.{◌≡◌, ℕ, suc, ◌+◌, ◌-◌, ◌<◌, ◌≤◌, Bool, true, false, ◌||◌, List, [], ◌∷◌, ◌++◌, length}
use Rattle.std.proofs.Common.{take, drop, get_or, if◌then◌else◌, Global, refl, ap, ap₂, sym, ◌∙◌, arith, add-zero}
use Rattle.std.proofs.Common.{zero-add}
use Rattle.std.proofs.lemmas.List.{at_drop_all, take_more}
use Rattle.std.specs.declared.vec.Vec.{Vec}
use Rattle.cl_model.specs.declared.program.Expr.{Expr}
use Rattle.cl_model.specs.declared.program.Stmt.{Stmt}
use Rattle.cl_model.specs.declared.program.Stmt.TheVariants as stmt
use Rattle.cl_model.specs.declared.program.SwitchArm.{SwitchArm}
use Rattle.cl_model.specs.Tree.{Function}
use Rattle.cl_model.specs.View.{expression_of, statement_of, listed_statements}
use Rattle.diverge.specs.declared.known.Spot.{Spot}
use Rattle.diverge.specs.declared.known.Ways.{Ways}
use Rattle.diverge.specs.Known.{State, under, joined, no_way, behind}
use Rattle.cl_model.specs.Listed.{listed_arms}
use Rattle.diverge.specs.Listed.{all_closed}
use Rattle.diverge.specs.Rounds.{Gone, Seen, closed, seen_in, gone_over, gone_over_all, gone_over_arms}
use Rattle.cl_model.proofs.Rows.{block_listed, switch_listed}

or_false : (a : Bool) → (a || false) ≡ a
or_false true = refl
or_false false = refl

or_assoc : (a b c : Bool) → (a || (b || c)) ≡ ((a || b) || c)
or_assoc true b c = refl
or_assoc false b c = refl

ways_by : (w v : Ways) → w.exits ≡ v.exits → w.escapes ≡ v.escapes → w ≡ v
ways_by w v h k = let make : Bool → Bool → Ways = λ a b. record { exits = a; escapes = b } in ap₂ make h k

pub joined_none : (w : Ways) → joined w no_way ≡ w
joined_none w = ways_by (joined w no_way) w (or_false w.exits) (or_false w.escapes)

pub joined_assoc : (u v w : Ways) → joined u (joined v w) ≡ joined (joined u v) w
joined_assoc u v w = ways_by (joined u (joined v w)) (joined (joined u v) w) (or_assoc u.exits v.exits w.exits)
    (or_assoc u.escapes v.escapes w.escapes)

-- the statements of a list from the front: their ways out, the number of the last that holds one under a condition
-- that varies, and what is known
pub record Passed : Type 0 where
  pub ways : Ways
  pub open_ : ℕ
  pub state : State

abbrev pub forward : Function → Spot → ℕ → Ways → ℕ → List Stmt → State → Passed
forward own at n w o [] s = record { ways = w; open_ = o; state = s }
forward own at n w o (x ∷ rest) s =
    let a = gone_over own at (statement_of x) s in
    forward own at (suc n) (joined a.ways w) (if a.ways.escapes then n else o) rest a.state

-- the block behind which a list stands
abbrev pub whole : Function → Spot → List Stmt → State → Gone
whole own at list s = gone_over_all own at (listed_statements list) s

-- in front of so many statements stand the declarations whose scope holds a way out under a condition that varies
abbrev pub opened : Function → Spot → List Stmt → State → ℕ
opened own at [] s = 0
opened own at (x ∷ rest) s =
    let t = (gone_over own at (statement_of x) s).state in
    if (whole own at rest t).ways.escapes then suc (opened own at rest t) else 0

forward_ways : (own : Function) (at : Spot) (n : ℕ) (w : Ways) (o : ℕ) (list : List Stmt) (s : State) →
    (forward own at n w o list s).ways ≡ joined (whole own at list s).ways w
forward_ways own at n w o [] s = refl
forward_ways own at n w o (x ∷ rest) s =
    let a = gone_over own at (statement_of x) s in
    forward_ways own at (suc n) (joined a.ways w) (if a.ways.escapes then n else o) rest a.state ∙
    joined_assoc (whole own at rest a.state).ways a.ways w

-- nothing is opened where there is no way out under a condition that varies
opened_none : (own : Function) (at : Spot) (list : List Stmt) (s : State) →
    (whole own at list s).ways.escapes ≡ false → opened own at list s ≡ 0
opened_none own at [] s h = refl
opened_none own at (x ∷ rest) s h =
    let a = gone_over own at (statement_of x) s in
    let b = (whole own at rest a.state).ways.escapes in
    let o = suc (opened own at rest a.state) in
    first_false b a.ways.escapes o h
  where
    first_false : (b a : Bool) (o : ℕ) → (b || a) ≡ false → (if b then o else 0) ≡ 0
    first_false true a o h = cc
    first_false false a o h = refl

last_of : (b a : Bool) (n o e : ℕ) →
    (if b then suc n + e else if a then n else o) ≡ (if b || a then n + (if b then suc e else 0) else o)
last_of true a n o e = omega arith
last_of false true n o e = sym (add-zero n)
last_of false false n o e = refl

forward_open : (own : Function) (at : Spot) (n : ℕ) (w : Ways) (o : ℕ) (list : List Stmt) (s : State) →
    (forward own at n w o list s).open_ ≡ (if (whole own at list s).ways.escapes then n + opened own at list s else o)
forward_open own at n w o [] s = refl
forward_open own at n w o (x ∷ rest) s =
    let a = gone_over own at (statement_of x) s in
    forward_open own at (suc n) (joined a.ways w) (if a.ways.escapes then n else o) rest a.state
    ∙ last_of (whole own at rest a.state).ways.escapes a.ways.escapes n o (opened own at rest a.state)

closed_by : (at : Spot) (x : Stmt) (rest : List Stmt) (b : Bool) (e : ℕ) (t v : State) →
    t ≡ all_closed at (take e rest) v → (b ≡ false → e ≡ 0)
    → closed at (statement_of x) b t ≡ all_closed at (take (if b then suc e else 0) (x ∷ rest)) v
closed_by at x rest true e t v h k = ap (closed at (statement_of x) true) h
closed_by at x rest false e t v h k = h ∙ ap (λ i. all_closed at (take i rest) v) (k refl)

whole_state : (own : Function) (at : Spot) (n : ℕ) (w : Ways) (o : ℕ) (list : List Stmt) (s : State) →
    (whole own at list s).state ≡ all_closed at (take (opened own at list s) list) (forward own at n w o list s).state
whole_state own at n w o [] s = refl
whole_state own at n w o (x ∷ rest) s =
    let a = gone_over own at (statement_of x) s in
    let b = whole own at rest a.state in
    closed_by at x rest b.ways.escapes (opened own at rest a.state) b.state
    (forward own at (suc n) (joined a.ways w) (if a.ways.escapes then n else o) rest a.state).state
    (whole_state own at (suc n) (joined a.ways w) (if a.ways.escapes then n else o) rest a.state)
    (opened_none own at rest a.state)

open_is : (own : Function) (at : Spot) (list : List Stmt) (s : State) →
    (forward own at 0 no_way 0 list s).open_ ≡ opened own at list s
open_is own at list s =
    let b = (whole own at list s).ways.escapes in
    forward_open own at 0 no_way 0 list s ∙ picked b (opened own at list s) (opened_none own at list s)
  where
    picked : (b : Bool) (e : ℕ) → (b ≡ false → e ≡ 0) → (if b then 0 + e else 0) ≡ e
    picked true e h = zero-add e
    picked false e h = sym (h refl)

-- what the loop finds is what the definition says
pub block_ways : (own : Function) (at : Spot) (list : List Stmt) (s : State) (w : Ways) (o : ℕ) (t : State) →
    record { ways = w; open_ = o; state = t } ≡ forward own at 0 no_way 0 list s → w ≡ (whole own at list s).ways
block_ways own at list s w o t h =
    ap (λ (p : Passed). p.ways) h ∙ forward_ways own at 0 no_way 0 list s ∙ joined_none (whole own at list s).ways

pub block_state : (own : Function) (at : Spot) (list : List Stmt) (s : State) (w : Ways) (o : ℕ) (t u : State) →
    record { ways = w; open_ = o; state = t } ≡ forward own at 0 no_way 0 list s → u ≡ all_closed at (take o list) t
    → u ≡ (whole own at list s).state
block_state own at list s w o t u h k =
    k ∙ ap (λ (p : Passed). all_closed at (take p.open_ list) p.state) h ∙
    ap (λ i. all_closed at (take i list) (forward own at 0 no_way 0 list s).state) (open_is own at list s)
    ∙ sym (whole_state own at 0 no_way 0 list s)

-- back over the declarations
pub closed_last : (at : Spot) (xs : List Stmt) (x : Stmt) (s : State) →
    all_closed at (xs ++ x ∷ []) s ≡ all_closed at xs (closed at (statement_of x) true s)
closed_last at [] x s = refl
closed_last at (y ∷ xs) x s = ap (closed at (statement_of y) true) (closed_last at xs x s)

pub closing_step : (at : Spot) (list : List Stmt) (n : ℕ) (x : Stmt) (s t r : State) → n < length list →
    x ≡ get_or list n x → t ≡ closed at (statement_of x) true s → all_closed at (take (n + 1) list) s ≡ r
    → all_closed at (take n list) t ≡ r
closing_step at list n x s t r lt is q h =
    ap (all_closed at (take n list)) q ∙
    sym (ap (λ l. all_closed at l s) (take_more list n x lt ∙ ap (λ y. take n list ++ y ∷ []) (sym is)) ∙
    closed_last at (take n list) x s) ∙ h

pub closing_back : (at : Spot) (list : List Stmt) (m : ℕ) (x : Stmt) (s t r : State) → 0 < m → m ≤ length list →
    x ≡ get_or list (m - 1) x → t ≡ closed at (statement_of x) true s → all_closed at (take m list) s ≡ r
    → all_closed at (take (m - 1) list) t ≡ r
closing_back at list m x s t r low high is q h =
    let back : m - 1 + 1 ≡ m = omega arith in
    closing_step at list (m - 1) x s t r (omega arith) is q (ap (λ k. all_closed at (take k list) s) back ∙ h)

-- a loop that is through
pub forward_end : (own : Function) (at : Spot) (n i : ℕ) (w : Ways) (o : ℕ) (list : List Stmt) (s : State)
    (p : Passed) → length list ≤ i → forward own at n w o (drop i list) s ≡ p → record {
      ways = w;
      open_ = o;
      state = s;
    } ≡ p
forward_end own at n i w o list s p le h = sym (at_drop_all (λ xs. forward own at n w o xs s) list i le) ∙ h

-- a block, and a switch, whose parts stand in a Vec
pub block_gone : (s : Stmt) (list : Vec Stmt Global) (own : Function) (at : Spot) (xs : List Stmt) (st : State) →
    s ≡ stmt.Block list → xs ≡ list.items → whole own at xs st ≡ gone_over own at (statement_of s) st
block_gone s list own at xs st h k =
    ap (λ l. whole own at l st) k ∙ sym (ap (λ x. gone_over own at x st) (ap statement_of h ∙ block_listed list))

pub seen_by : (r : Seen) (v : Bool) (s : State) → v ≡ r.varies → s ≡ r.state → record { varies = v; state = s } ≡ r
seen_by r v s h k = let make : Bool → State → Seen = λ a b. record { varies = a; state = b } in ap₂ make h k

-- behind the arms of a switch
abbrev pub behind_arms : Bool → Gone → Gone
behind_arms varies b = record { ways = behind varies b.ways; state = b.state }

pub switch_gone : (s : Stmt) (site : ℕ) (value : Expr) (list : Vec SwitchArm Global) (own : Function)
    (at inner : Spot) (xs : List SwitchArm) (st : State) (v : Seen) → s ≡ stmt.Switch site value list → xs ≡ list.items
    → v ≡ seen_in own at (expression_of value) st → inner ≡ under site v.varies at →
    behind_arms v.varies (gone_over_arms own inner (listed_arms xs) v.state) ≡ gone_over own at (statement_of s) st
switch_gone s site value list own at inner xs st v h k q g =
    ap (λ l. behind_arms v.varies (gone_over_arms own inner (listed_arms l) v.state)) k
    ∙ ap (λ i. behind_arms v.varies (gone_over_arms own i (listed_arms list.items) v.state)) g
    ∙ ap (λ (r : Seen). behind_arms r.varies (gone_over_arms own (under site r.varies at) (listed_arms list.items)
    r.state)) q
    ∙ sym (ap (λ x. gone_over own at x st) (ap statement_of h ∙ switch_listed site value list))
