-- Nodes, calls and sites of typed trees are no more than their measures.
use Rattle.std.proofs.Common.{◌≡◌, ℕ, suc, ◌+◌, ◌<◌, ◌≤◌, nat_eq, List, [], ◌∷◌, ◌++◌, Option, None, Some, Bool, true}
use Rattle.std.proofs.Common.{false, if◌then◌else◌, inl, inr, arith}
use Rattle.std.proofs.lemmas.Bool.{false≢true}
use Rattle.std.proofs.lemmas.Bool.Decides.{nat_tests}
use Rattle.cl_model.specs.Lists.{Each, IsOneOf, AllDiffer}
use Rattle.cl_model.specs.Tree.{Action, Literal, Variable, Unary, Binary, Builtin, Convert, Ask, Second, Truth}
use Rattle.cl_model.specs.Tree.{Decided, Set, Change, Load, Store, Expression, Apply, Update, Choose, Call}
use Rattle.cl_model.specs.Tree.{Expressions, none, more, Statement, Do, Declare, Fill, Block, If, Loop, Switch, Break}
use Rattle.cl_model.specs.Tree.{Continue, Return, Barrier, Statements, empty, also, Arms, no_arm, arm}
use Rattle.cl_model.specs.Calls.{CallSite, calls_in, calls_among, calls_in_optional, calls_of, calls_of_all}
use Rattle.cl_model.specs.Calls.{calls_of_arms}
use Rattle.cl_model.specs.Valid.{action_nodes, nodes_in, nodes_among, nodes_in_optional, nodes_of, nodes_of_all}
use Rattle.cl_model.specs.Valid.{nodes_of_arms, action_sites, sites_in, sites_among, sites_in_optional, sites_of}
use Rattle.cl_model.specs.Valid.{sites_of_all, sites_of_arms}
use Rattle.cl_check_sound.proofs.Measure.{action_measure, measure, measures}
use Rattle.cl_check_sound.proofs.Weighing.{measure_optional, weigh, weigh_all, weigh_arms}
use Rattle.cl_check_sound.proofs.Weights.{nodes_alone, calls_alone, site_alone}

-- ---- nodes

action_small : (a : Action) → action_nodes a ≤ action_measure nodes_alone a
action_small (Literal v of) = omega arith
action_small (Variable x) = omega arith
action_small (Unary op of) = omega arith
action_small (Binary op of) = omega arith
action_small (Builtin g of) = omega arith
action_small (Convert to) = omega arith
action_small (Ask q) = omega arith
action_small Second = omega arith
action_small Truth = omega arith
action_small (Decided b) = omega arith
action_small (Set x) = omega arith
action_small (Change x op of back old) = omega arith
action_small (Load site t root) = omega arith
action_small (Store site t root) = omega arith

mutual
  nodes_small : (e : Expression) → nodes_in e ≤ measure nodes_alone e
  nodes_small (Apply a es) = let x = action_small a in let y = nodes_small_all es in omega arith
  nodes_small (Update site t root op of back old i v) = let x = nodes_small i in let y = nodes_small v in omega arith
  nodes_small (Choose site c a b) = let x = nodes_small c in let y = nodes_small a in let z =
      nodes_small b in omega arith
  nodes_small (Call site g roots es) = let y = nodes_small_all es in omega arith

  nodes_small_all : (es : Expressions) → nodes_among es ≤ measures nodes_alone es
  nodes_small_all none = omega arith
  nodes_small_all (more e es) = let x = nodes_small e in let y = nodes_small_all es in omega arith

nodes_small_optional : (o : Option Expression) → nodes_in_optional o ≤ measure_optional nodes_alone o
nodes_small_optional None = omega arith
nodes_small_optional (Some e) = nodes_small e

mutual
  nodes_light : (s : Statement) → nodes_of s ≤ weigh nodes_alone s
  nodes_light (Do e) = let x = nodes_small e in omega arith
  nodes_light (Declare x v) = let y = nodes_small_optional v in omega arith
  nodes_light (Fill site a vs) = let y = nodes_small_all vs in omega arith
  nodes_light (Block l) = let y = nodes_light_all l in omega arith
  nodes_light (If site c a b) = let x = nodes_small c in let y = nodes_light_all a in let z =
      nodes_light_all b in omega arith
  nodes_light (Loop site t c e b) = let x = nodes_small_optional c in let y = nodes_small_optional e in let z =
      nodes_light b in omega arith
  nodes_light (Switch site v as') = let x = nodes_small v in let y = nodes_light_arms as' in omega arith
  nodes_light (Break site) = omega arith
  nodes_light (Continue site) = omega arith
  nodes_light (Return site v) = let y = nodes_small_optional v in omega arith
  nodes_light (Barrier site) = omega arith

  pub nodes_light_all : (l : Statements) → nodes_of_all l ≤ weigh_all nodes_alone l
  nodes_light_all empty = omega arith
  nodes_light_all (also s l) = let x = nodes_light s in let y = nodes_light_all l in omega arith

  nodes_light_arms : (as' : Arms) → nodes_of_arms as' ≤ weigh_arms nodes_alone as'
  nodes_light_arms no_arm = omega arith
  nodes_light_arms (arm ls o b rest) = let x = nodes_light_all b in let y = nodes_light_arms rest in omega arith

-- ---- calls

-- a sum over calls
abbrev pub sum_calls : (ℕ → ℕ) → List CallSite → ℕ
sum_calls c [] = 0
sum_calls c (x ∷ xs) = c x.function + sum_calls c xs

sum_append : (c : ℕ → ℕ) (xs ys : List CallSite) → sum_calls c (xs ++ ys) ≡ sum_calls c xs + sum_calls c ys
sum_append c [] ys = omega arith
sum_append c (x ∷ xs) ys = let e = sum_append c xs ys in omega arith

module _ (c : ℕ → ℕ) where
  mutual
    calls_small : (e : Expression) → sum_calls c (calls_in e) ≤ measure (calls_alone c) e
    calls_small (Apply a es) = let y = calls_small_all es in omega arith
    calls_small (Update site t root op of back old i v) = let x = calls_small i in let y = calls_small v in let e =
        sum_append c (calls_in i) (calls_in v) in omega arith
    calls_small (Choose site t a b) =
        let x = calls_small t in let y = calls_small a in let z = calls_small b in
        let e = sum_append c (calls_in t) (calls_in a ++ calls_in b) in let f =
        sum_append c (calls_in a) (calls_in b) in omega arith
    calls_small (Call site g roots es) = let y = calls_small_all es in let e =
        sum_append c (calls_among es) (record { site = site; function = g } ∷ []) in omega arith

    calls_small_all : (es : Expressions) → sum_calls c (calls_among es) ≤ measures (calls_alone c) es
    calls_small_all none = omega arith
    calls_small_all (more e es) = let x = calls_small e in let y = calls_small_all es in let f =
        sum_append c (calls_in e) (calls_among es) in omega arith

  calls_small_optional : (o : Option Expression) →
      sum_calls c (calls_in_optional o) ≤ measure_optional (calls_alone c) o
  calls_small_optional None = omega arith
  calls_small_optional (Some e) = calls_small e

  mutual
    calls_light : (s : Statement) → sum_calls c (calls_of s) ≤ weigh (calls_alone c) s
    calls_light (Do e) = let x = calls_small e in omega arith
    calls_light (Declare x v) = let y = calls_small_optional v in omega arith
    calls_light (Fill site a vs) = let y = calls_small_all vs in omega arith
    calls_light (Block l) = let y = calls_light_all l in omega arith
    calls_light (If site t a b) =
        let x = calls_small t in let y = calls_light_all a in let z = calls_light_all b in
        let e = sum_append c (calls_in t) (calls_of_all a ++ calls_of_all b) in let f =
        sum_append c (calls_of_all a) (calls_of_all b) in omega arith
    calls_light (Loop site z t e b) =
        let x = calls_small_optional t in let y = calls_small_optional e in let w = calls_light b in
        let g = sum_append c (calls_in_optional t) (calls_in_optional e ++ calls_of b) in let f =
        sum_append c (calls_in_optional e) (calls_of b) in omega arith
    calls_light (Switch site v as') = let x = calls_small v in let y = calls_light_arms as' in let e =
        sum_append c (calls_in v) (calls_of_arms as') in omega arith
    calls_light (Break site) = omega arith
    calls_light (Continue site) = omega arith
    calls_light (Return site v) = let y = calls_small_optional v in omega arith
    calls_light (Barrier site) = omega arith

    pub calls_light_all : (l : Statements) → sum_calls c (calls_of_all l) ≤ weigh_all (calls_alone c) l
    calls_light_all empty = omega arith
    calls_light_all (also s l) = let x = calls_light s in let y = calls_light_all l in let e =
        sum_append c (calls_of s) (calls_of_all l) in omega arith

    calls_light_arms : (as' : Arms) → sum_calls c (calls_of_arms as') ≤ weigh_arms (calls_alone c) as'
    calls_light_arms no_arm = omega arith
    calls_light_arms (arm ls o b rest) = let x = calls_light_all b in let y = calls_light_arms rest in let e =
        sum_append c (calls_of_all b) (calls_of_arms rest) in omega arith

-- ---- sites

-- how often a number stands in a list
abbrev pub occurs : ℕ → List ℕ → ℕ
occurs s [] = 0
occurs s (x ∷ xs) = (if nat_eq x s then 1 else 0) + occurs s xs

pub occurs_append : (s : ℕ) (xs ys : List ℕ) → occurs s (xs ++ ys) ≡ occurs s xs + occurs s ys
occurs_append s [] ys = omega arith
occurs_append s (x ∷ xs) ys = let e = occurs_append s xs ys in omega arith

module _ (s : ℕ) where
  action_sited : (a : Action) → occurs s (action_sites a) ≤ action_measure (site_alone s) a
  action_sited (Literal v of) = omega arith
  action_sited (Variable x) = omega arith
  action_sited (Unary op of) = omega arith
  action_sited (Binary op of) = omega arith
  action_sited (Builtin g of) = omega arith
  action_sited (Convert to) = omega arith
  action_sited (Ask q) = omega arith
  action_sited Second = omega arith
  action_sited Truth = omega arith
  action_sited (Decided b) = omega arith
  action_sited (Set x) = omega arith
  action_sited (Change x op of back old) = omega arith
  action_sited (Load site t root) = omega arith
  action_sited (Store site t root) = omega arith

  mutual
    sites_small : (e : Expression) → occurs s (sites_in e) ≤ measure (site_alone s) e
    sites_small (Apply a es) = let x = action_sited a in let y = sites_small_all es in let e =
        occurs_append s (action_sites a) (sites_among es) in omega arith
    sites_small (Update site t root op of back old i v) = let x = sites_small i in let y = sites_small v in let e =
        occurs_append s (sites_in i) (sites_in v) in omega arith
    sites_small (Choose site t a b) =
        let x = sites_small t in let y = sites_small a in let z = sites_small b in
        let e = occurs_append s (sites_in t) (sites_in a ++ sites_in b) in let f =
        occurs_append s (sites_in a) (sites_in b) in omega arith
    sites_small (Call site g roots es) = let y = sites_small_all es in omega arith

    sites_small_all : (es : Expressions) → occurs s (sites_among es) ≤ measures (site_alone s) es
    sites_small_all none = omega arith
    sites_small_all (more e es) = let x = sites_small e in let y = sites_small_all es in let f =
        occurs_append s (sites_in e) (sites_among es) in omega arith

  sites_small_optional : (o : Option Expression) → occurs s (sites_in_optional o) ≤ measure_optional (site_alone s) o
  sites_small_optional None = omega arith
  sites_small_optional (Some e) = sites_small e

  mutual
    sites_light : (t : Statement) → occurs s (sites_of t) ≤ weigh (site_alone s) t
    sites_light (Do e) = let x = sites_small e in omega arith
    sites_light (Declare x v) = let y = sites_small_optional v in omega arith
    sites_light (Fill site a vs) = let y = sites_small_all vs in omega arith
    sites_light (Block l) = let y = sites_light_all l in omega arith
    sites_light (If site t a b) =
        let x = sites_small t in let y = sites_light_all a in let z = sites_light_all b in
        let e = occurs_append s (sites_in t) (sites_of_all a ++ sites_of_all b) in let f =
        occurs_append s (sites_of_all a) (sites_of_all b) in omega arith
    sites_light (Loop site z t e b) =
        let x = sites_small_optional t in let y = sites_small_optional e in let w = sites_light b in
        let g = occurs_append s (sites_in_optional t) (sites_in_optional e ++ sites_of b) in let f =
        occurs_append s (sites_in_optional e) (sites_of b) in omega arith
    sites_light (Switch site v as') = let x = sites_small v in let y = sites_light_arms as' in let e =
        occurs_append s (sites_in v) (sites_of_arms as') in omega arith
    sites_light (Break site) = omega arith
    sites_light (Continue site) = omega arith
    sites_light (Return site v) = let y = sites_small_optional v in omega arith
    sites_light (Barrier site) = omega arith

    pub sites_light_all : (l : Statements) → occurs s (sites_of_all l) ≤ weigh_all (site_alone s) l
    sites_light_all empty = omega arith
    sites_light_all (also t l) = let x = sites_light t in let y = sites_light_all l in let e =
        occurs_append s (sites_of t) (sites_of_all l) in omega arith

    sites_light_arms : (as' : Arms) → occurs s (sites_of_arms as') ≤ weigh_arms (site_alone s) as'
    sites_light_arms no_arm = omega arith
    sites_light_arms (arm ls o b rest) = let x = sites_light_all b in let y = sites_light_arms rest in let e =
        occurs_append s (sites_of_all b) (sites_of_arms rest) in omega arith

-- a number that occurs at most once
occurs_here : (s : ℕ) (xs : List ℕ) → IsOneOf xs s → 1 ≤ occurs s xs
occurs_here s [] h = absurd h
occurs_here s (x ∷ xs) (inl e) = by (nat_eq x s) (let q : nat_eq x s ≡ true = grind (arith, nat_tests) in q)
  where
    by : (b : Bool) → b ≡ true → 1 ≤ (if b then 1 else 0) + occurs s xs
    by true h = omega arith
    by false h = absurd (false≢true h)
occurs_here s (x ∷ xs) (inr h) = let e = occurs_here s xs h in omega arith

self_occurs : (x : ℕ) (xs : List ℕ) → occurs x (x ∷ xs) ≡ suc (occurs x xs)
self_occurs x xs = by (nat_eq x x) (let q : nat_eq x x ≡ true = grind (arith, nat_tests) in q)
  where
    by : (b : Bool) → b ≡ true → (if b then 1 else 0) + occurs x xs ≡ suc (occurs x xs)
    by true h = omega arith
    by false h = absurd (false≢true h)

pub all_differ : (xs : List ℕ) → ((s : ℕ) → occurs s xs ≤ 1) → AllDiffer xs
all_differ [] h = tt
all_differ (x ∷ xs) h = (
  (λ k. (let a = h x in let b = self_occurs x xs in let c = occurs_here x xs k in absurd (omega arith))),
  all_differ xs (λ s. (let a = h s in omega arith)),
)

pub each_place : (n : ℕ) (xs : List ℕ) → ((s : ℕ) → 1 ≤ occurs s xs → s < n) → Each (λ s. s < n) xs
each_place n [] h = tt
each_place n (x ∷ xs) h = ((let a = self_occurs x xs in h x (omega arith)), each_place n xs (λ s k. h s (omega arith)))
