-- The calls of a unit's nodes hold those of its typed functions.
use Rattle.std.proofs.Common.{◌≡◌, ℕ, ◌+◌, ◌<◌, ◌≤◌, nat_eq, List, [], ◌∷◌, ◌++◌, length, Option, None, Some, Bool}
use Rattle.std.proofs.Common.{true, false, ◌&&◌, ◌||◌, if◌then◌else◌, refl, ap, ◌∙◌, subst, inl, inr, ◌⊎◌, arith}
use Rattle.std.proofs.Common.{eqb-true}
use Rattle.std.proofs.lemmas.Bool.{false≢true}
use Rattle.std.proofs.lemmas.Bool.Decides.{nat_tests}
use Rattle.std.specs.List.{list_any}
use Rattle.std.specs.Str.{bytes_eq}
use Rattle.cl_model.specs.Lists.{Each}
use Rattle.cl_model.specs.Tree.{Function, Program, Expression, Apply, Update, Choose, Call, Expressions, none, more}
use Rattle.cl_model.specs.Tree.{Statement, Do, Declare, Fill, Block, If, Loop, Switch, Break, Continue, Return}
use Rattle.cl_model.specs.Tree.{Barrier, Statements, empty, also, Arms, no_arm, arm}
use Rattle.cl_model.specs.Calls.{CallSite, calls_in, calls_among, calls_in_optional, calls_of_all, calls_of_arms}
use Rattle.cl_model.specs.Calls as model_calls
use Rattle.cl_model.specs.Valid.{HasType, HaveTypes, HasValue, IsPlainCall, OptionalFits, DeclaredFits, ReturnFits}
use Rattle.cl_model.specs.Valid.{AllHaveType, StatementFits, AllFit, ArmsFit}
use Rattle.cl_tree.specs.declared.tree.Form.{Form}
use Rattle.cl_tree.specs.declared.tree.Form.TheVariants as forms
use Rattle.cl_tree.specs.Syntax.{Syntax, node, Forest, last_of}
use Rattle.cl_tree.specs.Syntax as trees
use Rattle.cl_limits.specs.Limits.{called_sum}
use Rattle.cl_meaning.specs.Spelling.{name_in}
use Rattle.cl_meaning.specs.declared.fault.Fault.TheVariants as faults
use Rattle.cl_meaning.specs.declared.kind.Role.{Role}
use Rattle.cl_meaning.specs.Environment.{Env}
use Rattle.cl_meaning.specs.Kinds.{Callee, defined, undefined, known, callee_of}
use Rattle.cl_meaning.specs.Declarations.{form_of, word_of}
use Rattle.cl_meaning.specs.Visible.{Node, Before, is_front, role_of, inside, later, behind, kind_of, visible_at}
use Rattle.cl_meaning.specs.Visible.{in_order, parts_in_order}
use Rattle.cl_meaning.specs.Faults as faults_specs
use Rattle.cl_meaning.specs.Faults.{Asked, Sound, AllSound, given, leads_back, leads_from}
use Rattle.cl_meaning.specs.Faults.{call_in, call_at, calls_of, missing_in, missing_at, missing_of, is_called}
use Rattle.cl_check_sound.specs.Sound.{ListedAt, AllGood}
use Rattle.cl_check_sound.proofs.Grown.{each_append}
use Rattle.cl_check_sound.proofs.Holding.{node_calls, extra, extras}
use Rattle.cl_check_sound.proofs.Items.{bytes_same}
use Rattle.cl_check_sound.proofs.Weights.{calls_alone}
use Rattle.cl_check_sound.proofs.Tallies.{sum_calls}
use Rattle.cl_check_sound.proofs.Ends.{Edge}

-- ---- sums over the nodes

sum_append : (c : ℕ → ℕ) (xs ys : List faults_specs.Call) (k : ℕ) →
    called_sum c (xs ++ ys) k ≡ called_sum c xs k + called_sum c ys k
sum_append c [] ys k = omega arith
sum_append c (x ∷ xs) ys k = let e = sum_append c xs ys k in omega arith

call_same : (n : Node) (form : Form) (w : List ℕ) → call_at n form w ≡ node_calls (visible_at n.visible n.tree) form w
call_same n forms.CallNode w = refl
call_same n form w = refl

mutual
  unfolding in_order

  pub tree_called : (c : ℕ → ℕ) (k : ℕ) (env : Env) (role : Role) (t : Syntax) (rest : List Node) →
      extra (calls_alone c) k env t + called_sum c (calls_of rest) k ≡
      called_sum c (calls_of (in_order env role t rest)) k
  tree_called c k env role (node form w f l parts) rest =
      let n : Node = record { visible = env; role = role; tree = node form w f l parts } in
      let a = parts_called c k (inside env form w) form None parts (n ∷ rest) in
      let b = sum_append c (call_at n form w) (calls_of rest) k in
      let d = ap (λ z. called_sum c z k) (call_same n form w) in
      omega arith

  pub parts_called : (c : ℕ → ℕ) (k : ℕ) (env : Env) (form : Form) (b : Before) (parts : Forest) (rest : List Node) →
      extras (calls_alone c) k env form (is_front b) parts + called_sum c (calls_of rest) k ≡
      called_sum c (calls_of (parts_in_order env form b parts rest)) k
  parts_called c k env form b trees.none rest = omega arith
  parts_called c k env form b (trees.more p ps) rest =
      let next = later (behind env p) form (is_front b) p (kind_of env p) in
      let x = tree_called c k env (role_of form b p) p (parts_in_order next form (Some (last_of p)) ps rest) in
      let y = parts_called c k next form (Some (last_of p)) ps rest in
      omega arith

-- ---- no call leads back

each_of_call : (Q : faults_specs.Call → Type 0) (env : Env) (o : Option Callee) →
    ((n : ℕ) (g : _) → o ≡ Some (defined n g) → Q (record { caller = env.owner.number; called = n })) →
    Each Q (call_in env o)
each_of_call Q env (Some (defined n g)) h = (h n g refl, tt)
each_of_call Q env (Some undefined) h = tt
each_of_call Q env (Some (known i)) h = tt
each_of_call Q env None h = tt

abbrev pub NotBack : List faults_specs.Call → faults_specs.Call → Type 0
NotBack calls c = leads_back calls c.called c.caller ≡ false

node_back : (asked : Asked) (env : Env) (role : Role) (form : Form) (w : List ℕ) (f l : ℕ) (parts : Forest) →
    Sound asked (record { visible = env; role = role; tree = node form w f l parts }) →
    Each (NotBack asked.calls) (call_at (record { visible = env; role = role; tree = node form w f l parts }) form w)
node_back asked env role forms.CallNode w f l parts s =
    let v = visible_at env (node forms.CallNode w f l parts) in
    each_of_call (NotBack asked.calls) v (callee_of v (name_in w))
    (λ n g e. subst (λ z. given z (leads_from asked.calls v.owner.number) ≡ false) e (s faults.Recursion))
node_back asked env role form w f l parts s = tt

tree_back : (asked : Asked) (n : Node) → Sound asked n →
    Each (NotBack asked.calls) (call_at n (form_of n.tree) (word_of n.tree))
tree_back asked n s = by n.visible n.role n.tree s
  where
    by : (env : Env) (role : Role) (t : Syntax) → Sound asked (record { visible = env; role = role; tree = t }) →
        Each (NotBack asked.calls) (call_at (record { visible = env; role = role; tree = t }) (form_of t) (word_of t))
    by env role (node form w f l parts) s = node_back asked env role form w f l parts s

pub none_back : (asked : Asked) (ns : List Node) → AllSound asked ns → Each (NotBack asked.calls) (calls_of ns)
none_back asked [] h = tt
none_back asked (n ∷ ns) h = each_append (NotBack asked.calls) (call_at n (form_of n.tree) (word_of n.tree))
    (calls_of ns) (tree_back asked n h.0) (none_back asked ns h.1)

pub edge_back : (calls cs : List faults_specs.Call) (f x : ℕ) → Each (NotBack calls) cs →
    list_any (λ (c : faults_specs.Call). nat_eq c.caller f && nat_eq c.called x) cs ≡ true →
    leads_back calls x f ≡ false
edge_back calls [] f x h e = absurd (false≢true e)
edge_back calls (c ∷ cs) f x h e =
    by (nat_eq c.caller f) (nat_eq c.called x) refl refl e (λ k. edge_back calls cs f x h.1 k)
  where
    by : (a b : Bool) → nat_eq c.caller f ≡ a → nat_eq c.called x ≡ b →
        ((a && b) || list_any (λ (c : faults_specs.Call). nat_eq c.caller f && nat_eq c.called x) cs) ≡ true →
        (list_any (λ (c : faults_specs.Call). nat_eq c.caller f && nat_eq c.called x) cs ≡ true →
        leads_back calls x f ≡ false) → leads_back calls x f ≡ false
    by true true u v e g = subst (λ z. leads_back calls z f ≡ false) (eqb-true c.called x v)
        (subst (λ z. leads_back calls c.called z ≡ false) (eqb-true c.caller f u) h.0)
    by true false u v e g = g e
    by false b u v e g = g e

-- ---- the calls of functions without a definition are listed

called_append : (xs ys : List (List ℕ)) (q : List ℕ) → (is_called xs q ≡ true) ⊎ (is_called ys q ≡ true) →
    is_called (xs ++ ys) q ≡ true
called_append [] ys q (inl h) = absurd (false≢true h)
called_append [] ys q (inr h) = h
called_append (x ∷ xs) ys q h = by (bytes_eq x q) h (λ k. called_append xs ys q k)
  where
    by : (b : Bool) → ((b || is_called xs q) ≡ true) ⊎ (is_called ys q ≡ true) →
        ((is_called xs q ≡ true) ⊎ (is_called ys q ≡ true) → is_called (xs ++ ys) q ≡ true) →
        (b || is_called (xs ++ ys) q) ≡ true
    by true h g = refl
    by false h g = g h

listed_by : (asked : Asked) (n : Node) (form : Form) (w : List ℕ) →
    ((q : List ℕ) → is_called (missing_at n form w) q ≡ true → is_called asked.missing q ≡ true) →
    ListedAt asked (visible_at n.visible n.tree) form w
listed_by asked n forms.CallNode w g =
    λ e. g (name_in w) (ap (λ z. is_called (missing_in (name_in w) z) (name_in w)) e ∙
    ap (λ b. b || false) (bytes_same (name_in w)))
listed_by asked n form w g = tt

pub all_good : (asked : Asked) (ns : List Node) → AllSound asked ns →
    ((q : List ℕ) → is_called (missing_of ns) q ≡ true → is_called asked.missing q ≡ true) → AllGood asked ns
all_good asked [] h g = tt
all_good asked (n ∷ ns) h g = (
  (
    h.0,
    listed_by asked n (form_of n.tree) (word_of n.tree)
        (λ q k. g q (called_append (missing_at n (form_of n.tree) (word_of n.tree)) (missing_of ns) q (inl k))),
  ),
  all_good asked ns h.1 (λ q k. g q (called_append (missing_at n (form_of n.tree) (word_of n.tree)) (missing_of ns) q
      (inr k))),
)

-- ---- typed calls

-- one for a number
abbrev pub just : ℕ → ℕ → ℕ
just t x = if nat_eq x t then 1 else 0

edge_of : (calls : List faults_specs.Call) (f t : ℕ) → 1 ≤ called_sum (just t) calls f → Edge calls f t
edge_of [] f t h = absurd (omega arith)
edge_of (c ∷ cs) f t h = by (nat_eq c.caller f) (nat_eq c.called t) h (λ k. edge_of cs f t k)
  where
    by : (a b : Bool) → 1 ≤ (if a then (if b then 1 else 0) else 0) + called_sum (just t) cs f →
        (1 ≤ called_sum (just t) cs f → Edge cs f t) →
        ((a && b) || list_any (λ (c : faults_specs.Call). nat_eq c.caller f && nat_eq c.called t) cs) ≡ true
    by true true h g = refl
    by true false h g = g (omega arith)
    by false b h g = g (omega arith)

just_self : (x : ℕ) → just x x ≡ 1
just_self x = ap (λ b. if b then 1 else 0) (let q : nat_eq x x ≡ true = grind (arith, nat_tests) in q)

pub edges_of : (calls : List faults_specs.Call) (f : ℕ) (xs : List CallSite) →
    ((t : ℕ) → sum_calls (just t) xs ≤ called_sum (just t) calls f) →
    Each (λ (x : CallSite). Edge calls f x.function) xs
edges_of calls f [] h = tt
edges_of calls f (x ∷ xs) h = (
  edge_of calls f x.function (let a = h x.function in let b = just_self x.function in omega arith),
  edges_of calls f xs (λ t. (let a = h t in omega arith)),
)

-- each typed call is of a function of the program
module _ (P : Program) (f : Function) where
  abbrev In : CallSite → Type 0
  In c = c.function < length P.functions

  mutual
    typed_calls : (e : Expression) (t : _) → HasType P f e t → Each In (calls_in e)
    typed_calls (Apply a es) t h = typed_among es h.0 h.1
    typed_calls (Update site el root op of back old i v) t h =
        each_append In (calls_in i) (calls_in v) (typed_calls i _ h.0) (typed_calls v h.1.0 h.1.1)
    typed_calls (Choose site c a b) t h =
        each_append In (calls_in c) (calls_in a ++ calls_in b) (typed_calls c h.0.0 h.0.1)
        (each_append In (calls_in a) (calls_in b) (typed_calls a t h.1) (typed_calls b t h.2))
    typed_calls (Call site g roots es) t h =
        each_append In (calls_among es) (record { site = site; function = g } ∷ []) (typed_among es h.1.0 h.1.1)
        (h.0.within, tt)

    typed_among : (es : Expressions) (ts : _) → HaveTypes P f es ts → Each In (calls_among es)
    typed_among none ts h = tt
    typed_among (more e es) [] h = absurd h
    typed_among (more e es) (t ∷ ts) h =
        each_append In (calls_in e) (calls_among es) (typed_calls e t h.0) (typed_among es ts h.1)

  plain_calls : (e : Expression) → IsPlainCall P f e → Each In (calls_in e)
  plain_calls (Call site g roots es) h =
      each_append In (calls_among es) (record { site = site; function = g } ∷ []) (typed_among es h.1.0 h.1.1)
      (h.0.within, tt)
  plain_calls (Apply a es) h = absurd h
  plain_calls (Update site el root op of back old i v) h = absurd h
  plain_calls (Choose site c a b) h = absurd h

  optional_calls : (o : Option Expression) → OptionalFits P f o → Each In (calls_in_optional o)
  optional_calls None h = tt
  optional_calls (Some e) h = typed_calls e h.0 h.1

  declared_calls : (x : ℕ) (o : Option Expression) → DeclaredFits P f x o → Each In (calls_in_optional o)
  declared_calls x None h = tt
  declared_calls x (Some e) h = typed_calls e h.0 h.2

  returned_calls : (r : _) (o : Option Expression) → ReturnFits P f r o → Each In (calls_in_optional o)
  returned_calls r None h = tt
  returned_calls (Some t) (Some e) h = typed_calls e t h
  returned_calls None (Some e) h = absurd h

  values_calls : (es : Expressions) (t : _) → AllHaveType P f es t → Each In (calls_among es)
  values_calls none t h = tt
  values_calls (more e es) t h =
      each_append In (calls_in e) (calls_among es) (typed_calls e t h.0) (values_calls es t h.1)

  done_calls : (e : Expression) → HasValue P f e ⊎ IsPlainCall P f e → Each In (calls_in e)
  done_calls e (inl h) = typed_calls e h.0 h.1
  done_calls e (inr h) = plain_calls e h

  mutual
    statement_calls : (s : Statement) → StatementFits P f s → Each In (model_calls.calls_of s)
    statement_calls (Do e) h = done_calls e h
    statement_calls (Declare x v) h = declared_calls x v h
    statement_calls (Fill site a vs) h = values_calls vs _ h.3
    statement_calls (Block l) h = all_calls l h
    statement_calls (If site c a b) h =
        each_append In (calls_in c) (calls_of_all a ++ calls_of_all b) (typed_calls c h.0.0 h.0.1)
        (each_append In (calls_of_all a) (calls_of_all b) (all_calls a h.1) (all_calls b h.2))
    statement_calls (Loop site z c e b) h =
        each_append In (calls_in_optional c) (calls_in_optional e ++ model_calls.calls_of b) (optional_calls c h.0)
        (each_append In (calls_in_optional e) (model_calls.calls_of b) (optional_calls e h.1)
        (statement_calls b h.2))
    statement_calls (Switch site v as') h =
        each_append In (calls_in v) (calls_of_arms as') (typed_calls v h.0.0 h.0.1) (arms_calls as' h.3)
    statement_calls (Break site) h = tt
    statement_calls (Continue site) h = tt
    statement_calls (Return site v) h = returned_calls f.result v h
    statement_calls (Barrier site) h = tt

    pub all_calls : (l : Statements) → AllFit P f l → Each In (calls_of_all l)
    all_calls empty h = tt
    all_calls (also s l) h =
        each_append In (model_calls.calls_of s) (calls_of_all l) (statement_calls s h.0) (all_calls l h.1)

    arms_calls : (as' : Arms) → ArmsFit P f as' → Each In (calls_of_arms as')
    arms_calls no_arm h = tt
    arms_calls (arm ls o b rest) h =
        each_append In (calls_of_all b) (calls_of_arms rest) (all_calls b h.0) (arms_calls rest h.1)
