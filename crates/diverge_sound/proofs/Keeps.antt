-- What code does not assign it keeps.
use Rattle.std.proofs.Common.{◌≡◌, ℕ, zero, suc, ◌||◌, ℤ, pos, Bool, true, false, cond, List, Option, Some, None}
use Rattle.std.proofs.Common.{nat_eq, ◌⊎◌, inl, inr, refl, sym, ap, ◌∙◌, subst}
use Rattle.std.proofs.lemmas.Bool.{eqb-true}
use Rattle.cl_model.specs.Tree.{Action, Literal, Variable, Unary, Binary, Builtin, Convert, Ask, Second, Truth}
use Rattle.cl_model.specs.Tree.{Decided, Set, Change, Load, Store, Expression, Apply, Update, Choose, Call}
use Rattle.cl_model.specs.Tree.{Expressions, none, more, Statement, Do, Declare, Fill, Block, If, Loop, Switch, Break}
use Rattle.cl_model.specs.Tree.{Continue, Return, Barrier, Statements, empty, also, Arms, no_arm, arm}
use Rattle.cl_model.specs.Valid.{Scope, Has, NamesInOptional, scope_after, IsScoped, IsScopedList, AreScoped}
use Rattle.cl_model.specs.Valid.{AreScopedArms}
use Rattle.cl_model.specs.Varying.{sets, assigns_in, assigns_among, assigns_in_optional, assigns, some_assigns}
use Rattle.cl_model.specs.Varying.{arms_assign, returns, some_returns, arms_return}
use Rattle.diverge_sound.proofs.Ran.{Held, put, answered, How, Normal, Who, Acts, Eval, EvalAll, Steps, Passes, Fails}
use Rattle.diverge_sound.proofs.Ran.{ExecRel, Rounds, Iterates, Loops, Exec, ExecAll, ExecArms, Reaches, entered}

pub true_or_false : (b : Bool) → (b ≡ true) ⊎ (b ≡ false)
true_or_false true = inl refl
true_or_false false = inr refl

pub or_left : (a b : Bool) → a ≡ true → (a || b) ≡ true
or_left true b h = refl
or_left false b h = cc

pub or_right : (a b : Bool) → b ≡ true → (a || b) ≡ true
or_right true b h = refl
or_right false b h = h

pub neither : (a b : Bool) → (a || b) ≡ false → (a ≡ false) × (b ≡ false)
neither true b h = cc
neither false b h = (refl, h)

pub not_true : (b : Bool) → (b ≡ true → ⊥) → b ≡ false
not_true true h = absurd (h refl)
not_true false h = refl

-- what a function holds that can come to differ: the value that it returns, or a variable
pub data Key : Type 0 where
  Answer : Key
  Cell : (x : ℕ) → Key

abbrev pub look : Held → Key → ℤ
look s Answer = s.answer
look s (Cell x) = s.variables x

abbrev pub HasKey : Scope → Key → Type 0
HasKey scope Answer = Unit {0}
HasKey scope (Cell x) = Has scope x

-- code gives it a value, other than by a declaration
abbrev pub sets_key : Action → Key → Bool
sets_key action Answer = false
sets_key action (Cell x) = sets action x

abbrev pub gives_in : Expression → Key → Bool
gives_in e Answer = false
gives_in e (Cell x) = assigns_in e x

abbrev pub gives_among : Expressions → Key → Bool
gives_among es Answer = false
gives_among es (Cell x) = assigns_among es x

abbrev pub gives_optional : Option Expression → Key → Bool
gives_optional e Answer = false
gives_optional e (Cell x) = assigns_in_optional e x

abbrev pub gives : Statement → Key → Bool
gives s Answer = returns s
gives s (Cell x) = assigns s x

abbrev pub some_give : Statements → Key → Bool
some_give list Answer = some_returns list
some_give list (Cell x) = some_assigns list x

abbrev pub arms_give : Arms → Key → Bool
arms_give arms Answer = arms_return arms
arms_give arms (Cell x) = arms_assign arms x

-- where a node gives it none, no part does

pub quiet_apply : (action : Action) (es : Expressions) (k : Key) → gives_in (Apply action es) k ≡ false →
    (sets_key action k ≡ false) × (gives_among es k ≡ false)
quiet_apply action es Answer h = (refl, refl)
quiet_apply action es (Cell x) h = neither (sets action x) (assigns_among es x) h

pub quiet_more : (e : Expression) (rest : Expressions) (k : Key) → gives_among (more e rest) k ≡ false →
    (gives_in e k ≡ false) × (gives_among rest k ≡ false)
quiet_more e rest Answer h = (refl, refl)
quiet_more e rest (Cell x) h = neither (assigns_in e x) (assigns_among rest x) h

pub quiet_update : (site : ℕ) (element root op of back old : _) (i v : Expression) (k : Key) →
    gives_in (Update site element root op of back old i v) k ≡ false → (gives_in i k ≡ false) × (gives_in v k ≡ false)
quiet_update site element root op of back old i v Answer h = (refl, refl)
quiet_update site element root op of back old i v (Cell x) h = neither (assigns_in i x) (assigns_in v x) h

pub quiet_choose : (site : ℕ) (t a b : Expression) (k : Key) → gives_in (Choose site t a b) k ≡ false →
    (gives_in t k ≡ false) × (gives_in a k ≡ false) × (gives_in b k ≡ false)
quiet_choose site t a b Answer h = (refl, refl, refl)
quiet_choose site t a b (Cell x) h =
    let n = neither (assigns_in t x) (assigns_in a x || assigns_in b x) h in
    let m = neither (assigns_in a x) (assigns_in b x) n.1 in (n.0, m.0, m.1)

pub quiet_call : (site g : ℕ) (roots : List (Option _)) (es : Expressions) (k : Key) →
    gives_in (Call site g roots es) k ≡ false → gives_among es k ≡ false
quiet_call site g roots es Answer h = refl
quiet_call site g roots es (Cell x) h = h

pub quiet_if : (site : ℕ) (t : Expression) (a b : Statements) (k : Key) → gives (If site t a b) k ≡ false →
    (gives_in t k ≡ false) × (some_give a k ≡ false) × (some_give b k ≡ false)
quiet_if site t a b Answer h = let m = neither (some_returns a) (some_returns b) h in (refl, m.0, m.1)
quiet_if site t a b (Cell x) h =
    let n = neither (assigns_in t x) (some_assigns a x || some_assigns b x) h in
    let m = neither (some_assigns a x) (some_assigns b x) n.1 in (n.0, m.0, m.1)

pub quiet_loop : (site : ℕ) (first : Bool) (t st : Option Expression) (b : Statement) (k : Key) →
    gives (Loop site first t st b) k ≡ false → (gives_optional t k ≡ false) × (gives_optional st k ≡ false) ×
    (gives b k ≡ false)
quiet_loop site first t st b Answer h = (refl, refl, h)
quiet_loop site first t st b (Cell x) h =
    let n = neither (assigns_in_optional t x) (assigns_in_optional st x || assigns b x) h in
    let m = neither (assigns_in_optional st x) (assigns b x) n.1 in (n.0, m.0, m.1)

pub quiet_switch : (site : ℕ) (v : Expression) (arms : Arms) (k : Key) → gives (Switch site v arms) k ≡ false →
    (gives_in v k ≡ false) × (arms_give arms k ≡ false)
quiet_switch site v arms Answer h = (refl, h)
quiet_switch site v arms (Cell x) h = neither (assigns_in v x) (arms_assign arms x) h

pub quiet_do : (e : Expression) (k : Key) → gives (Do e) k ≡ false → gives_in e k ≡ false
quiet_do e Answer h = refl
quiet_do e (Cell x) h = h

pub quiet_declare : (y : ℕ) (e : Expression) (k : Key) → gives (Declare y (Some e)) k ≡ false → gives_in e k ≡ false
quiet_declare y e Answer h = refl
quiet_declare y e (Cell x) h = h

pub quiet_fill : (site array : ℕ) (es : Expressions) (k : Key) → gives (Fill site array es) k ≡ false →
    gives_among es k ≡ false
quiet_fill site array es Answer h = refl
quiet_fill site array es (Cell x) h = h

pub quiet_block : (list : Statements) (k : Key) → gives (Block list) k ≡ false → some_give list k ≡ false
quiet_block list Answer h = h
quiet_block list (Cell x) h = h

pub quiet_return : (site : ℕ) (e : Expression) (k : Key) → gives (Return site (Some e)) k ≡ false → gives_in e k ≡ false
quiet_return site e Answer h = refl
quiet_return site e (Cell x) h = h

pub quiet_also : (s : Statement) (rest : Statements) (k : Key) → some_give (also s rest) k ≡ false →
    (gives s k ≡ false) × (some_give rest k ≡ false)
quiet_also s rest Answer h = neither (returns s) (some_returns rest) h
quiet_also s rest (Cell x) h = neither (assigns s x) (some_assigns rest x) h

pub quiet_arm : (labels : List ℤ) (other : Bool) (body : Statements) (rest : Arms) (k : Key) →
    arms_give (arm labels other body rest) k ≡ false → (some_give body k ≡ false) × (arms_give rest k ≡ false)
quiet_arm labels other body rest Answer h = neither (some_returns body) (arms_return rest) h
quiet_arm labels other body rest (Cell x) h = neither (some_assigns body x) (arms_assign rest x) h

-- each variable is named behind its declaration; the declared one is new
abbrev pub Sound : Scope → Statement → Type 0
Sound scope (Declare x value) = (Has scope x → ⊥) × NamesInOptional scope value
Sound scope s = IsScoped scope s

pub sound_list : (scope : Scope) (s : Statement) (rest : Statements) → IsScopedList scope (also s rest) →
    Sound scope s × IsScopedList (scope_after scope s) rest
sound_list scope (Declare x value) rest h = ((h.0, h.1), h.2)
sound_list scope (Do e) rest h = (h.0, h.1)
sound_list scope (Fill site array values) rest h = (h.0, h.1)
sound_list scope (Block list) rest h = (h.0, h.1)
sound_list scope (If site test chosen other) rest h = (h.0, h.1)
sound_list scope (Loop site first test step body) rest h = (h.0, h.1)
sound_list scope (Switch site value arms) rest h = (h.0, h.1)
sound_list scope (Break site) rest h = (h.0, h.1)
sound_list scope (Continue site) rest h = (h.0, h.1)
sound_list scope (Return site value) rest h = (h.0, h.1)
sound_list scope (Barrier site) rest h = (h.0, h.1)

-- a branch is a list without declarations
pub branch_scoped : (scope : Scope) (list : Statements) → AreScoped scope list → IsScopedList scope list
branch_scoped scope empty h = tt
branch_scoped scope (also (Declare x value) rest) h = absurd h.0
branch_scoped scope (also (Do e) rest) h = (h.0, branch_scoped scope rest h.1)
branch_scoped scope (also (Fill site array values) rest) h = (h.0, branch_scoped scope rest h.1)
branch_scoped scope (also (Block list) rest) h = (h.0, branch_scoped scope rest h.1)
branch_scoped scope (also (If site test chosen other) rest) h = (h.0, branch_scoped scope rest h.1)
branch_scoped scope (also (Loop site first test step body) rest) h = (h.0, branch_scoped scope rest h.1)
branch_scoped scope (also (Switch site value arms) rest) h = (h.0, branch_scoped scope rest h.1)
branch_scoped scope (also (Break site) rest) h = (h.0, branch_scoped scope rest h.1)
branch_scoped scope (also (Continue site) rest) h = (h.0, branch_scoped scope rest h.1)
branch_scoped scope (also (Return site value) rest) h = (h.0, branch_scoped scope rest h.1)
branch_scoped scope (also (Barrier site) rest) h = (h.0, branch_scoped scope rest h.1)

-- a body of a loop declares nothing by itself
pub body_sound : (scope : Scope) (s : Statement) → IsScoped scope s → Sound scope s
body_sound scope (Declare x value) h = absurd h
body_sound scope (Do e) h = h
body_sound scope (Fill site array values) h = h
body_sound scope (Block list) h = h
body_sound scope (If site test chosen other) h = h
body_sound scope (Loop site first test step body) h = h
body_sound scope (Switch site value arms) h = h
body_sound scope (Break site) h = h
body_sound scope (Continue site) h = h
body_sound scope (Return site value) h = h
body_sound scope (Barrier site) h = h

pub has_after : (scope : Scope) (s : Statement) (k : Key) → HasKey scope k → HasKey (scope_after scope s) k
has_after scope s Answer h = tt
has_after scope (Declare x value) (Cell y) h = inr h
has_after scope (Do e) (Cell y) h = h
has_after scope (Fill site array values) (Cell y) h = h
has_after scope (Block list) (Cell y) h = h
has_after scope (If site test chosen other) (Cell y) h = h
has_after scope (Loop site first test step body) (Cell y) h = h
has_after scope (Switch site value arms) (Cell y) h = h
has_after scope (Break site) (Cell y) h = h
has_after scope (Continue site) (Cell y) h = h
has_after scope (Return site value) (Cell y) h = h
has_after scope (Barrier site) (Cell y) h = h

-- setting a variable

pub put_other : (s : Held) (y : ℕ) (v : ℤ) (k : Key) → sets_key (Set y) k ≡ false → look (put s y v) k ≡ look s k
put_other s y v Answer h = refl
put_other s y v (Cell x) h = ap (λ b. cond b v (s.variables x)) h

-- a variable that is declared is none of the scope
pub declared_other : (scope : Scope) (y : ℕ) (k : Key) → (Has scope y → ⊥) → HasKey scope k → sets_key (Set y) k ≡ false
declared_other scope y Answer ne has = refl
declared_other scope y (Cell x) ne has = not_true (nat_eq y x) (λ e. ne (subst (Has scope) (sym (eqb-true y x e)) has))

pub same_look : (from to : Held) (k : Key) → to ≡ from → look to k ≡ look from k
same_look from to k e = ap (λ s. look s k) e

change_sets : (y : ℕ) (op of back old : _) (k : Key) → sets_key (Change y op of back old) k ≡ false →
    sets_key (Set y) k ≡ false
change_sets y op of back old Answer h = refl
change_sets y op of back old (Cell x) h = h

module _ (w : Who) where
  acts_kept : (action : Action) (args : List ℤ) (from : Held) (x : ℤ) (to : Held) (k : Key) →
      sets_key action k ≡ false → Acts w action args from x to → look to k ≡ look from k
  acts_kept (Literal value of) args from x to k un (a, b) = same_look from to k b
  acts_kept (Variable y) args from x to k un (a, b) = same_look from to k b
  acts_kept (Unary op of) args from x to k un (a, b) = same_look from to k b
  acts_kept (Binary op of) args from x to k un (a, b) = same_look from to k b
  acts_kept (Builtin g of) args from x to k un (a, b) = same_look from to k b
  acts_kept (Convert t) args from x to k un (a, b) = same_look from to k b
  acts_kept (Ask what) args from x to k un (a, b) = same_look from to k b
  acts_kept Second args from x to k un (a, b) = same_look from to k b
  acts_kept Truth args from x to k un (a, b) = same_look from to k b
  acts_kept (Decided answer) args from x to k un (a, b) = same_look from to k b
  acts_kept (Set y) args from x to k un (a, b) = same_look (put from y _) to k b ∙ put_other from y _ k un
  acts_kept (Change y op of back old) args from x to k un (a, b) =
      same_look (put from y _) to k b ∙ put_other from y _ k (change_sets y op of back old k un)
  acts_kept (Load site element root) args from x to k un (a, b) = same_look from to k b
  acts_kept (Store site element root) args from x to k un (a, b) = same_look from to k b

  mutual
    pub eval_kept : (e : Expression) (from : Held) (x : ℤ) (to : Held) (k : Key) → gives_in e k ≡ false →
        Eval w e from x to → look to k ≡ look from k
    eval_kept (Apply action es) from x to k un (args, mid, h, a) = let q =
        quiet_apply action es k un in acts_kept action args mid x to k q.0 a ∙ eval_all_kept es from args mid k q.1 h
    eval_kept (Update site element root op of back old index value) from x to k un (i, v, mid, h, g) = let q =
        quiet_update site element root op of back old index value k un in eval_kept value mid v to k q.1 g ∙
        eval_kept index from i mid k q.0 h
    eval_kept (Choose site t a b) from x to k un (v, mid, h, inl (z, g)) = let q =
        quiet_choose site t a b k un in eval_kept a mid x to k q.1 g ∙ eval_kept t from v mid k q.0 h
    eval_kept (Choose site t a b) from x to k un (v, mid, h, inr (z, g)) = let q =
        quiet_choose site t a b k un in eval_kept b mid x to k q.2 g ∙ eval_kept t from v mid k q.0 h
    eval_kept (Call site g roots es) from x to k un (args, h, c) =
        eval_all_kept es from args to k (quiet_call site g roots es k un) h

    pub eval_all_kept : (es : Expressions) (from : Held) (args : List ℤ) (to : Held) (k : Key) →
        gives_among es k ≡ false → EvalAll w es from args to → look to k ≡ look from k
    eval_all_kept none from args to k un (a, b) = same_look from to k b
    eval_all_kept (more e rest) from args to k un (x, xs, mid, h, g, is) = let q =
        quiet_more e rest k un in eval_all_kept rest mid xs to k q.1 g ∙ eval_kept e from x mid k q.0 h

  pub steps_kept : (e : Option Expression) (from to : Held) (k : Key) → gives_optional e k ≡ false →
      Steps w e from to → look to k ≡ look from k
  steps_kept None from to k un h = same_look from to k h
  steps_kept (Some e) from to Answer un (x, h) = eval_kept e from x to Answer refl h
  steps_kept (Some e) from to (Cell y) un (x, h) = eval_kept e from x to (Cell y) un h

  pub passes_kept : (e : Option Expression) (from to : Held) (k : Key) → gives_optional e k ≡ false →
      Passes w e from to → look to k ≡ look from k
  passes_kept None from to k un h = same_look from to k h
  passes_kept (Some e) from to Answer un (x, h, z) = eval_kept e from x to Answer refl h
  passes_kept (Some e) from to (Cell y) un (x, h, z) = eval_kept e from x to (Cell y) un h

  pub fails_kept : (e : Option Expression) (from to : Held) (k : Key) → gives_optional e k ≡ false →
      Fails w e from to → look to k ≡ look from k
  fails_kept None from to k un h = absurd h
  fails_kept (Some e) from to Answer un (x, h, z) = eval_kept e from x to Answer refl h
  fails_kept (Some e) from to (Cell y) un (x, h, z) = eval_kept e from x to (Cell y) un h

  -- iterations, where the body keeps it
  module _ (t st : Option Expression) (E : ExecRel) (k : Key) (unt : gives_optional t k ≡ false)
      (uns : gives_optional st k ≡ false) (one : (from : Held) (how : How) (to : Held) → E from how to →
      look to k ≡ look from k) where
    pub rounds_kept : (from to : Held) → Rounds w st E from to → look to k ≡ look from k
    rounds_kept from to (how, mid, e, go, s) = steps_kept st mid to k uns s ∙ one from how mid e

    pub iterates_kept : (n : ℕ) (from : Held) (how : How) (to : Held) → Iterates w t st E n from how to →
        look to k ≡ look from k
    iterates_kept zero from how to h = absurd h
    iterates_kept (suc n) from how to (inl (end, e, s)) = one from end to e
    iterates_kept (suc n) from how to (inr (mid, r, inl (f, z))) = fails_kept t mid to k unt f ∙ rounds_kept from mid r
    iterates_kept (suc n) from how to (inr (mid, r, inr (next, p, i))) =
        iterates_kept n next how to i ∙ passes_kept t mid next k unt p ∙ rounds_kept from mid r

    pub loops_kept : (first : Bool) (from : Held) (how : How) (to : Held) → Loops w first t st E from how to →
        look to k ≡ look from k
    loops_kept true from how to (inl (f, z)) = fails_kept t from to k unt f
    loops_kept true from how to (inr (next, n, p, i)) = iterates_kept n next how to i ∙ passes_kept t from next k unt p
    loops_kept false from how to (n, i) = iterates_kept n from how to i

  mutual
    pub kept : (s : Statement) (scope : Scope) (from : Held) (how : How) (to : Held) (k : Key) → Sound scope s →
        HasKey scope k → gives s k ≡ false → Exec w s from how to → look to k ≡ look from k
    kept (Do e) scope from how to k ok has un (x, h, n) = eval_kept e from x to k (quiet_do e k un) h
    kept (Declare y None) scope from how to k ok has un (n, is) =
        same_look (put from y (pos 0)) to k is ∙ put_other from y (pos 0) k (declared_other scope y k ok.0 has)
    kept (Declare y (Some e)) scope from how to k ok has un (x, mid, h, n, is) =
        same_look (put mid y x) to k is ∙ put_other mid y x k (declared_other scope y k ok.0 has) ∙
        eval_kept e from x mid k (quiet_declare y e k un) h
    kept (Fill site array es) scope from how to k ok has un (args, h, n) =
        eval_all_kept es from args to k (quiet_fill site array es k un) h
    kept (Block list) scope from how to k ok has un h =
        all_kept list scope from how to k ok has (quiet_block list k un) h
    kept (If site t a b) scope from how to k ok has un (v, mid, h, inl (z, e)) =
        let q = quiet_if site t a b k un in all_kept a scope mid how to k (branch_scoped scope a ok.1) has q.1 e ∙
        eval_kept t from v mid k q.0 h
    kept (If site t a b) scope from how to k ok has un (v, mid, h, inr (z, e)) =
        let q = quiet_if site t a b k un in all_kept b scope mid how to k (branch_scoped scope b ok.2) has q.2 e ∙
        eval_kept t from v mid k q.0 h
    kept (Loop site first t st b) scope from how to k ok has un h =
        let q = quiet_loop site first t st b k un in
        loops_kept t st (Exec w b) k q.0 q.1 (λ g a g' e. kept b scope g a g' k (body_sound scope b ok.2) has q.2 e)
        first from how to h
    kept (Switch site v arms) scope from how to k ok has un (x, mid, end, h, e, is) =
        let q = quiet_switch site v arms k un in arms_kept arms (entered x arms) scope mid end to k ok.1 has q.1 e ∙
        eval_kept v from x mid k q.0 h
    kept (Break site) scope from how to k ok has un (n, is) = same_look from to k is
    kept (Continue site) scope from how to k ok has un (n, is) = same_look from to k is
    kept (Return site value) scope from how to Answer ok has un h = cc
    kept (Return site None) scope from how to (Cell y) ok has un (n, is) =
        same_look (answered from (pos 0)) to (Cell y) is
    kept (Return site (Some e)) scope from how to (Cell y) ok has un (x, mid, h, n, is) =
        same_look (answered mid x) to (Cell y) is ∙ eval_kept e from x mid (Cell y) un h
    kept (Barrier site) scope from how to k ok has un (n, is) = same_look from to k is

    pub all_kept : (list : Statements) (scope : Scope) (from : Held) (how : How) (to : Held) (k : Key) →
        IsScopedList scope list → HasKey scope k → some_give list k ≡ false → ExecAll w list from how to →
        look to k ≡ look from k
    all_kept empty scope from how to k ok has un (n, is) = same_look from to k is
    all_kept (also s rest) scope from how to k ok has un (inl (mid, h, r)) =
        let q = quiet_also s rest k un in let o = sound_list scope s rest ok in
        all_kept rest (scope_after scope s) mid how to k o.1 (has_after scope s k has) q.1 r ∙
        kept s scope from Normal mid k o.0 has q.0 h
    all_kept (also s rest) scope from how to k ok has un (inr (ne, h)) =
        kept s scope from how to k (sound_list scope s rest ok).0 has (quiet_also s rest k un).0 h

    pub arms_kept : (arms : Arms) (j : ℕ) (scope : Scope) (from : Held) (how : How) (to : Held) (k : Key) →
        AreScopedArms scope arms → HasKey scope k → arms_give arms k ≡ false → ExecArms w arms j from how to →
        look to k ≡ look from k
    arms_kept no_arm j scope from how to k ok has un (n, is) = same_look from to k is
    arms_kept (arm labels other body rest) zero scope from how to k ok has un (inl (mid, h, r)) =
        let q = quiet_arm labels other body rest k un in
        arms_kept rest zero scope mid how to k ok.1 has q.1 r ∙
        all_kept body scope from Normal mid k (branch_scoped scope body ok.0) has q.0 h
    arms_kept (arm labels other body rest) zero scope from how to k ok has un (inr (ne, h)) =
        all_kept body scope from how to k (branch_scoped scope body ok.0) has
        (quiet_arm labels other body rest k un).0 h
    arms_kept (arm labels other body rest) (suc j) scope from how to k ok has un h =
        arms_kept rest j scope from how to k ok.1 has (quiet_arm labels other body rest k un).1 h

  -- and so up to the beginning of an arm
  pub reaches_kept : (arms : Arms) (j i : ℕ) (scope : Scope) (from to : Held) (k : Key) → AreScopedArms scope arms →
      HasKey scope k → arms_give arms k ≡ false → Reaches w arms j i from to → look to k ≡ look from k
  reaches_kept no_arm j i scope from to k ok has un h = absurd h
  reaches_kept (arm labels other body rest) zero zero scope from to k ok has un h = same_look from to k h
  reaches_kept (arm labels other body rest) zero (suc i) scope from to k ok has un (mid, h, r) =
      let q = quiet_arm labels other body rest k un in
      reaches_kept rest zero i scope mid to k ok.1 has q.1 r ∙
      all_kept body scope from Normal mid k (branch_scoped scope body ok.0) has q.0 h
  reaches_kept (arm labels other body rest) (suc j) zero scope from to k ok has un h = absurd h
  reaches_kept (arm labels other body rest) (suc j) (suc i) scope from to k ok has un h =
      reaches_kept rest j i scope from to k ok.1 has (quiet_arm labels other body rest k un).1 h
