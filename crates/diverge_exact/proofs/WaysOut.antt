-- The ways out of code under conditions that vary, and which parts of a statement give a value: what is needed of them
-- where code is put together.
use Rattle.std.proofs.Common.{◌≡◌, ℕ, ℤ, Bool, true, false, ◌||◌, List, [], ◌∷◌, ◌++◌, Option, Some, None, ◌⊎◌, inl}
use Rattle.std.proofs.Common.{inr, refl, sym, ap, ◌∙◌, subst}
use Rattle.cl_model.specs.Tree.{Set, Expression, Apply, Expressions, single, Statement, Do, Declare, Fill, Block, If}
use Rattle.cl_model.specs.Tree.{Loop, Switch, Break, Continue, Barrier, Statements, empty, also, Arms, no_arm, arm}
use Rattle.cl_model.specs.Tree.{Program}
use Rattle.cl_model.specs.Lists.{IsOneOf}
use Rattle.cl_model.specs.Calls.{function_at}
use Rattle.cl_model.specs.Valid.{Scope}
use Rattle.cl_model.specs.Varying.{Condition, some_assigns}
use Rattle.diverge.specs.declared.known.Ways.{Ways}
use Rattle.diverge.specs.Known.{behind, joined}
use Rattle.diverge_sound.proofs.Keeps.{or_left, or_right, Key, Answer, Cell, HasKey, gives_in, gives_among}
use Rattle.diverge_sound.proofs.Keeps.{gives_optional, gives, some_give, arms_give}
use Rattle.diverge_sound.proofs.Parts.{in_left, in_right, if_condition, turn_condition, switch_condition}
use Rattle.diverge_sound.proofs.Values.{cond_gives}
use Rattle.diverge_sound.proofs.Nesting.{in_either}
use Rattle.diverge_exact.proofs.Sound.{either}
use Rattle.diverge_exact.proofs.Full.{by_marks}

module _ (program : Program) (M : ℕ → Key → Bool) (f : ℕ) where
  abbrev pub given : ℕ → Bool
  given y = some_assigns (function_at program f).body y

  -- of code with these conditions and returns, and ways out under conditions that vary or not
  pub record Outs (sc : Scope) (conds : List Condition) (rets : List Expression) (escapes : Bool) : Type 0 where
    pub out : (c : Condition) → IsOneOf conds c → by_marks program M f c.test ≡ true → c.exits ≡ true → escapes ≡ true
    pub beside : (c : Condition) → IsOneOf conds c → by_marks program M f c.test ≡ true → c.exits ≡ true → (k : Key) →
        HasKey c.scope k → some_give (function_at program f).body k ≡ true → HasKey sc k ⊎ (M f k ≡ true)
    pub back : (e : Expression) → IsOneOf rets e → by_marks program M f e ≡ true → M f Answer ≡ true

  pub outs_quiet : (sc : Scope) (conds : List Condition) (escapes : Bool) →
      ((c : Condition) → IsOneOf conds c → c.exits ≡ false) → Outs sc conds [] escapes
  outs_quiet sc conds escapes lone = record {
    out = λ c m v x. absurd (let q : true ≡ false = sym x ∙ lone c m in cc q);
    beside = λ c m v x. absurd (let q : true ≡ false = sym x ∙ lone c m in cc q);
    back = λ e m. absurd m;
  }

  pub outs_both : (sc sc' : Scope) (cs ds : List Condition) (rs qs : List Expression) (one two both : Bool) →
      (one ≡ true → both ≡ true) → (two ≡ true → both ≡ true) →
      ((k : Key) → HasKey sc' k → two ≡ true → some_give (function_at program f).body k ≡ true →
      HasKey sc k ⊎ (M f k ≡ true))
      → Outs sc cs rs one → Outs sc' ds qs two → Outs sc (cs ++ ds) (rs ++ qs) both
  outs_both sc sc' cs ds rs qs one two both first second close F G = record {
    out = λ c i v x. elim (in_either cs ds c i) [ inl j ↦ first (F.out c j v x) | inr j ↦ second (G.out c j v x) ];
    beside = λ c i v x k has on. elim (in_either cs ds c i) [
      | inl j ↦ F.beside c j v x k has on
      | inr j ↦ elim (G.beside c j v x k has on) [ inl h ↦ close k h (G.out c j v x) on | inr h ↦ inr h ]
    ];
    back = λ e i. elim (in_either rs qs e i) [ inl j ↦ F.back e j | inr j ↦ G.back e j ];
  }

  outs_less : (sc : Scope) (cs ds : List Condition) (rs qs : List Expression) (escapes : Bool) →
      ((c : Condition) → IsOneOf ds c → IsOneOf cs c) → ((e : Expression) → IsOneOf qs e → IsOneOf rs e) →
      Outs sc cs rs escapes → Outs sc ds qs escapes
  outs_less sc cs ds rs qs escapes cd rq F =
      record { out = λ c m. F.out c (cd c m); beside = λ c m. F.beside c (cd c m); back = λ e m. F.back e (rq e m) }

  behind_on : (varies : Bool) (ways : Ways) → (ways.escapes ≡ true → ways.exits ≡ true) → ways.escapes ≡ true →
      (behind varies ways).escapes ≡ true
  behind_on true ways held h = held h
  behind_on false ways held h = h

  pub behind_held : (varies : Bool) (ways : Ways) → (ways.escapes ≡ true → ways.exits ≡ true) →
      (behind varies ways).escapes ≡ true → (behind varies ways).exits ≡ true
  behind_held true ways held h = h
  behind_held false ways held h = held h

  behind_now : (varies : Bool) (ways : Ways) → varies ≡ true → ways.exits ≡ true → (behind varies ways).escapes ≡ true
  behind_now true ways v h = h
  behind_now false ways v h = cc v

  pub joined_held : (a b : Ways) → (a.escapes ≡ true → a.exits ≡ true) → (b.escapes ≡ true → b.exits ≡ true) →
      (joined a b).escapes ≡ true → (joined a b).exits ≡ true
  joined_held a b ha hb h = elim (either a.escapes b.escapes h) [
    | inl q ↦ or_left a.exits b.exits (ha q)
    | inr
        q ↦ or_right a.exits b.exits (hb q)
  ]

  pub outs_condition : (sc : Scope) (c : Condition) (cs : List Condition) (rs : List Expression) (varies : Bool)
      (ways : Ways) → (by_marks program M f c.test ≡ true → varies ≡ true) → (c.exits ≡ true → ways.exits ≡ true) →
      (ways.escapes ≡ true → ways.exits ≡ true) → ((k : Key) → HasKey c.scope k → HasKey sc k)
      → Outs sc cs rs ways.escapes → Outs sc (c ∷ cs) rs (behind varies ways).escapes
  outs_condition sc c cs rs varies ways value out held inside F = record {
    out = λ d i v x. elim i [
      | inl q ↦ behind_now varies ways (value (subst (λ (z : Condition). by_marks program M f z.test ≡ true) (sym q) v))
          (out (ap (λ (z : Condition). z.exits) q ∙ x))
      | inr j ↦ behind_on varies ways held (F.out d j v x)
    ];
    beside = λ d i v x k has on. elim i [
      | inl q ↦ inl
          (inside k (subst (λ (z : Condition). HasKey z.scope k) (sym q) has))
      | inr j ↦ F.beside d j v x k has on
    ];
    back = F.back;
  }

  pub outs_behind : (sc : Scope) (cs : List Condition) (rs : List Expression) (varies : Bool) (ways : Ways) →
      (ways.escapes ≡ true → ways.exits ≡ true) → Outs sc cs rs ways.escapes →
      Outs sc cs rs (behind varies ways).escapes
  outs_behind sc cs rs varies ways held F =
      record { out = λ d i v x. behind_on varies ways held (F.out d i v x); beside = F.beside; back = F.back }

  -- what gives a value

  pub do_gives : (e : Expression) (k : Key) → gives (Do e) k ≡ true → gives_in e k ≡ true
  do_gives e Answer h = cc h
  do_gives e (Cell x) h = h

  pub declare_gives : (y : ℕ) (e : Expression) (k : Key) → gives (Declare y (Some e)) k ≡ true → gives_in e k ≡ true
  declare_gives y e Answer h = cc h
  declare_gives y e (Cell x) h = h

  pub no_gives : (s : Statement) (k : Key) → gives s k ≡ gives (Barrier 0) k → gives s k ≡ true → ⊥
  no_gives s Answer e h = let q : true ≡ false = sym h ∙ e in cc q
  no_gives s (Cell x) e h = let q : true ≡ false = sym h ∙ e in cc q

  pub lone_declare : (y : ℕ) (k : Key) → gives (Declare y None) k ≡ gives (Barrier 0) k
  lone_declare y Answer = refl
  lone_declare y (Cell x) = refl

  pub lone_break : (site : ℕ) (k : Key) → gives (Break site) k ≡ gives (Barrier 0) k
  lone_break site Answer = refl
  lone_break site (Cell x) = refl

  pub lone_continue : (site : ℕ) (k : Key) → gives (Continue site) k ≡ gives (Barrier 0) k
  lone_continue site Answer = refl
  lone_continue site (Cell x) = refl

  pub lone_barrier : (site : ℕ) (k : Key) → gives (Barrier site) k ≡ gives (Barrier 0) k
  lone_barrier site Answer = refl
  lone_barrier site (Cell x) = refl

  pub fill_gives : (site array : ℕ) (es : Expressions) (k : Key) → gives (Fill site array es) k ≡ true →
      gives_among es k ≡ true
  fill_gives site array es Answer h = cc h
  fill_gives site array es (Cell x) h = h

  pub block_gives : (list : Statements) (k : Key) → gives (Block list) k ≡ true → some_give list k ≡ true
  block_gives list Answer h = h
  block_gives list (Cell x) h = h

  pub if_splits : (sc : Scope) (site : ℕ) (t : Expression) (a b : Statements) (k : Key) →
      gives (If site t a b) k ≡ true → (gives_in t k ≡ true) ⊎ (cond_gives program f (if_condition sc t a b) k ≡ true)
  if_splits sc site t a b Answer h = inr h
  if_splits sc site t a b (Cell x) h = either _ _ h

  pub branch_splits : (sc : Scope) (t : Expression) (a b : Statements) (k : Key) →
      cond_gives program f (if_condition sc t a b) k ≡ true → (some_give a k ≡ true) ⊎ (some_give b k ≡ true)
  branch_splits sc t a b Answer h = either _ _ h
  branch_splits sc t a b (Cell x) h = either _ _ h

  pub switch_splits : (sc : Scope) (site : ℕ) (v : Expression) (arms : Arms) (k : Key) →
      gives (Switch site v arms) k ≡ true → (gives_in v k ≡ true) ⊎
      (cond_gives program f (switch_condition sc v arms) k ≡ true)
  switch_splits sc site v arms Answer h = inr h
  switch_splits sc site v arms (Cell x) h = either _ _ h

  pub arms_given : (sc : Scope) (v : Expression) (arms : Arms) (k : Key) →
      cond_gives program f (switch_condition sc v arms) k ≡ true → arms_give arms k ≡ true
  arms_given sc v arms Answer h = h
  arms_given sc v arms (Cell x) h = h

  pub also_splits : (s : Statement) (rest : Statements) (k : Key) → some_give (also s rest) k ≡ true →
      (gives s k ≡ true) ⊎ (some_give rest k ≡ true)
  also_splits s rest Answer h = either _ _ h
  also_splits s rest (Cell x) h = either _ _ h

  pub arm_splits : (labels : List ℤ) (other : Bool) (body : Statements) (rest : Arms) (k : Key) →
      arms_give (arm labels other body rest) k ≡ true → (some_give body k ≡ true) ⊎ (arms_give rest k ≡ true)
  arm_splits labels other body rest Answer h = either _ _ h
  arm_splits labels other body rest (Cell x) h = either _ _ h

  -- the step and the body of a loop
  abbrev pub turn_gives : Option Expression → Statement → Key → Bool
  turn_gives st b k = gives_optional st k || gives b k

  pub loop_splits : (site : ℕ) (first : Bool) (t st : Option Expression) (b : Statement) (k : Key) →
      gives (Loop site first t st b) k ≡ true → (gives_optional t k ≡ true) ⊎ (turn_gives st b k ≡ true)
  loop_splits site first t st b Answer h = inr h
  loop_splits site first t st b (Cell x) h = either _ _ h

  pub turn_given : (sc : Scope) (site : ℕ) (first : Bool) (t : Expression) (st : Option Expression) (b : Statement)
      (k : Key) → cond_gives program f (turn_condition sc t st b) k ≡ true →
      gives (Loop site first (Some t) st b) k ≡ true
  turn_given sc site first t st b Answer h = h
  turn_given sc site first t st b (Cell x) h = h

  pub none_given : (k : Key) → some_give empty k ≡ true → ⊥
  none_given Answer h = cc h
  none_given (Cell x) h = cc h

  pub no_arm_given : (k : Key) → arms_give no_arm k ≡ true → ⊥
  no_arm_given Answer h = cc h
  no_arm_given (Cell x) h = cc h

  pub value_of_single : (e : Expression) → by_marks program M f (Apply (Set 0) (single e)) ≡ true →
      by_marks program M f e ≡ true
  value_of_single e h = elim (either (by_marks program M f e) false h) [ inl q ↦ q | inr q ↦ cc q ]

  pub swap : (c d : Condition) (xs ys : List Condition) → IsOneOf (c ∷ (xs ++ ys)) d → IsOneOf (xs ++ (c ∷ ys)) d
  swap c d xs ys (inl q) = in_right xs (c ∷ ys) d (inl q)
  swap c d xs ys (inr h) = elim (in_either xs ys d h) [
    | inl i ↦ in_left xs (c ∷ ys) d i
    | inr i ↦ in_right xs (c ∷ ys) d
        (inr i)
  ]
