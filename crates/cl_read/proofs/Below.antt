-- A reader with more room answers the same, except where the one with less room found the nesting too deep.
use Rattle.std.proofs.Common.{◌≡◌, ℕ, zero, suc, ◌≤◌, Bool, true, false, cond, List, length, refl, arith}
use Rattle.std.specs.Prelude.{nat_le}
use Rattle.std.proofs.lemmas.Bool.Decides.{nat_tests}
use Rattle.cl_tree.specs.declared.terminal.Terminal.{Terminal}
use Rattle.cl_tree.specs.declared.terminal.Terminal.TheVariants as terminals
use Rattle.cl_tree.specs.declared.terminal.Leaf.{Leaf}
use Rattle.cl_tree.specs.declared.tree.Form.{Form}
use Rattle.cl_tree.specs.Precedence.{joins}
use Rattle.cl_tree.specs.Syntax.{Syntax, Forest, nesting}
use Rattle.cl_tree.specs.Nodes.{Spot}
use Rattle.cl_read.specs.Starts.{postfixes}
use Rattle.cl_read.specs.Reading.{Out, Got, Wrong, Deep, Reader, after, ◌>>=◌, done, deep, begins, is, choose, within}
use Rattle.cl_read.specs.Reading.{chain, Listing, empty, appended, list_of, all_of, each, Readers, space_of, star_of}
use Rattle.cl_read.specs.Reading.{front_of, behind_of, type_of, dimension_of, init_of, declared, declarator_of}
use Rattle.cl_read.specs.Reading.{declare_rest, declare_of, element_of, initializers_of, line_of, block_of, simple_of}
use Rattle.cl_read.specs.Reading.{if_of, while_of, do_of, start_of, for_of, switch_of, case_of, default_of, leave_of}
use Rattle.cl_read.specs.Reading.{return_of, leaving, labelled, statement_of, call_of, primary_of, postfix_step}
use Rattle.cl_read.specs.Reading.{postfixed, paren_of, opened, sizeof_of, operand_of, unary_of, cast_of, level_step}
use Rattle.cl_read.specs.Reading.{level_of, cond_of, assign_of, expr_step, expr_of, next_readers, attribute_of}
use Rattle.cl_read.specs.Reading.{head_of, param_of, params_of, callable, named, result_of, typed, headed, item_of}

abbrev pub Meets : {A : Type 0} → Out A → Out A → Type 0
Meets (Got a rest) o = o ≡ Got a rest
Meets (Wrong n) o = o ≡ Wrong n
Meets (Deep n) o = Unit {0}

abbrev pub Below : {A : Type 0} → Reader A → Reader A → Type 0
Below p q = (ts : List Leaf) → Meets (p ts) (q ts)

meets_self : {A : Type 0} (o : Out A) → Meets o o
meets_self (Got a rest) = refl
meets_self (Wrong n) = refl
meets_self (Deep n) = tt

pub below_self : {A : Type 0} (p : Reader A) → Below p p
below_self p ts = meets_self (p ts)

meets_then : {A B : Type 0} (o u : Out A) (g h : A → Reader B) → Meets o u → ((a : A) → Below (g a) (h a)) →
    Meets (after o g) (after u h)
meets_then (Got a rest) u g h m b = rw m (b a rest)
meets_then (Wrong n) u g h m b = rw m refl
meets_then (Deep n) u g h m b = tt

pub below_then : {A B : Type 0} (p q : Reader A) (g h : A → Reader B) → Below p q → ((a : A) → Below (g a) (h a)) →
    Below (p >>= g) (q >>= h)
below_then p q g h m b ts = meets_then (p ts) (q ts) g h (m ts) b

meets_choose : {A : Type 0} (b : Bool) (o u v w : Out A) → Meets o u → Meets v w → Meets (cond b o v) (cond b u w)
meets_choose true o u v w h k = h
meets_choose false o u v w h k = k

pub below_choose : {A : Type 0} (test : Terminal → Bool) (p q r s : Reader A) → Below p q → Below r s →
    Below (choose test p r) (choose test q s)
below_choose test p q r s h k ts = meets_choose (begins test ts) (p ts) (q ts) (r ts) (s ts) (h ts) (k ts)

below_cond : {A : Type 0} (b : Bool) (p q r : Reader A) → Below p q → Below (cond b p r) (cond b q r)
below_cond true p q r h = h
below_cond false p q r h = below_self r

below_deep : {A : Type 0} (q : Reader A) → Below deep q
below_deep q ts = tt

below_within : {A : Type 0} (b c : Bool) (p q : Reader A) → (b ≡ true → c ≡ true) → Below p q →
    Below (within b p) (within c q)
below_within true c p q h k ts = rw (h refl) (k ts)
below_within false c p q h k ts = tt

wider_room : (a n m : ℕ) → n ≤ m → nat_le a n ≡ true → nat_le a m ≡ true
wider_room a n m d h = grind (arith, nat_tests)

module _ (room more_room : ℕ) (wide : room ≤ more_room) (test : Terminal → Bool) (step other : Syntax →
    Reader Syntax) (each' : (l : Syntax) → Below (step l) (other l)) where
  pub below_chain : (n m : ℕ) → n ≤ m → (l : Syntax) → Below (chain room test step n l) (chain more_room test other m l)
  unfolding chain
  below_chain zero zero d l = below_self (choose test deep (done l))
  below_chain zero (suc m) d l =
      below_choose test deep (within (nat_le (nesting l) more_room) (other l >>= chain more_room test other m))
      (done l) (done l) (below_deep (within (nat_le (nesting l) more_room)
      (other l >>= chain more_room test other m))) (below_self (done l))
  below_chain (suc n) zero d l = absurd (omega arith)
  below_chain (suc n) (suc m) d l =
      below_choose test (within (nat_le (nesting l) room) (step l >>= chain room test step n))
      (within (nat_le (nesting l) more_room) (other l >>= chain more_room test other m)) (done l) (done l)
      (below_within (nat_le (nesting l) room) (nat_le (nesting l) more_room) (step l >>= chain room test step n)
      (other l >>= chain more_room test other m) (wider_room (nesting l) room more_room wide)
      (below_then (step l) (other l) (chain room test step n) (chain more_room test other m) (each' l)
      (λ r. below_chain n m (omega arith) r))) (below_self (done l))

module _ (test : Terminal → Bool) (p q : Reader (Bool × Listing)) (h : Below p q) where
  below_list : (n : ℕ) → Below (list_of test p n) (list_of test q n)
  unfolding list_of
  below_list zero = below_self (choose test deep (done empty))
  below_list (suc n) = below_choose test (p >>= λ a. cond a.0 (list_of test p n >>= λ l. done (appended a.1 l))
      (done a.1)) (q >>= λ a. cond a.0 (list_of test q n >>= λ l. done (appended a.1 l)) (done a.1)) (done empty)
      (done empty)
      (below_then p q (λ a. cond a.0 (list_of test p n >>= λ l. done (appended a.1 l)) (done a.1))
      (λ a. cond a.0 (list_of test q n >>= λ l. done (appended a.1 l)) (done a.1)) h
      (λ a. below_cond a.0 (list_of test p n >>= λ l. done (appended a.1 l)) (list_of test q n >>= λ l.
      done (appended a.1 l)) (done a.1) (below_then (list_of test p n) (list_of test q n)
      (λ l. done (appended a.1 l)) (λ l. done (appended a.1 l)) (below_list n)
      (λ l. below_self (done (appended a.1 l))))))
      (below_self (done empty))

  pub below_all : Below (all_of test p) (all_of test q)
  unfolding all_of
  below_all ts = below_list (length ts) ts

pub record AllBelow (r s : Readers) : Type 0 where
  pub space : Below r.space s.space
  pub star : Below r.star s.star
  pub type' : Below r.type' s.type'
  pub declare : Below r.declare s.declare
  pub declarator : Below r.declarator s.declarator
  pub initializers : Below r.initializers s.initializers
  pub block : Below r.block s.block
  pub simple : Below r.simple s.simple
  pub statement : Below r.statement s.statement
  pub expr : Below r.expr s.expr
  pub assign : Below r.assign s.assign
  pub cond' : Below r.cond' s.cond'
  pub level : (k : ℕ) → Below (r.level k) (s.level k)
  pub cast : Below r.cast s.cast
  pub unary : Below r.unary s.unary

module _ (r s : Readers) (b : AllBelow r s) where
  below_front : (a : List Spot) → Below (front_of r a) (front_of s a)
  unfolding front_of
  below_front a = search (below_then, below_self, b.space) depth 14

  below_behind : (a : List Spot) → Below (behind_of r a) (behind_of s a)
  unfolding behind_of
  below_behind a = search (below_choose, below_then, below_self, b.space) depth 14

  below_type : Below (type_of r) (type_of s)
  unfolding type_of
  below_type = search (below_choose, below_then, below_self, below_front, below_behind)

  below_dimension : Below (dimension_of r) (dimension_of s)
  unfolding dimension_of
  below_dimension = search (below_choose, below_then, below_self, b.cond') depth 14

  below_init : Below (init_of r) (init_of s)
  unfolding init_of
  below_init = search (below_choose, b.initializers, b.assign)

  pub below_declared : (ss : Forest) (m : Spot) → Below (declared r ss m) (declared s ss m)
  unfolding declared
  below_declared ss m = search (below_choose, below_then, below_self, below_all, below_dimension, below_init) depth 14

  below_declarator : Below (declarator_of r) (declarator_of s)
  unfolding declarator_of
  below_declarator = search (below_choose, below_then, below_self, below_declared, b.star) depth 14

  pub below_declare_rest : (t d : Syntax) → Below (declare_rest r t d) (declare_rest s t d)
  unfolding declare_rest
  below_declare_rest t d = search (below_then, below_self, below_all, b.declarator) depth 14

  below_declare : Below (declare_of r) (declare_of s)
  unfolding declare_of
  below_declare = search (below_then, below_declare_rest, b.type', b.declarator) depth 14

  below_element : Below (element_of r) (element_of s)
  unfolding element_of
  below_element = search (below_choose, below_then, below_self, b.assign) depth 14

  below_initializers : Below (initializers_of r) (initializers_of s)
  unfolding initializers_of
  below_initializers = search (below_then, below_self, below_all, below_element, b.assign) depth 14

  below_line : Below (line_of r) (line_of s)
  unfolding line_of
  below_line = search (below_choose, b.declare, b.statement)

  below_block : Below (block_of r) (block_of s)
  unfolding block_of
  below_block = search (below_then, below_self, below_all, below_line) depth 14

  below_simple : Below (simple_of r) (simple_of s)
  unfolding simple_of
  below_simple = search (below_choose, below_then, below_self, b.expr) depth 14

  below_if : Below (if_of r) (if_of s)
  unfolding if_of
  below_if = search (below_choose, below_then, below_self, b.expr, b.statement) depth 14

  below_while : Below (while_of r) (while_of s)
  unfolding while_of
  below_while = search (below_then, below_self, b.expr, b.statement) depth 14

  below_do : Below (do_of r) (do_of s)
  unfolding do_of
  below_do = search (below_then, below_self, b.expr, b.statement) depth 16

  below_start : Below (start_of r) (start_of s)
  unfolding start_of
  below_start = search (below_choose, b.declare, b.simple)

  below_for : Below (for_of r) (for_of s)
  unfolding for_of
  below_for = search (below_choose, below_then, below_self, below_start, b.expr, b.statement) depth 18

  below_switch : Below (switch_of r) (switch_of s)
  unfolding switch_of
  below_switch = search (below_then, below_self, below_all, b.expr, b.statement) depth 18

  below_case : Below (case_of r) (case_of s)
  unfolding case_of
  below_case = search (below_then, below_self, b.cond', b.statement) depth 14

  below_default : Below (default_of r) (default_of s)
  unfolding default_of
  below_default = search (below_then, below_self, b.statement) depth 14

  below_leave : (k : Terminal) (f : Form) → Below (leave_of r k f) (leave_of s k f)
  unfolding leave_of
  below_leave k f = search (below_then, below_self) depth 14

  below_return : Below (return_of r) (return_of s)
  unfolding return_of
  below_return = search (below_choose, below_then, below_self, b.expr) depth 14

  below_leaving : Below (leaving r) (leaving s)
  unfolding leaving
  below_leaving = search (below_choose, below_leave, below_return, below_simple) depth 14

  below_labelled : Below (labelled r) (labelled s)
  unfolding labelled
  below_labelled = search (below_choose, below_switch, below_case, below_default, below_leaving) depth 14

  below_statement : Below (statement_of r) (statement_of s)
  unfolding statement_of
  below_statement =
      search (below_choose, below_block, below_if, below_while, below_do, below_for, below_labelled) depth 14

module _ (n m : ℕ) (d : n ≤ m) (r s : Readers) (b : AllBelow r s) where
  below_call : (i o : Spot) → Below (call_of n r i o) (call_of m s i o)
  unfolding call_of
  below_call i o = search (below_choose, below_then, below_self, below_all, b.assign) depth 14

  below_primary : Below (primary_of n r) (primary_of m s)
  unfolding primary_of
  below_primary = search (below_choose, below_then, below_self, below_call) depth 14

  below_postfix_step : (l : Syntax) → Below (postfix_step n r l) (postfix_step m s l)
  unfolding postfix_step
  below_postfix_step l = search (below_choose, below_then, below_self, b.expr) depth 14

  below_postfixed : (l : Syntax) → Below (postfixed n r l) (postfixed m s l)
  unfolding postfixed
  below_postfixed l = below_chain n m d postfixes (postfix_step n r) (postfix_step m s) below_postfix_step n m d l

  below_paren : (o : Spot) → Below (paren_of n r o) (paren_of m s o)
  unfolding paren_of
  below_paren o = search (below_then, below_self, below_postfixed, b.expr) depth 14

  below_opened : (o : Spot) → Below (opened n r o) (opened m s o)
  unfolding opened
  below_opened o = search (below_choose, below_then, below_self, below_paren, b.type', b.cast) depth 14

  below_sizeof : Below (sizeof_of n r) (sizeof_of m s)
  unfolding sizeof_of
  below_sizeof = search (below_then, below_self, b.type') depth 14

  below_operand : Below (operand_of n r) (operand_of m s)
  unfolding operand_of
  below_operand = search (
    below_choose,
    below_then,
    below_self,
    below_sizeof,
    below_primary,
    below_postfixed,
    b.unary,
    b.cast,
  ) depth 14

  below_unary : Below (unary_of n r) (unary_of m s)
  unfolding unary_of
  below_unary = search (below_choose, below_then, below_self, below_paren, below_operand) depth 14

  below_cast : Below (cast_of n r) (cast_of m s)
  unfolding cast_of
  below_cast = search (below_choose, below_then, below_self, below_opened, below_operand) depth 14

  below_level_step : (k : ℕ) (l : Syntax) → Below (level_step n r k l) (level_step m s k l)
  unfolding level_step
  below_level_step k l = search (below_then, below_self, b.level)

  below_level : (k : ℕ) → Below (level_of n r k) (level_of m s k)
  unfolding level_of
  below_level zero = below_cast
  below_level (suc k) = below_then (level_of n r k) (level_of m s k) (λ l. chain n (joins k) (level_step n r k) n l)
      (λ l. chain m (joins k) (level_step m s k) m l) (below_level k)
      (λ l. below_chain n m d (joins k) (level_step n r k) (level_step m s k) (below_level_step k) n m d l)

  below_cond_of : Below (cond_of n r) (cond_of m s)
  unfolding cond_of
  below_cond_of = search (below_choose, below_then, below_self, below_level, b.expr, b.cond') depth 14

  below_assign : Below (assign_of n r) (assign_of m s)
  unfolding assign_of
  below_assign = search (below_choose, below_then, below_cond, below_self, below_cond_of, b.assign) depth 14

  below_expr_step : (l : Syntax) → Below (expr_step n r l) (expr_step m s l)
  unfolding expr_step
  below_expr_step l = search (below_then, below_self, b.assign)

  below_expr : Below (expr_of n r) (expr_of m s)
  unfolding expr_of
  below_expr = below_then (assign_of n r) (assign_of m s) (λ l. chain n (is terminals.Comma) (expr_step n r) n l)
      (λ l. chain m (is terminals.Comma) (expr_step m s) m l) below_assign
      (λ l. below_chain n m d (is terminals.Comma) (expr_step n r) (expr_step m s) below_expr_step n m d l)

  pub below_above : AllBelow (next_readers n r) (next_readers m s)
  below_above = record {
    space = below_self space_of;
    star = below_self star_of;
    type' = below_type r s b;
    declare = below_declare r s b;
    declarator = below_declarator r s b;
    initializers = below_initializers r s b;
    block = below_block r s b;
    simple = below_simple r s b;
    statement = below_statement r s b;
    expr = below_expr;
    assign = below_assign;
    cond' = below_cond_of;
    level = below_level;
    cast = below_cast;
    unary = below_unary;
  }

-- ---- items

module _ (r1 r2 r3 s1 s2 s3 : Readers) (a : AllBelow r1 s1) (b : AllBelow r2 s2) (c : AllBelow r3 s3) where
  below_attribute : Below (attribute_of r1 r2 r3) (attribute_of s1 s2 s3)
  unfolding attribute_of
  below_attribute = search (below_then, below_self, a.cond') depth 24

  below_head : Below (head_of r1 r2 r3) (head_of s1 s2 s3)
  unfolding head_of
  below_head = search (below_choose, below_then, below_self, below_attribute) depth 14

  below_param : Below (param_of r1 r2 r3) (param_of s1 s2 s3)
  unfolding param_of
  below_param = search (below_choose, below_then, below_self, a.type', a.star) depth 14

  below_params : Below (params_of r1 r2 r3) (params_of s1 s2 s3)
  unfolding params_of
  below_params = search (below_choose, below_then, below_self, below_all, below_param) depth 14

  below_callable : (heads : Forest) (t : Syntax) (m o : Spot) →
      Below (callable r1 r2 r3 heads t m o) (callable s1 s2 s3 heads t m o)
  unfolding callable
  below_callable heads t m o = search (below_choose, below_then, below_self, below_params, c.block) depth 14

  below_named : (heads : Forest) (t : Syntax) → Below (named r1 r2 r3 heads t) (named s1 s2 s3 heads t)
  unfolding named
  below_named heads t = search (below_then, below_self, below_callable) depth 14

  below_result : Below (result_of r1 r2 r3) (result_of s1 s2 s3)
  unfolding result_of
  below_result = search (below_choose, below_then, below_self, b.type') depth 14

  below_typed : (t : Syntax) → Below (typed r1 r2 r3 t) (typed s1 s2 s3 t)
  unfolding typed
  below_typed t = search (
    below_choose,
    below_then,
    below_self,
    below_callable,
    below_declared r2 s2 b,
    below_declare_rest r3 s3 c,
    c.declarator,
  ) depth 14

  below_headed : Below (headed r1 r2 r3) (headed s1 s2 s3)
  unfolding headed
  below_headed = search (below_then, below_self, below_all, below_head, below_result, below_named) depth 14

  below_item : Below (item_of r1 r2 r3) (item_of s1 s2 s3)
  unfolding item_of
  below_item = search (below_choose, below_then, below_self, below_headed, below_named, below_typed, b.type') depth 14

  pub below_items : Below (all_of (λ j. true) (each (item_of r1 r2 r3))) (all_of (λ j. true) (each (item_of s1 s2 s3)))
  below_items = search (below_then, below_self, below_all, below_item) depth 14
